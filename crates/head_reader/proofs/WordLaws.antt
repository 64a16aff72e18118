-- The words of a head: a request line and a field line, in both directions.
use Rattle.std.proofs.Common.{◌≡◌, ℕ, zero, suc, ◌+◌, ◌<◌, ◌≤◌, Bool, true, false, ◌&&◌, ◌||◌, List, [], ◌∷◌, ◌++◌, length, drop, refl, sym, ap, ◌∙◌, subst, arith, eqb, append_assoc, length-append, Some, option_map, inl, inr, get_or, codes}
use Rattle.std.specs.Prelude.{IsUtf8, bytes_eq}
use Rattle.std.specs.List.{slice_split, join_with_byte, All, list_any, list_all, position_or_len, before_first, after_first}
use Rattle.std.proofs.lemmas.Str.{IsUtf8-from_is_utf8, is_utf8-from_IsUtf8}
use Rattle.std.proofs.lemmas.Slice.Eq.{bytes_eq-Decides}
use Rattle.std.proofs.lemmas.List.{take_at, drop_at}
use Rattle.std.proofs.lemmas.List.Elements.{All-head, All-tail, All-weaker}
use Rattle.std.proofs.lemmas.List.Sums.{AllPass-from_list_all, list_all-from_AllPass, split_at_first, passes_at_first}
use Rattle.std.proofs.lemmas.List.Splits.{slice_split_at, join_with_byte-slice_split}
use Rattle.std.proofs.lemmas.Bool.{cond-true, cases_Bool, eqb-true, and_parts, and_from, or_left, or_right, ltb-true, lt-ltb, false≢true}
use Rattle.httparse.specs.Grammar.{AllPass, IsToken, is_token, is_token_byte, is_uri_byte, is_value_byte, trim_ows, print_version}
use Rattle.httparse.proofs.PieceLemmas.{space_ends_token, colon_ends_token}
use Rattle.host_base.specs.declared.fields.Field.{Field}
use Rattle.host_base.specs.declared.request.Version.{Version}
use Rattle.host_base.proofs.SplitLaws.{chosen}
use Rattle.head_reader.specs.RequestHead.{is_space, is_colon, version_of, is_target, RequestLine, request_line_of_words, request_line_of, field_of}
use Rattle.head_reader.specs.HeadLaws.{version_named}
use Rattle.head_lines.proofs.FrontLaws.{map_some}

-- ---- tests and facts

pub token_from_test : (w : List ℕ) → is_token w ≡ true → IsToken w
token_from_test w t =
    let both = and_parts _ _ t in
    (ltb-true 0 (length w) both.0, AllPass-from_list_all is_token_byte w both.1)

pub test_from_token : (w : List ℕ) → IsToken w → is_token w ≡ true
test_from_token w t = and_from _ _ (lt-ltb 0 (length w) t.0) (list_all-from_AllPass is_token_byte w t.1)

pub target_from_test : (w : List ℕ) → is_target w ≡ true → ((0 < length w) × AllPass is_uri_byte w) × IsUtf8 w
target_from_test w t =
    let both = and_parts _ _ t in
    let first = and_parts _ _ both.0 in
    ((ltb-true 0 (length w) first.0, AllPass-from_list_all is_uri_byte w first.1), IsUtf8-from_is_utf8 w both.1)

pub test_from_target : (w : List ℕ) → (0 < length w) × AllPass is_uri_byte w → IsUtf8 w → is_target w ≡ true
test_from_target w t u =
    and_from _ _ (and_from _ _ (lt-ltb 0 (length w) t.0) (list_all-from_AllPass is_uri_byte w t.1)) (is_utf8-from_IsUtf8 w u)

-- a run of bytes that pass a test has no byte that fails it
pub none_is : (test : ℕ → Bool) (stop : ℕ) → test stop ≡ false → (w : List ℕ) → AllPass test w → All (λ b. eqb b stop ≡ false) w
none_is test stop fails w pass =
    All-weaker (λ b. test b ≡ true) (λ b. eqb b stop ≡ false) (λ b passes. differs b passes (eqb b stop) refl) w pass
  where
    differs : (b : ℕ) → test b ≡ true → (t : Bool) → eqb b stop ≡ t → t ≡ false
    differs b passes true same = absurd (false≢true (sym fails ∙ ap test (sym (eqb-true b stop same)) ∙ passes))
    differs b passes false same = refl

-- ---- the version

pub version_again : (minor : ℕ) → minor ≤ 1 → version_of (print_version minor) ≡ Some (version_named minor)
version_again zero le = refl
version_again (suc zero) le = refl
version_again (suc (suc n)) le = absurd (omega arith)

pub version_back : (word : List ℕ) (v : Version) → version_of word ≡ Some v
    → (minor : ℕ) × (minor ≤ 1) × (word ≡ print_version minor) × (version_named minor ≡ v)
version_back word v e =
    elim (chosen (bytes_eq word (codes "HTTP/1.1")) _ _ _ e) [
      | inl one ↦ (1, omega arith, (bytes_eq-Decides word (codes "HTTP/1.1")).0 one.0, cc)
      | inr other ↦
          elim (chosen (bytes_eq word (codes "HTTP/1.0")) _ _ _ other.1) [
            | inl old ↦ (0, omega arith, (bytes_eq-Decides word (codes "HTTP/1.0")).0 old.0, cc)
            | inr none ↦ absurd (cc)
          ]
    ]

version_word : (minor : ℕ) → minor ≤ 1 → slice_split is_space (print_version minor) ≡ print_version minor ∷ []
version_word zero le = refl
version_word (suc zero) le = refl
version_word (suc (suc n)) le = absurd (omega arith)

-- ---- the request line

abbrev pub line_with : List ℕ → List ℕ → Version → RequestLine
line_with m t v = record { method = m; target = t; version = v }

words_again : (m t v : List ℕ) (version : Version) → (is_token m && is_target t) ≡ true → version_of v ≡ Some version
    → request_line_of_words (m ∷ t ∷ v ∷ []) ≡ Some (line_with m t version)
unfolding request_line_of_words
words_again m t v version good e = cond-true _ _ _ good ∙ ap (option_map (line_with m t)) e

-- the words of a request line
pub request_line_words : (method target : List ℕ) (minor : ℕ) → AllPass is_token_byte method → AllPass is_uri_byte target → minor ≤ 1
    → slice_split is_space (method ++ 32 ∷ (target ++ 32 ∷ print_version minor)) ≡ method ∷ target ∷ print_version minor ∷ []
request_line_words method target minor m t le =
    slice_split_at is_space method 32 (target ++ 32 ∷ print_version minor) (none_is is_token_byte 32 space_ends_token method m) refl
    ∙ ap (λ (ws : List (List ℕ)). method ∷ ws)
    (slice_split_at is_space target 32 (print_version minor) (none_is is_uri_byte 32 refl target t) refl
    ∙ ap (λ (ws : List (List ℕ)). target ∷ ws) (version_word minor le))

pub request_line_again : (method target : List ℕ) (minor : ℕ) → IsToken method → (0 < length target) × AllPass is_uri_byte target → IsUtf8 target → minor ≤ 1
    → request_line_of (method ++ 32 ∷ (target ++ 32 ∷ print_version minor))
    ≡ Some (record { method = method; target = target; version = version_named minor })
request_line_again method target minor m t u le =
    ap request_line_of_words (request_line_words method target minor m.1 t.1 le)
    ∙ words_again method target (print_version minor) (version_named minor)
    (and_from _ _ (test_from_token method m) (test_from_target target t u)) (version_again minor le)

words_back : (words : List (List ℕ)) (s : RequestLine) → request_line_of_words words ≡ Some s
    → (v : List ℕ) × (words ≡ s.method ∷ s.target ∷ v ∷ []) × (is_token s.method ≡ true) × (is_target s.target ≡ true)
    × (version_of v ≡ Some s.version)
unfolding request_line_of_words
words_back [] s e = absurd (cc)
words_back (a ∷ []) s e = absurd (cc)
words_back (a ∷ b ∷ []) s e = absurd (cc)
words_back (a ∷ b ∷ c ∷ []) s e =
    elim (chosen (is_token a && is_target b) _ _ _ e) [
      | inl good ↦
          let back = map_some (λ v. line_with a b v) (version_of c) s good.1 in
          let both = and_parts _ _ good.0 in (
            c,
            (λ i. (back.2 i).method ∷ (back.2 i).target ∷ c ∷ []),
            ap (λ (k : RequestLine). is_token k.method) (sym back.2) ∙ both.0,
            ap (λ (k : RequestLine). is_target k.target) (sym back.2) ∙ both.1,
            back.1 ∙ ap (λ (k : RequestLine). Some k.version) back.2,
          )
      | inr bad ↦ absurd (cc)
    ]
words_back (a ∷ b ∷ c ∷ d ∷ ws) s e = absurd (cc)

pub request_line_back : (line : List ℕ) (s : RequestLine) → request_line_of line ≡ Some s
    → (minor : ℕ) × (minor ≤ 1) × (line ≡ s.method ++ 32 ∷ (s.target ++ 32 ∷ print_version minor)) × (version_named minor ≡ s.version)
    × IsToken s.method × ((0 < length s.target) × AllPass is_uri_byte s.target) × IsUtf8 s.target
request_line_back line s e =
    let words = words_back (slice_split is_space line) s e in
    let version = version_back words.0 s.version words.4 in (
      version.0,
      version.1,
      sym (join_with_byte-slice_split 32 line) ∙ ap (join_with_byte 32) words.1
          ∙ ap (λ (w : List ℕ). s.method ++ 32 ∷ (s.target ++ 32 ∷ w)) version.2,
      version.3,
      token_from_test s.method words.2,
      (target_from_test s.target words.3).0,
      (target_from_test s.target words.3).1,
    )

-- ---- a field line

pub position-at : (p : ℕ → Bool) (xs : List ℕ) (y : ℕ) (ys : List ℕ) → All (λ x. p x ≡ false) xs → p y ≡ true
    → position_or_len p (xs ++ y ∷ ys) ≡ length xs
position-at p [] y ys all here = rw here
position-at p (x ∷ xs) y ys all here =
    let first = All-head (λ b. p b ≡ false) x xs all in
    let later = position-at p xs y ys (All-tail (λ b. p b ≡ false) x xs all) here in
    rw first (omega arith)

pub before-at : (p : ℕ → Bool) (xs : List ℕ) (y : ℕ) (ys : List ℕ) → All (λ x. p x ≡ false) xs → p y ≡ true
    → before_first p (xs ++ y ∷ ys) ≡ xs
before-at p xs y ys all here =
    take_at xs (y ∷ ys) (position_or_len p (xs ++ y ∷ ys)) (sym (position-at p xs y ys all here))

pub after-at : (p : ℕ → Bool) (xs : List ℕ) (y : ℕ) (ys : List ℕ) → All (λ x. p x ≡ false) xs → p y ≡ true
    → after_first p (xs ++ y ∷ ys) ≡ ys
after-at p xs y ys all here =
    let n = position_or_len p (xs ++ y ∷ ys) in
    ap (drop (n + 1)) (sym (append_assoc xs (y ∷ []) ys))
    ∙ drop_at (xs ++ y ∷ []) ys (n + 1) (omega (arith, position-at p xs y ys all here, length-append xs (y ∷ [])))

pub any-at : (p : ℕ → Bool) (xs : List ℕ) (y : ℕ) (ys : List ℕ) → p y ≡ true → list_any p (xs ++ y ∷ ys) ≡ true
any-at p [] y ys here = or_left _ _ here
any-at p (x ∷ xs) y ys here = or_right _ _ (any-at p xs y ys here)

pub any_stands : (p : ℕ → Bool) (xs : List ℕ) → list_any p xs ≡ true → position_or_len p xs < length xs
any_stands p [] e = absurd (cc)
any_stands p (x ∷ xs) e =
    elim (cases_Bool (p x)) [
      | inl here ↦ rw here (omega arith)
      | inr other ↦ let later = any_stands p xs (sym (ap (λ (b : Bool). b || list_any p xs) other) ∙ e) in rw other (omega arith)
    ]

field_at : (line name raw : List ℕ) → list_any is_colon line ≡ true → before_first is_colon line ≡ name → after_first is_colon line ≡ raw
    → is_token name ≡ true → list_all is_value_byte raw ≡ true
    → field_of line ≡ Some (record { name = name; value = trim_ows raw })
unfolding field_of
field_at line name raw has before after token value =
    cond-true _ _ _ (and_from _ _ (and_from _ _ has (ap is_token before ∙ token)) (ap (list_all is_value_byte) after ∙ value))
    ∙ (λ i. Some (record { name = before i; value = trim_ows (after i) }))

pub field_again : (name raw : List ℕ) → IsToken name → AllPass is_value_byte raw
    → field_of (name ++ 58 ∷ raw) ≡ Some (record { name = name; value = trim_ows raw })
field_again name raw n r =
    let no_colon = none_is is_token_byte 58 colon_ends_token name n.1 in
    field_at (name ++ 58 ∷ raw) name raw (any-at is_colon name 58 raw refl)
    (before-at is_colon name 58 raw no_colon refl) (after-at is_colon name 58 raw no_colon refl)
    (test_from_token name n) (list_all-from_AllPass is_value_byte raw r)

pub field_back : (line : List ℕ) (f : Field) → field_of line ≡ Some f
    → (raw : List ℕ) × (line ≡ f.name ++ 58 ∷ raw) × IsToken f.name × AllPass is_value_byte raw × (f.value ≡ trim_ows raw)
unfolding field_of
field_back line f e =
    elim (chosen (list_any is_colon line && is_token (before_first is_colon line) && list_all is_value_byte (after_first is_colon line)) _ _ _ e) [
      | inl good ↦
          let outer = and_parts _ _ good.0 in
          let inner = and_parts _ _ outer.0 in
          let stands = any_stands is_colon line inner.0 in
          let byte : get_or line (position_or_len is_colon line) 0 ≡ 58 = eqb-true _ _ (passes_at_first is_colon line 0 stands) in
          let name : before_first is_colon line ≡ f.name = cc in
          let value : trim_ows (after_first is_colon line) ≡ f.value = cc in (
            after_first is_colon line,
            split_at_first is_colon line 0 stands ∙ (λ i. name i ++ byte i ∷ after_first is_colon line),
            subst IsToken name (token_from_test _ inner.1),
            AllPass-from_list_all is_value_byte _ outer.1,
            sym value,
          )
      | inr bad ↦ absurd (cc)
    ]
