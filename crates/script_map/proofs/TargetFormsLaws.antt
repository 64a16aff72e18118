-- The forms of a target: a path and a query, and an authority before them.
use Rattle.std.proofs.Common.{◌≡◌, ℕ, zero, suc, ◌+◌, ◌-◌, ◌<◌, Bool, true, false, ◌||◌, List, [], ◌∷◌, ◌++◌, drop, length, get_or, slice_range, Option, Some, None, refl, sym, ap, ◌∙◌, arith, eqb, ltb, inl, inr, codes, append-nil, length-append}
use Rattle.std.specs.Prelude.{option_map}
use Rattle.std.specs.Char.{is_ascii_digit, to_ascii_lowercase}
use Rattle.std.specs.List.{before_first, list_any, list_all, position, position_or_len}
use Rattle.std.specs.Str.{str_eq_ignore_ascii_case, str_to_ascii_lowercase}
use Rattle.std.proofs.lemmas.Bool.{cases_Bool, and_parts, cond-false, cases_lt, eqb-true, false≢true, ltb-true, le-ltb}
use Rattle.std.proofs.lemmas.List.{take_all, take_at, length-map}
use Rattle.std.proofs.lemmas.List.Elements.{All-from_get_or}
use Rattle.std.proofs.lemmas.List.Folds.{list_any_none, list_any-append}
use Rattle.std.proofs.lemmas.List.Sums.{passes_at_first, split_at_first}
use Rattle.std.proofs.lemmas.Slice.Eq.{bytes_eq-Decides}
use Rattle.script_map.specs.Authority.{is_address_byte, is_bracket_end, is_ip_literal, is_name_byte, is_registered_name, is_host, is_port_mark, is_port_part}
use Rattle.script_map.specs.AuthorityRules.{IsAuthority}
use Rattle.script_map.specs.Bytes.{begins_with}
use Rattle.script_map.specs.DotSegments.{IsRooted}
use Rattle.script_map.specs.Escapes.{has_whole_escapes}
use Rattle.script_map.specs.Mapping.{is_at_edge}
use Rattle.script_map.specs.TargetRules.{query_text}
use Rattle.script_map.specs.Targets.{is_question, is_authority_end, path_or_root, query_of}
use Rattle.script_map.proofs.AuthorityLaws.{other_byte, first_is, literal_middle}
use Rattle.script_map.proofs.ListLaws.{begins_passing, front_len, position_at, position_past, position_is}

-- ---- a path and a query

query_edge : (query : Option (List ℕ)) → begins_passing is_question (query_text query) ≡ true
query_edge None = refl
query_edge (Some query) = refl

-- the path before the "?"
pub path_before : (path : List ℕ) (query : Option (List ℕ)) → list_any is_question path ≡ false → before_first is_question (path ++ query_text query) ≡ path
path_before path query none = take_at path (query_text query) _ (sym (front_len is_question path (query_text query) none (query_edge query)))

drop_past : (path query : List ℕ) → drop (length path + 1) (path ++ 63 ∷ query) ≡ query
drop_past [] query = refl
drop_past (b ∷ path) query =
    let next : length (b ∷ path) + 1 ≡ suc (length path + 1) = omega arith in
    ap (λ (k : ℕ). drop k (b ∷ (path ++ 63 ∷ query))) next ∙ drop_past path query

-- the query after it
pub query_after : (path : List ℕ) (query : Option (List ℕ)) → list_any is_question path ≡ false → query_of (path ++ query_text query) ≡ query
query_after path None none =
    let len = front_len is_question path [] none refl in
    ap (option_map (λ at. drop (at + 1) (path ++ [])))
    (cond-false (ltb (position_or_len is_question (path ++ [])) (length (path ++ []))) _ None (le-ltb _ _ (omega (arith, len, length-append path []))))
query_after path (Some query) none =
    let len = front_len is_question path (63 ∷ query) none refl in
    ap (option_map (λ at. drop (at + 1) (path ++ 63 ∷ query)))
    (position_is is_question (path ++ 63 ∷ query) (length path) len (omega (arith, length-append path (63 ∷ query))))
    ∙ ap (λ (l : List ℕ). Some l) (drop_past path query)

-- a text is its path and its query
pub path_and_query : (text : List ℕ) → text ≡ before_first is_question text ++ query_text (query_of text)
path_and_query text = by_place (position is_question text) refl
  where
    by_place : (place : Option ℕ) → position is_question text ≡ place
        → text ≡ before_first is_question text ++ query_text (option_map (λ at. drop (at + 1) text) place)
    by_place None none =
        let past = position_past is_question text none in
        sym (append-nil _ ∙ take_all (position_or_len is_question text) text (omega arith))
    by_place (Some n) some =
        let at = position_at is_question text n some in
        let here = passes_at_first is_question text 0 (omega arith) in
        split_at_first is_question text 0 (omega arith)
        ∙ ap (λ (b : ℕ). before_first is_question text ++ b ∷ drop (position_or_len is_question text + 1) text) (eqb-true _ 63 here)
        ∙ ap (λ (k : ℕ). before_first is_question text ++ 63 ∷ drop (k + 1) text) at.1

-- a path that begins with "/" stays
pub rooted_stays : (path : List ℕ) → IsRooted path → path_or_root path ≡ path
rooted_stays [] rooted = absurd (cc)
rooted_stays (b ∷ path) rooted = refl

pub edge_of : (path : List ℕ) → IsRooted (path_or_root path) → is_at_edge path ≡ true
edge_of [] rooted = refl
edge_of (b ∷ path) rooted = let same : b ≡ 47 = cc in ap (λ (x : ℕ). eqb x 47) same

-- ---- an authority has neither "/" nor "?"

none_ends : (test : ℕ → Bool) → test 47 ≡ false → test 63 ≡ false → (xs : List ℕ) → list_all test xs ≡ true → list_any is_authority_end xs ≡ false
none_ends test slash question [] all = refl
none_ends test slash question (b ∷ xs) all =
    let parts = and_parts (test b) (list_all test xs) all in
    (λ i. (other_byte test 47 slash b parts.0 i || other_byte test 63 question b parts.0 i) || list_any is_authority_end xs)
    ∙ none_ends test slash question xs parts.1

address_ends : (b : ℕ) → is_address_byte b ≡ true → is_authority_end b ≡ false
address_ends b passes = λ i. other_byte is_address_byte 47 refl b passes i || other_byte is_address_byte 63 refl b passes i

literal_ends : (host : List ℕ) → is_ip_literal host ≡ true → list_any is_authority_end host ≡ false
literal_ends host literal =
    let three = and_parts _ (list_all is_address_byte (slice_range host 1 (length host - 1))) literal in
    let two = and_parts _ (is_bracket_end (get_or host (length host - 1) 0)) three.0 in
    let one = and_parts (ltb 2 (length host)) (begins_with 91 host) two.0 in
    let long = ltb-true 2 (length host) one.0 in
    list_any_none is_authority_end host (All-from_get_or (λ b. is_authority_end b ≡ false) host 0 (λ k below. at k below one.1 (eqb-true _ 93 two.1) three.1 long))
  where
    at : (k : ℕ) → k < length host → begins_with 91 host ≡ true → get_or host (length host - 1) 0 ≡ 93
        → list_all is_address_byte (slice_range host 1 (length host - 1)) ≡ true → 2 < length host → is_authority_end (get_or host k 0) ≡ false
    at zero below begins end middle long = ap is_authority_end (first_is host begins)
    at (suc k) below begins end middle long =
        elim (cases_lt (suc k) (length host - 1)) [
          | inl before ↦ address_ends (get_or host (suc k) 0) (literal_middle host (suc k) middle (omega arith) before)
          | inr after ↦
              let last : suc k ≡ length host - 1 = omega arith in
              ap is_authority_end (ap (λ (n : ℕ). get_or host n 0) last ∙ end)
        ]

host_ends : (host : List ℕ) → is_host host ≡ true → list_any is_authority_end host ≡ false
host_ends host named =
    elim (cases_Bool (is_ip_literal host)) [
      | inl literal ↦ literal_ends host literal
      | inr other ↦
          let name : is_registered_name host ≡ true = sym (ap (λ (b : Bool). b || is_registered_name host) other) ∙ named in
          none_ends is_name_byte refl refl host (and_parts (list_all is_name_byte host) (has_whole_escapes host) name).0
    ]

port_ends : (port : List ℕ) → is_port_part port ≡ true → list_any is_authority_end port ≡ false
port_ends [] digits = refl
port_ends (b ∷ port) digits =
    let parts = and_parts (is_port_mark b) (list_all is_ascii_digit port) digits in
    (λ i. is_authority_end (eqb-true b 58 parts.0 i) || list_any is_authority_end port) ∙ none_ends is_ascii_digit refl refl port parts.1

pub authority_ends : (authority host : List ℕ) → IsAuthority authority host → list_any is_authority_end authority ≡ false
authority_ends authority host is =
    ap (list_any is_authority_end) is.whole ∙ list_any-append is_authority_end host is.port
    ∙ (λ i. host_ends host is.named i || port_ends is.port is.digits i)

-- ---- a scheme in any case

same_case : (scheme : List ℕ) → str_eq_ignore_ascii_case scheme (codes "http://") ≡ true → str_to_ascii_lowercase scheme ≡ str_to_ascii_lowercase (codes "http://")
same_case scheme is = (bytes_eq-Decides (str_to_ascii_lowercase scheme) (str_to_ascii_lowercase (codes "http://"))).0 is

pub scheme_len : (scheme : List ℕ) → str_eq_ignore_ascii_case scheme (codes "http://") ≡ true → length scheme ≡ 7
scheme_len scheme is = sym (length-map scheme to_ascii_lowercase) ∙ ap length (same_case scheme is)

-- it begins with no slash
pub scheme_begins : (scheme rest : List ℕ) → str_eq_ignore_ascii_case scheme (codes "http://") ≡ true → begins_with 47 (scheme ++ rest) ≡ false
scheme_begins [] rest is = absurd (false≢true is)
scheme_begins (b ∷ scheme) rest is =
    let first : to_ascii_lowercase b ≡ 104 = ap (λ (l : List ℕ). get_or l 0 0) (same_case (b ∷ scheme) is) in
    elim (cases_Bool (eqb b 47)) [
      | inl slash ↦
          let low : to_ascii_lowercase b ≡ 47 = ap to_ascii_lowercase (eqb-true b 47 slash) in
          absurd (omega arith)
      | inr other ↦ other
    ]

-- ---- what follows an authority

pub after_edge : (path : List ℕ) (query : Option (List ℕ)) → is_at_edge path ≡ true → begins_passing is_authority_end (path ++ query_text query) ≡ true
after_edge [] None edge = refl
after_edge [] (Some query) edge = refl
after_edge (b ∷ path) query edge = ap (λ (t : Bool). t || eqb b 63) edge
