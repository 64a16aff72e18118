-- What an authority's parts say of it.
use Rattle.std.proofs.Common.{◌≡◌, ℕ, zero, suc, ◌+◌, ◌-◌, ◌<◌, ◌≤◌, Bool, true, false, not, ◌&&◌, ◌||◌, List, [], ◌∷◌, ◌++◌, take, drop, length, get_or, slice_range, min, Option, Some, None, refl, sym, ap, ◌∙◌, cond, eqb, ltb, arith, inl, inr, length-append, length-take, length-drop, get_or-take, get_or-drop, take-append-drop}
use Rattle.std.specs.Char.{is_ascii_digit}
use Rattle.std.specs.List.{list_all, position_or_len}
use Rattle.std.proofs.lemmas.List.{take_min, drop_min, take_at, drop_at, get_or_append_left}
use Rattle.std.proofs.lemmas.List.Sums.{position_or_len_is}
use Rattle.std.proofs.lemmas.Bool.{cond-true, cond-false, cases_Bool, and_parts, and_from, eqb-true, ltb-true, false≢true}
use Rattle.host_base.proofs.SplitLaws.{chosen}
use Rattle.script_map.specs.Authority.{is_port_mark, is_bracket_end, is_address_byte, is_ip_literal, is_name_byte, is_registered_name, is_host, is_port_part, host_len, host_of_authority}
use Rattle.script_map.specs.AuthorityRules.{IsAuthority, AuthoritiesHaveOneHost}
use Rattle.script_map.specs.Bytes.{begins_with}
use Rattle.script_map.specs.Escapes.{has_whole_escapes}

-- the host that the two tests leave
abbrev pub judged : List ℕ → Bool → Bool → Option (List ℕ)
judged host first second = cond (first && second) (Some host) None

pub authority_is : (value host port : List ℕ) (first second : Bool)
    → host ≡ take (min (host_len value) (length value)) value → port ≡ drop (min (host_len value) (length value)) value
    → is_host host ≡ first → is_port_part port ≡ second
    → judged host first second ≡ host_of_authority value
unfolding host_of_authority
authority_is value host port first second front back one two =
    let taken = front ∙ take_min (host_len value) value in
    let rest = back ∙ drop_min (host_len value) value in
    let a = sym one ∙ ap is_host taken in
    let b = sym two ∙ ap is_port_part rest in
    λ i. judged (taken i) (a i) (b i)

-- ---- an authority is a host and a port

taken_apart : (value host : List ℕ) → host_of_authority value ≡ Some host → IsAuthority value host
unfolding host_of_authority
taken_apart value host is =
    elim (chosen (is_host (take (host_len value) value) && is_port_part (drop (host_len value) value)) _ _ _ is) [
      | inr other ↦ absurd (cc)
      | inl good ↦
          let parts = and_parts (is_host (take (host_len value) value)) (is_port_part (drop (host_len value) value)) good.0 in
          let same : take (host_len value) value ≡ host = cc in
          record {
            port = drop (host_len value) value;
            whole = sym (take-append-drop (host_len value) value) ∙ ap (λ (l : List ℕ). l ++ drop (host_len value) value) same;
            named = ap is_host (sym same) ∙ parts.0;
            digits = parts.1;
          }
    ]

put_together : (host port : List ℕ) → is_host host ≡ true → is_port_part port ≡ true → host_len (host ++ port) ≡ length host
    → host_of_authority (host ++ port) ≡ Some host
unfolding host_of_authority
put_together host port named digits len =
    let front : take (host_len (host ++ port)) (host ++ port) ≡ host = take_at host port _ (sym len) in
    let back : drop (host_len (host ++ port)) (host ++ port) ≡ port = drop_at host port _ (sym len) in
    let good : (is_host (take (host_len (host ++ port)) (host ++ port)) && is_port_part (drop (host_len (host ++ port)) (host ++ port))) ≡ true =
    and_from _ _ (ap is_host front ∙ named) (ap is_port_part back ∙ digits) in
    cond-true _ _ _ good ∙ ap (λ (l : List ℕ). Some l) front

-- a byte that fails a test is none that passes it
pub other_byte : (test : ℕ → Bool) (stop : ℕ) → test stop ≡ false → (b : ℕ) → test b ≡ true → eqb b stop ≡ false
other_byte test stop fails b passes = differs (eqb b stop) refl
  where
    differs : (t : Bool) → eqb b stop ≡ t → t ≡ false
    differs true same = absurd (false≢true (sym fails ∙ ap test (sym (eqb-true b stop same)) ∙ passes))
    differs false same = refl

-- a registered name has no ":" and doesn't begin with "["
no_byte : (stop : ℕ) → is_name_byte stop ≡ false → (b : ℕ) → is_name_byte b ≡ true → eqb b stop ≡ false
no_byte stop fails b passes = other_byte is_name_byte stop fails b passes

name_len : (name port : List ℕ) → list_all is_name_byte name ≡ true → is_port_part port ≡ true → position_or_len is_port_mark (name ++ port) ≡ length name
name_len [] [] named digits = refl
name_len [] (b ∷ port) named digits =
    let parts = and_parts (is_port_mark b) (list_all is_ascii_digit port) digits in
    ap (λ (t : Bool). cond (not t) (1 + position_or_len is_port_mark port) 0) parts.0
name_len (b ∷ name) port named digits =
    let parts = and_parts (is_name_byte b) (list_all is_name_byte name) named in
    let later = name_len name port parts.1 digits in
    ap (λ (t : Bool). cond (not t) (1 + position_or_len is_port_mark (name ++ port)) 0) (no_byte 58 refl b parts.0) ∙ omega arith

name_begins : (name port : List ℕ) → list_all is_name_byte name ≡ true → is_port_part port ≡ true → begins_with 91 (name ++ port) ≡ false
name_begins [] [] named digits = refl
name_begins [] (b ∷ port) named digits =
    let parts = and_parts (is_port_mark b) (list_all is_ascii_digit port) digits in
    ap (λ (x : ℕ). eqb x 91) (eqb-true b 58 parts.0)
name_begins (b ∷ name) port named digits = no_byte 91 refl b (and_parts (is_name_byte b) (list_all is_name_byte name) named).0

len_of_name : (name port : List ℕ) → list_all is_name_byte name ≡ true → is_port_part port ≡ true → host_len (name ++ port) ≡ length name
len_of_name name port named digits =
    cond-false (begins_with 91 (name ++ port)) _ _ (name_begins name port named digits) ∙ name_len name port named digits

-- an IP literal has no "]" before its end
no_end : (b : ℕ) → is_address_byte b ≡ true → eqb b 93 ≡ false
no_end b passes = differs (eqb b 93) refl
  where
    differs : (t : Bool) → eqb b 93 ≡ t → t ≡ false
    differs true same = absurd (false≢true (ap is_address_byte (sym (eqb-true b 93 same)) ∙ passes))
    differs false same = refl

inner_byte : (bytes : List ℕ) (k : ℕ) → list_all is_address_byte bytes ≡ true → k < length bytes → is_address_byte (get_or bytes k 0) ≡ true
inner_byte [] k all below = absurd (omega arith)
inner_byte (b ∷ bytes) zero all below = (and_parts (is_address_byte b) (list_all is_address_byte bytes) all).0
inner_byte (b ∷ bytes) (suc k) all below = inner_byte bytes k (and_parts (is_address_byte b) (list_all is_address_byte bytes) all).1 (omega arith)

begins_again : (host port : List ℕ) → begins_with 91 host ≡ true → begins_with 91 (host ++ port) ≡ true
begins_again [] port is = absurd (cc)
begins_again (b ∷ host) port is = is

pub first_is : (host : List ℕ) → begins_with 91 host ≡ true → get_or host 0 0 ≡ 91
first_is [] is = absurd (cc)
first_is (b ∷ host) is = eqb-true b 91 is

literal_end : (host port : List ℕ) (n : ℕ) → length host ≡ n + 1 → begins_with 91 host ≡ true → get_or host n 0 ≡ 93
    → ((k : ℕ) → 1 ≤ k → k < n → is_address_byte (get_or host k 0) ≡ true) → position_or_len is_bracket_end (host ++ port) ≡ n
literal_end host port n len begins end inner =
    position_or_len_is is_bracket_end (host ++ port) n 0 (omega (arith, length-append host port))
    (λ k below. ap is_bracket_end (get_or_append_left host port 0 k (omega arith)) ∙ fails k below)
    (λ inside. ap is_bracket_end (get_or_append_left host port 0 n (omega arith) ∙ end))
  where
    fails : (k : ℕ) → k < n → is_bracket_end (get_or host k 0) ≡ false
    fails zero below = ap is_bracket_end (first_is host begins)
    fails (suc k) below = no_end (get_or host (suc k) 0) (inner (suc k) (omega arith) below)

pub literal_middle : (host : List ℕ) (k : ℕ) → list_all is_address_byte (slice_range host 1 (length host - 1)) ≡ true → 1 ≤ k → k < length host - 1
    → is_address_byte (get_or host k 0) ≡ true
literal_middle host k all low high =
    let place : 1 + (k - 1) ≡ k = omega arith in
    ap is_address_byte (ap (λ (i : ℕ). get_or host i 0) (sym place) ∙ sym (get_or-drop 1 host (k - 1) 0)
    ∙ sym (get_or-take (length host - 1 - 1) (drop 1 host) (k - 1) 0 (omega arith)))
    ∙ inner_byte (slice_range host 1 (length host - 1)) (k - 1) all
    (omega (arith, length-take (length host - 1 - 1) (drop 1 host), length-drop 1 host))

len_of_literal : (host port : List ℕ) → is_ip_literal host ≡ true → host_len (host ++ port) ≡ length host
len_of_literal host port literal =
    let three = and_parts _ (list_all is_address_byte (slice_range host 1 (length host - 1))) literal in
    let two = and_parts _ (is_bracket_end (get_or host (length host - 1) 0)) three.0 in
    let one = and_parts (ltb 2 (length host)) (begins_with 91 host) two.0 in
    let long = ltb-true 2 (length host) one.0 in
    let end = literal_end host port (length host - 1) (omega arith) one.1 (eqb-true _ 93 two.1)
    (λ k low high. literal_middle host k three.1 low high) in
    cond-true (begins_with 91 (host ++ port)) _ _ (begins_again host port one.1) ∙ omega (arith, end)

len_of_host : (host port : List ℕ) → is_host host ≡ true → is_port_part port ≡ true → host_len (host ++ port) ≡ length host
len_of_host host port named digits =
    elim (cases_Bool (is_ip_literal host)) [
      | inl literal ↦ len_of_literal host port literal
      | inr other ↦
          let name : is_registered_name host ≡ true = sym (ap (λ (b : Bool). b || is_registered_name host) other) ∙ named in
          len_of_name host port (and_parts (list_all is_name_byte host) (has_whole_escapes host) name).0 digits
    ]

pub authorities_have_one_host : AuthoritiesHaveOneHost
authorities_have_one_host value host = (
  taken_apart value host,
  λ parts. ap host_of_authority parts.whole ∙ put_together host parts.port parts.named parts.digits (len_of_host host parts.port parts.named parts.digits),
)
