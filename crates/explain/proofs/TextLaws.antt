-- The method, the query and the host of a request that was read are texts, and a mapping names a script.
use Rattle.std.proofs.Common.{◌≡◌, ◌≢◌, ℕ, zero, suc, lit<, ◌-◌, ◌<◌, Bool, true, false, ◌||◌, List, [], ◌∷◌, length, get_or, slice_range, Option, Some, None, Ok, refl, sym, subst, ap, ◌∙◌, arith, ltb, inl, inr}
use Rattle.std.specs.Prelude.{◌++◌, is_some, slice_get, option_and_then, if◌then◌else◌}
use Rattle.std.specs.List.{list_all}
use Rattle.std.specs.Option.{option_map_or}
use Rattle.std.specs.Str.{is_utf8}
use Rattle.std.proofs.lemmas.Bool.{cases_Bool, cases_lt, and_parts, eqb-true}
use Rattle.std.proofs.lemmas.Bool.Decides.{nat_tests}
use Rattle.std.proofs.lemmas.List.{get_or_past}
use Rattle.std.proofs.lemmas.List.Sums.{list_all-from_AllPass}
use Rattle.std.proofs.lemmas.Str.{IsUtf8-from_ascii, IsUtf8-nil, is_utf8-from_IsUtf8}
use Rattle.httparse.specs.Grammar.{is_token_byte}
use Rattle.host_base.specs.declared.cause.Cause.TheVariants.{Incomplete}
use Rattle.host_base.specs.declared.limits.Limits.{Limits}
use Rattle.host_base.specs.declared.request.Head.{Head}
use Rattle.host_base.specs.declared.request.Request.{Request}
use Rattle.host_base.specs.declared.request.Target.{Target}
use Rattle.host_base.specs.declared.site.Mapped.{Mapped}
use Rattle.host_base.specs.declared.site.Script.{Script}
use Rattle.host_base.specs.declared.site.Site.{Site}
use Rattle.host_base.specs.declared.site.VHost.{VHost}
use Rattle.head_reader.specs.HeadLaws.{IsHead}
use Rattle.script_map.specs.Authority.{is_address_byte, is_bracket_end, is_host, is_ip_literal, is_name_byte, is_registered_name}
use Rattle.script_map.specs.Bytes.{begins_with}
use Rattle.script_map.specs.Escapes.{has_whole_escapes}
use Rattle.script_map.specs.Hosts.{scripts_of}
use Rattle.script_map.specs.Mapping.{mapped_of}
use Rattle.script_map.specs.TargetRules.{IsTargetOf, ValuesName}
use Rattle.script_map.specs.Targets.{host_or_none, is_text_or_none as is_text_query, target_of}
use Rattle.script_map.proofs.AuthorityLaws.{first_is, literal_middle}
use Rattle.script_map.proofs.MappingRulesLaws.{maps_to_longest}
use Rattle.script_map.proofs.TargetRulesLaws.{reads_targets}
use Rattle.request_reader.specs.Request.{Reading, Whole, More, Bad, is_begun, read_request}
use Rattle.request_reader.proofs.RequestLaws.{wholes_are_requests}
use Rattle.meta_variables.specs.Launch.{HasTexts, NamesScript, is_text_or_none}
use Rattle.meta_variables.proofs.TextLaws.{ascii_text}
use Rattle.host_base.specs.declared.launch.Peer.{Peer}
use Rattle.explain.specs.Inputs.{heard_of, is_answer, ending_of_reading}
use Rattle.explain.specs.Steps.{HasHeardTexts, HasEndingTexts}
use Rattle.explain.specs.declared.input.Ending.{Ending}
use Rattle.explain.specs.declared.input.Ending.TheVariants as Ends
use Rattle.explain.specs.declared.input.Heard.{Heard}
use Rattle.explain.specs.declared.input.Heard.TheVariants.{Passed, Asks, Ended, NoMemory}
use Rattle.explain.specs.declared.input.Input.{Input}
use Rattle.explain.specs.declared.input.Input.TheVariants as Is

-- ---- a host is ASCII

name_small : (b : ℕ) → is_name_byte b ≡ true → b < 128
name_small b is = grind (arith, nat_tests)

address_small : (b : ℕ) → is_address_byte b ≡ true → b < 128
address_small b is = grind (arith, nat_tests)

literal_small : (host : List ℕ) → is_ip_literal host ≡ true → (k : ℕ) → get_or host k 0 < 128
literal_small host literal k =
    let three = and_parts _ (list_all is_address_byte (slice_range host 1 (length host - 1))) literal in
    let two = and_parts _ (is_bracket_end (get_or host (length host - 1) 0)) three.0 in
    let one = and_parts (ltb 2 (length host)) (begins_with 91 host) two.0 in
    elim (cases_lt k 1) [
      | inl first ↦ (let at : k ≡ 0 = omega (arith, first) in let is = first_is host one.1 in rw (at, is) (lit< tt))
      | inr later ↦
          elim (cases_lt k (length host - 1)) [
            | inl inner ↦ address_small _ (literal_middle host k three.1 later inner)
            | inr last ↦
                elim (cases_lt k (length host)) [
                  | inl end ↦ (let at : length host - 1 ≡ k = omega (arith, last, end) in let is = eqb-true (get_or host (length host - 1) 0) 93 two.1 in rw (ap (λ (i : ℕ). get_or host i 0) (sym at) ∙ is) (lit< tt))
                  | inr past ↦ rw (get_or_past host k 0 past) (lit< tt)
                ]
          ]
    ]

host_text : (host : List ℕ) → is_host host ≡ true → is_utf8 host ≡ true
host_text host named =
    elim (cases_Bool (is_ip_literal host)) [
      | inl literal ↦ is_utf8-from_IsUtf8 host (IsUtf8-from_ascii host (literal_small host literal))
      | inr other ↦
          let name : is_registered_name host ≡ true = sym (ap (λ (b : Bool). b || is_registered_name host) other) ∙ named in
          ascii_text is_name_byte name_small host (and_parts (list_all is_name_byte host) (has_whole_escapes host) name).0
    ]

-- ---- a target is made of texts

some_text : (host : List ℕ) → is_utf8 host ≡ true → is_text_or_none (host_or_none host) ≡ true
some_text [] text = refl
some_text (b ∷ host) text = text

named_text : (values : List (List ℕ)) (version : _) (host : List ℕ) → ValuesName values version host → is_utf8 host ≡ true
named_text values version host (inl one) = host_text host one.2.named
named_text values version host (inr none) = rw none.2 (is_utf8-from_IsUtf8 [] IsUtf8-nil)

query_text : (query : Option (List ℕ)) → is_text_query query ≡ true → is_text_or_none query ≡ true
query_text None text = refl
query_text (Some query) text = text

target_texts : (head : Head) (target : Target) → target_of head ≡ Ok target → (is_text_or_none target.query ≡ true) × (is_text_or_none target.host ≡ true)
target_texts head target is = by_form ((reads_targets head target).0 is)
  where
    by_form : IsTargetOf head target → (is_text_or_none target.query ≡ true) × (is_text_or_none target.host ≡ true)
    by_form t = elim t.form [
      | inl origin ↦ (query_text target.query origin.form.parts.utf8, rw origin.same_host (some_text t.host (named_text _ head.version t.host t.named)))
      | inr absolute ↦ (query_text target.query absolute.form.parts.utf8, rw absolute.same_host (host_text absolute.host absolute.form.named.named))
    ]

-- ---- a request is made of texts

token_small : (b : ℕ) → is_token_byte b ≡ true → b < 128
unfolding is_token_byte
token_small b is = grind (arith, nat_tests)

method_text : (room : ℕ) (bytes : List ℕ) (head : Head) → IsHead room bytes head → is_utf8 head.method ≡ true
method_text room bytes head h =
    let t = h.1.0.method in
    let text = ascii_text is_token_byte token_small h.0.method (list_all-from_AllPass is_token_byte h.0.method t.1) in
    ap (λ (x : Head). is_utf8 x.method) (sym h.4) ∙ text

pub request_texts : (limits : Limits) (bytes : List ℕ) (request : Request) (used : ℕ) (due : Bool) → read_request limits bytes ≡ Whole request used due → HasTexts request
request_texts limits bytes request used due is =
    let r = wholes_are_requests limits bytes request used due is in
    let texts = target_texts r.head request.target r.target in
    let m = method_text _ _ r.head r.reads in
    record { method = ap (λ (q : Request). is_utf8 q.method) r.says ∙ m; query = texts.0; host = texts.1 }

by_reading : (limits : Limits) (bytes : List ℕ) (reading : Reading) (cut : Bool) → read_request limits bytes ≡ reading → HasEndingTexts (ending_of_reading reading cut)
by_reading limits bytes (Whole request used due) cut is = request_texts limits bytes request used due is
by_reading limits bytes (Bad cause bare) cut is = tt
by_reading limits bytes (More request due) true is = tt
by_reading limits bytes (More request due) false is = tt

either_texts : (b : Bool) (ending : Ending) → HasEndingTexts ending → HasHeardTexts (if b then Ended ending else Asks)
either_texts true ending texts = texts
either_texts false ending texts = tt

passed_texts : (b : Bool) → HasHeardTexts (if b then Passed else Asks)
passed_texts true = tt
passed_texts false = tt

begun_texts : (b : Bool) → HasEndingTexts (if b then Ends.Refused Incomplete else Ends.Nothing)
begun_texts true = tt
begun_texts false = tt

-- .. whatever is made of an input
pub heard_texts : (limits : Limits) (peer : Option Peer) (bytes : List ℕ) (input : Input) → HasHeardTexts (heard_of limits peer bytes input)
heard_texts limits peer bytes (Is.Accepted new) = passed_texts (is_some peer)
heard_texts limits peer bytes (Is.Bytes more) =
    either_texts (is_answer (read_request limits (bytes ++ more))) _ (by_reading limits (bytes ++ more) (read_request limits (bytes ++ more)) false refl)
heard_texts limits peer bytes Is.Eof = begun_texts (is_begun bytes)
heard_texts limits peer bytes Is.Gone = tt
heard_texts limits peer bytes Is.NoRoom = tt
heard_texts limits peer bytes Is.Other = tt

pub texts_of : (limits : Limits) (peer : Option Peer) (bytes : List ℕ) (input : Input) (heard : Heard) → (heard ≢ NoMemory → heard ≡ heard_of limits peer bytes input) →
    HasHeardTexts heard
texts_of limits peer bytes input Passed is = tt
texts_of limits peer bytes input Asks is = tt
texts_of limits peer bytes input NoMemory is = tt
texts_of limits peer bytes input (Ended ending) is =
    let e : Ended ending ≡ heard_of limits peer bytes input = is (λ no. absurd (cc)) in
    subst HasHeardTexts (sym e) (heard_texts limits peer bytes input)

-- ---- a mapping names a script

found_script : (host : Option VHost) (index : ℕ) (script : Script) → slice_get (option_map_or scripts_of host []) index ≡ Some script →
    is_some (option_and_then (λ h. slice_get h.scripts index) host) ≡ true
found_script (Some host) index script is = rw is refl
found_script None zero script is = absurd (cc)
found_script None (suc index) script is = absurd (cc)

pub mapped_names : (site : Site) (target : Target) (mapped : Mapped) → mapped_of site.hosts target ≡ Ok mapped → NamesScript site mapped
mapped_names site target mapped is =
    let m = maps_to_longest site.hosts target mapped is in
    found_script (slice_get site.hosts mapped.host) mapped.index m.script.script m.script.listed
