-- Why the target of a head is what its forms say, and each cause comes where it does.
use Rattle.std.proofs.Common.{◌≡◌, ◌≢◌, ℕ, true, false, ◌||◌, ◌⊎◌, List, [], ◌∷◌, ◌++◌, take, drop, Option, Some, None, refl, sym, ap, ◌∙◌, subst, inl, inr, codes, take-append-drop}
use Rattle.std.specs.Prelude.{◌↔◌, option_and_then, Result, Ok, Err}
use Rattle.std.specs.Option.{ok_or}
use Rattle.std.specs.List.{before_first, list_any, position_or_len}
use Rattle.std.specs.Str.{bytes_eq, str_eq_ignore_ascii_case}
use Rattle.std.proofs.lemmas.Bool.{cases_Bool, cond-true, cond-false, false≢true, or_left, or_right}
use Rattle.std.proofs.lemmas.List.{take_at, drop_at}
use Rattle.std.proofs.lemmas.Slice.Eq.{bytes_eq-Decides}
use Rattle.host_base.proofs.SplitLaws.{chosen}
use Rattle.host_base.specs.declared.cause.Cause.{Cause}
use Rattle.host_base.specs.declared.cause.Cause.TheVariants.{BadHost, BadTarget, NotServed}
use Rattle.host_base.specs.declared.request.Head.{Head}
use Rattle.host_base.specs.declared.request.Target.{Target}
use Rattle.host_base.specs.declared.request.Version.{Version}
use Rattle.host_base.specs.declared.request.Version.TheVariants.{V10, V11}
use Rattle.host_base.specs.FieldLists.{values_named}
use Rattle.script_map.specs.Authority.{host_of_authority}
use Rattle.script_map.specs.Bytes.{begins_with}
use Rattle.script_map.specs.DotSegments.{IsRooted, without_dot_segments}
use Rattle.script_map.specs.Targets.{is_unserved, host_named, is_question, is_hash, is_authority_end, Place, place_at_host, place_after_scheme, has_http_scheme, place_of, path_or_root, raw_path_of, query_of, is_text_or_none, text_place, asked_place, place_with, place_in, host_or_none, target_at, target_or_cause, target_of}
use Rattle.script_map.specs.TargetRules.{query_text, IsPathAndQuery, IsOriginTarget, IsAbsoluteTarget, IsServedHead, ValuesName, NamesHost, IsTargetOf, ReadsTargets, RefusesUnserved, RefusesHosts, RefusesTargets}
use Rattle.script_map.proofs.AuthorityLaws.{authorities_have_one_host}
use Rattle.script_map.proofs.ListLaws.{begins_passing, front_len, front_fails}
use Rattle.script_map.proofs.PlaceLaws.{and_then_some, ok_some, rooted_after, origin_rooted}
use Rattle.script_map.proofs.TargetFormsLaws.{path_before, query_after, path_and_query, rooted_stays, edge_of, authority_ends, scheme_len, scheme_begins, after_edge}

-- ---- heads that are not served

unserved_from : (head : Head) → is_unserved head ≡ true → (head.method ≡ codes "CONNECT") ⊎ (head.target ≡ codes "*")
unserved_from head is =
    elim (cases_Bool (bytes_eq head.method (codes "CONNECT"))) [
      | inl connect ↦ inl ((bytes_eq-Decides head.method (codes "CONNECT")).0 connect)
      | inr other ↦ inr ((bytes_eq-Decides head.target (codes "*")).0 (sym (ap (λ b. b || bytes_eq head.target (codes "*")) other) ∙ is))
    ]

unserved_is : (head : Head) → (head.method ≡ codes "CONNECT") ⊎ (head.target ≡ codes "*") → is_unserved head ≡ true
unserved_is head (inl connect) = or_left _ _ ((bytes_eq-Decides head.method (codes "CONNECT")).1 connect)
unserved_is head (inr star) = or_right (bytes_eq head.method (codes "CONNECT")) _ ((bytes_eq-Decides head.target (codes "*")).1 star)

served_from : (head : Head) → is_unserved head ≡ false → IsServedHead head
served_from head is = record {
  method = λ connect. false≢true (sym is ∙ unserved_is head (inl connect));
  target = λ star. false≢true (sym is ∙ unserved_is head (inr star));
}

served_is : (head : Head) → IsServedHead head → is_unserved head ≡ false
served_is head served =
    elim (cases_Bool (is_unserved head)) [
      | inl unserved ↦ elim (unserved_from head unserved) [ inl connect ↦ absurd (served.method connect) | inr star ↦ absurd (served.target star) ]
      | inr other ↦ other
    ]

-- ---- the host that the field names

names_from : (values : List (List ℕ)) (version : Version) (host : List ℕ) → host_named values version ≡ Some host → ValuesName values version host
unfolding host_named
names_from [] V10 host is = let same : [] ≡ host = cc in inr (refl, refl, sym same)
names_from [] V11 host is = absurd (cc)
names_from (value ∷ []) version host is = inl (value, refl, (authorities_have_one_host value host).0 is)
names_from (value ∷ second ∷ more) version host is = absurd (cc)

names_is : (values : List (List ℕ)) (version : Version) (host : List ℕ) → ValuesName values version host → host_named values version ≡ Some host
unfolding host_named
names_is values version host (inl one) = ap (λ l. host_named l version) one.1 ∙ (authorities_have_one_host one.0 host).1 one.2
names_is values version host (inr none) = (λ i. host_named (none.0 i) (none.1 i)) ∙ ap (λ (l : List ℕ). Some l) (sym none.2)

-- ---- origin form

origin_from : (host text : List ℕ) → begins_with 47 text ≡ true → is_text_or_none (query_of text) ≡ true
    → IsOriginTarget text host (target_at (record { host = host; rest = text }))
origin_from host text slash utf8 =
    let path = before_first is_question text in
    let rooted : IsRooted path = origin_rooted text slash in
    record {
      path = path;
      form = record { rooted = rooted; parts = record { whole = path_and_query text; no_question = front_fails is_question text; utf8 = utf8 } };
      same_path = ap without_dot_segments (rooted_stays path rooted);
      same_host = refl;
    }

begins_rooted : (path back : List ℕ) → IsRooted path → begins_with 47 (path ++ back) ≡ true
begins_rooted [] back rooted = absurd (cc)
begins_rooted (b ∷ path) back rooted = let same : b ≡ 47 = cc in ap (λ (x : ℕ). begins_with 47 (x ∷ (path ++ back))) same

text_place_is : (p : Place) → is_text_or_none (query_of p.rest) ≡ true → text_place p ≡ Some p
text_place_is p utf8 = cond-true (is_text_or_none (query_of p.rest)) (Some p) None utf8

-- the place asked for, where one is found before its query is looked at
asked_is : (host text : List ℕ) (p : Place) → list_any is_hash text ≡ false → place_of host text ≡ Some p → is_text_or_none (query_of p.rest) ≡ true
    → asked_place host text ≡ Some p
unfolding asked_place
asked_is host text p no_hash found utf8 =
    cond-false (list_any is_hash text) None _ no_hash ∙ ap (option_and_then text_place) found ∙ text_place_is p utf8

query_is : (text path : List ℕ) (query : Option (List ℕ)) → IsPathAndQuery text path query → query_of text ≡ query
query_is text path query parts = ap query_of parts.whole ∙ query_after path query parts.no_question

path_is : (text path : List ℕ) (query : Option (List ℕ)) → IsPathAndQuery text path query → before_first is_question text ≡ path
path_is text path query parts = ap (before_first is_question) parts.whole ∙ path_before path query parts.no_question

-- a place is asked for, and it gives the target
abbrev Asks : List ℕ → List ℕ → Target → Type 0
Asks host text target = (p : Place) × (asked_place host text ≡ Some p) × (target_at p ≡ target)

origin_asks : (host text : List ℕ) (target : Target) → list_any is_hash text ≡ false → IsOriginTarget text host target → Asks host text target
unfolding place_of
origin_asks host text target no_hash is =
    let parts = is.form.parts in
    let query = query_is text is.path target.query parts in
    let begins = ap (begins_with 47) parts.whole ∙ begins_rooted is.path (query_text target.query) is.form.rooted in
    let path = ap without_dot_segments (ap path_or_root (path_is text is.path target.query parts) ∙ rooted_stays is.path is.form.rooted) ∙ sym is.same_path in (
      record { host = host; rest = text },
      asked_is host text (record { host = host; rest = text }) no_hash (cond-true (begins_with 47 text) _ _ begins)
          (ap is_text_or_none query ∙ parts.utf8),
      λ i. record { path = path i; query = query i; host = sym is.same_host i },
    )

-- ---- absolute form

at_host : (scheme authority rest text host : List ℕ) (place : Place) → text ≡ scheme ++ (authority ++ rest) → str_eq_ignore_ascii_case scheme (codes "http://") ≡ true
    → host_of_authority authority ≡ Some host → place_at_host rest host ≡ Some place → IsRooted (raw_path_of rest) → is_text_or_none (query_of place.rest) ≡ true
    → IsAbsoluteTarget text (target_at place)
at_host scheme authority rest text [] place whole http named is rooted utf8 = absurd (cc)
at_host scheme authority rest text (b ∷ host) place whole http named is rooted utf8 =
    let same : ◌≡◌ {A = Place} (record { host = b ∷ host; rest = rest }) place = cc in
    subst (λ (p : Place). is_text_or_none (query_of p.rest) ≡ true → IsAbsoluteTarget text (target_at p)) same (λ text_query. record {
      path = before_first is_question rest;
      host = b ∷ host;
      form = record {
        scheme = scheme;
        authority = authority;
        rest = rest;
        whole = whole;
        http = http;
        named = (authorities_have_one_host authority (b ∷ host)).0 named;
        some_host = λ none. absurd (cc);
        edge = edge_of (before_first is_question rest) rooted;
        parts = record { whole = path_and_query rest; no_question = front_fails is_question rest; utf8 = text_query };
      };
      same_path = refl;
      same_host = refl;
    }) utf8

absolute_from : (text : List ℕ) (place : Place) → has_http_scheme text ≡ true → place_after_scheme (drop 7 text) ≡ Some place
    → is_text_or_none (query_of place.rest) ≡ true → IsAbsoluteTarget text (target_at place)
absolute_from text place http is utf8 =
    let after = drop 7 text in
    let len = position_or_len is_authority_end after in
    let found = and_then_some (place_at_host (drop len after)) (host_of_authority (take len after)) place is in
    at_host (take 7 text) (take len after) (drop len after) text found.0 place
    (sym (take-append-drop 7 text) ∙ ap (λ (l : List ℕ). take 7 text ++ l) (sym (take-append-drop len after)))
    http found.1 found.2 (rooted_after after) utf8

place_at_some : (rest host : List ℕ) → host ≢ [] → place_at_host rest host ≡ Some (record { host = host; rest = rest })
place_at_some rest [] some = absurd (some refl)
place_at_some rest (b ∷ host) some = refl

host_some : (host : List ℕ) → host ≢ [] → host_or_none host ≡ Some host
host_some [] some = absurd (some refl)
host_some (b ∷ host) some = refl

absolute_asks : (host text : List ℕ) (target : Target) → list_any is_hash text ≡ false → IsAbsoluteTarget text target → Asks host text target
unfolding place_of
absolute_asks host text target no_hash is =
    let form = is.form in
    let parts = form.parts in
    let back = form.authority ++ form.rest in
    let len = scheme_len form.scheme form.http in
    let begins = ap (begins_with 47) form.whole ∙ scheme_begins form.scheme back form.http in
    let scheme : take 7 text ≡ form.scheme = ap (take 7) form.whole ∙ take_at form.scheme back 7 len in
    let after : drop 7 text ≡ back = ap (drop 7) form.whole ∙ drop_at form.scheme back 7 len in
    let end = front_len is_authority_end form.authority form.rest (authority_ends form.authority is.host form.named)
    (ap (begins_passing is_authority_end) parts.whole ∙ after_edge is.path target.query form.edge) in
    let authority = take_at form.authority form.rest _ (sym end) in
    let rest = drop_at form.authority form.rest _ (sym end) in
    let named = ap host_of_authority authority ∙ (authorities_have_one_host form.authority is.host).1 form.named in
    let p : Place = record { host = is.host; rest = form.rest } in
    let found : place_after_scheme back ≡ Some p =
    (λ i. option_and_then (place_at_host (rest i)) (named i)) ∙ place_at_some form.rest is.host form.some_host in
    let query = query_is form.rest is.path target.query parts in
    let path = ap without_dot_segments (ap path_or_root (path_is form.rest is.path target.query parts)) ∙ sym is.same_path in (
      p,
      asked_is host text p no_hash
          (cond-false (begins_with 47 text) _ _ begins
          ∙ cond-true (has_http_scheme text) _ None (ap (λ (l : List ℕ). str_eq_ignore_ascii_case l (codes "http://")) scheme ∙ form.http)
          ∙ ap place_after_scheme after ∙ found)
          (ap is_text_or_none query ∙ parts.utf8),
      λ i. record { path = path i; query = query i; host = (host_some is.host form.some_host ∙ sym is.same_host) i },
    )

-- ---- the place that is asked for

asked_from : (host text : List ℕ) (place : Place) → asked_place host text ≡ Some place
    → (list_any is_hash text ≡ false) × (IsOriginTarget text host (target_at place) ⊎ IsAbsoluteTarget text (target_at place))
unfolding asked_place place_of
asked_from host text place is =
    elim (chosen (list_any is_hash text) _ _ _ is) [
      | inl hash ↦ absurd (cc)
      | inr clean ↦
          let found = and_then_some text_place (place_of host text) place clean.1 in (
            clean.0,
            elim (chosen (is_text_or_none (query_of found.0.rest)) (Some found.0) None (Some place) found.2) [
              | inr other ↦ absurd (cc)
              | inl utf8 ↦
                  let same : found.0 ≡ place = cc in
                  let good : is_text_or_none (query_of place.rest) ≡ true = ap (λ (p : Place). is_text_or_none (query_of p.rest)) (sym same) ∙ utf8.0 in
                  formed place (found.1 ∙ ap (λ (p : Place). Some p) same) good
            ],
          )
    ]
  where
    formed : (p : Place) → place_of host text ≡ Some p → is_text_or_none (query_of p.rest) ≡ true
        → IsOriginTarget text host (target_at p) ⊎ IsAbsoluteTarget text (target_at p)
    formed p at good =
        elim (chosen (begins_with 47 text) _ _ _ at) [
          | inl origin ↦
              let same : ◌≡◌ {A = Place} (record { host = host; rest = text }) p = cc in
              inl (subst (λ (q : Place). is_text_or_none (query_of q.rest) ≡ true → IsOriginTarget text host (target_at q)) same
              (origin_from host text origin.0) good)
          | inr other ↦
              elim (chosen (has_http_scheme text) _ _ _ other.1) [
                | inl absolute ↦ inr (absolute_from text p absolute.0 absolute.1 good)
                | inr none ↦ absurd (cc)
              ]
        ]

-- ---- the target of a head

place_from : (head : Head) (place : Place) → place_in head ≡ Ok place
    → (is_unserved head ≡ false) × (host : List ℕ) × (host_named (values_named (codes "Host") head.fields) head.version ≡ Some host)
    × (asked_place host head.target ≡ Some place)
unfolding place_in
place_from head place is =
    elim (chosen (is_unserved head) _ _ _ is) [
      | inl unserved ↦ absurd (cc)
      | inr served ↦ by_host (host_named (values_named (codes "Host") head.fields) head.version) refl served.0 served.1
    ]
  where
    by_host : (o : Option (List ℕ)) → host_named (values_named (codes "Host") head.fields) head.version ≡ o → is_unserved head ≡ false
        → place_with o head.target ≡ Ok place
        → (is_unserved head ≡ false) × (host : List ℕ) × (host_named (values_named (codes "Host") head.fields) head.version ≡ Some host)
        × (asked_place host head.target ≡ Some place)
    by_host None at served told = absurd (cc)
    by_host (Some host) at served told = (served, host, at, ok_some (asked_place host head.target) BadTarget place told)

place_is : (head : Head) (host : List ℕ) (place : Place) → is_unserved head ≡ false
    → host_named (values_named (codes "Host") head.fields) head.version ≡ Some host → asked_place host head.target ≡ Some place → place_in head ≡ Ok place
unfolding place_in
place_is head host place served named asked =
    cond-false (is_unserved head) (Err NotServed) _ served ∙ ap (λ o. place_with o head.target) named ∙ ap (λ o. ok_or o BadTarget) asked

target_from : (r : Result Place Cause) (target : Target) → target_or_cause r ≡ Ok target → (place : Place) × (r ≡ Ok place) × (target_at place ≡ target)
target_from (Ok place) target is = (place, refl, cc)
target_from (Err cause) target is = absurd (cc)

asks_for : (head : Head) (place : Place) → place_in head ≡ Ok place → IsTargetOf head (target_at place)
asks_for head place is =
    let parts = place_from head place is in
    let formed = asked_from parts.1 head.target place parts.3 in
    record {
      served = served_from head parts.0;
      host = parts.1;
      named = names_from (values_named (codes "Host") head.fields) head.version parts.1 parts.2;
      no_hash = formed.0;
      form = formed.1;
    }

formed_asks : (head : Head) (target : Target) (is : IsTargetOf head target) → Asks is.host head.target target
formed_asks head target is =
    elim is.form [
      | inl origin ↦ origin_asks is.host head.target target is.no_hash origin
      | inr absolute ↦ absolute_asks is.host head.target target is.no_hash absolute
    ]

pub reads_targets : ReadsTargets
reads_targets head target = (
  λ is. let found = target_from (place_in head) target is in subst (IsTargetOf head) found.2 (asks_for head found.0 found.1),
  λ is. let asks = formed_asks head target is in
      ap target_or_cause (place_is head is.host asks.0 (served_is head is.served) (names_is _ head.version is.host is.named) asks.1)
      ∙ ap (λ (t : Target). Ok t) asks.2,
)

-- ---- the causes

-- which answer a head has, by whether it is served, whether its Host is good and whether its target is
abbrev Judged : Head → Type 0
Judged head =
    ((is_unserved head ≡ true) × (target_of head ≡ Err NotServed))
    ⊎ (((is_unserved head ≡ false) × (host_named (values_named (codes "Host") head.fields) head.version ≡ None) × (target_of head ≡ Err BadHost))
    ⊎ (((host : List ℕ) × (is_unserved head ≡ false) × (host_named (values_named (codes "Host") head.fields) head.version ≡ Some host) × (target_of head ≡ Err BadTarget))
    ⊎ ((target : Target) × (target_of head ≡ Ok target))))

judged : (head : Head) → Judged head
unfolding place_in
judged head =
    elim (cases_Bool (is_unserved head)) [
      | inl unserved ↦ inl (unserved, ap target_or_cause (cond-true (is_unserved head) _ _ unserved))
      | inr served ↦ by_host served (host_named (values_named (codes "Host") head.fields) head.version) refl
    ]
  where
    by_asked : is_unserved head ≡ false → (host : List ℕ) → host_named (values_named (codes "Host") head.fields) head.version ≡ Some host
        → (o : Option Place) → asked_place host head.target ≡ o → Judged head
    by_asked served host at None none =
        inr (inr (inl (
          host,
          served,
          at,
          ap target_or_cause (cond-false (is_unserved head) (Err NotServed) _ served
              ∙ ap (λ o. place_with o head.target) at ∙ ap (λ o. ok_or o BadTarget) none),
        )))
    by_asked served host at (Some place) some =
        inr (inr (inr (target_at place, ap target_or_cause (place_is head host place served at some))))

    by_host : is_unserved head ≡ false → (o : Option (List ℕ)) → host_named (values_named (codes "Host") head.fields) head.version ≡ o → Judged head
    by_host served None none =
        inr (inl (served, none, ap target_or_cause (cond-false (is_unserved head) (Err NotServed) _ served ∙ ap (λ o. place_with o head.target) none)))
    by_host served (Some host) some = by_asked served host some (asked_place host head.target) refl

pub refuses_unserved : RefusesUnserved
refuses_unserved head = by_case (judged head)
  where
    by_case : Judged head → (target_of head ≡ Err NotServed) ↔ ((head.method ≡ codes "CONNECT") ⊎ (head.target ≡ codes "*"))
    by_case (inl unserved) = (λ _. unserved_from head unserved.0, λ _. unserved.1)
    by_case (inr (inl host)) = (λ is. let other = host.2 in absurd (cc), λ either. absurd (false≢true (sym host.0 ∙ unserved_is head either)))
    by_case (inr (inr (inl bad))) = (λ is. let other = bad.3 in absurd (cc), λ either. absurd (false≢true (sym bad.1 ∙ unserved_is head either)))
    by_case (inr (inr (inr good))) = (
      λ is. let other = good.1 in absurd (cc),
      λ either. let asks = (reads_targets head good.0).0 good.1 in absurd (false≢true (sym (served_is head asks.served) ∙ unserved_is head either)),
    )

pub refuses_hosts : RefusesHosts
refuses_hosts head = by_case (judged head)
  where
    by_case : Judged head → (target_of head ≡ Err BadHost) ↔ (IsServedHead head × ((host : List ℕ) → NamesHost head host → ⊥))
    by_case (inl unserved) = (λ is. let other = unserved.1 in absurd (cc), λ told. absurd (false≢true (sym (served_is head told.0) ∙ unserved.0)))
    by_case (inr (inl host)) = (λ _. (served_from head host.0, λ name names. let is = names_is _ head.version name names in let none = host.1 in absurd (cc)), λ _. host.2)
    by_case (inr (inr (inl bad))) = (λ is. let other = bad.3 in absurd (cc), λ told. absurd (told.1 bad.0 (names_from _ head.version bad.0 bad.2)))
    by_case (inr (inr (inr good))) = (
      λ is. let other = good.1 in absurd (cc),
      λ told. let asks = (reads_targets head good.0).0 good.1 in absurd (told.1 asks.host asks.named),
    )

pub refuses_targets : RefusesTargets
refuses_targets head = by_case (judged head)
  where
    by_case : Judged head → (target_of head ≡ Err BadTarget)
        ↔ (IsServedHead head × ((host : List ℕ) × NamesHost head host) × ((target : Target) → IsTargetOf head target → ⊥))
    by_case (inl unserved) = (λ is. let other = unserved.1 in absurd (cc), λ told. absurd (false≢true (sym (served_is head told.0) ∙ unserved.0)))
    by_case (inr (inl host)) = (
      λ is. let other = host.2 in absurd (cc),
      λ told. let is = names_is _ head.version told.1.0 told.1.1 in let none = host.1 in absurd (cc),
    )
    by_case (inr (inr (inl bad))) = (
      λ _. (
        served_from head bad.1,
        (bad.0, names_from _ head.version bad.0 bad.2),
        λ target asks. let is = (reads_targets head target).1 asks in let other = bad.3 in absurd (cc),
      ),
      λ _. bad.3,
    )
    by_case (inr (inr (inr good))) = (λ is. let other = good.1 in absurd (cc), λ told. absurd (told.2 good.0 ((reads_targets head good.0).0 good.1)))
