-- Which answer a path has: the script that fits, or the cause, and each exactly where it comes.
use Rattle.std.proofs.Common.{◌≡◌, ℕ, Bool, true, false, cond, ◌||◌, ◌⊎◌, List, Option, Some, None, refl, sym, ap, ◌∙◌, subst, inl, inr}
use Rattle.std.specs.Prelude.{◌↔◌, Result, Ok, Err, is_ok}
use Rattle.std.specs.Option.{ok_or}
use Rattle.std.specs.List.{list_any, slice_split}
use Rattle.std.specs.Str.{is_utf8}
use Rattle.std.proofs.lemmas.Bool.{cond-true, cond-false, cases_Bool, or_left, or_right, false≢true}
use Rattle.std.proofs.lemmas.List.Folds.{Any-from_list_any, list_any-from_Any, list_any_none}
use Rattle.std.proofs.lemmas.Option.{slice_get_within, get_or_from_slice_get}
use Rattle.host_base.proofs.SplitLaws.{chosen}
use Rattle.host_base.specs.declared.cause.Cause.{Cause}
use Rattle.host_base.specs.declared.cause.Cause.TheVariants.{BadPath, NoScript, UnknownHost}
use Rattle.host_base.specs.declared.request.Target.{Target}
use Rattle.host_base.specs.declared.site.Mapped.{Mapped}
use Rattle.host_base.specs.declared.site.VHost.{VHost}
use Rattle.percent_encoding.specs.Percent.{percent_decode}
use Rattle.script_map.specs.DotSegments.{is_slash, is_dot_segment}
use Rattle.script_map.specs.Escapes.{has_whole_escapes, has_hidden_escape}
use Rattle.script_map.specs.Hosts.{host_of_target, scripts_at}
use Rattle.script_map.specs.Mapping.{is_nul, fits, script_at, has_dot_segment, text_or_none, decoded_text, mapped_text, mapped_at_host, decoded_mapped_text, decoded_mapped_at_host}
use Rattle.script_map.specs.MappingRules.{IsScriptOf, IsMappedTo, IsReadable, IsMisleading, HasFitting, FindsWhatFits, RefusesOtherHosts, RefusesUnreadable, RefusesWhatFitsNone, MapsDecodedToLongest, IsDecodedMisleading, FindsWhatFitsDecoded, RefusesDecodedOtherHosts, RefusesDecodedUnreadable, RefusesDecodedWhatFitsNone}
use Rattle.script_map.proofs.DecodingLaws.{decodes_segments}
use Rattle.script_map.proofs.ListLaws.{list_any-map}
use Rattle.script_map.proofs.MappingRulesLaws.{none_fits, found_script, script_fits, ok_some}

-- ---- what is read

readable_is : (path : List ℕ) → IsReadable path → decoded_text path ≡ Some (percent_decode path)
unfolding decoded_text
readable_is path readable = cond-true (has_whole_escapes path) _ None readable.whole ∙ cond-true (is_utf8 (percent_decode path)) _ None readable.utf8

readable_from : (path decoded : List ℕ) → decoded_text path ≡ Some decoded → IsReadable path × (percent_decode path ≡ decoded)
unfolding decoded_text
readable_from path decoded is =
    elim (chosen (has_whole_escapes path) _ _ _ is) [
      | inl whole ↦ elim (chosen (is_utf8 (percent_decode path)) (Some (percent_decode path)) None (Some decoded) whole.1) [
        | inl text ↦ (record { whole = whole.0; utf8 = text.0 }, cc)
        | inr other ↦ absurd (cc)
      ]
      | inr broken ↦ absurd (cc)
    ]

text_from : (path text : List ℕ) → text_or_none path ≡ Some text → (is_utf8 path ≡ true) × (path ≡ text)
text_from path text is =
    elim (chosen (is_utf8 path) (Some path) None (Some text) is) [
      | inl here ↦ (here.0, cc)
      | inr other ↦ absurd (cc)
    ]

-- ---- what misleads

decoded_dots : (path : List ℕ) → has_whole_escapes path ≡ true → has_hidden_escape path ≡ false
    → has_dot_segment (percent_decode path) ≡ list_any (λ segment. is_dot_segment (percent_decode segment)) (slice_split is_slash path)
decoded_dots path whole shown =
    ap (list_any is_dot_segment) (decodes_segments path whole shown) ∙ list_any-map is_dot_segment percent_decode (slice_split is_slash path)

misleads : (path : List ℕ) → has_whole_escapes path ≡ true → (has_hidden_escape path || has_dot_segment (percent_decode path)) ≡ true → IsMisleading path
misleads path whole is =
    elim (cases_Bool (has_hidden_escape path)) [
      | inl hidden ↦ inl hidden
      | inr shown ↦
          inr (Any-from_list_any (λ segment. is_dot_segment (percent_decode segment)) (slice_split is_slash path)
          (sym (decoded_dots path whole shown) ∙ sym (ap (λ b. b || has_dot_segment (percent_decode path)) shown) ∙ is))
    ]

misleads_from : (path : List ℕ) → has_whole_escapes path ≡ true → IsMisleading path → (has_hidden_escape path || has_dot_segment (percent_decode path)) ≡ true
misleads_from path whole (inl hidden) = or_left _ _ hidden
misleads_from path whole (inr dots) =
    elim (cases_Bool (has_hidden_escape path)) [
      | inl hidden ↦ or_left _ _ hidden
      | inr shown ↦
          or_right (has_hidden_escape path) _
          (decoded_dots path whole shown ∙ list_any-from_Any (λ segment. is_dot_segment (percent_decode segment)) (slice_split is_slash path) dots)
    ]

decoded_misleads : (path : List ℕ) → (list_any is_nul path || has_dot_segment path) ≡ true → IsDecodedMisleading path
decoded_misleads path is =
    elim (cases_Bool (list_any is_nul path)) [
      | inl nul ↦ inl (Any-from_list_any is_nul path nul)
      | inr none ↦ inr (Any-from_list_any is_dot_segment (slice_split is_slash path) (sym (ap (λ b. b || has_dot_segment path) none) ∙ is))
    ]

decoded_misleads_from : (path : List ℕ) → IsDecodedMisleading path → (list_any is_nul path || has_dot_segment path) ≡ true
decoded_misleads_from path (inl nul) = or_left _ _ (list_any-from_Any is_nul path nul)
decoded_misleads_from path (inr dots) = or_right (list_any is_nul path) _ (list_any-from_Any is_dot_segment (slice_split is_slash path) dots)

-- ---- a script that fits

no_fitting : (host : ℕ) (hosts : List VHost) (path : List ℕ) → script_at host (scripts_at hosts host) path ≡ None → HasFitting hosts host path → ⊥
no_fitting host hosts path none any =
    false≢true (sym (list_any_none (fits path) (scripts_at hosts host) (none_fits host (scripts_at hosts host) path none))
    ∙ list_any-from_Any (fits path) (scripts_at hosts host) any)

some_fitting : (host : ℕ) (hosts : List VHost) (path : List ℕ) (m : Mapped) → script_at host (scripts_at hosts host) path ≡ Some m → HasFitting hosts host path
some_fitting host hosts path m is =
    let scripts = scripts_at hosts host in
    let found = (found_script host scripts path m is).1 in (
      m.index,
      found.script,
      slice_get_within scripts m.index found.script found.listed,
      get_or_from_slice_get scripts m.index found.script found.script found.listed,
      script_fits scripts path m found,
    )

-- ---- the answers

-- what an answer is, by the host's place, whether the path can be read and misleads, and whether a script fits
abbrev Verdict : Option ℕ → Type 0 → Type 0 → (ℕ → Type 0) → Result Mapped Cause → Type 0
Verdict place Readable Misleading Fitting answer =
    ((place ≡ None) × (answer ≡ Err UnknownHost))
    ⊎ (((n : ℕ) × (place ≡ Some n) × (Readable → ⊥) × (answer ≡ Err BadPath))
    ⊎ (((n : ℕ) × (place ≡ Some n) × Readable × (Misleading ⊎ (Fitting n → ⊥)) × (answer ≡ Err NoScript))
    ⊎ ((n : ℕ) × (m : Mapped) × (place ≡ Some n) × Readable × (Misleading → ⊥) × Fitting n × (answer ≡ Ok m))))

module _ (place : Option ℕ) (Readable Misleading : Type 0) (Fitting : ℕ → Type 0) (answer : Result Mapped Cause) where
  finds : Verdict place Readable Misleading Fitting answer → (n : ℕ) → place ≡ Some n → Readable → (Misleading → ⊥) → Fitting n → is_ok answer ≡ true
  finds (inl unknown) n at readable shown fitting = absurd (cc)
  finds (inr (inl unreadable)) n at readable shown fitting = absurd (unreadable.2 readable)
  finds (inr (inr (inl refused))) n at readable shown fitting =
      elim refused.3 [
        | inl misleading ↦ absurd (shown misleading)
        | inr none ↦ absurd (none (let same : n ≡ refused.0 = cc in subst Fitting same fitting))
      ]
  finds (inr (inr (inr found))) n at readable shown fitting = ap (λ r. is_ok r) found.6

  unknown_exactly : Verdict place Readable Misleading Fitting answer → (answer ≡ Err UnknownHost) ↔ (place ≡ None)
  unknown_exactly (inl unknown) = (λ _. unknown.0, λ _. unknown.1)
  unknown_exactly (inr (inl unreadable)) = (λ is. absurd (cc), λ is. absurd (cc))
  unknown_exactly (inr (inr (inl refused))) = (λ is. absurd (cc), λ is. absurd (cc))
  unknown_exactly (inr (inr (inr found))) = (λ is. absurd (cc), λ is. absurd (cc))

  unreadable_exactly : Verdict place Readable Misleading Fitting answer
      → (answer ≡ Err BadPath) ↔ ((n : ℕ) × (place ≡ Some n) × (Readable → ⊥))
  unreadable_exactly (inl unknown) = (λ is. absurd (cc), λ told. let at = told.1 in absurd (cc))
  unreadable_exactly (inr (inl unreadable)) = (λ _. (unreadable.0, unreadable.1, unreadable.2), λ _. unreadable.3)
  unreadable_exactly (inr (inr (inl refused))) = (λ is. absurd (cc), λ told. absurd (told.2 refused.2))
  unreadable_exactly (inr (inr (inr found))) = (λ is. absurd (cc), λ told. absurd (told.2 found.3))

  refused_exactly : Verdict place Readable Misleading Fitting answer
      → (answer ≡ Err NoScript) ↔ ((n : ℕ) × (place ≡ Some n) × Readable × (Misleading ⊎ (Fitting n → ⊥)))
  refused_exactly (inl unknown) = (λ is. absurd (cc), λ told. let at = told.1 in absurd (cc))
  refused_exactly (inr (inl unreadable)) = (λ is. absurd (cc), λ told. absurd (unreadable.2 told.2))
  refused_exactly (inr (inr (inl refused))) = (λ _. (refused.0, refused.1, refused.2, refused.3), λ _. refused.4)
  refused_exactly (inr (inr (inr found))) = (
    λ is. absurd (cc),
    λ told. elim told.3 [
      | inl misleading ↦ absurd (found.4 misleading)
      | inr none ↦ absurd (none (let at = told.1 in let same : found.0 ≡ told.0 = cc in subst Fitting same found.5))
    ],
  )

-- ---- the verdict on a target

refused_either : (b : Bool) (r : Result Mapped Cause) → r ≡ Err NoScript → cond b (Err NoScript) r ≡ Err NoScript
refused_either true r is = refl
refused_either false r is = is

by_script : (hosts : List VHost) (target : Target) (n : ℕ) → host_of_target hosts target.host ≡ Some n → IsReadable target.path
    → (o : Option Mapped) → script_at n (scripts_at hosts n) (percent_decode target.path) ≡ o
    → mapped_at_host hosts target.path (Some n) ≡ cond (has_hidden_escape target.path || has_dot_segment (percent_decode target.path)) (Err NoScript) (ok_or o NoScript)
    → Verdict (host_of_target hosts target.host) (IsReadable target.path) (IsMisleading target.path)
    (λ k. HasFitting hosts k (percent_decode target.path)) (mapped_at_host hosts target.path (Some n))
by_script hosts target n at readable None none is =
    inr (inr (inl (n, at, readable, inr (no_fitting n hosts (percent_decode target.path) none), is ∙ refused_either (has_hidden_escape target.path || has_dot_segment (percent_decode target.path)) _ refl)))
by_script hosts target n at readable (Some m) found is =
    elim (cases_Bool (has_hidden_escape target.path || has_dot_segment (percent_decode target.path))) [
      | inl misleading ↦ inr (inr (inl (n, at, readable, inl (misleads target.path readable.whole misleading), is ∙ cond-true _ _ _ misleading)))
      | inr shown ↦ inr (inr (inr (
        n,
        m,
        at,
        readable,
        (λ told. false≢true (sym shown ∙ misleads_from target.path readable.whole told)),
        some_fitting n hosts (percent_decode target.path) m found,
        is ∙ cond-false _ _ _ shown,
      )))
    ]

by_decoded : (hosts : List VHost) (target : Target) (n : ℕ) → host_of_target hosts target.host ≡ Some n
    → (o : Option (List ℕ)) → decoded_text target.path ≡ o
    → Verdict (host_of_target hosts target.host) (IsReadable target.path) (IsMisleading target.path)
    (λ k. HasFitting hosts k (percent_decode target.path)) (mapped_at_host hosts target.path (Some n))
by_decoded hosts target n at None none =
    inr (inl (n, at, (λ readable. let is = readable_is target.path readable in absurd (cc)), ap (mapped_text n (scripts_at hosts n) target.path) none))
by_decoded hosts target n at (Some decoded) some =
    let readable = readable_from target.path decoded some in
    by_script hosts target n at readable.0 (script_at n (scripts_at hosts n) (percent_decode target.path)) refl
    (ap (mapped_text n (scripts_at hosts n) target.path) (some ∙ ap (λ (l : List ℕ). Some l) (sym readable.1)))

by_host : (hosts : List VHost) (target : Target) (o : Option ℕ) → host_of_target hosts target.host ≡ o
    → Verdict (host_of_target hosts target.host) (IsReadable target.path) (IsMisleading target.path)
    (λ k. HasFitting hosts k (percent_decode target.path)) (mapped_at_host hosts target.path o)
by_host hosts target None at = inl (at, refl)
by_host hosts target (Some n) at = by_decoded hosts target n at (decoded_text target.path) refl

verdict : (hosts : List VHost) (target : Target)
    → Verdict (host_of_target hosts target.host) (IsReadable target.path) (IsMisleading target.path)
    (λ k. HasFitting hosts k (percent_decode target.path)) (mapped_at_host hosts target.path (host_of_target hosts target.host))
verdict hosts target = by_host hosts target (host_of_target hosts target.host) refl

pub finds_what_fits : FindsWhatFits
finds_what_fits hosts target place = finds _ _ _ _ _ (verdict hosts target) place

pub refuses_other_hosts : RefusesOtherHosts
refuses_other_hosts hosts target = unknown_exactly _ _ _ _ _ (verdict hosts target)

pub refuses_unreadable : RefusesUnreadable
refuses_unreadable hosts target = unreadable_exactly _ _ _ _ _ (verdict hosts target)

pub refuses_what_fits_none : RefusesWhatFitsNone
refuses_what_fits_none hosts target = refused_exactly _ _ _ _ _ (verdict hosts target)

-- ---- the verdict on a decoded path

decoded_by_script : (hosts : List VHost) (name : Option (List ℕ)) (path : List ℕ) (n : ℕ) → host_of_target hosts name ≡ Some n → is_utf8 path ≡ true
    → (o : Option Mapped) → script_at n (scripts_at hosts n) path ≡ o
    → decoded_mapped_at_host hosts path (Some n) ≡ cond (list_any is_nul path || has_dot_segment path) (Err NoScript) (ok_or o NoScript)
    → Verdict (host_of_target hosts name) (is_utf8 path ≡ true) (IsDecodedMisleading path) (λ k. HasFitting hosts k path) (decoded_mapped_at_host hosts path (Some n))
decoded_by_script hosts name path n at text None none is =
    inr (inr (inl (n, at, text, inr (no_fitting n hosts path none), is ∙ refused_either (list_any is_nul path || has_dot_segment path) _ refl)))
decoded_by_script hosts name path n at text (Some m) found is =
    elim (cases_Bool (list_any is_nul path || has_dot_segment path)) [
      | inl misleading ↦ inr (inr (inl (n, at, text, inl (decoded_misleads path misleading), is ∙ cond-true _ _ _ misleading)))
      | inr shown ↦ inr (inr (inr (
        n,
        m,
        at,
        text,
        (λ told. false≢true (sym shown ∙ decoded_misleads_from path told)),
        some_fitting n hosts path m found,
        is ∙ cond-false _ _ _ shown,
      )))
    ]

decoded_by_text : (hosts : List VHost) (name : Option (List ℕ)) (path : List ℕ) (n : ℕ) → host_of_target hosts name ≡ Some n
    → (o : Option (List ℕ)) → text_or_none path ≡ o
    → Verdict (host_of_target hosts name) (is_utf8 path ≡ true) (IsDecodedMisleading path) (λ k. HasFitting hosts k path) (decoded_mapped_at_host hosts path (Some n))
decoded_by_text hosts name path n at None none =
    inr (inl (n, at, (λ text. let is = cond-true (is_utf8 path) (Some path) None text in absurd (cc)), ap (decoded_mapped_text n (scripts_at hosts n)) none))
decoded_by_text hosts name path n at (Some text) some =
    let read = text_from path text some in
    decoded_by_script hosts name path n at read.0 (script_at n (scripts_at hosts n) path) refl
    (ap (decoded_mapped_text n (scripts_at hosts n)) (some ∙ ap (λ (l : List ℕ). Some l) (sym read.1)))

decoded_by_host : (hosts : List VHost) (name : Option (List ℕ)) (path : List ℕ) (o : Option ℕ) → host_of_target hosts name ≡ o
    → Verdict (host_of_target hosts name) (is_utf8 path ≡ true) (IsDecodedMisleading path) (λ k. HasFitting hosts k path) (decoded_mapped_at_host hosts path o)
decoded_by_host hosts name path None at = inl (at, refl)
decoded_by_host hosts name path (Some n) at = decoded_by_text hosts name path n at (text_or_none path) refl

decoded_verdict : (hosts : List VHost) (name : Option (List ℕ)) (path : List ℕ)
    → Verdict (host_of_target hosts name) (is_utf8 path ≡ true) (IsDecodedMisleading path) (λ k. HasFitting hosts k path)
    (decoded_mapped_at_host hosts path (host_of_target hosts name))
decoded_verdict hosts name path = decoded_by_host hosts name path (host_of_target hosts name) refl

pub finds_what_fits_decoded : FindsWhatFitsDecoded
finds_what_fits_decoded hosts name path place = finds _ _ _ _ _ (decoded_verdict hosts name path) place

pub refuses_decoded_other_hosts : RefusesDecodedOtherHosts
refuses_decoded_other_hosts hosts name path = unknown_exactly _ _ _ _ _ (decoded_verdict hosts name path)

pub refuses_decoded_unreadable : RefusesDecodedUnreadable
refuses_decoded_unreadable hosts name path = unreadable_exactly _ _ _ _ _ (decoded_verdict hosts name path)

pub refuses_decoded_what_fits_none : RefusesDecodedWhatFitsNone
refuses_decoded_what_fits_none hosts name path = refused_exactly _ _ _ _ _ (decoded_verdict hosts name path)

-- ---- the longest

decoded_mapped : (hosts : List VHost) (name : Option (List ℕ)) (path : List ℕ) (n : ℕ) (mapped : Mapped) → host_of_target hosts name ≡ Some n
    → (o : Option (List ℕ)) → text_or_none path ≡ o → decoded_mapped_text n (scripts_at hosts n) o ≡ Ok mapped → IsMappedTo hosts name path mapped
decoded_mapped hosts name path n mapped at None none is = absurd (cc)
decoded_mapped hosts name path n mapped at (Some text) some is =
    elim (chosen (list_any is_nul text || has_dot_segment text) _ _ _ is) [
      | inl refused ↦ absurd (cc)
      | inr taken ↦
          let found = found_script n (scripts_at hosts n) text mapped (ok_some (script_at n (scripts_at hosts n) text) NoScript mapped taken.1) in
          record {
            host = at ∙ ap (λ (k : ℕ). Some k) (sym found.0);
            script = subst (λ (k : ℕ). IsScriptOf (scripts_at hosts k) path mapped) (sym found.0)
                (subst (λ (l : List ℕ). IsScriptOf (scripts_at hosts n) l mapped) (sym (text_from path text some).1) found.1);
          }
    ]

decoded_mapped_in : (hosts : List VHost) (name : Option (List ℕ)) (path : List ℕ) (o : Option ℕ) (mapped : Mapped) → host_of_target hosts name ≡ o
    → decoded_mapped_at_host hosts path o ≡ Ok mapped → IsMappedTo hosts name path mapped
decoded_mapped_in hosts name path None mapped at is = absurd (cc)
decoded_mapped_in hosts name path (Some n) mapped at is = decoded_mapped hosts name path n mapped at (text_or_none path) refl is

pub maps_decoded_to_longest : MapsDecodedToLongest
maps_decoded_to_longest hosts name path mapped is = decoded_mapped_in hosts name path (host_of_target hosts name) mapped refl is
