-- The Start begins a talk.
use Rattle.std.proofs.Common.{◌≡◌, ℕ, true, false, List, [], ◌∷◌, ◌++◌, refl, sym, ap, ◌∙◌, le_refl, inl, inr, ◌⊎◌}
use Rattle.std.specs.Prelude.{◌||◌, if◌then◌else◌}
use Rattle.std.specs.List.{list_any}
use Rattle.std.proofs.lemmas.Bool.{and_from, eq-eqb, false≢true, or_parts}
use Rattle.host_trace.specs.declared.items.Act.TheVariants.{Start}
use Rattle.host_trace.specs.declared.items.Item.{Item}
use Rattle.host_trace.specs.declared.items.Item.TheVariants.{Out}
use Rattle.host_trace.specs.Kinds.{child_of, is_shut, is_start, is_stop, names_child}
use Rattle.host_trace.specs.Projections.{children, children_of}
use Rattle.host_trace.proofs.FirstLaws.{flat_map-push}
use Rattle.host_trace.proofs.ProjectionLaws.{children-push, upgraded-push}
use Rattle.trace_child.specs.Run.{Offer}
use Rattle.trace_model.specs.Exchange.{pushed, up_to}
use Rattle.trace_model.specs.Legs.{offered_at}
use Rattle.conn_laws.proofs.QuietLaws.{act_breaks_none}
use Rattle.child_core.proofs.WordLaws.{none, start_names}
use Rattle.talk_core.specs.Laws.{IsOfferedWhole, is_of_talk}
use Rattle.talk_core.proofs.BeginLaws.{talks_begin}
use Rattle.talk_laws.specs.Http.{is_parting}
use Rattle.talk_laws.specs.TalkIs.{TalksStart}
use Rattle.talk_laws.proofs.GreetedLaws.{items_leave_greeted}
use Rattle.talk_laws.proofs.ListLaws.{any_parts, any_still, once_heard, wanted_still}
use Rattle.talk_laws.proofs.OpeningLaws.{idled_still}

-- ---- an item of a list with one more at its end is that one, or stands before it

pub record Sooner (items before : List Item) (x : Item) : Type 0 where
  pub more : List Item
  pub is : items ≡ before ++ x ∷ more

pub split_last : (items : List Item) (s : Item) (before : List Item) (x : Item) (later : List Item) → items ++ s ∷ [] ≡ before ++ x ∷ later
    → (before ≡ items) ⊎ Sooner items before x
split_last [] s [] x later is = inl refl
split_last (y ∷ items) s [] x later is = inr (record { more = items; is = cc })
split_last [] s (z ∷ before) x later is = absurd (no_more before x later (cc))
  where
    no_more : (before : List Item) (x : Item) (later : List Item) → [] ≡ before ++ x ∷ later → ⊥
    no_more [] x later is = absurd (cc)
    no_more (z ∷ before) x later is = absurd (cc)
split_last (y ∷ items) s (z ∷ before) x later is = go (split_last items s before x later (cc))
  where
    go : (before ≡ items) ⊎ Sooner items before x → (z ∷ before ≡ y ∷ items) ⊎ Sooner (y ∷ items) (z ∷ before) x
    go (inl same) = inl (cc)
    go (inr sooner) = inr (record { more = sooner.more; is = cc })

-- what is there for the input of a child that was not started before is said of nothing
offered_first : (offered : List Item → Offer) (k : ℕ) (items : List Item) (s : Item) → list_any (is_start k) items ≡ false → IsOfferedWhole offered k (items ++ s ∷ [])
offered_first offered k items s fresh before x later is begun = go (split_last items s before x later is)
  where
    front_fresh : (before rest items : List Item) → items ≡ before ++ rest → list_any (is_start k) items ≡ false → list_any (is_start k) before ≡ false
    front_fresh [] rest items is fresh = refl
    front_fresh (y ∷ before) rest items is fresh =
        let p = or_parts (is_start k y) (list_any (is_start k) (before ++ rest)) (sym (ap (list_any (is_start k)) is) ∙ fresh) in
        rw p.0 (front_fresh before rest (before ++ rest) refl p.1)

    go : (before ≡ items) ⊎ Sooner items before x → (offered before).whole ≡ true
    go (inl same) = absurd (false≢true (sym (ap (list_any (is_start k)) same ∙ fresh) ∙ begun))
    go (inr sooner) = absurd (false≢true (sym (front_fresh before (x ∷ sooner.more) items sooner.is fresh) ∙ begun))

pub talks_start : TalksStart
talks_start site c e legs continued launch k two o fresh =
    let x : Item = Out (Start k c e.number 0 launch) in
    let unnamed = any_parts (names_child k) e fresh in
    let untalked = any_parts (is_of_talk c) e o.untalked in
    let going = any_parts is_stop e o.going in
    let unshut = any_parts (is_shut c) e o.unshut in (
      o.request,
      record {
        spoken = record {
          value = o.value;
          request = o.request;
          mapped = o.mapped;
          greeted =
              items_leave_greeted site c e x continued o.value o.request o.mapped two refl refl
              (act_breaks_none site c e (Start k c e.number 0 launch) ∙ o.greeted.accepted.unbroken) o.greeted;
          calm = idled_still site c e x refl o.calm;
          upgraded_is = upgraded-push e.items x c ∙ ap (λ b. b || false) o.upgraded_is;
          are = refl;
          started = children-push e.items x c ∙ ap (λ b. children e.items c ++ (if b then k ∷ [] else [])) (eq-eqb c c refl) ∙ ap (λ l. l ++ k ∷ []) o.no_child;
          at_first =
              flat_map-push (child_of c e.number 0) e.items x
              ∙ ap (λ b. children_of e.items c e.number 0 ++ (if b then k ∷ [] else [])) (and_from _ _ (and_from _ _ (eq-eqb c c refl) (eq-eqb e.number e.number refl)) refl)
              ∙ ap (λ l. l ++ k ∷ []) (o.new 0 (le_refl 0));
          whole_then = offered_first (offered_at site c (up_to (pushed e x) []) 0) k e.items x (none (is_start k) k e.items (start_names k) unnamed.1);
          before = record { unnamed = unnamed.0; untalked = untalked.0; going = going.0; unshut = unshut.0 };
          once = once_heard c e x refl (λ answers. absurd (false≢true answers)) o.once;
        };
        kind = refl;
        stands = talks_begin c k site.limits c e.number 0 launch e.items unnamed.1 untalked.1 unshut.1 going.1;
        parted = λ gone. absurd (false≢true (sym (any_still (is_parting c) e x refl ∙ o.staying) ∙ gone));
        asks = λ live asked. absurd (false≢true (sym (wanted_still c e x refl refl ∙ o.unasked) ∙ asked));
      },
    )
