-- What a run holds of its child's output.
use Rattle.std.proofs.Common.{◌≡◌, ℕ, List, [], ◌∷◌, ◌++◌, Bool, true, false, ◌||◌, ◌&&◌, refl, sym, ◌∙◌, ap, Option, Some, None, append-nil, append_assoc, subst, inl, inr, map}
use Rattle.std.specs.Prelude.{not, is_some}
use Rattle.std.specs.List.{list_any}
use Rattle.std.proofs.lemmas.Bool.{cases_Bool, or_parts, or_right, false≢true}
use Rattle.std.proofs.lemmas.Grind.{flat_map-append}
use Rattle.host_base.specs.declared.launch.Launch.{Launch}
use Rattle.host_base.specs.declared.site.ScriptKind.{ScriptKind}
use Rattle.host_trace.specs.declared.items.Act.{Act}
use Rattle.host_trace.specs.declared.items.Act.TheVariants.{Start}
use Rattle.host_trace.specs.declared.items.Item.{Item}
use Rattle.host_trace.specs.declared.items.Item.TheVariants.{Out}
use Rattle.host_trace.specs.First.{or_else}
use Rattle.host_trace.specs.Kinds.{names_child, output_heard}
use Rattle.host_trace.specs.Projections.{child_out}
use Rattle.host_trace.specs.Decider.{is_websocket}
use Rattle.host_trace.proofs.ProjectionLaws.{child_out-push}
use Rattle.child_core.specs.declared.ending.Ending.{Ending}
use Rattle.child_core.specs.declared.ending.Ending.TheVariants.{Gone as GoneEnding, Stopped as StoppedEnding, Dropped as DroppedEnding, Refused, Incomplete}
use Rattle.child_core.specs.declared.ending.Outcome.{Outcome}
use Rattle.child_core.specs.declared.ending.Outcome.TheVariants.{Output, Failed, Gone, Stopped, Dropped}
use Rattle.child_core.specs.View.{View, Note, plain, noted, verdict, outcome_after, is_output, is_other, drops_output, cleared, more_if}
use Rattle.child_core.specs.Calls.{ended, drained, outcome_of_ending}
use Rattle.child_core.specs.Setting.{Setting}
use Rattle.child_core.specs.Walk.{walked}
use Rattle.child_core.specs.Laws.{just_begun}
use Rattle.child_core.specs.Output.{HoldsOutput}
use Rattle.child_core.proofs.WordLaws.{more_if-counts, no_output}

-- ---- output of no use stays so

other_stays : (o w : Option Outcome) → is_other o ≡ true → is_other (or_else o w) ≡ true
other_stays (Some d) w e = e
other_stays None w e = absurd (cc)

pub drops_stays : (kind : ScriptKind) (o w : Option Outcome) → drops_output kind o ≡ true → drops_output kind (or_else o w) ≡ true
drops_stays kind o w e = go (is_websocket kind) (is_other o) (is_other (or_else o w)) (other_stays o w) e
  where
    go : (t a b : Bool) → (a ≡ true → b ≡ true) → (t || a) ≡ true → (t || b) ≡ true
    go true a b f e = refl
    go false a b f e = f e

keeps_before : (kind : ScriptKind) (o w : Option Outcome) → drops_output kind (or_else o w) ≡ false → drops_output kind o ≡ false
keeps_before kind o w e = go (drops_output kind o) refl
  where
    go : (b : Bool) → drops_output kind o ≡ b → drops_output kind o ≡ false
    go false is = is
    go true is = absurd (false≢true (sym e ∙ drops_stays kind o w is))

-- ---- the words that keep it

kept_is : (t d : Bool) (heard old : List ℕ) → d ≡ false → cleared (t && d) (more_if heard (true && not d) old) ≡ old ++ heard
kept_is true d heard old e = rw e (more_if-counts heard old)
kept_is false d heard old e = rw e (more_if-counts heard old)

more_none : (heard old : List ℕ) → more_if heard false old ≡ old
more_none [] old = refl
more_none (b ∷ heard) old = refl

and_none : (b : Bool) → (b && false) ≡ false
and_none true = refl
and_none false = refl

clear_none : (t : Bool) → cleared t [] ≡ []
clear_none true = refl
clear_none false = refl

-- nothing is added to what is of no use; what becomes so is dropped where it is decided
gone_is : (t d found : Bool) (heard old : List ℕ) → d ≡ true → (t ≡ false → old ≡ []) → cleared (t && d) (more_if heard (found && not d) old) ≡ []
gone_is true d found heard old e f = rw e refl
gone_is false d found heard old e f = rw (e, and_none found, more_none heard old) (f refl)

undecided_same : (kind : ScriptKind) (o w : Option Outcome) → is_some w ≡ false → drops_output kind (or_else o w) ≡ drops_output kind o
undecided_same kind (Some d) w e = refl
undecided_same kind None None e = refl
undecided_same kind None (Some d) e = absurd (cc)

lost_parts : (lost found : Bool) → (lost || not found) ≡ false → (lost ≡ false) × (found ≡ true)
lost_parts false true e = (refl, refl)
lost_parts false false e = absurd (cc)
lost_parts true found e = absurd (cc)

pub holds-noted : (lost : Bool) (c : ℕ) (v : View) (handed : List ℕ) (L : List Item) (n : Note) (x : Item) → HoldsOutput lost v handed L →
    HoldsOutput (lost || not n.found) (noted c v n x) handed (L ++ x ∷ [])
holds-noted lost c v handed L n x h = record {
  rest = h.rest ++ output_heard v.number x;
  front = sym (append_assoc handed h.rest (output_heard v.number x)) ∙ (ap (λ l. l ++ output_heard v.number x) h.front ∙ sym (child_out-push L x v.number));
  kept = λ l d.
      let p = lost_parts lost n.found l in
      ap (λ b. cleared (is_some (verdict c v n x) && drops_output v.kind (outcome_after c v n x)) (more_if (output_heard v.number x) (b && not (drops_output v.kind (outcome_after c v n x))) v.output)) p.1
      ∙ (kept_is (is_some (verdict c v n x)) (drops_output v.kind (outcome_after c v n x)) (output_heard v.number x) v.output d
      ∙ ap (λ l. l ++ output_heard v.number x) (h.kept p.0 (keeps_before v.kind v.outcome (verdict c v n x) d)));
  dropped = λ d.
      gone_is (is_some (verdict c v n x)) (drops_output v.kind (outcome_after c v n x)) n.found (output_heard v.number x) v.output d
      (λ u. h.dropped (sym (undecided_same v.kind v.outcome (verdict c v n x) u) ∙ d));
}

or_end : (b : Bool) → (b || false) ≡ b
or_end true = refl
or_end false = refl

pub holds-walked : (lost : Bool) (s : Setting) (v : View) (handed : List ℕ) (L : List Item) (acts : List Act) → HoldsOutput lost v handed L →
    HoldsOutput lost (walked s v acts) handed (L ++ map Out acts)
holds-walked lost s v handed L [] h = subst (HoldsOutput lost v handed) (sym (append-nil L)) h
holds-walked lost s v handed L (a ∷ acts) h =
    subst (HoldsOutput lost (walked s (noted s.conn v plain (Out a)) acts) handed) (append_assoc L (Out a ∷ []) (map Out acts))
    (holds-walked lost s (noted s.conn v plain (Out a)) handed (L ++ Out a ∷ []) acts
    (subst (λ l. HoldsOutput l (noted s.conn v plain (Out a)) handed (L ++ Out a ∷ [])) (or_end lost) (holds-noted lost s.conn v handed L plain (Out a) h)))

-- ---- the start, and items before

pub no_output_in : (k : ℕ) (L : List Item) → list_any (names_child k) L ≡ false → child_out L k ≡ []
no_output_in k [] e = refl
no_output_in k (x ∷ L) e =
    let p = or_parts (names_child k x) (list_any (names_child k) L) e in
    rw (no_output k x p.0) (no_output_in k L p.1)

pub holds-start : (s : Setting) (k : ℕ) (kind : ScriptKind) (body : List ℕ) (whole : Bool) (d j hop : ℕ) (launch : Launch) (L : List Item) → list_any (names_child k) L ≡ false →
    HoldsOutput false (just_begun s k kind body whole) [] (L ++ Out (Start k d j hop launch) ∷ [])
holds-start s k kind body whole d j hop launch L fresh = record {
  rest = [];
  front = sym (child_out-push L (Out (Start k d j hop launch)) k ∙ rw (no_output_in k L fresh) refl);
  kept = λ l d. refl;
  dropped = λ d. refl;
}

pub out_behind : (k : ℕ) (before L : List Item) → list_any (names_child k) before ≡ false → child_out (before ++ L) k ≡ child_out L k
out_behind k before L fresh = flat_map-append (output_heard k) before L ∙ ap (λ l. l ++ child_out L k) (no_output_in k before fresh)

pub holds-behind : (lost : Bool) (v : View) (handed : List ℕ) (before L : List Item) → list_any (names_child v.number) before ≡ false → HoldsOutput lost v handed L → HoldsOutput lost v handed (before ++ L)
holds-behind lost v handed before L fresh h = record {
  rest = h.rest;
  front = h.front ∙ sym (out_behind v.number before L fresh);
  kept = h.kept;
  dropped = h.dropped;
}

-- ---- what is drained, and what its connection ends

pub holds-whole : (v : View) (handed : List ℕ) (L : List Item) → HoldsOutput false v handed L → drops_output v.kind v.outcome ≡ false → handed ++ v.output ≡ child_out L v.number
holds-whole v handed L h d = ap (λ l. handed ++ l) (h.kept refl d) ∙ h.front

pub holds-drained : (v : View) (handed : List ℕ) (L : List Item) → HoldsOutput false v handed L → HoldsOutput false (drained v) (handed ++ v.output) L
holds-drained v handed L h = elim (cases_Bool (drops_output v.kind v.outcome)) [
  | inl d ↦ record {
    rest = h.rest;
    front = ap (λ l. (handed ++ l) ++ h.rest) (h.dropped d) ∙ (ap (λ l. l ++ h.rest) (append-nil handed) ∙ h.front);
    kept = λ l e. absurd (false≢true (sym e ∙ d));
    dropped = λ e. refl;
  }
  | inr d ↦ record {
    rest = [];
    front = append-nil (handed ++ v.output) ∙ holds-whole v handed L h d;
    kept = λ l e. refl;
    dropped = λ e. refl;
  }
]

never_output : (ending : Ending) → is_other (Some (outcome_of_ending ending)) ≡ true
never_output GoneEnding = refl
never_output _ = refl

by_output : (kind : ScriptKind) (o : Option Outcome) (d : Outcome) → is_other (Some d) ≡ true → drops_output kind (or_else o (Some d)) ≡ false → is_output o ≡ true
by_output kind None d e f = absurd (false≢true (sym f ∙ or_right (is_websocket kind) _ e))
by_output kind (Some Output) d e f = refl
by_output kind (Some _) d e f = absurd (false≢true (sym f ∙ or_right (is_websocket kind) true refl))

pub holds-ended : (lost : Bool) (v : View) (handed : List ℕ) (L : List Item) (ending : Ending) → (lost ≡ true → is_output v.outcome ≡ false) → HoldsOutput lost v handed L →
    HoldsOutput false (ended v ending) handed L
holds-ended lost v handed L ending firm h = record {
  rest = h.rest;
  front = h.front;
  kept = λ l d.
      let out = by_output v.kind v.outcome (outcome_of_ending ending) (never_output ending) d in
      let had : lost ≡ false = elim (cases_Bool lost) [
        | inl t ↦ absurd (false≢true (sym (firm t) ∙ out))
        | inr f ↦ f
      ] in
      rw d (h.kept had (keeps_before v.kind v.outcome (Some (outcome_of_ending ending)) d));
  dropped = λ d. rw d refl;
}
