-- A run that is decided keeps nothing, and what ends it leaves it as it is.
use Rattle.std.proofs.Common.{◌≡◌, ℕ, Bool, true, false, List, [], ◌∷◌, Option, Some, None, refl, sym, ap, ◌∙◌}
use Rattle.std.specs.Prelude.{not, ◌&&◌, ◌||◌, is_some}
use Rattle.std.proofs.lemmas.Bool.{false≢true}
use Rattle.host_base.specs.declared.site.ScriptKind.{ScriptKind}
use Rattle.host_trace.specs.declared.items.Item.{Item}
use Rattle.host_trace.specs.First.{or_else}
use Rattle.host_trace.specs.Kinds.{input_fed, output_heard}
use Rattle.child_core.specs.declared.ending.Outcome.{Outcome}
use Rattle.child_core.specs.declared.ending.Ending.TheVariants.{Dropped, Incomplete}
use Rattle.child_core.specs.View.{View, Note, noted, verdict, without, more_if, cleared, drops_output}
use Rattle.child_core.specs.Calls.{ended, offered, outcome_of_ending}
use Rattle.child_core.specs.Setting.{Setting}
use Rattle.child_core.specs.Laws.{just_begun}
use Rattle.child_core.proofs.ActLaws.{and_false}
use Rattle.child_laws.specs.Children.{IsSpent}
use Rattle.child_laws.specs.Laws.{IsIdle}

-- ---- an item

no_more : (bytes old : List ℕ) → more_if bytes false old ≡ old
no_more [] old = refl
no_more (b ∷ bytes) old = refl

without_none : (bytes : List ℕ) → without bytes [] ≡ []
without_none [] = refl
without_none (b ∷ bytes) = refl

unfed_then : (o v : Option Outcome) (more fed unfed : List ℕ) → is_some (or_else o v) ≡ true → (is_some o ≡ true → unfed ≡ [])
    → cleared (is_some v) (more_if more (not (is_some o)) (without fed unfed)) ≡ []
unfed_then o (Some d) more fed unfed e s = refl
unfed_then (Some d) None more fed unfed e s = no_more more (without fed unfed) ∙ (ap (without fed) (s refl) ∙ without_none fed)
unfed_then None None more fed unfed e s = absurd (false≢true e)

whole_then : (o v : Option Outcome) (last whole : Bool) → is_some (or_else o v) ≡ true → (is_some o ≡ true → whole ≡ false)
    → (not (is_some v) && (last && not (is_some o) || whole)) ≡ false
whole_then o (Some d) last whole e s = refl
whole_then (Some d) None last whole e s = ap (λ b. b || whole) (and_false last) ∙ s refl
whole_then None None last whole e s = absurd (false≢true e)

output_then : (kind : ScriptKind) (o v : Option Outcome) (bytes old : List ℕ) (found : Bool) → is_some (or_else o v) ≡ true → drops_output kind (or_else o v) ≡ true
    → (is_some o ≡ true → drops_output kind o ≡ true → old ≡ [])
    → cleared (is_some v && drops_output kind (or_else o v)) (more_if bytes (found && not (drops_output kind (or_else o v))) old) ≡ []
output_then kind o (Some d) bytes old found e drops s = ap (λ b. cleared b (more_if bytes (found && not (drops_output kind (or_else o (Some d)))) old)) drops
output_then kind (Some d) None bytes old found e drops s =
    ap (λ b. more_if bytes (found && not b) old) drops ∙ (ap (λ b. more_if bytes b old) (and_false found) ∙ (no_more bytes old ∙ s refl drops))
output_then kind None None bytes old found e drops s = absurd (false≢true e)

pub spent_noted : (c : ℕ) (v : View) (n : Note) (x : Item) → IsSpent v → IsSpent (noted c v n x)
spent_noted c v n x s = record {
  unfed = λ d. unfed_then v.outcome (verdict c v n x) n.more (input_fed v.number x) v.unfed d s.unfed;
  whole = λ d. whole_then v.outcome (verdict c v n x) n.last v.whole d s.whole;
  output = λ d drops. output_then v.kind v.outcome (verdict c v n x) (output_heard v.number x) v.output n.found d drops s.output;
}

pub spent_begun : (s : Setting) (k : ℕ) (kind : ScriptKind) (body : List ℕ) (whole : Bool) → IsSpent (just_begun s k kind body whole)
spent_begun s k kind body whole = record {
  unfed = λ d. absurd (false≢true d);
  whole = λ d. absurd (false≢true d);
  output = λ d drops. absurd (false≢true d);
}

-- ---- ends

abbrev with : View → Option Outcome → List ℕ → Bool → List ℕ → View
with v outcome unfed whole output = record v { outcome = outcome; unfed = unfed; whole = whole; output = output }

kept_is : (kind : ScriptKind) (outcome : Option Outcome) (output : List ℕ) → (drops_output kind outcome ≡ true → output ≡ []) → cleared (drops_output kind outcome) output ≡ output
kept_is kind outcome output f = go (drops_output kind outcome) f
  where
    go : (b : Bool) → (b ≡ true → output ≡ []) → cleared b output ≡ output
    go true f = sym (f refl)
    go false f = refl

decided_kept : (o : Option Outcome) (d : Outcome) → is_some o ≡ true → or_else o (Some d) ≡ o
decided_kept (Some a) d e = refl
decided_kept None d e = absurd (false≢true e)

-- the end of the client's input leaves a run that is decided
pub cut_spent : (v : View) → is_some v.outcome ≡ true → IsSpent v → ended v Incomplete ≡ v
cut_spent v d s =
    let o : Outcome = outcome_of_ending Incomplete in
    ap (λ a. with v a [] false (cleared (drops_output v.kind a) v.output)) (decided_kept v.outcome o d)
    ∙ (ap (λ u. with v v.outcome u false (cleared (drops_output v.kind v.outcome) v.output)) (sym (s.unfed d))
    ∙ (ap (λ w. with v v.outcome v.unfed w (cleared (drops_output v.kind v.outcome) v.output)) (sym (s.whole d))
    ∙ ap (λ l. with v v.outcome v.unfed v.whole l) (kept_is v.kind v.outcome v.output (s.output d))))

or_twice : (o : Option Outcome) (d : Outcome) → or_else (or_else o (Some d)) (Some d) ≡ or_else o (Some d)
or_twice None d = refl
or_twice (Some a) d = refl

cleared_twice : (b : Bool) (l : List ℕ) → cleared b (cleared b l) ≡ cleared b l
cleared_twice true l = refl
cleared_twice false l = refl

-- memory ran out twice
pub dropped_twice : (v : View) → ended (ended v Dropped) Dropped ≡ ended v Dropped
dropped_twice v =
    let o : Outcome = outcome_of_ending Dropped in
    let now : Option Outcome = or_else v.outcome (Some o) in
    ap (λ a. record (with v a [] false (cleared (drops_output v.kind a) (cleared (drops_output v.kind now) v.output))) { abandoned = true }) (or_twice v.outcome o)
    ∙ ap (λ l. record (with v now [] false l) { abandoned = true }) (cleared_twice (drops_output v.kind now) v.output)

-- .. for a run to which what came was not offered
pub dropped_offered : (v : View) (more : List ℕ) (last : Bool) → ended (offered v more last) Dropped ≡ ended v Dropped
dropped_offered v more last = refl

-- a run that is decided, or to which all was offered, takes nothing more
pub offered_spent : (v : View) (more : List ℕ) (last : Bool) → is_some v.outcome ≡ true → offered v more last ≡ v
offered_spent v more last d =
    ap (λ b. record v { unfed = more_if more (not b) v.unfed; whole = last && not b || v.whole }) d
    ∙ (ap (λ l. record v { unfed = l; whole = last && false || v.whole }) (no_more more v.unfed)
    ∙ ap (λ b. record v { whole = b || v.whole }) (and_false last))

pub offered_whole : (v : View) (last : Bool) → v.whole ≡ true → offered v [] last ≡ v
offered_whole v last w = ap (λ b. record v { whole = b }) (go (last && not (is_some v.outcome)) v.whole w)
  where
    go : (a b : Bool) → b ≡ true → (a || b) ≡ b
    go true b e = sym e
    go false b e = refl

pub is_idle : (v : View) → IsIdle v
is_idle v = record {
  offer = λ d more last. offered_spent v more last d;
  whole = λ w last. offered_whole v last w;
  cut = λ d s. cut_spent v d s;
  twice = dropped_twice v;
  unheard = λ more last. dropped_offered v more last;
}
