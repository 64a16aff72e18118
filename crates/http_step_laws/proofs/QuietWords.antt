-- A connection of which nothing is due, and one that has a child.
use Rattle.std.proofs.Common.{◌≡◌, ℕ, Bool, true, false, List, [], ◌∷◌, ◌++◌, Option, Some, refl, sym, ap, ◌∙◌, subst}
use Rattle.std.proofs.lemmas.Bool.{false_from_ne_true}
use Rattle.host_trace.specs.declared.items.Act.{Act}
use Rattle.host_trace.specs.declared.items.Event.{Event}
use Rattle.host_trace.specs.declared.items.Item.{Item}
use Rattle.trace_child.specs.Words.{is_filled}
use Rattle.child_core.specs.declared.ending.Outcome.{Outcome}
use Rattle.child_core.specs.declared.ending.Outcome.TheVariants.{Output}
use Rattle.child_core.specs.View.{View}
use Rattle.trace_model.specs.Exchange.{Exchange}
use Rattle.trace_model.specs.Exchanges.{has_ended}
use Rattle.trace_model.specs.Legs.{Leg as Started}
use Rattle.exchange_stage.specs.declared.stage.Leg.{Leg}
use Rattle.exchange_stage.specs.declared.stage.Stage.{Stage}
use Rattle.exchange_stage.specs.declared.stage.Stage.TheVariants as At
use Rattle.exchange_laws.specs.Items.{is_calm, is_nothing}
use Rattle.exchange_laws.specs.Rules.{IsUnended}
use Rattle.child_laws.specs.Children.{KnowsChildren}
use Rattle.child_laws.specs.Step.{Turn}
use Rattle.http_conn.specs.HttpConn.{HttpConn}
use Rattle.http_conn.specs.Kept.{is_reading, flags_of, number_of, site_of}
use Rattle.http_conn.specs.Ready.{outcome_of_run}
use Rattle.http_stage_laws.proofs.StagedLaws.{no_last, outcome_told}
use Rattle.http_step_laws.specs.Standing.{Quiet, QuietBy, QuietFound, RunQuiet, Standing}
use Rattle.http_step_laws.proofs.LackLaws.{not_output}
use Rattle.http_step_laws.proofs.StageWords.{ended_found, ended_lost, known, stage_at}
use Rattle.http_step_laws.proofs.ReadLaws.{is_at_reading}

pub calm_quiet : (conn : HttpConn) (e : Exchange) (legs : List Started) (t : Stage) → (t ≡ At.Answered → is_filled legs ≡ true) → QuietBy conn e t → is_calm legs t ≡ true
calm_quiet conn e legs At.Answered some q = some refl
calm_quiet conn e legs (At.Running leg) some q = ap is_nothing q.0
calm_quiet conn e legs (At.Rejected cause bare) some q = absurd q
calm_quiet conn e legs (At.Interrupted cause) some q = absurd q
calm_quiet conn e legs (At.Starting leg launch body whole) some q = absurd q
calm_quiet conn e legs (At.Finishing text closes) some q = absurd q
calm_quiet conn e legs _ some q = refl

pub some_last : {X : Type 0} (xs : List X) (x : X) (ys : List X) → ys ≡ xs ++ x ∷ [] → is_filled ys ≡ true
some_last xs x [] is = absurd (no_last xs x is)
some_last xs x (y ∷ ys) is = refl

not_out : (conn : HttpConn) (e : Exchange) (leg : Leg) (o : Option Outcome) → RunQuiet conn e leg o → o ≡ Some Output → ⊥
not_out conn e leg o q is = subst (λ (p : Option Outcome). RunQuiet conn e leg p) is q

-- the whole answer doesn't stand unless its stage says so
pub quiet_unended : (L : List Item) (ev : Event) (acts : List Act) (turn : Turn) (e : Exchange) (conn : HttpConn) (n : ℕ) (s : Standing L ev acts turn n e conn) → conn.lost ≡ false → QuietFound e conn
    → IsUnended (site_of conn) (number_of conn) e s.legs conn.stage
quiet_unended L ev acts turn e conn n s found q = go conn.stage q.quiet
  where
    go : (t : Stage) → QuietBy conn e t → IsUnended (site_of conn) (number_of conn) e s.legs t
    go (At.Running leg) r = λ started last der.
        not_output (outcome_of_run conn.run) (not_out conn e leg (outcome_of_run conn.run) r.1)
        (sym (outcome_told (site_of conn) (number_of conn) e n s.legs conn.run (known L ev acts turn n e conn s found) started last) ∙ der)
    go (At.Finishing text closes) r = absurd r
    go _ r = tt

pub quiet_goes_on : (L : List Item) (ev : Event) (acts : List Act) (turn : Turn) (e : Exchange) (conn : HttpConn) (n : ℕ) (s : Standing L ev acts turn n e conn) → Quiet e conn
    → has_ended (site_of conn) (number_of conn) e ≡ false
quiet_goes_on L ev acts turn e conn n s q = go conn.lost refl
  where
    go : (b : Bool) → conn.lost ≡ b → has_ended (site_of conn) (number_of conn) e ≡ false
    go true is = ended_lost L ev acts turn n e conn s is ∙ q.unover
    go false is = ended_found L ev acts turn n e conn s is (quiet_unended L ev acts turn e conn n s is (q.found is)) ∙ q.unover

-- a connection that has a child reads no request
pub away_of : (L : List Item) (ev : Event) (acts : List Act) (turn : Turn) (e : Exchange) (conn : HttpConn) (n : ℕ) (s : Standing L ev acts turn n e conn) → conn.lost ≡ false → (v : View) → conn.run ≡ Some v
    → is_reading conn.stage ≡ false
away_of L ev acts turn e conn n s found v run =
    let knows : KnowsChildren (site_of conn) (number_of conn) e false n s.legs (Some v) =
    subst (λ (r : Option View). KnowsChildren (site_of conn) (number_of conn) e false n s.legs r) run (known L ev acts turn n e conn s found) in
    false_from_ne_true (is_reading conn.stage) (λ reads.
    no_last knows.runs.older knows.runs.leg (sym (stage_at conn e s.legs At.Reading (is_at_reading conn.stage reads) (s.staged found)).0.none ∙ knows.runs.are))

-- .. and was accepted
pub child_accepted : (L : List Item) (ev : Event) (acts : List Act) (turn : Turn) (e : Exchange) (conn : HttpConn) (n : ℕ) (s : Standing L ev acts turn n e conn) → (v : View) → conn.run ≡ Some v
    → (flags_of conn).accepted ≡ true
child_accepted L ev acts turn e conn n s v run = go conn.lost refl
  where
    go : (b : Bool) → conn.lost ≡ b → (flags_of conn).accepted ≡ true
    go true is = s.inward.lost_in is
    go false found = s.inward.accepted (away_of L ev acts turn e conn n s found v run)
