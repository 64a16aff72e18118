-- A connection before it heard anything is at rest.
use Rattle.std.proofs.Common.{◌≡◌, ◌≤◌, ℕ, Bool, true, false, ◌||◌, [], Option, None, Some, refl, sym, ap, ◌∙◌, subst}
use Rattle.std.proofs.lemmas.Bool.{and_right, false≢true, false_from_ne_true}
use Rattle.host_base.specs.declared.launch.Peer.{Peer}
use Rattle.child_core.specs.View.{View}
use Rattle.conn_flags.specs.Knows.{KnowsFlags}
use Rattle.conn_flags.specs.View.{View as Flags, is_live}
use Rattle.conn_flags.proofs.KnowsLaws.{known_first}
use Rattle.trace_model.specs.Exchange.{first_exchange, reading}
use Rattle.trace_model.specs.Readings.{is_due}
use Rattle.exchange_request.specs.Knows.{is_looked_at}
use Rattle.exchange_stage.specs.declared.stage.Stage.{Stage}
use Rattle.exchange_stage.specs.declared.stage.Stage.TheVariants as At
use Rattle.exchange_laws.specs.Rules.{Rests}
use Rattle.exchange_laws.specs.StageIs.{StageIs}
use Rattle.exchange_laws.specs.Unanswered.{is_open}
use Rattle.exchange_laws.proofs.BeginLaws.{first_is_read}
use Rattle.child_laws.specs.Children.{KnowsChildren}
use Rattle.child_laws.proofs.KnowLaws.{none_started}
use Rattle.child_laws.proofs.OverLaws.{new_unended}
use Rattle.conn_laws.specs.Front.{KnowsFront}
use Rattle.conn_laws.proofs.FrontLaws.{starts_known}
use Rattle.http_conn.specs.HttpConn.{HttpConn}
use Rattle.http_conn.specs.Kept.{StandsFor, front_of, is_reading, flags_of, number_of, site_of}
use Rattle.http_conn.specs.Ready.{outcome_of_run, undrained}
use Rattle.http_stage_laws.specs.Inward.{CutIs, Inward, IsDecided, StaysRun, is_left}
use Rattle.http_stage_laws.specs.HeardStages.{Rested, StartsRest}
use Rattle.http_stage_laws.proofs.HeardRest.{due_begun}
use Rattle.http_conn.specs.New.{IsNew}

module _ (conn : HttpConn) (next : ℕ) (two : 2 ≤ (site_of conn).limits.head) (new : IsNew conn) where
  front : StandsFor conn first_exchange
  front =
      subst (λ (p : Option Peer). KnowsFront (site_of conn) (number_of conn) p conn.lost (is_reading conn.stage) (front_of conn) first_exchange) (sym new.peer_is)
      (subst (λ (b : Bool). KnowsFront (site_of conn) (number_of conn) None b (is_reading conn.stage) (front_of conn) first_exchange) (sym new.found)
      (subst (λ (s : Stage). KnowsFront (site_of conn) (number_of conn) None false (is_reading s) (front_of conn) first_exchange) (sym new.reads)
      (starts_known (site_of conn) (number_of conn) (front_of conn) new.front)))

  -- of nothing 100 Continue is not due
  undue : is_due (reading (site_of conn) (number_of conn) first_exchange) ≡ false
  undue = false_from_ne_true (is_due (reading (site_of conn) (number_of conn) first_exchange)) (λ due. false≢true (due_begun (site_of conn).limits [] two due))

  dead : is_live (flags_of conn) ≡ true → ⊥
  dead live = absurd (false≢true (sym (ap is_live new.flags) ∙ live))

  staged : StageIs (site_of conn) (number_of conn) first_exchange [] conn.continued (is_looked_at conn.request) (conn.closing || conn.closes) [] conn.stage
  staged =
      let first = first_is_read (site_of conn) (number_of conn) two in
      subst (λ (s : Stage). StageIs (site_of conn) (number_of conn) first_exchange [] conn.continued (is_looked_at conn.request) (conn.closing || conn.closes) [] s) (sym new.reads)
      (subst (λ (b : Bool). StageIs (site_of conn) (number_of conn) first_exchange [] b (is_looked_at conn.request) (conn.closing || conn.closes) [] At.Reading) (sym new.front.continued)
      (subst (λ (b : Bool). StageIs (site_of conn) (number_of conn) first_exchange [] false (is_looked_at conn.request) (b || conn.closes) [] At.Reading) (sym new.front.closing)
      (subst (λ (b : Bool). StageIs (site_of conn) (number_of conn) first_exchange [] false (is_looked_at conn.request) b [] At.Reading) (sym new.unclosed)
      (record { unanswered = first.0.unanswered; none = first.0.none; no_child = first.0.no_child; unbroken = first.0.unbroken; unready = λ looked. first.0.unready refl }, first.1))))

  rested : Rested conn first_exchange []
  rested = record {
    staged = record { more = []; kept = λ keeps. sym (ap undrained new.run); is = staged };
    rests =
        subst (λ (s : Stage). Rests (site_of conn) (number_of conn) first_exchange [] (is_looked_at conn.request) [] s) (sym new.reads) (λ live. absurd (false≢true live));
    heard = record {
      bodies = λ hop request at. absurd (false≢true (sym (ap is_reading at) ∙ ap is_reading new.reads));
      looked = λ other. absurd (false≢true (sym other ∙ ap is_reading new.reads));
      handed = λ ready. absurd (false≢true (sym new.front.ready ∙ ready));
    };
    going = λ live. absurd (dead live);
    let_on = λ first. and_right (is_open (number_of conn) first_exchange) (is_due (reading (site_of conn) (number_of conn) first_exchange)) undue;
  }

  inward : Inward conn
  inward = record {
    calm = λ is. absurd (false≢true (sym new.front.idled ∙ is));
    calm_found = λ found is. absurd (false≢true (sym new.front.idled ∙ is));
    accepted = λ other. absurd (false≢true (sym other ∙ ap is_reading new.reads));
    http = ap (λ (m : Flags). m.upgraded) new.flags;
    lost_in = λ lost. absurd (false≢true (sym new.found ∙ lost));
    decided = λ found still. subst (λ (run : Option View). IsDecided run) (sym new.run) tt;
    left = λ found is. absurd (false≢true (sym (ap (λ (run : Option View). is_left (outcome_of_run run)) new.run) ∙ is));
    cut_is = λ found. subst (λ (s : Stage). CutIs s (outcome_of_run conn.run) conn.cut) (sym new.reads) new.uncut;
    held = λ shut. absurd (false≢true (sym (ap (λ (m : Flags). m.shut) new.flags) ∙ shut));
    stays = λ found unshut ends whole. subst (λ (run : Option View). StaysRun run) (sym new.run) tt;
    closes_is = λ is. absurd (false≢true (sym new.unclosed ∙ is));
    room = λ found. ap (λ (m : Flags). m.no_room) new.flags;
    asked = λ asked. absurd (false≢true (sym (ap (λ (m : Flags). m.asked) new.flags) ∙ asked));
    within = λ found open_yet either. absurd (false≢true (sym (ap (λ (m : Flags). m.asked || m.ended) new.flags) ∙ either));
    past = λ found open_yet unshut ended. absurd (false≢true (sym (ap (λ (m : Flags). m.ended) new.flags) ∙ ended));
  }

pub starts_rest : StartsRest
starts_rest conn next two small new = record {
  two = two;
  small = small;
  now = refl;
  front = front conn next two new;
  children = subst (λ (run : Option View). KnowsChildren (site_of conn) (number_of conn) first_exchange false next [] run) (sym new.run) (none_started (site_of conn) (number_of conn) next);
  even = λ v run. absurd (never v (sym new.run ∙ run));
  starts_first = λ k started. absurd (false≢true started);
  flags = subst (λ (m : Flags). KnowsFlags m []) (sym new.flags) (known_first (number_of conn));
  inward = inward conn next two new;
  unheard = λ other. (refl, refl);
  unended = new_unended (site_of conn) (number_of conn) first_exchange refl;
  found = λ found. rested conn next two new;
  lost = λ lost. absurd (false≢true (sym new.found ∙ lost));
}
  where
    never : (v : View) → None ≡ Some v → ⊥
    never v is = cc
