-- Draining the output of a run changes nothing else, and a new run to which its input was offered.
use Rattle.std.proofs.Common.{◌≡◌, ℕ, Bool, true, false, List, [], ◌∷◌, Some, refl, ap, ◌∙◌}
use Rattle.std.specs.Prelude.{not, ◌&&◌, is_some}
use Rattle.host_base.specs.declared.site.ScriptKind.{ScriptKind}
use Rattle.host_base.specs.declared.site.Site.{Site}
use Rattle.host_trace.specs.declared.items.Act.{Act}
use Rattle.host_trace.specs.declared.items.Item.{Item}
use Rattle.host_trace.specs.First.{or_else}
use Rattle.child_core.specs.declared.ending.Ending.TheVariants.{Dropped}
use Rattle.child_core.specs.declared.ending.Outcome.TheVariants as Ended
use Rattle.child_core.specs.Calls.{drained, ended, offered}
use Rattle.child_core.specs.Knows.{KnowsRun}
use Rattle.child_core.specs.Laws.{just_begun}
use Rattle.child_core.specs.Setting.{Setting}
use Rattle.child_core.specs.View.{View, begun as new_run, cleared, drops_output}
use Rattle.trace_model.specs.Exchange.{Exchange}
use Rattle.trace_model.specs.Legs.{Leg}
use Rattle.child_laws.specs.Setting.{setting}
use Rattle.child_laws.specs.Children.{HeldAs, KnowsLeg, KnowsLast, KnowsChildren, NoMore}
use Rattle.child_laws.specs.Step.{Counted, Dealt, Turn, waiting, begun, served, TurnIs, DealsWith}

drained_known : (early : Bool) (s : Setting) (v : View) (L : List Item) → KnowsRun early s v L → KnowsRun early s (drained v) L
drained_known early s v L k = record {
  book = k.book;
  lingers = k.lingers;
  starts = k.starts;
  begun = k.begun;
  answers = k.answers;
  exits = k.exits;
  started = k.started;
  refused = k.refused;
  exited = k.exited;
  input_ended = k.input_ended;
  output_ended = k.output_ended;
  killed = k.killed;
  asked = k.asked;
  decided = k.decided;
  by_output = k.by_output;
  outcome = k.outcome;
  eof = k.eof;
  hung_up = k.hung_up;
  linger_left = k.linger_left;
  abandoned = k.abandoned;
  run_left = k.run_left;
  output_left = k.output_left;
  within = k.within;
  body = k.body;
  front = k.front;
  whole = k.whole;
  talk = k.talk;
  took = k.took;
  in_turn = k.in_turn;
  owes = k.owes;
  stops = k.stops;
}

drained_leg : (site : Site) (c : ℕ) (e : Exchange) (early : Bool) (leg : Leg) (v : View) → KnowsLeg site c e early leg v → KnowsLeg site c e early leg (drained v)
drained_leg site c e early leg v k = record {
  is = record { number = k.is.number; kind = k.is.kind };
  plain = k.plain;
  knows = drained_known early (setting site c e leg.hop) v e.items k.knows;
  spent = record { unfed = k.spent.unfed; whole = k.spent.whole; output = λ d drops. refl };
  unnamed = k.unnamed;
}

none_cleared : (b : Bool) → [] ≡ cleared b []
none_cleared true = refl
none_cleared false = refl

drained_held : (early : Bool) (held v : View) → HeldAs early held v → HeldAs early (drained held) (drained v)
drained_held false held v is = ap drained is
drained_held true held v is =
    ap drained is ∙ ap (λ (l : List ℕ). record (ended v Dropped) { output = l }) (none_cleared (drops_output v.kind (or_else v.outcome (Some Ended.Dropped))))

drained_last : (More : View → Type 0) (site : Site) (c : ℕ) (e : Exchange) (early : Bool) (ls : List Leg) (held : View) → KnowsLast More site c e early ls held → KnowsLast More site c e early ls (drained held)
drained_last More site c e early ls held k = record {
  older = k.older;
  leg = k.leg;
  are = k.are;
  started = k.started;
  hops = k.hops;
  view = drained k.view;
  held_as = drained_held early held k.view k.held_as;
  known = drained_leg site c e (early && not (is_some k.view.outcome)) k.leg k.view k.known;
  apart = k.apart;
  settled = k.settled;
  led = k.led;
}

drained_turn : (heard : List Item) (turn : Turn) (v : View) → TurnIs heard turn v → TurnIs heard turn (drained v)
drained_turn heard waiting v t = ap drained t
drained_turn heard begun v t = (ap drained t.0, t.1)
drained_turn heard (served may) v t = (record { input = t.0.input; kill = t.0.kill; release = t.0.release; ask = t.0.ask }, t.1)

drained_counted : (heard : List Item) (acts : List Act) (v : View) → Counted heard acts v → Counted heard acts (drained v)
drained_counted heard acts v k = record { input = k.input; kill = k.kill; release = k.release; ask = k.ask }

-- ---- the laws

pub drains_known : (site : Site) (c : ℕ) (e : Exchange) (early : Bool) (next : ℕ) (ls : List Leg) (v : View)
    → KnowsChildren site c e early next ls (Some v) → KnowsChildren site c e early next ls (Some (drained v))
drains_known site c e early next ls v k = record { fresh = k.fresh; runs = drained_last NoMore site c e early ls v k.runs }

pub deals_drained : (site : Site) (c : ℕ) (heard : List Item) (acts : List Act) (e : Exchange) (over : List Exchange) (early : Bool) (turn : Turn) (next : ℕ) (ls : List Leg) (v : View)
    → DealsWith site c heard acts e over early turn next ls (Some v) → DealsWith site c heard acts e over early turn next ls (Some (drained v))
deals_drained site c heard acts e over early turn next ls v k = record {
  items = k.items;
  fresh = k.fresh;
  runs = drained_last (Dealt heard acts) site c e early ls v k.runs;
  last = (drained_counted heard acts v k.last.0, drained_turn heard turn v k.last.1);
  ended = k.ended;
}

pub new_offered : (s : Setting) (k : ℕ) (kind : ScriptKind) (body : List ℕ) (whole : Bool) → offered (new_run k kind s.limits) body whole ≡ just_begun s k kind body whole
new_offered s k kind [] true = refl
new_offered s k kind [] false = refl
new_offered s k kind (b ∷ body) true = refl
new_offered s k kind (b ∷ body) false = refl
