-- The Start of a script.
use Rattle.std.proofs.Common.{◌≡◌, ◌≤◌, ℕ, suc, Bool, true, false, List, [], ◌∷◌, ◌++◌, map, Some, None, refl, sym, ap, subst, ◌∙◌, append-nil, le_refl, arith}
use Rattle.std.specs.Prelude.{◌||◌, ◌&&◌, ◌==◌, if◌then◌else◌}
use Rattle.std.specs.List.{list_any}
use Rattle.std.proofs.lemmas.Bool.{and_right, eq-eqb, ne_eqb}
use Rattle.host_base.specs.declared.launch.Launch.{Launch}
use Rattle.host_base.specs.declared.site.Site.{Site}
use Rattle.host_trace.specs.declared.items.Act.TheVariants.{Start}
use Rattle.host_trace.specs.declared.items.Item.{Item}
use Rattle.host_trace.specs.declared.items.Item.TheVariants.{Out}
use Rattle.host_trace.specs.Decider.{failed, is_websocket}
use Rattle.host_trace.specs.Kinds.{child_of, child_started, names_child}
use Rattle.host_trace.specs.Projections.{children, children_of}
use Rattle.host_trace.proofs.FirstLaws.{flat_map-push}
use Rattle.host_trace.proofs.ProjectionLaws.{child_out-push, children-push}
use Rattle.reply_kinds.specs.Derived.{is_header_whole, is_streamable}
use Rattle.reply_stream.specs.Writing.{nothing}
use Rattle.trace_child.specs.Decided.{decided_at}
use Rattle.trace_child.specs.Words.{is_filled}
use Rattle.trace_model.specs.Closes.{version_by}
use Rattle.trace_model.specs.Exchange.{Exchange, pushed, reading}
use Rattle.trace_model.specs.Legs.{Leg, leg_of, run_of}
use Rattle.trace_model.specs.ModelLaws.{IsHeaded}
use Rattle.trace_model.specs.Readings.{headed, is_bare}
use Rattle.trace_model.proofs.FirstByteLaws.{continues-push}
use Rattle.conn_laws.specs.Hops.{IsStarted}
use Rattle.conn_laws.proofs.QuietLaws.{act_breaks_none, reading-quiet}
use Rattle.conn_laws.proofs.StartLaws.{start_begins}
use Rattle.exchange_reply.specs.Leg.{IsMadeFor, has_ticked}
use Rattle.exchange_reply.specs.StepRules.{Leaves}
use Rattle.exchange_reply.proofs.LegLaws.{items_are_told}
use Rattle.exchange_reply.proofs.NoSoonerLaws.{unbegun_is_no_sooner}
use Rattle.exchange_reply.proofs.StepLaws.{items_leave}
use Rattle.exchange_stage.specs.declared.stage.Leg.{Leg as Held}
use Rattle.exchange_laws.specs.Walked.{IsLast, IsNew, child_of_leg}
use Rattle.exchange_laws.specs.OfRun.{IsOfRun, IsReady, leg_held}
use Rattle.exchange_laws.specs.StageIs.{IsRunning, IsStarting}
use Rattle.exchange_laws.specs.Items.{StartsAreGiven}
use Rattle.exchange_laws.proofs.BeginLaws.{no_output, undecided_started, unticked_yet}
use Rattle.exchange_laws.proofs.RunLaws.{outcome_by_front}
use Rattle.exchange_laws.proofs.UnansweredLaws.{continued_is, unanswered_final}
use Rattle.exchange_laws.proofs.WalkLaws.{last_headed, still-push}

and_same : (b : Bool) → (b && false) ≡ false
and_same true = refl
and_same false = refl

map_last : (legs : List Leg) (leg : Leg) → map child_of_leg legs ++ leg.child ∷ [] ≡ map child_of_leg (legs ++ leg ∷ [])
map_last [] leg = refl
map_last (first ∷ legs) leg = ap (λ l. first.child ∷ l) (map_last legs leg)

not_later : (hop later : ℕ) → suc hop ≤ later → (later == hop) ≡ false
not_later hop later above = ne_eqb later hop (λ same. omega (arith, same, above))

module _ (site : Site) (c : ℕ) (e : Exchange) (legs : List Leg) (go_on : Bool) (held : Held) (launch : Launch) (body : List ℕ) (whole : Bool) (k : ℕ)
    (two : 2 ≤ site.limits.head) (is : IsStarting site c e legs go_on held launch body whole) (fresh : list_any (names_child k) e.items ≡ false) where
  abbrev x : Item
  x = Out (Start k c e.number held.hop launch)

  abbrev leg : Leg
  leg = leg_held held k

  head : IsHeaded (reading site c e)
  head = last_headed (reading site c e) is.at_hop.reached.reaches.first is.at_hop.reached.reaches.start

  started : IsStarted site c (pushed e x) held.hop held.request leg
  started =
      subst (λ kind. IsStarted site c (pushed e x) held.hop held.request (leg_of held.hop kind held.request k)) is.kind
      (start_begins site c e held.hop held.request is.mapped k launch (record {
        place = is.place;
        plain = ap is_websocket is.kind ∙ is.plain;
        none = is.at_hop.new held.hop (le_refl held.hop);
      }))

  children_then : children (e.items ++ x ∷ []) c ≡ map child_of_leg (legs ++ leg ∷ [])
  children_then =
      children-push e.items x c
      ∙ ap (λ ks. ks ++ child_started c x) is.at_hop.children_are
      ∙ ap (λ (b : Bool). map child_of_leg legs ++ (if b then k ∷ [] else [])) (eq-eqb c c refl)
      ∙ map_last legs leg

  new_then : IsNew c (pushed e x) (suc held.hop)
  new_then later above =
      flat_map-push (child_of c e.number later) e.items x
      ∙ ap (λ (b : Bool). children_of e.items c e.number later ++ (if b then k ∷ [] else [])) (and_right (c == c && e.number == e.number) (later == held.hop) (not_later held.hop later above))
      ∙ append-nil (children_of e.items c e.number later)
      ∙ is.at_hop.new later (omega (arith, above))

  last_then : IsLast site c (pushed e x) (legs ++ leg ∷ []) leg
  last_then = record {
    before = legs;
    left = is.left;
    is = refl;
    reached =
        still-push site c e x legs is.left held.hop held.request two
        (act_breaks_none site c e (Start k c e.number held.hop launch) ∙ is.at_hop.reached.reaches.unbroken) is.at_hop.reached;
    started = started;
    children_are = children_then;
    new = new_then;
  }

  leaves : Leaves site c e x is.asked nothing
  leaves = items_leave site c e x is.asked nothing two head refl

  undecided_then : decided_at (run_of site c e leg) (e.items ++ x ∷ []) ≡ None
  undecided_then = undecided_started (run_of site c e leg) e.items c e.number held.hop launch fresh

  never : (front : List Item) → decided_at (run_of site c e leg) (e.items ++ x ∷ []) ≡ Some front → ⊥
  never front now = let bad : Some front ≡ None = sym now ∙ undecided_then in absurd (cc)

  made_then : IsMadeFor site c (pushed e x) leg is.asked
  made_then = record {
    kind = is.made.kind;
    version = ap (λ r. version_by (headed r)) (reading-quiet site c e x refl) ∙ is.made.version;
    head_only = ap is_bare (reading-quiet site c e x refl) ∙ is.made.head_only;
  }

  run_then : IsOfRun site c (pushed e x) leg is.asked [] false nothing []
  run_then = record {
    written_by = record {
      made = made_then;
      continued = leaves.continued_then is.let_on;
      final_is = leaves.final_then ∙ unanswered_final site c e go_on is.unanswered;
      fixed = tt;
      begun_at = tt;
    };
    stands = and_same (is_streamable is.asked.kind []);
    short = omega arith;
    output = child_out-push e.items x k ∙ ap (λ o. o ++ []) (no_output k e.items fresh);
    since_decided = λ front now. absurd (never front now);
    all_told = λ front now comes. absurd (never front now);
    no_sooner = unbegun_is_no_sooner site c (pushed e x) (ap is_filled (leaves.final_then ∙ unanswered_final site c e go_on is.unanswered));
  }

  ticked_then : has_ticked (pushed e x) leg ≡ (false || held.ticked && is_header_whole is.asked.kind [])
  ticked_then =
      (items_are_told e leg x).ticked ∙ ap (λ b. b || false) (unticked_yet e leg fresh)
      ∙ ap (λ b. false || b && is_header_whole is.asked.kind []) (sym is.unticked)

  pub running_then : IsRunning site c (pushed e x) (legs ++ leg ∷ []) go_on [] held
  running_then = record {
    unclosed = is.unclosed;
    continues_is = continues-push site c e x two head ∙ continued_is site c e go_on is.unanswered is.let_on;
    child = k;
    last = last_then;
    asked = is.asked;
    told = [];
    ticked = false;
    stood = nothing;
    untold = [];
    run = run_then;
    ready =
        subst (λ t. IsReady site c (pushed e x) leg is.asked [] false nothing [] [] held.ticked t held.reply) (sym is.text)
        (record { more_is = refl; knows = is.reply; ticked_is = λ none. ticked_then });
    early = λ cause comes closing.
        let bad : None ≡ Some (failed cause) = sym (outcome_by_front (run_of site c e leg) (e.items ++ x ∷ []) None undecided_then) ∙ comes in absurd (cc);
  }

pub starts_are_given : StartsAreGiven
starts_are_given site c e legs continued looked closing more held launch body whole k two is fresh =
    (running_then site c e legs continued held launch body whole k two is.0 fresh, is.1)
