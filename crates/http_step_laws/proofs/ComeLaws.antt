-- At the end of a step a connection is at rest again.
use Rattle.std.proofs.Common.{◌≡◌, ◌≤◌, ◌<◌, ◌^◌, ℕ, Bool, true, false, List, [], ◌∷◌, ◌++◌, Option, Some, is_some, refl, sym, subst}
use Rattle.host_base.specs.declared.site.Site.{Site}
use Rattle.host_trace.specs.declared.items.Act.{Act}
use Rattle.host_trace.specs.declared.items.Event.{Event}
use Rattle.host_trace.specs.declared.items.Item.{Item}
use Rattle.host_trace.specs.declared.items.Item.TheVariants.{In}
use Rattle.host_trace.specs.Projections.{last_secs}
use Rattle.host_trace.specs.Trace.{after_step}
use Rattle.own_traces.specs.Whose.{next_after}
use Rattle.child_core.specs.Calls.{is_settled}
use Rattle.child_core.specs.Due.{is_at_rest}
use Rattle.child_core.specs.View.{View}
use Rattle.trace_model.specs.Exchange.{Exchange}
use Rattle.trace_model.specs.Legs.{Leg as Started}
use Rattle.conn_flags.specs.View.{has_room}
use Rattle.conn_flags.specs.Form.{are_given}
use Rattle.conn_flags.specs.Knows.{KnowsFlags}
use Rattle.child_laws.specs.Children.{KnowsChildren}
use Rattle.child_laws.specs.Setting.{setting}
use Rattle.child_laws.specs.Step.{LastIs, Turn, TurnIs, begun, served, waiting}
use Rattle.child_laws.proofs.DealtLaws.{Apart, decided_rests, settled_rests, unstarted_rests}
use Rattle.child_laws.proofs.DueLaws.{unrefused}
use Rattle.child_laws.proofs.MoveLaws.{moves_tell}
use Rattle.conn_laws.specs.Moves.{Move, acts_of, moved}
use Rattle.http_conn.specs.HttpConn.{HttpConn}
use Rattle.http_conn.specs.Kept.{flags_of, number_of, site_of}
use Rattle.http_conn.specs.Parts.{Steps}
use Rattle.http_stage_laws.specs.HeardStages.{AtRest, Rested, RestedLost}
use Rattle.http_step_laws.specs.Standing.{Apt, EvenAt, IsAwake, Leaves, Standing}
use Rattle.http_step_laws.proofs.CloseLaws.{Closed}
use Rattle.http_step_laws.proofs.HandleLaws.{lost_decided}
use Rattle.http_step_laws.proofs.RestWords.{current_is, deals_now, items_are, on_now, rests_now, unawaited}
use Rattle.http_step_laws.proofs.StageWords.{first_unawaited}
use Rattle.http_step_laws.proofs.WantLaws.{Done, steps_leave}

-- nothing is due for a child to which all was given that was due
rests_even : (heard : List Item) (room : Bool) (turn : Turn) (v : View) → Apart v → IsAwake turn → TurnIs heard turn v → EvenAt room turn (Some v) → is_at_rest room v ≡ true
rests_even heard room waiting v apart awake t even = absurd awake
rests_even heard room begun v apart awake t even = unstarted_rests room v t.1
rests_even heard room (served may) v apart awake t even = by_outcome (is_some v.outcome) refl (is_settled v) refl
  where
    by_outcome : (decided : Bool) → is_some v.outcome ≡ decided → (settled : Bool) → is_settled v ≡ settled → is_at_rest room v ≡ true
    by_outcome true decided b settled = decided_rests may room v decided t.1
    by_outcome false undecided true settled = settled_rests room v apart settled
    by_outcome false undecided false unsettled = subst (λ (b : Bool). is_at_rest b v ≡ true) (even undecided unsettled) t.1

module _ (L : List Item) (ev : Event) (acts : List Act) (turn : Turn) (e : Exchange) (conn : HttpConn) (n : ℕ) (s : Standing L ev acts turn n e conn) (two : 2 ≤ (site_of conn).limits.head)
    (small : (site_of conn).limits.output < 2 ^ 64) (c : Closed turn e conn) where
  rested : conn.lost ≡ false → Rested conn e s.legs
  rested found = record {
    staged = s.staged found;
    rests = rests_now L ev acts turn e conn n s c found;
    heard = s.heard found;
    going = c.on;
    let_on = λ first. first_unawaited conn e s.legs (s.staged found) (λ u. unawaited L ev acts turn e conn n s c found u first) first;
  }

  rested_lost : conn.lost ≡ true → RestedLost conn e s.legs
  rested_lost is = record {
    lost = s.lost is;
    shut = c.shut_lost is;
    decided = lost_decided L ev acts turn e conn n s is;
    for_memory = s.for_memory is (c.shut_lost is);
  }

  knows : KnowsChildren (site_of conn) (number_of conn) e false n s.legs conn.run
  knows = (moves_tell (site_of conn) (number_of conn) L ev acts e s.over false turn n s.legs conn.run (deals_now L ev acts turn e conn n s c)).knows

  -- nothing is due for its child
  even : (v : View) → conn.run ≡ Some v → is_at_rest (has_room (flags_of conn)) v ≡ true
  even v is =
      let k : KnowsChildren (site_of conn) (number_of conn) e false n s.legs (Some v) =
      subst (λ (r : Option View). KnowsChildren (site_of conn) (number_of conn) e false n s.legs r) is knows in
      let last : LastIs (L ++ In ev ∷ []) acts turn (Some v) = subst (λ (r : Option View). LastIs (L ++ In ev ∷ []) acts turn r) is s.children.knows.last in
      rests_even (L ++ In ev ∷ []) (has_room (flags_of conn)) turn v
      (subst (λ (w : View). Apart w) (sym k.runs.held_as) (unrefused false (setting (site_of conn) (number_of conn) e k.runs.leg.hop) k.runs.view e.items k.runs.known.knows)) c.rest.0 last.1
      (subst (λ (r : Option View). EvenAt (has_room (flags_of conn)) turn r) is c.rest.2)

  pub at_rest : AtRest conn (after_step L ev acts) e s.legs n
  at_rest = record {
    two = two;
    small = small;
    now = sym (current_is L ev acts turn e conn n s c);
    front = s.front;
    children = knows;
    even = even;
    starts_first = s.starts_first;
    flags = subst (λ (l : List Item). KnowsFlags (flags_of conn) l) (items_are L ev acts turn e conn n s c) s.flags;
    inward = s.inward;
    unheard = s.unheard;
    unended = on_now L ev acts turn e conn n s c;
    found = rested;
    lost = rested_lost;
  }

pub steps_come_to_rest : (L : List Item) (ev : Event) (e : Exchange) (old new : HttpConn) (n : ℕ) (moves : List Move) (stamp : Option ℕ) → Standing L ev [] waiting n e old → 2 ≤ (site_of old).limits.head
    → (site_of old).limits.output < 2 ^ 64 → stamp ≡ last_secs (L ++ In ev ∷ []) → Apt e old → Steps stamp old n moves new → are_given (flags_of old) (acts_of moves) ≡ true
    → (legs : List Started) × AtRest new (after_step L ev (acts_of moves)) (moved (site_of old) (number_of old) e moves) legs (next_after n (acts_of moves))
steps_come_to_rest L ev e old new n moves stamp s two small clock apt w form =
    let l : Leaves Done L ev [] e old n moves new = steps_leave L ev e old new n moves stamp s two clock apt w form in
    let two_then : 2 ≤ (site_of new).limits.head = subst (λ (t : Site). 2 ≤ t.limits.head) (sym l.site) two in
    let small_then : (site_of new).limits.output < 2 ^ 64 = subst (λ (t : Site). t.limits.output < 2 ^ 64) (sym l.site) small in
    (l.standing.legs, at_rest L ev (acts_of moves) l.turn (moved (site_of old) (number_of old) e moves) new (next_after n (acts_of moves)) l.standing two_then small_then l.post.closed)
