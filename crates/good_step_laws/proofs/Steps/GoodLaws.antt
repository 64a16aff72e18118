-- A step of one connection is good by the model: what an event, the parts behind it and their end make of a connection at
-- rest, put together.
use Rattle.std.proofs.Common.{◌≡◌, ◌≤◌, ◌<◌, ◌^◌, ℕ, true, List, [], ◌∷◌, ◌++◌, Option, sym, ap, ◌∙◌, subst}
use Rattle.host_base.specs.declared.site.Site.{Site}
use Rattle.host_trace.specs.declared.items.Act.{Act}
use Rattle.host_trace.specs.declared.items.Event.{Event}
use Rattle.host_trace.specs.declared.items.Item.{Item}
use Rattle.host_trace.specs.declared.items.Item.TheVariants.{In}
use Rattle.host_trace.specs.Projections.{children, last_secs, shut_for_memory}
use Rattle.host_trace.specs.Trace.{Step, after_step, step_of}
use Rattle.own_traces.specs.OwnFits.{fits_own}
use Rattle.own_traces.specs.Whose.{are_of, next_after}
use Rattle.trace_model.specs.Exchange.{Exchange, all_of, pushed}
use Rattle.trace_model.specs.Exchanges.{current}
use Rattle.trace_model.specs.Form.{comes_in_form}
use Rattle.trace_model.specs.Good.{StepGood}
use Rattle.trace_model.specs.Legs.{Leg as Started}
use Rattle.trace_model.specs.Steps.{each_act, goes_on}
use Rattle.conn_flags.specs.View.{View as Flags, noted}
use Rattle.conn_flags.specs.Form.{are_given}
use Rattle.conn_flags.specs.Knows.{KnowsFlags}
use Rattle.conn_flags.proofs.KnowsLaws.{given_all-number}
use Rattle.conn_laws.specs.Moves.{Move, acts_of, moved}
use Rattle.http_conn.specs.HttpConn.{HttpConn}
use Rattle.http_conn.specs.Hears.{Hears}
use Rattle.http_conn.specs.Kept.{flags_of, number_of, site_of}
use Rattle.http_conn.specs.Parts.{Steps}
use Rattle.http_stage_laws.specs.HeardStages.{AtRest}
use Rattle.http_step_laws.specs.Laws.{KeepsStep}
use Rattle.http_step_laws.specs.Standing.{Leaves}
use Rattle.http_step_laws.proofs.WantLaws.{Done, steps_leave}
use Rattle.http_step_laws.proofs.ComeLaws.{steps_come_to_rest}
use Rattle.http_step_laws.proofs.KeepLaws.{steps_keep_step}
use Rattle.good_step_laws.proofs.Orders.AskLaws.{steps_ask}
use Rattle.good_step_laws.proofs.Orders.OrderLaws.{steps_ordered}
use Rattle.good_step_laws.specs.Events.Events.{Heard}
use Rattle.good_step_laws.proofs.Events.EventLaws.{events_stand}
use Rattle.good_step_laws.proofs.Shuts.MemoryLaws.{steps_take_no_memory}
use Rattle.good_step_laws.proofs.Shuts.ShutLaws.{steps_shut_duly}
use Rattle.good_step_laws.proofs.Shuts.StopLaws.{steps_end_at_stop}
use Rattle.good_step_laws.specs.Steps.Laws.{IsGoodStep, StepsAreGood}
use Rattle.good_step_laws.proofs.Steps.FormLaws.{acts_come_in_form}
use Rattle.good_step_laws.proofs.Steps.IdleWords.{idle_is}
use Rattle.good_step_laws.proofs.Steps.KnownLaws.{events_know_memory}

module _ (old mid new : HttpConn) (L : List Item) (e : Exchange) (legs : List Started) (ev : Event) (stamp : Option ℕ) (n : ℕ) (moves : List Move) (rest : AtRest old L e legs n)
    (fits : fits_own (site_of old).limits.children L ev ≡ true) (clock : stamp ≡ last_secs (L ++ In ev ∷ [])) (h : Hears old ev mid) (w : Steps stamp mid n moves new)
    (allowed : are_given (noted (flags_of old) (In ev)) (acts_of moves) ≡ true) (own : are_of (number_of old) (children L (number_of old)) n (acts_of moves) ≡ true) where
  -- behind the event
  abbrev heard : Heard old L e n ev mid
  heard = events_stand old mid L e legs n ev rest fits h

  abbrev d : Exchange
  d = moved (site_of old) (number_of old) (pushed e (In ev)) heard.moves

  abbrev acts : List Act
  acts = acts_of moves

  abbrev s : Step
  s = step_of L ev acts

  two : 2 ≤ (site_of mid).limits.head
  two = subst (λ (t : Site). 2 ≤ t.limits.head) (sym heard.site) rest.two

  small : (site_of mid).limits.output < 2 ^ 64
  small = subst (λ (t : Site). t.limits.output < 2 ^ 64) (sym heard.site) rest.small

  given : are_given (flags_of mid) acts ≡ true
  given = ap (λ (m : Flags). are_given m acts) heard.flags ∙ allowed

  -- the step
  kept : KeepsStep (site_of mid) (number_of mid) new.lost s
  kept = (steps_keep_step L ev d mid new n moves stamp heard.standing heard.over_silent two clock heard.apt w given).1

  leaves : Leaves Done L ev [] d mid n moves new
  leaves = steps_leave L ev d mid new n moves stamp heard.standing two clock heard.apt w given

  abbrev last : Exchange
  last = moved (site_of mid) (number_of mid) d moves

  ends : (then_legs : List Started) × AtRest new (after_step L ev acts) last then_legs (next_after n acts)
  ends = steps_come_to_rest L ev d mid new n moves stamp heard.standing two small clock heard.apt w given

  number : number_of new ≡ number_of mid
  number = ap (λ (m : Flags). m.c) leaves.flags ∙ given_all-number (flags_of mid) acts

  last_is : last ≡ goes_on (site_of mid) (number_of mid) s
  last_is =
      ends.1.now ∙ (ap (λ (t : Site). current t (number_of new) (after_step L ev acts)) leaves.site ∙ ap (λ (k : ℕ). current (site_of mid) k (after_step L ev acts)) number)

  -- where memory ran out it was shut for that
  for_memory : new.lost ≡ true → shut_for_memory (all_of (goes_on (site_of mid) (number_of mid) s)) (number_of mid) ≡ true
  for_memory is =
      sym (ap (λ (x : Exchange). shut_for_memory (all_of x) (number_of mid)) last_is)
      ∙ (sym (ap (λ (k : ℕ). shut_for_memory (all_of last) k) number) ∙ (ends.1.lost is).for_memory)

  knows : KnowsFlags (flags_of mid) (L ++ In ev ∷ [])
  knows = subst (λ (l : List Item). KnowsFlags (flags_of mid) l) heard.all heard.standing.flags

  form : each_act (site_of mid) (number_of mid) comes_in_form s ≡ true
  form =
      acts_come_in_form (site_of mid) (flags_of mid) (L ++ In ev ∷ []) (children L (number_of old)) n acts knows
      (ap (λ (k : ℕ). are_of k (children L (number_of old)) n acts) heard.number ∙ own) given kept.givings

  good : StepGood (site_of mid) (number_of mid) s
  good = record {
    good = record {
      replies = kept.replies_then for_memory;
      replies_end = kept.replies_end_then;
      launches = kept.launches;
      talk_acts = kept.talk_acts;
      upgrades = kept.upgrades_then;
      talks = kept.talks_then;
      shuts = steps_shut_duly L ev d mid new n moves stamp heard.standing two clock heard.apt w given (idle_is old mid L e legs n ev rest fits h);
      wants = steps_ask L ev d mid new n moves stamp heard.standing two clock heard.apt w given;
      form = form;
      order = steps_ordered L ev d mid new n moves stamp heard.standing two clock heard.apt w given;
    };
    ready = record {
      begins = kept.begins_then;
      answers = kept.answers_then;
      in_turn = kept.in_turn;
      hops = kept.hops_then;
      hears = kept.hears_then;
      continues = kept.continues_on;
      says = kept.says_then;
      stops = steps_end_at_stop L ev d mid new n moves stamp heard.standing two clock heard.apt w given;
      streams = kept.streams_then;
      no_sooner = kept.no_sooner;
      takes_no_memory = steps_take_no_memory L ev d mid new n moves stamp heard.standing two clock heard.apt w given (events_know_memory old mid L e legs n ev rest fits h);
    };
    children = kept.children;
  }

  is_good : IsGoodStep old new L ev n moves
  is_good = record {
    good = subst (λ (k : ℕ). StepGood (site_of old) k s) heard.number (subst (λ (t : Site). StepGood t (number_of mid) s) heard.site good);
    exchange = last;
    legs = ends.0;
    rests = ends.1;
  }

pub steps_are_good : StepsAreGood
steps_are_good old mid new L e legs ev stamp n moves rest fits clock h w allowed own = is_good old mid new L e legs ev stamp n moves rest fits clock h w allowed own
