-- Each step of a connection that speaks WebSocket is good, by what found memory in it.
use Rattle.std.proofs.Common.{◌≡◌, ℕ, Bool, true, false, not, ◌&&◌, ◌||◌, ◌==◌, ◌++◌, List, [], ◌∷◌, Option, Some, None, is_some, refl, sym, ap, ◌∙◌, subst}
use Rattle.std.proofs.lemmas.Bool.{false≢true}
use Rattle.host_trace.specs.declared.items.Act.{Act}
use Rattle.host_trace.specs.declared.items.Act.TheVariants.{Says}
use Rattle.host_trace.specs.declared.items.Event.{Event}
use Rattle.host_trace.specs.declared.items.Item.{Item}
use Rattle.host_trace.specs.declared.items.Item.TheVariants.{In, Out}
use Rattle.host_trace.specs.Kinds.{is_no_room}
use Rattle.host_trace.specs.Projections.{shut}
use Rattle.own_traces.specs.OwnFits.{fits_own}
use Rattle.trace_child.specs.Words.{is_filled}
use Rattle.trace_model.specs.Exchanges.{current}
use Rattle.child_core.specs.Calls.{ended}
use Rattle.child_core.specs.declared.ending.Ending.TheVariants.{Dropped}
use Rattle.child_core.specs.Due.{acting as run_acting, is_feed_due}
use Rattle.child_core.specs.View.{View as Run}
use Rattle.conn_flags.specs.View.{View as Flags, noted}
use Rattle.conn_flags.specs.Form.{given_all}
use Rattle.talk_core.specs.Acting.{acting}
use Rattle.talk_core.specs.Hearing.{heard, heard_unless, run_heard, takes_memory}
use Rattle.talk_core.specs.View.{View as Talk, given_up}
use Rattle.talk_laws.specs.Moves.{IsQuiet}
use Rattle.talk_laws.proofs.HearLaws.{events_keep_talks}
use Rattle.talk_laws.proofs.QuietLaws.{quiet_events_take_none}
use Rattle.trace_model.proofs.ExchangeLaws.{all_of-current}
use Rattle.talk_conn.specs.declared.conn.TalkConn.{TalkConn}
use Rattle.talk_conn.specs.Parts.{acted_conn, acts_acted, acts_asked, acts_said, acts_shut, asked_conn, heard_conn, is_ask_due, may_want, said_conn, shut_conn, why_of}
use Rattle.talk_conn.specs.Step.{Steps}
use Rattle.talk_conn.specs.View.{number_of, run_of, site_of}
use Rattle.talk_conn.proofs.RunLaws.{given_up_unfed}
use Rattle.talk_laws.specs.Stands.{IsGoodStep, StepsAreGood, TalkStands, Talks, TalksNoMore}
use Rattle.talk_laws.proofs.Steps.FoundLaws.{is_good, through}
use Rattle.talk_laws.proofs.Steps.LaterLaws.{is_later, lost_first}
use Rattle.talk_laws.proofs.Steps.LossLaws.{going_takes, is_lost, or_cases, unroomed_open}
use Rattle.talk_laws.proofs.Steps.FlagLaws.{acts_same, child_same, says_none}
use Rattle.talk_laws.proofs.Steps.TailLaws.{ended_conn, tail_of}

module _ (old new : TalkConn) (L : List Item) (ev : Event) (acts : List Act) (next : ℕ) (s : TalkStands old L next) (fits : fits_own (site_of old).limits.children L ev ≡ true) (w : Steps old ev acts new) where
  abbrev c : ℕ
  c = number_of old

  -- what the step comes to, by what found memory
  as_good : (h a f : Bool) → w.heard ≡ h → w.said ≡ a → w.fed ≡ f
      → IsGoodStep old (ended_conn (acted_conn f (said_conn a (heard_conn h ev old)))) L ev
      ((acts_said a (heard_conn h ev old) ++ acts_acted f (said_conn a (heard_conn h ev old))) ++ tail_of (acted_conn f (said_conn a (heard_conn h ev old)))) next
      → IsGoodStep old new L ev acts next
  as_good h a f h_is a_is f_is good =
      let first : w.first ≡ heard_conn h ev old = w.first_is ∙ ap (λ (b : Bool). heard_conn b ev old) h_is in
      let second : w.second ≡ said_conn a (heard_conn h ev old) = w.second_is ∙ (ap (λ (b : Bool). said_conn b w.first) a_is ∙ ap (said_conn a) first) in
      let third : w.third ≡ acted_conn f (said_conn a (heard_conn h ev old)) = w.third_is ∙ (ap (λ (b : Bool). acted_conn b w.second) f_is ∙ ap (acted_conn f) second) in
      let new_is : new ≡ ended_conn (acted_conn f (said_conn a (heard_conn h ev old))) = w.is ∙ (ap (λ (x : TalkConn). asked_conn (is_ask_due x) x) w.last_is ∙ ap (λ (x : TalkConn). ended_conn x) third) in
      let acts_are : acts ≡ (acts_said a (heard_conn h ev old) ++ acts_acted f (said_conn a (heard_conn h ev old))) ++ tail_of (acted_conn f (said_conn a (heard_conn h ev old))) =
      w.acts_are
      ∙ (ap (λ (x : TalkConn). (acts_said w.said w.first ++ acts_acted w.fed w.second) ++ (acts_shut w.third.flags.c (why_of w.third) ++ acts_asked x.flags.c (is_ask_due x))) w.last_is
      ∙ (ap (λ (x : TalkConn). (acts_said w.said w.first ++ acts_acted w.fed w.second) ++ tail_of x) third
      ∙ ap (λ (l : List Act). l ++ tail_of (acted_conn f (said_conn a (heard_conn h ev old))))
      (ap (λ (b : Bool). acts_said b w.first ++ acts_acted w.fed w.second) a_is ∙ (ap (λ (x : TalkConn). acts_said a x ++ acts_acted w.fed w.second) first
      ∙ (ap (λ (b : Bool). acts_said a (heard_conn h ev old) ++ acts_acted b w.second) f_is ∙ ap (λ (x : TalkConn). acts_said a (heard_conn h ev old) ++ acts_acted f x) second))))) in
      subst (λ (x : TalkConn). IsGoodStep old x L ev acts next) (sym new_is)
      (subst (λ (l : List Act). IsGoodStep old (ended_conn (acted_conn f (said_conn a (heard_conn h ev old)))) L ev l next) (sym acts_are) good)

  -- a Bool that can't be false
  must : (b : Bool) → (b ≡ false → ⊥) → b ≡ true
  must true never = refl
  must false never = absurd (never refl)

  first_as : (h : Bool) → w.heard ≡ h → w.first ≡ heard_conn h ev old
  first_as h h_is = w.first_is ∙ ap (λ (b : Bool). heard_conn b ev old) h_is

  second_as : (h a : Bool) → w.heard ≡ h → w.said ≡ a → w.second ≡ said_conn a (heard_conn h ev old)
  second_as h a h_is a_is = w.second_is ∙ (ap (λ (b : Bool). said_conn b w.first) a_is ∙ ap (said_conn a) (first_as h h_is))

  -- nothing is said or fed of a talk that was given up
  said_unless : (h : Bool) → w.heard ≡ h → (heard_conn h ev old).talk.texts ≡ [] → w.said ≡ true
  said_unless h h_is none = must w.said (λ is. absurd (false≢true (sym (ap (λ (l : List (List ℕ)). is_filled l) (ap (λ (x : TalkConn). x.talk.texts) (first_as h h_is) ∙ none)) ∙ w.said_memory is)))

  fed_unless : (h a : Bool) → w.heard ≡ h → w.said ≡ a → is_feed_due (said_conn a (heard_conn h ev old)).run ≡ false → w.fed ≡ true
  fed_unless h a h_is a_is none = must w.fed (λ is. absurd (false≢true (sym (ap (λ (x : TalkConn). is_feed_due x.run) (second_as h a h_is a_is) ∙ none) ∙ w.fed_memory is)))

  module _ (found : old.lost ≡ false) where
    t : Talks old L
    t = s.found found

    -- memory ran out for the event
    unheard : w.heard ≡ false → IsGoodStep old new L ev acts next
    unheard is =
        let said : w.said ≡ true = said_unless false is refl in
        let fed : w.fed ≡ true = fed_unless false true is said (given_up_unfed (run_heard old.talk old.run ev)) in
        let x : TalkConn = acted_conn true (said_conn true (heard_conn false ev old)) in
        as_good false true true is said fed
        (is_lost old L ev next s t found fits (w.memory is) false (may_want (said_conn true (heard_conn false ev old))) x refl refl
        (says_none (noted old.flags (In ev)) ∙ sym (child_same (may_want (said_conn true (heard_conn false ev old))) (ended (run_heard old.talk old.run ev) Dropped) (noted old.flags (In ev)))) refl refl t.talk.stands.talk.conn)

    module _ (well : w.heard ≡ true) where
      heard_conn_is : (heard old.talk old.run ev).conn ≡ c
      heard_conn_is =
          (events_keep_talks (site_of old) c (current (site_of old) c L) t.legs t.continued old.talk old.run ev s.two t.talk t.rests
          (ap (λ (l : List Item). fits_own (site_of old).limits.children l ev) (all_of-current (site_of old) c L) ∙ fits)).stands.talk.conn

      -- an event of which nothing is said or fed wants none
      quiet : takes_memory old.talk ev ≡ false → IsQuiet old.talk old.run ev
      quiet none = quiet_events_take_none (site_of old) c (current (site_of old) c L) t.legs t.continued old.talk old.run ev t.talk t.rests none

      takes_or : (takes_memory old.talk ev ≡ false → ⊥) → (takes_memory old.talk ev || is_no_room c (In ev)) ≡ true
      takes_or never = ap (λ (b : Bool). b || is_no_room c (In ev)) (must (takes_memory old.talk ev) never)

      -- it was wanting for what is to be said
      unsaid : w.said ≡ false → IsGoodStep old new L ev acts next
      unsaid is =
          let fed : w.fed ≡ true = fed_unless true false well is (given_up_unfed (run_heard old.talk old.run ev)) in
          let x : TalkConn = acted_conn true (said_conn false (heard_conn true ev old)) in
          as_good true false true well is fed
          (is_lost old L ev next s t found fits
          (takes_or (λ none. absurd (false≢true (sym (ap (λ (l : List (List ℕ)). is_filled l) (ap (λ (y : TalkConn). y.talk.texts) (first_as true well) ∙ (quiet none).texts)) ∙ w.said_memory is))))
          false (may_want (said_conn false (heard_conn true ev old))) x refl refl
          (sym (child_same (may_want (said_conn false (heard_conn true ev old))) (ended (run_heard old.talk old.run ev) Dropped) (noted old.flags (In ev)))) refl refl heard_conn_is)

      -- .. or for what is to be fed
      unfed : w.said ≡ true → w.fed ≡ false → IsGoodStep old new L ev acts next
      unfed said is =
          let x : TalkConn = acted_conn false (said_conn true (heard_conn true ev old)) in
          as_good true true false well said is
          (is_lost old L ev next s t found fits
          (takes_or (λ none. absurd (false≢true (sym (ap (λ (y : TalkConn). is_feed_due y.run) (second_as true true well said) ∙ (quiet none).fed) ∙ w.fed_memory is))))
          true (may_want (said_conn true (heard_conn true ev old))) x refl refl
          (sym (acts_same (may_want (said_conn true (heard_conn true ev old))) (noted old.flags (In ev)) (heard old.talk old.run ev) (ended (run_heard old.talk old.run ev) Dropped) heard_conn_is)) refl refl heard_conn_is)

      well_said : (said fed : Bool) → w.said ≡ said → w.fed ≡ fed → IsGoodStep old new L ev acts next
      well_said false fed said_is fed_is = unsaid said_is
      well_said true false said_is fed_is = unfed said_is fed_is
      well_said true true said_is fed_is = as_good true true true well said_is fed_is (is_good old L ev next s t found fits (w.room well))

    here : (h : Bool) → w.heard ≡ h → IsGoodStep old new L ev acts next
    here false is = unheard is
    here true is = well_said is w.said w.fed refl refl

  module _ (lost : old.lost ≡ true) where
    none_more : TalksNoMore old L
    none_more = s.lost lost

    well_then : w.heard ≡ true
    well_then =
        must w.heard (λ is. or_cases (takes_memory old.talk ev) (is_no_room c (In ev)) ⊥ (λ takes. absurd (false≢true (sym (going_takes old.talk ev takes) ∙ none_more.over)))
        (λ unroomed. absurd (false≢true (sym (unroomed_open (site_of old).limits.children L c ev unroomed fits) ∙ (sym s.flags.shut ∙ none_more.shut)))) (w.memory is))

    heard_same : heard old.talk old.run ev ≡ old.talk
    heard_same = ap (λ (b : Bool). heard_unless b old.talk old.run ev) none_more.over

    texts_none : (heard old.talk old.run ev).texts ≡ []
    texts_none = ap (λ (x : Talk). x.texts) heard_same ∙ none_more.texts

    code_none : (heard old.talk old.run ev).code ≡ None
    code_none = ap (λ (x : Talk). x.code) heard_same ∙ none_more.code

    said_then : w.said ≡ true
    said_then = said_unless true well_then texts_none

    unfed_then : is_feed_due (run_heard old.talk old.run ev) ≡ false
    unfed_then = none_due (run_heard old.talk old.run ev) (lost_first old L ev next s none_more fits).decided
      where
        none_due : (v : Run) → is_some v.outcome ≡ true → is_feed_due v ≡ false
        none_due v decided = go v.started
          where
            go : (b : Bool) → (b && not (is_some v.outcome) && not v.exited && not v.input_ended && is_filled v.unfed && v.untaken == 0) ≡ false
            go false = refl
            go true = ap (λ (o : Bool). not o && not v.exited && not v.input_ended && is_filled v.unfed && v.untaken == 0) decided

    fed_then : w.fed ≡ true
    fed_then = fed_unless true true well_then said_then unfed_then

    acting_none : acting (heard old.talk old.run ev) ≡ []
    acting_none = go (heard old.talk old.run ev) texts_none code_none
      where
        go : (x : Talk) → x.texts ≡ [] → x.code ≡ None → acting x ≡ []
        go x texts code = rw (texts, code) refl

    later : IsGoodStep old new L ev acts next
    later =
        let x : TalkConn = through ev old in
        let may : Bool = may_want (said_conn true (heard_conn true ev old)) in
        as_good true true true well_then said_then fed_then
        (subst (λ (l : List Act). IsGoodStep old (ended_conn (through ev old)) L ev ((l ++ run_acting (may_want (said_conn true (heard_conn true ev old))) (run_heard old.talk old.run ev)) ++ tail_of (through ev old)) next) (sym acting_none)
        (is_later old L ev next s none_more fits may x lost refl
        (ap (λ (l : List (List ℕ)). noted (noted old.flags (In ev)) (Out (Says old.flags.c l))) texts_none ∙ (says_none (noted old.flags (In ev)) ∙ sym (child_same may (run_heard old.talk old.run ev) (noted old.flags (In ev)))))
        refl refl (ap (λ (y : Talk). y.conn) heard_same ∙ none_more.number) (ap (λ (y : Talk). y.over) heard_same ∙ none_more.over) refl refl))

  by_lost : (b : Bool) → old.lost ≡ b → IsGoodStep old new L ev acts next
  by_lost true is = later is
  by_lost false is = here is w.heard refl

  pub step_good : IsGoodStep old new L ev acts next
  step_good = by_lost old.lost refl

pub talk_steps_are_good : StepsAreGood
talk_steps_are_good old new L ev acts next s fits w = step_good old new L ev acts next s fits w
