-- Bytes that the input of an earlier child took change nothing.
use Rattle.std.proofs.Common.{◌≡◌, ℕ, ◌==◌, ◌&&◌, ◌||◌, nat_le, Bool, true, false, not, List, [], ◌∷◌, ◌++◌, Option, Some, None, is_some, if◌then◌else◌, inl, inr, refl, sym, ap, ◌∙◌, subst}
use Rattle.std.specs.List.{list_any}
use Rattle.std.proofs.lemmas.Bool.{false≢true, false_from_ne_true}
use Rattle.host_base.specs.declared.site.Site.{Site}
use Rattle.host_trace.specs.declared.items.Event.{Event}
use Rattle.host_trace.specs.declared.items.Event.TheVariants.{Took}
use Rattle.host_trace.specs.declared.items.Item.{Item}
use Rattle.host_trace.specs.declared.items.Act.TheVariants.{Says}
use Rattle.host_trace.specs.declared.items.Item.TheVariants.{In, Out}
use Rattle.host_trace.specs.declared.items.Why.{Why}
use Rattle.host_trace.specs.declared.items.Why.TheVariants.{Done, Gone, NoMemory, Stopped}
use Rattle.host_trace.specs.Account.{settled}
use Rattle.host_trace.specs.Decider.{is_websocket}
use Rattle.host_trace.specs.First.{or_else}
use Rattle.host_trace.specs.Kinds.{is_accepted, is_no_room, names_child}
use Rattle.host_trace.specs.Projections.{children, client_wanted, shut, stopped}
use Rattle.own_traces.specs.OwnFits.{fits_own}
use Rattle.own_traces.specs.Whose.{has}
use Rattle.trace_child.specs.Words.{implies}
use Rattle.trace_model.specs.Demands.{has_room as has_room_then, is_live as is_live_then, must_hear}
use Rattle.trace_model.specs.Exchange.{Exchange, all_of}
use Rattle.trace_model.specs.Exchanges.{current}
use Rattle.trace_model.specs.Hears.{hears}
use Rattle.trace_model.specs.Shuts.{is_gone}
use Rattle.trace_model.proofs.ExchangeLaws.{all_of-current}
use Rattle.child_core.specs.Calls.{wants_text}
use Rattle.child_core.specs.Due.{acted as run_acted, acting as run_acting, is_at_rest}
use Rattle.child_core.specs.View.{View as Run, noted as run_noted}
use Rattle.conn_laws.specs.Form.{SaysDemands}
use Rattle.conn_laws.proofs.FormLaws.{flags_say}
use Rattle.conn_flags.specs.View.{View as Flags, has_room, is_live, more_by, noted}
use Rattle.many_conns.specs.Kept.{is_child}
use Rattle.many_conns.specs.Kind.{Fitting}
use Rattle.good_step_laws.proofs.Http.AccountLaws.{IsTook, late_is_took}
use Rattle.good_step_laws.proofs.Http.LateLaws.{kid_named, settled_but}
use Rattle.good_step_laws.proofs.Http.StillWords.{rest_quiet}
use Rattle.talk_core.specs.Acting.{acted, acting}
use Rattle.talk_core.specs.Hearing.{heard, heard_going, heard_unless, ends, note_of, run_heard}
use Rattle.talk_core.specs.View.{View as Talk}
use Rattle.talk_laws.specs.Rules.{why_at}
use Rattle.talk_laws.proofs.RestLaws.{acted_rests}
use Rattle.talk_laws.proofs.TalkLaws.{talks_say_demands}
use Rattle.talk_laws.proofs.WhyLaws.{why_some}
use Rattle.talk_conn.specs.declared.conn.TalkConn.{TalkConn}
use Rattle.talk_conn.specs.Parts.{acted_conn, heard_conn, is_ask_due, may_want, said_conn, why_of}
use Rattle.talk_conn.specs.Slot.{unsettled_child_of, last_child_of}
use Rattle.talk_conn.specs.View.{flags_of, number_of, run_of, site_of, talk_of, was_lost}
use Rattle.talk_laws.specs.Stands.{StepsAreGood, Talks, TalksNoMore}
use Rattle.talk_laws.proofs.Steps.FoundLaws.{through}
use Rattle.talk_laws.proofs.Steps.FlagLaws.{says_none}
use Rattle.talk_laws.proofs.Steps.TailLaws.{reason}
use Rattle.good_step_laws.specs.Talk.Stands.{TalkHolds}
use Rattle.good_step_laws.proofs.Talk.IdleLaws.{dead_flags, nothing_said}
use Rattle.good_step_laws.proofs.Talk.QuietLaws.{IsQuiet, holds_next, quiet_step}
use Rattle.good_step_laws.proofs.Talk.SpeakLaws.{unsettled_is_last, last_child_started, unsettled}

-- ---- it is as it was

flags_same : (m : Flags) (k n : ℕ) → noted m (In (Took k n)) ≡ m
flags_same m k n = ap (λ (p : ℕ). record m { pending = p }) (sent m.upgraded)
  where
    sent : (b : Bool) → more_by (if b then 0 else 0) m.pending ≡ m.pending
    sent true = refl
    sent false = refl

and_false : (b : Bool) → (b && false) ≡ false
and_false true = refl
and_false false = refl

or_none : {X : Type 0} (o : Option X) → or_else o None ≡ o
or_none None = refl
or_none (Some x) = refl

run_same : (t : Talk) (v : Run) (k n : ℕ) → is_child (Some v.number) k ≡ false → run_heard t v (Took k n) ≡ v
run_same t v k n other =
    let same : run_noted t.conn v (note_of t v (Took k n)) (In (Took k n)) ≡ v = rw (other, and_false (is_websocket v.kind), and_false (not (is_some v.outcome)), or_none v.outcome) refl in same

or_nothing : (b : Bool) → (b || false) ≡ b
or_nothing true = refl
or_nothing false = refl

-- what is told of a talk between two steps
record Rests (t : Talk) (v : Run) : Type 0 where
  texts : t.texts ≡ []
  code : t.code ≡ None
  going : t.over ≡ false → is_some v.outcome ≡ false

talk_same : (t : Talk) (v : Run) (k n : ℕ) → run_heard t v (Took k n) ≡ v → Rests t v → heard t v (Took k n) ≡ t
talk_same t v k n same r = go t.over refl
  where
    go : (b : Bool) → t.over ≡ b → heard_unless b t v (Took k n) ≡ t
    go true is = refl
    go false is =
        let on : ends t v (Took k n) ≡ false = or_nothing (is_some (run_heard t v (Took k n)).outcome) ∙ (ap (λ (w : Run). is_some w.outcome) same ∙ r.going is) in
        ap (λ (b : Bool). heard_going t (Took k n) b) on
        ∙ (ap (λ (l : List (List ℕ)). record t { texts = l; code = None; over = false }) (sym r.texts)
        ∙ (ap (λ (o : Option ℕ). record t { code = o; over = false }) (sym r.code) ∙ ap (λ (b : Bool). record t { over = b }) (sym is)))

said_same : (t : Talk) → t.texts ≡ [] → t.code ≡ None → acted t ≡ t
said_same t texts code = ap (λ (l : List (List ℕ)). record t { texts = l; code = None }) (sym texts) ∙ ap (λ (o : Option ℕ). record t { code = o }) (sym code)

-- ---- nothing is due

unasked_by : (l r w a : Bool) → implies (l && r && w) a ≡ true → (l && r && w && not a) ≡ false
unasked_by true true true true e = refl
unasked_by true true true false e = absurd (false≢true e)
unasked_by true true false a e = refl
unasked_by true false w a e = refl
unasked_by false r w a e = refl

undecided : (o h k over : Bool) → ((o || h || k) ≡ true → over ≡ true) → over ≡ false → o ≡ false
undecided true h k over f e = absurd (false≢true (sym e ∙ f refl))
undecided false h k over f e = refl

module _ (site : Site) (talk : TalkConn) (L : List Item) (h : TalkHolds site talk L) where
  abbrev c : ℕ
  c = number_of talk

  abbrev now : Exchange
  now = current (site_of talk) (number_of talk) L

  all : all_of now ≡ L
  all = all_of-current (site_of talk) (number_of talk) L

  says : SaysDemands (flags_of talk) L
  says = flags_say (flags_of talk) L h.stands.flags

  -- a talk that is over is shut
  over_shut : (talk_of talk).over ≡ true → (flags_of talk).shut ≡ true
  over_shut over = go (was_lost talk) refl
    where
      go : (b : Bool) → was_lost talk ≡ b → (flags_of talk).shut ≡ true
      go true is = (h.stands.lost is).shut
      go false is = h.stands.flags.shut ∙ (ap (λ (l : List Item). shut l c) (sym all) ∙ (h.stands.found is).rests.over_shut over)

  may_is : may_want talk ≡ has_room (flags_of talk)
  may_is = go (talk_of talk).over refl
    where
      go : (b : Bool) → (talk_of talk).over ≡ b → (has_room (flags_of talk) || (talk_of talk).over) ≡ has_room (flags_of talk)
      go true is =
          let roomy : has_room (flags_of talk) ≡ true = ap (λ (b : Bool). b || nat_le (flags_of talk).pending 262144) (over_shut is) in
          ap (λ (b : Bool). b || (talk_of talk).over) roomy ∙ sym roomy
      go false is = ap (λ (b : Bool). has_room (flags_of talk) || b) is ∙ or_nothing (has_room (flags_of talk))

  even : is_at_rest (may_want talk) (run_of talk) ≡ true
  even = ap (λ (b : Bool). is_at_rest b (run_of talk)) may_is ∙ h.stands.even

  rests : Rests (talk_of talk) (run_of talk)
  rests = go (was_lost talk) refl
    where
      go : (b : Bool) → was_lost talk ≡ b → Rests (talk_of talk) (run_of talk)
      go true is =
          let t : TalksNoMore talk L = h.stands.lost is in
          record { texts = t.texts; code = t.code; going = λ on. absurd (false≢true (sym on ∙ t.over)) }
      go false is =
          let t : Talks talk L = h.stands.found is in
          record {
            texts = t.rests.texts;
            code = t.rests.code;
            going = undecided (is_some (run_of talk).outcome) (run_of talk).hung_up (run_of talk).killed (talk_of talk).over t.talk.stands.talk.done_over;
          }

  live_going : is_live (flags_of talk) ≡ true → (talk_of talk).over ≡ false
  live_going live = false_from_ne_true (talk_of talk).over (λ over. false≢true (sym (dead_flags (flags_of talk) (over_shut over)) ∙ live))

  live_found : is_live (flags_of talk) ≡ true → was_lost talk ≡ false
  live_found live = false_from_ne_true (was_lost talk) (λ lost. false≢true (sym (dead_flags (flags_of talk) (h.stands.lost lost).shut) ∙ live))

  -- there is no reason to shut it
  why_then : (t : Talks talk L) → (talk_of talk).over ≡ false → reason talk ≡ None
  why_then t going = by (why_at c (all_of now) (talk_of talk).over) refl
    where
      at_is : why_at c (all_of now) (talk_of talk).over ≡ reason talk
      at_is =
          ap (λ (l : List Item). why_at c l (talk_of talk).over) all
          ∙ (ap (λ (b : Bool). if not b then None else (if stopped L then Some Stopped else (if is_gone c L then Some Gone else (if list_any (is_no_room c) L then Some NoMemory else (if (talk_of talk).over then Some Done else None))))) h.stands.accepted
          ∙ (ap (λ (b : Bool). if b then Some Stopped else (if is_gone c L then Some Gone else (if list_any (is_no_room c) L then Some NoMemory else (if (talk_of talk).over then Some Done else None)))) (sym says.stopped_then)
          ∙ (ap (λ (b : Bool). if (flags_of talk).stopped then Some Stopped else (if b then Some Gone else (if list_any (is_no_room c) L then Some NoMemory else (if (talk_of talk).over then Some Done else None)))) (sym says.gone)
          ∙ ap (λ (b : Bool). if (flags_of talk).stopped then Some Stopped else (if (flags_of talk).gone then Some Gone else (if b then Some NoMemory else (if (talk_of talk).over then Some Done else None)))) (sym says.no_room_then ∙ t.room))))

      by : (why : Option Why) → why_at c (all_of now) (talk_of talk).over ≡ why → reason talk ≡ None
      by None is = sym at_is ∙ is
      by (Some why) is =
          let roomy : list_any (is_no_room c) (all_of now) ≡ false = ap (list_any (is_no_room c)) all ∙ (sym says.no_room_then ∙ t.room) in
          absurd (false≢true (sym going ∙ (why_some c (all_of now) (talk_of talk).over why is roomy t.talk.parted).0))

  unshut : why_of talk ≡ None
  unshut = go (is_live (flags_of talk)) refl
    where
      go : (b : Bool) → is_live (flags_of talk) ≡ b → (if not (is_live (flags_of talk)) then None else (if talk.lost then Some NoMemory else reason talk)) ≡ None
      go false dead = ap (λ (b : Bool). if not b then None else (if talk.lost then Some NoMemory else reason talk)) dead
      go true live =
          ap (λ (b : Bool). if not b then None else (if talk.lost then Some NoMemory else reason talk)) live
          ∙ (ap (λ (b : Bool). if b then Some NoMemory else reason talk) (live_found live) ∙ why_then (h.stands.found (live_found live)) (live_going live))

  -- its client was asked, or is not to be
  unasked : is_ask_due talk ≡ false
  unasked = go (is_live (flags_of talk)) refl
    where
      go : (b : Bool) → is_live (flags_of talk) ≡ b → is_ask_due talk ≡ false
      go false dead = ap (λ (b : Bool). b && has_room (flags_of talk) && wants_text (run_of talk) && not (flags_of talk).asked) dead
      go true live =
          let t : Talks talk L = h.stands.found (live_found live) in
          let must : must_hear (site_of talk) c now ≡ (is_live (flags_of talk) && has_room (flags_of talk) && wants_text (run_of talk)) =
          (talks_say_demands (site_of talk) c now t.legs t.continued (talk_of talk) (run_of talk) t.talk).hears_then
          ∙ (ap (λ (l : List Item). is_live_then c l && has_room_then c l && wants_text (run_of talk)) all
          ∙ (ap (λ (b : Bool). b && has_room_then c L && wants_text (run_of talk)) (sym says.live) ∙ ap (λ (b : Bool). is_live (flags_of talk) && b && wants_text (run_of talk)) (sym says.room))) in
          let asks : hears (site_of talk) c now ≡ true = subst (λ (s : Site). hears s c (current s c L) ≡ true) (sym h.site_is) h.asks in
          unasked_by (is_live (flags_of talk)) (has_room (flags_of talk)) (wants_text (run_of talk)) (flags_of talk).asked
          (ap (λ (b : Bool). implies b (flags_of talk).asked) (sym must) ∙ (ap (implies (must_hear (site_of talk) c now)) (says.asked ∙ ap (λ (l : List Item). client_wanted l c) (sym all)) ∙ asks))

  module _ (k m : ℕ) (other : is_child (Some (last_child_of talk)) k ≡ false) where
    abbrev ev : Event
    ev = Took k m

    run_is : run_heard talk.talk talk.run ev ≡ talk.run
    run_is = run_same talk.talk talk.run k m other

    talk_is : heard talk.talk talk.run ev ≡ talk.talk
    talk_is = talk_same talk.talk talk.run k m run_is rests

    heard_is : heard_conn true ev talk ≡ talk
    heard_is =
        ap (λ (x : Flags). record talk { flags = x; talk = heard talk.talk talk.run ev; run = run_heard talk.talk talk.run ev }) (flags_same talk.flags k m)
        ∙ (ap (λ (x : Talk). record talk { talk = x; run = run_heard talk.talk talk.run ev }) talk_is ∙ ap (λ (x : Run). record talk { run = x }) run_is)

    said_is : said_conn true talk ≡ talk
    said_is =
        ap (λ (x : Flags). record talk { flags = x; talk = acted talk.talk })
        (ap (λ (l : List (List ℕ)). noted talk.flags (Out (Says talk.flags.c l))) rests.texts ∙ says_none talk.flags)
        ∙ ap (λ (x : Talk). record talk { talk = x }) (said_same talk.talk rests.texts rests.code)

    then_is : said_conn true (heard_conn true ev talk) ≡ talk
    then_is = ap (said_conn true) heard_is ∙ said_is

    pub same : through ev talk ≡ talk
    same = ap (acted_conn true) then_is ∙ ap (λ (x : Run). record talk { run = x }) (acted_rests (may_want talk) talk.run even)

    quiet : IsQuiet talk ev
    quiet = record {
      said = ap acting talk_is ∙ nothing_said talk.talk rests.texts rests.code;
      given = ap (λ (x : TalkConn). run_acting (may_want x) (run_heard talk.talk talk.run ev)) then_is ∙ (ap (run_acting (may_want talk)) run_is ∙ (rest_quiet (may_want talk) talk.run even).0);
      unshut = ap why_of same ∙ unshut;
      unasked = ap is_ask_due same ∙ unasked;
      heard_it = refl;
    }

    pub took_late : (law : StepsAreGood) → fits_own (site_of talk).limits.children L ev ≡ true → TalkHolds site talk (L ++ In ev ∷ [])
    took_late law fits = subst (λ (x : TalkConn). TalkHolds site x (L ++ In ev ∷ [])) same (holds_next law site talk (through ev talk) L ev [] h fits (quiet_step talk ev quiet))

pub late : (law : StepsAreGood) (site : Site) (talk : TalkConn) (L : List Item) (limit n : ℕ) (stamp : Option ℕ) (k : ℕ) (ev : Event) → TalkHolds site talk L
    → Fitting limit (number_of talk) n stamp L ev → names_child k (In ev) ≡ true → is_child (Some (last_child_of talk)) k ≡ false → TalkHolds site talk (L ++ In ev ∷ [])
late law site talk L limit n stamp k ev h fit named other =
    let it : has (children L (number_of talk)) k ≡ true = kid_named (number_of talk) n k (children L (number_of talk)) ev named fit.mine in
    let over : settled L k ≡ true = settled_but L (number_of talk) k (unsettled_child_of talk) (unsettled site talk L h) it (λ open_yet. false≢true (sym other ∙ unsettled_is_last talk k open_yet)) in
    let took : IsTook ev k = late_is_took limit L k h.accounts over ev named fit.fits in
    subst (λ (x : Event). TalkHolds site talk (L ++ In x ∷ [])) (sym took.is)
    (took_late site talk L h k took.count other law (ap (fits_own limit L) (sym took.is) ∙ fit.fits))
