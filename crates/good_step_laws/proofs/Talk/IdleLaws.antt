-- A connection whose talk is over, which is shut and whose child is settled, goes on as it is.
use Rattle.std.proofs.Common.{◌≡◌, ℕ, ◌&&◌, ◌||◌, Bool, true, false, not, List, [], ◌∷◌, ◌++◌, Option, Some, None, if◌then◌else◌, inl, inr, refl, sym, ap, ◌∙◌, subst}
use Rattle.std.specs.Option.{option_to_list}
use Rattle.std.proofs.lemmas.Bool.{false≢true, or_from, or_parts}
use Rattle.host_base.specs.declared.site.Site.{Site}
use Rattle.host_trace.specs.declared.items.Event.{Event}
use Rattle.host_trace.specs.declared.items.Event.TheVariants.{Tick, Stop, Took}
use Rattle.host_trace.specs.declared.items.Item.{Item}
use Rattle.host_trace.specs.declared.items.Item.TheVariants.{In}
use Rattle.host_trace.specs.declared.items.Why.TheVariants.{NoMemory}
use Rattle.host_trace.specs.Account.{has_unsettled, settled}
use Rattle.host_trace.specs.Kinds.{is_no_room}
use Rattle.host_trace.specs.Projections.{children, shut}
use Rattle.own_traces.specs.OwnFits.{fits_own}
use Rattle.trace_model.specs.Exchanges.{current}
use Rattle.trace_model.proofs.ExchangeLaws.{all_of-current}
use Rattle.child_core.specs.Calls.{is_settled, wants_text}
use Rattle.child_core.specs.Due.{acted as run_acted, acting as run_acting}
use Rattle.child_core.specs.View.{View as Run}
use Rattle.child_laws.proofs.DueLaws.{unrefused}
use Rattle.conn_flags.specs.View.{View as Flags, has_room, is_live, noted}
use Rattle.many_conns.specs.Kind.{Fitting}
use Rattle.good_step_laws.proofs.Http.GoneLaws.{Passes, stops, takes, ticks, what_passes}
use Rattle.good_step_laws.proofs.Http.QuietLaws.{settled_quiet}
use Rattle.good_step_laws.proofs.Http.SettledLaws.{filtered_none}
use Rattle.talk_core.specs.Acting.{acting}
use Rattle.talk_core.specs.Hearing.{heard, heard_unless, run_heard}
use Rattle.talk_core.specs.Setting.{setting}
use Rattle.talk_core.specs.View.{View as Talk}
use Rattle.talk_laws.proofs.HearLaws.{shut_within}
use Rattle.talk_conn.specs.declared.conn.TalkConn.{TalkConn}
use Rattle.talk_conn.specs.Parts.{heard_conn, may_want, said_conn}
use Rattle.talk_conn.specs.Slot.{is_held}
use Rattle.talk_conn.proofs.KeptLaws.{steps_keep}
use Rattle.talk_conn.specs.View.{flags_of, number_of, run_of, site_of, talk_of, was_lost}
use Rattle.talk_laws.specs.Stands.{StepsAreGood, Talks, TalksNoMore}
use Rattle.talk_laws.proofs.Steps.FoundLaws.{through}
use Rattle.talk_laws.proofs.Steps.TailLaws.{reason}
use Rattle.good_step_laws.specs.Talk.Laws.{TalkGone}
use Rattle.good_step_laws.specs.Talk.Stands.{TalkHolds}
use Rattle.good_step_laws.proofs.Talk.QuietLaws.{IsQuiet, holds_next, quiet_step}
use Rattle.good_step_laws.proofs.Talk.SpeakLaws.{Speaks, speaks, unsettled}

not_not : (b : Bool) → not b ≡ false → b ≡ true
not_not true e = refl
not_not false e = absurd (false≢true (sym e))

-- ---- a talk that is shut has nothing to say

pub record IsOver (t : Talk) : Type 0 where
  pub over : t.over ≡ true
  pub texts : t.texts ≡ []
  pub code : t.code ≡ None

pub nothing_said : (t : Talk) → t.texts ≡ [] → t.code ≡ None → acting t ≡ []
nothing_said t texts code = rw (texts, code) refl

pub shut_over : (site : Site) (talk : TalkConn) (L : List Item) → TalkHolds site talk L → (flags_of talk).shut ≡ true → IsOver (talk_of talk)
shut_over site talk L h over = go (was_lost talk) refl
  where
    go : (b : Bool) → was_lost talk ≡ b → IsOver (talk_of talk)
    go true is = let t : TalksNoMore talk L = h.stands.lost is in record { over = t.over; texts = t.texts; code = t.code }
    go false is =
        let t : Talks talk L = h.stands.found is in
        let c = number_of talk in
        let e = current (site_of talk) c L in
        record {
          over = t.talk.stands.talk.shut_over
              (sym (shut_within (site_of talk) c e t.legs t.continued (run_of talk).number t.talk.spoken)
              ∙ (ap (λ (l : List Item). shut l c) (all_of-current (site_of talk) c L) ∙ (sym h.stands.flags.shut ∙ over)));
          texts = t.rests.texts;
          code = t.rests.code;
        }

-- a connection that is shut is neither shut again nor asked
pub dead_flags : (m : Flags) → m.shut ≡ true → is_live m ≡ false
dead_flags m over = ap (λ (b : Bool). m.accepted && not b) over ∙ none m.accepted
  where
    none : (a : Bool) → (a && false) ≡ false
    none true = refl
    none false = refl

-- ---- an event that passes

-- it changes neither what is settled of the child nor that it is shut
record Leaves (talk : TalkConn) (ev : Event) : Type 0 where
  settled_same : is_settled (run_heard talk.talk talk.run ev) ≡ is_settled talk.run
  started_same : (run_heard talk.talk talk.run ev).started ≡ talk.run.started
  refused_same : (run_heard talk.talk talk.run ev).refused ≡ talk.run.refused
  shut_same : (noted talk.flags (In ev)).shut ≡ talk.flags.shut
  heard_it : is_no_room (number_of talk) (In ev) ≡ false

module _ (law : StepsAreGood) (site : Site) (talk : TalkConn) (L : List Item) (h : TalkHolds site talk L) (free : is_held talk ≡ false) where
  abbrev c : ℕ
  c = number_of talk

  shut_now : (flags_of talk).shut ≡ true
  shut_now = not_not (flags_of talk).shut (or_parts (not (flags_of talk).shut) (not (is_settled (run_of talk))) free).0

  settled_now : is_settled (run_of talk) ≡ true
  settled_now = not_not (is_settled (run_of talk)) (or_parts (not (flags_of talk).shut) (not (is_settled (run_of talk))) free).1

  over : IsOver (talk_of talk)
  over = shut_over site talk L h shut_now

  its : Speaks talk L
  its = speaks talk L h.next h.stands

  unrefused_then : (run_of talk).started ≡ true → (run_of talk).refused ≡ false
  unrefused_then = unrefused false (setting c (run_of talk).number (site_of talk).limits) (run_of talk) (current (site_of talk) c L).items its.knows

  goes : (ev : Event) → Leaves talk ev → fits_own (site_of talk).limits.children L ev ≡ true → TalkGone site c (L ++ In ev ∷ [])
  goes ev leaves fits =
      let may : Bool = may_want (said_conn true (heard_conn true ev talk)) in
      let run : Run = run_heard talk.talk talk.run ev in
      let same : heard talk.talk talk.run ev ≡ talk.talk = ap (λ (b : Bool). heard_unless b talk.talk talk.run ev) over.over in
      let calm = settled_quiet may run (λ on. leaves.refused_same ∙ unrefused_then (sym leaves.started_same ∙ on)) (leaves.settled_same ∙ settled_now) in
      let over_then : (flags_of (through ev talk)).shut ≡ true = leaves.shut_same ∙ shut_now in
      let dead : is_live (flags_of (through ev talk)) ≡ false = dead_flags (flags_of (through ev talk)) over_then in
      let quiet : IsQuiet talk ev = record {
        said = ap acting same ∙ nothing_said talk.talk over.texts over.code;
        given = calm.0;
        unshut = ap (λ (b : Bool). if not b then None else (if talk.lost then Some NoMemory else reason (through ev talk))) dead;
        unasked = ap (λ (b : Bool). b && has_room (flags_of (through ev talk)) && wants_text (run_of (through ev talk)) && not (flags_of (through ev talk)).asked) dead;
        heard_it = leaves.heard_it;
      } in
      let steps = quiet_step talk ev quiet in
      record {
        talk = through ev talk;
        number = (steps_keep talk (through ev talk) ev [] steps).number;
        holds = holds_next law site talk (through ev talk) L ev [] h fits steps;
        free = or_from (not (flags_of (through ev talk)).shut) (not (is_settled (run_of (through ev talk)))) (ap not over_then)
            (ap (λ (v : Run). not (is_settled v)) calm.1 ∙ ap not (leaves.settled_same ∙ settled_now));
      }

  by : (limit n : ℕ) (stamp : Option ℕ) (ev : Event) → Passes ev → Fitting limit c n stamp L ev → TalkGone site c (L ++ In ev ∷ [])
  by limit n stamp ev (ticks secs is) fit =
      let f : fits_own limit L (Tick secs) ≡ true = ap (fits_own limit L) (sym is) ∙ fit.fits in
      subst (λ (x : Event). TalkGone site c (L ++ In x ∷ [])) (sym is)
      (goes (Tick secs) (record { settled_same = refl; started_same = refl; refused_same = refl; shut_same = refl; heard_it = refl }) f)
  by limit n stamp ev (stops is) fit =
      let f : fits_own limit L Stop ≡ true = ap (fits_own limit L) (sym is) ∙ fit.fits in
      subst (λ (x : Event). TalkGone site c (L ++ In x ∷ [])) (sym is)
      (goes Stop (record { settled_same = refl; started_same = refl; refused_same = refl; shut_same = refl; heard_it = refl }) f)
  by limit n stamp ev (takes k m is) fit =
      let f : fits_own limit L (Took k m) ≡ true = ap (fits_own limit L) (sym is) ∙ fit.fits in
      subst (λ (x : Event). TalkGone site c (L ++ In x ∷ [])) (sym is)
      (goes (Took k m) (record { settled_same = refl; started_same = refl; refused_same = refl; shut_same = refl; heard_it = refl }) f)

  none_open : has_unsettled L c ≡ false
  none_open =
      filtered_none (λ k. not (settled L k)) (children L c) (unsettled site talk L h ∙ ap (λ (b : Bool). option_to_list (if b then None else Some (run_of talk).number)) settled_now)

  pub goes_on : (limit n : ℕ) (stamp : Option ℕ) (ev : Event) → Fitting limit c n stamp L ev → TalkGone site c (L ++ In ev ∷ [])
  goes_on limit n stamp ev fit =
      by limit n stamp ev (what_passes limit c n L h.accounts none_open h.stands.accepted (sym h.stands.flags.shut ∙ shut_now) ev fit.mine fit.fits) fit

pub idle : (law : StepsAreGood) (site : Site) (c : ℕ) (L : List Item) (limit n : ℕ) (stamp : Option ℕ) (ev : Event) → TalkGone site c L → Fitting limit c n stamp L ev → TalkGone site c (L ++ In ev ∷ [])
idle law site c L limit n stamp ev g fit =
    subst (λ (d : ℕ). TalkGone site d (L ++ In ev ∷ [])) g.number
    (goes_on law site g.talk L g.holds g.free limit n stamp ev (subst (λ (d : ℕ). Fitting limit d n stamp L ev) (sym g.number) fit))
