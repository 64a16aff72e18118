-- Where memory ran out for a talk.
use Rattle.std.proofs.Common.{◌≡◌, ◌≤◌, ℕ, Bool, true, false, List, [], ◌∷◌, Option, Some, None, refl, sym, ap, subst, ◌∙◌, append-nil, inl, inr}
use Rattle.std.specs.Prelude.{◌&&◌, ◌||◌, ◌==◌, not, is_some}
use Rattle.std.proofs.lemmas.Bool.{cases_Bool, and_parts, eqb-true, false≢true, not-true, true≢false}
use Rattle.host_base.specs.declared.site.Site.{Site}
use Rattle.host_trace.specs.declared.items.Act.{Act}
use Rattle.host_trace.specs.declared.items.Act.TheVariants.{Shut, Feed, EndInput, WantChild, Kill, Release}
use Rattle.host_trace.specs.declared.items.Event.{Event}
use Rattle.host_trace.specs.declared.items.Event.TheVariants.{ChildBytes, WsText}
use Rattle.host_trace.specs.declared.items.Item.{Item}
use Rattle.host_trace.specs.declared.items.Item.TheVariants.{In, Out}
use Rattle.host_trace.specs.declared.items.Why.TheVariants.{NoMemory}
use Rattle.host_trace.specs.Decider.{is_long_text, is_websocket, makes_long_line}
use Rattle.host_trace.specs.First.{or_else, since}
use Rattle.host_trace.specs.Kinds.{is_start, texts_heard}
use Rattle.host_trace.specs.Projections.{client_wanted, shut, upgraded}
use Rattle.own_traces.specs.OwnFits.{fits_own}
use Rattle.line_messages.specs.Lines.{input}
use Rattle.trace_child.specs.Words.{is_filled}
use Rattle.trace_model.specs.Exchange.{Exchange, all_of, pushed}
use Rattle.trace_model.specs.Legs.{Leg}
use Rattle.child_core.specs.declared.ending.Outcome.{Outcome}
use Rattle.child_core.specs.Due.{Due, Path, acting as run_acting, after, given, is_feed_due}
use Rattle.child_core.specs.Knows.{Offers}
use Rattle.child_core.specs.View.{View as Run, plain, noted}
use Rattle.child_core.proofs.CallLaws.{memory-is}
use Rattle.child_core.proofs.KnowsLaws.{Knows-noted}
use Rattle.child_core.proofs.MemoryLaws.{acting-due, knows-early}
use Rattle.child_core.proofs.TellLaws.{run-admits}
use Rattle.child_laws.specs.Laws.{with_acts}
use Rattle.child_laws.proofs.DueLaws.{due_outcome}
use Rattle.child_laws.proofs.ItemLaws.{fits_it}
use Rattle.talk_core.specs.Hearing.{note_of, run_heard}
use Rattle.talk_core.specs.Knows.{run_of as talk_run}
use Rattle.talk_core.specs.Laws.{SaysNothing}
use Rattle.talk_core.specs.Setting.{setting}
use Rattle.talk_core.specs.View.{View as Talk, given_up}
use Rattle.talk_core.proofs.GiveLaws.{texts_are_heard}
use Rattle.talk_core.proofs.HearLaws.{shut_since-push}
use Rattle.talk_core.proofs.ItemLaws.{taken_quiet}
use Rattle.talk_core.proofs.PartLaws.{losses_are_known, parts_stay}
use Rattle.talk_laws.specs.Moves.{EventsKeepLost, LossesMove, LostActsMove, LostShutsMove}
use Rattle.talk_laws.specs.TalkIs.{TalkLostIs}
use Rattle.talk_laws.proofs.ActLaws.{small_quiet, with_more, with_none, due_small}
use Rattle.talk_laws.proofs.HearLaws.{bytes_none, no_idle, shut_within, spoken_all, spoken_push}
use Rattle.talk_laws.proofs.HeldLaws.{held_given, held_known, shut_known}
use Rattle.talk_laws.proofs.ListLaws.{answer_asked, once_act, once_heard}

some_then : (o : Option Outcome) (x : Outcome) → is_some (or_else o (Some x)) ≡ true
some_then None x = refl
some_then (Some y) x = refl

pub losses_move : LossesMove
losses_move site c e legs continued t v is = record {
  view = v;
  held_as = refl;
  spoken = is.spoken;
  kind = is.kind;
  decided = some_then v.outcome _;
  shut_since = is.stands.talk.shut_since;
  run = knows-early (not (is_some v.outcome)) (setting c v.number site.limits) v e.items is.stands.run;
  talk = given_up t;
  part = losses_are_known c site.limits t v e.items is.stands.talk;
}

-- ---- acts of the child

-- nothing is fed to a run that is decided
decided_feed : (v : Run) → is_some v.outcome ≡ true → is_feed_due v ≡ false
decided_feed v some = ap (λ b. v.started && not b && not v.exited && not v.input_ended && is_filled v.unfed && v.untaken == 0) some ∙ go v.started (not v.exited) (not v.input_ended) (is_filled v.unfed) (v.untaken == 0)
  where
    go : (a b d f g : Bool) → (a && false && b && d && f && g) ≡ false
    go true b d f g = refl
    go false b d f g = refl

due_nothing : (may : Bool) (held : Run) (c k : ℕ) (act : Act) → is_some held.outcome ≡ true → Due may held act → SaysNothing c k (Out act)
due_nothing may held c k (Feed j bytes) some d = absurd (true≢false (sym d.2 ∙ decided_feed held some))
due_nothing may held c k (EndInput j) some d = record { said = refl; fed = refl; sent = refl }
due_nothing may held c k (Kill j) some d = record { said = refl; fed = refl; sent = refl }
due_nothing may held c k (Release j) some d = record { said = refl; fed = refl; sent = refl }
due_nothing may held c k (WantChild j) some d = record { said = refl; fed = refl; sent = refl }
due_nothing may held c k act some d = absurd d

module _ (site : Site) (c : ℕ) (legs : List Leg) (continued early : Bool) (two : 2 ≤ site.limits.head) where
  lost_act : (e : Exchange) (may : Bool) (held : Run) (act : Act) → Due may held act → TalkLostIs site c e legs continued early held
      → TalkLostIs site c (pushed e (Out act)) legs continued early (given held act)
  lost_act e may held act due is =
      let q = small_quiet c act (due_small may held act due) in
      let v : Run = is.view in
      record {
        view = noted c v plain (Out act);
        held_as = held_given early may (setting c v.number site.limits) (texts_are_heard c v.number site.limits) held v e.items act due is.held_as;
        spoken = spoken_push site c e legs continued v.number is.spoken (Out act) two refl q.unwritten q.starts refl (once_act c e act q.asks_none is.spoken.once);
        kind = is.kind;
        decided = ap is_some (due_outcome may 0 held held act due) ∙ is.decided;
        shut_since = shut_since-push v.number c e.items (Out act) is.run.begun is.shut_since;
        run = held_known early may (setting c v.number site.limits) (texts_are_heard c v.number site.limits) held v e.items act due is.held_as is.run;
        talk = is.talk;
        part =
            parts_stay (talk_run c site.limits v) is.talk e.items (Out act) is.part (due_nothing may held c v.number act is.decided due)
            (λ event. absurd (false≢true event));
      }

  lost_path : (acts : List Act) (e : Exchange) (may : Bool) (held : Run) → Path may held acts → TalkLostIs site c e legs continued early held
      → TalkLostIs site c (with_acts e acts) legs continued early (after held acts)
  lost_path [] e may held path is = subst (λ d. TalkLostIs site c d legs continued early held) (sym (with_none e)) is
  lost_path (act ∷ acts) e may held path is =
      subst (λ d. TalkLostIs site c d legs continued early (after (given held act) acts)) (with_more e act acts)
      (lost_path acts (pushed e (Out act)) may (given held act) path.1 (lost_act e may held act path.0 is))

pub lost_acts_move : LostActsMove
lost_acts_move site c e legs continued early may held two is =
    let due = acting-due may held in
    subst (λ w. TalkLostIs site c (with_acts e (run_acting may held)) legs continued early w) due.after_is
    (lost_path site c legs continued early two (run_acting may held) e may held due.path is)

-- ---- the Shut

pub lost_shuts_move : LostShutsMove
lost_shuts_move site c e legs continued held two is =
    let v : Run = is.view in
    let x : Item = Out (Shut c NoMemory) in
    record {
      view = noted c v plain x;
      held_as = is.held_as ∙ sym (memory-is c v);
      spoken = spoken_push site c e legs continued v.number is.spoken x two refl refl refl refl (once_heard c e x refl (λ answers. absurd (false≢true answers)) is.spoken.once);
      kind = is.kind;
      decided = is.decided;
      shut_since = shut_since-push v.number c e.items x is.run.begun is.shut_since;
      run = shut_known (setting c v.number site.limits) (texts_are_heard c v.number site.limits) v e.items is.run;
      talk = is.talk;
      part =
          parts_stay (talk_run c site.limits v) is.talk e.items x is.part (record { said = refl; fed = refl; sent = refl })
          (λ event. absurd (false≢true event));
    }

-- ---- events

-- no text is heard of a connection that is shut
no_text : (n c : ℕ) (L : List Item) (ev : Event) → shut L c ≡ true → fits_own n L ev ≡ true → texts_heard c (In ev) ≡ []
no_text n c L (WsText d bytes) dead fits = elim (cases_Bool (c == d)) [
  | inr other ↦ rw other refl
  | inl same ↦
      let p = and_parts (not (shut L d) && upgraded L d) (client_wanted L d) fits in
      let live = not-true (shut L d) (and_parts (not (shut L d)) (upgraded L d) p.0).0 in
      absurd (false≢true (sym live ∙ ap (shut L) (sym (eqb-true c d same)) ∙ dead))
]
no_text n c L ev dead fits = refl

plain_note : (t : Talk) (v : Run) (ev : Event) → t.over ≡ true → note_of t v ev ≡ plain
plain_note t v (WsText d bytes) over = rw over refl
plain_note t v (ChildBytes d bytes) over = rw over refl
plain_note t v ev over = refl

module _ (site : Site) (c : ℕ) (e : Exchange) (v : Run) (ev : Event) (kind : is_websocket v.kind ≡ true) (since_is : shut (since (is_start v.number) e.items) c ≡ true)
    (unheard : texts_heard c (In ev) ≡ []) where
  shut_offers : Offers (setting c v.number site.limits) v e.items plain (In ev)
  shut_offers = record {
    refused = λ w. sym (ap (λ b. not b && (is_long_text site.limits c (In ev) || makes_long_line site.limits v.number (since (is_start v.number) e.items) (In ev))) since_is);
    body = ap input (taken_quiet c v.number site.limits.ws_text e.items (In ev) unheard) ∙ sym (append-nil _);
    whole = λ w. absurd (true≢false (sym kind ∙ w));
    done = λ w is. absurd (true≢false (sym kind ∙ w));
    talk = λ w. refl;
  }

decided_stays : (o other : Option Outcome) → is_some o ≡ true → is_some (or_else o other) ≡ true
decided_stays (Some x) other is = refl
decided_stays None other is = absurd (false≢true is)

pub events_keep_lost : EventsKeepLost
events_keep_lost site c e legs continued t held ev two is conn over dead fits =
    let v : Run = is.view in
    let inner : shut e.items c ≡ true = sym (shut_within site c e legs continued v.number is.spoken) ∙ dead in
    let unheard = no_text site.limits.children c (all_of e) ev dead fits in
    let talks : is_websocket v.kind ≡ true = ap is_websocket is.kind in
    let same : run_heard t held ev ≡ noted c v plain (In ev) =
    ap (λ n. noted t.conn held n (In ev)) (plain_note t held ev over) ∙ ap (λ d. noted d held plain (In ev)) conn ∙ ap (λ w. noted c w plain (In ev)) is.held_as in
    record {
      view = noted c v plain (In ev);
      held_as = same;
      spoken =
          spoken_push site c e legs continued v.number is.spoken (In ev) two
          (bytes_none site.limits.children c (all_of e) ev (spoken_all site c e legs continued v.number is.spoken) fits) refl refl
          (no_idle site c e ev is.spoken.upgraded_is) (once_heard c e (In ev) refl (answer_asked site.limits.children c (all_of e) ev fits) is.spoken.once);
      kind = is.kind;
      decided = ap (λ (w : Run). is_some w.outcome) same ∙ decided_stays v.outcome _ (ap (λ (w : Run). is_some w.outcome) (sym is.held_as) ∙ is.decided);
      shut_since = shut_since-push v.number c e.items (In ev) is.run.begun is.shut_since;
      run =
          Knows-noted false (setting c v.number site.limits) v e.items plain (In ev) is.run
          (run-admits false (setting c v.number site.limits) v e.items plain ev is.run
          (fits_it false (setting c v.number site.limits) v e.before e.items ev is.spoken.before.unnamed is.run fits)
          (shut_offers site c e v ev talks (is.shut_since ∙ inner) unheard));
      talk = is.talk;
      part =
          parts_stay (talk_run c site.limits v) is.talk e.items (In ev) is.part (record { said = refl; fed = refl; sent = refl }) (λ event. inner);
    }
