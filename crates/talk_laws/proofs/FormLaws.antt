-- Acts of a talk and of its child come in form.
use Rattle.std.proofs.Common.{◌≡◌, ◌≤◌, ℕ, Bool, true, false, List, [], ◌∷◌, ◌++◌, Option, Some, None, refl, sym, ap, subst, ◌∙◌}
use Rattle.std.specs.Prelude.{◌&&◌, ◌||◌, not, is_some}
use Rattle.std.specs.List.{list_any}
use Rattle.std.proofs.lemmas.Bool.{and_from, or_parts, false≢true}
use Rattle.host_base.specs.declared.site.Site.{Site}
use Rattle.host_trace.specs.declared.items.Act.{Act}
use Rattle.host_trace.specs.declared.items.Act.TheVariants.{Write, Start, Feed, EndInput, WantChild, Kill, Release, Upgrade, Says, CloseWs}
use Rattle.host_trace.specs.declared.items.Item.{Item}
use Rattle.host_trace.specs.declared.items.Item.TheVariants.{Out}
use Rattle.host_trace.specs.Decider.{is_websocket}
use Rattle.host_trace.specs.Kinds.{is_accepted, is_close_ws, is_says, is_shut, is_ws_closed, is_ws_text}
use Rattle.host_trace.specs.Projections.{shut}
use Rattle.host_trace.specs.Told.{when}
use Rattle.trace_child.specs.ChildForm.{may_be_given}
use Rattle.trace_child.specs.Words.{is_filled}
use Rattle.trace_model.specs.Answers.{begins_in_turn}
use Rattle.trace_model.specs.Demands.{is_live}
use Rattle.trace_model.specs.Exchange.{Exchange, all_of, pushed}
use Rattle.trace_model.specs.Form.{comes_in_form}
use Rattle.trace_model.specs.Launches.{is_right_start}
use Rattle.trace_model.specs.Legs.{Leg}
use Rattle.trace_model.specs.Talks.{has_talk, is_right_talk_act}
use Rattle.child_core.specs.Due.{Due, Path, acting as run_acting, given}
use Rattle.child_core.specs.Knows.{KnowsRun}
use Rattle.child_core.specs.Tells.{behind}
use Rattle.child_core.specs.View.{View as Run, noted, plain}
use Rattle.child_core.proofs.BehindLaws.{Knows-behind}
use Rattle.child_core.proofs.MemoryLaws.{acting-due, due-form, ended-form}
use Rattle.child_laws.specs.Children.{HeldAs}
use Rattle.talk_core.specs.Acting.{acting, closing}
use Rattle.talk_core.specs.Laws.{is_of_talk}
use Rattle.talk_core.specs.Setting.{setting}
use Rattle.talk_core.proofs.GiveLaws.{texts_are_heard}
use Rattle.talk_laws.specs.Form.{AreUnwritten, ChildActsComeInForm, LostActsComeInForm, TalkActsComeInForm, TalkActsFit, each_keeps}
use Rattle.talk_laws.specs.TalkIs.{IsBefore, IsSpoken}
use Rattle.talk_laws.proofs.AcceptLaws.{accepted_are_welcomed}
use Rattle.talk_laws.proofs.ActLaws.{AreSmall, IsSmall, path_small, small_quiet, talk_small}
use Rattle.talk_laws.proofs.HearLaws.{spoken_all, spoken_push}
use Rattle.talk_laws.proofs.HeldLaws.{held_given, held_known}
use Rattle.talk_laws.proofs.ListLaws.{any_still, once_act, once_heard}

-- ---- rules that don't speak of them

small_unwritten : (c : ℕ) (acts : List Act) → AreSmall acts → AreUnwritten c acts
small_unwritten c [] small = tt
small_unwritten c (act ∷ acts) small = ((small_quiet c act small.0).unwritten, small_unwritten c acts small.1)

module _ (site : Site) (c : ℕ) where
  no_start : (e : Exchange) (act : Act) → IsSmall act → is_right_start site c e act ≡ true
  no_start e (Start k d j hop launch) s = absurd s
  no_start e act s = refl

  no_write : (e : Exchange) (act : Act) → IsSmall act → begins_in_turn site c e act ≡ true
  no_write e (Write d bytes) s = absurd s
  no_write e act s = refl

  keeps : (rule : Exchange → Act → Bool) → ((e : Exchange) (act : Act) → IsSmall act → rule e act ≡ true) → (acts : List Act) (e : Exchange) → AreSmall acts → each_keeps rule e acts ≡ true
  keeps rule kept [] e small = refl
  keeps rule kept (act ∷ acts) e small = and_from _ _ (kept e act small.0) (keeps rule kept acts (pushed e (Out act)) small.1)

  -- of a WebSocket whose program was started texts may be said and a close frame sent
  has_talked : (e : Exchange) (act : Act) → IsSmall act → has_talk site c e ≡ true → is_right_talk_act site c e act ≡ true
  has_talked e (Upgrade d rest) s has = absurd s
  has_talked e (Says d texts) s has = has
  has_talked e (CloseWs d code) s has = has
  has_talked e act s has = refl

  module _ (legs : List Leg) (continued : Bool) (k : ℕ) (two : 2 ≤ site.limits.head) where
    spoken_talks : (e : Exchange) → IsSpoken site c e legs continued k → has_talk site c e ≡ true
    spoken_talks e s = ap (list_any (λ leg. is_websocket leg.kind)) ((accepted_are_welcomed site c e s.value s.request s.mapped s.greeted.accepted).one k s.at_first)

    talked : (acts : List Act) (e : Exchange) → AreSmall acts → IsSpoken site c e legs continued k → each_keeps (is_right_talk_act site c) e acts ≡ true
    talked [] e small s = refl
    talked (act ∷ acts) e small s =
        let q = small_quiet c act small.0 in
        let later = spoken_push site c e legs continued k s (Out act) two refl q.unwritten q.starts refl (once_act c e act q.asks_none s.once) in
        and_from _ _ (has_talked e act small.0 (spoken_talks e s)) (talked acts (pushed e (Out act)) small.1 later)

    pub fits_by : (e : Exchange) (acts : List Act) → AreSmall acts → IsSpoken site c e legs continued k → each_keeps comes_in_form e acts ≡ true → TalkActsFit site c e acts
    fits_by e acts small s form = record {
      unwritten = small_unwritten c acts small;
      in_form = form;
      starts = keeps (is_right_start site c) no_start acts e small;
      talk_acts = talked acts e small s;
      in_turn = keeps (begins_in_turn site c) no_write acts e small;
    }

-- an act that is no Shut leaves a connection live
still_live : (c : ℕ) (e : Exchange) (act : Act) → is_shut c (Out act) ≡ false → is_accepted (Out act) ≡ false → is_live c (all_of (pushed e (Out act))) ≡ is_live c (all_of e)
still_live c e act open_then none =
    ap (λ b. b && not (shut (all_of (pushed e (Out act))) c)) (any_still is_accepted e (Out act) none)
    ∙ ap (λ b. list_any is_accepted (all_of e) && not b) (any_still (is_shut c) e (Out act) open_then)

-- ---- acts of the talk

module _ (site : Site) (c : ℕ) (legs : List Leg) (continued : Bool) (k : ℕ) (two : 2 ≤ site.limits.head) where
  said_form : (e : Exchange) (texts : List (List ℕ)) → is_live c (all_of e) ≡ true → IsSpoken site c e legs continued k → is_filled texts ≡ true
      → comes_in_form e (Says c texts) ≡ true
  said_form e texts live s some = and_from _ _ (and_from _ _ live (spoken_all site c e legs continued k s)) some

  code_form : (e : Exchange) (code : ℕ) → is_live c (all_of e) ≡ true → IsSpoken site c e legs continued k → comes_in_form e (CloseWs c code) ≡ true
  code_form e code live s = and_from _ _ live (spoken_all site c e legs continued k s)

  codes_form : (e : Exchange) (code : Option ℕ) → is_live c (all_of e) ≡ true → IsSpoken site c e legs continued k → each_keeps comes_in_form e (closing c code) ≡ true
  codes_form e None live s = refl
  codes_form e (Some code) live s = and_from _ _ (code_form e code live s) refl

  acts_form : (b : Bool) (e : Exchange) (texts : List (List ℕ)) (code : Option ℕ) → is_filled texts ≡ b → is_live c (all_of e) ≡ true → IsSpoken site c e legs continued k
      → each_keeps comes_in_form e (when b (Says c texts) ++ closing c code) ≡ true
  acts_form false e texts code some live s = codes_form e code live s
  acts_form true e texts code some live s =
      let x : Item = Out (Says c texts) in
      and_from _ _ (said_form e texts live s some)
      (codes_form (pushed e x) code (still_live c e (Says c texts) refl refl ∙ live) (spoken_push site c e legs continued k s x two refl refl refl refl (once_heard c e x refl (λ answers. absurd (false≢true answers)) s.once)))

pub talk_acts_come_in_form : TalkActsComeInForm
talk_acts_come_in_form site c e legs continued t v two live is =
    fits_by site c legs continued v.number two e (acting t) (talk_small t) is.spoken
    (subst (λ d. each_keeps comes_in_form e (when (is_filled t.texts) (Says d t.texts) ++ closing d t.code) ≡ true) (sym is.stands.talk.conn)
    (acts_form site c legs continued v.number two (is_filled t.texts) e t.texts t.code refl live is.spoken))

-- ---- acts of the child

of_child : (may : Bool) (held : Run) (act : Act) (e : Exchange) → Due may held act → may_be_given (all_of e) act ≡ true → comes_in_form e act ≡ true
of_child may held (Feed k bytes) e due is = is
of_child may held (EndInput k) e due is = is
of_child may held (Kill k) e due is = is
of_child may held (Release k) e due is = is
of_child may held (WantChild k) e due is = is
of_child may held act e due is = absurd due

unclosed_before : (c : ℕ) (L : List Item) → list_any (is_of_talk c) L ≡ false → list_any (is_ws_closed c) L ≡ false
unclosed_before c [] none = refl
unclosed_before c (x ∷ L) none =
    let p = or_parts (is_of_talk c x) (list_any (is_of_talk c) L) none in
    let q = or_parts (is_says c x || is_close_ws c x || is_ws_text c x) (is_ws_closed c x) p.0 in
    rw q.1 (unclosed_before c L p.1)

module _ (site : Site) (c : ℕ) (early may : Bool) where
  child_form : (e : Exchange) (held v : Run) (act : Act) → IsBefore c v.number e.before → Due may held act → HeldAs early held v
      → KnowsRun (early && not (is_some v.outcome)) (setting c v.number site.limits) v e.items → comes_in_form e act ≡ true
  child_form e held v act b due is known =
      of_child may held act e due (by_end early is
      (Knows-behind (setting c v.number site.limits) v e.before b.unnamed (λ w. unclosed_before c e.before b.untalked) (early && not (is_some v.outcome)) e.items b.going known))
    where
      by_end : (early : Bool) → HeldAs early held v → KnowsRun (early && not (is_some v.outcome)) (behind e.before (setting c v.number site.limits)) v (all_of e) → may_be_given (all_of e) act ≡ true
      by_end false is known = due-form false (behind e.before (setting c v.number site.limits)) v (all_of e) known may act (subst (λ w. Due may w act) is due)
      by_end true is known =
          ended-form (not (is_some v.outcome)) (behind e.before (setting c v.number site.limits)) v (all_of e) known may act (subst (λ w. Due may w act) is due)

  path_form : (acts : List Act) (e : Exchange) (held v : Run) → IsBefore c v.number e.before → Path may held acts → HeldAs early held v
      → KnowsRun (early && not (is_some v.outcome)) (setting c v.number site.limits) v e.items → each_keeps comes_in_form e acts ≡ true
  path_form [] e held v b path is known = refl
  path_form (act ∷ acts) e held v b path is known =
      and_from _ _ (child_form e held v act b path.0 is known)
      (path_form acts (pushed e (Out act)) (given held act) (noted c v plain (Out act)) b path.1
      (held_given early may (setting c v.number site.limits) (texts_are_heard c v.number site.limits) held v e.items act path.0 is)
      (held_known early may (setting c v.number site.limits) (texts_are_heard c v.number site.limits) held v e.items act path.0 is known))

pub child_acts_come_in_form : ChildActsComeInForm
child_acts_come_in_form site c e legs continued may t v two is =
    let path = (acting-due may v).path in
    fits_by site c legs continued v.number two e (run_acting may v) (path_small may v (run_acting may v) path) is.spoken
    (path_form site c false may (run_acting may v) e v v is.spoken.before path refl is.stands.run)

pub lost_acts_come_in_form : LostActsComeInForm
lost_acts_come_in_form site c e legs continued early may held two is =
    let path = (acting-due may held).path in
    fits_by site c legs continued is.view.number two e (run_acting may held) (path_small may held (run_acting may held) path) is.spoken
    (path_form site c early may (run_acting may held) e held is.view is.spoken.before path is.held_as is.run)
