-- All acts of a step, one after another.
use Rattle.std.proofs.Common.{◌≡◌, ℕ, List, [], ◌∷◌, ◌++◌, Bool, true, false, refl, sym, ◌∙◌, ap, Option, Some, None, append-nil, append_assoc, map, subst}
use Rattle.host_base.specs.declared.limits.Limits.{Limits}
use Rattle.host_trace.specs.declared.items.Act.{Act}
use Rattle.host_trace.specs.declared.items.Act.TheVariants.{WantClient, Write, Shut, Start, Feed, EndInput, WantChild, Kill, Release, Upgrade, Says, CloseWs}
use Rattle.host_trace.specs.declared.items.Event.{Event}
use Rattle.host_trace.specs.declared.items.Item.{Item}
use Rattle.host_trace.specs.declared.items.Item.TheVariants.{In, Out}
use Rattle.host_trace.specs.Told.{when}
use Rattle.trace_child.specs.Words.{is_filled}
use Rattle.child_core.specs.View.{View as RunView, plain, noted}
use Rattle.child_core.specs.Due.{Due as RunDue, Path, after, acting as run_acting, given as run_given}
use Rattle.child_core.proofs.MemoryLaws.{acting-due}
use Rattle.child_core.proofs.TellLaws.{noted-other}
use Rattle.talk_core.specs.View.{View, given_up}
use Rattle.talk_core.specs.Acting.{acted, closing, said_all}
use Rattle.talk_core.specs.Hearing.{heard, heard_unless}
use Rattle.talk_core.specs.Knows.{StandsFor, KnowsInPart, run_of}
use Rattle.talk_core.specs.Laws.{TalkActsAreKnown, RunActsAreKnown, LossesAtEventsAreKnown, MayGive, given}
use Rattle.talk_core.proofs.HearLaws.{events_are_known}
use Rattle.talk_core.proofs.GiveLaws.{acts_are_known}
use Rattle.talk_core.proofs.PartLaws.{losses_are_known}

-- ---- acts of the talk

module _ (early : Bool) (c : ℕ) (limits : Limits) (v : RunView) where
  -- an act that does not concern the run leaves it as it is
  given_alone : (t : View) (L : List Item) (act : Act) → noted c v plain (Out act) ≡ v → MayGive true t v act → StandsFor early c limits t v L
      → StandsFor early c limits (given t act) v (L ++ Out act ∷ [])
  given_alone t L act same m s = subst (λ w. StandsFor early c limits (given t act) w (L ++ Out act ∷ [])) same (acts_are_known early true c limits t v L act s m)

  said_known : (t : View) (texts : List (List ℕ)) (L : List Item) → t.texts ≡ texts → StandsFor early c limits t v L
      → StandsFor early c limits (said_all t) v (L ++ map Out (when (is_filled texts) (Says t.conn texts)))
  said_known t [] L e s =
      subst (λ l. StandsFor early c limits (said_all t) v l) (sym (append-nil L))
      (subst (λ ts. StandsFor early c limits (record t { texts = ts }) v L) e s)
  said_known t (text ∷ texts) L e s =
      given_alone t L (Says t.conn (text ∷ texts)) (noted-other c v (Out (Says t.conn (text ∷ texts))) refl) (refl, sym e) s

  closed_known : (t : View) (code : Option ℕ) (L : List Item) → t.code ≡ code → StandsFor early c limits t v L
      → StandsFor early c limits (record t { code = None }) v (L ++ map Out (closing t.conn code))
  closed_known t None L e s =
      subst (λ l. StandsFor early c limits (record t { code = None }) v l) (sym (append-nil L))
      (subst (λ o. StandsFor early c limits (record t { code = o }) v L) e s)
  closed_known t (Some code) L e s = given_alone t L (CloseWs t.conn code) (noted-other c v (Out (CloseWs t.conn code)) refl) (refl, e) s

joined_acts : (L : List Item) (xs ys : List Act) → (L ++ map Out xs) ++ map Out ys ≡ L ++ map Out (xs ++ ys)
joined_acts L [] ys = ap (λ l. l ++ map Out ys) (append-nil L)
joined_acts L (x ∷ xs) ys =
    ap (λ l. l ++ map Out ys) (sym (append_assoc L (Out x ∷ []) (map Out xs)))
    ∙ (joined_acts (L ++ Out x ∷ []) xs ys ∙ append_assoc L (Out x ∷ []) (map Out (xs ++ ys)))

pub talk_acts_are_known : TalkActsAreKnown
talk_acts_are_known early c limits t v L s =
    subst (λ l. StandsFor early c limits (acted t) v l) (joined_acts L (when (is_filled t.texts) (Says t.conn t.texts)) (closing t.conn t.code))
    (closed_known early c limits v (said_all t) t.code (L ++ map Out (when (is_filled t.texts) (Says t.conn t.texts))) refl
    (said_known early c limits v t t.texts L refl s))

-- ---- acts of the run

-- such an act changes nothing of the talk, and no test of it looks at the connection
run_act : (early may : Bool) (c : ℕ) (limits : Limits) (t : View) (v : RunView) (L : List Item) (act : Act) → RunDue may v act → StandsFor early c limits t v L
    → StandsFor early c limits t (run_given v act) (L ++ Out act ∷ [])
run_act early may c limits t v L (Feed k bytes) due s = acts_are_known early may c limits t v L (Feed k bytes) s due
run_act early may c limits t v L (EndInput k) due s = acts_are_known early may c limits t v L (EndInput k) s due
run_act early may c limits t v L (Kill k) due s = acts_are_known early may c limits t v L (Kill k) s due
run_act early may c limits t v L (Release k) due s = acts_are_known early may c limits t v L (Release k) s due
run_act early may c limits t v L (WantChild k) due s = acts_are_known early may c limits t v L (WantChild k) s due
run_act early may c limits t v L _ due s = absurd due

run_path : (early may : Bool) (c : ℕ) (limits : Limits) (t : View) (v : RunView) (L : List Item) (acts : List Act) → Path may v acts → StandsFor early c limits t v L
    → StandsFor early c limits t (after v acts) (L ++ map Out acts)
run_path early may c limits t v L [] p s = subst (λ l. StandsFor early c limits t v l) (sym (append-nil L)) s
run_path early may c limits t v L (act ∷ acts) p s =
    subst (λ l. StandsFor early c limits t (after (run_given v act) acts) l) (append_assoc L (Out act ∷ []) (map Out acts))
    (run_path early may c limits t (run_given v act) (L ++ Out act ∷ []) acts p.1 (run_act early may c limits t v L act p.0 s))

pub run_acts_are_known : RunActsAreKnown
run_acts_are_known early may c limits t v L s =
    let d = acting-due may v in
    subst (λ w. StandsFor early c limits t w (L ++ map Out (run_acting may v))) d.after_is (run_path early may c limits t v L (run_acting may v) d.path s)

-- ---- want of memory at an event

given_up_heard : (over : Bool) (t : View) (v : RunView) (ev : Event) → given_up (heard_unless over t v ev) ≡ given_up t
given_up_heard true t v ev = refl
given_up_heard false t v ev = refl

pub losses_at_events : LossesAtEventsAreKnown
losses_at_events early c limits t v L ev s m =
    subst (λ u. KnowsInPart (run_of c limits v) u (L ++ In ev ∷ [])) (given_up_heard t.over t v ev)
    (losses_are_known c limits (heard t v ev) _ (L ++ In ev ∷ []) (events_are_known early c limits t v L ev s m).talk)
