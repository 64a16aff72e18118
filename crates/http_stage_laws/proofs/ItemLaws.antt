-- Acts of the child and others leave the stage; the next exchange, and want of memory.
use Rattle.std.proofs.Common.{◌≡◌, ◌≤◌, ℕ, Bool, true, false, ◌||◌, List, [], ◌∷◌, ◌++◌, map, Some, refl, sym, ap, ◌∙◌, subst, append-nil, append_assoc}
use Rattle.std.proofs.lemmas.Bool.{false≢true}
use Rattle.host_base.specs.declared.site.Site.{Site}
use Rattle.host_trace.specs.declared.items.Act.{Act}
use Rattle.host_trace.specs.declared.items.Act.TheVariants.{Feed, EndInput, Kill, Release, WantChild}
use Rattle.host_trace.specs.declared.items.Item.{Item}
use Rattle.host_trace.specs.declared.items.Item.TheVariants.{Out}
use Rattle.host_trace.specs.Kinds.{bytes_written, child_started}
use Rattle.host_trace.specs.Told.{when}
use Rattle.child_core.specs.Due.{acted, acting, feed_given, input_given, kill_given, release_given, is_ask_due, is_feed_due, is_input_due, is_kill_due, is_release_due, piece_of}
use Rattle.child_core.specs.View.{View, drops_output}
use Rattle.trace_model.specs.Exchange.{Exchange, pushed}
use Rattle.trace_model.specs.Exchanges.{following, has_ended}
use Rattle.trace_model.specs.Legs.{Leg as Started}
use Rattle.trace_model.specs.Standing.{stands_whole}
use Rattle.exchange_request.specs.Knows.{is_looked_at}
use Rattle.exchange_stage.specs.declared.stage.Stage.{Stage}
use Rattle.exchange_stage.specs.declared.stage.Stage.TheVariants as At
use Rattle.exchange_laws.specs.Items.{is_calm, noted_by}
use Rattle.exchange_laws.specs.StageIs.{LostIs, StageIs}
use Rattle.exchange_laws.proofs.BeginLaws.{next_is_read}
use Rattle.exchange_laws.proofs.CutLaws.{losses_are_known}
use Rattle.exchange_laws.proofs.ItemLaws.{items_keep_stages}
use Rattle.child_laws.specs.Laws.{with_acts}
use Rattle.conn_flags.specs.View.{View as Flags}
use Rattle.http_conn.specs.HttpConn.{HttpConn}
use Rattle.http_conn.specs.Kept.{number_of, site_of}
use Rattle.http_conn.specs.Moves.{losing}
use Rattle.http_conn.specs.Ready.{undrained}
use Rattle.http_conn.specs.Settles.{Follows, is_answered, is_over}
use Rattle.http_conn.specs.Slot.{run_settled}
use Rattle.http_stage_laws.specs.Staged.{Lost, Staged, drops_of}
use Rattle.http_stage_laws.proofs.EndLaws.{is_at_answered, left_true, or_none}

noted_same : (act : Act) (s : Stage) → noted_by (Out act) s ≡ s
noted_same act At.Reading = refl
noted_same act _ = refl

-- an act that writes nothing and starts no script
stage_kept : (site : Site) (c : ℕ) (e : Exchange) (legs : List Started) (continued looked closing : Bool) (more : List ℕ) (s : Stage) (act : Act) → 2 ≤ site.limits.head
    → is_calm legs s ≡ true → bytes_written c (Out act) ≡ [] → child_started c (Out act) ≡ [] → StageIs site c e legs continued looked closing more s
    → StageIs site c (pushed e (Out act)) legs continued looked closing more s
stage_kept site c e legs continued looked closing more s act two calm unwritten starts staged =
    subst (λ (t : Stage). StageIs site c (pushed e (Out act)) legs continued looked closing more t) (noted_same act s)
    (items_keep_stages site c e legs continued looked closing more (Out act) looked more s two calm staged (record {
      unwritten = unwritten;
      starts_none = starts;
      breaks_none = λ none. refl;
      looked_is = λ l. (l, refl);
      let_on = λ f n. absurd (false≢true f);
      unended = λ ended. refl;
      more_is = λ leg last. sym (append-nil more);
      drained = λ leg last decided comes. absurd (false≢true comes);
    }))

abbrev AreQuiet : ℕ → List Act → Type 0
AreQuiet c [] = Unit {0}
AreQuiet c (act ∷ acts) = (bytes_written c (Out act) ≡ []) × (child_started c (Out act) ≡ []) × AreQuiet c acts

quiet_append : (c : ℕ) (xs ys : List Act) → AreQuiet c xs → AreQuiet c ys → AreQuiet c (xs ++ ys)
quiet_append c [] ys a b = b
quiet_append c (x ∷ xs) ys a b = (a.0, a.1, quiet_append c xs ys a.2 b)

quiet_when : (c : ℕ) (test : Bool) (act : Act) → bytes_written c (Out act) ≡ [] → child_started c (Out act) ≡ [] → AreQuiet c (when test act)
quiet_when c true act w s = (w, s, tt)
quiet_when c false act w s = tt

quiet_acting : (c : ℕ) (may : Bool) (v : View) → AreQuiet c (acting may v)
unfolding acting
quiet_acting c may v =
    let v1 = feed_given v in
    let v2 = input_given v1 in
    let v3 = kill_given v2 in
    let v4 = release_given v3 in
    let w1 = when (is_feed_due v) (Feed v.number (piece_of v)) in
    let w2 = when (is_input_due v1) (EndInput v.number) in
    let w3 = when (is_kill_due v2) (Kill v.number) in
    let w4 = when (is_release_due v3) (Release v.number) in
    let w5 = when (is_ask_due may v4) (WantChild v.number) in
    let e1 : AreQuiet c w1 = quiet_when c (is_feed_due v) (Feed v.number (piece_of v)) refl refl in
    let e2 : AreQuiet c w2 = quiet_when c (is_input_due v1) (EndInput v.number) refl refl in
    let e3 : AreQuiet c w3 = quiet_when c (is_kill_due v2) (Kill v.number) refl refl in
    let e4 : AreQuiet c w4 = quiet_when c (is_release_due v3) (Release v.number) refl refl in
    let e5 : AreQuiet c w5 = quiet_when c (is_ask_due may v4) (WantChild v.number) refl refl in
    quiet_append c (((w1 ++ w2) ++ w3) ++ w4) w5 (quiet_append c ((w1 ++ w2) ++ w3) w4
    (quiet_append c (w1 ++ w2) w3 (quiet_append c w1 w2 e1 e2) e3) e4) e5

stages_kept : (site : Site) (c : ℕ) (e : Exchange) (legs : List Started) (continued looked closing : Bool) (more : List ℕ) (s : Stage) (acts : List Act) → 2 ≤ site.limits.head
    → is_calm legs s ≡ true → AreQuiet c acts → StageIs site c e legs continued looked closing more s → StageIs site c (with_acts e acts) legs continued looked closing more s
stages_kept site c e legs continued looked closing more s [] two calm quiet staged =
    subst (λ (l : List Item). StageIs site c (record e { items = l }) legs continued looked closing more s) (sym (append-nil e.items)) staged
stages_kept site c e legs continued looked closing more s (act ∷ acts) two calm quiet staged =
    subst (λ (l : List Item). StageIs site c (record e { items = l }) legs continued looked closing more s) (append_assoc e.items (Out act ∷ []) (map Out acts))
    (stages_kept site c (pushed e (Out act)) legs continued looked closing more s acts two calm quiet.2
    (stage_kept site c e legs continued looked closing more s act two calm quiet.0 quiet.1 staged))

acted_output : (may : Bool) (v : View) → (acted may v).output ≡ v.output
unfolding acted
acted_output may v = refl

acted_drops : (may : Bool) (v : View) → drops_output (acted may v).kind (acted may v).outcome ≡ drops_output v.kind v.outcome
unfolding acted
acted_drops may v = refl

pub others_staged : (conn : HttpConn) (e : Exchange) (legs : List Started) (act : Act) → 2 ≤ (site_of conn).limits.head → Staged conn e legs → is_calm legs conn.stage ≡ true
    → bytes_written (number_of conn) (Out act) ≡ [] → child_started (number_of conn) (Out act) ≡ [] → Staged conn (pushed e (Out act)) legs
others_staged conn e legs act two staged calm unwritten starts = record {
  more = staged.more;
  kept = staged.kept;
  is = stage_kept (site_of conn) (number_of conn) e legs conn.continued (is_looked_at conn.request) (conn.closing || conn.closes) staged.more conn.stage act two calm unwritten starts staged.is;
}

pub serves_staged : (conn : HttpConn) (e : Exchange) (legs : List Started) (may : Bool) (v : View) → 2 ≤ (site_of conn).limits.head → Staged conn e legs
    → is_calm legs conn.stage ≡ true → conn.run ≡ Some v → Staged (record conn { run = Some (acted may v) }) (with_acts e (acting may v)) legs
serves_staged conn e legs may v two staged calm run =
    let same : undrained conn.run ≡ (acted may v).output = ap undrained run ∙ sym (acted_output may v) in
    record {
      more = staged.more;
      kept = λ keeps. staged.kept (ap drops_of run ∙ (sym (acted_drops may v) ∙ keeps)) ∙ same;
      is = stages_kept (site_of conn) (number_of conn) e legs conn.continued (is_looked_at conn.request) (conn.closing || conn.closes) staged.more conn.stage (acting may v) two calm
          (quiet_acting (number_of conn) may v) staged.is;
    }

-- ---- the next exchange

pub next_staged : (old new : HttpConn) (e : Exchange) (legs : List Started) → Staged old e legs → is_over old ≡ true → has_ended (site_of old) (number_of old) e ≡ true
    → Follows old new → Staged new (following (site_of old) (number_of old) e) []
next_staged old new e legs staged over ended f =
    let at : old.stage ≡ At.Answered = is_at_answered old.stage (left_true (is_answered old.stage) (run_settled old.run) over) in
    let read : StageIs (site_of old) (number_of old) (following (site_of old) (number_of old) e) [] false false (old.closing || old.closes) [] At.Reading =
    next_is_read (site_of old) (number_of old) e legs old.continued (is_looked_at old.request) (old.closing || old.closes) staged.more
    (subst (λ (s : Stage). StageIs (site_of old) (number_of old) e legs old.continued (is_looked_at old.request) (old.closing || old.closes) staged.more s) at staged.is) ended in
    let next : Exchange = following (site_of old) (number_of old) e in
    let closing : (old.closing || old.closes) ≡ (new.closing || new.closes) =
    sym (or_none (old.closing || old.closes)) ∙ (ap (λ (b : Bool). b || false) (sym f.front.closing) ∙ ap (λ (b : Bool). new.closing || b) (sym f.front.closes)) in
    record {
      more = [];
      kept = λ keeps. sym (ap undrained f.run);
      is = subst (λ (t : Site). StageIs t (number_of new) next [] new.continued (is_looked_at new.request) (new.closing || new.closes) [] new.stage) (sym f.site)
          (subst (λ (d : ℕ). StageIs (site_of old) d next [] new.continued (is_looked_at new.request) (new.closing || new.closes) [] new.stage) (sym (ap (λ (m : Flags). m.c) f.flags))
          (subst (λ (b : Bool). StageIs (site_of old) (number_of old) next [] b (is_looked_at new.request) (new.closing || new.closes) [] new.stage) (sym f.front.continued)
          (subst (λ (b : Bool). StageIs (site_of old) (number_of old) next [] false b (new.closing || new.closes) [] new.stage) (sym f.front.looked)
          (subst (λ (b : Bool). StageIs (site_of old) (number_of old) next [] false false b [] new.stage) closing
          (subst (λ (s : Stage). StageIs (site_of old) (number_of old) next [] false false (old.closing || old.closes) [] s) (sym f.stage) read)))));
    }

-- ---- want of memory

pub losses_staged : (conn : HttpConn) (e : Exchange) (legs : List Started) → Staged conn e legs
    → (is_answered conn.stage ≡ false → stands_whole (site_of conn) (number_of conn) e ≡ false) → Lost (losing conn) e legs
losses_staged conn e legs staged unwhole = go conn.stage unwhole staged.is
  where
    go : (s : Stage) → (is_answered s ≡ false → stands_whole (site_of conn) (number_of conn) e ≡ false)
        → StageIs (site_of conn) (number_of conn) e legs conn.continued (is_looked_at conn.request) (conn.closing || conn.closes) staged.more s
        → LostIs (site_of conn) (number_of conn) e legs conn.continued (conn.closing || conn.closes) s
    go At.Answered u s = s
    go At.Reading u s = losses_are_known (site_of conn) (number_of conn) e legs conn.continued (is_looked_at conn.request) (conn.closing || conn.closes) staged.more At.Reading s (u refl)
    go (At.Rejected cause bare) u s = losses_are_known (site_of conn) (number_of conn) e legs conn.continued (is_looked_at conn.request) (conn.closing || conn.closes) staged.more (At.Rejected cause bare) s (u refl)
    go (At.Interrupted cause) u s = losses_are_known (site_of conn) (number_of conn) e legs conn.continued (is_looked_at conn.request) (conn.closing || conn.closes) staged.more (At.Interrupted cause) s (u refl)
    go (At.Refused cause) u s = losses_are_known (site_of conn) (number_of conn) e legs conn.continued (is_looked_at conn.request) (conn.closing || conn.closes) staged.more (At.Refused cause) s (u refl)
    go (At.Unstarted hop request) u s = losses_are_known (site_of conn) (number_of conn) e legs conn.continued (is_looked_at conn.request) (conn.closing || conn.closes) staged.more (At.Unstarted hop request) s (u refl)
    go (At.Starting leg launch body whole) u s = losses_are_known (site_of conn) (number_of conn) e legs conn.continued (is_looked_at conn.request) (conn.closing || conn.closes) staged.more (At.Starting leg launch body whole) s (u refl)
    go (At.Running leg) u s = losses_are_known (site_of conn) (number_of conn) e legs conn.continued (is_looked_at conn.request) (conn.closing || conn.closes) staged.more (At.Running leg) s (u refl)
    go (At.Finishing text closes) u s = losses_are_known (site_of conn) (number_of conn) e legs conn.continued (is_looked_at conn.request) (conn.closing || conn.closes) staged.more (At.Finishing text closes) s (u refl)
    go At.Silent u s = losses_are_known (site_of conn) (number_of conn) e legs conn.continued (is_looked_at conn.request) (conn.closing || conn.closes) staged.more At.Silent s (u refl)
