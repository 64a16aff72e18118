-- The acts of a child, and the end of its exchange.
use Rattle.std.proofs.Common.{◌≡◌, ◌≤◌, ℕ, Bool, true, false, List, [], ◌∷◌, ◌++◌, Option, Some, None, refl, sym, ap, ◌∙◌, subst, arith}
use Rattle.std.proofs.lemmas.Bool.{false≢true}
use Rattle.host_base.specs.declared.site.Site.{Site}
use Rattle.host_trace.specs.declared.items.Act.{Act}
use Rattle.host_trace.specs.declared.items.Act.TheVariants.{CloseWs, EndInput, Feed, Kill, Release, Says, Shut, Start, Upgrade, WantChild, WantClient, Write}
use Rattle.host_trace.specs.declared.items.Item.TheVariants.{Out}
use Rattle.host_trace.specs.Projections.{children}
use Rattle.host_trace.specs.Told.{when}
use Rattle.child_core.specs.Due.{Due, Path, acted, acting, feed_given, feeding, given, input_given, is_ask_due, is_feed_due, is_input_due, is_kill_due, is_release_due, kill_given, piece_of, release_given}
use Rattle.child_core.specs.View.{View}
use Rattle.child_core.proofs.MemoryLaws.{acting-due}
use Rattle.trace_child.specs.Words.{is_filled}
use Rattle.trace_model.specs.Exchange.{Exchange, has_start, pushed}
use Rattle.trace_model.specs.Form.{rank}
use Rattle.trace_model.specs.Legs.{Leg as Started}
use Rattle.trace_model.proofs.AnswerLaws.{has_start-push}
use Rattle.conn_laws.specs.Quiet.{is_plain}
use Rattle.conn_flags.specs.View.{has_room}
use Rattle.child_laws.specs.Children.{KnowsChildren}
use Rattle.child_laws.specs.Legs.{children_of_legs}
use Rattle.child_laws.proofs.KnowLaws.{run_acts_known}
use Rattle.conn_laws.specs.Moves.{Move, moved}
use Rattle.http_conn.specs.HttpConn.{HttpConn}
use Rattle.http_conn.specs.Kept.{is_reading, flags_of, number_of, site_of}
use Rattle.http_conn.specs.Parts.{ServesBy, gives_all}
use Rattle.good_step_laws.proofs.Orders.PlaceWords.{Climbed, Climbs, IsFresh, climbs_append, climbs_ordered, fresh_after, fresh_zero, least_after, least_then}
use Rattle.good_step_laws.proofs.Orders.GoesLaws.{Goes, goes_as, goes_none}

-- ---- their places

climbs_when : (low high : ℕ) (b : Bool) (act : Act) → low ≤ high → rank act ≡ high → Climbs low high (when b act)
climbs_when low high true act le at = (omega (arith, le, at), omega (arith, at))
climbs_when low high false act le at = le

pub climbs_acting : (may : Bool) (v : View) → Climbs 0 8 (acting may v)
unfolding acting
climbs_acting may v =
    let v1 = feed_given v in
    let v2 = input_given v1 in
    let v3 = kill_given v2 in
    let v4 = release_given v3 in
    let w1 = feeding v in
    let w2 = when (is_input_due v1) (EndInput v.number) in
    let w3 = when (is_kill_due v2) (Kill v.number) in
    let w4 = when (is_release_due v3) (Release v.number) in
    let w5 = when (is_ask_due may v4) (WantChild v.number) in
    let e1 : Climbs 0 4 w1 = climbs_when 0 4 (is_feed_due v) (Feed v.number (piece_of v)) (omega arith) refl in
    let e2 : Climbs 4 5 w2 = climbs_when 4 5 (is_input_due v1) (EndInput v.number) (omega arith) refl in
    let e3 : Climbs 5 6 w3 = climbs_when 5 6 (is_kill_due v2) (Kill v.number) (omega arith) refl in
    let e4 : Climbs 6 7 w4 = climbs_when 6 7 (is_release_due v3) (Release v.number) (omega arith) refl in
    let e5 : Climbs 7 8 w5 = climbs_when 7 8 (is_ask_due may v4) (WantChild v.number) (omega arith) refl in
    climbs_append 0 7 8 (((w1 ++ w2) ++ w3) ++ w4) w5
    (climbs_append 0 6 7 ((w1 ++ w2) ++ w3) w4 (climbs_append 0 5 6 (w1 ++ w2) w3 (climbs_append 0 4 5 w1 w2 e1 e2) e3) e4) e5

-- ---- where a refusal waits for the child

due_plain : (may : Bool) (v : View) (act : Act) → Due may v act → is_plain act ≡ true
due_plain may v (Feed k bytes) due = refl
due_plain may v (EndInput k) due = refl
due_plain may v (Kill k) due = refl
due_plain may v (Release k) due = refl
due_plain may v (WantChild k) due = refl
due_plain may v _ due = absurd due

path_fresh : (site : Site) (c : ℕ) (early may : Bool) (n : ℕ) (legs : List Started) → 2 ≤ site.limits.head → (acts : List Act) (e : Exchange) (held : View) (least : ℕ) → Path may held acts
    → KnowsChildren site c e early n legs (Some held) → IsFresh site c least e → IsFresh site c (least_then site c e least (gives_all acts)) (moved site c e (gives_all acts))
path_fresh site c early may n legs two [] e held least path k f = f
path_fresh site c early may n legs two (act ∷ acts) e held least path k f =
    let one = run_acts_known site c e early may n legs held act two path.0 k in
    path_fresh site c early may n legs two acts (pushed e (Out act)) (given held act) (least_after site c e act) path.1 one.0
    (fresh_after site c e act (due_plain may held act path.0) one.1)

-- ---- what is due for it

-- a child was started for the exchange, and stays so
run_started : (site : Site) (c : ℕ) (early : Bool) (n : ℕ) (legs : List Started) (e : Exchange) (held : View) → KnowsChildren site c e early n legs (Some held) → has_start c e ≡ true
run_started site c early n legs e held k = go (children e.items c) legs k.runs.started k.runs.older k.runs.leg k.runs.are
  where
    go : (kids : List ℕ) (ls : List Started) → kids ≡ children_of_legs ls → (older : List Started) (leg : Started) → ls ≡ older ++ leg ∷ [] → is_filled kids ≡ true
    go kids ls are [] leg is = ap (λ (l : List ℕ). is_filled l) (are ∙ ap children_of_legs is)
    go kids ls are (first ∷ older) leg is = ap (λ (l : List ℕ). is_filled l) (are ∙ ap children_of_legs is)

started_stays : (site : Site) (c : ℕ) (acts : List Act) (e : Exchange) → has_start c e ≡ true → has_start c (moved site c e (gives_all acts)) ≡ true
started_stays site c [] e is = is
started_stays site c (act ∷ acts) e is = started_stays site c acts (pushed e (Out act)) (has_start-push c e (Out act) is)

-- what is known once it was given
pub record Served (site : Site) (c : ℕ) (least : ℕ) (e : Exchange) (conn : HttpConn) : Type 0 where
  pub top : least ≤ 8
  pub fresh : IsFresh site c least e
  pub away : conn.lost ≡ false → is_reading conn.stage ≡ true → least ≡ 0
  pub unstarted : has_start c e ≡ false → least ≡ 0

module _ (e : Exchange) (old : HttpConn) (n : ℕ) (early : Bool) (legs : List Started) (two : 2 ≤ (site_of old).limits.head) (k : KnowsChildren (site_of old) (number_of old) e early n legs old.run)
    (away : old.lost ≡ false → (v : View) → old.run ≡ Some v → is_reading old.stage ≡ false) (next : ℕ) (moves : List Move) (new : HttpConn) where
  pub child_goes : ServesBy old.run old next moves new → Goes (Served (site_of old) (number_of old)) (site_of old) (number_of old) e 0 moves new
  child_goes by = go old.run refl by
    where
      go : (run : Option View) → old.run ≡ run → ServesBy run old next moves new → Goes (Served (site_of old) (number_of old)) (site_of old) (number_of old) e 0 moves new
      go None is nothing =
          goes_none (Served (site_of old) (number_of old)) (site_of old) (number_of old) e 0 old new next moves nothing
          (record { top = omega arith; fresh = fresh_zero (site_of old) (number_of old) 0 e refl; away = λ f r. refl; unstarted = λ none. refl })
      go (Some v) is p =
          let may : Bool = has_room (flags_of old) in
          let acts : List Act = acting may v in
          let climbed : Climbed (site_of old) (number_of old) e 0 8 acts = climbs_ordered (site_of old) (number_of old) acts e 0 0 8 (omega arith) (climbs_acting may v) in
          let knows : KnowsChildren (site_of old) (number_of old) e early n legs (Some v) =
          subst (λ (r : Option View). KnowsChildren (site_of old) (number_of old) e early n legs r) is k in
          let served : Served (site_of old) (number_of old) (least_then (site_of old) (number_of old) e 0 (gives_all acts)) (moved (site_of old) (number_of old) e (gives_all acts)) new = record {
            top = climbed.top;
            fresh = path_fresh (site_of old) (number_of old) early may n legs two acts e v 0 (acting-due may v).path knows (fresh_zero (site_of old) (number_of old) 0 e refl);
            away = λ f r. absurd (false≢true (sym (away (lost_same p.by.is ∙ f) v is) ∙ (stage_same p.by.is ∙ r)));
            unstarted = λ none. absurd (false≢true (sym none ∙ started_stays (site_of old) (number_of old) acts e (run_started (site_of old) (number_of old) early n legs e v knows)));
          } in
          goes_as (Served (site_of old) (number_of old)) (site_of old) (number_of old) e 0 moves (gives_all acts) new p.by.moves_are (record { ordered = climbed.ordered; low = served })
        where
          lost_same : new ≡ record old { run = Some (acted (has_room (flags_of old)) v) } → old.lost ≡ new.lost
          lost_same is = sym (ap (λ (c : HttpConn). c.lost) is)

          stage_same : new ≡ record old { run = Some (acted (has_room (flags_of old)) v) } → is_reading old.stage ≡ is_reading new.stage
          stage_same is = sym (ap (λ (c : HttpConn). is_reading c.stage) is)
