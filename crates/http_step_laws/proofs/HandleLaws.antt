-- The child is served, and where its exchange is over then the next one begins.
use Rattle.std.proofs.Common.{◌≡◌, ◌≤◌, ℕ, Bool, true, false, ◌&&◌, ◌==◌, not, List, [], Option, Some, None, is_some, refl, sym, ap, ◌∙◌, subst}
use Rattle.std.proofs.lemmas.Bool.{and_parts, false≢true, false_from_ne_true, not-true}
use Rattle.host_base.specs.declared.site.Site.{Site}
use Rattle.host_trace.specs.declared.items.Act.{Act}
use Rattle.host_trace.specs.declared.items.Event.{Event}
use Rattle.host_trace.specs.declared.items.Item.{Item}
use Rattle.host_trace.specs.First.{or_else}
use Rattle.trace_child.specs.Words.{is_filled}
use Rattle.child_core.specs.declared.ending.Outcome.{Outcome}
use Rattle.child_core.specs.declared.ending.Outcome.TheVariants as Ended
use Rattle.child_core.specs.Due.{acting, is_feed_due}
use Rattle.child_core.specs.View.{View}
use Rattle.trace_model.specs.Exchange.{Exchange}
use Rattle.conn_flags.specs.View.{has_room}
use Rattle.conn_flags.specs.Form.{are_given}
use Rattle.child_laws.specs.Children.{HeldAs, KnowsChildren}
use Rattle.child_laws.specs.Step.{Turn, begun, waiting}
use Rattle.child_laws.specs.Moves.{Deals}
use Rattle.child_laws.proofs.MoveLaws.{no_child_moves}
use Rattle.conn_laws.specs.Moves.{Move, acts_of}
use Rattle.http_conn.specs.HttpConn.{HttpConn}
use Rattle.http_conn.specs.Kept.{flags_of, number_of, site_of}
use Rattle.http_conn.specs.Parts.{Ends, Handles, LosesFeed, Part, ServesBy, ServesChild, ServesOrLoses, ServesRun, gives_all, the_one, the_other}
use Rattle.http_stage_laws.specs.Inward.{IsDecided}
use Rattle.http_step_laws.specs.Standing.{Claim, EvenAt, Leaves, Makes, Quiet, Rest, Standing, is_early}
use Rattle.http_step_laws.proofs.EndsLaws.{ends_leave}
use Rattle.http_step_laws.proofs.LossLaws.{lost_with, makes_lost, over_lost, posts_lost}
use Rattle.http_step_laws.proofs.QuietWords.{away_of, quiet_unended}
use Rattle.http_step_laws.proofs.ServedLaws.{Handled, serves_make}
use Rattle.http_step_laws.proofs.StageWords.{known_now, unwhole}
use Rattle.http_step_laws.proofs.ThenLaws.{leaves_made, leaves_none, then_leaves}

-- ---- a child that is given up is decided

some_dropped : (o : Option Outcome) → is_some (or_else o (Some Ended.Dropped)) ≡ true
some_dropped None = refl
some_dropped (Some outcome) = refl

held_decided : (early : Bool) (held view : View) → early ≡ true → HeldAs early held view → is_some held.outcome ≡ true
held_decided false held view e h = absurd (false≢true e)
held_decided true held view e h = ap (λ (v : View). is_some v.outcome) h ∙ some_dropped view.outcome

module _ (L : List Item) (ev : Event) (acts : List Act) (turn : Turn) (e : Exchange) (conn : HttpConn) (n : ℕ) (s : Standing L ev acts turn n e conn) where
  pub lost_decided : conn.lost ≡ true → (v : View) → conn.run ≡ Some v → is_some v.outcome ≡ true
  lost_decided is v run = go (flags_of conn).shut refl
    where
      knows : KnowsChildren (site_of conn) (number_of conn) e (is_early conn) n s.legs (Some v)
      knows = subst (λ (r : Option View). KnowsChildren (site_of conn) (number_of conn) e (is_early conn) n s.legs r) run (known_now L ev acts turn n e conn s)

      go : (b : Bool) → (flags_of conn).shut ≡ b → is_some v.outcome ≡ true
      go true shut = subst (λ (r : Option View). IsDecided r) run (s.inward.held shut)
      go false unshut = held_decided (is_early conn) v knows.runs.view (ap (λ (b : Bool). b && not (flags_of conn).shut) is ∙ ap not unshut) knows.runs.held_as

undecided_feed : (v : View) → is_feed_due v ≡ true → is_some v.outcome ≡ false
undecided_feed v due =
    let p1 = and_parts (v.started && not (is_some v.outcome) && not v.exited && not v.input_ended && is_filled v.unfed) (v.untaken == 0) due in
    let p2 = and_parts (v.started && not (is_some v.outcome) && not v.exited && not v.input_ended) (is_filled v.unfed) p1.0 in
    let p3 = and_parts (v.started && not (is_some v.outcome) && not v.exited) (not v.input_ended) p2.0 in
    let p4 = and_parts (v.started && not (is_some v.outcome)) (not v.exited) p3.0 in
    not-true (is_some v.outcome) (and_parts v.started (not (is_some v.outcome)) p4.0).1

-- where there is no child none waits
none_waits : (L : List Item) (ev : Event) (acts : List Act) (e : Exchange) (conn : HttpConn) (n : ℕ) → Standing L ev acts waiting n e conn → conn.run ≡ None → Standing L ev acts begun n e conn
none_waits L ev acts e conn n s none = record {
  over = s.over;
  legs = s.legs;
  front = s.front;
  flags = s.flags;
  staged = s.staged;
  lost = s.lost;
  children = subst (λ (r : Option View). Deals (site_of conn) (number_of conn) L ev acts e s.over (is_early conn) begun n s.legs r) (sym none)
      (no_child_moves (site_of conn) (number_of conn) L ev acts e s.over (is_early conn) (is_early conn) waiting begun n s.legs
      (subst (λ (r : Option View). Deals (site_of conn) (number_of conn) L ev acts e s.over (is_early conn) waiting n s.legs r) none s.children));
  heard = s.heard;
  inward = s.inward;
  unheard = s.unheard;
  starts_first = s.starts_first;
  for_memory = s.for_memory;
}

-- ---- what is due for it

module _ (L : List Item) (ev : Event) (acts : List Act) (e : Exchange) (old : HttpConn) (n : ℕ) (s : Standing L ev acts waiting n e old) (two : 2 ≤ (site_of old).limits.head) (q : Quiet e old)
    (moves : List Move) (new : HttpConn) (form : are_given (flags_of old) (acts_of moves) ≡ true) where
  by_run : (run : Option View) → old.run ≡ run → ServesBy run old n moves new → Leaves Handled L ev acts e old n moves new
  by_run None is none =
      leaves_none Handled L ev acts begun e old new n moves (none_waits L ev acts e old n s is) none (record {
        steady = λ over. absurd (false≢true (sym q.unover ∙ over));
        quiet = λ unover. q;
        awake = tt;
        even = subst (λ (r : Option View). EvenAt (has_room (flags_of old)) begun r) (sym is) tt;
      })
  by_run (Some v) is p =
      leaves_made (ServesRun v) Handled L ev acts waiting e old new n moves s p form
      (subst (λ (l : List Move). Makes Handled L ev acts e old n l new) (sym p.by.moves_are)
      (subst (λ (c : HttpConn). Makes Handled L ev acts e old n (gives_all (acting (has_room (flags_of old)) v)) c) (sym p.by.is) (serves_make L ev acts e old n s two q v is)))

  serves_child_leave : ServesChild old n moves new → Leaves Handled L ev acts e old n moves new
  serves_child_leave by = by_run old.run refl by

-- still to be served
abbrev Waits : Claim
Waits turn e conn = (turn ≡ waiting) × Quiet e conn

feed_lost : (L : List Item) (ev : Event) (acts : List Act) (e : Exchange) (old new : HttpConn) (n : ℕ) (moves : List Move) → Standing L ev acts waiting n e old → Quiet e old → LosesFeed old n moves new
    → Makes Waits L ev acts e old n moves new
feed_lost L ev acts e old new n moves s q l =
    let undecided : is_some l.v.outcome ≡ false = undecided_feed l.v l.due in
    let found : old.lost ≡ false = false_from_ne_true old.lost (λ is. false≢true (sym undecided ∙ lost_decided L ev acts waiting e old n s is l.v l.run)) in
    let unshut : (flags_of old).shut ≡ false =
    false_from_ne_true (flags_of old).shut (λ shut. false≢true (sym undecided ∙ subst (λ (r : Option View). IsDecided r) l.run (s.inward.held shut))) in
    subst (λ (m : List Move). Makes Waits L ev acts e old n m new) (sym l.none)
    (subst (λ (c : HttpConn). Makes Waits L ev acts e old n [] c) (sym l.is)
    (makes_lost Waits L ev acts waiting e old n s (record {
      found = found;
      free = refl;
      unshut = unshut;
      unwhole = λ none. unwhole old e s.legs (s.staged found) (quiet_unended L ev acts waiting e old n s found (q.found found)) none;
    }) old.stage old.request refl s.inward.calm (s.inward.accepted (away_of L ev acts waiting e old n s found l.v l.run))
    (refl, (posts_lost e (lost_with old old.stage old.request) refl (over_lost old old.stage old.request refl ∙ q.unover)).quiet)))

-- What is due for the child is given, and where its exchange is over then the next one begins.
pub handles_leave : (L : List Item) (ev : Event) (acts : List Act) (e : Exchange) (old new : HttpConn) (n : ℕ) (moves : List Move) → Standing L ev acts waiting n e old → 2 ≤ (site_of old).limits.head
    → Quiet e old → Handles old n moves new → are_given (flags_of old) (acts_of moves) ≡ true → Leaves Rest L ev acts e old n moves new
handles_leave L ev acts e old new n moves s two q w form =
    then_leaves ServesOrLoses (Part Ends) Handled Rest L ev acts e old new n moves w form
    (λ xs mid by f. first xs mid f by)
    (λ acts' t d mid n' ys st post site p f.
    ends_leave Rest L ev acts' t d mid new n' ys st (subst (λ (x : Site). 2 ≤ x.limits.head) (sym site) two) post.steady (λ unover. (post.awake, post.quiet unover, post.even))
    (λ next quiet none. (post.awake, quiet, subst (λ (r : Option View). EvenAt (has_room (flags_of new)) t r) (sym none) tt)) p f)
  where
    first : (xs : List Move) (mid : HttpConn) → are_given (flags_of old) (acts_of xs) ≡ true → ServesOrLoses old n xs mid → Leaves Handled L ev acts e old n xs mid
    first xs mid f (the_one by) = serves_child_leave L ev acts e old n s two q xs mid f by
    first xs mid f (the_other v) =
        then_leaves (Part LosesFeed) ServesChild Waits Handled L ev acts e old mid n xs v f
        (λ zs next p g. leaves_made LosesFeed Waits L ev acts waiting e old next n zs s p g (feed_lost L ev acts e old next n zs s q p.by))
        (λ acts' t d next n' ys st post site by g.
        serves_child_leave L ev acts' d next n' (subst (λ (x : Turn). Standing L ev acts' x n' d next) post.0 st) (subst (λ (x : Site). 2 ≤ x.limits.head) (sym site) two) post.1 ys mid g by)
