-- The child is served, and where its exchange is over then the next one begins.
use Rattle.std.proofs.Common.{◌≡◌, ◌≤◌, ℕ, Bool, true, false, List, [], ◌∷◌, ◌++◌, Option, refl, sym, ap, ◌∙◌, subst}
use Rattle.std.proofs.lemmas.Bool.{false≢true}
use Rattle.host_base.specs.declared.site.Site.{Site}
use Rattle.host_trace.specs.declared.items.Act.{Act}
use Rattle.host_trace.specs.declared.items.Event.{Event}
use Rattle.host_trace.specs.declared.items.Item.{Item}
use Rattle.host_trace.specs.Account.{has_unsettled}
use Rattle.own_traces.specs.Whose.{next_after}
use Rattle.child_core.specs.View.{View}
use Rattle.trace_model.specs.Answer.{stage}
use Rattle.trace_model.specs.Exchange.{Exchange, has_start}
use Rattle.trace_model.specs.Form.{is_refused}
use Rattle.child_laws.specs.Children.{KnowsChildren}
use Rattle.child_laws.specs.Step.{waiting}
use Rattle.child_laws.proofs.MoveLaws.{losses_move, moves_tell}
use Rattle.conn_laws.specs.Moves.{AreInStep, Move, acts_of, moved, settles}
use Rattle.http_conn.specs.HttpConn.{HttpConn}
use Rattle.http_conn.specs.Kept.{is_reading, number_of, site_of}
use Rattle.http_conn.specs.Moves.{ended_run, losing}
use Rattle.http_conn.specs.Settles.{ending_of, is_over}
use Rattle.http_conn.specs.Parts.{EndsBy, Handles, ServesChild, ServesOrLoses, the_one, the_other}
use Rattle.child_core.specs.declared.ending.Ending.TheVariants.{Dropped}
use Rattle.http_step_laws.specs.Standing.{Leaves, Rest, Standing, is_early}
use Rattle.http_step_laws.proofs.LossLaws.{same_dropped}
use Rattle.http_step_laws.proofs.QuietWords.{away_of}
use Rattle.http_step_laws.proofs.StageWords.{known_now}
use Rattle.good_step_laws.proofs.Orders.PlaceWords.{in_step_parts, least_then}
use Rattle.good_step_laws.proofs.Orders.ChildLaws.{Served, child_goes}
use Rattle.good_step_laws.proofs.Orders.GoesLaws.{Goes, goes_as, goes_empty, goes_then}

-- Nothing was done yet for the exchange that goes on, or a refusal waits for its child; a request that is read has none. Where
-- no script was started for it no act was given to a child of it.
pub data Calm (site : Site) (c : ℕ) (least : ℕ) (e : Exchange) (conn : HttpConn) : Type 0 where
  anew : least ≡ 0 → Calm site c least e conn
  dealt : least ≤ 8 → (conn.lost ≡ false → is_reading conn.stage ≡ false) → (is_refused (stage site c e) ≡ true → has_unsettled e.items c ≡ false → least ≡ 0)
      → (has_start c e ≡ false → least ≡ 0) → Calm site c least e conn

pub served_calm : (site : Site) (c : ℕ) (least : ℕ) (e : Exchange) (conn : HttpConn) → Served site c least e conn → Calm site c least e conn
served_calm site c least e conn s = go conn.lost refl (is_reading conn.stage) refl
  where
    go : (lost : Bool) → conn.lost ≡ lost → (reading : Bool) → is_reading conn.stage ≡ reading → Calm site c least e conn
    go true is reading reads = dealt s.top (λ found. absurd (false≢true (sym found ∙ is))) s.fresh.waits s.unstarted
    go false found true reads = anew (s.away found reads)
    go false found false away = dealt s.top (λ f. away) s.fresh.waits s.unstarted

-- where memory runs out then it stays so
pub lost_calm : (site : Site) (c : ℕ) (least : ℕ) (e : Exchange) (old new : HttpConn) → new.lost ≡ true → Calm site c least e old → Calm site c least e new
lost_calm site c least e old new is (anew zero) = anew zero
lost_calm site c least e old new is (dealt top away waits unstarted) = dealt top (λ found. absurd (false≢true (sym found ∙ is))) waits unstarted

module _ (L : List Item) (ev : Event) (acts : List Act) (e : Exchange) (old : HttpConn) (n : ℕ) (s : Standing L ev acts waiting n e old) (two : 2 ≤ (site_of old).limits.head) where
  abbrev site : Site
  site = site_of old

  abbrev c : ℕ
  c = number_of old

  lost_known : KnowsChildren site c e true n s.legs (ended_run Dropped old.run)
  lost_known =
      subst (λ (r : Option View). KnowsChildren site c e true n s.legs r) (same_dropped old.run)
      (moves_tell site c L ev acts e s.over true waiting n s.legs _ (losses_move site c L ev acts e s.over (is_early old) waiting n s.legs old.run refl s.children)).knows

  served_goes : (next : ℕ) (moves : List Move) (new : HttpConn) → ServesOrLoses old next moves new → Goes (Served site c) site c e 0 moves new
  served_goes next moves new (the_one by) =
      child_goes e old n (is_early old) s.legs two (known_now L ev acts waiting n e old s) (λ found v run. away_of L ev acts waiting e old n s found v run) next moves new by
  served_goes next moves new (the_other w) =
      goes_as (Served site c) site c e 0 moves w.later new (w.are ∙ ap (λ (l : List Move). l ++ w.later) w.first.by.none)
      (child_goes e (losing old) n true s.legs two lost_known (λ found. absurd (false≢true (sym found))) (next_after next (acts_of w.sooner)) w.later new
      (subst (λ (d : HttpConn). ServesChild d (next_after next (acts_of w.sooner)) w.later new) w.first.by.is w.second))

  -- .. and where its exchange has ended the count begins anew
  pub handles_go : (moves : List Move) (new : HttpConn) → Handles old n moves new → Leaves Rest L ev acts e old n moves new → Goes (Calm site c) site c e 0 moves new
  handles_go moves new w l =
      let first : Goes (Served site c) site c e 0 w.sooner w.mid = served_goes n w.sooner w.mid w.first in
      let in_step : AreInStep site c (moved site c e w.sooner) w.later = in_step_parts site c e w.sooner w.later (subst (λ (l : List Move). AreInStep site c e l) w.are l.in_step) in
      goes_as (Calm site c) site c e 0 moves (w.sooner ++ w.later) new w.are
      (goes_then (Served site c) (Calm site c) site c e 0 w.sooner w.later w.mid new first (go w.mid w.later (moved site c e w.sooner) (least_then site c e 0 w.sooner) first.low in_step (is_over w.mid) w.second.by))
    where
      go : (mid : HttpConn) (later : List Move) (d : Exchange) (least : ℕ) → Served site c least d mid → AreInStep site c d later → (b : Bool) → EndsBy b mid (next_after n (acts_of w.sooner)) later new → Goes (Calm site c) site c d least later new
      go mid later d least served in_step true ends =
          let over = (subst (λ (l : List Move). AreInStep site c d l) ends.0 in_step).0.over in
          goes_as (Calm site c) site c d least later (settles (ending_of mid) ∷ []) new ends.0 (record { ordered = tt; low = anew (served.fresh.ended over) })
      go mid later d least served in_step false nothing =
          goes_empty (Calm site c) site c d least later new nothing.none (subst (λ (x : HttpConn). Calm site c least d x) (sym nothing.same) (served_calm site c least d mid served))
