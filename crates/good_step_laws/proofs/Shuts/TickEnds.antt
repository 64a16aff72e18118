-- So at the step's end a reply is due where memory ran out behind a Tick.
use Rattle.std.proofs.Common.{◌≡◌, ◌≤◌, ◌⊎◌, ℕ, Bool, true, false, ◌&&◌, ◌||◌, not, List, [], ◌∷◌, ◌++◌, Option, Some, None, refl, sym, ap, ◌∙◌, subst, inl, inr}
use Rattle.std.proofs.lemmas.Bool.{and_parts, false≢true, or_left}
use Rattle.host_base.specs.declared.site.Site.{Site}
use Rattle.host_trace.specs.declared.items.Act.{Act}
use Rattle.host_trace.specs.declared.items.Act.TheVariants.{EndInput, Feed, Kill, Release, WantChild}
use Rattle.host_trace.specs.declared.items.Event.{Event}
use Rattle.host_trace.specs.declared.items.Item.{Item}
use Rattle.host_trace.specs.Told.{when}
use Rattle.own_traces.specs.Whose.{next_after}
use Rattle.child_core.specs.Due.{acting, feed_given, input_given, is_ask_due, is_feed_due, is_input_due, is_kill_due, is_release_due, kill_given, piece_of, release_given}
use Rattle.child_core.specs.View.{View}
use Rattle.trace_model.specs.Demands.{is_live}
use Rattle.trace_model.specs.Exchange.{Exchange, all_of}
use Rattle.trace_model.specs.Standing.{stands_whole}
use Rattle.trace_model.specs.TakesNoMemory.{lacks_reply, writes}
use Rattle.exchange_stage.specs.declared.stage.Stage.{Stage}
use Rattle.conn_flags.specs.View.{has_room}
use Rattle.child_laws.specs.Step.{Turn}
use Rattle.conn_laws.specs.Moves.{Move, acts_of, continues, gives, moved, settles}
use Rattle.http_conn.specs.HttpConn.{HttpConn}
use Rattle.http_conn.specs.Kept.{flags_of, number_of, site_of}
use Rattle.http_conn.specs.Settles.{Follows, is_answered, is_over}
use Rattle.http_conn.specs.Slot.{run_settled}
use Rattle.http_conn.specs.Tells.{TellsMore}
use Rattle.http_conn.specs.Parts.{EndsBy, Handles, Part, RoundsOn, Serves, ServesBy, ServesOrLoses, Then, gives_all, the_one, the_other}
use Rattle.http_conn.proofs.StateLaws.{going_found}
use Rattle.http_stage_laws.proofs.HeardLose.{to_lost}
use Rattle.http_step_laws.specs.Standing.{Apt, Standing, ends_at}
use Rattle.good_step_laws.specs.Shuts.Memory.{IsTicked, Unfed}
use Rattle.good_step_laws.proofs.Shuts.CalmWords.{NoMore, rounds_on_empty, still_no_more}
use Rattle.good_step_laws.proofs.Shuts.EarnWords.{has_settle, writes_append}
use Rattle.good_step_laws.proofs.Shuts.EndedLaws.{more_going}
use Rattle.good_step_laws.proofs.Shuts.OwedWords.{AreChilds, Owed, is_childs, owed_lacks, owed_moved}
use Rattle.good_step_laws.proofs.Shuts.ShapeLaws.{IsServed, serves_shape}
use Rattle.good_step_laws.proofs.Shuts.TickLaws.{Told, answer_told, idle_still, idle_unanswered, is_idle, lost, still, wrote}

-- ---- acts of the child

childs_append : (xs ys : List Move) → AreChilds xs → AreChilds ys → AreChilds (xs ++ ys)
childs_append [] ys a b = b
childs_append (gives act ∷ xs) ys a b = (a.0, childs_append xs ys a.1 b)
childs_append (continues d ∷ xs) ys a b = absurd a
childs_append (settles ending ∷ xs) ys a b = absurd a

abbrev All : List Act → Type 0
All [] = Unit {0}
All (act ∷ acts) = (is_childs act ≡ true) × All acts

all_append : (xs ys : List Act) → All xs → All ys → All (xs ++ ys)
all_append [] ys a b = b
all_append (x ∷ xs) ys a b = (a.0, all_append xs ys a.1 b)

all_when : (test : Bool) (act : Act) → is_childs act ≡ true → All (when test act)
all_when true act is = (is, tt)
all_when false act is = tt

all_acting : (may : Bool) (v : View) → All (acting may v)
unfolding acting
all_acting may v =
    let v1 = feed_given v in
    let v2 = input_given v1 in
    let v3 = kill_given v2 in
    let v4 = release_given v3 in
    let w1 = when (is_feed_due v) (Feed v.number (piece_of v)) in
    let w2 = when (is_input_due v1) (EndInput v.number) in
    let w3 = when (is_kill_due v2) (Kill v.number) in
    let w4 = when (is_release_due v3) (Release v.number) in
    let w5 = when (is_ask_due may v4) (WantChild v.number) in
    let e1 : All w1 = all_when (is_feed_due v) (Feed v.number (piece_of v)) refl in
    let e2 : All w2 = all_when (is_input_due v1) (EndInput v.number) refl in
    let e3 : All w3 = all_when (is_kill_due v2) (Kill v.number) refl in
    let e4 : All w4 = all_when (is_release_due v3) (Release v.number) refl in
    let e5 : All w5 = all_when (is_ask_due may v4) (WantChild v.number) refl in
    all_append (((w1 ++ w2) ++ w3) ++ w4) w5 (all_append ((w1 ++ w2) ++ w3) w4 (all_append (w1 ++ w2) w3 (all_append w1 w2 e1 e2) e3) e4) e5

all_given : (acts : List Act) → All acts → AreChilds (gives_all acts)
all_given [] a = tt
all_given (act ∷ acts) a = (a.0, all_given acts a.1)

-- ---- the child is served where memory ran out

pub record GivesChild (old : HttpConn) (moves : List Move) (new : HttpConn) : Type 0 where
  pub are : AreChilds moves
  pub lost_then : old.lost ≡ true → new.lost ≡ true
  pub stage : new.stage ≡ old.stage

gives_child : (old new : HttpConn) (n : ℕ) (moves : List Move) → is_answered old.stage ≡ false → Handles old n moves new → GivesChild old moves new
gives_child old new n moves unanswered w = first w.first
  where
    ended : (k : ℕ) (b : Bool) → is_over w.mid ≡ b → (xs_are : AreChilds w.sooner) → (stage : w.mid.stage ≡ old.stage) → (old.lost ≡ true → w.mid.lost ≡ true) → EndsBy b w.mid k w.later new → GivesChild old moves new
    ended k true over are stage keeps t =
        absurd (false≢true (sym (ap is_answered stage ∙ unanswered) ∙ (and_parts (is_answered w.mid.stage) (run_settled w.mid.run) over).0))
    ended k false over are stage keeps nothing = record {
      are = subst (λ (l : List Move). AreChilds l) (sym w.are) (childs_append w.sooner w.later are (subst (λ (l : List Move). AreChilds l) (sym nothing.none) tt));
      lost_then = λ is. ap (λ (x : HttpConn). x.lost) nothing.same ∙ keeps is;
      stage = ap (λ (x : HttpConn). x.stage) nothing.same ∙ stage;
    }

    served : (start : HttpConn) (k : ℕ) (xs : List Move) (mid : HttpConn) (run : Option View) → ServesBy run start k xs mid → GivesChild start xs mid
    served start k xs mid None nothing = record {
      are = subst (λ (l : List Move). AreChilds l) (sym nothing.none) tt;
      lost_then = λ is. ap (λ (x : HttpConn). x.lost) nothing.same ∙ is;
      stage = ap (λ (x : HttpConn). x.stage) nothing.same;
    }
    served start k xs mid (Some v) p = record {
      are = subst (λ (l : List Move). AreChilds l) (sym p.by.moves_are) (all_given (acting (has_room start.flags) v) (all_acting (has_room start.flags) v));
      lost_then = λ is. ap (λ (x : HttpConn). x.lost) p.by.is ∙ is;
      stage = ap (λ (x : HttpConn). x.stage) p.by.is;
    }

    first : ServesOrLoses old n w.sooner w.mid → GivesChild old moves new
    first (the_one s) =
        let g : GivesChild old w.sooner w.mid = served old n w.sooner w.mid old.run s in
        ended (next_after n (acts_of w.sooner)) (is_over w.mid) refl g.are g.stage g.lost_then w.second.by
    first (the_other v) =
        let g : GivesChild v.mid v.later w.mid = served v.mid (next_after n (acts_of v.sooner)) v.later w.mid v.mid.run v.second in
        let are : AreChilds w.sooner = subst (λ (l : List Move). AreChilds l) (sym v.are) (childs_append v.sooner v.later (subst (λ (l : List Move). AreChilds l) (sym v.first.by.none) tt) g.are) in
        ended (next_after n (acts_of w.sooner)) (is_over w.mid) refl are (g.stage ∙ ap (λ (x : HttpConn). x.stage) v.first.by.is) (λ is. g.lost_then (ap (λ (x : HttpConn). x.lost) v.first.by.is)) w.second.by

lost_no_more : (conn : HttpConn) → conn.lost ≡ true → NoMore conn
lost_no_more conn is m = false≢true (sym (going_found conn m.done (more_going conn m)) ∙ is)

-- ---- the whole of it

module _ (L : List Item) (ev : Event) (acts : List Act) (turn : Turn) (e : Exchange) (old : HttpConn) (n : ℕ) (s : Standing L ev acts turn n e old) (two : 2 ≤ (site_of old).limits.head)
    (apt : Apt e old) (found : old.lost ≡ false) (on : ends_at old e ≡ false) (ticked : IsTicked e old) (stamp : Option ℕ) (moves : List Move) (mid : HttpConn) (w : Serves stamp old n moves mid)
    (is_lost : mid.lost ≡ true) (unwhole : is_answered mid.stage ≡ false → stands_whole (site_of old) (number_of old) (moved (site_of old) (number_of old) e moves) ≡ false) where
  abbrev site : Site
  site = site_of old

  abbrev c : ℕ
  c = number_of old

  abbrev k : ℕ
  k = next_after n (acts_of w.sooner)

  abbrev j : ℕ
  j = next_after k (acts_of w.second.sooner)

  pub tick_cause : (writes c (acts_of moves) ≡ true) ⊎ (is_live c (all_of (moved site c e moves)) ≡ true → lacks_reply site c (moved site c e moves) ≡ true)
  tick_cause = go (answer_told L ev acts turn e old n s two apt found on ticked stamp w.sooner w.mid w.first)
    where
      go : Told site c e w.sooner w.mid → (writes c (acts_of moves) ≡ true) ⊎ (is_live c (all_of (moved site c e moves)) ≡ true → lacks_reply site c (moved site c e moves) ≡ true)
      go (wrote some) =
          inl (ap (λ (l : List Move). writes c (acts_of l)) w.are ∙ (writes_append c w.sooner w.later ∙ or_left (writes c (acts_of w.sooner)) (writes c (acts_of w.later)) some))
      go (lost is none unanswered owed) =
          let g : GivesChild w.mid w.second.sooner w.second.mid = gives_child w.mid w.second.mid k w.second.sooner unanswered w.second.first in
          let rest = rounds_on_empty stamp w.second.mid mid j w.second.later (lost_no_more w.second.mid (g.lost_then is)) w.second.second in
          let are : AreChilds moves =
          subst (λ (l : List Move). AreChilds l) (sym (w.are ∙ (ap (λ (l : List Move). l ++ w.later) none ∙ w.second.are)))
          (childs_append w.second.sooner w.second.later g.are (subst (λ (l : List Move). AreChilds l) (sym rest.0) tt)) in
          let not_whole : is_answered mid.stage ≡ false = ap (λ (x : HttpConn). is_answered x.stage) rest.1 ∙ (ap is_answered g.stage ∙ unanswered) in
          inr (owed_lacks site c (moved site c e moves) (unwhole not_whole) (owed_moved site c e moves are owed))
      go (still found_mid unfed idle) = stays (serves_shape w.mid w.second.mid k w.second.sooner unfed w.second.first)
        where
          stays : IsServed w.mid w.second.sooner w.second.mid → (writes c (acts_of moves) ≡ true) ⊎ (is_live c (all_of (moved site c e moves)) ≡ true → lacks_reply site c (moved site c e moves) ≡ true)
          stays shape = by shape.by
            where
              by : ((w.second.mid ≡ shape.here) × (has_settle w.second.sooner ≡ false)) ⊎ ((is_over shape.here ≡ true) × Follows shape.here w.second.mid × (has_settle w.second.sooner ≡ true))
                  → (writes c (acts_of moves) ≡ true) ⊎ (is_live c (all_of (moved site c e moves)) ≡ true → lacks_reply site c (moved site c e moves) ≡ true)
              by (inl same) =
                  let idle_then : is_idle w.second.mid.stage ≡ true = ap (λ (x : HttpConn). is_idle x.stage) same.0 ∙ (ap is_idle shape.stage ∙ idle) in
                  let rest = rounds_on_empty stamp w.second.mid mid j w.second.later (still_no_more w.second.mid (idle_still w.second.mid w.second.mid.stage idle_then)) w.second.second in
                  absurd (false≢true (sym (ap (λ (x : HttpConn). x.lost) rest.1 ∙ (ap (λ (x : HttpConn). x.lost) same.0 ∙ (shape.lost ∙ found_mid))) ∙ is_lost))
              by (inr over) =
                  absurd (false≢true (sym (ap is_answered shape.stage ∙ idle_unanswered w.mid.stage idle) ∙ (and_parts (is_answered shape.here.stage) (run_settled shape.here.run) over.0).0))
