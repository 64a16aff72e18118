-- What holds of each act of a part: an answer gives but Writes, and no part before the last asks the client.
use Rattle.std.proofs.Common.{◌≡◌, ℕ, zero, suc, Bool, true, false, List, [], ◌∷◌, ◌++◌, Option, Some, None, refl, sym, subst}
use Rattle.host_trace.specs.declared.items.Act.{Act}
use Rattle.host_trace.specs.declared.items.Act.TheVariants.{CloseWs, EndInput, Feed, Kill, Release, Says, Shut, Start, Upgrade, WantChild, WantClient, Write}
use Rattle.host_trace.specs.declared.items.Why.{Why}
use Rattle.child_core.specs.Due.{Path, acting, given}
use Rattle.child_core.specs.View.{View}
use Rattle.child_core.proofs.MemoryLaws.{acting-due}
use Rattle.trace_model.specs.Exchange.{continue_text}
use Rattle.exchange_stage.specs.declared.stage.Stage.{Stage}
use Rattle.exchange_stage.specs.declared.stage.Stage.TheVariants as At
use Rattle.conn_flags.specs.View.{has_room}
use Rattle.conn_laws.specs.Moves.{Move, continues, gives, settles}
use Rattle.http_conn.specs.HttpConn.{HttpConn}
use Rattle.http_conn.specs.Settles.{is_over}
use Rattle.http_conn.specs.Writes.{acts_written}
use Rattle.http_conn.specs.Parts.{Answers, AnswersBy, AnswersOn, Begins, BeginsBy, Closes, Deed, Ends, EndsBy, FinishesBy, Gives, GivesBy, GivesHop, GivesHopBy, Handles, LetsOn, LetsOnBy, LosesFeed, LosesTurn, MakesHopReady, MakesReady, Nothing, Or, Part, ReadsBy, ReadsOn, Round, Rounds, RoundsOn, Serves, ServesBy, ServesChild, ServesOrLoses, ShutsBy, Then, WritesRest, gives_all, the_one, the_other}

abbrev pub Each : (Act → Bool) → List Move → Type 0
Each test [] = Unit {0}
Each test (gives act ∷ moves) = (test act ≡ true) × Each test moves
Each test (continues d ∷ moves) = (test (Write d continue_text) ≡ true) × Each test moves
Each test (settles ending ∷ moves) = Each test moves

-- ---- an answer

module _ (test : Act → Bool) (writes : (c : ℕ) (bytes : List ℕ) → test (Write c bytes) ≡ true) where
  pub each_append : (xs ys : List Move) → Each test xs → Each test ys → Each test (xs ++ ys)
  each_append [] ys a b = b
  each_append (gives act ∷ xs) ys a b = (a.0, each_append xs ys a.1 b)
  each_append (continues d ∷ xs) ys a b = (a.0, each_append xs ys a.1 b)
  each_append (settles ending ∷ xs) ys a b = each_append xs ys a b

  pub each_as : (moves others : List Move) → moves ≡ others → Each test others → Each test moves
  each_as moves others is a = subst (λ (l : List Move). Each test l) (sym is) a

  pub each_none : (moves : List Move) → moves ≡ [] → Each test moves
  each_none moves is = each_as moves [] is tt

  pub each_then : (First Later : Deed) (old new : HttpConn) (n : ℕ) (moves : List Move) → Then First Later old n moves new → ((mid : HttpConn) (xs : List Move) → First old n xs mid → Each test xs)
      → ((mid : HttpConn) (k : ℕ) (ys : List Move) → Later mid k ys new → Each test ys) → Each test moves
  each_then First Later old new n moves w one two =
      each_as moves (w.sooner ++ w.later) w.are (each_append w.sooner w.later (one w.mid w.sooner w.first) (two w.mid _ w.later w.second))

  each_written : (c : ℕ) (text : List ℕ) → Each test (gives_all (acts_written c text true))
  each_written c [] = tt
  each_written c (byte ∷ text) = (writes c (byte ∷ text), tt)

  pub each_ends : (old new : HttpConn) (n : ℕ) (moves : List Move) → Part Ends old n moves new → Each test moves
  each_ends old new n moves p = go (is_over old) p.by
    where
      go : (b : Bool) → EndsBy b old n moves new → Each test moves
      go true e = subst (λ (l : List Move). Each test l) (sym e.0) tt
      go false nothing = each_none moves nothing.none

  pub each_finishes : (text : List ℕ) (closes : Bool) (old new : HttpConn) (n : ℕ) (moves : List Move) → FinishesBy text closes old n moves new → Each test moves
  each_finishes text closes old new n moves (the_one w) =
      each_then (Part (WritesRest text closes)) (Part Ends) old new n moves w
      (λ mid xs p. each_as xs (gives_all (acts_written old.flags.c text true)) p.by.moves_are (each_written old.flags.c text)) (λ mid k ys p. each_ends mid new k ys p)
  each_finishes text closes old new n moves (the_other p) = each_none moves p.by.loses.none

  each_gives : (old new : HttpConn) (n : ℕ) (moves : List Move) → Gives old n moves new → Each test moves
  each_gives old new n moves by = go old.stage by
    where
      go : (t : Stage) → GivesBy t old n moves new → Each test moves
      go (At.Running leg) (the_one p) = each_as moves (gives_all (acts_written old.flags.c leg.text true)) p.by.moves_are (each_written old.flags.c leg.text)
      go (At.Running leg) (the_other p) = each_none moves p.by.loses.none
      go (At.Finishing text closes) by = each_finishes text closes old new n moves by
      go At.Reading nothing = each_none moves nothing.none
      go (At.Rejected cause bare) nothing = each_none moves nothing.none
      go (At.Interrupted cause) nothing = each_none moves nothing.none
      go (At.Refused cause) nothing = each_none moves nothing.none
      go (At.Unstarted hop request) nothing = each_none moves nothing.none
      go (At.Starting leg launch body whole) nothing = each_none moves nothing.none
      go At.Answered nothing = each_none moves nothing.none
      go At.Silent nothing = each_none moves nothing.none

  each_reads : (old new : HttpConn) (n : ℕ) (moves : List Move) → Part ReadsOn old n moves new → Each test moves
  each_reads old new n moves p = go p.by.ending _ p.by.by
    where
      go : (a b : Bool) → ReadsBy a b old n moves new → Each test moves
      go true b nothing = each_none moves nothing.none
      go false false nothing = each_none moves nothing.none
      go false true (the_one l) = each_none moves l.none
      go false true (the_other l) = each_none moves l.loses.none

  each_lets : (old new : HttpConn) (n : ℕ) (moves : List Move) → Part LetsOn old n moves new → Each test moves
  each_lets old new n moves p = go p.by.due p.by.by
    where
      go : (b : Bool) → LetsOnBy b old n moves new → Each test moves
      go true (the_one t) = each_as moves (continues old.flags.c ∷ []) t.moves_are (writes old.flags.c continue_text, tt)
      go true (the_other l) = each_none moves l.none
      go false nothing = each_none moves nothing.none

  pub each_answers : (stamp : Option ℕ) (old new : HttpConn) (n : ℕ) (moves : List Move) → Answers stamp old n moves new → Each test moves
  each_answers stamp old new n moves w =
      each_then (Part ReadsOn) (Then (Part LetsOn) (AnswersOn stamp)) old new n moves w (λ mid xs p. each_reads old mid n xs p)
      (λ mid k ys v. each_then (Part LetsOn) (AnswersOn stamp) mid new k ys v (λ next xs p. each_lets mid next k xs p) (λ next j zs a. go next j zs a.ending a.by))
    where
      go : (next : HttpConn) (j : ℕ) (zs : List Move) (b : Bool) → AnswersBy b stamp next j zs new → Each test zs
      go next j zs true nothing = each_none zs nothing.none
      go next j zs false (the_one v) =
          each_then (Part (MakesReady stamp)) Gives next new j zs v (λ mid xs p. each_none xs p.by.none) (λ mid k ys g. each_gives mid new k ys g)
      go next j zs false (the_other p) = each_none zs p.by.loses.none

-- ---- no act asks the client

abbrev pub is_other : Act → Bool
is_other (WantClient c) = false
is_other act = true

write_other : (c : ℕ) (bytes : List ℕ) → is_other (Write c bytes) ≡ true
write_other c bytes = refl

each_path : (may : Bool) (v : View) (acts : List Act) → Path may v acts → Each is_other (gives_all acts)
each_path may v [] path = tt
each_path may v (Feed k bytes ∷ acts) path = (refl, each_path may (given v (Feed k bytes)) acts path.1)
each_path may v (EndInput k ∷ acts) path = (refl, each_path may (given v (EndInput k)) acts path.1)
each_path may v (Kill k ∷ acts) path = (refl, each_path may (given v (Kill k)) acts path.1)
each_path may v (Release k ∷ acts) path = (refl, each_path may (given v (Release k)) acts path.1)
each_path may v (WantChild k ∷ acts) path = (refl, each_path may (given v (WantChild k)) acts path.1)
each_path may v _ path = absurd path.0

each_child : (old new : HttpConn) (n : ℕ) (moves : List Move) → ServesChild old n moves new → Each is_other moves
each_child old new n moves by = go old.run by
  where
    go : (run : Option View) → ServesBy run old n moves new → Each is_other moves
    go None nothing = each_none is_other write_other moves nothing.none
    go (Some v) p = each_as is_other write_other moves (gives_all (acting (has_room old.flags) v)) p.by.moves_are
        (each_path (has_room old.flags) v (acting (has_room old.flags) v) (acting-due (has_room old.flags) v).path)

each_handles : (old new : HttpConn) (n : ℕ) (moves : List Move) → Handles old n moves new → Each is_other moves
each_handles old new n moves w =
    each_then is_other write_other ServesOrLoses (Part Ends) old new n moves w (λ mid xs s. go mid xs s) (λ mid k ys p. each_ends is_other write_other mid new k ys p)
  where
    go : (mid : HttpConn) (xs : List Move) → ServesOrLoses old n xs mid → Each is_other xs
    go mid xs (the_one s) = each_child old mid n xs s
    go mid xs (the_other v) =
        each_then is_other write_other (Part LosesFeed) ServesChild old mid n xs v (λ next zs p. each_none is_other write_other zs p.by.none) (λ next k zs s. each_child next mid k zs s)

each_hop : (old new : HttpConn) (n : ℕ) (moves : List Move) → GivesHop old n moves new → Each is_other moves
each_hop old new n moves by = go old.stage by
  where
    go : (t : Stage) → GivesHopBy t old n moves new → Each is_other moves
    go (At.Finishing text closes) by = each_finishes is_other write_other text closes old new n moves by
    go (At.Starting leg launch body whole) (the_one p) = subst (λ (l : List Move). Each is_other l) (sym p.by.moves_are) (refl, tt)
    go (At.Starting leg launch body whole) (the_other p) = each_none is_other write_other moves p.by.none
    go At.Reading nothing = each_none is_other write_other moves nothing.none
    go (At.Rejected cause bare) nothing = each_none is_other write_other moves nothing.none
    go (At.Interrupted cause) nothing = each_none is_other write_other moves nothing.none
    go (At.Refused cause) nothing = each_none is_other write_other moves nothing.none
    go (At.Unstarted hop request) nothing = each_none is_other write_other moves nothing.none
    go (At.Running leg) nothing = each_none is_other write_other moves nothing.none
    go At.Answered nothing = each_none is_other write_other moves nothing.none
    go At.Silent nothing = each_none is_other write_other moves nothing.none

each_begins : (stamp : Option ℕ) (old new : HttpConn) (n : ℕ) (moves : List Move) → Begins stamp old n moves new → Each is_other moves
each_begins stamp old new n moves b = go b.turn b.by
  where
    go : (turn : Bool) → BeginsBy turn stamp old n moves new → Each is_other moves
    go true (the_one w) =
        each_then is_other write_other (Part (MakesHopReady stamp)) GivesHop old new n moves w (λ mid xs p. each_none is_other write_other xs p.by.none) (λ mid k ys g. each_hop mid new k ys g)
    go true (the_other p) = each_none is_other write_other moves p.by.loses.none
    go false nothing = each_none is_other write_other moves nothing.none

each_rounds : (turns : ℕ) (stamp : Option ℕ) (old new : HttpConn) (n : ℕ) (moves : List Move) → Rounds turns stamp old n moves new → Each is_other moves
each_rounds zero stamp old new n moves nothing = each_none is_other write_other moves nothing.none
each_rounds (suc turns) stamp old new n moves w =
    each_then is_other write_other (Rounds turns stamp) (Round stamp) old new n moves w (λ mid xs v. each_rounds turns stamp old mid n xs v)
    (λ mid k ys r.
    each_then is_other write_other (Answers stamp) (Begins stamp) mid new k ys r.does (λ next xs a. each_answers is_other write_other stamp mid next k xs a) (λ next j zs b. each_begins stamp next new j zs b))

each_rounds_on : (stamp : Option ℕ) (old new : HttpConn) (n : ℕ) (moves : List Move) → RoundsOn stamp old n moves new → Each is_other moves
each_rounds_on stamp old new n moves r =
    each_then is_other write_other (Rounds r.turns stamp) (Or Nothing (Part LosesTurn)) old new n moves r.does (λ mid xs v. each_rounds r.turns stamp old mid n xs v) (λ mid k ys by. go mid k ys by)
  where
    go : (mid : HttpConn) (k : ℕ) (ys : List Move) → Or Nothing (Part LosesTurn) mid k ys new → Each is_other ys
    go mid k ys (the_one nothing) = each_none is_other write_other ys nothing.none
    go mid k ys (the_other p) = each_none is_other write_other ys p.by.loses.none

pub each_serves : (stamp : Option ℕ) (old new : HttpConn) (n : ℕ) (moves : List Move) → Serves stamp old n moves new → Each is_other moves
each_serves stamp old new n moves w =
    each_then is_other write_other (Answers stamp) (Then Handles (RoundsOn stamp)) old new n moves w (λ mid xs a. each_answers is_other write_other stamp old mid n xs a)
    (λ mid k ys v.
    each_then is_other write_other Handles (RoundsOn stamp) mid new k ys v (λ next xs h. each_handles mid next k xs h) (λ next j zs r. each_rounds_on stamp next new j zs r))

pub each_closes : (old new : HttpConn) (n : ℕ) (moves : List Move) → Part Closes old n moves new → Each is_other moves
each_closes old new n moves p = go p.by.why p.by.by
  where
    go : (why : Option Why) → ShutsBy why old n moves new → Each is_other moves
    go None nothing = each_none is_other write_other moves nothing.none
    go (Some why) s = subst (λ (l : List Move). Each is_other l) (sym s.moves_are) (refl, tt)
