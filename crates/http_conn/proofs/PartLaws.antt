-- What was done in a part of a step, by what its functions say.
use Rattle.std.proofs.Common.{◌≡◌, ◌⊎◌, inl, inr, ℕ, suc, zero, Bool, true, false, not, ◌||◌, ◌&&◌, List, [], ◌∷◌, Option, Some, None, is_some, Result, Ok, Err, is_ok, IsErr, ◌==◌, refl, sym, ap, ◌∙◌, ◌+◌, arith, subst}
use Rattle.std.proofs.lemmas.Bool.{false≢true}
use Rattle.host_base.specs.declared.launch.Launch.{Launch}
use Rattle.host_trace.specs.declared.items.Item.{Item}
use Rattle.host_trace.specs.First.{or_else}
use Rattle.host_trace.specs.Told.{Adds}
use Rattle.child_core.specs.declared.ending.Ending.TheVariants.{Dropped}
use Rattle.child_core.specs.declared.ending.Outcome.{Outcome}
use Rattle.child_core.specs.declared.ending.Outcome.TheVariants.{Output}
use Rattle.child_core.specs.Calls.{ended, outcome_of_ending}
use Rattle.child_core.specs.Due.{acted, acted_by, acting, acting_by, is_feed_due}
use Rattle.child_core.specs.View.{View}
use Rattle.trace_child.specs.Words.{is_filled}
use Rattle.conn_flags.specs.View.{View as Flags, has_room}
use Rattle.conn_flags.specs.Form.{given_all}
use Rattle.exchange_request.specs.declared.incoming.Incoming.{Incoming}
use Rattle.request_reader.specs.Request.{is_whole_head}
use Rattle.exchange_request.specs.Knows.{KnowsRequest, is_looked_at, is_ready, kept_of, limits_of}
use Rattle.exchange_stage.specs.declared.stage.Leg.{Leg}
use Rattle.exchange_stage.specs.declared.stage.Stage.{Stage}
use Rattle.exchange_stage.specs.declared.stage.Stage.TheVariants as At
use Rattle.exchange_stage.specs.declared.stage.Stage.TheVariants.{Finishing, Running, Silent, Starting}
use Rattle.conn_laws.specs.Moves.{Move, acts_of, moved}
use Rattle.conn_laws.proofs.FrontLaws.{known_stood}
use Rattle.http_state.specs.declared.conn.HttpConn.{HttpConn}
use Rattle.http_state.specs.Begins.{ReadiesAnswer, ReadiesHop, silenced}
use Rattle.http_state.specs.Kept.{Gave, Kept, front_of, is_reading, number_of, peer_of, site_of}
use Rattle.http_state.specs.Moves.{ended_run, losing}
use Rattle.http_state.specs.Deeds.{Deed, GivesUp, Loses, Nothing, Or, Part, Then, gives_all, the_one, the_other}
use Rattle.http_conn.specs.Parts.{Answers, Begins, FinishesBy, Feeds, Gives, GivesBy, GivesHop, GivesHopBy, LooksAt, LosesFeed, LosesLook, LosesReady, LosesText, LosesTurn, MakesHopReady, MakesReady, ReadsBy, ReadsOn, Round, Rounds, RoundsOn, ServesBy, ServesChild, ServesRun, SomeRounds, StartsRun, WritesPart, WritesRest, run_begun}
use Rattle.http_state.specs.Ready.{Lacks, Looks as LooksTo, MayLack, outcome_of_run}
use Rattle.http_state.specs.Settles.{Settles, is_answered, stood}
use Rattle.http_state.specs.Tells.{TellsEnding, TellsMore}
use Rattle.http_conn.specs.Writes.{acts_written, wrote}
use Rattle.http_state.proofs.KeptLaws.{kept_known, kept_both, kept_number, leads_as, kept_turned, losing_kept, settles_turned}
use Rattle.http_conn.proofs.GaveLaws.{Wrote, adds_nothing, gave_as, gave_before, gave_from, gave_lost, gave_nothing, gave_part, gave_run, gave_still, gave_then, gave_turned}
use Rattle.http_state.proofs.DueLaws.{and_first, ending_found}
use Rattle.http_state.proofs.TakenLaws.{given_up, given_up_from}

-- ---- a part

pub part_as : {A B : Deed} {old new : HttpConn} {n : ℕ} {moves : List Move} → (A old n moves new → B old n moves new) → Part A old n moves new → Part B old n moves new
part_as as_other p = record { site = p.site; peer_is = p.peer_is; flags = p.flags; leads = p.leads; by = as_other p.by }

-- after what kept all it is one from the first
pub part_from : {A B : Deed} {old mid new : HttpConn} {n : ℕ} {moves : List Move} → Kept old mid → (A mid n moves new → B old n moves new) → Part A mid n moves new
    → Part B old n moves new
part_from {A} {B} {old} {mid} {new} {n} {moves} k as_first p = record {
  site = p.site ∙ k.site;
  peer_is = p.peer_is ∙ k.peer_is;
  flags = p.flags ∙ ap (λ (v : Flags). given_all v (acts_of moves)) k.flags;
  leads = λ e known.
      leads_as (site_of old) (site_of mid) (number_of old) (number_of mid) mid new moves k.site (kept_number k) p.leads e (kept_known k e known);
  by = as_first p.by;
}

-- ---- what came is looked at

pub reads_none : (ending unread : Bool) (conn : HttpConn) (n : ℕ) → (ending || not unread) ≡ true → ReadsBy ending unread conn n [] conn
reads_none true unread conn n e = record { none = refl; same = refl }
reads_none false true conn n e = absurd (false≢true e)
reads_none false false conn n e = record { none = refl; same = refl }

pub reading_first : (conn : HttpConn) → (is_reading conn.stage && not (is_looked_at conn.request)) ≡ true → is_reading conn.stage ≡ true
reading_first conn e = and_first (is_reading conn.stage) (not (is_looked_at conn.request)) e

pub lost_looking : {old new : HttpConn} {i : Incoming} → new ≡ losing (record old { request = i }) → limits_of i ≡ limits_of old.request → GivesUp old new
lost_looking {old} {new} {i} is limits = subst (λ (conn : HttpConn). GivesUp old conn) (sym is) (record { is = refl; limits = limits; answered = refl })

reads_unread : {old new : HttpConn} {n : ℕ} (ending unread : Bool) → ending ≡ false → unread ≡ true → Or LooksAt LosesLook old n [] new → ReadsBy ending unread old n [] new
reads_unread true unread e u d = absurd (false≢true (sym e))
reads_unread false false e u d = absurd (false≢true u)
reads_unread false true e u d = d

pub looked_at : {old new : HttpConn} (n : ℕ) (ending : Bool) → TellsEnding old ending → ending ≡ false → (is_reading old.stage && not (is_looked_at old.request)) ≡ true
    → new.lost ≡ old.lost → LooksTo old new → ReadsOn old n [] new
looked_at {old} {new} n ending tells on unread lost looks = record {
  ending = ending;
  tells = tells;
  by = reads_unread ending (is_reading old.stage && not (is_looked_at old.request)) on unread (the_one (record {
    none = refl;
    found = lost ∙ ending_found (subst (λ (b : Bool). TellsEnding old b) on tells);
    looked = looks;
  }));
}

pub lost_at_look : {old new : HttpConn} (n : ℕ) (ending : Bool) → TellsEnding old ending → ending ≡ false → (is_reading old.stage && not (is_looked_at old.request)) ≡ true
    → GivesUp old new → ((bytes : List ℕ) → KnowsRequest old.request bytes 0 → is_ready old.request ≡ false → is_whole_head (limits_of old.request) bytes ≡ true) → ReadsOn old n [] new
lost_at_look {old} {new} n ending tells on unread up heard = record {
  ending = ending;
  tells = tells;
  by = reads_unread ending (is_reading old.stage && not (is_looked_at old.request)) on unread (the_other (record { loses = record { none = refl; gives_up = up }; heard = heard }));
}

-- ---- the answer

pub gave_ready : {stamp : Option ℕ} {old new : HttpConn} {n : ℕ} {b : Option (List Item)} → Kept old new → new.lost ≡ false → ReadiesAnswer old.stage stamp old new
    → Gave (Part (MakesReady stamp)) old n b new n b
gave_ready k found ready = gave_part (gave_turned (kept_turned k (λ i. record { none = refl; found = found; readies = ready })))

pub gave_ready_lost : {old new : HttpConn} {n : ℕ} {b : Option (List Item)} → Kept old new → GivesUp old new
    → ((leg : Leg) → old.stage ≡ Running leg → outcome_of_run old.run ≡ Some Output → Lacks leg.reply) → MayLack old old.stage → Gave (Part LosesReady) old n b new n b
gave_ready_lost k up lacks may = gave_part (gave_turned (kept_turned k (λ i. record { loses = record { none = refl; gives_up = up }; lacks = lacks; may = may })))

pub gave_hop_ready : {stamp : Option ℕ} {old new : HttpConn} {n : ℕ} {b : Option (List Item)} → Kept old new → new.lost ≡ false → ReadiesHop old.stage stamp old new
    → Gave (Part (MakesHopReady stamp)) old n b new n b
gave_hop_ready k found ready = gave_part (gave_turned (kept_turned k (λ i. record { none = refl; found = found; readies = ready })))

-- ---- what is ready is given

abbrev PartWritten : Leg → Deed
PartWritten leg = Or (Part (WritesPart leg)) (Part (LosesText leg.text))

-- a part was written, or there was no room for it
pub gave_part_written : {old mid new : HttpConn} {n : ℕ} {b d : Option (List Item)} (leg : Leg) (found : Bool) → is_answered old.stage ≡ false → is_answered new.stage ≡ false
    → Kept mid new → new ≡ record mid { stage = Running (record leg { text = [] }) } → Gave (Wrote leg.text found) old n b mid n d → Gave (PartWritten leg) old n b new n d
gave_part_written {old} {mid} {new} {n} {b} {d} leg found before after k put g = go leg.text found refl refl
  where
    written : (moves : List Move) → (w : Wrote leg.text found old n moves mid) → gives_all (acts_written old.flags.c leg.text found) ≡ gives_all (acts_written old.flags.c leg.text true)
        → wrote leg.text found old ≡ wrote leg.text true old → WritesPart leg old n moves new
    written moves w same_acts same = record {
      moves_are = w.moves_are ∙ same_acts;
      is = put ∙ ap (λ (conn : HttpConn). record conn { stage = Running (record leg { text = [] }) }) (w.is ∙ same);
    }

    go : (text : List ℕ) (f : Bool) → leg.text ≡ text → found ≡ f → Gave (PartWritten leg) old n b new n d
    go [] f text_is found_is =
        gave_as (λ moves p. the_one p) (gave_part (gave_before g k (λ moves w. written moves w
        (ap (λ (t : List ℕ). gives_all (acts_written old.flags.c t found)) text_is ∙ sym (ap (λ (t : List ℕ). gives_all (acts_written old.flags.c t true)) text_is))
        (ap (λ (t : List ℕ). wrote t found old) text_is ∙ sym (ap (λ (t : List ℕ). wrote t true old) text_is)))))
    go (byte ∷ bytes) true text_is found_is =
        gave_as (λ moves p. the_one p) (gave_part (gave_before g k (λ moves w. written moves w
        (ap (λ (f : Bool). gives_all (acts_written old.flags.c leg.text f)) found_is) (ap (λ (f : Bool). wrote leg.text f old) found_is))))
    go (byte ∷ bytes) false text_is found_is =
        gave_as (λ moves p. the_other p) (gave_part (gave_before g k (λ moves w.
        let lost : mid ≡ losing old = w.is ∙ (ap (λ (f : Bool). wrote leg.text f old) found_is ∙ ap (λ (t : List ℕ). wrote t false old) text_is) in
        let is : new ≡ record (losing old) { stage = Running (record leg { text = [] }) } =
        put ∙ ap (λ (conn : HttpConn). record conn { stage = Running (record leg { text = [] }) }) lost in
        record {
          filled = ap (λ (t : List ℕ). is_filled t) text_is;
          loses = record {
            none = w.moves_are ∙ (ap (λ (f : Bool). gives_all (acts_written old.flags.c leg.text f)) found_is ∙ ap (λ (t : List ℕ). gives_all (acts_written old.flags.c t false)) text_is);
            gives_up = subst (λ (conn : HttpConn). GivesUp old conn) (sym is) (record { is = refl; limits = refl; answered = sym before });
          };
        })))

-- the rest was written, and the whole answer stands
pub gave_rest_written : {old mid : HttpConn} {n : ℕ} {b d : Option (List Item)} (text : List ℕ) (closes found : Bool) → found ≡ true → Gave (Wrote text found) old n b mid n d
    → Gave (Part (WritesRest text closes)) old n b (stood closes mid) n d
gave_rest_written {old} {mid} {n} {b} {d} text closes found yes_found g =
    gave_part (record {
      acts = g.acts;
      told = g.told;
      next = g.next;
      site = g.site;
      peer_is = g.peer_is;
      form = g.form;
      flags = g.flags;
      own = λ ks w. let first = g.own ks w in record { are = first.are; child = first.child };
      moves = g.moves;
      same = g.same;
      keeps = λ e known a.
          let first = g.keeps e known a in
          (known_stood (site_of mid) (number_of mid) (peer_of mid) mid.lost (is_reading mid.stage) (front_of mid) (moved (site_of old) (number_of old) e g.moves) closes first.0, first.1);
      does = record {
        moves_are = g.does.moves_are ∙ ap (λ (f : Bool). gives_all (acts_written old.flags.c text f)) yes_found;
        is = ap (λ (conn : HttpConn). stood closes conn) (g.does.is ∙ ap (λ (f : Bool). wrote text f old) yes_found);
      };
    })

-- .. and the exchange ends where it is over
pub gave_finished : {old mid new : HttpConn} {n : ℕ} {b d : Option (List Item)} (text : List ℕ) (closes found : Bool) → found ≡ true → Gave (Wrote text found) old n b mid n d
    → Settles (stood closes mid) new → Gave (FinishesBy text closes) old n b new n d
gave_finished {old} {mid} {new} {n} {b} {d} text closes found yes_found g s =
    gave_as (λ moves p. the_one p) (gave_then (gave_rest_written text closes found yes_found g) (gave_part (gave_turned (settles_turned s))))

-- .. or there was no room for it
pub gave_unfinished : {old mid : HttpConn} {n : ℕ} {b d : Option (List Item)} (text : List ℕ) (closes found : Bool) → found ≡ false → is_filled text ≡ true
    → Gave (Wrote text found) old n b mid n d → Gave (FinishesBy text closes) old n b mid n d
gave_unfinished {old} {mid} {n} {b} {d} text closes found not_found filled g = gave_as (λ moves p. the_other p) (gave_part (gave_as lost g))
  where
    go : (bytes : List ℕ) → is_filled bytes ≡ true → (moves : List Move) → Wrote bytes false old n moves mid → LosesText bytes old n moves mid
    go [] none moves w = absurd (false≢true none)
    go (byte ∷ bytes) some moves w = record { filled = refl; loses = record { none = w.moves_are; gives_up = given_up w.is } }

    lost : (moves : List Move) → Wrote text found old n moves mid → LosesText text old n moves mid
    lost moves w = go text filled moves (subst (λ (f : Bool). Wrote text f old n moves mid) not_found w)

-- .. by the stage that was taken out
finished_from : {old new : HttpConn} {n : ℕ} {moves : List Move} (text : List ℕ) (closes : Bool) → Kept old (silenced old) → is_answered old.stage ≡ false
    → FinishesBy text closes (silenced old) n moves new → FinishesBy text closes old n moves new
finished_from {old} {new} {n} {moves} text closes k unanswered (the_one t) =
    the_one (record { mid = t.mid; sooner = t.sooner; later = t.later; are = t.are; first = part_from k (λ w. record { moves_are = w.moves_are; is = w.is ∙ rests text }) t.first; second = t.second })
  where
    rests : (bytes : List ℕ) → stood closes (wrote bytes true (silenced old)) ≡ stood closes (wrote bytes true old)
    rests [] = refl
    rests (byte ∷ bytes) = refl
finished_from {old} {new} {n} {moves} text closes k unanswered (the_other p) =
    the_other (part_from k (λ l. record { filled = l.filled; loses = record { none = l.loses.none; gives_up = given_up_from unanswered l.loses.gives_up } }) p)

pub gave_answer_finished : {old mid new : HttpConn} {n : ℕ} {b d : Option (List Item)} (stage : Stage) (text : List ℕ) (closes : Bool) → stage ≡ old.stage
    → stage ≡ Finishing text closes → mid ≡ silenced old → Kept old mid → Gave (FinishesBy text closes) mid n b new n d → Gave Gives old n b new n d
gave_answer_finished {old} {mid} {new} {n} {b} {d} stage text closes taken is rest k g =
    let at : old.stage ≡ Finishing text closes = sym taken ∙ is in
    let unanswered : is_answered old.stage ≡ false = ap is_answered at in
    let kept : Kept old (silenced old) = subst (λ (conn : HttpConn). Kept old conn) rest k in
    gave_from kept (λ moves f. subst (λ (s : Stage). GivesBy s old n moves new) (sym at) (finished_from text closes kept unanswered f))
    (subst (λ (conn : HttpConn). Gave (FinishesBy text closes) conn n b new n d) rest g)

pub gave_hop_finished : {old mid new : HttpConn} {n : ℕ} {b d : Option (List Item)} (stage : Stage) (text : List ℕ) (closes : Bool) → stage ≡ old.stage
    → stage ≡ Finishing text closes → mid ≡ silenced old → Kept old mid → Gave (FinishesBy text closes) mid n b new n d → Gave GivesHop old n b new n d
gave_hop_finished {old} {mid} {new} {n} {b} {d} stage text closes taken is rest k g =
    let at : old.stage ≡ Finishing text closes = sym taken ∙ is in
    let unanswered : is_answered old.stage ≡ false = ap is_answered at in
    let kept : Kept old (silenced old) = subst (λ (conn : HttpConn). Kept old conn) rest k in
    gave_from kept (λ moves f. subst (λ (s : Stage). GivesHopBy s old n moves new) (sym at) (finished_from text closes kept unanswered f))
    (subst (λ (conn : HttpConn). Gave (FinishesBy text closes) conn n b new n d) rest g)

pub gave_answer_part : {old mid new : HttpConn} {n : ℕ} {b d : Option (List Item)} (stage : Stage) (leg : Leg) → stage ≡ old.stage → stage ≡ Running leg → mid ≡ silenced old
    → Kept old mid → Gave (PartWritten leg) mid n b new n d → Gave Gives old n b new n d
gave_answer_part {old} {mid} {new} {n} {b} {d} stage leg taken is rest k g =
    gave_from kept (λ moves p. subst (λ (s : Stage). GivesBy s old n moves new) (sym at) (go moves p))
    (subst (λ (conn : HttpConn). Gave (PartWritten leg) conn n b new n d) rest g)
  where
    at : old.stage ≡ Running leg
    at = sym taken ∙ is

    kept : Kept old (silenced old)
    kept = subst (λ (conn : HttpConn). Kept old conn) rest k

    parts : (bytes : List ℕ) → record (wrote bytes true (silenced old)) { stage = Running (record leg { text = [] }) } ≡ record (wrote bytes true old) { stage = Running (record leg { text = [] }) }
    parts [] = refl
    parts (byte ∷ bytes) = refl

    go : (moves : List Move) → PartWritten leg (silenced old) n moves new → PartWritten leg old n moves new
    go moves (the_one p) = the_one (part_from kept (λ w. record { moves_are = w.moves_are; is = w.is ∙ parts leg.text }) p)
    go moves (the_other p) =
        the_other (part_from kept (λ l. record { filled = l.filled; loses = record { none = l.loses.none; gives_up = given_up_from (ap is_answered at) l.loses.gives_up } }) p)

-- a stage of which nothing is given is put back
pub gave_back : {A : Deed} {old new : HttpConn} {n : ℕ} {b : Option (List Item)} → new ≡ old → A old n [] old → Gave A old n b new n b
gave_back {A} {old} {new} {n} {b} same does =
    subst (λ (conn : HttpConn). Gave A old n b conn n b) (sym same) (gave_as (λ moves k. subst (λ (l : List Move). A old n l old) (sym k.none) does) (gave_nothing old))

-- .. of a stage that is neither a reply nor the rest of an answer
pub gives_none : (conn : HttpConn) (n : ℕ) (stage : Stage) → ((leg : Leg) → stage ≡ Running leg → ⊥) → ((text : List ℕ) (closes : Bool) → stage ≡ Finishing text closes → ⊥)
    → GivesBy stage conn n [] conn
gives_none conn n (At.Running leg) r f = absurd (r leg refl)
gives_none conn n (At.Finishing text closes) r f = absurd (f text closes refl)
gives_none conn n _ r f = record { none = refl; same = refl }

pub gives_no_hop : (conn : HttpConn) (n : ℕ) (stage : Stage) → ((text : List ℕ) (closes : Bool) → stage ≡ Finishing text closes → ⊥)
    → ((leg : Leg) (launch : Launch) (body : List ℕ) (whole : Bool) → stage ≡ Starting leg launch body whole → ⊥) → GivesHopBy stage conn n [] conn
gives_no_hop conn n (At.Starting leg launch body whole) f t = absurd (t leg launch body whole refl)
gives_no_hop conn n (At.Finishing text closes) f t = absurd (f text closes refl)
gives_no_hop conn n _ f t = record { none = refl; same = refl }

abbrev ScriptStarted : Leg → Launch → View → Deed
ScriptStarted leg launch v = Or (Part (StartsRun leg launch v)) (Part Loses)

pub gave_script : {old mid new : HttpConn} {n m : ℕ} {b d : Option (List Item)} (stage : Stage) (leg : Leg) (launch : Launch) (body : List ℕ) (whole : Bool) (v : View)
    → stage ≡ old.stage → stage ≡ Starting leg launch body whole → mid ≡ silenced old → Kept old mid → v ≡ run_begun (site_of mid) n leg.kind body whole
    → Gave (ScriptStarted leg launch v) mid n b new m d → Gave GivesHop old n b new m d
gave_script {old} {mid} {new} {n} {m} {b} {d} stage leg launch body whole v taken is rest k run_is g =
    gave_from kept (λ moves p. subst (λ (s : Stage). GivesHopBy s old n moves new) (sym at) (go moves p))
    (subst (λ (conn : HttpConn). Gave (ScriptStarted leg launch v) conn n b new m d) rest g)
  where
    at : old.stage ≡ Starting leg launch body whole
    at = sym taken ∙ is

    kept : Kept old (silenced old)
    kept = subst (λ (conn : HttpConn). Kept old conn) rest k

    run_then : v ≡ run_begun (site_of old) n leg.kind body whole
    run_then = run_is ∙ ap (λ (conn : HttpConn). run_begun (site_of conn) n leg.kind body whole) rest

    go : (moves : List Move) → ScriptStarted leg launch v (silenced old) n moves new → GivesHopBy (Starting leg launch body whole) old n moves new
    go moves (the_one p) = the_one (part_from kept (λ w. record { moves_are = w.moves_are; is = w.is ∙ ap (λ (r : View). record old { run = Some r; stage = Running leg }) run_then }) p)
    go moves (the_other p) = the_other (part_from kept (λ l. record { none = l.none; gives_up = given_up_from (ap is_answered at) l.gives_up }) p)

-- ---- the child

pub serves_run : {old new : HttpConn} {n : ℕ} {b d : Option (List Item)} (found may : Bool) (v : View) → found ≡ true → may ≡ has_room old.flags → old.run ≡ Some v
    → new ≡ record old { run = Some (acted_by found may v) } → Adds b (acting_by found may v) d → Gave ServesChild old n b new n d
serves_run {old} {new} {n} {b} {d} found may v yes_found may_is was is told =
    subst (λ (conn : HttpConn). Gave ServesChild old n b conn n d) (sym is)
    (gave_as (λ moves p. subst (λ (r : Option View). ServesBy r old n moves then) (sym was) p) (gave_part served))
  where
    then : HttpConn
    then = record old { run = Some (acted_by found may v) }

    served : Gave (ServesRun v) old n b then n d
    served =
        gave_run found may v was refl told refl refl refl (record { front = refl; lost = λ l. l; reading = λ r. r }) (record {
          moves_are = ap (λ (f : Bool). gives_all (acting_by f may v)) yes_found ∙ ap (λ (m : Bool). gives_all (acting m v)) may_is;
          is = ap (λ (f : Bool). record old { run = Some (acted_by f may v) }) yes_found ∙ ap (λ (m : Bool). record old { run = Some (acted m v) }) may_is;
        })

pub serves_none : {conn : HttpConn} {n : ℕ} {b : Option (List Item)} → conn.run ≡ None → Gave ServesChild conn n b conn n b
serves_none {conn} {n} {b} none =
    gave_as (λ moves d. subst (λ (r : Option View). ServesBy r conn n moves conn) (sym none) d) (gave_nothing conn)

pub failed : {A E : Type 0} (r : Result A E) → is_ok r ≡ false → IsErr r
failed (Ok x) e = absurd (false≢true (sym e))
failed (Err x) e = refl

-- nothing is fed to one that was given up
given_up_unfed : (run : Option View) → Feeds (ended_run Dropped run) → ⊥
given_up_unfed None f = no_view f.v f.run_is
  where
    no_view : (v : View) → None ≡ Some v → ⊥
    no_view v e = absurd (cc)
given_up_unfed (Some v) f =
    let same : f.v ≡ ended v Dropped = some_same (sym f.run_is) in
    false≢true (sym (go v.started v.outcome) ∙ (ap is_feed_due (sym same) ∙ f.due))
  where
    some_same : {a b : View} → Some a ≡ Some b → a ≡ b
    some_same e = cc

    go : (started : Bool) (outcome : Option Outcome)
        → (started && not (is_some (or_else outcome (Some (outcome_of_ending Dropped)))) && not v.exited && not v.input_ended && is_filled {X = ℕ} [] && v.untaken == 0) ≡ false
    go false outcome = refl
    go true None = refl
    go true (Some outcome) = refl

-- ---- rounds

pub gave_no_rounds : (stamp : Option ℕ) (conn : HttpConn) {n : ℕ} {b : Option (List Item)} → Gave (Rounds 0 stamp) conn n b conn n b
gave_no_rounds stamp conn = gave_nothing conn

-- one round more
pub gave_round : {stamp : Option ℕ} {old mid new : HttpConn} {n m l : ℕ} {a b d : Option (List Item)} (turns : ℕ) → Gave (Rounds turns stamp) old n a mid m b → TellsMore mid true
    → Gave (Then (Answers stamp) (Begins stamp)) mid m b new l d → Gave (Rounds (suc turns) stamp) old n a new l d
gave_round {stamp} {old} {mid} {new} {n} {m} {l} {a} {b} {d} turns g on h = gave_then g (gave_as round h)
  where
    round : (moves : List Move) → Then (Answers stamp) (Begins stamp) mid m moves new → Round stamp mid m moves new
    round moves t = record { more = on; does = t }

-- nothing may go on, or so many were made, and memory counts as wanting
pub gave_rest : {stamp : Option ℕ} {old mid new : HttpConn} {n m : ℕ} {b d : Option (List Item)} (turns : ℕ) → turns ≡ kept_of old.request + 2 → Gave (Rounds turns stamp) old n b mid m d
    → Kept mid new → (new ≡ mid) ⊎ (TellsMore mid true × GivesUp mid new) → TellsMore new false → Gave (RoundsOn stamp) old n b new m d
gave_rest {stamp} {old} {mid} {new} {n} {m} {b} {d} turns is g k or_lost rests = gave_as all (gave_then g (last or_lost))
  where
    last : (new ≡ mid) ⊎ (TellsMore mid true × GivesUp mid new) → Gave (Or Nothing (Part LosesTurn)) mid m d new m d
    last (inl same) = gave_back same (the_one (record { none = refl; same = refl }))
    last (inr lost) =
        gave_as (λ moves p. the_other p) (gave_part (gave_turned (kept_turned k (λ i. record { more = lost.0; loses = record { none = refl; gives_up = lost.1 } }))))

    all : (moves : List Move) → Then (Rounds turns stamp) (Or Nothing (Part LosesTurn)) old n moves new → RoundsOn stamp old n moves new
    all moves t = record {
      turns = turns;
      does = t;
      rests = rests;
      none = λ zeros. absurd (omega (arith, is, zeros));
      enough = λ few. absurd (omega (arith, is, few));
    }

pub gave_rested : {stamp : Option ℕ} {old new : HttpConn} {n m : ℕ} {b d : Option (List Item)} → Gave (SomeRounds stamp) old n b new m d → TellsMore new false
    → Gave (RoundsOn stamp) old n b new m d
gave_rested {stamp} {old} {new} {n} {m} {b} {d} g rests = gave_as all (gave_then g (gave_nothing new))
  where
    none_of : (turns : ℕ) (moves : List Move) (mid : HttpConn) → Rounds turns stamp old n moves mid → turns ≡ 0 → mid ≡ old
    none_of zero moves mid r e = r.same
    none_of (suc turns) moves mid r e = absurd (cc)

    all : (moves : List Move) → Then (SomeRounds stamp) Nothing old n moves new → RoundsOn stamp old n moves new
    all moves t = record {
      turns = t.first.0;
      does = record { mid = t.mid; sooner = t.sooner; later = t.later; are = t.are; first = t.first.1; second = the_one t.second };
      rests = rests;
      none = λ zeros. t.second.same ∙ none_of t.first.0 t.sooner t.mid t.first.1 zeros;
      enough = λ few. t.second.same;
    }

-- ---- memory runs out

-- no room was found for a Feed, and then this was done
pub gave_lost_and : {A B : Deed} {old mid lost new : HttpConn} {n m : ℕ} {a b d : Option (List Item)} → mid ≡ old → Adds a [] b → Feeds old.run → lost ≡ losing mid
    → Gave B lost n b new m d → Gave (Or A (Then (Part LosesFeed) B)) old n a new m d
gave_lost_and {A} {B} {old} {mid} {lost} {new} {n} {m} {a} {b} {d} same none feeds is g =
    let losing_is : lost ≡ losing old = is ∙ ap losing same in
    let kept : Kept old lost = subst (λ (conn : HttpConn). Kept old conn) (sym losing_is) (losing_kept old) in
    let first : Gave (Part LosesFeed) old n a lost n b =
    gave_part (gave_still (kept_turned kept (λ i. record { none = refl; v = feeds.v; run = feeds.run_is; due = feeds.due; is = losing_is })) none) in
    gave_as (λ moves t. the_other t) (gave_then first g)

-- what is due for a child that was given up finds room
pub must_have_acted : (mid lost : HttpConn) → lost ≡ losing mid → (acted : Bool) → (acted ≡ false → Feeds lost.run) → acted ≡ true
must_have_acted mid lost is true h = refl
must_have_acted mid lost is false h = absurd (given_up_unfed mid.run (subst (λ (conn : HttpConn). Feeds conn.run) is (h refl)))

-- the script could not be started
pub gave_hop_lost : {old mid new : HttpConn} {n : ℕ} {b : Option (List Item)} (stage : Stage) (leg : Leg) (launch : Launch) (body : List ℕ) (whole : Bool)
    → stage ≡ old.stage → stage ≡ Starting leg launch body whole → mid ≡ silenced old → Kept old mid → new ≡ losing mid → Gave GivesHop old n b new n b
gave_hop_lost {old} {mid} {new} {n} {b} stage leg launch body whole taken is rest k lost =
    let at : old.stage ≡ Starting leg launch body whole = sym taken ∙ is in
    let lost_is : new ≡ losing (silenced old) = lost ∙ ap losing rest in
    let up : GivesUp old new = subst (λ (conn : HttpConn). GivesUp old conn) (sym lost_is) (record { is = refl; limits = refl; answered = sym (ap is_answered at) }) in
    let kept : Kept old (silenced old) = subst (λ (conn : HttpConn). Kept old conn) rest k in
    let kept_then : Kept old new = subst (λ (conn : HttpConn). Kept old conn) (sym lost_is) (kept_both kept (losing_kept (silenced old))) in
    gave_as (λ moves p. subst (λ (s : Stage). GivesHopBy s old n moves new) (sym at) (the_other p)) (gave_lost kept_then up (adds_nothing b))
