-- Of a connection that is not live, and whose child is settled, no part of a step does anything.
use Rattle.std.proofs.Common.{◌≡◌, ℕ, ◌&&◌, ◌||◌, Bool, true, false, not, List, [], ◌∷◌, Option, Some, None, is_some, if◌then◌else◌, inl, inr, refl, sym, ap, ◌∙◌, subst}
use Rattle.std.proofs.lemmas.Bool.{false≢true}
use Rattle.host_trace.specs.declared.items.Act.{Act}
use Rattle.host_trace.specs.declared.items.Why.TheVariants as Why
use Rattle.host_base.specs.declared.limits.Limits.{Limits}
use Rattle.child_core.specs.Calls.{is_settled}
use Rattle.child_core.specs.Due.{Path, acted, acting, after}
use Rattle.child_core.specs.View.{View}
use Rattle.child_core.proofs.MemoryLaws.{acting-due}
use Rattle.child_laws.proofs.DueLaws.{due_unsettled}
use Rattle.conn_flags.specs.View.{has_room, is_live}
use Rattle.request_reader.specs.Reader.{IsHeardBy}
use Rattle.request_reader.specs.declared.fault.Fault.{Fault}
use Rattle.request_reader.specs.declared.opened.Opened.{Opened}
use Rattle.request_reader.specs.Request.{is_begun}
use Rattle.request_reader.proofs.RequestLaws.{heard_begun}
use Rattle.exchange_request.specs.declared.incoming.Incoming.{Incoming}
use Rattle.exchange_request.specs.Knows.{is_looked_at, is_ready}
use Rattle.exchange_request.proofs.KnowsLaws.{begun_known, knows_due, unready}
use Rattle.exchange_stage.specs.declared.stage.Stage.{Stage}
use Rattle.exchange_stage.specs.declared.stage.Stage.TheVariants as At
use Rattle.http_conn.specs.HttpConn.{HttpConn}
use Rattle.http_conn.specs.Hears.{TellsBegun}
use Rattle.http_conn.specs.Kept.{is_reading, flags_of}
use Rattle.http_conn.specs.Parts.{Answers, AnswersOn, Closes, Deed, Ends, EndsBy, Handles, LetsOn, LosesTurn, Nothing, Or, Part, ReadsBy, ReadsOn, Rounds, RoundsOn, Serves, ServesBy, ServesChild, ServesOrLoses, ServesRun, Steps, Then, Wants, gives_all, the_one}
use Rattle.http_conn.specs.Reasons.{ends_with, hears_at, or_cut}
use Rattle.http_conn.specs.Settles.{is_over}
use Rattle.http_conn.specs.Slot.{run_settled}
use Rattle.http_conn.specs.Tells.{TellsDone, goes_at}

-- ---- whether a request has begun

reader_begun : (limits : Limits) (fault : Option Fault) (opened : Option Opened) (rest bytes : List ℕ) (taken : ℕ) → IsHeardBy limits fault opened rest bytes taken
    → (is_some opened || is_some fault || is_begun rest) ≡ is_begun bytes
reader_begun limits (Some f) (Some o) rest bytes taken h = heard_begun limits (Some f) (Some o) rest bytes taken h (inl refl)
reader_begun limits (Some f) None rest bytes taken h = heard_begun limits (Some f) None rest bytes taken h (inr refl)
reader_begun limits None (Some o) rest bytes taken h = heard_begun limits None (Some o) rest bytes taken h (inl refl)
reader_begun limits None None rest bytes taken h = ap is_begun h.0

abbrev pub begun_of : Incoming → Bool
begun_of i = is_ready i || (is_some i.reader.opened || is_some i.reader.fault || is_begun i.reader.rest)

pub begun_told : (i : Incoming) → TellsBegun i (begun_of i)
begun_told i bytes taken k two = go (is_ready i) refl
  where
    go : (b : Bool) → is_ready i ≡ b → begun_of i ≡ is_begun bytes
    go true ready =
        ap (λ (b : Bool). b || (is_some i.reader.opened || is_some i.reader.fault || is_begun i.reader.rest)) ready ∙ begun_known i bytes taken k two ready
    go false none =
        ap (λ (b : Bool). b || (is_some i.reader.opened || is_some i.reader.fault || is_begun i.reader.rest)) none
        ∙ reader_begun i.reader.limits i.reader.fault i.reader.opened i.reader.rest bytes 0 (unready i bytes taken none k).heard

-- ---- its child

pub settled_quiet : (may : Bool) (v : View) → (v.started ≡ true → v.refused ≡ false) → is_settled v ≡ true → (acting may v ≡ []) × (acted may v ≡ v)
settled_quiet may v apart settled = go (acting may v) refl (acting-due may v).path (acting-due may v).after_is
  where
    go : (acts : List Act) → acting may v ≡ acts → Path may v acts → after v (acting may v) ≡ acted may v → (acting may v ≡ []) × (acted may v ≡ v)
    go [] is path end = (is, sym end ∙ ap (λ (l : List Act). after v l) is)
    go (a ∷ acts) is path end = absurd (false≢true (sym (due_unsettled may v a apart path.0) ∙ settled))

-- the client ended its input, and no request has begun
abbrev pub done_of : HttpConn → Bool
done_of conn = conn.flags.ended && is_reading conn.stage && not (begun_of conn.request)

pub done_is : (conn : HttpConn) → TellsDone conn (done_of conn)
done_is conn bytes taken two k = ap (λ (b : Bool). conn.flags.ended && is_reading conn.stage && not b) (begun_told conn.request bytes taken k two)

-- ---- parts that do nothing

module _ (conn : HttpConn) (n : ℕ) where
  abbrev pub Idle : Deed → Type 0
  Idle A = A conn n [] conn

  pub nothing : Nothing conn n [] conn
  nothing = record { none = refl; same = refl }

  pub part : (A : Deed) → Idle A → Idle (Part A)
  part A by = record { site = refl; peer_is = refl; flags = refl; leads = λ e k step. (k, tt); by = by }

  pub both : (A B : Deed) → Idle A → Idle B → Idle (Then A B)
  both A B a b = record { mid = conn; sooner = []; later = []; are = refl; first = a; second = b }

-- ---- all parts

module _ (conn : HttpConn) (stamp : Option ℕ) (n : ℕ) (dead : is_live (flags_of conn) ≡ false) (unover : is_over conn ≡ false)
    (still : (v : View) → conn.run ≡ Some v → (acting (has_room conn.flags) v ≡ []) × (acted (has_room conn.flags) v ≡ v)) where
  abbrev done : Bool
  done = done_of conn

  done_told : TellsDone conn done
  done_told = done_is conn

  ends : ends_with conn done ≡ true
  ends =
      ap (λ (b : Bool). not (b && not conn.flags.upgraded) || conn.flags.stopped || conn.flags.gone || conn.lost || conn.idled || conn.closing || conn.closes || is_some conn.cut || done) dead

  reads : Idle conn n ReadsOn
  reads = record { ending = true; tells = record { done = done; tells = done_told; is = sym ends }; by = go (is_reading conn.stage && not (is_looked_at conn.request)) }
    where
      go : (b : Bool) → ReadsBy true b conn n [] conn
      go true = nothing conn n
      go false = nothing conn n

  lets_on : Idle conn n LetsOn
  lets_on = record {
    due = false;
    tells = record {
      done = done;
      tells = done_told;
      awaited = conn.request.due;
      awaits = λ bytes taken k read. knows_due conn.request bytes taken k read;
      is = sym (ap (λ (b : Bool). not b && conn.request.due && not conn.continued) ends);
    };
    by = nothing conn n;
  }

  answers_on : Idle conn n (AnswersOn stamp)
  answers_on = record { ending = true; tells = record { done = done; tells = done_told; is = sym ends }; by = nothing conn n }

  answers : Idle conn n (Answers stamp)
  answers = both conn n (Part ReadsOn) (Then (Part LetsOn) (AnswersOn stamp)) (part conn n ReadsOn reads) (both conn n (Part LetsOn) (AnswersOn stamp) (part conn n LetsOn lets_on) answers_on)

  child : Idle conn n ServesChild
  child = go conn.run refl
    where
      go : (run : Option View) → conn.run ≡ run → ServesBy run conn n [] conn
      go None is = nothing conn n
      go (Some v) is =
          let q = still v is in
          part conn n (ServesRun v) (record { moves_are = sym (ap gives_all q.0); is = ap (λ (r : Option View). record conn { run = r }) (is ∙ ap (λ (w : View). Some w) (sym q.1)) })

  ends_none : Idle conn n Ends
  ends_none = subst (λ (b : Bool). EndsBy b conn n [] conn) (sym unover) (nothing conn n)

  handles : Idle conn n Handles
  handles = both conn n ServesOrLoses (Part Ends) (the_one child) (part conn n Ends ends_none)

  goes_none : (s : Stage) → false ≡ goes_at conn done s
  goes_none At.Reading = sym (ap (λ (b : Bool). not b && not (is_looked_at conn.request)) ends)
  goes_none (At.Refused cause) = sym (ap (λ (b : Bool). not b && run_settled conn.run && has_room conn.flags) ends)
  goes_none (At.Unstarted hop request) = sym (ap (λ (b : Bool). not b && run_settled conn.run && has_room conn.flags) ends)
  goes_none _ = refl

  rounds : Idle conn n (RoundsOn stamp)
  rounds = record {
    turns = 0;
    does = record { mid = conn; sooner = []; later = []; are = refl; first = nothing conn n; second = the_one (nothing conn n) };
    rests = record { done = done; tells = done_told; is = goes_none conn.stage };
    none = λ turns. refl;
    enough = λ few. refl;
  }

  closes : Idle conn n Closes
  closes = record {
    why = None;
    tells = record {
      done = done;
      tells = done_told;
      is = sym (ap (λ (b : Bool).
          if not b then None
          else (if conn.lost then Some Why.NoMemory
          else (if conn.flags.stopped then Some Why.Stopped
          else (if conn.flags.gone then Some Why.Gone
          else or_cut conn.cut (if conn.idled then Some Why.Idle else (if conn.closing || conn.closes || done then Some Why.Done else None)))))) dead);
    };
    by = nothing conn n;
  }

  wants : Idle conn n Wants
  wants = record {
    due = false;
    tells = record {
      done = done;
      tells = done_told;
      is = sym (ap (λ (b : Bool). not b && has_room conn.flags && hears_at conn conn.stage && not conn.flags.asked) ends);
    };
    by = nothing conn n;
  }

  pub quiet_steps : Steps stamp conn n [] conn
  quiet_steps =
      both conn n (Serves stamp) (Then (Part Closes) (Part Wants))
      (both conn n (Answers stamp) (Then Handles (RoundsOn stamp)) answers (both conn n Handles (RoundsOn stamp) handles rounds))
      (both conn n (Part Closes) (Part Wants) (part conn n Closes closes) (part conn n Wants wants))
