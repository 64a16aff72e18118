-- How a handshake comes to be accepted.
use Rattle.std.proofs.Common.{◌≡◌, ℕ, Bool, true, false, not, ◌&&◌, List, [], ◌∷◌, Option, Some, None, IfSome, is_some, refl, sym, ap, ◌∙◌, subst}
use Rattle.std.proofs.lemmas.Bool.{false≢true}
use Rattle.host_base.specs.declared.launch.Launch.{Launch}
use Rattle.host_trace.specs.declared.items.Item.{Item}
use Rattle.trace_child.specs.Words.{is_filled}
use Rattle.conn_flags.specs.View.{View as Flags, has_room, may_write}
use Rattle.conn_flags.specs.Form.{may_start}
use Rattle.exchange_stage.specs.declared.stage.Stage.{Stage}
use Rattle.conn_laws.specs.Moves.{Move}
use Rattle.http_state.specs.declared.conn.HttpConn.{HttpConn}
use Rattle.http_state.specs.declared.begin.Welcome.{Welcome}
use Rattle.http_conn.specs.declared.serve.Turns.{Turns}
use Rattle.http_state.specs.Kept.{Gave}
use Rattle.http_state.specs.Deeds.{Deed, Part, Then, gives_all, the_other}
use Rattle.http_conn.specs.Parts.{Answers, LosesHop, Rounds}
use Rattle.http_state.specs.Ready.{waits_at}
use Rattle.http_state.specs.Tells.{TellsMore, TellsTurn}
use Rattle.http_state.specs.Begins.{ReadiesWelcome}
use Rattle.http_conn.specs.Welcomes.{Accepts, BeginsOr, GreetsAfter, GreetsRound, RoundsOr}
use Rattle.http_conn.specs.Writes.{acts_written, wrote}
use Rattle.http_conn.proofs.GaveLaws.{Wrote, gave_as, gave_part, gave_then}
use Rattle.http_state.proofs.TakenLaws.{given_up}

-- ---- what is made ready

-- the connection is as it was
pub readied_same : {welcome : Welcome} {old new : HttpConn} → ReadiesWelcome welcome old new → new ≡ old
readied_same {welcome} {old} {new} r = r.places.is_welcome.is ∙ ap (λ (s : Stage). record old { stage = s }) (sym r.stage_is)

-- ---- what is done

module _ (old : HttpConn) (n : ℕ) (welcome : Welcome) (r : ReadiesWelcome welcome old old) (turn : TellsTurn old true) where
  accepts : {new : HttpConn} (moves : List Move) → Wrote welcome.text true old n moves new → Accepts welcome.launch old n moves new
  accepts {new} moves w = record {
    turn = turn;
    hop = r.hop;
    request = r.request;
    mapped = r.places.mapped;
    value = r.places.is_welcome.value;
    stage_is = r.stage_is;
    place = r.places.place;
    kind = r.places.is_welcome.kind;
    taken = r.places.is_welcome.taken;
    launches = record {
      peer = r.places.is_welcome.launches.peer;
      peer_is = r.places.is_welcome.launches.peer_is;
      launch_is = r.places.is_welcome.launches.launch_is;
    };
    moves_are = w.moves_are ∙ ap (λ (t : List ℕ). gives_all (acts_written old.flags.c t true)) r.places.is_welcome.text_is;
    is = w.is ∙ ap (λ (t : List ℕ). wrote t true old) r.places.is_welcome.text_is;
  }

  misses : {new : HttpConn} (text : List ℕ) → is_filled text ≡ true → (moves : List Move) → Wrote text false old n moves new → LosesHop old n moves new
  misses [] none moves w = absurd (false≢true none)
  misses (byte ∷ bytes) some moves w = record { loses = record { none = w.moves_are; gives_up = given_up w.is }; waits = ap waits_at r.stage_is }

  -- the accept text was written, or there was no room for it
  pub gave_greeting : {new : HttpConn} {b d : Option (List Item)} (found : Option Launch) → IfSome found (λ (launch : Launch). launch ≡ welcome.launch)
      → (found ≡ None → is_filled welcome.text ≡ true) → (stamp : Option ℕ) → Gave (Wrote welcome.text (is_some found)) old n b new n d
      → Gave (BeginsOr found stamp) old n b new n d
  gave_greeting {new} {b} {d} None is filled stamp g =
      gave_as (λ moves p. record { turn = true; tells = turn; by = the_other p }) (gave_part (gave_as (misses welcome.text (filled refl)) g))
  gave_greeting {new} {b} {d} (Some launch) is filled stamp g =
      gave_part (gave_as (λ moves w. subst (λ (l : Launch). Accepts l old n moves new) (sym is) (accepts moves w)) g)

-- ---- rounds

pub gave_greeted : {stamp : Option ℕ} {old mid new : HttpConn} {n m l : ℕ} {a b d : Option (List Item)} (launch : Launch) (turns : ℕ) → Gave (Rounds turns stamp) old n a mid m b
    → TellsMore mid true → Gave (Then (Answers stamp) (Part (Accepts launch))) mid m b new l d → Gave (GreetsAfter launch stamp) old n a new l d
gave_greeted {stamp} {old} {mid} {new} {n} {m} {l} {a} {b} {d} launch turns g on h = gave_as counted (gave_then g (gave_as round h))
  where
    round : (moves : List Move) → Then (Answers stamp) (Part (Accepts launch)) mid m moves new → GreetsRound launch stamp mid m moves new
    round moves t = record { more = on; does = t }

    counted : (moves : List Move) → Then (Rounds turns stamp) (GreetsRound launch stamp) old n moves new → GreetsAfter launch stamp old n moves new
    counted moves t = (turns, t)

-- where a script may be started the accept text may be written
pub start_writes : (m : Flags) → may_start m ≡ true → may_write m ≡ true
start_writes m e = and_parts (may_write m) (has_room m) (and_parts (may_write m && has_room m) (not m.stopped) e)
  where
    and_parts : (a b : Bool) → (a && b) ≡ true → a ≡ true
    and_parts true b e = refl
    and_parts false b e = e

-- by what was answered
pub begun_as : {stamp : Option ℕ} {old new : HttpConn} {n m : ℕ} {b d : Option (List Item)} {found other : Option Launch} → found ≡ other
    → Gave (Then (Answers stamp) (BeginsOr found stamp)) old n b new m d → Gave (Then (Answers stamp) (BeginsOr other stamp)) old n b new m d
begun_as {stamp} {old} {new} {n} {m} {b} {d} {found} {other} is g = subst (λ (f : Option Launch). Gave (Then (Answers stamp) (BeginsOr f stamp)) old n b new m d) is g

pub rounds_as : (most : ℕ) (stamp : Option ℕ) {old new : HttpConn} {n m : ℕ} {b d : Option (List Item)} {turns other : Turns} → turns ≡ other
    → Gave (RoundsOr turns most stamp) old n b new m d → Gave (RoundsOr other most stamp) old n b new m d
rounds_as most stamp {old} {new} {n} {m} {b} {d} {turns} {other} is g = subst (λ (t : Turns). Gave (RoundsOr t most stamp) old n b new m d) is g

pub none_of : {found : Option Launch} → ((launch : Launch) → found ≡ Some launch → ⊥) → found ≡ None
none_of {found} never = go found never
  where
    go : (f : Option Launch) → ((launch : Launch) → f ≡ Some launch → ⊥) → f ≡ None
    go None n = refl
    go (Some launch) n = absurd (n launch refl)

pub gave_where : {A : Deed} {old new other : HttpConn} {n m k : ℕ} {b d f : Option (List Item)} → new ≡ other → m ≡ k → d ≡ f → Gave A old n b other k f → Gave A old n b new m d
gave_where {A} {old} {new} {other} {n} {m} {k} {b} {d} {f} conn_is number_is told_is g =
    subst (λ (x : HttpConn). Gave A old n b x m d) (sym conn_is)
    (subst (λ (x : ℕ). Gave A old n b other x d) (sym number_is) (subst (λ (x : Option (List Item)). Gave A old n b other k x) (sym told_is) g))
