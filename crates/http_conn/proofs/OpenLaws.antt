-- How a connection comes to speak WebSocket.
use Rattle.std.proofs.Common.{◌≡◌, ℕ, Bool, true, false, not, ◌||◌, ◌&&◌, List, [], ◌∷◌, Option, Some, None, is_some, refl, sym, ap, ◌∙◌, subst}
use Rattle.std.proofs.lemmas.Bool.{false≢true}
use Rattle.host_base.specs.declared.launch.Launch.{Launch}
use Rattle.host_trace.specs.declared.items.Act.TheVariants.{Shut}
use Rattle.host_trace.specs.declared.items.Event.{Event}
use Rattle.host_trace.specs.declared.items.Item.{Item}
use Rattle.host_trace.specs.declared.items.Why.TheVariants.{NoMemory}
use Rattle.host_trace.specs.Told.{Adds}
use Rattle.host_trace.proofs.AddsLaws.{Adds-trans}
use Rattle.ws_handshake.specs.Handshake.{accept_text}
use Rattle.conn_flags.specs.View.{has_room, is_live, may_write}
use Rattle.talk_conn.specs.declared.conn.TalkConn.{TalkConn}
use Rattle.conn_laws.specs.Moves.{Move}
use Rattle.http_state.specs.declared.conn.HttpConn.{HttpConn}
use Rattle.http_state.specs.Kept.{Gave}
use Rattle.http_conn.specs.Opens.{IsRestOf, Missed, Misses, Opened, OpensOr, acts_upgraded, missed, upgraded_by}
use Rattle.http_state.specs.Reasons.{ends_with}
use Rattle.http_state.specs.Slot.{run_settled}
use Rattle.http_conn.specs.Step.{SteppedBy}
use Rattle.http_state.specs.Tells.{TellsTurn}
use Rattle.http_conn.specs.Welcomes.{Accepts, Greets, ServesOr}
use Rattle.http_conn.specs.Writes.{wrote}

-- ---- memory runs out

pub missed_by : {old mid new : HttpConn} {n m : ℕ} {a b d f : Option (List Item)} (rest : List ℕ) (found : Bool) → (found ≡ true → IsRestOf old rest) → mid ≡ upgraded_by rest found old
    → Adds a (acts_upgraded old.flags.c rest found) b → Adds b [] d → m ≡ n
    → Adds d (Shut mid.flags.c NoMemory ∷ []) f → new ≡ missed [] mid → Misses old n a new m f
missed_by {old} {mid} {new} {n} {m} {a} {b} {d} {f} rest found rest_is mid_is upgraded none next shut is = record {
  rest = rest;
  upgraded = found;
  rest_is = rest_is;
  told = Adds-trans upgraded (Adds-trans none (subst (λ (c : ℕ). Adds d (Shut c NoMemory ∷ []) f) (ap (λ (x : HttpConn). x.flags.c) mid_is ∙ same_number found) shut));
  next = next;
  is = is ∙ (ap (λ (x : HttpConn). missed [] x) mid_is ∙ same found);
}
  where
    same_number : (b : Bool) → (upgraded_by rest b old).flags.c ≡ old.flags.c
    same_number true = refl
    same_number false = refl

    same : (b : Bool) → missed [] (upgraded_by rest b old) ≡ missed (acts_upgraded old.flags.c rest b) old
    same true = refl
    same false = refl

-- ---- a step

pub opened : {old conn : HttpConn} {ev : Event} {stamp : Option ℕ} {n k : ℕ} {b t : Option (List Item)} (new : HttpConn) (m : ℕ) (d : Option (List Item)) (launch : Launch) {found : Option TalkConn} (talk : TalkConn)
    → found ≡ Some talk → SteppedBy (Greets launch stamp) old ev n b conn k t → OpensOr found launch conn k t new m d → Opened old ev stamp n b talk m d
opened {old} {conn} {ev} {stamp} {n} {k} {b} {t} new m d launch {found} talk is s o =
    record { launch = launch; conn = conn; k = k; then_told = t; greets = s; opens = subst (λ (f : Option TalkConn). OpensOr f launch conn k t new m d) is o }

pub missed_then : {old conn : HttpConn} {ev : Event} {stamp : Option ℕ} {n k : ℕ} {b t : Option (List Item)} (new : HttpConn) (m : ℕ) (d : Option (List Item)) (launch : Launch) {found : Option TalkConn}
    → found ≡ None → SteppedBy (Greets launch stamp) old ev n b conn k t → OpensOr found launch conn k t new m d → Missed old ev stamp n b new m d
missed_then {old} {conn} {ev} {stamp} {n} {k} {b} {t} new m d launch {found} is s o =
    record { launch = launch; conn = conn; k = k; then_told = t; greets = s; misses = subst (λ (f : Option TalkConn). OpensOr f launch conn k t new m d) is o }

pub served_as : (stamp : Option ℕ) {old new : HttpConn} {n m : ℕ} {b d : Option (List Item)} {found other : Option Launch} → found ≡ other → Gave (ServesOr found stamp) old n b new m d
    → Gave (ServesOr other stamp) old n b new m d
served_as stamp {old} {new} {n} {m} {b} {d} {found} {other} is g = subst (λ (f : Option Launch). Gave (ServesOr f stamp) old n b new m d) is g

-- ---- a handshake is accepted on a live connection

first_false : (w s g l i c k x d : Bool) → (w || s || g || l || i || c || k || x || d) ≡ false → w ≡ false
first_false true s g l i c k x d e = absurd (false≢true (sym e))
first_false false s g l i c k x d e = refl

and_first : (a b : Bool) → (a && b) ≡ true → a ≡ true
and_first true b e = refl
and_first false b e = e

not_false : (a : Bool) → not a ≡ false → a ≡ true
not_false true e = refl
not_false false e = absurd (false≢true (sym e))

not_true : (a : Bool) → not a ≡ true → a ≡ false
not_true false e = refl
not_true true e = absurd (false≢true e)

turn_live : (conn : HttpConn) → TellsTurn conn true → is_live conn.flags ≡ true
turn_live conn t =
    let room = and_first (not (ends_with conn t.done) && run_settled conn.run) (has_room conn.flags) (sym t.is) in
    let on = not_true (ends_with conn t.done) (and_first (not (ends_with conn t.done)) (run_settled conn.run) room) in
    let writes = not_false (may_write conn.flags)
    (first_false (not (may_write conn.flags)) conn.flags.stopped conn.flags.gone conn.lost conn.idled conn.closing conn.closes (is_some conn.cut) t.done on) in
    and_first (is_live conn.flags) (not conn.flags.upgraded) writes

wrote_live : (text : List ℕ) (conn : HttpConn) → is_live (wrote text true conn).flags ≡ is_live conn.flags
wrote_live [] conn = refl
wrote_live (byte ∷ bytes) conn = refl

pub accepted_live : {launch : Launch} {old new : HttpConn} {n : ℕ} {moves : List Move} → Accepts launch old n moves new → is_live new.flags ≡ true
accepted_live {launch} {old} {new} a =
    ap (λ (x : HttpConn). is_live x.flags) a.is ∙ (wrote_live (accept_text a.value) old ∙ turn_live old a.turn)

pub greeted_live : {stamp : Option ℕ} {old new : HttpConn} {n m : ℕ} {b d : Option (List Item)} (launch : Launch) → Gave (Greets launch stamp) old n b new m d → is_live new.flags ≡ true
greeted_live launch g = accepted_live g.does.second.second.1.second.does.second.by
