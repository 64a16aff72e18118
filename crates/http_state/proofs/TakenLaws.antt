-- What was taken out of a connection, to make something ready of it.
use Rattle.std.proofs.Common.{◌≡◌, ℕ, true, false, List, Option, Some, None, Ok, refl, sym, ap, ◌∙◌, subst, IfSome}
use Rattle.exchange_stage.specs.declared.stage.Leg.{Leg}
use Rattle.exchange_stage.specs.declared.stage.Stage.{Stage}
use Rattle.exchange_stage.specs.declared.stage.Stage.TheVariants.{Running, Unstarted}
use Rattle.http_state.specs.declared.conn.HttpConn.{HttpConn}
use Rattle.http_state.specs.Begins.{silenced, Launches, IsWelcome}
use Rattle.http_state.specs.Kept.{site_of}
use Rattle.http_state.specs.Moves.{losing}
use Rattle.http_state.specs.Deeds.{GivesUp}
use Rattle.http_state.specs.Settles.{is_answered}
use Rattle.host_base.specs.declared.request.Request.{Request}
use Rattle.host_base.specs.declared.site.Mapped.{Mapped}
use Rattle.host_base.specs.declared.site.ScriptKind.TheVariants.{WebSocket}
use Rattle.ws_handshake.specs.Handshake.{accept_text, handshake}
use Rattle.trace_model.specs.Places.{kind_of, origins_of}
use Rattle.http_state.specs.declared.begin.Welcome.{Welcome}

-- ---- memory ran out

pub given_up : {old new : HttpConn} → new ≡ losing old → GivesUp old new
given_up {old} {new} is = subst (λ (conn : HttpConn). GivesUp old conn) (sym is) (record { is = refl; limits = refl; answered = refl })

-- memory ran out: what was taken out stays out
pub given_up_from : {old new : HttpConn} → is_answered old.stage ≡ false → GivesUp (silenced old) new → GivesUp old new
given_up_from {old} {new} unanswered up = record { is = up.is; limits = up.limits; answered = up.answered ∙ sym unanswered }

pub given_up_taken : {old mid new : HttpConn} (stage : Stage) → stage ≡ old.stage → is_answered stage ≡ false → mid ≡ silenced old
    → (mid.lost ≡ false → new.lost ≡ true → GivesUp mid new) → old.lost ≡ false → new.lost ≡ true → GivesUp old new
given_up_taken {old} {mid} {new} stage taken unanswered rest up found lost =
    given_up_from (sym (ap is_answered taken) ∙ unanswered)
    (subst (λ (conn : HttpConn). GivesUp conn new) rest (up (ap (λ (conn : HttpConn). conn.lost) rest ∙ found) lost))

pub same_leg : {a b : Leg} → Running a ≡ Running b → a ≡ b
same_leg e = cc

-- ---- a handshake is accepted

-- by what its function says of what it answers
pub welcome_by : (hop : ℕ) (request : Request) (mapped : Mapped) (old new : HttpConn) (value : List ℕ) (found : Option Welcome) → kind_of (site_of old) mapped ≡ WebSocket
    → handshake request (origins_of (site_of old) mapped) ≡ Ok value → IfSome found (λ (welcome : Welcome). new ≡ record old { stage = Unstarted hop request })
    → IfSome found (λ (welcome : Welcome). welcome.text ≡ accept_text value) → IfSome found (λ (welcome : Welcome). Launches old request mapped welcome.launch)
    → IfSome found (λ (welcome : Welcome). IsWelcome hop request mapped welcome old new)
welcome_by hop request mapped old new value None kind taken is text launches = tt
welcome_by hop request mapped old new value (Some welcome) kind taken is text launches = record { value = value; kind = kind; taken = taken; text_is = text; launches = launches; is = is }
