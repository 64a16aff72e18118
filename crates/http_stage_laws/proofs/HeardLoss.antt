-- An event between two steps, where memory ran out, leads to what is known then.
use Rattle.std.proofs.Common.{◌≡◌, ℕ, ◌==◌, Bool, true, false, List, refl, sym, ap, ◌∙◌, subst, inl, inr}
use Rattle.std.proofs.lemmas.Bool.{cases_Bool, false≢true}
use Rattle.host_trace.specs.declared.items.Event.{Event}
use Rattle.host_trace.specs.declared.items.Event.TheVariants.{Accepted, ClientBytes, ClientEof, ClientGone, Wrote, Started, StartFailed, StartFull, ChildBytes, ChildEof, ChildBroken, Took, InputGone, Exited, WsText, WsBinary, WsClosed, WsBad, NoRoom, Tick, Stop}
use Rattle.host_trace.specs.declared.items.Item.{Item}
use Rattle.host_trace.specs.declared.items.Item.TheVariants.{In}
use Rattle.conn_flags.specs.View.{noted}
use Rattle.trace_model.specs.Exchange.{Exchange}
use Rattle.trace_model.specs.Legs.{Leg as StartedLeg}
use Rattle.exchange_request.specs.Knows.{is_taken}
use Rattle.http_conn.specs.HttpConn.{HttpConn}
use Rattle.http_conn.specs.Hears.{Goes, HearsBytes, HearsEnd, HearsOwn, Loses, keeps_of, told_run}
use Rattle.http_conn.specs.Kept.{number_of}
use Rattle.http_conn.specs.Moves.{ticked_stage}
use Rattle.http_conn.specs.Slot.{run_settled}
use Rattle.http_stage_laws.specs.HeardStages.{AtRest, EventsLose, HeardLost, Rested}
use Rattle.http_stage_laws.proofs.HeardLaws.{elsewhere, here, mine_is, told}
use Rattle.http_stage_laws.proofs.HeardLosses.{FitsIn, bytes_lost, end_lost, no_output, no_room, ticks_lost, unkept, when_lost}

module _ (old : HttpConn) (L : List Item) (e : Exchange) (legs : List StartedLeg) (next : ℕ) (rest : AtRest old L e legs next) (found : old.lost ≡ false) (rested : Rested old e legs) where
  abbrev Lost : Event → HttpConn → Type 0
  Lost ev mid = HeardLost old mid e ev legs

  abbrev Owns : Event → HttpConn → Type 0
  Owns ev mid = HearsOwn ev (told old L e legs next rest found rested ev) mid

  abbrev Fits : Event → Type 0
  Fits ev = FitsIn old L e legs next rest found rested ev

  -- memory can't be wanting where it wasn't and isn't lost
  never : (ev : Event) (mid : HttpConn) → mid.lost ≡ true → mid.lost ≡ old.lost → Lost ev mid
  never ev mid lost same = absurd (false≢true (sym found ∙ (sym same ∙ lost)))

  bytes_by : (d : ℕ) (bytes : List ℕ) → Fits (ClientBytes d bytes) → (mid : HttpConn) → mid.lost ≡ true → Owns (ClientBytes d bytes) mid → Lost (ClientBytes d bytes) mid
  bytes_by d bytes fits mid lost own =
      elim (cases_Bool (number_of old == d)) [
        | inl mine ↦ subst (λ (k : ℕ). Fits (ClientBytes k bytes) → Owns (ClientBytes k bytes) mid → Lost (ClientBytes k bytes) mid) (sym (mine_is old L e legs next rest found rested d mine))
            (λ f o. bytes_lost old L e legs next rest found rested bytes f mid lost
            (here old L e legs next rest found rested (HearsBytes bytes) (number_of old) (told old L e legs next rest found rested (ClientBytes (number_of old) bytes)) mid
            (subst (λ (k : ℕ). (number_of old == k) ≡ true) (mine_is old L e legs next rest found rested d mine) mine) o)) fits own
        | inr other ↦ never (ClientBytes d bytes) mid lost
            (ap (λ (conn : HttpConn). conn.lost) (elsewhere old L e legs next rest found rested (HearsBytes bytes) d (told old L e legs next rest found rested (ClientBytes d bytes)) mid other own))
      ]

  room_by : (d : ℕ) → Fits (NoRoom d) → (mid : HttpConn) → mid.lost ≡ true → Owns (NoRoom d) mid → Lost (NoRoom d) mid
  room_by d fits mid lost own =
      elim (cases_Bool (number_of old == d)) [
        | inl mine ↦ no_room old L e legs next rest found rested d fits mid mine
            (here old L e legs next rest found rested Loses d (told old L e legs next rest found rested (NoRoom d)) mid mine own)
        | inr other ↦ never (NoRoom d) mid lost
            (ap (λ (conn : HttpConn). conn.lost) (elsewhere old L e legs next rest found rested Loses d (told old L e legs next rest found rested (NoRoom d)) mid other own))
      ]

  event_lost : (ev : Event) → Fits ev → (mid : HttpConn) → mid.lost ≡ true → Owns ev mid → Lost ev mid
  event_lost (ClientBytes d bytes) fits mid lost own = bytes_by d bytes fits mid lost own
  event_lost (NoRoom d) fits mid lost own = room_by d fits mid lost own
  event_lost (ClientEof d) fits mid lost own =
      never (ClientEof d) mid lost (when_lost HearsEnd (number_of old == d) (told old L e legs next rest found rested (ClientEof d)) mid
      (λ new h. end_lost (is_taken old.request) (told old L e legs next rest found rested (ClientEof d)) new h) own)
  event_lost (ClientGone d) fits mid lost own =
      never (ClientGone d) mid lost (when_lost Goes (number_of old == d) (told old L e legs next rest found rested (ClientGone d)) mid (λ new h. ap (λ (conn : HttpConn). conn.lost) h) own)
  event_lost (WsBad d) fits mid lost own =
      never (WsBad d) mid lost (when_lost Goes (number_of old == d) (told old L e legs next rest found rested (WsBad d)) mid (λ new h. ap (λ (conn : HttpConn). conn.lost) h) own)
  event_lost (Tick secs) fits mid lost own =
      never (Tick secs) mid lost (ticks_lost (run_settled (told old L e legs next rest found rested (Tick secs)).run) (record (told old L e legs next rest found rested (Tick secs)) { stage = ticked_stage old.stage }) mid own)
  event_lost (Accepted peer) fits mid lost own = never (Accepted peer) mid lost (ap (λ (conn : HttpConn). conn.lost) own)
  event_lost (WsBinary d) fits mid lost own = never (WsBinary d) mid lost (ap (λ (conn : HttpConn). conn.lost) own)
  event_lost (Wrote d n) fits mid lost own = never (Wrote d n) mid lost (ap (λ (conn : HttpConn). conn.lost) own)
  event_lost (Started k) fits mid lost own = never (Started k) mid lost (ap (λ (conn : HttpConn). conn.lost) own)
  event_lost (StartFailed k) fits mid lost own = never (StartFailed k) mid lost (ap (λ (conn : HttpConn). conn.lost) own)
  event_lost (StartFull k seen) fits mid lost own = never (StartFull k seen) mid lost (ap (λ (conn : HttpConn). conn.lost) own)
  event_lost (ChildBytes k bytes) fits mid lost own = never (ChildBytes k bytes) mid lost (ap (λ (conn : HttpConn). conn.lost) own)
  event_lost (ChildEof k) fits mid lost own = never (ChildEof k) mid lost (ap (λ (conn : HttpConn). conn.lost) own)
  event_lost (ChildBroken k) fits mid lost own = never (ChildBroken k) mid lost (ap (λ (conn : HttpConn). conn.lost) own)
  event_lost (Took k n) fits mid lost own = never (Took k n) mid lost (ap (λ (conn : HttpConn). conn.lost) own)
  event_lost (InputGone k) fits mid lost own = never (InputGone k) mid lost (ap (λ (conn : HttpConn). conn.lost) own)
  event_lost (Exited k) fits mid lost own = never (Exited k) mid lost (ap (λ (conn : HttpConn). conn.lost) own)
  event_lost (WsText d bytes) fits mid lost own = never (WsText d bytes) mid lost (ap (λ (conn : HttpConn). conn.lost) own)
  event_lost (WsClosed d) fits mid lost own = never (WsClosed d) mid lost (ap (λ (conn : HttpConn). conn.lost) own)
  event_lost Stop fits mid lost own = never Stop mid lost (ap (λ (conn : HttpConn). conn.lost) own)

  -- no room was found for output
  output_lost : (ev : Event) → Fits ev → (mid : HttpConn) → keeps_of old.run ev ≡ true → HearsOwn ev (told_run ev false (record old { flags = noted old.flags (In ev) })) mid → Lost ev mid
  output_lost (ChildBytes k bytes) fits mid keeps own = no_output old L e legs next rest found rested k bytes fits mid own
  output_lost (Accepted peer) fits mid keeps own = absurd (unkept old.run (Accepted peer) (λ v. refl) keeps)
  output_lost (ClientBytes d bytes) fits mid keeps own = absurd (unkept old.run (ClientBytes d bytes) (λ v. refl) keeps)
  output_lost (ClientEof d) fits mid keeps own = absurd (unkept old.run (ClientEof d) (λ v. refl) keeps)
  output_lost (ClientGone d) fits mid keeps own = absurd (unkept old.run (ClientGone d) (λ v. refl) keeps)
  output_lost (WsBad d) fits mid keeps own = absurd (unkept old.run (WsBad d) (λ v. refl) keeps)
  output_lost (NoRoom d) fits mid keeps own = absurd (unkept old.run (NoRoom d) (λ v. refl) keeps)
  output_lost (Tick secs) fits mid keeps own = absurd (unkept old.run (Tick secs) (λ v. refl) keeps)
  output_lost (WsBinary d) fits mid keeps own = absurd (unkept old.run (WsBinary d) (λ v. refl) keeps)
  output_lost (Wrote d n) fits mid keeps own = absurd (unkept old.run (Wrote d n) (λ v. refl) keeps)
  output_lost (Started k) fits mid keeps own = absurd (unkept old.run (Started k) (λ v. refl) keeps)
  output_lost (StartFailed k) fits mid keeps own = absurd (unkept old.run (StartFailed k) (λ v. refl) keeps)
  output_lost (StartFull k seen) fits mid keeps own = absurd (unkept old.run (StartFull k seen) (λ v. refl) keeps)
  output_lost (ChildEof k) fits mid keeps own = absurd (unkept old.run (ChildEof k) (λ v. refl) keeps)
  output_lost (ChildBroken k) fits mid keeps own = absurd (unkept old.run (ChildBroken k) (λ v. refl) keeps)
  output_lost (Took k n) fits mid keeps own = absurd (unkept old.run (Took k n) (λ v. refl) keeps)
  output_lost (InputGone k) fits mid keeps own = absurd (unkept old.run (InputGone k) (λ v. refl) keeps)
  output_lost (Exited k) fits mid keeps own = absurd (unkept old.run (Exited k) (λ v. refl) keeps)
  output_lost (WsText d bytes) fits mid keeps own = absurd (unkept old.run (WsText d bytes) (λ v. refl) keeps)
  output_lost (WsClosed d) fits mid keeps own = absurd (unkept old.run (WsClosed d) (λ v. refl) keeps)
  output_lost Stop fits mid keeps own = absurd (unkept old.run Stop (λ v. refl) keeps)

  pub lost_by_room : (ev : Event) → Fits ev → (b : Bool) → (b ≡ false → keeps_of old.run ev ≡ true) → (mid : HttpConn) → mid.lost ≡ true
      → HearsOwn ev (told_run ev b (record old { flags = noted old.flags (In ev) })) mid → Lost ev mid
  lost_by_room ev fits true memory mid lost own = event_lost ev fits mid lost own
  lost_by_room ev fits false memory mid lost own = output_lost ev fits mid (memory refl) own

pub events_lose : EventsLose
events_lose old new L e legs next ev rest fits found h lost = lost_by_room old L e legs next rest found (rest.found found) ev fits h.found h.memory h.mid lost h.own
