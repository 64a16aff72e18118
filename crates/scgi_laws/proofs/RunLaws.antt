-- What the run of a connection's child is told of an event is what the list says of it.
use Rattle.std.proofs.Common.{◌≡◌, ℕ, ◌==◌, ◌||◌, Bool, true, false, List, [], ◌∷◌, ◌++◌, if◌then◌else◌, refl, sym, ap, ◌∙◌, subst}
use Rattle.std.proofs.lemmas.Bool.{eqb-true, false≢true}
use Rattle.std.proofs.lemmas.List.{append-nil}
use Rattle.host_base.specs.declared.limits.Limits.{Limits}
use Rattle.host_trace.specs.declared.items.Event.{Event}
use Rattle.host_trace.specs.declared.items.Event.TheVariants.{Accepted, ChildBroken, ChildBytes, ChildEof, ClientBytes, ClientEof, ClientGone, Exited, InputGone, NoRoom, StartFailed, StartFull, Started, Stop, Tick, Took, Wrote, WsBad, WsBinary, WsClosed, WsText}
use Rattle.host_trace.specs.declared.items.Item.{Item}
use Rattle.host_trace.specs.declared.items.Item.TheVariants.{In}
use Rattle.host_trace.specs.Decider.{is_websocket}
use Rattle.trace_child.specs.Run.{Offer}
use Rattle.child_core.specs.declared.ending.Ending.{Ending}
use Rattle.child_core.specs.declared.ending.Ending.TheVariants.{Dropped, Gone}
use Rattle.child_core.specs.Calls.{ended, fits_run, hearing}
use Rattle.child_core.specs.Knows.{KnowsRun, Offers}
use Rattle.child_core.specs.Tells.{concerns}
use Rattle.child_core.specs.View.{View, noted, plain}
use Rattle.child_core.proofs.CallLaws.{bad-is, gone-is, heard-is, no_room-is}
use Rattle.child_core.proofs.KnowsLaws.{Knows-noted}
use Rattle.child_core.proofs.TellLaws.{noted-other, run-admits}
use Rattle.scgi_conn.specs.Parts.{told_run}
use Rattle.scgi_laws.specs.Runs.{EventsAreTold, IsApt, UnkeptIsTold, setting}

-- ---- what the run makes of an event

by_name : (c d : ℕ) (v w : View) (ending : Ending) → (d ≡ c → w ≡ ended v ending) → ((c == d) ≡ false → w ≡ v) → (if c == d then ended v ending else v) ≡ w
by_name c d v w ending mine other = go (c == d) refl
  where
    go : (b : Bool) → (c == d) ≡ b → (if b then ended v ending else v) ≡ w
    go true is = sym (mine (sym (eqb-true c d is)))
    go false is = sym (other is)

-- an event that names no child, is no Tick, and concerns the connection by `test` alone
told_other : (c : ℕ) (v : View) (ev : Event) → concerns c v.number (In ev) ≡ false → noted c v plain (In ev) ≡ v
told_other c v ev e = noted-other c v (In ev) e

pub told_is : (c : ℕ) (v : View) (ev : Event) → IsApt c ev → told_run c v ev true ≡ noted c v plain (In ev)
told_is c v (Accepted peer) a = sym (told_other c v (Accepted peer) refl)
told_is c v (ClientBytes d bytes) a = sym (told_other c v (ClientBytes d bytes) refl)
told_is c v (ClientEof d) a = sym (told_other c v (ClientEof d) (ap (λ (b : Bool). b || false || false) a))
told_is c v (ClientGone d) a =
    by_name c d v (noted c v plain (In (ClientGone d))) Gone (λ is. subst (λ (e : ℕ). noted c v plain (In (ClientGone e)) ≡ ended v Gone) (sym is) (gone-is c v))
    (λ e. told_other c v (ClientGone d) (ap (λ (b : Bool). b || false || false || false || false || false) e))
told_is c v (Wrote d n) a = sym (told_other c v (Wrote d n) refl)
told_is c v (Started k) a = heard-is c v (Started k) true refl
told_is c v (StartFailed k) a = heard-is c v (StartFailed k) true refl
told_is c v (StartFull k seen) a = heard-is c v (StartFull k seen) true refl
told_is c v (ChildBytes k bytes) a = heard-is c v (ChildBytes k bytes) true refl
told_is c v (ChildEof k) a = heard-is c v (ChildEof k) true refl
told_is c v (ChildBroken k) a = heard-is c v (ChildBroken k) true refl
told_is c v (Took k n) a = heard-is c v (Took k n) true refl
told_is c v (InputGone k) a = heard-is c v (InputGone k) true refl
told_is c v (Exited k) a = heard-is c v (Exited k) true refl
told_is c v (WsText d bytes) a = sym (told_other c v (WsText d bytes) refl)
told_is c v (WsBinary d) a = sym (told_other c v (WsBinary d) (ap (λ (b : Bool). b || false || false || false) a))
told_is c v (WsClosed d) a = sym (told_other c v (WsClosed d) (ap (λ (b : Bool). b || false) a))
told_is c v (WsBad d) a =
    by_name c d v (noted c v plain (In (WsBad d))) Gone (λ is. subst (λ (e : ℕ). noted c v plain (In (WsBad e)) ≡ ended v Gone) (sym is) (bad-is c v))
    (λ e. told_other c v (WsBad d) (ap (λ (b : Bool). b || false || false || false || false) e))
told_is c v (NoRoom d) a =
    by_name c d v (noted c v plain (In (NoRoom d))) Dropped (λ is. subst (λ (e : ℕ). noted c v plain (In (NoRoom e)) ≡ ended v Dropped) (sym is) (no_room-is c v))
    (λ e. told_other c v (NoRoom d) (ap (λ (b : Bool). b || false || false) e))
told_is c v (Tick secs) a = heard-is c v (Tick secs) true refl
told_is c v Stop a = heard-is c v Stop true refl

-- ---- what the list says

pub offers : (c : ℕ) (limits : Limits) (offer : Offer) (v : View) (L : List Item) (found : Bool) (x : Item) → is_websocket v.kind ≡ false → Offers (setting c limits offer) v L (hearing found) x
offers c limits offer v L found x plain_kind = record {
  refused = λ talks. absurd (false≢true (sym plain_kind ∙ talks));
  body = sym (append-nil offer.body);
  whole = λ k. refl;
  done = λ k w. refl;
  talk = λ talks. absurd (false≢true (sym plain_kind ∙ talks));
}

known : (c : ℕ) (limits : Limits) (offer : Offer) (v : View) (L : List Item) (ev : Event) (found : Bool) → is_websocket v.kind ≡ false → KnowsRun false (setting c limits offer) v L
    → fits_run v ev ≡ true → KnowsRun false (setting c limits offer) (noted c v (hearing found) (In ev)) (L ++ In ev ∷ [])
known c limits offer v L ev found plain_kind k fit =
    Knows-noted false (setting c limits offer) v L (hearing found) (In ev) k
    (run-admits false (setting c limits offer) v L (hearing found) ev k fit (offers c limits offer v L found (In ev) plain_kind))

pub events_are_told : EventsAreTold
events_are_told c limits offer v L ev plain_kind k fit apt =
    subst (λ (u : View). KnowsRun false (setting c limits offer) u (L ++ In ev ∷ [])) (sym (told_is c v ev apt)) (known c limits offer v L ev true plain_kind k fit)

pub unkept_is_told : UnkeptIsTold
unkept_is_told c limits offer v L (ChildBytes k bytes) plain_kind knows fit kept =
    subst (λ (u : View). KnowsRun false (setting c limits offer) u (L ++ In (ChildBytes k bytes) ∷ [])) (sym (heard-is c v (ChildBytes k bytes) false refl))
    (known c limits offer v L (ChildBytes k bytes) false plain_kind knows fit)
unkept_is_told c limits offer v L _ plain_kind knows fit kept = absurd (false≢true kept)
