-- What the flags say of an event is what the list says.
use Rattle.std.proofs.Common.{◌≡◌, ◌≤◌, ℕ, ◌+◌, Bool, true, false, ◌||◌, ◌&&◌, List, refl, sym, ◌∙◌, ap, arith}
use Rattle.std.specs.Prelude.{◌==◌, not, nat_le}
use Rattle.std.proofs.lemmas.Bool.{false≢true, leb-true, le-leb, eqb-true}
use Rattle.host_trace.specs.declared.items.Event.{Event}
use Rattle.host_trace.specs.declared.items.Event.TheVariants.{Accepted, ClientBytes, ClientEof, ClientGone, Wrote, Started, StartFailed, StartFull, ChildBytes, ChildEof, ChildBroken, Took, InputGone, Exited, WsText, WsBinary, WsClosed, WsBad, NoRoom, Tick, Stop}
use Rattle.host_trace.specs.declared.items.Item.{Item}
use Rattle.host_trace.specs.declared.items.Item.TheVariants.{In}
use Rattle.host_trace.specs.Fits.{is_piece, may_leave as may_leave_of}
use Rattle.host_trace.specs.Projections.{shut, upgraded, client_wanted, sent_of_phase, left_of_phase}
use Rattle.own_traces.specs.OwnFits.{fits_own, is_open_own}
use Rattle.conn_flags.specs.View.{View, is_live}
use Rattle.conn_flags.specs.Knows.{KnowsFlags}
use Rattle.conn_flags.specs.Fits.{fits_flags, is_asked, is_asked_upgraded, may_leave}
use Rattle.conn_flags.specs.Laws.{concerns}
use Rattle.conn_flags.proofs.KnowsLaws.{flags_told}

-- an event that names the connection
by_name : (named value list : Bool) → named ≡ true → value ≡ list → (not named || value) ≡ list
by_name true value list is e = e
by_name false value list is e = absurd (false≢true is)

same_le : (a b d e : ℕ) → (a ≤ b → d ≤ e) → (d ≤ e → a ≤ b) → nat_le a b ≡ nat_le d e
same_le a b d e there back = go (nat_le a b) (nat_le d e) refl refl
  where
    go : (p q : Bool) → nat_le a b ≡ p → nat_le d e ≡ q → p ≡ q
    go true q is_p is_q = sym (sym is_q ∙ le-leb d e (there (leb-true a b is_p)))
    go false true is_p is_q = sym is_p ∙ le-leb a b (back (leb-true d e is_q))
    go false false is_p is_q = refl

module _ (m : View) (L : List Item) (k : KnowsFlags m L) where
  asked_told : is_asked m ≡ (not (shut L m.c) && not (upgraded L m.c) && client_wanted L m.c)
  asked_told = rw (sym k.shut, sym k.upgraded, sym (flags_told m L k).asked) refl

  asked_upgraded_told : is_asked_upgraded m ≡ (not (shut L m.c) && upgraded L m.c && client_wanted L m.c)
  asked_upgraded_told = rw (sym k.shut, sym k.upgraded, sym (flags_told m L k).asked) refl

  open_told : is_live m ≡ is_open_own L m.c
  open_told = (flags_told m L k).live

  leaves_by : (n : ℕ) (b : Bool) → m.shut ≡ b → (not b && nat_le 1 n && nat_le n m.pending) ≡ (not b && nat_le 1 n && nat_le (left_of_phase L m.c + n) (sent_of_phase L m.c))
  leaves_by n true is = refl
  leaves_by n false is =
      let sent : sent_of_phase L m.c ≡ left_of_phase L m.c + m.pending = k.sent is in
      ap (λ (t : Bool). nat_le 1 n && t)
      (same_le n m.pending (left_of_phase L m.c + n) (sent_of_phase L m.c) (λ le. omega (arith, sent, le)) (λ le. omega (arith, sent, le)))

  leave_told : (n : ℕ) → may_leave m n ≡ may_leave_of L m.c n
  leave_told n =
      leaves_by n m.shut refl
      ∙ ap (λ (b : Bool). not b && nat_le 1 n && nat_le (left_of_phase L m.c + n) (sent_of_phase L m.c)) k.shut

  -- .. of this connection by whatever name
  at : (d : ℕ) (value : Bool) (list : ℕ → Bool) → (m.c == d) ≡ true → value ≡ list m.c → (not (m.c == d) || value) ≡ list d
  at d value list is e = by_name (m.c == d) value (list d) is (e ∙ ap list (eqb-true m.c d is))

  fits_event : (limit : ℕ) (ev : Event) → concerns m.c (In ev) ≡ true → fits_flags m ev ≡ fits_own limit L ev
  fits_event limit (Accepted peer) is = rw (k.stopped, k.accepted) refl
  fits_event limit (ClientBytes d bytes) is =
      at d (is_asked m && is_piece bytes) (λ (e : ℕ). (not (shut L e) && not (upgraded L e) && client_wanted L e) && is_piece bytes) is
      (ap (λ (b : Bool). b && is_piece bytes) asked_told)
  fits_event limit (ClientEof d) is = at d (is_asked m) (λ (e : ℕ). not (shut L e) && not (upgraded L e) && client_wanted L e) is asked_told
  fits_event limit (ClientGone d) is = at d (is_live m) (λ (e : ℕ). is_open_own L e) is open_told
  fits_event limit (Wrote d n) is = at d (may_leave m n) (λ (e : ℕ). may_leave_of L e n) is (leave_told n)
  fits_event limit (WsText d bytes) is = at d (is_asked_upgraded m) (λ (e : ℕ). not (shut L e) && upgraded L e && client_wanted L e) is asked_upgraded_told
  fits_event limit (WsBinary d) is = at d (is_asked_upgraded m) (λ (e : ℕ). not (shut L e) && upgraded L e && client_wanted L e) is asked_upgraded_told
  fits_event limit (WsClosed d) is = at d (is_asked_upgraded m) (λ (e : ℕ). not (shut L e) && upgraded L e && client_wanted L e) is asked_upgraded_told
  fits_event limit (WsBad d) is = at d (is_asked_upgraded m) (λ (e : ℕ). not (shut L e) && upgraded L e && client_wanted L e) is asked_upgraded_told
  fits_event limit (NoRoom d) is = at d (is_live m) (λ (e : ℕ). is_open_own L e) is open_told
  fits_event limit Stop is = rw k.stopped refl
  fits_event limit _ is = absurd (false≢true is)

pub fits_told : (limit : ℕ) (m : View) (L : List Item) (ev : Event) → KnowsFlags m L → concerns m.c (In ev) ≡ true → fits_flags m ev ≡ fits_own limit L ev
fits_told limit m L ev k is = fits_event m L k limit ev is
