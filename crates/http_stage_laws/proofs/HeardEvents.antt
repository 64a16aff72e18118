-- Each event between two steps, where memory was found.
use Rattle.std.proofs.Common.{◌≡◌, ℕ, ◌==◌, Bool, true, false, ◌&&◌, not, List, [], Option, Some, None, ◌⊎◌, if◌then◌else◌, refl, sym, ap, ◌∙◌, subst}
use Rattle.std.proofs.lemmas.Bool.{and_parts, cases_Bool, false≢true}
use Rattle.std.proofs.Common.{inl, inr}
use Rattle.host_base.specs.declared.launch.Peer.{Peer}
use Rattle.host_trace.specs.declared.items.Event.{Event}
use Rattle.host_trace.specs.declared.items.Event.TheVariants.{Accepted, ClientBytes, ClientEof, ClientGone, Wrote, Started, StartFailed, StartFull, ChildBytes, ChildEof, ChildBroken, Took, InputGone, Exited, WsText, WsBinary, WsClosed, WsBad, NoRoom, Tick, Stop}
use Rattle.host_trace.specs.declared.items.Item.{Item}
use Rattle.host_trace.specs.declared.items.Item.TheVariants.{In}
use Rattle.host_trace.specs.Projections.{client_wanted, shut, upgraded}
use Rattle.child_core.specs.declared.ending.Ending.TheVariants.{Dropped, Gone, Refused}
use Rattle.child_core.specs.Calls.{ended}
use Rattle.child_core.specs.View.{View}
use Rattle.trace_model.specs.Breaks.{is_breakable}
use Rattle.trace_model.specs.Exchange.{Exchange, reading}
use Rattle.trace_model.specs.Legs.{Leg as StartedLeg}
use Rattle.trace_model.specs.Readings.{is_whole}
use Rattle.child_laws.specs.Heard.{cut_by, last_hop, offered_by, run_heard}
use Rattle.http_conn.specs.HttpConn.{HttpConn}
use Rattle.http_conn.specs.Hears.{Goes, HearsBytes, HearsEnd, HearsOwn, Loses, accepted, heard_run, told_run}
use Rattle.http_conn.specs.Kept.{number_of, site_of}
use Rattle.conn_flags.specs.View.{noted}
use Rattle.http_stage_laws.specs.HeardStages.{AtRest, EventsAreStaged, HeardWell, Rested}
use Rattle.http_stage_laws.proofs.HeardEnd.{end_well}
use Rattle.http_stage_laws.proofs.HeardLaws.{Fits, asked, bytes_well, elsewhere, gone, here, mine_is, plain, told}
use Rattle.http_stage_laws.proofs.HeardQuiet.{quiet_well}
use Rattle.http_stage_laws.proofs.HeardStage.{noted_still}
use Rattle.http_stage_laws.proofs.HeardTick.{tick_well}

module _ (old : HttpConn) (L : List Item) (e : Exchange) (legs : List StartedLeg) (next : ℕ) (rest : AtRest old L e legs next) (found : old.lost ≡ false) (rested : Rested old e legs) where
  abbrev Well : Event → HttpConn → Type 0
  Well ev mid = HeardWell old mid e ev legs

  abbrev Owns : Event → HttpConn → Type 0
  Owns ev mid = HearsOwn ev (told old L e legs next rest found rested ev) mid

  abbrev FitsIn : Event → Type 0
  FitsIn ev = Fits old L e legs next rest found rested ev

  accepted_well : (peer : Peer) → FitsIn (Accepted peer) → (mid : HttpConn) → mid ≡ accepted peer (told old L e legs next rest found rested (Accepted peer)) → Well (Accepted peer) mid
  accepted_well peer fits mid is =
      subst (λ (conn : HttpConn). HeardWell old conn e (Accepted peer) legs) (sym is)
      (quiet_well old L e legs next (Accepted peer) rest fits rested refl (accepted peer (told old L e legs next rest found rested (Accepted peer)))
      (record { site = refl; number = refl; cut = refl; closing = refl; closes = refl; continued = refl }) refl (sym (noted_still (In (Accepted peer)) refl old.stage)) (run_is old.run)
      (λ none. refl) (λ tick. absurd (false≢true tick)))
    where
      run_is : (run : Option View) → heard_run (Accepted peer) true run ≡ run_heard (site_of old) (number_of old) e legs true (Accepted peer) run
      run_is None = refl
      run_is (Some v) = refl

  bytes_by : (d : ℕ) (bytes : List ℕ) → FitsIn (ClientBytes d bytes) → (mid : HttpConn) → mid.lost ≡ false → Owns (ClientBytes d bytes) mid → Well (ClientBytes d bytes) mid
  bytes_by d bytes fits mid kept own =
      elim (cases_Bool (number_of old == d)) [
        | inl mine ↦ subst (λ (k : ℕ). FitsIn (ClientBytes k bytes) → Owns (ClientBytes k bytes) mid → Well (ClientBytes k bytes) mid) (sym (mine_is old L e legs next rest found rested d mine))
            (λ f o. bytes_well old L e legs next rest found rested bytes f mid kept (here old L e legs next rest found rested (HearsBytes bytes) (number_of old) (told old L e legs next rest found rested (ClientBytes (number_of old) bytes)) mid (subst (λ (k : ℕ). (number_of old == k) ≡ true) (mine_is old L e legs next rest found rested d mine) mine) o)) fits own
        | inr other ↦ plain old L e legs next rest found rested (ClientBytes d bytes) fits (ap (λ (b : Bool). if b then bytes else []) other) refl refl
            (λ v. sym (ap (λ (b : Bool). if b then offered_by (site_of old) (number_of old) e (last_hop legs) (In (ClientBytes d bytes)) v else v) other)) mid
            (elsewhere old L e legs next rest found rested (HearsBytes bytes) d (told old L e legs next rest found rested (ClientBytes d bytes)) mid other own)
      ]

  eof_by : (d : ℕ) → FitsIn (ClientEof d) → (mid : HttpConn) → Owns (ClientEof d) mid → Well (ClientEof d) mid
  eof_by d fits mid own =
      elim (cases_Bool (number_of old == d)) [
        | inl mine ↦ subst (λ (k : ℕ). FitsIn (ClientEof k) → Owns (ClientEof k) mid → Well (ClientEof k) mid) (sym (mine_is old L e legs next rest found rested d mine))
            (λ f o. end_well old L e legs next rest found rested f (asked old L e legs next rest found rested f).live mid
            (here old L e legs next rest found rested HearsEnd (number_of old) (told old L e legs next rest found rested (ClientEof (number_of old))) mid (subst (λ (k : ℕ). (number_of old == k) ≡ true) (mine_is old L e legs next rest found rested d mine) mine) o)) fits own
        | inr other ↦ plain old L e legs next rest found rested (ClientEof d) fits refl refl
            (ap (λ (b : Bool). b && not (is_whole (reading (site_of old) (number_of old) e)) && is_breakable (site_of old) (number_of old) e e.items) other)
            (λ v. sym (ap (λ (b : Bool). if b then cut_by (site_of old) (number_of old) e (last_hop legs) v else v) other)) mid
            (elsewhere old L e legs next rest found rested HearsEnd d (told old L e legs next rest found rested (ClientEof d)) mid other own)
      ]

  gone_by : (d : ℕ) → FitsIn (ClientGone d) → (mid : HttpConn) → Owns (ClientGone d) mid → Well (ClientGone d) mid
  gone_by d fits mid own =
      elim (cases_Bool (number_of old == d)) [
        | inl mine ↦ gone old L e legs next rest found rested (ClientGone d) fits refl refl refl (λ v. refl) (λ v. sym (ap (λ (b : Bool). if b then ended v Gone else v) mine)) mid
            (here old L e legs next rest found rested Goes d (told old L e legs next rest found rested (ClientGone d)) mid mine own)
        | inr other ↦ plain old L e legs next rest found rested (ClientGone d) fits refl refl refl (λ v. sym (ap (λ (b : Bool). if b then ended v Gone else v) other)) mid
            (elsewhere old L e legs next rest found rested Goes d (told old L e legs next rest found rested (ClientGone d)) mid other own)
      ]

  bad_by : (d : ℕ) → FitsIn (WsBad d) → (mid : HttpConn) → Owns (WsBad d) mid → Well (WsBad d) mid
  bad_by d fits mid own =
      elim (cases_Bool (number_of old == d)) [
        | inl mine ↦ gone old L e legs next rest found rested (WsBad d) fits refl refl refl (λ v. refl) (λ v. sym (ap (λ (b : Bool). if b then ended v Gone else v) mine)) mid
            (here old L e legs next rest found rested Goes d (told old L e legs next rest found rested (WsBad d)) mid mine own)
        | inr other ↦ plain old L e legs next rest found rested (WsBad d) fits refl refl refl (λ v. sym (ap (λ (b : Bool). if b then ended v Gone else v) other)) mid
            (elsewhere old L e legs next rest found rested Goes d (told old L e legs next rest found rested (WsBad d)) mid other own)
      ]

  -- for NoRoom memory runs out
  room_by : (d : ℕ) → FitsIn (NoRoom d) → (mid : HttpConn) → mid.lost ≡ false → Owns (NoRoom d) mid → Well (NoRoom d) mid
  room_by d fits mid kept own =
      elim (cases_Bool (number_of old == d)) [
        | inl mine ↦
            let is = here old L e legs next rest found rested Loses d (told old L e legs next rest found rested (NoRoom d)) mid mine own in
            absurd (false≢true (sym kept ∙ ap (λ (conn : HttpConn). conn.lost) is))
        | inr other ↦ plain old L e legs next rest found rested (NoRoom d) fits refl refl refl (λ v. sym (ap (λ (b : Bool). if b then ended v Dropped else v) other)) mid
            (elsewhere old L e legs next rest found rested Loses d (told old L e legs next rest found rested (NoRoom d)) mid other own)
      ]

  -- a connection that speaks HTTP hears no frame
  binary_by : (d : ℕ) → FitsIn (WsBinary d) → (mid : HttpConn) → Owns (WsBinary d) mid → Well (WsBinary d) mid
  binary_by d fits mid own =
      plain old L e legs next rest found rested (WsBinary d) fits refl refl refl (λ v. sym (ap (λ (b : Bool). if b then ended v Refused else v) (other (cases_Bool (number_of old == d))))) mid own
    where
      other : ((number_of old == d) ≡ true) ⊎ ((number_of old == d) ≡ false) → (number_of old == d) ≡ false
      other (inr differs) = differs
      other (inl mine) =
          let parts = and_parts (not (shut L d) && upgraded L d) (client_wanted L d) fits in
          absurd (false≢true (sym rest.inward.http ∙ (rest.flags.upgraded ∙ (ap (λ (k : ℕ). upgraded L k) (sym (mine_is old L e legs next rest found rested d mine)) ∙ (and_parts (not (shut L d)) (upgraded L d) parts.0).1))))

  pub event_well : (ev : Event) → FitsIn ev → (mid : HttpConn) → mid.lost ≡ false → Owns ev mid → Well ev mid
  event_well (Accepted peer) fits mid kept own = accepted_well peer fits mid own
  event_well (ClientBytes d bytes) fits mid kept own = bytes_by d bytes fits mid kept own
  event_well (ClientEof d) fits mid kept own = eof_by d fits mid own
  event_well (ClientGone d) fits mid kept own = gone_by d fits mid own
  event_well (WsBad d) fits mid kept own = bad_by d fits mid own
  event_well (NoRoom d) fits mid kept own = room_by d fits mid kept own
  event_well (WsBinary d) fits mid kept own = binary_by d fits mid own
  event_well (Tick secs) fits mid kept own = tick_well old L e legs next secs rest found rested fits mid own
  event_well (Wrote d n) fits mid kept own = plain old L e legs next rest found rested (Wrote d n) fits refl refl refl (λ v. refl) mid own
  event_well (Started k) fits mid kept own = plain old L e legs next rest found rested (Started k) fits refl refl refl (λ v. refl) mid own
  event_well (StartFailed k) fits mid kept own = plain old L e legs next rest found rested (StartFailed k) fits refl refl refl (λ v. refl) mid own
  event_well (StartFull k seen) fits mid kept own = plain old L e legs next rest found rested (StartFull k seen) fits refl refl refl (λ v. refl) mid own
  event_well (ChildBytes k bytes) fits mid kept own = plain old L e legs next rest found rested (ChildBytes k bytes) fits refl refl refl (λ v. refl) mid own
  event_well (ChildEof k) fits mid kept own = plain old L e legs next rest found rested (ChildEof k) fits refl refl refl (λ v. refl) mid own
  event_well (ChildBroken k) fits mid kept own = plain old L e legs next rest found rested (ChildBroken k) fits refl refl refl (λ v. refl) mid own
  event_well (Took k n) fits mid kept own = plain old L e legs next rest found rested (Took k n) fits refl refl refl (λ v. refl) mid own
  event_well (InputGone k) fits mid kept own = plain old L e legs next rest found rested (InputGone k) fits refl refl refl (λ v. refl) mid own
  event_well (Exited k) fits mid kept own = plain old L e legs next rest found rested (Exited k) fits refl refl refl (λ v. refl) mid own
  event_well (WsText d bytes) fits mid kept own = plain old L e legs next rest found rested (WsText d bytes) fits refl refl refl (λ v. refl) mid own
  event_well (WsClosed d) fits mid kept own = plain old L e legs next rest found rested (WsClosed d) fits refl refl refl (λ v. refl) mid own
  event_well Stop fits mid kept own = plain old L e legs next rest found rested Stop fits refl refl refl (λ v. refl) mid own

pub events_are_staged : EventsAreStaged
events_are_staged old new L e legs next ev rest fits found h kept = go h.found refl h.own
  where
    go : (b : Bool) → h.found ≡ b → HearsOwn ev (told_run ev b (record old { flags = noted old.flags (In ev) })) h.mid → HeardWell old h.mid e ev legs
    go true is own = event_well old L e legs next rest found (rest.found found) ev fits h.mid kept own
    go false is own = absurd (false≢true (sym kept ∙ h.lasts (ap (λ (b : Bool). (told_run ev b old).lost) is)))
