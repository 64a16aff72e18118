-- Memory ran out for an event: the connection is live.
use Rattle.std.proofs.Common.{◌≡◌, ℕ, ◌==◌, Bool, true, false, not, List, Option, Some, None, refl, sym, ap, ◌∙◌, subst, inl, inr}
use Rattle.std.proofs.lemmas.Bool.{and_from, and_parts, cases_Bool, eqb-true, false≢true, false_from_ne_true, not-true}
use Rattle.host_trace.specs.declared.items.Event.{Event}
use Rattle.host_trace.specs.declared.items.Event.TheVariants.{ClientBytes, ClientEof, ClientGone, ChildBytes, WsBad, NoRoom, Tick}
use Rattle.host_trace.specs.declared.items.Item.{Item}
use Rattle.host_trace.specs.declared.items.Item.TheVariants.{In}
use Rattle.host_trace.specs.Fits.{is_asked, is_piece}
use Rattle.host_trace.specs.Kinds.{is_no_room}
use Rattle.host_trace.specs.Projections.{shut}
use Rattle.own_traces.specs.OwnFits.{fits_own, was_accepted}
use Rattle.child_core.specs.View.{View}
use Rattle.trace_model.specs.Exchange.{Exchange}
use Rattle.trace_model.specs.Legs.{Leg as StartedLeg}
use Rattle.exchange_request.specs.Knows.{is_taken}
use Rattle.conn_flags.specs.View.{is_live, noted}
use Rattle.http_conn.specs.HttpConn.{HttpConn}
use Rattle.http_conn.specs.Hears.{Goes, Hears, HearsBytes, HearsEnd, HearsOwn, Loses, When, keeps_of, told_run}
use Rattle.http_conn.specs.Kept.{flags_of, number_of, site_of}
use Rattle.http_conn.specs.Moves.{ticked_stage}
use Rattle.http_conn.specs.Slot.{run_settled}
use Rattle.http_stage_laws.specs.HeardStages.{AtRest}
use Rattle.http_stage_laws.specs.Inward.{IsDecided}
use Rattle.http_stage_laws.proofs.HeardLaws.{asked, elsewhere, mine_is, told}
use Rattle.http_stage_laws.proofs.HeardLosses.{end_lost, ticks_lost, unkept, when_lost}
use Rattle.http_stage_laws.proofs.HeardStill.{kept_undecided}
use Rattle.good_step_laws.proofs.Events.RestWords.{away, rested}

-- for NoRoom memory runs out
room_lost : (ev : Event) (old new : HttpConn) → HearsOwn ev old new → is_no_room old.flags.c (In ev) ≡ true → new.lost ≡ true
room_lost (NoRoom d) old new own is = ap (λ (c : HttpConn). c.lost) (subst (λ (b : Bool). When b Loses old new) is own)
room_lost ev old new own is = absurd (false≢true is)

told_number : (old : HttpConn) (ev : Event) (found : Bool) → (told_run ev found (record old { flags = noted old.flags (In ev) })).flags.c ≡ number_of old
told_number old ev true = refl
told_number old ev false = refl

pub no_room_lost : (old new : HttpConn) (ev : Event) → (h : Hears old ev new) → is_no_room (number_of old) (In ev) ≡ true → h.mid.lost ≡ true
no_room_lost old new ev h is =
    room_lost ev (told_run ev h.found (record old { flags = noted old.flags (In ev) })) h.mid h.own (subst (λ (c : ℕ). is_no_room c (In ev) ≡ true) (sym (told_number old ev h.found)) is)

module _ (old : HttpConn) (L : List Item) (e : Exchange) (legs : List StartedLeg) (next : ℕ) (rest : AtRest old L e legs next) (found : old.lost ≡ false) where
  abbrev Fits : Event → Type 0
  Fits ev = fits_own (site_of old).limits.children L ev ≡ true

  abbrev Live : Type 0
  Live = is_live (flags_of old) ≡ true

  abbrev told_now : Event → HttpConn
  told_now ev = told old L e legs next rest found (rested old L e legs next rest found) ev

  never : {A : Type 0} (mid : HttpConn) → mid.lost ≡ true → mid.lost ≡ old.lost → A
  never mid lost same = absurd (false≢true (sym found ∙ (sym same ∙ lost)))

  -- ---- where the event itself lost it

  bytes_live : (d : ℕ) (bytes : List ℕ) → Fits (ClientBytes d bytes) → (mid : HttpConn) → mid.lost ≡ true → HearsOwn (ClientBytes d bytes) (told_now (ClientBytes d bytes)) mid → Live
  bytes_live d bytes fits mid lost own =
      elim (cases_Bool (number_of old == d)) [
        | inl mine ↦ (asked old L e legs next rest found (rested old L e legs next rest found)
            (subst (λ (k : ℕ). is_asked L k ≡ true) (mine_is old L e legs next rest found (rested old L e legs next rest found) d mine) (and_parts (is_asked L d) (is_piece bytes) fits).0)).live
        | inr other ↦ never mid lost
            (ap (λ (conn : HttpConn). conn.lost) (elsewhere old L e legs next rest found (rested old L e legs next rest found) (HearsBytes bytes) d (told_now (ClientBytes d bytes)) mid other own))
      ]

  room_live : (d : ℕ) → Fits (NoRoom d) → (mid : HttpConn) → mid.lost ≡ true → HearsOwn (NoRoom d) (told_now (NoRoom d)) mid → Live
  room_live d fits mid lost own =
      elim (cases_Bool (number_of old == d)) [
        | inl mine ↦
            let parts = and_parts (was_accepted L) (not (shut L d)) fits in
            let unshut : shut L (number_of old) ≡ false = ap (λ (k : ℕ). shut L k) (eqb-true (number_of old) d mine) ∙ not-true (shut L d) parts.1 in
            and_from (flags_of old).accepted (not (flags_of old).shut) (rest.flags.accepted ∙ parts.0) (ap not (rest.flags.shut ∙ unshut))
        | inr other ↦ never mid lost (ap (λ (conn : HttpConn). conn.lost) (elsewhere old L e legs next rest found (rested old L e legs next rest found) Loses d (told_now (NoRoom d)) mid other own))
      ]

  own_live : (ev : Event) → Fits ev → (mid : HttpConn) → mid.lost ≡ true → HearsOwn ev (told_now ev) mid → Live
  own_live (ClientBytes d bytes) fits mid lost own = bytes_live d bytes fits mid lost own
  own_live (NoRoom d) fits mid lost own = room_live d fits mid lost own
  own_live (ClientEof d) fits mid lost own =
      never mid lost (when_lost HearsEnd (number_of old == d) (told_now (ClientEof d)) mid (λ new h. end_lost (is_taken old.request) (told_now (ClientEof d)) new h) own)
  own_live (ClientGone d) fits mid lost own = never mid lost (when_lost Goes (number_of old == d) (told_now (ClientGone d)) mid (λ new is. ap (λ (conn : HttpConn). conn.lost) is) own)
  own_live (WsBad d) fits mid lost own = never mid lost (when_lost Goes (number_of old == d) (told_now (WsBad d)) mid (λ new is. ap (λ (conn : HttpConn). conn.lost) is) own)
  own_live (Tick secs) fits mid lost own =
      never mid lost (ticks_lost (run_settled (told_now (Tick secs)).run) (record (told_now (Tick secs)) { stage = ticked_stage old.stage }) mid own)
  own_live ev fits mid lost own = never mid lost (ap (λ (conn : HttpConn). conn.lost) own)

  -- ---- where there was no room for output

  run_live : (ev : Event) → Fits ev → keeps_of old.run ev ≡ true → Live
  run_live (ChildBytes k bytes) fits keeps = go old.run refl keeps
    where
      go : (run : Option View) → old.run ≡ run → keeps_of run (ChildBytes k bytes) ≡ true → Live
      go None is kept = absurd (false≢true kept)
      go (Some v) is kept =
          let unshut : (flags_of old).shut ≡ false =
          false_from_ne_true (flags_of old).shut (λ shut_now. kept_undecided old L e legs next rest k bytes fits v is (subst (λ (r : Option View). IsDecided r) is (rest.inward.held shut_now)) kept) in
          and_from (flags_of old).accepted (not (flags_of old).shut) (rest.inward.accepted (away old L e legs next rest found v is)) (ap not unshut)
  run_live ev fits keeps = absurd (unkept old.run ev (λ v. refl) keeps)

  -- ---- an event

  pub newly_live : (ev : Event) (new : HttpConn) → Fits ev → (h : Hears old ev new) → h.mid.lost ≡ true → Live
  newly_live ev new fits h lost = go h.found refl h.own
    where
      go : (b : Bool) → h.found ≡ b → HearsOwn ev (told_run ev b (record old { flags = noted old.flags (In ev) })) h.mid → Live
      go true is own = own_live ev fits h.mid lost own
      go false is own = run_live ev fits (h.memory is)
