-- An exchange that is not over behind an event goes on; and an event that brings nothing finds memory.
use Rattle.std.proofs.Common.{◌≡◌, ℕ, ◌==◌, Bool, true, false, List, [], refl, sym, ap, ◌∙◌, subst}
use Rattle.std.proofs.lemmas.Bool.{false≢true, false_from_ne_true, and_parts}
use Rattle.host_trace.specs.declared.items.Event.{Event}
use Rattle.host_trace.specs.declared.items.Event.TheVariants.{Accepted, ChildBytes, ClientGone, Exited, InputGone, Stop, Tick, WsBad, WsBinary, WsClosed}
use Rattle.host_trace.specs.declared.items.Item.{Item}
use Rattle.host_trace.specs.declared.items.Item.TheVariants.{In}
use Rattle.own_traces.specs.OwnFits.{fits_own}
use Rattle.child_core.specs.Calls.{is_kept}
use Rattle.child_core.specs.View.{View}
use Rattle.trace_model.specs.Exchange.{Exchange, pushed}
use Rattle.trace_model.specs.Legs.{Leg as Started}
use Rattle.conn_flags.specs.View.{View as Flags, noted}
use Rattle.conn_laws.specs.Moves.{Move, moved}
use Rattle.http_conn.specs.HttpConn.{HttpConn}
use Rattle.http_conn.specs.Hears.{Goes, Hears, HearsOwn, told_run}
use Rattle.http_conn.specs.Kept.{flags_of, number_of, site_of}
use Rattle.http_conn.specs.Moves.{ticked_stage}
use Rattle.http_conn.specs.Settles.{is_answered, is_over}
use Rattle.http_conn.specs.Slot.{run_settled}
use Rattle.http_stage_laws.specs.HeardStages.{AtRest}
use Rattle.http_stage_laws.proofs.HeardLosses.{ticks_lost, unkept, when_lost}
use Rattle.good_step_laws.specs.Events.Events.{Heard}
use Rattle.good_step_laws.proofs.Events.BehindWords.{same_whole}
use Rattle.good_step_laws.proofs.Events.EventLaws.{events_stand, moves_on}
use Rattle.good_step_laws.proofs.Events.RestWords.{busy}
use Rattle.good_step_laws.specs.Shuts.Memory.{takes_little}

-- ---- such an event wants no memory

little_own : (ev : Event) (first mid : HttpConn) → takes_little ev ≡ true → HearsOwn ev first mid → mid.lost ≡ first.lost
little_own (Accepted peer) first mid little own = ap (λ (c : HttpConn). c.lost) own
little_own (ClientGone d) first mid little own = when_lost Goes (first.flags.c == d) first mid (λ new is. ap (λ (c : HttpConn). c.lost) is) own
little_own (InputGone k) first mid little own = ap (λ (c : HttpConn). c.lost) own
little_own (WsBinary d) first mid little own = ap (λ (c : HttpConn). c.lost) own
little_own (WsClosed d) first mid little own = ap (λ (c : HttpConn). c.lost) own
little_own (WsBad d) first mid little own = when_lost Goes (first.flags.c == d) first mid (λ new is. ap (λ (c : HttpConn). c.lost) is) own
little_own Stop first mid little own = ap (λ (c : HttpConn). c.lost) own
little_own (Tick secs) first mid little own = ticks_lost (run_settled first.run) (record first { stage = ticked_stage first.stage }) mid own
little_own (Exited k) first mid little own = ap (λ (c : HttpConn). c.lost) own
little_own ev first mid little own = absurd (false≢true little)

little_unkept : (ev : Event) → takes_little ev ≡ true → (v : View) → is_kept v ev ≡ false
little_unkept (ChildBytes k bytes) little v = absurd (false≢true little)
little_unkept ev little v = refl

little_lost : (old new : HttpConn) (ev : Event) → takes_little ev ≡ true → (h : Hears old ev new) → h.mid.lost ≡ old.lost
little_lost old new ev little h = go h.found refl h.own
  where
    go : (b : Bool) → h.found ≡ b → HearsOwn ev (told_run ev b (record old { flags = noted old.flags (In ev) })) h.mid → h.mid.lost ≡ old.lost
    go true is own = little_own ev (told_run ev true (record old { flags = noted old.flags (In ev) })) h.mid little own
    go false is own = absurd (unkept old.run ev (little_unkept ev little) (h.memory is))

-- ---- behind an event

module _ (old new : HttpConn) (L : List Item) (e : Exchange) (legs : List Started) (n : ℕ) (ev : Event) (rest : AtRest old L e legs n) (fits : fits_own (site_of old).limits.children L ev ≡ true)
    (h : Hears old ev new) where
  abbrev pub heard : Heard old L e n ev new
  heard = events_stand old new L e legs n ev rest fits h

  abbrev pub later : Exchange
  later = pushed e (In ev)

  abbrev pub then_e : Exchange
  then_e = moved (site_of old) (number_of old) later heard.moves

  pub lost_same : new.lost ≡ h.mid.lost
  lost_same = go (is_over h.mid) refl
    where
      go : (b : Bool) → is_over h.mid ≡ b → new.lost ≡ h.mid.lost
      go true over = (h.settles.over over).lost
      go false on = ap (λ (c : HttpConn). c.lost) (h.settles.on on)

  pub shut_same : (flags_of new).shut ≡ (flags_of old).shut
  shut_same = ap (λ (m : Flags). m.shut) heard.flags

  -- where memory ran out it was before, and the connection is shut
  pub little_shut : takes_little ev ≡ true → new.lost ≡ true → (flags_of new).shut ≡ true
  little_shut little lost = shut_same ∙ (rest.lost (sym (little_lost old new ev little h) ∙ (sym lost_same ∙ lost))).shut

  -- ---- its exchange goes on

  -- while its child is no more settled than before
  pub not_over : (is_answered old.stage ≡ true → run_settled h.mid.run ≡ run_settled old.run) → is_over h.mid ≡ false
  not_over same = false_from_ne_true (is_over h.mid) (λ over.
      let p = and_parts (is_answered h.mid.stage) (run_settled h.mid.run) over in
      let answered : is_answered old.stage ≡ true = sym (same_whole old L e legs n ev rest fits new h) ∙ p.0 in
      false≢true (sym (busy old L e legs n rest answered) ∙ (sym (same answered) ∙ p.1)))

  none_moved : is_over h.mid ≡ false → heard.moves ≡ []
  none_moved on = moves_on old L e legs n ev rest fits new h on

  -- .. then what is known of it is known of the exchange and the connection behind the event
  pub known_on : (P : Exchange → HttpConn → Type 0) → is_over h.mid ≡ false → P later h.mid → P then_e new
  known_on P on p =
      subst (λ (ms : List Move). P (moved (site_of old) (number_of old) later ms) new) (sym (none_moved on)) (subst (λ (c : HttpConn). P later c) (sym (h.settles.on on)) p)
