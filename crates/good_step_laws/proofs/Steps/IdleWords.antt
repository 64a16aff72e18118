-- What is held of the idle time of a connection that an answer closes, behind an event.
use Rattle.std.proofs.Common.{◌≡◌, ℕ, Bool, true, false, not, List, [], ◌∷◌, Option, None, is_some, refl, sym, ap, ◌∙◌}
use Rattle.std.proofs.lemmas.Bool.{and_from, and_parts, false≢true, false_from_ne_true, not-true}
use Rattle.host_base.specs.declared.site.Site.{Site}
use Rattle.host_trace.specs.declared.items.Event.{Event}
use Rattle.host_trace.specs.declared.items.Item.{Item}
use Rattle.host_trace.specs.declared.items.Item.TheVariants.{In}
use Rattle.own_traces.specs.OwnFits.{fits_own}
use Rattle.trace_model.specs.Breaks.{idled}
use Rattle.trace_model.specs.Exchange.{Exchange, pushed, request_bytes}
use Rattle.trace_model.specs.Exchanges.{following}
use Rattle.trace_model.specs.Legs.{Leg as Started}
use Rattle.conn_flags.specs.View.{View as Flags, is_live}
use Rattle.conn_laws.specs.Moves.{Move, acts_of, continues, gives, moved, settles}
use Rattle.http_conn.specs.HttpConn.{HttpConn}
use Rattle.http_conn.specs.Hears.{Hears}
use Rattle.http_conn.specs.Kept.{flags_of, number_of, site_of}
use Rattle.http_conn.specs.Reasons.{is_done_with}
use Rattle.http_conn.specs.Settles.{is_answered, is_over}
use Rattle.http_conn.specs.Slot.{run_settled}
use Rattle.http_stage_laws.specs.HeardStages.{AtRest}
use Rattle.http_step_laws.proofs.EndWords.{going}
use Rattle.good_step_laws.specs.Events.Events.{Heard}
use Rattle.good_step_laws.proofs.Events.BehindWords.{keeps}
use Rattle.good_step_laws.proofs.Events.EventLaws.{events_stand}
use Rattle.good_step_laws.proofs.Events.InwardLaws.{inward_then}
use Rattle.good_step_laws.specs.Shuts.Laws.{IdleIsKnown}

-- an exchange that begins with no act has no item
none_yet : (site : Site) (c : ℕ) (e : Exchange) (moves : List Move) → acts_of moves ≡ [] → e.items ≡ [] → (moved site c e moves).items ≡ []
none_yet site c e [] none empty = empty
none_yet site c e (gives act ∷ moves) none empty = absurd (cc)
none_yet site c e (continues d ∷ moves) none empty = absurd (cc)
none_yet site c e (settles ending ∷ moves) none empty = none_yet site c (following site c e) moves none refl

module _ (old new : HttpConn) (L : List Item) (e : Exchange) (legs : List Started) (n : ℕ) (ev : Event) (rest : AtRest old L e legs n) (fits : fits_own (site_of old).limits.children L ev ≡ true)
    (h : Hears old ev new) where
  abbrev pub heard : Heard old L e n ev new
  heard = events_stand old new L e legs n ev rest fits h

  abbrev d : Exchange
  d = moved (site_of old) (number_of old) (pushed e (In ev)) heard.moves

  -- a live connection at rest is closed by no answer
  open_before : is_live (flags_of old) ≡ true → old.closing ≡ false
  open_before live = go old.lost refl
    where
      go : (b : Bool) → old.lost ≡ b → old.closing ≡ false
      go false found = (going old (is_done_with old (request_bytes (number_of old) e)) ((rest.found found).going live)).open_yet
      go true lost = absurd (false≢true (sym (not-true (flags_of old).shut (and_parts (flags_of old).accepted (not (flags_of old).shut) live).1) ∙ (rest.lost lost).shut))

  -- .. and of one that was not accepted nothing was heard
  open_unaccepted : (flags_of old).accepted ≡ false → old.closing ≡ false
  open_unaccepted none = rest.front.closing ∙ (rest.unheard none).1

  open_then : is_live (flags_of new) ≡ true → old.closing ≡ false
  open_then live = go (flags_of old).accepted refl
    where
      unshut : (flags_of old).shut ≡ false
      unshut =
          not-true (flags_of old).shut
          (sym (ap (λ (m : Flags). not m.shut) heard.flags) ∙ (and_parts (flags_of new).accepted (not (flags_of new).shut) live).1)

      go : (b : Bool) → (flags_of old).accepted ≡ b → old.closing ≡ false
      go true accepted = open_before (and_from (flags_of old).accepted (not (flags_of old).shut) accepted (ap not unshut))
      go false none = open_unaccepted none

  -- an answer that closes stood with the event alone, and its exchange is over
  over_then : is_live (flags_of new) ≡ true → d.closed ≡ true → is_over h.mid ≡ true
  over_then live closed = go (is_over h.mid) refl
    where
      go : (b : Bool) → is_over h.mid ≡ b → is_over h.mid ≡ true
      go true over = over
      go false on =
          let closing : old.closing ≡ true =
          sym (keeps old L e legs n ev rest fits new h).same.closing ∙ (sym (ap (λ (conn : HttpConn). conn.closing) (h.settles.on on)) ∙ (heard.standing.front.closing ∙ closed)) in
          absurd (false≢true (sym (open_then live) ∙ closing))

  calm_then : is_live (flags_of new) ≡ true → d.closed ≡ true → new.idled ≡ false
  calm_then live closed =
      let over : is_over h.mid ≡ true = over_then live closed in
      let answered : is_answered h.mid.stage ≡ true = (and_parts (is_answered h.mid.stage) (run_settled h.mid.run) over).0 in
      (h.settles.over over).front.idled
      ∙ false_from_ne_true h.mid.idled (λ idle. false≢true (sym ((inward_then old L e legs n ev rest fits new h).calm idle) ∙ answered))

  begun_then : is_live (flags_of new) ≡ true → d.closed ≡ true → d.items ≡ []
  begun_then live closed = go heard.moves refl heard.none
    where
      go : (moves : List Move) → heard.moves ≡ moves → acts_of heard.moves ≡ [] → d.items ≡ []
      go [] is none =
          let was : e.closed ≡ true = sym (ap (λ (ms : List Move). (moved (site_of old) (number_of old) (pushed e (In ev)) ms).closed) is) ∙ closed in
          absurd (false≢true (sym (open_then live) ∙ (rest.front.closing ∙ was)))
      go (gives act ∷ moves) is none = absurd (let bad : act ∷ acts_of moves ≡ [] = sym (ap acts_of is) ∙ none in cc)
      go (continues k ∷ moves) is none = absurd (let bad : acts_of (continues k ∷ moves) ≡ [] = sym (ap acts_of is) ∙ none in cc)
      go (settles ending ∷ moves) is none =
          ap (λ (ms : List Move). (moved (site_of old) (number_of old) (pushed e (In ev)) ms).items) is
          ∙ none_yet (site_of old) (number_of old) (following (site_of old) (number_of old) (pushed e (In ev))) moves (sym (ap acts_of is) ∙ none) refl

  none_idled : (site : Site) (c : ℕ) → d.items ≡ [] → idled site c d ≡ None
  none_idled site c empty = go d empty
    where
      go : (x : Exchange) → x.items ≡ [] → idled site c x ≡ None
      go x none = rw none refl

  pub idle_is : IdleIsKnown new d
  idle_is live closed =
      calm_then live closed ∙ sym (ap (λ (o : Option (List Item)). is_some o) (none_idled (site_of new) (number_of new) (begun_then live closed)))
