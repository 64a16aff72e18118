-- An event leads a connection that is at rest to where the parts of a step begin.
use Rattle.std.proofs.Common.{◌≡◌, ◌≤◌, ℕ, Bool, true, false, List, [], ◌∷◌, ◌++◌, refl, sym, ap, ◌∙◌, subst, append-nil}
use Rattle.std.specs.List.{list_all}
use Rattle.std.proofs.lemmas.Bool.{and_parts}
use Rattle.host_base.specs.declared.site.Site.{Site}
use Rattle.host_trace.specs.declared.items.Act.{Act}
use Rattle.host_trace.specs.declared.items.Event.{Event}
use Rattle.host_trace.specs.declared.items.Item.{Item}
use Rattle.host_trace.specs.declared.items.Item.TheVariants.{In}
use Rattle.own_traces.specs.OwnFits.{fits_own}
use Rattle.own_traces.specs.Whose.{next_after}
use Rattle.trace_model.specs.Exchange.{Exchange, pushed}
use Rattle.trace_model.specs.Exchanges.{current, current_after, ended_after, ended_by, has_ended, next_by}
use Rattle.trace_model.specs.Legs.{Leg as Started}
use Rattle.trace_model.specs.Replies.{is_silent_once_closed}
use Rattle.trace_model.proofs.ExchangeLaws.{current-append}
use Rattle.conn_flags.specs.Form.{are_given, given_all}
use Rattle.conn_flags.specs.View.{View as Flags}
use Rattle.child_laws.specs.Step.{Turn, waiting}
use Rattle.conn_laws.specs.Moves.{AreInStep, moved, settles}
use Rattle.http_conn.specs.HttpConn.{HttpConn}
use Rattle.http_conn.specs.Hears.{Hears}
use Rattle.http_conn.specs.Kept.{Turned, flags_of, number_of, site_of}
use Rattle.http_conn.specs.Parts.{Ends, EndsBy, Part}
use Rattle.http_conn.specs.Settles.{ending_of, is_answered, is_over}
use Rattle.http_conn.specs.Slot.{run_settled}
use Rattle.http_conn.proofs.StateLaws.{settles_turned}
use Rattle.http_stage_laws.specs.HeardStages.{AtRest}
use Rattle.http_step_laws.specs.Standing.{Apt, AreRight, Claim, Leaves, Standing}
use Rattle.http_step_laws.proofs.EndsLaws.{ends_leave}
use Rattle.good_step_laws.specs.Events.Events.{EventsStand, Heard}
use Rattle.good_step_laws.proofs.Events.AptLaws.{apt_found}
use Rattle.good_step_laws.proofs.Events.BehindWords.{keeps}
use Rattle.good_step_laws.proofs.Events.HeardRunLaws.{steady_then}
use Rattle.good_step_laws.proofs.Events.OverWords.{apt_now, ended_unclosed, over_silent}
use Rattle.good_step_laws.proofs.Events.StandWords.{standing_then}

-- what is said where the exchange that is over was followed
abbrev Begins : Claim
Begins turn e conn = (turn ≡ waiting) × Apt e conn

module _ (old : HttpConn) (L : List Item) (e : Exchange) (legs : List Started) (next : ℕ) (ev : Event) (rest : AtRest old L e legs next)
    (fits : fits_own (site_of old).limits.children L ev ≡ true) (new : HttpConn) (h : Hears old ev new) where
  abbrev later : Exchange
  later = pushed e (In ev)

  standing : Standing L ev [] waiting next later h.mid
  standing = standing_then old L e legs next ev rest fits new h

  site_is : site_of h.mid ≡ site_of old
  site_is = (keeps old L e legs next ev rest fits new h).same.site

  number_is : number_of h.mid ≡ number_of old
  number_is = (keeps old L e legs next ev rest fits new h).same.number

  -- ---- where its exchange is over then the next one begins

  turned : Turned Ends h.mid new
  turned = settles_turned h.settles

  part : Part Ends h.mid next turned.moves new
  part = record {
    site = turned.site;
    peer_is = turned.peer_is;
    flags = turned.flags ∙ ap (λ (acts : List Act). given_all (flags_of h.mid) acts) (sym turned.none);
    leads = turned.keeps;
    by = turned.does next;
  }

  leaves : Leaves Begins L ev [] later h.mid next turned.moves new
  leaves =
      ends_leave Begins L ev [] waiting later h.mid new next turned.moves standing (subst (λ (t : Site). 2 ≤ t.limits.head) (sym site_is) rest.two)
      (λ over f unshut.
      let parts = and_parts (is_answered h.mid.stage) (run_settled h.mid.run) over in
      steady_then old L e legs next ev rest fits new h f unshut parts.0 parts.1)
      (λ unover. (refl, record { unover = unover; found = λ f. apt_found old L e legs next ev rest fits new h f }))
      (λ d quiet none. (refl, apt_now d new quiet none))
      part (ap (λ (acts : List Act). are_given (flags_of h.mid) acts) turned.none)

  -- ---- what is known then

  abbrev then_e : Exchange
  then_e = moved (site_of old) (number_of old) later turned.moves

  moved_is : moved (site_of h.mid) (number_of h.mid) later turned.moves ≡ then_e
  moved_is = ap (λ (t : Site). moved t (number_of h.mid) later turned.moves) site_is ∙ ap (λ (c : ℕ). moved (site_of old) c later turned.moves) number_is

  site_then : site_of new ≡ site_of old
  site_then = leaves.site ∙ site_is

  flags_then : flags_of new ≡ flags_of h.mid
  flags_then = leaves.flags ∙ ap (λ (acts : List Act). given_all (flags_of h.mid) acts) turned.none

  number_then : number_of new ≡ number_of old
  number_then = ap (λ (m : Flags). m.c) flags_then ∙ number_is

  standing_now : Standing L ev [] waiting next then_e new
  standing_now =
      subst (λ (d : Exchange). Standing L ev [] waiting next d new) moved_is
      (subst (λ (t : Turn). Standing L ev [] t next (moved (site_of h.mid) (number_of h.mid) later turned.moves) new) leaves.post.0
      (subst (λ (acts : List Act). Standing L ev acts leaves.turn (next_after next acts) (moved (site_of h.mid) (number_of h.mid) later turned.moves) new) turned.none leaves.standing))

  unclosed : has_ended (site_of old) (number_of old) (pushed (current (site_of old) (number_of old) L) (In ev)) ≡ true → (current (site_of old) (number_of old) L).closed ≡ false
  unclosed ended =
      subst (λ (d : Exchange). d.closed ≡ false) rest.now
      (ended_unclosed L ev [] waiting next later h.mid standing
      (ap (λ (t : Site). has_ended t (number_of h.mid) later) site_is ∙ (ap (λ (c : ℕ). has_ended (site_of old) c later) number_is
      ∙ (ap (λ (d : Exchange). has_ended (site_of old) (number_of old) (pushed d (In ev))) rest.now ∙ ended))))

  gone_now : (s : Standing L ev [] waiting next then_e new)
      → ended_after (site_of old) (number_of old) (current (site_of old) (number_of old) L) (In ev ∷ []) ≡ s.over ++ ended_by then_e (has_ended (site_of old) (number_of old) then_e)
  gone_now s =
      subst (λ (t : Site). ended_after t (number_of old) (current t (number_of old) L) (In ev ∷ []) ≡ s.over ++ ended_by then_e (has_ended t (number_of old) then_e)) site_then
      (subst (λ (c : ℕ). ended_after (site_of new) c (current (site_of new) c L) (In ev ∷ []) ≡ s.over ++ ended_by then_e (has_ended (site_of new) c then_e)) number_then s.children.gone)

  goes_on_now : Standing L ev [] waiting next then_e new
      → current (site_of old) (number_of old) (L ++ In ev ∷ []) ≡ next_by (site_of old) (number_of old) then_e (has_ended (site_of old) (number_of old) then_e)
  goes_on_now s =
      current-append (site_of old) (number_of old) L (In ev ∷ [])
      ∙ subst (λ (t : Site). current_after t (number_of old) (current t (number_of old) L) (In ev ∷ []) ≡ next_by t (number_of old) then_e (has_ended t (number_of old) then_e)) site_then
      (subst (λ (c : ℕ). current_after (site_of new) c (current (site_of new) c L) (In ev ∷ []) ≡ next_by (site_of new) c then_e (has_ended (site_of new) c then_e)) number_then s.children.goes_on)

  pub heard_then : Heard old L e next ev new
  heard_then = record {
    moves = turned.moves;
    none = turned.none;
    in_step = subst (λ (t : Site). AreInStep t (number_of old) later turned.moves) site_is (subst (λ (c : ℕ). AreInStep (site_of h.mid) c later turned.moves) number_is leaves.in_step);
    right = subst (λ (t : Site). AreRight t (number_of old) later turned.moves) site_is (subst (λ (c : ℕ). AreRight (site_of h.mid) c later turned.moves) number_is leaves.right);
    site = site_then;
    number = number_then;
    flags = flags_then ∙ (keeps old L e legs next ev rest fits new h).flags;
    standing = standing_now;
    over_silent =
        subst (λ (c : ℕ). list_all (is_silent_once_closed c) standing_now.over ≡ true) (sym number_then)
        (over_silent (site_of old) (number_of old) L ev standing_now.over then_e (has_ended (site_of old) (number_of old) then_e) unclosed (gone_now standing_now));
    apt = subst (λ (d : Exchange). Apt d new) moved_is leaves.post.1;
    all = standing_now.children.knows.items ∙ append-nil (L ++ In ev ∷ []);
    goes_on = goes_on_now standing_now;
  }

pub events_stand : EventsStand
events_stand old new L e legs next ev rest fits h = heard_then old L e legs next ev rest fits new h

-- ---- which moves these are

module _ (old : HttpConn) (L : List Item) (e : Exchange) (legs : List Started) (next : ℕ) (ev : Event) (rest : AtRest old L e legs next)
    (fits : fits_own (site_of old).limits.children L ev ≡ true) (new : HttpConn) (h : Hears old ev new) where
  ends : Ends h.mid next (turned old L e legs next ev rest fits new h).moves new
  ends = (turned old L e legs next ev rest fits new h).does next

  -- where the exchange goes on there is none
  pub moves_on : is_over h.mid ≡ false → (events_stand old new L e legs next ev rest fits h).moves ≡ []
  unfolding events_stand heard_then
  moves_on on = (subst (λ (b : Bool). EndsBy b h.mid next (turned old L e legs next ev rest fits new h).moves new) on ends).none

  -- and where it is over, one
  pub moves_over : is_over h.mid ≡ true → (events_stand old new L e legs next ev rest fits h).moves ≡ settles (ending_of h.mid) ∷ []
  unfolding events_stand heard_then
  moves_over over = (subst (λ (b : Bool). EndsBy b h.mid next (turned old L e legs next ev rest fits new h).moves new) over ends).0
