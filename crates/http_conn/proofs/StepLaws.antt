-- What is known of a connection's list after a step.
use Rattle.std.proofs.Common.{◌≡◌, ◌≤◌, ◌∙◌, ap, ℕ, Bool, true, false, not, List, [], ◌∷◌, ◌++◌, map, Option, refl, sym, subst, append_assoc}
use Rattle.host_trace.specs.declared.items.Event.{Event}
use Rattle.host_trace.specs.declared.items.Item.{Item}
use Rattle.host_trace.specs.declared.items.Item.TheVariants.{In, Out}
use Rattle.host_base.specs.declared.site.Site.{Site}
use Rattle.host_trace.specs.Projections.{stopped}
use Rattle.host_trace.specs.Trace.{after_step, step_of}
use Rattle.trace_child.specs.Words.{implies}
use Rattle.trace_model.specs.Demands.{is_live as is_live_then}
use Rattle.trace_model.specs.Steps.{goes_on}
use Rattle.trace_model.specs.Stops.{stops}
use Rattle.trace_model.proofs.ExchangeLaws.{all_of-current, current-step}
use Rattle.http_state.specs.Reasons.{Stops}
use Rattle.own_traces.specs.OwnFits.{fits_own}
use Rattle.conn_flags.specs.View.{View as Flags, is_live, noted}
use Rattle.conn_flags.specs.Form.{given_all}
use Rattle.conn_flags.specs.Knows.{KnowsFlags}
use Rattle.conn_flags.proofs.KnowsLaws.{events_admitted, given_all-number, known_all, known_next}
use Rattle.conn_laws.specs.Form.{all_come, all_in_time}
use Rattle.conn_laws.proofs.FormLaws.{acts_come, acts_in_time, flags_say}
use Rattle.http_state.specs.declared.conn.HttpConn.{HttpConn}
use Rattle.host_trace.specs.declared.items.Act.{Act}
use Rattle.trace_model.specs.Exchange.{Exchange, all_of, pushed}
use Rattle.trace_model.specs.Exchanges.{current, current_after, has_ended, next_of}
use Rattle.conn_laws.specs.Moves.{AreInStep, moved}
use Rattle.conn_laws.proofs.MoveLaws.{moves_cut}
use Rattle.http_state.specs.Kept.{HasChildIn, StandsFor, is_settled_as, flags_of, number_of, site_of}
use Rattle.http_state.specs.Slot.{run_settled}
use Rattle.http_conn.specs.Step.{Stepped}

event_known : (limit : ℕ) (m : Flags) (L : List Item) (ev : Event) → KnowsFlags m L → fits_own limit L ev ≡ true → KnowsFlags (noted m (In ev)) (L ++ In ev ∷ [])
event_known limit m L ev k f = known_next m L (In ev) k (events_admitted limit m L ev k f)

pub step_known : (limit : ℕ) (old new : HttpConn) (ev : Event) (stamp : Option ℕ) (n m : ℕ) (before after : Option (List Item)) (L : List Item)
    → (s : Stepped old ev stamp n before new m after) → KnowsFlags (flags_of old) L → fits_own limit L ev ≡ true
    → KnowsFlags (flags_of new) (after_step L ev s.acts)
step_known limit old new ev stamp n m before after L s k f =
    let all : KnowsFlags (given_all (noted (flags_of old) (In ev)) s.acts) ((L ++ In ev ∷ []) ++ map Out s.acts) =
    known_all (noted (flags_of old) (In ev)) (L ++ In ev ∷ []) s.acts (event_known limit (flags_of old) L ev k f) s.form in
    subst (λ (v : Flags). KnowsFlags v (after_step L ev s.acts)) (sym s.flags)
    (subst (λ (l : List Item). KnowsFlags (given_all (noted (flags_of old) (In ev)) s.acts) l) (append_assoc L (In ev ∷ []) (map Out s.acts)) all)

pub step_in_form : (limit : ℕ) (old new : HttpConn) (ev : Event) (stamp : Option ℕ) (n m : ℕ) (before after : Option (List Item)) (L : List Item) (ks : List ℕ)
    → (s : Stepped old ev stamp n before new m after) → KnowsFlags (flags_of old) L → HasChildIn old ks → fits_own limit L ev ≡ true
    → all_come (L ++ In ev ∷ []) s.acts ≡ true
step_in_form limit old new ev stamp n m before after L ks s k w f =
    acts_come (noted (flags_of old) (In ev)) (L ++ In ev ∷ []) ks n s.acts (event_known limit (flags_of old) L ev k f) (s.own ks w).are s.form

pub step_in_time : (limit : ℕ) (old new : HttpConn) (ev : Event) (stamp : Option ℕ) (n m : ℕ) (before after : Option (List Item)) (L : List Item)
    → (s : Stepped old ev stamp n before new m after) → KnowsFlags (flags_of old) L → fits_own limit L ev ≡ true
    → all_in_time (number_of old) (L ++ In ev ∷ []) s.acts ≡ true
step_in_time limit old new ev stamp n m before after L s k f =
    acts_in_time (noted (flags_of old) (In ev)) (L ++ In ev ∷ []) s.acts (event_known limit (flags_of old) L ev k f) s.form

pub step_fronts : (old new : HttpConn) (ev : Event) (stamp : Option ℕ) (n m : ℕ) (before after : Option (List Item)) (L : List Item)
    → (s : Stepped old ev stamp n before new m after) → 2 ≤ (site_of old).limits.head
    → run_settled old.run ≡ is_settled_as old (current (site_of old) (number_of old) L) → StandsFor old (current (site_of old) (number_of old) L)
    → AreInStep (site_of old) (number_of old) (pushed (current (site_of old) (number_of old) L) (In ev)) s.moves
    → has_ended (site_of old) (number_of old) (moved (site_of old) (number_of old) (pushed (current (site_of old) (number_of old) L) (In ev)) s.moves) ≡ false
    → StandsFor new (current (site_of old) (number_of old) (after_step L ev s.acts))
step_fronts old new ev stamp n m before after L s two settled known in_step on =
    let site = site_of old in
    let c = number_of old in
    let first : Exchange = pushed (current site c L) (In ev) in
    let led : StandsFor new (moved site c first s.moves) = (s.keeps (current site c L) two settled known in_step).0 in
    let is : current site c (after_step L ev s.acts) ≡ moved site c first s.moves =
    current-step site c L ev s.acts
    ∙ (ap (λ (acts : List Act). current_after site c (next_of site c (current site c L) (In ev)) (map Out acts)) (sym s.same)
    ∙ moves_cut site c first s.moves in_step on) in
    subst (λ (e : Exchange). StandsFor new e) (sym is) led

stops_by : (stopped live : Bool) → (stopped ≡ true → live ≡ false) → implies stopped (not live) ≡ true
stops_by true live h = ap (λ (b : Bool). not b) (h refl)
stops_by false live h = refl

pub step_stops : (limit : ℕ) (site : Site) (old new : HttpConn) (ev : Event) (stamp : Option ℕ) (n m : ℕ) (before after : Option (List Item)) (L : List Item)
    → (s : Stepped old ev stamp n before new m after) → KnowsFlags (flags_of old) L → fits_own limit L ev ≡ true → Stops (flags_of new)
    → stops (number_of old) (goes_on site (number_of old) (step_of L ev s.acts)) ≡ true
step_stops limit site old new ev stamp n m before after L s k f stops_then =
    let known : KnowsFlags (flags_of new) (after_step L ev s.acts) = step_known limit old new ev stamp n m before after L s k f in
    let says = flags_say (flags_of new) (after_step L ev s.acts) known in
    let c_is : (flags_of new).c ≡ number_of old = ap (λ (v : Flags). v.c) s.flags ∙ given_all-number (noted (flags_of old) (In ev)) s.acts in
    let live : is_live_then (number_of old) (after_step L ev s.acts) ≡ is_live (flags_of new) =
    ap (λ (c : ℕ). is_live_then c (after_step L ev s.acts)) (sym c_is) ∙ sym says.live in
    let all : all_of (current site (number_of old) (after_step L ev s.acts)) ≡ after_step L ev s.acts = all_of-current site (number_of old) (after_step L ev s.acts) in
    ap (λ (l : List Item). implies (stopped l) (not (is_live_then (number_of old) l))) all
    ∙ (ap (λ (b : Bool). implies b (not (is_live_then (number_of old) (after_step L ev s.acts)))) (sym says.stopped_then)
    ∙ (ap (λ (b : Bool). implies (flags_of new).stopped (not b)) live ∙ stops_by (flags_of new).stopped (is_live (flags_of new)) stops_then))
