-- The output of a run that nothing decided is as long as a number may be.
use Rattle.std.proofs.Common.{◌≡◌, ◌≤◌, ℕ, true, false, List, [], ◌∷◌, ◌++◌, length, Option, Some, None, is_some, refl, sym, ap, ◌∙◌, subst, arith}
use Rattle.host_trace.specs.declared.items.Event.{Event}
use Rattle.host_trace.specs.declared.items.Item.{Item}
use Rattle.host_trace.specs.declared.items.Item.TheVariants.{In}
use Rattle.host_trace.specs.First.{since}
use Rattle.host_trace.specs.Kinds.{is_start}
use Rattle.host_trace.specs.Projections.{child_out}
use Rattle.own_traces.specs.OwnFits.{fits_own}
use Rattle.child_core.specs.declared.ending.Outcome.{Outcome}
use Rattle.child_core.specs.View.{View}
use Rattle.trace_model.specs.Exchange.{Exchange, pushed}
use Rattle.trace_model.specs.Legs.{Leg as Started}
use Rattle.child_laws.specs.Children.{KnowsChildren}
use Rattle.http_conn.specs.HttpConn.{HttpConn}
use Rattle.http_conn.specs.Hears.{Hears}
use Rattle.http_conn.specs.Kept.{number_of, site_of}
use Rattle.http_stage_laws.specs.HeardStages.{AtRest}
use Rattle.http_stage_laws.proofs.HeardReply.{children_heard}
use Rattle.http_stage_laws.proofs.StartWords.{first_event, output_behind}
use Rattle.http_step_laws.specs.Standing.{ShortRun}
use Rattle.good_step_laws.proofs.Events.BehindWords.{well}

module _ (old : HttpConn) (L : List Item) (e : Exchange) (legs : List Started) (next : ℕ) (ev : Event) (rest : AtRest old L e legs next)
    (fits : fits_own (site_of old).limits.children L ev ≡ true) (new : HttpConn) (h : Hears old ev new) where
  pub short_then : h.mid.lost ≡ false → ShortRun (pushed e (In ev)) h.mid.run
  short_then f = go h.mid.run refl
    where
      go : (run : Option View) → h.mid.run ≡ run → ShortRun (pushed e (In ev)) run
      go None is = tt
      go (Some w) is = λ none.
          let k = subst (λ (r : Option View). KnowsChildren (site_of old) (number_of old) (pushed e (In ev)) false next legs r) (sym (well old L e legs next ev rest fits new h f).run ∙ is)
          (children_heard old L e legs next ev rest fits true) in
          let runs = k.runs in
          let within : length (child_out (since (is_start runs.view.number) (e.items ++ In ev ∷ [])) runs.view.number) ≤ (site_of old).limits.output =
          runs.known.knows.within (ap (λ (x : View). is_some x.outcome) (sym runs.held_as) ∙ ap (λ (o : Option Outcome). is_some o) none) runs.known.plain in
          let all : length (child_out (e.items ++ In ev ∷ []) w.number) ≤ (site_of old).limits.output =
          subst (λ (l : List ℕ). length l ≤ (site_of old).limits.output) (output_behind (site_of old) (number_of old) (pushed e (In ev)) next legs w k (first_event e ev rest.starts_first))
          (subst (λ (n : ℕ). length (child_out (since (is_start n) (e.items ++ In ev ∷ [])) n) ≤ (site_of old).limits.output) (ap (λ (x : View). x.number) (sym runs.held_as)) within) in
          let small = rest.small in
          omega (arith, all, small)
