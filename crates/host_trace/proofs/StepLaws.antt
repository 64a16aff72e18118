-- One more step at the end of a trace is one more step in the list of its steps.
use Rattle.std.proofs.Common.{◌≡◌, List, [], ◌∷◌, ◌++◌, map, sym, ◌∙◌, ap, append_assoc}
use Rattle.std.proofs.lemmas.List.{append-nil, map-append}
use Rattle.host_trace.specs.declared.items.Event.{Event}
use Rattle.host_trace.specs.declared.items.Act.{Act}
use Rattle.host_trace.specs.declared.items.Item.{Item}
use Rattle.host_trace.specs.declared.items.Item.TheVariants.{In, Out}
use Rattle.host_trace.specs.Trace.{step_of, after_step, steps_from, steps_after, steps}

steps_from-outs : (before : List Item) (event : Event) (acts more : List Act) →
    steps_from before event acts (map Out more) ≡ step_of before event (acts ++ more) ∷ []
steps_from-outs before event acts [] = ap (λ l. step_of before event l ∷ []) (sym (append-nil acts))
steps_from-outs before event acts (a ∷ more) =
    steps_from-outs before event (acts ++ a ∷ []) more ∙ ap (λ l. step_of before event l ∷ []) (append_assoc acts (a ∷ []) more)

after_step-push : (before : List Item) (event : Event) (acts : List Act) (a : Act) (rest : List Item) →
    after_step before event (acts ++ a ∷ []) ++ rest ≡ after_step before event acts ++ Out a ∷ rest
after_step-push before event acts a rest = simp (map-append, append_assoc)

steps_from-append : (before : List Item) (event : Event) (acts : List Act) (T : List Item) (e : Event) (more : List Act) →
    steps_from before event acts (T ++ In e ∷ map Out more)
    ≡ steps_from before event acts T ++ step_of (after_step before event acts ++ T) e more ∷ []
steps_from-append before event acts [] e more =
    ap (λ l. step_of before event acts ∷ l)
    (steps_from-outs (after_step before event acts) e [] more
    ∙ ap (λ b. step_of b e more ∷ []) (sym (append-nil (after_step before event acts))))
steps_from-append before event acts (In d ∷ T) e more =
    ap (λ l. step_of before event acts ∷ l)
    (steps_from-append (after_step before event acts) d [] T e more
    ∙ ap (λ b. steps_from (after_step before event acts) d [] T ++ step_of b e more ∷ [])
    (append_assoc (after_step before event acts) (In d ∷ []) T))
steps_from-append before event acts (Out a ∷ T) e more =
    steps_from-append before event (acts ++ a ∷ []) T e more
    ∙ ap (λ b. steps_from before event (acts ++ a ∷ []) T ++ step_of b e more ∷ []) (after_step-push before event acts a T)

steps_after-append : (before T : List Item) (e : Event) (more : List Act) →
    steps_after before (T ++ In e ∷ map Out more) ≡ steps_after before T ++ step_of (before ++ T) e more ∷ []
steps_after-append before [] e more =
    steps_from-outs before e [] more ∙ ap (λ b. step_of b e more ∷ []) (sym (append-nil before))
steps_after-append before (In d ∷ T) e more =
    steps_from-append before d [] T e more
    ∙ ap (λ b. steps_from before d [] T ++ step_of b e more ∷ []) (append_assoc before (In d ∷ []) T)
steps_after-append before (Out a ∷ T) e more =
    steps_after-append (before ++ Out a ∷ []) T e more
    ∙ ap (λ b. steps_after (before ++ Out a ∷ []) T ++ step_of b e more ∷ []) (append_assoc before (Out a ∷ []) T)

-- one more step at the end
pub steps-append : (T : List Item) (e : Event) (acts : List Act) →
    steps (after_step T e acts) ≡ steps T ++ step_of T e acts ∷ []
steps-append T e acts = steps_after-append [] T e acts
