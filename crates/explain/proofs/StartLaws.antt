-- The first turn, and the last one.
use Rattle.std.proofs.Common.{◌≡◌, ℕ, ◌+◌, ◌<◌, ◌≤◌, true, false, List, [], Option, None, refl, ap, sym, ◌∙◌, inl, inr, arith}
use Rattle.std.specs.Prelude.{◌||◌, ◌⊎◌, if◌then◌else◌}
use Rattle.host_base.specs.declared.launch.Peer.{Peer}
use Rattle.host_base.specs.declared.limits.Limits.{Limits}
use Rattle.host_base.specs.declared.site.Site.{Site}
use Rattle.host_trace.specs.declared.items.Item.{Item}
use Rattle.head_lines.specs.Lines.{front_of_parts}
use Rattle.head_reader.specs.RequestHead.{read_head}
use Rattle.head_reader.specs.declared.step.HeadStep.TheVariants as Step
use Rattle.head_reader.proofs.ReadLaws.{more_is_open}
use Rattle.request_reader.specs.Request.{after_head, read_request}
use Rattle.explain.specs.Explained.{EndsBy, IsCutShort}
use Rattle.explain.specs.Inputs.{KnowsInputs, goes_on, is_answer}
use Rattle.explain.specs.Steps.{IsEnded, IsLost, SaysEnding, Stands, Turned}
use Rattle.explain.specs.declared.explain.Explained.{Explained}
use Rattle.explain.specs.declared.explain.Explained.TheVariants as Was
use Rattle.explain.specs.declared.first.First.{First}
use Rattle.explain.specs.declared.input.Ending.{Ending}
use Rattle.explain.specs.declared.input.Heard.{Heard}
use Rattle.explain.specs.declared.input.Heard.TheVariants.{Passed, Asks, Ended, NoMemory}

nothing_read : (limits : Limits) → 0 < limits.head → read_head limits [] ≡ Step.More
unfolding front_of_parts
nothing_read limits some = (more_is_open limits []).1 (refl, some)

nothing_open : (limits : Limits) → 0 < limits.head → is_answer (read_request limits []) ≡ false
unfolding read_request
nothing_open limits some = ap (λ step. is_answer (after_head limits [] step)) (nothing_read limits some)

-- nothing was heard
pub stands_first : (site : Site) (first : First) (T : List Item) → T ≡ [] → 1024 ≤ site.limits.head → KnowsInputs first site.limits None [] → Stands site first 0 T
stands_first site first T none head knows =
    let some : 0 < site.limits.head = omega (arith, head) in
    rw none (record {
      knows = knows;
      open_yet = ap (λ b. b || false) (nothing_open site.limits some);
      alone = refl;
      known = refl;
      asked = refl;
      asks = refl;
      never = refl;
      heard = refl;
    })

pub on_by : (heard : Heard) → (heard ≡ Passed) ⊎ (heard ≡ Asks) → goes_on heard ≡ true
on_by heard (inl is) = rw is refl
on_by heard (inr is) = rw is refl

pub going : (site : Site) (first : First) (turns : ℕ) (heard : Heard) (T : List Item) → goes_on heard ≡ true → Turned site first turns heard T → Stands site first (turns + 1) T
going site first turns Passed T on t = t
going site first turns Asks T on t = t
going site first turns (Ended ending) T on t = absurd (cc)
going site first turns NoMemory T on t = absurd (cc)

pub ended_by : (site : Site) (turns count : ℕ) (peer : Option Peer) (ending : Ending) (result : Explained) (T : List Item) → count < turns →
    IsEnded site peer (count + 1) ending T → SaysEnding site peer ending result → EndsBy site turns result T
ended_by site turns count peer ending (Was.Text text) T few e says =
    (record { explained = e.explained; first = e.first; within = rw e.heard (omega (arith, few)) }, says ∙ e.text)
ended_by site turns count peer ending Was.Spent T few e says = absurd says
ended_by site turns count peer ending Was.NoMemory T few e says =
    record { first = e.first ∙ sym (ap (λ b. if b then 1 else 0) e.explained); within = rw e.heard (omega (arith, few)) }

pub lost_by : (site : Site) (turns count : ℕ) (T : List Item) → count < turns → IsLost site (count + 1) T → IsCutShort site turns T
lost_by site turns count T few l = record { first = l.first; within = rw l.heard (omega (arith, few)) }
