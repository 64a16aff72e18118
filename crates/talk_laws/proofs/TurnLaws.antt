-- The child of a WebSocket where nothing was given to it in the step.
use Rattle.std.proofs.Common.{◌≡◌, ℕ, ◌+◌, Bool, true, false, List, [], ◌∷◌, ◌++◌, map, Some, refl, sym, ap, ◌∙◌, add-zero}
use Rattle.std.specs.Prelude.{◌||◌, if◌then◌else◌, count_by}
use Rattle.std.specs.List.{fold, list_any}
use Rattle.std.proofs.lemmas.Bool.{or_parts, or_right}
use Rattle.std.proofs.lemmas.Grind.{fold-append}
use Rattle.std.proofs.lemmas.List.Folds.{list_any-append}
use Rattle.host_base.specs.declared.launch.Launch.{Launch}
use Rattle.host_base.specs.declared.limits.Limits.{Limits}
use Rattle.host_base.specs.declared.site.ScriptKind.TheVariants.{WebSocket}
use Rattle.host_trace.specs.declared.items.Act.{Act}
use Rattle.host_trace.specs.declared.items.Act.TheVariants.{Start}
use Rattle.host_trace.specs.declared.items.Item.{Item}
use Rattle.host_trace.specs.declared.items.Item.TheVariants.{Out}
use Rattle.host_trace.specs.Kinds.{is_child_answer, is_child_broken, is_child_eof, is_end_input, is_input_end, is_kill, is_output_end, is_release, is_want_child, names_child}
use Rattle.host_trace.specs.Projections.{child_wanted, input_ended, killed, output_ended}
use Rattle.trace_child.specs.Words.{given}
use Rattle.child_core.specs.Knows.{KnowsRun, one_if}
use Rattle.child_core.specs.Setting.{Setting}
use Rattle.child_core.specs.View.{View as Run, begun as run_begun}
use Rattle.child_core.proofs.EndLaws.{wanted_is}
use Rattle.child_core.proofs.WordLaws.{answer_names, end_input_names, input_names, kill_names, none, none_count, output_names, want_names}
use Rattle.child_laws.specs.Step.{Counted, LastIs, begun, waiting, was}
use Rattle.child_laws.proofs.DealtLaws.{given_other}

-- ---- items before, none of which names the child

any_behind : (test : Item → Bool) (before L : List Item) → list_any test before ≡ false → list_any test (before ++ L) ≡ list_any test L
any_behind test before L e = list_any-append test before L ∙ ap (λ b. b || list_any test L) e

count_behind : (test : Item → Bool) (before L : List Item) → list_any test before ≡ false → count_by test (before ++ L) ≡ count_by test L
count_behind test before L e =
    fold-append (λ (n : ℕ) (y : Item). n + (if test y then 1 else 0)) 0 before L
    ∙ ap (λ n. fold (λ (n : ℕ) (y : Item). n + (if test y then 1 else 0)) n L) (none_count test 0 before e)

counted_none : (heard : List Item) (v : Run) → was heard v ≡ v → Counted heard [] v
counted_none heard v e = record {
  input = ap one_if (sym (ap (λ (w : Run). w.input_ended) e)) ∙ sym (add-zero _);
  kill = ap one_if (sym (ap (λ (w : Run). w.killed) e)) ∙ sym (add-zero _);
  release = ap one_if (sym (ap (λ (w : Run). w.output_ended) e)) ∙ sym (add-zero _);
  ask = ap one_if (sym (ap (λ (w : Run). w.asked) e)) ∙ sym (add-zero _);
}

module _ (s : Setting) (v : Run) (before L : List Item) (k : KnowsRun false s v L) (unnamed : list_any (names_child v.number) before ≡ false) where
  -- the items of the connection say of it what those of the exchange say
  untouched : was (before ++ L) v ≡ v
  untouched =
      let n : ℕ = v.number in
      rw (
        any_behind (is_input_end n) before L (none (is_input_end n) n before (input_names n) unnamed),
        any_behind (λ x. is_kill n x) before L (none (is_kill n) n before (kill_names n) unnamed),
        any_behind (is_output_end n) before L (none (is_output_end n) n before (output_names n) unnamed),
        count_behind (is_child_answer n) before L (none (is_child_answer n) n before (answer_names n) unnamed),
        count_behind (is_want_child n) before L (none (is_want_child n) n before (want_names n) unnamed),
        ← k.input_ended,
        ← k.killed,
        ← k.output_ended,
        wanted_is false s v L k,
      ) refl

  pub waits_first : LastIs (before ++ L) [] waiting (Some v)
  waits_first = (counted_none (before ++ L) v untouched, untouched)

-- ---- a child that is started in the step

none_given : (test : Item → Bool) (n : ℕ) (acts : List Act) → list_any test (map Out acts) ≡ false → fold (λ (n : ℕ) (act : Act). n + (if test (Out act) then 1 else 0)) n acts ≡ n
none_given test n [] e = refl
none_given test n (a ∷ acts) e =
    let p = or_parts (test (Out a)) (list_any test (map Out acts)) e in
    rw (p.0, add-zero n) (none_given test n acts p.1)

module _ (k : ℕ) (limits : Limits) (heard : List Item) (acts : List Act) (c j : ℕ) (launch : Launch)
    (unheard : list_any (names_child k) heard ≡ false) (unnamed : list_any (names_child k) (map Out acts) ≡ false) where
  not_yet : was heard (run_begun k WebSocket limits) ≡ run_begun k WebSocket limits
  not_yet = rw (
    none (is_input_end k) k heard (input_names k) unheard,
    none (λ x. is_kill k x) k heard (kill_names k) unheard,
    none (is_output_end k) k heard (output_names k) unheard,
    none_count (is_child_answer k) 0 heard (none (is_child_answer k) k heard (answer_names k) unheard),
    none_count (is_want_child k) 0 heard (none (is_want_child k) k heard (want_names k) unheard),
  ) refl

  none_of : (test : Item → Bool) → ((y : Item) → test y ≡ true → names_child k y ≡ true) → test (Out (Start k c j 0 launch)) ≡ false → given test (acts ++ Start k c j 0 launch ∷ []) ≡ 0
  none_of test names other = given_other test acts (Start k c j 0 launch) other ∙ none_given test 0 acts (none test k (map Out acts) names unnamed)

  release_ends : (y : Item) → is_release k y ≡ true → is_output_end k y ≡ true
  release_ends y is = or_right (is_child_eof k y || is_child_broken k y) (is_release k y) is

  pub begins_first : LastIs heard (acts ++ Start k c j 0 launch ∷ []) begun (Some (run_begun k WebSocket limits))
  begins_first =
      let e = not_yet in (
        record {
          input = ap one_if (sym (ap (λ (w : Run). w.input_ended) e)) ∙ sym (ap (λ n. one_if (input_ended heard k) + n) (none_of (is_end_input k) (end_input_names k) refl) ∙ add-zero _);
          kill = ap one_if (sym (ap (λ (w : Run). w.killed) e)) ∙ sym (ap (λ n. one_if (killed heard k) + n) (none_of (is_kill k) (kill_names k) refl) ∙ add-zero _);
          release = ap one_if (sym (ap (λ (w : Run). w.output_ended) e)) ∙ sym (ap (λ n. one_if (output_ended heard k) + n) (none_of (is_release k) (λ y is. output_names k y (release_ends y is)) refl) ∙ add-zero _);
          ask = ap one_if (sym (ap (λ (w : Run). w.asked) e)) ∙ sym (ap (λ n. one_if (child_wanted heard k) + n) (none_of (is_want_child k) (want_names k) refl) ∙ add-zero _);
        },
        (e, refl),
      )
