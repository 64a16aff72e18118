-- An act that is due for the child may be given to it.
use Rattle.std.proofs.Common.{◌≡◌, ◌≤◌, ℕ, ◌+◌, Bool, true, false, ◌&&◌, ◌||◌, not, List, [], ◌∷◌, ◌++◌, Some, is_some, sym, ap, ◌∙◌, subst}
use Rattle.std.specs.Prelude.{count_by, nat_lt, if◌then◌else◌}
use Rattle.std.specs.List.{fold, list_any}
use Rattle.std.proofs.lemmas.Grind.{fold-append}
use Rattle.std.proofs.lemmas.List.Folds.{list_any-append}
use Rattle.host_base.specs.declared.site.Site.{Site}
use Rattle.host_trace.specs.declared.items.Act.{Act}
use Rattle.host_trace.specs.declared.items.Act.TheVariants.{EndInput, Feed, Kill, Release, WantChild}
use Rattle.host_trace.specs.declared.items.Item.{Item}
use Rattle.host_trace.specs.declared.items.Item.TheVariants.{Out}
use Rattle.host_trace.specs.Kinds.{is_child_answer, is_exited, is_input_end, is_kill, is_output_end, is_started, is_want_child, names_child}
use Rattle.host_trace.specs.Projections.{child_wanted}
use Rattle.trace_child.specs.ChildForm.{may_be_given}
use Rattle.trace_child.specs.Words.{is_filled}
use Rattle.child_core.specs.Due.{Due, Path, given}
use Rattle.child_core.specs.Knows.{KnowsRun}
use Rattle.child_core.specs.Setting.{Setting}
use Rattle.child_core.specs.View.{View}
use Rattle.child_core.proofs.MemoryLaws.{due-form, ended-form}
use Rattle.child_core.proofs.WordLaws.{answer_names, exited_names, input_names, kill_names, none, none_count, output_names, started_names, want_names}
use Rattle.trace_model.specs.Exchange.{Exchange, all_of, pushed}
use Rattle.trace_model.specs.Legs.{Leg as Started}
use Rattle.child_laws.specs.Children.{HeldAs, KnowsChildren, KnowsLast, NoMore}
use Rattle.child_laws.specs.Setting.{setting}
use Rattle.child_laws.proofs.KnowLaws.{run_acts_known}
use Rattle.http_conn.specs.Parts.{gives_all}
use Rattle.http_step_laws.specs.Standing.{AreRight}
use Rattle.http_step_laws.proofs.ServeLaws.{AreChilds}

-- ---- items before the exchange that don't name the child

module _ (k : ℕ) (before L : List Item) (unnamed : list_any (names_child k) before ≡ false) where
  any_same : (test : ℕ → Item → Bool) → ((j : ℕ) (y : Item) → test j y ≡ true → names_child j y ≡ true) → list_any (test k) (before ++ L) ≡ list_any (test k) L
  any_same test names = list_any-append (test k) before L ∙ ap (λ (b : Bool). b || list_any (test k) L) (none (test k) k before (names k) unnamed)

  count_same : (test : ℕ → Item → Bool) → ((j : ℕ) (y : Item) → test j y ≡ true → names_child j y ≡ true) → count_by (test k) (before ++ L) ≡ count_by (test k) L
  count_same test names =
      fold-append (λ (n : ℕ) (y : Item). n + (if test k y then 1 else 0)) 0 before L
      ∙ ap (λ (n : ℕ). fold (λ (n : ℕ) (y : Item). n + (if test k y then 1 else 0)) n L) (none_count (test k) 0 before (none (test k) k before (names k) unnamed))

  wanted_same : child_wanted (before ++ L) k ≡ child_wanted L k
  wanted_same =
      ap (λ (n : ℕ). nat_lt n (count_by (is_want_child k) (before ++ L))) (count_same is_child_answer answer_names)
      ∙ ap (λ (n : ℕ). nat_lt (count_by (is_child_answer k) L) n) (count_same is_want_child want_names)

  begun_same : list_any (is_started k) (before ++ L) ≡ list_any (is_started k) L
  begun_same = any_same is_started started_names

  may_still : (may : Bool) (v : View) (act : Act) → v.number ≡ k → Due may v act → may_be_given L act ≡ true → may_be_given (before ++ L) act ≡ true
  may_still may v (Feed j bytes) is due given_then =
      let at : j ≡ k = due.0 ∙ is in
      ap (λ (i : ℕ). may_be_given (before ++ L) (Feed i bytes)) at
      ∙ (ap (λ (b : Bool). b && not (list_any (is_input_end k) (before ++ L)) && is_filled bytes) begun_same
      ∙ (ap (λ (b : Bool). list_any (is_started k) L && not b && is_filled bytes) (any_same is_input_end input_names)
      ∙ (sym (ap (λ (i : ℕ). may_be_given L (Feed i bytes)) at) ∙ given_then)))
  may_still may v (EndInput j) is due given_then =
      let at : j ≡ k = due.0 ∙ is in
      ap (λ (i : ℕ). may_be_given (before ++ L) (EndInput i)) at
      ∙ (ap (λ (b : Bool). b && not (list_any (is_input_end k) (before ++ L))) begun_same
      ∙ (ap (λ (b : Bool). list_any (is_started k) L && not b) (any_same is_input_end input_names)
      ∙ (sym (ap (λ (i : ℕ). may_be_given L (EndInput i)) at) ∙ given_then)))
  may_still may v (Kill j) is due given_then =
      let at : j ≡ k = due.0 ∙ is in
      ap (λ (i : ℕ). may_be_given (before ++ L) (Kill i)) at
      ∙ (ap (λ (b : Bool). b && not (list_any (is_kill k) (before ++ L)) && not (list_any (is_exited k) (before ++ L))) begun_same
      ∙ (ap (λ (b : Bool). list_any (is_started k) L && not b && not (list_any (is_exited k) (before ++ L))) (any_same is_kill kill_names)
      ∙ (ap (λ (b : Bool). list_any (is_started k) L && not (list_any (is_kill k) L) && not b) (any_same is_exited exited_names)
      ∙ (sym (ap (λ (i : ℕ). may_be_given L (Kill i)) at) ∙ given_then))))
  may_still may v (Release j) is due given_then =
      let at : j ≡ k = due.0 ∙ is in
      ap (λ (i : ℕ). may_be_given (before ++ L) (Release i)) at
      ∙ (ap (λ (b : Bool). b && list_any (is_exited k) (before ++ L) && not (list_any (is_output_end k) (before ++ L))) begun_same
      ∙ (ap (λ (b : Bool). list_any (is_started k) L && b && not (list_any (is_output_end k) (before ++ L))) (any_same is_exited exited_names)
      ∙ (ap (λ (b : Bool). list_any (is_started k) L && list_any (is_exited k) L && not b) (any_same is_output_end output_names)
      ∙ (sym (ap (λ (i : ℕ). may_be_given L (Release i)) at) ∙ given_then))))
  may_still may v (WantChild j) is due given_then =
      let at : j ≡ k = due.0 ∙ is in
      ap (λ (i : ℕ). may_be_given (before ++ L) (WantChild i)) at
      ∙ (ap (λ (b : Bool). b && not (list_any (is_output_end k) (before ++ L)) && not (child_wanted (before ++ L) k)) begun_same
      ∙ (ap (λ (b : Bool). list_any (is_started k) L && not b && not (child_wanted (before ++ L) k)) (any_same is_output_end output_names)
      ∙ (ap (λ (b : Bool). list_any (is_started k) L && not (list_any (is_output_end k) L) && not b) wanted_same
      ∙ (sym (ap (λ (i : ℕ). may_be_given L (WantChild i)) at) ∙ given_then))))
  may_still may v act is due given_then = absurd due

-- ---- what is due

module _ (site : Site) (c : ℕ) (early may : Bool) (n : ℕ) (legs : List Started) (e : Exchange) (held : View) (act : Act) (due : Due may held act) (k : KnowsChildren site c e early n legs (Some held)) where
  runs : KnowsLast NoMore site c e early legs held
  runs = k.runs

  abbrev s : Setting
  s = setting site c e runs.leg.hop

  in_items : (early : Bool) → HeldAs early held runs.view → KnowsRun (early && not (is_some runs.view.outcome)) s runs.view e.items → (may_be_given e.items act ≡ true) × (held.number ≡ runs.view.number)
  in_items false is knows =
      (due-form false s runs.view e.items knows may act (subst (λ (w : View). Due may w act) is due), ap (λ (w : View). w.number) is)
  in_items true is knows =
      (ended-form (not (is_some runs.view.outcome)) s runs.view e.items knows may act (subst (λ (w : View). Due may w act) is due), ap (λ (w : View). w.number) is)

  pub due_given : may_be_given (all_of e) act ≡ true
  due_given =
      let here = in_items early runs.held_as runs.known.knows in
      may_still runs.view.number e.before e.items runs.known.unnamed may held act here.1 due here.0

-- Each of the acts that are due may be given, and is right.
pub path_right : (site : Site) (c : ℕ) (early may : Bool) (n : ℕ) (legs : List Started) → 2 ≤ site.limits.head → (acts : List Act) (e : Exchange) (held : View) → Path may held acts
    → KnowsChildren site c e early n legs (Some held) → AreChilds acts → AreRight site c e (gives_all acts)
path_right site c early may n legs two [] e held path k a = tt
path_right site c early may n legs two (act ∷ acts) e held path k a = (
  record { start = a.0.right site c e; in_turn = a.0.in_turn site c e; upgrade = a.0.upgrade site c e; may = due_given site c early may n legs e held act path.0 k },
  path_right site c early may n legs two acts (pushed e (Out act)) (given held act) path.1 (run_acts_known site c e early may n legs held act two path.0 k).0 a.1,
)
