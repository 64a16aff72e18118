-- Quiet turns one after another, and an event after them.
use Rattle.std.proofs.Common.{◌≡◌, ◌∙◌, ◌⊎◌, inl, inr, ℕ, ◌≤◌, Bool, true, false, not, ◌&&◌, cond, List, [], ◌∷◌, filter, Option, Some, None, refl, sym, ap, subst, arith}
use Rattle.std.specs.Prelude.{⊤, IfSome}
use Rattle.host_base.specs.Outsides.{Rose}
use Rattle.host_trace.specs.declared.items.Event.{Event}
use Rattle.child_edge.specs.Kids.{KidTells}
use Rattle.child_edge.specs.declared.row.Row.{Row}
use Rattle.child_edge.specs.Rows.{OneSays, Each, Rests, IsQuiet as IsQuietRow, kept, is_kept}
use Rattle.child_edge.proofs.Steps.{stays_two, marks_two}
use Rattle.child_edge.proofs.Later.{says_later as row_says_two}
use Rattle.child_edge.proofs.Lists.{each_stays}
use Rattle.socket_set.proofs.Sets.{quiet_self as set_self, quiet_two as set_two, tells_two as set_tells, counted_self as set_counts, counted_two as set_counts_two}
use Rattle.edge_loop.specs.Loops.{LoopState, ChildrenRest, SameDue, IsQuiet, Counts, Counted, OfClient, OfChild, IsHeard, ending_after}
use Rattle.edge_loop.specs.Orders.{stopped_by}

-- a list whose items all pass
keep_head : {A : Type 0} (p : A → Bool) (x : A) (xs : List A) → p x ≡ true → filter p xs ≡ xs → filter p (x ∷ xs) ≡ x ∷ xs
keep_head p x xs e f = rw e (ap (λ w. x ∷ w) f)

rose_more : (a b d : ℕ) → a ≤ b → Rose b d → Rose a d
rose_more a b d p q = omega (arith, p, q)

module _ {K : Type 0} where
  rows_two : (tells : K → KidTells) (r m s : Row K) → Rests tells r m → Rests tells m s → Rests tells r s
  rows_two tells r m s g h =
      record { stays = stays_two tells [] r m s g.stays h.stays; marks = marks_two r m s g.marks h.marks }

  each_two : (tells : K → KidTells) (a b d : List (Row K)) → Each (Rests tells) a b → Each (Rests tells) b d → Each (Rests tells) a d
  each_two tells [] [] d g h = h
  each_two tells [] (m ∷ b) d g h = absurd g
  each_two tells (r ∷ a) [] d g h = absurd g
  each_two tells (r ∷ a) (m ∷ b) [] g h = absurd h
  each_two tells (r ∷ a) (m ∷ b) (s ∷ d) g h = (rows_two tells r m s g.0 h.0, each_two tells a b d g.1 h.1)

  says_after : (tells : K → KidTells) (e : Event) (a b d : List (Row K)) → Each (Rests tells) a b → OneSays tells e b d → OneSays tells e a d
  says_after tells e [] [] d g h = absurd h
  says_after tells e [] (m ∷ b) d g h = absurd g
  says_after tells e (r ∷ a) [] d g h = absurd g
  says_after tells e (r ∷ a) (m ∷ b) [] g h = absurd h
  says_after tells e (r ∷ a) (m ∷ b) (s ∷ d) g h =
      elim h [
        | inl w ↦ inl (row_says_two tells r m s e g.0.stays g.0.marks w.0, each_two tells a b d g.1 w.1)
        | inr w ↦ inr (rows_two tells r m s g.0 w.0, says_after tells e a b d g.1 w.1)
      ]

  -- each of the rows is kept
  abbrev AllKept : List (Row K) → Type 0
  AllKept [] = ⊤
  AllKept (r ∷ rows) = (is_kept r ≡ true) × AllKept rows

  kept_case : (b : Bool) (r : Row K) (rest : List (Row K)) → (b ≡ true → is_kept r ≡ true) → AllKept rest → AllKept (cond b (r ∷ rest) rest)
  kept_case true r rest e h = (e refl, h)
  kept_case false r rest e h = h

  all_kept : (rows : List (Row K)) → AllKept (kept rows)
  all_kept [] = tt
  all_kept (r ∷ rows) = kept_case (is_kept r) r (kept rows) (λ e. e) (all_kept rows)

  same_kept : (tells : K → KidTells) (r s : Row K) → Rests tells r s → is_kept r ≡ true → is_kept s ≡ true
  same_kept tells r s h e = ap (λ m. not (m.exited && m.input_ended && m.output_ended)) h.marks ∙ e

  kept_rest : (tells : K → KidTells) (a b : List (Row K)) → AllKept a → Each (Rests tells) a b → kept b ≡ b
  kept_rest tells [] [] k g = refl
  kept_rest tells [] (m ∷ b) k g = absurd g
  kept_rest tells (r ∷ a) [] k g = absurd g
  kept_rest tells (r ∷ a) (m ∷ b) k g = keep_head is_kept m b (same_kept tells r m g.0 k.0) (kept_rest tells a b k.1 g.1)

  kept_once : (tells : K → KidTells) (a b : List (Row K)) → Each (Rests tells) (kept a) b → kept b ≡ b
  kept_once tells a b g = kept_rest tells (kept a) b (all_kept a) g

  pub children_quiet : (tells : K → KidTells) (a b : List (Row K)) → Each (IsQuietRow tells) (kept a) b → ChildrenRest tells a b
  children_quiet tells a b g = inr (each_stays tells (kept a) b g)

  children_more : (tells : K → KidTells) (a b d : List (Row K)) → Each (Rests tells) (kept a) b → ChildrenRest tells b d → ChildrenRest tells a d
  children_more tells a b d g h =
      elim h [
        | inl same ↦ inr (subst (λ w. Each (Rests tells) (kept a) w) (sym same) g)
        | inr more ↦ inr (each_two tells (kept a) b d g (subst (λ w. Each (Rests tells) w d) (kept_once tells a b g) more))
      ]

  pub children_two : (tells : K → KidTells) (a b d : List (Row K)) → ChildrenRest tells a b → ChildrenRest tells b d → ChildrenRest tells a d
  children_two tells a b d g h =
      elim g [
        | inl same ↦ subst (λ w. ChildrenRest tells w d) same h
        | inr rest ↦ children_more tells a b d rest h
      ]

  child_later : (tells : K → KidTells) (e : Event) (a b d : List (Row K)) → ChildrenRest tells a b → OneSays tells e (kept b) d → OneSays tells e (kept a) d
  child_later tells e a b d g h =
      elim g [
        | inl same ↦ subst (λ w. OneSays tells e (kept w) d) same h
        | inr rest ↦ says_after tells e (kept a) b d rest (subst (λ w. OneSays tells e w d) (kept_once tells a b rest) h)
      ]

  due_two : (a b d : LoopState K) → SameDue a b → SameDue b d → SameDue a d
  due_two a b d g h = record { starts = h.starts ∙ g.starts; unstarted = h.unstarted ∙ g.unstarted; tried = h.tried ∙ g.tried }

  pub quiet_self : (tells : K → KidTells) (a : LoopState K) → IsQuiet tells a a
  quiet_self tells a =
      record { set = set_self a.set; rows = inl refl; due = record { starts = refl; unstarted = refl; tried = refl }; ending = refl }

  pub quiet_two : (tells : K → KidTells) (a b d : LoopState K) → IsQuiet tells a b → IsQuiet tells b d → IsQuiet tells a d
  quiet_two tells a b d g h =
      record {
        set = set_two a.set b.set d.set g.set h.set;
        rows = children_two tells a.rows b.rows d.rows g.rows h.rows;
        due = due_two a b d g.due h.due;
        ending = h.ending ∙ g.ending;
      }

  pub counts_self : (a : LoopState K) → Counts a a
  counts_self a = record { limit = refl; room = refl; set = set_counts a.set; children = omega arith; full = omega arith }

  pub counts_two : (a b d : LoopState K) → Counts a b → Counts b d → Counts a d
  counts_two a b d g h =
      record {
        limit = h.limit ∙ g.limit;
        room = h.room ∙ g.room;
        set = set_counts_two a.set b.set d.set g.set h.set;
        children = omega (arith, g.children, h.children);
        full = omega (arith, g.full, h.full);
      }

  failed_later : (a b d : LoopState K) → Counts a b → Rose b.set.faults d.set.faults ⊎ Rose b.child_faults d.child_faults
      → Rose a.set.faults d.set.faults ⊎ Rose a.child_faults d.child_faults
  failed_later a b d g h =
      elim h [
        | inl w ↦ inl (rose_more a.set.faults b.set.faults d.set.faults g.set.grown w)
        | inr w ↦ inr (rose_more a.child_faults b.child_faults d.child_faults g.children w)
      ]

  pub counted_later : (e : Event) (a b d : LoopState K) → Counts a b → Counted e b d → Counted e a d
  counted_later e a b d g h =
      record {
        counts = counts_two a b d g h.counts;
        failure = λ f. failed_later a b d g (h.failure f);
        full_book = λ f. rose_more a.full b.full d.full g.full (h.full_book f);
      }

  pub heard_later : (tells : K → KidTells) (e : Event) (a b d : LoopState K) → IsQuiet tells a b → IsHeard tells e b d → IsHeard tells e a d
  heard_later tells e a b d g h =
      elim h [
        | inl w ↦ inl (record {
          says = set_tells e a.set b.set d.set g.set w.says;
          rows = children_two tells a.rows b.rows d.rows g.rows w.rows;
          due = due_two a b d g.due w.due;
          ending = w.ending ∙ ap (λ x. ending_after e x) g.ending;
        })
        | inr v ↦ elim v [
          | inl w ↦ inr (inl (record {
            says = child_later tells e a.rows b.rows d.rows g.rows w.says;
            set = set_two a.set b.set d.set g.set w.set;
            due = due_two a b d g.due w.due;
            ending = w.ending ∙ g.ending;
          }))
          | inr w ↦ inr (inr (record {
            is_stop = w.is_stop;
            set = set_two a.set b.set d.set g.set w.set;
            rows = children_two tells a.rows b.rows d.rows g.rows w.rows;
            due = due_two a b d g.due w.due;
            first = sym (ap (λ x. x.stopped) g.ending) ∙ w.first;
            ending = w.ending ∙ ap (λ x. stopped_by x) g.ending;
            cause = w.cause;
          }))
        ]
      ]

  pub later_none : (tells : K → KidTells) (a b d : LoopState K) → IsQuiet tells a b × Counts a b → IsQuiet tells b d × Counts b d
      → IsQuiet tells a d × Counts a d
  later_none tells a b d g h = (quiet_two tells a b d g.0 h.0, counts_two a b d g.1 h.1)

  -- an event after quiet turns
  pub client_later : (tells : K → KidTells) (r : Option Event) (a b d : LoopState K) → IsQuiet tells a b → Counts a b
      → IfSome r (λ e. OfClient tells e b d × Counted e b d) → IfSome r (λ e. IsHeard tells e a d × Counted e a d)
  client_later tells None a b d q g h = tt
  client_later tells (Some e) a b d q g h = (heard_later tells e a b d q (inl h.0), counted_later e a b d g h.1)

  pub child_later_some : (tells : K → KidTells) (r : Option Event) (a b d : LoopState K) → IsQuiet tells a b → Counts a b
      → IfSome r (λ e. OfChild tells e b d × Counted e b d) → IfSome r (λ e. IsHeard tells e a d × Counted e a d)
  child_later_some tells None a b d q g h = tt
  child_later_some tells (Some e) a b d q g h = (heard_later tells e a b d q (inr (inl h.0)), counted_later e a b d g h.1)

  pub any_later : (tells : K → KidTells) (r : Option Event) (a b d : LoopState K) → IsQuiet tells a b → Counts a b
      → IfSome r (λ e. IsHeard tells e b d × Counted e b d) → IfSome r (λ e. IsHeard tells e a d × Counted e a d)
  any_later tells None a b d q g h = tt
  any_later tells (Some e) a b d q g h = (heard_later tells e a b d q h.0, counted_later e a b d g h.1)
