-- Quiet turns one after another, and an event after them.
use Rattle.std.proofs.Common.{◌≡◌, ◌∙◌, ◌⊎◌, inl, inr, ℕ, ◌≤◌, Bool, true, false, not, ◌&&◌, cond, List, [], ◌∷◌, filter, count_by, Option, Some, None, refl, sym, ap, subst, arith}
use Rattle.std.specs.Prelude.{⊤, IfSome}
use Rattle.host_base.specs.Outsides.{Rose}
use Rattle.host_trace.specs.declared.items.Event.{Event}
use Rattle.host_trace.specs.declared.items.Event.TheVariants.{StartFailed, Stop}
use Rattle.child_edge.specs.Kids.{KidTells}
use Rattle.child_edge.specs.declared.row.Row.{Row}
use Rattle.child_edge.specs.Rows.{OneSays, Each, Rests, IsQuiet as IsQuietRow, kept, is_kept, runs}
use Rattle.child_edge.proofs.Steps.{stays_two, marks_two}
use Rattle.child_edge.proofs.Later.{says_later as row_says_two}
use Rattle.child_edge.proofs.Lists.{each_stays}
use Rattle.socket_set.specs.Clients.{ClientState, Says, Rests as ClientRests}
use Rattle.socket_set.proofs.Sets.{rests_self, rests_two, says_two}
use Rattle.once_edge.specs.declared.asked.Asked.{Asked}
use Rattle.once_edge.specs.Once.{OnceState, ChildrenRest, SameDue, SameRest, StartFails, StartWants, IsRefused, IsQuiet, Counts, CutCounts, OfClient, OfChild, IsHeard, Counted, OnClient, OnChildren}

-- a list whose items all pass
keep_head : {A : Type 0} (p : A → Bool) (x : A) (xs : List A) → p x ≡ true → filter p xs ≡ xs → filter p (x ∷ xs) ≡ x ∷ xs
keep_head p x xs e f = rw e (ap (λ w. x ∷ w) f)

rose_more : (a b d : ℕ) → a ≤ b → Rose b d → Rose a d
rose_more a b d p q = omega (arith, p, q)

rose_on : (a b d : ℕ) → Rose a b → b ≤ d → Rose a d
rose_on a b d p q = omega (arith, p, q)

not_true : false ≡ true → ⊥
not_true e = cc

module _ {K : Type 0} where
  rows_two : (tells : K → KidTells) (r m s : Row K) → Rests tells r m → Rests tells m s → Rests tells r s
  rows_two tells r m s g h =
      record { stays = stays_two tells [] r m s g.stays h.stays; marks = marks_two r m s g.marks h.marks }

  each_two : (tells : K → KidTells) (a b d : List (Row K)) → Each (Rests tells) a b → Each (Rests tells) b d → Each (Rests tells) a d
  each_two tells [] [] d g h = h
  each_two tells [] (m ∷ b) d g h = absurd g
  each_two tells (r ∷ a) [] d g h = absurd g
  each_two tells (r ∷ a) (m ∷ b) [] g h = absurd h
  each_two tells (r ∷ a) (m ∷ b) (s ∷ d) g h = (rows_two tells r m s g.0 h.0, each_two tells a b d g.1 h.1)

  says_after : (tells : K → KidTells) (e : Event) (a b d : List (Row K)) → Each (Rests tells) a b → OneSays tells e b d → OneSays tells e a d
  says_after tells e [] [] d g h = absurd h
  says_after tells e [] (m ∷ b) d g h = absurd g
  says_after tells e (r ∷ a) [] d g h = absurd g
  says_after tells e (r ∷ a) (m ∷ b) [] g h = absurd h
  says_after tells e (r ∷ a) (m ∷ b) (s ∷ d) g h =
      elim h [
        | inl w ↦ inl (row_says_two tells r m s e g.0.stays g.0.marks w.0, each_two tells a b d g.1 w.1)
        | inr w ↦ inr (rows_two tells r m s g.0 w.0, says_after tells e a b d g.1 w.1)
      ]

  -- each of the rows is kept
  abbrev AllKept : List (Row K) → Type 0
  AllKept [] = ⊤
  AllKept (r ∷ rows) = (is_kept r ≡ true) × AllKept rows

  kept_case : (b : Bool) (r : Row K) (rest : List (Row K)) → (b ≡ true → is_kept r ≡ true) → AllKept rest → AllKept (cond b (r ∷ rest) rest)
  kept_case true r rest e h = (e refl, h)
  kept_case false r rest e h = h

  all_kept : (rows : List (Row K)) → AllKept (kept rows)
  all_kept [] = tt
  all_kept (r ∷ rows) = kept_case (is_kept r) r (kept rows) (λ e. e) (all_kept rows)

  same_kept : (tells : K → KidTells) (r s : Row K) → Rests tells r s → is_kept r ≡ true → is_kept s ≡ true
  same_kept tells r s h e = ap (λ m. not (m.exited && m.input_ended && m.output_ended)) h.marks ∙ e

  kept_rest : (tells : K → KidTells) (a b : List (Row K)) → AllKept a → Each (Rests tells) a b → kept b ≡ b
  kept_rest tells [] [] k g = refl
  kept_rest tells [] (m ∷ b) k g = absurd g
  kept_rest tells (r ∷ a) [] k g = absurd g
  kept_rest tells (r ∷ a) (m ∷ b) k g = keep_head is_kept m b (same_kept tells r m g.0 k.0) (kept_rest tells a b k.1 g.1)

  kept_once : (tells : K → KidTells) (a b : List (Row K)) → Each (Rests tells) (kept a) b → kept b ≡ b
  kept_once tells a b g = kept_rest tells (kept a) b (all_kept a) g

  pub children_quiet : (tells : K → KidTells) (a b : List (Row K)) → Each (IsQuietRow tells) (kept a) b → ChildrenRest tells a b
  children_quiet tells a b g = inr (each_stays tells (kept a) b g)

  children_more : (tells : K → KidTells) (a b d : List (Row K)) → Each (Rests tells) (kept a) b → ChildrenRest tells b d → ChildrenRest tells a d
  children_more tells a b d g h =
      elim h [
        | inl same ↦ inr (subst (λ w. Each (Rests tells) (kept a) w) (sym same) g)
        | inr more ↦ inr (each_two tells (kept a) b d g (subst (λ w. Each (Rests tells) w d) (kept_once tells a b g) more))
      ]

  pub children_two : (tells : K → KidTells) (a b d : List (Row K)) → ChildrenRest tells a b → ChildrenRest tells b d → ChildrenRest tells a d
  children_two tells a b d g h =
      elim g [
        | inl same ↦ subst (λ w. ChildrenRest tells w d) same h
        | inr rest ↦ children_more tells a b d rest h
      ]

  child_later : (tells : K → KidTells) (e : Event) (a b d : List (Row K)) → ChildrenRest tells a b → OneSays tells e (kept b) d → OneSays tells e (kept a) d
  child_later tells e a b d g h =
      elim g [
        | inl same ↦ subst (λ w. OneSays tells e (kept w) d) same h
        | inr rest ↦ says_after tells e (kept a) b d rest (subst (λ w. OneSays tells e w d) (kept_once tells a b rest) h)
      ]

  due_two : (a b d : OnceState K) → SameDue a b → SameDue b d → SameDue a d
  due_two a b d g h =
      record {
        peer = h.peer ∙ g.peer;
        starts = h.starts ∙ g.starts;
        unstarted = h.unstarted ∙ g.unstarted;
        tried = h.tried ∙ g.tried;
        stopped = h.stopped ∙ g.stopped;
      }

  pub quiet_self : (tells : K → KidTells) (a : OnceState K) → IsQuiet tells a a
  quiet_self tells a =
      record {
        client = rests_self a.client;
        rows = inl refl;
        due = record { peer = refl; starts = refl; unstarted = refl; tried = refl; stopped = refl };
      }

  pub quiet_two : (tells : K → KidTells) (a b d : OnceState K) → IsQuiet tells a b → IsQuiet tells b d → IsQuiet tells a d
  quiet_two tells a b d g h =
      record {
        client = rests_two a.client b.client d.client g.client h.client;
        rows = children_two tells a.rows b.rows d.rows g.rows h.rows;
        due = due_two a b d g.due h.due;
      }

  cut_two : (a b d : OnceState K) → Counts a b → Counts b d → CutCounts a.cut d.cut a.faults d.faults
  cut_two a b d g h =
      elim h.cut [
        | inl same ↦ elim g.cut [
          | inl was ↦ inl (same ∙ was)
          | inr rose ↦ inr (rose_on a.faults b.faults d.faults rose h.grown)
        ]
        | inr rose ↦ inr (rose_more a.faults b.faults d.faults g.grown rose)
      ]

  pub counts_self : (a : OnceState K) → Counts a a
  counts_self a = record { limit = refl; room = refl; grown = omega arith; cut = inl refl }

  pub counts_two : (a b d : OnceState K) → Counts a b → Counts b d → Counts a d
  counts_two a b d g h =
      record { limit = h.limit ∙ g.limit; room = h.room ∙ g.room; grown = omega (arith, g.grown, h.grown); cut = cut_two a b d g h }

  pub counted_later : (e : Event) (a b d : OnceState K) → Counts a b → Counted e b d → Counted e a d
  counted_later e a b d g h =
      record {
        counts = counts_two a b d g h.counts;
        failure = λ f. rose_more a.faults b.faults d.faults g.grown (h.failure f);
      }

  pub heard_later : (tells : K → KidTells) (e : Event) (a b d : OnceState K) → IsQuiet tells a b → IsHeard tells e b d → IsHeard tells e a d
  heard_later tells e a b d g h =
      elim h [
        | inl w ↦ inl (record {
          says = says_two 0 a.client b.client d.client e g.client w.says;
          rows = children_two tells a.rows b.rows d.rows g.rows w.rows;
          due = due_two a b d g.due w.due;
        })
        | inr v ↦ elim v [
          | inl w ↦ inr (inl (record {
            says = child_later tells e a.rows b.rows d.rows g.rows w.says;
            client = rests_two a.client b.client d.client g.client w.client;
            due = due_two a b d g.due w.due;
          }))
          | inr w ↦ inr (inr (
            w.0,
            record {
              quiet = quiet_two tells a b (record d { stopped = false }) g w.1.quiet;
              untold = sym g.due.stopped ∙ w.1.untold;
              told = w.1.told;
              shut = w.1.shut;
              none_runs = w.1.none_runs;
              none_asked = w.1.none_asked;
              sent = w.1.sent;
            },
          ))
        ]
      ]

  -- ---- the steps of one turn

  due_same : (a b : OnceState K) → b.peer ≡ a.peer → b.starts ≡ a.starts → b.unstarted ≡ a.unstarted → b.tried ≡ a.tried → b.stopped ≡ a.stopped → SameDue a b
  due_same a b p q r t u = record { peer = p; starts = q; unstarted = r; tried = t; stopped = u }

  pub child_quiet : (tells : K → KidTells) (a b : OnceState K) → OnChildren (λ rows now. Each (IsQuietRow tells) (kept rows) now) a b → IsQuiet tells a b
  child_quiet tells a b h =
      record {
        client = subst (λ w. ClientRests a.client w) (sym (ap (λ s. s.client) h.same)) (rests_self a.client);
        rows = children_quiet tells a.rows b.rows h.changed;
        due = due_same a b (ap (λ s. s.peer) h.same) (ap (λ s. s.starts) h.same) (ap (λ s. s.unstarted) h.same) (ap (λ s. s.tried) h.same) (ap (λ s. s.stopped) h.same);
      }

  counts_same : (a b : OnceState K) → b.limit ≡ a.limit → b.room ≡ a.room → b.faults ≡ a.faults → b.cut ≡ a.cut → Counts a b
  counts_same a b p m q r = record { limit = p; room = m; grown = omega (arith, q); cut = inl r }

  pub child_counts : (R : List (Row K) → List (Row K) → Type 0) (a b : OnceState K) → OnChildren R a b → Counts a b
  child_counts R a b h = counts_same a b (ap (λ s. s.limit) h.same) (ap (λ s. s.room) h.same) (ap (λ s. s.faults) h.same) (ap (λ s. s.cut) h.same)

  pub client_counts : (R : ClientState → ClientState → Type 0) (a b : OnceState K) → OnClient R a b → Counts a b
  client_counts R a b h = counts_same a b (ap (λ s. s.limit) h.same) (ap (λ s. s.room) h.same) (ap (λ s. s.faults) h.same) (ap (λ s. s.cut) h.same)

  pub child_said : (tells : K → KidTells) (e : Event) (a b d : OnceState K) → OnChildren (λ rows now. OneSays tells e (kept rows) now) a b
      → d ≡ record b { faults = d.faults; cut = d.cut } → OfChild tells e a d
  child_said tells e a b d h same =
      record {
        says = subst (λ w. OneSays tells e (kept a.rows) w) (sym (ap (λ s. s.rows) same)) h.changed;
        client = subst (λ w. ClientRests a.client w) (sym (ap (λ s. s.client) same ∙ ap (λ s. s.client) h.same)) (rests_self a.client);
        due = due_same a d
            (ap (λ s. s.peer) same ∙ ap (λ s. s.peer) h.same)
            (ap (λ s. s.starts) same ∙ ap (λ s. s.starts) h.same)
            (ap (λ s. s.unstarted) same ∙ ap (λ s. s.unstarted) h.same)
            (ap (λ s. s.tried) same ∙ ap (λ s. s.tried) h.same)
            (ap (λ s. s.stopped) same ∙ ap (λ s. s.stopped) h.same);
      }

  pub counted_child : (R : List (Row K) → List (Row K) → Type 0) (e : Event) (a b d : OnceState K) → OnChildren R a b → Counted e b d → Counted e a d
  counted_child R e a b d h g = counted_later e a b d (child_counts R a b h) g

  pub client_quiet : (tells : K → KidTells) (a b : OnceState K) → OnClient ClientRests a b → IsQuiet tells a b
  client_quiet tells a b h =
      record {
        client = h.changed;
        rows = inl (ap (λ s. s.rows) h.same);
        due = due_same a b (ap (λ s. s.peer) h.same) (ap (λ s. s.starts) h.same) (ap (λ s. s.unstarted) h.same) (ap (λ s. s.tried) h.same) (ap (λ s. s.stopped) h.same);
      }

  pub client_said : (tells : K → KidTells) (e : Event) (a b d : OnceState K) → OnClient (λ r s. Says 0 r s e) a b
      → d ≡ record b { faults = d.faults; cut = d.cut } → OfClient tells e a d
  client_said tells e a b d h same =
      record {
        says = subst (λ w. Says 0 a.client w e) (sym (ap (λ s. s.client) same)) h.changed;
        rows = inl (ap (λ s. s.rows) same ∙ ap (λ s. s.rows) h.same);
        due = due_same a d
            (ap (λ s. s.peer) same ∙ ap (λ s. s.peer) h.same)
            (ap (λ s. s.starts) same ∙ ap (λ s. s.starts) h.same)
            (ap (λ s. s.unstarted) same ∙ ap (λ s. s.unstarted) h.same)
            (ap (λ s. s.tried) same ∙ ap (λ s. s.tried) h.same)
            (ap (λ s. s.stopped) same ∙ ap (λ s. s.stopped) h.same);
      }

  pub counted_client : (R : ClientState → ClientState → Type 0) (e : Event) (a b d : OnceState K) → OnClient R a b → Counted e b d → Counted e a d
  counted_client R e a b d h g = counted_later e a b d (client_counts R a b h) g

  -- what waited could not be sent
  pub left_quiet : (tells : K → KidTells) (a b d : OnceState K) → OnClient ClientRests a b → d ≡ record b { faults = d.faults; cut = true } → IsQuiet tells a d
  left_quiet tells a b d h same =
      record {
        client = subst (λ w. ClientRests a.client w) (sym (ap (λ s. s.client) same)) h.changed;
        rows = inl (ap (λ s. s.rows) same ∙ ap (λ s. s.rows) h.same);
        due = due_same a d
            (ap (λ s. s.peer) same ∙ ap (λ s. s.peer) h.same)
            (ap (λ s. s.starts) same ∙ ap (λ s. s.starts) h.same)
            (ap (λ s. s.unstarted) same ∙ ap (λ s. s.unstarted) h.same)
            (ap (λ s. s.tried) same ∙ ap (λ s. s.tried) h.same)
            (ap (λ s. s.stopped) same ∙ ap (λ s. s.stopped) h.same);
      }

  pub left_counts : (a b d : OnceState K) → OnClient ClientRests a b → d ≡ record b { faults = d.faults; cut = true } → b.faults ≤ d.faults → Rose b.faults d.faults → Counts a d
  left_counts a b d h same grown rose =
      counts_two a b d (client_counts ClientRests a b h) (record { limit = ap (λ s. s.limit) same; room = ap (λ s. s.room) same; grown = grown; cut = inr rose })

  pub over_heard : (tells : K → KidTells) (a b : OnceState K) → b ≡ record a { stopped = true } → a.stopped ≡ false → a.client.shut ≡ true
      → count_by runs a.rows ≡ 0 → a.starts ≡ [] → (a.client.outgoing ≡ []) ⊎ (a.cut ≡ true) → IsHeard tells Stop a b
  over_heard tells a b same untold shut none none_asked sent =
      subst (λ w. IsHeard tells Stop a w) (sym same)
      (inr (inr (
        refl,
        record {
          quiet = record {
            client = rests_self a.client;
            rows = inl refl;
            due = record { peer = refl; starts = refl; unstarted = refl; tried = refl; stopped = sym untold };
          };
          untold = untold;
          told = refl;
          shut = shut;
          none_runs = none;
          none_asked = none_asked;
          sent = sent;
        },
      )))

  pub over_counted : (a b : OnceState K) → b ≡ record a { stopped = true } → Counted Stop a b
  over_counted a b same =
      subst (λ w. Counted Stop a w) (sym same)
      (record { counts = record { limit = refl; room = refl; grown = omega arith; cut = inl refl }; failure = λ f. absurd (not_true f) })

  -- a start that failed, and one that found no memory once the client was shut
  pub begin_fails : (asked : Asked) (e : Event) (a d : OnceState K) → e ≡ StartFailed asked.k
      → StartFails a d → d.unstarted ≡ a.unstarted → d.starts ≡ a.starts → SameRest a d → IsRefused asked e a d
  begin_fails asked e a d same fails u s r =
      subst (λ w. IsRefused asked w a d) (sym same)
      (record { refuses = (refl, inr (inl fails)); unstarted = u; starts = s; rest = r })

  pub begin_wants : (asked : Asked) (e : Event) (a d : OnceState K) → e ≡ StartFailed asked.k
      → a.client.shut ≡ true → StartWants a d → d.unstarted ≡ a.unstarted → d.starts ≡ a.starts → SameRest a d → IsRefused asked e a d
  begin_wants asked e a d same shut wants u s r =
      subst (λ w. IsRefused asked w a d) (sym same)
      (record { refuses = (refl, inr (inr (shut, wants))); unstarted = u; starts = s; rest = r })

  -- the same of what may have been told
  pub later : (tells : K → KidTells) (r : Option Event) (a b d : OnceState K) → IsQuiet tells a b × Counts a b
      → IfSome r (λ e. IsHeard tells e b d × Counted e b d) → IfSome r (λ e. IsHeard tells e a d × Counted e a d)
  later tells None a b d g h = tt
  later tells (Some e) a b d g h = (heard_later tells e a b d g.0 h.0, counted_later e a b d g.1 h.1)

  -- .. of a child
  pub child_later_some : (tells : K → KidTells) (r : Option Event) (a b d : OnceState K) → IsQuiet tells a b × Counts a b
      → IfSome r (λ e. OfChild tells e b d × Counted e b d) → IfSome r (λ e. IsHeard tells e a d × Counted e a d)
  child_later_some tells None a b d g h = tt
  child_later_some tells (Some e) a b d g h = (heard_later tells e a b d g.0 (inr (inl h.0)), counted_later e a b d g.1 h.1)

  pub later_none : (tells : K → KidTells) (a b d : OnceState K) → IsQuiet tells a b × Counts a b → IsQuiet tells b d × Counts b d → IsQuiet tells a d × Counts a d
  later_none tells a b d g h = (quiet_two tells a b d g.0 h.0, counts_two a b d g.1 h.1)

  pub if_client : (tells : K → KidTells) (r : Option Event) (a b : OnceState K) → IfSome r (λ e. OfClient tells e a b × Counted e a b)
      → IfSome r (λ e. IsHeard tells e a b × Counted e a b)
  if_client tells None a b h = tt
  if_client tells (Some e) a b h = (inl h.0, h.1)
