-- What a run makes of an item that may decide it, and what the rules on traces make of it.
use Rattle.std.proofs.Common.{◌≡◌, ℕ, ◌+◌, ◌-◌, ◌≤◌, List, [], ◌∷◌, ◌++◌, Bool, true, false, ◌||◌, ◌&&◌, refl, sym, ◌∙◌, ap, arith, Option, Some, None, length, length-append, subst, inl, inr}
use Rattle.std.specs.Prelude.{if◌then◌else◌, ◌==◌, not, nat_lt, is_some, option_map, option_and_then}
use Rattle.std.proofs.lemmas.Bool.{cases_Bool, and_parts, not-true}
use Rattle.std.proofs.lemmas.Bool.Decides.{nat_tests}
use Rattle.host_base.specs.declared.cause.Cause.TheVariants.{StartFailed as StartFailedCause, OutputBroken, OutputTooLarge, RunTime, Full, Incomplete}
use Rattle.host_trace.specs.declared.items.Event.TheVariants.{ClientEof, ClientGone, StartFailed, StartFull, ChildBytes, ChildEof, ChildBroken, WsText, WsBinary, WsBad, NoRoom, Tick, Stop}
use Rattle.host_trace.specs.declared.items.Act.TheVariants.{Shut}
use Rattle.host_trace.specs.declared.items.Item.{Item}
use Rattle.host_trace.specs.declared.items.Item.TheVariants.{In, Out}
use Rattle.host_trace.specs.First.{since, last_of, or_else}
use Rattle.host_trace.specs.Kinds.{is_start, is_child_eof, is_no_memory, output_heard}
use Rattle.host_trace.specs.Projections.{child_out, tick_count, shut, start_stands}
use Rattle.host_trace.specs.Decider.{decides, is_websocket, is_long_text, makes_long_line}
use Rattle.host_trace.proofs.FirstLaws.{first_front-push, last_of-append}
use Rattle.host_trace.proofs.ProjectionLaws.{child_out-push}
use Rattle.trace_child.specs.Run.{Run}
use Rattle.trace_child.specs.Decided.{decides_run, cuts_body_short, decided_at, outcome_at, outcome_of, is_decided, is_by_output, is_output_end_of}
use Rattle.child_core.specs.declared.ending.Outcome.{Outcome}
use Rattle.child_core.specs.declared.ending.Outcome.TheVariants.{Output, Failed, Gone, Stopped, Dropped}
use Rattle.child_core.specs.View.{View, Note, is_output, chosen, by_bytes, verdict}
use Rattle.child_core.specs.Setting.{Setting, run_in}
use Rattle.child_core.specs.Knows.{read}

same_if : {X : Type 0} {a : X} (b : Bool) → a ≡ (if b then a else a)
same_if true = refl
same_if false = refl

or_false : (a : Bool) → (a || false) ≡ a
or_false true = refl
or_false false = refl

and_false : (a : Bool) → (a && false) ≡ false
and_false true = refl
and_false false = refl

some_chosen : (b : Bool) (o : Outcome) → is_some (chosen b o) ≡ b
some_chosen true o = refl
some_chosen false o = refl

some_bytes : (refused long : Bool) → is_some (by_bytes true refused long) ≡ refused
some_bytes true long = refl
some_bytes false long = refl

-- ---- the limits, as they are counted down

lt_left : (most h len : ℕ) → h ≤ most → nat_lt most (h + len) ≡ nat_lt (most - h) len
lt_left most h len le = grind (arith, nat_tests)

eq_left : (most n : ℕ) → (n + 1 == most) ≡ (most - n == 1)
eq_left most n = grind (arith, nat_tests)

heard_len : (k : ℕ) (S : List Item) (x : Item) → length (child_out (S ++ x ∷ []) k) ≡ length (child_out S k) + length (output_heard k x)
heard_len k S x = ap length (child_out-push S x k) ∙ length-append (child_out S k) (output_heard k x)

passes_is : (most left k d : ℕ) (S : List Item) (bytes : List ℕ) → length (child_out S k) ≤ most → left ≡ most - length (child_out S k) →
    (k == d && nat_lt most (length (child_out (S ++ In (ChildBytes d bytes) ∷ []) k))) ≡ (k == d && nat_lt left (length bytes))
passes_is most left k d S bytes le is = elim (cases_Bool (k == d)) [
  | inl same ↦
      let len : length (child_out (S ++ In (ChildBytes d bytes) ∷ []) k) ≡ length (child_out S k) + length bytes =
      heard_len k S (In (ChildBytes d bytes)) ∙ ap (λ b. length (child_out S k) + length (if b then bytes else [])) same in
      ap (λ n. k == d && nat_lt most n) len ∙ (ap (λ b. k == d && b) (lt_left most (length (child_out S k)) (length bytes) le) ∙ ap (λ n. k == d && nat_lt n (length bytes)) (sym is))
  | inr other ↦ rw other refl
]

-- ---- which items decide

-- what a run that nothing decided knows of the items since its Start
pub record Counts (s : Setting) (v : View) (n : Note) (L : List Item) (x : Item) : Type 0 where
  pub left : is_websocket v.kind ≡ false → v.output_left ≡ s.limits.output - length (child_out (since (is_start v.number) L) v.number)
  pub within : is_websocket v.kind ≡ false → length (child_out (since (is_start v.number) L) v.number) ≤ s.limits.output
  pub time : is_websocket v.kind ≡ false → v.run_left ≡ s.limits.run_ticks - tick_count (since (is_start v.number) L)
  pub whole : is_websocket v.kind ≡ false → v.whole ≡ (s.offered L).whole
  pub talk : is_websocket v.kind ≡ true → (s.offered L).whole ≡ true
  pub refused : is_websocket v.kind ≡ true → n.refused ≡ (not (shut (since (is_start v.number) L) s.conn) && (is_long_text s.limits s.conn x || makes_long_line s.limits v.number (since (is_start v.number) L) x))

abbrev row : Setting → View → List Item → Item → Bool
row s v L x = decides s.limits v.kind s.conn v.number (since (is_start v.number) L) x || cuts_body_short (run_in s v) L x

-- of a script of RFC 3875
row_plain : (s : Setting) (v : View) (n : Note) (L : List Item) (x : Item) → is_websocket v.kind ≡ false → Counts s v n L x → row s v L x ≡ is_some (verdict s.conn v n x)
row_plain s v n L (In (ChildEof d)) w t = rw w (simp (or_false, some_chosen))
row_plain s v n L (In (StartFailed d)) w t = rw w (simp (or_false, some_chosen))
row_plain s v n L (In (StartFull d seen)) w t = rw w (simp (or_false, some_chosen))
row_plain s v n L (In (ChildBroken d)) w t = rw w (simp (or_false, some_chosen))
row_plain s v n L (In (ChildBytes d bytes)) w t =
    let p = passes_is s.limits.output v.output_left v.number d (since (is_start v.number) L) bytes (t.within w) (t.left w) in
    rw w (simp (or_false, some_chosen) p)
row_plain s v n L (In (Tick secs)) w t =
    let e : (tick_count (since (is_start v.number) L) + 1 == s.limits.run_ticks) ≡ (v.run_left == 1) =
    eq_left s.limits.run_ticks (tick_count (since (is_start v.number) L)) ∙ ap (λ m. m == 1) (sym (t.time w)) in
    rw w (simp (or_false, some_chosen) e)
row_plain s v n L (In Stop) w t = refl
row_plain s v n L (In (ClientGone d)) w t = rw w (simp (or_false, some_chosen))
row_plain s v n L (In (ClientEof d)) w t =
    let e : (s.conn == d && not (s.offered L).whole) ≡ (s.conn == d && not v.whole) = ap (λ b. s.conn == d && not b) (sym (t.whole w)) in
    rw w (simp (or_false, some_chosen) e)
row_plain s v n L (In (WsBinary d)) w t = rw w (simp (or_false, some_chosen))
row_plain s v n L (In (WsBad d)) w t = rw w (simp (or_false, some_chosen))
row_plain s v n L (In (NoRoom d)) w t = rw w (simp (or_false, some_chosen))
row_plain s v n L (Out (Shut d why)) w t = rw w (simp (or_false, some_chosen))
row_plain s v n L (In (WsText d bytes)) w t = rw w refl
row_plain s v n L x w t = rw w refl

-- of a WebSocket's program
row_talk : (s : Setting) (v : View) (n : Note) (L : List Item) (x : Item) → is_websocket v.kind ≡ true → Counts s v n L x → row s v L x ≡ is_some (verdict s.conn v n x)
row_talk s v n L (In (ChildEof d)) w t = rw w (simp (or_false, and_false, some_chosen))
row_talk s v n L (In (StartFailed d)) w t = rw w (simp (or_false, and_false, some_chosen))
row_talk s v n L (In (StartFull d seen)) w t = rw w (simp (or_false, and_false, some_chosen))
row_talk s v n L (In (ChildBroken d)) w t = rw w (simp (or_false, and_false, some_chosen))
row_talk s v n L (In (ChildBytes d bytes)) w t = let r = sym (t.refused w) in rw w (simp (or_false, and_false, some_bytes) r)
row_talk s v n L (In (Tick secs)) w t = rw w (simp (or_false, and_false, some_chosen))
row_talk s v n L (In Stop) w t = refl
row_talk s v n L (In (ClientGone d)) w t = rw w (simp (or_false, and_false, some_chosen))
row_talk s v n L (In (ClientEof d)) w t = rw (w, t.talk w) (simp (or_false, and_false, some_chosen))
row_talk s v n L (In (WsBinary d)) w t = rw w (simp (or_false, and_false, some_chosen))
row_talk s v n L (In (WsBad d)) w t = rw w (simp (or_false, and_false, some_chosen))
row_talk s v n L (In (NoRoom d)) w t = rw w (simp (or_false, and_false, some_chosen))
row_talk s v n L (Out (Shut d why)) w t = rw w (simp (or_false, and_false, some_chosen))
row_talk s v n L (In (WsText d bytes)) w t = let r = simp or_false at (sym (t.refused w)) in rw w (simp (or_false, and_false, some_chosen) r)
row_talk s v n L x w t = rw w (simp (or_false, and_false))

pub row_is : (s : Setting) (v : View) (n : Note) (L : List Item) (x : Item) → Counts s v n L x → start_stands L v.number ≡ true → decides_run (run_in s v) L x ≡ is_some (verdict s.conn v n x)
row_is s v n L x t begun = elim (cases_Bool (is_websocket v.kind)) [
  | inl w ↦ rw begun (row_talk s v n L x w t)
  | inr w ↦ rw begun (row_plain s v n L x w t)
]

-- ---- what is made of the run

-- the outcome is that of the item
pub record Reads (run : Run) (x : Item) (outcome : Outcome) : Type 0 where
  pub read : read outcome ≡ outcome_at run x
  pub output : is_output (Some outcome) ≡ is_child_eof run.child x

some_of : (b : Bool) (o w : Outcome) → chosen b o ≡ Some w → (b ≡ true) × (o ≡ w)
some_of true o w e = (refl, cc)
some_of false o w e = absurd (cc)

module _ (s : Setting) (v : View) where
  reads_of : (x : Item) (b : Bool) (o w : Outcome) → chosen b o ≡ Some w → (b ≡ true → Reads (run_in s v) x o) → Reads (run_in s v) x w
  reads_of x b o w e f = let p = some_of b o w e in subst (Reads (run_in s v) x) p.1 (f p.0)

  of_bytes : (x : Item) (ws refused long : Bool) (w : Outcome) → by_bytes ws refused long ≡ Some w → (ws ≡ true → Reads (run_in s v) x Dropped) →
      (ws ≡ false → long ≡ true → Reads (run_in s v) x (Failed OutputTooLarge)) → Reads (run_in s v) x w
  of_bytes x true refused long w e f g = reads_of x refused Dropped w e (λ _. f refl)
  of_bytes x false refused long w e f g = reads_of x long (Failed OutputTooLarge) w e (g refl)

  pub verdict_reads : (n : Note) (x : Item) (w : Outcome) → verdict s.conn v n x ≡ Some w → Reads (run_in s v) x w
  verdict_reads n (In (ChildEof d)) w e = reads_of _ (v.number == d) Output w e (λ t. record { read = rw t refl; output = sym t })
  verdict_reads n (In (StartFailed d)) w e = reads_of _ (v.number == d) (Failed StartFailedCause) w e (λ t. record { read = rw t refl; output = refl })
  verdict_reads n (In (StartFull d seen)) w e = reads_of _ (v.number == d) (Failed (Full seen)) w e (λ t. record { read = rw t refl; output = refl })
  verdict_reads n (In (ChildBroken d)) w e = reads_of _ (v.number == d) (Failed OutputBroken) w e (λ t. record { read = rw t refl; output = refl })
  verdict_reads n (In (ChildBytes d bytes)) w e = of_bytes _ (is_websocket v.kind) n.refused (v.number == d && nat_lt v.output_left (length bytes)) w e
      (λ ws. record { read = rw ws refl; output = refl })
      (λ ws t. record { read = rw (ws, (and_parts (v.number == d) (nat_lt v.output_left (length bytes)) t).0) refl; output = refl })
  verdict_reads n (In (Tick secs)) w e = reads_of _ (not (is_websocket v.kind) && v.run_left == 1) (Failed RunTime) w e
      (λ t. record { read = rw (not-true (is_websocket v.kind) (and_parts (not (is_websocket v.kind)) (v.run_left == 1) t).0) refl; output = refl })
  verdict_reads n (In Stop) w e = reads_of _ true Stopped w e (λ _. record { read = same_if (is_websocket v.kind); output = refl })
  verdict_reads n (In (ClientGone d)) w e = reads_of _ (s.conn == d) Gone w e (λ _. record { read = same_if (is_websocket v.kind); output = refl })
  verdict_reads n (In (ClientEof d)) w e = reads_of _ (s.conn == d && (not (is_websocket v.kind) && not v.whole)) (Failed Incomplete) w e
      (λ t. record { read = rw (and_parts (s.conn == d) (not (is_websocket v.kind) && not v.whole) t).0 refl; output = refl })
  verdict_reads n (In (WsText d bytes)) w e = reads_of _ (is_websocket v.kind && n.refused) Dropped w e (λ _. record { read = same_if (is_websocket v.kind); output = refl })
  verdict_reads n (In (WsBinary d)) w e = reads_of _ (s.conn == d) Dropped w e (λ _. record { read = same_if (is_websocket v.kind); output = refl })
  verdict_reads n (In (WsBad d)) w e = reads_of _ (s.conn == d) Gone w e (λ _. record { read = same_if (is_websocket v.kind); output = refl })
  verdict_reads n (In (NoRoom d)) w e = reads_of _ (s.conn == d) Dropped w e (λ _. record { read = same_if (is_websocket v.kind); output = refl })
  verdict_reads n (Out (Shut d why)) w e = reads_of _ (s.conn == d && is_no_memory why) Dropped w e (λ _. record { read = same_if (is_websocket v.kind); output = refl })
  verdict_reads n x w e = absurd (cc)

-- ---- one more item

-- the outcome that a run has is that of the list
pub record Stands (run : Run) (L : List Item) (o : Option Outcome) : Type 0 where
  pub decided : is_decided run L ≡ is_some o
  pub by_output : is_by_output run L ≡ is_output o
  pub outcome : outcome_of run L ≡ option_map read o

pub at_pushed : (run : Run) (L : List Item) (x : Item) → decided_at run (L ++ x ∷ []) ≡ or_else (decided_at run L) (if decides_run run L x then Some (L ++ x ∷ []) else None)
at_pushed run L x = first_front-push (decides_run run) L x

abbrev by_front : Run → Option (List Item) → Option Outcome → Type 0
by_front run f o = (is_some f ≡ is_some o) × (is_output_end_of run (option_and_then last_of f) ≡ is_output o) × (option_map (outcome_at run) (option_and_then last_of f) ≡ option_map read o)

last_is : (L : List Item) (x : Item) → last_of (L ++ x ∷ []) ≡ Some x
last_is L x = last_of-append L (x ∷ [])

pushed : (run : Run) (L : List Item) (x : Item) (f : Option (List Item)) (o w : Option Outcome) (b : Bool) → by_front run f o →
    (is_some o ≡ false → b ≡ is_some w) → (is_some o ≡ false → (d : Outcome) → w ≡ Some d → Reads run x d) →
    by_front run (or_else f (if b then Some (L ++ x ∷ []) else None)) (or_else o w)
pushed run L x (Some f) (Some o) w b is rules reads = is
pushed run L x (Some f) None w b is rules reads = absurd (let e = is.0 in cc)
pushed run L x None (Some o) w b is rules reads = absurd (let e = is.0 in cc)
pushed run L x None None None b is rules reads = rw (rules refl) is
pushed run L x None None (Some d) b is rules reads =
    let r = reads refl d refl in
    rw (rules refl, last_is L x) (refl, sym r.output, ap Some (sym r.read))

pub Stands-push : (run : Run) (L : List Item) (x : Item) (o w : Option Outcome) → Stands run L o → (is_some o ≡ false → decides_run run L x ≡ is_some w) →
    (is_some o ≡ false → (d : Outcome) → w ≡ Some d → Reads run x d) → Stands run (L ++ x ∷ []) (or_else o w)
Stands-push run L x o w is rules reads =
    let p = subst (λ f. by_front run f (or_else o w)) (sym (at_pushed run L x)) (pushed run L x (decided_at run L) o w (decides_run run L x) (is.decided, is.by_output, is.outcome) rules reads) in
    record { decided = p.0; by_output = p.1; outcome = p.2 }
