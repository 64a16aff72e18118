-- What is owed goes on with one item more.
use Rattle.std.proofs.Common.{◌≡◌, ◌⊎◌, ℕ, Bool, true, false, List, [], ◌∷◌, ◌++◌, Option, Some, None, refl, sym, ap, ◌∙◌, subst, append_assoc, append-nil, length, take, IfSome, inl, inr}
use Rattle.std.specs.Prelude.{◌||◌, ◌==◌, if◌then◌else◌}
use Rattle.std.specs.List.{concat, flat_map}
use Rattle.std.proofs.lemmas.Bool.{or_left, or_right, eq-eqb, cond-true, false≢true}
use Rattle.host_base.specs.declared.launch.Launch.{Launch}
use Rattle.host_base.specs.declared.site.DocRoot.{DocRoot}
use Rattle.host_trace.specs.declared.items.Act.{Act}
use Rattle.host_trace.specs.declared.items.Act.TheVariants.{Kill}
use Rattle.host_trace.specs.declared.items.Event.TheVariants.{ChildBytes, ChildEof, Exited, Started}
use Rattle.host_trace.specs.declared.items.Item.{Item}
use Rattle.host_trace.specs.declared.items.Item.TheVariants.{In, Out}
use Rattle.host_trace.specs.First.{last_of, or_else}
use Rattle.host_trace.specs.Kinds.{is_child_eof, is_exited, is_kill, is_start, output_heard}
use Rattle.host_trace.specs.Projections.{child_out, exited, killed, output_eof, start_stands}
use Rattle.host_trace.proofs.FirstLaws.{flat_map-push, last_of-append}
use Rattle.host_trace.proofs.ProjectionLaws.{child_out-push, exited-push, killed-push, output_eof-push, start_stands-push}
use Rattle.doc_files.specs.Held.{Held, served_output}
use Rattle.doc_files.specs.Served.{IsServed, is_document, is_over, launch_of, launched}
use Rattle.doc_files.specs.Owed.{IsLeft, IsUnheard, OwesAs, Owing, Rests, Takes, TakesOf, number_of}
use Rattle.doc_files.specs.declared.child.Output.{Output}
use Rattle.doc_files.specs.declared.child.Output.TheVariants.{Unread, Lost, Left}

or_none : (b : Bool) → (b || false) ≡ b
or_none true = refl
or_none false = refl

pub some_is : {A : Type 0} (a b : A) → Some a ≡ Some b → a ≡ b
some_is a b e = cc

pub front_of : (heard rest output : List ℕ) → heard ++ rest ≡ output → take (length heard) output ≡ heard
front_of heard rest output is = ap (take (length heard)) (sym is) ∙ front heard rest
  where
    front : (heard rest : List ℕ) → take (length heard) (heard ++ rest) ≡ heard
    front [] rest = refl
    front (byte ∷ heard) rest = ap (λ l. byte ∷ l) (front heard rest)

is_k : (k : ℕ) → (k == k) ≡ true
is_k k = eq-eqb k k refl

-- ---- one item more

module _ (T : List Item) (x : Item) (q : ℕ) where
  pub launch_push : launch_of (T ++ x ∷ []) q ≡ or_else (last_of (launched q x)) (launch_of T q)
  launch_push = ap last_of (flat_map-push (launched q) T x) ∙ last_of-append (flat_map (launched q) T) (launched q x)

  pub launch_rests : launched q x ≡ [] → launch_of (T ++ x ∷ []) q ≡ launch_of T q
  launch_rests e = launch_push ∙ ap (λ l. or_else (last_of l) (launch_of T q)) e

  pub out_rests : output_heard q x ≡ [] → child_out (T ++ x ∷ []) q ≡ child_out T q
  out_rests e = child_out-push T x q ∙ ap (λ l. child_out T q ++ l) e ∙ append-nil (child_out T q)

  pub end_rests : is_child_eof q x ≡ false → output_eof (T ++ x ∷ []) q ≡ output_eof T q
  end_rests e = output_eof-push T x q ∙ ap (λ b. output_eof T q || b) e ∙ or_none (output_eof T q)

  pub exit_rests : is_exited q x ≡ false → exited (T ++ x ∷ []) q ≡ exited T q
  exit_rests e = exited-push T x q ∙ ap (λ b. exited T q || b) e ∙ or_none (exited T q)

  pub stands_on : start_stands T q ≡ true → start_stands (T ++ x ∷ []) q ≡ true
  stands_on e = start_stands-push T x q ∙ or_left (start_stands T q) (is_start q x) e

  over_grown : (eof killed more dead : Bool) → (eof || killed) ≡ true → ((eof || more) || (killed || dead)) ≡ true
  over_grown true killed more dead e = refl
  over_grown false true more dead e = or_right more true refl
  over_grown false false more dead e = absurd (false≢true e)

  over_push : is_over (T ++ x ∷ []) q ≡ ((output_eof T q || is_child_eof q x) || (killed T q || is_kill q x))
  over_push = rw (output_eof-push T x q, killed-push T x q) refl

  pub over_on : is_over T q ≡ true → is_over (T ++ x ∷ []) q ≡ true
  over_on e = over_push ∙ over_grown (output_eof T q) (killed T q) (is_child_eof q x) (is_kill q x) e

  pub over_by_end : is_child_eof q x ≡ true → is_over (T ++ x ∷ []) q ≡ true
  over_by_end e = over_push ∙ or_left (output_eof T q || is_child_eof q x) (killed T q || is_kill q x) (or_right (output_eof T q) (is_child_eof q x) e)

  pub over_by_kill : is_kill q x ≡ true → is_over (T ++ x ∷ []) q ≡ true
  over_by_kill e = over_push ∙ or_right (output_eof T q || is_child_eof q x) (killed T q || is_kill q x) (or_right (killed T q) (is_kill q x) e)

  pub unheard_rests : Rests q x → IsUnheard T q → IsUnheard (T ++ x ∷ []) q
  unheard_rests r u = record { no_bytes = out_rests r.no_bytes ∙ u.no_bytes; no_end = end_rests r.no_end ∙ u.no_end }

  left_rests : Rests q x → (output : List ℕ) (left : List (List ℕ)) → IsLeft output left T q → IsLeft output left (T ++ x ∷ []) q
  left_rests r output left l = record {
    joined = ap (λ heard. heard ++ concat left) (out_rests r.no_bytes) ∙ l.joined;
    ended = λ e. l.ended (sym (end_rests r.no_end) ∙ e);
  }

  pub owing_rests : Rests q x → (held : Held) (docs : List DocRoot) (begun : Launch) (output : Output) → Owing held docs T q begun output
      → Owing held docs (T ++ x ∷ []) q begun output
  owing_rests r held docs begun (Unread launch) o = (o.0, unheard_rests r o.1)
  owing_rests r held docs begun Lost o = unheard_rests r o
  owing_rests r held docs begun (Left pieces) o = left_rests r (served_output held docs begun) pieces.items o

  pub served_rests : Rests q x → (output : List ℕ) → IsServed output T q → IsServed output (T ++ x ∷ []) q
  served_rests r output s = record {
    front = ap (λ heard. take (length heard) output) (out_rests r.no_bytes) ∙ s.front ∙ sym (out_rests r.no_bytes);
    whole = λ e. out_rests r.no_bytes ∙ s.whole (sym (end_rests r.no_end) ∙ e);
    exit = λ e. over_on (s.exit (sym (exit_rests r.no_exit) ∙ e));
  }

-- ---- a child, and an item of its own

module _ (held : Held) (docs : List DocRoot) (T : List Item) (k : ℕ) where
  pub owes_rests : (x : Item) (output : Output) (over : Bool) → Rests k x → OwesAs held docs T k output over
      → OwesAs held docs (T ++ x ∷ []) k output over
  owes_rests x output over r o = record {
    begun = o.begun;
    is = launch_rests T x k r.no_launch ∙ o.is;
    stands = stands_on T x k o.stands;
    document = o.document;
    owing = owing_rests T x k r held docs o.begun output o.owing;
    ends = λ e. over_on T x k (o.ends e);
    exit = λ e. over_on T x k (o.exit (sym (exit_rests T x k r.no_exit) ∙ e));
  }

  pub owes_killed : (output : Output) (over : Bool) → OwesAs held docs T k output over
      → OwesAs held docs (T ++ Out (Kill k) ∷ []) k output true
  owes_killed output over o =
      let now = owes_rests (Out (Kill k)) output over (record { no_start = refl; no_launch = refl; no_bytes = refl; no_end = refl; no_exit = refl }) o in
      record {
        begun = now.begun;
        is = now.is;
        stands = now.stands;
        document = now.document;
        owing = now.owing;
        ends = λ e. over_by_kill T (Out (Kill k)) k (is_k k);
        exit = now.exit;
      }

  pub owes_unread : (launch : Launch) (over : Bool) → OwesAs held docs T k (Unread launch) over → (launch_of T k ≡ Some launch) × OwesAs held docs T k Lost over
  owes_unread launch over o = (
    o.is ∙ ap Some (sym o.owing.0),
    record { begun = o.begun; is = o.is; stands = o.stands; document = o.document; owing = o.owing.1; ends = o.ends; exit = o.exit },
  )

  started_rests : Rests k (In (Started k))
  started_rests = record { no_start = refl; no_launch = refl; no_bytes = refl; no_end = refl; no_exit = refl }

  pub owes_read : (launch : Launch) (pieces : List (List ℕ)) (output : Output) (over : Bool) → launch_of T k ≡ Some launch → concat pieces ≡ served_output held docs launch
      → ((begun : Launch) (U : List Item) → IsLeft (served_output held docs begun) pieces U k → Owing held docs U k begun output)
      → OwesAs held docs T k Lost over → OwesAs held docs (T ++ In (Started k) ∷ []) k output over
  owes_read launch pieces output over is whole put o =
      let x : Item = In (Started k) in
      let heard : IsUnheard (T ++ x ∷ []) k = unheard_rests T x k started_rests o.owing in
      let same : launch ≡ o.begun = some_is launch o.begun (sym is ∙ o.is) in
      record {
        begun = o.begun;
        is = launch_rests T x k refl ∙ o.is;
        stands = stands_on T x k o.stands;
        document = o.document;
        owing = put o.begun (T ++ x ∷ []) (record {
          joined = ap (λ l. l ++ concat pieces) heard.no_bytes ∙ whole ∙ ap (served_output held docs) same;
          ended = λ e. absurd (false≢true (sym heard.no_end ∙ e));
        });
        ends = λ e. over_on T x k (o.ends e);
        exit = λ e. over_on T x k (o.exit (sym (exit_rests T x k refl) ∙ e));
      }

  bytes_joined : (bytes output : List ℕ) (left rest : List (List ℕ)) → left ≡ bytes ∷ rest → child_out T k ++ concat left ≡ output
      → child_out (T ++ In (ChildBytes k bytes) ∷ []) k ++ concat rest ≡ output
  bytes_joined bytes output left rest is joined =
      ap (λ heard. heard ++ concat rest) (child_out-push T (In (ChildBytes k bytes)) k ∙ ap (λ l. child_out T k ++ l) (cond-true _ _ _ (is_k k)))
      ∙ append_assoc (child_out T k) bytes (concat rest)
      ∙ ap (λ l. child_out T k ++ concat l) (sym is)
      ∙ joined

  pub owes_bytes : (bytes : List ℕ) (output rest : Output) (over : Bool) → TakesOf output (Some bytes) rest → OwesAs held docs T k output over
      → OwesAs held docs (T ++ In (ChildBytes k bytes) ∷ []) k rest over
  owes_bytes bytes (Left pieces) (Left rest) over takes o =
      let x : Item = In (ChildBytes k bytes) in
      record {
        begun = o.begun;
        is = launch_rests T x k refl ∙ o.is;
        stands = stands_on T x k o.stands;
        document = o.document;
        owing = record {
          joined = bytes_joined bytes (served_output held docs o.begun) pieces.items rest.items takes o.owing.joined;
          ended = λ e. absurd (some_left bytes pieces.items rest.items takes (o.owing.ended (sym (end_rests T x k refl) ∙ e)));
        };
        ends = λ e. over_on T x k (o.ends e);
        exit = λ e. over_on T x k (o.exit (sym (exit_rests T x k refl) ∙ e));
      }
    where
      some_left : (bytes : List ℕ) (left rest : List (List ℕ)) → left ≡ bytes ∷ rest → left ≡ [] → ⊥
      some_left bytes left rest is none = cc
  owes_bytes bytes (Left pieces) (Unread launch) over takes o = absurd takes
  owes_bytes bytes (Left pieces) Lost over takes o = absurd takes
  owes_bytes bytes (Unread launch) rest over takes o = absurd takes
  owes_bytes bytes Lost rest over takes o = absurd takes

  pub owes_end : (output rest : Output) (over : Bool) → TakesOf output None rest → OwesAs held docs T k output over
      → OwesAs held docs (T ++ In (ChildEof k) ∷ []) k rest true
  owes_end (Left pieces) (Left rest) over takes o =
      let x : Item = In (ChildEof k) in
      record {
        begun = o.begun;
        is = launch_rests T x k refl ∙ o.is;
        stands = stands_on T x k o.stands;
        document = o.document;
        owing = record {
          joined =
              ap (λ heard. heard ++ concat rest.items) (out_rests T x k refl)
              ∙ ap (λ l. child_out T k ++ concat l) (takes.1 ∙ sym takes.0)
              ∙ o.owing.joined;
          ended = λ e. takes.1;
        };
        ends = λ e. over_by_end T x k (is_k k);
        exit = λ e. over_by_end T x k (is_k k);
      }
  owes_end (Left pieces) (Unread launch) over takes o = absurd takes
  owes_end (Left pieces) Lost over takes o = absurd takes
  owes_end (Unread launch) rest over takes o = absurd takes
  owes_end Lost rest over takes o = absurd takes

  pub owes_exit : (output : Output) (over : Bool) → over ≡ true → OwesAs held docs T k output over → OwesAs held docs (T ++ In (Exited k) ∷ []) k output over
  owes_exit output over is o =
      let x : Item = In (Exited k) in
      record {
        begun = o.begun;
        is = launch_rests T x k refl ∙ o.is;
        stands = stands_on T x k o.stands;
        document = o.document;
        owing = owing_exit o.begun output o.owing;
        ends = λ e. over_on T x k (o.ends e);
        exit = λ e. over_on T x k (o.ends is);
      }
    where
      heard : IsUnheard T k → IsUnheard (T ++ In (Exited k) ∷ []) k
      heard u = record { no_bytes = out_rests T (In (Exited k)) k refl ∙ u.no_bytes; no_end = end_rests T (In (Exited k)) k refl ∙ u.no_end }

      owing_exit : (begun : Launch) (output : Output) → Owing held docs T k begun output → Owing held docs (T ++ In (Exited k) ∷ []) k begun output
      owing_exit begun (Unread launch) o = (o.0, heard o.1)
      owing_exit begun Lost o = heard o
      owing_exit begun (Left pieces) o = record {
        joined = ap (λ l. l ++ concat pieces.items) (out_rests T (In (Exited k)) k refl) ∙ o.joined;
        ended = λ e. o.ended (sym (end_rests T (In (Exited k)) k refl) ∙ e);
      }

  -- what is owed is served
  pub owes_serves : (output : Output) (over : Bool) (launch : Launch) → OwesAs held docs T k output over → launch_of T k ≡ Some launch
      → IsServed (served_output held docs launch) T k
  owes_serves output over launch o is = subst (λ l. IsServed (served_output held docs l) T k) (some_is o.begun launch (sym o.is ∙ is)) (served output o.owing)
    where
      unheard : IsUnheard T k → IsServed (served_output held docs o.begun) T k
      unheard u = record {
        front = front_of (child_out T k) (served_output held docs o.begun) (served_output held docs o.begun) (ap (λ heard. heard ++ served_output held docs o.begun) u.no_bytes);
        whole = λ e. absurd (false≢true (sym u.no_end ∙ e));
        exit = o.exit;
      }

      served : (output : Output) → Owing held docs T k o.begun output → IsServed (served_output held docs o.begun) T k
      served (Unread launch) w = unheard w.1
      served Lost w = unheard w
      served (Left pieces) w = record {
        front = front_of (child_out T k) (concat pieces.items) (served_output held docs o.begun) w.joined;
        whole = λ e. sym (append-nil (child_out T k)) ∙ ap (λ l. child_out T k ++ concat l) (sym (w.ended e)) ∙ w.joined;
        exit = o.exit;
      }

-- an act on k that kills
pub is_kill_of : (act : Act) (d k : ℕ) → act ≡ Kill d → number_of act ≡ Some k → act ≡ Kill k
is_kill_of act d k is names = is ∙ ap Kill (some_is d k (sym (ap number_of is) ∙ names))

-- what two facts of a value say together
pub both_some : {A : Type 0} (o : Option A) (P Q R : A → Type 0) → IfSome o P → IfSome o Q → ((a : A) → P a → Q a → R a) → IfSome o R
both_some None P Q R p q f = tt
both_some (Some a) P Q R p q f = f a p q
