-- What an outside keeps of its trace, of its inner one's and of its document children goes on with one event or act more.
use Rattle.std.proofs.Common.{◌≡◌, ℕ, Bool, true, false, List, [], ◌∷◌, ◌++◌, Option, Some, None, refl, sym, ap, ◌∙◌, subst, inl, inr}
use Rattle.std.specs.Prelude.{◌||◌, ◌&&◌, ◌==◌, not, if◌then◌else◌}
use Rattle.std.proofs.lemmas.Bool.{cases_Bool, eqb-true, eq-eqb, cond-false, cond-true, false≢true, or_left, or_right, and_parts}
use Rattle.host_base.specs.declared.launch.Launch.{Launch}
use Rattle.host_base.specs.declared.site.DocRoot.{DocRoot}
use Rattle.host_trace.specs.declared.items.Act.{Act}
use Rattle.host_trace.specs.declared.items.Act.TheVariants.{WantClient, Write, Shut, Start, Feed, EndInput, WantChild, Kill, Release, Upgrade, Says, CloseWs}
use Rattle.host_trace.specs.declared.items.Event.{Event}
use Rattle.host_trace.specs.declared.items.Event.TheVariants.{Accepted, ClientBytes, ClientEof, ClientGone, Wrote, Started, StartFailed, StartFull, ChildBytes, ChildEof, ChildBroken, Took, InputGone, Exited, WsText, WsBinary, WsClosed, WsBad, NoRoom, Tick, Stop}
use Rattle.host_trace.specs.declared.items.Item.{Item}
use Rattle.host_trace.specs.declared.items.Item.TheVariants.{In, Out}
use Rattle.host_trace.specs.First.{last_of, or_else}
use Rattle.host_trace.specs.Fits.{fits, is_output_asked, is_piece, is_start_open, may_take}
use Rattle.host_trace.specs.Kinds.{is_start, is_started}
use Rattle.host_trace.specs.Projections.{child_in, child_wanted, exited, input_ended, output_ended, start_answered, start_stands, started, took_sum}
use Rattle.host_trace.proofs.ProjectionLaws.{start_stands-push, started-push}
use Rattle.doc_files.specs.Held.{Held}
use Rattle.doc_files.specs.Served.{is_document, launch_of, launched}
use Rattle.doc_files.specs.Owed.{IsBeside, IsOrderly, IsUnbegun, IsUnheard, Keeps, Knows, Rests, begins_once, starts_document}
use Rattle.doc_files.specs.declared.child.Child.{Child}
use Rattle.doc_files.proofs.OwedLaws.{exit_rests, launch_push, launch_rests, out_rests, end_rests, some_is, stands_on, unheard_rests}
use Rattle.doc_files.proofs.KnowsLaws.{act_rests, knows_off, start_rests, two_of, unlaunched}

or_none : (b : Bool) → (b || false) ≡ b
or_none true = refl
or_none false = refl

not_off : (b : Bool) → not b ≡ true → b ≡ false
not_off true h = absurd (false≢true h)
not_off false h = refl

or_off : (a b : Bool) → (a || b) ≡ false → (a ≡ false) × (b ≡ false)
or_off true b h = absurd (false≢true (sym h))
or_off false b h = (refl, h)

-- ---- an event

-- the event is not of a child that was not started
pub record IsQuiet (k : ℕ) (e : Event) : Type 0 where
  pub no_start : is_started k (In e) ≡ false
  pub rests : Rests k (In e)

plain : (k : ℕ) (e : Event) → is_started k (In e) ≡ false → Rests k (In e) → IsQuiet k e
plain k e s r = record { no_start = s; rests = r }

module _ (limit : ℕ) (T : List Item) (k : ℕ) (fresh : start_stands T k ≡ false) (u : IsUnbegun T k) where
  open_other : (d : ℕ) → is_start_open T d ≡ true → (k == d) ≡ false
  open_other d h = flip (two_of (start_stands T) d k (and_parts (start_stands T d) (not (start_answered T d)) h).0 fresh)
    where
      flip : (d == k) ≡ false → (k == d) ≡ false
      flip h =
          elim (cases_Bool (k == d)) [
            | inl same ↦ absurd (false≢true (sym h ∙ eq-eqb d k (sym (eqb-true k d same))))
            | inr other ↦ other
          ]

  started_other : (d : ℕ) → started T d ≡ true → (k == d) ≡ false
  started_other d h =
      elim (cases_Bool (k == d)) [
        | inl same ↦ absurd (false≢true (sym u.no_start ∙ ap (started T) (eqb-true k d same) ∙ h))
        | inr other ↦ other
      ]

  asked_started : (d : ℕ) → is_output_asked T d ≡ true → started T d ≡ true
  asked_started d h = (and_parts (started T d) (not (output_ended T d)) (and_parts (started T d && not (output_ended T d)) (child_wanted T d) h).0).0

  pub quiet : (e : Event) → fits limit T e ≡ true → IsQuiet k e
  quiet (Started d) h = record { no_start = open_other d h; rests = record { no_start = refl; no_launch = refl; no_bytes = refl; no_end = refl; no_exit = refl } }
  quiet (ChildBytes d bytes) h = record {
    no_start = refl;
    rests = record {
      no_start = refl;
      no_launch = refl;
      no_bytes = cond-false _ _ _ (started_other d (asked_started d (and_parts (is_output_asked T d) (is_piece bytes) h).0));
      no_end = refl;
      no_exit = refl;
    };
  }
  quiet (ChildEof d) h = record {
    no_start = refl;
    rests = record { no_start = refl; no_launch = refl; no_bytes = refl; no_end = started_other d (asked_started d h); no_exit = refl };
  }
  quiet (Exited d) h = record {
    no_start = refl;
    rests = record { no_start = refl; no_launch = refl; no_bytes = refl; no_end = refl; no_exit = started_other d (and_parts (started T d) (not (exited T d)) h).0 };
  }
  quiet _ h = record { no_start = refl; rests = record { no_start = refl; no_launch = refl; no_bytes = refl; no_end = refl; no_exit = refl } }

-- an event is no Start
event_stands : (T : List Item) (e : Event) (k : ℕ) → start_stands (T ++ In e ∷ []) k ≡ start_stands T k
event_stands T e k = start_stands-push T (In e) k ∙ or_none (start_stands T k)

unbegun_on : (T : List Item) (x : Item) (k : ℕ) → is_started k x ≡ false → Rests k x → IsUnbegun T k → IsUnbegun (T ++ x ∷ []) k
unbegun_on T x k s r u = record {
  no_start = started-push T x k ∙ ap (λ b. started T k || b) s ∙ or_none (started T k) ∙ u.no_start;
  unheard = unheard_rests T x k r u.unheard;
  no_exit = exit_rests T x k r.no_exit ∙ u.no_exit;
}

orderly_hears : (limit : ℕ) (T : List Item) (e : Event) → fits limit T e ≡ true → IsOrderly T → IsOrderly (T ++ In e ∷ [])
orderly_hears limit T e fit o k fresh =
    let before : start_stands T k ≡ false = sym (event_stands T e k) ∙ fresh in
    let u = o k before in
    let q = quiet limit T k before u e fit in
    unbegun_on T (In e) k q.no_start q.rests u

event_launch : (T : List Item) (e : Event) (k : ℕ) → launch_of (T ++ In e ∷ []) k ≡ launch_of T k
event_launch T e k = launch_rests T (In e) k refl

module _ (held : Held) (docs : List DocRoot) (T U : List Item) (cs : List Child) (keeps : Keeps held docs T U cs) where
  -- an event of a document's child
  pub keeps_own : (new : List Child) (limit : ℕ) (e : Event) → fits limit T e ≡ true → Knows held docs (T ++ In e ∷ []) new → Keeps held docs (T ++ In e ∷ []) U new
  keeps_own new limit e fit known = record {
    known = known;
    orderly = orderly_hears limit T e fit keeps.orderly;
    inner = keeps.inner;
    beside = record {
      among = λ k h. stands_on T (In e) k (keeps.beside.among k h);
      other = λ k launch is doc. keeps.beside.other k launch (sym (event_launch T e k) ∙ is) doc;
    };
  }

  -- an event of the inner outside
  pub keeps_inner : (limit below : ℕ) (e : Event) → fits limit T e ≡ true → fits below U e ≡ true → Keeps held docs (T ++ In e ∷ []) (U ++ In e ∷ []) cs
  keeps_inner limit below e fit fit_there = record {
    known =
        knows_off held docs T (In e) cs
        (λ q launch is doc.
        let fresh = keeps.beside.other q launch is doc in
        (quiet below U q fresh (keeps.inner q fresh) e fit_there).rests)
        (λ q launch is doc. sym (event_launch T e q) ∙ is) keeps.known;
    orderly = orderly_hears limit T e fit keeps.orderly;
    inner = orderly_hears below U e fit_there keeps.inner;
    beside = record {
      among = λ k h. stands_on T (In e) k (keeps.beside.among k (sym (event_stands U e k) ∙ h));
      other = λ k launch is doc. event_stands U e k ∙ keeps.beside.other k launch (sym (event_launch T e k) ∙ is) doc;
    };
  }

-- ---- an act

-- no act says that a child was started, nor what it said
act_unbegun : (T : List Item) (act : Act) → IsOrderly T → IsOrderly (T ++ Out act ∷ [])
act_unbegun T act o k fresh =
    let was = (or_off (start_stands T k) (is_start k (Out act)) (sym (start_stands-push T (Out act) k) ∙ fresh)).0 in
    let u = o k was in
    record {
      no_start = started-push T (Out act) k ∙ or_none (started T k) ∙ u.no_start;
      unheard = record { no_bytes = out_rests T (Out act) k refl ∙ u.unheard.no_bytes; no_end = end_rests T (Out act) k refl ∙ u.unheard.no_end };
      no_exit = exit_rests T (Out act) k refl ∙ u.no_exit;
    }

module _ (held : Held) (docs : List DocRoot) (T U : List Item) (cs : List Child) (keeps : Keeps held docs T U cs) where
  beside_done : (act : Act) → begins_once T act ≡ true → IsBeside docs (T ++ Out act ∷ []) U
  beside_done act once = record {
    among = λ k h. stands_on T (Out act) k (keeps.beside.among k h);
    other = λ k launch is doc. other act once k launch is doc;
  }
    where
      none_there : (k : ℕ) → start_stands T k ≡ false → start_stands U k ≡ false
      none_there k fresh =
          elim (cases_Bool (start_stands U k)) [
            | inl stands ↦ absurd (false≢true (sym fresh ∙ keeps.beside.among k stands))
            | inr off ↦ off
          ]

      plainly : (act : Act) → ((k : ℕ) → launched k (Out act) ≡ []) → (k : ℕ) (launch : Launch) → launch_of (T ++ Out act ∷ []) k ≡ Some launch
          → is_document docs launch ≡ true → start_stands U k ≡ false
      plainly act none k launch is doc = keeps.beside.other k launch (sym (launch_rests T (Out act) k (none k)) ∙ is) doc

      other : (act : Act) → begins_once T act ≡ true → (k : ℕ) (launch : Launch) → launch_of (T ++ Out act ∷ []) k ≡ Some launch
          → is_document docs launch ≡ true → start_stands U k ≡ false
      other (Start d c j hop begun) once k launch is doc =
          elim (cases_Bool (k == d)) [
            | inl here ↦ none_there k (ap (start_stands T) (eqb-true k d here) ∙ not_off (start_stands T d) once)
            | inr apart ↦
                keeps.beside.other k launch
                (sym (launch_rests T (Out (Start d c j hop begun)) k (start_rests d c j hop begun k apart).no_launch) ∙ is) doc
          ]
      other act once k launch is doc = plainly act (λ q. refl) k launch is doc

  -- an act on a document's child
  pub keeps_done : (new : List Child) (act : Act) → begins_once T act ≡ true → Knows held docs (T ++ Out act ∷ []) new → Keeps held docs (T ++ Out act ∷ []) U new
  keeps_done new act once known = record {
    known = known;
    orderly = act_unbegun T act keeps.orderly;
    inner = keeps.inner;
    beside = beside_done act once;
  }

  -- the act of the inner outside, on the children of the documents
  off_known : (new : List Child) → Knows held docs T new → (act : Act) → begins_once T act ≡ true → starts_document docs act ≡ false → Knows held docs (T ++ Out act ∷ []) new
  off_known new known (Start d c j hop begun) once none =
      knows_off held docs T (Out (Start d c j hop begun)) new
      (λ q launch is doc. start_rests d c j hop begun q (apart q launch is))
      (λ q launch is doc.
      elim (cases_Bool (q == d)) [
        | inl here ↦ absurd (false≢true (sym none ∙ ap (is_document docs) (is_begun q launch here is) ∙ doc))
        | inr other ↦ sym (launch_rests T (Out (Start d c j hop begun)) q (start_rests d c j hop begun q other).no_launch) ∙ is
      ]) known
    where
      is_begun : (q : ℕ) (launch : Launch) → (q == d) ≡ true → launch_of (T ++ Out (Start d c j hop begun) ∷ []) q ≡ Some launch → begun ≡ launch
      is_begun q launch here is =
          some_is begun launch
          (sym (launch_push T (Out (Start d c j hop begun)) q ∙ ap (λ l. or_else (last_of l) (launch_of T q)) (cond-true _ _ _ here)) ∙ is)

      -- what was started before has another number
      apart : (q : ℕ) (launch : Launch) → launch_of T q ≡ Some launch → (q == d) ≡ false
      apart q launch is =
          elim (cases_Bool (q == d)) [
            | inl here ↦ absurd (unlaunched T q (ap (start_stands T) (eqb-true q d here) ∙ not_off (start_stands T d) once) launch is)
            | inr other ↦ other
          ]
  off_known new known act once none =
      knows_off held docs T (Out act) new (λ q launch is doc. act_rests act (λ p. refl) q)
      (λ q launch is doc. sym (launch_rests T (Out act) q (act_rests act (λ p. refl) q).no_launch) ∙ is) known

  inner_stands : (act : Act) (k : ℕ) → start_stands (U ++ Out act ∷ []) k ≡ true → start_stands (T ++ Out act ∷ []) k ≡ true
  inner_stands act k h =
      start_stands-push T (Out act) k
      ∙ either (start_stands U k) (is_start k (Out act)) (start_stands T k) (keeps.beside.among k) (sym (start_stands-push U (Out act) k) ∙ h)
    where
      either : (a b c : Bool) → (a ≡ true → c ≡ true) → (a || b) ≡ true → (c || b) ≡ true
      either true b c f h = or_left c b (f refl)
      either false b c f h = or_right c b h

  inner_other : (act : Act) → begins_once T act ≡ true → starts_document docs act ≡ false → (k : ℕ) (launch : Launch) → launch_of (T ++ Out act ∷ []) k ≡ Some launch
      → is_document docs launch ≡ true → start_stands (U ++ Out act ∷ []) k ≡ false
  inner_other (Start d c j hop begun) once none k launch is doc =
      elim (cases_Bool (k == d)) [
        | inl here ↦
            absurd (false≢true (sym none
            ∙ ap (is_document docs) (some_is begun launch
            (sym (launch_push T (Out (Start d c j hop begun)) k ∙ ap (λ l. or_else (last_of l) (launch_of T k)) (cond-true _ _ _ here)) ∙ is))
            ∙ doc))
        | inr other ↦
            start_stands-push U (Out (Start d c j hop begun)) k ∙ ap (λ b. start_stands U k || b) other ∙ or_none (start_stands U k)
            ∙ (beside_done (Start d c j hop begun) once).other k launch is doc
      ]
  inner_other act once none k launch is doc =
      start_stands-push U (Out act) k ∙ or_none (start_stands U k) ∙ (beside_done act once).other k launch is doc

  -- an act of the inner outside, after which the document children are known as before
  pub keeps_passed : (new : List Child) (act : Act) → begins_once T act ≡ true → starts_document docs act ≡ false → Knows held docs T new
      → Keeps held docs (T ++ Out act ∷ []) (U ++ Out act ∷ []) new
  keeps_passed new act once none known = record {
    known = off_known new known act once none;
    orderly = act_unbegun T act keeps.orderly;
    inner = act_unbegun U act keeps.inner;
    beside = record { among = inner_stands act; other = inner_other act once none };
  }

-- as it was, with children of which as much is known
pub keeps_same : (held : Held) (docs : List DocRoot) (T U : List Item) (cs new : List Child) → Knows held docs T new → Keeps held docs T U cs → Keeps held docs T U new
keeps_same held docs T U cs new known keeps = record { known = known; orderly = keeps.orderly; inner = keeps.inner; beside = keeps.beside }

-- an outside that is new
pub keeps_new : (held : Held) (docs : List DocRoot) → Keeps held docs [] [] []
keeps_new held docs = record {
  known = record { rows = tt; apart = tt; serves = λ k launch is doc. absurd (nothing launch is) };
  orderly = λ k h. record { no_start = refl; unheard = record { no_bytes = refl; no_end = refl }; no_exit = refl };
  inner = λ k h. record { no_start = refl; unheard = record { no_bytes = refl; no_end = refl }; no_exit = refl };
  beside = record { among = λ k h. h; other = λ k launch is doc. refl };
}
  where
    nothing : (launch : Launch) → None ≡ Some launch → ⊥
    nothing launch e = cc
