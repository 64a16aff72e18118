-- What is known of an outside's document children goes on with one item more.
use Rattle.std.proofs.Common.{◌≡◌, ◌<◌, ℕ, zero, suc, Bool, true, false, List, [], ◌∷◌, ◌++◌, length, take, drop, Option, Some, None, refl, sym, ap, ◌∙◌, subst, inl, inr, arith}
use Rattle.std.specs.Prelude.{◌||◌, ◌&&◌, ◌==◌, not, is_some, if◌then◌else◌, get_or}
use Rattle.std.specs.List.{flat_map, list_any}
use Rattle.std.proofs.Math.ListN.{set}
use Rattle.std.proofs.lemmas.Bool.{cases_Bool, eqb-true, eq-eqb, cond-true, cond-false, false≢true, or_right, and_parts}
use Rattle.host_base.specs.declared.launch.Launch.{Launch}
use Rattle.host_base.specs.declared.site.DocRoot.{DocRoot}
use Rattle.host_trace.specs.declared.items.Act.{Act}
use Rattle.host_trace.specs.declared.items.Act.TheVariants.{WantClient, Write, Shut, Start, Feed, EndInput, WantChild, Kill, Release, Upgrade, Says, CloseWs}
use Rattle.host_trace.specs.declared.items.Event.{Event}
use Rattle.host_trace.specs.declared.items.Event.TheVariants.{Accepted, ClientBytes, ClientEof, ClientGone, Wrote, Started, StartFailed, StartFull, ChildBytes, ChildEof, ChildBroken, Took, InputGone, Exited, WsText, WsBinary, WsClosed, WsBad, NoRoom, Tick, Stop}
use Rattle.host_trace.specs.declared.items.Item.{Item}
use Rattle.host_trace.specs.declared.items.Item.TheVariants.{In, Out}
use Rattle.host_trace.specs.First.{last_of, or_else}
use Rattle.host_trace.specs.Told.{carries_nothing}
use Rattle.host_trace.specs.Kinds.{is_start, is_started, names_child}
use Rattle.host_trace.specs.Projections.{child_wanted, exited, input_ended, output_ended, start_answered, start_stands, started}
use Rattle.host_trace.proofs.ProjectionLaws.{start_stands-push, started-push}
use Rattle.doc_files.specs.Held.{Held, served_output}
use Rattle.doc_files.specs.Served.{IsServed, Serves, is_document, launch_of, launched}
use Rattle.doc_files.specs.Owed.{AreApart, Each, IsApart, IsBeside, IsOf, IsOrderly, IsUnbegun, IsUnheard, Keeps, Knows, Owes, OwesAs, Rests, begins_once, number_of, starts_document}
use Rattle.doc_files.specs.declared.child.Child.{Child}
use Rattle.doc_files.specs.declared.child.Output.{Output}
use Rattle.doc_files.specs.declared.child.Output.TheVariants.{Unread}
use Rattle.doc_files.proofs.OwedLaws.{exit_rests, launch_push, launch_rests, out_rests, end_rests, owes_rests, owes_serves, served_rests, some_is, stands_on, unheard_rests}

-- ---- lists of children

pub each_weaker : (P Q : Child → Type 0) → ((c : Child) → P c → Q c) → (cs : List Child) → Each P cs → Each Q cs
each_weaker P Q f [] h = tt
each_weaker P Q f (c ∷ cs) h = (f c h.0, each_weaker P Q f cs h.1)

each_push : (P : Child → Type 0) (cs : List Child) (c : Child) → Each P cs → P c → Each P (cs ++ c ∷ [])
each_push P [] c h p = (p, tt)
each_push P (d ∷ cs) c h p = (h.0, each_push P cs c h.1 p)

apart_push : (cs : List Child) (c : Child) → AreApart cs → Each (λ d. IsApart d c) cs → AreApart (cs ++ c ∷ [])
apart_push [] c a h = (tt, tt)
apart_push (d ∷ cs) c a h = (each_push (IsApart d) cs c a.0 h.0, apart_push cs c a.1 h.1)

each_remove : (P : Child → Type 0) (i : ℕ) (cs : List Child) → Each P cs → Each P (take i cs ++ drop (suc i) cs)
each_remove P zero [] h = tt
each_remove P zero (c ∷ cs) h = h.1
each_remove P (suc i) [] h = tt
each_remove P (suc i) (c ∷ cs) h = (h.0, each_remove P i cs h.1)

apart_remove : (i : ℕ) (cs : List Child) → AreApart cs → AreApart (take i cs ++ drop (suc i) cs)
apart_remove zero [] h = tt
apart_remove zero (c ∷ cs) h = h.1
apart_remove (suc i) [] h = tt
apart_remove (suc i) (c ∷ cs) h = (each_remove (IsApart c) i cs h.0, apart_remove i cs h.1)

-- this child stands at place i
abbrev pub At : List Child → ℕ → Child → Type 0
At [] i old = ⊥
At (c ∷ cs) zero old = c ≡ old
At (c ∷ cs) (suc i) old = At cs i old

pub at_get : (cs : List Child) (i : ℕ) (d : Child) → i < length cs → At cs i (get_or cs i d)
at_get [] i d lt = absurd (omega arith)
at_get (c ∷ cs) zero d lt = refl
at_get (c ∷ cs) (suc i) d lt = at_get cs i d (omega arith)

pub at_index : (cs : List Child) (i : ℕ) (old : Child) → i < length cs → old ≡ get_or cs i old → At cs i old
at_index cs i old lt is = subst (At cs i) (sym is) (at_get cs i old lt)

each_at : (P : Child → Type 0) (cs : List Child) (i : ℕ) (old : Child) → At cs i old → Each P cs → P old
each_at P [] i old at h = absurd at
each_at P (c ∷ cs) zero old at h = subst P at h.0
each_at P (c ∷ cs) (suc i) old at h = each_at P cs i old at h.1

each_same : (c old new : Child) → old.k ≡ new.k → IsApart c old → IsApart c new
each_same c old new same a = record { here = subst (λ n. (c.k == n) ≡ false) same a.here; there = subst (λ n. (n == c.k) ≡ false) same a.there }

apart_flip : (c d : Child) → IsApart c d → IsApart d c
apart_flip c d a = record { here = a.there; there = a.here }

each_set_apart : (c : Child) (cs : List Child) (i : ℕ) (old new : Child) → At cs i old → old.k ≡ new.k → Each (IsApart c) cs → Each (IsApart c) (set cs i new)
each_set_apart c [] i old new at same h = absurd at
each_set_apart c (d ∷ cs) zero old new at same h = (each_same c old new same (subst (IsApart c) at h.0), h.1)
each_set_apart c (d ∷ cs) (suc i) old new at same h = (h.0, each_set_apart c cs i old new at same h.1)

apart_set : (cs : List Child) (i : ℕ) (old new : Child) → At cs i old → old.k ≡ new.k → AreApart cs → AreApart (set cs i new)
apart_set [] i old new at same h = absurd at
apart_set (d ∷ cs) zero old new at same h =
    (each_weaker (IsApart d) (IsApart new) (λ c a. apart_flip c new (each_same c old new same (apart_flip old c (subst (λ e. IsApart e c) at a)))) cs h.0, h.1)
apart_set (d ∷ cs) (suc i) old new at same h = (each_set_apart d cs i old new at same h.0, apart_set cs i old new at same h.1)

-- the others have it by what is so of others, and the new one has it
each_set : (P Q : Child → Type 0) (old new : Child) → ((c : Child) → (c.k == old.k) ≡ false → P c → Q c) → Q new
    → (cs : List Child) (i : ℕ) → At cs i old → AreApart cs → Each P cs → Each Q (set cs i new)
each_set P Q old new f q [] i at a h = absurd at
each_set P Q old new f q (c ∷ cs) zero at a h = (q, rest cs (subst (λ d. Each (IsApart d) cs) at a.0) h.1)
  where
    rest : (cs : List Child) → Each (IsApart old) cs → Each P cs → Each Q cs
    rest [] a h = tt
    rest (d ∷ cs) a h = (f d a.0.there h.0, rest cs a.1 h.1)
each_set P Q old new f q (c ∷ cs) (suc i) at a h =
    (f c (each_at (IsApart c) cs i old at a.0).here h.0, each_set P Q old new f q cs i at a.1 h.1)

-- ---- what is known of them

module _ (held : Held) (docs : List DocRoot) (T : List Item) where
  pub knows_removed : (i : ℕ) (cs : List Child) → Knows held docs T cs → Knows held docs T (take i cs ++ drop (suc i) cs)
  knows_removed i cs k = record {
    rows = each_remove (Owes held docs T) i cs k.rows;
    apart = apart_remove i cs k.apart;
    serves = k.serves;
  }

  -- the child at a place is as it was but for what is not looked at
  pub knows_marked : (cs : List Child) (i : ℕ) (old new : Child) → At cs i old → old.k ≡ new.k → Owes held docs T new → Knows held docs T cs → Knows held docs T (set cs i new)
  knows_marked cs i old new at same o k = record {
    rows = each_set (Owes held docs T) (Owes held docs T) old new (λ c other p. p) o cs i at k.apart k.rows;
    apart = apart_set cs i old new at same k.apart;
    serves = k.serves;
  }

  pub owes_at : (cs : List Child) (i : ℕ) (old : Child) → At cs i old → Knows held docs T cs → Owes held docs T old
  owes_at cs i old at k = each_at (Owes held docs T) cs i old at k.rows

  module _ (x : Item) where
    -- an item of the child at a place
    pub knows_at : (cs : List Child) (i : ℕ) (old new : Child) → At cs i old → old.k ≡ new.k → IsOf old.k x → Owes held docs (T ++ x ∷ []) new
        → Knows held docs T cs → Knows held docs (T ++ x ∷ []) (set cs i new)
    knows_at cs i old new at same own o k = record {
      rows = each_set (Owes held docs T) (Owes held docs (T ++ x ∷ [])) old new (λ c other p. owes_rests held docs T c.k x c.output c.over (own c.k other) p) o cs i at k.apart k.rows;
      apart = apart_set cs i old new at same k.apart;
      serves = λ q launch is doc.
          elim (cases_Bool (q == old.k)) [
            | inl here ↦
                let e : new.k ≡ q = sym (eqb-true q old.k here ∙ same) in
                subst (λ n. IsServed (served_output held docs launch) (T ++ x ∷ []) n) e
                (owes_serves held docs (T ++ x ∷ []) new.k new.output new.over launch o (subst (λ n. launch_of (T ++ x ∷ []) n ≡ Some launch) (sym e) is))
            | inr other ↦
                let r = own q other in
                served_rests T x q r (served_output held docs launch) (k.serves q launch (sym (launch_rests T x q r.no_launch) ∙ is) doc)
          ];
    }

    -- an item of no document's child
    pub knows_off : (cs : List Child) → ((q : ℕ) (launch : Launch) → launch_of T q ≡ Some launch → is_document docs launch ≡ true → Rests q x)
        → ((q : ℕ) (launch : Launch) → launch_of (T ++ x ∷ []) q ≡ Some launch → is_document docs launch ≡ true → launch_of T q ≡ Some launch)
        → Knows held docs T cs → Knows held docs (T ++ x ∷ []) cs
    knows_off cs rests began k = record {
      rows = each_weaker (Owes held docs T) (Owes held docs (T ++ x ∷ [])) (λ c o. owes_rests held docs T c.k x c.output c.over (rests c.k o.begun o.is o.document) o) cs k.rows;
      apart = k.apart;
      serves = λ q launch is doc.
          let was = began q launch is doc in
          served_rests T x q (rests q launch was doc) (served_output held docs launch) (k.serves q launch was doc);
    }

-- ---- acts

-- an act that is no Start
pub act_rests : (act : Act) → ((q : ℕ) → is_start q (Out act) ≡ false) → (q : ℕ) → Rests q (Out act)
act_rests (Start k c j hop launch) no_start q = absurd (false≢true (sym (no_start k) ∙ eq-eqb k k refl))
act_rests _ no_start q = record { no_start = refl; no_launch = refl; no_bytes = refl; no_end = refl; no_exit = refl }

-- a Start, of another child
pub start_rests : (k c j hop : ℕ) (launch : Launch) (q : ℕ) → (q == k) ≡ false → Rests q (Out (Start k c j hop launch))
start_rests k c j hop launch q other = record { no_start = other; no_launch = cond-false _ _ _ other; no_bytes = refl; no_end = refl; no_exit = refl }

numbered_no_start : (act : Act) → is_some (number_of act) ≡ true → (q : ℕ) → is_start q (Out act) ≡ false
numbered_no_start (Start k c j hop launch) is q = absurd (false≢true is)
numbered_no_start _ is q = refl

-- an act on a running script
pub numbered_rests : (act : Act) → is_some (number_of act) ≡ true → (q : ℕ) → Rests q (Out act)
numbered_rests act is = act_rests act (numbered_no_start act is)

pub knows_numbered : (held : Held) (docs : List DocRoot) (T : List Item) (act : Act) (cs : List Child) → is_some (number_of act) ≡ true
    → Knows held docs T cs → Knows held docs (T ++ Out act ∷ []) cs
knows_numbered held docs T act cs is =
    knows_off held docs T (Out act) cs (λ q launch e doc. numbered_rests act is q)
    (λ q launch e doc. sym (launch_rests T (Out act) q (numbered_rests act is q).no_launch) ∙ e)

-- what no Start stands of has no launch
launched_none : (q : ℕ) (x : Item) → is_start q x ≡ false → launched q x ≡ []
launched_none q (Out (Start d c j hop launch)) h = cond-false _ _ _ h
launched_none q _ h = refl

none_launched : (q : ℕ) (T : List Item) → list_any (is_start q) T ≡ false → flat_map (launched q) T ≡ []
none_launched q [] h = refl
none_launched q (x ∷ T) h = here q x T (is_start q x) refl h (λ rest. none_launched q T rest)
  where
    here : (q : ℕ) (x : Item) (T : List Item) (b : Bool) → is_start q x ≡ b → (b || list_any (is_start q) T) ≡ false
        → (list_any (is_start q) T ≡ false → flat_map (launched q) T ≡ []) → launched q x ++ flat_map (launched q) T ≡ []
    here q x T true is h later = absurd (false≢true (sym h))
    here q x T false is h later = ap (λ l. l ++ flat_map (launched q) T) (launched_none q x is) ∙ later h

pub unlaunched : (T : List Item) (q : ℕ) → start_stands T q ≡ false → (launch : Launch) → launch_of T q ≡ Some launch → ⊥
unlaunched T q fresh launch is = none (sym (ap last_of (none_launched q T fresh)) ∙ is)
  where
    none : None ≡ Some launch → ⊥
    none e = cc

-- where one holds of f and the other doesn't they are two
pub two_of : (f : ℕ → Bool) (a b : ℕ) → f a ≡ true → f b ≡ false → (a == b) ≡ false
two_of f a b t f_b =
    elim (cases_Bool (a == b)) [
      | inl same ↦ absurd (false≢true (sym f_b ∙ ap f (sym (eqb-true a b same)) ∙ t))
      | inr other ↦ other
    ]

-- ---- the Start of a document's child

module _ (held : Held) (docs : List DocRoot) (T : List Item) (k c j hop : ℕ) (launch : Launch) (fresh : start_stands T k ≡ false) (orderly : IsOrderly T)
    (document : is_document docs launch ≡ true) where
  owes_begun : OwesAs held docs (T ++ Out (Start k c j hop launch) ∷ []) k (Unread launch) false
  owes_begun =
      let u = orderly k fresh in
      record {
        begun = launch;
        is = launch_push T (Out (Start k c j hop launch)) k ∙ ap (λ l. or_else (last_of l) (launch_of T k)) (cond-true _ _ _ (eq-eqb k k refl));
        stands = start_stands-push T (Out (Start k c j hop launch)) k ∙ or_right (start_stands T k) (k == k) (eq-eqb k k refl);
        document = document;
        owing = (
          refl,
          record {
            no_bytes = out_rests T (Out (Start k c j hop launch)) k refl ∙ u.unheard.no_bytes;
            no_end = end_rests T (Out (Start k c j hop launch)) k refl ∙ u.unheard.no_end;
          },
        );
        ends = λ e. absurd (false≢true e);
        exit = λ e. absurd (false≢true (sym (exit_rests T (Out (Start k c j hop launch)) k refl ∙ u.no_exit) ∙ e));
      }

  others : (d : Child) → Owes held docs T d → (d.k == k) ≡ false
  others d o = two_of (start_stands T) d.k k o.stands fresh

  flip : (a b : ℕ) → (a == b) ≡ false → (b == a) ≡ false
  flip a b h =
      elim (cases_Bool (b == a)) [
        | inl same ↦ absurd (false≢true (sym h ∙ eq-eqb a b (sym (eqb-true b a same))))
        | inr other ↦ other
      ]

  as_child : (child : Child) → child.k ≡ k → child.output ≡ Unread launch → child.over ≡ false → Owes held docs (T ++ Out (Start k c j hop launch) ∷ []) child
  as_child child is output over = rw (is, output, over) owes_begun

  pub knows_begun : (cs : List Child) (child : Child) → child.k ≡ k → child.output ≡ Unread launch → child.over ≡ false
      → Knows held docs T cs → Knows held docs (T ++ Out (Start k c j hop launch) ∷ []) (cs ++ child ∷ [])
  knows_begun cs child is output over known = record {
    rows =
        each_push (Owes held docs (T ++ Out (Start k c j hop launch) ∷ [])) cs child
        (each_weaker (Owes held docs T) (Owes held docs (T ++ Out (Start k c j hop launch) ∷ []))
        (λ d o. owes_rests held docs T d.k (Out (Start k c j hop launch)) d.output d.over (start_rests k c j hop launch d.k (others d o)) o) cs known.rows)
        (as_child child is output over);
    apart =
        apart_push cs child known.apart
        (each_weaker (Owes held docs T) (λ d. IsApart d child)
        (λ d o. record { here = subst (λ n. (d.k == n) ≡ false) (sym is) (others d o); there = subst (λ n. (n == d.k) ≡ false) (sym is) (flip d.k k (others d o)) }) cs known.rows);
    serves = λ q l e doc.
        elim (cases_Bool (q == k)) [
          | inl here ↦
              let same : k ≡ q = sym (eqb-true q k here) in
              subst (λ n. IsServed (served_output held docs l) (T ++ Out (Start k c j hop launch) ∷ []) n) same
              (owes_serves held docs (T ++ Out (Start k c j hop launch) ∷ []) k (Unread launch) false l owes_begun
              (subst (λ n. launch_of (T ++ Out (Start k c j hop launch) ∷ []) n ≡ Some l) (sym same) e))
          | inr other ↦
              let r = start_rests k c j hop launch q other in
              served_rests T (Out (Start k c j hop launch)) q r (served_output held docs l) (known.serves q l (sym (launch_rests T (Out (Start k c j hop launch)) q r.no_launch) ∙ e) doc)
        ];
  }

-- what a slice of all of them left
pub written_back : (new items : List Child) (n : ℕ) → n ≡ length items → length new ≡ length items → take n (new ++ drop (length new) items) ≡ new
written_back new items n is same = ap (λ m. take m (new ++ drop (length new) items)) (is ∙ sym same) ∙ front new (drop (length new) items)
  where
    front : (new rest : List Child) → take (length new) (new ++ rest) ≡ new
    front [] rest = refl
    front (c ∷ new) rest = ap (λ l. c ∷ l) (front new rest)

-- a Start carries a launch
pub starts_carry : (docs : List DocRoot) (act : Act) → starts_document docs act ≡ true → carries_nothing act ≡ true → ⊥
starts_carry docs (Start k c j hop launch) starts none = false≢true none
starts_carry docs _ starts none = false≢true starts

not_on : (b : Bool) → not b ≡ true → b ≡ false
not_on true h = absurd (false≢true h)
not_on false h = refl

-- the act that begins a child, which stands last
pub knows_started : (held : Held) (docs : List DocRoot) (T : List Item) (k c j hop : ℕ) (launch : Launch) (cs : List Child) (child : Child)
    → starts_document docs (Start k c j hop launch) ≡ true → IsOrderly T → begins_once T (Start k c j hop launch) ≡ true
    → child.k ≡ k → child.output ≡ Unread launch → child.over ≡ false
    → Knows held docs T cs → Knows held docs (T ++ Out (Start k c j hop launch) ∷ []) (cs ++ child ∷ [])
knows_started held docs T k c j hop launch cs child document orderly once is output over known =
    knows_begun held docs T k c j hop launch (not_on (start_stands T k) once) orderly document cs child is output over known
