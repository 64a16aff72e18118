-- Starts come in their turn, and acts on children in form.
use Rattle.std.proofs.Common.{◌≡◌, ℕ, ◌<◌, Bool, true, false, List, [], ◌∷◌, ◌++◌, refl, sym, ◌∙◌, ap, arith, subst, append_assoc, inl, inr}
use Rattle.std.specs.Prelude.{◌==◌, ◌&&◌, ◌||◌, filter, nat_lt, not, if◌then◌else◌}
use Rattle.std.specs.List.{list_any}
use Rattle.std.proofs.lemmas.Bool.{cases_lt, or_from, or_left, or_right, eq-eqb, false≢true, cond-true, lt-ltb}
use Rattle.host_base.specs.declared.launch.Launch.{Launch}
use Rattle.host_base.specs.declared.site.Site.{Site}
use Rattle.host_trace.specs.declared.items.Act.{Act}
use Rattle.host_trace.specs.declared.items.Act.TheVariants.{WantClient, Write, Shut, Start, Feed, EndInput, WantChild, Kill, Release, Upgrade, Says as SayTexts, CloseWs}
use Rattle.host_trace.specs.declared.items.Item.{Item}
use Rattle.host_trace.specs.declared.items.Item.TheVariants.{Out}
use Rattle.host_trace.specs.Account.{has_unsettled, settled}
use Rattle.host_trace.specs.Kinds.{is_accepted, is_child_answer, is_exited, is_input_end, is_kill, is_output_end, is_start, is_started, is_stop, is_tick, is_want_child, names, names_child}
use Rattle.host_trace.specs.Projections.{accepted_count, child_wanted, children, is_own, names_one_of, own, own_after, shut, start_count, stopped}
use Rattle.host_trace.proofs.FirstLaws.{list_any-push}
use Rattle.host_trace.proofs.OwnLaws.{own-append}
use Rattle.own_traces.specs.Between.{Between, Owner}
use Rattle.own_traces.specs.OwnLaws.{Says}
use Rattle.own_traces.specs.Whose.{has, is_a_start, next_child}
use Rattle.own_traces.proofs.BetweenLaws.{start_count-next}
use Rattle.own_traces.proofs.KeptLaws.{any-kept, count-kept, none-narrower}
use Rattle.own_traces.proofs.NameLaws.{child_answer_names, exit_names, input_names, output_names, start_names, started_names, want_child_names}
use Rattle.own_traces.proofs.SameLaws.{says}
use Rattle.trace_child.specs.ChildForm.{may_be_given}
use Rattle.trace_child.specs.Words.{is_filled}
use Rattle.trace_model.specs.Exchange.{Exchange}
use Rattle.trace_model.specs.Exchanges.{current}
use Rattle.trace_model.specs.Form.{comes_in_form, may_come}
use Rattle.trace_model.specs.Launches.{is_right_start}
use Rattle.trace_model.proofs.ExchangeLaws.{all_of-current}
use Rattle.trace_laws.specs.Promised.{Promised}
use Rattle.trace_laws.specs.TraceLaws.{IsFree}
use Rattle.trace_laws.proofs.ActLaws.{all_keep}
use Rattle.trace_laws.proofs.CurrentLaws.{IsRight, each_settled, right_of}
use Rattle.trace_laws.proofs.EndLaws.{either, owner_known}
use Rattle.trace_laws.proofs.ListLaws.{children-append, has-append, settled-right}
use Rattle.trace_laws.proofs.PrefixLaws.{Stands, stands}

by_name : (a b d e f : Bool) → b ≡ true → (a || b || d || e || f) ≡ true
by_name a b d e f is = or_left _ f (or_left _ e (or_left _ d (or_right a b is)))

by_child : (a b d e f : Bool) → d ≡ true → (a || b || d || e || f) ≡ true
by_child a b d e f is = or_left _ f (or_left _ e (or_right (a || b) d is))

start_is_own : (c : ℕ) (before later : List Item) (k j hop : ℕ) (launch : Launch) →
    own_after before c (Out (Start k c j hop launch) ∷ later) ≡ Out (Start k c j hop launch) ∷ own_after (before ++ Out (Start k c j hop launch) ∷ []) c later
start_is_own c before later k j hop launch =
    let x : Item = Out (Start k c j hop launch) in
    cond-true (is_own c (children before c) (accepted_count before) x) (x ∷ own_after (before ++ x ∷ []) c later) (own_after (before ++ x ∷ []) c later)
    (by_name (is_accepted x && accepted_count before == c) (c == c) (names_one_of (children before c) x) (is_tick x) (is_stop x) (eq-eqb c c refl))

none_unsettled : (T : List Item) (ks : List ℕ) → ((k : ℕ) → has ks k ≡ true → settled T k ≡ true) → list_any (λ k. not (settled T k)) ks ≡ false
none_unsettled T [] each = refl
none_unsettled T (k ∷ ks) each =
    or_from _ _ (ap not (each k (or_left _ _ (eq-eqb k k refl)))) (none_unsettled T ks (λ m is. each m (or_right (k == m) (has ks m) is)))

settled_in_own : (site : Site) (c : ℕ) (L : List Item) → has_unsettled (current site c L).items c ≡ false → has_unsettled L c ≡ false
settled_in_own site c L none =
    none_unsettled L (children L c) (λ k is. elim (either site c L k is) [
      | inl over ↦ over
      | inr here ↦
          let now : Exchange = current site c L in
          subst (λ l. settled l k ≡ true) (all_of-current site c L)
          (settled-right now.before now.items k (each_settled now.items (children now.items c) k none here))
    ])

pub in_turn : (site : Site) (T before : List Item) (k c j hop : ℕ) (launch : Launch) (later : List Item) → Promised site T
    → T ≡ before ++ Out (Start k c j hop launch) ∷ later → IsFree before c
in_turn site T before k c j hop launch later f is =
    let s : Stands T = stands site T f in
    let x : Item = Out (Start k c j hop launch) in
    let L : List Item = own before c in
    let cut : own T c ≡ L ++ x ∷ own_after (before ++ x ∷ []) c later =
    ap (λ (l : List Item). own l c) is ∙ (own-append before c (x ∷ later) ∙ ap (λ (l : List Item). L ++ l) (start_is_own c before later k j hop launch)) in
    let mine : has (children T c) k ≡ true =
    ap (λ (l : List Item). has (children l c) k) is
    ∙ (ap (λ ks. has ks k) (children-append before (x ∷ later) c)
    ∙ (has-append (children before c) (children (x ∷ later) c) k
    ∙ or_right (has (children before c) k) _ (ap (λ (b : Bool). has ((if b then k ∷ [] else []) ++ children later c) k) (eq-eqb c c refl) ∙ or_left _ _ (eq-eqb k k refl)))) in
    let known : c < accepted_count T = owner_known T c k s.between mine in
    let right : IsRight site c (current site c L) j hop =
    right_of site c (current site c L) k c j hop launch
    (all_keep site c (is_right_start site c) (λ step good. good.good.launches) (own T c) (s.begins c) (f.good.connections c (lt-ltb c (accepted_count T) known)) L (own_after (before ++ x ∷ []) c later) (Start k c j hop launch) cut) in
    let says_so : Says before c = says before c (s.fronts before (x ∷ later) is) in
    record {
      going = sym says_so.stopped_then ∙ (ap stopped (sym (all_of-current site c L)) ∙ right.going);
      unshut = sym says_so.shut_then ∙ (ap (λ (l : List Item). shut l c) (sym (all_of-current site c L)) ∙ right.unshut);
      all_settled_then = sym says_so.unsettled ∙ settled_in_own site c L right.settled_then;
    }

-- ---- acts on children

kill_names : (k : ℕ) (x : Item) → names_child k x ≡ false → is_kill k x ≡ false
kill_names k (Out (Kill d)) e = e
kill_names k _ e = refl

plain_next : (n : ℕ) (x : Item) → is_a_start x ≡ false → next_child n x ≡ n
plain_next n (Out (Start k c j hop launch)) plain = absurd (false≢true (sym plain))
plain_next n _ plain = refl

module _ (k : ℕ) (L T : List Item) (e : filter (names_child k) L ≡ filter (names_child k) T) where
  kid_says : (test : Item → Bool) → ((x : Item) → names_child k x ≡ false → test x ≡ false) → list_any test L ≡ list_any test T
  kid_says test narrower = any-kept test (names_child k) narrower L T e

  kid_wanted : child_wanted L k ≡ child_wanted T k
  kid_wanted = (λ i. nat_lt (count-kept (is_child_answer k) (names_child k) (child_answer_names k) L T e i) (count-kept (is_want_child k) (names_child k) (want_child_names k) L T e i))

  -- what may be given to it by the one list may be by the other
  kid_feed : (bytes : List ℕ) → may_be_given L (Feed k bytes) ≡ may_be_given T (Feed k bytes)
  kid_feed bytes = (λ i. kid_says (is_started k) (started_names k) i && not (kid_says (is_input_end k) (input_names k) i) && is_filled bytes)

  kid_end : may_be_given L (EndInput k) ≡ may_be_given T (EndInput k)
  kid_end = (λ i. kid_says (is_started k) (started_names k) i && not (kid_says (is_input_end k) (input_names k) i))

  kid_want : may_be_given L (WantChild k) ≡ may_be_given T (WantChild k)
  kid_want = (λ i. kid_says (is_started k) (started_names k) i && not (kid_says (is_output_end k) (output_names k) i) && not (kid_wanted i))

  kid_kill : may_be_given L (Kill k) ≡ may_be_given T (Kill k)
  kid_kill = (λ i. kid_says (is_started k) (started_names k) i && not (kid_says (is_kill k) (kill_names k) i) && not (kid_says (is_exited k) (exit_names k) i))

  kid_release : may_be_given L (Release k) ≡ may_be_given T (Release k)
  kid_release = (λ i. kid_says (is_started k) (started_names k) i && kid_says (is_exited k) (exit_names k) i && not (kid_says (is_output_end k) (output_names k) i))

-- an item that names a child of c is of c
kid_is_own : (c : ℕ) (before later : List Item) (x : Item) → names_one_of (children before c) x ≡ true
    → own_after before c (x ∷ later) ≡ x ∷ own_after (before ++ x ∷ []) c later
kid_is_own c before later x is =
    cond-true (is_own c (children before c) (accepted_count before) x) (x ∷ own_after (before ++ x ∷ []) c later) (own_after (before ++ x ∷ []) c later)
    (by_child (is_accepted x && accepted_count before == c) (names c x) (names_one_of (children before c) x) (is_tick x) (is_stop x) is)

-- an act on child k, by what may be given in the list of its connection
kid_form : (site : Site) (T before : List Item) (act : Act) (later : List Item) (k : ℕ) → Promised site T → T ≡ before ++ Out act ∷ later
    → names_child k (Out act) ≡ true → is_a_start (Out act) ≡ false
    → ((c : ℕ) → has (children before c) k ≡ true → names_one_of (children before c) (Out act) ≡ true)
    → ((L : List Item) → may_come L act ≡ true → may_be_given L act ≡ true)
    → ((L M : List Item) → filter (names_child k) L ≡ filter (names_child k) M → may_be_given L act ≡ may_be_given M act)
    → may_be_given before act ≡ true
kid_form site T before act later k f is named plain among only same =
    let s : Stands T = stands site T f in
    let x : Item = Out act in
    let b : Between before = s.fronts before (x ∷ later) is in
    let now : Between (before ++ x ∷ []) = s.fronts (before ++ x ∷ []) later (is ∙ sym (append_assoc before (x ∷ []) later)) in
    let count : start_count (before ++ x ∷ []) ≡ start_count before = start_count-next before x ∙ plain_next (start_count before) x plain in
    let stands_now : list_any (names_child k) (before ++ x ∷ []) ≡ true = list_any-push (names_child k) before x ∙ or_right _ _ named in
    let below : k < start_count before = elim (cases_lt k (start_count before)) [
      | inl lt ↦ lt
      | inr le ↦ absurd (false≢true (sym (now.named k (omega (arith, le, count))) ∙ stands_now))
    ] in
    let o : Owner before k = b.owned k below in
    let c : ℕ = o.owner in
    let L : List Item = own before c in
    let cut : own T c ≡ L ++ x ∷ own_after (before ++ x ∷ []) c later =
    ap (λ (l : List Item). own l c) is ∙ (own-append before c (x ∷ later) ∙ ap (λ (l : List Item). L ++ l) (kid_is_own c before later x (among c o.is))) in
    let mine : has (children T c) k ≡ true =
    ap (λ (l : List Item). has (children l c) k) is
    ∙ (ap (λ ks. has ks k) (children-append before (x ∷ later) c) ∙ (has-append (children before c) (children (x ∷ later) c) k ∙ or_left _ _ o.is)) in
    let known : c < accepted_count T = owner_known T c k s.between mine in
    let form : comes_in_form (current site c L) act ≡ true =
    all_keep site c comes_in_form (λ step good. good.good.form) (own T c) (s.begins c) (f.good.connections c (lt-ltb c (accepted_count T) known)) L
    (own_after (before ++ x ∷ []) c later) act cut in
    sym (same L before (b.kids c k o.is)) ∙ only L (ap (λ (l : List Item). may_come l act) (sym (all_of-current site c L)) ∙ form)

pub in_form : (site : Site) (T before : List Item) (act : Act) (later : List Item) → Promised site T → T ≡ before ++ Out act ∷ later → may_be_given before act ≡ true
in_form site T before (Start k c j hop launch) later f is =
    ap not (none-narrower (is_start k) (names_child k) (start_names k) before ((stands site T f).first_of_all c k j hop launch before later is))
in_form site T before (Feed k bytes) later f is =
    kid_form site T before (Feed k bytes) later k f is (eq-eqb k k refl) refl (λ c h. h) (λ L may. may) (λ L M e. kid_feed k L M e bytes)
in_form site T before (EndInput k) later f is =
    kid_form site T before (EndInput k) later k f is (eq-eqb k k refl) refl (λ c h. h) (λ L may. may) (λ L M e. kid_end k L M e)
in_form site T before (WantChild k) later f is =
    kid_form site T before (WantChild k) later k f is (eq-eqb k k refl) refl (λ c h. h) (λ L may. may) (λ L M e. kid_want k L M e)
in_form site T before (Kill k) later f is =
    kid_form site T before (Kill k) later k f is (eq-eqb k k refl) refl (λ c h. h) (λ L may. may) (λ L M e. kid_kill k L M e)
in_form site T before (Release k) later f is =
    kid_form site T before (Release k) later k f is (eq-eqb k k refl) refl (λ c h. h) (λ L may. may) (λ L M e. kid_release k L M e)
in_form site T before (WantClient c) later f is = refl
in_form site T before (Write c bytes) later f is = refl
in_form site T before (Shut c why) later f is = refl
in_form site T before (Upgrade c rest) later f is = refl
in_form site T before (SayTexts c texts) later f is = refl
in_form site T before (CloseWs c code) later f is = refl
