-- Parts, one after the other.
use Rattle.std.proofs.Common.{◌≡◌, ℕ, Bool, true, ◌&&◌, List, [], ◌∷◌, ◌++◌, map, refl, sym, ap, ◌∙◌, subst, append-nil, append_assoc, ◌||◌, inl, inr}
use Rattle.std.proofs.lemmas.Bool.{and_parts, false≢true, or_left, or_right}
use Rattle.std.proofs.lemmas.List.Folds.{list_any-append}
use Rattle.host_base.specs.declared.site.Site.{Site}
use Rattle.host_trace.specs.declared.items.Act.{Act}
use Rattle.host_trace.specs.declared.items.Act.TheVariants.{Write}
use Rattle.host_trace.specs.declared.items.Event.{Event}
use Rattle.host_trace.specs.declared.items.Item.{Item}
use Rattle.host_trace.specs.declared.items.Item.TheVariants.{Out}
use Rattle.host_trace.specs.Kinds.{is_shut_for_memory}
use Rattle.host_trace.specs.Projections.{shut_for_memory}
use Rattle.own_traces.specs.Whose.{next_after}
use Rattle.own_traces.proofs.BlockLaws.{next_after-append}
use Rattle.trace_model.specs.Exchange.{Exchange, all_of, continue_text, pushed}
use Rattle.trace_model.specs.Exchanges.{following}
use Rattle.conn_flags.specs.View.{View as Flags, noted}
use Rattle.conn_flags.specs.Form.{are_given, given_all, is_allowed}
use Rattle.conn_flags.specs.Knows.{KnowsFlags}
use Rattle.conn_flags.proofs.KnowsLaws.{given_all-append, given_all-number, known_all}
use Rattle.child_laws.specs.Step.{Turn}
use Rattle.conn_laws.specs.Moves.{AreInStep, Move, acts_of, continues, gives, moved, settles}
use Rattle.conn_laws.proofs.MoveLaws.{acts_of-append, moved-append}
use Rattle.http_conn.specs.HttpConn.{HttpConn}
use Rattle.http_conn.specs.Kept.{flags_of, number_of, site_of}
use Rattle.http_conn.specs.Parts.{Deed, Nothing, Part, Then}
use Rattle.http_step_laws.specs.Standing.{WasShut, AreRight, Claim, Leaves, Makes, Standing}

-- ---- moves

pub in_step_together : (site : Site) (c : ℕ) (e : Exchange) (xs ys : List Move) → AreInStep site c e xs → AreInStep site c (moved site c e xs) ys → AreInStep site c e (xs ++ ys)
in_step_together site c e [] ys a b = b
in_step_together site c e (gives act ∷ xs) ys a b = (a.0, in_step_together site c (pushed e (Out act)) xs ys a.1 b)
in_step_together site c e (continues d ∷ xs) ys a b = (a.0, a.1, in_step_together site c (pushed e (Out (Write d continue_text))) xs ys a.2 b)
in_step_together site c e (settles ending ∷ xs) ys a b = (a.0, in_step_together site c (following site c e) xs ys a.1 b)

pub right_together : (site : Site) (c : ℕ) (e : Exchange) (xs ys : List Move) → AreRight site c e xs → AreRight site c (moved site c e xs) ys → AreRight site c e (xs ++ ys)
right_together site c e [] ys a b = b
right_together site c e (gives act ∷ xs) ys a b = (a.0, right_together site c (pushed e (Out act)) xs ys a.1 b)
right_together site c e (continues d ∷ xs) ys a b = (a.0, right_together site c (pushed e (Out (Write d continue_text))) xs ys a.1 b)
right_together site c e (settles ending ∷ xs) ys a b = (a.0, right_together site c (following site c e) xs ys a.1 b)

pushed_all : (e : Exchange) (x : Item) (rest : List Item) → all_of (pushed e x) ++ rest ≡ all_of e ++ x ∷ rest
pushed_all e x rest = ap (λ (l : List Item). l ++ rest) (sym (append_assoc e.before e.items (x ∷ []))) ∙ append_assoc (all_of e) (x ∷ []) rest

pub all_moved : (site : Site) (c : ℕ) (e : Exchange) (moves : List Move) → all_of (moved site c e moves) ≡ all_of e ++ map Out (acts_of moves)
all_moved site c e [] = sym (append-nil (all_of e))
all_moved site c e (gives act ∷ moves) = all_moved site c (pushed e (Out act)) moves ∙ pushed_all e (Out act) (map Out (acts_of moves))
all_moved site c e (continues d ∷ moves) =
    all_moved site c (pushed e (Out (Write d continue_text))) moves ∙ pushed_all e (Out (Write d continue_text)) (map Out (acts_of moves))
all_moved site c e (settles ending ∷ moves) =
    all_moved site c (following site c e) moves ∙ ap (λ (l : List Item). l ++ map Out (acts_of moves)) (append-nil (all_of e))

given_parts : (m : Flags) (xs ys : List Act) → are_given m (xs ++ ys) ≡ true → (are_given m xs ≡ true) × (are_given (given_all m xs) ys ≡ true)
given_parts m [] ys f = (refl, f)
given_parts m (x ∷ xs) ys f =
    let parts = and_parts (is_allowed m x) (are_given (noted m (Out x)) (xs ++ ys)) f in
    let rest = given_parts (noted m (Out x)) xs ys parts.1 in
    (ap (λ (b : Bool). b && are_given (noted m (Out x)) xs) parts.0 ∙ rest.0, rest.1)

-- the acts of both parts are in form, each from the flags before it
pub form_parts : (m : Flags) (xs ys : List Move) → are_given m (acts_of (xs ++ ys)) ≡ true → (are_given m (acts_of xs) ≡ true) × (are_given (given_all m (acts_of xs)) (acts_of ys) ≡ true)
form_parts m xs ys f = given_parts m (acts_of xs) (acts_of ys) (subst (λ (l : List Act). are_given m l ≡ true) (acts_of-append xs ys) f)

-- no act accepts a connection
given_all-accepted : (m : Flags) (acts : List Act) → (given_all m acts).accepted ≡ m.accepted
given_all-accepted m [] = refl
given_all-accepted m (act ∷ acts) = given_all-accepted (noted m (Out act)) acts

-- ---- parts

pub leaves_then : (Mid Post : Claim) (L : List Item) (ev : Event) (acts : List Act) (e : Exchange) (old mid new : HttpConn) (n : ℕ) (xs ys : List Move) → (one : Leaves Mid L ev acts e old n xs mid)
    → Leaves Post L ev (acts ++ acts_of xs) (moved (site_of old) (number_of old) e xs) mid (next_after n (acts_of xs)) ys new → Leaves Post L ev acts e old n (xs ++ ys) new
leaves_then Mid Post L ev acts e old mid new n xs ys one two =
    let c_is : number_of mid ≡ number_of old = ap (λ (m : Flags). m.c) one.flags ∙ given_all-number (flags_of old) (acts_of xs) in
    let d : Exchange = moved (site_of old) (number_of old) e xs in
    let moved_is : moved (site_of mid) (number_of mid) d ys ≡ moved (site_of old) (number_of old) e (xs ++ ys) =
    ap (λ (t : Site). moved t (number_of mid) d ys) one.site ∙ (ap (λ (k : ℕ). moved (site_of old) k d ys) c_is ∙ sym (moved-append (site_of old) (number_of old) e xs ys)) in
    let acts_are : acts_of xs ++ acts_of ys ≡ acts_of (xs ++ ys) = sym (acts_of-append xs ys) in
    let all_acts : (acts ++ acts_of xs) ++ acts_of ys ≡ acts ++ acts_of (xs ++ ys) = append_assoc acts (acts_of xs) (acts_of ys) ∙ ap (λ (l : List Act). acts ++ l) acts_are in
    let next_is : next_after (next_after n (acts_of xs)) (acts_of ys) ≡ next_after n (acts_of (xs ++ ys)) =
    sym (next_after-append n (acts_of xs) (acts_of ys)) ∙ ap (λ (l : List Act). next_after n l) acts_are in
    record {
      site = two.site ∙ one.site;
      flags = two.flags ∙ (ap (λ (m : Flags). given_all m (acts_of ys)) one.flags ∙ (sym (given_all-append (flags_of old) (acts_of xs) (acts_of ys)) ∙ ap (λ (l : List Act). given_all (flags_of old) l) acts_are));
      in_step = in_step_together (site_of old) (number_of old) e xs ys one.in_step
          (subst (λ (k : ℕ). AreInStep (site_of old) k d ys) c_is (subst (λ (t : Site). AreInStep t (number_of mid) d ys) one.site two.in_step));
      right = right_together (site_of old) (number_of old) e xs ys one.right
          (subst (λ (k : ℕ). AreRight (site_of old) k d ys) c_is (subst (λ (t : Site). AreRight t (number_of mid) d ys) one.site two.right));
      turn = two.turn;
      standing = subst (λ (f : Exchange). Standing L ev (acts ++ acts_of (xs ++ ys)) two.turn (next_after n (acts_of (xs ++ ys))) f new) moved_is
          (subst (λ (k : ℕ). Standing L ev (acts ++ acts_of (xs ++ ys)) two.turn k (moved (site_of mid) (number_of mid) d ys) new) next_is
          (subst (λ (l : List Act). Standing L ev l two.turn (next_after (next_after n (acts_of xs)) (acts_of ys)) (moved (site_of mid) (number_of mid) d ys) new) all_acts two.standing));
      post = subst (λ (f : Exchange). Post two.turn f new) moved_is two.post;
    }

pub leaves_made : (By : Deed) (Post : Claim) (L : List Item) (ev : Event) (acts : List Act) (turn : Turn) (e : Exchange) (old new : HttpConn) (n : ℕ) (moves : List Move)
    → (s : Standing L ev acts turn n e old) → Part By old n moves new → are_given (flags_of old) (acts_of moves) ≡ true → Makes Post L ev acts e old n moves new
    → Leaves Post L ev acts e old n moves new
leaves_made By Post L ev acts turn e old new n moves s p form m =
    let flags : KnowsFlags (given_all (flags_of old) (acts_of moves)) (all_of e ++ map Out (acts_of moves)) = known_all (flags_of old) (all_of e) (acts_of moves) s.flags form in
    record {
      site = p.site;
      flags = p.flags;
      in_step = m.in_step;
      right = m.right;
      turn = m.turn;
      standing = record {
        over = m.over;
        legs = m.legs;
        front = (p.leads e s.front m.in_step).0;
        flags = subst (λ (l : List Item). KnowsFlags (flags_of new) l) (sym (all_moved (site_of old) (number_of old) e moves))
            (subst (λ (v : Flags). KnowsFlags v (all_of e ++ map Out (acts_of moves))) (sym p.flags) flags);
        staged = m.staged;
        lost = m.lost;
        children = m.children;
        heard = m.heard;
        inward = m.inward;
        starts_first = m.starts_first;
        unheard = λ none. absurd (false≢true (sym none ∙ (ap (λ (v : Flags). v.accepted) p.flags ∙ (given_all-accepted (flags_of old) (acts_of moves) ∙ m.accepted))));
        for_memory = λ is shut. subst (λ (k : ℕ). shut_for_memory (all_of (moved (site_of old) (number_of old) e moves)) k ≡ true) (sym number)
            (ap (λ (l : List Item). shut_for_memory l (number_of old)) (all_moved (site_of old) (number_of old) e moves)
            ∙ (list_any-append (is_shut_for_memory (number_of old)) (all_of e) (map Out (acts_of moves)) ∙ was_shut s.for_memory (m.memory is shut)));
      };
      post = m.post;
    }
  where
    number : number_of new ≡ number_of old
    number = ap (λ (v : Flags). v.c) p.flags ∙ given_all-number (flags_of old) (acts_of moves)

    was_shut : (old.lost ≡ true → (flags_of old).shut ≡ true → shut_for_memory (all_of e) (number_of old) ≡ true) → WasShut old (acts_of moves)
        → (shut_for_memory (all_of e) (number_of old) || shut_for_memory (map Out (acts_of moves)) (number_of old)) ≡ true
    was_shut before (inl was) = or_left (shut_for_memory (all_of e) (number_of old)) (shut_for_memory (map Out (acts_of moves)) (number_of old)) (before was.0 was.1)
    was_shut before (inr now) = or_right (shut_for_memory (all_of e) (number_of old)) (shut_for_memory (map Out (acts_of moves)) (number_of old)) now

pub leaves_none : (Post : Claim) (L : List Item) (ev : Event) (acts : List Act) (turn : Turn) (e : Exchange) (old new : HttpConn) (n : ℕ) (moves : List Move)
    → Standing L ev acts turn n e old → Nothing old n moves new → Post turn e old → Leaves Post L ev acts e old n moves new
leaves_none Post L ev acts turn e old new n moves s none post =
    let here : Leaves Post L ev acts e old n [] old = record {
      site = refl;
      flags = refl;
      in_step = tt;
      right = tt;
      turn = turn;
      standing = subst (λ (l : List Act). Standing L ev l turn n e old) (sym (append-nil acts)) s;
      post = post;
    } in
    subst (λ (c : HttpConn). Leaves Post L ev acts e old n moves c) (sym none.same) (subst (λ (l : List Move). Leaves Post L ev acts e old n l old) (sym none.none) here)

-- Where the first part leads to what the second one wants, both lead on.
pub then_leaves : (First Later : Deed) (Mid Post : Claim) (L : List Item) (ev : Event) (acts : List Act) (e : Exchange) (old new : HttpConn) (n : ℕ) (moves : List Move)
    → Then First Later old n moves new → are_given (flags_of old) (acts_of moves) ≡ true
    → ((xs : List Move) (mid : HttpConn) → First old n xs mid → are_given (flags_of old) (acts_of xs) ≡ true → Leaves Mid L ev acts e old n xs mid)
    → ((acts' : List Act) (turn : Turn) (e' : Exchange) (mid : HttpConn) (n' : ℕ) (ys : List Move) → Standing L ev acts' turn n' e' mid → Mid turn e' mid → site_of mid ≡ site_of old
    → Later mid n' ys new → are_given (flags_of mid) (acts_of ys) ≡ true → Leaves Post L ev acts' e' mid n' ys new)
    → Leaves Post L ev acts e old n moves new
then_leaves First Later Mid Post L ev acts e old new n moves w form one two =
    let forms = form_parts (flags_of old) w.sooner w.later (subst (λ (l : List Move). are_given (flags_of old) (acts_of l) ≡ true) w.are form) in
    let first : Leaves Mid L ev acts e old n w.sooner w.mid = one w.sooner w.mid w.first forms.0 in
    let second = two (acts ++ acts_of w.sooner) first.turn (moved (site_of old) (number_of old) e w.sooner) w.mid (next_after n (acts_of w.sooner)) w.later first.standing first.post first.site w.second
    (subst (λ (m : Flags). are_given m (acts_of w.later) ≡ true) (sym first.flags) forms.1) in
    subst (λ (l : List Move). Leaves Post L ev acts e old n l new) (sym w.are) (leaves_then Mid Post L ev acts e old w.mid new n w.sooner w.later first second)

-- What is said where it is done may be said otherwise.
pub leaves_as : (One Other : Claim) (L : List Item) (ev : Event) (acts : List Act) (e : Exchange) (old new : HttpConn) (n : ℕ) (moves : List Move) → ((t : Turn) (d : Exchange) → One t d new → Other t d new)
    → Leaves One L ev acts e old n moves new → Leaves Other L ev acts e old n moves new
leaves_as One Other L ev acts e old new n moves turns l = record {
  site = l.site;
  flags = l.flags;
  in_step = l.in_step;
  right = l.right;
  turn = l.turn;
  standing = l.standing;
  post = turns l.turn (moved (site_of old) (number_of old) e moves) l.post;
}
