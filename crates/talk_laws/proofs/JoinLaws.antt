-- Acts of a talk and of its child in the acts of a step.
use Rattle.std.proofs.Common.{◌≡◌, ℕ, ◌+◌, ◌-◌, Bool, true, false, List, [], ◌∷◌, ◌++◌, length, map, refl, sym, ap, ◌∙◌, append-nil, append_assoc, add-zero, inl, inr}
use Rattle.std.specs.Prelude.{◌&&◌, ◌||◌, not, nat_lt, if◌then◌else◌, sum_by}
use Rattle.std.specs.List.{fold, list_any}
use Rattle.std.proofs.lemmas.Bool.{cases_Bool, false≢true, or_left, or_right}
use Rattle.std.proofs.lemmas.List.{map-append}
use Rattle.host_trace.specs.declared.items.Act.{Act}
use Rattle.host_trace.specs.declared.items.Act.TheVariants.{Shut}
use Rattle.host_trace.specs.declared.items.Item.{Item}
use Rattle.host_trace.specs.declared.items.Item.TheVariants.{Out}
use Rattle.host_trace.specs.First.{since}
use Rattle.host_trace.specs.Kinds.{count_wrote, is_accepted, is_client_gone, is_no_room, is_shut, is_stop, is_upgrade, is_want_client, is_ws_bad, texts_said}
use Rattle.host_trace.specs.Projections.{client_out, left_of_phase, said, said_len, sent_of_phase, shut, upgraded, wrote_sum}
use Rattle.host_trace.proofs.ProjectionLaws.{said-push, shut-push, upgraded-push, wrote_sum-push}
use Rattle.trace_model.specs.Demands.{has_room}
use Rattle.trace_model.specs.Exchange.{Exchange, all_of, pushed}
use Rattle.trace_model.specs.Shuts.{whys_given, whys_of}
use Rattle.trace_model.specs.TakesNoMemory.{is_shut_act}
use Rattle.child_core.proofs.WordLaws.{since_begun}
use Rattle.child_laws.specs.Laws.{with_acts}
use Rattle.talk_laws.specs.Form.{AreUnwritten, each_keeps}
use Rattle.talk_laws.specs.Rules.{why_at}
use Rattle.talk_laws.proofs.ActLaws.{AreSmall, IsSmall, small_quiet, with_more, with_none}
use Rattle.talk_laws.proofs.ListLaws.{any_still, or_false}

-- ---- acts after acts

and_assoc : (a b d : Bool) → (a && (b && d)) ≡ (a && b && d)
and_assoc true b d = refl
and_assoc false b d = refl

pub each_append : (rule : Exchange → Act → Bool) (xs ys : List Act) (e : Exchange) → each_keeps rule e (xs ++ ys) ≡ (each_keeps rule e xs && each_keeps rule (with_acts e xs) ys)
each_append rule [] ys e = ap (λ d. each_keeps rule d ys) (sym (with_none e))
each_append rule (a ∷ xs) ys e =
    ap (λ b. rule e a && b) (each_append rule xs ys (pushed e (Out a)))
    ∙ and_assoc (rule e a) (each_keeps rule (pushed e (Out a)) xs) (each_keeps rule (with_acts (pushed e (Out a)) xs) ys)
    ∙ ap (λ d. rule e a && each_keeps rule (pushed e (Out a)) xs && each_keeps rule d ys) (with_more e a xs)

pub unwritten_append : (c : ℕ) (xs ys : List Act) → AreUnwritten c xs → AreUnwritten c ys → AreUnwritten c (xs ++ ys)
unwritten_append c [] ys p q = q
unwritten_append c (a ∷ xs) ys p q = (p.0, unwritten_append c xs ys p.1 q)

pub small_append : (xs ys : List Act) → AreSmall xs → AreSmall ys → AreSmall (xs ++ ys)
small_append [] ys p q = q
small_append (a ∷ xs) ys p q = (p.0, small_append xs ys p.1 q)

pub with_with : (e : Exchange) (xs ys : List Act) → with_acts (with_acts e xs) ys ≡ with_acts e (xs ++ ys)
with_with e xs ys =
    ap (λ l. record e { items = l }) (append_assoc e.items (map Out xs) (map Out ys) ∙ ap (λ l. e.items ++ l) (sym (map-append Out xs ys)))

-- ---- what small acts don't hold

pub small_asks : (c n : ℕ) (acts : List Act) → AreSmall acts → fold (λ (n : ℕ) (act : Act). n + (if is_want_client c (Out act) then 1 else 0)) n acts ≡ n
small_asks c n [] small = refl
small_asks c n (act ∷ acts) small = rw ((small_quiet c act small.0).asks_none, add-zero n) (small_asks c n acts small.1)

no_why : (c : ℕ) (act : Act) → IsSmall act → whys_of c act ≡ []
no_why c (Shut d why) s = absurd s
no_why c act s = refl

pub small_whys : (c : ℕ) (acts : List Act) → AreSmall acts → whys_given c acts ≡ []
small_whys c [] small = refl
small_whys c (act ∷ acts) small = ap (λ l. l ++ whys_given c acts) (no_why c act small.0) ∙ small_whys c acts small.1

no_shut : (c : ℕ) (act : Act) → IsSmall act → is_shut_act c act ≡ false
no_shut c (Shut d why) s = absurd s
no_shut c act s = refl

pub small_kept : (c : ℕ) (acts : List Act) → AreSmall acts → list_any (is_shut_act c) acts ≡ false
small_kept c [] small = refl
small_kept c (act ∷ acts) small = ap (λ b. b || list_any (is_shut_act c) acts) (no_shut c act small.0) ∙ small_kept c acts small.1

-- ---- events stay as they were

pub acts_still : (test : Item → Bool) → ((act : Act) → test (Out act) ≡ false) → (acts : List Act) (e : Exchange) → list_any test (all_of (with_acts e acts)) ≡ list_any test (all_of e)
acts_still test none [] e = ap (λ d. list_any test (all_of d)) (with_none e)
acts_still test none (act ∷ acts) e =
    ap (λ d. list_any test (all_of d)) (sym (with_more e act acts)) ∙ acts_still test none acts (pushed e (Out act)) ∙ any_still test e (Out act) (none act)

pub why_still : (c : ℕ) (acts : List Act) (e : Exchange) (over : Bool) → why_at c (all_of (with_acts e acts)) over ≡ why_at c (all_of e) over
why_still c acts e over = rw (
  acts_still is_accepted (λ act. refl) acts e,
  acts_still is_stop (λ act. refl) acts e,
  acts_still (λ x. is_client_gone c x || is_ws_bad c x) (λ act. refl) acts e,
  acts_still (is_no_room c) (λ act. refl) acts e,
) refl

-- where a narrower test passes somewhere, so does a wider one
pub any_wider : (test wide : Item → Bool) → ((x : Item) → test x ≡ true → wide x ≡ true) → (L : List Item) → list_any test L ≡ true → list_any wide L ≡ true
any_wider test wide f [] is = absurd (false≢true is)
any_wider test wide f (x ∷ L) is = elim (cases_Bool (test x)) [
  | inl here ↦ or_left (wide x) (list_any wide L) (f x here)
  | inr later ↦ or_right (wide x) (list_any wide L) (any_wider test wide f L (sym (ap (λ b. b || list_any test L) later) ∙ is))
]

-- ---- a question leaves what waits to be sent

module _ (c : ℕ) (L : List Item) (x : Item) (spoken : upgraded L c ≡ true) (open_then : is_shut c x ≡ false) (said_none : texts_said c x ≡ []) (left_none : count_wrote c x ≡ 0) where
  spoken_then : upgraded (L ++ x ∷ []) c ≡ true
  spoken_then = upgraded-push L x c ∙ ap (λ b. b || is_upgrade c x) spoken

  since_then : since (is_upgrade c) (L ++ x ∷ []) ≡ since (is_upgrade c) L ++ x ∷ []
  since_then = since_begun (is_upgrade c) L x spoken

  sent_then : sent_of_phase (L ++ x ∷ []) c ≡ sent_of_phase L c
  sent_then =
      ap (λ (b : Bool). if b then said_len (since (is_upgrade c) (L ++ x ∷ [])) c else length (client_out (L ++ x ∷ []) c)) spoken_then
      ∙ ap (λ l. said_len l c) since_then
      ∙ ap (λ ts. sum_by length ts) (said-push (since (is_upgrade c) L) x c ∙ ap (λ ts. said (since (is_upgrade c) L) c ++ ts) said_none ∙ append-nil (said (since (is_upgrade c) L) c))
      ∙ sym (ap (λ (b : Bool). if b then said_len (since (is_upgrade c) L) c else length (client_out L c)) spoken)

  left_then : left_of_phase (L ++ x ∷ []) c ≡ left_of_phase L c
  left_then =
      ap (λ (b : Bool). if b then wrote_sum (since (is_upgrade c) (L ++ x ∷ [])) c else wrote_sum (L ++ x ∷ []) c) spoken_then
      ∙ ap (λ l. wrote_sum l c) since_then
      ∙ wrote_sum-push (since (is_upgrade c) L) x c ∙ ap (λ n. wrote_sum (since (is_upgrade c) L) c + n) left_none ∙ add-zero (wrote_sum (since (is_upgrade c) L) c)
      ∙ sym (ap (λ (b : Bool). if b then wrote_sum (since (is_upgrade c) L) c else wrote_sum L c) spoken)

  pub room_still : has_room c (L ++ x ∷ []) ≡ has_room c L
  room_still =
      ap (λ n. not (nat_lt 262144 n))
      (ap (λ (b : Bool). if b then 0 else sent_of_phase (L ++ x ∷ []) c - left_of_phase (L ++ x ∷ []) c)
      (shut-push L x c ∙ ap (λ b. shut L c || b) open_then ∙ or_false (shut L c))
      ∙ ap (λ (n : ℕ). if shut L c then 0 else n - left_of_phase (L ++ x ∷ []) c) sent_then
      ∙ ap (λ (n : ℕ). if shut L c then 0 else sent_of_phase L c - n) left_then)
