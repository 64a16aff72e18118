-- The acts of a step come in the order of their places.
use Rattle.std.proofs.Common.{◌≡◌, ◌≤◌, ℕ, Bool, true, false, List, [], ◌∷◌, ◌++◌, Option, Some, None, if◌then◌else◌, refl, sym, ap, ◌∙◌, subst, arith}
use Rattle.std.specs.Prelude.{nat_le}
use Rattle.std.proofs.lemmas.Bool.{and_from, and_parts, leb-true, le-leb}
use Rattle.std.proofs.lemmas.List.{append_assoc}
use Rattle.host_trace.specs.declared.items.Act.{Act}
use Rattle.host_trace.specs.declared.items.Act.TheVariants.{EndInput, Feed, Kill, Release, WantChild}
use Rattle.host_trace.specs.declared.items.Event.{Event}
use Rattle.host_trace.specs.declared.items.Why.{Why}
use Rattle.host_trace.specs.Told.{when}
use Rattle.child_core.specs.Due.{acting, feed_given, feeding, input_given, is_ask_due, is_feed_due, is_input_due, is_kill_due, is_release_due, kill_given, piece_of, release_given}
use Rattle.child_core.specs.View.{View}
use Rattle.conn_flags.specs.View.{is_live}
use Rattle.trace_model.specs.Form.{rank}
use Rattle.front_rules.specs.Acts.{are_ordered}
use Rattle.scgi_conn.specs.declared.conn.ScgiConn.{ScgiConn}
use Rattle.scgi_conn.specs.declared.stage.Stage.{Stage}
use Rattle.scgi_conn.specs.declared.stage.Stage.TheVariants.{Answered, Starting}
use Rattle.scgi_conn.specs.Parts.{acting_run, acts_acted, acts_asked, acts_begun, acts_begun_at, acts_shut, acts_written, acts_written_at, begun_at, given_up, is_ask_due as asks, why_of}
use Rattle.scgi_conn.specs.Step.{Steps}
use Rattle.scgi_conn.proofs.FlagLaws.{AreOnChild, OnChild, acted_on_child}
use Rattle.scgi_laws.specs.Orders.{StepsAreOrdered}

-- ---- lists in order

through : (a b d : ℕ) → nat_le a b ≡ true → nat_le b d ≡ true → nat_le a d ≡ true
through a b d p q =
    let x : a ≤ b = leb-true a b p in
    let y : b ≤ d = leb-true b d q in
    le-leb a d (omega (arith, x, y))

sooner : (lo hi : ℕ) (ys : List Act) → nat_le lo hi ≡ true → are_ordered hi ys ≡ true → are_ordered lo ys ≡ true
sooner lo hi [] l o = refl
sooner lo hi (y ∷ ys) l o =
    let parts = and_parts (nat_le hi (rank y)) (are_ordered (rank y) ys) o in
    and_from (nat_le lo (rank y)) _ (through lo hi (rank y) l parts.0) parts.1

-- one act, or none
one : (b : Bool) (lo : ℕ) (x : Act) (ys : List Act) → nat_le lo (rank x) ≡ true → are_ordered (rank x) ys ≡ true → are_ordered lo (when b x ++ ys) ≡ true
one true lo x ys l o = and_from (nat_le lo (rank x)) _ l o
one false lo x ys l o = sooner lo (rank x) ys l o

last_one : (b : Bool) (lo : ℕ) (x : Act) → nat_le lo (rank x) ≡ true → are_ordered lo (when b x) ≡ true
last_one true lo x l = and_from (nat_le lo (rank x)) true l refl
last_one false lo x l = refl

-- none has a higher place
abbrev AreUpTo : ℕ → List Act → Type 0
AreUpTo hi [] = Unit {0}
AreUpTo hi (x ∷ xs) = (nat_le (rank x) hi ≡ true) × AreUpTo hi xs

join : (lo hi : ℕ) (xs ys : List Act) → AreUpTo hi xs → nat_le lo hi ≡ true → are_ordered lo xs ≡ true → are_ordered hi ys ≡ true → are_ordered lo (xs ++ ys) ≡ true
join lo hi [] ys u l o p = sooner lo hi ys l p
join lo hi (x ∷ xs) ys u l o p =
    let parts = and_parts (nat_le lo (rank x)) (are_ordered (rank x) xs) o in
    and_from (nat_le lo (rank x)) _ parts.0 (join (rank x) hi xs ys u.1 u.0 parts.1 p)

-- ---- the acts on a child

low : (act : Act) → OnChild act → nat_le (rank act) 8 ≡ true
low (Feed k bytes) o = refl
low (EndInput k) o = refl
low (WantChild k) o = refl
low (Kill k) o = refl
low (Release k) o = refl
low _ o = absurd o

all_low : (acts : List Act) → AreOnChild acts → AreUpTo 8 acts
all_low [] o = tt
all_low (act ∷ acts) o = (low act o.0, all_low acts o.1)

acting_ordered : (v : View) → are_ordered 0 (acting true v) ≡ true
unfolding acting
acting_ordered v =
    let fed : View = feed_given v in
    let ended : View = input_given fed in
    let killed : View = kill_given ended in
    let released : View = release_given killed in
    let ask : List Act = when (is_ask_due true released) (WantChild v.number) in
    let release : List Act = when (is_release_due killed) (Release v.number) ++ ask in
    let kill : List Act = when (is_kill_due ended) (Kill v.number) ++ release in
    let input : List Act = when (is_input_due fed) (EndInput v.number) ++ kill in
    let last : are_ordered 7 ask ≡ true = last_one (is_ask_due true released) 7 (WantChild v.number) refl in
    let fourth : are_ordered 6 release ≡ true = one (is_release_due killed) 6 (Release v.number) ask refl last in
    let third : are_ordered 5 kill ≡ true = one (is_kill_due ended) 5 (Kill v.number) release refl fourth in
    let second : are_ordered 4 input ≡ true = one (is_input_due fed) 4 (EndInput v.number) kill refl third in
    let first : are_ordered 0 (feeding v ++ input) ≡ true = one (is_feed_due v) 0 (Feed v.number (piece_of v)) input refl second in
    let end_input : List Act = when (is_input_due fed) (EndInput v.number) in
    let killing : List Act = when (is_kill_due ended) (Kill v.number) in
    let releasing : List Act = when (is_release_due killed) (Release v.number) in
    ap (are_ordered 0) (append_assoc ((feeding v ++ end_input) ++ killing) releasing ask ∙ (append_assoc (feeding v ++ end_input) killing release ∙ append_assoc (feeding v) end_input kill)) ∙ first

run_ordered : (run : Option View) → are_ordered 0 (acting_run true run) ≡ true
run_ordered None = refl
run_ordered (Some v) = acting_ordered v

-- ---- the end of a step

asked_ordered : (lo e : ℕ) (q : Bool) → nat_le lo 11 ≡ true → are_ordered lo (acts_asked e q) ≡ true
asked_ordered lo e true l = and_from (nat_le lo 11) true l refl
asked_ordered lo e false l = refl

shut_ordered : (d e : ℕ) (why : Option Why) (q : Bool) → are_ordered 8 (acts_shut d why ++ acts_asked e q) ≡ true
shut_ordered d e None q = asked_ordered 8 e q refl
shut_ordered d e (Some why) q = asked_ordered 9 e q refl

-- nothing is shut where a script was started
unshut : (live : Bool) → ◌≡◌ {A = Option Why} (if live then None else None) None
unshut true = refl
unshut false = refl

end_ordered : (conn : ScgiConn) (n d e : ℕ) (s : Stage) (b q : Bool) → are_ordered 8 (acts_begun_at b n s conn ++ (acts_shut d (why_of (begun_at b n s conn)) ++ acts_asked e q)) ≡ true
end_ordered conn n d e (Starting launch request) true q =
    ap (λ (why : Option Why). are_ordered 10 (acts_shut d why ++ acts_asked e q)) (unshut (is_live conn.flags)) ∙ asked_ordered 10 e q refl
end_ordered conn n d e (Starting launch request) false q = shut_ordered d e (why_of (begun_at false n (Starting launch request) conn)) q
end_ordered conn n d e s b q = shut_ordered d e (why_of (begun_at b n s conn)) q

module _ (old new : ScgiConn) (ev : Event) (n m : ℕ) (acts : List Act) (w : Steps old ev n acts new m) where
  abbrev written : List Act
  written = acts_written w.written w.third

  abbrev fed : List Act
  fed = acts_acted w.fed w.fourth

  abbrev begun : List Act
  begun = acts_begun w.begun n w.fifth

  abbrev rest : List Act
  rest = acts_shut w.sixth.flags.c (why_of w.sixth) ++ acts_asked w.last.flags.c (asks w.last)

  fed_ordered : are_ordered 0 fed ≡ true
  fed_ordered = go w.fed
    where
      go : (b : Bool) → are_ordered 0 (acts_acted b w.fourth) ≡ true
      go true = run_ordered w.fourth.run
      go false = run_ordered (given_up w.fourth.run)

  tail_ordered : are_ordered 8 (begun ++ rest) ≡ true
  tail_ordered =
      subst (λ (x : ScgiConn). are_ordered 8 (begun ++ (acts_shut w.sixth.flags.c (why_of x) ++ acts_asked w.last.flags.c (asks w.last))) ≡ true) (sym w.sixth_is)
      (end_ordered w.fifth n w.sixth.flags.c w.last.flags.c w.fifth.stage w.begun (asks w.last))

  middle_ordered : are_ordered 0 (fed ++ (begun ++ rest)) ≡ true
  middle_ordered = join 0 8 fed (begun ++ rest) (all_low fed (acted_on_child w.fed w.fourth)) refl fed_ordered tail_ordered

  all_ordered : are_ordered 0 (written ++ (fed ++ (begun ++ rest))) ≡ true
  all_ordered = go w.written w.third.stage
    where
      go : (b : Bool) (s : Stage) → are_ordered 0 (acts_written_at b s w.third ++ (fed ++ (begun ++ rest))) ≡ true
      go true (Answered bytes) = middle_ordered
      go false (Answered bytes) = middle_ordered
      go b _ = middle_ordered

  ordered : are_ordered 0 acts ≡ true
  ordered =
      ap (are_ordered 0) (w.acts_are ∙ (append_assoc written (fed ++ begun) rest ∙ ap (λ (l : List Act). written ++ l) (append_assoc fed begun rest)))
      ∙ all_ordered

pub steps_are_ordered : StepsAreOrdered
steps_are_ordered old new ev n m acts L w = ordered old new ev n m acts w
