-- No step changes the connection's site and number, and its acts are of the connection and its child alone.
use Rattle.std.proofs.Common.{◌≡◌, ℕ, ◌==◌, ◌&&◌, ◌||◌, ◌+◌, Bool, true, false, not, List, [], ◌∷◌, ◌++◌, fold, Option, Some, None, if◌then◌else◌, refl, sym, ap, ◌∙◌, subst, add-zero}
use Rattle.std.specs.List.{list_any}
use Rattle.std.proofs.lemmas.Bool.{and_from, eq-eqb, or_left, or_right, or_from, or_parts}
use Rattle.host_trace.specs.declared.items.Act.{Act}
use Rattle.host_trace.specs.declared.items.Act.TheVariants.{EndInput, Feed, Kill, Release, Shut, Start, WantChild, WantClient, Write}
use Rattle.host_trace.specs.declared.items.Event.{Event}
use Rattle.host_trace.specs.declared.items.Event.TheVariants.{ClientGone, NoRoom, WsBad}
use Rattle.host_trace.specs.declared.items.Item.TheVariants.{Out}
use Rattle.host_trace.specs.declared.items.Why.{Why}
use Rattle.own_traces.specs.Whose.{are_of, has, is_of, kids_after, next_after, next_child, with_child}
use Rattle.own_traces.proofs.BetweenLaws.{has-with}
use Rattle.own_traces.proofs.BlockLaws.{are_of-append, next_after-append}
use Rattle.trace_child.specs.Words.{given}
use Rattle.trace_model.specs.Between.{is_full, turns_away}
use Rattle.child_core.specs.declared.ending.Outcome.{Outcome}
use Rattle.child_core.specs.declared.ending.Outcome.TheVariants.{Output}
use Rattle.child_core.specs.Calls.{ended, heard as run_heard_of, heard_if, is_heard}
use Rattle.child_core.specs.declared.ending.Ending.TheVariants.{Dropped, Gone}
use Rattle.child_core.specs.Due.{Due, Path, acted, acting, given as run_given}
use Rattle.child_core.specs.View.{View}
use Rattle.child_core.proofs.MemoryLaws.{acting-due}
use Rattle.conn_flags.specs.View.{is_live}
use Rattle.scgi_conn.specs.declared.conn.ScgiConn.{ScgiConn}
use Rattle.scgi_conn.specs.declared.stage.End.{End}
use Rattle.scgi_conn.specs.declared.stage.End.TheVariants as For
use Rattle.scgi_conn.specs.declared.stage.Stage.{Stage}
use Rattle.scgi_conn.specs.declared.stage.Stage.TheVariants.{Answered, Hearing, Over, Running, Starting}
use Rattle.scgi_conn.specs.Ends.{why_for}
use Rattle.scgi_conn.specs.Parts.{acted_conn, acted_run, acting_run, acts_acted, acts_asked, acts_begun_at, acts_begun, acts_shut, acts_written, acts_written_at, asked_conn, begun_at, given_up, handed_run, heard_at, heard_by, heard_conn, is_ask_due, next_begun_at, outcome_of, run_told, settled_at, settled_by, settled_conn, shut_conn, told_conn, told_run, why_at, why_of, written_at, written_by, written_conn}
use Rattle.scgi_conn.specs.Slot.{last_child_of, number_of_run}
use Rattle.scgi_conn.specs.Step.{Steps}
use Rattle.scgi_conn.specs.View.{number_of, site_of}
use Rattle.scgi_conn.specs.Keeps.{AreOwn, IsWithin, Keeps, StepsKeep}

-- ---- what no part changes but the Start

pub record Kept (old new : ScgiConn) : Type 0 where
  pub site : site_of new ≡ site_of old
  pub number : number_of new ≡ number_of old
  pub child : last_child_of new ≡ last_child_of old

same : (conn : ScgiConn) → Kept conn conn
same conn = record { site = refl; number = refl; child = refl }

both : {old mid new : ScgiConn} → Kept old mid → Kept mid new → Kept old new
both a b = record { site = b.site ∙ a.site; number = b.number ∙ a.number; child = b.child ∙ a.child }

kept_as : (old : ScgiConn) {a b : ScgiConn} → b ≡ a → Kept old a → Kept old b
kept_as old is k = record { site = ap site_of is ∙ k.site; number = ap number_of is ∙ k.number; child = ap last_child_of is ∙ k.child }

up_number : (run : Option View) → number_of_run (given_up run) ≡ number_of_run run
up_number None = refl
up_number (Some v) = refl

told_number : (c : ℕ) (v : View) (ev : Event) (found : Bool) → (told_run c v ev found).number ≡ v.number
told_number c v (ClientGone d) found = go (c == d)
  where
    go : (b : Bool) → (if b then ended v Gone else v).number ≡ v.number
    go true = refl
    go false = refl
told_number c v (WsBad d) found = go (c == d)
  where
    go : (b : Bool) → (if b then ended v Gone else v).number ≡ v.number
    go true = refl
    go false = refl
told_number c v (NoRoom d) found = go (c == d)
  where
    go : (b : Bool) → (if b then ended v Dropped else v).number ≡ v.number
    go true = refl
    go false = refl
told_number c v _ found = refl

heard_number : (v : View) (ev : Event) → (run_heard_of v ev false).number ≡ v.number
heard_number v ev = go (is_heard ev)
  where
    go : (b : Bool) → (heard_if b v ev false).number ≡ v.number
    go true = refl
    go false = refl

told_kept : (b : Bool) (ev : Event) (conn : ScgiConn) → Kept conn (told_conn b ev conn)
told_kept b ev conn = record { site = refl; number = refl; child = go b conn.run }
  where
    go : (b : Bool) (run : Option View) → number_of_run (run_told conn.flags.c b ev run) ≡ number_of_run run
    go b None = refl
    go true (Some v) = ap (λ (k : ℕ). Some k) (told_number conn.flags.c v ev true)
    go false (Some v) = ap (λ (k : ℕ). Some k) (heard_number v ev)

heard_kept : (b : Bool) (ev : Event) (conn : ScgiConn) → Kept conn (heard_conn b ev conn)
heard_kept b ev conn = go b conn.stage
  where
    go : (b : Bool) (s : Stage) → Kept conn (heard_at b s ev conn)
    go true (Hearing r) = record { site = refl; number = refl; child = refl }
    go false (Hearing r) = record { site = refl; number = refl; child = up_number conn.run }
    go b _ = same conn

handed_number : (outcome : Outcome) (run : Option View) → number_of_run (handed_run outcome run) ≡ number_of_run run
handed_number Output None = refl
handed_number Output (Some v) = refl
handed_number _ run = refl

settled_kept : (b : Bool) (conn : ScgiConn) → Kept conn (settled_conn b conn)
settled_kept b conn = go conn.stage
  where
    by : (b : Bool) (outcome : Option Outcome) → Kept conn (settled_by b outcome conn)
    by b None = same conn
    by true (Some outcome) = record { site = refl; number = refl; child = handed_number outcome conn.run }
    by false (Some outcome) = record { site = refl; number = refl; child = up_number (handed_run outcome conn.run) ∙ handed_number outcome conn.run }

    go : (s : Stage) → Kept conn (settled_at b s conn)
    go Running = by b (outcome_of conn.run)
    go _ = same conn

written_kept : (b : Bool) (conn : ScgiConn) → Kept conn (written_conn b conn)
written_kept b conn = go b conn.stage
  where
    go : (b : Bool) (s : Stage) → Kept conn (written_at b s conn)
    go true (Answered bytes) = record { site = refl; number = refl; child = refl }
    go false (Answered bytes) = record { site = refl; number = refl; child = up_number conn.run }
    go b _ = same conn

acted_number : (run : Option View) → number_of_run (acted_run true run) ≡ number_of_run run
unfolding acted
acted_number None = refl
acted_number (Some v) = refl

acted_kept : (b : Bool) (conn : ScgiConn) → Kept conn (acted_conn b conn)
acted_kept true conn = record { site = refl; number = refl; child = acted_number conn.run }
acted_kept false conn = record { site = refl; number = refl; child = acted_number (given_up conn.run) ∙ up_number conn.run }

shut_kept : (why : Option Why) (conn : ScgiConn) → Kept conn (shut_conn why conn)
shut_kept None conn = same conn
shut_kept (Some why) conn = record { site = refl; number = refl; child = refl }

asked_kept : (b : Bool) (conn : ScgiConn) → Kept conn (asked_conn b conn)
asked_kept true conn = record { site = refl; number = refl; child = refl }
asked_kept false conn = same conn

-- ---- each act

-- it is of connection c, or of the child r
abbrev pub Fair : ℕ → Option ℕ → Act → Type 0
Fair c r (WantClient d) = d ≡ c
Fair c r (Write d bytes) = d ≡ c
Fair c r (Shut d why) = (d ≡ c) × (is_full why ≡ false)
Fair c r (Feed d bytes) = r ≡ Some d
Fair c r (EndInput d) = r ≡ Some d
Fair c r (WantChild d) = r ≡ Some d
Fair c r (Kill d) = r ≡ Some d
Fair c r (Release d) = r ≡ Some d
Fair c r _ = ⊥

abbrev pub AreFair : ℕ → Option ℕ → List Act → Type 0
AreFair c r [] = Unit {0}
AreFair c r (act ∷ acts) = Fair c r act × AreFair c r acts

pub fair_append : (c : ℕ) (r : Option ℕ) (xs ys : List Act) → AreFair c r xs → AreFair c r ys → AreFair c r (xs ++ ys)
fair_append c r [] ys a b = b
fair_append c r (x ∷ xs) ys a b = (a.0, fair_append c r xs ys a.1 b)

record Plain (c : ℕ) (r : Option ℕ) (act : Act) : Type 0 where
  child : (ks : List ℕ) → with_child ks c (Out act) ≡ ks
  next : (n : ℕ) → next_child n (Out act) ≡ n
  mine : (ks : List ℕ) (n : ℕ) → IsWithin r ks → is_of c ks n (Out act) ≡ true
  spares : (d : ℕ) → turns_away d (Out act) ≡ false

and_false : (b : Bool) → (b && false) ≡ false
and_false true = refl
and_false false = refl

within : (r : Option ℕ) (d : ℕ) (ks : List ℕ) → r ≡ Some d → IsWithin r ks → has ks d ≡ true
within r d ks is it = subst (λ (x : Option ℕ). IsWithin x ks) is it

plain : (c : ℕ) (r : Option ℕ) (act : Act) → Fair c r act → Plain c r act
plain c r (WantClient d) f = record { child = λ ks. refl; next = λ n. refl; mine = λ ks n it. or_left (c == d) _ (eq-eqb c d (sym f)); spares = λ d. refl }
plain c r (Write d bytes) f = record { child = λ ks. refl; next = λ n. refl; mine = λ ks n it. or_left (c == d) _ (eq-eqb c d (sym f)); spares = λ d. refl }
plain c r (Shut d why) f = record {
  child = λ ks. refl;
  next = λ n. refl;
  mine = λ ks n it. or_left (c == d) _ (eq-eqb c d (sym f.0));
  spares = λ e. ap (λ (b : Bool). e == d && b) f.1 ∙ and_false (e == d);
}
plain c r (Feed d bytes) f = record { child = λ ks. refl; next = λ n. refl; mine = λ ks n it. within r d ks f it; spares = λ d. refl }
plain c r (EndInput d) f = record { child = λ ks. refl; next = λ n. refl; mine = λ ks n it. within r d ks f it; spares = λ d. refl }
plain c r (WantChild d) f = record { child = λ ks. refl; next = λ n. refl; mine = λ ks n it. within r d ks f it; spares = λ d. refl }
plain c r (Kill d) f = record { child = λ ks. refl; next = λ n. refl; mine = λ ks n it. within r d ks f it; spares = λ d. refl }
plain c r (Release d) f = record { child = λ ks. refl; next = λ n. refl; mine = λ ks n it. within r d ks f it; spares = λ d. refl }
plain c r _ f = absurd f

-- ---- all of them

fair_next : (c : ℕ) (r : Option ℕ) (acts : List Act) → AreFair c r acts → (n : ℕ) → next_after n acts ≡ n
fair_next c r [] f n = refl
fair_next c r (act ∷ acts) f n = ap (λ (m : ℕ). next_after m acts) ((plain c r act f.0).next n) ∙ fair_next c r acts f.1 n

fair_kids : (c : ℕ) (r : Option ℕ) (acts : List Act) → AreFair c r acts → (ks : List ℕ) → kids_after ks c acts ≡ ks
fair_kids c r [] f ks = refl
fair_kids c r (act ∷ acts) f ks = ap (λ (l : List ℕ). kids_after l c acts) ((plain c r act f.0).child ks) ∙ fair_kids c r acts f.1 ks

fair_are : (c : ℕ) (r : Option ℕ) (acts : List Act) → AreFair c r acts → (ks : List ℕ) (n : ℕ) → IsWithin r ks → are_of c ks n acts ≡ true
fair_are c r [] f ks n it = refl
fair_are c r (act ∷ acts) f ks n it =
    let p = plain c r act f.0 in
    and_from (is_of c ks n (Out act)) _ (p.mine ks n it)
    (ap (λ (l : List ℕ). are_of c l (next_child n (Out act)) acts) (p.child ks) ∙ (ap (λ (m : ℕ). are_of c ks m acts) (p.next n) ∙ fair_are c r acts f.1 ks n it))

-- it turns nobody away
abbrev AreKind : List Act → Type 0
AreKind acts = (d : ℕ) → list_any (λ (act : Act). turns_away d (Out act)) acts ≡ false

fair_kind : (c : ℕ) (r : Option ℕ) (acts : List Act) → AreFair c r acts → AreKind acts
fair_kind c r [] f d = refl
fair_kind c r (act ∷ acts) f d = or_from (turns_away d (Out act)) _ ((plain c r act f.0).spares d) (fair_kind c r acts f.1 d)

kind_append : (xs ys : List Act) → AreKind xs → AreKind ys → AreKind (xs ++ ys)
kind_append [] ys a b d = b d
kind_append (x ∷ xs) ys a b d = or_from (turns_away d (Out x)) _ (first (turns_away d (Out x)) _ (a d)) (kind_append xs ys (λ e. second (turns_away e (Out x)) _ (a e)) b d)
  where
    first : (p q : Bool) → (p || q) ≡ false → p ≡ false
    first p q e = (or_parts p q e).0

    second : (p q : Bool) → (p || q) ≡ false → q ≡ false
    second p q e = (or_parts p q e).1

none_counted : (test : Act → Bool) (n : ℕ) (acts : List Act) → list_any test acts ≡ false → fold (λ (m : ℕ) (y : Act). m + (if test y then 1 else 0)) n acts ≡ n
none_counted test n [] none = refl
none_counted test n (y ∷ acts) none =
    let parts = or_parts (test y) (list_any test acts) none in
    ap (λ (b : Bool). fold (λ (m : ℕ) (z : Act). m + (if test z then 1 else 0)) (n + (if b then 1 else 0)) acts) parts.0
    ∙ (ap (λ (m : ℕ). fold (λ (l : ℕ) (z : Act). l + (if test z then 1 else 0)) m acts) (add-zero n) ∙ none_counted test n acts parts.1)

kids_append : (c : ℕ) (ks : List ℕ) (xs ys : List Act) → kids_after ks c (xs ++ ys) ≡ kids_after (kids_after ks c xs) c ys
kids_append c ks [] ys = refl
kids_append c ks (x ∷ xs) ys = kids_append c (with_child ks c (Out x)) xs ys

-- ---- those of a step

path_fair : (c : ℕ) (r : Option ℕ) (v : View) (acts : List Act) → r ≡ Some v.number → Path true v acts → AreFair c r acts
path_fair c r v [] is p = tt
path_fair c r v (act ∷ acts) is p = (one act p.0, path_fair c r (run_given v act) acts is p.1)
  where
    one : (act : Act) → Due true v act → Fair c r act
    one (Feed d bytes) due = is ∙ ap (λ (k : ℕ). Some k) (sym due.0)
    one (EndInput d) due = is ∙ ap (λ (k : ℕ). Some k) (sym due.0)
    one (Kill d) due = is ∙ ap (λ (k : ℕ). Some k) (sym due.0)
    one (Release d) due = is ∙ ap (λ (k : ℕ). Some k) (sym due.0)
    one (WantChild d) due = is ∙ ap (λ (k : ℕ). Some k) (sym due.0)
    one _ due = absurd due

run_fair : (c : ℕ) (r : Option ℕ) (run : Option View) → number_of_run run ≡ r → AreFair c r (acting_run true run)
run_fair c r None is = tt
run_fair c r (Some v) is = path_fair c r v (acting true v) (sym is) (acting-due true v).path

why_fair : (c d : ℕ) (why : Option Why) (live : Bool) (s : Stage) → d ≡ c → why ≡ (if live then why_at s else None) → AreFair c None (acts_shut d why)
why_fair c d why live s is e = subst (λ (w : Option Why). AreFair c None (acts_shut d w)) (sym e) (go live s)
  where
    kind : (end : End) → is_full (why_for end) ≡ false
    kind For.Done = refl
    kind For.Idle = refl
    kind For.Gone = refl
    kind For.Stopped = refl
    kind For.NoMemory = refl

    go : (live : Bool) (s : Stage) → AreFair c None (acts_shut d (if live then why_at s else None))
    go false s = tt
    go true (Over end) = ((is, kind end), tt)
    go true _ = tt

asks_fair : (c d : ℕ) (due : Bool) → d ≡ c → AreFair c None (acts_asked d due)
asks_fair c d true is = (is, tt)
asks_fair c d false is = tt

-- the Start, where there is one
record Begins (conn : ScgiConn) (c n : ℕ) (ks : List ℕ) (s : Stage) (b : Bool) : Type 0 where
  are : are_of c ks n (acts_begun_at b n s conn) ≡ true
  child : IsWithin (last_child_of (begun_at b n s conn)) (kids_after ks c (acts_begun_at b n s conn))
  next : next_begun_at b s n ≡ next_after n (acts_begun_at b n s conn)
  kind : AreKind (acts_begun_at b n s conn)

begins : (conn : ScgiConn) (c n : ℕ) (ks : List ℕ) (s : Stage) (b : Bool) → number_of conn ≡ c → IsWithin (last_child_of conn) ks → Begins conn c n ks s b
begins conn c n ks (Starting launch request) true is it =
    let mine : (c == number_of conn) ≡ true = eq-eqb c (number_of conn) (sym is) in
    record {
      are = and_from (c == number_of conn && n == n) true (and_from (c == number_of conn) (n == n) mine (eq-eqb n n refl)) refl;
      child = ap (λ (l : Bool). has (if l then ks ++ n ∷ [] else ks) n) mine ∙ (has-with ks n n ∙ or_right (has ks n) (n == n) (eq-eqb n n refl));
      next = refl;
      kind = λ d. refl;
    }
begins conn c n ks (Starting launch request) false is it = record {
  are = refl;
  child = subst (λ (x : Option ℕ). IsWithin x ks) (sym (up_number conn.run)) it;
  next = refl;
  kind = λ d. refl;
}
begins conn c n ks _ b is it = record { are = refl; child = it; next = refl; kind = λ d. refl }

begun_site : (b : Bool) (n : ℕ) (s : Stage) (conn : ScgiConn) → site_of (begun_at b n s conn) ≡ site_of conn
begun_site true n (Starting launch request) conn = refl
begun_site false n (Starting launch request) conn = refl
begun_site b n _ conn = refl

begun_number : (b : Bool) (n : ℕ) (s : Stage) (conn : ScgiConn) → number_of (begun_at b n s conn) ≡ number_of conn
begun_number true n (Starting launch request) conn = refl
begun_number false n (Starting launch request) conn = refl
begun_number b n _ conn = refl

module _ (old new : ScgiConn) (ev : Event) (n m : ℕ) (acts : List Act) (w : Steps old ev n acts new m) where
  abbrev c : ℕ
  c = number_of old

  abbrev r : Option ℕ
  r = last_child_of old

  first_kept : Kept old w.first
  first_kept = kept_as old w.first_is (told_kept w.room ev old)

  second_kept : Kept old w.second
  second_kept = both first_kept (kept_as w.first w.second_is (heard_kept w.heard ev w.first))

  third_kept : Kept old w.third
  third_kept = both second_kept (kept_as w.second w.third_is (settled_kept w.settled w.second))

  fourth_kept : Kept old w.fourth
  fourth_kept = both third_kept (kept_as w.third w.fourth_is (written_kept w.written w.third))

  fifth_kept : Kept old w.fifth
  fifth_kept = both fourth_kept (kept_as w.fourth w.fifth_is (acted_kept w.fed w.fourth))

  end_kept : Kept w.sixth new
  end_kept = both (kept_as w.sixth w.last_is (shut_kept (why_of w.sixth) w.sixth)) (kept_as w.last w.is (asked_kept (is_ask_due w.last) w.last))

  abbrev written : List Act
  written = acts_written w.written w.third

  abbrev fed : List Act
  fed = acts_acted w.fed w.fourth

  abbrev begun : List Act
  begun = acts_begun w.begun n w.fifth

  abbrev shut : List Act
  shut = acts_shut w.sixth.flags.c (why_of w.sixth)

  abbrev asked : List Act
  asked = acts_asked w.last.flags.c (is_ask_due w.last)

  written_fair : AreFair c r written
  written_fair = go w.written w.third.stage
    where
      go : (b : Bool) (s : Stage) → AreFair c r (acts_written_at b s w.third)
      go true (Answered bytes) = (third_kept.number, tt)
      go false (Answered bytes) = tt
      go b _ = tt

  fed_fair : AreFair c r fed
  fed_fair = go w.fed
    where
      go : (b : Bool) → AreFair c r (acts_acted b w.fourth)
      go true = run_fair c r w.fourth.run fourth_kept.child
      go false = run_fair c r (given_up w.fourth.run) (up_number w.fourth.run ∙ fourth_kept.child)

  begun_is : (ks : List ℕ) → IsWithin r ks → Begins w.fifth c n ks w.fifth.stage w.begun
  begun_is ks it = begins w.fifth c n ks w.fifth.stage w.begun fifth_kept.number (subst (λ (x : Option ℕ). IsWithin x ks) (sym fifth_kept.child) it)

  sixth_number : number_of w.sixth ≡ c
  sixth_number = ap number_of w.sixth_is ∙ (begun_number w.begun n w.fifth.stage w.fifth ∙ fifth_kept.number)

  -- ---- the acts up to the Start, and those behind it

  abbrev front : List Act
  front = written ++ (fed ++ begun)

  abbrev back : List Act
  back = shut ++ asked

  back_fair : AreFair c None back
  back_fair =
      fair_append c None shut asked (why_fair c w.sixth.flags.c (why_of w.sixth) (is_live w.sixth.flags) w.sixth.stage sixth_number refl)
      (asks_fair c w.last.flags.c (is_ask_due w.last) ((kept_as w.sixth w.last_is (shut_kept (why_of w.sixth) w.sixth)).number ∙ sixth_number))

  module _ (ks : List ℕ) (it : IsWithin r ks) where
    abbrev start : Begins w.fifth c n ks w.fifth.stage w.begun
    start = begun_is ks it

    kids_front : kids_after ks c front ≡ kids_after ks c begun
    kids_front =
        kids_append c ks written (fed ++ begun)
        ∙ (ap (λ (l : List ℕ). kids_after l c (fed ++ begun)) (fair_kids c r written written_fair ks)
        ∙ (kids_append c ks fed begun ∙ ap (λ (l : List ℕ). kids_after l c begun) (fair_kids c r fed fed_fair ks)))

    kids_all : kids_after ks c (front ++ back) ≡ kids_after ks c begun
    kids_all = kids_append c ks front back ∙ (fair_kids c None back back_fair (kids_after ks c front) ∙ kids_front)

    are_front : are_of c ks n front ≡ true
    are_front =
        are_of-append c ks n written (fed ++ begun)
        ∙ and_from (are_of c ks n written) _ (fair_are c r written written_fair ks n it)
        (ap (λ (l : List ℕ). are_of c l (next_after n written) (fed ++ begun)) (fair_kids c r written written_fair ks)
        ∙ (ap (λ (k : ℕ). are_of c ks k (fed ++ begun)) (fair_next c r written written_fair n)
        ∙ (are_of-append c ks n fed begun
        ∙ and_from (are_of c ks n fed) _ (fair_are c r fed fed_fair ks n it)
        (ap (λ (l : List ℕ). are_of c l (next_after n fed) begun) (fair_kids c r fed fed_fair ks)
        ∙ (ap (λ (k : ℕ). are_of c ks k begun) (fair_next c r fed fed_fair n) ∙ start.are)))))

    are_all : are_of c ks n (front ++ back) ≡ true
    are_all =
        are_of-append c ks n front back
        ∙ and_from (are_of c ks n front) _ are_front (fair_are c None back back_fair (kids_after ks c front) (next_after n front) tt)

    its : AreOwn old new n ks acts
    its = record {
      are = ap (are_of c ks n) w.acts_are ∙ are_all;
      child =
          subst (λ (l : List ℕ). IsWithin (last_child_of new) l) (sym (ap (kids_after ks c) w.acts_are ∙ kids_all))
          (subst (λ (x : Option ℕ). IsWithin x (kids_after ks c begun)) (sym (end_kept.child ∙ ap last_child_of w.sixth_is)) start.child);
    }

  kinds : (b : Bool) (s : Stage) → AreKind (acts_begun_at b n s w.fifth)
  kinds true (Starting launch request) d = refl
  kinds false (Starting launch request) d = refl
  kinds b _ d = refl

  counts : (b : Bool) (s : Stage) → next_begun_at b s n ≡ next_after n (acts_begun_at b n s w.fifth)
  counts true (Starting launch request) = refl
  counts false (Starting launch request) = refl
  counts b _ = refl

  kind : AreKind acts
  kind =
      subst AreKind (sym w.acts_are)
      (kind_append front back
      (kind_append written (fed ++ begun) (fair_kind c r written written_fair) (kind_append fed begun (fair_kind c r fed fed_fair) (kinds w.begun w.fifth.stage)))
      (fair_kind c None back back_fair))

  next_all : next_after n (front ++ back) ≡ next_after n begun
  next_all =
      next_after-append n front back
      ∙ (fair_next c None back back_fair (next_after n front)
      ∙ (next_after-append n written (fed ++ begun)
      ∙ (ap (λ (k : ℕ). next_after k (fed ++ begun)) (fair_next c r written written_fair n)
      ∙ (next_after-append n fed begun ∙ ap (λ (k : ℕ). next_after k begun) (fair_next c r fed fed_fair n)))))

  keeps : Keeps old new n m acts
  keeps = record {
    site = end_kept.site ∙ (ap site_of w.sixth_is ∙ (begun_site w.begun n w.fifth.stage w.fifth ∙ fifth_kept.site));
    number = end_kept.number ∙ sixth_number;
    next = w.next ∙ (counts w.begun w.fifth.stage ∙ sym (ap (next_after n) w.acts_are ∙ next_all));
    stays = λ d. none_counted (λ (act : Act). turns_away d (Out act)) 0 acts (kind d);
    its = its;
  }

pub steps_keep : StepsKeep
steps_keep old new ev n m acts w = keeps old new ev n m acts w
