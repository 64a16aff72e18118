-- The flags of a connection know its items after each step.
use Rattle.std.proofs.Common.{◌≡◌, ◌≤◌, ℕ, ◌&&◌, ◌==◌, Bool, true, false, not, List, [], ◌∷◌, ◌++◌, map, Option, Some, None, if◌then◌else◌, refl, sym, ap, ◌∙◌, subst, arith}
use Rattle.std.proofs.lemmas.Bool.{false≢true, and_parts}
use Rattle.std.proofs.lemmas.List.{append_assoc, append-nil}
use Rattle.host_base.specs.declared.launch.Launch.{Launch}
use Rattle.host_trace.specs.declared.items.Act.{Act}
use Rattle.host_trace.specs.declared.items.Act.TheVariants.{EndInput, Feed, Kill, Release, Shut, Start, WantChild, WantClient, Write}
use Rattle.host_trace.specs.declared.items.Event.{Event}
use Rattle.host_trace.specs.declared.items.Item.{Item}
use Rattle.host_trace.specs.declared.items.Item.TheVariants.{In, Out}
use Rattle.host_trace.specs.declared.items.Why.{Why}
use Rattle.host_trace.specs.Kinds.{is_want_client}
use Rattle.host_trace.specs.Trace.{after_step}
use Rattle.own_traces.specs.OwnFits.{fits_own}
use Rattle.child_core.specs.declared.ending.Outcome.{Outcome}
use Rattle.child_core.specs.Due.{Due, Path, acting, given as run_given}
use Rattle.child_core.specs.View.{View as Run}
use Rattle.child_core.proofs.MemoryLaws.{acting-due}
use Rattle.conn_flags.specs.Form.{given_all}
use Rattle.conn_flags.specs.Knows.{Admits, KnowsFlags}
use Rattle.conn_flags.specs.View.{View, is_live, less_by, more_by, noted}
use Rattle.conn_flags.proofs.KnowsLaws.{events_admitted, known_next}
use Rattle.scgi_conn.specs.declared.conn.ScgiConn.{ScgiConn}
use Rattle.scgi_conn.specs.declared.stage.Stage.{Stage}
use Rattle.scgi_conn.specs.declared.stage.Stage.TheVariants.{Answered, Hearing, Running, Starting}
use Rattle.scgi_conn.specs.Follows.{FlagsFollow}
use Rattle.scgi_conn.specs.Parts.{acted_conn, acting_run, acts_acted, acts_asked, acts_begun, acts_begun_at, acts_shut, acts_written, acts_written_at, asked_conn, begun_at, begun_conn, given_up, heard_at, heard_conn, is_ask_due, is_hearing, outcome_of, settled_at, settled_by, settled_conn, shut_conn, why_of, written_at, written_conn}
use Rattle.scgi_conn.specs.Step.{Steps}
use Rattle.scgi_conn.specs.View.{flags_of}

-- ---- acts, one after another

-- it doesn't ask the client
abbrev pub Quiet : Act → Type 0
Quiet (WantClient d) = ⊥
Quiet _ = Unit {0}

abbrev pub AreQuiet : List Act → Type 0
AreQuiet [] = Unit {0}
AreQuiet (act ∷ acts) = Quiet act × AreQuiet acts

admitted : (m : View) (act : Act) → (is_want_client m.c (Out act) ≡ true → m.asked ≡ false) → Admits m (Out act)
admitted m _ f = record { asks = f; answers = λ e. absurd (false≢true e); leaves = λ u. omega arith }

quiet_asks : (m : View) (act : Act) → Quiet act → is_want_client m.c (Out act) ≡ true → m.asked ≡ false
quiet_asks m (WantClient d) q e = absurd q
quiet_asks m _ q e = absurd (false≢true e)

pub glue : (M : List Item) (xs ys : List Act) → ((M ++ map Out xs) ++ map Out ys) ≡ (M ++ map Out (xs ++ ys))
glue M [] ys = ap (λ (l : List Item). l ++ map Out ys) (append-nil M)
glue M (x ∷ xs) ys =
    ap (λ (l : List Item). l ++ map Out ys) (sym (append_assoc M (Out x ∷ []) (map Out xs)))
    ∙ (glue (M ++ Out x ∷ []) xs ys ∙ append_assoc M (Out x ∷ []) (map Out (xs ++ ys)))

pub known_quiet : (m : View) (M : List Item) (acts : List Act) → AreQuiet acts → KnowsFlags m M → KnowsFlags (given_all m acts) (M ++ map Out acts)
known_quiet m M [] q k = subst (λ (l : List Item). KnowsFlags m l) (sym (append-nil M)) k
known_quiet m M (act ∷ acts) q k =
    let one = known_next m M (Out act) k (admitted m act (quiet_asks m act q.0)) in
    subst (λ (l : List Item). KnowsFlags (given_all (noted m (Out act)) acts) l) (append_assoc M (Out act ∷ []) (map Out acts))
    (known_quiet (noted m (Out act)) (M ++ Out act ∷ []) acts q.1 one)

-- ---- acts on a child, which change nothing

same_count : (upgraded : Bool) (pending : ℕ) → less_by 0 (more_by (if upgraded then 0 else 0) pending) ≡ pending
same_count true pending = refl
same_count false pending = refl

-- it is an act on a child that runs
abbrev pub OnChild : Act → Type 0
OnChild (Feed k bytes) = Unit {0}
OnChild (EndInput k) = Unit {0}
OnChild (WantChild k) = Unit {0}
OnChild (Kill k) = Unit {0}
OnChild (Release k) = Unit {0}
OnChild _ = ⊥

abbrev pub AreOnChild : List Act → Type 0
AreOnChild [] = Unit {0}
AreOnChild (act ∷ acts) = OnChild act × AreOnChild acts

child_same : (m : View) (act : Act) → OnChild act → noted m (Out act) ≡ m
child_same m (Feed k bytes) o = ap (λ (p : ℕ). record m { pending = p }) (same_count m.upgraded m.pending)
child_same m (EndInput k) o = ap (λ (p : ℕ). record m { pending = p }) (same_count m.upgraded m.pending)
child_same m (WantChild k) o = ap (λ (p : ℕ). record m { pending = p }) (same_count m.upgraded m.pending)
child_same m (Kill k) o = ap (λ (p : ℕ). record m { pending = p }) (same_count m.upgraded m.pending)
child_same m (Release k) o = ap (λ (p : ℕ). record m { pending = p }) (same_count m.upgraded m.pending)
child_same m _ o = absurd o

start_same : (m : View) (k c : ℕ) (launch : Launch) → noted m (Out (Start k c 0 0 launch)) ≡ m
start_same m k c launch = ap (λ (p : ℕ). record m { pending = p }) (same_count m.upgraded m.pending)

child_quiet : (act : Act) → OnChild act → Quiet act
child_quiet (WantClient d) o = absurd o
child_quiet _ o = tt

all_quiet : (acts : List Act) → AreOnChild acts → AreQuiet acts
all_quiet [] o = tt
all_quiet (act ∷ acts) o = (child_quiet act o.0, all_quiet acts o.1)

all_same : (m : View) (acts : List Act) → AreOnChild acts → given_all m acts ≡ m
all_same m [] o = refl
all_same m (act ∷ acts) o = ap (λ (x : View). given_all x acts) (child_same m act o.0) ∙ all_same m acts o.1

path_on_child : (v : Run) (acts : List Act) → Path true v acts → AreOnChild acts
path_on_child v [] p = tt
path_on_child v (act ∷ acts) p = (one act p.0, path_on_child (run_given v act) acts p.1)
  where
    one : (act : Act) → Due true v act → OnChild act
    one (Feed d bytes) due = tt
    one (EndInput d) due = tt
    one (Kill d) due = tt
    one (Release d) due = tt
    one (WantChild d) due = tt
    one _ due = absurd due

pub run_on_child : (run : Option Run) → AreOnChild (acting_run true run)
run_on_child None = tt
run_on_child (Some v) = path_on_child v (acting true v) (acting-due true v).path

-- ---- the parts of a step

heard_flags : (b : Bool) (ev : Event) (conn : ScgiConn) → (heard_conn b ev conn).flags ≡ conn.flags
heard_flags b ev conn = go b conn.stage
  where
    go : (b : Bool) (s : Stage) → (heard_at b s ev conn).flags ≡ conn.flags
    go true (Hearing r) = refl
    go false (Hearing r) = refl
    go b _ = refl

settled_flags : (b : Bool) (conn : ScgiConn) → (settled_conn b conn).flags ≡ conn.flags
settled_flags b conn = go conn.stage
  where
    by : (b : Bool) (outcome : Option Outcome) → (settled_by b outcome conn).flags ≡ conn.flags
    by b None = refl
    by true (Some outcome) = refl
    by false (Some outcome) = refl

    go : (s : Stage) → (settled_at b s conn).flags ≡ conn.flags
    go Running = by b (outcome_of conn.run)
    go _ = refl

written_flags : (b : Bool) (conn : ScgiConn) → (written_conn b conn).flags ≡ given_all conn.flags (acts_written b conn)
written_flags b conn = go b conn.stage
  where
    go : (b : Bool) (s : Stage) → (written_at b s conn).flags ≡ given_all conn.flags (acts_written_at b s conn)
    go true (Answered bytes) = refl
    go false (Answered bytes) = refl
    go b _ = refl

written_quiet : (b : Bool) (conn : ScgiConn) → AreQuiet (acts_written b conn)
written_quiet b conn = go b conn.stage
  where
    go : (b : Bool) (s : Stage) → AreQuiet (acts_written_at b s conn)
    go true (Answered bytes) = (tt, tt)
    go false (Answered bytes) = tt
    go b _ = tt

pub acted_on_child : (b : Bool) (conn : ScgiConn) → AreOnChild (acts_acted b conn)
acted_on_child true conn = run_on_child conn.run
acted_on_child false conn = run_on_child (given_up conn.run)

acted_flags : (b : Bool) (conn : ScgiConn) → (acted_conn b conn).flags ≡ given_all conn.flags (acts_acted b conn)
acted_flags true conn = sym (all_same conn.flags (acting_run true conn.run) (run_on_child conn.run))
acted_flags false conn = sym (all_same conn.flags (acting_run true (given_up conn.run)) (run_on_child (given_up conn.run)))

begun_flags : (b : Bool) (n : ℕ) (conn : ScgiConn) → (begun_conn b n conn).flags ≡ given_all conn.flags (acts_begun b n conn)
begun_flags b n conn = go b conn.stage
  where
    go : (b : Bool) (s : Stage) → (begun_at b n s conn).flags ≡ given_all conn.flags (acts_begun_at b n s conn)
    go true (Starting launch request) = sym (start_same conn.flags n conn.flags.c launch)
    go false (Starting launch request) = refl
    go b _ = refl

begun_quiet : (b : Bool) (n : ℕ) (conn : ScgiConn) → AreQuiet (acts_begun b n conn)
begun_quiet b n conn = go b conn.stage
  where
    go : (b : Bool) (s : Stage) → AreQuiet (acts_begun_at b n s conn)
    go true (Starting launch request) = (tt, tt)
    go false (Starting launch request) = tt
    go b _ = tt

shut_flags : (why : Option Why) (conn : ScgiConn) → (shut_conn why conn).flags ≡ given_all conn.flags (acts_shut conn.flags.c why)
shut_flags None conn = refl
shut_flags (Some why) conn = refl

shut_quiet : (c : ℕ) (why : Option Why) → AreQuiet (acts_shut c why)
shut_quiet c None = tt
shut_quiet c (Some why) = (tt, tt)

-- the client is asked where it was not
asks : (conn : ScgiConn) (M : List Item) (b : Bool) → is_ask_due conn ≡ b → KnowsFlags conn.flags M → KnowsFlags (asked_conn b conn).flags (M ++ map Out (acts_asked conn.flags.c b))
asks conn M false is k = subst (λ (l : List Item). KnowsFlags conn.flags l) (sym (append-nil M)) k
asks conn M true is k = known_next conn.flags M (Out (WantClient conn.flags.c)) k (admitted conn.flags (WantClient conn.flags.c) (λ e. unasked))
  where
    opposite : (b : Bool) → not b ≡ true → b ≡ false
    opposite false e = refl
    opposite true e = absurd (false≢true e)

    unasked : conn.flags.asked ≡ false
    unasked = opposite conn.flags.asked (and_parts (is_hearing conn.stage && is_live conn.flags) (not conn.flags.asked) is).1

-- ---- a step

module _ (old new : ScgiConn) (ev : Event) (n m : ℕ) (acts : List Act) (limit : ℕ) (L : List Item) (w : Steps old ev n acts new m) (k : KnowsFlags old.flags L) (fit : fits_own limit L ev ≡ true) where
  abbrev H : List Item
  H = L ++ In ev ∷ []

  abbrev written : List Act
  written = acts_written w.written w.third

  abbrev fed : List Act
  fed = acts_acted w.fed w.fourth

  abbrev begun : List Act
  begun = acts_begun w.begun n w.fifth

  abbrev shut : List Act
  shut = acts_shut w.sixth.flags.c (why_of w.sixth)

  abbrev asked : List Act
  asked = acts_asked w.last.flags.c (is_ask_due w.last)

  -- the flags after acts that are given by them
  after : (conn by to : ScgiConn) (M : List Item) (acts : List Act) → to ≡ by → by.flags ≡ given_all conn.flags acts → AreQuiet acts → KnowsFlags conn.flags M → KnowsFlags to.flags (M ++ map Out acts)
  after conn by to M acts is flags quiet known =
      subst (λ (f : View). KnowsFlags f (M ++ map Out acts)) (sym (ap flags_of is ∙ flags)) (known_quiet conn.flags M acts quiet known)

  first : KnowsFlags w.first.flags H
  first = subst (λ (x : ScgiConn). KnowsFlags x.flags H) (sym w.first_is) (known_next old.flags L (In ev) k (events_admitted limit old.flags L ev k fit))

  third : KnowsFlags w.third.flags H
  third =
      subst (λ (f : View). KnowsFlags f H)
      (sym (ap flags_of w.third_is ∙ (settled_flags w.settled w.second ∙ (ap flags_of w.second_is ∙ heard_flags w.heard ev w.first)))) first

  fourth : KnowsFlags w.fourth.flags (H ++ map Out written)
  fourth = after w.third (written_conn w.written w.third) w.fourth H written w.fourth_is (written_flags w.written w.third) (written_quiet w.written w.third) third

  fifth : KnowsFlags w.fifth.flags ((H ++ map Out written) ++ map Out fed)
  fifth = after w.fourth (acted_conn w.fed w.fourth) w.fifth (H ++ map Out written) fed w.fifth_is (acted_flags w.fed w.fourth) (all_quiet fed (acted_on_child w.fed w.fourth)) fourth

  sixth : KnowsFlags w.sixth.flags (((H ++ map Out written) ++ map Out fed) ++ map Out begun)
  sixth = after w.fifth (begun_conn w.begun n w.fifth) w.sixth ((H ++ map Out written) ++ map Out fed) begun w.sixth_is (begun_flags w.begun n w.fifth) (begun_quiet w.begun n w.fifth) fifth

  ready : KnowsFlags w.sixth.flags (H ++ map Out (written ++ (fed ++ begun)))
  ready =
      subst (λ (l : List Item). KnowsFlags w.sixth.flags l)
      (glue (H ++ map Out written) fed begun ∙ glue H written (fed ++ begun)) sixth

  last : KnowsFlags w.last.flags ((H ++ map Out (written ++ (fed ++ begun))) ++ map Out shut)
  last = after w.sixth (shut_conn (why_of w.sixth) w.sixth) w.last (H ++ map Out (written ++ (fed ++ begun))) shut w.last_is (shut_flags (why_of w.sixth) w.sixth) (shut_quiet w.sixth.flags.c (why_of w.sixth)) ready

  end : KnowsFlags new.flags (((H ++ map Out (written ++ (fed ++ begun))) ++ map Out shut) ++ map Out asked)
  end = subst (λ (x : ScgiConn). KnowsFlags x.flags (((H ++ map Out (written ++ (fed ++ begun))) ++ map Out shut) ++ map Out asked)) (sym w.is) (asks w.last ((H ++ map Out (written ++ (fed ++ begun))) ++ map Out shut) (is_ask_due w.last) refl last)

  list : (((H ++ map Out (written ++ (fed ++ begun))) ++ map Out shut) ++ map Out asked) ≡ after_step L ev acts
  list =
      glue (H ++ map Out (written ++ (fed ++ begun))) shut asked
      ∙ (glue H (written ++ (fed ++ begun)) (shut ++ asked)
      ∙ (append_assoc L (In ev ∷ []) (map Out ((written ++ (fed ++ begun)) ++ (shut ++ asked)))
      ∙ ap (λ (l : List Act). after_step L ev l) (sym w.acts_are)))

  follows : KnowsFlags new.flags (after_step L ev acts)
  follows = subst (λ (l : List Item). KnowsFlags new.flags l) list end

pub flags_follow : FlagsFollow
flags_follow old new ev n m acts limit L w k fit = follows old new ev n m acts limit L w k fit
