-- In the parts of a step an exchange ends only after a byte of its answer was written in them.
use Rattle.std.proofs.Common.{◌≡◌, ◌⊎◌, ℕ, ◌==◌, Bool, true, false, ◌&&◌, ◌||◌, not, List, [], ◌∷◌, ◌++◌, Option, refl, sym, ap, ◌∙◌, subst, inl, inr}
use Rattle.std.specs.List.{list_any}
use Rattle.std.proofs.lemmas.Bool.{eq-eqb, false≢true, or_left}
use Rattle.std.proofs.lemmas.List.Folds.{list_any-append}
use Rattle.host_base.specs.declared.cause.Cause.{Cause}
use Rattle.host_base.specs.declared.request.Version.TheVariants.{V11}
use Rattle.host_trace.specs.declared.items.Act.{Act}
use Rattle.host_trace.specs.declared.items.Item.TheVariants.{Out}
use Rattle.host_trace.specs.Kinds.{is_write}
use Rattle.trace_child.specs.Words.{is_filled}
use Rattle.trace_model.specs.TakesNoMemory.{writes}
use Rattle.exchange_reply.specs.Reply.{SpellsFault}
use Rattle.exchange_stage.specs.declared.stage.Stage.{Stage}
use Rattle.exchange_stage.specs.declared.stage.Stage.TheVariants as At
use Rattle.conn_flags.specs.View.{View as Flags}
use Rattle.conn_flags.proofs.KnowsLaws.{given_all-number}
use Rattle.conn_laws.specs.Moves.{Move, acts_of, continues, gives, settles}
use Rattle.conn_laws.proofs.MoveLaws.{acts_of-append}
use Rattle.http_conn.specs.HttpConn.{HttpConn}
use Rattle.http_conn.specs.Kept.{flags_of, number_of}
use Rattle.http_conn.specs.Settles.{is_answered, is_over}
use Rattle.http_conn.specs.Writes.{acts_written, wrote}
use Rattle.http_conn.specs.Parts.{Deed, Ends, EndsBy, FinishesBy, Loses, Nothing, Part, Then, WritesRest, gives_all, the_one, the_other}

-- ---- words

-- an exchange is taken for ended
abbrev pub has_settle : List Move → Bool
has_settle [] = false
has_settle (gives act ∷ moves) = has_settle moves
has_settle (continues d ∷ moves) = has_settle moves
has_settle (settles ending ∷ moves) = true

pub settle_append : (xs ys : List Move) → has_settle (xs ++ ys) ≡ (has_settle xs || has_settle ys)
settle_append [] ys = refl
settle_append (gives act ∷ xs) ys = settle_append xs ys
settle_append (continues d ∷ xs) ys = settle_append xs ys
settle_append (settles ending ∷ xs) ys = refl

pub writes_append : (c : ℕ) (xs ys : List Move) → writes c (acts_of (xs ++ ys)) ≡ (writes c (acts_of xs) || writes c (acts_of ys))
writes_append c xs ys = ap (λ (l : List Act). writes c l) (acts_of-append xs ys) ∙ list_any-append (λ act. is_write c (Out act)) (acts_of xs) (acts_of ys)

pub none_settle : (acts : List Act) → has_settle (gives_all acts) ≡ false
none_settle [] = refl
none_settle (act ∷ acts) = none_settle acts

-- where something ends, something is written
abbrev pub Earned : ℕ → List Move → Type 0
Earned c moves = has_settle moves ≡ true → writes c (acts_of moves) ≡ true

or_right : (a b : Bool) → b ≡ true → (a || b) ≡ true
or_right true b e = refl
or_right false b e = e

pub earned_append : (c : ℕ) (xs ys : List Move) → Earned c xs → Earned c ys → Earned c (xs ++ ys)
earned_append c xs ys a b some = writes_append c xs ys ∙ go (has_settle xs) refl (sym (settle_append xs ys) ∙ some)
  where
    go : (s : Bool) → has_settle xs ≡ s → (has_settle xs || has_settle ys) ≡ true → (writes c (acts_of xs) || writes c (acts_of ys)) ≡ true
    go true is e = or_left (writes c (acts_of xs)) (writes c (acts_of ys)) (a is)
    go false is e = or_right (writes c (acts_of xs)) (writes c (acts_of ys)) (b (sym (ap (λ (x : Bool). x || has_settle ys) is) ∙ e))

pub earned_none : (c : ℕ) (moves : List Move) → has_settle moves ≡ false → Earned c moves
earned_none c moves none some = absurd (false≢true (sym none ∙ some))

-- a stage at which nothing is on the way to be given, and no script runs
abbrev pub is_slow : Stage → Bool
is_slow (At.Starting leg launch body whole) = false
is_slow (At.Running leg) = false
is_slow (At.Finishing text closes) = false
is_slow stage = true

-- what a part does at such a stage
pub record Earns (c : ℕ) (old : HttpConn) (moves : List Move) (new : HttpConn) : Type 0 where
  pub number : number_of new ≡ c
  pub earned : Earned c moves
  pub slow : new.lost ≡ false → is_slow new.stage ≡ true
  -- the whole answer stands only if it did, or something was written
  pub whole : is_answered new.stage ≡ true → (is_answered old.stage ≡ true) ⊎ (writes c (acts_of moves) ≡ true)

pub part_number : (By : Deed) (old : HttpConn) (n : ℕ) (moves : List Move) (new : HttpConn) → Part By old n moves new → number_of new ≡ number_of old
part_number By old n moves new p = ap (λ (m : Flags). m.c) p.flags ∙ given_all-number (flags_of old) (acts_of moves)

pub earns_then : (c : ℕ) (old mid new : HttpConn) (xs ys moves : List Move) → moves ≡ xs ++ ys → Earns c old xs mid → Earns c mid ys new → Earns c old moves new
earns_then c old mid new xs ys moves are a b = record {
  number = b.number;
  earned = subst (λ (l : List Move). Earned c l) (sym are) (earned_append c xs ys a.earned b.earned);
  slow = b.slow;
  whole = λ is. subst (λ (l : List Move). (is_answered old.stage ≡ true) ⊎ (writes c (acts_of l) ≡ true)) (sym are) (go (b.whole is));
}
  where
    from : (is_answered old.stage ≡ true) ⊎ (writes c (acts_of xs) ≡ true) → (is_answered old.stage ≡ true) ⊎ (writes c (acts_of (xs ++ ys)) ≡ true)
    from (inl was) = inl was
    from (inr some) = inr (writes_append c xs ys ∙ or_left (writes c (acts_of xs)) (writes c (acts_of ys)) some)

    go : (is_answered mid.stage ≡ true) ⊎ (writes c (acts_of ys) ≡ true) → (is_answered old.stage ≡ true) ⊎ (writes c (acts_of (xs ++ ys)) ≡ true)
    go (inl was) = from (a.whole was)
    go (inr some) = inr (writes_append c xs ys ∙ or_right (writes c (acts_of xs)) (writes c (acts_of ys)) some)

pub earns_same : (c : ℕ) (old new : HttpConn) (moves : List Move) → number_of old ≡ c → is_slow old.stage ≡ true → moves ≡ [] → new ≡ old → Earns c old moves new
earns_same c old new moves number slow none same = record {
  number = ap (λ (x : HttpConn). number_of x) same ∙ number;
  earned = earned_none c moves (ap has_settle none);
  slow = λ found. ap (λ (x : HttpConn). is_slow x.stage) same ∙ slow;
  whole = λ is. inl (sym (ap (λ (x : HttpConn). is_answered x.stage) same) ∙ is);
}

pub earns_lost : (c : ℕ) (old new : HttpConn) (n : ℕ) (moves : List Move) → number_of old ≡ c → Loses old n moves new → Earns c old moves new
earns_lost c old new n moves number l = record {
  number = ap (λ (x : HttpConn). number_of x) l.gives_up.is ∙ number;
  earned = earned_none c moves (ap has_settle l.none);
  slow = λ found. absurd (false≢true (sym found ∙ ap (λ (x : HttpConn). x.lost) l.gives_up.is));
  whole = λ is. inl (sym l.gives_up.answered ∙ is);
}

-- ---- a text that is the rest of an answer

pub fault_filled : (cause : Cause) (bare closes : Bool) (stamp : Option ℕ) (text : List ℕ) → SpellsFault cause bare closes stamp text → is_filled text ≡ true
fault_filled cause bare closes stamp text spells = subst (λ (l : List ℕ). is_filled l ≡ true) (sym (spells V11).text) refl

pub written_here : (c d : ℕ) (text : List ℕ) → d ≡ c → is_filled text ≡ true → writes c (acts_of (gives_all (acts_written d text true))) ≡ true
written_here c d [] is some = absurd (false≢true some)
written_here c d (byte ∷ text) is some = or_left (c == d) false (eq-eqb c d (sym is))

number_wrote : (text : List ℕ) (conn : HttpConn) → number_of (wrote text true conn) ≡ number_of conn
number_wrote [] conn = refl
number_wrote (byte ∷ text) conn = refl

pub earns_finish : (c : ℕ) (text : List ℕ) (closes : Bool) (old new : HttpConn) (n : ℕ) (moves : List Move) → number_of old ≡ c → is_filled text ≡ true → FinishesBy text closes old n moves new
    → Earns c old moves new
earns_finish c text closes old new n moves number some (the_other p) = earns_lost c old new n moves number p.by.loses
earns_finish c text closes old new n moves number some (the_one w) = record {
  number = part_number Ends w.mid _ w.later new w.second ∙ number_mid;
  earned = λ ends. written;
  slow = λ found. slow_now;
  whole = λ is. inr written;
}
  where
    number_mid : number_of w.mid ≡ c
    number_mid = ap (λ (x : HttpConn). number_of x) w.first.by.is ∙ (number_wrote text old ∙ number)

    written : writes c (acts_of moves) ≡ true
    written =
        ap (λ (l : List Move). writes c (acts_of l)) w.are
        ∙ (writes_append c w.sooner w.later
        ∙ or_left (writes c (acts_of w.sooner)) (writes c (acts_of w.later)) (ap (λ (l : List Move). writes c (acts_of l)) w.first.by.moves_are ∙ written_here c (number_of old) text number some))

    slow_now : is_slow new.stage ≡ true
    slow_now = go _ (is_over w.mid) w.second.by
      where
        go : (k : ℕ) (b : Bool) → EndsBy b w.mid k w.later new → is_slow new.stage ≡ true
        go k true e = ap is_slow e.1.stage
        go k false nothing = ap (λ (x : HttpConn). is_slow x.stage) nothing.same ∙ ap (λ (x : HttpConn). is_slow x.stage) w.first.by.is
