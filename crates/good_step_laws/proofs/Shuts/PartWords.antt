-- Before the end of a step its parts neither shut the connection nor ask its client, and what is held of the idle time stays.
use Rattle.std.proofs.Common.{◌≡◌, ℕ, Bool, true, false, List, [], ◌∷◌, ◌++◌, refl, ap, ◌∙◌, sym, subst}
use Rattle.host_base.specs.declared.cause.Cause.{Cause}
use Rattle.host_trace.specs.declared.items.Act.{Act}
use Rattle.host_trace.specs.declared.items.Act.TheVariants.{CloseWs, EndInput, Feed, Kill, Release, Says, Shut, Start, Upgrade, WantChild, WantClient, Write}
use Rattle.exchange_stage.specs.declared.stage.Stage.{Stage}
use Rattle.exchange_stage.specs.declared.stage.Stage.TheVariants as At
use Rattle.conn_laws.specs.Moves.{Move, continues, gives, settles}
use Rattle.http_conn.specs.HttpConn.{HttpConn}
use Rattle.http_conn.specs.Settles.{is_over}
use Rattle.http_conn.specs.Writes.{acts_written, wrote}
use Rattle.http_conn.specs.Parts.{Ends, EndsBy, FinishesBy, Gives, GivesBy, GivesHop, GivesHopBy, Loses, Nothing, Part, Then, WritesRest, gives_all, the_one, the_other}

-- ---- words

-- an act of a part before the end of a step
abbrev pub is_inner : Act → Bool
is_inner (WantClient c) = false
is_inner (Shut c why) = false
is_inner (Upgrade c rest) = false
is_inner (Says c texts) = false
is_inner (CloseWs c code) = false
is_inner _ = true

-- .. and an exchange that is taken for ended holds this of the idle time
abbrev pub AreInner : Bool → List Move → Type 0
AreInner idled [] = Unit {0}
AreInner idled (gives act ∷ moves) = (is_inner act ≡ true) × AreInner idled moves
AreInner idled (continues d ∷ moves) = AreInner idled moves
AreInner idled (settles ending ∷ moves) = (ending.idled ≡ idled) × AreInner idled moves

pub record IsInner (old : HttpConn) (moves : List Move) (new : HttpConn) : Type 0 where
  pub are : AreInner old.idled moves
  pub idled : new.idled ≡ old.idled

pub inner_append : (idled : Bool) (xs ys : List Move) → AreInner idled xs → AreInner idled ys → AreInner idled (xs ++ ys)
inner_append idled [] ys a b = b
inner_append idled (gives act ∷ xs) ys a b = (a.0, inner_append idled xs ys a.1 b)
inner_append idled (continues d ∷ xs) ys a b = inner_append idled xs ys a b
inner_append idled (settles ending ∷ xs) ys a b = (a.0, inner_append idled xs ys a.1 b)

-- no act, and the same is held
pub inner_none : (old new : HttpConn) (moves : List Move) → moves ≡ [] → new.idled ≡ old.idled → IsInner old moves new
inner_none old new moves none same = record { are = subst (λ (l : List Move). AreInner old.idled l) (sym none) tt; idled = same }

pub inner_nothing : (old new : HttpConn) (n : ℕ) (moves : List Move) → Nothing old n moves new → IsInner old moves new
inner_nothing old new n moves none = inner_none old new moves none.none (ap (λ (c : HttpConn). c.idled) none.same)

pub inner_loses : (old new : HttpConn) (n : ℕ) (moves : List Move) → Loses old n moves new → IsInner old moves new
inner_loses old new n moves l = inner_none old new moves l.none (ap (λ (c : HttpConn). c.idled) l.gives_up.is)

module _ (First Later : HttpConn → ℕ → List Move → HttpConn → Type 0) where
  pub inner_then : (old new : HttpConn) (n : ℕ) (moves : List Move) → Then First Later old n moves new → ((mid : HttpConn) (xs : List Move) → First old n xs mid → IsInner old xs mid)
      → ((mid : HttpConn) (k : ℕ) (ys : List Move) → Later mid k ys new → IsInner mid ys new) → IsInner old moves new
  inner_then old new n moves w one two =
      let a : IsInner old w.sooner w.mid = one w.mid w.sooner w.first in
      let b : IsInner w.mid w.later new = two w.mid _ w.later w.second in
      record {
        are = subst (λ (l : List Move). AreInner old.idled l) (sym w.are) (inner_append old.idled w.sooner w.later a.are (subst (λ (i : Bool). AreInner i w.later) a.idled b.are));
        idled = b.idled ∙ a.idled;
      }

-- ---- what is written

inner_written : (idled : Bool) (c : ℕ) (text : List ℕ) → AreInner idled (gives_all (acts_written c text true))
inner_written idled c [] = tt
inner_written idled c (byte ∷ text) = (refl, tt)

idled_wrote : (text : List ℕ) (conn : HttpConn) → (wrote text true conn).idled ≡ conn.idled
idled_wrote [] conn = refl
idled_wrote (byte ∷ text) conn = refl

pub inner_ends : (old new : HttpConn) (n : ℕ) (moves : List Move) → Part Ends old n moves new → IsInner old moves new
inner_ends old new n moves p = go (is_over old) p.by
  where
    go : (b : Bool) → EndsBy b old n moves new → IsInner old moves new
    go true e = record { are = subst (λ (l : List Move). AreInner old.idled l) (sym e.0) (refl, tt); idled = e.1.front.idled }
    go false none = inner_nothing old new n moves none

inner_finishes : (text : List ℕ) (closes : Bool) (old new : HttpConn) (n : ℕ) (moves : List Move) → FinishesBy text closes old n moves new → IsInner old moves new
inner_finishes text closes old new n moves (the_one w) =
    inner_then (Part (WritesRest text closes)) (Part Ends) old new n moves w
    (λ mid xs p. record { are = subst (λ (l : List Move). AreInner old.idled l) (sym p.by.moves_are) (inner_written old.idled _ text); idled = ap (λ (c : HttpConn). c.idled) p.by.is ∙ idled_wrote text old })
    (λ mid k ys p. inner_ends mid new k ys p)
inner_finishes text closes old new n moves (the_other p) = inner_loses old new n moves p.by.loses

pub inner_gives : (old new : HttpConn) (n : ℕ) (moves : List Move) → Gives old n moves new → IsInner old moves new
inner_gives old new n moves by = go old.stage by
  where
    go : (t : Stage) → GivesBy t old n moves new → IsInner old moves new
    go (At.Running leg) (the_one p) = record {
      are = subst (λ (l : List Move). AreInner old.idled l) (sym p.by.moves_are) (inner_written old.idled _ leg.text);
      idled = ap (λ (c : HttpConn). c.idled) p.by.is ∙ idled_wrote leg.text old;
    }
    go (At.Running leg) (the_other p) = inner_loses old new n moves p.by.loses
    go (At.Finishing text closes) by = inner_finishes text closes old new n moves by
    go At.Reading none = inner_nothing old new n moves none
    go (At.Rejected cause bare) none = inner_nothing old new n moves none
    go (At.Interrupted cause) none = inner_nothing old new n moves none
    go (At.Refused cause) none = inner_nothing old new n moves none
    go (At.Unstarted hop request) none = inner_nothing old new n moves none
    go (At.Starting leg launch body whole) none = inner_nothing old new n moves none
    go At.Answered none = inner_nothing old new n moves none
    go At.Silent none = inner_nothing old new n moves none

pub inner_gives_hop : (old new : HttpConn) (n : ℕ) (moves : List Move) → GivesHop old n moves new → IsInner old moves new
inner_gives_hop old new n moves by = go old.stage by
  where
    go : (t : Stage) → GivesHopBy t old n moves new → IsInner old moves new
    go (At.Finishing text closes) by = inner_finishes text closes old new n moves by
    go (At.Starting leg launch body whole) (the_one p) = record {
      are = subst (λ (l : List Move). AreInner old.idled l) (sym p.by.moves_are) (refl, tt);
      idled = ap (λ (c : HttpConn). c.idled) p.by.is;
    }
    go (At.Starting leg launch body whole) (the_other p) = inner_loses old new n moves p.by
    go At.Reading none = inner_nothing old new n moves none
    go (At.Rejected cause bare) none = inner_nothing old new n moves none
    go (At.Interrupted cause) none = inner_nothing old new n moves none
    go (At.Refused cause) none = inner_nothing old new n moves none
    go (At.Unstarted hop request) none = inner_nothing old new n moves none
    go (At.Running leg) none = inner_nothing old new n moves none
    go At.Answered none = inner_nothing old new n moves none
    go At.Silent none = inner_nothing old new n moves none
