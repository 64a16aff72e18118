-- What the end of a step leaves as it was: the reasons for which the connection is shut.
use Rattle.std.proofs.Common.{◌≡◌, ℕ, Bool, true, false, List, [], ◌∷◌, ◌++◌, Option, Some, None, is_some, refl, sym, ap, ◌∙◌, subst}
use Rattle.host_base.specs.declared.cause.Cause.{Cause}
use Rattle.host_base.specs.declared.site.Site.{Site}
use Rattle.host_trace.specs.declared.items.Act.TheVariants.{Shut, WantClient}
use Rattle.host_trace.specs.declared.items.Item.TheVariants.{Out}
use Rattle.host_trace.specs.declared.items.Why.{Why}
use Rattle.host_trace.specs.Kinds.{is_no_memory}
use Rattle.child_core.specs.declared.ending.Outcome.{Outcome}
use Rattle.child_core.specs.View.{View}
use Rattle.trace_model.specs.Breaks.{idled}
use Rattle.trace_model.specs.Exchange.{Exchange, pushed, request_bytes}
use Rattle.trace_model.specs.Shuts.{whys_given}
use Rattle.exchange_stage.specs.declared.stage.Stage.{Stage}
use Rattle.conn_flags.specs.View.{noted}
use Rattle.conn_laws.specs.Moves.{Move, acts_of, continues, gives, moved, settles}
use Rattle.http_conn.specs.HttpConn.{HttpConn}
use Rattle.http_conn.specs.Kept.{flags_of, number_of, site_of}
use Rattle.http_conn.specs.Moves.{given_up_by}
use Rattle.http_conn.specs.Ready.{outcome_of_run}
use Rattle.http_conn.specs.Parts.{Shuts, ShutsBy, Wants, WantsBy}
use Rattle.http_step_laws.proofs.PushWords.{bytes_quiet}
use Rattle.good_step_laws.proofs.Shuts.IdleLaws.{idled_act}

-- acts, and no end of an exchange
abbrev pub AreOuter : List Move → Type 0
AreOuter [] = Unit {0}
AreOuter (gives act ∷ moves) = AreOuter moves
AreOuter (continues d ∷ moves) = ⊥
AreOuter (settles ending ∷ moves) = ⊥

pub outer_append : (xs ys : List Move) → AreOuter xs → AreOuter ys → AreOuter (xs ++ ys)
outer_append [] ys a b = b
outer_append (gives act ∷ xs) ys a b = outer_append xs ys a b
outer_append (continues d ∷ xs) ys a b = absurd a
outer_append (settles ending ∷ xs) ys a b = absurd a

pub outer_bytes : (site : Site) (c : ℕ) (e : Exchange) (moves : List Move) → AreOuter moves → request_bytes c (moved site c e moves) ≡ request_bytes c e
outer_bytes site c e [] o = refl
outer_bytes site c e (gives act ∷ moves) o = outer_bytes site c (pushed e (Out act)) moves o ∙ bytes_quiet c e (Out act) refl
outer_bytes site c e (continues d ∷ moves) o = absurd o
outer_bytes site c e (settles ending ∷ moves) o = absurd o

pub outer_idled : (site : Site) (c : ℕ) (e : Exchange) (moves : List Move) → AreOuter moves → is_some (idled site c (moved site c e moves)) ≡ is_some (idled site c e)
outer_idled site c e [] o = refl
outer_idled site c e (gives act ∷ moves) o = outer_idled site c (pushed e (Out act)) moves o ∙ idled_act site c e act
outer_idled site c e (continues d ∷ moves) o = absurd o
outer_idled site c e (settles ending ∷ moves) o = absurd o

-- what the reasons are read off stays
pub record SameReasons (old new : HttpConn) : Type 0 where
  pub site : site_of new ≡ site_of old
  pub number : number_of new ≡ number_of old
  pub lost : new.lost ≡ old.lost
  pub cut : new.cut ≡ old.cut
  pub idled : new.idled ≡ old.idled
  pub closing : new.closing ≡ old.closing
  pub closes : new.closes ≡ old.closes
  pub stage : new.stage ≡ old.stage
  pub outcome : old.lost ≡ false → outcome_of_run new.run ≡ outcome_of_run old.run
  pub accepted : (flags_of new).accepted ≡ (flags_of old).accepted
  pub stopped : (flags_of new).stopped ≡ (flags_of old).stopped
  pub gone : (flags_of new).gone ≡ (flags_of old).gone
  pub ended : (flags_of new).ended ≡ (flags_of old).ended

pub reasons_then : (old mid new : HttpConn) → SameReasons old mid → SameReasons mid new → SameReasons old new
reasons_then old mid new a b = record {
  site = b.site ∙ a.site;
  number = b.number ∙ a.number;
  lost = b.lost ∙ a.lost;
  cut = b.cut ∙ a.cut;
  idled = b.idled ∙ a.idled;
  closing = b.closing ∙ a.closing;
  closes = b.closes ∙ a.closes;
  stage = b.stage ∙ a.stage;
  outcome = λ found. b.outcome (a.lost ∙ found) ∙ a.outcome found;
  accepted = b.accepted ∙ a.accepted;
  stopped = b.stopped ∙ a.stopped;
  gone = b.gone ∙ a.gone;
  ended = b.ended ∙ a.ended;
}

reasons_same : (conn : HttpConn) → SameReasons conn conn
reasons_same conn = record {
  site = refl;
  number = refl;
  lost = refl;
  cut = refl;
  idled = refl;
  closing = refl;
  closes = refl;
  stage = refl;
  outcome = λ found. refl;
  accepted = refl;
  stopped = refl;
  gone = refl;
  ended = refl;
}

pub record IsOuter (old new : HttpConn) (moves : List Move) : Type 0 where
  pub are : AreOuter moves
  pub reasons : SameReasons old new

outer_nothing : (old new : HttpConn) (moves : List Move) → moves ≡ [] → new ≡ old → IsOuter old new moves
outer_nothing old new moves none same = record {
  are = subst (λ (l : List Move). AreOuter l) (sym none) tt;
  reasons = subst (λ (c : HttpConn). SameReasons old c) (sym same) (reasons_same old);
}

-- .. where it is shut for want of memory exactly where memory ran out
pub outer_shuts : (why : Option Why) (old new : HttpConn) (n : ℕ) (moves : List Move) → ((w : Why) → why ≡ Some w → is_no_memory w ≡ old.lost) → ShutsBy why old n moves new → IsOuter old new moves
outer_shuts None old new n moves memory none = outer_nothing old new moves none.none none.same
outer_shuts (Some why) old new n moves memory t = record {
  are = subst (λ (l : List Move). AreOuter l) (sym t.moves_are) tt;
  reasons = subst (λ (c : HttpConn). SameReasons old c) (sym t.is) (record {
    site = refl;
    number = refl;
    lost = refl;
    cut = refl;
    idled = refl;
    closing = refl;
    closes = refl;
    stage = refl;
    outcome = λ found. ap (λ (b : Bool). outcome_of_run (given_up_by b old.run)) (memory why refl ∙ found);
    accepted = refl;
    stopped = refl;
    gone = refl;
    ended = refl;
  });
}

pub outer_wants : (old new : HttpConn) (n : ℕ) (moves : List Move) → Wants old n moves new → IsOuter old new moves
outer_wants old new n moves w = go w.due w.by
  where
    go : (due : Bool) → WantsBy due old n moves new → IsOuter old new moves
    go false none = outer_nothing old new moves none.none none.same
    go true t = record {
      are = subst (λ (l : List Move). AreOuter l) (sym t.moves_are) tt;
      reasons = subst (λ (c : HttpConn). SameReasons old c) (sym t.is) (record {
        site = refl;
        number = refl;
        lost = refl;
        cut = refl;
        idled = refl;
        closing = refl;
        closes = refl;
        stage = refl;
        outcome = λ found. refl;
        accepted = refl;
        stopped = refl;
        gone = refl;
        ended = refl;
      });
    }
