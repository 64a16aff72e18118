-- Which reasons are given in a step.
use Rattle.std.proofs.Common.{◌≡◌, ℕ, ◌==◌, Bool, true, false, ◌&&◌, ◌||◌, not, List, [], ◌∷◌, ◌++◌, if◌then◌else◌, Option, Some, None, refl, sym, ap, ◌∙◌, subst}
use Rattle.std.proofs.lemmas.Bool.{and_parts, and_right, eq-eqb, false≢true}
use Rattle.std.proofs.lemmas.Grind.{flat_map-append}
use Rattle.host_trace.specs.declared.items.Act.{Act}
use Rattle.host_trace.specs.declared.items.Act.TheVariants.{CloseWs, EndInput, Feed, Kill, Release, Says, Shut, Start, Upgrade, WantChild, WantClient, Write}
use Rattle.host_trace.specs.declared.items.Item.TheVariants.{Out}
use Rattle.host_trace.specs.declared.items.Why.{Why}
use Rattle.trace_model.specs.Exchange.{continue_text}
use Rattle.trace_model.specs.Shuts.{whys_due, whys_given, whys_of}
use Rattle.conn_flags.specs.View.{View as Flags, is_live, noted}
use Rattle.conn_flags.specs.Form.{are_given, given_all, is_allowed, is_timely, may_give}
use Rattle.conn_laws.specs.Moves.{Move, acts_of, continues, gives, settles}
use Rattle.http_conn.specs.HttpConn.{HttpConn}
use Rattle.http_conn.specs.Kept.{flags_of, number_of}
use Rattle.http_conn.specs.Parts.{ShutsBy, Wants, WantsBy}
use Rattle.good_step_laws.proofs.Shuts.PartWords.{AreInner, is_inner}

-- ---- acts of a part before the end

inner_whys : (c : ℕ) (act : Act) → is_inner act ≡ true → whys_of c act ≡ []
inner_whys c (Shut d why) i = absurd (false≢true i)
inner_whys c _ i = refl

pub none_given : (c : ℕ) (held : Bool) (moves : List Move) → AreInner held moves → whys_given c (acts_of moves) ≡ []
none_given c held [] i = refl
none_given c held (gives act ∷ moves) i = ap (λ (l : List Why). l ++ whys_given c (acts_of moves)) (inner_whys c act i.0) ∙ none_given c held moves i.1
none_given c held (continues d ∷ moves) i = none_given c held moves i
none_given c held (settles ending ∷ moves) i = none_given c held moves i.1

inner_shut : (m : Flags) (act : Act) → is_inner act ≡ true → (noted m (Out act)).shut ≡ m.shut
inner_shut m (Shut d why) i = absurd (false≢true i)
inner_shut m _ i = refl

pub shut_inner : (m : Flags) (held : Bool) (moves : List Move) → AreInner held moves → (given_all m (acts_of moves)).shut ≡ m.shut
shut_inner m held [] i = refl
shut_inner m held (gives act ∷ moves) i = shut_inner (noted m (Out act)) held moves i.1 ∙ inner_shut m act i.0
shut_inner m held (continues d ∷ moves) i = shut_inner (noted m (Out (Write d continue_text))) held moves i
shut_inner m held (settles ending ∷ moves) i = shut_inner m held moves i.1

-- no act tells that the client was accepted
pub accepted_all : (m : Flags) (acts : List Act) → (given_all m acts).accepted ≡ m.accepted
accepted_all m [] = refl
accepted_all m (act ∷ acts) = accepted_all (noted m (Out act)) acts

-- ---- a connection that is shut

shut_stays : (m : Flags) (act : Act) → m.shut ≡ true → (noted m (Out act)).shut ≡ true
shut_stays m (Shut d why) s = or_then (m.c == d) m.shut s
  where
    or_then : (a b : Bool) → b ≡ true → (a || b) ≡ true
    or_then true b e = refl
    or_then false b e = e
shut_stays m _ s = s

shut_gives_none : (c : ℕ) (m : Flags) (act : Act) → m.shut ≡ true → is_allowed m act ≡ true → whys_of c act ≡ []
shut_gives_none c m (Shut d why) s a =
    absurd (false≢true (sym (and_right m.accepted (not m.shut) (ap not s)) ∙ (and_parts (is_live m) (is_timely m (Shut d why)) a).0))
shut_gives_none c m _ s a = refl

-- it is not shut again
pub none_shut : (c : ℕ) (m : Flags) (acts : List Act) → m.shut ≡ true → are_given m acts ≡ true → whys_given c acts ≡ []
none_shut c m [] s f = refl
none_shut c m (act ∷ acts) s f =
    let p = and_parts (is_allowed m act) (are_given (noted m (Out act)) acts) f in
    ap (λ (l : List Why). l ++ whys_given c acts) (shut_gives_none c m act s p.0) ∙ none_shut c (noted m (Out act)) acts (shut_stays m act s) p.1

-- ---- the end of a step

pub given_shuts : (why : Option Why) (old new : HttpConn) (n : ℕ) (moves : List Move) → ShutsBy why old n moves new → whys_given (number_of old) (acts_of moves) ≡ whys_due why
given_shuts None old new n moves none = ap (λ (l : List Move). whys_given (number_of old) (acts_of l)) none.none
given_shuts (Some why) old new n moves t =
    ap (λ (l : List Move). whys_given (number_of old) (acts_of l)) t.moves_are
    ∙ ap (λ (b : Bool). (if b then why ∷ [] else []) ++ []) (eq-eqb (number_of old) (number_of old) refl)

pub given_wants : (c : ℕ) (old new : HttpConn) (n : ℕ) (moves : List Move) → Wants old n moves new → whys_given c (acts_of moves) ≡ []
given_wants c old new n moves w = go w.due w.by
  where
    go : (due : Bool) → WantsBy due old n moves new → whys_given c (acts_of moves) ≡ []
    go false none = ap (λ (l : List Move). whys_given c (acts_of l)) none.none
    go true t = ap (λ (l : List Move). whys_given c (acts_of l)) t.moves_are

pub given_both : (c : ℕ) (xs ys : List Act) → whys_given c (xs ++ ys) ≡ whys_given c xs ++ whys_given c ys
given_both c xs ys = flat_map-append (whys_of c) xs ys
