-- Where memory was found by a step's end the connection is not shut for want of it.
use Rattle.std.proofs.Common.{◌≡◌, ◌≤◌, ℕ, ◌==◌, Bool, true, false, ◌&&◌, ◌||◌, not, List, [], ◌∷◌, ◌++◌, Option, Some, None, refl, sym, ap, ◌∙◌, subst}
use Rattle.std.specs.List.{list_any}
use Rattle.std.proofs.lemmas.Bool.{and_parts, and_right, false≢true}
use Rattle.std.proofs.lemmas.List.Folds.{list_any-append}
use Rattle.host_trace.specs.declared.items.Act.{Act}
use Rattle.host_trace.specs.declared.items.Act.TheVariants.{CloseWs, EndInput, Feed, Kill, Release, Says, Shut, Start, Upgrade, WantChild, WantClient, Write}
use Rattle.host_trace.specs.declared.items.Item.TheVariants.{Out}
use Rattle.host_trace.specs.declared.items.Why.{Why}
use Rattle.host_trace.specs.declared.items.Why.TheVariants.{Cut, Done, Full, Gone, Idle, NoMemory, Stopped}
use Rattle.host_trace.specs.Kinds.{is_no_memory}
use Rattle.trace_model.specs.TakesNoMemory.{is_shut_act}
use Rattle.conn_flags.specs.View.{View as Flags, is_live, noted}
use Rattle.conn_flags.specs.Form.{are_given, is_allowed, is_timely}
use Rattle.conn_laws.specs.Moves.{Move, acts_of, continues, gives, settles}
use Rattle.conn_laws.proofs.MoveLaws.{acts_of-append}
use Rattle.http_conn.specs.HttpConn.{HttpConn}
use Rattle.http_conn.specs.Parts.{ShutsBy, Wants, WantsBy}
use Rattle.good_step_laws.proofs.Shuts.PartWords.{AreInner, is_inner}

-- no act of a part before the end is such a Shut
pub inner_none : (c : ℕ) (act : Act) → is_inner act ≡ true → is_shut_act c act ≡ false
inner_none c (Shut d why) i = absurd (false≢true i)
inner_none c _ i = refl

pub none_inner : (c : ℕ) (held : Bool) (moves : List Move) → AreInner held moves → list_any (is_shut_act c) (acts_of moves) ≡ false
none_inner c held [] i = refl
none_inner c held (gives act ∷ moves) i = ap (λ (b : Bool). b || list_any (is_shut_act c) (acts_of moves)) (inner_none c act i.0) ∙ none_inner c held moves i.1
none_inner c held (continues d ∷ moves) i = none_inner c held moves i
none_inner c held (settles ending ∷ moves) i = none_inner c held moves i.1

-- a Shut for another reason
other_none : (c d : ℕ) (why : Why) → is_no_memory why ≡ false → is_shut_act c (Shut d why) ≡ false
other_none c d NoMemory e = absurd (false≢true (sym e))
other_none c d _ e = and_right (c == d) false refl

pub none_shuts : (c : ℕ) (why : Option Why) (old new : HttpConn) (n : ℕ) (moves : List Move) → ((w : Why) → why ≡ Some w → is_no_memory w ≡ false) → ShutsBy why old n moves new
    → list_any (is_shut_act c) (acts_of moves) ≡ false
none_shuts c None old new n moves memory none = ap (λ (l : List Move). list_any (is_shut_act c) (acts_of l)) none.none
none_shuts c (Some why) old new n moves memory t =
    ap (λ (l : List Move). list_any (is_shut_act c) (acts_of l)) t.moves_are ∙ ap (λ (b : Bool). b || false) (other_none c old.flags.c why (memory why refl))

pub none_wants : (c : ℕ) (old new : HttpConn) (n : ℕ) (moves : List Move) → Wants old n moves new → list_any (is_shut_act c) (acts_of moves) ≡ false
none_wants c old new n moves w = go w.due w.by
  where
    go : (due : Bool) → WantsBy due old n moves new → list_any (is_shut_act c) (acts_of moves) ≡ false
    go false none = ap (λ (l : List Move). list_any (is_shut_act c) (acts_of l)) none.none
    go true t = ap (λ (l : List Move). list_any (is_shut_act c) (acts_of l)) t.moves_are

pub none_both : (c : ℕ) (xs ys : List Move) → list_any (is_shut_act c) (acts_of xs) ≡ false → list_any (is_shut_act c) (acts_of ys) ≡ false → list_any (is_shut_act c) (acts_of (xs ++ ys)) ≡ false
none_both c xs ys a b =
    ap (λ (l : List Act). list_any (is_shut_act c) l) (acts_of-append xs ys)
    ∙ (list_any-append (is_shut_act c) (acts_of xs) (acts_of ys) ∙ (ap (λ (x : Bool). x || list_any (is_shut_act c) (acts_of ys)) a ∙ b))

-- ---- a connection that is shut

shut_none : (c : ℕ) (m : Flags) (act : Act) → m.shut ≡ true → is_allowed m act ≡ true → is_shut_act c act ≡ false
shut_none c m (Shut d why) s a = absurd (false≢true (sym (and_right m.accepted (not m.shut) (ap not s)) ∙ (and_parts (is_live m) (is_timely m (Shut d why)) a).0))
shut_none c m _ s a = refl

or_stays : (a b : Bool) → b ≡ true → (a || b) ≡ true
or_stays true b e = refl
or_stays false b e = e

stays_shut : (m : Flags) (act : Act) → m.shut ≡ true → (noted m (Out act)).shut ≡ true
stays_shut m act s = or_stays _ m.shut s

-- it is not shut again
pub none_again : (c : ℕ) (m : Flags) (acts : List Act) → m.shut ≡ true → are_given m acts ≡ true → list_any (is_shut_act c) acts ≡ false
none_again c m [] s f = refl
none_again c m (act ∷ acts) s f =
    let p = and_parts (is_allowed m act) (are_given (noted m (Out act)) acts) f in
    ap (λ (b : Bool). b || list_any (is_shut_act c) acts) (shut_none c m act s p.0) ∙ none_again c (noted m (Out act)) acts (stays_shut m act s) p.1
