-- Why a connection that speaks WebSocket is to be shut, read off what the talk says, and small words on what is due.
use Rattle.std.proofs.Common.{◌≡◌, ℕ, Bool, true, false, List, Some, None, refl, ap}
use Rattle.std.specs.Prelude.{◌&&◌, ◌||◌, ◌==◌, not, if◌then◌else◌}
use Rattle.std.specs.List.{list_any}
use Rattle.std.proofs.lemmas.Bool.{false≢true, or_left, true≢false}
use Rattle.host_trace.specs.declared.items.Item.{Item}
use Rattle.host_trace.specs.declared.items.Why.{Why}
use Rattle.host_trace.specs.declared.items.Why.TheVariants.{Done, Gone, NoMemory, Stopped}
use Rattle.host_trace.specs.Kinds.{is_accepted, is_client_gone, is_no_memory, is_no_room, is_stop, is_ws_bad}
use Rattle.host_trace.specs.Projections.{stopped}
use Rattle.trace_child.specs.Words.{implies, once}
use Rattle.trace_model.specs.Shuts.{is_gone}
use Rattle.talk_laws.specs.Http.{is_parting}
use Rattle.talk_laws.specs.Rules.{why_at}
use Rattle.talk_laws.proofs.JoinLaws.{any_wider}
use Rattle.talk_laws.proofs.RuleLaws.{implied}

some_is : (a b : Why) → Some a ≡ Some b → b ≡ a
some_is a b is = cc

-- the server is to end, or the client is gone: the talk is over
stop_parts : (c : ℕ) (x : Item) → is_stop x ≡ true → is_parting c x ≡ true
stop_parts c x is = ap (λ b. b || is_client_gone c x || is_ws_bad c x || is_no_room c x) is

gone_parts : (c : ℕ) (x : Item) → (is_client_gone c x || is_ws_bad c x) ≡ true → is_parting c x ≡ true
gone_parts c x is = go (is_stop x) (is_client_gone c x) (is_ws_bad c x) (is_no_room c x) is
  where
    go : (a b d f : Bool) → (b || d) ≡ true → (a || b || d || f) ≡ true
    go true b d f is = refl
    go false true d f is = refl
    go false false true f is = refl
    go false false false f is = absurd (false≢true is)

-- it is over where there is a reason, which is no want of memory
pub why_some : (c : ℕ) (L : List Item) (over : Bool) (why : Why) → why_at c L over ≡ Some why → list_any (is_no_room c) L ≡ false
    → (list_any (is_parting c) L ≡ true → over ≡ true) → (over ≡ true) × (is_no_memory why ≡ false)
why_some c L over why is room parted =
    go (list_any is_accepted L) (stopped L) refl (is_gone c L) refl (list_any (is_no_room c) L) room over refl is
  where
    go : (a s : Bool) → stopped L ≡ s → (g : Bool) → is_gone c L ≡ g → (n : Bool) → n ≡ false → (o : Bool) → over ≡ o
        → (if not a then None else (if s then Some Stopped else (if g then Some Gone else (if n then Some NoMemory else (if o then Some Done else None))))) ≡ Some why
        → (over ≡ true) × (is_no_memory why ≡ false)
    go false s stop g gone n none o at is = absurd (cc)
    go true true stop g gone n none o at is = (parted (any_wider is_stop (is_parting c) (stop_parts c) L stop), ap is_no_memory (some_is Stopped why is))
    go true false stop true gone n none o at is =
        (parted (any_wider (λ x. is_client_gone c x || is_ws_bad c x) (is_parting c) (gone_parts c) L gone), ap is_no_memory (some_is Gone why is))
    go true false stop false gone true none o at is = absurd (true≢false none)
    go true false stop false gone false none true at is = (at, ap is_no_memory (some_is Done why is))
    go true false stop false gone false none false at is = absurd (cc)

-- .. and where there is none it goes on
pub why_none : (c : ℕ) (L : List Item) (over : Bool) → why_at c L over ≡ None → list_any is_accepted L ≡ true → (over ≡ false) × (stopped L ≡ false)
why_none c L over is accepted = go (list_any is_accepted L) accepted (stopped L) refl (is_gone c L) (list_any (is_no_room c) L) over refl is
  where
    go : (a : Bool) → a ≡ true → (s : Bool) → stopped L ≡ s → (g n o : Bool) → over ≡ o
        → (if not a then None else (if s then Some Stopped else (if g then Some Gone else (if n then Some NoMemory else (if o then Some Done else None))))) ≡ None
        → (over ≡ false) × (stopped L ≡ false)
    go false known s stop g n o at is = absurd (false≢true known)
    go true known true stop g n o at is = absurd (cc)
    go true known false stop true n o at is = absurd (cc)
    go true known false stop false true o at is = absurd (cc)
    go true known false stop false false true at is = absurd (cc)
    go true known false stop false false false at is = (at, stop)

pub ask_none : (g : ℕ) (b : Bool) → g ≡ 0 → b ≡ false → (g == once b) ≡ true
ask_none g b none not_due = rw (none, not_due) refl

pub live_shut : (a s : Bool) → a ≡ true → (a && not s) ≡ false → s ≡ true
live_shut true true a is = refl
live_shut true false a is = absurd (true≢false is)
live_shut false s a is = absurd (false≢true a)

pub heard_by : (r w q : Bool) → (r && w && not q) ≡ false → implies (r && w) q ≡ true
heard_by r w true is = implied (r && w) true refl
heard_by true true false is = absurd (true≢false is)
heard_by true false false is = refl
heard_by false w false is = refl

-- a Shut for the reason that there is, or none
pub shuts_from : (b x y z w : Bool) → (if b then x else y) ≡ true → (if b then x else y || z || w) ≡ true
shuts_from true x y z w is = is
shuts_from false x y z w is = or_left (y || z) w (or_left y z is)
