-- What a connection does in a step, as its exchanges see it: acts, and the end of an exchange where it is noticed.
use Rattle.std.specs.Prelude.{ℕ, Bool, true, false, ◌||◌, ◌≡◌, List, [], ◌∷◌}
use Rattle.host_base.specs.declared.site.Site.{Site}
use Rattle.host_trace.specs.declared.items.Act.{Act}
use Rattle.host_trace.specs.declared.items.Act.TheVariants.{Write, Start}
use Rattle.host_trace.specs.declared.items.Item.TheVariants.{Out}
use Rattle.trace_model.specs.Closes.{closes as closes_after}
use Rattle.trace_model.specs.Exchange.{Exchange, continue_text, pushed, written}
use Rattle.trace_model.specs.Exchanges.{following, has_ended}

-- what is held where an exchange is taken for ended: its answer closes the connection; no request began within the idle
-- time; memory ran out; and the request was read to its end
pub record Ending : Type 0 where
  pub closes : Bool
  pub idled : Bool
  pub lost : Bool
  pub taken : Bool

-- an act is given; 100 Continue is, as the first of what is written of an exchange of connection c; or an exchange is
-- taken for ended
pub data Move : Type 0 where
  gives : Act → Move
  continues : ℕ → Move
  settles : Ending → Move

abbrev pub acts_of : List Move → List Act
acts_of [] = []
acts_of (gives act ∷ moves) = act ∷ acts_of moves
acts_of (continues c ∷ moves) = Write c continue_text ∷ acts_of moves
acts_of (settles ending ∷ moves) = acts_of moves

-- the exchange that goes on after them
abbrev pub moved : Site → ℕ → Exchange → List Move → Exchange
moved site c e [] = e
moved site c e (gives act ∷ moves) = moved site c (pushed e (Out act)) moves
moved site c e (continues d ∷ moves) = moved site c (pushed e (Out (Write d continue_text))) moves
moved site c e (settles ending ∷ moves) = moved site c (following site c e) moves

-- the exchange has ended, and what is held of it is so
pub record HasEnded (site : Site) (c : ℕ) (e : Exchange) (ending : Ending) : Type 0 where
  pub over : has_ended site c e ≡ true
  pub closes : ending.closes ≡ closes_after site c e
  pub idled : ending.idled ≡ false
  pub taken : ending.lost ≡ false → (e.closed || ending.closes) ≡ false → ending.taken ≡ true

-- an act is given only while the exchange goes on, 100 Continue before anything is written of it, and an exchange is
-- taken for ended only where it has
abbrev pub AreInStep : Site → ℕ → Exchange → List Move → Type 0
AreInStep site c e [] = Unit {0}
AreInStep site c e (gives act ∷ moves) = (has_ended site c e ≡ false) × AreInStep site c (pushed e (Out act)) moves
AreInStep site c e (continues d ∷ moves) =
    (has_ended site c e ≡ false) × (written c e ≡ []) × AreInStep site c (pushed e (Out (Write d continue_text))) moves
AreInStep site c e (settles ending ∷ moves) = HasEnded site c e ending × AreInStep site c (following site c e) moves

-- ---- what holds of each act, by the exchange before it

-- nothing is written and no child started after an answer that closes, and a Start is of its exchange
abbrev pub Belongs : Exchange → Act → Type 0
Belongs e (Write c bytes) = e.closed ≡ false
Belongs e (Start k c j hop launch) = (j ≡ e.number) × (e.closed ≡ false)
Belongs e _ = Unit {0}

abbrev pub AllBelong : Site → ℕ → Exchange → List Move → Type 0
AllBelong site c e [] = Unit {0}
AllBelong site c e (gives act ∷ moves) = Belongs e act × AllBelong site c (pushed e (Out act)) moves
AllBelong site c e (continues d ∷ moves) = (e.closed ≡ false) × AllBelong site c (pushed e (Out (Write d continue_text))) moves
AllBelong site c e (settles ending ∷ moves) = AllBelong site c (following site c e) moves
