-- The acts of a talk.
use Rattle.std.specs.Prelude.{ℕ, Bool, true, false, List, [], ◌∷◌, ◌++◌, length, min, sum_by, Option, Some, None}
use Rattle.host_trace.specs.declared.items.Act.{Act}
use Rattle.host_trace.specs.declared.items.Act.TheVariants.{Says, CloseWs}
use Rattle.host_trace.specs.Told.{when}
use Rattle.trace_child.specs.Words.{is_filled}
use Rattle.talk_core.specs.View.{View, given_up}

-- the messages that are to be said, and then the close frame that is to be sent
abbrev pub saying : View → List Act
saying t = when (is_filled t.texts) (Says t.conn t.texts)

abbrev pub closing : ℕ → Option ℕ → List Act
closing c None = []
closing c (Some code) = CloseWs c code ∷ []

abbrev pub acting : View → List Act
acting t = saying t ++ closing t.conn t.code

abbrev pub said_all : View → View
said_all t = record t { texts = [] }

abbrev pub closed : View → View
closed t = record t { code = None }

abbrev pub acted : View → View
acted t = record t { texts = []; code = None }

-- where there was no room for the messages nothing is given, and the talk is given up
abbrev pub saying_by : Bool → View → List Act
saying_by true t = saying t
saying_by false t = []

abbrev pub said_by : Bool → View → View
said_by true t = said_all t
said_by false t = given_up t

abbrev pub acting_by : Bool → View → List Act
acting_by true t = acting t
acting_by false t = []

abbrev pub acted_by : Bool → View → View
acted_by true t = acted t
acted_by false t = given_up t

-- how many bytes they have, as a `u64` counts
abbrev pub capped : ℕ → ℕ
capped n = min n 18446744073709551615

abbrev pub len_of : List (List ℕ) → ℕ
len_of texts = capped (sum_by length texts)
