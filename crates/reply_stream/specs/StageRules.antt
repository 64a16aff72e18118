-- What holds of streams.
use Rattle.std.specs.Prelude.{ℕ, ◌<◌, Bool, List, length, Option}
use Rattle.reply_stream.specs.declared.asked.Asked.{Asked}
use Rattle.reply_stream.specs.Hearing.{Told}
use Rattle.reply_stream.specs.Stages.{IsAt, State}
use Rattle.reply_stream.specs.Writing.{Stood, begun, IsSoFar}

-- What stands at a stream is what must stand.
abbrev pub StandingsHold : Type 0
StandingsHold = (asked : Asked) (told : List Told) (stood : Stood) (state : State) → IsAt asked told stood state
    → IsSoFar asked told stood

-- Of a reply that has begun, a byte stands.
abbrev pub BeginningsAreWritten : Type 0
BeginningsAreWritten = (asked : Asked) (told : List Told) (close : Bool) (stamp : Option ℕ) (bytes : List ℕ)
    → IsSoFar asked told (begun close stamp bytes) → 0 < length bytes
