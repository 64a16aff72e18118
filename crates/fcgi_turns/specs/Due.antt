-- What is due to be written on a connection, one after another.
use Rattle.std.specs.Prelude.{ℕ, List, [], ◌∷◌}
use Rattle.std.specs.List.{flat_map}
use Rattle.fcgi_records.specs.Records.{record_bytes}
use Rattle.fcgi_turns.specs.Texts.{answer_records, end_record}

pub data Due : Type 0 where
  -- the answer of a request, and its END
  answered : ℕ → List ℕ → Due
  -- the END of a request without an answer, with a state
  ended : ℕ → ℕ → Due
  -- nothing: with its connection the request is over
  given_up : ℕ → Due
  -- the END for a BEGIN that begins no request, with a state
  refused : ℕ → ℕ → Due
  -- a record of no request, with its type and content
  replied : ℕ → List ℕ → Due

abbrev pub due_bytes : Due → List ℕ
due_bytes (answered id bytes) = answer_records id bytes
due_bytes (ended id state) = end_record id state
due_bytes (given_up id) = []
due_bytes (refused id state) = end_record id state
due_bytes (replied kind content) = record_bytes kind 0 content

abbrev pub all_bytes : List Due → List ℕ
all_bytes dues = flat_map due_bytes dues

-- the request that it ends
abbrev pub request_ended : Due → List ℕ
request_ended (answered id bytes) = id ∷ []
request_ended (ended id state) = id ∷ []
request_ended (given_up id) = id ∷ []
request_ended (refused id state) = []
request_ended (replied kind content) = []

-- what is due for a record that belongs to no request that was begun
abbrev pub reply_in : Due → List Due
reply_in (answered id bytes) = []
reply_in (ended id state) = []
reply_in (given_up id) = []
reply_in (refused id state) = refused id state ∷ []
reply_in (replied kind content) = replied kind content ∷ []
