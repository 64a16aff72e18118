-- What a stream keeps, and how that stands for what it was told and what it has written.
use Rattle.std.specs.Prelude.{ℕ, ◌≡◌, ◌≤◌, ◌<◌, Bool, true, false, ◌==◌, if◌then◌else◌, List, [], ◌∷◌, ◌++◌, length, Option}
use Rattle.host_base.specs.declared.reply.Reply.{Reply}
use Rattle.host_base.specs.declared.site.ScriptKind.{ScriptKind}
use Rattle.head_lines.specs.Lines.{IsSearched}
use Rattle.reply_kinds.specs.declared.derived.Derived.{Derived}
use Rattle.reply_kinds.specs.declared.derived.Derived.TheVariants as Output
use Rattle.reply_kinds.specs.Derived.{derived_of, is_header_whole, is_streamable}
use Rattle.reply_writer.specs.declared.shape.Shape.{Shape}
use Rattle.reply_writer.specs.declared.shape.Shape.TheVariants.{Bare, Length, Chunked, ToClose}
use Rattle.reply_writer.specs.Chunks.{chunk_text_of, end_mark}
use Rattle.reply_writer.specs.Spelling.{is_head_alone}
use Rattle.reply_writer.specs.WholeReply.{Way, head_of, open_shape, shape_of}
use Rattle.reply_stream.specs.declared.asked.Asked.{Asked}
use Rattle.reply_stream.specs.declared.stage.Flow.{Flow}
use Rattle.reply_stream.specs.declared.stage.Flow.TheVariants.{Nothing, Mark, Chunks, Plain}
use Rattle.reply_stream.specs.declared.stage.Opening.{Opening}
use Rattle.reply_stream.specs.declared.stage.Opening.TheVariants.{Begin}
use Rattle.reply_stream.specs.declared.stage.Stage.{Stage}
use Rattle.reply_stream.specs.declared.stage.Stage.TheVariants.{Waiting, Ready, Settled, Going}
use Rattle.reply_stream.specs.Hearing.{Told, output_of, is_ticked, is_long_enough, most_kept, must_begin}
use Rattle.reply_stream.specs.Writing.{Stood, nothing, begun, begun_way, stood_next, IsPartOf, IsQuiet}

-- ---- how a reply goes on

-- by the shape of its head, and whether its body is empty whatever follows (RFC 9110 15.3.6)
abbrev pub flow_of : Shape → Bool → Flow
flow_of Bare resets = Nothing
flow_of (Length n) resets = Nothing
flow_of Chunked true = Mark
flow_of Chunked false = Chunks
flow_of ToClose true = Nothing
flow_of ToClose false = Plain

abbrev pub begun_shape : Asked → Reply → Shape
begun_shape asked reply = if is_head_alone reply asked.head_only then Bare else open_shape asked.version

abbrev pub flow_by_reply : Way → Reply → Flow
flow_by_reply way reply = flow_of (shape_of way reply) (reply.status == 205)

abbrev pub flow_by : Way → Derived → Flow
flow_by way (Output.Reply reply) = flow_by_reply way reply
flow_by way (Output.Raw output) = Plain
flow_by way (Output.Hop location) = Nothing
flow_by way (Output.Bad cause) = Nothing

-- a piece as a chunk; an empty one is none
abbrev pub chunked_text : List ℕ → List ℕ
chunked_text [] = []
chunked_text (byte ∷ bytes) = chunk_text_of (byte ∷ bytes)

-- what is written of a piece
abbrev pub piece_text_of : Flow → List ℕ → List ℕ
piece_text_of Nothing bytes = []
piece_text_of Mark bytes = []
piece_text_of Chunks bytes = chunked_text bytes
piece_text_of Plain bytes = bytes

-- what is written at the end
abbrev pub end_text_of : Flow → List ℕ
end_text_of Nothing = []
end_text_of Mark = end_mark
end_text_of Chunks = end_mark
end_text_of Plain = []

-- the end of its chunks is written
abbrev pub has_mark : Flow → Bool
has_mark Nothing = false
has_mark Mark = true
has_mark Chunks = true
has_mark Plain = false

-- a reply begins with its head, and what is written of the body so far
abbrev pub opening_of : Asked → Bool → Option ℕ → Reply → List ℕ → Opening
opening_of asked close stamp reply body =
    let way = begun_way asked close stamp in
    Begin (flow_by_reply way reply) (head_of way reply ++ piece_text_of (flow_by_reply way reply) body)

-- ---- what is kept

pub record State : Type 0 where
  pub asked : Asked
  pub held : List ℕ
  pub stage : Stage

-- the search for the end of the header stands in what is held, and nothing is held of a reply that has begun
abbrev pub IsSoughtIn : List ℕ → Stage → Type 0
IsSoughtIn held (Waiting search) = IsSearched held search.start search.seen
IsSoughtIn held Ready = Unit {0}
IsSoughtIn held Settled = Unit {0}
IsSoughtIn held (Going flow) = held ≡ []

-- all of the output is held
abbrev pub is_holding : Stage → Bool
is_holding (Waiting search) = true
is_holding Ready = true
is_holding Settled = false
is_holding (Going flow) = false

-- no reply begins before the end, whatever follows, and what is derived is known
pub record IsSettled (kind : ScriptKind) (output : List ℕ) : Type 0 where
  pub never : (more : List ℕ) → is_streamable kind (output ++ more) ≡ false
  pub same : (more : List ℕ) → derived_of kind (output ++ more) ≡ derived_of kind output

-- all of the output is held, and has not waited long
pub record IsHolding (asked : Asked) (told : List Told) (held : List ℕ) : Type 0 where
  pub held_is : held ≡ output_of told
  pub short : length held ≤ most_kept
  pub unticked : is_ticked asked.kind told ≡ false

-- .. and its header is not whole
pub record IsWaiting (asked : Asked) (told : List Told) (held : List ℕ) : Type 0 where
  pub holding : IsHolding asked told held
  pub open_yet : is_header_whole asked.kind held ≡ false

-- .. and its reply can begin
pub record IsReady (asked : Asked) (told : List Told) (held : List ℕ) : Type 0 where
  pub holding : IsHolding asked told held
  pub can : is_streamable asked.kind held ≡ true

-- a front of the output is held that is settled
pub record IsSettledAt (asked : Asked) (told : List Told) (held : List ℕ) : Type 0 where
  pub rest : List ℕ
  pub output : output_of told ≡ held ++ rest
  pub settled : IsSettled asked.kind held

-- the reply has begun as it must have, this part of it stands, and it goes on in this way
pub record IsGoing (asked : Asked) (told : List Told) (close : Bool) (stamp : Option ℕ) (bytes : List ℕ) (flow : Flow) : Type 0 where
  pub due : must_begin asked.kind told ≡ true
  pub part : IsPartOf (begun_way asked close stamp) (derived_of asked.kind (output_of told)) bytes
  pub flow_is : flow ≡ flow_by (begun_way asked close stamp) (derived_of asked.kind (output_of told))

abbrev pub IsAtStage : Asked → List Told → List ℕ → Stage → Stood → Type 0
IsAtStage asked told held (Waiting search) nothing = IsWaiting asked told held
IsAtStage asked told held Ready nothing = IsReady asked told held
IsAtStage asked told held Settled nothing = IsSettledAt asked told held
IsAtStage asked told held (Going flow) nothing = ⊥
IsAtStage asked told held (Waiting search) (begun close stamp bytes) = ⊥
IsAtStage asked told held Ready (begun close stamp bytes) = ⊥
IsAtStage asked told held Settled (begun close stamp bytes) = ⊥
IsAtStage asked told held (Going flow) (begun close stamp bytes) = IsGoing asked told close stamp bytes flow

-- a stream that is made for this was told so much, and this stands of its reply
pub record IsAt (asked : Asked) (told : List Told) (stood : Stood) (state : State) : Type 0 where
  pub asked_is : state.asked ≡ asked
  pub stage_is : IsAtStage asked told state.held state.stage stood

-- a stream at which this stood was told so much, and wrote these bytes
pub record Writes (asked : Asked) (told : List Told) (close : Bool) (stamp : Option ℕ) (stood : Stood) (bytes : List ℕ) (state : State) : Type 0 where
  pub is_at : IsAt asked told (stood_next asked told close stamp stood bytes) state
  pub quiet : IsQuiet (stood_next asked told close stamp stood bytes) bytes

-- All of the output is held. It has waited long enough, if its header is whole, and is long, if not.
pub record Looks (asked : Asked) (told : List Told) (state : State) : Type 0 where
  pub asked_is : state.asked ≡ asked
  pub held_is : state.held ≡ output_of told
  pub due : is_header_whole asked.kind (output_of told) ≡ true → is_long_enough asked.kind told ≡ true
  pub long : is_header_whole asked.kind (output_of told) ≡ false → most_kept < length (output_of told)

-- all of the output is held, and has not waited long; its header was not whole before
pub record Reads (asked : Asked) (told : List Told) (state : State) : Type 0 where
  pub asked_is : state.asked ≡ asked
  pub holding : IsHolding asked told state.held

-- a reply that could begin still can
abbrev pub StaysAt : ScriptKind → List ℕ → Stage → Type 0
StaysAt kind held (Waiting search) = Unit {0}
StaysAt kind held Ready = is_streamable kind held ≡ true
StaysAt kind held Settled = ⊥
StaysAt kind held (Going flow) = ⊥

-- all of the output is held after a piece, and no tick came after its header
pub record Joins (asked : Asked) (told : List Told) (state : State) : Type 0 where
  pub asked_is : state.asked ≡ asked
  pub held_is : state.held ≡ output_of told
  pub unticked : is_ticked asked.kind told ≡ false
  pub stays : StaysAt asked.kind state.held state.stage
