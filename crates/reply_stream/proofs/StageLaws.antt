-- What a stream keeps stands for what it was told, step by step.
use Rattle.std.proofs.Common.{◌≡◌, ◌<◌, ℕ, Bool, true, false, List, [], ◌∷◌, ◌++◌, length, drop, refl, sym, ap, ◌∙◌, arith, append_assoc, Option, subst, Result, Ok, Err, inl, inr}
use Rattle.std.specs.Prelude.{◌==◌, ◌⊎◌, IfOk, OnErr}
use Rattle.std.proofs.lemmas.Bool.{and_parts}
use Rattle.std.proofs.lemmas.List.{append-nil}
use Rattle.host_base.specs.declared.cause.Cause.{Cause}
use Rattle.host_base.specs.declared.site.ScriptKind.{ScriptKind}
use Rattle.host_base.specs.declared.site.ScriptKind.TheVariants.{Cgi, Nph, WebSocket}
use Rattle.cgi_header.specs.declared.header.CgiHead.{CgiHead}
use Rattle.cgi_header.specs.declared.header.HdrStep.{HdrStep}
use Rattle.cgi_header.specs.declared.header.HdrStep.TheVariants.{Whole, More, Bad}
use Rattle.cgi_header.specs.ScriptHeader.{read_header}
use Rattle.reply_kinds.specs.declared.derived.Derived.{Derived}
use Rattle.reply_kinds.specs.declared.derived.Derived.TheVariants as Output
use Rattle.reply_kinds.specs.declared.kind.ReplyKind.{ReplyKind}
use Rattle.reply_kinds.specs.declared.kind.ReplyKind.TheVariants.{Document, LocalRedirect, Redirect, RedirectDocument}
use Rattle.reply_kinds.specs.Derived.{derived_by_kind, derived_by_step, derived_of, is_streamable}
use Rattle.reply_kinds.specs.Kind.{kind_of}
use Rattle.reply_writer.specs.declared.shape.Shape.{Shape}
use Rattle.reply_writer.specs.declared.shape.Shape.TheVariants.{Bare, Length, Chunked, ToClose}
use Rattle.reply_writer.specs.WholeReply.{Way, shape_of}
use Rattle.reply_stream.specs.declared.asked.Asked.{Asked}
use Rattle.reply_stream.specs.declared.stage.Flow.{Flow}
use Rattle.reply_stream.specs.declared.stage.Flow.TheVariants.{Nothing, Mark, Chunks, Plain}
use Rattle.reply_stream.specs.declared.stage.Stage.{Stage}
use Rattle.reply_stream.specs.declared.stage.Stage.TheVariants.{Waiting, Ready, Settled, Going}
use Rattle.reply_stream.specs.declared.stream.Last.{Last}
use Rattle.reply_stream.specs.declared.stream.Last.TheVariants.{Written}
use Rattle.reply_stream.specs.Hearing.{Told, piece, tick, output_of, is_long_enough, must_begin}
use Rattle.reply_stream.specs.Memory.{IsChunked, NeedsAtEnd, NeedsAtTick}
use Rattle.reply_stream.specs.Stages.{IsAt, IsAtStage, IsGoing, IsSettledAt, Looks, State, Writes, end_text_of, flow_by, flow_of, has_mark, is_holding, piece_text_of}
use Rattle.reply_stream.specs.StageRules.{BeginningsAreWritten, StandingsHold}
use Rattle.reply_stream.specs.Writing.{Stood, nothing, begun, begun_way, whole_way, IsLast, IsLastOf, IsPartOf, IsSoFar, IsWholeOf}
use Rattle.reply_stream.proofs.HearingLaws.{beginnings_stay, output-piece, output-tick}
use Rattle.reply_stream.proofs.PartLaws.{part_ends, part_goes_on}
use Rattle.reply_stream.proofs.HoldLaws.{at_of, holding_is_not_due, holds_at, looks_ticked, settled_is_not_due, writes_nothing}

-- ---- where no reply begins before the end

was_settled : (asked : Asked) (told : List Told) (stood : Stood) (state : State) → state.stage ≡ Settled → IsAt asked told stood state
    → (stood ≡ nothing) × IsSettledAt asked told state.held
was_settled asked told nothing state stage is_at = (refl, subst (λ (s : Stage). IsAtStage asked told state.held s nothing) stage is_at.stage_is)
was_settled asked told (begun close stamp bytes) state stage is_at =
    absurd (subst (λ (s : Stage). IsAtStage asked told state.held s (begun close stamp bytes)) stage is_at.stage_is)

stays_settled : (asked : Asked) (told next : List Told) (more : List ℕ) (close : Bool) (stamp : Option ℕ) (stood : Stood) (state : State) → state.stage ≡ Settled
    → IsAt asked told stood state → output_of next ≡ output_of told ++ more → Writes asked next close stamp stood [] state
stays_settled asked told next more close stamp stood state stage is_at output =
    let was = was_settled asked told stood state stage is_at in
    let at : IsSettledAt asked next state.held = record {
      rest = was.1.rest ++ more;
      output = output ∙ ap (λ (l : List ℕ). l ++ more) was.1.output ∙ append_assoc state.held was.1.rest more;
      settled = was.1.settled;
    } in
    subst (λ (s : Stood). Writes asked next close stamp s [] state) (sym was.0)
    (writes_nothing asked next close stamp state (settled_is_not_due asked next state.held at) (record {
      asked_is = is_at.asked_is;
      stage_is = subst (λ (s : Stage). IsAtStage asked next state.held s nothing) (sym stage) at;
    }))

pub settled_piece : (asked : Asked) (told : List Told) (bytes : List ℕ) (close : Bool) (stamp : Option ℕ) (stood : Stood) (state : State) → state.stage ≡ Settled
    → IsAt asked told stood state → Writes asked (told ++ piece bytes ∷ []) close stamp stood [] state
settled_piece asked told bytes close stamp stood state stage is_at =
    stays_settled asked told (told ++ piece bytes ∷ []) bytes close stamp stood state stage is_at (output-piece told bytes)

pub settled_tick : (asked : Asked) (told : List Told) (close : Bool) (stamp : Option ℕ) (stood : Stood) (state : State) → state.stage ≡ Settled
    → IsAt asked told stood state → Writes asked (told ++ tick ∷ []) close stamp stood [] state
settled_tick asked told close stamp stood state stage is_at =
    stays_settled asked told (told ++ tick ∷ []) [] close stamp stood state stage is_at (output-tick told ∙ sym (append-nil (output_of told)))

-- ---- where it has begun

going_on : (asked : Asked) (told next : List Told) (more : List ℕ) (close : Bool) (stamp : Option ℕ) (bytes : List ℕ) (flow : Flow)
    → IsGoing asked told close stamp bytes flow → must_begin asked.kind next ≡ true → output_of next ≡ output_of told ++ more
    → IsGoing asked next close stamp (bytes ++ piece_text_of flow more) flow
going_on asked told next more close stamp bytes flow going due output =
    let can : is_streamable asked.kind (output_of told) ≡ true = (and_parts (is_streamable asked.kind (output_of told)) (is_long_enough asked.kind told) going.due).0 in
    let both = part_goes_on asked close stamp (output_of told) more bytes can going.part in
    let derived_is : derived_of asked.kind (output_of next) ≡ derived_of asked.kind (output_of told ++ more) = ap (derived_of asked.kind) output in
    record {
      due = due;
      part =
          subst (λ (d : Derived). IsPartOf (begun_way asked close stamp) d (bytes ++ piece_text_of flow more)) (sym derived_is)
          (subst (λ (f : Flow). IsPartOf (begun_way asked close stamp) (derived_of asked.kind (output_of told ++ more)) (bytes ++ piece_text_of f more)) (sym going.flow_is) both.0);
      flow_is = going.flow_is ∙ sym both.1 ∙ sym (ap (flow_by (begun_way asked close stamp)) derived_is);
    }

writes_on : (asked : Asked) (told next : List Told) (more : List ℕ) (close : Bool) (stamp : Option ℕ) (stood : Stood) (state : State) (flow : Flow) (text : List ℕ)
    → state.stage ≡ Going flow → IsAt asked told stood state → (must_begin asked.kind told ≡ true → must_begin asked.kind next ≡ true)
    → output_of next ≡ output_of told ++ more → text ≡ piece_text_of flow more → Writes asked next close stamp stood text state
writes_on asked told next more close stamp nothing state flow text stage is_at stays output is =
    absurd (subst (λ (s : Stage). IsAtStage asked told state.held s nothing) stage is_at.stage_is)
writes_on asked told next more close stamp (begun close_then stamp_then before) state flow text stage is_at stays output is =
    let going : IsGoing asked told close_then stamp_then before flow =
    subst (λ (s : Stage). IsAtStage asked told state.held s (begun close_then stamp_then before)) stage is_at.stage_is in
    let now : IsGoing asked next close_then stamp_then (before ++ text) flow =
    subst (λ (l : List ℕ). IsGoing asked next close_then stamp_then (before ++ l) flow) (sym is)
    (going_on asked told next more close_then stamp_then before flow going (stays going.due) output) in
    record {
      is_at = record {
        asked_is = is_at.asked_is;
        stage_is = subst (λ (s : Stage). IsAtStage asked next state.held s (begun close_then stamp_then (before ++ text))) (sym stage) now;
      };
      quiet = tt;
    }

pub going_piece : (asked : Asked) (told : List Told) (bytes : List ℕ) (close : Bool) (stamp : Option ℕ) (stood : Stood) (state : State) (flow : Flow) (text : List ℕ)
    → state.stage ≡ Going flow → IsAt asked told stood state → text ≡ piece_text_of flow bytes
    → Writes asked (told ++ piece bytes ∷ []) close stamp stood text state
going_piece asked told bytes close stamp stood state flow text stage is_at is =
    writes_on asked told (told ++ piece bytes ∷ []) bytes close stamp stood state flow text stage is_at (beginnings_stay asked.kind told (piece bytes ∷ [])) (output-piece told bytes) is

-- no text is written of no bytes
no_text : (flow : Flow) → [] ≡ piece_text_of flow []
no_text Nothing = refl
no_text Mark = refl
no_text Chunks = refl
no_text Plain = refl

pub going_tick : (asked : Asked) (told : List Told) (close : Bool) (stamp : Option ℕ) (stood : Stood) (state : State) (flow : Flow)
    → state.stage ≡ Going flow → IsAt asked told stood state → Writes asked (told ++ tick ∷ []) close stamp stood [] state
going_tick asked told close stamp stood state flow stage is_at =
    writes_on asked told (told ++ tick ∷ []) [] close stamp stood state flow [] stage is_at (beginnings_stay asked.kind told (tick ∷ []))
    (output-tick told ∙ sym (append-nil (output_of told))) (no_text flow)

-- ---- at the end

last_unwritten : (asked : Asked) (told : List Told) (close : Bool) (stamp : Option ℕ) (stood : Stood) (state : State) (last : Last) → state.asked ≡ asked
    → stood ≡ nothing → derived_of asked.kind (output_of told) ≡ derived_of asked.kind state.held
    → IsLastOf (whole_way state.asked close stamp) (derived_of state.asked.kind state.held) last → IsLast asked told close stamp stood last
last_unwritten asked told close stamp stood state last asked_is none same is =
    let mine : IsLastOf (whole_way asked close stamp) (derived_of asked.kind state.held) last =
    subst (λ (a : Asked). IsLastOf (whole_way a close stamp) (derived_of a.kind state.held) last) asked_is is in
    subst (λ (s : Stood). IsLast asked told close stamp s last) (sym none)
    (subst (λ (d : Derived). IsLastOf (whole_way asked close stamp) d last) (sym same) mine)

pub last_holding : (asked : Asked) (told : List Told) (close : Bool) (stamp : Option ℕ) (stood : Stood) (state : State) (last : Last) → is_holding state.stage ≡ true
    → IsAt asked told stood state → IsLastOf (whole_way state.asked close stamp) (derived_of state.asked.kind state.held) last
    → IsLast asked told close stamp stood last
last_holding asked told close stamp stood state last stage is_at is =
    let was = holds_at asked told state.held state.stage stood stage is_at.stage_is in
    last_unwritten asked told close stamp stood state last is_at.asked_is was.0 (ap (derived_of asked.kind) (sym was.1.held_is)) is

pub last_settled : (asked : Asked) (told : List Told) (close : Bool) (stamp : Option ℕ) (stood : Stood) (state : State) (last : Last) → state.stage ≡ Settled
    → IsAt asked told stood state → IsLastOf (whole_way state.asked close stamp) (derived_of state.asked.kind state.held) last
    → IsLast asked told close stamp stood last
last_settled asked told close stamp stood state last stage is_at is =
    let was = was_settled asked told stood state stage is_at in
    last_unwritten asked told close stamp stood state last is_at.asked_is was.0 (ap (derived_of asked.kind) was.1.output ∙ was.1.settled.same was.1.rest) is

pub last_going : (asked : Asked) (told : List Told) (close : Bool) (stamp : Option ℕ) (stood : Stood) (state : State) (flow : Flow) (text : List ℕ)
    → state.stage ≡ Going flow → IsAt asked told stood state → text ≡ end_text_of flow → IsLast asked told close stamp stood (Written text)
last_going asked told close stamp nothing state flow text stage is_at is =
    absurd (subst (λ (s : Stage). IsAtStage asked told state.held s nothing) stage is_at.stage_is)
last_going asked told close stamp (begun close_then stamp_then before) state flow text stage is_at is =
    let going : IsGoing asked told close_then stamp_then before flow =
    subst (λ (s : Stage). IsAtStage asked told state.held s (begun close_then stamp_then before)) stage is_at.stage_is in
    subst (λ (l : List ℕ). IsWholeOf (begun_way asked close_then stamp_then) (derived_of asked.kind (output_of told)) (before ++ l)) (sym (is ∙ ap end_text_of going.flow_is))
    (part_ends asked close_then stamp_then (derived_of asked.kind (output_of told)) before going.part)

-- ---- what stands

standing : (asked : Asked) (told : List Told) (held : List ℕ) (stage : Stage) (stood : Stood) → IsAtStage asked told held stage stood → IsSoFar asked told stood
standing asked told held (Waiting search) nothing at = holding_is_not_due asked told held at.holding
standing asked told held Ready nothing at = holding_is_not_due asked told held at.holding
standing asked told held Settled nothing at = settled_is_not_due asked told held at
standing asked told held (Going flow) nothing at = absurd at
standing asked told held (Waiting search) (begun close stamp bytes) at = absurd at
standing asked told held Ready (begun close stamp bytes) at = absurd at
standing asked told held Settled (begun close stamp bytes) at = absurd at
standing asked told held (Going flow) (begun close stamp bytes) at = (at.due, at.part)

pub standings_hold : StandingsHold
standings_hold asked told stood state is_at = standing asked told state.held state.stage stood is_at.stage_is

kind_is_not_raw : (head : CgiHead) (body raw : List ℕ) (kind : Result ReplyKind Cause) → derived_by_kind head body kind ≡ Output.Raw raw → ⊥
kind_is_not_raw head body raw (Err cause) is = cc is
kind_is_not_raw head body raw (Ok Document) is = cc is
kind_is_not_raw head body raw (Ok LocalRedirect) is = cc is
kind_is_not_raw head body raw (Ok Redirect) is = cc is
kind_is_not_raw head body raw (Ok RedirectDocument) is = cc is

cgi_is_not_raw : (output : List ℕ) (step : HdrStep) (raw : List ℕ) → derived_by_step output step ≡ Output.Raw raw → ⊥
cgi_is_not_raw output (Whole head used) raw is = kind_is_not_raw head (drop used output) raw (kind_of head) is
cgi_is_not_raw output More raw is = cc is
cgi_is_not_raw output (Bad cause) raw is = cc is

raw_is_filled : (kind : ScriptKind) (output raw : List ℕ) → is_streamable kind output ≡ true → derived_of kind output ≡ Output.Raw raw → 0 < length raw
unfolding derived_of is_streamable
raw_is_filled Cgi output raw can is = absurd (cgi_is_not_raw output (read_header output) raw is)
raw_is_filled Nph [] raw can is = absurd (cc can)
raw_is_filled Nph (byte ∷ output) raw can is = let same : byte ∷ output ≡ raw = cc is in subst (λ (l : List ℕ). 0 < length l) same (omega arith)
raw_is_filled WebSocket output raw can is = absurd (cc can)

part_is_filled : (way : Way) (d : Derived) (bytes : List ℕ) → ((raw : List ℕ) → d ≡ Output.Raw raw → 0 < length raw) → IsPartOf way d bytes → 0 < length bytes
part_is_filled way (Output.Reply reply) bytes raws part = subst (λ (l : List ℕ). 0 < length l) (sym part.text) (omega arith)
part_is_filled way (Output.Raw output) bytes raws part = subst (λ (l : List ℕ). 0 < length l) (sym part) (raws output refl)
part_is_filled way (Output.Hop location) bytes raws part = absurd part
part_is_filled way (Output.Bad cause) bytes raws part = absurd part

pub beginnings_are_written : BeginningsAreWritten
beginnings_are_written asked told close stamp bytes so_far =
    let can : is_streamable asked.kind (output_of told) ≡ true = (and_parts (is_streamable asked.kind (output_of told)) (is_long_enough asked.kind told) so_far.0).0 in
    part_is_filled (begun_way asked close stamp) (derived_of asked.kind (output_of told)) bytes
    (λ raw is. raw_is_filled asked.kind (output_of told) raw can is) so_far.1

-- ---- results of calls

pub going_heard : {E : Type 0} (result : Result (List ℕ) E) (asked : Asked) (told : List Told) (bytes : List ℕ) (close : Bool) (stamp : Option ℕ) (stood : Stood)
    (state : State) (flow : Flow) → state.stage ≡ Going flow → IsAt asked told stood state → IfOk result (λ text. text ≡ piece_text_of flow bytes)
    → IfOk result (λ text. Writes asked (told ++ piece bytes ∷ []) close stamp stood text state)
going_heard (Ok text) asked told bytes close stamp stood state flow stage is_at is = going_piece asked told bytes close stamp stood state flow text stage is_at is
going_heard (Err e) asked told bytes close stamp stood state flow stage is_at is = tt

waiting_result : {E : Type 0} (result : Result (List ℕ) E) (asked : Asked) (next : List Told) (close : Bool) (stamp : Option ℕ) (stood : Stood) (new : State)
    → stood ≡ nothing → IfOk result (λ text. Writes asked next close stamp nothing text new) → IfOk result (λ text. Writes asked next close stamp stood text new)
waiting_result (Ok text) asked next close stamp stood new none writes = subst (λ (s : Stood). Writes asked next close stamp s text new) (sym none) writes
waiting_result (Err e) asked next close stamp stood new none writes = tt

pub heard_holding : {E : Type 0} (result : Result (List ℕ) E) (asked : Asked) (told : List Told) (bytes : List ℕ) (close : Bool) (stamp : Option ℕ) (stood : Stood)
    (old new : State) → is_holding old.stage ≡ true → IsAt asked told stood old
    → (IsAt asked told nothing old → IfOk result (λ text. Writes asked (told ++ piece bytes ∷ []) close stamp nothing text new))
    → IfOk result (λ text. Writes asked (told ++ piece bytes ∷ []) close stamp stood text new)
heard_holding result asked told bytes close stamp stood old new stage is_at heard =
    let none = (holds_at asked told old.held old.stage stood stage is_at.stage_is).0 in
    waiting_result result asked (told ++ piece bytes ∷ []) close stamp stood new none (heard (subst (λ (s : Stood). IsAt asked told s old) none is_at))

pub ticked_ready : {E : Type 0} (result : Result (List ℕ) E) (asked : Asked) (told : List Told) (close : Bool) (stamp : Option ℕ) (stood : Stood)
    (old new : State) → old.stage ≡ Ready → IsAt asked told stood old
    → ((next : List Told) → Looks asked next old → IfOk result (λ text. Writes asked next close stamp nothing text new))
    → IfOk result (λ text. Writes asked (told ++ tick ∷ []) close stamp stood text new)
ticked_ready result asked told close stamp stood old new stage is_at looks =
    let ready = looks_ticked asked told stood old stage is_at in
    waiting_result result asked (told ++ tick ∷ []) close stamp stood new ready.0 (looks (told ++ tick ∷ []) ready.1.0)

-- .. where memory was wanting
needs_nothing : (asked : Asked) (told : List Told) (stood : Stood) → stood ≡ nothing → must_begin asked.kind (told ++ tick ∷ []) ≡ true → NeedsAtTick asked told stood
needs_nothing asked told nothing none due = due
needs_nothing asked told (begun close stamp bytes) none due = absurd (cc)

pub ticked_needs : {A E : Type 0} (result : Result A E) (asked : Asked) (told : List Told) (stood : Stood) (old : State) → old.stage ≡ Ready → IsAt asked told stood old
    → OnErr result (NeedsAtTick asked told stood)
ticked_needs (Ok text) asked told stood old stage is_at = tt
ticked_needs (Err e) asked told stood old stage is_at =
    let ready = looks_ticked asked told stood old stage is_at in
    needs_nothing asked told stood ready.0 ready.1.1

unbegun_needs : (asked : Asked) (told : List Told) (stood : Stood) → stood ≡ nothing → NeedsAtEnd asked told stood
unbegun_needs asked told nothing none = tt
unbegun_needs asked told (begun close stamp bytes) none = absurd (cc)

pub end_needs_unbegun : (asked : Asked) (told : List Told) (stood : Stood) (state : State) → (is_holding state.stage ≡ true) ⊎ (state.stage ≡ Settled)
    → IsAt asked told stood state → NeedsAtEnd asked told stood
end_needs_unbegun asked told stood state stage is_at = elim stage [
  | inl holding ↦ unbegun_needs asked told stood (holds_at asked told state.held state.stage stood holding is_at.stage_is).0
  | inr settled ↦ unbegun_needs asked told stood (was_settled asked told stood state settled is_at).0
]

chunked_shape : (shape : Shape) (resets : Bool) → has_mark (flow_of shape resets) ≡ true → shape ≡ Chunked
chunked_shape Bare resets is = absurd (cc)
chunked_shape (Length n) resets is = absurd (cc)
chunked_shape Chunked resets is = refl
chunked_shape ToClose true is = absurd (cc)
chunked_shape ToClose false is = absurd (cc)

chunked_flow : (way : Way) (d : Derived) → has_mark (flow_by way d) ≡ true → IsChunked way d
chunked_flow way (Output.Reply reply) is = chunked_shape (shape_of way reply) (reply.status == 205) is
chunked_flow way (Output.Raw output) is = absurd (cc)
chunked_flow way (Output.Hop location) is = absurd (cc)
chunked_flow way (Output.Bad cause) is = absurd (cc)

pub end_needs_mark : (asked : Asked) (told : List Told) (stood : Stood) (state : State) (flow : Flow) → state.stage ≡ Going flow → IsAt asked told stood state
    → has_mark flow ≡ true → NeedsAtEnd asked told stood
end_needs_mark asked told nothing state flow stage is_at mark = tt
end_needs_mark asked told (begun close stamp bytes) state flow stage is_at mark =
    let going : IsGoing asked told close stamp bytes flow = at_of asked told state (Going flow) (begun close stamp bytes) stage is_at in
    chunked_flow (begun_way asked close stamp) (derived_of asked.kind (output_of told)) (ap has_mark (sym going.flow_is) ∙ mark)

last_result : {E : Type 0} (result : Result Last E) (asked : Asked) (told : List Told) (close : Bool) (stamp : Option ℕ) (stood : Stood) (state : State)
    → (is_holding state.stage ≡ true) ⊎ (state.stage ≡ Settled) → IsAt asked told stood state
    → IfOk result (IsLastOf (whole_way state.asked close stamp) (derived_of state.asked.kind state.held)) → IfOk result (IsLast asked told close stamp stood)
last_result (Ok last) asked told close stamp stood state stage is_at is = elim stage [
  | inl holding ↦ last_holding asked told close stamp stood state last holding is_at is
  | inr settled ↦ last_settled asked told close stamp stood state last settled is_at is
]
last_result (Err e) asked told close stamp stood state stage is_at is = tt

-- .. of what was derived of what is held
pub last_derived : {E : Type 0} (result : Result Last E) (asked : Asked) (told : List Told) (close : Bool) (stamp : Option ℕ) (stood : Stood) (state : State)
    (derived : Derived) → (is_holding state.stage ≡ true) ⊎ (state.stage ≡ Settled) → IsAt asked told stood state → derived ≡ derived_of state.asked.kind state.held
    → IfOk result (IsLastOf (whole_way state.asked close stamp) derived) → IfOk result (IsLast asked told close stamp stood)
last_derived result asked told close stamp stood state derived stage is_at same is =
    last_result result asked told close stamp stood state stage is_at
    (subst (λ (d : Derived). IfOk result (IsLastOf (whole_way state.asked close stamp) d)) same is)
