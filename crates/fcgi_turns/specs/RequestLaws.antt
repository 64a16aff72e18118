-- What holds of the requests of a connection, and of the records that belong to none.
use Rattle.std.specs.Prelude.{ℕ, ◌*◌, ◌+◌, ◌<◌, ◌≤◌, List, [], ◌∷◌, ◌++◌, length, map, Option, Some, None, is_some, ◌==◌, ◌≡◌, if◌then◌else◌}
use Rattle.std.specs.List.{flat_map, fold, AllByRecursion}
use Rattle.host_base.specs.declared.fields.Field.{Field}
use Rattle.host_base.specs.declared.limits.Limits.{Limits}
use Rattle.host_base.specs.declared.site.Site.{Site}
use Rattle.host_trace.specs.declared.items.Item.{Item}
use Rattle.fcgi_records.specs.declared.kinds.TheConstants.{BEGIN_REQUEST, END_REQUEST, STDOUT, GET_VALUES, GET_VALUES_RESULT, UNKNOWN_TYPE}
use Rattle.fcgi_records.specs.declared.record.Record.{Record}
use Rattle.fcgi_records.specs.Records.{record_of}
use Rattle.fcgi_records.specs.RecordLaws.{text_of}
use Rattle.fcgi_records.specs.Pairs.{pairs_of}
use Rattle.fcgi_turns.specs.Texts.{complete, cant_multiplex, unknown_role, end_content, answer_records, unknown_content, values_content}
use Rattle.fcgi_turns.specs.Due.{Due, refused, replied, request_ended, reply_in}
use Rattle.fcgi_turns.specs.Turns.{Active, Turns, turns_of, on_record, on_bytes, responder}

-- ---- an answer, in records

abbrev pub IsPiece : List ℕ → Type 0
IsPiece piece = (0 < length piece) × (length piece ≤ 65535)

abbrev pub stdout_record : ℕ → List ℕ → Record
stdout_record id piece = record_of STDOUT id piece

-- Its bytes are cut into records of STDOUT of 1 to 65,535 bytes each; then an empty one stands, and END.
pub record IsAnswer (id : ℕ) (bytes : List ℕ) : Type 0 where
  pub pieces : List (List ℕ)
  pub sized : AllByRecursion IsPiece pieces
  pub joined : flat_map (λ piece. piece) pieces ≡ bytes
  pub are : answer_records id bytes ≡ flat_map text_of (map (stdout_record id) pieces ++ record_of STDOUT id [] ∷ record_of END_REQUEST id (end_content complete) ∷ [])

abbrev pub AnswersAreJoined : Type 0
AnswersAreJoined = (id : ℕ) (bytes : List ℕ) → IsAnswer id bytes

-- ---- each request has one end

abbrev pub requests_ended : List Due → List ℕ
requests_ended dues = flat_map request_ended dues

abbrev pub id_in : Option Active → List ℕ
id_in None = []
id_in (Some a) = a.id ∷ []

-- The requests that were begun are those that have ended, each once and in that order, and the one that is active.
abbrev pub RequestsEndOnce : Type 0
RequestsEndOnce = (site : Site) (c : ℕ) (L : List Item) → (turns_of site c L).ids ≡ requests_ended (turns_of site c L).due ++ id_in (turns_of site c L).active

-- ---- records that belong to no request

-- GET_VALUES is answered where it is a list of pairs, and every other type of id 0 by UNKNOWN_TYPE (FastCGI 1.0, 4)
abbrev pub values_reply : Limits → Option (List Field) → List Due
values_reply limits None = []
values_reply limits (Some asked) = replied GET_VALUES_RESULT (values_content limits asked) ∷ []

abbrev pub management_reply : Limits → Record → List Due
management_reply limits r =
    if r.kind == GET_VALUES then values_reply limits (pairs_of r.content) else replied UNKNOWN_TYPE (unknown_content r.kind) ∷ []

-- BEGIN of 8 bytes while another request is active, or with another role than a responder's (FastCGI 1.0, 5.5)
abbrev pub refusal : ℕ → ℕ → Option Active → List Due
refusal id role None = if role == responder then [] else refused id unknown_role ∷ []
refusal id role (Some a) = if a.id == id then [] else refused id cant_multiplex ∷ []

abbrev pub begin_reply : ℕ → List ℕ → Option Active → List Due
begin_reply id (high ∷ low ∷ flags ∷ a ∷ b ∷ c ∷ d ∷ e ∷ []) active = refusal id (high * 256 + low) active
begin_reply id _ active = []

abbrev pub reply_by : Site → Turns → Record → List Due
reply_by site t r =
    if is_some t.over then []
    else (if r.id == 0 then management_reply site.limits r
    else (if r.kind == BEGIN_REQUEST then begin_reply r.id r.content t.active else []))

abbrev pub replies_to : Site → Turns → List Record → List Due
replies_to site t [] = []
replies_to site t (r ∷ rs) = reply_by site t r ++ replies_to site (on_record site t r) rs

abbrev pub replies_in : List Due → List Due
replies_in dues = flat_map reply_in dues

-- They are answered one by one, in the order of the records that caused it, and nothing else is due without a request.
abbrev pub RepliesInOrder : Type 0
RepliesInOrder = (site : Site) (t : Turns) (rs : List Record) → replies_in (fold (on_record site) t rs).due ≡ replies_in t.due ++ replies_to site t rs

-- ---- bytes that are cut

abbrev pub without_rest : Turns → Turns
without_rest t = record t { rest = [] }

-- What bytes make of the turns doesn't depend on how they were cut. Of what is not read yet nothing is said, since behind
-- what begins no record it is of no matter.
abbrev pub PiecesJoin : Type 0
PiecesJoin = (site : Site) (t : Turns) (a b : List ℕ) → without_rest (on_bytes site (on_bytes site t a) b) ≡ without_rest (on_bytes site t (a ++ b))
