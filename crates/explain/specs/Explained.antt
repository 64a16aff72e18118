-- How explaining ends, over the trace that was told.
use Rattle.std.specs.Prelude.{ℕ, ◌≡◌, ◌≤◌, Bool, true, not, ◌&&◌, ◌||◌, List, count_by, string_bytes, if◌then◌else◌}
use Rattle.std.specs.List.{list_any, list_all}
use Rattle.host_base.specs.declared.site.Site.{Site}
use Rattle.host_trace.specs.declared.items.Item.{Item}
use Rattle.host_trace.specs.Kinds.{is_event, is_want_client, is_client_eof, is_client_gone}
use Rattle.host_trace.specs.Projections.{client_in, client_wanted, event_count, is_known, peer_of, stopped}
use Rattle.host_trace.specs.Trace.{end_of, steps}
use Rattle.request_reader.specs.Request.{Reading, is_begun, read_request}
use Rattle.explain.specs.Explanation.{ending_text}
use Rattle.explain.specs.Inputs.{is_answer, ending_of_reading}
use Rattle.explain.specs.declared.explain.Explained.{Explained}
use Rattle.explain.specs.declared.explain.Explained.TheVariants.{Text, Spent, NoMemory}
use Rattle.explain.specs.declared.input.Ending.{Ending}

-- what the client of connection 0 sent, as a request
abbrev pub first_reading : Site → List Item → Reading
first_reading site T = read_request site.limits (client_in T 0)

-- the first request is whole or refused, or nothing more of it comes
abbrev pub is_explained : Site → List Item → Bool
is_explained site T = is_answer (first_reading site T) || (list_any (is_client_eof 0) T || (list_any (is_client_gone 0) T || stopped T))

-- how the first request ended: one that was begun is cut short by the end of the client's input
abbrev pub ending_in : Site → List Item → Ending
ending_in site T = ending_of_reading (first_reading site T) (list_any (is_client_eof 0) T && is_begun (client_in T 0))

-- The explanation of the first request of connection 0.
abbrev pub explanation : Site → List Item → List ℕ
explanation site T = ending_text site (peer_of T 0) (ending_in site T)

-- ---- steps

-- at how many steps' ends a test holds
abbrev pub ends_where : (List Item → Bool) → List Item → ℕ
ends_where test T = count_by (λ s. test (end_of s)) (steps T)

-- the client is known, and no question to it is open
abbrev pub is_unasked : List Item → Bool
is_unasked T = is_known T 0 && not (client_wanted T 0)

-- an event, or a question to the first client
abbrev pub is_asking : Item → Bool
is_asking x = is_event x || is_want_client 0 x

-- no act but that question was done, and from Accepted on it is open at each step's end but perhaps the last one's
pub record AsksAlone (T : List Item) : Type 0 where
  pub alone : list_all is_asking T ≡ true
  pub asks : ends_where is_unasked T ≡ (if is_unasked T then 1 else 0)

-- it is explained at the trace's end, and at no step's end before
pub record IsFirstExplained (site : Site) (turns : ℕ) (T : List Item) : Type 0 where
  pub explained : is_explained site T ≡ true
  pub first : ends_where (is_explained site) T ≡ 1
  pub within : event_count T ≤ turns

-- it is explained at no step's end, and as many events were heard as there are turns
pub record IsNeverExplained (site : Site) (turns : ℕ) (T : List Item) : Type 0 where
  pub never : ends_where (is_explained site) T ≡ 0
  pub heard : event_count T ≡ turns

-- memory was wanting: it is explained at no step's end before the trace's, and no more events were heard than there are turns
pub record IsCutShort (site : Site) (turns : ℕ) (T : List Item) : Type 0 where
  pub first : ends_where (is_explained site) T ≡ (if is_explained site T then 1 else 0)
  pub within : event_count T ≤ turns

-- what is so of the trace by how explaining ended
abbrev pub EndsBy : Site → ℕ → Explained → List Item → Type 0
EndsBy site turns (Text text) T = IsFirstExplained site turns T × (string_bytes text ≡ explanation site T)
EndsBy site turns Spent T = IsNeverExplained site turns T
EndsBy site turns NoMemory T = IsCutShort site turns T
