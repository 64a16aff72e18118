-- What holds between two turns.
use Rattle.std.specs.Prelude.{ℕ, ◌≡◌, ◌+◌, true, false, List, Option, is_some, count_by, string_bytes, if◌then◌else◌}
use Rattle.std.specs.List.{list_all}
use Rattle.host_base.specs.declared.launch.Peer.{Peer}
use Rattle.host_base.specs.declared.site.Site.{Site}
use Rattle.host_trace.specs.declared.items.Item.{Item}
use Rattle.host_trace.specs.Kinds.{is_client_answer, is_want_client}
use Rattle.host_trace.specs.Projections.{client_in, event_count, is_known, peer_of}
use Rattle.meta_variables.specs.Launch.{HasTexts}
use Rattle.explain.specs.Explanation.{ending_text}
use Rattle.explain.specs.Explained.{AsksAlone, ends_where, explanation, is_asking, is_explained, is_unasked}
use Rattle.explain.specs.Inputs.{KnowsInputs}
use Rattle.explain.specs.declared.explain.Explained.{Explained}
use Rattle.explain.specs.declared.explain.Explained.TheVariants as Was
use Rattle.explain.specs.declared.first.First.{First}
use Rattle.explain.specs.declared.input.Ending.{Ending}
use Rattle.explain.specs.declared.input.Ending.TheVariants.{Whole, Refused, Nothing}
use Rattle.explain.specs.declared.input.Heard.{Heard}
use Rattle.explain.specs.declared.input.Heard.TheVariants.{Passed, Asks, Ended, NoMemory}

-- nothing has ended: the client was asked each time, and the first request is what it sent
pub record Stands (site : Site) (first : First) (turns : ℕ) (T : List Item) : Type 0 where
  pub knows : KnowsInputs first site.limits (peer_of T 0) (client_in T 0)
  pub open_yet : is_explained site T ≡ false
  pub alone : list_all is_asking T ≡ true
  pub known : is_known T 0 ≡ is_some (peer_of T 0)
  pub asked : count_by (is_client_answer 0) T + (if is_known T 0 then 1 else 0) ≡ count_by (is_want_client 0) T
  pub asks : ends_where is_unasked T ≡ 0
  pub never : ends_where (is_explained site) T ≡ 0
  pub heard : event_count T ≡ turns

-- the first request has ended in this turn
pub record IsEnded (site : Site) (peer : Option Peer) (turns : ℕ) (ending : Ending) (T : List Item) : Type 0 where
  pub alone : AsksAlone T
  pub explained : is_explained site T ≡ true
  pub first : ends_where (is_explained site) T ≡ 1
  pub heard : event_count T ≡ turns
  pub text : ending_text site peer ending ≡ explanation site T

-- no memory was found to hear an event: the first request hasn't ended before this turn
pub record IsLost (site : Site) (turns : ℕ) (T : List Item) : Type 0 where
  pub alone : AsksAlone T
  pub first : ends_where (is_explained site) T ≡ (if is_explained site T then 1 else 0)
  pub heard : event_count T ≡ turns

-- by what was made of an event, after so many turns
abbrev pub Turned : Site → First → ℕ → Heard → List Item → Type 0
Turned site first turns Passed T = Stands site first (turns + 1) T
Turned site first turns Asks T = Stands site first (turns + 1) T
Turned site first turns (Ended ending) T = IsEnded site first.peer (turns + 1) ending T
Turned site first turns NoMemory T = IsLost site (turns + 1) T

-- a whole request is made of texts
abbrev pub HasEndingTexts : Ending → Type 0
HasEndingTexts (Whole request) = HasTexts request
HasEndingTexts (Refused cause) = Unit {0}
HasEndingTexts Nothing = Unit {0}

abbrev pub HasHeardTexts : Heard → Type 0
HasHeardTexts (Ended ending) = HasEndingTexts ending
HasHeardTexts Passed = Unit {0}
HasHeardTexts Asks = Unit {0}
HasHeardTexts NoMemory = Unit {0}

-- the text was made, or no memory was found
abbrev pub SaysEnding : Site → Option Peer → Ending → Explained → Type 0
SaysEnding site peer ending (Was.Text text) = string_bytes text ≡ ending_text site peer ending
SaysEnding site peer ending Was.Spent = ⊥
SaysEnding site peer ending Was.NoMemory = Unit {0}
