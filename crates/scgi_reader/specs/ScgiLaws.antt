-- What is read of a request stays, whatever bytes follow.
use Rattle.std.specs.Prelude.{ℕ, List, ◌++◌, ◌≡◌, ◌≢◌, ◌≤◌, length}
use Rattle.host_base.specs.declared.limits.Limits.{Limits}
use Rattle.scgi_reader.specs.declared.head.Head.TheVariants as Heard
use Rattle.scgi_reader.specs.declared.reader.ScgiStep.TheVariants.{More, Whole}
use Rattle.scgi_reader.specs.declared.reader.ScgiRequest.{ScgiRequest}
use Rattle.scgi_reader.specs.Scgi.{head_of, scgi_of}

abbrev pub HeadsStay : Type 0
HeadsStay = (limits : Limits) (s t : List ℕ) → head_of limits s ≢ Heard.More → head_of limits (s ++ t) ≡ head_of limits s

abbrev pub ReadingsStay : Type 0
ReadingsStay = (limits : Limits) (s t : List ℕ) → scgi_of limits s ≢ More → scgi_of limits (s ++ t) ≡ scgi_of limits s

-- A whole request has no more bytes than were heard, and is the same without what follows it.
pub record IsAlone (limits : Limits) (s : List ℕ) (request : ScgiRequest) (used : ℕ) : Type 0 where
  pub within : used ≤ length s
  pub body : length request.body ≤ used

abbrev pub RequestsAreWithin : Type 0
RequestsAreWithin = (limits : Limits) (s : List ℕ) (request : ScgiRequest) (used : ℕ) → scgi_of limits s ≡ Whole request used → IsAlone limits s request used
