-- What an opened request is once more bytes of its body were read.
use Rattle.std.specs.Prelude.{◌≡◌, ℕ, ◌+◌, ◌≤◌, List, [], ◌++◌, length, take, drop}
use Rattle.host_base.specs.declared.request.Framing.{Framing}
use Rattle.body_framing.specs.Chunked.{BodyReading, ended, unended, refused}
use Rattle.body_framing.specs.declared.step.ChunkStep.{ChunkStep}
use Rattle.body_framing.specs.declared.step.ChunkStep.TheVariants as Told
use Rattle.request_reader.specs.declared.opened.Opened.{Opened}
use Rattle.request_reader.specs.Request.{read_body, with_body}
use Rattle.request_reader.specs.Reader.{IsInBody, data_kept}

-- what all bytes of the body are read as, and what is kept of them once so many more were read
pub record IsAdvanced (limit : ℕ) (framing : Framing) (read bytes : List ℕ) (taken count : ℕ) (reading : List ℕ → BodyReading) (o : Opened) : Type 0 where
  pub decoded : List ℕ
  pub reads : read_body limit framing (read ++ bytes) ≡ reading decoded
  pub kept : data_kept framing o ≡ drop taken decoded
  pub body : IsInBody framing limit o (read ++ take count bytes) taken

-- the request without its body, its head and what is due stay as they were
pub record IsSameHead (old new : Opened) : Type 0 where
  pub request : with_body new.request [] ≡ with_body old.request []
  pub used : new.used ≡ old.used
  pub due : new.due ≡ old.due

abbrev pub AdvancesTo : ℕ → Framing → List ℕ → List ℕ → ℕ → ChunkStep → Opened → Type 0
AdvancesTo limit framing read bytes taken Told.More o =
    IsAdvanced limit framing read bytes taken (length bytes) (λ decoded. unended decoded) o
AdvancesTo limit framing read bytes taken (Told.End used) o =
    (used ≤ length bytes) × (o.left ≡ 0) × IsAdvanced limit framing read bytes taken used (λ decoded. ended decoded (length read + used)) o
AdvancesTo limit framing read bytes taken (Told.Bad cause) o = (o.left ≡ 0) × (read_body limit framing (read ++ bytes) ≡ refused cause)
