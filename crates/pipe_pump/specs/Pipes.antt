-- What a call of a pipe does to the bytes that it has left or took, where it tells them.
use Rattle.std.specs.Prelude.{ℕ, List, [], take, Option}
use Rattle.std.specs.Io.KnownBytes.{Consumes, IsAtEnd, Appends}
use Rattle.pipe_pump.specs.declared.pipe.PipeRead.{PipeRead}
use Rattle.pipe_pump.specs.declared.pipe.PipeRead.TheVariants as ReadAs
use Rattle.pipe_pump.specs.declared.pipe.PipeWrite.{PipeWrite}
use Rattle.pipe_pump.specs.declared.pipe.PipeWrite.TheVariants as WroteAs

abbrev pub Reads : Option (List ℕ) → Option (List ℕ) → List ℕ → PipeRead → Type 0
Reads before after into (ReadAs.Bytes n) = Consumes before after (take n into)
Reads before after into ReadAs.End = Consumes before after [] × IsAtEnd after
Reads before after into ReadAs.Failed = Consumes before after []
Reads before after into ReadAs.LetGo = Consumes before after []

abbrev pub Writes : Option (List ℕ) → Option (List ℕ) → List ℕ → PipeWrite → Type 0
Writes before after from (WroteAs.Took n) = Appends before after (take n from)
Writes before after from WroteAs.Failed = Appends before after []
Writes before after from WroteAs.LetGo = Appends before after []
