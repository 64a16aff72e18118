-- What a reader finds in chunks, by the chunk grammar of `httparse` (RFC 9112 7.1).
use Rattle.std.specs.Prelude.{ℕ, ◌≡◌, ◌<◌, ◌^◌, List, [], ◌++◌, length, codes, None}
use Rattle.httparse.specs.Grammar.{ChunkLine, ReadsChunkLine, chunk_size}
use Rattle.reply_writer.specs.Chunks.{chunk_text_of, end_mark}

-- bytes are a chunk line of that size, with neither blanks nor an extension, and then these
pub record ReadsSize (bytes : List ℕ) (size : ℕ) (rest : List ℕ) : Type 0 where
  pub line : ChunkLine
  pub reads : ReadsChunkLine bytes line rest
  pub value : chunk_size line ≡ size
  pub pad : line.pad ≡ []
  pub extension : line.extension ≡ None

-- a chunk has the line of its size, its content and a line end, whatever follows; and the end mark has the line of the
-- size 0 and a line end
pub record ChunksReadBack : Type 0 where
  pub chunk : (content rest : List ℕ) → length content < 2 ^ 64
      → ReadsSize (chunk_text_of content ++ rest) (length content) (content ++ codes "\r\n" ++ rest)
  pub mark : (rest : List ℕ) → ReadsSize (end_mark ++ rest) 0 (codes "\r\n" ++ rest)
