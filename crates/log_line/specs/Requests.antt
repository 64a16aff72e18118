-- The request line in what a client sent.
use Rattle.std.specs.Prelude.{ℕ, Bool, List, take, drop, codes, bytes_eq}
use Rattle.head_lines.specs.Lines.{first_line}
use Rattle.head_reader.specs.RequestHead.{leading_crlf}

-- of a longer one so many bytes are told
abbrev pub longest_line : ℕ
longest_line = 8192

-- the first line behind one CRLF (RFC 9112 2.2), or all where none ends
abbrev pub request_line : List ℕ → List ℕ
request_line bytes = take longest_line (first_line (drop (leading_crlf bytes) bytes))

-- its method is HEAD (RFC 9110 9.3.2)
abbrev pub is_head_only : List ℕ → Bool
is_head_only line = bytes_eq (take 5 line) (codes "HEAD ")
