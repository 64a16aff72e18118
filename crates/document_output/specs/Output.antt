-- What a document is answered with, in the place of a script's output (RFC 3875 6).
use Rattle.std.specs.Prelude.{ℕ, Bool, ◌||◌, ◌+◌, ◌-◌, ◌≤◌, List, [], ◌++◌, length, take, drop, Option, Some, None, is_some, option_map, option_and_then, unwrap_or, if◌then◌else◌, codes, decimal}
use Rattle.std.specs.Str.{bytes_eq}
use Rattle.host_base.specs.declared.launch.Launch.{Launch}
use Rattle.host_base.specs.declared.launch.Pair.{Pair}
use Rattle.host_base.specs.declared.site.DocRoot.{DocRoot}
use Rattle.document_output.specs.declared.answer.Answer.{Answer}
use Rattle.document_output.specs.declared.answer.Answer.TheVariants.{MethodNotAllowed, NotFound, NotSatisfiable, Part, Whole}
use Rattle.document_output.specs.declared.range.RangeSpec.{RangeSpec}
use Rattle.document_output.specs.declared.range.Span.{Span}
use Rattle.document_output.specs.declared.read.DocRead.{DocRead}
use Rattle.document_output.specs.declared.read.DocRead.TheVariants.{Found, Missing}
use Rattle.document_output.specs.Folders.{types_of}
use Rattle.document_output.specs.Paths.{document_path, media_type}
use Rattle.document_output.specs.Ranges.{range_spec, span_of}
use Rattle.document_output.specs.Values.{named_value}

-- the bytes that were found
abbrev pub bytes_of : DocRead → Option (List ℕ)
bytes_of (Found bytes) = Some bytes
bytes_of Missing = None

abbrev pub method_of : List Pair → List ℕ
method_of env = unwrap_or (named_value (codes "REQUEST_METHOD") env) []

abbrev pub is_get : List ℕ → Bool
is_get method = bytes_eq method (codes "GET")

-- a document is read by GET and HEAD
abbrev pub is_read : List ℕ → Bool
is_read method = is_get method || bytes_eq method (codes "HEAD")

-- the range that is asked for; a condition on it is never met, since no document has a validator (RFC 9110 13.1.5)
abbrev pub asked_range : List Pair → Option RangeSpec
asked_range env =
    if is_some (named_value (codes "HTTP_IF_RANGE") env) then None else option_and_then range_spec (named_value (codes "HTTP_RANGE") env)

abbrev pub span_answer : Option Span → Answer
span_answer (Some span) = Part span
span_answer None = NotSatisfiable

abbrev pub range_answer : Option RangeSpec → ℕ → Answer
range_answer (Some range) len = span_answer (span_of range len)
range_answer None len = Whole

-- by what was found, of which the length is known; GET alone looks at the range (RFC 9110 14.2)
abbrev pub found_answer : Bool → Option RangeSpec → Option ℕ → Answer
found_answer ranged range None = NotFound
found_answer ranged range (Some len) = if ranged then range_answer range len else Whole

-- the method decides first, then whether there is such a file, then the range
abbrev pub answer_of : List ℕ → Option RangeSpec → Option ℕ → Answer
answer_of method range found = if is_read method then found_answer (is_get method) range found else MethodNotAllowed

abbrev pub part_text : List ℕ → ℕ → Span → List ℕ
part_text media len span =
    codes "Status: 206\nContent-Type: " ++ (media ++ (codes "\nContent-Range: bytes " ++ (decimal span.first ++ (codes "-"
    ++ (decimal span.last ++ (codes "/" ++ (decimal len ++ codes "\nAccept-Ranges: bytes\n\n")))))))

abbrev pub whole_text : List ℕ → List ℕ
whole_text media = codes "Status: 200\nContent-Type: " ++ (media ++ codes "\nAccept-Ranges: bytes\n\n")

abbrev pub unsatisfied_text : ℕ → List ℕ
unsatisfied_text len = codes "Status: 416\nContent-Range: bytes */" ++ (decimal len ++ codes "\n\n")

-- what stands before the bytes of the file, by its media type and its length
abbrev pub text_of : List ℕ → ℕ → Answer → List ℕ
text_of media len MethodNotAllowed = codes "Status: 405\nAllow: GET, HEAD\nContent-Type: text/plain\n\nmethod not allowed\n"
text_of media len NotFound = codes "Status: 404\nContent-Type: text/plain\n\nno document\n"
text_of media len (Part span) = part_text media len span
text_of media len NotSatisfiable = unsatisfied_text len
text_of media len Whole = whole_text media

-- the bytes of a file from a position to another, both included
abbrev pub bytes_in : Span → List ℕ → List ℕ
bytes_in span file = take (span.last - span.first + 1) (drop span.first file)

-- the bytes of the file that are answered
abbrev pub file_part : Answer → List ℕ → List ℕ
file_part (Part span) file = bytes_in span file
file_part Whole file = file
file_part MethodNotAllowed file = []
file_part NotFound file = []
file_part NotSatisfiable file = []

abbrev pub answered : List ℕ → List ℕ → Answer → List ℕ
answered media file answer = text_of media (length file) answer ++ file_part answer file

-- the output of a document, for a site's folders, of what a child is started with and of what stands at its path
abbrev pub output_of : List DocRoot → Launch → Option (List ℕ) → List ℕ
output_of docs launch found =
    answered (media_type (types_of docs launch.program) (document_path launch.env)) (unwrap_or found [])
    (answer_of (method_of launch.env) (asked_range launch.env) (option_map length found))
