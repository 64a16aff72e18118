-- The reason phrases (RFC 9110 15; RFC 6585 3 to 6).
use Rattle.std.specs.Prelude.{ℕ, List, [], ◌∷◌, ◌==◌, if◌then◌else◌, codes}

-- a status code and its phrase
pub record Reason : Type 0 where
  pub code : ℕ
  pub phrase : List ℕ

abbrev pub reason : ℕ → List ℕ → Reason
reason code phrase = record { code = code; phrase = phrase }

abbrev pub phrases : List Reason
phrases =
    reason 200 (codes "OK")
    ∷ reason 201 (codes "Created")
    ∷ reason 202 (codes "Accepted")
    ∷ reason 203 (codes "Non-Authoritative Information")
    ∷ reason 204 (codes "No Content")
    ∷ reason 205 (codes "Reset Content")
    ∷ reason 206 (codes "Partial Content")
    ∷ reason 300 (codes "Multiple Choices")
    ∷ reason 301 (codes "Moved Permanently")
    ∷ reason 302 (codes "Found")
    ∷ reason 303 (codes "See Other")
    ∷ reason 304 (codes "Not Modified")
    ∷ reason 307 (codes "Temporary Redirect")
    ∷ reason 308 (codes "Permanent Redirect")
    ∷ reason 400 (codes "Bad Request")
    ∷ reason 401 (codes "Unauthorized")
    ∷ reason 402 (codes "Payment Required")
    ∷ reason 403 (codes "Forbidden")
    ∷ reason 404 (codes "Not Found")
    ∷ reason 405 (codes "Method Not Allowed")
    ∷ reason 406 (codes "Not Acceptable")
    ∷ reason 408 (codes "Request Timeout")
    ∷ reason 409 (codes "Conflict")
    ∷ reason 410 (codes "Gone")
    ∷ reason 411 (codes "Length Required")
    ∷ reason 412 (codes "Precondition Failed")
    ∷ reason 413 (codes "Content Too Large")
    ∷ reason 414 (codes "URI Too Long")
    ∷ reason 415 (codes "Unsupported Media Type")
    ∷ reason 416 (codes "Range Not Satisfiable")
    ∷ reason 417 (codes "Expectation Failed")
    ∷ reason 421 (codes "Misdirected Request")
    ∷ reason 422 (codes "Unprocessable Content")
    ∷ reason 426 (codes "Upgrade Required")
    ∷ reason 428 (codes "Precondition Required")
    ∷ reason 429 (codes "Too Many Requests")
    ∷ reason 431 (codes "Request Header Fields Too Large")
    ∷ reason 500 (codes "Internal Server Error")
    ∷ reason 501 (codes "Not Implemented")
    ∷ reason 502 (codes "Bad Gateway")
    ∷ reason 503 (codes "Service Unavailable")
    ∷ reason 504 (codes "Gateway Timeout")
    ∷ reason 505 (codes "HTTP Version Not Supported")
    ∷ reason 511 (codes "Network Authentication Required")
    ∷ []

-- the phrase of the code, or a word for what has none
abbrev pub phrase_in : List Reason → ℕ → List ℕ
phrase_in [] code = codes "Status"
phrase_in (r ∷ reasons) code = if code == r.code then r.phrase else phrase_in reasons code

abbrev pub phrase_of : ℕ → List ℕ
phrase_of code = phrase_in phrases code
