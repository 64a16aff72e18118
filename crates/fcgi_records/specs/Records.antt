-- Records of FastCGI: 8 bytes of a header, the content, and the padding.
use Rattle.std.specs.Prelude.{ℕ, zero, suc, ◌+◌, ◌*◌, ◌/◌, ◌%◌, Bool, true, false, not, ◌==◌, nat_le, List, [], ◌∷◌, ◌++◌, length, take, drop, Option, Some, None, if◌then◌else◌}
use Rattle.fcgi_records.specs.declared.record.Header.{Header}
use Rattle.fcgi_records.specs.declared.record.Record.{Record}
use Rattle.fcgi_records.specs.declared.record.RecStep.{RecStep}
use Rattle.fcgi_records.specs.declared.record.RecStep.TheVariants.{Got, More, Bad}

-- ---- the record at the front of a string

-- a first byte that is no version of a record
abbrev pub is_bad : List ℕ → Bool
is_bad [] = false
is_bad (version ∷ rest) = not (version == 1)

-- Behind the version: the type, the id and the length of the content in two bytes each, the greater first, the length of
-- the padding, and a byte that is reserved.
abbrev pub header_of : List ℕ → Option Header
header_of (version ∷ kind ∷ id_high ∷ id_low ∷ len_high ∷ len_low ∷ padding ∷ reserved ∷ rest) =
    Some (record { kind = kind; id = id_high * 256 + id_low; len = len_high * 256 + len_low; padding = padding })
header_of _ = None

abbrev pub record_len : Header → ℕ
record_len h = 8 + h.len + h.padding

abbrev pub record_of : ℕ → ℕ → List ℕ → Record
record_of kind id content = record { kind = kind; id = id; content = content }

abbrev pub by_header : List ℕ → Option Header → RecStep
by_header s None = More
by_header s (Some h) = if nat_le (record_len h) (length s) then Got (record_of h.kind h.id (take h.len (drop 8 s))) else More

-- Bad is answered as soon as the first byte is heard and isn't 1.
abbrev pub front_record : List ℕ → RecStep
front_record s = if is_bad s then Bad else by_header s (header_of s)

abbrev pub behind_header : List ℕ → Option Header → List ℕ
behind_header s None = s
behind_header s (Some h) = if nat_le (record_len h) (length s) then drop (record_len h) s else s

-- what stands behind it; all of it, where there is no whole record
abbrev pub behind : List ℕ → List ℕ
behind s = if is_bad s then s else behind_header s (header_of s)

-- ---- all records of a string

-- the whole records in order, what stands behind them, and whether that is the beginning of no record
pub record Reading : Type 0 where
  pub got : List Record
  pub rest : List ℕ
  pub bad : Bool

abbrev pub read_by : List ℕ → Reading → RecStep → Reading
read_by s later (Got r) = record later { got = r ∷ later.got }
read_by s later More = record { got = []; rest = s; bad = false }
read_by s later Bad = record { got = []; rest = s; bad = true }

-- .. for at most so many records
abbrev pub read_some : ℕ → List ℕ → Reading
read_some zero s = record { got = []; rest = s; bad = false }
read_some (suc most) s = read_by s (read_some most (behind s)) (front_record s)

-- each record has a byte at least
abbrev pub read_records : List ℕ → Reading
read_records s = read_some (length s) s

-- ---- a record written

-- with no padding behind a content of so many bytes
abbrev pub header_bytes : ℕ → ℕ → ℕ → List ℕ
header_bytes kind id len = 1 ∷ kind ∷ (id / 256) ∷ (id % 256) ∷ (len / 256) ∷ (len % 256) ∷ 0 ∷ 0 ∷ []

abbrev pub record_bytes : ℕ → ℕ → List ℕ → List ℕ
record_bytes kind id content = header_bytes kind id (length content) ++ content
