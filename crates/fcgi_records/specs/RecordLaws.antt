-- What holds of records, in the words of the standard and however their bytes are cut.
use Rattle.std.specs.Prelude.{ℕ, ◌/◌, ◌%◌, ◌<◌, true, false, List, [], ◌∷◌, ◌++◌, length, map, ◌≡◌, All, if◌then◌else◌}
use Rattle.std.specs.List.{flat_map}
use Rattle.fcgi_records.specs.declared.record.Record.{Record}
use Rattle.fcgi_records.specs.declared.record.RecStep.TheVariants.{More, Bad}
use Rattle.fcgi_records.specs.Records.{Reading, front_record, read_records, record_bytes}

-- these records stand before what is read later
abbrev pub after_records : List Record → Reading → Reading
after_records got later = record later { got = got ++ later.got }

-- ---- strings that are cut

-- What is read of a string is read of its front, and then of what stood behind that with what followed.
abbrev pub RecordsJoin : Type 0
RecordsJoin = (s t : List ℕ) → (read_records s).bad ≡ false
    → read_records (s ++ t) ≡ after_records (read_records s).got (read_records ((read_records s).rest ++ t))

-- What begins no record stays so.
abbrev pub BadStays : Type 0
BadStays = (s t : List ℕ) → (read_records s).bad ≡ true
    → ((read_records (s ++ t)).got ≡ (read_records s).got) × ((read_records (s ++ t)).bad ≡ true)

-- ---- records as they may be sent

-- a record, the padding behind its content and what stands in the byte that is reserved
pub record Sent : Type 0 where
  pub sent : Record
  pub padding : List ℕ
  pub reserved : ℕ

abbrev pub sent_bytes : Sent → List ℕ
sent_bytes s =
    1 ∷ s.sent.kind ∷ (s.sent.id / 256) ∷ (s.sent.id % 256) ∷ (length s.sent.content / 256) ∷ (length s.sent.content % 256) ∷ length s.padding ∷ s.reserved
    ∷ s.sent.content ++ s.padding

abbrev pub sent_record : Sent → Record
sent_record s = s.sent

-- Records are read as they were sent, whatever their padding, and then what follows them.
abbrev pub SentAreRead : Type 0
SentAreRead = (ss : List Sent) (more : List ℕ) → read_records (flat_map sent_bytes ss ++ more) ≡ after_records (map sent_record ss) (read_records more)

-- The string is records that were sent, and what is left.
pub record WereSent (s : List ℕ) (reading : Reading) : Type 0 where
  pub sent : List Sent
  pub got : reading.got ≡ map sent_record sent
  pub bytes : s ≡ flat_map sent_bytes sent ++ reading.rest
  -- what is left begins no record, or one that has not ended
  pub left : front_record reading.rest ≡ (if reading.bad then Bad else More)

abbrev pub ReadWereSent : Type 0
ReadWereSent = (s : List ℕ) → All (λ byte. byte < 256) s → WereSent s (read_records s)

-- ---- records as they are written

abbrev pub text_of : Record → List ℕ
text_of r = record_bytes r.kind r.id r.content

-- Records that were written are read again, and nothing else.
abbrev pub TextsAreRead : Type 0
TextsAreRead = (rs : List Record) → read_records (flat_map text_of rs) ≡ record { got = rs; rest = []; bad = false }
