-- Records one after another, and whole strings of them.
use Rattle.std.proofs.Common.{arith, ◌≡◌, ℕ, zero, suc, ◌+◌, ◌*◌, ◌/◌, ◌%◌, ◌<◌, ◌≤◌, Bool, true, false, List, [], ◌∷◌, ◌++◌, length, take, drop, refl, sym, ap, ◌∙◌, Option, Some, None, leb, length-drop, length-append}
use Rattle.std.specs.List.{flat_map}
use Rattle.std.proofs.lemmas.Bool.{cond-true, cond-false, leb-true, le-leb}
use Rattle.std.proofs.lemmas.List.{take-append-le, drop-append-le, take_at, drop_at, append_assoc, append-nil}
use Rattle.fcgi_records.specs.declared.record.Header.{Header}
use Rattle.fcgi_records.specs.declared.record.Record.{Record}
use Rattle.fcgi_records.specs.declared.record.RecStep.TheVariants.{Got, More, Bad}
use Rattle.fcgi_records.specs.Records.{is_bad, header_of, record_len, record_of, by_header, front_record, behind_header, behind, Reading, read_by, read_some, read_records}
use Rattle.fcgi_records.specs.RecordLaws.{after_records, RecordsJoin, BadStays, Sent, sent_bytes, SentAreRead, text_of, TextsAreRead}

-- ---- the record at the front

-- what stands at the front of a string of which this is a front
pub data Front (s t : List ℕ) : Type 0 where
  whole : (r : Record) → front_record s ≡ Got r → front_record (s ++ t) ≡ Got r → behind (s ++ t) ≡ behind s ++ t → length (behind s) < length s → Front s t
  short : front_record s ≡ More → Front s t
  wrong : front_record s ≡ Bad → front_record (s ++ t) ≡ Bad → Front s t

bad_more : (s t : List ℕ) → is_bad s ≡ true → is_bad (s ++ t) ≡ true
bad_more [] t is = absurd (cc)
bad_more (version ∷ s) t is = is

header_more : (s t : List ℕ) (h : Header) → header_of s ≡ Some h → (header_of (s ++ t) ≡ Some h) × (is_bad (s ++ t) ≡ is_bad s)
header_more [] t h is = absurd (cc)
header_more (a ∷ []) t h is = absurd (cc)
header_more (a ∷ b ∷ []) t h is = absurd (cc)
header_more (a ∷ b ∷ c ∷ []) t h is = absurd (cc)
header_more (a ∷ b ∷ c ∷ d ∷ []) t h is = absurd (cc)
header_more (a ∷ b ∷ c ∷ d ∷ e ∷ []) t h is = absurd (cc)
header_more (a ∷ b ∷ c ∷ d ∷ e ∷ f ∷ []) t h is = absurd (cc)
header_more (a ∷ b ∷ c ∷ d ∷ e ∷ f ∷ g ∷ []) t h is = absurd (cc)
header_more (a ∷ b ∷ c ∷ d ∷ e ∷ f ∷ g ∷ r ∷ rest) t h is = (is, refl)

got_of : List ℕ → Header → Record
got_of s h = record_of h.kind h.id (take h.len (drop 8 s))

pub front_by : (s : List ℕ) (h : Header) → is_bad s ≡ false → header_of s ≡ Some h → leb (record_len h) (length s) ≡ true
    → (front_record s ≡ Got (record_of h.kind h.id (take h.len (drop 8 s)))) × (behind s ≡ drop (record_len h) s)
front_by s h good is long =
    (cond-false _ _ _ good ∙ ap (by_header s) is ∙ cond-true _ _ _ long, cond-false _ _ _ good ∙ ap (behind_header s) is ∙ cond-true _ _ _ long)

whole_front : (s t : List ℕ) (h : Header) → is_bad s ≡ false → header_of s ≡ Some h → leb (record_len h) (length s) ≡ true → Front s t
whole_front s t h good is long =
    let more = header_more s t h is in
    let fits : 8 + h.len + h.padding ≤ length s = leb-true _ _ long in
    let len = length-append s t in
    let cut = length-drop 8 s in
    let here = front_by s h good is long in
    let there = front_by (s ++ t) h (more.1 ∙ good) more.0 (le-leb _ _ (omega arith)) in
    let content : take h.len (drop 8 (s ++ t)) ≡ take h.len (drop 8 s) =
    ap (take h.len) (drop-append-le 8 s t (omega arith)) ∙ take-append-le h.len (drop 8 s) t (omega arith) in
    let left = length-drop (record_len h) s in
    whole (record_of h.kind h.id (take h.len (drop 8 s))) here.0
    (there.0 ∙ ap (λ (bytes : List ℕ). Got (record_of h.kind h.id bytes)) content)
    (there.1 ∙ drop-append-le (record_len h) s t (omega arith) ∙ ap (λ (bytes : List ℕ). bytes ++ t) (sym here.1))
    (rw here.1 (omega arith))

front_at : (s t : List ℕ) (h : Header) → is_bad s ≡ false → header_of s ≡ Some h → (b : Bool) → leb (record_len h) (length s) ≡ b → Front s t
front_at s t h good is true long = whole_front s t h good is long
front_at s t h good is false long = short (cond-false _ _ _ good ∙ ap (by_header s) is ∙ cond-false _ _ _ long)

front_with : (s t : List ℕ) → is_bad s ≡ false → (o : Option Header) → header_of s ≡ o → Front s t
front_with s t good None is = short (cond-false _ _ _ good ∙ ap (by_header s) is)
front_with s t good (Some h) is = front_at s t h good is (leb (record_len h) (length s)) refl

front_if : (s t : List ℕ) (b : Bool) → is_bad s ≡ b → Front s t
front_if s t true bad = wrong (cond-true _ _ _ bad) (cond-true _ _ _ (bad_more s t bad))
front_if s t false good = front_with s t good (header_of s) refl

pub front_of : (s t : List ℕ) → Front s t
front_of s t = front_if s t (is_bad s) refl

-- ---- no more records are asked for than there are bytes

abbrev with_one : Record → Reading → Reading
with_one r later = record later { got = r ∷ later.got }

enough_by : (a b : ℕ) (s : List ℕ) → ((t : List ℕ) → length t ≤ a → length t ≤ b → read_some a t ≡ read_some b t) → length s ≤ suc a → length s ≤ suc b → Front s []
    → read_some (suc a) s ≡ read_some (suc b) s
enough_by a b s same at_a at_b (whole r is more rest less) =
    ap (read_by s (read_some a (behind s))) is
    ∙ ap (with_one r) (same (behind s) (omega arith) (omega arith))
    ∙ sym (ap (read_by s (read_some b (behind s))) is)
enough_by a b s same at_a at_b (short is) = ap (read_by s (read_some a (behind s))) is ∙ sym (ap (read_by s (read_some b (behind s))) is)
enough_by a b s same at_a at_b (wrong is more) = ap (read_by s (read_some a (behind s))) is ∙ sym (ap (read_by s (read_some b (behind s))) is)

pub read_enough : (a b : ℕ) (s : List ℕ) → length s ≤ a → length s ≤ b → read_some a s ≡ read_some b s
read_enough zero zero s at_a at_b = refl
read_enough zero (suc b) [] at_a at_b = refl
read_enough zero (suc b) (byte ∷ s) at_a at_b = absurd (omega arith)
read_enough (suc a) zero [] at_a at_b = refl
read_enough (suc a) zero (byte ∷ s) at_a at_b = absurd (omega arith)
read_enough (suc a) (suc b) s at_a at_b = enough_by a b s (λ t here there. read_enough a b t here there) at_a at_b (front_of s [])

-- with one record at the front
pub read_one : (s : List ℕ) (r : Record) → front_record s ≡ Got r → length (behind s) ≤ length s → read_records s ≡ with_one r (read_records (behind s))
read_one s r is less =
    read_enough (length s) (suc (length s)) s (omega arith) (omega arith)
    ∙ ap (read_by s (read_some (length s) (behind s))) is
    ∙ ap (with_one r) (read_enough (length s) (length (behind s)) (behind s) less (omega arith))

-- ---- strings joined

join_by : (most : ℕ) (s t : List ℕ)
    → ((u : List ℕ) → length u ≤ most → (read_some most u).bad ≡ false → read_records (u ++ t) ≡ after_records (read_some most u).got (read_records ((read_some most u).rest ++ t)))
    → length s ≤ suc most → Front s t → (read_some (suc most) s).bad ≡ false
    → read_records (s ++ t) ≡ after_records (read_some (suc most) s).got (read_records ((read_some (suc most) s).rest ++ t))
join_by most s t join at_most (whole r is more rest less) good =
    let here : read_some (suc most) s ≡ with_one r (read_some most (behind s)) = ap (read_by s (read_some most (behind s))) is in
    let len = length-append (behind s) t in
    let all = length-append s t in
    let shorter : length (behind (s ++ t)) ≤ length (s ++ t) = rw rest (omega arith) in
    read_one (s ++ t) r more shorter
    ∙ ap (λ (u : List ℕ). with_one r (read_records u)) rest
    ∙ ap (with_one r) (join (behind s) (omega arith) (sym (ap (λ (q : Reading). q.bad) here) ∙ good))
    ∙ sym (ap (λ (q : Reading). after_records q.got (read_records (q.rest ++ t))) here)
join_by most s t join at_most (short is) good =
    let here : read_some (suc most) s ≡ record { got = []; rest = s; bad = false } = ap (read_by s (read_some most (behind s))) is in
    sym (ap (λ (q : Reading). after_records q.got (read_records (q.rest ++ t))) here)
join_by most s t join at_most (wrong is more) good =
    let here : read_some (suc most) s ≡ record { got = []; rest = s; bad = true } = ap (read_by s (read_some most (behind s))) is in
    let bad : (read_some (suc most) s).bad ≡ true = ap (λ (q : Reading). q.bad) here in
    absurd (cc)

join_some : (most : ℕ) (s t : List ℕ) → length s ≤ most → (read_some most s).bad ≡ false
    → read_records (s ++ t) ≡ after_records (read_some most s).got (read_records ((read_some most s).rest ++ t))
join_some zero s t at_most good = refl
join_some (suc most) s t at_most good = join_by most s t (λ u here fine. join_some most u t here fine) at_most (front_of s t) good

pub records_join : RecordsJoin
records_join s t good = join_some (length s) s t (omega arith) good

-- ---- what begins no record

abbrev StaysBad : ℕ → List ℕ → List ℕ → Type 0
StaysBad most s t = ((read_records (s ++ t)).got ≡ (read_some most s).got) × ((read_records (s ++ t)).bad ≡ true)

read_wrong : (s : List ℕ) → front_record s ≡ Bad → read_records s ≡ record { got = []; rest = s; bad = true }
read_wrong s is =
    read_enough (length s) (suc (length s)) s (omega arith) (omega arith) ∙ ap (read_by s (read_some (length s) (behind s))) is

bad_by : (most : ℕ) (s t : List ℕ) → ((u : List ℕ) → length u ≤ most → (read_some most u).bad ≡ true → StaysBad most u t)
    → length s ≤ suc most → Front s t → (read_some (suc most) s).bad ≡ true → StaysBad (suc most) s t
bad_by most s t stays at_most (whole r is more rest less) bad =
    let here : read_some (suc most) s ≡ with_one r (read_some most (behind s)) = ap (read_by s (read_some most (behind s))) is in
    let len = length-append (behind s) t in
    let all = length-append s t in
    let shorter : length (behind (s ++ t)) ≤ length (s ++ t) = rw rest (omega arith) in
    let there : read_records (s ++ t) ≡ with_one r (read_records (behind s ++ t)) = read_one (s ++ t) r more shorter ∙ ap (λ (u : List ℕ). with_one r (read_records u)) rest in
    let later = stays (behind s) (omega arith) (sym (ap (λ (q : Reading). q.bad) here) ∙ bad) in (
      ap (λ (q : Reading). q.got) there ∙ ap (λ (got : List Record). r ∷ got) later.0 ∙ sym (ap (λ (q : Reading). q.got) here),
      ap (λ (q : Reading). q.bad) there ∙ later.1,
    )
bad_by most s t stays at_most (short is) bad =
    let here : read_some (suc most) s ≡ record { got = []; rest = s; bad = false } = ap (read_by s (read_some most (behind s))) is in
    let good : (read_some (suc most) s).bad ≡ false = ap (λ (q : Reading). q.bad) here in
    absurd (cc)
bad_by most s t stays at_most (wrong is more) bad =
    let here : read_some (suc most) s ≡ record { got = []; rest = s; bad = true } = ap (read_by s (read_some most (behind s))) is in
    let there = read_wrong (s ++ t) more in
    (ap (λ (q : Reading). q.got) there ∙ sym (ap (λ (q : Reading). q.got) here), ap (λ (q : Reading). q.bad) there)

bad_some : (most : ℕ) (s t : List ℕ) → length s ≤ most → (read_some most s).bad ≡ true → StaysBad most s t
bad_some zero s t at_most bad = absurd (cc)
bad_some (suc most) s t at_most bad = bad_by most s t (λ u here is. bad_some most u t here is) at_most (front_of s t) bad

pub bad_stays : BadStays
bad_stays s t bad = bad_some (length s) s t (omega arith) bad

-- ---- records that were sent

id_again : (n : ℕ) → n / 256 * 256 + n % 256 ≡ n
id_again n = omega arith

sent_header : (s : Sent) (more : List ℕ)
    → header_of (sent_bytes s ++ more) ≡ Some (record { kind = s.sent.kind; id = s.sent.id; len = length s.sent.content; padding = length s.padding })
sent_header s more =
    ap (λ (n : ℕ). Some (record { kind = s.sent.kind; id = n; len = length s.sent.content / 256 * 256 + length s.sent.content % 256; padding = length s.padding })) (id_again s.sent.id)
    ∙ ap (λ (n : ℕ). Some (record { kind = s.sent.kind; id = s.sent.id; len = n; padding = length s.padding })) (id_again (length s.sent.content))

sent_front : (s : Sent) (more : List ℕ) → (front_record (sent_bytes s ++ more) ≡ Got s.sent) × (behind (sent_bytes s ++ more) ≡ more)
sent_front s more =
    let h : Header = record { kind = s.sent.kind; id = s.sent.id; len = length s.sent.content; padding = length s.padding } in
    let all = length-append (s.sent.content ++ s.padding) more in
    let both = length-append s.sent.content s.padding in
    let by = front_by (sent_bytes s ++ more) h refl (sent_header s more) (le-leb _ _ (omega arith)) in (
      by.0
          ∙ ap (λ (bytes : List ℕ). Got (record_of s.sent.kind s.sent.id (take (length s.sent.content) bytes))) (append_assoc s.sent.content s.padding more)
          ∙ ap (λ (content : List ℕ). Got (record_of s.sent.kind s.sent.id content)) (take_at s.sent.content (s.padding ++ more) (length s.sent.content) refl),
      by.1 ∙ drop_at (sent_bytes s) more (8 + length s.sent.content + length s.padding) (omega arith),
    )

pub sent_are_read : SentAreRead
sent_are_read [] more = refl
sent_are_read (s ∷ ss) more =
    let apart : flat_map sent_bytes (s ∷ ss) ++ more ≡ sent_bytes s ++ (flat_map sent_bytes ss ++ more) = append_assoc (sent_bytes s) (flat_map sent_bytes ss) more in
    let one = sent_front s (flat_map sent_bytes ss ++ more) in
    let all = length-append (sent_bytes s) (flat_map sent_bytes ss ++ more) in
    ap (λ (t : List ℕ). read_records t) apart
    ∙ read_one (sent_bytes s ++ (flat_map sent_bytes ss ++ more)) s.sent one.0 (rw one.1 (omega arith))
    ∙ ap (λ (t : List ℕ). with_one s.sent (read_records t)) one.1 ∙ ap (with_one s.sent) (sent_are_read ss more)

-- ---- records that were written

abbrev record_head : Record → List ℕ
record_head r = 1 ∷ r.kind ∷ (r.id / 256) ∷ (r.id % 256) ∷ (length r.content / 256) ∷ (length r.content % 256) ∷ 0 ∷ 0 ∷ []

text_front : (r : Record) (more : List ℕ) → (front_record (text_of r ++ more) ≡ Got r) × (behind (text_of r ++ more) ≡ more)
text_front r more =
    let same : sent_bytes (record { sent = r; padding = []; reserved = 0 }) ++ more ≡ text_of r ++ more =
    ap (λ (content : List ℕ). record_head r ++ content ++ more) (append-nil r.content) in
    let by = sent_front (record { sent = r; padding = []; reserved = 0 }) more in
    (ap front_record (sym same) ∙ by.0, ap behind (sym same) ∙ by.1)

pub texts_are_read : TextsAreRead
texts_are_read [] = refl
texts_are_read (r ∷ rs) =
    let one = text_front r (flat_map text_of rs) in
    let all = length-append (text_of r) (flat_map text_of rs) in
    read_one (text_of r ++ flat_map text_of rs) r one.0 (rw one.1 (omega arith)) ∙ ap (λ (s : List ℕ). with_one r (read_records s)) one.1 ∙ ap (with_one r) (texts_are_read rs)
