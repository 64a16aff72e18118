-- A string of bytes is the records that are read of it, as they were sent, and what is left.
use Rattle.std.proofs.Common.{arith, ◌≡◌, ℕ, zero, suc, ◌+◌, ◌*◌, ◌/◌, ◌%◌, ◌<◌, ◌≤◌, Bool, true, false, List, [], ◌∷◌, ◌++◌, length, take, drop, refl, sym, ap, subst, ◌∙◌, Option, Some, None, leb, length-drop}
use Rattle.std.specs.Prelude.{All, not, ◌==◌, if◌then◌else◌}
use Rattle.std.specs.List.{flat_map}
use Rattle.std.proofs.lemmas.Bool.{cond-true, cond-false, leb-true, eqb-true}
use Rattle.std.proofs.lemmas.List.{append_assoc, take-append-drop, drop-drop, length-take-le}
use Rattle.std.proofs.lemmas.List.Elements.{All-drop}
use Rattle.fcgi_records.specs.declared.record.Header.{Header}
use Rattle.fcgi_records.specs.declared.record.Record.{Record}
use Rattle.fcgi_records.specs.declared.record.RecStep.TheVariants.{More, Bad}
use Rattle.fcgi_records.specs.Records.{is_bad, header_of, record_len, record_of, by_header, front_record, behind, Reading, read_by, read_some}
use Rattle.fcgi_records.specs.RecordLaws.{Sent, sent_bytes, WereSent, ReadWereSent}
use Rattle.fcgi_records.proofs.RecordLaws.{front_by}

-- ---- the record at the front

-- what the header says is what was sent
abbrev Front : List ℕ → Header → Type 0
Front s h = (t : Sent) × (t.sent ≡ record_of h.kind h.id (take h.len (drop 8 s))) × (s ≡ sent_bytes t ++ drop (record_len h) s)

high_again : (high low : ℕ) → low < 256 → (high * 256 + low) / 256 ≡ high
high_again high low below = omega arith

low_again : (high low : ℕ) → low < 256 → (high * 256 + low) % 256 ≡ low
low_again high low below = omega arith

eight_more : (len padding : ℕ) → 8 + len + padding ≡ suc (suc (suc (suc (suc (suc (suc (suc (len + padding))))))))
eight_more len padding = omega arith

-- the content, the padding and what is left
three_parts : (len padding : ℕ) (rest : List ℕ) → rest ≡ (take len rest ++ take padding (drop len rest)) ++ drop (len + padding) rest
three_parts len padding rest =
    sym (take-append-drop len rest)
    ∙ ap (λ (back : List ℕ). take len rest ++ back) (sym (take-append-drop padding (drop len rest)))
    ∙ ap (λ (left : List ℕ). take len rest ++ (take padding (drop len rest) ++ left)) (drop-drop padding len rest)
    ∙ sym (append_assoc (take len rest) (take padding (drop len rest)) (drop (len + padding) rest))

module _ (kind id_high id_low len_high len_low padding reserved : ℕ) (rest : List ℕ) where
  abbrev string : List ℕ
  string = 1 ∷ kind ∷ id_high ∷ id_low ∷ len_high ∷ len_low ∷ padding ∷ reserved ∷ rest

  abbrev header : Header
  header = record { kind = kind; id = id_high * 256 + id_low; len = len_high * 256 + len_low; padding = padding }

  abbrev headed : ℕ → ℕ → ℕ → ℕ → ℕ → List ℕ → List ℕ
  headed a b c d p back = 1 ∷ kind ∷ a ∷ b ∷ c ∷ d ∷ p ∷ reserved ∷ back

  front_at : id_low < 256 → len_low < 256 → (len_high * 256 + len_low) + padding ≤ length rest → Front string header
  front_at id_below len_below long =
      let len : ℕ = len_high * 256 + len_low in
      let content : List ℕ = take (len_high * 256 + len_low) rest in
      let spare : List ℕ = take padding (drop (len_high * 256 + len_low) rest) in
      let content_len : length (take (len_high * 256 + len_low) rest) ≡ len_high * 256 + len_low = length-take-le (len_high * 256 + len_low) rest (omega arith) in
      let left = length-drop (len_high * 256 + len_low) rest in
      let spare_len : length (take padding (drop (len_high * 256 + len_low) rest)) ≡ padding = length-take-le padding (drop (len_high * 256 + len_low) rest) (omega arith) in
      let tail : drop (record_len header) string ≡ drop (len_high * 256 + len_low + padding) rest = ap (λ (k : ℕ). drop k string) (eight_more (len_high * 256 + len_low) padding) in (
        record { sent = record_of kind (id_high * 256 + id_low) content; padding = spare; reserved = reserved },
        refl,
        ap (λ (a : ℕ). headed a id_low len_high len_low padding rest) (sym (high_again id_high id_low id_below))
            ∙ ap (λ (b : ℕ). headed ((id_high * 256 + id_low) / 256) b len_high len_low padding rest) (sym (low_again id_high id_low id_below))
            ∙ ap (λ (c : ℕ). headed ((id_high * 256 + id_low) / 256) ((id_high * 256 + id_low) % 256) c len_low padding rest) (sym (high_again len_high len_low len_below) ∙ ap (λ (n : ℕ). n / 256) (sym content_len))
            ∙ ap (λ (d : ℕ). headed ((id_high * 256 + id_low) / 256) ((id_high * 256 + id_low) % 256) (length content / 256) d padding rest) (sym (low_again len_high len_low len_below) ∙ ap (λ (n : ℕ). n % 256) (sym content_len))
            ∙ ap (λ (p : ℕ). headed ((id_high * 256 + id_low) / 256) ((id_high * 256 + id_low) % 256) (length content / 256) (length content % 256) p rest) (sym spare_len)
            ∙ ap (λ (back : List ℕ). headed ((id_high * 256 + id_low) / 256) ((id_high * 256 + id_low) % 256) (length content / 256) (length content % 256) (length spare) back)
            (three_parts (len_high * 256 + len_low) padding rest ∙ ap (λ (back : List ℕ). (content ++ spare) ++ back) (sym tail)),
      )

same_if : (b : Bool) → not b ≡ false → b ≡ true
same_if true good = refl
same_if false good = absurd (cc)

is_one : (v : ℕ) → not (v == 1) ≡ false → v ≡ 1
is_one v good = eqb-true v 1 (same_if (v == 1) good)

front_sent : (s : List ℕ) (h : Header) → All (λ byte. byte < 256) s → is_bad s ≡ false → header_of s ≡ Some h → record_len h ≤ length s → Front s h
front_sent [] h bytes good is long = absurd (cc)
front_sent (a ∷ []) h bytes good is long = absurd (cc)
front_sent (a ∷ b ∷ []) h bytes good is long = absurd (cc)
front_sent (a ∷ b ∷ c ∷ []) h bytes good is long = absurd (cc)
front_sent (a ∷ b ∷ c ∷ d ∷ []) h bytes good is long = absurd (cc)
front_sent (a ∷ b ∷ c ∷ d ∷ e ∷ []) h bytes good is long = absurd (cc)
front_sent (a ∷ b ∷ c ∷ d ∷ e ∷ f ∷ []) h bytes good is long = absurd (cc)
front_sent (a ∷ b ∷ c ∷ d ∷ e ∷ f ∷ g ∷ []) h bytes good is long = absurd (cc)
front_sent (version ∷ kind ∷ id_high ∷ id_low ∷ len_high ∷ len_low ∷ padding ∷ reserved ∷ rest) h bytes good is long =
    let same : record { kind = kind; id = id_high * 256 + id_low; len = len_high * 256 + len_low; padding = padding } ≡ h = cc in
    let one : version ≡ 1 = is_one version good in
    let fits : len_high * 256 + len_low + padding ≤ length rest = within same long in
    subst (λ (g : Header). Front (version ∷ kind ∷ id_high ∷ id_low ∷ len_high ∷ len_low ∷ padding ∷ reserved ∷ rest) g) same
    (subst (λ (v : ℕ). Front (v ∷ kind ∷ id_high ∷ id_low ∷ len_high ∷ len_low ∷ padding ∷ reserved ∷ rest) (record { kind = kind; id = id_high * 256 + id_low; len = len_high * 256 + len_low; padding = padding })) (sym one)
    (front_at kind id_high id_low len_high len_low padding reserved rest (bytes 3 0 (omega arith)) (bytes 5 0 (omega arith)) fits))
  where
    within : record { kind = kind; id = id_high * 256 + id_low; len = len_high * 256 + len_low; padding = padding } ≡ h
        → record_len h ≤ length (version ∷ kind ∷ id_high ∷ id_low ∷ len_high ∷ len_low ∷ padding ∷ reserved ∷ rest) → len_high * 256 + len_low + padding ≤ length rest
    within same long =
        let n : 8 + (len_high * 256 + len_low) + padding ≡ record_len h = ap record_len same in
        omega arith

-- ---- all records

abbrev Are : ℕ → List ℕ → Type 0
Are most s = WereSent s (read_some most s)

nothing_read : (s : List ℕ) (bad : Bool) → front_record s ≡ (if bad then Bad else More) → WereSent s (record { got = []; rest = s; bad = bad })
nothing_read s bad left = record { sent = []; got = refl; bytes = refl; left = left }

one_read : (s : List ℕ) (h : Header) (later : Reading) → Front s h → behind s ≡ drop (record_len h) s → WereSent (behind s) later
    → WereSent s (record later { got = record_of h.kind h.id (take h.len (drop 8 s)) ∷ later.got })
one_read s h later front at more = record {
  sent = front.0 ∷ more.sent;
  got = ap (λ (r : Record). r ∷ later.got) (sym front.1) ∙ ap (λ (got : List Record). front.0.sent ∷ got) more.got;
  bytes =
      front.2 ∙ ap (λ (back : List ℕ). sent_bytes front.0 ++ back) (sym at ∙ more.bytes)
      ∙ sym (append_assoc (sent_bytes front.0) (flat_map sent_bytes more.sent) later.rest);
  left = more.left;
}

module _ (most : ℕ) (s : List ℕ) (bytes : All (λ byte. byte < 256) s) (within : length s ≤ suc most) (later : (t : List ℕ) → All (λ byte. byte < 256) t → length t ≤ most → Are most t) where
  are_long : (h : Header) → is_bad s ≡ false → header_of s ≡ Some h → (b : Bool) → leb (record_len h) (length s) ≡ b → Are (suc most) s
  are_long h good is true long =
      let by = front_by s h good is long in
      let fits : 8 + h.len + h.padding ≤ length s = leb-true _ _ long in
      let left = length-drop (record_len h) s in
      let all : All (λ byte. byte < 256) (behind s) = subst (λ (t : List ℕ). All (λ byte. byte < 256) t) (sym by.1) (All-drop (λ byte. byte < 256) (record_len h) s bytes) in
      let shorter : length (behind s) ≤ most = rw by.1 (omega arith) in
      subst (WereSent s) (sym (ap (read_by s (read_some most (behind s))) by.0))
      (one_read s h (read_some most (behind s)) (front_sent s h bytes good is fits) by.1 (later (behind s) all shorter))
  are_long h good is false short =
      let front : front_record s ≡ More = cond-false _ _ _ good ∙ ap (by_header s) is ∙ cond-false _ _ _ short in
      subst (WereSent s) (sym (ap (read_by s (read_some most (behind s))) front)) (nothing_read s false front)

  are_headed : is_bad s ≡ false → (o : Option Header) → header_of s ≡ o → Are (suc most) s
  are_headed good None is =
      let front : front_record s ≡ More = cond-false _ _ _ good ∙ ap (by_header s) is in
      subst (WereSent s) (sym (ap (read_by s (read_some most (behind s))) front)) (nothing_read s false front)
  are_headed good (Some h) is = are_long h good is (leb (record_len h) (length s)) refl

  are_if : (b : Bool) → is_bad s ≡ b → Are (suc most) s
  are_if true bad =
      let front : front_record s ≡ Bad = cond-true _ _ _ bad in
      subst (WereSent s) (sym (ap (read_by s (read_some most (behind s))) front)) (nothing_read s true front)
  are_if false good = are_headed good (header_of s) refl

are_some : (most : ℕ) (s : List ℕ) → All (λ byte. byte < 256) s → length s ≤ most → Are most s
are_some zero [] bytes within = nothing_read [] false refl
are_some zero (byte ∷ s) bytes within = absurd (omega arith)
are_some (suc most) s bytes within = are_if most s bytes within (λ t here there. are_some most t here there) (is_bad s) refl

pub read_were_sent : ReadWereSent
read_were_sent s bytes = are_some (length s) s bytes (omega arith)
