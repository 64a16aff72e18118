-- What a reader has heard, as bytes come and are handed out.
use Rattle.std.proofs.Common.{◌≡◌, ℕ, zero, suc, ◌+◌, ◌-◌, List, [], ◌++◌, length, take, drop, min, Option, Some, None, option_map, refl, sym, ap, ◌∙◌, arith, subst, append-nil, append_assoc, length-append, inl, inr}
use Rattle.std.specs.Prelude.{◌⊎◌}
use Rattle.std.proofs.lemmas.List.{take-append-le, drop-append-le, take-append-drop, length-take, length-take-le, length-drop, nil_from_length}
use Rattle.host_base.specs.declared.limits.Limits.{Limits}
use Rattle.host_base.specs.declared.request.Framing.{Framing}
use Rattle.host_base.specs.declared.request.Framing.TheVariants.{Empty, Length, Chunked}
use Rattle.head_reader.proofs.ReadLaws.{wholes_are_heads}
use Rattle.request_reader.specs.declared.fault.Fault.{Fault}
use Rattle.request_reader.specs.declared.opened.Opened.{Opened}
use Rattle.request_reader.specs.Reader.{IsCounted, IsInBody, IsOpened, IsLeft, IsUnfaulty, IsHeardBy}
use Rattle.request_reader.specs.Opening.{emptied, kept_of, wanted_by, with_bytes}
use Rattle.request_reader.proofs.Bodies.{counted_on}
use Rattle.request_reader.proofs.ReadingLaws.{whole_stays}
use Rattle.request_reader.proofs.Becoming.{bad_stays}
use Rattle.body_framing.specs.Chunked.{at_start, read_len, standing_after}

-- ---- bytes are handed out

emptied_counted : (n : ℕ) (o : Opened) (read : List ℕ) (taken : ℕ) → IsCounted n o read taken → IsCounted n (emptied o) read (taken + length o.request.body)
emptied_counted n o read taken h =
    let len : length o.request.body ≡ length read - taken = ap length h.kept ∙ length-drop taken read in
    record {
      left = h.left;
      kept = sym (nil_from_length (drop (taken + length o.request.body) read) (omega (arith, length-drop (taken + length o.request.body) read, len, h.some)));
      some = omega (arith, len, h.some);
    }

emptied_body : (framing : Framing) (limit : ℕ) (o : Opened) (read : List ℕ) (taken : ℕ) → IsInBody framing limit o read taken
    → IsInBody framing limit (emptied o) read (taken + length o.request.body)
emptied_body Empty limit o read taken h = emptied_counted 0 o read taken h
emptied_body (Length n) limit o read taken h = emptied_counted n o read taken h
emptied_body Chunked limit o read taken h = record {
  stands = h.stands;
  all = h.all;
  plain = refl;
  none_left = h.none_left;
  none_taken = omega (arith, h.none_taken, ap length h.plain);
}

left_handed_out : (opened opened' : Option Opened) (rest bytes : List ℕ) → opened' ≡ option_map emptied opened → IsLeft opened rest bytes
    → IsLeft opened' rest bytes
left_handed_out None opened' rest bytes opened_is h = subst (λ (p : Option Opened). IsLeft p rest bytes) (sym opened_is) h
left_handed_out (Some o) opened' rest bytes opened_is h =
    subst (λ (p : Option Opened). IsLeft p rest bytes) (sym opened_is) (record {
      read = h.read;
      behind = h.behind;
      inside = h.inside;
      body_is = h.body_is;
      rest_is = h.rest_is;
      none_left = h.none_left;
    })

pub handed_out : (limits : Limits) (fault : Option Fault) (opened opened' : Option Opened) (rest bytes body : List ℕ) (taken : ℕ)
    → body ≡ kept_of opened → opened' ≡ option_map emptied opened → IsHeardBy limits fault opened rest bytes taken
    → IsHeardBy limits fault opened' rest bytes (taken + length body)
handed_out limits (Some f) opened opened' rest bytes body taken body_is opened_is h =
    record { is = h.is; lasts = h.lasts; left = left_handed_out opened opened' rest bytes opened_is h.left }
handed_out limits None None opened' rest bytes body taken body_is opened_is h =
    subst (λ (p : Option Opened). IsUnfaulty limits p rest bytes (taken + length body)) (sym opened_is)
    (h.0, omega (arith, h.1, ap length body_is))
handed_out limits None (Some o) opened' rest bytes body taken body_is opened_is h =
    subst (λ (p : Option Opened). IsUnfaulty limits p rest bytes (taken + length body)) (sym opened_is)
    (subst (λ (l : List ℕ). IsOpened limits (emptied o) rest bytes (taken + length l)) (sym body_is) (record {
      head = h.head;
      read = h.read;
      behind = h.behind;
      whole = h.whole;
      asks = h.asks;
      body_is = h.body_is;
      rest_is = h.rest_is;
      body = emptied_body o.request.framing limits.body o h.read taken h.body;
      waits = h.waits;
    }))

-- ---- bytes come

fed_body : (framing : Framing) (limit : ℕ) (o : Opened) (read piece : List ℕ) (taken count : ℕ) → count ≡ min o.left (length piece)
    → IsInBody framing limit o read taken → IsInBody framing limit (with_bytes o (take count piece)) (read ++ take count piece) taken
fed_body Empty limit o read piece taken count is h = counted_on 0 o read piece taken count h is
fed_body (Length n) limit o read piece taken count is h = counted_on n o read piece taken count h is
fed_body Chunked limit o read piece taken count is h =
    let none : count ≡ 0 = omega (arith, h.none_left) in
    let nothing : take count piece ≡ [] = nil_from_length (take count piece) (omega (arith, length-take count piece)) in
    let same : read ++ take count piece ≡ read = ap (λ (l : List ℕ). read ++ l) nothing ∙ append-nil read in
    record {
      stands = h.stands ∙ ap (standing_after limit) (sym same);
      all = ap (read_len (at_start limit)) same ∙ h.all ∙ ap length (sym same);
      plain = ap (λ (l : List ℕ). o.request.body ++ l) nothing ∙ append-nil o.request.body ∙ h.plain;
      none_left = omega (arith, h.none_left);
      none_taken = h.none_taken;
    }

-- either nothing of the piece belongs to the body, or nothing stands behind what was read of it
joined : (read behind piece : List ℕ) (count : ℕ) → (count ≡ 0) ⊎ (behind ≡ [])
    → (read ++ behind) ++ piece ≡ (read ++ take count piece) ++ (behind ++ drop count piece)
joined read behind piece count (inl none) =
    let front : read ≡ read ++ take count piece = sym (append-nil read) ∙ ap (λ (k : ℕ). read ++ take k piece) (sym none) in
    let tail : piece ≡ drop count piece = ap (λ (k : ℕ). drop k piece) (sym none) in
    append_assoc read behind piece ∙ (λ i. front i ++ (behind ++ tail i))
joined read behind piece count (inr none) =
    ap (λ (l : List ℕ). (read ++ l) ++ piece) none
    ∙ ap (λ (l : List ℕ). l ++ piece) (append-nil read)
    ∙ ap (λ (l : List ℕ). read ++ l) (sym (take-append-drop count piece))
    ∙ sym (append_assoc read (take count piece) (drop count piece))
    ∙ ap (λ (l : List ℕ). (read ++ take count piece) ++ (l ++ drop count piece)) (sym none)

fed_opened : (limits : Limits) (o : Opened) (rest rest' bytes piece : List ℕ) (taken count : ℕ) → count ≡ min o.left (length piece)
    → rest' ≡ rest ++ drop count piece → IsOpened limits o rest bytes taken → IsOpened limits (with_bytes o (take count piece)) rest' (bytes ++ piece) taken
fed_opened limits o rest rest' bytes piece taken count is rest_is h =
    let inside = (wholes_are_heads limits bytes h.head o.used h.whole).1 in
    let len : length (take count piece) ≡ count = length-take-le count piece (omega arith) in
    record {
      head = h.head;
      read = h.read ++ take count piece;
      behind = h.behind ++ drop count piece;
      whole = whole_stays limits bytes piece h.head o.used h.whole;
      asks = h.asks;
      body_is = drop-append-le o.used bytes piece inside ∙ ap (λ (l : List ℕ). l ++ piece) h.body_is
          ∙ joined h.read h.behind piece count (either o.left refl);
      rest_is = rest_is ∙ ap (λ (l : List ℕ). l ++ drop count piece) h.rest_is ∙ append_assoc (take o.used bytes) h.behind (drop count piece)
          ∙ ap (λ (l : List ℕ). l ++ (h.behind ++ drop count piece)) (sym (take-append-le o.used bytes piece inside));
      body = fed_body o.request.framing limits.body o h.read piece taken count is h.body;
      waits = λ some. ap (λ (l : List ℕ). l ++ drop count piece) (h.waits (omega arith))
          ∙ nil_from_length (drop count piece) (omega (arith, len, length-drop count piece));
    }
  where
    either : (n : ℕ) → o.left ≡ n → (count ≡ 0) ⊎ (h.behind ≡ [])
    either zero none = inl (omega arith)
    either (suc n) some = inr (h.waits (omega arith))

-- behind a fault nothing of the piece is read
fed_left : (opened opened' : Option Opened) (rest rest' bytes piece : List ℕ) (count : ℕ)
    → count ≡ wanted_by opened (length piece) → opened' ≡ option_map (λ o. with_bytes o (take count piece)) opened → rest' ≡ rest ++ drop count piece
    → IsLeft opened rest bytes → IsLeft opened' rest' (bytes ++ piece)
fed_left None opened' rest rest' bytes piece count count_is opened_is rest_is h =
    subst (λ (p : Option Opened). IsLeft p rest' (bytes ++ piece)) (sym opened_is)
    (rest_is ∙ ap (λ (l : List ℕ). l ++ drop count piece) h ∙ ap (λ (k : ℕ). bytes ++ drop k piece) count_is)
fed_left (Some o) opened' rest rest' bytes piece count count_is opened_is rest_is h =
    let none : count ≡ 0 = omega (arith, count_is, h.none_left) in
    subst (λ (p : Option Opened). IsLeft p rest' (bytes ++ piece)) (sym opened_is) (record {
      read = h.read;
      behind = h.behind ++ piece;
      inside = omega (arith, h.inside, length-append bytes piece);
      body_is = drop-append-le o.used bytes piece h.inside ∙ ap (λ (l : List ℕ). l ++ piece) h.body_is ∙ append_assoc h.read h.behind piece;
      rest_is = rest_is ∙ ap (λ (k : ℕ). rest ++ drop k piece) none ∙ ap (λ (l : List ℕ). l ++ piece) h.rest_is
          ∙ append_assoc (take o.used bytes) h.behind piece
          ∙ ap (λ (l : List ℕ). l ++ (h.behind ++ piece)) (sym (take-append-le o.used bytes piece h.inside));
      none_left = omega (arith, h.none_left);
    })

pub heard_fed : (limits : Limits) (fault : Option Fault) (opened opened' : Option Opened) (rest rest' bytes piece : List ℕ) (taken count : ℕ)
    → count ≡ wanted_by opened (length piece) → opened' ≡ option_map (λ o. with_bytes o (take count piece)) opened → rest' ≡ rest ++ drop count piece
    → IsHeardBy limits fault opened rest bytes taken → IsHeardBy limits fault opened' rest' (bytes ++ piece) taken
heard_fed limits (Some f) opened opened' rest rest' bytes piece taken count count_is opened_is rest_is h =
    record {
      is = bad_stays limits bytes piece f.cause f.bare h.lasts h.is;
      lasts = h.lasts;
      left = fed_left opened opened' rest rest' bytes piece count count_is opened_is rest_is h.left;
    }
heard_fed limits None None opened' rest rest' bytes piece taken count count_is opened_is rest_is h =
    subst (λ (p : Option Opened). IsUnfaulty limits p rest' (bytes ++ piece) taken) (sym opened_is)
    (rest_is ∙ ap (λ (l : List ℕ). l ++ drop count piece) h.0 ∙ ap (λ (k : ℕ). bytes ++ drop k piece) count_is, h.1)
heard_fed limits None (Some o) opened' rest rest' bytes piece taken count count_is opened_is rest_is h =
    subst (λ (p : Option Opened). IsUnfaulty limits p rest' (bytes ++ piece) taken) (sym opened_is)
    (fed_opened limits o rest rest' bytes piece taken count count_is rest_is h)
