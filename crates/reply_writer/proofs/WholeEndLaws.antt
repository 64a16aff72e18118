-- Where a whole reply ends, it ends in no other way.
use Rattle.std.proofs.Common.{Bool, ◌≡◌, ◌<◌, ◌^◌, ◌+◌, ℕ, true, false, List, [], ◌++◌, length, Option, Some, None, refl, sym, ap, subst, ◌∙◌, arith, append_assoc, codes, decimal, map, length-append}
use Rattle.std.specs.Prelude.{if◌then◌else◌, option_map}
use Rattle.std.proofs.lemmas.Fmt.{decimal_injective}
use Rattle.std.proofs.lemmas.List.{append_cancel_left, nil_from_length}
use Rattle.std.proofs.lemmas.Option.{same_Some}
use Rattle.httparse.specs.Grammar.{ReadsResponse, ResponseHead}
use Rattle.host_base.specs.declared.fields.Field.{Field}
use Rattle.host_base.specs.declared.reply.Reply.{Reply}
use Rattle.host_base.specs.declared.request.Version.{Version}
use Rattle.host_base.specs.declared.request.Version.TheVariants.{V10, V11}
use Rattle.host_base.specs.FieldLists.{values_named}
use Rattle.reply_writer.specs.declared.shape.Shape.{Shape}
use Rattle.reply_writer.specs.declared.shape.Shape.TheVariants.{Bare, Length, Chunked, ToClose}
use Rattle.reply_writer.specs.Chunks.{AreChunks, Chunks, chunks_of}
use Rattle.reply_writer.specs.CutReply.{IsBodyPart}
use Rattle.reply_writer.specs.Dates.{date_text_of}
use Rattle.reply_writer.specs.ReadBack.{IsPlainDate, ReadsBack, read_field}
use Rattle.reply_writer.specs.ReadEnd.{LeavesEnd}
use Rattle.reply_writer.specs.Spelling.{framing_fields, head_fields, is_head_alone}
use Rattle.reply_writer.specs.WholeReply.{IsWholeBody, Way, head_of, open_shape, shape_of, stamped}
use Rattle.reply_writer.specs.WholeRules.{CutsAreNotWhole, FrontsAreNoReply, FrontsAreNotWhole, IsDelimited, IsStamp}
use Rattle.reply_writer.proofs.ChunkLaws.{are_chunks_found, whole_chunks_end}
use Rattle.reply_writer.proofs.DatePlainLaws.{dates_are_plain}
use Rattle.reply_writer.proofs.ReadBackLaws.{heads_read_back}
use Rattle.reply_writer.proofs.ReadEndLaws.{codings_of_head, leaves_dated, lengths_of_head}

-- two texts that begin with one head
rests_join : (front more head one two : List ℕ) → front ++ more ≡ head ++ one → front ≡ head ++ two → two ++ more ≡ one
rests_join front more head one two whole part =
    append_cancel_left head (two ++ more) one (sym (append_assoc head two more) ∙ (ap (λ l. l ++ more) (sym part) ∙ whole))

no_more : (rest more body other : List ℕ) → length body ≡ length other → rest ++ more ≡ body → rest ≡ other → more ≡ []
no_more rest more body other same whole part =
    let sum : length (rest ++ more) ≡ length rest + length more = length-append rest more in
    let all : length (rest ++ more) ≡ length body = ap length whole in
    let some : length rest ≡ length other = ap length part in
    nil_from_length more (omega (arith, sum, all, some, same))

same_body_ends : (shape : Shape) (body rest more : List ℕ) → IsDelimited shape → length body < 2 ^ 64
    → IsWholeBody shape body (rest ++ more) → IsWholeBody shape body rest → more ≡ []
same_body_ends Bare body rest more delimited small whole part = absurd delimited
same_body_ends (Length n) body rest more delimited small whole part = no_more rest more body body refl whole part
same_body_ends Chunked body rest more delimited small whole part = whole_chunks_end rest more body body small small whole part
same_body_ends ToClose body rest more delimited small whole part = absurd delimited

pub fronts_are_not_whole : FrontsAreNotWhole
fronts_are_not_whole front more way reply delimited small whole part =
    let join : part.rest ++ more ≡ whole.rest =
    rests_join front more (head_of way reply) whole.rest part.rest whole.text part.text in
    same_body_ends (shape_of way reply) reply.body part.rest more delimited small
    (subst (IsWholeBody (shape_of way reply) reply.body) (sym join) whole.follows) part.follows

not_both : (found : Option Chunks) (part body : List ℕ) → found ≡ Some (record { content = part; ended = false })
    → found ≡ Some (record { content = body; ended = true }) → ⊥
not_both found part body cut whole =
    let same : false ≡ true =
    ap (λ (f : Chunks). f.ended)
    (same_Some (record { content = part; ended = false }) (record { content = body; ended = true }) (sym cut ∙ whole)) in
    cc

pub cuts_are_not_whole : CutsAreNotWhole
cuts_are_not_whole bytes part way reply chunked small part_small cuts spells =
    let rest : cuts.rest ≡ spells.rest =
    append_cancel_left (head_of way reply) cuts.rest spells.rest (sym cuts.text ∙ spells.text) in
    let cut : AreChunks cuts.rest (record { content = part; ended = false }) =
    subst (λ (s : Shape). IsBodyPart s part cuts.rest) chunked cuts.follows in
    let whole : AreChunks spells.rest (record { content = reply.body; ended = true }) =
    subst (λ (s : Shape). IsWholeBody s reply.body spells.rest) chunked spells.follows in
    not_both (chunks_of spells.rest) part reply.body
    (ap chunks_of (sym rest) ∙ are_chunks_found cuts.rest (record { content = part; ended = false }) cut part_small)
    (are_chunks_found spells.rest (record { content = reply.body; ended = true }) whole small)

-- ---- any other reply

-- a length that is told is the body's
abbrev TellsLength : Shape → List ℕ → Type 0
TellsLength Bare body = Unit {0}
TellsLength (Length n) body = n ≡ length body
TellsLength Chunked body = Unit {0}
TellsLength ToClose body = Unit {0}

length_told : (alone known : Bool) (version : Version) (body : List ℕ)
    → TellsLength (if alone then Bare else (if known then Length (length body) else open_shape version)) body
length_told true known version body = tt
length_told false true version body = refl
length_told false false V10 body = tt
length_told false false V11 body = tt

-- two heads have the same framing fields
record SameFraming (one two : Shape) : Type 0 where
  lengths : values_named (codes "Content-Length") (framing_fields one) ≡ values_named (codes "Content-Length") (framing_fields two)
  codings : values_named (codes "Transfer-Encoding") (framing_fields one) ≡ values_named (codes "Transfer-Encoding") (framing_fields two)

other_body_ends : (one two : Shape) (body other rest more : List ℕ) → IsDelimited one → length body < 2 ^ 64 → length other < 2 ^ 64
    → TellsLength one body → TellsLength two other → SameFraming one two
    → IsWholeBody one body (rest ++ more) → IsWholeBody two other rest → more ≡ []
other_body_ends Bare two body other rest more delimited small other_small tells other_tells same whole part = absurd delimited
other_body_ends ToClose two body other rest more delimited small other_small tells other_tells same whole part = absurd delimited
other_body_ends (Length n) (Length m) body other rest more delimited small other_small tells other_tells same whole part =
    let digits : decimal n ≡ decimal m = let lengths = same.lengths in cc in
    let number : n ≡ m = decimal_injective n m (omega (arith, tells, small)) (omega (arith, other_tells, other_small)) digits in
    no_more rest more body other (sym tells ∙ (number ∙ other_tells)) whole part
other_body_ends (Length n) Bare body other rest more delimited small other_small tells other_tells same whole part =
    absurd (let lengths = same.lengths in cc)
other_body_ends (Length n) Chunked body other rest more delimited small other_small tells other_tells same whole part =
    absurd (let lengths = same.lengths in cc)
other_body_ends (Length n) ToClose body other rest more delimited small other_small tells other_tells same whole part =
    absurd (let lengths = same.lengths in cc)
other_body_ends Chunked (Length m) body other rest more delimited small other_small tells other_tells same whole part =
    absurd (let lengths = same.lengths in cc)
other_body_ends Chunked Bare body other rest more delimited small other_small tells other_tells same whole part =
    absurd (let codings = same.codings in cc)
other_body_ends Chunked ToClose body other rest more delimited small other_small tells other_tells same whole part =
    absurd (let codings = same.codings in cc)
other_body_ends Chunked Chunked body other rest more delimited small other_small tells other_tells same whole part =
    whole_chunks_end rest more body other small other_small whole part

stamp_is_plain : (stamp : Option ℕ) → IsStamp stamp → IsPlainDate (option_map date_text_of stamp)
stamp_is_plain None fits = tt
stamp_is_plain (Some secs) fits = dates_are_plain secs fits

same_framing : (way other_way : Way) (reply other : Reply) → LeavesEnd reply → LeavesEnd other
    → head_fields (stamped other_way other) (shape_of other_way other) other_way.close
    ≡ head_fields (stamped way reply) (shape_of way reply) way.close
    → SameFraming (shape_of way reply) (shape_of other_way other)
same_framing way other_way reply other leaves other_leaves fields =
    let own = leaves_dated (option_map date_text_of way.stamp) reply leaves in
    let other_own = leaves_dated (option_map date_text_of other_way.stamp) other other_leaves in
    record {
      lengths =
          sym (lengths_of_head (stamped way reply) (shape_of way reply) way.close own)
          ∙ (ap (values_named (codes "Content-Length")) (sym fields)
          ∙ lengths_of_head (stamped other_way other) (shape_of other_way other) other_way.close other_own);
      codings =
          sym (codings_of_head (stamped way reply) (shape_of way reply) way.close own)
          ∙ (ap (values_named (codes "Transfer-Encoding")) (sym fields)
          ∙ codings_of_head (stamped other_way other) (shape_of other_way other) other_way.close other_own);
    }

-- a head is read as one, with what follows it
heads_are_one : (text other_text : List ℕ) (reply other : Reply) (fields other_fields : List Field) (rest other_rest : List ℕ)
    → other_text ≡ text → ReadsBack text reply fields rest → ReadsBack other_text other other_fields other_rest
    → (other_fields ≡ fields) × (other_rest ≡ rest)
heads_are_one text other_text reply other fields other_fields rest other_rest same read other_read =
    let one = read.alone other_read.head other_rest (subst (λ t. ReadsResponse t other_read.head other_rest) same other_read.reads) in
    (sym other_read.said ∙ (ap (λ (h : ResponseHead). map read_field h.fields) one.0 ∙ read.said), one.1)

pub fronts_are_no_reply : FrontsAreNoReply
fronts_are_no_reply front more way other_way reply other delimited writable other_writable whole part =
    let text : head_of other_way other ++ (part.rest ++ more) ≡ head_of way reply ++ whole.rest =
    sym (append_assoc (head_of other_way other) part.rest more) ∙ (ap (λ l. l ++ more) (sym part.text) ∙ whole.text) in
    let one =
    heads_are_one (head_of way reply ++ whole.rest) (head_of other_way other ++ (part.rest ++ more)) reply other
    (head_fields (stamped way reply) (shape_of way reply) way.close)
    (head_fields (stamped other_way other) (shape_of other_way other) other_way.close) whole.rest (part.rest ++ more) text
    (heads_read_back reply (shape_of way reply) way.close (option_map date_text_of way.stamp) whole.rest writable.plain (stamp_is_plain way.stamp writable.stamp))
    (heads_read_back other (shape_of other_way other) other_way.close (option_map date_text_of other_way.stamp) (part.rest ++ more) other_writable.plain (stamp_is_plain other_way.stamp other_writable.stamp)) in
    other_body_ends (shape_of way reply) (shape_of other_way other) reply.body other.body part.rest more delimited
    writable.short other_writable.short
    (length_told (is_head_alone reply way.head_only) way.known way.version reply.body)
    (length_told (is_head_alone other other_way.head_only) other_way.known other_way.version other.body)
    (same_framing way other_way reply other writable.ends other_writable.ends one.0)
    (subst (IsWholeBody (shape_of way reply) reply.body) (sym one.1) whole.follows) part.follows
