-- The test of a whole reply says what the relation does, and so does that of a reply cut off.
use Rattle.std.proofs.Common.{Bool, ◌≡◌, ◌<◌, ℕ, true, false, List, [], ◌∷◌, ◌++◌, length, drop, Result, Ok, Err, Option, Some, None, refl, sym, ap, subst, ◌∙◌, inl, inr, ◌^◌, append_assoc}
use Rattle.std.specs.Prelude.{nat_eq, if◌then◌else◌, bytes_eq, option_map, IfOk}
use Rattle.std.specs.List.{flat_map, starts_with}
use Rattle.std.proofs.lemmas.Bool.{and_parts}
use Rattle.std.proofs.lemmas.Slice.Eq.{bytes_eq-Decides}
use Rattle.std.proofs.lemmas.List.{append-nil}
use Rattle.std.proofs.Math.Seq.{drop-append_seam}
use Rattle.host_base.proofs.SplitLaws.{chosen}
use Rattle.host_base.specs.declared.reply.Reply.{Reply}
use Rattle.host_base.specs.declared.request.Version.{Version}
use Rattle.reply_writer.specs.declared.shape.Shape.{Shape}
use Rattle.reply_writer.specs.declared.shape.Shape.TheVariants.{Bare, Length, Chunked, ToClose}
use Rattle.reply_writer.specs.Chunks.{AreChunks, Chunks, chunk_text_of, chunks_of, end_mark}
use Rattle.reply_writer.specs.CutReply.{Cuts, IsBodyPart, body_part, cut_part, open_content}
use Rattle.reply_writer.specs.Dates.{date_text_of}
use Rattle.reply_writer.specs.Spelling.{dated, head_text_of, is_head_alone, whole_content, whole_text_of}
use Rattle.reply_writer.specs.WholeReply.{IsWholeBody, Spells, Way, are_whole_chunks, head_of, is_nothing, is_spelling, is_whole_body, shape_of, stamped}
use Rattle.reply_writer.specs.WholeRules.{ChunksSpell, CutsAgree, SpellingsAgree, WholesSpell, known_way}
use Rattle.reply_writer.proofs.ChunkFoundLaws.{chunks_found}
use Rattle.reply_writer.proofs.ChunkLaws.{are_chunks_found}
use Rattle.reply_writer.proofs.FrontLaws.{front_is, front_stands}

-- ---- the test says what the relation does

nothing_is : (bytes : List ℕ) → is_nothing bytes ≡ true → bytes ≡ []
nothing_is [] is = refl
nothing_is (byte ∷ bytes) is = absurd (cc)

chunks_tail : (body tail : List ℕ) (o : Option Chunks) → chunks_of tail ≡ o → are_whole_chunks body o ≡ true → AreChunks tail (record { content = body; ended = true })
chunks_tail body tail None is whole = absurd (cc)
chunks_tail body tail (Some found) is whole =
    let parts = and_parts found.ended (bytes_eq found.content body) whole in
    let same : found ≡ record { content = body; ended = true } =
    λ i. record { content = (bytes_eq-Decides found.content body).0 parts.1 i; ended = parts.0 i } in
    let are : AreChunks tail found = chunks_found (length tail) tail found is in
    rw same at are

tail_is : (shape : Shape) (body tail : List ℕ) → is_whole_body shape body tail ≡ true → IsWholeBody shape body tail
tail_is Bare body tail is = nothing_is tail is
tail_is (Length n) body tail is = (bytes_eq-Decides tail body).0 is
tail_is Chunked body tail is = chunks_tail body tail (chunks_of tail) refl is
tail_is ToClose body tail is = (bytes_eq-Decides tail body).0 is

-- bytes that the test takes are a spelling
pub spelling_is : (bytes : List ℕ) (way : Way) (r : Reply) → is_spelling bytes way r ≡ true → Spells bytes way r
spelling_is bytes way r is =
    let parts = and_parts (starts_with nat_eq bytes (head_of way r)) (is_whole_body (shape_of way r) r.body (drop (length (head_of way r)) bytes)) is in
    record {
      rest = drop (length (head_of way r)) bytes;
      text = front_is bytes (head_of way r) parts.0;
      follows = tail_is (shape_of way r) r.body (drop (length (head_of way r)) bytes) parts.1;
    }

-- .. and each spelling is taken
whole_body_taken : (shape : Shape) (body bytes : List ℕ) → length body < 2 ^ 64 → IsWholeBody shape body bytes
    → is_whole_body shape body bytes ≡ true
whole_body_taken Bare body bytes small is = ap (λ l. is_nothing l) is
whole_body_taken (Length n) body bytes small is = (bytes_eq-Decides bytes body).1 is
whole_body_taken Chunked body bytes small is =
    ap (are_whole_chunks body) (are_chunks_found bytes (record { content = body; ended = true }) is small) ∙ (bytes_eq-Decides body body).1 refl
whole_body_taken ToClose body bytes small is = (bytes_eq-Decides bytes body).1 is

pub spelling_taken : (bytes : List ℕ) (way : Way) (r : Reply) → length r.body < 2 ^ 64 → Spells bytes way r → is_spelling bytes way r ≡ true
spelling_taken bytes way r small s =
    let front : starts_with nat_eq bytes (head_of way r) ≡ true = rw s.text (front_stands (head_of way r) s.rest) in
    let rest : drop (length (head_of way r)) bytes ≡ s.rest = rw s.text (drop-append_seam (head_of way r) s.rest) in
    let ends : is_whole_body (shape_of way r) r.body (drop (length (head_of way r)) bytes) ≡ true = rw rest (whole_body_taken (shape_of way r) r.body s.rest small s.follows) in
    rw (front, ends) refl

pub spellings_agree : SpellingsAgree
spellings_agree bytes way r small = (spelling_is bytes way r, spelling_taken bytes way r small)

-- ---- cut off

some_part : (o : Option Chunks) (part : List ℕ) → open_content o ≡ Some part → o ≡ Some (record { content = part; ended = false })
some_part None part is = absurd (cc)
some_part (Some found) part is = go found.ended refl
  where
    go : (b : Bool) → found.ended ≡ b → Some found ≡ Some (record { content = part; ended = false })
    go true on = absurd (let told : None ≡ Some part = sym (ap (λ (b : Bool). if b then None else Some found.content) on) ∙ is in cc)
    go false on =
        let told : Some found.content ≡ Some part = sym (ap (λ (b : Bool). if b then None else Some found.content) on) ∙ is in
        let same : found.content ≡ part = cc in
        λ i. Some (record { content = same i; ended = on i })

part_is : (shape : Shape) (tail part : List ℕ) → body_part shape tail ≡ Some part → IsBodyPart shape part tail
part_is Bare [] part is = let same : [] ≡ part = cc in (refl, sym same)
part_is Bare (byte ∷ bytes) part is = absurd (cc)
part_is (Length n) tail part is = absurd (cc)
part_is Chunked tail part is = chunks_found (length tail) tail _ (some_part (chunks_of tail) part is)
part_is ToClose tail part is = cc

-- bytes of which the test finds a part are the reply cut off after it
pub cut_is : (bytes : List ℕ) (way : Way) (r : Reply) (part : List ℕ) → cut_part bytes way r ≡ Some part → Cuts bytes way r part
cut_is bytes way r part is =
    elim (chosen (starts_with nat_eq bytes (head_of way r)) _ _ _ is) [
      | inl it ↦ record {
        rest = drop (length (head_of way r)) bytes;
        text = front_is bytes (head_of way r) it.0;
        follows = part_is (shape_of way r) (drop (length (head_of way r)) bytes) part it.1;
      }
      | inr it ↦ absurd (cc)
    ]

part_taken : (shape : Shape) (part bytes : List ℕ) → length part < 2 ^ 64 → IsBodyPart shape part bytes → body_part shape bytes ≡ Some part
part_taken Bare part bytes small is =
    ap (λ l. if is_nothing l then Some [] else None) is.0 ∙ ap Some (sym is.1)
part_taken (Length n) part bytes small is = absurd is
part_taken Chunked part bytes small is = ap open_content (are_chunks_found bytes (record { content = part; ended = false }) is small)
part_taken ToClose part bytes small is = ap Some is

pub cut_taken : (bytes : List ℕ) (way : Way) (r : Reply) (part : List ℕ) → length part < 2 ^ 64 → Cuts bytes way r part → cut_part bytes way r ≡ Some part
cut_taken bytes way r part small s =
    let front : starts_with nat_eq bytes (head_of way r) ≡ true = rw s.text (front_stands (head_of way r) s.rest) in
    let rest : drop (length (head_of way r)) bytes ≡ s.rest = rw s.text (drop-append_seam (head_of way r) s.rest) in
    let ends : body_part (shape_of way r) (drop (length (head_of way r)) bytes) ≡ Some part = rw rest (part_taken (shape_of way r) part s.rest small s.follows) in
    rw front ends

pub cuts_agree : CutsAgree
cuts_agree bytes way r part small = (cut_is bytes way r part, cut_taken bytes way r part small)

-- ---- replies that are known as a whole

content_follows : (alone : Bool) (body : List ℕ)
    → IsWholeBody (if alone then Bare else Length (length body)) body (if alone then [] else body)
content_follows true body = refl
content_follows false body = refl

-- a whole text is the whole of its reply, with the Date of that second
pub whole_text_spells : (text : List ℕ) (r : Reply) (version : Version) (head_only close : Bool) (date : Option (List ℕ)) (stamp : Option ℕ)
    → text ≡ whole_text_of (dated date r) head_only close → date ≡ option_map date_text_of stamp
    → Spells text (known_way version head_only close stamp) r
whole_text_spells text r version head_only close date stamp is same = record {
  rest = whole_content r head_only;
  text = is ∙ ap (λ (d : Option (List ℕ)). whole_text_of (dated d r) head_only close) same;
  follows = content_follows (is_head_alone r head_only) r.body;
}

pub results_spell : {E : Type 0} (result : Result (List ℕ) E) (r : Reply) (head_only close : Bool) (date : Option (List ℕ))
    → IfOk result (λ text. text ≡ whole_text_of (dated date r) head_only close)
    → IfOk result (λ text. (version : Version) (stamp : Option ℕ) → date ≡ option_map date_text_of stamp
    → Spells text (known_way version head_only close stamp) r)
results_spell (Ok text) r head_only close date is =
    λ version stamp same. whole_text_spells text r version head_only close date stamp is same
results_spell (Err e) r head_only close date is = tt

pub wholes_spell : WholesSpell
wholes_spell r version head_only close stamp =
    whole_text_spells _ r version head_only close (option_map date_text_of stamp) stamp refl refl

-- ---- chunks that are written

pub chunks_spell : ChunksSpell
chunks_spell r way chunks chunked each =
    let head : head_text_of (stamped way r) Chunked way.close ≡ head_of way r =
    ap (λ (s : Shape). head_text_of (stamped way r) s way.close) (sym chunked) in (
      record {
        rest = flat_map chunk_text_of chunks;
        text = ap (λ l. l ++ flat_map chunk_text_of chunks) head;
        follows =
            subst (λ (s : Shape). IsBodyPart s (flat_map (λ c. c) chunks) (flat_map chunk_text_of chunks)) (sym chunked)
            (record { chunks = chunks; each = each; content = refl; text = sym (append-nil (flat_map chunk_text_of chunks)) });
      },
      λ body. record {
        rest = flat_map chunk_text_of chunks ++ end_mark;
        text =
            append_assoc (head_text_of (stamped way r) Chunked way.close) (flat_map chunk_text_of chunks) end_mark
            ∙ ap (λ l. l ++ (flat_map chunk_text_of chunks ++ end_mark)) head;
        follows =
            subst (λ (s : Shape). IsWholeBody s r.body (flat_map chunk_text_of chunks ++ end_mark)) (sym chunked)
            (record { chunks = chunks; each = each; content = body; text = refl });
      },
    )
