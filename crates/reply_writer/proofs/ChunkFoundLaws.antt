-- Chunks that are found are chunks.
use Rattle.std.proofs.Common.{◌≡◌, ◌<◌, ℕ, zero, suc, true, false, List, [], ◌∷◌, ◌++◌, length, drop, Option, Some, None, refl, sym, ap, ◌∙◌, ◌⊎◌, inl, inr, append_assoc}
use Rattle.std.specs.Prelude.{◌&&◌, nat_lt, nat_eq, if◌then◌else◌, bytes_eq, option_map}
use Rattle.std.specs.List.{flat_map, starts_with}
use Rattle.std.proofs.lemmas.Bool.{and_parts, ltb-true}
use Rattle.std.proofs.lemmas.Slice.Eq.{bytes_eq-Decides}
use Rattle.host_base.proofs.SplitLaws.{chosen}
use Rattle.reply_writer.specs.Chunks.{AreChunks, Chunks, after_chunk, chunk_text_of, chunks_within, end_mark, first_content, with_chunk}
use Rattle.reply_writer.proofs.FrontLaws.{front_is}

nothing_more : (text : List ℕ) (found : Chunks) → text ≡ [] → record { content = []; ended = false } ≡ found → AreChunks text found
nothing_more text found none is =
    record { chunks = []; each = tt; content = ap (λ (f : Chunks). f.content) (sym is); text = none ∙ ap (λ (f : Chunks). if f.ended then end_mark else []) is }

ended_here : (text : List ℕ) (found : Chunks) → text ≡ end_mark → record { content = []; ended = true } ≡ found → AreChunks text found
ended_here text found here is =
    record { chunks = []; each = tt; content = ap (λ (f : Chunks). f.content) (sym is); text = here ∙ ap (λ (f : Chunks). if f.ended then end_mark else []) is }

one_more : (content text : List ℕ) (later found : Chunks) → 0 < length content → text ≡ chunk_text_of content ++ drop (length (chunk_text_of content)) text
    → AreChunks (drop (length (chunk_text_of content)) text) later → with_chunk content later ≡ found → AreChunks text found
one_more content text later found some here rest is = record {
  chunks = content ∷ rest.chunks;
  each = (some, rest.each);
  content = ap (λ (f : Chunks). f.content) (sym is) ∙ ap (λ l. content ++ l) rest.content;
  text =
      here ∙ (ap (λ l. chunk_text_of content ++ l) rest.text
      ∙ (sym (append_assoc (chunk_text_of content) (flat_map chunk_text_of rest.chunks) (if later.ended then end_mark else []))
      ∙ ap (λ (f : Chunks). (chunk_text_of content ++ flat_map chunk_text_of rest.chunks) ++ (if f.ended then end_mark else [])) is));
}

after_is : (content text : List ℕ) (later : Option Chunks) (found : Chunks) → after_chunk content text later ≡ Some found
    → ((c : Chunks) → later ≡ Some c → AreChunks (drop (length (chunk_text_of content)) text) c) → AreChunks text found
after_is content text later found e each = by_test (chosen (nat_lt 0 (length content) && starts_with nat_eq text (chunk_text_of content)) _ _ _ e)
  where
    by_later : (o : Option Chunks) → later ≡ o → (nat_lt 0 (length content) && starts_with nat_eq text (chunk_text_of content)) ≡ true → option_map (with_chunk content) o ≡ Some found → AreChunks text found
    by_later None is fits told = absurd (cc)
    by_later (Some c) is fits told =
        let parts = and_parts (nat_lt 0 (length content)) (starts_with nat_eq text (chunk_text_of content)) fits in
        one_more content text c found (ltb-true 0 (length content) parts.0) (front_is text (chunk_text_of content) parts.1) (each c is) (cc)

    by_test : (((nat_lt 0 (length content) && starts_with nat_eq text (chunk_text_of content)) ≡ true) × (option_map (with_chunk content) later ≡ Some found))
        ⊎ (((nat_lt 0 (length content) && starts_with nat_eq text (chunk_text_of content)) ≡ false) × (None ≡ Some found)) → AreChunks text found
    by_test (inl it) = by_later later refl it.0 it.1
    by_test (inr it) = absurd (cc)

pub chunks_found : (most : ℕ) (text : List ℕ) (found : Chunks) → chunks_within most text ≡ Some found → AreChunks text found
chunks_found zero [] found e = nothing_more [] found refl (cc)
chunks_found zero (byte ∷ bytes) found e = absurd (cc)
chunks_found (suc most) [] found e = nothing_more [] found refl (cc)
chunks_found (suc most) (byte ∷ bytes) found e =
    elim (chosen (bytes_eq (byte ∷ bytes) end_mark) _ _ _ e) [
      | inl it ↦ ended_here (byte ∷ bytes) found ((bytes_eq-Decides (byte ∷ bytes) end_mark).0 it.0) (cc)
      | inr it ↦
          after_is (first_content (byte ∷ bytes)) (byte ∷ bytes) _ found it.1
          (λ c is. chunks_found most (drop (length (chunk_text_of (first_content (byte ∷ bytes)))) (byte ∷ bytes)) c is)
    ]
