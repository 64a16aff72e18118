-- A reply cut off goes on by the text of the next piece, and is whole with the text of the end.
use Rattle.std.proofs.Common.{◌≡◌, ℕ, Bool, true, false, List, [], ◌∷◌, ◌++◌, length, refl, sym, ap, ◌∙◌, arith, append_assoc, ◌<◌, Option, subst}
use Rattle.std.specs.Prelude.{◌==◌, if◌then◌else◌}
use Rattle.std.specs.List.{AllByRecursion, flat_map}
use Rattle.std.proofs.lemmas.Grind.{flat_map-append}
use Rattle.std.proofs.lemmas.List.{append-nil}
use Rattle.host_base.specs.declared.reply.Reply.{Reply}
use Rattle.host_base.specs.declared.request.Version.{Version}
use Rattle.host_base.specs.declared.request.Version.TheVariants.{V10, V11}
use Rattle.host_base.specs.declared.site.ScriptKind.{ScriptKind}
use Rattle.reply_kinds.specs.declared.derived.Derived.{Derived}
use Rattle.reply_kinds.specs.declared.derived.Derived.TheVariants as Output
use Rattle.reply_kinds.specs.Derived.{derived_of, is_streamable}
use Rattle.reply_kinds.specs.DerivedRules.{longer, longer_reply}
use Rattle.reply_kinds.proofs.DerivedLaws.{begun_goes_on}
use Rattle.reply_writer.specs.declared.shape.Shape.TheVariants.{Bare}
use Rattle.reply_writer.specs.Chunks.{AreChunks, chunk_text_of, end_mark}
use Rattle.reply_writer.specs.CutReply.{Cuts, IsBodyPart}
use Rattle.reply_writer.specs.Spelling.{is_head_alone, whole_content}
use Rattle.reply_writer.specs.WholeReply.{IsWholeBody, Spells, head_of, open_shape}
use Rattle.reply_stream.specs.declared.asked.Asked.{Asked}
use Rattle.reply_stream.specs.Stages.{flow_of, flow_by, flow_by_reply, piece_text_of, end_text_of, chunked_text}
use Rattle.reply_stream.specs.Writing.{IsPartOf, IsWholeOf, begun_way}

-- ---- chunks

each-append : (chunks more : List (List ℕ)) → AllByRecursion (λ chunk. 0 < length chunk) chunks
    → AllByRecursion (λ chunk. 0 < length chunk) more → AllByRecursion (λ chunk. 0 < length chunk) (chunks ++ more)
each-append [] more each others = others
each-append (chunk ∷ chunks) more each others = (each.0, each-append chunks more each.1 others)

open_chunks-nil : (body rest : List ℕ) → AreChunks rest (record { content = body; ended = false })
    → AreChunks (rest ++ []) (record { content = body ++ []; ended = false })
open_chunks-nil body rest are = rw (append-nil rest, append-nil body) are

-- chunks, and then one more
open_chunks-more : (body rest : List ℕ) (byte : ℕ) (more : List ℕ) → AreChunks rest (record { content = body; ended = false })
    → AreChunks (rest ++ chunk_text_of (byte ∷ more)) (record { content = body ++ byte ∷ more; ended = false })
open_chunks-more body rest byte more are =
    let last : List (List ℕ) = (byte ∷ more) ∷ [] in
    record {
      chunks = are.chunks ++ last;
      each = each-append are.chunks last are.each ((let some : 0 < length (byte ∷ more) = omega arith in some), tt);
      content =
          ap (λ (l : List ℕ). l ++ byte ∷ more) are.content
          ∙ ap (λ (l : List ℕ). flat_map (λ (chunk : List ℕ). chunk) are.chunks ++ l) (sym (append-nil (byte ∷ more)))
          ∙ sym (flat_map-append (λ (chunk : List ℕ). chunk) are.chunks last);
      text =
          ap (λ (l : List ℕ). l ++ chunk_text_of (byte ∷ more)) (are.text ∙ append-nil (flat_map chunk_text_of are.chunks))
          ∙ ap (λ (l : List ℕ). flat_map chunk_text_of are.chunks ++ l) (sym (append-nil (chunk_text_of (byte ∷ more))))
          ∙ sym (flat_map-append chunk_text_of are.chunks last)
          ∙ sym (append-nil (flat_map chunk_text_of (are.chunks ++ last)));
    }

open_chunks : (body rest more : List ℕ) → AreChunks rest (record { content = body; ended = false })
    → AreChunks (rest ++ chunked_text more) (record { content = body ++ more; ended = false })
open_chunks body rest [] are = open_chunks-nil body rest are
open_chunks body rest (byte ∷ more) are = open_chunks-more body rest byte more are

closed_chunks : (body rest : List ℕ) → AreChunks rest (record { content = body; ended = false })
    → AreChunks (rest ++ end_mark) (record { content = body; ended = true })
closed_chunks body rest are = record {
  chunks = are.chunks;
  each = are.each;
  content = are.content;
  text = ap (λ (l : List ℕ). l ++ end_mark) (are.text ∙ append-nil (flat_map chunk_text_of are.chunks));
}

-- ---- a body

same_chunks : (body rest : List ℕ) → body ≡ [] → AreChunks rest (record { content = body; ended = false })
    → AreChunks (rest ++ []) (record { content = []; ended = false })
same_chunks body rest none are = rw (append-nil rest, ← none) are

grows : (alone resets : Bool) (version : Version) (body more rest : List ℕ) → (resets ≡ true → body ≡ [])
    → IsBodyPart (if alone then Bare else open_shape version) (if alone then [] else body) rest
    → IsBodyPart (if alone then Bare else open_shape version) (if alone then [] else (if resets then [] else body ++ more))
    (rest ++ piece_text_of (flow_of (if alone then Bare else open_shape version) resets) more)
grows true resets version body more rest none part = (ap (λ (l : List ℕ). l ++ []) part.0, refl)
grows false true V11 body more rest none part = same_chunks body rest (none refl) part
grows false false V11 body more rest none part = open_chunks body rest more part
grows false true V10 body more rest none part = append-nil rest ∙ part ∙ none refl
grows false false V10 body more rest none part = ap (λ (l : List ℕ). l ++ more) part

ends : (alone resets : Bool) (version : Version) (body rest : List ℕ)
    → IsBodyPart (if alone then Bare else open_shape version) (if alone then [] else body) rest
    → IsWholeBody (if alone then Bare else open_shape version) body
    (rest ++ end_text_of (flow_of (if alone then Bare else open_shape version) resets))
ends true resets version body rest part = ap (λ (l : List ℕ). l ++ []) part.0
ends false true V11 body rest part = closed_chunks body rest part
ends false false V11 body rest part = closed_chunks body rest part
ends false true V10 body rest part = append-nil rest ∙ part
ends false false V10 body rest part = append-nil rest ∙ part

-- ---- a reply

pub reply_goes_on : (asked : Asked) (close : Bool) (stamp : Option ℕ) (reply : Reply) (more bytes : List ℕ)
    → ((reply.status == 205) ≡ true → reply.body ≡ []) → Cuts bytes (begun_way asked close stamp) reply (whole_content reply asked.head_only)
    → Cuts (bytes ++ piece_text_of (flow_by_reply (begun_way asked close stamp) reply) more) (begun_way asked close stamp)
    (longer_reply reply more) (whole_content (longer_reply reply more) asked.head_only)
reply_goes_on asked close stamp reply more bytes none cut = record {
  rest = cut.rest ++ piece_text_of (flow_by_reply (begun_way asked close stamp) reply) more;
  text =
      ap (λ (l : List ℕ). l ++ piece_text_of (flow_by_reply (begun_way asked close stamp) reply) more) cut.text
      ∙ append_assoc (head_of (begun_way asked close stamp) reply) cut.rest (piece_text_of (flow_by_reply (begun_way asked close stamp) reply) more);
  follows = grows (is_head_alone reply asked.head_only) (reply.status == 205) asked.version reply.body more cut.rest none cut.follows;
}

reply_ends : (asked : Asked) (close : Bool) (stamp : Option ℕ) (reply : Reply) (bytes : List ℕ)
    → Cuts bytes (begun_way asked close stamp) reply (whole_content reply asked.head_only)
    → Spells (bytes ++ end_text_of (flow_by_reply (begun_way asked close stamp) reply)) (begun_way asked close stamp) reply
reply_ends asked close stamp reply bytes cut = record {
  rest = cut.rest ++ end_text_of (flow_by_reply (begun_way asked close stamp) reply);
  text =
      ap (λ (l : List ℕ). l ++ end_text_of (flow_by_reply (begun_way asked close stamp) reply)) cut.text
      ∙ append_assoc (head_of (begun_way asked close stamp) reply) cut.rest (end_text_of (flow_by_reply (begun_way asked close stamp) reply));
  follows = ends (is_head_alone reply asked.head_only) (reply.status == 205) asked.version reply.body cut.rest cut.follows;
}

-- ---- what is derived

-- a reply with 205 has no body
abbrev pub HasNone : Derived → Type 0
HasNone (Output.Reply reply) = (reply.status == 205) ≡ true → reply.body ≡ []
HasNone (Output.Raw output) = Unit {0}
HasNone (Output.Hop location) = Unit {0}
HasNone (Output.Bad cause) = Unit {0}

body_in : Derived → List ℕ
body_in (Output.Reply reply) = reply.body
body_in (Output.Raw output) = []
body_in (Output.Hop location) = []
body_in (Output.Bad cause) = []

none_at : (d : Derived) → d ≡ longer d [] → HasNone d
unfolding body_in
none_at (Output.Reply reply) same = λ resets.
    let body : reply.body ≡ (if reply.status == 205 then [] else reply.body ++ []) = ap body_in same in
    body ∙ ap (λ (b : Bool). if b then [] else reply.body ++ []) resets
none_at (Output.Raw output) same = tt
none_at (Output.Hop location) same = tt
none_at (Output.Bad cause) same = tt

derived_none : (kind : ScriptKind) (output : List ℕ) → is_streamable kind output ≡ true → HasNone (derived_of kind output)
derived_none kind output can =
    none_at (derived_of kind output) (ap (derived_of kind) (sym (append-nil output)) ∙ (begun_goes_on kind output [] can).1)

derived_goes_on : (asked : Asked) (close : Bool) (stamp : Option ℕ) (d : Derived) (more bytes : List ℕ) → HasNone d
    → IsPartOf (begun_way asked close stamp) d bytes
    → IsPartOf (begun_way asked close stamp) (longer d more) (bytes ++ piece_text_of (flow_by (begun_way asked close stamp) d) more)
derived_goes_on asked close stamp (Output.Reply reply) more bytes none part = reply_goes_on asked close stamp reply more bytes none part
derived_goes_on asked close stamp (Output.Raw output) more bytes none part = ap (λ (l : List ℕ). l ++ more) part
derived_goes_on asked close stamp (Output.Hop location) more bytes none part = absurd part
derived_goes_on asked close stamp (Output.Bad cause) more bytes none part = absurd part

flow_stays : (asked : Asked) (close : Bool) (stamp : Option ℕ) (d : Derived) (more : List ℕ)
    → flow_by (begun_way asked close stamp) (longer d more) ≡ flow_by (begun_way asked close stamp) d
flow_stays asked close stamp (Output.Reply reply) more = refl
flow_stays asked close stamp (Output.Raw output) more = refl
flow_stays asked close stamp (Output.Hop location) more = refl
flow_stays asked close stamp (Output.Bad cause) more = refl

-- what stands of an output that can begin goes on with the output
pub part_goes_on : (asked : Asked) (close : Bool) (stamp : Option ℕ) (output more bytes : List ℕ) → is_streamable asked.kind output ≡ true
    → IsPartOf (begun_way asked close stamp) (derived_of asked.kind output) bytes
    → IsPartOf (begun_way asked close stamp) (derived_of asked.kind (output ++ more))
    (bytes ++ piece_text_of (flow_by (begun_way asked close stamp) (derived_of asked.kind output)) more)
    × (flow_by (begun_way asked close stamp) (derived_of asked.kind (output ++ more)) ≡ flow_by (begun_way asked close stamp) (derived_of asked.kind output))
part_goes_on asked close stamp output more bytes can part =
    let grown : derived_of asked.kind (output ++ more) ≡ longer (derived_of asked.kind output) more = (begun_goes_on asked.kind output more can).1 in (
      subst (λ (d : Derived). IsPartOf (begun_way asked close stamp) d (bytes ++ piece_text_of (flow_by (begun_way asked close stamp) (derived_of asked.kind output)) more))
          (sym grown)
          (derived_goes_on asked close stamp (derived_of asked.kind output) more bytes (derived_none asked.kind output can) part),
      ap (flow_by (begun_way asked close stamp)) grown ∙ flow_stays asked close stamp (derived_of asked.kind output) more,
    )

-- .. and is whole with the text of the end
pub part_ends : (asked : Asked) (close : Bool) (stamp : Option ℕ) (d : Derived) (bytes : List ℕ) → IsPartOf (begun_way asked close stamp) d bytes
    → IsWholeOf (begun_way asked close stamp) d (bytes ++ end_text_of (flow_by (begun_way asked close stamp) d))
part_ends asked close stamp (Output.Reply reply) bytes part = reply_ends asked close stamp reply bytes part
part_ends asked close stamp (Output.Raw output) bytes part = append-nil bytes ∙ part
part_ends asked close stamp (Output.Hop location) bytes part = absurd part
part_ends asked close stamp (Output.Bad cause) bytes part = absurd part
