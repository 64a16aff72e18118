-- What the reply of a leg knows with each call.
use Rattle.std.proofs.Common.{◌≡◌, ℕ, Bool, true, false, List, [], ◌∷◌, ◌++◌, Option, Some, None, Result, Ok, Err, refl, sym, ap, ◌∙◌, subst}
use Rattle.std.specs.Prelude.{◌||◌, if◌then◌else◌, OnErr}
use Rattle.std.proofs.lemmas.Bool.{false≢true}
use Rattle.host_base.specs.declared.cause.Cause.{Cause}
use Rattle.reply_kinds.specs.Derived.{derived_of, is_header_whole}
use Rattle.reply_stream.specs.declared.asked.Asked.{Asked}
use Rattle.reply_stream.specs.declared.stream.Last.{Last}
use Rattle.reply_stream.specs.Hearing.{Told, piece, tick, is_ticked, must_begin, output_of}
use Rattle.reply_stream.specs.Memory.{NeedsAtEnd, NeedsAtTick}
use Rattle.reply_stream.specs.Stages.{IsAt, Writes}
use Rattle.reply_stream.specs.Writing.{Stood, nothing, begun, begun_way, whole_way, is_begun, stood_next, IsLast, IsLastOf, IsPartOf, IsQuiet, IsRestOf, IsSoFar}
use Rattle.reply_stream.proofs.HearingLaws.{output-piece, output-tick, ticked-piece, ticked-tick}
use Rattle.reply_stream.proofs.StageLaws.{standings_hold}
use Rattle.exchange_reply.specs.declared.reply.LegReply.{LegReply}
use Rattle.exchange_reply.specs.Reply.{Fails, Gives, IsClosedBy, KnownStand, KnowsReply, MayEndWithout, MayTickWithout, SpellsFault, closes_of}
use Rattle.exchange_reply.specs.Standings.{Ends, Stands, is_due, next}

due_is : (asked : Asked) (told : List Told) (output : List ℕ) (ticked : Bool) → output_of told ≡ output → is_ticked asked.kind told ≡ ticked
    → must_begin asked.kind told ≡ is_due asked.kind output ticked
due_is asked told output ticked output_is ticked_is =
    ap (λ (l : List ℕ). is_due asked.kind l (is_ticked asked.kind told)) output_is ∙ ap (is_due asked.kind output) ticked_is

stands_by : (asked : Asked) (told : List Told) (output : List ℕ) (ticked : Bool) (stood : Stood) → output_of told ≡ output → is_ticked asked.kind told ≡ ticked
    → IsSoFar asked told stood → Stands asked output ticked stood
stands_by asked told output ticked nothing output_is ticked_is so = sym (due_is asked told output ticked output_is ticked_is) ∙ so
stands_by asked told output ticked (begun close stamp bytes) output_is ticked_is so =
    (sym (due_is asked told output ticked output_is ticked_is) ∙ so.0, subst (λ (l : List ℕ). IsPartOf (begun_way asked close stamp) (derived_of asked.kind l) bytes) output_is so.1)

pub known_stand : KnownStand
known_stand r asked output ticked stood knows =
    stands_by asked knows.told output ticked stood knows.output_is knows.ticked_is (standings_hold asked knows.told stood r.stream knows.is_at)

-- ---- a piece and a tick

next_is : (asked : Asked) (told : List Told) (output : List ℕ) (ticked close : Bool) (stamp : Option ℕ) (stood : Stood) (text : List ℕ)
    → output_of told ≡ output → is_ticked asked.kind told ≡ ticked → stood_next asked told close stamp stood text ≡ next asked output ticked close stamp stood text
next_is asked told output ticked close stamp nothing text output_is ticked_is =
    ap (λ (b : Bool). if b then begun close stamp text else nothing) (due_is asked told output ticked output_is ticked_is)
next_is asked told output ticked close stamp (begun close_then stamp_then before) text output_is ticked_is = refl

closed_unbegun : (b close : Bool) (stamp : Option ℕ) (text : List ℕ) → IsClosedBy close (if b then begun close stamp text else nothing)
closed_unbegun true close stamp text = refl
closed_unbegun false close stamp text = tt

closed_next : (asked : Asked) (output : List ℕ) (ticked close : Bool) (stamp : Option ℕ) (stood : Stood) (text : List ℕ)
    → IsClosedBy (closes_of stood close) (next asked output ticked close stamp stood text)
closed_next asked output ticked close stamp nothing text = closed_unbegun (is_due asked.kind output ticked) close stamp text
closed_next asked output ticked close stamp (begun close_then stamp_then before) text = refl

pub gives_by : (asked : Asked) (told : List Told) (output : List ℕ) (ticked close : Bool) (stamp : Option ℕ) (stood : Stood) (text : List ℕ) (r : LegReply)
    → r.asked ≡ asked → output_of told ≡ output → is_ticked asked.kind told ≡ ticked → r.closes ≡ closes_of stood close
    → Writes asked told close stamp stood text r.stream → Gives asked output ticked close stamp stood text r
gives_by asked told output ticked close stamp stood text r asked_is output_is ticked_is closes_is writes =
    let same = next_is asked told output ticked close stamp stood text output_is ticked_is in
    record {
      knows = record {
        asked_is = asked_is;
        told = told;
        output_is = output_is;
        ticked_is = ticked_is;
        is_at = subst (λ (s : Stood). IsAt asked told s r.stream) same writes.is_at;
        closes_is =
            subst (λ (b : Bool). IsClosedBy b (next asked output ticked close stamp stood text)) (sym closes_is)
            (closed_next asked output ticked close stamp stood text);
      };
      quiet = subst (λ (s : Stood). IsQuiet s text) same writes.quiet;
    }

pub gives_piece : (asked : Asked) (output bytes : List ℕ) (ticked close : Bool) (stamp : Option ℕ) (stood : Stood) (text : List ℕ) (old new : LegReply)
    → (knows : KnowsReply old asked output ticked stood) → new.asked ≡ old.asked → new.closes ≡ closes_of stood close
    → Writes asked (knows.told ++ piece bytes ∷ []) close stamp stood text new.stream → Gives asked (output ++ bytes) ticked close stamp stood text new
gives_piece asked output bytes ticked close stamp stood text old new knows asked_is closes_is writes =
    gives_by asked (knows.told ++ piece bytes ∷ []) (output ++ bytes) ticked close stamp stood text new (asked_is ∙ knows.asked_is)
    (output-piece knows.told bytes ∙ ap (λ (l : List ℕ). l ++ bytes) knows.output_is)
    (ticked-piece asked.kind knows.told bytes ∙ knows.ticked_is) closes_is writes

tick_output : (told : List Told) (output : List ℕ) → output_of told ≡ output → output_of (told ++ tick ∷ []) ≡ output
tick_output told output is = output-tick told ∙ is

tick_ticked : (asked : Asked) (told : List Told) (output : List ℕ) (ticked : Bool) → output_of told ≡ output → is_ticked asked.kind told ≡ ticked
    → is_ticked asked.kind (told ++ tick ∷ []) ≡ (ticked || is_header_whole asked.kind output)
tick_ticked asked told output ticked output_is ticked_is =
    ticked-tick asked.kind told ∙ ap (λ (b : Bool). b || is_header_whole asked.kind (output_of told)) ticked_is
    ∙ ap (λ (l : List ℕ). ticked || is_header_whole asked.kind l) output_is

pub gives_tick : (asked : Asked) (output : List ℕ) (ticked close : Bool) (stamp : Option ℕ) (stood : Stood) (text : List ℕ) (old new : LegReply)
    → (knows : KnowsReply old asked output ticked stood) → new.asked ≡ old.asked → new.closes ≡ closes_of stood close
    → Writes asked (knows.told ++ tick ∷ []) close stamp stood text new.stream
    → Gives asked output (ticked || is_header_whole asked.kind output) close stamp stood text new
gives_tick asked output ticked close stamp stood text old new knows asked_is closes_is writes =
    gives_by asked (knows.told ++ tick ∷ []) output (ticked || is_header_whole asked.kind output) close stamp stood text new (asked_is ∙ knows.asked_is)
    (tick_output knows.told output knows.output_is) (tick_ticked asked knows.told output ticked knows.output_is knows.ticked_is) closes_is writes

pub tick_without : (asked : Asked) (told : List Told) (output : List ℕ) (ticked : Bool) (stood : Stood) → output_of told ≡ output → is_ticked asked.kind told ≡ ticked
    → NeedsAtTick asked told stood → MayTickWithout asked output ticked stood
tick_without asked told output ticked nothing output_is ticked_is needs =
    sym (due_is asked (told ++ tick ∷ []) output (ticked || is_header_whole asked.kind output) (tick_output told output output_is)
    (tick_ticked asked told output ticked output_is ticked_is))
    ∙ needs
tick_without asked told output ticked (begun close stamp bytes) output_is ticked_is needs = absurd needs

-- ---- the end

pub ends_by : (asked : Asked) (told : List Told) (output : List ℕ) (close : Bool) (stamp : Option ℕ) (stood : Stood) (last : Last) → output_of told ≡ output
    → IsLast asked told close stamp stood last → Ends asked output close stamp stood last
ends_by asked told output close stamp nothing last output_is is = subst (λ (l : List ℕ). IsLastOf (whole_way asked close stamp) (derived_of asked.kind l) last) output_is is
ends_by asked told output close stamp (begun close_then stamp_then before) last output_is is =
    subst (λ (l : List ℕ). IsRestOf (begun_way asked close_then stamp_then) (derived_of asked.kind l) before last) output_is is

pub end_without : (asked : Asked) (told : List Told) (output : List ℕ) (stood : Stood) → output_of told ≡ output → NeedsAtEnd asked told stood
    → MayEndWithout asked output stood
end_without asked told output nothing output_is needs = tt
end_without asked told output (begun close stamp bytes) output_is needs =
    subst (λ (l : List ℕ). MayEndWithout asked l (begun close stamp bytes)) output_is needs

-- ---- what a begun reply leaves

pub on_err : {A E P : Type 0} (result : Result A E) → P → OnErr result P
on_err (Ok value) is = tt
on_err (Err e) is = is

pub closes_begun : (stood : Stood) (closes closes_now : Bool) → is_begun stood ≡ true → IsClosedBy closes stood → closes ≡ closes_of stood closes_now
closes_begun nothing closes closes_now is closed = absurd (false≢true is)
closes_begun (begun close stamp bytes) closes closes_now is closed = closed

pub closes_unbegun : (stood : Stood) (closes_now : Bool) → is_begun stood ≡ false → closes_now ≡ closes_of stood closes_now
closes_unbegun nothing closes_now is = refl
closes_unbegun (begun close stamp bytes) closes_now is = absurd (false≢true (sym is))

pub fails_none : (asked : Asked) (cause : Cause) (closes : Bool) (now : Option ℕ) (stood : Stood) → is_begun stood ≡ true → Fails asked cause closes now stood None
fails_none asked cause closes now nothing is = absurd (false≢true is)
fails_none asked cause closes now (begun close stamp bytes) is = tt

pub fails_some : (asked : Asked) (cause : Cause) (closes : Bool) (now : Option ℕ) (stood : Stood) (text : List ℕ) → is_begun stood ≡ false
    → SpellsFault cause asked.head_only closes now text → Fails asked cause closes now stood (Some text)
fails_some asked cause closes now nothing text is spells = spells
fails_some asked cause closes now (begun close stamp bytes) text is spells = absurd (false≢true (sym is))
