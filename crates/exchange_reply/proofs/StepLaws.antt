-- What a reply hands out keeps the rules once it is written.
use Rattle.std.proofs.Common.{◌≡◌, ◌≤◌, ◌<◌, ◌^◌, ℕ, Bool, true, false, List, [], ◌∷◌, ◌++◌, length, drop, Option, refl, sym, ap, ◌∙◌, subst, append_assoc, append-nil}
use Rattle.std.specs.Prelude.{◌&&◌, ◌||◌, nat_eq, if◌then◌else◌, unwrap_or}
use Rattle.std.specs.List.{starts_with}
use Rattle.std.proofs.Math.Seq.{drop-append_seam}
use Rattle.std.proofs.lemmas.Bool.{false≢true}
use Rattle.host_base.specs.declared.site.Site.{Site}
use Rattle.host_trace.specs.declared.items.Act.TheVariants.{Write}
use Rattle.host_trace.specs.declared.items.Item.{Item}
use Rattle.host_trace.specs.declared.items.Item.TheVariants.{Out}
use Rattle.host_trace.specs.First.{first_front}
use Rattle.host_trace.specs.Kinds.{bytes_written}
use Rattle.host_trace.specs.Projections.{child_out, last_secs}
use Rattle.host_trace.proofs.FirstLaws.{first_front-push, or_else-some}
use Rattle.host_trace.proofs.ProjectionLaws.{child_out-push, client_out-push}
use Rattle.reply_kinds.specs.declared.derived.Derived.{Derived}
use Rattle.reply_kinds.specs.declared.derived.Derived.TheVariants as Output
use Rattle.reply_kinds.specs.Derived.{derived_of}
use Rattle.reply_writer.specs.FaultReply.{fault_reply_of}
use Rattle.reply_writer.specs.WholeReply.{Spells, Way}
use Rattle.reply_writer.specs.WholeRules.{known_way}
use Rattle.reply_writer.proofs.FrontLaws.{front_is, front_stands}
use Rattle.reply_stream.specs.declared.asked.Asked.{Asked}
use Rattle.reply_stream.specs.declared.stream.Last.TheVariants as Ended
use Rattle.reply_stream.specs.Writing.{Stood, nothing, begun, begun_way, whole_way, IsLastOf, IsQuiet}
use Rattle.trace_child.specs.Words.{is_filled}
use Rattle.trace_model.specs.Answer.{running, faulted, answer, answer_at, answer_of_output, is_undecided, stage}
use Rattle.trace_model.specs.Closes.{closes_now, fault_way, is_first_byte, version_by, way, way_now}
use Rattle.trace_model.specs.Exchange.{Exchange, all_of, continue_part, final, has_final, pushed, reading, up_to, written}
use Rattle.trace_model.specs.Legs.{Leg}
use Rattle.trace_model.specs.ModelLaws.{BeginsAt, IsHeaded}
use Rattle.trace_model.specs.Readings.{headed, is_bare}
use Rattle.trace_model.specs.Standing.{is_whole_final, may_be_final}
use Rattle.trace_model.proofs.FirstByteLaws.{begins-push, continue_part-push, way-push}
use Rattle.exchange_reply.specs.Leg.{IsFixed, IsMadeFor, has_ticked}
use Rattle.exchange_reply.specs.LegRules.{EndsWell, GoesOnWell}
use Rattle.exchange_reply.specs.Standings.{Stands, bytes_of, is_due}
use Rattle.exchange_reply.specs.StepRules.{EndingsStand, Extends, FaultsFinish, Finishes, HandingsKeepRules, HandingsStand, HandsOn, IsBegunAt, ItemsLeave, LeftsMayStand, TextsExtend, is_continued, next_at, wrote}
use Rattle.exchange_reply.proofs.AgreementLaws.{ends_conclude, standings_are_cuts}
use Rattle.exchange_reply.proofs.FirstByteLaws.{writes_are_of_answers, writes_begin}
use Rattle.exchange_reply.proofs.LegLaws.{faults_end, items_are_told, replies_are_left, replies_end, replies_go_on, ways_begin, ways_end}

-- ---- a text

empty_of : {X : Type 0} (items : List X) → is_filled items ≡ false → items ≡ []
empty_of [] none = refl
empty_of (x ∷ items) none = absurd (false≢true (sym none))

or_none : (b : Bool) → (b || false) ≡ b
or_none true = refl
or_none false = refl

begins_front : (site : Site) (c : ℕ) (e : Exchange) (front : List Item) → BeginsAt site c e front → way site c e ≡ way_now site c (up_to e front)
begins_front site c e front at = ap (λ (o : Option (List Item)). way_now site c (up_to e (unwrap_or o e.items))) at

module _ (site : Site) (c : ℕ) (e : Exchange) where
  parts_of : is_continued site c e ≡ true → written c e ≡ continue_part site c e ++ final site c e
  parts_of continued = front_is (written c e) (continue_part site c e) continued

  -- bytes more after what was written, where 100 Continue is the same
  longer_continued : (more : List ℕ) (d : Exchange) → continue_part site c d ≡ continue_part site c e → written c d ≡ written c e ++ more
      → is_continued site c e ≡ true → is_continued site c d ≡ true
  longer_continued more d same wrote_then continued =
      let all : written c d ≡ continue_part site c d ++ (final site c e ++ more) =
      wrote_then ∙ ap (λ (l : List ℕ). l ++ more) (parts_of continued) ∙ append_assoc (continue_part site c e) (final site c e) more
      ∙ ap (λ (l : List ℕ). l ++ (final site c e ++ more)) (sym same) in
      ap (λ (l : List ℕ). starts_with nat_eq l (continue_part site c d)) all ∙ front_stands (continue_part site c d) (final site c e ++ more)

  longer_final : (more : List ℕ) (d : Exchange) → continue_part site c d ≡ continue_part site c e → written c d ≡ written c e ++ more
      → is_continued site c e ≡ true → final site c d ≡ final site c e ++ more
  longer_final more d same wrote_then continued =
      ap (λ (l : List ℕ). drop (length l) (written c d)) same
      ∙ ap (drop (length (continue_part site c e)))
      (wrote_then ∙ ap (λ (l : List ℕ). l ++ more) (parts_of continued) ∙ append_assoc (continue_part site c e) (final site c e) more)
      ∙ drop-append_seam (continue_part site c e) (final site c e ++ more)

  unbegun_wrote : is_continued site c e ≡ true → has_final site c e ≡ false → written c e ≡ continue_part site c e
  unbegun_wrote continued none =
      parts_of continued ∙ ap (λ (l : List ℕ). continue_part site c e ++ l) (empty_of (final site c e) none) ∙ append-nil (continue_part site c e)

-- nothing is written
nothing_extends : (site : Site) (c : ℕ) (e : Exchange) → Extends site c e []
nothing_extends site c e = record {
  stage_then = refl;
  reading_then = refl;
  continued_then = λ continued. continued;
  final_then = λ continued. sym (append-nil (final site c e));
  output_then = λ k. refl;
  ticked_then = λ leg. refl;
  first = λ continued none some. absurd (false≢true some);
  later = λ front at. (at, refl);
}

-- some bytes are
module _ (site : Site) (c : ℕ) (e : Exchange) (byte : ℕ) (bytes : List ℕ) where
  later_begins : (front : List Item) → BeginsAt site c e front → BeginsAt site c (pushed e (Out (Write c (byte ∷ bytes)))) front
  later_begins front at =
      ap (λ (l : List ℕ). first_front (is_first_byte c (length l)) (e.items ++ Out (Write c (byte ∷ bytes)) ∷ []))
      (writes_are_of_answers site c e (byte ∷ bytes)).continue_then
      ∙ first_front-push (is_first_byte c (length (continue_part site c e))) e.items (Out (Write c (byte ∷ bytes)))
      ∙ or_else-some _ _ front at

  some_extends : Extends site c e (byte ∷ bytes)
  some_extends =
      record {
        stage_then = (writes_are_of_answers site c e (byte ∷ bytes)).stage_then;
        reading_then = (writes_are_of_answers site c e (byte ∷ bytes)).reading_then;
        continued_then = λ continued.
            longer_continued site c e (byte ∷ bytes) (pushed e (Out (Write c (byte ∷ bytes))))
            (writes_are_of_answers site c e (byte ∷ bytes)).continue_then (writes_are_of_answers site c e (byte ∷ bytes)).written_then continued;
        final_then = λ continued.
            longer_final site c e (byte ∷ bytes) (pushed e (Out (Write c (byte ∷ bytes))))
            (writes_are_of_answers site c e (byte ∷ bytes)).continue_then (writes_are_of_answers site c e (byte ∷ bytes)).written_then continued;
        output_then = λ k. child_out-push e.items (Out (Write c (byte ∷ bytes))) k ∙ append-nil (child_out e.items k);
        ticked_then = λ leg. (items_are_told e leg (Out (Write c (byte ∷ bytes)))).ticked ∙ or_none (has_ticked e leg);
        first = λ continued none some.
            let at = writes_begin site c e (byte ∷ bytes) (unbegun_wrote site c e continued none) refl in (
              at,
              begins_front site c (pushed e (Out (Write c (byte ∷ bytes)))) (pushed e (Out (Write c (byte ∷ bytes)))).items at
                  ∙ (writes_are_of_answers site c e (byte ∷ bytes)).way_now_then,
            );
        later = λ front at. (
          later_begins front at,
          begins_front site c (pushed e (Out (Write c (byte ∷ bytes)))) front (later_begins front at)
              ∙ sym (begins_front site c e front at),
        );
      }

pub texts_extend : TextsExtend
texts_extend site c e [] = nothing_extends site c e
texts_extend site c e (byte ∷ bytes) = some_extends site c e byte bytes

-- ---- an item by which nothing is written

module _ (site : Site) (c : ℕ) (e : Exchange) (x : Item) (two : 2 ≤ site.limits.head) (head : IsHeaded (reading site c e)) (unwritten : bytes_written c x ≡ []) where
  wrote_none : written c (pushed e x) ≡ written c e ++ []
  wrote_none = client_out-push e.items x c ∙ ap (λ (l : List ℕ). written c e ++ l) unwritten

  same_final : final site c (pushed e x) ≡ final site c e
  same_final =
      ap (λ (l : List ℕ). drop (length l) (written c (pushed e x))) (continue_part-push site c e x two head)
      ∙ ap (drop (length (continue_part site c e))) (wrote_none ∙ append-nil (written c e))

  same_fixed : (asked : Asked) (stood : Stood) → IsFixed site c e asked stood → IsBegunAt site c e stood → IsFixed site c (pushed e x) asked stood
  same_fixed asked nothing fixed at = tt
  same_fixed asked (begun close stamp bytes) fixed at = way-push site c e x at.0 two head at.1 ∙ fixed

  same_begun : (stood : Stood) → IsBegunAt site c e stood → IsBegunAt site c (pushed e x) stood
  same_begun nothing at = tt
  same_begun (begun close stamp bytes) at = (at.0, begins-push site c e x at.0 two head at.1)

pub items_leave : ItemsLeave
items_leave site c e x asked stood two head unwritten = record {
  continued_then = λ continued.
      longer_continued site c e [] (pushed e x) (continue_part-push site c e x two head) (wrote_none site c e x two head unwritten) continued;
  final_then = same_final site c e x two head unwritten;
  fixed_then = same_fixed site c e x two head unwritten asked stood;
  begun_then = same_begun site c e x two head unwritten stood;
}

-- ---- what a reply hands out

made_then : (site : Site) (c : ℕ) (e : Exchange) (leg : Leg) (asked : Asked) (text : List ℕ) → IsMadeFor site c e leg asked
    → IsMadeFor site c (wrote c e text) leg asked
made_then site c e leg asked text made =
    let reading_then = (texts_extend site c e text).reading_then in
    record {
      kind = made.kind;
      version = ap (λ r. version_by (headed r)) reading_then ∙ made.version;
      head_only = ap is_bare reading_then ∙ made.head_only;
    }

module _ (site : Site) (c : ℕ) (e : Exchange) (leg : Leg) (asked : Asked) (text : List ℕ) (at : stage site c e ≡ running leg)
    (made : IsMadeFor site c e leg asked) (continued : is_continued site c e ≡ true) (short : length (child_out e.items leg.child) < 2 ^ 64) where
  hands_on : (stood : Stood) → final site c (wrote c e text) ≡ bytes_of stood → IsFixed site c (wrote c e text) asked stood
      → IsBegunAt site c (wrote c e text) stood → Stands asked (child_out e.items leg.child) (has_ticked e leg) stood
      → HandsOn site c (wrote c e text) leg asked stood
  hands_on stood final_is fixed begun_at stands =
      record {
        at = (texts_extend site c e text).stage_then ∙ at;
        written_by = record {
          made = made_then site c e leg asked text made;
          continued = (texts_extend site c e text).continued_then continued;
          final_is = final_is;
          fixed = fixed;
          begun_at = begun_at;
        };
        reply = record {
          kind = made.kind;
          final_is = final_is;
          fixed = fixed;
          stands =
              subst (λ (l : List ℕ). Stands asked l (has_ticked (wrote c e text) leg) stood) (sym ((texts_extend site c e text).output_then leg.child))
              (subst (λ (b : Bool). Stands asked (child_out e.items leg.child) b stood) (sym ((texts_extend site c e text).ticked_then leg)) stands);
          short = subst (λ (l : List ℕ). length l < 2 ^ 64) (sym ((texts_extend site c e text).output_then leg.child)) short;
        };
      }

  -- nothing stood, by what stands next
  hands_first : final site c e ≡ [] → (stood : Stood) → bytes_of stood ≡ text → (stood ≡ nothing → text ≡ [])
      → ((close : Bool) (stamp : Option ℕ) (bytes : List ℕ) → stood ≡ begun close stamp bytes → begun_way asked close stamp ≡ way_now site c e)
      → Stands asked (child_out e.items leg.child) (has_ticked e leg) stood → HandsOn site c (wrote c e text) leg asked stood
  hands_first none nothing same quiet fixes stands =
      let final_is : final site c (wrote c e text) ≡ [] =
      (texts_extend site c e text).final_then continued ∙ ap (λ (l : List ℕ). l ++ text) none ∙ sym same in
      hands_on nothing final_is tt tt stands
  hands_first none (begun close stamp bytes) same quiet fixes stands =
      let full = standings_are_cuts asked (child_out e.items leg.child) (has_ticked e leg) close stamp bytes short stands in
      let some : is_filled text ≡ true = ap is_filled (sym same) ∙ full.some in
      let unbegun : has_final site c e ≡ false = ap is_filled none in
      let first = (texts_extend site c e text).first continued unbegun some in
      hands_on (begun close stamp bytes)
      ((texts_extend site c e text).final_then continued ∙ ap (λ (l : List ℕ). l ++ text) none ∙ sym same)
      (first.1 ∙ sym (fixes close stamp bytes refl))
      ((wrote c e text).items, first.0)
      stands

first_bytes_of : (asked : Asked) (output : List ℕ) (ticked close : Bool) (stamp : Option ℕ) (text : List ℕ) (b : Bool)
    → IsQuiet (if b then begun close stamp text else nothing) text → bytes_of (if b then begun close stamp text else nothing) ≡ text
first_bytes_of asked output ticked close stamp text true quiet = refl
first_bytes_of asked output ticked close stamp text false quiet = sym quiet

first_quiet : (close : Bool) (stamp : Option ℕ) (text : List ℕ) (b : Bool) → IsQuiet (if b then begun close stamp text else nothing) text
    → (if b then begun close stamp text else nothing) ≡ nothing → text ≡ []
first_quiet close stamp text true quiet is = absurd (cc)
first_quiet close stamp text false quiet is = quiet

first_way : (asked : Asked) (close : Bool) (stamp : Option ℕ) (text : List ℕ) (b : Bool) (close_then : Bool) (stamp_then : Option ℕ) (bytes : List ℕ)
    → (if b then begun close stamp text else nothing) ≡ begun close_then stamp_then bytes → begun_way asked close_then stamp_then ≡ begun_way asked close stamp
first_way asked close stamp text false close_then stamp_then bytes is = absurd (cc)
first_way asked close stamp text true close_then stamp_then bytes is =
    let closes : close ≡ close_then = cc in
    let stamps : stamp ≡ stamp_then = cc in
    λ i. begun_way asked (sym closes i) (sym stamps i)

pub handings_stand : HandingsStand
handings_stand site c e leg asked nothing text at by short stands quiet =
    hands_first site c e leg asked text at by.made by.continued short by.final_is
    (next_at site c e leg asked nothing text)
    (first_bytes_of asked (child_out e.items leg.child) (has_ticked e leg) (closes_now site c e) (last_secs (all_of e)) text
    (is_due asked.kind (child_out e.items leg.child) (has_ticked e leg)) quiet)
    (first_quiet (closes_now site c e) (last_secs (all_of e)) text (is_due asked.kind (child_out e.items leg.child) (has_ticked e leg)) quiet)
    (λ close stamp bytes is.
    first_way asked (closes_now site c e) (last_secs (all_of e)) text (is_due asked.kind (child_out e.items leg.child) (has_ticked e leg)) close stamp bytes is
    ∙ sym (ways_begin site c e leg asked by.made at))
    stands
handings_stand site c e leg asked (begun close stamp before) text at by short stands quiet =
    let later = (texts_extend site c e text).later by.begun_at.0 by.begun_at.1 in
    hands_on site c e leg asked text at by.made by.continued short (begun close stamp (before ++ text))
    ((texts_extend site c e text).final_then by.continued ∙ ap (λ (l : List ℕ). l ++ text) by.final_is)
    (later.1 ∙ by.fixed)
    (by.begun_at.0, later.0)
    stands

-- ---- the end

both : (a b : Bool) → a ≡ true → b ≡ true → (a && b) ≡ true
both true b left right = right
both false b left right = absurd (false≢true left)

neither : (a b : Bool) → b ≡ false → (a && b) ≡ false
neither true b right = right
neither false b right = refl

finishes : (site : Site) (c : ℕ) (e : Exchange) (before text : List ℕ) → is_continued site c e ≡ true → final site c e ≡ before
    → EndsWell site c (wrote c e text) before text → (is_filled text ≡ true → is_whole_final site c e before ≡ false) → Finishes site c e text
finishes site c e before text continued is well no_sooner =
    let extends = texts_extend site c e text in
    let final_is : final site c (wrote c e text) ≡ before ++ text = extends.final_then continued ∙ ap (λ (l : List ℕ). l ++ text) is in
    record {
      whole =
          both (is_continued site c (wrote c e text)) (is_whole_final site c (wrote c e text) (final site c (wrote c e text)))
          (extends.continued_then continued) (ap (is_whole_final site c (wrote c e text)) final_is ∙ well.whole);
      may =
          both (is_continued site c (wrote c e text)) (may_be_final site c (wrote c e text) (final site c (wrote c e text)))
          (extends.continued_then continued) (ap (may_be_final site c (wrote c e text)) final_is ∙ well.may);
      no_sooner = λ some.
          neither (is_continued site c e) (is_whole_final site c e (final site c e)) (ap (is_whole_final site c e) is ∙ no_sooner some);
    }

pub handings_keep_rules : HandingsKeepRules
handings_keep_rules site c e leg asked stood on =
    let well : GoesOnWell site c e = replies_go_on site c e leg asked stood on.at on.reply in
    record {
      may = both (is_continued site c e) (may_be_final site c e (final site c e)) on.written_by.continued well.may;
      streams = well.streams;
      unended = neither (is_continued site c e) (is_whole_final site c e (final site c e)) well.unended;
    }

pub lefts_may_stand : LeftsMayStand
lefts_may_stand site c e leg asked cause ticked close stamp bytes output more at by grown small stands =
    both (is_continued site c e) (may_be_final site c e (final site c e)) by.continued
    (ap (may_be_final site c e) by.final_is
    ∙ replies_are_left site c e leg asked cause ticked close stamp bytes output more at by.made.kind by.fixed grown small stands)

written_decided : (way : Way) (d : Derived) (text : List ℕ) → IsLastOf way d (Ended.Written text) → is_undecided (answer_of_output d) ≡ false
written_decided way (Output.Reply reply) text is = refl
written_decided way (Output.Raw output) text is = refl
written_decided way (Output.Hop location) text is = absurd is
written_decided way (Output.Bad cause) text is = absurd is

pub endings_stand : EndingsStand
endings_stand site c e leg asked output ticked nothing text at by short stands ends =
    let done = ends_conclude asked output ticked (closes_now site c e) (last_secs (all_of e)) nothing (Ended.Written text) short stands ends in
    let decided : is_undecided (answer site c e) ≡ false =
    ap (λ s. is_undecided (answer_at s)) at ∙ written_decided (whole_way asked (closes_now site c e) (last_secs (all_of e))) (derived_of asked.kind output) text ends in
    let first = (texts_extend site c e text).first by.continued (ap is_filled by.final_is) done.some in
    let fixed : way site c (wrote c e text) ≡ whole_way asked (closes_now site c e) (last_secs (all_of e)) =
    first.1 ∙ ways_end site c e leg asked by.made decided in
    finishes site c e [] text by.continued by.final_is
    (replies_end site c (wrote c e text) leg asked output ticked (closes_now site c e) (last_secs (all_of e)) nothing text
    ((texts_extend site c e text).stage_then ∙ at) fixed short stands ends)
    (λ some. refl)
endings_stand site c e leg asked output ticked (begun close stamp before) text at by short stands ends =
    let later = (texts_extend site c e text).later by.begun_at.0 by.begun_at.1 in
    let now = replies_end site c e leg asked output ticked (closes_now site c e) (last_secs (all_of e)) (begun close stamp before) text at by.fixed short stands ends in
    finishes site c e before text by.continued by.final_is
    (replies_end site c (wrote c e text) leg asked output ticked (closes_now site c e) (last_secs (all_of e)) (begun close stamp before) text
    ((texts_extend site c e text).stage_then ∙ at) (later.1 ∙ by.fixed) short stands ends)
    now.no_sooner

pub faults_finish : FaultsFinish
faults_finish site c e cause text is continued none spells =
    let some : is_filled text ≡ true =
    subst (λ (l : List ℕ). is_filled l ≡ true) (sym (spells (version_by (headed (reading site c e)))).text) refl in
    let first = (texts_extend site c e text).first continued none some in
    let fault : fault_way site c (wrote c e text)
    ≡ known_way (version_by (headed (reading site c e))) (is_bare (reading site c e)) (closes_now site c e) (last_secs (all_of e)) =
    ap (λ (w : Way). record w { known = true }) first.1 in
    let then_is : answer site c (wrote c e text) ≡ faulted cause = ap answer_at (texts_extend site c e text).stage_then ∙ is in
    finishes site c e [] text continued (empty_of (final site c e) none)
    (faults_end site c (wrote c e text) cause text then_is
    (subst (λ (w : Way). Spells text w (fault_reply_of cause)) (sym fault) (spells (version_by (headed (reading site c e))))))
    (λ more. refl)
