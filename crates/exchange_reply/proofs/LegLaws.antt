-- The rules on the answer of an exchange hold where the reply of its leg writes it.
use Rattle.std.proofs.Common.{◌≡◌, ℕ, Bool, true, false, List, [], ◌∷◌, ◌++◌, Option, Some, None, refl, sym, ap, ◌∙◌, subst}
use Rattle.std.specs.Prelude.{◌&&◌, ◌||◌, not, is_some, bytes_eq, codes, if◌then◌else◌}
use Rattle.std.proofs.Math.Bool.{and-false}
use Rattle.std.proofs.lemmas.Bool.{false≢true}
use Rattle.host_base.specs.declared.site.Site.{Site}
use Rattle.host_trace.specs.First.{first_front, or_else}
use Rattle.host_trace.specs.Projections.{child_out, last_secs}
use Rattle.host_trace.proofs.FirstLaws.{first_front-push}
use Rattle.host_trace.proofs.ProjectionLaws.{child_out-push}
use Rattle.reply_kinds.specs.declared.derived.Derived.{Derived}
use Rattle.reply_kinds.specs.declared.derived.Derived.TheVariants as Output
use Rattle.reply_kinds.specs.Derived.{derived_of}
use Rattle.reply_writer.specs.WholeReply.{Way}
use Rattle.reply_stream.specs.declared.asked.Asked.{Asked}
use Rattle.reply_stream.specs.declared.stream.Last.TheVariants as Ended
use Rattle.reply_stream.specs.Writing.{nothing, begun, begun_way}
use Rattle.trace_child.specs.Words.{implies, is_filled}
use Rattle.trace_model.specs.Answer.{running, Answer, replied, given_raw, faulted, talking, cut_off, no_answer, undecided, answer, answer_at, answer_of_failure, answer_of_output, is_undecided, stage}
use Rattle.trace_model.specs.Closes.{as_begun, closes_now, is_by_nph, is_closing_fault, is_nph, persists_by, way}
use Rattle.trace_model.specs.Demands.{is_live, is_tick_after_header, is_to_stream, must_stream}
use Rattle.trace_model.specs.Exchange.{Exchange, all_of, final, has_final, reading}
use Rattle.trace_model.specs.Legs.{Leg}
use Rattle.trace_model.specs.Readings.{headed, is_whole}
use Rattle.trace_model.specs.Standing.{begun_of, is_cut, is_cut_of, is_left_standing, is_whole_final, may_be_final, may_follow, part_of, spells_answer}
use Rattle.trace_model.specs.Streams.{is_same_part, is_streamed_by, is_undecided_at, part_due}
use Rattle.exchange_reply.specs.Agreement.{Completes, IsFullCut}
use Rattle.exchange_reply.specs.Leg.{has_ticked}
use Rattle.exchange_reply.specs.LegRules.{ClosesAreOfLegs, DuesAreDemanded, EndsWell, FaultsEnd, FirstBytesAreDue, GoesOnWell, HopsAskAlike, ItemsAreTold, RepliesAreLeft, RepliesEnd, RepliesGoOn, WaysBegin, WaysEnd, closes_by}
use Rattle.exchange_reply.specs.Standings.{bytes_of, is_cut_by, is_due, part_by, so_far, spells_by, way_of}
use Rattle.exchange_reply.proofs.AgreementLaws.{bytes_same, cuts_stay, ends_conclude, faults_are_spelled, standings_are_cuts}

-- ---- the model's words are those by the way

part_same : (site : Site) (c : ℕ) (e : Exchange) (bytes : List ℕ) (derived : Option Derived) → part_of site c e bytes derived ≡ part_by (way site c e) bytes derived
part_same site c e bytes None = refl
part_same site c e bytes (Some (Output.Reply reply)) = refl
part_same site c e bytes (Some _) = refl

cut_same : (site : Site) (c : ℕ) (e : Exchange) (bytes : List ℕ) (derived : Option Derived) → is_cut_of site c e bytes derived ≡ is_cut_by (way site c e) bytes derived
cut_same site c e bytes None = refl
cut_same site c e bytes (Some (Output.Reply reply)) = refl
cut_same site c e bytes (Some _) = refl

spells_same : (site : Site) (c : ℕ) (e : Exchange) (bytes : List ℕ) (d : Derived) → spells_answer site c e bytes (answer_of_output d) ≡ spells_by (way site c e) bytes d
spells_same site c e bytes (Output.Reply reply) = refl
spells_same site c e bytes _ = refl

module _ (site : Site) (c : ℕ) (e : Exchange) where
  may_from : (bytes : List ℕ) → (is_filled bytes ≡ true → may_follow site c e bytes (answer site c e) ≡ true) → may_be_final site c e bytes ≡ true
  may_from [] follows = refl
  may_from (byte ∷ bytes) follows = follows refl

  whole_from : (bytes : List ℕ) → is_filled bytes ≡ true → spells_answer site c e bytes (answer site c e) ≡ true → is_whole_final site c e bytes ≡ true
  whole_from [] some is = absurd (false≢true some)
  whole_from (byte ∷ bytes) some is = is

  not_whole_from : (bytes : List ℕ) → (is_filled bytes ≡ true → spells_answer site c e bytes (answer site c e) ≡ false) → is_whole_final site c e bytes ≡ false
  not_whole_from [] is = refl
  not_whole_from (byte ∷ bytes) is = is refl

  may_spelled : (bytes : List ℕ) (a : Answer) → spells_answer site c e bytes a ≡ true → may_follow site c e bytes a ≡ true
  may_spelled bytes (replied reply) is = is
  may_spelled bytes (given_raw output) is = is
  may_spelled bytes (faulted cause) is = is
  may_spelled bytes (talking value) is = absurd (false≢true is)
  may_spelled bytes (cut_off cause) is = absurd (false≢true is)
  may_spelled bytes no_answer is = absurd (false≢true is)
  may_spelled bytes undecided is = absurd (false≢true is)

-- ---- while the run goes on

implied_false : (a b : Bool) → a ≡ false → implies a b ≡ true
implied_false true b is = absurd (false≢true (sym is))
implied_false false b is = refl

implied_true : (a b : Bool) → b ≡ true → implies a b ≡ true
implied_true true b is = is
implied_true false b is = refl

both : (a b : Bool) → a ≡ true → b ≡ true → (a && b) ≡ true
both true b left right = right
both false b left right = absurd (false≢true left)

pub dues_are_demanded : DuesAreDemanded
dues_are_demanded e leg = refl

kind_due : (leg : Leg) (asked : Asked) (output : List ℕ) (ticked : Bool) → leg.kind ≡ asked.kind → is_due asked.kind output ticked ≡ is_due leg.kind output ticked
kind_due leg asked output ticked kind = ap (λ k. is_due k output ticked) (sym kind)

module _ (site : Site) (c : ℕ) (e : Exchange) (leg : Leg) (asked : Asked) (at : stage site c e ≡ running leg) (kind : leg.kind ≡ asked.kind) where
  open_yet : answer site c e ≡ undecided
  open_yet = ap answer_at at

  begun_is : begun_of e (stage site c e) ≡ so_far asked.kind (child_out e.items leg.child)
  begun_is = ap (begun_of e) at ∙ ap (λ k. so_far k (child_out e.items leg.child)) kind

  unbegun_well : final site c e ≡ [] → is_due asked.kind (child_out e.items leg.child) (has_ticked e leg) ≡ false → GoesOnWell site c e
  unbegun_well none not_due =
      let to_stream : is_to_stream e (stage site c e) ≡ false =
      ap (is_to_stream e) at ∙ sym (kind_due leg asked (child_out e.items leg.child) (has_ticked e leg) kind) ∙ not_due in
      record {
        may = ap (may_be_final site c e) none;
        streams =
            implied_false (must_stream site c e) (is_streamed_by site c e (begun_of e (stage site c e)))
            (ap (λ (b : Bool). is_live c (all_of e) && b) to_stream ∙ and-false (is_live c (all_of e)));
        unended = ap (is_whole_final site c e) none;
      }

  begun_well : (w : Way) (bytes : List ℕ) → final site c e ≡ bytes → way site c e ≡ w → IsFullCut w bytes (so_far asked.kind (child_out e.items leg.child))
      → GoesOnWell site c e
  begun_well w bytes is fixed full =
      let cut : is_cut site c e (final site c e) ≡ true =
      ap (is_cut_of site c e (final site c e)) begun_is
      ∙ cut_same site c e (final site c e) (so_far asked.kind (child_out e.items leg.child))
      ∙ ap (λ (l : List ℕ). is_cut_by (way site c e) l (so_far asked.kind (child_out e.items leg.child))) is
      ∙ ap (λ (v : Way). is_cut_by v bytes (so_far asked.kind (child_out e.items leg.child))) fixed
      ∙ full.cut in
      let all : is_same_part (part_of site c e (final site c e) (begun_of e (stage site c e))) (part_due (way site c e) (begun_of e (stage site c e))) ≡ true =
      ap (λ (o : Option Derived). is_same_part (part_of site c e (final site c e) o) (part_due (way site c e) o)) begun_is
      ∙ ap (λ (p : Option (List ℕ)). is_same_part p (part_due (way site c e) (so_far asked.kind (child_out e.items leg.child))))
      (part_same site c e (final site c e) (so_far asked.kind (child_out e.items leg.child)))
      ∙ ap (λ (l : List ℕ). is_same_part (part_by (way site c e) l (so_far asked.kind (child_out e.items leg.child))) (part_due (way site c e) (so_far asked.kind (child_out e.items leg.child)))) is
      ∙ ap (λ (v : Way). is_same_part (part_by v bytes (so_far asked.kind (child_out e.items leg.child))) (part_due v (so_far asked.kind (child_out e.items leg.child)))) fixed
      ∙ full.all in
      record {
        may =
            may_from site c e (final site c e)
            (λ some. ap (may_follow site c e (final site c e)) open_yet ∙ cut);
        streams =
            implied_true (must_stream site c e) (is_streamed_by site c e (begun_of e (stage site c e)))
            (both (has_final site c e) _ (ap is_filled is ∙ full.some) all);
        unended =
            not_whole_from site c e (final site c e)
            (λ some. ap (spells_answer site c e (final site c e)) open_yet);
      }

pub replies_go_on : RepliesGoOn
replies_go_on site c e leg asked nothing at is = unbegun_well site c e leg asked at is.kind is.final_is is.stands
replies_go_on site c e leg asked (begun close stamp bytes) at is =
    begun_well site c e leg asked at is.kind (begun_way asked close stamp) bytes is.final_is is.fixed
    (standings_are_cuts asked (child_out e.items leg.child) (has_ticked e leg) close stamp bytes is.short is.stands)

some_or : {A : Type 0} (first : Option A) (found : A) (b : Bool) → is_some (or_else first (if b then Some found else None)) ≡ (is_some first || b)
some_or (Some x) found b = refl
some_or None found true = refl
some_or None found false = refl

pub items_are_told : ItemsAreTold
items_are_told e leg x = record {
  output = child_out-push e.items x leg.child;
  ticked =
      ap is_some (first_front-push (is_tick_after_header leg) e.items x)
      ∙ some_or (first_front (is_tick_after_header leg) e.items) (e.items ++ x ∷ []) (is_tick_after_header leg e.items x);
}

pub first_bytes_are_due : FirstBytesAreDue
first_bytes_are_due site c e leg at due =
    implied_true (is_undecided_at site c (as_begun site c e)) (is_to_stream (as_begun site c e) (stage site c (as_begun site c e)))
    (ap (is_to_stream (as_begun site c e)) at ∙ due)

-- ---- once it is decided

pub replies_are_left : RepliesAreLeft
replies_are_left site c e leg asked cause ticked close stamp bytes output more at kind fixed grown small stands =
    let full = standings_are_cuts asked output ticked close stamp bytes small stands in
    let cut_off_is : answer site c e ≡ cut_off cause =
    ap answer_at at ∙ ap (answer_of_failure cause) full.some in
    let begun_is : begun_of e (stage site c e) ≡ so_far asked.kind (output ++ more) =
    ap (begun_of e) at ∙ ap (λ k. so_far k (child_out e.items leg.child)) kind ∙ ap (so_far asked.kind) grown in
    let cut : is_cut site c e bytes ≡ true =
    ap (is_cut_of site c e bytes) begun_is
    ∙ cut_same site c e bytes (so_far asked.kind (output ++ more))
    ∙ ap (λ (v : Way). is_cut_by v bytes (so_far asked.kind (output ++ more))) fixed
    ∙ cuts_stay asked output more ticked close stamp bytes small stands in
    let left : is_left_standing bytes (stage site c e) ≡ true = ap (is_left_standing bytes) at ∙ bytes_same bytes in
    may_from site c e bytes (λ some. ap (may_follow site c e bytes) cut_off_is ∙ both (is_left_standing bytes (stage site c e)) (is_cut site c e bytes) left cut)

completed_well : (site : Site) (c : ℕ) (e : Exchange) (w : Way) (d : Derived) (before text : List ℕ) → answer site c e ≡ answer_of_output d → way site c e ≡ w
    → Completes w d before text → EndsWell site c e before text
completed_well site c e w d before text is fixed done =
    let spelled : (bytes : List ℕ) → spells_answer site c e bytes (answer site c e) ≡ spells_by w bytes d =
    λ bytes. ap (spells_answer site c e bytes) is ∙ spells_same site c e bytes d ∙ ap (λ (v : Way). spells_by v bytes d) fixed in
    record {
      whole = whole_from site c e (before ++ text) done.some (spelled (before ++ text) ∙ done.whole);
      may = may_from site c e (before ++ text) (λ some. may_spelled site c e (before ++ text) (answer site c e) (spelled (before ++ text) ∙ done.whole));
      no_sooner = λ more. not_whole_from site c e before (λ some. spelled before ∙ done.no_sooner some more);
    }

pub replies_end : RepliesEnd
replies_end site c e leg asked output ticked close stamp stood text at fixed small stands ends =
    completed_well site c e (way_of asked close stamp stood) (derived_of asked.kind output) (bytes_of stood) text (ap answer_at at) fixed
    (ends_conclude asked output ticked close stamp stood (Ended.Written text) small stands ends)

pub faults_end : FaultsEnd
faults_end site c e cause text is spells =
    let spelled : spells_answer site c e text (answer site c e) ≡ true = ap (spells_answer site c e text) is ∙ faults_are_spelled text (way site c e) cause spells in
    let some : is_filled text ≡ true = subst (λ (l : List ℕ). is_filled l ≡ true) (sym spells.text) refl in
    record {
      whole = whole_from site c e text some spelled;
      may = may_from site c e text (λ more. may_spelled site c e text (answer site c e) spelled);
      no_sooner = λ more. refl;
    }

-- ---- the way

pub ways_begin : WaysBegin
ways_begin site c e leg asked made at =
    let known : not (is_undecided (answer site c e)) ≡ false = ap (λ a. not (is_undecided a)) (ap answer_at at) in
    λ i. record {
      version = made.version i;
      head_only = made.head_only i;
      close = closes_now site c e;
      stamp = last_secs (all_of e);
      known = known i;
    }

pub ways_end : WaysEnd
ways_end site c e leg asked made decided =
    let known : not (is_undecided (answer site c e)) ≡ true = ap not decided in
    λ i. record {
      version = made.version i;
      head_only = made.head_only i;
      close = closes_now site c e;
      stamp = last_secs (all_of e);
      known = known i;
    }

head_kept : (is_head : Bool) → bytes_eq (if is_head then codes "HEAD" else codes "GET") (codes "HEAD") ≡ is_head
head_kept true = refl
head_kept false = refl

pub hops_ask_alike : HopsAskAlike
hops_ask_alike request target = (refl, head_kept (bytes_eq request.method (codes "HEAD")))

close_bools : (persists nph fault whole : Bool) → fault ≡ false → (not persists || nph || fault || not whole) ≡ (nph || not (persists && whole))
close_bools true true fault whole none = refl
close_bools false true fault whole none = refl
close_bools true false true whole none = absurd (false≢true (sym none))
close_bools true false false true none = refl
close_bools true false false false none = refl
close_bools false false fault whole none = refl

legs_close : (site : Site) (c : ℕ) (e : Exchange) (leg : Leg) → is_by_nph (stage site c e) ≡ is_nph leg.kind → is_closing_fault (answer site c e) ≡ false
    → closes_now site c e ≡ closes_by site c e leg
legs_close site c e leg nph none =
    ap (λ (b : Bool). not (persists_by (headed (reading site c e))) || b || is_closing_fault (answer site c e) || not (is_whole (reading site c e))) nph
    ∙ close_bools (persists_by (headed (reading site c e))) (is_nph leg.kind) (is_closing_fault (answer site c e)) (is_whole (reading site c e)) none

pub closes_are_of_legs : ClosesAreOfLegs
closes_are_of_legs site c e leg = record {
  on = λ at. legs_close site c e leg (ap is_by_nph at) (ap (λ s. is_closing_fault (answer_at s)) at);
  ended = λ derived at none. legs_close site c e leg (ap is_by_nph at) none;
}
