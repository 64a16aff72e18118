-- What a stream keeps while it holds all of its output.
use Rattle.std.proofs.Common.{◌≡◌, ◌≤◌, ◌<◌, ℕ, Bool, true, false, List, [], ◌∷◌, ◌++◌, length, refl, sym, ap, ◌∙◌, arith, ltb, Option, subst}
use Rattle.std.specs.Prelude.{◌&&◌, ◌||◌, nat_le, None, Some, is_some, option_map, if◌then◌else◌}
use Rattle.std.proofs.Math.Bool.{and-false}
use Rattle.std.proofs.lemmas.Bool.{and_from, le-ltb, lt-ltb, or_left, or_right}
use Rattle.std.proofs.lemmas.List.{append-nil, take_all}
use Rattle.host_base.specs.declared.site.ScriptKind.{ScriptKind}
use Rattle.host_base.specs.declared.site.ScriptKind.TheVariants.{Cgi, Nph, WebSocket}
use Rattle.cgi_header.specs.declared.header.HdrStep.TheVariants.{More, Bad}
use Rattle.host_base.specs.declared.cause.Cause.TheVariants.{HeaderTooLarge}
use Rattle.cgi_header.specs.ScriptHeader.{most_header, read_header, step_by_front}
use Rattle.reply_kinds.specs.Derived.{is_header_whole, is_streamable, is_whole}
use Rattle.reply_kinds.proofs.DerivedLaws.{begun_goes_on, headers_come_first}
use Rattle.reply_stream.specs.declared.asked.Asked.{Asked}
use Rattle.reply_stream.specs.declared.stage.Flow.{Flow}
use Rattle.reply_stream.specs.declared.stage.Stage.{Stage}
use Rattle.reply_stream.specs.declared.stage.Stage.TheVariants.{Waiting, Ready, Settled, Going}
use Rattle.reply_stream.specs.declared.stage.Header.{Header}
use Rattle.reply_stream.specs.declared.stage.Header.TheVariants as Seen
use Rattle.reply_stream.specs.Hearing.{Told, piece, tick, output_of, is_long_enough, is_ticked, most_kept, must_begin}
use Rattle.head_lines.specs.Lines.{Front, IsSearched, front_len, front_of, front_of_parts}
use Rattle.head_lines.specs.declared.search.Search.{Search}
use Rattle.head_lines.proofs.SearchLaws.{searched-append}
use Rattle.reply_stream.specs.Openings.{Begins, IsUnread, Tells, stage_by}
use Rattle.reply_stream.specs.Stages.{IsAt, IsAtStage, IsHolding, IsReady, IsSettled, IsSettledAt, IsSoughtIn, IsWaiting, Joins, Looks, Reads, StaysAt, State, Writes, is_holding}
use Rattle.reply_stream.specs.Writing.{Stood, nothing, begun, stood_next, IsQuiet}
use Rattle.reply_stream.proofs.HearingLaws.{output-piece, output-tick, ticked-piece, ticked-tick}

-- ---- what is written

pub writes_nothing : (asked : Asked) (told : List Told) (close : Bool) (stamp : Option ℕ) (state : State) → must_begin asked.kind told ≡ false
    → IsAt asked told nothing state → Writes asked told close stamp nothing [] state
writes_nothing asked told close stamp state not_due is_at =
    let none : stood_next asked told close stamp nothing [] ≡ nothing = ap (λ (b : Bool). if b then begun close stamp [] else nothing) not_due in
    record {
      is_at = subst (λ (s : Stood). IsAt asked told s state) (sym none) is_at;
      quiet = subst (λ (s : Stood). IsQuiet s []) (sym none) refl;
    }

writes_begun : (asked : Asked) (told : List Told) (close : Bool) (stamp : Option ℕ) (text : List ℕ) (state : State) → must_begin asked.kind told ≡ true
    → IsAt asked told (begun close stamp text) state → Writes asked told close stamp nothing text state
writes_begun asked told close stamp text state due is_at =
    let some : stood_next asked told close stamp nothing text ≡ begun close stamp text = ap (λ (b : Bool). if b then begun close stamp text else nothing) due in
    record {
      is_at = subst (λ (s : Stood). IsAt asked told s state) (sym some) is_at;
      quiet = subst (λ (s : Stood). IsQuiet s text) (sym some) tt;
    }

-- ---- nothing stands

pub holding_is_not_due : (asked : Asked) (told : List Told) (held : List ℕ) → IsHolding asked told held → must_begin asked.kind told ≡ false
holding_is_not_due asked told held holds =
    let short : ltb most_kept (length (output_of told)) ≡ false = le-ltb most_kept (length (output_of told)) (subst (λ (l : List ℕ). length l ≤ most_kept) holds.held_is holds.short) in
    let long : is_long_enough asked.kind told ≡ false = ap (λ (b : Bool). b || is_ticked asked.kind told) short ∙ holds.unticked in
    ap (λ (b : Bool). is_streamable asked.kind (output_of told) && b) long ∙ and-false (is_streamable asked.kind (output_of told))

pub settled_is_not_due : (asked : Asked) (told : List Told) (held : List ℕ) → IsSettledAt asked told held → must_begin asked.kind told ≡ false
settled_is_not_due asked told held at =
    let never : is_streamable asked.kind (output_of told) ≡ false = ap (is_streamable asked.kind) at.output ∙ at.settled.never at.rest in
    ap (λ (b : Bool). b && is_long_enough asked.kind told) never

-- by the stage at which all is held
pub holds_at : (asked : Asked) (told : List Told) (held : List ℕ) (stage : Stage) (stood : Stood) → is_holding stage ≡ true
    → IsAtStage asked told held stage stood → (stood ≡ nothing) × IsHolding asked told held
holds_at asked told held (Waiting search) nothing is at = (refl, at.holding)
holds_at asked told held Ready nothing is at = (refl, at.holding)
holds_at asked told held Settled stood is at = absurd (cc)
holds_at asked told held (Going flow) stood is at = absurd (cc)
holds_at asked told held (Waiting search) (begun close stamp bytes) is at = absurd at
holds_at asked told held Ready (begun close stamp bytes) is at = absurd at

pub stage_at : (asked : Asked) (told : List Told) (state : State) (stage : Stage) (stood : Stood) → state.asked ≡ asked → state.stage ≡ stage
    → IsAtStage asked told state.held stage stood → IsAt asked told stood state
stage_at asked told state stage stood asked_is is at =
    record { asked_is = asked_is; stage_is = subst (λ (s : Stage). IsAtStage asked told state.held s stood) (sym is) at }

pub at_of : (asked : Asked) (told : List Told) (state : State) (stage : Stage) (stood : Stood) → state.stage ≡ stage → IsAt asked told stood state
    → IsAtStage asked told state.held stage stood
at_of asked told state stage stood is is_at = subst (λ (s : Stage). IsAtStage asked told state.held s stood) is is_at.stage_is

none_yet : (kind : ScriptKind) → is_header_whole kind [] ≡ false
unfolding is_header_whole read_header front_of_parts
none_yet Cgi = refl
none_yet Nph = refl
none_yet WebSocket = refl

pub made : (asked : Asked) (search : Search) → IsAt asked [] nothing (record { asked = asked; held = []; stage = Waiting search })
made asked search = record {
  asked_is = refl;
  stage_is = record { holding = record { held_is = refl; short = omega arith; unticked = refl }; open_yet = none_yet asked.kind };
}

-- where the reply has not begun, and what is held is short
pub still_holds : (asked : Asked) (told : List Told) (close : Bool) (stamp : Option ℕ) (state : State) → is_holding state.stage ≡ true
    → IsAt asked told nothing state → Writes asked told close stamp nothing [] state
still_holds asked told close stamp state is is_at =
    writes_nothing asked told close stamp state
    (holding_is_not_due asked told state.held (holds_at asked told state.held state.stage nothing is is_at.stage_is).1) is_at

settled_not : (asked : Asked) (told : List Told) (held : List ℕ) (stage : Stage) → IsAtStage asked told held stage nothing → must_begin asked.kind told ≡ false
settled_not asked told held (Waiting search) at = holding_is_not_due asked told held at.holding
settled_not asked told held Ready at = holding_is_not_due asked told held at.holding
settled_not asked told held Settled at = settled_is_not_due asked told held at
settled_not asked told held (Going flow) at = absurd at

-- .. wherever nothing stands
pub stands_still : (asked : Asked) (told : List Told) (close : Bool) (stamp : Option ℕ) (state : State) → IsAt asked told nothing state
    → Writes asked told close stamp nothing [] state
stands_still asked told close stamp state is_at =
    writes_nothing asked told close stamp state (settled_not asked told state.held state.stage is_at.stage_is) is_at

-- ---- what is held is read

pub looked_open : (asked : Asked) (told : List Told) (close : Bool) (stamp : Option ℕ) (state : State) → Looks asked told state
    → IsUnread state.asked.kind state.held → Writes asked told close stamp nothing [] state
looked_open asked told close stamp state looks unread =
    let open_yet : is_header_whole asked.kind (output_of told) ≡ false =
    ap (λ (a : Asked). is_header_whole a.kind (output_of told)) (sym looks.asked_is) ∙ ap (is_header_whole state.asked.kind) (sym looks.held_is) ∙ unread.open_yet in
    let long : most_kept < length (output_of told) = looks.long open_yet in
    let short : length (output_of told) ≤ most_kept = subst (λ (l : List ℕ). length l ≤ most_kept) looks.held_is unread.short in
    absurd (omega (arith, long, short))

pub looked_settled : (asked : Asked) (told : List Told) (close : Bool) (stamp : Option ℕ) (state : State) → Looks asked told state
    → IsSettled state.asked.kind state.held → Writes asked told close stamp nothing [] (record state { stage = Settled })
looked_settled asked told close stamp state looks settled =
    let at : IsSettledAt asked told state.held = record {
      rest = [];
      output = sym looks.held_is ∙ sym (append-nil state.held);
      settled = subst (λ (a : Asked). IsSettled a.kind state.held) looks.asked_is settled;
    } in
    writes_nothing asked told close stamp (record state { stage = Settled }) (settled_is_not_due asked told state.held at)
    (record { asked_is = looks.asked_is; stage_is = at })

pub looked_begun : (asked : Asked) (told : List Told) (close : Bool) (stamp : Option ℕ) (state : State) (flow : Flow) (text : List ℕ) → Looks asked told state
    → Begins state.asked close stamp state.held flow text
    → Writes asked told close stamp nothing text (record { asked = state.asked; held = []; stage = Going flow })
looked_begun asked told close stamp state flow text looks begins =
    let same : Begins asked close stamp (output_of told) flow text =
    subst (λ (l : List ℕ). Begins asked close stamp l flow text) looks.held_is
    (subst (λ (a : Asked). Begins a close stamp state.held flow text) looks.asked_is begins) in
    let whole : is_header_whole asked.kind (output_of told) ≡ true = (headers_come_first asked.kind (output_of told) []).0 same.can in
    let due : must_begin asked.kind told ≡ true = and_from _ _ same.can (looks.due whole) in
    writes_begun asked told close stamp text _ due (record {
      asked_is = looks.asked_is;
      stage_is = record { due = due; part = same.part; flow_is = same.flow_is };
    })

-- ---- a header that may be whole

-- no empty line ends in what is held
pub no_end : (held : List ℕ) → length held ≤ most_kept → front_len held ≡ None → is_header_whole Cgi held ≡ false
unfolding is_header_whole read_header
no_end held short none = ap (λ (l : List ℕ). is_whole (step_by_front (length held) (front_of l))) (take_all most_header held short) ∙ no_front (front_of held) none (length held)
  where
    either : (b : Bool) → is_whole (if b then Bad HeaderTooLarge else More) ≡ false
    either true = refl
    either false = refl

    no_front : (o : Option Front) → option_map (λ (front : Front). front.len) o ≡ None → (n : ℕ) → is_whole (step_by_front n o) ≡ false
    no_front None is n = either (nat_le most_header n)
    no_front (Some front) is n = absurd (cc)

pub read_open : (asked : Asked) (told : List Told) (state : State) (search : Search) → Reads asked told state → is_header_whole state.asked.kind state.held ≡ false
    → IsAt asked told nothing (record state { stage = Waiting search })
read_open asked told state search reads open_yet = record {
  asked_is = reads.asked_is;
  stage_is = record { holding = reads.holding; open_yet = ap (λ (a : Asked). is_header_whole a.kind state.held) (sym reads.asked_is) ∙ open_yet };
}

none_of : (found : Option ℕ) → is_some found ≡ false → found ≡ None
none_of None is = refl
none_of (Some n) is = absurd (cc)

-- no empty line was found
pub read_none : (asked : Asked) (told : List Told) (state : State) (search : Search) (found : Option ℕ) → Reads asked told state → state.asked.kind ≡ Cgi
    → found ≡ front_len state.held → is_some found ≡ false → IsAt asked told nothing (record state { stage = Waiting search })
read_none asked told state search found reads cgi is none =
    read_open asked told state search reads
    (ap (λ (k : ScriptKind). is_header_whole k state.held) cgi ∙ no_end state.held reads.holding.short (sym is ∙ none_of found none))

pub read_to : (asked : Asked) (told : List Told) (state : State) (search : Search) (header : Header) → Reads asked told state → Tells state.asked.kind state.held header
    → IsAt asked told nothing (record state { stage = stage_by search header })
read_to asked told state search Seen.Open reads tells = read_open asked told state search reads tells
read_to asked told state search Seen.Settled reads tells = record {
  asked_is = reads.asked_is;
  stage_is = record {
    rest = [];
    output = sym reads.holding.held_is ∙ sym (append-nil state.held);
    settled = subst (λ (a : Asked). IsSettled a.kind state.held) reads.asked_is tells;
  };
}
read_to asked told state search Seen.Ready reads tells = record {
  asked_is = reads.asked_is;
  stage_is = record { holding = reads.holding; can = ap (λ (a : Asked). is_streamable a.kind state.held) (sym reads.asked_is) ∙ tells };
}

-- what is read stays searched
pub sought_read : (held : List ℕ) (search : Search) (header : Header) → IsSearched held search.start search.seen → IsSoughtIn held (stage_by search header)
sought_read held search Seen.Open searched = searched
sought_read held search Seen.Settled searched = tt
sought_read held search Seen.Ready searched = tt

-- ---- a piece and a tick while all is held

stays_at : (asked : Asked) (told : List Told) (held bytes : List ℕ) (stage : Stage) → is_holding stage ≡ true → IsAtStage asked told held stage nothing
    → StaysAt asked.kind (held ++ bytes) stage
stays_at asked told held bytes (Waiting search) is at = tt
stays_at asked told held bytes Ready is at = (begun_goes_on asked.kind held bytes at.can).2
stays_at asked told held bytes Settled is at = absurd (cc)
stays_at asked told held bytes (Going flow) is at = absurd (cc)

-- all is held with a piece more
pub joins : (asked : Asked) (told : List Told) (bytes : List ℕ) (old new : State) → is_holding old.stage ≡ true → IsAt asked told nothing old
    → new.asked ≡ old.asked → new.stage ≡ old.stage → new.held ≡ old.held ++ bytes → Joins asked (told ++ piece bytes ∷ []) new
joins asked told bytes old new is is_at asked_is stage_is joined =
    let holds = (holds_at asked told old.held old.stage nothing is is_at.stage_is).1 in
    record {
      asked_is = asked_is ∙ is_at.asked_is;
      held_is = joined ∙ ap (λ (l : List ℕ). l ++ bytes) holds.held_is ∙ sym (output-piece told bytes);
      unticked = ticked-piece asked.kind told bytes ∙ holds.unticked;
      stays =
          subst (λ (l : List ℕ). StaysAt asked.kind l new.stage) (sym joined)
          (subst (λ (s : Stage). StaysAt asked.kind (old.held ++ bytes) s) (sym stage_is) (stays_at asked told old.held bytes old.stage is is_at.stage_is));
    }

-- .. and the search stands in it
pub sought_joined : (held bytes : List ℕ) (stage : Stage) → is_holding stage ≡ true → IsSoughtIn held stage → IsSoughtIn (held ++ bytes) stage
sought_joined held bytes (Waiting search) holding sought = searched-append held bytes search.start search.seen sought
sought_joined held bytes Ready holding sought = tt
sought_joined held bytes Settled holding sought = absurd (cc)
sought_joined held bytes (Going flow) holding sought = absurd (cc)

pub joined_looks : (asked : Asked) (told : List Told) (state : State) → Joins asked told state → most_kept < length state.held → Looks asked told state
joined_looks asked told state at long =
    let far : most_kept < length (output_of told) = subst (λ (l : List ℕ). most_kept < length l) at.held_is long in
    record {
      asked_is = at.asked_is;
      held_is = at.held_is;
      due = λ whole. or_left _ _ (lt-ltb most_kept _ far);
      long = λ open_yet. far;
    }

pub joined_reads : (asked : Asked) (told : List Told) (state : State) → Joins asked told state → length state.held ≤ most_kept → Reads asked told state
joined_reads asked told state at short =
    record { asked_is = at.asked_is; holding = record { held_is = at.held_is; short = short; unticked = at.unticked } }

joined_at : (asked : Asked) (told : List Told) (held : List ℕ) (stage : Stage) → IsHolding asked told held → ((search : Search) → stage ≡ Waiting search → ⊥)
    → StaysAt asked.kind held stage → IsAtStage asked told held stage nothing
joined_at asked told held (Waiting search) holds not_waiting stays = absurd (not_waiting search refl)
joined_at asked told held Ready holds not_waiting stays = record { holding = holds; can = stays }
joined_at asked told held Settled holds not_waiting stays = absurd stays
joined_at asked told held (Going flow) holds not_waiting stays = absurd stays

-- where it could begin before
pub joined_stays : (asked : Asked) (told : List Told) (close : Bool) (stamp : Option ℕ) (state : State) → Joins asked told state → length state.held ≤ most_kept
    → ((search : Search) → state.stage ≡ Waiting search → ⊥) → Writes asked told close stamp nothing [] state
joined_stays asked told close stamp state at short not_waiting =
    stands_still asked told close stamp state (record {
      asked_is = at.asked_is;
      stage_is = joined_at asked told state.held state.stage (joined_reads asked told state at short).holding not_waiting at.stays;
    })

-- a tick where the reply can begin
pub looks_ticked : (asked : Asked) (told : List Told) (stood : Stood) (state : State) → state.stage ≡ Ready → IsAt asked told stood state
    → (stood ≡ nothing) × (Looks asked (told ++ tick ∷ []) state × (must_begin asked.kind (told ++ tick ∷ []) ≡ true))
looks_ticked asked told (begun close stamp bytes) state stage is_at = absurd (at_of asked told state Ready (begun close stamp bytes) stage is_at)
looks_ticked asked told nothing state stage is_at =
    let ready : IsReady asked told state.held = at_of asked told state Ready nothing stage is_at in
    let output = output-tick told in
    let held_is : state.held ≡ output_of (told ++ tick ∷ []) = ready.holding.held_is ∙ sym output in
    let can : is_streamable asked.kind (output_of (told ++ tick ∷ [])) ≡ true = ap (is_streamable asked.kind) (sym held_is) ∙ ready.can in
    let whole : is_header_whole asked.kind (output_of told) ≡ true =
    ap (is_header_whole asked.kind) (sym ready.holding.held_is) ∙ (headers_come_first asked.kind state.held []).0 ready.can in
    let long : is_long_enough asked.kind (told ++ tick ∷ []) ≡ true = or_right _ _ (ticked-tick asked.kind told ∙ or_right _ _ whole) in
    let looks : Looks asked (told ++ tick ∷ []) state = record {
      asked_is = is_at.asked_is;
      held_is = held_is;
      due = λ now. long;
      long = λ open_yet. absurd (cc (sym open_yet ∙ ap (is_header_whole asked.kind) output ∙ whole));
    } in
    (refl, (looks, and_from _ _ can long))

-- a tick before the header is whole
waits_on : (asked : Asked) (told : List Told) (held : List ℕ) → IsWaiting asked told held → IsWaiting asked (told ++ tick ∷ []) held
waits_on asked told held waits = record {
  holding = record {
    held_is = waits.holding.held_is ∙ sym (output-tick told);
    short = waits.holding.short;
    unticked =
        ticked-tick asked.kind told
        ∙ ap (λ (b : Bool). b || is_header_whole asked.kind (output_of told)) waits.holding.unticked
        ∙ ap (is_header_whole asked.kind) (sym waits.holding.held_is)
        ∙ waits.open_yet;
  };
  open_yet = waits.open_yet;
}

pub waiting_tick : (asked : Asked) (told : List Told) (close : Bool) (stamp : Option ℕ) (stood : Stood) (state : State) (search : Search) → state.stage ≡ Waiting search
    → IsAt asked told stood state → Writes asked (told ++ tick ∷ []) close stamp stood [] state
waiting_tick asked told close stamp (begun close_then stamp_then bytes) state search stage is_at =
    absurd (at_of asked told state (Waiting search) (begun close_then stamp_then bytes) stage is_at)
waiting_tick asked told close stamp nothing state search stage is_at =
    stands_still asked (told ++ tick ∷ []) close stamp state
    (stage_at asked (told ++ tick ∷ []) state (Waiting search) nothing is_at.asked_is stage
    (waits_on asked told state.held (at_of asked told state (Waiting search) nothing stage is_at)))
