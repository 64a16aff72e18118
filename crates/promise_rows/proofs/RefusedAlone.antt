-- A reply without a ground: 404 is written for a script that there is, and no child was started.
use Rattle.std.proofs.Common.{◌≡◌, ℕ, zero, suc, Bool, true, false, List, [], ◌∷◌, ◌++◌, Option, Some, None, Result, Ok, Err, refl, sym, ap, ◌∙◌, arith}
use Rattle.std.specs.Prelude.{◌||◌}
use Rattle.std.specs.List.{list_any}
use Rattle.std.proofs.lemmas.Bool.{false≢true}
use Rattle.host_base.specs.declared.cause.Cause.{Cause}
use Rattle.host_base.specs.declared.request.Request.{Request}
use Rattle.host_base.specs.declared.site.Mapped.{Mapped}
use Rattle.host_base.specs.declared.site.ScriptKind.{ScriptKind}
use Rattle.host_base.specs.declared.site.ScriptKind.TheVariants.{Cgi, Nph, WebSocket}
use Rattle.host_trace.specs.declared.items.Act.TheVariants.{Start}
use Rattle.host_trace.specs.declared.items.Event.TheVariants.{ClientEof, Tick}
use Rattle.host_trace.specs.declared.items.Item.{Item}
use Rattle.host_trace.specs.declared.items.Item.TheVariants.{In, Out}
use Rattle.host_trace.specs.Projections.{own, shut_for_memory}
use Rattle.own_traces.specs.Whose.{is_a_start}
use Rattle.request_reader.specs.Request.{Reading, Whole, More, Bad}
use Rattle.trace_child.specs.Words.{is_filled}
use Rattle.trace_model.specs.Exchange.{Exchange, all_of, continue_part, reading, written}
use Rattle.trace_model.specs.Exchanges.{current}
use Rattle.trace_model.specs.Legs.{Leg}
use Rattle.trace_model.specs.Places.{kind_of, place_of}
use Rattle.trace_model.specs.Readings.{startable}
use Rattle.trace_laws.proofs.ListLaws.{any-right}
use Rattle.promise_laws.specs.Grounds.{InterruptsBy, IsCause, by_item, by_output, by_request, by_run, by_target, IsLed, IsLegOf, IsRefusedFor, by_handshake, by_place, by_redirects}
use Rattle.promise_laws.specs.Replies.{GoesOn, answers, gives_up, IsFront, nothing, whole, accept, part, raw_part, IsReply, of_host, of_output, of_script, IsWrittenRight}
use Rattle.trace_rows.proofs.OnDates.{on_dates}
use Rattle.trace_rows.proofs.Site.{site}
use Rattle.trace_rows.proofs.WrongRows.{refused_though_served}

-- the exchange that goes on in it
abbrev e : Exchange
e = current site 0 (own refused_though_served 0)

-- ---- what is so of it, by computation

abbrev ends_request : Item → Bool
ends_request (In (ClientEof d)) = true
ends_request (In (Tick secs)) = true
ends_request x = false

abbrev is_bad : Reading → Bool
is_bad (Bad cause bare) = true
is_bad (Whole request used due) = false
is_bad (More request due) = false

abbrev is_cgi : ScriptKind → Bool
is_cgi Cgi = true
is_cgi Nph = false
is_cgi WebSocket = false

abbrev goes_to_cgi : Result Mapped Cause → Bool
goes_to_cgi (Ok mapped) = is_cgi (kind_of site mapped)
goes_to_cgi (Err cause) = false

abbrev asks_cgi : Option Request → Bool
asks_cgi None = false
asks_cgi (Some request) = goes_to_cgi (place_of site request)

none_started : list_any is_a_start e.items ≡ false
unfolding on_dates
none_started = refl

none_ends : list_any ends_request e.items ≡ false
unfolding on_dates
none_ends = refl

is_read : is_bad (reading site 0 e) ≡ false
unfolding on_dates
is_read = refl

asks_script : asks_cgi (startable (reading site 0 e)) ≡ true
unfolding on_dates
asks_script = refl

some_written : is_filled (written 0 e) ≡ true
unfolding on_dates
some_written = refl

none_due : continue_part site 0 e ≡ []
unfolding on_dates
none_due = refl

memory_found : shut_for_memory (all_of e) 0 ≡ false
unfolding on_dates
memory_found = refl

-- ---- so there is no ground

stands_within : (test : Item → Bool) (before later : List Item) (x : Item) → e.items ≡ before ++ x ∷ later → test x ≡ true → list_any test e.items ≡ false → ⊥
stands_within test before later x is passes none =
    false≢true (sym none ∙ (ap (list_any test) is ∙ any-right test before (x ∷ later) (ap (λ (b : Bool). b || list_any test later) passes)))

no_leg : (hop : ℕ) (request : Request) (leg : Leg) → IsLegOf site 0 e hop request leg → ⊥
no_leg hop request leg ran = stands_within is_a_start ran.before ran.later (Out (Start leg.child 0 e.number hop ran.launch)) ran.started refl none_started

no_item : (cause : Cause) (before later : List Item) (x : Item) → e.items ≡ before ++ x ∷ later → InterruptsBy site 0 e before x cause → ⊥
no_item cause before later (In (ClientEof d)) is by = stands_within ends_request before later (In (ClientEof d)) is refl none_ends
no_item cause before later (In (Tick secs)) is by = stands_within ends_request before later (In (Tick secs)) is refl none_ends
no_item cause before later x is by = by

goes_on_to_cgi : (request : Request) → IsLed site 0 e 0 request → goes_to_cgi (place_of site request) ≡ true
goes_on_to_cgi request led = ap asks_cgi (sym led) ∙ asks_script

no_websocket : (request : Request) (mapped : Mapped) → IsLed site 0 e 0 request → place_of site request ≡ Ok mapped → kind_of site mapped ≡ WebSocket → ⊥
no_websocket request mapped led place kind = false≢true (sym (ap goes_to_cgi place ∙ ap is_cgi kind) ∙ goes_on_to_cgi request led)

no_refusal : (cause : Cause) (hop : ℕ) (request : Request) → IsLed site 0 e hop request → IsRefusedFor site hop request cause → ⊥
no_refusal cause zero request led (by_place is) = false≢true (sym (ap goes_to_cgi is) ∙ goes_on_to_cgi request led)
no_refusal cause zero request led (by_handshake mapped place kind taken) = no_websocket request mapped led place kind
no_refusal cause zero request led (by_redirects many loop) = omega (arith, many)
no_refusal cause (suc hop) request led why = no_leg hop led.from led.leg led.ran

no_bad : (cause : Cause) (bare : Bool) → reading site 0 e ≡ Bad cause bare → ⊥
no_bad cause bare is = false≢true (sym is_read ∙ ap is_bad is)

no_cause : (cause : Cause) → IsCause site 0 e cause → ⊥
no_cause cause (by_request bare is) = no_bad cause bare is
no_cause cause (by_item i) = no_item cause i.before i.later i.item i.stands i.interrupts
no_cause cause (by_target r) = no_refusal cause r.hop r.request r.led r.why
no_cause cause (by_output leg output run ended is) = no_leg leg.hop leg.request leg run.ran
no_cause cause (by_run leg run failed) = no_leg leg.hop leg.request leg run.ran

no_reply : (bytes : List ℕ) → IsReply site 0 e bytes → ⊥
no_reply bytes (of_script leg output reply run ended is spells) = no_leg leg.hop leg.request leg run.ran
no_reply bytes (of_output leg output run ended is) = no_leg leg.hop leg.request leg run.ran
no_reply bytes (of_host cause ground spells) = no_cause cause ground

no_accept : (value : List ℕ) (hop : ℕ) (request : Request) (mapped : Mapped) → IsLed site 0 e hop request → place_of site request ≡ Ok mapped → kind_of site mapped ≡ WebSocket → ⊥
no_accept value zero request mapped led place kind = no_websocket request mapped led place kind
no_accept value (suc hop) request mapped led place kind = no_leg hop led.from led.leg led.ran

written_is : (bytes : List ℕ) → written 0 e ≡ continue_part site 0 e ++ bytes → is_filled bytes ≡ true
written_is bytes is = ap is_filled (sym (is ∙ ap (λ (l : List ℕ). l ++ bytes) none_due)) ∙ some_written

no_front : (bytes : List ℕ) → is_filled bytes ≡ true → IsFront site 0 e bytes → ⊥
no_front bytes some (nothing is) = false≢true (ap is_filled (sym is) ∙ some)
no_front bytes some (whole reply) = no_reply bytes reply
no_front bytes some (accept value accepted is) = no_accept value accepted.hop accepted.request accepted.mapped accepted.led accepted.place accepted.kind
no_front bytes some (part leg reply sent unsent run open_then streamed cuts is) = no_leg leg.hop leg.request leg run.ran
no_front bytes some (raw_part leg output unsent run open_then streamed is) = no_leg leg.hop leg.request leg run.ran

refused_goes_on : GoesOn site 0 e → ⊥
refused_goes_on (answers bytes wrote stands) = no_front bytes (written_is bytes wrote) stands
refused_goes_on (gives_up memory none) = false≢true (sym memory_found ∙ memory)

pub refused_alone_is_wrong : IsWrittenRight site refused_though_served 0 → ⊥
refused_alone_is_wrong w = refused_goes_on w.goes_on
