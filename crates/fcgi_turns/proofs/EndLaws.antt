-- Each request that was begun has one end, or is active.
use Rattle.std.proofs.Common.{◌≡◌, ℕ, ◌+◌, ◌*◌, Bool, true, false, cond, List, [], ◌∷◌, ◌++◌, length, refl, sym, ap, ◌∙◌, Option, Some, None, Result, Ok, Err, ltb}
use Rattle.std.specs.Prelude.{not, ◌&&◌, ◌==◌, is_some}
use Rattle.std.specs.List.{fold}
use Rattle.std.proofs.lemmas.List.{append-nil}
use Rattle.std.proofs.lemmas.Grind.{flat_map-append}
use Rattle.host_base.specs.declared.cause.Cause.{Cause}
use Rattle.host_base.specs.declared.cause.Cause.TheVariants.{HeadTooLong, BodyTooLong}
use Rattle.host_base.specs.declared.fields.Field.{Field}
use Rattle.host_base.specs.declared.launch.Launch.{Launch}
use Rattle.host_base.specs.declared.site.Site.{Site}
use Rattle.host_trace.specs.declared.items.Item.{Item}
use Rattle.host_trace.specs.Decider.{Outcome, derived, unanswered, failed}
use Rattle.host_trace.specs.Kinds.{is_client_bytes, is_client_eof, bytes_heard, child_started}
use Rattle.host_trace.specs.Projections.{child_out}
use Rattle.trace_child.specs.Decided.{decides_run, outcome_at}
use Rattle.front_answers.specs.Answer.{by_output, text_of_answer}
use Rattle.reply_writer.specs.FaultReply.{fault_text}
use Rattle.fcgi_records.specs.declared.kinds.TheConstants.{BEGIN_REQUEST, ABORT_REQUEST, PARAMS, STDIN, GET_VALUES, GET_VALUES_RESULT, UNKNOWN_TYPE}
use Rattle.fcgi_records.specs.declared.record.Record.{Record}
use Rattle.fcgi_records.specs.Records.{Reading, read_records}
use Rattle.fcgi_records.specs.Pairs.{pairs_of}
use Rattle.fcgi_turns.specs.Texts.{complete, cant_multiplex, overloaded, unknown_role, unknown_content, values_content}
use Rattle.fcgi_turns.specs.Due.{Due, answered, ended, given_up, refused, replied, request_ended}
use Rattle.fcgi_turns.specs.Turns.{Active, Turns, new_active, no_turns, launch_of, next_turns, with_due, faulted, aborted, given_up_by, broken, flag_keeps, responder, begin_alone, begin_by, on_begin, faulted_by, on_params, on_stdin, on_active, of_active, values_by, on_management, on_open, on_record, read_by, decided, is_full, due_by_fault, by_child, by_run, started_by, by_start, by_end, by_item, run_with}
use Rattle.fcgi_turns.specs.RequestLaws.{requests_ended, id_in, RequestsEndOnce}

abbrev HasOneEnd : Turns → Type 0
HasOneEnd t = t.ids ≡ requests_ended t.due ++ id_in t.active

-- .. so far, while this request is active
abbrev IsActive : Turns → Active → Type 0
IsActive t a = t.ids ≡ requests_ended t.due ++ a.id ∷ []

either : (b : Bool) (x y : Turns) → HasOneEnd x → HasOneEnd y → HasOneEnd (cond b x y)
either true x y a b = a
either false x y a b = b

ended_more : (dues : List Due) (due : Due) → requests_ended (dues ++ due ∷ []) ≡ requests_ended dues ++ request_ended due
ended_more dues due = flat_map-append request_ended dues (due ∷ []) ∙ ap (λ (ids : List ℕ). requests_ended dues ++ ids) (append-nil (request_ended due))

-- an active request ends, by what is due
ends : (a : Active) (due : Due) (t : Turns) → request_ended due ≡ a.id ∷ [] → IsActive t a → t.ids ≡ requests_ended (t.due ++ due ∷ []) ++ []
ends a due t one is =
    is ∙ ap (λ (ids : List ℕ). requests_ended t.due ++ ids) (sym one) ∙ sym (ended_more t.due due) ∙ sym (append-nil (requests_ended (t.due ++ due ∷ [])))

-- what is due ends none
ends_none : (due : Due) (t : Turns) → request_ended due ≡ [] → HasOneEnd t → HasOneEnd (with_due due t)
ends_none due t none is =
    is
    ∙ ap (λ (ids : List ℕ). ids ++ id_in t.active)
    (sym (append-nil (requests_ended t.due)) ∙ ap (λ (ids : List ℕ). requests_ended t.due ++ ids) (sym none) ∙ sym (ended_more t.due due))

broken_ends : (t : Turns) (o : Option Active) → t.ids ≡ requests_ended t.due ++ id_in o → t.ids ≡ requests_ended (t.due ++ given_up_by o) ++ []
broken_ends t None is = is ∙ ap (λ (dues : List Due). requests_ended dues ++ []) (sym (append-nil t.due))
broken_ends t (Some a) is = ends a (given_up a.id) t refl is

broken_has : (t : Turns) → HasOneEnd t → HasOneEnd (broken t)
broken_has t is = broken_ends t t.active is

faulted_has : (a : Active) (cause : Cause) (t : Turns) → IsActive t a → HasOneEnd (faulted a cause t)
faulted_has a cause t is = ends a (answered a.id (fault_text cause)) t refl is

module _ (site : Site) where
  alone_has : (t : Turns) (id role : ℕ) (keeps : Bool) → t.active ≡ None → HasOneEnd t → HasOneEnd (begin_alone t id role keeps)
  alone_has t id role keeps none is =
      let idle : t.ids ≡ requests_ended t.due = is ∙ ap (λ (o : Option Active). requests_ended t.due ++ id_in o) none ∙ append-nil (requests_ended t.due) in
      either (role == responder) (record t { active = Some (new_active id keeps); ids = t.ids ++ id ∷ [] }) (with_due (refused id unknown_role) t)
      (ap (λ (ids : List ℕ). ids ++ id ∷ []) idle) (ends_none (refused id unknown_role) t refl is)

  begin_has : (t : Turns) (id role : ℕ) (keeps : Bool) (o : Option Active) → t.active ≡ o → HasOneEnd t → HasOneEnd (begin_by t id role keeps o)
  begin_has t id role keeps None at is = alone_has t id role keeps at is
  begin_has t id role keeps (Some a) at is =
      either (a.id == id) (broken t) (with_due (refused id cant_multiplex) t) (broken_has t is) (ends_none (refused id cant_multiplex) t refl is)

  on_begin_has : (t : Turns) (id : ℕ) (content : List ℕ) → HasOneEnd t → HasOneEnd (on_begin t id content)
  on_begin_has t id [] is = broken_has t is
  on_begin_has t id (a ∷ []) is = broken_has t is
  on_begin_has t id (a ∷ b ∷ []) is = broken_has t is
  on_begin_has t id (a ∷ b ∷ c ∷ []) is = broken_has t is
  on_begin_has t id (a ∷ b ∷ c ∷ d ∷ []) is = broken_has t is
  on_begin_has t id (a ∷ b ∷ c ∷ d ∷ e ∷ []) is = broken_has t is
  on_begin_has t id (a ∷ b ∷ c ∷ d ∷ e ∷ f ∷ []) is = broken_has t is
  on_begin_has t id (a ∷ b ∷ c ∷ d ∷ e ∷ f ∷ g ∷ []) is = broken_has t is
  on_begin_has t id (a ∷ b ∷ c ∷ d ∷ e ∷ f ∷ g ∷ h ∷ []) is = begin_has t id (a * 256 + b) (flag_keeps c) t.active refl is
  on_begin_has t id (a ∷ b ∷ c ∷ d ∷ e ∷ f ∷ g ∷ h ∷ i ∷ more) is = broken_has t is

  faulted_by_has : (a : Active) (r : Result Launch Cause) (t : Turns) → IsActive t a → HasOneEnd (faulted_by a r t)
  faulted_by_has a (Err cause) t is = faulted_has a cause t is
  faulted_by_has a (Ok launch) t is = is

  params_has : (t : Turns) (a : Active) (content : List ℕ) → HasOneEnd t → IsActive t a → HasOneEnd (on_params site t a content)
  params_has t a [] has is =
      either a.params_ended t (faulted_by (record a { params_ended = true }) (launch_of site a) t) has (faulted_by_has (record a { params_ended = true }) (launch_of site a) t is)
  params_has t a (byte ∷ content) has is =
      let more = record t { active = Some (record a { params = a.params ++ byte ∷ content }) } in
      let long = ltb site.limits.head (length (a.params ++ byte ∷ content)) in
      either a.params_ended t (cond long (faulted a HeadTooLong t) more) has (either long (faulted a HeadTooLong t) more (faulted_has a HeadTooLong t is) is)

  stdin_has : (t : Turns) (a : Active) (content : List ℕ) → HasOneEnd t → IsActive t a → HasOneEnd (on_stdin site t a content)
  stdin_has t a [] has is = either a.stdin_ended t (record t { active = Some (record a { stdin_ended = true }) }) has is
  stdin_has t a (byte ∷ content) has is =
      let more = record t { active = Some (record a { stdin = a.stdin ++ byte ∷ content }) } in
      let long = ltb site.limits.body (length (a.stdin ++ byte ∷ content)) in
      either a.stdin_ended t (cond long (faulted a BodyTooLong t) more) has (either long (faulted a BodyTooLong t) more (faulted_has a BodyTooLong t is) is)

  active_has : (t : Turns) (a : Active) (r : Record) → HasOneEnd t → IsActive t a → HasOneEnd (on_active site t a r)
  active_has t a r has is =
      either (r.kind == ABORT_REQUEST) (aborted a t) _ (ends a (ended a.id complete) t refl is)
      (either (r.kind == PARAMS) (on_params site t a r.content) _ (params_has t a r.content has is)
      (either (r.kind == STDIN) (on_stdin site t a r.content) t (stdin_has t a r.content has is) has))

  of_active_has : (t : Turns) (r : Record) (o : Option Active) → t.active ≡ o → HasOneEnd t → HasOneEnd (of_active site t r o)
  of_active_has t r None at is = is
  of_active_has t r (Some a) at is =
      either (a.id == r.id) (on_active site t a r) t (active_has t a r is (is ∙ ap (λ (o : Option Active). requests_ended t.due ++ id_in o) at)) is

  values_has : (t : Turns) (o : Option (List Field)) → HasOneEnd t → HasOneEnd (values_by site t o)
  values_has t None is = broken_has t is
  values_has t (Some asked) is = ends_none (replied GET_VALUES_RESULT (values_content site.limits asked)) t refl is

  record_has : (t : Turns) (r : Record) → HasOneEnd t → HasOneEnd (on_record site t r)
  record_has t r is =
      either (is_some t.over) t (on_open site t r) is
      (either (r.id == 0) (on_management site t r) _
      (either (r.kind == GET_VALUES) (values_by site t (pairs_of r.content)) (with_due (replied UNKNOWN_TYPE (unknown_content r.kind)) t) (values_has t (pairs_of r.content) is)
      (ends_none (replied UNKNOWN_TYPE (unknown_content r.kind)) t refl is))
      (either (r.kind == BEGIN_REQUEST) (on_begin t r.id r.content) (of_active site t r t.active) (on_begin_has t r.id r.content is) (of_active_has t r t.active refl is)))

  records_have : (rs : List Record) (t : Turns) → HasOneEnd t → HasOneEnd (fold (on_record site) t rs)
  records_have [] t is = is
  records_have (r ∷ rs) t is = records_have rs (on_record site t r) (record_has t r is)

  read_has : (t : Turns) (reading : Reading) → HasOneEnd t → HasOneEnd (read_by site t reading)
  read_has t reading is =
      let u = fold (on_record site) t reading.got in
      let has = records_have reading.got t is in
      either (reading.bad && not (is_some u.over)) (broken u) u (broken_has u has) has

  due_ends : (id : ℕ) (cause : Cause) (b : Bool) → request_ended (cond b (ended id overloaded) (answered id (fault_text cause))) ≡ id ∷ []
  due_ends id cause true = refl
  due_ends id cause false = refl

  decided_has : (a : Active) (output : List ℕ) (o : Outcome) (t : Turns) → IsActive t a → HasOneEnd (decided a output o t)
  decided_has a output derived t is = ends a (answered a.id (text_of_answer (by_output output))) t refl is
  decided_has a output (failed cause) t is = ends a (due_by_fault a.id cause) t (due_ends a.id cause (is_full cause)) is
  decided_has a output unanswered t is = ends a (given_up a.id) t refl is

  module _ (c : ℕ) where
    child_has : (t : Turns) (a : Active) (o : Option ℕ) (x : Item) → HasOneEnd t → IsActive t a → HasOneEnd (by_child site c t a o x)
    child_has t a None x has is = has
    child_has t a (Some k) x has is =
        let run = run_with site c k a.stdin in
        either (decides_run run t.seen x) (decided a (child_out (t.seen ++ x ∷ []) k) (outcome_at run x) t) t
        (decided_has a (child_out (t.seen ++ x ∷ []) k) (outcome_at run x) t is) has

    run_has : (t : Turns) (o : Option Active) (x : Item) → t.active ≡ o → HasOneEnd t → HasOneEnd (by_run site c t o x)
    run_has t None x at is = is
    run_has t (Some a) x at is = child_has t a a.child x is (is ∙ ap (λ (o : Option Active). requests_ended t.due ++ id_in o) at)

    started_has : (k : ℕ) (t : Turns) (o : Option Active) → t.active ≡ o → HasOneEnd t → HasOneEnd (started_by k t o)
    started_has k t None at is = is
    started_has k t (Some a) at is = is ∙ ap (λ (o : Option Active). requests_ended t.due ++ id_in o) at

    start_has : (t : Turns) (x : Item) (ks : List ℕ) → HasOneEnd t → HasOneEnd (by_start site c t x ks)
    start_has t x [] is = run_has t t.active x refl is
    start_has t x (k ∷ ks) is = started_has k t t.active refl is

    item_has : (t : Turns) (x : Item) → HasOneEnd t → HasOneEnd (by_item site c t x)
    item_has t x is =
        either (is_client_bytes c x) (read_by site t (read_records (t.rest ++ bytes_heard c x))) _ (read_has t (read_records (t.rest ++ bytes_heard c x)) is)
        (either (is_client_eof c x) (by_end t) (by_start site c t x (child_started c x)) is (start_has t x (child_started c x) is))

    next_has : (t : Turns) (x : Item) → HasOneEnd t → HasOneEnd (next_turns site c t x)
    next_has t x is = item_has (record t { broke_off = false }) x is

    all_have : (L : List Item) (t : Turns) → HasOneEnd t → HasOneEnd (fold (next_turns site c) t L)
    all_have [] t is = is
    all_have (x ∷ L) t is = all_have L (next_turns site c t x) (next_has t x is)

pub requests_end_once : RequestsEndOnce
requests_end_once site c L = all_have site c L no_turns refl
