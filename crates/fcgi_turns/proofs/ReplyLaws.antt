-- Records that belong to no request are answered in their order.
use Rattle.std.proofs.Common.{◌≡◌, ℕ, ◌+◌, ◌*◌, Bool, true, false, cond, List, [], ◌∷◌, ◌++◌, length, sym, ap, ◌∙◌, Option, Some, None, Result, Ok, Err, ltb}
use Rattle.std.specs.Prelude.{◌==◌, is_some}
use Rattle.std.proofs.lemmas.List.{append-nil, append_assoc}
use Rattle.std.proofs.lemmas.Grind.{flat_map-append}
use Rattle.host_base.specs.declared.cause.Cause.{Cause}
use Rattle.host_base.specs.declared.cause.Cause.TheVariants.{HeadTooLong, BodyTooLong}
use Rattle.host_base.specs.declared.fields.Field.{Field}
use Rattle.host_base.specs.declared.launch.Launch.{Launch}
use Rattle.host_base.specs.declared.site.Site.{Site}
use Rattle.reply_writer.specs.FaultReply.{fault_text}
use Rattle.fcgi_records.specs.declared.kinds.TheConstants.{BEGIN_REQUEST, ABORT_REQUEST, PARAMS, STDIN, GET_VALUES, GET_VALUES_RESULT, UNKNOWN_TYPE}
use Rattle.fcgi_records.specs.declared.record.Record.{Record}
use Rattle.fcgi_records.specs.Pairs.{pairs_of}
use Rattle.fcgi_turns.specs.Texts.{complete, cant_multiplex, unknown_role, unknown_content, values_content}
use Rattle.fcgi_turns.specs.Due.{Due, answered, ended, given_up, refused, replied, reply_in}
use Rattle.fcgi_turns.specs.Turns.{Active, Turns, new_active, launch_of, with_due, faulted, aborted, given_up_by, broken, flag_keeps, responder, begin_by, on_begin, faulted_by, on_params, on_stdin, on_active, of_active, values_by, on_management, on_open, on_record}
use Rattle.fcgi_turns.specs.RequestLaws.{values_reply, management_reply, refusal, begin_reply, reply_by, replies_to, replies_in, RepliesInOrder}

-- one turn adds these replies
abbrev Adds : Turns → Turns → List Due → Type 0
Adds t u replies = replies_in u.due ≡ replies_in t.due ++ replies

either : (t : Turns) (b : Bool) (x y : Turns) (replies : List Due) → Adds t x replies → Adds t y replies → Adds t (cond b x y) replies
either t true x y replies a b = a
either t false x y replies a b = b

each : (t : Turns) (b : Bool) (x y : Turns) (us vs : List Due) → Adds t x us → Adds t y vs → Adds t (cond b x y) (cond b us vs)
each t true x y us vs a b = a
each t false x y us vs a b = b

none : (t : Turns) → Adds t t []
none t = sym (append-nil (replies_in t.due))

more : (t : Turns) (due : Due) → replies_in (t.due ++ due ∷ []) ≡ replies_in t.due ++ reply_in due
more t due = flat_map-append reply_in t.due (due ∷ []) ∙ ap (λ (dues : List Due). replies_in t.due ++ dues) (append-nil (reply_in due))

broken_by_active : (t : Turns) (o : Option Active) → replies_in (t.due ++ given_up_by o) ≡ replies_in t.due ++ []
broken_by_active t None = ap replies_in (append-nil t.due) ∙ none t
broken_by_active t (Some a) = more t (given_up a.id)

broken_adds : (t : Turns) → Adds t (broken t) []
broken_adds t = broken_by_active t t.active

faulted_adds : (a : Active) (cause : Cause) (t : Turns) → Adds t (faulted a cause t) []
faulted_adds a cause t = more t (answered a.id (fault_text cause))

module _ (site : Site) where
  begin_adds : (t : Turns) (id role : ℕ) (keeps : Bool) (o : Option Active) → Adds t (begin_by t id role keeps o) (refusal id role o)
  begin_adds t id role keeps None =
      each t (role == responder) (record t { active = Some (new_active id keeps); ids = t.ids ++ id ∷ [] }) (with_due (refused id unknown_role) t) [] (refused id unknown_role ∷ [])
      (none t) (more t (refused id unknown_role))
  begin_adds t id role keeps (Some a) =
      each t (a.id == id) (broken t) (with_due (refused id cant_multiplex) t) [] (refused id cant_multiplex ∷ []) (broken_adds t) (more t (refused id cant_multiplex))

  on_begin_adds : (t : Turns) (id : ℕ) (content : List ℕ) → Adds t (on_begin t id content) (begin_reply id content t.active)
  on_begin_adds t id [] = broken_adds t
  on_begin_adds t id (a ∷ []) = broken_adds t
  on_begin_adds t id (a ∷ b ∷ []) = broken_adds t
  on_begin_adds t id (a ∷ b ∷ c ∷ []) = broken_adds t
  on_begin_adds t id (a ∷ b ∷ c ∷ d ∷ []) = broken_adds t
  on_begin_adds t id (a ∷ b ∷ c ∷ d ∷ e ∷ []) = broken_adds t
  on_begin_adds t id (a ∷ b ∷ c ∷ d ∷ e ∷ f ∷ []) = broken_adds t
  on_begin_adds t id (a ∷ b ∷ c ∷ d ∷ e ∷ f ∷ g ∷ []) = broken_adds t
  on_begin_adds t id (a ∷ b ∷ c ∷ d ∷ e ∷ f ∷ g ∷ h ∷ []) = begin_adds t id (a * 256 + b) (flag_keeps c) t.active
  on_begin_adds t id (a ∷ b ∷ c ∷ d ∷ e ∷ f ∷ g ∷ h ∷ i ∷ others) = broken_adds t

  faulted_by_adds : (a : Active) (r : Result Launch Cause) (t : Turns) → Adds t (faulted_by a r t) []
  faulted_by_adds a (Err cause) t = faulted_adds a cause t
  faulted_by_adds a (Ok launch) t = none t

  params_adds : (t : Turns) (a : Active) (content : List ℕ) → Adds t (on_params site t a content) []
  params_adds t a [] =
      either t a.params_ended t (faulted_by (record a { params_ended = true }) (launch_of site a) t) [] (none t) (faulted_by_adds (record a { params_ended = true }) (launch_of site a) t)
  params_adds t a (byte ∷ content) =
      let longer = record t { active = Some (record a { params = a.params ++ byte ∷ content }) } in
      let long = ltb site.limits.head (length (a.params ++ byte ∷ content)) in
      either t a.params_ended t (cond long (faulted a HeadTooLong t) longer) [] (none t) (either t long (faulted a HeadTooLong t) longer [] (faulted_adds a HeadTooLong t) (none t))

  stdin_adds : (t : Turns) (a : Active) (content : List ℕ) → Adds t (on_stdin site t a content) []
  stdin_adds t a [] = either t a.stdin_ended t (record t { active = Some (record a { stdin_ended = true }) }) [] (none t) (none t)
  stdin_adds t a (byte ∷ content) =
      let longer = record t { active = Some (record a { stdin = a.stdin ++ byte ∷ content }) } in
      let long = ltb site.limits.body (length (a.stdin ++ byte ∷ content)) in
      either t a.stdin_ended t (cond long (faulted a BodyTooLong t) longer) [] (none t) (either t long (faulted a BodyTooLong t) longer [] (faulted_adds a BodyTooLong t) (none t))

  active_adds : (t : Turns) (a : Active) (r : Record) → Adds t (on_active site t a r) []
  active_adds t a r =
      either t (r.kind == ABORT_REQUEST) (aborted a t) _ [] (more t (ended a.id complete))
      (either t (r.kind == PARAMS) (on_params site t a r.content) _ [] (params_adds t a r.content)
      (either t (r.kind == STDIN) (on_stdin site t a r.content) t [] (stdin_adds t a r.content) (none t)))

  of_active_adds : (t : Turns) (r : Record) (o : Option Active) → Adds t (of_active site t r o) []
  of_active_adds t r None = none t
  of_active_adds t r (Some a) = either t (a.id == r.id) (on_active site t a r) t [] (active_adds t a r) (none t)

  values_adds : (t : Turns) (o : Option (List Field)) → Adds t (values_by site t o) (values_reply site.limits o)
  values_adds t None = broken_adds t
  values_adds t (Some asked) = more t (replied GET_VALUES_RESULT (values_content site.limits asked))

  management_adds : (t : Turns) (r : Record) → Adds t (on_management site t r) (management_reply site.limits r)
  management_adds t r =
      each t (r.kind == GET_VALUES) (values_by site t (pairs_of r.content)) (with_due (replied UNKNOWN_TYPE (unknown_content r.kind)) t)
      (values_reply site.limits (pairs_of r.content)) (replied UNKNOWN_TYPE (unknown_content r.kind) ∷ [])
      (values_adds t (pairs_of r.content)) (more t (replied UNKNOWN_TYPE (unknown_content r.kind)))

  record_adds : (t : Turns) (r : Record) → Adds t (on_record site t r) (reply_by site t r)
  record_adds t r =
      let begun = begin_reply r.id r.content t.active in
      let request = cond (r.kind == BEGIN_REQUEST) begun [] in
      each t (is_some t.over) t (on_open site t r) [] (cond (r.id == 0) (management_reply site.limits r) request) (none t)
      (each t (r.id == 0) (on_management site t r) (cond (r.kind == BEGIN_REQUEST) (on_begin t r.id r.content) (of_active site t r t.active)) (management_reply site.limits r) request
      (management_adds t r)
      (each t (r.kind == BEGIN_REQUEST) (on_begin t r.id r.content) (of_active site t r t.active) begun [] (on_begin_adds t r.id r.content) (of_active_adds t r t.active)))

pub replies_in_order : RepliesInOrder
replies_in_order site t [] = none t
replies_in_order site t (r ∷ rs) =
    replies_in_order site (on_record site t r) rs
    ∙ ap (λ (replies : List Due). replies ++ replies_to site (on_record site t r) rs) (record_adds site t r)
    ∙ append_assoc (replies_in t.due) (reply_by site t r) (replies_to site (on_record site t r) rs)
