-- What bytes make of the turns doesn't depend on how they were cut.
use Rattle.std.proofs.Common.{◌≡◌, ℕ, ◌+◌, ◌*◌, Bool, true, false, cond, List, [], ◌∷◌, ◌++◌, length, refl, sym, ap, ◌∙◌, Option, Some, None, Result, Ok, Err, ltb}
use Rattle.std.specs.Prelude.{not, ◌&&◌, ◌==◌, is_some}
use Rattle.std.specs.List.{fold}
use Rattle.std.proofs.lemmas.Bool.{cond-true}
use Rattle.std.proofs.lemmas.List.{append_assoc}
use Rattle.std.proofs.lemmas.Grind.{fold-append}
use Rattle.host_base.specs.declared.cause.Cause.{Cause}
use Rattle.host_base.specs.declared.cause.Cause.TheVariants.{HeadTooLong, BodyTooLong}
use Rattle.host_base.specs.declared.fields.Field.{Field}
use Rattle.host_base.specs.declared.launch.Launch.{Launch}
use Rattle.host_base.specs.declared.site.Site.{Site}
use Rattle.fcgi_records.specs.declared.kinds.TheConstants.{BEGIN_REQUEST, ABORT_REQUEST, PARAMS, STDIN, GET_VALUES, UNKNOWN_TYPE}
use Rattle.fcgi_records.specs.declared.record.Record.{Record}
use Rattle.fcgi_records.specs.Records.{Reading, read_records}
use Rattle.fcgi_records.specs.RecordLaws.{after_records}
use Rattle.fcgi_records.specs.Pairs.{pairs_of}
use Rattle.fcgi_records.proofs.RecordLaws.{records_join, bad_stays}
use Rattle.fcgi_turns.specs.Texts.{cant_multiplex, unknown_role, unknown_content}
use Rattle.fcgi_turns.specs.Due.{refused, replied}
use Rattle.fcgi_turns.specs.Turns.{Active, Turns, new_active, launch_of, with_due, faulted, aborted, broken, flag_keeps, responder, begin_by, on_begin, faulted_by, on_params, on_stdin, on_active, of_active, values_by, on_management, on_open, on_record, broken_if, on_bytes}
use Rattle.fcgi_turns.specs.RequestLaws.{without_rest, PiecesJoin}

-- ---- what is not read yet changes nothing of what a record does

module _ (rest : List ℕ) (site : Site) where
  abbrev kept : Turns → Turns
  kept t = record t { rest = rest }

  both : (b : Bool) (v u y x : Turns) → v ≡ kept u → y ≡ kept x → cond b v y ≡ kept (cond b u x)
  both true v u y x a z = a
  both false v u y x a z = z

  begin_apart : (t : Turns) (id role : ℕ) (keeps : Bool) (o : Option Active) → begin_by (kept t) id role keeps o ≡ kept (begin_by t id role keeps o)
  begin_apart t id role keeps None =
      both (role == responder) (record (kept t) { active = Some (new_active id keeps); ids = t.ids ++ id ∷ [] }) (record t { active = Some (new_active id keeps); ids = t.ids ++ id ∷ [] })
      (with_due (refused id unknown_role) (kept t)) (with_due (refused id unknown_role) t) refl refl
  begin_apart t id role keeps (Some a) =
      both (a.id == id) (broken (kept t)) (broken t) (with_due (refused id cant_multiplex) (kept t)) (with_due (refused id cant_multiplex) t) refl refl

  on_begin_apart : (t : Turns) (id : ℕ) (content : List ℕ) → on_begin (kept t) id content ≡ kept (on_begin t id content)
  on_begin_apart t id [] = refl
  on_begin_apart t id (a ∷ []) = refl
  on_begin_apart t id (a ∷ b ∷ []) = refl
  on_begin_apart t id (a ∷ b ∷ c ∷ []) = refl
  on_begin_apart t id (a ∷ b ∷ c ∷ d ∷ []) = refl
  on_begin_apart t id (a ∷ b ∷ c ∷ d ∷ e ∷ []) = refl
  on_begin_apart t id (a ∷ b ∷ c ∷ d ∷ e ∷ f ∷ []) = refl
  on_begin_apart t id (a ∷ b ∷ c ∷ d ∷ e ∷ f ∷ g ∷ []) = refl
  on_begin_apart t id (a ∷ b ∷ c ∷ d ∷ e ∷ f ∷ g ∷ h ∷ []) = begin_apart t id (a * 256 + b) (flag_keeps c) t.active
  on_begin_apart t id (a ∷ b ∷ c ∷ d ∷ e ∷ f ∷ g ∷ h ∷ i ∷ more) = refl

  faulted_by_apart : (a : Active) (r : Result Launch Cause) (t : Turns) → faulted_by a r (kept t) ≡ kept (faulted_by a r t)
  faulted_by_apart a (Err cause) t = refl
  faulted_by_apart a (Ok launch) t = refl

  params_apart : (t : Turns) (a : Active) (content : List ℕ) → on_params site (kept t) a content ≡ kept (on_params site t a content)
  params_apart t a [] =
      let whole = record a { params_ended = true } in
      both a.params_ended (kept t) t (faulted_by whole (launch_of site a) (kept t)) (faulted_by whole (launch_of site a) t) refl (faulted_by_apart whole (launch_of site a) t)
  params_apart t a (byte ∷ content) =
      let longer = record a { params = a.params ++ byte ∷ content } in
      let long = ltb site.limits.head (length (a.params ++ byte ∷ content)) in
      let here : Turns = record (kept t) { active = Some longer } in
      let there : Turns = record t { active = Some longer } in
      both a.params_ended (kept t) t (cond long (faulted a HeadTooLong (kept t)) here) (cond long (faulted a HeadTooLong t) there) refl
      (both long (faulted a HeadTooLong (kept t)) (faulted a HeadTooLong t) here there refl refl)

  stdin_apart : (t : Turns) (a : Active) (content : List ℕ) → on_stdin site (kept t) a content ≡ kept (on_stdin site t a content)
  stdin_apart t a [] =
      let whole = record a { stdin_ended = true } in
      both a.stdin_ended (kept t) t (record (kept t) { active = Some whole }) (record t { active = Some whole }) refl refl
  stdin_apart t a (byte ∷ content) =
      let longer = record a { stdin = a.stdin ++ byte ∷ content } in
      let long = ltb site.limits.body (length (a.stdin ++ byte ∷ content)) in
      let here : Turns = record (kept t) { active = Some longer } in
      let there : Turns = record t { active = Some longer } in
      both a.stdin_ended (kept t) t (cond long (faulted a BodyTooLong (kept t)) here) (cond long (faulted a BodyTooLong t) there) refl
      (both long (faulted a BodyTooLong (kept t)) (faulted a BodyTooLong t) here there refl refl)

  active_apart : (t : Turns) (a : Active) (r : Record) → on_active site (kept t) a r ≡ kept (on_active site t a r)
  active_apart t a r =
      let stdin_here = cond (r.kind == STDIN) (on_stdin site (kept t) a r.content) (kept t) in
      let stdin_there = cond (r.kind == STDIN) (on_stdin site t a r.content) t in
      both (r.kind == ABORT_REQUEST) (aborted a (kept t)) (aborted a t)
      (cond (r.kind == PARAMS) (on_params site (kept t) a r.content) stdin_here) (cond (r.kind == PARAMS) (on_params site t a r.content) stdin_there) refl
      (both (r.kind == PARAMS) (on_params site (kept t) a r.content) (on_params site t a r.content) stdin_here stdin_there (params_apart t a r.content)
      (both (r.kind == STDIN) (on_stdin site (kept t) a r.content) (on_stdin site t a r.content) (kept t) t (stdin_apart t a r.content) refl))

  of_active_apart : (t : Turns) (r : Record) (o : Option Active) → of_active site (kept t) r o ≡ kept (of_active site t r o)
  of_active_apart t r None = refl
  of_active_apart t r (Some a) = both (a.id == r.id) (on_active site (kept t) a r) (on_active site t a r) (kept t) t (active_apart t a r) refl

  values_apart : (t : Turns) (o : Option (List Field)) → values_by site (kept t) o ≡ kept (values_by site t o)
  values_apart t None = refl
  values_apart t (Some asked) = refl

  management_apart : (t : Turns) (r : Record) → on_management site (kept t) r ≡ kept (on_management site t r)
  management_apart t r =
      both (r.kind == GET_VALUES) (values_by site (kept t) (pairs_of r.content)) (values_by site t (pairs_of r.content))
      (with_due (replied UNKNOWN_TYPE (unknown_content r.kind)) (kept t)) (with_due (replied UNKNOWN_TYPE (unknown_content r.kind)) t)
      (values_apart t (pairs_of r.content)) refl

  open_apart : (t : Turns) (r : Record) → on_open site (kept t) r ≡ kept (on_open site t r)
  open_apart t r =
      let here = cond (r.kind == BEGIN_REQUEST) (on_begin (kept t) r.id r.content) (of_active site (kept t) r t.active) in
      let there = cond (r.kind == BEGIN_REQUEST) (on_begin t r.id r.content) (of_active site t r t.active) in
      both (r.id == 0) (on_management site (kept t) r) (on_management site t r) here there (management_apart t r)
      (both (r.kind == BEGIN_REQUEST) (on_begin (kept t) r.id r.content) (on_begin t r.id r.content) (of_active site (kept t) r t.active) (of_active site t r t.active)
      (on_begin_apart t r.id r.content) (of_active_apart t r t.active))

  record_apart : (t : Turns) (r : Record) → on_record site (kept t) r ≡ kept (on_record site t r)
  record_apart t r = both (is_some t.over) (kept t) t (on_open site (kept t) r) (on_open site t r) refl (open_apart t r)

  records_apart : (rs : List Record) (t : Turns) → fold (on_record site) (kept t) rs ≡ kept (fold (on_record site) t rs)
  records_apart [] t = refl
  records_apart (r ∷ rs) t = ap (λ (u : Turns). fold (on_record site) u rs) (record_apart t r) ∙ records_apart rs (on_record site t r)

  broken_apart : (bad : Bool) (t : Turns) → broken_if bad (kept t) ≡ kept (broken_if bad t)
  broken_apart bad t = both (bad && not (is_some t.over)) (broken (kept t)) (broken t) (kept t) t refl refl

-- ---- once the connection is to be shut nothing changes

over_stays : (site : Site) (rs : List Record) (t : Turns) → is_some t.over ≡ true → fold (on_record site) t rs ≡ t
over_stays site [] t over = refl
over_stays site (r ∷ rs) t over =
    ap (λ (u : Turns). fold (on_record site) u rs) (cond-true (is_some t.over) t (on_open site t r) over) ∙ over_stays site rs t over

not_broken : (bad over : Bool) (t : Turns) → over ≡ true → cond (bad && not over) (broken t) t ≡ t
not_broken bad false t is = absurd (cc)
not_broken true true t is = refl
not_broken false true t is = refl

over_now : (over : Bool) (t : Turns) → is_some t.over ≡ over → is_some (cond (not over) (broken t) t).over ≡ true
over_now true t is = is
over_now false t is = refl

-- ---- strings joined

module _ (site : Site) (t : Turns) (a b : List ℕ) where
  abbrev first : Reading
  first = read_records (t.rest ++ a)

  abbrev so_far : Turns
  so_far = fold (on_record site) t first.got

  abbrev whole : Reading
  whole = read_records (t.rest ++ (a ++ b))

  abbrev Joins : Type 0
  Joins = without_rest (on_bytes site (on_bytes site t a) b) ≡ without_rest (on_bytes site t (a ++ b))

  as_one : read_records ((t.rest ++ a) ++ b) ≡ whole
  as_one = ap read_records (append_assoc t.rest a b)

  -- the first piece ended in what begins no record
  when_bad : first.bad ≡ true → Joins
  when_bad bad =
      let stays = bad_stays (t.rest ++ a) b bad in
      let got : whole.got ≡ first.got = sym (ap (λ (r : Reading). r.got) as_one) ∙ stays.0 in
      let still : whole.bad ≡ true = sym (ap (λ (r : Reading). r.bad) as_one) ∙ stays.1 in
      let u : Turns = broken_if true so_far in
      let over : is_some (broken_if true so_far).over ≡ true = over_now (is_some so_far.over) so_far refl in
      let one : on_bytes site t a ≡ record (broken_if true so_far) { rest = first.rest } =
      ap (λ (x : Bool). record (broken_if x so_far) { rest = first.rest }) bad in
      let v : Turns = record (broken_if true so_far) { rest = first.rest } in
      let second : Reading = read_records (first.rest ++ b) in
      ap (λ (w : Turns). without_rest (on_bytes site w b)) one
      ∙ ap (λ (w : Turns). without_rest (broken_if second.bad w)) (over_stays site second.got v over)
      ∙ ap without_rest (not_broken second.bad (is_some v.over) v over)
      ∙ sym (ap (λ (rs : List Record). without_rest (broken_if whole.bad (fold (on_record site) t rs))) got
      ∙ ap (λ (x : Bool). without_rest (broken_if x so_far)) still)

  when_good : first.bad ≡ false → Joins
  when_good good =
      let second : Reading = read_records (first.rest ++ b) in
      let all : whole ≡ after_records first.got second = sym as_one ∙ records_join (t.rest ++ a) b good in
      let one : on_bytes site t a ≡ record so_far { rest = first.rest } = ap (λ (x : Bool). record (broken_if x so_far) { rest = first.rest }) good in
      ap (λ (w : Turns). without_rest (on_bytes site w b)) one
      ∙ ap (λ (w : Turns). without_rest (broken_if second.bad w)) (records_apart first.rest site second.got so_far)
      ∙ ap without_rest (broken_apart first.rest site second.bad (fold (on_record site) so_far second.got))
      ∙ sym (ap (λ (r : Reading). without_rest (broken_if r.bad (fold (on_record site) t r.got))) all
      ∙ ap (λ (w : Turns). without_rest (broken_if second.bad w)) (fold-append (on_record site) t first.got second.got))

  joins_if : (bad : Bool) → first.bad ≡ bad → Joins
  joins_if true bad = when_bad bad
  joins_if false good = when_good good

pub pieces_join : PiecesJoin
pieces_join site t a b = joins_if site t a b (read_records (t.rest ++ a)).bad refl
