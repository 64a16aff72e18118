-- The events of a run up to Stop are those of its list that fit.
use Rattle.std.proofs.Common.{◌≡◌, ℕ, suc, ◌+◌, ◌-◌, Bool, true, false, ◌||◌, List, [], ◌∷◌, ◌++◌, ◌⊎◌, inl, inr, ◌∙◌, refl, sym, ap, subst, append_assoc, arith}
use Rattle.std.specs.Prelude.{◌==◌}
use Rattle.std.proofs.lemmas.Bool.{cases_Bool, cond-false, ne_eqb, or_parts}
use Rattle.host_trace.specs.declared.items.Act.{Act}
use Rattle.host_trace.specs.declared.items.Event.{Event}
use Rattle.host_trace.specs.declared.items.Event.TheVariants.{Accepted, ClientBytes, ClientEof, ClientGone, Wrote, Started, StartFailed, StartFull, ChildBytes, ChildEof, ChildBroken, Took, InputGone, Exited, WsText, WsBinary, WsClosed, WsBad, NoRoom, Tick, Stop}
use Rattle.host_trace.specs.declared.items.Item.{Item}
use Rattle.host_trace.specs.declared.items.Item.TheVariants.{In, Out}
use Rattle.host_trace.specs.Fits.{fits}
use Rattle.host_trace.specs.Kinds.{is_stop}
use Rattle.host_trace.specs.Projections.{stopped}
use Rattle.memory_world.specs.NextEvent.{next_event, left_listed}
use Rattle.sample_parts.proofs.StopLaws.{StopsLast}
use Rattle.sample_run.specs.Run.{before_event, fitting, heard_to_stop}
use Rattle.sample_run.specs.Takes.{events_of, named}

-- Stop comes where none came before
stop_fits : (limit : ℕ) (T : List Item) (event : Event) → is_stop (In event) ≡ true → stopped T ≡ false → fits limit T event ≡ true
stop_fits limit T Stop is none = rw none refl
stop_fits limit T (Accepted peer) is none = absurd (cc)
stop_fits limit T (ClientBytes c bytes) is none = absurd (cc)
stop_fits limit T (ClientEof c) is none = absurd (cc)
stop_fits limit T (ClientGone c) is none = absurd (cc)
stop_fits limit T (Wrote c n) is none = absurd (cc)
stop_fits limit T (Started k) is none = absurd (cc)
stop_fits limit T (StartFailed k) is none = absurd (cc)
stop_fits limit T (StartFull k seen) is none = absurd (cc)
stop_fits limit T (ChildBytes k bytes) is none = absurd (cc)
stop_fits limit T (ChildEof k) is none = absurd (cc)
stop_fits limit T (ChildBroken k) is none = absurd (cc)
stop_fits limit T (Took k n) is none = absurd (cc)
stop_fits limit T (InputGone k) is none = absurd (cc)
stop_fits limit T (Exited k) is none = absurd (cc)
stop_fits limit T (WsText c bytes) is none = absurd (cc)
stop_fits limit T (WsBinary c) is none = absurd (cc)
stop_fits limit T (WsClosed c) is none = absurd (cc)
stop_fits limit T (WsBad c) is none = absurd (cc)
stop_fits limit T (NoRoom c) is none = absurd (cc)
stop_fits limit T (Tick secs) is none = absurd (cc)

-- ---- the next event is the first that fits

pub record NextIs (limit : ℕ) (T : List Item) (number : ℕ) (before : List Item) (listed : List Event) (event : Event) (left : List Event) : Type 0 where
  pub rest : ((is_stop (In event) ≡ true) × (fitting limit T number listed ≡ event ∷ []))
      ⊎ ((is_stop (In event) ≡ false) × StopsLast left × (fitting limit T number listed ≡ event ∷ fitting limit T (number + 1) left))

module _ (limit : ℕ) (T : List Item) (number : ℕ) (before : List Item) (at : before_event number T ≡ before) (none : stopped before ≡ false) where
  fits_at : (event : Event) (b : Bool) → fits limit before event ≡ b → fits limit (before_event number T) event ≡ b
  fits_at event b is = rw at is

  pub next_is : (listed : List Event) → StopsLast listed → NextIs limit T number before listed (next_event false limit before listed) (left_listed false limit before listed)
  next_is [] last = absurd last
  next_is (event ∷ events) (inl (stop, alone)) =
      let f : fits limit before event ≡ true = stop_fits limit before event stop none in
      let g : fits limit (before_event number T) event ≡ true = fits_at event true f in
      record { rest = rw f (inl (stop, rw (g, alone) refl)) }
  next_is (event ∷ events) (inr (other, last)) =
      elim (cases_Bool (fits limit before event)) [
        | inl f ↦
            let g : fits limit (before_event number T) event ≡ true = fits_at event true f in
            record { rest = rw f (inr (other, last, rw g refl)) }
        | inr f ↦
            let g : fits limit (before_event number T) event ≡ false = fits_at event false f in
            record { rest = rw (f, g) ((next_is events last).rest) }
      ]

-- ---- the whole run

-- how many events there were
abbrev pub heard_count : List Item → ℕ
heard_count [] = 0
heard_count (In event ∷ T) = suc (heard_count T)
heard_count (Out act ∷ T) = heard_count T

at_event : (before : List Item) (event : Event) (rest : List Item) → before_event (heard_count before) (before ++ In event ∷ rest) ≡ before
at_event [] event rest = refl
at_event (In x ∷ before) event rest =
    let n = heard_count before in
    let e : suc n - 1 ≡ n = omega arith in
    cond-false (suc n == 0) [] (In x ∷ before_event (suc n - 1) (before ++ In event ∷ rest)) (ne_eqb (suc n) 0 (λ h. absurd (omega (arith, h))))
    ∙ ap (λ (m : ℕ). In x ∷ before_event m (before ++ In event ∷ rest)) e ∙ ap (λ (U : List Item). In x ∷ U) (at_event before event rest)
at_event (Out act ∷ before) event rest = ap (λ (T : List Item). Out act ∷ T) (at_event before event rest)

count_heard : (before : List Item) (event : Event) → heard_count (before ++ In event ∷ []) ≡ heard_count before + 1
count_heard [] event = refl
count_heard (In x ∷ before) event =
    let more : heard_count (before ++ In event ∷ []) ≡ heard_count before + 1 = count_heard before event in
    omega arith
count_heard (Out act ∷ before) event = count_heard before event

count_done : (before : List Item) (act : Act) → heard_count (before ++ Out act ∷ []) ≡ heard_count before
count_done [] act = refl
count_done (In x ∷ before) act = ap (λ n. suc n) (count_done before act)
count_done (Out a ∷ before) act = count_done before act

or_from_both : (a b : Bool) → a ≡ false → b ≡ false → a || b ≡ false
or_from_both a b e f = rw (e, f) refl

not_stopped : (before : List Item) (x : Item) → stopped before ≡ false → is_stop x ≡ false → stopped (before ++ x ∷ []) ≡ false
not_stopped [] x none other = rw other refl
not_stopped (y ∷ before) x none other =
    let parts = or_parts (is_stop y) (stopped before) none in
    or_from_both (is_stop y) (stopped (before ++ x ∷ [])) parts.0 (not_stopped before x parts.1 other)

stopped_later : (x : Item) (items : List Item) → is_stop x ≡ false → stopped (x ∷ items) ≡ true → stopped items ≡ true
stopped_later x items other all = rw other at all

module _ (limit : ℕ) (T : List Item) where
  pub run_is : (before items : List Item) (listed : List Event) → T ≡ before ++ items → stopped before ≡ false → stopped items ≡ true → StopsLast listed →
      events_of items ≡ named limit before items listed → heard_to_stop items ≡ fitting limit T (heard_count before) listed
  run_is before [] listed whole none all last names = absurd (cc)
  run_is before (Out act ∷ items) listed whole none all last names =
      run_is (before ++ Out act ∷ []) items listed (whole ∙ sym (append_assoc before (Out act ∷ []) items)) (not_stopped before (Out act) none refl) all last names
      ∙ ap (λ n. fitting limit T n listed) (count_done before act)
  run_is before (In event ∷ items) listed whole none all last names =
      let number = heard_count before in
      let at : before_event number T ≡ before = subst (λ (U : List Item). before_event number U ≡ before) (sym whole) (at_event before event items) in
      let left : List Event = left_listed false limit before listed in
      let same : event ≡ next_event false limit before listed = cc in
      let rest : events_of items ≡ named limit (before ++ In event ∷ []) items left = cc in
      let is : NextIs limit T number before listed event left = subst (λ (x : Event). NextIs limit T number before listed x left) (sym same) (next_is limit T number before at none listed last) in
      elim (is.rest) [
        | inl stop ↦ rw (stop.0) (sym stop.1)
        | inr other ↦
            let more : heard_to_stop items ≡ fitting limit T (heard_count (before ++ In event ∷ [])) left =
            run_is (before ++ In event ∷ []) items left (whole ∙ sym (append_assoc before (In event ∷ []) items)) (not_stopped before (In event) none other.0) (stopped_later (In event) items other.0 all) other.1 rest in
            rw (other.0) (ap (λ (es : List Event). event ∷ es) (more ∙ ap (λ n. fitting limit T n left) (count_heard before event)) ∙ sym other.2)
      ]
