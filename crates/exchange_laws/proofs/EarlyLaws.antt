-- Where the end of the client's input cut a run short the request isn't whole, and stays so.
use Rattle.std.proofs.Common.{◌≡◌, ℕ, zero, suc, Bool, true, false, List, [], ◌∷◌, ◌++◌, Option, Some, None, refl, sym, ap, ◌∙◌}
use Rattle.std.specs.Prelude.{◌||◌, ◌&&◌, ◌==◌, not, if◌then◌else◌, option_map}
use Rattle.std.specs.List.{list_any}
use Rattle.std.proofs.lemmas.Bool.{false≢true, or_left, or_right}
use Rattle.std.proofs.lemmas.List.Folds.{list_any-append}
use Rattle.host_base.specs.declared.cause.Cause.{Cause}
use Rattle.host_base.specs.declared.cause.Cause.TheVariants.{Full, Incomplete, OutputBroken, OutputTooLarge, RunTime, StartFailed}
use Rattle.host_base.specs.declared.site.Site.{Site}
use Rattle.host_trace.specs.declared.items.Event.TheVariants.{ClientBytes, ClientEof}
use Rattle.host_trace.specs.declared.items.Item.{Item}
use Rattle.host_trace.specs.declared.items.Item.TheVariants.{In}
use Rattle.host_trace.specs.Decider.{derived, failed, unanswered, is_websocket, seen_by}
use Rattle.host_trace.specs.First.{last_of, or_else, since}
use Rattle.host_trace.specs.Kinds.{bytes_heard, is_child_broken, is_child_bytes, is_child_eof, is_client_eof, is_start, is_start_failed, is_start_full, is_tick}
use Rattle.host_trace.specs.Projections.{shut, start_stands}
use Rattle.host_trace.proofs.FirstLaws.{last_of-append}
use Rattle.trace_child.specs.ChildLaws.{IsFirst}
use Rattle.trace_child.specs.Decided.{decided_at, decides_run, outcome_at, outcome_of}
use Rattle.trace_child.specs.Run.{Run}
use Rattle.trace_child.proofs.DecidedLaws.{decided_at-push, decided_at-stays, is_first}
use Rattle.trace_model.specs.Closes.{is_closing_cause}
use Rattle.trace_model.specs.Demands.{client_ended}
use Rattle.trace_model.specs.Exchange.{Exchange, pushed, reading, up_to}
use Rattle.trace_model.specs.Legs.{Leg, offered_at, run_of}
use Rattle.trace_model.specs.Readings.{is_whole}
use Rattle.conn_laws.proofs.QuietLaws.{reading-quiet}
use Rattle.conn_laws.proofs.StartLaws.{output_stays}
use Rattle.exchange_laws.proofs.RunLaws.{outcome_by_front}

-- ---- what such an item is

some_cause : (a b : Cause) → failed a ≡ failed b → a ≡ b
some_cause a b is = cc

mild : (a b : Cause) → failed a ≡ failed b → is_closing_cause a ≡ false → is_closing_cause b ≡ true → ⊥
mild a b is quiet closing = absurd (false≢true (sym quiet ∙ ap is_closing_cause (some_cause a b is) ∙ closing))

none_closing : (ended a b d ws f g : Bool) (seen : ℕ) (cause : Cause)
    → (if ended then derived
    else (if a then failed StartFailed
    else (if b then failed (Full seen)
    else (if d then failed OutputBroken else (if ws then unanswered else (if f then failed OutputTooLarge else (if g then failed RunTime else unanswered))))))) ≡ failed cause
    → is_closing_cause cause ≡ true → ⊥
none_closing true a b d ws f g seen cause is closing = absurd (cc)
none_closing false true b d ws f g seen cause is closing = mild StartFailed cause is refl closing
none_closing false false true d ws f g seen cause is closing = mild (Full seen) cause is refl closing
none_closing false false false true ws f g seen cause is closing = mild OutputBroken cause is refl closing
none_closing false false false false true f g seen cause is closing = absurd (cc)
none_closing false false false false false true g seen cause is closing = mild OutputTooLarge cause is refl closing
none_closing false false false false false false true seen cause is closing = mild RunTime cause is refl closing
none_closing false false false false false false false seen cause is closing = absurd (cc)

-- it is the end of the client's input
pub closing_by_end : (run : Run) (x : Item) (cause : Cause) → outcome_at run x ≡ failed cause → is_closing_cause cause ≡ true → is_client_eof run.conn x ≡ true
closing_by_end run x cause is closing = go (is_client_eof run.conn x) is
  where
    go : (gone : Bool)
        → (if gone then failed Incomplete
        else (if is_child_eof run.child x then derived
        else (if is_start_failed run.child x then failed StartFailed
        else (if is_start_full run.child x then failed (Full (seen_by x))
        else (if is_child_broken run.child x then failed OutputBroken
        else (if is_websocket run.kind then unanswered
        else (if is_child_bytes run.child x then failed OutputTooLarge else (if is_tick x then failed RunTime else unanswered)))))))) ≡ failed cause → gone ≡ true
    go true is = refl
    go false is =
        absurd (none_closing (is_child_eof run.child x) (is_start_failed run.child x) (is_start_full run.child x) (is_child_broken run.child x)
        (is_websocket run.kind) (is_child_bytes run.child x) (is_tick x) (seen_by x) cause is closing)

-- .. within the body
cuts_at : (stands ws was conn whole : Bool)
    → (stands && ((false || false || false || false || (false || false || false || false || false || false) || (if ws then not was && (false || false) else false || false)) || conn && not whole)) ≡ true
    → ws ≡ false → whole ≡ false
cuts_at true ws was conn false is plain = refl
cuts_at true true was conn true is plain = absurd (false≢true (sym plain))
cuts_at true false was true true is plain = absurd (false≢true is)
cuts_at true false was false true is plain = absurd (false≢true is)
cuts_at false ws was conn whole is plain = absurd (false≢true is)

end_cuts : (run : Run) (front : List Item) (x : Item) → is_client_eof run.conn x ≡ true → decides_run run front x ≡ true → is_websocket run.kind ≡ false
    → (run.offered front).whole ≡ false
end_cuts run front (In (ClientEof d)) eof now plain =
    cuts_at (start_stands front run.child) (is_websocket run.kind) (shut (since (is_start run.child) front) run.conn) (run.conn == d) (run.offered front).whole now plain
end_cuts run front x eof now plain = absurd (false≢true eof)

eof_quiet : (c : ℕ) (x : Item) → is_client_eof c x ≡ true → bytes_heard c x ≡ []
eof_quiet c (In (ClientBytes d bytes)) eof = absurd (false≢true eof)
eof_quiet c x eof = refl

-- ---- one more item

decides_now : (run : Run) (items front : List Item) (x : Item) → decided_at run items ≡ None → decided_at run (items ++ x ∷ []) ≡ Some front → decides_run run items x ≡ true
decides_now run items front x none is = go (decides_run run items x) refl
  where
    go : (b : Bool) → decides_run run items x ≡ b → decides_run run items x ≡ true
    go true now = now
    go false now =
        let never : None ≡ Some front =
        sym (decided_at-push run items x ∙ ap (λ o. or_else o (if decides_run run items x then Some (items ++ x ∷ []) else None)) none
        ∙ ap (λ (b : Bool). if b then Some (items ++ x ∷ []) else None) now) ∙ is in
        absurd (cc)

module _ (site : Site) (c : ℕ) (e : Exchange) (x : Item) (leg : Leg) (plain : is_websocket leg.kind ≡ false)
    (unended : client_ended c e.items ≡ true → bytes_heard c x ≡ [])
    (early : (cause : Cause) → outcome_of (run_of site c e leg) e.items ≡ Some (failed cause) → is_closing_cause cause ≡ true → is_whole (reading site c e) ≡ false) where
  abbrev run : Run
  run = run_of site c e leg

  -- it stands among the items
  ended_by : (front : List Item) (cause : Cause) → decided_at run e.items ≡ Some front → outcome_of run e.items ≡ Some (failed cause) → is_closing_cause cause ≡ true
      → client_ended c e.items ≡ true
  ended_by front cause was comes closing =
      let f : IsFirst run e.items front = is_first run e.items front was in
      let last_is : last_of front ≡ Some f.item = ap last_of f.ends ∙ last_of-append f.before (f.item ∷ []) in
      let outcome_is : Some (outcome_at run f.item) ≡ Some (failed cause) =
      sym (outcome_by_front run e.items (Some front) was ∙ ap (option_map (outcome_at run)) last_is) ∙ comes in
      let eof : is_client_eof c f.item ≡ true = closing_by_end run f.item cause (cc) closing in
      ap (list_any (is_client_eof c)) (f.within ∙ ap (λ g. g ++ f.later) f.ends)
      ∙ list_any-append (is_client_eof c) (f.before ++ f.item ∷ []) f.later
      ∙ or_left (list_any (is_client_eof c) (f.before ++ f.item ∷ [])) (list_any (is_client_eof c) f.later)
      (list_any-append (is_client_eof c) f.before (f.item ∷ [])
      ∙ or_right (list_any (is_client_eof c) f.before) (is_client_eof c f.item || false) (or_left (is_client_eof c f.item) false eof))

  cut_within : (hop : ℕ) → (offered_at site c (up_to e []) hop e.items).whole ≡ false → is_whole (reading site c e) ≡ false
  cut_within zero is = is
  cut_within (suc hop) is = absurd (false≢true (sym is))

  pub early-push : (cause : Cause) → outcome_of run (e.items ++ x ∷ []) ≡ Some (failed cause) → is_closing_cause cause ≡ true → is_whole (reading site c (pushed e x)) ≡ false
  early-push cause comes closing = go (decided_at run e.items) refl
    where
      same : bytes_heard c x ≡ [] → is_whole (reading site c e) ≡ false → is_whole (reading site c (pushed e x)) ≡ false
      same none is = ap is_whole (reading-quiet site c e x none) ∙ is

      at_now : (front : List Item) → decided_at run e.items ≡ None → decided_at run (e.items ++ x ∷ []) ≡ Some front → is_whole (reading site c (pushed e x)) ≡ false
      at_now front none is =
          let all = (output_stays site c e leg x).decided_now none front is in
          let last_is : Some (outcome_at run x) ≡ Some (failed cause) =
          sym (outcome_by_front run (e.items ++ x ∷ []) (Some front) is ∙ ap (λ g. option_map (outcome_at run) (last_of g)) all
          ∙ ap (option_map (outcome_at run)) (last_of-append e.items (x ∷ []))) ∙ comes in
          let eof : is_client_eof c x ≡ true = closing_by_end run x cause (cc) closing in
          same (eof_quiet c x eof) (cut_within leg.hop (end_cuts run e.items x eof (decides_now run e.items front x none is) plain))

      go : (o : Option (List Item)) → decided_at run e.items ≡ o → is_whole (reading site c (pushed e x)) ≡ false
      go (Some f) was =
          let before : outcome_of run e.items ≡ Some (failed cause) =
          outcome_by_front run e.items (Some f) was
          ∙ sym (outcome_by_front run (e.items ++ x ∷ []) (Some f) (decided_at-stays run e.items (x ∷ []) f was)) ∙ comes in
          same (unended (ended_by f cause was before closing)) (early cause before closing)
      go None none = now (decided_at run (e.items ++ x ∷ [])) refl
        where
          now : (o : Option (List Item)) → decided_at run (e.items ++ x ∷ []) ≡ o → is_whole (reading site c (pushed e x)) ≡ false
          now None is =
              let never : None ≡ Some (failed cause) = sym (outcome_by_front run (e.items ++ x ∷ []) None is) ∙ comes in absurd (cc)
          now (Some front) is = at_now front none is
