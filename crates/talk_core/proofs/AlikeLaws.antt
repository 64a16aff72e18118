-- The rules on a talk don't depend on what there is for its child's input.
use Rattle.std.proofs.Common.{◌≡◌, List, [], ◌∷◌, ◌++◌, Bool, true, false, ◌||◌, ◌&&◌, refl, sym, ◌∙◌, ap, Some, append_assoc, inl, inr}
use Rattle.std.specs.Prelude.{if◌then◌else◌, ◌==◌, not, option_and_then, bytes_eq, nat_eq}
use Rattle.std.specs.List.{starts_with}
use Rattle.std.proofs.lemmas.Bool.{cases_Bool}
use Rattle.host_trace.specs.declared.items.Event.TheVariants.{ClientEof}
use Rattle.host_trace.specs.declared.items.Item.{Item}
use Rattle.host_trace.specs.declared.items.Item.TheVariants.{In}
use Rattle.host_trace.specs.First.{since, first_front_from, last_of}
use Rattle.host_trace.specs.Kinds.{is_start, is_ws_closed}
use Rattle.host_trace.specs.Projections.{said, start_stands}
use Rattle.host_trace.specs.Decider.{decides, is_websocket}
use Rattle.trace_child.specs.Run.{Run, Offer}
use Rattle.trace_child.specs.Decided.{cuts_body_short, decides_run, decided_at}
use Rattle.trace_model.specs.Sameness.{are_same, begins_list}
use Rattle.trace_model.specs.Talk.{texts_due, input_due, pieces_fed, codes_sent, code_at, ends_talk, talk_end}
use Rattle.child_core.proofs.ActLaws.{and_false}
use Rattle.talk_core.specs.Laws.{InputsAreAlike, AreAlike, IsOfferedWhole, offered_else}

cut_none : (run : Run) (front : List Item) (x : Item) → (run.offered front).whole ≡ true → cuts_body_short run front x ≡ false
cut_none run front (In (ClientEof d)) w = ap (λ b. run.conn == d && not b) w ∙ and_false (run.conn == d)
cut_none run front x w = refl

same_front : (f g : List Item → Item → Bool) (before items : List Item) → ((front : List Item) (x : Item) (later : List Item) → before ++ items ≡ front ++ x ∷ later → f front x ≡ g front x)
    → first_front_from f before items ≡ first_front_from g before items
same_front f g before [] same = refl
same_front f g before (x ∷ items) same =
    ap (λ b. if b then Some (before ++ x ∷ []) else first_front_from f (before ++ x ∷ []) items) (same before x items refl)
    ∙ ap (λ r. if g before x then Some (before ++ x ∷ []) else r)
    (same_front f g (before ++ x ∷ []) items (λ front y later e. same front y later (sym (append_assoc before (x ∷ []) items) ∙ e)))

module _ (run : Run) (offered : List Item → Offer) (items : List Item) (talks : is_websocket run.kind ≡ true) (own : IsOfferedWhole run.offered run.child items) (other : IsOfferedWhole offered run.child items) where
  decides_same : (front : List Item) (x : Item) (later : List Item) → items ≡ front ++ x ∷ later → decides_run (offered_else run offered) front x ≡ decides_run run front x
  decides_same front x later e = elim (cases_Bool (start_stands front run.child)) [
    | inl begun ↦
        ap (λ b. start_stands front run.child && (decides run.limits run.kind run.conn run.child (since (is_start run.child) front) x || b))
        (cut_none (offered_else run offered) front x (other front x later e begun) ∙ sym (cut_none run front x (own front x later e begun)))
    | inr unbegun ↦
        ap (λ b. b && (decides run.limits run.kind run.conn run.child (since (is_start run.child) front) x || cuts_body_short (offered_else run offered) front x)) unbegun
        ∙ sym (ap (λ b. b && (decides run.limits run.kind run.conn run.child (since (is_start run.child) front) x || cuts_body_short run front x)) unbegun)
  ]

  decided_same : decided_at (offered_else run offered) items ≡ decided_at run items
  decided_same = same_front (decides_run (offered_else run offered)) (decides_run run) [] items decides_same

  end_same : talk_end (offered_else run offered) items ≡ talk_end run items
  end_same =
      ap (option_and_then last_of)
      (same_front (ends_talk (offered_else run offered)) (ends_talk run) [] items (λ front x later e. ap (λ b. b || is_ws_closed run.conn x) (decides_same front x later e)))

  pub alike : AreAlike run offered items
  alike = record {
    ended_by = end_same;
    talked =
        ap (λ x. are_same bytes_eq (said items run.conn) (texts_due run items) && are_same bytes_eq (pieces_fed items run.child) (input_due run items)
        && bytes_eq (codes_sent items run.conn) (code_at run.conn run.child x)) end_same;
    in_part =
        ap (λ x. begins_list bytes_eq (said items run.conn) (texts_due run items) && begins_list bytes_eq (pieces_fed items run.child) (input_due run items)
        && starts_with nat_eq (code_at run.conn run.child x) (codes_sent items run.conn)) end_same;
    child = λ room before acts g. record {
      account = g.account;
      bodies = rw talks refl;
      acts_due = rw (decided_same, talks) (rw talks at g.acts_due);
      feeds = rw talks refl;
      handles_decided = rw decided_same g.handles_decided;
      lingers = rw (decided_same, talks) (rw talks at g.lingers);
      stops = g.stops;
    };
  }

pub inputs_are_alike : InputsAreAlike
inputs_are_alike run offered items talks own other = alike run offered items talks own other
