-- Where memory ran out; and the end of a step.
use Rattle.std.proofs.Common.{◌≡◌, ℕ, List, [], ◌∷◌, ◌++◌, Bool, true, false, refl, sym, ◌∙◌, ap, Some, append-nil, append_assoc, map, subst, inl, inr}
use Rattle.std.specs.Prelude.{if◌then◌else◌, is_some, option_and_then, filter, bytes_eq, nat_eq}
use Rattle.std.specs.List.{list_any, starts_with}
use Rattle.std.proofs.lemmas.Bool.{cases_Bool, and_from, eq-eqb}
use Rattle.std.proofs.lemmas.List.{map-append}
use Rattle.host_trace.specs.declared.items.Event.TheVariants.{WsText}
use Rattle.host_trace.specs.declared.items.Item.{Item}
use Rattle.host_trace.specs.declared.items.Item.TheVariants.{In, Out}
use Rattle.host_trace.specs.First.{first_front_from, first_front, last_of}
use Rattle.host_trace.specs.Kinds.{is_event, texts_heard}
use Rattle.host_trace.specs.Projections.{said, shut}
use Rattle.host_trace.proofs.FirstLaws.{last_of-append}
use Rattle.host_trace.proofs.ProjectionLaws.{said-push}
use Rattle.head_lines.specs.Lines.{with_lf}
use Rattle.trace_child.specs.Run.{Run}
use Rattle.trace_model.specs.Sameness.{are_same, begins_list}
use Rattle.trace_model.specs.Talk.{texts_due, pieces_fed, codes_sent, code_due, ends_input, ends_talk, is_short}
use Rattle.trace_model.proofs.SamenessLaws.{are_same-refl, bytes_eq-refl}
use Rattle.child_core.proofs.TellLaws.{wants_are}
use Rattle.talk_core.specs.Setting.{setting, texts_taken}
use Rattle.talk_core.specs.Knows.{Begins, run_of, waiting, codes}
use Rattle.talk_core.specs.Laws.{LossesAreKnown, PartsStay, EndsAreTalked, PartsAreTalked, OverIsExact, TextsAreWanted}
use Rattle.talk_core.proofs.ItemLaws.{texts_out, texts_stay, taken_past, taken_quiet, taken_more, pieces_fed-push, codes_sent-push, code_stays, code_none}
use Rattle.talk_core.proofs.HearLaws.{unfed_none}

pub losses_are_known : LossesAreKnown
losses_are_known c limits t v L k = record {
  over = refl;
  texts = refl;
  code = refl;
  said = record { rest = t.texts; is = k.said };
  fed = record { rest = waiting v.unfed; is = k.fed };
  codes = record { rest = codes t.code; is = k.code };
}

-- ---- one more item

empty_front : (a b : List ℕ) → a ++ b ≡ [] → a ≡ []
empty_front [] b e = refl
empty_front (x ∷ a) b e = absurd (cc)

module _ (run : Run) (L : List Item) where
  due_same : (x : Item) → (is_event x ≡ true → shut L run.conn ≡ true) → texts_due run (L ++ x ∷ []) ≡ texts_due run L
  due_same (In ev) e = texts_stay run L (In ev) (e refl)
  due_same (Out act) e = texts_out run L act

  -- what there is for the input only grows
  record Grows (x : Item) : Type 0 where
    more : List (List ℕ)
    is : texts_taken run.conn run.child run.limits.ws_text (L ++ x ∷ []) ≡ texts_taken run.conn run.child run.limits.ws_text L ++ more

  -- x may itself end the input: then nothing is heard with it
  heard_or_ends : (x : Item) → ends_input run.child x ≡ true → texts_heard run.conn x ≡ []
  heard_or_ends (In (WsText d bytes)) e = absurd (cc)
  heard_or_ends x e = refl

  grows : (x : Item) → Grows x
  grows x = elim (cases_Bool (list_any (ends_input run.child) L)) [
    | inl past ↦ record { more = []; is = taken_past run.conn run.child run.limits.ws_text L x past ∙ sym (append-nil _) }
    | inr going ↦ elim (cases_Bool (ends_input run.child x)) [
      | inl last ↦ record { more = []; is = taken_quiet run.conn run.child run.limits.ws_text L x (heard_or_ends x last) ∙ sym (append-nil _) }
      | inr on ↦ record { more = filter (is_short run.limits.ws_text) (texts_heard run.conn x); is = taken_more run.conn run.child run.limits.ws_text L x going on }
    ]
  ]

pub parts_stay : PartsStay
parts_stay run t L x k n shut_then =
    let g = grows run L x in
    let same : said (L ++ x ∷ []) run.conn ≡ said L run.conn = said-push L x run.conn ∙ (ap (λ l. said L run.conn ++ l) n.said ∙ append-nil _) in
    let pieces : pieces_fed (L ++ x ∷ []) run.child ≡ pieces_fed L run.child = pieces_fed-push L x run.child ∙ (ap (λ l. pieces_fed L run.child ++ l) n.fed ∙ append-nil _) in
    let sent : codes_sent (L ++ x ∷ []) run.conn ≡ codes_sent L run.conn = codes_sent-push L x run.conn ∙ (ap (λ l. codes_sent L run.conn ++ l) n.sent ∙ append-nil _) in
    record {
      over = k.over;
      texts = k.texts;
      code = k.code;
      said = record { rest = k.said.rest; is = ap (λ l. l ++ k.said.rest) same ∙ (k.said.is ∙ sym (due_same run L x shut_then)) };
      fed = record {
        rest = k.fed.rest ++ map with_lf g.more;
        is =
            ap (λ l. l ++ (k.fed.rest ++ map with_lf g.more)) pieces
            ∙ (sym (append_assoc (pieces_fed L run.child) k.fed.rest (map with_lf g.more))
            ∙ (ap (λ l. l ++ map with_lf g.more) k.fed.is
            ∙ (sym (map-append with_lf (texts_taken run.conn run.child run.limits.ws_text L) g.more) ∙ ap (map with_lf) (sym g.is))));
      };
      codes = elim (cases_Bool (is_some (first_front (ends_talk run) L))) [
        | inl ended ↦ record { rest = k.codes.rest; is = ap (λ l. l ++ k.codes.rest) sent ∙ (k.codes.is ∙ sym (code_stays run L x ended)) }
        | inr on ↦ record {
          rest = code_due run (L ++ x ∷ []);
          is = ap (λ l. l ++ code_due run (L ++ x ∷ [])) (sent ∙ empty_front _ k.codes.rest (k.codes.is ∙ code_none run L x on));
        }
      ];
    }

-- ---- the tests

same_lists : (xs ys : List (List ℕ)) → xs ≡ ys → are_same bytes_eq xs ys ≡ true
same_lists xs ys is = subst (λ l. are_same bytes_eq xs l ≡ true) is (are_same-refl bytes_eq bytes_eq-refl xs)

same_bytes : (xs ys : List ℕ) → xs ≡ ys → bytes_eq xs ys ≡ true
same_bytes xs ys is = subst (λ l. bytes_eq xs l ≡ true) is (bytes_eq-refl xs)

begins_front : (xs rest : List (List ℕ)) → begins_list bytes_eq xs (xs ++ rest) ≡ true
begins_front [] rest = refl
begins_front (x ∷ xs) rest = and_from _ _ (bytes_eq-refl x) (begins_front xs rest)

begins : (xs ys : List (List ℕ)) → Begins xs ys → begins_list bytes_eq xs ys ≡ true
begins xs ys b = subst (λ l. begins_list bytes_eq xs l ≡ true) b.is (begins_front xs b.rest)

starts_front : (xs rest : List ℕ) → starts_with nat_eq (xs ++ rest) xs ≡ true
starts_front [] rest = refl
starts_front (x ∷ xs) rest = and_from _ _ (eq-eqb x x refl) (starts_front xs rest)

pub ends_are_talked : EndsAreTalked
ends_are_talked early c limits t v L s texts code fed =
    and_from _ _
    (and_from _ _
    (same_lists _ _ (sym (append-nil _) ∙ (ap (λ l. said L c ++ l) (sym texts) ∙ s.talk.said)))
    (same_lists _ _ (sym (append-nil _) ∙ (ap (λ u. pieces_fed L v.number ++ waiting u) (sym (unfed_none v s.talk.due fed)) ∙ s.talk.fed))))
    (same_bytes _ _ (sym (append-nil _) ∙ (ap (λ o. codes_sent L c ++ codes o) (sym code) ∙ s.talk.code)))

pub parts_are_talked : PartsAreTalked
parts_are_talked run t L k =
    and_from _ _
    (and_from _ _ (begins _ _ k.said) (begins _ _ k.fed))
    (subst (λ l. starts_with nat_eq l (codes_sent L run.conn) ≡ true) k.codes.is (starts_front (codes_sent L run.conn) k.codes.rest))

-- ---- what it tells

some_last : (test : List Item → Item → Bool) (before items : List Item) → is_some (option_and_then last_of (first_front_from test before items)) ≡ is_some (first_front_from test before items)
some_last test before [] = refl
some_last test before (x ∷ items) =
    elim (test before x) as (λ b. is_some (option_and_then last_of (if b then Some (before ++ x ∷ []) else first_front_from test (before ++ x ∷ []) items))
    ≡ is_some (if b then Some (before ++ x ∷ []) else first_front_from test (before ++ x ∷ []) items)) [
      | true ↦ ap is_some (last_of-append before (x ∷ []))
      | false ↦ some_last test (before ++ x ∷ []) items
    ]

pub over_is_exact : OverIsExact
over_is_exact early c limits t v L s = s.talk.over ∙ sym (some_last (ends_talk (run_of c limits v)) [] L)

pub texts_are_wanted : TextsAreWanted
texts_are_wanted early c limits t v L s = (wants_are early (setting c v.number limits) v L s.run).text s.talk.kind
