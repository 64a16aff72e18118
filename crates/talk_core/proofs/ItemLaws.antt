-- One more item: what is due of a talk, and what stands of it.
use Rattle.std.proofs.Common.{◌≡◌, ℕ, List, [], ◌∷◌, ◌++◌, Bool, true, false, ◌||◌, refl, sym, ◌∙◌, ap, Option, Some, None, append-nil, inl, inr}
use Rattle.std.specs.Prelude.{if◌then◌else◌, is_some, option_and_then, filter}
use Rattle.std.specs.List.{list_any}
use Rattle.std.proofs.lemmas.Bool.{cases_Bool, or_parts}
use Rattle.std.proofs.lemmas.List.Elements.{filter-append}
use Rattle.host_trace.specs.declared.items.Act.{Act}
use Rattle.host_trace.specs.declared.items.Item.{Item}
use Rattle.host_trace.specs.declared.items.Item.TheVariants.{Out}
use Rattle.host_trace.specs.First.{first_front, last_of, or_else}
use Rattle.host_trace.specs.Kinds.{is_shut, is_child_eof, is_input_end, is_kill, is_exited, output_heard, texts_heard}
use Rattle.host_trace.specs.Projections.{child_out, heard, output_eof, shut, input_ended, killed, exited}
use Rattle.host_trace.proofs.FirstLaws.{flat_map-push, first_front-push, last_of-append}
use Rattle.host_trace.proofs.ProjectionLaws.{child_out-push, heard-push, output_eof-push}
use Rattle.line_messages.specs.Lines.{lines_within, last_within}
use Rattle.trace_child.specs.Words.{until}
use Rattle.trace_child.specs.Run.{Run}
use Rattle.trace_model.specs.Talk.{messages_by, texts_due, piece_fed, pieces_fed, close_code, codes_sent, code_at, code_by, code_due, ends_input, ends_talk, is_short}
use Rattle.talk_core.specs.Setting.{texts_taken}

pub or_false : (b : Bool) → (b || false) ≡ b
or_false true = refl
or_false false = refl

-- ---- the items before the first that passes

pub until-push : {X : Type 0} (test : X → Bool) (items : List X) (x : X) →
    until test (items ++ x ∷ []) ≡ until test items ++ (if list_any test items || test x then [] else x ∷ [])
until-push test [] x = refl
until-push test (y ∷ items) x =
    elim (test y) as (λ b. (if b then [] else y ∷ until test (items ++ x ∷ []))
    ≡ (if b then [] else y ∷ until test items) ++ (if b || list_any test items || test x then [] else x ∷ [])) [
      | true ↦ refl
      | false ↦ ap (λ l. y ∷ l) (until-push test items x)
    ]

pub until_on : (test : Item → Bool) (L : List Item) (x : Item) → list_any test L ≡ false → test x ≡ false → until test (L ++ x ∷ []) ≡ until test L ++ x ∷ []
until_on test L x e f = until-push test L x ∙ rw (e, f) refl

pub until_at : (test : Item → Bool) (L : List Item) (x : Item) → (list_any test L || test x) ≡ true → until test (L ++ x ∷ []) ≡ until test L
until_at test L x e = until-push test L x ∙ (rw e (append-nil (until test L)))

pub until_all : (test : Item → Bool) (L : List Item) → list_any test L ≡ false → until test L ≡ L
until_all test [] e = refl
until_all test (x ∷ L) e =
    let p = or_parts (test x) (list_any test L) e in
    rw p.0 (ap (λ l. x ∷ l) (until_all test L p.1))

-- ---- the messages that are due

pub messages_quiet : (limit k : ℕ) (front : List Item) (x : Item) → output_heard k x ≡ [] → is_child_eof k x ≡ false → messages_by limit k (front ++ x ∷ []) ≡ messages_by limit k front
messages_quiet limit k front x none going =
    let out : child_out (front ++ x ∷ []) k ≡ child_out front k = child_out-push front x k ∙ (ap (λ l. child_out front k ++ l) none ∙ append-nil _) in
    let eof : output_eof (front ++ x ∷ []) k ≡ output_eof front k = output_eof-push front x k ∙ (ap (λ b. output_eof front k || b) going ∙ or_false _) in
    ap (λ o. lines_within limit o ++ (if output_eof (front ++ x ∷ []) k then last_within limit o else [])) out
    ∙ ap (λ b. lines_within limit (child_out front k) ++ (if b then last_within limit (child_out front k) else [])) eof

module _ (run : Run) (L : List Item) where
  pub texts_stay : (x : Item) → shut L run.conn ≡ true → texts_due run (L ++ x ∷ []) ≡ texts_due run L
  texts_stay x e = ap (messages_by run.limits.ws_text run.child) (until_at (is_shut run.conn) L x (rw e refl))

  pub texts_out : (act : Act) → texts_due run (L ++ Out act ∷ []) ≡ texts_due run L
  texts_out act = elim (cases_Bool (list_any (is_shut run.conn) L || is_shut run.conn (Out act))) [
    | inl past ↦ ap (messages_by run.limits.ws_text run.child) (until_at (is_shut run.conn) L (Out act) past)
    | inr going ↦
        let p = or_parts (list_any (is_shut run.conn) L) (is_shut run.conn (Out act)) going in
        ap (messages_by run.limits.ws_text run.child) (until_on (is_shut run.conn) L (Out act) p.0 p.1)
        ∙ messages_quiet run.limits.ws_text run.child (until (is_shut run.conn) L) (Out act) refl refl
  ]

  pub texts_open : shut L run.conn ≡ false → texts_due run L ≡ messages_by run.limits.ws_text run.child L
  texts_open e = ap (messages_by run.limits.ws_text run.child) (until_all (is_shut run.conn) L e)

-- ---- the input that is due

-- what ends it
pub ends_input_is : (k : ℕ) (L : List Item) → list_any (ends_input k) L ≡ (input_ended L k || killed L k || exited L k)
ends_input_is k [] = refl
ends_input_is k (x ∷ L) =
    ap (λ b. ends_input k x || b) (ends_input_is k L) ∙ go (is_input_end k x) (is_kill k x) (is_exited k x) (input_ended L k) (killed L k) (exited L k)
  where
    go : (a b c d e f : Bool) → ((a || b || c) || (d || e || f)) ≡ ((a || d) || (b || e) || (c || f))
    go true b c d e f = refl
    go false true c true e f = refl
    go false true c false e f = refl
    go false false true true e f = refl
    go false false true false true f = refl
    go false false true false false f = refl
    go false false false d e f = refl

module _ (c k limit : ℕ) (L : List Item) (x : Item) where
  pub taken_quiet : texts_heard c x ≡ [] → texts_taken c k limit (L ++ x ∷ []) ≡ texts_taken c k limit L
  taken_quiet none = elim (cases_Bool (list_any (ends_input k) L || ends_input k x)) [
    | inl past ↦ ap (λ l. filter (is_short limit) (heard l c)) (until_at (ends_input k) L x past)
    | inr going ↦
        let p = or_parts (list_any (ends_input k) L) (ends_input k x) going in
        ap (λ l. filter (is_short limit) (heard l c)) (until_on (ends_input k) L x p.0 p.1)
        ∙ ap (filter (is_short limit)) (heard-push (until (ends_input k) L) x c ∙ (ap (λ l. heard (until (ends_input k) L) c ++ l) none ∙ append-nil _))
  ]

  pub taken_past : list_any (ends_input k) L ≡ true → texts_taken c k limit (L ++ x ∷ []) ≡ texts_taken c k limit L
  taken_past e = ap (λ l. filter (is_short limit) (heard l c)) (until_at (ends_input k) L x (rw e refl))

  pub taken_more : list_any (ends_input k) L ≡ false → ends_input k x ≡ false
      → texts_taken c k limit (L ++ x ∷ []) ≡ texts_taken c k limit L ++ filter (is_short limit) (texts_heard c x)
  taken_more e f =
      ap (λ l. filter (is_short limit) (heard l c)) (until_on (ends_input k) L x e f)
      ∙ (ap (filter (is_short limit)) (heard-push (until (ends_input k) L) x c)
      ∙ filter-append (is_short limit) (heard (until (ends_input k) L) c) (texts_heard c x))

-- ---- what was fed and sent

pub pieces_fed-push : (L : List Item) (x : Item) (k : ℕ) → pieces_fed (L ++ x ∷ []) k ≡ pieces_fed L k ++ piece_fed k x
pieces_fed-push L x k = flat_map-push (piece_fed k) L x

pub codes_sent-push : (L : List Item) (x : Item) (c : ℕ) → codes_sent (L ++ x ∷ []) c ≡ codes_sent L c ++ close_code c x
codes_sent-push L x c = flat_map-push (close_code c) L x

-- ---- the end of the talk

abbrev pub code_by_front : Run → Option (List Item) → List ℕ
code_by_front run front = code_at run.conn run.child (option_and_then last_of front)

pub some_stays : {X : Type 0} (f g : Option X) → is_some f ≡ true → or_else f g ≡ f
some_stays (Some x) g e = refl
some_stays None g e = absurd (cc)

pub none_of : {X : Type 0} (f : Option X) → is_some f ≡ false → f ≡ None
none_of None e = refl
none_of (Some x) e = absurd (cc)

module _ (run : Run) (L : List Item) (x : Item) where
  pub end_stays : is_some (first_front (ends_talk run) L) ≡ true → first_front (ends_talk run) (L ++ x ∷ []) ≡ first_front (ends_talk run) L
  end_stays e = first_front-push (ends_talk run) L x ∙ some_stays _ _ e

  pub end_new : is_some (first_front (ends_talk run) L) ≡ false → first_front (ends_talk run) (L ++ x ∷ []) ≡ (if ends_talk run L x then Some (L ++ x ∷ []) else None)
  end_new e = first_front-push (ends_talk run) L x ∙ ap (λ f. or_else f (if ends_talk run L x then Some (L ++ x ∷ []) else None)) (none_of _ e)

  pub is_end : (b : Bool) → is_some (first_front (ends_talk run) L) ≡ false → ends_talk run L x ≡ b → b ≡ is_some (first_front (ends_talk run) (L ++ x ∷ []))
  is_end b e is = sym (ap is_some (end_new e) ∙ (ap (λ t. is_some (if t then Some (L ++ x ∷ []) else None)) is ∙ same b))
    where
      same : (b : Bool) → is_some (if b then Some (L ++ x ∷ []) else None) ≡ b
      same true = refl
      same false = refl

  pub code_stays : is_some (first_front (ends_talk run) L) ≡ true → code_due run (L ++ x ∷ []) ≡ code_due run L
  code_stays e = ap (code_by_front run) (end_stays e)

  pub code_none : is_some (first_front (ends_talk run) L) ≡ false → code_due run L ≡ []
  code_none e = ap (code_by_front run) (none_of _ e)

  pub code_new : is_some (first_front (ends_talk run) L) ≡ false → ends_talk run L x ≡ true → code_due run (L ++ x ∷ []) ≡ code_by run.conn run.child x
  code_new e is =
      ap (code_by_front run) (end_new e ∙ ap (λ b. if b then Some (L ++ x ∷ []) else None) is)
      ∙ ap (code_at run.conn run.child) (last_of-append L (x ∷ []))

  pub code_open : is_some (first_front (ends_talk run) L) ≡ false → ends_talk run L x ≡ false → code_due run (L ++ x ∷ []) ≡ []
  code_open e is = ap (code_by_front run) (end_new e ∙ ap (λ b. if b then Some (L ++ x ∷ []) else None) is)
