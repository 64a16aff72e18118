-- Whether an exchange has ended, by its last child and by what stands of its answer.
use Rattle.std.proofs.Common.{◌≡◌, ℕ, Bool, true, false, List, [], ◌∷◌, ◌++◌, Option, refl, sym, ap, ◌∙◌, append-nil, append_assoc}
use Rattle.std.specs.Prelude.{not, ◌&&◌, ◌||◌, length, drop, nat_eq}
use Rattle.std.specs.List.{list_any, starts_with}
use Rattle.std.proofs.lemmas.Bool.{false≢true, or_parts, or_from}
use Rattle.std.proofs.lemmas.List.Folds.{list_any-append}
use Rattle.host_base.specs.declared.cause.Cause.{Cause}
use Rattle.host_base.specs.declared.site.Site.{Site}
use Rattle.host_trace.specs.declared.items.Item.{Item}
use Rattle.host_trace.specs.Account.{has_unsettled, settled, start_refused, is_refusal}
use Rattle.host_trace.specs.Kinds.{bytes_written, is_exited, is_input_end, is_output_end}
use Rattle.host_trace.specs.Projections.{children, client_out, exited, input_ended, output_ended}
use Rattle.host_trace.proofs.ProjectionLaws.{client_out-push, settled-push}
use Rattle.reply_writer.specs.FaultReply.{fault_reply_of}
use Rattle.reply_writer.specs.WholeReply.{Way, is_spelling}
use Rattle.trace_model.specs.Answer.{Answer, cut_off, no_answer, undecided, replied, given_raw, faulted, talking, answer}
use Rattle.trace_model.specs.Closes.{way}
use Rattle.trace_model.specs.Exchange.{Exchange, pushed, written, continue_part, final}
use Rattle.trace_model.specs.Exchanges.{ends_by, has_ended}
use Rattle.trace_model.specs.Standing.{spells_answer, is_whole_final, stands_whole}
use Rattle.conn_laws.specs.Ends.{has_unsettled_of, IsLastChild, IsNotWhole, LeavesAnswer, EndsBy}

-- ---- children

or_alone : (b : Bool) → (b || false) ≡ b
or_alone true = refl
or_alone false = refl

pub last_decides : (c : ℕ) (items : List Item) (older : List ℕ) (k : ℕ) → IsLastChild c items older k → has_unsettled items c ≡ not (settled items k)
last_decides c items older k l =
    ap (has_unsettled_of items) l.are
    ∙ (list_any-append (λ j. not (settled items j)) older (k ∷ [])
    ∙ (ap (λ b. b || (not (settled items k) || false)) l.settled_then ∙ or_alone (not (settled items k))))

more : (a b : Bool) → a ≡ true → (a || b) ≡ true
more true b e = refl
more false b e = absurd (false≢true e)

settles : (r x i o r' x' i' o' : Bool) → (r || x && i && o) ≡ true → ((r || r') || (x || x') && (i || i') && (o || o')) ≡ true
settles true x i o r' x' i' o' e = refl
settles false true true true r' x' i' o' e = go r'
  where
    go : (b : Bool) → (b || true) ≡ true
    go true = refl
    go false = refl
settles false false i o r' x' i' o' e = absurd (false≢true e)
settles false true false o r' x' i' o' e = absurd (false≢true e)
settles false true true false r' x' i' o' e = absurd (false≢true e)

settled_stays : (items : List Item) (x : Item) (k : ℕ) → settled items k ≡ true → settled (items ++ x ∷ []) k ≡ true
settled_stays items x k e =
    settled-push items x k
    ∙ settles (start_refused items k) (exited items k) (input_ended items k) (output_ended items k) (is_refusal k x) (is_exited k x) (is_input_end k x) (is_output_end k x) e

not_false : (b : Bool) → not b ≡ false → b ≡ true
not_false true e = refl
not_false false e = absurd (false≢true (sym e))

pub all_settled_stay : (items : List Item) (x : Item) (ks : List ℕ) → has_unsettled_of items ks ≡ false → has_unsettled_of (items ++ x ∷ []) ks ≡ false
all_settled_stay items x [] e = refl
all_settled_stay items x (k ∷ ks) e =
    let parts = or_parts (not (settled items k)) (has_unsettled_of items ks) e in
    or_from (not (settled (items ++ x ∷ []) k)) (has_unsettled_of (items ++ x ∷ []) ks)
    (ap not (settled_stays items x k (not_false (settled items k) parts.0))) (all_settled_stay items x ks parts.1)

-- ---- the answer

and_none : (a b : Bool) → b ≡ false → (a && b) ≡ false
and_none true b e = e
and_none false b e = refl

not_spelled : (site : Site) (c : ℕ) (e : Exchange) (a : Answer) → answer site c e ≡ a → ((bytes : List ℕ) → spells_answer site c e bytes a ≡ false)
    → stands_whole site c e ≡ false
not_spelled site c e a is none =
    and_none (starts_with nat_eq (written c e) (continue_part site c e)) (is_whole_final site c e (final site c e)) (go (final site c e))
  where
    go : (bytes : List ℕ) → is_whole_final site c e bytes ≡ false
    go [] = refl
    go (b ∷ bytes) = ap (spells_answer site c e (b ∷ bytes)) is ∙ none (b ∷ bytes)

pub not_whole : (site : Site) (c : ℕ) (e : Exchange) → IsNotWhole site c e
not_whole site c e = record {
  unwritten = λ none.
      and_none (starts_with nat_eq (written c e) (continue_part site c e)) (is_whole_final site c e (final site c e)) (ap (is_whole_final site c e) none);
  waits = λ is. not_spelled site c e undecided is (λ bytes. refl);
  cut = λ cause is. not_spelled site c e (cut_off cause) is (λ bytes. refl);
  none = λ is. not_spelled site c e no_answer is (λ bytes. refl);
}

pub whole_stays : (site : Site) (c : ℕ) (e : Exchange) (x : Item) → LeavesAnswer site c e x → stands_whole site c (pushed e x) ≡ stands_whole site c e
whole_stays site c e x l =
    ap (λ bytes. starts_with nat_eq bytes (continue_part site c (pushed e x)) && is_whole_final site c (pushed e x) (drop (length (continue_part site c (pushed e x))) bytes)) same
    ∙ (ap (λ part. starts_with nat_eq (written c e) part && is_whole_final site c (pushed e x) (drop (length part) (written c e))) l.continues_then
    ∙ ap (λ b. starts_with nat_eq (written c e) (continue_part site c e) && b) (spelled (final site c e)))
  where
    same : written c (pushed e x) ≡ written c e
    same = client_out-push e.items x c ∙ (ap (λ l. written c e ++ l) l.bytes ∙ append-nil (written c e))

    by_answer : (bytes : List ℕ) (a : Answer) → spells_answer site c (pushed e x) bytes a ≡ spells_answer site c e bytes a
    by_answer bytes (replied reply) = ap (λ w. is_spelling bytes w reply) l.way_then
    by_answer bytes (given_raw output) = refl
    by_answer bytes (faulted cause) = ap (λ (w : Way). is_spelling bytes (record w { known = true }) (fault_reply_of cause)) l.way_then
    by_answer bytes (talking value) = refl
    by_answer bytes (cut_off cause) = refl
    by_answer bytes no_answer = refl
    by_answer bytes undecided = refl

    spelled : (bytes : List ℕ) → is_whole_final site c (pushed e x) bytes ≡ is_whole_final site c e bytes
    spelled [] = refl
    spelled (b ∷ bytes) =
        ap (spells_answer site c (pushed e x) (b ∷ bytes)) l.answer_then ∙ by_answer (b ∷ bytes) (answer site c e)

-- ---- the end

pub ends_tested : (site : Site) (c : ℕ) (e : Exchange) → EndsBy site c e
ends_tested site c e = record {
  without = λ none. ap (λ ks. ends_by site c e (has_unsettled_of e.items ks)) none;
  unsettled = λ older k l not_yet. ap (ends_by site c e) (last_decides c e.items older k l ∙ ap not not_yet);
  settled_then = λ older k l now. ap (ends_by site c e) (last_decides c e.items older k l ∙ ap not now);
}
