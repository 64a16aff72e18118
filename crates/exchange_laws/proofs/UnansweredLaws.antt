-- An exchange of whose final answer nothing is written.
use Rattle.std.proofs.Common.{◌≡◌, ℕ, Bool, true, false, List, [], ◌∷◌, ◌++◌, length, drop, refl, sym, ap, ◌∙◌, append-nil, append_assoc, drop_of_length-le, zero-le}
use Rattle.std.specs.Prelude.{◌||◌, ◌&&◌, if◌then◌else◌, nat_eq}
use Rattle.std.specs.List.{starts_with}
use Rattle.std.proofs.lemmas.Bool.{false≢true}
use Rattle.host_base.specs.declared.site.Site.{Site}
use Rattle.host_trace.specs.declared.items.Item.{Item}
use Rattle.host_trace.specs.Kinds.{bytes_heard, bytes_written}
use Rattle.host_trace.specs.Projections.{client_in}
use Rattle.host_trace.proofs.ProjectionLaws.{client_out-push}
use Rattle.request_reader.specs.Request.{read_request}
use Rattle.reply_writer.proofs.FrontLaws.{front_is, front_stands}
use Rattle.trace_child.specs.Words.{is_filled}
use Rattle.trace_model.specs.Exchange.{Exchange, pushed, reading, was_due, written, continues, continue_part, continue_text, final, has_final}
use Rattle.trace_model.specs.Readings.{is_due}
use Rattle.trace_model.specs.Standing.{stands_whole}
use Rattle.trace_model.specs.Streams.{begins_no_sooner}
use Rattle.trace_model.proofs.ExchangeLaws.{request_bytes-push}
use Rattle.conn_laws.proofs.QuietLaws.{reading-quiet}
use Rattle.conn_laws.proofs.EndLaws.{not_whole}
use Rattle.exchange_reply.specs.StepRules.{is_continued}
use Rattle.exchange_reply.proofs.NoSoonerLaws.{unbegun_is_no_sooner}
use Rattle.exchange_laws.specs.Unanswered.{IsUnanswered, is_awaited, is_open}

-- ---- 100 Continue

or_assoc : (a b d : Bool) → (a || (b || d)) ≡ ((a || b) || d)
or_assoc true b d = refl
or_assoc false b d = refl

was_due-push : (site : Site) (c : ℕ) (bytes : List ℕ) (items : List Item) (x : Item) →
    was_due site c bytes (items ++ x ∷ []) ≡ (was_due site c bytes items || is_due (read_request site.limits ((bytes ++ client_in items c) ++ bytes_heard c x)))
was_due-push site c bytes [] x =
    ap (λ l. is_due (read_request site.limits bytes) || is_due (read_request site.limits (l ++ bytes_heard c x))) (sym (append-nil bytes))
was_due-push site c bytes (y ∷ items) x =
    ap (λ b. is_due (read_request site.limits bytes) || b) (was_due-push site c (bytes ++ bytes_heard c y) items x)
    ∙ (or_assoc (is_due (read_request site.limits bytes)) (was_due site c (bytes ++ bytes_heard c y) items) _
    ∙ ap (λ l. (is_due (read_request site.limits bytes) || was_due site c (bytes ++ bytes_heard c y) items) || is_due (read_request site.limits (l ++ bytes_heard c x)))
    (append_assoc bytes (bytes_heard c y) (client_in items c)))

share : (a b d : Bool) → (a && (b || d)) ≡ (a && b || a && d)
share true b d = refl
share false b d = refl

-- it was due at the items before, or is now
pub continues_then : (site : Site) (c : ℕ) (e : Exchange) (x : Item) → continues site c (pushed e x) ≡ (continues site c e || is_awaited site c (pushed e x))
continues_then site c e x =
    ap (λ b. is_open c e && b)
    (was_due-push site c e.rest e.items x
    ∙ ap (λ l. was_due site c e.rest e.items || is_due (read_request site.limits l)) (sym (request_bytes-push c e x)))
    ∙ share (is_open c e) (was_due site c e.rest e.items) (is_due (reading site c (pushed e x)))

or_true : (a b : Bool) → b ≡ true → (a || b) ≡ true
or_true true b is = refl
or_true false b is = is

-- what is due was due
was_due-last : (site : Site) (c : ℕ) (bytes : List ℕ) (items : List Item) → is_due (read_request site.limits (bytes ++ client_in items c)) ≡ true → was_due site c bytes items ≡ true
was_due-last site c bytes [] is = ap (λ l. is_due (read_request site.limits l)) (sym (append-nil bytes)) ∙ is
was_due-last site c bytes (y ∷ items) is =
    or_true (is_due (read_request site.limits bytes)) _
    (was_due-last site c (bytes ++ bytes_heard c y) items (ap (λ l. is_due (read_request site.limits l)) (append_assoc bytes (bytes_heard c y) (client_in items c)) ∙ is))

and_then : (a b d : Bool) → (b ≡ true → d ≡ true) → (a && b) ≡ true → (a && d) ≡ true
and_then true b d f is = f is
and_then false b d f is = absurd (false≢true is)

pub awaited_was : (site : Site) (c : ℕ) (e : Exchange) → is_awaited site c e ≡ true → continues site c e ≡ true
awaited_was site c e is =
    and_then (is_open c e) (is_due (reading site c e)) (was_due site c e.rest e.items) (was_due-last site c e.rest e.items) is

pub awaited-quiet : (site : Site) (c : ℕ) (e : Exchange) (x : Item) → bytes_heard c x ≡ [] → is_awaited site c (pushed e x) ≡ is_awaited site c e
awaited-quiet site c e x none = ap (λ r. is_open c e && is_due r) (reading-quiet site c e x none)

absorbed : (a b : Bool) → (b ≡ true → a ≡ true) → (a || b) ≡ a
absorbed true b f = refl
absorbed false true f = sym (f refl)
absorbed false false f = refl

-- an item that brings no bytes leaves whether it was due
pub continues-quiet : (site : Site) (c : ℕ) (e : Exchange) (x : Item) → bytes_heard c x ≡ [] → continues site c (pushed e x) ≡ continues site c e
continues-quiet site c e x none =
    continues_then site c e x ∙ ap (λ b. continues site c e || b) (awaited-quiet site c e x none)
    ∙ absorbed (continues site c e) (is_awaited site c e) (awaited_was site c e)

pub unawaited : (site : Site) (c : ℕ) (e : Exchange) → continues site c e ≡ false → is_awaited site c e ≡ false
unawaited site c e none = go (is_awaited site c e) refl
  where
    go : (b : Bool) → is_awaited site c e ≡ b → is_awaited site c e ≡ false
    go false is = is
    go true is = absurd (false≢true (sym none ∙ awaited_was site c e is))

-- ---- one more item

same_or : (a : Bool) → (a || a) ≡ a
same_or true = refl
same_or false = refl

wrote-quiet : (c : ℕ) (e : Exchange) (x : Item) → bytes_written c x ≡ [] → written c (pushed e x) ≡ written c e
wrote-quiet c e x none = client_out-push e.items x c ∙ ap (λ l. written c e ++ l) none ∙ append-nil (written c e)

pub unanswered-push : (site : Site) (c : ℕ) (e : Exchange) (x : Item) (continued : Bool) → bytes_written c x ≡ []
    → (is_filled (bytes_heard c x) ≡ true → continued ≡ false → is_awaited site c e ≡ false)
    → IsUnanswered site c e continued → IsUnanswered site c (pushed e x) continued
unanswered-push site c e x continued unwritten let_on u = record {
  wrote_only = wrote-quiet c e x unwritten ∙ u.wrote_only;
  continues_is = continues_then site c e x ∙ ap (λ b. b || is_awaited site c (pushed e x)) u.continues_is ∙ go continued let_on (bytes_heard c x) refl;
}
  where
    go : (b : Bool) → (is_filled (bytes_heard c x) ≡ true → b ≡ false → is_awaited site c e ≡ false) → (bytes : List ℕ) → bytes_heard c x ≡ bytes
        → ((b || is_awaited site c e) || is_awaited site c (pushed e x)) ≡ (b || is_awaited site c (pushed e x))
    go true f bytes is = refl
    go false f [] is =
        ap (λ b. b || is_awaited site c (pushed e x)) (sym (awaited-quiet site c e x is)) ∙ same_or (is_awaited site c (pushed e x))
    go false f (byte ∷ bytes) is = ap (λ b. b || is_awaited site c (pushed e x)) (f (ap is_filled is) refl)

-- ---- what stands

pub unanswered_final : (site : Site) (c : ℕ) (e : Exchange) (continued : Bool) → IsUnanswered site c e continued → final site c e ≡ []
unanswered_final site c e true u =
    ap (λ (b : Bool). drop (length (if b then continue_text else [])) (written c e)) u.continues_is
    ∙ ap (drop (length continue_text)) u.wrote_only
unanswered_final site c e false u =
    ap (drop (length (continue_part site c e))) u.wrote_only ∙ drop_of_length-le [] zero-le

pub unanswered_unbegun : (site : Site) (c : ℕ) (e : Exchange) (continued : Bool) → IsUnanswered site c e continued → has_final site c e ≡ false
unanswered_unbegun site c e continued u = ap is_filled (unanswered_final site c e continued u)

pub unanswered_continues : (site : Site) (c : ℕ) (e : Exchange) (continued : Bool) → IsUnanswered site c e continued
    → (continued ≡ false → is_awaited site c e ≡ false) → is_continued site c e ≡ true
unanswered_continues site c e true u none =
    ap (λ (b : Bool). starts_with nat_eq (written c e) (if b then continue_text else [])) u.continues_is
    ∙ ap (λ l. starts_with nat_eq l continue_text) (u.wrote_only ∙ sym (append-nil continue_text)) ∙ front_stands continue_text []
unanswered_continues site c e false u none =
    ap (λ (b : Bool). starts_with nat_eq (written c e) (if b then continue_text else [])) (u.continues_is ∙ none refl)
    ∙ front_stands [] (written c e)

pub unanswered_not_whole : (site : Site) (c : ℕ) (e : Exchange) (continued : Bool) → IsUnanswered site c e continued → stands_whole site c e ≡ false
unanswered_not_whole site c e continued u = (not_whole site c e).unwritten (unanswered_final site c e continued u)

pub unanswered_no_sooner : (site : Site) (c : ℕ) (e : Exchange) (continued : Bool) → IsUnanswered site c e continued → begins_no_sooner site c e ≡ true
unanswered_no_sooner site c e continued u = unbegun_is_no_sooner site c e (unanswered_unbegun site c e continued u)

-- ---- nothing of the final answer stands, and 100 Continue does where it was due

no_text : (b : Bool) → starts_with nat_eq [] (if b then continue_text else []) ≡ true → b ≡ false
no_text true is = absurd (false≢true is)
no_text false is = refl

-- 100 Continue stands exactly where it was due
pub continued_is : (site : Site) (c : ℕ) (e : Exchange) (continued : Bool) → IsUnanswered site c e continued → is_continued site c e ≡ true
    → continues site c e ≡ continued
continued_is site c e true u is = u.continues_is
continued_is site c e false u is =
    no_text (continues site c e) (ap (λ l. starts_with nat_eq l (continue_part site c e)) (sym u.wrote_only) ∙ is)

empty_of : {X : Type 0} (items : List X) → is_filled items ≡ false → items ≡ []
empty_of [] none = refl
empty_of (x ∷ items) none = absurd (false≢true (sym none))

pub unanswered_again : (site : Site) (c : ℕ) (e : Exchange) (continued : Bool) → continues site c e ≡ continued → is_continued site c e ≡ true
    → final site c e ≡ [] → IsUnanswered site c e continued
unanswered_again site c e continued continues_is stands none = record {
  wrote_only =
      front_is (written c e) (continue_part site c e) stands ∙ ap (λ l. continue_part site c e ++ l) none ∙ append-nil (continue_part site c e)
      ∙ ap (λ (b : Bool). if b then continue_text else []) continues_is;
  continues_is = continues_is ∙ go continued continues_is (is_awaited site c e) refl;
}
  where
    go : (b : Bool) → continues site c e ≡ b → (awaited : Bool) → is_awaited site c e ≡ awaited → b ≡ (b || is_awaited site c e)
    go true is awaited w = refl
    go false is false w = sym w
    go false is true w = absurd (false≢true (sym is ∙ awaited_was site c e w))
