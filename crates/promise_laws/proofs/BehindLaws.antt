-- Each exchange stands behind those before it, and its request behind theirs.
use Rattle.std.proofs.Common.{◌≡◌, ℕ, Bool, true, false, List, [], ◌∷◌, ◌++◌, refl, sym, ap, ◌∙◌, subst, append-nil, append_assoc, length, length-append}
use Rattle.std.specs.Prelude.{◌+◌}
use Rattle.std.specs.List.{flat_map}
use Rattle.std.proofs.lemmas.List.{take-append-drop}
use Rattle.host_base.specs.declared.site.Site.{Site}
use Rattle.host_trace.specs.declared.items.Item.{Item}
use Rattle.host_trace.specs.Kinds.{bytes_heard}
use Rattle.host_trace.specs.Projections.{client_in}
use Rattle.host_trace.proofs.FirstLaws.{flat_map-push}
use Rattle.host_trace.proofs.ProjectionLaws.{client_in-push}
use Rattle.request_reader.specs.Request.{used_by}
use Rattle.trace_model.specs.Exchange.{Exchange, all_of, first_exchange, pushed, reading, request_bytes}
use Rattle.trace_model.specs.Exchanges.{current, current_after, ended, ended_after, ended_by, following, has_ended, left_over, next_by}
use Rattle.trace_model.specs.ModelLaws.{items_of_exchange, used}
use Rattle.trace_model.proofs.ExchangeLaws.{request_bytes-push}
use Rattle.promise_laws.specs.Grounds.{StandsBehind}
use Rattle.promise_laws.specs.Replies.{AreAnswered, IsAnswered}

-- these items are those of the exchanges that ended and of the one that goes on
pub record Goes (site : Site) (c : ℕ) (P : List Item) (es : List Exchange) (e : Exchange) : Type 0 where
  pub items : P ≡ all_of e
  pub behind : e.before ≡ flat_map items_of_exchange es
  pub number : e.number ≡ length es
  pub heard : client_in (all_of e) c ≡ flat_map (used site c) es ++ request_bytes c e

module _ (site : Site) (c : ℕ) where
  goes_first : Goes site c [] [] first_exchange
  goes_first = record { items = refl; behind = refl; number = refl; heard = refl }

  goes_push : (P : List Item) (es : List Exchange) (e : Exchange) (x : Item) → Goes site c P es e → Goes site c (P ++ x ∷ []) es (pushed e x)
  goes_push P es e x g = record {
    items = ap (λ (l : List Item). l ++ x ∷ []) g.items ∙ append_assoc e.before e.items (x ∷ []);
    behind = g.behind;
    number = g.number;
    heard = ap (λ (l : List Item). client_in l c) (sym (append_assoc e.before e.items (x ∷ [])))
        ∙ (client_in-push (all_of e) x c
        ∙ (ap (λ (l : List ℕ). l ++ bytes_heard c x) g.heard
        ∙ (append_assoc (flat_map (used site c) es) (request_bytes c e) (bytes_heard c x)
        ∙ ap (λ (l : List ℕ). flat_map (used site c) es ++ l) (sym (request_bytes-push c e x)))));
  }

  used_left : (es : List Exchange) (e : Exchange) → flat_map (used site c) (es ++ e ∷ []) ++ (left_over site c e ++ []) ≡ flat_map (used site c) es ++ request_bytes c e
  used_left es e =
      ap (λ (l : List ℕ). l ++ (left_over site c e ++ [])) (flat_map-push (used site c) es e)
      ∙ (append_assoc (flat_map (used site c) es) (used site c e) (left_over site c e ++ [])
      ∙ (ap (λ (l : List ℕ). flat_map (used site c) es ++ (used site c e ++ l)) (append-nil (left_over site c e))
      ∙ ap (λ (l : List ℕ). flat_map (used site c) es ++ l) (take-append-drop (used_by (reading site c e)) (request_bytes c e))))

  goes_following : (P : List Item) (es : List Exchange) (e : Exchange) → Goes site c P es e → Goes site c P (es ++ e ∷ []) (following site c e)
  goes_following P es e g = record {
    items = g.items ∙ sym (append-nil (all_of e));
    behind = ap (λ (l : List Item). l ++ e.items) g.behind ∙ sym (flat_map-push items_of_exchange es e);
    number = ap (λ (n : ℕ). n + 1) g.number ∙ sym (length-append es (e ∷ []));
    heard = ap (λ (l : List Item). client_in l c) (append-nil (all_of e)) ∙ (g.heard ∙ sym (used_left es e));
  }

  stands_behind : (L X P : List Item) (es : List Exchange) (e : Exchange) → L ≡ P ++ X → Goes site c P es e → StandsBehind site c L es e
  stands_behind L X P es e is g = record {
    later = X;
    items = is ∙ ap (λ (l : List Item). l ++ X) g.items;
    behind = g.behind;
    number = g.number;
    heard = g.heard;
  }

  module _ (answered : (e : Exchange) → has_ended site c e ≡ true → IsAnswered site c e) (L : List Item) where
    behind_after : (X P : List Item) (es : List Exchange) (e : Exchange) → L ≡ P ++ X → Goes site c P es e
        → AreAnswered site c L es (ended_after site c e X) × Goes site c L (es ++ ended_after site c e X) (current_after site c e X)
    behind_after [] P es e is g = (tt, subst (λ (l : List Exchange). Goes site c L l e) (sym (append-nil es)) (subst (λ (l : List Item). Goes site c l es e) (sym (is ∙ append-nil P)) g))
    behind_after (x ∷ X) P es e is g = go (behind_after X) (has_ended site c (pushed e x)) refl
      where
        all : L ≡ (P ++ x ∷ []) ++ X
        all = is ∙ sym (append_assoc P (x ∷ []) X)

        go : ((P : List Item) (es : List Exchange) (d : Exchange) → L ≡ P ++ X → Goes site c P es d
            → AreAnswered site c L es (ended_after site c d X) × Goes site c L (es ++ ended_after site c d X) (current_after site c d X))
            → (b : Bool) → has_ended site c (pushed e x) ≡ b
            → AreAnswered site c L es (ended_by (pushed e x) b ++ ended_after site c (next_by site c (pushed e x) b) X)
            × Goes site c L (es ++ (ended_by (pushed e x) b ++ ended_after site c (next_by site c (pushed e x) b) X)) (current_after site c (next_by site c (pushed e x) b) X)
        go later false on = later (P ++ x ∷ []) es (pushed e x) all (goes_push P es e x g)
        go later true over =
            let now : Goes site c (P ++ x ∷ []) es (pushed e x) = goes_push P es e x g in
            let rest = later (P ++ x ∷ []) (es ++ pushed e x ∷ []) (following site c (pushed e x)) all (goes_following (P ++ x ∷ []) es (pushed e x) now) in (
              (stands_behind L X (P ++ x ∷ []) es (pushed e x) all now, answered (pushed e x) over, rest.0),
              subst (λ (l : List Exchange). Goes site c L l (current_after site c (following site c (pushed e x)) X))
                  (append_assoc es (pushed e x ∷ []) (ended_after site c (following site c (pushed e x)) X)) rest.1,
            )

pub record AllBehind (site : Site) (c : ℕ) (L : List Item) : Type 0 where
  pub each : AreAnswered site c L [] (ended site c L)
  pub behind : StandsBehind site c L (ended site c L) (current site c L)
  pub nothing_more : behind.later ≡ []

pub all_behind : (site : Site) (c : ℕ) → ((e : Exchange) → has_ended site c e ≡ true → IsAnswered site c e) → (L : List Item) → AllBehind site c L
unfolding stands_behind
all_behind site c answered L =
    let all = behind_after site c answered L L [] [] first_exchange refl (goes_first site c) in
    record {
      each = all.0;
      behind = stands_behind site c L [] L (ended site c L) (current site c L) (sym (append-nil L)) all.1;
      nothing_more = refl;
    }
