-- Once the accept text stands: items that leave it, and the rules of HTTP.
use Rattle.std.proofs.Common.{◌≡◌, ℕ, Bool, true, false, List, [], ◌∷◌, ◌++◌, length, drop, None, refl, sym, ap, subst, ◌∙◌, append-nil}
use Rattle.std.specs.Prelude.{◌&&◌, ◌||◌, nat_eq}
use Rattle.std.specs.List.{starts_with}
use Rattle.host_base.specs.declared.request.Request.{Request}
use Rattle.host_base.specs.declared.site.Mapped.{Mapped}
use Rattle.host_base.specs.declared.site.Site.{Site}
use Rattle.host_trace.specs.declared.items.Item.{Item}
use Rattle.host_trace.specs.Kinds.{bytes_heard, bytes_written}
use Rattle.host_trace.proofs.ProjectionLaws.{client_out-push}
use Rattle.ws_handshake.specs.Handshake.{accept_text}
use Rattle.trace_child.specs.Words.{is_filled}
use Rattle.trace_model.specs.Breaks.{broken}
use Rattle.trace_model.specs.Exchange.{Exchange, continue_part, final, has_begun, has_final, has_start, pushed, reading, written}
use Rattle.trace_model.specs.Exchanges.{ends_by, has_ended}
use Rattle.trace_model.specs.ModelLaws.{IsHeaded}
use Rattle.trace_model.specs.Standing.{is_whole_final, spells_answer, stands_whole}
use Rattle.trace_model.proofs.FirstByteLaws.{begins-push, continue_part-push, continues-push}
use Rattle.host_trace.specs.Account.{has_unsettled}
use Rattle.conn_laws.proofs.QuietLaws.{reading-quiet}
use Rattle.exchange_reply.proofs.NoSoonerLaws.{items_come_no_sooner}
use Rattle.child_core.proofs.ActLaws.{and_false}
use Rattle.talk_laws.specs.Welcome.{IsAccepted, IsGreeted, ItemsLeaveGreeted}
use Rattle.talk_laws.proofs.AcceptLaws.{accepted_answer}

-- ---- one more item

pub accepted-push : (site : Site) (c : ℕ) (e : Exchange) (x : Item) (value : List ℕ) (request : Request) (mapped : Mapped) → bytes_heard c x ≡ [] → broken site c (pushed e x) ≡ None
    → IsAccepted site c e value request mapped → IsAccepted site c (pushed e x) value request mapped
accepted-push site c e x value request mapped none whole a = record {
  used = a.used;
  due = a.due;
  reads = reading-quiet site c e x none ∙ a.reads;
  unbroken = whole;
  place = a.place;
  kind = a.kind;
  taken = a.taken;
}

pub accepted_headed : (site : Site) (c : ℕ) (e : Exchange) (value : List ℕ) (request : Request) (mapped : Mapped) → IsAccepted site c e value request mapped → IsHeaded (reading site c e)
accepted_headed site c e value request mapped a = subst (λ r. IsHeaded r) (sym a.reads) tt

wrote_same : (c : ℕ) (e : Exchange) (x : Item) → bytes_written c x ≡ [] → written c (pushed e x) ≡ written c e
wrote_same c e x none = client_out-push e.items x c ∙ ap (λ l. written c e ++ l) none ∙ append-nil (written c e)

pub items_leave_greeted : ItemsLeaveGreeted
items_leave_greeted site c e x continued value request mapped two unheard unwritten whole g =
    let head = accepted_headed site c e value request mapped g.accepted in
    let part = continue_part-push site c e x two head in
    let wrote : written c (pushed e x) ≡ written c e = wrote_same c e x unwritten in
    record {
      accepted = accepted-push site c e x value request mapped unheard whole g.accepted;
      unclosed = g.unclosed;
      continues_is = continues-push site c e x two head ∙ g.continues_is;
      let_on = ap (λ l. starts_with nat_eq l (continue_part site c (pushed e x))) wrote ∙ ap (starts_with nat_eq (written c e)) part ∙ g.let_on;
      written_is = wrote ∙ g.written_is ∙ ap (λ l. l ++ accept_text value) (sym part);
      begun = record {
        front = g.begun.front;
        begins = begins-push site c e x g.begun.front two head g.begun.begins;
        no_sooner = items_come_no_sooner site c e x g.begun.front two head g.begun.begins g.begun.no_sooner;
      };
    }

-- ---- what stands

drop_front : (a b : List ℕ) → drop (length a) (a ++ b) ≡ b
drop_front [] b = refl
drop_front (x ∷ a) b = drop_front a b

module _ (site : Site) (c : ℕ) (e : Exchange) (continued : Bool) (value : List ℕ) (request : Request) (mapped : Mapped) (g : IsGreeted site c e continued value request mapped) where
  pub greeted_final : final site c e ≡ accept_text value
  greeted_final = ap (drop (length (continue_part site c e))) g.written_is ∙ drop_front (continue_part site c e) (accept_text value)

  pub greeted_has : has_final site c e ≡ true
  greeted_has = ap is_filled greeted_final

  pub greeted_begun : has_begun site c e ≡ true
  greeted_begun = ap (λ b. has_start c e || b) greeted_has ∙ or_true (has_start c e)
    where
      or_true : (b : Bool) → (b || true) ≡ true
      or_true true = refl
      or_true false = refl

  no_whole : (bytes : List ℕ) → is_whole_final site c e bytes ≡ false
  no_whole [] = refl
  no_whole (byte ∷ bytes) = ap (spells_answer site c e (byte ∷ bytes)) (accepted_answer site c e value request mapped g.accepted)

  pub greeted_unfinished : stands_whole site c e ≡ false
  greeted_unfinished = ap (λ b. starts_with nat_eq (written c e) (continue_part site c e) && b) (no_whole (final site c e)) ∙ and_false _

  pub greeted_unended : has_ended site c e ≡ false
  greeted_unended = go (has_unsettled e.items c)
    where
      go : (b : Bool) → ends_by site c e b ≡ false
      go true = refl
      go false = greeted_unfinished
