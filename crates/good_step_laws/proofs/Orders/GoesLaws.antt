-- Parts of a step, one after the other, and the places of their acts.
use Rattle.std.proofs.Common.{◌≡◌, ℕ, true, List, [], ◌++◌, sym, ap, ◌∙◌, subst}
use Rattle.host_base.specs.declared.site.Site.{Site}
use Rattle.host_trace.specs.declared.items.Act.{Act}
use Rattle.host_trace.specs.declared.items.Event.{Event}
use Rattle.host_trace.specs.declared.items.Item.{Item}
use Rattle.own_traces.specs.Whose.{next_after}
use Rattle.trace_model.specs.Exchange.{Exchange}
use Rattle.conn_flags.specs.View.{View as Flags}
use Rattle.conn_flags.specs.Form.{are_given}
use Rattle.conn_flags.proofs.KnowsLaws.{given_all-number}
use Rattle.child_laws.specs.Step.{Turn}
use Rattle.conn_laws.specs.Moves.{Move, acts_of, moved}
use Rattle.conn_laws.proofs.MoveLaws.{moved-append}
use Rattle.http_conn.specs.HttpConn.{HttpConn}
use Rattle.http_conn.specs.Kept.{flags_of, number_of, site_of}
use Rattle.http_conn.specs.Parts.{Deed, Nothing, Then}
use Rattle.http_step_laws.specs.Standing.{Claim, Leaves, Standing}
use Rattle.http_step_laws.proofs.ThenLaws.{form_parts}
use Rattle.good_step_laws.proofs.Orders.PlaceWords.{AreOrdered, least_then, least_together, ordered_together}

-- what is said where moves lead, by the least place of what comes next
abbrev pub Lowest : Type 1
Lowest = ℕ → Exchange → HttpConn → Type 0

-- The acts come in the order of their places, and this is said where they lead.
pub record Goes (Low : Lowest) (site : Site) (c : ℕ) (e : Exchange) (least : ℕ) (moves : List Move) (new : HttpConn) : Type 0 where
  pub ordered : AreOrdered site c e least moves
  pub low : Low (least_then site c e least moves) (moved site c e moves) new

pub goes_as : (Low : Lowest) (site : Site) (c : ℕ) (e : Exchange) (least : ℕ) (moves others : List Move) (new : HttpConn) → moves ≡ others → Goes Low site c e least others new
    → Goes Low site c e least moves new
goes_as Low site c e least moves others new is g = subst (λ (l : List Move). Goes Low site c e least l new) (sym is) g

pub goes_empty : (Low : Lowest) (site : Site) (c : ℕ) (e : Exchange) (least : ℕ) (moves : List Move) (new : HttpConn) → moves ≡ [] → Low least e new → Goes Low site c e least moves new
goes_empty Low site c e least moves new none low = goes_as Low site c e least moves [] new none (record { ordered = tt; low = low })

pub goes_none : (Low : Lowest) (site : Site) (c : ℕ) (e : Exchange) (least : ℕ) (old new : HttpConn) (n : ℕ) (moves : List Move) → Nothing old n moves new → Low least e old
    → Goes Low site c e least moves new
goes_none Low site c e least old new n moves nothing low =
    goes_empty Low site c e least moves new nothing.none (subst (λ (d : HttpConn). Low least e d) (sym nothing.same) low)

pub goes_then : (Mid Low : Lowest) (site : Site) (c : ℕ) (e : Exchange) (least : ℕ) (xs ys : List Move) (mid new : HttpConn) → Goes Mid site c e least xs mid
    → Goes Low site c (moved site c e xs) (least_then site c e least xs) ys new → Goes Low site c e least (xs ++ ys) new
goes_then Mid Low site c e least xs ys mid new one two = record {
  ordered = ordered_together site c e least xs ys one.ordered two.ordered;
  low = subst (λ (d : Exchange). Low (least_then site c e least (xs ++ ys)) d new) (sym (moved-append site c e xs ys))
      (subst (λ (k : ℕ). Low k (moved site c (moved site c e xs) ys) new) (sym (least_together site c e least xs ys)) two.low);
}

-- Where the first part leads to what the second one wants, both go.
pub then_goes : (First Later : Deed) (Mid : Claim) (LowMid Low : Lowest) (L : List Item) (ev : Event) (acts : List Act) (e : Exchange) (least : ℕ) (old new : HttpConn) (n : ℕ) (moves : List Move)
    → Then First Later old n moves new → are_given (flags_of old) (acts_of moves) ≡ true
    → ((xs : List Move) (mid : HttpConn) → First old n xs mid → are_given (flags_of old) (acts_of xs) ≡ true → Leaves Mid L ev acts e old n xs mid)
    → ((xs : List Move) (mid : HttpConn) → First old n xs mid → are_given (flags_of old) (acts_of xs) ≡ true → Leaves Mid L ev acts e old n xs mid
    → Goes LowMid (site_of old) (number_of old) e least xs mid)
    → ((acts' : List Act) (turn : Turn) (e' : Exchange) (least' : ℕ) (mid : HttpConn) (n' : ℕ) (ys : List Move) → Standing L ev acts' turn n' e' mid → Mid turn e' mid → LowMid least' e' mid
    → site_of mid ≡ site_of old → Later mid n' ys new → are_given (flags_of mid) (acts_of ys) ≡ true → Goes Low (site_of mid) (number_of mid) e' least' ys new)
    → Goes Low (site_of old) (number_of old) e least moves new
then_goes First Later Mid LowMid Low L ev acts e least old new n moves w form leaves one two =
    let forms = form_parts (flags_of old) w.sooner w.later (subst (λ (l : List Move). are_given (flags_of old) (acts_of l) ≡ true) w.are form) in
    let l : Leaves Mid L ev acts e old n w.sooner w.mid = leaves w.sooner w.mid w.first forms.0 in
    let g : Goes LowMid (site_of old) (number_of old) e least w.sooner w.mid = one w.sooner w.mid w.first forms.0 l in
    let c_is : number_of w.mid ≡ number_of old = ap (λ (m : Flags). m.c) l.flags ∙ given_all-number (flags_of old) (acts_of w.sooner) in
    let d : Exchange = moved (site_of old) (number_of old) e w.sooner in
    let low : ℕ = least_then (site_of old) (number_of old) e least w.sooner in
    let later : Goes Low (site_of w.mid) (number_of w.mid) d low w.later new =
    two (acts ++ acts_of w.sooner) l.turn d low w.mid (next_after n (acts_of w.sooner)) w.later l.standing l.post g.low l.site w.second
    (subst (λ (m : Flags). are_given m (acts_of w.later) ≡ true) (sym l.flags) forms.1) in
    goes_as Low (site_of old) (number_of old) e least moves (w.sooner ++ w.later) new w.are
    (goes_then LowMid Low (site_of old) (number_of old) e least w.sooner w.later w.mid new g
    (subst (λ (k : ℕ). Goes Low (site_of old) k d low w.later new) c_is (subst (λ (t : Site). Goes Low t (number_of w.mid) d low w.later new) l.site later)))
