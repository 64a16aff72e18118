-- An exchange whose handshake is accepted, up to the Upgrade.
use Rattle.std.proofs.Common.{◌≡◌, ◌≤◌, ℕ, Bool, true, false, List, [], ◌∷◌, ◌++◌, None, refl, ap, ◌∙◌, arith}
use Rattle.std.specs.Prelude.{drop}
use Rattle.std.specs.List.{list_any}
use Rattle.host_base.specs.declared.launch.Launch.{Launch}
use Rattle.host_base.specs.declared.site.Site.{Site}
use Rattle.host_trace.specs.declared.items.Act.{Act}
use Rattle.host_trace.specs.declared.items.Act.TheVariants.{Upgrade, Write}
use Rattle.host_trace.specs.declared.items.Event.{Event}
use Rattle.host_trace.specs.declared.items.Item.TheVariants.{Out}
use Rattle.host_trace.specs.declared.items.Item.{Item}
use Rattle.host_trace.specs.Kinds.{is_accepted}
use Rattle.host_trace.specs.Trace.{after_step, step_of}
use Rattle.request_reader.specs.Request.{used_by}
use Rattle.trace_model.specs.Children.{ChildrenGood}
use Rattle.trace_model.specs.Demands.{may_go_on}
use Rattle.trace_model.specs.Exchange.{Exchange, all_of, pushed, reading, request_bytes}
use Rattle.trace_model.specs.Exchanges.{current, has_ended, left_over}
use Rattle.trace_model.specs.Form.{begins_anew, rank}
use Rattle.conn_laws.proofs.QuietLaws.{reading-quiet}
use Rattle.child_laws.specs.Moves.{Deals}
use Rattle.child_laws.specs.Step.{Turn}
use Rattle.child_laws.proofs.MoveLaws.{acts_move}
use Rattle.http_step_laws.specs.Standing.{IsRight}
use Rattle.http_step_laws.proofs.PushWords.{bytes_quiet}
use Rattle.good_step_laws.proofs.Orders.PlaceWords.{least_after, least_low}
use Rattle.talk_laws.specs.Welcome.{AcceptsMove, IsOpening, IsWelcoming, UpgradesMove}
use Rattle.talk_laws.proofs.GreetedLaws.{greeted_unended}
use Rattle.talk_laws.proofs.ListLaws.{any_still}
use Rattle.talk_laws.proofs.OpeningLaws.{accepts_are_written, upgrades_are_given}
use Rattle.good_step_laws.proofs.Opens.StepLaws.{KeepsEnd}

-- The handshake is accepted at this exchange, after these acts of a step: this text is to be written in its turn, and then
-- this launch started as child n.
pub record Welcomed (site : Site) (c : ℕ) (L : List Item) (ev : Event) (acts : List Act) (e : Exchange) (n : ℕ) (text : List ℕ) (launch : Launch) : Type 0 where
  pub two : 2 ≤ site.limits.head
  pub over : List Exchange
  pub turn : Turn
  pub continued : Bool
  pub welcoming : IsWelcoming site c e [] continued text launch
  pub deals : Deals site c L ev acts e over false turn n [] None
  pub may : may_go_on c e ≡ true
  pub on : has_ended site c e ≡ false
  pub accepted : list_any is_accepted (all_of e) ≡ true

-- .. the text was written, and `spoken`: the Upgrade given
pub record Greeted (site : Site) (c : ℕ) (L : List Item) (ev : Event) (acts : List Act) (e : Exchange) (n : ℕ) (continued : Bool) (launch : Launch) (spoken : Bool) : Type 0 where
  pub two : 2 ≤ site.limits.head
  pub over : List Exchange
  pub turn : Turn
  pub opening : IsOpening site c e [] continued launch spoken
  pub deals : Deals site c L ev acts e over false turn n [] None
  pub on : has_ended site c e ≡ false
  pub accepted : list_any is_accepted (all_of e) ≡ true

-- After these acts of the step of an event the exchange e goes on, and at its end all rules on it are kept.
pub record Ends (site : Site) (c : ℕ) (L : List Item) (ev : Event) (acts : List Act) (e : Exchange) : Type 0 where
  pub now : current site c (after_step L ev acts) ≡ e
  pub unended : has_ended site c e ≡ false
  pub at_end : KeepsEnd site c e
  pub children : ChildrenGood site c (step_of L ev acts)

-- the place of what comes next is no higher
pub low_after : (site : Site) (c : ℕ) (e : Exchange) (act : Act) (high : ℕ) → rank act ≤ high → least_after site c e act ≤ high
low_after site c e act high le = let low : least_after site c e act ≤ rank act = least_low (begins_anew site c e act) (rank act) in omega (arith, low, le)

-- ---- the accept text

module _ (site : Site) (c : ℕ) (L : List Item) (ev : Event) (acts : List Act) (e : Exchange) (n : ℕ) (text : List ℕ) (launch : Launch) (w : Welcomed site c L ev acts e n text launch) where
  abbrev later : Exchange
  later = pushed e (Out (Write c text))

  written : AcceptsMove site c e [] w.continued text launch
  written = accepts_are_written site c e [] w.continued text launch w.two w.welcoming

  pub text_greeted : Greeted site c L ev (acts ++ Write c text ∷ []) (pushed e (Out (Write c text))) n w.continued launch false
  text_greeted =
      let o : IsOpening site c later [] w.continued launch false = written.then_is in
      record {
        two = w.two;
        over = w.over;
        turn = w.turn;
        opening = o;
        deals = acts_move site c L ev acts e w.over (Write c text) false w.turn n [] None w.two refl refl w.on w.deals;
        on = greeted_unended site c later w.continued o.value o.request o.mapped o.greeted;
        accepted = any_still is_accepted e (Out (Write c text)) refl ∙ w.accepted;
      }

  pub text_right : IsRight site c e (Write c text)
  text_right = record { start = refl; in_turn = written.in_turn w.may; upgrade = refl; may = refl }

  -- what the client sent after the request stays
  pub text_left : left_over site c (pushed e (Out (Write c text))) ≡ left_over site c e
  text_left =
      ap (λ r. drop (used_by r) (request_bytes c later)) (reading-quiet site c e (Out (Write c text)) refl)
      ∙ ap (λ (l : List ℕ). drop (used_by (reading site c e)) l) (bytes_quiet c e (Out (Write c text)) refl)

-- ---- the Upgrade

module _ (site : Site) (c : ℕ) (L : List Item) (ev : Event) (acts : List Act) (e : Exchange) (n : ℕ) (continued : Bool) (launch : Launch) (g : Greeted site c L ev acts e n continued launch false)
    (rest : List ℕ) where
  given : UpgradesMove site c e [] continued launch rest
  given = upgrades_are_given site c e [] continued launch rest g.two g.opening

  pub upgrade_greeted : Greeted site c L ev (acts ++ Upgrade c rest ∷ []) (pushed e (Out (Upgrade c rest))) n continued launch true
  upgrade_greeted =
      let o : IsOpening site c (pushed e (Out (Upgrade c rest))) [] continued launch true = given.then_is in
      record {
        two = g.two;
        over = g.over;
        turn = g.turn;
        opening = o;
        deals = acts_move site c L ev acts e g.over (Upgrade c rest) false g.turn n [] None g.two refl refl g.on g.deals;
        on = greeted_unended site c (pushed e (Out (Upgrade c rest))) continued o.value o.request o.mapped o.greeted;
        accepted = any_still is_accepted e (Out (Upgrade c rest)) refl ∙ g.accepted;
      }

  pub upgrade_right : rest ≡ left_over site c e → IsRight site c e (Upgrade c rest)
  upgrade_right is = record { start = refl; in_turn = refl; upgrade = given.right is; may = refl }
