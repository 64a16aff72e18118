-- Memory is wanting once the accept text stands: the connection is shut.
use Rattle.std.proofs.Common.{◌≡◌, ℕ, ◌==◌, Bool, true, false, not, List, [], ◌∷◌, ◌++◌, None, refl, ap, ◌∙◌}
use Rattle.std.specs.List.{list_any}
use Rattle.std.proofs.lemmas.Bool.{and_from, and_right, eq-eqb, or_right}
use Rattle.host_base.specs.declared.launch.Launch.{Launch}
use Rattle.host_base.specs.declared.request.Request.{Request}
use Rattle.host_base.specs.declared.site.Mapped.{Mapped}
use Rattle.host_base.specs.declared.site.Site.{Site}
use Rattle.host_trace.specs.declared.items.Act.{Act}
use Rattle.host_trace.specs.declared.items.Act.TheVariants.{Shut}
use Rattle.host_trace.specs.declared.items.Event.{Event}
use Rattle.host_trace.specs.declared.items.Item.{Item}
use Rattle.host_trace.specs.declared.items.Item.TheVariants.{Out}
use Rattle.host_trace.specs.declared.items.Why.TheVariants.{NoMemory}
use Rattle.host_trace.specs.Kinds.{is_accepted, is_shut, is_shut_for_memory}
use Rattle.host_trace.specs.Projections.{children_of, shut, shut_for_memory}
use Rattle.trace_model.specs.Demands.{is_live}
use Rattle.trace_model.specs.Exchange.{Exchange, all_of, pushed}
use Rattle.trace_model.specs.Exchanges.{has_ended}
use Rattle.conn_laws.proofs.QuietLaws.{act_breaks_none}
use Rattle.exchange_laws.specs.Walked.{HasChildren}
use Rattle.exchange_laws.proofs.LegsLaws.{no_children_of}
use Rattle.exchange_laws.proofs.WalkLaws.{has_children-push}
use Rattle.child_laws.specs.Moves.{Deals}
use Rattle.child_laws.proofs.MoveLaws.{moves_end_well, moves_tell, no_child_moves, shuts_move}
use Rattle.http_step_laws.specs.Standing.{IsRight}
use Rattle.talk_laws.specs.Welcome.{IsGreeted, IsOpening}
use Rattle.talk_laws.proofs.GreetedLaws.{greeted_unended, items_leave_greeted}
use Rattle.talk_laws.proofs.ListLaws.{any_push, any_still}
use Rattle.good_step_laws.proofs.Opens.GreetWords.{Ends, Greeted}
use Rattle.good_step_laws.proofs.Opens.StepLaws.{dead_end}

-- After these acts the exchange goes on, for which the accept text stands and nothing was started, and its connection is shut
-- for want of memory.
pub record IsOver (site : Site) (c : ℕ) (L : List Item) (ev : Event) (acts : List Act) (e : Exchange) : Type 0 where
  pub ends : Ends site c L ev acts e
  pub continued : Bool
  pub value : List ℕ
  pub request : Request
  pub mapped : Mapped
  pub greeted : IsGreeted site c e continued value request mapped
  pub no_child : HasChildren c e []
  pub first : children_of e.items c e.number 0 ≡ []
  pub accepted : list_any is_accepted (all_of e) ≡ true
  pub shut_is : shut (all_of e) c ≡ true
  pub memory : shut_for_memory (all_of e) c ≡ true
  pub dead : is_live c (all_of e) ≡ false

module _ (site : Site) (c : ℕ) (L : List Item) (ev : Event) (acts : List Act) (e : Exchange) (n : ℕ) (continued : Bool) (launch : Launch) (spoken : Bool)
    (g : Greeted site c L ev acts e n continued launch spoken) where
  abbrev x : Item
  x = Out (Shut c NoMemory)

  abbrev later : Exchange
  later = pushed e (Out (Shut c NoMemory))

  abbrev o : IsOpening site c e [] continued launch spoken
  o = g.opening

  greeted : IsGreeted site c later continued o.value o.request o.mapped
  greeted =
      items_leave_greeted site c e x continued o.value o.request o.mapped g.two refl refl (act_breaks_none site c e (Shut c NoMemory) ∙ o.greeted.accepted.unbroken) o.greeted

  no_child : HasChildren c later []
  no_child = has_children-push c e x [] refl o.no_child

  first : children_of later.items c later.number 0 ≡ []
  first = no_children_of later.items c later.number 0 no_child

  shut_is : shut (all_of later) c ≡ true
  shut_is = any_push (is_shut c) e x ∙ or_right (shut (all_of e) c) (is_shut c x) (eq-eqb c c refl)

  memory : shut_for_memory (all_of later) c ≡ true
  memory = any_push (is_shut_for_memory c) e x ∙ or_right (shut_for_memory (all_of e) c) (is_shut_for_memory c x) (and_from (c == c) true (eq-eqb c c refl) refl)

  dead : is_live c (all_of later) ≡ false
  dead = and_right (list_any is_accepted (all_of later)) (not (shut (all_of later) c)) (ap not shut_is)

  unended : has_ended site c later ≡ false
  unended = greeted_unended site c later continued o.value o.request o.mapped greeted

  dealt : Deals site c L ev (acts ++ Shut c NoMemory ∷ []) later g.over false g.turn n [] None
  dealt = shuts_move site c L ev acts e g.over g.turn n [] None g.two g.on (no_child_moves site c L ev acts e g.over false true g.turn g.turn n [] g.deals)

  pub shut_over : IsOver site c L ev (acts ++ Shut c NoMemory ∷ []) (pushed e (Out (Shut c NoMemory)))
  shut_over = record {
    ends = record {
      now = (moves_tell site c L ev (acts ++ Shut c NoMemory ∷ []) later g.over false g.turn n [] None dealt).is unended;
      unended = unended;
      at_end = dead_end site c later continued o.value o.request o.mapped greeted first dead memory;
      children = moves_end_well site c L ev (acts ++ Shut c NoMemory ∷ []) later g.over g.turn n [] None unended dealt tt;
    };
    continued = continued;
    value = o.value;
    request = o.request;
    mapped = o.mapped;
    greeted = greeted;
    no_child = no_child;
    first = first;
    accepted = any_still is_accepted e x refl ∙ g.accepted;
    shut_is = shut_is;
    memory = memory;
    dead = dead;
  }

pub shut_right : (site : Site) (c : ℕ) (e : Exchange) → IsRight site c e (Shut c NoMemory)
shut_right site c e = record { start = refl; in_turn = refl; upgrade = refl; may = refl }
