-- A connection that was shut where memory ran out for its WebSocket stays over.
use Rattle.std.proofs.Common.{◌≡◌, ℕ, Bool, true, false, not, ◌&&◌, ◌||◌, ◌==◌, List, [], ◌∷◌, ◌++◌, Some, None, refl, sym, ap, ◌∙◌, subst}
use Rattle.std.specs.Prelude.{if◌then◌else◌}
use Rattle.std.specs.List.{AllByRecursion, list_all, list_any}
use Rattle.std.proofs.lemmas.Bool.{and_from, and_right, false≢true}
use Rattle.host_base.specs.declared.site.Site.{Site}
use Rattle.host_trace.specs.declared.items.Event.{Event}
use Rattle.host_trace.specs.declared.items.Event.TheVariants as Ev
use Rattle.host_trace.specs.declared.items.Item.{Item}
use Rattle.host_trace.specs.declared.items.Item.TheVariants.{In}
use Rattle.host_trace.specs.Kinds.{bytes_heard, is_accepted, is_want_client}
use Rattle.host_trace.specs.Projections.{children_of, client_wanted, shut, shut_for_memory}
use Rattle.host_trace.specs.Trace.{Step, step_of}
use Rattle.host_trace.proofs.FirstLaws.{first_front-push, list_any-push}
use Rattle.host_trace.proofs.ProjectionLaws.{shut-push, shut_for_memory-push}
use Rattle.host_trace.specs.declared.items.Why.TheVariants.{NoMemory}
use Rattle.request_reader.specs.Request.{is_begun}
use Rattle.trace_child.specs.Words.{given, once}
use Rattle.trace_model.specs.Answer.{legs as legs_of}
use Rattle.trace_model.specs.Breaks.{breaks, broken, is_breakable, is_idle_end}
use Rattle.trace_model.specs.Children.{LegGood, LegsGood}
use Rattle.trace_model.specs.Demands.{is_live, must_hear}
use Rattle.trace_model.specs.Exchange.{Exchange, all_of, has_begun, pushed, request_bytes}
use Rattle.trace_model.specs.Exchanges.{current, ended_by, has_ended, next_by}
use Rattle.trace_model.specs.Replies.{is_silent_once_closed}
use Rattle.trace_model.specs.Shuts.{are_whys, is_turned_away, why_due, whys_due}
use Rattle.trace_model.specs.Steps.{goes_on}
use Rattle.trace_model.specs.TakesNoMemory.{takes_none}
use Rattle.host_trace.specs.First.{or_else}
use Rattle.trace_model.proofs.ExchangeLaws.{all_of-current, current-push}
use Rattle.exchange_laws.specs.Walked.{HasChildren}
use Rattle.exchange_laws.proofs.AskLaws.{shut_asks}
use Rattle.exchange_laws.proofs.LegsLaws.{no_children_of}
use Rattle.exchange_laws.proofs.WalkLaws.{has_children-push}
use Rattle.talk_laws.specs.Welcome.{IsGreeted}
use Rattle.talk_laws.proofs.AcceptLaws.{accepted_are_welcomed}
use Rattle.talk_laws.proofs.GreetedLaws.{greeted_begun, greeted_unended, items_leave_greeted}
use Rattle.talk_laws.proofs.ListLaws.{all_push}
use Rattle.talk_laws.proofs.RuleLaws.{implied}
use Rattle.good_step_laws.specs.Opens.Laws.{ClosedPass, IsClosed, IsMissed, passes}
use Rattle.good_step_laws.proofs.Opens.StepLaws.{KeepsEnd, dead_end, good_step}

-- ---- what passes

-- it brings no byte, starts nothing, and shuts nothing
pub record Passing (ev : Event) : Type 0 where
  pub unheard : (c : ℕ) → bytes_heard c (In ev) ≡ []
  pub breaks_none : (site : Site) (c : ℕ) (e : Exchange) (front : List Item) → is_breakable site c e front ≡ false → breaks site c e front (In ev) ≡ false

passing : (ev : Event) → passes ev ≡ true → Passing ev
passing (Ev.Tick secs) p =
    record { unheard = λ c. refl; breaks_none = λ site c e front none. and_right (is_idle_end site.limits c front) (is_breakable site c e front) none }
passing Ev.Stop p = record { unheard = λ c. refl; breaks_none = λ site c e front none. refl }
passing (Ev.Took k count) p = record { unheard = λ c. refl; breaks_none = λ site c e front none. refl }
passing ev p = absurd (false≢true p)

-- no request is broken that is being answered
begun_holds : (site : Site) (c : ℕ) (e : Exchange) → has_begun site c e ≡ true → is_breakable site c e e.items ≡ false
begun_holds site c e begun = go (not (shut e.before c || shut e.items c)) (has_begun site c e) begun
  where
    go : (b s : Bool) → s ≡ true → (b && not s && is_begun (request_bytes c e)) ≡ false
    go true true is = refl
    go false true is = refl
    go b false is = absurd (false≢true is)

module _ (site : Site) (c : ℕ) (L : List Item) (ev : Event) (k : IsClosed site c L) (p : Passing ev) where
  abbrev e : Exchange
  e = current site c L

  abbrev x : Item
  x = In ev

  abbrev later : Exchange
  later = pushed (current site c L) (In ev)

  abbrev step : Step
  step = step_of L ev []

  unbroken : broken site c later ≡ None
  unbroken =
      first_front-push (breaks site c e) e.items x
      ∙ (ap (λ f. or_else f (if breaks site c e e.items x then Some (e.items ++ x ∷ []) else None)) k.greeted.accepted.unbroken
      ∙ ap (λ (b : Bool). if b then Some (e.items ++ x ∷ []) else None)
      (p.breaks_none site c e e.items (begun_holds site c e (greeted_begun site c e k.continued k.value k.request k.mapped k.greeted))))

  greeted : IsGreeted site c later k.continued k.value k.request k.mapped
  greeted = items_leave_greeted site c e x k.continued k.value k.request k.mapped k.two (p.unheard c) refl unbroken k.greeted

  unended : has_ended site c later ≡ false
  unended = greeted_unended site c later k.continued k.value k.request k.mapped greeted

  now : current site c (L ++ In ev ∷ []) ≡ later
  now = current-push site c L x ∙ ap (λ (b : Bool). next_by site c later b) unended

  no_child : HasChildren c later []
  no_child = has_children-push c e x [] refl k.no_child

  first : children_of later.items c later.number 0 ≡ []
  first = no_children_of later.items c later.number 0 no_child

  all_is : all_of later ≡ L ++ In ev ∷ []
  all_is = all_push e x ∙ ap (λ (l : List Item). l ++ In ev ∷ []) (all_of-current site c L)

  shut_then : shut (L ++ In ev ∷ []) c ≡ true
  shut_then = shut-push L x c ∙ ap (λ (b : Bool). b || false) k.shut_is

  memory_then : shut_for_memory (L ++ In ev ∷ []) c ≡ true
  memory_then = shut_for_memory-push L x c ∙ ap (λ (b : Bool). b || false) k.for_memory

  dead : is_live c (all_of later) ≡ false
  dead = ap (is_live c) all_is ∙ and_right (list_any is_accepted (L ++ In ev ∷ [])) (not (shut (L ++ In ev ∷ []) c)) (ap not shut_then)

  at_end : KeepsEnd site c later
  at_end = dead_end site c later k.continued k.value k.request k.mapped greeted first dead (ap (λ (l : List Item). shut_for_memory l c) all_is ∙ memory_then)

  no_legs : legs_of site c later ≡ []
  no_legs = (accepted_are_welcomed site c later k.value k.request k.mapped greeted.accepted).none first

  ended_none : ended_by later (has_ended site c later) ≡ []
  ended_none = ap (λ (b : Bool). ended_by later b) unended

  silent : (es : List Exchange) → es ≡ [] → list_all (is_silent_once_closed c) ((es ++ []) ++ goes_on site c step ∷ []) ≡ true
  silent es none =
      ap (λ (l : List Exchange). list_all (is_silent_once_closed c) ((l ++ []) ++ goes_on site c step ∷ [])) none
      ∙ and_from _ _ (ap (is_silent_once_closed c) now ∙ at_end.http.silent) refl

  leg_rules : (es : List Exchange) → es ≡ [] → AllByRecursion (LegsGood site c step) ((es ++ []) ++ goes_on site c step ∷ [])
  leg_rules es none =
      subst (λ (l : List Exchange). AllByRecursion (LegsGood site c step) ((l ++ []) ++ goes_on site c step ∷ [])) (sym none)
      (subst (λ (d : Exchange). LegsGood site c step d) (sym now) (subst (λ ls. AllByRecursion (LegGood site c step later) ls) (sym no_legs) tt), tt)

  unasked_now : must_hear site c (goes_on site c step) ≡ false
  unasked_now = ap (must_hear site c) now ∙ shut_asks site c later dead

  pub passed : IsMissed site c L ev []
  passed = record {
    good = good_step site c step later now at_end (record {
      launches = refl;
      talk_acts = refl;
      turns = refl;
      form = refl;
      ordered = refl;
      asks = ap (λ (b : Bool). given (is_want_client c) [] == once (b && not (client_wanted (L ++ In ev ∷ []) c))) unasked_now;
      whys = ap (λ (b : Bool). if b then are_whys [] [] else are_whys [] (whys_due (why_due site c (goes_on site c step))) || are_whys [] (NoMemory ∷ []) || is_turned_away step []) k.shut_is;
      memory = implied (takes_none site c step ev) true refl;
      silent = silent (ended_by later (has_ended site c later)) ended_none;
      children = leg_rules (ended_by later (has_ended site c later)) ended_none;
    });
    closed = record {
      two = k.two;
      continued = k.continued;
      value = k.value;
      request = k.request;
      mapped = k.mapped;
      greeted = subst (λ (d : Exchange). IsGreeted site c d k.continued k.value k.request k.mapped) (sym now) greeted;
      no_child = subst (λ (d : Exchange). HasChildren c d []) (sym now) no_child;
      first = ap (λ (d : Exchange). children_of d.items c d.number 0) now ∙ first;
      accepted = list_any-push is_accepted L x ∙ ap (λ (b : Bool). b || is_accepted x) k.accepted;
      shut_is = shut_then;
      for_memory = memory_then;
    };
  }

pub closed_pass : ClosedPass
closed_pass site c L ev k p = passed site c L ev k (passing ev p)
