-- Where there is a cause for want of memory the model takes the step for one in which memory is taken.
use Rattle.std.proofs.Common.{◌≡◌, ◌≤◌, ◌⊎◌, ℕ, ◌==◌, Bool, true, false, ◌&&◌, ◌||◌, not, if◌then◌else◌, List, [], ◌∷◌, ◌++◌, map, Option, Some, None, refl, sym, ap, ◌∙◌, subst, inl, inr, append-nil, append_assoc}
use Rattle.std.specs.Prelude.{filter}
use Rattle.std.specs.List.{list_any}
use Rattle.std.proofs.lemmas.Bool.{and_left, and_parts, and_right, eq-eqb, false≢true, or_left}
use Rattle.std.proofs.lemmas.List.Elements.{filter-append}
use Rattle.host_base.specs.declared.site.Site.{Site}
use Rattle.host_trace.specs.declared.items.Act.{Act}
use Rattle.host_trace.specs.declared.items.Act.TheVariants.{CloseWs, EndInput, Feed, Kill, Release, Says, Shut, Start, Upgrade, WantChild, WantClient, Write}
use Rattle.host_trace.specs.declared.items.Event.{Event}
use Rattle.host_trace.specs.declared.items.Event.TheVariants.{Exited, Tick}
use Rattle.host_trace.specs.declared.items.Item.{Item}
use Rattle.host_trace.specs.declared.items.Item.TheVariants.{In, Out}
use Rattle.host_trace.specs.declared.items.Why.TheVariants.{NoMemory}
use Rattle.host_trace.specs.Trace.{Step, after_step, step_of}
use Rattle.trace_child.specs.Words.{is_filled}
use Rattle.trace_model.specs.Demands.{is_live}
use Rattle.trace_model.specs.Exchange.{Exchange, all_of, continue_text, pushed, request_bytes}
use Rattle.trace_model.specs.Exchanges.{current, current_after, ended_after, ended_by, following, has_ended, next_by}
use Rattle.trace_model.specs.Steps.{ended_in, goes_on}
use Rattle.trace_model.specs.TakesNoMemory.{is_hop_act, is_hop_due, is_reply_due, is_shut_act, lacks_hop, lacks_reply, leaves_nothing, takes_none, unshut, writes}
use Rattle.trace_model.proofs.ExchangeLaws.{ended_after-append}
use Rattle.child_laws.specs.Step.{Turn, waiting}
use Rattle.child_laws.proofs.OverLaws.{new_unended}
use Rattle.conn_laws.specs.Moves.{AreInStep, Move, acts_of, continues, gives, moved, settles}
use Rattle.http_conn.specs.HttpConn.{HttpConn}
use Rattle.http_conn.specs.Kept.{flags_of, number_of, site_of}
use Rattle.http_step_laws.specs.Standing.{Standing}
use Rattle.http_step_laws.proofs.ActWords.{next}
use Rattle.good_step_laws.proofs.Shuts.CauseWords.{Cause, heard, hopped, lacks, wrote}
use Rattle.good_step_laws.proofs.Shuts.EarnWords.{has_settle}
use Rattle.good_step_laws.proofs.Shuts.NoneLaws.{inner_none}
use Rattle.good_step_laws.proofs.Shuts.PartWords.{AreInner, is_inner}

or_right : (a b : Bool) → b ≡ true → (a || b) ≡ true
or_right true b e = refl
or_right false b e = e

some_append : {X : Type 0} (xs ys : List X) → is_filled (xs ++ ys) ≡ (is_filled xs || is_filled ys)
some_append [] ys = refl
some_append (x ∷ xs) ys = refl

-- ---- the step without its Shut

pub kept_inner : (c : ℕ) (held : Bool) (moves : List Move) → AreInner held moves → filter (λ act. not (is_shut_act c act)) (acts_of moves) ≡ acts_of moves
kept_inner c held [] i = refl
kept_inner c held (gives act ∷ moves) i =
    ap (λ (b : Bool). if not b then act ∷ filter (λ a. not (is_shut_act c a)) (acts_of moves) else filter (λ a. not (is_shut_act c a)) (acts_of moves)) (inner_none c act i.0)
    ∙ ap (λ (l : List Act). act ∷ l) (kept_inner c held moves i.1)
kept_inner c held (continues d ∷ moves) i = ap (λ (l : List Act). Write d continue_text ∷ l) (kept_inner c held moves i)
kept_inner c held (settles ending ∷ moves) i = kept_inner c held moves i.1

pub kept_without : (c d : ℕ) (before : List Act) → d ≡ c → filter (λ act. not (is_shut_act c act)) before ≡ before → filter (λ act. not (is_shut_act c act)) (before ++ Shut d NoMemory ∷ []) ≡ before
kept_without c d before is kept =
    filter-append (λ act. not (is_shut_act c act)) before (Shut d NoMemory ∷ [])
    ∙ (ap (λ (b : Bool). filter (λ act. not (is_shut_act c act)) before ++ (if not (b && true) then Shut d NoMemory ∷ [] else [])) (eq-eqb c d (sym is))
    ∙ (append-nil (filter (λ act. not (is_shut_act c act)) before) ∙ kept))

-- ---- the exchanges that ended in it

on_now : (site : Site) (c : ℕ) (e : Exchange) → has_ended site c e ≡ false → next site c e ≡ e
on_now site c e on = ap (λ (b : Bool). next_by site c e b) on

pub ended_some : (site : Site) (c : ℕ) (e : Exchange) (moves : List Move) → AreInStep site c e moves → has_settle moves ≡ true
    → is_filled (ended_by e (has_ended site c e) ++ ended_after site c (next site c e) (map Out (acts_of moves))) ≡ true
ended_some site c e [] a some = absurd (false≢true some)
ended_some site c e (gives act ∷ moves) a some =
    ap (λ (b : Bool). is_filled (ended_by e b ++ ended_after site c (next_by site c e b) (Out act ∷ map Out (acts_of moves)))) a.0 ∙ ended_some site c (pushed e (Out act)) moves a.1 some
ended_some site c e (continues d ∷ moves) a some =
    ap (λ (b : Bool). is_filled (ended_by e b ++ ended_after site c (next_by site c e b) (Out (Write d continue_text) ∷ map Out (acts_of moves)))) a.0
    ∙ ended_some site c (pushed e (Out (Write d continue_text))) moves a.2 some
ended_some site c e (settles ending ∷ moves) a some =
    ap (λ (b : Bool). is_filled (ended_by e b ++ ended_after site c (next_by site c e b) (map Out (acts_of moves)))) a.0.over

module _ (L : List Item) (ev : Event) (e : Exchange) (old : HttpConn) (n : ℕ) (s : Standing L ev [] waiting n e old) (before : List Move) (in_step : AreInStep (site_of old) (number_of old) e before) where
  abbrev site : Site
  site = site_of old

  abbrev c : ℕ
  c = number_of old

  ended_are : ended_after site c (current site c L) (In ev ∷ map Out (acts_of before)) ≡ s.over ++ (ended_by e (has_ended site c e) ++ ended_after site c (next site c e) (map Out (acts_of before)))
  ended_are =
      ended_after-append site c (current site c L) (In ev ∷ []) (map Out (acts_of before))
      ∙ (ap (λ (es : List Exchange). es ++ ended_after site c (current_after site c (current site c L) (In ev ∷ [])) (map Out (acts_of before))) s.children.gone
      ∙ (ap (λ (d : Exchange). (s.over ++ ended_by e (has_ended site c e)) ++ ended_after site c d (map Out (acts_of before))) s.children.goes_on
      ∙ append_assoc s.over (ended_by e (has_ended site c e)) (ended_after site c (next site c e) (map Out (acts_of before)))))

  pub some_ended : (has_settle before || is_filled s.over) ≡ true → is_filled (ended_after site c (current site c L) (In ev ∷ map Out (acts_of before))) ≡ true
  some_ended some =
      ap (λ (es : List Exchange). is_filled es) ended_are
      ∙ (some_append s.over (ended_by e (has_ended site c e) ++ ended_after site c (next site c e) (map Out (acts_of before))) ∙ go (has_settle before) refl some)
    where
      go : (b : Bool) → has_settle before ≡ b → (b || is_filled s.over) ≡ true → (is_filled s.over || is_filled (ended_by e (has_ended site c e) ++ ended_after site c (next site c e) (map Out (acts_of before)))) ≡ true
      go true is all = or_right (is_filled s.over) (is_filled (ended_by e (has_ended site c e) ++ ended_after site c (next site c e) (map Out (acts_of before)))) (ended_some site c e before in_step is)
      go false is all = or_left (is_filled s.over) (is_filled (ended_by e (has_ended site c e) ++ ended_after site c (next site c e) (map Out (acts_of before)))) all

  -- ---- by the acts of the whole step, which are these without the Shut, and by the exchange that goes on without it

  module _ (acts : List Act) (wrote_all : writes c (acts_of before) ≡ true → writes c acts ≡ true) (hops_all : list_any is_hop_act (acts_of before) ≡ true → list_any is_hop_act acts ≡ true)
      (without : filter (λ act. not (is_shut_act c act)) acts ≡ acts_of before) (last_is : current site c (after_step L ev (acts_of before)) ≡ moved site c e before)
      (live : is_live c (all_of (moved site c e before)) ≡ true) where
    abbrev step : Step
    step = step_of L ev acts

    goes_is : goes_on site c (unshut c step) ≡ moved site c e before
    goes_is = ap (λ (l : List Act). current site c (after_step L ev l)) without ∙ last_is

    by_writes : writes c (acts_of before) ≡ true → is_reply_due site c step ≡ true
    by_writes some = or_left (writes c acts) (lacks_reply site c (goes_on site c (unshut c step))) (wrote_all some)

    by_reply : lacks_reply site c (moved site c e before) ≡ true → is_reply_due site c step ≡ true
    by_reply is = or_right (writes c acts) (lacks_reply site c (goes_on site c (unshut c step))) (ap (λ (d : Exchange). lacks_reply site c d) goes_is ∙ is)

    by_hops : list_any is_hop_act (acts_of before) ≡ true → is_hop_due site c step ≡ true
    by_hops some = or_left (list_any is_hop_act acts) (lacks_hop site c (goes_on site c (unshut c step))) (hops_all some)

    by_hop : lacks_hop site c (moved site c e before) ≡ true → is_hop_due site c step ≡ true
    by_hop is = or_right (list_any is_hop_act acts) (lacks_hop site c (goes_on site c (unshut c step))) (ap (λ (d : Exchange). lacks_hop site c d) goes_is ∙ is)

    by_next : (has_settle before || is_filled s.over) ≡ true → is_filled (request_bytes c (moved site c e before)) ≡ true → leaves_nothing site c step ≡ false
    by_next some bytes =
        ap (λ (b : Bool). not b || not (is_filled (request_bytes c (goes_on site c (unshut c step)))))
        (ap (λ (l : List Act). is_filled (ended_after site c (current site c L) (In ev ∷ map Out l))) without ∙ some_ended some)
        ∙ ap not (ap (λ (d : Exchange). is_filled (request_bytes c d)) goes_is ∙ bytes)

    -- at a Tick a reply is due
    pub tick_due : (secs : ℕ) → (writes c (acts_of before) ≡ true) ⊎ (is_live c (all_of (moved site c e before)) ≡ true → lacks_reply site c (moved site c e before) ≡ true) → takes_none site c step (Tick secs) ≡ false
    tick_due secs (inl some) = ap not (by_writes some)
    tick_due secs (inr is) = ap not (by_reply (is live))

    none_first : (a b d : Bool) → a ≡ true → (not a && not b && d) ≡ false
    none_first true b d is = refl
    none_first false b d is = absurd (false≢true is)

    none_second : (a b d : Bool) → b ≡ true → (not a && not b && d) ≡ false
    none_second true b d is = refl
    none_second false true d is = refl
    none_second false false d is = absurd (false≢true is)

    none_third : (a b d : Bool) → d ≡ false → (not a && not b && d) ≡ false
    none_third a b false is = and_right (not a && not b) false refl
    none_third a b true is = absurd (false≢true (sym is))

    -- at the end of a child a reply, a hop or the next exchange is
    pub exit_due : (k : ℕ) → Cause site c e s.over before → takes_none site c step (Exited k) ≡ false
    exit_due k (wrote some) = none_first (is_reply_due site c step) (is_hop_due site c step) (leaves_nothing site c step) (by_writes some)
    exit_due k (hopped some) = none_second (is_reply_due site c step) (is_hop_due site c step) (leaves_nothing site c step) (by_hops some)
    exit_due k (heard some bytes) = none_third (is_reply_due site c step) (is_hop_due site c step) (leaves_nothing site c step) (by_next some bytes)
    exit_due k (lacks due) = go (due live)
      where
        go : (lacks_reply site c (moved site c e before) ≡ true) ⊎ (lacks_hop site c (moved site c e before) ≡ true) → takes_none site c step (Exited k) ≡ false
        go (inl is) = none_first (is_reply_due site c step) (is_hop_due site c step) (leaves_nothing site c step) (by_reply is)
        go (inr is) = none_second (is_reply_due site c step) (is_hop_due site c step) (leaves_nothing site c step) (by_hop is)
