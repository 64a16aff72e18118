-- The rules that hold at the end of a step.
use Rattle.std.proofs.Common.{◌≡◌, ◌≤◌, ℕ, Bool, true, false, ◌||◌, List, [], ◌∷◌, ◌++◌, map, Option, refl, sym, ap, ◌∙◌, subst, append_assoc}
use Rattle.std.specs.List.{list_all}
use Rattle.std.proofs.lemmas.Bool.{and_from}
use Rattle.std.proofs.lemmas.List.Folds.{list_all-append}
use Rattle.host_base.specs.declared.site.Site.{Site}
use Rattle.host_trace.specs.declared.items.Act.{Act}
use Rattle.host_trace.specs.declared.items.Event.{Event}
use Rattle.host_trace.specs.declared.items.Item.{Item}
use Rattle.host_trace.specs.declared.items.Item.TheVariants.{In, Out}
use Rattle.host_trace.specs.Projections.{last_secs, shut_for_memory}
use Rattle.host_trace.specs.Trace.{after_step, step_of}
use Rattle.trace_model.specs.Answers.{answers}
use Rattle.trace_model.specs.Begins.{begins}
use Rattle.trace_model.specs.Children.{ChildrenGood}
use Rattle.trace_model.specs.Continues.{continues_then}
use Rattle.trace_model.specs.Exchange.{Exchange, all_of, request_bytes}
use Rattle.trace_model.specs.Exchanges.{current, current_after, ended_after, ended_by, has_ended}
use Rattle.trace_model.specs.Hops.{hops}
use Rattle.trace_model.specs.Replies.{is_silent_once_closed, replies, replies_end}
use Rattle.trace_model.specs.Steps.{ended_in, exchanges_in, goes_on}
use Rattle.trace_model.specs.Streams.{begins_no_sooner, streams}
use Rattle.trace_model.proofs.ExchangeLaws.{current-append, ended_after-append}
use Rattle.exchange_request.specs.Knows.{is_looked_at}
use Rattle.exchange_laws.specs.Rules.{KeepsStepRules}
use Rattle.exchange_laws.proofs.ShutLaws.{continues_are_given}
use Rattle.conn_laws.proofs.FormLaws.{flags_say}
use Rattle.conn_flags.specs.View.{View as Flags}
use Rattle.conn_flags.specs.Form.{are_given}
use Rattle.conn_flags.proofs.KnowsLaws.{given_all-number}
use Rattle.child_laws.specs.Step.{Turn, waiting}
use Rattle.conn_laws.specs.Moves.{AreInStep, Move, acts_of, moved}
use Rattle.http_conn.specs.HttpConn.{HttpConn}
use Rattle.http_conn.specs.Kept.{flags_of, number_of, site_of}
use Rattle.http_conn.specs.Reasons.{is_done_with}
use Rattle.http_step_laws.specs.Laws.{KeepsStep, LostEnds}
use Rattle.http_conn.specs.Parts.{Steps}
use Rattle.http_step_laws.specs.Standing.{Apt, Leaves, Standing, is_early}
use Rattle.http_step_laws.proofs.ActWords.{EachRight, acts_right, ended_silent, next}
use Rattle.http_step_laws.proofs.EndWords.{going, unclosed_of}
use Rattle.http_step_laws.proofs.LostWords.{lost_ends_well}
use Rattle.http_step_laws.proofs.RestWords.{children_good, continued_end, current_is, on_now, rules_kept}
use Rattle.trace_model.specs.Demands.{must_hear}
use Rattle.trace_model.specs.Hears.{hears}
use Rattle.host_trace.specs.Projections.{client_wanted}
use Rattle.exchange_laws.proofs.RestLaws.{no_demand}
use Rattle.http_step_laws.proofs.HearWords.{hears_found}
use Rattle.http_step_laws.proofs.StageWords.{known_now}
use Rattle.http_step_laws.proofs.TalkWords.{none_says, none_talks}
use Rattle.http_step_laws.proofs.WelcomeWords.{losses_upgrade_none, stages_upgrade_none}
use Rattle.trace_model.specs.Says.{says}
use Rattle.trace_model.specs.Talks.{talks, upgrades}
use Rattle.http_step_laws.proofs.WantLaws.{Done, steps_leave}

-- ---- by the exchange that goes on

record Ends (site : Site) (c : ℕ) (lost : Bool) (e : Exchange) : Type 0 where
  pub replies_then : (lost ≡ true → shut_for_memory (all_of e) c ≡ true) → replies site c e ≡ true
  pub silent : is_silent_once_closed c e ≡ true
  pub begins_then : begins site c e ≡ true
  pub answers_then : answers site c e ≡ true
  pub hops_then : hops site c e ≡ true
  pub continues_on : continues_then site c e ≡ true
  pub hears_then : hears site c e ≡ true
  pub talks_then : talks site c e ≡ true
  pub upgrades_then : upgrades site c e ≡ true
  pub says_then : says site c e ≡ true
  pub streams_then : streams site c e ≡ true
  pub no_sooner : begins_no_sooner site c e ≡ true

module _ (L : List Item) (ev : Event) (acts : List Act) (turn : Turn) (e : Exchange) (conn : HttpConn) (n : ℕ) (s : Standing L ev acts turn n e conn) (d : Done turn e conn) where
  by_found : conn.lost ≡ false → Ends (site_of conn) (number_of conn) conn.lost e
  by_found found =
      let k : KeepsStepRules (site_of conn) (number_of conn) e = rules_kept L ev acts turn e conn n s d.closed found in
      record {
        replies_then = λ m. k.replies_then;
        silent = k.silent;
        begins_then = k.begins_then;
        answers_then = k.answers_then;
        hops_then = k.hops_then;
        continues_on = continues_are_given (site_of conn) (number_of conn) e
            (λ live. unclosed_of conn e _ s.front (going conn (is_done_with conn (request_bytes (number_of conn) e)) (d.closed.on ((flags_say (flags_of conn) (all_of e) s.flags).live ∙ live))))
            (continued_end L ev acts turn e conn n s d.closed found);
        hears_then = hears_found L ev acts turn e conn n s d found;
        talks_then = none_talks (site_of conn) (number_of conn) e (is_early conn) n s.legs conn.run (known_now L ev acts turn n e conn s);
        upgrades_then = stages_upgrade_none (site_of conn) (number_of conn) e s.legs conn.continued (is_looked_at conn.request) (conn.closing || conn.closes) (s.staged found).more conn.stage (s.staged found).is;
        says_then = none_says (site_of conn) (number_of conn) e (is_early conn) n s.legs conn.run (known_now L ev acts turn n e conn s);
        streams_then = k.streams_then;
        no_sooner = k.no_sooner;
      }

  by_lost : conn.lost ≡ true → Ends (site_of conn) (number_of conn) conn.lost e
  by_lost is =
      let k : LostEnds (site_of conn) (number_of conn) e = lost_ends_well L ev acts turn e conn n s d.closed is in
      record {
        replies_then = λ m. k.replies_then (m is);
        silent = k.silent;
        begins_then = k.demands.begins_then;
        answers_then = k.demands.answers_then;
        hops_then = k.demands.hops_then;
        continues_on = k.demands.continues_then;
        hears_then = no_demand (must_hear (site_of conn) (number_of conn) e) (client_wanted (all_of e) (number_of conn)) k.demands.asks_none;
        talks_then = none_talks (site_of conn) (number_of conn) e (is_early conn) n s.legs conn.run (known_now L ev acts turn n e conn s);
        upgrades_then = losses_upgrade_none (site_of conn) (number_of conn) e s.legs conn.continued (conn.closing || conn.closes) conn.stage (s.lost is);
        says_then = none_says (site_of conn) (number_of conn) e (is_early conn) n s.legs conn.run (known_now L ev acts turn n e conn s);
        streams_then = k.demands.streams_then;
        no_sooner = k.no_sooner;
      }

  ends : Ends (site_of conn) (number_of conn) conn.lost e
  ends = go conn.lost refl
    where
      go : (b : Bool) → conn.lost ≡ b → Ends (site_of conn) (number_of conn) conn.lost e
      go false found = by_found found
      go true is = by_lost is

-- ---- a whole step

module _ (L : List Item) (ev : Event) (e : Exchange) (old new : HttpConn) (n : ℕ) (moves : List Move) (s : Standing L ev [] waiting n e old)
    (over : list_all (is_silent_once_closed (number_of old)) s.over ≡ true) (l : Leaves Done L ev [] e old n moves new) where
  abbrev site : Site
  site = site_of old

  abbrev c : ℕ
  c = number_of old

  abbrev acts : List Act
  acts = acts_of moves

  abbrev last : Exchange
  last = moved site c e moves

  number : number_of new ≡ c
  number = ap (λ (m : Flags). m.c) l.flags ∙ given_all-number (flags_of old) acts

  last_is : current site c (after_step L ev acts) ≡ last
  last_is =
      subst (λ (k : ℕ). current site k (after_step L ev acts) ≡ last) number
      (subst (λ (t : Site). current t (number_of new) (after_step L ev acts) ≡ last) l.site (current_is L ev acts l.turn last new _ l.standing l.post.closed))

  on : has_ended site c last ≡ false
  on = subst (λ (k : ℕ). has_ended site k last ≡ false) number (subst (λ (t : Site). has_ended t (number_of new) last ≡ false) l.site (on_now L ev acts l.turn last new _ l.standing l.post.closed))

  children : ChildrenGood site c (step_of L ev acts)
  children =
      subst (λ (k : ℕ). ChildrenGood site k (step_of L ev acts)) number
      (subst (λ (t : Site). ChildrenGood t (number_of new) (step_of L ev acts)) l.site (children_good L ev acts l.turn last new _ l.standing l.post.closed))

  ends_here : Ends site c new.lost (goes_on site c (step_of L ev acts))
  ends_here =
      subst (λ (d : Exchange). Ends site c new.lost d) (sym last_is)
      (subst (λ (k : ℕ). Ends site k new.lost last) number (subst (λ (t : Site). Ends t (number_of new) new.lost last) l.site (ends L ev acts l.turn last new _ l.standing l.post)))

  heard_is : current site c (L ++ In ev ∷ []) ≡ next site c e
  heard_is = current-append site c L (In ev ∷ []) ∙ s.children.goes_on

  ended_are : ended_in site c (step_of L ev acts) ≡ s.over ++ (ended_by e (has_ended site c e) ++ ended_after site c (next site c e) (map Out acts))
  ended_are =
      ended_after-append site c (current site c L) (In ev ∷ []) (map Out acts)
      ∙ (ap (λ (es : List Exchange). es ++ ended_after site c (current_after site c (current site c L) (In ev ∷ [])) (map Out acts)) s.children.gone
      ∙ (ap (λ (d : Exchange). (s.over ++ ended_by e (has_ended site c e)) ++ ended_after site c d (map Out acts)) s.children.goes_on
      ∙ append_assoc s.over (ended_by e (has_ended site c e)) (ended_after site c (next site c e) (map Out acts))))

  all_silent : replies_end c (exchanges_in site c (step_of L ev acts)) ≡ true
  all_silent =
      list_all-append (is_silent_once_closed c) (ended_in site c (step_of L ev acts)) (goes_on site c (step_of L ev acts) ∷ [])
      ∙ and_from _ _
      (ap (λ (es : List Exchange). list_all (is_silent_once_closed c) es) ended_are
      ∙ (list_all-append (is_silent_once_closed c) s.over (ended_by e (has_ended site c e) ++ ended_after site c (next site c e) (map Out acts))
      ∙ and_from _ _ over (ended_silent site c e moves l.in_step l.right on)))
      (and_from _ _ ends_here.silent refl)

  each : EachRight site c (current site c (L ++ In ev ∷ [])) acts
  each = subst (λ (d : Exchange). EachRight site c d acts) (sym heard_is) (acts_right site c e moves l.in_step l.right)

  kept : KeepsStep site c new.lost (step_of L ev acts)
  kept = record {
    replies_then = ends_here.replies_then;
    replies_end_then = all_silent;
    launches = each.launches;
    talk_acts = each.upgrades;
    givings = each.givings;
    in_turn = each.in_turn;
    begins_then = ends_here.begins_then;
    answers_then = ends_here.answers_then;
    hops_then = ends_here.hops_then;
    continues_on = ends_here.continues_on;
    hears_then = ends_here.hears_then;
    talks_then = ends_here.talks_then;
    upgrades_then = ends_here.upgrades_then;
    says_then = ends_here.says_then;
    streams_then = ends_here.streams_then;
    no_sooner = ends_here.no_sooner;
    children = children;
  }

pub steps_keep_step : (L : List Item) (ev : Event) (e : Exchange) (old new : HttpConn) (n : ℕ) (moves : List Move) (stamp : Option ℕ) → (s : Standing L ev [] waiting n e old)
    → list_all (is_silent_once_closed (number_of old)) s.over ≡ true → 2 ≤ (site_of old).limits.head → stamp ≡ last_secs (L ++ In ev ∷ []) → Apt e old → Steps stamp old n moves new
    → are_given (flags_of old) (acts_of moves) ≡ true
    → AreInStep (site_of old) (number_of old) e moves × KeepsStep (site_of old) (number_of old) new.lost (step_of L ev (acts_of moves))
steps_keep_step L ev e old new n moves stamp s over two clock apt w form =
    let l : Leaves Done L ev [] e old n moves new = steps_leave L ev e old new n moves stamp s two clock apt w form in
    (l.in_step, kept L ev e old new n moves s over l)
