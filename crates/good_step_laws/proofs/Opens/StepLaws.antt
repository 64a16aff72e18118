-- A good step is put together: what stands at its end, and the rules on its acts.
use Rattle.std.proofs.Common.{◌≡◌, ℕ, Bool, true, false, not, List, [], ap, ◌∙◌}
use Rattle.host_base.specs.declared.request.Request.{Request}
use Rattle.host_base.specs.declared.site.Mapped.{Mapped}
use Rattle.host_base.specs.declared.site.Site.{Site}
use Rattle.host_trace.specs.Projections.{children_of, client_wanted, shut_for_memory, stopped}
use Rattle.host_trace.specs.Trace.{Step}
use Rattle.trace_model.specs.Answers.{answers, begins_in_turn}
use Rattle.trace_model.specs.Begins.{begins}
use Rattle.trace_model.specs.Children.{ChildrenGood}
use Rattle.trace_model.specs.Continues.{continues_then}
use Rattle.trace_model.specs.Demands.{is_live, must_hear}
use Rattle.trace_model.specs.Exchange.{Exchange, all_of}
use Rattle.trace_model.specs.Form.{comes_in_form, order}
use Rattle.trace_model.specs.Good.{StepGood}
use Rattle.trace_model.specs.Hears.{hears}
use Rattle.trace_model.specs.Hops.{hops}
use Rattle.trace_model.specs.Launches.{is_right_start}
use Rattle.trace_model.specs.Replies.{replies, replies_end}
use Rattle.trace_model.specs.Says.{says}
use Rattle.trace_model.specs.Shuts.{shuts}
use Rattle.trace_model.specs.Steps.{each_act, exchanges_in, goes_on}
use Rattle.trace_model.specs.Stops.{stops}
use Rattle.trace_model.specs.Streams.{begins_no_sooner, streams}
use Rattle.trace_model.specs.TakesNoMemory.{takes_no_memory}
use Rattle.trace_model.specs.Talks.{is_right_talk_act, talks, upgrades}
use Rattle.trace_model.specs.Wants.{wants}
use Rattle.exchange_laws.proofs.AskLaws.{shut_asks}
use Rattle.talk_laws.specs.Rules.{KeepsHttpRules, KeepsLostRules}
use Rattle.talk_laws.specs.Welcome.{IsGreeted}
use Rattle.talk_laws.proofs.RuleLaws.{implied, lost_greetings_keep_rules, unasked}

-- what stands at the end
pub record KeepsEnd (site : Site) (c : ℕ) (e : Exchange) : Type 0 where
  pub http : KeepsHttpRules site c e
  pub talks_then : talks site c e ≡ true
  pub says_then : says site c e ≡ true
  pub hears_then : hears site c e ≡ true
  pub stops_then : stops c e ≡ true

pub record KeepsActs (site : Site) (c : ℕ) (s : Step) : Type 0 where
  pub launches : each_act site c (is_right_start site c) s ≡ true
  pub talk_acts : each_act site c (is_right_talk_act site c) s ≡ true
  pub turns : each_act site c (begins_in_turn site c) s ≡ true
  pub form : each_act site c comes_in_form s ≡ true
  pub ordered : order site c s ≡ true
  pub asks : wants site c s ≡ true
  pub whys : shuts site c s ≡ true
  pub memory : takes_no_memory site c s ≡ true
  pub silent : replies_end c (exchanges_in site c s) ≡ true
  pub children : ChildrenGood site c s

pub good_step : (site : Site) (c : ℕ) (s : Step) (last : Exchange) → goes_on site c s ≡ last → KeepsEnd site c last → KeepsActs site c s → StepGood site c s
good_step site c s last now k a = record {
  good = record {
    replies = ap (replies site c) now ∙ k.http.replies_then;
    replies_end = a.silent;
    launches = a.launches;
    talk_acts = a.talk_acts;
    upgrades = ap (upgrades site c) now ∙ k.http.upgrades_then;
    talks = ap (talks site c) now ∙ k.talks_then;
    shuts = a.whys;
    wants = a.asks;
    form = a.form;
    order = a.ordered;
  };
  ready = record {
    begins = ap (begins site c) now ∙ k.http.begins_then;
    answers = ap (answers site c) now ∙ k.http.answers_then;
    in_turn = a.turns;
    hops = ap (hops site c) now ∙ k.http.hops_then;
    hears = ap (hears site c) now ∙ k.hears_then;
    continues = ap (continues_then site c) now ∙ k.http.continues_then;
    says = ap (says site c) now ∙ k.says_then;
    stops = ap (stops c) now ∙ k.stops_then;
    streams = ap (streams site c) now ∙ k.http.streams_then;
    no_sooner = ap (begins_no_sooner site c) now ∙ k.http.no_sooner;
    takes_no_memory = a.memory;
  };
  children = a.children;
}

-- The accept text stands, nothing was started, and the connection was shut for want of memory.
pub dead_end : (site : Site) (c : ℕ) (e : Exchange) (continued : Bool) (value : List ℕ) (request : Request) (mapped : Mapped) → IsGreeted site c e continued value request mapped
    → children_of e.items c e.number 0 ≡ [] → is_live c (all_of e) ≡ false → shut_for_memory (all_of e) c ≡ true → KeepsEnd site c e
dead_end site c e continued value request mapped g none dead memory =
    let k : KeepsLostRules site c e = lost_greetings_keep_rules site c e continued value request mapped g none dead memory in
    record {
      http = k.http_rules;
      talks_then = k.talks_then;
      says_then = k.says_then;
      hears_then = unasked (must_hear site c e) (client_wanted (all_of e) c) (shut_asks site c e dead);
      stops_then = implied (stopped (all_of e)) (not (is_live c (all_of e))) (ap not dead);
    }
