-- A step gives what the core of all connections asks of it, by cases.
use Rattle.std.proofs.Common.{◌≡◌, ℕ, ◌||◌, Bool, true, false, List, [], ◌∷◌, ◌++◌, Option, Some, None, refl, sym, ap, ◌∙◌, subst}
use Rattle.std.specs.List.{list_any}
use Rattle.host_trace.specs.declared.items.Act.{Act}
use Rattle.host_trace.specs.declared.items.Event.{Event}
use Rattle.host_trace.specs.declared.items.Item.{Item}
use Rattle.host_trace.specs.declared.items.Item.TheVariants.{In, Out}
use Rattle.host_trace.specs.Projections.{children}
use Rattle.host_trace.specs.Told.{Adds}
use Rattle.host_trace.specs.Trace.{after_step}
use Rattle.host_trace.proofs.AddsLaws.{Adds-trans}
use Rattle.own_traces.specs.Whose.{has, kids_after}
use Rattle.trace_model.specs.Between.{turns_away}
use Rattle.conn_flags.specs.View.{View as Flags}
use Rattle.http_conn.specs.HttpConn.{HttpConn}
use Rattle.http_conn.specs.Kept.{flags_of, number_of as http_number, site_of as http_site}
use Rattle.http_conn.specs.Parts.{Steps as HttpSteps}
use Rattle.http_conn.specs.Step.{Stepped}
use Rattle.http_conn.specs.Welcomes.{Greets}
use Rattle.http_conn.proofs.GaveLaws.{adds_nothing}
use Rattle.many_conns.specs.Kind.{Fitting, Gives, StepOwn}
use Rattle.good_step_laws.proofs.Http.FullLaws.{none_given, of_steps}
use Rattle.good_step_laws.proofs.Http.OwnLaws.{number_kept as http_kept, own_step, within_out}
use Rattle.talk_core.specs.Laws.{is_of_talk}
use Rattle.talk_conn.specs.declared.conn.TalkConn.{TalkConn}
use Rattle.talk_conn.specs.Slot.{last_child_of as talk_last_child}
use Rattle.talk_conn.specs.Step.{Stepped as TalkStepped}
use Rattle.talk_conn.specs.View.{IsTalk, number_of as talk_number, site_of as talk_site}
use Rattle.good_step_laws.specs.Talk.Laws.{TalkGives}
use Rattle.good_step_laws.proofs.Talk.KindLaws.{talks_give, talks_keep_laws}
use Rattle.conn_phase.specs.declared.phase.Phase.{Phase}
use Rattle.conn_phase.specs.declared.phase.Phase.TheVariants.{Http, Talk, Shut}
use Rattle.conn_phase.specs.Phase.{Ends, Steps, may_step}
use Rattle.good_step_laws.specs.Both.Laws.{AllSteps, PhasesGive}
use Rattle.good_step_laws.specs.Both.Stands.{PhaseStands, HttpStands, ShutStands, phase_kind}
use Rattle.good_step_laws.proofs.Both.GreetWords.{acts_later, its}
use Rattle.good_step_laws.proofs.Both.KindLaws.{shut_next, shut_passes}
use Rattle.good_step_laws.proofs.Both.OpenWords.{acts_shut, opened_gives, shut_alone, shut_its, shut_next_is, shut_number, shut_site, shut_stands, shut_stays}

-- ---- it speaks HTTP

module _ (all : AllSteps) (old new : HttpConn) (ev : Event) (stamp : Option ℕ) (n m : ℕ) (before after : Option (List Item)) (s : Stepped old ev stamp n before new m after) where
  kept : http_number new ≡ http_number old
  kept = http_kept old new ev stamp n m before after s

  own_http : (L : List Item) → HttpStands (http_site old) old L → Fitting (http_site old).limits.children (http_number old) n stamp L ev → StepOwn phase_kind (http_site old) (Http old) n ev s.acts (Http new) L
  own_http L t fit =
      let o = own_step old new ev stamp n m before after s all.http L t.stood fit in
      record {
        alone = o.alone;
        stands = record {
          stood = o.stands;
          untalked = subst (λ (c : ℕ). list_any (is_of_talk c) (after_step L ev s.acts) ≡ false) (sym kept)
              (all.untalked (http_site old) (flags_of old) L ev s.acts t.stood.rest.flags fit.fits s.form (ap (λ (v : Flags). v.upgraded) (sym s.flags) ∙ o.stands.rest.inward.http) t.untalked);
        };
      }

  http_gives : Gives phase_kind (Http old) n ev stamp (Http new) m before after
  http_gives = record {
    acts = s.acts;
    added = s.told;
    next = s.next;
    site = s.site;
    number = kept;
    stays = λ c. none_given c s.acts (ap (λ (l : List Act). list_any (λ act. turns_away c (Out act)) l) (acts_later (HttpSteps stamp) old new ev stamp n m before after s) ∙ of_steps c stamp s.mid new n s.later s.does);
    its = λ ks w. let i = its (HttpSteps stamp) old new ev stamp n m before after s ks w in record { are = i.are; child = within_out new.run (kids_after ks (http_number old) s.acts) i.child };
    own = own_http;
  }

-- ---- each step

pub phases_give : PhasesGive
phases_give all (Http old) (Http new) ev stamp n m before after may s = http_gives all old new ev stamp n m before after s
phases_give all (Http old) (Talk talk) ev stamp n m before after may s = opened_gives all old talk ev stamp n m before after s
phases_give all (Http old) (Shut of d) ev stamp n m before after may s =
    let left = s.left in
    let o = s.missed in
    let number : d ≡ http_number old = s.number ∙ shut_number all old s.left ev stamp n m before after s.missed in
    record {
      acts = acts_shut all old s.left ev stamp n m before after s.missed;
      added = Adds-trans s.missed.greets.told s.missed.misses.told;
      next = shut_next_is all old s.left ev stamp n m before after s.missed;
      site = s.site_is ∙ shut_site all old s.left ev stamp n m before after s.missed;
      number = number;
      stays = λ c. shut_stays all old s.left ev stamp n m before after s.missed c;
      its = λ ks w. record {
        are = shut_its all old s.left ev stamp n m before after s.missed ks (its (Greets s.missed.launch stamp) old s.missed.conn ev stamp n s.missed.k before s.missed.then_told s.missed.greets ks w).are;
        child = tt;
      };
      own = λ L t fit. record {
        alone = shut_alone all old s.left ev stamp n m before after s.missed L t fit;
        stands = subst (λ (c : ℕ). ShutStands (http_site old) of.now c (after_step L ev (acts_shut all old s.left ev stamp n m before after s.missed))) (sym number)
            (shut_stands all old s.left ev stamp n m before after s.missed L t fit of.now (s.site_is ∙ shut_site all old s.left ev stamp n m before after s.missed));
      };
    }
phases_give all (Talk old) (Talk new) ev stamp n m before after may s =
    let g : TalkGives old ev s.1.acts new = talks_give all.talks old new ev s.1.acts may s.1.does in
    record {
      acts = s.1.acts;
      added = s.1.told;
      next = s.0 ∙ sym (g.keeps.next n);
      site = g.keeps.site;
      number = g.keeps.number;
      stays = g.keeps.stays;
      its = λ ks w. record {
        are = g.keeps.are ks n w;
        child = ap (λ (l : List ℕ). has l (talk_last_child new)) (g.keeps.kids ks) ∙ (ap (has ks) g.keeps.last_child ∙ w);
      };
      own = λ L t fit. record {
        alone = g.keeps.are (children L (talk_number old)) n ((talks_keep_laws all.talks).last_child_started (talk_site old) old L t.holds);
        stands = record { holds = g.stands (talk_site old) L n stamp t.holds fit; was = t.was };
      };
    }
phases_give all (Talk old) (Http new) ev stamp n m before after may s = absurd s
phases_give all (Talk old) (Shut of d) ev stamp n m before after may s = absurd s
phases_give all (Shut of d) new ev stamp n m before after may s =
    subst (λ (x : Phase). Gives phase_kind (Shut of d) n ev stamp x m before after) (sym s.0)
    (record {
      acts = [];
      added = subst (λ (t : Option (List Item)). Adds before [] t) (sym s.2) (adds_nothing before);
      next = s.1;
      site = refl;
      number = refl;
      stays = λ c. refl;
      its = λ ks w. record { are = refl; child = tt };
      own = λ L t fit. record {
        alone = refl;
        stands = shut_next all of.now of.now d of.now.limits.children L ev t (shut_passes all of.now of.now d of.now.limits.children n L ev t fit.mine fit.fits) fit.fits;
      };
    })
