-- A step of a talk for which nothing is due.
use Rattle.std.proofs.Common.{◌≡◌, ◌≤◌, ℕ, ◌&&◌, ◌||◌, Bool, true, false, not, List, [], ◌∷◌, ◌++◌, Option, Some, None, refl, sym, ap, ◌∙◌, subst}
use Rattle.std.proofs.lemmas.Bool.{false≢true}
use Rattle.host_base.specs.declared.site.Site.{Site}
use Rattle.host_trace.specs.declared.items.Act.{Act}
use Rattle.host_trace.specs.declared.items.Event.{Event}
use Rattle.host_trace.specs.declared.items.Item.{Item}
use Rattle.host_trace.specs.declared.items.Item.TheVariants.{In}
use Rattle.host_trace.specs.declared.items.Why.{Why}
use Rattle.host_trace.specs.Kinds.{is_no_room}
use Rattle.host_trace.specs.Trace.{after_step, step_of}
use Rattle.own_traces.specs.OwnFits.{fits_own}
use Rattle.trace_model.specs.Exchanges.{current}
use Rattle.trace_model.specs.Good.{GoodFor, StepGood}
use Rattle.trace_model.specs.Hears.{hears}
use Rattle.trace_model.proofs.LiftLaws.{AtEachStep-push}
use Rattle.child_core.specs.Due.{acting as run_acting}
use Rattle.talk_core.specs.Acting.{acting}
use Rattle.talk_core.specs.Hearing.{heard, run_heard}
use Rattle.talk_core.specs.View.{View as Talk}
use Rattle.good_step_laws.proofs.Http.AccountLaws.{accounts_kept}
use Rattle.good_step_laws.proofs.Http.StepWords.{asks_of}
use Rattle.talk_conn.specs.declared.conn.TalkConn.{TalkConn}
use Rattle.talk_conn.specs.Parts.{acts_asked, acts_shut, asked_conn, heard_conn, is_ask_due, may_want, said_conn, shut_conn, why_of}
use Rattle.talk_conn.specs.Step.{Steps}
use Rattle.talk_conn.specs.View.{number_of, site_of}
use Rattle.talk_laws.specs.Stands.{IsGoodStep, StepsAreGood}
use Rattle.talk_laws.proofs.Steps.FoundLaws.{through}
use Rattle.talk_laws.proofs.Steps.TailLaws.{ended_conn, tail_of}
use Rattle.good_step_laws.specs.Talk.Stands.{TalkHolds}

-- ---- a step

-- it stands for its items with those of a step
pub holds_next : (law : StepsAreGood) (site : Site) (old new : TalkConn) (L : List Item) (ev : Event) (acts : List Act) → TalkHolds site old L → fits_own (site_of old).limits.children L ev ≡ true
    → Steps old ev acts new → TalkHolds site new (after_step L ev acts)
holds_next law site old new L ev acts h fits w =
    let g : IsGoodStep old new L ev acts h.next = law old new L ev acts h.next h.stands fits w in
    let good : StepGood site (number_of old) (step_of L ev acts) = subst (λ (s : Site). StepGood s (number_of old) (step_of L ev acts)) h.site_is g.good in
    record {
      site_is = g.site ∙ h.site_is;
      next = h.next;
      stands = g.stands;
      asks = subst (λ (c : ℕ). hears site c (current site c (after_step L ev acts)) ≡ true) (sym g.number) (asks_of site (number_of old) L ev acts (current site (number_of old) (after_step L ev acts)) good refl);
      accounts = accounts_kept (site_of old).limits.children L ev acts h.accounts fits;
      good = subst (λ (c : ℕ). GoodFor site c (after_step L ev acts)) (sym g.number) (AtEachStep-push (StepGood site (number_of old)) L ev acts h.good good);
    }

-- ---- nothing is said or given, and the connection is not shut or asked

pub record IsQuiet (old : TalkConn) (ev : Event) : Type 0 where
  pub said : acting (heard old.talk old.run ev) ≡ []
  pub given : run_acting (may_want (said_conn true (heard_conn true ev old))) (run_heard old.talk old.run ev) ≡ []
  pub unshut : why_of (through ev old) ≡ None
  pub unasked : is_ask_due (through ev old) ≡ false
  pub heard_it : is_no_room (number_of old) (In ev) ≡ false

module _ (old : TalkConn) (ev : Event) (q : IsQuiet old ev) where
  abbrev x : TalkConn
  x = through ev old

  end_is : ended_conn x ≡ x
  end_is = ap (λ (w : Option Why). asked_conn (is_ask_due (shut_conn w x)) (shut_conn w x)) q.unshut ∙ ap (λ (b : Bool). asked_conn b x) q.unasked

  tail_is : tail_of x ≡ []
  tail_is =
      ap (λ (w : Option Why). acts_shut x.flags.c w ++ acts_asked (shut_conn w x).flags.c (is_ask_due (shut_conn w x))) q.unshut ∙ ap (λ (b : Bool). acts_asked x.flags.c b) q.unasked

  pub quiet_step : Steps old ev [] x
  quiet_step = record {
    heard = true;
    said = true;
    fed = true;
    first = heard_conn true ev old;
    first_is = refl;
    second = said_conn true (heard_conn true ev old);
    second_is = refl;
    third = x;
    third_is = refl;
    last = shut_conn (why_of x) x;
    last_is = refl;
    is = sym end_is;
    acts_are = sym
        (ap (λ (l : List Act). (l ++ run_acting (may_want (said_conn true (heard_conn true ev old))) (run_heard old.talk old.run ev)) ++ tail_of x) q.said
        ∙ (ap (λ (l : List Act). l ++ tail_of x) q.given ∙ tail_is));
    memory = λ is. absurd (false≢true (sym is));
    room = λ is. q.heard_it;
    said_memory = λ is. absurd (false≢true (sym is));
    fed_memory = λ is. absurd (false≢true (sym is));
  }
