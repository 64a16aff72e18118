-- Memory ran out for the Upgrade or the Start.
use Rattle.std.proofs.Common.{◌≡◌, ◌≤◌, ℕ, ◌==◌, Bool, true, false, not, ◌&&◌, ◌||◌, List, [], ◌∷◌, ◌++◌, map, Option, refl, sym, ap, ◌∙◌, subst, append_assoc, arith}
use Rattle.std.specs.Prelude.{if◌then◌else◌}
use Rattle.std.specs.List.{list_any}
use Rattle.std.proofs.lemmas.Bool.{and_from, eq-eqb, or_left, or_parts}
use Rattle.std.proofs.lemmas.List.Folds.{list_any-append}
use Rattle.host_base.specs.declared.launch.Launch.{Launch}
use Rattle.host_base.specs.declared.site.Site.{Site}
use Rattle.host_trace.specs.declared.items.Act.{Act}
use Rattle.host_trace.specs.declared.items.Act.TheVariants.{Shut, Upgrade, Write}
use Rattle.host_trace.specs.declared.items.Event.{Event}
use Rattle.host_trace.specs.declared.items.Item.{Item}
use Rattle.host_trace.specs.declared.items.Item.TheVariants.{In, Out}
use Rattle.host_trace.specs.declared.items.Why.{Why}
use Rattle.host_trace.specs.declared.items.Why.TheVariants.{NoMemory}
use Rattle.host_trace.specs.Kinds.{is_accepted, is_shut, is_want_client}
use Rattle.host_trace.specs.Projections.{children_of, client_wanted, shut, shut_for_memory}
use Rattle.host_trace.specs.Trace.{Step, after_step, step_of}
use Rattle.own_traces.specs.Whose.{are_of}
use Rattle.trace_child.specs.Words.{given}
use Rattle.trace_model.specs.Demands.{must_hear}
use Rattle.trace_model.specs.Exchange.{Exchange, all_of, pushed}
use Rattle.trace_model.specs.Exchanges.{current, left_over}
use Rattle.trace_model.specs.Good.{StepGood}
use Rattle.trace_model.specs.Shuts.{are_whys, is_turned_away, why_due, whys_due, whys_given}
use Rattle.trace_model.specs.Steps.{goes_on}
use Rattle.trace_model.specs.TakesNoMemory.{is_shut_act, takes_none}
use Rattle.trace_model.proofs.ExchangeLaws.{all_of-current}
use Rattle.exchange_laws.specs.Walked.{HasChildren}
use Rattle.exchange_laws.proofs.AskLaws.{shut_asks}
use Rattle.conn_flags.specs.View.{View as Flags, is_live as lives, noted}
use Rattle.conn_flags.specs.Form.{are_given, is_allowed}
use Rattle.conn_laws.specs.Moves.{AreInStep, Move, acts_of, gives, moved}
use Rattle.http_conn.specs.HttpConn.{HttpConn}
use Rattle.http_conn.specs.Kept.{flags_of, number_of, site_of}
use Rattle.http_conn.specs.Opens.{IsRestOf}
use Rattle.http_step_laws.specs.Standing.{AreRight}
use Rattle.good_step_laws.proofs.Orders.PlaceWords.{AreOrdered, least_after}
use Rattle.good_step_laws.specs.Events.Events.{Heard}
use Rattle.good_step_laws.proofs.Events.EventLaws.{events_stand}
use Rattle.good_step_laws.proofs.Shuts.GivenWords.{given_both}
use Rattle.good_step_laws.proofs.Steps.KnownLaws.{events_know_memory}
use Rattle.talk_laws.specs.Welcome.{IsGreeted}
use Rattle.talk_laws.proofs.RuleLaws.{unasked}
use Rattle.talk_laws.proofs.WhyLaws.{ask_none}
use Rattle.good_step_laws.specs.Opens.Laws.{IsMissed, MissesAreGood, acts_missed}
use Rattle.good_step_laws.proofs.Opens.GreetWords.{Greeted, low_after, text_greeted, text_left, text_right, upgrade_greeted, upgrade_right}
use Rattle.good_step_laws.proofs.Opens.FlagWords.{live_flags, upgrade_allowed, upgrade_known}
use Rattle.good_step_laws.proofs.Opens.MemoryLaws.{greets_take}
use Rattle.good_step_laws.proofs.Opens.PutLaws.{ActsFit}
use Rattle.good_step_laws.proofs.Opens.MetLaws.{Met, met}
use Rattle.good_step_laws.proofs.Opens.ShutLaws.{IsOver, shut_over, shut_right}
use Rattle.good_step_laws.proofs.Opens.OpeningLaws.{asks_both}

-- a connection that was not shut is shut for want of memory
shuts_memory : (b t : Bool) (whys : List Why) (due : Option Why) → b ≡ false → whys ≡ NoMemory ∷ []
    → (if b then are_whys whys [] else are_whys whys (whys_due due) || are_whys whys (NoMemory ∷ []) || t) ≡ true
shuts_memory b t whys due unshut is =
    ap (λ (x : Bool). if x then are_whys whys [] else are_whys whys (whys_due due) || are_whys whys (NoMemory ∷ []) || t) unshut
    ∙ (ap (λ (g : List Why). are_whys g (whys_due due) || are_whys g (NoMemory ∷ []) || t) is ∙ go (are_whys (NoMemory ∷ []) (whys_due due)))
  where
    go : (a : Bool) → (a || true || t) ≡ true
    go true = refl
    go false = refl

module _ (mid conn : HttpConn) (L : List Item) (ev : Event) (n : ℕ) (launch : Launch) (moves : List Move) (t : Met mid conn L ev n launch moves)
    (free : (more : List Act) → takes_none (site_of mid) (number_of mid) (step_of L ev (acts_of moves ++ more)) ev ≡ false) where
  abbrev site : Site
  site = site_of mid

  abbrev c : ℕ
  c = number_of mid

  unshut : shut L c ≡ false
  unshut =
      (or_parts (shut L c) (is_shut c (In ev) || false)
      (sym (list_any-append (is_shut c) L (In ev ∷ []))
      ∙ (or_parts (shut (L ++ In ev ∷ []) c) (shut (map Out t.acts) c)
      (sym (list_any-append (is_shut c) (L ++ In ev ∷ []) (map Out t.acts)) ∙ (ap (λ (l : List Item). shut l c) (sym t.welcomed.deals.knows.items) ∙ t.welcomed.welcoming.unshut))).0)).0

  -- ---- by what was given behind the accept text

  module _ (more : List Act) (tail : List Move) (last : Exchange) (acts_tail : acts_of tail ≡ Write (number_of mid) t.text ∷ more) (in_step : AreInStep site c t.here tail)
      (right : AreRight site c t.here tail) (ordered : (least : ℕ) → least ≡ 0 → AreOrdered site c t.here least tail) (last_is : moved site c t.here tail ≡ last)
      (over : IsOver site c L ev (t.acts ++ acts_of tail) last) (form : are_given (flags_of conn) more ≡ true) (mine : (ks : List ℕ) → are_of c ks t.next more ≡ true)
      (asks : given (is_want_client c) more ≡ 0) (whys : whys_given c more ≡ NoMemory ∷ []) where
    abbrev step : Step
    step = step_of L ev (acts_of moves ++ more)

    abbrev items : List Item
    items = after_step L ev (acts_of moves ++ more)

    acts_same : t.acts ++ acts_of tail ≡ acts_of moves ++ more
    acts_same =
        ap (λ (l : List Act). t.acts ++ l) acts_tail ∙ sym (ap (λ (l : List Act). l ++ more) t.acts_are ∙ append_assoc t.acts (Write (number_of mid) t.text ∷ []) more)

    now : current site c items ≡ last
    now = ap (λ (l : List Act). current site c (after_step L ev l)) (sym acts_same) ∙ over.ends.now

    fit : ActsFit site c step
    fit = record {
      asks =
          ask_none (given (is_want_client c) (acts_of moves ++ more)) (must_hear site c (goes_on site c step) && not (client_wanted (L ++ In ev ∷ []) c))
          (asks_both c (acts_of moves) more t.asks_none asks)
          (ap (λ (b : Bool). b && not (client_wanted (L ++ In ev ∷ []) c)) (ap (must_hear site c) now ∙ shut_asks site c last over.dead));
      whys =
          shuts_memory (shut L c) (is_turned_away step (whys_given c (acts_of moves ++ more))) (whys_given c (acts_of moves ++ more)) (why_due site c (goes_on site c step)) unshut
          (given_both c (acts_of moves) more ∙ (ap (λ (l : List Why). l ++ whys_given c more) t.whys_none ∙ whys));
      memory = unasked (takes_none site c step ev) (not (list_any (is_shut_act c) (acts_of moves ++ more))) (free more);
    }

    good : StepGood site c step
    good = t.good more tail last acts_tail in_step right ordered last_is over.ends form mine fit

    items_last : all_of last ≡ items
    items_last = sym (ap all_of now) ∙ all_of-current site c items

    pub is_missed : IsMissed site c L ev (acts_of moves ++ more)
    is_missed = record {
      good = good;
      closed = record {
        two = t.welcomed.two;
        continued = over.continued;
        value = over.value;
        request = over.request;
        mapped = over.mapped;
        greeted = subst (λ (d : Exchange). IsGreeted site c d over.continued over.value over.request over.mapped) (sym now) over.greeted;
        no_child = subst (λ (d : Exchange). HasChildren c d []) (sym now) over.no_child;
        first = ap (λ (d : Exchange). children_of d.items c d.number 0) now ∙ over.first;
        accepted = ap (list_any is_accepted) (sym items_last) ∙ over.accepted;
        shut_is = ap (λ (l : List Item). shut l c) (sym items_last) ∙ over.shut_is;
        for_memory = ap (λ (l : List Item). shut_for_memory l c) (sym items_last) ∙ over.memory;
      };
    }

  -- ---- the Shut alone

  abbrev texted : Exchange
  texted = pushed t.here (Out (Write (number_of mid) t.text))

  abbrev acts_texted : List Act
  acts_texted = t.acts ++ Write (number_of mid) t.text ∷ []

  g1 : Greeted site c L ev acts_texted texted t.next t.welcomed.continued launch false
  g1 = text_greeted site c L ev t.acts t.here t.next t.text launch t.welcomed

  abbrev shuts : List Act
  shuts = Shut (number_of mid) NoMemory ∷ []

  own_one : (ks : List ℕ) → are_of c ks t.next shuts ≡ true
  own_one ks = and_from _ true (or_left (c == c) _ (eq-eqb c c refl)) refl

  whys_one : whys_given c shuts ≡ NoMemory ∷ []
  whys_one = ap (λ (b : Bool). (if b then NoMemory ∷ [] else []) ++ []) (eq-eqb c c refl)

  may_shut : (m : Flags) → lives m ≡ true → are_given m shuts ≡ true
  may_shut m live = and_from (is_allowed m (Shut (number_of mid) NoMemory)) true (and_from (lives m) true live refl) refl

  by_text : IsMissed site c L ev (acts_of moves ++ shuts)
  by_text =
      is_missed shuts (gives (Write (number_of mid) t.text) ∷ gives (Shut (number_of mid) NoMemory) ∷ []) (pushed texted (Out (Shut (number_of mid) NoMemory))) refl
      (t.welcomed.on, (g1.on, tt)) (text_right site c L ev t.acts t.here t.next t.text launch t.welcomed, (shut_right site c texted, tt))
      (λ least zero.
      let one : least_after site c t.here (Write (number_of mid) t.text) ≤ 9 = low_after site c t.here (Write (number_of mid) t.text) 9 (omega arith) in
      (omega (arith, zero), (one, tt)))
      refl
      (subst (λ (l : List Act). IsOver site c L ev l (pushed texted (Out (Shut (number_of mid) NoMemory)))) (append_assoc t.acts (Write (number_of mid) t.text ∷ []) shuts)
      (shut_over site c L ev acts_texted texted t.next t.welcomed.continued launch false g1))
      (may_shut (flags_of conn) (live_flags site c texted t.welcomed.continued launch (flags_of conn) t.knows t.number_conn g1.accepted false g1.opening)) own_one refl whys_one

  -- ---- .. or behind the Upgrade

  module _ (bytes : List ℕ) (left : bytes ≡ left_over site c t.here) where
    abbrev upgraded : Exchange
    upgraded = pushed (pushed t.here (Out (Write (number_of mid) t.text))) (Out (Upgrade (number_of mid) bytes))

    abbrev acts_upgraded : List Act
    acts_upgraded = (t.acts ++ Write (number_of mid) t.text ∷ []) ++ Upgrade (number_of mid) bytes ∷ []

    abbrev both : List Act
    both = Upgrade (number_of mid) bytes ∷ Shut (number_of mid) NoMemory ∷ []

    g2 : Greeted site c L ev acts_upgraded upgraded t.next t.welcomed.continued launch true
    g2 = upgrade_greeted site c L ev acts_texted texted t.next t.welcomed.continued launch g1 bytes

    abbrev flags : Flags
    flags = noted (flags_of conn) (Out (Upgrade (number_of mid) bytes))

    live : lives flags ≡ true
    live =
        live_flags site c upgraded t.welcomed.continued launch flags
        (upgrade_known site c texted t.welcomed.continued launch (flags_of conn) t.knows t.number_conn g1.accepted bytes g1.opening) t.number_conn g2.accepted true g2.opening

    by_upgrade : IsMissed site c L ev (acts_of moves ++ both)
    by_upgrade =
        is_missed both (gives (Write (number_of mid) t.text) ∷ gives (Upgrade (number_of mid) bytes) ∷ gives (Shut (number_of mid) NoMemory) ∷ [])
        (pushed upgraded (Out (Shut (number_of mid) NoMemory))) refl (t.welcomed.on, (g1.on, (g2.on, tt))) (
          text_right site c L ev t.acts t.here t.next t.text launch t.welcomed,
          (
            upgrade_right site c L ev acts_texted texted t.next t.welcomed.continued launch g1 bytes (left ∙ sym (text_left site c L ev t.acts t.here t.next t.text launch t.welcomed)),
            (shut_right site c upgraded, tt),
          ),
        )
        (λ least zero.
        let one : least_after site c t.here (Write (number_of mid) t.text) ≤ 1 = low_after site c t.here (Write (number_of mid) t.text) 1 (omega arith) in
        let two : least_after site c texted (Upgrade (number_of mid) bytes) ≤ 9 = low_after site c texted (Upgrade (number_of mid) bytes) 9 (omega arith) in
        (omega (arith, zero), (one, (two, tt))))
        refl
        (subst (λ (l : List Act). IsOver site c L ev l (pushed upgraded (Out (Shut (number_of mid) NoMemory))))
        (append_assoc acts_texted (Upgrade (number_of mid) bytes ∷ []) shuts ∙ append_assoc t.acts (Write (number_of mid) t.text ∷ []) both)
        (shut_over site c L ev acts_upgraded upgraded t.next t.welcomed.continued launch true g2))
        (and_from (is_allowed (flags_of conn) (Upgrade (number_of mid) bytes)) (are_given flags shuts)
        (upgrade_allowed site c texted t.welcomed.continued launch (flags_of conn) t.knows t.number_conn g1.accepted bytes g1.opening) (may_shut flags live))
        (λ ks. and_from _ _ (or_left (c == c) _ (eq-eqb c c refl)) (own_one ks)) refl whys_one

  by_case : (b : Bool) (bytes : List ℕ) → (b ≡ true → IsRestOf conn bytes) → IsMissed site c L ev (acts_of moves ++ acts_missed conn bytes b)
  by_case true bytes is =
      subst (λ (i : ℕ). IsMissed site c L ev (acts_of moves ++ Upgrade i bytes ∷ Shut i NoMemory ∷ [])) (sym t.number_conn) (by_upgrade bytes (t.rest_is bytes (is refl)))
  by_case false bytes is = subst (λ (i : ℕ). IsMissed site c L ev (acts_of moves ++ Shut i NoMemory ∷ [])) (sym t.number_conn) by_text

  pub missed : (bytes : List ℕ) (b : Bool) → (b ≡ true → IsRestOf conn bytes) → (old : HttpConn) → site_of mid ≡ site_of old → number_of mid ≡ number_of old
      → IsMissed (site_of old) (number_of old) L ev (acts_of moves ++ acts_missed conn bytes b)
  missed bytes b is old site_is number_is =
      subst (λ (i : ℕ). IsMissed (site_of old) i L ev (acts_of moves ++ acts_missed conn bytes b)) number_is
      (subst (λ (x : Site). IsMissed x (number_of mid) L ev (acts_of moves ++ acts_missed conn bytes b)) site_is (by_case b bytes is))

pub misses_are_good : MissesAreGood
misses_are_good old mid conn new L e legs ev stamp n m launch moves before after rest untalked fits clock h w allowed own o =
    missed mid conn L ev n launch moves t free o.rest o.upgraded o.rest_is old heard.site heard.number
  where
    heard : Heard old L e n ev mid
    heard = events_stand old mid L e legs n ev rest fits h

    two : 2 ≤ (site_of mid).limits.head
    two = subst (λ (x : Site). 2 ≤ x.limits.head) (sym heard.site) rest.two

    t : Met mid conn L ev n launch moves
    t = met old mid conn L e legs ev stamp n launch moves rest untalked fits clock h w allowed own

    unshut_mid : (flags_of mid).shut ≡ false
    unshut_mid =
        heard.standing.flags.shut
        ∙ (ap (λ (l : List Item). shut l (number_of mid)) heard.all
        ∙ (or_parts (shut (L ++ In ev ∷ []) (number_of mid)) (shut (map Out t.acts) (number_of mid))
        (sym (list_any-append (is_shut (number_of mid)) (L ++ In ev ∷ []) (map Out t.acts))
        ∙ (ap (λ (l : List Item). shut l (number_of mid)) (sym t.welcomed.deals.knows.items) ∙ t.welcomed.welcoming.unshut))).0)

    free : (more : List Act) → takes_none (site_of mid) (number_of mid) (step_of L ev (acts_of moves ++ more)) ev ≡ false
    free more =
        ap (λ (l : List Act). takes_none (site_of mid) (number_of mid) (step_of L ev (l ++ more)) ev) t.acts_are
        ∙ greets_take L ev (moved (site_of old) (number_of old) (pushed e (In ev)) (events_stand old mid L e legs n ev rest fits h).moves) mid conn n moves stamp launch
        (events_stand old mid L e legs n ev rest fits h).standing two (events_stand old mid L e legs n ev rest fits h).apt w (site_of mid) (number_of mid) t.acts t.text more
        (events_know_memory old mid L e legs n ev rest fits h) unshut_mid
