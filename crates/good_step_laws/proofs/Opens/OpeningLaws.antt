-- The step in which a connection comes to speak WebSocket.
use Rattle.std.proofs.Common.{◌≡◌, ◌≤◌, ℕ, ◌+◌, ◌==◌, Bool, true, false, not, ◌&&◌, ◌||◌, List, [], ◌∷◌, ◌++◌, Option, None, refl, sym, ap, ◌∙◌, subst, append_assoc, arith}
use Rattle.std.specs.Prelude.{cond, if◌then◌else◌}
use Rattle.std.specs.List.{list_any}
use Rattle.std.proofs.lemmas.Bool.{and_from, eq-eqb, false≢true, or_left}
use Rattle.std.proofs.lemmas.List.Folds.{list_any-append}
use Rattle.std.proofs.lemmas.List.Sums.{sum_by-append}
use Rattle.host_base.specs.declared.launch.Launch.{Launch}
use Rattle.host_base.specs.declared.site.ScriptKind.TheVariants.{WebSocket}
use Rattle.host_base.specs.declared.site.Site.{Site}
use Rattle.host_trace.specs.declared.items.Act.{Act}
use Rattle.host_trace.specs.declared.items.Act.TheVariants.{Start, Upgrade, Write}
use Rattle.host_trace.specs.declared.items.Event.{Event}
use Rattle.host_trace.specs.declared.items.Item.{Item}
use Rattle.host_trace.specs.declared.items.Item.TheVariants.{In, Out}
use Rattle.host_trace.specs.declared.items.Why.{Why}
use Rattle.host_trace.specs.declared.items.Why.TheVariants.{NoMemory}
use Rattle.host_trace.specs.Kinds.{is_accepted, is_no_room, is_want_client, names_child}
use Rattle.host_trace.specs.Projections.{client_wanted, shut}
use Rattle.host_trace.specs.Trace.{Step, after_step, step_of}
use Rattle.own_traces.specs.Whose.{are_of, next_after}
use Rattle.trace_child.specs.Words.{given}
use Rattle.trace_model.specs.Demands.{must_hear}
use Rattle.trace_model.specs.Exchange.{Exchange, all_of, pushed}
use Rattle.trace_model.specs.Exchanges.{current, left_over}
use Rattle.trace_model.specs.Good.{StepGood}
use Rattle.trace_model.specs.Legs.{Leg as Started}
use Rattle.trace_model.specs.Shuts.{are_whys, is_turned_away, why_due, whys_due, whys_given}
use Rattle.trace_model.specs.Steps.{goes_on}
use Rattle.trace_model.specs.TakesNoMemory.{is_shut_act, takes_none}
use Rattle.trace_model.proofs.ExchangeLaws.{all_of-current}
use Rattle.child_core.specs.View.{View as Run, begun as run_begun}
use Rattle.conn_flags.specs.View.{View as Flags, has_room, noted}
use Rattle.conn_flags.specs.Form.{are_given, is_allowed}
use Rattle.conn_flags.specs.Knows.{KnowsFlags}
use Rattle.child_laws.proofs.DealtLaws.{unstarted_rests}
use Rattle.conn_laws.specs.Moves.{AreInStep, Move, acts_of, gives}
use Rattle.conn_laws.proofs.FrontLaws.{counted_all}
use Rattle.http_conn.specs.HttpConn.{HttpConn}
use Rattle.http_conn.specs.Kept.{flags_of, number_of, site_of}
use Rattle.http_conn.specs.Opens.{Opens}
use Rattle.http_step_laws.specs.Standing.{AreRight}
use Rattle.good_step_laws.proofs.Orders.PlaceWords.{AreOrdered, least_after}
use Rattle.good_step_laws.specs.Events.Events.{Heard}
use Rattle.good_step_laws.proofs.Events.EventLaws.{events_stand}
use Rattle.good_step_laws.proofs.Shuts.GivenWords.{given_both}
use Rattle.talk_core.specs.View.{View as Talk, begun as talk_begun}
use Rattle.talk_laws.specs.TalkIs.{TalkIs, TalkRests}
use Rattle.talk_laws.proofs.RuleLaws.{implied}
use Rattle.talk_laws.proofs.WhyLaws.{ask_none}
use Rattle.talk_conn.specs.declared.conn.TalkConn.{TalkConn}
use Rattle.talk_conn.specs.View.{flags_of as talk_flags, number_of as talk_number, run_of as talk_run, site_of as talk_site, talk_of}
use Rattle.talk_laws.specs.Stands.{TalkStands, Talks}
use Rattle.good_step_laws.specs.Opens.Laws.{IsOpened, OpeningsAreGood, acts_opened}
use Rattle.good_step_laws.proofs.Opens.GreetWords.{Ends, Greeted, low_after, text_greeted, text_left, text_right, upgrade_greeted, upgrade_right}
use Rattle.good_step_laws.proofs.Opens.FlagWords.{start_allowed, start_known, upgrade_allowed, upgrade_known}
use Rattle.good_step_laws.proofs.Opens.PutLaws.{ActsFit}
use Rattle.good_step_laws.proofs.Opens.MetLaws.{Met, met}
use Rattle.good_step_laws.proofs.Opens.StartLaws.{start_accepted, start_ends, start_fresh, start_legs, start_rests, start_right, start_stays, start_talks, start_unasked, start_unroomed}

-- ---- small words

-- where there is no reason the connection is not shut
shuts_none : (b t : Bool) (whys : List Why) (due : Option Why) → whys ≡ [] → due ≡ None
    → (if b then are_whys whys [] else are_whys whys (whys_due due) || are_whys whys (NoMemory ∷ []) || t) ≡ true
shuts_none b t whys due none undue =
    ap (λ (g : List Why). if b then are_whys g [] else are_whys g (whys_due due) || are_whys g (NoMemory ∷ []) || t) none
    ∙ (ap (λ (o : Option Why). if b then are_whys [] [] else are_whys [] (whys_due o) || are_whys [] (NoMemory ∷ []) || t) undue ∙ go b)
  where
    go : (x : Bool) → (if x then true else true) ≡ true
    go true = refl
    go false = refl

-- acts that ask nothing behind acts that ask nothing
pub asks_both : (c : ℕ) (xs ys : List Act) → given (is_want_client c) xs ≡ 0 → given (is_want_client c) ys ≡ 0 → given (is_want_client c) (xs ++ ys) ≡ 0
asks_both c xs ys a b =
    let both : given (is_want_client c) (xs ++ ys) ≡ given (is_want_client c) xs + given (is_want_client c) ys =
    sum_by-append (λ (act : Act). cond (is_want_client c (Out act)) 1 0) xs ys in
    omega (arith, both, a, b)

module _ (mid conn : HttpConn) (L : List Item) (ev : Event) (n : ℕ) (launch : Launch) (moves : List Move) (t : Met mid conn L ev n launch moves) (spoken : TalkConn) (m : ℕ) (before after : Option (List Item))
    (o : Opens launch conn (next_after n (acts_of moves)) before spoken m after) where
  abbrev site : Site
  site = site_of mid

  abbrev c : ℕ
  c = number_of mid

  -- ---- its exchange

  abbrev texted : Exchange
  texted = pushed t.here (Out (Write (number_of mid) t.text))

  abbrev upgraded : Exchange
  upgraded = pushed (pushed t.here (Out (Write (number_of mid) t.text))) (Out (Upgrade (number_of mid) o.rest))

  abbrev last : Exchange
  last = pushed (pushed (pushed t.here (Out (Write (number_of mid) t.text))) (Out (Upgrade (number_of mid) o.rest))) (Out (Start t.next (number_of mid) t.here.number 0 launch))

  abbrev acts_texted : List Act
  acts_texted = t.acts ++ Write (number_of mid) t.text ∷ []

  abbrev acts_upgraded : List Act
  acts_upgraded = (t.acts ++ Write (number_of mid) t.text ∷ []) ++ Upgrade (number_of mid) o.rest ∷ []

  g1 : Greeted site c L ev acts_texted texted t.next t.welcomed.continued launch false
  g1 = text_greeted site c L ev t.acts t.here t.next t.text launch t.welcomed

  g2 : Greeted site c L ev acts_upgraded upgraded t.next t.welcomed.continued launch true
  g2 = upgrade_greeted site c L ev acts_texted texted t.next t.welcomed.continued launch g1 o.rest

  left : o.rest ≡ left_over site c texted
  left = t.rest_is o.rest o.rest_is ∙ sym (text_left site c L ev t.acts t.here t.next t.text launch t.welcomed)

  -- ---- the acts behind the accept text

  number_same : conn.number ≡ t.here.number
  number_same = counted_all conn.number t.here.number t.number_here o.counted

  abbrev more : List Act
  more = Upgrade (number_of mid) o.rest ∷ Start t.next (number_of mid) t.here.number 0 launch ∷ []

  more_same : more ≡ acts_opened conn (next_after n (acts_of moves)) launch o.rest
  more_same =
      sym (ap (λ (i : ℕ). Upgrade i o.rest ∷ Start (next_after n (acts_of moves)) i conn.number 0 launch ∷ []) t.number_conn
      ∙ (ap (λ (k : ℕ). Upgrade (number_of mid) o.rest ∷ Start k (number_of mid) conn.number 0 launch ∷ []) t.next_same
      ∙ ap (λ (j : ℕ). Upgrade (number_of mid) o.rest ∷ Start t.next (number_of mid) j 0 launch ∷ []) number_same))

  abbrev tail : List Move
  tail = gives (Write (number_of mid) t.text) ∷ gives (Upgrade (number_of mid) o.rest) ∷ gives (Start t.next (number_of mid) t.here.number 0 launch) ∷ []

  in_step : AreInStep site c t.here tail
  in_step = (t.welcomed.on, (g1.on, (g2.on, tt)))

  right : AreRight site c t.here tail
  right = (
    text_right site c L ev t.acts t.here t.next t.text launch t.welcomed,
    (
      upgrade_right site c L ev acts_texted texted t.next t.welcomed.continued launch g1 o.rest left,
      (start_right site c L ev acts_upgraded upgraded t.next t.welcomed.continued launch g2, tt),
    ),
  )

  ordered : (least : ℕ) → least ≡ 0 → AreOrdered site c t.here least tail
  ordered least zero =
      let one : least_after site c t.here (Write (number_of mid) t.text) ≤ 1 = low_after site c t.here (Write (number_of mid) t.text) 1 (omega arith) in
      let two : least_after site c texted (Upgrade (number_of mid) o.rest) ≤ 10 = low_after site c texted (Upgrade (number_of mid) o.rest) 10 (omega arith) in
      (omega (arith, zero), (one, (two, tt)))

  ends : Ends site c L ev (t.acts ++ acts_of tail) last
  ends =
      subst (λ (l : List Act). Ends site c L ev l last)
      (append_assoc acts_texted (Upgrade (number_of mid) o.rest ∷ []) (Start t.next (number_of mid) t.here.number 0 launch ∷ []) ∙ append_assoc t.acts (Write (number_of mid) t.text ∷ []) more)
      (start_ends site c L ev acts_upgraded upgraded t.next t.welcomed.continued launch g2)

  -- they may be given, and are of the connection and its child alone
  abbrev flags : Flags
  flags = noted (flags_of conn) (Out (Upgrade (number_of mid) o.rest))

  knows : KnowsFlags flags (all_of upgraded)
  knows = upgrade_known site c texted t.welcomed.continued launch (flags_of conn) t.knows t.number_conn g1.accepted o.rest g1.opening

  form : are_given (flags_of conn) more ≡ true
  form =
      and_from (is_allowed (flags_of conn) (Upgrade (number_of mid) o.rest)) (are_given flags (Start t.next (number_of mid) t.here.number 0 launch ∷ []))
      (upgrade_allowed site c texted t.welcomed.continued launch (flags_of conn) t.knows t.number_conn g1.accepted o.rest g1.opening)
      (and_from (is_allowed flags (Start t.next (number_of mid) t.here.number 0 launch)) true
      (start_allowed site c upgraded t.welcomed.continued launch flags knows t.number_conn g2.accepted t.next t.here.number launch g2.opening) refl)

  mine : (ks : List ℕ) → are_of c ks t.next more ≡ true
  mine ks =
      and_from _ _ (or_left (c == c) _ (eq-eqb c c refl)) (and_from _ true (and_from (c == c) (t.next == t.next) (eq-eqb c c refl) (eq-eqb t.next t.next refl)) refl)

  -- ---- the step

  abbrev step : Step
  step = step_of L ev (acts_of moves ++ more)

  acts_same : t.acts ++ acts_of tail ≡ acts_of moves ++ more
  acts_same = sym (ap (λ (l : List Act). l ++ more) t.acts_are ∙ append_assoc t.acts (Write (number_of mid) t.text ∷ []) more)

  now : current site c (after_step L ev (acts_of moves ++ more)) ≡ last
  now = ap (λ (l : List Act). current site c (after_step L ev l)) (sym acts_same) ∙ ends.now

  fit : ActsFit site c step
  fit = record {
    asks =
        ask_none (given (is_want_client c) (acts_of moves ++ more)) (must_hear site c (goes_on site c step) && not (client_wanted (L ++ In ev ∷ []) c))
        (asks_both c (acts_of moves) more t.asks_none refl)
        (ap (λ (b : Bool). b && not (client_wanted (L ++ In ev ∷ []) c))
        (ap (must_hear site c) now ∙ start_unasked site c L ev acts_upgraded upgraded t.next t.welcomed.continued launch g2));
    whys =
        shuts_none (shut L c) (is_turned_away step (whys_given c (acts_of moves ++ more))) (whys_given c (acts_of moves ++ more)) (why_due site c (goes_on site c step))
        (given_both c (acts_of moves) more ∙ ap (λ (l : List Why). l ++ []) t.whys_none)
        (ap (why_due site c) now ∙ start_stays site c L ev acts_upgraded upgraded t.next t.welcomed.continued launch g2);
    memory =
        implied (takes_none site c step ev) (not (list_any (is_shut_act c) (acts_of moves ++ more)))
        (ap not (list_any-append (is_shut_act c) (acts_of moves) more ∙ ap (λ (b : Bool). b || false) t.shuts_none));
  }

  good : StepGood site c step
  good = t.good more tail last refl in_step right ordered refl ends form mine fit

  -- ---- the talk

  abbrev items : List Item
  items = after_step L ev (acts_of moves ++ more)

  items_last : all_of last ≡ items
  items_last = sym (ap all_of now) ∙ all_of-current site c items

  site_talk : talk_site spoken ≡ site
  site_talk = o.site ∙ t.site_conn

  number_talk : talk_number spoken ≡ c
  number_talk = ap (λ (x : Flags). x.c) o.flags ∙ t.number_conn

  flags_talk : talk_flags spoken ≡ flags
  flags_talk = o.flags ∙ ap (λ (i : ℕ). noted (flags_of conn) (Out (Upgrade i o.rest))) t.number_conn

  run_talk : talk_run spoken ≡ run_begun t.next WebSocket (site_of mid).limits
  run_talk = o.run ∙ (ap (λ (k : ℕ). run_begun k WebSocket (site_of conn).limits) t.next_same ∙ ap (λ (x : Site). run_begun t.next WebSocket x.limits) t.site_conn)

  talk_talk : talk_of spoken ≡ talk_begun (number_of mid) t.next (site_of mid).limits.ws_text
  talk_talk =
      o.talk_is
      ∙ (ap (λ (i : ℕ). talk_begun i (next_after n (acts_of moves)) (site_of conn).limits.ws_text) t.number_conn
      ∙ (ap (λ (k : ℕ). talk_begun (number_of mid) k (site_of conn).limits.ws_text) t.next_same ∙ ap (λ (x : Site). talk_begun (number_of mid) t.next x.limits.ws_text) t.site_conn))

  knows_talk : KnowsFlags (talk_flags spoken) items
  knows_talk =
      subst (λ (x : Flags). KnowsFlags x items) (sym flags_talk)
      (subst (λ (l : List Item). KnowsFlags flags l) items_last
      (start_known site c upgraded t.welcomed.continued launch flags knows t.number_conn g2.accepted t.next t.here.number launch))

  abbrev legs : List Started
  legs = start_legs site c L ev acts_upgraded upgraded t.next t.welcomed.continued launch g2

  talk_now : TalkIs site c (current site c items) legs t.welcomed.continued (talk_of spoken) (talk_run spoken)
  talk_now =
      subst (λ (d : Exchange). TalkIs site c d legs t.welcomed.continued (talk_of spoken) (talk_run spoken)) (sym now)
      (subst (λ (r : Run). TalkIs site c last legs t.welcomed.continued (talk_of spoken) r) (sym run_talk)
      (subst (λ (x : Talk). TalkIs site c last legs t.welcomed.continued x (run_begun t.next WebSocket (site_of mid).limits)) (sym talk_talk)
      (start_talks site c L ev acts_upgraded upgraded t.next t.welcomed.continued launch g2)))

  rests_now : TalkRests c (current site c items) (talk_of spoken) (talk_run spoken)
  rests_now =
      subst (λ (d : Exchange). TalkRests c d (talk_of spoken) (talk_run spoken)) (sym now)
      (subst (λ (r : Run). TalkRests c last (talk_of spoken) r) (sym run_talk)
      (subst (λ (x : Talk). TalkRests c last x (run_begun t.next WebSocket (site_of mid).limits)) (sym talk_talk)
      (start_rests site c L ev acts_upgraded upgraded t.next t.welcomed.continued launch g2)))

  unroomed : (talk_flags spoken).no_room ≡ false
  unroomed =
      knows_talk.no_room
      ∙ (ap (λ (i : ℕ). list_any (is_no_room i) items) number_talk
      ∙ (ap (list_any (is_no_room c)) (sym items_last) ∙ start_unroomed site c L ev acts_upgraded upgraded t.next t.welcomed.continued launch g2))

  talks : Talks spoken items
  talks = record {
    legs = legs;
    continued = t.welcomed.continued;
    talk = subst (λ (i : ℕ). TalkIs (talk_site spoken) i (current (talk_site spoken) i items) legs t.welcomed.continued (talk_of spoken) (talk_run spoken)) (sym number_talk)
        (subst (λ (x : Site). TalkIs x c (current x c items) legs t.welcomed.continued (talk_of spoken) (talk_run spoken)) (sym site_talk) talk_now);
    rests = subst (λ (i : ℕ). TalkRests i (current (talk_site spoken) i items) (talk_of spoken) (talk_run spoken)) (sym number_talk)
        (subst (λ (x : Site). TalkRests c (current x c items) (talk_of spoken) (talk_run spoken)) (sym site_talk) rests_now);
    room = unroomed;
  }

  fresh : (k : ℕ) → m ≤ k → list_any (names_child k) items ≡ false
  fresh k most =
      let rises : m ≡ next_after n (acts_of moves) + 1 = o.next in
      let same : next_after n (acts_of moves) ≡ t.next = t.next_same in
      ap (list_any (names_child k)) (sym items_last)
      ∙ start_fresh site c L ev acts_upgraded upgraded t.next t.welcomed.continued launch g2 k (omega (arith, rises, same, most))

  stands : TalkStands spoken items m
  stands = record {
    two = subst (λ (x : Site). 2 ≤ x.limits.head) (sym site_talk) t.welcomed.two;
    flags = knows_talk;
    accepted = ap (list_any is_accepted) (sym items_last) ∙ start_accepted site c L ev acts_upgraded upgraded t.next t.welcomed.continued launch g2;
    fresh = fresh;
    even = unstarted_rests (has_room (talk_flags spoken)) (talk_run spoken) (ap (λ (r : Run). r.started) run_talk);
    found = λ still. talks;
    lost = λ lost. absurd (false≢true (sym o.found ∙ lost));
  }

  pub opened : (old : HttpConn) → site_of mid ≡ site_of old → number_of mid ≡ number_of old
      → IsOpened old spoken L ev (acts_of moves ++ acts_opened conn (next_after n (acts_of moves)) launch o.rest) m
  opened old site_is number_is =
      subst (λ (l : List Act). IsOpened old spoken L ev (acts_of moves ++ l) m) more_same (record {
        good = subst (λ (i : ℕ). StepGood (site_of old) i step) number_is (subst (λ (x : Site). StepGood x (number_of mid) step) site_is good);
        site = site_talk ∙ site_is;
        number = number_talk ∙ number_is;
        stands = stands;
      })

pub openings_are_good : OpeningsAreGood
openings_are_good old mid conn spoken L e legs ev stamp n m launch moves before after rest untalked fits clock h w allowed own o =
    let heard : Heard old L e n ev mid = events_stand old mid L e legs n ev rest fits h in
    opened mid conn L ev n launch moves (met old mid conn L e legs ev stamp n launch moves rest untalked fits clock h w allowed own) spoken m before after o old heard.site heard.number
