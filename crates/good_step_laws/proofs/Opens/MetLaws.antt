-- A step up to its accept text, and what may follow it.
use Rattle.std.proofs.Common.{◌≡◌, ◌≤◌, ℕ, Bool, true, false, List, [], ◌∷◌, ◌++◌, map, Option, refl, sym, ap, ◌∙◌, subst, append_assoc}
use Rattle.std.specs.List.{list_any}
use Rattle.std.proofs.lemmas.Bool.{and_from, false≢true}
use Rattle.std.proofs.lemmas.List.{map-append}
use Rattle.host_base.specs.declared.launch.Launch.{Launch}
use Rattle.host_base.specs.declared.site.Site.{Site}
use Rattle.host_trace.specs.declared.items.Act.{Act}
use Rattle.host_trace.specs.declared.items.Act.TheVariants.{CloseWs, EndInput, Feed, Kill, Release, Says, Shut, Start, Upgrade, WantChild, WantClient, Write}
use Rattle.host_trace.specs.declared.items.Event.{Event}
use Rattle.host_trace.specs.declared.items.Item.{Item}
use Rattle.host_trace.specs.declared.items.Item.TheVariants.{In, Out}
use Rattle.host_trace.specs.Projections.{children, last_secs}
use Rattle.host_trace.specs.Kinds.{is_want_client}
use Rattle.host_trace.specs.Trace.{after_step, step_of}
use Rattle.ws_handshake.specs.Handshake.{accept_text}
use Rattle.own_traces.specs.OwnFits.{fits_own}
use Rattle.own_traces.specs.Whose.{are_of, kids_after, next_after}
use Rattle.own_traces.proofs.BlockLaws.{are_of-append, next_after-append}
use Rattle.trace_child.specs.Words.{given, is_filled}
use Rattle.trace_model.specs.Exchange.{Exchange, all_of, has_start, pushed}
use Rattle.trace_model.specs.Exchanges.{current, left_over}
use Rattle.trace_model.specs.Good.{StepGood}
use Rattle.trace_model.specs.Legs.{Leg as Started}
use Rattle.trace_model.specs.Form.{comes_in_form}
use Rattle.trace_model.specs.Shuts.{whys_given}
use Rattle.trace_model.specs.Steps.{each_act}
use Rattle.trace_model.specs.TakesNoMemory.{is_shut_act}
use Rattle.trace_model.proofs.ExchangeLaws.{current-append}
use Rattle.conn_flags.specs.View.{View as Flags, noted}
use Rattle.conn_flags.specs.Form.{are_given, given_all}
use Rattle.conn_flags.specs.Knows.{KnowsFlags}
use Rattle.conn_flags.proofs.KnowsLaws.{are_given-append, given_all-append, given_all-number, known_all}
use Rattle.conn_laws.specs.Front.{counted}
use Rattle.conn_laws.specs.Moves.{AreInStep, Move, acts_of, continues, gives, moved, settles}
use Rattle.conn_laws.proofs.MoveLaws.{acts_of-append, moved-append}
use Rattle.http_conn.specs.HttpConn.{HttpConn}
use Rattle.http_conn.specs.Hears.{Hears}
use Rattle.http_conn.specs.Kept.{flags_of, number_of, site_of}
use Rattle.http_conn.specs.Opens.{IsRestOf}
use Rattle.http_conn.specs.Welcomes.{Accepts, Greets}
use Rattle.http_stage_laws.specs.HeardStages.{AtRest}
use Rattle.http_step_laws.specs.Standing.{AreRight, Leaves}
use Rattle.http_step_laws.proofs.ActWords.{EachRight, acts_right}
use Rattle.http_step_laws.proofs.ThenLaws.{all_moved, form_parts, in_step_together, right_together}
use Rattle.good_step_laws.proofs.Orders.AskLaws.{given_others}
use Rattle.good_step_laws.proofs.Orders.EachLaws.{Each, is_other}
use Rattle.good_step_laws.proofs.Orders.GoesLaws.{Goes}
use Rattle.good_step_laws.proofs.Orders.PlaceWords.{AreOrdered, least_then, ordered_together}
use Rattle.good_step_laws.proofs.Orders.RoundLaws.{CalmNow}
use Rattle.good_step_laws.specs.Events.Events.{Heard}
use Rattle.good_step_laws.proofs.Events.EventLaws.{events_stand}
use Rattle.good_step_laws.proofs.Shuts.GivenWords.{none_given}
use Rattle.good_step_laws.proofs.Shuts.NoneLaws.{none_inner}
use Rattle.good_step_laws.proofs.Shuts.PartWords.{AreInner, IsInner, inner_append, is_inner}
use Rattle.good_step_laws.proofs.Steps.FormLaws.{acts_come_in_form}
use Rattle.talk_core.specs.Laws.{is_of_talk}
use Rattle.good_step_laws.proofs.Opens.GreetWords.{Ends, Welcomed}
use Rattle.good_step_laws.proofs.Opens.PutLaws.{ActsFit, Behind, put_together}
use Rattle.good_step_laws.proofs.Opens.ReadyLaws.{ready_welcomed, rest_left}
use Rattle.good_step_laws.proofs.Opens.UntalkedLaws.{untalked_stays}
use Rattle.good_step_laws.proofs.Opens.WayLaws.{Ready, Way, ahead_goes, ahead_inner, ahead_leaves, calm_zero, way_of}

-- no inner act asks the client
other_of : (act : Act) → is_inner act ≡ true → is_other act ≡ true
other_of (WantClient c) i = absurd (false≢true i)
other_of _ i = refl

inner_others : (held : Bool) (moves : List Move) → AreInner held moves → Each is_other moves
inner_others held [] i = tt
inner_others held (gives act ∷ moves) i = (other_of act i.0, inner_others held moves i.1)
inner_others held (continues d ∷ moves) i = (refl, inner_others held moves i)
inner_others held (settles ending ∷ moves) i = inner_others held moves i.1

-- The accept text was written behind these acts of the step of an event, at exchange `here`, for which a launch waits with
-- child number `next`; and what is to be shown of the acts behind it so that the step is good.
pub record Met (mid conn : HttpConn) (L : List Item) (ev : Event) (n : ℕ) (launch : Launch) (moves : List Move) : Type 0 where
  pub acts : List Act
  pub here : Exchange
  pub next : ℕ
  pub text : List ℕ
  pub welcomed : Welcomed (site_of mid) (number_of mid) L ev acts here next text launch
  pub acts_are : acts_of moves ≡ acts ++ Write (number_of mid) text ∷ []
  pub next_same : next_after n (acts_of moves) ≡ next
  pub site_conn : site_of conn ≡ site_of mid
  pub number_conn : number_of conn ≡ number_of mid
  pub number_here : conn.number ≡ counted here.number
  pub knows : KnowsFlags (flags_of conn) (all_of (pushed here (Out (Write (number_of mid) text))))
  pub rest_is : (bytes : List ℕ) → IsRestOf conn bytes → bytes ≡ left_over (site_of mid) (number_of mid) here
  pub asks_none : given (is_want_client (number_of mid)) (acts_of moves) ≡ 0
  pub whys_none : whys_given (number_of mid) (acts_of moves) ≡ []
  pub shuts_none : list_any (is_shut_act (number_of mid)) (acts_of moves) ≡ false
  pub good : (more : List Act) (tail : List Move) (last : Exchange) → acts_of tail ≡ Write (number_of mid) text ∷ more → AreInStep (site_of mid) (number_of mid) here tail
      → AreRight (site_of mid) (number_of mid) here tail → ((least : ℕ) → least ≡ 0 → AreOrdered (site_of mid) (number_of mid) here least tail)
      → moved (site_of mid) (number_of mid) here tail ≡ last → Ends (site_of mid) (number_of mid) L ev (acts ++ acts_of tail) last → are_given (flags_of conn) more ≡ true
      → ((ks : List ℕ) → are_of (number_of mid) ks next more ≡ true) → ActsFit (site_of mid) (number_of mid) (step_of L ev (acts_of moves ++ more))
      → StepGood (site_of mid) (number_of mid) (step_of L ev (acts_of moves ++ more))

module _ (old mid conn : HttpConn) (L : List Item) (e : Exchange) (legs : List Started) (ev : Event) (stamp : Option ℕ) (n : ℕ) (launch : Launch) (moves : List Move) (rest : AtRest old L e legs n)
    (untalked : list_any (is_of_talk (number_of old)) L ≡ false) (fits : fits_own (site_of old).limits.children L ev ≡ true) (clock : stamp ≡ last_secs (L ++ In ev ∷ [])) (h : Hears old ev mid)
    (w : Greets launch stamp mid n moves conn) (allowed : are_given (noted (flags_of old) (In ev)) (acts_of moves) ≡ true)
    (own : are_of (number_of old) (children L (number_of old)) n (acts_of moves) ≡ true) where
  -- ---- the way to the accept text

  abbrev site : Site
  site = site_of mid

  abbrev c : ℕ
  c = number_of mid

  heard : Heard old L e n ev mid
  heard = events_stand old mid L e legs n ev rest fits h

  -- the exchange behind the event
  abbrev first : Exchange
  first = moved (site_of old) (number_of old) (pushed e (In ev)) heard.moves

  two : 2 ≤ (site_of mid).limits.head
  two = subst (λ (t : Site). 2 ≤ t.limits.head) (sym heard.site) rest.two

  way : Way launch stamp mid n moves conn
  way = way_of launch stamp mid n moves conn w

  abbrev ready : HttpConn
  ready = way.ready

  given_here : are_given (flags_of mid) (acts_of moves) ≡ true
  given_here = ap (λ (m : Flags). are_given m (acts_of moves)) heard.flags ∙ allowed

  forms : (are_given (flags_of mid) (acts_of way.ahead) ≡ true) × (are_given (given_all (flags_of mid) (acts_of way.ahead)) (acts_of way.tail) ≡ true)
  forms = form_parts (flags_of mid) way.ahead way.tail (subst (λ (l : List Move). are_given (flags_of mid) (acts_of l) ≡ true) way.are given_here)

  leaves : Leaves Ready L ev [] first mid n way.ahead way.ready
  leaves = ahead_leaves L ev stamp clock way.turns first mid way.ready n way.ahead heard.standing two heard.apt way.does forms.0

  goes : Goes CalmNow (site_of mid) (number_of mid) first 0 way.ahead way.ready
  goes = ahead_goes L ev stamp clock way.turns first mid way.ready n way.ahead heard.standing two heard.apt way.does forms.0

  inner : IsInner mid way.ahead way.ready
  inner = ahead_inner way.turns stamp mid way.ready n way.ahead way.does

  abbrev acts_ahead : List Act
  acts_ahead = acts_of way.ahead

  -- the exchange to which it led, and the number of the next child there
  abbrev here : Exchange
  here = moved (site_of mid) (number_of mid) first way.ahead

  abbrev next_child : ℕ
  next_child = next_after n (acts_of way.ahead)

  site_ready : site_of way.ready ≡ site_of mid
  site_ready = leaves.site

  number_ready : number_of way.ready ≡ number_of mid
  number_ready = ap (λ (m : Flags). m.c) leaves.flags ∙ given_all-number (flags_of mid) (acts_of way.ahead)

  items_here : all_of here ≡ after_step L ev (acts_of way.ahead)
  items_here = leaves.standing.children.knows.items ∙ append_assoc L (In ev ∷ []) (map Out (acts_of way.ahead))

  http_here : (given_all (noted (flags_of old) (In ev)) (acts_of way.ahead)).upgraded ≡ false
  http_here =
      sym (ap (λ (m : Flags). (given_all m (acts_of way.ahead)).upgraded) heard.flags) ∙ (sym (ap (λ (m : Flags). m.upgraded) leaves.flags) ∙ leaves.standing.inward.http)

  untalked_here : list_any (is_of_talk (number_of way.ready)) (all_of here) ≡ false
  untalked_here =
      ap (λ (i : ℕ). list_any (is_of_talk i) (all_of here)) (number_ready ∙ heard.number)
      ∙ (ap (λ (l : List Item). list_any (is_of_talk (number_of old)) l) items_here
      ∙ untalked_stays (site_of old) (flags_of old) L ev (acts_of way.ahead) rest.flags fits
      (sym (ap (λ (m : Flags). are_given m (acts_of way.ahead)) heard.flags) ∙ forms.0) http_here untalked)

  two_ready : 2 ≤ (site_of way.ready).limits.head
  two_ready = subst (λ (t : Site). 2 ≤ t.limits.head) (sym site_ready) two

  abbrev by : Accepts launch way.ready way.next way.tail conn
  by = way.accepts.by

  abbrev text : List ℕ
  text = accept_text way.accepts.by.value

  welcomed_ready : Welcomed (site_of way.ready) (number_of way.ready) L ev (acts_of way.ahead) here next_child text launch
  welcomed_ready = ready_welcomed L ev (acts_of way.ahead) leaves.turn here way.ready conn next_child way.next way.tail launch leaves.standing two_ready leaves.post way.accepts.by untalked_here

  welcomed : Welcomed site c L ev acts_ahead here next_child text launch
  welcomed =
      subst (λ (i : ℕ). Welcomed (site_of mid) i L ev (acts_of way.ahead) here next_child text launch) number_ready
      (subst (λ (t : Site). Welcomed t (number_of way.ready) L ev (acts_of way.ahead) here next_child text launch) site_ready welcomed_ready)

  -- ---- the accept text

  tail_is : way.tail ≡ gives (Write c text) ∷ []
  tail_is = way.accepts.by.moves_are ∙ ap (λ (i : ℕ). gives (Write i text) ∷ []) number_ready

  acts_are : acts_of moves ≡ acts_ahead ++ Write c text ∷ []
  acts_are = ap acts_of way.are ∙ (acts_of-append way.ahead way.tail ∙ ap (λ (l : List Move). acts_of way.ahead ++ acts_of l) tail_is)

  next_same : next_after n (acts_of moves) ≡ next_child
  next_same = ap (next_after n) acts_are ∙ next_after-append n (acts_of way.ahead) (Write c text ∷ [])

  wrote_is : conn ≡ record way.ready { flags = noted way.ready.flags (Out (Write way.ready.flags.c text)) }
  wrote_is = way.accepts.by.is

  site_conn : site_of conn ≡ site
  site_conn = ap site_of wrote_is ∙ site_ready

  number_conn : number_of conn ≡ c
  number_conn = ap number_of wrote_is ∙ number_ready

  flags_conn : flags_of conn ≡ given_all (flags_of mid) (acts_of moves)
  flags_conn =
      way.accepts.flags
      ∙ (ap (λ (m : Flags). given_all m (acts_of way.tail)) leaves.flags
      ∙ (sym (given_all-append (flags_of mid) (acts_of way.ahead) (acts_of way.tail))
      ∙ (ap (given_all (flags_of mid)) (sym (acts_of-append way.ahead way.tail)) ∙ ap (λ (l : List Move). given_all (flags_of mid) (acts_of l)) (sym way.are))))

  knows_heard : KnowsFlags (flags_of mid) (L ++ In ev ∷ [])
  knows_heard = subst (λ (l : List Item). KnowsFlags (flags_of mid) l) heard.all heard.standing.flags

  -- the items with the accept text
  items_text : all_of (pushed here (Out (Write c text))) ≡ (L ++ In ev ∷ []) ++ map Out (acts_of moves)
  items_text =
      all_moved site c here (gives (Write c text) ∷ [])
      ∙ (ap (λ (l : List Item). l ++ Out (Write c text) ∷ []) leaves.standing.children.knows.items
      ∙ (append_assoc (L ++ In ev ∷ []) (map Out (acts_of way.ahead)) (Out (Write c text) ∷ [])
      ∙ ap (λ (l : List Item). (L ++ In ev ∷ []) ++ l) (sym (map-append Out (acts_of way.ahead) (Write c text ∷ [])) ∙ ap (map Out) (sym acts_are))))

  knows_text : KnowsFlags (flags_of conn) (all_of (pushed here (Out (Write c text))))
  knows_text =
      subst (λ (l : List Item). KnowsFlags (flags_of conn) l) (sym items_text)
      (subst (λ (m : Flags). KnowsFlags m ((L ++ In ev ∷ []) ++ map Out (acts_of moves))) (sym flags_conn) (known_all (flags_of mid) (L ++ In ev ∷ []) (acts_of moves) knows_heard given_here))

  number_here : conn.number ≡ counted here.number
  number_here = ap (λ (x : HttpConn). x.number) wrote_is ∙ leaves.standing.front.number

  -- what came behind the request
  request_conn : (bytes : List ℕ) → IsRestOf conn bytes → IsRestOf way.ready bytes
  request_conn bytes is = subst (λ (x : HttpConn). IsRestOf x bytes) wrote_is is

  rest_is : (bytes : List ℕ) → IsRestOf conn bytes → bytes ≡ left_over site c here
  rest_is bytes is =
      rest_left L ev (acts_of way.ahead) leaves.turn here way.ready conn next_child way.next way.tail launch leaves.standing two_ready leaves.post way.accepts.by untalked_here bytes (request_conn bytes is)
      ∙ (ap (λ (t : Site). left_over t (number_of way.ready) here) site_ready ∙ ap (λ (i : ℕ). left_over (site_of mid) i here) number_ready)

  -- ---- a step that goes on by these moves

  behind : Behind site c L ev first heard.standing.over
  behind = record {
    goes_on = current-append site c L (In ev ∷ []) ∙ heard.standing.children.goes_on;
    gone = heard.standing.children.gone;
    silent = heard.over_silent;
  }

  unstarted : has_start (number_of way.ready) here ≡ false
  unstarted = ap (λ (i : ℕ). has_start i here) number_ready ∙ ap (λ (ks : List ℕ). is_filled ks) welcomed.welcoming.no_child

  zero : least_then site c first 0 way.ahead ≡ 0
  zero = calm_zero (site_of way.ready) (number_of way.ready) (least_then site c first 0 way.ahead) here way.ready goes.low unstarted

  module _ (more : List Act) (tail : List Move) (last : Exchange) (acts_tail : acts_of tail ≡ Write c text ∷ more) (in_step : AreInStep site c here tail) (right : AreRight site c here tail)
      (ordered : (least : ℕ) → least ≡ 0 → AreOrdered site c here least tail) (last_is : moved site c here tail ≡ last) (ends : Ends site c L ev (acts_ahead ++ acts_of tail) last)
      (form : are_given (flags_of conn) more ≡ true) (mine : (ks : List ℕ) → are_of c ks next_child more ≡ true) (fit : ActsFit site c (step_of L ev (acts_of moves ++ more))) where
    abbrev all : List Move
    all = way.ahead ++ tail

    both_in_step : AreInStep site c first all
    both_in_step = in_step_together site c first way.ahead tail leaves.in_step in_step

    both_right : AreRight site c first all
    both_right = right_together site c first way.ahead tail leaves.right right

    all_are : acts_of all ≡ acts_of moves ++ more
    all_are =
        acts_of-append way.ahead tail
        ∙ (ap (λ (l : List Act). acts_of way.ahead ++ l) acts_tail
        ∙ sym (ap (λ (l : List Act). l ++ more) acts_are ∙ append_assoc (acts_of way.ahead) (Write c text ∷ []) more))

    each : EachRight site c (current site c (L ++ In ev ∷ [])) (acts_of all)
    each = subst (λ (d : Exchange). EachRight site c d (acts_of all)) (sym behind.goes_on) (acts_right site c first all both_in_step both_right)

    -- the acts may be given, and are of the connection and its child alone
    all_given : are_given (flags_of mid) (acts_of all) ≡ true
    all_given =
        ap (are_given (flags_of mid)) all_are
        ∙ are_given-append (flags_of mid) (acts_of moves) more given_here (sym (ap (λ (m : Flags). are_given m more) flags_conn) ∙ form)

    all_own : are_of c (children L (number_of old)) n (acts_of all) ≡ true
    all_own =
        ap (are_of c (children L (number_of old)) n) all_are
        ∙ (are_of-append c (children L (number_of old)) n (acts_of moves) more
        ∙ and_from (are_of c (children L (number_of old)) n (acts_of moves)) _ (ap (λ (i : ℕ). are_of i (children L (number_of old)) n (acts_of moves)) heard.number ∙ own)
        (ap (λ (k : ℕ). are_of c (kids_after (children L (number_of old)) c (acts_of moves)) k more) next_same ∙ mine (kids_after (children L (number_of old)) c (acts_of moves))))

    all_form : each_act site c comes_in_form (step_of L ev (acts_of all)) ≡ true
    all_form = acts_come_in_form site (flags_of mid) (L ++ In ev ∷ []) (children L (number_of old)) n (acts_of all) knows_heard all_own all_given each.givings

    all_good : StepGood site c (step_of L ev (acts_of moves ++ more))
    all_good =
        subst (λ (l : List Act). StepGood site c (step_of L ev l)) all_are
        (put_together site c L ev first heard.standing.over all last behind both_in_step both_right
        (ordered_together site c first 0 way.ahead tail goes.ordered (ordered (least_then site c first 0 way.ahead) zero)) (moved-append site c first way.ahead tail ∙ last_is)
        (subst (λ (l : List Act). Ends site c L ev l last) (sym (acts_of-append way.ahead tail)) ends) all_form
        (subst (λ (l : List Act). ActsFit site c (step_of L ev l)) (sym all_are) fit))

  inner_all : AreInner mid.idled moves
  inner_all =
      subst (λ (l : List Move). AreInner mid.idled l) (sym way.are)
      (inner_append mid.idled way.ahead way.tail inner.are (subst (λ (l : List Move). AreInner mid.idled l) (sym tail_is) (refl, tt)))

  pub met : Met mid conn L ev n launch moves
  met = record {
    acts = acts_ahead;
    here = here;
    next = next_child;
    text = text;
    welcomed = welcomed;
    acts_are = acts_are;
    next_same = next_same;
    site_conn = site_conn;
    number_conn = number_conn;
    number_here = number_here;
    knows = knows_text;
    rest_is = rest_is;
    asks_none = given_others c moves (inner_others mid.idled moves inner_all);
    whys_none = none_given c mid.idled moves inner_all;
    shuts_none = none_inner c mid.idled moves inner_all;
    good = λ more tail last acts_tail in_step right ordered last_is ends form mine fit. all_good more tail last acts_tail in_step right ordered last_is ends form mine fit;
  }
