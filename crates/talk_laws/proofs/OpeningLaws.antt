-- The accept text is written, and the Upgrade given.
use Rattle.std.proofs.Common.{◌≡◌, ℕ, ◌-◌, Bool, true, false, List, [], ◌∷◌, ◌++◌, length, Some, None, refl, sym, ap, subst, ◌∙◌, append-nil, arith}
use Rattle.std.specs.Prelude.{◌&&◌, ◌||◌, ◌==◌, not, nat_lt, if◌then◌else◌, bytes_eq}
use Rattle.std.specs.List.{list_any}
use Rattle.std.proofs.lemmas.Bool.{and_from, eq-eqb, false≢true}
use Rattle.host_base.specs.declared.launch.Launch.{Launch}
use Rattle.host_base.specs.declared.site.Site.{Site}
use Rattle.host_trace.specs.declared.items.Act.TheVariants.{Upgrade, Write}
use Rattle.host_trace.specs.declared.items.Item.{Item}
use Rattle.host_trace.specs.declared.items.Item.TheVariants.{Out}
use Rattle.host_trace.specs.First.{or_else, since}
use Rattle.host_trace.specs.Kinds.{is_shut, is_stop, is_upgrade, peer_of_item}
use Rattle.host_trace.specs.Projections.{client_out, client_wanted, left_of_phase, peers, said_len, sent_of_phase, shut, upgraded}
use Rattle.host_trace.specs.Account.{has_unsettled, settled}
use Rattle.host_trace.proofs.FirstLaws.{first_front-push, flat_map-push}
use Rattle.host_trace.proofs.ProjectionLaws.{client_out-push, upgraded-push}
use Rattle.ws_handshake.specs.Handshake.{accept_text}
use Rattle.child_core.proofs.WordLaws.{contra, since_first}
use Rattle.trace_child.specs.Words.{implies, is_filled}
use Rattle.trace_model.specs.Answer.{answer, is_undecided, stage, welcomed}
use Rattle.trace_model.specs.Breaks.{idled, idles_out}
use Rattle.trace_model.specs.Demands.{has_room, is_welcomed, may_go_on}
use Rattle.trace_model.specs.Exchange.{Exchange, all_of, continue_part, continue_text, final, has_start, pushed, written}
use Rattle.trace_model.specs.Exchanges.{left_over}
use Rattle.trace_model.specs.Launches.{is_launch, launch_at, launch_by}
use Rattle.trace_model.specs.Legs.{Leg}
use Rattle.trace_model.specs.Readings.{is_whole}
use Rattle.trace_model.proofs.SamenessLaws.{bytes_eq-refl}
use Rattle.conn_laws.proofs.QuietLaws.{act_breaks_none}
use Rattle.reply_writer.proofs.FrontLaws.{front_is}
use Rattle.exchange_reply.proofs.NoSoonerLaws.{texts_come_no_sooner}
use Rattle.exchange_reply.proofs.StepLaws.{texts_extend}
use Rattle.exchange_reply.specs.StepRules.{is_continued, wrote}
use Rattle.exchange_laws.specs.StageIs.{HasBegun}
use Rattle.exchange_laws.proofs.PlaceLaws.{launches_same}
use Rattle.exchange_laws.proofs.UnansweredLaws.{continued_is, continues-quiet, unanswered_final, unanswered_no_sooner}
use Rattle.exchange_laws.proofs.WalkLaws.{has_children-push, is_new-push}
use Rattle.talk_core.specs.Laws.{is_of_talk}
use Rattle.talk_laws.specs.Http.{is_parting}
use Rattle.talk_laws.specs.Welcome.{AcceptsAreWritten, IsGreeted, IsOpening, IsWelcoming, OpeningsStartRight, UpgradesAreGiven}
use Rattle.talk_laws.proofs.AcceptLaws.{accepted_answer, accepted_are_welcomed}
use Rattle.talk_laws.proofs.GreetedLaws.{accepted-push, greeted_final, items_leave_greeted}
use Rattle.talk_laws.proofs.ListLaws.{all_push, any_parts, any_still, any_within, once_act, or_false, wanted_still}

-- ---- acts leave what isn't theirs

pub idled_still : (site : Site) (c : ℕ) (e : Exchange) (x : Item) → idles_out c site e e.items x ≡ false → idled site c e ≡ None → idled site c (pushed e x) ≡ None
idled_still site c e x quiet calm =
    first_front-push (idles_out c site e) e.items x
    ∙ ap (λ o. or_else o (if idles_out c site e e.items x then Some (e.items ++ x ∷ []) else None)) calm
    ∙ ap (λ (b : Bool). if b then Some (e.items ++ x ∷ []) else None) quiet

peers_still : (e : Exchange) (x : Item) → peer_of_item x ≡ [] → peers (all_of (pushed e x)) ≡ peers (all_of e)
peers_still e x none =
    ap peers (all_push e x) ∙ flat_map-push peer_of_item (all_of e) x ∙ ap (λ l. peers (all_of e) ++ l) none ∙ append-nil (peers (all_of e))

-- ---- the accept text

wrote_is : (c : ℕ) (e : Exchange) (text : List ℕ) → is_filled text ≡ true → wrote c e text ≡ pushed e (Out (Write c text))
wrote_is c e [] some = absurd (false≢true some)
wrote_is c e (byte ∷ bytes) some = refl

text_filled : (value : List ℕ) → is_filled (accept_text value) ≡ true
text_filled value = refl

implied : (b a : Bool) → a ≡ true → implies b a ≡ true
implied true a is = is
implied false a is = refl

module _ (site : Site) (c : ℕ) (e : Exchange) (legs : List Leg) (continued : Bool) (text : List ℕ) (launch : Launch) (w : IsWelcoming site c e legs continued text launch) where
  some_text : is_filled text ≡ true
  some_text = ap is_filled w.text_is ∙ text_filled w.value

  unwritten : final site c e ≡ []
  unwritten = unanswered_final site c e continued w.unanswered

  wrote_before : written c e ≡ continue_part site c e
  wrote_before =
      front_is (written c e) (continue_part site c e) w.let_on ∙ ap (λ l. continue_part site c e ++ l) unwritten ∙ append-nil (continue_part site c e)

  decided : is_undecided (answer site c e) ≡ false
  decided = ap is_undecided (accepted_answer site c e w.value w.request w.mapped w.accepted)

  part_same : continue_part site c (pushed e (Out (Write c text))) ≡ continue_part site c e
  part_same = ap (λ (b : Bool). if b then continue_text else []) (continues-quiet site c e (Out (Write c text)) refl)

  unasked_now : client_wanted (all_of e) c ≡ false
  unasked_now = contra (client_wanted (all_of e) c) false (λ asked. sym (w.http.unasked asked w.unclosed) ∙ ap is_whole w.accepted.reads) refl

  pub greeted_then : IsGreeted site c (pushed e (Out (Write c text))) continued w.value w.request w.mapped
  greeted_then =
      let same = wrote_is c e text some_text in
      let extends = texts_extend site c e text in
      let first = extends.first w.let_on (ap is_filled unwritten) some_text in
      record {
        accepted =
            accepted-push site c e (Out (Write c text)) w.value w.request w.mapped refl (act_breaks_none site c e (Write c text) ∙ w.accepted.unbroken) w.accepted;
        unclosed = w.unclosed;
        continues_is = continues-quiet site c e (Out (Write c text)) refl ∙ continued_is site c e continued w.unanswered w.let_on;
        let_on = subst (λ d. is_continued site c d ≡ true) same (extends.continued_then w.let_on);
        written_is =
            client_out-push e.items (Out (Write c text)) c
            ∙ ap (λ b. written c e ++ (if b then text else [])) (eq-eqb c c refl)
            ∙ ap (λ l. l ++ text) (wrote_before ∙ sym part_same) ∙ ap (λ l. continue_part site c (pushed e (Out (Write c text))) ++ l) w.text_is;
        begun = subst (HasBegun site c) same (record {
          front = (wrote c e text).items;
          begins = first.0;
          no_sooner =
              texts_come_no_sooner site c e text w.let_on (unanswered_no_sooner site c e continued w.unanswered)
              (λ some. absurd (false≢true (sym (ap is_filled unwritten) ∙ some))) (λ none filled undone. absurd (false≢true (sym decided ∙ undone)));
        });
      }

pub accepts_are_written : AcceptsAreWritten
accepts_are_written site c e legs continued text launch two w =
    let http = any_parts (is_upgrade c) e w.http.http in
    record {
      then_is = record {
        value = w.value;
        request = w.request;
        mapped = w.mapped;
        greeted = greeted_then site c e legs continued text launch w;
        launch_is = ap (λ p. launch_by site p w.request w.mapped) (peers_still e (Out (Write c text)) refl) ∙ w.launch_is;
        calm = idled_still site c e (Out (Write c text)) refl w.calm;
        going = any_still is_stop e (Out (Write c text)) refl ∙ w.going;
        unshut = any_still (is_shut c) e (Out (Write c text)) refl ∙ w.unshut;
        staying = any_still (is_parting c) e (Out (Write c text)) refl ∙ w.staying;
        upgraded_is = upgraded-push e.items (Out (Write c text)) c ∙ or_false _ ∙ http.1;
        http_before = http.0;
        room = λ spoken. absurd (false≢true spoken);
        untalked = any_still (is_of_talk c) e (Out (Write c text)) refl ∙ w.http.untalked;
        once = once_act c e (Write c text) refl w.http.once;
        unasked = wanted_still c e (Out (Write c text)) refl refl ∙ unasked_now site c e legs continued text launch w;
        none = w.none;
        no_child = has_children-push c e (Out (Write c text)) [] refl w.no_child;
        new = is_new-push c e (Out (Write c text)) 0 refl w.new;
      };
      in_turn = λ may. implied _ (may_go_on c e) may;
    }

-- ---- the Upgrade

-- what was written before it counts nothing then
room_then : (c : ℕ) (L : List Item) (rest : List ℕ) → upgraded L c ≡ false → has_room c (L ++ Out (Upgrade c rest) ∷ []) ≡ true
room_then c L rest http = ap (λ n. not (nat_lt 262144 n)) (go (shut (L ++ Out (Upgrade c rest) ∷ []) c))
  where
    speaks : upgraded (L ++ Out (Upgrade c rest) ∷ []) c ≡ true
    speaks = upgraded-push L (Out (Upgrade c rest)) c ∙ rw (http, eq-eqb c c refl) refl

    nothing : since (is_upgrade c) (L ++ Out (Upgrade c rest) ∷ []) ≡ []
    nothing = since_first (is_upgrade c) L (Out (Upgrade c rest)) http

    sent : sent_of_phase (L ++ Out (Upgrade c rest) ∷ []) c ≡ 0
    sent =
        ap (λ (b : Bool). if b then said_len (since (is_upgrade c) (L ++ Out (Upgrade c rest) ∷ [])) c else length (client_out (L ++ Out (Upgrade c rest) ∷ []) c)) speaks
        ∙ ap (λ l. said_len l c) nothing

    go : (b : Bool) → (if b then 0 else sent_of_phase (L ++ Out (Upgrade c rest) ∷ []) c - left_of_phase (L ++ Out (Upgrade c rest) ∷ []) c) ≡ 0
    go true = refl
    go false = omega (arith, sent)

-- the accept text is the final answer
module _ (site : Site) (c : ℕ) (e : Exchange) (legs : List Leg) (continued : Bool) (launch : Launch) (spoken : Bool) (o : IsOpening site c e legs continued launch spoken) where
  welcomed_stands : is_welcomed site c e (welcomed o.value o.request o.mapped) ≡ true
  welcomed_stands =
      ap (λ l. bytes_eq l (accept_text o.value)) (greeted_final site c e continued o.value o.request o.mapped o.greeted) ∙ bytes_eq-refl (accept_text o.value)

  opening_welcomed : is_welcomed site c e (stage site c e) ≡ true
  opening_welcomed =
      ap (is_welcomed site c e) (accepted_are_welcomed site c e o.value o.request o.mapped o.greeted.accepted).stage_is ∙ welcomed_stands

pub upgrades_are_given : UpgradesAreGiven
upgrades_are_given site c e legs continued launch rest two o =
    let whole_http : upgraded (all_of e) c ≡ false = any_within (is_upgrade c) e o.http_before ∙ o.upgraded_is in
    record {
      then_is = record {
        value = o.value;
        request = o.request;
        mapped = o.mapped;
        greeted =
            items_leave_greeted site c e (Out (Upgrade c rest)) continued o.value o.request o.mapped two refl refl
            (act_breaks_none site c e (Upgrade c rest) ∙ o.greeted.accepted.unbroken) o.greeted;
        launch_is = ap (λ p. launch_by site p o.request o.mapped) (peers_still e (Out (Upgrade c rest)) refl) ∙ o.launch_is;
        calm = idled_still site c e (Out (Upgrade c rest)) refl o.calm;
        going = any_still is_stop e (Out (Upgrade c rest)) refl ∙ o.going;
        unshut = any_still (is_shut c) e (Out (Upgrade c rest)) refl ∙ o.unshut;
        staying = any_still (is_parting c) e (Out (Upgrade c rest)) refl ∙ o.staying;
        upgraded_is = upgraded-push e.items (Out (Upgrade c rest)) c ∙ ap (λ b. b || c == c) o.upgraded_is ∙ eq-eqb c c refl;
        http_before = o.http_before;
        room = λ spoken. ap (has_room c) (all_push e (Out (Upgrade c rest))) ∙ room_then c (all_of e) rest whole_http;
        untalked = any_still (is_of_talk c) e (Out (Upgrade c rest)) refl ∙ o.untalked;
        once = once_act c e (Upgrade c rest) refl o.once;
        unasked = wanted_still c e (Out (Upgrade c rest)) refl refl ∙ o.unasked;
        none = o.none;
        no_child = has_children-push c e (Out (Upgrade c rest)) [] refl o.no_child;
        new = is_new-push c e (Out (Upgrade c rest)) 0 refl o.new;
      };
      right = λ is.
          and_from (is_welcomed site c e (stage site c e)) (bytes_eq rest (left_over site c e)) (opening_welcomed site c e legs continued launch false o)
          (subst (λ l. bytes_eq rest l ≡ true) is (bytes_eq-refl rest));
    }

-- ---- the Start

six : (a b d f s u : Bool) → a ≡ true → b ≡ true → d ≡ true → f ≡ false → s ≡ false → u ≡ false → (a && b && d && not f && not s && not u) ≡ true
six a b d f s u p q r x y z = rw (p, q, r, x, y, z) refl

pub openings_start_right : OpeningsStartRight
openings_start_right site c e legs continued launch k o =
    let unstarted : has_start c e ≡ false = ap is_filled o.no_child in
    let due : launch_at site c e 0 (stage site c e) ≡ Some launch =
    ap (launch_at site c e 0) (accepted_are_welcomed site c e o.value o.request o.mapped o.greeted.accepted).stage_is
    ∙ ap (λ (b : Bool). if b then launch_by site (peers (all_of e)) o.request o.mapped else None)
    (and_from _ _ (and_from _ _ (welcomed_stands site c e legs continued launch true o) o.upgraded_is) (ap not unstarted))
    ∙ o.launch_is in
    let turn : may_go_on c e ≡ true =
    and_from (has_room c (all_of e)) (not (has_unsettled e.items c)) (o.room refl) (ap (λ ks. not (list_any (λ n. not (settled e.items n)) ks)) o.no_child) in
    six (e.number == e.number) (is_launch launch (launch_at site c e 0 (stage site c e))) (may_go_on c e) e.closed _ _
    (eq-eqb e.number e.number refl) (ap (is_launch launch) due ∙ launches_same launch) turn o.greeted.unclosed o.going o.unshut
