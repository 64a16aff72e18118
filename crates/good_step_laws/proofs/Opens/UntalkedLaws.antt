-- Nothing of a WebSocket stands on the list of a connection that speaks HTTP.
use Rattle.std.proofs.Common.{◌≡◌, ◌+◌, Bool, true, false, ◌||◌, ◌&&◌, List, [], ◌∷◌, ◌++◌, map, refl, sym, ◌∙◌, arith}
use Rattle.std.specs.Prelude.{count_by}
use Rattle.std.specs.List.{list_any}
use Rattle.std.proofs.lemmas.Bool.{and_parts, false≢true, or_from, or_parts}
use Rattle.std.proofs.lemmas.List.Folds.{list_any-append}
use Rattle.host_trace.specs.declared.items.Act.{Act}
use Rattle.host_trace.specs.declared.items.Act.TheVariants.{CloseWs, EndInput, Feed, Kill, Release, Says, Shut, Start, Upgrade, WantChild, WantClient, Write}
use Rattle.host_trace.specs.declared.items.Item.{Item}
use Rattle.host_trace.specs.declared.items.Item.TheVariants.{In, Out}
use Rattle.host_trace.specs.Kinds.{is_client_answer, is_upgrade, is_want_client}
use Rattle.host_trace.specs.Projections.{upgraded}
use Rattle.trace_child.specs.Words.{is_filled}
use Rattle.trace_model.specs.Exchange.{Exchange}
use Rattle.conn_flags.specs.View.{View as Flags, is_live, noted}
use Rattle.conn_flags.specs.Form.{are_given, given_all, is_allowed, is_timely}
use Rattle.conn_flags.specs.Knows.{KnowsFlags, one_if}
use Rattle.talk_core.specs.Laws.{is_of_talk}
use Rattle.talk_laws.specs.Http.{AskedInTurn, SpeaksHttp}
use Rattle.talk_laws.proofs.HttpLaws.{events_keep_http}
use Rattle.good_step_laws.specs.Opens.Laws.{UntalkedStays}

-- ---- acts

-- it did not speak WebSocket before acts by which it doesn't
http_before : (m : Flags) (acts : List Act) → (given_all m acts).upgraded ≡ false → m.upgraded ≡ false
http_before m [] none = none
http_before m (act ∷ acts) none = (or_parts (is_upgrade m.c (Out act)) m.upgraded (http_before (noted m (Out act)) acts none)).1

act_untalked : (m : Flags) (act : Act) → m.upgraded ≡ false → is_allowed m act ≡ true → is_of_talk m.c (Out act) ≡ false
act_untalked m (Says d texts) http a =
    let live = and_parts (is_live m && m.upgraded) (is_filled texts) (and_parts (is_live m && m.upgraded && is_filled texts) (is_timely m (Says d texts)) a).0 in
    absurd (false≢true (sym http ∙ (and_parts (is_live m) m.upgraded live.0).1))
act_untalked m (CloseWs d code) http a =
    let live = (and_parts (is_live m && m.upgraded) (is_timely m (CloseWs d code)) a).0 in
    absurd (false≢true (sym http ∙ (and_parts (is_live m) m.upgraded live).1))
act_untalked m _ http a = refl

acts_untalked : (m : Flags) (acts : List Act) → are_given m acts ≡ true → (given_all m acts).upgraded ≡ false → list_any (is_of_talk m.c) (map Out acts) ≡ false
acts_untalked m [] form none = refl
acts_untalked m (act ∷ acts) form none =
    let p = and_parts (is_allowed m act) (are_given (noted m (Out act)) acts) form in
    or_from (is_of_talk m.c (Out act)) (list_any (is_of_talk m.c) (map Out acts))
    (act_untalked m act (http_before m (act ∷ acts) none) p.0) (acts_untalked (noted m (Out act)) acts p.1 none)

-- ---- a step

-- the questions to the client, as its flags know them
pub asked_in_turn : (m : Flags) (L : List Item) → KnowsFlags m L → AskedInTurn m.c L
asked_in_turn m L k = go m.asked k.asked
  where
    go : (b : Bool) → count_by (is_want_client m.c) L ≡ count_by (is_client_answer m.c) L + one_if b → AskedInTurn m.c L
    go true is = record { answered = omega (arith, is); once = omega (arith, is) }
    go false is = record { answered = omega (arith, is); once = omega (arith, is) }

-- all items as those of one exchange, of which nothing more is said
abbrev closed_exchange : List Item → Exchange
closed_exchange L = record { number = 0; before = []; rest = []; closed = true; items = L }

pub untalked_stays : UntalkedStays
untalked_stays site m L ev acts knows fits form none untalked =
    list_any-append (is_of_talk m.c) L (In ev ∷ map Out acts)
    ∙ or_from (list_any (is_of_talk m.c) L) (is_of_talk m.c (In ev) || list_any (is_of_talk m.c) (map Out acts)) untalked
    (or_from (is_of_talk m.c (In ev)) (list_any (is_of_talk m.c) (map Out acts)) heard (acts_untalked (noted m (In ev)) acts form none))
  where
    http : upgraded L m.c ≡ false
    http = sym knows.upgraded ∙ (or_parts (is_upgrade m.c (In ev)) m.upgraded (http_before (noted m (In ev)) acts none)).1

    speaks : SpeaksHttp site m.c (closed_exchange L)
    speaks = record { http = http; untalked = untalked; once = asked_in_turn m L knows; unasked = λ asked open_then. absurd (false≢true (sym open_then)) }

    later : list_any (is_of_talk m.c) (L ++ In ev ∷ []) ≡ false
    later = (events_keep_http site m.c (closed_exchange L) ev fits speaks).untalked

    heard : is_of_talk m.c (In ev) ≡ false
    heard = (or_parts (is_of_talk m.c (In ev)) false (or_parts (list_any (is_of_talk m.c) L) (is_of_talk m.c (In ev) || false) (sym (list_any-append (is_of_talk m.c) L (In ev ∷ [])) ∙ later)).1).0
