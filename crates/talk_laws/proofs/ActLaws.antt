-- Acts of the talk and of its child, a question, and the Shut.
use Rattle.std.proofs.Common.{◌≡◌, ◌≤◌, ℕ, Bool, true, false, List, [], ◌∷◌, ◌++◌, map, Option, Some, None, refl, sym, ap, subst, ◌∙◌, append-nil, append_assoc}
use Rattle.std.specs.Prelude.{◌||◌, ◌==◌}
use Rattle.std.proofs.lemmas.Bool.{eq-eqb, or_right, true≢false, false≢true}
use Rattle.std.specs.List.{list_any}
use Rattle.host_base.specs.declared.site.Site.{Site}
use Rattle.host_trace.specs.declared.items.Act.{Act}
use Rattle.host_trace.specs.declared.items.Act.TheVariants.{WantClient, Write, Shut, Start, Feed, EndInput, WantChild, Kill, Release, Upgrade, Says, CloseWs}
use Rattle.host_trace.specs.declared.items.Item.{Item}
use Rattle.host_trace.specs.declared.items.Item.TheVariants.{Out}
use Rattle.host_trace.specs.declared.items.Why.{Why}
use Rattle.host_trace.specs.declared.items.Why.TheVariants.{NoMemory}
use Rattle.host_trace.specs.Kinds.{bytes_written, child_started, is_no_memory, is_shut, is_want_client}
use Rattle.host_trace.specs.Projections.{client_wanted, shut}
use Rattle.host_trace.specs.Told.{when}
use Rattle.trace_child.specs.Words.{is_filled}
use Rattle.trace_model.specs.Exchange.{Exchange, all_of, pushed}
use Rattle.trace_model.specs.Legs.{Leg}
use Rattle.child_core.specs.Calls.{ended}
use Rattle.child_core.specs.declared.ending.Ending.TheVariants.{Dropped}
use Rattle.child_core.specs.Due.{Due, Path, acted as run_acted, acting as run_acting, given, is_feed_due}
use Rattle.child_core.specs.View.{View as Run, plain, noted}
use Rattle.child_core.proofs.ActLaws.{acted-rest, and_false}
use Rattle.child_core.proofs.CallLaws.{memory-is}
use Rattle.child_core.proofs.MemoryLaws.{acting-due}
use Rattle.child_core.proofs.TellLaws.{noted-other}
use Rattle.child_laws.specs.Laws.{with_acts}
use Rattle.talk_core.specs.Acting.{acting, closing}
use Rattle.talk_core.specs.Knows.{StandsFor}
use Rattle.talk_core.specs.View.{View as Talk, given_up}
use Rattle.talk_core.proofs.GiveLaws.{acts_are_known}
use Rattle.talk_core.proofs.WalkLaws.{run_acts_are_known, talk_acts_are_known}
use Rattle.talk_laws.specs.Http.{is_parting}
use Rattle.talk_laws.specs.Moves.{AsksMove, ChildActsMove, ShutsMove, TalkActsMove}
use Rattle.talk_laws.specs.TalkIs.{IsSpoken, MayBeAsked, TalkIs}
use Rattle.talk_laws.proofs.HearLaws.{spoken_push}
use Rattle.talk_laws.proofs.RestLaws.{acted_wants, no_feed}
use Rattle.talk_laws.proofs.ListLaws.{any_push, any_still, once_act, once_asked, once_heard, wanted_still}

-- ---- acts that leave the exchange of a WebSocket

-- it is of the talk or of its child
abbrev pub IsSmall : Act → Type 0
IsSmall (Feed k bytes) = Unit {0}
IsSmall (EndInput k) = Unit {0}
IsSmall (WantChild k) = Unit {0}
IsSmall (Kill k) = Unit {0}
IsSmall (Release k) = Unit {0}
IsSmall (Says c texts) = Unit {0}
IsSmall (CloseWs c code) = Unit {0}
IsSmall _ = ⊥

abbrev pub AreSmall : List Act → Type 0
AreSmall [] = Unit {0}
AreSmall (act ∷ acts) = IsSmall act × AreSmall acts

pub record Quiet (c : ℕ) (act : Act) : Type 0 where
  pub unwritten : bytes_written c (Out act) ≡ []
  pub starts : child_started c (Out act) ≡ []
  pub asks_none : is_want_client c (Out act) ≡ false
  pub unshut : is_shut c (Out act) ≡ false

pub small_quiet : (c : ℕ) (act : Act) → IsSmall act → Quiet c act
small_quiet c (Feed k bytes) s = record { unwritten = refl; starts = refl; asks_none = refl; unshut = refl }
small_quiet c (EndInput k) s = record { unwritten = refl; starts = refl; asks_none = refl; unshut = refl }
small_quiet c (WantChild k) s = record { unwritten = refl; starts = refl; asks_none = refl; unshut = refl }
small_quiet c (Kill k) s = record { unwritten = refl; starts = refl; asks_none = refl; unshut = refl }
small_quiet c (Release k) s = record { unwritten = refl; starts = refl; asks_none = refl; unshut = refl }
small_quiet c (Says d texts) s = record { unwritten = refl; starts = refl; asks_none = refl; unshut = refl }
small_quiet c (CloseWs d code) s = record { unwritten = refl; starts = refl; asks_none = refl; unshut = refl }
small_quiet c (WantClient d) s = absurd s
small_quiet c (Write d bytes) s = absurd s
small_quiet c (Shut d why) s = absurd s
small_quiet c (Start k d j hop launch) s = absurd s
small_quiet c (Upgrade d rest) s = absurd s

-- the exchange is spoken still, and the questions and the Shut are as they were
pub record Left (site : Site) (c : ℕ) (old new : Exchange) (legs : List Leg) (continued : Bool) (k : ℕ) : Type 0 where
  pub spoken : IsSpoken site c new legs continued k
  pub wanted : client_wanted (all_of new) c ≡ client_wanted (all_of old) c
  pub shut_then : shut (all_of new) c ≡ shut (all_of old) c
  pub parting : list_any (is_parting c) (all_of new) ≡ list_any (is_parting c) (all_of old)

pub with_none : (e : Exchange) → with_acts e [] ≡ e
with_none e = ap (λ l. record e { items = l }) (append-nil e.items)

pub with_more : (e : Exchange) (act : Act) (acts : List Act) → with_acts (pushed e (Out act)) acts ≡ with_acts e (act ∷ acts)
with_more e act acts = ap (λ l. record e { items = l }) (append_assoc e.items (Out act ∷ []) (map Out acts))

pub small_leave : (site : Site) (c : ℕ) (legs : List Leg) (continued : Bool) (k : ℕ) (acts : List Act) (e : Exchange) → 2 ≤ site.limits.head → AreSmall acts
    → IsSpoken site c e legs continued k → Left site c e (with_acts e acts) legs continued k
small_leave site c legs continued k [] e two small s =
    subst (λ d. Left site c e d legs continued k) (sym (with_none e)) (record { spoken = s; wanted = refl; shut_then = refl; parting = refl })
small_leave site c legs continued k (act ∷ acts) e two small s =
    let q = small_quiet c act small.0 in
    let once = spoken_push site c e legs continued k s (Out act) two refl q.unwritten q.starts refl (once_act c e act q.asks_none s.once) in
    let rest = small_leave site c legs continued k acts (pushed e (Out act)) two small.1 once in
    subst (λ d. Left site c e d legs continued k) (with_more e act acts) (record {
      spoken = rest.spoken;
      wanted = rest.wanted ∙ wanted_still c e (Out act) q.asks_none refl;
      shut_then = rest.shut_then ∙ any_still (is_shut c) e (Out act) q.unshut;
      parting = rest.parting ∙ any_still (is_parting c) e (Out act) refl;
    })

pub left_asks : (site : Site) (c : ℕ) (old new : Exchange) (legs : List Leg) (continued : Bool) (k : ℕ) (v : Run) → Left site c old new legs continued k → MayBeAsked c old v → MayBeAsked c new v
left_asks site c old new legs continued k v l asks live asked may = asks (sym l.shut_then ∙ live) (sym l.wanted ∙ asked) may

-- ---- which acts those are

pub talk_small : (t : Talk) → AreSmall (acting t)
talk_small t = said (is_filled t.texts) t.code
  where
    said : (b : Bool) (code : Option ℕ) → AreSmall (when b (Says t.conn t.texts) ++ closing t.conn code)
    said true None = (tt, tt)
    said true (Some code) = (tt, (tt, tt))
    said false None = tt
    said false (Some code) = (tt, tt)

pub due_small : (may : Bool) (v : Run) (act : Act) → Due may v act → IsSmall act
due_small may v (Feed k bytes) d = tt
due_small may v (EndInput k) d = tt
due_small may v (WantChild k) d = tt
due_small may v (Kill k) d = tt
due_small may v (Release k) d = tt
due_small may v act d = absurd d

pub path_small : (may : Bool) (v : Run) (acts : List Act) → Path may v acts → AreSmall acts
path_small may v [] p = tt
path_small may v (act ∷ acts) p = (due_small may v act p.0, path_small may (given v act) acts p.1)

-- ---- the laws

pub talk_acts_move : TalkActsMove
talk_acts_move site c e legs continued t v two is =
    let left = small_leave site c legs continued v.number (acting t) e two (talk_small t) is.spoken in
    record {
      spoken = left.spoken;
      kind = is.kind;
      stands = talk_acts_are_known false c site.limits t v e.items is.stands;
      parted = λ gone. is.parted (sym left.parting ∙ gone);
      asks = left_asks site c e (with_acts e (acting t)) legs continued v.number v left is.asks;
    }

acted_number : (may : Bool) (v : Run) → (run_acted may v).number ≡ v.number
unfolding run_acted
acted_number may v = refl

acted_kind : (may : Bool) (v : Run) → (run_acted may v).kind ≡ v.kind
unfolding run_acted
acted_kind may v = refl

pub child_acts_move : ChildActsMove
child_acts_move site c e legs continued may t v two is =
    let due = acting-due may v in
    let left = small_leave site c legs continued v.number (run_acting may v) e two (path_small may v (run_acting may v) due.path) is.spoken in
    let then_stands = run_acts_are_known false may c site.limits t v e.items is.stands in
    record {
      spoken = subst (IsSpoken site c (with_acts e (run_acting may v)) legs continued) (sym (acted_number may v)) left.spoken;
      kind = acted_kind may v ∙ is.kind;
      stands = then_stands;
      parted = λ gone. is.parted (sym left.parting ∙ gone);
      asks = λ live asked later.
          acted_wants later (run_acted may v) (no_feed may (run_acted may v) (acted-rest may v))
          (is.asks (sym left.shut_then ∙ live) (sym left.wanted ∙ asked) may);
    }

pub asks_move : AsksMove
asks_move site c e legs continued t v two is free wants fed =
    let x : Item = Out (WantClient c) in
    record {
      spoken = spoken_push site c e legs continued v.number is.spoken x two refl refl refl refl (once_asked c e x refl free is.spoken.once);
      kind = is.kind;
      stands =
          subst (λ w. StandsFor false c site.limits t w (e.items ++ x ∷ [])) (noted-other c v x refl)
          (acts_are_known false true c site.limits t v e.items (WantClient c) is.stands tt);
      parted = λ gone. is.parted (sym (any_still (is_parting c) e x refl) ∙ gone);
      asks = λ live asked may. acted_wants may v fed wants;
    }

module _ (site : Site) (c : ℕ) (e : Exchange) (legs : List Leg) (continued : Bool) (t : Talk) (v : Run) (two : 2 ≤ site.limits.head) (is : TalkIs site c e legs continued t v)
    (over : t.over ≡ true) (texts : t.texts ≡ []) (code : t.code ≡ None) (fed : is_feed_due v ≡ false) (why : Why) where
  shut_now : shut (all_of (pushed e (Out (Shut c why)))) c ≡ true
  shut_now = any_push (is_shut c) e (Out (Shut c why)) ∙ or_right (shut (all_of e) c) (c == c) (eq-eqb c c refl)

  shuts_to : (w : Run) → noted c v plain (Out (Shut c why)) ≡ w → TalkIs site c (pushed e (Out (Shut c why))) legs continued (given_up t) w
  shuts_to w same =
      let x : Item = Out (Shut c why) in
      subst (λ u. TalkIs site c (pushed e x) legs continued (given_up t) u) same (record {
        spoken = spoken_push site c e legs continued v.number is.spoken x two refl refl refl refl (once_heard c e x refl (λ answers. absurd (false≢true answers)) is.spoken.once);
        kind = is.kind;
        stands =
            acts_are_known false true c site.limits t v e.items (Shut c why) is.stands
            (record { conn = sym is.stands.talk.conn; why = ap (λ b. b || is_no_memory why) over; texts = texts; code = code; fed = fed });
        parted = λ gone. refl;
        asks = λ live asked may. absurd (true≢false (sym shut_now ∙ live));
      })

pub shuts_move : ShutsMove
shuts_move site c e legs continued t v two is over texts code fed = record {
  plain = λ why other.
      shuts_to site c e legs continued t v two is over texts code fed why v
      (noted-other c v (Out (Shut c why)) (rw (other, and_false (c == c)) refl));
  memory = shuts_to site c e legs continued t v two is over texts code fed NoMemory (ended v Dropped) (memory-is c v);
}
