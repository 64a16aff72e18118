-- What is due for the child is given.
use Rattle.std.proofs.Common.{◌≡◌, ◌≤◌, ℕ, Bool, true, false, List, [], ◌∷◌, ◌++◌, map, Some, refl, sym, ap, ◌∙◌, append-nil, append_assoc}
use Rattle.host_base.specs.declared.site.Site.{Site}
use Rattle.host_trace.specs.declared.items.Act.{Act}
use Rattle.host_trace.specs.declared.items.Act.TheVariants.{EndInput, Feed, Kill, Release, WantChild}
use Rattle.host_trace.specs.declared.items.Item.{Item}
use Rattle.host_trace.specs.declared.items.Item.TheVariants.{Out}
use Rattle.host_trace.specs.Kinds.{bytes_heard, bytes_written, child_started}
use Rattle.host_trace.specs.Told.{when}
use Rattle.own_traces.specs.Whose.{next_after}
use Rattle.own_traces.proofs.BlockLaws.{next_after-append}
use Rattle.child_core.specs.Due.{Path, acting, feed_given, given, input_given, is_ask_due, is_feed_due, is_input_due, is_kill_due, is_release_due, kill_given, piece_of, release_given}
use Rattle.child_core.specs.View.{View}
use Rattle.trace_model.specs.Answers.{begins_in_turn}
use Rattle.trace_model.specs.Exchange.{Exchange, pushed, request_bytes}
use Rattle.trace_model.specs.Exchanges.{ends_by}
use Rattle.trace_model.specs.Legs.{Leg as Started}
use Rattle.trace_model.specs.Launches.{is_right_start}
use Rattle.trace_model.specs.Talks.{is_right_talk_act}
use Rattle.exchange_laws.specs.Items.{AreQuiet, with_acts as stage_acts}
use Rattle.exchange_laws.specs.Unanswered.{is_awaited}
use Rattle.exchange_laws.proofs.UnansweredLaws.{awaited-quiet}
use Rattle.child_laws.specs.Children.{KnowsChildren}
use Rattle.child_laws.specs.Laws.{with_acts}
use Rattle.child_laws.proofs.KnowLaws.{run_acts_known}
use Rattle.conn_laws.specs.Moves.{AreInStep, acts_of, moved}
use Rattle.http_conn.specs.HttpConn.{HttpConn}
use Rattle.http_conn.specs.Kept.{number_of, site_of}
use Rattle.http_conn.specs.Parts.{gives_all}
use Rattle.http_stage_laws.specs.HeardStages.{HasHeard, StartsComeFirst}
use Rattle.http_stage_laws.proofs.StartWords.{first_quiet, quiet_start}
use Rattle.http_step_laws.proofs.BodyWords.{heard_push}
use Rattle.http_step_laws.proofs.PushWords.{bytes_quiet}

-- ---- acts of the child alone

-- they start no script, write nothing, and bring no bytes of the client
pub record IsChilds (act : Act) : Type 0 where
  pub unwritten : (c : ℕ) → bytes_written c (Out act) ≡ []
  pub starts_none : (c : ℕ) → child_started c (Out act) ≡ []
  pub unheard : (c : ℕ) → bytes_heard c (Out act) ≡ []
  pub right : (site : Site) (c : ℕ) (e : Exchange) → is_right_start site c e act ≡ true
  pub in_turn : (site : Site) (c : ℕ) (e : Exchange) → begins_in_turn site c e act ≡ true
  pub upgrade : (site : Site) (c : ℕ) (e : Exchange) → is_right_talk_act site c e act ≡ true
  pub next : (n : ℕ) → next_after n (act ∷ []) ≡ n

abbrev pub AreChilds : List Act → Type 0
AreChilds [] = Unit {0}
AreChilds (act ∷ acts) = IsChilds act × AreChilds acts

childs_append : (xs ys : List Act) → AreChilds xs → AreChilds ys → AreChilds (xs ++ ys)
childs_append [] ys a b = b
childs_append (x ∷ xs) ys a b = (a.0, childs_append xs ys a.1 b)

childs_when : (test : Bool) (act : Act) → IsChilds act → AreChilds (when test act)
childs_when true act is = (is, tt)
childs_when false act is = tt

feed_childs : (k : ℕ) (bytes : List ℕ) → IsChilds (Feed k bytes)
feed_childs k bytes = record { unwritten = λ c. refl; starts_none = λ c. refl; unheard = λ c. refl; right = λ site c e. refl; in_turn = λ site c e. refl; upgrade = λ site c e. refl; next = λ n. refl }

input_childs : (k : ℕ) → IsChilds (EndInput k)
input_childs k = record { unwritten = λ c. refl; starts_none = λ c. refl; unheard = λ c. refl; right = λ site c e. refl; in_turn = λ site c e. refl; upgrade = λ site c e. refl; next = λ n. refl }

kill_childs : (k : ℕ) → IsChilds (Kill k)
kill_childs k = record { unwritten = λ c. refl; starts_none = λ c. refl; unheard = λ c. refl; right = λ site c e. refl; in_turn = λ site c e. refl; upgrade = λ site c e. refl; next = λ n. refl }

release_childs : (k : ℕ) → IsChilds (Release k)
release_childs k = record { unwritten = λ c. refl; starts_none = λ c. refl; unheard = λ c. refl; right = λ site c e. refl; in_turn = λ site c e. refl; upgrade = λ site c e. refl; next = λ n. refl }

want_childs : (k : ℕ) → IsChilds (WantChild k)
want_childs k = record { unwritten = λ c. refl; starts_none = λ c. refl; unheard = λ c. refl; right = λ site c e. refl; in_turn = λ site c e. refl; upgrade = λ site c e. refl; next = λ n. refl }

pub childs_acting : (may : Bool) (v : View) → AreChilds (acting may v)
unfolding acting
childs_acting may v =
    let v1 = feed_given v in
    let v2 = input_given v1 in
    let v3 = kill_given v2 in
    let v4 = release_given v3 in
    let w1 = when (is_feed_due v) (Feed v.number (piece_of v)) in
    let w2 = when (is_input_due v1) (EndInput v.number) in
    let w3 = when (is_kill_due v2) (Kill v.number) in
    let w4 = when (is_release_due v3) (Release v.number) in
    let w5 = when (is_ask_due may v4) (WantChild v.number) in
    let e1 : AreChilds w1 = childs_when (is_feed_due v) (Feed v.number (piece_of v)) (feed_childs v.number (piece_of v)) in
    let e2 : AreChilds w2 = childs_when (is_input_due v1) (EndInput v.number) (input_childs v.number) in
    let e3 : AreChilds w3 = childs_when (is_kill_due v2) (Kill v.number) (kill_childs v.number) in
    let e4 : AreChilds w4 = childs_when (is_release_due v3) (Release v.number) (release_childs v.number) in
    let e5 : AreChilds w5 = childs_when (is_ask_due may v4) (WantChild v.number) (want_childs v.number) in
    childs_append (((w1 ++ w2) ++ w3) ++ w4) w5 (childs_append ((w1 ++ w2) ++ w3) w4 (childs_append (w1 ++ w2) w3 (childs_append w1 w2 e1 e2) e3) e4) e5

-- ---- what they are as moves

pub acts_of-gives : (acts : List Act) → acts_of (gives_all acts) ≡ acts
acts_of-gives [] = refl
acts_of-gives (act ∷ acts) = ap (λ (l : List Act). act ∷ l) (acts_of-gives acts)

pub moved-gives : (site : Site) (c : ℕ) (e : Exchange) (acts : List Act) → moved site c e (gives_all acts) ≡ with_acts e acts
moved-gives site c e [] = ap (λ (l : List Item). record e { items = l }) (sym (append-nil e.items))
moved-gives site c e (act ∷ acts) =
    moved-gives site c (pushed e (Out act)) acts ∙ ap (λ (l : List Item). record e { items = l }) (append_assoc e.items (Out act ∷ []) (map Out acts))

pub next-childs : (n : ℕ) (acts : List Act) → AreChilds acts → next_after n acts ≡ n
next-childs n [] a = refl
next-childs n (act ∷ acts) a = next_after-append n (act ∷ []) acts ∙ (ap (λ (k : ℕ). next_after k acts) (a.0.next n) ∙ next-childs n acts a.1)

-- ---- what they leave as it was

pub heard_gives : (conn : HttpConn) (e : Exchange) (acts : List Act) → AreChilds acts → HasHeard conn e → HasHeard conn (moved (site_of conn) (number_of conn) e (gives_all acts))
heard_gives conn e [] a h = h
heard_gives conn e (act ∷ acts) a h = heard_gives conn (pushed e (Out act)) acts a.1 (heard_push conn e (Out act) (a.0.unheard (number_of conn)) h)

pub starts_gives : (site : Site) (c : ℕ) (e : Exchange) (acts : List Act) → AreChilds acts → StartsComeFirst e → StartsComeFirst (moved site c e (gives_all acts))
starts_gives site c e [] a first = first
starts_gives site c e (act ∷ acts) a first = starts_gives site c (pushed e (Out act)) acts a.1 (first_quiet e (Out act) (λ k. quiet_start k act a.0.starts_none) first)

pub bytes_gives : (site : Site) (c : ℕ) (e : Exchange) (acts : List Act) → AreChilds acts → request_bytes c (moved site c e (gives_all acts)) ≡ request_bytes c e
bytes_gives site c e [] a = refl
bytes_gives site c e (act ∷ acts) a = bytes_gives site c (pushed e (Out act)) acts a.1 ∙ bytes_quiet c e (Out act) (a.0.unheard c)

pub awaited_gives : (site : Site) (c : ℕ) (e : Exchange) (acts : List Act) → AreChilds acts → is_awaited site c (moved site c e (gives_all acts)) ≡ is_awaited site c e
awaited_gives site c e [] a = refl
awaited_gives site c e (act ∷ acts) a = awaited_gives site c (pushed e (Out act)) acts a.1 ∙ awaited-quiet site c e (Out act) (a.0.unheard c)

pub quiet_gives : (c : ℕ) (acts : List Act) → AreChilds acts → AreQuiet c acts
quiet_gives c [] a = tt
quiet_gives c (act ∷ acts) a = (a.0.unwritten c, a.0.starts_none c, quiet_gives c acts a.1)

pub stage_gives : (site : Site) (c : ℕ) (e : Exchange) (acts : List Act) → stage_acts e acts ≡ moved site c e (gives_all acts)
stage_gives site c e [] = refl
stage_gives site c e (act ∷ acts) = stage_gives site c (pushed e (Out act)) acts

-- each of them is given before the exchange has ended, since the child is unsettled
pub path_in_step : (site : Site) (c : ℕ) (early may : Bool) (n : ℕ) (legs : List Started) → 2 ≤ site.limits.head → (acts : List Act) (e : Exchange) (held : View) → Path may held acts
    → KnowsChildren site c e early n legs (Some held) → AreInStep site c e (gives_all acts)
path_in_step site c early may n legs two [] e held path k = tt
path_in_step site c early may n legs two (act ∷ acts) e held path k =
    let one = run_acts_known site c e early may n legs held act two path.0 k in
    (ap (λ (b : Bool). ends_by site c e b) one.1, path_in_step site c early may n legs two acts (pushed e (Out act)) (given held act) path.1 one.0)
