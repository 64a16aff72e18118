-- Flags that note an item know the list with that item.
use Rattle.std.proofs.Common.{◌≡◌, ◌≤◌, ◌<◌, ℕ, zero, suc, ◌+◌, ◌-◌, Bool, true, false, ◌||◌, ◌&&◌, List, [], ◌∷◌, ◌++◌, length, refl, sym, ◌∙◌, ap, subst, append-nil, append_assoc, map, length-append, arith, inl, inr}
use Rattle.std.specs.Prelude.{if◌then◌else◌, ◌==◌, not, nat_lt, nat_le, count_by, sum_by}
use Rattle.std.specs.List.{list_any, flat_map}
use Rattle.std.proofs.lemmas.Bool.{false≢true, ltb-true, ltb-false, leb-true, le-leb, lt-ltb, eqb-true, and_parts, and_from, not-true}
use Rattle.std.proofs.lemmas.List.Sums.{sum_by-append}
use Rattle.host_trace.specs.declared.items.Act.{Act}
use Rattle.host_trace.specs.declared.items.Event.{Event}
use Rattle.host_trace.specs.declared.items.Event.TheVariants.{Accepted, ClientBytes, ClientEof, ClientGone, Wrote, Started, StartFailed, StartFull, ChildBytes, ChildEof, ChildBroken, Took, InputGone, Exited, WsText, WsBinary, WsClosed, WsBad, NoRoom, Tick, Stop}
use Rattle.host_trace.specs.declared.items.Act.TheVariants.{WantClient, Write, Shut, Start, Feed, EndInput, WantChild, Kill, Release, Upgrade, Says, CloseWs}
use Rattle.host_trace.specs.declared.items.Item.{Item}
use Rattle.host_trace.specs.declared.items.Item.TheVariants.{In, Out}
use Rattle.host_trace.specs.First.{since}
use Rattle.own_traces.specs.OwnFits.{fits_own}
use Rattle.host_trace.specs.Kinds.{is_accepted, is_stop, is_shut, is_no_room, is_want_client, is_client_answer, is_client_eof, is_upgrade, bytes_written, texts_said, count_wrote}
use Rattle.host_trace.specs.Projections.{client_out, said_len, said, wrote_sum, stopped, shut, upgraded, client_wanted, sent_of_phase, left_of_phase, pending, is_pending_high}
use Rattle.host_trace.proofs.FirstLaws.{list_any-push, count_by-push, since-push}
use Rattle.host_trace.proofs.ProjectionLaws.{client_out-push, said-push, wrote_sum-push, shut-push, upgraded-push}
use Rattle.conn_flags.specs.View.{View, fresh, noted, count_sent, pending_after, more_by, less_by, is_live, may_write, has_room}
use Rattle.conn_flags.specs.Knows.{KnowsFlags, Admits, one_if, is_gone_by}
use Rattle.conn_flags.specs.Form.{may_give, is_timely, is_allowed, may_start, given_all, are_given}
use Rattle.conn_flags.specs.Laws.{AreExact, concerns}

-- ---- words

or_swap : (a b : Bool) → (a || b) ≡ (b || a)
or_swap true true = refl
or_swap true false = refl
or_swap false true = refl
or_swap false false = refl

any_next : (test : Item → Bool) (L : List Item) (x : Item) (b : Bool) → b ≡ list_any test L → (test x || b) ≡ list_any test (L ++ x ∷ [])
any_next test L x b e = or_swap (test x) b ∙ ap (λ a. a || test x) e ∙ sym (list_any-push test L x)

asked_next : (wants answers old : Bool) (a b : ℕ) → (wants ≡ true → old ≡ false) → (answers ≡ true → old ≡ true) → b ≡ a + one_if old
    → b + one_if wants ≡ (a + one_if answers) + one_if (wants || not answers && old)
asked_next true answers true a b w h e = absurd (false≢true (sym (w refl)))
asked_next true true false a b w h e = absurd (false≢true (h refl))
asked_next true false false a b w h e = omega (arith, e)
asked_next false true true a b w h e = omega (arith, e)
asked_next false true false a b w h e = absurd (false≢true (h refl))
asked_next false false true a b w h e = omega (arith, e)
asked_next false false false a b w h e = omega (arith, e)

more_by-is : (m n : ℕ) → more_by m n ≡ n + m
more_by-is zero n = omega arith
more_by-is (suc m) n = refl

less_by-is : (m n : ℕ) → less_by m n ≡ n - m
less_by-is zero n = omega arith
less_by-is (suc m) n = refl

since_none : (test : Item → Bool) (L : List Item) → list_any test L ≡ false → since test L ≡ []
since_none test [] e = refl
since_none test (x ∷ L) e = go (test x) e (since_none test L)
  where
    go : (b : Bool) → (b || list_any test L) ≡ false → (list_any test L ≡ false → since test L ≡ []) → (if b then L else since test L) ≡ []
    go true h later = absurd (false≢true (sym h))
    go false h later = later h

-- ---- bytes on their way

-- one item more, where what was sent and what left count anew by so much
grown : (sent left pending more less : ℕ) → sent ≡ left + pending → less ≤ pending → sent + more ≡ (left + less) + less_by less (more_by more pending)
grown sent left pending more less e le =
    rw (less_by-is less (more_by more pending), more_by-is more pending) (omega (arith, e, le))

module _ (c : ℕ) (L : List Item) (x : Item) (pending : ℕ) where
  -- .. before an upgrade
  before : is_upgrade c x ≡ false → upgraded L c ≡ false → sent_of_phase L c ≡ left_of_phase L c + pending → count_wrote c x ≤ pending
      → sent_of_phase (L ++ x ∷ []) c ≡ left_of_phase (L ++ x ∷ []) c + less_by (count_wrote c x) (more_by (length (bytes_written c x)) pending)
  before up old e le =
      let none : upgraded (L ++ x ∷ []) c ≡ false = upgraded-push L x c ∙ rw (up, old) refl in
      let was : length (client_out L c) ≡ wrote_sum L c + pending = rw old at e in
      let now : length (client_out L c) + length (bytes_written c x) ≡ (wrote_sum L c + count_wrote c x) + less_by (count_wrote c x) (more_by (length (bytes_written c x)) pending)
      = grown (length (client_out L c)) (wrote_sum L c) pending (length (bytes_written c x)) (count_wrote c x) was le in
      rw (none, client_out-push L x c, wrote_sum-push L x c, length-append (client_out L c) (bytes_written c x)) now

  -- .. after it
  after : upgraded L c ≡ true → sent_of_phase L c ≡ left_of_phase L c + pending → count_wrote c x ≤ pending
      → sent_of_phase (L ++ x ∷ []) c ≡ left_of_phase (L ++ x ∷ []) c + less_by (count_wrote c x) (more_by (sum_by length (texts_said c x)) pending)
  after old e le =
      let some : upgraded (L ++ x ∷ []) c ≡ true = upgraded-push L x c ∙ rw old refl in
      let was : said_len (since (is_upgrade c) L) c ≡ wrote_sum (since (is_upgrade c) L) c + pending = rw old at e in
      let more : since (is_upgrade c) (L ++ x ∷ []) ≡ since (is_upgrade c) L ++ x ∷ [] = since-push (is_upgrade c) L x ∙ rw old refl in
      let len : said_len (since (is_upgrade c) L ++ x ∷ []) c ≡ said_len (since (is_upgrade c) L) c + sum_by length (texts_said c x)
      = ap (λ l. sum_by length l) (said-push (since (is_upgrade c) L) x c) ∙ sum_by-append length (said (since (is_upgrade c) L) c) (texts_said c x) in
      let now = grown (said_len (since (is_upgrade c) L) c) (wrote_sum (since (is_upgrade c) L) c) pending (sum_by length (texts_said c x)) (count_wrote c x) was le in
      rw (some, more, len, wrote_sum-push (since (is_upgrade c) L) x c) now

  -- the upgrade itself
  at_upgrade : is_upgrade c x ≡ true → upgraded L c ≡ false → sent_of_phase (L ++ x ∷ []) c ≡ left_of_phase (L ++ x ∷ []) c + 0
  at_upgrade up old =
      let some : upgraded (L ++ x ∷ []) c ≡ true = upgraded-push L x c ∙ rw (up, old) refl in
      let none : since (is_upgrade c) (L ++ x ∷ []) ≡ [] =
      since-push (is_upgrade c) L x ∙ rw (old, since_none (is_upgrade c) L old) refl in
      rw (some, none) refl

  sent_by : (up old : Bool) → is_upgrade c x ≡ up → upgraded L c ≡ old → sent_of_phase L c ≡ left_of_phase L c + pending → count_wrote c x ≤ pending
      → sent_of_phase (L ++ x ∷ []) c ≡ left_of_phase (L ++ x ∷ []) c + (if up && not old then 0 else less_by (count_wrote c x) (more_by (count_sent old c x) pending))
  sent_by true true u o e le = after o e le
  sent_by true false u o e le = at_upgrade u o
  sent_by false true u o e le = after o e le
  sent_by false false u o e le = before u o e le

or_none : (a b : Bool) → (a || b) ≡ false → b ≡ false
or_none true b e = absurd (false≢true (sym e))
or_none false b e = e

sent_next : (m : View) (L : List Item) (x : Item) → KnowsFlags m L → Admits m x → (is_shut m.c x || m.shut) ≡ false
    → sent_of_phase (L ++ x ∷ []) m.c ≡ left_of_phase (L ++ x ∷ []) m.c + pending_after m x
sent_next m L x k a open_yet =
    let u : m.shut ≡ false = or_none (is_shut m.c x) m.shut open_yet in
    sent_by m.c L x m.pending (is_upgrade m.c x) m.upgraded refl (sym k.upgraded) (k.sent u) (a.leaves u)

-- ---- an item

pub known_next : (m : View) (L : List Item) (x : Item) → KnowsFlags m L → Admits m x → KnowsFlags (noted m x) (L ++ x ∷ [])
known_next m L x k a = record {
  accepted = any_next is_accepted L x m.accepted k.accepted;
  stopped = any_next is_stop L x m.stopped k.stopped;
  gone = any_next (is_gone_by m.c) L x m.gone k.gone;
  shut = any_next (is_shut m.c) L x m.shut k.shut;
  no_room = any_next (is_no_room m.c) L x m.no_room k.no_room;
  asked = count_by-push (is_want_client m.c) L x
      ∙ asked_next (is_want_client m.c x) (is_client_answer m.c x) m.asked (count_by (is_client_answer m.c) L) (count_by (is_want_client m.c) L) a.asks a.answers k.asked
      ∙ ap (λ n. n + one_if (is_want_client m.c x || not (is_client_answer m.c x) && m.asked)) (sym (count_by-push (is_client_answer m.c) L x));
  ended = any_next (is_client_eof m.c) L x m.ended k.ended;
  upgraded = any_next (is_upgrade m.c) L x m.upgraded k.upgraded;
  sent = λ u. sent_next m L x k a u;
}

pub known_first : (c : ℕ) → KnowsFlags (fresh c) []
known_first c = record {
  accepted = refl;
  stopped = refl;
  gone = refl;
  shut = refl;
  no_room = refl;
  asked = refl;
  ended = refl;
  upgraded = refl;
  sent = λ u. refl;
}

-- ---- an event that fits

and_last : (a b d : Bool) → (a && b && d) ≡ true → d ≡ true
and_last true true d e = e
and_last true false d e = absurd (false≢true e)
and_last false b d e = absurd (false≢true e)

-- a test followed by so many that fail
alone_1 : (a : Bool) → (a || false) ≡ true → a ≡ true
alone_1 true e = refl
alone_1 false e = e

alone_2 : (a : Bool) → (a || false || false) ≡ true → a ≡ true
alone_2 true e = refl
alone_2 false e = e

alone_3 : (a : Bool) → (a || false || false || false) ≡ true → a ≡ true
alone_3 true e = refl
alone_3 false e = e

alone_4 : (a : Bool) → (a || false || false || false || false) ≡ true → a ≡ true
alone_4 true e = refl
alone_4 false e = e

alone_5 : (a : Bool) → (a || false || false || false || false || false) ≡ true → a ≡ true
alone_5 true e = refl
alone_5 false e = e

was_asked : (old : Bool) (a b : ℕ) → b ≡ a + one_if old → nat_lt a b ≡ true → old ≡ true
was_asked true a b e lt = refl
was_asked false a b e lt = let less : a < b = ltb-true a b lt in absurd (omega (arith, e, less))

module _ (m : View) (L : List Item) (k : KnowsFlags m L) where
  asked_of : (d : ℕ) → client_wanted L d ≡ true → (m.c == d) ≡ true → m.asked ≡ true
  asked_of d wanted is =
      let c_is : m.c ≡ d = eqb-true m.c d is in
      was_asked m.asked (count_by (is_client_answer m.c) L) (count_by (is_want_client m.c) L) k.asked (rw (sym c_is) at wanted)

  answers_of : (ev : Event) (d : ℕ) → (is_client_answer m.c (In ev) ≡ true → (m.c == d) ≡ true) → count_wrote m.c (In ev) ≡ 0 → client_wanted L d ≡ true → Admits m (In ev)
  answers_of ev d is none wanted = record {
    asks = λ e. absurd (false≢true e);
    answers = λ e. asked_of d wanted (is e);
    leaves = λ u. rw none (omega arith);
  }

  plain : (ev : Event) → is_client_answer m.c (In ev) ≡ false → count_wrote m.c (In ev) ≡ 0 → Admits m (In ev)
  plain ev quiet none = record {
    asks = λ e. absurd (false≢true e);
    answers = λ e. absurd (false≢true (sym quiet ∙ e));
    leaves = λ u. rw none (omega arith);
  }

  leaves_of : (d n : ℕ) → nat_le (left_of_phase L d + n) (sent_of_phase L d) ≡ true → m.shut ≡ false → (if m.c == d then n else 0) ≤ m.pending
  leaves_of d n fit u = go (m.c == d) refl
    where
      go : (b : Bool) → (m.c == d) ≡ b → (if b then n else 0) ≤ m.pending
      go true is =
          let c_is : m.c ≡ d = eqb-true m.c d is in
          let most : left_of_phase L d + n ≤ sent_of_phase L d = leb-true (left_of_phase L d + n) (sent_of_phase L d) fit in
          let more : left_of_phase L m.c + n ≤ sent_of_phase L m.c = rw (sym c_is) at most in
          let sent : sent_of_phase L m.c ≡ left_of_phase L m.c + m.pending = k.sent u in
          omega (arith, more, sent)
      go false is = omega arith

  admits_event : (limit : ℕ) (ev : Event) → fits_own limit L ev ≡ true → Admits m (In ev)
  admits_event limit (Accepted peer) f = plain (Accepted peer) refl refl
  admits_event limit (ClientBytes d bytes) f =
      answers_of (ClientBytes d bytes) d (alone_5 (m.c == d)) refl (and_last (not (shut L d)) (not (upgraded L d)) (client_wanted L d) ((and_parts (not (shut L d) && not (upgraded L d) && client_wanted L d) _ f).0))
  admits_event limit (ClientEof d) f = answers_of (ClientEof d) d (alone_4 (m.c == d)) refl (and_last (not (shut L d)) (not (upgraded L d)) (client_wanted L d) f)
  admits_event limit (ClientGone d) f = plain (ClientGone d) refl refl
  admits_event limit (Wrote d n) f = record {
    asks = λ e. absurd (false≢true e);
    answers = λ e. absurd (false≢true e);
    leaves = leaves_of d n (and_last (not (shut L d)) (nat_le 1 n) (nat_le (left_of_phase L d + n) (sent_of_phase L d)) f);
  }
  admits_event limit (Started j) f = plain (Started j) refl refl
  admits_event limit (StartFailed j) f = plain (StartFailed j) refl refl
  admits_event limit (StartFull j seen) f = plain (StartFull j seen) refl refl
  admits_event limit (ChildBytes j bytes) f = plain (ChildBytes j bytes) refl refl
  admits_event limit (ChildEof j) f = plain (ChildEof j) refl refl
  admits_event limit (ChildBroken j) f = plain (ChildBroken j) refl refl
  admits_event limit (Took j n) f = plain (Took j n) refl refl
  admits_event limit (InputGone j) f = plain (InputGone j) refl refl
  admits_event limit (Exited j) f = plain (Exited j) refl refl
  admits_event limit (WsText d bytes) f = answers_of (WsText d bytes) d (alone_3 (m.c == d)) refl (and_last (not (shut L d)) (upgraded L d) (client_wanted L d) f)
  admits_event limit (WsBinary d) f = answers_of (WsBinary d) d (alone_2 (m.c == d)) refl (and_last (not (shut L d)) (upgraded L d) (client_wanted L d) f)
  admits_event limit (WsClosed d) f = answers_of (WsClosed d) d (alone_1 (m.c == d)) refl (and_last (not (shut L d)) (upgraded L d) (client_wanted L d) f)
  admits_event limit (WsBad d) f = answers_of (WsBad d) d (λ e. e) refl (and_last (not (shut L d)) (upgraded L d) (client_wanted L d) f)
  admits_event limit (NoRoom d) f = plain (NoRoom d) refl refl
  admits_event limit (Tick secs) f = plain (Tick secs) refl refl
  admits_event limit Stop f = plain Stop refl refl

pub events_admitted : (limit : ℕ) (m : View) (L : List Item) (ev : Event) → KnowsFlags m L → fits_own limit L ev ≡ true → Admits m (In ev)
events_admitted limit m L ev k f = admits_event m L k limit ev f

-- ---- what the flags tell

wanted_is : (old : Bool) (a b : ℕ) → b ≡ a + one_if old → old ≡ nat_lt a b
wanted_is true a b e = sym (lt-ltb a b (omega (arith, e)))
wanted_is false a b e = sym (ltb-false-from a b (omega (arith, e)))
  where
    ltb-false-from : (a b : ℕ) → b ≤ a → nat_lt a b ≡ false
    ltb-false-from a b le = go (nat_lt a b) refl
      where
        go : (t : Bool) → nat_lt a b ≡ t → t ≡ false
        go true is = let less : a < b = ltb-true a b is in absurd (omega (arith, le, less))
        go false is = refl

lt_le : (n most : ℕ) → nat_le n most ≡ not (nat_lt most n)
lt_le n most = go (nat_lt most n) refl
  where
    go : (t : Bool) → nat_lt most n ≡ t → nat_le n most ≡ not t
    go true is =
        let less : most < n = ltb-true most n is in
        stays (nat_le n most) refl less
      where
        stays : (s : Bool) → nat_le n most ≡ s → most < n → s ≡ false
        stays true le less = let l : n ≤ most = leb-true n most le in absurd (omega (arith, l, less))
        stays false le less = refl
    go false is = let le : n ≤ most = ltb-false most n is in le-leb n most le

room_is : (shut : Bool) (sent left pending : ℕ) → (shut ≡ false → sent ≡ left + pending)
    → (shut || nat_le pending 262144) ≡ not (nat_lt 262144 (if shut then 0 else sent - left))
room_is true sent left pending e = refl
room_is false sent left pending e =
    let s : sent ≡ left + pending = e refl in
    let p : sent - left ≡ pending = omega (arith, s) in
    lt_le pending 262144 ∙ ap (λ n. not (nat_lt 262144 n)) (sym p)

pub flags_told : (m : View) (L : List Item) → KnowsFlags m L → AreExact m L
flags_told m L k = record {
  live = rw (k.accepted, k.shut) refl;
  write = rw (k.accepted, k.shut, k.upgraded) refl;
  asked = wanted_is m.asked (count_by (is_client_answer m.c) L) (count_by (is_want_client m.c) L) k.asked;
  room = room_is m.shut (sent_of_phase L m.c) (left_of_phase L m.c) m.pending k.sent
      ∙ ap (λ b. not (nat_lt 262144 (if b then 0 else sent_of_phase L m.c - left_of_phase L m.c))) k.shut;
}

-- ---- acts

pub act_admitted : (m : View) (act : Act) → may_give m act ≡ true → Admits m (Out act)
act_admitted m (WantClient d) f = record {
  asks = λ e. not-true m.asked (and_parts (is_live m) (not m.asked) f).1;
  answers = λ e. absurd (false≢true e);
  leaves = λ u. omega arith;
}
act_admitted m (Write d bytes) f = record { asks = λ e. absurd (false≢true e); answers = λ e. absurd (false≢true e); leaves = λ u. omega arith }
act_admitted m _ f = record { asks = λ e. absurd (false≢true e); answers = λ e. absurd (false≢true e); leaves = λ u. omega arith }

pub known_all : (m : View) (L : List Item) (acts : List Act) → KnowsFlags m L → are_given m acts ≡ true → KnowsFlags (given_all m acts) (L ++ map Out acts)
known_all m L [] k f = rw (append-nil L) k
known_all m L (act ∷ acts) k f =
    let parts = and_parts (is_allowed m act) (are_given (noted m (Out act)) acts) f in
    let may : may_give m act ≡ true = (and_parts (may_give m act) (is_timely m act) parts.0).0 in
    let one : KnowsFlags (noted m (Out act)) (L ++ Out act ∷ []) = known_next m L (Out act) k (act_admitted m act may) in
    subst (λ l. KnowsFlags (given_all (noted m (Out act)) acts) l) (append_assoc L (Out act ∷ []) (map Out acts))
    (known_all (noted m (Out act)) (L ++ Out act ∷ []) acts one parts.1)

pub given_all-append : (m : View) (xs ys : List Act) → given_all m (xs ++ ys) ≡ given_all (given_all m xs) ys
given_all-append m [] ys = refl
given_all-append m (x ∷ xs) ys = given_all-append (noted m (Out x)) xs ys

pub are_given-append : (m : View) (xs ys : List Act) → are_given m xs ≡ true → are_given (given_all m xs) ys ≡ true → are_given m (xs ++ ys) ≡ true
are_given-append m [] ys f g = g
are_given-append m (x ∷ xs) ys f g =
    let parts = and_parts (is_allowed m x) (are_given (noted m (Out x)) xs) f in
    and_from (is_allowed m x) (are_given (noted m (Out x)) (xs ++ ys)) parts.0 (are_given-append (noted m (Out x)) xs ys parts.1 g)

pub given_all-number : (m : View) (acts : List Act) → (given_all m acts).c ≡ m.c
given_all-number m [] = refl
given_all-number m (act ∷ acts) = given_all-number (noted m (Out act)) acts

allowed : (live plain room stop : Bool) → (live && plain && room && stop) ≡ true → (live && (room && stop)) ≡ true
allowed true true true true e = refl
allowed true true true false e = e
allowed true true false stop e = e
allowed true false room stop e = absurd (false≢true e)
allowed false plain room stop e = absurd (false≢true e)

pub start_allowed : (m : View) → may_start m ≡ true → (is_live m && (has_room m && not m.stopped)) ≡ true
start_allowed m e = allowed (is_live m) (not m.upgraded) (has_room m) (not m.stopped) e
