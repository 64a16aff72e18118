-- What the flags of a connection say in the words of the rules.
use Rattle.std.proofs.Common.{◌≡◌, ℕ, Bool, true, false, List, [], ◌∷◌, ◌++◌, refl, sym, ap, arith, subst, ◌∙◌, length, ◌+◌}
use Rattle.std.specs.Prelude.{not, ◌-◌, ◌&&◌, ◌||◌, ◌==◌, if◌then◌else◌, nat_le}
use Rattle.std.specs.List.{list_any}
use Rattle.std.proofs.lemmas.Bool.{false≢true, eqb-true, and_parts, and_from}
use Rattle.host_trace.specs.declared.items.Act.{Act}
use Rattle.host_trace.specs.declared.items.Act.TheVariants.{WantClient, Write, Shut, Start, Feed, EndInput, WantChild, Kill, Release, Upgrade, Says, CloseWs}
use Rattle.host_trace.specs.declared.items.Item.{Item}
use Rattle.host_trace.specs.declared.items.Item.TheVariants.{Out}
use Rattle.host_trace.specs.Kinds.{names, names_child, is_accepted}
use Rattle.host_trace.specs.Projections.{left_of_phase, names_one_of, pending, sent_of_phase, shut, upgraded, client_wanted}
use Rattle.own_traces.specs.Whose.{is_of, are_of, with_child, next_child}
use Rattle.trace_child.specs.Words.{is_filled}
use Rattle.trace_model.specs.Demands.{is_live}
use Rattle.trace_model.specs.Form.{has_place as may_hold, may_come}
use Rattle.conn_flags.specs.View.{View, noted, is_live as lives, may_write, has_room as finds_room}
use Rattle.conn_flags.specs.Knows.{KnowsFlags}
use Rattle.conn_flags.specs.Form.{may_give, is_timely, is_allowed, are_given}
use Rattle.conn_flags.specs.Laws.{AreExact}
use Rattle.conn_flags.proofs.KnowsLaws.{act_admitted, known_next, flags_told}
use Rattle.conn_laws.specs.Form.{SaysDemands, all_come, all_in_time, comes_in_time, is_to_connection}

pub flags_say : (m : View) (L : List Item) → KnowsFlags m L → SaysDemands m L
flags_say m L k =
    let exact : AreExact m L = flags_told m L k in
    record {
      live = exact.live;
      room = exact.room;
      ended = k.ended;
      gone = k.gone;
      stopped_then = k.stopped;
      shut_then = k.shut;
      no_room_then = k.no_room;
      asked = exact.asked;
    }

un_not : (b : Bool) → not b ≡ true → b ≡ false
un_not true is = absurd (false≢true is)
un_not false is = refl

less : (a b c : ℕ) → a ≡ b + c → a - b ≡ c
less a b c sum = omega (arith, sum)

-- two tests that say the same where another holds
where_so : (a b d e : Bool) → (a ≡ true → d ≡ e) → (a && b && d) ≡ (a && b && e)
where_so true b d e same = ap (λ x. b && x) (same refl)
where_so false b d e same = refl

module _ (m : View) (L : List Item) (k : KnowsFlags m L) where
  exact : AreExact m L
  exact = flags_told m L k

  at_mine : (d : ℕ) (claim : ℕ → Type 0) → claim m.c → (m.c == d) ≡ true → claim d
  at_mine d claim mine is = subst claim (eqb-true m.c d is) mine

  unshut : may_write m ≡ true → m.shut ≡ false
  unshut may = un_not m.shut (and_parts m.accepted (not m.shut) (and_parts (lives m) (not m.upgraded) may).0).1

  pending_is : m.shut ≡ false → pending L m.c ≡ m.pending
  pending_is going =
      let sum = k.sent going in
      ap (λ b. if b then 0 else sent_of_phase L m.c - left_of_phase L m.c) (sym k.shut ∙ going) ∙ less (sent_of_phase L m.c) (left_of_phase L m.c) m.pending sum

  form_by : (act : Act) → names m.c (Out act) ≡ true → is_to_connection act ≡ true → may_come L act ≡ may_give m act
  form_by (WantClient d) mine to =
      at_mine d (λ c. (is_live c L && not (client_wanted L c)) ≡ may_give m (WantClient c)) (rw (exact.live, exact.asked) refl) mine
  form_by (Write d bytes) mine to =
      at_mine d (λ c. (is_live c L && not (upgraded L c) && is_filled bytes && may_hold c L (length bytes)) ≡ may_give m (Write c bytes))
      (ap (λ b. b && is_filled bytes && may_hold m.c L (length bytes)) (sym exact.write)
      ∙ where_so (may_write m) (is_filled bytes) _ _ (λ may. ap (λ n. nat_le (n + length bytes) 344064) (pending_is (unshut may)))) mine
  form_by (Shut d why) mine to = at_mine d (λ c. is_live c L ≡ may_give m (Shut c why)) (sym exact.live) mine
  form_by (Upgrade d rest) mine to = at_mine d (λ c. (is_live c L && not (upgraded L c)) ≡ may_give m (Upgrade c rest)) (sym exact.write) mine
  form_by (Says d texts) mine to =
      at_mine d (λ c. (is_live c L && upgraded L c && is_filled texts) ≡ may_give m (Says c texts)) (rw (exact.live, k.upgraded) refl) mine
  form_by (CloseWs d code) mine to = at_mine d (λ c. (is_live c L && upgraded L c) ≡ may_give m (CloseWs c code)) (rw (exact.live, k.upgraded) refl) mine
  form_by _ mine to = absurd (false≢true to)

pub form_by_flags : (m : View) (L : List Item) (act : Act) → KnowsFlags m L → names m.c (Out act) ≡ true → is_to_connection act ≡ true → may_come L act ≡ may_give m act
form_by_flags m L act k mine to = form_by m L k act mine to

-- ---- acts of one connection

none_of : (ks : List ℕ) (x : Item) → ((k : ℕ) → names_child k x ≡ false) → names_one_of ks x ≡ false
none_of [] x none = refl
none_of (k ∷ ks) x none = ap (λ b. b || names_one_of ks x) (none k) ∙ none_of ks x none

named : (a b : Bool) → b ≡ false → (a || b) ≡ true → a ≡ true
named true b none e = refl
named false b none e = absurd (false≢true (sym none ∙ e))

own_name : (c n : ℕ) (ks : List ℕ) (act : Act) → is_to_connection act ≡ true → is_of c ks n (Out act) ≡ true → names c (Out act) ≡ true
own_name c n ks (WantClient d) to is = named (c == d) _ (none_of ks (Out (WantClient d)) (λ k. refl)) is
own_name c n ks (Write d bytes) to is = named (c == d) _ (none_of ks (Out (Write d bytes)) (λ k. refl)) is
own_name c n ks (Shut d why) to is = named (c == d) _ (none_of ks (Out (Shut d why)) (λ k. refl)) is
own_name c n ks (Upgrade d rest) to is = named (c == d) _ (none_of ks (Out (Upgrade d rest)) (λ k. refl)) is
own_name c n ks (Says d texts) to is = named (c == d) _ (none_of ks (Out (Says d texts)) (λ k. refl)) is
own_name c n ks (CloseWs d code) to is = named (c == d) _ (none_of ks (Out (CloseWs d code)) (λ k. refl)) is
own_name c n ks _ to is = absurd (false≢true to)

comes_by : (to may come : Bool) → may ≡ true → (to ≡ true → come ≡ may) → (not to || come) ≡ true
comes_by true may come allowed is = is refl ∙ allowed
comes_by false may come allowed is = refl

pub acts_come : (m : View) (L : List Item) (ks : List ℕ) (n : ℕ) (acts : List Act) → KnowsFlags m L → are_of m.c ks n acts ≡ true → are_given m acts ≡ true → all_come L acts ≡ true
acts_come m L ks n [] k are given = refl
acts_come m L ks n (act ∷ acts) k are given =
    let mine = and_parts (is_of m.c ks n (Out act)) (are_of m.c (with_child ks m.c (Out act)) (next_child n (Out act)) acts) are in
    let may = and_parts (is_allowed m act) (are_given (noted m (Out act)) acts) given in
    let form : may_give m act ≡ true = (and_parts (may_give m act) (is_timely m act) may.0).0 in
    let one : KnowsFlags (noted m (Out act)) (L ++ Out act ∷ []) = known_next m L (Out act) k (act_admitted m act form) in
    and_from (not (is_to_connection act) || may_come L act) (all_come (L ++ Out act ∷ []) acts)
    (comes_by (is_to_connection act) (may_give m act) (may_come L act) form (λ to. form_by_flags m L act k (own_name m.c n ks act to mine.0) to))
    (acts_come (noted m (Out act)) (L ++ Out act ∷ []) (with_child ks m.c (Out act)) (next_child n (Out act)) acts one mine.1 may.1)

-- ---- in time

regrouped : (a b d : Bool) → (a && (b && d)) ≡ true → (a && b && d) ≡ true
regrouped true b d e = e
regrouped false b d e = e

in_time : (m : View) (L : List Item) (act : Act) → KnowsFlags m L → is_allowed m act ≡ true → comes_in_time m.c L act ≡ true
in_time m L (WantClient d) k a =
    let s : SaysDemands m L = flags_say m L k in
    let t : (finds_room m && not m.stopped) ≡ true = (and_parts (lives m && not m.asked) (finds_room m && not m.stopped) a).1 in
    rw (s.room, s.stopped_then) at t
in_time m L (Start j d i hop launch) k a =
    let s : SaysDemands m L = flags_say m L k in
    let t : (lives m && finds_room m && not m.stopped) ≡ true = regrouped (lives m) (finds_room m) (not m.stopped) a in
    rw (s.live, s.room, s.stopped_then) at t
in_time m L _ k a = refl

pub acts_in_time : (m : View) (L : List Item) (acts : List Act) → KnowsFlags m L → are_given m acts ≡ true → all_in_time m.c L acts ≡ true
acts_in_time m L [] k given = refl
acts_in_time m L (act ∷ acts) k given =
    let may = and_parts (is_allowed m act) (are_given (noted m (Out act)) acts) given in
    let form : may_give m act ≡ true = (and_parts (may_give m act) (is_timely m act) may.0).0 in
    let one : KnowsFlags (noted m (Out act)) (L ++ Out act ∷ []) = known_next m L (Out act) k (act_admitted m act form) in
    and_from (comes_in_time m.c L act) (all_in_time m.c (L ++ Out act ∷ []) acts) (in_time m L act k may.0)
    (acts_in_time (noted m (Out act)) (L ++ Out act ∷ []) acts one may.1)
