-- The client is asked where it must be heard, once.
use Rattle.std.proofs.Common.{◌≡◌, ◌≤◌, ◌+◌, ℕ, Bool, true, false, ◌&&◌, ◌||◌, not, List, [], ◌∷◌, ◌++◌, Option, refl, sym, ap, ◌∙◌, subst, append-nil, arith}
use Rattle.std.specs.Prelude.{cond, nat_le}
use Rattle.std.proofs.lemmas.Bool.{eq-eqb, false≢true, true_from_ne_false}
use Rattle.std.proofs.lemmas.List.Sums.{sum_by-append, sum_by-cons}
use Rattle.host_base.specs.declared.site.Site.{Site}
use Rattle.host_trace.specs.declared.items.Act.{Act}
use Rattle.host_trace.specs.declared.items.Act.TheVariants.{CloseWs, EndInput, Feed, Kill, Release, Says, Shut, Start, Upgrade, WantChild, WantClient, Write}
use Rattle.host_trace.specs.declared.items.Event.{Event}
use Rattle.host_trace.specs.declared.items.Item.{Item}
use Rattle.host_trace.specs.declared.items.Item.TheVariants.{In, Out}
use Rattle.host_trace.specs.Kinds.{is_want_client}
use Rattle.host_trace.specs.Projections.{client_wanted, last_secs}
use Rattle.host_trace.specs.Trace.{after_step, step_of}
use Rattle.own_traces.specs.Whose.{next_after}
use Rattle.trace_child.specs.Words.{given, once}
use Rattle.trace_model.specs.Demands.{must_hear}
use Rattle.trace_model.specs.Exchange.{Exchange, all_of, continue_text, pushed, request_bytes}
use Rattle.trace_model.specs.Exchanges.{current}
use Rattle.trace_model.specs.Steps.{goes_on}
use Rattle.trace_model.specs.Wants.{wants}
use Rattle.exchange_laws.proofs.AskLaws.{shut_asks}
use Rattle.conn_laws.proofs.FormLaws.{flags_say}
use Rattle.conn_flags.specs.View.{View as Flags, count_sent, has_room, is_live, less_by, more_by, noted, pending_after}
use Rattle.conn_flags.specs.Form.{are_given, given_all}
use Rattle.conn_flags.proofs.KnowsLaws.{given_all-number}
use Rattle.child_laws.specs.Step.{Turn, waiting}
use Rattle.conn_laws.specs.Moves.{Move, acts_of, continues, gives, moved, settles}
use Rattle.conn_laws.proofs.MoveLaws.{acts_of-append, moved-append}
use Rattle.http_conn.specs.HttpConn.{HttpConn}
use Rattle.http_conn.specs.Kept.{flags_of, number_of, site_of}
use Rattle.http_conn.specs.Reasons.{ends_with, hears_at, is_done_with}
use Rattle.http_conn.specs.Tells.{TellsMore}
use Rattle.http_conn.specs.Parts.{Closes, Deed, Part, Serves, Steps, Then, Wants, WantsBy}
use Rattle.http_step_laws.specs.Standing.{Apt, Claim, Leaves, Rest, Standing, ends_at}
use Rattle.http_step_laws.proofs.CloseLaws.{Closed, closes_leave}
use Rattle.http_step_laws.proofs.EndWords.{ends_same, going, live_of, lost_ends}
use Rattle.http_step_laws.proofs.HearWords.{asks}
use Rattle.http_step_laws.proofs.LostWords.{lost_ends_well}
use Rattle.http_step_laws.proofs.PushWords.{bytes_quiet}
use Rattle.http_step_laws.proofs.RestWords.{current_is}
use Rattle.http_step_laws.proofs.RoundLaws.{serves_leave}
use Rattle.http_step_laws.proofs.ThenLaws.{form_parts}
use Rattle.http_step_laws.proofs.WantLaws.{Done, steps_leave, still_of, wants_leave}
use Rattle.good_step_laws.proofs.Orders.EachLaws.{Each, each_closes, each_serves, is_other}

-- ---- acts that ask nobody

other_asks : (c : ℕ) (act : Act) → is_other act ≡ true → is_want_client c (Out act) ≡ false
other_asks c (WantClient d) e = absurd (false≢true e)
other_asks c _ e = refl

nothing_plus : (a b : ℕ) → a ≡ 0 → a + b ≡ b
nothing_plus a b none = omega (arith, none)

none_more : (c : ℕ) (act : Act) (acts : List Act) → is_want_client c (Out act) ≡ false → given (is_want_client c) (act ∷ acts) ≡ given (is_want_client c) acts
none_more c act acts none =
    let counted : ℕ = cond (is_want_client c (Out act)) 1 0 in
    let nothing : counted ≡ 0 = ap (λ (b : Bool). cond b 1 0) none in
    sum_by-cons (λ (a : Act). cond (is_want_client c (Out a)) 1 0) act acts ∙ nothing_plus counted (given (is_want_client c) acts) nothing

pub given_others : (c : ℕ) (moves : List Move) → Each is_other moves → given (is_want_client c) (acts_of moves) ≡ 0
given_others c [] w = refl
given_others c (gives act ∷ moves) w = none_more c act (acts_of moves) (other_asks c act w.0) ∙ given_others c moves w.1
given_others c (continues d ∷ moves) w = none_more c (Write d continue_text) (acts_of moves) refl ∙ given_others c moves w.1
given_others c (settles ending ∷ moves) w = given_others c moves w

-- what was asked stays
asked_kept : (m : Flags) (moves : List Move) → Each is_other moves → (given_all m (acts_of moves)).asked ≡ m.asked
asked_kept m [] w = refl
asked_kept m (gives act ∷ moves) w = asked_kept (noted m (Out act)) moves w.1 ∙ ap (λ (b : Bool). b || m.asked) (other_asks m.c act w.0)
asked_kept m (continues d ∷ moves) w = asked_kept (noted m (Out (Write d continue_text))) moves w.1
asked_kept m (settles ending ∷ moves) w = asked_kept m moves w

-- The acts ask it where it must be heard in the end, and was not asked yet.
abbrev pub Asks : Site → ℕ → Flags → Exchange → List Move → Type 0
Asks site c m e moves = given (is_want_client c) (acts_of moves) ≡ once (must_hear site c (moved site c e moves) && not m.asked)

asks_later : (site : Site) (c : ℕ) (m : Flags) (e : Exchange) (xs ys : List Move) → Each is_other xs → Asks site c (given_all m (acts_of xs)) (moved site c e xs) ys → Asks site c m e (xs ++ ys)
asks_later site c m e xs ys other a =
    let none : given (is_want_client c) (acts_of xs) ≡ 0 = given_others c xs other in
    let both : given (is_want_client c) (acts_of xs ++ acts_of ys) ≡ given (is_want_client c) (acts_of xs) + given (is_want_client c) (acts_of ys) =
    sum_by-append (λ (act : Act). cond (is_want_client c (Out act)) 1 0) (acts_of xs) (acts_of ys) in
    let count : given (is_want_client c) (acts_of (xs ++ ys)) ≡ given (is_want_client c) (acts_of ys) =
    ap (λ (l : List Act). given (is_want_client c) l) (acts_of-append xs ys) ∙ (both ∙ nothing_plus (given (is_want_client c) (acts_of xs)) (given (is_want_client c) (acts_of ys)) none) in
    count
    ∙ (a
    ∙ (ap (λ (b : Bool). once (must_hear site c (moved site c (moved site c e xs) ys) && not b)) (asked_kept m xs other)
    ∙ ap (λ (d : Exchange). once (must_hear site c d && not m.asked)) (sym (moved-append site c e xs ys))))

-- Where the first part asks nobody, the later one asks for both.
then_asks : (First Later : Deed) (Mid : Claim) (L : List Item) (ev : Event) (acts : List Act) (e : Exchange) (old new : HttpConn) (n : ℕ) (moves : List Move) → Then First Later old n moves new
    → are_given (flags_of old) (acts_of moves) ≡ true
    → ((xs : List Move) (mid : HttpConn) → First old n xs mid → are_given (flags_of old) (acts_of xs) ≡ true → Leaves Mid L ev acts e old n xs mid)
    → ((xs : List Move) (mid : HttpConn) → First old n xs mid → Each is_other xs)
    → ((acts' : List Act) (turn : Turn) (e' : Exchange) (mid : HttpConn) (n' : ℕ) (ys : List Move) → Standing L ev acts' turn n' e' mid → Mid turn e' mid → site_of mid ≡ site_of old → Later mid n' ys new
    → are_given (flags_of mid) (acts_of ys) ≡ true → Asks (site_of mid) (number_of mid) (flags_of mid) e' ys)
    → Asks (site_of old) (number_of old) (flags_of old) e moves
then_asks First Later Mid L ev acts e old new n moves w form leaves other two =
    let forms = form_parts (flags_of old) w.sooner w.later (subst (λ (l : List Move). are_given (flags_of old) (acts_of l) ≡ true) w.are form) in
    let l : Leaves Mid L ev acts e old n w.sooner w.mid = leaves w.sooner w.mid w.first forms.0 in
    let c_is : number_of w.mid ≡ number_of old = ap (λ (m : Flags). m.c) l.flags ∙ given_all-number (flags_of old) (acts_of w.sooner) in
    let d : Exchange = moved (site_of old) (number_of old) e w.sooner in
    let later : Asks (site_of w.mid) (number_of w.mid) (flags_of w.mid) d w.later =
    two (acts ++ acts_of w.sooner) l.turn d w.mid (next_after n (acts_of w.sooner)) w.later l.standing l.post l.site w.second
    (subst (λ (m : Flags). are_given m (acts_of w.later) ≡ true) (sym l.flags) forms.1) in
    subst (λ (x : List Move). Asks (site_of old) (number_of old) (flags_of old) e x) (sym w.are)
    (asks_later (site_of old) (number_of old) (flags_of old) e w.sooner w.later (other w.sooner w.mid w.first)
    (subst (λ (m : Flags). Asks (site_of old) (number_of old) m d w.later) l.flags
    (subst (λ (k : ℕ). Asks (site_of old) k (flags_of w.mid) d w.later) c_is (subst (λ (t : Site). Asks t (number_of w.mid) (flags_of w.mid) d w.later) l.site later))))

-- ---- where it must be heard

abbrev pub hears_now : HttpConn → Exchange → Bool
hears_now conn e = not (ends_at conn e) && has_room (flags_of conn) && hears_at conn conn.stage

module _ (L : List Item) (ev : Event) (acts : List Act) (turn : Turn) (e : Exchange) (conn : HttpConn) (n : ℕ) (s : Standing L ev acts turn n e conn) (d : Closed turn e conn) where
  ended_hears : ends_at conn e ≡ true → hears_now conn e ≡ false
  ended_hears ends = ap (λ (b : Bool). not b && has_room (flags_of conn) && hears_at conn conn.stage) ends

  hears_exactly : must_hear (site_of conn) (number_of conn) e ≡ hears_now conn e
  hears_exactly = by_lost conn.lost refl
    where
      by_live : conn.lost ≡ false → (b : Bool) → is_live (flags_of conn) ≡ b → must_hear (site_of conn) (number_of conn) e ≡ hears_now conn e
      by_live found true live =
          asks L ev acts turn e conn n s d found live
          ∙ (ap (λ (b : Bool). b && has_room (flags_of conn) && hears_at conn conn.stage) live
          ∙ sym (ap (λ (b : Bool). not b && has_room (flags_of conn) && hears_at conn conn.stage) (d.on live)))
      by_live found false dead =
          shut_asks (site_of conn) (number_of conn) e (sym (flags_say (flags_of conn) (all_of e) s.flags).live ∙ dead)
          ∙ sym (ended_hears (true_from_ne_false (ends_at conn e) (λ on. false≢true (sym dead ∙ live_of conn _ (going conn (is_done_with conn (request_bytes (number_of conn) e)) on)))))

      by_lost : (b : Bool) → conn.lost ≡ b → must_hear (site_of conn) (number_of conn) e ≡ hears_now conn e
      by_lost true is =
          (lost_ends_well L ev acts turn e conn n s d is).demands.asks_none
          ∙ sym (ended_hears (lost_ends conn (is_done_with conn (request_bytes (number_of conn) e)) is))
      by_lost false found = by_live found (is_live (flags_of conn)) refl

-- ---- the last part

module _ (L : List Item) (ev : Event) (acts : List Act) (turn : Turn) (e : Exchange) (old new : HttpConn) (n : ℕ) (moves : List Move) (s : Standing L ev acts turn n e old) (two : 2 ≤ (site_of old).limits.head)
    (closed : Closed turn e old) (p : Part Wants old n moves new) (form : are_given (flags_of old) (acts_of moves) ≡ true) where
  abbrev act : Act
  act = WantClient (number_of old)

  due_is : p.by.due ≡ (must_hear (site_of old) (number_of old) e && not (flags_of old).asked)
  due_is =
      p.by.tells.is
      ∙ (ap (λ (b : Bool). not b && has_room (flags_of old) && hears_at old old.stage && not (flags_of old).asked) (ends_same old e two s.front p.by.tells.done p.by.tells.tells)
      ∙ ap (λ (b : Bool). b && not (flags_of old).asked) (sym (hears_exactly L ev acts turn e old n s closed)))

  -- the question changes nothing of it
  later_hears : new ≡ record old { flags = noted (flags_of old) (Out act) } → hears_now new (pushed e (Out act)) ≡ hears_now old e
  later_hears is = ap (λ (d : HttpConn). hears_now d (pushed e (Out act))) is ∙ (ap (λ (b : Bool). not b && has_room (flags_of mid) && hears_at old old.stage) ends_then ∙ ap (λ (b : Bool). not (ends_at old e) && b && hears_at old old.stage) room_same)
    where
      mid : HttpConn
      mid = record old { flags = noted (flags_of old) (Out act) }

      ends_then : ends_at mid (pushed e (Out act)) ≡ ends_at old e
      ends_then = ap (λ (b : List ℕ). ends_with old (is_done_with old b)) (bytes_quiet (number_of old) e (Out act) refl)

      pending_same : pending_after (flags_of old) (Out act) ≡ (flags_of old).pending
      pending_same = ap (λ (b : Bool). less_by 0 (more_by (count_sent b (number_of old) (Out act)) (flags_of old).pending)) s.inward.http

      room_same : has_room (flags_of mid) ≡ has_room (flags_of old)
      room_same = ap (λ (k : ℕ). (flags_of old).shut || nat_le k 262144) pending_same

  asked_then : new ≡ record old { flags = noted (flags_of old) (Out act) } → moves ≡ gives act ∷ [] → must_hear (site_of old) (number_of old) (pushed e (Out act)) ≡ must_hear (site_of old) (number_of old) e
  asked_then is moves_are =
      let l : Leaves Done L ev acts e old n moves new = wants_leave L ev acts turn e old new n moves s two closed p form in
      let one : Leaves Done L ev acts e old n (gives act ∷ []) new = subst (λ (x : List Move). Leaves Done L ev acts e old n x new) moves_are l in
      let there : must_hear (site_of new) (number_of new) (pushed e (Out act)) ≡ hears_now new (pushed e (Out act)) =
      hears_exactly L ev (acts ++ act ∷ []) one.turn (pushed e (Out act)) new _ one.standing one.post.closed in
      let number : number_of new ≡ number_of old = ap (λ (d : HttpConn). number_of d) is in
      ap (λ (t : Site). must_hear t (number_of old) (pushed e (Out act))) (sym one.site)
      ∙ (ap (λ (k : ℕ). must_hear (site_of new) k (pushed e (Out act))) (sym number) ∙ (there ∙ (later_hears is ∙ sym (hears_exactly L ev acts turn e old n s closed))))

  wants_ask : Asks (site_of old) (number_of old) (flags_of old) e moves
  wants_ask = go p.by.due refl p.by.by
    where
      go : (due : Bool) → p.by.due ≡ due → WantsBy due old n moves new → Asks (site_of old) (number_of old) (flags_of old) e moves
      go false is nothing =
          subst (λ (x : List Move). Asks (site_of old) (number_of old) (flags_of old) e x) (sym nothing.none) (ap once (sym is ∙ due_is))
      go true is t =
          let counted : given (is_want_client (number_of old)) (act ∷ []) ≡ 1 =
          sum_by-cons (λ (a : Act). cond (is_want_client (number_of old) (Out a)) 1 0) act [] ∙ ap (λ (b : Bool). cond b 1 0 + 0) (eq-eqb (number_of old) (number_of old) refl) in
          subst (λ (x : List Move). Asks (site_of old) (number_of old) (flags_of old) e x) (sym t.moves_are)
          (counted ∙ (ap once (sym is ∙ due_is) ∙ ap (λ (b : Bool). once (b && not (flags_of old).asked)) (sym (asked_then t.is t.moves_are))))

-- ---- a whole step

all_asks : (L : List Item) (ev : Event) (e : Exchange) (old new : HttpConn) (n : ℕ) (moves : List Move) (stamp : Option ℕ) → Standing L ev [] waiting n e old → 2 ≤ (site_of old).limits.head
    → stamp ≡ last_secs (L ++ In ev ∷ []) → Apt e old → Steps stamp old n moves new → are_given (flags_of old) (acts_of moves) ≡ true → Asks (site_of old) (number_of old) (flags_of old) e moves
all_asks L ev e old new n moves stamp s two clock apt w form =
    then_asks (Serves stamp) (Then (Part Closes) (Part Wants)) (λ t d c. Rest t d c × TellsMore c false) L ev [] e old new n moves w form
    (λ xs mid v f. serves_leave L ev e old mid n xs stamp s two clock apt v f)
    (λ xs mid v. each_serves stamp old mid n xs v)
    (λ acts t d mid n' ys st post site v f.
    let two' : 2 ≤ (site_of mid).limits.head = subst (λ (x : Site). 2 ≤ x.limits.head) (sym site) two in
    then_asks (Part Closes) (Part Wants) Closed L ev acts d mid new n' ys v f
    (λ xs next p k. closes_leave L ev acts t d mid next n' xs st two' post.0 (still_of mid d two' st.front post.1) p k)
    (λ xs next p. each_closes mid next n' xs p)
    (λ acts' t' d' next n'' zs st' closed site' p k. wants_ask L ev acts' t' d' next new n'' zs st' (subst (λ (x : Site). 2 ≤ x.limits.head) (sym site') two') closed p k))

pub steps_ask : (L : List Item) (ev : Event) (e : Exchange) (old new : HttpConn) (n : ℕ) (moves : List Move) (stamp : Option ℕ) → Standing L ev [] waiting n e old
    → 2 ≤ (site_of old).limits.head → stamp ≡ last_secs (L ++ In ev ∷ []) → Apt e old → Steps stamp old n moves new → are_given (flags_of old) (acts_of moves) ≡ true
    → wants (site_of old) (number_of old) (step_of L ev (acts_of moves)) ≡ true
steps_ask L ev e old new n moves stamp s two clock apt w form =
    eq-eqb _ _
    (all_asks L ev e old new n moves stamp s two clock apt w form
    ∙ (ap (λ (d : Exchange). once (must_hear site c d && not (flags_of old).asked)) (sym last_is)
    ∙ ap (λ (b : Bool). once (must_hear site c (goes_on site c (step_of L ev (acts_of moves))) && not b)) asked_is))
  where
    site : Site
    site = site_of old

    c : ℕ
    c = number_of old

    l : Leaves Done L ev [] e old n moves new
    l = steps_leave L ev e old new n moves stamp s two clock apt w form

    number : number_of new ≡ c
    number = ap (λ (m : Flags). m.c) l.flags ∙ given_all-number (flags_of old) (acts_of moves)

    last : Exchange
    last = moved site c e moves

    last_is : current site c (after_step L ev (acts_of moves)) ≡ last
    last_is =
        subst (λ (k : ℕ). current site k (after_step L ev (acts_of moves)) ≡ last) number
        (subst (λ (t : Site). current t (number_of new) (after_step L ev (acts_of moves)) ≡ last) l.site (current_is L ev (acts_of moves) l.turn last new _ l.standing l.post.closed))

    asked_is : (flags_of old).asked ≡ client_wanted (L ++ In ev ∷ []) c
    asked_is = (flags_say (flags_of old) (all_of e) s.flags).asked ∙ ap (λ (x : List Item). client_wanted x c) (s.children.knows.items ∙ append-nil (L ++ In ev ∷ []))
