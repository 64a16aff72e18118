-- The acts of a step come in the order of their places.
use Rattle.std.proofs.Common.{◌≡◌, ◌≤◌, ℕ, Bool, true, false, List, [], ◌∷◌, ◌++◌, Option, Some, None, sym, ap, ◌∙◌, subst, arith}
use Rattle.std.proofs.lemmas.Bool.{false≢true, true_from_ne_false}
use Rattle.host_base.specs.declared.site.Site.{Site}
use Rattle.host_trace.specs.declared.items.Act.{Act}
use Rattle.host_trace.specs.declared.items.Act.TheVariants.{Shut, WantClient}
use Rattle.host_trace.specs.declared.items.Event.{Event}
use Rattle.host_trace.specs.declared.items.Item.{Item}
use Rattle.host_trace.specs.declared.items.Item.TheVariants.{In}
use Rattle.host_trace.specs.declared.items.Why.{Why}
use Rattle.host_trace.specs.Projections.{last_secs}
use Rattle.host_trace.specs.Trace.{step_of}
use Rattle.trace_model.specs.Exchange.{Exchange, request_bytes}
use Rattle.trace_model.specs.Exchanges.{current}
use Rattle.trace_model.specs.Form.{begins_anew, is_ordered, order}
use Rattle.trace_model.proofs.ExchangeLaws.{current-append}
use Rattle.conn_flags.specs.Form.{are_given}
use Rattle.child_laws.specs.Step.{waiting}
use Rattle.conn_laws.specs.Moves.{Move, acts_of, gives}
use Rattle.http_conn.specs.HttpConn.{HttpConn}
use Rattle.http_conn.specs.Kept.{StandsFor, flags_of, number_of, site_of}
use Rattle.http_conn.specs.Reasons.{is_done_with, why_of}
use Rattle.http_conn.specs.Tells.{TellsMore}
use Rattle.http_conn.specs.Parts.{Closes, Part, Serves, ShutsBy, Steps, Then, Wants, WantsBy}
use Rattle.http_step_laws.specs.Standing.{Apt, Leaves, Rest, Standing, ends_at}
use Rattle.http_step_laws.proofs.ActWords.{next}
use Rattle.http_step_laws.proofs.CloseLaws.{Closed, closes_leave}
use Rattle.http_step_laws.proofs.EndWords.{going}
use Rattle.http_step_laws.proofs.RoundLaws.{serves_leave}
use Rattle.http_step_laws.proofs.WantLaws.{Done, steps_leave, still_of}
use Rattle.http_step_laws.proofs.WhyWords.{none_going, why_same}
use Rattle.good_step_laws.proofs.Orders.PlaceWords.{least_after, least_low, ordered_acts}
use Rattle.good_step_laws.proofs.Orders.GoesLaws.{Goes, Lowest, goes_as, goes_none, then_goes}
use Rattle.good_step_laws.proofs.Orders.HandleLaws.{anew, dealt}
use Rattle.good_step_laws.proofs.Orders.HopLaws.{begun, calm}
use Rattle.good_step_laws.proofs.Orders.RoundLaws.{LowNow, serves_go}

-- but the question may come last
abbrev pub Shutting : Lowest
Shutting least e conn = least ≤ 10

abbrev pub Over : Lowest
Over least e conn = Unit {0}

low_ten : (least : ℕ) (e : Exchange) (conn : HttpConn) → LowNow least e conn → least ≤ 10
low_ten least e conn (begun started) = started.top
low_ten least e conn (calm (anew zero)) = omega (arith, zero)
low_ten least e conn (calm (dealt top away waits unstarted)) = omega (arith, top)

-- where the connection is to be shut no script was started
low_nine : (least : ℕ) (e : Exchange) (conn : HttpConn) → ends_at conn e ≡ true → LowNow least e conn → least ≤ 9
low_nine least e conn ends (begun started) = absurd (false≢true (sym started.on ∙ ends))
low_nine least e conn ends (calm (anew zero)) = omega (arith, zero)
low_nine least e conn ends (calm (dealt top away waits unstarted)) = omega (arith, top)

closes_go : (e : Exchange) (least : ℕ) (old new : HttpConn) (n : ℕ) (moves : List Move) → 2 ≤ (site_of old).limits.head → StandsFor old e → LowNow least e old → Part Closes old n moves new
    → Goes Shutting (site_of old) (number_of old) e least moves new
closes_go e least old new n moves two front low p = go p.by.why (p.by.tells.is ∙ why_same old e two front p.by.tells.done p.by.tells.tells) p.by.by
  where
    none_some : (w : Why) → None ≡ Some w → ⊥
    none_some w e = cc

    ends : (why : Why) → Some why ≡ why_of old (is_done_with old (request_bytes (number_of old) e)) → ends_at old e ≡ true
    ends why is = true_from_ne_false (ends_at old e) (λ on. none_some why (sym (none_going old _ (going old (is_done_with old (request_bytes (number_of old) e)) on)) ∙ sym is))

    go : (why : Option Why) → why ≡ why_of old (is_done_with old (request_bytes (number_of old) e)) → ShutsBy why old n moves new → Goes Shutting (site_of old) (number_of old) e least moves new
    go None is nothing = goes_none Shutting (site_of old) (number_of old) e least old new n moves nothing (low_ten least e old low)
    go (Some why) is t =
        let act : Act = Shut (number_of old) why in
        let after : least_after (site_of old) (number_of old) e act ≤ 9 = least_low (begins_anew (site_of old) (number_of old) e act) 9 in
        goes_as Shutting (site_of old) (number_of old) e least moves (gives act ∷ []) new t.moves_are
        (record { ordered = (low_nine least e old (ends why is) low, tt); low = omega (arith, after) })

wants_go : (e : Exchange) (least : ℕ) (old new : HttpConn) (n : ℕ) (moves : List Move) → least ≤ 10 → Part Wants old n moves new → Goes Over (site_of old) (number_of old) e least moves new
wants_go e least old new n moves low p = go p.by.due p.by.by
  where
    go : (due : Bool) → WantsBy due old n moves new → Goes Over (site_of old) (number_of old) e least moves new
    go true t = goes_as Over (site_of old) (number_of old) e least moves (gives (WantClient (number_of old)) ∷ []) new t.moves_are (record { ordered = (omega (arith, low), tt); low = tt })
    go false nothing = goes_none Over (site_of old) (number_of old) e least old new n moves nothing tt

-- ---- a whole step

steps_go : (L : List Item) (ev : Event) (e : Exchange) (old new : HttpConn) (n : ℕ) (moves : List Move) (stamp : Option ℕ) → Standing L ev [] waiting n e old → 2 ≤ (site_of old).limits.head
    → stamp ≡ last_secs (L ++ In ev ∷ []) → Apt e old → Steps stamp old n moves new → are_given (flags_of old) (acts_of moves) ≡ true → Goes Over (site_of old) (number_of old) e 0 moves new
steps_go L ev e old new n moves stamp s two clock apt w form =
    then_goes (Serves stamp) (Then (Part Closes) (Part Wants)) (λ t d c. Rest t d c × TellsMore c false) LowNow Over L ev [] e 0 old new n moves w form
    (λ xs mid v f. serves_leave L ev e old mid n xs stamp s two clock apt v f)
    (λ xs mid v f l. serves_go L ev stamp clock e old mid n xs s two apt v f)
    (λ acts t d least mid n' ys st post low site v f.
    let two' : 2 ≤ (site_of mid).limits.head = subst (λ (x : Site). 2 ≤ x.limits.head) (sym site) two in
    then_goes (Part Closes) (Part Wants) Closed Shutting Over L ev acts d least mid new n' ys v f
    (λ xs next p k. closes_leave L ev acts t d mid next n' xs st two' post.0 (still_of mid d two' st.front post.1) p k)
    (λ xs next p k l. closes_go d least mid next n' xs two' st.front low p)
    (λ acts' t' d' least' next n'' zs st' closed low' site' p k. wants_go d' least' next new n'' zs low' p))

pub steps_ordered : (L : List Item) (ev : Event) (e : Exchange) (old new : HttpConn) (n : ℕ) (moves : List Move) (stamp : Option ℕ) → Standing L ev [] waiting n e old
    → 2 ≤ (site_of old).limits.head → stamp ≡ last_secs (L ++ In ev ∷ []) → Apt e old → Steps stamp old n moves new → are_given (flags_of old) (acts_of moves) ≡ true
    → order (site_of old) (number_of old) (step_of L ev (acts_of moves)) ≡ true
steps_ordered L ev e old new n moves stamp s two clock apt w form =
    let l : Leaves Done L ev [] e old n moves new = steps_leave L ev e old new n moves stamp s two clock apt w form in
    let g : Goes Over (site_of old) (number_of old) e 0 moves new = steps_go L ev e old new n moves stamp s two clock apt w form in
    ap (λ (d : Exchange). is_ordered (site_of old) (number_of old) d 0 (acts_of moves)) heard_is ∙ ordered_acts (site_of old) (number_of old) e 0 moves l.in_step g.ordered
  where
    heard_is : current (site_of old) (number_of old) (L ++ In ev ∷ []) ≡ next (site_of old) (number_of old) e
    heard_is = current-append (site_of old) (number_of old) L (In ev ∷ []) ∙ s.children.goes_on
