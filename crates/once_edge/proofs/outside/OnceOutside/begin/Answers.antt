use Rattle.std.proofs.Common.{◌≡◌, ◌≤◌, refl, sym, ap, subst, inl, arith, rules}
use Rattle.std.proofs.lemmas.Grind.{common_steps}
use Rattle.host_base.specs.Outsides.{Rose}
use Rattle.host_trace.specs.declared.items.Event.{Event}
use Rattle.host_trace.specs.declared.items.Event.TheVariants.{StartFailed}
use Rattle.once_edge.specs.declared.asked.Asked.{Asked}
use Rattle.once_edge.specs.Once.{OnceState, HadNoRoom, SameRest, IsRefused, Counted}
use Rattle.once_edge.proofs.Quiet.{begin_fails, begin_wants}
use Rattle.once_edge.proofs.outside.OnceOutside.begin.Goals as goal

module _ {K : Type 0} where
  -- as many children were kept as may be
  begin_full : (asked : Asked) (e : Event) (a d : OnceState K) → e ≡ StartFailed asked.k
      → HadNoRoom a d → d.unstarted ≡ a.unstarted → d.starts ≡ a.starts → SameRest a d → IsRefused asked e a d
  begin_full asked e a d same full u s r =
      subst (λ w. IsRefused asked w a d) (sym same)
      (record { refuses = (refl, inl full); unstarted = u; starts = s; rest = r })

  -- the count of faults rose
  counted_rose : (e : Event) (a d : OnceState K) → d.limit ≡ a.limit → d.room ≡ a.room → d.cut ≡ a.cut
      → a.faults ≤ d.faults → Rose a.faults d.faults → Counted e a d
  counted_rose e a d limit room cut grown rose =
      record { counts = record { limit = limit; room = room; grown = grown; cut = inl cut }; failure = λ f. rose }

pub returns-then-not-has_room-clause-refused : goal.returns-then-not-has_room-clause-refused
returns-then-not-has_room-clause-refused g c =
    let same = c.fail.ensures.same in
    begin_full c.args.asked.now c.fail.result c.args.self.now c.fail.new.self
    c.fail.ensures.event
    (record { full = grind (arith, common_steps); rows = ap (λ s. s.rows) same; tried = ap (λ s. s.tried) same })
    (ap (λ s. s.unstarted) same)
    (ap (λ s. s.starts) same)
    (record { client = ap (λ s. s.client) same; peer = ap (λ s. s.peer) same; stopped = ap (λ s. s.stopped) same })

pub returns-then-not-has_room-clause-counted : goal.returns-then-not-has_room-clause-counted
returns-then-not-has_room-clause-counted g c =
    let same = c.fail.ensures.same in
    counted_rose c.fail.result c.args.self.now c.fail.new.self
    (ap (λ s. s.limit) same)
    (ap (λ s. s.room) same)
    (ap (λ s. s.cut) same)
    c.fail.ensures.grown
    c.fail.ensures.rose

pub returns-in-Err-Failed-clause-refused : goal.returns-in-Err-Failed-clause-refused
returns-in-Err-Failed-clause-refused g c =
    begin_fails c.args.asked.now c.fail-in-Err-Failed.result c.args.self.now c.fail-in-Err-Failed.new.self
    c.fail-in-Err-Failed.ensures.event
    (record { tried = search rules; cause = search rules; rows = search rules })
    (search rules)
    (search rules)
    (record { client = search rules; peer = search rules; stopped = search rules })

pub returns-in-Err-NoMemory-clause-refused : goal.returns-in-Err-NoMemory-clause-refused
returns-in-Err-NoMemory-clause-refused g c =
    begin_wants c.args.asked.now c.fail-in-Err-NoMemory.result c.args.self.now c.fail-in-Err-NoMemory.new.self
    c.fail-in-Err-NoMemory.ensures.event
    (search rules)
    (record { tried = search rules; rows = search rules })
    (search rules)
    (search rules)
    (record { client = search rules; peer = search rules; stopped = search rules })
