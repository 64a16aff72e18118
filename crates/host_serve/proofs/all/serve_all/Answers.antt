-- The lanes of the outsides take their turns, and the outsides come back.
use Rattle.std.proofs.Common.{rules, ◌≡◌, ◌∙◌, refl, length, drop, arith}
use Rattle.std.proofs.lemmas.Grind.{common_steps}
use Rattle.host_core.specs.Stands.{Good}
use Rattle.conn_core.specs.Kind.{conn_kind}
use Rattle.host_loop.specs.Loops.{WasTold}
use Rattle.host_serve.proofs.GoodLaws.{all_promised}
use Rattle.host_serve.proofs.LaneLaws.{ended_all, outs_kept, written}
use Rattle.host_serve.proofs.PlaceLaws.{zip_same}
use Rattle.host_serve.proofs.all.serve_all.Goals as goal

pub take_all_turns-requires-clause-begin : goal.take_all_turns-requires-clause-begin
take_all_turns-requires-clause-begin g c = λ κs at. rw c.as_mut_slice.ensures.value (λ k d lt. (c.in-Ok.ensures.each k d lt).1)

pub empty-requires : goal.empty-requires
empty-requires g c = λ κs.
    let before = c.as_mut_slice.result.now in
    let after = c.take_all_turns.new.loops in
    let same : length after ≡ length before = c.take_all_turns.auto.loops in
    let all : length after ≡ c.in-Ok.lanes.len = same ∙ c.as_mut_slice.ensures.len in (
      (refl, tt),
      (
        rw (written c.in-Ok.lanes.len after (drop (length after) c.in-Ok.lanes.items) all) (ended_all g.O.Outside.trace before after same c.take_all_turns.ensures.keeps (λ s. Good conn_kind s) c.args.site.now c.args.turns (rw c.as_mut_slice.ensures.value (λ k d lt. (c.in-Ok.ensures.each k d lt).0)) c.take_all_turns.ensures.ended),
        (c.in-Ok.ensures.empty, first_of (search rules, grind (arith, common_steps, c.in-Ok.ensures.room, c.in-Ok.ensures.count))),
      ),
    )

pub returns-in-Err-clause-places : goal.returns-in-Err-clause-places
returns-in-Err-clause-places g c = rw c.in-Err.ensures.err (zip_same (λ o p. WasTold (g.O.Outside.trace o) (g.O.Outside.trace p)) (λ o T told. (T, told)) c.args.outs.now.items)

pub returns-clause-places : goal.returns-clause-places
returns-clause-places g c =
    let before = c.as_mut_slice.result.now in
    let after = c.take_all_turns.new.loops in
    let same : length after ≡ length before = c.take_all_turns.auto.loops in
    let all : length after ≡ c.in-Ok.lanes.len = same ∙ c.as_mut_slice.ensures.len in
    outs_kept g.O.Outside.trace before after same c.take_all_turns.ensures.keeps c.args.outs.now.items c.empty.new.outs.items _
    (rw c.as_mut_slice.ensures.value c.in-Ok.ensures.order) (written c.in-Ok.lanes.len after (drop (length after) c.in-Ok.lanes.items) all) c.empty.ensures.order

pub returns-clause-good : goal.returns-clause-good
returns-clause-good g c = all_promised g.O.Outside.trace c.args.site.now c.empty.new.outs.items c.requires.served.limits c.empty.ensures.good
