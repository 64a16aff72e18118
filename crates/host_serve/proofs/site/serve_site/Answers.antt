-- The outsides that came out are served and given back.
use Rattle.std.proofs.Common.{length, ◌≡◌, subst, sym, get_or, arith}
use Rattle.std.specs.Prelude.{All}
use Rattle.std.proofs.lemmas.List.Elements.{length_all_zip}
use Rattle.trace_laws.specs.Promised.{Promised}
use Rattle.host_loop.specs.Loops.{IsFresh, WasTold}
use Rattle.host_loop.proofs.GivenLaws.{gave_loops, new_is_fresh}
use Rattle.host_serve.proofs.site.serve_site.Goals as goal

pub returns-clause-gives : goal.returns-clause-gives
returns-clause-gives g c = λ now told.
    let trace = g.W.Out.Outside.trace in
    let outs = c.serve_all-end.new.outs.items in
    let same = length_all_zip (λ o p. WasTold (trace o) (trace p)) c.in-Ok.outs.items outs c.serve_all-end.ensures.places in
    let count : length outs ≡ c.args.loops = omega (arith, c.in-Ok.ensures.count, same) in
    rw (← c.enter.ensures.given) (gave_loops (Promised c.args.site.now) trace c.args.turns c.args.loops c.serve_all-end.result outs _ now count (record {
      good = c.serve_all-end.ensures.good;
      done = c.serve_all-end.ensures.done;
      spent = c.serve_all-end.ensures.spent;
      each = c.serve_all-end.ensures.each;
      memory = λ none. subst (λ v. All (λ o. IsFresh (trace o)) v.items) (sym (c.serve_all-end.ensures.memory none))
          (λ k d lt. new_is_fresh (g.W.World.given c.args.world.now) (trace (get_or c.in-Ok.outs.items k d)) (c.in-Ok.ensures.told k d lt));
    }) (c.leave.ensures.given now told))
