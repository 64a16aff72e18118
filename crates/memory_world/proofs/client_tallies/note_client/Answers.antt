-- The tally of the connection that the item names goes on, and the others stay.
use Rattle.std.proofs.Common.{sym, ap, ◌∙◌}
use Rattle.trace_tallies.specs.ClientTallies.{client_with}
use Rattle.memory_world.specs.ClientTallies.{client_at}
use Rattle.trace_tallies.proofs.ClientTallyLaws.{client_rests}
use Rattle.memory_world.proofs.ClientTallyLaws.{clients_kept}
use Rattle.memory_world.proofs.client_tallies.note_client.Goals as goal

pub returns-in_default : goal.returns-in_default
returns-in_default c = λ noted q. sym (client_rests q c.args.item.now (client_at c.args.rows.now q) (c.in_default.ensures q))

pub returns : goal.returns
returns c = λ noted.
    clients_kept c.args.rows.now c.keep_client.new.rows c.args.item.now c.in-Some.c c.in-Some-with.tally (c.keep_client.ensures noted) c.in-Some.ensures
    (c.in-Some-with.ensures.some ∙ ap (client_with c.in-Some.c c.args.item.now) c.client_in.ensures)
