-- Each tally goes on with the item.
use Rattle.std.proofs.Common.{◌∙◌, ◌+◌, ap}
use Rattle.std.specs.Prelude.{if◌then◌else◌}
use Rattle.memory_world.proofs.TieLaws.{ties_go_on}
use Rattle.memory_world.proofs.tallies.Tallies.note.Goals as goal

pub returns-then-note_client : goal.returns-then-note_client
returns-then-note_client c = λ noted T ties.
    ties_go_on c.args.self.now _ T c.args.item.now ties (c.note_client.ensures c.if-note_client.true)
    (c.note.ensures.rows noted) (c.note.ensures.waiting noted) (c.note.ensures.running noted)
    (c.in-Some.ensures.1 ∙ ap (λ n. c.args.self.now.accepted + n) (c.one_if.ensures ∙ ap (λ b. if b then 1 else 0) c.is_accepted.ensures))
    c.is_stopped-self.ensures
