use Rattle.std.proofs.Common.{length, sum_by, take}
use Rattle.socket_set.specs.Clients.{Frames}
use Rattle.socket_set.proofs.client.Client.say_all.Given as goal

abbrev pub invariant-loop-text : goal.invariant-loop-text
invariant-loop-text g l = Frames (sum_by length (take l.text-index l.texts)) l.initial.self l.self
