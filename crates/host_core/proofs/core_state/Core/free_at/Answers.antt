use Rattle.std.proofs.Common.{◌≡◌, ◌+◌, ◌∙◌, subst, sym, ap, arith, length, false}
use Rattle.std.specs.List.{remove}
use Rattle.std.proofs.lemmas.List.Edits.{length-remove}
use Rattle.live_conns.specs.Live.{conns_of}
use Rattle.many_conns.specs.Apart.{AreSound}
use Rattle.many_conns.proofs.ChildLaws.{free_child}
use Rattle.many_conns.proofs.SoundLaws.{some_at, sound_less}
use Rattle.host_core.specs.Owners.{conns, served}
use Rattle.host_core.proofs.core_state.Core.free_at.Goals as goal

pub returns-then-not-held-clause-sound : goal.returns-then-not-held-clause-sound
returns-then-not-held-clause-sound g c =
    let K = g.C.Connection.kind in
    let laws = g.met.C.Connection.laws in
    let core = c.args.self.now in
    let at = some_at K laws (conns core) c.args.i c.requires.place in
    let free : K.needs at.0 ≡ false = ap K.needs at.1 ∙ (sym (c.requires.held at.0) ∙ c.if-not-held.true) in
    let len : length (remove (conns core) c.args.i) + 1 ≡ length (conns core) = length-remove (conns core) c.args.i c.requires.place in
    let long : length (conns_of c.remove.new.self) ≡ length (remove (conns core) c.args.i) = ap length c.remove.ensures.conns in
    record {
      lists = subst (λ xs. AreSound K (served core) xs core.accepted core.children core.table) (sym c.remove.ensures.conns)
          (sound_less K laws (served core) (conns core) c.args.i core.children core.accepted at.0 core.table c.requires.sound.lists c.requires.place at.1 (free_child K laws at.0 free));
      cap = c.requires.sound.cap;
      room = c.remove.ensures.cap ∙ c.requires.sound.room;
      few = let few = c.requires.sound.few in omega (arith, long, len, few);
      site_good = c.requires.sound.site_good;
      clock_good = c.requires.sound.clock_good;
    }
