use Rattle.std.proofs.Common.{◌≡◌, ◌+◌, ◌++◌, ◌∷◌, [], ◌∙◌, subst, sym, ap, arith, length, length-append}
use Rattle.live_conns.specs.Live.{conns_of}
use Rattle.many_conns.specs.Apart.{AreSound}
use Rattle.many_conns.proofs.SoundLaws.{sound_push}
use Rattle.host_core.specs.Owners.{conns, served}
use Rattle.host_core.proofs.core_state.Core.add.Goals as goal

pub returns-clause-sound : goal.returns-clause-sound
returns-clause-sound g c =
    let K = g.C.Connection.kind in
    let core = c.args.self.now in
    let conn = c.new-conn.result in
    let grown : conns_of c.push.new.self ≡ conns core ++ conn ∷ [] = c.push.ensures.conns in
    let long : length (conns_of c.push.new.self) ≡ length (conns core) + 1 = ap length grown ∙ length-append (conns core) (conn ∷ []) in
    record {
      lists = subst (λ xs. AreSound K (served core) xs (core.accepted + 1) core.children core.table) (sym grown)
          (sound_push K g.met.C.Connection.laws (served core) (conns core) core.children core.accepted conn core.table c.requires.sound.lists c.new-conn.ensures.number c.new-conn.ensures.site c.new-conn.ensures.last_child);
      cap = c.requires.sound.cap;
      room = c.push.ensures.cap ∙ c.requires.sound.room;
      few = omega (arith, long, c.requires.room);
      site_good = c.requires.sound.site_good;
      clock_good = c.requires.sound.clock_good;
    }
