use Rattle.std.proofs.Common.{◌≡◌, ◌<◌, ◌∙◌, ap, sym, subst, arith, length, get_or, refl}
use Rattle.std.proofs.lemmas.List.{get_or-set_same, length-set}
use Rattle.child_table.specs.Held.{owner_of}
use Rattle.live_conns.specs.Live.{conns_of}
use Rattle.many_conns.specs.Apart.{AreSound}
use Rattle.many_conns.specs.Kept.{is_child, kept, one_if}
use Rattle.many_conns.proofs.SoundLaws.{fresh_before, held_before, kid_moves, room_for, sound_set}
use Rattle.host_core.specs.Owners.{conns, most_of, served}
use Rattle.host_base.specs.SiteRules.{IsServed}
use Rattle.host_core.proofs.core_state.Core.serve.Goals as goal

pub step-held-requires-clause-served : goal.step-held-requires-clause-served
step-held-requires-clause-served g c = λ j d lt. subst IsServed (sym (c.requires.sound.lists.sites j d lt)) c.requires.sound.site_good

pub keep-requires-clause-fresh : goal.keep-requires-clause-fresh
keep-requires-clause-fresh g c = λ k has none.
    let K = g.C.Connection.kind in
    let laws = g.met.C.Connection.laws in
    let core = c.args.self.now in
    let st = c.step-held.ensures.steps in
    let x = st.was in
    let new = st.now in
    let lt : c.args.i < length (conns core) = c.requires.place in
    let before : c.unsettled_child-before.result ≡ K.unsettled_child_of x = c.unsettled_child-before.ensures ∙ ap K.unsettled_child_of (c.get.ensures x ∙ sym st.at) in
    let after : c.unsettled_child-after.result ≡ K.unsettled_child_of new = c.unsettled_child-after.ensures ∙ ap K.unsettled_child_of (c.get-2.ensures x ∙ (ap (λ l. get_or l c.args.i x) st.conns ∙ get_or-set_same (conns core) c.args.i new x lt)) in
    let moves = kid_moves K laws x new (K.number_of x) core.children c.step-held.new.children st.gives.acts (λ ks w. ((st.gives.its ks w).are, (st.gives.its ks w).child)) st.gives.next in
    fresh_before K laws (served core) (conns core) c.args.i core.children c.step-held.new.children core.accepted x new core.table c.requires.sound.lists lt st.at moves k
    (ap (λ o. is_child o k) (sym after) ∙ has) (ap (λ o. is_child o k) (sym before) ∙ none)

pub keep-requires-clause-held : goal.keep-requires-clause-held
keep-requires-clause-held g c = λ k has.
    let K = g.C.Connection.kind in
    let laws = g.met.C.Connection.laws in
    let core = c.args.self.now in
    let st = c.step-held.ensures.steps in
    let x = st.was in
    let before : c.unsettled_child-before.result ≡ K.unsettled_child_of x = c.unsettled_child-before.ensures ∙ ap K.unsettled_child_of (c.get.ensures x ∙ sym st.at) in
    held_before K laws (served core) (conns core) c.args.i core.children core.accepted x core.table c.requires.sound.lists c.requires.place st.at k (ap (λ o. is_child o k) (sym before) ∙ has)

pub keep-requires-clause-room : goal.keep-requires-clause-room
keep-requires-clause-room g c =
    let K = g.C.Connection.kind in
    let laws = g.met.C.Connection.laws in
    let core = c.args.self.now in
    let st = c.step-held.ensures.steps in
    let x = st.was in
    let before : c.unsettled_child-before.result ≡ K.unsettled_child_of x = c.unsettled_child-before.ensures ∙ ap K.unsettled_child_of (c.get.ensures x ∙ sym st.at) in
    let room = room_for K laws (served core) (conns core) c.args.i core.children (most_of core) _ core.accepted x core.table c.unsettled_child-after.result c.requires.sound.lists c.requires.place st.at c.requires.sound.few c.requires.sound.cap in
    omega (arith, room, ap one_if before)

pub returns-clause-serves : goal.returns-clause-serves
returns-clause-serves g c =
    let K = g.C.Connection.kind in
    let laws = g.met.C.Connection.laws in
    let core = c.args.self.now in
    let st = c.step-held.ensures.steps in
    record {
      was = st.was;
      now = st.now;
      within = c.requires.place;
      at = st.at;
      conns_then = st.conns;
      gives = st.gives;
      held_is = c.step-held.ensures.needs st.was ∙ ap K.needs (ap (λ l. get_or l c.args.i st.was) st.conns ∙ get_or-set_same (conns core) c.args.i st.now st.was c.requires.place);
      site = refl;
      accepted = refl;
      stopped = refl;
      clock = refl;
    }

pub returns-clause-sound : goal.returns-clause-sound
returns-clause-sound g c =
    let K = g.C.Connection.kind in
    let laws = g.met.C.Connection.laws in
    let core = c.args.self.now in
    let st = c.step-held.ensures.steps in
    let x = st.was in
    let new = st.now in
    let n = core.children in
    let m = c.step-held.new.children in
    let lt : c.args.i < length (conns core) = c.requires.place in
    let before : c.unsettled_child-before.result ≡ K.unsettled_child_of x = c.unsettled_child-before.ensures ∙ ap K.unsettled_child_of (c.get.ensures x ∙ sym st.at) in
    let after : c.unsettled_child-after.result ≡ K.unsettled_child_of new = c.unsettled_child-after.ensures ∙ ap K.unsettled_child_of (c.get-2.ensures x ∙ (ap (λ l. get_or l c.args.i x) st.conns ∙ get_or-set_same (conns core) c.args.i new x lt)) in
    let number : c.number-c.result ≡ K.number_of x = c.number-c.ensures x ∙ ap K.number_of (sym st.at) in
    let moves = kid_moves K laws x new (K.number_of x) n m st.gives.acts (λ ks w. ((st.gives.its ks w).are, (st.gives.its ks w).child)) st.gives.next in
    let long : length (conns_of c.step-held.new.self) ≡ length (conns core) = ap length st.conns ∙ length-set (conns core) c.args.i new in
    record {
      lists = subst (λ xs. AreSound K (served core) xs core.accepted m c.keep.new.table) (sym st.conns)
          (sound_set K laws (served core) (conns core) c.args.i n m core.accepted x new core.table c.keep.new.table c.requires.sound.lists lt st.at
          st.gives.number st.gives.site moves
          (λ k. c.keep.ensures.owners k ∙ (λ q. kept (number q) (before q) (after q) k (owner_of core.table k)))
          (let len = c.keep.ensures.len in omega (arith, len, ap one_if before, ap one_if after)));
      cap = c.keep.ensures.cap ∙ c.requires.sound.cap;
      room = c.step-held.ensures.cap ∙ c.requires.sound.room;
      few = omega (arith, long, c.requires.sound.few);
      site_good = c.requires.sound.site_good;
      clock_good = c.requires.sound.clock_good;
    }
