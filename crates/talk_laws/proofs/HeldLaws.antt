-- A run that its connection ended for want of memory, before the list ends it and after that.
use Rattle.std.proofs.Common.{◌≡◌, Bool, true, false, List, [], ◌∷◌, ◌++◌, refl, sym, ap, subst, ◌∙◌}
use Rattle.std.specs.Prelude.{not, ◌&&◌, is_some}
use Rattle.std.proofs.lemmas.Bool.{eq-eqb, or_right}
use Rattle.host_trace.specs.declared.items.Act.{Act}
use Rattle.host_trace.specs.declared.items.Act.TheVariants.{Shut}
use Rattle.host_trace.specs.declared.items.Item.{Item}
use Rattle.host_trace.specs.declared.items.Item.TheVariants.{Out}
use Rattle.host_trace.specs.declared.items.Why.TheVariants.{NoMemory}
use Rattle.host_trace.specs.Kinds.{is_end_input}
use Rattle.host_trace.specs.Projections.{shut_for_memory}
use Rattle.host_trace.proofs.ProjectionLaws.{shut_for_memory-push}
use Rattle.child_core.specs.Calls.{ended}
use Rattle.child_core.specs.declared.ending.Ending.TheVariants.{Dropped}
use Rattle.child_core.specs.Due.{Due, given, wants_input_end}
use Rattle.child_core.specs.Knows.{Admits, KnowsRun}
use Rattle.child_core.specs.Laws.{IsStill}
use Rattle.child_core.specs.Setting.{Setting}
use Rattle.child_core.specs.View.{Note, View, noted, plain}
use Rattle.child_core.specs.Walk.{MayAct}
use Rattle.child_core.proofs.KnowsLaws.{Knows-noted}
use Rattle.child_core.proofs.MemoryLaws.{due-may, ended-agrees, ended-may, knows-early, knows-shut}
use Rattle.child_core.proofs.TellLaws.{other-admits, still-offers}
use Rattle.child_laws.specs.Children.{HeldAs}
use Rattle.child_laws.proofs.DueLaws.{due_conn, due_ends, due_outcome}

-- what is owed to a run that is decided is not owed for want of memory
on_time : (s : Setting) (v : View) (L : List Item) (n : Note) (x : Item) → (is_end_input v.number x ≡ true → wants_input_end v ≡ true) → Admits true s v L n x → Admits false s v L n x
on_time s v L n x deserved a = record {
  start = a.start;
  begins = a.begins;
  exits = a.exits;
  asks = a.asks;
  answers = a.answers;
  eof = a.eof;
  takes = a.takes;
  feeds = a.feeds;
  front = a.front;
  in_turn = a.in_turn;
  deserved = λ e ends. deserved ends;
  refused = a.refused;
  body = a.body;
  whole = a.whole;
  done = a.done;
  talk = a.talk;
}

-- an act that is due for the run that is held may be given to the one that the list knows
module _ (early may : Bool) (s : Setting) (still : IsStill s) (held v : View) (L : List Item) (act : Act) (due : Due may held act) where
  pub held_may : HeldAs early held v → KnowsRun (early && not (is_some v.outcome)) s v L → MayAct (early && not (is_some v.outcome)) s v L act
  held_may is known = by_end early is known
    where
      by_end : (early : Bool) → HeldAs early held v → KnowsRun (early && not (is_some v.outcome)) s v L → MayAct (early && not (is_some v.outcome)) s v L act
      by_end false is known = due-may false s still may v L act known (subst (λ w. Due may w act) is due)
      by_end true is known = go (is_some v.outcome) refl known
        where
          dropped_due : Due may (ended v Dropped) act
          dropped_due = subst (λ w. Due may w act) is due

          go : (d : Bool) → is_some v.outcome ≡ d → KnowsRun (not d) s v L → MayAct (not d) s v L act
          go false decided known = ended-may s still may v L act known dropped_due
          go true decided known =
              let m : MayAct true s v L act = ended-may s still may v L act (knows-early true s v L known) dropped_due in
              record {
                admits = on_time s v L plain (Out act) (λ ends. wants decided (due_ends may (ended v Dropped) act v.number dropped_due ends)) m.admits;
                input = m.input;
                kill = m.kill;
                release = m.release;
              }
            where
              wants : is_some v.outcome ≡ true → v.started ≡ true → wants_input_end v ≡ true
              wants d on = rw (on, d) refl

  pub held_given : HeldAs early held v → HeldAs early (given held act) (noted s.conn v plain (Out act))
  held_given is = by_end early is
    where
      by_end : (early : Bool) → HeldAs early held v → HeldAs early (given held act) (noted s.conn v plain (Out act))
      by_end false is = due_conn may s.conn held held act due ∙ ap (λ w. noted s.conn w plain (Out act)) is
      by_end true is = due_conn may s.conn held held act due ∙ (ap (λ w. noted s.conn w plain (Out act)) is ∙ ended-agrees s.conn v act)

  pub held_known : HeldAs early held v → KnowsRun (early && not (is_some v.outcome)) s v L
      → KnowsRun (early && not (is_some (noted s.conn v plain (Out act)).outcome)) s (noted s.conn v plain (Out act)) (L ++ Out act ∷ [])
  held_known is known =
      subst (λ o. KnowsRun (early && not (is_some o)) s (noted s.conn v plain (Out act)) (L ++ Out act ∷ [])) (sym (due_outcome may s.conn held v act due))
      (Knows-noted (early && not (is_some v.outcome)) s v L plain (Out act) known (held_may is known).admits)

-- the Shut ends the run in the list too
module _ (s : Setting) (still : IsStill s) (v : View) (L : List Item) (known : KnowsRun (not (is_some v.outcome)) s v L) where
  shut_stands : shut_for_memory (L ++ Out (Shut s.conn NoMemory) ∷ []) s.conn ≡ true
  shut_stands = shut_for_memory-push L (Out (Shut s.conn NoMemory)) s.conn ∙ or_right (shut_for_memory L s.conn) _ (rw (eq-eqb s.conn s.conn refl) refl)

  pub shut_known : KnowsRun false s (noted s.conn v plain (Out (Shut s.conn NoMemory))) (L ++ Out (Shut s.conn NoMemory) ∷ [])
  shut_known =
      knows-shut (not (is_some v.outcome)) s (noted s.conn v plain (Out (Shut s.conn NoMemory))) (L ++ Out (Shut s.conn NoMemory) ∷ []) shut_stands
      (Knows-noted (not (is_some v.outcome)) s v L plain (Out (Shut s.conn NoMemory)) known
      (other-admits (not (is_some v.outcome)) s v L plain (Out (Shut s.conn NoMemory)) refl
      (still-offers (not (is_some v.outcome)) s v L (Shut s.conn NoMemory) still known)))
