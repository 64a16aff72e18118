-- A core that stands for a trace keeps the promise.
use Rattle.std.proofs.Common.{ℕ, ◌<◌, List, subst, inl, inr, get_or}
use Rattle.std.proofs.lemmas.Bool.{cases_Bool}
use Rattle.host_base.specs.declared.site.Site.{Site}
use Rattle.host_trace.specs.declared.items.Item.{Item}
use Rattle.host_trace.specs.Projections.{own, accepted_count}
use Rattle.host_trace.specs.Trace.{AtEachStep}
use Rattle.own_traces.specs.Whose.{has}
use Rattle.many_conns.specs.Kind.{Kind, Laws}
use Rattle.many_conns.specs.Lists.{Lists, numbers}
use Rattle.many_conns.specs.declared.connection.Connection.{Ghosts}
use Rattle.many_conns.proofs.SettledLaws.{place_in}
use Rattle.host_core.specs.declared.core_state.Core.{Core}
use Rattle.host_core.specs.Owners.{conns, served}
use Rattle.host_core.specs.Stands.{Good, Stands}

module _ {C : Type 0} (K : Kind C) (laws : Laws K) where
  part_of : (site : Site) (xs : List C) (T : List Item) (c : ℕ) → Lists K site xs T → c < accepted_count T → AtEachStep (K.is_good site c) (own T c)
  part_of site xs T c l lt = elim (cases_Bool (has (numbers K xs) c)) [
    | inl live ↦
        let p = place_in K laws xs c live in
        let y = get_or xs p.place p.some in
        subst (λ (n : ℕ). AtEachStep (K.is_good site n) (own T n)) (p.is p.some) (laws.good site y (own T (K.number_of y)) (l.live p.place p.some p.within))
    | inr absent ↦
        let g = l.gone c lt absent in
        subst (λ (n : ℕ). AtEachStep (K.is_good site n) (own T c)) g.number (laws.good site g.conn (own T c) g.stands)
  ]

pub stands_good : {C : Type 0} {G : Ghosts C} → Laws G.kind → (core : Core C G) (T : List Item) → Stands core T → Good G.kind (served core) T
stands_good {C} {G} laws core T s = record { begun = s.begun; parts = λ c lt. part_of G.kind laws (served core) (conns core) T c s.lists lt; between = s.between; fit = s.fit }
