-- A world that was given its one outside.
use Rattle.std.proofs.Common.{◌≡◌, Bool, true, false, List, [], ◌∷◌, ◌++◌, Option, Some, None, ◌∙◌, refl, sym, ap, subst, map}
use Rattle.std.specs.Prelude.{if◌then◌else◌}
use Rattle.host_base.specs.declared.site.Site.{Site}
use Rattle.host_trace.specs.declared.items.Item.{Item}
use Rattle.host_trace.specs.Told.{Joins}
use Rattle.host_loop.specs.declared.serve.LoopEnd.{LoopEnd}
use Rattle.host_loop.specs.declared.serve.LoopEnd.TheVariants.{Done}
use Rattle.memory_world.specs.MemoryWords.{listed_of, trace_of}
use Rattle.memory_world.specs.declared.outside.MemoryOutside.{MemoryOutside}
use Rattle.sample_run.specs.Played.{IsPlayed, IsPlayedWorld}

-- a list of one, by its end
one_of : {X : Type 0} (x last : X) (rest : List X) → x ∷ [] ≡ rest ++ last ∷ [] → (rest ≡ []) × (last ≡ x)
one_of x last [] e = (refl, cc)
one_of x last (y ∷ []) e = absurd (cc)
one_of x last (y ∷ (z ∷ rest)) e = absurd (cc)

one_trace : (t : Option (List Item)) (added : List (List Item)) → t ∷ [] ≡ map Some added → (T : List Item) × (t ≡ Some T) × (added ≡ T ∷ [])
one_trace t [] e = absurd (cc)
one_trace t (T ∷ []) e = (T, cc, refl)
one_trace t (T ∷ (V ∷ more)) e = absurd (cc)

none_before : (b : Bool) (was : List (List Item)) → (if b then Some [] else None) ≡ Some was → was ≡ []
none_before true was e = cc
none_before false was e = absurd (cc)

pub played_world : (site : Site) (outside last played : MemoryOutside) (outs rest after : List MemoryOutside) (made entered left : Option (List (List Item))) (b : Bool)
    (now : List (List Item)) (end : LoopEnd) → outs ≡ outside ∷ [] → outs ≡ rest ++ last ∷ [] → after ≡ rest ++ played ∷ [] → made ≡ (if b then Some [] else None) →
    entered ≡ made → Joins entered (map trace_of after) left → left ≡ Some now → ((T : List Item) → trace_of played ≡ Some T → IsPlayed site (listed_of last) end T) →
    end ≡ Done → IsPlayedWorld site (listed_of outside) left
played_world site outside last played outs rest after made entered left b now end one cut pushed first same joins told each done =
    let o = one_of outside last rest (sym one ∙ cut) in
    let j = joins now told in
    let all : after ≡ played ∷ [] = pushed ∙ ap (λ (os : List MemoryOutside). os ++ played ∷ []) o.0 in
    let t = one_trace (trace_of played) j.added (sym (ap (λ (os : List MemoryOutside). map trace_of os) all) ∙ j.each) in
    let none : j.was ≡ [] = none_before b j.was (sym first ∙ sym same ∙ j.told) in
    let grew : now ≡ t.0 ∷ [] = rw (none, t.2) at j.grew in
    record {
      trace = t.0;
      told = told ∙ ap Some grew;
      played = subst (λ (m : MemoryOutside). IsPlayed site (listed_of m) Done t.0) o.1 (subst (λ (e : LoopEnd). IsPlayed site (listed_of last) e t.0) done (each t.0 t.1));
    }
