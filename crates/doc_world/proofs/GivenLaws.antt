-- What is given back is joined.
use Rattle.std.proofs.Common.{◌≡◌, ℕ, Bool, true, false, List, [], ◌∷◌, ◌++◌, map, Option, Some, None, refl, sym, ap, ◌∙◌, subst, append_assoc, All, append-nil, length}
use Rattle.std.proofs.lemmas.List.Elements.{All-push, All-weaker}
use mathlib.Core.Logic.{∥∥₁_map}
use Rattle.host_base.specs.declared.site.DocRoot.{DocRoot}
use Rattle.host_trace.specs.declared.items.Item.{Item}
use Rattle.host_trace.specs.declared.world.Entry.{Entry}
use Rattle.host_trace.specs.Told.{Joins, JoinedTo, IsNew}
use Rattle.host_trace.proofs.JoinsLaws.{Joins-trans}
use Rattle.doc_files.specs.Both.{both, given_by}
use Rattle.doc_files.specs.Held.{Held}
use Rattle.doc_files.specs.Served.{Serves, ServesWhere}
use Rattle.doc_files.specs.declared.told.Told.{Told}
use Rattle.doc_files.proofs.BothLaws.{both_here}
use Rattle.doc_world.specs.Given.{IsEnteredFor, IsServed, ServesEach, items_of}
use Rattle.doc_world.specs.declared.world.Given.{Given}

pub record IsGiven (tells : Bool) (kept : List (List Item)) (inner : Option (List (List Item))) (now : List (List Item)) : Type 0 where
  pub told : tells ≡ true
  pub same : kept ≡ now
  pub within : List (List Item)
  pub is : inner ≡ Some within

pub given_of : (tells : Bool) (kept : List (List Item)) (inner : Option (List (List Item))) (now : List (List Item)) → given_by tells kept inner ≡ Some now
    → IsGiven tells kept inner now
given_of tells kept None now is = absurd (cc)
given_of true kept (Some within) now is = record { told = refl; same = cc; within = within; is = refl }
given_of false kept (Some within) now is = absurd (cc)

pub given_here : (tells : Bool) (kept : List (List Item)) (inner : Option (List (List Item))) (within : List (List Item)) → tells ≡ true → inner ≡ Some within
    → given_by tells kept inner ≡ Some kept
given_here tells kept inner within told is = rw (is, told) refl

one_told : (trace : Option (List Item)) (added : List (List Item)) → trace ∷ [] ≡ map Some added → (U : List Item) × (trace ≡ Some U)
one_told trace [] is = absurd (cc)
one_told trace (U ∷ []) is = (U, cc)
one_told trace (U ∷ V ∷ added) is = absurd (cc)

pub joins_one : (old new : Bool) (kept_old kept_new : List (List Item)) (before after : Option (List (List Item))) (t : Told) (trace : Option (List Item))
    → Joins before (trace ∷ []) after
    → (new ≡ true → (old ≡ true) × (t.tells ≡ true) × (kept_new ≡ kept_old ++ t.items.items ∷ []))
    → Joins (given_by old kept_old before) (both t trace ∷ []) (given_by new kept_new after)
joins_one old new kept_old kept_new before after t trace inner kept = λ now is.
    let g = given_of new kept_new after now is in
    let j : JoinedTo before (trace ∷ []) g.within = inner g.within g.is in
    let k = kept g.told in
    let u = one_told trace j.added j.each in
    record {
      was = kept_old;
      added = t.items.items ∷ [];
      told = given_here old kept_old before j.was k.0 j.told;
      each = rw (both_here t trace u.0 k.1 u.1) refl;
      grew = sym g.same ∙ k.2;
    }

pub is_new : (tells : Bool) (kept : List (List Item)) (inner : Option (List (List Item))) (t : Told) (trace : Option (List Item)) → IsNew inner trace
    → t.tells ≡ tells → t.items.items ≡ [] → IsNew (given_by tells kept inner) (both t trace)
is_new tells kept None t trace new told empty = rw new refl
is_new true kept (Some given) t trace new told empty = both_here t trace [] told new ∙ ap Some empty
is_new false kept (Some given) t trace new told empty = rw (new, told) refl

-- ---- entries

pub entered_on : (entries : List Entry) (entry : Entry) (docs : List DocRoot) → IsEnteredFor entries docs → IsEnteredFor (entries ++ entry ∷ []) docs
entered_on entries entry docs e = record {
  front = e.front;
  entry = e.entry;
  back = e.back ++ entry ∷ [];
  stands = ap (λ l. l ++ entry ∷ []) e.stands ∙ append_assoc e.front (e.entry ∷ e.back) (entry ∷ []);
  docs_are = e.docs_are;
}

pub entered_last : (entries : List Entry) (entry : Entry) → IsEnteredFor (entries ++ entry ∷ []) entry.site.docs
entered_last entries entry = record { front = entries; entry = entry; back = []; stands = refl; docs_are = refl }

served_on : (held : Held) (entries : List Entry) (entry : Entry) (g : Given) → IsServed held entries g.docs g.items → IsServed held (entries ++ entry ∷ []) g.docs g.items
served_on held entries entry g s = record { entered = ∥∥₁_map s.entered (entered_on entries entry g.docs); serves = s.serves }

pub serves_on : (held : Option Held) (entries : List Entry) (entry : Entry) (gs : List Given) (told : Option (List (List Item))) → ServesEach held entries gs told
    → ServesEach held (entries ++ entry ∷ []) gs told
serves_on held entries entry gs told s now h is holds =
    All-weaker (λ g. IsServed h entries g.docs g.items) (λ g. IsServed h (entries ++ entry ∷ []) g.docs g.items) (served_on h entries entry) gs (s now h is holds)

-- one that came back
pub serves_one : (held now : Option Held) (store : Option Held) (entries : List Entry) (folders : Option (List DocRoot)) (docs : List DocRoot) (old new kept : Bool) (ours : Bool)
    (gs gs' : List Given) (before after : Option (List (List Item))) (t : Told) (trace : Option (List Item))
    → ServesEach held entries gs (given_by old (map items_of gs) before)
    → now ≡ held
    → ((d : List DocRoot) → folders ≡ Some d → ∥ IsEnteredFor entries d ∥₁)
    → (new ≡ true → (old ≡ true) × (kept ≡ true))
    → (kept ≡ true → (ours ≡ true) × (t.tells ≡ true) × (map items_of gs' ≡ map items_of gs ++ t.items.items ∷ []))
    → (kept ≡ true → (g : Given) × (gs' ≡ gs ++ g ∷ []) × (g.items ≡ t.items.items) × (g.docs ≡ docs))
    → (ours ≡ true → (held ≡ store) × (folders ≡ Some docs))
    → Joins before (trace ∷ []) after
    → ServesWhere store docs (both t trace)
    → ServesEach now entries gs' (given_by new (map items_of gs') after)
serves_one held now store entries folders docs old new kept ours gs gs' before after t trace was same folder tells keeps one mine joins serves given h is holds =
    let g = given_of new (map items_of gs') after given is in
    let both_tell = tells g.told in
    let k = keeps both_tell.1 in
    let p = one both_tell.1 in
    let m = mine k.0 in
    let j : JoinedTo before (trace ∷ []) g.within = joins g.within g.is in
    let u = one_told trace j.added j.each in
    let holds_there : held ≡ Some h = sym same ∙ holds in
    let s : Serves docs h t.items.items = serves t.items.items h (both_here t trace u.0 k.1 u.1) (sym m.0 ∙ holds_there) in
    subst (λ l. All (λ g. IsServed h entries g.docs g.items) l) (sym p.1)
    (All-push (λ g. IsServed h entries g.docs g.items) gs p.0 (was (map items_of gs) h (given_here old (map items_of gs) before j.was both_tell.0 j.told) holds_there)
    (rw (p.2, p.3) (record { entered = folder docs m.1; serves = s })))

-- ---- one step of the world

-- the first of some that are given back, and the others
pub joins_step : {X : Type 0} (f : X → Option (List Item)) (out : X) (rest all : List X) (before between after : Option (List (List Item))) → all ≡ out ∷ rest
    → Joins before (f out ∷ []) between → Joins between (map f rest) after → Joins before (map f all) after
joins_step f out rest all before between after is one more = subst (λ l. Joins before (map f l) after) (sym is) (Joins-trans one more)

pub joins_none : (given : Option (List (List Item))) → Joins given [] given
joins_none given = λ now is. record { was = now; added = []; told = is; each = refl; grew = sym (append-nil now) }

some_is : {A : Type 0} (a b : A) → Some a ≡ Some b → a ≡ b
some_is a b e = cc

-- the folders of the last entry are of an entry, once there is one more
pub entered_still : (entries now : List Entry) (entry : Entry) (folders : Option (List DocRoot)) → now ≡ entries ++ entry ∷ []
    → ((docs : List DocRoot) → folders ≡ Some docs → ∥ IsEnteredFor entries docs ∥₁)
    → (docs : List DocRoot) → folders ≡ Some docs → ∥ IsEnteredFor now docs ∥₁
entered_still entries now entry folders more was docs is =
    subst (λ l. ∥ IsEnteredFor l docs ∥₁) (sym more) (∥∥₁_map (was docs is) (entered_on entries entry docs))

pub entered_now : (entries now : List Entry) (entry : Entry) (folders : List DocRoot) → now ≡ entries ++ entry ∷ [] → folders ≡ entry.site.docs
    → (docs : List DocRoot) → Some folders ≡ Some docs → ∥ IsEnteredFor now docs ∥₁
entered_now entries now entry folders more of docs is =
    let same : entry.site.docs ≡ docs = sym of ∙ some_is folders docs is in
    subst (λ l. ∥ IsEnteredFor l docs ∥₁) (sym more) ∣ subst (λ d. IsEnteredFor (entries ++ entry ∷ []) d) same (entered_last entries entry) ∣₁

-- .. and the traces that were served are still
pub serves_still : (held held' : Option Held) (entries entries' : List Entry) (entry : Entry) (gs gs' : List Given) (tells : Bool) (inner inner' : Option (List (List Item)))
    → held' ≡ held → entries' ≡ entries ++ entry ∷ [] → gs' ≡ gs → inner' ≡ inner
    → ServesEach held entries gs (given_by tells (map items_of gs) inner) → ServesEach held' entries' gs' (given_by tells (map items_of gs') inner')
serves_still held held' entries entries' entry gs gs' tells inner inner' same_held more same_gs same_inner was =
    rw (same_held, more, same_gs, same_inner) (serves_on held entries entry gs (given_by tells (map items_of gs) inner) was)

pub empty_of : {X : Type 0} (xs : List X) → length xs ≡ 0 → xs ≡ []
empty_of [] is = refl
empty_of (x ∷ xs) is = absurd (cc)
