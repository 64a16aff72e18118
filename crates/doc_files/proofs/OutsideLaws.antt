-- What an outside keeps, where it tells, goes on with what it hears and does.
use Rattle.std.proofs.Props.{props}
use mathlib.Core.Logic.{∥∥₁_elim, ∥∥₁_map}
use Rattle.std.proofs.Common.{◌≡◌, ℕ, true, false, List, [], ◌∷◌, ◌++◌, map, Option, Some, refl, sym, ap, ◌∙◌, subst, append-nil}
use Rattle.host_base.specs.declared.site.DocRoot.{DocRoot}
use Rattle.host_trace.specs.declared.items.Act.{Act}
use Rattle.host_trace.specs.declared.items.Event.{Event}
use Rattle.host_trace.specs.declared.items.Item.{Item}
use Rattle.host_trace.specs.declared.items.Item.TheVariants.{In, Out}
use Rattle.host_trace.specs.declared.outside.Acted.{Acted}
use Rattle.host_trace.specs.declared.outside.Acted.TheVariants.{Done, NoRoom}
use Rattle.host_trace.specs.Told.{ActsOn, Added, HeardBy, Hears}
use Rattle.doc_files.specs.declared.child.Child.{Child}
use Rattle.doc_files.specs.declared.told.Told.{Told}
use Rattle.doc_files.specs.Both.{both}
use Rattle.doc_files.specs.Held.{Held}
use Rattle.doc_files.specs.Owed.{IsOrderly, Keeps, KeepsWhere, Knows, begins_once, starts_document}
use Rattle.doc_files.specs.Served.{ServesWhere}
use Rattle.doc_files.proofs.BothLaws.{told_of}
use Rattle.doc_files.proofs.KeepsLaws.{keeps_done, keeps_inner, keeps_new, keeps_own, keeps_passed, keeps_same}

some_is : {A : Type 0} (a b : A) → Some a ≡ Some b → a ≡ b
some_is a b e = cc

module _ (docs : List DocRoot) (held now : Option Held) (same : now ≡ held) (old new : Told) where
  -- an event of a document's child
  pub where_hears : (inner : Option (List Item)) (limit : ℕ) (e : Event) (cs next : List Child) → KeepsWhere held docs (both old inner) inner cs
      → Hears limit (both old inner) e (both new inner)
      → ((T : List Item) (h : Held) → held ≡ Some h → Knows h docs T cs → Knows h docs (T ++ In e ∷ []) next)
      → KeepsWhere now docs (both new inner) inner next
  where_hears inner limit e cs next keeps heard known T U h told there holds =
      let b : HeardBy limit (both old inner) e T = heard T told in
      ∥∥₁_map (keeps b.was U h b.told there (sym same ∙ holds))
      (λ k. subst (λ t. Keeps h docs t U next) (sym b.grew)
      (keeps_own h docs b.was U cs k next limit e b.fits_then (known b.was h (sym same ∙ holds) k.known)))

  -- an event of the inner outside
  pub where_hears_inner : (before after : Option (List Item)) (limit : ℕ) (e : Event) (cs next : List Child) → KeepsWhere held docs (both old before) before cs
      → next ≡ cs → Hears limit before e after → Hears limit (both old before) e (both new after) → KeepsWhere now docs (both new after) after next
  where_hears_inner before after limit e cs next keeps is there heard T U h told inside holds =
      let b : HeardBy limit (both old before) e T = heard T told in
      let i : HeardBy limit before e U = there U inside in
      ∥∥₁_map (keeps b.was i.was h b.told i.told (sym same ∙ holds))
      (λ k. rw (b.grew, i.grew, is) (keeps_inner h docs b.was i.was cs k limit limit e b.fits_then i.fits_then))

  -- an act on a document's child
  pub where_acts : (inner : Option (List Item)) (act : Act) (acted : Acted) (cs next : List Child) → KeepsWhere held docs (both old inner) inner cs
      → ActsOn (both old inner) act acted (both new inner)
      → (acted ≡ Done → new.tells ≡ true → begins_once old.items.items act ≡ true)
      → (acted ≡ Done → (T : List Item) (h : Held) → IsOrderly T → begins_once T act ≡ true → Knows h docs T cs → Knows h docs (T ++ Out act ∷ []) next)
      → (acted ≡ NoRoom → next ≡ cs)
      → KeepsWhere now docs (both new inner) inner next
  where_acts inner act Done cs next keeps acts once known none T U h told there holds =
      let b : Added (both old inner) (act ∷ []) T = acts T told in
      let begins : begins_once b.was act ≡ true = ap (λ t. begins_once t act) (sym (told_of old inner b.was b.told).items) ∙ once refl (told_of new inner T told).tells in
      ∥∥₁_map (keeps b.was U h b.told there (sym same ∙ holds))
      (λ k. subst (λ t. Keeps h docs t U next) (sym b.grew)
      (keeps_done h docs b.was U cs k next act begins (known refl b.was h k.orderly begins k.known)))
  where_acts inner act NoRoom cs next keeps acts once known none T U h told there holds =
      let b : Added (both old inner) [] T = acts T told in
      ∥∥₁_map (keeps b.was U h b.told there (sym same ∙ holds)) (λ k. rw (b.grew, append-nil b.was, none refl) k)

  -- an act of the inner outside
  pub where_passed : (before after : Option (List Item)) (act : Act) (acted : Acted) (cs next : List Child) → KeepsWhere held docs (both old before) before cs
      → ActsOn before act acted after → ActsOn (both old before) act acted (both new after)
      → (acted ≡ Done → new.tells ≡ true → begins_once old.items.items act ≡ true)
      → starts_document docs act ≡ false
      → ((T : List Item) (h : Held) → Knows h docs T cs → Knows h docs T next)
      → KeepsWhere now docs (both new after) after next
  where_passed before after act Done cs next keeps there acts once none known T U h told inside holds =
      let b : Added (both old before) (act ∷ []) T = acts T told in
      let i : Added before (act ∷ []) U = there U inside in
      let begins : begins_once b.was act ≡ true = ap (λ t. begins_once t act) (sym (told_of old before b.was b.told).items) ∙ once refl (told_of new after T told).tells in
      ∥∥₁_map (keeps b.was i.was h b.told i.told (sym same ∙ holds))
      (λ k. rw (b.grew, i.grew) (keeps_passed h docs b.was i.was cs k next act begins none (known b.was h k.known)))
  where_passed before after act NoRoom cs next keeps there acts once none known T U h told inside holds =
      let b : Added (both old before) [] T = acts T told in
      let i : Added before [] U = there U inside in
      ∥∥₁_map (keeps b.was i.was h b.told i.told (sym same ∙ holds))
      (λ k. rw (b.grew, append-nil b.was, i.grew, append-nil i.was) (keeps_same h docs b.was i.was cs next (known b.was h k.known) k))

-- an outside that is new
pub where_new : (docs : List DocRoot) (held : Option Held) (told : Told) (inner : Option (List Item)) (cs : List Child) → told.items.items ≡ []
    → ((U : List Item) → inner ≡ Some U → U ≡ []) → cs ≡ [] → KeepsWhere held docs (both told inner) inner cs
where_new docs held told inner cs empty fresh none T U h is there holds =
    let nothing : T ≡ [] = sym (told_of told inner T is).items ∙ empty in
    ∣ rw (nothing, fresh U there, none) (keeps_new h docs) ∣₁

pub where_serves : (docs : List DocRoot) (held : Option Held) (told : Told) (inner : Option (List Item)) (cs : List Child) → KeepsWhere held docs (both told inner) inner cs
    → ServesWhere held docs (both told inner)
where_serves docs held told inner cs keeps T h is holds =
    let t = told_of told inner T is in
    ∥∥₁_elim (keeps T t.within h is t.is holds) (Prim.hlevel props) (λ k. k.known.serves)
