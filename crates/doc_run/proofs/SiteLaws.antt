-- Why the traces are of the site that is said.
use Rattle.std.proofs.Common.{◌≡◌, ◌⊎◌, ℕ, Bool, List, [], ◌∷◌, ◌++◌, map, Option, Some, None, refl, sym, ap, ◌∙◌, subst, inl, inr, All}
use Rattle.std.proofs.lemmas.List.Elements.{All-map, All-weaker}
use mathlib.Core.Logic.{∥∥₁_map}
use Rattle.host_base.specs.Outsides.{Stored}
use Rattle.host_base.specs.declared.site.DocRoot.{DocRoot}
use Rattle.host_base.specs.declared.site.Site.{Site}
use Rattle.host_trace.specs.declared.items.Item.{Item}
use Rattle.host_trace.specs.Entries.{EnteredBy, Enters, entry_of}
use Rattle.host_trace.specs.declared.world.Entry.{Entry}
use Rattle.host_trace.specs.declared.world.Mode.{Mode}
use Rattle.host_run.specs.Entered.{EntersAt, EntersBy, IsEntered}
use Rattle.host_run.specs.Words.{Form, Does, Sample, Help, Version}
use Rattle.host_run.specs.declared.words.Task.TheVariants.{Once, Serve, Check, Upgrade, Explain}
use Rattle.host_run.specs.declared.top.Status.{Status}
use Rattle.host_run.specs.declared.top.Status.TheVariants.{Done, Usage, SiteRefused, SiteUnread, WorldRefused, Spent, ReportFault, NoMemory}
use Rattle.doc_files.specs.Both.{given_by}
use Rattle.doc_files.specs.Held.{Held}
use Rattle.doc_files.specs.Served.{Serves}
use Rattle.doc_world.specs.Given.{IsEnteredFor, IsServed, ServesEach, items_of}
use Rattle.doc_world.specs.declared.world.Given.{Given}
use Rattle.doc_world.proofs.GivenLaws.{given_of}
use Rattle.doc_run.specs.Documents.{IsServedAt, SaysAt, ServesSite}

-- the world was entered for a site of which this is so, or not at all
abbrev pub IsEnteredOnce : (Site → Type 0) → Option (List Entry) → Option (List Entry) → Type 0
IsEnteredOnce IsSite before after = (after ≡ before) ⊎ ((mode : Mode) × ((loops : ℕ) × IsEntered IsSite mode loops before after))

once_by : (IsSite : Site → Type 0) (mode : Mode) (loops : ℕ) (status : Status) (before after : Option (List Entry)) → EntersBy IsSite mode loops status before after
    → IsEnteredOnce IsSite before after
once_by IsSite mode loops Done before after e = inr (mode, (loops, e))
once_by IsSite mode loops Spent before after e = inr (mode, (loops, e))
once_by IsSite mode loops WorldRefused before after e = inr (mode, (loops, e))
once_by IsSite mode loops ReportFault before after e = inr (mode, (loops, e))
once_by IsSite mode loops NoMemory before after (inl e) = inl e
once_by IsSite mode loops NoMemory before after (inr e) = inr (mode, (loops, e))
once_by IsSite mode loops Usage before after e = inl e
once_by IsSite mode loops (SiteRefused fault) before after e = inl e
once_by IsSite mode loops SiteUnread before after e = inl e

once_at : (stored : Option (List Stored)) (form : Option Form) (status : Status) (before after : Option (List Entry)) → EntersAt stored form status before after
    → IsEnteredOnce (SaysAt stored form) before after
once_at stored (Some (Does Once place)) status before after e = once_by _ _ _ status before after e
once_at stored (Some (Does (Serve loops turns) place)) status before after e = once_by _ _ _ status before after e
once_at stored (Some (Does Explain place)) status before after e = once_by _ _ _ status before after e
once_at stored (Some (Does Check place)) status before after e = inl e
once_at stored (Some (Does Upgrade place)) status before after e = inl e
once_at stored (Some (Sample seed count)) status before after e = inl e
once_at stored (Some Help) status before after e = inl e
once_at stored (Some Version) status before after e = inl e
once_at stored None status before after e = inl e

-- the one entry of a list of one
only : (front back : List Entry) (one e : Entry) → one ∷ [] ≡ front ++ e ∷ back → one ≡ e
only [] back one e is = cc
only (f ∷ []) back one e is = absurd (cc)
only (f ∷ (g ∷ front)) back one e is = absurd (cc)

none : (front back : List Entry) (e : Entry) → [] ≡ front ++ e ∷ back → ⊥
none [] back e is = cc
none (f ∷ front) back e is = cc

some_is : {A : Type 0} (a b : A) → Some a ≡ Some b → a ≡ b
some_is a b e = cc

-- the folders of an entry of a world that was entered once at most are those of that site
site_of_docs : (stored : Option (List Stored)) (form : Option Form) (now : List Entry) (docs : List DocRoot) → IsEnteredOnce (SaysAt stored form) (Some []) (Some now)
    → IsEnteredFor now docs → (site : Site) × (SaysAt stored form site × (site.docs ≡ docs))
site_of_docs stored form now docs (inl same) e = absurd (none e.front e.back e.entry (sym (some_is now [] same) ∙ e.stands))
site_of_docs stored form now docs (inr once) e =
    let entered = once.1.1 in
    let by : EnteredBy (Some []) (entry_of once.0 entered.site once.1.0) now = entered.enters now refl in
    let one : now ≡ entry_of once.0 entered.site once.1.0 ∷ [] = by.grew ∙ ap (λ l. l ++ entry_of once.0 entered.site once.1.0 ∷ []) (sym (some_is [] by.was by.told)) in
    let same : entry_of once.0 entered.site once.1.0 ≡ e.entry = only e.front e.back (entry_of once.0 entered.site once.1.0) e.entry (sym one ∙ e.stands) in
    (entered.site, (entered.said, ap (λ x. x.site.docs) same ∙ e.docs_are))

served_at : (stored : Option (List Stored)) (form : Option Form) (held : Held) (entries : List Entry) → IsEnteredOnce (SaysAt stored form) (Some []) (Some entries)
    → (g : Given) → IsServed held entries g.docs g.items → ∥ IsServedAt stored form held g.items ∥₁
served_at stored form held entries once g s =
    ∥∥₁_map s.entered (λ e.
    let of = site_of_docs stored form entries g.docs once e in
    record { site = of.0; said = of.1.0; serves = subst (λ d. Serves d held g.items) (sym of.1.1) s.serves })

pub serves_site : (stored : Option (List Stored)) (form : Option Form) (status : Status) (before after : List Entry) (held : Option Held) (gs : List Given) (tells : Bool)
    (inner : Option (List (List Item))) → EntersAt stored form status (Some before) (Some after) → ServesEach held after gs (given_by tells (map items_of gs) inner)
    → before ≡ [] → ServesSite stored form held (given_by tells (map items_of gs) inner)
serves_site stored form status before after held gs tells inner enters serves fresh now h is holds =
    let once = once_at stored form status (Some before) (Some after) enters in
    subst (λ l. All (λ T. ∥ IsServedAt stored form h T ∥₁) l) (given_of tells (map items_of gs) inner now is).same
    (All-map (λ T. ∥ IsServedAt stored form h T ∥₁) items_of gs
    (All-weaker (λ g. IsServed h after g.docs g.items) (λ g. ∥ IsServedAt stored form h (items_of g) ∥₁)
    (served_at stored form h after (subst (λ l. IsEnteredOnce (SaysAt stored form) (Some l) (Some after)) fresh once)) gs (serves now h is holds)))
