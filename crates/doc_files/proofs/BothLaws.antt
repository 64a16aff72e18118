-- A trace kept beside that of an inner outside goes on where both do.
use Rattle.std.proofs.Common.{◌≡◌, ◌==◌, ℕ, ◌∙◌, Bool, true, false, List, [], ◌∷◌, ◌++◌, refl, sym, Option, Some, None, append-nil, ◌&&◌}
use Rattle.host_trace.specs.declared.items.Act.{Act}
use Rattle.host_trace.specs.declared.items.Event.{Event}
use Rattle.host_trace.specs.declared.items.Event.TheVariants.{Accepted, ClientBytes, ClientEof, ClientGone, Wrote, Started, StartFailed, StartFull, ChildBytes, ChildEof, ChildBroken, Took, InputGone, Exited, WsText, WsBinary, WsClosed, WsBad, NoRoom, Tick, Stop}
use Rattle.host_trace.specs.declared.items.Item.{Item}
use Rattle.host_trace.specs.declared.items.Item.TheVariants.{In, Out}
use Rattle.host_trace.specs.Fits.{fits, is_start_open}
use Rattle.host_trace.specs.Told.{Adds, Added, Hears, HeardBy, is_full_book}
use Rattle.doc_files.specs.declared.told.Told.{Told}
use Rattle.doc_files.specs.Both.{both, both_by, is_of_limit, seen_by}

pub record IsTold (t : Told) (inner : Option (List Item)) (now : List Item) : Type 0 where
  pub tells : t.tells ≡ true
  pub items : t.items.items ≡ now
  pub within : List Item
  pub is : inner ≡ Some within

told_by : (tells : Bool) (items : List Item) (inner : Option (List Item)) (now : List Item) → both_by tells items inner ≡ Some now
    → (tells ≡ true) × (items ≡ now) × ((U : List Item) × (inner ≡ Some U))
told_by tells items None now is = absurd (cc)
told_by true items (Some U) now is = (refl, cc, (U, refl))
told_by false items (Some U) now is = absurd (cc)

pub told_of : (t : Told) (inner : Option (List Item)) (now : List Item) → both t inner ≡ Some now → IsTold t inner now
told_of t inner now is = let p = told_by t.tells t.items.items inner now is in record { tells = p.0; items = p.1; within = p.2.0; is = p.2.1 }

pub both_here : (t : Told) (inner : Option (List Item)) (U : List Item) → t.tells ≡ true → inner ≡ Some U → both t inner ≡ Some t.items.items
both_here t inner U tells is = rw (is, tells) refl

and_right : (a b : Bool) → (a && b) ≡ true → b ≡ true
and_right true b h = h
and_right false b h = absurd (cc)

and_left : (a b : Bool) → (a && b) ≡ true → a ≡ true
and_left true b h = refl
and_left false b h = absurd (cc)

and_both : (a b : Bool) → a ≡ true → b ≡ true → (a && b) ≡ true
and_both true true one two = refl
and_both true false one two = absurd (cc)
and_both false b one two = absurd (cc)

pub limit_of_fits : (limit : ℕ) (T : List Item) (event : Event) → fits limit T event ≡ true → is_of_limit limit event ≡ true
limit_of_fits limit T (StartFull k seen) h = and_right (is_start_open T k) _ h
limit_of_fits limit T (Accepted peer) h = refl
limit_of_fits limit T (ClientBytes c bytes) h = refl
limit_of_fits limit T (ClientEof c) h = refl
limit_of_fits limit T (ClientGone c) h = refl
limit_of_fits limit T (Wrote c n) h = refl
limit_of_fits limit T (Started k) h = refl
limit_of_fits limit T (StartFailed k) h = refl
limit_of_fits limit T (ChildBytes k bytes) h = refl
limit_of_fits limit T (ChildEof k) h = refl
limit_of_fits limit T (ChildBroken k) h = refl
limit_of_fits limit T (Took k n) h = refl
limit_of_fits limit T (InputGone k) h = refl
limit_of_fits limit T (Exited k) h = refl
limit_of_fits limit T (WsText c bytes) h = refl
limit_of_fits limit T (WsBinary c) h = refl
limit_of_fits limit T (WsClosed c) h = refl
limit_of_fits limit T (WsBad c) h = refl
limit_of_fits limit T (NoRoom c) h = refl
limit_of_fits limit T (Tick secs) h = refl
limit_of_fits limit T Stop h = refl

pub hears_both : (limit : ℕ) (old new : Told) (before after : Option (List Item)) (event : Event) → Hears limit before event after
    → (new.tells ≡ true → (old.tells ≡ true) × (new.items.items ≡ old.items.items ++ In event ∷ []))
    → (new.tells ≡ true → (l : ℕ) → is_of_limit l event ≡ true → fits l old.items.items event ≡ true)
    → Hears limit (both old before) event (both new after)
hears_both limit old new before after event inner kept fit = λ now is.
    let t = told_of new after now is in
    let h : HeardBy limit before event t.within = inner t.within t.is in
    let k = kept t.tells in
    record {
      was = old.items.items;
      told = both_here old before h.was k.0 h.told;
      grew = sym t.items ∙ k.1;
      fits_then = fit t.tells limit (limit_of_fits limit h.was event h.fits_then);
    }

pub adds_both : (old new : Told) (before after : Option (List Item)) (act : Act) → Adds before (act ∷ []) after
    → (new.tells ≡ true → (old.tells ≡ true) × (new.items.items ≡ old.items.items ++ Out act ∷ []))
    → Adds (both old before) (act ∷ []) (both new after)
adds_both old new before after act inner kept = λ now is.
    let t = told_of new after now is in
    let h : Added before (act ∷ []) t.within = inner t.within t.is in
    let k = kept t.tells in
    record { was = old.items.items; told = both_here old before h.was k.0 h.told; grew = sym t.items ∙ k.1 }

pub adds_none : (old : Told) (before after : Option (List Item)) → Adds before [] after → Adds (both old before) [] (both old after)
adds_none old before after inner = λ now is.
    let t = told_of old after now is in
    let h : Added before [] t.within = inner t.within t.is in
    record { was = old.items.items; told = both_here old before h.was t.tells h.told; grew = sym t.items ∙ sym (append-nil old.items.items) }

pub limit_of_others : (limit : ℕ) (event : Event) → is_full_book event ≡ false → is_of_limit limit event ≡ true
limit_of_others limit (StartFull k seen) h = absurd (cc)
limit_of_others limit (Accepted peer) h = refl
limit_of_others limit (ClientBytes c bytes) h = refl
limit_of_others limit (ClientEof c) h = refl
limit_of_others limit (ClientGone c) h = refl
limit_of_others limit (Wrote c n) h = refl
limit_of_others limit (Started k) h = refl
limit_of_others limit (StartFailed k) h = refl
limit_of_others limit (ChildBytes k bytes) h = refl
limit_of_others limit (ChildEof k) h = refl
limit_of_others limit (ChildBroken k) h = refl
limit_of_others limit (Took k n) h = refl
limit_of_others limit (InputGone k) h = refl
limit_of_others limit (Exited k) h = refl
limit_of_others limit (WsText c bytes) h = refl
limit_of_others limit (WsBinary c) h = refl
limit_of_others limit (WsClosed c) h = refl
limit_of_others limit (WsBad c) h = refl
limit_of_others limit (NoRoom c) h = refl
limit_of_others limit (Tick secs) h = refl
limit_of_others limit Stop h = refl

pub hears_alone : (limit : ℕ) (old new : Told) (inner : Option (List Item)) (event : Event) → is_full_book event ≡ false
    → (new.tells ≡ true → (old.tells ≡ true) × (new.items.items ≡ old.items.items ++ In event ∷ []))
    → (new.tells ≡ true → (l : ℕ) → is_of_limit l event ≡ true → fits l old.items.items event ≡ true)
    → Hears limit (both old inner) event (both new inner)
hears_alone limit old new inner event plain kept fit = λ now is.
    let t = told_of new inner now is in
    let k = kept t.tells in
    record {
      was = old.items.items;
      told = both_here old inner t.within k.0 t.is;
      grew = sym t.items ∙ k.1;
      fits_then = fit t.tells limit (limit_of_others limit event plain);
    }

pub adds_alone : (old new : Told) (inner : Option (List Item)) (act : Act)
    → (new.tells ≡ true → (old.tells ≡ true) × (new.items.items ≡ old.items.items ++ Out act ∷ []))
    → Adds (both old inner) (act ∷ []) (both new inner)
adds_alone old new inner act kept = λ now is.
    let t = told_of new inner now is in
    let k = kept t.tells in
    record { was = old.items.items; told = both_here old inner t.within k.0 t.is; grew = sym t.items ∙ k.1 }

pub adds_nothing : (old : Told) (inner : Option (List Item)) → Adds (both old inner) [] (both old inner)
adds_nothing old inner = λ now is.
    let t = told_of old inner now is in
    record { was = old.items.items; told = both_here old inner t.within t.tells t.is; grew = sym t.items ∙ sym (append-nil old.items.items) }

-- what fits with the number that the event itself says fits with every limit that it is of
pub fits_seen : (T : List Item) (event : Event) → fits (seen_by event) T event ≡ true → (limit : ℕ) → is_of_limit limit event ≡ true → fits limit T event ≡ true
fits_seen T (StartFull k seen) h limit same = and_both (is_start_open T k) (seen == limit) (and_left (is_start_open T k) (seen == seen) h) same
fits_seen T (Accepted peer) h limit same = h
fits_seen T (ClientBytes c bytes) h limit same = h
fits_seen T (ClientEof c) h limit same = h
fits_seen T (ClientGone c) h limit same = h
fits_seen T (Wrote c n) h limit same = h
fits_seen T (Started k) h limit same = h
fits_seen T (StartFailed k) h limit same = h
fits_seen T (ChildBytes k bytes) h limit same = h
fits_seen T (ChildEof k) h limit same = h
fits_seen T (ChildBroken k) h limit same = h
fits_seen T (Took k n) h limit same = h
fits_seen T (InputGone k) h limit same = h
fits_seen T (Exited k) h limit same = h
fits_seen T (WsText c bytes) h limit same = h
fits_seen T (WsBinary c) h limit same = h
fits_seen T (WsClosed c) h limit same = h
fits_seen T (WsBad c) h limit same = h
fits_seen T (NoRoom c) h limit same = h
fits_seen T (Tick secs) h limit same = h
fits_seen T Stop h limit same = h
