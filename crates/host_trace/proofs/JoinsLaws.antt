-- What is given back in two goes is given back.
use Rattle.std.proofs.Common.{List, [], ◌++◌, Option, refl, sym, ◌∙◌, ap, append_assoc}
use Rattle.std.proofs.lemmas.List.{map-append, append-nil}
use Rattle.host_trace.specs.declared.items.Item.{Item}
use Rattle.host_trace.specs.Told.{Joins, JoinedTo}

pub Joins-nil : (a : Option (List (List Item))) → Joins a [] a
Joins-nil a now told = record { was = now; added = []; told = told; each = refl; grew = sym (append-nil now) }

pub Joins-trans : {a b c : Option (List (List Item))} {xs ys : List (Option (List Item))} → Joins a xs b → Joins b ys c → Joins a (xs ++ ys) c
Joins-trans {a} {b} {c} {xs} {ys} first second now told =
    let two : JoinedTo b ys now = second now told in
    let one : JoinedTo a xs two.was = first two.was two.told in
    record {
      was = one.was;
      added = one.added ++ two.added;
      told = one.told;
      each = simp map-append (rw (one.each, two.each) refl);
      grew = two.grew ∙ (ap (λ l. l ++ two.added) one.grew ∙ append_assoc one.was one.added two.added);
    }
