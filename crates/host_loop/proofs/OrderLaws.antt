-- Outsides that are moved into lanes and back, the last first, keep their order.
use Rattle.std.proofs.Common.{◌≡◌, ℕ, ◌<◌, List, [], ◌∷◌, ◌++◌, ◌∙◌, sym, subst, ap, map, length, suc, get_or, append_assoc, arith}
use Rattle.std.specs.Prelude.{reverse}
use Rattle.std.specs.List.{AllZip}
use Rattle.std.proofs.lemmas.List.Elements.{AllZip-push}
use Rattle.std.proofs.lemmas.List.{append-nil, map-append, reverse-append}

module _ {L O : Type 0} (out : L → O) where
  -- the last lane's outside stands behind those that were moved
  across : (outs : List O) (lanes : List L) (lane : L) → outs ++ reverse (map out (lanes ++ lane ∷ [])) ≡ (outs ++ out lane ∷ []) ++ reverse (map out lanes)
  across outs lanes lane =
      ap (λ os. outs ++ reverse os) (map-append out lanes (lane ∷ []))
      ∙ (ap (λ os. outs ++ os) (reverse-append (map out lanes) (out lane ∷ [])) ∙ sym (append_assoc outs (out lane ∷ []) (reverse (map out lanes))))

  pub moved_in : (outs rest whole : List O) (lanes : List L) (lane : L) → outs ≡ rest ++ out lane ∷ [] → outs ++ reverse (map out lanes) ≡ whole →
      rest ++ reverse (map out (lanes ++ lane ∷ [])) ≡ whole
  moved_in outs rest whole lanes lane e order = across rest lanes lane ∙ (ap (λ os. os ++ reverse (map out lanes)) (sym e) ∙ order)

  pub moved_back : (outs whole : List O) (lanes rest : List L) (lane : L) → lanes ≡ rest ++ lane ∷ [] → outs ++ reverse (map out lanes) ≡ whole →
      (outs ++ out lane ∷ []) ++ reverse (map out rest) ≡ whole
  moved_back outs whole lanes rest lane e order = sym (across outs rest lane) ∙ (ap (λ ls. outs ++ reverse (map out ls)) (sym e) ∙ order)

  -- all were moved
  pub none_left : (outs whole : List O) (lanes : List L) → length outs ≡ 0 → outs ++ reverse (map out lanes) ≡ whole → reverse (map out lanes) ≡ whole
  none_left [] whole lanes none e = e
  none_left (o ∷ outs) whole lanes none e = absurd (omega arith)

  pub all_back : (outs whole : List O) (lanes : List L) → length lanes ≡ 0 → outs ++ reverse (map out lanes) ≡ whole → outs ≡ whole
  all_back outs whole [] none e = sym (append-nil outs) ∙ e
  all_back outs whole (l ∷ lanes) none e = absurd (omega arith)

  -- what is so of each lane at its place is so of its outside
  pub zip_outs : (Q : L → L → Type 0) (R : O → O → Type 0) → ((a b : L) → Q a b → R (out a) (out b)) → (xs ys : List L) → length ys ≡ length xs →
      ((k : ℕ) (d : L) → k < length xs → Q (get_or xs k d) (get_or ys k d)) → AllZip R (map out xs) (map out ys)
  zip_outs Q R gives [] [] same each = tt
  zip_outs Q R gives [] (y ∷ ys) same each = absurd (omega arith)
  zip_outs Q R gives (x ∷ xs) [] same each = absurd (omega arith)
  zip_outs Q R gives (x ∷ xs) (y ∷ ys) same each = (
    gives x y (each 0 x (omega arith)),
    zip_outs Q R gives xs ys (omega arith) (λ k d lt. each (suc k) d (omega arith)),
  )

pub zip_reverse : {X : Type 0} (R : X → X → Type 0) (xs ys : List X) → AllZip R xs ys → AllZip R (reverse xs) (reverse ys)
zip_reverse R [] [] each = tt
zip_reverse R [] (y ∷ ys) each = absurd each
zip_reverse R (x ∷ xs) [] each = absurd each
zip_reverse {X = X} R (x ∷ xs) (y ∷ ys) each =
    let pushed : AllZip R (reverse xs ++ x ∷ []) (reverse ys ++ y ∷ []) = AllZip-push R (reverse xs) (reverse ys) x y (zip_reverse R xs ys each.1) each.0 in
    subst (λ (us : List X). AllZip R us (reverse (y ∷ ys))) (sym (reverse-append (x ∷ []) xs))
    (subst (λ (vs : List X). AllZip R (reverse xs ++ x ∷ []) vs) (sym (reverse-append (y ∷ []) ys)) pushed)
