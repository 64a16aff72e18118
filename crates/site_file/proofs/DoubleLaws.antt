-- Texts that stand twice, looked for one after the other.
use Rattle.std.proofs.Common.{◌≡◌, ℕ, ◌+◌, ◌<◌, ◌≤◌, Bool, true, false, List, [], ◌∷◌, ◌++◌, take, drop, map, length, get_or, Option, Some, None, Bor, ap, sym, ◌∙◌}
use Rattle.std.proofs.lemmas.List.{take_more, take-map, drop_more, drop_all, map-append}
use Rattle.std.specs.List.{list_any}
use Rattle.host_base.proofs.AnyLaws.{list_any-map}
use Rattle.host_base.specs.declared.site.VHost.{VHost}
use Rattle.site_file.specs.Doubles.{first_again, path_again, path_again_in, path_or}
use Rattle.site_file.specs.Tables.{text_at}
use Rattle.site_file.proofs.EachLaws.{map_left, none_left}

-- the texts before an index and the one there, under a function
pub map_before : {X Y : Type 0} (f : X → Y) (xs : List X) (index : ℕ) (x : X) → index < length xs → x ≡ get_or xs index x
    → take (index + 1) (map f xs) ≡ take index (map f xs) ++ f x ∷ []
map_before f xs index x within is =
    take-map f (index + 1) xs
    ∙ ap (map f) (take_more xs index x within)
    ∙ map-append f (take index xs) (get_or xs index x ∷ [])
    ∙ ap (λ last. map f (take index xs) ++ f last ∷ []) (sym is)
    ∙ ap (λ front. front ++ f x ∷ []) (sym (take-map f index xs))

module _ (same : List ℕ → List ℕ → Bool) (texts : List (Bor (List ℕ))) (index : ℕ) where
  -- what is still to be looked for at an index
  abbrev pub left : Option (List ℕ)
  left = first_again same (take index (map text_at texts)) (drop index (map text_at texts))

  among : (text : Bor (List ℕ)) (before : List (Bor (List ℕ))) (found : Bool) → before ≡ take index texts → list_any (λ other. same text.now other.now) before ≡ found
      → list_any (same text.now) (take index (map text_at texts)) ≡ found
  among text before found is known =
      ap (list_any (same text.now)) (take-map text_at index texts)
      ∙ list_any-map (same text.now) text_at (take index texts)
      ∙ ap (list_any (λ other. same text.now other.now)) (sym is)
      ∙ known

  pub again_here : (text : Bor (List ℕ)) (before : List (Bor (List ℕ))) (all : Option (List ℕ)) → left ≡ all → index < length texts → text ≡ get_or texts index text
      → before ≡ take index texts → list_any (λ other. same text.now other.now) before ≡ true → Some text.now ≡ all
  unfolding first_again
  again_here text before all so_far within is front known =
      let here : first_again same (take index (map text_at texts)) (text.now ∷ drop (index + 1) (map text_at texts)) ≡ Some text.now = rw (among text before true front known) in
      sym here ∙ ap (first_again same (take index (map text_at texts))) (sym (map_left text_at texts index text within is)) ∙ so_far

  pub again_later : (text : Bor (List ℕ)) (before : List (Bor (List ℕ))) (all : Option (List ℕ)) → left ≡ all → index < length texts → text ≡ get_or texts index text
      → before ≡ take index texts → list_any (λ other. same text.now other.now) before ≡ false
      → first_again same (take (index + 1) (map text_at texts)) (drop (index + 1) (map text_at texts)) ≡ all
  unfolding first_again
  again_later text before all so_far within is front known =
      let here : first_again same (take index (map text_at texts)) (text.now ∷ drop (index + 1) (map text_at texts)) ≡ first_again same (take index (map text_at texts) ++ text.now ∷ []) (drop (index + 1) (map text_at texts)) = rw (among text before false front known) in
      ap (λ seen. first_again same seen (drop (index + 1) (map text_at texts))) (map_before text_at texts index text within is)
      ∙ sym here ∙ ap (first_again same (take index (map text_at texts))) (sym (map_left text_at texts index text within is)) ∙ so_far

  pub again_nowhere : (all : Option (List ℕ)) → left ≡ all → length texts ≤ index → None ≡ all
  unfolding first_again
  again_nowhere all so_far past = ap (first_again same (take index (map text_at texts))) (sym (none_left text_at texts index past)) ∙ so_far

module _ (hosts : List VHost) (index : ℕ) (host : VHost) (within : index < length hosts) (is : host ≡ get_or hosts index host) where
  left_is : drop index hosts ≡ host ∷ drop (index + 1) hosts
  left_is = drop_more hosts index host within ∙ ap (λ first. first ∷ drop (index + 1) hosts) (sym is)

  pub path_here : (path : List ℕ) (all : Option (List ℕ)) → path_again (drop index hosts) ≡ all → path_again_in host ≡ Some path → Some path ≡ all
  unfolding path_again
  path_here path all so_far found = ap (λ here. path_or here (path_again (drop (index + 1) hosts))) (sym found) ∙ ap path_again (sym left_is) ∙ so_far

  pub path_later : (all : Option (List ℕ)) → path_again (drop index hosts) ≡ all → path_again_in host ≡ None → path_again (drop (index + 1) hosts) ≡ all
  unfolding path_again
  path_later all so_far found = ap (λ here. path_or here (path_again (drop (index + 1) hosts))) (sym found) ∙ ap path_again (sym left_is) ∙ so_far

pub path_nowhere : (hosts : List VHost) (index : ℕ) (all : Option (List ℕ)) → path_again (drop index hosts) ≡ all → length hosts ≤ index → None ≡ all
unfolding path_again
path_nowhere hosts index all so_far past = ap path_again (sym (drop_all index hosts past)) ∙ so_far
