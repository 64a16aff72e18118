-- A value that is put into a map of names is put into its fields.
use Rattle.std.proofs.Common.{◌≡◌, ℕ, Bool, true, false, List, [], ◌∷◌, refl, sym, ap, ◌∙◌}
use Rattle.std.proofs.lemmas.Bool.{cond-true, cond-false}
use Rattle.std.proofs.lemmas.Slice.Eq.{bytes_eq-Decides}
use Rattle.std.specs.Str.{bytes_eq}
use Rattle.std.specs.declared.vec.Vec.{Vec}
use Rattle.std.specs.declared.alloc.Global.{Global}
use Rattle.indexmap.specs.IndexMap.{insert_entry}
use Rattle.host_base.specs.declared.fields.Field.{Field}
use Rattle.fcgi_records.specs.Pairs.{field_with, put}
use Rattle.fcgi_records.specs.Entries.{field_in, fields_in}

abbrev pub is_same : Vec ℕ Global → Vec ℕ Global → Bool
is_same x y = bytes_eq x.items y.items

module _ (name value : Vec ℕ Global) where
  put_at : (e : Vec ℕ Global × Vec ℕ Global) (es : List (Vec ℕ Global × Vec ℕ Global)) (b : Bool) → bytes_eq name.items e.0.items ≡ b
      → fields_in (insert_entry is_same es name value) ≡ put (field_with name.items value.items) (fields_in es)
      → fields_in (insert_entry is_same (e ∷ es) name value) ≡ put (field_with name.items value.items) (fields_in (e ∷ es))
  put_at e es true same later =
      let there = (bytes_eq-Decides name.items e.0.items).0 same in
      ap fields_in (cond-true (bytes_eq name.items e.0.items) ((e.0, value) ∷ es) (e ∷ insert_entry is_same es name value) same)
      ∙ ap (λ (n : List ℕ). field_with n value.items ∷ fields_in es) (sym there)
      ∙ sym (cond-true (bytes_eq name.items e.0.items) (field_with name.items value.items ∷ fields_in es) (field_in e ∷ put (field_with name.items value.items) (fields_in es)) same)
  put_at e es false other later =
      ap fields_in (cond-false (bytes_eq name.items e.0.items) ((e.0, value) ∷ es) (e ∷ insert_entry is_same es name value) other)
      ∙ ap (λ (fields : List Field). field_in e ∷ fields) later
      ∙ sym (cond-false (bytes_eq name.items e.0.items) (field_with name.items value.items ∷ fields_in es) (field_in e ∷ put (field_with name.items value.items) (fields_in es)) other)

  pub insert_is_put : (es : List (Vec ℕ Global × Vec ℕ Global)) → fields_in (insert_entry is_same es name value) ≡ put (field_with name.items value.items) (fields_in es)
  insert_is_put [] = refl
  insert_is_put (e ∷ es) = put_at e es (bytes_eq name.items e.0.items) refl (insert_is_put es)
