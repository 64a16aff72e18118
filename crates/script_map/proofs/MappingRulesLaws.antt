-- Why the script of a path is the longest that fits.
use Rattle.std.proofs.Common.{◌≡◌, ℕ, zero, suc, ◌<◌, ◌≤◌, Bool, true, false, not, ◌||◌, ◌⊎◌, List, [], ◌∷◌, ◌++◌, length, drop, Option, Some, None, refl, sym, ap, ◌∙◌, subst, arith, eqb, leb, inl, inr, append-nil}
use Rattle.std.specs.Prelude.{slice_get, option_map, option_and_then, Ok, All}
use Rattle.std.specs.Option.{ok_or}
use Rattle.std.specs.List.{position, list_all, starts_with}
use Rattle.std.proofs.lemmas.List.{drop_at}
use Rattle.std.proofs.lemmas.List.Elements.{All-from_get_or, All-head, All-tail, All-cons, All-nil}
use Rattle.std.proofs.lemmas.List.Sums.{fails_before_first}
use Rattle.std.proofs.lemmas.Slice.Eq.{starts_is}
use Rattle.std.proofs.lemmas.Option.{get_or_from_slice_get}
use Rattle.std.proofs.lemmas.Bool.{cases_Bool, and_parts, and_from, or_left, or_right, eqb-true, leb-true, le-leb, false≢true, cases_lt}
use Rattle.std.proofs.lemmas.Bool.Decides.{Decides-eqb}
use Rattle.host_base.proofs.SplitLaws.{chosen}
use Rattle.percent_encoding.specs.Percent.{percent_decode}
use Rattle.host_base.specs.declared.cause.Cause.{Cause}
use Rattle.host_base.specs.declared.cause.Cause.TheVariants.{NoScript}
use Rattle.host_base.specs.declared.site.Mapped.{Mapped}
use Rattle.host_base.specs.declared.site.Script.{Script}
use Rattle.host_base.specs.declared.site.VHost.{VHost}
use Rattle.script_map.specs.Escapes.{has_whole_escapes, has_hidden_escape}
use Rattle.script_map.specs.Mapping.{is_at_edge, fits, is_no_longer, is_longest, mapped_by, mapped_at, script_at, decoded_text, mapped_text, mapped_at_host, has_dot_segment}
use Rattle.script_map.specs.Hosts.{host_of_target, scripts_at}
use Rattle.script_map.specs.MappingRules.{FitsWholeSegments, IsScriptOf, IsMappedTo, MapsToLongest}
use Rattle.script_map.proofs.ListLaws.{position_at, position_past}
use Rattle.script_map.proofs.MappingLaws.{passes_at}

-- ---- fitting

begun : (path : List ℕ) (script : Script) → starts_with eqb path script.path ≡ true → path ≡ script.path ++ drop (length script.path) path
begun path script starts = (starts_is Decides-eqb path script.path _ refl).0 starts

at_edge : (name rest : List ℕ) (path : List ℕ) → path ≡ name ++ rest → is_at_edge rest ≡ true → (path ≡ name) ⊎ ((more : List ℕ) × (path ≡ name ++ 47 ∷ more))
at_edge name [] path is edge = inl (is ∙ append-nil name)
at_edge name (b ∷ more) path is edge = inr (more, is ∙ ap (λ (x : ℕ). name ++ x ∷ more) (eqb-true b 47 edge))

fits_at : (path : List ℕ) (script : Script) (rest : List ℕ) → path ≡ script.path ++ rest → is_at_edge rest ≡ true → fits path script ≡ true
fits_at path script rest is edge =
    and_from _ _ ((starts_is Decides-eqb path script.path _ refl).1 rest is)
    (ap is_at_edge (ap (drop (length script.path)) is ∙ drop_at script.path rest (length script.path) refl) ∙ edge)

-- the script that is mapped fits
pub script_fits : (scripts : List Script) (path : List ℕ) (mapped : Mapped) (is : IsScriptOf scripts path mapped) → fits path is.script ≡ true
script_fits scripts path mapped is =
    fits_at path is.script mapped.path_info (sym is.whole ∙ ap (λ (l : List ℕ). l ++ mapped.path_info) is.name) is.edge

pub fits_whole_segments : FitsWholeSegments
fits_whole_segments path script = (
  λ fitting. let parts = and_parts (starts_with eqb path script.path) (is_at_edge (drop (length script.path) path)) fitting in
      at_edge script.path (drop (length script.path) path) path (begun path script parts.0) parts.1,
  λ either. elim either [
    | inl same ↦ fits_at path script [] (same ∙ sym (append-nil script.path)) refl
    | inr more ↦ fits_at path script (47 ∷ more.0) more.1 refl
  ],
)

-- ---- the longest

each_shorter : (path : List ℕ) (len : ℕ) (scripts : List Script) → list_all (is_no_longer path len) scripts ≡ true
    → All (λ other. fits path other ≡ true → length other.path ≤ len) scripts
each_shorter path len [] all = All-nil (λ other. fits path other ≡ true → length other.path ≤ len)
each_shorter path len (s ∷ scripts) all =
    let parts = and_parts (is_no_longer path len s) (list_all (is_no_longer path len) scripts) all in
    All-cons (λ other. fits path other ≡ true → length other.path ≤ len) s scripts
    (λ fitting. leb-true (length s.path) len (sym (ap (λ (b : Bool). not b || leb (length s.path) len) fitting) ∙ parts.0))
    (each_shorter path len scripts parts.1)

and_then_some : {X Y : Type 0} (f : X → Option Y) (o : Option X) (y : Y) → option_and_then f o ≡ Some y → (x : X) × (o ≡ Some x) × (f x ≡ Some y)
and_then_some f None y is = absurd (cc)
and_then_some f (Some x) y is = (x, refl, is)

map_some : {X Y : Type 0} (f : X → Y) (o : Option X) (y : Y) → option_map f o ≡ Some y → (x : X) × (o ≡ Some x) × (f x ≡ y)
map_some f None y is = absurd (cc)
map_some f (Some x) y is = (x, refl, cc)

pub found_script : (host : ℕ) (scripts : List Script) (path : List ℕ) (mapped : Mapped) → script_at host scripts path ≡ Some mapped
    → (mapped.host ≡ host) × IsScriptOf scripts path mapped
unfolding script_at
found_script host scripts path mapped is =
    let place = and_then_some (mapped_at host scripts path) (position (is_longest path scripts) scripts) mapped is in
    let script = map_some (mapped_by host path place.0) (slice_get scripts place.0) mapped place.2 in
    let read = get_or_from_slice_get scripts place.0 script.0 script.0 script.1 in
    let longest : is_longest path scripts script.0 ≡ true =
    ap (is_longest path scripts) (sym read) ∙ (passes_at (is_longest path scripts) scripts place.0 script.0 place.1).1 in
    let parts = and_parts (fits path script.0) (list_all (is_no_longer path (length script.0.path)) scripts) longest in
    let fitting = and_parts (starts_with eqb path script.0.path) (is_at_edge (drop (length script.0.path) path)) parts.0 in (
      sym (ap (λ (m : Mapped). m.host) script.2),
      subst (IsScriptOf scripts path) script.2 (record {
        script = script.0;
        listed = script.1;
        name = refl;
        whole = sym (begun path script.0 fitting.0);
        edge = fitting.1;
        longest = each_shorter path (length script.0.path) scripts parts.1;
      }),
    )

pub ok_some : {X : Type 0} (o : Option X) (cause : Cause) (x : X) → ok_or o cause ≡ Ok x → o ≡ Some x
ok_some None cause x is = absurd (cc)
ok_some (Some y) cause x is = let same : y ≡ x = cc in ap (λ z. Some z) same

decoded_is : (path decoded : List ℕ) → decoded_text path ≡ Some decoded → percent_decode path ≡ decoded
unfolding decoded_text
decoded_is path decoded is =
    elim (chosen (has_whole_escapes path) _ _ _ is) [
      | inl whole ↦ elim (chosen _ (Some (percent_decode path)) None (Some decoded) whole.1) [
        | inl text ↦ cc
        | inr other ↦ absurd (cc)
      ]
      | inr broken ↦ absurd (cc)
    ]

found_text : (host : ℕ) (scripts : List Script) (path : List ℕ) (o : Option (List ℕ)) (mapped : Mapped) → decoded_text path ≡ o
    → mapped_text host scripts path o ≡ Ok mapped → (mapped.host ≡ host) × IsScriptOf scripts (percent_decode path) mapped
found_text host scripts path None mapped told is = absurd (cc)
found_text host scripts path (Some decoded) mapped told is =
    elim (chosen (has_hidden_escape path || has_dot_segment decoded) _ _ _ is) [
      | inl refused ↦ absurd (cc)
      | inr taken ↦
          let found = found_script host scripts decoded mapped (ok_some (script_at host scripts decoded) NoScript mapped taken.1) in
          (found.0, subst (λ (l : List ℕ). IsScriptOf scripts l mapped) (sym (decoded_is path decoded told)) found.1)
    ]

mapped_at_place : (hosts : List VHost) (path : List ℕ) (name : Option (List ℕ)) (o : Option ℕ) (mapped : Mapped) → host_of_target hosts name ≡ o
    → mapped_at_host hosts path o ≡ Ok mapped → IsMappedTo hosts name (percent_decode path) mapped
mapped_at_place hosts path name None mapped told is = absurd (cc)
mapped_at_place hosts path name (Some host) mapped told is =
    let found = found_text host (scripts_at hosts host) path (decoded_text path) mapped refl is in
    record {
      host = told ∙ ap (λ (n : ℕ). Some n) (sym found.0);
      script = subst (λ (n : ℕ). IsScriptOf (scripts_at hosts n) (percent_decode path) mapped) (sym found.0) found.1;
    }

pub maps_to_longest : MapsToLongest
maps_to_longest hosts target mapped is = mapped_at_place hosts target.path target.host (host_of_target hosts target.host) mapped refl is

-- ---- where one fits, one is longest

pub record HasLongest (path : List ℕ) (scripts : List Script) : Type 0 where
  pub front : List Script
  pub script : Script
  pub back : List Script
  pub whole : scripts ≡ front ++ script ∷ back
  pub fitting : fits path script ≡ true
  pub others : list_all (is_no_longer path (length script.path)) scripts ≡ true

no_longer_weaker : (path : List ℕ) (m n : ℕ) → m ≤ n → (script : Script) → is_no_longer path m script ≡ true → is_no_longer path n script ≡ true
no_longer_weaker path m n more script is =
    elim (cases_Bool (fits path script)) [
      | inl fitting ↦
          let short = leb-true (length script.path) m (sym (ap (λ (b : Bool). not b || leb (length script.path) m) fitting) ∙ is) in
          or_right (not (fits path script)) _ (le-leb (length script.path) n (omega arith))
      | inr other ↦ or_left _ (leb (length script.path) n) (ap not other)
    ]

all_no_longer_weaker : (path : List ℕ) (m n : ℕ) → m ≤ n → (scripts : List Script) → list_all (is_no_longer path m) scripts ≡ true → list_all (is_no_longer path n) scripts ≡ true
all_no_longer_weaker path m n more [] all = refl
all_no_longer_weaker path m n more (s ∷ scripts) all =
    let parts = and_parts (is_no_longer path m s) (list_all (is_no_longer path m) scripts) all in
    and_from _ _ (no_longer_weaker path m n more s parts.0) (all_no_longer_weaker path m n more scripts parts.1)

none_longer : (path : List ℕ) (n : ℕ) (scripts : List Script) → All (λ s. fits path s ≡ false) scripts → list_all (is_no_longer path n) scripts ≡ true
none_longer path n [] none = refl
none_longer path n (s ∷ scripts) none =
    and_from _ _ (or_left _ (leb (length s.path) n) (ap not (All-head (λ s. fits path s ≡ false) s scripts none)))
    (none_longer path n scripts (All-tail (λ s. fits path s ≡ false) s scripts none))

is_own : (path : List ℕ) (s : Script) → is_no_longer path (length s.path) s ≡ true
is_own path s = or_right (not (fits path s)) _ (le-leb (length s.path) (length s.path) (omega arith))

one_more : (path : List ℕ) (s : Script) (scripts : List Script) → All (λ s. fits path s ≡ false) scripts ⊎ HasLongest path scripts
    → All (λ s. fits path s ≡ false) (s ∷ scripts) ⊎ HasLongest path (s ∷ scripts)
one_more path s scripts later =
    elim (cases_Bool (fits path s)) [
      | inr other ↦
          elim later [
            | inl none ↦ inl (All-cons (λ s. fits path s ≡ false) s scripts other none)
            | inr found ↦ inr (record {
              front = s ∷ found.front;
              script = found.script;
              back = found.back;
              whole = ap (λ (l : List Script). s ∷ l) found.whole;
              fitting = found.fitting;
              others = and_from _ _ (or_left _ (leb (length s.path) (length found.script.path)) (ap not other)) found.others;
            })
          ]
      | inl fitting ↦
          elim later [
            | inl none ↦ inr (record {
              front = [];
              script = s;
              back = scripts;
              whole = refl;
              fitting = fitting;
              others = and_from _ _ (is_own path s) (none_longer path (length s.path) scripts none);
            })
            | inr found ↦
                elim (cases_lt (length found.script.path) (length s.path)) [
                  | inl longer ↦ inr (record {
                    front = [];
                    script = s;
                    back = scripts;
                    whole = refl;
                    fitting = fitting;
                    others = and_from _ _ (is_own path s) (all_no_longer_weaker path (length found.script.path) (length s.path) (omega arith) scripts found.others);
                  })
                  | inr shorter ↦ inr (record {
                    front = s ∷ found.front;
                    script = found.script;
                    back = found.back;
                    whole = ap (λ (l : List Script). s ∷ l) found.whole;
                    fitting = found.fitting;
                    others = and_from _ _ (or_right (not (fits path s)) _ (le-leb (length s.path) (length found.script.path) shorter)) found.others;
                  })
                ]
          ]
    ]

longest_or_none : (path : List ℕ) (scripts : List Script) → All (λ s. fits path s ≡ false) scripts ⊎ HasLongest path scripts
longest_or_none path [] = inl (All-nil (λ s. fits path s ≡ false))
longest_or_none path (s ∷ scripts) = one_more path s scripts (longest_or_none path scripts)

All-at : (P : Script → Type 0) (front : List Script) (s : Script) (back : List Script) → All P (front ++ s ∷ back) → P s
All-at P [] s back all = All-head P s back all
All-at P (x ∷ front) s back all = All-at P front s back (All-tail P x (front ++ s ∷ back) all)

some_get : (host : ℕ) (path : List ℕ) (n k : ℕ) (scripts : List Script) → n < length scripts → option_map (mapped_by host path k) (slice_get scripts n) ≡ None → ⊥
some_get host path n k [] below told = omega arith
some_get host path zero k (s ∷ scripts) below told = absurd (cc)
some_get host path (suc n) k (s ∷ scripts) below told = some_get host path n k scripts (omega arith) told

no_place : (host : ℕ) (scripts : List Script) (path : List ℕ) → script_at host scripts path ≡ None → (place : Option ℕ) → position (is_longest path scripts) scripts ≡ place → place ≡ None
unfolding script_at
no_place host scripts path none None at = refl
no_place host scripts path none (Some n) at =
    absurd (some_get host path n n scripts (position_at (is_longest path scripts) scripts n at).0
    (sym (ap (option_and_then (mapped_at host scripts path)) at) ∙ none))

-- where none is found, none fits
pub none_fits : (host : ℕ) (scripts : List Script) (path : List ℕ) → script_at host scripts path ≡ None → All (λ script. fits path script ≡ false) scripts
none_fits host scripts path none =
    elim (longest_or_none path scripts) [
      | inl all ↦ all
      | inr found ↦
          let test = is_longest path scripts in
          let place = no_place host scripts path none (position test scripts) refl in
          let past = position_past test scripts place in
          let all : All (λ s. test s ≡ false) scripts =
          All-from_get_or (λ s. test s ≡ false) scripts found.script (λ k below. fails_before_first test scripts k found.script (omega arith)) in
          let here : test found.script ≡ false = All-at (λ s. test s ≡ false) found.front found.script found.back (subst (All (λ s. test s ≡ false)) found.whole all) in
          absurd (false≢true (sym here ∙ and_from _ _ found.fitting found.others))
    ]
