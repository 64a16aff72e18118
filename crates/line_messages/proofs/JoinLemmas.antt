-- Joined pieces, and a line at a time.
use Rattle.std.proofs.Common.{◌≡◌, ℕ, ◌<◌, ◌≤◌, Bool, true, false, ◌||◌, cond, List, [], ◌∷◌, ◌++◌, length, map, flat_map, refl, sym, ap, ◌∙◌, subst, arith, inl, inr, append_assoc, append-nil, length-append, true≢false}
use Rattle.std.specs.List.{All, list_any}
use Rattle.std.proofs.lemmas.List.{map-append}
use Rattle.std.proofs.lemmas.List.Elements.{All-nil, All-cons, All-head, All-tail, All-append}
use Rattle.std.proofs.lemmas.List.Folds.{list_any-append}
use Rattle.std.proofs.lemmas.Bool.{cases_Bool, ltb-false, ltb-true, lt-ltb}
use Rattle.head_lines.specs.Lines.{HasNoLf, is_lf, with_lf}
use Rattle.line_messages.specs.Lines.{before_long, ended_lines, has_long_line, is_long, lines, lines_within, message_of, open_line}
use Rattle.line_messages.specs.LineLaws.{HasLines}
use Rattle.line_messages.proofs.PartLemmas.{ended_lines-lines, has_long_line-lines, line_before, lines_of, open_line-lines}
use Rattle.std.proofs.lemmas.Grind.{flat_map-append}
use Rattle.std.proofs.Math.Bool.{or-true}

-- ---- what stands behind the last LF has none

pub ended_lines-is : (s : List ℕ) (h : HasLines s) → ended_lines s ≡ h.ended
ended_lines-is s h = ap ended_lines h.output_is ∙ ended_lines-lines h.ended h.behind h.each h.no_lf

pub open_line-is : (s : List ℕ) (h : HasLines s) → open_line s ≡ h.behind
open_line-is s h = ap open_line h.output_is ∙ open_line-lines h.ended h.behind h.each h.no_lf

pub has_long_line-is : (limit : ℕ) (s : List ℕ) (h : HasLines s) → has_long_line limit s ≡ (list_any (is_long limit) h.ended || is_long limit h.behind)
has_long_line-is limit s h = ap (has_long_line limit) h.output_is ∙ has_long_line-lines limit h.ended h.behind h.each h.no_lf

pub HasNoLf-open_line : (s : List ℕ) → HasNoLf (open_line s)
HasNoLf-open_line s = let h = lines_of s in subst HasNoLf (sym (open_line-is s h)) h.no_lf

-- the lines of a whole, from those of its two parts
abbrev pub joined : (s more : List ℕ) (h : HasLines s) (g : HasLines (h.behind ++ more)) → HasLines (s ++ more)
joined s more h g = record {
  ended = h.ended ++ g.ended;
  behind = g.behind;
  output_is =
      ap (λ (t : List ℕ). t ++ more) h.output_is
      ∙ append_assoc (flat_map with_lf h.ended) h.behind more
      ∙ ap (λ (t : List ℕ). flat_map with_lf h.ended ++ t) g.output_is
      ∙ sym (append_assoc (flat_map with_lf h.ended) (flat_map with_lf g.ended) g.behind)
      ∙ ap (λ (t : List ℕ). t ++ g.behind) (sym (flat_map-append with_lf h.ended g.ended));
  each = All-append HasNoLf h.ended g.ended h.each g.each;
  no_lf = g.no_lf;
}

-- what joined bytes are read as
pub record Joins (s more : List ℕ) : Type 0 where
  pub ended : ended_lines (s ++ more) ≡ ended_lines s ++ ended_lines (open_line s ++ more)
  pub behind : open_line (s ++ more) ≡ open_line (open_line s ++ more)
  pub long : (limit : ℕ) → has_long_line limit (s ++ more) ≡ (list_any (is_long limit) (ended_lines s) || has_long_line limit (open_line s ++ more))

or-assoc : (a b c : Bool) → ((a || b) || c) ≡ (a || (b || c))
or-assoc true b c = refl
or-assoc false b c = refl

pub joins : (s more : List ℕ) → Joins s more
joins s more =
    let h = lines_of s in
    let g = lines_of (h.behind ++ more) in
    let whole = joined s more h g in
    let behind : open_line s ++ more ≡ h.behind ++ more = ap (λ (t : List ℕ). t ++ more) (open_line-is s h) in
    record {
      ended =
          ended_lines-is (s ++ more) whole
          ∙ ap (λ (ps : List (List ℕ)). ps ++ g.ended) (sym (ended_lines-is s h))
          ∙ ap (λ (ps : List (List ℕ)). ended_lines s ++ ps) (sym (ap ended_lines behind ∙ ended_lines-is (h.behind ++ more) g));
      behind = open_line-is (s ++ more) whole ∙ sym (ap open_line behind ∙ open_line-is (h.behind ++ more) g);
      long = λ limit.
          has_long_line-is limit (s ++ more) whole
          ∙ ap (λ (b : Bool). b || is_long limit g.behind) (list_any-append (is_long limit) h.ended g.ended)
          ∙ or-assoc (list_any (is_long limit) h.ended) (list_any (is_long limit) g.ended) (is_long limit g.behind)
          ∙ ap (λ (b : Bool). list_any (is_long limit) h.ended || b) (sym (ap (has_long_line limit) behind ∙ has_long_line-is limit (h.behind ++ more) g))
          ∙ ap (λ (ps : List (List ℕ)). list_any (is_long limit) ps || has_long_line limit (open_line s ++ more)) (sym (ended_lines-is s h));
    }

-- ---- the lines before a long one

pub before_long-none : (limit : ℕ) (xs ys : List (List ℕ)) → list_any (is_long limit) xs ≡ false → before_long limit (xs ++ ys) ≡ xs ++ before_long limit ys
before_long-none limit [] ys none = refl
before_long-none limit (x ∷ xs) ys none =
    let parts = or_parts (is_long limit x) (list_any (is_long limit) xs) none in
    ap (λ (b : Bool). cond b [] (x ∷ before_long limit (xs ++ ys))) parts.0 ∙ ap (λ (l : List (List ℕ)). x ∷ l) (before_long-none limit xs ys parts.1)
  where
    or_parts : (a b : Bool) → (a || b) ≡ false → (a ≡ false) × (b ≡ false)
    or_parts true b e = absurd (true≢false e)
    or_parts false b e = (refl, e)

pub before_long-some : (limit : ℕ) (xs ys : List (List ℕ)) → list_any (is_long limit) xs ≡ true → before_long limit (xs ++ ys) ≡ before_long limit xs
before_long-some limit [] ys some = absurd (true≢false (sym some))
before_long-some limit (x ∷ xs) ys some =
    elim (cases_Bool (is_long limit x)) [
      | inl long ↦
          ap (λ (b : Bool). cond b [] (x ∷ before_long limit (xs ++ ys))) long ∙ sym (ap (λ (b : Bool). cond b [] (x ∷ before_long limit xs)) long)
      | inr short ↦
          let later : list_any (is_long limit) xs ≡ true = sym (ap (λ (b : Bool). b || list_any (is_long limit) xs) short) ∙ some in
          ap (λ (b : Bool). cond b [] (x ∷ before_long limit (xs ++ ys))) short
          ∙ ap (λ (l : List (List ℕ)). x ∷ l) (before_long-some limit xs ys later)
          ∙ sym (ap (λ (b : Bool). cond b [] (x ∷ before_long limit xs)) short)
    ]

pub before_long-all : (limit : ℕ) (xs : List (List ℕ)) → list_any (is_long limit) xs ≡ false → before_long limit xs ≡ xs
before_long-all limit xs none = ap (before_long limit) (sym (append-nil xs)) ∙ before_long-none limit xs [] none ∙ append-nil xs

-- ---- a line at a time

-- bytes without an LF
abbrev pub alone : (t : List ℕ) → HasNoLf t → HasLines t
alone t no_lf = record { ended = []; behind = t; output_is = refl; each = All-nil HasNoLf; no_lf = no_lf }

-- a line, its LF and more
abbrev pub line_first : (line more : List ℕ) → HasNoLf line → (g : HasLines more) → HasLines (line ++ 10 ∷ more)
line_first line more no_lf g = record {
  ended = line ∷ g.ended;
  behind = g.behind;
  output_is = ap (λ (t : List ℕ). line ++ 10 ∷ t) g.output_is ∙ sym (line_before line g.behind g.ended);
  each = All-cons HasNoLf line g.ended no_lf g.each;
  no_lf = g.no_lf;
}

pub within_alone : (limit : ℕ) (t : List ℕ) → HasNoLf t → lines_within limit t ≡ []
within_alone limit t no_lf = ap (λ (ls : List (List ℕ)). map message_of (before_long limit ls)) (ended_lines-is t (alone t no_lf))

pub long_alone : (limit : ℕ) (t : List ℕ) → HasNoLf t → has_long_line limit t ≡ is_long limit t
long_alone limit t no_lf = has_long_line-is limit t (alone t no_lf)

pub behind_alone : (t : List ℕ) → HasNoLf t → open_line t ≡ t
behind_alone t no_lf = open_line-is t (alone t no_lf)

pub ended_first : (line more : List ℕ) → HasNoLf line → ended_lines (line ++ 10 ∷ more) ≡ line ∷ ended_lines more
ended_first line more no_lf =
    let g = lines_of more in
    ended_lines-is (line ++ 10 ∷ more) (line_first line more no_lf g) ∙ ap (λ (ls : List (List ℕ)). line ∷ ls) (sym (ended_lines-is more g))

pub behind_first : (line more : List ℕ) → HasNoLf line → open_line (line ++ 10 ∷ more) ≡ open_line more
behind_first line more no_lf =
    let g = lines_of more in
    open_line-is (line ++ 10 ∷ more) (line_first line more no_lf g) ∙ sym (open_line-is more g)

pub long_first : (limit : ℕ) (line more : List ℕ) → HasNoLf line → has_long_line limit (line ++ 10 ∷ more) ≡ (is_long limit line || has_long_line limit more)
long_first limit line more no_lf =
    let g = lines_of more in
    has_long_line-is limit (line ++ 10 ∷ more) (line_first line more no_lf g)
    ∙ or-assoc (is_long limit line) (list_any (is_long limit) g.ended) (is_long limit g.behind)
    ∙ ap (λ (b : Bool). is_long limit line || b) (sym (has_long_line-is limit more g))

pub within_first : (limit : ℕ) (line more : List ℕ) → HasNoLf line → is_long limit line ≡ false
    → lines_within limit (line ++ 10 ∷ more) ≡ message_of line ∷ lines_within limit more
within_first limit line more no_lf short =
    ap (λ (ls : List (List ℕ)). map message_of (before_long limit ls)) (ended_first line more no_lf)
    ∙ ap (λ (b : Bool). map message_of (cond b [] (line ∷ before_long limit (ended_lines more)))) short

pub within_long : (limit : ℕ) (line more : List ℕ) → HasNoLf line → is_long limit line ≡ true → lines_within limit (line ++ 10 ∷ more) ≡ []
within_long limit line more no_lf long =
    ap (λ (ls : List (List ℕ)). map message_of (before_long limit ls)) (ended_first line more no_lf)
    ∙ ap (λ (b : Bool). map message_of (cond b [] (line ∷ before_long limit (ended_lines more)))) long

-- ---- past a long line

is_long-append : (limit : ℕ) (t x : List ℕ) → is_long limit t ≡ true → is_long limit (t ++ x) ≡ true
is_long-append limit t x long =
    let above : limit < length t = ltb-true limit (length t) long in
    lt-ltb limit (length (t ++ x)) (omega (arith, length-append t x))

-- what is joined to bytes without an LF
abbrev pub joined_lines : (t : List ℕ) (parts : List (List ℕ)) (rest more : List ℕ) → HasNoLf t → more ≡ flat_map with_lf parts ++ rest
    → All HasNoLf parts → HasNoLf rest → HasLines (t ++ more)
joined_lines t [] rest more no_lf text each rest_no_lf = record {
  ended = [];
  behind = t ++ rest;
  output_is = ap (λ (s : List ℕ). t ++ s) text;
  each = each;
  no_lf = All-append (λ n. is_lf n ≡ false) t rest no_lf rest_no_lf;
}
joined_lines t (p ∷ ps) rest more no_lf text each rest_no_lf = record {
  ended = (t ++ p) ∷ ps;
  behind = rest;
  output_is =
      ap (λ (s : List ℕ). t ++ s) (text ∙ line_before p rest ps) ∙ sym (append_assoc t p (10 ∷ (flat_map with_lf ps ++ rest)))
      ∙ sym (line_before (t ++ p) rest ps);
  each = All-cons HasNoLf (t ++ p) ps (All-append (λ n. is_lf n ≡ false) t p no_lf (All-head HasNoLf p ps each)) (All-tail HasNoLf p ps each);
  no_lf = rest_no_lf;
}

-- where the first line is too long already
pub record Past (limit : ℕ) (s : List ℕ) : Type 0 where
  pub none : before_long limit (ended_lines s) ≡ []
  pub long : has_long_line limit s ≡ true

past_by : (limit : ℕ) (t : List ℕ) (parts : List (List ℕ)) (rest more : List ℕ) → HasNoLf t → is_long limit t ≡ true → more ≡ flat_map with_lf parts ++ rest
    → All HasNoLf parts → HasNoLf rest → Past limit (t ++ more)
past_by limit t [] rest more no_lf long text each rest_no_lf =
    let h = joined_lines t [] rest more no_lf text each rest_no_lf in
    record {
      none = ap (before_long limit) (ended_lines-is (t ++ more) h);
      long = has_long_line-is limit (t ++ more) h ∙ is_long-append limit t rest long;
    }
past_by limit t (p ∷ ps) rest more no_lf long text each rest_no_lf =
    let h = joined_lines t (p ∷ ps) rest more no_lf text each rest_no_lf in
    let first : is_long limit (t ++ p) ≡ true = is_long-append limit t p long in
    record {
      none = ap (before_long limit) (ended_lines-is (t ++ more) h) ∙ ap (λ (b : Bool). cond b [] ((t ++ p) ∷ before_long limit ps)) first;
      long = has_long_line-is limit (t ++ more) h ∙ ap (λ (b : Bool). (b || list_any (is_long limit) ps) || is_long limit rest) first;
    }

pub past : (limit : ℕ) (t more : List ℕ) → HasNoLf t → is_long limit t ≡ true → Past limit (t ++ more)
past limit t more no_lf long = let g = lines_of more in past_by limit t g.ended g.behind more no_lf long g.output_is g.each g.no_lf

-- ---- a whole output and a piece

or_parts : (a b : Bool) → (a || b) ≡ false → (a ≡ false) × (b ≡ false)
or_parts true b e = absurd (true≢false e)
or_parts false b e = (refl, e)

long_parts : (limit : ℕ) (s : List ℕ) → has_long_line limit s ≡ (list_any (is_long limit) (ended_lines s) || is_long limit (open_line s))
long_parts limit s =
    let h = lines_of s in
    has_long_line-is limit s h
    ∙ ap (λ (ls : List (List ℕ)). list_any (is_long limit) ls || is_long limit h.behind) (sym (ended_lines-is s h))
    ∙ ap (λ (t : List ℕ). list_any (is_long limit) (ended_lines s) || is_long limit t) (sym (open_line-is s h))

-- no line is too long
pub within_lines : (limit : ℕ) (s : List ℕ) → has_long_line limit s ≡ false → lines_within limit s ≡ lines s
within_lines limit s none =
    let parts = or_parts _ _ (sym (long_parts limit s) ∙ none) in
    ap (map message_of) (before_long-all limit (ended_lines s) parts.0)

pub within_joined : (limit : ℕ) (s more : List ℕ) → has_long_line limit s ≡ false
    → lines_within limit (s ++ more) ≡ lines_within limit s ++ lines_within limit (open_line s ++ more)
within_joined limit s more none =
    let parts = or_parts _ _ (sym (long_parts limit s) ∙ none) in
    ap (λ (ls : List (List ℕ)). map message_of (before_long limit ls)) (joins s more).ended
    ∙ ap (map message_of) (before_long-none limit (ended_lines s) (ended_lines (open_line s ++ more)) parts.0)
    ∙ map-append message_of (ended_lines s) (before_long limit (ended_lines (open_line s ++ more)))
    ∙ ap (λ (ls : List (List ℕ)). ls ++ lines_within limit (open_line s ++ more)) (sym (within_lines limit s none))

pub long_joined : (limit : ℕ) (s more : List ℕ) → has_long_line limit s ≡ false → has_long_line limit (s ++ more) ≡ has_long_line limit (open_line s ++ more)
long_joined limit s more none =
    let parts = or_parts _ _ (sym (long_parts limit s) ∙ none) in
    (joins s more).long limit ∙ ap (λ (b : Bool). b || has_long_line limit (open_line s ++ more)) parts.0

-- a line was too long
pub within_past : (limit : ℕ) (s more : List ℕ) → has_long_line limit s ≡ true → lines_within limit (s ++ more) ≡ lines_within limit s
within_past limit s more long =
    ap (λ (ls : List (List ℕ)). map message_of (before_long limit ls)) (joins s more).ended
    ∙ ap (map message_of) (elim (cases_Bool (list_any (is_long limit) (ended_lines s))) [
      | inl some ↦ before_long-some limit (ended_lines s) (ended_lines (open_line s ++ more)) some
      | inr none ↦
          let behind : is_long limit (open_line s) ≡ true = sym (ap (λ (b : Bool). b || is_long limit (open_line s)) none) ∙ sym (long_parts limit s) ∙ long in
          before_long-none limit (ended_lines s) (ended_lines (open_line s ++ more)) none
          ∙ ap (λ (ls : List (List ℕ)). ended_lines s ++ ls) (past limit (open_line s) more (HasNoLf-open_line s) behind).none
          ∙ append-nil (ended_lines s) ∙ sym (before_long-all limit (ended_lines s) none)
    ])

pub long_past : (limit : ℕ) (s more : List ℕ) → has_long_line limit s ≡ true → has_long_line limit (s ++ more) ≡ true
long_past limit s more long =
    (joins s more).long limit
    ∙ elim (cases_Bool (list_any (is_long limit) (ended_lines s))) [
      | inl some ↦ ap (λ (b : Bool). b || has_long_line limit (open_line s ++ more)) some
      | inr none ↦
          let behind : is_long limit (open_line s) ≡ true = sym (ap (λ (b : Bool). b || is_long limit (open_line s)) none) ∙ sym (long_parts limit s) ∙ long in
          ap (λ (b : Bool). list_any (is_long limit) (ended_lines s) || b) (past limit (open_line s) more (HasNoLf-open_line s) behind).long
          ∙ or-true (list_any (is_long limit) (ended_lines s))
    ]

-- what stands behind the last LF is no longer than the limit
pub behind_within : (limit : ℕ) (s : List ℕ) → has_long_line limit s ≡ false → length (open_line s) ≤ limit
behind_within limit s none =
    let parts = or_parts _ _ (sym (long_parts limit s) ∙ none) in
    ltb-false limit (length (open_line s)) parts.1
