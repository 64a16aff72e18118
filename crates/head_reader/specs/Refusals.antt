-- Why bytes are refused, by the cause: which of them is given, and in which order they are looked for.
use Rattle.std.specs.Prelude.{◌≡◌, ◌↔◌, ◌++◌, ◌<◌, ◌≤◌, ℕ, List, ◌∷◌, length, take, drop, All, false, Some, None}
use Rattle.host_base.specs.declared.request.Head.{Head}
use Rattle.host_base.specs.declared.limits.Limits.{Limits}
use Rattle.host_base.specs.declared.cause.Cause.TheVariants.{HeadTooLong, TargetTooLong, TooManyFields, BadHead}
use Rattle.head_lines.specs.Lines.{Front, front_of, first_of}
use Rattle.head_reader.specs.declared.step.HeadStep.TheVariants.{Bad}
use Rattle.head_reader.specs.RequestHead.{is_space, leading_crlf, read_head}
use Rattle.head_reader.specs.HeadLaws.{IsHead}

-- the bytes after one leading CRLF (RFC 9112 2.2)
abbrev pub head_bytes : List ℕ → List ℕ
head_bytes bytes = drop (leading_crlf bytes) bytes

-- An empty line ends the head within the limit, and these are the lines before it (RFC 9112 2.1).
abbrev pub EndsWithin : Limits → List ℕ → Front → Type 0
EndsWithin limits bytes front = front_of (take limits.head (head_bytes bytes)) ≡ Some front

abbrev pub HasNoSpace : List ℕ → Type 0
HasNoSpace word = All (λ byte. is_space byte ≡ false) word

-- The line is a word, a space, this word, a space, and a rest: as method SP request-target SP HTTP-version
-- is (RFC 9112 3), be the words what they may.
pub record HasTarget (line target : List ℕ) : Type 0 where
  pub method : List ℕ
  pub rest : List ℕ
  pub line_is : line ≡ method ++ 32 ∷ (target ++ 32 ∷ rest)
  pub method_is_word : HasNoSpace method
  pub target_is_word : HasNoSpace target

-- The first line has a target, of more bytes than the limit (RFC 9112 3).
abbrev pub HasLongTarget : Limits → Front → Type 0
HasLongTarget limits front = (target : List ℕ) × HasTarget (first_of front.lines) target × (limits.target < length target)

-- the lines between the first one and the empty line
abbrev pub field_lines : Front → List (List ℕ)
field_lines front = drop 1 front.lines

-- The head is too long exactly where its limit is reached, and no empty line ends within.
abbrev pub LongHeadsAreRefused : Type 0
LongHeadsAreRefused = (limits : Limits) (bytes : List ℕ) → (read_head limits bytes ≡ Bad HeadTooLong)
    ↔ ((front_of (take limits.head (head_bytes bytes)) ≡ None) × (limits.head ≤ length (head_bytes bytes)))

-- The target is too long exactly where the head has ended, and its first line has such a target.
abbrev pub LongTargetsAreRefused : Type 0
LongTargetsAreRefused = (limits : Limits) (bytes : List ℕ) → (read_head limits bytes ≡ Bad TargetTooLong)
    ↔ ((front : Front) × EndsWithin limits bytes front × HasLongTarget limits front)

-- The field lines are too many exactly where the head has ended with more than 100, and its first line
-- has no target that is too long.
abbrev pub ManyFieldsAreRefused : Type 0
ManyFieldsAreRefused = (limits : Limits) (bytes : List ℕ) → (read_head limits bytes ≡ Bad TooManyFields)
    ↔ ((front : Front) × EndsWithin limits bytes front × (HasLongTarget limits front → ⊥) × (100 < length (field_lines front)))

-- The head is bad exactly where it has ended, neither of these is so, and it is none of the grammar.
abbrev pub BadHeadsAreRefused : Type 0
BadHeadsAreRefused = (limits : Limits) (bytes : List ℕ) → (read_head limits bytes ≡ Bad BadHead)
    ↔ ((front : Front) × EndsWithin limits bytes front × (HasLongTarget limits front → ⊥) × (length (field_lines front) ≤ 100)
    × ((head : Head) → IsHead 100 (take front.len (head_bytes bytes)) head → ⊥))
