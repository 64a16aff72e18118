-- What the document children of an outside still owe, behind a trace.
use Rattle.std.specs.Prelude.{ℕ, ◌≡◌, Bool, true, false, ◌==◌, not, List, [], ◌∷◌, ◌++◌, Option, Some, None}
use Rattle.std.specs.List.{concat}
use Rattle.host_base.specs.declared.launch.Launch.{Launch}
use Rattle.host_base.specs.declared.site.DocRoot.{DocRoot}
use Rattle.host_trace.specs.declared.items.Act.{Act}
use Rattle.host_trace.specs.declared.items.Act.TheVariants.{Start, Feed, EndInput, WantChild, Kill, Release}
use Rattle.host_trace.specs.declared.items.Item.{Item}
use Rattle.host_trace.specs.Kinds.{is_child_eof, is_exited, is_start, output_heard}
use Rattle.host_trace.specs.Projections.{child_out, exited, output_eof, start_stands, started}
use Rattle.doc_files.specs.Held.{Held, served_output}
use Rattle.doc_files.specs.Served.{Serves, is_document, is_over, launch_of, launched}
use Rattle.doc_files.specs.declared.child.Child.{Child}
use Rattle.doc_files.specs.declared.child.Output.{Output}
use Rattle.doc_files.specs.declared.child.Output.TheVariants.{Unread, Lost, Left}

-- the item adds nothing to what is said of child q
pub record Rests (q : ℕ) (x : Item) : Type 0 where
  pub no_start : is_start q x ≡ false
  pub no_launch : launched q x ≡ []
  pub no_bytes : output_heard q x ≡ []
  pub no_end : is_child_eof q x ≡ false
  pub no_exit : is_exited q x ≡ false

-- .. of any child but k
abbrev pub IsOf : ℕ → Item → Type 0
IsOf k x = (q : ℕ) → (q == k) ≡ false → Rests q x

-- nothing of its output was heard
pub record IsUnheard (T : List Item) (k : ℕ) : Type 0 where
  pub no_bytes : child_out T k ≡ []
  pub no_end : output_eof T k ≡ false

-- what was heard and what is left are the output
pub record IsLeft (output : List ℕ) (left : List (List ℕ)) (T : List Item) (k : ℕ) : Type 0 where
  pub joined : child_out T k ++ concat left ≡ output
  pub ended : output_eof T k ≡ true → left ≡ []

abbrev pub Owing : Held → List DocRoot → List Item → ℕ → Launch → Output → Type 0
Owing held docs T k begun (Unread launch) = (launch ≡ begun) × IsUnheard T k
Owing held docs T k begun Lost = IsUnheard T k
Owing held docs T k begun (Left pieces) = IsLeft (served_output held docs begun) pieces.items T k

-- a child of this number, with this still to hand up, behind a trace
pub record OwesAs (held : Held) (docs : List DocRoot) (T : List Item) (k : ℕ) (output : Output) (over : Bool) : Type 0 where
  pub begun : Launch
  pub is : launch_of T k ≡ Some begun
  pub stands : start_stands T k ≡ true
  pub document : is_document docs begun ≡ true
  pub owing : Owing held docs T k begun output
  pub ends : over ≡ true → is_over T k ≡ true
  pub exit : exited T k ≡ true → is_over T k ≡ true

abbrev pub Owes : Held → List DocRoot → List Item → Child → Type 0
Owes held docs T child = OwesAs held docs T child.k child.output child.over

-- all of them have it
abbrev pub Each : (Child → Type 0) → List Child → Type 0
Each P [] = Unit {0}
Each P (child ∷ children) = P child × Each P children

pub record IsApart (one other : Child) : Type 0 where
  pub here : (one.k == other.k) ≡ false
  pub there : (other.k == one.k) ≡ false

-- no two of them have one number
abbrev pub AreApart : List Child → Type 0
AreApart [] = Unit {0}
AreApart (child ∷ children) = Each (IsApart child) children × AreApart children

pub record Knows (held : Held) (docs : List DocRoot) (T : List Item) (children : List Child) : Type 0 where
  pub rows : Each (Owes held docs T) children
  pub apart : AreApart children
  pub serves : Serves docs held T

-- the child that an act on a running script names
abbrev pub number_of : Act → Option ℕ
number_of (Feed k bytes) = Some k
number_of (EndInput k) = Some k
number_of (WantChild k) = Some k
number_of (Kill k) = Some k
number_of (Release k) = Some k
number_of _ = None

-- a piece was taken off the front of what is left, or nothing was left
abbrev pub Takes : List (List ℕ) → Option (List ℕ) → List (List ℕ) → Type 0
Takes left (Some bytes) rest = left ≡ bytes ∷ rest
Takes left None rest = (left ≡ []) × (rest ≡ [])

abbrev pub TakesOf : Output → Option (List ℕ) → Output → Type 0
TakesOf (Left pieces) taken (Left rest) = Takes pieces.items taken rest.items
TakesOf _ taken _ = ⊥

abbrev pub is_known : Output → Bool
is_known (Left pieces) = true
is_known (Unread launch) = false
is_known Lost = false

-- a child that was not started has said nothing
pub record IsUnbegun (T : List Item) (k : ℕ) : Type 0 where
  pub no_start : started T k ≡ false
  pub unheard : IsUnheard T k
  pub no_exit : exited T k ≡ false

abbrev pub IsOrderly : List Item → Type 0
IsOrderly T = (k : ℕ) → start_stands T k ≡ false → IsUnbegun T k

-- nothing of a document's child stands in the inner trace
pub record IsBeside (docs : List DocRoot) (T U : List Item) : Type 0 where
  pub among : (k : ℕ) → start_stands U k ≡ true → start_stands T k ≡ true
  pub other : (k : ℕ) (launch : Launch) → launch_of T k ≡ Some launch → is_document docs launch ≡ true → start_stands U k ≡ false

-- what is so of an outside's trace, of its inner one's, and of its children
pub record Keeps (held : Held) (docs : List DocRoot) (T U : List Item) (children : List Child) : Type 0 where
  pub known : Knows held docs T children
  pub orderly : IsOrderly T
  pub inner : IsOrderly U
  pub beside : IsBeside docs T U

-- this Start is the first of its number
abbrev pub begins_once : List Item → Act → Bool
begins_once T (Start k c j hop launch) = not (start_stands T k)
begins_once T _ = true

-- the act starts a document's child
abbrev pub starts_document : List DocRoot → Act → Bool
starts_document docs (Start k c j hop launch) = is_document docs launch
starts_document docs _ = false

-- .. where its trace, the inner one's, and what the store holds are told
abbrev pub KeepsWhere : Option Held → List DocRoot → Option (List Item) → Option (List Item) → List Child → Type 0
KeepsWhere held docs trace inner children = (T U : List Item) (h : Held) → trace ≡ Some T → inner ≡ Some U → held ≡ Some h → ∥ Keeps h docs T U children ∥₁
