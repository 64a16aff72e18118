-- Which connection and which child an item names, and what follows.
use Rattle.std.proofs.Common.{◌≡◌, ℕ, Bool, true, false, List, [], ◌∷◌, ◌++◌, Option, Some, None, refl, append-nil}
use Rattle.std.specs.Prelude.{◌==◌, ◌||◌, ◌&&◌, if◌then◌else◌}
use Rattle.std.specs.List.{list_any}
use Rattle.host_trace.specs.declared.items.Event.TheVariants.{Accepted, ClientBytes, ClientEof, ClientGone, Wrote, Started, StartFailed, StartFull, ChildBytes, ChildEof, ChildBroken, Took, InputGone, Exited, WsText, WsBinary, WsClosed, WsBad, NoRoom, Tick, Stop}
use Rattle.host_trace.specs.declared.items.Act.TheVariants.{WantClient, Write, Shut, Start, Feed, EndInput, WantChild, Kill, Release, Upgrade, Says, CloseWs}
use Rattle.host_trace.specs.declared.items.Item.{Item}
use Rattle.host_trace.specs.declared.items.Item.TheVariants.{In, Out}
use Rattle.host_trace.specs.Kinds.{names, names_child, is_accepted, is_tick, is_stop, child_started, start_number}
use Rattle.host_trace.specs.Projections.{is_own, names_one_of}
use Rattle.own_traces.specs.Whose.{has, is_a_start, is_common, is_of, with_child}

abbrev pub conn_named : Item → Option ℕ
conn_named (In (ClientBytes d bytes)) = Some d
conn_named (In (ClientEof d)) = Some d
conn_named (In (ClientGone d)) = Some d
conn_named (In (Wrote d n)) = Some d
conn_named (In (WsText d bytes)) = Some d
conn_named (In (WsBinary d)) = Some d
conn_named (In (WsClosed d)) = Some d
conn_named (In (WsBad d)) = Some d
conn_named (In (NoRoom d)) = Some d
conn_named (Out (WantClient d)) = Some d
conn_named (Out (Write d bytes)) = Some d
conn_named (Out (Shut d why)) = Some d
conn_named (Out (Upgrade d rest)) = Some d
conn_named (Out (Says d texts)) = Some d
conn_named (Out (CloseWs d code)) = Some d
conn_named (Out (Start k d j hop launch)) = Some d
conn_named _ = None

abbrev pub child_named : Item → Option ℕ
child_named (In (Started d)) = Some d
child_named (In (StartFailed d)) = Some d
child_named (In (StartFull d seen)) = Some d
child_named (In (ChildBytes d bytes)) = Some d
child_named (In (ChildEof d)) = Some d
child_named (In (ChildBroken d)) = Some d
child_named (In (Took d n)) = Some d
child_named (In (InputGone d)) = Some d
child_named (In (Exited d)) = Some d
child_named (Out (Feed d bytes)) = Some d
child_named (Out (EndInput d)) = Some d
child_named (Out (WantChild d)) = Some d
child_named (Out (Kill d)) = Some d
child_named (Out (Release d)) = Some d
child_named (Out (Start d c j hop launch)) = Some d
child_named _ = None

abbrev pub is_it : Option ℕ → ℕ → Bool
is_it None d = false
is_it (Some e) d = d == e

abbrev pub has_it : List ℕ → Option ℕ → Bool
has_it ks None = false
has_it ks (Some k) = has ks k

pub names-named : (c : ℕ) (x : Item) → names c x ≡ is_it (conn_named x) c
names-named c (In (ClientBytes d bytes)) = refl
names-named c (In (ClientEof d)) = refl
names-named c (In (ClientGone d)) = refl
names-named c (In (Wrote d n)) = refl
names-named c (In (WsText d bytes)) = refl
names-named c (In (WsBinary d)) = refl
names-named c (In (WsClosed d)) = refl
names-named c (In (WsBad d)) = refl
names-named c (In (NoRoom d)) = refl
names-named c (In (Started d)) = refl
names-named c (In (StartFailed d)) = refl
names-named c (In (StartFull d seen)) = refl
names-named c (In (ChildBytes d bytes)) = refl
names-named c (In (ChildEof d)) = refl
names-named c (In (ChildBroken d)) = refl
names-named c (In (Took d n)) = refl
names-named c (In (InputGone d)) = refl
names-named c (In (Exited d)) = refl
names-named c (In (Accepted peer)) = refl
names-named c (In (Tick secs)) = refl
names-named c (In Stop) = refl
names-named c (Out (WantClient d)) = refl
names-named c (Out (Write d bytes)) = refl
names-named c (Out (Shut d why)) = refl
names-named c (Out (Upgrade d rest)) = refl
names-named c (Out (Says d texts)) = refl
names-named c (Out (CloseWs d code)) = refl
names-named c (Out (Feed d bytes)) = refl
names-named c (Out (EndInput d)) = refl
names-named c (Out (WantChild d)) = refl
names-named c (Out (Kill d)) = refl
names-named c (Out (Release d)) = refl
names-named c (Out (Start d e j hop launch)) = refl

pub names_child-named : (k : ℕ) (x : Item) → names_child k x ≡ is_it (child_named x) k
names_child-named k (In (ClientBytes d bytes)) = refl
names_child-named k (In (ClientEof d)) = refl
names_child-named k (In (ClientGone d)) = refl
names_child-named k (In (Wrote d n)) = refl
names_child-named k (In (WsText d bytes)) = refl
names_child-named k (In (WsBinary d)) = refl
names_child-named k (In (WsClosed d)) = refl
names_child-named k (In (WsBad d)) = refl
names_child-named k (In (NoRoom d)) = refl
names_child-named k (In (Started d)) = refl
names_child-named k (In (StartFailed d)) = refl
names_child-named k (In (StartFull d seen)) = refl
names_child-named k (In (ChildBytes d bytes)) = refl
names_child-named k (In (ChildEof d)) = refl
names_child-named k (In (ChildBroken d)) = refl
names_child-named k (In (Took d n)) = refl
names_child-named k (In (InputGone d)) = refl
names_child-named k (In (Exited d)) = refl
names_child-named k (In (Accepted peer)) = refl
names_child-named k (In (Tick secs)) = refl
names_child-named k (In Stop) = refl
names_child-named k (Out (WantClient d)) = refl
names_child-named k (Out (Write d bytes)) = refl
names_child-named k (Out (Shut d why)) = refl
names_child-named k (Out (Upgrade d rest)) = refl
names_child-named k (Out (Says d texts)) = refl
names_child-named k (Out (CloseWs d code)) = refl
names_child-named k (Out (Feed d bytes)) = refl
names_child-named k (Out (EndInput d)) = refl
names_child-named k (Out (WantChild d)) = refl
names_child-named k (Out (Kill d)) = refl
names_child-named k (Out (Release d)) = refl
names_child-named k (Out (Start d e j hop launch)) = refl

any_false : {X : Type 0} (xs : List X) → list_any (λ x. false) xs ≡ false
any_false [] = refl
any_false (x ∷ xs) = any_false xs

pub names_one_of-named : (ks : List ℕ) (x : Item) → names_one_of ks x ≡ has_it ks (child_named x)
names_one_of-named ks (In (ClientBytes d bytes)) = any_false ks
names_one_of-named ks (In (ClientEof d)) = any_false ks
names_one_of-named ks (In (ClientGone d)) = any_false ks
names_one_of-named ks (In (Wrote d n)) = any_false ks
names_one_of-named ks (In (WsText d bytes)) = any_false ks
names_one_of-named ks (In (WsBinary d)) = any_false ks
names_one_of-named ks (In (WsClosed d)) = any_false ks
names_one_of-named ks (In (WsBad d)) = any_false ks
names_one_of-named ks (In (NoRoom d)) = any_false ks
names_one_of-named ks (In (Accepted peer)) = any_false ks
names_one_of-named ks (In (Tick secs)) = any_false ks
names_one_of-named ks (In Stop) = any_false ks
names_one_of-named ks (Out (WantClient d)) = any_false ks
names_one_of-named ks (Out (Write d bytes)) = any_false ks
names_one_of-named ks (Out (Shut d why)) = any_false ks
names_one_of-named ks (Out (Upgrade d rest)) = any_false ks
names_one_of-named ks (Out (Says d texts)) = any_false ks
names_one_of-named ks (Out (CloseWs d code)) = any_false ks
names_one_of-named ks (In (Started d)) = refl
names_one_of-named ks (In (StartFailed d)) = refl
names_one_of-named ks (In (StartFull d seen)) = refl
names_one_of-named ks (In (ChildBytes d bytes)) = refl
names_one_of-named ks (In (ChildEof d)) = refl
names_one_of-named ks (In (ChildBroken d)) = refl
names_one_of-named ks (In (Took d n)) = refl
names_one_of-named ks (In (InputGone d)) = refl
names_one_of-named ks (In (Exited d)) = refl
names_one_of-named ks (Out (Feed d bytes)) = refl
names_one_of-named ks (Out (EndInput d)) = refl
names_one_of-named ks (Out (WantChild d)) = refl
names_one_of-named ks (Out (Kill d)) = refl
names_one_of-named ks (Out (Release d)) = refl
names_one_of-named ks (Out (Start d e j hop launch)) = refl

pub no_start : (x : Item) → is_a_start x ≡ false → start_number x ≡ []
no_start (Out (Start k d j hop launch)) e = absurd (cc)
no_start _ e = refl

pub starts_none : (c : ℕ) (x : Item) → is_a_start x ≡ false → child_started c x ≡ []
starts_none c (Out (Start k d j hop launch)) e = absurd (cc)
starts_none c _ e = refl

pub with_child-started : (ks : List ℕ) (c : ℕ) (x : Item) → ks ++ child_started c x ≡ with_child ks c x
with_child-started ks c (Out (Start k d j hop launch)) =
    elim (c == d) as (λ b. ks ++ (if b then k ∷ [] else []) ≡ (if b then ks ++ k ∷ [] else ks)) [ true ↦ refl | false ↦ append-nil ks ]
with_child-started ks c _ = append-nil ks

plain : (a t s m n o : Bool) → (a || t || s) ≡ false → (a && m || n || o || t || s) ≡ (n || o)
plain true t s m n o e = absurd (cc)
plain false true s m n o e = absurd (cc)
plain false false true m n o e = absurd (cc)
plain false false false m true o e = refl
plain false false false m false true e = refl
plain false false false m false false e = refl

-- an item that is neither Accepted, Tick nor Stop is of whom it names
pub is_own-named : (c : ℕ) (ks : List ℕ) (count : ℕ) (x : Item) → is_common x ≡ false → is_own c ks count x ≡ (names c x || names_one_of ks x)
is_own-named c ks count x e =
    plain (is_accepted x) (is_tick x) (is_stop x) (count == c) (names c x) (names_one_of ks x) e

-- an item other than a Start names a connection, a child, or neither
pub data Kind (x : Item) : Type 0 where
  of_conn : (e : ℕ) → conn_named x ≡ Some e → child_named x ≡ None → Kind x
  of_child : (k : ℕ) → conn_named x ≡ None → child_named x ≡ Some k → Kind x
  of_none : conn_named x ≡ None → child_named x ≡ None → Kind x

pub kind : (x : Item) → is_a_start x ≡ false → Kind x
kind (In (ClientBytes d bytes)) e = of_conn d refl refl
kind (In (ClientEof d)) e = of_conn d refl refl
kind (In (ClientGone d)) e = of_conn d refl refl
kind (In (Wrote d n)) e = of_conn d refl refl
kind (In (WsText d bytes)) e = of_conn d refl refl
kind (In (WsBinary d)) e = of_conn d refl refl
kind (In (WsClosed d)) e = of_conn d refl refl
kind (In (WsBad d)) e = of_conn d refl refl
kind (In (NoRoom d)) e = of_conn d refl refl
kind (Out (WantClient d)) e = of_conn d refl refl
kind (Out (Write d bytes)) e = of_conn d refl refl
kind (Out (Shut d why)) e = of_conn d refl refl
kind (Out (Upgrade d rest)) e = of_conn d refl refl
kind (Out (Says d texts)) e = of_conn d refl refl
kind (Out (CloseWs d code)) e = of_conn d refl refl
kind (In (Started d)) e = of_child d refl refl
kind (In (StartFailed d)) e = of_child d refl refl
kind (In (StartFull d seen)) e = of_child d refl refl
kind (In (ChildBytes d bytes)) e = of_child d refl refl
kind (In (ChildEof d)) e = of_child d refl refl
kind (In (ChildBroken d)) e = of_child d refl refl
kind (In (Took d n)) e = of_child d refl refl
kind (In (InputGone d)) e = of_child d refl refl
kind (In (Exited d)) e = of_child d refl refl
kind (Out (Feed d bytes)) e = of_child d refl refl
kind (Out (EndInput d)) e = of_child d refl refl
kind (Out (WantChild d)) e = of_child d refl refl
kind (Out (Kill d)) e = of_child d refl refl
kind (Out (Release d)) e = of_child d refl refl
kind (In (Accepted peer)) e = of_none refl refl
kind (In (Tick secs)) e = of_none refl refl
kind (In Stop) e = of_none refl refl
kind (Out (Start k d j hop launch)) e = absurd (cc)

pub is_of-plain : (c : ℕ) (ks : List ℕ) (n : ℕ) (x : Item) → is_a_start x ≡ false → is_of c ks n x ≡ (names c x || names_one_of ks x)
is_of-plain c ks n (Out (Start k d j hop launch)) e = absurd (cc)
is_of-plain c ks n _ e = refl
