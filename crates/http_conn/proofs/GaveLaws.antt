-- Acts of one connection, given one after another.
use Rattle.std.proofs.Common.{◌≡◌, ℕ, ◌+◌, Bool, true, false, ◌&&◌, ◌||◌, ◌==◌, not, ◌<◌, ◌^◌, ◌-◌, List, [], ◌∷◌, ◌++◌, Option, Some, refl, sym, ap, ◌∙◌, subst, append-nil, if◌then◌else◌, length}
use Rattle.std.specs.List.{list_any}
use Rattle.std.proofs.lemmas.Bool.{false≢true, and_from, eq-eqb}
use Rattle.host_base.specs.declared.launch.Launch.{Launch}
use Rattle.host_trace.specs.declared.items.Act.{Act}
use Rattle.host_trace.specs.declared.items.Event.{Event}
use Rattle.host_trace.specs.declared.items.Act.TheVariants.{WantClient, Write, Shut, Start, Feed, EndInput, WantChild, Kill, Release, Upgrade, Says, CloseWs}
use Rattle.host_trace.specs.declared.items.Item.{Item}
use Rattle.host_trace.specs.declared.items.Why.{Why}
use Rattle.host_trace.specs.declared.items.Item.TheVariants.{In, Out}
use Rattle.host_trace.specs.Told.{Adds, when}
use Rattle.host_trace.proofs.AddsLaws.{Adds-trans}
use Rattle.own_traces.specs.Whose.{has, are_of, kids_after, next_after, with_child}
use Rattle.own_traces.proofs.BlockLaws.{are_of-append, next_after-append}
use Rattle.child_core.specs.View.{View}
use Rattle.child_core.specs.Due.{acted, acted_by, acting, acting_by, feed_given, input_given, kill_given, release_given, is_ask_due, is_feed_due, is_input_due, is_kill_due, is_release_due, piece_of}
use Rattle.http_state.specs.declared.conn.HttpConn.{HttpConn}
use Rattle.trace_child.specs.Words.{is_filled}
use Rattle.conn_flags.specs.View.{View as Flags, is_live, noted, may_write, less_by, more_by}
use Rattle.conn_flags.specs.Form.{is_allowed, given_all, are_given}
use Rattle.conn_flags.proofs.KnowsLaws.{given_all-append, are_given-append, given_all-number}
use Rattle.trace_model.specs.Exchange.{Exchange, continue_text, pushed, request_bytes}
use Rattle.exchange_request.specs.declared.incoming.Incoming.{Incoming}
use Rattle.exchange_request.specs.Knows.{KnowsRequest, is_ready, limits_of}
use Rattle.conn_laws.specs.Front.{IsHeard}
use Rattle.conn_laws.specs.Moves.{Move, gives, continues, acts_of, moved, Belongs}
use Rattle.conn_laws.proofs.FrontLaws.{acts_keep, continues_known, counted_all, known_request, known_same}
use Rattle.conn_laws.proofs.MoveLaws.{acts_of-append}
use Rattle.http_state.specs.Hears.{Hears}
use Rattle.http_state.specs.Kept.{AreOwn, Gave, Heard, HasChildIn, Kept, Leads, StandsFor, Turned, Within, front_of, is_reading, flags_of, number_of, peer_of, site_of}
use Rattle.host_trace.specs.Kinds.{is_upgrade}
use Rattle.http_state.specs.Moves.{losing}
use Rattle.http_state.specs.Deeds.{Deed, GivesUp, Loses, Nothing, Or, Part, Then, gives_all, the_one, the_other}
use Rattle.http_conn.specs.Parts.{Continues}
use Rattle.http_conn.specs.Step.{SteppedBy}
use Rattle.http_conn.specs.Writes.{acts_continued, acts_written, continued, have_place, wrote}
use Rattle.http_state.proofs.KeptLaws.{kept_number, leads_none, leads_as, led_then, leads_then, kept_known, kept_turned, kept_same, losing_kept}

pub adds_nothing : (b : Option (List Item)) → Adds b [] b
adds_nothing b now told = record { was = now; told = told; grew = sym (append-nil now) }

pub kids_after-append : (ks : List ℕ) (c : ℕ) (xs ys : List Act) → kids_after ks c (xs ++ ys) ≡ kids_after (kids_after ks c xs) c ys
kids_after-append ks c [] ys = refl
kids_after-append ks c (x ∷ xs) ys = kids_after-append (with_child ks c (Out x)) c xs ys

-- ---- nothing, and one after the other

pub gave_number : {A : Deed} {old new : HttpConn} {n m : ℕ} {b d : Option (List Item)} → Gave A old n b new m d → number_of new ≡ number_of old
gave_number {A} {old} g = ap (λ (m : Flags). m.c) g.flags ∙ given_all-number (flags_of old) g.acts

pub gave_still : {A : Deed} {old new : HttpConn} {n : ℕ} {b d : Option (List Item)} → Turned A old new → Adds b [] d → Gave A old n b new n d
gave_still {A} {old} {new} {n} {b} {d} t told = record {
  acts = [];
  told = told;
  next = refl;
  site = t.site;
  peer_is = t.peer_is;
  form = refl;
  flags = t.flags;
  own = λ ks w. record { are = refl; child = t.child ks w };
  moves = t.moves;
  same = t.none;
  keeps = t.keeps;
  does = t.does n;
}

pub gave_turned : {A : Deed} {old new : HttpConn} {n : ℕ} {b : Option (List Item)} → Turned A old new → Gave A old n b new n b
gave_turned {A} {old} {new} {n} {b} t = gave_still t (adds_nothing b)

own_next : (c c' n n' : ℕ) (ks : List ℕ) (xs ys : List Act) (mid new : HttpConn) → c' ≡ c → n' ≡ next_after n xs → AreOwn c n ks xs mid
    → AreOwn c' n' (kids_after ks c xs) ys new → AreOwn c n ks (xs ++ ys) new
own_next c c' n n' ks xs ys mid new c_is n_is one two =
    let are : are_of c (kids_after ks c xs) (next_after n xs) ys ≡ true =
    subst (λ (d : ℕ). are_of d (kids_after ks c xs) (next_after n xs) ys ≡ true) c_is
    (subst (λ (m : ℕ). are_of c' (kids_after ks c xs) m ys ≡ true) n_is two.are) in
    let child : HasChildIn new (kids_after (kids_after ks c xs) c ys) =
    subst (λ (d : ℕ). HasChildIn new (kids_after (kids_after ks c xs) d ys)) c_is two.child in
    record {
      are = are_of-append c ks n xs ys ∙ and_from _ _ one.are are;
      child = subst (λ (l : List ℕ). HasChildIn new l) (sym (kids_after-append ks c xs ys)) child;
    }

pub gave_then : {A B : Deed} {old mid new : HttpConn} {n m l : ℕ} {a b d : Option (List Item)} → Gave A old n a mid m b → Gave B mid m b new l d
    → Gave (Then A B) old n a new l d
gave_then {A} {B} {old} {mid} {new} {n} {m} {l} {a} {b} {d} one two =
    let next : l ≡ next_after n (one.acts ++ two.acts) =
    two.next ∙ ap (λ (k : ℕ). next_after k two.acts) one.next ∙ sym (next_after-append n one.acts two.acts) in
    let later : are_given (given_all (flags_of old) one.acts) two.acts ≡ true =
    subst (λ (v : Flags). are_given v two.acts ≡ true) one.flags two.form in
    let m_is : m ≡ next_after n (acts_of one.moves) = one.next ∙ ap (λ (l : List Act). next_after n l) (sym one.same) in
    record {
      acts = one.acts ++ two.acts;
      told = Adds-trans one.told two.told;
      next = next;
      site = two.site ∙ one.site;
      peer_is = two.peer_is ∙ one.peer_is;
      form = are_given-append (flags_of old) one.acts two.acts one.form later;
      flags = two.flags ∙ ap (λ (v : Flags). given_all v two.acts) one.flags ∙ sym (given_all-append (flags_of old) one.acts two.acts);
      own = λ ks w.
          let first : AreOwn (number_of old) n ks one.acts mid = one.own ks w in
          own_next (number_of old) (number_of mid) n m ks one.acts two.acts mid new (gave_number one) one.next first
          (two.own (kids_after ks (number_of old) one.acts) first.child);
      moves = one.moves ++ two.moves;
      same = acts_of-append one.moves two.moves
          ∙ (ap (λ (l : List Act). l ++ acts_of two.moves) one.same ∙ ap (λ (l : List Act). one.acts ++ l) two.same);
      keeps = leads_then (site_of old) (site_of mid) (number_of old) (number_of mid) old mid new one.moves two.moves one.site (gave_number one) one.keeps two.keeps;
      does = record { mid = mid; sooner = one.moves; later = two.moves; are = refl; first = one.does; second = subst (λ (k : ℕ). B mid k two.moves new) m_is two.does };
    }

-- what was done is also this
pub gave_as : {A B : Deed} {old new : HttpConn} {n m : ℕ} {b d : Option (List Item)} → ((moves : List Move) → A old n moves new → B old n moves new)
    → Gave A old n b new m d → Gave B old n b new m d
gave_as {A} {B} {old} {new} {n} {m} {b} {d} as_other g = record {
  acts = g.acts;
  told = g.told;
  next = g.next;
  site = g.site;
  peer_is = g.peer_is;
  form = g.form;
  flags = g.flags;
  own = g.own;
  moves = g.moves;
  same = g.same;
  keeps = g.keeps;
  does = as_other g.moves g.does;
}

-- .. and a part
pub gave_part : {A : Deed} {old new : HttpConn} {n m : ℕ} {b d : Option (List Item)} → Gave A old n b new m d → Gave (Part A) old n b new m d
gave_part {A} {old} {new} {n} {m} {b} {d} g =
    let flags : flags_of new ≡ given_all (flags_of old) (acts_of g.moves) = g.flags ∙ ap (λ (l : List Act). given_all (flags_of old) l) (sym g.same) in
    record {
      acts = g.acts;
      told = g.told;
      next = g.next;
      site = g.site;
      peer_is = g.peer_is;
      form = g.form;
      flags = g.flags;
      own = g.own;
      moves = g.moves;
      same = g.same;
      keeps = g.keeps;
      does = record { site = g.site; peer_is = g.peer_is; flags = flags; leads = g.keeps; by = g.does };
    }

-- after what kept all it was done from the first
pub gave_from : {A B : Deed} {old mid new : HttpConn} {n m : ℕ} {b d : Option (List Item)} → Kept old mid
    → ((moves : List Move) → A mid n moves new → B old n moves new) → Gave A mid n b new m d → Gave B old n b new m d
gave_from {A} {B} {old} {mid} {new} {n} {m} {b} {d} k as_first g =
    let number : number_of mid ≡ number_of old = kept_number k in
    record {
      acts = g.acts;
      told = g.told;
      next = g.next;
      site = g.site ∙ k.site;
      peer_is = g.peer_is ∙ k.peer_is;
      form = subst (λ (v : Flags). are_given v g.acts ≡ true) k.flags g.form;
      flags = g.flags ∙ ap (λ (v : Flags). given_all v g.acts) k.flags;
      own = λ ks w. subst (λ (c : ℕ). AreOwn c n ks g.acts new) number (g.own ks (k.child ks w));
      moves = g.moves;
      same = g.same;
      keeps = λ e known. leads_as (site_of old) (site_of mid) (number_of old) (number_of mid) mid new g.moves k.site number g.keeps e (kept_known k e known);
      does = as_first g.moves g.does;
    }

-- ---- acts of the connection

-- what was kept, and the flags know the act
pub record KeptAfter (act : Act) (old new : HttpConn) : Type 0 where
  pub site : site_of new ≡ site_of old
  pub flags : flags_of new ≡ noted (flags_of old) (Out act)
  pub peer_is : peer_of new ≡ peer_of old
  pub child : (ks : List ℕ) → HasChildIn old ks → HasChildIn new ks
  pub front : front_of new ≡ front_of old
  pub lost : old.lost ≡ true → new.lost ≡ true
  pub reading : is_reading old.stage ≡ false → is_reading new.stage ≡ false

pub kept_then : {act : Act} {old mid new : HttpConn} → KeptAfter act old mid → Kept mid new → KeptAfter act old new
kept_then one two = record {
  site = two.site ∙ one.site;
  flags = two.flags ∙ one.flags;
  peer_is = two.peer_is ∙ one.peer_is;
  child = λ ks w. two.child ks (one.child ks w);
  front = two.front ∙ one.front;
  lost = λ l. two.lost (one.lost l);
  reading = λ r. two.reading (one.reading r);
}

same_number : (c : ℕ) → (c == c) ≡ true
same_number c = eq-eqb c c refl

or_left : (a b : Bool) → a ≡ true → (a || b) ≡ true
or_left true b e = refl
or_left false b e = absurd (cc)

-- the act names the connection, and is no Start
abbrev IsPlain : ℕ → Act → Type 0
IsPlain c (WantClient d) = d ≡ c
IsPlain c (Write d bytes) = d ≡ c
IsPlain c (Shut d why) = d ≡ c
IsPlain c _ = ⊥

plain_own : (c n : ℕ) (ks : List ℕ) (act : Act) (new : HttpConn) → IsPlain c act → HasChildIn new ks → AreOwn c n ks (act ∷ []) new
plain_own c n ks (WantClient d) new is w = record { are = and_from _ _ (or_left (c == d) _ (ap (λ (e : ℕ). c == e) is ∙ same_number c)) refl; child = w }
plain_own c n ks (Write d bytes) new is w = record { are = and_from _ _ (or_left (c == d) _ (ap (λ (e : ℕ). c == e) is ∙ same_number c)) refl; child = w }
plain_own c n ks (Shut d why) new is w = record { are = and_from _ _ (or_left (c == d) _ (ap (λ (e : ℕ). c == e) is ∙ same_number c)) refl; child = w }
plain_own c n ks _ new is w = absurd is

plain_next : (c n : ℕ) (act : Act) → IsPlain c act → n ≡ next_after n (act ∷ [])
plain_next c n (WantClient d) is = refl
plain_next c n (Write d bytes) is = refl
plain_next c n (Shut d why) is = refl
plain_next c n _ is = absurd is

plain_upgrades : (c : ℕ) (act : Act) → IsPlain c act → (d : ℕ) → is_upgrade d (Out act) ≡ false
plain_upgrades c (WantClient d) is b = refl
plain_upgrades c (Write d bytes) is b = refl
plain_upgrades c (Shut d why) is b = refl
plain_upgrades c _ is b = absurd is

after_number : {act : Act} {old new : HttpConn} → KeptAfter act old new → number_of new ≡ number_of old
after_number k = ap (λ (m : Flags). m.c) k.flags

after_known : (act : Act) (old new : HttpConn) (e : Exchange) → KeptAfter act old new → is_upgrade (number_of old) (Out act) ≡ false → StandsFor old e
    → StandsFor new (pushed e (Out act))
after_known act old new e k none known =
    known_same k.site (after_number k) k.peer_is k.lost k.reading k.front
    (acts_keep (site_of old) (number_of old) (peer_of old) old.lost (is_reading old.stage) (front_of old) e act none known)

pub gave_plain : {A : Deed} {old new : HttpConn} {n : ℕ} {b d : Option (List Item)} (act : Act) → IsPlain (number_of old) act → is_allowed (flags_of old) act ≡ true
    → Adds b (act ∷ []) d → KeptAfter act old new → ((e : Exchange) → StandsFor old e → Belongs e act) → A old n (gives act ∷ []) new → Gave A old n b new n d
gave_plain {A} {old} {new} {n} {b} {d} act is may told k belongs does = record {
  acts = act ∷ [];
  told = told;
  next = plain_next (number_of old) n act is;
  site = k.site;
  peer_is = k.peer_is;
  form = and_from _ _ may refl;
  flags = k.flags;
  own = λ ks w. plain_own (number_of old) n ks act new is (k.child ks w);
  moves = gives act ∷ [];
  same = refl;
  keeps = λ e known a. (after_known act old new e k (plain_upgrades (number_of old) act is (number_of old)) known, (belongs e known, tt));
  does = does;
}

-- ---- flags of which an item says nothing

same_either : (b : Bool) (n : ℕ) → (if b then n else n) ≡ n
same_either true n = refl
same_either false n = refl

-- an item that says nothing of the connection
abbrev stilled : Flags → Flags
stilled m = record m { pending = less_by 0 (more_by (if m.upgraded then 0 else 0) m.pending) }

flags_still : (m : Flags) → stilled m ≡ m
flags_still m = ap (λ (k : ℕ). record m { pending = less_by 0 (more_by k m.pending) }) (same_either m.upgraded 0)

-- ---- a Start

start_has : (ks : List ℕ) (k : ℕ) → has (ks ++ k ∷ []) k ≡ true
start_has [] k = or_left (k == k) false (same_number k)
start_has (j ∷ ks) k = or_right (j == k) (has (ks ++ k ∷ []) k) (start_has ks k)
  where
    or_right : (a b : Bool) → b ≡ true → (a || b) ≡ true
    or_right true b e = refl
    or_right false b e = e

-- what is known of its exchange beside its script stays
pub record FrontKept (old new : HttpConn) : Type 0 where
  pub front : front_of new ≡ front_of old
  pub lost : old.lost ≡ true → new.lost ≡ true
  pub reading : is_reading old.stage ≡ false → is_reading new.stage ≡ false

pub gave_start : {A : Deed} {old new : HttpConn} {b d : Option (List Item)} (n c j hop : ℕ) (launch : Launch) (v : View) → c ≡ number_of old → new.run ≡ Some v → v.number ≡ n
    → is_allowed (flags_of old) (Start n c j hop launch) ≡ true → Adds b (Start n c j hop launch ∷ []) d → site_of new ≡ site_of old → peer_of new ≡ peer_of old → flags_of new ≡ flags_of old
    → FrontKept old new → j ≡ old.number → j < 2 ^ 128 - 1 → old.closing ≡ false → A old n (gives (Start n c j hop launch) ∷ []) new → Gave A old n b new (n + 1) d
gave_start {A} {old} {new} {b} {d} n c j hop launch v c_is run k live told site peer flags front j_is less open_yet does = record {
  acts = Start n c j hop launch ∷ [];
  told = told;
  next = refl;
  site = site;
  peer_is = peer;
  form = and_from _ _ live refl;
  flags = flags ∙ sym (flags_still (flags_of old));
  own = λ ks w.
      let mine : (number_of old == c) ≡ true = ap (λ (e : ℕ). number_of old == e) c_is ∙ same_number (number_of old) in
      let kids : with_child ks (number_of old) (Out (Start n c j hop launch)) ≡ ks ++ n ∷ [] = ap (λ (t : Bool). if t then ks ++ n ∷ [] else ks) mine in
      let has_it : Within (Some v) (ks ++ n ∷ []) = ap (λ (e : ℕ). has (ks ++ n ∷ []) e) k ∙ start_has ks n in
      record {
        are = and_from _ _ (and_from _ _ mine (same_number n)) refl;
        child = subst (λ (r : Option View). Within r (with_child ks (number_of old) (Out (Start n c j hop launch)))) (sym run)
            (subst (λ (l : List ℕ). Within (Some v) l) (sym kids) has_it);
      };
  moves = gives (Start n c j hop launch) ∷ [];
  same = refl;
  keeps = λ e known a.
      let after : StandsFor new (pushed e (Out (Start n c j hop launch))) =
      known_same site (ap (λ (m : Flags). m.c) flags) peer front.lost front.reading front.front
      (acts_keep (site_of old) (number_of old) (peer_of old) old.lost (is_reading old.stage) (front_of old) e (Start n c j hop launch) refl known) in
      let number : j ≡ e.number = counted_all j e.number (j_is ∙ known.number) less in
      (after, ((number, sym known.closing ∙ open_yet), tt));
  does = does;
}

-- ---- acts of the child

-- the act is one of child k's
abbrev IsChilds : ℕ → Act → Type 0
IsChilds k (Feed d bytes) = d ≡ k
IsChilds k (EndInput d) = d ≡ k
IsChilds k (WantChild d) = d ≡ k
IsChilds k (Kill d) = d ≡ k
IsChilds k (Release d) = d ≡ k
IsChilds k _ = ⊥

abbrev AreChilds : ℕ → List Act → Type 0
AreChilds k [] = Unit {0}
AreChilds k (act ∷ acts) = IsChilds k act × AreChilds k acts

childs_append : (k : ℕ) (xs ys : List Act) → AreChilds k xs → AreChilds k ys → AreChilds k (xs ++ ys)
childs_append k [] ys a b = b
childs_append k (x ∷ xs) ys a b = (a.0, childs_append k xs ys a.1 b)

childs_when : (k : ℕ) (test : Bool) (act : Act) → IsChilds k act → AreChilds k (when test act)
childs_when k true act is = (is, tt)
childs_when k false act is = tt

childs_acting : (may : Bool) (v : View) → AreChilds v.number (acting may v)
unfolding acting
childs_acting may v =
    let v1 = feed_given v in
    let v2 = input_given v1 in
    let v3 = kill_given v2 in
    let v4 = release_given v3 in
    let w1 = when (is_feed_due v) (Feed v.number (piece_of v)) in
    let w2 = when (is_input_due v1) (EndInput v.number) in
    let w3 = when (is_kill_due v2) (Kill v.number) in
    let w4 = when (is_release_due v3) (Release v.number) in
    let w5 = when (is_ask_due may v4) (WantChild v.number) in
    let e1 : AreChilds v.number w1 = childs_when v.number (is_feed_due v) (Feed v.number (piece_of v)) refl in
    let e2 : AreChilds v.number w2 = childs_when v.number (is_input_due v1) (EndInput v.number) refl in
    let e3 : AreChilds v.number w3 = childs_when v.number (is_kill_due v2) (Kill v.number) refl in
    let e4 : AreChilds v.number w4 = childs_when v.number (is_release_due v3) (Release v.number) refl in
    let e5 : AreChilds v.number w5 = childs_when v.number (is_ask_due may v4) (WantChild v.number) refl in
    childs_append v.number (((w1 ++ w2) ++ w3) ++ w4) w5 (childs_append v.number ((w1 ++ w2) ++ w3) w4
    (childs_append v.number (w1 ++ w2) w3 (childs_append v.number w1 w2 e1 e2) e3) e4) e5

acted_number : (may : Bool) (v : View) → (acted may v).number ≡ v.number
unfolding acted
acted_number may v = refl

record ChildsOwn (c n : ℕ) (ks : List ℕ) (acts : List Act) : Type 0 where
  pub are : are_of c ks n acts ≡ true
  pub next : next_after n acts ≡ n
  pub kids : kids_after ks c acts ≡ ks

one_of : (ks : List ℕ) (k d : ℕ) → has ks k ≡ true → d ≡ k → list_any (λ j. j == d) ks ≡ true
one_of ks k d h is = subst (λ (e : ℕ). list_any (λ j. j == e) ks ≡ true) (sym is) h

childs_own : (c n k : ℕ) (ks : List ℕ) (acts : List Act) → has ks k ≡ true → AreChilds k acts → ChildsOwn c n ks acts
childs_own c n k ks [] h a = record { are = refl; next = refl; kids = refl }
childs_own c n k ks (Feed d bytes ∷ acts) h a =
    let r = childs_own c n k ks acts h a.1 in record { are = and_from _ _ (one_of ks k d h a.0) r.are; next = r.next; kids = r.kids }
childs_own c n k ks (EndInput d ∷ acts) h a =
    let r = childs_own c n k ks acts h a.1 in record { are = and_from _ _ (one_of ks k d h a.0) r.are; next = r.next; kids = r.kids }
childs_own c n k ks (WantChild d ∷ acts) h a =
    let r = childs_own c n k ks acts h a.1 in record { are = and_from _ _ (one_of ks k d h a.0) r.are; next = r.next; kids = r.kids }
childs_own c n k ks (Kill d ∷ acts) h a =
    let r = childs_own c n k ks acts h a.1 in record { are = and_from _ _ (one_of ks k d h a.0) r.are; next = r.next; kids = r.kids }
childs_own c n k ks (Release d ∷ acts) h a =
    let r = childs_own c n k ks acts h a.1 in record { are = and_from _ _ (one_of ks k d h a.0) r.are; next = r.next; kids = r.kids }
childs_own c n k ks _ h a = absurd a.0

by_found : (found may : Bool) (v : View) → AreChilds v.number (acting_by found may v)
by_found true may v = childs_acting may v
by_found false may v = tt

-- the flags of a connection say nothing of its child
record ChildsForm (m : Flags) (acts : List Act) : Type 0 where
  pub form : are_given m acts ≡ true
  pub same : given_all m acts ≡ m

form_still : (m : Flags) (acts : List Act) → ChildsForm m acts → are_given (stilled m) acts ≡ true
form_still m acts r = subst (λ (v : Flags). are_given v acts ≡ true) (sym (flags_still m)) r.form

all_still : (m : Flags) (acts : List Act) → ChildsForm m acts → given_all (stilled m) acts ≡ m
all_still m acts r = ap (λ (v : Flags). given_all v acts) (flags_still m) ∙ r.same

childs_form : (m : Flags) (k : ℕ) (acts : List Act) → AreChilds k acts → ChildsForm m acts
childs_form m k [] a = record { form = refl; same = refl }
childs_form m k (Feed d bytes ∷ acts) a = let r = childs_form m k acts a.1 in record { form = form_still m acts r; same = all_still m acts r }
childs_form m k (EndInput d ∷ acts) a = let r = childs_form m k acts a.1 in record { form = form_still m acts r; same = all_still m acts r }
childs_form m k (WantChild d ∷ acts) a = let r = childs_form m k acts a.1 in record { form = form_still m acts r; same = all_still m acts r }
childs_form m k (Kill d ∷ acts) a = let r = childs_form m k acts a.1 in record { form = form_still m acts r; same = all_still m acts r }
childs_form m k (Release d ∷ acts) a = let r = childs_form m k acts a.1 in record { form = form_still m acts r; same = all_still m acts r }
childs_form m k _ a = absurd a.0

-- they leave what is known of the exchange beside its script
all_given : (acts : List Act) → acts_of (gives_all acts) ≡ acts
all_given [] = refl
all_given (act ∷ acts) = ap (λ (l : List Act). act ∷ l) (all_given acts)

record ChildsAct (c k : ℕ) (act : Act) : Type 0 where
  pub upgrades : is_upgrade c (Out act) ≡ false
  pub belongs : (e : Exchange) → Belongs e act

childs_act : (c k : ℕ) (act : Act) → IsChilds k act → ChildsAct c k act
childs_act c k (Feed d bytes) is = record { upgrades = refl; belongs = λ e. tt }
childs_act c k (EndInput d) is = record { upgrades = refl; belongs = λ e. tt }
childs_act c k (WantChild d) is = record { upgrades = refl; belongs = λ e. tt }
childs_act c k (Kill d) is = record { upgrades = refl; belongs = λ e. tt }
childs_act c k (Release d) is = record { upgrades = refl; belongs = λ e. tt }
childs_act c k _ is = absurd is

childs_lead : (k : ℕ) (acts : List Act) → AreChilds k acts → (conn : HttpConn) → Leads (site_of conn) (number_of conn) conn conn (gives_all acts)
childs_lead k [] are conn e known a = (known, tt)
childs_lead k (act ∷ acts) are conn e known a =
    let one = childs_act (number_of conn) k act are.0 in
    let next : StandsFor conn (pushed e (Out act)) =
    acts_keep (site_of conn) (number_of conn) (peer_of conn) conn.lost (is_reading conn.stage) (front_of conn) e act one.upgrades known in
    let rest = childs_lead k acts are.1 conn (pushed e (Out act)) next a.1 in
    (rest.0, (one.belongs e, rest.1))

number_by : (found may : Bool) (v : View) → (acted_by found may v).number ≡ v.number
number_by true may v = acted_number may v
number_by false may v = refl

pub gave_run : {A : Deed} {old new : HttpConn} {n : ℕ} {b d : Option (List Item)} (found may : Bool) (v : View) → old.run ≡ Some v → new.run ≡ Some (acted_by found may v)
    → Adds b (acting_by found may v) d → site_of new ≡ site_of old → peer_of new ≡ peer_of old → flags_of new ≡ flags_of old → FrontKept old new
    → A old n (gives_all (acting_by found may v)) new → Gave A old n b new n d
gave_run {A} {old} {new} {n} {b} {d} found may v was is told site peer flags front does = record {
  acts = acting_by found may v;
  told = told;
  next = sym (childs_own (number_of old) n v.number (v.number ∷ []) (acting_by found may v) (or_left (v.number == v.number) false (same_number v.number)) (by_found found may v)).next;
  site = site;
  peer_is = peer;
  form = (childs_form (flags_of old) v.number (acting_by found may v) (by_found found may v)).form;
  flags = flags ∙ sym (childs_form (flags_of old) v.number (acting_by found may v) (by_found found may v)).same;
  own = λ ks w.
      let h : has ks v.number ≡ true = subst (λ (r : Option View). Within r ks) was w in
      let r = childs_own (number_of old) n v.number ks (acting_by found may v) h (by_found found may v) in
      record {
        are = r.are;
        child = subst (λ (q : Option View). Within q (kids_after ks (number_of old) (acting_by found may v))) (sym is)
            (subst (λ (l : List ℕ). Within (Some (acted_by found may v)) l) (sym r.kids)
            (ap (λ (e : ℕ). has ks e) (number_by found may v) ∙ h));
      };
  moves = gives_all (acting_by found may v);
  same = all_given (acting_by found may v);
  keeps = λ e known a.
      let r = childs_lead v.number (acting_by found may v) (by_found found may v) old e known a in
      (known_same site (ap (λ (m : Flags). m.c) flags) peer front.lost front.reading front.front r.0, r.1);
  does = does;
}

-- nothing was done
pub gave_nothing : (conn : HttpConn) {n : ℕ} {b : Option (List Item)} → Gave Nothing conn n b conn n b
gave_nothing conn {n} {b} = gave_turned (kept_turned (kept_same conn) (λ k. record { none = refl; same = refl }))

-- what was done stays, as what keeps all follows
pub gave_before : {A B : Deed} {old mid new : HttpConn} {n m : ℕ} {b d : Option (List Item)} → Gave A old n b mid m d → Kept mid new
    → ((moves : List Move) → A old n moves mid → B old n moves new) → Gave B old n b new m d
gave_before {A} {B} {old} {mid} {new} {n} {m} {b} {d} g k as_later = record {
  acts = g.acts;
  told = g.told;
  next = g.next;
  site = k.site ∙ g.site;
  peer_is = k.peer_is ∙ g.peer_is;
  form = g.form;
  flags = k.flags ∙ g.flags;
  own = λ ks w. let first = g.own ks w in record { are = first.are; child = k.child (kids_after ks (number_of old) g.acts) first.child };
  moves = g.moves;
  same = g.same;
  keeps = λ e known a. let first = g.keeps e known a in (kept_known k (moved (site_of old) (number_of old) e g.moves) first.0, first.1);
  does = as_later g.moves g.does;
}

-- ---- a step

pub stepped : {A : Deed} {old mid new : HttpConn} {ev : Event} {n m : ℕ} {b d : Option (List Item)} → Heard old ev mid → Hears old ev mid → Gave A mid n b new m d
    → SteppedBy A old ev n b new m d
stepped {A} {old} {mid} {new} {ev} {n} {m} {b} {d} h x g =
    let number : number_of mid ≡ number_of old = ap (λ (v : Flags). v.c) h.flags in
    record {
      acts = g.acts;
      told = g.told;
      next = g.next;
      site = g.site ∙ h.site;
      peer_is = g.peer_is ∙ h.peer_is;
      form = subst (λ (v : Flags). are_given v g.acts ≡ true) h.flags g.form;
      flags = g.flags ∙ ap (λ (v : Flags). given_all v g.acts) h.flags;
      own = λ ks w. subst (λ (c : ℕ). AreOwn c n ks g.acts new) number (g.own ks (h.child ks w));
      mid = mid;
      heard = h;
      exact = x;
      later = g.moves;
      does = g.does;
      moves = h.moves ++ g.moves;
      are = refl;
      same = acts_of-append h.moves g.moves ∙ (ap (λ (l : List Act). l ++ acts_of g.moves) h.none ∙ g.same);
      keeps = λ e two settled known.
          led_then (site_of old) (number_of old) mid new (pushed e (In ev)) h.moves g.moves (h.keeps e two settled known)
          (leads_as (site_of old) (site_of mid) (number_of old) (number_of mid) mid new g.moves h.site number g.keeps);
    }

filled_by : (bytes : List ℕ) → (length bytes == 0) ≡ false → is_filled bytes ≡ true
filled_by [] e = sym e
filled_by (b ∷ bytes) e = refl

pub write_allowed : (m : Flags) (k : ℕ) (byte : ℕ) (bytes : List ℕ) → may_write m ≡ true → have_place m (byte ∷ bytes) ≡ true → is_allowed m (Write k (byte ∷ bytes)) ≡ true
write_allowed m k byte bytes may place =
    and_from (may_write m && true && have_place m (byte ∷ bytes)) true (and_from (may_write m && true) (have_place m (byte ∷ bytes)) (and_from (may_write m) true may refl) place) refl

text_allowed : (m : Flags) (k : ℕ) (text : List ℕ) → may_write m ≡ true → is_filled text ≡ true → have_place m text ≡ true → is_allowed m (Write k text) ≡ true
text_allowed m k [] may filled place = absurd (false≢true filled)
text_allowed m k (byte ∷ bytes) may filled place = write_allowed m k byte bytes may place

-- ---- Writes

-- bytes were written, or there was no room for them
pub record Wrote (bytes : List ℕ) (found : Bool) (old : HttpConn) (n : ℕ) (moves : List Move) (new : HttpConn) : Type 0 where
  pub moves_are : moves ≡ gives_all (acts_written old.flags.c bytes found)
  pub is : new ≡ wrote bytes found old

pub gave_write : {new : HttpConn} {n : ℕ} {b d : Option (List Item)} (bytes : List ℕ) (found : Bool) (old : HttpConn) → may_write (flags_of old) ≡ true → (found ≡ true → have_place (flags_of old) bytes ≡ true)
    → old.closing ≡ false → new ≡ wrote bytes found old → Adds b (acts_written (number_of old) bytes found) d → Gave (Wrote bytes found) old n b new n d
gave_write {new} {n} {b} {d} bytes found old may place open_yet is told =
    subst (λ (conn : HttpConn). Gave (Wrote bytes found) old n b conn n d) (sym is) (go bytes found place told)
  where
    go : (text : List ℕ) (f : Bool) → (f ≡ true → have_place (flags_of old) text ≡ true) → Adds b (acts_written (number_of old) text f) d → Gave (Wrote text f) old n b (wrote text f old) n d
    go [] f p t = gave_still (kept_turned (kept_same old) (λ k. record { moves_are = refl; is = refl })) t
    go (byte ∷ text) true p t =
        gave_plain (Write (number_of old) (byte ∷ text)) refl (write_allowed (flags_of old) (number_of old) byte text may (p refl)) t
        (record { site = refl; flags = refl; peer_is = refl; child = λ ks w. w; front = refl; lost = λ l. l; reading = λ r. r })
        (λ e known. sym known.closing ∙ open_yet) (record { moves_are = refl; is = refl })
    go (byte ∷ text) false p t = gave_still (kept_turned (losing_kept old) (λ k. record { moves_are = refl; is = refl })) t

-- ---- memory runs out

pub loses_here : (conn : HttpConn) (n : ℕ) → Loses conn n [] (losing conn)
loses_here conn n = record { none = refl; gives_up = record { is = refl; limits = refl; answered = refl } }

pub gave_lost : {old new : HttpConn} {n : ℕ} {b d : Option (List Item)} → Kept old new → GivesUp old new → Adds b [] d → Gave (Part Loses) old n b new n d
gave_lost {old} {new} {n} {b} {d} k up told = gave_part (gave_still (kept_turned k (λ i. record { none = refl; gives_up = up })) told)

-- ---- 100 Continue

pub gave_continue : {new : HttpConn} {n : ℕ} {b d : Option (List Item)} (found : Bool) (old : HttpConn) → may_write (flags_of old) ≡ true → (found ≡ true → have_place (flags_of old) continue_text ≡ true)
    → old.closing ≡ false → new ≡ continued found old → Adds b (acts_continued (number_of old) found) d → Gave (Or Continues Loses) old n b new n d
gave_continue {new} {n} {b} {d} found old may place open_yet is told =
    subst (λ (conn : HttpConn). Gave (Or Continues Loses) old n b conn n d) (sym is) (go found place told)
  where
    go : (f : Bool) → (f ≡ true → have_place (flags_of old) continue_text ≡ true) → Adds b (acts_continued (number_of old) f) d → Gave (Or Continues Loses) old n b (continued f old) n d
    go true p t = record {
      acts = Write (number_of old) continue_text ∷ [];
      told = t;
      next = refl;
      site = refl;
      peer_is = refl;
      form = and_from (is_allowed (flags_of old) (Write (number_of old) continue_text)) true (text_allowed (flags_of old) (number_of old) continue_text may refl (p refl)) refl;
      flags = refl;
      own = λ ks w. plain_own (number_of old) n ks (Write (number_of old) continue_text) (continued true old) refl w;
      moves = continues (number_of old) ∷ [];
      same = refl;
      keeps = λ e known a. (
        continues_known (site_of old) (number_of old) (peer_of old) old.lost (is_reading old.stage) (front_of old) e a.1 known,
        (sym known.closing ∙ open_yet, tt),
      );
      does = the_one (record { moves_are = refl; is = refl });
    }
    go false p t = gave_still (kept_turned (losing_kept old) (λ k. the_other (loses_here old k))) t

-- ---- the request was looked at

pub looked : {A : Deed} {new : HttpConn} (old : HttpConn) (i : Incoming) → site_of new ≡ site_of old → flags_of new ≡ flags_of old → peer_of new ≡ peer_of old
    → ((ks : List ℕ) → HasChildIn old ks → HasChildIn new ks) → (old.lost ≡ true → new.lost ≡ true) → front_of new ≡ record (front_of old) { request = i }
    → limits_of i ≡ limits_of old.request
    → (new.lost ≡ false → (bytes : List ℕ) (taken : ℕ) → KnowsRequest old.request bytes taken → (is_reading old.stage ≡ true → is_ready old.request ≡ false)
    → IsHeard i (is_reading new.stage) bytes) → ((n : ℕ) → A old n [] new) → Turned A old new
looked {A} {new} old i site flags peer child lost front limits next does = record {
  site = site;
  flags = flags;
  peer_is = peer;
  child = child;
  moves = [];
  none = refl;
  keeps = leads_none (site_of old) (number_of old) old new
      (λ e known. known_same site (ap (λ (m : Flags). m.c) flags) peer (λ l. l) (λ r. r) front
      (known_request (site_of old) (number_of old) (peer_of old) old.lost new.lost (is_reading old.stage) (is_reading new.stage) (front_of old) i e lost limits
      (λ l. next l (request_bytes (number_of old) e)) known));
  does = does;
}

-- bytes that are 100 Continue
pub continue_acts : (c : ℕ) (bytes : List ℕ) (found : Bool) → bytes ≡ continue_text → acts_written c bytes found ≡ acts_continued c found
continue_acts c bytes found is = ap (λ (text : List ℕ). acts_written c text found) is ∙ go found
  where
    go : (b : Bool) → acts_written c continue_text b ≡ acts_continued c b
    go true = refl
    go false = refl

-- a connection that was shut is not live
pub shut_dead : (m : Flags) (why : Why) → is_live (noted m (Out (Shut m.c why))) ≡ false
shut_dead m why = ap (λ (b : Bool). m.accepted && not (b || m.shut)) (same_number m.c) ∙ and_false m.accepted
  where
    and_false : (b : Bool) → (b && false) ≡ false
    and_false true = refl
    and_false false = refl
