-- What the acts of a step make of the flags of a connection that speaks WebSocket.
use Rattle.std.proofs.Common.{◌≡◌, ℕ, Bool, true, false, not, ◌&&◌, ◌||◌, nat_le, ◌==◌, ◌++◌, List, [], ◌∷◌, map, length, sum_by, Option, Some, None, refl, sym, ap, ◌∙◌, subst, arith, append-nil, append_assoc, if◌then◌else◌}
use Rattle.std.proofs.lemmas.Bool.{and_parts, eq-eqb, false≢true, not-true}
use Rattle.std.proofs.lemmas.List.{map-append}
use Rattle.host_trace.specs.declared.items.Act.{Act}
use Rattle.host_trace.specs.declared.items.Act.TheVariants as Does
use Rattle.host_trace.specs.declared.items.Act.TheVariants.{CloseWs, Says}
use Rattle.host_trace.specs.declared.items.Item.{Item}
use Rattle.host_trace.specs.declared.items.Item.TheVariants.{Out}
use Rattle.host_trace.specs.declared.items.Why.{Why}
use Rattle.host_trace.specs.Told.{when}
use Rattle.trace_child.specs.Words.{is_filled}
use Rattle.child_core.specs.Due.{Due, Path, acting as run_acting, given}
use Rattle.child_core.specs.View.{View as Run}
use Rattle.child_core.proofs.MemoryLaws.{acting-due}
use Rattle.child_core.specs.Calls.{wants_text}
use Rattle.conn_flags.specs.View.{View as Flags, has_room, is_live, more_by, noted}
use Rattle.conn_flags.specs.Form.{given_all}
use Rattle.conn_flags.specs.Knows.{Admits, KnowsFlags}
use Rattle.conn_flags.proofs.KnowsLaws.{given_all-append, known_next}
use Rattle.talk_core.specs.Acting.{acting, closing}
use Rattle.talk_core.specs.View.{View as Talk}
use Rattle.talk_laws.proofs.ActLaws.{AreSmall, IsSmall}
use Rattle.talk_conn.specs.declared.conn.TalkConn.{TalkConn}
use Rattle.talk_conn.specs.Parts.{acts_asked, acts_shut, asked_conn, is_ask_due, shut_conn, why_of}
use Rattle.talk_laws.proofs.Steps.FreshLaws.{AreOfConn}
use Rattle.talk_laws.proofs.Steps.TailLaws.{ended_conn, tail_of}

-- ---- acts that ask nothing

admits : (m : Flags) (act : Act) → IsSmall act → Admits m (Out act)
admits m (Does.WantClient d) s = absurd s
admits m (Does.Write d bytes) s = absurd s
admits m (Does.Shut d why) s = absurd s
admits m (Does.Start k d j hop launch) s = absurd s
admits m (Does.Upgrade d rest) s = absurd s
admits m _ s = record { asks = λ e. absurd (false≢true e); answers = λ e. absurd (false≢true e); leaves = λ u. omega arith }

pub small_known : (m : Flags) (L : List Item) (acts : List Act) → AreSmall acts → KnowsFlags m L → KnowsFlags (given_all m acts) (L ++ map Out acts)
small_known m L [] s k = subst (λ (l : List Item). KnowsFlags m l) (sym (append-nil L)) k
small_known m L (act ∷ acts) s k =
    subst (λ (l : List Item). KnowsFlags (given_all (noted m (Out act)) acts) l) (append_assoc L (Out act ∷ []) (map Out acts))
    (small_known (noted m (Out act)) (L ++ Out act ∷ []) acts s.1 (known_next m L (Out act) k (admits m act s.0)))

-- ---- those of the child change nothing

sent_none : (upgraded : Bool) (n pending : ℕ) → n ≡ 0 → more_by (if upgraded then n else 0) pending ≡ pending
sent_none true n pending none = ap (λ (k : ℕ). more_by k pending) none
sent_none false n pending none = refl

due_same : (may : Bool) (v : Run) (m : Flags) (act : Act) → Due may v act → noted m (Out act) ≡ m
due_same may v m (Does.Feed k bytes) d = ap (λ (p : ℕ). record m { pending = p }) (sent_none m.upgraded 0 m.pending refl)
due_same may v m (Does.EndInput k) d = ap (λ (p : ℕ). record m { pending = p }) (sent_none m.upgraded 0 m.pending refl)
due_same may v m (Does.Kill k) d = ap (λ (p : ℕ). record m { pending = p }) (sent_none m.upgraded 0 m.pending refl)
due_same may v m (Does.Release k) d = ap (λ (p : ℕ). record m { pending = p }) (sent_none m.upgraded 0 m.pending refl)
due_same may v m (Does.WantChild k) d = ap (λ (p : ℕ). record m { pending = p }) (sent_none m.upgraded 0 m.pending refl)
due_same may v m (Does.WantClient d) e = absurd e
due_same may v m (Does.Write d bytes) e = absurd e
due_same may v m (Does.Shut d why) e = absurd e
due_same may v m (Does.Start k d j hop launch) e = absurd e
due_same may v m (Does.Upgrade d rest) e = absurd e
due_same may v m (Does.Says d texts) e = absurd e
due_same may v m (Does.CloseWs d code) e = absurd e

path_same : (may : Bool) (v : Run) (m : Flags) (acts : List Act) → Path may v acts → given_all m acts ≡ m
path_same may v m [] p = refl
path_same may v m (act ∷ acts) p = path_same may (given v act) (noted m (Out act)) acts p.1 ∙ due_same may v m act p.0

pub child_same : (may : Bool) (v : Run) (m : Flags) → given_all m (run_acting may v) ≡ m
child_same may v m = path_same may v m (run_acting may v) (acting-due may v).path

-- ---- those of the talk say its messages

close_same : (m : Flags) (d code : ℕ) → noted m (Out (CloseWs d code)) ≡ m
close_same m d code = ap (λ (p : ℕ). record m { pending = p }) (sent_none m.upgraded 0 m.pending refl)

-- messages of no bytes change nothing
pub says_none : (m : Flags) → noted m (Out (Says m.c [])) ≡ m
says_none m =
    ap (λ (p : ℕ). record m { pending = p })
    (sent_none m.upgraded (sum_by (length {A = ℕ}) (if m.c == m.c then [] else [])) m.pending (ap (λ (b : Bool). sum_by (length {A = ℕ}) (if b then [] else [])) (eq-eqb m.c m.c refl)))

pub said_same : (m : Flags) (t : Talk) → t.conn ≡ m.c → given_all m (acting t) ≡ noted m (Out (Says m.c t.texts))
said_same m t conn_is = go t.texts t.code
  where
    closes : (n : Flags) (code : Option ℕ) → given_all n (closing t.conn code) ≡ n
    closes n None = refl
    closes n (Some code) = close_same n t.conn code

    go : (texts : List (List ℕ)) (code : Option ℕ) → given_all m (when (is_filled texts) (Says t.conn texts) ++ closing t.conn code) ≡ noted m (Out (Says m.c texts))
    go [] code = closes m code ∙ sym (says_none m)
    go (text ∷ texts) code =
        closes (noted m (Out (Says t.conn (text ∷ texts)))) code ∙ ap (λ (c : ℕ). noted m (Out (Says c (text ∷ texts)))) conn_is

-- .. with those of the child
pub acts_same : (may : Bool) (m : Flags) (t : Talk) (v : Run) → t.conn ≡ m.c → given_all m (acting t ++ run_acting may v) ≡ noted m (Out (Says m.c t.texts))
acts_same may m t v conn_is = given_all-append m (acting t) (run_acting may v) ∙ (child_same may v (given_all m (acting t)) ∙ said_same m t conn_is)

-- ---- the end of a step

shut_admits : (m : Flags) (c : ℕ) (why : Why) → Admits m (Out (Does.Shut c why))
shut_admits m c why = record { asks = λ e. absurd (false≢true e); answers = λ e. absurd (false≢true e); leaves = λ u. omega arith }

shut_known : (conn : TalkConn) (L : List Item) (why : Option Why) → KnowsFlags conn.flags L → KnowsFlags (shut_conn why conn).flags (L ++ map Out (acts_shut conn.flags.c why))
shut_known conn L None k = subst (λ (l : List Item). KnowsFlags conn.flags l) (sym (append-nil L)) k
shut_known conn L (Some why) k = known_next conn.flags L (Out (Does.Shut conn.flags.c why)) k (shut_admits conn.flags conn.flags.c why)

ask_known : (conn : TalkConn) (L : List Item) (due : Bool) → (due ≡ true → conn.flags.asked ≡ false) → KnowsFlags conn.flags L
    → KnowsFlags (asked_conn due conn).flags (L ++ map Out (acts_asked conn.flags.c due))
ask_known conn L false free k = subst (λ (l : List Item). KnowsFlags conn.flags l) (sym (append-nil L)) k
ask_known conn L true free k =
    known_next conn.flags L (Out (Does.WantClient conn.flags.c)) k (record { asks = λ e. free refl; answers = λ e. absurd (false≢true e); leaves = λ u. omega arith })

asks_free : (conn : TalkConn) → is_ask_due conn ≡ true → conn.flags.asked ≡ false
asks_free conn e = not-true conn.flags.asked (and_parts (is_live conn.flags && has_room conn.flags && wants_text conn.run) (not conn.flags.asked) e).1

pub ended_known : (conn : TalkConn) (L : List Item) → KnowsFlags conn.flags L → KnowsFlags (ended_conn conn).flags (L ++ map Out (tail_of conn))
ended_known conn L k =
    let s : TalkConn = shut_conn (why_of conn) conn in
    let first = acts_shut conn.flags.c (why_of conn) in
    let last = acts_asked s.flags.c (is_ask_due s) in
    subst (λ (l : List Item). KnowsFlags (ended_conn conn).flags l) (append_assoc L (map Out first) (map Out last) ∙ ap (λ (l : List Item). L ++ l) (sym (map-append Out first last)))
    (ask_known s (L ++ map Out first) (is_ask_due s) (asks_free s) (shut_known conn L (why_of conn) k))

-- they are of the connection alone
pub ended_of_conn : (conn : TalkConn) → AreOfConn (tail_of conn)
ended_of_conn conn = go (why_of conn)
  where
    asks : (c : ℕ) (due : Bool) → AreOfConn (acts_asked c due)
    asks c true = (tt, tt)
    asks c false = tt

    go : (why : Option Why) → AreOfConn (acts_shut conn.flags.c why ++ acts_asked (shut_conn why conn).flags.c (is_ask_due (shut_conn why conn)))
    go None = asks conn.flags.c (is_ask_due conn)
    go (Some why) = (tt, asks (shut_conn (Some why) conn).flags.c (is_ask_due (shut_conn (Some why) conn)))

-- a question leaves what waits to be sent
pub asked_room : (m : Flags) → has_room (noted m (Out (Does.WantClient m.c))) ≡ has_room m
asked_room m = ap (λ (p : ℕ). m.shut || nat_le p 262144) (sent_none m.upgraded 0 m.pending refl)
