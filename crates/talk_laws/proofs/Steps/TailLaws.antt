-- What follows the acts of a talk and of its child in a step, by the fields of the connection.
use Rattle.std.proofs.Common.{◌≡◌, ℕ, Bool, true, false, not, ◌&&◌, ◌||◌, ◌++◌, ◌==◌, List, [], ◌∷◌, Option, Some, None, refl, sym, ap, ◌∙◌, subst, if◌then◌else◌}
use Rattle.std.proofs.lemmas.Bool.{eq-eqb, false≢true}
use Rattle.host_trace.specs.declared.items.Act.{Act}
use Rattle.host_trace.specs.declared.items.Act.TheVariants.{Shut, WantClient}
use Rattle.host_trace.specs.declared.items.Item.TheVariants.{Out}
use Rattle.host_trace.specs.declared.items.Why.{Why}
use Rattle.host_trace.specs.declared.items.Why.TheVariants.{Done, Gone, NoMemory, Stopped}
use Rattle.child_core.specs.Calls.{wants_text}
use Rattle.conn_flags.specs.View.{View as Flags, has_room, is_live, noted}
use Rattle.talk_core.specs.View.{View as Talk}
use Rattle.talk_laws.specs.Steps.{tail_by, talk_by}
use Rattle.talk_conn.specs.declared.conn.TalkConn.{TalkConn}
use Rattle.talk_conn.specs.Parts.{acts_asked, acts_shut, asked_conn, is_ask_due, shut_conn, why_of}

-- why a connection is to be shut for which memory was found, unless it is not live
abbrev pub reason : TalkConn → Option Why
reason conn = if conn.flags.stopped then Some Stopped else (if conn.flags.gone then Some Gone else (if conn.talk.over then Some Done else None))

-- a text may be heard
abbrev pub due_of : TalkConn → Bool
due_of conn = has_room conn.flags && wants_text conn.run && not conn.flags.asked

and_assoc : (l a b d : Bool) → (l && a && b && d) ≡ (l && (a && b && d))
and_assoc true a b d = refl
and_assoc false a b d = refl

-- the connection at the end of the step
abbrev pub ended_conn : TalkConn → TalkConn
ended_conn conn = asked_conn (is_ask_due (shut_conn (why_of conn) conn)) (shut_conn (why_of conn) conn)

abbrev pub tail_of : TalkConn → List Act
tail_of conn = acts_shut conn.flags.c (why_of conn) ++ acts_asked (shut_conn (why_of conn) conn).flags.c (is_ask_due (shut_conn (why_of conn) conn))

-- a connection that was shut is not asked
pub shut_unasked : (conn : TalkConn) (why : Why) → is_ask_due (shut_conn (Some why) conn) ≡ false
shut_unasked conn why =
    ap (λ (b : Bool). (conn.flags.accepted && not (b || conn.flags.shut)) && has_room (noted conn.flags (Out (Shut conn.flags.c why))) && wants_text conn.run && not conn.flags.asked)
    (eq-eqb conn.flags.c conn.flags.c refl) ∙ dead conn.flags.accepted
  where
    dead : (a : Bool) → ((a && false) && has_room (noted conn.flags (Out (Shut conn.flags.c why))) && wants_text conn.run && not conn.flags.asked) ≡ false
    dead true = refl
    dead false = refl

-- by why it is to be shut, and whether its client is to be asked
pub record Ends (conn : TalkConn) (live : Bool) (why : Option Why) (due : Bool) : Type 0 where
  pub acts : tail_of conn ≡ tail_by conn.flags.c live why due
  pub talk : (ended_conn conn).talk ≡ talk_by live why conn.talk
  pub run : (ended_conn conn).run ≡ conn.run
  pub site : (ended_conn conn).site.now ≡ conn.site.now
  pub number : (ended_conn conn).flags.c ≡ conn.flags.c
  pub lost : (ended_conn conn).lost ≡ conn.lost

module _ (conn : TalkConn) (found : conn.lost ≡ false) where
  ends_shut : (why : Why) → why_of conn ≡ Some why → is_live conn.flags ≡ true → Ends conn true (Some why) (due_of conn)
  ends_shut why why_is live =
      let s : TalkConn = shut_conn (Some why) conn in
      let unasked : is_ask_due s ≡ false = shut_unasked conn why in
      let end_is : ended_conn conn ≡ s =
      ap (λ (w : Option Why). asked_conn (is_ask_due (shut_conn w conn)) (shut_conn w conn)) why_is ∙ ap (λ (b : Bool). asked_conn b s) unasked in
      record {
        acts = ap (λ (w : Option Why). acts_shut conn.flags.c w ++ acts_asked (shut_conn w conn).flags.c (is_ask_due (shut_conn w conn))) why_is
            ∙ ap (λ (b : Bool). Shut conn.flags.c why ∷ acts_asked s.flags.c b) unasked;
        talk = ap (λ (x : TalkConn). x.talk) end_is;
        run = ap (λ (x : TalkConn). x.run) end_is;
        site = ap (λ (x : TalkConn). x.site.now) end_is;
        number = ap (λ (x : TalkConn). x.flags.c) end_is;
        lost = ap (λ (x : TalkConn). x.lost) end_is;
      }

  ends_on : why_of conn ≡ None → (live due : Bool) → is_ask_due conn ≡ (live && due) → Ends conn live None due
  ends_on why_is live due ask_is =
      let end_is : ended_conn conn ≡ asked_conn (live && due) conn =
      ap (λ (w : Option Why). asked_conn (is_ask_due (shut_conn w conn)) (shut_conn w conn)) why_is ∙ ap (λ (b : Bool). asked_conn b conn) ask_is in
      record {
        acts = ap (λ (w : Option Why). acts_shut conn.flags.c w ++ acts_asked (shut_conn w conn).flags.c (is_ask_due (shut_conn w conn))) why_is
            ∙ (ap (λ (b : Bool). acts_asked conn.flags.c b) ask_is ∙ tails live due);
        talk = ap (λ (x : TalkConn). x.talk) end_is ∙ (talks (live && due) ∙ kept live);
        run = ap (λ (x : TalkConn). x.run) end_is ∙ runs (live && due);
        site = ap (λ (x : TalkConn). x.site.now) end_is ∙ sites (live && due);
        number = ap (λ (x : TalkConn). x.flags.c) end_is ∙ numbers (live && due);
        lost = ap (λ (x : TalkConn). x.lost) end_is ∙ losts (live && due);
      }
    where
      tails : (l d : Bool) → acts_asked conn.flags.c (l && d) ≡ tail_by conn.flags.c l None d
      tails true true = refl
      tails true false = refl
      tails false d = refl

      kept : (l : Bool) → conn.talk ≡ talk_by l None conn.talk
      kept true = refl
      kept false = refl

      talks : (b : Bool) → (asked_conn b conn).talk ≡ conn.talk
      talks true = refl
      talks false = refl

      runs : (b : Bool) → (asked_conn b conn).run ≡ conn.run
      runs true = refl
      runs false = refl

      sites : (b : Bool) → (asked_conn b conn).site.now ≡ conn.site.now
      sites true = refl
      sites false = refl

      numbers : (b : Bool) → (asked_conn b conn).flags.c ≡ conn.flags.c
      numbers true = refl
      numbers false = refl

      losts : (b : Bool) → (asked_conn b conn).lost ≡ conn.lost
      losts true = refl
      losts false = refl

  why_live : is_live conn.flags ≡ true → why_of conn ≡ reason conn
  why_live live =
      ap (λ (b : Bool). if not b then None else (if conn.lost then Some NoMemory else reason conn)) live
      ∙ ap (λ (b : Bool). if b then Some NoMemory else reason conn) found

  why_dead : is_live conn.flags ≡ false → why_of conn ≡ None
  why_dead dead = ap (λ (b : Bool). if not b then None else (if conn.lost then Some NoMemory else reason conn)) dead

  ask_by : (live : Bool) → is_live conn.flags ≡ live → is_ask_due conn ≡ (live && due_of conn)
  ask_by live is = and_assoc (is_live conn.flags) (has_room conn.flags) (wants_text conn.run) (not conn.flags.asked) ∙ ap (λ (b : Bool). b && due_of conn) is

  pub ends : Ends conn (is_live conn.flags) (reason conn) (due_of conn)
  ends = by_live (is_live conn.flags) refl
    where
      by_why : is_live conn.flags ≡ true → (why : Option Why) → reason conn ≡ why → Ends conn true (reason conn) (due_of conn)
      by_why live (Some why) is = subst (λ (w : Option Why). Ends conn true w (due_of conn)) (sym is) (ends_shut why (why_live live ∙ is) live)
      by_why live None is = subst (λ (w : Option Why). Ends conn true w (due_of conn)) (sym is) (ends_on (why_live live ∙ is) true (due_of conn) (ask_by true live))

      dead_as : (why : Option Why) → Ends conn false None (due_of conn) → Ends conn false why (due_of conn)
      dead_as None e = e
      dead_as (Some why) e = record { acts = e.acts; talk = e.talk; run = e.run; site = e.site; number = e.number; lost = e.lost }

      by_live : (live : Bool) → is_live conn.flags ≡ live → Ends conn (is_live conn.flags) (reason conn) (due_of conn)
      by_live true live = subst (λ (l : Bool). Ends conn l (reason conn) (due_of conn)) (sym live) (by_why live (reason conn) refl)
      by_live false dead =
          subst (λ (l : Bool). Ends conn l (reason conn) (due_of conn)) (sym dead) (dead_as (reason conn) (ends_on (why_dead dead) false (due_of conn) (ask_by false dead)))
