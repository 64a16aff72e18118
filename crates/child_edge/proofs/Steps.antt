-- One step of a row after another.
use Rattle.std.proofs.Common.{◌≡◌, ℕ, ◌≤◌, List, [], ◌++◌, refl, sym, ◌∙◌, arith, subst, ap, ◌+◌, take, drop, length, length-drop, ◌-◌, append_assoc, inl, inr}
use Rattle.std.proofs.lemmas.Grind.{common_steps}
use Rattle.std.proofs.Math.Seq.{take-length}
use Rattle.std.proofs.lemmas.List.{append-nil, take-append-drop, drop-drop, drop-append-le}
use Rattle.host_trace.specs.declared.items.Event.{Event}
use Rattle.host_trace.specs.declared.items.Event.TheVariants.{Accepted, ClientBytes, ClientEof, ClientGone, Wrote, Started, StartFailed, StartFull, ChildBytes, ChildEof, ChildBroken, Took, InputGone, Exited, WsText, WsBinary, WsClosed, WsBad, NoRoom, Tick, Stop}
use Rattle.child_edge.specs.Kids.{KidTells, SameKid}
use Rattle.child_edge.specs.declared.row.Row.{Row}
use Rattle.child_edge.specs.Rows.{IsSound, Stays, SameMarks, Says, SaysOn, IsDue, marks_after, fed_all, handed_by, Feeds, Looked, HasNothing}

same_two : (a b d : KidTells) → SameKid a b → SameKid b d → SameKid a d
same_two a b d g h =
    record {
      launch = h.launch ∙ g.launch;
      ring = h.ring ∙ g.ring;
      feed = h.feed ∙ g.feed;
      kills = omega (arith, g.kills, h.kills);
      faults = omega (arith, g.faults, h.faults);
      out_looks = omega (arith, g.out_looks, h.out_looks);
      in_looks = omega (arith, g.in_looks, h.in_looks);
      reap_looks = omega (arith, g.reap_looks, h.reap_looks);
      start_looks = omega (arith, g.start_looks, h.start_looks);
    }

pub same_self : (a : KidTells) → SameKid a a
same_self a =
    record { launch = refl; ring = refl; feed = refl; kills = omega arith; faults = omega arith; out_looks = omega arith; in_looks = omega arith; reap_looks = omega arith; start_looks = omega arith }

module _ {K : Type 0} where
  pub stays_two : (tells : K → KidTells) (ys : List ℕ) (r m s : Row K) → Stays tells [] r m → Stays tells ys m s → Stays tells ys r s
  stays_two tells ys r m s g h =
      record {
        number = h.number ∙ g.number;
        connection = h.connection ∙ g.connection;
        same = same_two (tells r.kid) (tells m.kid) (tells s.kid) g.same h.same;
        feed = h.feed ∙ g.feed;
        taken = rw (h.taken, g.taken) (ap (λ w. w ++ ys) (append-nil _));
        sound = h.sound;
      }

  pub marks_two : (r m s : Row K) → SameMarks r m → SameMarks m s → SameMarks r s
  marks_two r m s g h = h ∙ g

  due_two : (tells : K → KidTells) (r m s : Row K) (e : Event) → Stays tells [] r m → SameMarks r m → IsDue tells m s e → IsDue tells r s e
  due_two tells r m s (ChildBytes k bytes) g q h =
      (h.0 ∙ g.number, sym (ap (λ w. w.wanted) q) ∙ h.1, h.2, h.3, stays_two tells bytes r m s g h.4)
  due_two tells r m s (ChildEof k) g q h =
      (h.0 ∙ g.number, sym (ap (λ w. w.wanted) q) ∙ h.1, h.2, h.3, stays_two tells [] r m s g h.4)
  due_two tells r m s (ChildBroken k) g q h =
      (h.0 ∙ g.number, sym (ap (λ w. w.wanted) q) ∙ h.1, h.2, h.3, stays_two tells [] r m s g h.4)
  due_two tells r m s (Took k n) g q h = (h.0 ∙ g.number, h.1, h.2, stays_two tells [] r m s g h.3)
  due_two tells r m s (InputGone k) g q h =
      (h.0 ∙ g.number, sym (ap (λ w. w.input_ended) q) ∙ h.1, h.2, stays_two tells [] r m s g h.3)
  due_two tells r m s (Exited k) g q h =
      (h.0 ∙ g.number, sym (ap (λ w. w.exited) q) ∙ h.1, h.2, stays_two tells [] r m s g h.3)
  due_two tells r m s (NoRoom c) g q h =
      (h.0 ∙ g.connection, sym (ap (λ w. w.wanted) q) ∙ h.1, stays_two tells [] r m s g h.2)
  due_two tells r m s (Accepted p) g q h = absurd h
  due_two tells r m s (ClientBytes c b) g q h = absurd h
  due_two tells r m s (ClientEof c) g q h = absurd h
  due_two tells r m s (ClientGone c) g q h = absurd h
  due_two tells r m s (Wrote c n) g q h = absurd h
  due_two tells r m s (Started k) g q h = absurd h
  due_two tells r m s (StartFailed k) g q h = absurd h
  due_two tells r m s (StartFull k n) g q h = absurd h
  due_two tells r m s (WsText c b) g q h = absurd h
  due_two tells r m s (WsBinary c) g q h = absurd h
  due_two tells r m s (WsClosed c) g q h = absurd h
  due_two tells r m s (WsBad c) g q h = absurd h
  due_two tells r m s (Tick secs) g q h = absurd h
  due_two tells r m s Stop g q h = absurd h

  pub says_two : (tells : K → KidTells) (r m s : Row K) (e : Event) → Stays tells [] r m → SameMarks r m → SaysOn tells m s e → SaysOn tells r s e
  says_two tells r m s e g q h =
      record {
        due = due_two tells r m s e g q h.due;
        marks = h.marks ∙ ap (λ w. marks_after e w) q;
        sound = h.sound;
      }

  -- a row that says an event is sound
  pub says_row : (tells : K → KidTells) (r s : Row K) (e : Event) → Says tells r s e → IsSound tells s
  says_row tells r s e h = elim h [ inl w ↦ w.sound | inr w ↦ w.1.sound ]

pub looked_says : {K : Type 0} (tells : K → KidTells) (r m s : Row K) (e : Event) → Looked tells r m → SaysOn tells m s e → SaysOn tells r s e
looked_says tells r m s e g h = says_two tells r m s e g.stays g.marks h

pub nothing_two : {K : Type 0} (tells : K → KidTells) (r m s : Row K) → Looked tells r m → HasNothing tells m s → HasNothing tells r s
nothing_two tells r m s g h =
    record {
      no_output = record {
        stays = stays_two tells [] r m s g.stays h.no_output.stays;
        marks = marks_two r m s g.marks h.no_output.marks;
        kid = h.no_output.kid ∙ g.kid;
        fed_on = h.no_output.fed_on;
        no_bytes = h.no_output.no_bytes;
        no_end = h.no_output.no_end;
      };
      no_gone = h.no_gone;
      no_exit = h.no_exit;
    }

-- a feed of nothing
pub feeds_stay : {K : Type 0} (tells : K → KidTells) (r s : Row K) → Feeds tells [] r s → Stays tells [] r s
feeds_stay tells r s h =
    record {
      number = h.number;
      connection = h.connection;
      same = subst (λ w. SameKid (tells r.kid) (tells w)) (sym h.kid) (same_self (tells r.kid));
      feed = h.feed ∙ append-nil (fed_all r);
      taken = ap (λ t. handed_by t) h.tap ∙ sym (append-nil (handed_by r.tap));
      sound = h.sound;
    }

-- a feed and then a feed
pub feeds_two : {K : Type 0} (tells : K → KidTells) (xs ys : List ℕ) (r m s : Row K) → Feeds tells xs r m → Feeds tells ys m s → Feeds tells (xs ++ ys) r s
feeds_two tells xs ys r m s g h =
    record {
      number = h.number ∙ g.number;
      connection = h.connection ∙ g.connection;
      kid = h.kid ∙ g.kid;
      marks = marks_two r m s g.marks h.marks;
      feed = rw (h.feed, g.feed) (append_assoc (fed_all r) xs ys);
      tap = h.tap ∙ g.tap;
      sound = h.sound;
    }

pub feeds_none : {K : Type 0} (tells : K → KidTells) (xs : List ℕ) (r m s : Row K) → Feeds tells xs r m → Feeds tells [] m s → Feeds tells xs r s
feeds_none tells xs r m s g h = subst (λ w. Feeds tells w r s) (append-nil xs) (feeds_two tells xs [] r m s g h)

-- what is left after a part was moved
pub moved_more : (f g b : List ℕ) (m n : ℕ) → g ≡ f ++ take n (drop m b) → g ++ drop (m + n) b ≡ f ++ drop m b
moved_more f g b m n e =
    rw (e, ← drop-drop n m b)
    (append_assoc f (take n (drop m b)) (drop n (drop m b)) ∙ ap (λ w. f ++ w) (take-append-drop n (drop m b)))

-- a range up to the end is what is left
rest_whole : (b : List ℕ) (m : ℕ) → take (length b - m) (drop m b) ≡ drop m b
rest_whole b m = rw (← length-drop m b) (take-length (drop m b))

pub moved_range : (f g b : List ℕ) (m n : ℕ) → g ≡ f ++ take n (take (length b - m) (drop m b)) → g ++ drop (m + n) b ≡ f ++ drop m b
moved_range f g b m n e = moved_more f g b m n (e ∙ ap (λ w. f ++ take n w) (rest_whole b m))

-- so many bytes more were fed
pub fed_longer : (f g b : List ℕ) (n : ℕ) → n ≤ length b → g ≡ f ++ take n b → length g ≡ length f + n
fed_longer f g b n h e = grind (arith, common_steps)

-- what is left grows by what is added
pub fed_more : (f b bytes h : List ℕ) (m : ℕ) → m ≤ length b → h ≡ b ++ bytes → f ++ drop m h ≡ (f ++ drop m b) ++ bytes
fed_more f b bytes h m k e = rw (e, drop-append-le m b bytes k) (sym (append_assoc f (drop m b) bytes))
