-- What a pipe took, piece by piece.
use Rattle.std.proofs.Common.{◌≡◌, ℕ, ◌+◌, ◌≤◌, List, [], ◌∷◌, ◌++◌, length, take, drop, Option, Some, None, refl, sym, ap, ◌∙◌, append_assoc, arith, subst}
use Rattle.std.proofs.Math.Seq.{take-length, take-append-add, take-add}
use Rattle.std.proofs.lemmas.Grind.{common_steps}
use Rattle.std.proofs.lemmas.List.{append-nil}
use Rattle.std.specs.Io.KnownBytes.{Appends}
use Rattle.std.specs.Prelude.{is_some, true}
use Rattle.pipe_pump.specs.declared.hand.Hand.{Hand}
use Rattle.pipe_pump.specs.Hands.{mark_of}
use Rattle.host_base.specs.Outsides.{Rose}
use Rattle.pipe_pump.specs.declared.ends.PumpEnd.{PumpEnd}
use Rattle.pipe_pump.specs.declared.ends.PumpEnd.TheVariants.{AtEnd, Broken, Spent, Abandoned, LetGo}
use Rattle.pipe_pump.specs.Moved.{TookFront, Moves, MovesFront, Stops, Cuts}

-- a piece after a piece
pub joined : (b m a : Option (List ℕ)) (xs ys : List ℕ) → Appends b m xs → Appends m a ys → Appends b a (xs ++ ys)
joined None m a xs ys g h = tt
joined (Some u) None a xs ys g h = absurd g
joined (Some u) (Some v) None xs ys g h = absurd h
joined (Some u) (Some v) (Some w) xs ys g h = rw (h, g) (append_assoc u xs ys)

pub joined_to : (b m a : Option (List ℕ)) (xs ys zs : List ℕ) → zs ≡ xs ++ ys → Appends b m xs → Appends m a ys → Appends b a zs
joined_to b m a xs ys zs e g h = rw e (joined b m a xs ys g h)

pub taken_more : (b m a : Option (List ℕ)) (s : List ℕ) (n k : ℕ) → Appends b m (take n s) → Appends m a (take k (drop n s)) → Appends b a (take (n + k) s)
taken_more b m a s n k g h = joined_to b m a (take n s) (take k (drop n s)) (take (n + k) s) (take-add n k s) g h

-- the whole is a front
pub whole_front : (b a : Option (List ℕ)) (xs : List ℕ) → Appends b a xs → TookFront b a xs
whole_front b a xs h = record { count = length xs; took = rw (take-length xs) h }

-- a front after a piece
pub front_to : (b m a : Option (List ℕ)) (xs ys zs : List ℕ) → zs ≡ xs ++ ys → Appends b m xs → TookFront m a ys → TookFront b a zs
front_to b m a xs ys zs e g t =
    record {
      count = length xs + t.count;
      took = rw (e, take-append-add xs ys t.count) (joined b m a xs (take t.count ys) g t.took);
    }

pub took_all : (b a : Option (List ℕ)) (s : List ℕ) (n : ℕ) → n ≤ length s → length s ≤ n → Appends b a (take n s) → Appends b a s
took_all b a s n h k g =
    let e : n ≡ length s = omega arith in
    subst (λ x. Appends b a x) (take-length s) (subst (λ m. Appends b a (take m s)) e g)

-- nothing more
pub joined_none : (b m a : Option (List ℕ)) (xs : List ℕ) → Appends b m xs → Appends m a [] → Appends b a xs
joined_none None m a xs g h = tt
joined_none (Some u) None a xs g h = absurd g
joined_none (Some u) (Some v) None xs g h = absurd h
joined_none (Some u) (Some v) (Some w) xs g h = h ∙ (grind (arith, common_steps) ∙ g)

-- ---- from ring to pipe

pub moves_two : (b m a : Option (List ℕ)) (xs ys zs : List ℕ) → Moves b m xs ys → Moves m a ys zs → Moves b a xs zs
moves_two b m a xs ys zs g h =
    record {
      piece = g.piece ++ h.piece;
      grew = h.grew ∙ (ap (λ w. w ++ h.piece) g.grew ∙ append_assoc xs g.piece h.piece);
      took = joined b m a g.piece h.piece g.took h.took;
    }

pub front_two : (b m a : Option (List ℕ)) (xs ys zs : List ℕ) → Moves b m xs ys → MovesFront m a ys zs → MovesFront b a xs zs
front_two b m a xs ys zs g h =
    record {
      piece = g.piece ++ h.piece;
      grew = h.grew ∙ (ap (λ w. w ++ h.piece) g.grew ∙ append_assoc xs g.piece h.piece);
      took = front_to b m a g.piece h.piece (g.piece ++ h.piece) refl g.took h.took;
    }

pub moves_front : (b a : Option (List ℕ)) (xs ys : List ℕ) → Moves b a xs ys → MovesFront b a xs ys
moves_front b a xs ys g = record { piece = g.piece; grew = g.grew; took = whole_front b a g.piece g.took }

pub moves_start : (b : Option (List ℕ)) (xs : List ℕ) → Moves b b xs xs
moves_start None xs = record { piece = []; grew = sym (append-nil xs); took = tt }
moves_start (Some u) xs = record { piece = []; grew = sym (append-nil xs); took = sym (append-nil u) }

pub piece_moves : (b a : Option (List ℕ)) (xs ys piece : List ℕ) → ys ≡ xs ++ piece → Appends b a piece → Moves b a xs ys
piece_moves b a xs ys piece e g = record { piece = piece; grew = e; took = g }

pub piece_front : (b a : Option (List ℕ)) (xs ys piece : List ℕ) → ys ≡ xs ++ piece → TookFront b a piece → MovesFront b a xs ys
piece_front b a xs ys piece e g = record { piece = piece; grew = e; took = g }

-- nothing, and then more
pub none_joined : (b m a : Option (List ℕ)) (xs : List ℕ) → Appends b m [] → Appends m a xs → Appends b a xs
none_joined b m a xs g h = joined b m a [] xs g h

-- nothing is a front
pub none_front : (b a : Option (List ℕ)) (xs : List ℕ) → Appends b a [] → TookFront b a xs
none_front b a xs g = record { count = 0; took = g }

pub front_after : (b m a : Option (List ℕ)) (xs : List ℕ) → Appends b m [] → TookFront m a xs → TookFront b a xs
front_after b m a xs g t = front_to b m a [] xs xs refl g t

-- a pump that stops after bytes were moved
pub rose_later : (a b c : ℕ) → a ≤ b → Rose b c → Rose a c
rose_later a b c h k = omega arith

pub stops_two : (E A : Type 0) (end : PumpEnd) (b m a : Option (List ℕ)) (f g h : ℕ) (xs ys zs : List ℕ)
    → Moves b m xs ys → f ≤ g → Stops ⊥ ⊥ end m a g h ys zs → Stops E A end b a f h xs zs
stops_two E A AtEnd b m a f g h xs ys zs p q r = absurd r.0
stops_two E A Broken b m a f g h xs ys zs p q r = (front_two b m a xs ys zs p r.0, rose_later f g h q r.1)
stops_two E A Spent b m a f g h xs ys zs p q r = (moves_two b m a xs ys zs p r.0, r.1)
stops_two E A Abandoned b m a f g h xs ys zs p q r = absurd r.0
stops_two E A LetGo b m a f g h xs ys zs p q r = front_two b m a xs ys zs p r

-- a pipe that cut a piece off
pub cut_stops : (E A : Type 0) (end : PumpEnd) (b a : Option (List ℕ)) (f g : ℕ) (xs ys : List ℕ) → MovesFront b a xs ys → Cuts end f g → Stops E A end b a f g xs ys
cut_stops E A AtEnd b a f g xs ys p c = absurd c
cut_stops E A Broken b a f g xs ys p c = (p, c)
cut_stops E A Spent b a f g xs ys p c = absurd c
cut_stops E A Abandoned b a f g xs ys p c = absurd c
cut_stops E A LetGo b a f g xs ys p c = p

-- .. after other calls of it
pub cuts_later : (end : PumpEnd) (f g h : ℕ) → f ≤ g → Cuts end g h → Cuts end f h
cuts_later AtEnd f g h k c = c
cuts_later Broken f g h k c = rose_later f g h k c
cuts_later Spent f g h k c = c
cuts_later Abandoned f g h k c = c
cuts_later LetGo f g h k c = c

pub marked_before : (before : List Hand) → is_some (mark_of before) ≡ true → before ≡ [] → ⊥
marked_before [] h e = cc
marked_before (x ∷ rest) h e = cc
