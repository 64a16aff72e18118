-- What a pump whose tap was dropped leaves, and what a pump whose pipe is told took.
use Rattle.std.proofs.Common.{◌≡◌, ℕ, ◌+◌, ◌≤◌, ◌<◌, ◌^◌, List, [], ◌++◌, length, take, ◌↔◌, Bool, true, false, Option, Some, None, refl, sym, ap, ◌∙◌, append_assoc, arith, length-append, nat_eq}
use Rattle.std.proofs.lemmas.Bool.Decides.{nat_tests}
use Rattle.std.proofs.Math.Seq.{take-length}
use Rattle.std.proofs.lemmas.List.{append-nil, take-append-le}
use Rattle.std.specs.Io.KnownBytes.{Consumes}
use Rattle.std.specs.declared.alloc.Global.{Global}
use Rattle.rtrb.specs.Ring.{sent}
use Rattle.rtrb.specs.declared.producer.Producer.{Producer}
use Rattle.rtrb.specs.declared.AnyItems.{AnyItems}
use Rattle.pipe_pump.specs.declared.ends.PumpEnd.{PumpEnd}
use Rattle.pipe_pump.specs.declared.ends.PumpEnd.TheVariants.{AtEnd, Broken, Spent, Abandoned, LetGo}
use Rattle.pipe_pump.specs.declared.pipe.PipeRead.{PipeRead}
use Rattle.pipe_pump.specs.declared.pipe.PipeRead.TheVariants.{Bytes, End, Failed}
use Rattle.pipe_pump.specs.declared.pipe.PipeRead.TheVariants as ReadAs
use Rattle.pipe_pump.specs.Pipes.{Reads}
use Rattle.pipe_pump.specs.Rings.{popped}
use Rattle.pipe_pump.specs.Moved.{Gives, GivesMore, Sends, SendsPart, SendEnds, KnownEnd, Takes, Moves, Stops}
use Rattle.pipe_pump.proofs.Fronts.{moves_two, front_two, rose_later}
use Rattle.pipe_pump.specs.PipeLaws.{FedPipe, FeedsArriveInOrder}

-- what a read brought stands at the front of the piece that it was given, and of what that is a front of
pub reads_more : (b a : Option (List ℕ)) (into rest : List ℕ) (r : PipeRead) → ((n : ℕ) → r ≡ Bytes n → n ≤ length into) → Reads b a into r → Reads b a (into ++ rest) r
reads_more b a into rest (Bytes n) h g = rw (take-append-le n into rest (h n refl)) g
reads_more b a into rest End h g = g
reads_more b a into rest Failed h g = g
reads_more b a into rest ReadAs.LetGo h g = g

-- .. and in the buffer that such bytes were put back into
pub reads_back : (b a : Option (List ℕ)) (bytes rest : List ℕ) (n : ℕ) (r : PipeRead) → length bytes ≡ n → Reads b a bytes r → Reads b a (take n (bytes ++ rest)) r
reads_back b a bytes rest n r e g =
    let f : take n (bytes ++ rest) ≡ bytes = take-append-le n bytes rest (omega (arith, e)) ∙ (ap (λ m. take m bytes) (sym e) ∙ take-length bytes) in
    rw f g

-- bytes after bytes
pub gave_two : (b m a : Option (List ℕ)) (xs ys : List ℕ) → Consumes b m xs → Consumes m a ys → Consumes b a (xs ++ ys)
gave_two None m a xs ys g h = tt
gave_two (Some u) None a xs ys g h = absurd g
gave_two (Some u) (Some v) None xs ys g h = absurd h
gave_two (Some u) (Some v) (Some w) xs ys g h = rw (g, h) (sym (append_assoc xs ys w))

-- what was read before the piece, the piece, and what was told to the pipe after it
pub gives_more : (b m n a : Option (List ℕ)) (old now : Producer ℕ Global AnyItems) (piece : List ℕ)
    → Consumes b m (sent old) → Consumes m n piece → Consumes n a [] → SendsPart old now piece → GivesMore b a (sent now)
gives_more b m n a old now piece g h k s =
    record {
      rest = s.rest;
      some = s.some;
      gave = rw s.sent (rw (sym (append-nil (sent old ++ piece))) (gave_two b n a (sent old ++ piece) [] (gave_two b m n (sent old) piece g h) k));
    }

gave_three : (b m n a : Option (List ℕ)) (xs ys : List ℕ) → Consumes b m xs → Consumes m n ys → Consumes n a [] → Consumes b a (xs ++ ys)
gave_three b m n a xs ys g h k = rw (sym (append-nil (xs ++ ys))) (gave_two b n a (xs ++ ys) [] (gave_two b m n xs ys g h) k)

grew : (old now : Producer ℕ Global AnyItems) (piece : List ℕ) (total : ℕ) → sent now ≡ sent old ++ piece → length (sent old) + length piece ≡ total → length (sent now) ≡ total
grew old now piece total s t = ap length s ∙ (length-append (sent old) piece ∙ t)

-- fewer than all
pub part_below : (old now : Producer ℕ Global AnyItems) (piece : List ℕ) (count most : ℕ)
    → SendsPart old now piece → length (sent old) + length piece ≤ most → length (sent now) < most
part_below old now piece count most s h =
    let e : length (sent now) + length s.rest ≡ length (sent old) + length piece =
    sym (length-append (sent now) s.rest) ∙ (ap length s.sent ∙ length-append (sent old) piece) in
    omega (arith, s.some)

-- what was told to the pipe later
pub known_later : (e : Option PumpEnd) (last : Bool) (a : Option (List ℕ)) (f m n : ℕ) → KnownEnd false a m n e → last ≡ false → f ≤ m → KnownEnd last a f n e
known_later None last a f m n k e h = e
known_later (Some AtEnd) last a f m n k e h = (e, k.1)
known_later (Some Broken) last a f m n k e h = (e, rose_later f m n h k.1)
known_later (Some Spent) last a f m n k e h = absurd (cc)
known_later (Some Abandoned) last a f m n k e h = absurd k
known_later (Some LetGo) last a f m n k e h = e

-- an end that is known before the ring has all
pub send_known : (e : Option PumpEnd) (last : Bool) (a : Option (List ℕ)) (f n : ℕ) → KnownEnd last a f n e → SendEnds last a f n e
send_known None last a f n k = k
send_known (Some AtEnd) last a f n k = k
send_known (Some Broken) last a f n k = k
send_known (Some Spent) last a f n k = k
send_known (Some Abandoned) last a f n k = tt
send_known (Some LetGo) last a f n k = k

pub sends_known : (e : Option PumpEnd) (last : Bool) (a : Option (List ℕ)) (f n : ℕ) (old now : Producer ℕ Global AnyItems) (piece : List ℕ)
    → KnownEnd last a f n e → sent now ≡ sent old ++ piece → Sends e old now piece
sends_known None last a f n old now piece k s = s
sends_known (Some AtEnd) last a f n old now piece k s = s
sends_known (Some Broken) last a f n old now piece k s = s
sends_known (Some Spent) last a f n old now piece k s = s
sends_known (Some Abandoned) last a f n old now piece k s = absurd k
sends_known (Some LetGo) last a f n old now piece k s = s

-- what a pump that ends with a piece gave
pub gives_last : (end : PumpEnd) (b m n a : Option (List ℕ)) (old now : Producer ℕ Global AnyItems) (piece : List ℕ)
    → Consumes b m (sent old) → Consumes m n piece → Consumes n a [] → Sends (Some end) old now piece → Gives end b a (sent now)
gives_last AtEnd b m n a old now piece g h k s = rw s (gave_three b m n a (sent old) piece g h k)
gives_last Broken b m n a old now piece g h k s = rw s (gave_three b m n a (sent old) piece g h k)
gives_last Spent b m n a old now piece g h k s = rw s (gave_three b m n a (sent old) piece g h k)
gives_last Abandoned b m n a old now piece g h k s = gives_more b m n a old now piece g h k s
gives_last LetGo b m n a old now piece g h k s = rw s (gave_three b m n a (sent old) piece g h k)

is_most : (n : ℕ) → nat_eq n (2 ^ 62) ≡ true → n ≡ 2 ^ 62
is_most n h = grind (arith, nat_tests)

below_spent : (n m : ℕ) → n ≡ m → m ≤ 2 ^ 62 → nat_eq m (2 ^ 62) ≡ false → n ≡ 2 ^ 62 → ⊥
below_spent n m e l h x = grind (arith, nat_tests)

-- .. and whether it moved as many bytes as it may
pub spent_last : (end : PumpEnd) (a : Option (List ℕ)) (f g : ℕ) (old now : Producer ℕ Global AnyItems) (piece : List ℕ) (total : ℕ)
    → Sends (Some end) old now piece → SendEnds (nat_eq total (2 ^ 62)) a f g (Some end)
    → length (sent old) + length piece ≡ total → total ≤ 2 ^ 62
    → (end ≡ Spent) ↔ (length (sent now) ≡ 2 ^ 62)
spent_last AtEnd a f g old now piece total s e t m =
    (λ x. absurd (cc), λ x. absurd (below_spent (length (sent now)) total (grew old now piece total s t) m e.0 x))
spent_last Broken a f g old now piece total s e t m =
    (λ x. absurd (cc), λ x. absurd (below_spent (length (sent now)) total (grew old now piece total s t) m e.0 x))
spent_last Spent a f g old now piece total s e t m = (λ x. grew old now piece total s t ∙ is_most total e, λ x. refl)
spent_last Abandoned a f g old now piece total s e t m =
    (λ x. absurd (cc), λ x. absurd (let h : length (sent now) < 2 ^ 62 = part_below old now piece total (2 ^ 62) s (omega arith) in omega arith))
spent_last LetGo a f g old now piece total s e t m =
    (λ x. absurd (cc), λ x. absurd (below_spent (length (sent now)) total (grew old now piece total s t) m e x))

-- what a pump that moved bytes from the first on took
pub takes_all : (E A : Type 0) (end : PumpEnd) (b m a : Option (List ℕ)) (f g : ℕ) (xs ys : List ℕ)
    → Moves b m [] xs → Stops E A end m a f g xs ys → Takes end b a ys
takes_all E A AtEnd b m a f g xs ys p s = let w = moves_two b m a [] xs ys p s.1 in rw w.grew w.took
takes_all E A Broken b m a f g xs ys p s = let w = front_two b m a [] xs ys p s.0 in rw w.grew w.took
takes_all E A Spent b m a f g xs ys p s = let w = moves_two b m a [] xs ys p s.0 in rw w.grew w.took
takes_all E A Abandoned b m a f g xs ys p s = let w = moves_two b m a [] xs ys p s.1 in rw w.grew w.took
takes_all E A LetGo b m a f g xs ys p s = let w = front_two b m a [] xs ys p s in rw w.grew w.took

whole_fed : (before now : List ℕ) (end : PumpEnd) (bytes : List ℕ) → now ≡ before ++ bytes → FedPipe before now end bytes
whole_fed before now end bytes e =
    record { front = (length bytes, e ∙ ap (λ w. before ++ w) (sym (take-length bytes))); all = λ _ _. e }

pub feeds_arrive_in_order : FeedsArriveInOrder
feeds_arrive_in_order before now AtEnd ring t = whole_fed before now AtEnd (popped ring) t
feeds_arrive_in_order before now Broken ring t = record { front = (t.count, t.took); all = λ n _. absurd (n refl) }
feeds_arrive_in_order before now LetGo ring t = record { front = (t.count, t.took); all = λ _ n. absurd (n refl) }
feeds_arrive_in_order before now Spent ring t = whole_fed before now Spent (popped ring) t
feeds_arrive_in_order before now Abandoned ring t = whole_fed before now Abandoned (popped ring) t
