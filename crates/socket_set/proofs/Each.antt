-- Clients that are changed one after another, by rising numbers.
use Rattle.std.proofs.Common.{◌≡◌, ◌≢◌, ◌∙◌, ◌+◌, ◌≤◌, ◌<◌, ℕ, Option, None, refl, sym, subst, inl, inr, arith}
use Rattle.std.proofs.lemmas.Bool.{cases_order}
use Rattle.socket_set.specs.Clients.{ClientState}
use Rattle.socket_set.specs.Sets.{SetState, clients, OnClient, On, OnEach, SameCounts, SameDevices}
use Rattle.socket_set.proofs.Sets.{counts_self, counts_two, devices_self, devices_two}

-- those below c were changed, and the others are as they were
pub record OnBelow (R : ClientState → ClientState → Type 0) (c : ℕ) (old new : SetState) : Type 0 where
  pub below : (d : ℕ) → d < c → OnClient R (clients old d) (clients new d)
  pub others : (d : ℕ) → c ≤ d → clients new d ≡ clients old d
  pub most : c ≤ old.accepted
  pub counts : SameCounts old new
  pub devices : SameDevices old new

none_changed : (R : ClientState → ClientState → Type 0) (a b : Option ClientState) → a ≡ None → b ≡ a → OnClient R a b
none_changed R a b n e = subst (λ x. OnClient R x b) (sym n) (e ∙ n)

pub none_below : (R : ClientState → ClientState → Type 0) (c : ℕ) (a : SetState) → ((d : ℕ) → 0 ≤ d → d < c → clients a d ≡ None) → c ≤ a.accepted
    → OnBelow R c a a
none_below R c a none most =
    record {
      below = λ d l. none_changed R (clients a d) (clients a d) (none d (omega arith) l) refl;
      others = λ d l. refl;
      most = most;
      counts = counts_self a;
      devices = devices_self a;
    }

-- client c was changed, and there is none from the next number up to n
pub one_below : (R : ClientState → ClientState → Type 0) (c n : ℕ) (a b d : SetState) → OnBelow R c a b → On c R b d
    → ((k : ℕ) → c + 1 ≤ k → k < n → clients d k ≡ None) → c + 1 ≤ n → n ≤ d.accepted → OnBelow R n a d
one_below R c n a b d h step none least most =
    let same : (k : ℕ) → k ≢ c → clients d k ≡ clients b k = step.one.others in
    record {
      below = λ k l. elim (cases_order k c) [
        | inl e ↦ rw e (subst (λ x. OnClient R x (clients d c)) (h.others c (omega arith)) step.one.client)
        | inr apart ↦ elim apart [
          | inl less ↦ subst (λ x. OnClient R (clients a k) x) (sym (same k (λ e. omega (arith, less, e)))) (h.below k less)
          | inr more ↦
              let still : clients d k ≡ clients a k = same k (λ e. omega (arith, more, e)) ∙ h.others k (omega (arith, more)) in
              none_changed R (clients a k) (clients d k) (sym still ∙ none k (omega (arith, more)) l) still
        ]
      ];
      others = λ k l. same k (λ e. omega (arith, l, e, least)) ∙ h.others k (omega (arith, l, least));
      most = subst (λ x. n ≤ x) (step.one.counts.accepted ∙ h.counts.accepted) most;
      counts = counts_two a b d h.counts step.one.counts;
      devices = devices_two a b d h.devices step.devices;
    }

pub each_done : (R : ClientState → ClientState → Type 0) (c : ℕ) (a b : SetState) → OnBelow R c a b → a.accepted ≤ c → OnEach R a b
each_done R c a b h l =
    record {
      each = λ d less. h.below d (omega (arith, less, l));
      others = λ d more. h.others d (omega (arith, more, h.most));
      counts = h.counts;
      devices = h.devices;
    }
