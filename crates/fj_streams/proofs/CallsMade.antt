-- The calls of a reader or a writer, one after another.
use Rattle.std.proofs.Common.{ℕ, ◌+◌, ◌-◌, ◌^◌, ◌≤◌, ⊎_elim, inl, inr, refl, arith, Option, Some, None}
use Rattle.fj_streams.specs.Calls.{Calls, Fails, GoesOn, HasFailed, IsFine}

pub goes_further : (a b c : Option Calls) (n m : ℕ) → GoesOn a b n → GoesOn b c m → GoesOn a c (n + m)
goes_further None b c n m p q = tt
goes_further (Some x) None c n m p q = absurd p
goes_further (Some x) (Some y) None n m p q = absurd q
goes_further (Some x) (Some y) (Some z) n m p q = (let e = p.0 in let f = q.0 in omega arith, let e = p.1 in let f = q.1 in omega arith)

pub goes_fine : (a b : Option Calls) (n : ℕ) → GoesOn a b n → IsFine a b
goes_fine None b n p = tt
goes_fine (Some x) None n p = absurd p
goes_fine (Some x) (Some y) n p = (p.0, let e = p.1 in omega arith)

-- after calls of which none failed
pub goes_failed : (a b c : Option Calls) (n : ℕ) → GoesOn a b n → Fails b c → HasFailed a c
goes_failed None b c n p q = tt
goes_failed (Some x) None c n p q = absurd p
goes_failed (Some x) (Some y) None n p q = absurd q
goes_failed (Some x) (Some y) (Some z) n p q = inl (let e = p.0 in let f = q in omega arith)

-- too many calls
pub goes_forever : (a b : Option Calls) (n : ℕ) → GoesOn a b n → 2 ^ 64 - 1 ≤ n → HasFailed a b
goes_forever None b n p many = tt
goes_forever (Some x) None n p many = absurd p
goes_forever (Some x) (Some y) n p many = inr (let e = p.1 in omega arith)

pub fine_self : (a : Option Calls) → IsFine a a
fine_self None = tt
fine_self (Some x) = (refl, omega arith)

pub fine_twice : (a b c : Option Calls) → IsFine a b → IsFine b c → IsFine a c
fine_twice None b c p q = tt
fine_twice (Some x) None c p q = absurd p
fine_twice (Some x) (Some y) None p q = absurd q
fine_twice (Some x) (Some y) (Some z) p q = (let e = p.0 in let f = q.0 in omega arith, let e = p.1 in let f = q.1 in omega arith)

pub fine_failed : (a b c : Option Calls) → IsFine a b → HasFailed b c → HasFailed a c
fine_failed None b c p q = tt
fine_failed (Some x) None c p q = absurd p
fine_failed (Some x) (Some y) None p q = absurd q
fine_failed (Some x) (Some y) (Some z) p q =
    ⊎_elim (λ f. inl (let e = p.0 in let f' = f in omega arith)) (λ f. inr (let e = p.1 in let f' = f in omega arith)) q
