use Rattle.std.proofs.Common.{ℕ, ◌≡◌, ◌+◌, ◌-◌, ◌<◌, ◌≤◌, length-drop, List, [], ◌++◌, refl, arith, ◌∙◌, sym, take, drop, length, Option, Some, None, append_assoc}
use Rattle.std.proofs.lemmas.List.{append-nil}
use Rattle.std.proofs.lemmas.Grind.{common_steps}
use Rattle.std.proofs.Math.Seq.{take-add}
use Rattle.std.specs.Io.KnownBytes.{Appends, Consumes, IsAtEnd, Keeps}

-- two writes, one after the other
pub appends_twice : (a b c : Option (List ℕ)) (s t : List ℕ) → Appends a b s → Appends b c t → Appends a c (s ++ t)
appends_twice None b c s t p q = tt
appends_twice (Some x) None c s t p q = absurd p
appends_twice (Some x) (Some y) None s t p q = absurd q
appends_twice (Some x) (Some y) (Some z) s t p q = rw (q, p, append_assoc) refl

pub take_part : (bytes : List ℕ) (at n : ℕ) → take at bytes ++ take n (drop at bytes) ≡ take (at + n) bytes
take_part bytes at n = sym (take-add at n bytes)

pub appends_more : (a b c : Option (List ℕ)) (bytes : List ℕ) (at n : ℕ) → Appends a b (take at bytes) → Appends b c (take n (drop at bytes)) → Appends a c (take (at + n) bytes)
appends_more a b c bytes at n p q = rw (← take_part bytes at n) (appends_twice a b c _ _ p q)

pub appends_keeps : (a b c : Option (List ℕ)) (t : List ℕ) → Appends a b t → Keeps b c → Appends a c t
appends_keeps None b c t p q = tt
appends_keeps (Some x) None c t p q = absurd p
appends_keeps (Some x) (Some y) None t p q = absurd q
appends_keeps (Some x) (Some y) (Some z) t p q = q ∙ p

pub whole_tail : (bytes : List ℕ) (at : ℕ) → take (length bytes - at) (drop at bytes) ≡ drop at bytes
whole_tail bytes at = grind (arith, common_steps)

pub write_step : (a b c : Option (List ℕ)) (bytes : List ℕ) (at n next : ℕ) → at ≤ length bytes → Appends a b (take at bytes) → n ≤ length (take (length bytes - at) (drop at bytes)) → Appends b c (take n (take (length bytes - at) (drop at bytes))) → next ≡ at + n → (next ≤ length bytes) × Appends a c (take next bytes)
write_step a b c bytes at n next small p few q e =
    let q' = rw (whole_tail bytes at) at q in
    let few' = rw (whole_tail bytes at) at few in
    rw e ((let l = length-drop at bytes in omega arith), appends_more a b c bytes at n p q')

-- two reads, one after the other
pub consumes_twice : (a b c : Option (List ℕ)) (s t : List ℕ) → Consumes a b s → Consumes b c t → Consumes a c (s ++ t)
consumes_twice None b c s t p q = tt
consumes_twice (Some x) None c s t p q = absurd p
consumes_twice (Some x) (Some y) None s t p q = absurd q
consumes_twice (Some x) (Some y) (Some z) s t p q = rw (p, q, append_assoc) refl

-- a read that gave nothing
pub consumes_none : (a b c : Option (List ℕ)) (s : List ℕ) → Consumes a b s → Consumes b c [] → Consumes a c s
consumes_none a b c s p q = rw append-nil at (consumes_twice a b c s [] p q)

-- a read that failed
pub consumes_kept : (a b c : Option (List ℕ)) (s : List ℕ) → Consumes a b s → Keeps b c → Consumes a c s
consumes_kept None b c s p q = tt
consumes_kept (Some x) None c s p q = absurd p
consumes_kept (Some x) (Some y) None s p q = absurd q
consumes_kept (Some x) (Some y) (Some z) s p q = rw q p

-- a read that gave nothing, into room for something
pub read_end : (a b c : Option (List ℕ)) (s buf : List ℕ) (n : ℕ) → Consumes a b s → Consumes b c (take n buf) × (n ≡ 0 → 0 < length buf → IsAtEnd c) → n ≡ 0 → 0 < length buf → Consumes a c s × IsAtEnd c
read_end a b c s buf n p q zero room =
    let none : take n buf ≡ [] = rw zero refl in
    (consumes_none a b c s p (rw none at q.0), q.1 zero room)

pub keeps_self : (a : Option (List ℕ)) → Keeps a a
keeps_self None = tt
keeps_self (Some x) = refl

-- nothing was written, twice
pub keeps_twice : (a b c : Option (List ℕ)) → Keeps a b → Keeps b c → Keeps a c
keeps_twice None b c p q = tt
keeps_twice (Some x) None c p q = absurd p
keeps_twice (Some x) (Some y) None p q = absurd q
keeps_twice (Some x) (Some y) (Some z) p q = q ∙ p
