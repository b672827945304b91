-- The owners of queues, and their numbers.
use Rattle.std.proofs.Common.{ℕ, ◌≡◌, ◌+◌, ◌-◌, ◌<◌, Bool, true, false, refl, arith}
use Rattle.std.specs.Prelude.{nat_lt, if◌then◌else◌}
use Rattle.std.proofs.lemmas.Bool.{le-ltb, lt-ltb, ltb-false}
use Rattle.fj_rules.specs.declared.owner.Owner.TheVariants.{Sub, Work}
use Rattle.fj_rules.specs.Bounds.{Bounds, owner_at}

-- a submitter's queue is the one with its number
pub sub_owner : (l : Bounds) (s : ℕ) → s < l.submitters → owner_at l s ≡ Sub s
sub_owner l s within = rw (lt-ltb s l.submitters within) refl

-- a worker's queue comes after those of the submitters
pub work_owner : (l : Bounds) (w : ℕ) → owner_at l (l.submitters + w) ≡ Work w
work_owner l w =
    let over : nat_lt (l.submitters + w) l.submitters ≡ false = le-ltb (l.submitters + w) l.submitters (omega arith) in
    let back : l.submitters + w - l.submitters ≡ w = omega arith in
    rw (over, back) refl

-- different numbers are of different owners
pub owners_apart : (l : Bounds) (i j : ℕ) → owner_at l i ≡ owner_at l j → i ≡ j
owners_apart l i j = go (nat_lt i l.submitters) (nat_lt j l.submitters) refl refl
  where
    go : (b c : Bool) → nat_lt i l.submitters ≡ b → nat_lt j l.submitters ≡ c → (if b then Sub i else Work (i - l.submitters)) ≡ (if c then Sub j else Work (j - l.submitters)) → i ≡ j
    go true true is also same = cc
    go true false is also same = absurd cc
    go false true is also same = absurd cc
    go false false is also same =
        let rest : i - l.submitters ≡ j - l.submitters = cc in
        omega (arith, rest, ltb-false i l.submitters is, ltb-false j l.submitters also)
