use Rattle.std.proofs.Common.{ℕ, ◌≡◌, ◌<◌, List, get_or, true}
use Rattle.fj_slots.proofs.hand.Hand.holds.Given as goal

-- so many of the first numbers are the same
abbrev pub AreSame : ℕ → List ℕ → List ℕ → Type 0
AreSame count xs ys = (k : ℕ) → k < count → get_or xs k 0 ≡ get_or ys k 0

abbrev pub invariant-loop-i : goal.invariant-loop-i
invariant-loop-i g l =
    (l.same ≡ true → AreSame l.i l.self-inside.serials.items l.serials) × (AreSame l.i l.self-inside.serials.items l.serials → l.same ≡ true)
