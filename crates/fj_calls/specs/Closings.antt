-- The closing number, and which step is made once it is reached.
use Rattle.std.specs.Prelude.{ℕ, ◌≡◌, ◌≤◌, Bool, true, false, ◌||◌, List, Option, Some, None, nat_le}
use Rattle.fj_rules.specs.declared.event.Event.{Event}
use Rattle.fj_rules.specs.Allowed.{is_closed, is_stopped}
use Rattle.fj_calls.specs.declared.cutoff.Cutoff.{Cutoff}

-- whether the number is known, and at most `taken_in`
abbrev pub is_due : Option ℕ → ℕ → Bool
is_due None taken_in = false
is_due (Some n) taken_in = nat_le n taken_in

-- the first number stays
abbrev pub first_set : Option ℕ → ℕ → Option ℕ
first_set (Some m) n = Some m
first_set None n = Some n

-- whether `Close` or `Stop` was made
abbrev pub is_over : List Event → Bool
is_over h = is_closed h || is_stopped h

-- the number was set, and `taken_in` submissions reach it
abbrev pub IsReached : Option ℕ → ℕ → Type 0
IsReached number taken_in = (n : ℕ) × (number ≡ Some n) × (n ≤ taken_in)

-- `Close` or `Stop` is made only if the number was reached; then one of them is, `Stop` if the Cutoff says so, unless the core is stuck
pub record IsClosing (h : List Event) (taken_in : ℕ) (closing : Cutoff) (stuck : Bool) : Type 0 where
  pub only : is_over h ≡ true → IsReached closing.number taken_in
  pub there : stuck ≡ false → IsReached closing.number taken_in → is_over h ≡ true
  pub stop : stuck ≡ false → closing.stopping ≡ true → IsReached closing.number taken_in → is_stopped h ≡ true
