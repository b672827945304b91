-- Where the closing number is reached.
use Rattle.std.proofs.Common.{ℕ, ◌≡◌, ◌+◌, Bool, true, false, List, [], Option, Some, None, refl, ap, sym, ◌∙◌, arith}
use Rattle.std.proofs.lemmas.Bool.{le-leb, leb-true}
use Rattle.fj_rules.specs.declared.event.Event.{Event}
use Rattle.fj_rules.specs.Allowed.{is_closed, is_stopped}
use Rattle.fj_calls.specs.declared.cutoff.Cutoff.{Cutoff}
use Rattle.fj_calls.specs.Closings.{IsClosing, IsReached, first_set, is_due, is_over}

pub due_there : (number : Option ℕ) (k : ℕ) → IsReached number k → is_due number k ≡ true
due_there None k (n, is, few) = absurd (let no : ◌≡◌ {A = Option ℕ} None (Some n) = is in cc)
due_there (Some m) k (n, is, few) = let same : m ≡ n = cc in le-leb m k (omega (arith, same, few))

pub due_reached : (number : Option ℕ) (k : ℕ) → is_due number k ≡ true → IsReached number k
due_reached None k is = absurd (let no : false ≡ true = is in cc)
due_reached (Some m) k is = (m, refl, leb-true m k is)

over_same : (h h' : List Event) → is_closed h' ≡ is_closed h → is_stopped h' ≡ is_stopped h → is_over h' ≡ is_over h
over_same h h' closed stopped = rw (closed, stopped) refl

-- no Close and no Stop was made
pub closing_stays : (h h' : List Event) (k : ℕ) (closing : Cutoff) (stuck stuck' : Bool) → is_closed h' ≡ is_closed h → is_stopped h' ≡ is_stopped h → (stuck' ≡ false → stuck ≡ false)
    → IsClosing h k closing stuck → IsClosing h' k closing stuck'
closing_stays h h' k closing stuck stuck' closed stopped stays is =
    let same : is_over h' ≡ is_over h = over_same h h' closed stopped in
    record {
      only = λ over. is.only (sym same ∙ over);
      there = λ free reached. same ∙ is.there (stays free) reached;
      stop = λ free stops reached. stopped ∙ is.stop (stays free) stops reached;
    }

-- `Close` or `Stop` stands only where the number was reached
abbrev pub OnlyReached : List Event → ℕ → Option ℕ → Type 0
OnlyReached h k number = is_over h ≡ true → IsReached number k

pub only_set : (h : List Event) (k n : ℕ) (number : Option ℕ) → OnlyReached h k number → OnlyReached h k (first_set number n)
only_set h k n None only over = absurd (let no : ◌≡◌ {A = Option ℕ} None (Some (only over).0) = (only over).1 in cc)
only_set h k n (Some m) only over = only over

pub only_more : (h : List Event) (k : ℕ) (number : Option ℕ) → OnlyReached h k number → OnlyReached h (k + 1) number
only_more h k number only over = let was = only over in (was.0, was.1, omega (arith, was.2))

pub only_same : (h h' : List Event) (k : ℕ) (number : Option ℕ) → is_closed h' ≡ is_closed h → is_stopped h' ≡ is_stopped h → OnlyReached h k number → OnlyReached h' k number
only_same h h' k number closed stopped only over = only (sym (over_same h h' closed stopped) ∙ over)

-- nothing has happened, and there is no number
pub new_closing : (h : List Event) (k : ℕ) (closing : Cutoff) (stuck : Bool) → h ≡ [] → closing.number ≡ None → IsClosing h k closing stuck
unfolding is_closed is_stopped
new_closing h k closing stuck none unset = record {
  only = λ over. absurd (let no : false ≡ true = sym (ap is_over none) ∙ over in cc);
  there = λ free reached. absurd (let no : ◌≡◌ {A = Option ℕ} None (Some reached.0) = sym unset ∙ reached.1 in cc);
  stop = λ free stops reached. absurd (let no : ◌≡◌ {A = Option ℕ} None (Some reached.0) = sym unset ∙ reached.1 in cc);
}
