-- How a check ended, by what was read and by what was written.
use Rattle.std.proofs.Common.{ℕ, ◌≡◌, ◌⊎◌, ◌++◌, List, Option, ⊎_elim, inl, inr, arith}
use Rattle.std.specs.Prelude.{codes}
use Rattle.fj_check.specs.declared.fault.CheckFault.{CheckFault}
use Rattle.fj_check.specs.declared.fault.CheckFault.TheVariants.{Objection, Line, Limits, Memory, Read}
use Rattle.fj_check.specs.Checks.{IsChecked, StopsCheck}
use Rattle.fj_commands.specs.Answers.{EndsJob, number_line}
use Rattle.fj_commands.specs.Statuses.{EndsCheck, EndsHistory, IsEndOfCheck, IsOfFailure, IsWritten}

-- a view is written after a whole history
pub view_ended : (n status : ℕ) (before ahead start now : Option (List ℕ)) → IsChecked n before ahead → (status ≡ 0 → IsWritten start now) → (status ≡ 0) ⊎ ((status ≡ 4) ⊎ (status ≡ 5))
    → EndsHistory (λ k. IsWritten start now) status before ahead start now
view_ended n status before ahead start now checked written known = record {
  known = ⊎_elim (λ zero. inl zero) (λ others. inr (inr (inr others))) known;
  good = λ zero. (n, checked, written zero);
  barred = λ one. absurd (⊎_elim (λ a. omega (arith, a, one)) (⊎_elim (λ b. omega (arith, b, one)) (λ c. omega (arith, c, one))) known);
  faulty = λ three. absurd (⊎_elim (λ a. omega (arith, a, three)) (⊎_elim (λ b. omega (arith, b, three)) (λ c. omega (arith, c, three))) known);
}

-- the answer is written after a whole history
pub good_ended : (n status : ℕ) (before ahead start now : Option (List ℕ)) → IsChecked n before ahead → EndsJob status (codes "ok " ++ number_line n) start now → (status ≡ 0) ⊎ ((status ≡ 4) ⊎ (status ≡ 5))
    → EndsCheck status before ahead start now
good_ended n status before ahead start now checked job known = record {
  known = ⊎_elim (λ zero. inl zero) (λ others. inr (inr (inr others))) known;
  good = λ zero. (n, checked, job.written zero);
  barred = λ one. absurd (⊎_elim (λ a. omega (arith, a, one)) (⊎_elim (λ b. omega (arith, b, one)) (λ c. omega (arith, c, one))) known);
  faulty = λ three. absurd (⊎_elim (λ a. omega (arith, a, three)) (⊎_elim (λ b. omega (arith, b, three)) (λ c. omega (arith, c, three))) known);
}

-- the fault is told
pub fault_ended : {Done : ℕ → Type 0} (fault : CheckFault) (status : ℕ) (before ahead start now : Option (List ℕ)) → StopsCheck before ahead fault → IsEndOfCheck fault status start now → EndsHistory Done status before ahead start now
fault_ended (Objection n why) status before ahead start now stops ended = record {
  known = inr (⊎_elim (λ one. inl one) (λ others. inr (inr others)) ended);
  good = λ zero. absurd (⊎_elim (λ a. omega (arith, a, zero)) (⊎_elim (λ b. omega (arith, b, zero)) (λ c. omega (arith, c, zero))) ended);
  barred = λ one. (n, stops.0, stops.1, stops.2);
  faulty = λ three. absurd (⊎_elim (λ a. omega (arith, a, three)) (⊎_elim (λ b. omega (arith, b, three)) (λ c. omega (arith, c, three))) ended);
}
fault_ended (Line n) status before ahead start now stops ended = record {
  known = inr (inr (inl ended.0));
  good = λ zero. absurd (omega (arith, zero, ended.0));
  barred = λ one. absurd (omega (arith, one, ended.0));
  faulty = λ three. (stops.0, stops.1, inl (n, stops.2), ended.1);
}
fault_ended Limits status before ahead start now stops ended = record {
  known = inr (inr (inl ended.0));
  good = λ zero. absurd (omega (arith, zero, ended.0));
  barred = λ one. absurd (omega (arith, one, ended.0));
  faulty = λ three. (stops.0, stops.1, inr stops.2, ended.1);
}
fault_ended Memory status before ahead start now stops ended = record {
  known = inr (inr (inr (inl ended.0)));
  good = λ zero. absurd (omega (arith, zero, ended.0));
  barred = λ one. absurd (omega (arith, one, ended.0));
  faulty = λ three. absurd (omega (arith, three, ended.0));
}
fault_ended Read status before ahead start now stops ended = record {
  known = inr (inr (inr (inr ended.0)));
  good = λ zero. absurd (omega (arith, zero, ended.0));
  barred = λ one. absurd (omega (arith, one, ended.0));
  faulty = λ three. absurd (omega (arith, three, ended.0));
}

-- a fault does not end with 0
pub fault_unfinished : (fault : CheckFault) (status : ℕ) (start now : Option (List ℕ)) → IsEndOfCheck fault status start now → status ≡ 0 → ⊥
fault_unfinished (Objection n why) status start now ended zero = ⊎_elim (λ a. omega (arith, a, zero)) (⊎_elim (λ b. omega (arith, b, zero)) (λ c. omega (arith, c, zero))) ended
fault_unfinished (Line n) status start now ended zero = omega (arith, zero, ended.0)
fault_unfinished Limits status start now ended zero = omega (arith, zero, ended.0)
fault_unfinished Memory status start now ended zero = omega (arith, zero, ended.0)
fault_unfinished Read status start now ended zero = omega (arith, zero, ended.0)

-- nor does a failure
pub failed_unfinished : (status : ℕ) → IsOfFailure status → status ≡ 0 → ⊥
failed_unfinished status failed zero = ⊎_elim (λ a. omega (arith, a, zero)) (⊎_elim (λ b. omega (arith, b, zero)) (λ c. omega (arith, c, zero))) failed
