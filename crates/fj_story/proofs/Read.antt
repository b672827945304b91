-- The story that was read.
use Rattle.std.proofs.Common.{ℕ, ◌≡◌, List, Option, refl, sym, subst}
use Rattle.std.proofs.lemmas.Bool.{false≢true}
use Rattle.fj_rules.specs.Pasts.{Past}
use Rattle.fj_streams.specs.declared.fault.FilterFault.{FilterFault}
use Rattle.fj_streams.specs.Faults.{EndsFrom, Finishes}
use Rattle.fj_check.specs.declared.history_check.HistoryCheck.{HistoryCheck}
use Rattle.fj_check.specs.declared.history_check.HistoryCheck.TheVariants.{Start, Going}
use Rattle.fj_check.specs.declared.history_stop.HistoryStop.{HistoryStop}
use Rattle.fj_check.specs.Checks.{IsReadAs, StopsCheck}
use Rattle.fj_check.specs.Rules.{check_fault, check_rules}
use Rattle.fj_check.proofs.Found.{read_as, stops}

read_on : (state : HistoryCheck) (story : Past) (before ahead start now : Option (List ℕ)) → Finishes check_rules Start state before ahead start now
    → ((past : Past) (n : ℕ) → state ≡ Going past n → story ≡ past) → IsReadAs story before ahead
read_on Start story before ahead start now done is = absurd (false≢true done.1.input.headed)
read_on (Going past n) story before ahead start now done is = subst (λ (p : Past). IsReadAs p before ahead) (sym (is past n refl)) (read_as past n before ahead start now done)

-- it was read to its end
pub read_whole : (first last : HistoryCheck) (story : Past) (before ahead start now : Option (List ℕ)) → first ≡ Start → Finishes check_rules first last before ahead start now
    → ((past : Past) (n : ℕ) → last ≡ Going past n → story ≡ past) → IsReadAs story before ahead
read_whole first last story before ahead start now is done kept =
    read_on last story before ahead start now (subst (λ (s : HistoryCheck). Finishes check_rules s last before ahead start now) is done) kept

-- it is none
pub read_fault : {Told : List ℕ → Type 0} (first : HistoryCheck) (fault : FilterFault HistoryStop) (before ahead start now : Option (List ℕ)) → first ≡ Start
    → ((b : List ℕ) × EndsFrom check_rules first fault b before ahead start now × Told b) → StopsCheck before ahead (check_fault fault)
read_fault {Told = Told} first fault before ahead start now is (b, ends, told) =
    stops {Told = Told} fault before ahead start now (b, subst (λ (s : HistoryCheck). EndsFrom check_rules s fault b before ahead start now) is ends, told)
