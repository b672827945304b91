-- A walk over the cells of one queue.
use Rattle.fj_queues.specs.declared.cells.Cell.{Cell}
use Rattle.fj_queues.specs.Cells.{serial_at, newer_at}
use Rattle.fj_queues.specs.Chains.{Leads, walk}
use Rattle.fj_queues.specs.Tables.{numbers_from, IsWalk}
use Rattle.fj_queues.proofs.Chains.Links.{times_here, times_more, split_first, walked}
use Rattle.fj_rules.specs.Lists.{times_in}
use Rattle.std.proofs.Common.{arith, ◌-◌, ℕ, suc, ◌≡◌, ◌<◌, List, ◌∷◌, length, map, Option, Some, None, ap, subst, sym, ◌∙◌}
use Rattle.std.proofs.lemmas.List.{length-map}

-- the numbers of a walk are those of its chain
pub shown : (cells : List Cell) (start : Option ℕ) (n : ℕ) (w : IsWalk cells start n) → numbers_from cells n start ≡ map (serial_at cells) w.chain
shown cells start n w =
    ap (map (serial_at cells)) (ap (λ k. walk (newer_at cells) k start) w.counted ∙ ap (walk (newer_at cells) (length w.chain)) w.first ∙ walked (newer_at cells) w.chain w.leads)

pub len_shown : (cells : List Cell) (start : Option ℕ) (n : ℕ) (w : IsWalk cells start n) → length (numbers_from cells n start) ≡ n
len_shown cells start n w = ap length (shown cells start n w) ∙ length-map w.chain (serial_at cells) ∙ sym w.counted

pub next_within : (cells : List Cell) (start : Option ℕ) (n c : ℕ) → IsWalk cells start n → start ≡ Some c → c < length cells
next_within cells start n c w is =
    let split = split_first c w.chain (sym w.first ∙ is) in
    w.within c (omega (arith, ap (times_in c) split.1, times_here c split.0))

pub some_left : (cells : List Cell) (start : Option ℕ) (n c : ℕ) → IsWalk cells start n → start ≡ Some c → 0 < n
some_left cells start n c w is =
    let split = split_first c w.chain (sym w.first ∙ is) in
    omega (arith, w.counted, ap length split.1)

-- the walk from the next cell on
pub goes_on : (cells : List Cell) (start : Option ℕ) (n c : ℕ) (later : Option ℕ) → IsWalk cells start n → start ≡ Some c → later ≡ newer_at cells c → IsWalk cells later (n - 1)
goes_on cells start n c later w is read =
    let split = split_first c w.chain (sym w.first ∙ is) in
    let leads = subst (λ cs. Leads (newer_at cells) cs None) split.1 w.leads in
    record {
      chain = split.0;
      first = read ∙ leads.0;
      counted = omega (arith, w.counted, ap length split.1);
      leads = leads.1;
      within = λ d some. w.within d (omega (arith, ap (times_in d) split.1, times_more d c split.0));
    }

pub gives_first : (cells : List Cell) (start : Option ℕ) (n c : ℕ) (later : Option ℕ) → IsWalk cells start n → start ≡ Some c → later ≡ newer_at cells c
    → numbers_from cells n start ≡ serial_at cells c ∷ numbers_from cells (n - 1) later
gives_first cells start n c later w is read =
    let some = some_left cells start n c w is in
    let more : n ≡ suc (n - 1) = omega arith in
    ap (λ k. numbers_from cells k start) more ∙ ap (numbers_from cells (suc (n - 1))) is ∙ ap (λ next. serial_at cells c ∷ numbers_from cells (n - 1) next) (sym read)
