-- How a query over a range ended, by the numbers of the range and the function that it had.
use Rattle.std.proofs.Common.{ℕ, ◌≡◌, ◌≤◌, ◌∙◌, subst, ap, inr, List, Option}
use Rattle.fj_jobs.specs.declared.range_query.Query.{Query}
use Rattle.fj_jobs.specs.declared.range_query.QueryValue.{QueryValue}
use Rattle.fj_jobs.specs.Queries.{query_value}
use Rattle.fj_jobs.specs.Ranges.{residues_hit, residues_least}
use Rattle.fj_arguments.specs.declared.options.RangeOptions.{RangeOptions}
use Rattle.fj_arguments.specs.declared.options.FunctionOptions.{FunctionOptions}
use Rattle.fj_cli.specs.declared.job_commands.TheConstants.{MAX_BLOCKS}
use Rattle.fj_commands.specs.Answers.{EndsJob}
use Rattle.fj_cli.specs.Answers.{EndsRange, blocks_of, count_of, hit_line, hit_of, least_line, least_of, value_line}

module _ (o : RangeOptions) (status : ℕ) (start now : Option (List ℕ)) where
  pub query_ended : (q : Query) (from count : ℕ) → from ≡ o.from → count ≡ count_of o → blocks_of o ≤ MAX_BLOCKS → (v : QueryValue) → v ≡ query_value q from count
      → EndsJob status (value_line v) start now → EndsRange o status (value_line (query_value q o.from (count_of o))) start now
  query_ended q from count begins counted few v is ends =
      let same : v ≡ query_value q o.from (count_of o) = is ∙ (ap (λ (x : ℕ). query_value q x count) begins ∙ ap (λ (x : ℕ). query_value q o.from x) counted) in
      inr (few, subst (λ (x : QueryValue). EndsJob status (value_line x) start now) same ends)

  module _ (f : FunctionOptions) (mul add modulus : ℕ) (same : (mul ≡ f.mul) × (add ≡ f.add) × (modulus ≡ f.modulus)) where
    pub least_ended : EndsRange o status (least_line (residues_least mul add modulus o.from (count_of o))) start now → EndsRange o status (least_line (least_of o f)) start now
    least_ended ends =
        let all : residues_least mul add modulus o.from (count_of o) ≡ least_of o f =
        ap (λ (x : ℕ). residues_least x add modulus o.from (count_of o)) same.0 ∙ (ap (λ (x : ℕ). residues_least f.mul x modulus o.from (count_of o)) same.1
        ∙ ap (λ (x : ℕ). residues_least f.mul f.add x o.from (count_of o)) same.2) in
        subst (λ (x : Option (ℕ × ℕ)). EndsRange o status (least_line x) start now) all ends

    pub hit_ended : (want wanted : ℕ) → wanted ≡ want → EndsRange o status (hit_line (residues_hit mul add modulus wanted o.from (count_of o))) start now
        → EndsRange o status (hit_line (hit_of o f want)) start now
    hit_ended want wanted asks ends =
        let all : residues_hit mul add modulus wanted o.from (count_of o) ≡ hit_of o f want =
        ap (λ (x : ℕ). residues_hit x add modulus wanted o.from (count_of o)) same.0 ∙ (ap (λ (x : ℕ). residues_hit f.mul x modulus wanted o.from (count_of o)) same.1
        ∙ (ap (λ (x : ℕ). residues_hit f.mul f.add x wanted o.from (count_of o)) same.2 ∙ ap (λ (x : ℕ). residues_hit f.mul f.add f.modulus x o.from (count_of o)) asks)) in
        subst (λ (x : Option ℕ). EndsRange o status (hit_line x) start now) all ends
