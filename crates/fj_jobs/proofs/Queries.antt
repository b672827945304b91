-- The answers to queries over two halves of a range.
use Rattle.std.specs.Prelude.{is_some, true}
use Rattle.std.proofs.Common.{ℕ, ◌≡◌, ◌+◌, ◌≤◌, ◌^◌, List, [], ◌∷◌, Option, Some, None, refl, ◌∙◌, ap}
use Rattle.std.proofs.lemmas.Bool.{false≢true}
use Rattle.std.specs.Option.{option_or}
use Rattle.fj_jobs.specs.declared.range_query.Query.{Query}
use Rattle.fj_jobs.specs.declared.range_query.Query.TheVariants.{Sum, Min, Find}
use Rattle.fj_jobs.specs.declared.range_query.QueryValue.{QueryValue}
use Rattle.fj_jobs.specs.declared.range_query.QueryValue.TheVariants.{Total, Least, Hit}
use Rattle.fj_jobs.specs.Finals.{IsFinal, ending_in}
use Rattle.fj_jobs.specs.Queries.{query_value, both_values}
use Rattle.fj_jobs.proofs.Sums.{sum_halves}
use Rattle.fj_jobs.proofs.Residues.{least_halves, hit_halves}

both_hits : (l r : Option ℕ) → Hit (option_or l r) ≡ both_values (Hit l) (Hit r)
both_hits None r = refl
both_hits (Some x) r = refl

pub query_halves : (query : Query) (a m n : ℕ) → a + (m + n) ≤ 2 ^ 32 → query_value query a (m + n) ≡ both_values (query_value query a m) (query_value query (a + m) n)
query_halves Sum a m n h = ap Total (sum_halves a m n h)
query_halves (Min f) a m n h = ap Least (least_halves f.mul f.add f.modulus a m n)
query_halves (Find f want) a m n h = ap Hit (hit_halves f.mul f.add f.modulus want a m n) ∙ both_hits _ _

-- what ends in a hit is a hit
ending_in_hit : (x : ℕ) (befores : List QueryValue) → (y : ℕ) × (ending_in both_values befores (Hit (Some x)) ≡ Hit (Some y))
ending_in_hit x [] = (x, refl)
ending_in_hit x (Total a ∷ others) = let rest = ending_in_hit x others in (rest.0, ap (both_values (Total a)) rest.1)
ending_in_hit x (Least p ∷ others) = let rest = ending_in_hit x others in (rest.0, ap (both_values (Least p)) rest.1)
ending_in_hit x (Hit None ∷ others) = let rest = ending_in_hit x others in (rest.0, ap (both_values (Hit None)) rest.1)
ending_in_hit x (Hit (Some z) ∷ others) = (z, refl)

pub hit_is_final : (hit : Option ℕ) → is_some hit ≡ true → IsFinal both_values (Hit hit)
hit_is_final (Some x) e = λ befores after. rw (ending_in_hit x befores).1 refl
hit_is_final None e = absurd (false≢true e)
