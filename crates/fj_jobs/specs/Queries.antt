-- What a query over a range asks for.
use Rattle.std.specs.Prelude.{ℕ, Bool, ◌≡◌, ◌+◌, ◌%◌, ◌^◌, ◌==◌, ◌&&◌, false, true, Some}
use Rattle.std.proofs.Common.{arith, ap}
use Rattle.std.proofs.lemmas.Bool.{false≢true}
use Rattle.std.proofs.lemmas.Bool.Decides.{nat_tests}
use Rattle.fj_jobs.specs.contracts.range_query.QueryPartialEq.TheImpl.{ghosts}
use Rattle.fj_jobs.specs.declared.range_query.Query.{Query}
use Rattle.fj_jobs.specs.declared.range_query.Query.TheVariants.{Sum, Min, Find}
use Rattle.fj_jobs.specs.declared.range_query.QueryValue.{QueryValue}
use Rattle.fj_jobs.specs.declared.range_query.QueryValue.TheVariants.{Total, Least, Hit}
use Rattle.fj_jobs.specs.Ranges.{range_sum, better, residues_least, residues_hit, same_interval, same_residues_least, same_residues_hit}

-- the answer for n numbers, from a on
abbrev pub query_value : Query → ℕ → ℕ → QueryValue
query_value Sum a n = Total (range_sum a n)
query_value (Min f) a n = Least (residues_least f.mul f.add f.modulus a n)
query_value (Find f want) a n = Hit (residues_hit f.mul f.add f.modulus want a n)

-- the answer for all numbers, from those for the left and for the right half
abbrev pub both_values : QueryValue → QueryValue → QueryValue
both_values (Total a) (Total b) = Total ((a + b) % 2 ^ 64)
both_values (Least p) (Least q) = Least (better p q)
both_values (Hit (Some x)) r = Hit (Some x)
both_values l r = r

-- ---- equal queries have equal answers over equal intervals

other : {A : Type 0} (x : Bool) → x && false ≡ true → A
other true e = absurd (false≢true e)
other false e = absurd (false≢true e)

pub same_query_value : (q : Query) (a m : ℕ) (r : Query) (b n : ℕ) → ((a == b) && (m == n)) && ghosts.eq q r ≡ true → query_value q a m ≡ query_value r b n
same_query_value Sum a m Sum b n e = ap Total (same_interval range_sum a m b n (grind (arith, nat_tests)))
same_query_value (Min f) a m (Min g) b n e = ap Least (same_residues_least a m f.mul f.add f.modulus b n g.mul g.add g.modulus e)
same_query_value (Find f k) a m (Find g l) b n e = ap Hit (same_residues_hit a m f.mul f.add f.modulus k b n g.mul g.add g.modulus l (grind (arith, nat_tests)))
same_query_value Sum a m (Min g) b n e = other _ e
same_query_value Sum a m (Find g l) b n e = other _ e
same_query_value (Min f) a m Sum b n e = other _ e
same_query_value (Min f) a m (Find g l) b n e = other _ e
same_query_value (Find f k) a m Sum b n e = other _ e
same_query_value (Find f k) a m (Min g) b n e = other _ e
