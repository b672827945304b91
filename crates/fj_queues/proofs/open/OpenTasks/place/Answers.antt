use Rattle.std.specs.List.{position, position_or_len}
use Rattle.std.specs.Prelude.{MatchOption, slice_get}
use Rattle.std.proofs.Common.{arith, ℕ, ◌≡◌, ◌==◌, ◌<◌, ◌+◌, ◌∙◌, suc, Bool, true, false, not, cond, ◌||◌, List, [], ◌∷◌, length, Option, Some, None, ap, sym}
use Rattle.std.proofs.lemmas.Bool.{eqb-true, lt-ltb}
use Rattle.std.proofs.lemmas.Option.{slice_get-get_or}
use Rattle.std.proofs.lemmas.List.Quantifiers.{position-Some}
use Rattle.fj_rules.specs.Lists.{is_in}
use Rattle.fj_rules.proofs.Places.OnePlace.{never}
use Rattle.fj_queues.proofs.open.OpenTasks.place.Goals as goal

one_more : (here there : Bool) (n k : ℕ) → (there ≡ true → n < k) → (here || there) ≡ true → cond (not here) (1 + n) 0 < suc k
one_more true there n k before is = omega arith
one_more false there n k before is = omega (arith, before is)

-- a member stands before the end
before_end : (t : ℕ) (xs : List ℕ) → is_in t xs ≡ true → position_or_len (λ u. u == t) xs < length xs
before_end t [] is = absurd cc
before_end t (x ∷ xs) is = one_more (x == t) (is_in t xs) (position_or_len (λ u. u == t) xs) (length xs) (before_end t xs) is

found : (t : ℕ) (xs : List ℕ) (place : Option ℕ) → place ≡ position (λ u. u == t) xs → MatchOption place (is_in t xs ≡ false) (λ i. slice_get xs i ≡ Some t)
found t xs (Some i) is = let at = position-Some (λ u. u == t) xs i 0 (sym is) in slice_get-get_or xs i 0 at.0 ∙ ap Some (eqb-true _ t at.1)
found t xs None is = never (is_in t xs) (λ there.
    let bad = rw (lt-ltb (position_or_len (λ u. u == t) xs) (length xs) (before_end t xs there)) at is in
    absurd cc)

pub returns : goal.returns
returns c = found c.args.t c.args.self.now.list c.walk.result (c.walk.ensures ∙ ap (position (λ u. u == c.args.t)) c.as_slice-tasks.ensures)
