-- The way from a task to its root, step by step.
use Rattle.std.proofs.Common.{arith, zero, suc, Option, Some, None, ℕ, ◌≡◌, ◌<◌, ap, sym, ◌∙◌, refl}
use Rattle.fj_tree.specs.Handles.{Handle}
use Rattle.fj_tree.specs.Records.{Records}
use Rattle.fj_tree.specs.Paths.{above, and_on, path_up, path, last_from, root_of}

-- so far up, so many steps are left, and the root is the last of the way from here
pub record IsBelowRoot (t : Records) (h at : Handle) : Type 0 where
  pub left : ℕ
  pub within : at.serial < left
  pub same : last_from at (path_up left t at) ≡ root_of t h

pub below_at_start : (t : Records) (h : Handle) → IsBelowRoot t h h
unfolding root_of path
below_at_start t h = record { left = suc h.serial; within = omega arith; same = refl }

pub below_above : (t : Records) (h at up : Handle) → IsBelowRoot t h at → above t at ≡ Some up → up.serial < at.serial → IsBelowRoot t h up
unfolding path_up
below_above t h at up below is smaller = go below.left below.within below.same
  where
    same_last : (left : ℕ) → up.serial < left → last_from at (path_up left t up) ≡ last_from up (path_up left t up)
    same_last zero within = absurd (omega arith)
    same_last (suc left) within = refl

    go : (left : ℕ) → at.serial < left → last_from at (path_up left t at) ≡ root_of t h → IsBelowRoot t h up
    go zero within same = absurd (omega arith)
    go (suc left) within same = record {
      left = left;
      within = omega (arith, within, smaller);
      same = sym (same_last left (omega (arith, within, smaller))) ∙ sym (ap (λ (o : Option Handle). last_from at (and_on (path_up left t) o)) is) ∙ same;
    }

pub root_at_end : (t : Records) (h at : Handle) → IsBelowRoot t h at → above t at ≡ None → at ≡ root_of t h
unfolding path_up
root_at_end t h at below is = go below.left below.within below.same
  where
    go : (left : ℕ) → at.serial < left → last_from at (path_up left t at) ≡ root_of t h → at ≡ root_of t h
    go zero within same = absurd (omega arith)
    go (suc left) within same = sym (ap (λ (o : Option Handle). last_from at (and_on (path_up left t) o)) is) ∙ same
