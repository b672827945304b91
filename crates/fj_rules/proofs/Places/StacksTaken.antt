-- What stands on a stack was taken from a queue.
use Rattle.std.proofs.Common.{ℕ, ◌≡◌, Bool, true, false, List, [], ◌∷◌, Option, Some, None, refl, ap, inl, inr, ⊎_elim, ◌⊎◌}
use Rattle.std.specs.Prelude.{◌==◌}
use Rattle.std.specs.List.{filter_map}
use Rattle.std.proofs.lemmas.Bool.{eqb-true, or_cases}
use Rattle.fj_rules.specs.declared.event.Event.{Event}
use Rattle.fj_rules.specs.declared.event.Event.TheVariants as event
use Rattle.fj_rules.specs.Lists.{is_in}
use Rattle.fj_rules.specs.Stacks.{stack, out_by, ended, unless_ended}
use Rattle.fj_rules.specs.Queues.{taken, taken_by}
use Rattle.fj_rules.proofs.Events.Lawful.{front_here, front_rest, number_if_is}

-- what is on a stack was taken from a queue
abbrev IsStackTaken : List Event → Type 0
IsStackTaken h = (w t : ℕ) → is_in t (stack h w) ≡ true → is_in t (taken h) ≡ true

pub out_takes : (w : ℕ) (e : Event) (t : ℕ) → out_by w e ≡ Some t → taken_by e ≡ Some t
out_takes w (event.Out u v) t is = ap Some (number_if_is (w == v) u t is).1
out_takes w _ t is = absurd cc

pub unless_cases : (t : ℕ) (said : Option ℕ) (ended others : List ℕ) → is_in t (unless_ended said ended others) ≡ true → (said ≡ Some t) ⊎ (is_in t others ≡ true)
unless_cases t None ended others there = inr there
unless_cases t (Some u) ended others there = go (is_in u ended) refl
  where
    go : (b : Bool) → is_in u ended ≡ b → (Some u ≡ Some t) ⊎ (is_in t others ≡ true)
    go true is = inr (rw is at there)
    go false is = ⊎_elim (λ h. inl (ap Some (eqb-true u t h))) (λ h. inr h) (or_cases (u == t) (is_in t others) (rw is at there))

stack_taken_from : (w t : ℕ) (h : List Event) → is_in t (stack h w) ≡ true → is_in t (filter_map taken_by h) ≡ true
unfolding stack
stack_taken_from w t [] there = absurd cc
stack_taken_from w t (e ∷ h) there =
    ⊎_elim (λ is. front_here t (taken_by e) (filter_map taken_by h) (out_takes w e t is)) (λ rest. front_rest t (taken_by e) (filter_map taken_by h) (stack_taken_from w t h rest))
    (unless_cases t (out_by w e) (ended h w) (stack h w) there)

pub stack_taken : (h : List Event) → IsStackTaken h
unfolding taken
stack_taken h w t there = stack_taken_from w t h there
