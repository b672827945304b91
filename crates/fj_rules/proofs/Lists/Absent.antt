-- Owners and workers that are not there have nothing, and a list without members is empty.
use Rattle.std.proofs.Common.{ℕ, ◌≡◌, ◌≤◌, true, List, [], ◌∷◌, refl, arith}
use Rattle.std.proofs.lemmas.Bool.{eq-eqb}
use Rattle.fj_rules.specs.declared.event.Event.{Event}
use Rattle.fj_rules.specs.declared.owner.Owner.{Owner}
use Rattle.fj_rules.specs.Bounds.{Pool, IsOwner}
use Rattle.fj_rules.specs.Lists.{is_in}
use Rattle.fj_rules.specs.Queues.{queue}
use Rattle.fj_rules.specs.Stacks.{stack}
use Rattle.fj_rules.specs.Allowed.{AllowedFrom}
use Rattle.fj_rules.proofs.Events.Lawful.{queued_pushed}
use Rattle.fj_rules.proofs.Places.OnePlace.{is_owned, stack_apart}

none_in : (ts : List ℕ) → ((t : ℕ) → is_in t ts ≡ true → ⊥) → ts ≡ []
none_in [] none = refl
none_in (t ∷ ts) none = absurd (none t (rw (eq-eqb t t refl) refl))

pub no_such_queue : (pool : Pool) (h : List Event) (o : Owner) → AllowedFrom pool [] h → (IsOwner pool.limits o → ⊥) → queue h o ≡ []
no_such_queue pool h o so absent = none_in (queue h o) (λ t there. absent (is_owned pool h so o t (queued_pushed h o t there)))

pub no_such_stack : (pool : Pool) (h : List Event) (w : ℕ) → AllowedFrom pool [] h → pool.limits.workers ≤ w → stack h w ≡ []
no_such_stack pool h w so absent = none_in (stack h w) (λ t there. let at = stack_apart pool h so t w w there there in absurd (omega (arith, at.1)))
