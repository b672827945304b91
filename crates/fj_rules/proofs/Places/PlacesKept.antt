-- The place of a task, from the list that it stands in, and what one more event leaves of it.
use Rattle.std.proofs.Common.{ℕ, ◌≡◌, Bool, true, false, not, ◌&&◌, List, [], Option, Some, None, refl, ap, sym, ◌∙◌}
use Rattle.std.proofs.lemmas.Bool.{true≢false}
use Rattle.fj_rules.specs.declared.event.Event.{Event}
use Rattle.fj_rules.specs.declared.owner.Owner.{Owner}
use Rattle.fj_rules.specs.declared.place.Place.TheVariants.{Queued, Held}
use Rattle.fj_rules.specs.Bounds.{Pool}
use Rattle.fj_rules.specs.Lists.{is_in}
use Rattle.fj_rules.specs.Tasks.{is_completer}
use Rattle.fj_rules.specs.Queues.{queue}
use Rattle.fj_rules.specs.Stacks.{stack}
use Rattle.fj_rules.specs.Completers.{is_spent}
use Rattle.fj_rules.specs.Places.{queued_in, held_by, opened, place, place_of}
use Rattle.fj_rules.specs.Allowed.{AllowedFrom}
use Rattle.fj_rules.proofs.Events.Lawful.{pushed_apart, queued_pushed, queued_fresh}
use Rattle.fj_rules.proofs.Places.StacksTaken.{stack_taken}
use Rattle.fj_rules.proofs.Places.GoneTasks.{not_queued, not_held, no_owner}
use Rattle.fj_rules.proofs.Places.OnePlace.{queued_there, held_there, stack_apart, never}

-- the owner in whose queue it is
queued_by : (pool : Pool) (h : List Event) (o : Owner) (t : ℕ) → AllowedFrom pool [] h → is_in t (queue h o) ≡ true → queued_in h t ≡ Some o
queued_by pool h o t so there = go (queued_in h t) refl
  where
    go : (q : Option Owner) → queued_in h t ≡ q → q ≡ Some o
    go None is = absurd (true≢false (sym there ∙ not_queued h o t is))
    go (Some p) is = ap Some (pushed_apart pool h so t p o (queued_pushed h p t (queued_there h t p is)) (queued_pushed h o t there))

held_at : (pool : Pool) (h : List Event) (w t : ℕ) → AllowedFrom pool [] h → is_in t (stack h w) ≡ true → held_by h t ≡ Some w
held_at pool h w t so there = go (held_by h t) refl
  where
    go : (v : Option ℕ) → held_by h t ≡ v → v ≡ Some w
    go None is = absurd (true≢false (sym there ∙ not_held h w t is))
    go (Some v) is = ap Some ((stack_apart pool h so t v w (held_there h t v is) there).0)

pub place_queued : (pool : Pool) (h : List Event) (o : Owner) (t : ℕ) → AllowedFrom pool [] h → is_in t (queue h o) ≡ true → place h t ≡ Queued o
unfolding place
place_queued pool h o t so there = rw (queued_by pool h o t so there) refl

pub place_held : (pool : Pool) (h : List Event) (w t : ℕ) → AllowedFrom pool [] h → is_in t (stack h w) ≡ true → place h t ≡ Held w
unfolding place
place_held pool h w t so there =
    let unqueued : queued_in h t ≡ None =
    no_owner h t (λ o. never (is_in t (queue h o)) (λ queued. true≢false (sym (stack_taken h w t there) ∙ queued_fresh h o t queued))) in
    rw (unqueued, held_at pool h w t so there) refl

-- who is held stands on the stack
pub held_of_place : (h : List Event) (t w : ℕ) → place h t ≡ Held w → is_in t (stack h w) ≡ true
unfolding place
held_of_place h t w at = go (queued_in h t) (held_by h t) (is_completer h t && is_in t (opened h) && not (is_spent h t)) refl at
  where
    go : (q : Option Owner) (v : Option ℕ) (b : Bool) → held_by h t ≡ v → place_of q v b ≡ Held w → is_in t (stack h w) ≡ true
    go (Some o) v b vs at = absurd cc
    go None (Some v) b vs at = let same : v ≡ w = cc in ap (λ u. is_in t (stack h u)) (sym same) ∙ held_there h t v vs
    go None None true vs at = absurd cc
    go None None false vs at = absurd cc
