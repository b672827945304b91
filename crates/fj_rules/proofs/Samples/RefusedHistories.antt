-- Small histories that are refused, each by one part of the headline or by the rule for events, so that none of these parts can be weakened unseen.
use Rattle.std.proofs.Common.{◌≡◌, true, sym, [], ◌∷◌, None, refl, arith}
use Rattle.std.proofs.lemmas.Bool.{true≢false}
use Rattle.fj_rules.specs.declared.event.Event.TheVariants as event
use Rattle.fj_rules.specs.declared.event.How.TheVariants as how
use Rattle.fj_rules.specs.declared.owner.Owner.TheVariants.{Sub, Work}
use Rattle.fj_rules.specs.declared.mode.Mode.TheVariants.{Async, Joining}
use Rattle.fj_rules.specs.declared.kind.Kind.TheVariants.{Plain, Completer}
use Rattle.fj_rules.specs.Allowed.{Allowed, is_closed, is_stopped}
use Rattle.fj_rules.specs.Completers.{pending}
use Rattle.fj_rules.specs.Headline.{handed_out, fired, IsHandedOutOnce, IsFiredOnce, FiredAtZero, NoneAfterShutdown, LeftInOrder}
use Rattle.fj_rules.specs.Queues.{pushed, taken, left}
use Rattle.fj_rules.specs.Statuses.{status, status_from}
use Rattle.fj_rules.specs.Tasks.{kind}
use Rattle.fj_rules.proofs.Samples.Scripts.{pool_of}

pub handed_out_twice : IsHandedOutOnce (event.Out 0 0 ∷ event.Out 0 1 ∷ []) → ⊥
unfolding handed_out
handed_out_twice once = omega (arith, once 0)

pub fired_twice : IsFiredOnce (event.Fire 0 how.Zero ∷ event.Fire 0 how.Complete ∷ []) → ⊥
unfolding fired
fired_twice once = omega (arith, once 0)

pub fired_at_one : FiredAtZero (event.Make 0 (Completer true 1 None) ∷ event.Fire 0 how.Zero ∷ []) → ⊥
unfolding pending kind
fired_at_one zero = omega (arith, zero (event.Make 0 (Completer true 1 None) ∷ []) [] 0 refl)

pub submitted_after_shutdown : NoneAfterShutdown (event.Close ∷ event.Acc 0 (Sub 0) Plain ∷ []) → ⊥
unfolding is_closed is_stopped
submitted_after_shutdown none = true≢false (none (event.Close ∷ []) [] 0 0 Plain refl)

pub submitted_after_stop : NoneAfterShutdown (event.Stop ∷ event.Acc 0 (Sub 0) Plain ∷ []) → ⊥
unfolding is_closed is_stopped
submitted_after_stop none = true≢false (none (event.Stop ∷ []) [] 0 0 Plain refl)

pub async_worker_out_of_order : LeftInOrder Async (event.Acc 0 (Work 0) Plain ∷ event.Acc 1 (Work 0) Plain ∷ event.Out 1 0 ∷ []) → ⊥
unfolding pushed taken left
async_worker_out_of_order kept = let e : 1 ∷ (kept (Work 0) refl).0 ≡ 0 ∷ 1 ∷ [] = (kept (Work 0) refl).1 in absurd cc

pub joining_submitter_out_of_order : LeftInOrder Joining (event.Acc 0 (Sub 0) Plain ∷ event.Acc 1 (Sub 0) Plain ∷ event.Out 1 0 ∷ []) → ⊥
unfolding pushed taken left
joining_submitter_out_of_order kept = let e : 1 ∷ (kept (Sub 0) refl).0 ≡ 0 ∷ 1 ∷ [] = (kept (Sub 0) refl).1 in absurd cc

pub done_task_is_not_handed_out : Allowed (pool_of Async 1 1 4 64) (event.Acc 0 (Sub 0) Plain ∷ event.Stop ∷ []) (event.Out 0 0) → ⊥
unfolding status status_from
done_task_is_not_handed_out may = true≢false (sym may.1)
