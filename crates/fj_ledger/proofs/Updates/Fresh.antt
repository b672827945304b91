-- A ledger to which nothing has happened.
use Rattle.std.proofs.Common.{append-nil, ℕ, ◌≡◌, [], get_or, replicate, Option, Some, None, refl, sym, ◌∙◌, arith, zero, suc}
use Rattle.std.proofs.Math.ListN.{length-replicate}
use Rattle.fj_rules.specs.declared.owner.Owner.{Owner}
use Rattle.fj_rules.specs.Bounds.{Pool, IsWithin, queues_in, owner_at}
use Rattle.fj_rules.specs.Tasks.{accepted, tasks, is_kept, live}
use Rattle.fj_rules.specs.Queues.{queue, pushed, left, taken}
use Rattle.fj_rules.specs.Stacks.{stack}
use Rattle.fj_rules.specs.Hooks.{hooks, hand}
use Rattle.fj_rules.specs.Places.{opened, open_tasks, gone, gone_from}
use Rattle.fj_rules.proofs.Completers.Climbed.{climbs_none}
use Rattle.fj_ledger.specs.InHands.{InHand}
use Rattle.fj_ledger.specs.Holds.{Holds}

no_queue : (o : Owner) → queue [] o ≡ []
unfolding queue pushed left taken
no_queue o = refl

no_stack : (w : ℕ) → stack [] w ≡ []
unfolding stack
no_stack w = refl

no_hand : (w : ℕ) → hand [] w ≡ None
unfolding hand hooks
no_hand w = refl

none_accepted : accepted [] ≡ 0
unfolding accepted tasks
none_accepted = refl

none_live : live [] ≡ 0
unfolding live tasks
none_live = refl

none_open : [] ≡ open_tasks []
unfolding open_tasks opened
none_open = refl

none_gone : [] ≡ gone []
unfolding gone gone_from
none_gone = refl

empty_row : {A : Type 0} (n i : ℕ) (d : A) → get_or (replicate {A = A} n d) i d ≡ d
empty_row zero i d = refl
empty_row (suc n) zero d = refl
empty_row (suc n) (suc i) d = empty_row n i d

no_record : {A : Type 0} (i : ℕ) (r : A) → get_or {A = Option A} [] i None ≡ Some r → ⊥
no_record i r is = absurd cc

no_hook : (n i : ℕ) (k : InHand) → get_or (replicate {A = Option InHand} n None) i None ≡ Some k → ⊥
no_hook n i k is = let bad : None ≡ Some k = sym (empty_row n i None) ∙ is in absurd cc

pub fresh_holds : (pool : Pool) → IsWithin pool.limits.workers pool.limits.submitters pool.limits.tasks pool.limits.events
    → Holds pool [] [] (record { lists = replicate (queues_in pool.limits) []; room = pool.limits.tasks }) (record { lists = replicate pool.limits.workers []; room = pool.limits.tasks })
    (replicate pool.limits.workers None) (record { slots = []; made = 0; room = pool.limits.tasks }) [] []
unfolding is_kept tasks hooks
fresh_holds pool within = record {
  within = within;
  lawful = tt;
  climbs = climbs_none;
  sealed_part = record { begins = ([], refl); few = omega arith; left = rw none_accepted (omega arith) };
  fits = omega arith;
  queues_kept = record {
    count = length-replicate (queues_in pool.limits) [];
    room = refl;
    each = λ i inside. empty_row (queues_in pool.limits) i [] ∙ sym (no_queue (owner_at pool.limits i));
  };
  stacks_kept = record {
    count = length-replicate pool.limits.workers [];
    room = refl;
    each = λ w inside. empty_row pool.limits.workers w [] ∙ sym (no_stack w);
  };
  hands_kept = record {
    count = length-replicate pool.limits.workers None;
    each = λ w inside. rw (empty_row {A = Option InHand} pool.limits.workers w None) (sym (no_hand w));
    tells = λ w k is. absurd (no_hook pool.limits.workers w k is);
    one_each = λ w. omega arith;
    once = λ c. omega arith;
    fired = λ c there. absurd cc;
  };
  tree_kept = record {
    made = sym none_accepted;
    room = refl;
    live = sym none_live;
    each = λ key r at. absurd (no_record key r at);
    all = λ t kept. absurd cc;
  };
  open_kept = none_open;
  gone_kept = append-nil (gone []);
}
