-- What a call leaves of what the workers hold.
use Rattle.std.specs.Prelude.{ℕ, ◌≡◌, ◌≢◌}
use Rattle.fj_rules.specs.Pasts.{Past}
use Rattle.fj_calls.specs.Hands.{KeepsHand}

-- the pool has changed nothing of the hands of the workers
pub record KeepsHands (old new : Past) : Type 0 where
  pub pool : new.pool ≡ old.pool
  pub hands : (w : ℕ) → KeepsHand w old new

-- the same, except of this worker
pub record KeepsOthers (own : ℕ) (old new : Past) : Type 0 where
  pub pool : new.pool ≡ old.pool
  pub hands : (w : ℕ) → w ≢ own → KeepsHand w old new
