-- What a worker holds, by its hand and by the history.
use Rattle.std.specs.Prelude.{ℕ, ◌≡◌, All, List, [], None, Some, length, map, slice_get}
use Rattle.atomic_table.specs.Seated.{TableId}
use Rattle.fj_agreement.specs.Ends.{EndState}
use Rattle.fj_rules.specs.Pasts.{Past}
use Rattle.fj_rules.specs.Stacks.{stack as held}
use Rattle.fj_rules.specs.Hooks.{hand as hook_of}
use Rattle.fj_slots.specs.Aside.{numbers}
use Rattle.fj_slots.specs.Hands.{HandState, hook_number}
use Rattle.fj_parts.specs.declared.holding.Holding.{Holding}

-- no body and no hook
abbrev pub nothing : Holding
nothing = record { stack = []; hook = None }

-- what a hand holds
abbrev pub holding_of : {B : Type 0} → HandState B → Holding
holding_of hand = record { stack = numbers hand.stack; hook = hook_number hand.hook }

-- what a worker holds by the history
abbrev pub holding_in : Past → ℕ → Holding
holding_in past w = record { stack = held past.events w; hook = hook_of past.events w }

-- ---- a worker and its end

-- each worker has an end, which is of its pair and knows what the worker holds by the history
pub record AreKept (pairs : List TableId) (past : Past) (ends : List (EndState Holding)) : Type 0 where
  pub all : length ends ≡ past.pool.limits.workers
  pub as_many : length pairs ≡ past.pool.limits.workers
  pub each : (w : ℕ) (end : EndState Holding) → slice_get ends w ≡ Some end → (slice_get pairs w ≡ Some end.pair) × (end.value ≡ holding_in past w)

-- a hand, and the pair of its end
pub record TiedState (B : Type 0) : Type 0 where
  pub hand : HandState B
  pub pair : TableId

module _ {B : Type 0} where
  abbrev pub hands_of : List (TiedState B) → List (HandState B)
  hands_of tied = map (λ t. t.hand) tied

  abbrev pub pairs_of : List (TiedState B) → List TableId
  pairs_of tied = map (λ t. t.pair) tied

  -- its end is of the pair of its worker
  abbrev pub IsTied : List TableId → TiedState B → Type 0
  IsTied pairs t = slice_get pairs t.hand.worker ≡ Some t.pair

  -- each hand has an end of a pair, and the other end has the same index, and knows that the hand holds nothing
  pub record AreTied (hands : List (HandState B)) (tied : List (TiedState B)) (ends : List (EndState Holding)) : Type 0 where
    pub hands_are : hands_of tied ≡ hands
    pub pairs_are : map (λ e. e.pair) ends ≡ pairs_of tied
    pub new : All (λ e. e.value ≡ nothing) ends

  -- the end of each hand is of the pair of its worker, and the other one knows what the worker holds by the history
  pub record HaveEnds (past : Past) (tied : List (TiedState B)) (ends : List (EndState Holding)) : Type 0 where
    pub kept : AreKept (pairs_of tied) past ends
    pub each : All (λ t. IsTied (pairs_of tied) t) tied
