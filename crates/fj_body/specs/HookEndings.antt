-- A hook ends.
use Rattle.std.specs.Prelude.{ℕ, ◌≡◌, ◌⊎◌, true, false, Some, None}
use Rattle.fj_rules.specs.declared.refusal.Refusal.TheVariants.{NotRunning}
use Rattle.fj_rules.specs.declared.step.Step.TheVariants as ask
use Rattle.fj_rules.specs.declared.said.Said.{Said}
use Rattle.fj_rules.specs.declared.said.Said.TheVariants as says
use Rattle.fj_rules.specs.Runs.{Steps}
use Rattle.fj_body.specs.declared.body.Heard.TheVariants as hears
use Rattle.fj_body.specs.declared.body.Told.{Told}
use Rattle.fj_body.specs.declared.body.Told.TheVariants as told
use Rattle.fj_slots.specs.Shelves.{entries, without_entry}
use Rattle.fj_slots.specs.Hands.{HandState, with_hook, without_hook}
use Rattle.fj_body.specs.Stores.{StoreState, still_held}
use Rattle.fj_body.specs.Releases.{Releases}
use Rattle.fj_body.specs.Results.{Keeps}
use Rattle.fj_body.specs.Choosing.{Refuses, WasStuck, GetsStuck}
use Rattle.fj_body.specs.Endings.{is_over}

module _ {B K O : Type 0} where
  -- the hook ended with a result, and no other began: the result is kept beside the body's key; then what can be is released
  pub record EndsHookOver (key_of : B → K) (old : StoreState B K O) (hand : HandState B) (out : O) (new : StoreState B K O) (hand' : HandState B) : Type 0 where
    pub mid : StoreState B K O
    pub done : StoreState B K O
    pub task : ℕ
    pub body : B
    pub reply : Said
    pub step : Steps old.past (ask.HookDone hand.worker) reply mid.past
    pub over : is_over reply ≡ true
    pub held : hand.hook ≡ Some (task, body)
    pub emptied : hand' ≡ without_hook hand
    pub bodies : entries mid.bodies ≡ still_held old mid.past
    pub others : mid ≡ record old { past = mid.past; bodies = mid.bodies }
    pub kept : Keeps mid task (key_of body, out) done
    pub releases : Releases done new

  -- the hook ended with a result, and the parent's began: the parent's body goes from the store to the hand, for its hook
  pub record EndsHookInHook (key_of : B → K) (old : StoreState B K O) (hand : HandState B) (out : O) (p task : ℕ) (new : StoreState B K O) (hand' : HandState B) : Type 0 where
    pub mid : StoreState B K O
    pub done : StoreState B K O
    pub body : B
    pub above : B
    pub step : Steps old.past (ask.HookDone hand.worker) (says.Hook p) mid.past
    pub held : hand.hook ≡ Some (task, body)
    pub there : entries old.bodies p ≡ Some above
    pub hooked : hand' ≡ with_hook hand p above
    pub bodies : entries mid.bodies ≡ without_entry (still_held old mid.past) p
    pub others : mid ≡ record old { past = mid.past; bodies = mid.bodies }
    pub kept : Keeps mid task (key_of body, out) done
    pub releases : Releases done new

  -- the end of a hook
  abbrev pub EndsHook : (B → K) → StoreState B K O → HandState B → O → Told B K O → StoreState B K O → HandState B → Type 0
  EndsHook key_of old hand out (told.Hook p caller) new hand' = (old.stuck ≡ false) × EndsHookInHook key_of old hand out p caller new hand'
  EndsHook key_of old hand out (told.Over None) new hand' = (old.stuck ≡ false) × EndsHookOver key_of old hand out new hand'
  EndsHook key_of old hand out (told.Hear (hears.Refused r)) new hand' =
      (old.stuck ≡ false) × Refuses old (ask.HookDone hand.worker) (says.Refused r) new × (hand' ≡ hand) × (r ≡ NotRunning)
  EndsHook key_of old hand out (told.Stuck None) new hand' = (WasStuck old new ⊎ GetsStuck old (ask.HookDone hand.worker) new) × (hand' ≡ hand)
  EndsHook key_of old hand out _ new hand' = ⊥
