-- The running body ends.
use Rattle.std.specs.Prelude.{ℕ, ◌≡◌, ◌⊎◌, Bool, true, false, List, [], ◌∷◌, Option, Some, None}
use Rattle.fj_rules.specs.declared.refusal.Refusal.{Refusal}
use Rattle.fj_rules.specs.declared.refusal.Refusal.TheVariants.{NotIdle, NotRunning, NotCompleter}
use Rattle.fj_rules.specs.declared.step.Ending.{Ending}
use Rattle.fj_rules.specs.declared.step.Ending.TheVariants as ending
use Rattle.fj_rules.specs.declared.step.Step.TheVariants as ask
use Rattle.fj_rules.specs.declared.said.Said.{Said}
use Rattle.fj_rules.specs.declared.said.Said.TheVariants as says
use Rattle.fj_rules.specs.Places.{place, is_gone}
use Rattle.fj_rules.specs.Runs.{Steps}
use Rattle.fj_body.specs.declared.bare_ending.BareEnding.{BareEnding}
use Rattle.fj_body.specs.declared.bare_ending.BareEnding.TheVariants as bare
use Rattle.fj_body.specs.declared.body.Heard.TheVariants as hears
use Rattle.fj_body.specs.declared.body.Told.{Told}
use Rattle.fj_body.specs.declared.body.Told.TheVariants as told
use Rattle.fj_slots.specs.Shelves.{entries, with_entry}
use Rattle.fj_slots.specs.Hands.{HandState, HasOnTop, with_hook}
use Rattle.fj_body.specs.Stores.{StoreState, still_held}
use Rattle.fj_body.specs.Releases.{Releases}
use Rattle.fj_body.specs.Results.{Keeps}
use Rattle.fj_body.specs.Choosing.{Refuses, WasStuck, GetsStuck}

-- a bare ending as the machine knows it
abbrev pub ending_in : BareEnding → Ending
ending_in bare.Quiet = ending.Quiet
ending_in bare.Try = ending.Try
ending_in bare.Pass = ending.Pass
ending_in bare.Complete = ending.Complete
ending_in (bare.Fail code) = ending.Fail code

-- whether a reply to the end of a body or of a hook is no hook and no refusal
abbrev pub is_over : Said → Bool
is_over (says.Hook c) = false
is_over (says.Refused r) = false
is_over _ = true

-- how an ending is refused, by the hook and the bodies of its hand: a running body hears only that its task is of the other kind
abbrev pub end_refusal : {A B : Type 0} → Option A → List B → Refusal
end_refusal (Some hook) bodies = NotIdle
end_refusal None [] = NotRunning
end_refusal None (body ∷ bodies) = NotCompleter

module _ {B K O : Type 0} where
  -- the running task's body ended with a result: it is kept beside the body's key, and what can be is released
  pub record Finishes (key_of : B → K) (old : StoreState B K O) (hand : HandState B) (out : O) (new : StoreState B K O) (hand' : HandState B) : Type 0 where
    pub mid : StoreState B K O
    pub done : StoreState B K O
    pub task : ℕ
    pub body : B
    pub step : Steps old.past (ask.End hand.worker ending.Ok) says.Done mid.past
    pub others : mid ≡ record old { past = mid.past }
    pub held : HasOnTop hand hand' task body
    pub kept : Keeps mid task (key_of body, out) done
    pub releases : Releases done new

  -- the ending Ok. If the history has no room the body hears nothing, and the store is stuck
  abbrev pub EndsOk : (B → K) → StoreState B K O → HandState B → O → Told B K O → StoreState B K O → HandState B → Type 0
  EndsOk key_of old hand out (told.Over None) new hand' = (old.stuck ≡ false) × Finishes key_of old hand out new hand'
  EndsOk key_of old hand out (told.Hear (hears.Refused r)) new hand' =
      (old.stuck ≡ false) × Refuses old (ask.End hand.worker ending.Ok) (says.Refused r) new × (hand' ≡ hand) × (r ≡ end_refusal hand.hook hand.stack)
  EndsOk key_of old hand out (told.Stuck None) new hand' = (WasStuck old new ⊎ GetsStuck old (ask.End hand.worker ending.Ok) new) × (hand' ≡ hand)
  EndsOk key_of old hand out _ new hand' = ⊥

  -- where the body goes when it has ended and no hook began: out, if its task is gone now, and to the store if not
  abbrev pub LeftOver : StoreState B K O → ℕ → B → Option B → StoreState B K O → Type 0
  LeftOver old t body (Some out) mid = (is_gone (place mid.past.events t) ≡ true) × (out ≡ body) × (entries mid.bodies ≡ still_held old mid.past) × (mid ≡ record old { past = mid.past; bodies = mid.bodies })
  LeftOver old t body None mid = (is_gone (place mid.past.events t) ≡ false) × (entries mid.bodies ≡ with_entry (still_held old mid.past) t body) × (mid ≡ record old { past = mid.past; bodies = mid.bodies })

  -- the running body ended, and no hook began; then what can be is released
  pub record EndsOver (old : StoreState B K O) (hand : HandState B) (ending : Ending) (out : Option B) (new : StoreState B K O) (hand' : HandState B) : Type 0 where
    pub mid : StoreState B K O
    pub task : ℕ
    pub body : B
    pub reply : Said
    pub step : Steps old.past (ask.End hand.worker ending) reply mid.past
    pub over : is_over reply ≡ true
    pub held : HasOnTop hand hand' task body
    pub goes : LeftOver old task body out mid
    pub releases : Releases mid new

  -- the running body ended, and the hook of its own task began: the body stays in the hand for it; then what can be is released
  pub record EndsInHook (old : StoreState B K O) (hand : HandState B) (ending : Ending) (t : ℕ) (new : StoreState B K O) (hand' : HandState B) : Type 0 where
    pub mid : StoreState B K O
    pub rest : HandState B
    pub body : B
    pub step : Steps old.past (ask.End hand.worker ending) (says.Hook t) mid.past
    pub held : HasOnTop hand rest t body
    pub hooked : hand' ≡ with_hook rest t body
    pub bodies : entries mid.bodies ≡ still_held old mid.past
    pub others : mid ≡ record old { past = mid.past; bodies = mid.bodies }
    pub releases : Releases mid new

  -- the endings Quiet, Try, Pass, Complete and Fail
  abbrev pub EndsBody : StoreState B K O → HandState B → Ending → Told B K O → StoreState B K O → HandState B → Type 0
  EndsBody old hand ending (told.Hook c caller) new hand' = (old.stuck ≡ false) × (caller ≡ c) × EndsInHook old hand ending c new hand'
  EndsBody old hand ending (told.Over out) new hand' = (old.stuck ≡ false) × EndsOver old hand ending out new hand'
  EndsBody old hand ending (told.Hear (hears.Refused r)) new hand' =
      (old.stuck ≡ false) × Refuses old (ask.End hand.worker ending) (says.Refused r) new × (hand' ≡ hand) × (r ≡ end_refusal hand.hook hand.stack)
  EndsBody old hand ending (told.Stuck None) new hand' = (WasStuck old new ⊎ GetsStuck old (ask.End hand.worker ending) new) × (hand' ≡ hand)
  EndsBody old hand ending _ new hand' = ⊥
