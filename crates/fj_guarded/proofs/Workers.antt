-- An action leaves a hand with its worker.
use Rattle.std.proofs.Common.{ℕ, ◌≡◌, Bool, true, false, Some, None, inl, inr, ap, sym, ◌∙◌}
use Rattle.std.specs.Prelude.{is_some}
use Rattle.fj_rules.specs.declared.step.Ending.{Ending}
use Rattle.fj_rules.specs.declared.step.Ending.TheVariants as ending
use Rattle.fj_slots.specs.Hands.{HandState, HasOnTop}
use Rattle.fj_body.specs.declared.body.Ask.{Ask}
use Rattle.fj_body.specs.declared.body.Ask.TheVariants as asks
use Rattle.fj_body.specs.declared.body.Heard.TheVariants as hears
use Rattle.fj_body.specs.declared.body.Told.{Told}
use Rattle.fj_body.specs.declared.body.Told.TheVariants as told
use Rattle.fj_body.specs.Stores.{StoreState}
use Rattle.fj_body.specs.Choosing.{Polls, Helps, Joins}
use Rattle.fj_body.specs.Endings.{EndsOk, EndsBody}
use Rattle.fj_body.specs.HookEndings.{EndsHook}
use Rattle.fj_body.specs.Acting.{Acts, ActsInBody, ActsInHook, ActsWhere}

module _ {B : Type 0} where
  -- of two hands that are the same
  as_hand : (hand hand' : HandState B) → hand' ≡ hand → hand'.worker ≡ hand.worker
  as_hand hand hand' is = ap (λ (h : HandState B). h.worker) is

  -- the body on top makes no difference
  below : (hand rest : HandState B) (t : ℕ) (body : B) → HasOnTop hand rest t body → rest.worker ≡ hand.worker
  below hand rest t body on = sym (ap (λ (h : HandState B). h.worker) on.1)

module _ {B K O : Type 0} where
  pub polls_at : (old new : StoreState B K O) (hand hand' : HandState B) (answer : Told B K O) → Polls old hand answer new hand' → hand'.worker ≡ hand.worker
  polls_at old new hand hand' (told.Run t) is = as_hand _ hand' is.1.held
  polls_at old new hand hand' (told.Skip t body) is = as_hand _ hand' is.2
  polls_at old new hand hand' told.None is = as_hand _ hand' is.2
  polls_at old new hand hand' (told.Stuck None) (inl was) = as_hand hand hand' was.1
  polls_at old new hand hand' (told.Stuck None) (inr now) = as_hand _ hand' now.1
  polls_at old new hand hand' (told.Stuck (Some b)) is = absurd is
  polls_at old new hand hand' (told.Hear heard) is = absurd is
  polls_at old new hand hand' (told.Hook a b) is = absurd is
  polls_at old new hand hand' (told.Over b) is = absurd is

  helps_at : (old new : StoreState B K O) (hand hand' : HandState B) (answer : Told B K O) → Helps old hand answer new hand' → hand'.worker ≡ hand.worker
  helps_at old new hand hand' (told.Run t) is = as_hand _ hand' is.1.held
  helps_at old new hand hand' (told.Skip t body) is = as_hand _ hand' is.2
  helps_at old new hand hand' told.None is = as_hand _ hand' is.2
  helps_at old new hand hand' (told.Hear (hears.Refused r)) is = as_hand _ hand' is.2
  helps_at old new hand hand' (told.Stuck None) is = as_hand hand hand' is.1
  helps_at old new hand hand' _ is = absurd is

  joins_at : (old new : StoreState B K O) (hand hand' : HandState B) (t : ℕ) (answer : Told B K O) → Joins old hand t answer new hand' → hand'.worker ≡ hand.worker
  joins_at old new hand hand' t (told.Run u) is = as_hand _ hand' is.1.held
  joins_at old new hand hand' t (told.Skip u body) is = as_hand _ hand' is.2
  joins_at old new hand hand' t told.None is = as_hand _ hand' is.2
  joins_at old new hand hand' t (told.Hear (hears.Got k o)) is = as_hand _ hand' is.2
  joins_at old new hand hand' t (told.Hear hears.Bare) is = as_hand _ hand' is.3
  joins_at old new hand hand' t (told.Hear (hears.Failed code)) is = as_hand _ hand' is.2
  joins_at old new hand hand' t (told.Hear hears.Cancelled) is = as_hand _ hand' is.2
  joins_at old new hand hand' t (told.Hear (hears.Refused r)) is = as_hand _ hand' is.2
  joins_at old new hand hand' t (told.Stuck None) is = as_hand hand hand' is.1
  joins_at old new hand hand' t _ is = absurd is

  ok_at : (key_of : B → K) (old new : StoreState B K O) (hand hand' : HandState B) (out : O) (answer : Told B K O) → EndsOk key_of old hand out answer new hand' → hand'.worker ≡ hand.worker
  ok_at key_of old new hand hand' out (told.Over None) is = below hand hand' is.1.task is.1.body is.1.held
  ok_at key_of old new hand hand' out (told.Hear (hears.Refused r)) is = as_hand hand hand' is.2
  ok_at key_of old new hand hand' out (told.Stuck None) is = as_hand hand hand' is.1
  ok_at key_of old new hand hand' out _ is = absurd is

  body_ends_at : (old new : StoreState B K O) (hand hand' : HandState B) (how : Ending) (answer : Told B K O) → EndsBody old hand how answer new hand' → hand'.worker ≡ hand.worker
  body_ends_at old new hand hand' how (told.Hook c caller) is = as_hand _ hand' is.2.hooked ∙ below hand is.2.rest c is.2.body is.2.held
  body_ends_at old new hand hand' how (told.Over out) is = below hand hand' is.1.task is.1.body is.1.held
  body_ends_at old new hand hand' how (told.Hear (hears.Refused r)) is = as_hand hand hand' is.2
  body_ends_at old new hand hand' how (told.Stuck None) is = as_hand hand hand' is.1
  body_ends_at old new hand hand' how _ is = absurd is

  hook_ends_at : (key_of : B → K) (old new : StoreState B K O) (hand hand' : HandState B) (out : O) (answer : Told B K O) → EndsHook key_of old hand out answer new hand' → hand'.worker ≡ hand.worker
  hook_ends_at key_of old new hand hand' out (told.Hook p caller) is = as_hand _ hand' is.1.hooked
  hook_ends_at key_of old new hand hand' out (told.Over None) is = as_hand _ hand' is.1.emptied
  hook_ends_at key_of old new hand hand' out (told.Hear (hears.Refused r)) is = as_hand hand hand' is.2
  hook_ends_at key_of old new hand hand' out (told.Stuck None) is = as_hand hand hand' is.1
  hook_ends_at key_of old new hand hand' out _ is = absurd is

  body_acts_at : (key_of : B → K) (old new : StoreState B K O) (hand hand' : HandState B) (ask : Ask B K O) (answer : Told B K O) → ActsInBody key_of old hand ask answer new hand' → hand'.worker ≡ hand.worker
  body_acts_at key_of old new hand hand' (asks.Fork body kind) answer is = as_hand hand hand' is.1
  body_acts_at key_of old new hand hand' (asks.Trigger body count) answer is = as_hand hand hand' is.1
  body_acts_at key_of old new hand hand' (asks.Join t) answer is = joins_at old new hand hand' t answer is
  body_acts_at key_of old new hand hand' asks.Help answer is = helps_at old new hand hand' answer is
  body_acts_at key_of old new hand hand' (asks.Take t) answer is = as_hand hand hand' is.1
  body_acts_at key_of old new hand hand' (asks.Release t) answer is = as_hand hand hand' is.1
  body_acts_at key_of old new hand hand' (asks.Add c n) answer is = as_hand hand hand' is.1
  body_acts_at key_of old new hand hand' (asks.QuietRoot t) answer is = as_hand hand hand' is.1
  body_acts_at key_of old new hand hand' (asks.Cancel t) answer is = as_hand hand hand' is.1
  body_acts_at key_of old new hand hand' (asks.Fault t code) answer is = as_hand hand hand' is.1
  body_acts_at key_of old new hand hand' (asks.State t) answer is = as_hand hand hand' is.1
  body_acts_at key_of old new hand hand' (asks.Ok out) answer is = ok_at key_of old new hand hand' out answer is
  body_acts_at key_of old new hand hand' asks.Quiet answer is = body_ends_at old new hand hand' ending.Quiet answer is
  body_acts_at key_of old new hand hand' asks.Try answer is = body_ends_at old new hand hand' ending.Try answer is
  body_acts_at key_of old new hand hand' asks.Pass answer is = body_ends_at old new hand hand' ending.Pass answer is
  body_acts_at key_of old new hand hand' asks.Complete answer is = body_ends_at old new hand hand' ending.Complete answer is
  body_acts_at key_of old new hand hand' (asks.Fail code) answer is = body_ends_at old new hand hand' (ending.Fail code) answer is
  body_acts_at key_of old new hand hand' (asks.HookDone out) answer is = hook_ends_at key_of old new hand hand' out answer is

  hook_acts_at : (key_of : B → K) (old new : StoreState B K O) (hand hand' : HandState B) (ask : Ask B K O) (answer : Told B K O) → ActsInHook key_of old hand ask answer new hand' → hand'.worker ≡ hand.worker
  hook_acts_at key_of old new hand hand' (asks.Take t) answer is = as_hand hand hand' is.1
  hook_acts_at key_of old new hand hand' (asks.HookDone out) answer is = hook_ends_at key_of old new hand hand' out answer is
  hook_acts_at key_of old new hand hand' _ answer is = as_hand hand hand' is.2

  pub acts_at : (key_of : B → K) (old new : StoreState B K O) (hand hand' : HandState B) (ask : Ask B K O) (answer : Told B K O) → Acts key_of old hand ask answer new hand' → hand'.worker ≡ hand.worker
  acts_at key_of old new hand hand' ask answer is = go (is_some hand.hook) is
    where
      go : (hooked : Bool) → ActsWhere hooked key_of old hand ask answer new hand' → hand'.worker ≡ hand.worker
      go true is = hook_acts_at key_of old new hand hand' ask answer is
      go false is = body_acts_at key_of old new hand hand' ask answer is
