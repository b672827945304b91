-- What a running body or a hook asks.
use Rattle.std.specs.Prelude.{◌≡◌, Bool, true, false, Option, Some, None, is_some}
use Rattle.fj_rules.specs.declared.refusal.Refusal.TheVariants.{NotIdle}
use Rattle.fj_rules.specs.declared.step.Ending.TheVariants as ending
use Rattle.fj_rules.specs.declared.step.Step.TheVariants as step
use Rattle.fj_slots.specs.Hands.{HandState}
use Rattle.fj_body.specs.declared.body.Ask.{Ask}
use Rattle.fj_body.specs.declared.body.Ask.TheVariants as asks
use Rattle.fj_body.specs.declared.body.Heard.TheVariants as hears
use Rattle.fj_body.specs.declared.body.Told.{Told}
use Rattle.fj_body.specs.declared.body.Told.TheVariants as told
use Rattle.fj_body.specs.Stores.{StoreState}
use Rattle.fj_body.specs.Accepting.{Accepts}
use Rattle.fj_body.specs.Choosing.{Joins, Helps}
use Rattle.fj_body.specs.Results.{LetsGo, TakesResult}
use Rattle.fj_body.specs.Asking.{Adds, QuietsRoot, Settles, Shows}
use Rattle.fj_body.specs.Endings.{EndsOk, EndsBody}
use Rattle.fj_body.specs.HookEndings.{EndsHook}

module _ {B K O : Type 0} where
  -- the body that comes with an ask, if one does
  abbrev pub body_with : Ask B K O → Option B
  body_with (asks.Fork body kind) = Some body
  body_with (asks.Trigger body count) = Some body
  body_with _ = None

  -- `NotIdle`, with the body that came
  abbrev pub handed_back : Option B → Told B K O
  handed_back (Some body) = told.Hear (hears.Handed body NotIdle)
  handed_back None = told.Hear (hears.Refused NotIdle)

  -- the answer to a hook that asks what only a body may: that, or that the store is stuck
  abbrev pub unserved : Bool → Option B → Told B K O
  unserved true body = told.Stuck body
  unserved false body = handed_back body

  -- the ask is not served, and nothing has changed
  abbrev pub RefusesInHook : StoreState B K O → HandState B → Ask B K O → Told B K O → StoreState B K O → HandState B → Type 0
  RefusesInHook old hand ask answer new hand' = (answer ≡ unserved old.stuck (body_with ask)) × (new ≡ old) × (hand' ≡ hand)

  -- what a running body asks
  abbrev pub ActsInBody : (B → K) → StoreState B K O → HandState B → Ask B K O → Told B K O → StoreState B K O → HandState B → Type 0
  ActsInBody key_of old hand (asks.Fork body kind) answer new hand' = Accepts old (step.Fork hand.worker kind) body answer new × (hand' ≡ hand)
  ActsInBody key_of old hand (asks.Trigger body count) answer new hand' = Accepts old (step.Trigger hand.worker count) body answer new × (hand' ≡ hand)
  ActsInBody key_of old hand (asks.Join t) answer new hand' = Joins old hand t answer new hand'
  ActsInBody key_of old hand asks.Help answer new hand' = Helps old hand answer new hand'
  ActsInBody key_of old hand (asks.Take t) answer new hand' = TakesResult old t answer new × (hand' ≡ hand)
  ActsInBody key_of old hand (asks.Release t) answer new hand' = LetsGo old t answer new × (hand' ≡ hand)
  ActsInBody key_of old hand (asks.Add c n) answer new hand' = Adds old (step.Add hand.worker c n) answer new × (hand' ≡ hand)
  ActsInBody key_of old hand (asks.QuietRoot t) answer new hand' = QuietsRoot old (step.QuietRoot hand.worker t) answer new × (hand' ≡ hand)
  ActsInBody key_of old hand (asks.Cancel t) answer new hand' = Settles old (step.Cancel t) answer new × (hand' ≡ hand)
  ActsInBody key_of old hand (asks.Fault t code) answer new hand' = Settles old (step.Fault t code) answer new × (hand' ≡ hand)
  ActsInBody key_of old hand (asks.State t) answer new hand' = Shows old (step.State t) answer new × (hand' ≡ hand)
  ActsInBody key_of old hand (asks.Ok out) answer new hand' = EndsOk key_of old hand out answer new hand'
  ActsInBody key_of old hand asks.Quiet answer new hand' = EndsBody old hand ending.Quiet answer new hand'
  ActsInBody key_of old hand asks.Try answer new hand' = EndsBody old hand ending.Try answer new hand'
  ActsInBody key_of old hand asks.Pass answer new hand' = EndsBody old hand ending.Pass answer new hand'
  ActsInBody key_of old hand asks.Complete answer new hand' = EndsBody old hand ending.Complete answer new hand'
  ActsInBody key_of old hand (asks.Fail code) answer new hand' = EndsBody old hand (ending.Fail code) answer new hand'
  ActsInBody key_of old hand (asks.HookDone out) answer new hand' = EndsHook key_of old hand out answer new hand'

  -- what a hook asks: only Take and HookDone are served
  abbrev pub ActsInHook : (B → K) → StoreState B K O → HandState B → Ask B K O → Told B K O → StoreState B K O → HandState B → Type 0
  ActsInHook key_of old hand (asks.Take t) answer new hand' = TakesResult old t answer new × (hand' ≡ hand)
  ActsInHook key_of old hand (asks.HookDone out) answer new hand' = EndsHook key_of old hand out answer new hand'
  ActsInHook key_of old hand ask answer new hand' = RefusesInHook old hand ask answer new hand'

  abbrev pub ActsWhere : Bool → (B → K) → StoreState B K O → HandState B → Ask B K O → Told B K O → StoreState B K O → HandState B → Type 0
  ActsWhere true key_of old hand ask answer new hand' = ActsInHook key_of old hand ask answer new hand'
  ActsWhere false key_of old hand ask answer new hand' = ActsInBody key_of old hand ask answer new hand'

  -- one action, which also moves the body
  abbrev pub Acts : (B → K) → StoreState B K O → HandState B → Ask B K O → Told B K O → StoreState B K O → HandState B → Type 0
  Acts key_of old hand ask answer new hand' = ActsWhere (is_some hand.hook) key_of old hand ask answer new hand'
