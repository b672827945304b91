-- An action, and a poll, answers that the store is stuck only where it is; and which answers a poll and a join have.
use Rattle.std.proofs.Common.{ℕ, ◌≡◌, Bool, true, false, Option, Some, None, inl, inr, refl, ap, ◌∙◌}
use Rattle.std.specs.Prelude.{◌⊎◌, is_some}
use Rattle.fj_rules.specs.declared.step.Step.{Step}
use Rattle.fj_slots.specs.Hands.{HandState}
use Rattle.fj_body.specs.declared.body.Ask.{Ask}
use Rattle.fj_body.specs.declared.body.Ask.TheVariants as asks
use Rattle.fj_body.specs.declared.body.Heard.{Heard}
use Rattle.fj_body.specs.declared.body.Told.{Told}
use Rattle.fj_body.specs.declared.body.Told.TheVariants as told
use Rattle.fj_body.specs.Acting.{Acts, ActsInBody, ActsInHook, ActsWhere, body_with, unserved}
use Rattle.fj_body.specs.Choosing.{GetsStuck, Polls, WasStuck}
use Rattle.fj_body.specs.Stores.{StoreState}

module _ {B K O : Type 0} where
  was : (old new : StoreState B K O) → old.stuck ≡ true → new ≡ old → new.stuck ≡ true
  was old new stuck same = ap (λ (s : StoreState B K O). s.stuck) same ∙ stuck

  gets : (old new : StoreState B K O) (asked : Step) → WasStuck old new ⊎ GetsStuck old asked new → new.stuck ≡ true
  gets old new asked (inl is) = was old new is.0 is.1
  gets old new asked (inr is) = ap (λ (s : StoreState B K O). s.stuck) is.2

  unserved_stuck : (stuck : Bool) (handed body : Option B) → ◌≡◌ {A = Told B K O} (told.Stuck body) (unserved stuck handed) → stuck ≡ true
  unserved_stuck true handed body is = refl
  unserved_stuck false (Some x) body is = absurd (cc)
  unserved_stuck false None body is = absurd (cc)

  body_stuck : (key_of : B → K) (old new : StoreState B K O) (hand hand' : HandState B) (ask : Ask B K O) (body : Option B) → ActsInBody key_of old hand ask (told.Stuck body) new hand' → new.stuck ≡ true
  body_stuck key_of old new hand hand' (asks.Fork b kind) (Some x) is = was old new is.0.0 is.0.2
  body_stuck key_of old new hand hand' (asks.Trigger b count) (Some x) is = was old new is.0.0 is.0.2
  body_stuck key_of old new hand hand' (asks.Fork b kind) None is = absurd is.0
  body_stuck key_of old new hand hand' (asks.Trigger b count) None is = absurd is.0
  body_stuck key_of old new hand hand' (asks.Take t) None is = was old new is.0.0 is.0.1
  body_stuck key_of old new hand hand' (asks.Release t) None is = was old new is.0.0 is.0.1
  body_stuck key_of old new hand hand' (asks.Add c n) None is = was old new is.0.0 is.0.1
  body_stuck key_of old new hand hand' (asks.QuietRoot t) None is = was old new is.0.0 is.0.1
  body_stuck key_of old new hand hand' (asks.Cancel t) None is = was old new is.0.0 is.0.1
  body_stuck key_of old new hand hand' (asks.Fault t code) None is = was old new is.0.0 is.0.1
  body_stuck key_of old new hand hand' (asks.State t) None is = was old new is.0.0 is.0.1
  body_stuck key_of old new hand hand' (asks.Join t) None is = was old new is.0.0 is.0.1
  body_stuck key_of old new hand hand' asks.Help None is = was old new is.0.0 is.0.1
  body_stuck key_of old new hand hand' (asks.Ok out) None is = gets old new _ is.0
  body_stuck key_of old new hand hand' asks.Quiet None is = gets old new _ is.0
  body_stuck key_of old new hand hand' asks.Try None is = gets old new _ is.0
  body_stuck key_of old new hand hand' asks.Pass None is = gets old new _ is.0
  body_stuck key_of old new hand hand' asks.Complete None is = gets old new _ is.0
  body_stuck key_of old new hand hand' (asks.Fail code) None is = gets old new _ is.0
  body_stuck key_of old new hand hand' (asks.HookDone out) None is = gets old new _ is.0
  body_stuck key_of old new hand hand' (asks.Take t) (Some x) is = absurd is.0
  body_stuck key_of old new hand hand' (asks.Release t) (Some x) is = absurd is.0
  body_stuck key_of old new hand hand' (asks.Add c n) (Some x) is = absurd is.0
  body_stuck key_of old new hand hand' (asks.QuietRoot t) (Some x) is = absurd is.0
  body_stuck key_of old new hand hand' (asks.Cancel t) (Some x) is = absurd is.0
  body_stuck key_of old new hand hand' (asks.Fault t code) (Some x) is = absurd is.0
  body_stuck key_of old new hand hand' (asks.State t) (Some x) is = absurd is.0
  body_stuck key_of old new hand hand' (asks.Join t) (Some x) is = absurd is
  body_stuck key_of old new hand hand' asks.Help (Some x) is = absurd is
  body_stuck key_of old new hand hand' (asks.Ok out) (Some x) is = absurd is
  body_stuck key_of old new hand hand' asks.Quiet (Some x) is = absurd is
  body_stuck key_of old new hand hand' asks.Try (Some x) is = absurd is
  body_stuck key_of old new hand hand' asks.Pass (Some x) is = absurd is
  body_stuck key_of old new hand hand' asks.Complete (Some x) is = absurd is
  body_stuck key_of old new hand hand' (asks.Fail code) (Some x) is = absurd is
  body_stuck key_of old new hand hand' (asks.HookDone out) (Some x) is = absurd is

  hook_stuck : (key_of : B → K) (old new : StoreState B K O) (hand hand' : HandState B) (ask : Ask B K O) (body : Option B) → ActsInHook key_of old hand ask (told.Stuck body) new hand' → new.stuck ≡ true
  hook_stuck key_of old new hand hand' (asks.Take t) None is = was old new is.0.0 is.0.1
  hook_stuck key_of old new hand hand' (asks.Take t) (Some x) is = absurd is.0
  hook_stuck key_of old new hand hand' (asks.HookDone out) None is = gets old new _ is.0
  hook_stuck key_of old new hand hand' (asks.HookDone out) (Some x) is = absurd is
  hook_stuck key_of old new hand hand' ask body is = was old new (unserved_stuck old.stuck (body_with ask) body is.0) is.1

  pub acts_stuck : (key_of : B → K) (old new : StoreState B K O) (hand hand' : HandState B) (ask : Ask B K O) (body : Option B) → Acts key_of old hand ask (told.Stuck body) new hand' → new.stuck ≡ true
  acts_stuck key_of old new hand hand' ask body is = go (is_some hand.hook) is
    where
      go : (hooked : Bool) → ActsWhere hooked key_of old hand ask (told.Stuck body) new hand' → new.stuck ≡ true
      go true is = hook_stuck key_of old new hand hand' ask body is
      go false is = body_stuck key_of old new hand hand' ask body is

  pub polls_stuck : (old new : StoreState B K O) (hand hand' : HandState B) (body : Option B) → Polls old hand (told.Stuck body) new hand' → new.stuck ≡ true
  polls_stuck old new hand hand' None (inl is) = was old new is.0.0 is.0.1
  polls_stuck old new hand hand' None (inr is) = gets old new _ (inr is.0)
  polls_stuck old new hand hand' (Some x) is = absurd is

  -- these are all answers that a poll has
  pub polls_only : (old new : StoreState B K O) (hand hand' : HandState B) (answer : Told B K O) → ((t : ℕ) → answer ≡ told.Run t → ⊥) → ((t : ℕ) (body : B) → answer ≡ told.Skip t body → ⊥)
      → (answer ≡ told.None → ⊥) → ((body : Option B) → answer ≡ told.Stuck body → ⊥) → Polls old hand answer new hand' → ⊥
  polls_only old new hand hand' (told.Run t) run skip none stuck is = run t refl
  polls_only old new hand hand' (told.Skip t body) run skip none stuck is = skip t body refl
  polls_only old new hand hand' told.None run skip none stuck is = none refl
  polls_only old new hand hand' (told.Stuck body) run skip none stuck is = stuck body refl
  polls_only old new hand hand' _ run skip none stuck is = is

  -- and a join
  pub joins_only : (key_of : B → K) (old new : StoreState B K O) (hand hand' : HandState B) (t : ℕ) (answer : Told B K O) → ((heard : Heard B K O) → answer ≡ told.Hear heard → ⊥)
      → ((u : ℕ) → answer ≡ told.Run u → ⊥) → ((u : ℕ) (body : B) → answer ≡ told.Skip u body → ⊥) → (answer ≡ told.None → ⊥) → ((body : Option B) → answer ≡ told.Stuck body → ⊥)
      → Acts key_of old hand (asks.Join t) answer new hand' → ⊥
  joins_only key_of old new hand hand' t (told.Hear heard) hear run skip none stuck is = hear heard refl
  joins_only key_of old new hand hand' t (told.Run u) hear run skip none stuck is = run u refl
  joins_only key_of old new hand hand' t (told.Skip u body) hear run skip none stuck is = skip u body refl
  joins_only key_of old new hand hand' t told.None hear run skip none stuck is = none refl
  joins_only key_of old new hand hand' t (told.Stuck body) hear run skip none stuck is = stuck body refl
  joins_only key_of old new hand hand' t (told.Over body) hear run skip none stuck is = go (is_some hand.hook) old.stuck is
    where
      go : (hooked stuck : Bool) → ActsWhere hooked key_of (record old { stuck = stuck }) hand (asks.Join t) (told.Over body) new hand' → ⊥
      go true true (is, same, held) = cc
      go true false (is, same, held) = cc
      go false stuck is = is
  joins_only key_of old new hand hand' t (told.Hook c caller) hear run skip none stuck is = go (is_some hand.hook) old.stuck is
    where
      go : (hooked stuck : Bool) → ActsWhere hooked key_of (record old { stuck = stuck }) hand (asks.Join t) (told.Hook c caller) new hand' → ⊥
      go true true (is, same, held) = cc
      go true false (is, same, held) = cc
      go false stuck is = is
