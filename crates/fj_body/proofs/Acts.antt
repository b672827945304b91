-- What each action of a body leaves of the store and of the hands, and what a stuck store answers.
use Rattle.std.proofs.Common.{ℕ, ◌≡◌, Bool, true, false, inl, inr, Option, Some, None, refl, ap, sym, ◌∙◌, subst}
use Rattle.std.specs.Prelude.{◌⊎◌, is_some}
use Rattle.fj_rules.specs.declared.refusal.Refusal.TheVariants.{Unknown, NotDone}
use Rattle.fj_rules.specs.declared.step.Ending.{Ending}
use Rattle.fj_rules.specs.declared.step.Ending.TheVariants as ending
use Rattle.fj_rules.specs.declared.step.Step.{Step}
use Rattle.fj_rules.specs.declared.step.Step.TheVariants as step
use Rattle.fj_rules.specs.declared.said.Said.{Said}
use Rattle.fj_rules.specs.declared.said.Said.TheVariants as says
use Rattle.fj_rules.specs.Runs.{Steps}
use Rattle.fj_slots.specs.Hands.{HandState, hook_number, with_next_word}
use Rattle.fj_body.specs.declared.body.Ask.{Ask}
use Rattle.fj_body.specs.declared.body.Ask.TheVariants as asks
use Rattle.fj_body.specs.declared.body.Heard.TheVariants as hears
use Rattle.fj_body.specs.declared.body.Told.{Told}
use Rattle.fj_body.specs.declared.body.Told.TheVariants as told
use Rattle.fj_body.specs.Stores.{StoreState, StaysInside}
use Rattle.fj_body.specs.Releases.{Releases}
use Rattle.fj_body.specs.Accepting.{Accepts}
use Rattle.fj_body.specs.Choosing.{WasStuck, GetsStuck, Helps, Joins}
use Rattle.fj_body.specs.Results.{Keeps, KeepsUnless, LetsGo, TakesOut, TakesResult, Marks}
use Rattle.fj_body.specs.Asking.{Drops, Adds, QuietsRoot, Settles, Shows}
use Rattle.fj_body.specs.Endings.{EndsOk, EndsBody, LeftOver}
use Rattle.fj_body.specs.HookEndings.{EndsHook}
use Rattle.fj_body.specs.Acting.{ActsInBody, ActsInHook, ActsWhere, Acts, body_with}
use Rattle.fj_rules.specs.Inside.{is_outside_step}
use Rattle.fj_body.proofs.Frames.{same_past_stays, same_stays, then_stays, step_stays, sticks_stay, releases_stay, hands_out_stays, skips_stay, moves_stay}
use Rattle.fj_rules.proofs.Steps.KeepsHands.{KeepsHands, is_bare, step_keeps, releases_keep, same_keeps, then_keeps}

-- a hook is there where its number is
pub hook_there : {B : Type 0} (hook : Option (ℕ × B)) → is_some hook ≡ is_some (hook_number hook)
hook_there None = refl
hook_there (Some k) = refl

module _ {B K O : Type 0} where
  -- what an action that moves no body of a hand leaves
  pub record Leaves (old new : StoreState B K O) : Type 0 where
    pub inside : StaysInside old new
    pub hands : KeepsHands old.past new.past

  -- a store with the same past, stuck as it was
  aside_stays : (old new : StoreState B K O) → new.past ≡ old.past → new.stuck ≡ old.stuck → Leaves old new
  aside_stays old new same stuck = record {
    inside = same_past_stays old new same (λ is. sym stuck ∙ is);
    hands = subst (KeepsHands old.past) (sym same) (same_keeps old.past);
  }

  pub same_leaves : (old new : StoreState B K O) → new ≡ old → Leaves old new
  same_leaves old new same = aside_stays old new (ap (λ s. s.past) same) (ap (λ s. s.stuck) same)

  then_leaves : (a b c : StoreState B K O) → Leaves a b → Leaves b c → Leaves a c
  then_leaves a b c ab bc = record { inside = then_stays a b c ab.inside bc.inside; hands = then_keeps a.past b.past c.past ab.hands bc.hands }

  releases_leave : (old new : StoreState B K O) → Releases old new → Leaves old new
  releases_leave old new r = record {
    inside = releases_stay old new r;
    hands = subst (KeepsHands old.past) (sym (ap (λ s. s.past) r.were)) (releases_keep old.past r.tasks);
  }

  step_leaves : (old new : StoreState B K O) (asked : Step) (reply : Said) → is_outside_step asked ≡ false → is_bare asked ≡ true
      → Steps old.past asked reply new.past → new.stuck ≡ old.stuck → Leaves old new
  step_leaves old new asked reply inside bare made stuck = record {
    inside = step_stays old new asked reply inside made stuck;
    hands = step_keeps old.past new.past asked reply bare made;
  }

  pub drops_stay : (old new : StoreState B K O) (asked : Step) (reply : Said) → is_outside_step asked ≡ false → is_bare asked ≡ true → Drops old asked reply new → Leaves old new
  drops_stay old new asked reply inside bare is =
      then_leaves old is.mid new (step_leaves old is.mid asked reply inside bare is.step (ap (λ s. s.stuck) is.others)) (releases_leave is.mid new is.releases)

  -- ---- asks that move no body of the hand

  pub accepts_leave : (old new : StoreState B K O) (asked : Step) (body : B) (answer : Told B K O) → is_outside_step asked ≡ false → is_bare asked ≡ true
      → Accepts old asked body answer new → Leaves old new
  accepts_leave old new asked body (told.Hear (hears.Task t)) inside bare is = step_leaves old new asked (says.Task t) inside bare is.1 (ap (λ s. s.stuck) is.3)
  accepts_leave old new asked body (told.Hear (hears.Handed b r)) inside bare is = same_leaves old new is.3
  accepts_leave old new asked body (told.Stuck (Some b)) inside bare is = same_leaves old new is.2
  accepts_leave old new asked body _ inside bare is = absurd is

  pub adds_leave : (old new : StoreState B K O) (asked : Step) (answer : Told B K O) → is_outside_step asked ≡ false → is_bare asked ≡ true
      → Adds old asked answer new → Leaves old new
  adds_leave old new asked (told.Hear (hears.Count n)) inside bare is = drops_stay old new asked (says.Count n) inside bare is.1
  adds_leave old new asked (told.Hear (hears.Refused r)) inside bare is = same_leaves old new is.1.1
  adds_leave old new asked (told.Stuck None) inside bare is = same_leaves old new is.1
  adds_leave old new asked _ inside bare is = absurd is

  pub quiets_leave : (old new : StoreState B K O) (asked : Step) (answer : Told B K O) → is_outside_step asked ≡ false → is_bare asked ≡ true
      → QuietsRoot old asked answer new → Leaves old new
  quiets_leave old new asked (told.Hear hears.Went) inside bare is = drops_stay old new asked is.1 inside bare is.2
  quiets_leave old new asked (told.Hear (hears.Refused r)) inside bare is = same_leaves old new is.1.1
  quiets_leave old new asked (told.Stuck None) inside bare is = same_leaves old new is.1
  quiets_leave old new asked _ inside bare is = absurd is

  pub settles_leave : (old new : StoreState B K O) (asked : Step) (answer : Told B K O) → is_outside_step asked ≡ false → is_bare asked ≡ true
      → Settles old asked answer new → Leaves old new
  settles_leave old new asked (told.Hear hears.Yes) inside bare is = drops_stay old new asked says.Yes inside bare is.1
  settles_leave old new asked (told.Hear hears.No) inside bare is = drops_stay old new asked says.No inside bare is.1
  settles_leave old new asked (told.Hear (hears.Refused r)) inside bare is = same_leaves old new is.1.1
  settles_leave old new asked (told.Stuck None) inside bare is = same_leaves old new is.1
  settles_leave old new asked _ inside bare is = absurd is

  pub shows_leave : (old new : StoreState B K O) (asked : Step) (answer : Told B K O) → is_outside_step asked ≡ false → is_bare asked ≡ true
      → Shows old asked answer new → Leaves old new
  shows_leave old new asked (told.Hear (hears.Is p s)) inside bare is = step_leaves old new asked (says.State p s) inside bare is.1.0 (ap (λ s. s.stuck) is.1.1)
  shows_leave old new asked (told.Hear (hears.Refused r)) inside bare is = same_leaves old new is.1.1
  shows_leave old new asked (told.Stuck None) inside bare is = same_leaves old new is.1
  shows_leave old new asked _ inside bare is = absurd is

  marks_leave : (old new : StoreState B K O) (t : ℕ) → Marks old t new → Leaves old new
  marks_leave old new t is = aside_stays old new (ap (λ s. s.past) is.1) (ap (λ s. s.stuck) is.1)

  pub takes_leave : (old new : StoreState B K O) (t : ℕ) (answer : Told B K O) → TakesResult old t answer new → Leaves old new
  takes_leave old new t (told.Hear (hears.Got k o)) is = then_leaves old is.mid new (marks_leave old is.mid t is.marks) (releases_leave is.mid new is.releases)
  takes_leave old new t (told.Hear (hears.Refused Unknown)) is = same_leaves old new is.2
  takes_leave old new t (told.Hear (hears.Refused NotDone)) is = same_leaves old new is.3
  takes_leave old new t (told.Stuck None) is = same_leaves old new is.1
  takes_leave old new t _ is = absurd is

  pub lets_leave : (old new : StoreState B K O) (t : ℕ) (answer : Told B K O) → LetsGo old t answer new → Leaves old new
  lets_leave old new t (told.Hear hears.Went) is = then_leaves old is.mid new (marks_leave old is.mid t is.marks) (releases_leave is.mid new is.releases)
  lets_leave old new t (told.Hear (hears.Refused r)) is = same_leaves old new is.3
  lets_leave old new t (told.Stuck None) is = same_leaves old new is.1
  lets_leave old new t _ is = absurd is

  -- ---- asks that move one

  pub helps_stay : (old new : StoreState B K O) (hand hand' : HandState B) (answer : Told B K O) → Helps old hand answer new hand' → StaysInside old new
  helps_stay old new hand hand' (told.Run t) is = hands_out_stays old new (with_next_word hand) hand' (step.Help hand.worker hand.word) t refl is.1
  helps_stay old new hand hand' (told.Skip t body) is = skips_stay old new (step.Help hand.worker hand.word) t body refl is.1
  helps_stay old new hand hand' told.None is = moves_stay old new (step.Help hand.worker hand.word) _ refl is.1
  helps_stay old new hand hand' (told.Hear (hears.Refused r)) is = same_stays old new is.1.1
  helps_stay old new hand hand' (told.Stuck None) is = same_stays old new is.0.1
  helps_stay old new hand hand' _ is = absurd is

  takes_out_stays : (old new : StoreState B K O) (t : ℕ) (kept : K × O) → TakesOut old t (Some kept) new → StaysInside old new
  takes_out_stays old new t kept is = (marks_leave old new t is.1).inside

  pub joins_stay : (old new : StoreState B K O) (hand hand' : HandState B) (t : ℕ) (answer : Told B K O) → Joins old hand t answer new hand' → StaysInside old new
  joins_stay old new hand hand' t (told.Run u) is = hands_out_stays old new (with_next_word hand) hand' (step.Join hand.worker t hand.word) u refl is.1
  joins_stay old new hand hand' t (told.Skip u body) is = skips_stay old new (step.Join hand.worker t hand.word) u body refl is.1
  joins_stay old new hand hand' t told.None is = moves_stay old new (step.Join hand.worker t hand.word) _ refl is.1
  joins_stay old new hand hand' t (told.Hear (hears.Got k o)) is =
      let gives = is.1 in
      then_stays old gives.mid new (moves_stay old gives.mid (step.Join hand.worker t hand.word) _ refl gives.step)
      (then_stays gives.mid gives.out new (takes_out_stays gives.mid gives.out t (k, o) gives.takes) (releases_stay gives.out new gives.releases))
  joins_stay old new hand hand' t (told.Hear hears.Bare) is = moves_stay old new (step.Join hand.worker t hand.word) _ refl is.1
  joins_stay old new hand hand' t (told.Hear (hears.Failed code)) is = moves_stay old new (step.Join hand.worker t hand.word) _ refl is.1
  joins_stay old new hand hand' t (told.Hear hears.Cancelled) is = moves_stay old new (step.Join hand.worker t hand.word) _ refl is.1
  joins_stay old new hand hand' t (told.Hear (hears.Refused r)) is = same_stays old new is.1.1
  joins_stay old new hand hand' t (told.Stuck None) is = same_stays old new is.0.1
  joins_stay old new hand hand' t _ is = absurd is

  -- it was stuck, or is now
  stuck_stays : (old new : StoreState B K O) (asked : Step) → WasStuck old new ⊎ GetsStuck old asked new → StaysInside old new
  stuck_stays old new asked (inl was) = same_stays old new was.1
  stuck_stays old new asked (inr now) = sticks_stay old new now.0 (ap (λ s. s.past) now.2)

  keeps_stay : (taken : Bool) (old new : StoreState B K O) (t : ℕ) (kept : K × O) → KeepsUnless taken old t kept new → StaysInside old new
  keeps_stay true old new t kept is = same_stays old new is
  keeps_stay false old new t kept is = (aside_stays old new (ap (λ s. s.past) is.1) (ap (λ s. s.stuck) is.1)).inside

  -- a step, a result that is kept, and the releases
  ends_stay : (old mid done new : StoreState B K O) (asked : Step) (reply : Said) (t : ℕ) (kept : K × O) → is_outside_step asked ≡ false → Steps old.past asked reply mid.past → mid.stuck ≡ old.stuck
      → Keeps mid t kept done → Releases done new → StaysInside old new
  ends_stay old mid done new asked reply t kept inside made stuck keeps releases =
      then_stays old mid new (step_stays old mid asked reply inside made stuck) (then_stays mid done new (keeps_stay _ mid done t kept keeps) (releases_stay done new releases))

  pub ok_stays : (key_of : B → K) (old new : StoreState B K O) (hand hand' : HandState B) (out : O) (answer : Told B K O) → EndsOk key_of old hand out answer new hand' → StaysInside old new
  ok_stays key_of old new hand hand' out (told.Over None) is =
      let ends = is.1 in
      ends_stay old ends.mid ends.done new (step.End hand.worker ending.Ok) _ ends.task _ refl ends.step (ap (λ s. s.stuck) ends.others) ends.kept ends.releases
  ok_stays key_of old new hand hand' out (told.Hear (hears.Refused r)) is = same_stays old new is.1.1
  ok_stays key_of old new hand hand' out (told.Stuck None) is = stuck_stays old new (step.End hand.worker ending.Ok) is.0
  ok_stays key_of old new hand hand' out _ is = absurd is

  left_stuck : (old mid : StoreState B K O) (t : ℕ) (body : B) (out : Option B) → LeftOver old t body out mid → mid.stuck ≡ old.stuck
  left_stuck old mid t body (Some out) is = ap (λ s. s.stuck) is.3
  left_stuck old mid t body None is = ap (λ s. s.stuck) is.2

  pub body_ends_stay : (old new : StoreState B K O) (hand hand' : HandState B) (how : Ending) (answer : Told B K O) → EndsBody old hand how answer new hand' → StaysInside old new
  body_ends_stay old new hand hand' how (told.Hook c caller) is =
      let ends = is.2 in
      then_stays old ends.mid new (step_stays old ends.mid (step.End hand.worker how) _ refl ends.step (ap (λ s. s.stuck) ends.others)) (releases_stay ends.mid new ends.releases)
  body_ends_stay old new hand hand' how (told.Over out) is =
      let ends = is.1 in
      then_stays old ends.mid new (step_stays old ends.mid (step.End hand.worker how) ends.reply refl ends.step (left_stuck old ends.mid ends.task ends.body out ends.goes))
      (releases_stay ends.mid new ends.releases)
  body_ends_stay old new hand hand' how (told.Hear (hears.Refused r)) is = same_stays old new is.1.1
  body_ends_stay old new hand hand' how (told.Stuck None) is = stuck_stays old new (step.End hand.worker how) is.0
  body_ends_stay old new hand hand' how _ is = absurd is

  pub hook_ends_stay : (key_of : B → K) (old new : StoreState B K O) (hand hand' : HandState B) (out : O) (answer : Told B K O)
      → EndsHook key_of old hand out answer new hand' → StaysInside old new
  hook_ends_stay key_of old new hand hand' out (told.Hook p caller) is =
      let ends = is.1 in
      ends_stay old ends.mid ends.done new (step.HookDone hand.worker) _ caller _ refl ends.step (ap (λ s. s.stuck) ends.others) ends.kept ends.releases
  hook_ends_stay key_of old new hand hand' out (told.Over None) is =
      let ends = is.1 in
      ends_stay old ends.mid ends.done new (step.HookDone hand.worker) ends.reply ends.task _ refl ends.step (ap (λ s. s.stuck) ends.others) ends.kept ends.releases
  hook_ends_stay key_of old new hand hand' out (told.Hear (hears.Refused r)) is = same_stays old new is.1.1
  hook_ends_stay key_of old new hand hand' out (told.Stuck None) is = stuck_stays old new (step.HookDone hand.worker) is.0
  hook_ends_stay key_of old new hand hand' out _ is = absurd is

  -- ---- each ask

  pub body_acts_stay : (key_of : B → K) (old new : StoreState B K O) (hand hand' : HandState B) (ask : Ask B K O) (answer : Told B K O)
      → ActsInBody key_of old hand ask answer new hand' → StaysInside old new
  body_acts_stay key_of old new hand hand' (asks.Fork body kind) answer is = (accepts_leave old new (step.Fork hand.worker kind) body answer refl refl is.0).inside
  body_acts_stay key_of old new hand hand' (asks.Trigger body count) answer is = (accepts_leave old new (step.Trigger hand.worker count) body answer refl refl is.0).inside
  body_acts_stay key_of old new hand hand' (asks.Join t) answer is = joins_stay old new hand hand' t answer is
  body_acts_stay key_of old new hand hand' asks.Help answer is = helps_stay old new hand hand' answer is
  body_acts_stay key_of old new hand hand' (asks.Take t) answer is = (takes_leave old new t answer is.0).inside
  body_acts_stay key_of old new hand hand' (asks.Release t) answer is = (lets_leave old new t answer is.0).inside
  body_acts_stay key_of old new hand hand' (asks.Add c n) answer is = (adds_leave old new (step.Add hand.worker c n) answer refl refl is.0).inside
  body_acts_stay key_of old new hand hand' (asks.QuietRoot t) answer is = (quiets_leave old new (step.QuietRoot hand.worker t) answer refl refl is.0).inside
  body_acts_stay key_of old new hand hand' (asks.Cancel t) answer is = (settles_leave old new (step.Cancel t) answer refl refl is.0).inside
  body_acts_stay key_of old new hand hand' (asks.Fault t code) answer is = (settles_leave old new (step.Fault t code) answer refl refl is.0).inside
  body_acts_stay key_of old new hand hand' (asks.State t) answer is = (shows_leave old new (step.State t) answer refl refl is.0).inside
  body_acts_stay key_of old new hand hand' (asks.Ok out) answer is = ok_stays key_of old new hand hand' out answer is
  body_acts_stay key_of old new hand hand' asks.Quiet answer is = body_ends_stay old new hand hand' ending.Quiet answer is
  body_acts_stay key_of old new hand hand' asks.Try answer is = body_ends_stay old new hand hand' ending.Try answer is
  body_acts_stay key_of old new hand hand' asks.Pass answer is = body_ends_stay old new hand hand' ending.Pass answer is
  body_acts_stay key_of old new hand hand' asks.Complete answer is = body_ends_stay old new hand hand' ending.Complete answer is
  body_acts_stay key_of old new hand hand' (asks.Fail code) answer is = body_ends_stay old new hand hand' (ending.Fail code) answer is
  body_acts_stay key_of old new hand hand' (asks.HookDone out) answer is = hook_ends_stay key_of old new hand hand' out answer is

  pub hook_acts_stay : (key_of : B → K) (old new : StoreState B K O) (hand hand' : HandState B) (ask : Ask B K O) (answer : Told B K O)
      → ActsInHook key_of old hand ask answer new hand' → StaysInside old new
  hook_acts_stay key_of old new hand hand' (asks.Take t) answer is = (takes_leave old new t answer is.0).inside
  hook_acts_stay key_of old new hand hand' (asks.HookDone out) answer is = hook_ends_stay key_of old new hand hand' out answer is
  hook_acts_stay key_of old new hand hand' _ answer is = same_stays old new is.1

  -- ---- an action in a hook, or of a running body

  pub acts_as : (hooked : Bool) (key_of : B → K) (old new : StoreState B K O) (hand hand' : HandState B) (ask : Ask B K O) (answer : Told B K O) → is_some hand.hook ≡ hooked
      → ActsWhere hooked key_of old hand ask answer new hand' → Acts key_of old hand ask answer new hand'
  acts_as hooked key_of old new hand hand' ask answer at is = subst (λ b. ActsWhere b key_of old hand ask answer new hand') (sym at) is

  where_acts_stay : (hooked : Bool) (key_of : B → K) (old new : StoreState B K O) (hand hand' : HandState B) (ask : Ask B K O) (answer : Told B K O)
      → ActsWhere hooked key_of old hand ask answer new hand' → StaysInside old new
  where_acts_stay true key_of old new hand hand' ask answer is = hook_acts_stay key_of old new hand hand' ask answer is
  where_acts_stay false key_of old new hand hand' ask answer is = body_acts_stay key_of old new hand hand' ask answer is

  pub acts_stay : (key_of : B → K) (old new : StoreState B K O) (hand hand' : HandState B) (ask : Ask B K O) (answer : Told B K O) → Acts key_of old hand ask answer new hand' → StaysInside old new
  acts_stay key_of old new hand hand' ask answer is = where_acts_stay (is_some hand.hook) key_of old new hand hand' ask answer is

  -- ---- a stuck store

  stuck_in_body : (key_of : B → K) (old : StoreState B K O) (hand : HandState B) (ask : Ask B K O) → old.stuck ≡ true → ActsInBody key_of old hand ask (told.Stuck (body_with ask)) old hand
  stuck_in_body key_of old hand (asks.Fork body kind) is = ((is, refl, refl), refl)
  stuck_in_body key_of old hand (asks.Trigger body count) is = ((is, refl, refl), refl)
  stuck_in_body key_of old hand (asks.Join t) is = ((is, refl), refl)
  stuck_in_body key_of old hand asks.Help is = ((is, refl), refl)
  stuck_in_body key_of old hand (asks.Take t) is = ((is, refl), refl)
  stuck_in_body key_of old hand (asks.Release t) is = ((is, refl), refl)
  stuck_in_body key_of old hand (asks.Add c n) is = ((is, refl), refl)
  stuck_in_body key_of old hand (asks.QuietRoot t) is = ((is, refl), refl)
  stuck_in_body key_of old hand (asks.Cancel t) is = ((is, refl), refl)
  stuck_in_body key_of old hand (asks.Fault t code) is = ((is, refl), refl)
  stuck_in_body key_of old hand (asks.State t) is = ((is, refl), refl)
  stuck_in_body key_of old hand _ is = (inl (is, refl), refl)

  stuck_in_hook : (key_of : B → K) (old : StoreState B K O) (hand : HandState B) (ask : Ask B K O) → old.stuck ≡ true → ActsInHook key_of old hand ask (told.Stuck (body_with ask)) old hand
  stuck_in_hook key_of old hand (asks.Take t) is = ((is, refl), refl)
  stuck_in_hook key_of old hand (asks.HookDone out) is = (inl (is, refl), refl)
  stuck_in_hook key_of old hand _ is = (rw is refl, refl, refl)

  pub stuck_acts : (hooked : Bool) (key_of : B → K) (old : StoreState B K O) (hand : HandState B) (ask : Ask B K O) → old.stuck ≡ true → ActsWhere hooked key_of old hand ask (told.Stuck (body_with ask)) old hand
  stuck_acts true key_of old hand ask is = stuck_in_hook key_of old hand ask is
  stuck_acts false key_of old hand ask is = stuck_in_body key_of old hand ask is
