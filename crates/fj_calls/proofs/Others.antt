-- What an action on the core leaves of the hands of the other workers.
use Rattle.std.proofs.Common.{ℕ, ◌≡◌, ◌≢◌, ◌+◌, ◌<◌, Bool, true, false, inl, inr, length, Option, Some, None, refl, ap, sym, ◌∙◌, subst}
use Rattle.std.specs.Prelude.{◌⊎◌, ⊤, is_some, Result, Ok, Err}
use Rattle.fj_rules.specs.declared.refusal.Refusal.{Refusal}
use Rattle.fj_rules.specs.declared.step.Ending.{Ending}
use Rattle.fj_rules.specs.declared.step.Ending.TheVariants as ending
use Rattle.fj_rules.specs.declared.step.Step.{Step}
use Rattle.fj_rules.specs.declared.step.Step.TheVariants as step
use Rattle.fj_rules.specs.declared.said.Said.{Said}
use Rattle.fj_rules.specs.declared.said.Said.TheVariants as says
use Rattle.fj_rules.specs.Pasts.{Past}
use Rattle.fj_rules.specs.Epochs.{IsPast}
use Rattle.fj_rules.specs.Runs.{Steps}
use Rattle.fj_rules.proofs.Steps.KeepsHands.{KeepsHands, releases_keep}
use Rattle.fj_slots.specs.Hands.{HandState, with_next_word}
use Rattle.fj_body.specs.declared.body.Ask.{Ask}
use Rattle.fj_body.specs.declared.body.Ask.TheVariants as asks
use Rattle.fj_body.specs.declared.body.Heard.TheVariants as hears
use Rattle.fj_body.specs.declared.body.Told.{Told}
use Rattle.fj_body.specs.declared.body.Told.TheVariants as told
use Rattle.fj_body.specs.declared.outcomes.Outcome.{Outcome}
use Rattle.fj_body.specs.Fitting.{Fits}
use Rattle.fj_body.specs.Acting.{Acts, ActsInBody, ActsInHook, ActsWhere}
use Rattle.fj_body.specs.Stores.{StoreState}
use Rattle.fj_body.specs.Releases.{Releases}
use Rattle.fj_body.specs.Choosing.{HandsOut, Skips, Moves, WasStuck, GetsStuck, Polls, Helps, Joins}
use Rattle.fj_body.specs.Results.{Keeps, KeepsUnless, Marks, Collects}
use Rattle.fj_body.specs.Asking.{Drops}
use Rattle.fj_body.specs.Endings.{EndsOk, EndsBody}
use Rattle.fj_body.specs.HookEndings.{EndsHook}
use Rattle.fj_body.proofs.Acts.{Leaves, accepts_leave, adds_leave, drops_stay, lets_leave, quiets_leave, same_leaves, settles_leave, shows_leave, takes_leave}
use Rattle.fj_body.proofs.Others.{Stays, PassesBy, step_stays, end_stays, hook_done_stays}
use Rattle.fj_calls.specs.declared.cutoff.Cutoff.{Cutoff}
use Rattle.fj_calls.specs.declared.taken_in.Intake.{Intake}
use Rattle.fj_calls.specs.declared.taken_in.Intake.TheVariants as intake
use Rattle.fj_calls.specs.Closes.{Dues, ShutsAt, shut_step}
use Rattle.fj_calls.specs.Closings.{is_due}
use Rattle.fj_calls.specs.Cancels.{CancelsTask, CancelsTicket, CancelsUnless}
use Rattle.fj_calls.specs.Cores.{CoreState, CollectsTicket, CollectsUnless}
use Rattle.fj_calls.specs.Hands.{KeepsHand}
use Rattle.fj_calls.specs.Intakes.{Intakes, Readies, kind_rooted}
use Rattle.fj_calls.specs.Sealing.{SealsCore}
use Rattle.fj_calls.specs.Booked.{booked_under}

-- ---- one worker's hand

of_history : (v : ℕ) (old new : Past) → Stays v old.events new.events → KeepsHand v old new
of_history v old new stays = record { bodies = stays.0; hook = stays.1 }

of_all : (v : ℕ) (old new : Past) → KeepsHands old new → KeepsHand v old new
of_all v old new keeps = record { bodies = keeps.stacks v; hook = keeps.hooks v }

same_past : (v : ℕ) (old new : Past) → new ≡ old → KeepsHand v old new
same_past v old new same = subst (KeepsHand v old) (sym same) (record { bodies = refl; hook = refl })

then_keeps : (v : ℕ) (a b c : Past) → KeepsHand v a b → KeepsHand v b c → KeepsHand v a c
then_keeps v a b c ab bc = record { bodies = bc.bodies ∙ ab.bodies; hook = bc.hook ∙ ab.hook }

-- a hand that fitted fits
pub kept_fits : {B : Type 0} (past past' : Past) (hand : HandState B) → KeepsHand hand.worker past past' → past'.pool ≡ past.pool → Fits past hand → Fits past' hand
kept_fits past past' hand keeps pool fits = record {
  there = subst (λ pool. hand.worker < pool.limits.workers) (sym pool) fits.there;
  bodies = fits.bodies ∙ sym keeps.bodies;
  hook = fits.hook ∙ sym keeps.hook;
}

module _ {B K O : Type 0} where
  -- ---- what the store does

  same_keeps : (v : ℕ) (old new : StoreState B K O) → new ≡ old → KeepsHand v old.past new.past
  same_keeps v old new same = same_past v old.past new.past (ap (λ (s : StoreState B K O). s.past) same)

  leaves_keep : (v : ℕ) (old new : StoreState B K O) → Leaves old new → KeepsHand v old.past new.past
  leaves_keep v old new leaves = of_all v old.past new.past leaves.hands

  step_keeps : (v : ℕ) (old new : StoreState B K O) (asked : Step) (reply : Said) → PassesBy v asked → Steps old.past asked reply new.past → KeepsHand v old.past new.past
  step_keeps v old new asked reply by made = of_history v old.past new.past (step_stays v old.past new.past asked reply by made)

  end_keeps : (v w : ℕ) (old new : StoreState B K O) (how : Ending) (reply : Said) → v ≢ w → Steps old.past (step.End w how) reply new.past → KeepsHand v old.past new.past
  end_keeps v w old new how reply other made = of_history v old.past new.past (end_stays v w old.past new.past how reply other made)

  hook_done_keeps : (v w : ℕ) (old new : StoreState B K O) (reply : Said) → IsPast old.past → v ≢ w → Steps old.past (step.HookDone w) reply new.past → KeepsHand v old.past new.past
  hook_done_keeps v w old new reply run other made = of_history v old.past new.past (hook_done_stays v w old.past new.past reply run other made)

  released : (v : ℕ) (old new : StoreState B K O) → Releases old new → KeepsHand v old.past new.past
  released v old new r =
      subst (KeepsHand v old.past) (sym (ap (λ (s : StoreState B K O). s.past) r.were)) (of_all v old.past _ (releases_keep old.past r.tasks))

  -- a step, and then the releases
  then_released : (v : ℕ) (old mid new : StoreState B K O) → KeepsHand v old.past mid.past → Releases mid new → KeepsHand v old.past new.past
  then_released v old mid new keeps r = then_keeps v old.past mid.past new.past keeps (released v mid new r)

  hands_out_keeps : (v : ℕ) (old new : StoreState B K O) (hand hand' : HandState B) (asked : Step) (t : ℕ) → PassesBy v asked → HandsOut old hand asked t new hand' → KeepsHand v old.past new.past
  hands_out_keeps v old new hand hand' asked t by is = step_keeps v old new asked (says.Run t) by is.step

  skips_keep : (v : ℕ) (old new : StoreState B K O) (asked : Step) (t : ℕ) (body : B) → PassesBy v asked → Skips old asked t body new → KeepsHand v old.past new.past
  skips_keep v old new asked t body by is = then_released v old is.mid new (step_keeps v old is.mid asked (says.Skip t) by is.step) is.releases

  moves_keep : (v : ℕ) (old new : StoreState B K O) (asked : Step) (reply : Said) → PassesBy v asked → Moves old asked reply new → KeepsHand v old.past new.past
  moves_keep v old new asked reply by is = step_keeps v old new asked reply by is.0

  drops_keep : (v : ℕ) (old new : StoreState B K O) (asked : Step) (reply : Said) → PassesBy v asked → Drops old asked reply new → KeepsHand v old.past new.past
  drops_keep v old new asked reply by is = then_released v old is.mid new (step_keeps v old is.mid asked reply by is.step) is.releases

  marks_keep : (v : ℕ) (old new : StoreState B K O) (t : ℕ) → Marks old t new → KeepsHand v old.past new.past
  marks_keep v old new t is = same_past v old.past new.past (ap (λ (s : StoreState B K O). s.past) is.1)

  result_keeps : (v : ℕ) (taken : Bool) (old new : StoreState B K O) (t : ℕ) (kept : K × O) → KeepsUnless taken old t kept new → KeepsHand v old.past new.past
  result_keeps v true old new t kept is = same_keeps v old new is
  result_keeps v false old new t kept is = same_past v old.past new.past (ap (λ (s : StoreState B K O). s.past) is.1)

  -- a step, a result that is kept, and the releases
  ended : (v : ℕ) (old mid done new : StoreState B K O) (t : ℕ) (kept : K × O) → KeepsHand v old.past mid.past → Keeps mid t kept done → Releases done new → KeepsHand v old.past new.past
  ended v old mid done new t kept keeps result r =
      then_released v old done new (then_keeps v old.past mid.past done.past keeps (result_keeps v _ mid done t kept result)) r

  -- it was stuck, or is now
  stuck_keeps : (v : ℕ) (old new : StoreState B K O) (asked : Step) → WasStuck old new ⊎ GetsStuck old asked new → KeepsHand v old.past new.past
  stuck_keeps v old new asked (inl was) = same_keeps v old new was.1
  stuck_keeps v old new asked (inr now) = same_past v old.past new.past (ap (λ (s : StoreState B K O). s.past) now.2)

  -- ---- a poll

  -- a poll leaves the hands of the others
  pub polls_others : (old new : StoreState B K O) (hand hand' : HandState B) (answer : Told B K O) → Polls old hand answer new hand'
      → (v : ℕ) → v ≢ hand.worker → KeepsHand v old.past new.past
  polls_others old new hand hand' (told.Run t) is v other = hands_out_keeps v old new (with_next_word hand) hand' (step.Poll hand.worker hand.word) t other is.1
  polls_others old new hand hand' (told.Skip t body) is v other = skips_keep v old new (step.Poll hand.worker hand.word) t body other is.1
  polls_others old new hand hand' told.None is v other = moves_keep v old new (step.Poll hand.worker hand.word) says.None other is.1
  polls_others old new hand hand' (told.Stuck None) (inl was) v other = same_keeps v old new was.0.1
  polls_others old new hand hand' (told.Stuck None) (inr now) v other = same_past v old.past new.past (ap (λ (s : StoreState B K O). s.past) now.0.2)
  polls_others old new hand hand' (told.Stuck (Some b)) is v other = absurd is
  polls_others old new hand hand' (told.Hear heard) is v other = absurd is
  polls_others old new hand hand' (told.Hook a b) is v other = absurd is
  polls_others old new hand hand' (told.Over b) is v other = absurd is

  -- ---- an action of a body or of a hook

  helps_keep : (v : ℕ) (old new : StoreState B K O) (hand hand' : HandState B) (answer : Told B K O) → v ≢ hand.worker → Helps old hand answer new hand' → KeepsHand v old.past new.past
  helps_keep v old new hand hand' (told.Run t) other is = hands_out_keeps v old new (with_next_word hand) hand' (step.Help hand.worker hand.word) t other is.1
  helps_keep v old new hand hand' (told.Skip t body) other is = skips_keep v old new (step.Help hand.worker hand.word) t body other is.1
  helps_keep v old new hand hand' told.None other is = moves_keep v old new (step.Help hand.worker hand.word) says.None other is.1
  helps_keep v old new hand hand' (told.Hear (hears.Refused r)) other is = same_keeps v old new is.1.1
  helps_keep v old new hand hand' (told.Stuck None) other is = same_keeps v old new is.0.1
  helps_keep v old new hand hand' _ other is = absurd is

  joins_keep : (v : ℕ) (old new : StoreState B K O) (hand hand' : HandState B) (t : ℕ) (answer : Told B K O) → v ≢ hand.worker → Joins old hand t answer new hand' → KeepsHand v old.past new.past
  joins_keep v old new hand hand' t (told.Run u) other is = hands_out_keeps v old new (with_next_word hand) hand' (step.Join hand.worker t hand.word) u other is.1
  joins_keep v old new hand hand' t (told.Skip u body) other is = skips_keep v old new (step.Join hand.worker t hand.word) u body other is.1
  joins_keep v old new hand hand' t told.None other is = moves_keep v old new (step.Join hand.worker t hand.word) says.None other is.1
  joins_keep v old new hand hand' t (told.Hear (hears.Got k o)) other is =
      let gives = is.1 in
      then_released v old gives.out new
      (then_keeps v old.past gives.mid.past gives.out.past (moves_keep v old gives.mid (step.Join hand.worker t hand.word) says.Normal other gives.step) (marks_keep v gives.mid gives.out t gives.takes.1))
      gives.releases
  joins_keep v old new hand hand' t (told.Hear hears.Bare) other is = moves_keep v old new (step.Join hand.worker t hand.word) says.Normal other is.1
  joins_keep v old new hand hand' t (told.Hear (hears.Failed code)) other is = moves_keep v old new (step.Join hand.worker t hand.word) (says.Exceptional code) other is.1
  joins_keep v old new hand hand' t (told.Hear hears.Cancelled) other is = moves_keep v old new (step.Join hand.worker t hand.word) says.Cancelled other is.1
  joins_keep v old new hand hand' t (told.Hear (hears.Refused r)) other is = same_keeps v old new is.1.1
  joins_keep v old new hand hand' t (told.Stuck None) other is = same_keeps v old new is.0.1
  joins_keep v old new hand hand' t _ other is = absurd is

  ok_keeps : (v : ℕ) (key_of : B → K) (old new : StoreState B K O) (hand hand' : HandState B) (out : O) (answer : Told B K O) → v ≢ hand.worker
      → EndsOk key_of old hand out answer new hand' → KeepsHand v old.past new.past
  ok_keeps v key_of old new hand hand' out (told.Over None) other is =
      let ends = is.1 in
      ended v old ends.mid ends.done new ends.task _ (end_keeps v hand.worker old ends.mid ending.Ok says.Done other ends.step) ends.kept ends.releases
  ok_keeps v key_of old new hand hand' out (told.Hear (hears.Refused r)) other is = same_keeps v old new is.1.1
  ok_keeps v key_of old new hand hand' out (told.Stuck None) other is = stuck_keeps v old new (step.End hand.worker ending.Ok) is.0
  ok_keeps v key_of old new hand hand' out _ other is = absurd is

  body_ends_keep : (v : ℕ) (old new : StoreState B K O) (hand hand' : HandState B) (how : Ending) (answer : Told B K O) → v ≢ hand.worker
      → EndsBody old hand how answer new hand' → KeepsHand v old.past new.past
  body_ends_keep v old new hand hand' how (told.Hook c caller) other is =
      let ends = is.2 in then_released v old ends.mid new (end_keeps v hand.worker old ends.mid how (says.Hook c) other ends.step) ends.releases
  body_ends_keep v old new hand hand' how (told.Over out) other is =
      let ends = is.1 in then_released v old ends.mid new (end_keeps v hand.worker old ends.mid how ends.reply other ends.step) ends.releases
  body_ends_keep v old new hand hand' how (told.Hear (hears.Refused r)) other is = same_keeps v old new is.1.1
  body_ends_keep v old new hand hand' how (told.Stuck None) other is = stuck_keeps v old new (step.End hand.worker how) is.0
  body_ends_keep v old new hand hand' how _ other is = absurd is

  hook_ends_keep : (v : ℕ) (key_of : B → K) (old new : StoreState B K O) (hand hand' : HandState B) (out : O) (answer : Told B K O) → IsPast old.past → v ≢ hand.worker
      → EndsHook key_of old hand out answer new hand' → KeepsHand v old.past new.past
  hook_ends_keep v key_of old new hand hand' out (told.Hook p caller) run other is =
      let ends = is.1 in
      ended v old ends.mid ends.done new caller _ (hook_done_keeps v hand.worker old ends.mid (says.Hook p) run other ends.step) ends.kept ends.releases
  hook_ends_keep v key_of old new hand hand' out (told.Over None) run other is =
      let ends = is.1 in
      ended v old ends.mid ends.done new ends.task _ (hook_done_keeps v hand.worker old ends.mid ends.reply run other ends.step) ends.kept ends.releases
  hook_ends_keep v key_of old new hand hand' out (told.Hear (hears.Refused r)) run other is = same_keeps v old new is.1.1
  hook_ends_keep v key_of old new hand hand' out (told.Stuck None) run other is = stuck_keeps v old new (step.HookDone hand.worker) is.0
  hook_ends_keep v key_of old new hand hand' out _ run other is = absurd is

  body_acts_keep : (v : ℕ) (key_of : B → K) (old new : StoreState B K O) (hand hand' : HandState B) (ask : Ask B K O) (answer : Told B K O) → IsPast old.past → v ≢ hand.worker
      → ActsInBody key_of old hand ask answer new hand' → KeepsHand v old.past new.past
  body_acts_keep v key_of old new hand hand' (asks.Fork body kind) answer run other is = leaves_keep v old new (accepts_leave old new (step.Fork hand.worker kind) body answer refl refl is.0)
  body_acts_keep v key_of old new hand hand' (asks.Trigger body count) answer run other is = leaves_keep v old new (accepts_leave old new (step.Trigger hand.worker count) body answer refl refl is.0)
  body_acts_keep v key_of old new hand hand' (asks.Join t) answer run other is = joins_keep v old new hand hand' t answer other is
  body_acts_keep v key_of old new hand hand' asks.Help answer run other is = helps_keep v old new hand hand' answer other is
  body_acts_keep v key_of old new hand hand' (asks.Take t) answer run other is = leaves_keep v old new (takes_leave old new t answer is.0)
  body_acts_keep v key_of old new hand hand' (asks.Release t) answer run other is = leaves_keep v old new (lets_leave old new t answer is.0)
  body_acts_keep v key_of old new hand hand' (asks.Add c n) answer run other is = leaves_keep v old new (adds_leave old new (step.Add hand.worker c n) answer refl refl is.0)
  body_acts_keep v key_of old new hand hand' (asks.QuietRoot t) answer run other is = leaves_keep v old new (quiets_leave old new (step.QuietRoot hand.worker t) answer refl refl is.0)
  body_acts_keep v key_of old new hand hand' (asks.Cancel t) answer run other is = leaves_keep v old new (settles_leave old new (step.Cancel t) answer refl refl is.0)
  body_acts_keep v key_of old new hand hand' (asks.Fault t code) answer run other is = leaves_keep v old new (settles_leave old new (step.Fault t code) answer refl refl is.0)
  body_acts_keep v key_of old new hand hand' (asks.State t) answer run other is = leaves_keep v old new (shows_leave old new (step.State t) answer refl refl is.0)
  body_acts_keep v key_of old new hand hand' (asks.Ok out) answer run other is = ok_keeps v key_of old new hand hand' out answer other is
  body_acts_keep v key_of old new hand hand' asks.Quiet answer run other is = body_ends_keep v old new hand hand' ending.Quiet answer other is
  body_acts_keep v key_of old new hand hand' asks.Try answer run other is = body_ends_keep v old new hand hand' ending.Try answer other is
  body_acts_keep v key_of old new hand hand' asks.Pass answer run other is = body_ends_keep v old new hand hand' ending.Pass answer other is
  body_acts_keep v key_of old new hand hand' asks.Complete answer run other is = body_ends_keep v old new hand hand' ending.Complete answer other is
  body_acts_keep v key_of old new hand hand' (asks.Fail code) answer run other is = body_ends_keep v old new hand hand' (ending.Fail code) answer other is
  body_acts_keep v key_of old new hand hand' (asks.HookDone out) answer run other is = hook_ends_keep v key_of old new hand hand' out answer run other is

  hook_acts_keep : (v : ℕ) (key_of : B → K) (old new : StoreState B K O) (hand hand' : HandState B) (ask : Ask B K O) (answer : Told B K O) → IsPast old.past → v ≢ hand.worker
      → ActsInHook key_of old hand ask answer new hand' → KeepsHand v old.past new.past
  hook_acts_keep v key_of old new hand hand' (asks.Take t) answer run other is = leaves_keep v old new (takes_leave old new t answer is.0)
  hook_acts_keep v key_of old new hand hand' (asks.HookDone out) answer run other is = hook_ends_keep v key_of old new hand hand' out answer run other is
  hook_acts_keep v key_of old new hand hand' _ answer run other is = same_keeps v old new is.1

  -- an action leaves the hands of the others
  pub acts_others : (key_of : B → K) (old new : StoreState B K O) (hand hand' : HandState B) (ask : Ask B K O) (answer : Told B K O) → IsPast old.past
      → Acts key_of old hand ask answer new hand' → (v : ℕ) → v ≢ hand.worker → KeepsHand v old.past new.past
  acts_others key_of old new hand hand' ask answer run is v other = go (is_some hand.hook) is
    where
      go : (hooked : Bool) → ActsWhere hooked key_of old hand ask answer new hand' → KeepsHand v old.past new.past
      go true is = hook_acts_keep v key_of old new hand hand' ask answer run other is
      go false is = body_acts_keep v key_of old new hand hand' ask answer run other is

  -- ---- what is no worker's leaves every hand

  dues_keep : (v : ℕ) (due stopping : Bool) (old new : StoreState B K O) → Dues due stopping old new → KeepsHand v old.past new.past
  dues_keep v false stopping old new is = same_keeps v old new is
  dues_keep v true stopping old new (inl was) = same_keeps v old new was.1
  dues_keep v true stopping old new (inr (free, (true, shuts))) = drops_keep v old new (shut_step stopping) says.Done (by stopping) shuts
    where
      by : (b : Bool) → PassesBy v (shut_step b)
      by true = tt
      by false = tt
  dues_keep v true stopping old new (inr (free, (false, shuts))) = same_past v old.past new.past (ap (λ (s : StoreState B K O). s.past) shuts.1)

  -- the closing number is set: `close_at`, `stop_at`
  pub shuts_hands : (old new : CoreState B K O) (closing : Cutoff) → ShutsAt old closing new → (v : ℕ) → KeepsHand v old.store.past new.store.past
  shuts_hands old new closing is v = dues_keep v (is_due closing.number (length old.bookings)) closing.stopping old.store new.store is.due

  readies_keep : (v : ℕ) (old new : StoreState B K O) (s : ℕ) (r : Refusal) → Readies old s (Some (intake.Full r)) new → KeepsHand v old.past new.past
  readies_keep v old new s r (inl was) = same_keeps v old new was.2
  readies_keep v old new s r (inr now) = same_past v old.past new.past (ap (λ (s : StoreState B K O). s.past) now.sticks)

  -- an intake
  pub intakes_hands : (rooted_as : B → Option ℕ) (old new : CoreState B K O) (s : ℕ) (answer : Intake) → Intakes rooted_as old s answer new
      → (v : ℕ) → KeepsHand v old.store.past new.store.past
  intakes_hands rooted_as old new s (intake.Full r) is v = readies_keep v old.store new.store s r is.0
  intakes_hands rooted_as old new s intake.Empty (inl is) v = same_past v old.store.past new.store.past (ap (λ (c : CoreState B K O). c.store.past) is.2)
  intakes_hands rooted_as old new s intake.Empty (inr is) v = same_past v old.store.past new.store.past (ap (λ (c : CoreState B K O). c.store.past) is.missed)
  intakes_hands rooted_as old new s (intake.Took serial) is v =
      then_keeps v old.store.past is.mid.past new.store.past
      (step_keeps v old.store is.mid (step.Submit s (kind_rooted (rooted_as is.parcel.body))) (says.Task serial) tt is.submits.step)
      (dues_keep v (is_due old.closing.number (length old.bookings + 1)) old.closing.stopping is.mid new.store is.due)

  -- a seal
  pub seals_hands : (old new : CoreState B K O) (answer : Result ⊤ Refusal) → SealsCore old answer new → (v : ℕ) → KeepsHand v old.store.past new.store.past
  seals_hands old new (Ok done) is v =
      subst (KeepsHand v old.store.past) (sym (ap (λ (s : StoreState B K O). s.past) is.hands.others)) (record { bodies = refl; hook = refl })
  seals_hands old new (Err r) is v = same_past v old.store.past new.store.past (ap (λ (c : CoreState B K O). c.store.past) is.1)

  collects_keep : (v : ℕ) (old new : StoreState B K O) (t : ℕ) (answer : Option (Result (Outcome B K O) Refusal)) → Collects old t answer new → KeepsHand v old.past new.past
  collects_keep v old new t None is = same_keeps v old new is.3
  collects_keep v old new t (Some (Err r)) is = same_keeps v old new is.2
  collects_keep v old new t (Some (Ok outcome)) is = then_released v old is.mid new (marks_keep v old is.mid t is.marks) is.releases

  cancels_leave : (old new : StoreState B K O) (t : ℕ) (answer : Result Bool Refusal) → CancelsTask old t answer new → Leaves old new
  cancels_leave old new t (Ok true) is = drops_stay old new (step.Cancel t) says.Yes refl refl is
  cancels_leave old new t (Ok false) is = drops_stay old new (step.Cancel t) says.No refl refl is
  cancels_leave old new t (Err r) is = same_leaves old new is.1

  -- an outcome is asked for
  pub cancels_hands : (old new : CoreState B K O) (ticket : ℕ) (answer : Result Bool Refusal) → CancelsTicket old ticket answer new → (v : ℕ) → KeepsHand v old.store.past new.store.past
  cancels_hands old new ticket answer is v = go old.store.stuck (booked_under old.bookings ticket) is
    where
      go : (stuck : Bool) (booked : Option ℕ) → CancelsUnless stuck booked old answer new → KeepsHand v old.store.past new.store.past
      go true booked is = same_past v old.store.past new.store.past (ap (λ (c : CoreState B K O). c.store.past) is.1)
      go false (Some t) is = leaves_keep v old.store new.store (cancels_leave old.store new.store t answer is.0)
      go false None is = same_past v old.store.past new.store.past (ap (λ (c : CoreState B K O). c.store.past) is.1)

  pub collects_hands : (old new : CoreState B K O) (ticket : ℕ) (answer : Option (Result (Outcome B K O) Refusal)) → CollectsTicket old ticket answer new
      → (v : ℕ) → KeepsHand v old.store.past new.store.past
  collects_hands old new ticket answer is v = go old.store.stuck (booked_under old.bookings ticket) is
    where
      go : (stuck : Bool) (booked : Option ℕ) → CollectsUnless stuck booked old answer new → KeepsHand v old.store.past new.store.past
      go true booked is = same_past v old.store.past new.store.past (ap (λ (c : CoreState B K O). c.store.past) is.1)
      go false (Some t) is = collects_keep v old.store new.store t answer is.0
      go false None is = same_past v old.store.past new.store.past (ap (λ (c : CoreState B K O). c.store.past) is.1)
