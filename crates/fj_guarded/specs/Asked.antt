-- Calls from outside, by one ticket or by several.
use Rattle.std.specs.Prelude.{ℕ, ◌≡◌, ◌<◌, Bool, List, Option, Some, None, Result, slice_get}
use Rattle.fj_rules.specs.declared.refusal.Refusal.{Refusal}
use Rattle.fj_body.specs.declared.outcomes.Outcome.{Outcome}
use Rattle.fj_calls.specs.Cancels.{CancelsTicket}
use Rattle.fj_calls.specs.Cores.{CollectsTicket, CoreState}
use Rattle.fj_guarded.specs.declared.guarded.outside.TakenIn.{TakenIn}
use Rattle.fj_guarded.specs.Looking.{LooksAtLanes}

module _ {B K O : Type 0} where
  -- the outcomes under the first n tickets are still to come
  abbrev pub AreAwaited : ℕ → List ℕ → CoreState B K O → Type 0
  AreAwaited n tickets core = (i ticket : ℕ) → i < n → slice_get tickets i ≡ Some ticket → CollectsTicket core ticket None core

  -- the outcome under the ticket at this index is returned, and those under the tickets before it are still to come
  pub record CollectsAt (tickets : List ℕ) (old : CoreState B K O) (place : ℕ) (answer : Result (Outcome B K O) Refusal) (new : CoreState B K O) : Type 0 where
    pub ticket : ℕ
    pub at : slice_get tickets place ≡ Some ticket
    pub collects : CollectsTicket old ticket (Some answer) new
    pub before : AreAwaited place tickets old

  -- the first outcome that is ready, with the index of its ticket; or all are still to come
  abbrev pub CollectsAny : List ℕ → CoreState B K O → Option (ℕ × Result (Outcome B K O) Refusal) → CoreState B K O → Type 0
  CollectsAny tickets old (Some told) new = CollectsAt tickets old told.0 told.1 new
  CollectsAny tickets old None new = ((i ticket : ℕ) → slice_get tickets i ≡ Some ticket → CollectsTicket old ticket None old) × (new ≡ old)

  -- a look at the lanes, and then the submission under a ticket is cancelled
  pub record CancelsBehind (rooted_as : B → Option ℕ) (old : CoreState B K O) (ticket : ℕ) (answer : Result Bool Refusal) (new : CoreState B K O) : Type 0 where
    pub mid : CoreState B K O
    pub taken : TakenIn
    pub looks : LooksAtLanes rooted_as old taken mid
    pub cancels : CancelsTicket mid ticket answer new
