-- The history of a core is sealed, and the part kept.
use Rattle.std.specs.Prelude.{◌≡◌, ◌⊎◌, ◌&&◌, ◌+◌, if◌then◌else◌, not, ⊤, Bool, true, false, Result, Ok, Err, [], ◌∷◌, ◌++◌}
use Rattle.fj_rules.specs.declared.epoch.Sealed.{Sealed}
use Rattle.fj_rules.specs.declared.refusal.Refusal.{Refusal}
use Rattle.fj_rules.specs.declared.refusal.Refusal.TheVariants.{LogFull, OutOfMemory}
use Rattle.fj_rules.specs.Answers.{is_quiet}
use Rattle.fj_rules.specs.Epochs.{RefusesSeal}
use Rattle.fj_rules.specs.Pasts.{Past}
use Rattle.fj_body.specs.Sealing.{HandsPart, is_half_full}
use Rattle.fj_calls.specs.Closings.{is_over}
use Rattle.fj_calls.specs.Cores.{CoreState}

-- whether it is time for a seal: the history is more than half full, and the machine is open and quiescent
abbrev pub may_be_sealed : Past → Bool
may_be_sealed past = is_half_full past && not (is_over past.events) && is_quiet past.pool.limits past.events

-- whether a seal was refused as out of memory
abbrev pub is_without_memory : Result ⊤ Refusal → Bool
is_without_memory (Err OutOfMemory) = true
is_without_memory _ = false

module _ {B K O : Type 0} where
  -- whether nothing is taken in before the next seal: the history is more than half full, the machine is open and not quiescent, and no Stop
  -- is pending
  abbrev pub holds_back : CoreState B K O → Bool
  holds_back core =
      is_half_full core.store.past && not (is_over core.store.past.events) && not core.closing.stopping && not (is_quiet core.store.past.pool.limits core.store.past.events)

  -- the store hands out its part, which is appended to the kept ones, and nothing else has changed
  pub record KeepsPart (old new : CoreState B K O) : Type 0 where
    pub part : Sealed
    pub hands : HandsPart old.store part new.store
    pub others : new ≡ record old { store = new.store; parts = old.parts ++ part ∷ [] }

  -- LogFull if it is stuck, else OutOfMemory if there is no room for a part, else the machine's refusal
  abbrev pub RefusesCoreSeal : CoreState B K O → Refusal → Type 0
  RefusesCoreSeal core r = ((core.store.stuck ≡ true) × (r ≡ LogFull)) ⊎ ((core.store.stuck ≡ false) × ((r ≡ OutOfMemory) ⊎ RefusesSeal core.store.past r))

  -- a part is sealed and kept; or that is refused, and nothing has changed
  abbrev pub SealsPart : CoreState B K O → Result ⊤ Refusal → CoreState B K O → Type 0
  SealsPart old (Ok done) new = KeepsPart old new
  SealsPart old (Err r) new = RefusesCoreSeal old r × (new ≡ old)

  -- a seal; or it is refused, and nothing has changed but the count of those without memory
  abbrev pub SealsCore : CoreState B K O → Result ⊤ Refusal → CoreState B K O → Type 0
  SealsCore old (Ok done) new = KeepsPart old new
  SealsCore old (Err r) new = RefusesCoreSeal old r × (new ≡ record old { missed_seals = old.missed_seals + (if is_without_memory (Err r) then 1 else 0) })
