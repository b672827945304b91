-- What a call at a handle comes to.
use Rattle.std.specs.Prelude.{ℕ, ◌≡◌, ◌⊎◌, List, [], ◌∷◌, ◌++◌, length, Option, Some, None}
use Rattle.fj_rules.specs.declared.step.Step.{Step}
use Rattle.fj_rules.specs.declared.said.Said.{Said}
use Rattle.fj_rules.specs.declared.said.Said.TheVariants as says
use Rattle.fj_rules.specs.declared.mode.Mode.{Mode}
use Rattle.fj_rules.specs.declared.refusal.Refusal.{Refusal}
use Rattle.fj_rules.specs.declared.refusal.Refusal.TheVariants.{OutOfMemory, BadLimits}
use Rattle.fj_rules.specs.declared.owner.Owner.{Owner}
use Rattle.fj_rules.specs.declared.epoch.Sealed.{Sealed}
use Rattle.fj_rules.specs.Bounds.{Bounds, IsWithin}
use Rattle.fj_rules.specs.Queues.{queue}
use Rattle.fj_rules.specs.Allowed.{AllowedFrom}
use Rattle.fj_rules.specs.Follows.{AllFollow}
use Rattle.fj_rules.specs.Answers.{answer}
use Rattle.fj_rules.specs.Refusals.{refusal_number}
use Rattle.fj_rules.specs.Runs.{Steps}
use Rattle.fj_rules.specs.Pasts.{Past, fresh, present, gone_since, sealed_now}
use Rattle.fj_rules.specs.Epochs.{seal_refusal, RefusesSeal}
use Rattle.fj_rules.specs.Parts.{Fits}
use Rattle.fj_rules.specs.Headline.{RepliesTell}
use Rattle.fj_codes.specs.declared.replies.Reply.{Reply}
use Rattle.fj_codes.specs.declared.codes.TheConstants as code
use Rattle.fj_codes.specs.Codings.{reply, reply_of, no_machine}

-- refused with this code, and nothing changes
abbrev pub Refuses : ℕ → Option Past → Reply → Option Past → Type 0
Refuses code old answer new = (answer ≡ reply code 0) × (new ≡ old)

-- ---- a step

-- the machine made this step, with this reply: the clauses of `Machine::step`
pub record IsStep (old : Past) (asked : Step) (reply : Reply) (new : Past) : Type 0 where
  pub said : Said
  pub code : reply ≡ reply_of said
  pub step : Steps old asked said new
  pub allowed : AllowedFrom old.pool old.events (answer old asked).1
  pub follows : AllFollow old (answer old asked).1
  pub tells : RepliesTell (answer old asked).1 (said ∷ [])
  pub none : said ≡ says.None → (o : Owner) → queue old.events o ≡ []
  pub fits : (parts : List Sealed) → Fits parts old → Fits parts new
  pub refused : (r : Refusal) → said ≡ says.Refused r → new ≡ old

-- the step was made at a handle: its machine made it; or it has none, which the reply says, and nothing changes
abbrev pub MakesStep : Option Past → Step → Reply → Option Past → Type 0
MakesStep (Some old) asked reply (Some new) = IsStep old asked reply new
MakesStep (Some old) asked reply None = ⊥
MakesStep None asked reply (Some new) = ⊥
MakesStep None asked reply None = reply ≡ no_machine

-- ---- a machine is made

abbrev pub HasLimits : Bounds → Type 0
HasLimits limits = IsWithin limits.workers limits.submitters limits.tasks limits.events

-- why a machine with these limits is not made
abbrev pub RefusesLimits : Bounds → Refusal → Type 0
RefusesLimits limits refusal = ((refusal ≡ BadLimits) × (HasLimits limits → ⊥)) ⊎ ((refusal ≡ OutOfMemory) × HasLimits limits)

-- at a handle without a machine, one is made, before its first step; or it is refused
abbrev pub MakesFirst : Mode → Bounds → Reply → Option Past → Type 0
MakesFirst mode limits answer new =
    ((answer ≡ reply code.DONE 0) × HasLimits limits × (new ≡ Some (fresh mode limits)))
    ⊎ ((refusal : Refusal) × RefusesLimits limits refusal × Refuses (refusal_number refusal) None answer new)

-- the same at any handle
abbrev pub MakesMachine : Option Past → Option Mode → Bounds → Reply → Option Past → Type 0
MakesMachine old None limits answer new = Refuses code.BAD_ARGUMENT old answer new
MakesMachine (Some old) (Some mode) limits answer new = Refuses code.IN_USE (Some old) answer new
MakesMachine None (Some mode) limits answer new = MakesFirst mode limits answer new

-- ---- a seal

-- this part was handed out, and is gone; the reply has how many events it had
pub record IsSealed (old : Past) (answer : Reply) (new : Past) : Type 0 where
  pub code : answer ≡ reply code.DONE (length (present old))
  pub may : seal_refusal old ≡ None
  pub sealed : new ≡ sealed_now old
  pub part : Sealed
  pub events : part.events.items ≡ present old
  pub gone : part.gone.items ≡ gone_since old
  pub fits : (parts : List Sealed) → Fits parts old → Fits (parts ++ part ∷ []) new

pub record IsUnsealed (old : Past) (answer : Reply) (new : Past) : Type 0 where
  pub refusal : Refusal
  pub code : answer ≡ reply (refusal_number refusal) 0
  pub why : RefusesSeal old refusal
  pub stays : new ≡ old

abbrev pub Seals : Option Past → Reply → Option Past → Type 0
Seals (Some old) answer (Some new) = IsSealed old answer new ⊎ IsUnsealed old answer new
Seals (Some old) answer None = ⊥
Seals None answer (Some new) = ⊥
Seals None answer None = answer ≡ no_machine

-- ---- a query

-- the reply where there is a machine, and where there is none
abbrev pub at_machine : (Past → Reply) → Option Past → Reply
at_machine said (Some past) = said past
at_machine said None = no_machine

-- the machine was asked, and nothing changes
abbrev pub Reads : (Past → Reply) → Option Past → Reply → Option Past → Type 0
Reads said old answer new = (answer ≡ at_machine said old) × (new ≡ old)
