-- The history is handed out in parts.
use Rattle.std.specs.Prelude.{◌≡◌, ◌⊎◌, ◌*◌, Bool, true, false, None, Result, Ok, Err, List, [], ◌∷◌, ◌++◌, length, nat_lt}
use Rattle.fj_rules.specs.declared.epoch.Sealed.{Sealed}
use Rattle.fj_rules.specs.declared.refusal.Refusal.{Refusal}
use Rattle.fj_rules.specs.declared.refusal.Refusal.TheVariants.{LogFull}
use Rattle.fj_rules.specs.Pasts.{Past, present, gone_since, sealed_now}
use Rattle.fj_rules.specs.Epochs.{seal_refusal, RefusesSeal}
use Rattle.fj_rules.specs.Parts.{Fits}
use Rattle.fj_body.specs.Stores.{StoreState}

-- whether the history since the last seal is longer than half its limit
abbrev pub is_half_full : Past → Bool
is_half_full past = nat_lt past.pool.limits.events (2 * length (present past))

module _ {B K O : Type 0} where
  -- the whole history is sealed, and nothing else has changed; the part has what came since the last seal
  pub record HandsPart (old : StoreState B K O) (part : Sealed) (new : StoreState B K O) : Type 0 where
    pub free : old.stuck ≡ false
    pub may : seal_refusal old.past ≡ None
    pub events : part.events.items ≡ present old.past
    pub gone : part.gone.items ≡ gone_since old.past
    pub others : new ≡ record old { past = sealed_now old.past }
    -- the parts handed out before, followed by this one, are those of the new past
    pub joins : (parts : List Sealed) → Fits parts old.past → Fits (parts ++ part ∷ []) new.past

  -- a seal; or LogFull if the store is stuck, else the machine's refusal, and nothing has changed
  abbrev pub Seals : StoreState B K O → Result Sealed Refusal → StoreState B K O → Type 0
  Seals old (Ok part) new = HandsPart old part new
  Seals old (Err r) new = (((old.stuck ≡ true) × (r ≡ LogFull)) ⊎ ((old.stuck ≡ false) × RefusesSeal old.past r)) × (new ≡ old)
