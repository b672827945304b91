-- What threads sleep for.
use Rattle.std.specs.Prelude.{Bool, true, false, ◌≡◌}
use Rattle.fj_sleep.specs.declared.wanted.Wanted.{Wanted}
use Rattle.fj_sleep.specs.declared.wanted.Wanted.TheVariants.{Nothing, One, Several}

module _ {T : Type 0} where
  -- whether somebody may sleep for this
  abbrev pub may_want : (T → T → Bool) → Wanted T → T → Bool
  may_want eq Nothing t = false
  may_want eq (One u) t = eq u t
  may_want eq Several t = true

  -- whether nobody sleeps
  abbrev pub is_unwanted : Wanted T → Bool
  is_unwanted Nothing = true
  is_unwanted _ = false

  -- what somebody may have slept for, somebody still may
  abbrev pub KeepsSought : (T → T → Bool) → Wanted T → Wanted T → Type 0
  KeepsSought eq old new = (t : T) → may_want eq old t ≡ true → may_want eq new t ≡ true
