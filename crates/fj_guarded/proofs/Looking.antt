-- What a look at the lanes leaves: the pool is that of before, and so are its lanes.
use Rattle.std.proofs.Common.{ℕ, ◌≡◌, ◌+◌, ◌<◌, zero, suc, Bool, true, false, Option, Some, None, inl, inr, refl, sym, ap, ◌∙◌, subst, add-one}
use Rattle.std.specs.Option.{IfSome, option_or, unwrap_or}
use Rattle.fj_rules.specs.declared.step.Step.{Step}
use Rattle.fj_rules.specs.Bounds.{Pool}
use Rattle.fj_rules.specs.Pasts.{Past}
use Rattle.fj_body.specs.Stores.{StoreState}
use Rattle.fj_body.specs.Asking.{Shuts}
use Rattle.fj_calls.specs.declared.taken_in.Intake.{Intake}
use Rattle.fj_calls.specs.declared.taken_in.Intake.TheVariants as intake
use Rattle.fj_calls.specs.Closes.{Dues, shut_step}
use Rattle.fj_calls.specs.Cores.{CoreState}
use Rattle.fj_calls.specs.Intakes.{Intakes}
use Rattle.fj_guarded.specs.declared.guarded.outside.TakenIn.{TakenIn}
use Rattle.fj_guarded.specs.declared.guarded.outside.TakenIn.TheVariants.{Nothing}
use Rattle.fj_guarded.specs.Lanes.{KeepsLanes}
use Rattle.fj_submitter.specs.Lanes.{lanes_of}
use Rattle.fj_guarded.specs.Looking.{TakesFrom, behind, so_far_behind, with_answer}
use Rattle.fj_guarded.proofs.Lanes.{intakes_keep}

module _ {B K O : Type 0} where
  abbrev pub pool_of : StoreState B K O → Pool
  pool_of store = store.past.pool

  shuts_same : (made : Bool) (old new : StoreState B K O) (asked : Step) → Shuts old asked made new → pool_of new ≡ pool_of old
  shuts_same true old new asked drops = ap pool_of drops.releases.were ∙ ap (λ (p : Past). p.pool) drops.step.1
  shuts_same false old new asked is = ap pool_of is.1

  pub dues_same : (due stopping : Bool) (old new : StoreState B K O) → Dues due stopping old new → pool_of new ≡ pool_of old
  dues_same false stopping old new is = ap pool_of is
  dues_same true stopping old new (inl was) = ap pool_of was.1
  dues_same true stopping old new (inr is) = shuts_same is.1.0 old new (shut_step stopping) is.1.1

  intakes_same : (rooted_as : B → Option ℕ) (old new : CoreState B K O) (s : ℕ) (answer : Intake) → Intakes rooted_as old s answer new → pool_of new.store ≡ pool_of old.store
  intakes_same rooted_as old new s (intake.Full r) ((inl was), others) = ap pool_of was.2
  intakes_same rooted_as old new s (intake.Full r) ((inr finds), others) = ap pool_of finds.sticks
  intakes_same rooted_as old new s intake.Empty (inl over) = ap (λ (c : CoreState B K O). pool_of c.store) over.2
  intakes_same rooted_as old new s intake.Empty (inr misses) = ap (λ (c : CoreState B K O). pool_of c.store) misses.missed
  intakes_same rooted_as old new s (intake.Took serial) takes = dues_same _ old.closing.stopping takes.mid new.store takes.due ∙ ap (λ (p : Past). p.pool) takes.submits.step.1

  pub takes_same : (rooted_as : B → Option ℕ) (submitters first n : ℕ) (old new : CoreState B K O) (taken : TakenIn) → TakesFrom rooted_as submitters first n old taken new → pool_of new.store ≡ pool_of old.store
  takes_same rooted_as submitters first zero old new taken is = ap (λ (c : CoreState B K O). pool_of c.store) is.1
  takes_same rooted_as submitters first (suc n) old new taken (mid, before, answer, earlier, last, is) =
      intakes_same rooted_as mid new (so_far_behind submitters first n) answer last ∙ takes_same rooted_as submitters first n old mid before earlier

  pub takes_keep : (rooted_as : B → Option ℕ) (submitters first n : ℕ) (old new : CoreState B K O) (taken : TakenIn) → TakesFrom rooted_as submitters first n old taken new → KeepsLanes old new
  takes_keep rooted_as submitters first zero old new taken is = ap (λ (c : CoreState B K O). lanes_of c.lanes) is.1
  takes_keep rooted_as submitters first (suc n) old new taken (mid, before, answer, earlier, last, is) =
      intakes_keep rooted_as mid new (so_far_behind submitters first n) answer last ∙ takes_keep rooted_as submitters first n old mid before earlier

  pub takes_none : (rooted_as : B → Option ℕ) (submitters first : ℕ) (core : CoreState B K O) → TakesFrom rooted_as submitters first 0 core Nothing core
  takes_none rooted_as submitters first core = (refl, refl)

  -- one submitter more
  pub takes_next : (rooted_as : B → Option ℕ) (submitters first n s : ℕ) (old mid new : CoreState B K O) (before taken : TakenIn) (answer : Intake)
      → TakesFrom rooted_as submitters first n old before mid → s ≡ so_far_behind submitters first n → Intakes rooted_as mid s answer new → taken ≡ with_answer before answer
      → TakesFrom rooted_as submitters first (n + 1) old taken new
  takes_next rooted_as submitters first n s old mid new before taken answer earlier at last is =
      subst (λ m. TakesFrom rooted_as submitters first m old taken new) (sym (add-one n)) (mid, before, answer, earlier, subst (λ t. Intakes rooted_as mid t answer new) at last, is)

-- the first one for which there was no room is a submitter
pub waits_or : (bound s : ℕ) (waits found : Option ℕ) → IfSome waits (λ t. t < bound) → IfSome found (λ t. t ≡ s) → s < bound → IfSome (option_or waits found) (λ t. t < bound)
waits_or bound s (Some t) found are is within = are
waits_or bound s None (Some t) are is within = subst (λ u. u < bound) (sym is) within
waits_or bound s None None are is within = tt

pub waits_or_first : (bound first : ℕ) (waits : Option ℕ) → IfSome waits (λ t. t < bound) → first < bound → unwrap_or waits first < bound
waits_or_first bound first (Some t) are within = are
waits_or_first bound first None are within = within

-- one place further behind
pub one_behind : (submitters first n s t : ℕ) → s ≡ so_far_behind submitters first n → t ≡ behind submitters s → t ≡ so_far_behind submitters first (n + 1)
one_behind submitters first n s t at next = next ∙ ap (behind submitters) at ∙ ap (so_far_behind submitters first) (sym (add-one n))
