-- A completion action ends, and that of the parent begins or does not.
use Rattle.std.proofs.Common.{ℕ, ◌≡◌, true, List, Option, Some, None, IsSome, sym, ap, ◌∙◌, subst}
use Rattle.std.specs.Prelude.{IfNone, IfSome}
use Rattle.fj_rules.specs.declared.refusal.Refusal.{Refusal}
use Rattle.fj_rules.specs.declared.said.Said.{Said}
use Rattle.fj_rules.specs.declared.said.Said.TheVariants as says
use Rattle.fj_rules.specs.declared.step.Step.TheVariants.{HookDone}
use Rattle.fj_rules.specs.Answers.{answer}
use Rattle.fj_rules.specs.Runs.{Past, grown}
use Rattle.fj_rules.specs.Tasks.{is_kept}
use Rattle.fj_slots.specs.Hands.{HandState}
use Rattle.fj_slots.specs.Shelves.{Entries, Shelved, entries, without_entries, without_entry}
use Rattle.fj_body.specs.Fitting.{Fits}
use Rattle.fj_body.specs.Stores.{GivesNoMore, IsStored, went}
use Rattle.fj_body.proofs.HookEndings.{HookGives, HookFires, HookIsOver, HookRefused, hook_gives, hook_fired, hook_unfired, hook_in, hook_task, hook_last, hook_kept_fired, hook_kept_over, hook_fired_stored, hook_over_stored, parent_there}
use Rattle.fj_bodies.proofs.HooksEnded.{EndsOnly, fired_only, over_only}

-- the end was not refused: there was an action in the hand
pub hook_there : {B : Type 0} (past : Past) (hand : HandState B) (w : ℕ) (said : Said) → said ≡ (answer past (HookDone w)).0 → ((r : Refusal) → said ≡ says.Refused r → ⊥) → Fits past hand → w ≡ hand.worker
    → IsSome hand.hook
hook_there past hand w said is no_refusal fits same = go (hook_gives past w)
  where
    go : HookGives past.events w (answer past (HookDone w)).0 (answer past (HookDone w)).1 → IsSome hand.hook
    go (HookFires c p own at up still fires made) = hook_in past hand w c fits same at
    go (HookIsOver c rest at over still made) = hook_in past hand w c fits same at
    go (HookRefused r refused none) = absurd (no_refusal r (is ∙ refused))

-- the body of the parent was taken out, if its action began
abbrev pub TakesBegun : {B : Type 0} → Said → Shelved B → Option (ℕ × B) → Shelved B → Type 0
TakesBegun said bodies begun left =
    IfSome begun (λ r. (said ≡ says.Hook r.0) × (entries bodies r.0 ≡ Some r.1) × (entries left ≡ without_entry (entries bodies) r.0))
    × IfNone begun ((left ≡ bodies) × ((p : ℕ) → said ≡ says.Hook p → entries bodies p ≡ None))

-- where none was, none began
pub none_began : {B R : Type 0} (past : Past) (w : ℕ) (said : Said) (bodies left : Shelved B) (results : Entries R) (ts : List ℕ) → IsStored past (entries bodies) results ts → said ≡ (answer past (HookDone w)).0
    → TakesBegun said bodies None left → (p : ℕ) → said ≡ says.Hook p → ⊥
none_began past w said bodies left results ts stored is takes p same = parent_there past w p (entries bodies) results ts stored (hook_fired past w p said is same) (takes.1.1 p same)

-- what holds then
pub record AfterHook {B R : Type 0} (past new : Past) (w c : ℕ) (bodies : Entries B) (results : Entries R) (ts : List ℕ) : Type 0 where
  pub stored : IsStored new bodies results ts
  pub kept : is_kept new.events c ≡ true
  pub last : GivesNoMore new.events c
  pub only : EndsOnly c (answer past (HookDone w)).1

pub after_hook : {B R : Type 0} (past new : Past) (hand : HandState B) (w c : ℕ) (body : B) (said : Said) (begun : Option (ℕ × B)) (bodies left : Shelved B) (swept : Entries B) (results : Entries R) (ts : List ℕ)
    → IsStored past (entries bodies) results ts → Fits past hand → w ≡ hand.worker → hand.hook ≡ Some (c, body) → said ≡ (answer past (HookDone w)).0 → ((r : Refusal) → said ≡ says.Refused r → ⊥)
    → new ≡ grown past (answer past (HookDone w)).1 → TakesBegun said bodies begun left → swept ≡ without_entries (entries left) (went past new) → AfterHook past new w c swept results ts
after_hook past new hand w c body said (Some (p, above)) bodies left swept results ts stored fits same held is no_refusal grew takes cleared =
    let fired = hook_fired past w p said is takes.0.0 in record {
      stored = hook_fired_stored past new w p (entries bodies) (entries left) swept results ts stored fired grew takes.0.2 cleared;
      kept = hook_kept_fired past new hand w p c body (entries bodies) results ts stored fits same held fired grew;
      last = hook_last past new hand w c fired.task body _ stored.run fits same held fired.hooked fired.made grew;
      only = subst (λ d. EndsOnly d (answer past (HookDone w)).1) (sym (hook_task past hand w c fired.task body fits same held fired.hooked)) (fired_only past.events w p _ fired);
    }
after_hook {B} past new hand w c body said None bodies left swept results ts stored fits same held is no_refusal grew takes cleared =
    let over = hook_unfired past w said is (none_began past w said bodies left results ts stored is takes) no_refusal in record {
      stored = hook_over_stored past new w (entries bodies) swept results ts stored over grew (cleared ∙ ap (λ (s : Shelved B). without_entries (entries s) (went past new)) takes.1.0);
      kept = hook_kept_over past new hand w c body (entries bodies) results ts stored fits same held over grew;
      last = hook_last past new hand w c over.task body over.rest stored.run fits same held over.hooked over.made grew;
      only = subst (λ d. EndsOnly d (answer past (HookDone w)).1) (sym (hook_task past hand w c over.task body fits same held over.hooked)) (over_only past.events w _ over);
    }
