-- When a task may become normal, by what is known of it.
use Rattle.std.proofs.Common.{ℕ, ◌≡◌, Bool, true, false, ◌&&◌, List, Option, Some, None, refl, ap, sym, ◌∙◌, inr, ⊎_elim}
use Rattle.std.specs.Prelude.{is_some}
use Rattle.std.proofs.lemmas.Bool.{and_parts, true≢false}
use Rattle.fj_rules.specs.declared.event.Event.{Event}
use Rattle.fj_rules.specs.declared.status.Status.TheVariants.{Normal}
use Rattle.fj_rules.specs.Tasks.{is_completer, is_completer_kind, parent, parent_in}
use Rattle.fj_rules.specs.Allowed.{MayBeNormal, newest, ends_task, ends_hook, is_fired_by_complete}
use Rattle.fj_checker.specs.declared.known.Known.{Known}
use Rattle.fj_checker.specs.Remembered.{Knows}

pub completer_known : (h : List Event) (t : ℕ) (k : Known) (b : Bool) → Knows h t k → b ≡ is_completer_kind (Some k.kind) → is_completer h t ≡ b
unfolding is_completer
completer_known h t k b knows is = ap is_completer_kind knows.kind ∙ sym is

pub parent_known : (h : List Event) (t : ℕ) (k : Known) → Knows h t k → parent h t ≡ parent_in (Some k.kind)
unfolding parent
parent_known h t k knows = ap parent_in knows.kind

pub none_of : (o : Option ℕ) → is_some o ≡ false → o ≡ None
none_of None is = refl
none_of (Some x) is = absurd cc

pub hooked_normal : (h : List Event) (t : ℕ) → (is_fired_by_complete h t && ends_hook t (newest h)) ≡ true → MayBeNormal h t Normal
hooked_normal h t is = inr (inr (and_parts (is_fired_by_complete h t) (ends_hook t (newest h)) is))

-- whatever would make it normal does not hold
pub not_normal : (h : List Event) (t : ℕ) → (is_fired_by_complete h t && ends_hook t (newest h)) ≡ false → ((is_completer h t ≡ false) × (ends_task t (newest h) ≡ true) → ⊥)
    → ((is_completer h t ≡ true) × (parent h t ≡ None) → ⊥) → MayBeNormal h t Normal → ⊥
not_normal h t other plain rooted may = ⊎_elim plain (λ rest. ⊎_elim rooted (λ hooked. true≢false (sym (both (is_fired_by_complete h t) (ends_hook t (newest h)) hooked.0 hooked.1) ∙ other)) rest) may
  where
    both : (a b : Bool) → a ≡ true → b ≡ true → (a && b) ≡ true
    both a b p q = rw (p, q) refl
