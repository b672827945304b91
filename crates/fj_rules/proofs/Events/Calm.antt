-- The events that leave every task where it is: counting up and down, the end of a hook, and shutdown.
use Rattle.std.proofs.Common.{ℕ, ◌≡◌, Bool, true, false, List, [], ◌∷◌, ◌++◌, Option, Some, None, refl, ◌∙◌}
use Rattle.fj_rules.specs.declared.event.Event.{Event}
use Rattle.fj_rules.specs.declared.event.Event.TheVariants.{Acc, Make, Out, Skip, End, Add, Dec, Fire, Pass, Hooked, Settle, Close, Stop, Rel}
use Rattle.fj_rules.specs.Bounds.{Pool}
use Rattle.fj_rules.specs.Lists.{is_in}
use Rattle.fj_rules.specs.Tasks.{tasks, accepted_by}
use Rattle.fj_rules.specs.Statuses.{status}
use Rattle.fj_rules.specs.Completers.{is_spent}
use Rattle.fj_rules.specs.Places.{place, is_gone, open_tasks, gone}
use Rattle.fj_rules.specs.Allowed.{Allowed, AllowedFrom, is_stop}
use Rattle.fj_rules.proofs.Places.OnePlace.{opened_out}
use Rattle.fj_rules.proofs.Places.PlaceLaws.{moves, none_accepted, none_opened, unmoved_place, open_same, gone_kept}
use Rattle.fj_rules.proofs.Events.Spending.{spends, settled_by, spent_kept, status_kept}

-- the release of a task is one of them too
abbrev pub is_calm : Event → Bool
is_calm (Add c n) = true
is_calm (Dec c) = true
is_calm (Hooked c) = true
is_calm Close = true
is_calm (Rel t) = true
is_calm _ = false

-- it neither moves, nor settles, nor spends anything, and is no stop
pub calm_unmoved : (e : Event) → is_calm e ≡ true → moves e ≡ false
calm_unmoved (Acc t o k) calm = absurd cc
calm_unmoved (Make t k) calm = absurd cc
calm_unmoved (Out t w) calm = absurd cc
calm_unmoved (Skip t w) calm = absurd cc
calm_unmoved (End t w) calm = absurd cc
calm_unmoved _ calm = refl

calm_unstopped : (e : Event) → is_calm e ≡ true → is_stop e ≡ false
calm_unstopped Stop calm = absurd cc
calm_unstopped _ calm = refl

calm_settles : (e : Event) (t : ℕ) → is_calm e ≡ true → settled_by e ≡ Some t → ⊥
calm_settles (Settle u s) t calm is = absurd cc
calm_settles _ t calm is = absurd cc

calm_spends : (e : Event) (t : ℕ) → is_calm e ≡ true → spends e ≡ Some t → ⊥
calm_spends (Fire c how) t calm is = absurd cc
calm_spends (Pass c) t calm is = absurd cc
calm_spends (Settle u s) t calm is = absurd cc
calm_spends _ t calm is = absurd cc

pub calm_status : (h : List Event) (e : Event) (t : ℕ) → is_calm e ≡ true → status (h ++ e ∷ []) t ≡ status h t
calm_status h e t calm = status_kept h e t (calm_unstopped e calm) (calm_settles e t calm)

pub calm_spent : (h : List Event) (e : Event) (t : ℕ) → is_calm e ≡ true → is_spent (h ++ e ∷ []) t ≡ is_spent h t
calm_spent h e t calm = spent_kept h e t (calm_unstopped e calm) (calm_spends e t calm)

pub calm_place : (pool : Pool) (h : List Event) (e : Event) (t : ℕ) → AllowedFrom pool [] h → Allowed pool h e → is_calm e ≡ true → is_in t (tasks h) ≡ true
    → place (h ++ e ∷ []) t ≡ place h t
unfolding place
calm_place pool h e t so may calm known = unmoved_place pool h e t so may (calm_unmoved e calm) known ∙ rw (calm_spent h e t calm) refl

pub calm_open : (pool : Pool) (h : List Event) (e : Event) → AllowedFrom pool [] h → Allowed pool h e → is_calm e ≡ true → open_tasks (h ++ e ∷ []) ≡ open_tasks h
calm_open pool h e so may calm = open_same h e (none_opened e (calm_unmoved e calm)) (λ t there. calm_place pool h e t so may calm (opened_out pool h so t there).known)

pub calm_gone : (pool : Pool) (h : List Event) (e : Event) → AllowedFrom pool [] h → Allowed pool h e → is_calm e ≡ true → gone (h ++ e ∷ []) ≡ gone h
calm_gone pool h e so may calm = gone_kept pool h e so (λ t known. calm_place pool h e t so may calm known) (λ t new. new_none (accepted_by e) t (none_accepted e (calm_unmoved e calm)) new)
  where
    new_none : (said : Option ℕ) (t : ℕ) → said ≡ None → said ≡ Some t → is_gone (place (h ++ e ∷ []) t) ≡ false
    new_none said t none is = absurd cc
