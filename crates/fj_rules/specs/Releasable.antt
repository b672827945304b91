-- Which tasks can be released while completion actions are running.
use Rattle.std.specs.Prelude.{ℕ, ◌≡◌, Bool, true, ◌&&◌, not, map, List, [], ◌∷◌, ◌++◌}
use Rattle.fj_rules.specs.declared.event.Event.{Event}
use Rattle.fj_rules.specs.declared.event.Event.TheVariants.{Rel}
use Rattle.fj_rules.specs.Lists.{is_in}
use Rattle.fj_rules.specs.Tasks.{is_kept}
use Rattle.fj_rules.specs.Places.{place, is_gone}
use Rattle.fj_rules.specs.Hooks.{hooks}
use Rattle.fj_rules.specs.Allowed.{has_kept_child}

-- the tasks whose completion action is in some hand
abbrev pub hooked : List Event → List ℕ
hooked h = map (λ hook. hook.completer) (hooks h).in_hands

unfoldable pub is_hooked : List Event → ℕ → Bool
is_hooked h c = is_in c (hooked h)

-- whether the task can be released: kept, gone, with no kept child, and its completion action in no hand
unfoldable pub can_go : List Event → ℕ → Bool
can_go h t = is_kept h t && is_gone (place h t) && not (has_kept_child h t) && not (is_hooked h t)

-- each of these can be released after those before it
abbrev pub CanAllGo : List Event → List ℕ → Type 0
CanAllGo h [] = Unit {0}
CanAllGo h (t ∷ ts) = (can_go h t ≡ true) × CanAllGo (h ++ Rel t ∷ []) ts
