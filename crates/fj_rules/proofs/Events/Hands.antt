-- Events that are about no completion action leave each where it is.
use Rattle.std.proofs.Common.{ℕ, ◌≡◌, Bool, true, false, List, [], ◌∷◌, ◌++◌, refl, ap, ◌∙◌}
use Rattle.fj_rules.specs.declared.event.Event.{Event}
use Rattle.fj_rules.specs.declared.event.Event.TheVariants.{Fire, Hooked}
use Rattle.fj_rules.specs.Hooks.{hooks, hooks_after, hand, completer_in}
use Rattle.fj_rules.proofs.Events.Growth.{hooks_more}

-- whether the event hands a hook out, or ends one
abbrev pub is_of_hook : Event → Bool
is_of_hook (Fire c how) = true
is_of_hook (Hooked c) = true
is_of_hook _ = false

pub in_hands_same : (h : List Event) (e : Event) → is_of_hook e ≡ false → (hooks (h ++ e ∷ [])).in_hands ≡ (hooks h).in_hands
in_hands_same h e other = ap (λ s. s.in_hands) (hooks_more h e) ∙ same e other
  where
    same : (e : Event) → is_of_hook e ≡ false → (hooks_after (hooks h) e).in_hands ≡ (hooks h).in_hands
    same (Fire c how) other = absurd cc
    same (Hooked c) other = absurd cc
    same _ other = refl

pub hand_same : (h : List Event) (e : Event) (w : ℕ) → is_of_hook e ≡ false → hand (h ++ e ∷ []) w ≡ hand h w
unfolding hand
hand_same h e w other = ap (completer_in w) (in_hands_same h e other)
