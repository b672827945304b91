-- What a refused step leaves.
use Rattle.std.proofs.Common.{◌≡◌, List, [], ◌++◌, ap, sym, ◌∙◌}
use Rattle.std.proofs.lemmas.List.{append-nil}
use Rattle.fj_rules.specs.declared.event.Event.{Event}
use Rattle.fj_rules.specs.declared.refusal.Refusal.{Refusal}
use Rattle.fj_rules.specs.declared.said.Said.{Said}
use Rattle.fj_rules.specs.declared.said.Said.TheVariants as says
use Rattle.fj_rules.specs.declared.step.Step.{Step}
use Rattle.fj_rules.specs.Runs.{Past, Steps, grown}
use Rattle.fj_rules.proofs.Steps.Replies.{refused_nothing}

grown_nothing : (now : Past) (events : List Event) → events ≡ [] → grown now events ≡ now
grown_nothing now events none = ap (λ (es : List Event). let p : Past = record now { events = now.events ++ es } in p) none
    ∙ ap (λ (es : List Event). let p : Past = record now { events = es } in p) (append-nil now.events)

-- a refused step leaves all as it was
pub refused_same : (old new : Past) (asked : Step) (reply : Said) → Steps old asked reply new → (refusal : Refusal) → reply ≡ says.Refused refusal → new ≡ old
refused_same old new asked reply steps refusal is =
    steps.1 ∙ grown_nothing old _ (refused_nothing old asked refusal (sym steps.0 ∙ is))
