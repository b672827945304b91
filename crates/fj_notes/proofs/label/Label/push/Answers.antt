use Rattle.std.proofs.Common.{◌≡◌, ℕ, ◌+◌, List, [], ◌∷◌, length, length-take-le, take, set, ap, subst, ◌∙◌, arith, rules}
use Rattle.fj_notes.specs.declared.label.TheConstants.{MAX_LABEL}
use Rattle.fj_notes.specs.Labels.{label_then}
use Rattle.fj_notes.proofs.Labels.{pushed, unpushed}
use Rattle.fj_notes.proofs.label.Label.push.Goals as goal

pub returns-then-self-lt-MAX_LABEL : goal.returns-then-self-lt-MAX_LABEL
returns-then-self-lt-MAX_LABEL c =
    let len = c.self.inside.len in
    let bytes = c.self.inside.bytes in
    let whole : length bytes ≡ MAX_LABEL = search rules in
    ap (λ (b : ℕ). take (len + 1) (set bytes len b)) c.shown.ensures ∙ pushed bytes len c.args.byte c.if-self-lt-MAX_LABEL.true whole ∙ ap (λ (l : List ℕ). label_then l (c.args.byte ∷ [])) c.self.view_is

pub returns-else-self-lt-MAX_LABEL : goal.returns-else-self-lt-MAX_LABEL
returns-else-self-lt-MAX_LABEL c =
    let len = c.self.inside.len in
    let bytes = c.self.inside.bytes in
    let whole : length bytes ≡ MAX_LABEL = search rules in
    let size : length (take len bytes) ≡ len = length-take-le len bytes (omega (arith, whole, c.self.invariant.0)) in
    subst (λ (l : List ℕ). l ≡ label_then l (c.args.byte ∷ [])) c.self.view_is (unpushed (take len bytes) c.args.byte c.self.invariant.1 (omega (arith, size, c.if-self-lt-MAX_LABEL.false)))
