use Rattle.std.proofs.Common.{◌≡◌, ℕ, ◌^◌, ◌<◌, List, None, sym, subst, ◌∙◌, arith, rules}
use Rattle.fj_notes.specs.NoteReadings.{nanos_in}
use Rattle.fj_notes.proofs.Lines.NanosLaws.{nanos_text, no_nanos_bytes, no_nanos_parsed, no_nanos_other}
use Rattle.fj_notes.proofs.read.nanos.read_nanos.Goals as goal

pub returns-in_default : goal.returns-in_default
returns-in_default c = no_nanos_bytes c.args.word.now c.in_default.ensures.cases.0

pub returns-in_default-parse : goal.returns-in_default-parse
returns-in_default-parse c =
    subst (λ (w : List ℕ). nanos_in w ≡ None) c.in-Ok.ensures.cases.0 (no_nanos_parsed c.in-Ok.text.now c.in_default-parse.field-0 c.in_default-parse.ensures.value.0)

pub returns-then-eq : goal.returns-then-eq
returns-then-eq c =
    let parsed = c.in-Ok-parse.ensures.value.0 in
    let value = parsed.1 in
    let small : c.in-Ok-parse.nanos < 2 ^ 64 = omega (arith, value, parsed.0.1) in
    let same : c.format.result.now ≡ c.in-Ok.text.now = search rules in
    nanos_text c.args.word.now c.in-Ok-parse.nanos small (sym c.in-Ok.ensures.cases.0 ∙ sym same ∙ c.format.ensures.text)

pub returns-else-eq : goal.returns-else-eq
returns-else-eq c =
    let differs : c.format.result.now ≡ c.in-Ok.text.now → ⊥ = search rules in
    subst (λ (w : List ℕ). nanos_in w ≡ None) c.in-Ok.ensures.cases.0
    (no_nanos_other c.in-Ok.text.now c.in-Ok-parse.nanos c.parse.result c.in-Ok-parse.is c.parse.ensures.value.0 (λ is. differs (c.format.ensures.text ∙ sym is)))
