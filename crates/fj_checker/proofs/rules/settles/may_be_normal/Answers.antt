use Rattle.std.proofs.Common.{refl, sym, ap, ◌∙◌, inl, inr}
use Rattle.std.specs.Prelude.{is_some}
use Rattle.std.proofs.lemmas.Bool.{true≢false}
use Rattle.fj_checker.proofs.Normal.{completer_known, parent_known, none_of, hooked_normal, not_normal}
use Rattle.fj_checker.proofs.rules.settles.may_be_normal.Goals as goal

pub returns-then-is_hooked : goal.returns-then-is_hooked
returns-then-is_hooked c = (λ yes. hooked_normal c.args.ledger.now.events c.args.t (sym c.is_hooked.ensures ∙ c.if-is_hooked.true), λ may. refl)

pub returns-then-is_completer : goal.returns-then-is_completer
returns-then-is_completer c =
    let h = c.args.ledger.now.events in
    let completer = completer_known h c.args.t c.args.known.now _ c.requires.known c.is_completer.ensures ∙ c.if-is_completer.true in
    (λ yes. inr (inl (completer, parent_known h c.args.t c.args.known.now c.requires.known ∙ sym c.parent.ensures ∙ none_of _ (sym c.is_some.ensures ∙ c.if-is_some.false))), λ may. refl)

pub returns-then-is_some : goal.returns-then-is_some
returns-then-is_some c =
    let h = c.args.ledger.now.events in
    let completer = completer_known h c.args.t c.args.known.now _ c.requires.known c.is_completer.ensures ∙ c.if-is_completer.true in (
      λ bad. absurd cc,
      λ may. absurd (not_normal h c.args.t (sym c.is_hooked.ensures ∙ c.if-is_hooked.false) (λ plain. true≢false (sym completer ∙ plain.0))
          (λ rooted. true≢false (sym c.if-is_some.true ∙ c.is_some.ensures ∙ ap is_some (c.parent.ensures ∙ sym (parent_known h c.args.t c.args.known.now c.requires.known) ∙ rooted.1))) may),
    )

pub returns-then-is_end_of : goal.returns-then-is_end_of
returns-then-is_end_of c =
    let h = c.args.ledger.now.events in
    let plain = completer_known h c.args.t c.args.known.now _ c.requires.known c.is_completer.ensures ∙ c.if-is_completer.false in
    (λ yes. inl (plain, sym (c.is_end_of.ensures ∙ rw c.requires.latest refl) ∙ c.if-is_end_of.true), λ may. refl)

pub returns : goal.returns
returns c =
    let h = c.args.ledger.now.events in
    let plain = completer_known h c.args.t c.args.known.now _ c.requires.known c.is_completer.ensures ∙ c.if-is_completer.false in (
      λ bad. absurd cc,
      λ may. absurd (not_normal h c.args.t (sym c.is_hooked.ensures ∙ c.if-is_hooked.false)
          (λ ended. true≢false (sym ended.1 ∙ sym (c.is_end_of.ensures ∙ rw c.requires.latest refl) ∙ c.if-is_end_of.false))
          (λ rooted. true≢false (sym rooted.0 ∙ plain)) may),
    )
