-- A flag is given where its text is true.
use Rattle.std.proofs.Common.{◌≡◌, ◌∙◌, ◌↔◌, Bool, sym, refl, ap, true≢false, [], Option, Some, None, true, false, codes}
use Rattle.std.specs.Option.{unwrap_or}
use Rattle.std.specs.Str.Parse.{ParsesBool, false_text, true_text}
use Rattle.clap.specs.Words.{Text, one_text, rows_of, ReadsOne}
use Rattle.clap.proofs.WalkLemmas.{one_text-rows}
use Rattle.clap.specs.declared.parser.matches.Found.{Found}
use Rattle.fj_arguments.specs.Given.{GivesFlag}

others : false_text ≡ true_text → ⊥
others e = absurd cc

text_of : (t : Text) → Some t ≡ Some (codes "true") → t ≡ true_text
text_of t e = ap (λ o. unwrap_or o []) e

module _ (E : Type 0) where
  by_text : (o : Option Text) (r : Option Bool) → (o ≡ None → r ≡ None) → ((t : Text) → o ≡ Some t → ReadsOne {E = E} ParsesBool t r)
      → (unwrap_or r false ≡ true) ↔ (o ≡ Some (codes "true"))
  by_text None r none value = rw (none refl) (λ e. absurd (true≢false (sym e)), λ e. absurd cc)
  by_text (Some t) (Some true) none value = (λ _. ap Some (value t refl), λ _. refl)
  by_text (Some t) (Some false) none value = (λ e. absurd (true≢false (sym e)), λ e. absurd (others (sym (value t refl) ∙ text_of t e)))
  by_text (Some t) None none value = (λ e. absurd (true≢false (sym e)), λ e. absurd ((value t refl).1.0 (text_of t e)))

  pub gives_flag : (f : Found) (name : Text) (r : Option Bool) → (one_text f name ≡ None → r ≡ None)
      → ((t : Text) → one_text f name ≡ Some t → ReadsOne {E = E} ParsesBool t r) → GivesFlag (rows_of f) name (unwrap_or r false)
  gives_flag f name r none value =
      let read = by_text (one_text f name) r none value in
      (λ e. sym (one_text-rows f name) ∙ read.0 e, λ e. read.1 (one_text-rows f name ∙ e))
