-- The number that was read for an option is that of its text.
use Rattle.std.proofs.Common.{ℕ, ◌≡◌, ◌<◌, ◌^◌, ◌∙◌, sym, subst, ap, refl, List, [], Option, Some, None}
use Rattle.std.specs.Prelude.{Result, Ok, Err, IfNone}
use Rattle.std.specs.Option.{unwrap_or}
use Rattle.std.specs.Str.Parse.{ParsesUnsigned, digits_value, without_leading_plus}
use Rattle.clap.specs.Words.{Row, Text, one_text, rows_of, ReadsOne}
use Rattle.clap.proofs.WalkLemmas.{one_text-rows}
use Rattle.clap.specs.declared.parser.matches.Found.{Found}
use Rattle.fj_arguments.specs.Given.{Gives}

-- what holds if there is nothing, where there is nothing
pub if_none : {A : Type 0} (P : Type 0) (r : Option A) → r ≡ None → IfNone r P → P
if_none P None is holds = holds
if_none P (Some x) is holds = absurd cc

module _ {E : Type 0} (Reads : List ℕ → Result ℕ E → Type 0) (parses : (t : List ℕ) (r : Result ℕ E) → Reads t r → ParsesUnsigned 32 10 t r) where
  -- where there is a text, and it reads as this number
  gives_text : (f : Found) (name : Text) (n : ℕ) (t : Text) → one_text f name ≡ Some t → Reads t (Ok n) → Gives (rows_of f) name n
  gives_text f name n t is reads =
      let parsed = parses t (Ok n) reads in (t, sym (one_text-rows f name) ∙ is, parsed.0.0, parsed.1)

  pub gives_number : (f : Found) (name : Text) (n : ℕ) (r : Option ℕ) → (one_text f name ≡ None → r ≡ None)
      → ((t : Text) → one_text f name ≡ Some t → ReadsOne Reads t r) → r ≡ Some n → Gives (rows_of f) name n
  gives_number f name n r none value is = go (one_text f name) refl
    where
      go : (o : Option Text) → one_text f name ≡ o → Gives (rows_of f) name n
      go None e =
          let nothing = none e in
          absurd cc
      go (Some t) e = gives_text f name n t e (subst (λ (x : Option ℕ). ReadsOne Reads t x) is (value t e))

  -- where nothing was read the text is no number of 32 bits
  pub gives_nothing : (f : Found) (name : Text) (n : ℕ) (r : Option ℕ) → ((t : Text) → one_text f name ≡ Some t → ReadsOne Reads t r) → r ≡ None → n < 2 ^ 32
      → Gives (rows_of f) name n → ⊥
  gives_nothing f name n r value is small gives =
      let read : ReadsOne Reads gives.0 None = subst (λ (x : Option ℕ). ReadsOne Reads gives.0 x) is (value gives.0 (one_text-rows f name ∙ gives.1)) in
      parses gives.0 (Err read.0) read.1 (gives.2, subst (λ (k : ℕ). k < 2 ^ 32) gives.3 small)

-- an option gives one number
pub gives_same : (rows : List Row) (name : Text) (n m : ℕ) → Gives rows name n → Gives rows name m → n ≡ m
gives_same rows name n m a b =
    let same : a.0 ≡ b.0 = ap (λ (o : Option Text). unwrap_or o []) (sym a.1 ∙ b.1) in
    a.3 ∙ (ap (λ (t : Text). digits_value 10 (without_leading_plus t)) same ∙ sym b.3)
