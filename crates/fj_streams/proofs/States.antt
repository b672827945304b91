-- Where more lines lead, behind good ones, and what is written at them.
use Rattle.std.specs.Prelude.{true, is_some, unwrap_or}
use Rattle.std.specs.Option.{option_and_then, option_map_or}
use Rattle.std.proofs.Common.{ℕ, ◌≡◌, List, [], ◌∷◌, ◌++◌, refl, ◌∙◌, sym, ap, append_assoc, Option, Some, None}
use Rattle.fj_streams.specs.Rules.{Rules, state_from, text_from}

some_is : {A : Type 0} (x y : A) → Some x ≡ Some y → x ≡ y
some_is x y e = ap (λ o. unwrap_or o x) e

module _ {A S : Type 0} (rules : Rules A S) where
  -- ---- lines behind lines

  from_there : (o : Option A) (ls ms : List (List ℕ)) → ((n : A) → state_from rules n (ls ++ ms) ≡ option_and_then (λ t. state_from rules t ms) (state_from rules n ls))
      → option_and_then (λ n. state_from rules n (ls ++ ms)) o ≡ option_and_then (λ t. state_from rules t ms) (option_and_then (λ n. state_from rules n ls) o)
  from_there None ls ms each = refl
  from_there (Some n) ls ms each = each n

  pub state-append : (s : A) (ls ms : List (List ℕ)) → state_from rules s (ls ++ ms) ≡ option_and_then (λ t. state_from rules t ms) (state_from rules s ls)
  state-append s [] ms = refl
  state-append s (l ∷ ls) ms = from_there (rules.after s l) ls ms (λ n. state-append n ls ms)

  text_there : (o : Option A) (t : A) (said : List ℕ) (ls ms : List (List ℕ)) → option_and_then (λ n. state_from rules n ls) o ≡ Some t
      → ((n : A) → state_from rules n ls ≡ Some t → text_from rules n (ls ++ ms) ≡ text_from rules n ls ++ text_from rules t ms)
      → option_map_or (λ n. said ++ text_from rules n (ls ++ ms)) o [] ≡ option_map_or (λ n. said ++ text_from rules n ls) o [] ++ text_from rules t ms
  text_there None t said ls ms e each = absurd cc
  text_there (Some n) t said ls ms e each = ap (λ (u : List ℕ). said ++ u) (each n e) ∙ sym (append_assoc said (text_from rules n ls) (text_from rules t ms))

  -- the text of more lines, behind those that lead there
  pub text-append : (s t : A) (ls ms : List (List ℕ)) → state_from rules s ls ≡ Some t → text_from rules s (ls ++ ms) ≡ text_from rules s ls ++ text_from rules t ms
  text-append s t [] ms e = ap (λ (n : A). text_from rules n ms) (some_is s t e)
  text-append s t (l ∷ ls) ms e = text_there (rules.after s l) t (rules.text s l) ls ms e (λ n is. text-append n t ls ms is)

  -- one line more
  pub state-snoc : (s t u : A) (ls : List (List ℕ)) (l : List ℕ) → state_from rules s ls ≡ Some t → rules.after t l ≡ Some u → state_from rules s (ls ++ l ∷ []) ≡ Some u
  state-snoc s t u ls l e next = state-append s ls (l ∷ []) ∙ rw (e, next) refl

  -- ---- one line, and those behind it

  pub text-line : (s u : A) (l : List ℕ) (ms : List (List ℕ)) → rules.after s l ≡ Some u → text_from rules s (l ∷ ms) ≡ rules.text s l ++ text_from rules u ms
  text-line s u l ms next = rw next refl

  -- nothing is written at a line that may not stand there, nor behind it
  pub text-stops : (s : A) (l : List ℕ) (ms : List (List ℕ)) → rules.after s l ≡ None → text_from rules s (l ∷ ms) ≡ []
  text-stops s l ms none = rw none refl

-- the state of what is there
pub state_there : {A : Type 0} (o : Option A) → is_some o ≡ true → (u : A) × (o ≡ Some u)
state_there None e = absurd cc
state_there (Some u) e = (u, refl)

pub some_state : {A : Type 0} (o : Option A) (s : A) → o ≡ Some s → is_some o ≡ true
some_state o s e = rw e refl
