-- What one part of a line says, and what follows where the rest says something too.
use Rattle.std.proofs.Common.{◌≡◌, ℕ, ◌^◌, ◌<◌, Bool, true, false, cond, List, [], ◌∷◌, Option, Some, None, refl, ap}
use Rattle.std.specs.Prelude.{Result, Ok, Err}
use Rattle.std.specs.Fmt.{decimal}
use Rattle.std.specs.Str.{bytes_eq}
use Rattle.std.proofs.lemmas.Slice.Eq.{bytes_eq-Decides}
use Rattle.fj_lines.specs.declared.read.fault.LineFault.{LineFault}
use Rattle.fj_lines.specs.Words.{number_in, ◌>>=◌, word_first, number_first, if_last, Reads}
use Rattle.fj_lines.proofs.Reading.NumberLaws.{number_found}

pub some_is : {A : Type 0} (x y : A) → ◌≡◌ {A = Option A} (Some x) (Some y) → x ≡ y
some_is x y e = cc

-- where words go on with a number, its text stands first
pub number_then : {A P : Type 0} (ws : List (List ℕ)) (f : ℕ × List (List ℕ) → Option A) (y : A) → (number_first ws >>= f) ≡ Some y
    → ((n : ℕ) (rest : List (List ℕ)) → n < 2 ^ 32 → ws ≡ decimal n ∷ rest → f (n, rest) ≡ Some y → P) → P
number_then [] f y e then = absurd cc
number_then {A} {P} (w ∷ ws) f y e then = go (number_in w) refl e
  where
    go : (o : Option ℕ) → number_in w ≡ o → ((o >>= λ n. Some (n, ws)) >>= f) ≡ Some y → P
    go (Some n) is said =
        let text = number_found w n is in
        then n ws text.0 (ap (λ (v : List ℕ). v ∷ ws) text.1) said
    go None is said = absurd cc

-- where words go on with a word, it stands first
pub word_then : {A P : Type 0} (ws : List (List ℕ)) (f : List ℕ × List (List ℕ) → Option A) (y : A) → (word_first ws >>= f) ≡ Some y
    → ((word : List ℕ) (rest : List (List ℕ)) → ws ≡ word ∷ rest → f (word, rest) ≡ Some y → P) → P
word_then [] f y e then = absurd cc
word_then (w ∷ ws) f y e then = then w ws refl e

-- where words end, none is left
pub last_then : {A P : Type 0} (ws : List (List ℕ)) (x y : A) → if_last ws x ≡ Some y → (ws ≡ [] → x ≡ y → P) → P
last_then [] x y e then = then refl (some_is x y e)
last_then (w ∷ ws) x y e then = absurd cc

-- where something is read, it is read
pub some_then : {A B P : Type 0} (o : Option A) (f : A → Option B) (y : B) → (o >>= f) ≡ Some y → ((x : A) → o ≡ Some x → f x ≡ Some y → P) → P
some_then (Some x) f y e then = then x refl e
some_then None f y e then = absurd cc

-- which way a test went
pub chosen : {A P : Type 0} (test : Bool) (x y z : A) → cond test x y ≡ z → (test ≡ true → x ≡ z → P) → (y ≡ z → P) → P
chosen true x y z e yes_is no_is = yes_is refl e
chosen false x y z e yes_is no_is = no_is e

-- the word is this text
pub is_text : (word text : List ℕ) → bytes_eq word text ≡ true → word ≡ text
is_text word text e = (bytes_eq-Decides word text).0 e

pub told : {A : Type 0} (said : Option A) (x : A) (result : Result A LineFault) → said ≡ Some x → Reads said result → result ≡ Ok x
told said x (Ok y) is tells = cc
told said x (Err e) is tells = absurd cc
