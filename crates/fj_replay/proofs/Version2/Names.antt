-- The names of numbered tasks, and their places in a table.
use Rattle.std.proofs.Common.{ℕ, zero, suc, ◌≡◌, ◌≢◌, ◌+◌, ◌^◌, ◌<◌, ◌≤◌, Bool, true, false, List, [], ◌∷◌, ◌++◌, length, get_or, Option, Some, None, refl, ap, sym, ◌∙◌, arith, ⊎_elim}
use Rattle.std.specs.Prelude.{if◌then◌else◌, nat_le, nat_lt, map, IfSome}
use Rattle.std.specs.Fmt.{decimal}
use Rattle.std.specs.List.{range_with_len, list_all, list_any}
use Rattle.std.specs.Str.{bytes_eq}
use Rattle.std.specs.Int.{IsInRange}
use Rattle.std.specs.Str.Parse.{AllDigits}
use Rattle.std.proofs.lemmas.Bool.{cases_lt, lt-ltb, le-ltb, le-leb}
use Rattle.std.proofs.lemmas.Bool.Decides.{nat_tests}
use Rattle.std.proofs.lemmas.Fmt.{decimal_injective}
use Rattle.std.proofs.lemmas.List.FromFn.{length-map-range_with_len, get_or-map-range_with_len, map-range_with_len_more}
use Rattle.std.proofs.lemmas.List.Sums.{position_or_len_is}
use Rattle.std.proofs.lemmas.Option.{unwrap_or-slice_get}
use Rattle.std.proofs.lemmas.Slice.Eq.{bytes_eq-Decides}
use Rattle.std.proofs.lemmas.Str.Parse.{digit_from_value}
use Rattle.fj_lines.specs.declared.read.TheConstants.{LINE_FEED}
use Rattle.fj_lines.specs.declared.name.TheConstants.{MAX_NAME}
use Rattle.fj_rules.specs.declared.said.Said.{Said}
use Rattle.fj_rules.specs.Bounds.{Bounds}
use Rattle.fj_lines.specs.Names.{IsName, is_name_byte}
use Rattle.fj_lines.specs.Replies.{reply_words}
use Rattle.fj_lines.specs.Words.{joined}
use Rattle.fj_lines.proofs.Reading.NumberLaws.{number_text}
use Rattle.fj_rules.proofs.Places.OnePlace.{never}
use Rattle.fj_replay.specs.declared.task_naming.TaskNaming.TheVariants.{Names}
use Rattle.fj_replay.specs.Namings.{number_of, is_taken, name_of, with_name, task_told, words_by, said_line}
use Rattle.fj_replay.specs.TaskNames.{task_name}
use Rattle.fj_replay.specs.Upgrades.{called_line}
use Rattle.fj_replay.proofs.Version2.Told.{IsBelow}

-- the names of the first so many tasks
abbrev pub task_names : ℕ → List (List ℕ)
task_names n = map task_name (range_with_len 0 n)

-- ---- different numbers have different names

same_number : (t u : ℕ) → t < 2 ^ 64 → u < 2 ^ 64 → bytes_eq (task_name t) (task_name u) ≡ true → t ≡ u
same_number t u t_small u_small is =
    let names : task_name t ≡ task_name u = (bytes_eq-Decides (task_name t) (task_name u)).0 is in
    let digits : decimal t ≡ decimal u = cc in
    decimal_injective t u t_small u_small digits

other_name : (t u : ℕ) → t < 2 ^ 64 → u < 2 ^ 64 → t ≢ u → bytes_eq (task_name t) (task_name u) ≡ false
other_name t u t_small u_small other = never (bytes_eq (task_name t) (task_name u)) (λ is. other (same_number t u t_small u_small is))

own_name : (t u : ℕ) → t ≡ u → bytes_eq (task_name t) (task_name u) ≡ true
own_name t u is = (bytes_eq-Decides (task_name t) (task_name u)).1 (ap task_name is)

-- ---- in the table

name_at : (n k : ℕ) → k < n → get_or (task_names n) k [] ≡ task_name k
name_at n k low = get_or-map-range_with_len task_name 0 n k k [] low (omega arith)

-- a number that no task has yet stands for the next one
abbrev pub shown : ℕ → ℕ → ℕ
shown n t = if nat_lt t n then t else n

pub number_shown : (n t : ℕ) → n < 2 ^ 64 → t < 2 ^ 64 → number_of (task_names n) (task_name t) ≡ shown n t
number_shown n t n_small t_small =
    ⊎_elim
    (λ low. position_or_len_is (bytes_eq (task_name t)) (task_names n) t [] (omega (arith, low, many)) (λ k before. ap (bytes_eq (task_name t)) (name_at n k (omega (arith, low, before))) ∙ other_name t k t_small (omega (arith, before, t_small)) (λ is. absurd (omega (arith, is, before))))
    (λ there. ap (bytes_eq (task_name t)) (name_at n t low) ∙ own_name t t refl) ∙ rw (lt-ltb t n low) refl)
    (λ high. position_or_len_is (bytes_eq (task_name t)) (task_names n) n [] (omega (arith, many)) (λ k before. ap (bytes_eq (task_name t)) (name_at n k before) ∙ other_name t k t_small (omega (arith, before, n_small)) (λ is. absurd (omega (arith, is, before, high))))
    (λ there. absurd (omega (arith, there, many))) ∙ rw (le-ltb t n high) refl)
    (cases_lt t n)
  where
    many : length (task_names n) ≡ n
    many = length-map-range_with_len task_name 0 n

free_from : (a m t : ℕ) → a + m ≤ t → t < 2 ^ 64 → list_any (bytes_eq (task_name t)) (map task_name (range_with_len a m)) ≡ false
free_from a zero t low small = refl
free_from a (suc m) t low small = rw (other_name t a small (omega arith) (λ is. absurd (omega (arith, is, low))), free_from (a + 1) m t (omega arith) small) refl

-- the name of the next task is free
pub name_free : (n : ℕ) → n < 2 ^ 64 → is_taken (task_names n) (task_name n) ≡ false
name_free n small = free_from 0 n n (omega arith) small

-- with the name of the next task
pub names_after : (n : ℕ) (b : Bool) → (if b then with_name (Names (task_names n)) (task_name n) else Names (task_names n)) ≡ Names (task_names (if b then n + 1 else n))
names_after n true = ap Names (sym (map-range_with_len_more task_name 0 n n (omega arith)))
names_after n false = refl

-- a reply that tells of one of these tasks calls it so
pub named_said : (n : ℕ) (limits : Bounds) (reply : Said) → IsBelow n reply → said_line (Names (task_names n)) limits reply ≡ called_line task_name limits reply
named_said n limits reply below = go (task_told reply) below
  where
    go : (o : Option (List ℕ × ℕ)) → IfSome o (λ told. told.1 < n)
        → joined (words_by (name_of (Names (task_names n))) o (reply_words limits reply)) ++ LINE_FEED ∷ [] ≡ joined (words_by task_name o (reply_words limits reply)) ++ LINE_FEED ∷ []
    go None low = refl
    go (Some told) low =
        let named : name_of (Names (task_names n)) told.1 ≡ task_name told.1 = unwrap_or-slice_get (task_names n) told.1 [] ∙ name_at n told.1 low in
        ap (λ (name : List ℕ). joined (told.0 ∷ name ∷ []) ++ LINE_FEED ∷ []) named

-- ---- they are names

digit_byte : (b : ℕ) → IsInRange 48 57 b → is_name_byte b ≡ true
digit_byte b digit = grind (arith, nat_tests)

digits_are_name : (bs : List ℕ) → AllDigits 10 bs → list_all is_name_byte bs ≡ true
digits_are_name [] all = refl
digits_are_name (b ∷ bs) all = rw (digit_byte b (digit_from_value b all.0), digits_are_name bs all.1) refl

pub task_is_name : (t : ℕ) → t < 2 ^ 32 → IsName (task_name t)
task_is_name t small =
    let text = number_text t small in
    let short : nat_le (length (task_name t)) MAX_NAME ≡ true = le-leb (length (task_name t)) MAX_NAME (omega (arith, text.short)) in
    rw (short, digits_are_name (decimal t) text.digits) refl
