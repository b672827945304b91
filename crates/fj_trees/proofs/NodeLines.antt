-- The lines of nodes.
use Rattle.std.proofs.Common.{ℕ, zero, suc, ◌≡◌, ◌≢◌, ◌+◌, ◌<◌, ◌≤◌, ◌^◌, ◌∙◌, List, [], ◌∷◌, ◌++◌, Some, None, refl, sym, arith}
use Rattle.std.specs.Prelude.{Option}
use Rattle.std.specs.Fmt.{decimal}
use Rattle.fj_lines.specs.Lines.{parent_word}
use Rattle.fj_lines.specs.Words.{number_in}
use Rattle.fj_lines.proofs.Reading.NumberLaws.{number_text, number_found, number_again}
use Rattle.fj_trees.specs.declared.node.Node.{Node}
use Rattle.fj_trees.specs.Separators.{Without}
use Rattle.fj_trees.specs.Trees.{HasParentAt, IsNodeAt, IsNoNode, node_line}
use Rattle.fj_trees.proofs.Splits.{split_same, uncut, digits_without}

pub number_without : (s n : ℕ) → s < 48 → n < 2 ^ 32 → Without s (decimal n)
number_without s n low small = digits_without s (decimal n) low (number_text n small).digits

dash_without : (s : ℕ) → s < 45 → Without s (45 ∷ [])
dash_without s low zero lt e = omega (arith, e)
dash_without s low (suc i) lt e = absurd (omega (arith, lt))

pub parent_without : (s i : ℕ) (p : Option ℕ) → s < 45 → i < 4000 → HasParentAt i p → Without s (parent_word p)
parent_without s i None low few has = dash_without s low
parent_without s i (Some p) low few has = number_without s p (omega arith) (omega (arith, has))

-- ---- words of a node's line

-- a node's line that is cut at its first space is cut behind its parent
pub line_cut : (i : ℕ) (node : Node) (line u v : List ℕ) → IsNodeAt i node → Without 32 u → line ≡ u ++ 32 ∷ v → line ≡ node_line node → (u ≡ parent_word node.parent) × (v ≡ decimal node.value)
line_cut i node line u v at w cut is =
    split_same 32 u (parent_word node.parent) v (decimal node.value) w (parent_without 32 i node.parent (omega arith) at.0 at.1) (sym cut ∙ is)

-- a line without a space is no node's
pub no_space : (i : ℕ) (line : List ℕ) → Without 32 line → IsNoNode i line
no_space i line w = λ node at is. uncut 32 line (parent_word node.parent) (decimal node.value) w is

pub no_parent : (i : ℕ) (line u v : List ℕ) → Without 32 u → line ≡ u ++ 32 ∷ v → ((p : Option ℕ) → HasParentAt i p → u ≢ parent_word p) → IsNoNode i line
no_parent i line u v w cut none = λ node at is. none node.parent at.1 (line_cut i node line u v at w cut is).0

pub no_value : (i : ℕ) (line u v : List ℕ) → Without 32 u → line ≡ u ++ 32 ∷ v → ((n : ℕ) → n ≤ 1000000006 → v ≢ decimal n) → IsNoNode i line
no_value i line u v w cut none = λ node at is. none node.value at.2 (line_cut i node line u v at w cut is).1

pub is_line : (line u v : List ℕ) (p : Option ℕ) (n : ℕ) → line ≡ u ++ 32 ∷ v → u ≡ parent_word p → v ≡ decimal n → line ≡ node_line (record { parent = p; value = n })
is_line line u v p n cut first second = cut ∙ rw (first, second) refl

-- ---- numbers

-- a word that is no number is the text of none
pub no_number : (word : List ℕ) (most : ℕ) → most < 2 ^ 32 → number_in word ≡ None → (n : ℕ) → n ≤ most → word ≢ decimal n
no_number word most small none n le is =
    let found : number_in word ≡ Some n = rw is (number_again n (omega arith)) in
    absurd (let bad : Some n ≡ None = sym found ∙ none in cc)

-- a word that is a larger number is the text of no smaller one
pub larger_number : (word : List ℕ) (most m : ℕ) → most < 2 ^ 32 → number_in word ≡ Some m → most < m → (n : ℕ) → n ≤ most → word ≢ decimal n
larger_number word most m small found more n le is =
    let again : number_in word ≡ Some n = rw is (number_again n (omega arith)) in
    let same : m ≡ n = (let both : Some m ≡ Some n = sym found ∙ again in cc) in
    omega arith

pub number_is_text : (word : List ℕ) (n : ℕ) → number_in word ≡ Some n → word ≡ decimal n
number_is_text word n found = (number_found word n found).1

-- ---- parents

pub no_dash : (i : ℕ) (word : List ℕ) → i ≡ 0 → word ≢ 45 ∷ [] → (p : Option ℕ) → HasParentAt i p → word ≢ parent_word p
no_dash i word root other None has is = other is
no_dash i word root other (Some p) has is = absurd (omega (arith, has))

pub no_earlier : (i most : ℕ) (word : List ℕ) → i ≡ most + 1 → ((n : ℕ) → n ≤ most → word ≢ decimal n) → (p : Option ℕ) → HasParentAt i p → word ≢ parent_word p
no_earlier i most word e none None has is = absurd (omega (arith, has))
no_earlier i most word e none (Some p) has is = none p (omega (arith, has)) is
