-- The way from a record to its root is the way from its task.
use Rattle.std.proofs.Common.{ℕ, zero, suc, ◌≡◌, ◌-◌, true, List, [], ◌∷◌, length, map, Option, Some, None, refl, ap, sym, ◌∙◌, arith}
use Rattle.std.specs.Prelude.{IsSome, slice_get, option_and_then}
use Rattle.std.proofs.lemmas.Bool.{eq-eqb}
use Rattle.fj_rules.specs.declared.event.Event.{Event}
use Rattle.fj_rules.specs.Bounds.{Bounds, Pool}
use Rattle.fj_rules.specs.Lists.{last_of}
use Rattle.fj_rules.specs.Tasks.{is_kept, kind, parent}
use Rattle.fj_rules.specs.Climbs.{path_up, path}
use Rattle.fj_rules.specs.Answers.{root_of}
use Rattle.fj_rules.specs.Allowed.{AllowedFrom}
use Rattle.fj_rules.proofs.Completers.KeptParents.{parent_kept}
use Rattle.fj_tree.specs.Handles.{Handle}
use Rattle.fj_tree.specs.Records.{Records, IsGood, record_of, handle_of}
use Rattle.fj_tree.specs.Paths.{above, and_on, last_from}
use Rattle.fj_tree.specs.Paths as ways
use Rattle.fj_tree.proofs.Index.Finds.{named_record}
use Rattle.fj_tree.proofs.Index.Numbers.{good_found}
use Rattle.fj_ledger.specs.Holds.{KeepsTree}
use Rattle.fj_ledger.proofs.Recorded.Located.{numbered}

-- each of the handles is good
abbrev pub AllGood : Records → List Handle → Type 0
AllGood tree [] = Unit {0}
AllGood tree (x ∷ xs) = IsGood tree x × AllGood tree xs

abbrev pub numbers : List Handle → List ℕ
numbers hs = map (λ x. x.serial) hs

-- what is known of the records and the history
pub record Knows (l : Bounds) (pool : Pool) (h : List Event) (tree : Records) : Type 0 where
  pub so : AllowedFrom pool [] h
  pub keeps : KeepsTree l h tree

-- the parent that a record names
named_parent : (l : Bounds) (pool : Pool) (h : List Event) (tree : Records) (at : Handle) → Knows l pool h tree → IsGood tree at
    → above tree at ≡ option_and_then (handle_of tree) (parent h at.serial)
unfolding parent
named_parent l pool h tree at k good =
    let named = named_record tree at good in
    let here : record_of tree at ≡ Some named.0 = rw (named.1, eq-eqb named.0.serial at.serial named.2) refl in
    let tells = k.keeps.each at.key named.0 named.1 in
    let kinds : kind h at.serial ≡ Some named.0.kind = ap (kind h) (sym named.2) ∙ tells.kind in
    rw (here, kinds) refl

-- the record above, where the task has a parent
pub record IsAbove (tree : Records) (at : Handle) (p : ℕ) : Type 0 where
  pub up : Handle
  pub is : above tree at ≡ Some up
  pub good : IsGood tree up
  pub number : up.serial ≡ p

-- the task of a record is kept
good_kept : (l : Bounds) (h : List Event) (tree : Records) (at : Handle) → KeepsTree l h tree → IsGood tree at → is_kept h at.serial ≡ true
good_kept l h tree at keeps good =
    let named = named_record tree at good in ap (is_kept h) (sym named.2) ∙ (keeps.each at.key named.0 named.1).kept

above_some : (l : Bounds) (pool : Pool) (h : List Event) (tree : Records) (at : Handle) (p : ℕ) → Knows l pool h tree → IsGood tree at → parent h at.serial ≡ Some p → IsAbove tree at p
above_some l pool h tree at p k good is = go (handle_of tree p) refl (k.keeps.all p (parent_kept pool h at.serial p k.so (good_kept l h tree at k.keeps good) is))
  where
    go : (found : Option Handle) → handle_of tree p ≡ found → IsSome found → IsAbove tree at p
    go None none there = absurd cc
    go (Some up) some there = record {
      up = up;
      is = named_parent l pool h tree at k good ∙ rw is some;
      good = good_found tree p up some;
      number = numbered tree p up some;
    }

above_none : (l : Bounds) (pool : Pool) (h : List Event) (tree : Records) (at : Handle) → Knows l pool h tree → IsGood tree at → parent h at.serial ≡ None → above tree at ≡ None
above_none l pool h tree at k good is = named_parent l pool h tree at k good ∙ rw is refl

no_way : (n : ℕ) (h : List Event) → path_up n h None ≡ []
unfolding path_up
no_way zero h = refl
no_way (suc n) h = refl

-- the handles on the way, and their numbers
pub record IsWay (tree : Records) (hs : List Handle) (ts : List ℕ) : Type 0 where
  pub good : AllGood tree hs
  pub numbers : numbers hs ≡ ts

way_up : (l : Bounds) (pool : Pool) (h : List Event) (tree : Records) (n : ℕ) (at : Handle) → Knows l pool h tree → IsGood tree at → IsWay tree (ways.path_up n tree at) (path_up n h (Some at.serial))
unfolding path_up ways.path_up
way_up l pool h tree zero at k good = record { good = tt; numbers = refl }
way_up l pool h tree (suc n) at k good = go (parent h at.serial) refl (λ up here. way_up l pool h tree n up k here)
  where
    go : (p : Option ℕ) → parent h at.serial ≡ p → ((up : Handle) → IsGood tree up → IsWay tree (ways.path_up n tree up) (path_up n h (Some up.serial)))
        → IsWay tree (at ∷ and_on (ways.path_up n tree) (above tree at)) (at.serial ∷ path_up n h (parent h at.serial))
    go None none rest = rw (above_none l pool h tree at k good none, none, no_way n h) (record { good = (good, tt); numbers = refl })
    go (Some p) some rest =
        let a = above_some l pool h tree at p k good some in
        let later = rest a.up a.good in
        rw (a.is, some) (record { good = (good, later.good); numbers = ap (λ (ts : List ℕ). at.serial ∷ ts) (later.numbers ∙ ap (λ (u : ℕ). path_up n h (Some u)) a.number) })

-- the way from a record
pub way_told : (l : Bounds) (pool : Pool) (h : List Event) (tree : Records) (at : Handle) → Knows l pool h tree → IsGood tree at → IsWay tree (ways.path tree at) (path h at.serial)
unfolding path ways.path
way_told l pool h tree at k good = way_up l pool h tree (suc at.serial) at k good

last_number : (x : Handle) (xs : List Handle) → last_of (numbers (x ∷ xs)) ≡ Some (last_from x xs).serial
last_number x [] = refl
last_number x (y ∷ xs) = last_more x.serial y.serial (numbers xs) ∙ last_number y xs
  where
    last_more : (c u : ℕ) (us : List ℕ) → last_of (c ∷ u ∷ us) ≡ last_of (u ∷ us)
    last_more c u us = let longer : length (c ∷ u ∷ us) - 1 ≡ suc (length (u ∷ us) - 1) = omega arith in ap (slice_get (c ∷ u ∷ us)) longer

root_number : (tree : Records) (at : Handle) → last_of (numbers (ways.path tree at)) ≡ Some (ways.root_of tree at).serial
unfolding ways.path ways.path_up ways.root_of
root_number tree at = last_number at (and_on (ways.path_up at.serial tree) (above tree at))

-- the root
pub root_told : (l : Bounds) (pool : Pool) (h : List Event) (tree : Records) (at : Handle) → Knows l pool h tree → IsGood tree at → root_of (path h at.serial) ≡ Some (ways.root_of tree at).serial
root_told l pool h tree at k good = ap last_of (sym (way_told l pool h tree at k good).numbers) ∙ root_number tree at
