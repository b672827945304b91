-- The chains of all owners, and what is seen of them.
use Rattle.fj_queues.specs.declared.cells.Cell.{Cell}
use Rattle.fj_queues.specs.declared.ends.Ends.{Ends}
use Rattle.fj_queues.specs.Cells.{serial_at, older_at, newer_at, IsWritten}
use Rattle.fj_queues.specs.Chains.{IsChain, OnlyThese, walk}
use Rattle.fj_queues.specs.Queues.{all_in}
use Rattle.fj_queues.specs.Tables.{no_ends, numbers_from, lists_of}
use Rattle.fj_queues.proofs.Chains.Links.{leads_kept, follows_kept, walked, map_all, map_kept}
use Rattle.fj_rules.specs.Lists.{times_in}
use Rattle.std.specs.List.{sum_by}
use Rattle.std.proofs.Common.{arith, ◌+◌, ◌==◌, ℕ, ◌≡◌, ◌≢◌, ◌<◌, ◌≤◌, List, [], ◌∷◌, length, get_or, map, Bool, true, false, None, ap, subst, sym, ◌∙◌, refl}
use Rattle.std.proofs.Math.ListN.{set}
use Rattle.std.proofs.lemmas.Bool.{eqb-true, eqb-false}
use Rattle.std.proofs.lemmas.List.{map-set, get_or-map, get_or-set_same, get_or-set_other, length-map, length-set, ext_get_or}
use Rattle.std.proofs.lemmas.List.Sums.{sum_by-set, sum_by-cons}

-- the cells at the ends of the owners are linked by these chains
abbrev pub AreLinked : List Cell → List Ends → List (List ℕ) → Type 0
AreLinked cells ends chains = (o : ℕ) → o < length ends → IsChain cells (get_or ends o no_ends) (get_or chains o [])

pub chain_in_all : (c : ℕ) (chains : List (List ℕ)) (o : ℕ) → o < length chains → times_in c (get_or chains o []) ≤ sum_by (times_in c) chains
chain_in_all c chains o within = omega (arith, sum_by-set (times_in c) chains o [] [] within)

pub two_in_all : (c : ℕ) (chains : List (List ℕ)) (o p : ℕ) → o < length chains → p < length chains → p ≢ o
    → times_in c (get_or chains o []) + times_in c (get_or chains p []) ≤ sum_by (times_in c) chains
two_in_all c chains o p within also other =
    let rest = sum_by-set (times_in c) chains o [] [] within in
    let there = chain_in_all c (set chains o []) p (omega (arith, length-set chains o [])) in
    omega (arith, rest, there, ap (times_in c) (get_or-set_other chains o p [] [] other))

pub chain_kept : (old new : List Cell) (e : Ends) (cs : List ℕ) → ((c : ℕ) → 0 < times_in c cs → newer_at new c ≡ newer_at old c) → ((c : ℕ) → 0 < times_in c cs → older_at new c ≡ older_at old c)
    → IsChain old e cs → IsChain new e cs
chain_kept old new e cs newer older chain =
    record {
      oldest = chain.oldest;
      newest = chain.newest;
      counted = chain.counted;
      leads = leads_kept (newer_at old) (newer_at new) cs None newer chain.leads;
      follows = follows_kept (older_at old) (older_at new) None cs older chain.follows;
    }

pub numbers_are : (cells : List Cell) (e : Ends) (cs : List ℕ) → IsChain cells e cs → numbers_from cells e.len e.oldest ≡ map (serial_at cells) cs
numbers_are cells e cs chain =
    ap (map (serial_at cells)) (ap (λ n. walk (newer_at cells) n e.oldest) chain.counted ∙ ap (walk (newer_at cells) (length cs)) chain.oldest ∙ walked (newer_at cells) cs chain.leads)

pub lists_are : (cells : List Cell) (ends : List Ends) (chains : List (List ℕ)) → length chains ≡ length ends → AreLinked cells ends chains
    → lists_of cells ends ≡ map (map (serial_at cells)) chains
lists_are cells ends chains owners linked =
    let numbers : Ends → List ℕ = λ e. numbers_from cells e.len e.oldest in
    ext_get_or [] (lists_of cells ends) (map (map (serial_at cells)) chains) (omega (arith, length-map ends numbers, length-map chains (map (serial_at cells)))) (λ o within.
    let there : o < length ends = omega (arith, length-map ends numbers) in
    get_or-map numbers ends o no_ends [] there ∙ numbers_are cells _ _ (linked o there) ∙ sym (get_or-map (map (serial_at cells)) chains o [] [] (omega arith)))

-- as many numbers are seen as there are cells in the chains
pub all_numbers : (f : ℕ → ℕ) (chains : List (List ℕ)) → all_in (map (map f) chains) ≡ all_in chains
all_numbers f [] = refl
all_numbers f (cs ∷ chains) =
    omega (arith, sum_by-cons length (map f cs) (map (map f) chains), sum_by-cons length cs chains, length-map cs f, all_numbers f chains)

-- one owner's chain is another one, and the cells of the others are as they were
pub linked_anew : (old new : List Cell) (ends : List Ends) (chains : List (List ℕ)) (o : ℕ) (e : Ends) (cs touched : List ℕ)
    → length chains ≡ length ends → AreLinked old ends chains → o < length ends → OnlyThese old new touched → IsChain new e cs
    → ((p c : ℕ) → p < length chains → p ≢ o → 0 < times_in c (get_or chains p []) → times_in c touched ≡ 0)
    → AreLinked new (set ends o e) (set chains o cs)
linked_anew old new ends chains o e cs touched owners linked within only chain apart p there = go (p == o) refl
  where
    go : (b : Bool) → (p == o) ≡ b → IsChain new (get_or (set ends o e) p no_ends) (get_or (set chains o cs) p [])
    go true is =
        let here : IsChain new (get_or (set ends o e) o no_ends) (get_or (set chains o cs) o []) =
        rw (get_or-set_same ends o e no_ends within, get_or-set_same chains o cs [] (omega arith)) chain in
        subst (λ q. IsChain new (get_or (set ends o e) q no_ends) (get_or (set chains o cs) q [])) (sym (eqb-true p o is)) here
    go false is =
        let other : p ≢ o = eqb-false p o is in
        let also : p < length ends = omega (arith, length-set ends o e) in
        let kept = chain_kept old new (get_or ends p no_ends) (get_or chains p [])
        (λ c some. only.newer_stays c (apart p c (omega arith) other some))
        (λ c some. only.older_stays c (apart p c (omega arith) other some)) (linked p also) in
        rw (get_or-set_other ends o p e no_ends other, get_or-set_other chains o p cs [] other) kept

-- what is seen then
pub lists_anew : (old new : List Cell) (ends : List Ends) (chains : List (List ℕ)) (o : ℕ) (e : Ends) (cs : List ℕ)
    → length chains ≡ length ends → AreLinked old ends chains → AreLinked new (set ends o e) (set chains o cs) → ((c : ℕ) → serial_at new c ≡ serial_at old c)
    → lists_of new (set ends o e) ≡ set (lists_of old ends) o (map (serial_at old) cs)
lists_anew old new ends chains o e cs owners linked later same =
    lists_are new (set ends o e) (set chains o cs) (omega (arith, length-set ends o e, length-set chains o cs)) later
    ∙ map_all (map (serial_at old)) (map (serial_at new)) (set chains o cs) (λ ds. map_all (serial_at old) (serial_at new) ds same)
    ∙ map-set (map (serial_at old)) chains o cs
    ∙ ap (λ lists. set lists o (map (serial_at old) cs)) (sym (lists_are old ends chains owners linked))

-- a cell that is in no chain is written
pub linked_still : (old new : List Cell) (ends : List Ends) (chains : List (List ℕ)) (n : ℕ) (cell : Cell)
    → length chains ≡ length ends → AreLinked old ends chains → IsWritten old new n cell → sum_by (times_in n) chains ≡ 0 → AreLinked new ends chains
linked_still old new ends chains n cell owners linked written none o within =
    let other : (c : ℕ) → 0 < times_in c (get_or chains o []) → c ≢ n =
    λ c some same. omega (arith, chain_in_all n chains o (omega arith), ap (λ d. times_in d (get_or chains o [])) same) in
    chain_kept old new _ _ (λ c some. ap (λ (x : Cell). x.newer) (written.others c (other c some))) (λ c some. ap (λ (x : Cell). x.older) (written.others c (other c some))) (linked o within)

pub lists_still : (old new : List Cell) (ends : List Ends) (chains : List (List ℕ)) (n : ℕ) (cell : Cell)
    → length chains ≡ length ends → AreLinked old ends chains → IsWritten old new n cell → sum_by (times_in n) chains ≡ 0 → lists_of new ends ≡ lists_of old ends
lists_still old new ends chains n cell owners linked written none =
    lists_are new ends chains owners (linked_still old new ends chains n cell owners linked written none)
    ∙ go chains none
    ∙ sym (lists_are old ends chains owners linked)
  where
    go : (css : List (List ℕ)) → sum_by (times_in n) css ≡ 0 → map (map (serial_at new)) css ≡ map (map (serial_at old)) css
    go [] none = refl
    go (cs ∷ css) none =
        let parts = sum_by-cons (times_in n) cs css in
        let here = map_kept (serial_at old) (serial_at new) cs (λ c some. ap (λ (x : Cell). x.serial) (written.others c (λ same. omega (arith, ap (λ d. times_in d cs) same)))) in
        rw (here, go css (omega arith)) refl
