-- How far a code is relayed from a record is how far it is relayed from its task.
use Rattle.std.proofs.Common.{ℕ, suc, ◌≡◌, ◌+◌, ◌≤◌, Bool, true, false, List, [], ◌∷◌, length, Some, refl, ap, sym, ◌∙◌, arith}
use Rattle.std.specs.Prelude.{if◌then◌else◌}
use Rattle.std.proofs.lemmas.Bool.{eq-eqb}
use Rattle.std.proofs.lemmas.List.{length-map}
use Rattle.fj_rules.specs.declared.event.Event.{Event}
use Rattle.fj_rules.specs.Bounds.{Bounds, Pool}
use Rattle.fj_rules.specs.Tasks.{kind, relay_in}
use Rattle.fj_rules.specs.Statuses.{status, is_undone}
use Rattle.fj_rules.specs.Climbs.{path, relayed, relayed_along}
use Rattle.fj_tree.specs.Handles.{Handle}
use Rattle.fj_tree.specs.Records.{Records, IsGood, record_of}
use Rattle.fj_tree.specs.Relays.{is_undone_at, relays_at, undone_in}
use Rattle.fj_tree.specs.Relays as relays
use Rattle.fj_tree.specs.Paths as ways
use Rattle.fj_tree.proofs.Index.Finds.{named_record}
use Rattle.fj_ledger.proofs.Paths.ClimbsTold.{way_short}
use Rattle.fj_ledger.proofs.Paths.WaysTold.{Knows, AllGood, numbers, way_told}

-- whether the task of a record is undone, and whether its kind says relay
record_told : (l : Bounds) (pool : Pool) (h : List Event) (tree : Records) (x : Handle) → Knows l pool h tree → IsGood tree x
    → (is_undone_at tree x ≡ is_undone (status h x.serial)) × (relays_at tree x ≡ relay_in (kind h x.serial))
record_told l pool h tree x k good =
    let named = named_record tree x good in
    let here : record_of tree x ≡ Some named.0 = rw (named.1, eq-eqb named.0.serial x.serial named.2) refl in
    let tells = k.keeps.each x.key named.0 named.1 in (
      ap undone_in here ∙ ap is_undone (sym tells.status ∙ ap (status h) named.2),
      rw here (ap relay_in (sym tells.kind ∙ ap (kind h) named.2)),
    )

relay_list : (l : Bounds) (pool : Pool) (h : List Event) (tree : Records) (hs : List Handle) → Knows l pool h tree → AllGood tree hs → numbers (relays.relayed_along tree hs) ≡ relayed_along h (numbers hs)
unfolding relayed_along
relay_list l pool h tree [] k good = refl
relay_list l pool h tree (x ∷ hs) k good =
    let told = record_told l pool h tree x k good.0 in
    rw (told.0, told.1) (go (is_undone (status h x.serial)) (relay_in (kind h x.serial)) (relay_list l pool h tree hs k good.1))
  where
    go : (b r : Bool) → numbers (relays.relayed_along tree hs) ≡ relayed_along h (numbers hs)
        → numbers (if b then x ∷ (if r then relays.relayed_along tree hs else []) else []) ≡ (if b then x.serial ∷ (if r then relayed_along h (numbers hs) else []) else [])
    go true true rest = ap (λ (ts : List ℕ). x.serial ∷ ts) rest
    go true false rest = refl
    go false r rest = refl

pub relayed_told : (l : Bounds) (pool : Pool) (h : List Event) (tree : Records) (at : Handle) → Knows l pool h tree → IsGood tree at → length (relays.relayed tree at) ≡ length (relayed h at.serial)
unfolding relayed relays.relayed
relayed_told l pool h tree at k good =
    let way = way_told l pool h tree at k good in
    let same : length (numbers (relays.relayed_along tree (ways.path tree at))) ≡ length (relays.relayed_along tree (ways.path tree at)) = rw length-map refl in
    sym same ∙ ap length (relay_list l pool h tree (ways.path tree at) k way.good ∙ ap (relayed_along h) way.numbers)

-- no more get it than the number of the task and one
relay_short : (h : List Event) (way : List ℕ) → length (relayed_along h way) ≤ length way
unfolding relayed_along
relay_short h [] = omega arith
relay_short h (c ∷ above) = go (is_undone (status h c)) (relay_in (kind h c)) (relay_short h above)
  where
    go : (b r : Bool) → length (relayed_along h above) ≤ length above → length (if b then c ∷ (if r then relayed_along h above else []) else []) ≤ length (c ∷ above)
    go true true rest = omega (arith, rest)
    go true false rest = omega arith
    go false r rest = omega arith

pub few_relayed : (h : List Event) (t : ℕ) → length (relayed h t) ≤ t + 1
unfolding relayed path
few_relayed h t = omega (arith, relay_short h (path h t), way_short (suc t) h (Some t))
