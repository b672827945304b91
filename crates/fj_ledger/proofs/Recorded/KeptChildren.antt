-- The count of children in a record tells whether a kept task names its task as the parent.
use Rattle.std.proofs.Common.{ℕ, zero, suc, ◌≡◌, ◌≤◌, Bool, true, false, not, List, Option, Some, None, refl, ap, sym, ◌∙◌, arith}
use Rattle.std.specs.Prelude.{◌==◌, nat_lt}
use Rattle.std.proofs.lemmas.Bool.{eq-eqb, eqb-true, lt-ltb, ne_eqb, true≢false}
use Rattle.fj_rules.specs.declared.event.Event.{Event}
use Rattle.fj_rules.specs.Bounds.{Bounds}
use Rattle.fj_rules.specs.Tasks.{parent, parent_in}
use Rattle.fj_rules.specs.Allowed.{has_kept_child}
use Rattle.fj_rules.proofs.Completers.KeptParents.{child_found, child_there}
use Rattle.fj_rules.proofs.Places.OnePlace.{never}
use Rattle.fj_tree.specs.declared.record.Record.{Record}
use Rattle.fj_tree.specs.Records.{Records, IsSound, record_at, is_named, names_parent, children_of}
use Rattle.fj_tree.proofs.Records.Counts.{count_none}
use Rattle.fj_tree.proofs.Index.Numbers.{at_found}
use Rattle.fj_tree.proofs.Ascents.Parents.{has_child}
use Rattle.fj_ledger.specs.Holds.{Tells, KeepsTree}

-- the parent of a task, as its record names it
parent_named : (h : List Event) (r : Record) → Tells h r → parent h r.serial ≡ parent_in (Some r.kind)
unfolding parent
parent_named h r tells = ap parent_in tells.kind

named_is : (o : Option ℕ) (t : ℕ) → is_named o t ≡ true → o ≡ Some t
named_is None t is = absurd cc
named_is (Some p) t is = ap Some (sym (eqb-true t p is))

-- a kept child is counted
some_child : (l : Bounds) (h : List Event) (tree : Records) (t : ℕ) → KeepsTree l h tree → has_kept_child h t ≡ true → 1 ≤ children_of tree t
some_child l h tree t keeps is =
    let child = child_there h t is in
    let a = at_found tree child.0 (keeps.all child.0 child.1) in
    has_child tree a.key a.found t a.at (sym (parent_named h a.found (keeps.each a.key a.found a.at)) ∙ ap (parent h) a.number ∙ child.2)

-- without one none is
no_children : (l : Bounds) (h : List Event) (tree : Records) (t : ℕ) → KeepsTree l h tree → has_kept_child h t ≡ false → children_of tree t ≡ 0
no_children l h tree t keeps none = count_none (names_parent t) tree.slots refl (λ key. go key (record_at tree key) refl)
  where
    go : (key : ℕ) (o : Option Record) → record_at tree key ≡ o → names_parent t (record_at tree key) ≡ false
    go key None is = rw is refl
    go key (Some r) is = rw is (never (is_named (parent_in (Some r.kind)) t) (λ named.
        let tells = keeps.each key r is in
        true≢false (sym (child_found h r.serial t tells.kept (parent_named h r tells ∙ named_is (parent_in (Some r.kind)) t named)) ∙ none)))

pub children_told : (l : Bounds) (h : List Event) (tree : Records) (t key : ℕ) (r : Record) → KeepsTree l h tree → IsSound tree → record_at tree key ≡ Some r → r.serial ≡ t
    → (r.children == 0) ≡ not (has_kept_child h t)
children_told l h tree t key r keeps sound at number = go (has_kept_child h t) refl
  where
    counted : r.children ≡ children_of tree t
    counted = sound.children key r at ∙ ap (children_of tree) number

    go : (b : Bool) → has_kept_child h t ≡ b → (r.children == 0) ≡ not (has_kept_child h t)
    go true is = rw is (ne_eqb r.children 0 (λ zero. omega (arith, counted, zero, some_child l h tree t keeps is)))
    go false is = rw is (eq-eqb r.children 0 (counted ∙ no_children l h tree t keeps is))

-- the same, as a query tells it
pub children_tell : (l : Bounds) (h : List Event) (tree : Records) (t key : ℕ) (r : Record) → KeepsTree l h tree → IsSound tree → record_at tree key ≡ Some r → r.serial ≡ t
    → nat_lt 0 r.children ≡ has_kept_child h t
children_tell l h tree t key r keeps sound at number = go r.children (has_kept_child h t) (children_told l h tree t key r keeps sound at number)
  where
    go : (n : ℕ) (b : Bool) → (n == 0) ≡ not b → nat_lt 0 n ≡ b
    go zero true is = absurd cc
    go zero false is = refl
    go (suc n) true is = lt-ltb 0 (suc n) (omega arith)
    go (suc n) false is = absurd (omega (arith, eqb-true (suc n) 0 is))
