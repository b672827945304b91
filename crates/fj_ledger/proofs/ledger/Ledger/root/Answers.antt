use Rattle.std.proofs.Common.{ℕ, ◌≡◌, Some, ap, sym, ◌∙◌}
use Rattle.fj_rules.specs.Bounds.{Pool}
use Rattle.fj_rules.specs.Climbs.{path}
use Rattle.fj_rules.specs.Answers.{root_of}
use Rattle.fj_tree.specs.Handles.{Handle}
use Rattle.fj_ledger.proofs.Recorded.Located.{located, good_at}
use Rattle.fj_ledger.proofs.Paths.WaysTold.{root_told}
use Rattle.fj_ledger.proofs.ledger.Ledger.root.Goals as goal

pub returns-clause-root : goal.returns-clause-root
returns-clause-root c =
    let pool : Pool = record { mode = c.self.inside.mode; limits = c.self.inside.limits } in
    let h = c.self.inside.log.events in
    let holds = c.self.invariant.holds in
    let l = located c.self.inside.tree c.args.t.serial c.renew.result c.unwrap.result c.renew.ensures.found c.renew.ensures.good c.unwrap.ensures in
    let told = root_told pool.limits pool h c.self.inside.tree c.unwrap.result (record { so = holds.lawful; keeps = holds.tree_kept }) (good_at c.self.inside.tree c.args.t.serial c.unwrap.result l) in
    let there : root_of (path h c.args.t.serial) ≡ Some c.root.result.serial = ap (λ (u : ℕ). root_of (path h u)) (sym l.number) ∙ told ∙ ap (λ (x : Handle). Some x.serial) (sym c.root.ensures.root) in
    rw (← c.self.view_is) there
