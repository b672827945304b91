use Rattle.std.proofs.Common.{ℕ, ◌≡◌, ◌<◌, true, length, ap, sym, ◌∙◌, subst, arith}
use Rattle.std.proofs.lemmas.Bool.{ltb-true}
use Rattle.fj_rules.specs.Bounds.{Pool}
use Rattle.fj_rules.specs.Tasks.{accepted, is_kept}
use Rattle.fj_rules.specs.Climbs.{relayed}
use Rattle.fj_rules.specs.Runs.{Past}
use Rattle.fj_rules.proofs.Events.Lawful.{is_numbered}
use Rattle.fj_ledger.proofs.Recorded.Located.{located, good_at}
use Rattle.fj_ledger.proofs.Paths.RelaysTold.{relayed_told, few_relayed}
use Rattle.fj_ledger.proofs.Updates.Spent.{few_accepted}
use Rattle.fj_ledger.proofs.ledger.Ledger.relay_look.Goals as goal
use Rattle.fj_ledger.proofs.ledger.Ledger.relay_look.Goals.{After-self, After-relay_look}
use Rattle.fj_rules.proofs.Events.KindsKept.{kept_known}

kept : (c : After-self) → is_kept c.self.inside.log.events c.args.t.serial ≡ true
kept c = subst (λ (p : Past). is_kept p.events c.args.t.serial ≡ true) (sym c.self.view_is) c.requires.kept

pub unwrap-requires : goal.unwrap-requires
unwrap-requires c =
    let at = (goal.at.unwrap-requires c).After-self in
    rw c.renew.ensures.found (c.self.invariant.holds.tree_kept.all c.args.t.serial (kept at))

pub relay_look-requires : goal.relay_look-requires
relay_look-requires c =
    let l = located c.self.inside.tree c.args.t.serial c.renew.result c.unwrap.result c.renew.ensures.found c.renew.ensures.good c.unwrap.ensures in
    good_at c.self.inside.tree c.args.t.serial c.unwrap.result l

-- how many they are
count : (c : After-relay_look) → c.relay_look.result ≡ length (relayed c.self.inside.log.events c.args.t.serial)
count c =
    let pool : Pool = record { mode = c.self.inside.mode; limits = c.self.inside.limits } in
    let h = c.self.inside.log.events in
    let holds = c.self.invariant.holds in
    let l = located c.self.inside.tree c.args.t.serial c.renew.result c.unwrap.result c.renew.ensures.found c.renew.ensures.good c.unwrap.ensures in
    c.relay_look.ensures
    ∙ relayed_told pool.limits pool h c.self.inside.tree c.unwrap.result (record { so = holds.lawful; keeps = holds.tree_kept }) (good_at c.self.inside.tree c.args.t.serial c.unwrap.result l)
    ∙ ap (λ (u : ℕ). length (relayed h u)) l.number

pub returns-clause-count : goal.returns-clause-count
returns-clause-count c =
    let at = goal.at.returns-clause-count c in
    count at.After-relay_look ∙ ap (λ (p : Past). length (relayed p.events c.args.t.serial)) at.After-self.self.view_is

pub returns-clause-few : goal.returns-clause-few
returns-clause-few c =
    let at = goal.at.returns-clause-few c in
    let pool : Pool = record { mode = c.self.inside.mode; limits = c.self.inside.limits } in
    let h = c.self.inside.log.events in
    let t = c.args.t.serial in
    let holds = c.self.invariant.holds in
    let there : t < accepted h = ltb-true t (accepted h) (sym (is_numbered pool h holds.lawful t) ∙ kept_known h t (kept at.After-self)) in
    omega (arith, count at.After-relay_look, few_relayed h t, there, few_accepted h, holds.fits, holds.sealed_part.few, holds.within.few_events)
