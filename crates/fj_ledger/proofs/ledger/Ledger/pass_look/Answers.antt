use Rattle.std.proofs.Common.{ℕ, ◌≡◌, ◌-◌, ◌<◌, arith, true, length, ◌++◌, ◌∷◌, [], ap, sym, ◌∙◌, subst}
use Rattle.std.proofs.lemmas.Bool.{ltb-true}
use Rattle.fj_rules.specs.declared.event.Event.TheVariants.{End}
use Rattle.fj_rules.specs.Bounds.{Pool}
use Rattle.fj_rules.specs.Tasks.{accepted, is_completer}
use Rattle.fj_rules.specs.Stacks.{stack}
use Rattle.fj_rules.specs.Allowed.{Allowed}
use Rattle.fj_rules.specs.Runs.{Past}
use Rattle.fj_rules.proofs.Events.Lawful.{is_numbered}
use Rattle.fj_rules.proofs.Places.KeptPlaces.{held_kept}
use Rattle.fj_rules.proofs.Lists.Members.{get_is_in}
use Rattle.fj_rules.proofs.Events.Opening.{ended_accepted}
use Rattle.fj_ledger.specs.Climbing.{Climbs}
use Rattle.fj_ledger.proofs.Paths.ClimbsTold.{climbs_told, few_passed}
use Rattle.fj_ledger.proofs.Recorded.Located.{located, good_at, completer_at}
use Rattle.fj_ledger.proofs.Updates.Spent.{few_accepted}
use Rattle.fj_ledger.proofs.ledger.Ledger.pass_look.Goals as goal
use Rattle.fj_ledger.proofs.ledger.Ledger.pass_look.Goals.{After-self}

may : (c : After-self) → Allowed (record { mode = c.self.inside.mode; limits = c.self.inside.limits }) c.self.inside.log.events (End c.args.t.serial c.args.w)
may c = subst (λ (p : Past). Allowed p.pool p.events (End c.args.t.serial c.args.w)) (sym c.self.view_is) c.requires.may

completer : (c : After-self) → is_completer c.self.inside.log.events c.args.t.serial ≡ true
completer c = subst (λ (p : Past). is_completer p.events c.args.t.serial ≡ true) (sym c.self.view_is) c.requires.completer

pub unwrap-requires : goal.unwrap-requires
unwrap-requires c =
    let at = (goal.at.unwrap-requires c).After-self in
    let pool : Pool = record { mode = c.self.inside.mode; limits = c.self.inside.limits } in
    let h = c.self.inside.log.events in
    let holds = c.self.invariant.holds in
    rw c.renew.ensures.found (holds.tree_kept.all c.args.t.serial (held_kept pool h c.args.w c.args.t.serial holds.lawful (get_is_in c.args.t.serial (stack h c.args.w) (length (stack h c.args.w) - 1) (may at).0)))

pub pass_look-requires : goal.pass_look-requires
pass_look-requires c =
    let at = (goal.at.pass_look-requires c).After-self in
    let h = c.self.inside.log.events in
    let l = located c.self.inside.tree c.args.t.serial c.renew.result c.unwrap.result c.renew.ensures.found c.renew.ensures.good c.unwrap.ensures in
    completer_at h c.self.inside.tree c.args.t.serial c.unwrap.result l (c.self.invariant.holds.tree_kept.each c.unwrap.result.key l.found l.at) (completer at)

pub returns-clause-climbs : goal.returns-clause-climbs
returns-clause-climbs c =
    let at = (goal.at.returns-clause-climbs c).After-self in
    let pool : Pool = record { mode = c.self.inside.mode; limits = c.self.inside.limits } in
    let h = c.self.inside.log.events in
    let holds = c.self.invariant.holds in
    let l = located c.self.inside.tree c.args.t.serial c.renew.result c.unwrap.result c.renew.ensures.found c.renew.ensures.good c.unwrap.ensures in
    let ends : Allowed pool h (End c.unwrap.result.serial c.args.w) = subst (λ (u : ℕ). Allowed pool h (End u c.args.w)) (sym l.number) (may at) in
    let told = climbs_told pool.limits pool h c.self.inside.tree c.unwrap.result c.args.w c.pass_look.result (record { so = holds.lawful; keeps = holds.tree_kept })
    c.renew.ensures.sound (good_at c.self.inside.tree c.args.t.serial c.unwrap.result l) ends (ap (is_completer h) l.number ∙ completer at) c.pass_look.ensures.passed c.pass_look.ensures.ends in
    rw (← c.self.view_is) (subst (λ (u : ℕ). Climbs (h ++ End u c.args.w ∷ []) u c.pass_look.result) l.number told)

pub returns-clause-few : goal.returns-clause-few
returns-clause-few c =
    let at = (goal.at.returns-clause-few c).After-self in
    let pool : Pool = record { mode = c.self.inside.mode; limits = c.self.inside.limits } in
    let h = c.self.inside.log.events in
    let t = c.args.t.serial in
    let holds = c.self.invariant.holds in
    let l = located c.self.inside.tree t c.renew.result c.unwrap.result c.renew.ensures.found c.renew.ensures.good c.unwrap.ensures in
    let ends : Allowed pool h (End c.unwrap.result.serial c.args.w) = subst (λ (u : ℕ). Allowed pool h (End u c.args.w)) (sym l.number) (may at) in
    let told = climbs_told pool.limits pool h c.self.inside.tree c.unwrap.result c.args.w c.pass_look.result (record { so = holds.lawful; keeps = holds.tree_kept })
    c.renew.ensures.sound (good_at c.self.inside.tree t c.unwrap.result l) ends (ap (is_completer h) l.number ∙ completer at) c.pass_look.ensures.passed c.pass_look.ensures.ends in
    let there : t < accepted h = ltb-true t (accepted h) (sym (is_numbered pool h holds.lawful t) ∙ ended_accepted pool h t c.args.w holds.lawful (may at)) in
    let few = few_passed (h ++ End c.unwrap.result.serial c.args.w ∷ []) c.unwrap.result.serial in
    omega (arith, told.count, few, l.number, there, few_accepted h, holds.fits, holds.sealed_part.few, holds.within.few_events)
