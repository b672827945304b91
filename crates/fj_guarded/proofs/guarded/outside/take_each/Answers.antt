use Rattle.std.proofs.Common.{◌≡◌, ◌<◌, refl, sym, ap, ◌∙◌, subst, arith}
use Rattle.fj_rules.specs.Bounds.{Bounds, Pool}
use Rattle.fj_rules.specs.Pasts.{Past}
use Rattle.fj_guarded.specs.Looking.{TakesFrom, behind}
use Rattle.fj_guarded.proofs.Looking.{one_behind, takes_keep, takes_next, takes_none, takes_same, waits_or, waits_or_first}
use Rattle.fj_guarded.proofs.guarded.outside.take_each.Goals as goal

pub loop-look-init : goal.loop-look-init
loop-look-init g c = record {
  taken = takes_none g.B.Body.rooted_as (g.C.CoreView.state c.args.core.now).store.past.pool.limits.submitters c.args.first (g.C.CoreView.state c.args.core.now);
  at = refl;
  within = c.requires;
  waits = tt;
}

pub intake-answer-requires : goal.intake-answer-requires
intake-answer-requires g c =
    let submitters = (g.C.CoreView.state c.args.core.now).store.past.pool.limits.submitters in
    let same = takes_same g.B.Body.rooted_as submitters c.args.first c.loop-look._look (g.C.CoreView.state c.args.core.now) (g.C.CoreView.state c.loop-look.core) c.loop-look.taken c.loop-look.invariant.taken in
    subst (λ n. c.loop-look.s < n) (sym (ap (λ (p : Pool). p.limits.submitters) same)) c.loop-look.invariant.within

pub next_behind-s-requires : goal.next_behind-s-requires
next_behind-s-requires g c =
    let count = c.submitters-submitters.ensures.number ∙ ap (λ (b : Bounds). b.submitters) c.limits.ensures.limits ∙ ap (λ (p : Past). p.pool.limits.submitters) c.machine.ensures.is in
    subst (λ n. c.loop-look.s < n) (sym count) c.loop-look.invariant.within

pub loop-look-preserved : goal.loop-look-preserved
loop-look-preserved g c =
    let submitters = (g.C.CoreView.state c.args.core.now).store.past.pool.limits.submitters in
    let count = c.submitters-submitters.ensures.number ∙ ap (λ (b : Bounds). b.submitters) c.limits.ensures.limits ∙ ap (λ (p : Past). p.pool.limits.submitters) c.machine.ensures.is in
    let before = c.loop-look.invariant in record {
      taken = takes_next g.B.Body.rooted_as submitters c.args.first c.loop-look._look c.loop-look.s (g.C.CoreView.state c.args.core.now) (g.C.CoreView.state c.loop-look.core) (g.C.CoreView.state c.intake-answer.new.self) c.loop-look.taken c.count-taken.result c.intake-answer.result
          before.taken before.at c.intake-answer.ensures.intakes c.count-taken.ensures;
      at = one_behind submitters c.args.first c.loop-look._look c.loop-look.s c.next_behind-s.result before.at (subst (λ n. c.next_behind-s.result ≡ behind n c.loop-look.s) count c.next_behind-s.ensures.is);
      within = subst (λ n. c.next_behind-s.result < n) count c.next_behind-s.ensures.within;
      waits = rw c.or-waits.ensures (waits_or submitters c.loop-look.s c.loop-look.waits c.full.result before.waits c.full.ensures before.within);
    }

pub returns-clause-takes : goal.returns-clause-takes
returns-clause-takes g c =
    let submitters = (g.C.CoreView.state c.args.core.now).store.past.pool.limits.submitters in
    let all : c.loop-look._look ≡ c.submitters-submitters.result = omega (arith, c.loop-look-test.false, c.loop-look.auto._look-end) in
    subst (λ n. TakesFrom g.B.Body.rooted_as submitters c.args.first n (g.C.CoreView.state c.args.core.now) c.loop-look.taken (g.C.CoreView.state c.loop-look.core))
    (all ∙ c.submitters-submitters.ensures.number ∙ ap (λ (b : Bounds). b.submitters) c.limits.ensures.limits ∙ ap (λ (p : Past). p.pool.limits.submitters) c.machine.ensures.is)
    c.loop-look.invariant.taken

pub returns-clause-next : goal.returns-clause-next
returns-clause-next g c = rw c.unwrap_or.ensures (waits_or_first (g.C.CoreView.state c.args.core.now).store.past.pool.limits.submitters c.args.first c.loop-look.waits c.loop-look.invariant.waits c.requires)

pub returns-clause-lanes : goal.returns-clause-lanes
returns-clause-lanes g c =
    takes_keep g.B.Body.rooted_as (g.C.CoreView.state c.args.core.now).store.past.pool.limits.submitters c.args.first c.loop-look._look (g.C.CoreView.state c.args.core.now) (g.C.CoreView.state c.loop-look.core) c.loop-look.taken c.loop-look.invariant.taken

pub returns-clause-pool : goal.returns-clause-pool
returns-clause-pool g c =
    takes_same g.B.Body.rooted_as (g.C.CoreView.state c.args.core.now).store.past.pool.limits.submitters c.args.first c.loop-look._look (g.C.CoreView.state c.args.core.now) (g.C.CoreView.state c.loop-look.core) c.loop-look.taken c.loop-look.invariant.taken
