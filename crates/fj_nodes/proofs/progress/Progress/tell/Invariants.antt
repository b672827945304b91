use Rattle.std.specs.Prelude.{IfSome, slice_get, true}
use Rattle.std.proofs.Common.{ℕ, ◌≡◌, ◌<◌}
use Rattle.fj_nodes.specs.Courses.{IsFate, IsLeftOut}
use Rattle.fj_nodes.proofs.progress.Progress.tell.Given as goal

-- the nodes so far have their fates, and one was left out where this is told
abbrev pub invariant-loop-number : goal.invariant-loop-number
invariant-loop-number g l =
    ((n : ℕ) → n < l.number → IfSome (slice_get l.self.fates.items n) (IsFate g.G.NamedGraph.graph l.stopped l.self.course.items n))
    × (l.stopped ≡ true → (n : ℕ) × IsLeftOut g.G.NamedGraph.graph l.self.course.items n)
