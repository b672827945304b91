use Rattle.std.proofs.Common.{◌≡◌, ◌≤◌, ◌+◌, All, vec_len, vec_capacity}
use Rattle.fj_submitter.proofs.Meeting.{Halfway}
use Rattle.fj_submitter.proofs.settling.settle.Given as goal

abbrev pub invariant-loop-submitter : goal.invariant-loop-submitter
invariant-loop-submitter g l = record {
  entrant_room : vec_len l.submitters + vec_len l.entrants ≤ vec_capacity l.entrants;
  rest_room : vec_len l.submitters + vec_len l.rests ≤ vec_capacity l.rests;
  gates : All (λ e. e.gate ≡ g.N.Naming.gate) l.entrants.items;
  halfway : Halfway l.fn.drains.items l.fn.submitters.items l.drains.items l.submitters.items l.entrants.items l.rests.items;
}

abbrev pub decreases-loop-submitter : goal.decreases-loop-submitter
decreases-loop-submitter g l = vec_len l.submitters
