use Rattle.fj_tree.specs.Records.{IsGood}
use Rattle.fj_tree.proofs.Ascents.Relaying.{HasRelayed}
use Rattle.fj_tree.proofs.tree.Tree.relay_look.Given as goal

-- those from here on are the others that get it
abbrev pub invariant-loop-at : goal.invariant-loop-at
invariant-loop-at l = record {
  good : IsGood l.self l.at;
  relays : HasRelayed l.self l.fn.h l.at l.relayed;
}

abbrev pub decreases-loop-at : goal.decreases-loop-at
decreases-loop-at l = l.at.serial
