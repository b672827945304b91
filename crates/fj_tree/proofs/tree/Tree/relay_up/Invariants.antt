use Rattle.fj_tree.specs.Records.{IsGood}
use Rattle.fj_tree.proofs.Ascents.Relaying.{IsRelayed}
use Rattle.fj_tree.proofs.tree.Tree.relay_up.Given as goal

-- those from here on are the others that get it, and the ones before have got it
abbrev pub invariant-loop-status : goal.invariant-loop-status
invariant-loop-status l = record {
  good : IsGood l.self l.at;
  old_good : IsGood l.fn.self l.at;
  relays : IsRelayed l.status l.fn.self l.self l.fn.h l.at l.relayed;
}

abbrev pub decreases-loop-status : goal.decreases-loop-status
decreases-loop-status l = l.at.serial
