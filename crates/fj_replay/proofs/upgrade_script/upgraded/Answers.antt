use Rattle.std.proofs.Common.{rules, ◌≢◌}
use Rattle.fj_replay.specs.declared.fault.ReplayFault.TheVariants.{Write}
use Rattle.fj_replay.proofs.NeverRead.{never_read}
use Rattle.fj_replay.proofs.Ends.{ends_in_memory, write_is_memory}
use Rattle.fj_replay.proofs.upgrade_script.upgraded.Goals as goal

pub returns-in-Err-Write-clause-err : goal.returns-in-Err-Write-clause-err
returns-in-Err-Write-clause-err c =
    let e = c.in-Err-Write.ensures.err in
    (e.0, _, _, ends_in_memory _ _ _ _ _ _ _ _ c.new-rest.ensures.rest c.new-written.ensures.items (write_is_memory _ _ _ _ _ _ (rw c.in-Err-Write.field-0-is at e.1)))

pub returns : goal.returns
returns c =
    let e = c.in-Err.ensures.err in
    let other : c.in-Err.fault ≢ Write = search rules in
    record {
      script = tt;
      text = tt;
      err = (e.0, _, _, ends_in_memory _ _ _ _ _ _ _ _ c.new-rest.ensures.rest c.new-written.ensures.items e.1);
      in_memory = (never_read c.in-Err.fault _ _ e.0 _ _ _ _ c.new-rest.result.few c.upgrade.new.r.few e.1.read e.2, other);
    }
