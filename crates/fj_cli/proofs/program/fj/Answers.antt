use Rattle.std.proofs.Common.{⊎_elim, inl, inr, refl, subst, arith}
use Rattle.std.specs.Prelude.{IfSome}
use Rattle.clap.specs.Walk.{texts}
use Rattle.fj_arguments.specs.Commands.{Asks}
use Rattle.fj_arguments.proofs.Answered.{else_at_fault, shown_asks}
use Rattle.fj_cli.proofs.Ended.{script_ended, status_of_command, too_much}
use Rattle.fj_commands.proofs.Failed.{failed_broken}
use Rattle.fj_cli.proofs.program.fj.Goals as goal

pub returns-in-Ok-Some-clause-status : goal.returns-in-Ok-Some-clause-status
returns-in-Ok-Some-clause-status g c = status_of_command _ _ _ _ _ c.in-Ok-Some.asked c.run.ensures.ends

pub returns-in-Ok-Some-clause-known : goal.returns-in-Ok-Some-clause-known
returns-in-Ok-Some-clause-known g c =
    (script_ended _ _ _ _ _ (texts c.args.words.now) c.in-Ok-Some.asked c.in-Ok-Some.field-0 c.in-Ok-Some.field-0-is c.in-Ok-Some.ensures.known c.run.ensures.ends).0

pub returns-in-Ok-Some-clause-done : goal.returns-in-Ok-Some-clause-done
returns-in-Ok-Some-clause-done g c =
    (script_ended _ _ _ _ _ (texts c.args.words.now) c.in-Ok-Some.asked c.in-Ok-Some.field-0 c.in-Ok-Some.field-0-is c.in-Ok-Some.ensures.known c.run.ensures.ends).1

pub returns-in-Ok-Some-clause-ends : goal.returns-in-Ok-Some-clause-ends
returns-in-Ok-Some-clause-ends g c =
    inl (c.in-Ok-Some.asked, subst (λ o. IfSome o (λ a. Asks (texts c.args.words.now) a)) c.in-Ok-Some.field-0-is c.in-Ok-Some.ensures.asked, c.run.ensures.ends)

pub returns-in-Ok-Some-clause-failed : goal.returns-in-Ok-Some-clause-failed
returns-in-Ok-Some-clause-failed g c = λ five.
    ⊎_elim (λ copy. inl copy) (λ file. inr (inr (c.in-Ok-Some.asked, subst (λ o. IfSome o (λ a. Asks (texts c.args.words.now) a)) c.in-Ok-Some.field-0-is c.in-Ok-Some.ensures.asked, file))) (c.run.ensures.failed five)

pub returns-in-Ok-Some-clause-misused : goal.returns-in-Ok-Some-clause-misused
returns-in-Ok-Some-clause-misused g c = λ two. inr (inr (c.in-Ok-Some.asked, subst (λ o. IfSome o (λ a. Asks (texts c.args.words.now) a)) c.in-Ok-Some.field-0-is c.in-Ok-Some.ensures.asked, too_much _ _ _ _ _ c.in-Ok-Some.asked c.run.ensures.ends two))

pub returns-in-Ok-None-clause-ends : goal.returns-in-Ok-None-clause-ends
returns-in-Ok-None-clause-ends g c =
    inr (record {
      known = inr (inl c.told.ensures);
      unread = refl;
      shown = λ zero. absurd (omega (arith, zero, c.told.ensures));
      fault = λ two. inr (c.in-Ok-None.ensures.none c.in-Ok-None.field-0-is);
      silent = λ is. refl;
    })

pub returns-in-Ok-None-clause-misused : goal.returns-in-Ok-None-clause-misused
returns-in-Ok-None-clause-misused g c = λ two. inr (inl (c.in-Ok-None.ensures.none c.in-Ok-None.field-0-is))

pub returns-in-Err-clause-known : goal.returns-in-Err-clause-known
returns-in-Err-clause-known g c = λ script two.
    let four = c.without_command.ensures.out_of_memory (⊎_elim c.in-Err.ensures.known.0 c.in-Err.ensures.known.1 script) in omega (arith, two, four)

pub returns-in-Err-clause-done : goal.returns-in-Err-clause-done
returns-in-Err-clause-done g c =
    record {
      replayed = λ names zero. absurd (omega (arith, zero, c.without_command.ensures.out_of_memory (c.in-Err.ensures.known.0 names)));
      upgraded = λ names zero. absurd (omega (arith, zero, c.without_command.ensures.out_of_memory (c.in-Err.ensures.known.1 names)));
    }

pub returns-in-Err-clause-ends : goal.returns-in-Err-clause-ends
returns-in-Err-clause-ends g c =
    inr (record {
      known = c.without_command.ensures.status;
      unread = refl;
      shown = λ zero. shown_asks c.in-Err.error (texts c.args.words.now) c.in-Err.ensures.fault (c.without_command.ensures.shown zero);
      fault = λ two. inl (else_at_fault c.in-Err.error (texts c.args.words.now) c.in-Err.ensures.fault (c.without_command.ensures.fault_of_words two));
      silent = λ is. ⊎_elim c.without_command.ensures.words c.without_command.ensures.memory is;
    })

pub returns-in-Err-clause-failed : goal.returns-in-Err-clause-failed
returns-in-Err-clause-failed g c = λ five. ⊎_elim (λ written. inl (inr (failed_broken _ _ written))) (λ told. inr (inl told)) (c.without_command.ensures.failed five)

pub returns-in-Err-clause-misused : goal.returns-in-Err-clause-misused
returns-in-Err-clause-misused g c = λ two. inl (else_at_fault c.in-Err.error (texts c.args.words.now) c.in-Err.ensures.fault (c.without_command.ensures.fault_of_words two))
