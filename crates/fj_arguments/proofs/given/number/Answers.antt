use Rattle.std.proofs.Common.{arith}
use Rattle.std.specs.Str.Parse.{ExplainsUnsignedError, HasUnsignedDigitsIfOk, ParsesUnsigned}
use Rattle.clap.specs.Words.{found_of, rows_of}
use Rattle.fj_arguments.specs.Given.{Gives}
use Rattle.fj_arguments.proofs.Numbers.{gives_nothing, gives_number, gives_same}
use Rattle.fj_arguments.proofs.given.number.Goals as goal

pub returns-in-Some-clause-given : goal.returns-in-Some-clause-given
returns-in-Some-clause-given c =
    gives_number (λ bs r. ParsesUnsigned 32 10 bs r × ExplainsUnsignedError 10 bs r × HasUnsignedDigitsIfOk bs r) (λ t r reads. reads.0)
    (found_of c.args.matches.now) c.args.name.now c.in-Some.number c.get_one.result c.get_one.ensures.none c.get_one.ensures.value c.in-Some.is

pub returns-in_default-clause-none : goal.returns-in_default-clause-none
returns-in_default-clause-none c = λ n within gives.
    let read : Gives (rows_of (found_of c.args.matches.now)) c.args.name.now c.in-Some.number =
    gives_number (λ bs r. ParsesUnsigned 32 10 bs r × ExplainsUnsignedError 10 bs r × HasUnsignedDigitsIfOk bs r) (λ t r reads. reads.0)
    (found_of c.args.matches.now) c.args.name.now c.in-Some.number c.get_one.result c.get_one.ensures.none c.get_one.ensures.value c.in-Some.is in
    omega (arith, gives_same (rows_of (found_of c.args.matches.now)) c.args.name.now n c.in-Some.number gives read, within.1, c.if-number-most.false)

pub returns-in_default-2-clause-none : goal.returns-in_default-2-clause-none
returns-in_default-2-clause-none c = λ n within gives.
    let read : Gives (rows_of (found_of c.args.matches.now)) c.args.name.now c.in-Some.number =
    gives_number (λ bs r. ParsesUnsigned 32 10 bs r × ExplainsUnsignedError 10 bs r × HasUnsignedDigitsIfOk bs r) (λ t r reads. reads.0)
    (found_of c.args.matches.now) c.args.name.now c.in-Some.number c.get_one.result c.get_one.ensures.none c.get_one.ensures.value c.in-Some.is in
    omega (arith, gives_same (rows_of (found_of c.args.matches.now)) c.args.name.now n c.in-Some.number gives read, within.0, c.if-least-number.false)

pub returns-in_default-3-clause-none : goal.returns-in_default-3-clause-none
returns-in_default-3-clause-none c = λ n within gives.
    gives_nothing (λ bs r. ParsesUnsigned 32 10 bs r × ExplainsUnsignedError 10 bs r × HasUnsignedDigitsIfOk bs r) (λ t r reads. reads.0)
    (found_of c.args.matches.now) c.args.name.now n c.get_one.result c.get_one.ensures.value c.in_default.is (omega (arith, within.1, c.ranges.most.fits)) gives
