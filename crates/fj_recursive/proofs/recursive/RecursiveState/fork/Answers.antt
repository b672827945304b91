use Rattle.fj_recursive.proofs.Stages.{leaves_unforked}
use Rattle.fj_recursive.proofs.recursive.RecursiveState.fork.Goals as goal

pub returns-then-is_err-clause-forks : goal.returns-then-is_err-clause-forks
returns-then-is_err-clause-forks g c = leaves_unforked g.J.Divide.key_of (λ b. b.inside.value.stage) (λ b. b.inside.value.lefts.items) c.args.left c.args.right _ _ c.give_up.ensures.leaves

pub returns-in-Err-clause-forks : goal.returns-in-Err-clause-forks
returns-in-Err-clause-forks g c = leaves_unforked g.J.Divide.key_of (λ b. b.inside.value.stage) (λ b. b.inside.value.lefts.items) c.args.left c.args.right _ _ c.give_up-in-Err.ensures.leaves
