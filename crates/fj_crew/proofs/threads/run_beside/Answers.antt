use mathlib.Core.Bool.{true}
use mathlib.Core.Path.{refl}
use denote.Exit.{no}
use denote.Param.Send.{arg_send, arg_sync, param_send, param_sync}
use Rattle.fj_crew.proofs.threads.run_beside.Goals as goal

-- the caller is there, and the bounds are those of `run_all`
pub scoped-requires : goal.scoped-requires
scoped-requires g c = let bounds = c.type_bounds in record {
  at = λ _. (
    refl {a = true},
    (
      param_send 0 _ (arg_send _ no _ bounds.send-H),
      param_sync 1 _ (arg_sync _ no _ bounds.sync-C),
      param_sync 3 _ (arg_sync _ no _ bounds.sync-R),
    ),
  );
}
