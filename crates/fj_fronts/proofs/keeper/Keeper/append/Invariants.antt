use Rattle.std.proofs.Common.{Some}
use Rattle.fj_fronts.proofs.keeper.Keeper.append.Given as goal

-- the call appends the entry that the teller tells of
abbrev pub ghosts-append_as : goal.ghosts-append_as
ghosts-append_as g a = record { chosen = Some (g.T.Tells.told a._teller.now) }
