use Rattle.std.proofs.Common.{Some}
use Rattle.fj_agreement.proofs.end.End.agree_on.Given as goal

-- the call agrees on what the teller tells
abbrev pub ghosts-agree_as : goal.ghosts-agree_as
ghosts-agree_as g a = record { chosen = Some (g.T.Tells.told a._teller.now) }
