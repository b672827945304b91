use Rattle.std.proofs.Common.{◌∙◌, subst}
use Rattle.fj_body.specs.Acting.{Acts}
use Rattle.fj_guarded.proofs.Keeping.{others_of}
use Rattle.fj_guarded.proofs.guarded.Guarded.note_and_act.Goals as goal

pub returns : goal.returns
returns g c =
    let acted = c.act.ensures in record {
      acts = subst (λ hand. Acts g.B.Body.key_of c.args.self.now.store hand c.args.ask c.act.result c.act.new.self.store c.act.new.hand) c.note.ensures.notes acted.acts;
      others = acted.others;
      right = acted.right;
      fits = acted.fits;
      keeps = others_of c.args.hand.now.worker c.note.new.hand.worker c.args.self.now.store.past c.act.new.self.store.past c.note.ensures.worker acted.keeps;
      worker = acted.worker ∙ c.note.ensures.worker;
    }
