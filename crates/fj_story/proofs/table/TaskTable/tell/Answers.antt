use Rattle.std.proofs.Common.{rules, ◌≡◌, ◌+◌, [], ◌∷◌, sym, ap, ◌∙◌, subst, arith}
use Rattle.fj_rules.specs.declared.event.Event.{Event}
use Rattle.fj_rules.specs.Follows.{Follows}
use Rattle.fj_rules.specs.Pasts.{Past, grown}
use Rattle.fj_history.specs.declared.entry.Entry.{Entry}
use Rattle.fj_check.specs.Entries.{MayCome, past_after}
use Rattle.fj_story.proofs.Tabling.{tabled_more, told_fits, told_there}
use Rattle.fj_story.proofs.table.TaskTable.tell.Goals as goal

pub change_rows-requires-clause-there : goal.change_rows-requires-clause-there
change_rows-requires-clause-there c =
    let past : Past = c.self.inside.told.value in
    let e : Event = c.in-Event.event in
    let follows : Follows past e = subst (λ (x : Entry). MayCome past x) c.in-Event.is (subst (λ (p : Past). MayCome p c.args.entry.now) (sym c.self.view_is) c.requires.may) in
    told_there past c.self.inside.rows.items c.self.inside.events e follows c.self.invariant

pub change_rows-requires-clause-fits : goal.change_rows-requires-clause-fits
change_rows-requires-clause-fits c =
    let past : Past = c.self.inside.told.value in
    let e : Event = c.in-Event.event in
    let follows : Follows past e = subst (λ (x : Entry). MayCome past x) c.in-Event.is (subst (λ (p : Past). MayCome p c.args.entry.now) (sym c.self.view_is) c.requires.may) in
    told_fits past c.self.inside.rows.items c.self.inside.events e follows c.self.invariant

pub invariant_of-self-in-Event : goal.invariant_of-self-in-Event
invariant_of-self-in-Event c =
    let past : Past = c.self.inside.told.value in
    let e : Event = c.in-Event.event in
    let follows : Follows past e = subst (λ (x : Entry). MayCome past x) c.in-Event.is (subst (λ (p : Past). MayCome p c.args.entry.now) (sym c.self.view_is) c.requires.may) in
    let number : c.in-Some.now ≡ c.self.inside.events + 1 = first_of (omega (arith, c.in-Some.ensures), search rules) in
    let after : c.of.result.value ≡ grown past (e ∷ []) = c.of.ensures ∙ c.requires.after ∙ ap (λ (p : Past). past_after p c.args.entry.now) (sym c.self.view_is) ∙ ap (past_after past) c.in-Event.is in
    rw (after, c.in_ok-change_rows-in-Event.ensures.ok, number) (tabled_more past c.self.inside.rows.items c.self.inside.events e follows c.self.invariant)
