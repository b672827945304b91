use Rattle.std.proofs.Common.{refl, sym, ◌∙◌}
use Rattle.std.proofs.lemmas.Bool.{true≢false}
use Rattle.fj_guarded.proofs.Asking.{of_any, some_asks}
use Rattle.fj_guarded.proofs.Keeping.{keeps_others, same_keeps}
use Rattle.fj_guarded.proofs.guarded.Guarded.resume.Goals as goal

pub returns-then-is_empty : goal.returns-then-is_empty
returns-then-is_empty g c =
    let on = c.look_for_work.ensures in record {
      resumes = record { idle = λ none. on.looks; busy = λ some. absurd (some (c.is_empty.ensures.0 c.if-is_empty.true)) };
      right = on.right;
      leaves = on.leaves;
      fits = on.fits;
      others = on.others;
      worker = on.worker;
    }

pub join-requires-clause-asks : goal.join-requires-clause-asks
join-requires-clause-asks g c = (some_asks c.args.hand.now (λ none. true≢false (sym (c.is_empty.ensures.1 none) ∙ c.if-is_empty.false)), of_any _ (λ b. tt))

pub returns-in-Some : goal.returns-in-Some
returns-in-Some g c =
    let on = c.join.ensures in record {
      resumes = record { idle = λ none. absurd (true≢false (sym (c.is_empty.ensures.1 none) ∙ c.if-is_empty.false)); busy = λ some. rw (sym c.joined.ensures ∙ c.in-Some.is) on.joins };
      right = on.right;
      leaves = on.leaves;
      fits = on.fits;
      others = on.others;
      worker = on.worker;
    }

pub returns-in-None : goal.returns-in-None
returns-in-None g c = record {
  resumes = record { idle = λ none. absurd (true≢false (sym (c.is_empty.ensures.1 none) ∙ c.if-is_empty.false)); busy = λ some. rw (sym c.joined.ensures ∙ c.in-None.is) ((refl, refl), refl) };
  right = tt;
  leaves = tt;
  fits = c.requires;
  others = keeps_others c.args.hand.now.worker c.args.self.now.store.past c.args.self.now.store.past (same_keeps c.args.self.now.store.past c.args.self.now.store.past refl);
  worker = refl;
}
