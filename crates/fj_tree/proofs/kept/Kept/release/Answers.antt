use Rattle.std.proofs.Common.{arith, rules, refl, ◌≡◌, ◌+◌, nat_lt, false}
use Rattle.std.specs.Prelude.{filter}
use Rattle.std.proofs.lemmas.Fn.{filter_same}
use Rattle.fj_tree.specs.Kept.{is_current}
use Rattle.fj_tree.proofs.Index.Closing.{rising_left}
use Rattle.fj_tree.proofs.kept.Kept.release.Goals as goal

pub invariant_of-self-else-released-self : goal.invariant_of-self-else-released-self
invariant_of-self-else-released-self c =
    let left : c.retain.new.self.items ≡ filter (is_current c.args.records.now.slots) c.self.inside.pairs.items = filter_same _ _ _ (λ x b f' k. search rules) _ _ c.retain.ensures.filtered in record {
      rising = rw left (rising_left _ _ c.self.invariant.rising);
      fits = omega (arith, c.self.invariant.fits, c.retain.ensures.capacity);
      released = omega arith;
    }

pub returns-else-released-self-clause-left : goal.returns-else-released-self-clause-left
returns-else-released-self-clause-left c =
    let left : c.retain.new.self.items ≡ filter (is_current c.args.records.now.slots) c.self.inside.pairs.items = filter_same _ _ _ (λ x b f' k. search rules) _ _ c.retain.ensures.filtered in
    let due : nat_lt (c.self.inside.released + 1) c.self.inside.room ≡ false = search rules in
    rw (← c.self.view_is, due, left) refl
