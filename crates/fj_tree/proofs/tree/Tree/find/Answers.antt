use Rattle.std.proofs.Common.{◌≡◌, true, false, sym, ◌∙◌, subst, refl, Option, Some, None, Bor}
use Rattle.std.specs.Prelude.{IsSome, is_some, option_copied}
use Rattle.fj_tree.specs.declared.record.Record.{Record}
use Rattle.fj_tree.specs.Records.{Records, IsGood, IsSound, record_of}
use Rattle.fj_tree.proofs.Index.Finds.{named_record}
use Rattle.fj_tree.proofs.Index.Indexing.{absent_handle, absent_kept, released_handle, released_kept}
use Rattle.fj_tree.proofs.Index.Numbers.{found_there}
use Rattle.fj_tree.proofs.tree.Tree.find.Goals as goal

pub returns-in_err-key-clause-found : goal.returns-in_err-key-clause-found
returns-in_err-key-clause-found c =
    let t : Records = record { slots = c.self.inside.records.slots; made = c.self.inside.made; room = c.self.inside.room } in
    rw (c.from_residual.ensures, ← c.self.view_is) (sym (absent_handle t _ c.args.serial c.self.invariant.indexed c.in_err-key.ensures.absent))

pub returns-in_err-key-clause-absent : goal.returns-in_err-key-clause-absent
returns-in_err-key-clause-absent c =
    rw (c.from_residual.ensures, ← c.self.view_is) (λ key r. absent_kept _ _ c.args.serial key r c.self.invariant.indexed c.in_err-key.ensures.absent)

some_copied : (o : Option (Bor Record)) → is_some o ≡ true → IsSome (option_copied o)
some_copied (Some r) some = refl
some_copied None none = absurd cc

none_copied : (o : Option (Bor Record)) → is_some o ≡ false → option_copied o ≡ None
none_copied (Some r) none = absurd cc
none_copied None none = refl

pub returns-then-is_some-clause-found : goal.returns-then-is_some-clause-found
returns-then-is_some-clause-found c =
    let good : IsGood c.args.self.now (record { key = c.key.result; serial = c.args.serial }) = subst IsSome c.get.ensures (some_copied c.get.result (sym c.is_some.ensures ∙ c.if-is_some.true)) in
    let named = named_record c.args.self.now (record { key = c.key.result; serial = c.args.serial }) good in
    sym (found_there c.args.self.now c.args.serial c.key.result (subst IsSound c.self.view_is c.self.invariant.sound) (rw named.1 named.2))

pub returns-then-is_some-2-clause-found : goal.returns-then-is_some-2-clause-found
returns-then-is_some-2-clause-found c =
    let good : IsGood c.args.self.now (record { key = c.in_ok-key.key; serial = c.args.serial }) = subst IsSome c.get-2.ensures (some_copied c.get-2.result (sym c.is_some-2.ensures ∙ c.if-is_some-2.true)) in
    let named = named_record c.args.self.now (record { key = c.in_ok-key.key; serial = c.args.serial }) good in
    sym (found_there c.args.self.now c.args.serial c.in_ok-key.key (subst IsSound c.self.view_is c.self.invariant.sound) (rw named.1 named.2))

pub returns-else-is_some-2-clause-found : goal.returns-else-is_some-2-clause-found
returns-else-is_some-2-clause-found c =
    let t : Records = record { slots = c.self.inside.records.slots; made = c.self.inside.made; room = c.self.inside.room } in
    let none : record_of t (record { key = c.in_ok-key.key; serial = c.args.serial }) ≡ None = rw (← c.self.view_is) at (sym c.get-2.ensures ∙ none_copied c.get-2.result (sym c.is_some-2.ensures ∙ c.if-is_some-2.false)) in
    rw (← c.self.view_is) (sym (released_handle t _ c.args.serial c.in_ok-key.key c.self.invariant.indexed c.in_ok-key.ensures.only none))

pub returns-else-is_some-2-clause-absent : goal.returns-else-is_some-2-clause-absent
returns-else-is_some-2-clause-absent c =
    let t : Records = record { slots = c.self.inside.records.slots; made = c.self.inside.made; room = c.self.inside.room } in
    let none : record_of t (record { key = c.in_ok-key.key; serial = c.args.serial }) ≡ None = rw (← c.self.view_is) at (sym c.get-2.ensures ∙ none_copied c.get-2.result (sym c.is_some-2.ensures ∙ c.if-is_some-2.false)) in
    rw (← c.self.view_is) (released_kept t _ c.args.serial c.in_ok-key.key c.self.invariant.indexed c.in_ok-key.ensures.only none)

pub returns-then-is_some-clause-sound : goal.returns-then-is_some-clause-sound
returns-then-is_some-clause-sound c = subst IsSound c.self.view_is c.self.invariant.sound

pub returns-in_err-key-clause-sound : goal.returns-in_err-key-clause-sound
returns-in_err-key-clause-sound c = subst IsSound c.self.view_is c.self.invariant.sound

pub returns-then-is_some-2-clause-sound : goal.returns-then-is_some-2-clause-sound
returns-then-is_some-2-clause-sound c = subst IsSound c.self.view_is c.self.invariant.sound

pub returns-else-is_some-2-clause-sound : goal.returns-else-is_some-2-clause-sound
returns-else-is_some-2-clause-sound c = subst IsSound c.self.view_is c.self.invariant.sound
