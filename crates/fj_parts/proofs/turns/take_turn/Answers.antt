use Rattle.std.proofs.Common.{ℕ, ◌≡◌, false, Option, Some, None, inl, inr, refl, sym, ap, ◌∙◌, subst}
use Rattle.std.specs.Prelude.{IfSome, IsSome, is_some}
use Rattle.fj_rules.specs.Lists.{or_else}
use Rattle.fj_slots.specs.Hands.{HandState, asker, hook_number, with_hook}
use Rattle.fj_body.specs.declared.body.Ask.{Ask}
use Rattle.fj_body.specs.Turns.{AskRight}
use Rattle.fj_body.proofs.Endings.{newest_is}
use Rattle.fj_guarded.specs.Turning.{MayAsk}
use Rattle.fj_parts.proofs.turns.take_turn.Goals as goal

no_hook : {B : Type 0} (hook : Option (ℕ × B)) (number : Option ℕ) → number ≡ hook_number hook → is_some number ≡ false → hook ≡ None
no_hook None number is none = refl
no_hook (Some x) number is none = absurd (let no : is_some (hook_number (Some x)) ≡ false = subst (λ (n : Option ℕ). is_some n ≡ false) is none in cc)

-- the one that asks has the key for which its result is right
may_ask : {B K O : Type 0} (right : K → O → Type 0) (key_of : B → K) (hand : HandState B) (t : ℕ) (before after : B) (ask : Ask B K O) → asker hand ≡ Some (t, after) → key_of after ≡ key_of before
    → AskRight right (key_of before) ask → MayAsk right key_of hand ask
may_ask {B = B} right key_of hand t before after ask is key gives =
    subst (λ (o : Option (ℕ × B)). IsSome o × IfSome o (λ b. AskRight right (key_of b.1) ask)) (sym is) (refl, subst (λ k. AskRight right k ask) (sym key) gives)

pub returns-clause-takes : goal.returns-clause-takes
returns-clause-takes g c =
    inr (record {
      rest = c.pop-t.new.self;
      task = c.pop-t.result.0;
      before = c.pop-t.result.1;
      after = c.turn-ask-2.new.self;
      bare = no_hook c.args.hand.now.hook c.hooked.result c.hooked.ensures (sym c.is_some.ensures ∙ c.if-is_some.false);
      had = c.pop-t.ensures.popped;
      has = c.push.ensures;
      key = c.turn-ask-2.ensures.key;
      moved = c.turn-ask-2.ensures.moves;
    })

pub returns-clause-asks : goal.returns-clause-asks
returns-clause-asks g c =
    let bare = no_hook c.args.hand.now.hook c.hooked.result c.hooked.ensures (sym c.is_some.ensures ∙ c.if-is_some.false) in
    let none : c.pop-t.new.self.hook ≡ None = sym (ap (λ (h : HandState g.row.B.Denot). h.hook) c.pop-t.ensures.popped.1) ∙ bare in
    may_ask g.B.Body.right g.B.Body.key_of c.push.new.self c.pop-t.result.0 c.pop-t.result.1 c.turn-ask-2.new.self c.turn-ask-2.result
    (ap (λ (h : HandState g.row.B.Denot). asker h) c.push.ensures ∙ (λ i. or_else (none i) (newest_is c.pop-t.new.self.stack (c.pop-t.result.0, c.turn-ask-2.new.self) i)))
    c.turn-ask-2.ensures.key c.turn-ask-2.ensures.right

pub returns-then-is_some-clause-takes : goal.returns-then-is_some-clause-takes
returns-then-is_some-clause-takes g c =
    inl (record {
      task = c.take_hook-c.result.0;
      before = c.take_hook-c.result.1;
      after = c.turn-ask.new.self;
      had = c.take_hook-c.ensures.hook;
      has = c.give_hook.ensures ∙ ap (λ (h : HandState g.row.B.Denot). with_hook h c.take_hook-c.result.0 c.turn-ask.new.self) c.take_hook-c.ensures.rest;
      key = c.turn-ask.ensures.key;
      moved = c.turn-ask.ensures.moves;
    })

pub returns-then-is_some-clause-asks : goal.returns-then-is_some-clause-asks
returns-then-is_some-clause-asks g c =
    may_ask g.B.Body.right g.B.Body.key_of c.give_hook.new.self c.take_hook-c.result.0 c.take_hook-c.result.1 c.turn-ask.new.self c.turn-ask.result
    (ap (λ (h : HandState g.row.B.Denot). asker h) c.give_hook.ensures) c.turn-ask.ensures.key c.turn-ask.ensures.right
