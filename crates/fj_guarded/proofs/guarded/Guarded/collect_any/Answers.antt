use Rattle.std.proofs.Common.{ℕ, ◌≡◌, ◌+◌, Bool, true, false, List, get_or, Option, Some, None, ap, sym, ◌∙◌, subst, arith}
use Rattle.std.specs.Prelude.{slice_get}
use Rattle.std.proofs.lemmas.Option.{get_or_from_slice_get, slice_get-get_or, slice_get_within}
use borrow.Author.Count.{below_more}
use Rattle.fj_body.specs.Stores.{StoreState}
use Rattle.fj_calls.specs.Booked.{booked_under}
use Rattle.fj_calls.specs.Cores.{CollectsTicket, CollectsUnless, CoreState}
use Rattle.fj_guarded.specs.Asked.{AreAwaited}
use Rattle.fj_guarded.proofs.guarded.Guarded.collect_any.Goals as goal

module _ {B K O : Type 0} where
  -- where an outcome is still to come nothing changes
  same : (old new : CoreState B K O) (ticket : ℕ) → CollectsTicket old ticket None new → new ≡ old
  same old new ticket is = go old.store.stuck (booked_under old.bookings ticket) is
    where
      go : (stuck : Bool) (booked : Option ℕ) → CollectsUnless stuck booked old None new → new ≡ old
      go true booked is = is.1
      go false (Some t) is = is.1 ∙ ap (λ (s : StoreState B K O). record old { store = s }) is.0.3
      go false None is = is.1

  one_more : (tickets : List ℕ) (place this : ℕ) (core now new : CoreState B K O) → AreAwaited place tickets core → now ≡ core → this ≡ get_or tickets place this → CollectsTicket now this None new
      → (new ≡ core) × AreAwaited (place + 1) tickets core
  one_more tickets place this core now new before at is collects = (stays, all)
    where
      stays : new ≡ core
      stays = same now new this collects ∙ at

      here : (ticket : ℕ) → slice_get tickets place ≡ Some ticket → CollectsTicket core ticket None core
      here ticket there =
          subst (λ (t : ℕ). CollectsTicket core t None core) (is ∙ get_or_from_slice_get tickets place ticket this there)
          (subst (λ (c : CoreState B K O × CoreState B K O). CollectsTicket c.0 this None c.1) (λ i. (at i, stays i)) collects)

      all : AreAwaited (place + 1) tickets core
      all i ticket low there = below_more (λ (k : ℕ). (t : ℕ) → slice_get tickets k ≡ Some t → CollectsTicket core t None core) place (λ k l t. before k t l) here i low ticket there

pub loop-place-preserved : goal.loop-place-preserved
loop-place-preserved g c =
    one_more c.args.tickets.now c.loop-place.place c.index-tickets-place.result c.args.self.now c.loop-place.self c.collect.new.self c.loop-place.invariant.1 c.loop-place.invariant.0 c.index-tickets-place.is
    c.in_default.ensures.collects

pub returns-in-Some : goal.returns-in-Some
returns-in-Some g c = record {
  ticket = c.index-tickets-place.result;
  at = slice_get-get_or c.args.tickets.now c.loop-place.place c.index-tickets-place.result c.loop-place-test.true ∙ ap Some (sym c.index-tickets-place.is);
  collects = subst (λ core. CollectsTicket core c.index-tickets-place.result (Some c.in-Some.answer) c.collect.new.self) c.loop-place.invariant.0 c.in-Some.ensures.collects;
  before = c.loop-place.invariant.1;
}

pub returns : goal.returns
returns g c =
    (λ i ticket there. c.loop-place.invariant.1 i ticket (omega (arith, slice_get_within c.args.tickets.now i ticket there, c.loop-place-test.false)) there, c.loop-place.invariant.0)
