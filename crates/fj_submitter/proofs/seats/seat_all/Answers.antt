use Rattle.std.proofs.Common.{ℕ, ◌≡◌, ◌<◌, List, [], ◌∷◌, All, get_or, length, length-append, refl, sym, ◌∙◌, subst, arith}
use Rattle.std.proofs.lemmas.Iterator.Adapters.{YieldsList-from_vec}
use Rattle.std.proofs.lemmas.Iterator.Consumers.{YieldsList-turn}
use Rattle.fj_gate.specs.Ends.{new_entrant}
use Rattle.fj_submitter.proofs.Seating.{none_seated, one_seated}
use Rattle.fj_submitter.proofs.seats.seat_all.Goals as goal

-- what holds of all holds of the one that is yielded
at_turn : {A : Type 0} (P : A → Type 0) (xs : List A) (k : ℕ) (x : A) → All P xs → (k < length xs) × (x ≡ get_or xs k x) → P x
at_turn P xs k x all t = subst P (sym t.1) (all k x t.0)

pub loop-entrant-init : goal.loop-entrant-init
loop-entrant-init g c = record { next = tt; finite = tt; counted = refl; seated = none_seated c.args.lane_capacity c.in_ok-seats.seats.items c.in_ok-drains.drains.items c.in_ok-seats.ensures.items c.in_ok-drains.ensures.items }

pub loop-entrant-preserved : goal.loop-entrant-preserved
loop-entrant-preserved g c =
    let i = c.loop-entrant.invariant in
    let e = c.in-Some.entrant in
    let gives = c.into_iter-entrant-iterator.ensures.into_iter_gives in
    let t = YieldsList-turn (YieldsList-from_vec c.args.entrants.items gives.0 (gives.1 ∙ c.args.entrants.ok.0)) c.loop-entrant.yielded c.loop-entrant.entrant-iterator c.loop-entrant.yielded_by c.next.result c.next.new.self e c.in-Some.is c.next.ensures.steps in
    let new : e ≡ new_entrant e.gate c.args.lane_capacity = at_turn (λ e. e ≡ new_entrant e.gate c.args.lane_capacity) c.args.entrants.items (length c.loop-entrant.yielded) e c.requires.new t in record {
      next = tt;
      finite = tt;
      counted = (let counted = i.counted in let more = length-append c.loop-entrant.yielded (e ∷ []) in omega arith);
      seated = one_seated c.args.lane_capacity c.loop-entrant.number c.loop-entrant.yielded e c.loop-entrant.seats.items c.push.new.self.items c.loop-entrant.drains.items c.push-in-loop-entrant.new.self.items c.new.result c.in_ok-feed.feed
          c.in_ok-feed.drain i.seated i.counted new c.in_ok-feed.ensures.feed c.in_ok-feed.ensures.drain c.new.ensures c.in_ok-push.ensures.items c.in_ok-push-2.ensures.items;
    }
