use Rattle.std.proofs.Common.{ℕ, ◌≡◌, ◌<◌, sym, ap, ◌∙◌, subst}
use Rattle.std.proofs.lemmas.Bool.{true≢false}
use Rattle.fj_rules.specs.declared.owner.Owner.{Owner}
use Rattle.fj_rules.specs.declared.place.Place.TheVariants.{Queued}
use Rattle.fj_rules.specs.Bounds.{Bounds, IsOwner, queues_in, owner_at, queue_number}
use Rattle.fj_rules.specs.Lists.{is_in}
use Rattle.fj_rules.specs.Queues.{queue}
use Rattle.fj_rules.specs.Places.{place}
use Rattle.fj_rules.specs.Statuses.{status}
use Rattle.fj_rules.proofs.Events.Lawful.{queued_pushed}
use Rattle.fj_rules.proofs.Places.KeptPlaces.{queued_kept}
use Rattle.fj_rules.proofs.Places.OnePlace.{never, is_owned, number_owner}
use Rattle.fj_rules.proofs.Places.PlacesKept.{place_queued}
use Rattle.fj_checker.proofs.AnyScan.{one_owner, queued_of_place}
use Rattle.fj_checker.proofs.Told.{unkept, told_of, place_is}
use Rattle.fj_checker.proofs.rules.takes.queue_with.Goals as goal

pub returns-in_default : goal.returns-in_default
returns-in_default c =
    let now = c.args.ledger.now in
    let none = unkept now.events c.args.t c.find.result c.find.ensures.record c.in_default.is in
    λ o. never (is_in c.args.t (queue now.events o)) (λ there. true≢false (sym (queued_kept now.pool now.events o c.args.t c.find.ensures.lawful.allowed there) ∙ none))

pub returns-in_default-place : goal.returns-in_default-place
returns-in_default-place c =
    let now = c.args.ledger.now in
    let told = told_of now.events c.args.t c.find.result c.in-Some.record c.find.ensures.record c.in-Some.is in
    λ o. never (is_in c.args.t (queue now.events o)) (λ there.
    c.in_default-place.not-Queued o (sym (place_is now.events c.args.t c.in-Some.record.now told) ∙ place_queued now.pool now.events o c.args.t c.find.ensures.lawful.allowed there))

pub returns-in_default-find_queue : goal.returns-in_default-find_queue
returns-in_default-find_queue c =
    let now = c.args.ledger.now in
    let so = c.find.ensures.lawful.allowed in
    let owner = c.in-Queued.owner in
    let told = told_of now.events c.args.t c.find.result c.in-Some.record c.find.ensures.record c.in-Some.is in
    let here : place now.events c.args.t ≡ Queued owner = place_is now.events c.args.t c.in-Some.record.now told ∙ c.in-Queued.is in
    λ o. never (is_in c.args.t (queue now.events o)) (λ there.
    let same : o ≡ owner = one_owner o owner (sym (place_queued now.pool now.events o c.args.t so there) ∙ here) in
    let owned = is_owned now.pool now.events so o c.args.t (queued_pushed now.events o c.args.t there) in
    c.in_default-find_queue.ensures (subst (λ (l : Bounds). IsOwner l owner) (sym c.limits.ensures) (subst (λ (p : Owner). IsOwner now.pool.limits p) same owned)))

pub returns : goal.returns
returns c =
    let now = c.args.ledger.now in
    let l : Bounds = now.pool.limits in
    let owner = c.in-Queued.owner in
    let told = told_of now.events c.args.t c.find.result c.in-Some.record c.find.ensures.record c.in-Some.is in
    let here : place now.events c.args.t ≡ Queued owner = place_is now.events c.args.t c.in-Some.record.now told ∙ c.in-Queued.is in
    let e = c.in-Some-find_queue.ensures in
    let owned : IsOwner l owner = subst (λ (b : Bounds). IsOwner b owner) c.limits.ensures e.0 in
    let number : c.in-Some-find_queue.q ≡ queue_number l owner = e.1 ∙ ap (λ (b : Bounds). queue_number b owner) c.limits.ensures in
    let n = number_owner l owner owned in
    (subst (λ (m : ℕ). m < queues_in l) (sym number) n.0, ap (λ (o : Owner). is_in c.args.t (queue now.events o)) (ap (owner_at l) number ∙ n.1) ∙ queued_of_place now.events c.args.t owner here, ap (status now.events) (sym told.number) ∙ told.tells.status)
