use Rattle.std.proofs.Common.{◌≡◌, true, false, [], ◌∷◌, ◌++◌, refl, ap, ◌∙◌, arith}
use Rattle.std.proofs.lemmas.Bool.{not-true}
use Rattle.fj_rules.specs.Lists.{is_in}
use Rattle.fj_rules.specs.Tasks.{is_kept}
use Rattle.fj_rules.proofs.Lists.Members.{once_more}
use Rattle.fj_slots.specs.Shelves.{entries}
use Rattle.fj_body.specs.Releases.{ReleasesPlain}
use Rattle.fj_bodies.proofs.DueTasks.{marked_due}
use Rattle.fj_bodies.proofs.PlainTasks.{plain_due, plain_releases, plain_results, plain_stored}
use Rattle.fj_bodies.proofs.NoneLost.{marked_results}
use Rattle.fj_bodies.proofs.Results.{less_stored, marked_stored, marked_room, none_left}
use Rattle.fj_bodies.proofs.Waits.{holds_now, releases_now}
use Rattle.fj_bodies.proofs.store.Store.take_out.Goals as goal

-- ---- released at once

pub invariant_of-self : goal.invariant_of-self
invariant_of-self g c =
    let past = c.self.inside.machine in
    let new = c.release_plain.new.machine in
    let ts = c.self.inside.taken.items in
    let t = c.args.t in
    let kept : is_kept past.events t ≡ true = ap (λ s. is_kept s.past.events t) c.self.view_is ∙ c.requires.kept in
    let free : is_in t ts ≡ false = ap (λ s. is_in t s.taken) c.self.view_is ∙ c.requires.free in
    let step : ReleasesPlain past t true new = rw c.if-release_plain.true at c.release_plain.ensures.releases in
    let rests = c.self.invariant.rests (not-true c.self.inside.stuck (c.release_plain.ensures.may c.if-release_plain.true)) in
    record {
      stored = plain_stored past new (entries c.self.inside.bodies) (entries c.take-kept.new.self) ts t (less_stored past _ (entries c.self.inside.results) (entries c.take-kept.new.self) ts t c.self.invariant.stored c.take-kept.ensures.entries)
          kept free (none_left (entries c.self.inside.results) (entries c.take-kept.new.self) t c.take-kept.ensures.entries) step;
      complete = plain_results past new (entries c.self.inside.results) (entries c.take-kept.new.self) ts t c.self.invariant.stored.run c.self.invariant.stored.taken_kept.once free c.self.invariant.complete c.take-kept.ensures.entries step;
      room = rw (step.1.1, c.take-kept.ensures.room) c.self.invariant.room;
      rests = λ still. plain_due past new ts t c.self.invariant.stored.run free rests step;
    }

pub returns-then-release_plain-clause-releases : goal.returns-then-release_plain-clause-releases
returns-then-release_plain-clause-releases g c =
    let past = c.self.inside.machine in
    let new = c.release_plain.new.machine in
    let ts = c.self.inside.taken.items in
    let t = c.args.t in
    let free : is_in t ts ≡ false = ap (λ s. is_in t s.taken) c.self.view_is ∙ c.requires.free in
    let step : ReleasesPlain past t true new = rw c.if-release_plain.true at c.release_plain.ensures.releases in
    let rests = c.self.invariant.rests (not-true c.self.inside.stuck (c.release_plain.ensures.may c.if-release_plain.true)) in
    rw (← c.self.view_is) (
      record { past = past; bodies = c.self.inside.bodies; results = c.take-kept.new.self; taken = ts ++ t ∷ []; stuck = c.self.inside.stuck },
      (c.take-kept.ensures.entries, refl),
      plain_releases (record { past = past; bodies = c.self.inside.bodies; results = c.take-kept.new.self; taken = ts; stuck = c.self.inside.stuck }) new t c.self.invariant.stored.run c.self.invariant.stored.taken_kept.once free rests step,
    )

-- ---- marked

pub push-requires-clause-room : goal.push-requires-clause-room
push-requires-clause-room g c =
    let past = c.self.inside.machine in
    let t = c.args.t in
    let kept : is_kept past.events t ≡ true = ap (λ s. is_kept s.past.events t) c.self.view_is ∙ c.requires.kept in
    let free : is_in t c.self.inside.taken.items ≡ false = ap (λ s. is_in t s.taken) c.self.view_is ∙ c.requires.free in
    omega (arith, marked_room past _ (entries c.self.inside.results) _ t c.self.invariant.stored kept free, c.self.invariant.room.taken)

pub release_due-requires : goal.release_due-requires
release_due-requires g c =
    let past = c.self.inside.machine in
    let ts = c.self.inside.taken.items in
    let t = c.args.t in
    let free : is_in t ts ≡ false = ap (λ s. is_in t s.taken) c.self.view_is ∙ c.requires.free in
    let same : c.release_plain.new.machine ≡ past = rw c.if-release_plain.false at c.release_plain.ensures.releases in
    rw (c.push.ensures, same) (record {
      waiting = record { run = c.self.invariant.stored.run; once = once_more ts t free c.self.invariant.stored.taken_kept.once };
      due = λ still. marked_due past.events ts t (c.self.invariant.rests still);
    })

pub invariant_of-self-2 : goal.invariant_of-self-2
invariant_of-self-2 g c =
    let past = c.self.inside.machine in
    let ts = c.self.inside.taken.items in
    let t = c.args.t in
    let kept : is_kept past.events t ≡ true = ap (λ s. is_kept s.past.events t) c.self.view_is ∙ c.requires.kept in
    let free : is_in t ts ≡ false = ap (λ s. is_in t s.taken) c.self.view_is ∙ c.requires.free in
    let same : c.release_plain.new.machine ≡ past = rw c.if-release_plain.false at c.release_plain.ensures.releases in
    holds_now c.self.inside.bodies c.take-kept.new.self
    (rw (c.push.ensures, same) (marked_stored past _ (entries c.take-kept.new.self) ts t (less_stored past _ (entries c.self.inside.results) (entries c.take-kept.new.self) ts t c.self.invariant.stored c.take-kept.ensures.entries)
    kept free (none_left (entries c.self.inside.results) (entries c.take-kept.new.self) t c.take-kept.ensures.entries)))
    (rw (c.push.ensures, same) (marked_results past (entries c.self.inside.results) (entries c.take-kept.new.self) ts t c.self.invariant.complete c.take-kept.ensures.entries))
    (rw (c.push.ensures, same, c.take-kept.ensures.room) c.self.invariant.room) c.release_due.ensures.waiting c.release_due.ensures.releases

pub returns-clause-releases : goal.returns-clause-releases
returns-clause-releases g c =
    let past = c.self.inside.machine in
    let ts = c.self.inside.taken.items in
    let t = c.args.t in
    let same : c.release_plain.new.machine ≡ past = rw c.if-release_plain.false at c.release_plain.ensures.releases in
    rw (← c.self.view_is) (
      record { past = past; bodies = c.self.inside.bodies; results = c.take-kept.new.self; taken = ts ++ t ∷ []; stuck = c.self.inside.stuck },
      (c.take-kept.ensures.entries, refl),
      releases_now c.self.inside.bodies c.take-kept.new.self (rw (c.push.ensures, same) at c.release_due.ensures.releases),
    )
