-- The end of the submissions.
use Rattle.std.proofs.Common.{◌≡◌, Bool, true, false, List, [], Some, None, refl, ap, sym, ◌∙◌, subst}
use Rattle.std.specs.Prelude.{if◌then◌else◌}
use Rattle.fj_rules.specs.declared.step.Step.{Step}
use Rattle.fj_rules.specs.declared.step.Step.TheVariants.{Shutdown, Stop}
use Rattle.fj_rules.specs.declared.said.Said.{Said}
use Rattle.fj_rules.specs.declared.said.Said.TheVariants as says
use Rattle.fj_rules.specs.declared.refusal.Refusal.{Refusal}
use Rattle.fj_rules.specs.declared.refusal.Refusal.TheVariants.{LogFull}
use Rattle.fj_rules.specs.declared.event.Event.{Event}
use Rattle.fj_rules.specs.Pasts.{Past}
use Rattle.fj_rules.specs.Answers.{answer, answer_of, refusal_of, does_not_fit, reply_of}
use Rattle.fj_body.specs.Stores.{StoreState}
use Rattle.fj_body.specs.Asking.{Drops, Shuts}
use Rattle.fj_body.specs.Asking as does
use Rattle.fj_body.specs.Choosing.{Refuses}
use Rattle.fj_bodies.proofs.Calms.{drops_made, makes_reply}

-- such a step replies that it is done, or finds no room
abbrev pub IsDone : Said → Type 0
IsDone says.Done = Unit {0}
IsDone (says.Refused r) = r ≡ LogFull
IsDone _ = ⊥

full_done : (full : Bool) (reply : Said) (events : List Event) (past : Past) (asked : Step) → IsDone (reply_of past.pool past.events asked) → IsDone (answer_of past asked (if full then Some LogFull else None)).0
full_done true reply events past asked done = refl
full_done false reply events past asked done = done

pub shutdown_done : (past : Past) → IsDone (answer past Shutdown).0
unfolding answer refusal_of reply_of
shutdown_done past = full_done (does_not_fit past Shutdown) says.Done [] past Shutdown tt

pub stop_done : (past : Past) → IsDone (answer past Stop).0
unfolding answer refusal_of reply_of
stop_done past = full_done (does_not_fit past Stop) says.Done [] past Stop tt

module _ {B K O : Type 0} where
  pub shuts : (old : StoreState B K O) (asked : Step) (reply : Said) (new : StoreState B K O) → IsDone (answer old.past asked).0 → ((r : Refusal) → reply ≡ says.Refused r → ⊥) → does.Makes old asked reply new → Drops old asked says.Done new
  shuts old asked reply new done unrefused made =
      subst (λ v. Drops old asked v new) (only reply (subst IsDone (sym (makes_reply old asked reply new made)) done) unrefused) (drops_made old asked reply new unrefused made)
    where
      only : (reply : Said) → IsDone reply → ((r : Refusal) → reply ≡ says.Refused r → ⊥) → reply ≡ says.Done
      only says.Done is unrefused = refl
      only (says.Refused r) is unrefused = absurd (unrefused r refl)
      only _ is unrefused = absurd is

  pub shut_sticks : (old : StoreState B K O) (asked : Step) (r : Refusal) (new before : StoreState B K O) → IsDone (answer old.past asked).0 → Refuses old asked (says.Refused r) new → before ≡ new → Shuts old asked false (record before { stuck = true })
  shut_sticks old asked r new before done refused same =
      let full : r ≡ LogFull = subst IsDone (sym refused.0.0) done in
      ((subst (λ v. says.Refused v ≡ (answer old.past asked).0) full refused.0.0, refused.0.1), ap (λ (s : StoreState B K O). let t : StoreState B K O = record s { stuck = true } in t) (same ∙ refused.1))
