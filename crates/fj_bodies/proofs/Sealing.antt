-- What has happened is handed out in parts.
use Rattle.std.proofs.Common.{ℕ, ◌≡◌, List, None, ap, sym, subst}
use Rattle.std.specs.Prelude.{Result, Ok, Err, OnOk, OnErr}
use Rattle.fj_rules.specs.declared.refusal.Refusal.{Refusal}
use Rattle.fj_rules.specs.Pasts.{Past, sealed_now}
use Rattle.fj_rules.specs.Epochs.{IsPast, seal_refusal}
use Rattle.fj_rules.proofs.Headline.Sealing.{seal_past}
use Rattle.fj_slots.specs.Shelves.{Entries}
use Rattle.fj_body.specs.Stores.{IsStored}
use Rattle.fj_body.specs.Releases.{NoneGoes}

-- what holds of a store speaks of its events and its pool, and both stay
pub seal_stored : {B R T : Type 0} (r : Result T Refusal) (past new : Past) (bodies : Entries B) (results : Entries R) (ts : List ℕ) → IsStored past bodies results ts
    → OnOk r (seal_refusal past ≡ None) → OnOk r (new ≡ sealed_now past) → OnErr r (new ≡ past) → IsStored new bodies results ts
seal_stored {B} {R} {T} (Ok part) past new bodies results ts is may sealed stays = subst (λ (p : Past). IsStored p bodies results ts) (sym sealed) (record {
  run = subst IsPast sealed (seal_past (Ok part) past new is.run may sealed stays);
  bodies_held = is.bodies_held;
  results_kept = is.results_kept;
  results_given = is.results_given;
  taken_kept = is.taken_kept;
  apart = is.apart;
  hooks_kept = is.hooks_kept;
})
seal_stored {B} {R} {T} (Err r) past new bodies results ts is may sealed stays = subst (λ (p : Past). IsStored p bodies results ts) (sym stays) is

pub seal_pool : {T : Type 0} (r : Result T Refusal) (past new : Past) → OnOk r (new ≡ sealed_now past) → OnErr r (new ≡ past) → new.pool ≡ past.pool
seal_pool (Ok part) past new sealed stays = ap (λ p. p.pool) sealed
seal_pool (Err r) past new sealed stays = ap (λ p. p.pool) stays

pub seal_rests : {T : Type 0} (r : Result T Refusal) (past new : Past) (ts : List ℕ) → OnOk r (new ≡ sealed_now past) → OnErr r (new ≡ past) → NoneGoes past.events ts → NoneGoes new.events ts
seal_rests (Ok part) past new ts sealed stays rests = rw sealed rests
seal_rests (Err r) past new ts sealed stays rests = rw stays rests
