-- The records are changed key by key.
use Rattle.std.specs.Prelude.{option_map}
use Rattle.std.proofs.Common.{ℕ, ◌≡◌, ◌<◌, ◌≤◌}
use Rattle.fj_tree.specs.declared.record.Record.{Record}
use Rattle.fj_tree.specs.Records.{Records, record_at, count}

-- the records below this key are changed, and all others are as they were
pub record IsChangedBelow (change : Record → Record) (t now : Records) (key : ℕ) : Type 0 where
  pub below : (k : ℕ) → k < key → record_at now k ≡ option_map change (record_at t k)
  pub others : (k : ℕ) → key ≤ k → record_at now k ≡ record_at t k
  pub kept : count now ≡ count t
  pub made : now.made ≡ t.made
  pub room : now.room ≡ t.room
