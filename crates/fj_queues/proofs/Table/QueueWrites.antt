-- One of several queues is read or changed.
use Rattle.fj_queues.specs.Queues.{Lists, queue_at, with_queue}
use Rattle.std.proofs.Common.{arith, ℕ, ◌≡◌, ◌<◌, List, [], ◌∷◌, length, get_or, map, ap, sym, ◌∙◌, refl}
use Rattle.std.proofs.Math.ListN.{set}
use Rattle.std.proofs.lemmas.List.{map-set, get_or-map, set-get_or}

-- what is seen of a queue that is read
pub queue_read : {V : Type 0} (items : V → List ℕ) (vs : List V) (o : ℕ) (v : V) → o < length vs → v ≡ get_or vs o v → items v ≡ get_or (map items vs) o []
queue_read items vs o v within is = ap items is ∙ sym (get_or-map items vs o v [] within)

-- what is seen of all queues after a write, by what is seen of the one that was written
pub queue_written : {V : Type 0} (items : V → List ℕ) (change : List ℕ → List ℕ) (vs : List V) (o : ℕ) (old new : V)
    → o < length vs → old ≡ get_or vs o old → items new ≡ change (items old)
    → map items (set vs o new) ≡ set (map items vs) o (change (get_or (map items vs) o []))
queue_written items change vs o old new within is now =
    map-set items vs o new ∙ ap (set (map items vs) o) (now ∙ ap change (queue_read items vs o old within is))

-- an empty list in the place of an empty queue changes nothing
pub untouched : (qs : Lists) (o : ℕ) (ts : List ℕ) → length ts ≡ 0 → length (queue_at qs o) ≡ 0 → with_queue qs o ts ≡ qs
untouched qs o ts none empty = go (queue_at qs o) refl ts none empty
  where
    go : (us : List ℕ) → queue_at qs o ≡ us → (vs : List ℕ) → length vs ≡ 0 → length us ≡ 0 → with_queue qs o vs ≡ qs
    go [] is [] _ _ =
        let same : set qs.lists o [] ≡ qs.lists = rw is at (set-get_or qs.lists o []) in
        ap (λ (lists : List (List ℕ)). let new : Lists = record { lists = lists; room = qs.room } in new) same
    go [] is (v ∷ vs) some _ = absurd (omega arith)
    go (u ∷ us) is vs _ some = absurd (omega arith)
