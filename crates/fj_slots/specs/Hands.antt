-- What a worker holds.
use Rattle.std.specs.Prelude.{ℕ, ◌≡◌, ◌+◌, ◌-◌, ◌%◌, ◌^◌, List, [], ◌∷◌, ◌++◌, Option, Some, None, option_map, slice_get, slice_index_or, slice_set, length}
use Rattle.fj_rules.specs.Lists.{or_else}

-- the worker, its scan word, the bodies that it holds with the numbers of their tasks, the oldest first, for each of them the task that it
-- joined while another body runs above it, and the body whose completion action it runs, with its task's number
pub record HandState (B : Type 0) : Type 0 where
  pub worker : ℕ
  pub word : ℕ
  pub stack : List (ℕ × B)
  pub joined : List (Option ℕ)
  pub hook : Option (ℕ × B)

-- the scan word after one use: it wraps in 32 bits
abbrev pub next_word : ℕ → ℕ
next_word r = (r + 1) % 2 ^ 32

-- what the newest body joined, as last noted
abbrev pub newest_note : List (Option ℕ) → Option ℕ
newest_note joined = slice_index_or joined (length joined - 1) None

module _ {B : Type 0} where
  abbrev pub new_hand : ℕ → ℕ → HandState B
  new_hand worker word = record { worker = worker; word = word; stack = []; joined = []; hook = None }

  -- the number of the hook
  abbrev pub hook_number : Option (ℕ × B) → Option ℕ
  hook_number hook = option_map (λ k. k.0) hook

  -- after one use of the scan word
  abbrev pub with_next_word : HandState B → HandState B
  with_next_word hand = record hand { word = next_word hand.word }

  -- with one body more, which joined this
  abbrev pub with_begun : HandState B → ℕ → B → Option ℕ → HandState B
  with_begun hand t body note = record hand { stack = hand.stack ++ (t, body) ∷ []; joined = hand.joined ++ note ∷ [] }

  -- it is the other one with this body on top, whatever that joined
  abbrev pub HasOnTop : HandState B → HandState B → ℕ → B → Type 0
  HasOnTop hand rest t body = (note : Option ℕ) × (hand ≡ with_begun rest t body note)

  -- with one body more, which has joined nothing yet
  abbrev pub with_body : HandState B → ℕ → B → HandState B
  with_body hand t body = with_begun hand t body None

  -- with this noted of the newest body, if there is one
  abbrev pub with_note : HandState B → Option ℕ → HandState B
  with_note hand note = record hand { joined = slice_set hand.joined (length hand.joined - 1) note }

  -- with this hook, and its body
  abbrev pub with_hook : HandState B → ℕ → B → HandState B
  with_hook hand c body = record hand { hook = Some (c, body) }

  -- with no hook
  abbrev pub without_hook : HandState B → HandState B
  without_hook hand = record hand { hook = None }

  -- the newest body
  abbrev pub newest_body : List (ℕ × B) → Option (ℕ × B)
  newest_body stack = slice_get stack (length stack - 1)

  -- the body that asks: that of the hook, or else the running one
  abbrev pub asker : HandState B → Option (ℕ × B)
  asker hand = or_else hand.hook (newest_body hand.stack)
