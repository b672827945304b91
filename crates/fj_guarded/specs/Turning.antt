-- What a body asks and hears, and why a worker leaves.
use Rattle.std.specs.Prelude.{ℕ, ◌≡◌, ◌⊎◌, ⊤, true, [], IfSome, IsSome, List, Option, Some, None, Result, Ok, Err}
use Rattle.fj_rules.specs.declared.refusal.Refusal.{Refusal}
use Rattle.fj_rules.specs.declared.refusal.Refusal.TheVariants.{LogFull}
use Rattle.fj_slots.specs.Hands.{HandState, HasOnTop, asker, with_body, with_hook}
use Rattle.fj_body.specs.declared.body.Ask.{Ask}
use Rattle.fj_body.specs.declared.body.Heard.{Heard}
use Rattle.fj_body.specs.declared.body.Heard.TheVariants.{Start}
use Rattle.fj_body.specs.Turns.{AskRight, HeardRight}
use Rattle.fj_calls.specs.Closes.{is_finished}
use Rattle.fj_calls.specs.Cores.{CoreState}
use Rattle.fj_guarded.specs.declared.next.Next.{Next}
use Rattle.fj_guarded.specs.declared.next.Next.TheVariants.{Begin, Leave, Turn}
use Rattle.fj_guarded.specs.Continuing.{IsNow}

module _ {B K O : Type 0} (key_of : B → K) (moves : B → Heard B K O → Ask B K O → B → Type 0) where
  -- the hook's body took the turn, in which it heard this and asked that: it stays where it was, with its key, and nothing else in the hand
  -- has changed
  pub record TurnsHook (old : HandState B) (heard : Heard B K O) (ask : Ask B K O) (new : HandState B) : Type 0 where
    pub task : ℕ
    pub before : B
    pub after : B
    pub had : old.hook ≡ Some (task, before)
    pub has : new ≡ with_hook old task after
    pub key : key_of after ≡ key_of before
    pub moved : moves before heard ask after

  -- the running body took it, in a hand without a hook; then it has no note of a join
  pub record TurnsBody (old : HandState B) (heard : Heard B K O) (ask : Ask B K O) (new : HandState B) : Type 0 where
    pub rest : HandState B
    pub task : ℕ
    pub before : B
    pub after : B
    pub bare : old.hook ≡ None
    pub had : HasOnTop old rest task before
    pub has : new ≡ with_body rest task after
    pub key : key_of after ≡ key_of before
    pub moved : moves before heard ask after

module _ {B K O : Type 0} where
  -- the hook or the running body of the hand may ask this: a result that it gives is right for its key
  abbrev pub MayAsk : (K → O → Type 0) → (B → K) → HandState B → Ask B K O → Type 0
  MayAsk right key_of hand ask = IsSome (asker hand) × IfSome (asker hand) (λ b. AskRight right (key_of b.1) ask)

  -- what is heard next is right for the key beside it
  abbrev pub NextRight : (K → O → Type 0) → Next B K O → Type 0
  NextRight right (Turn heard) = HeardRight right heard
  NextRight right _ = ⊤

  -- a turn, in which this was heard, was taken by the hook's body or else by the running one; or the hand is empty, and nothing has changed
  abbrev pub TakesTurn : (B → K) → (B → Heard B K O → Ask B K O → B → Type 0) → HandState B → Heard B K O → Option (Ask B K O) → HandState B → Type 0
  TakesTurn key_of moves old heard (Some ask) new = TurnsHook key_of moves old heard ask new ⊎ TurnsBody key_of moves old heard ask new
  TakesTurn key_of moves old heard None new = (old.stack ≡ []) × (old.hook ≡ None) × (new ≡ old)

  -- what follows an answer of the core: a turn that hears it, the first turn of a task, which hears its number, or no turn
  abbrev pub FollowsNext : (B → K) → (B → Heard B K O → Ask B K O → B → Type 0) → HandState B → Next B K O → Option (Ask B K O) → HandState B → Type 0
  FollowsNext key_of moves old (Turn heard) ask new = TakesTurn key_of moves old heard ask new
  FollowsNext key_of moves old (Begin t) ask new = TakesTurn key_of moves old (Start t) ask new
  FollowsNext key_of moves old _ ask new = (ask ≡ None) × (new ≡ old)

  -- if a task begins, this holds of it
  abbrev pub AtBegin : (ℕ → Type 0) → Next B K O → Type 0
  AtBegin holds (Begin t) = holds t
  AtBegin holds _ = ⊤

  -- why a worker leaves: the pool has terminated, or the core is stuck
  abbrev pub MayLeave : CoreState B K O → Result ⊤ Refusal → Type 0
  MayLeave core (Ok done) = is_finished core ≡ true
  MayLeave core (Err LogFull) = core.store.stuck ≡ true
  MayLeave core (Err r) = ⊥

  -- it leaves only if it may
  abbrev pub LeavesWell : CoreState B K O → Next B K O → Type 0
  LeavesWell core (Leave answer) = MayLeave core answer
  LeavesWell core _ = ⊤

  -- a worker that leaves has seen the history up to now, when it may
  abbrev pub IsSeenLeaving : List (CoreState B K O) → Next B K O → Type 0
  IsSeenLeaving log (Leave answer) = (core : CoreState B K O) × IsNow log core × MayLeave core answer
  IsSeenLeaving log _ = ⊤
