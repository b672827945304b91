-- What a worker does in one holding of the lock, and what it does next.
use Rattle.std.specs.Prelude.{ℕ, ◌≡◌, ⊤, zero, suc, Bool, true, false, Option, Some, None, is_some, [], Ok, Err}
use Rattle.fj_rules.specs.declared.refusal.Refusal.TheVariants.{LogFull}
use Rattle.fj_slots.specs.Hands.{HandState, newest_note, with_note}
use Rattle.fj_body.specs.declared.body.Ask.{Ask}
use Rattle.fj_body.specs.declared.body.Ask.TheVariants as asks
use Rattle.fj_body.specs.declared.body.Heard.TheVariants as hears
use Rattle.fj_body.specs.declared.body.Told.{Told}
use Rattle.fj_body.specs.declared.body.Told.TheVariants as told
use Rattle.fj_body.specs.Choosing.{Polls}
use Rattle.fj_body.specs.Stores.{StoreState}
use Rattle.fj_body.specs.Acting.{Acts}
use Rattle.fj_calls.specs.Closes.{is_finished}
use Rattle.fj_calls.specs.Cores.{ChangesStore, CoreState}
use Rattle.fj_guarded.specs.declared.guarded.outside.TakenIn.{TakenIn}
use Rattle.fj_guarded.specs.declared.guarded.outside.TakenIn.TheVariants.{Nothing, One, Several}
use Rattle.fj_guarded.specs.declared.next.Next.{Next}
use Rattle.fj_guarded.specs.declared.next.Next.TheVariants.{Again, Begin, Leave, Rest, Turn, Wait}
use Rattle.fj_calls.specs.Joins.{is_joinable}
use Rattle.fj_guarded.specs.Looking.{LooksAtLanes}

module _ {B K O : Type 0} where
  -- ---- a worker waits

  -- what comes next where the task may still be waited for, or not
  abbrev pub next_asleep : Bool → Next B K O
  next_asleep true = Wait
  next_asleep false = Again

  -- the same after a look at the lanes, if there was one
  abbrev pub next_behind : Option TakenIn → Bool → Next B K O
  next_behind None joinable = next_asleep joinable
  next_behind (Some Nothing) joinable = next_asleep joinable
  next_behind (Some One) joinable = Again
  next_behind (Some Several) joinable = Again

  -- the lanes were looked at, or nothing has changed
  abbrev pub MayLook : (B → Option ℕ) → CoreState B K O → Option TakenIn → CoreState B K O → Type 0
  MayLook rooted_as old (Some taken) new = LooksAtLanes rooted_as old taken new
  MayLook rooted_as old None new = new ≡ old

  -- it waits for a task, perhaps after a look at the lanes, and looks again if that took something in, or if the task has ended
  pub record Waits (rooted_as : B → Option ℕ) (t : ℕ) (old : CoreState B K O) (next : Next B K O) (new : CoreState B K O) : Type 0 where
    pub looked : Option TakenIn
    pub looks : MayLook rooted_as old looked new
    pub next_is : next ≡ next_behind looked (is_joinable new t)

  -- ---- an idle worker

  -- what comes next if no task is queued
  abbrev pub next_idle : Bool → Next B K O
  next_idle true = Leave (Ok tt)
  next_idle false = Rest

  -- what comes next, by the answer to a poll
  abbrev pub NextOfPoll : CoreState B K O → Told B K O → Next B K O → Type 0
  NextOfPoll core (told.Run t) next = next ≡ Begin t
  NextOfPoll core (told.Skip t body) next = next ≡ Again
  NextOfPoll core told.None next = next ≡ next_idle (is_finished core)
  NextOfPoll core (told.Stuck body) next = next ≡ Leave (Err LogFull)
  NextOfPoll core _ next = ⊥

  -- one poll
  pub record PollsOnce (old : CoreState B K O) (hand : HandState B) (next : Next B K O) (new : CoreState B K O) (hand' : HandState B) : Type 0 where
    pub told : Told B K O
    pub polls : Polls old.store hand told new.store hand'
    pub others : ChangesStore old new
    pub next_is : NextOfPoll new told next

  -- a poll that skips a task
  pub record SkipsOnce (old : CoreState B K O) (hand : HandState B) (new : CoreState B K O) (hand' : HandState B) : Type 0 where
    pub task : ℕ
    pub body : B
    pub polls : Polls old.store hand (told.Skip task body) new.store hand'
    pub others : ChangesStore old new

  -- n of them
  abbrev pub Skips : ℕ → CoreState B K O → HandState B → CoreState B K O → HandState B → Type 0
  Skips zero old hand new hand' = (new ≡ old) × (hand' ≡ hand)
  Skips (suc n) old hand new hand' = (mid : CoreState B K O) × (between : HandState B) × Skips n old hand mid between × SkipsOnce mid between new hand'

  -- some polls that skip a task, and then one
  pub record PollsOn (old : CoreState B K O) (hand : HandState B) (next : Next B K O) (new : CoreState B K O) (hand' : HandState B) : Type 0 where
    pub skipped : ℕ
    pub mid : CoreState B K O
    pub between : HandState B
    pub skips : Skips skipped old hand mid between
    pub polls : PollsOnce mid between next new hand'

  -- the answers that a poll can give; `Stuck` only if the store is stuck
  abbrev pub IsPolled : StoreState B K O → Told B K O → Type 0
  IsPolled store (told.Run t) = ⊤
  IsPolled store (told.Skip t body) = ⊤
  IsPolled store told.None = ⊤
  IsPolled store (told.Stuck body) = store.stuck ≡ true
  IsPolled store _ = ⊥

  -- a look at the lanes, and then polls
  pub record LooksForWork (rooted_as : B → Option ℕ) (old : CoreState B K O) (hand : HandState B) (next : Next B K O) (new : CoreState B K O) (hand' : HandState B) : Type 0 where
    pub taken : TakenIn
    pub mid : CoreState B K O
    pub looks : LooksAtLanes rooted_as old taken mid
    pub polls : PollsOn mid hand next new hand'

  -- ---- a worker goes on with a body

  -- this comes next, and nothing has changed
  abbrev pub Then : Next B K O → CoreState B K O → Next B K O → CoreState B K O → Type 0
  Then expected old next new = (next ≡ expected) × (new ≡ old)

  -- what comes next, by the answer to a join
  abbrev pub NextOfJoin : (B → Option ℕ) → ℕ → Told B K O → CoreState B K O → Next B K O → CoreState B K O → Type 0
  NextOfJoin rooted_as t (told.Hear heard) old next new = Then (Turn heard) old next new
  NextOfJoin rooted_as t (told.Run u) old next new = Then (Begin u) old next new
  NextOfJoin rooted_as t (told.Skip u body) old next new = Then Again old next new
  NextOfJoin rooted_as t told.None old next new = Waits rooted_as t old next new
  NextOfJoin rooted_as t (told.Stuck body) old next new = Then (Leave (Err LogFull)) old next new
  NextOfJoin rooted_as t _ old next new = ⊥

  -- the body that joined the task retries
  pub record JoinsOnce (key_of : B → K) (rooted_as : B → Option ℕ) (old : CoreState B K O) (hand : HandState B) (t : ℕ) (next : Next B K O) (new : CoreState B K O) (hand' : HandState B) : Type 0 where
    pub told : Told B K O
    pub mid : CoreState B K O
    pub acts : Acts key_of old.store hand (asks.Join t) told mid.store hand'
    pub others : ChangesStore old mid
    pub goes_on : NextOfJoin rooted_as t told mid next new

  -- it had joined this task, and retries; or it helped, and hears so
  abbrev pub GoesOn : (B → K) → (B → Option ℕ) → Option ℕ → CoreState B K O → HandState B → Next B K O → CoreState B K O → HandState B → Type 0
  GoesOn key_of rooted_as (Some t) old hand next new hand' = JoinsOnce key_of rooted_as old hand t next new hand'
  GoesOn key_of rooted_as None old hand next new hand' = Then (Turn (hears.Helped true)) old next new × (hand' ≡ hand)

  -- a worker whose hand is empty looks for work; in another one the body on top goes on, with what was noted of it
  pub record Resumes (key_of : B → K) (rooted_as : B → Option ℕ) (old : CoreState B K O) (hand : HandState B) (next : Next B K O) (new : CoreState B K O) (hand' : HandState B) : Type 0 where
    pub idle : (hand.stack ≡ []) × (hand.hook ≡ None) → LooksForWork rooted_as old hand next new hand'
    pub busy : ((hand.stack ≡ []) × (hand.hook ≡ None) → ⊥) → GoesOn key_of rooted_as (newest_note hand.joined) old hand next new hand'

  -- ---- a worker serves what is asked

  -- of the running body it is noted which task it joins, or that it helps
  abbrev pub noted_of_body : HandState B → Ask B K O → HandState B
  noted_of_body hand (asks.Join t) = with_note hand (Some t)
  noted_of_body hand asks.Help = with_note hand None
  noted_of_body hand _ = hand

  abbrev pub noted_where : Bool → HandState B → Ask B K O → HandState B
  noted_where true hand ask = hand
  noted_where false hand ask = noted_of_body hand ask

  -- the hand with what is noted of an ask; a hook neither joins nor helps
  abbrev pub noted : HandState B → Ask B K O → HandState B
  noted hand ask = noted_where (is_some hand.hook) hand ask

  -- the task that this joins
  abbrev pub joined_of : Ask B K O → Option ℕ
  joined_of (asks.Join t) = Some t
  joined_of _ = None

  -- what comes next if no task was queued: a body that helped hears so, and one that joined waits
  abbrev pub WithoutTask : (B → Option ℕ) → Option ℕ → CoreState B K O → Next B K O → CoreState B K O → Type 0
  WithoutTask rooted_as (Some t) old next new = Waits rooted_as t old next new
  WithoutTask rooted_as None old next new = Then (Turn (hears.Helped false)) old next new

  -- what comes next, by the answer; if the body has ended, the worker goes on with another one or looks for work
  abbrev pub NextOf : (B → K) → (B → Option ℕ) → Ask B K O → Told B K O → CoreState B K O → HandState B → Next B K O → CoreState B K O → HandState B → Type 0
  NextOf key_of rooted_as ask (told.Hear heard) old hand next new hand' = Then (Turn heard) old next new × (hand' ≡ hand)
  NextOf key_of rooted_as ask (told.Run t) old hand next new hand' = Then (Begin t) old next new × (hand' ≡ hand)
  NextOf key_of rooted_as ask (told.Skip t body) old hand next new hand' = Then Again old next new × (hand' ≡ hand)
  NextOf key_of rooted_as ask told.None old hand next new hand' = WithoutTask rooted_as (joined_of ask) old next new × (hand' ≡ hand)
  NextOf key_of rooted_as ask (told.Hook c caller) old hand next new hand' = Then (Turn (hears.Hook caller)) old next new × (hand' ≡ hand)
  NextOf key_of rooted_as ask (told.Over body) old hand next new hand' = Resumes key_of rooted_as old hand next new hand'
  NextOf key_of rooted_as ask (told.Stuck body) old hand next new hand' = Then (Leave (Err LogFull)) old next new × (hand' ≡ hand)

  -- what was asked is noted and served, by one action, and the worker goes on with the answer
  pub record Serves (key_of : B → K) (rooted_as : B → Option ℕ) (old : CoreState B K O) (hand : HandState B) (ask : Ask B K O) (next : Next B K O) (new : CoreState B K O) (hand' : HandState B) : Type 0 where
    pub told : Told B K O
    pub mid : CoreState B K O
    pub held : HandState B
    pub acts : Acts key_of old.store (noted hand ask) ask told mid.store held
    pub others : ChangesStore old mid
    pub goes_on : NextOf key_of rooted_as ask told mid held next new hand'
