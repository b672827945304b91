-- The test of a check holds exactly where an entry may come.
use Rattle.std.proofs.Common.{ℕ, ◌≡◌, ◌<◌, Bool, true, false, ◌&&◌, List, [], length, Option, Some, None, refl}
use Rattle.std.specs.Prelude.{nat_lt, is_none, IfSome}
use Rattle.std.specs.Option.{option_map_or}
use Rattle.std.proofs.lemmas.Bool.{and_parts, ltb-true, lt-ltb}
use Rattle.fj_rules.specs.declared.event.Event.{Event}
use Rattle.fj_rules.specs.declared.event.Event.TheVariants.{Fire}
use Rattle.fj_rules.specs.declared.refusal.Refusal.{Refusal}
use Rattle.fj_rules.specs.Bounds.{Pool}
use Rattle.fj_rules.specs.Tasks.{is_completer}
use Rattle.fj_rules.specs.Hooks.{hand, goes_to}
use Rattle.fj_rules.specs.Climbs.{climbed_by}
use Rattle.fj_rules.specs.Allowed.{AllowedFrom}
use Rattle.fj_rules.specs.Follows.{Follows, HasHand}
use Rattle.fj_rules.specs.Pasts.{Past, limit}
use Rattle.fj_rules.specs.Epochs.{seal_refusal}
use Rattle.fj_rules.proofs.Samples.AllowedTest.{allowed_test}
use Rattle.fj_rules.proofs.Samples.AllowedTested.{told, tested}
use Rattle.fj_history.specs.declared.entry.Entry.{Entry}
use Rattle.fj_history.specs.declared.entry.Entry.TheVariants as entry
use Rattle.fj_check.specs.Entries.{MayCome}
use Rattle.fj_check.specs.Rules.{names_test, hand_free, hand_test, follows_test, can_come}

-- ---- it holds exactly where the entry may come

names_told : (h : List Event) (said : Option ℕ) → option_map_or (λ c. is_completer h c) said true ≡ true → IfSome said (λ c. is_completer h c ≡ true)
names_told h None holds = tt
names_told h (Some c) holds = holds

names_tested : (h : List Event) (said : Option ℕ) → IfSome said (λ c. is_completer h c ≡ true) → option_map_or (λ c. is_completer h c) said true ≡ true
names_tested h None holds = refl
names_tested h (Some c) holds = holds

none_is : (o : Option ℕ) → is_none o ≡ true → o ≡ None
none_is None holds = refl
none_is (Some x) holds = absurd cc

is_none_of : {A : Type 0} (o : Option A) → o ≡ None → is_none o ≡ true
is_none_of o none = rw none refl

free_told : (pool : Pool) (h : List Event) (c : ℕ) (to : Option ℕ) → goes_to h c ≡ to → hand_free pool h to ≡ true → (w : ℕ) × (w < pool.limits.workers) × (goes_to h c ≡ Some w) × (hand h w ≡ None)
free_told pool h c None is holds = absurd cc
free_told pool h c (Some w) is holds = let parts = and_parts (nat_lt w pool.limits.workers) (is_none (hand h w)) holds in (w, ltb-true w pool.limits.workers parts.0, is, none_is (hand h w) parts.1)

hand_told : (pool : Pool) (h : List Event) (e : Event) → hand_test pool h e ≡ true → HasHand pool h e
hand_told pool h (Fire c how) holds = free_told pool h c (goes_to h c) refl holds
hand_told pool h _ holds = tt

hand_tested : (pool : Pool) (h : List Event) (e : Event) → HasHand pool h e → hand_test pool h e ≡ true
hand_tested pool h (Fire c how) has = rw (has.2, lt-ltb has.0 pool.limits.workers has.1, has.3) refl
hand_tested pool h _ has = refl

follows_told : (past : Past) (e : Event) → follows_test past e ≡ true → Follows past e
follows_told past e holds =
    let names = names_test past.events e in
    let free = hand_test past.pool past.events e in
    let room = nat_lt (length past.events) (limit past) in
    let one = and_parts (allowed_test past.pool past.events e) (names && (free && room)) holds in
    let two = and_parts names (free && room) one.1 in
    let three = and_parts free room two.1 in
    record {
      allowed = told past.pool past.events e one.0;
      names = names_told past.events (climbed_by e) two.0;
      free = hand_told past.pool past.events e three.0;
      fits = ltb-true (length past.events) (limit past) three.1;
    }

follows_tested : (past : Past) (e : Event) → AllowedFrom past.pool [] past.events → Follows past e → follows_test past e ≡ true
follows_tested past e so follows =
    rw (tested past.pool past.events e so follows.allowed, names_tested past.events (climbed_by e) follows.names, hand_tested past.pool past.events e follows.free, lt-ltb (length past.events) (limit past) follows.fits) refl

seal_none : (o : Option Refusal) → is_none o ≡ true → o ≡ None
seal_none None holds = refl
seal_none (Some x) holds = absurd cc

pub come_told : (past : Past) (e : Entry) → can_come past e ≡ true → MayCome past e
come_told past (entry.Event e) holds = follows_told past e holds
come_told past entry.Seal holds = seal_none (seal_refusal past) holds

pub come_tested : (past : Past) (e : Entry) → AllowedFrom past.pool [] past.events → MayCome past e → can_come past e ≡ true
come_tested past (entry.Event e) so may = follows_tested past e so may
come_tested past entry.Seal so may = is_none_of (seal_refusal past) may

-- where it may not come the test fails, and there alone
pub come_barred : (past : Past) (e : Entry) → (MayCome past e → ⊥) → can_come past e ≡ false
come_barred past e bar = go (can_come past e) refl
  where
    go : (b : Bool) → can_come past e ≡ b → b ≡ false
    go true is = absurd (bar (come_told past e is))
    go false is = refl
