-- A completion action is in the hand of a worker that is there.
use Rattle.std.proofs.Common.{ℕ, ◌≡◌, ◌-◌, ◌<◌, Bool, true, false, not, cond, List, [], ◌∷◌, ◌++◌, length, Option, Some, None, refl, subst, arith}
use Rattle.std.specs.Prelude.{◌==◌, if◌then◌else◌, IfSome}
use Rattle.std.specs.List.{filter}
use Rattle.std.proofs.lemmas.Bool.{eqb-true}
use Rattle.fj_rules.specs.declared.event.Event.{Event}
use Rattle.fj_rules.specs.declared.event.Event.TheVariants.{End, Fire, Hooked}
use Rattle.fj_rules.specs.Bounds.{Pool}
use Rattle.fj_rules.specs.Stacks.{stack}
use Rattle.fj_rules.specs.Hooks.{Hook, Hooks, hooks, hooks_after, receiver, with_hook, worker_in, completer_in, hand}
use Rattle.fj_rules.specs.Allowed.{Allowed, AllowedFrom}
use Rattle.fj_rules.proofs.Events.Growth.{hooks_more}
use Rattle.fj_rules.proofs.Events.Lawful.{by_events}
use Rattle.fj_rules.proofs.Lists.Members.{get_is_in}
use Rattle.fj_rules.proofs.Places.OnePlace.{stack_apart}

abbrev AllBelow : ℕ → List Hook → Type 0
AllBelow n [] = Unit {0}
AllBelow n (hook ∷ others) = (hook.worker < n) × AllBelow n others

-- whoever has a completion action in hand, or had the last one, or has just ended a body, is one of so many workers
record AreWorkers (n : ℕ) (s : Hooks) : Type 0 where
  in_hands : AllBelow n s.in_hands
  ended : IfSome s.just_ended (λ end. end.1 < n)
  last : IfSome s.last_worker (λ w. w < n)

receives : (n c : ℕ) (ended : Option (ℕ × ℕ)) (last : Option ℕ) → IfSome ended (λ end. end.1 < n) → IfSome last (λ w. w < n) → IfSome (receiver c ended last) (λ w. w < n)
receives n c None last before below = below
receives n c (Some end) last before below = go (end.0 == c)
  where
    go : (b : Bool) → IfSome (if b then Some end.1 else last) (λ w. w < n)
    go true = before
    go false = below

one_more : (n c w : ℕ) (others : List Hook) → AllBelow n others → w < n → AllBelow n (others ++ record { completer = c; worker = w } ∷ [])
one_more n c w [] all below = (below, tt)
one_more n c w (hook ∷ others) all below = (all.0, one_more n c w others all.1 below)

with_one : (n c : ℕ) (w : Option ℕ) (others : List Hook) → AllBelow n others → IfSome w (λ v. v < n) → AllBelow n (with_hook c w others)
with_one n c None others all below = all
with_one n c (Some w) others all below = one_more n c w others all below

without_one : (n : ℕ) (p : Hook → Bool) (others : List Hook) → AllBelow n others → AllBelow n (filter p others)
without_one n p [] all = tt
without_one n p (hook ∷ others) all = go (p hook) (without_one n p others all.1)
  where
    go : (b : Bool) → AllBelow n (filter p others) → AllBelow n (cond b (hook ∷ filter p others) (filter p others))
    go true rest = (all.0, rest)
    go false rest = rest

worker_of : (n c : ℕ) (others : List Hook) → AllBelow n others → IfSome (worker_in c others) (λ w. w < n)
worker_of n c [] all = tt
worker_of n c (hook ∷ others) all = go (hook.completer == c) (worker_of n c others all.1)
  where
    go : (b : Bool) → IfSome (worker_in c others) (λ w. w < n) → IfSome (if b then Some hook.worker else worker_in c others) (λ w. w < n)
    go true rest = all.0
    go false rest = rest

-- an event leaves it so, if it ends a body at such a worker alone
after : (n : ℕ) (s : Hooks) (e : Event) → AreWorkers n s → ((t w : ℕ) → e ≡ End t w → w < n) → AreWorkers n (hooks_after s e)
after n s (End t w) are ends = record { in_hands = are.in_hands; ended = ends t w refl; last = are.last }
after n s (Fire c how) are ends = record {
  in_hands = with_one n c (receiver c s.just_ended s.last_worker) s.in_hands are.in_hands (receives n c s.just_ended s.last_worker are.ended are.last);
  ended = tt;
  last = are.last;
}
after n s (Hooked c) are ends = record {
  in_hands = without_one n (λ hook. not (hook.completer == c)) s.in_hands are.in_hands;
  ended = tt;
  last = worker_of n c s.in_hands are.in_hands;
}
after n s _ are ends = record { in_hands = are.in_hands; ended = tt; last = are.last }

abbrev AreThere : Pool → List Event → Type 0
AreThere pool h = AreWorkers pool.limits.workers (hooks h)

there_none : (pool : Pool) → AreThere pool []
unfolding hooks
there_none pool = record { in_hands = tt; ended = tt; last = tt }

ends_there : (pool : Pool) (h : List Event) (e : Event) → AllowedFrom pool [] h → Allowed pool h e → (t w : ℕ) → e ≡ End t w → w < pool.limits.workers
ends_there pool h e so may t w is =
    let end : Allowed pool h (End t w) = subst (Allowed pool h) is may in
    let there = get_is_in t (stack h w) (length (stack h w) - 1) end.0 in
    let apart = stack_apart pool h so t w w there there in omega (arith, apart.1)

there_more : (pool : Pool) (h : List Event) (e : Event) → AllowedFrom pool [] h → AreThere pool h → Allowed pool h e → AreThere pool (h ++ e ∷ [])
there_more pool h e so are may = rw hooks_more (after pool.limits.workers (hooks h) e are (ends_there pool h e so may))

found_below : (n w c : ℕ) (others : List Hook) → AllBelow n others → completer_in w others ≡ Some c → w < n
found_below n w c [] all is = absurd cc
found_below n w c (hook ∷ others) all is = go (hook.worker == w) refl is (found_below n w c others all.1)
  where
    go : (b : Bool) → (hook.worker == w) ≡ b → (if b then Some hook.completer else completer_in w others) ≡ Some c → (completer_in w others ≡ Some c → w < n) → w < n
    go true same is rest = subst (λ v. v < n) (eqb-true hook.worker w same) all.0
    go false other is rest = rest is

pub hand_there : (pool : Pool) (h : List Event) (w c : ℕ) → AllowedFrom pool [] h → hand h w ≡ Some c → w < pool.limits.workers
unfolding hand
hand_there pool h w c so is = found_below pool.limits.workers w c (hooks h).in_hands (by_events pool (AreThere pool) (there_none pool) (there_more pool) h so).in_hands is
