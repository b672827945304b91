-- When an event follows what has happened: it is allowed, and has what a history of the machine has beside that.
use Rattle.std.specs.Prelude.{ℕ, ◌≡◌, ◌<◌, true, List, [], ◌∷◌, length, Some, None, IfSome}
use Rattle.fj_rules.specs.declared.event.Event.{Event}
use Rattle.fj_rules.specs.declared.event.Event.TheVariants.{Fire}
use Rattle.fj_rules.specs.Bounds.{Pool}
use Rattle.fj_rules.specs.Tasks.{is_completer}
use Rattle.fj_rules.specs.Hooks.{hand, goes_to}
use Rattle.fj_rules.specs.Climbs.{climbed_by}
use Rattle.fj_rules.specs.Allowed.{Allowed}
use Rattle.fj_rules.specs.Pasts.{Past, grown, limit}

-- an arrival is spoken of at completers alone
abbrev pub NamesCompleter : List Event → Event → Type 0
NamesCompleter h e = IfSome (climbed_by e) (λ c. is_completer h c ≡ true)

-- a hand has at most one hook: the hook of a completer that is fired goes to a worker whose hand is empty
abbrev pub HasHand : Pool → List Event → Event → Type 0
HasHand pool h (Fire c how) = (w : ℕ) × (w < pool.limits.workers) × (goes_to h c ≡ Some w) × (hand h w ≡ None)
HasHand pool h _ = Unit {0}

-- the event may follow, and there is room for it before the next seal
pub record Follows (past : Past) (e : Event) : Type 0 where
  pub allowed : Allowed past.pool past.events e
  pub names : NamesCompleter past.events e
  pub free : HasHand past.pool past.events e
  pub fits : length past.events < limit past

-- each of these events follows those before it
abbrev pub AllFollow : Past → List Event → Type 0
AllFollow past [] = Unit {0}
AllFollow past (e ∷ later) = Follows past e × AllFollow (grown past (e ∷ [])) later
