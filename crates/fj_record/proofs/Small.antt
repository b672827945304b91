-- The entries of a run have lines: their numbers have 32 bits, as long as those of its tasks have.
use Rattle.std.proofs.Common.{ℕ, ◌≡◌, ◌+◌, ◌<◌, ◌≤◌, ◌^◌, true, List, [], ◌∷◌, ◌++◌, Some, None, refl, sym, ◌∙◌, arith, ⊎_elim}
use Rattle.std.proofs.lemmas.Bool.{ltb-true, cases_lt}
use Rattle.fj_rules.specs.declared.event.Event.{Event}
use Rattle.fj_rules.specs.declared.event.Event.TheVariants as event
use Rattle.fj_rules.specs.declared.kind.Kind.{Kind}
use Rattle.fj_rules.specs.declared.kind.Kind.TheVariants as kind
use Rattle.fj_rules.specs.declared.owner.Owner.{Owner}
use Rattle.fj_rules.specs.declared.owner.Owner.TheVariants.{Sub, Work}
use Rattle.fj_rules.specs.Bounds.{Pool, IsOwner}
use Rattle.fj_rules.specs.Lists.{is_in, last_of}
use Rattle.fj_rules.specs.Tasks.{tasks, accepted, accepted_by}
use Rattle.fj_rules.specs.Stacks.{stack}
use Rattle.fj_rules.specs.Climbs.{ClimbsCompleters}
use Rattle.fj_rules.specs.Allowed.{Allowed, AllowedFrom, MayAccept}
use Rattle.fj_rules.specs.Follows.{NamesCompleter}
use Rattle.fj_rules.proofs.Events.Growth.{accepted_more}
use Rattle.fj_rules.proofs.Events.KindsKept.{completer_known, kept_known}
use Rattle.fj_rules.proofs.Events.Lawful.{is_numbered}
use Rattle.fj_rules.proofs.Events.Opening.{ended_accepted}
use Rattle.fj_rules.proofs.Events.Taking.{taken_accepted}
use Rattle.fj_rules.proofs.Lists.Absent.{no_such_stack}
use Rattle.fj_rules.proofs.Completers.Climbed.{hand_climbed}
use Rattle.fj_history.specs.Entries.{HasCode, HasEventLine, HasSmallKind, owner_number}

-- ---- one event

-- few enough workers and submitters, and tasks
pub record IsNarrow (pool : Pool) : Type 0 where
  pub workers : pool.limits.workers ≤ 32
  pub submitters : pool.limits.submitters ≤ 32

known_small : (pool : Pool) (h : List Event) (t : ℕ) → AllowedFrom pool [] h → accepted h ≤ 2 ^ 32 → is_in t (tasks h) ≡ true → t < 2 ^ 32
known_small pool h t so few there = let below = ltb-true t (accepted h) (sym (is_numbered pool h so t) ∙ there) in omega (arith, few, below)

new_small : (pool : Pool) (h : List Event) (e : Event) (t : ℕ) → t ≡ accepted h → accepted_by e ≡ Some t → accepted (h ++ e ∷ []) ≤ 2 ^ 32 → t < 2 ^ 32
new_small pool h e t is by few =
    let more : accepted (h ++ e ∷ []) ≡ accepted h + 1 = accepted_more h e ∙ rw by refl in
    omega (arith, is, more, few)

owner_small : (pool : Pool) (o : Owner) → IsNarrow pool → IsOwner pool.limits o → owner_number o < 2 ^ 32
owner_small pool (Sub s) narrow is = let few = narrow.submitters in omega (arith, few, is)
owner_small pool (Work w) narrow is = let few = narrow.workers in omega (arith, few, is)

kind_small : (pool : Pool) (h : List Event) (t : ℕ) (k : Kind) → AllowedFrom pool [] h → accepted h ≤ 2 ^ 32 → MayAccept pool h t k → HasSmallKind k
kind_small pool h t kind.Plain so few may = tt
kind_small pool h t (kind.Completer relay count None) so few may = let short = may.count in (tt, omega (arith, short))
kind_small pool h t (kind.Completer relay count (Some p)) so few may =
    let short = may.count in
    (known_small pool h p so few (kept_known h p may.under.0), omega (arith, short))

worker_small : (pool : Pool) (w : ℕ) → IsNarrow pool → w < pool.limits.workers → w < 2 ^ 32
worker_small pool w narrow is = let few = narrow.workers in omega (arith, few, is)

holder_small : (pool : Pool) (h : List Event) (w t : ℕ) → AllowedFrom pool [] h → IsNarrow pool → last_of (stack h w) ≡ Some t → w < 2 ^ 32
holder_small pool h w t so narrow is = ⊎_elim (λ within. worker_small pool w narrow within) (λ over. absurd (no_last (stack h w) (no_such_stack pool h w so (omega (arith, over))) is)) (cases_lt w pool.limits.workers)
  where
    no_last : (l : List ℕ) → l ≡ [] → last_of l ≡ Some t → ⊥
    no_last [] none is = absurd cc
    no_last (x ∷ l) none is = absurd cc

pub event_small : (pool : Pool) (h : List Event) (e : Event) → IsNarrow pool → AllowedFrom pool [] h → ClimbsCompleters h → Allowed pool h e → NamesCompleter h e → HasCode e → accepted h ≤ 2 ^ 32 → accepted (h ++ e ∷ []) ≤ 2 ^ 32 → HasEventLine e
event_small pool h (event.Acc t o k) narrow so climbs may names code old few =
    (new_small pool h (event.Acc t o k) t may.0.number refl few, owner_small pool o narrow may.1, kind_small pool h t k so old may.0)
event_small pool h (event.Make t k) narrow so climbs may names code old few =
    (new_small pool h (event.Make t k) t may.0.number refl few, kind_small pool h t k so old may.0)
event_small pool h (event.Out t w) narrow so climbs may names code old few =
    (known_small pool h t so old (taken_accepted pool h (event.Out t w) t may refl), worker_small pool w narrow may.0.worker)
event_small pool h (event.Skip t w) narrow so climbs may names code old few =
    (known_small pool h t so old (taken_accepted pool h (event.Skip t w) t may refl), worker_small pool w narrow may.0.worker)
event_small pool h (event.End t w) narrow so climbs may names code old few =
    (known_small pool h t so old (ended_accepted pool h t w so may), holder_small pool h w t so narrow may.0)
event_small pool h (event.Add c n) narrow so climbs may names code old few =
    let short = may.2 in (known_small pool h c so old (kept_known h c may.0), omega (arith, short))
event_small pool h (event.Dec c) narrow so climbs may names code old few = known_small pool h c so old (completer_known h c names)
event_small pool h (event.Fire c how) narrow so climbs may names code old few = known_small pool h c so old (completer_known h c names)
event_small pool h (event.Pass c) narrow so climbs may names code old few = known_small pool h c so old (completer_known h c names)
event_small pool h (event.Hooked c) narrow so climbs may names code old few =
    known_small pool h c so old (completer_known h c (climbs c (hand_climbed pool h may.0 c so may.1)))
event_small pool h (event.Settle t s) narrow so climbs may names code old few = (known_small pool h t so old may.0, code)
event_small pool h event.Close narrow so climbs may names code old few = tt
event_small pool h event.Stop narrow so climbs may names code old few = tt
event_small pool h (event.Rel t) narrow so climbs may names code old few = known_small pool h t so old (kept_known h t may.0)
