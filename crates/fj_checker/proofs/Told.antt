-- What the record of a task tells of the rules of events.
use Rattle.std.proofs.Common.{ℕ, ◌≡◌, ◌+◌, ◌-◌, length, ◌≤◌, ◌<◌, Bool, true, false, List, [], Option, Some, None, refl, sym, ap, ◌∙◌, arith}
use Rattle.std.proofs.Common.{Bor}
use Rattle.std.specs.Prelude.{MatchOption, option_copied, ◌||◌, if◌then◌else◌, nat_lt, is_some}
use Rattle.std.proofs.lemmas.Bool.{true≢false}
use Rattle.std.proofs.lemmas.Option.{MatchOption-at_some}
use Rattle.fj_rules.specs.declared.limits.TheConstants.{MAX_PENDING}
use Rattle.fj_rules.specs.declared.event.Event.{Event}
use Rattle.fj_rules.specs.declared.event.Event.TheVariants.{Add, End, Fire}
use Rattle.fj_rules.specs.declared.event.How.{How}
use Rattle.fj_rules.specs.declared.event.How.TheVariants.{Zero, Complete}
use Rattle.fj_rules.specs.Stacks.{stack}
use Rattle.fj_rules.proofs.Lists.Members.{get_is_in}
use Rattle.fj_rules.proofs.Places.OnePlace.{stack_apart}
use Rattle.fj_rules.specs.Bounds.{Pool}
use Rattle.fj_rules.specs.Tasks.{is_kept, is_completer, is_completer_kind}
use Rattle.fj_rules.specs.Completers.{pending, is_spent}
use Rattle.fj_tree.specs.Arrivals as record_is
use Rattle.fj_rules.specs.Places.{place, queued_in, held_by}
use Rattle.fj_rules.specs.Climbs.{Arrival, Spent, Counted, Early, Fires, arrival}
use Rattle.fj_rules.specs.Allowed.{Allowed, AllowedFrom}
use Rattle.fj_tree.specs.declared.record.Record.{Record}
use Rattle.fj_tree.specs.Arrivals.{arrival_at}
use Rattle.fj_ledger.specs.Arriving.{as_arrival}
use Rattle.fj_ledger.specs.Holds.{TellsOf}
use Rattle.fj_ledger.proofs.Recorded.ArrivalsTold.{released_told, arrival_told, spent_told}

-- a task without a record is not kept
pub unkept : (h : List Event) (t : ℕ) (found : Option (Bor Record)) → MatchOption (option_copied found) (is_kept h t ≡ false) (TellsOf h t) → found ≡ None → is_kept h t ≡ false
unkept h t None told none = told
unkept h t (Some r) told none = absurd cc

pub told_of : (h : List Event) (t : ℕ) (found : Option (Bor Record)) (r : Bor Record) → MatchOption (option_copied found) (is_kept h t ≡ false) (TellsOf h t) → found ≡ Some r → TellsOf h t r.now
told_of h t found r told is = MatchOption-at_some (is_kept h t ≡ false) (TellsOf h t) r.now (ap option_copied is) told

-- ---- what is told of the task

pub kept_is : (h : List Event) (t : ℕ) (r : Record) → TellsOf h t r → is_kept h t ≡ true
kept_is h t r told = ap (is_kept h) (sym told.number) ∙ told.tells.kept

pub completer_is : (h : List Event) (t : ℕ) (r : Record) → TellsOf h t r → is_completer h t ≡ is_completer_kind (Some r.kind)
unfolding is_completer
completer_is h t r told = ap (is_completer h) (sym told.number) ∙ ap is_completer_kind told.tells.kind

pub pending_is : (h : List Event) (t : ℕ) (r : Record) → TellsOf h t r → pending h t ≡ r.pending
pending_is h t r told = ap (pending h) (sym told.number) ∙ told.tells.pending

pub place_is : (h : List Event) (t : ℕ) (r : Record) → TellsOf h t r → place h t ≡ r.place
place_is h t r told = ap (place h) (sym told.number) ∙ told.tells.place

pub arrival_is : (h : List Event) (t : ℕ) (r : Record) → TellsOf h t r → arrival h t ≡ as_arrival (arrival_at r)
arrival_is h t r told = ap (arrival h) (sym told.number) ∙ sym (arrival_told h r told.tells)

-- ---- additions

pub add_plain : (pool : Pool) (h : List Event) (c n : ℕ) (r : Record) → TellsOf h c r → is_completer_kind (Some r.kind) ≡ false → Allowed pool h (Add c n) → ⊥
add_plain pool h c n r told plain may = true≢false (sym may.1 ∙ completer_is h c r told ∙ plain)

pub add_may : (pool : Pool) (h : List Event) (c n : ℕ) (r : Record) → TellsOf h c r → is_completer_kind (Some r.kind) ≡ true → r.pending + n ≤ MAX_PENDING → Allowed pool h (Add c n)
add_may pool h c n r told completer few = let same = pending_is h c r told in (kept_is h c r told, completer_is h c r told ∙ completer, omega (arith, same, few))

-- ---- arrivals

-- at a task that is not kept no arrival at a completer counts or fires
pub arrival_none : (pool : Pool) (h : List Event) (c : ℕ) (a : Arrival) → AllowedFrom pool [] h → is_kept h c ≡ false → arrival h c ≡ a → is_completer h c ≡ true → Spent ≡ a
arrival_none pool h c a so none is completer = released_told pool h c so completer none ∙ is

-- no arrival at a task that is not kept, or is plain, is of a completer and does so
pub never_arrives : (pool : Pool) (h : List Event) (c : ℕ) (a : Arrival) → AllowedFrom pool [] h → is_kept h c ≡ false → (Spent ≡ a → ⊥) → (arrival h c ≡ a) × (is_completer h c ≡ true) → ⊥
never_arrives pool h c a so none other may = other (arrival_none pool h c a so none may.0 may.1)

pub plain_arrives : (h : List Event) (c : ℕ) (r : Record) (A : Type 0) → TellsOf h c r → is_completer_kind (Some r.kind) ≡ false → A × (is_completer h c ≡ true) → ⊥
plain_arrives h c r A told plain may = true≢false (sym may.1 ∙ completer_is h c r told ∙ plain)

pub does_arrive : (h : List Event) (c : ℕ) (r : Record) (a : Arrival) → TellsOf h c r → is_completer_kind (Some r.kind) ≡ true → as_arrival (arrival_at r) ≡ a → (arrival h c ≡ a) × (is_completer h c ≡ true)
does_arrive h c r a told completer is = (arrival_is h c r told ∙ is, completer_is h c r told ∙ completer)

pub other_arrives : (h : List Event) (c : ℕ) (r : Record) (a : Arrival) → TellsOf h c r → (as_arrival (arrival_at r) ≡ a → ⊥) → (arrival h c ≡ a) × (is_completer h c ≡ true) → ⊥
other_arrives h c r a told other may = other (sym (arrival_is h c r told) ∙ may.0)

-- ---- firings by complete

pub spent_is : (h : List Event) (t : ℕ) (r : Record) → TellsOf h t r → is_spent h t ≡ record_is.is_spent r
spent_is h t r told = ap (is_spent h) (sym told.number) ∙ spent_told h r told.tells

-- a completer that is not kept is spent
pub left_spent : (pool : Pool) (h : List Event) (c : ℕ) → AllowedFrom pool [] h → is_kept h c ≡ false → is_completer h c ≡ true → is_spent h c ≡ false → ⊥
unfolding arrival
left_spent pool h c so none completer fresh =
    let is = released_told pool h c so completer none in
    let bad = rw fresh at is in
    go (nat_lt 0 (pending h c)) (is_some (queued_in h c) || is_some (held_by h c)) bad
  where
    go : (p e : Bool) → Spent ≡ (if p then Counted else if e then Early else Fires) → ⊥
    go true e is = absurd cc
    go false true is = absurd cc
    go false false is = absurd cc

-- ---- completers that are kept

pub kept_by_arrival : (pool : Pool) (h : List Event) (c : ℕ) (a : Arrival) → AllowedFrom pool [] h → arrival h c ≡ a → is_completer h c ≡ true → (Spent ≡ a → ⊥) → is_kept h c ≡ true
kept_by_arrival pool h c a so is completer other = go (is_kept h c) refl
  where
    go : (b : Bool) → is_kept h c ≡ b → b ≡ true
    go true kept = refl
    go false none = absurd (other (arrival_none pool h c a so none is completer))

pub kept_by_firing : (pool : Pool) (h : List Event) (c : ℕ) (k : How) → AllowedFrom pool [] h → Allowed pool h (Fire c k) → is_completer h c ≡ true → is_kept h c ≡ true
kept_by_firing pool h c Zero so may completer = kept_by_arrival pool h c Fires so may completer (λ same. absurd cc)
kept_by_firing pool h c Complete so may completer = go (is_kept h c) refl
  where
    go : (b : Bool) → is_kept h c ≡ b → b ≡ true
    go true kept = refl
    go false none = absurd (left_spent pool h c so none completer may.0)

-- ---- ends of bodies

pub end_worker : (pool : Pool) (h : List Event) (t w : ℕ) → AllowedFrom pool [] h → Allowed pool h (End t w) → w < pool.limits.workers
end_worker pool h t w so may =
    let there = get_is_in t (stack h w) (length (stack h w) - 1) may.0 in
    let apart = stack_apart pool h so t w w there there in omega (arith, apart.1)
