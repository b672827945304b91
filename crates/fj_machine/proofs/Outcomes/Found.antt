-- What the record that was found of a task says of it.
use Rattle.std.proofs.Common.{ℕ, ◌≡◌, Bool, true, false, List, [], Some, refl, sym, ap, ◌∙◌, Option, None, Bor}
use Rattle.std.specs.Prelude.{◌↔◌, IsTrue, MatchOption, option_copied}
use Rattle.std.proofs.lemmas.Bool.{true≢false}
use Rattle.fj_rules.specs.declared.event.Event.{Event}
use Rattle.fj_rules.specs.declared.place.Place.TheVariants.{Held}
use Rattle.fj_rules.specs.Bounds.{Pool}
use Rattle.fj_rules.specs.Lists.{is_in}
use Rattle.fj_rules.specs.Tasks.{is_kept, is_completer, is_completer_kind, kind}
use Rattle.fj_rules.specs.Completers.{pending, is_spent}
use Rattle.fj_rules.specs.Places.{place}
use Rattle.fj_rules.specs.Stacks.{stack}
use Rattle.fj_rules.specs.Statuses.{status, is_undone}
use Rattle.fj_rules.specs.Allowed.{AllowedFrom}
use Rattle.fj_rules.proofs.Places.OnePlace.{never}
use Rattle.fj_rules.proofs.Places.PlacesKept.{held_of_place, place_held}
use Rattle.fj_tree.specs.declared.record.Record.{Record}
use Rattle.fj_ledger.specs.Holds.{TellsOf}
use Rattle.std.proofs.lemmas.Option.{MatchOption-at_some}
use Rattle.fj_tree.specs.Arrivals as record_is
use Rattle.fj_ledger.proofs.Recorded.ArrivalsTold.{spent_told}

-- ---- whether there is a record

-- and a task without one is not kept
pub unkept : (h : List Event) (t : ℕ) (found : Option (Bor Record)) → MatchOption (option_copied found) (is_kept h t ≡ false) (TellsOf h t) → found ≡ None → is_kept h t ≡ false
unkept h t None told none = told
unkept h t (Some r) told none = absurd cc

pub told_of : (h : List Event) (t : ℕ) (found : Option (Bor Record)) (r : Bor Record) → MatchOption (option_copied found) (is_kept h t ≡ false) (TellsOf h t) → found ≡ Some r → TellsOf h t r.now
told_of h t found r told is = MatchOption-at_some (is_kept h t ≡ false) (TellsOf h t) r.now (ap option_copied is) told

-- ---- what it tells

pub found_kept : (h : List Event) (t : ℕ) (r : Record) → TellsOf h t r → is_kept h t ≡ true
found_kept h t r found = ap (is_kept h) (sym found.number) ∙ found.tells.kept

pub found_completer : (h : List Event) (t : ℕ) (r : Record) → TellsOf h t r → is_completer h t ≡ is_completer_kind (Some r.kind)
unfolding is_completer
found_completer h t r found = ap (λ u. is_completer_kind (kind h u)) (sym found.number) ∙ ap is_completer_kind found.tells.kind

pub found_status : (h : List Event) (t : ℕ) (r : Record) → TellsOf h t r → status h t ≡ r.status
found_status h t r found = ap (status h) (sym found.number) ∙ found.tells.status

pub found_undone : (h : List Event) (t : ℕ) (r : Record) → TellsOf h t r → is_undone (status h t) ≡ is_undone r.status
found_undone h t r found = ap is_undone (found_status h t r found)

pub found_place : (h : List Event) (t : ℕ) (r : Record) → TellsOf h t r → place h t ≡ r.place
found_place h t r found = ap (place h) (sym found.number) ∙ found.tells.place

pub found_pending : (h : List Event) (t : ℕ) (r : Record) → TellsOf h t r → pending h t ≡ r.pending
found_pending h t r found = ap (pending h) (sym found.number) ∙ found.tells.pending

pub found_spent : (h : List Event) (t : ℕ) (r : Record) → TellsOf h t r → is_spent h t ≡ record_is.is_spent r
found_spent h t r found = ap (is_spent h) (sym found.number) ∙ spent_told h r found.tells

-- who holds a task is told by its place
pub held_as_told : (pool : Pool) (h : List Event) (t w : ℕ) (b : Bool) → AllowedFrom pool [] h → (IsTrue b ↔ (place h t ≡ Held w)) → is_in t (stack h w) ≡ b
held_as_told pool h t w true so says = held_of_place h t w (says.0 refl)
held_as_told pool h t w false so says = never (is_in t (stack h w)) (λ there. true≢false (sym (says.1 (place_held pool h w t so there))))
