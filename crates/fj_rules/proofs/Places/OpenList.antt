-- Which tasks the lists of open and of gone tasks have, and how many.
use Rattle.std.proofs.Common.{ℕ, ◌≡◌, ◌≤◌, Bool, true, false, cond, not, ◌&&◌, List, [], Option, Some, None, refl, ◌∙◌, arith}
use Rattle.fj_rules.specs.declared.event.Event.{Event}
use Rattle.fj_rules.specs.declared.owner.Owner.{Owner}
use Rattle.fj_rules.specs.Bounds.{Pool}
use Rattle.fj_rules.specs.Lists.{is_in, times_in}
use Rattle.fj_rules.specs.Tasks.{tasks, is_completer}
use Rattle.fj_rules.specs.Completers.{is_spent}
use Rattle.fj_rules.specs.Places.{queued_in, held_by, opened, place, place_of, is_open, open_tasks}
use Rattle.fj_rules.specs.Allowed.{AllowedFrom}
use Rattle.fj_rules.proofs.Lists.Members.{times_in_filter, is_in_filter, Once}
use Rattle.fj_rules.proofs.Places.OnePlace.{opened_once, opened_out}

-- what an open task is
pub record IsWaiting (h : List Event) (t : ℕ) : Type 0 where
  pub unqueued : queued_in h t ≡ None
  pub unheld : held_by h t ≡ None
  pub completer : is_completer h t ≡ true
  pub opened_before : is_in t (opened h) ≡ true
  pub unspent : is_spent h t ≡ false

pub open_waits : (h : List Event) (t : ℕ) → is_open (place h t) ≡ true → IsWaiting h t
unfolding place
open_waits h t is = go (queued_in h t) (held_by h t) (is_completer h t) (is_in t (opened h)) (is_spent h t) refl refl refl refl refl is
  where
    go : (q : Option Owner) (v : Option ℕ) (c o s : Bool) → queued_in h t ≡ q → held_by h t ≡ v → is_completer h t ≡ c → is_in t (opened h) ≡ o → is_spent h t ≡ s
        → is_open (place_of q v (c && o && not s)) ≡ true → IsWaiting h t
    go None None true true false qs vs cs os ss is = record { unqueued = qs; unheld = vs; completer = cs; opened_before = os; unspent = ss }
    go None None true true true qs vs cs os ss is = absurd cc
    go None None true false s qs vs cs os ss is = absurd cc
    go None None false o s qs vs cs os ss is = absurd cc
    go None (Some w) c o s qs vs cs os ss is = absurd cc
    go (Some p) v c o s qs vs cs os ss is = absurd cc

-- a number is in the list of open tasks exactly if its place is open
pub in_open : (h : List Event) (t : ℕ) → is_in t (open_tasks h) ≡ is_open (place h t)
unfolding open_tasks
in_open h t = is_in_filter (λ u. is_open (place h u)) t (opened h) ∙ go (is_open (place h t)) refl
  where
    never_both : (b : Bool) → (b && false) ≡ false
    never_both true = refl
    never_both false = refl

    go : (b : Bool) → is_open (place h t) ≡ b → (is_in t (opened h) && b) ≡ b
    go true is = rw ((open_waits h t is).opened_before) refl
    go false shut = never_both (is_in t (opened h))

pub open_accepted : (pool : Pool) (h : List Event) (t : ℕ) → AllowedFrom pool [] h → is_open (place h t) ≡ true → is_in t (tasks h) ≡ true
open_accepted pool h t so is = (opened_out pool h so t (open_waits h t is).opened_before).known

-- no task is twice in the list of open tasks, nor in that of gone tasks
pub open_once : (pool : Pool) (h : List Event) → AllowedFrom pool [] h → Once (open_tasks h)
unfolding open_tasks
open_once pool h so t = rw times_in_filter (go (is_open (place h t)))
  where
    go : (b : Bool) → cond b (times_in t (opened h)) 0 ≤ 1
    go true = opened_once pool h so t
    go false = omega arith
