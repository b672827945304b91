-- What a make does.
use Rattle.std.specs.Prelude.{ℕ, ◌≡◌, ◌+◌, false, if◌then◌else◌, nat_lt, nat_le, Option, Some, None, option_map, Result, MatchResult}
use Rattle.fj_rules.specs.declared.limits.TheConstants.{MAX_PENDING}
use Rattle.fj_rules.specs.declared.kind.Kind.{Kind}
use Rattle.fj_rules.specs.declared.place.Place.{Place}
use Rattle.fj_rules.specs.declared.status.Status.TheVariants.{Undone}
use Rattle.fj_rules.specs.declared.refusal.Refusal.{Refusal}
use Rattle.fj_rules.specs.declared.refusal.Refusal.TheVariants.{Unknown, NotCompleter, CountTooLarge, TooManyTasks}
use Rattle.fj_rules.specs.Lists.{or_else}
use Rattle.fj_rules.specs.Tasks.{parent_in, count_in, is_completer_kind}
use Rattle.fj_tree.specs.declared.record.Record.{Record}
use Rattle.fj_tree.specs.Handles.{Handle}
use Rattle.fj_tree.specs.Records.{Records, count, record_of, entry_of, is_named}

-- the result of a call: this refusal, and a value exactly where there is none
abbrev pub IsRefusedBy : {A : Type 0} → Option Refusal → Result A Refusal → Type 0
IsRefusedBy refusal result = MatchResult result (λ _. refusal ≡ None) (λ e. refusal ≡ Some e)

-- the refusal, if any: the record must be there, and be a completer's
abbrev pub completer_refusal : Option Record → Option Refusal
completer_refusal None = Some Unknown
completer_refusal (Some r) = if is_completer_kind (Some r.kind) then None else Some NotCompleter

-- a parent must be kept, and be a completer
abbrev pub parent_refusal : Records → Option ℕ → Option Refusal
parent_refusal t None = None
parent_refusal t (Some p) = completer_refusal (option_map (λ e. e.1) (entry_of t p))

abbrev pub count_refusal : ℕ → Option Refusal
count_refusal n = if nat_lt MAX_PENDING n then Some CountTooLarge else None

abbrev pub room_refusal : Records → Option Refusal
room_refusal t = if nat_le t.room (count t) then Some TooManyTasks else None

-- why a make is refused, if it is: the first refusal in this order
abbrev pub make_refusal : Records → Kind → Option Refusal
make_refusal t k = or_else (parent_refusal t (parent_in (Some k))) (or_else (count_refusal (count_in (Some k))) (room_refusal t))

-- a new record
abbrev pub fresh : ℕ → Kind → Place → Record
fresh n k p = record { serial = n; kind = k; place = p; status = Undone; pending = count_in (Some k); fired = false; children = 0 }

-- the record, with one child more
abbrev pub with_child : Record → Record
with_child r = record r { children = r.children + 1 }

-- the same if it is the named parent, otherwise the record as it is
abbrev pub with_child_of : Option ℕ → Record → Record
with_child_of parent r = if is_named parent r.serial then with_child r else r

abbrev pub pending_in : Option Record → ℕ
pending_in None = 0
pending_in (Some r) = r.pending

-- why an addition to a pending count is refused, if it is: the first refusal in this order
abbrev pub add_refusal : Records → Handle → ℕ → Option Refusal
add_refusal t h n = or_else (completer_refusal (record_of t h)) (count_refusal (pending_in (record_of t h) + n))
