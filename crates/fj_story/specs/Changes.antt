-- What one more event changes of the rows.
use Rattle.std.specs.Prelude.{ℕ, Bool, ◌||◌, ◌&&◌, not, ◌+◌, ◌-◌, ◌<◌, ◌^◌, if◌then◌else◌, List, [], ◌∷◌, ◌++◌, map, Option, Some, None, is_some, get_or, set}
use Rattle.fj_rules.specs.declared.event.Event.{Event}
use Rattle.fj_rules.specs.declared.event.Event.TheVariants.{Acc, Make, Out, Skip, End, Add, Dec, Fire, Pass, Hooked, Settle, Stop, Rel}
use Rattle.fj_rules.specs.declared.kind.Kind.{Kind}
use Rattle.fj_rules.specs.declared.kind.Kind.TheVariants.{Plain}
use Rattle.fj_rules.specs.declared.owner.Owner.{Owner}
use Rattle.fj_rules.specs.declared.place.Place.{Place}
use Rattle.fj_rules.specs.declared.place.Place.TheVariants.{Queued, Held, Open, Gone}
use Rattle.fj_rules.specs.declared.status.Status.{Status}
use Rattle.fj_rules.specs.declared.status.Status.TheVariants.{Undone, Cancelled}
use Rattle.fj_rules.specs.Tasks.{is_completer_kind, count_in}
use Rattle.fj_rules.specs.Statuses.{is_undone}
use Rattle.fj_rules.proofs.Events.Spending.{closed}
use Rattle.fj_story.specs.declared.row.TaskMoments.{TaskMoments}
use Rattle.fj_story.specs.declared.row.TaskRow.{TaskRow}

-- ---- one row

-- nothing has happened to it but its acceptance
abbrev pub accepted_at : Option ℕ → TaskMoments
accepted_at n = record { accepted = n; taken = None; ended = None; fired = None; passed = None; hooked = None; released = None }

-- in its queue; a trigger is open
abbrev pub first_place : Option Owner → Place
first_place (Some o) = Queued o
first_place None = Open

-- a task that is accepted by the event with this number, into this queue if it is no trigger
abbrev pub first_row : Kind → Option Owner → ℕ → TaskRow
first_row k o n = record {
  kind = k;
  queue = o;
  worker = None;
  pending = count_in (Some k);
  place = first_place o;
  status = Undone;
  at = accepted_at (Some n);
}

-- fired, passed or done
abbrev pub is_row_spent : TaskRow → Bool
is_row_spent r = (is_some r.at.fired || is_some r.at.passed) || not (is_undone r.status)

-- where it is once its body has ended
abbrev pub place_behind : TaskRow → Place
place_behind r = if is_completer_kind (Some r.kind) && not (is_row_spent r) then Open else Gone

-- the row of a task of which this event says something
abbrev pub changed : TaskRow → Event → ℕ → TaskRow
changed r (Out t w) n = record r { worker = Some w; place = Held w; at = record r.at { taken = Some n } }
changed r (Skip t w) n = record r { worker = Some w; place = Gone; at = record r.at { taken = Some n } }
changed r (End t w) n = record r { place = place_behind r; at = record r.at { ended = Some n } }
changed r (Add c k) n = record r { pending = r.pending + k }
changed r (Dec c) n = record r { pending = r.pending - 1 }
changed r (Fire c how) n = record r { place = closed r.place; at = record r.at { fired = Some n } }
changed r (Pass c) n = record r { place = closed r.place; at = record r.at { passed = Some n } }
changed r (Hooked c) n = record r { at = record r.at { hooked = Some n } }
changed r (Settle t s) n = record r { place = closed r.place; status = s }
changed r (Rel t) n = record r { at = record r.at { released = Some n } }
changed r _ n = r

abbrev pub cancelled : Status → Status
cancelled s = if is_undone s then Cancelled else s

-- the row of a task after a stop
abbrev pub stopped : TaskRow → TaskRow
stopped r = record r { place = closed r.place; status = cancelled r.status }

-- ---- all rows

-- the task of which this event says something, if that is one that was accepted before
abbrev pub told_by : Event → Option ℕ
told_by (Out t w) = Some t
told_by (Skip t w) = Some t
told_by (End t w) = Some t
told_by (Add c k) = Some c
told_by (Dec c) = Some c
told_by (Fire c how) = Some c
told_by (Pass c) = Some c
told_by (Hooked c) = Some c
told_by (Settle t s) = Some t
told_by (Rel t) = Some t
told_by _ = None

abbrev pub row_at : List TaskRow → ℕ → TaskRow
row_at rows t = get_or rows t (first_row Plain None 0)

-- the rows after an event that says something of one task
abbrev pub rows_told : List TaskRow → ℕ → Event → ℕ → List TaskRow
rows_told rows t e n = set rows t (changed (row_at rows t) e n)

-- the rows after an event of another kind
abbrev pub rows_other : List TaskRow → Event → ℕ → List TaskRow
rows_other rows (Acc t o k) n = rows ++ first_row k (Some o) n ∷ []
rows_other rows (Make t k) n = rows ++ first_row k None n ∷ []
rows_other rows Stop n = map stopped rows
rows_other rows _ n = rows

abbrev pub rows_by : List TaskRow → Option ℕ → Event → ℕ → List TaskRow
rows_by rows (Some t) e n = rows_told rows t e n
rows_by rows None e n = rows_other rows e n

-- the rows after the event with this number
abbrev pub rows_after : List TaskRow → Event → ℕ → List TaskRow
rows_after rows e n = rows_by rows (told_by e) e n

-- what the event adds to a pending count fits
abbrev pub FitsAdd : TaskRow → Event → Type 0
FitsAdd r (Add c k) = r.pending + k < 2 ^ 64
FitsAdd r _ = Unit {0}
