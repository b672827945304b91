-- The text of the table of tasks.
use Rattle.std.specs.Prelude.{ℕ, false, ◌+◌, ◌-◌, ◌^◌, if◌then◌else◌, List, [], ◌∷◌, ◌++◌, Option, Some, None, is_none, flat_map, codes, decimal}
use Rattle.std.specs.Fmt.{format_spec, padded_integral}
use Rattle.fj_rules.specs.declared.event.Event.{Event}
use Rattle.fj_rules.specs.declared.owner.Owner.{Owner}
use Rattle.fj_rules.specs.declared.owner.Owner.TheVariants.{Sub, Work}
use Rattle.fj_rules.specs.declared.place.Place.{Place}
use Rattle.fj_rules.specs.declared.place.Place.TheVariants.{Queued, Held, Open, Gone}
use Rattle.fj_rules.specs.declared.status.Status.{Status}
use Rattle.fj_rules.specs.declared.status.Status.TheVariants.{Undone, Normal, Exceptional, Cancelled}
use Rattle.fj_rules.specs.Tasks.{is_completer_kind, parent_in, tasks}
use Rattle.fj_story.specs.declared.row.TaskMoments.{TaskMoments}
use Rattle.fj_story.specs.declared.row.TaskRow.{TaskRow}
use Rattle.fj_story.specs.Rows.{row}

-- ---- cells

-- what `{n:>width}` writes: spaces and the number
abbrev pub right : ℕ → ℕ → List ℕ
right width n = padded_integral (format_spec 32 3 0 width (2 ^ 64 - 1)) false [] (decimal n)

-- what `{n:<width}` writes: the number and spaces
abbrev pub left : ℕ → ℕ → List ℕ
left width n = padded_integral (format_spec 32 1 0 width (2 ^ 64 - 1)) false [] (decimal n)

-- a number, or a dash
abbrev pub cell : Option ℕ → List ℕ
cell (Some n) = codes "  " ++ right 6 n
cell None = codes "       -"

abbrev pub kind_cell : TaskRow → List ℕ
kind_cell r = if is_completer_kind (Some r.kind) then (if is_none r.queue then codes "trigger  " else codes "completer") else codes "plain    "

abbrev pub place_cell : Place → List ℕ
place_cell (Queued o) = codes "queued"
place_cell (Held w) = codes "held  "
place_cell Open = codes "open  "
place_cell Gone = codes "gone  "

abbrev pub status_cell : Status → List ℕ
status_cell Undone = codes "undone                "
status_cell Normal = codes "normal                "
status_cell (Exceptional code) = codes "exceptional:" ++ left 10 code
status_cell Cancelled = codes "cancelled             "

abbrev pub queue_cell : Option Owner → List ℕ
queue_cell (Some (Sub s)) = codes "  sub:" ++ left 3 s
queue_cell (Some (Work w)) = codes "  work:" ++ left 2 w
queue_cell None = codes "  -      "

-- ---- lines

-- what the task is, and how far it has come
abbrev pub what_text : ℕ → TaskRow → List ℕ
what_text n r = (right 6 n ++ (codes "  " ++ kind_cell r)) ++ (cell (parent_in (Some r.kind)) ++ ((codes "  " ++ (right 5 r.pending ++ (codes "  " ++ (place_cell r.place ++ codes "  ")))) ++ status_cell r.status))

-- into whose queue it was accepted, and who took it
abbrev pub who_text : TaskRow → List ℕ
who_text r = queue_cell r.queue ++ cell r.worker

-- when it was accepted and taken, and its body ended
abbrev pub begin_text : TaskMoments → List ℕ
begin_text at = cell at.accepted ++ (cell at.taken ++ cell at.ended)

-- when it was fired or passed, its completion action ended, and it was released
abbrev pub end_text : TaskMoments → List ℕ
end_text at = cell at.fired ++ (cell at.passed ++ (cell at.hooked ++ cell at.released))

-- the line of a task, with its line feed
abbrev pub line_text : ℕ → TaskRow → List ℕ
line_text n r = what_text n r ++ (who_text r ++ (begin_text r.at ++ (end_text r.at ++ 10 ∷ [])))

-- the lines of tasks whose numbers begin at n
unfoldable pub lines_from : ℕ → List TaskRow → List ℕ
lines_from n [] = []
lines_from n (r ∷ rs) = line_text n r ++ lines_from (n + 1) rs

abbrev pub heading : List ℕ
heading = codes "  task  kind       parent  count  place   status                  queue    worker" ++ codes "     acc     out     end    fire    pass  hooked     rel\n"

-- the heading, and the lines of tasks that are numbered from 0
abbrev pub table_of : List TaskRow → List ℕ
table_of rs = heading ++ lines_from 0 rs

-- the table of a history: the heading, and a line for each accepted task, in order
unfoldable pub table_text : List Event → List ℕ
table_text h = heading ++ flat_map (λ t. line_text t (row h t)) (tasks h)
