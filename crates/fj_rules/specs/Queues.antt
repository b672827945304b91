-- What is in each queue.
use Rattle.std.specs.Prelude.{ℕ, Bool, false, ◌==◌, List, Option, Some, None}
use Rattle.std.specs.List.{filter, filter_map}
use Rattle.fj_rules.specs.declared.event.Event.{Event}
use Rattle.fj_rules.specs.declared.event.Event.TheVariants.{Acc, Out, Skip}
use Rattle.fj_rules.specs.declared.owner.Owner.{Owner}
use Rattle.fj_rules.specs.declared.owner.Owner.TheVariants.{Sub, Work}
use Rattle.fj_rules.specs.Lists.{is_in, without, number_if}

-- whether the two owners are the same
abbrev pub is_same : Owner → Owner → Bool
is_same (Sub s) (Sub s') = s == s'
is_same (Work w) (Work w') = w == w'
is_same (Sub s) (Work w) = false
is_same (Work w) (Sub s) = false

-- the number of a task that this event puts into this queue
abbrev pub pushed_by : Owner → Event → Option ℕ
pushed_by o (Acc t p k) = number_if (is_same o p) t
pushed_by o _ = None

-- the tasks accepted into the queue, in order
unfoldable pub pushed : List Event → Owner → List ℕ
pushed h o = filter_map (pushed_by o) h

-- the number of a task that this event takes from its queue
abbrev pub taken_by : Event → Option ℕ
taken_by (Out t w) = Some t
taken_by (Skip t w) = Some t
taken_by _ = None

unfoldable pub taken : List Event → List ℕ
taken h = filter_map taken_by h

-- the tasks that left the queue, in order
unfoldable pub left : List Event → Owner → List ℕ
left h o = filter (λ t. is_in t (pushed h o)) (taken h)

-- the tasks pushed and not left, in order
unfoldable pub queue : List Event → Owner → List ℕ
queue h o = without (pushed h o) (left h o)
