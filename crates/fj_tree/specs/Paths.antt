-- The path from a task to its root.
use Rattle.std.specs.Prelude.{ℕ, zero, suc, List, [], ◌∷◌, Option, Some, None, option_and_then}
use Rattle.fj_tree.specs.Handles.{Handle}
use Rattle.fj_tree.specs.Records.{Records, handle_of, parent_at}

-- the parent of a record, if it has one that is kept
abbrev pub above : Records → Handle → Option Handle
above t h = option_and_then (handle_of t) (parent_at t h)

-- the rest of a path
abbrev pub and_on : (Handle → List Handle) → Option Handle → List Handle
and_on way None = []
and_on way (Some h) = way h

-- the task, its parent, the parent's parent and so on, at most so many
unfoldable pub path_up : ℕ → Records → Handle → List Handle
path_up zero t h = []
path_up (suc most) t h = h ∷ and_on (path_up most t) (above t h)

-- up to the root. A parent's number is smaller than its child's, so the path is no longer than that
unfoldable pub path : Records → Handle → List Handle
path t h = path_up (suc h.serial) t h

-- the last of a path that begins here
abbrev pub last_from : Handle → List Handle → Handle
last_from h [] = h
last_from h (next ∷ later) = last_from next later

-- the root
unfoldable pub root_of : Records → Handle → Handle
root_of t h = last_from h (path t h)
