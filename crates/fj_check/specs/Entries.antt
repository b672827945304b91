-- Which entries of a history may come, and what has happened after them.
use Rattle.std.specs.Prelude.{ℕ, ◌≡◌, ◌+◌, List, [], ◌∷◌, None}
use Rattle.fj_rules.specs.Pasts.{Past, grown, sealed_now}
use Rattle.fj_rules.specs.Epochs.{seal_refusal}
use Rattle.fj_rules.specs.Follows.{Follows}
use Rattle.fj_history.specs.declared.entry.Entry.{Entry}
use Rattle.fj_history.specs.declared.entry.Entry.TheVariants.{Event, Seal}

-- the event follows what has happened, or a part may be sealed there
abbrev pub MayCome : Past → Entry → Type 0
MayCome past (Event e) = Follows past e
MayCome past Seal = seal_refusal past ≡ None

-- what has happened after it
abbrev pub past_after : Past → Entry → Past
past_after past (Event e) = grown past (e ∷ [])
past_after past Seal = sealed_now past

-- after these
abbrev pub past_from : Past → List Entry → Past
past_from past [] = past
past_from past (entry ∷ later) = past_from (past_after past entry) later

-- each of these may come after those before it
abbrev pub AllMayCome : Past → List Entry → Type 0
AllMayCome past [] = Unit {0}
AllMayCome past (entry ∷ later) = MayCome past entry × AllMayCome (past_after past entry) later

-- how many of these are events
abbrev pub event_count : List Entry → ℕ
event_count [] = 0
event_count (Event e ∷ later) = 1 + event_count later
event_count (Seal ∷ later) = event_count later
