-- The maps of the stages.
use Rattle.std.specs.Prelude.{ℕ, ◌*◌, ◌/◌, ◌%◌, ◌-◌, ◌==◌, ◌&&◌, nat_lt, ◌≡◌, IfSome, Option, None, Some, if◌then◌else◌}
use Rattle.ex_pipeline.specs.declared.item.Item.{Item}
use Rattle.ex_pipeline.specs.declared.stage.Stage.{Stage}
use Rattle.ex_pipeline.specs.declared.stage.Stage.TheVariants.{Decode, Scale, Convert, Grade}

-- the number to which a stage maps a number; none where it rejects that
abbrev pub run : Stage → ℕ → Option ℕ
run Decode word = if word / 4096 == 10 then Some (word % 4096) else None
run Scale count = if nat_lt 0 count && nat_lt count 4096 then Some (count * 5000 / 4096) else None
run Convert millivolts = if nat_lt millivolts 500 then None else Some (millivolts - 500)
run Grade tenths = if nat_lt 1250 tenths then None else Some (tenths / 400)

-- the stage after a stage, if there is one
abbrev pub after : Stage → Option Stage
after Decode = Some Scale
after Scale = Some Convert
after Convert = Some Grade
after Grade = None

-- the number of a stage, the code of an event that it rejects
abbrev pub number_of : Stage → ℕ
number_of Decode = 1
number_of Scale = 2
number_of Convert = 3
number_of Grade = 4

-- the input of the stage after this one, where there is one and a number for it
abbrev pub item_of : Option Stage → Option ℕ → Option Item
item_of (Some stage) (Some value) = Some (record { stage = stage; value = value })
item_of _ _ = None

-- the next stage's number for what the stage before has given
abbrev pub and_then : Option ℕ → (ℕ → Option ℕ) → Option ℕ
and_then None next = None
and_then (Some v) next = next v

-- what the stages from this one on make of a number
abbrev pub result_from : Stage → ℕ → Option ℕ
result_from Grade v = run Grade v
result_from Convert v = and_then (run Convert v) (run Grade)
result_from Scale v = and_then (run Scale v) (λ w. and_then (run Convert w) (run Grade))
result_from Decode v = and_then (run Decode v) (λ w. and_then (run Scale w) (λ x. and_then (run Convert x) (run Grade)))

-- the result of a stage, if it has one, is what the stages from it on make of its number
abbrev pub IsRight : Item → Option ℕ → Type 0
IsRight item given = IfSome given (λ level. result_from item.stage item.value ≡ Some level)
