-- The options of the commands.
use Rattle.std.specs.Prelude.{ℕ, ◌≡◌, Bool, true, false, [], ◌∷◌, codes, Some, Result, IfOk}
use Rattle.clap.specs.Words.{App, Rule, Text, app_of, new_app, new_rule, with_rule}
use Rattle.clap.specs.declared.builder.command.Command.{Command}
use Rattle.clap.specs.declared.builder.command.Command.TheViews.{out-Command}
use Rattle.clap.specs.declared.builder.action.ArgAction.TheVariants.{Set, SetTrue}
use Rattle.clap.specs.declared.builder.value_parser.ValueParser.TheVariants.{Unsigned}
use Rattle.fj_rules.specs.declared.limits.TheConstants.{MAX_WORKERS}

-- a parse sees the command that was made as this line, unless memory ran out
abbrev pub Makes : {E : Type 0} → Result Command E → App → Type 0
Makes made line = IfOk made (λ c. app_of c ≡ line)

-- the command that was made has no option that its subcommands share
abbrev pub IsLocal : {E : Type 0} → Result Command E → Type 0
IsLocal made = IfOk made (λ c. (out-Command c).has_globals ≡ false)

-- an option with a number in this range
abbrev pub required_rule : Text → ℕ → ℕ → Bool → Rule
required_rule name least most required =
    record (new_rule name) { long = Some name; action = Some Set; value_names = 1; parser = Some (Unsigned least most); required = required }

-- an option with a number from 1 on, 1 by default
abbrev pub defaulted_rule : Text → ℕ → Rule
defaulted_rule name most = record (required_rule name 1 most false) { defaults = codes "1" ∷ [] }

-- an option with a number from 1 on, 4,294,967,295 by default
abbrev pub unbounded_rule : Text → Rule
unbounded_rule name = record (required_rule name 1 4294967295 false) { defaults = codes "4294967295" ∷ [] }

-- an option with a word
abbrev pub word_rule : Text → Rule
word_rule name = record (new_rule name) { long = Some name; action = Some Set; value_names = 1; required = true }

-- an option with a file's name
abbrev pub file_rule : Text → Rule
file_rule name = record (new_rule name) { long = Some name; action = Some Set; value_names = 1 }

-- an option without a value: its text is true where it is given, and else false
abbrev pub flag_rule : Text → Rule
flag_rule name = record (new_rule name) { long = Some name; action = Some SetTrue }

-- the options of a range
abbrev pub with_numbers : App → App
with_numbers a =
    with_rule (with_rule (with_rule a (required_rule (codes "from") 0 4294967295 true)) (required_rule (codes "to") 0 4294967295 true))
    (defaulted_rule (codes "grain") 4294967295)

-- the options of a job over a range
abbrev pub with_range : App → App
with_range a = with_rule (with_rule (with_numbers a) (defaulted_rule (codes "workers") MAX_WORKERS)) (flag_rule (codes "eager"))

-- the options of a function
abbrev pub with_function : App → App
with_function a =
    with_rule (with_rule (with_rule a (required_rule (codes "mul") 0 4294967295 true)) (required_rule (codes "add") 0 4294967295 true))
    (required_rule (codes "mod") 1 4294967295 true)

abbrev pub sum_line : App
sum_line = with_range (new_app (codes "sum"))

abbrev pub min_line : App
min_line = with_function (with_range (new_app (codes "min")))

abbrev pub find_line : App
find_line = with_rule (with_function (with_range (new_app (codes "find")))) (required_rule (codes "want") 0 4294967295 true)

abbrev pub tree_line : App
tree_line = with_rule (new_app (codes "tree")) (defaulted_rule (codes "workers") MAX_WORKERS)

-- the options of a view but its notes
abbrev pub with_window : App → App
with_window a = with_rule (with_rule (with_rule a (word_rule (codes "as"))) (defaulted_rule (codes "from") 4294967295)) (unbounded_rule (codes "to"))

abbrev pub view_line : App
view_line = with_rule (with_window (new_app (codes "view"))) (file_rule (codes "notes"))
