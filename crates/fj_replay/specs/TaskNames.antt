-- The names in version 2 of the numbered tasks of a script of version 1, and its lines there.
use Rattle.std.specs.Prelude.{ℕ, List, [], ◌∷◌, ◌++◌, option_map, codes, decimal}
use Rattle.fj_lines.specs.declared.read.TheConstants.{LINE_FEED}
use Rattle.fj_rules.specs.declared.kind.Kind.{Kind}
use Rattle.fj_rules.specs.declared.kind.Kind.TheVariants as kind
use Rattle.fj_rules.specs.declared.step.Step.{Step}
use Rattle.fj_rules.specs.declared.step.Step.TheVariants as step
use Rattle.fj_lines.specs.declared.line.ForkedKind.TheVariants as named
use Rattle.fj_lines.specs.declared.line.Line.TheVariants as line
use Rattle.fj_lines.specs.Lines.{NamedKind, Line2, line2_text}

-- the name of the task with this number
abbrev pub task_name : ℕ → List ℕ
task_name t = codes "t" ++ decimal t

abbrev pub named_kind : Kind → NamedKind
named_kind kind.Plain = named.Plain
named_kind (kind.Completer relay count parent) = named.Completer relay count (option_map task_name parent)

-- what a step asks for in version 2, where this is the number of the task that it may accept
abbrev pub named_step : ℕ → Step → Line2
-- accept
named_step next (step.Submit s kind) = line.Submit (task_name next) s kind
named_step next (step.Fork w kind) = line.Fork (task_name next) w (named_kind kind)
named_step next (step.Trigger w count) = line.Trigger (task_name next) w count
-- take
named_step next (step.Poll w r) = line.Poll w r
named_step next (step.Help w r) = line.Help w r
named_step next (step.Join w t r) = line.Join w (task_name t) r
-- end
named_step next (step.End w ending) = line.End w ending
named_step next (step.HookDone w) = line.HookDone w
-- completer
named_step next (step.Add w c n) = line.Add w (task_name c) n
named_step next (step.QuietRoot w t) = line.QuietRoot w (task_name t)
-- settle
named_step next (step.Fault t code) = line.Fault (task_name t) code
named_step next (step.Cancel t) = line.Cancel (task_name t)
-- shut
named_step next step.Shutdown = line.Shutdown
named_step next step.Stop = line.Stop
-- query
named_step next step.IsQuiescent = line.IsQuiescent
named_step next (step.State t) = line.State (task_name t)
-- release
named_step next (step.Release t) = line.Release (task_name t)

-- its line, with its line feed
unfoldable pub named_line : ℕ → Step → List ℕ
named_line next asked = line2_text (named_step next asked) ++ LINE_FEED ∷ []

-- the first two lines of a script of version 2 with this heading
unfoldable pub titled_head : List ℕ → List ℕ
titled_head heading = codes "fj 2" ++ LINE_FEED ∷ heading ++ LINE_FEED ∷ []
