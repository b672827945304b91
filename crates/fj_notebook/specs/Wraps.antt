-- What is heard and asked by a body inside another.
use Rattle.std.specs.Prelude.{Option, Some, None}
use Rattle.fj_body.specs.declared.body.Heard.{Heard}
use Rattle.fj_body.specs.declared.body.Heard.TheVariants as heard
use Rattle.fj_body.specs.declared.body.Ask.{Ask}
use Rattle.fj_body.specs.declared.body.Ask.TheVariants as ask
use Rattle.fj_notes.specs.declared.milestone.Milestone.{Milestone}
use Rattle.fj_notes.specs.declared.milestone.Milestone.TheVariants as milestone

module _ {A B K O : Type 0} where
  -- the same with other bodies
  abbrev pub heard_by : Heard A K O → (A → B) → Heard B K O
  heard_by (heard.Start t) body = heard.Start t
  heard_by (heard.Hook t) body = heard.Hook t
  heard_by (heard.Task t) body = heard.Task t
  heard_by (heard.Handed n refusal) body = heard.Handed (body n) refusal
  heard_by (heard.Got k o) body = heard.Got k o
  heard_by heard.Bare body = heard.Bare
  heard_by (heard.Failed code) body = heard.Failed code
  heard_by heard.Cancelled body = heard.Cancelled
  heard_by (heard.Refused refusal) body = heard.Refused refusal
  heard_by (heard.Helped whether) body = heard.Helped whether
  heard_by (heard.Count n) body = heard.Count n
  heard_by heard.Went body = heard.Went
  heard_by heard.Yes body = heard.Yes
  heard_by heard.No body = heard.No
  heard_by (heard.Is place status) body = heard.Is place status

  abbrev pub ask_by : Ask A K O → (A → B) → Ask B K O
  ask_by (ask.Fork n kind) body = ask.Fork (body n) kind
  ask_by (ask.Trigger n count) body = ask.Trigger (body n) count
  ask_by (ask.Join t) body = ask.Join t
  ask_by ask.Help body = ask.Help
  ask_by (ask.Take t) body = ask.Take t
  ask_by (ask.Release t) body = ask.Release t
  ask_by (ask.Add c n) body = ask.Add c n
  ask_by (ask.QuietRoot t) body = ask.QuietRoot t
  ask_by (ask.Cancel t) body = ask.Cancel t
  ask_by (ask.Fault t code) body = ask.Fault t code
  ask_by (ask.State t) body = ask.State t
  ask_by (ask.Ok o) body = ask.Ok o
  ask_by ask.Quiet body = ask.Quiet
  ask_by ask.Try body = ask.Try
  ask_by ask.Pass body = ask.Pass
  ask_by ask.Complete body = ask.Complete
  ask_by (ask.Fail code) body = ask.Fail code
  ask_by (ask.HookDone o) body = ask.HookDone o

-- to which milestone a task has come whose body asks this
abbrev pub milestone_of : {B K O : Type 0} → Ask B K O → Option Milestone
milestone_of (ask.Ok o) = Some milestone.End
milestone_of ask.Quiet = Some milestone.End
milestone_of ask.Try = Some milestone.End
milestone_of ask.Pass = Some milestone.End
milestone_of ask.Complete = Some milestone.End
milestone_of (ask.Fail code) = Some milestone.End
milestone_of (ask.HookDone o) = Some milestone.Hooked
milestone_of _ = None
