-- A shutdown: it closes, and every task stays as it is.
use Rattle.std.proofs.Common.{ℕ, ◌≡◌, ◌||◌, List, [], ◌∷◌, ◌++◌, refl, ap, ◌∙◌}
use Rattle.std.specs.List.{list_any}
use Rattle.std.proofs.lemmas.List.Folds.{list_any-append}
use Rattle.fj_rules.specs.declared.event.Event.{Event}
use Rattle.fj_rules.specs.declared.event.Event.TheVariants.{Close}
use Rattle.fj_rules.specs.declared.owner.Owner.{Owner}
use Rattle.fj_rules.specs.Bounds.{Pool}
use Rattle.fj_rules.specs.Queues.{queue}
use Rattle.fj_rules.specs.Stacks.{stack}
use Rattle.fj_rules.specs.Places.{open_tasks, gone}
use Rattle.fj_rules.specs.Allowed.{Allowed, AllowedFrom, is_close, is_closed, is_stop, is_stopped}
use Rattle.fj_rules.proofs.Events.Growth.{or_false}
use Rattle.fj_rules.proofs.Places.PlaceLaws.{unmoved_queue, unmoved_stack}
use Rattle.fj_rules.proofs.Events.Calm.{calm_open, calm_gone}

-- ---- whether it is closed, and whether it is stopped

pub closed_more : (h : List Event) (e : Event) → is_closed (h ++ e ∷ []) ≡ (is_closed h || is_close e)
unfolding is_closed
closed_more h e = list_any-append is_close h (e ∷ []) ∙ ap (λ b. list_any is_close h || b) (or_false (is_close e))

pub stopped_more : (h : List Event) (e : Event) → is_stopped (h ++ e ∷ []) ≡ (is_stopped h || is_stop e)
unfolding is_stopped
stopped_more h e = list_any-append is_stop h (e ∷ []) ∙ ap (λ b. list_any is_stop h || b) (or_false (is_stop e))

-- ---- what a close leaves

pub close_queue : (h : List Event) (o : Owner) → queue (h ++ Close ∷ []) o ≡ queue h o
close_queue h o = unmoved_queue h Close o refl

pub close_stack : (h : List Event) (w : ℕ) → stack (h ++ Close ∷ []) w ≡ stack h w
close_stack h w = unmoved_stack h Close w refl

pub close_open : (pool : Pool) (h : List Event) → AllowedFrom pool [] h → Allowed pool h Close → open_tasks (h ++ Close ∷ []) ≡ open_tasks h
close_open pool h so may = calm_open pool h Close so may refl

pub close_gone : (pool : Pool) (h : List Event) → AllowedFrom pool [] h → Allowed pool h Close → gone (h ++ Close ∷ []) ≡ gone h
close_gone pool h so may = calm_gone pool h Close so may refl
