-- What follows the end of a body or of a hook.
use Rattle.std.proofs.Common.{ℕ, suc, ◌≡◌, ◌+◌, not, Bool, true, false, cond, List, [], ◌∷◌, ◌++◌, length, map, drop, take, Option, Some, None, refl, ap, sym, ◌∙◌, arith, append_assoc}
use Rattle.std.specs.Prelude.{if◌then◌else◌}
use Rattle.std.specs.List.{list_all, take_while, prefix_len}
use Rattle.std.proofs.lemmas.Bool.{and_parts}
use Rattle.std.proofs.lemmas.List.{append-nil}
use Rattle.fj_rules.specs.declared.event.Event.{Event}
use Rattle.fj_rules.specs.declared.event.Event.TheVariants as event
use Rattle.fj_rules.specs.declared.event.How.{How}
use Rattle.fj_rules.specs.declared.event.How.TheVariants as how_is
use Rattle.fj_rules.specs.declared.status.Status.{Status}
use Rattle.fj_rules.specs.declared.status.Status.TheVariants as status_is
use Rattle.fj_rules.specs.declared.step.Ending.{Ending}
use Rattle.fj_rules.specs.declared.step.Ending.TheVariants as ending_is
use Rattle.fj_rules.specs.declared.said.Said.{Said}
use Rattle.fj_rules.specs.declared.said.Said.TheVariants as says
use Rattle.fj_rules.specs.Tasks.{released, released_by}
use Rattle.fj_rules.specs.Statuses.{status, is_undone}
use Rattle.fj_rules.specs.Completers.{is_spent}
use Rattle.fj_rules.specs.Stacks.{stack}
use Rattle.fj_rules.specs.Hooks.{hand as hook_of}
use Rattle.fj_rules.specs.Climbs.{Arrival, arrival, does_fire, path, passed, relayed}
use Rattle.fj_rules.specs.Climbs as climb
use Rattle.fj_rules.specs.Answers.{settling, arriving, arriving_says, failing, pass_end, pass_says, root_of, after_end, end_says}
use Rattle.fj_rules.proofs.Places.PlaceLaws.{moves, unmoved_stack}
use Rattle.fj_rules.proofs.Events.Hands.{hand_same, is_of_hook}
use Rattle.fj_body.specs.Endings.{is_over}

-- ---- what follows the end of a body

-- an event that settles, or counts an arrival, or passes
abbrev pub is_rest : Event → Bool
is_rest (event.Dec c) = true
is_rest (event.Pass c) = true
is_rest (event.Settle t s) = true
is_rest _ = false

rest_still : (e : Event) → is_rest e ≡ true → (moves e ≡ false) × (is_of_hook e ≡ false) × (released_by e ≡ None)
rest_still (event.Dec c) is = (refl, refl, refl)
rest_still (event.Pass c) is = (refl, refl, refl)
rest_still (event.Settle t s) is = (refl, refl, refl)
rest_still _ is = absurd cc

pub rest_unmoved : (es : List Event) → list_all is_rest es ≡ true → list_all (λ e. not (moves e)) es ≡ true
rest_unmoved [] all = refl
rest_unmoved (e ∷ es) all = let parts = and_parts (is_rest e) (list_all is_rest es) all in rw ((rest_still e parts.0).0) (rest_unmoved es parts.1)

pub rest_released : (es : List Event) → list_all is_rest es ≡ true → released es ≡ []
unfolding released
rest_released [] all = refl
rest_released (e ∷ es) all = let parts = and_parts (is_rest e) (list_all is_rest es) all in rw ((rest_still e parts.0).2) (rest_released es parts.1)

pub rest_hand : (h es : List Event) (w : ℕ) → list_all is_rest es ≡ true → hook_of (h ++ es) w ≡ hook_of h w
rest_hand h [] w all = ap (λ (h : List Event). hook_of h w) (append-nil h)
rest_hand h (e ∷ es) w all =
    let parts = and_parts (is_rest e) (list_all is_rest es) all in
    ap (λ (h : List Event). hook_of h w) (sym (append_assoc h (e ∷ []) es)) ∙ rest_hand (h ++ e ∷ []) es w parts.1 ∙ hand_same h e w (rest_still e parts.0).1

flip : (b : Bool) → not b ≡ true → b ≡ false
flip true is = absurd cc
flip false is = refl

pub unmoved_stacks : (h es : List Event) (w : ℕ) → list_all (λ e. not (moves e)) es ≡ true → stack (h ++ es) w ≡ stack h w
unmoved_stacks h [] w all = ap (λ (h : List Event). stack h w) (append-nil h)
unmoved_stacks h (e ∷ es) w all =
    let parts = and_parts (not (moves e)) (list_all (λ e. not (moves e)) es) all in
    ap (λ (h : List Event). stack h w) (sym (append_assoc h (e ∷ []) es)) ∙ unmoved_stacks (h ++ e ∷ []) es w parts.1 ∙ unmoved_stack h e w (flip (moves e) parts.0)

-- the reply and the events after an end: the task's own hook, or none
pub data AfterEnd (t : ℕ) (reply : Said) (events : List Event) : Type 0 where
  Fired : (how : How) → reply ≡ says.Hook t → events ≡ event.Fire t how ∷ [] → AfterEnd t reply events
  Unfired : is_over reply ≡ true → list_all is_rest events ≡ true → AfterEnd t reply events

pub arrives : (c : ℕ) (a : Arrival) → AfterEnd c (arriving_says c a) (arriving c a)
arrives c climb.Spent = Unfired refl refl
arrives c climb.Counted = Unfired refl refl
arrives c climb.Early = Unfired refl refl
arrives c climb.Fires = Fired how_is.Zero refl refl

arrives_not : (c : ℕ) (a : Arrival) → does_fire a ≡ false → (is_over (arriving_says c a) ≡ true) × (list_all is_rest (arriving c a) ≡ true)
arrives_not c climb.Spent none = (refl, refl)
arrives_not c climb.Counted none = (refl, refl)
arrives_not c climb.Early none = (refl, refl)
arrives_not c climb.Fires none = absurd cc

pub settling_rest : (h : List Event) (t : ℕ) (s : Status) → list_all is_rest (settling h t s) ≡ true
settling_rest h t s = go (is_undone (status h t))
  where
    go : (b : Bool) → list_all is_rest (if b then event.Settle t s ∷ [] else []) ≡ true
    go true = refl
    go false = refl

settles_rest : (code : ℕ) (us : List ℕ) → list_all is_rest (map (λ u. event.Settle u (status_is.Exceptional code)) us) ≡ true
settles_rest code [] = refl
settles_rest code (u ∷ us) = settles_rest code us

pub failing_rest : (h : List Event) (t code : ℕ) → list_all is_rest (failing h t code) ≡ true
failing_rest h t code = go (is_undone (status h t))
  where
    go : (b : Bool) → list_all is_rest (if b then map (λ u. event.Settle u (status_is.Exceptional code)) (relayed h t) else []) ≡ true
    go true = settles_rest code (relayed h t)
    go false = refl

-- the first that is left does not pass
first_fails : (p : ℕ → Bool) (xs : List ℕ) (c : ℕ) (above : List ℕ) → drop (length (take_while p xs)) xs ≡ c ∷ above → p c ≡ false
first_fails p [] c above is = absurd cc
first_fails p (x ∷ xs) c above is = go (p x) refl is (first_fails p xs c above)
  where
    go : (b : Bool) → p x ≡ b → drop (length (take (cond b (1 + prefix_len p xs) 0) (x ∷ xs))) (x ∷ xs) ≡ c ∷ above → (drop (length (take_while p xs)) xs ≡ c ∷ above → p c ≡ false) → p c ≡ false
    go true at is rest = let longer : 1 + prefix_len p xs ≡ suc (prefix_len p xs) = omega arith in rest (rw longer at is)
    go false at is rest = let same : x ≡ c = cc in ap p (sym same) ∙ at

passes_rest : (ds : List ℕ) (es : List Event) → list_all is_rest es ≡ true → list_all is_rest (map event.Pass ds ++ es) ≡ true
passes_rest [] es all = all
passes_rest (d ∷ ds) es all = passes_rest ds es all

pass_rest : (h : List Event) (way : List ℕ) (root : Option ℕ) → ((c : ℕ) (above : List ℕ) → way ≡ c ∷ above → does_fire (arrival h c) ≡ false)
    → (is_over (pass_says h way root) ≡ true) × (list_all is_rest (pass_end h way root) ≡ true)
pass_rest h [] None fails = (refl, refl)
pass_rest h [] (Some c) fails = (refl, refl)
pass_rest h (c ∷ above) root fails = arrives_not c (arrival h c) (fails c above refl)

way_fails : (h : List Event) (t c : ℕ) (above : List ℕ) → drop (length (passed h t)) (path h t) ≡ c ∷ above → does_fire (arrival h c) ≡ false
unfolding passed
way_fails h t c above is = first_fails (λ d. does_fire (arrival h d)) (path h t) c above is

pub after_ended : (h : List Event) (t : ℕ) (ending : Ending) → AfterEnd t (end_says h t ending) (after_end h t ending)
after_ended h t ending_is.Ok = Unfired refl (settling_rest h t status_is.Normal)
after_ended h t ending_is.Quiet = Unfired refl refl
after_ended h t ending_is.Try = arrives t (arrival h t)
after_ended h t ending_is.Pass =
    let climbs = pass_rest h (drop (length (passed h t)) (path h t)) (root_of (path h t)) (way_fails h t) in
    Unfired climbs.0 (passes_rest (passed h t) (pass_end h (drop (length (passed h t)) (path h t)) (root_of (path h t))) climbs.1)
after_ended h t ending_is.Complete = go (is_spent h t)
  where
    go : (b : Bool) → AfterEnd t (if b then says.Spent t else says.Hook t) (if b then [] else event.Fire t how_is.Complete ∷ [])
    go true = Unfired refl refl
    go false = Fired how_is.Complete refl refl
after_ended h t (ending_is.Fail code) = Unfired refl (failing_rest h t code)
