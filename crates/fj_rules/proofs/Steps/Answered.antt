-- What an answer of the machine says, step by step.
use Rattle.std.proofs.Common.{ℕ, suc, ◌-◌, length, arith, ◌≡◌, Bool, true, false, ◌&&◌, ◌||◌, not, List, [], ◌∷◌, ◌++◌, Option, Some, None, refl, ap, sym, ◌∙◌}
use Rattle.fj_rules.specs.declared.event.Event.{Event}
use Rattle.std.specs.Prelude.{if◌then◌else◌, nat_le, ◌<◌, ◌≤◌, ◌+◌}
use Rattle.std.proofs.lemmas.Bool.{lt-leb, le-ltb}
use Rattle.fj_rules.specs.declared.place.Place.{Place}
use Rattle.fj_rules.specs.Stacks.{stack}
use Rattle.fj_rules.specs.Hooks.{hand}
use Rattle.fj_rules.specs.declared.event.Event.TheVariants.{Acc, Out, Skip, Rel}
use Rattle.fj_rules.specs.declared.owner.Owner.TheVariants.{Sub, Work}
use Rattle.fj_rules.specs.declared.kind.Kind.{Kind}
use Rattle.fj_rules.specs.declared.kind.Kind.TheVariants.{Completer}
use Rattle.fj_rules.specs.declared.step.Step.{Step}
use Rattle.fj_rules.specs.declared.step.Step.TheVariants.{Submit, Fork, Trigger, Poll, Help, Join, End, State, Release}
use Rattle.fj_rules.specs.declared.refusal.Refusal.{Refusal}
use Rattle.fj_rules.specs.declared.said.Said.{Said}
use Rattle.fj_rules.specs.declared.said.Said.TheVariants as says
use Rattle.fj_rules.specs.Pasts.{limit}
use Rattle.fj_rules.specs.Runs.{Past, grown}
use Rattle.std.proofs.lemmas.List.{append-nil}
use Rattle.fj_rules.specs.Tasks.{accepted, submitted_kind}
use Rattle.fj_rules.specs.declared.kind.SubmittedKind.{SubmittedKind}
use Rattle.fj_rules.specs.declared.refusal.Refusal.TheVariants.{LogFull, Unknown, NotDone, NoSuch, NotIdle}
use Rattle.fj_rules.specs.Lists.{or_else, is_empty, last_of}
use Rattle.fj_rules.specs.Tasks.{is_completer}
use Rattle.fj_rules.specs.declared.event.Event.TheVariants as event
use Rattle.fj_rules.specs.declared.status.Status.TheVariants.{Normal}
use Rattle.fj_rules.specs.declared.status.Status.{Status}
use Rattle.fj_rules.specs.declared.status.Status.TheVariants as status_is
use Rattle.fj_rules.specs.Answers.{status_says}
use Rattle.fj_rules.specs.ChoiceTaken.{TakesChoice}
use Rattle.fj_rules.specs.declared.step.Ending.TheVariants.{Ok as EndOk}
use Rattle.fj_rules.specs.Answers.{running, settling, ending_events, ending_says, is_misfit}
use Rattle.fj_rules.proofs.Steps.Standing.{stands, some_or_none}
use Rattle.std.proofs.lemmas.Bool.{true≢false}
use Rattle.fj_rules.specs.Tasks.{is_kept}
use Rattle.fj_rules.specs.Statuses.{status, is_undone}
use Rattle.fj_rules.specs.Places.{place, is_gone}
use Rattle.fj_rules.specs.Choices.{choice}
use Rattle.fj_rules.specs.Allowed.{has_kept_child}
use Rattle.fj_rules.specs.Answers.{taking, taking_says, does_not_fit, first_that_stands, answer, answer_of, refusal_of, reply_of, events_of}

-- the step was refused, or made
pub data Answered (past : Past) (asked : Step) (reply : Said) (events : List Event) : Type 0 where
  Refuses : (r : Refusal) → reply ≡ says.Refused r → events ≡ [] → Answered past asked reply events
  Makes : refusal_of past asked ≡ None → reply ≡ reply_of past.pool past.events asked → events ≡ events_of past.pool past.events asked → Answered past asked reply events

pub answered : (past : Past) (asked : Step) → Answered past asked (answer past asked).0 (answer past asked).1
unfolding answer
answered past asked = go (refusal_of past asked) refl
  where
    go : (r : Option Refusal) → refusal_of past asked ≡ r → Answered past asked (answer_of past asked r).0 (answer_of past asked r).1
    go None is = Makes is refl refl
    go (Some r) is = Refuses r refl refl

-- a fork replies only a task or a refusal
pub fork_replies : (past : Past) (w : ℕ) (k : Kind) (reply : Said) → reply ≡ (answer past (Fork w k)).0
    → ((t : ℕ) → reply ≡ says.Task t → ⊥) → ((r : Refusal) → reply ≡ says.Refused r → ⊥) → ⊥
unfolding reply_of
fork_replies past w k reply is no_task no_refusal = go (answered past (Fork w k))
  where
    go : Answered past (Fork w k) (answer past (Fork w k)).0 (answer past (Fork w k)).1 → ⊥
    go (Refuses r said none) = no_refusal r (is ∙ said)
    go (Makes stands said made) = no_task (accepted past.events) (is ∙ said)

-- where it replies a task, that is the next one, and it was accepted
pub fork_made : (past : Past) (w : ℕ) (k : Kind) (t : ℕ) → (answer past (Fork w k)).0 ≡ says.Task t → (answer past (Fork w k)).1 ≡ Acc t (Work w) k ∷ []
unfolding reply_of events_of
fork_made past w k t is = go (answered past (Fork w k))
  where
    go : Answered past (Fork w k) (answer past (Fork w k)).0 (answer past (Fork w k)).1 → (answer past (Fork w k)).1 ≡ Acc t (Work w) k ∷ []
    go (Refuses r said none) = absurd cc
    go (Makes stands said made) = let same : accepted past.events ≡ t = cc in made ∙ ap (λ n. Acc n (Work w) k ∷ []) same

-- ---- a trigger

pub trigger_replies : (past : Past) (w n : ℕ) (reply : Said) → reply ≡ (answer past (Trigger w n)).0
    → ((t : ℕ) → reply ≡ says.Task t → ⊥) → ((r : Refusal) → reply ≡ says.Refused r → ⊥) → ⊥
unfolding reply_of
trigger_replies past w n reply is no_task no_refusal = go (answered past (Trigger w n))
  where
    go : Answered past (Trigger w n) (answer past (Trigger w n)).0 (answer past (Trigger w n)).1 → ⊥
    go (Refuses r said none) = no_refusal r (is ∙ said)
    go (Makes stands said made) = no_task (accepted past.events) (is ∙ said)

pub trigger_made : (past : Past) (w n t : ℕ) → (answer past (Trigger w n)).0 ≡ says.Task t → (answer past (Trigger w n)).1 ≡ event.Make t (Completer true n None) ∷ []
unfolding reply_of events_of
trigger_made past w n t is = go (answered past (Trigger w n))
  where
    go : Answered past (Trigger w n) (answer past (Trigger w n)).0 (answer past (Trigger w n)).1 → (answer past (Trigger w n)).1 ≡ event.Make t (Completer true n None) ∷ []
    go (Refuses r said none) = absurd cc
    go (Makes stands said made) = let same : accepted past.events ≡ t = cc in made ∙ ap (λ u. event.Make u (Completer true n None) ∷ []) same

-- ---- taking the choice

-- what a step that takes the choice replies and appends
abbrev pub Taken : ℕ → Said → List Event → Type 0
Taken w (says.Run t) events = events ≡ Out t w ∷ []
Taken w (says.Skip t) events = events ≡ Skip t w ∷ []
Taken w says.None events = events ≡ []
Taken w (says.Refused r) events = events ≡ []
Taken w _ events = ⊥

-- ---- a release

-- the answer to a release
pub data ReleaseGives (free full : Bool) (t : ℕ) (reply : Said) (events : List Event) : Type 0 where
  Went : free ≡ true → reply ≡ says.Done → events ≡ Rel t ∷ [] → ReleaseGives free full t reply events
  Finds : free ≡ true → full ≡ true → reply ≡ says.Refused LogFull → events ≡ [] → ReleaseGives free full t reply events
  Stays : (r : Refusal) → free ≡ false → (r ≡ LogFull → ⊥) → reply ≡ says.Refused r → events ≡ [] → ReleaseGives free full t reply events

pub release_gives : (past : Past) (t : ℕ)
    → ReleaseGives (is_kept past.events t && is_gone (place past.events t) && not (has_kept_child past.events t)) (does_not_fit past (Release t)) t (answer past (Release t)).0 (answer past (Release t)).1
unfolding answer refusal_of reply_of events_of
release_gives past t = go (is_kept past.events t) (is_gone (place past.events t)) (has_kept_child past.events t) (does_not_fit past (Release t))
  where
    go : (k g c f : Bool) → let a = answer_of past (Release t) (or_else (first_that_stands ((not k, Unknown) ∷ (not g || c, NotDone) ∷ [])) (if f then Some LogFull else None)) in
        ReleaseGives (k && g && not c) f t a.0 a.1
    go false g c f = Stays Unknown refl (λ same. absurd cc) refl refl
    go true false c f = Stays NotDone refl (λ same. absurd cc) refl refl
    go true true true f = Stays NotDone refl (λ same. absurd cc) refl refl
    go true true false true = Finds refl refl refl refl
    go true true false false = Went refl refl refl

pub refusal_same : (r s : Refusal) → says.Refused r ≡ says.Refused s → r ≡ s
refusal_same r s same = cc

pub refused_not_done : (r : Refusal) → says.Refused r ≡ says.Done → ⊥
refused_not_done r same = cc

-- a poll by an idle worker is refused only by a full history
pub poll_full : (past : Past) (w r : ℕ) (refusal : Refusal) → w < past.pool.limits.workers → hand past.events w ≡ None → stack past.events w ≡ [] → (answer past (Poll w r)).0 ≡ says.Refused refusal → refusal ≡ LogFull
unfolding answer refusal_of reply_of
poll_full past w r refusal there free empty = rw (free, empty) (go (nat_le past.pool.limits.workers w) (does_not_fit past (Poll w r)) (lt-leb past.pool.limits.workers w there))
  where
    go : (b f : Bool) → b ≡ false
        → (answer_of past (Poll w r) (or_else (first_that_stands ((b, NoSuch) ∷ (false, NotIdle) ∷ (false, NotIdle) ∷ [])) (if f then Some LogFull else None))).0 ≡ says.Refused refusal → refusal ≡ LogFull
    go true f is said = absurd cc
    go false true is said = cc
    go false false is said = absurd (no_refusal (choice past.pool past.events w r) said)
      where
        no_refusal : (t : Option ℕ) → taking_says past.events t ≡ says.Refused refusal → ⊥
        no_refusal None same = cc
        no_refusal (Some t) same = pick (is_undone (status past.events t)) same
          where
            pick : (b : Bool) → (if b then says.Run t else says.Skip t) ≡ says.Refused refusal → ⊥
            pick true is = cc
            pick false is = cc

-- ---- the ending Ok

last_there : (t : ℕ) (ts : List ℕ) → (x : ℕ) × (last_of (t ∷ ts) ≡ Some x)
last_there t [] = (t, refl)
last_there t (u ∷ us) =
    let rest = last_there u us in
    let shorter : length (t ∷ u ∷ us) - 1 ≡ suc (length (u ∷ us) - 1) = omega arith in
    (rest.0, rw shorter rest.1)

pub last_none : (ts : List ℕ) → last_of ts ≡ None → is_empty ts ≡ true
last_none [] is = refl
last_none (t ∷ ts) is = let there = last_there t ts in absurd (differs there.0 (sym is ∙ there.1))
  where
    differs : (x : ℕ) → ◌≡◌ {A = Option ℕ} None (Some x) → ⊥
    differs x same = cc

-- the answer to it
pub data OkGives (h : List Event) (w : ℕ) (reply : Said) (events : List Event) : Type 0 where
  Ended : (t : ℕ) → running h w ≡ Some t → is_completer h t ≡ false → reply ≡ says.Done → events ≡ event.End t w ∷ settling (h ++ event.End t w ∷ []) t Normal → OkGives h w reply events
  NotEnded : (r : Refusal) → reply ≡ says.Refused r → events ≡ [] → OkGives h w reply events

pub ok_gives : (past : Past) (w : ℕ) → OkGives past.events w (answer past (End w EndOk)).0 (answer past (End w EndOk)).1
unfolding reply_of events_of
ok_gives past w = go (answered past (End w EndOk))
  where
    go : Answered past (End w EndOk) (answer past (End w EndOk)).0 (answer past (End w EndOk)).1 → OkGives past.events w (answer past (End w EndOk)).0 (answer past (End w EndOk)).1
    go (Refuses r said none) = NotEnded r said none
    go (Makes none said made) = let st = (stands past (End w EndOk) none).tests in runs (running past.events w) refl said made st.1.1.0 st.1.1.1.0
      where
        runs : (t : Option ℕ) → running past.events w ≡ t → (answer past (End w EndOk)).0 ≡ ending_says past.events w EndOk (running past.events w) → (answer past (End w EndOk)).1 ≡ ending_events past.events w EndOk (running past.events w)
            → is_empty (stack past.events w) ≡ false → is_misfit past.events EndOk (running past.events w) ≡ false → OkGives past.events w (answer past (End w EndOk)).0 (answer past (End w EndOk)).1
        runs None at said made full fit = absurd (true≢false (sym (last_none (stack past.events w) at) ∙ full))
        runs (Some t) at said made full fit = Ended t at (rw at at fit) (rw at at said) (rw at at made)

pub record OkDone (h : List Event) (w : ℕ) (events : List Event) : Type 0 where
  pub task : ℕ
  pub runs : running h w ≡ Some task
  pub plain : is_completer h task ≡ false
  pub made : events ≡ event.End task w ∷ settling (h ++ event.End task w ∷ []) task Normal

pub ok_done : (past : Past) (w : ℕ) (reply : Said) → reply ≡ (answer past (End w EndOk)).0 → reply ≡ says.Done → OkDone past.events w (answer past (End w EndOk)).1
ok_done past w reply is said = go (ok_gives past w)
  where
    go : OkGives past.events w (answer past (End w EndOk)).0 (answer past (End w EndOk)).1 → OkDone past.events w (answer past (End w EndOk)).1
    go (Ended t runs plain done made) = record { task = t; runs = runs; plain = plain; made = made }
    go (NotEnded r refused none) = absurd (refused_not_done r (sym refused ∙ sym is ∙ said))

pub ok_replies : (past : Past) (w : ℕ) (reply : Said) → reply ≡ (answer past (End w EndOk)).0 → (reply ≡ says.Done → ⊥) → ((r : Refusal) → reply ≡ says.Refused r → ⊥) → ⊥
ok_replies past w reply is no_done no_refusal = go (ok_gives past w)
  where
    go : OkGives past.events w (answer past (End w EndOk)).0 (answer past (End w EndOk)).1 → ⊥
    go (Ended t runs plain done made) = no_done (is ∙ done)
    go (NotEnded r refused none) = no_refusal r (is ∙ refused)

-- a worker whose step End is not refused has no hook in its hand
pub end_free : (past : Past) (w : ℕ) (reply : Said) → reply ≡ (answer past (End w EndOk)).0 → reply ≡ says.Done → hand past.events w ≡ None
end_free past w reply is said = go (answered past (End w EndOk))
  where
    go : Answered past (End w EndOk) (answer past (End w EndOk)).0 (answer past (End w EndOk)).1 → hand past.events w ≡ None
    go (Refuses r refused none) = absurd (refused_not_done r (sym refused ∙ sym is ∙ said))
    go (Makes none replied made) = some_or_none (hand past.events w) ((stands past (End w EndOk) none).tests.1.0)

-- ---- joins

choice_takes : (h : List Event) (w : ℕ) (t : Option ℕ) → TakesChoice w (taking_says h t) (taking h w t)
choice_takes h w None = refl
choice_takes h w (Some t) = go (is_undone (status h t))
  where
    go : (b : Bool) → TakesChoice w (if b then says.Run t else says.Skip t) ((if b then Out t w else Skip t w) ∷ [])
    go true = refl
    go false = refl

done_takes : (w : ℕ) (s : Status) → is_undone s ≡ false → TakesChoice w (status_says s) []
done_takes w status_is.Undone done = absurd cc
done_takes w status_is.Normal done = refl
done_takes w (status_is.Exceptional code) done = refl
done_takes w status_is.Cancelled done = refl

pub join_takes : (past : Past) (w t r : ℕ) → TakesChoice w (answer past (Join w t r)).0 (answer past (Join w t r)).1
unfolding reply_of events_of
join_takes past w t r = go (answered past (Join w t r))
  where
    made_go : (b : Bool) → is_undone (status past.events t) ≡ b
        → TakesChoice w (if b then taking_says past.events (choice past.pool past.events w r) else status_says (status past.events t)) (if b then taking past.events w (choice past.pool past.events w r) else [])
    made_go true is = choice_takes past.events w (choice past.pool past.events w r)
    made_go false is = done_takes w (status past.events t) is

    go : Answered past (Join w t r) (answer past (Join w t r)).0 (answer past (Join w t r)).1 → TakesChoice w (answer past (Join w t r)).0 (answer past (Join w t r)).1
    go (Refuses refusal said none) = rw said none
    go (Makes stands said made) = rw (said, made) (made_go (is_undone (status past.events t)) refl)

pub poll_takes : (past : Past) (w r : ℕ) → TakesChoice w (answer past (Poll w r)).0 (answer past (Poll w r)).1
unfolding reply_of events_of
poll_takes past w r = go (answered past (Poll w r))
  where
    go : Answered past (Poll w r) (answer past (Poll w r)).0 (answer past (Poll w r)).1 → TakesChoice w (answer past (Poll w r)).0 (answer past (Poll w r)).1
    go (Refuses refusal said none) = rw said none
    go (Makes stands said made) = rw (said, made) (choice_takes past.events w (choice past.pool past.events w r))

pub help_takes : (past : Past) (w r : ℕ) → TakesChoice w (answer past (Help w r)).0 (answer past (Help w r)).1
unfolding reply_of events_of
help_takes past w r = go (answered past (Help w r))
  where
    go : Answered past (Help w r) (answer past (Help w r)).0 (answer past (Help w r)).1 → TakesChoice w (answer past (Help w r)).0 (answer past (Help w r)).1
    go (Refuses refusal said none) = rw said none
    go (Makes stands said made) = rw (said, made) (choice_takes past.events w (choice past.pool past.events w r))

-- a poll and a help tell no status
abbrev pub IsChoice : Said → Type 0
IsChoice says.Normal = ⊥
IsChoice (says.Exceptional code) = ⊥
IsChoice says.Cancelled = ⊥
IsChoice _ = Unit {0}

choice_only : (h : List Event) (t : Option ℕ) → IsChoice (taking_says h t)
choice_only h None = tt
choice_only h (Some t) = go (is_undone (status h t))
  where
    go : (b : Bool) → IsChoice (if b then says.Run t else says.Skip t)
    go true = tt
    go false = tt

pub poll_only : (past : Past) (w r : ℕ) → IsChoice (answer past (Poll w r)).0
unfolding reply_of
poll_only past w r = go (answered past (Poll w r))
  where
    go : Answered past (Poll w r) (answer past (Poll w r)).0 (answer past (Poll w r)).1 → IsChoice (answer past (Poll w r)).0
    go (Refuses refusal said none) = rw said tt
    go (Makes stands said made) = rw said (choice_only past.events (choice past.pool past.events w r))

pub help_only : (past : Past) (w r : ℕ) → IsChoice (answer past (Help w r)).0
unfolding reply_of
help_only past w r = go (answered past (Help w r))
  where
    go : Answered past (Help w r) (answer past (Help w r)).0 (answer past (Help w r)).1 → IsChoice (answer past (Help w r)).0
    go (Refuses refusal said none) = rw said tt
    go (Makes stands said made) = rw said (choice_only past.events (choice past.pool past.events w r))

choice_said : (w : ℕ) (reply : Said) (events : List Event) → TakesChoice w reply events
    → (reply ≡ says.None → ⊥) → ((t : ℕ) → reply ≡ says.Run t → ⊥) → ((t : ℕ) → reply ≡ says.Skip t → ⊥) → (reply ≡ says.Normal → ⊥) → ((c : ℕ) → reply ≡ says.Exceptional c → ⊥) → (reply ≡ says.Cancelled → ⊥)
    → ((r : Refusal) → reply ≡ says.Refused r → ⊥) → ⊥
choice_said w (says.Run t) events took n1 n2 n3 n4 n5 n6 n7 = n2 t refl
choice_said w (says.Skip t) events took n1 n2 n3 n4 n5 n6 n7 = n3 t refl
choice_said w says.None events took n1 n2 n3 n4 n5 n6 n7 = n1 refl
choice_said w says.Normal events took n1 n2 n3 n4 n5 n6 n7 = n4 refl
choice_said w (says.Exceptional c) events took n1 n2 n3 n4 n5 n6 n7 = n5 c refl
choice_said w says.Cancelled events took n1 n2 n3 n4 n5 n6 n7 = n6 refl
choice_said w (says.Refused r) events took n1 n2 n3 n4 n5 n6 n7 = n7 r refl
choice_said w _ events took n1 n2 n3 n4 n5 n6 n7 = took

-- such a step after a reply
pub choice_replies : (w : ℕ) (reply said : Said) (events : List Event) → TakesChoice w said events → reply ≡ said
    → (reply ≡ says.None → ⊥) → ((t : ℕ) → reply ≡ says.Run t → ⊥) → ((t : ℕ) → reply ≡ says.Skip t → ⊥) → (reply ≡ says.Normal → ⊥) → ((c : ℕ) → reply ≡ says.Exceptional c → ⊥) → (reply ≡ says.Cancelled → ⊥)
    → ((r : Refusal) → reply ≡ says.Refused r → ⊥) → ⊥
choice_replies w reply said events took is = choice_said w reply events (rw is took)

pub choice_ran : (w t : ℕ) (reply said : Said) (events : List Event) → TakesChoice w said events → reply ≡ said → reply ≡ says.Run t → events ≡ Out t w ∷ []
choice_ran w t reply said events took is run = rw (sym is ∙ run) at took

pub choice_skipped : (w t : ℕ) (reply said : Said) (events : List Event) → TakesChoice w said events → reply ≡ said → reply ≡ says.Skip t → events ≡ Skip t w ∷ []
choice_skipped w t reply said events took is skip = rw (sym is ∙ skip) at took

pub choice_idle : (w : ℕ) (reply said : Said) (events : List Event) → TakesChoice w said events → reply ≡ said → reply ≡ says.None → events ≡ []
choice_idle w reply said events took is none = rw (sym is ∙ none) at took

pub choice_normal : (w : ℕ) (reply said : Said) (events : List Event) → TakesChoice w said events → reply ≡ said → reply ≡ says.Normal → events ≡ []
choice_normal w reply said events took is none = rw (sym is ∙ none) at took

pub choice_failed : (w code : ℕ) (reply said : Said) (events : List Event) → TakesChoice w said events → reply ≡ said → reply ≡ says.Exceptional code → events ≡ []
choice_failed w code reply said events took is none = rw (sym is ∙ none) at took

pub choice_cancelled : (w : ℕ) (reply said : Said) (events : List Event) → TakesChoice w said events → reply ≡ said → reply ≡ says.Cancelled → events ≡ []
choice_cancelled w reply said events took is none = rw (sym is ∙ none) at took

-- ---- where a task is, and how far it has come

pub state_nothing : (past : Past) (t : ℕ) → (answer past (State t)).1 ≡ []
unfolding events_of
state_nothing past t = go (answered past (State t))
  where
    go : Answered past (State t) (answer past (State t)).0 (answer past (State t)).1 → (answer past (State t)).1 ≡ []
    go (Refuses r said none) = none
    go (Makes stands said made) = made

data StateGives (h : List Event) (t : ℕ) (reply : Said) : Type 0 where
  Shows : is_kept h t ≡ true → reply ≡ says.State (place h t) (status h t) → StateGives h t reply
  NoTask : is_kept h t ≡ false → reply ≡ says.Refused Unknown → StateGives h t reply

state_gives : (past : Past) (t : ℕ) → length past.events ≤ limit past → StateGives past.events t (answer past (State t)).0
unfolding answer refusal_of reply_of events_of
state_gives past t fits = go (is_kept past.events t) refl (does_not_fit past (State t)) (le-ltb (limit past) (length past.events + 0) (omega (arith, fits)))
  where
    go : (k : Bool) → is_kept past.events t ≡ k → (f : Bool) → f ≡ false
        → StateGives past.events t (answer_of past (State t) (or_else (first_that_stands ((not k, Unknown) ∷ [])) (if f then Some LogFull else None))).0
    go false is f fits = NoTask is refl
    go true is true fits = absurd cc
    go true is false fits = Shows is refl

pub state_replies : (past : Past) (t : ℕ) (reply : Said) → length past.events ≤ limit past → reply ≡ (answer past (State t)).0 → ((p : Place) (s : Status) → reply ≡ says.State p s → ⊥) → ((r : Refusal) → reply ≡ says.Refused r → ⊥) → ⊥
state_replies past t reply fits is no_state no_refusal = go (state_gives past t fits)
  where
    go : StateGives past.events t (answer past (State t)).0 → ⊥
    go (Shows kept gives) = no_state (place past.events t) (status past.events t) (is ∙ gives)
    go (NoTask kept gives) = no_refusal Unknown (is ∙ gives)

pub state_same : (past past' : Past) (t : ℕ) → past' ≡ grown past (answer past (State t)).1 → past' ≡ past
state_same past past' t grew = grew ∙ rw (state_nothing past t, append-nil past.events) refl

-- ---- a submission

pub submit_made : (past : Past) (s : ℕ) (k : SubmittedKind) → refusal_of past (Submit s k) ≡ None
    → ((answer past (Submit s k)).0 ≡ says.Task (accepted past.events)) × ((answer past (Submit s k)).1 ≡ Acc (accepted past.events) (Sub s) (submitted_kind k) ∷ [])
unfolding answer reply_of events_of
submit_made past s k none = rw none (refl, refl)

pub submit_task : (past : Past) (s t : ℕ) (k : SubmittedKind) (reply : Said) → refusal_of past (Submit s k) ≡ None → reply ≡ (answer past (Submit s k)).0 → reply ≡ says.Task t
    → (answer past (Submit s k)).1 ≡ Acc t (Sub s) (submitted_kind k) ∷ []
submit_task past s t k reply none is said =
    let made = submit_made past s k none in
    let same : accepted past.events ≡ t = task_same (accepted past.events) t (sym made.0 ∙ sym is ∙ said) in
    made.1 ∙ ap (λ n. Acc n (Sub s) (submitted_kind k) ∷ []) same
  where
    task_same : (a b : ℕ) → says.Task a ≡ says.Task b → a ≡ b
    task_same a b eq = cc
