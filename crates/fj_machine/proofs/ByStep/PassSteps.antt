-- The end of a body with a climb without completion actions.
use Rattle.std.proofs.Common.{ℕ, ◌≡◌, ◌+◌, ◌-◌, true, List, [], ◌∷◌, ◌++◌, length, map, drop, Option, Some, refl, ap, sym, ◌∙◌, subst, arith, append_assoc, length-append}
use Rattle.std.proofs.lemmas.List.{append-nil, length-map}
use Rattle.std.proofs.lemmas.Bool.{eq-eqb}
use Rattle.fj_rules.specs.declared.event.Event.{Event}
use Rattle.fj_rules.specs.declared.event.Event.TheVariants as event
use Rattle.fj_rules.specs.declared.step.Ending.TheVariants as ending
use Rattle.fj_rules.specs.Bounds.{Pool}
use Rattle.fj_rules.specs.Lists.{is_in}
use Rattle.fj_rules.specs.Tasks.{is_kept, is_completer}
use Rattle.fj_rules.specs.Climbs.{arrival, path, passed}
use Rattle.fj_rules.specs.Answers.{root_of, pass_end, pass_says, after_end, end_says}
use Rattle.fj_rules.specs.Allowed.{AllowedFrom}
use Rattle.fj_rules.proofs.Lists.Members.{get_is_in}
use Rattle.fj_rules.proofs.Completers.Parents.{path_completers}
use Rattle.fj_rules.proofs.Completers.Ways.{rest_on_way}
use Rattle.fj_tree.specs.declared.pass.PassHow.{PassHow}
use Rattle.fj_tree.specs.declared.pass.PassHow.TheVariants as how
use Rattle.fj_tree.specs.Passes.{PassEnd}
use Rattle.fj_ledger.specs.Climbing.{IsEnd, EndsAt, Climbs}
use Rattle.fj_machine.specs.Climbing.{climb_end, climb_says}
use Rattle.fj_rules.proofs.Completers.KeptParents.{path_kept}
use Rattle.fj_rules.proofs.Events.Releasing.{kept_same}

-- what ends the climb, as the history says it
record IsClimbEnd (h : List Event) (way : List ℕ) (root : Option ℕ) (end : PassEnd) : Type 0 where
  appends : pass_end h way root ≡ climb_end end.how end.at.serial
  replies : pass_says h way root ≡ climb_says end.how end.at.serial

at_member : (h : List Event) (c : ℕ) (above : List ℕ) (root : Option ℕ) (at : ℕ) (b : PassHow) → IsEnd b (arrival h c) → at ≡ c
    → (pass_end h (c ∷ above) root ≡ climb_end b at) × (pass_says h (c ∷ above) root ≡ climb_says b at)
at_member h c above root at how.Counted is same = rw (is, same) (refl, refl)
at_member h c above root at how.Spent is same = rw (is, same) (refl, refl)
at_member h c above root at how.Early is same = rw (is, same) (refl, refl)
at_member h c above root at how.Root is same = absurd is

past_root : (h : List Event) (root : Option ℕ) (at : ℕ) (b : PassHow) → b ≡ how.Root → root ≡ Some at → (pass_end h [] root ≡ climb_end b at) × (pass_says h [] root ≡ climb_says b at)
past_root h root at b is there = rw (is, there) (refl, refl)

ends_at : (h : List Event) (way : List ℕ) (root : Option ℕ) (end : PassEnd) → EndsAt h way root end → IsClimbEnd h way root end
ends_at h (c ∷ above) root end ends = let both = at_member h c above root end.at.serial end.how ends.0 ends.1 in record { appends = both.0; replies = both.1 }
ends_at h [] root end ends = let both = past_root h root end.at.serial end.how ends.0 ends.1 in record { appends = both.0; replies = both.1 }

-- the events of the climb
pub pass_events : (h : List Event) (t : ℕ) (end : PassEnd) → Climbs h t end → after_end h t ending.Pass ≡ map event.Pass (passed h t) ++ climb_end end.how end.at.serial
pass_events h t end climbs = ap (λ (es : List Event). map event.Pass (passed h t) ++ es) (ends_at h (drop (length (passed h t)) (path h t)) (root_of (path h t)) end climbs.ends).appends

pub pass_reply : (h : List Event) (t : ℕ) (end : PassEnd) → Climbs h t end → climb_says end.how end.at.serial ≡ end_says h t ending.Pass
pass_reply h t end climbs = sym (ends_at h (drop (length (passed h t)) (path h t)) (root_of (path h t)) end climbs.ends).replies

same_length : (b : PassHow) (c : ℕ) → length (climb_end b c) ≡ length (climb_end b 0)
same_length how.Counted c = refl
same_length how.Spent c = refl
same_length how.Early c = refl
same_length how.Root c = refl

-- how many they are
pub pass_count : (h : List Event) (t : ℕ) (end : PassEnd) → Climbs h t end → 1 + length (map event.Pass (passed h t) ++ climb_end end.how end.at.serial) ≡ 1 + end.passed + length (climb_end end.how 0)
pass_count h t end climbs =
    omega (arith, length-append (map event.Pass (passed h t)) (climb_end end.how end.at.serial), length-map (passed h t) event.Pass, climbs.count, same_length end.how end.at.serial)

on_way : (h : List Event) (t : ℕ) (way : List ℕ) (end : PassEnd) → drop (length (passed h t)) (path h t) ≡ way → EndsAt h way (root_of (path h t)) end → is_in end.at.serial (path h t) ≡ true
on_way h t (c ∷ above) end is ends =
    let first : is_in end.at.serial (drop (length (passed h t)) (path h t)) ≡ true = rw is (rw (eq-eqb c end.at.serial (sym ends.1)) refl) in
    rest_on_way h t end.at.serial first
on_way h t [] end is ends = get_is_in end.at.serial (path h t) (length (path h t) - 1) ends.1

-- the one at which the climb ends is a completer
pub climb_completer : (pool : Pool) (h : List Event) (t : ℕ) (end : PassEnd) → AllowedFrom pool [] h → is_completer h t ≡ true → Climbs h t end → is_completer h end.at.serial ≡ true
climb_completer pool h t end so completer climbs = path_completers pool h t end.at.serial so completer (on_way h t (drop (length (passed h t)) (path h t)) end refl climbs.ends)

-- and it is kept
pub climb_kept : (pool : Pool) (h : List Event) (t : ℕ) (end : PassEnd) → AllowedFrom pool [] h → is_kept h t ≡ true → Climbs h t end → is_kept h end.at.serial ≡ true
climb_kept pool h t end so kept climbs = path_kept pool h t end.at.serial so kept (on_way h t (drop (length (passed h t)) (path h t)) end refl climbs.ends)

pub kept_past : (h : List Event) (ts : List ℕ) (t : ℕ) → is_kept h t ≡ true → is_kept (h ++ map event.Pass ts) t ≡ true
kept_past h [] t kept = ap (λ (es : List Event). is_kept es t) (append-nil h) ∙ kept
kept_past h (u ∷ ts) t kept =
    ap (λ (es : List Event). is_kept es t) (sym (append_assoc h (event.Pass u ∷ []) (map event.Pass ts)))
    ∙ kept_past (h ++ event.Pass u ∷ []) ts t (kept_same h (event.Pass u) t refl refl ∙ kept)

-- what comes after events that were allowed
pub allowed_back : (pool : Pool) (before xs ys : List Event) → AllowedFrom pool before (xs ++ ys) → AllowedFrom pool (before ++ xs) ys
allowed_back pool before [] ys so = subst (λ (h : List Event). AllowedFrom pool h ys) (sym (append-nil before)) so
allowed_back pool before (x ∷ xs) ys so = subst (λ (h : List Event). AllowedFrom pool h ys) (append_assoc before (x ∷ []) xs) (allowed_back pool (before ++ x ∷ []) xs ys so.1)
