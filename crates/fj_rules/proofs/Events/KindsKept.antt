-- What tasks are: that they were accepted, and what one more event leaves of their kinds, their parents and the ways up from them.
use Rattle.std.proofs.Common.{ℕ, ◌≡◌, Bool, true, false, List, [], ◌∷◌, ◌++◌, Option, Some, None, refl, ap, append_assoc, ◌∙◌, zero, suc, not}
use Rattle.std.specs.Prelude.{◌==◌, if◌then◌else◌}
use Rattle.std.specs.List.{filter_map, cons_option}
use Rattle.std.proofs.lemmas.List.{append-nil}
use Rattle.std.proofs.lemmas.Bool.{eqb-true, ne_eqb, and_parts}
use Rattle.fj_rules.specs.declared.event.Event.{Event}
use Rattle.fj_rules.specs.declared.event.Event.TheVariants.{Acc, Make}
use Rattle.fj_rules.specs.declared.kind.Kind.{Kind}
use Rattle.fj_rules.specs.Lists.{is_in, or_else, first_said}
use Rattle.fj_rules.specs.Tasks.{tasks, accepted_by, kind, kind_by, is_completer, is_completer_kind, parent, parent_in, accepted, is_kept, released}
use Rattle.fj_rules.specs.Climbs.{path, path_up}
use Rattle.fj_rules.proofs.Events.Growth.{tasks_more, kind_more}
use Rattle.fj_rules.proofs.Events.Lawful.{front_here, front_rest}

-- an event that accepts no task leaves the tasks
pub tasks_same : (h : List Event) (e : Event) → accepted_by e ≡ None → tasks (h ++ e ∷ []) ≡ tasks h
tasks_same h e none = rw (tasks_more, none) (append-nil (tasks h))

pub accepted_same : (h : List Event) (e : Event) → accepted_by e ≡ None → accepted (h ++ e ∷ []) ≡ accepted h
unfolding accepted
accepted_same h e none = rw (tasks_same h e none) refl

kind_by_other : (t : ℕ) (e : Event) → (accepted_by e ≡ Some t → ⊥) → kind_by t e ≡ None
kind_by_other t (Acc u o k) other = rw (ne_eqb u t (λ same. other (ap Some same))) refl
kind_by_other t (Make u k) other = rw (ne_eqb u t (λ same. other (ap Some same))) refl
kind_by_other t _ other = refl

-- the kind stays, but that of a task that is accepted now
pub kind_still : (h : List Event) (e : Event) (t : ℕ) → (accepted_by e ≡ Some t → ⊥) → kind (h ++ e ∷ []) t ≡ kind h t
kind_still h e t other = kind_more h t e ∙ rw (kind_by_other t e other) (last (kind h t))
  where
    last : (k : Option Kind) → or_else k None ≡ k
    last (Some k) = refl
    last None = refl

pub completer_still : (h : List Event) (e : Event) (t : ℕ) → (accepted_by e ≡ Some t → ⊥) → is_completer (h ++ e ∷ []) t ≡ is_completer h t
unfolding is_completer
completer_still h e t other = ap is_completer_kind (kind_still h e t other)

pub parent_still : (h : List Event) (e : Event) (t : ℕ) → (accepted_by e ≡ Some t → ⊥) → parent (h ++ e ∷ []) t ≡ parent h t
unfolding parent
parent_still h e t other = ap parent_in (kind_still h e t other)

-- so an event that accepts no task leaves the kinds of all
pub kind_same : (h : List Event) (e : Event) (t : ℕ) → accepted_by e ≡ None → kind (h ++ e ∷ []) t ≡ kind h t
kind_same h e t none = kind_still h e t (λ is. absurd cc)

pub completer_same : (h : List Event) (e : Event) (t : ℕ) → accepted_by e ≡ None → is_completer (h ++ e ∷ []) t ≡ is_completer h t
completer_same h e t none = completer_still h e t (λ is. absurd cc)

pub parent_same : (h : List Event) (e : Event) (t : ℕ) → accepted_by e ≡ None → parent (h ++ e ∷ []) t ≡ parent h t
parent_same h e t none = parent_still h e t (λ is. absurd cc)

-- events of which none accepts a task
none_accepted : (e : Event) (later : List Event) → filter_map accepted_by (e ∷ later) ≡ [] → (accepted_by e ≡ None) × (filter_map accepted_by later ≡ [])
none_accepted e later none = go (accepted_by e) refl none
  where
    go : (said : Option ℕ) → accepted_by e ≡ said → cons_option said (filter_map accepted_by later) ≡ [] → (accepted_by e ≡ None) × (filter_map accepted_by later ≡ [])
    go None is none = (is, none)
    go (Some t) is none = absurd cc

pub kind_same_all : (h later : List Event) (t : ℕ) → tasks later ≡ [] → kind (h ++ later) t ≡ kind h t
unfolding tasks
kind_same_all h [] t none = rw append-nil refl
kind_same_all h (e ∷ later) t none =
    let parts = none_accepted e later none in
    rw append_assoc at (kind_same_all (h ++ e ∷ []) later t parts.1 ∙ kind_same h e t parts.0)

pub completer_same_all : (h later : List Event) (t : ℕ) → tasks later ≡ [] → is_completer (h ++ later) t ≡ is_completer h t
unfolding is_completer
completer_same_all h later t none = ap is_completer_kind (kind_same_all h later t none)

pub parent_same_all : (h later : List Event) (t : ℕ) → tasks later ≡ [] → parent (h ++ later) t ≡ parent h t
unfolding parent
parent_same_all h later t none = ap parent_in (kind_same_all h later t none)

-- a completer stays one, whatever the event
pub completer_stays : (h : List Event) (e : Event) (t : ℕ) → is_completer h t ≡ true → is_completer (h ++ e ∷ []) t ≡ true
unfolding is_completer
completer_stays h e t completer = ap is_completer_kind (kind_more h t e) ∙ go (kind h t) completer
  where
    go : (k : Option Kind) → is_completer_kind k ≡ true → is_completer_kind (or_else k (kind_by t e)) ≡ true
    go (Some k) completer = completer
    go None completer = absurd cc

-- an event that gives a task its kind accepts it
pub accepts_kind : (t : ℕ) (e : Event) (k : Kind) → kind_by t e ≡ Some k → accepted_by e ≡ Some t
accepts_kind t (Acc u o j) k is = go (u == t) refl is
  where
    go : (b : Bool) → (u == t) ≡ b → (if b then Some j else None) ≡ Some k → Some u ≡ Some t
    go true same is = ap Some (eqb-true u t same)
    go false same is = absurd cc
accepts_kind t (Make u j) k is = go (u == t) refl is
  where
    go : (b : Bool) → (u == t) ≡ b → (if b then Some j else None) ≡ Some k → Some u ≡ Some t
    go true same is = ap Some (eqb-true u t same)
    go false same is = absurd cc
accepts_kind t _ k is = absurd cc

-- a task with a kind was accepted
pub kind_known : (h : List Event) (t : ℕ) (k : Kind) → kind h t ≡ Some k → is_in t (tasks h) ≡ true
unfolding kind tasks
kind_known [] t k is = absurd cc
kind_known (e ∷ h) t k is = go (kind_by t e) refl is (kind_known h t k)
  where
    go : (said : Option Kind) → kind_by t e ≡ said → or_else said (first_said (kind_by t) h) ≡ Some k
        → (first_said (kind_by t) h ≡ Some k → is_in t (filter_map accepted_by h) ≡ true) → is_in t (filter_map accepted_by (e ∷ h)) ≡ true
    go (Some j) said is later = front_here t (accepted_by e) (filter_map accepted_by h) (accepts_kind t e j said)
    go None said is later = front_rest t (accepted_by e) (filter_map accepted_by h) (later is)

-- so was a completer
pub completer_known : (h : List Event) (t : ℕ) → is_completer h t ≡ true → is_in t (tasks h) ≡ true
unfolding is_completer
completer_known h t completer = go (kind h t) refl completer
  where
    go : (k : Option Kind) → kind h t ≡ k → is_completer_kind k ≡ true → is_in t (tasks h) ≡ true
    go (Some k) is completer = kind_known h t k is
    go None is completer = absurd cc

-- and a kept task
pub kept_known : (h : List Event) (t : ℕ) → is_kept h t ≡ true → is_in t (tasks h) ≡ true
unfolding is_kept
kept_known h t kept = (and_parts (is_in t (tasks h)) (not (is_in t (released h))) kept).0

path_up_same : (n : ℕ) (h : List Event) (e : Event) (from : Option ℕ) → accepted_by e ≡ None → path_up n (h ++ e ∷ []) from ≡ path_up n h from
unfolding path_up
path_up_same zero h e from none = refl
path_up_same (suc n) h e None none = refl
path_up_same (suc n) h e (Some c) none =
    ap (λ us. c ∷ us) (ap (path_up n (h ++ e ∷ [])) (parent_same h e c none) ∙ path_up_same n h e (parent h c) none)

pub path_same : (h : List Event) (e : Event) (c : ℕ) → accepted_by e ≡ None → path (h ++ e ∷ []) c ≡ path h c
unfolding path
path_same h e c none = path_up_same (suc c) h e (Some c) none
