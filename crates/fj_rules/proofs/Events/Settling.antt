-- Several tasks that become exceptional one after another, as a relayed code makes them.
use Rattle.std.proofs.Common.{ℕ, ◌≡◌, Bool, map, List, [], ◌∷◌, ◌++◌, None, refl, ap, ◌∙◌, append_assoc}
use Rattle.std.proofs.lemmas.List.{append-nil}
use Rattle.fj_rules.specs.declared.event.Event.{Event}
use Rattle.fj_rules.specs.declared.event.Event.TheVariants as event
use Rattle.fj_rules.specs.declared.status.Status.{Status}
use Rattle.fj_rules.specs.declared.status.Status.TheVariants as status_is
use Rattle.fj_rules.specs.Tasks.{accepted_by, is_kept, kind}
use Rattle.fj_rules.specs.Statuses.{status_by}
use Rattle.fj_rules.specs.Climbs.{path, relayed, relayed_along}
use Rattle.fj_rules.specs.Answers.{failing}
use Rattle.fj_rules.proofs.Events.Statuses.{status_same}
use Rattle.fj_rules.proofs.Events.KindsKept.{kind_same, path_same}
use Rattle.fj_rules.proofs.Events.Releasing.{kept_same}

-- these get the code one after another
abbrev pub settles : ℕ → List ℕ → List Event
settles code us = map (λ u. event.Settle u (status_is.Exceptional code)) us

-- ---- what stays

-- a word that each settling leaves is left by all
settles_leave : {A : Type 0} (word : List Event → A) → ((h : List Event) (c : ℕ) (s : Status) → word (h ++ event.Settle c s ∷ []) ≡ word h)
    → (h : List Event) (code : ℕ) (us : List ℕ) → word (h ++ settles code us) ≡ word h
settles_leave word same h code [] = rw append-nil refl
settles_leave word same h code (c ∷ us) =
    let e = event.Settle c (status_is.Exceptional code) in
    rw append_assoc at (settles_leave word same (h ++ e ∷ []) code us ∙ same h c (status_is.Exceptional code))

pub settles_kept : (h : List Event) (code : ℕ) (us : List ℕ) (t : ℕ) → is_kept (h ++ settles code us) t ≡ is_kept h t
settles_kept h code us t = settles_leave (λ h. is_kept h t) (λ h c s. kept_same h (event.Settle c s) t refl refl) h code us

pub settles_kind : (h : List Event) (code : ℕ) (us : List ℕ) (t : ℕ) → kind (h ++ settles code us) t ≡ kind h t
settles_kind h code us t = settles_leave (λ h. kind h t) (λ h c s. kind_same h (event.Settle c s) t refl) h code us

-- ---- to whom a code is relayed

relay_same : (h : List Event) (e : Event) (way : List ℕ) → accepted_by e ≡ None → ((t : ℕ) (b : Bool) → status_by t b e ≡ None) → relayed_along (h ++ e ∷ []) way ≡ relayed_along h way
unfolding relayed_along
relay_same h e [] none silent = refl
relay_same h e (c ∷ above) none silent = rw (status_same h e c (silent c), kind_same h e c none, relay_same h e above none silent) refl

-- an event that accepts and settles nothing leaves to whom it is
pub relayed_same : (h : List Event) (e : Event) (t : ℕ) → accepted_by e ≡ None → ((u : ℕ) (b : Bool) → status_by u b e ≡ None) → relayed (h ++ e ∷ []) t ≡ relayed h t
unfolding relayed
relayed_same h e t none silent = ap (relayed_along (h ++ e ∷ [])) (path_same h e t none) ∙ relay_same h e (path h t) none silent

-- so the end of a body changes nothing of what a failure appends
pub failing_end : (h : List Event) (t w u code : ℕ) → failing (h ++ event.End t w ∷ []) u code ≡ failing h u code
failing_end h t w u code = rw (status_same h (event.End t w) u (λ b. refl), relayed_same h (event.End t w) u refl (λ v b. refl)) refl
