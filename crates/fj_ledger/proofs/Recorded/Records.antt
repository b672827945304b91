-- The records of the kept tasks after one event more.
use Rattle.std.proofs.Common.{ℕ, ◌≡◌, ◌≢◌, ◌+◌, Bool, true, false, List, [], ◌∷◌, ◌++◌, length, Option, Some, None, refl, ap, sym, ◌∙◌, subst, arith, cond, inl, inr, ◌⊎◌, ⊎_elim}
use Rattle.std.specs.Prelude.{IsSome, option_map}
use Rattle.std.specs.List.{cons_option}
use Rattle.std.proofs.lemmas.Bool.{cases_eq}
use Rattle.std.proofs.lemmas.Option.{same_Some, none-some}
use Rattle.fj_rules.specs.declared.event.Event.{Event}
use Rattle.fj_rules.specs.declared.kind.Kind.{Kind}
use Rattle.fj_rules.specs.declared.place.Place.{Place}
use Rattle.fj_rules.specs.Bounds.{Pool}
use Rattle.fj_rules.specs.Tasks.{accepted_by, is_kept, parent_in}
use Rattle.fj_rules.specs.Allowed.{Allowed, AllowedFrom}
use Rattle.fj_rules.proofs.Events.Growth.{accepted_more}
use Rattle.fj_rules.proofs.Completers.KeptParents.{kept_before}
use Rattle.fj_rules.proofs.Events.Releasing.{kept_same, live_same, accepting_live}
use Rattle.fj_tree.specs.declared.record.Record.{Record}
use Rattle.fj_tree.specs.Records.{Records, is_named, IsSound, record_at, handle_of, count}
use Rattle.fj_tree.specs.Makes.{fresh, with_child, with_child_of}
use Rattle.fj_tree.proofs.Index.Numbers.{there, at_found, IsWritten}
use Rattle.fj_ledger.specs.Holds.{Tells, KeepsTree}
use Rattle.fj_ledger.proofs.Recorded.Telling.{touched, is_of_one, no_release, tells_same}
use Rattle.fj_rules.proofs.Events.KindsKept.{accepted_same, kept_known}
use Rattle.fj_rules.proofs.Events.Lawful.{not_new}

-- ---- one record is changed, or none

-- the event speaks of no task that has a record
pub tree_other : (pool : Pool) (h : List Event) (e : Event) (tree : Records) → AllowedFrom pool [] h → Allowed pool h e → is_of_one e ≡ true → accepted_by e ≡ None
    → ((r : Record) → Tells h r → touched e ≡ Some r.serial → ⊥) → KeepsTree pool.limits h tree → KeepsTree pool.limits (h ++ e ∷ []) tree
tree_other pool h e tree so may is same other keeps = record {
  made = keeps.made ∙ sym (accepted_same h e same);
  room = keeps.room;
  live = keeps.live ∙ sym (live_same h e same (no_release e is));
  each = λ key r at. let tells = keeps.each key r at in tells_same pool h e r so may is (other r tells) tells;
  all = λ t kept. keeps.all t (sym (kept_same h e t same (no_release e is)) ∙ kept);
}

-- nothing is said of any task
pub tree_same : (pool : Pool) (h : List Event) (e : Event) (tree : Records) → AllowedFrom pool [] h → Allowed pool h e → is_of_one e ≡ true
    → touched e ≡ None → accepted_by e ≡ None → KeepsTree pool.limits h tree → KeepsTree pool.limits (h ++ e ∷ []) tree
tree_same pool h e tree so may is none same keeps = tree_other pool h e tree so may is same (λ r tells said. nothing none said) keeps
  where
    nothing : {t : ℕ} → touched e ≡ None → touched e ≡ Some t → ⊥
    nothing none said = absurd cc

-- each kept task has a record still
written_there : (old new : Records) (key t : ℕ) (r s : Record) → IsWritten old new key r s → s.serial ≡ r.serial → IsSome (handle_of old t) → IsSome (handle_of new t)
written_there old new key t r s wrote same found =
    let a = at_found old t found in
    ⊎_elim
    (λ here. let is : r ≡ a.found = same_Some r a.found (sym wrote.before ∙ ap (record_at old) (sym here) ∙ a.at) in
    there new t key s wrote.after (same ∙ ap (λ (x : Record). x.serial) is ∙ a.number))
    (λ other. there new t a.key a.found (wrote.others a.key other ∙ a.at) a.number)
    (cases_eq a.key key)

-- the event speaks of the task whose record was written
pub tree_written : (pool : Pool) (h : List Event) (e : Event) (old new : Records) (key : ℕ) (r s : Record) → AllowedFrom pool [] h → Allowed pool h e → is_of_one e ≡ true
    → accepted_by e ≡ None → touched e ≡ Some r.serial → IsSound old → IsWritten old new key r s → s.serial ≡ r.serial → Tells (h ++ e ∷ []) s
    → KeepsTree pool.limits h old → KeepsTree pool.limits (h ++ e ∷ []) new
tree_written pool h e old new key r s so may is none about sound wrote same tells keeps = record {
  made = wrote.made ∙ keeps.made ∙ sym (accepted_same h e none);
  room = wrote.room ∙ keeps.room;
  live = wrote.count ∙ keeps.live ∙ sym (live_same h e none (no_release e is));
  each = λ k u at. ⊎_elim
      (λ here. subst (Tells (h ++ e ∷ [])) (same_Some s u (sym wrote.after ∙ ap (record_at new) (sym here) ∙ at)) tells)
      (λ other.
      let at_old : record_at old k ≡ Some u = sym (wrote.others k other) ∙ at in
      tells_same pool h e u so may is (λ said. other (sound.once k key u r at_old wrote.before (number u said))) (keeps.each k u at_old))
      (cases_eq k key);
  all = λ t kept. written_there old new key t r s wrote same (keeps.all t (sym (kept_same h e t none (no_release e is)) ∙ kept));
}
  where
    number : (u : Record) → touched e ≡ Some u.serial → u.serial ≡ r.serial
    number u said = let both : Some u.serial ≡ Some r.serial = sym said ∙ about in same_Some u.serial r.serial both

-- ---- a record is made

-- what a make leaves: one record more, and the other ones as they were but for the count of children
pub record IsMade (old new : Records) (key n : ℕ) (k : Kind) (p : Place) : Type 0 where
  pub made : new.made ≡ old.made + 1
  pub room : new.room ≡ old.room
  pub number : n ≡ old.made
  pub vacant : record_at old key ≡ None
  pub fresh : record_at new key ≡ Some (fresh n k p)
  pub others : (other : ℕ) → other ≢ key → record_at new other ≡ option_map (with_child_of (parent_in (Some k))) (record_at old other)
  pub count : count new ≡ count old + 1

-- each kept task has a record still
made_there : (old new : Records) (key t n : ℕ) (k : Kind) (p : Place) → IsMade old new key n k p → IsSome (handle_of old t) → IsSome (handle_of new t)
made_there old new key t n k p made found =
    let a = at_found old t found in
    ⊎_elim
    (λ here. absurd (none-some _ (sym made.vacant ∙ ap (record_at old) (sym here) ∙ a.at)))
    (λ other. there new t a.key (with_child_of (parent_in (Some k)) a.found) (made.others a.key other ∙ ap (option_map (with_child_of (parent_in (Some k)))) a.at) (numbered (is_named (parent_in (Some k)) a.found.serial) a.found a.number))
    (cases_eq a.key key)
  where
    numbered : (b : Bool) (r : Record) → r.serial ≡ t → (cond b (with_child r) r).serial ≡ t
    numbered true r is = is
    numbered false r is = is

-- a record that is as it was, but for the count of children
made_other : (old new : Records) (key other n : ℕ) (k : Kind) (p : Place) (s : Record) → IsMade old new key n k p → other ≢ key → record_at new other ≡ Some s
    → (r : Record) × (record_at old other ≡ Some r) × (s ≡ with_child_of (parent_in (Some k)) r)
made_other old new key other n k p s made differs at = go (record_at old other) refl
  where
    f : Record → Record
    f = with_child_of (parent_in (Some k))

    go : (o : Option Record) → record_at old other ≡ o → (r : Record) × (record_at old other ≡ Some r) × (s ≡ f r)
    go None none = absurd (none-some _ (sym (made.others other differs ∙ ap (option_map f) none) ∙ at))
    go (Some r) some = (r, some, sym (same_Some (f r) s (sym (made.others other differs ∙ ap (option_map f) some) ∙ at)))

with_child_tells : (h : List Event) (b : Bool) (r : Record) → Tells h r → Tells h (cond b (with_child r) r)
with_child_tells h true r tells = record { kept = tells.kept; kind = tells.kind; place = tells.place; status = tells.status; pending = tells.pending; fired = tells.fired }
with_child_tells h false r tells = tells

-- a task is accepted, and a record made for it
pub tree_made : (pool : Pool) (h : List Event) (e : Event) (old new : Records) (key n : ℕ) (k : Kind) (p : Place) → AllowedFrom pool [] h → Allowed pool h e → is_of_one e ≡ true
    → accepted_by e ≡ Some n → touched e ≡ Some n → IsMade old new key n k p → Tells (h ++ e ∷ []) (fresh n k p)
    → KeepsTree pool.limits h old → KeepsTree pool.limits (h ++ e ∷ []) new
tree_made pool h e old new key n k p so may is new_one about made tells keeps = record {
  made = omega (arith, made.made, keeps.made, ap length_of new_one, accepted_more h e);
  room = made.room ∙ keeps.room;
  live = made.count ∙ ap (λ m. m + 1) keeps.live ∙ sym (accepting_live pool h e n so may new_one);
  each = λ j s at. ⊎_elim
      (λ here. subst (Tells (h ++ e ∷ [])) (same_Some (fresh n k p) s (sym made.fresh ∙ ap (record_at new) (sym here) ∙ at)) tells)
      (λ other.
      let was = made_other old new key j n k p s made other at in
      let old_tells = tells_same pool h e was.0 so may is (λ said. fresh_number was.0 (keeps.each j was.0 was.1) said) (keeps.each j was.0 was.1) in
      subst (Tells (h ++ e ∷ [])) (sym was.2) (with_child_tells (h ++ e ∷ []) (is_named (parent_in (Some k)) was.0.serial) was.0 old_tells))
      (cases_eq j key);
  all = λ t kept. either t (kept_before h e t kept);
}
  where
    length_of : Option ℕ → ℕ
    length_of o = length (cons_option o [])

    -- no record has the new number yet
    fresh_number : (r : Record) → Tells h r → touched e ≡ Some r.serial → ⊥
    fresh_number r was said =
        let both : Some n ≡ Some r.serial = sym about ∙ said in
        not_new pool h e r.serial so may (kept_known h r.serial was.kept) (new_one ∙ both)

    either : (t : ℕ) → (is_kept h t ≡ true) ⊎ (accepted_by e ≡ Some t) → IsSome (handle_of new t)
    either t (inl old_one) = made_there old new key t n k p made (keeps.all t old_one)
    either t (inr said) = let both : Some n ≡ Some t = sym new_one ∙ said in there new t key (fresh n k p) made.fresh (same_Some n t both)
