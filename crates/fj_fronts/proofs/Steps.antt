-- Each step keeps the rule.
use Rattle.std.proofs.Common.{◌≡◌, ◌≢◌, ⊎_elim, ℕ, zero, suc, List, [], ◌∷◌, ◌++◌, set, true, false, true≢false, Option, None, Some, ◌<◌, sym, refl, ap, ◌∙◌, subst, arith}
use mathlib.Core.List.{IsPrefix}
use mathlib.Core.Option.{some, none, some-injective, some-ne-none}
use lib.ListN.{get_elem?}
use Rattle.atomic_table.specs.Seated.{TableId}
use Rattle.atomic_table.specs.Table.{Me, step, keeps, Allows, Splits, Joins}
use Rattle.atomic_table.proofs.Lists.{at_set, at_snoc, set_again}
use Rattle.fj_fronts.specs.declared.word.Knowledge.{Knowledge}
use Rattle.fj_fronts.specs.Rule.{keeper_of, front_of, nothing, together, Fits, AreOfLog, IsLog, grown, Grows, Checks, Compares}
use Rattle.fj_fronts.proofs.Logs.{prefix_nil, prefix_self, prefix_grows, longer_of}

no_keeper : false ≡ true → ⊥
no_keeper e = true≢false (sym e)

-- a log has a word
pub has_word : (table name : TableId) → table ≡ name → name.words ≡ 1 → 0 < table.words
has_word table name same one = subst (λ (t : TableId). 0 < t.words) (sym same) (omega (arith, one))

module _ {E : Type 0} where
  -- a seat that knows a beginning fits, wherever it is
  front_fits : (keeper : ℕ) (log known : List E) (seat : ℕ) → IsPrefix known log → Fits keeper log seat (front_of known)
  front_fits keeper log known seat p = record { keeps = λ k. absurd (no_keeper k); known_begins = p; beside_begins = prefix_nil log }

  -- all seats fit after a change of one of them
  all_set : (keeper : ℕ) (log : List E) (views : List (Knowledge E)) (seat : ℕ) (w : Knowledge E)
      → ((other : ℕ) (u : Knowledge E) → other ≢ seat → get_elem? views other ≡ some u → Fits keeper log other u)
      → Fits keeper log seat w
      → (other : ℕ) (u : Knowledge E) → get_elem? (set views seat w) other ≡ some u → Fits keeper log other u
  all_set keeper log views seat w others mine other u there =
      ⊎_elim
      (λ (t : (other ≡ seat) × (w ≡ u)). subst (λ (x : Knowledge E). Fits keeper log other x) t.1 (subst (λ (n : ℕ). Fits keeper log n w) (sym t.0) mine))
      (λ (t : (other ≢ seat) × (get_elem? views other ≡ some u)). others other u t.0 t.1)
      (at_set views seat other w u there)

  -- the first seat is the keeper's, and the log is empty
  pub begins : AreOfLog {E = E} (keeper_of [] ∷ [])
  begins = (0, [], each)
    where
      each : (seat : ℕ) (v : Knowledge E) → get_elem? (keeper_of [] ∷ []) seat ≡ some v → Fits 0 [] seat v
      each zero v e = subst (Fits 0 [] 0) (some-injective _ _ e) (record { keeps = λ _. (refl, refl); known_begins = prefix_nil []; beside_begins = prefix_nil [] })
      each (suc seat) v e = absurd (some-ne-none v (sym e))

  -- a front is split off
  pub shows : (seat : ℕ) (v : Knowledge E) → Splits IsLog seat v v (front_of v.known)
  shows seat v s r at =
      let same = set_again s.views seat v at in (
        r.0,
        r.1,
        λ other u there.
            ⊎_elim
            (λ (old : get_elem? (set s.views seat v) other ≡ some u). r.2 other u (subst (λ (l : List (Knowledge E)). get_elem? l other ≡ some u) same old))
            (λ (new : front_of v.known ≡ u). subst (λ (x : Knowledge E). Fits r.0 r.1 other x) new (front_fits r.0 r.1 v.known other (r.2 seat v at).known_begins))
            (at_snoc (set s.views seat v) (front_of v.known) u other there),
      )

  -- a seat is joined to another one
  pub joins : (seat : ℕ) (v : Knowledge E) (other : ℕ) (w : Knowledge E) → Joins IsLog seat v other w (together v w) nothing
  joins seat v other w s r at apart there =
      let both = together v w in
      let mid = set s.views seat both in
      let was =
      ⊎_elim
      (λ (t : (other ≡ seat) × (both ≡ w)). absurd (apart t.0))
      (λ (t : (other ≢ seat) × (get_elem? s.views other ≡ some w)). t.1)
      (at_set s.views seat other both w there) in
      let mine = r.2 seat v at in
      let joined : Fits r.0 r.1 seat both = record { keeps = mine.keeps; known_begins = mine.known_begins; beside_begins = (r.2 other w was).known_begins } in (
        r.0,
        r.1,
        all_set r.0 r.1 mid other nothing
            (λ i u _ e. all_set r.0 r.1 s.views seat both (λ j y _ e'. r.2 j y e') joined i u e)
            (front_fits r.0 r.1 [] other (prefix_nil r.1)),
      )

  -- the keeper appends an entry
  pub appends : (slots seat : ℕ) (me : Me (Unit {0}) (Knowledge E)) (chosen : Option E) → me.0.is_keeper ≡ true
      → Allows IsLog slots seat me 0 (λ x. x) (Grows chosen (step slots 0 0 0 none) me)
  appends slots seat me None keeper s r _ at _ = (me.0, keeps, tt, subst AreOfLog (sym (set_again s.views seat me.0 at)) r, refl)
  appends slots seat me (Some entry) keeper s r _ at _ =
      let mine = r.2 seat me.0 at in
      let own = mine.keeps keeper in
      let log = r.1 ++ entry ∷ [] in
      let same : me.0.known ++ entry ∷ [] ≡ log = ap (λ (l : List E). l ++ entry ∷ []) own.1 in
      let new : Fits r.0 log seat (grown (Some entry) me.0) = record {
        keeps = λ _. (own.0, same);
        known_begins = subst (λ (l : List E). IsPrefix l log) (sym same) (prefix_self log);
        beside_begins = prefix_grows me.0.beside r.1 entry mine.beside_begins;
      } in
      let others : (other : ℕ) (u : Knowledge E) → other ≢ seat → get_elem? s.views other ≡ some u → Fits r.0 log other u = λ other u apart there.
      let theirs = r.2 other u there in record {
        keeps = λ k. absurd (apart ((theirs.keeps k).0 ∙ sym own.0));
        known_begins = prefix_grows u.known r.1 entry theirs.known_begins;
        beside_begins = prefix_grows u.beside r.1 entry theirs.beside_begins;
      } in
      (grown (Some entry) me.0, keeps, tt, (r.0, log, all_set r.0 log s.views seat (grown (Some entry) me.0) others new), refl)

  -- the keeper checks what stands beside
  pub checks : (slots seat : ℕ) (me : Me (Unit {0}) (Knowledge E)) → me.0.is_keeper ≡ true
      → Allows IsLog slots seat me 0 (λ x. x) (Checks (step slots 0 0 0 none) me)
  checks slots seat me keeper s r _ at _ =
      let mine = r.2 seat me.0 at in
      let own = mine.keeps keeper in
      let new : Fits r.0 r.1 seat (keeper_of me.0.known) = record { keeps = λ _. own; known_begins = mine.known_begins; beside_begins = prefix_nil r.1 } in (
        keeper_of me.0.known,
        keeps,
        tt,
        (r.0, r.1, all_set r.0 r.1 s.views seat (keeper_of me.0.known) (λ j y _ e. r.2 j y e) new),
        (refl, subst (λ (l : List E). IsPrefix me.0.beside l) (sym own.1) mine.beside_begins),
      )

  -- a front compares what it knows and what stands beside
  pub compares : (slots seat : ℕ) (me : Me (Unit {0}) (Knowledge E))
      → Allows IsLog slots seat me 0 (λ x. x) (Compares (step slots 0 0 0 none) me)
  compares slots seat me s r _ at _ =
      let mine = r.2 seat me.0 at in
      let longer = longer_of me.0.known me.0.beside r.1 mine.known_begins mine.beside_begins in (
        front_of longer.0,
        keeps,
        tt,
        (r.0, r.1, all_set r.0 r.1 s.views seat (front_of longer.0) (λ j y _ e. r.2 j y e) (front_fits r.0 r.1 longer.0 seat longer.1)),
        (longer.0, refl, longer.2),
      )

  -- ---- what a seat knows after that

  -- a keeper that knows a list knows what it knows
  pub keeper_again : (known : List E) (me : Me (Unit {0}) (Knowledge E)) → me ≡ (keeper_of known, []) → me ≡ (keeper_of me.0.known, [])
  keeper_again known me is = is ∙ ap (λ (l : List E). (keeper_of l, [])) (sym (ap (λ (m : Me (Unit {0}) (Knowledge E)). m.0.known) is))

  -- the keeper has appended an entry
  pub appended : (chosen : Option E) (entry : E) (me me' : Me (Unit {0}) (Knowledge E)) → me' ≡ (grown chosen me.0, me.1) → chosen ≡ Some entry → me ≡ (keeper_of me.0.known, [])
      → me' ≡ (keeper_of (me.0.known ++ entry ∷ []), [])
  appended chosen entry me me' grew is knows =
      grew ∙ ap (λ (o : Option E). (grown o me.0, me.1)) is ∙ ap (λ (m : Me (Unit {0}) (Knowledge E)). (grown (Some entry) m.0, m.1)) knows

  pub is_keeper : (me : Me (Unit {0}) (Knowledge E)) → me ≡ (keeper_of me.0.known, []) → me.0.is_keeper ≡ true
  is_keeper me knows = ap (λ (m : Me (Unit {0}) (Knowledge E)). m.0.is_keeper) knows
