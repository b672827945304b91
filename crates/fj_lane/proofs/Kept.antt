-- Each step at a lane keeps its rule.
use Rattle.std.proofs.Common.{◌≡◌, ◌≢◌, ℕ, zero, suc, true, false, true≢false, List, [], ◌∷◌, ◌++◌, length, drop, set, sym, refl, ap, ◌∙◌, subst, ⊎_elim, append_assoc}
use mathlib.Core.Option.{some, some-ne-none}
use lib.ListN.{get_elem?}
use lib.Seq.{drop-append_seam}
use Rattle.crossbeam_deque.specs.Tasks.{Pushes, Takes, Finds, Forks, Merges, Learns}
use Rattle.crossbeam_deque.proofs.Lists.{at_set, at_snoc}
use Rattle.fj_lane.specs.declared.parcel.Parcel.{Parcel}
use Rattle.fj_lane.specs.declared.rule.View.{View}
use Rattle.fj_lane.specs.Rule.{view_of, fed_more, drained_more, undrained, Fits, IsLane}

module _ {B : Type 0} where
  at_end : (l : List (View B)) (a b : View B) (j : ℕ) → get_elem? l j ≢ some b → get_elem? (l ++ a ∷ []) j ≡ some b → j ≡ length l
  at_end [] a b zero n e = refl
  at_end [] a b (suc j) n e = absurd (some-ne-none b (sym e))
  at_end (x ∷ xs) a b zero n e = absurd (n e)
  at_end (x ∷ xs) a b (suc j) n e = ap suc (at_end xs a b j n e)

  abbrev All : (ℕ → View B → Type 0) → List (View B) → Type 0
  All F views = (port : ℕ) (v : View B) → get_elem? views port ≡ some v → F port v

  all_set : (F : ℕ → View B → Type 0) (views : List (View B)) (port : ℕ) (w : View B) → F port w → ((j : ℕ) (u : View B) → j ≢ port → get_elem? views j ≡ some u → F j u) → All F (set views port w)
  all_set F views port w mine others j u e = ⊎_elim (λ (x : (j ≡ port) × (w ≡ u)). subst (λ (y : ℕ × View B). F y.0 y.1) (λ i. (sym x.0 i, x.1 i)) mine)
      (λ (x : (j ≢ port) × (get_elem? views j ≡ some u)). others j u x.0 x.1) (at_set views port j w u e)

  -- what is left of what was fed is what the lane holds
  undrained_is : (v : View B) (fed drained held : List (Parcel B)) → v.fed ≡ fed → v.drained ≡ drained → fed ≡ drained ++ held → undrained v ≡ held
  undrained_is v fed drained held f d e = ap (λ l. drop (length l) v.fed) d ∙ ap (λ l. drop (length drained) l) (f ∙ e) ∙ drop-append_seam drained held

  pub begins : IsLane {B = B} [] (view_of true true [] [] ∷ [])
  begins = (0, 0, [], [], refl, all_set (Fits 0 0 [] []) (view_of true true [] [] ∷ []) 0 (view_of true true [] []) ((λ _. (refl, refl)), λ _. (refl, refl)) (λ j u other e. absurd (other (at_end [] _ u j (λ x. some-ne-none u (sym x)) e))))

  pub feeds : (port : ℕ) (v : View B) (xs : List (Parcel B)) → v.feeds ≡ true → Pushes IsLane port v xs (λ w. w ≡ fed_more xs v)
  feeds port v xs may items views h at = let w : View B = fed_more xs v in let mine = h.5 port v at in let fed : List (Parcel B) = h.2 ++ xs in (
    w,
    (
      h.0,
      h.1,
      fed,
      h.3,
      ap (λ l. l ++ xs) h.4 ∙ append_assoc h.3 items xs,
      all_set (Fits h.0 h.1 fed h.3) views port w ((λ _. ((mine.0 may).0, ap (λ l. l ++ xs) (mine.0 may).1)), mine.1)
          (λ j u other e. ((λ p. absurd (other (((h.5 j u e).0 p).0 ∙ sym (mine.0 may).0))), (h.5 j u e).1)),
    ),
    refl,
  )

  -- the rule after a take, for the list of those that left
  after : (port : ℕ) (v : View B) → v.drains ≡ true → (xs items : List (Parcel B)) (views : List (View B)) → IsLane (xs ++ items) views → get_elem? views port ≡ some v → IsLane items (set views port (drained_more xs v))
  after port v may xs items views h at = let w : View B = drained_more xs v in let mine = h.5 port v at in let drained : List (Parcel B) = h.3 ++ xs in (
    h.0,
    h.1,
    h.2,
    drained,
    h.4 ∙ sym (append_assoc h.3 xs items),
    all_set (Fits h.0 h.1 h.2 drained) views port w (mine.0, λ _. ((mine.1 may).0, ap (λ l. l ++ xs) (mine.1 may).1))
        (λ j u other e. ((h.5 j u e).0, λ p. absurd (other (((h.5 j u e).1 p).0 ∙ sym (mine.1 may).0)))),
  )

  pub drains : (port : ℕ) (v : View B) → v.drains ≡ true → Takes IsLane port v 1 (λ xs w. w ≡ drained_more xs v)
  drains port v may xs items views _ _ h at = (drained_more xs v, after port v may xs items views h at, refl)

  pub empties : (port : ℕ) (v : View B) → v.feeds ≡ true → v.drains ≡ true → Takes IsLane port v 1 (λ xs w. (w ≡ drained_more xs v) × (undrained v ≡ xs ++ undrained w))
  empties port v a b xs items views _ _ h at = let w : View B = drained_more xs v in let mine = h.5 port v at in
      let before : undrained v ≡ xs ++ items = undrained_is v h.2 h.3 (xs ++ items) (mine.0 a).1 (mine.1 b).1 h.4 in
      let later : undrained w ≡ items = undrained_is w h.2 (h.3 ++ xs) items (mine.0 a).1 (ap (λ l. l ++ xs) (mine.1 b).1) (h.4 ∙ sym (append_assoc h.3 xs items)) in
      (w, after port v b xs items views h at, (refl, before ∙ ap (λ l. xs ++ l) (sym later)))

  pub ends : (port : ℕ) (v : View B) → v.feeds ≡ true → v.drains ≡ true → Finds IsLane port v (undrained v ≡ [])
  ends port v a b views h at = let mine = h.5 port v at in undrained_is v h.2 h.3 [] (mine.0 a).1 (mine.1 b).1 h.4

  pub forks : (port : ℕ) (v : View B) → v.feeds ≡ true → v.drains ≡ true → Forks IsLane port v (view_of true false v.fed []) (view_of false true [] v.drained)
  forks port v a b items views h at = let l : View B = view_of true false v.fed [] in let r : View B = view_of false true [] v.drained in let mine = h.5 port v at in let vs : List (View B) = set views port l in
      let Old : ℕ → View B → Type 0 = λ j u. (u.feeds ≡ true → (j ≡ h.0) × (u.fed ≡ h.2)) × (u.drains ≢ true) in
      let old : All Old vs = all_set Old views port l ((λ _. mine.0 a), λ p. true≢false (sym p)) (λ j u other e. ((h.5 j u e).0, λ p. other (((h.5 j u e).1 p).0 ∙ sym (mine.1 b).0))) in (
        h.0,
        length vs,
        h.2,
        h.3,
        h.4,
        λ j u e. ⊎_elim (λ x. ((old j u x).0, λ p. absurd ((old j u x).1 p)))
            (λ (is : r ≡ u). ((λ p. absurd (true≢false (sym (ap (λ (y : View B). y.feeds) is ∙ p)))), λ p. (at_end vs r u j (λ x. (old j u x).1 p) e, ap (λ (y : View B). y.drained) (sym is) ∙ (mine.1 b).1))) (at_snoc vs r u j e),
      )

  pub merges : (port : ℕ) (v : View B) (other : ℕ) (u : View B) → v.feeds ≡ true → u.drains ≡ true → Merges IsLane port v other u (view_of true true v.fed u.drained) (view_of false false [] [])
  merges port v other u a b items views h at two at' = let both : View B = view_of true true v.fed u.drained in let mine = h.5 port v at in let vs : List (View B) = set views port both in
      let was : get_elem? views other ≡ some u = ⊎_elim (λ x. absurd (two x.0)) (λ x. x.1) (at_set views port other both u at') in let theirs = (h.5 other u was).1 b in
      let Now : ℕ → View B → Type 0 = λ j y. j ≢ other → Fits h.0 port h.2 h.3 j y in
      let now : All Now vs = all_set Now views port both (λ _. ((λ _. mine.0 a), λ _. (refl, theirs.1))) (λ j y _ e apart. ((h.5 j y e).0, λ p. absurd (apart (((h.5 j y e).1 p).0 ∙ sym theirs.0)))) in
      (h.0, port, h.2, h.3, h.4, all_set (Fits h.0 port h.2 h.3) vs other (view_of false false [] []) ((λ p. absurd (true≢false (sym p))), λ p. absurd (true≢false (sym p))) (λ j y apart e. now j y e apart))

  pub learns : (port : ℕ) (v : View B) → v.feeds ≡ true → v.drains ≡ true → Learns IsLane port v (λ items. v.fed ≡ v.drained ++ undrained v)
  learns port v a b items views h at = let mine = h.5 port v at in
      (mine.0 a).1 ∙ h.4 ∙ ap (λ l. l ++ items) (sym (mine.1 b).1) ∙ ap (λ l. v.drained ++ l) (sym (undrained_is v h.2 h.3 items (mine.0 a).1 (mine.1 b).1 h.4))
