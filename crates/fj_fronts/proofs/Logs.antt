-- Logs, and beginnings of them.
use Rattle.std.proofs.Common.{◌≡◌, ◌≢◌, ◌⊎◌, inl, inr, ⊎_elim, ◌<◌, ◌≤◌, List, [], ◌∷◌, ◌++◌, length, refl, ap, sym, ◌∙◌, subst, arith, append_assoc}
use Rattle.std.proofs.lemmas.Bool.{cases_lt}
use Rattle.std.proofs.lemmas.List.{append-nil}
use mathlib.Core.List.{IsPrefix}
use Rattle.fj_fronts.specs.Logs.{IsLegal, IsLonger}

module _ {E : Type 0} where
  -- ---- beginnings

  pub prefix_nil : (log : List E) → IsPrefix [] log
  prefix_nil log = (log, refl)

  pub prefix_self : (log : List E) → IsPrefix log log
  prefix_self log = ([], append-nil log)

  pub prefix_trans : (xs ys zs : List E) → IsPrefix xs ys → IsPrefix ys zs → IsPrefix xs zs
  prefix_trans xs ys zs p q = (p.0 ++ q.0, sym (append_assoc xs p.0 q.0) ∙ (ap (λ (l : List E). l ++ q.0) p.1 ∙ q.1))

  -- a beginning of a log begins it when it has grown
  pub prefix_grows : (xs log : List E) (entry : E) → IsPrefix xs log → IsPrefix xs (log ++ entry ∷ [])
  prefix_grows xs log entry p = prefix_trans xs log (log ++ entry ∷ []) p (entry ∷ [], refl)

  -- of two beginnings of one log the shorter begins the longer
  pub prefix_shorter : (xs ys log : List E) → IsPrefix xs log → IsPrefix ys log → length xs ≤ length ys → IsPrefix xs ys
  prefix_shorter [] ys log p q short = (ys, refl)
  prefix_shorter (x ∷ xs) [] log p q short = absurd (omega arith)
  prefix_shorter (x ∷ xs) (y ∷ ys) [] p q short = absurd (cc (p.1))
  prefix_shorter (x ∷ xs) (y ∷ ys) (z ∷ log) p q short =
      let heads : x ≡ y = cc (p.1, q.1) in
      let rest = prefix_shorter xs ys log (p.0, cc (p.1)) (q.0, cc (q.1)) (omega arith) in
      (rest.0, cc (heads, rest.1))

  -- of two beginnings of one log there is a longer one
  pub longer_of : (xs ys log : List E) → IsPrefix xs log → IsPrefix ys log → (zs : List E) × IsPrefix zs log × IsLonger xs ys zs
  longer_of xs ys log p q = ⊎_elim first second (cases_lt (length ys) (length xs))
    where
      first : length ys < length xs → (zs : List E) × IsPrefix zs log × IsLonger xs ys zs
      first short =
          let order : length ys ≤ length xs = omega arith in
          (xs, p, record { either = inl refl; one_begins = prefix_self xs; other_begins = prefix_shorter ys xs log q p order })

      second : length xs ≤ length ys → (zs : List E) × IsPrefix zs log × IsLonger xs ys zs
      second short = (ys, q, record { either = inr refl; one_begins = prefix_shorter xs ys log p q short; other_begins = prefix_self ys })

  -- ---- legal logs

  nothing_after : (before after : List E) (entry : E) → before ++ entry ∷ after ≢ []
  nothing_after [] after entry is = absurd (cc (is))
  nothing_after (b ∷ before) after entry is = absurd (cc (is))

  -- an entry of a log that has grown is the new one, or stood there
  entry_of : (before after log : List E) (entry new : E) → before ++ entry ∷ after ≡ log ++ new ∷ []
      → ((before ≡ log) × (entry ≡ new)) ⊎ ((rest : List E) × (before ++ entry ∷ rest ≡ log))
  entry_of [] after [] entry new is = inl (refl, cc (is))
  entry_of [] after (l ∷ log) entry new is = inr (log, cc (is))
  entry_of (b ∷ before) after [] entry new is = absurd (nothing_after before after entry (cc (is)))
  entry_of (b ∷ before) after (l ∷ log) entry new is =
      let heads : b ≡ l = cc (is) in
      ⊎_elim
      (λ (t : (before ≡ log) × (entry ≡ new)). inl (cc (heads, t.0), t.1))
      (λ (t : (rest : List E) × (before ++ entry ∷ rest ≡ log)). inr (t.0, cc (heads, t.1)))
      (entry_of before after log entry new (cc (is)))

  module _ (may_follow : List E → E → Type 0) where
    pub legal_nil : IsLegal may_follow []
    legal_nil before entry after is = absurd (nothing_after before after entry is)

    pub legal_grows : (log : List E) (entry : E) → IsLegal may_follow log → may_follow log entry → IsLegal may_follow (log ++ entry ∷ [])
    legal_grows log new legal may before entry after is =
        ⊎_elim
        (λ (t : (before ≡ log) × (entry ≡ new)). subst (λ (l : List E). may_follow l entry) (sym t.0) (subst (may_follow log) (sym t.1) may))
        (λ (t : (rest : List E) × (before ++ entry ∷ rest ≡ log)). legal before entry t.0 t.1)
        (entry_of before after log entry new is)

    -- so is a beginning of it
    pub legal_prefix : (xs log : List E) → IsPrefix xs log → IsLegal may_follow log → IsLegal may_follow xs
    legal_prefix xs log p legal before entry after is =
        legal before entry (after ++ p.0) (sym (append_assoc before (entry ∷ after) p.0) ∙ (ap (λ (l : List E). l ++ p.0) is ∙ p.1))
