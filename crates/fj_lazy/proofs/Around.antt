-- One more part, at either end.
use Rattle.std.specs.Prelude.{zero, suc, Option, Some, None}
use Rattle.std.specs.Option.{option_to_list}
use Rattle.std.proofs.Common.{ℕ, ◌≡◌, ◌+◌, ◌<◌, ◌≤◌, List, [], ◌∷◌, ◌++◌, refl, ap, ◌∙◌, sym, arith}
use Rattle.fj_lazy.specs.PartsAside.{around, inside, weigh, branches}

-- one more part within the others
pub around-snoc : {P O : Type 0} (f : P → O → O) (ps : List P) (p : P) (v : O) → around f (ps ++ p ∷ []) v ≡ around f ps (f p v)
around-snoc f [] p v = refl
around-snoc f (q ∷ qs) p v = ap (f q) (around-snoc f qs p v)

-- one more part around the others
pub inside-snoc : {P O : Type 0} (f : P → O → O) (ps : List P) (p : P) (v : O) → inside f (ps ++ p ∷ []) v ≡ f p (inside f ps v)
inside-snoc f [] p v = refl
inside-snoc f (q ∷ qs) p v = inside-snoc f qs p (f q v)

pub weigh-snoc : {P : Type 0} (w : P → ℕ) (ps : List P) (p : P) → weigh w (ps ++ p ∷ []) ≡ weigh w ps + w p
weigh-snoc w [] p = omega arith
weigh-snoc w (q ∷ qs) p = let e = weigh-snoc w qs p in omega (arith, e)

-- what a part that was taken from the end weighs
pub weigh_taken : {P : Type 0} (w : P → ℕ) (all ps : List P) (p : P) → all ≡ ps ++ p ∷ [] → weigh w all ≡ weigh w ps + w p
weigh_taken w all ps p e = ap (weigh w) e ∙ weigh-snoc w ps p

pub around_taken : {P O : Type 0} (f : P → O → O) (all ps : List P) (p : P) (v : O) → all ≡ ps ++ p ∷ [] → around f all v ≡ around f ps (f p v)
around_taken f all ps p v e = ap (λ l. around f l v) e ∙ around-snoc f ps p v

pub inside_taken : {P O : Type 0} (f : P → O → O) (all ps : List P) (p : P) (v : O) → all ≡ ps ++ p ∷ [] → inside f all v ≡ f p (inside f ps v)
inside_taken f all ps p v e = ap (λ l. inside f l v) e ∙ inside-snoc f ps p v

-- there is at least one job
pub branches_some : (n : ℕ) → 0 < branches n
branches_some zero = omega arith
branches_some (suc n) = omega arith

pub branches_mono : (m n : ℕ) → m ≤ n → branches m ≤ branches n
branches_mono zero n h = let s = branches_some n in omega (arith, s)
branches_mono (suc m) zero h = omega (arith, h)
branches_mono (suc m) (suc n) h = let b = branches_mono m n (omega (arith, h)) in omega (arith, b)

-- two smaller jobs have fewer in them together
pub branches_halves : (a b n : ℕ) → a < n → b < n → branches a + branches b < branches n
branches_halves a b zero ha hb = omega (arith, ha)
branches_halves a b (suc n) ha hb =
    let x = branches_mono a n (omega (arith, ha)) in
    let y = branches_mono b n (omega (arith, hb)) in
    omega (arith, x, y)

-- a value that was taken in from the end
pub around_step : {P O : Type 0} (f : P → O → O) (all ps : List P) (p q : P) (v y w : O) → around f all v ≡ w → all ≡ ps ++ p ∷ [] → p ≡ q → y ≡ f q v → around f ps y ≡ w
around_step f all ps p q v y w h e i k = ap (around f ps) (k ∙ ap (λ x. f x v) (sym i)) ∙ sym (around_taken f all ps p v e) ∙ h

-- the last part is changed for another one, with the parts inside it
pub around_changed : {P O : Type 0} (f : P → O → O) (all ps news : List P) (p q r : P) (v x w : O) → around f all v ≡ w → all ≡ ps ++ p ∷ [] → p ≡ q → news ≡ ps ++ r ∷ [] → f r x ≡ f q v → around f news x ≡ w
around_changed f all ps news p q r v x w h e i n k = around_taken f news ps r x n ∙ around_step f all ps p q v (f r x) w h e i k

-- the first inner part becomes the last outer one
pub moved_out : {P Q O : Type 0} (f : P → O → O) (g : Q → O → O) (outs outs' : List Q) (ins ins' : List P) (p q : P) (r : Q) (v : O) → outs' ≡ outs ++ r ∷ [] → ins ≡ p ∷ ins' → p ≡ q → g r (around f ins' v) ≡ f q (around f ins' v) → around g outs' (around f ins' v) ≡ around g outs (around f ins v)
moved_out f g outs outs' ins ins' p q r v e i s k =
    around_taken g outs' outs r (around f ins' v) e ∙ ap (around g outs) (k ∙ ap (λ x. f x (around f ins' v)) (sym s) ∙ sym (ap (λ l. around f l v) i))

-- the first inner part is taken out
pub taken_out : {P Q O : Type 0} (f : P → O → O) (g : Q → O → O) (outs : List Q) (ins ins' : List P) (p q : P) (v y w : O) → ins ≡ p ∷ ins' → p ≡ q → y ≡ f q (around f ins' v) → around g outs (around f ins v) ≡ w → around g outs y ≡ w
taken_out f g outs ins ins' p q v y w i s k h = ap (around g outs) (k ∙ ap (λ x. f x (around f ins' v)) (sym s) ∙ sym (ap (λ l. around f l v) i)) ∙ h

pub weigh_taken_as : {P : Type 0} (w : P → ℕ) (all ps : List P) (p q : P) → all ≡ ps ++ p ∷ [] → p ≡ q → weigh w all ≡ weigh w ps + w q
weigh_taken_as w all ps p q e i = weigh_taken w all ps p e ∙ ap (λ x. weigh w ps + w x) i

pub weigh_first_as : {P : Type 0} (w : P → ℕ) (all ps : List P) (p q : P) → all ≡ p ∷ ps → p ≡ q → weigh w all ≡ w q + weigh w ps
weigh_first_as w all ps p q e i = ap (weigh w) e ∙ ap (λ x. w x + weigh w ps) i

-- nothing was taken from the front
pub nothing_taken : {P : Type 0} (o : Option P) (all ps : List P) → all ≡ option_to_list o ++ ps → ((p : P) → o ≡ Some p → ⊥) → ps ≡ all
nothing_taken None all ps e n = sym e
nothing_taken (Some p) all ps e n = absurd (n p refl)
