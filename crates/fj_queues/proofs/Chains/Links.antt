-- Cells that lead to one another and follow one another, and how often a cell is named.
use Rattle.fj_queues.specs.Chains.{head_or, last_or, Leads, Follows, walk}
use Rattle.fj_rules.specs.Lists.{times_in, last_of}
use Rattle.std.proofs.Common.{arith, cond, ◌+◌, ◌-◌, ◌==◌, ℕ, ◌≡◌, ◌≢◌, ◌<◌, ◌≤◌, List, [], ◌∷◌, ◌++◌, length, map, take, slice_get, Bool, true, false, Option, Some, None, ◌⊎◌, inl, inr, ap, sym, ◌∙◌, refl}
use Rattle.fj_queues.specs.Queues.{without_last}
use Rattle.std.proofs.Math.Seq.{take-append_seam}
use Rattle.std.proofs.lemmas.List.{length_push, get_or_push}
use Rattle.std.proofs.lemmas.Option.{slice_get-get_or}
use Rattle.std.specs.Option.{is_some}
use Rattle.std.proofs.lemmas.Bool.{eq-eqb, ne_eqb, eqb-true, eqb-false}
use Rattle.fj_rules.proofs.Lists.Members.{times_in_cons, times_in_append}

pub times_here : (c : ℕ) (cs : List ℕ) → times_in c (c ∷ cs) ≡ 1 + times_in c cs
times_here c cs = omega (arith, times_in_cons c c cs, ap {B = ℕ} (λ b. cond b 1 0) (eq-eqb c c refl))

pub times_there : (c d : ℕ) (cs : List ℕ) → d ≢ c → times_in c (d ∷ cs) ≡ times_in c cs
times_there c d cs other = omega (arith, times_in_cons c d cs, ap {B = ℕ} (λ b. cond b 1 0) (ne_eqb d c other))

pub times_more : (c d : ℕ) (cs : List ℕ) → times_in c cs ≤ times_in c (d ∷ cs)
times_more c d cs = omega (arith, times_in_cons c d cs)

pub times_at_end : (c d : ℕ) (cs : List ℕ) → times_in c (cs ++ d ∷ []) ≡ times_in c cs + times_in c (d ∷ [])
times_at_end c d cs = times_in_append c cs (d ∷ [])

pub last_named : (c : ℕ) (cs : List ℕ) → last_or None cs ≡ Some c → 0 < times_in c cs
last_named c [] is = absurd (cc)
last_named c (d ∷ []) is = let same : d ≡ c = cc in omega (arith, times_here c [], ap (λ e. times_in c (e ∷ [])) same)
last_named c (d ∷ e ∷ cs) is = let later = last_named c (e ∷ cs) is in omega (arith, times_more c d (e ∷ cs))

pub times_at_front : (c d : ℕ) (cs : List ℕ) → times_in c (d ∷ cs) ≡ times_in c (d ∷ []) + times_in c cs
times_at_front c d cs = omega (arith, times_in_cons c d cs, times_in_cons c d [])

-- a cell is named by itself alone
pub one_named : (c d : ℕ) → (times_in c (d ∷ []) ≡ 0) ⊎ ((c ≡ d) × (times_in c (d ∷ []) ≡ 1))
one_named c d = go (d == c) refl
  where
    go : (b : Bool) → (d == c) ≡ b → (times_in c (d ∷ []) ≡ 0) ⊎ ((c ≡ d) × (times_in c (d ∷ []) ≡ 1))
    go true is = let same = eqb-true d c is in inr (sym same, omega (arith, times_here c [], ap (λ e. times_in c (e ∷ [])) same))
    go false is = inl (omega (arith, times_there c d [] (eqb-false d c is)))

pub head_named : (c : ℕ) (cs : List ℕ) → head_or None cs ≡ Some c → 0 < times_in c cs
head_named c [] is = absurd (cc)
head_named c (d ∷ cs) is = let same : d ≡ c = cc in omega (arith, times_here c cs, ap (λ e. times_in c (e ∷ cs)) same)

-- what stands before the last cell
pub split_last : (c : ℕ) (cs : List ℕ) → last_or None cs ≡ Some c → (ds : List ℕ) × (cs ≡ ds ++ c ∷ [])
split_last c [] is = absurd (cc)
split_last c (d ∷ []) is = let same : d ≡ c = cc in ([], ap (λ e. e ∷ []) same)
split_last c (d ∷ e ∷ cs) is = let later = split_last c (e ∷ cs) is in (d ∷ later.0, ap (λ es. d ∷ es) later.1)

pub last_found : (c : ℕ) (cs : List ℕ) → last_or (Some c) cs ≢ None
last_found c [] none = absurd (cc)
last_found c (d ∷ cs) none = last_found d cs none

pub last_pushed : (before : Option ℕ) (cs : List ℕ) (d : ℕ) → last_or before (cs ++ d ∷ []) ≡ Some d
last_pushed before [] d = refl
last_pushed before (c ∷ cs) d = last_pushed (Some c) cs d

pub leads_kept : (f g : ℕ → Option ℕ) (cs : List ℕ) (after : Option ℕ) → ((c : ℕ) → 0 < times_in c cs → g c ≡ f c) → Leads f cs after → Leads g cs after
leads_kept f g [] after same leads = tt
leads_kept f g (c ∷ cs) after same leads =
    (same c (omega (arith, times_here c cs)) ∙ leads.0, leads_kept f g cs after (λ d some. same d (omega (arith, times_more d c cs))) leads.1)

pub follows_kept : (f g : ℕ → Option ℕ) (before : Option ℕ) (cs : List ℕ) → ((c : ℕ) → 0 < times_in c cs → g c ≡ f c) → Follows f before cs → Follows g before cs
follows_kept f g before [] same follows = tt
follows_kept f g before (c ∷ cs) same follows =
    (same c (omega (arith, times_here c cs)) ∙ follows.0, follows_kept f g (Some c) cs (λ d some. same d (omega (arith, times_more d c cs))) follows.1)

-- the last cell leads elsewhere
pub leads_elsewhere : (f g : ℕ → Option ℕ) (cs : List ℕ) (after later : Option ℕ) → ((c : ℕ) → times_in c cs ≤ 1)
    → ((c : ℕ) → last_or None cs ≡ Some c → g c ≡ later) → ((c : ℕ) → last_or None cs ≢ Some c → g c ≡ f c) → Leads f cs after → Leads g cs later
leads_elsewhere f g [] after later once last others leads = tt
leads_elsewhere f g (c ∷ []) after later once last others leads = (last c refl, tt)
leads_elsewhere f g (c ∷ d ∷ cs) after later once last others leads =
    let inner : last_or None (d ∷ cs) ≢ Some c = λ is. omega (arith, last_named c (d ∷ cs) is, times_here c (d ∷ cs), once c) in
    (others c inner ∙ leads.0, leads_elsewhere f g (d ∷ cs) after later (λ e. omega (arith, times_more e c (d ∷ cs), once e)) last others leads.1)

pub leads_pushed : (f : ℕ → Option ℕ) (cs : List ℕ) (d : ℕ) (after : Option ℕ) → Leads f cs (Some d) → f d ≡ after → Leads f (cs ++ d ∷ []) after
leads_pushed f [] d after leads last = (last, tt)
leads_pushed f (c ∷ []) d after leads last = (leads.0, (last, tt))
leads_pushed f (c ∷ e ∷ cs) d after leads last = (leads.0, leads_pushed f (e ∷ cs) d after leads.1 last)

pub leads_popped : (f : ℕ → Option ℕ) (cs : List ℕ) (d : ℕ) (after : Option ℕ) → Leads f (cs ++ d ∷ []) after → Leads f cs (Some d)
leads_popped f [] d after leads = tt
leads_popped f (c ∷ []) d after leads = (leads.0, tt)
leads_popped f (c ∷ e ∷ cs) d after leads = (leads.0, leads_popped f (e ∷ cs) d after leads.1)

pub follows_pushed : (f : ℕ → Option ℕ) (before : Option ℕ) (cs : List ℕ) (d : ℕ) → Follows f before cs → f d ≡ last_or before cs → Follows f before (cs ++ d ∷ [])
follows_pushed f before [] d follows last = (last, tt)
follows_pushed f before (c ∷ cs) d follows last = (follows.0, follows_pushed f (Some c) cs d follows.1 last)

pub follows_popped : (f : ℕ → Option ℕ) (before : Option ℕ) (cs : List ℕ) (d : ℕ) → Follows f before (cs ++ d ∷ []) → Follows f before cs
follows_popped f before [] d follows = tt
follows_popped f before (c ∷ cs) d follows = (follows.0, follows_popped f (Some c) cs d follows.1)

pub follows_last : (f : ℕ → Option ℕ) (before : Option ℕ) (cs : List ℕ) (d : ℕ) → Follows f before (cs ++ d ∷ []) → f d ≡ last_or before cs
follows_last f before [] d follows = follows.0
follows_last f before (c ∷ cs) d follows = follows_last f (Some c) cs d follows.1

-- a walk over a chain comes to its cells
pub walked : (f : ℕ → Option ℕ) (cs : List ℕ) → Leads f cs None → walk f (length cs) (head_or None cs) ≡ cs
walked f [] leads = refl
walked f (c ∷ cs) leads = rw leads.0 (ap (λ ds. c ∷ ds) (walked f cs leads.1))

pub is_not_none : (o : Option ℕ) → is_some o ≡ true → o ≢ None
is_not_none None is none = absurd (cc)
is_not_none (Some c) is none = absurd (cc)

pub is_none : (o : Option ℕ) → is_some o ≡ false → o ≡ None
is_none None is = refl
is_none (Some c) is = absurd (cc)

pub map_all : {X Y : Type 0} (f g : X → Y) (xs : List X) → ((x : X) → g x ≡ f x) → map g xs ≡ map f xs
map_all f g [] same = refl
map_all f g (x ∷ xs) same = rw (same x, map_all f g xs same) refl

pub map_kept : (f g : ℕ → ℕ) (cs : List ℕ) → ((c : ℕ) → 0 < times_in c cs → g c ≡ f c) → map g cs ≡ map f cs
map_kept f g [] same = refl
map_kept f g (c ∷ cs) same =
    rw (same c (omega (arith, times_here c cs)), map_kept f g cs (λ d some. same d (omega (arith, times_more d c cs)))) refl

-- what stands behind the first cell
pub split_first : (c : ℕ) (cs : List ℕ) → head_or None cs ≡ Some c → (ds : List ℕ) × (cs ≡ c ∷ ds)
split_first c [] is = absurd (cc)
split_first c (d ∷ cs) is = let same : d ≡ c = cc in (cs, ap (λ e. e ∷ cs) same)

-- a list without its newest number, and that number
pub without_pushed : (ts : List ℕ) (t : ℕ) → without_last (ts ++ t ∷ []) ≡ ts
without_pushed ts t =
    let len : length (ts ++ t ∷ []) - 1 ≡ length ts = omega (arith, length_push ts t) in
    ap (λ n. take n (ts ++ t ∷ [])) len ∙ take-append_seam ts (t ∷ [])

pub newest_pushed : (ts : List ℕ) (t : ℕ) → last_of (ts ++ t ∷ []) ≡ Some t
newest_pushed ts t =
    let len : length (ts ++ t ∷ []) - 1 ≡ length ts = omega (arith, length_push ts t) in
    ap (λ n. slice_get (ts ++ t ∷ []) n) len
    ∙ slice_get-get_or (ts ++ t ∷ []) (length ts) t (omega (arith, length_push ts t))
    ∙ ap Some (get_or_push ts t t (length ts) refl)
