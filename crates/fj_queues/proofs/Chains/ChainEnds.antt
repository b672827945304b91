-- A chain gains a cell at its new end, or loses the one at either end.
use Rattle.fj_queues.specs.declared.cells.Cell.{Cell}
use Rattle.fj_queues.specs.declared.ends.Ends.{Ends}
use Rattle.fj_queues.specs.Cells.{older_at, newer_at, AreJoined}
use Rattle.fj_queues.specs.Chains.{head_or, last_or, Leads, Follows, IsQueue, IsAppended, LosesFirst, LosesLast}
use Rattle.fj_queues.proofs.Chains.Links.{times_here, times_more, times_at_end, head_named, last_named, last_found, split_last, last_pushed, leads_kept, follows_kept, leads_elsewhere, leads_pushed, leads_popped, follows_pushed, follows_popped, follows_last}
use Rattle.fj_rules.specs.Lists.{times_in}
use Rattle.std.specs.Prelude.{IfSome}
use Rattle.std.proofs.Common.{arith, ◌+◌, ◌-◌, ℕ, ◌≡◌, ◌≢◌, ◌<◌, ◌≤◌, List, [], ◌∷◌, ◌++◌, length, Option, Some, None, ap, subst, sym, ◌∙◌, refl, length-append}

pub appended : (old new : List Cell) (before after : Ends) (n : ℕ) → newer_at old n ≡ None → AreJoined old new before.newest (Some n)
    → after.newest ≡ Some n → after.len ≡ before.len + 1 → (before.len ≡ 0 → after.oldest ≡ Some n) → (before.len ≢ 0 → after.oldest ≡ before.oldest)
    → IsAppended old new before after n
appended old new before after n alone joined newest len empty filled cs chain apart fresh =
    let is_last : (c : ℕ) → before.newest ≡ Some c → last_or None cs ≡ Some c = λ c is. sym chain.newest ∙ is in
    let other : (c : ℕ) → times_in c cs ≡ 0 → before.newest ≢ Some c = λ c none is. omega (arith, last_named c cs (is_last c is)) in
    let leads = leads_elsewhere (newer_at old) (newer_at new) cs None (Some n) apart.once (λ c is. joined.leads c (chain.newest ∙ is)) (λ c no. joined.newer_stays c (λ is. no (is_last c is))) chain.leads in
    let follows = follows_kept (older_at old) (older_at new) None cs (λ c some. joined.older_stays c (λ is. let same : n ≡ c = cc in omega (arith, ap (λ d. times_in d cs) same))) chain.follows in (
      record {
        oldest = first cs chain.oldest chain.counted;
        newest = newest ∙ sym (last_pushed None cs n);
        counted = omega (arith, len, chain.counted, length-append cs (n ∷ []));
        leads = leads_pushed (newer_at new) cs n None leads (joined.newer_stays n (other n fresh) ∙ alone);
        follows = follows_pushed (older_at new) None cs n follows (joined.follows n refl ∙ chain.newest);
      },
      record {
        newer_stays = λ c none. joined.newer_stays c (other c (omega (arith, times_at_end c n cs)));
        older_stays = λ c none. joined.older_stays c (λ is. let same : n ≡ c = cc in omega (arith, times_at_end c n cs, times_here c [], ap (λ d. times_in c (d ∷ [])) same));
        serials_stay = joined.serials_stay;
      },
    )
  where
    first : (cs : List ℕ) → before.oldest ≡ head_or None cs → before.len ≡ length cs → after.oldest ≡ head_or None (cs ++ n ∷ [])
    first [] oldest counted = empty counted
    first (c ∷ cs) oldest counted = filled (omega arith) ∙ oldest

pub first_lost : (old new : List Cell) (before after : Ends) (n : ℕ) (newer : Option ℕ) → newer ≡ newer_at old n → AreJoined old new None (newer)
    → after.oldest ≡ newer → after.len ≡ before.len - 1 → (newer ≡ None → after.newest ≡ None) → (newer ≢ None → after.newest ≡ before.newest)
    → LosesFirst old new before after n
first_lost old new before after n newer read joined oldest len empty filled cs chain apart =
    let second : newer ≡ head_or None cs = read ∙ chain.leads.0 in (
      record {
        oldest = oldest ∙ second;
        newest = last cs second chain.newest;
        counted = omega (arith, len, chain.counted);
        leads = leads_kept (newer_at old) (newer_at new) cs None (λ c some. joined.newer_stays c (λ is. absurd (cc))) chain.leads.1;
        follows = others cs second chain.follows.1 (λ c. omega (arith, apart.once c, times_more c n cs));
      },
      record {
        newer_stays = λ c none. joined.newer_stays c (λ is. absurd (cc));
        older_stays = λ c none. joined.older_stays c (λ is. omega (arith, times_more c n cs, head_named c cs (sym second ∙ is)));
        serials_stay = joined.serials_stay;
      },
    )
  where
    last : (cs : List ℕ) → newer ≡ head_or None cs → before.newest ≡ last_or (Some n) cs → after.newest ≡ last_or None cs
    last [] second newest = empty second
    last (d ∷ ds) second newest = filled (λ none. absurd (cc)) ∙ newest

    others : (cs : List ℕ) → newer ≡ head_or None cs → Follows (older_at old) (Some n) cs → ((c : ℕ) → times_in c cs ≤ 1) → Follows (older_at new) None cs
    others [] second follows once = tt
    others (d ∷ ds) second follows once = (
      joined.follows d second,
      follows_kept (older_at old) (older_at new) (Some d) ds (λ c some. joined.older_stays c (λ is. let same : d ≡ c = cc in omega (arith, once c, times_here c ds, ap (λ e. times_in c (e ∷ ds)) same))) follows.1,
    )

pub last_lost : (old new : List Cell) (before after : Ends) (n : ℕ) (older : Option ℕ) → older ≡ older_at old n → AreJoined old new (older) None
    → after.newest ≡ older → after.len ≡ before.len - 1 → (older ≡ None → after.oldest ≡ None) → (older ≢ None → after.oldest ≡ before.oldest)
    → LosesLast old new before after n
last_lost old new before after n older read joined newest len empty filled cs chain apart =
    let prior : older ≡ last_or None cs = read ∙ follows_last (older_at old) None cs n chain.follows in
    let once : (c : ℕ) → times_in c cs ≤ 1 = λ c. omega (arith, apart.once c, times_at_end c n cs) in (
      record {
        oldest = first cs prior chain.oldest;
        newest = newest ∙ prior;
        counted = omega (arith, len, chain.counted, length-append cs (n ∷ []));
        leads = leads_elsewhere (newer_at old) (newer_at new) cs (Some n) None once (λ c is. joined.leads c (prior ∙ is)) (λ c no. joined.newer_stays c (λ is. no (sym prior ∙ is))) (leads_popped (newer_at old) cs n None chain.leads);
        follows = follows_kept (older_at old) (older_at new) None cs (λ c some. joined.older_stays c (λ is. absurd (cc))) (follows_popped (older_at old) None cs n chain.follows);
      },
      record {
        newer_stays = λ c none. joined.newer_stays c (λ is. omega (arith, times_at_end c n cs, last_named c cs (sym prior ∙ is)));
        older_stays = λ c none. joined.older_stays c (λ is. absurd (cc));
        serials_stay = joined.serials_stay;
      },
    )
  where
    first : (cs : List ℕ) → older ≡ last_or None cs → before.oldest ≡ head_or None (cs ++ n ∷ []) → after.oldest ≡ head_or None cs
    first [] prior oldest = empty prior
    first (d ∷ ds) prior oldest = filled (λ none. last_found d ds (sym prior ∙ none)) ∙ oldest

pub within_some : (cells : List Cell) (ends : Ends) (queue : IsQueue cells ends) (end : Option ℕ) → ((c : ℕ) → end ≡ Some c → 0 < times_in c queue.chain) → IfSome end (λ c. c < length cells)
within_some cells ends queue end named = go end refl
  where
    go : (e : Option ℕ) → end ≡ e → IfSome e (λ c. c < length cells)
    go None is = tt
    go (Some c) is = queue.apart.within c (named c is)

pub newest_within : (cells : List Cell) (ends : Ends) → IsQueue cells ends → IfSome ends.newest (λ c. c < length cells)
newest_within cells ends queue = within_some cells ends queue ends.newest (λ c is. last_named c queue.chain (sym queue.linked.newest ∙ is))

pub newest_named : (cells : List Cell) (ends : Ends) (queue : IsQueue cells ends) (n : ℕ) → ends.newest ≡ Some n → n < length cells
newest_named cells ends queue n is = queue.apart.within n (last_named n queue.chain (sym queue.linked.newest ∙ is))

pub oldest_named : (cells : List Cell) (ends : Ends) (queue : IsQueue cells ends) (n : ℕ) → ends.oldest ≡ Some n → n < length cells
oldest_named cells ends queue n is = queue.apart.within n (head_named n queue.chain (sym queue.linked.oldest ∙ is))

-- the neighbour of the cell at an end is in the table
pub newer_within : (cells : List Cell) (ends : Ends) (queue : IsQueue cells ends) (n : ℕ) (newer : Option ℕ) → ends.oldest ≡ Some n → newer ≡ newer_at cells n → IfSome newer (λ c. c < length cells)
newer_within cells ends queue n newer is read = within_some cells ends queue newer (λ c next. go queue.chain (sym queue.linked.oldest ∙ is) queue.linked.leads c next)
  where
    go : (cs : List ℕ) → head_or None cs ≡ Some n → Leads (newer_at cells) cs None → (c : ℕ) → newer ≡ Some c → 0 < times_in c cs
    go [] first leads c next = absurd (cc)
    go (d ∷ ds) first leads c next =
        let same : n ≡ d = cc in
        omega (arith, times_more c d ds, head_named c ds (sym (read ∙ ap (newer_at cells) same ∙ leads.0) ∙ next))

pub older_within : (cells : List Cell) (ends : Ends) (queue : IsQueue cells ends) (n : ℕ) (older : Option ℕ) → ends.newest ≡ Some n → older ≡ older_at cells n → IfSome older (λ c. c < length cells)
older_within cells ends queue n older is read =
    let split = split_last n queue.chain (sym queue.linked.newest ∙ is) in
    let prior : older ≡ last_or None split.0 = read ∙ follows_last (older_at cells) None split.0 n (subst (λ cs. Follows (older_at cells) None cs) split.1 queue.linked.follows) in
    within_some cells ends queue older (λ c next. omega (arith, ap (times_in c) split.1, times_at_end c n split.0, last_named c split.0 (sym prior ∙ next)))
