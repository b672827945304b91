-- What a buffer has found when it stops.
use Rattle.std.specs.Prelude.{◌==◌, if◌then◌else◌, true, false, is_some}
use Rattle.std.proofs.Common.{ℕ, ◌≡◌, ◌≢◌, ◌+◌, ◌<◌, List, [], ◌∷◌, ◌++◌, refl, arith, ◌∙◌, sym, ap, take, drop, length, length-append, append_assoc, ◌⊎◌, inl, inr, Option, None, Some}
use Rattle.std.proofs.lemmas.List.{append-nil, take-append-drop}
use Rattle.std.proofs.Math.Seq.{take-append_seam}
use Rattle.std.specs.Io.KnownBytes.{Appends, Consumes, IsAtEnd, Keeps}
use Rattle.fj_streams.specs.Beginnings.{AppendsSome}
use Rattle.fj_streams.proofs.Bytes.{appends_keeps, appends_twice}
use Rattle.memchr.specs.Find.{NoneBefore, Passes, is_byte}
use Rattle.fj_streams.specs.declared.line_buffer.TheConstants.{LINE_FEED}
use Rattle.fj_streams.specs.declared.fault.FilterFault.{FilterFault}
use Rattle.fj_streams.specs.declared.fault.FilterFault.TheVariants.{Stop, Line}
use Rattle.fj_streams.specs.declared.fault.LineStop.{LineStop}
use Rattle.fj_streams.specs.declared.fault.LineStop.TheVariants as fails
use Rattle.fj_streams.specs.Cuts.{cut, left, lines, rest}
use Rattle.fj_streams.specs.Rules.{Rules, state_from, text_from}
use Rattle.fj_streams.specs.Kept.{Kept}
use Rattle.fj_streams.specs.Faults.{Stands, StopsAtLine, IsLong, IsUnended, LacksHeading, IsGoodSoFar, FaultOf, IsFinished}
use Rattle.fj_streams.specs.Tells.{fault_at}
use Rattle.fj_streams.specs.Buffers.{IsAt, EndsEarly, StopsInLine, IsTooLong, continued}
use Rattle.fj_streams.proofs.Lines.{before_end, cut-append, left-append, left-uncut, three_parts, uncut}
use Rattle.fj_streams.proofs.States.{state_there, some_state, text-line, text-stops}
use Rattle.fj_streams.proofs.Steps.{at_run, text_at}

-- ---- parts of a text

first_part : (a b : Option (List ℕ)) (s u : List ℕ) → Appends a b s → AppendsSome a b (s ++ u)
first_part a b s u p = (length s, rw take-append_seam p)

some_twice : (a b c : Option (List ℕ)) (s t u : List ℕ) → Appends a b s → AppendsSome b c t → AppendsSome a c (s ++ (t ++ u))
some_twice a b c s t u p (k, q) =
    let parts : t ≡ take k t ++ drop k t = sym (take-append-drop k t) in
    let whole : s ++ (t ++ u) ≡ (s ++ take k t) ++ (drop k t ++ u) = ap (λ v. s ++ (v ++ u)) parts ∙ (ap (λ v. s ++ v) (append_assoc (take k t) (drop k t) u) ∙ sym (append_assoc s (take k t) (drop k t ++ u))) in
    rw whole (first_part a c (s ++ take k t) (drop k t ++ u) (appends_twice a b c s (take k t) p q))

nothing_more : (n : Option (List ℕ)) → Appends n n []
nothing_more None = tt
nothing_more (Some x) = sym (append-nil x)

-- where a line of more than so many bytes goes on, it is the first of the lines or what is left
long_or : (most : ℕ) (before xs : List ℕ) → most < length before → (cut before xs ≡ []) ⊎ ((line : List ℕ) × (later : List (List ℕ)) × (cut before xs ≡ line ∷ later) × (most < length line))
long_or most before [] long = inl refl
long_or most before (x ∷ xs) long =
    elim (x == 10) as (λ t. ((if t then (before ∷ cut [] xs) else cut (before ++ x ∷ []) xs) ≡ []) ⊎ ((line : List ℕ) × (later : List (List ℕ)) × ((if t then (before ∷ cut [] xs) else cut (before ++ x ∷ []) xs) ≡ line ∷ later) × (most < length line))) [
      | true ↦ inr (before, cut [] xs, refl, long)
      | false ↦ long_or most (before ++ x ∷ []) xs (simp length-append (omega arith))
    ]

module _ {A S : Type 0} (rules : Rules A S) where
  -- nothing more was written
  wrote_all : (first : A) (b ys : List ℕ) (v : Kept) (a : A) (s n m : Option (List ℕ)) → IsAt rules first b v a s n → text_from rules a (cut (rest b) ys) ≡ [] → Appends n m [] → Appends s m (text_from rules first (lines (b ++ ys)))
  wrote_all first b ys v a s n m at none wrote =
      let whole : text_from rules first (lines (b ++ ys)) ≡ text_from rules first (lines b) ++ [] = text_at rules first b ys a at.leads ∙ ap (λ t. text_from rules first (lines b) ++ t) none in
      rw whole (appends_twice s n m (text_from rules first (lines b)) [] at.written wrote)

  -- the text of a line was not written whole
  stopped : (first : A) (b more : List ℕ) (v : Kept) (a : A) (s n m : Option (List ℕ)) → IsAt rules first b v a s n → is_some (rules.after a v.line) ≡ true → AppendsSome n m (rules.text a v.line) → AppendsSome s m (text_from rules first (lines (b ++ LINE_FEED ∷ more)))
  stopped first b more v a s n m at may some =
      let there = state_there (rules.after a v.line) may in
      let there_too : rules.after a (rest b) ≡ Some there.0 = rw (← at.line) there.1 in
      let said_line : rules.text a v.line ≡ rules.text a (rest b) = rw at.line refl in
      let later : List ℕ = text_from rules there.0 (cut [] more) in
      let tail : text_from rules a (cut (rest b) (LINE_FEED ∷ more)) ≡ rules.text a v.line ++ later = rw said_line (text-line rules a there.0 (rest b) (cut [] more) there_too) in
      let whole : text_from rules first (lines (b ++ LINE_FEED ∷ more)) ≡ text_from rules first (lines b) ++ (rules.text a v.line ++ later) = text_at rules first b (LINE_FEED ∷ more) a at.leads ∙ ap (λ t. text_from rules first (lines b) ++ t) tail in
      rw whole (some_twice s n m (text_from rules first (lines b)) (rules.text a v.line) later at.written some)

  -- ---- a line that may not stand there

  stands : (first : A) (b more : List ℕ) (stop : S) (v : Kept) (a : A) (s n m ahead : Option (List ℕ)) → IsAt rules first b v a s n → rules.after a v.line ≡ None → rules.Stops a v.line stop → Appends n m [] → FaultOf rules first (Stop (v.count + 1) stop) (b ++ LINE_FEED ∷ more) ahead s m
  stands first b more stop v a s n m ahead at barred reason wrote =
      let cuts : lines (b ++ LINE_FEED ∷ more) ≡ lines b ++ rest b ∷ cut [] more = cut-append [] b (LINE_FEED ∷ more) in
      let barred_too : rules.after a (rest b) ≡ None = rw (← at.line) barred in
      let none : text_from rules a (cut (rest b) (LINE_FEED ∷ more)) ≡ [] = text-stops rules a (rest b) (cut [] more) barred_too in
      let here : Stands rules first (v.count + 1) stop (b ++ LINE_FEED ∷ more) = record {
        before = lines b;
        line = rest b;
        later = cut [] more;
        state = a;
        cut = cuts;
        number = ap (λ i. i + 1) at.count;
        good = at.leads;
        barred = barred_too;
        reason = rw at.line at reason;
      } in
      (here, wrote_all first b (LINE_FEED ∷ more) v a s n m at none wrote)

  -- ---- a line that is too long

  module _ (too_long : (a : A) (l : List ℕ) → rules.longest < length l → rules.after a l ≡ None) where
    long_whole : (first : A) (b more line : List ℕ) (later : List (List ℕ)) (v : Kept) (a : A) (s n m ahead : Option (List ℕ)) → IsAt rules first b v a s n → cut (rest b) more ≡ line ∷ later → rules.longest < length line → Appends n m [] → FaultOf rules first (Line (v.count + 1)) (b ++ more) ahead s m
    long_whole first b more line later v a s n m ahead at one long wrote =
        let cuts : lines (b ++ more) ≡ lines b ++ line ∷ later = cut-append [] b more ∙ ap (λ ls. lines b ++ ls) one in
        let none : text_from rules a (cut (rest b) more) ≡ [] = rw one (text-stops rules a line later (too_long a line long)) in
        let here : IsLong rules first (v.count + 1) (b ++ more) = record {
          before = lines b;
          line = line;
          later = later;
          state = a;
          cut = cuts;
          number = ap (λ i. i + 1) at.count;
          good = at.leads;
          long = long;
        } in
        (inl here, wrote_all first b more v a s n m at none wrote)

    unended : (first : A) (b more : List ℕ) (v : Kept) (a : A) (s n m ahead : Option (List ℕ)) → IsAt rules first b v a s n → cut (rest b) more ≡ [] → rules.longest < length (left (rest b) more) → Appends n m [] → FaultOf rules first (Line (v.count + 1)) (b ++ more) ahead s m
    unended first b more v a s n m ahead at none long wrote =
        let cuts : lines (b ++ more) ≡ lines b = cut-append [] b more ∙ (ap (λ ls. lines b ++ ls) none ∙ append-nil (lines b)) in
        let quiet : text_from rules a (cut (rest b) more) ≡ [] = rw none refl in
        let open_line : IsUnended rules first (v.count + 1) (b ++ more) = record {
          number = rw cuts (ap (λ i. i + 1) at.count);
          good = rw cuts (some_state (state_from rules first (lines b)) a at.leads);
        } in
        (inr (open_line, inl (rw (left-append [] b more) long)), wrote_all first b more v a s n m at quiet wrote)

    -- these bytes make the line too long, whatever follows them
    long_line : (first : A) (b xs more : List ℕ) (v : Kept) (a : A) (s n m ahead : Option (List ℕ)) → IsAt rules first b v a s n → lines xs ≡ [] → v.longest < length v.line + length xs → Appends n m [] → FaultOf rules first (Line (v.count + 1)) (b ++ (xs ++ more)) ahead s m
    long_line first b xs more v a s n m ahead at none much wrote =
        let here : cut (rest b) xs ≡ [] = uncut [] (rest b) xs none in
        let far : left (rest b) xs ≡ rest b ++ xs = left-uncut (rest b) xs here in
        let same : length v.line ≡ length (rest b) = ap length at.line in
        let bound : v.longest ≡ rules.longest = at.longest in
        let long : rules.longest < length (rest b ++ xs) = simp length-append (omega arith) in
        let on : cut (rest b) (xs ++ more) ≡ cut (rest b ++ xs) more = cut-append (rest b) xs more ∙ rw (here, far) refl in
        let on_left : left (rest b) (xs ++ more) ≡ left (rest b ++ xs) more = left-append (rest b) xs more ∙ rw far refl in
        elim (long_or rules.longest (rest b ++ xs) more long) [
          | inl none_after ↦
              let longer : rules.longest < length (left (rest b) (xs ++ more)) = rw (on_left, left-uncut (rest b ++ xs) more none_after, length-append) (omega arith) in
              unended first b (xs ++ more) v a s n m ahead at (on ∙ none_after) longer wrote
          | inr l ↦ long_whole first b (xs ++ more) l.0 l.1 v a s n m ahead at (on ∙ l.2) l.3 wrote
        ]

    -- ---- all faults

    at_end_of_line : (first : A) (why : LineStop S) (b more : List ℕ) (v : Kept) (a : A) (s n m ahead : Option (List ℕ)) → IsAt rules first b v a s n → StopsAtLine rules a v.line why n m → FaultOf rules first (fault_at (v.count + 1) why) (b ++ LINE_FEED ∷ more) ahead s m
    at_end_of_line first (fails.Stop stop) b more v a s n m ahead at p = stands first b more stop v a s n m ahead at p.0 p.1 p.2
    at_end_of_line first fails.Memory b more v a s n m ahead at p = stopped first b more v a s n m at p.0 p.1
    at_end_of_line first fails.Write b more v a s n m ahead at p = stopped first b more v a s n m at p.0 p.1

    -- a fault in a line that ends behind these bytes, whatever follows it
    fault_in_line : (first : A) (f : FilterFault S) (b xs more : List ℕ) (v : Kept) (a : A) (s n m ahead : Option (List ℕ)) → IsAt rules first b v a s n → lines xs ≡ [] → StopsInLine rules v a xs f n m → FaultOf rules first f (b ++ (xs ++ LINE_FEED ∷ more)) ahead s m
    fault_in_line first f b xs more v a s n m ahead at none (inl (long, wrote)) = rw long.0 (long_line first b xs (LINE_FEED ∷ more) v a s n m ahead at none long.1 wrote)
    fault_in_line first f b xs more v a s n m ahead at none (inr (few, why)) =
        rw (why.1, ← append_assoc b xs (LINE_FEED ∷ more)) (at_end_of_line first why.0 (b ++ xs) more (continued v xs) a s n m ahead (at_run rules first b xs v (continued v xs) a s n at none few refl) why.2)

    -- a fault within a line
    fault_in_run : (first : A) (f : FilterFault S) (b xs : List ℕ) (v : Kept) (a : A) (s n ahead : Option (List ℕ)) → IsAt rules first b v a s n → lines xs ≡ [] → IsTooLong v (length xs) f → FaultOf rules first f (b ++ xs) ahead s n
    fault_in_run first f b xs v a s n ahead at none long =
        rw (long.0, ← append-nil xs) (long_line first b xs [] v a s n n ahead at none long.1 (nothing_more n))

    -- the same behind bytes that are taken
    pub fault_next : (first : A) (f : FilterFault S) (b all taken xs : List ℕ) (k : ℕ) (v : Kept) (a : A) (s n m ahead : Option (List ℕ)) → all ≡ taken ++ xs → NoneBefore (Passes (is_byte LINE_FEED) xs) 0 (length xs) k → Passes (is_byte LINE_FEED) xs k → IsAt rules first (b ++ taken) v a s n → StopsInLine rules v a (take k xs) f n m → FaultOf rules first f (b ++ all) ahead s m
    fault_next first f b all taken xs k v a s n m ahead whole none ends at p =
        let parts : b ++ all ≡ (b ++ taken) ++ (take k xs ++ LINE_FEED ∷ drop (k + 1) xs) = ap (λ t. b ++ t) (whole ∙ ap (λ t. taken ++ t) (three_parts xs k none.high ends)) ∙ sym (append_assoc b taken (take k xs ++ LINE_FEED ∷ drop (k + 1) xs)) in
        rw parts (fault_in_line first f (b ++ taken) (take k xs) (drop (k + 1) xs) v a s n m ahead at (before_end xs k none) p)

    pub fault_in_rest : (first : A) (f : FilterFault S) (b all taken xs : List ℕ) (v : Kept) (a : A) (s n ahead : Option (List ℕ)) → all ≡ taken ++ xs → lines xs ≡ [] → IsAt rules first (b ++ taken) v a s n → IsTooLong v (length xs) f → FaultOf rules first f (b ++ all) ahead s n
    fault_in_rest first f b all taken xs v a s n ahead whole none at long = rw (whole, ← append_assoc b taken xs) (fault_in_run first f (b ++ taken) xs v a s n ahead at none long)

  -- ---- the end of the input

  -- the input ends within a line, or before the heading
  pub ended : (first : A) (f : FilterFault S) (b : List ℕ) (v : Kept) (a : A) (s n ahead : Option (List ℕ)) → EndsEarly rules v a f → IsAt rules first b v a s n → IsAtEnd ahead → FaultOf rules first f b ahead s n
  ended first f b v a s n ahead early at ends =
      let open_line : IsUnended rules first (v.count + 1) b = record { number = ap (λ i. i + 1) at.count; good = some_state (state_from rules first (lines b)) a at.leads } in
      let over : (rest b ≢ []) ⊎ LacksHeading rules first b = elim early.1 [
        | inl some ↦ inl (λ e. some (at.line ∙ e))
        | inr headless ↦ inr (a, at.leads, headless)
      ] in
      rw early.0 (inr (open_line, inr (ends, over)), at.written)

  -- the input is whole
  pub finished : (first : A) (b : List ℕ) (v : Kept) (a : A) (before ahead s n : Option (List ℕ)) → Consumes before ahead b → IsAtEnd ahead → IsAt rules first b v a s n → v.line ≡ [] → rules.has_heading a ≡ true → IsFinished rules first a b before ahead s n
  finished first b v a before ahead s n read ends at none headed = record {
    read = read;
    whole = ends;
    input = record { good = at.leads; headed = headed; ended = sym at.line ∙ none };
    written = at.written;
  }

  -- what is kept is of good bytes
  pub good_at : (first : A) (b : List ℕ) (v : Kept) (a : A) (start now : Option (List ℕ)) → IsAt rules first b v a start now → IsGoodSoFar rules first b
  good_at first b v a start now at = record {
    good = some_state (state_from rules first (lines b)) a at.leads;
    short = rw (← at.line, ← at.longest) at.short;
  }

  -- a flush changes nothing of it
  pub flushed_at : (first : A) (b : List ℕ) (v : Kept) (a : A) (start now after : Option (List ℕ)) → IsAt rules first b v a start now → Keeps now after → IsAt rules first b v a start after
  flushed_at first b v a start now after at kept = record { count = at.count; line = at.line; short = at.short; longest = at.longest; leads = at.leads; written = appends_keeps start now after (text_from rules first (lines b)) at.written kept }
