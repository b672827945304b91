-- Where memory ran out, behind good bytes.
use Rattle.std.proofs.Common.{ℕ, ◌≡◌, ◌+◌, ◌≤◌, List, [], ◌∷◌, ◌++◌, refl, ◌∙◌, sym, ap, take, drop, length, append_assoc, inr, Option}
use Rattle.std.proofs.lemmas.List.{append-nil}
use Rattle.std.specs.Io.KnownBytes.{Appends, Consumes}
use Rattle.fj_streams.proofs.Bytes.{appends_twice}
use Rattle.memchr.specs.Find.{NoneBefore, Passes, is_byte}
use Rattle.fj_streams.specs.declared.line_buffer.TheConstants.{LINE_FEED}
use Rattle.fj_streams.specs.declared.fault.FilterFault.{FilterFault}
use Rattle.fj_streams.specs.declared.fault.FilterFault.TheVariants.{Stop, Line, Memory, Read, Write}
use Rattle.fj_streams.specs.Cuts.{cut, lines, rest}
use Rattle.fj_streams.specs.Rules.{Rules, text_from}
use Rattle.fj_streams.specs.Kept.{Kept}
use Rattle.fj_streams.specs.Starving.{IsStarved, Starves, StarvesFrom}
use Rattle.fj_streams.specs.Buffers.{IsAt, IsTooLong, StarvesAt, StarvesInLine, continued}
use Rattle.fj_streams.proofs.Lines.{before_end, cut-append, three_parts}
use Rattle.fj_streams.proofs.Steps.{at_run}

-- at a line that ends behind these bytes, and is not too long
pub starves_behind : {A S : Type 0} (Needs : A → List ℕ → Type 0) (f : FilterFault S) (v : Kept) (a : A) (xs line : List ℕ) (n m : Option (List ℕ)) → line ≡ v.line ++ xs → length v.line + length xs ≤ v.longest → StarvesAt Needs a line f n m → StarvesInLine Needs v a xs f n m
starves_behind Needs (Stop k stop) v a xs line n m e few p = tt
starves_behind Needs (Line k) v a xs line n m e few p = tt
starves_behind Needs Memory v a xs line n m e few p = (few, rw e at p.0, p.1)
starves_behind Needs Read v a xs line n m e few p = tt
starves_behind Needs Write v a xs line n m e few p = tt

module _ {A S : Type 0} (rules : Rules A S) (Needs : A → List ℕ → Type 0) where
  -- at a line that ends here
  starved_at : (first : A) (b more : List ℕ) (v : Kept) (a : A) (s n m : Option (List ℕ)) → IsAt rules first b v a s n → Needs a v.line → Appends n m [] → IsStarved rules Needs first (b ++ LINE_FEED ∷ more) s m
  starved_at first b more v a s n m at needs wrote = record {
    before = lines b;
    line = rest b;
    later = cut [] more;
    state = a;
    cut = cut-append [] b (LINE_FEED ∷ more);
    good = at.leads;
    needs = rw at.line at needs;
    written = rw append-nil at (appends_twice s n m (text_from rules first (lines b)) [] at.written wrote);
  }

  -- at a line that ends behind these bytes, whatever follows it
  starves_line : (first : A) (f : FilterFault S) (b xs more : List ℕ) (v : Kept) (a : A) (s n m : Option (List ℕ)) → IsAt rules first b v a s n → lines xs ≡ [] → StarvesInLine Needs v a xs f n m → Starves rules Needs first f (b ++ (xs ++ LINE_FEED ∷ more)) s m
  starves_line first (Stop k stop) b xs more v a s n m at none p = tt
  starves_line first (Line k) b xs more v a s n m at none p = tt
  starves_line first Memory b xs more v a s n m at none p =
      rw (← append_assoc b xs (LINE_FEED ∷ more)) (starved_at first (b ++ xs) more (continued v xs) a s n m (at_run rules first b xs v (continued v xs) a s n at none p.0 refl) p.1 p.2)
  starves_line first Read b xs more v a s n m at none p = tt
  starves_line first Write b xs more v a s n m at none p = tt

  -- the same behind bytes that are taken
  pub starves_next : (first : A) (f : FilterFault S) (b all taken xs : List ℕ) (k : ℕ) (v : Kept) (a : A) (s n m : Option (List ℕ)) → all ≡ taken ++ xs → NoneBefore (Passes (is_byte LINE_FEED) xs) 0 (length xs) k → Passes (is_byte LINE_FEED) xs k → IsAt rules first (b ++ taken) v a s n → StarvesInLine Needs v a (take k xs) f n m → Starves rules Needs first f (b ++ all) s m
  starves_next first f b all taken xs k v a s n m whole none ends at p =
      let parts : b ++ all ≡ (b ++ taken) ++ (take k xs ++ LINE_FEED ∷ drop (k + 1) xs) = ap (λ t. b ++ t) (whole ∙ ap (λ t. taken ++ t) (three_parts xs k none.high ends)) ∙ sym (append_assoc b taken (take k xs ++ LINE_FEED ∷ drop (k + 1) xs)) in
      rw parts (starves_line first f (b ++ taken) (take k xs) (drop (k + 1) xs) v a s n m at (before_end xs k none) p)

  -- a line that is too long needs none
  pub starves_in_rest : (first : A) (f : FilterFault S) (b : List ℕ) (v : Kept) (more : ℕ) (s m : Option (List ℕ)) → IsTooLong v more f → Starves rules Needs first f b s m
  starves_in_rest first f b v more s m long = rw long.0 tt

  -- some bytes were read, and memory ran out in them
  pub starves_from : (first : A) (f : FilterFault S) (b : List ℕ) (before ahead s m : Option (List ℕ)) → Consumes before ahead b → Starves rules Needs first f b s m → StarvesFrom rules Needs first f before ahead s m
  starves_from first (Stop k stop) b before ahead s m read p = tt
  starves_from first (Line k) b before ahead s m read p = tt
  starves_from first Memory b before ahead s m read p = (b, read, inr p)
  starves_from first Read b before ahead s m read p = tt
  starves_from first Write b before ahead s m read p = tt
