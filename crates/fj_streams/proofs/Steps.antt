-- A buffer that takes more bytes, and a line more.
use Rattle.std.proofs.Common.{ℕ, ◌≡◌, ◌+◌, ◌≤◌, List, [], ◌∷◌, ◌++◌, refl, ◌∙◌, sym, ap, arith, take, length, length-append, append_assoc, Option, Some}
use Rattle.std.proofs.lemmas.List.{append-nil}
use Rattle.std.specs.Io.KnownBytes.{Appends}
use Rattle.fj_streams.proofs.Bytes.{appends_twice}
use Rattle.memchr.specs.Find.{NoneBefore, Passes, is_byte}
use Rattle.fj_streams.specs.declared.line_buffer.TheConstants.{LINE_FEED}
use Rattle.fj_streams.specs.Cuts.{cut, lines, rest}
use Rattle.fj_streams.specs.Rules.{Rules, state_from, text_from}
use Rattle.fj_streams.specs.Kept.{Kept}
use Rattle.fj_streams.specs.Buffers.{IsAt, continued, after_line}
use Rattle.fj_streams.proofs.Lines.{before_end, cut-append, left-append, left-uncut, uncut}
use Rattle.fj_streams.proofs.States.{state-snoc, text-append, text-line}

module _ {A S : Type 0} (rules : Rules A S) where
  -- the text of more bytes, behind good ones
  pub text_at : (first : A) (b ys : List ℕ) (a : A) → state_from rules first (lines b) ≡ Some a → text_from rules first (lines (b ++ ys)) ≡ text_from rules first (lines b) ++ text_from rules a (cut (rest b) ys)
  text_at first b ys a good = rw (cut-append [] b ys) (text-append rules first a (lines b) (cut (rest b) ys) good)

  -- more bytes, in which no line ends
  pub at_run : (first : A) (b xs : List ℕ) (v w : Kept) (a : A) (s n : Option (List ℕ)) → IsAt rules first b v a s n → lines xs ≡ [] → length v.line + length xs ≤ v.longest → w ≡ continued v xs → IsAt rules first (b ++ xs) w a s n
  at_run first b xs v w a s n at none few next =
      let here : cut (rest b) xs ≡ [] = uncut [] (rest b) xs none in
      let cuts : lines (b ++ xs) ≡ lines b = cut-append [] b xs ∙ (ap (λ ls. lines b ++ ls) here ∙ append-nil (lines b)) in
      let rests : rest (b ++ xs) ≡ rest b ++ xs = left-append [] b xs ∙ left-uncut (rest b) xs here in
      let longer : w.line ≡ v.line ++ xs = ap (λ k. k.line) next in
      let same : w.longest ≡ v.longest = ap (λ k. k.longest) next in
      record {
        count = ap (λ k. k.count) next ∙ rw cuts at.count;
        line = longer ∙ (ap (λ l. l ++ xs) at.line ∙ sym rests);
        short = rw (longer, same, length-append) few;
        longest = same ∙ at.longest;
        leads = rw cuts at.leads;
        written = rw cuts at.written;
      }

  at_end : (first : A) (b : List ℕ) (v w : Kept) (a u : A) (s n m : Option (List ℕ)) → IsAt rules first b v a s n → w ≡ after_line v → Appends n m (rules.text a v.line) → rules.after a v.line ≡ Some u → IsAt rules first (b ++ LINE_FEED ∷ []) w u s m
  at_end first b v w a u s n m at next wrote there =
      let cuts : lines (b ++ LINE_FEED ∷ []) ≡ lines b ++ rest b ∷ [] = cut-append [] b (LINE_FEED ∷ []) in
      let none : rest (b ++ LINE_FEED ∷ []) ≡ [] = left-append [] b (LINE_FEED ∷ []) in
      let empty : w.line ≡ [] = ap (λ k. k.line) next in
      let there_too : rules.after a (rest b) ≡ Some u = rw (← at.line) there in
      let tail : text_from rules a (cut (rest b) (LINE_FEED ∷ [])) ≡ rules.text a (rest b) = text-line rules a u (rest b) [] there_too ∙ append-nil (rules.text a (rest b)) in
      let whole : text_from rules first (lines (b ++ LINE_FEED ∷ [])) ≡ text_from rules first (lines b) ++ rules.text a (rest b) = text_at first b (LINE_FEED ∷ []) a at.leads ∙ ap (λ t. text_from rules first (lines b) ++ t) tail in
      let here : rules.text a v.line ≡ rules.text a (rest b) = rw at.line refl in
      record {
        count = ap (λ k. k.count) next ∙ (ap (λ k. k + 1) at.count ∙ (rw (cuts, length-append) refl));
        line = empty ∙ sym none;
        short = rw empty (omega arith);
        longest = ap (λ k. k.longest) next ∙ at.longest;
        leads = rw cuts (state-snoc rules first a u (lines b) (rest b) at.leads there_too);
        written = rw whole (appends_twice s n m (text_from rules first (lines b)) (rules.text a (rest b)) at.written (rw here at wrote));
      }

  -- the last bytes of a line, and its end
  pub at_line : (first : A) (b xs : List ℕ) (v w : Kept) (a u : A) (s n m : Option (List ℕ)) → IsAt rules first b v a s n → lines xs ≡ [] → length v.line + length xs ≤ v.longest → rules.after a (v.line ++ xs) ≡ Some u → w ≡ after_line v → Appends n m (rules.text a (v.line ++ xs)) → IsAt rules first (b ++ (xs ++ LINE_FEED ∷ [])) w u s m
  at_line first b xs v w a u s n m at none few may next wrote =
      rw (← append_assoc b xs (LINE_FEED ∷ [])) (at_end first (b ++ xs) (continued v xs) w a u s n m (at_run first b xs v (continued v xs) a s n at none few refl) next wrote may)

  -- the same behind bytes that are taken
  pub at_next : (first : A) (b taken xs : List ℕ) (k : ℕ) (v w : Kept) (a u : A) (s n m : Option (List ℕ)) → NoneBefore (Passes (is_byte LINE_FEED) xs) 0 (length xs) k → IsAt rules first (b ++ taken) v a s n → length v.line + length (take k xs) ≤ v.longest → rules.after a (v.line ++ take k xs) ≡ Some u → w ≡ after_line v → Appends n m (rules.text a (v.line ++ take k xs)) → IsAt rules first (b ++ (taken ++ (take k xs ++ LINE_FEED ∷ []))) w u s m
  at_next first b taken xs k v w a u s n m none at few may next wrote =
      rw (← append_assoc b taken (take k xs ++ LINE_FEED ∷ [])) (at_line first (b ++ taken) (take k xs) v w a u s n m at (before_end xs k none) few may next wrote)

  -- the rest of bytes, in which no line ends
  pub at_rest : (first : A) (b all taken xs : List ℕ) (v w : Kept) (a : A) (s n : Option (List ℕ)) → all ≡ taken ++ xs → lines xs ≡ [] → IsAt rules first (b ++ taken) v a s n → length v.line + length xs ≤ v.longest → w ≡ continued v xs → IsAt rules first (b ++ all) w a s n
  at_rest first b all taken xs v w a s n whole none at few next = rw (whole, ← append_assoc b taken xs) (at_run first (b ++ taken) xs v w a s n at none few next)

-- a line more is no more than its bytes
pub counted : (v w : Kept) (first : ℕ) (taken xs : List ℕ) → w ≡ after_line v → v.count ≤ first + length taken → w.count ≤ first + length (taken ++ (xs ++ LINE_FEED ∷ []))
counted v w first taken xs next few =
    let one : w.count ≡ v.count + 1 = ap (λ k. k.count) next in
    let more : length (taken ++ (xs ++ LINE_FEED ∷ [])) ≡ length taken + (length xs + 1) = rw (length-append, length-append) refl in
    omega arith
