-- What the bytes before a fault say of the whole text.
use Rattle.std.proofs.Common.{ℕ, ◌≡◌, ◌<◌, ◌≤◌, List, [], ◌∷◌, ◌++◌, length, Some, refl, sym, ap, ◌∙◌, subst, append_assoc, arith, inl, inr, ⊎_elim}
use Rattle.std.specs.Prelude.{◌==◌}
use Rattle.std.proofs.lemmas.List.{append-nil, length-append}
use Rattle.fj_history.specs.declared.read.TheConstants.{MAX_ENTRY}
use Rattle.fj_streams.specs.Cuts.{cut, lines, rest}
use Rattle.fj_streams.proofs.Lines.{cut-append, left-append, left-uncut, yes_or_no}
use Rattle.fj_check.specs.declared.fault.CheckFault.{CheckFault}
use Rattle.fj_check.specs.declared.fault.CheckFault.TheVariants.{Objection, Line, Limits, Memory, Read}
use Rattle.fj_check.specs.Checks.{FaultMeans, IsBarred, IsChecked, IsFaulty, IsOpenedWrong, IsWrong, StopsCheck}
use Rattle.fj_check.specs.Histories.{IsHistory}
use Rattle.fj_c.specs.Checks.{TextFault}

-- ---- lines of more bytes

abbrev more : List ℕ → List ℕ → List (List ℕ)
more b c = cut (rest b) c

lines_more : (b c : List ℕ) → lines (b ++ c) ≡ lines b ++ more b c
lines_more b c = cut-append [] b c

cut_more : (b c line : List ℕ) (before later : List (List ℕ)) → lines b ≡ before ++ line ∷ later → lines (b ++ c) ≡ before ++ line ∷ (later ++ more b c)
cut_more b c line before later is = lines_more b c ∙ ap (λ ls. ls ++ more b c) is ∙ append_assoc before (line ∷ later) (more b c)

-- the first line begins with what was there before
first_long : (before xs line : List ℕ) (later : List (List ℕ)) → cut before xs ≡ line ∷ later → length before ≤ length line
first_long before [] line later is = absurd cc
first_long before (x ∷ xs) line later is =
    elim (yes_or_no (x == 10)) [
      | inl t ↦
          let here : before ∷ cut [] xs ≡ line ∷ later = rw t at is in
          let same : before ≡ line = cc in omega (arith, ap length same)
      | inr f ↦
          let there : cut (before ++ x ∷ []) xs ≡ line ∷ later = rw f at is in
          let long = first_long (before ++ x ∷ []) xs line later there in
          omega (arith, long, length-append before (x ∷ []))
    ]

-- ---- faults

barred : (n : ℕ) (b c : List ℕ) → IsBarred n b → IsBarred n (b ++ c)
barred n b c at = record {
  before = at.before;
  line = at.line;
  later = at.later ++ more b c;
  pool = at.pool;
  entries = at.entries;
  entry = at.entry;
  cut = cut_more b c at.line at.before at.later at.cut;
  number = at.number;
  good = at.good;
  reads = at.reads;
  barred = at.barred;
}

opened_wrong : (b c : List ℕ) → IsOpenedWrong b → IsOpenedWrong (b ++ c)
opened_wrong b c at = record {
  heading = at.heading;
  others = at.others ++ more b c;
  cut = cut_more b c at.heading [] at.others at.cut;
  outside = at.outside;
}

faulty : (n : ℕ) (b c : List ℕ) → IsFaulty n b (Some c) → IsFaulty n (b ++ c) (Some [])
faulty n b c at = go at.behind at.cut at.wrong
  where
    end : List ℕ → Type 0
    end text = IsFaulty n text (Some [])

    unended : lines b ≡ at.before ++ [] → IsWrong at.before [] (rest b) (Some c) → IsFaulty n (b ++ c) (Some [])
    unended is wrong = ⊎_elim
        (λ long. within is long (more b c) refl)
        (λ over. subst end (sym (ap (λ xs. b ++ xs) over.0 ∙ append-nil b)) (record {
          before = at.before;
          behind = [];
          cut = is;
          number = at.number;
          good = at.good;
          wrong = inr (refl, over.1);
        })) wrong
      where
        within : lines b ≡ at.before ++ [] → MAX_ENTRY < length (rest b) → (ls : List (List ℕ)) → more b c ≡ ls → IsFaulty n (b ++ c) (Some [])
        within is long [] none = record {
          before = at.before;
          behind = [];
          cut = lines_more b c ∙ rw none (append-nil (lines b)) ∙ is;
          number = at.number;
          good = at.good;
          wrong = inl (let whole = ap length (left-append [] b c ∙ left-uncut (rest b) c none) in omega (arith, long, whole, length-append (rest b) c));
        }
        within is long (line ∷ later) some = record {
          before = at.before;
          behind = line ∷ later;
          cut = lines_more b c ∙ ap (λ ls. ls ++ more b c) (is ∙ append-nil at.before) ∙ ap (λ ls. at.before ++ ls) some;
          number = at.number;
          good = at.good;
          wrong = inr (let first = first_long (rest b) c line later some in omega (arith, long, first));
        }

    go : (behind : List (List ℕ)) → lines b ≡ at.before ++ behind → IsWrong at.before behind (rest b) (Some c) → IsFaulty n (b ++ c) (Some [])
    go [] is wrong = unended is wrong
    go (line ∷ later) is wrong = record {
      before = at.before;
      behind = line ∷ (later ++ more b c);
      cut = cut_more b c line at.before later is;
      number = at.number;
      good = at.good;
      wrong = wrong;
    }

-- what a fault says of the bytes that were read it says of the whole text
text_fault : (fault : CheckFault) (b c : List ℕ) → FaultMeans fault b (Some c) → TextFault fault (b ++ c)
text_fault (Line n) b c means = faulty n b c means
text_fault (Objection n why) b c means = barred n b c means
text_fault Limits b c means = opened_wrong b c means
text_fault Memory b c means = tt
text_fault Read b c means = tt

pub whole_fault : (fault : CheckFault) (text read ahead : List ℕ) → read ≡ text → StopsCheck (Some read) (Some ahead) fault → TextFault fault text
whole_fault fault text read ahead is s = subst (TextFault fault) (sym s.1 ∙ is) (text_fault fault s.0 ahead s.2)

pub whole_history : (n : ℕ) (text read ahead : List ℕ) → read ≡ text → IsChecked n (Some read) (Some ahead) → IsHistory text n
whole_history n text read ahead is at = subst (λ xs. IsHistory xs n) (sym (at.read ∙ ap (λ xs. at.bytes ++ xs) at.whole ∙ append-nil at.bytes) ∙ is) at.history
