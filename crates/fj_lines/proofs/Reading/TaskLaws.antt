-- What stands in a line where a task stands.
use Rattle.std.proofs.Common.{◌≡◌, ℕ, ◌+◌, ◌≤◌, ◌^◌, ◌<◌, Bool, true, false, List, [], ◌∷◌, ◌++◌, length, Option, Some, None, refl, sym, ap, subst, ◌∙◌, arith}
use Rattle.std.specs.Prelude.{codes, IfSome}
use Rattle.std.specs.Fmt.{decimal}
use Rattle.std.specs.List.{list_all}
use Rattle.std.specs.Str.{bytes_eq}
use Rattle.fj_lines.specs.declared.line.ForkedKind.{ForkedKind}
use Rattle.fj_lines.specs.declared.line.ForkedKind.TheVariants as forked
use Rattle.fj_lines.specs.Names.{IsName}
use Rattle.fj_lines.specs.Words.{◌>>=◌, number_in, is_last, if_last, one_number}
use Rattle.fj_lines.specs.Tasks.{TaskWords, numbers, names}
use Rattle.fj_lines.specs.Lines.{relay_word, word_or_dash, forked_words, HasSmallForked}
use Rattle.fj_lines.specs.Readings.Tasks.{TaskReader, name_in, task_first, numbers_read, names_read, one_task, worker_task_number}
use Rattle.fj_lines.specs.Readings.Accept.{parent_said, count_and_relay, forked_said}
use Rattle.fj_lines.proofs.Reading.NumberLaws.{number_text, number_found, number_again, no_number_other}
use Rattle.fj_lines.proofs.Reading.WordLaws.{is_word, lengths, number_is_word}
use Rattle.fj_lines.proofs.Reading.PartLaws.{some_is, number_then, word_then, last_then, some_then, chosen, is_text}
use Rattle.fj_lines.proofs.Reading.FormLaws.{none_left, one_then, one_again}
use Rattle.fj_lines.proofs.Reading.KindLaws.{count_then, count_again, count_are_words}
use Rattle.fj_lines.proofs.Reading.NameLaws.{name_found, name_again, name_is_word, name_no_dash, name_len}

-- the reader reads what is written so, and nothing else; what is written are words, none of them a dash, and a label has at most so many bytes
pub record AreTasks {T N : Type 0} (tasks : TaskWords T N) (reader : TaskReader T N) (most : ℕ) : Type 0 where
  pub found : (word : List ℕ) (t : T) → reader.task_in word ≡ Some t → tasks.IsTask t × (word ≡ tasks.word t)
  pub again : (t : T) → tasks.IsTask t → reader.task_in (tasks.word t) ≡ Some t
  pub one_word : (t : T) → tasks.IsTask t → is_word (tasks.word t) ≡ true
  pub no_dash : (t : T) → tasks.IsTask t → bytes_eq (tasks.word t) (codes "-") ≡ false
  pub short : (t : T) → tasks.IsTask t → length (tasks.word t) ≤ 16
  pub label_found : (ws : List (List ℕ)) (label : N) (rest : List (List ℕ)) → reader.label_in ws ≡ Some (label, rest) → tasks.IsLabel label × (ws ≡ tasks.front label ++ rest)
  pub label_again : (label : N) (rest : List (List ℕ)) → tasks.IsLabel label → reader.label_in (tasks.front label ++ rest) ≡ Some (label, rest)
  pub label_words : (label : N) (rest : List (List ℕ)) → tasks.IsLabel label → list_all is_word rest ≡ true → list_all is_word (tasks.front label ++ rest) ≡ true
  pub label_short : (label : N) (rest : List (List ℕ)) → tasks.IsLabel label → lengths (tasks.front label ++ rest) ≤ most + lengths rest

-- where words go on with a task, its word stands first
pub first_then : {A P T : Type 0} {word : T → List ℕ} {IsTask : T → Type 0} (task_in : List ℕ → Option T) (ws : List (List ℕ)) (f : T × List (List ℕ) → Option A) (y : A)
    → ((w : List ℕ) (t : T) → task_in w ≡ Some t → IsTask t × (w ≡ word t)) → (task_first task_in ws >>= f) ≡ Some y
    → ((t : T) (rest : List (List ℕ)) → IsTask t → ws ≡ word t ∷ rest → f (t, rest) ≡ Some y → P) → P
first_then task_in [] f y found e then = absurd cc
first_then {A} {P} {T} task_in (w ∷ ws) f y found e then = go (task_in w) refl e
  where
    go : (o : Option T) → task_in w ≡ o → ((o >>= λ t. Some (t, ws)) >>= f) ≡ Some y → P
    go (Some t) is said =
        let text = found w t is in
        then t ws text.0 (ap (λ (v : List ℕ). v ∷ ws) text.1) said
    go None is said = absurd cc

-- ---- version 1

-- the text of a number is no dash, since a dash is no number
number_no_dash : (t : ℕ) (dash : Bool) → t < 2 ^ 32 → dash ≡ bytes_eq (decimal t) (codes "-") → dash ≡ false
number_no_dash t true small is =
    let none : number_in (codes "-") ≡ None = no_number_other (codes "-") 0 (omega arith) (λ range. omega (arith, range)) in
    let some : number_in (codes "-") ≡ Some t = ap number_in (sym (is_text (decimal t) (codes "-") (sym is))) ∙ number_again t small in
    absurd cc
number_no_dash t false small is = refl

pub number_tasks : AreTasks numbers numbers_read 0
number_tasks = record {
  found = number_found;
  again = number_again;
  one_word = number_is_word;
  no_dash = λ t small. number_no_dash t (bytes_eq (decimal t) (codes "-")) small refl;
  short = λ t small. let few = (number_text t small).short in omega arith;
  label_found = λ ws label rest e. (tt, ap (λ (p : Unit × List (List ℕ)). p.1) (some_is (tt, ws) (label, rest) e));
  label_again = λ label rest is. refl;
  label_words = λ label rest is all. all;
  label_short = λ label rest is. omega arith;
}

-- ---- version 2

name_label_found : (ws : List (List ℕ)) (label : List ℕ) (rest : List (List ℕ)) → task_first name_in ws ≡ Some (label, rest) → IsName label × (ws ≡ label ∷ rest)
name_label_found ws label rest e =
    word_then ws (λ word. name_in word.0 >>= λ t. Some (t, word.1)) (label, rest) e (λ word more all said.
    some_then (name_in word) (λ t. Some (t, more)) (label, rest) said (λ t read is.
    let found = name_found word t read in
    let same = some_is (t, more) (label, rest) is in
    subst (λ (p : List ℕ × List (List ℕ)). IsName p.0 × (ws ≡ p.0 ∷ p.1)) same (found.0, all ∙ ap (λ (v : List ℕ). v ∷ more) found.1)))

pub name_tasks : AreTasks names names_read 17
name_tasks = record {
  found = name_found;
  again = name_again;
  one_word = name_is_word;
  no_dash = λ t is. name_no_dash t (bytes_eq t (codes "-")) is refl;
  short = name_len;
  label_found = name_label_found;
  label_again = λ label rest is. rw (name_again label is) refl;
  label_words = λ label rest is all. let first = name_is_word label is in rw (first, all) refl;
  label_short = λ label rest is. omega (arith, name_len label is);
}

module _ {T N : Type 0} {tasks : TaskWords T N} {reader : TaskReader T N} {most : ℕ} (laws : AreTasks tasks reader most) where
  -- ---- what is read is written so

  pub task_then : {A P : Type 0} (ws : List (List ℕ)) (f : T × List (List ℕ) → Option A) (y : A) → (task_first reader.task_in ws >>= f) ≡ Some y
      → ((t : T) (rest : List (List ℕ)) → tasks.IsTask t → ws ≡ tasks.word t ∷ rest → f (t, rest) ≡ Some y → P) → P
  task_then ws f y e then = first_then reader.task_in ws f y laws.found e then

  pub label_then : {A P : Type 0} (ws : List (List ℕ)) (f : N × List (List ℕ) → Option A) (y : A) → (reader.label_in ws >>= f) ≡ Some y
      → ((label : N) (rest : List (List ℕ)) → tasks.IsLabel label → ws ≡ tasks.front label ++ rest → f (label, rest) ≡ Some y → P) → P
  label_then ws f y e then =
      some_then (reader.label_in ws) f y e (λ l read said.
      let found = laws.label_found ws l.0 l.1 read in
      then l.0 l.1 found.0 found.1 said)

  pub one_task_then : {A P : Type 0} (ws : List (List ℕ)) (f : T → Option A) (y : A) → (one_task reader.task_in ws >>= f) ≡ Some y
      → ((t : T) → tasks.IsTask t → ws ≡ tasks.word t ∷ [] → f t ≡ Some y → P) → P
  unfolding one_task
  one_task_then ws f y e then =
      some_then (one_task reader.task_in ws) f y e (λ n read said.
      task_then ws (λ t. if_last t.1 t.0) n read (λ t rest is_task all read1.
      last_then rest t n read1 (λ none is.
      then t is_task (all ∙ ap (λ (vs : List (List ℕ)). tasks.word t ∷ vs) none) (subst (λ (m : T). f m ≡ Some y) (sym is) said))))

  pub triple_then : {A P : Type 0} (ws : List (List ℕ)) (f : ℕ × T × ℕ → Option A) (y : A) → (worker_task_number reader.task_in ws >>= f) ≡ Some y
      → ((w : ℕ) (t : T) (n : ℕ) → w < 2 ^ 32 → tasks.IsTask t → n < 2 ^ 32 → ws ≡ decimal w ∷ tasks.word t ∷ decimal n ∷ [] → f (w, t, n) ≡ Some y → P) → P
  unfolding worker_task_number
  triple_then ws f y e then =
      some_then (worker_task_number reader.task_in ws) f y e (λ p read said.
      number_then ws (λ w. task_first reader.task_in w.1 >>= λ t. one_number t.1 >>= λ n. Some (w.0, t.0, n)) p read (λ w rest w_small first read1.
      task_then rest (λ t. one_number t.1 >>= λ n. Some (w, t.0, n)) p read1 (λ t more is_task second read2.
      one_then more (λ n. Some (w, t, n)) p read2 (λ n n_small third is.
      let all : ws ≡ decimal w ∷ tasks.word t ∷ decimal n ∷ [] = cc in
      then w t n w_small is_task n_small all (subst (λ (q : ℕ × T × ℕ). f q ≡ Some y) (sym (some_is (w, t, n) p is)) said)))))

  -- the word is that of a parent
  abbrev pub IsParent : Option T → List ℕ → Type 0
  IsParent parent word = IfSome parent tasks.IsTask × (word ≡ word_or_dash tasks.word parent)

  pub parent_found : (word : List ℕ) (parent : Option T) → parent_said reader.task_in word ≡ Some parent → IsParent parent word
  unfolding parent_said
  parent_found word parent e =
      chosen (bytes_eq word (codes "-")) (Some None) (reader.task_in word >>= λ t. Some (Some t)) (Some parent) e
      (λ yes is. subst (λ (p : Option T). IsParent p word) (some_is None parent is) (tt, is_text word (codes "-") yes))
      (λ said. some_then (reader.task_in word) (λ t. Some (Some t)) parent said (λ t read is.
      subst (λ (p : Option T). IsParent p word) (some_is (Some t) parent is) (laws.found word t read)))

  -- the words are those of what is forked
  abbrev pub AreForked : ForkedKind T → List (List ℕ) → Type 0
  AreForked k ws = HasSmallForked tasks.IsTask k × (ws ≡ forked_words tasks.word k)

  pub forked_found : (ws : List (List ℕ)) (k : ForkedKind T) → forked_said reader.task_in ws ≡ Some k → AreForked k ws
  unfolding forked_said
  forked_found ws k e =
      chosen (is_last ws) (Some forked.Plain) _ (Some k) e
      (λ last is. subst (λ (j : ForkedKind T). AreForked j ws) (some_is forked.Plain k is) (tt, none_left ws last))
      (λ said. word_then ws (λ word. parent_said reader.task_in word.0 >>= λ parent. count_and_relay word.1 >>= λ p. Some (forked.Completer p.1 p.0 parent)) k said (λ word rest first said1.
      some_then (parent_said reader.task_in word) (λ parent. count_and_relay rest >>= λ p. Some (forked.Completer p.1 p.0 parent)) k said1 (λ parent read said2.
      count_then rest (λ p. Some (forked.Completer p.1 p.0 parent)) k said2 (λ count relay small all is.
      let known = parent_found word parent read in
      let text = known.1 in
      let whole : ws ≡ word_or_dash tasks.word parent ∷ decimal count ∷ relay_word relay ∷ [] = cc in
      subst (λ (j : ForkedKind T). AreForked j ws) (some_is (forked.Completer relay count parent) k is) ((known.0, small), whole)))))

  -- ---- what is written is read so

  pub one_task_again : (t : T) → tasks.IsTask t → one_task reader.task_in (tasks.word t ∷ []) ≡ Some t
  unfolding one_task
  one_task_again t is = rw (laws.again t is) refl

  pub triple_again : (w : ℕ) (t : T) (n : ℕ) → w < 2 ^ 32 → tasks.IsTask t → n < 2 ^ 32 → worker_task_number reader.task_in (decimal w ∷ tasks.word t ∷ decimal n ∷ []) ≡ Some (w, t, n)
  unfolding worker_task_number
  triple_again w t n w_small is n_small = rw (number_again w w_small, laws.again t is, one_again n n_small) refl

  pub parent_again : (parent : Option T) → IfSome parent tasks.IsTask → parent_said reader.task_in (word_or_dash tasks.word parent) ≡ Some parent
  unfolding parent_said
  parent_again None fits = refl
  parent_again (Some t) fits =
      let other = laws.no_dash t fits in
      rw (other, laws.again t fits) refl

  pub parent_is_word : (parent : Option T) → IfSome parent tasks.IsTask → is_word (word_or_dash tasks.word parent) ≡ true
  parent_is_word None fits = refl
  parent_is_word (Some t) fits = laws.one_word t fits

  pub forked_again : (k : ForkedKind T) → HasSmallForked tasks.IsTask k → forked_said reader.task_in (forked_words tasks.word k) ≡ Some k
  unfolding forked_said
  forked_again forked.Plain fits = refl
  forked_again (forked.Completer relay count parent) fits = rw (parent_again parent fits.0, count_again count relay fits.1) refl

  pub forked_are_words : (k : ForkedKind T) → HasSmallForked tasks.IsTask k → list_all is_word (forked_words tasks.word k) ≡ true
  forked_are_words forked.Plain fits = refl
  forked_are_words (forked.Completer relay count parent) fits =
      let first = parent_is_word parent fits.0 in
      rw (first, count_are_words count relay fits.1) refl
