-- The lines of one task more.
use Rattle.std.proofs.Common.{zero, suc, ℕ, ◌≡◌, ◌+◌, ◌<◌, List, [], ◌∷◌, ◌++◌, length, map, take, get_or, refl, sym, ap, ◌∙◌, arith, append_assoc}
use Rattle.std.specs.Prelude.{flat_map}
use Rattle.std.specs.List.{range_with_len}
use Rattle.std.proofs.lemmas.List.{append-nil, take_more, length-take-le}
use Rattle.fj_rules.specs.declared.event.Event.{Event}
use Rattle.fj_rules.specs.Tasks.{tasks}
use Rattle.fj_story.specs.declared.row.TaskRow.{TaskRow}
use Rattle.fj_story.specs.Rows.{row, rows}
use Rattle.fj_views.specs.Tables.{heading, line_text, lines_from, table_of, table_text}

lines_more : (n : ℕ) (rs : List TaskRow) (r : TaskRow) → lines_from n (rs ++ r ∷ []) ≡ lines_from n rs ++ line_text (n + length rs) r
unfolding lines_from
lines_more n [] r = let same : n ≡ n + 0 = omega arith in append-nil (line_text n r) ∙ ap (λ (k : ℕ). line_text k r) same
lines_more n (x ∷ rs) r =
    let same : n + 1 + length rs ≡ n + length (x ∷ rs) = omega arith in
    ap (λ (text : List ℕ). line_text n x ++ text) (lines_more (n + 1) rs r)
    ∙ sym (append_assoc (line_text n x) (lines_from (n + 1) rs) (line_text (n + 1 + length rs) r))
    ∙ ap (λ (k : ℕ). (line_text n x ++ lines_from (n + 1) rs) ++ line_text k r) same

-- the lines of the first tasks, with that of the next one
pub lines_next : (rs : List TaskRow) (i : ℕ) (r : TaskRow) → i < length rs → r ≡ get_or rs i r → lines_from 0 (take i rs) ++ line_text i r ≡ lines_from 0 (take (i + 1) rs)
lines_next rs i r below is =
    let so_far : length (take i rs) ≡ i = length-take-le i rs (omega (arith, below)) in
    let number : 0 + length (take i rs) ≡ i = omega (arith, so_far) in
    sym (ap (lines_from 0) (take_more rs i r below ∙ ap (λ (x : TaskRow). take i rs ++ x ∷ []) (sym is)) ∙ lines_more 0 (take i rs) r ∙ ap (λ (k : ℕ). lines_from 0 (take i rs) ++ line_text k r) number)

-- ---- all lines

lines_map : (f : ℕ → TaskRow) (n k : ℕ) → lines_from n (map f (range_with_len n k)) ≡ flat_map (λ t. line_text t (f t)) (range_with_len n k)
unfolding lines_from
lines_map f n zero = refl
lines_map f n (suc k) = ap (λ (text : List ℕ). line_text n (f n) ++ text) (lines_map f (n + 1) k)

-- the table of these rows is that of the history
pub table_is : (h : List Event) (rs : List TaskRow) → rs ≡ rows h → tasks h ≡ range_with_len 0 (length rs) → table_of rs ≡ table_text h
unfolding rows table_text
table_is h rs are numbers =
    ap table_of (are ∙ ap (map (row h)) numbers)
    ∙ ap (λ (text : List ℕ). heading ++ text) (lines_map (row h) 0 (length rs) ∙ ap (flat_map (λ t. line_text t (row h t))) (sym numbers))
