-- All rows after one more event.
use Rattle.std.proofs.Common.{ℕ, ◌≡◌, ◌≢◌, ◌+◌, ◌<◌, ◌^◌, true, false, List, [], ◌∷◌, ◌++◌, length, map, Option, Some, None, refl, ap, sym, ◌∙◌, subst, arith, set, ⊎_elim, length-append}
use Rattle.std.specs.Prelude.{IfSome}
use Rattle.std.specs.List.{cons_option, range_with_len}
use Rattle.std.proofs.lemmas.Bool.{lt-ltb, ltb-true, cases_eq}
use Rattle.std.proofs.lemmas.List.{get_or-set_same, get_or-set_other, length-set, length-map, get_or-map, map-id}
use Rattle.std.proofs.lemmas.List.FromFn.{fill_by_all, map-range_with_len_more}
use Rattle.std.proofs.Math.ListN.{get_or-append}
use Rattle.std.proofs.Math.Seq.{get_or-append_seam}
use Rattle.fj_rules.specs.declared.event.Event.{Event}
use Rattle.fj_rules.specs.declared.event.Event.TheVariants.{Acc, Make, Out, Skip, End, Add, Dec, Fire, Pass, Hooked, Settle, Close, Stop, Rel}
use Rattle.fj_rules.specs.declared.kind.Kind.TheVariants.{Plain}
use Rattle.fj_rules.specs.Bounds.{Pool}
use Rattle.fj_rules.specs.Lists.{is_in}
use Rattle.fj_rules.specs.Tasks.{tasks, accepted, accepted_by, is_completer}
use Rattle.fj_rules.specs.Completers.{pending}
use Rattle.fj_rules.specs.Climbs.{ClimbsCompleters, climbed, climbed_by}
use Rattle.fj_rules.specs.Follows.{Follows, NamesCompleter}
use Rattle.fj_rules.specs.Pasts.{Past, grown}
use Rattle.fj_rules.specs.Allowed.{Allowed, AllowedFrom, is_stop}
use Rattle.fj_rules.proofs.Events.Growth.{accepted_more, tasks_more}
use Rattle.fj_rules.proofs.Events.KindsKept.{accepted_same, tasks_same}
use Rattle.fj_rules.proofs.Events.Lawful.{accept_number, allowed_more, by_events, front_cases, is_numbered}
use Rattle.fj_rules.proofs.Completers.Climbed.{climbs_more, climbs_none}
use Rattle.fj_story.specs.declared.row.TaskRow.{TaskRow}
use Rattle.fj_story.specs.Rows.{row, rows}
use Rattle.fj_story.specs.Changes.{FitsAdd, changed, first_row, row_at, rows_after, rows_told, stopped, told_by}
use Rattle.fj_story.specs.Tabled.{Tabled}
use Rattle.fj_story.proofs.RowsKept.{row_same}
use Rattle.fj_story.proofs.RowsChanged.{made_row, stopped_row, submitted_row, told_known, told_row}

-- each row is that of its task
abbrev Rowed : List Event → List TaskRow → Type 0
Rowed h rs = (t : ℕ) → t < length rs → row_at rs t ≡ row h t

-- ---- lists

row_more : (h : List Event) (rs : List TaskRow) (x : TaskRow) → Rowed h rs → x ≡ row h (length rs) → Rowed h (rs ++ x ∷ [])
row_more h rs x each last t below =
    ⊎_elim
    (λ here. ap (row_at (rs ++ x ∷ [])) here ∙ get_or-append_seam rs x [] (first_row Plain None 0) ∙ last ∙ ap (row h) (sym here))
    (λ other. let low : t < length rs = omega (arith, below, length-append rs (x ∷ []), other) in get_or-append rs (x ∷ []) (first_row Plain None 0) t low ∙ each t low)
    (cases_eq t (length rs))

row_set : (h : List Event) (rs : List TaskRow) (u : ℕ) (x : TaskRow) → ((t : ℕ) → t < length rs → t ≢ u → row_at rs t ≡ row h t) → x ≡ row h u → Rowed h (set rs u x)
row_set h rs u x each here t below =
    let low : t < length rs = omega (arith, below, length-set rs u x) in
    ⊎_elim
    (λ same. let at : u < length rs = omega (arith, low, same) in ap (row_at (set rs u x)) same ∙ get_or-set_same rs u x (first_row Plain None 0) at ∙ here ∙ ap (row h) (sym same))
    (λ other. get_or-set_other rs u t x (first_row Plain None 0) other ∙ each t low other)
    (cases_eq t u)

-- ---- which tasks have rows

known_at : (pool : Pool) (h : List Event) (rs : List TaskRow) (t : ℕ) → AllowedFrom pool [] h → length rs ≡ accepted h → t < length rs → is_in t (tasks h) ≡ true
known_at pool h rs t so count below = is_numbered pool h so t ∙ lt-ltb t (accepted h) (omega (arith, count, below))

below_known : (pool : Pool) (h : List Event) (rs : List TaskRow) (t : ℕ) → AllowedFrom pool [] h → length rs ≡ accepted h → is_in t (tasks h) ≡ true → t < length rs
below_known pool h rs t so count known = let low = ltb-true t (accepted h) (sym (is_numbered pool h so t) ∙ known) in omega (arith, count, low)

-- ---- one more event

told_goes_on : (t : ℕ) (e : Event) → told_by e ≡ Some t → is_stop e ≡ false
told_goes_on t Stop is = absurd cc
told_goes_on t _ is = refl

another : (o : Option ℕ) (t u : ℕ) → o ≡ Some u → t ≢ u → o ≡ Some t → ⊥
another o t u is other also = other (single (sym also ∙ is))
  where
    single : Some t ≡ Some u → t ≡ u
    single both = cc

-- of a task that was accepted before
told_each : (pool : Pool) (h : List Event) (e : Event) (u : ℕ) (rs : List TaskRow) → AllowedFrom pool [] h → ClimbsCompleters h → length rs ≡ accepted h → Allowed pool h e → NamesCompleter h e → Rowed h rs
    → told_by e ≡ Some u → Rowed (h ++ e ∷ []) (rows_told rs u e (length h + 1))
told_each pool h e u rs so climbs count may names each is =
    let low = below_known pool h rs u so count (told_known pool h e u so climbs may names is) in
    row_set (h ++ e ∷ []) rs u (changed (row_at rs u) e (length h + 1))
    (λ t below other. each t below ∙ sym (row_same pool h e t so may (known_at pool h rs t so count below) (another (told_by e) t u is other) (told_goes_on u e is)))
    (ap (λ (r : TaskRow). changed r e (length h + 1)) (each u low) ∙ sym (told_row pool h e u so climbs may names is))

-- a new task
new_each : (pool : Pool) (h : List Event) (e : Event) (u : ℕ) (rs : List TaskRow) (x : TaskRow) → AllowedFrom pool [] h → length rs ≡ accepted h → Allowed pool h e → Rowed h rs
    → told_by e ≡ None → is_stop e ≡ false → u ≡ accepted h → row (h ++ e ∷ []) u ≡ x → Rowed (h ++ e ∷ []) (rs ++ x ∷ [])
new_each pool h e u rs x so count may each none unstopped number is =
    row_more (h ++ e ∷ []) rs x
    (λ t below. each t below ∙ sym (row_same pool h e t so may (known_at pool h rs t so count below) (λ said. nothing t none said) unstopped))
    (sym is ∙ ap (row (h ++ e ∷ [])) (number ∙ sym count))
  where
    nothing : (t : ℕ) → told_by e ≡ None → told_by e ≡ Some t → ⊥
    nothing t none said = absurd cc

-- every task
stopped_each : (pool : Pool) (h : List Event) (rs : List TaskRow) → AllowedFrom pool [] h → length rs ≡ accepted h → Allowed pool h Stop → Rowed h rs → Rowed (h ++ Stop ∷ []) (map stopped rs)
stopped_each pool h rs so count may each t below =
    let low : t < length rs = omega (arith, below, length-map rs stopped) in
    get_or-map stopped rs t (first_row Plain None 0) (first_row Plain None 0) low ∙ ap stopped (each t low) ∙ sym (stopped_row pool h t so may (known_at pool h rs t so count low))

-- none
closed_each : (pool : Pool) (h : List Event) (rs : List TaskRow) → AllowedFrom pool [] h → length rs ≡ accepted h → Allowed pool h Close → Rowed h rs → Rowed (h ++ Close ∷ []) rs
closed_each pool h rs so count may each t below = each t below ∙ sym (row_same pool h Close t so may (known_at pool h rs t so count below) (λ said. absurd cc) refl)

each_after : (pool : Pool) (h : List Event) (e : Event) (rs : List TaskRow) → AllowedFrom pool [] h → ClimbsCompleters h → length rs ≡ accepted h → Allowed pool h e → NamesCompleter h e → Rowed h rs
    → Rowed (h ++ e ∷ []) (rows_after rs e (length h + 1))
each_after pool h (Acc u o k) rs so climbs count may names each =
    new_each pool h (Acc u o k) u rs (first_row k (Some o) (length h + 1)) so count may each refl refl may.0.number (submitted_row pool h u o k so climbs may)
each_after pool h (Make u k) rs so climbs count may names each =
    new_each pool h (Make u k) u rs (first_row k None (length h + 1)) so count may each refl refl may.0.number (made_row pool h u k so climbs may)
each_after pool h (Out u w) rs so climbs count may names each = told_each pool h (Out u w) u rs so climbs count may names each refl
each_after pool h (Skip u w) rs so climbs count may names each = told_each pool h (Skip u w) u rs so climbs count may names each refl
each_after pool h (End u w) rs so climbs count may names each = told_each pool h (End u w) u rs so climbs count may names each refl
each_after pool h (Add c k) rs so climbs count may names each = told_each pool h (Add c k) c rs so climbs count may names each refl
each_after pool h (Dec c) rs so climbs count may names each = told_each pool h (Dec c) c rs so climbs count may names each refl
each_after pool h (Fire c how) rs so climbs count may names each = told_each pool h (Fire c how) c rs so climbs count may names each refl
each_after pool h (Pass c) rs so climbs count may names each = told_each pool h (Pass c) c rs so climbs count may names each refl
each_after pool h (Hooked c) rs so climbs count may names each = told_each pool h (Hooked c) c rs so climbs count may names each refl
each_after pool h (Settle t s) rs so climbs count may names each = told_each pool h (Settle t s) t rs so climbs count may names each refl
each_after pool h Close rs so climbs count may names each = closed_each pool h rs so count may each
each_after pool h Stop rs so climbs count may names each = stopped_each pool h rs so count may each
each_after pool h (Rel t) rs so climbs count may names each = told_each pool h (Rel t) t rs so climbs count may names each refl

count_after : (rs : List TaskRow) (e : Event) (n : ℕ) → length (rows_after rs e n) ≡ length rs + length (cons_option (accepted_by e) [])
count_after rs (Acc u o k) n = length-append rs (first_row k (Some o) n ∷ [])
count_after rs (Make u k) n = length-append rs (first_row k None n ∷ [])
count_after rs (Out u w) n = omega (arith, length-set rs u (changed (row_at rs u) (Out u w) n))
count_after rs (Skip u w) n = omega (arith, length-set rs u (changed (row_at rs u) (Skip u w) n))
count_after rs (End u w) n = omega (arith, length-set rs u (changed (row_at rs u) (End u w) n))
count_after rs (Add c k) n = omega (arith, length-set rs c (changed (row_at rs c) (Add c k) n))
count_after rs (Dec c) n = omega (arith, length-set rs c (changed (row_at rs c) (Dec c) n))
count_after rs (Fire c how) n = omega (arith, length-set rs c (changed (row_at rs c) (Fire c how) n))
count_after rs (Pass c) n = omega (arith, length-set rs c (changed (row_at rs c) (Pass c) n))
count_after rs (Hooked c) n = omega (arith, length-set rs c (changed (row_at rs c) (Hooked c) n))
count_after rs (Settle t s) n = omega (arith, length-set rs t (changed (row_at rs t) (Settle t s) n))
count_after rs Close n = omega arith
count_after rs Stop n = omega (arith, length-map rs stopped)
count_after rs (Rel t) n = omega (arith, length-set rs t (changed (row_at rs t) (Rel t) n))

climbs_on : (h : List Event) (e : Event) → ClimbsCompleters h → NamesCompleter h e → ClimbsCompleters (h ++ e ∷ [])
unfolding climbed
climbs_on h e climbs names = climbs_more h (e ∷ []) climbs (λ c there. go c (climbed_by e) names there)
  where
    go : (c : ℕ) (said : Option ℕ) → IfSome said (λ d. is_completer h d ≡ true) → is_in c (cons_option said []) ≡ true → is_completer h c ≡ true
    go c None names there = absurd cc
    go c (Some d) names there =
        ⊎_elim (λ (is : Some d ≡ Some c). let same : d ≡ c = cc in subst (λ u. is_completer h u ≡ true) same names) (λ none. absurd cc) (front_cases c (Some d) [] there)

-- ---- a table

pub tabled_none : (past : Past) → past.events ≡ [] → Tabled past [] 0
unfolding accepted tasks
tabled_none past none = record {
  lawful = rw none tt;
  climbs = rw none climbs_none;
  number = rw none refl;
  count = rw none refl;
  each = λ t below. absurd (omega (arith, below));
}

pub tabled_more : (past : Past) (rs : List TaskRow) (now : ℕ) (e : Event) → Follows past e → Tabled past rs now → Tabled (grown past (e ∷ [])) (rows_after rs e (now + 1)) (now + 1)
tabled_more past rs now e follows tabled =
    let h = past.events in
    let n : now ≡ length h = tabled.number in
    let next : now + 1 ≡ length h + 1 = omega (arith, n) in
    record {
      lawful = allowed_more past.pool [] h e tabled.lawful follows.allowed;
      climbs = climbs_on h e tabled.climbs follows.names;
      number = omega (arith, n, length-append h (e ∷ []));
      count = count_after rs e (now + 1) ∙ ap (λ (k : ℕ). k + length (cons_option (accepted_by e) [])) tabled.count ∙ sym (accepted_more h e);
      each = subst (λ (k : ℕ). Rowed (h ++ e ∷ []) (rows_after rs e k)) (sym next) (each_after past.pool h e rs tabled.lawful tabled.climbs tabled.count follows.allowed follows.names tabled.each);
    }

-- the task of which a following event says something has a row
pub told_there : (past : Past) (rs : List TaskRow) (now : ℕ) (e : Event) → Follows past e → Tabled past rs now → IfSome (told_by e) (λ t. t < length rs)
told_there past rs now e follows tabled = go (told_by e) refl
  where
    go : (o : Option ℕ) → told_by e ≡ o → IfSome o (λ t. t < length rs)
    go None is = tt
    go (Some t) is = below_known past.pool past.events rs t tabled.lawful tabled.count (told_known past.pool past.events e t tabled.lawful tabled.climbs follows.allowed follows.names is)

-- and what it adds to its pending count fits
fits_add : (past : Past) (rs : List TaskRow) (now : ℕ) (e : Event) (t : ℕ) → Follows past e → Tabled past rs now → told_by e ≡ Some t → FitsAdd (row_at rs t) e
unfolding row
fits_add past rs now (Add c k) t follows tabled is =
    let one : c ≡ t = cc in
    let low = below_known past.pool past.events rs c tabled.lawful tabled.count (told_known past.pool past.events (Add c k) c tabled.lawful tabled.climbs follows.allowed follows.names refl) in
    let held : (row_at rs c).pending ≡ pending past.events c = ap (λ (r : TaskRow). r.pending) (tabled.each c low) in
    subst (λ (u : ℕ). (row_at rs u).pending + k < 2 ^ 64) one (omega (arith, held, follows.allowed.2))
fits_add past rs now _ t follows tabled is = tt

pub told_fits : (past : Past) (rs : List TaskRow) (now : ℕ) (e : Event) → Follows past e → Tabled past rs now → IfSome (told_by e) (λ t. FitsAdd (row_at rs t) e)
told_fits past rs now e follows tabled = go (told_by e) refl
  where
    go : (o : Option ℕ) → told_by e ≡ o → IfSome o (λ t. FitsAdd (row_at rs t) e)
    go None is = tt
    go (Some t) is = fits_add past rs now e t follows tabled is

-- tasks are numbered in the order of their acceptance
range_more : (a n : ℕ) → range_with_len a (n + 1) ≡ range_with_len a n ++ (a + n) ∷ []
range_more a n = sym (map-id (range_with_len a (n + 1))) ∙ map-range_with_len_more (λ x. x) a n (a + n) refl ∙ ap (λ (xs : List ℕ). xs ++ (a + n) ∷ []) (map-id (range_with_len a n))

numbered_more : (pool : Pool) (h : List Event) (e : Event) (said : Option ℕ) → accepted_by e ≡ said → tasks h ≡ range_with_len 0 (accepted h) → Allowed pool h e
    → tasks (h ++ e ∷ []) ≡ range_with_len 0 (accepted (h ++ e ∷ []))
numbered_more pool h e None is are may = tasks_same h e is ∙ are ∙ ap (range_with_len 0) (sym (accepted_same h e is))
numbered_more pool h e (Some t) is are may =
    let number : t ≡ 0 + accepted h = omega (arith, accept_number pool h e t may is) in
    let more : accepted (h ++ e ∷ []) ≡ accepted h + 1 = accepted_more h e ∙ rw is refl in
    tasks_more h e ∙ rw is (ap (λ (ts : List ℕ). ts ++ t ∷ []) are ∙ ap (λ (n : ℕ). range_with_len 0 (accepted h) ++ n ∷ []) number ∙ sym (range_more 0 (accepted h)) ∙ ap (range_with_len 0) (sym more))

numbered_none : tasks [] ≡ range_with_len 0 (accepted [])
unfolding tasks accepted
numbered_none = refl

are_numbered : (pool : Pool) (h : List Event) → AllowedFrom pool [] h → tasks h ≡ range_with_len 0 (accepted h)
are_numbered pool h so = by_events pool (λ h. tasks h ≡ range_with_len 0 (accepted h)) numbered_none (λ h e so are may. numbered_more pool h e (accepted_by e) refl are may) h so

pub rows_are : (past : Past) (rs : List TaskRow) (now : ℕ) → Tabled past rs now → rs ≡ rows past.events
unfolding rows
rows_are past rs now tabled =
    fill_by_all (row past.events) rs (accepted past.events) (first_row Plain None 0) tabled.count (λ t below. tabled.each t (omega (arith, below, tabled.count)))
    ∙ ap (map (row past.events)) (sym (are_numbered past.pool past.events tabled.lawful))

pub numbers_are : (past : Past) (rs : List TaskRow) (now : ℕ) → Tabled past rs now → tasks past.events ≡ range_with_len 0 (length rs)
numbers_are past rs now tabled = are_numbered past.pool past.events tabled.lawful ∙ ap (range_with_len 0) (sym tabled.count)
