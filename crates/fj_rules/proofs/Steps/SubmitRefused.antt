-- Why a submission is refused.
use Rattle.std.proofs.Common.{ℕ, ◌≡◌, ◌≤◌, ◌<◌, Bool, true, false, ◌∷◌, [], Option, Some, None, refl, sym, ◌∙◌}
use Rattle.std.specs.Prelude.{if◌then◌else◌, nat_lt, nat_le, ◌==◌}
use Rattle.std.proofs.lemmas.Bool.{le-ltb, lt-leb}
use Rattle.fj_rules.specs.declared.owner.Owner.TheVariants.{Sub}
use Rattle.fj_rules.specs.declared.kind.SubmittedKind.{SubmittedKind}
use Rattle.fj_rules.specs.declared.kind.SubmittedKind.TheVariants.{Plain}
use Rattle.fj_rules.specs.declared.step.Step.TheVariants.{Submit}
use Rattle.fj_rules.specs.declared.refusal.Refusal.{Refusal}
use Rattle.fj_rules.specs.declared.refusal.Refusal.TheVariants.{LogFull, Closed, TooManyTasks, NoSuch, CountTooLarge}
use Rattle.fj_rules.specs.Lists.{or_else}
use Rattle.fj_rules.specs.Tasks.{live, count_in, submitted_kind}
use Rattle.fj_rules.specs.Allowed.{is_shut}
use Rattle.fj_rules.specs.Answers.{refusal_of, first_that_stands, does_not_fit, events_of}
use Rattle.fj_rules.specs.Pasts.{Past}

-- how a submission by a submitter that is there is met
pub data Met (shut : Bool) (refusal : Option Refusal) : Type 0 where
  Shut : shut ≡ true → refusal ≡ Some Closed → Met shut refusal
  Crowded : shut ≡ false → refusal ≡ Some TooManyTasks → Met shut refusal
  Long : shut ≡ false → refusal ≡ Some LogFull → Met shut refusal
  Free : shut ≡ false → refusal ≡ None → Met shut refusal

pub met : (past : Past) (s : ℕ) (k : SubmittedKind) → s < past.pool.limits.submitters → count_in (Some (submitted_kind k)) ≤ 65535 → Met (is_shut past.events (Sub s)) (refusal_of past (Submit s k))
unfolding refusal_of
met past s k there few =
    let known : nat_le past.pool.limits.submitters s ≡ false = lt-leb past.pool.limits.submitters s there in
    let small : nat_lt 65535 (count_in (Some (submitted_kind k))) ≡ false = le-ltb 65535 (count_in (Some (submitted_kind k))) few in
    rw (known, small) (go (is_shut past.events (Sub s)) (live past.events == past.pool.limits.tasks) (does_not_fit past (Submit s k)))
  where
    go : (b m f : Bool) → Met b (or_else (first_that_stands ((false, NoSuch) ∷ (b, Closed) ∷ (false, CountTooLarge) ∷ (m, TooManyTasks) ∷ [])) (if f then Some LogFull else None))
    go true m f = Shut refl refl
    go false true f = Crowded refl refl
    go false false true = Long refl refl
    go false false false = Free refl refl

-- it is Closed exactly where no more submissions are taken
pub met_closed : (shut : Bool) (o : Option Refusal) (r : Refusal) → Met shut o → o ≡ Some r → r ≡ Closed → true ≡ shut
met_closed shut o r (Shut is at) some same = sym is
met_closed shut o r (Crowded is at) some same = absurd (let no : TooManyTasks ≡ r = cc in let no' : TooManyTasks ≡ Closed = no ∙ same in cc)
met_closed shut o r (Long is at) some same = absurd (let no : LogFull ≡ r = cc in let no' : LogFull ≡ Closed = no ∙ same in cc)
met_closed shut o r (Free is at) some same = absurd (let no : ◌≡◌ {A = Option Refusal} None (Some r) = sym at ∙ some in cc)

pub met_open : (shut : Bool) (o : Option Refusal) (r : Refusal) → Met shut o → o ≡ Some r → (r ≡ Closed → ⊥) → false ≡ shut
met_open shut o r (Shut is at) some other = absurd (other (let same : Closed ≡ r = cc in sym same))
met_open shut o r (Crowded is at) some other = sym is
met_open shut o r (Long is at) some other = sym is
met_open shut o r (Free is at) some other = sym is

pub met_free : (shut : Bool) (o : Option Refusal) → Met shut o → o ≡ None → false ≡ shut
met_free shut o (Shut is at) none = absurd (let no : ◌≡◌ {A = Option Refusal} None (Some Closed) = sym none ∙ at in cc)
met_free shut o (Crowded is at) none = sym is
met_free shut o (Long is at) none = sym is
met_free shut o (Free is at) none = sym is

-- one that is no larger is refused as a plain one is
pub kind_same : (past : Past) (s : ℕ) (k : SubmittedKind) → count_in (Some (submitted_kind k)) ≤ 65535 → refusal_of past (Submit s k) ≡ refusal_of past (Submit s Plain)
unfolding refusal_of events_of
kind_same past s k few =
    let small : nat_lt 65535 (count_in (Some (submitted_kind k))) ≡ false = le-ltb 65535 (count_in (Some (submitted_kind k))) few in
    rw small refl
