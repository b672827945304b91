-- However a filter ends, a beginning of the text of the bytes read was written.
use Rattle.std.proofs.Common.{ℕ, List, [], Option, Some, None, length, refl, inl}
use Rattle.std.proofs.lemmas.List.{append-nil}
use Rattle.std.proofs.Math.Seq.{take-length}
use Rattle.std.specs.Io.KnownBytes.{Appends, Consumes, Keeps}
use Rattle.fj_streams.specs.Beginnings.{AppendsSome}
use Rattle.fj_streams.specs.Calls.{Calls}
use Rattle.fj_streams.proofs.Bytes.{appends_keeps}
use Rattle.fj_streams.proofs.CallsMade.{fine_self}
use Rattle.fj_streams.specs.declared.fault.FilterFault.TheVariants.{Memory}
use Rattle.fj_streams.specs.Rules.{Rules}
use Rattle.fj_streams.specs.Faults.{EndsFrom}
use Rattle.fj_streams.specs.Starving.{StarvesFrom}
use Rattle.fj_streams.specs.Tells.{FaultTells}

-- the whole is a beginning too
pub all_some : (a b : Option (List ℕ)) (t : List ℕ) → Appends a b t → AppendsSome a b t
all_some a b t p = (length t, rw (take-length t) p)

pub some_keeps : (a b c : Option (List ℕ)) (t : List ℕ) → AppendsSome a b t → Keeps b c → AppendsSome a c t
some_keeps a b c t p q = (p.0, appends_keeps a b c _ p.1 q)

-- ---- nothing was read

consumes_nothing : (a : Option (List ℕ)) → Consumes a a []
consumes_nothing None = tt
consumes_nothing (Some x) = refl

pub appends_nothing : (a : Option (List ℕ)) → Appends a a []
appends_nothing None = tt
appends_nothing (Some x) = rw append-nil refl

module _ {A S : Type 0} (rules : Rules A S) where
  -- out of memory before the first read
  pub stops_at_once : (first : A) (a n : Option (List ℕ)) (p q : Option Calls) → (b : List ℕ) × EndsFrom rules first Memory b a a n n × FaultTells {S = S} Memory b p p q q
  stops_at_once first a n p q = ([], record { read = consumes_nothing a; means = (0, appends_nothing n) }, (fine_self p, fine_self q))

  pub starves_at_once : (Needs : A → List ℕ → Type 0) (first : A) (a n : Option (List ℕ)) → StarvesFrom rules Needs first Memory a a n n
  starves_at_once Needs first a n = ([], consumes_nothing a, inl (refl, appends_nothing n))
