-- What is asked, and the turns that are left.
use Rattle.std.specs.Prelude.{Result, Ok, Err, IfOk}
use Rattle.std.proofs.Common.{ℕ, ◌≤◌, List, arith}
use Rattle.fj_body.specs.declared.body.Ask.{Ask}
use Rattle.fj_body.specs.declared.body.Ask.TheVariants as asks
use Rattle.fj_body.specs.Turns.{Nearer}
use Rattle.fj_lazy.specs.Asks.{AsksOn}

-- from further away an ask brings a body nearer to its ending, too
pub nearer_more : {B K O : Type 0} (new b c : ℕ) (ask : Ask B K O) → Nearer new b ask → b ≤ c → Nearer new c ask
nearer_more new b c (asks.Fork body kind) h le = omega (arith, h, le)
nearer_more new b c (asks.Trigger body n) h le = omega (arith, h, le)
nearer_more new b c (asks.Join t) h le = omega (arith, h, le)
nearer_more new b c asks.Help h le = omega (arith, h, le)
nearer_more new b c (asks.Take t) h le = omega (arith, h, le)
nearer_more new b c (asks.Release t) h le = omega (arith, h, le)
nearer_more new b c (asks.Add t n) h le = omega (arith, h, le)
nearer_more new b c (asks.QuietRoot t) h le = omega (arith, h, le)
nearer_more new b c (asks.Cancel t) h le = omega (arith, h, le)
nearer_more new b c (asks.Fault t n) h le = omega (arith, h, le)
nearer_more new b c (asks.State t) h le = omega (arith, h, le)
nearer_more new b c (asks.Ok out) h le = tt
nearer_more new b c asks.Quiet h le = tt
nearer_more new b c asks.Try h le = tt
nearer_more new b c asks.Pass h le = tt
nearer_more new b c asks.Complete h le = tt
nearer_more new b c (asks.Fail code) h le = tt
nearer_more new b c (asks.HookDone out) h le = tt

-- the same of all that it asks
pub asks_more : {B K O : Type 0} (value : K → O) (key : K) (b c left : ℕ) (forked kept : List ℕ) (ask : Ask B K O) → AsksOn value key b left forked kept ask → b ≤ c → AsksOn value key c left forked kept ask
asks_more value key b c left forked kept ask h le = record { rightly = h.rightly; nearer = nearer_more left b c ask h.nearer le; as_job = h.as_job; joins = h.joins }

-- a fact of a value gives another one
pub ok_map : {A E : Type 0} (P Q : A → Type 0) (r : Result A E) → IfOk r P → ((a : A) → P a → Q a) → IfOk r Q
ok_map P Q (Ok a) h f = f a h
ok_map P Q (Err e) h f = tt
