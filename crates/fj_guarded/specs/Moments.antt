-- What stands where no value is.
use Rattle.std.specs.Prelude.{[], None, false}
use Rattle.fj_rules.specs.declared.mode.Mode.TheVariants.{Async}
use Rattle.fj_rules.specs.Bounds.{bounds}
use Rattle.fj_rules.specs.Pasts.{fresh}
use Rattle.fj_calls.specs.Cores.{CoreState}

-- any state: no value of a moment is made, so nobody meets its view
abbrev pub no_core : {B K O : Type 0} → CoreState B K O
no_core = record {
  store = record {
    past = fresh Async (bounds 0 0 0 0);
    bodies = record { slots = []; aside = []; room = 0 };
    results = record { slots = []; aside = []; room = 0 };
    taken = [];
    stuck = false;
  };
  lanes = [];
  bookings = [];
  closing = record { number = None; stopping = false };
  handed = [];
  parts = [];
  missed_seals = 0;
}
