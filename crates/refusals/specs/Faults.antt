-- A fault: a refusal, with the offset of the AVP at fault where the refusal names one, and 0 elsewhere.
use Rattle.std.specs.Prelude.{ℕ, if◌then◌else◌}
use Rattle.refusals.specs.Meanings.{meaning}
use Rattle.refusals.specs.declared.fault.Fault.{Fault}
use Rattle.refusals.specs.declared.refusal.Refusal.{Refusal}

abbrev pub fault_at : Refusal → ℕ → Fault
fault_at refusal offset = record { refusal = refusal; offset = if (meaning refusal).located then offset else 0 }
