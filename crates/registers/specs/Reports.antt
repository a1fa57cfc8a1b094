-- What reports from the connector do to the register file. Assumes nothing.
use Rattle.std.specs.Prelude.{◌≡◌, ℕ, ◌^◌, Bool, cond, not, ◌&&◌, ◌||◌, [], ◌∷◌, Some, None, Ok, Err, Option, Result, ◌==◌, bit_or, nat_lt}
use Rattle.front_end.specs.Codes.{terminations_of}
use Rattle.front_end.specs.declared.parts.Termination.{Termination}
use Rattle.transfer.specs.Refusals.{◌when◌, first_holding, refused_or}
use Rattle.transfer.specs.declared.refusal.Refusal.{Refusal}
use Rattle.transfer.specs.declared.refusal.Refusal.TheVariants.{OutOfRange}
use Rattle.registers.specs.Bits.{byte_without}
use Rattle.registers.specs.Writes.{is_rp}
use Rattle.registers.specs.declared.file.Level.{Level}
use Rattle.registers.specs.declared.file.Level.TheVariants.{Zero, One, Two, Three}
use Rattle.registers.specs.declared.file.Registers.{Registers}
use Rattle.registers.specs.declared.reports.Fault.{Fault}
use Rattle.registers.specs.declared.reports.Fault.TheVariants as fault
use Rattle.registers.specs.declared.reports.Trip.{Trip}
use Rattle.registers.specs.declared.reports.Trip.TheVariants.{Vconn, Vbus}

-- the register file and the answer after a report
pub record Told (A : Type 0) : Type 0 where
  pub registers : Registers
  pub answer : Result A Refusal

-- refused and nothing altered, or taken
abbrev pub told : {A : Type 0} → Option Refusal → Registers → A → Registers → Told A
told (Some r) after answer before = record { registers = before; answer = Err r }
told None after answer before = record { registers = after; answer = Ok answer }

-- a report is refused for nothing else
abbrev pub out_of_range_if : Bool → Option Refusal
out_of_range_if b = first_holding ((OutOfRange when b) ∷ [])

-- levels are 0 to 3
abbrev pub level_of : ℕ → Level
level_of n = cond (n == 0) Zero (cond (n == 1) One (cond (n == 2) Two Three))

-- what a number is converted to: its level, or out of range
abbrev pub GivesLevel : ℕ → Result Level Refusal → Type 0
GivesLevel n r = r ≡ refused_or (out_of_range_if (nat_lt 3 n)) (level_of n)

-- 3 is also out of range on a pin with Rp
abbrev pub bad_level : ℕ → Termination → Bool
bad_level n t = nat_lt 3 n || (n == 3 && is_rp t)

abbrev pub levels_refusal : ℕ → ℕ → Registers → Option Refusal
levels_refusal cc1 cc2 s =
    out_of_range_if (bad_level cc1 (terminations_of s.role_control).cc1 || bad_level cc2 (terminations_of s.role_control).cc2)

abbrev pub with_levels : Level → Level → Registers → Registers
with_levels first second s = record s { cc1_level = first; cc2_level = second }

-- VBUS is 0, not present, or 1, present
abbrev pub vbus_refusal : ℕ → Option Refusal
vbus_refusal n = out_of_range_if (nat_lt 1 n)

abbrev pub with_vbus : Bool → Registers → Registers
with_vbus present s = record s { vbus = present }

-- faults are 1, of VCONN, and 2, 3 and 6, of VBUS
abbrev pub fault_refusal : ℕ → Option Refusal
fault_refusal n = out_of_range_if (not (n == 1 || n == 2 || n == 3 || n == 6))

abbrev pub fault_of : ℕ → Fault
fault_of n = cond (n == 1) fault.Vconn (cond (n == 2) fault.OverVoltage (cond (n == 3) fault.OverCurrent fault.ForcedOff))

-- what a number is converted to: its fault, or out of range
abbrev pub GivesFault : ℕ → Result Fault Refusal → Type 0
GivesFault n r = r ≡ refused_or (fault_refusal n) (fault_of n)

abbrev pub fault_number : Fault → ℕ
fault_number fault.Vconn = 1
fault_number fault.OverVoltage = 2
fault_number fault.OverCurrent = 3
fault_number fault.ForcedOff = 6

-- the number is that of the FAULT_STATUS bit; fault 1 also clears EnableVconn
abbrev pub with_fault : ℕ → Registers → Registers
with_fault n s = record s {
  power_control = cond (n == 1) (byte_without 1 s.power_control) s.power_control;
  fault_status = bit_or s.fault_status (2 ^ n);
}

-- what a fault turns off
abbrev pub trip_of : ℕ → Trip
trip_of n = cond (n == 1) Vconn Vbus
