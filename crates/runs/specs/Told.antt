-- What taken calls say of the connector, and which ALERT bits they clear. Assumes nothing.
use Rattle.std.specs.Prelude.{ℕ, Bool, true, false, cond, List, [], ◌∷◌, ◌==◌}
use Rattle.front_end.specs.declared.parts.Capabilities.{Capabilities}
use Rattle.front_end.specs.declared.parts.Vconn.{Vconn}
use Rattle.front_end.specs.declared.parts.Vconn.TheVariants.{Off, Cc1, Cc2}
use Rattle.port.specs.View.{View}
use Rattle.port.specs.Writes.{hard_resets}
use Rattle.port.specs.declared.answer.Report.TheVariants.{CcLevels, Vbus, Fault}
use Rattle.registers.specs.Reports.{level_of}
use Rattle.registers.specs.Writes.{byte_at, word_at, value}
use Rattle.registers.specs.declared.file.Identifiers.{Identifiers}
use Rattle.registers.specs.declared.file.Level.{Level}
use Rattle.registers.specs.declared.file.Level.TheVariants.{Zero}
use Rattle.transfer.specs.Decode.{Asked, written}
use Rattle.runs.specs.Runs.{Call, wrote, read, reported, taken, after}

-- the levels on CC1 and CC2, whether VBUS is present, and whether it is being detected
pub record Connector : Type 0 where
  pub cc1 : Level
  pub cc2 : Level
  pub vbus : Bool
  pub detection : Bool

-- COMMAND 22h ends the detection of VBUS, 33h begins it
abbrev pub commands_detection : Asked → Bool → Bool
commands_detection w on = cond (byte_at 0x23 w) (cond (value w == 0x22) false (cond (value w == 0x33) true on)) on

-- levels and VBUS as reported, detection as commanded; a write to ROLE_CONTROL makes both levels zero
abbrev pub tells : Call → Connector → Connector
tells (wrote t) c = record {
  cc1 = cond (byte_at 0x1A (written t)) Zero c.cc1;
  cc2 = cond (byte_at 0x1A (written t)) Zero c.cc2;
  vbus = c.vbus;
  detection = commands_detection (written t) c.detection;
}
tells (read a wanted buffer) c = c
tells (reported (CcLevels cc1 cc2)) c = record c { cc1 = level_of cc1; cc2 = level_of cc2 }
tells (reported (Vbus n)) c = record c { vbus = n == 1 }
tells (reported (Fault n)) c = c

-- the connector as the taken calls of a run tell it; at power on no level and no VBUS, and detection on
abbrev pub as_told : Capabilities → Identifiers → List Call → Connector
as_told has ids [] = record { cc1 = Zero; cc2 = Zero; vbus = false; detection = true }
as_told has ids (c ∷ past) = cond (taken has (after has ids past) c) (tells c (as_told has ids past)) (as_told has ids past)

-- whether VCONN is on
abbrev pub is_on : Vconn → Bool
is_on Off = false
is_on Cc1 = true
is_on Cc2 = true

-- the ones written to ALERT; bit 2 by a Hard Reset
abbrev pub clears : Asked → ℕ
clears w = cond (word_at 0x10 w) (value w) (cond (hard_resets w) 4 0)

-- a write alone clears any
abbrev pub clears_when_taken : Call → ℕ
clears_when_taken (wrote t) = clears (written t)
clears_when_taken (read a wanted buffer) = 0
clears_when_taken (reported r) = 0

-- the ALERT bits that a call clears
abbrev pub cleared : Capabilities → View → Call → ℕ
cleared has v c = cond (taken has v c) (clears_when_taken c) 0
