-- What holds after every run, over every front end. Assumes nothing.
use Rattle.std.specs.Prelude.{◌≡◌, ℕ, ◌+◌, ◌*◌, ◌&&◌, List, ◌∷◌, bit_or}
use Rattle.front_end.specs.Codes.{terminations_of}
use Rattle.front_end.specs.Meaning.{Meaning, sinking, sourcing}
use Rattle.front_end.specs.declared.parts.Capabilities.{Capabilities}
use Rattle.port.specs.Reads.{value_of}
use Rattle.registers.specs.Bits.{bit, any_of, word_without}
use Rattle.registers.specs.Status.{asserted, vconn_of, on_cc1, on_cc2, shown, nondefault}
use Rattle.registers.specs.declared.file.Identifiers.{Identifiers}
use Rattle.runs.specs.Runs.{Call, after}
use Rattle.runs.specs.Told.{Connector, as_told, is_on, cleared}

-- Alert# is asserted exactly when the values read at 10h and 12h have a one in the same place
abbrev pub PinShowsAlerts : Type 0
PinShowsAlerts = (has : Capabilities) (ids : Identifiers) (past : List Call) →
    asserted (after has ids past).registers ≡ any_of (value_of has (after has ids past) 0x12) (value_of has (after has ids past) 0x10)

-- the front end's terminations are those of ROLE_CONTROL
abbrev pub TerminationsFollow : Type 0
TerminationsFollow = (has : Capabilities) (ids : Identifiers) (past : List Call) →
    (after has ids past).meaning.terminations ≡ terminations_of (after has ids past).registers.role_control

-- the front end's VCONN is off if EnableVconn is 0, on CC2 if it is 1 and PlugOrientation 0, on CC1 if both are 1
abbrev pub VconnFollows : Type 0
VconnFollows = (has : Capabilities) (ids : Identifiers) (past : List Call) →
    (after has ids past).meaning.vconn ≡ vconn_of (after has ids past).registers

-- an ALERT bit, as read at 10h, falls only by a one written to it, bit 2 also by a Hard Reset: none that was not cleared is lost
abbrev pub AlertsStand : Type 0
AlertsStand = (has : Capabilities) (ids : Identifiers) (past : List Call) (c : Call) →
    bit_or (value_of has (after has ids (c ∷ past)) 0x10) (word_without (cleared has (after has ids past) c) (value_of has (after has ids past) 0x10))
    ≡ value_of has (after has ids (c ∷ past)) 0x10

-- POWER_STATUS by the front end's path and VCONN, by VBUS and by its detection
abbrev pub power_formula : Meaning → Connector → ℕ
power_formula m c =
    bit (sinking m.path) + 2 * bit (is_on m.vconn) + 4 * bit (c.vbus && c.detection) + 8 * bit c.detection + 16 * bit (sourcing m.path)
    + 32 * bit (nondefault m.path)

-- POWER_STATUS, as read at 1Eh, is its formula of VBUS as last reported, of the last COMMAND 22h or 33h, of VCONN and of the path
abbrev pub PowerStatusShown : Type 0
PowerStatusShown = (has : Capabilities) (ids : Identifiers) (past : List Call) →
    value_of has (after has ids past) 0x1E ≡ power_formula (after has ids past).meaning (as_told has ids past)

-- CC_STATUS by the front end's terminations and VCONN, and by the levels
abbrev pub cc_formula : Meaning → Connector → ℕ
cc_formula m c = shown m.terminations.cc1 (on_cc1 m.vconn) c.cc1 + 4 * shown m.terminations.cc2 (on_cc2 m.vconn) c.cc2

-- CC_STATUS, as read at 1Dh, is its formula of the terminations, of VCONN and of the levels last reported since the last write to ROLE_CONTROL
abbrev pub CcStatusShown : Type 0
CcStatusShown = (has : Capabilities) (ids : Identifiers) (past : List Call) →
    value_of has (after has ids past) 0x1D ≡ cc_formula (after has ids past).meaning (as_told has ids past)
