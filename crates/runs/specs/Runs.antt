-- What a run is: calls to one port from power on, and what the port holds after them. Assumes nothing.
use Rattle.std.specs.Prelude.{ℕ, Bool, List, [], ◌∷◌, Option, is_none}
use Rattle.front_end.specs.declared.parts.Capabilities.{Capabilities}
use Rattle.port.specs.Reads.{read_refusal, read_outcome}
use Rattle.port.specs.Reports.{report_refusal, report_outcome}
use Rattle.port.specs.View.{View, powered_on}
use Rattle.port.specs.Writes.{write_table, write_outcome}
use Rattle.port.specs.declared.answer.Report.{Report}
use Rattle.registers.specs.declared.file.Identifiers.{Identifiers}
use Rattle.transfer.specs.Refusals.{first_holding}
use Rattle.transfer.specs.declared.refusal.Refusal.{Refusal}

-- a call, as bytes and numbers: a write; a read with its register, the number wanted and the reader's buffer; a report
pub data Call : Type 0 where
  wrote : List ℕ → Call
  read : ℕ → ℕ → List ℕ → Call
  reported : Report → Call

-- why a call is refused, if it is
abbrev pub refusal_of : Capabilities → View → Call → Option Refusal
refusal_of has v (wrote t) = first_holding (write_table has v t)
refusal_of has v (read a wanted buffer) = read_refusal a wanted buffer
refusal_of has v (reported r) = report_refusal v r

-- whether a call is not refused
abbrev pub taken : Capabilities → View → Call → Bool
taken has v c = is_none (refusal_of has v c)

-- all that a port holds after a call
abbrev pub next : Capabilities → View → Call → View
next has v (wrote t) = (write_outcome has v t).view
next has v (read a wanted buffer) = (read_outcome v a wanted buffer).view
next has v (reported r) = (report_outcome v r).view

-- all that a port holds after its calls, the newest first
abbrev pub after : Capabilities → Identifiers → List Call → View
after has ids [] = powered_on ids
after has ids (c ∷ past) = next has (after has ids past) c
