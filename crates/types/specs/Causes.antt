-- Why a guarded access failed: none, or one of the eight of `MmuFaultCause`. The numbers are those of the record's
-- `pending_fault_cause` and of the case format.
use Rattle.std.specs.Prelude.{ℕ, Option, Some, None, eqb}
use Rattle.types.specs.Kinds.{pick}
use Rattle.types.specs.declared.FaultCause.{FaultCause}
use Rattle.types.specs.declared.FaultCause.TheVariants.{PointerA, PointerB, Indirect, PageFault, WriteProtect, SupervisorProtect, TableWalkBusError, AccessBusError}

abbrev pub cause_number : Option FaultCause → ℕ
cause_number None = 0
cause_number (Some PointerA) = 1
cause_number (Some PointerB) = 2
cause_number (Some Indirect) = 3
cause_number (Some PageFault) = 4
cause_number (Some WriteProtect) = 5
cause_number (Some SupervisorProtect) = 6
cause_number (Some TableWalkBusError) = 7
cause_number (Some AccessBusError) = 8

-- the cause of a number; numbers above 8 name no cause and read as none
unfoldable pub cause_of : ℕ → Option FaultCause
cause_of n =
    pick (eqb n 1) (Some PointerA) (pick (eqb n 2) (Some PointerB) (pick (eqb n 3) (Some Indirect) (pick (eqb n 4) (Some PageFault)
    (pick (eqb n 5) (Some WriteProtect) (pick (eqb n 6) (Some SupervisorProtect) (pick (eqb n 7) (Some TableWalkBusError) (pick (eqb n 8) (Some AccessBusError) None)))))))
