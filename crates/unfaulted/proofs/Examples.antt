-- Theorems about what specs/Examples defines, and what rests on them.
use Rattle.std.specs.Prelude.{◌≡◌, refl, []}
use Rattle.std.proofs.Common.{lit<}
use Rattle.types.specs.Tables.{exception_cycles}
use Rattle.cpu.specs.Fields.{kind_of, in_exception, set_a7}
use Rattle.cpu.specs.Clocks.{prefetch_enabled, set_clocks}
use Rattle.cpu.specs.Fresh.{fresh_cpu, fresh_flow}
use Rattle.status.specs.Status.{get_sr}
use Rattle.status.specs.Banks.{enter_supervisor}
use Rattle.exceptions.specs.Exceptions.{entry, take_exception}
use Rattle.steps.specs.Steps.{stacked_address}
use Rattle.formats.specs.Formats.{offset_word}
use Rattle.unfaulted.specs.Closed.{closed, arrived, clocks_after, short_of}
use Rattle.unfaulted.proofs.Entries.{take_closed}
use Rattle.unfaulted.specs.Examples.{board, bytes, fresh, fresh_enters}

-- so the entry is told in full
pub fresh_taken : take_exception (closed board fresh 0 bytes []) 8
    ≡ entry (arrived board (enter_supervisor fresh) (clocks_after fresh 4) 0 bytes [] 122 (short_of (kind_of fresh) (get_sr fresh) (stacked_address fresh 8) (offset_word 8)) (prefetch_enabled fresh) 8 32 64 64 0x1234 0x5678) (exception_cycles 8)
unfolding fresh in_exception set_clocks set_a7 fresh_cpu fresh_flow
fresh_taken = take_closed board fresh 0 bytes [] 8 122 32 64 64 0x1234 0x5678 refl fresh_enters (lit< tt)
