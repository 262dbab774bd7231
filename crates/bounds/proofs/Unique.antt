-- The recursion's equations, with no level in them, have one solution inside the domain: two levels.
use Rattle.std.specs.Prelude.{◌≡◌}
use Rattle.cpu.specs.Fields.{kind_of}
use Rattle.memory.specs.World.{World, cpu_of}
use Rattle.access.specs.Access.{bus_error, address_error, Raise, trigger, Fault}
use Rattle.bounds.specs.Levels.{Domain, Either, inside, Unrolls, unrolled_halts, level_halts, level_unrolls}
use Rattle.bounds.proofs.Levels.{raises_in, raises_bus, bus_any, address_any}
use Rattle.bounds.proofs.Again.{again}

-- two levels meet the equations
pub solves : Unrolls (trigger 2) (trigger 2)
solves = again

-- whatever meets the equations is two levels
pub unique : (t : Raise) → Unrolls t t → (w : World) (q : Fault) → Domain w → t w q ≡ trigger 2 w q
unique t s w (bus_error a wr i z) d =
    (bus_any (kind_of (cpu_of w)) t t (trigger 2) (trigger 1) s (level_unrolls 1) (raises_in (kind_of (cpu_of w)) t (trigger 1) (unrolled_halts t t s) (level_halts 1)) w a wr i z (inside w d)).0
unique t s w (address_error a wr i) d =
    (address_any (kind_of (cpu_of w)) t t (trigger 2) (trigger 1) s (level_unrolls 1) Either
    (raises_bus (kind_of (cpu_of w)) t t (trigger 1) (trigger 0) s (level_unrolls 0) (raises_in (kind_of (cpu_of w)) t (trigger 0) (unrolled_halts t t s) (level_halts 0))) w a wr i (inside w d)).0
