-- The session of paper 01: what a line makes of record, bus and store, and what it prints.
use Rattle.std.specs.Prelude.{ℕ, Bool, List, [], Option, Some, None, eqb, length, replicate}
use Rattle.types.specs.Kinds.{pick}
use Rattle.cpu.specs.Fields.{kind_of, pc_of, a7_of, set_pc, set_ppc, set_a7}
use Rattle.cpu.specs.Fresh.{fresh_cpu}
use Rattle.status.specs.Status.{get_sr}
use Rattle.memory.specs.declared.Core.{Core}
use Rattle.memory.specs.declared.Bus.{Bus}
use Rattle.memory.specs.Served.{served_of}
use Rattle.memory.specs.World.{World, world, step as on_cpu, poke_long}
use Rattle.answers.specs.declared.Call.{Call}
use Rattle.answers.specs.declared.Call.TheVariants.{TakeException, Trap, SetIrq, CheckAndServiceInterrupts}
use Rattle.answers.specs.Answer.{Answer}
use Rattle.answers.specs.Answer.{Cycles, Flag, Value, Done, Refused}
use Rattle.calls.specs.Calls.{perform}
use Rattle.unwind.specs.Unwind.{return_from}
use Rattle.lines.specs.declared.Command.{Command}
use Rattle.lines.specs.declared.Command.TheVariants as command
use Rattle.lines.specs.Commands.{command_of}
use Rattle.prints.specs.Prints.{more, state_line, refused_line}
use Rattle.sessions.specs.Walks.{walked}

-- record, bus, store and log, and the bytes printed so far
pub record Session : Type 0 where
  pub after : World
  pub printed : List ℕ

abbrev pub session : World → List ℕ → Session
session w bs = record { after = w; printed = bs }

-- the world is w after it, and these bytes are printed
abbrev pub say : Session → World → List ℕ → Session
say s w bs = session w (more s.printed bs)

-- "no windows, responses 0xFFFFFFFF"
unfoldable pub fresh_bus : Bus
fresh_bus = record { base = 0; windows = 0; starts = replicate 8 0; lengths = replicate 8 0; responses = replicate 8 0xFFFFFFFF; events = 0 }

-- "`kind n` (fresh record, 65,536 zero bytes at 0 ..)"; the store that the program lends has 65,536 bytes
unfoldable pub fresh_core : ℕ → Core
fresh_core k = record { cpu = fresh_cpu k; bus = fresh_bus }

unfoldable pub cleared : List ℕ → List ℕ
cleared s = replicate (length s) 0

-- "The address of `long` is not masked"; "14 also covers .. a `long` not served"
unfoldable pub long_told : Core → List ℕ → ℕ → List ℕ
long_told m s a = pick (served_of m.bus (length s) a 4) [] (refused_line 14)

-- "`exc`, `trap`, `irq` and `ret` print cycles .., PC in 8 digits, status in 4, A7 in 8"
unfoldable pub state_of : Core → ℕ → List ℕ
state_of m cycles = state_line cycles (pc_of m.cpu) (get_sr m.cpu) (a7_of m.cpu)

-- "`irq` 44 or 46, 0 if not taken"
unfoldable pub charge_of : Core → Bool → ℕ
charge_of m taken = pick taken (pick (eqb (kind_of m.cpu) 2) 46 44) 0

-- what an acting call prints; of the calls whose answer is printed none answers a value or nothing
unfoldable pub answer_told : Core → Answer → List ℕ
answer_told m (Cycles n e) = state_of m n
answer_told m (Flag b e) = state_of m (charge_of m b)
answer_told m (Value v e) = state_of m 0
answer_told m (Done e) = state_of m 0
answer_told m (Refused n) = refused_line n

-- "`exc` is `take_exception`", `trap`, and the interrupt call
unfoldable pub entered : Session → Call → Session
entered s c = say s (perform s.after c).after (answer_told (perform s.after c).after.core (perform s.after c).answer)

-- "`irq` is `set_irq` and then the interrupt call; the level stays set if that call is refused"
unfoldable pub interrupted : Session → ℕ → Session
interrupted s n = entered (session (perform s.after (SetIrq n)).after s.printed) CheckAndServiceInterrupts

-- "`ret` 0"
unfoldable pub return_told : Core → ℕ → List ℕ
return_told m n = pick (eqb n 0) (state_of m 0) (refused_line n)

abbrev pub on_core : World → Core → World
on_core w m = world m w.store w.log

unfoldable pub returned : Session → Session
returned s =
    say s (on_core s.after (return_from s.after.core s.after.store).core)
    (return_told (return_from s.after.core s.after.store).core (return_from s.after.core s.after.store).refused)

-- what a command does
unfoldable pub act : Session → Option Command → Session
act s None = say s s.after (refused_line 14)
act s (Some (command.Kind k)) = session (world (fresh_core k) (cleared s.after.store) s.after.log) s.printed
act s (Some (command.Pc v)) = session (on_cpu (λ c. set_pc c v) s.after) s.printed
act s (Some (command.Ppc v)) = session (on_cpu (λ c. set_ppc c v) s.after) s.printed
act s (Some (command.A7 v)) = session (on_cpu (λ c. set_a7 c v) s.after) s.printed
act s (Some (command.Long a v)) =
    say s (world s.after.core (poke_long s.after.core.bus s.after.store a v) s.after.log)
    (long_told s.after.core s.after.store a)
act s (Some (command.Exc v)) = entered s (TakeException v)
act s (Some (command.Trap n)) = entered s (Trap n)
act s (Some (command.Irq n)) = interrupted s n
act s (Some (command.Walk n)) = say s s.after (walked s.after.core s.after.store n)
act s (Some command.Ret) = returned s

-- a line
unfoldable pub step : Session → List ℕ → Session
step s l = act s (command_of l)
