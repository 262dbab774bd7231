-- A session as a nest: the entries, returns and handlers of its lines.
use Rattle.std.specs.Prelude.{ℕ, Option, Some, None, refl, List, [], ◌∷◌, ◌++◌}
use Rattle.memory.specs.World.{World, cpu_of}
use Rattle.answers.specs.declared.Call.TheVariants as call
use Rattle.calls.specs.Calls.{perform}
use Rattle.nest.specs.Nest.{Step, return, handlers, State, Page, Premises, end, depth}
use Rattle.entered.specs.Machines.{room_of}
use Rattle.rule3.specs.Rule3.{Real}
use Rattle.rule3.specs.Nests.{tick}
use Rattle.rule3.specs.Nests.{call as entry}
use Rattle.lines.specs.declared.Command.{Command}
use Rattle.lines.specs.declared.Command.TheVariants.{Kind, Pc, Ppc, A7, Long, Exc, Trap, Irq, Walk, Ret}
use Rattle.lines.specs.Commands.{command_of}
use Rattle.sessions.specs.Sessions.{Session, act, step}

-- handlers that leave a world: record, bus, store and log
abbrev pub leaving : World → Step Real
leaving w = handlers (cpu_of w) (room_of w)

-- the steps of one command of a session
unfoldable pub steps_of : Session → Option Command → List (Step Real)
-- "`exc` is `take_exception`"
steps_of s (Some (Exc v)) = entry (call.TakeException v) refl ∷ []
steps_of s (Some (Trap n)) = entry (call.Trap n) refl ∷ []
-- "`irq` is `set_irq` and then the interrupt call"; "Handlers are whatever runs between two calls, `set_irq` too"
steps_of s (Some (Irq n)) = leaving (perform s.after (call.SetIrq n)).after ∷ tick ∷ []
steps_of s (Some Ret) = return ∷ []
-- what writes record or store between two calls: handlers, which leave what the command leaves
steps_of s (Some (Kind k)) = leaving (act s (Some (Kind k))).after ∷ []
steps_of s (Some (Pc v)) = leaving (act s (Some (Pc v))).after ∷ []
steps_of s (Some (Ppc v)) = leaving (act s (Some (Ppc v))).after ∷ []
steps_of s (Some (A7 v)) = leaving (act s (Some (A7 v))).after ∷ []
steps_of s (Some (Long a v)) = leaving (act s (Some (Long a v))).after ∷ []
-- "n returns on a copy", and a line that is not understood: no step
steps_of s (Some (Walk n)) = []
steps_of s None = []

-- "The session goes on": the lines one after the other, each from what the lines before it left
unfoldable pub nest_of : Session → List (List ℕ) → List (Step Real)
nest_of s [] = []
nest_of s (l ∷ ls) = steps_of s (command_of l) ++ nest_of (step s l) ls

-- rule 3 of a session's lines: its premises, the end of its nest, the book and the depth there
abbrev pub Meets : Session → List (List ℕ) → Type 0
Meets s ls = Premises Real (nest_of s ls) (cpu_of s.after) (room_of s.after)

abbrev pub ended : Session → List (List ℕ) → State Real
ended s ls = end Real (nest_of s ls) (cpu_of s.after) (room_of s.after)

abbrev pub book_of : Session → List (List ℕ) → List Page
book_of s ls = (ended s ls).book

abbrev pub depth_of : Session → List (List ℕ) → ℕ
depth_of s ls = depth Real (ended s ls)
