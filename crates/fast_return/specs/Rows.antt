-- The walk over what it keeps of the record: one return and n returns of `unwind` on six numbers in place of the record.
use Rattle.std.specs.Prelude.{ℕ, List, replicate}
use Rattle.memory.specs.declared.Bus.{Bus}
use Rattle.unwind.specs.Frames.{Sight}
use Rattle.unwind.specs.Returns.{Trail, Walk, laid}
use Rattle.unwind.specs.Steps.{Stack, Step, stack, step_of, steps_of}
use Rattle.fast_return.specs.declared.seen.Seen.{Seen}
use Rattle.fast_return.specs.Seen.{seen_in_user, take_seen}

-- a bus of no window and no event
unfoldable pub bare_bus : ℕ → Bus
bare_bus base = record { base = base; windows = 0; starts = replicate 8 0; lengths = replicate 8 0; responses = replicate 8 0; events = 0 }

-- what is kept, to a return
abbrev pub on_seen : Stack Seen
on_seen = stack (λ x. x.a7) seen_in_user take_seen

-- one return
abbrev pub step : Sight → Seen → Step Seen
step v x = step_of on_seen v x

abbrev pub trail_seen : ℕ → Sight → Seen → Trail
trail_seen n v x = steps_of n on_seen v x

unfoldable pub walk_seen : ℕ → Sight → Seen → List ℕ → Walk
walk_seen n v x ws = laid ws 0 (trail_seen n v x)
