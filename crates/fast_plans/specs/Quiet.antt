-- Calls that make no access.
use Rattle.std.specs.Prelude.{ℕ, ◌/◌, ◌%◌, Bool, true, false, eqb, ltb, leb}
use Rattle.types.specs.Kinds.{pick, either, both}
use Rattle.numbers.specs.Numbers.{bit}
use Rattle.numbers.specs.declared.RawCall.{RawCall}
use Rattle.fast_plans.specs.declared.View.{View}
use Rattle.fast_plans.specs.declared.Patch.{Patch}
use Rattle.fast_plans.specs.declared.Way.{Way}
use Rattle.fast_plans.specs.declared.Way.TheVariants.{Plain, Idle, Calm, Entry}
use Rattle.fast_plans.specs.Plans.{takes}

-- which way a call goes
abbrev pub is_idle : Way → Bool
is_idle Plain = false
is_idle Idle = true
is_idle Calm = false
is_idle Entry = false

abbrev pub is_calm : Way → Bool
is_calm Plain = false
is_calm Idle = false
is_calm Calm = true
is_calm Entry = false

abbrev pub is_entry : Way → Bool
is_entry Plain = false
is_entry Idle = false
is_entry Calm = false
is_entry Entry = true

unfoldable pub is_quiet : View → RawCall → Bool
is_quiet x c = pick (eqb c.number 22) (pick (takes x) false x.room) (both (leb 19 c.number) (leb c.number 21))

-- a patch of no entry
abbrev pub quiet : Way → ℕ → ℕ → Bool → Patch
quiet way answer level flow =
    record {
      way = way;
      fetches = false;
      answer = answer;
      events = 0;
      user = 0;
      top = 0;
      a7 = 0;
      pc = 0;
      first = 0;
      second = 0;
      last = 0;
      vector = 0;
      stopped = 0;
      mask = 0;
      level = level;
      serviced = false;
      flow = flow;
      noted = false;
    }

-- the fast way does not take the call
unfoldable pub no_patch : Patch
no_patch = quiet Plain 0 0 false

unfoldable pub calm_patch : ℕ → ℕ → Bool → Patch
calm_patch answer level flow = quiet Calm answer level flow

-- nothing changes, but that the events of an earlier call are forgotten
unfoldable pub still_patch : View → ℕ → Patch
still_patch x answer = pick (eqb x.events 0) (quiet Idle answer 0 false) (calm_patch answer x.flags.int_level x.change_of_flow)

-- whether a trace is asked for
unfoldable pub asks : View → Bool
asks x =
    pick (eqb (x.flags.sr_save / 0x8000 % 2) 1) true
    (pick (eqb (x.flags.sr_save / 0x4000 % 2) 1) x.change_of_flow false)

-- `check_interrupts`
unfoldable pub checks : View → Bool
checks x = either (eqb x.flags.int_level 7) (ltb (x.flags.int_mask / 256) x.flags.int_level)

unfoldable pub quiet_of : View → RawCall → Patch
quiet_of x c =
    pick (eqb c.number 22) (still_patch x 0)
    (pick (eqb c.number 21) (still_patch x (bit (checks x)))
    (pick (eqb c.number 20) (calm_patch 0 (c.a % 8) x.change_of_flow)
    (calm_patch (bit (asks x)) x.flags.int_level false)))
