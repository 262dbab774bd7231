-- The fast way of a call: what it says of the record, and store and log after it.
use Rattle.std.specs.Prelude.{ℕ, List, length, Option, Some, None}
use Rattle.types.specs.Kinds.{pick}
use Rattle.numbers.specs.declared.RawCall.{RawCall}
use Rattle.fast_plans.specs.declared.View.{View}
use Rattle.fast_plans.specs.declared.Patch.{Patch}
use Rattle.fast_plans.specs.declared.Way.TheVariants.{Entry}
use Rattle.fast_plans.specs.declared.places.Spot.{Spot}
use Rattle.fast.specs.declared.landings.Landing.{Landing}
use Rattle.fast_plans.specs.declared.plans.Plan.{Plan}
use Rattle.fast_plans.specs.Views.{accepts_of}
use Rattle.fast_plans.specs.Places.{fetches_of, top_of, user_of, spot_of}
use Rattle.fast.specs.Landings.{landing_of}
use Rattle.fast_plans.specs.Plans.{plan_of}
use Rattle.fast.specs.Stacks.{Tape, tape, lay_at, lay_count, jump_at, jump_count}
use Rattle.fast_plans.specs.Quiet.{is_quiet, no_patch, quiet_of}

unfoldable pub patch_by : View → Plan → Spot → Landing → ℕ → Patch
patch_by x p s j events =
    record {
      way = Entry;
      fetches = fetches_of x;
      answer = p.answer;
      events = events;
      user = user_of x;
      top = top_of x;
      a7 = s.a7;
      pc = j.pc;
      first = j.first;
      second = j.second;
      last = p.last;
      vector = p.vector;
      stopped = p.stopped;
      mask = p.mask;
      level = p.pending;
      serviced = p.serviced;
      flow = x.change_of_flow;
      noted = p.noted;
    }

-- what the fast way says, and store and log after it
pub record Ended : Type 0 where
  pub patch : Patch
  pub store : List ℕ
  pub log : List ℕ

abbrev pub ended : Patch → List ℕ → List ℕ → Ended
ended q s l = record { patch = q; store = s; log = l }

-- the frame at s and the jump to j are written
unfoldable pub written_of : View → Plan → Spot → Landing → Tape → Ended
written_of x p s j t =
    ended (patch_by x p s j (jump_count (lay_count x p) (fetches_of x))) (lay_at x s p t).store
    (jump_at (lay_count x p) j (fetches_of x) (lay_at x s p t).log)

unfoldable pub land_of : View → Plan → Spot → Option Landing → Tape → Ended
land_of x p s None t = ended no_patch t.store t.log
land_of x p s (Some j) t = written_of x p s j t

unfoldable pub place_of : View → Plan → Option Spot → Tape → Ended
place_of x p None t = ended no_patch t.store t.log
place_of x p (Some s) t = land_of x p s (landing_of x t.store p.vector s.place p.bytes) t

-- an entry by its plan
unfoldable pub enter_of : View → Plan → List ℕ → List ℕ → Ended
enter_of x p s l = place_of x p (spot_of x (length s) p.bytes) (tape s l)

-- the same where there is a plan
unfoldable pub enter_by : View → Option Plan → List ℕ → List ℕ → Ended
enter_by x None s l = ended no_patch s l
enter_by x (Some p) s l = enter_of x p s l

-- the fast way of a call by number
unfoldable pub go_of : View → RawCall → List ℕ → List ℕ → Ended
go_of x c s l =
    pick (accepts_of x (length s) (length l))
    (pick (is_quiet x c) (ended (quiet_of x c) s l) (enter_by x (plan_of x c) s l))
    (ended no_patch s l)
