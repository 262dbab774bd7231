-- The fast way of an entry whose frame is data: what it says of the record, and store and log after it.
use Rattle.std.specs.Prelude.{ℕ, ◌+◌, ◌≤◌, ◌≡◌, false, List, length, Some, None, Option}
use Rattle.types.specs.Kinds.{pick}
use Rattle.frames.specs.declared.Frame.{Frame}
use Rattle.frames.specs.Frames.{field_at}
use Rattle.numbers.specs.declared.RawCall.{RawCall}
use Rattle.unfaulted.specs.Closed.{told, laid, writes_of}
use Rattle.unfaulted.specs.Pushes.{offset_of, pieces_of}
use Rattle.fast_plans.specs.declared.View.{View}
use Rattle.fast_plans.specs.declared.Patch.{Patch}
use Rattle.fast_plans.specs.declared.places.Spot.{Spot}
use Rattle.fast.specs.declared.landings.Landing.{Landing}
use Rattle.fast_plans.specs.Views.{accepts_of}
use Rattle.fast_plans.specs.Places.{fetches_of, top_of, user_of, spot_of}
use Rattle.fast.specs.Landings.{landing_of}
use Rattle.fast.specs.Stacks.{clocks_at, clocks_count, jump_at, jump_count}
use Rattle.fast_plans.specs.Quiet.{no_patch}
use Rattle.fast.specs.Patches.{Ended, ended}
use Rattle.fast_frames.specs.declared.rows.FrameRow.{FrameRow}
use Rattle.fast_frames.specs.Rows.{row_of, frame_of}
use Rattle.fast_plans.specs.declared.Way.TheVariants.{Entry}

-- a frame of n bytes, whose fields have room in the log
pub record Sized (f : Frame) (n : ℕ) : Type 0 where
  pub bytes : offset_of f f.count ≡ n
  pub few : f.count ≤ 28

unfoldable pub patch_for : View → FrameRow → Spot → Landing → ℕ → ℕ → Patch
patch_for x r s j last events =
    record {
      way = Entry;
      fetches = fetches_of x;
      answer = r.answer;
      events = events;
      user = user_of x;
      top = top_of x;
      a7 = s.a7;
      pc = j.pc;
      first = j.first;
      second = j.second;
      last = last;
      vector = r.vector;
      stopped = x.stopped;
      mask = x.flags.int_mask;
      level = x.flags.int_level;
      serviced = false;
      flow = x.change_of_flow;
      noted = false;
    }

-- how many events there are after the clocks that waited, and after the frame
abbrev pub first_number : View → ℕ
first_number x = clocks_count 0 x.clocks

abbrev pub framed_of : View → Frame → ℕ
framed_of x f = first_number x + f.count

-- the log after the frame at s
abbrev pub frame_log : View → Frame → Spot → List ℕ → List ℕ
frame_log x f s l = told (first_number x) (clocks_at 0 x.clocks l) (writes_of s.a7 (pieces_of f f.count))

-- the frame at s and the jump to j are written
unfoldable pub written_of : View → FrameRow → Frame → Spot → Landing → List ℕ → List ℕ → Ended
written_of x r f s j m l =
    ended (patch_for x r s j (field_at f 0).value (jump_count (framed_of x f) (fetches_of x))) (laid m s.place (pieces_of f f.count))
    (jump_at (framed_of x f) j (fetches_of x) (frame_log x f s l))

unfoldable pub land_of : View → FrameRow → Frame → Spot → Option Landing → List ℕ → List ℕ → Ended
land_of x r f s None m l = ended no_patch m l
land_of x r f s (Some j) m l = written_of x r f s j m l

unfoldable pub place_of : View → FrameRow → Frame → Option Spot → List ℕ → List ℕ → Ended
place_of x r f None m l = ended no_patch m l
place_of x r f (Some s) m l = land_of x r f s (landing_of x m r.vector s.place r.bytes) m l

-- an entry with its frame
unfoldable pub enter_of : View → FrameRow → Frame → List ℕ → List ℕ → Ended
enter_of x r f m l = place_of x r f (spot_of x (length m) r.bytes) m l

-- the entry of a call by number
abbrev pub entry_of : View → ℕ → RawCall → Option FrameRow
entry_of x code c = row_of c.number x.kind code

-- the same where there is one
unfoldable pub enter_by : View → Option FrameRow → Frame → List ℕ → List ℕ → Ended
enter_by x None f m l = ended no_patch m l
enter_by x (Some r) f m l = enter_of x r f m l

-- the fast way of a call by number, on a record that keeps the data of the last write and a function code
unfoldable pub go_of : View → ℕ → ℕ → RawCall → List ℕ → List ℕ → Ended
go_of x wdata code c m l =
    pick (accepts_of x (length m) (length l))
    (enter_by x (entry_of x code c) (frame_of x wdata c) m l)
    (ended no_patch m l)
