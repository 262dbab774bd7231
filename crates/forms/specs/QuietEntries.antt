-- Each entry that is no interrupt, beside its closed test.
use Rattle.std.specs.Prelude.{ℕ, suc, ◌≤◌, ◌<◌, refl, Bool, eqb, length}
use Rattle.std.proofs.Common.{arith}
use Rattle.types.specs.Kinds.{is_pre68020, is040, is060}
use Rattle.cpu.specs.declared.Cpu.{Cpu}
use Rattle.cpu.specs.Fields.{kind_of, is_faulted, set_exception, rewind_pc, note_fpiar, leave_stop, clear_fc_override}
use Rattle.cpu.specs.Clocks.{has_clocks, internal_cycles}
use Rattle.status.specs.Status.{clear_trace}
use Rattle.status.specs.Banks.{backup_sp, restore_sp, put_s, set_sflag, enter_supervisor}
use Rattle.memory.specs.World.{World, with_cpu, put_cpu, cpu_of}
use Rattle.frames.specs.declared.Frame.{Frame}
use Rattle.frames.specs.Frames.{address_frame, bus_frame, frame68000, frame8, frame2, frame0, frame4, frame7, frame11}
use Rattle.steps.specs.Steps.{enter_bus_error}
use Rattle.exceptions.specs.Exceptions.{supervised}
use Rattle.bounds.specs.Skeleton.{pick_one}
use Rattle.images.specs.Images.{most_store}
use Rattle.forms.specs.Gist.{gist}
use Rattle.forms.specs.Plans.{turned}
use Rattle.forms.specs.Tests.{Whole, Safe, turned_whole, turned_length}
use Rattle.forms.specs.Quiet.{Booked, gist_tale, tale_cycles}

-- ---- steps of the record

module _ {n : ℕ} {d : Bool} (w : World) (p : Booked n d w) where
  pub super_book : Booked n d (supervised w)
  unfolding put_cpu is_faulted has_clocks enter_supervisor clear_trace set_sflag restore_sp put_s backup_sp
  super_book = p

  pub bus_book : Booked n d (with_cpu w (enter_bus_error (cpu_of w)))
  unfolding put_cpu is_faulted has_clocks enter_bus_error clear_fc_override enter_supervisor clear_trace set_sflag restore_sp put_s backup_sp
  bus_book = p

  pub mark_book : (b : Bool) → Booked n d (with_cpu w (set_exception (cpu_of w) b))
  unfolding put_cpu is_faulted has_clocks set_exception
  mark_book b = p

  pub rewind_book : Booked n d (with_cpu w (rewind_pc (cpu_of w)))
  unfolding put_cpu is_faulted has_clocks rewind_pc
  rewind_book = p

  pub stop_book : Booked n d (with_cpu w (leave_stop (cpu_of w)))
  unfolding put_cpu is_faulted has_clocks leave_stop
  stop_book = p

  pub fpiar_book : Booked n d (with_cpu w (note_fpiar (cpu_of w)))
  unfolding put_cpu is_faulted has_clocks note_fpiar
  fpiar_book = p

pub cycles_book : {n : ℕ} {d : Bool} (w : World) (v : ℕ) → Booked (suc n) d w → Booked n d (with_cpu w (internal_cycles (cpu_of w) v))
cycles_book {n} {d} w v p = (tale_cycles w v (gist_tale w (gist w) (suc n) d (λ e. refl) p)).book

pub whole_regs : (y : World) → Whole (cpu_of y) → 15 < length (cpu_of y).regs.dar
whole_regs y h = omega (arith, h.registers)

-- ---- `take_exception` and the wrappers

-- the world that turn leaves is in the domain
pub record Placed (y : World) : Type 0 where
  pub whole : Whole (cpu_of y)
  pub small : length y.store ≤ most_store

pub placed_turn : (x : World) (turn : Cpu → Cpu) → Safe turn → Placed x → Placed (turned x turn)
placed_turn x turn s h = record { whole = turned_whole x turn (s (cpu_of x) h.whole); small = rw (turned_length x turn) h.small }

-- no error frame has more than 28 fields
pub address_count : (c : Cpu) (a : ℕ) (write instruction : Bool) → (address_frame c a write instruction).count ≤ 28
unfolding address_frame frame68000 frame8 frame2 frame0
address_count c a write instruction =
    pick_one (λ (f : Frame). f.count ≤ 28) (eqb (kind_of c) 1) (omega arith)
    (pick_one (λ (f : Frame). f.count ≤ 28) (is_pre68020 (kind_of c)) (omega arith) (pick_one (λ (f : Frame). f.count ≤ 28) (is040 (kind_of c)) (omega arith) (omega arith)))

pub bus_count : (c : Cpu) (a : ℕ) (write instruction : Bool) (z cause : ℕ) → (bus_frame c a write instruction z cause).count ≤ 28
unfolding bus_frame frame68000 frame8 frame4 frame7 frame11
bus_count c a write instruction z cause =
    pick_one (λ (f : Frame). f.count ≤ 28) (eqb (kind_of c) 1) (omega arith)
    (pick_one (λ (f : Frame). f.count ≤ 28) (is_pre68020 (kind_of c)) (omega arith)
    (pick_one (λ (f : Frame). f.count ≤ 28) (is060 (kind_of c)) (omega arith) (pick_one (λ (f : Frame). f.count ≤ 28) (is040 (kind_of c)) (omega arith) (omega arith))))
