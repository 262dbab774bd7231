-- The interrupt call beside its closed test: one frame, two, and the two orders of the bus.
use Rattle.std.specs.Prelude.{ℕ, suc, ◌≡◌, refl, Bool, true, false, []}
use Rattle.std.proofs.Common.{arith}
use Rattle.cpu.specs.declared.Cpu.{Cpu}
use Rattle.cpu.specs.Fields.{is_faulted, clear_stopped}
use Rattle.cpu.specs.Clocks.{has_clocks, internal_cycles}
use Rattle.status.specs.Status.{clear_trace, clear_m, set_int_mask}
use Rattle.status.specs.Banks.{backup_sp, restore_sp, put_s, set_sflag, set_sm_flag_nosp, set_sm_flag, enter_supervisor}
use Rattle.pending.specs.Interrupts.{clear_level, charge_interrupt, charged}
use Rattle.memory.specs.declared.Bus.{Bus}
use Rattle.memory.specs.World.{World, with_cpu, put_cpu, flush, response_of, acknowledged, cpu_of}
use Rattle.frames.specs.declared.Frame.{Frame}
use Rattle.frames.specs.Frames.{field_at, is_counted, is_raw}
use Rattle.steps.specs.Steps.{enter_level, close_interrupt}
use Rattle.formats.specs.Formats.{short_frame}
use Rattle.interrupts.specs.Interrupts.{vector_from, acknowledge_level, synced_acknowledge, ended, serviced}
use Rattle.images.specs.Images.{frame_bytes, field_address}
use Rattle.forms.specs.Gist.{framed_by}
use Rattle.forms.specs.Orders.{words8}
use Rattle.forms.specs.Plans.{throwaways}
use Rattle.forms.specs.Tests.{AllSafe, field_test, fields_test, framed_whole, framed_length, safe_leave}
use Rattle.forms.specs.Quiet.{Booked, Tale, tale_note, tale_flush, tale_cycles}
use Rattle.forms.specs.QuietFrames.{frame_test}
use Rattle.forms.specs.QuietEntries.{Placed}

-- ---- the acknowledge

module _ {x : Cpu} {b : Bus} {len n : ℕ} {d : Bool} (w : World) where
  pub tale_acknowledge : (level : ℕ) → Tale x b len (suc n) d w → Tale x b len n d (acknowledge_level w level).after
  unfolding acknowledge_level vector_from acknowledged
  tale_acknowledge level p = tale_note w 6 level (response_of w.core.bus level) (omega arith) p

pub tale_synced : {x : Cpu} {b : Bus} {len n : ℕ} {d : Bool} (w : World) (clocks level : ℕ) → Tale x b len (suc (suc n)) d w → Tale x b len n d (synced_acknowledge w clocks level).after
unfolding synced_acknowledge
tale_synced w clocks level p = let y : World = with_cpu w (internal_cycles (cpu_of w) clocks) in tale_acknowledge (flush y) level (tale_flush y (tale_cycles w clocks p))

-- kind 2: the format word is that of the acknowledge, and the test does not look at it
pub eight_any : (y : World) (sr pc fw gw : ℕ) → frame_test y (words8 sr pc fw) ≡ frame_test y (words8 sr pc gw)
unfolding fields_test field_test field_address frame_bytes words8 field_at is_counted is_raw
eight_any y sr pc fw gw = refl

-- the other kinds
pub short_any : (y : World) (sr pc fw gw : ℕ) → frame_test y (short_frame sr pc fw) ≡ frame_test y (short_frame sr pc gw)
unfolding fields_test field_test field_address frame_bytes short_frame field_at is_counted is_raw
short_any y sr pc fw gw = refl

-- ---- the second frame, or M cleared

module _ {n : ℕ} {d : Bool} (w : World) (p : Booked n d w) where
  pub leave_book : Booked n d (with_cpu w (set_sm_flag (cpu_of w) 4))
  unfolding put_cpu is_faulted has_clocks set_sm_flag restore_sp set_sm_flag_nosp backup_sp
  leave_book = p

  pub clear_book : Booked n d (with_cpu w (clear_m (cpu_of w)))
  unfolding put_cpu is_faulted has_clocks clear_m
  clear_book = p

  pub level_book : (level : ℕ) → Booked n d (with_cpu w (enter_level (cpu_of w) level))
  unfolding put_cpu is_faulted has_clocks enter_level set_int_mask enter_supervisor clear_trace set_sflag restore_sp put_s backup_sp
  level_book level = p

  pub end_book : Booked n d (serviced (ended w))
  unfolding serviced ended close_interrupt put_cpu is_faulted has_clocks clear_level charge_interrupt charged clear_stopped
  end_book = p

-- ---- the whole call

pub placed_frame : (y : World) (f : Frame) → Placed y → Placed (framed_by y f)
placed_frame y f h = record { whole = framed_whole y f h.whole; small = rw (framed_length y f) h.small }

pub throw_safe : (m master : Bool) (sr pc v : ℕ) → AllSafe (throwaways m master sr pc v)
unfolding AllSafe throwaways
throw_safe true true sr pc v = (safe_leave, tt)
throw_safe true false sr pc v = tt
throw_safe false master sr pc v = tt
