-- THE CYCLES OF A TAKEN INTERRUPT: nothing on the way to its end changes `cycles_remaining`, whatever faults, and then it falls by 46 on
-- kind 2, else by 44.
use Prim.Native.Nat.{ℕ, zero, suc}
use Rattle.std.specs.Prelude.{◌≡◌, Bool, eqb, ℤ, ◌-ℤ◌}
use Rattle.std.proofs.Math.Path.{refl}
use Rattle.std.proofs.Common.{◌∙◌}
use Rattle.std.proofs.Math.Bool.{true}
use Rattle.std.proofs.Math.IntN.{pos}
use Rattle.types.specs.Kinds.{pick}
use Rattle.cpu.specs.Fields.{kind_of, address_of, is_faulted, in_exception, set_a7, set_pc, halted, set_exception, set_wdata, start_vector, lower_a7, restore_registers, clear_cause, clear_fc_override, cause_number_of, clear_stopped}
use Rattle.cpu.specs.Clocks.{set_clocks, clear_prefetch, first_word, second_word}
use Rattle.status.specs.Status.{keep_resume, clear_trace, restore_sr, set_sr_noint_nosp, set_int_mask, clear_m}
use Rattle.status.specs.Banks.{enter_supervisor, set_sflag, restore_sp, put_s, backup_sp, set_sm_flag, set_sm_flag_nosp}
use Rattle.pending.specs.Interrupts.{has_cycles}
use Rattle.pending.proofs.Laws.{cycles_charged}
use Rattle.memory.specs.World.{World, put_cpu, noted, stored, release, acknowledged, cpu_of, step}
use Rattle.frames.specs.Frames.{bus_frame, address_frame}
use Rattle.steps.specs.Steps.{begin_bus, begin_address, close_bus, enter_bus_error, enter_level, close_interrupt}
use Rattle.access.specs.Access.{Raise, Fault, bus_error, address_error, raised, exception_address_error, exception_bus_error, raise_bus, raise_address, trigger}
use Rattle.interrupts.specs.Interrupts.{vector_from, acknowledge_level, ended}
use Rattle.bounds.specs.Skeleton.{Steps, Raises, pick_one, flush_ways, write_ways, read_ways, clocks_ways, frame_good}
use Rattle.bounds.specs.Levels.{Any}
use Rattle.promises.specs.Over.{service_interrupt_by}
use Rattle.promises.specs.Serviced.{Serves, service_interrupt_same}

-- the cycles that are left
abbrev pub left : World → ℤ
left w = (cpu_of w).flow.cycles_remaining

module _ (k : ℕ) (z : ℤ) where
  -- the kind and the cycles are k and z
  abbrev P : World → Type 0
  P w = (kind_of (cpu_of w) ≡ k) × (left w ≡ z)

  abbrev N : ℕ → World → Type 0
  N n w = P w

  steps : Steps N true
  unfolding release noted stored lower_a7 set_a7 set_wdata start_vector set_pc clear_prefetch first_word second_word set_clocks put_cpu kind_of
  steps = record { weaken = λ n w p. p; flushes = λ n w p. flush_ways P w (λ h. p) p; lowers = λ n w g p. p; datum = λ n w v p. p; writes = λ n w a g v p. write_ways P w a g v (λ s c x y. p); reads = λ n w a g p. read_ways P w a g (λ c x y. p); releases = λ n w p. p; starts = λ n w v p. p; goes = λ n w v p. p; drops = λ n w p. p; firsts = λ n w v p. p; seconds = λ n w v p. p; clocks = λ n w h p. clocks_ways P w 2 (λ h. p) p }

  halted_kept : (w : World) → P w → P (step halted w)
  unfolding halted put_cpu kind_of
  halted_kept w p = p

  -- what an error entry does to the record
  bus_kept : (w : World) → P w → P (step enter_bus_error (step begin_bus w))
  unfolding begin_bus clear_cause set_exception restore_registers restore_sr set_sr_noint_nosp enter_bus_error clear_fc_override enter_supervisor clear_trace set_sflag restore_sp put_s backup_sp put_cpu kind_of
  bus_kept w p = p

  address_kept : (w : World) → P w → P (step enter_supervisor (step begin_address w))
  unfolding begin_address restore_registers restore_sr set_sr_noint_nosp enter_supervisor clear_trace set_sflag restore_sp put_s backup_sp put_cpu kind_of
  address_kept w p = p

  bus_closed : (w : World) → P w → P (step close_bus w)
  unfolding keep_resume set_exception put_cpu kind_of
  bus_closed w p = p

  address_closed : (w : World) → P w → P (step keep_resume w)
  unfolding keep_resume put_cpu kind_of
  address_closed w p = p

  -- an error entry, from what is kept by what raises a fault inside
  module _ (t : Raise) (T : Raises N Any true t t) where
    bus_entered : (w : World) (a : ℕ) (wr i : Bool) (size cause : ℕ) → P w → P (step close_bus (exception_bus_error t (step begin_bus w) a wr i size cause))
    unfolding exception_bus_error
    bus_entered w a wr i size cause p =
        bus_closed (exception_bus_error t (step begin_bus w) a wr i size cause)
        (frame_good N Any true t t steps T 0 (step enter_bus_error (step begin_bus w)) (bus_frame (cpu_of (step begin_bus w)) a wr i size cause) 2 (λ h m x q. tt) (bus_kept w p)).1

    address_entered : (w : World) (a : ℕ) (wr i : Bool) → P w → P (step keep_resume (exception_address_error t (step begin_address w) a wr i))
    unfolding exception_address_error
    address_entered w a wr i p =
        address_closed (exception_address_error t (step begin_address w) a wr i)
        (frame_good N Any true t t steps T 0 (step enter_supervisor (step begin_address w)) (address_frame (cpu_of (step begin_address w)) a wr i) 3 (λ h m x q. tt) (address_kept w p)).1

  raises_of : (t : Raise) → ((w : World) (q : Fault) → P w → P (t w q)) → Raises N Any true t t
  raises_of t f = record { fetching = λ n w p h. refl; bus = λ n w a wr i size p. (refl, f w (bus_error a wr i size) p); odd = λ n w a wr i p o h. (refl, f w (address_error (address_of (cpu_of w) a) wr i) p); vector = λ n w v p. tt }

  -- a fault that is raised, at each level
  raised_kept : (n : ℕ) (w : World) (q : Fault) → P w → P (trigger n w q)
  unfolding trigger raise_bus raise_address
  raised_kept zero w (bus_error a wr i size) p = pick_one P (is_faulted (cpu_of w)) p (pick_one P (in_exception (cpu_of w)) (halted_kept w p) (halted_kept w p))
  raised_kept (suc n) w (bus_error a wr i size) p =
      pick_one P (is_faulted (cpu_of w)) p
      (pick_one P (in_exception (cpu_of w)) (halted_kept w p) (bus_entered (trigger n) (raises_of (trigger n) (raised_kept n)) w a wr i size (cause_number_of (cpu_of w)) p))
  raised_kept zero w (address_error a wr i) p = pick_one P (is_faulted (cpu_of w)) p (halted_kept w p)
  raised_kept (suc n) w (address_error a wr i) p = pick_one P (is_faulted (cpu_of w)) p (address_entered (trigger n) (raises_of (trigger n) (raised_kept n)) w a wr i p)

  -- then the interrupt is closed
  abbrev Q : World → Type 0
  Q w = left w ≡ z -ℤ pos (pick (eqb k 2) 46 44)

  module _ (h : (w : World) → left w ≡ z → has_cycles (cpu_of w) ≡ true) where
    closes : (w : World) → P w → Q (ended w)
    unfolding ended close_interrupt clear_stopped put_cpu kind_of has_cycles
    closes w p = cycles_charged (clear_stopped (cpu_of w)) (h w p.1) ∙ rw (p.0, p.1)

    serves : Serves P Q
    unfolding acknowledge_level vector_from acknowledged noted enter_level set_int_mask enter_supervisor clear_trace set_sflag restore_sp put_s backup_sp set_sm_flag set_sm_flag_nosp clear_m set_clocks put_cpu kind_of
    serves = record { clocked = λ w v p. clocks_ways P w v (λ h. p) p; acknowledges = λ w level p. p; levels = λ w level p. p; switches = λ w p. p; clears = λ w p. p; ends = closes }

    pub service_charged : (w : World) (level : ℕ) → P w → Q (service_interrupt_by raised w level)
    service_charged w level p = (service_interrupt_same P Q true raised raised steps (raises_of raised (raised_kept 2)) serves w level p).1
