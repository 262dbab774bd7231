-- FAULT LEVELS OF THE PUBLIC CALL: over any `t` that meets the equations of the recursion without levels it is `perform`.
use Rattle.std.specs.Prelude.{ℕ, ◌+◌, ◌%◌, ◌≡◌}
use Rattle.std.proofs.Math.Path.{refl, ap}
use Rattle.std.proofs.Common.{◌∙◌}
use Rattle.std.proofs.Math.Bool.{true, false}
use Rattle.std.proofs.Math.Dec.{eqb}
use Rattle.types.specs.Causes.{cause_number}
use Rattle.types.specs.Kinds.{is_pre68020, is_prefetch_kind}
use Rattle.types.specs.Tables.{exception_cycles}
use Rattle.cpu.specs.Fields.{kind_of, vbr_of, pc_of, ppc_of, in_exception, set_exception, rewind_pc, note_fpiar, leave_stop}
use Rattle.cpu.specs.Clocks.{set_clocks, internal_cycles}
use Rattle.status.specs.Status.{get_sr, set_int_mask, clear_m, clear_trace}
use Rattle.status.specs.Banks.{enter_supervisor, set_sflag, restore_sp, put_s, backup_sp, set_sm_flag, set_sm_flag_nosp}
use Rattle.pending.specs.Interrupts.{pending_level, takes_interrupt}
use Rattle.memory.specs.World.{World, tried, put_cpu, noted, acknowledged, cpu_of, with_cpu, step}
use Rattle.frames.specs.declared.Frame.{Frame}
use Rattle.frames.specs.Frames.{word, long}
use Rattle.steps.specs.Steps.{stacked_address, begin_entry, begin_trace, enter_level}
use Rattle.access.specs.Access.{Raise, Fault, bus_error, address_error, raised, trigger, push_frame, jump_vector}
use Rattle.formats.specs.Formats.{format_word, offset_word, short_frame, long_frame, disabled_frame}
use Rattle.exceptions.specs.Exceptions.{entry, supervised, finished}
use Rattle.interrupts.specs.Interrupts.{vector_from, acknowledge_level, serviced}
use Rattle.bounds.specs.Skeleton.{Raises, pick_if, clocks_ways, guard_read_good, guard_write_good, pushed_good, stacked_good, push_short_good, jump_good, prefetch_first_good, prefetch_second_good}
use Rattle.bounds.specs.Levels.{Domain, Safe, Kept, Any, Either, steps, vector_safe, super_kept, entry_address_good, entry_bus_good, Unrolls, unrolled_halts, level_halts, level_unrolls}
use Rattle.bounds.proofs.Levels.{raises_in, raises_bus, raises_any}
use Rattle.answers.specs.declared.Call.{Call}
use Rattle.answers.specs.declared.Call.TheVariants.{TakeException, Trap, TakeGroup2Exception, ExceptionChk, ExceptionZeroDivide, ExceptionPrivilege, ExceptionTrace, ExceptionAddressError, ExceptionBusError, TakeFpUnimp060, TakeFpDisabled060, TakeAlineException, TakeFlineException, TakeTrapException, TakeBkptException, TakeIllegalException, TriggerAddressError, TriggerBusError, CheckTrace, SetIrq, CheckInterrupts, CheckAndServiceInterrupts, Read16, Read32, Write16, Write32, Push16, Push32, PrefetchFirst, PrefetchSecond}
use Rattle.answers.specs.Answers.{cycles, plain, of_entry, of_read, of_service}
use Rattle.promises.specs.Serviced.{Serves, service_interrupt_same}
use Rattle.promises.specs.Over.{stack_short_by, taken_by, take_exception_by, stack_group2_by, take_group2_by, trap_by, exception_trace_by, take_rewound_by, stack_unimp_by, take_fp_unimp060_by, stack_disabled_by, take_fp_disabled060_by, check_and_service_by, run_by}

-- two ways to raise that agree wherever kind and vector base are kept: each definition over them is one
module _ (k : ℕ) (t u : Raise) (T : Raises (Kept k Either) Any (is_prefetch_kind k) t u) where
  abbrev P : World → Type 0
  P w = Kept k Either 0 w

  abbrev G : World → World → Type 0
  G x y = (x ≡ y) × P x

  -- one after the other
  next : {x y : World} (f g : World → World) → G x y → ((z : World) → P z → G (f z) (g z)) → G (f x) (g y)
  next {x} f g p h = let r = h x p.1 in (r.0 ∙ ap g p.0, r.1)

  stacks : (w : World) (f : Frame) → P w → G (push_frame t w f) (push_frame u w f)
  stacks w f p = stacked_good (Kept k Either) Any (is_prefetch_kind k) t u (steps k Either) T 0 w f (λ h m x p. tt) p

  jumps : (w : World) (v : ℕ) → P w → G (jump_vector t w v) (jump_vector u w v)
  jumps w v p = jump_good (Kept k Either) Any (is_prefetch_kind k) t u (steps k Either) T 0 w v p

  -- clocks of internal processing
  clocked : (w : World) (v : ℕ) → P w → P (with_cpu w (internal_cycles (cpu_of w) v))
  unfolding set_clocks put_cpu kind_of vbr_of in_exception
  clocked w v p = clocks_ways (Kept k Either 0) w v (λ h. p) p

  -- ---- exceptions

  stack_short_same : (w : World) (pc format : ℕ) → P w → G (stack_short_by t w pc format) (stack_short_by u w pc format)
  unfolding stack_short_by
  stack_short_same w pc format p =
      pick_if G (eqb (kind_of (cpu_of w)) 1)
      (λ h. push_short_good (Kept k Either) Any (is_prefetch_kind k) t u (steps k Either) T (λ a. tt) 0 (supervised w) pc (get_sr (cpu_of w)) (super_kept k Either w p))
      (λ h. stacks (supervised w) (short_frame (get_sr (cpu_of w)) pc format) (super_kept k Either w p))

  taken_same : (w : World) (v : ℕ) → P w → taken_by t w v ≡ taken_by u w v
  unfolding taken_by
  taken_same w v p =
      ap finished (next (λ x. jump_vector t x v) (λ x. jump_vector u x v) (stack_short_same w (stacked_address (cpu_of w) v) (offset_word v) p) (λ z q. jumps z v q)).0

  begun_kept : (w : World) → P w → P (step begin_entry w)
  unfolding begin_entry set_exception put_cpu kind_of vbr_of in_exception
  begun_kept w p = clocked (with_cpu w (set_exception (cpu_of w) true)) 4 (record { same = p.same; base = p.base; state = tt })

  take_exception_same : (w : World) (v : ℕ) → P w → take_exception_by t w v ≡ take_exception_by u w v
  unfolding take_exception_by
  take_exception_same w v p =
      pick_if (λ x y. x ≡ y) (in_exception (cpu_of w)) (λ h. refl) (λ h. ap (λ x. entry x (exception_cycles v)) (taken_same (step begin_entry w) v (begun_kept w p)))

  trap_same : (w : World) (n : ℕ) → P w → trap_by t w n ≡ trap_by u w n
  unfolding trap_by
  trap_same w n p = take_exception_same w (32 + n % 16) p

  take_rewound_same : (w : World) (v : ℕ) → P w → take_rewound_by t w v ≡ take_rewound_by u w v
  unfolding take_rewound_by rewind_pc put_cpu kind_of vbr_of in_exception
  take_rewound_same w v p = take_exception_same (step rewind_pc w) v p

  stack_group2_same : (w : World) (v : ℕ) → P w → G (stack_group2_by t w v) (stack_group2_by u w v)
  unfolding stack_group2_by
  stack_group2_same w v p =
      pick_if G (is_pre68020 (kind_of (cpu_of w))) (λ h. stack_short_same w (pc_of (cpu_of w)) (offset_word v) p)
      (λ h. stacks (supervised w) (long_frame (get_sr (cpu_of w)) (pc_of (cpu_of w)) (format_word 2 v) (ppc_of (cpu_of w))) (super_kept k Either w p))

  take_group2_same : (w : World) (v : ℕ) → P w → take_group2_by t w v ≡ take_group2_by u w v
  unfolding take_group2_by
  take_group2_same w v p =
      ap (λ x. entry x (exception_cycles v)) (next (λ x. jump_vector t x v) (λ x. jump_vector u x v) (stack_group2_same w v p) (λ z q. jumps z v q)).0

  exception_trace_same : (w : World) → P w → exception_trace_by t w ≡ exception_trace_by u w
  unfolding exception_trace_by begin_trace leave_stop put_cpu kind_of vbr_of in_exception
  exception_trace_same w p = take_group2_same (step begin_trace w) 9 (clocked (step leave_stop w) 4 p)

  take_fp_unimp060_same : (w : World) (ea : ℕ) → P w → take_fp_unimp060_by t w ea ≡ take_fp_unimp060_by u w ea
  unfolding take_fp_unimp060_by stack_unimp_by note_fpiar put_cpu kind_of vbr_of in_exception
  take_fp_unimp060_same w ea p =
      let x : World = step note_fpiar w in
      ap (λ x. entry x (exception_cycles 11)) (next (λ x. jump_vector t x 11) (λ x. jump_vector u x 11) (stacks (supervised x) (long_frame (get_sr (cpu_of x)) (pc_of (cpu_of x)) (format_word 2 11) ea) (super_kept k Either x p)) (λ z q. jumps z 11 q)).0

  take_fp_disabled060_same : (w : World) → P w → take_fp_disabled060_by t w ≡ take_fp_disabled060_by u w
  unfolding take_fp_disabled060_by stack_disabled_by
  take_fp_disabled060_same w p =
      ap (λ x. entry x (exception_cycles 11)) (next (λ x. jump_vector t x 11) (λ x. jump_vector u x 11) (stacks (supervised w) (disabled_frame (get_sr (cpu_of w)) (ppc_of (cpu_of w)) (format_word 4 11) 0 (ppc_of (cpu_of w))) (super_kept k Either w p)) (λ z q. jumps z 11 q)).0

  -- ---- interrupts

  serves : Serves P (λ w. Unit {0})
  unfolding acknowledge_level vector_from acknowledged noted enter_level set_int_mask enter_supervisor clear_trace set_sflag restore_sp put_s backup_sp set_sm_flag set_sm_flag_nosp clear_m put_cpu kind_of vbr_of in_exception
  serves = record { clocked = clocked; acknowledges = λ w level p. p; levels = λ w level p. p; switches = λ w p. p; clears = λ w p. p; ends = λ w p. tt }

  check_and_service_same : (w : World) → P w → check_and_service_by t w ≡ check_and_service_by u w
  unfolding check_and_service_by
  check_and_service_same w p =
      pick_if (λ x y. x ≡ y) (takes_interrupt (cpu_of w))
      (λ h. ap (λ x. tried (serviced x) true) (service_interrupt_same P (λ w. Unit {0}) (is_prefetch_kind k) t u (steps k Either) T serves w (pending_level (cpu_of w)) p).0) (λ h. refl)

  -- ---- calls

  -- at a safe address an address fault is not asked
  safely : Raises (Kept k Either) (Safe k) (is_prefetch_kind k) t u
  safely = record { fetching = T.fetching; bus = T.bus; odd = λ n w a wr i p o h. T.odd n w a wr i p tt h; vector = λ n w v p. vector_safe k (cpu_of w) v p.base }

  pub run_same : ((w : World) (q : Fault) → Domain w → t w q ≡ u w q) → (w : World) → Domain w → P w → (c : Call) → run_by t w c ≡ run_by u w c
  unfolding run_by
  run_same E w d p (TakeException v) = ap of_entry (take_exception_same w v p)
  run_same E w d p (Trap n) = ap of_entry (trap_same w n p)
  run_same E w d p (TakeGroup2Exception v) = ap of_entry (take_group2_same w v p)
  run_same E w d p ExceptionChk = ap of_entry (take_group2_same w 6 p)
  run_same E w d p ExceptionZeroDivide = ap of_entry (take_group2_same w 5 p)
  run_same E w d p ExceptionPrivilege = ap of_entry (take_exception_same w 8 p)
  run_same E w d p ExceptionTrace = ap of_entry (exception_trace_same w p)
  run_same E w d p (ExceptionAddressError a wr i) = ap (λ x. cycles x 50) (entry_address_good k Either t u safely w a wr i p).0
  run_same E w d p (ExceptionBusError a wr i z cause) = ap (λ x. cycles x 50) (entry_bus_good k Either t u safely w a wr i z (cause_number cause) p).0
  run_same E w d p (TakeFpUnimp060 ea) = ap of_entry (take_fp_unimp060_same w ea p)
  run_same E w d p TakeFpDisabled060 = ap of_entry (take_fp_disabled060_same w p)
  run_same E w d p TakeAlineException = ap of_entry (take_rewound_same w 10 p)
  run_same E w d p TakeFlineException = ap of_entry (take_rewound_same w 11 p)
  run_same E w d p (TakeTrapException n) = ap of_entry (trap_same w n p)
  run_same E w d p TakeBkptException = ap of_entry (take_rewound_same w 4 p)
  run_same E w d p TakeIllegalException = ap of_entry (take_rewound_same w 4 p)
  run_same E w d p (TriggerAddressError a wr i) = ap plain (E w (address_error a wr i) d)
  run_same E w d p (TriggerBusError a wr i z) = ap plain (E w (bus_error a wr i z) d)
  run_same E w d p CheckTrace = refl
  run_same E w d p (SetIrq n) = refl
  run_same E w d p CheckInterrupts = refl
  run_same E w d p CheckAndServiceInterrupts = ap of_service (check_and_service_same w p)
  run_same E w d p (Read16 a) = ap of_read (guard_read_good (Kept k Either) Any (is_prefetch_kind k) t u (steps k Either) T 0 w a false p tt).0
  run_same E w d p (Read32 a) = ap of_read (guard_read_good (Kept k Either) Any (is_prefetch_kind k) t u (steps k Either) T 0 w a true p tt).0
  run_same E w d p (Write16 a v) = ap plain (guard_write_good (Kept k Either) Any (is_prefetch_kind k) t u (steps k Either) T 0 w a false v p tt).0
  run_same E w d p (Write32 a v) = ap plain (guard_write_good (Kept k Either) Any (is_prefetch_kind k) t u (steps k Either) T 0 w a true v p tt).0
  run_same E w d p (Push16 v) = ap plain (pushed_good (Kept k Either) Any (is_prefetch_kind k) t u (steps k Either) T 0 w (word v) (λ h j m x p. tt) p).0
  run_same E w d p (Push32 v) = ap plain (pushed_good (Kept k Either) Any (is_prefetch_kind k) t u (steps k Either) T 0 w (long v) (λ h j m x p. tt) p).0
  run_same E w d p PrefetchFirst = ap plain (prefetch_first_good (Kept k Either) Any (is_prefetch_kind k) t u (steps k Either) T 0 w p).0
  run_same E w d p PrefetchSecond = ap plain (prefetch_second_good (Kept k Either) Any (is_prefetch_kind k) t u (steps k Either) T 0 w p).0

-- what meets the equations raises as two levels do
pub unrolled_raises : (t : Raise) → Unrolls t t → (k : ℕ) → Raises (Kept k Either) Any (is_prefetch_kind k) t raised
unrolled_raises t s k =
    raises_any k t t raised (trigger 1) s (level_unrolls 1) (raises_in k t (trigger 1) (unrolled_halts t t s) (level_halts 1))
    (raises_bus k t t (trigger 1) (trigger 0) s (level_unrolls 0) (raises_in k t (trigger 0) (unrolled_halts t t s) (level_halts 0)))
