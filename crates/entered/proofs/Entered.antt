-- Theorems about what specs/Entered defines, and what rests on them.
use Rattle.std.specs.Prelude.{ℕ, ◌+◌, ◌%◌, ◌<◌, ◌≡◌, Bool, [], ◌∷◌, ◌≢◌, eqb}
use Rattle.std.proofs.Math.Path.{refl, ap, subst}
use Rattle.std.proofs.Common.{sym, ◌∙◌, arith, ne_eqb}
use Rattle.std.proofs.Math.Bool.{true, false}
use Rattle.std.proofs.Math.Option.{some}
use Rattle.types.specs.Kinds.{pick, is_ec020_plus, is060}
use Rattle.types.proofs.Laws.{pick_holds}
use Rattle.types.specs.Causes.{cause_number}
use Rattle.cpu.specs.declared.Cpu.{Cpu}
use Rattle.cpu.specs.Fields.{kind_of, pc_of, ppc_of, ir_of, a7_of, is_faulted, in_exception, set_exception, rewind_pc, note_fpiar, leave_stop, clear_stopped}
use Rattle.status.specs.Status.{get_sr, m_is_set}
use Rattle.status.specs.Banks.{enter_supervisor}
use Rattle.pending.specs.Interrupts.{pending_level, takes_interrupt, clear_level, charge_interrupt}
use Rattle.memory.specs.World.{World, response_of, cpu_of}
use Rattle.frames.specs.declared.Frame.{Frame}
use Rattle.frames.specs.Frames.{address_frame, bus_frame, write_data}
use Rattle.frames.specs.Codes.{state_code, fault_code, fault_word, ssw020, ssw040, wb3s, fslw060}
use Rattle.steps.specs.Steps.{enter_bus_error, stacked_address, stacks_next, enter_level, with_s}
use Rattle.formats.specs.Formats.{format_word, offset_word, short_frame}
use Rattle.answers.specs.declared.Call.{Call}
use Rattle.answers.specs.declared.Call.TheVariants.{TakeException, Trap, TakeGroup2Exception, ExceptionChk, ExceptionZeroDivide, ExceptionPrivilege, ExceptionTrace, ExceptionAddressError, ExceptionBusError, TakeFpUnimp060, TakeFpDisabled060, TakeAlineException, TakeFlineException, TakeTrapException, TakeBkptException, TakeIllegalException, TriggerAddressError, TriggerBusError, CheckTrace, SetIrq, CheckInterrupts, CheckAndServiceInterrupts, Read16, Read32, Write16, Write32, Push16, Push32, PrefetchFirst, PrefetchSecond}
use Rattle.answers.specs.Matters.{matter_of}
use Rattle.calls.specs.Calls.{restarted, begun, refusal, perform}
use Rattle.images.specs.Pushes.{calm}
use Rattle.forms.specs.Gist.{gist, gist_cpu}
use Rattle.forms.specs.Plans.{Plan, planned, Clean, same, exc_plan, rewound_plan, group2_plan, trace_plan, fp_unimp_plan, fp_disabled_plan, address_plan, bus_plan, interrupt_vector, interrupt_frame, throwaways, settles, interrupt_by, interrupt_plan}
use Rattle.forms.specs.Tests.{Whole, clean_test}
use Rattle.forms.specs.Forms.{plan_of, is_some, no_plan_lem, unless, only_if}
use Rattle.forms.proofs.Forms.{entry_form, entry_clean}
use Rattle.nest.specs.View.{Regs, Stacked, one, two, frames_of, m_bit, Bank, master, bank_of, ptr, top, with_sm, nonzero, view}
use Rattle.nest.specs.Reading.{view_kind, view_m}
use Rattle.nest.specs.Nest.{Sound, Apart, BelowTop}
use Rattle.nest.specs.Laws.{lower}
use Rattle.entered.specs.Pointers.{regs_of, stacks_of, Fit}
use Rattle.entered.specs.One.{keeps_same, stack_top}
use Rattle.entered.specs.Stacks.{frame_at, short_at, group_at, address_at, bus_at, throw_at, interrupt_both, interrupt_at, stacks}
use Rattle.entered.specs.Shapes.{masters}
use Rattle.entered.specs.Does.{OneDone, Below, group_by, address_by, bus_by}
use Rattle.entered.proofs.Does.{short_does, group_does, unimp_does, disabled_does, address_does, bus_does, interrupt_does, cleared_does}
use Rattle.entered.specs.Two.{TwoDone, two_of, kind_of_lem}
use Rattle.entered.proofs.Two.{two_done}
use Rattle.entered.specs.Turns.{enters_supervisor, enters_exception, enters_rewound, enters_trace, enters_fpiar, enters_bus, enters_level, keeps_end, keeps_close}
use Rattle.forms.specs.Accepted.{accepted_s, accepted_m, accepted_vector, accepted_kind, accepted_floating}
use Rattle.entered.specs.Entered.{Narrow, Domain, error_call, Done, vector_fits, offset_small, set_m, master_frame, exc_same, rewound_same, group_same, trace_same, unimp_same, disabled_same, interrupt_same, Law, law_gist, Inside}

-- ---- small facts

stacked_fits : (c d : Cpu) (v : ℕ) → Narrow c (pc_of d) → Narrow c (ppc_of d) → Narrow c (stacked_address d v)
unfolding stacked_address
stacked_fits c d v a b e = pick_holds (λ (n : ℕ). n < 0x100000000) (stacks_next v) (pc_of d) (ppc_of d) (a e) (b e)

-- ---- each call

module _ (w : World) (fit : Fit (cpu_of (gist w))) (kd : kind_of (cpu_of (gist w)) < 12) (lp : Narrow (cpu_of (gist w)) (pc_of (cpu_of (gist w)))) (lq : Narrow (cpu_of (gist w)) (ppc_of (cpu_of (gist w)))) where
  abbrev x : World
  x = gist w

  abbrev c : Cpu
  c = cpu_of (gist w)

  exc_done : (v : ℕ) → v < 256 → Below (kind_of c) (short_at c (stacked_address c v) (offset_word v)) → Clean x (exc_plan c v) → OneDone x (planned x (exc_plan c v)) (short_at c (stacked_address c v) (offset_word v))
  unfolding exc_plan
  exc_done v l b cl =
      short_does x (λ d. enter_supervisor (set_exception d true)) same (λ d. set_exception d false) v fit kd enters_exception keeps_end (stacked_address c v) (offset_word v) keeps_same (stacked_fits c c v lp lq) (offset_small v l).0 (offset_small v l).1 b cl

  rewound_fits : (v : ℕ) → Narrow c (stacked_address (rewind_pc c) v)
  unfolding pc_of ppc_of rewind_pc
  rewound_fits v = stacked_fits c (rewind_pc c) v lq lq

  rewound_done : (v : ℕ) → v < 256 → Below (kind_of c) (short_at c (stacked_address (rewind_pc c) v) (offset_word v)) → Clean x (rewound_plan c v) → OneDone x (planned x (rewound_plan c v)) (short_at c (stacked_address (rewind_pc c) v) (offset_word v))
  unfolding rewound_plan
  rewound_done v l b cl =
      short_does x (λ d. enter_supervisor (set_exception (rewind_pc d) true)) same (λ d. set_exception d false) v fit kd enters_rewound keeps_end (stacked_address (rewind_pc c) v) (offset_word v) keeps_same (rewound_fits v) (offset_small v l).0 (offset_small v l).1 b cl

  group_done : (v : ℕ) → v < 256 → Below (kind_of c) (group_at c v) → Clean x (group2_plan c v) → OneDone x (planned x (group2_plan c v)) (group_at c v)
  unfolding group2_plan group_at group_by
  group_done v l b cl = group_does x enter_supervisor same same v fit kd enters_supervisor keeps_same (pc_of c) (ppc_of c) v keeps_same lp l b cl

  trace_done : Below (kind_of c) (group_at c 9) → Clean x (trace_plan c) → OneDone x (planned x (trace_plan c)) (group_at c 9)
  unfolding trace_plan group_at group_by
  trace_done b cl = group_does x (λ d. enter_supervisor (leave_stop d)) same same 9 fit kd enters_trace keeps_same (pc_of c) (ppc_of c) 9 keeps_same lp (omega arith) b cl

  unimp_done : (ea : ℕ) → is060 (kind_of c) ≡ true → Below (kind_of c) (frame_at c 12 (pc_of c) (format_word 2 11)) → Clean x (fp_unimp_plan c ea) → OneDone x (planned x (fp_unimp_plan c ea)) (frame_at c 12 (pc_of c) (format_word 2 11))
  unfolding fp_unimp_plan
  unimp_done ea e b cl = unimp_does x (λ d. enter_supervisor (note_fpiar d)) same same 11 fit kd enters_fpiar keeps_same (pc_of c) ea keeps_same e b cl

  disabled_done : is060 (kind_of c) ≡ true → Below (kind_of c) (frame_at c 16 (ppc_of c) (format_word 4 11)) → Clean x (fp_disabled_plan c) → OneDone x (planned x (fp_disabled_plan c)) (frame_at c 16 (ppc_of c) (format_word 4 11))
  unfolding fp_disabled_plan
  disabled_done e b cl = disabled_does x enter_supervisor same same 11 fit kd enters_supervisor keeps_same (ppc_of c) 0 (ppc_of c) keeps_same e b cl

  -- the error frames have fields that the gist leaves out: the plan is that of the record itself
  address_done : (a : ℕ) (write instruction : Bool) → eqb (kind_of c) 1 ≡ false → Below (kind_of c) (address_at c) → Clean x (address_plan (cpu_of w) a write instruction) → OneDone x (planned x (address_plan (cpu_of w) a write instruction)) (address_at c)
  unfolding address_plan address_frame address_by gist gist_cpu kind_of get_sr ppc_of
  address_done a write instruction e b cl =
      address_does x enter_supervisor same same 3 fit kd enters_supervisor keeps_same (ir_of (cpu_of w) % 0x10000) a (fault_word (state_code (cpu_of w) instruction) write instruction) keeps_same e b cl

  bus_done : (a : ℕ) (write instruction : Bool) (z cause : ℕ) → eqb (kind_of c) 1 ≡ false → Below (kind_of c) (bus_at c) → Clean x (bus_plan (cpu_of w) a write instruction z cause) → OneDone x (planned x (bus_plan (cpu_of w) a write instruction z cause)) (bus_at c)
  unfolding bus_plan bus_frame bus_by gist gist_cpu kind_of get_sr ppc_of
  bus_done a write instruction z cause e b cl =
      bus_does x enter_bus_error same same 2 fit kd enters_bus keeps_same (ir_of (cpu_of w) % 0x10000) a (fault_word (fault_code (cpu_of w) instruction) write instruction)
      (fslw060 write instruction z (fault_code (cpu_of w) instruction) cause) (pick instruction a 0)
      (ssw040 (fault_code (cpu_of w) instruction) write z cause) (wb3s (fault_code (cpu_of w) instruction) write z) (pick write a 0) (write_data (cpu_of w) write)
      (ssw020 (fault_code (cpu_of w) instruction) write instruction z) (pick instruction 0 a) (write_data (cpu_of w) write) keeps_same e b cl

-- ---- the interrupt call

flag_of : (c : Cpu) → nonzero c.flags.m_flag ≡ true → nonzero (stacks_of c).mflag ≡ true
unfolding stacks_of
flag_of c m = m

master_short : (c : Cpu) (pc fw : ℕ) → eqb (kind_of c) 1 ≡ false → short_at c pc fw ≡ frame_at c 8 pc fw
unfolding short_at
master_short c pc fw e = rw e

master_top : (c : Cpu) → nonzero c.flags.m_flag ≡ true → eqb (kind_of c) 11 ≡ false → stack_top c ≡ (view (stacks_of c)).msp
unfolding stack_top
master_top c m e =
    let g : Regs = stacks_of c in
    let k : (view g).kind ≡ kind_of c = view_kind g ∙ kind_of_lem c in
    ap (λ (b : Bool). top (with_sm (view g) true b)) (view_m g ∙ flag_of c m) ∙ ap (λ (B : Bank). ptr (with_sm (view g) true true) B) (ap (λ (j : ℕ). bank_of j true true) k ∙ bank_of_lem (kind_of c) e)
  where
    bank_of_lem : (k : ℕ) → eqb k 11 ≡ false → bank_of k true true ≡ master
    bank_of_lem k f = rw f

module _ (w : World) (fit : Fit (cpu_of (gist w))) (kd : kind_of (cpu_of (gist w)) < 12) (lp : Narrow (cpu_of (gist w)) (pc_of (cpu_of (gist w)))) (mb : m_bit (get_sr (cpu_of (gist w))) ≡ nonzero (cpu_of (gist w)).flags.m_flag) (level v : ℕ) (l : v < 256) where
  abbrev X : World
  X = gist w

  abbrev C : Cpu
  C = cpu_of (gist w)

  abbrev T : Cpu → Cpu
  T d = enter_level d level

  abbrev E : Cpu → Cpu
  E d = clear_level (charge_interrupt (clear_stopped d))

  two_part : is_ec020_plus (kind_of C) ≡ true → m_is_set C ≡ true → Below (kind_of C) (throw_at C v) → Below (kind_of C) (short_at C (pc_of C) (offset_word v)) → Apart (kind_of C) (throw_at C v ∷ short_at C (pc_of C) (offset_word v) ∷ [])
      → Clean X (two_of T (interrupt_frame (kind_of C) (get_sr C) (pc_of C) v) (short_frame (with_s (get_sr C)) (pc_of C) (format_word 1 v)) v E)
      → TwoDone X (planned X (two_of T (interrupt_frame (kind_of C) (get_sr C) (pc_of C) v) (short_frame (with_s (get_sr C)) (pc_of C) (format_word 1 v)) v E)) (throw_at C v) (short_at C (pc_of C) (offset_word v))
  unfolding throw_at m_is_set
  two_part e m bh bn pa =
      let ms = masters (kind_of C) kd e in
      let ns : nonzero C.flags.m_flag ≡ true = set_m C.flags.m_flag m in
      let f : interrupt_frame (kind_of C) (get_sr C) (pc_of C) v ≡ short_frame (get_sr C) (pc_of C) (offset_word v) = master_frame (kind_of C) (get_sr C) (pc_of C) v ms.long ms.second in
      subst (λ (g : Frame). Clean X (two_of T g (short_frame (with_s (get_sr C)) (pc_of C) (format_word 1 v)) v E) → TwoDone X (planned X (two_of T g (short_frame (with_s (get_sr C)) (pc_of C) (format_word 1 v)) v E)) (throw_at C v) (short_at C (pc_of C) (offset_word v))) (sym f)
      (λ cl. two_done X T E v (pc_of C) v fit kd (enters_level level) keeps_close l ms ns (mb ∙ ns) (throw_at C v) (short_at C (pc_of C) (offset_word v)) refl
      (master_short C (pc_of C) (offset_word v) ms.long ∙ ap (λ (q : ℕ). record { at = lower q 8; len = 8; status = get_sr C; address = pc_of C; word = offset_word v }) (master_top C ns ms.stacks)) bh bn pa cl)

  pub interrupt_done : (m s6 : Bool) (ma : Bool) → m_is_set C ≡ m → is_ec020_plus (kind_of C) ≡ ma → is060 (kind_of C) ≡ s6
      → BelowTop (kind_of C) (frames_of (interrupt_both m ma (throw_at C v) (short_at C (pc_of C) (offset_word v)))) → Apart (kind_of C) (frames_of (interrupt_both m ma (throw_at C v) (short_at C (pc_of C) (offset_word v))))
      → Clean X (interrupt_by C level v m ma s6) → Done X (planned X (interrupt_by C level v m ma s6)) (interrupt_both m ma (throw_at C v) (short_at C (pc_of C) (offset_word v)))
  unfolding interrupt_by throwaways settles interrupt_both BelowTop
  interrupt_done true s6 true a b d below pa cl = two_part b a below.0 below.1.0 pa cl
  interrupt_done true true false a b d below pa cl = cleared_does X T E v fit kd (enters_level level) keeps_close (pc_of C) v l d below.0 cl
  interrupt_done true false false a b d below pa cl = interrupt_does X T same E v fit kd (enters_level level) keeps_close (pc_of C) v keeps_same lp l below.0 cl
  interrupt_done false s6 true a b d below pa cl = interrupt_does X T same E v fit kd (enters_level level) keeps_close (pc_of C) v keeps_same lp l below.0 cl
  interrupt_done false s6 false a b d below pa cl = interrupt_does X T same E v fit kd (enters_level level) keeps_close (pc_of C) v keeps_same lp l below.0 cl

service_done : (w : World) (fit : Fit (cpu_of (gist w))) (kd : kind_of (cpu_of (gist w)) < 12) (lp : Narrow (cpu_of (gist w)) (pc_of (cpu_of (gist w)))) (mb : m_bit (get_sr (cpu_of (gist w))) ≡ nonzero (cpu_of (gist w)).flags.m_flag)
    → BelowTop (kind_of (cpu_of (gist w))) (frames_of (interrupt_at (cpu_of (gist w)) (interrupt_vector (cpu_of (gist w)) (gist w).core.bus))) → Apart (kind_of (cpu_of (gist w))) (frames_of (interrupt_at (cpu_of (gist w)) (interrupt_vector (cpu_of (gist w)) (gist w).core.bus)))
    → Clean (gist w) (interrupt_plan (cpu_of (gist w)) (gist w).core.bus) → Done (gist w) (planned (gist w) (interrupt_plan (cpu_of (gist w)) (gist w).core.bus)) (interrupt_at (cpu_of (gist w)) (interrupt_vector (cpu_of (gist w)) (gist w).core.bus))
unfolding interrupt_plan interrupt_at interrupt_vector
service_done w fit kd lp mb below pa cl =
    interrupt_done w fit kd lp mb (pending_level (cpu_of (gist w))) (interrupt_vector (cpu_of (gist w)) (gist w).core.bus) (vector_fits _ _) (m_is_set (cpu_of (gist w))) (is060 (kind_of (cpu_of (gist w)))) (is_ec020_plus (kind_of (cpu_of (gist w)))) refl refl refl below pa cl

-- ---- every call

by_name : (x : World) (n : Stacked) (p q : Plan) → q ≡ p → (Clean x q → Done x (planned x q) n) → Clean x p → Done x (planned x p) n
by_name x n p q e f = subst (λ (r : Plan). Clean x r → Done x (planned x r) n) e f

module _ (w : World) (fit : Fit (cpu_of (gist w))) (kd : kind_of (cpu_of (gist w)) < 12) (lp : Narrow (cpu_of (gist w)) (pc_of (cpu_of (gist w)))) (lq : Narrow (cpu_of (gist w)) (ppc_of (cpu_of (gist w))))
    (mb : m_bit (get_sr (cpu_of (gist w))) ≡ nonzero (cpu_of (gist w)).flags.m_flag) where
  abbrev x2 : World
  x2 = gist w

  abbrev k2 : ℕ
  k2 = kind_of (cpu_of (gist w))

  pub call_done : (c : Call) (p : Plan) → plan_of w c ≡ some p → (matter_of c).vector < 256 → ((matter_of c).floating ≡ true → is060 (kind_of (cpu_of (gist w))) ≡ true) → (error_call c ≡ true → eqb (kind_of (cpu_of (gist w))) 1 ≡ false)
      → BelowTop (kind_of (cpu_of (gist w))) (frames_of (stacks (gist w) c)) → Apart (kind_of (cpu_of (gist w))) (frames_of (stacks (gist w) c)) → Clean (gist w) p → Done (gist w) (planned (gist w) p) (stacks (gist w) c)
  unfolding plan_of stacks BelowTop matter_of error_call
  call_done (TakeException v) p e vec fl er below pa = let u = unless (in_exception (cpu_of w)) p _ e in by_name x2 (stacks (gist w) (TakeException v)) p _ (exc_same w v ∙ u.1) (exc_done w fit kd lp lq v vec below.0)
  call_done (Trap n) p e vec fl er below pa = let u = unless (in_exception (cpu_of w)) p _ e in by_name x2 (stacks (gist w) (Trap n)) p _ (exc_same w (32 + n % 16) ∙ u.1) (exc_done w fit kd lp lq (32 + n % 16) (omega arith) below.0)
  call_done (TakeGroup2Exception v) p e vec fl er below pa = by_name x2 (stacks (gist w) (TakeGroup2Exception v)) p _ (group_same w v ∙ is_some _ p e) (group_done w fit kd lp lq v vec below.0)
  call_done ExceptionChk p e vec fl er below pa = by_name x2 (stacks (gist w) ExceptionChk) p _ (group_same w 6 ∙ is_some _ p e) (group_done w fit kd lp lq 6 (omega arith) below.0)
  call_done ExceptionZeroDivide p e vec fl er below pa = by_name x2 (stacks (gist w) ExceptionZeroDivide) p _ (group_same w 5 ∙ is_some _ p e) (group_done w fit kd lp lq 5 (omega arith) below.0)
  call_done ExceptionPrivilege p e vec fl er below pa = let u = unless (in_exception (cpu_of w)) p _ e in by_name x2 (stacks (gist w) ExceptionPrivilege) p _ (exc_same w 8 ∙ u.1) (exc_done w fit kd lp lq 8 (omega arith) below.0)
  call_done ExceptionTrace p e vec fl er below pa = by_name x2 (stacks (gist w) ExceptionTrace) p _ (trace_same w ∙ is_some _ p e) (trace_done w fit kd lp lq below.0)
  call_done (ExceptionAddressError a write instruction) p e vec fl er below pa = by_name x2 (stacks (gist w) (ExceptionAddressError a write instruction)) p _ (is_some _ p e) (address_done w fit kd lp lq a write instruction (er refl) below.0)
  call_done (ExceptionBusError a write instruction z cause) p e vec fl er below pa = by_name x2 (stacks (gist w) (ExceptionBusError a write instruction z cause)) p _ (is_some _ p e) (bus_done w fit kd lp lq a write instruction z (cause_number cause) (er refl) below.0)
  call_done (TakeFpUnimp060 ea) p e vec fl er below pa = by_name x2 (stacks (gist w) (TakeFpUnimp060 ea)) p _ (unimp_same w ea ∙ is_some _ p e) (unimp_done w fit kd lp lq ea (fl refl) below.0)
  call_done TakeFpDisabled060 p e vec fl er below pa = by_name x2 (stacks (gist w) TakeFpDisabled060) p _ (disabled_same w ∙ is_some _ p e) (disabled_done w fit kd lp lq (fl refl) below.0)
  call_done TakeAlineException p e vec fl er below pa = let u = unless (in_exception (cpu_of w)) p _ e in by_name x2 (stacks (gist w) TakeAlineException) p _ (rewound_same w 10 ∙ u.1) (rewound_done w fit kd lp lq 10 (omega arith) below.0)
  call_done TakeFlineException p e vec fl er below pa = let u = unless (in_exception (cpu_of w)) p _ e in by_name x2 (stacks (gist w) TakeFlineException) p _ (rewound_same w 11 ∙ u.1) (rewound_done w fit kd lp lq 11 (omega arith) below.0)
  call_done (TakeTrapException n) p e vec fl er below pa = let u = unless (in_exception (cpu_of w)) p _ e in by_name x2 (stacks (gist w) (TakeTrapException n)) p _ (exc_same w (32 + n % 16) ∙ u.1) (exc_done w fit kd lp lq (32 + n % 16) (omega arith) below.0)
  call_done TakeBkptException p e vec fl er below pa = let u = unless (in_exception (cpu_of w)) p _ e in by_name x2 (stacks (gist w) TakeBkptException) p _ (rewound_same w 4 ∙ u.1) (rewound_done w fit kd lp lq 4 (omega arith) below.0)
  call_done TakeIllegalException p e vec fl er below pa = let u = unless (in_exception (cpu_of w)) p _ e in by_name x2 (stacks (gist w) TakeIllegalException) p _ (rewound_same w 4 ∙ u.1) (rewound_done w fit kd lp lq 4 (omega arith) below.0)
  call_done CheckAndServiceInterrupts p e vec fl er below pa = let u = only_if (takes_interrupt (cpu_of w)) p _ e in by_name x2 (stacks (gist w) CheckAndServiceInterrupts) p _ (interrupt_same w ∙ u.1) (service_done w fit kd lp mb below pa)
  call_done (TriggerAddressError a write instruction) p e vec fl er below pa = no_plan_lem p e
  call_done (TriggerBusError a write instruction z) p e vec fl er below pa = no_plan_lem p e
  call_done CheckTrace p e vec fl er below pa = no_plan_lem p e
  call_done (SetIrq n) p e vec fl er below pa = no_plan_lem p e
  call_done CheckInterrupts p e vec fl er below pa = no_plan_lem p e
  call_done (Read16 a) p e vec fl er below pa = no_plan_lem p e
  call_done (Read32 a) p e vec fl er below pa = no_plan_lem p e
  call_done (Write16 a v) p e vec fl er below pa = no_plan_lem p e
  call_done (Write32 a v) p e vec fl er below pa = no_plan_lem p e
  call_done (Push16 v) p e vec fl er below pa = no_plan_lem p e
  call_done (Push32 v) p e vec fl er below pa = no_plan_lem p e
  call_done PrefetchFirst p e vec fl er below pa = no_plan_lem p e
  call_done PrefetchSecond p e vec fl er below pa = no_plan_lem p e

pub kind_regs : (c : Cpu) → (regs_of c).kind ≡ kind_of c
unfolding regs_of
kind_regs c = refl

done_law : (x z : World) (st : Stacked) → Done x z st → Law x z st
done_law x z (one n) d = record { does = d.does; outside = λ a o. d.outside a (λ h. o (rw (kind_regs (cpu_of x)) h)) }
done_law x z (two h n) d = record { does = d.does; outside = λ a o. d.outside a (λ y. o (rw (kind_regs (cpu_of x)) y)) }

-- the closed form of the frames looks at the gist alone
stacks_gist : (w : World) (c : Call) → stacks (gist w) c ≡ stacks w c
unfolding stacks short_at group_at address_at bus_at throw_at interrupt_at interrupt_vector response_of stack_top stacks_of gist gist_cpu calm kind_of a7_of get_sr pc_of ppc_of stacked_address rewind_pc pending_level m_is_set
stacks_gist w (TakeException v) = refl
stacks_gist w (Trap n) = refl
stacks_gist w (TakeGroup2Exception v) = refl
stacks_gist w ExceptionChk = refl
stacks_gist w ExceptionZeroDivide = refl
stacks_gist w ExceptionPrivilege = refl
stacks_gist w ExceptionTrace = refl
stacks_gist w (ExceptionAddressError a write instruction) = refl
stacks_gist w (ExceptionBusError a write instruction z cause) = refl
stacks_gist w (TakeFpUnimp060 ea) = refl
stacks_gist w TakeFpDisabled060 = refl
stacks_gist w TakeAlineException = refl
stacks_gist w TakeFlineException = refl
stacks_gist w (TakeTrapException n) = refl
stacks_gist w TakeBkptException = refl
stacks_gist w TakeIllegalException = refl
stacks_gist w (TriggerAddressError a write instruction) = refl
stacks_gist w (TriggerBusError a write instruction z) = refl
stacks_gist w CheckTrace = refl
stacks_gist w (SetIrq n) = refl
stacks_gist w CheckInterrupts = refl
stacks_gist w (Read16 a) = refl
stacks_gist w (Read32 a) = refl
stacks_gist w (Write16 a v) = refl
stacks_gist w (Write32 a v) = refl
stacks_gist w (Push16 v) = refl
stacks_gist w (Push32 v) = refl
stacks_gist w PrefetchFirst = refl
stacks_gist w PrefetchSecond = refl
stacks_gist w CheckAndServiceInterrupts = refl

module _ (w : World) (c : Call) (r : refusal w c ≡ 0) (d : Domain (cpu_of w)) where
  fits : Fit (cpu_of (gist w))
  unfolding gist gist_cpu
  fits = record { registers = d.registers; pointers = d.pointers; s_is_lem = accepted_s w c r; m_is_lem = accepted_m w c r }

  kind_small : kind_of (cpu_of (gist w)) < 12
  unfolding gist gist_cpu kind_of
  kind_small = accepted_kind w c r

  pc_small : Narrow (cpu_of (gist w)) (pc_of (cpu_of (gist w)))
  unfolding gist gist_cpu pc_of kind_of
  pc_small = d.pc

  ppc_small : Narrow (cpu_of (gist w)) (ppc_of (cpu_of (gist w)))
  unfolding gist gist_cpu ppc_of kind_of
  ppc_small = d.ppc

  begun_at : (p : Plan) → plan_of (begun w) c ≡ some p → m_bit (get_sr (cpu_of w)) ≡ nonzero (cpu_of w).flags.m_flag → Clean (gist w) p → (error_call c ≡ true → eqb (kind_of (cpu_of w)) 1 ≡ false)
      → BelowTop (kind_of (cpu_of w)) (frames_of (stacks w c)) → Apart (kind_of (cpu_of w)) (frames_of (stacks w c)) → Done (gist w) (planned (gist w) p) (stacks (gist w) c)
  unfolding begun restarted gist gist_cpu calm kind_of get_sr
  begun_at p e mb cl er below pa =
      call_done (begun w) fits kind_small pc_small ppc_small mb c p e (accepted_vector w c r) (accepted_floating w c r) er
      (subst (λ (s : Stacked). BelowTop (kind_of (cpu_of w)) (frames_of s)) (sym (stacks_gist w c)) below) (subst (λ (s : Stacked). Apart (kind_of (cpu_of w)) (frames_of s)) (sym (stacks_gist w c)) pa) cl

  -- an entry that is accepted and taken does what the nest asks of it
  pub entered : (p : Plan) → plan_of (begun w) c ≡ some p → m_bit (get_sr (cpu_of w)) ≡ nonzero (cpu_of w).flags.m_flag → Clean (gist w) p → (error_call c ≡ true → eqb (kind_of (cpu_of w)) 1 ≡ false)
      → BelowTop (kind_of (cpu_of w)) (frames_of (stacks w c)) → Apart (kind_of (cpu_of w)) (frames_of (stacks w c)) → Law w (perform w c).after (stacks w c)
  entered p e mb cl er below pa =
      law_gist w (perform w c).after (stacks w c)
      (subst (λ (z : World). Law (gist w) z (stacks w c)) (sym (entry_form w c p r e cl))
      (subst (λ (s : Stacked). Law (gist w) (planned (gist w) p) s) (stacks_gist w c)
      (done_law (gist w) (planned (gist w) p) (stacks (gist w) c) (begun_at p e mb cl er below pa))))

running_of : (c : Cpu) → Sound (regs_of c) → is_faulted c ≡ false
unfolding regs_of is_faulted
running_of c s = ne_eqb c.flow.run_mode 1 s.not_faulted

m_of_lem : (c : Cpu) → Sound (regs_of c) → m_bit (get_sr c) ≡ nonzero c.flags.m_flag
unfolding regs_of
m_of_lem c s = s.m_is

pub whole_of : (c : Cpu) → Inside c → Sound (regs_of c) → Whole c
whole_of c i s = record { running = running_of c s; registers = i.registers; pointers = i.pointers; a7 = i.a7; saved = i.saved }

-- THE LAW of the nest, on the project's own definitions: refused by no number, taken, sound, inside the domain, clean by the closed test,
-- no 68000 error frame, frames apart and below the top
pub nested : (w : World) (c : Call) (p : Plan) → refusal w c ≡ 0 → plan_of (begun w) c ≡ some p → Inside (cpu_of w) → Sound (regs_of (cpu_of w)) → clean_test (gist w) p ≡ true → (error_call c ≡ true → kind_of (cpu_of w) ≢ 1)
    → BelowTop (kind_of (cpu_of w)) (frames_of (stacks w c)) → Apart (kind_of (cpu_of w)) (frames_of (stacks w c)) → Law w (perform w c).after (stacks w c)
nested w c p r e i s t er below pa =
    entered w c r (record { registers = i.registers; pointers = i.pointers; pc = i.pc; ppc = i.ppc }) p e (m_of_lem (cpu_of w) s) (entry_clean w c p r e (whole_of (cpu_of w) i s) t) (λ q. ne_eqb (kind_of (cpu_of w)) 1 (er q)) below pa
