-- Theorems about what specs/QuietEntries defines, and what rests on them.
use Rattle.std.specs.Prelude.{ℕ, ◌≤◌, ◌<◌, ◌≡◌, refl, Bool, true, false, eqb, length}
use Rattle.std.proofs.Common.{sym, ◌∙◌, arith}
use Rattle.std.proofs.Math.Path.{subst}
use Rattle.types.specs.Kinds.{pick, both, is_pre68020}
use Rattle.cpu.specs.declared.Cpu.{Cpu}
use Rattle.cpu.specs.Fields.{kind_of, pc_of, ppc_of, in_exception, set_exception, rewind_pc, note_fpiar, leave_stop}
use Rattle.cpu.specs.Clocks.{internal_cycles}
use Rattle.status.specs.Status.{get_sr}
use Rattle.status.specs.Banks.{enter_supervisor}
use Rattle.memory.specs.World.{World, with_cpu, put_cpu, cpu_of}
use Rattle.frames.specs.declared.Frame.{Frame}
use Rattle.frames.specs.Frames.{address_frame, bus_frame}
use Rattle.steps.specs.Steps.{enter_bus_error, stacked_address, begin_entry, begin_trace}
use Rattle.access.specs.Access.{raised, push_frame, push_exception_frame68000, jump_vector, exception_address_error, exception_bus_error}
use Rattle.formats.specs.Formats.{format_word, offset_word, short_frame, long_frame, disabled_frame}
use Rattle.exceptions.specs.Exceptions.{supervised, stack_short, finished, taken, take_exception, stack_group2, take_group2, exception_trace, take_rewound, stack_unimp, take_fp_unimp060, stack_disabled, take_fp_disabled060}
use Rattle.images.specs.Images.{Ready, most_store, new_a7}
use Rattle.forms.specs.Gist.{gist, framed_by, stacked_form}
use Rattle.forms.specs.Orders.{words6}
use Rattle.forms.specs.Plans.{turned, stack_all, same, single, short_of, exc_plan, rewound_plan, group2_frame, group2_plan, trace_plan, fp_unimp_plan, fp_disabled_plan, address_plan, bus_plan}
use Rattle.forms.specs.Tests.{Whole, stacks_test, reach_test, clean_test, whole_sound, test_allowed, safe_enter, safe_exception, safe_rewound, safe_traced, safe_fpiar, safe_bus}
use Rattle.forms.specs.Entries.{Alike, turn_form, short_stack, begun_alike, alike_status, alike_kind, alike_stacked, marked_status, marked_kind, marked_stacked, begin_gist, rewound_inside, framed2, group2_stack, trace_frame, trace_gist, seen_supervisor, seen_exception, seen_rewound, seen_trace, seen_fpiar, seen_bus}
use Rattle.forms.specs.Interrupts.{still_form}
use Rattle.forms.specs.Quiet.{Booked, book_less}
use Rattle.forms.specs.QuietFrames.{frame_test, both_true}
use Rattle.forms.proofs.QuietFrames.{frame_tale, short_tale}
use Rattle.forms.specs.QuietJumps.{jump_tale}
use Rattle.forms.specs.QuietEntries.{super_book, bus_book, mark_book, rewind_book, stop_book, fpiar_book, cycles_book, whole_regs, Placed, placed_turn, address_count, bus_count}

-- ---- a frame whose test holds is ready

pub ready_of : (y : World) (f : Frame) → Whole (cpu_of y) → length y.store ≤ most_store → frame_test y f ≡ true → Ready y f
ready_of y f h l e = record { sound = whole_sound (cpu_of y) h; allowed = test_allowed y.core.bus (length y.store) (kind_of (cpu_of y)) (new_a7 y f) f f.count e; small = l }

-- ---- an entry of one frame

single_tale : (y x : World) (turn close : Cpu → Cpu) (f : Frame) (v : ℕ) → Booked 5 (frame_test (turned x turn) f) y → (frame_test (turned x turn) f ≡ true → gist y ≡ framed_by (turned x turn) f)
    → Booked 0 (clean_test x (single turn f v close)) (jump_vector raised y v)
unfolding clean_test stacks_test stack_all
single_tale y x turn close f v p e =
    subst (λ (t : Bool). Booked 0 (both t (reach_test (turned (framed_by (turned x turn) f) same) v)) (jump_vector raised y v)) (sym (both_true (frame_test (turned x turn) f)))
    (jump_tale 2 y (turned (framed_by (turned x turn) f) same) v 0 (frame_test (turned x turn) f) (λ t. still_form y (framed_by (turned x turn) f) (e t)) p)

-- status, address and format word by the kind's own writes
short_book : (w y : World) (pc fw sr k : ℕ) → 15 < length (cpu_of y).regs.dar → gist (supervised w) ≡ y → get_sr (cpu_of w) ≡ sr → kind_of (cpu_of w) ≡ k → Booked 8 true (supervised w)
    → Booked 5 (frame_test y (short_of k sr pc fw)) (stack_short w pc fw)
unfolding stack_short short_of short_frame
short_book w y pc fw sr k l e d c p = rw (d, c) (go (eqb k 1))
  where
    go : (b : Bool) → Booked 5 (frame_test y (pick b (words6 sr pc) (short_frame sr pc fw))) (pick b (push_exception_frame68000 raised (supervised w) pc sr) (push_frame raised (supervised w) (short_frame sr pc fw)))
    go true = short_tale 2 (supervised w) y sr pc 5 true l (λ t. e) p
    go false = frame_tale 2 (supervised w) y (short_frame sr pc fw) 5 true l (λ t. e) p

taken_book : (w x : World) (turn : Cpu → Cpu) (v : ℕ) → Placed (turned x turn) → gist (with_cpu w (enter_supervisor (set_exception (cpu_of w) true))) ≡ turned x turn → Booked 9 true w
    → Booked 0 (clean_test x (single turn (short_of (kind_of (cpu_of w)) (get_sr (cpu_of w)) (stacked_address (cpu_of w) v) (offset_word v)) v (λ d. set_exception d false))) (taken (with_cpu w (begin_entry (cpu_of w))) v)
unfolding taken finished begin_entry put_cpu
taken_book w x turn v h e p =
    let c : Cpu = set_exception (cpu_of w) true in
    let d : Cpu = internal_cycles c 4 in
    let a : Alike d c = begun_alike c 4 in
    let s : ℕ = stacked_address (cpu_of w) v in
    let q : stacked_address d v ≡ s = alike_stacked d c a v ∙ marked_stacked (cpu_of w) v in
    let f : Frame = short_of (kind_of (cpu_of w)) (get_sr (cpu_of w)) s (offset_word v) in
    let z : World = with_cpu w d in
    let y : World = stack_short z s (offset_word v) in
    let g : gist (supervised z) ≡ turned x turn = begin_gist w ∙ e in
    let i : get_sr d ≡ get_sr (cpu_of w) = alike_status d c a ∙ marked_status (cpu_of w) in
    let j : kind_of d ≡ kind_of (cpu_of w) = alike_kind d c a ∙ marked_kind (cpu_of w) in
    let b : Booked 5 (frame_test (turned x turn) f) y = short_book z (turned x turn) s (offset_word v) (get_sr (cpu_of w)) (kind_of (cpu_of w)) (whole_regs (turned x turn) h.whole) g i j
    (super_book z (cycles_book (with_cpu w c) 4 (mark_book w p true))) in
    let r : Booked 0 (clean_test x (single turn f v (λ d. set_exception d false))) (jump_vector raised y v) = single_tale y x turn (λ d. set_exception d false) f v b
    (λ t. short_stack z (turned x turn) s (offset_word v) (get_sr (cpu_of w)) (kind_of (cpu_of w)) g i j (ready_of (turned x turn) f h.whole h.small t)) in
    subst (λ (k : ℕ). Booked 0 (clean_test x (single turn f v (λ d. set_exception d false))) (finished (jump_vector raised (stack_short z k (offset_word v)) v))) (sym q) (mark_book (jump_vector raised y v) r false)

module _ (w x : World) (e : gist w ≡ x) (h : Placed x) (p : Booked 60 true w) where
  pub exc_book : (v : ℕ) → in_exception (cpu_of w) ≡ false → Booked 0 (clean_test x (exc_plan (cpu_of w) v)) (take_exception w v).after
  unfolding take_exception exc_plan
  exc_book v i =
      rw i (taken_book w x (λ d. enter_supervisor (set_exception d true)) v (placed_turn x (λ d. enter_supervisor (set_exception d true)) safe_exception h)
      (turn_form w x (λ d. enter_supervisor (set_exception d true)) seen_exception e) (book_less (omega arith) p))

  pub rewound_book : (v : ℕ) → in_exception (cpu_of w) ≡ false → Booked 0 (clean_test x (rewound_plan (cpu_of w) v)) (take_rewound w v).after
  unfolding take_rewound take_exception rewound_plan put_cpu get_sr kind_of rewind_pc
  rewound_book v i =
      let turn : Cpu → Cpu = λ d. enter_supervisor (set_exception (rewind_pc d) true) in
      rw (rewound_inside (cpu_of w) ∙ i)
      (taken_book (with_cpu w (rewind_pc (cpu_of w))) x turn v (placed_turn x turn safe_rewound h) (turn_form w x turn seen_rewound e) (book_less (omega arith) (rewind_book w p)))

-- ---- group 2

group2_frame_lem : (w y : World) (v : ℕ) → 15 < length (cpu_of y).regs.dar → gist (supervised w) ≡ y → Booked 9 true (supervised w) → Booked 5 (frame_test y (framed2 (cpu_of w) v)) (stack_group2 w v)
unfolding stack_group2 group2_frame long_frame
group2_frame_lem w y v l e p = go (is_pre68020 (kind_of (cpu_of w)))
  where
    S : World
    S = stack_short w (pc_of (cpu_of w)) (offset_word v)

    F : Frame
    F = short_of (kind_of (cpu_of w)) (get_sr (cpu_of w)) (pc_of (cpu_of w)) (offset_word v)

    L : Frame
    L = long_frame (get_sr (cpu_of w)) (pc_of (cpu_of w)) (format_word 2 v) (ppc_of (cpu_of w))

    short : Booked 5 (frame_test y F) S
    short = short_book w y (pc_of (cpu_of w)) (offset_word v) (get_sr (cpu_of w)) (kind_of (cpu_of w)) l e refl refl (book_less (omega arith) p)

    go : (b : Bool) → Booked 5 (frame_test y (pick b F L)) (pick b S (push_frame raised (supervised w) L))
    go true = short
    go false = frame_tale 2 (supervised w) y L 5 true l (λ t. e) p

group2_any : (w x : World) (turn : Cpu → Cpu) (v : ℕ) → Placed (turned x turn) → gist (supervised w) ≡ turned x turn → Booked 9 true (supervised w) → Booked 0 (clean_test x (single turn (framed2 (cpu_of w) v) v same)) (take_group2 w v).after
unfolding take_group2
group2_any w x turn v h e p =
    single_tale (stack_group2 w v) x turn same (framed2 (cpu_of w) v) v (group2_frame_lem w (turned x turn) v (whole_regs (turned x turn) h.whole) e p)
    (λ t. group2_stack w (turned x turn) v e (ready_of (turned x turn) (framed2 (cpu_of w) v) h.whole h.small t))

-- ---- frames by pushes alone

pushes_book : (y x : World) (turn : Cpu → Cpu) (f : Frame) (v : ℕ) → f.count ≤ 28 → Placed (turned x turn) → gist y ≡ turned x turn → Booked 60 true y → Booked 0 (clean_test x (single turn f v same)) (jump_vector raised (push_frame raised y f) v)
pushes_book y x turn f v c h e p =
    single_tale (push_frame raised y f) x turn same f v (frame_tale 2 y (turned x turn) f 5 true (whole_regs (turned x turn) h.whole) (λ t. e) (book_less (omega arith) p))
    (λ t. let r = ready_of (turned x turn) f h.whole h.small t in stacked_form raised y (turned x turn) f e r.sound r.allowed)

module _ (w x : World) (e : gist w ≡ x) (h : Placed x) (p : Booked 60 true w) where
  -- `take_group2_exception`
  pub group2_book : (v : ℕ) → Booked 0 (clean_test x (group2_plan (cpu_of w) v)) (take_group2 w v).after
  unfolding group2_plan
  group2_book v = group2_any w x enter_supervisor v (placed_turn x enter_supervisor safe_enter h) (turn_form w x enter_supervisor seen_supervisor e) (book_less (omega arith) (super_book w p))

  -- `exception_trace`
  pub trace_book : Booked 0 (clean_test x (trace_plan (cpu_of w))) (exception_trace w).after
  unfolding exception_trace trace_plan begin_trace put_cpu
  trace_book =
      let turn : Cpu → Cpu = λ d. enter_supervisor (leave_stop d) in
      let z : World = with_cpu w (begin_trace (cpu_of w)) in
      subst (λ (f : Frame). Booked 0 (clean_test x (single turn f 9 same)) (take_group2 z 9).after) (trace_frame (cpu_of w) 9)
      (group2_any z x turn 9 (placed_turn x turn safe_traced h) (trace_gist w ∙ turn_form w x turn seen_trace e)
      (super_book z (cycles_book (with_cpu w (leave_stop (cpu_of w))) 4 (book_less (omega arith) (stop_book w p)))))

  -- the two 060 floating-point entries
  pub fp_unimp_book : (ea : ℕ) → Booked 0 (clean_test x (fp_unimp_plan (cpu_of w) ea)) (take_fp_unimp060 w ea).after
  unfolding take_fp_unimp060 stack_unimp fp_unimp_plan long_frame put_cpu get_sr pc_of note_fpiar
  fp_unimp_book ea =
      let turn : Cpu → Cpu = λ d. enter_supervisor (note_fpiar d) in
      pushes_book (with_cpu w (turn (cpu_of w))) x turn (long_frame (get_sr (cpu_of w)) (pc_of (cpu_of w)) (format_word 2 11) ea) 11 (omega arith) (placed_turn x turn safe_fpiar h) (turn_form w x turn seen_fpiar e)
      (super_book (with_cpu w (note_fpiar (cpu_of w))) (fpiar_book w p))

  pub fp_disabled_book : Booked 0 (clean_test x (fp_disabled_plan (cpu_of w))) (take_fp_disabled060 w).after
  unfolding take_fp_disabled060 stack_disabled fp_disabled_plan disabled_frame
  fp_disabled_book =
      pushes_book (supervised w) x enter_supervisor (disabled_frame (get_sr (cpu_of w)) (ppc_of (cpu_of w)) (format_word 4 11) 0 (ppc_of (cpu_of w))) 11 (omega arith) (placed_turn x enter_supervisor safe_enter h)
      (turn_form w x enter_supervisor seen_supervisor e) (super_book w p)

  -- both error entries
  pub address_book : (a : ℕ) (write instruction : Bool) → Booked 0 (clean_test x (address_plan (cpu_of w) a write instruction)) (exception_address_error raised w a write instruction)
  unfolding exception_address_error address_plan
  address_book a write instruction =
      pushes_book (supervised w) x enter_supervisor (address_frame (cpu_of w) a write instruction) 3 (address_count (cpu_of w) a write instruction) (placed_turn x enter_supervisor safe_enter h)
      (turn_form w x enter_supervisor seen_supervisor e) (super_book w p)

  pub bus_error_book : (a : ℕ) (write instruction : Bool) (z cause : ℕ) → Booked 0 (clean_test x (bus_plan (cpu_of w) a write instruction z cause)) (exception_bus_error raised w a write instruction z cause)
  unfolding exception_bus_error bus_plan
  bus_error_book a write instruction z cause =
      pushes_book (with_cpu w (enter_bus_error (cpu_of w))) x enter_bus_error (bus_frame (cpu_of w) a write instruction z cause) 2 (bus_count (cpu_of w) a write instruction z cause) (placed_turn x enter_bus_error safe_bus h)
      (turn_form w x enter_bus_error seen_bus e) (bus_book w p)
