-- Each entry that is no interrupt leaves what its plan says, where nothing faults.
use Rattle.std.specs.Prelude.{ℕ, ◌+◌, ◌%◌, ◌^◌, ◌≡◌, Bool, true, false, [], eqb}
use Rattle.std.proofs.Math.Path.{refl, ap}
use Rattle.std.proofs.Common.{sym, ◌∙◌, subst}
use Rattle.types.specs.Kinds.{pick, is_pre68020}
use Rattle.cpu.specs.declared.Cpu.{Cpu}
use Rattle.cpu.specs.declared.Flow.{Flow}
use Rattle.cpu.specs.Fields.{kind_of, pc_of, ppc_of, in_exception, set_exception, rewind_pc, note_fpiar, leave_stop, clear_fc_override}
use Rattle.cpu.specs.Clocks.{internal_cycles, prefetch_enabled, set_clocks, clocks_of}
use Rattle.status.specs.Status.{get_sr, compose, clear_trace}
use Rattle.status.specs.Banks.{sp_index, backup_sp, restore_sp, put_s, set_sflag, enter_supervisor}
use Rattle.memory.specs.World.{World, world, put_cpu, cpu_of, with_cpu, step}
use Rattle.frames.specs.declared.Frame.{Frame}
use Rattle.frames.specs.Frames.{address_frame, bus_frame}
use Rattle.steps.specs.Steps.{enter_bus_error, stacked_address, begin_entry, begin_trace}
use Rattle.access.specs.Access.{Raise, raised, push_frame, push_exception_frame68000, jump_vector, exception_address_error, exception_bus_error}
use Rattle.formats.specs.Formats.{format_word, offset_word, short_frame, long_frame, disabled_frame}
use Rattle.exceptions.specs.Exceptions.{supervised, stack_short, finished, taken, take_exception, stack_group2, take_group2, exception_trace, take_rewound, stack_unimp, take_fp_unimp060, stack_disabled, take_fp_disabled060}
use Rattle.images.specs.Pushes.{calm}
use Rattle.images.specs.Images.{Ready}
use Rattle.images.specs.Jumps.{Reachable}
use Rattle.forms.specs.Gist.{gist, gist_cpu, framed_by, stacked_form}
use Rattle.forms.specs.Jumps.{jumped, jump_form, cycles_gist}
use Rattle.forms.specs.Orders.{words6, short_form}
use Rattle.forms.specs.Plans.{turned, stack_all, planned, AllReady, Clean, same, single, short_of, exc_plan, rewound_plan, group2_frame, group2_plan, trace_plan, fp_unimp_plan, fp_disabled_plan, address_plan, bus_plan}

-- ---- a change of the record, seen through the gist

-- a change that does not look at what the gist leaves out
abbrev pub Seen : (Cpu → Cpu) → Type 0
Seen f = (c : Cpu) → gist_cpu (f c) ≡ gist_cpu (f (gist_cpu c))

pub turn_form : (w x : World) (f : Cpu → Cpu) → Seen f → gist w ≡ x → gist (step f w) ≡ turned x f
unfolding turned gist put_cpu calm
turn_form w x f s e =
    ap (λ (c : Cpu). world (record { cpu = c; bus = calm w.core.bus }) w.store []) (s (cpu_of w)) ∙ ap (λ (y : World). turned y f) e

pub seen_same : Seen same
unfolding gist_cpu
seen_same c = refl

pub seen_supervisor : Seen enter_supervisor
unfolding gist_cpu enter_supervisor clear_trace set_sflag restore_sp put_s backup_sp sp_index
seen_supervisor c = refl

pub seen_exception : Seen (λ d. enter_supervisor (set_exception d true))
unfolding gist_cpu enter_supervisor clear_trace set_sflag restore_sp put_s backup_sp sp_index set_exception
seen_exception c = refl

pub seen_rewound : Seen (λ d. enter_supervisor (set_exception (rewind_pc d) true))
unfolding gist_cpu enter_supervisor clear_trace set_sflag restore_sp put_s backup_sp sp_index set_exception rewind_pc
seen_rewound c = refl

pub seen_trace : Seen (λ d. enter_supervisor (leave_stop d))
unfolding gist_cpu enter_supervisor clear_trace set_sflag restore_sp put_s backup_sp sp_index leave_stop
seen_trace c = refl

pub seen_fpiar : Seen (λ d. enter_supervisor (note_fpiar d))
unfolding gist_cpu enter_supervisor clear_trace set_sflag restore_sp put_s backup_sp sp_index note_fpiar
seen_fpiar c = refl

pub seen_bus : Seen enter_bus_error
unfolding gist_cpu enter_bus_error clear_fc_override enter_supervisor clear_trace set_sflag restore_sp put_s backup_sp sp_index
seen_bus c = refl

seen_end : Seen (λ d. set_exception d false)
unfolding gist_cpu set_exception
seen_end c = refl

-- ---- an entry of one frame

stays : (y : World) → gist y ≡ gist (with_cpu y (cpu_of y))
unfolding put_cpu
stays y = refl

-- the frame, the jump and the end, once the frame's own writes are known
pub single_form : (t : Raise) (y x : World) (turn close : Cpu → Cpu) (f : Frame) (v : ℕ) → gist y ≡ framed_by (turned x turn) f → Seen close → Reachable (turned (framed_by (turned x turn) f) same) v
    → gist (with_cpu (jump_vector t y v) (close (cpu_of (jump_vector t y v)))) ≡ planned x (single turn f v close)
unfolding planned stack_all
single_form t y x turn close f v e s r =
    turn_form (jump_vector t y v) (jumped (turned (framed_by (turned x turn) f) same) v) close s
    (jump_form t y (turned (framed_by (turned x turn) f) same) v (stays y ∙ turn_form y (framed_by (turned x turn) f) same seen_same e) r)

-- status, address and format word by the kind's own writes
pub short_stack : (w y : World) (pc fw sr k : ℕ) → gist (supervised w) ≡ y → get_sr (cpu_of w) ≡ sr → kind_of (cpu_of w) ≡ k → Ready y (short_of k sr pc fw) → gist (stack_short w pc fw) ≡ framed_by y (short_of k sr pc fw)
unfolding stack_short short_of
short_stack w y pc fw sr k e d c h = rw (d, c) (go (eqb k 1) h)
  where
    go : (b : Bool) → Ready y (pick b (words6 sr pc) (short_frame sr pc fw))
        → gist (pick b (push_exception_frame68000 raised (supervised w) pc sr) (push_frame raised (supervised w) (short_frame sr pc fw))) ≡ framed_by y (pick b (words6 sr pc) (short_frame sr pc fw))
    go true r = short_form raised (supervised w) y sr pc e r
    go false r = stacked_form raised (supervised w) y (short_frame sr pc fw) e r.sound r.allowed

-- a record that differs in the queue alone
pub record Alike (c d : Cpu) : Type 0 where
  pub flow : c.flow ≡ d.flow
  pub flags : c.flags ≡ d.flags

pub begun_alike : (c : Cpu) (n : ℕ) → Alike (internal_cycles c n) c
unfolding internal_cycles set_clocks
begun_alike c n = go (prefetch_enabled c)
  where
    go : (b : Bool) → Alike (pick b (set_clocks c ((clocks_of c + n) % 2 ^ 32)) c) c
    go true = record { flow = refl; flags = refl }
    go false = record { flow = refl; flags = refl }

pub alike_status : (c d : Cpu) → Alike c d → get_sr c ≡ get_sr d
unfolding get_sr
alike_status c d a = ap compose a.flags

module _ (c d : Cpu) (a : Alike c d) where
  pub alike_kind : kind_of c ≡ kind_of d
  unfolding kind_of
  alike_kind = ap (λ (f : Flow). f.cpu_type) a.flow

  alike_pc : pc_of c ≡ pc_of d
  unfolding pc_of
  alike_pc = ap (λ (f : Flow). f.pc) a.flow

  alike_ppc : ppc_of c ≡ ppc_of d
  unfolding ppc_of
  alike_ppc = ap (λ (f : Flow). f.ppc) a.flow

  pub alike_stacked : (v : ℕ) → stacked_address c v ≡ stacked_address d v
  unfolding stacked_address
  alike_stacked v = rw (alike_pc, alike_ppc)

-- ---- `take_exception` and the wrappers

-- a record to which an entry's flag was set
module _ (c : Cpu) where
  pub marked_status : get_sr (set_exception c true) ≡ get_sr c
  unfolding get_sr set_exception
  marked_status = refl

  pub marked_kind : kind_of (set_exception c true) ≡ kind_of c
  unfolding kind_of set_exception
  marked_kind = refl

  pub marked_stacked : (v : ℕ) → stacked_address (set_exception c true) v ≡ stacked_address c v
  unfolding stacked_address pc_of ppc_of set_exception
  marked_stacked v = refl

pub begin_gist : (w : World) → gist (supervised (step begin_entry w)) ≡ gist (with_cpu w (enter_supervisor (set_exception (cpu_of w) true)))
unfolding begin_entry put_cpu
begin_gist w =
    turn_form (step begin_entry w) (gist (with_cpu w (set_exception (cpu_of w) true))) enter_supervisor seen_supervisor (cycles_gist (with_cpu w (set_exception (cpu_of w) true)) 4)
    ∙ sym (turn_form (with_cpu w (set_exception (cpu_of w) true)) (gist (with_cpu w (set_exception (cpu_of w) true))) enter_supervisor seen_supervisor refl)

-- the frame of a record c, whose gist and turn are given
taken_form : (w x : World) (turn : Cpu → Cpu) (v : ℕ) → gist (with_cpu w (enter_supervisor (set_exception (cpu_of w) true))) ≡ turned x turn
    → Clean x (single turn (short_of (kind_of (cpu_of w)) (get_sr (cpu_of w)) (stacked_address (cpu_of w) v) (offset_word v)) v (λ d. set_exception d false))
    → gist (taken (step begin_entry w) v) ≡ planned x (single turn (short_of (kind_of (cpu_of w)) (get_sr (cpu_of w)) (stacked_address (cpu_of w) v) (offset_word v)) v (λ d. set_exception d false))
unfolding taken finished begin_entry AllReady stack_all put_cpu
taken_form w x turn v e h =
    let c : Cpu = set_exception (cpu_of w) true in
    let d : Cpu = internal_cycles c 4 in
    let a : Alike d c = begun_alike c 4 in
    let p : ℕ = stacked_address (cpu_of w) v in
    let q : stacked_address d v ≡ p = alike_stacked d c a v ∙ marked_stacked (cpu_of w) v in
    let f : Frame = short_of (kind_of (cpu_of w)) (get_sr (cpu_of w)) p (offset_word v) in
    let y : World = stack_short (with_cpu w d) (stacked_address d v) (offset_word v) in
    let k : gist y ≡ framed_by (turned x turn) f = ap (λ (z : ℕ). gist (stack_short (with_cpu w d) z (offset_word v))) q
    ∙ short_stack (with_cpu w d) (turned x turn) p (offset_word v) (get_sr (cpu_of w)) (kind_of (cpu_of w)) (begin_gist w ∙ e) (alike_status d c a ∙ marked_status (cpu_of w)) (alike_kind d c a ∙ marked_kind (cpu_of w)) h.stacks.0 in
    single_form raised y x turn (λ d. set_exception d false) f v k seen_end h.reach

-- `take_exception`, every vector and kind
pub exc_form : (w x : World) (v : ℕ) → gist w ≡ x → in_exception (cpu_of w) ≡ false → Clean x (exc_plan (cpu_of w) v) → gist (take_exception w v).after ≡ planned x (exc_plan (cpu_of w) v)
unfolding take_exception exc_plan
exc_form w x v e i h = rw i (taken_form w x (λ d. enter_supervisor (set_exception d true)) v (turn_form w x (λ d. enter_supervisor (set_exception d true)) seen_exception e) h)

-- line A, line F, breakpoint, illegal
module _ (c : Cpu) where
  rewound_status : get_sr (rewind_pc c) ≡ get_sr c
  unfolding get_sr rewind_pc
  rewound_status = refl

  rewound_kind : kind_of (rewind_pc c) ≡ kind_of c
  unfolding kind_of rewind_pc
  rewound_kind = refl

  pub rewound_inside : in_exception (rewind_pc c) ≡ in_exception c
  unfolding in_exception rewind_pc
  rewound_inside = refl

pub rewound_form : (w x : World) (v : ℕ) → gist w ≡ x → in_exception (cpu_of w) ≡ false → Clean x (rewound_plan (cpu_of w) v) → gist (take_rewound w v).after ≡ planned x (rewound_plan (cpu_of w) v)
unfolding take_rewound take_exception rewound_plan put_cpu get_sr kind_of rewind_pc
rewound_form w x v e i h =
    rw (rewound_inside (cpu_of w) ∙ i)
    (taken_form (step rewind_pc w) x (λ d. enter_supervisor (set_exception (rewind_pc d) true)) v (turn_form w x (λ d. enter_supervisor (set_exception (rewind_pc d) true)) seen_rewound e) h)

-- ---- group 2

abbrev pub framed2 : Cpu → ℕ → Frame
framed2 c v = group2_frame (kind_of c) (get_sr c) (pc_of c) (ppc_of c) v

pub group2_stack : (w y : World) (v : ℕ) → gist (supervised w) ≡ y → Ready y (framed2 (cpu_of w) v) → gist (stack_group2 w v) ≡ framed_by y (framed2 (cpu_of w) v)
unfolding stack_group2 group2_frame
group2_stack w y v e h = go (is_pre68020 (kind_of (cpu_of w))) h
  where
    S : World
    S = stack_short w (pc_of (cpu_of w)) (offset_word v)

    F : Frame
    F = short_of (kind_of (cpu_of w)) (get_sr (cpu_of w)) (pc_of (cpu_of w)) (offset_word v)

    L : Frame
    L = long_frame (get_sr (cpu_of w)) (pc_of (cpu_of w)) (format_word 2 v) (ppc_of (cpu_of w))

    short : Ready y F → gist S ≡ framed_by y F
    short r = short_stack w y (pc_of (cpu_of w)) (offset_word v) (get_sr (cpu_of w)) (kind_of (cpu_of w)) e refl refl r

    go : (b : Bool) → Ready y (pick b F L) → gist (pick b S (push_frame raised (supervised w) L)) ≡ framed_by y (pick b F L)
    go true r = short r
    go false r = stacked_form raised (supervised w) y L e r.sound r.allowed

group2_any : (w x : World) (turn : Cpu → Cpu) (v : ℕ) → gist (supervised w) ≡ turned x turn → Clean x (single turn (framed2 (cpu_of w) v) v same)
    → gist (take_group2 w v).after ≡ planned x (single turn (framed2 (cpu_of w) v) v same)
unfolding take_group2 AllReady stack_all
group2_any w x turn v e h =
    stays (jump_vector raised (stack_group2 w v) v)
    ∙ single_form raised (stack_group2 w v) x turn same (framed2 (cpu_of w) v) v (group2_stack w (turned x turn) v e h.stacks.0) seen_same h.reach

-- `take_group2_exception`: CHK, zero divide and the others
pub group2_form : (w x : World) (v : ℕ) → gist w ≡ x → Clean x (group2_plan (cpu_of w) v) → gist (take_group2 w v).after ≡ planned x (group2_plan (cpu_of w) v)
unfolding group2_plan
group2_form w x v e h = group2_any w x enter_supervisor v (turn_form w x enter_supervisor seen_supervisor e) h

-- `exception_trace`
module _ (c : Cpu) where
  stop_status : get_sr (leave_stop c) ≡ get_sr c
  unfolding get_sr leave_stop
  stop_status = refl

  stop_kind : kind_of (leave_stop c) ≡ kind_of c
  unfolding kind_of leave_stop
  stop_kind = refl

  stop_pc : pc_of (leave_stop c) ≡ pc_of c
  unfolding pc_of leave_stop
  stop_pc = refl

  stop_ppc : ppc_of (leave_stop c) ≡ ppc_of c
  unfolding ppc_of leave_stop
  stop_ppc = refl

  pub trace_frame : (v : ℕ) → framed2 (begin_trace c) v ≡ framed2 c v
  unfolding begin_trace
  trace_frame v =
      let a : Alike (internal_cycles (leave_stop c) 4) (leave_stop c) = begun_alike (leave_stop c) 4 in
      ap (λ (k : ℕ). group2_frame k (get_sr (internal_cycles (leave_stop c) 4)) (pc_of (internal_cycles (leave_stop c) 4)) (ppc_of (internal_cycles (leave_stop c) 4)) v) (alike_kind _ _ a ∙ stop_kind)
      ∙ ap (λ (k : ℕ). group2_frame (kind_of c) k (pc_of (internal_cycles (leave_stop c) 4)) (ppc_of (internal_cycles (leave_stop c) 4)) v) (alike_status _ _ a ∙ stop_status)
      ∙ ap (λ (k : ℕ). group2_frame (kind_of c) (get_sr c) k (ppc_of (internal_cycles (leave_stop c) 4)) v) (alike_pc _ _ a ∙ stop_pc)
      ∙ ap (λ (k : ℕ). group2_frame (kind_of c) (get_sr c) (pc_of c) k v) (alike_ppc _ _ a ∙ stop_ppc)

pub trace_gist : (w : World) → gist (supervised (step begin_trace w)) ≡ gist (with_cpu w (enter_supervisor (leave_stop (cpu_of w))))
unfolding begin_trace put_cpu
trace_gist w =
    turn_form (step begin_trace w) (gist (step leave_stop w)) enter_supervisor seen_supervisor (cycles_gist (step leave_stop w) 4)
    ∙ sym (turn_form (step leave_stop w) (gist (step leave_stop w)) enter_supervisor seen_supervisor refl)

pub trace_form : (w x : World) → gist w ≡ x → Clean x (trace_plan (cpu_of w)) → gist (exception_trace w).after ≡ planned x (trace_plan (cpu_of w))
unfolding exception_trace trace_plan put_cpu
trace_form w x e h =
    let turn : Cpu → Cpu = λ d. enter_supervisor (leave_stop d) in
    let f : framed2 (begin_trace (cpu_of w)) 9 ≡ framed2 (cpu_of w) 9 = trace_frame (cpu_of w) 9 in
    group2_any (step begin_trace w) x turn 9 (trace_gist w ∙ turn_form w x turn seen_trace e) (subst (λ (z : Frame). Clean x (single turn z 9 same)) (sym f) h)
    ∙ ap (λ (z : Frame). planned x (single turn z 9 same)) f

-- ---- floating point and errors: frames by pushes alone

pushes_form : (w y x : World) (turn : Cpu → Cpu) (f : Frame) (v : ℕ) → gist y ≡ turned x turn → Clean x (single turn f v same) → gist (jump_vector raised (push_frame raised y f) v) ≡ planned x (single turn f v same)
unfolding AllReady stack_all
pushes_form w y x turn f v e h =
    stays (jump_vector raised (push_frame raised y f) v)
    ∙ single_form raised (push_frame raised y f) x turn same f v (stacked_form raised y (turned x turn) f e h.stacks.0.sound h.stacks.0.allowed) seen_same h.reach

pub fp_unimp_form : (w x : World) (ea : ℕ) → gist w ≡ x → Clean x (fp_unimp_plan (cpu_of w) ea) → gist (take_fp_unimp060 w ea).after ≡ planned x (fp_unimp_plan (cpu_of w) ea)
unfolding take_fp_unimp060 stack_unimp fp_unimp_plan put_cpu get_sr pc_of note_fpiar
fp_unimp_form w x ea e h =
    let turn : Cpu → Cpu = λ d. enter_supervisor (note_fpiar d) in
    pushes_form w (step turn w) x turn (long_frame (get_sr (cpu_of w)) (pc_of (cpu_of w)) (format_word 2 11) ea) 11 (turn_form w x turn seen_fpiar e) h

pub fp_disabled_form : (w x : World) → gist w ≡ x → Clean x (fp_disabled_plan (cpu_of w)) → gist (take_fp_disabled060 w).after ≡ planned x (fp_disabled_plan (cpu_of w))
unfolding take_fp_disabled060 stack_disabled fp_disabled_plan
fp_disabled_form w x e h =
    pushes_form w (step enter_supervisor w) x enter_supervisor (disabled_frame (get_sr (cpu_of w)) (ppc_of (cpu_of w)) (format_word 4 11) 0 (ppc_of (cpu_of w))) 11 (turn_form w x enter_supervisor seen_supervisor e) h

pub address_form : (w x : World) (a : ℕ) (write instruction : Bool) → gist w ≡ x → Clean x (address_plan (cpu_of w) a write instruction) → gist (exception_address_error raised w a write instruction) ≡ planned x (address_plan (cpu_of w) a write instruction)
unfolding exception_address_error address_plan
address_form w x a write instruction e h =
    pushes_form w (step enter_supervisor w) x enter_supervisor (address_frame (cpu_of w) a write instruction) 3 (turn_form w x enter_supervisor seen_supervisor e) h

pub bus_form : (w x : World) (a : ℕ) (write instruction : Bool) (z cause : ℕ) → gist w ≡ x → Clean x (bus_plan (cpu_of w) a write instruction z cause) → gist (exception_bus_error raised w a write instruction z cause) ≡ planned x (bus_plan (cpu_of w) a write instruction z cause)
unfolding exception_bus_error bus_plan
bus_form w x a write instruction z cause e h =
    pushes_form w (step enter_bus_error w) x enter_bus_error (bus_frame (cpu_of w) a write instruction z cause) 2 (turn_form w x enter_bus_error seen_bus e) h
