-- Theorems about what specs/Entries defines, and what rests on them.
use Rattle.std.specs.Prelude.{ℕ, ◌+◌, ◌^◌, ◌<◌, ◌≡◌, Bool, List, eqb}
use Rattle.std.proofs.Common.{ap, ◌∙◌, arith}
use Rattle.std.proofs.Math.Bool.{true, false}
use Rattle.types.specs.Kinds.{pick, is_pre68020}
use Rattle.types.specs.Tables.{exception_cycles}
use Rattle.types.specs.Vectors.{trace, line1111}
use Rattle.cpu.specs.declared.Cpu.{Cpu}
use Rattle.cpu.specs.Fields.{kind_of, pc_of, ppc_of, in_exception, leave_stop, rewind_pc, note_fpiar}
use Rattle.cpu.specs.Clocks.{clocks_of, prefetch_enabled}
use Rattle.status.specs.Status.{get_sr}
use Rattle.status.specs.Banks.{enter_supervisor}
use Rattle.memory.specs.declared.Bus.{Bus}
use Rattle.memory.specs.World.{World}
use Rattle.steps.specs.Steps.{stacked_address}
use Rattle.access.specs.Access.{raised, push_frame, push_exception_frame68000, jump_vector}
use Rattle.formats.specs.Formats.{format_word, offset_word, short_frame, long_frame, disabled_frame}
use Rattle.exceptions.specs.Exceptions.{entry, stack_short, finished, take_exception, stack_group2, take_group2, exception_trace, take_rewound, take_fp_unimp060, take_fp_disabled060}
use Rattle.unfaulted.specs.Closed.{closed, Piece, short_pieces, long_pieces, disabled_pieces, three_pieces, Entering, arrived, clocks_after, short_bytes, short_of, group2_bytes, group2_of}
use Rattle.unfaulted.specs.Stacks.{three_within}
use Rattle.unfaulted.proofs.Stacks.{short_stacked, long_stacked, disabled_stacked, three_stacked, jump_stacked}
use Rattle.unfaulted.specs.Entries.{alike_entering, short_within, long_within, disabled_within, three_few, short_few, long_few, disabled_few, Frames, short_step, begun, begun_alike, begun_clocks, begun_fetches, begun_kind, begun_status, begun_address, begins, taken_step, finish_step, supervisor_clocks, supervisor_fetches, group2_step, traced, traced_alike, traced_clocks, traced_kind, traced_arrived, traces, trace_step, rewind_alike, rewind_kind, rewind_exception, rewind_arrived, rewind_step, fpiar_alike, unimp_step, fpiar_fetches, fpiar_clocks, disabled_step}

short_frames : (b : Bus) (d : Cpu) (e : ℕ) (s l : List ℕ) (pc format v q a to at x y : ℕ) → Entering b (enter_supervisor d) s (short_bytes (kind_of d)) v q a to at x y → e + 8 < 2 ^ 32
    → Frames b (enter_supervisor d) e s l (stack_short (closed b d e s l) pc format) (short_bytes (kind_of d)) q (short_of (kind_of d) (get_sr d) pc format)
unfolding short_bytes short_of
short_frames b d e s l pc format v q a to at x y h u = rw (short_step b d e s l pc format) (go (eqb (kind_of d) 1) h)
  where
    m : Cpu
    m = enter_supervisor d

    go : (t : Bool) → Entering b m s (pick t 6 8) v q a to at x y
        → Frames b m e s l (pick t (push_exception_frame68000 raised (closed b m e s l) pc (get_sr d)) (push_frame raised (closed b m e s l) (short_frame (get_sr d) pc format))) (pick t 6 8) q (pick t (three_pieces (get_sr d) pc) (short_pieces (get_sr d) pc format))
    go true h = record { world = three_stacked raised b m e s l q (get_sr d) pc h.registers h.running u h.stack h.room; within = three_within (get_sr d) pc; few = three_few (get_sr d) pc }
    go false h = record { world = short_stacked raised b m e s l q h.registers h.running u (get_sr d) pc format h.stack h.room; within = short_within (get_sr d) pc format; few = short_few (get_sr d) pc format }

-- the jump after it
jump_frames : (b : Bus) (c : Cpu) (e : ℕ) (s l : List ℕ) (w : World) (n v q a to at x y : ℕ) (ps : List Piece) → Entering b c s n v q a to at x y → Frames b c e s l w n q ps → e + 12 < 2 ^ 32
    → jump_vector raised w v ≡ arrived b c (clocks_of c) e s l q ps (prefetch_enabled c) v a to at x y
jump_frames b c e s l w n v q a to at x y ps h f u =
    ap (λ (i : World). jump_vector raised i v) f.world ∙ jump_stacked raised b c e s l n v q a to at x y ps h f.within (let z = f.few in omega arith)

-- `take_exception` where no entry is under way
pub take_closed : (b : Bus) (c : Cpu) (e : ℕ) (s l : List ℕ) (v q a to at x y : ℕ) → in_exception c ≡ false → Entering b (enter_supervisor c) s (short_bytes (kind_of c)) v q a to at x y → e + 12 < 2 ^ 32
    → take_exception (closed b c e s l) v
    ≡ entry (arrived b (enter_supervisor c) (clocks_after c 4) e s l q (short_of (kind_of c) (get_sr c) (stacked_address c v) (offset_word v)) (prefetch_enabled c) v a to at x y) (exception_cycles v)
take_closed b c e s l v q a to at x y h g u =
    let k : ℕ = clocks_after c 4 in
    let d : Cpu = begun c k in
    let ps : List Piece = short_of (kind_of c) (get_sr c) (stacked_address c v) (offset_word v) in
    let i : Entering b (enter_supervisor d) s (short_bytes (kind_of c)) v q a to at x y = alike_entering b (enter_supervisor c) (enter_supervisor d) s (short_bytes (kind_of c)) v q a to at x y (begun_alike c k) g in
    let f : Frames b (enter_supervisor d) e s l (stack_short (closed b d e s l) (stacked_address d v) (offset_word v)) (short_bytes (kind_of c)) q ps
    = rw (begun_address c k v) (rw (begun_kind c k, begun_status c k) at (short_frames b d e s l (stacked_address c v) (offset_word v) v q a to at x y (rw (begun_kind c k) i) (omega arith))) in
    taken_step b c e s l v h
    ∙ ap (λ (m : Cpu). entry (finished (jump_vector raised (stack_short (closed b m e s l) (stacked_address m v) (offset_word v)) v)) (exception_cycles v)) (begins c)
    ∙ ap (λ (w : World). entry (finished w) (exception_cycles v))
    (jump_frames b (enter_supervisor d) e s l (stack_short (closed b d e s l) (stacked_address d v) (offset_word v)) (short_bytes (kind_of c)) v q a to at x y ps i f u
    ∙ rw (begun_clocks c k, begun_fetches c k))
    ∙ ap (λ (w : World). entry w (exception_cycles v)) (finish_step b c k e s l q ps (prefetch_enabled c) v a to at x y k h)

group2_frames : (b : Bus) (c : Cpu) (e : ℕ) (s l : List ℕ) (v q a to at x y : ℕ) → Entering b (enter_supervisor c) s (group2_bytes (kind_of c)) v q a to at x y → e + 8 < 2 ^ 32
    → Frames b (enter_supervisor c) e s l (stack_group2 (closed b c e s l) v) (group2_bytes (kind_of c)) q (group2_of (kind_of c) (get_sr c) (pc_of c) (ppc_of c) v)
unfolding group2_bytes group2_of
group2_frames b c e s l v q a to at x y h u = rw (group2_step b c e s l v) (go (is_pre68020 (kind_of c)) h)
  where
    m : Cpu
    m = enter_supervisor c

    go : (t : Bool) → Entering b m s (pick t (short_bytes (kind_of c)) 12) v q a to at x y
        → Frames b m e s l (pick t (stack_short (closed b c e s l) (pc_of c) (offset_word v)) (push_frame raised (closed b m e s l) (long_frame (get_sr c) (pc_of c) (format_word 2 v) (ppc_of c)))) (pick t (short_bytes (kind_of c)) 12) q (pick t (short_of (kind_of c) (get_sr c) (pc_of c) (offset_word v)) (long_pieces (get_sr c) (pc_of c) (format_word 2 v) (ppc_of c)))
    go true h = short_frames b c e s l (pc_of c) (offset_word v) v q a to at x y h u
    go false h =
        record {
          world = long_stacked raised b m e s l q h.registers h.running u (get_sr c) (pc_of c) (format_word 2 v) (ppc_of c) h.stack h.room;
          within = long_within (get_sr c) (pc_of c) (format_word 2 v) (ppc_of c);
          few = long_few (get_sr c) (pc_of c) (format_word 2 v) (ppc_of c);
        }

-- a jump after any of these frames, from a record c before it entered supervisor state
jump_supervised : (b : Bus) (c : Cpu) (e : ℕ) (s l : List ℕ) (w : World) (n v q a to at x y : ℕ) (ps : List Piece) → Entering b (enter_supervisor c) s n v q a to at x y → Frames b (enter_supervisor c) e s l w n q ps
    → e + 12 < 2 ^ 32 → jump_vector raised w v ≡ arrived b (enter_supervisor c) (clocks_of c) e s l q ps (prefetch_enabled c) v a to at x y
jump_supervised b c e s l w n v q a to at x y ps h f u = jump_frames b (enter_supervisor c) e s l w n v q a to at x y ps h f u ∙ rw (supervisor_clocks c, supervisor_fetches c)

-- `take_group2_exception`
pub group2_closed : (b : Bus) (c : Cpu) (e : ℕ) (s l : List ℕ) (v q a to at x y : ℕ) → Entering b (enter_supervisor c) s (group2_bytes (kind_of c)) v q a to at x y → e + 12 < 2 ^ 32
    → take_group2 (closed b c e s l) v
    ≡ entry (arrived b (enter_supervisor c) (clocks_of c) e s l q (group2_of (kind_of c) (get_sr c) (pc_of c) (ppc_of c) v) (prefetch_enabled c) v a to at x y) (exception_cycles v)
unfolding take_group2
group2_closed b c e s l v q a to at x y h u =
    ap (λ (w : World). entry w (exception_cycles v))
    (jump_supervised b c e s l (stack_group2 (closed b c e s l) v) (group2_bytes (kind_of c)) v q a to at x y (group2_of (kind_of c) (get_sr c) (pc_of c) (ppc_of c) v) h (group2_frames b c e s l v q a to at x y h (omega arith)) u)

pub trace_closed : (b : Bus) (c : Cpu) (e : ℕ) (s l : List ℕ) (q a to at x y : ℕ) → Entering b (enter_supervisor c) s (group2_bytes (kind_of c)) trace q a to at x y → e + 12 < 2 ^ 32
    → exception_trace (closed b c e s l)
    ≡ entry (arrived b (enter_supervisor (leave_stop c)) (clocks_after c 4) e s l q (group2_of (kind_of c) (get_sr c) (pc_of c) (ppc_of c) trace) (prefetch_enabled c) trace a to at x y) (exception_cycles trace)
trace_closed b c e s l q a to at x y h u =
    let k : ℕ = clocks_after c 4 in
    trace_step b c e s l
    ∙ ap (λ (m : Cpu). take_group2 (closed b m e s l) trace) (traces c)
    ∙ group2_closed b (traced c k) e s l trace q a to at x y (rw (traced_kind c k) (alike_entering b (enter_supervisor c) (enter_supervisor (traced c k)) s (group2_bytes (kind_of c)) trace q a to at x y (traced_alike c k) h)) u
    ∙ ap (λ (w : World). entry w (exception_cycles trace)) (rw (traced_clocks c k) (traced_arrived c k b e s l q trace a to at x y))

-- line A, line F, breakpoint, illegal: the instruction's own address is stacked
pub rewound_closed : (b : Bus) (c : Cpu) (e : ℕ) (s l : List ℕ) (v q a to at x y : ℕ) → in_exception c ≡ false → Entering b (enter_supervisor c) s (short_bytes (kind_of c)) v q a to at x y → e + 12 < 2 ^ 32
    → take_rewound (closed b c e s l) v
    ≡ entry (arrived b (enter_supervisor c) (clocks_after c 4) e s l q (short_of (kind_of c) (get_sr c) (ppc_of c) (offset_word v)) (prefetch_enabled c) v a to at x y) (exception_cycles v)
rewound_closed b c e s l v q a to at x y h g u =
    rewind_step b c e s l v
    ∙ take_closed b (rewind_pc c) e s l v q a to at x y (rewind_exception c ∙ h) (rw (rewind_kind c) (alike_entering b (enter_supervisor c) (enter_supervisor (rewind_pc c)) s (short_bytes (kind_of c)) v q a to at x y (rewind_alike c) g)) u
    ∙ ap (λ (w : World). entry w (exception_cycles v)) (rewind_arrived b c e s l q v a to at x y)

-- `take_fp_unimp_060`: format 2 with the operand's address
pub unimp_closed : (b : Bus) (c : Cpu) (e : ℕ) (s l : List ℕ) (ea q a to at x y : ℕ) → Entering b (enter_supervisor c) s 12 line1111 q a to at x y → e + 12 < 2 ^ 32
    → take_fp_unimp060 (closed b c e s l) ea
    ≡ entry (arrived b (enter_supervisor (note_fpiar c)) (clocks_of c) e s l q (long_pieces (get_sr c) (pc_of c) (format_word 2 line1111) ea) (prefetch_enabled c) line1111 a to at x y) (exception_cycles line1111)
unimp_closed b c e s l ea q a to at x y g u =
    let d : Cpu = note_fpiar c in
    let m : Cpu = enter_supervisor d in
    let h : Entering b m s 12 line1111 q a to at x y = alike_entering b (enter_supervisor c) m s 12 line1111 q a to at x y (fpiar_alike c) g in
    let f : Frames b m e s l (push_frame raised (closed b m e s l) (long_frame (get_sr c) (pc_of c) (format_word 2 line1111) ea)) 12 q (long_pieces (get_sr c) (pc_of c) (format_word 2 line1111) ea)
    = record {
      world = long_stacked raised b m e s l q h.registers h.running (omega arith) (get_sr c) (pc_of c) (format_word 2 line1111) ea h.stack h.room;
      within = long_within (get_sr c) (pc_of c) (format_word 2 line1111) ea;
      few = long_few (get_sr c) (pc_of c) (format_word 2 line1111) ea;
    } in
    unimp_step b c e s l ea
    ∙ ap (λ (w : World). entry w (exception_cycles line1111))
    (jump_supervised b d e s l (push_frame raised (closed b m e s l) (long_frame (get_sr c) (pc_of c) (format_word 2 line1111) ea)) 12 line1111 q a to at x y (long_pieces (get_sr c) (pc_of c) (format_word 2 line1111) ea) h f u
    ∙ rw (fpiar_clocks c, fpiar_fetches c))

-- `take_fp_disabled_060`: format 4
pub disabled_closed : (b : Bus) (c : Cpu) (e : ℕ) (s l : List ℕ) (q a to at x y : ℕ) → Entering b (enter_supervisor c) s 16 line1111 q a to at x y → e + 12 < 2 ^ 32
    → take_fp_disabled060 (closed b c e s l)
    ≡ entry (arrived b (enter_supervisor c) (clocks_of c) e s l q (disabled_pieces (get_sr c) (ppc_of c) (format_word 4 line1111) 0 (ppc_of c)) (prefetch_enabled c) line1111 a to at x y) (exception_cycles line1111)
disabled_closed b c e s l q a to at x y h u =
    let m : Cpu = enter_supervisor c in
    let f : Frames b m e s l (push_frame raised (closed b m e s l) (disabled_frame (get_sr c) (ppc_of c) (format_word 4 line1111) 0 (ppc_of c))) 16 q (disabled_pieces (get_sr c) (ppc_of c) (format_word 4 line1111) 0 (ppc_of c))
    = record {
      world = disabled_stacked raised b m e s l q h.registers h.running (omega arith) (get_sr c) (ppc_of c) (format_word 4 line1111) 0 (ppc_of c) h.stack h.room;
      within = disabled_within (get_sr c) (ppc_of c) (format_word 4 line1111) 0 (ppc_of c);
      few = disabled_few (get_sr c) (ppc_of c) (format_word 4 line1111) 0 (ppc_of c);
    } in
    disabled_step b c e s l
    ∙ ap (λ (w : World). entry w (exception_cycles line1111))
    (jump_supervised b c e s l (push_frame raised (closed b m e s l) (disabled_frame (get_sr c) (ppc_of c) (format_word 4 line1111) 0 (ppc_of c))) 16 line1111 q a to at x y (disabled_pieces (get_sr c) (ppc_of c) (format_word 4 line1111) 0 (ppc_of c)) h f u)
