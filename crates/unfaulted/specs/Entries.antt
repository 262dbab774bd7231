-- Whole entries where nothing is refused and nothing faults.
use Rattle.std.specs.Prelude.{ℕ, ◌+◌, ◌%◌, ◌^◌, ◌≤◌, ◌≡◌, Bool, List, eqb, length}
use Rattle.std.proofs.Math.Path.{refl}
use Rattle.std.proofs.Common.{sym, ap, ◌∙◌, arith}
use Rattle.std.proofs.Math.Bool.{true, false}
use Rattle.std.proofs.Math.ListN.{length-set}
use Rattle.types.specs.Kinds.{pick, is_pre68020}
use Rattle.types.specs.Tables.{exception_cycles}
use Rattle.types.specs.Vectors.{trace, line1111}
use Rattle.cpu.specs.declared.Cpu.{Cpu}
use Rattle.cpu.specs.Fields.{kind_of, pc_of, ppc_of, vbr_of, a7_of, is_faulted, in_exception, set_wdata, set_a7, set_pc, start_vector, set_exception, leave_stop, rewind_pc, note_fpiar}
use Rattle.cpu.specs.Clocks.{clocks_of, set_clocks, prefetch_enabled, internal_cycles, first_word, second_word}
use Rattle.status.specs.Status.{get_sr, clear_trace}
use Rattle.status.specs.Banks.{enter_supervisor, set_sflag, restore_sp, put_s, backup_sp, sp_index}
use Rattle.memory.specs.declared.Bus.{Bus}
use Rattle.memory.specs.Runs.{Apart}
use Rattle.memory.specs.World.{World, put_cpu}
use Rattle.steps.specs.Steps.{stacks_next, stacked_address, begin_entry, begin_trace}
use Rattle.access.specs.Access.{raised, push_frame, push_exception_frame68000, jump_vector}
use Rattle.formats.specs.Formats.{format_word, offset_word, short_frame, long_frame, disabled_frame}
use Rattle.exceptions.specs.Exceptions.{entry, stack_short, finished, taken, take_exception, stack_group2, take_group2, exception_trace, take_rewound, stack_unimp, take_fp_unimp060, stack_disabled, take_fp_disabled060}
use Rattle.unfaulted.specs.Closed.{closed, Piece, last_value, stacked, short_pieces, long_pieces, disabled_pieces, three_pieces, Room, Within, Landing, Entering, jumped, arrived, clocks_after, short_of, group2_of}

-- ---- the record before the frame

own : (c : Cpu) → c ≡ set_clocks c (clocks_of c)
unfolding set_clocks clocks_of
own c = refl

-- clocks of internal processing
pub cycles_after_lem : (c : Cpu) (n : ℕ) → internal_cycles c n ≡ set_clocks c (clocks_after c n)
unfolding internal_cycles clocks_after
cycles_after_lem c n = go (prefetch_enabled c)
  where
    go : (t : Bool) → pick t (set_clocks c ((clocks_of c + n) % 2 ^ 32)) c ≡ set_clocks c (pick t ((clocks_of c + n) % 2 ^ 32) (clocks_of c))
    go true = refl
    go false = own c

-- d has the same registers, kind, vector base and queue as c, and is faulted as c is
pub record Alike (c d : Cpu) : Type 0 where
  pub running : is_faulted d ≡ is_faulted c
  pub registers : d.regs ≡ c.regs
  pub kind : kind_of d ≡ kind_of c
  pub vbr : vbr_of d ≡ vbr_of c
  pub fetches : prefetch_enabled d ≡ prefetch_enabled c

pub alike_entering : (b : Bus) (c d : Cpu) (s : List ℕ) (n v q a to at x y : ℕ) → Alike c d → Entering b c s n v q a to at x y → Entering b d s n v q a to at x y
unfolding a7_of
alike_entering b c d s n v q a to at x y k h =
    record {
      running = k.running ∙ h.running;
      registers = rw k.registers h.registers;
      stack = rw k.registers h.stack;
      room = rw k.kind h.room;
      landing = rw (k.kind, k.vbr, k.fetches) h.landing;
      vector_apart = h.vector_apart;
      queue_apart = rw k.fetches h.queue_apart;
    }

-- ---- the frames of an entry

pub short_within : (sr pc format : ℕ) → Within 8 (short_pieces sr pc format)
unfolding Within short_pieces
short_within sr pc format = (refl, omega arith, (refl, omega arith, (refl, omega arith, tt)))

pub long_within : (sr pc format extra : ℕ) → Within 12 (long_pieces sr pc format extra)
unfolding Within long_pieces short_pieces
long_within sr pc format extra = (refl, omega arith, (refl, omega arith, (refl, omega arith, (refl, omega arith, tt))))

pub disabled_within : (sr pc format ea extra : ℕ) → Within 16 (disabled_pieces sr pc format ea extra)
unfolding Within disabled_pieces long_pieces short_pieces
disabled_within sr pc format ea extra = (refl, omega arith, (refl, omega arith, (refl, omega arith, (refl, omega arith, (refl, omega arith, tt)))))

pub three_few : (sr pc : ℕ) → length (three_pieces sr pc) ≤ 5
unfolding three_pieces
three_few sr pc = omega arith

pub short_few : (sr pc format : ℕ) → length (short_pieces sr pc format) ≤ 5
unfolding short_pieces
short_few sr pc format = omega arith

pub long_few : (sr pc format extra : ℕ) → length (long_pieces sr pc format extra) ≤ 5
unfolding long_pieces short_pieces
long_few sr pc format extra = omega arith

pub disabled_few : (sr pc format ea extra : ℕ) → length (disabled_pieces sr pc format ea extra) ≤ 5
unfolding disabled_pieces long_pieces short_pieces
disabled_few sr pc format ea extra = omega arith

-- a frame that is laid whole at the start of its bytes, with 5 pieces at most
pub record Frames (b : Bus) (c : Cpu) (e : ℕ) (s l : List ℕ) (w : World) (n q : ℕ) (ps : List Piece) : Type 0 where
  pub world : w ≡ stacked b c e s l q ps
  pub within : Within n ps
  pub few : length ps ≤ 5

pub short_step : (b : Bus) (d : Cpu) (e : ℕ) (s l : List ℕ) (pc format : ℕ)
    → stack_short (closed b d e s l) pc format ≡ pick (eqb (kind_of d) 1) (push_exception_frame68000 raised (closed b (enter_supervisor d) e s l) pc (get_sr d)) (push_frame raised (closed b (enter_supervisor d) e s l) (short_frame (get_sr d) pc format))
unfolding stack_short closed put_cpu
short_step b d e s l pc format = refl

-- ---- `take_exception`

module _ (c : Cpu) (k : ℕ) where
  -- the record before the frame
  abbrev pub begun : Cpu
  begun = set_clocks (set_exception c true) k

  pub begun_alike : Alike (enter_supervisor c) (enter_supervisor begun)
  unfolding enter_supervisor clear_trace set_sflag restore_sp put_s backup_sp sp_index set_clocks set_exception is_faulted kind_of vbr_of prefetch_enabled
  begun_alike = record { running = refl; registers = refl; kind = refl; vbr = refl; fetches = refl }

  pub begun_clocks : clocks_of (enter_supervisor begun) ≡ k
  unfolding enter_supervisor clear_trace set_sflag restore_sp put_s backup_sp clocks_of set_clocks
  begun_clocks = refl

  pub begun_fetches : prefetch_enabled (enter_supervisor begun) ≡ prefetch_enabled c
  unfolding enter_supervisor clear_trace set_sflag restore_sp put_s backup_sp prefetch_enabled set_clocks set_exception
  begun_fetches = refl

  pub begun_kind : kind_of begun ≡ kind_of c
  unfolding kind_of set_clocks set_exception
  begun_kind = refl

  pub begun_status : get_sr begun ≡ get_sr c
  unfolding get_sr set_clocks set_exception
  begun_status = refl

  pub begun_address : (v : ℕ) → stacked_address begun v ≡ stacked_address c v
  unfolding stacked_address pc_of ppc_of set_clocks set_exception
  begun_address v = refl

  -- after the jump the end of exception processing leaves the record as it was but for the entry
  ended_alike : (f : Bool) (q m v to x y : ℕ) → set_exception (jumped f (set_wdata (set_a7 (set_clocks (enter_supervisor begun) 0) q) m) v to x y) false ≡ set_exception (jumped f (set_wdata (set_a7 (set_clocks (enter_supervisor c) 0) q) m) v to x y) false
  unfolding jumped set_exception set_wdata set_a7 set_clocks enter_supervisor clear_trace set_sflag restore_sp put_s backup_sp sp_index start_vector set_pc first_word second_word
  ended_alike true q m v to x y = refl
  ended_alike false q m v to x y = refl

exception_own : (c : Cpu) → in_exception c ≡ false → set_exception c false ≡ c
unfolding set_exception in_exception
exception_own c h = ap (λ (t : Bool). set_exception c t) (sym h)

jumped_exception : (f : Bool) (c : Cpu) (q m v to x y : ℕ) → in_exception (jumped f (set_wdata (set_a7 (set_clocks (enter_supervisor c) 0) q) m) v to x y) ≡ in_exception c
unfolding jumped in_exception set_wdata set_a7 set_clocks enter_supervisor clear_trace set_sflag restore_sp put_s backup_sp start_vector set_pc first_word second_word
jumped_exception true c q m v to x y = refl
jumped_exception false c q m v to x y = refl

same : (c : Cpu) → clocks_after (set_exception c true) 4 ≡ clocks_after c 4
unfolding clocks_after clocks_of prefetch_enabled set_exception
same c = refl

pub begins : (c : Cpu) → begin_entry c ≡ begun c (clocks_after c 4)
unfolding begin_entry
begins c = cycles_after_lem (set_exception c true) 4 ∙ ap (λ (k : ℕ). set_clocks (set_exception c true) k) (same c)

pub taken_step : (b : Bus) (c : Cpu) (e : ℕ) (s l : List ℕ) (v : ℕ) → in_exception c ≡ false
    → take_exception (closed b c e s l) v ≡ entry (finished (jump_vector raised (stack_short (closed b (begin_entry c) e s l) (stacked_address (begin_entry c) v) (offset_word v)) v)) (exception_cycles v)
unfolding take_exception taken closed put_cpu
taken_step b c e s l v h = rw h

pub finish_step : (b : Bus) (c : Cpu) (k e : ℕ) (s l : List ℕ) (q : ℕ) (ps : List Piece) (f : Bool) (v a to at x y i : ℕ) → in_exception c ≡ false
    → finished (arrived b (enter_supervisor (begun c i)) k e s l q ps f v a to at x y) ≡ arrived b (enter_supervisor c) k e s l q ps f v a to at x y
unfolding finished arrived closed put_cpu
finish_step b c k e s l q ps f v a to at x y i h =
    let m : Cpu = jumped f (set_wdata (set_a7 (set_clocks (enter_supervisor c) 0) q) (last_value ps)) v to x y in
    rw (ended_alike c i f q (last_value ps) v to x y, exception_own m (jumped_exception f c q (last_value ps) v to x y ∙ h))

-- ---- group 2, and frames of format 2 and 4

module _ (c : Cpu) where
  pub supervisor_clocks : clocks_of (enter_supervisor c) ≡ clocks_of c
  unfolding enter_supervisor clear_trace set_sflag restore_sp put_s backup_sp clocks_of
  supervisor_clocks = refl

  pub supervisor_fetches : prefetch_enabled (enter_supervisor c) ≡ prefetch_enabled c
  unfolding enter_supervisor clear_trace set_sflag restore_sp put_s backup_sp prefetch_enabled
  supervisor_fetches = refl

  pub supervisor_kind : kind_of (enter_supervisor c) ≡ kind_of c
  unfolding enter_supervisor clear_trace set_sflag restore_sp put_s backup_sp kind_of
  supervisor_kind = refl

  pub supervisor_vbr : vbr_of (enter_supervisor c) ≡ vbr_of c
  unfolding enter_supervisor clear_trace set_sflag restore_sp put_s backup_sp vbr_of
  supervisor_vbr = refl

  pub supervisor_running : is_faulted (enter_supervisor c) ≡ is_faulted c
  unfolding enter_supervisor clear_trace set_sflag restore_sp put_s backup_sp is_faulted
  supervisor_running = refl

  -- the registers stay 16
  pub supervisor_registers : length (enter_supervisor c).regs.dar ≡ length c.regs.dar
  unfolding enter_supervisor clear_trace set_sflag restore_sp put_s backup_sp
  supervisor_registers = length-set c.regs.dar 15 _

-- what an entry asks, told of the record before it; only A7 is that of the supervisor's stack
pub entering : (b : Bus) (c : Cpu) (s : List ℕ) (n v q a to at x y : ℕ) → is_faulted c ≡ false → length c.regs.dar ≡ 16 → a7_of (enter_supervisor c) ≡ q + n → Room b (kind_of c) (length s) q n
    → Landing b (kind_of c) (vbr_of c) (prefetch_enabled c) s v a to at x y → Apart q n a 4 → (prefetch_enabled c ≡ true → Apart q n at 4) → Entering b (enter_supervisor c) s n v q a to at x y
entering b c s n v q a to at x y h m i r k d g =
    record {
      running = supervisor_running c ∙ h;
      registers = rw (supervisor_registers c, m) (omega arith);
      stack = i;
      room = rw (supervisor_kind c) r;
      landing = rw (supervisor_kind c, supervisor_vbr c, supervisor_fetches c) k;
      vector_apart = d;
      queue_apart = rw (supervisor_fetches c) g;
    }

pub group2_step : (b : Bus) (c : Cpu) (e : ℕ) (s l : List ℕ) (v : ℕ)
    → stack_group2 (closed b c e s l) v ≡ pick (is_pre68020 (kind_of c)) (stack_short (closed b c e s l) (pc_of c) (offset_word v)) (push_frame raised (closed b (enter_supervisor c) e s l) (long_frame (get_sr c) (pc_of c) (format_word 2 v) (ppc_of c)))
unfolding stack_group2 closed put_cpu
group2_step b c e s l v = refl

-- `exception_trace`: a STOP ends, and 4 clocks come before the frame
module _ (c : Cpu) (k : ℕ) where
  abbrev pub traced : Cpu
  traced = set_clocks (leave_stop c) k

  pub traced_alike : Alike (enter_supervisor c) (enter_supervisor traced)
  unfolding enter_supervisor clear_trace set_sflag restore_sp put_s backup_sp sp_index set_clocks leave_stop is_faulted kind_of vbr_of prefetch_enabled
  traced_alike = record { running = refl; registers = refl; kind = refl; vbr = refl; fetches = refl }

  pub traced_clocks : clocks_of traced ≡ k
  unfolding clocks_of set_clocks
  traced_clocks = refl

  pub traced_kind : kind_of traced ≡ kind_of c
  unfolding kind_of set_clocks leave_stop
  traced_kind = refl

  pub traced_arrived : (b : Bus) (e : ℕ) (s l : List ℕ) (q v a to at x y : ℕ) → arrived b (enter_supervisor traced) k e s l q (group2_of (kind_of traced) (get_sr traced) (pc_of traced) (ppc_of traced) v) (prefetch_enabled traced) v a to at x y ≡ arrived b (enter_supervisor (leave_stop c)) k e s l q (group2_of (kind_of c) (get_sr c) (pc_of c) (ppc_of c) v) (prefetch_enabled c) v a to at x y
  unfolding arrived enter_supervisor clear_trace set_sflag restore_sp put_s backup_sp sp_index set_clocks leave_stop kind_of get_sr pc_of ppc_of prefetch_enabled
  traced_arrived b e s l q v a to at x y = refl

same_stop : (c : Cpu) → clocks_after (leave_stop c) 4 ≡ clocks_after c 4
unfolding clocks_after clocks_of prefetch_enabled leave_stop
same_stop c = refl

pub traces : (c : Cpu) → begin_trace c ≡ traced c (clocks_after c 4)
unfolding begin_trace
traces c = cycles_after_lem (leave_stop c) 4 ∙ ap (λ (k : ℕ). set_clocks (leave_stop c) k) (same_stop c)

pub trace_step : (b : Bus) (c : Cpu) (e : ℕ) (s l : List ℕ) → exception_trace (closed b c e s l) ≡ take_group2 (closed b (begin_trace c) e s l) trace
unfolding exception_trace closed put_cpu
trace_step b c e s l = refl

-- ---- the wrappers that take PC back to the instruction

pub rewind_alike : (c : Cpu) → Alike (enter_supervisor c) (enter_supervisor (rewind_pc c))
unfolding enter_supervisor clear_trace set_sflag restore_sp put_s backup_sp sp_index rewind_pc is_faulted kind_of vbr_of prefetch_enabled
rewind_alike c = record { running = refl; registers = refl; kind = refl; vbr = refl; fetches = refl }

pub rewind_kind : (c : Cpu) → kind_of (rewind_pc c) ≡ kind_of c
unfolding kind_of rewind_pc
rewind_kind c = refl

pub rewind_exception : (c : Cpu) → in_exception (rewind_pc c) ≡ in_exception c
unfolding in_exception rewind_pc
rewind_exception c = refl

rewind_address : (c : Cpu) (v : ℕ) → stacked_address (rewind_pc c) v ≡ ppc_of c
unfolding stacked_address rewind_pc pc_of ppc_of
rewind_address c v = go (stacks_next v)
  where
    go : (t : Bool) → pick t c.flow.ppc c.flow.ppc ≡ c.flow.ppc
    go true = refl
    go false = refl

-- the jump sets PC in any case
rewind_jumped : (c : Cpu) (f : Bool) (q m v to x y : ℕ) → jumped f (set_wdata (set_a7 (set_clocks (enter_supervisor (rewind_pc c)) 0) q) m) v to x y ≡ jumped f (set_wdata (set_a7 (set_clocks (enter_supervisor c) 0) q) m) v to x y
unfolding jumped set_wdata set_a7 set_clocks enter_supervisor clear_trace set_sflag restore_sp put_s backup_sp sp_index start_vector set_pc first_word second_word rewind_pc
rewind_jumped c true q m v to x y = refl
rewind_jumped c false q m v to x y = refl

-- both addresses of a rewound record are the instruction's
pub rewind_arrived : (b : Bus) (c : Cpu) (e : ℕ) (s l : List ℕ) (q v a to at x y : ℕ)
    → arrived b (enter_supervisor (rewind_pc c)) (clocks_after (rewind_pc c) 4) e s l q (short_of (kind_of (rewind_pc c)) (get_sr (rewind_pc c)) (stacked_address (rewind_pc c) v) (offset_word v)) (prefetch_enabled (rewind_pc c)) v a to at x y
    ≡ arrived b (enter_supervisor c) (clocks_after c 4) e s l q (short_of (kind_of c) (get_sr c) (ppc_of c) (offset_word v)) (prefetch_enabled c) v a to at x y
unfolding arrived clocks_after clocks_of kind_of get_sr prefetch_enabled rewind_pc
rewind_arrived b c e s l q v a to at x y =
    rw (rewind_address c v, rewind_jumped c (prefetch_enabled c) q (last_value (short_of (kind_of c) (get_sr c) (ppc_of c) (offset_word v))) v to x y)

pub rewind_step : (b : Bus) (c : Cpu) (e : ℕ) (s l : List ℕ) (v : ℕ) → take_rewound (closed b c e s l) v ≡ take_exception (closed b (rewind_pc c) e s l) v
unfolding take_rewound closed put_cpu
rewind_step b c e s l v = refl

-- ---- the 68060's floating point entries

pub fpiar_alike : (c : Cpu) → Alike (enter_supervisor c) (enter_supervisor (note_fpiar c))
unfolding enter_supervisor clear_trace set_sflag restore_sp put_s backup_sp sp_index note_fpiar is_faulted kind_of vbr_of prefetch_enabled
fpiar_alike c = record { running = refl; registers = refl; kind = refl; vbr = refl; fetches = refl }

pub unimp_step : (b : Bus) (c : Cpu) (e : ℕ) (s l : List ℕ) (ea : ℕ)
    → take_fp_unimp060 (closed b c e s l) ea ≡ entry (jump_vector raised (push_frame raised (closed b (enter_supervisor (note_fpiar c)) e s l) (long_frame (get_sr c) (pc_of c) (format_word 2 line1111) ea)) line1111) (exception_cycles line1111)
unfolding take_fp_unimp060 stack_unimp closed put_cpu note_fpiar get_sr pc_of
unimp_step b c e s l ea = refl

pub fpiar_fetches : (c : Cpu) → prefetch_enabled (note_fpiar c) ≡ prefetch_enabled c
unfolding prefetch_enabled note_fpiar
fpiar_fetches c = refl

pub fpiar_clocks : (c : Cpu) → clocks_of (note_fpiar c) ≡ clocks_of c
unfolding clocks_of note_fpiar
fpiar_clocks c = refl

pub disabled_step : (b : Bus) (c : Cpu) (e : ℕ) (s l : List ℕ)
    → take_fp_disabled060 (closed b c e s l) ≡ entry (jump_vector raised (push_frame raised (closed b (enter_supervisor c) e s l) (disabled_frame (get_sr c) (ppc_of c) (format_word 4 line1111) 0 (ppc_of c))) line1111) (exception_cycles line1111)
unfolding take_fp_disabled060 stack_disabled closed put_cpu
disabled_step b c e s l = refl
