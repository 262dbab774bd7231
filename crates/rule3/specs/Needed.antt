-- EACH PREMISE IS NEEDED: for each a short list of steps that keeps all the others and of which rule 3 would say something false. The other
-- premises are shown by the test of `Checked` with the clause left out, the falsehood by computing the walk and the returns.
use Rattle.std.specs.Prelude.{ℕ, ◌<◌, ◌≡◌, refl, true, false, List, [], ◌∷◌, ltb, ℤ, set, replicate}
use Rattle.std.proofs.Common.{sym, ◌∙◌, arith, ltb-true}
use Rattle.std.proofs.Math.Option.{some}
use Rattle.cpu.specs.declared.Cpu.{Cpu}
use Rattle.cpu.specs.Groups.{with_flow}
use Rattle.cpu.specs.Setters.{with_run_mode, with_t0_flag, with_sflag, with_mflag, with_mmu_fc_override}
use Rattle.memory.specs.declared.Bus.{Bus}
use Rattle.answers.specs.declared.Call.TheVariants.{Trap, ExceptionChk, ExceptionAddressError}
use Rattle.instances.specs.Start.{laid}
use Rattle.nest.specs.Nest.{Step, return, handlers, end, depth, Told}
use Rattle.entered.specs.Machines.{Room}
use Rattle.rule3.specs.Rule3.{Real}
use Rattle.rule3.specs.Checked.{real, Clause, sound, clean, served, no_error, apart, keep, leave, PremisesBut, test_but, tested_but}
use Rattle.rule3.specs.Tells.{told_test, told_tested}
use Rattle.rule3.specs.Nests.{bus, room, start, call, bus_error, tick}
use Rattle.rule3.specs.Computed.{nested}

-- ---- a list that shows a premise needed

pub record Needed (q : Clause) (xs : List (Step Real)) (r : Cpu) (s : Room) : Type 0 where
  pub others : PremisesBut real q xs r s
  pub some_open : 0 < depth Real (end Real xs r s)
  pub broken : Told Real (end Real xs r s) → ⊥

needed : (q : Clause) (xs : List (Step Real)) (r : Cpu) (s : Room) → test_but real q xs r s ≡ true → ltb 0 (depth Real (end Real xs r s)) ≡ true → told_test real (end Real xs r s) ≡ false → Needed q xs r s
needed q xs r s e d f =
    record {
      others = tested_but real q xs r s e;
      some_open = ltb-true 0 (depth Real (end Real xs r s)) d;
      broken = λ t. let z : true ≡ false = sym (told_tested real (end Real xs r s) t) ∙ f in let y : ◌≡◌ {A = ℕ} 0 1 = cc in absurd (omega arith);
    }

-- ---- records and stores

abbrev trap : Step Real
trap = call (Trap 0) refl

abbrev pub with_base : Cpu → ℕ → Cpu
with_base c x =
    with_flow c
    (record {
      ppc = c.flow.ppc;
      pc = c.flow.pc;
      vbr = x;
      ir = c.flow.ir;
      fpiar = c.flow.fpiar;
      cpu_type = c.flow.cpu_type;
      run_mode = c.flow.run_mode;
      stopped = c.flow.stopped;
      exception_processing = c.flow.exception_processing;
      change_of_flow = c.flow.change_of_flow;
      loop_mode = c.flow.loop_mode;
      cycles_remaining = c.flow.cycles_remaining;
    })

abbrev pub with_cycles : Cpu → ℤ → Cpu
with_cycles c x =
    with_flow c
    (record {
      ppc = c.flow.ppc;
      pc = c.flow.pc;
      vbr = c.flow.vbr;
      ir = c.flow.ir;
      fpiar = c.flow.fpiar;
      cpu_type = c.flow.cpu_type;
      run_mode = c.flow.run_mode;
      stopped = c.flow.stopped;
      exception_processing = c.flow.exception_processing;
      change_of_flow = c.flow.change_of_flow;
      loop_mode = c.flow.loop_mode;
      cycles_remaining = x;
    })

abbrev pub windows : ℕ → ℕ → ℕ → Bus
windows n from size =
    record { base = 0; windows = n; starts = set (replicate 8 0) 0 from; lengths = set (replicate 8 0) 0 size; responses = replicate 8 0xFFFFFFFF; events = 0 }

abbrev holding : ℕ → List ℕ → Room
holding a bs = record { bus = bus; bytes = laid (replicate 512 0) a bs; log = replicate 192 0 }

-- the frame of a trap 0 met at PC 0x100 with status 0x2000, at an address
abbrev pub trapped : ℕ → Room
trapped a = holding a (0x20 ∷ 0x00 ∷ 0x00 ∷ 0x00 ∷ 0x01 ∷ 0x00 ∷ 0x00 ∷ 0x80 ∷ [])

-- ---- "each entry taken starts sound"

pub faulted : Needed sound (trap ∷ []) (with_run_mode (start 4 0x2000 0x180 0 0 0 0) 1) room
unfolding nested
faulted = needed sound (trap ∷ []) (with_run_mode (start 4 0x2000 0x180 0 0 0 0) 1) room refl refl refl

pub odd_pointer_lem : Needed sound (call (ExceptionAddressError 0x11 false false) refl ∷ []) (start 2 0x2000 0x181 0 0 0 0) room
unfolding nested
odd_pointer_lem = needed sound (call (ExceptionAddressError 0x11 false false) refl ∷ []) (start 2 0x2000 0x181 0 0 0 0) room refl refl refl

pub outside_the_mask : Needed sound (trap ∷ []) (with_t0_flag (start 1 0x2000 0x180 0 0 0 0) 0x4000) room
unfolding nested
outside_the_mask = needed sound (trap ∷ []) (with_t0_flag (start 1 0x2000 0x180 0 0 0 0) 0x4000) room refl refl refl

pub m_of_the_68010 : Needed sound (trap ∷ trap ∷ []) (with_mflag (start 2 0x2000 0x180 0 0 0x100 0) 2) room
unfolding nested
m_of_the_68010 = needed sound (trap ∷ trap ∷ []) (with_mflag (start 2 0x2000 0x180 0 0 0x100 0) 2) room refl refl refl

-- ---- "its accesses .. are served"

pub vector_unserved : Needed clean (call ExceptionChk refl ∷ []) (with_base (start 4 0x2000 0x180 0x100 0 0x140 0) 0x20000) room
unfolding nested
vector_unserved = needed clean (call ExceptionChk refl ∷ []) (with_base (start 4 0x2000 0x180 0x100 0 0x140 0) 0x20000) room refl refl refl

-- the 68010's handler lies outside the store: its prefetch faults
pub prefetch_unserved : Needed clean (call ExceptionChk refl ∷ []) (start 2 0x2000 0x180 0 0 0 0) (holding 0x18 (0x00 ∷ 0x02 ∷ 0x00 ∷ 0x00 ∷ []))
unfolding nested
prefetch_unserved = needed clean (call ExceptionChk refl ∷ []) (start 2 0x2000 0x180 0 0 0 0) (holding 0x18 (0x00 ∷ 0x02 ∷ 0x00 ∷ 0x00 ∷ [])) refl refl refl

-- the two frames of an interrupt are stacked, and its vector is not served
pub second_jump_unserved : Needed clean (tick ∷ []) (start 4 0x3000 0x180 0x100 0x1C0 0 7) (record { bus = windows 1 0x7C 4; bytes = replicate 512 0; log = replicate 192 0 })
unfolding nested
second_jump_unserved = needed clean (tick ∷ []) (start 4 0x3000 0x180 0x100 0x1C0 0 7) (record { bus = windows 1 0x7C 4; bytes = replicate 512 0; log = replicate 192 0 }) refl refl refl

-- ---- "they and its frame bytes are served then and later"

-- a window on bytes of format 8 that are only counted: the return is refused by 12
pub counted_bytes_unserved : Needed served (call (ExceptionAddressError 0x11 false false) refl ∷ []) (start 2 0x2000 0x180 0 0 0 0) (record { bus = windows 1 0x170 2; bytes = replicate 512 0; log = replicate 192 0 })
unfolding nested
counted_bytes_unserved = needed served (call (ExceptionAddressError 0x11 false false) refl ∷ []) (start 2 0x2000 0x180 0 0 0 0) (record { bus = windows 1 0x170 2; bytes = replicate 512 0; log = replicate 192 0 }) refl refl refl

-- ---- "no 68000 bus or address error frame"

pub bus_error_68000 : Needed no_error (bus_error ∷ []) (start 1 0x2000 0x180 0 0 0 0) room
unfolding nested
bus_error_68000 = needed no_error (bus_error ∷ []) (start 1 0x2000 0x180 0 0 0 0) room refl refl refl

pub address_error_68000 : Needed no_error (call (ExceptionAddressError 0x11 false false) refl ∷ []) (start 1 0x2000 0x180 0 0 0 0) room
unfolding nested
address_error_68000 = needed no_error (call (ExceptionAddressError 0x11 false false) refl ∷ []) (start 1 0x2000 0x180 0 0 0 0) room refl refl refl

-- ---- "live frames share no byte"

-- the two frames of one interrupt
pub two_frames_overlap : Needed apart (tick ∷ []) (start 4 0x3000 0x180 0x100 0x184 0 7) room
unfolding nested
two_frames_overlap = needed apart (tick ∷ []) (start 4 0x3000 0x180 0x100 0x184 0 7) room refl refl refl

pub older_frame_overlaps : Needed apart (trap ∷ tick ∷ []) (start 4 0x3000 0x190 0x100 0x18C 0 7) room
unfolding nested
older_frame_overlaps = needed apart (trap ∷ tick ∷ []) (start 4 0x3000 0x190 0x100 0x18C 0 7) room refl refl refl

-- ---- "handlers keep kind, S, M, stack pointers and live frames"

-- the 68010 becomes a 68000: the format word is read no more
pub keep_kind : Needed keep (trap ∷ handlers (start 1 0x2000 0x178 0 0 0 0) (trapped 0x178) ∷ []) (start 2 0x2000 0x180 0 0 0 0) room
unfolding nested
keep_kind = needed keep (trap ∷ handlers (start 1 0x2000 0x178 0 0 0 0) (trapped 0x178) ∷ []) (start 2 0x2000 0x180 0 0 0 0) room refl refl refl

-- refused by 11
pub keep_s : Needed keep (trap ∷ handlers (with_sflag (start 4 0x2000 0x178 0x100 0 0x140 0) 0) (trapped 0x178) ∷ []) (start 4 0x2000 0x180 0x100 0 0x140 0) room
unfolding nested
keep_s = needed keep (trap ∷ handlers (with_sflag (start 4 0x2000 0x178 0x100 0 0x140 0) 0) (trapped 0x178) ∷ []) (start 4 0x2000 0x180 0x100 0 0x140 0) room refl refl refl

-- the return then raises the interrupt stack
pub keep_m : Needed keep (trap ∷ trap ∷ return ∷ handlers (with_mflag (start 4 0x3000 0x178 0x100 0x1C0 0 0) 0) (holding 0x178 (0x30 ∷ 0x00 ∷ 0x00 ∷ 0x00 ∷ 0x01 ∷ 0x00 ∷ 0x00 ∷ 0x80 ∷ [])) ∷ []) (start 4 0x3000 0x180 0x100 0x1C0 0 0) room
unfolding nested
keep_m = needed keep (trap ∷ trap ∷ return ∷ handlers (with_mflag (start 4 0x3000 0x178 0x100 0x1C0 0 0) 0) (holding 0x178 (0x30 ∷ 0x00 ∷ 0x00 ∷ 0x00 ∷ 0x01 ∷ 0x00 ∷ 0x00 ∷ 0x80 ∷ [])) ∷ []) (start 4 0x3000 0x180 0x100 0x1C0 0 0) room refl refl refl

pub keep_a7 : Needed keep (trap ∷ handlers (start 4 0x2000 0x170 0x100 0 0x140 0) (trapped 0x178) ∷ []) (start 4 0x2000 0x180 0x100 0 0x140 0) room
unfolding nested
keep_a7 = needed keep (trap ∷ handlers (start 4 0x2000 0x170 0x100 0 0x140 0) (trapped 0x178) ∷ []) (start 4 0x2000 0x180 0x100 0 0x140 0) room refl refl refl

pub keep_usp : Needed keep (trap ∷ handlers (start 4 0x2000 0x178 0x0C0 0 0x140 0) (holding 0x178 (0x00 ∷ 0x00 ∷ 0x00 ∷ 0x00 ∷ 0x01 ∷ 0x00 ∷ 0x00 ∷ 0x80 ∷ [])) ∷ []) (start 4 0x0000 0x100 0x100 0x180 0x140 0) room
unfolding nested
keep_usp = needed keep (trap ∷ handlers (start 4 0x2000 0x178 0x0C0 0 0x140 0) (holding 0x178 (0x00 ∷ 0x00 ∷ 0x00 ∷ 0x00 ∷ 0x01 ∷ 0x00 ∷ 0x00 ∷ 0x80 ∷ [])) ∷ []) (start 4 0x0000 0x100 0x100 0x180 0x140 0) room refl refl refl

-- one bit of the stacked status
pub keep_frames : Needed keep (trap ∷ handlers (start 4 0x2000 0x178 0x100 0 0x140 0) (holding 0x178 (0x20 ∷ 0x01 ∷ 0x00 ∷ 0x00 ∷ 0x01 ∷ 0x00 ∷ 0x00 ∷ 0x80 ∷ [])) ∷ []) (start 4 0x2000 0x180 0x100 0 0x140 0) room
unfolding nested
keep_frames = needed keep (trap ∷ handlers (start 4 0x2000 0x178 0x100 0 0x140 0) (holding 0x178 (0x20 ∷ 0x01 ∷ 0x00 ∷ 0x00 ∷ 0x01 ∷ 0x00 ∷ 0x00 ∷ 0x80 ∷ [])) ∷ []) (start 4 0x2000 0x180 0x100 0 0x140 0) room refl refl refl

-- ---- "and leave nothing that numbers 1 to 10 refuse": refused by 1, 2, 4 and 6

pub leave_1 : Needed leave (trap ∷ handlers (with_mflag (start 4 0x3000 0x178 0x100 0x1C0 0 0) 3) (holding 0x178 (0x30 ∷ 0x00 ∷ 0x00 ∷ 0x00 ∷ 0x01 ∷ 0x00 ∷ 0x00 ∷ 0x80 ∷ [])) ∷ []) (start 4 0x3000 0x180 0x100 0x1C0 0 0) room
unfolding nested
leave_1 = needed leave (trap ∷ handlers (with_mflag (start 4 0x3000 0x178 0x100 0x1C0 0 0) 3) (holding 0x178 (0x30 ∷ 0x00 ∷ 0x00 ∷ 0x00 ∷ 0x01 ∷ 0x00 ∷ 0x00 ∷ 0x80 ∷ [])) ∷ []) (start 4 0x3000 0x180 0x100 0x1C0 0 0) room refl refl refl

pub leave_2 : Needed leave (trap ∷ handlers (with_base (start 2 0x2000 0x178 0 0 0 0) 1) (trapped 0x178) ∷ []) (start 2 0x2000 0x180 0 0 0 0) room
unfolding nested
leave_2 = needed leave (trap ∷ handlers (with_base (start 2 0x2000 0x178 0 0 0 0) 1) (trapped 0x178) ∷ []) (start 2 0x2000 0x180 0 0 0 0) room refl refl refl

pub leave_4 : Needed leave (trap ∷ handlers (with_mmu_fc_override (start 4 0x2000 0x178 0x100 0 0x140 0) (record { some = true; value = 8 })) (trapped 0x178) ∷ []) (start 4 0x2000 0x180 0x100 0 0x140 0) room
unfolding nested
leave_4 = needed leave (trap ∷ handlers (with_mmu_fc_override (start 4 0x2000 0x178 0x100 0 0x140 0) (record { some = true; value = 8 })) (trapped 0x178) ∷ []) (start 4 0x2000 0x180 0x100 0 0x140 0) room refl refl refl

pub leave_6 : Needed leave (trap ∷ handlers (start 4 0x2000 0x178 0x100 0 0x140 0) (record { bus = windows 9 0 0; bytes = (trapped 0x178).bytes; log = replicate 192 0 }) ∷ []) (start 4 0x2000 0x180 0x100 0 0x140 0) room
unfolding nested
leave_6 = needed leave (trap ∷ handlers (start 4 0x2000 0x178 0x100 0 0x140 0) (record { bus = windows 9 0 0; bytes = (trapped 0x178).bytes; log = replicate 192 0 }) ∷ []) (start 4 0x2000 0x180 0x100 0 0x140 0) room refl refl refl
