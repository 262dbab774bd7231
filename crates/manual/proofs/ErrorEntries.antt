-- Theorems about what specs/ErrorEntries defines, and what rests on them.
use Rattle.std.specs.Prelude.{Option}
use Rattle.std.specs.Prelude.{ℕ, ◌%◌, ◌<◌, refl, Bool, true, false}
use Rattle.std.proofs.Common.{sym, arith}
use Rattle.std.proofs.Math.Option.{none}
use Rattle.types.specs.Causes.{cause_number}
use Rattle.types.specs.declared.FaultCause.{FaultCause}
use Rattle.cpu.specs.declared.Cpu.{Cpu}
use Rattle.cpu.specs.Fields.{kind_of, pc_of, ppc_of, ir_of, wdata_of}
use Rattle.status.specs.Status.{get_sr}
use Rattle.status.specs.Banks.{enter_supervisor}
use Rattle.memory.specs.World.{World, cpu_of}
use Rattle.frames.specs.declared.Frame.{Frame}
use Rattle.frames.specs.Frames.{bus_frame}
use Rattle.frames.specs.Codes.{fault_word}
use Rattle.steps.specs.Steps.{enter_bus_error}
use Rattle.forms.specs.Gist.{gist}
use Rattle.forms.specs.Plans.{planned, Clean, same, single, address_plan, bus_plan}
use Rattle.nest.specs.Nest.{Sound}
use Rattle.entered.specs.Pointers.{regs_of, Fit}
use Rattle.entered.specs.Does.{status_fits}
use Rattle.manual.specs.Parts.{Family, mc68000, mc68010, mc68020, mc68030, mc68040, mc68060}
use Rattle.manual.specs.State.{State, Fault, is_set}
use Rattle.manual.specs.State.{function_code as code_by}
use Rattle.manual.specs.Vectors.{bus_error, address_error}
use Rattle.manual.specs.Exceptions.{fields_of, top_fields}
use Rattle.manual.specs.Differences.{own, differences, field_differs}
use Rattle.manual.specs.Calls.{event, state_by, code_of, fault_by}
use Rattle.manual.specs.Cells.{Holding}
use Rattle.manual.specs.Statement.{Agrees}
use Rattle.manual.specs.Plain.{of}
use Rattle.manual.specs.Errors.{fault}
use Rattle.manual.proofs.Errors.{first_bus_error, first_address_error, second_bus_error, second_address_error, third_bus_error, third_address_error, fourth_bus_error, fourth_address_error, sixth_bus_error, sixth_address_error}
use Rattle.manual.specs.Errors.{at as with_fault}
use Rattle.manual.specs.PartLaws.{impossible, Tests}
use Rattle.manual.specs.Lengths.{bus_bytes, address_bytes, bus_error_own_length, address_error_own_length}
use Rattle.manual.specs.Entries.{Turn, End, turn_supervisor, turn_bus, end_same}
use Rattle.manual.proofs.Entries.{one_agrees, by_frame}
use Rattle.manual.specs.ErrorEntries.{code_small, bus_by, address_by, bus_is, address_is, bus_size, address_size}

module _ (s : State) (sr : s.status < 0x10000) (op : s.opcode < 0x10000) (a : ℕ) (write i : Bool) (code datum : ℕ) (l : code < 8) where
  bus_hold : (f : Family) (z : ℕ) (k : Option FaultCause) → Holding (bus_by f s.status s.this s.opcode a write i z code datum (cause_number k)) (field_differs differences (of f (with_fault s (fault a write i z code datum (cause_number k)))) own bus_error 2)
      (fields_of (of f (with_fault s (fault a write i z code datum (cause_number k)))) bus_error 2)
  bus_hold mc68000 z k = first_bus_error s sr op a write i z code datum (cause_number k) (fault_word code write i)
  bus_hold mc68010 z k = second_bus_error s sr op a write i z code datum (cause_number k) write i
  bus_hold mc68020 z k = third_bus_error s sr op a write i z code datum (cause_number k) true write i l
  bus_hold mc68030 z k = third_bus_error s sr op a write i z code datum (cause_number k) false write i l
  bus_hold mc68040 z k = fourth_bus_error s sr op a write i z code datum (cause_number k) k write l
  bus_hold mc68060 z k = sixth_bus_error s sr op a write i z code datum (cause_number k) k write i l

  -- our frame has the function code of the state; where the manual has that of the access, a row stands
  address_hold : (f : Family) (stacked : ℕ) → Holding (address_by f s.status s.this s.opcode a write i stacked) (field_differs differences (of f (with_fault s (fault a write i 0 code datum 0))) own address_error 3)
      (fields_of (of f (with_fault s (fault a write i 0 code datum 0))) address_error 3)
  address_hold mc68000 stacked = first_address_error s sr op a write i 0 code datum 0 (fault_word stacked write i)
  address_hold mc68010 stacked = second_address_error s sr op a write i 0 code datum 0 write i
  address_hold mc68020 stacked = third_address_error s sr op a write i 0 code datum 0 true
  address_hold mc68030 stacked = third_address_error s sr op a write i 0 code datum 0 false
  address_hold mc68040 stacked = fourth_address_error s sr op a write i 0 code datum 0
  address_hold mc68060 stacked = sixth_address_error s sr op a write i 0 code datum 0

-- ---- the entries

module _ (w : World) (F : Family) (t : Tests F (kind_of (cpu_of w))) (so : Sound (regs_of (cpu_of w))) (fit : Fit (cpu_of (gist w))) (pcl : pc_of (cpu_of w) < 0x100000000) (ppl : ppc_of (cpu_of w) < 0x100000000)
    (a : ℕ) (write i : Bool) where
  abbrev C : Cpu
  C = cpu_of w

  -- a bus error, whatever else the record does before the frame and at the end
  pub bus_by_lem : (turn close : Cpu → Cpu) → Turn turn → End close → (z : ℕ) (k : Option FaultCause) → Clean (gist w) (single turn (bus_frame C a write i z (cause_number k)) 2 close)
      → Agrees differences (state_by w F (fault_by C a write i z (code_of C i) (cause_number k)) none) (event bus_error 2 own) w (planned (gist w) (single turn (bus_frame C a write i z (cause_number k)) 2 close))
  unfolding state_by top_fields ppc_of ir_of wdata_of
  bus_by_lem turn close tu en z k =
      let fa : Fault = fault_by C a write i z (code_of C i) (cause_number k) in
      let s : State = state_by w F fa none in
      let f : Frame = bus_by F (get_sr C) (ppc_of C) (ir_of C % 0x10000) a write i z (code_of C i) (wdata_of C) (cause_number k) in
      by_frame w F t so fit pcl ppl s (event bus_error 2 own) turn close 2 _ f (bus_is F C t a write i z (cause_number k))
      (one_agrees w F t so fit fa none bus_error 2 own (omega arith) turn close f (bus_bytes F) tu en
      (bus_size F (get_sr C) (ppc_of C) (ir_of C % 0x10000) a write i z (code_of C i) (wdata_of C) (cause_number k))
      (bus_hold s (status_fits C) (omega arith) a write i (code_of C i) (wdata_of C) (code_small C i) F z k) (bus_error_own_length s 2 F) (λ e. refl) (λ d. impossible (sym d)))

  pub bus_agrees : (z : ℕ) (k : Option FaultCause) → Clean (gist w) (bus_plan C a write i z (cause_number k))
      → Agrees differences (state_by w F (fault_by C a write i z (code_of C i) (cause_number k)) none) (event bus_error 2 own) w (planned (gist w) (bus_plan C a write i z (cause_number k)))
  unfolding bus_plan
  bus_agrees z k = bus_by_lem enter_bus_error same turn_bus end_same z k

  pub address_agrees : Clean (gist w) (address_plan C a write i)
      → Agrees differences (state_by w F (fault_by C a write i 0 (code_of C i) 0) none) (event address_error 3 own) w (planned (gist w) (address_plan C a write i))
  unfolding address_plan state_by top_fields ppc_of ir_of wdata_of
  address_agrees =
      let fa : Fault = fault_by C a write i 0 (code_of C i) 0 in
      let s : State = state_by w F fa none in
      let f : Frame = address_by F (get_sr C) (ppc_of C) (ir_of C % 0x10000) a write i (code_by (is_set 13 (get_sr C)) i) in
      by_frame w F t so fit pcl ppl s (event address_error 3 own) enter_supervisor same 3 _ f (address_is F C t a write i)
      (one_agrees w F t so fit fa none address_error 3 own (omega arith) enter_supervisor same f (address_bytes F) turn_supervisor end_same
      (address_size F (get_sr C) (ppc_of C) (ir_of C % 0x10000) a write i (code_by (is_set 13 (get_sr C)) i))
      (address_hold s (status_fits C) (omega arith) a write i (code_of C i) (wdata_of C) (code_small C i) F (code_by (is_set 13 (get_sr C)) i)) (address_error_own_length s 3 F) (λ e. refl) (λ d. impossible (sym d)))
