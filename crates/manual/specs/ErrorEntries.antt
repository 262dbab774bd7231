-- Both error entries agree with the manuals, but where a row stands.
use Rattle.std.specs.Prelude.{ℕ, ◌-◌, ◌%◌, ◌<◌, ◌≡◌, refl, Bool, true, false, cond, eqb}
use Rattle.std.proofs.Common.{sym, ap, ◌∙◌, arith}
use Rattle.std.proofs.Math.Option.{some}
use Rattle.types.specs.Kinds.{pick}
use Rattle.cpu.specs.declared.Cpu.{Cpu}
use Rattle.cpu.specs.Fields.{kind_of, ppc_of, ir_of, wdata_of, has_fc_override, fc_override_of}
use Rattle.status.specs.Status.{get_sr}
use Rattle.frames.specs.declared.Frame.{Frame}
use Rattle.frames.specs.Frames.{write_data, address_frame, bus_frame, frame68000, frame8, frame2, frame0, frame4, frame7, frame11}
use Rattle.frames.specs.Codes.{function_code, is_supervisor, state_code, fault_code, fault_word, ssw020, ssw040, wb3s, fslw060}
use Rattle.manual.specs.Parts.{Family, mc68000, mc68010, mc68020, mc68030, mc68040, mc68060}
use Rattle.manual.specs.State.{is_set}
use Rattle.manual.specs.State.{function_code as code_by}
use Rattle.manual.specs.Calls.{code_of}
use Rattle.manual.specs.Plain.{first, early}
use Rattle.manual.specs.Errors.{fault}
use Rattle.manual.specs.PartLaws.{Tests, forty, sixty, s_bit_lem}
use Rattle.manual.specs.Lengths.{bus_bytes, address_bytes}
use Rattle.manual.specs.Entries.{Sized, size14, size58, size_error2, size_error0, size_error4, size_error7, size_error11}

-- ---- function codes

code_by_lem : (a i : Bool) → function_code a i ≡ code_by a i
unfolding function_code
code_by_lem true true = refl
code_by_lem true false = refl
code_by_lem false true = refl
code_by_lem false false = refl

pub state_code_lem : (c : Cpu) (i : Bool) → state_code c i ≡ code_by (is_set 13 (get_sr c)) i
unfolding state_code is_supervisor
state_code_lem c i = ap (λ (n : ℕ). function_code (eqb n 1) i) (sym (s_bit_lem c)) ∙ code_by_lem (is_set 13 (get_sr c)) i

pub fault_code_lem : (c : Cpu) (i : Bool) → fault_code c i ≡ code_of c i
unfolding fault_code has_fc_override fc_override_of
fault_code_lem c i = go c.fault.mmu_fc_override.some
  where
    go : (b : Bool) → pick b (c.fault.mmu_fc_override.value % 8) (state_code c i) ≡ cond b (c.fault.mmu_fc_override.value % 8) (code_by (is_set 13 (get_sr c)) i)
    go true = refl
    go false = state_code_lem c i

small : (a i : Bool) → code_by a i < 8
small true true = omega arith
small true false = omega arith
small false true = omega arith
small false false = omega arith

pub code_small : (c : Cpu) (i : Bool) → code_of c i < 8
code_small c i = go c.fault.mmu_fc_override.some
  where
    go : (b : Bool) → cond b (c.fault.mmu_fc_override.value % 8) (code_by (is_set 13 (get_sr c)) i) < 8
    go true = omega arith
    go false = small (is_set 13 (get_sr c)) i

-- ---- the frames, by part

abbrev pub bus_by : Family → ℕ → ℕ → ℕ → ℕ → Bool → Bool → ℕ → ℕ → ℕ → ℕ → Frame
bus_by f sr ppc ir a write i z code datum cause =
    pick (first f) (frame68000 sr ppc ir a (fault_word code write i))
    (pick (early f) (frame8 sr ppc 0x8008)
    (pick (sixty f) (frame4 sr ppc a (fslw060 write i z code cause))
    (pick (forty f) (frame7 sr ppc a (ssw040 code write z cause) (wb3s code write z) (pick write a 0) (pick write datum 0))
    (frame11 sr ppc (ssw020 code write i z) (pick i 0 a) (pick write datum 0) (pick i a 0)))))

abbrev pub address_by : Family → ℕ → ℕ → ℕ → ℕ → Bool → Bool → ℕ → Frame
address_by f sr ppc ir a write i code =
    pick (first f) (frame68000 sr ppc ir a (fault_word code write i)) (pick (early f) (frame8 sr ppc 0x800C) (pick (forty f) (frame2 sr ppc (a - a % 2)) (frame0 sr ppc)))

pub bus_is : (f : Family) (c : Cpu) → Tests f (kind_of c) → (a : ℕ) (write i : Bool) (z cause : ℕ) → bus_frame c a write i z cause ≡ bus_by f (get_sr c) (ppc_of c) (ir_of c % 0x10000) a write i z (code_of c i) (wdata_of c) cause
unfolding bus_frame write_data
bus_is f c t a write i z cause = rw (t.one, t.pre, t.is6, t.is4, fault_code_lem c i)

pub address_is : (f : Family) (c : Cpu) → Tests f (kind_of c) → (a : ℕ) (write i : Bool) → address_frame c a write i ≡ address_by f (get_sr c) (ppc_of c) (ir_of c % 0x10000) a write i (code_by (is_set 13 (get_sr c)) i)
unfolding address_frame
address_is f c t a write i = rw (t.one, t.pre, t.is4, state_code_lem c i)

pub bus_size : (f : Family) (sr ppc ir a : ℕ) (write i : Bool) (z code datum cause : ℕ) → Sized (bus_by f sr ppc ir a write i z code datum cause) (bus_bytes f)
bus_size mc68000 sr ppc ir a write i z code datum cause = size14 sr ppc ir a (fault_word code write i)
bus_size mc68010 sr ppc ir a write i z code datum cause = size58 sr ppc 0x8008
bus_size mc68020 sr ppc ir a write i z code datum cause = size_error11 sr ppc (ssw020 code write i z) (pick i 0 a) (pick write datum 0) (pick i a 0)
bus_size mc68030 sr ppc ir a write i z code datum cause = size_error11 sr ppc (ssw020 code write i z) (pick i 0 a) (pick write datum 0) (pick i a 0)
bus_size mc68040 sr ppc ir a write i z code datum cause = size_error7 sr ppc a (ssw040 code write z cause) (wb3s code write z) (pick write a 0) (pick write datum 0)
bus_size mc68060 sr ppc ir a write i z code datum cause = size_error4 sr ppc a (fslw060 write i z code cause)

pub address_size : (f : Family) (sr ppc ir a : ℕ) (write i : Bool) (code : ℕ) → Sized (address_by f sr ppc ir a write i code) (address_bytes f)
address_size mc68000 sr ppc ir a write i code = size14 sr ppc ir a (fault_word code write i)
address_size mc68010 sr ppc ir a write i code = size58 sr ppc 0x800C
address_size mc68020 sr ppc ir a write i code = size_error0 sr ppc
address_size mc68030 sr ppc ir a write i code = size_error0 sr ppc
address_size mc68040 sr ppc ir a write i code = size_error2 sr ppc (a - a % 2)
address_size mc68060 sr ppc ir a write i code = size_error0 sr ppc
