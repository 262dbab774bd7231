-- The status register: `get_sr`, `set_sr_noint_nosp`, `set_ccr_internal`, and the status put back by a return.
use Rattle.std.specs.Prelude.{ℕ, ◌+◌, ◌-◌, ◌*◌, ◌/◌, ◌%◌, Bool, true, not, eqb}
use Rattle.types.specs.Kinds.{pick, mask_status}
use Rattle.cpu.specs.declared.Flags.{Flags}
use Rattle.cpu.specs.declared.Cpu.{Cpu}
use Rattle.cpu.specs.Groups.{with_fault_resume, with_flags}
use Rattle.cpu.specs.Setters.{with_cflag, with_int_mask, with_mflag, with_nflag, with_not_zflag, with_run_mode, with_t0_flag, with_t1_flag, with_vflag, with_xflag}
use Rattle.cpu.specs.Fields.{kind_of}

-- `get_sr`: each flag gives the bit that is tested in it; Z is set where `not_z_flag` is 0
unfoldable pub compose : Flags → ℕ
compose f =
    f.t1_flag / 0x8000 % 2 * 0x8000 + f.t0_flag / 0x4000 % 2 * 0x4000 + f.s_flag / 4 % 2 * 0x2000 + f.m_flag / 2 % 2 * 0x1000
    + f.int_mask / 256 % 8 * 256
    + (f.x_flag / 256 % 2 * 16 + f.n_flag / 128 % 2 * 8 + f.v_flag / 128 % 2 * 2 + f.c_flag / 256 % 2)
    + pick (eqb f.not_z_flag 0) 4 0

unfoldable pub get_sr : Cpu → ℕ
get_sr c = compose c.flags

-- the flags of a status, each 0 or the bit that `get_sr` tests, with the S and M flags given
unfoldable pub decompose : Flags → ℕ → ℕ → ℕ → Flags
decompose f w s m =
    record {
      t1_flag = w / 0x8000 % 2 * 0x8000;
      t0_flag = w / 0x4000 % 2 * 0x4000;
      s_flag = s;
      m_flag = m;
      x_flag = w / 16 % 2 * 256;
      n_flag = w / 8 % 2 * 128;
      not_z_flag = 1 - w / 4 % 2;
      v_flag = w / 2 % 2 * 128;
      c_flag = w % 2 * 256;
      int_mask = w / 256 % 8 * 256;
      int_level = f.int_level;
      sr_save = f.sr_save;
    }

abbrev pub s_of : ℕ → ℕ
s_of w = w / 0x2000 % 2 * 4

abbrev pub m_of : ℕ → ℕ
m_of w = w / 0x1000 % 2 * 2

-- M counts only where S is set
unfoldable pub m_under_s : ℕ → ℕ
m_under_s w = pick (eqb (s_of w) 0) 0 (m_of w)

-- `set_sr_noint_nosp`: under the kind's mask, M cleared where S is clear, no stack switched
unfoldable pub set_sr_noint_nosp : Cpu → ℕ → Cpu
set_sr_noint_nosp c sr = with_flags c (decompose c.flags (mask_status (kind_of c) sr) (s_of (mask_status (kind_of c) sr)) (m_under_s (mask_status (kind_of c) sr)))

-- the status put back by a return: under the kind's mask, M as stacked
unfoldable pub put_back_sr : Cpu → ℕ → Cpu
put_back_sr c sr = with_flags c (decompose c.flags (mask_status (kind_of c) sr) (s_of (mask_status (kind_of c) sr)) (m_of (mask_status (kind_of c) sr)))

-- the status saved before the instruction is put back
unfoldable pub restore_sr : Cpu → Cpu
restore_sr c = set_sr_noint_nosp c c.flags.sr_save

-- `set_ccr_internal`: the five condition codes
unfoldable pub set_ccr : Cpu → ℕ → Cpu
set_ccr c ccr =
    with_cflag
    (with_vflag (with_not_zflag (with_nflag (with_xflag c (ccr / 16 % 2 * 256)) (ccr / 8 % 2 * 128)) (1 - ccr / 4 % 2)) (ccr / 2 % 2 * 128))
    (ccr % 2 * 256)

-- an entry clears both trace flags
unfoldable pub clear_trace : Cpu → Cpu
clear_trace c = with_t0_flag (with_t1_flag c 0) 0

-- the interrupt mask is the level
unfoldable pub set_int_mask : Cpu → ℕ → Cpu
set_int_mask c level = with_int_mask c (level % 8 * 256)

-- M is cleared and the stack stays: kind 11
unfoldable pub clear_m : Cpu → Cpu
clear_m c = with_mflag c 0

-- whether M is set
unfoldable pub m_is_set : Cpu → Bool
m_is_set c = not (eqb c.flags.m_flag 0)

-- PC, the status and the registers are kept for the end of the faulted instruction, and the record is faulted
unfoldable pub keep_resume : Cpu → Cpu
keep_resume c =
    with_fault_resume (with_run_mode c 1) (record { some = true; pc = c.flow.pc; sr = get_sr c; dar = c.regs.dar })
