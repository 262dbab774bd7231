-- The stack pointers of user, interrupt and master state.
use Rattle.std.specs.Prelude.{ℕ, ◌*◌, ◌/◌, ◌%◌, eqb, set, get_or}
use Rattle.types.specs.Kinds.{pick, is060}
use Rattle.cpu.specs.declared.Cpu.{Cpu}
use Rattle.cpu.specs.Setters.{with_dar, with_mflag, with_sflag, with_sp}
use Rattle.status.specs.Status.{clear_trace}

-- `sp_index`: 0 user, 4 interrupt, 6 master; the 68060 has one supervisor stack. Only the bits of `s_flag` and `m_flag` that
-- `get_sr` tests count, so that any record has an index; where number 1 accepts the record this is the Rust's formula
unfoldable pub sp_index : Cpu → ℕ
sp_index c =
    pick (eqb (c.flags.s_flag / 4 % 2) 0) 0
    (pick (is060 c.flow.cpu_type) 4
    (pick (eqb (c.flags.m_flag / 2 % 2) 0) 4 6))

-- `backup_sp`: A7 into the saved pointer of the stack in use
unfoldable pub backup_sp : Cpu → Cpu
backup_sp c = with_sp c (set c.regs.sp (sp_index c) (get_or c.regs.dar 15 0))

-- `restore_sp`: the saved pointer of the stack in use into A7
unfoldable pub restore_sp : Cpu → Cpu
restore_sp c = with_dar c (set c.regs.dar 15 (get_or c.regs.sp (sp_index c) 0))

-- the S flag is v, no stack switched
unfoldable pub put_s : Cpu → ℕ → Cpu
put_s c v = with_sflag c v

-- `set_sm_flag_nosp`: S from bit 2 and M from bit 1 of the value, no stack switched
unfoldable pub set_sm_flag_nosp : Cpu → ℕ → Cpu
set_sm_flag_nosp c value = with_mflag (with_sflag c (value / 4 % 2 * 4)) (value / 2 % 2 * 2)

-- `set_s_flag`: the stack is switched with S
unfoldable pub set_sflag : Cpu → ℕ → Cpu
set_sflag c value = restore_sp (put_s (backup_sp c) value)

-- `set_sm_flag`: the stack is switched with S and M
unfoldable pub set_sm_flag : Cpu → ℕ → Cpu
set_sm_flag c value = restore_sp (set_sm_flag_nosp (backup_sp c) value)

-- what every entry does first: supervisor stack and state, trace off
unfoldable pub enter_supervisor : Cpu → Cpu
enter_supervisor c = clear_trace (set_sflag c 4)
