-- Theorems about what specs/PartLaws defines, and what rests on them.
use Rattle.std.specs.Prelude.{ℕ, ◌+◌, ◌*◌, ◌/◌, ◌%◌, ◌<◌, ◌≡◌, [], eqb}
use Rattle.std.proofs.Common.{arith}
use Rattle.types.specs.Kinds.{pick}
use Rattle.cpu.specs.declared.Cpu.{Cpu}
use Rattle.status.specs.Status.{get_sr, compose, clear_trace, clear_m, set_int_mask}
use Rattle.status.specs.Banks.{backup_sp, restore_sp, put_s, set_sflag, enter_supervisor}
use Rattle.steps.specs.Steps.{enter_level}
use Rattle.manual.specs.State.{interrupted}
use Rattle.manual.specs.PartLaws.{low, levels}

pub level_status : (c : Cpu) (level : ℕ) → level < 8 → get_sr (clear_m (enter_level c level)) ≡ interrupted level (get_sr c)
unfolding get_sr compose clear_m enter_level set_int_mask enter_supervisor clear_trace set_sflag restore_sp put_s backup_sp
level_status c level l =
    let e : level % 8 * 256 / 256 % 8 ≡ level = omega arith in
    rw e
    (levels (c.flags.t1_flag / 0x8000 % 2) (c.flags.t0_flag / 0x4000 % 2) (c.flags.s_flag / 4 % 2) (c.flags.m_flag / 2 % 2) (c.flags.int_mask / 256 % 8)
    (c.flags.x_flag / 256 % 2 * 16 + c.flags.n_flag / 128 % 2 * 8 + c.flags.v_flag / 128 % 2 * 2 + c.flags.c_flag / 256 % 2) (pick (eqb c.flags.not_z_flag 0) 4 0) level
    (omega arith) (omega arith) (low (c.flags.x_flag / 256) (c.flags.n_flag / 128) (c.flags.v_flag / 128) (c.flags.c_flag / 256) (eqb c.flags.not_z_flag 0)) l)
