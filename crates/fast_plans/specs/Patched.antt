-- The groups of a record that the core's and a lent one have alike, with a patch.
use Rattle.std.specs.Prelude.{ℕ, List, eqb, ℤ, set}
use Rattle.types.specs.Kinds.{pick}
use Rattle.cpu.specs.declared.Regs.{Regs}
use Rattle.cpu.specs.declared.Flags.{Flags}
use Rattle.pending.specs.Interrupts.{less_cycles}
use Rattle.fast_plans.specs.declared.Patch.{Patch}

unfoldable pub patched_regs : Regs → Patch → Regs
patched_regs r q = record { dar = set r.dar 15 q.a7; dar_save = r.dar_save; sp = set (set r.sp 0 q.user) 4 q.top }

unfoldable pub patched_flags : Flags → Patch → Flags
patched_flags f q =
    record {
      t1_flag = 0;
      t0_flag = 0;
      s_flag = 4;
      m_flag = f.m_flag;
      x_flag = f.x_flag;
      n_flag = f.n_flag;
      not_z_flag = f.not_z_flag;
      v_flag = f.v_flag;
      c_flag = f.c_flag;
      int_mask = q.mask;
      int_level = q.level;
      sr_save = f.sr_save;
    }

unfoldable pub calmed_flags : Flags → Patch → Flags
calmed_flags f q =
    record {
      t1_flag = f.t1_flag;
      t0_flag = f.t0_flag;
      s_flag = f.s_flag;
      m_flag = f.m_flag;
      x_flag = f.x_flag;
      n_flag = f.n_flag;
      not_z_flag = f.not_z_flag;
      v_flag = f.v_flag;
      c_flag = f.c_flag;
      int_mask = f.int_mask;
      int_level = q.level;
      sr_save = f.sr_save;
    }

-- the cycles of an interrupt taken off, where one was serviced
unfoldable pub patched_cycles : ℤ → ℕ → Patch → ℤ
patched_cycles remaining kind q = pick q.serviced (less_cycles remaining (eqb kind 2)) remaining

-- FPIAR is the instruction's address where the entry notes it
unfoldable pub patched_fpiar : ℕ → ℕ → Patch → ℕ
patched_fpiar ppc fpiar q = pick q.noted ppc fpiar

-- the words of the queue and how many it has, where two were fetched
unfoldable pub patched_words : List ℕ → Patch → List ℕ
patched_words words q = pick q.fetches (set (set words 0 q.first) 1 q.second) words

unfoldable pub patched_count : ℕ → Patch → ℕ
patched_count count q = pick q.fetches 2 count
