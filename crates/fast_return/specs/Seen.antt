-- What a walk keeps of the record: A7, the three saved pointers, S and M, the last two as 0 or 1.
use Rattle.std.specs.Prelude.{ℕ, ◌+◌, ◌/◌, ◌%◌, ◌^◌, Bool, ◌==◌, slice_index, slice_set}
use Rattle.types.specs.Kinds.{pick, is060, mask_status}
use Rattle.cpu.specs.declared.Cpu.{Cpu}
use Rattle.cpu.specs.declared.Regs.{Regs}
use Rattle.cpu.specs.declared.Flags.{Flags}
use Rattle.status.specs.Status.{decompose, s_of, m_of}
use Rattle.unwind.specs.Models.{Frame}
use Rattle.fast_return.specs.declared.seen.Seen.{Seen}

unfoldable pub seen : Cpu → Seen
seen c =
    record {
      a7 = slice_index c.regs.dar 15;
      user = slice_index c.regs.sp 0;
      interrupt = slice_index c.regs.sp 4;
      master = slice_index c.regs.sp 6;
      s = c.flags.s_flag / 4 % 2;
      m = c.flags.m_flag / 2 % 2;
    }

-- S is clear: number 11
unfoldable pub seen_in_user : Seen → Bool
seen_in_user x = x.s == 0

-- `sp_index` by S and M: 0 user, 4 interrupt, 6 master; the 68060 has one supervisor stack
unfoldable pub stack_of : ℕ → ℕ → ℕ → ℕ
stack_of k s m = pick (s == 0) 0 (pick (is060 k) 4 (pick (m == 0) 4 6))

-- the saved pointer at index i
unfoldable pub bank_of : ℕ → ℕ → ℕ → ℕ → ℕ
bank_of i user interrupt master = pick (i == 0) user (pick (i == 4) interrupt master)

-- the pointers user, interrupt and master, and w the status that is put back
unfoldable pub entered_seen : ℕ → ℕ → ℕ → ℕ → ℕ → Seen
entered_seen k user interrupt master w =
    record {
      a7 = bank_of (stack_of k (w / 0x2000 % 2) (w / 0x1000 % 2)) user interrupt master;
      user = user;
      interrupt = interrupt;
      master = master;
      s = w / 0x2000 % 2;
      m = w / 0x1000 % 2;
    }

-- A7 is a and is saved at index i
unfoldable pub saved_seen : ℕ → Seen → ℕ → ℕ → ℕ → Seen
saved_seen k x a i w =
    entered_seen k (pick (i == 0) a x.user) (pick (i == 4) a x.interrupt) (pick (i == 6) a x.master) w

-- a frame taken off the stack in use
unfoldable pub take_seen : ℕ → Seen → Frame → Seen
take_seen k x f = saved_seen k x ((x.a7 + f.size) % 2 ^ 32) (stack_of k x.s x.m) (mask_status k f.status)

-- A7 and the three saved pointers put into the registers
unfoldable pub banked_regs : Regs → Seen → Regs
banked_regs r y =
    record { dar = slice_set r.dar 15 y.a7; dar_save = r.dar_save; sp = slice_set (slice_set (slice_set r.sp 0 y.user) 4 y.interrupt) 6 y.master }

-- the flags of a status that is put back
unfoldable pub back_flags : ℕ → Flags → ℕ → Flags
back_flags k f st = decompose f (mask_status k st) (s_of (mask_status k st)) (m_of (mask_status k st))
