-- THE DIFFERENCE OF THE TRIGGERS: in the user state with M set a trigger puts the status back without M, so that the stacked status lacks M and, from the
-- 68020 to the 68040, the frame lies on the interrupt stack; by the manuals M stays and the frame lies on the master stack. `put_back` proves that
-- the status put back differs in nothing else, `m_lost` and `m_lost_68060` show the difference on `perform`.
use Rattle.std.specs.Prelude.{None}
use Rattle.std.specs.Prelude.{ℕ, zero, suc, ◌-◌, ◌*◌, ◌/◌, ◌%◌, ◌<◌, ◌≡◌, refl, Bool, true, false, cond, ◌&&◌, List, [], ◌∷◌, eqb, set, replicate}
use Rattle.std.proofs.Common.{ap, ◌∙◌, arith}
use Rattle.std.proofs.Math.Option.{Option, none, some}
use Rattle.types.specs.Kinds.{pick, mask_status}
use Rattle.cpu.specs.declared.Cpu.{Cpu}
use Rattle.cpu.specs.Groups.{with_regs, with_flags}
use Rattle.cpu.specs.Fields.{kind_of, a7_of}
use Rattle.cpu.specs.Fresh.{fresh_cpu}
use Rattle.status.specs.Status.{get_sr, put_back_sr}
use Rattle.status.specs.Laws.{drop_m}
use Rattle.memory.specs.World.{World, world, cpu_of}
use Rattle.answers.specs.declared.Call.TheVariants.{TriggerBusError, ExceptionBusError}
use Rattle.answers.specs.Answers.{plain}
use Rattle.calls.specs.Calls.{refusal, perform}
use Rattle.nest.specs.View.{peek}
use Rattle.nest.specs.Written.{word_at}
use Rattle.entered.specs.Bytes.{mem}
use Rattle.manual.specs.Parts.{Family, family_of}
use Rattle.manual.specs.State.{State}
use Rattle.manual.specs.Vectors.{bus_error}
use Rattle.manual.specs.Exceptions.{pointer_after, length_of}
use Rattle.manual.specs.Calls.{state_of}
use Rattle.manual.specs.Returns.{implemented}
use Rattle.manual.specs.ReturnHolds.{mask_is}
use Rattle.manual.specs.Triggers.{restored, status_back}
use Rattle.manual.specs.Computed.{shown}

-- user stack at 0x100, interrupt stack at 0x180, master stack at 0x200; status and registers as before the instruction
abbrev registers : List ℕ
registers = set (replicate 16 0) 15 0x100

abbrev saved : Cpu → Cpu
saved c =
    with_flags c
    (record {
      t1_flag = c.flags.t1_flag;
      t0_flag = c.flags.t0_flag;
      s_flag = c.flags.s_flag;
      m_flag = c.flags.m_flag;
      x_flag = c.flags.x_flag;
      n_flag = c.flags.n_flag;
      not_z_flag = c.flags.not_z_flag;
      v_flag = c.flags.v_flag;
      c_flag = c.flags.c_flag;
      int_mask = c.flags.int_mask;
      int_level = c.flags.int_level;
      sr_save = 0x1700;
    })

abbrev cpu_for : ℕ → Cpu
cpu_for k =
    saved (put_back_sr (with_regs (fresh_cpu k) (record { dar = registers; dar_save = registers; sp = set (set (set (replicate 8 0) 0 0x100) 4 0x180) 6 0x200 })) 0x1700)

abbrev pub world_for : ℕ → World
world_for k =
    world (record { cpu = cpu_for k; bus = record { base = 0; windows = 0; starts = replicate 8 0; lengths = replicate 8 0; responses = replicate 8 0xFFFFFFFF; events = 0 } }) (replicate 512 0) (replicate 192 0)

abbrev is : Option ℕ → ℕ → Bool
is none n = false
is (some m) n = eqb m n

-- accepted; the manual's status and A7, and ours
abbrev lost_by : Option Family → World → World → Bool
lost_by none w z = false
lost_by (some f) w z = lost (state_of w f (ExceptionBusError 0x1234 false false 2 None))
  where
    lost : State → Bool
    lost s =
        (eqb (refusal w (TriggerBusError 0x1234 false false 2)) 0 && (eqb s.status 0x1700 && eqb (pointer_after s bus_error) (0x200 - length_of s bus_error)))
        && (is (word_at (peek (mem z)) (a7_of (cpu_of z))) 0x0700 && eqb (a7_of (cpu_of z)) (0x180 - length_of s bus_error))

abbrev pub lost_on : List ℕ → Bool
lost_on [] = true
lost_on (k ∷ ks) = lost_by (family_of k) (world_for k) (perform (world_for k) (TriggerBusError 0x1234 false false 2)).after && lost_on ks

pub m_lost : lost_on (3 ∷ 4 ∷ 5 ∷ 6 ∷ 7 ∷ 8 ∷ 9 ∷ []) ≡ true
unfolding shown plain
m_lost = refl

-- the 68060 has one supervisor stack: the status alone
pub m_lost_68060 : is (word_at (peek (mem (perform (world_for 11) (TriggerBusError 0x1234 false false 2)).after)) (a7_of (cpu_of (perform (world_for 11) (TriggerBusError 0x1234 false false 2)).after))) 0x0700 ≡ true
unfolding shown plain
m_lost_68060 = refl

-- ---- and nothing else

-- S clear and M set
abbrev pub loses_m : ℕ → Bool
loses_m v = eqb (v / 0x2000 % 2) 0 && eqb (v / 0x1000 % 2) 1

keeps : (v : ℕ) → loses_m v ≡ false → drop_m v ≡ v
unfolding drop_m
keeps v h = go (eqb (v / 0x2000 % 2) 0) (v / 0x1000 % 2) (omega arith) h
  where
    go : (b : Bool) (m : ℕ) → m < 2 → b && eqb m 1 ≡ false → pick b (v - m * 0x1000) v ≡ v
    go false m l e = refl
    go true zero l e = omega arith
    go true (suc zero) l e = let z : ◌≡◌ {A = ℕ} 0 1 = ap (λ (b : Bool). cond b 0 1) e in absurd (omega arith)
    go true (suc (suc m)) l e = absurd (omega arith)

-- the status put back is the one before the instruction, in the bits that the part has, but where S is clear and M set
pub put_back : (w : World) (F : Family) → kind_of (cpu_of w) < 12 → family_of (kind_of (cpu_of w)) ≡ some F → loses_m (mask_status (kind_of (cpu_of w)) (cpu_of w).flags.sr_save) ≡ false
    → get_sr (cpu_of (restored w)) ≡ implemented F (cpu_of w).flags.sr_save
put_back w F l e h = status_back w ∙ keeps (mask_status (kind_of (cpu_of w)) (cpu_of w).flags.sr_save) h ∙ mask_is (kind_of (cpu_of w)) F (cpu_of w).flags.sr_save l e
