-- THE STATEMENT ITSELF: that its domain is what the types give, that refusals and moving stores are inside it, and that "its accesses are
-- served and raise no address error" is neither too strong nor too weak. Each by a lemma or by computing.
use Rattle.std.specs.Prelude.{ℕ, ◌<◌, ◌≡◌, refl, Bool, true, false, [], ◌∷◌, negsuc, length, get_or, set, replicate}
use Rattle.cpu.specs.declared.Cpu.{Cpu}
use Rattle.cpu.specs.Setters.{with_sflag, with_mmu_fc_override}
use Rattle.cpu.specs.Fields.{pc_of, ppc_of, a7_of, set_pc}
use Rattle.answers.specs.declared.Call.TheVariants.{Trap, ExceptionChk, CheckAndServiceInterrupts}
use Rattle.calls.specs.Calls.{begun, refusal}
use Rattle.forms.specs.Forms.{plan_of}
use Rattle.instances.specs.Start.{laid}
use Rattle.entered.specs.Machines.{Room, InsideRoom, world_of}
use Rattle.rule3.specs.Checked.{inside_test, clean_by}
use Rattle.rule3.specs.Nests.{bus, room, start}
use Rattle.rule3.specs.Needed.{with_base, with_cycles, trapped, windows}
use Rattle.rule3.specs.Computed.{nested}

-- ---- the domain

-- what the types of record and store say: 16 registers and 8 saved pointers of 32 bits, PC and PPC of 32 bits, bytes
pub record Typed (r : Cpu) (s : Room) : Type 0 where
  pub registers : length r.regs.dar ≡ 16
  pub pointers : length r.regs.sp ≡ 8
  pub words : (i : ℕ) → get_or r.regs.dar i 0 < 0x100000000
  pub saved : (i : ℕ) → get_or r.regs.sp i 0 < 0x100000000
  pub pc : pc_of r < 0x100000000
  pub ppc : ppc_of r < 0x100000000
  pub bytes : (i : ℕ) → get_or s.bytes i 0 < 256

-- every record and store of their types is inside
pub typed_inside : (r : Cpu) (s : Room) → Typed r s → InsideRoom r s
unfolding a7_of
typed_inside r s t =
    record {
      record_in = record { registers = t.registers; pointers = t.pointers; a7 = t.words 15; saved = t.saved; pc = λ e. t.pc; ppc = λ e. t.ppc };
      bytes = λ e. t.bytes;
    }

-- inside, and refused by 1, 2, 4, 5, 6
abbrev r₁ : Cpu
r₁ = with_sflag (start 4 0x2000 0x180 0 0 0 0) 2

pub inside_1 : (inside_test r₁ room ≡ true) × (refusal (world_of r₁ room) (Trap 0) ≡ 1)
unfolding nested
inside_1 = (refl, refl)

abbrev r₂ : Cpu
r₂ = with_base (start 2 0x2000 0x180 0 0 0 0) 1

pub inside_2 : (inside_test r₂ room ≡ true) × (refusal (world_of r₂ room) (Trap 0) ≡ 2)
unfolding nested
inside_2 = (refl, refl)

abbrev r₄ : Cpu
r₄ = with_mmu_fc_override (start 4 0x2000 0x180 0 0 0 0) (record { some = true; value = 8 })

pub inside_4 : (inside_test r₄ room ≡ true) × (refusal (world_of r₄ room) (Trap 0) ≡ 4)
unfolding nested
inside_4 = (refl, refl)

abbrev pub plain : Cpu
plain = start 4 0x2000 0x180 0 0 0 0

abbrev s₅ : Room
s₅ = record { bus = record { base = 0xFFFFFFFF; windows = 0; starts = replicate 8 0; lengths = replicate 8 0; responses = replicate 8 0; events = 0 }; bytes = 0 ∷ 0 ∷ []; log = replicate 192 0 }

pub inside_5 : (inside_test plain s₅ ≡ true) × (refusal (world_of plain s₅) (Trap 0) ≡ 5)
unfolding nested
inside_5 = (refl, refl)

abbrev s₆ : Room
s₆ = record { bus = windows 9 0 0; bytes = replicate 512 0; log = replicate 192 0 }

pub inside_6 : (inside_test plain s₆ ≡ true) × (refusal (world_of plain s₆) (Trap 0) ≡ 6)
unfolding nested
inside_6 = (refl, refl)

abbrev pub short : Room
short = record { bus = bus; bytes = (trapped 0x178).bytes; log = replicate 191 0 }

abbrev pub spent : Cpu
spent = with_cycles (start 4 0x2000 0x180 0 0 0 7) (negsuc 0x7FFFFFD2)

pub refused_3 : refusal (world_of spent room) CheckAndServiceInterrupts ≡ 3
unfolding nested
refused_3 = refl

-- ---- handlers that move the store: another base, another length, a window and other responses, with a frame live

abbrev pub moved : Room
moved =
    record {
      bus = record { base = 0x100; windows = 1; starts = set (replicate 8 0) 0 0x110; lengths = set (replicate 8 0) 0 4; responses = replicate 8 0x40; events = 7 };
      bytes = laid (replicate 0x90 0x55) 0x78 (0x20 ∷ 0x00 ∷ 0x00 ∷ 0x00 ∷ 0x01 ∷ 0x00 ∷ 0x00 ∷ 0x80 ∷ []);
      log = replicate 192 0;
    }

-- ---- what is clean

abbrev chk_clean : Cpu → Room → Bool
chk_clean r s = clean_by r s (plan_of (begun (world_of r s)) ExceptionChk)

abbrev handler : ℕ → ℕ → ℕ → ℕ → Room
handler a b c d = record { bus = bus; bytes = laid (replicate 512 0) 0x18 (a ∷ b ∷ c ∷ d ∷ []); log = replicate 192 0 }

-- an odd handler's address makes no prefetch, so nothing faults
pub odd_handler : chk_clean (start 2 0x2000 0x180 0 0 0 0) (handler 0x00 0x00 0x20 0x01) ≡ true
unfolding nested
odd_handler = refl

-- the frame lies on the vector: the handler's address is the one stacked, and its prefetch is not served
pub frame_on_the_vector : chk_clean (set_pc (start 2 0x2000 0x1E 0 0 0 0) 0x20000) (handler 0x00 0x00 0x01 0x00) ≡ false
unfolding nested
frame_on_the_vector = refl

-- a vector whose long ends past the masked addresses: its four bytes lie one after the other from the masked address
abbrev top : ℕ → Room
top n =
    record {
      bus = record { base = 0xFFFF00; windows = 0; starts = replicate 8 0; lengths = replicate 8 0; responses = replicate 8 0; events = 0 };
      bytes = laid (replicate n 0) 0xFE (0x00 ∷ 0xFF ∷ 0xFF ∷ 0x10 ∷ []);
      log = replicate 192 0;
    }

abbrev high : Cpu
high = with_base (start 2 0x2000 0xFFFF80 0 0 0 0) 0xFFFFE6

pub past_the_top_served : chk_clean high (top 0x110) ≡ true
unfolding nested
past_the_top_served = refl

pub past_the_top_not : chk_clean high (top 0x100) ≡ false
unfolding nested
past_the_top_not = refl
