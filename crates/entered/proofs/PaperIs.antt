-- Theorems about what specs/PaperIs defines, and what rests on them.
use Rattle.std.specs.Prelude.{ℕ, ◌+◌, ◌%◌, ◌<◌, ◌≡◌, refl, Bool, true, false, cond, ◌&&◌, ◌||◌, eqb, leb}
use Rattle.std.proofs.Common.{ap, ◌∙◌, arith}
use Rattle.types.specs.Kinds.{pick, either, both, is_pre68020, is_ec020_plus, is040, is060}
use Rattle.cpu.specs.declared.Cpu.{Cpu}
use Rattle.cpu.specs.Fields.{kind_of, pc_of, ppc_of, rewind_pc}
use Rattle.memory.specs.World.{World, cpu_of}
use Rattle.formats.specs.Formats.{format_word, offset_word}
use Rattle.steps.specs.Steps.{stacked_address, stacks_next}
use Rattle.answers.specs.declared.Call.{Call}
use Rattle.answers.specs.declared.Call.TheVariants.{TakeException, Trap, TakeGroup2Exception, ExceptionChk, ExceptionZeroDivide, ExceptionPrivilege, ExceptionTrace, ExceptionAddressError, ExceptionBusError, TakeFpUnimp060, TakeFpDisabled060, TakeAlineException, TakeFlineException, TakeTrapException, TakeBkptException, TakeIllegalException, TriggerAddressError, TriggerBusError, CheckTrace, SetIrq, CheckInterrupts, CheckAndServiceInterrupts, Read16, Read32, Write16, Write32, Push16, Push32, PrefetchFirst, PrefetchSecond}
use Rattle.answers.specs.Matters.{matter_of}
use Rattle.calls.specs.Calls.{refusal}
use Rattle.forms.specs.Accepted.{accepted_vector}
use Rattle.nest.specs.View.{Frame, one, two, nonzero}
use Rattle.entered.specs.Stacks.{frame_at, short_at, group_at, address_at, bus_at, interrupt_both, interrupt_at, stacks}
use Rattle.entered.specs.Paper.{made, word_for, length_for, frame_for, error_for, address_format, bus_format, next, exception_for, group_for, vector_for, second_for, interrupt_for, paper}
use Rattle.entered.specs.PaperIs.{made_is, offset_is, format_is, next_is, pick_is, rewound_address, vector_is, vector_low, m_is_lem, throw_is, next_4, next_10, next_11}

address_of_lem : (c : Cpu) (v : ℕ) → v < 256 → stacked_address c v ≡ cond (next v) c.flow.pc c.flow.ppc
unfolding stacked_address pc_of ppc_of
address_of_lem c v l = pick_is (stacks_next v) c.flow.pc c.flow.ppc ∙ ap (λ (b : Bool). cond b c.flow.pc c.flow.ppc) (next_is v l)

-- ---- frames

short_is : (c : Cpu) (v a : ℕ) → v < 256 → short_at c a (offset_word v) ≡ frame_for c 0 v a
unfolding short_at kind_of
short_is c v a l = rw (offset_is v l) (go (eqb c.flow.cpu_type 1))
  where
    go : (b : Bool) → pick b (frame_at c 6 a 0) (frame_at c 8 a (word_for 0 v)) ≡ cond b (made c 6 a 0) (made c 8 a (word_for 0 v))
    go true = made_is c 6 a 0
    go false = made_is c 8 a (word_for 0 v)

exception_is : (c : Cpu) (v : ℕ) → v < 256 → short_at c (stacked_address c v) (offset_word v) ≡ exception_for c v
exception_is c v l = ap (λ (a : ℕ). short_at c a (offset_word v)) (address_of_lem c v l) ∙ short_is c v (cond (next v) c.flow.pc c.flow.ppc) l

rewound_is : (c : Cpu) (v : ℕ) → v < 256 → stacks_next v ≡ false → short_at c (stacked_address (rewind_pc c) v) (offset_word v) ≡ exception_for c v
rewound_is c v l e = ap (λ (a : ℕ). short_at c a (offset_word v)) (rewound_address c v e) ∙ exception_is c v l

group_is : (c : Cpu) (v : ℕ) → v < 256 → group_at c v ≡ group_for c v
unfolding group_at is_pre68020 short_at kind_of pc_of
group_is c v l = rw (offset_is v l, format_is 2 v l) (go (eqb c.flow.cpu_type 1) (eqb c.flow.cpu_type 2) (eqb c.flow.cpu_type 10))
  where
    pc : ℕ
    pc = c.flow.pc

    go : (x y z : Bool) → pick (either x (either y z)) (pick x (frame_at c 6 pc 0) (frame_at c 8 pc (word_for 0 v))) (frame_at c 12 pc (word_for 2 v))
        ≡ cond x (made c 6 pc 0) (made c (length_for (cond (y || z) 0 2)) pc (word_for (cond (y || z) 0 2) v))
    go true y z = made_is c 6 pc 0
    go false true z = made_is c 8 pc (word_for 0 v)
    go false false true = made_is c 8 pc (word_for 0 v)
    go false false false = made_is c 12 pc (word_for 2 v)

address_is : (c : Cpu) → address_at c ≡ error_for c (address_format c.flow.cpu_type) 3
unfolding address_at is_pre68020 is040 kind_of ppc_of
address_is c = go (eqb c.flow.cpu_type 1) (eqb c.flow.cpu_type 2) (eqb c.flow.cpu_type 10) (leb 7 c.flow.cpu_type) (leb c.flow.cpu_type 9)
  where
    pc : ℕ
    pc = c.flow.ppc

    go : (x y z p q : Bool) → pick x (frame_at c 14 pc 0) (pick (either x (either y z)) (frame_at c 58 pc 0x800C) (pick (both p q) (frame_at c 12 pc 0x200C) (frame_at c 8 pc 0x000C)))
        ≡ cond x (made c 14 pc 0) (made c (length_for (cond (y || z) 8 (cond (p && q) 2 0))) pc (word_for (cond (y || z) 8 (cond (p && q) 2 0)) 3))
    go true y z p q = made_is c 14 pc 0
    go false true z p q = made_is c 58 pc 0x800C
    go false false true p q = made_is c 58 pc 0x800C
    go false false false true true = made_is c 12 pc 0x200C
    go false false false true false = made_is c 8 pc 0x000C
    go false false false false q = made_is c 8 pc 0x000C

bus_is : (c : Cpu) → bus_at c ≡ error_for c (bus_format c.flow.cpu_type) 2
unfolding bus_at is_pre68020 is040 is060 kind_of ppc_of
bus_is c = go (eqb c.flow.cpu_type 1) (eqb c.flow.cpu_type 2) (eqb c.flow.cpu_type 10) (eqb c.flow.cpu_type 11) (leb 7 c.flow.cpu_type) (leb c.flow.cpu_type 9)
  where
    pc : ℕ
    pc = c.flow.ppc

    go : (x y z s p q : Bool) → pick x (frame_at c 14 pc 0) (pick (either x (either y z)) (frame_at c 58 pc 0x8008) (pick s (frame_at c 16 pc 0x4008) (pick (both p q) (frame_at c 60 pc 0x7008) (frame_at c 92 pc 0xB008))))
        ≡ cond x (made c 14 pc 0) (made c (length_for (cond (y || z) 8 (cond s 4 (cond (p && q) 7 11)))) pc (word_for (cond (y || z) 8 (cond s 4 (cond (p && q) 7 11))) 2))
    go true y z s p q = made_is c 14 pc 0
    go false true z s p q = made_is c 58 pc 0x8008
    go false false true s p q = made_is c 58 pc 0x8008
    go false false false true p q = made_is c 16 pc 0x4008
    go false false false false true true = made_is c 60 pc 0x7008
    go false false false false true false = made_is c 92 pc 0xB008
    go false false false false false q = made_is c 92 pc 0xB008

interrupt_is : (c : Cpu) (v : ℕ) → v < 256 → interrupt_at c v ≡ interrupt_for c v
unfolding interrupt_at interrupt_both is_ec020_plus kind_of pc_of
interrupt_is c v l = rw (m_is_lem c, throw_is c v l, short_is c v c.flow.pc l) (go (nonzero c.flags.m_flag) (leb 3 c.flow.cpu_type) (leb c.flow.cpu_type 9) (second_for c v) (frame_for c 0 v c.flow.pc))
  where
    go : (m p q : Bool) (h f : Frame) → pick m (pick (both p q) (two h f) (one f)) (one f) ≡ cond (m && (p && q)) (two h f) (one f)
    go false p q h f = refl
    go true false q h f = refl
    go true true false h f = refl
    go true true true h f = refl

stacks_go : (w : World) (c : Call) → (matter_of c).vector < 256 → stacks w c ≡ paper w c
unfolding stacks paper matter_of pc_of ppc_of
stacks_go w (TakeException v) l = ap one (exception_is (cpu_of w) v l)
stacks_go w (Trap n) l = ap one (exception_is (cpu_of w) (32 + n % 16) (omega arith))
stacks_go w (TakeTrapException n) l = ap one (exception_is (cpu_of w) (32 + n % 16) (omega arith))
stacks_go w ExceptionPrivilege l = ap one (exception_is (cpu_of w) 8 (omega arith))
stacks_go w TakeAlineException l = ap one (rewound_is (cpu_of w) 10 (omega arith) next_10)
stacks_go w TakeFlineException l = ap one (rewound_is (cpu_of w) 11 (omega arith) next_11)
stacks_go w TakeBkptException l = ap one (rewound_is (cpu_of w) 4 (omega arith) next_4)
stacks_go w TakeIllegalException l = ap one (rewound_is (cpu_of w) 4 (omega arith) next_4)
stacks_go w (TakeGroup2Exception v) l = ap one (group_is (cpu_of w) v l)
stacks_go w ExceptionChk l = ap one (group_is (cpu_of w) 6 (omega arith))
stacks_go w ExceptionZeroDivide l = ap one (group_is (cpu_of w) 5 (omega arith))
stacks_go w ExceptionTrace l = ap one (group_is (cpu_of w) 9 (omega arith))
stacks_go w (ExceptionAddressError a write instruction) l = ap one (address_is (cpu_of w))
stacks_go w (ExceptionBusError a write instruction z cause) l = ap one (bus_is (cpu_of w))
stacks_go w (TakeFpUnimp060 ea) l = ap one (made_is (cpu_of w) 12 (cpu_of w).flow.pc (format_word 2 11) ∙ ap (made (cpu_of w) 12 (cpu_of w).flow.pc) (format_is 2 11 (omega arith)))
stacks_go w TakeFpDisabled060 l = ap one (made_is (cpu_of w) 16 (cpu_of w).flow.ppc (format_word 4 11) ∙ ap (made (cpu_of w) 16 (cpu_of w).flow.ppc) (format_is 4 11 (omega arith)))
stacks_go w CheckAndServiceInterrupts l =
    ap (interrupt_at (cpu_of w)) (vector_is (cpu_of w) w.core.bus) ∙ interrupt_is (cpu_of w) (vector_for (cpu_of w) w.core.bus) (vector_low (cpu_of w) w.core.bus)
stacks_go w (TriggerAddressError a write instruction) l = ap one (made_is (cpu_of w) 0 0 0)
stacks_go w (TriggerBusError a write instruction z) l = ap one (made_is (cpu_of w) 0 0 0)
stacks_go w CheckTrace l = ap one (made_is (cpu_of w) 0 0 0)
stacks_go w (SetIrq n) l = ap one (made_is (cpu_of w) 0 0 0)
stacks_go w CheckInterrupts l = ap one (made_is (cpu_of w) 0 0 0)
stacks_go w (Read16 a) l = ap one (made_is (cpu_of w) 0 0 0)
stacks_go w (Read32 a) l = ap one (made_is (cpu_of w) 0 0 0)
stacks_go w (Write16 a v) l = ap one (made_is (cpu_of w) 0 0 0)
stacks_go w (Write32 a v) l = ap one (made_is (cpu_of w) 0 0 0)
stacks_go w (Push16 v) l = ap one (made_is (cpu_of w) 0 0 0)
stacks_go w (Push32 v) l = ap one (made_is (cpu_of w) 0 0 0)
stacks_go w PrefetchFirst l = ap one (made_is (cpu_of w) 0 0 0)
stacks_go w PrefetchSecond l = ap one (made_is (cpu_of w) 0 0 0)

pub stacks_paper : (w : World) (c : Call) → refusal w c ≡ 0 → stacks w c ≡ paper w c
stacks_paper w c e = stacks_go w c (accepted_vector w c e)
