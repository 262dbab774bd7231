-- The frames written out from the paper are those of the closed form over the engine's own definitions, wherever no number refuses the call.
use Rattle.std.specs.Prelude.{ℕ, zero, suc, ◌+◌, ◌-◌, ◌*◌, ◌/◌, ◌%◌, ◌<◌, ◌≡◌, refl, Bool, true, false, cond, not, eqb, get_or, replicate}
use Rattle.std.proofs.Common.{sym, arith, eqb-true, ne_eqb}
use Rattle.std.proofs.lemmas.Bool.{eqb-false}
use Rattle.types.specs.Kinds.{pick}
use Rattle.types.specs.Every.{at}
use Rattle.cpu.specs.declared.Cpu.{Cpu}
use Rattle.cpu.specs.Fields.{pc_of, ppc_of, rewind_pc}
use Rattle.status.specs.Status.{get_sr, m_is_set}
use Rattle.pending.specs.Interrupts.{pending_level}
use Rattle.memory.specs.declared.Bus.{Bus}
use Rattle.memory.specs.World.{response_of}
use Rattle.formats.specs.Formats.{format_word, offset_word}
use Rattle.steps.specs.Steps.{stacked_address, stacks_next, with_s, iack_vector}
use Rattle.forms.specs.Plans.{interrupt_vector}
use Rattle.nest.specs.View.{view, nonzero}
use Rattle.entered.specs.Pointers.{regs_of, stacks_of}
use Rattle.entered.specs.One.{stack_top}
use Rattle.entered.specs.Stacks.{frame_at, throw_at}
use Rattle.entered.specs.Paper.{made, word_for, next, level, vector_for, with_set, second_for}

pub made_is : (c : Cpu) (n a w : ℕ) → frame_at c n a w ≡ made c n a w
unfolding stack_top stacks_of regs_of view
made_is c n a w = refl

-- ---- words and addresses, over the 256 vectors

pub offset_is : (v : ℕ) → v < 256 → offset_word v ≡ word_for 0 v
unfolding offset_word
offset_is v l = omega arith

pub format_is : (f v : ℕ) → v < 256 → format_word f v ≡ word_for f v
unfolding format_word
format_is f v l = omega arith

same_bool : (a b : Bool) → cond a b (not b) ≡ true → a ≡ b
same_bool true b e = sym e
same_bool false true e = e
same_bool false false e = refl

pub next_is : (v : ℕ) → v < 256 → stacks_next v ≡ next v
unfolding stacks_next
next_is v l = same_bool (stacks_next v) (next v) (at 0 (λ (i x : ℕ). cond (stacks_next i) (next i) (not (next i))) (replicate 256 0) refl v l)

pub pick_is : {A : Type 0} (b : Bool) (x y : A) → pick b x y ≡ cond b x y
pick_is true x y = refl
pick_is false x y = refl

s_is_lem : (st : ℕ) → with_s st ≡ with_set st
unfolding with_s
s_is_lem st = go (eqb (st / 0x2000 % 2) 1) refl
  where
    go : (b : Bool) → eqb (st / 0x2000 % 2) 1 ≡ b → st - st / 0x2000 % 2 * 0x2000 + 0x2000 ≡ cond b st (st + 0x2000)
    go true e = omega (arith, eqb-true (st / 0x2000 % 2) 1 e)
    go false e = let h : st / 0x2000 % 2 ≡ 1 → ⊥ = eqb-false (st / 0x2000 % 2) 1 e in let z : st / 0x2000 % 2 ≡ 0 = omega arith in omega arith

-- a wrapper takes PC back first; its vector stacks `ppc`, which stays
pub rewound_address : (c : Cpu) (v : ℕ) → stacks_next v ≡ false → stacked_address (rewind_pc c) v ≡ stacked_address c v
unfolding stacked_address rewind_pc ppc_of
rewound_address c v e = rw e

-- ---- the interrupt

pub vector_is : (c : Cpu) (b : Bus) → interrupt_vector c b ≡ vector_for c b
unfolding interrupt_vector iack_vector response_of pending_level
vector_is c b =
    let e : c.flags.int_level % 8 % 8 ≡ c.flags.int_level % 8 = omega arith in
    rw e (pick_is (eqb (get_or b.responses (c.flags.int_level % 8) 0) 0xFFFFFFFF) (24 + c.flags.int_level % 8) (get_or b.responses (c.flags.int_level % 8) 0 % 256))

pub vector_low : (c : Cpu) (b : Bus) → vector_for c b < 256
vector_low c b = go (eqb (get_or b.responses (level c) 0) 0xFFFFFFFF)
  where
    go : (t : Bool) → cond t (24 + level c) (get_or b.responses (level c) 0 % 256) < 256
    go true = omega arith
    go false = omega arith

pub m_is_lem : (c : Cpu) → m_is_set c ≡ nonzero c.flags.m_flag
unfolding m_is_set
m_is_lem c = go c.flags.m_flag
  where
    go : (m : ℕ) → not (eqb m 0) ≡ nonzero m
    go zero = refl
    go (suc m) = rw (ne_eqb (suc m) 0 (λ e. omega arith))

pub throw_is : (c : Cpu) (v : ℕ) → v < 256 → throw_at c v ≡ second_for c v
unfolding throw_at regs_of stacks_of view pc_of
throw_is c v l = rw (s_is_lem (get_sr c), format_is 1 v l)

-- ---- every call

pub next_4 : stacks_next 4 ≡ false
unfolding stacks_next
next_4 = refl

pub next_10 : stacks_next 10 ≡ false
unfolding stacks_next
next_10 = refl

pub next_11 : stacks_next 11 ≡ false
unfolding stacks_next
next_11 = refl
