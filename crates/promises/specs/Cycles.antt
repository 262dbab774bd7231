-- THE CYCLES that an entry answers: those of the table at its vector, and none where an entry is under way.
use Rattle.std.specs.Prelude.{ℕ, ◌+◌, ◌%◌, ◌≤◌, ◌<◌, ◌≡◌, Bool, ◌⊎◌}
use Rattle.std.proofs.Math.Path.{refl}
use Rattle.std.proofs.Common.{◌∙◌, inl, inr, arith, le-ltb, le-leb, ne_eqb}
use Rattle.std.proofs.Math.Bool.{true, false}
use Rattle.std.proofs.lemmas.Bool.{lt-leb}
use Rattle.types.specs.Kinds.{pick}
use Rattle.types.specs.Tables.{exception_cycles}
use Rattle.cpu.specs.Fields.{in_exception, halted, rewind_pc}
use Rattle.memory.specs.World.{World, put_cpu, cpu_of, step}
use Rattle.steps.specs.Steps.{begin_entry}
use Rattle.exceptions.specs.Exceptions.{entry, taken, take_exception, take_group2, trap, exception_trace, take_rewound, take_fp_unimp060, take_fp_disabled060}

-- ---- the table

-- reset 40, bus and address error 50, zero divide 38, CHK 40
pub table_low : (exception_cycles 0 ≡ 40) × (exception_cycles 1 ≡ 40) × (exception_cycles 2 ≡ 50) × (exception_cycles 3 ≡ 50) × (exception_cycles 5 ≡ 38) × (exception_cycles 6 ≡ 40)
unfolding exception_cycles
table_low = (refl, refl, refl, refl, refl, refl)

-- the spurious interrupt and the autovectors 44
pub table_interrupts : (v : ℕ) → 24 ≤ v → v ≤ 31 → exception_cycles v ≡ 44
unfolding exception_cycles
table_interrupts v h k = simp (le-ltb v 2 (omega arith), ne_eqb v 6 (λ e. omega arith), ne_eqb v 2 (λ e. omega arith), ne_eqb v 3 (λ e. omega arith), ne_eqb v 5 (λ e. omega arith), le-leb 24 v h, le-leb v 31 k)

-- any other vector 34
pub table_others : (v : ℕ) → 3 < v → (v ≡ 5 → ⊥) → (v ≡ 6 → ⊥) → (v < 24) ⊎ (31 < v) → exception_cycles v ≡ 34
unfolding exception_cycles
table_others v h p q (inl k) = simp (le-ltb v 2 (omega arith), ne_eqb v 6 q, ne_eqb v 2 (λ e. omega arith), ne_eqb v 3 (λ e. omega arith), ne_eqb v 5 p, lt-leb 24 v k)
table_others v h p q (inr k) = simp (le-ltb v 2 (omega arith), ne_eqb v 6 q, ne_eqb v 2 (λ e. omega arith), ne_eqb v 3 (λ e. omega arith), ne_eqb v 5 p, le-leb 24 v (omega arith), lt-leb v 31 k)

-- the vectors of TRAP
pub table_traps : (n : ℕ) → exception_cycles (32 + n % 16) ≡ 34
table_traps n = table_others (32 + n % 16) (omega arith) (λ e. omega arith) (λ e. omega arith) (inr (omega arith))

-- ---- the entries

module _ (w : World) where
  -- `take_exception`
  pub take_exception_cycles : (v : ℕ) → (take_exception w v).cycles ≡ pick (in_exception (cpu_of w)) 0 (exception_cycles v)
  unfolding take_exception
  take_exception_cycles v = go (in_exception (cpu_of w))
    where
      go : (b : Bool) → (pick b (entry (step halted w) 0) (entry (taken (step begin_entry w) v) (exception_cycles v))).cycles ≡ pick b 0 (exception_cycles v)
      go true = refl
      go false = refl

  -- group 2
  pub take_group2_cycles : (v : ℕ) → (take_group2 w v).cycles ≡ exception_cycles v
  unfolding take_group2
  take_group2_cycles v = refl

  -- TRAP, for every number
  pub trap_cycles : (n : ℕ) → (trap w n).cycles ≡ pick (in_exception (cpu_of w)) 0 34
  unfolding trap
  trap_cycles n = take_exception_cycles (32 + n % 16) ∙ rw (table_traps n)

  -- trace: vector 9
  pub exception_trace_cycles : (exception_trace w).cycles ≡ 34
  unfolding exception_trace take_group2 exception_cycles
  exception_trace_cycles = refl

  -- the floating-point entries of kind 11: vector 11
  pub take_fp_unimp060_cycles : (ea : ℕ) → (take_fp_unimp060 w ea).cycles ≡ 34
  unfolding take_fp_unimp060 exception_cycles
  take_fp_unimp060_cycles ea = refl

  pub take_fp_disabled060_cycles : (take_fp_disabled060 w).cycles ≡ 34
  unfolding take_fp_disabled060 exception_cycles
  take_fp_disabled060_cycles = refl

-- the wrappers that take PC back: line A at 10, line F at 11, breakpoint and illegal at 4
pub take_rewound_cycles : (w : World) (v : ℕ) → (take_rewound w v).cycles ≡ pick (in_exception (cpu_of w)) 0 (exception_cycles v)
unfolding take_rewound rewind_pc put_cpu in_exception
take_rewound_cycles w v = take_exception_cycles (step rewind_pc w) v

-- so outside an entry an exception answers the table's cycles, and while one is under way just 0
pub outside_cycles : (w : World) (v : ℕ) → in_exception (cpu_of w) ≡ false → (take_exception w v).cycles ≡ exception_cycles v
outside_cycles w v h = take_exception_cycles w v ∙ rw h

pub underway_cycles : (w : World) (v : ℕ) → in_exception (cpu_of w) ≡ true → (take_exception w v).cycles ≡ 0
underway_cycles w v h = take_exception_cycles w v ∙ rw h
