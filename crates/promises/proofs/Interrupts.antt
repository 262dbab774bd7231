-- Theorems about what specs/Interrupts defines, and what rests on them.
use Prim.Native.Nat.{◌≤◌}
use Rattle.std.specs.Prelude.{◌≡◌, ◌↔◌, Bool}
use Rattle.std.proofs.Math.Path.{refl}
use Rattle.std.proofs.Common.{sym, ◌∙◌, inl, ltb-false, le-ltb}
use Rattle.std.proofs.Math.Bool.{true, false}
use Rattle.types.specs.Kinds.{pick}
use Rattle.cpu.specs.Fields.{clear_stopped}
use Rattle.pending.specs.Interrupts.{pending_level, mask_level, takes_interrupt, clear_level, charge_interrupt, charged}
use Rattle.pending.proofs.Laws.{taken_above}
use Rattle.memory.specs.World.{World, tried, put_cpu, cpu_of}
use Rattle.steps.specs.Steps.{close_interrupt}
use Rattle.interrupts.specs.Interrupts.{ended, dispatched, service_interrupt, serviced, check_and_service}
use Rattle.bounds.specs.Levels.{clash}
use Rattle.promises.specs.Interrupts.{Due, due_exactly}

module _ (w : World) where
  -- the answer is the decision
  pub answer_decides : (check_and_service w).ok ≡ takes_interrupt (cpu_of w)
  unfolding check_and_service
  answer_decides = go (takes_interrupt (cpu_of w))
    where
      go : (b : Bool) → (pick b (tried (serviced (service_interrupt w (pending_level (cpu_of w)))) true) (tried w false)).ok ≡ b
      go true = refl
      go false = refl

  -- TAKEN EXACTLY if the level is 7 or exceeds the mask
  pub taken_exactly : ((check_and_service w).ok ≡ true) ↔ Due (cpu_of w)
  taken_exactly = (λ h. (due_exactly (cpu_of w)).0 (sym answer_decides ∙ h), λ h. answer_decides ∙ (due_exactly (cpu_of w)).1 h)

  -- not taken exactly if it is neither
  pub untaken_exactly : ((check_and_service w).ok ≡ false) ↔ ((pending_level (cpu_of w) ≡ 7 → ⊥) × (pending_level (cpu_of w) ≤ mask_level (cpu_of w)))
  untaken_exactly = (down, up)
    where
      down : (check_and_service w).ok ≡ false → (pending_level (cpu_of w) ≡ 7 → ⊥) × (pending_level (cpu_of w) ≤ mask_level (cpu_of w))
      down h = (λ e. clash (taken_exactly.1 (inl e)) h, ltb-false _ _ (sym (taken_above (cpu_of w) (λ e. clash (taken_exactly.1 (inl e)) h)) ∙ sym answer_decides ∙ h))

      up : (pending_level (cpu_of w) ≡ 7 → ⊥) × (pending_level (cpu_of w) ≤ mask_level (cpu_of w)) → (check_and_service w).ok ≡ false
      up p = answer_decides ∙ taken_above (cpu_of w) p.0 ∙ le-ltb _ _ p.1

  -- where it is not taken nothing changes: no record, no store, no event
  pub untaken_unchanged : (check_and_service w).ok ≡ false → (check_and_service w).after ≡ w
  unfolding check_and_service
  untaken_unchanged h = rw (sym answer_decides ∙ h)

  -- where it is taken no level is pending after it, and `stopped` is 0, even if a fault halted on the way
  pub taken_after : (check_and_service w).ok ≡ true → ((cpu_of (check_and_service w).after).flags.int_level ≡ 0) × ((cpu_of (check_and_service w).after).flow.stopped ≡ 0)
  unfolding check_and_service serviced service_interrupt dispatched ended close_interrupt clear_level charge_interrupt charged clear_stopped put_cpu
  taken_after h = rw (sym answer_decides ∙ h) (refl, refl)
