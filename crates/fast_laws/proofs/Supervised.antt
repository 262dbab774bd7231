-- Theorems about what specs/Supervised defines, and what rests on them.
use Rattle.std.specs.Prelude.{ℕ, ◌*◌, ◌%◌, ◌≡◌, Bool}
use Rattle.std.proofs.Math.Path.{refl, ap}
use Rattle.std.proofs.Common.{◌∙◌}
use Rattle.std.proofs.Math.Bool.{true, false}
use Rattle.std.proofs.Math.Seq.{set-set}
use Rattle.cpu.specs.declared.Cpu.{Cpu}
use Rattle.cpu.specs.Fields.{set_wdata, set_a7, set_pc, start_vector, clear_stopped}
use Rattle.cpu.specs.Clocks.{set_clocks, first_word, second_word}
use Rattle.status.specs.Status.{set_int_mask}
use Rattle.status.specs.Banks.{enter_supervisor}
use Rattle.pending.specs.Interrupts.{clear_level, charged, charge_interrupt}
use Rattle.steps.specs.Steps.{enter_level, close_interrupt}
use Rattle.unfaulted.specs.Closed.{jumped}
use Rattle.fast_plans.specs.declared.Patch.{Patch}
use Rattle.fast_laws.specs.Patched.{fpiar_after, patch_cpu}
use Rattle.fast_laws.specs.Supervised.{top_at, supervised, Clear, supervised_law, Fitting, Plain, queued}

module _ (c : Cpu) (p : Patch) (h : Clear c) (g : Fitting c p) where
  abbrev framed : Cpu → Cpu
  framed d = jumped p.fetches (set_wdata (set_a7 (set_clocks d 0) p.a7) p.last) p.vector p.pc p.first p.second

  supervised_plain : (f : Bool) → p.fetches ≡ f → Plain c p → framed (supervised c) ≡ patch_cpu c p
  unfolding patch_cpu set_wdata set_a7 set_clocks start_vector set_pc first_word second_word
  supervised_plain true e k =
      queued p.fetches (set_wdata (set_a7 (set_clocks (supervised c) 0) p.a7) p.last) p.vector p.pc p.first p.second g.first g.second
      ∙ rw (e, k.stopped, k.mask, k.level, k.cycles, k.fpiar, g.user, g.top, set-set c.regs.dar 15 (top_at c) p.a7)
  supervised_plain false e k =
      queued p.fetches (set_wdata (set_a7 (set_clocks (supervised c) 0) p.a7) p.last) p.vector p.pc p.first p.second g.first g.second
      ∙ rw (e, k.stopped, k.mask, k.level, k.cycles, k.fpiar, g.user, g.top, set-set c.regs.dar 15 (top_at c) p.a7)

  pub plain_patched : Plain c p → framed (enter_supervisor c) ≡ patch_cpu c p
  plain_patched k = rw (supervised_law c h) (supervised_plain p.fetches refl k)

  -- an interrupt of a level
  pub record Interrupting (i : ℕ) : Type 0 where
    pub stopped : p.stopped ≡ 0
    pub mask : p.mask ≡ i % 8 * 256
    pub level : p.level ≡ 0
    pub cycles : p.serviced ≡ true
    pub fpiar : fpiar_after c p ≡ c.flow.fpiar

  supervised_interrupt : (f : Bool) → p.fetches ≡ f → (level : ℕ) → Interrupting level → clear_level (close_interrupt (framed (set_int_mask (supervised c) level))) ≡ patch_cpu c p
  unfolding patch_cpu set_wdata set_a7 set_clocks start_vector set_pc first_word second_word clear_level close_interrupt charge_interrupt charged clear_stopped set_int_mask
  supervised_interrupt true e level k =
      ap (λ (d : Cpu). clear_level (close_interrupt d)) (queued p.fetches (set_wdata (set_a7 (set_clocks (set_int_mask (supervised c) level) 0) p.a7) p.last) p.vector p.pc p.first p.second g.first g.second)
      ∙ rw (e, k.stopped, k.mask, k.level, k.cycles, k.fpiar, g.user, g.top, set-set c.regs.dar 15 (top_at c) p.a7)
  supervised_interrupt false e level k =
      ap (λ (d : Cpu). clear_level (close_interrupt d)) (queued p.fetches (set_wdata (set_a7 (set_clocks (set_int_mask (supervised c) level) 0) p.a7) p.last) p.vector p.pc p.first p.second g.first g.second)
      ∙ rw (e, k.stopped, k.mask, k.level, k.cycles, k.fpiar, g.user, g.top, set-set c.regs.dar 15 (top_at c) p.a7)

  pub interrupt_patched : (level : ℕ) → Interrupting level → clear_level (close_interrupt (framed (enter_level c level))) ≡ patch_cpu c p
  unfolding enter_level
  interrupt_patched level k = rw (supervised_law c h) (supervised_interrupt p.fetches refl level k)
