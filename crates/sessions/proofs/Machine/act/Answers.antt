use Rattle.std.proofs.Common.{◌∙◌, ap, rules}
use Rattle.sessions.specs.Numbered.{numbered}
use Rattle.sessions.proofs.Acts.{act_kind, act_pc, act_ppc, act_a7, act_long, act_long_refused, act_exc, act_trap, act_irq, act_walk, act_ret}
use Rattle.sessions.proofs.Machine.act.Goals as goal

pub returns-in-Kind-clause-acts : goal.returns-in-Kind-clause-acts
returns-in-Kind-clause-acts c = act_kind _ _ _ _ _ _ _ _ c.in-Kind.is c.fresh_core-self.ensures (c.fill.ensures.after (λ y h. h))

pub returns-in-Pc-clause-acts : goal.returns-in-Pc-clause-acts
returns-in-Pc-clause-acts c = act_pc _ _ _ _ _ _ _ c.in-Pc.is c.set_pc-self.ensures

pub returns-in-Ppc-clause-acts : goal.returns-in-Ppc-clause-acts
returns-in-Ppc-clause-acts c = act_ppc _ _ _ _ _ _ _ c.in-Ppc.is c.set_ppc-self.ensures

pub returns-in-A7-clause-acts : goal.returns-in-A7-clause-acts
returns-in-A7-clause-acts c = act_a7 _ _ _ _ _ _ _ c.in-A7.is c.set_a7-self.ensures

pub returns-then-not-poke_long-clause-acts : goal.returns-then-not-poke_long-clause-acts
returns-then-not-poke_long-clause-acts c = act_long_refused _ _ _ _ _ _ _ _ _ _ c.in-Long.is c.poke_long.ensures.0 c.if-not-poke_long.true c.poke_long.ensures.1 c.refuse.ensures.line

pub returns-else-not-poke_long-clause-acts : goal.returns-else-not-poke_long-clause-acts
returns-else-not-poke_long-clause-acts c = act_long _ _ _ _ _ _ _ _ _ c.in-Long.is c.poke_long.ensures.0 c.if-not-poke_long.false c.poke_long.ensures.1

pub returns-in-Exc-clause-acts : goal.returns-in-Exc-clause-acts
returns-in-Exc-clause-acts c = act_exc _ _ _ _ _ _ _ _ c.in-Exc.is c.numbered.ensures c.enter.ensures.line

pub returns-in-Trap-clause-acts : goal.returns-in-Trap-clause-acts
returns-in-Trap-clause-acts c = act_trap _ _ _ _ _ _ _ _ c.in-Trap.is (c.numbered-in-Trap.ensures ∙ ap (numbered 2) c.from.ensures) (search rules) c.enter-in-Trap.ensures.line

pub returns-in-Irq-clause-acts : goal.returns-in-Irq-clause-acts
returns-in-Irq-clause-acts c = act_irq _ _ _ _ _ _ _ c.in-Irq.is c.interrupt.ensures.line

pub returns-in-Walk-clause-acts : goal.returns-in-Walk-clause-acts
returns-in-Walk-clause-acts c = act_walk _ _ _ _ _ _ _ _ c.in-Walk.is c.walk.ensures.core c.walk.ensures.lines

pub returns-in-Ret-clause-acts : goal.returns-in-Ret-clause-acts
returns-in-Ret-clause-acts c = act_ret _ _ _ _ _ _ c.in-Ret.is (c.give_back.ensures.line _)
