use Rattle.access.proofs.Levels.{field_pushed, bus_halted, bus_raised, address_raised}
use Rattle.access.proofs.ring.+ring.Goals as goal

pub trigger_bus_error-returns : goal.trigger_bus_error-returns
trigger_bus_error-returns t c = bus_raised c.args.m c.with_cpu-a.result c.exception_bus_error-b.result c.with_cpu-2.result c.args.store.now c.args.log.now c.exception_bus_error-b.new.store c.exception_bus_error-b.new.log c.args.levels c.args.address c.args.write c.args.instruction c.begin_bus.result c.close_bus.result c.if-m-eq1.false c.if-levels-eq0.false c.with_cpu-a.ensures c.with_cpu-2.ensures c.args.size c.if-m.false c.begin_bus.ensures c.exception_bus_error-b.ensures c.close_bus.ensures

pub trigger_address_error-returns : goal.trigger_address_error-returns
trigger_address_error-returns t c = address_raised c.args.m c.with_cpu-a.result c.exception_address_error-b.result c.with_cpu-2.result c.args.store.now c.args.log.now c.exception_address_error-b.new.store c.exception_address_error-b.new.log c.args.levels c.args.address c.args.write c.args.instruction c.begin_address.result c.keep_resume.result c.if-m-eq1.false c.if-levels-eq0.false c.with_cpu-a.ensures c.with_cpu-2.ensures c.begin_address.ensures c.exception_address_error-b.ensures c.keep_resume.ensures

pub trigger_bus_error-returns-then-m : goal.trigger_bus_error-returns-then-m
trigger_bus_error-returns-then-m t c = bus_halted c.args.m c.args.store.now c.args.log.now c.args.levels c.args.address c.args.write c.args.instruction c.args.size c.halt.result c.with_cpu.result c.if-m-eq1.false c.if-m.true c.halt.ensures c.with_cpu.ensures

pub push_fields-loop-k-preserved : goal.push_fields-loop-k-preserved
push_fields-loop-k-preserved t c = field_pushed _ _ _ _ _ _ _ c.loop-k-test.true c.field_at.ensures c.push_field-m.ensures c.loop-k.invariant
