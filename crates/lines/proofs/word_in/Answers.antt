use Rattle.std.proofs.Common.{ap, ◌∙◌}
use Rattle.lines.specs.declared.Command.TheVariants.{Kind, Pc, Ppc, A7, Exc, Trap, Irq, Walk}
use Rattle.lines.specs.Commands.{trap_name, irq_name, walk_name, long_name, exc_name, kind_name, a7_name, pc_name, ppc_name, decimal, hexadecimal, byte_in, long_fields, word_in}
use Rattle.lines.proofs.Commands.{named, later, made, ret_eq}
use Rattle.lines.proofs.word_in.Goals as goal

pub returns-in-Some : goal.returns-in-Some
unfolding word_in
returns-in-Some c =
    named trap_name _ _ c.in-Some.ensures.cases.0
    (made Trap _ _ _ c.map.ensures.cases (c.byte_in.ensures ∙ ap byte_in (c.hexadecimal.ensures ∙ ap hexadecimal c.in-Some.ensures.cases.1)))

pub returns-in-Some-strip_prefix : goal.returns-in-Some-strip_prefix
unfolding word_in
returns-in-Some-strip_prefix c =
    later trap_name _ _ c.in_default.ensures.cases
    (named irq_name _ _ c.in-Some-strip_prefix.ensures.cases.0
    (made Irq _ _ _ c.map-in-Some-strip_prefix.ensures.cases (c.byte_in-in-Some-strip_prefix.ensures ∙ ap byte_in (c.decimal.ensures ∙ ap decimal c.in-Some-strip_prefix.ensures.cases.1))))

pub returns-in-Some-strip_prefix-2 : goal.returns-in-Some-strip_prefix-2
unfolding word_in
returns-in-Some-strip_prefix-2 c =
    later trap_name _ _ c.in_default.ensures.cases
    (later irq_name _ _ c.in_default-strip_prefix.ensures.cases
    (named walk_name _ _ c.in-Some-strip_prefix-2.ensures.cases.0
    (made Walk _ _ _ c.map-in-Some-strip_prefix-2.ensures.cases (c.decimal-in-Some-strip_prefix-2.ensures ∙ ap decimal c.in-Some-strip_prefix-2.ensures.cases.1))))

pub returns-in-Some-strip_prefix-3 : goal.returns-in-Some-strip_prefix-3
unfolding word_in
returns-in-Some-strip_prefix-3 c =
    later trap_name _ _ c.in_default.ensures.cases
    (later irq_name _ _ c.in_default-strip_prefix.ensures.cases
    (later walk_name _ _ c.in_default-strip_prefix-2.ensures.cases
    (named long_name _ _ c.in-Some-strip_prefix-3.ensures.cases.0
    (c.long_fields.ensures ∙ ap long_fields c.in-Some-strip_prefix-3.ensures.cases.1))))

pub returns-in-Some-strip_prefix-4 : goal.returns-in-Some-strip_prefix-4
unfolding word_in
returns-in-Some-strip_prefix-4 c =
    later trap_name _ _ c.in_default.ensures.cases
    (later irq_name _ _ c.in_default-strip_prefix.ensures.cases
    (later walk_name _ _ c.in_default-strip_prefix-2.ensures.cases
    (later long_name _ _ c.in_default-strip_prefix-3.ensures.cases
    (named exc_name _ _ c.in-Some-strip_prefix-4.ensures.cases.0
    (made Exc _ _ _ c.map-in-Some-strip_prefix-4.ensures.cases (c.hexadecimal-in-Some-strip_prefix-4.ensures ∙ ap hexadecimal c.in-Some-strip_prefix-4.ensures.cases.1))))))

pub returns-in-Some-strip_prefix-5 : goal.returns-in-Some-strip_prefix-5
unfolding word_in
returns-in-Some-strip_prefix-5 c =
    later trap_name _ _ c.in_default.ensures.cases
    (later irq_name _ _ c.in_default-strip_prefix.ensures.cases
    (later walk_name _ _ c.in_default-strip_prefix-2.ensures.cases
    (later long_name _ _ c.in_default-strip_prefix-3.ensures.cases
    (later exc_name _ _ c.in_default-strip_prefix-4.ensures.cases
    (named kind_name _ _ c.in-Some-strip_prefix-5.ensures.cases.0
    (made Kind _ _ _ c.map-in-Some-strip_prefix-5.ensures.cases (c.byte_in-in-Some-strip_prefix-5.ensures ∙ ap byte_in (c.decimal-in-Some-strip_prefix-5.ensures ∙ ap decimal c.in-Some-strip_prefix-5.ensures.cases.1))))))))

pub returns-in-Some-strip_prefix-6 : goal.returns-in-Some-strip_prefix-6
unfolding word_in
returns-in-Some-strip_prefix-6 c =
    later trap_name _ _ c.in_default.ensures.cases
    (later irq_name _ _ c.in_default-strip_prefix.ensures.cases
    (later walk_name _ _ c.in_default-strip_prefix-2.ensures.cases
    (later long_name _ _ c.in_default-strip_prefix-3.ensures.cases
    (later exc_name _ _ c.in_default-strip_prefix-4.ensures.cases
    (later kind_name _ _ c.in_default-strip_prefix-5.ensures.cases
    (named a7_name _ _ c.in-Some-strip_prefix-6.ensures.cases.0
    (made A7 _ _ _ c.map-in-Some-strip_prefix-6.ensures.cases (c.hexadecimal-in-Some-strip_prefix-6.ensures ∙ ap hexadecimal c.in-Some-strip_prefix-6.ensures.cases.1))))))))

pub returns-in-Some-strip_prefix-7 : goal.returns-in-Some-strip_prefix-7
unfolding word_in
returns-in-Some-strip_prefix-7 c =
    later trap_name _ _ c.in_default.ensures.cases
    (later irq_name _ _ c.in_default-strip_prefix.ensures.cases
    (later walk_name _ _ c.in_default-strip_prefix-2.ensures.cases
    (later long_name _ _ c.in_default-strip_prefix-3.ensures.cases
    (later exc_name _ _ c.in_default-strip_prefix-4.ensures.cases
    (later kind_name _ _ c.in_default-strip_prefix-5.ensures.cases
    (later a7_name _ _ c.in_default-strip_prefix-6.ensures.cases
    (named pc_name _ _ c.in-Some-strip_prefix-7.ensures.cases.0
    (made Pc _ _ _ c.map-in-Some-strip_prefix-7.ensures.cases (c.hexadecimal-in-Some-strip_prefix-7.ensures ∙ ap hexadecimal c.in-Some-strip_prefix-7.ensures.cases.1)))))))))

pub returns-in-Some-strip_prefix-8 : goal.returns-in-Some-strip_prefix-8
unfolding word_in
returns-in-Some-strip_prefix-8 c =
    later trap_name _ _ c.in_default.ensures.cases
    (later irq_name _ _ c.in_default-strip_prefix.ensures.cases
    (later walk_name _ _ c.in_default-strip_prefix-2.ensures.cases
    (later long_name _ _ c.in_default-strip_prefix-3.ensures.cases
    (later exc_name _ _ c.in_default-strip_prefix-4.ensures.cases
    (later kind_name _ _ c.in_default-strip_prefix-5.ensures.cases
    (later a7_name _ _ c.in_default-strip_prefix-6.ensures.cases
    (later pc_name _ _ c.in_default-strip_prefix-7.ensures.cases
    (named ppc_name _ _ c.in-Some-strip_prefix-8.ensures.cases.0
    (made Ppc _ _ _ c.map-in-Some-strip_prefix-8.ensures.cases (c.hexadecimal-in-Some-strip_prefix-8.ensures ∙ ap hexadecimal c.in-Some-strip_prefix-8.ensures.cases.1))))))))))

pub returns-then-eq : goal.returns-then-eq
unfolding word_in
returns-then-eq c =
    later trap_name _ _ c.in_default.ensures.cases
    (later irq_name _ _ c.in_default-strip_prefix.ensures.cases
    (later walk_name _ _ c.in_default-strip_prefix-2.ensures.cases
    (later long_name _ _ c.in_default-strip_prefix-3.ensures.cases
    (later exc_name _ _ c.in_default-strip_prefix-4.ensures.cases
    (later kind_name _ _ c.in_default-strip_prefix-5.ensures.cases
    (later a7_name _ _ c.in_default-strip_prefix-6.ensures.cases
    (later pc_name _ _ c.in_default-strip_prefix-7.ensures.cases
    (later ppc_name _ _ c.in_default-strip_prefix-8.ensures.cases
    (ret_eq _ _ _ _ c.as_slice.ensures c.eq.ensures c.if-eq.true)))))))))

pub returns : goal.returns
unfolding word_in
returns c =
    later trap_name _ _ c.in_default.ensures.cases
    (later irq_name _ _ c.in_default-strip_prefix.ensures.cases
    (later walk_name _ _ c.in_default-strip_prefix-2.ensures.cases
    (later long_name _ _ c.in_default-strip_prefix-3.ensures.cases
    (later exc_name _ _ c.in_default-strip_prefix-4.ensures.cases
    (later kind_name _ _ c.in_default-strip_prefix-5.ensures.cases
    (later a7_name _ _ c.in_default-strip_prefix-6.ensures.cases
    (later pc_name _ _ c.in_default-strip_prefix-7.ensures.cases
    (later ppc_name _ _ c.in_default-strip_prefix-8.ensures.cases
    (ret_eq _ _ _ _ c.as_slice.ensures c.eq.ensures c.if-eq.false)))))))))
