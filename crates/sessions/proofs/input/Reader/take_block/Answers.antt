use Rattle.std.proofs.Common.{arith, ◌∙◌, sym}
use Rattle.std.proofs.lemmas.Bool.{leb-true}
use Rattle.sessions.proofs.Lines.{all_start, all_goes}
use Rattle.sessions.proofs.input.Reader.take_block.Goals.{else-b-eq10-via-then-b-eq10+else-not-has_room, else-b-eq10-via-else-b-eq10}
use Rattle.sessions.proofs.input.Reader.take_block.Goals as goal

pub loop-used-init : goal.loop-used-init
loop-used-init c = (rw c.clear.ensures (omega arith), all_start _ _ _ c.args.bytes.now c.clear.ensures)

pub take-requires : goal.take-requires
take-requires c = c.loop-used.invariant.0

pub returns-then-not-has_room-clause-taken : goal.returns-then-not-has_room-clause-taken
returns-then-not-has_room-clause-taken c = all_goes _ _ _ _ _ c.loop-used-test.true c.loop-used.invariant.1 c.take.ensures.takes

pub loop-used-preserved : goal.loop-used-preserved
loop-used-preserved c = (
  elim c.else-b-eq10.branch [
    | else-b-eq10-via-then-b-eq10+else-not-has_room w ↦ leb-true _ _ (sym w.has_room.ensures ∙ w.if-not-has_room.false)
    | else-b-eq10-via-else-b-eq10 w ↦ omega (arith, c.take.ensures.quiet w.if-b-eq10.false, c.loop-used.invariant.0)
  ],
  all_goes _ _ _ _ _ c.loop-used-test.true c.loop-used.invariant.1 c.take.ensures.takes,
)
