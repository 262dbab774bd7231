-- The rows that take little computing.
use Rattle.std.specs.Prelude.{refl}
use Rattle.instances.specs.Start.{EveryKind, every_kind}
use Rattle.instances.specs.Rows.{P1, P2, P3, P4, P9, P10, P11, Also, NotTaken, Taken}
use Rattle.instances.specs.Computed.{computed}

pub p1 : P1
unfolding computed
p1 = refl

pub p2 : P2
unfolding computed
p2 = refl

pub p3 : P3
unfolding computed
p3 = refl

not_taken : EveryKind NotTaken
unfolding computed
not_taken = every_kind NotTaken refl refl refl refl refl refl refl refl refl refl refl refl

taken : EveryKind Taken
unfolding computed
taken = every_kind Taken refl refl refl refl refl refl refl refl refl refl refl refl

pub p4 : P4
p4 = (not_taken, taken)

pub p9 : P9
unfolding computed
p9 = (refl, refl)

pub p10 : P10
unfolding computed
p10 = (refl, refl, refl, refl)

pub p11 : P11
unfolding computed
p11 = (refl, refl)

pub also : Also
unfolding computed
also = (refl, refl, refl, refl, refl, refl)
