-- Theorems about what specs/Instances defines, and what rests on them.
use Rattle.instances.specs.Rows.{P1, P2, P3, P4, P5, P6, P7, P8, P9, P10, P11, Also}
use Rattle.instances.specs.Entries.{p1, p2, p3, p4, p9, p10, p11, also}
use Rattle.instances.specs.Instances.{p5, p6, p7, p8}

-- EVERY INSTANCE THAT PAPER 01 MARKS P, AND ITS "ALSO" LINE
pub instances : P1 × P2 × P3 × P4 × P5 × P6 × P7 × P8 × P9 × P10 × P11 × Also
instances = (p1, p2, p3, p4, p5, p6, p7, p8, p9, p10, p11, also)
