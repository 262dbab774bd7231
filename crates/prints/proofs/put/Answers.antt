use Rattle.std.proofs.Common.{arith}
use Rattle.prints.proofs.Joins.{appended}
use Rattle.prints.proofs.put.Goals as goal

pub returns : goal.returns
returns g c =
    let both = appended c.args.out.now.items c.args.bytes.now c.try_extend_from_slice.new.self.items (grind arith) in
    record { items = both.0; len = both.1 }
