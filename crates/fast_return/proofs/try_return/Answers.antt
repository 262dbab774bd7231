use Rattle.std.proofs.Common.{rules, ◌≡◌, true, length}
use Rattle.cpu.specs.Fields.{kind_of, a7_of}
use Rattle.fast_return.specs.Accepted.{accepts}
use Rattle.fast_return.specs.Quick.{as_found, found_of}
use Rattle.fast_return.proofs.Walks.{try_goes_by}
use Rattle.fast_return.proofs.try_return.Goals as goal

pub returns : goal.returns
returns c =
    let a : accepts c.args.m (length c.args.store.now) ≡ true = search rules in
    let e : as_found c.find.result ≡ found_of c.args.store.now c.args.m.bus.base (kind_of c.args.m.cpu) (a7_of c.args.m.cpu) = search rules in
    try_goes_by c.args.m c.args.store.now c.find.result c.patch_of.result a e c.patch_of.ensures
