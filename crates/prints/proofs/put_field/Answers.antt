use Rattle.prints.proofs.Joins.{after_space}
use Rattle.prints.proofs.put_field.Goals as goal

pub returns-clause-items : goal.returns-clause-items
returns-clause-items g c = after_space _ _ _ _ _ c.push.ensures.items c.put_hex.ensures.items
