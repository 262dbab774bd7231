use Rattle.memory.proofs.Spans.{read_way}
use Rattle.memory.proofs.try_read.Goals as goal

pub returns : goal.returns
returns c = read_way _ _ _ _ _ _ _ _ _ _ _ _ c.fetch-value.ensures c.is_some.ensures c.access_code-code.ensures c.unwrap_or.ensures c.note-core.ensures
