use Rattle.fast_calls.proofs.Ways.{fast_way, calm_way, idle_way, plain_way}
use Rattle.fast_calls.proofs.raw_call.Goals as goal

pub returns-in-Entry : goal.returns-in-Entry
returns-in-Entry c = fast_way _ _ _ _ c.view.ensures.0 c.go-q.ensures _ c.view.ensures.1 c.said.ensures.1 c.in-Entry.is c.patched.ensures c.said.ensures.0

pub returns-in-Calm : goal.returns-in-Calm
returns-in-Calm c = calm_way _ _ _ _ c.view.ensures.0 c.go-q.ensures _ c.in-Calm.is c.calmed.ensures c.said-in-Calm.ensures.0

pub returns-in-Idle : goal.returns-in-Idle
returns-in-Idle c = idle_way _ _ _ _ c.view.ensures.0 c.go-q.ensures _ c.in-Idle.is c.said-in-Idle.ensures.0

pub returns-in-Plain : goal.returns-in-Plain
returns-in-Plain c = plain_way _ _ _ _ c.view.ensures.0 c.go-q.ensures c.in-Plain.is c.raw_call.ensures
