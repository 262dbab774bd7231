use Rattle.std.specs.Prelude.{◌≡◌}
use Rattle.memory.specs.World.{world}
use Rattle.access.specs.Access.{trigger, push_fields}
use Rattle.std.proofs.Common.{◌+◌, ◌*◌}
use Rattle.access.proofs.ring.+ring.Given as goal

-- The fault levels that are left come first: only the two triggers lower them.
abbrev pub decreases-exception_address_error : goal.decreases-exception_address_error
decreases-exception_address_error l = l.levels * 1024 + 400

abbrev pub decreases-exception_bus_error : goal.decreases-exception_bus_error
decreases-exception_bus_error l = l.levels * 1024 + 400

abbrev pub decreases-jump_vector : goal.decreases-jump_vector
decreases-jump_vector l = l.levels * 1024 + 60

abbrev pub decreases-prefetch_first : goal.decreases-prefetch_first
decreases-prefetch_first l = l.levels * 1024 + 40

abbrev pub decreases-prefetch_read : goal.decreases-prefetch_read
decreases-prefetch_read l = l.levels * 1024 + 20

abbrev pub decreases-prefetch_second : goal.decreases-prefetch_second
decreases-prefetch_second l = l.levels * 1024 + 40

abbrev pub decreases-push_field : goal.decreases-push_field
decreases-push_field l = l.levels * 1024 + 40

abbrev pub decreases-push_fields : goal.decreases-push_fields
decreases-push_fields l = l.levels * 1024 + 60

abbrev pub decreases-read_at : goal.decreases-read_at
decreases-read_at l = l.levels * 1024 + 30

abbrev pub decreases-trigger_address_error : goal.decreases-trigger_address_error
decreases-trigger_address_error l = l.levels * 1024 + 10

abbrev pub decreases-trigger_bus_error : goal.decreases-trigger_bus_error
decreases-trigger_bus_error l = l.levels * 1024 + 10

abbrev pub decreases-write_at : goal.decreases-write_at
decreases-write_at l = l.levels * 1024 + 30

-- what is left to push, pushed now, is what all would be
abbrev pub invariant-push_fields-loop-k : goal.invariant-push_fields-loop-k
invariant-push_fields-loop-k l = push_fields (trigger l.levels) (world l.m l.store l.log) l.f l.k ≡ push_fields (trigger l.levels) (world l.initial.m l.initial.store l.initial.log) l.f l.left
