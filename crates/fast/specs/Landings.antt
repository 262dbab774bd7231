-- Where the jump of an entry lands; `None` is a jump that the fast way does not take.
use Rattle.std.specs.Prelude.{ℕ, ◌+◌, ◌-◌, ◌*◌, ◌%◌, Bool, List, length, ◌==◌, nat_le, nat_lt, Option, Some, None}
use Rattle.types.specs.Kinds.{pick}
use Rattle.memory.specs.Bytes.{get_word, get_long}
use Rattle.fast_plans.specs.declared.View.{View}
use Rattle.fast_plans.specs.Places.{fetches_of}
use Rattle.fast.specs.declared.landings.Landing.{Landing}

abbrev pub landed : ℕ → ℕ → ℕ → ℕ → Landing
landed a to f s = record { from = a; pc = to; first = f; second = s }

-- the 4 bytes at place p and the n bytes at place s have a byte in common
unfoldable pub meets : ℕ → ℕ → ℕ → Bool
meets p s n = pick (nat_le p s) (nat_lt (s - p) 4) (nat_lt (p - s) n)

-- the queue at an even handler in the store, apart from the n bytes at place s
unfoldable pub queued_of : View → List ℕ → ℕ → ℕ → ℕ → ℕ → Option Landing
queued_of x m a to s n =
    pick (to % 2 == 1) None
    (pick (nat_lt to x.base) None
    (pick (nat_lt (length m) (to - x.base + 4)) None
    (pick (meets (to - x.base) s n) None
    (Some (landed a to (get_word m (to - x.base)) (get_word m (to - x.base + 2)))))))

-- the jump by vector v
unfoldable pub vector_at : View → ℕ → ℕ
vector_at x v = v * 4 + x.vbr

unfoldable pub landing_of : View → List ℕ → ℕ → ℕ → ℕ → Option Landing
landing_of x m v s n =
    pick (nat_lt (vector_at x v) x.base) None
    (pick (nat_lt (length m) (vector_at x v - x.base + 4)) None
    (pick (meets (vector_at x v - x.base) s n) None
    (pick (fetches_of x) (queued_of x m (vector_at x v) (get_long m (vector_at x v - x.base)) s n)
    (Some (landed (vector_at x v) (get_long m (vector_at x v - x.base)) 0 0)))))

-- the same in a store that may end anywhere
unfoldable pub landing_in : View → List ℕ → ℕ → ℕ → ℕ → Option Landing
landing_in x m v s n = pick (nat_lt 0x100000000 (length m)) None (pick (nat_lt 0x100000000 (x.base + length m)) None (landing_of x m v s n))
