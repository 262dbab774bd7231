-- Paper 01: "An access is served if all its bytes are in the store and none in a window." Addresses are natural numbers here,
-- so that near 2^32 no byte of an access wraps to the lowest addresses.
use Rattle.std.specs.Prelude.{ℕ, zero, suc, ◌+◌, ◌-◌, Bool, true, false, eqb, ltb, leb, get_or}
use Rattle.types.specs.Kinds.{pick}
use Rattle.memory.specs.declared.Bus.{Bus}

-- window k holds a byte of the n bytes from a on; a window of length 0 holds none
unfoldable pub meets : Bus → ℕ → ℕ → ℕ → Bool
meets b k a n =
    pick (eqb (get_or b.lengths k 0) 0) false
    (pick (ltb a (get_or b.starts k 0 + get_or b.lengths k 0)) (ltb (get_or b.starts k 0) (a + n)) false)

-- none of the first k windows does
unfoldable pub clear_of : Bus → ℕ → ℕ → ℕ → Bool
clear_of b zero a n = true
clear_of b (suc k) a n = pick (meets b k a n) false (clear_of b k a n)

-- at most 8 windows count; more are refused by number 6 before any access
unfoldable pub windows_in_use : Bus → ℕ
windows_in_use b = pick (ltb 8 b.windows) 8 b.windows

-- all n bytes from a on are in a store of len bytes
unfoldable pub in_store : Bus → ℕ → ℕ → ℕ → Bool
in_store b len a n = pick (ltb a b.base) false (leb (a - b.base + n) len)

unfoldable pub served_of : Bus → ℕ → ℕ → ℕ → Bool
served_of b len a n = pick (in_store b len a n) (clear_of b (windows_in_use b) a n) false

-- the place in the store of an address
unfoldable pub place_of : Bus → ℕ → ℕ
place_of b a = pick (ltb a b.base) 0 (a - b.base)
