-- Where the frame of an entry lies; `None` is a frame that the fast way does not take.
use Rattle.std.specs.Prelude.{ℕ, ◌+◌, ◌-◌, ◌%◌, Bool, false, eqb, ltb, Option, Some, None}
use Rattle.types.specs.Kinds.{pick, is_prefetch_kind}
use Rattle.fast_plans.specs.declared.View.{View}
use Rattle.fast_plans.specs.declared.places.Spot.{Spot}

-- `prefetch_enabled`
unfoldable pub fetches_of : View → Bool
fetches_of x = pick x.precise (is_prefetch_kind x.kind) false

-- the supervisor and the user stack pointer once S is set, M being clear
unfoldable pub top_of : View → ℕ
top_of x = pick (eqb x.flags.s_flag 0) x.interrupt x.a7

unfoldable pub user_of : View → ℕ
user_of x = pick (eqb x.flags.s_flag 0) x.a7 x.user

abbrev pub spot : ℕ → ℕ → Spot
spot q p = record { a7 = q; place = p }

-- n bytes below the supervisor's pointer, within the store, at an even address
unfoldable pub spot_of : View → ℕ → ℕ → Option Spot
spot_of x stored n =
    pick (ltb (top_of x) n) None
    (pick (ltb (top_of x - n) x.base) None
    (pick (ltb stored (top_of x - n - x.base + n)) None
    (pick (eqb ((top_of x - n) % 2) 1) None (Some (spot (top_of x - n) (top_of x - n - x.base))))))
