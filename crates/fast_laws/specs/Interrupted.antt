-- An interrupt that is taken: on every kind it says what the fast way says.
use Prim.Native.Nat.{ℕ, ◌+◌}
use Rattle.std.specs.Prelude.{◌≡◌}
use mathlib.Core.List.{List}
use Rattle.std.proofs.Math.ListN.{length}
use Rattle.memory.specs.LogLaws.{Event}
use Rattle.fast_plans.specs.declared.View.{View}
use Rattle.fast_plans.specs.declared.plans.Plan.{Plan}
use Rattle.fast_plans.specs.Places.{fetches_of}
use Rattle.unfaulted.specs.Closed.{told, Piece, laid}
use Rattle.fast.specs.Stacks.{tape, lay_at, lay_count, jump_at, jump_count}
use Rattle.fast_laws.specs.Ways.{place_at, spot_for, landing_for}

-- what a plan writes: frame ps, events es in all
pub record Told (x : View) (p : Plan) (s l : List ℕ) (ps : List Piece) (es : List Event) : Type 0 where
  pub store : (lay_at x (spot_for x p) p (tape s l)).store ≡ laid s (place_at x p) ps
  pub log : jump_at (lay_count x p) (landing_for x p s) (fetches_of x) (lay_at x (spot_for x p) p (tape s l)).log ≡ told 0 l es
  pub count : jump_count (lay_count x p) (fetches_of x) ≡ 0 + length es
