-- A frame and a jump that were found can be written.
use Rattle.std.specs.Prelude.{◌≡◌, ℕ, ◌+◌, ◌-◌, ◌%◌, ◌<◌, ◌≤◌, Bool, true, false, List, length, ◌==◌, nat_lt, refl, Option, Some, None}
use Rattle.std.proofs.lemmas.Option.{none-some, same_Some}
use Rattle.std.proofs.Common.{arith, ltb-false}
use Rattle.types.specs.Kinds.{pick}
use Rattle.memory.specs.Bytes.{get_word, get_long}
use Rattle.fast_plans.specs.declared.View.{View}
use Rattle.fast_plans.specs.declared.plans.Plan.{Plan}
use Rattle.fast_plans.specs.Places.{spot, spot_of, top_of, fetches_of}
use Rattle.fast_plans.specs.declared.places.Spot.{Spot}
use Rattle.fast_plans.specs.Plans.{shape_number}
use Rattle.fast.specs.declared.landings.Landing.{Landing}
use Rattle.fast.specs.Landings.{landed, landing_of, queued_of, meets, vector_at}
use Rattle.fast.specs.Stacks.{Fits, lay_count, clocks_count, waiting_of}

-- what was found where a test stands before it
pub found_step : {A : Type 0} (b : Bool) (y : Option A) (z : A) → pick b None y ≡ Some z → (b ≡ false) × (y ≡ Some z)
found_step true y z e = absurd (none-some z e)
found_step false y z e = (refl, e)

-- a frame that was found lies in the store
pub spot_fits : (x : View) (m : List ℕ) (n : ℕ) (s : Spot) → x.base + length m ≤ 0x100000000 → spot_of x (length m) n ≡ Some s → Fits s n m
unfolding spot_of
spot_fits x m n s b e =
    let t1 = found_step (nat_lt (top_of x) n) _ s e in
    let t2 = found_step (nat_lt (top_of x - n) x.base) _ s t1.1 in
    let t3 = found_step (nat_lt (length m) (top_of x - n - x.base + n)) _ s t2.1 in
    let t4 = found_step ((top_of x - n) % 2 == 1) _ s t3.1 in
    let p : x.base ≤ top_of x - n = ltb-false (top_of x - n) x.base t2.0 in
    let q : top_of x - n - x.base + n ≤ length m = ltb-false (length m) (top_of x - n - x.base + n) t3.0 in
    let z : spot (top_of x - n) (top_of x - n - x.base) ≡ s = same_Some _ _ t4.1 in
    rw (← z) (fits p q)
  where
    fits : x.base ≤ top_of x - n → top_of x - n - x.base + n ≤ length m → Fits (spot (top_of x - n) (top_of x - n - x.base)) n m
    fits p q = record { place = q; address = omega arith }

count : (n k : ℕ) → clocks_count n k ≤ n + 1
unfolding clocks_count
count n k = at (nat_lt 0 k)
  where
    at : (t : Bool) → pick t (n + 1) n ≤ n + 1
    at true = omega arith
    at false = omega arith

-- a frame takes at most 11 events
pub few : (x : View) (p : Plan) → lay_count x p + 5 ≤ 64
unfolding lay_count
few x p = go (shape_number p.shape == 6) (shape_number p.shape == 2) (shape_number p.shape == 3) (shape_number p.shape == 5) (shape_number p.shape == 4) (fetches_of x) (count 0 (waiting_of x p.clocks)) (count 1 (waiting_of x p.clocks))
  where
    go : {f g : ℕ} (a b c d e h : Bool) → f ≤ 0 + 1 → g ≤ 1 + 1
        → pick a (g + 3) (pick b (f + 3) (pick c (f + 4) (pick d (f + 5) (pick e (pick h (f + 6) (f + 4)) (f + 3))))) + 5 ≤ 64
    go true b c d e h k l = omega arith
    go false true c d e h k l = omega arith
    go false false true d e h k l = omega arith
    go false false false true e h k l = omega arith
    go false false false false true true k l = omega arith
    go false false false false true false k l = omega arith
    go false false false false false h k l = omega arith

-- a jump that was found to an even handler: its second word has an address of 32 bits
queued_fits : (x : View) (m : List ℕ) (a to s n : ℕ) (j : Landing) → x.base + length m ≤ 0x100000000 → queued_of x m a to s n ≡ Some j → j.pc + 2 < 0x100000000
unfolding queued_of
queued_fits x m a to s n j b e =
    let t1 = found_step (to % 2 == 1) _ j e in
    let t2 = found_step (nat_lt to x.base) _ j t1.1 in
    let t3 = found_step (nat_lt (length m) (to - x.base + 4)) _ j t2.1 in
    let t4 = found_step (meets (to - x.base) s n) _ j t3.1 in
    let p : x.base ≤ to = ltb-false to x.base t2.0 in
    let q : to - x.base + 4 ≤ length m = ltb-false (length m) (to - x.base + 4) t3.0 in
    let z : landed a to (get_word m (to - x.base)) (get_word m (to - x.base + 2)) ≡ j = same_Some _ _ t4.1 in
    rw (← z) (omega arith)

pub landing_fits : (x : View) (m : List ℕ) (v s n : ℕ) (j : Landing) → x.base + length m ≤ 0x100000000 → landing_of x m v s n ≡ Some j → fetches_of x ≡ true → j.pc + 2 < 0x100000000
unfolding landing_of
landing_fits x m v s n j b e f =
    let t1 = found_step (nat_lt (vector_at x v) x.base) _ j e in
    let t2 = found_step (nat_lt (length m) (vector_at x v - x.base + 4)) _ j t1.1 in
    let t3 = found_step (meets (vector_at x v - x.base) s n) _ j t2.1 in
    queued_fits x m (vector_at x v) (get_long m (vector_at x v - x.base)) s n j b (rw f at t3.1)
