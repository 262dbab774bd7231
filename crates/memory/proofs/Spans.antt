-- The ways through `window_meets`, by tests on numbers, and what a served access says of its place.
use Rattle.std.specs.Prelude.{Option, Some, None, is_some, unwrap_or}
use Prim.Native.Nat.{ℕ, ◌+◌, ◌-◌, ◌≤◌}
use mathlib.Core.Path.{◌≡◌, refl, ap, ◌∙◌}
use mathlib.Core.Bool.{Bool, true, false}
use native.Mathlib.Omega.{arith}
use lib.Dec.{ltb, leb}
use borrow.Author.Tests.{leb-true}
use Rattle.types.specs.Kinds.{pick}
use Rattle.memory.specs.declared.Bus.{Bus}
use Rattle.memory.specs.declared.Core.{Core}
use mathlib.Core.List.{List}
use lib.ListN.{length}
use Rattle.memory.specs.Bytes.{get_long, get_word}
use Rattle.memory.specs.World.{World, Attempt, world, tried, try_write, raw_write, noted, served, width_of, read_as, try_read, raw_read, read_value, fetched}
use Rattle.memory.specs.Served.{in_store, served_of, clear_of, windows_in_use, place_of}

within : (p q s : Bool) → pick (pick p false q) s false ≡ true → (p ≡ false) × (q ≡ true)
within true q s h = let z : ◌≡◌ {A = ℕ} 0 1 = cc in absurd (omega arith)
within false true s h = (refl, refl)
within false false s h = let z : ◌≡◌ {A = ℕ} 0 1 = cc in absurd (omega arith)

-- a served access lies in the store at its place
pub served_room : (b : Bus) (len a n p : ℕ) (t : Bool) → t ≡ served_of b len a n → t ≡ true → p ≡ place_of b a → p + n ≤ len
unfolding served_of in_store place_of
served_room b len a n p t h0 h1 h2 =
    let e : (ltb a b.base ≡ false) × (leb (a - b.base + n) len ≡ true) = within (ltb a b.base) (leb (a - b.base + n) len) (clear_of b (windows_in_use b) a n) (rw (← h0) h1) in
    let r : a - b.base + n ≤ len = leb-true _ _ e.1 in
    let q : p ≡ a - b.base = rw e.0 at h2 in
    omega arith

-- the same where the bytes were counted first, and the room for a long and a word
pub of_width : (b : Bus) (len a n w : ℕ) (t : Bool) → n ≡ w → t ≡ served_of b len a n → t ≡ served_of b len a w
of_width b len a n w t h0 h1 = cc

pub room : (b : Bus) (len a n w p : ℕ) (t : Bool) → n ≡ w → t ≡ served_of b len a n → t ≡ true → p ≡ place_of b a → p + w ≤ len
room b len a n w p t h0 h1 h2 h3 = served_room b len a w p t (of_width b len a n w t h0 h1) h2 h3

-- a raw write is what a guarded one leaves
pub raw_of_try : (w x : World) (a v : ℕ) (g k : Bool) → tried x k ≡ try_write w a g v → x ≡ raw_write w a g v
unfolding try_write
raw_of_try w x a v g k h = ap (λ (y : Attempt). y.after) h

-- a guarded read: its value, where it is served, then the event
module _ (m r : Core) (s l s1 l1 : List ℕ) (a : ℕ) (g : Bool) (code n : ℕ) where
  pub heard : (t : Bool) → t ≡ served_of m.bus (length s) a (width_of g) → code ≡ pick t (pick g 2 1) (pick g 18 17) → n ≡ unwrap_or (pick t (Some (pick g (get_long s (place_of m.bus a)) (get_word s (place_of m.bus a)))) None) 0 → world r s1 l1 ≡ noted (world m s l) code a n → read_as (world r s1 l1) (pick t (Some (pick g (get_long s (place_of m.bus a)) (get_word s (place_of m.bus a)))) None) ≡ try_read (world m s l) a g
  unfolding try_read raw_read read_value served fetched
  heard true h0 h1 h2 h3 = cc
  heard false h0 h1 h2 h3 = cc

  some_is : (t : Bool) (x : ℕ) → is_some (pick t (Some x) None) ≡ t
  some_is true x = refl
  some_is false x = refl

  pub read_way : (o : Option ℕ) (is : Bool) → o ≡ pick (served_of m.bus (length s) a (width_of g)) (Some (pick g (get_long s (place_of m.bus a)) (get_word s (place_of m.bus a)))) None → is ≡ is_some o → code ≡ pick is (pick g 2 1) (pick g 18 17) → n ≡ unwrap_or o 0 → world r s1 l1 ≡ noted (world m s l) code a n → read_as (world r s1 l1) o ≡ try_read (world m s l) a g
  read_way o is h0 h1 h2 h3 h4 =
      let e : is ≡ served_of m.bus (length s) a (width_of g) = h1 ∙ ap (λ (y : Option ℕ). is_some y) h0 ∙ some_is _ _ in
      rw h0 (heard _ refl (rw e at h2) (rw h0 at h3) h4)
