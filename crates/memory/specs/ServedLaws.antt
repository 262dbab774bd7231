-- What it is to be served, in paper 01's words: "all its bytes are in the store and none in a window".
use Rattle.std.specs.Prelude.{ℕ, zero, suc, ◌+◌, ◌-◌, ◌^◌, ◌≤◌, ◌<◌, ◌≡◌, Bool, eqb, get_or}
use Rattle.std.proofs.Math.Path.{refl}
use Rattle.std.proofs.Math.Bool.{true, false}
use Rattle.std.proofs.Math.Logic.{inl, inr}
use Rattle.std.proofs.Common.{arith}
use borrow.Author.Tests.{ltb-true, ltb-false, leb-true, eqb-true, eqb-false, le-ltb, le-leb, ne_eqb}
use Rattle.std.proofs.Math.Dec.{ltb, leb}
use Rattle.types.specs.Kinds.{pick}
use Rattle.memory.specs.declared.Bus.{Bus}
use Rattle.memory.specs.Served.{meets, clear_of, windows_in_use, in_store, served_of}
use Rattle.memory.specs.Runs.{Outside, Apart}

-- where window k starts, and its bytes
abbrev pub start : Bus → ℕ → ℕ
start b k = get_or b.starts k 0

abbrev pub size : Bus → ℕ → ℕ
size b k = get_or b.lengths k 0

-- in the store and clear of the windows, by the ends of the access and of each window in use
pub record Clear (b : Bus) (len a n : ℕ) : Type 0 where
  pub low : b.base ≤ a
  pub high : a + n ≤ b.base + len
  pub apart : (k : ℕ) → k < windows_in_use b → (size b k ≡ 0 → ⊥) → Apart a n (start b k) (size b k)

no : {A : Type 0} → false ≡ true → A
no e = let z : ◌≡◌ {A = ℕ} 0 1 = cc in absurd (omega arith)

module _ (b : Bus) (k a n : ℕ) where
  -- a window that an access does not meet is empty or lies apart from it
  meets_none : meets b k a n ≡ false → (size b k ≡ 0 → ⊥) → Apart a n (start b k) (size b k)
  unfolding meets
  meets_none e h = go (ltb a (start b k + size b k)) refl (rw (ne_eqb (size b k) 0 h) at e)
    where
      go : (t : Bool) → ltb a (start b k + size b k) ≡ t → pick t (ltb (start b k) (a + n)) false ≡ false → Apart a n (start b k) (size b k)
      go true x y = inl (ltb-false (start b k) (a + n) y)
      go false x y = inr (ltb-false a (start b k + size b k) x)

  -- and the other way round
  none_meets : ((size b k ≡ 0 → ⊥) → Apart a n (start b k) (size b k)) → meets b k a n ≡ false
  unfolding meets
  none_meets h = go (eqb (size b k) 0) refl
    where
      past : (t : Bool) → ltb a (start b k + size b k) ≡ t → Apart a n (start b k) (size b k) → pick t (ltb (start b k) (a + n)) false ≡ false
      past false x y = refl
      past true x (inl y) = le-ltb (start b k) (a + n) y
      past true x (inr y) = absurd (omega (arith, ltb-true a (start b k + size b k) x))

      go : (t : Bool) → eqb (size b k) 0 ≡ t → pick t false (pick (ltb a (start b k + size b k)) (ltb (start b k) (a + n)) false) ≡ false
      go true x = refl
      go false x = past (ltb a (start b k + size b k)) refl (h (eqb-false (size b k) 0 x))

-- none of the first m windows is met, both ways
clear_none : (b : Bus) (m a n : ℕ) → clear_of b m a n ≡ true → (k : ℕ) → k < m → meets b k a n ≡ false
unfolding clear_of
clear_none b zero a n e k l = absurd (omega arith)
clear_none b (suc m) a n e k l = go (meets b m a n) refl e (ltb k m) refl (λ y z. clear_none b m a n y k z)
  where
    go : (t : Bool) → meets b m a n ≡ t → pick t false (clear_of b m a n) ≡ true → (u : Bool) → ltb k m ≡ u → (clear_of b m a n ≡ true → k < m → meets b k a n ≡ false) → meets b k a n ≡ false
    go true x y u z r = no y
    go false x y true z r = r y (ltb-true k m z)
    go false x y false z r = let q : k ≡ m = omega (arith, ltb-false k m z) in rw q x

none_clear : (b : Bus) (m a n : ℕ) → ((k : ℕ) → k < m → meets b k a n ≡ false) → clear_of b m a n ≡ true
unfolding clear_of
none_clear b zero a n h = refl
none_clear b (suc m) a n h = rw (h m (omega arith)) (none_clear b m a n (λ k l. h k (omega arith)))

module _ (b : Bus) (len a n : ℕ) where
  -- a served access is in the store and clear of the windows
  pub served_means : served_of b len a n ≡ true → Clear b len a n
  unfolding served_of in_store
  served_means e = go (ltb a b.base) refl (leb (a - b.base + n) len) refl e
    where
      go : (t : Bool) → ltb a b.base ≡ t → (u : Bool) → leb (a - b.base + n) len ≡ u → pick (pick t false u) (clear_of b (windows_in_use b) a n) false ≡ true → Clear b len a n
      go true x u y z = no z
      go false x false y z = no z
      go false x true y z =
          record { low = ltb-false a b.base x; high = omega (arith, ltb-false a b.base x, leb-true (a - b.base + n) len y); apart = λ k l. meets_none b k a n (clear_none b (windows_in_use b) a n z k l) }

  -- an access that is in the store and clear of the windows is served
  pub served_if : Clear b len a n → served_of b len a n ≡ true
  unfolding served_of in_store
  served_if c =
      rw (le-ltb a b.base c.low, le-leb (a - b.base + n) len (let l = c.low in let h = c.high in omega arith)) (none_clear b (windows_in_use b) a n (λ k l. none_meets b k a n (c.apart k l)))

  -- a store that ends at 2^32 or below: no byte of a served access is beyond, so none wraps
  pub served_below : b.base + len ≤ 2 ^ 32 → served_of b len a n ≡ true → a + n ≤ 2 ^ 32
  served_below h e = let z = (served_means e).high in omega arith

-- the byte at address c is in the store and in no window in use
pub record Byte (b : Bus) (len c : ℕ) : Type 0 where
  pub low : b.base ≤ c
  pub high : c < b.base + len
  pub out : (k : ℕ) → k < windows_in_use b → Outside (start b k) (size b k) c

-- a window of length 0 holds no byte
pub empty_window : (b : Bus) (k c : ℕ) → size b k ≡ 0 → Outside (start b k) (size b k) c
empty_window b k c e = go (ltb c (start b k)) refl
  where
    go : (t : Bool) → ltb c (start b k) ≡ t → Outside (start b k) (size b k) c
    go true x = inl (ltb-true c (start b k) x)
    go false x = inr (omega (arith, ltb-false c (start b k) x))

module _ (b : Bus) (len a n : ℕ) where
  -- each byte of a served access is in the store and in no window
  pub served_bytes : served_of b len a n ≡ true → (i : ℕ) → i < n → Byte b len (a + i)
  served_bytes e i h =
      record { low = omega (arith, (served_means b len a n e).low); high = omega (arith, (served_means b len a n e).high); out = λ k l. go k (eqb (size b k) 0) refl ((served_means b len a n e).apart k l) }
    where
      past : (k : ℕ) → Apart a n (start b k) (size b k) → Outside (start b k) (size b k) (a + i)
      past k (inl x) = inl (omega arith)
      past k (inr x) = inr (omega arith)

      go : (k : ℕ) (t : Bool) → eqb (size b k) 0 ≡ t → ((size b k ≡ 0 → ⊥) → Apart a n (start b k) (size b k)) → Outside (start b k) (size b k) (a + i)
      go k true x f = empty_window b k (a + i) (eqb-true (size b k) 0 x)
      go k false x f = past k (f (eqb-false (size b k) 0 x))

  -- an access of one byte or more, each of them in the store and in no window, is served
  pub bytes_served : 0 < n → ((i : ℕ) → i < n → Byte b len (a + i)) → served_of b len a n ≡ true
  bytes_served p h =
      served_if b len a n (record { low = omega (arith, (h 0 p).low); high = omega (arith, (h (n - 1) (omega arith)).high); apart = λ k l z. go k l z (ltb (start b k) (a + n)) refl (ltb a (start b k + size b k)) refl })
    where
      clash : (k : ℕ) → start b k < a + n → a < start b k + size b k → (size b k ≡ 0 → ⊥) → Outside (start b k) (size b k) (a + (start b k - a)) → ⊥
      clash k x y z (inl o) = omega arith
      clash k x y z (inr o) = z (omega arith)

      go : (k : ℕ) → k < windows_in_use b → (size b k ≡ 0 → ⊥) → (t : Bool) → ltb (start b k) (a + n) ≡ t → (u : Bool) → ltb a (start b k + size b k) ≡ u → Apart a n (start b k) (size b k)
      go k l z false x u y = inl (ltb-false (start b k) (a + n) x)
      go k l z true x false y = inr (ltb-false a (start b k + size b k) y)
      go k l z true x true y =
          absurd (clash k (ltb-true (start b k) (a + n) x) (ltb-true a (start b k + size b k) y) z ((h (start b k - a) (omega (arith, ltb-true (start b k) (a + n) x))).out k l))
