-- What a frame that is read leaves: A7 raised by its length, then S and M as stacked under the mask.
use Rattle.std.specs.Prelude.{◌≡◌, refl, Bool, true, false, cond, ◌&&◌, ℕ, zero, suc, ◌/◌, ◌%◌}
use Rattle.std.proofs.Common.{subst, arith}
use Rattle.std.proofs.Math.Option.{Option, none, some}
use Rattle.nest.specs.View.{Bytes, View, top, aligned, odd, short, frame_len, opt, word, long, served, Taken, settle, sized, short_frame, full_frame, frame}

module _ {A B : Type 0} (P : B → Type 0) where
  opt_gets : (o : Option A) (f : A → Option B) (t : B) → ((a : A) → f a ≡ some t → P t) → opt o f ≡ some t → P t
  opt_gets none f t h e = let z : ◌≡◌ {A = ℕ} 0 1 = cc in absurd (omega arith)
  opt_gets (some a) f t h e = h a e

module _ {B : Type 0} (P : B → Type 0) where
  cond_gets : (q : Bool) (x y : Option B) (t : B) → (x ≡ some t → P t) → (y ≡ some t → P t) → cond q x y ≡ some t → P t
  cond_gets true x y t f g e = f e
  cond_gets false x y t f g e = g e

  none_gets : (t : B) → none ≡ some t → P t
  none_gets t e = let z : ◌≡◌ {A = ℕ} 0 1 = cc in absurd (omega arith)

  some_gets : (u t : B) → P u → some u ≡ some t → P t
  some_gets u t p e = let z : u ≡ t = cc in subst P z p

module _ (v : View) (b : Bytes) where
  abbrev Settled : Taken → Type 0
  Settled t = t.after ≡ settle v t.size t.status

  sized_settled : (st ad fw n : ℕ) (t : Taken) → sized v b st ad fw n ≡ some t → Settled t
  sized_settled st ad fw zero t e = none_gets Settled t e
  sized_settled st ad fw (suc n) t e =
      cond_gets Settled (served b v.kind (top v) (suc n)) (some made) none t (some_gets Settled made t refl) (none_gets Settled t) e
    where
      made : Taken
      made = record { format = fw / 0x1000; status = st; address = ad; offset = fw % 0x1000; size = suc n; after = settle v (suc n) st }

  short_settled : (t : Taken) → short_frame v b ≡ some t → Settled t
  short_settled t e =
      opt_gets Settled (word b v.kind (top v) 0) _ t
      (λ st. opt_gets Settled (long b v.kind (top v) 2) (λ ad. some (made st ad)) t (λ ad. some_gets Settled (made st ad) t refl)) e
    where
      made : ℕ → ℕ → Taken
      made st ad = record { format = 0; status = st; address = ad; offset = 0; size = 6; after = settle v 6 st }

  full_settled : (t : Taken) → full_frame v b ≡ some t → Settled t
  full_settled t e =
      opt_gets Settled (word b v.kind (top v) 0) _ t
      (λ st. opt_gets Settled (long b v.kind (top v) 2) _ t
      (λ ad. opt_gets Settled (word b v.kind (top v) 6) (λ fw. sized v b st ad fw (frame_len v.kind (fw / 0x1000))) t
      (λ fw. sized_settled st ad fw (frame_len v.kind (fw / 0x1000)) t))) e

  pub frame_settled : (t : Taken) → frame v b ≡ some t → t.after ≡ settle v t.size t.status
  unfolding frame
  frame_settled t e =
      cond_gets Settled (aligned v.kind && odd (top v)) none (cond (short v.kind) (short_frame v b) (full_frame v b)) t (none_gets Settled t)
      (cond_gets Settled (short v.kind) (short_frame v b) (full_frame v b) t (short_settled t) (full_settled t)) e
