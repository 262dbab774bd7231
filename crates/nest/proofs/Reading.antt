-- Theorems about what specs/Reading defines, and what rests on them.
use Rattle.std.specs.Prelude.{◌≡◌, false, [], ◌∷◌}
use Rattle.std.proofs.Math.Path.{refl, sym, ap}
use Rattle.std.proofs.Common.{◌∙◌, arith}
use Rattle.std.proofs.Math.Bool.{true}
use Rattle.std.proofs.Math.Option.{some}
use Prim.Native.Nat.{ℕ, ◌+◌, ◌/◌, ◌%◌, ◌<◌}
use Rattle.nest.specs.View.{Bytes, Frame, Stacked, one, two, row_of, frames_of, wrap, addr, under, s_bit, m_bit, Bank, interrupt, master, bank_of, View, ptr, set_ptr, bank, top, with_sm, settle}
use Rattle.nest.specs.Nest.{Holds, here, there}
use Rattle.nest.specs.Laws.{lower, Pushed, Shape, EntryOne, EntryTwo, Does}
use Rattle.nest.specs.Reading.{FitsOne, FitsTwo, Fits, bank_set_ptr, ptr_set_ptr, kind_set_ptr, s_set_ptr, lower_raise, lower_even, taken_of, frame_reads, frame_covers, ptr_with_sm, undo, Ready}

module _ (st : ℕ) (v v' : View) (b : Bytes) (f : Frame) (x : EntryOne st v v' b f) (rd : Ready st v)
    (sv : (a : ℕ) → Holds v.kind (f ∷ []) a → (y : ℕ) × (b a ≡ some y)) where
  B₁ : Bank
  B₁ = bank_of v.kind true v.m

  w₁ : View
  unfolding B₁
  w₁ = set_ptr (with_sm v true x.m') B₁ f.at

  is_w₁ : v' ≡ w₁
  unfolding w₁ B₁
  is_w₁ = x.view_is ∙ ap (λ (B : Bank). set_ptr (with_sm v true x.m') B f.at) x.stays

  kind_w₁ : w₁.kind ≡ v.kind
  unfolding w₁ B₁
  kind_w₁ = kind_set_ptr (with_sm v true x.m') B₁ f.at

  s_w₁ : w₁.s ≡ true
  unfolding w₁ B₁
  s_w₁ = s_set_ptr (with_sm v true x.m') B₁ f.at

  bank_w₁ : bank w₁ ≡ B₁
  unfolding w₁ B₁
  bank_w₁ = bank_set_ptr (with_sm v true x.m') B₁ f.at ∙ x.stays

  top_w₁ : f.at ≡ top w₁
  unfolding w₁ B₁
  top_w₁ = sym (ap (λ (B : Bank). ptr w₁ B) bank_w₁ ∙ ptr_set_ptr (with_sm v true x.m') B₁ f.at)

  old_top : top (with_sm v true v.m) ≡ ptr v B₁
  unfolding B₁
  old_top = ptr_with_sm v true v.m B₁

  at_is_lem : f.at ≡ lower (ptr v B₁) f.len
  at_is_lem = rw (← old_top) x.at_is

  raised : wrap (top w₁ + f.len) ≡ ptr v B₁
  raised =
      ap (λ (p : ℕ). wrap (p + f.len)) (sym top_w₁ ∙ at_is_lem)
      ∙ lower_raise (ptr v B₁) f.len (rd.low B₁) (omega (arith, x.shape.small_len))

  after_w₁ : settle w₁ f.len f.status ≡ v
  unfolding w₁
  after_w₁ =
      (λ i. with_sm (set_ptr w₁ (bank_w₁ i) (raised i)) (s_is_lem i) (m_is_lem i)) ∙ undo v x.m' B₁ f.at
    where
      s_is_lem : s_bit (under w₁.kind f.status) ≡ v.s
      s_is_lem = rw (kind_w₁, x.status_is) rd.s_is

      m_is_lem : m_bit (under w₁.kind f.status) ≡ v.m
      m_is_lem = rw (kind_w₁, x.status_is) rd.m_is

  even_at : f.at % 2 ≡ 0
  even_at = ap (λ (p : ℕ). p % 2) at_is_lem ∙ (lower_even (ptr v B₁) f.len (rd.even B₁) x.shape.even_len (omega (arith, x.shape.small_len)))

  fits_w₁ : FitsOne b w₁ f (row_of (one f)) v
  fits_w₁ =
      record {
        t = taken_of w₁ f;
        sup = s_w₁;
        plain = x.plain;
        row_is = refl;
        after_is = sym after_w₁;
        kind_is = sym kind_w₁;
        reads = frame_reads w₁ b f top_w₁ even_at pu sh sv';
        covers = frame_covers w₁ b f top_w₁ even_at pu sh sv';
      }
    where
      pu : Pushed w₁.kind b f
      pu = rw kind_w₁ x.pushed

      sh : Shape w₁.kind f
      sh = rw kind_w₁ x.shape

      sv' : (i : ℕ) → i < f.len → (y : ℕ) × (b (addr w₁.kind f.at i) ≡ some y)
      sv' = rw kind_w₁ (λ i l. sv (addr v.kind f.at i) (here i l refl))

  pub one_fits : FitsOne b v' f (row_of (one f)) v
  one_fits = rw is_w₁ fits_w₁

module _ (st : ℕ) (v v' : View) (b : Bytes) (h f : Frame) (x : EntryTwo st v v' b h f) (rd : Ready st v)
    (sv : (a : ℕ) → Holds v.kind (h ∷ f ∷ []) a → (y : ℕ) × (b a ≡ some y)) where
  -- with both frames stacked; and between the two
  abbrev w₂ : View
  w₂ = record { kind = v.kind; s = true; m = false; usp = v.usp; isp = h.at; msp = f.at }

  abbrev z₂ : View
  z₂ = record { kind = v.kind; s = true; m = true; usp = v.usp; isp = v.isp; msp = f.at }

  to_z₂ : settle w₂ h.len h.status ≡ z₂
  to_z₂ = λ i. record { kind = v.kind; s = x.s_top i; m = x.m_top i; usp = v.usp; isp = e i; msp = f.at }
    where
      e : wrap (h.at + h.len) ≡ v.isp
      e =
          ap (λ (p : ℕ). wrap (p + h.len)) x.top_at
          ∙ lower_raise v.isp h.len (rd.low interrupt) (omega (arith, x.shape_top.small_len))

  top_z₂ : f.at ≡ top z₂
  top_z₂ = sym (ap (λ (B : Bank). ptr z₂ B) x.two_stacks)

  to_v : settle z₂ f.len f.status ≡ v
  to_v = λ i. with_sm (set_ptr z₂ (x.two_stacks i) (e i)) (s_is_lem i) (m_is_lem i)
    where
      e : wrap (top z₂ + f.len) ≡ v.msp
      e =
          ap (λ (p : ℕ). wrap (p + f.len)) (sym top_z₂ ∙ x.under_at)
          ∙ lower_raise v.msp f.len (rd.low master) (omega (arith, x.shape_under.small_len))

      s_is_lem : s_bit (under v.kind f.status) ≡ v.s
      s_is_lem = ap (λ (q : ℕ). s_bit (under v.kind q)) x.status_is ∙ rd.s_is

      m_is_lem : m_bit (under v.kind f.status) ≡ v.m
      m_is_lem = ap (λ (q : ℕ). m_bit (under v.kind q)) x.status_is ∙ rd.m_is

  even_h : h.at % 2 ≡ 0
  even_h =
      ap (λ (p : ℕ). p % 2) x.top_at
      ∙ lower_even v.isp h.len (rd.even interrupt) x.shape_top.even_len (omega (arith, x.shape_top.small_len))

  even_f : f.at % 2 ≡ 0
  even_f =
      ap (λ (p : ℕ). p % 2) x.under_at
      ∙ lower_even v.msp f.len (rd.even master) x.shape_under.even_len (omega (arith, x.shape_under.small_len))

  sv_h : (i : ℕ) → i < h.len → (y : ℕ) × (b (addr v.kind h.at i) ≡ some y)
  sv_h i l = sv _ (here i l refl)

  sv_f : (i : ℕ) → i < f.len → (y : ℕ) × (b (addr v.kind f.at i) ≡ some y)
  sv_f i l = sv _ (there (here i l refl))

  fits_w₂ : FitsTwo b w₂ h f (row_of (two h f)) v
  fits_w₂ =
      record {
        t = record { format = h.word / 0x1000; status = h.status; address = h.address; offset = h.word % 0x1000; size = h.len; after = z₂ };
        u = taken_of z₂ f;
        sup = refl;
        throwaway = rw x.throwaway;
        between_is = refl;
        plain = x.plain;
        row_is = λ i. record { format = x.throwaway i; status = f.status; address = f.address; offset = f.word % 0x1000 };
        after_is = sym to_v;
        kind_is = refl;
        reads_top =
            frame_reads w₂ b h refl even_h x.pushed_top x.shape_top sv_h
            ∙ (λ i. some (record { format = h.word / 0x1000; status = h.status; address = h.address; offset = h.word % 0x1000; size = h.len; after = to_z₂ i }));
        covers_top = record { at = refl; len = refl; head = (frame_covers w₂ b h refl even_h x.pushed_top x.shape_top sv_h).head };
        reads_under = frame_reads z₂ b f top_z₂ even_f x.pushed_under x.shape_under sv_f;
        covers_under = frame_covers z₂ b f top_z₂ even_f x.pushed_under x.shape_under sv_f;
      }

  pub two_fits : FitsTwo b v' h f (row_of (two h f)) v
  two_fits = rw x.view_is fits_w₂

-- an entry that meets the laws leaves what a return takes back to where it began
pub does_fits : (st : ℕ) (v v' : View) (b : Bytes) (k : Stacked) → Does st v v' b k → Ready st v
    → ((a : ℕ) → Holds v.kind (frames_of k) a → (y : ℕ) × (b a ≡ some y)) → Fits b v' k (row_of k) v
does_fits st v v' b (one f) x rd sv = one_fits st v v' b f x rd sv
does_fits st v v' b (two h f) x rd sv = two_fits st v v' b h f x rd sv
