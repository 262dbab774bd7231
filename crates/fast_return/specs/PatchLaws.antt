-- A return that was tried and goes is the return.
use Rattle.std.specs.Prelude.{◌≡◌, ℕ, ◌+◌, ◌-◌, ◌%◌, ◌≤◌, Bool, true, false, ltb, leb, List, length, ◌==◌, nat_eq, nat_le, nat_lt}
use Rattle.std.proofs.Math.Path.{refl}
use Rattle.std.proofs.Common.{sym, ap, ◌∙◌, arith}
use borrow.Author.Tests.{eqb-true, ltb-true, leb-true, le-ltb}
use Rattle.types.specs.Kinds.{pick, either, both, is_pre68020}
use Rattle.types.proofs.Laws.{pick_holds}
use Rattle.cpu.specs.Fields.{kind_of, vbr_of, a7_of, checks_alignment, has_fc_override, fc_override_of}
use Rattle.memory.specs.declared.Core.{Core}
use Rattle.refusals.specs.Refusals.{bad_flags, odd_base, bad_cycles, bad_code, bad_store, any_past, bad_windows, short_log, bad_vector, bad_kind, tests_of, first_number, refusal_of}
use Rattle.unwind.specs.Frames.{sight, byte_address, head_of, refused_frame, frame_of}
use Rattle.unwind.specs.Returns.{in_user, done_back, first_back, back}
use Rattle.unwind.specs.Unwind.{refusal, returned, return_from}
use Rattle.fast_return.specs.Accepted.{plain_flags, plain_cpu, plain_bus, accepts}
use Rattle.fast_return.specs.Quick.{Found, lies, not_found, taken_at, format_at, size_of, rest_lies, found_sized, found_word, found_in, found_of}
use Rattle.fast_return.specs.FoundLaws.{found_frame}
use Rattle.fast_return.specs.Patch.{no_patch, done_patch, found_patch, patch_back, patch_returned}

no : {A : Type 0} → false ≡ true → A
no e = let z : ◌≡◌ {A = ℕ} 0 1 = cc in absurd (omega arith)

-- both tests hold
left : (a b : Bool) → pick a b false ≡ true → a ≡ true
left true b e = refl
left false b e = no e

right : (a b : Bool) → pick a b false ≡ true → b ≡ true
right true b e = e
right false b e = no e

-- what a plainly accepted call says of its record and bus
pub record Plain (m : Core) (n : ℕ) : Type 0 where
  pub supervisor : nat_eq m.cpu.flags.s_flag 4 ≡ true
  pub m_is_lem : either (m.cpu.flags.m_flag == 0) (m.cpu.flags.m_flag == 2) ≡ true
  pub base_even : nat_eq (m.cpu.flow.vbr % 2) 0 ≡ true
  pub code_small : ltb m.cpu.fault.mmu_fc_override.value 8 ≡ true
  pub kind_small : ltb m.cpu.flow.cpu_type 12 ≡ true
  pub windows_none : nat_eq m.bus.windows 0 ≡ true
  pub store_small : leb n 65536 ≡ true
  pub store_ends : leb (m.bus.base + n) 0x100000000 ≡ true

pub plain_means : (m : Core) (n : ℕ) → accepts m n ≡ true → Plain m n
unfolding accepts plain_cpu plain_bus plain_flags
plain_means m n e =
    let b : plain_bus m.bus n ≡ true = left _ _ e in
    let c : plain_cpu m.cpu ≡ true = right (plain_bus m.bus n) _ e in
    let c1 : _ = right (m.cpu.flow.vbr % 2 == 0) _ c in
    let c2 : _ = right (nat_lt m.cpu.fault.mmu_fc_override.value 8) _ c1 in
    let c3 : _ = right (nat_lt m.cpu.flow.cpu_type 12) _ c2 in
    let b1 : _ = right (nat_le n 65536) _ b in
    record {
      supervisor = left _ _ c3;
      m_is_lem = right (m.cpu.flags.s_flag == 4) _ c3;
      base_even = left _ _ c;
      code_small = left _ _ c1;
      kind_small = left _ _ c2;
      windows_none = right (nat_le (m.bus.base + n) 0x100000000) _ b1;
      store_small = left _ _ b;
      store_ends = left _ _ b1;
    }

-- so no number refuses it
module _ (m : Core) (n : ℕ) (h : Plain m n) where
  flags_good : bad_flags m.cpu ≡ false
  unfolding bad_flags
  flags_good = let z : m.cpu.flags.s_flag ≡ 4 = eqb-true _ 4 h.supervisor in rw (z, h.m_is_lem)

  base_good : odd_base m.cpu ≡ false
  unfolding odd_base checks_alignment vbr_of
  base_good = let z : m.cpu.flow.vbr % 2 ≡ 0 = eqb-true _ 0 h.base_even in rw z (go (is_pre68020 m.cpu.flow.cpu_type))
    where
      go : (t : Bool) → both t false ≡ false
      go true = refl
      go false = refl

  code_good : bad_code m.cpu ≡ false
  unfolding bad_code has_fc_override fc_override_of
  code_good =
      let l : m.cpu.fault.mmu_fc_override.value ≤ 7 = omega (arith, ltb-true m.cpu.fault.mmu_fc_override.value 8 h.code_small) in
      rw (le-ltb 7 m.cpu.fault.mmu_fc_override.value l) (go m.cpu.fault.mmu_fc_override.some)
    where
      go : (t : Bool) → both t false ≡ false
      go true = refl
      go false = refl

  store_good : bad_store true m.bus n ≡ false
  unfolding bad_store
  store_good =
      let l : n ≤ 65536 = leb-true n 65536 h.store_small in
      let k : m.bus.base + n ≤ 0x100000000 = leb-true (m.bus.base + n) 0x100000000 h.store_ends in
      rw (le-ltb 65536 n l, le-ltb 0x100000000 (m.bus.base + n) k)

  windows_good : bad_windows true m.bus ≡ false
  unfolding bad_windows any_past
  windows_good = let z : m.bus.windows ≡ 0 = eqb-true _ 0 h.windows_none in rw z

  kind_good : bad_kind false m.cpu ≡ false
  unfolding bad_kind kind_of
  kind_good =
      let l : m.cpu.flow.cpu_type ≤ 11 = omega (arith, ltb-true m.cpu.flow.cpu_type 12 h.kind_small) in
      rw (le-ltb 11 m.cpu.flow.cpu_type l)

  pub plain_refusal : refusal m n ≡ 0
  unfolding refusal refusal_of tests_of first_number bad_cycles short_log bad_vector
  plain_refusal = rw (flags_good, base_good, code_good, store_good, windows_good, kind_good)

  pub plain_supervisor : in_user m.cpu ≡ false
  unfolding in_user
  plain_supervisor = let z : m.cpu.flags.s_flag ≡ 4 = eqb-true _ 4 h.supervisor in rw z

  pub plain_windows : m.bus.windows ≡ 0
  plain_windows = eqb-true m.bus.windows 0 h.windows_none

-- a frame that is found is taken
found_taken : (s : List ℕ) (base k p : ℕ) → (found_of s base k p).frame.refused ≡ 0
unfolding found_of found_in found_word found_sized not_found taken_at refused_frame
found_taken s base k p =
    pick_holds (λ (x : Found). x.frame.refused ≡ 0) (p % 2 == 1) _ _ refl
    (pick_holds (λ (x : Found). x.frame.refused ≡ 0) (lies base (length s) k (byte_address k p 0) (head_of k)) _ _
    (pick_holds (λ (x : Found). x.frame.refused ≡ 0) (size_of k (format_at s (byte_address k p 0 - base) k) == 0) _ _ refl
    (pick_holds (λ (x : Found). x.frame.refused ≡ 0) (rest_lies base (length s) k (byte_address k p 0) (size_of k (format_at s (byte_address k p 0 - base) k)) (head_of k)) _ _ refl refl))
    refl)

lost : (q : Found) → q.ok ≡ false → (found_patch q).ok ≡ true → false ≡ true
unfolding found_patch no_patch
lost q a b = rw a at b

-- the return by a frame that was found
goes : (m : Core) (s : List ℕ) (q : Found) → Plain m (length s) → q.frame ≡ frame_of (sight (kind_of m.cpu) m.bus s) (a7_of m.cpu) → q.frame.refused ≡ 0 → (t u : Bool) → q.ok ≡ t → (q.frame.format == 1) ≡ u
    → (found_patch q).ok ≡ true → return_from m s ≡ patch_returned m (found_patch q)
unfolding found_patch no_patch return_from returned back first_back done_back done_patch patch_returned patch_back
goes m s q h e z false u x y o = no (rw x at o)
goes m s q h e z true true x y o = no (rw (x, y) at o)
goes m s q h e z true false x y o = rw (x, y, plain_refusal m (length s) h, plain_supervisor m (length s) h, sym e, z, y)

pub try_goes : (m : Core) (s : List ℕ) → accepts m (length s) ≡ true → (q : Found) → q ≡ found_of s m.bus.base (kind_of m.cpu) (a7_of m.cpu) → (found_patch q).ok ≡ true → return_from m s ≡ patch_returned m (found_patch q)
try_goes m s e q f o = go q.ok refl
  where
    h : Plain m (length s)
    h = plain_means m (length s) e

    z : q.frame.refused ≡ 0
    z = ap (λ (x : Found). x.frame.refused) f ∙ found_taken s m.bus.base (kind_of m.cpu) (a7_of m.cpu)

    frame : q.ok ≡ true → q.frame ≡ frame_of (sight (kind_of m.cpu) m.bus s) (a7_of m.cpu)
    frame y =
        ap (λ (x : Found). x.frame) f
        ∙ found_frame s m.bus (kind_of m.cpu) (a7_of m.cpu) (plain_windows m (length s) h) (sym (ap (λ (x : Found). x.ok) f) ∙ y)

    go : (t : Bool) → q.ok ≡ t → return_from m s ≡ patch_returned m (found_patch q)
    go true y = goes m s q h (frame y) z true (q.frame.format == 1) y refl o
    go false y = no (lost q y o)
