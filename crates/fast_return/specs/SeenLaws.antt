-- A frame taken off the stack in use: what is kept of the record after it, and the record after it with every index written out.
use Rattle.std.specs.Prelude.{◌≡◌, ℕ, ◌+◌, ◌*◌, ◌/◌, ◌%◌, ◌^◌, ◌<◌, Bool, true, false, ◌⊎◌, List, length, ◌==◌, slice_index, slice_index_or, slice_set}
use Rattle.std.proofs.Math.Path.{refl}
use Rattle.std.proofs.Common.{sym, inl, inr, arith, length-set, get_or-set_other}
use Rattle.std.proofs.lemmas.List.{set_comm, set-get_or}
use Rattle.std.proofs.Math.Seq.{set-set, get_or-set_same}
use Rattle.types.specs.Kinds.{pick, is060, mask_status}
use Rattle.cpu.specs.declared.Cpu.{Cpu}
use Rattle.cpu.specs.Groups.{with_regs, with_flags}
use Rattle.cpu.specs.Fields.{kind_of, a7_of, set_a7, set_pc}
use Rattle.cpu.specs.Clocks.{clear_prefetch}
use Rattle.status.specs.Status.{put_back_sr, decompose}
use Rattle.status.specs.Banks.{sp_index, backup_sp, restore_sp}
use Rattle.unwind.specs.Models.{Frame}
use Rattle.unwind.specs.Returns.{raise_a7, swap_sr, take_frame}
use Rattle.fast_return.specs.Seen.{seen, stack_of, bank_of, entered_seen, saved_seen, take_seen, banked_regs, back_flags}

-- an index of a saved pointer
abbrev Bank : ℕ → Type 0
Bank i = (i ≡ 0) ⊎ ((i ≡ 4) ⊎ (i ≡ 6))

three : (sp : List ℕ) (i v : ℕ) → Bank i → slice_set (slice_set (slice_set sp 0 (pick (i == 0) v (slice_index sp 0))) 4 (pick (i == 4) v (slice_index sp 4))) 6 (pick (i == 6) v (slice_index sp 6)) ≡ slice_set sp i v
three sp i v (inl e) = rw (e, set_comm sp 0 4 v (slice_index sp 4) (omega arith), set-get_or sp 4 0, set_comm sp 0 6 v (slice_index sp 6) (omega arith), set-get_or sp 6 0)
three sp i v (inr (inl e)) = rw (e, set-get_or sp 0 0, set_comm sp 4 6 v (slice_index sp 6) (omega arith), set-get_or sp 6 0)
three sp i v (inr (inr e)) = rw (e, set-get_or sp 0 0, set-get_or sp 4 0)

taken0 : (sp : List ℕ) (i v : ℕ) → 7 < length sp → Bank i → pick (i == 0) v (slice_index sp 0) ≡ slice_index (slice_set sp i v) 0
taken0 sp i v h (inl e) = rw e (sym (get_or-set_same sp 0 v 0 (omega arith)))
taken0 sp i v h (inr (inl e)) = rw e (sym (get_or-set_other sp 4 0 v 0 (omega arith)))
taken0 sp i v h (inr (inr e)) = rw e (sym (get_or-set_other sp 6 0 v 0 (omega arith)))

taken4 : (sp : List ℕ) (i v : ℕ) → 7 < length sp → Bank i → pick (i == 4) v (slice_index sp 4) ≡ slice_index (slice_set sp i v) 4
taken4 sp i v h (inl e) = rw e (sym (get_or-set_other sp 0 4 v 0 (omega arith)))
taken4 sp i v h (inr (inl e)) = rw e (sym (get_or-set_same sp 4 v 0 (omega arith)))
taken4 sp i v h (inr (inr e)) = rw e (sym (get_or-set_other sp 6 4 v 0 (omega arith)))

taken6 : (sp : List ℕ) (i v : ℕ) → 7 < length sp → Bank i → pick (i == 6) v (slice_index sp 6) ≡ slice_index (slice_set sp i v) 6
taken6 sp i v h (inl e) = rw e (sym (get_or-set_other sp 0 6 v 0 (omega arith)))
taken6 sp i v h (inr (inl e)) = rw e (sym (get_or-set_other sp 4 6 v 0 (omega arith)))
taken6 sp i v h (inr (inr e)) = rw e (sym (get_or-set_same sp 6 v 0 (omega arith)))

bank_in : (l : List ℕ) (j : ℕ) → Bank j → bank_of j (slice_index l 0) (slice_index l 4) (slice_index l 6) ≡ slice_index l j
unfolding bank_of
bank_in l j (inl e) = rw e
bank_in l j (inr (inl e)) = rw e
bank_in l j (inr (inr e)) = rw e

bank_of_lem : (k s m : ℕ) → Bank (stack_of k s m)
unfolding stack_of
bank_of_lem k s m = go (s == 0) (is060 k) (m == 0)
  where
    go : (s k m : Bool) → Bank (pick s 0 (pick k 4 (pick m 4 6)))
    go true k m = inl refl
    go false true m = inr (inl refl)
    go false false true = inr (inl refl)
    go false false false = inr (inr refl)

s_back : (x : ℕ) → x % 2 * 4 / 4 % 2 ≡ x % 2
s_back x = omega arith

m_back : (x : ℕ) → x % 2 * 2 / 2 % 2 ≡ x % 2
m_back x = omega arith

module _ (c : Cpu) (f : Frame) where
  index_before : sp_index (raise_a7 c f.size) ≡ stack_of (kind_of c) (seen c).s (seen c).m
  unfolding sp_index stack_of raise_a7 set_a7 kind_of seen
  index_before = refl

  index_after : sp_index (put_back_sr (backup_sp (raise_a7 c f.size)) f.status) ≡ stack_of (kind_of c) (mask_status (kind_of c) f.status / 0x2000 % 2) (mask_status (kind_of c) f.status / 0x1000 % 2)
  unfolding sp_index stack_of put_back_sr backup_sp raise_a7 set_a7 kind_of decompose
  index_after = rw (s_back (mask_status (kind_of c) f.status / 0x2000), m_back (mask_status (kind_of c) f.status / 0x1000))

module _ (c : Cpu) (f : Frame) (n : 15 < length c.regs.dar) (m : 7 < length c.regs.sp) where
  up : slice_index_or (slice_set c.regs.dar 15 ((slice_index c.regs.dar 15 + f.size) % 2 ^ 32)) 15 0 ≡ (slice_index c.regs.dar 15 + f.size) % 2 ^ 32
  up = get_or-set_same c.regs.dar 15 ((slice_index c.regs.dar 15 + f.size) % 2 ^ 32) 0 n

  -- with every index written out it is the record after the frame
  pub banked_take : with_flags (with_regs (clear_prefetch (set_pc c f.address)) (banked_regs c.regs (take_seen (kind_of c) (seen c) f))) (back_flags (kind_of c) c.flags f.status) ≡ take_frame c f
  unfolding take_frame clear_prefetch set_pc swap_sr restore_sp backup_sp raise_a7 set_a7 a7_of put_back_sr kind_of seen take_seen saved_seen entered_seen banked_regs back_flags
  banked_take =
      let i : ℕ = stack_of (kind_of c) (seen c).s (seen c).m in
      let v : ℕ = (slice_index c.regs.dar 15 + f.size) % 2 ^ 32 in
      let w : ℕ = mask_status (kind_of c) f.status in
      rw (
        index_after c f,
        index_before c f,
        up,
        three c.regs.sp i v (bank_of_lem (kind_of c) (seen c).s (seen c).m),
        taken0 c.regs.sp i v m (bank_of_lem (kind_of c) (seen c).s (seen c).m),
        taken4 c.regs.sp i v m (bank_of_lem (kind_of c) (seen c).s (seen c).m),
        taken6 c.regs.sp i v m (bank_of_lem (kind_of c) (seen c).s (seen c).m),
        bank_in (slice_set c.regs.sp i v) (stack_of (kind_of c) (w / 0x2000 % 2) (w / 0x1000 % 2)) (bank_of_lem (kind_of c) (w / 0x2000 % 2) (w / 0x1000 % 2)),
        set-set c.regs.dar 15,
      )

  -- and what is kept of it follows from what was kept before
  pub seen_take : seen (take_frame c f) ≡ take_seen (kind_of c) (seen c) f
  unfolding take_frame clear_prefetch set_pc swap_sr restore_sp backup_sp raise_a7 set_a7 a7_of put_back_sr kind_of seen take_seen saved_seen entered_seen decompose
  seen_take =
      let i : ℕ = stack_of (kind_of c) (seen c).s (seen c).m in
      let v : ℕ = (slice_index c.regs.dar 15 + f.size) % 2 ^ 32 in
      let w : ℕ = mask_status (kind_of c) f.status in
      let l : 15 < length (slice_set c.regs.dar 15 v) = rw (length-set c.regs.dar 15 v) n in
      rw (
        index_after c f,
        index_before c f,
        up,
        taken0 c.regs.sp i v m (bank_of_lem (kind_of c) (seen c).s (seen c).m),
        taken4 c.regs.sp i v m (bank_of_lem (kind_of c) (seen c).s (seen c).m),
        taken6 c.regs.sp i v m (bank_of_lem (kind_of c) (seen c).s (seen c).m),
        bank_in (slice_set c.regs.sp i v) (stack_of (kind_of c) (w / 0x2000 % 2) (w / 0x1000 % 2)) (bank_of_lem (kind_of c) (w / 0x2000 % 2) (w / 0x1000 % 2)),
        s_back (w / 0x2000),
        m_back (w / 0x1000),
        get_or-set_same (slice_set c.regs.dar 15 v) 15 (slice_index (slice_set c.regs.sp i v) (stack_of (kind_of c) (w / 0x2000 % 2) (w / 0x1000 % 2))) 0 l,
      )
