-- Theorems about what specs/Laws defines, and what rests on them.
use Rattle.std.specs.Prelude.{◌≡◌, ℕ, zero, suc, ◌+◌, ◌-◌, ◌*◌, ◌/◌, ◌%◌, ◌≤◌, ◌<◌, eqb, length, get_or}
use Rattle.std.proofs.Math.Path.{refl, ap}
use Rattle.std.proofs.Common.{sym, ◌∙◌, subst, add_assoc, mul-div_cancel, arith, lit<, lit≤, get_or-set_same, set-set}
use mathlib.Core.List.{List}
use Rattle.std.proofs.Math.ListN.{set}
use Rattle.std.proofs.lemmas.List.{set-get_or}
use Rattle.types.specs.Kinds.{pick, is060, mask_status}
use Rattle.types.specs.Laws.{Parts}
use Rattle.types.proofs.Laws.{pick_holds, packed, masked_status_parts, masked_status_sum}
use Rattle.cpu.specs.declared.Flags.{Flags}
use Rattle.cpu.specs.declared.Cpu.{Cpu}
use Rattle.cpu.specs.Groups.{with_regs, with_flags}
use Rattle.cpu.specs.Fields.{kind_of, a7_of}
use Rattle.status.specs.Status.{compose, get_sr, decompose, s_of, m_of, m_under_s, set_sr_noint_nosp, put_back_sr, clear_trace}
use Rattle.status.specs.Banks.{sp_index, backup_sp, restore_sp, put_s, set_sm_flag_nosp, set_sflag, set_sm_flag, enter_supervisor}
use Rattle.cpu.specs.Fresh.{fresh_cpu, fresh_flags}
use Rattle.status.specs.Laws.{Codes, Tidy, drop_m}

-- ---- the status register

-- Z, stored as its opposite and read back
z_back : (b : ℕ) → b < 2 → pick (eqb (1 - b) 0) 4 0 ≡ b * 4
z_back zero l = refl
z_back (suc zero) l = refl
z_back (suc (suc b)) l = absurd (omega arith)

-- a bit, stored at a weight and read back
bit_back : (x n : ℕ) → 0 < n → x % 2 * n / n % 2 ≡ x % 2
bit_back x n l = rw (mul-div_cancel (x % 2) l) (omega arith)

level_back : (i : ℕ) → i < 8 → i * 256 / 256 % 8 ≡ i
level_back i l = omega arith

-- the condition codes, bit by bit
codes_back : (w : ℕ) → w / 16 % 2 * 16 + w / 8 % 2 * 8 + w / 2 % 2 * 2 + w % 2 + w / 4 % 2 * 4 ≡ w % 32
codes_back w =
    sum (w % 2) (w / 2 % 2) (w / 4 % 2) (w / 8 % 2) (w / 16 % 2) (w % 4) (w % 8) (w % 16) (w % 32) (omega arith) (omega arith) (omega arith) (omega arith)
  where
    sum : (b0 b1 b2 b3 b4 w2 w3 w4 w5 : ℕ) → w2 ≡ b1 * 2 + b0 → w3 ≡ b2 * 4 + w2 → w4 ≡ b3 * 8 + w3 → w5 ≡ b4 * 16 + w4 → b4 * 16 + b3 * 8 + b1 * 2 + b0 + b2 * 4 ≡ w5
    sum b0 b1 b2 b3 b4 w2 w3 w4 w5 e2 e3 e4 e5 = omega arith

-- the status of flags that were taken from a status w, with S and M given
composed : (f : Flags) (w s m : ℕ) → compose (decompose f w s m) ≡ w / 0x8000 % 2 * 0x8000 + w / 0x4000 % 2 * 0x4000 + s / 4 % 2 * 0x2000 + m / 2 % 2 * 0x1000 + w / 256 % 8 * 256 + w % 32
unfolding compose decompose
composed f w s m =
    rw (
      bit_back (w / 0x8000) 0x8000 (lit< tt),
      bit_back (w / 0x4000) 0x4000 (lit< tt),
      bit_back (w / 16) 256 (lit< tt),
      bit_back (w / 8) 128 (lit< tt),
      bit_back (w / 2) 128 (lit< tt),
      bit_back w 256 (lit< tt),
      z_back (w / 4 % 2) (omega arith),
      level_back (w / 256 % 8) (omega arith),
      add_assoc _ (w / 16 % 2 * 16 + w / 8 % 2 * 8 + w / 2 % 2 * 2 + w % 2) (w / 4 % 2 * 4),
      codes_back w,
    )

-- a status put back by a return reads as that status under the kind's mask
pub status_back : (c : Cpu) (sr : ℕ) → get_sr (put_back_sr c sr) ≡ mask_status (kind_of c) sr
unfolding get_sr put_back_sr
status_back c sr =
    let v : ℕ = mask_status (kind_of c) sr in
    composed c.flags v (s_of v) (m_of v) ∙ rw (bit_back (v / 0x2000) 4 (lit< tt), bit_back (v / 0x1000) 2 (lit< tt)) (masked_status_sum (kind_of c) sr)

m_dropped : (s m w x y z : ℕ) → s < 2 → m < 2 → x + m * 0x1000 + y + z ≡ w → x + pick (eqb (s * 4) 0) 0 (m * 2) / 2 % 2 * 0x1000 + y + z ≡ pick (eqb s 0) (w - m * 0x1000) w
m_dropped zero m w x y z l d e = omega arith
m_dropped (suc zero) m w x y z l d e = omega arith
m_dropped (suc (suc s)) m w x y z l d e = absurd (omega arith)

-- a status set by `set_sr_noint_nosp` reads as that status under the kind's mask, with M dropped where S is clear
pub status_restored : (c : Cpu) (sr : ℕ) → get_sr (set_sr_noint_nosp c sr) ≡ drop_m (mask_status (kind_of c) sr)
unfolding get_sr set_sr_noint_nosp m_under_s drop_m
status_restored c sr =
    let v : ℕ = mask_status (kind_of c) sr in
    composed c.flags v (s_of v) (m_under_s v)
    ∙ rw (bit_back (v / 0x2000) 4 (lit< tt)) (m_dropped (v / 0x2000 % 2) (v / 0x1000 % 2) v _ _ _ (omega arith) (omega arith) (masked_status_sum (kind_of c) sr))

-- so in supervisor state it is the status under the mask
pub status_restored_supervisor : (c : Cpu) (sr : ℕ) → sr / 0x2000 % 2 ≡ 1 → get_sr (set_sr_noint_nosp c sr) ≡ mask_status (kind_of c) sr
unfolding drop_m
status_restored_supervisor c sr h = status_restored c sr ∙ rw ((masked_status_parts (kind_of c) sr).s_bit_lem, h)

-- and in user state its M is clear
pub status_restored_user : (c : Cpu) (sr : ℕ) → sr / 0x2000 % 2 ≡ 0 → get_sr (set_sr_noint_nosp c sr) / 0x1000 % 2 ≡ 0
unfolding drop_m
status_restored_user c sr h = rw (status_restored, (masked_status_parts (kind_of c) sr).s_bit_lem, h) (omega arith)

-- a bit at its weight
at_weight : (x n : ℕ) → 0 < n → x % 2 * n / n % 2 * n ≡ x % 2 * n
at_weight x n l = ap (λ (b : ℕ). b * n) (bit_back x n l)

tidy_decompose : (f : Flags) (w s m : ℕ) → s / 4 % 2 * 4 ≡ s → m / 2 % 2 * 2 ≡ m → Tidy (decompose f w s m)
unfolding decompose
tidy_decompose f w s m p q =
    record {
      t1_bit = at_weight (w / 0x8000) 0x8000 (lit< tt);
      t0_bit = at_weight (w / 0x4000) 0x4000 (lit< tt);
      s_bit_lem = p;
      m_bit_lem = q;
      level = ap (λ (i : ℕ). i * 256) (level_back (w / 256 % 8) (omega arith));
      x_bit = at_weight (w / 16) 256 (lit< tt);
      n_bit = at_weight (w / 8) 128 (lit< tt);
      z_bit = omega arith;
      v_bit = at_weight (w / 2) 128 (lit< tt);
      c_bit = at_weight w 256 (lit< tt);
    }

-- flags that a return has put back are tidy
pub tidy_back : (c : Cpu) (sr : ℕ) → Tidy (put_back_sr c sr).flags
unfolding put_back_sr
tidy_back c sr =
    let v : ℕ = mask_status (kind_of c) sr in
    tidy_decompose c.flags v (s_of v) (m_of v) (at_weight (v / 0x2000) 4 (lit< tt)) (at_weight (v / 0x1000) 2 (lit< tt))

-- flags that `set_sr_noint_nosp` has set are tidy
pub tidy_restored : (c : Cpu) (sr : ℕ) → Tidy (set_sr_noint_nosp c sr).flags
unfolding set_sr_noint_nosp m_under_s
tidy_restored c sr =
    let v : ℕ = mask_status (kind_of c) sr in
    tidy_decompose c.flags v (s_of v) (m_under_s v) (at_weight (v / 0x2000) 4 (lit< tt))
    (pick_holds (λ (m : ℕ). m / 2 % 2 * 2 ≡ m) (eqb (s_of v) 0) 0 (m_of v) refl (at_weight (v / 0x1000) 2 (lit< tt)))

-- the flags of a fresh record are tidy
pub tidy_fresh : Tidy fresh_flags
unfolding fresh_flags
tidy_fresh =
    record { t1_bit = refl; t0_bit = refl; s_bit_lem = refl; m_bit_lem = refl; level = refl; x_bit = refl; n_bit = refl; z_bit = lit≤ tt; v_bit = refl; c_bit = refl }

-- and its status is 0x2700
pub status_fresh : (k : ℕ) → get_sr (fresh_cpu k) ≡ 0x2700
unfolding get_sr compose fresh_cpu fresh_flags
status_fresh k = refl

-- the parts of the status of any flags
composed_parts : (f : Flags) → Parts (compose f) (f.t1_flag / 0x8000 % 2) (f.t0_flag / 0x4000 % 2) (f.s_flag / 4 % 2) (f.m_flag / 2 % 2) (f.int_mask / 256 % 8) (f.x_flag / 256 % 2 * 16 + f.n_flag / 128 % 2 * 8 + f.v_flag / 128 % 2 * 2 + f.c_flag / 256 % 2 + pick (eqb f.not_z_flag 0) 4 0)
unfolding compose
composed_parts f =
    rw (add_assoc _ (f.x_flag / 256 % 2 * 16 + f.n_flag / 128 % 2 * 8 + f.v_flag / 128 % 2 * 2 + f.c_flag / 256 % 2) (pick (eqb f.not_z_flag 0) 4 0))
    (packed _ _ _ _ _ _ (omega arith) (omega arith) (omega arith) (omega arith) (omega arith)
    (pick_holds (λ (z : ℕ). f.x_flag / 256 % 2 * 16 + f.n_flag / 128 % 2 * 8 + f.v_flag / 128 % 2 * 2 + f.c_flag / 256 % 2 + z < 32) (eqb f.not_z_flag 0) 4 0 (omega arith) (omega arith)))

codes_of : (w x n z v c : ℕ) → x < 2 → n < 2 → z < 2 → v < 2 → c < 2 → w % 32 ≡ x * 16 + n * 8 + v * 2 + c + z * 4 → Codes w x n z v c
codes_of w x n z v c l1 l2 l3 l4 l5 e =
    record { x_bit = omega arith; n_bit = omega arith; z_bit = omega arith; v_bit = omega arith; c_bit = omega arith }

z_weight : (n : ℕ) → n ≤ 1 → pick (eqb n 0) 4 0 ≡ (1 - n) * 4
z_weight zero l = refl
z_weight (suc zero) l = refl
z_weight (suc (suc n)) l = absurd (omega arith)

-- tidy flags are those of their own status
pub own_flags : (f : Flags) → Tidy f → decompose f (compose f) f.s_flag f.m_flag ≡ f
unfolding decompose
own_flags f h =
    let p : _ = composed_parts f in
    let q : Codes (compose f) (f.x_flag / 256 % 2) (f.n_flag / 128 % 2) (1 - f.not_z_flag) (f.v_flag / 128 % 2) (f.c_flag / 256 % 2)
    = codes_of _ _ _ _ _ _ (omega arith) (omega arith) (omega arith) (omega arith) (omega arith) (p.codes ∙ rw (z_weight f.not_z_flag h.z_bit)) in
    let z : 1 - compose f / 4 % 2 ≡ f.not_z_flag = rw q.z_bit (omega (arith, h.z_bit)) in
    λ i. record {
      t1_flag = (ap (λ (b : ℕ). b * 0x8000) p.t1_bit ∙ h.t1_bit) i;
      t0_flag = (ap (λ (b : ℕ). b * 0x4000) p.t0_bit ∙ h.t0_bit) i;
      s_flag = f.s_flag;
      m_flag = f.m_flag;
      x_flag = (ap (λ (b : ℕ). b * 256) q.x_bit ∙ h.x_bit) i;
      n_flag = (ap (λ (b : ℕ). b * 128) q.n_bit ∙ h.n_bit) i;
      not_z_flag = z i;
      v_flag = (ap (λ (b : ℕ). b * 128) q.v_bit ∙ h.v_bit) i;
      c_flag = (ap (λ (b : ℕ). b * 256) q.c_bit ∙ h.c_bit) i;
      int_mask = (ap (λ (b : ℕ). b * 256) p.level ∙ h.level) i;
      int_level = f.int_level;
      sr_save = f.sr_save;
    }

-- a record with tidy flags and a status inside its mask: putting its own status back changes nothing
pub tidy_status : (c : Cpu) → Tidy c.flags → mask_status (kind_of c) (get_sr c) ≡ get_sr c → put_back_sr c (get_sr c) ≡ c
unfolding put_back_sr get_sr
tidy_status c h e =
    let p : _ = composed_parts c.flags in
    rw (e, p.s_bit_lem, p.m_bit_lem, h.s_bit_lem, h.m_bit_lem, own_flags c.flags h)

-- ---- the stacks

index_small : (c : Cpu) → sp_index c < 8
unfolding sp_index
index_small c =
    pick_holds P (eqb (c.flags.s_flag / 4 % 2) 0) _ _ (lit< tt)
    (pick_holds P (is060 c.flow.cpu_type) _ _ (lit< tt) (pick_holds P (eqb (c.flags.m_flag / 2 % 2) 0) _ _ (lit< tt) (lit< tt)))
  where
    P : ℕ → Type 0
    P n = n < 8

-- a flag that is 0 or its weight
by_flag : (P : ℕ → Type 0) (b n x : ℕ) → b < 2 → b * n ≡ x → P 0 → P n → P x
by_flag P zero n x l e p q = subst P (omega arith) p
by_flag P (suc zero) n x l e p q = subst P (omega arith) q
by_flag P (suc (suc b)) n x l e p q = absurd (omega arith)

-- what holds of the four values of S and M holds of every S and M that are tidy
by_state : (P : ℕ → ℕ → Type 0) → P 0 0 → P 0 2 → P 4 0 → P 4 2 → (s m : ℕ) → s / 4 % 2 * 4 ≡ s → m / 2 % 2 * 2 ≡ m → P s m
by_state P p00 p02 p40 p42 s m e f =
    by_flag (λ (x : ℕ). P x m) (s / 4 % 2) 4 s (omega arith) e
    (by_flag (P 0) (m / 2 % 2) 2 m (omega arith) f p00 p02)
    (by_flag (P 4) (m / 2 % 2) 2 m (omega arith) f p40 p42)

-- to switch stacks: A7 is saved, the flags are f, A7 is loaded
switched : Cpu → Flags → Cpu
switched c f = restore_sp (with_flags (backup_sp c) f)

-- a stack saved and loaded at one place
module _ (dar sp : List ℕ) (i : ℕ) (n : length dar ≡ 16) (m : length sp ≡ 8) (l : i < 8) where
  saved_loaded : set dar 15 (get_or (set sp i (get_or dar 15 0)) i 0) ≡ dar
  saved_loaded = rw (get_or-set_same sp i (get_or dar 15 0) 0 (omega arith), set-get_or dar 15 0)

  -- and at another place in between, j
  away : (j : ℕ) → set (set sp i (get_or dar 15 0)) j (get_or (set dar 15 (get_or (set sp i (get_or dar 15 0)) j 0)) 15 0) ≡ set sp i (get_or dar 15 0)
  away j = rw (get_or-set_same dar 15 (get_or (set sp i (get_or dar 15 0)) j 0) 0 (omega arith), set-get_or (set sp i (get_or dar 15 0)) j 0)

  and_back : (j : ℕ) → set (set dar 15 (get_or (set sp i (get_or dar 15 0)) j 0)) 15 (get_or (set (set sp i (get_or dar 15 0)) j (get_or (set dar 15 (get_or (set sp i (get_or dar 15 0)) j 0)) 15 0)) i 0) ≡ dar
  and_back j = rw (away j, set-set dar 15, saved_loaded)

module _ (c : Cpu) (n : length c.regs.dar ≡ 16) (m : length c.regs.sp ≡ 8) where
  stays : switched c c.flags ≡ backup_sp c
  unfolding switched restore_sp backup_sp sp_index
  stays = ap (λ (x : List ℕ). with_regs c (record { dar = x; dar_save = c.regs.dar_save; sp = set c.regs.sp (sp_index c) (get_or c.regs.dar 15 0) })) (saved_loaded c.regs.dar c.regs.sp (sp_index c) n m (index_small c))

  round_trip : (f : Flags) → switched (switched c f) c.flags ≡ backup_sp c
  unfolding switched restore_sp backup_sp sp_index
  round_trip f = λ k. with_regs c (record {
    dar = and_back c.regs.dar c.regs.sp (sp_index c) n m (index_small c) (sp_index (with_flags c f)) k;
    dar_save = c.regs.dar_save;
    sp = away c.regs.dar c.regs.sp (sp_index c) n m (index_small c) (sp_index (with_flags c f)) k;
  })

  -- `set_s_flag` to any state and back leaves every pointer as it was: A7 is now saved in the stack in use as well
  pub there_and_back : (v : ℕ) → set_sflag (set_sflag c v) c.flags.s_flag ≡ backup_sp c
  unfolding set_sflag put_s switched restore_sp backup_sp
  there_and_back v = round_trip (put_s c v).flags

  -- so A7 is as it was
  pub there_and_back_a7 : (v : ℕ) → a7_of (set_sflag (set_sflag c v) c.flags.s_flag) ≡ a7_of c
  unfolding a7_of backup_sp
  there_and_back_a7 v = ap a7_of (there_and_back v)

  -- the same of `set_sm_flag`, where S and M are tidy
  module _ (s : c.flags.s_flag / 4 % 2 * 4 ≡ c.flags.s_flag) (mm : c.flags.m_flag / 2 % 2 * 2 ≡ c.flags.m_flag) where
    pub there_and_back_sm : (v : ℕ) → set_sm_flag (set_sm_flag c v) (c.flags.s_flag + c.flags.m_flag) ≡ backup_sp c
    unfolding set_sm_flag set_sm_flag_nosp switched restore_sp backup_sp
    there_and_back_sm v =
        rw (
          by_state (λ (s m : ℕ). (s + m) / 4 % 2 * 4 ≡ s) refl refl refl refl c.flags.s_flag c.flags.m_flag s mm,
          by_state (λ (s m : ℕ). (s + m) / 2 % 2 * 2 ≡ m) refl refl refl refl c.flags.s_flag c.flags.m_flag s mm,
        ) (round_trip (set_sm_flag_nosp c v).flags)

    pub there_and_back_sm_a7 : (v : ℕ) → a7_of (set_sm_flag (set_sm_flag c v) (c.flags.s_flag + c.flags.m_flag)) ≡ a7_of c
    unfolding a7_of backup_sp
    there_and_back_sm_a7 v = ap a7_of (there_and_back_sm v)

  -- `set_s_flag` to the state in use only saves A7
  pub stays_put : set_sflag c c.flags.s_flag ≡ backup_sp c
  unfolding set_sflag put_s switched restore_sp backup_sp
  stays_put = stays

  -- an entry in supervisor state keeps A7
  pub enter_a7 : c.flags.s_flag ≡ 4 → a7_of (enter_supervisor c) ≡ a7_of c
  unfolding enter_supervisor clear_trace a7_of backup_sp
  enter_a7 h = ap (λ (v : ℕ). a7_of (set_sflag c v)) (sym h) ∙ ap a7_of stays_put

-- where S is 0 or 4 and M is 0 or 2, the index of the stack in use is the Rust's: S, and on any kind but 11 M more where S is set
pub sp_index_rust : (c : Cpu) → c.flags.s_flag / 4 % 2 * 4 ≡ c.flags.s_flag → c.flags.m_flag / 2 % 2 * 2 ≡ c.flags.m_flag → sp_index c ≡ pick (is060 (kind_of c)) c.flags.s_flag (c.flags.s_flag + c.flags.s_flag / 4 * c.flags.m_flag)
unfolding sp_index kind_of
sp_index_rust c =
    by_state (λ (s m : ℕ). pick (eqb (s / 4 % 2) 0) 0 (pick (is060 (kind_of c)) 4 (pick (eqb (m / 2 % 2) 0) 4 6)) ≡ pick (is060 (kind_of c)) s (s + s / 4 * m))
    user user refl refl c.flags.s_flag c.flags.m_flag
  where
    user : ◌≡◌ {A = ℕ} 0 (pick (is060 (kind_of c)) 0 0)
    user = pick_holds (λ (n : ℕ). 0 ≡ n) (is060 (kind_of c)) 0 0 refl refl
