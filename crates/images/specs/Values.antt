-- Every value of an error frame fits its field, so that each is read back whole.
use Rattle.std.specs.Prelude.{ℕ, zero, suc, ◌+◌, ◌-◌, ◌*◌, ◌/◌, ◌%◌, ◌^◌, ◌≤◌, ◌<◌, Bool, true, false, List, [], ◌∷◌, ◌++◌, eqb, length, get_or, replicate}
use Rattle.std.proofs.Common.{arith, lt-ltb}
use Rattle.types.specs.Kinds.{pick, is_pre68020, is040, is060}
use Rattle.cpu.specs.declared.Cpu.{Cpu}
use Rattle.cpu.specs.Fields.{kind_of, ppc_of, wdata_of, has_fc_override, fc_override_of}
use Rattle.status.specs.Status.{get_sr, compose}
use Rattle.memory.specs.ByteLaws.{Fits}
use Rattle.frames.specs.declared.Field.{Field}
use Rattle.frames.specs.declared.Frame.{Frame}
use Rattle.frames.specs.Frames.{word, framed, gap_word, field_at, frame68000, frame8, frame2, frame0, frame4, frame7, frame11, write_data, address_frame, bus_frame}
use Rattle.frames.specs.Codes.{function_code, is_supervisor, state_code, fault_code, fault_word, size020, ssw020, is_cause, size040, ssw040, wb3s, cause_bit, size060, fslw060}

-- each value of a frame fits its field
abbrev pub AllFit : Frame → Type 0
AllFit f = (i : ℕ) → i < f.count → Fits (field_at f i).long (field_at f i).value

data Every : List Field → Type 0 where
  done : Every []
  more : {g : Field} {fs : List Field} → Fits g.long g.value → Every fs → Every (g ∷ fs)

at_fits : (fs r : List Field) → Every fs → (i : ℕ) → i < length fs → Fits (get_or (fs ++ r) i (word 0)).long (get_or (fs ++ r) i (word 0)).value
at_fits [] r h i l = absurd (omega arith)
at_fits (g ∷ fs) r (more x h) zero l = x
at_fits (g ∷ fs) r (more x h) (suc i) l = at_fits fs r h i (omega arith)

framed_fits : (fs : List Field) → length fs ≤ 28 → Every fs → AllFit (framed fs)
unfolding field_at
framed_fits fs n h i l = rw (lt-ltb i 28 (omega arith)) (at_fits fs (replicate (28 - length fs) gap_word) h i l)

fits_68000 : (sr ppc ir a st : ℕ) → sr < 0x10000 → ppc < 2 ^ 32 → ir < 0x10000 → a < 2 ^ 32 → st < 0x10000 → AllFit (frame68000 sr ppc ir a st)
unfolding frame68000
fits_68000 sr ppc ir a st h0 h1 h2 h3 h4 = framed_fits _ (omega arith) (more (omega arith) (more (omega arith) (more (omega arith) (more (omega arith) (more (omega arith) done)))))

fits_8 : (sr ppc v : ℕ) → sr < 0x10000 → ppc < 2 ^ 32 → v < 0x10000 → AllFit (frame8 sr ppc v)
unfolding frame8
fits_8 sr ppc v h0 h1 h2 = framed_fits _ (omega arith) (more (omega arith) (more (omega arith) (more (omega arith) (more (omega arith) (more (omega arith) (more (omega arith) (more (omega arith) (more (omega arith) (more (omega arith) (more (omega arith) (more (omega arith) (more (omega arith) (more (omega arith) (more (omega arith) (more (omega arith) (more (omega arith) (more (omega arith) (more (omega arith) (more (omega arith) done)))))))))))))))))))

fits_2 : (sr ppc a : ℕ) → sr < 0x10000 → ppc < 2 ^ 32 → a < 2 ^ 32 → AllFit (frame2 sr ppc a)
unfolding frame2
fits_2 sr ppc a h0 h1 h2 = framed_fits _ (omega arith) (more (omega arith) (more (omega arith) (more (omega arith) (more (omega arith) done))))

fits_0 : (sr ppc : ℕ) → sr < 0x10000 → ppc < 2 ^ 32 → AllFit (frame0 sr ppc)
unfolding frame0
fits_0 sr ppc h0 h1 = framed_fits _ (omega arith) (more (omega arith) (more (omega arith) (more (omega arith) done)))

fits_4 : (sr ppc a s : ℕ) → sr < 0x10000 → ppc < 2 ^ 32 → a < 2 ^ 32 → s < 2 ^ 32 → AllFit (frame4 sr ppc a s)
unfolding frame4
fits_4 sr ppc a s h0 h1 h2 h3 = framed_fits _ (omega arith) (more (omega arith) (more (omega arith) (more (omega arith) (more (omega arith) (more (omega arith) done)))))

fits_7 : (sr ppc a s wb wba wbd : ℕ) → sr < 0x10000 → ppc < 2 ^ 32 → a < 2 ^ 32 → s < 0x10000 → wb < 0x10000 → wba < 2 ^ 32 → wbd < 2 ^ 32 → AllFit (frame7 sr ppc a s wb wba wbd)
unfolding frame7
fits_7 sr ppc a s wb wba wbd h0 h1 h2 h3 h4 h5 h6 = framed_fits _ (omega arith) (more (omega arith) (more (omega arith) (more (omega arith) (more (omega arith) (more (omega arith) (more (omega arith) (more (omega arith) (more (omega arith) (more (omega arith) (more (omega arith) (more (omega arith) (more (omega arith) (more (omega arith) (more (omega arith) (more (omega arith) (more (omega arith) (more (omega arith) (more (omega arith) done))))))))))))))))))

fits_11 : (sr ppc s x y z : ℕ) → sr < 0x10000 → ppc < 2 ^ 32 → s < 0x10000 → x < 2 ^ 32 → y < 2 ^ 32 → z < 2 ^ 32 → AllFit (frame11 sr ppc s x y z)
unfolding frame11
fits_11 sr ppc s x y z h0 h1 h2 h3 h4 h5 = framed_fits _ (omega arith) (more (omega arith) (more (omega arith) (more (omega arith) (more (omega arith) (more (omega arith) (more (omega arith) (more (omega arith) (more (omega arith) (more (omega arith) (more (omega arith) (more (omega arith) (more (omega arith) (more (omega arith) (more (omega arith) (more (omega arith) (more (omega arith) (more (omega arith) (more (omega arith) (more (omega arith) (more (omega arith) (more (omega arith) (more (omega arith) (more (omega arith) (more (omega arith) (more (omega arith) (more (omega arith) (more (omega arith) (more (omega arith) done))))))))))))))))))))))))))))

-- the status has 16 bits
pub status_fits : (c : Cpu) → get_sr c < 0x10000
unfolding get_sr compose
status_fits c = go (eqb c.flags.not_z_flag 0)
  where
    go : (t : Bool) → c.flags.t1_flag / 0x8000 % 2 * 0x8000 + c.flags.t0_flag / 0x4000 % 2 * 0x4000 + c.flags.s_flag / 4 % 2 * 0x2000 + c.flags.m_flag / 2 % 2 * 0x1000 + c.flags.int_mask / 256 % 8 * 256
        + (c.flags.x_flag / 256 % 2 * 16 + c.flags.n_flag / 128 % 2 * 8 + c.flags.v_flag / 128 % 2 * 2 + c.flags.c_flag / 256 % 2) + pick t 4 0 < 0x10000
    go true = omega arith
    go false = omega arith

code : (s i : Bool) → function_code s i < 8
unfolding function_code
code true true = omega arith
code true false = omega arith
code false true = omega arith
code false false = omega arith

fault_code_lem : (c : Cpu) (i : Bool) → fault_code c i < 8
unfolding fault_code state_code
fault_code_lem c i = go (has_fc_override c)
  where
    go : (t : Bool) → pick t (fc_override_of c % 8) (function_code (is_supervisor c) i) < 8
    go true = omega arith
    go false = code (is_supervisor c) i

choose : (t : Bool) (a b n : ℕ) → a < n → b < n → pick t a b < n
choose true a b n x y = x
choose false a b n x y = y

word_fits : (fc : ℕ) (w i : Bool) → fc < 8 → fault_word fc w i < 0x10000
unfolding fault_word
word_fits fc w i h = omega (arith, choose w 0 16 17 (omega arith) (omega arith), choose i 0 8 9 (omega arith) (omega arith))

size20 : (z : ℕ) → size020 z < 49
unfolding size020
size20 z = choose (eqb z 1) 16 _ 49 (omega arith) (choose (eqb z 2) 32 _ 49 (omega arith) (choose (eqb z 3) 48 0 49 (omega arith) (omega arith)))

size40 : (z : ℕ) → size040 z < 65
unfolding size040
size40 z = choose (eqb z 1) 32 _ 65 (omega arith) (choose (eqb z 2) 64 0 65 (omega arith) (omega arith))

size60 : (z : ℕ) → size060 z < 0x400001
unfolding size060
size60 z = choose (eqb z 1) 0x200000 _ 0x400001 (omega arith) (choose (eqb z 2) 0x400000 0 0x400001 (omega arith) (omega arith))

bit60 : (n : ℕ) (w : Bool) → cause_bit n w < 4097
unfolding cause_bit
bit60 n w =
    choose (eqb n 1) 0x1000 _ 4097 (omega arith) (choose (eqb n 2) 2048 _ 4097 (omega arith) (choose (eqb n 3) 1024 _ 4097 (omega arith) (choose (eqb n 4) 512 _ 4097 (omega arith)
    (choose (eqb n 5) 128 _ 4097 (omega arith) (choose (eqb n 6) 256 _ 4097 (omega arith) (choose (eqb n 7) 64 _ 4097 (omega arith) (choose w 16 32 4097 (omega arith) (omega arith))))))))

ssw20 : (fc : ℕ) (w i : Bool) (z : ℕ) → fc < 8 → ssw020 fc w i z < 0x10000
unfolding ssw020
ssw20 fc w i z h = choose i _ _ 0x10000 (omega arith) (omega (arith, choose w 0 64 65 (omega arith) (omega arith), size20 z))

ssw40 : (fc : ℕ) (w : Bool) (z n : ℕ) → fc < 8 → ssw040 fc w z n < 0x10000
unfolding ssw040
ssw40 fc w z n h = omega (arith, choose w 0 256 257 (omega arith) (omega arith), choose (is_cause n) 1024 0 1025 (omega arith) (omega arith), size40 z)

wb3 : (fc : ℕ) (w : Bool) (z : ℕ) → fc < 8 → wb3s fc w z < 0x10000
unfolding wb3s
wb3 fc w z h = choose w _ 0 0x10000 (omega (arith, size40 z)) (omega arith)

fslw : (w i : Bool) (z fc n : ℕ) → fslw060 w i z fc n < 2 ^ 32
unfolding fslw060
fslw w i z fc n = omega (arith, choose w 0x800000 0x1000000 16777217 (omega arith) (omega arith), size60 z, choose i 0x8000 0 0x8001 (omega arith) (omega arith), bit60 n w)

either_fits : (t : Bool) (x y : Frame) → AllFit x → AllFit y → AllFit (pick t x y)
either_fits true x y p q = p
either_fits false x y p q = q

module _ (c : Cpu) (a : ℕ) (write instruction : Bool) (hp : ppc_of c < 2 ^ 32) (ha : a < 2 ^ 32) where
  -- each value of a bus error frame fits its field
  pub bus_fits : (z cause : ℕ) → wdata_of c < 2 ^ 32 → AllFit (bus_frame c a write instruction z cause)
  unfolding bus_frame write_data
  bus_fits z cause hw =
      let s = status_fits c in
      let k = fault_code_lem c instruction in
      let o : (t : Bool) (x : ℕ) → x < 2 ^ 32 → pick t x 0 < 2 ^ 32 = λ t x l. choose t x 0 (2 ^ 32) l (omega arith) in
      either_fits (eqb (kind_of c) 1) _ _ (fits_68000 _ _ _ _ _ s hp (omega arith) ha (word_fits _ write instruction k))
      (either_fits (is_pre68020 (kind_of c)) _ _ (fits_8 _ _ 0x8008 s hp (omega arith))
      (either_fits (is060 (kind_of c)) _ _ (fits_4 _ _ _ _ s hp ha (fslw write instruction z _ cause))
      (either_fits (is040 (kind_of c)) _ _ (fits_7 _ _ _ _ _ _ _ s hp ha (ssw40 _ write z cause k) (wb3 _ write z k) (o write a ha) (o write (wdata_of c) hw))
      (fits_11 _ _ _ _ _ _ s hp (ssw20 _ write instruction z k) (choose instruction 0 a (2 ^ 32) (omega arith) ha) (o write (wdata_of c) hw) (o instruction a ha)))))

  -- each value of an address error frame fits its field
  pub address_fits : AllFit (address_frame c a write instruction)
  unfolding address_frame state_code
  address_fits =
      let s = status_fits c in
      either_fits (eqb (kind_of c) 1) _ _ (fits_68000 _ _ _ _ _ s hp (omega arith) ha (word_fits _ write instruction (code (is_supervisor c) instruction)))
      (either_fits (is_pre68020 (kind_of c)) _ _ (fits_8 _ _ 0x800C s hp (omega arith))
      (either_fits (is040 (kind_of c)) _ _ (fits_2 _ _ _ s hp (omega arith)) (fits_0 _ _ s hp)))
