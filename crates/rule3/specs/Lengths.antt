-- THE LENGTHS of the frames that the book is fed are the table's: by kind and format, 6 on the 68000. For every direct entry that is accepted,
-- but the 68000's error frames, and with no other premise.
use Rattle.std.specs.Prelude.{ℕ, ◌+◌, ◌/◌, ◌%◌, ◌<◌, ◌≡◌, Bool, true, false, cond, not, ◌&&◌, ◌||◌, List, [], ◌∷◌, eqb, leb, get_or, replicate}
use Rattle.std.proofs.Math.Path.{refl}
use Rattle.std.proofs.Common.{sym, ap, ◌∙◌, subst, arith, eqb-true}
use Rattle.types.specs.Every.{at}
use Rattle.types.specs.Kinds.{is060}
use Rattle.cpu.specs.declared.Cpu.{Cpu}
use Rattle.cpu.specs.Fields.{kind_of}
use Rattle.memory.specs.World.{World, cpu_of}
use Rattle.answers.specs.declared.Call.{Call}
use Rattle.answers.specs.declared.Call.TheVariants.{TakeException, Trap, TakeGroup2Exception, ExceptionChk, ExceptionZeroDivide, ExceptionPrivilege, ExceptionTrace, ExceptionAddressError, ExceptionBusError, TakeFpUnimp060, TakeFpDisabled060, TakeAlineException, TakeFlineException, TakeTrapException, TakeBkptException, TakeIllegalException, TriggerAddressError, TriggerBusError, CheckTrace, SetIrq, CheckInterrupts, CheckAndServiceInterrupts, Read16, Read32, Write16, Write32, Push16, Push32, PrefetchFirst, PrefetchSecond}
use Rattle.answers.specs.Matters.{matter_of}
use Rattle.calls.specs.Calls.{refusal}
use Rattle.forms.specs.Accepted.{accepted_vector, accepted_kind, accepted_floating}
use Rattle.nest.specs.View.{Frame, one, two, frames_of, lengths, frame_len, nonzero}
use Rattle.entered.specs.Paper.{made, word_for, length_for, frame_for, error_for, group_format, address_format, bus_format, acknowledge, vector_for, second_for, interrupt_for, paper}
use Rattle.entered.specs.Entered.{error_call}
use Rattle.entered.specs.Machines.{direct}

-- the length of a frame, by the table
abbrev pub Sized : ℕ → List Frame → Type 0
Sized k [] = Unit {0}
Sized k (f ∷ fs) = (f.len ≡ cond (eqb k 1) 6 (frame_len k (f.word / 0x1000))) × Sized k fs

-- a format that a kind makes has the table's length
unfoldable agrees : ℕ → ℕ → Bool
agrees k f = eqb k 1 || eqb (length_for f) (frame_len k f)

agrees_is : (k f : ℕ) → agrees k f ≡ true → eqb k 1 ≡ false → length_for f ≡ frame_len k f
unfolding agrees
agrees_is k f e h = eqb-true (length_for f) (frame_len k f) (go (eqb k 1) h e)
  where
    go : (b : Bool) → b ≡ false → (b || eqb (length_for f) (frame_len k f)) ≡ true → eqb (length_for f) (frame_len k f) ≡ true
    go true x y = let z : ◌≡◌ {A = ℕ} 0 1 = cc in absurd (omega arith)
    go false x y = y

module _ (k : ℕ) (l : k < 12) where
  short_agrees : agrees k 0 ≡ true
  unfolding agrees frame_len lengths
  short_agrees = at 0 (λ (i x : ℕ). agrees i 0) (replicate 12 0) refl k l

  group_agrees : agrees k (group_format k) ≡ true
  unfolding agrees frame_len lengths
  group_agrees = at 0 (λ (i x : ℕ). agrees i (group_format i)) (replicate 12 0) refl k l

  address_agrees : agrees k (address_format k) ≡ true
  unfolding agrees frame_len lengths
  address_agrees = at 0 (λ (i x : ℕ). agrees i (address_format i)) (replicate 12 0) refl k l

  bus_agrees : agrees k (bus_format k) ≡ true
  unfolding agrees frame_len lengths
  bus_agrees = at 0 (λ (i x : ℕ). agrees i (bus_format i)) (replicate 12 0) refl k l

-- ---- a frame of a format

word_format : (f v : ℕ) → v < 256 → word_for f v / 0x1000 ≡ f
word_format f v l = omega arith

module _ (c : Cpu) where
  abbrev k : ℕ
  k = c.flow.cpu_type

  abbrev Long : Frame → Type 0
  Long f = f.len ≡ cond (eqb k 1) 6 (frame_len k (f.word / 0x1000))

  -- not on the 68000
  longer : (f v a : ℕ) → v < 256 → agrees k f ≡ true → eqb k 1 ≡ false → Long (made c (length_for f) a (word_for f v))
  longer f v a l e h =
      agrees_is k f e h ∙ ap (frame_len k) (sym (word_format f v l)) ∙ sym (ap (λ (b : Bool). cond b 6 (frame_len k (word_for f v / 0x1000))) h)

  frame_long : (f v a : ℕ) → v < 256 → agrees k f ≡ true → Long (frame_for c f v a)
  frame_long f v a l e = go (eqb k 1) refl
    where
      go : (b : Bool) → eqb k 1 ≡ b → (cond b (made c 6 a 0) (made c (length_for f) a (word_for f v))).len ≡ cond (eqb k 1) 6 (frame_len k ((cond b (made c 6 a 0) (made c (length_for f) a (word_for f v))).word / 0x1000))
      go true h = sym (ap (λ (b : Bool). cond b 6 (frame_len k (0 / 0x1000))) h)
      go false h = longer f v a l e h

  error_long : (f v : ℕ) → v < 256 → agrees k f ≡ true → eqb k 1 ≡ false → Long (error_for c f v)
  error_long f v l e h = subst (λ (b : Bool). Long (cond b (made c 14 c.flow.ppc 0) (made c (length_for f) c.flow.ppc (word_for f v)))) (sym h) (longer f v c.flow.ppc l e h)

  second_long : (v : ℕ) → v < 256 → agrees k 1 ≡ true → eqb k 1 ≡ false → Long (second_for c v)
  second_long v l e h = agrees_is k 1 e h ∙ ap (frame_len k) (sym (word_format 1 v l)) ∙ sym (ap (λ (b : Bool). cond b 6 (frame_len k (word_for 1 v / 0x1000))) h)

-- kinds 3 to 9 take format 1, and are not the 68000
throwaway : (k : ℕ) → k < 12 → (leb 3 k && leb k 9) ≡ true → (agrees k 1 ≡ true) × (eqb k 1 ≡ false)
unfolding agrees frame_len lengths
throwaway k l = go (leb 3 k && leb k 9) (agrees k 1) (eqb k 1) (at 0 (λ (i x : ℕ). not (leb 3 i && leb i 9) || (agrees i 1 && not (eqb i 1))) (replicate 12 0) refl k l)
  where
    go : (a b d : Bool) → (not a || (b && not d)) ≡ true → a ≡ true → (b ≡ true) × (d ≡ false)
    go true true true e h = let z : ◌≡◌ {A = ℕ} 0 1 = cc in absurd (omega arith)
    go true true false e h = (refl, refl)
    go true false d e h = let z : ◌≡◌ {A = ℕ} 0 1 = cc in absurd (omega arith)
    go false b d e h = let z : ◌≡◌ {A = ℕ} 0 1 = cc in absurd (omega arith)

-- ---- every call

abbrev kind : World → ℕ
kind w = w.core.cpu.flow.cpu_type

kind_low : (w : World) (c : Call) → refusal w c ≡ 0 → kind w < 12
unfolding kind_of
kind_low w c r = accepted_kind w c r

floats : (w : World) (c : Call) → refusal w c ≡ 0 → (matter_of c).floating ≡ true → kind w ≡ 11
unfolding kind_of is060
floats w c r m = eqb-true (kind w) 11 (accepted_floating w c r m)

-- the 68060's two frames
six_long : (k n word : ℕ) → k ≡ 11 → n ≡ frame_len 11 (word / 0x1000) → n ≡ cond (eqb k 1) 6 (frame_len k (word / 0x1000))
six_long k n word e h = subst (λ (j : ℕ). n ≡ cond (eqb j 1) 6 (frame_len j (word / 0x1000))) (sym e) h

vector_low : (response level : ℕ) → level < 8 → acknowledge response level < 256
vector_low response level l = go (eqb response 0xFFFFFFFF)
  where
    go : (b : Bool) → cond b (24 + level) (response % 256) < 256
    go true = omega arith
    go false = omega arith

interrupt_sized : (w : World) → kind w < 12 → Sized (kind w) (frames_of (interrupt_for (cpu_of w) (vector_for (cpu_of w) w.core.bus)))
interrupt_sized w l = go (nonzero (cpu_of w).flags.m_flag) (leb 3 (kind w) && leb (kind w) 9) refl
  where
    v : ℕ
    v = vector_for (cpu_of w) w.core.bus

    low : v < 256
    low = vector_low (get_or w.core.bus.responses ((cpu_of w).flags.int_level % 8) 0) ((cpu_of w).flags.int_level % 8) (omega arith)

    under : Long (cpu_of w) (frame_for (cpu_of w) 0 v (cpu_of w).flow.pc)
    under = frame_long (cpu_of w) 0 v (cpu_of w).flow.pc low (short_agrees (kind w) l)

    go : (m t : Bool) → (leb 3 (kind w) && leb (kind w) 9) ≡ t
        → Sized (kind w) (frames_of (cond (m && t) (two (second_for (cpu_of w) v) (frame_for (cpu_of w) 0 v (cpu_of w).flow.pc)) (one (frame_for (cpu_of w) 0 v (cpu_of w).flow.pc))))
    go true true e = let h = throwaway (kind w) l e in (second_long (cpu_of w) v low h.0 h.1, (under, tt))
    go true false e = (under, tt)
    go false t e = (under, tt)

none_of : {A : Type 0} → false ≡ true → A
none_of e = let z : ◌≡◌ {A = ℕ} 0 1 = cc in absurd (omega arith)

pub lengths_are : (w : World) (c : Call) → direct c ≡ true → refusal w c ≡ 0 → (error_call c ≡ true → eqb (kind w) 1 ≡ false) → Sized (kind w) (frames_of (paper w c))
unfolding paper error_call matter_of frame_len lengths
lengths_are w (TakeException v) d r e = (frame_long (cpu_of w) 0 v _ (accepted_vector w (TakeException v) r) (short_agrees (kind w) (kind_low w (TakeException v) r)), tt)
lengths_are w (Trap n) d r e = (frame_long (cpu_of w) 0 (32 + n % 16) _ (omega arith) (short_agrees (kind w) (kind_low w (Trap n) r)), tt)
lengths_are w (TakeGroup2Exception v) d r e = (frame_long (cpu_of w) (group_format (kind w)) v _ (accepted_vector w (TakeGroup2Exception v) r) (group_agrees (kind w) (kind_low w (TakeGroup2Exception v) r)), tt)
lengths_are w ExceptionChk d r e = (frame_long (cpu_of w) (group_format (kind w)) 6 _ (omega arith) (group_agrees (kind w) (kind_low w ExceptionChk r)), tt)
lengths_are w ExceptionZeroDivide d r e = (frame_long (cpu_of w) (group_format (kind w)) 5 _ (omega arith) (group_agrees (kind w) (kind_low w ExceptionZeroDivide r)), tt)
lengths_are w ExceptionPrivilege d r e = (frame_long (cpu_of w) 0 8 _ (omega arith) (short_agrees (kind w) (kind_low w ExceptionPrivilege r)), tt)
lengths_are w ExceptionTrace d r e = (frame_long (cpu_of w) (group_format (kind w)) 9 _ (omega arith) (group_agrees (kind w) (kind_low w ExceptionTrace r)), tt)
lengths_are w (ExceptionAddressError a write instruction) d r e = (error_long (cpu_of w) (address_format (kind w)) 3 (omega arith) (address_agrees (kind w) (kind_low w (ExceptionAddressError a write instruction) r)) (e refl), tt)
lengths_are w (ExceptionBusError a write instruction z cause) d r e = (error_long (cpu_of w) (bus_format (kind w)) 2 (omega arith) (bus_agrees (kind w) (kind_low w (ExceptionBusError a write instruction z cause) r)) (e refl), tt)
lengths_are w (TakeFpUnimp060 ea) d r e = (six_long (kind w) 12 (word_for 2 11) (floats w (TakeFpUnimp060 ea) r refl) refl, tt)
lengths_are w TakeFpDisabled060 d r e = (six_long (kind w) 16 (word_for 4 11) (floats w TakeFpDisabled060 r refl) refl, tt)
lengths_are w TakeAlineException d r e = (frame_long (cpu_of w) 0 10 _ (omega arith) (short_agrees (kind w) (kind_low w TakeAlineException r)), tt)
lengths_are w TakeFlineException d r e = (frame_long (cpu_of w) 0 11 _ (omega arith) (short_agrees (kind w) (kind_low w TakeFlineException r)), tt)
lengths_are w (TakeTrapException n) d r e = (frame_long (cpu_of w) 0 (32 + n % 16) _ (omega arith) (short_agrees (kind w) (kind_low w (TakeTrapException n) r)), tt)
lengths_are w TakeBkptException d r e = (frame_long (cpu_of w) 0 4 _ (omega arith) (short_agrees (kind w) (kind_low w TakeBkptException r)), tt)
lengths_are w TakeIllegalException d r e = (frame_long (cpu_of w) 0 4 _ (omega arith) (short_agrees (kind w) (kind_low w TakeIllegalException r)), tt)
lengths_are w CheckAndServiceInterrupts d r e = interrupt_sized w (kind_low w CheckAndServiceInterrupts r)
lengths_are w (TriggerAddressError a write instruction) d r e = none_of d
lengths_are w (TriggerBusError a write instruction z) d r e = none_of d
lengths_are w CheckTrace d r e = none_of d
lengths_are w (SetIrq n) d r e = none_of d
lengths_are w CheckInterrupts d r e = none_of d
lengths_are w (Read16 a) d r e = none_of d
lengths_are w (Read32 a) d r e = none_of d
lengths_are w (Write16 a v) d r e = none_of d
lengths_are w (Write32 a v) d r e = none_of d
lengths_are w (Push16 v) d r e = none_of d
lengths_are w (Push32 v) d r e = none_of d
lengths_are w PrefetchFirst d r e = none_of d
lengths_are w PrefetchSecond d r e = none_of d
