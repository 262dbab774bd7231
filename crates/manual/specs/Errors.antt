-- The error frames hold what the manuals' tables say, but where a row of the table of differences stands.
use Rattle.std.specs.Prelude.{ℕ, ◌-◌, ◌*◌, ◌%◌, ◌<◌, ◌≡◌, Bool, cond, not, ◌||◌}
use Rattle.std.proofs.Math.Path.{refl}
use Rattle.std.proofs.Common.{sym, ◌∙◌, arith, eqb-true}
use Rattle.std.proofs.Math.Bool.{true, false}
use Rattle.std.proofs.Math.Option.{Option, none, some}
use Rattle.std.proofs.Math.Dec.{eqb}
use Rattle.types.specs.Kinds.{pick}
use Rattle.frames.specs.declared.Frame.{Frame}
use Rattle.frames.specs.Codes.{size020, size040, size060}
use Rattle.manual.specs.State.{State, Fault}
use Rattle.manual.specs.Formats.{Field, long, size}
use Rattle.manual.specs.Formats.{size020 as size_b, size040 as size7}
use Rattle.manual.specs.Differences.{not_zero}
use Rattle.manual.specs.Cells.{in_frame, Cell, is, same_some, part_of}

pub fits : (n : ℕ) → n < 0x10000 → n % 0x10000 ≡ n
fits n l = omega arith

-- a state with a fault
abbrev pub at : State → Fault → State
at s f =
    record {
      family = s.family;
      lines = s.lines;
      status = s.status;
      next = s.next;
      this = s.this;
      opcode = s.opcode;
      vbr = s.vbr;
      usp = s.usp;
      isp = s.isp;
      msp = s.msp;
      level = s.level;
      response = s.response;
      operand = s.operand;
      fault = f;
    }

abbrev pub fault : ℕ → Bool → Bool → ℕ → ℕ → ℕ → ℕ → Fault
fault a write i z code datum cause = record { address = a; write = write; instruction = i; size = z; code = code; datum = datum; cause = cause }

-- ---- cells whose value is not a literal

-- a field that is 0, excluded where the manual's value is not
pub zero_cell : (f : Frame) (t : Field) (v : Option ℕ) → part_of t.span (in_frame f t.offset t.long) ≡ some 0 → Cell f (not_zero v || false) v t
zero_cell f t none h = tt
zero_cell f t (some n) h = go (eqb n 0) refl
  where
    go : (b : Bool) → eqb n 0 ≡ b → Cell f (not b || false) (some n) t
    go true e = h ∙ is (sym (eqb-true n 0 e))
    go false e = tt

-- a field whose value the manual may leave open
pub open_cell : (f : Frame) (t : Field) (v : Option ℕ) → ((x : ℕ) → v ≡ some x → part_of t.span (in_frame f t.offset t.long) ≡ some x) → Cell f false v t
open_cell f t none h = tt
open_cell f t (some n) h = h n refl

-- ---- sizes

pub q020 : ℕ → ℕ
q020 z = pick (eqb z 1) 1 (pick (eqb z 2) 2 (pick (eqb z 3) 3 0))

pub q040 : ℕ → ℕ
q040 z = pick (eqb z 1) 1 (pick (eqb z 2) 2 0)

pub q020_is : (z : ℕ) → (size020 z ≡ q020 z * 16) × (q020 z < 4)
unfolding size020 q020
q020_is z = go (eqb z 1) (eqb z 2) (eqb z 3)
  where
    go : (a b c : Bool) → (pick a 16 (pick b 32 (pick c 48 0)) ≡ pick a 1 (pick b 2 (pick c 3 0)) * 16) × (pick a 1 (pick b 2 (pick c 3 0)) < 4)
    go true b c = (refl, omega arith)
    go false true c = (refl, omega arith)
    go false false true = (refl, omega arith)
    go false false false = (refl, omega arith)

pub q020_said : (z x : ℕ) → size_b z ≡ some x → q020 z ≡ x
unfolding q020
q020_said z x e = go (eqb z 1) (eqb z 2) (eqb z 3) (eqb z 4) e
  where
    go : (a b c d : Bool) → cond a (some 1) (cond b (some 2) (cond c (some 3) (cond d (some 0) none))) ≡ some x → pick a 1 (pick b 2 (pick c 3 0)) ≡ x
    go true b c d h = same_some _ x h
    go false true c d h = same_some _ x h
    go false false true d h = same_some _ x h
    go false false false true h = same_some _ x h
    go false false false false h = let n : ◌≡◌ {A = ℕ} 0 1 = cc in absurd (omega arith)

pub q040_is : (z : ℕ) → (size040 z ≡ q040 z * 32) × ((size060 z ≡ q040 z * 0x200000) × (q040 z < 3))
unfolding size040 size060 q040
q040_is z = go (eqb z 1) (eqb z 2)
  where
    go : (a b : Bool) → (pick a 32 (pick b 64 0) ≡ pick a 1 (pick b 2 0) * 32) × ((pick a 0x200000 (pick b 0x400000 0) ≡ pick a 1 (pick b 2 0) * 0x200000) × (pick a 1 (pick b 2 0) < 3))
    go true b = (refl, (refl, omega arith))
    go false true = (refl, (refl, omega arith))
    go false false = (refl, (refl, omega arith))

pub q040_said : (z x : ℕ) → size7 z ≡ some x → q040 z ≡ x
unfolding q040
q040_said z x e = go (eqb z 1) (eqb z 2) (eqb z 4) e
  where
    go : (a b d : Bool) → cond a (some 1) (cond b (some 2) (cond d (some 0) none)) ≡ some x → pick a 1 (pick b 2 0) ≡ x
    go true b d h = same_some _ x h
    go false true d h = same_some _ x h
    go false false true h = same_some _ x h
    go false false false h = let n : ◌≡◌ {A = ℕ} 0 1 = cc in absurd (omega arith)
