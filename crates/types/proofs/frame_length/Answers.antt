use mathlib.Core.Path.{◌≡◌, refl, sym}
use mathlib.Core.Bool.{Bool, true}
use mathlib.Core.List.{List, [], ◌∷◌}
use Prim.Native.Nat.{ℕ, ◌<◌}
use native.Mathlib.Omega.{arith}
use lib.ListN.{length, get_or}
use lib.Dec.{eqb}
use borrow.Author.Tests.{eqb-true}
use Rattle.types.specs.Kinds.{both, is040, is060}
use Rattle.types.specs.Tables.{takes_format, format_length, frame_length}
use Rattle.types.specs.Past.{length_past_kinds, length_past_formats}
use Rattle.types.specs.Every.{every, at, both_left, both_right}
use Rattle.types.proofs.frame_length.Goals as goal

-- `types::frame_length` meets its contract: the rule of the table of tables is one test over its 12 rows of 16 lengths.

invalid : List ℕ
invalid = 8 ∷ 0 ∷ 12 ∷ 0 ∷ 0 ∷ 0 ∷ 0 ∷ 0 ∷ 0 ∷ 0 ∷ 0 ∷ 92 ∷ 0 ∷ 0 ∷ 0 ∷ 0 ∷ []

m68000 : List ℕ
m68000 = 0 ∷ 0 ∷ 0 ∷ 0 ∷ 0 ∷ 0 ∷ 0 ∷ 0 ∷ 0 ∷ 0 ∷ 0 ∷ 0 ∷ 0 ∷ 0 ∷ 0 ∷ 0 ∷ []

m68010 : List ℕ
m68010 = 8 ∷ 0 ∷ 0 ∷ 0 ∷ 0 ∷ 0 ∷ 0 ∷ 0 ∷ 58 ∷ 0 ∷ 0 ∷ 0 ∷ 0 ∷ 0 ∷ 0 ∷ 0 ∷ []

m68020 : List ℕ
m68020 = 8 ∷ 8 ∷ 12 ∷ 0 ∷ 0 ∷ 0 ∷ 0 ∷ 0 ∷ 0 ∷ 0 ∷ 0 ∷ 92 ∷ 0 ∷ 0 ∷ 0 ∷ 0 ∷ []

m68040 : List ℕ
m68040 = 8 ∷ 8 ∷ 12 ∷ 0 ∷ 0 ∷ 0 ∷ 0 ∷ 60 ∷ 0 ∷ 0 ∷ 0 ∷ 0 ∷ 0 ∷ 0 ∷ 0 ∷ 0 ∷ []

m68060 : List ℕ
m68060 = 8 ∷ 0 ∷ 12 ∷ 0 ∷ 16 ∷ 0 ∷ 0 ∷ 0 ∷ 0 ∷ 0 ∷ 0 ∷ 0 ∷ 0 ∷ 0 ∷ 0 ∷ 0 ∷ []

table : List (List ℕ)
table =
    invalid ∷ m68000 ∷ m68010 ∷ m68020 ∷ m68020 ∷ m68020 ∷ m68020 ∷ m68040 ∷ m68040 ∷ m68040 ∷ m68010 ∷ m68060 ∷ []

entry : ℕ → ℕ → ℕ → Bool
entry k f x = eqb x (frame_length k f)

right : ℕ → List ℕ → Bool
right k row = both (eqb (length row) 16) (every (entry k) 0 row)

rule : (k f : ℕ) → k < 12 → f < 16 → get_or (get_or table k []) f 0 ≡ frame_length k f
unfolding table invalid m68000 m68010 m68020 m68040 m68060 right entry frame_length takes_format format_length is040 is060
rule k f hk hf =
    let row : List ℕ = get_or table k [] in
    let t : right k row ≡ true = at [] right table refl k hk in
    let n : length row ≡ 16 = eqb-true (length row) 16 (both_left (eqb (length row) 16) (every (entry k) 0 row) t) in
    eqb-true (get_or row f 0) (frame_length k f) (at 0 (entry k) row (both_right (eqb (length row) 16) (every (entry k) 0 row) t) f (omega arith))

pub returns-then-kind-ge12 : goal.returns-then-kind-ge12
returns-then-kind-ge12 c = sym (length_past_kinds _ _ c.if-kind-ge12.true)

pub returns-then-format-ge16 : goal.returns-then-format-ge16
returns-then-format-ge16 c = sym (length_past_formats _ _ c.if-format-ge16.true)

pub returns : goal.returns
unfolding table invalid m68000 m68010 m68020 m68040 m68060
returns c = rule c.args.kind c.args.format c.if-kind-ge12.false c.if-format-ge16.false
