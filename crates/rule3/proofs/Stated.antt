-- Theorems about what specs/Statement defines, and what rests on them.
use Rattle.std.specs.Prelude.{refl, [], ◌∷◌}
use Rattle.answers.specs.declared.Call.TheVariants.{TakeException, Trap, TakeFpUnimp060}
use Rattle.nest.specs.Nest.{handlers, end, Told}
use Rattle.rule3.specs.Rule3.{Real}
use Rattle.rule3.specs.Nests.{room, start, call, tick}
use Rattle.rule3.proofs.Nests.{tells}
use Rattle.rule3.specs.Computed.{nested}
use Rattle.rule3.specs.Statement.{plain, short, spent, moved}

-- ---- refused calls between, with one open: by 8 and 9; by 7, where the log that is lent is too short; by 3

pub told_8_9 : Told Real (end Real (call (Trap 0) refl ∷ call (TakeException 256) refl ∷ call (TakeFpUnimp060 0) refl ∷ []) plain room)
unfolding nested
told_8_9 = tells (call (Trap 0) refl ∷ call (TakeException 256) refl ∷ call (TakeFpUnimp060 0) refl ∷ []) plain room refl refl

pub told_7 : Told Real (end Real (call (Trap 0) refl ∷ handlers (start 4 0x2000 0x178 0 0 0 0) short ∷ call (Trap 1) refl ∷ []) plain room)
unfolding nested
told_7 = tells (call (Trap 0) refl ∷ handlers (start 4 0x2000 0x178 0 0 0 0) short ∷ call (Trap 1) refl ∷ []) plain room refl refl

pub told_3 : Told Real (end Real (call (Trap 0) refl ∷ tick ∷ []) spent room)
unfolding nested
told_3 = tells (call (Trap 0) refl ∷ tick ∷ []) spent room refl refl

pub told_moved : Told Real (end Real (call (Trap 0) refl ∷ handlers (start 4 0x2000 0x178 0 0 0 0) moved ∷ []) plain room)
unfolding nested
told_moved = tells (call (Trap 0) refl ∷ handlers (start 4 0x2000 0x178 0 0 0 0) moved ∷ []) plain room refl refl

-- ---- `take_exception` of vectors 2 and 3 on the 68000 makes no error frame, and is told

pub told_2_3 : Told Real (end Real (call (TakeException 2) refl ∷ call (TakeException 3) refl ∷ []) (start 1 0x2000 0x180 0 0 0 0) room)
unfolding nested
told_2_3 = tells (call (TakeException 2) refl ∷ call (TakeException 3) refl ∷ []) (start 1 0x2000 0x180 0 0 0 0) room refl refl
