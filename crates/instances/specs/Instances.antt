-- The table. Here the rows of several calls, and those that hold for any store.
use Rattle.std.specs.Prelude.{Some, None}
use Rattle.std.specs.Prelude.{ℕ, ◌≡◌, refl, true, false, List, length}
use Rattle.std.proofs.Common.{arith}
use Rattle.types.specs.declared.FaultCause.TheVariants.{PageFault}
use Rattle.answers.specs.declared.Call.TheVariants.{ExceptionBusError}
use Rattle.instances.specs.Start.{auto, start}
use Rattle.instances.specs.Rows.{P5, P6, P7, P8, EntersInEachOrder, Leaves, user}
use Rattle.instances.specs.Computed.{computed}
use Rattle.instances.specs.Words.{Fine, field}

vector_255 : EntersInEachOrder 511 255
unfolding computed
vector_255 = (refl, refl, refl)

vector_254 : EntersInEachOrder 0xFFFFFFFE 254
unfolding computed
vector_254 = (refl, refl, refl)

autovector : EntersInEachOrder auto 28
unfolding computed
autovector = (refl, refl, refl)

pub p5 : P5
unfolding computed
p5 = (λ level. refl, λ level. refl, refl, vector_255, vector_254, autovector)

-- field 4 of each frame is the status word, on kind 9 field 5 the third write-back status
p6_instruction : Leaves (start 4) (ExceptionBusError 0x1234 false true 2 None) 0x7FAE false 0x5006
unfolding computed
p6_instruction s h = field s h (start 4) false true 2 None (record { accepted = rw h; ppc_fits = omega arith; data_fits = omega arith; sound = record { running = refl; regs16 = omega arith; a7_fits = omega arith }; last = 27; ends = refl; top = omega arith; serves = refl; even = refl; vector_even = refl; vector = refl; no_queue = refl }) 4 (omega arith) refl

p6_data : Leaves (start 4) (ExceptionBusError 0x1234 false false 4 None) 0x7FAE false 325
unfolding computed
p6_data s h = field s h (start 4) false false 4 None (record { accepted = rw h; ppc_fits = omega arith; data_fits = omega arith; sound = record { running = refl; regs16 = omega arith; a7_fits = omega arith }; last = 27; ends = refl; top = omega arith; serves = refl; even = refl; vector_even = refl; vector = refl; no_queue = refl }) 4 (omega arith) refl

pub p6 : P6
unfolding computed
p6 = (refl, p6_instruction, refl, p6_data)

fine_9 : (s : List ℕ) (h : length s ≡ 0x10000) → Fine s h (user 9) true false 2 None
unfolding computed
fine_9 s h = record { accepted = rw h; ppc_fits = omega arith; data_fits = omega arith; sound = record { running = refl; regs16 = omega arith; a7_fits = omega arith }; last = 17; ends = refl; top = omega arith; serves = refl; even = refl; vector_even = refl; vector = refl; no_queue = refl }

p7_status : Leaves (user 9) (ExceptionBusError 0x1234 true false 2 None) 0x7FD0 false 65
unfolding computed
p7_status s h = field s h (user 9) true false 2 None (fine_9 s h) 4 (omega arith) refl

p7_write_back : Leaves (user 9) (ExceptionBusError 0x1234 true false 2 None) 0x7FD2 false 193
unfolding computed
p7_write_back s h = field s h (user 9) true false 2 None (fine_9 s h) 5 (omega arith) refl

pub p7 : P7
unfolding computed
p7 = (refl, p7_status, refl, p7_write_back)

p8_word : Leaves (start 11) (ExceptionBusError 0x1234 false false 1 (Some PageFault)) 0x7FFC true 0x1250200
unfolding computed
p8_word s h = field s h (start 11) false false 1 (Some PageFault) (record { accepted = rw h; ppc_fits = omega arith; data_fits = omega arith; sound = record { running = refl; regs16 = omega arith; a7_fits = omega arith }; last = 4; ends = refl; top = omega arith; serves = refl; even = refl; vector_even = refl; vector = refl; no_queue = refl }) 4 (omega arith) refl

pub p8 : P8
unfolding computed
p8 = (refl, p8_word)
