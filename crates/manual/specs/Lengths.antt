-- The lengths, statuses and stacked addresses by class and part: what the manuals give is what the entries give, but where a row stands.
use Rattle.std.specs.Prelude.{ℕ, ◌<◌, ◌≡◌, Bool, cond, not, ◌&&◌, ◌||◌, eqb, leb, replicate}
use Rattle.std.proofs.Math.Path.{refl}
use Rattle.std.proofs.Math.Bool.{true, false}
use Rattle.std.proofs.Math.Option.{Option, none, some}
use Rattle.types.specs.Every.{at}
use Rattle.steps.specs.Steps.{stacks_next}
use Rattle.manual.specs.Parts.{Family, mc68000, mc68010, mc68020, mc68030, mc68040, mc68060, has_master}
use Rattle.manual.specs.State.{State, is_set, entered, supervisor_pointer, down}
use Rattle.manual.specs.Vectors.{Class, instruction, trap, group2, interrupt, bus_error, address_error, protocol, configuration, fp_unimplemented, fp_disabled, class_of}
use Rattle.manual.specs.Exceptions.{length_of, first_frame, pointer_after, status_after, throws_away}
use Rattle.manual.specs.Differences.{Via, by_vector, own, differences, length_differs, status_differs}
use Rattle.manual.specs.Plain.{of, first, early}
use Rattle.manual.specs.PartLaws.{impossible, forty, sixty}

-- the length of a frame that an entry makes
abbrev pub plain_bytes : Family → ℕ
plain_bytes f = cond (first f) 6 8

abbrev pub group2_bytes : Family → ℕ
group2_bytes f = cond (early f) (plain_bytes f) 12

abbrev pub bus_bytes : Family → ℕ
bus_bytes f = cond (first f) 14 (cond (early f) 58 (cond (sixty f) 16 (cond (forty f) 60 92)))

abbrev pub address_bytes : Family → ℕ
address_bytes f = cond (first f) 14 (cond (early f) 58 (cond (forty f) 12 8))

or_false : (a : Bool) → (a || false) ≡ false → a ≡ false
or_false true e = e
or_false false e = refl

abbrev pub is_interrupt : Class → Bool
is_interrupt instruction = false
is_interrupt trap = false
is_interrupt group2 = false
is_interrupt interrupt = true
is_interrupt bus_error = false
is_interrupt address_error = false
is_interrupt protocol = false
is_interrupt configuration = false
is_interrupt fp_unimplemented = false
is_interrupt fp_disabled = false

module _ (s : State) (v : ℕ) where
  pub instruction_by_vector_length : (f : Family) → length_differs differences (of f s) by_vector instruction v ≡ false → pointer_after (of f s) instruction ≡ down (supervisor_pointer (of f s)) (plain_bytes f)
  unfolding differences length_differs status_differs pointer_after first_frame length_of status_after
  instruction_by_vector_length mc68000 e = refl
  instruction_by_vector_length mc68010 e = refl
  instruction_by_vector_length mc68020 e = refl
  instruction_by_vector_length mc68030 e = refl
  instruction_by_vector_length mc68040 e = refl
  instruction_by_vector_length mc68060 e = refl

  pub instruction_own_length : (f : Family) → length_differs differences (of f s) own instruction v ≡ false → pointer_after (of f s) instruction ≡ down (supervisor_pointer (of f s)) (plain_bytes f)
  unfolding differences length_differs status_differs pointer_after first_frame length_of status_after
  instruction_own_length mc68000 e = refl
  instruction_own_length mc68010 e = refl
  instruction_own_length mc68020 e = refl
  instruction_own_length mc68030 e = refl
  instruction_own_length mc68040 e = refl
  instruction_own_length mc68060 e = refl

  pub trap_by_vector_length : (f : Family) → length_differs differences (of f s) by_vector trap v ≡ false → pointer_after (of f s) trap ≡ down (supervisor_pointer (of f s)) (plain_bytes f)
  unfolding differences length_differs status_differs pointer_after first_frame length_of status_after
  trap_by_vector_length mc68000 e = refl
  trap_by_vector_length mc68010 e = refl
  trap_by_vector_length mc68020 e = refl
  trap_by_vector_length mc68030 e = refl
  trap_by_vector_length mc68040 e = refl
  trap_by_vector_length mc68060 e = refl

  pub trap_own_length : (f : Family) → length_differs differences (of f s) own trap v ≡ false → pointer_after (of f s) trap ≡ down (supervisor_pointer (of f s)) (plain_bytes f)
  unfolding differences length_differs status_differs pointer_after first_frame length_of status_after
  trap_own_length mc68000 e = refl
  trap_own_length mc68010 e = refl
  trap_own_length mc68020 e = refl
  trap_own_length mc68030 e = refl
  trap_own_length mc68040 e = refl
  trap_own_length mc68060 e = refl

  pub group2_own_length : (f : Family) → length_differs differences (of f s) own group2 v ≡ false → pointer_after (of f s) group2 ≡ down (supervisor_pointer (of f s)) (group2_bytes f)
  unfolding differences length_differs status_differs pointer_after first_frame length_of status_after
  group2_own_length mc68000 e = refl
  group2_own_length mc68010 e = refl
  group2_own_length mc68020 e = refl
  group2_own_length mc68030 e = refl
  group2_own_length mc68040 e = refl
  group2_own_length mc68060 e = refl

  pub group2_by_vector_length : (f : Family) → length_differs differences (of f s) by_vector group2 v ≡ false → pointer_after (of f s) group2 ≡ down (supervisor_pointer (of f s)) (plain_bytes f)
  unfolding differences length_differs status_differs pointer_after first_frame length_of status_after
  group2_by_vector_length mc68000 e = refl
  group2_by_vector_length mc68010 e = refl
  group2_by_vector_length mc68020 e = impossible e
  group2_by_vector_length mc68030 e = impossible e
  group2_by_vector_length mc68040 e = impossible e
  group2_by_vector_length mc68060 e = impossible e

  pub bus_error_own_length : (f : Family) → length_differs differences (of f s) own bus_error v ≡ false → pointer_after (of f s) bus_error ≡ down (supervisor_pointer (of f s)) (bus_bytes f)
  unfolding differences length_differs status_differs pointer_after first_frame length_of status_after
  bus_error_own_length mc68000 e = refl
  bus_error_own_length mc68010 e = refl
  bus_error_own_length mc68020 e = refl
  bus_error_own_length mc68030 e = refl
  bus_error_own_length mc68040 e = refl
  bus_error_own_length mc68060 e = refl

  pub address_error_own_length : (f : Family) → length_differs differences (of f s) own address_error v ≡ false → pointer_after (of f s) address_error ≡ down (supervisor_pointer (of f s)) (address_bytes f)
  unfolding differences length_differs status_differs pointer_after first_frame length_of status_after
  address_error_own_length mc68000 e = refl
  address_error_own_length mc68010 e = refl
  address_error_own_length mc68020 e = impossible e
  address_error_own_length mc68030 e = impossible e
  address_error_own_length mc68040 e = refl
  address_error_own_length mc68060 e = impossible e

  pub bus_error_by_vector_length : (f : Family) → length_differs differences (of f s) by_vector bus_error v ≡ false → pointer_after (of f s) bus_error ≡ down (supervisor_pointer (of f s)) (plain_bytes f)
  unfolding differences length_differs status_differs pointer_after first_frame length_of status_after
  bus_error_by_vector_length mc68000 e = impossible e
  bus_error_by_vector_length mc68010 e = impossible e
  bus_error_by_vector_length mc68020 e = impossible e
  bus_error_by_vector_length mc68030 e = impossible e
  bus_error_by_vector_length mc68040 e = impossible e
  bus_error_by_vector_length mc68060 e = impossible e

  pub address_error_by_vector_length : (f : Family) → length_differs differences (of f s) by_vector address_error v ≡ false → pointer_after (of f s) address_error ≡ down (supervisor_pointer (of f s)) (plain_bytes f)
  unfolding differences length_differs status_differs pointer_after first_frame length_of status_after
  address_error_by_vector_length mc68000 e = impossible e
  address_error_by_vector_length mc68010 e = impossible e
  address_error_by_vector_length mc68020 e = impossible e
  address_error_by_vector_length mc68030 e = impossible e
  address_error_by_vector_length mc68040 e = impossible e
  address_error_by_vector_length mc68060 e = impossible e

  pub protocol_length : (b : Bool) → length_differs differences (of (cond b mc68020 mc68030) s) by_vector protocol v ≡ false → pointer_after (of (cond b mc68020 mc68030) s) protocol ≡ down (supervisor_pointer (of (cond b mc68020 mc68030) s)) 8
  unfolding differences length_differs status_differs pointer_after first_frame length_of status_after
  protocol_length true e = impossible e
  protocol_length false e = impossible e

  pub configuration_length : length_differs differences (of mc68030 s) by_vector configuration v ≡ false → pointer_after (of mc68030 s) configuration ≡ down (supervisor_pointer (of mc68030 s)) 8
  unfolding differences length_differs status_differs pointer_after first_frame length_of status_after
  configuration_length e = impossible e

  pub unimplemented_length : pointer_after (of mc68060 s) fp_unimplemented ≡ down (supervisor_pointer (of mc68060 s)) 12
  unfolding differences length_differs status_differs pointer_after first_frame length_of status_after
  unimplemented_length = refl

  pub disabled_length : pointer_after (of mc68060 s) fp_disabled ≡ down (supervisor_pointer (of mc68060 s)) 16
  unfolding differences length_differs status_differs pointer_after first_frame length_of status_after
  disabled_length = refl

  -- an interrupt outside the master state
  pub interrupt_own_length : (f : Family) → (has_master f && is_set 12 s.status) ≡ false → pointer_after (of f s) interrupt ≡ down (supervisor_pointer (of f s)) (plain_bytes f)
  unfolding differences length_differs status_differs pointer_after first_frame length_of status_after
  interrupt_own_length mc68000 e = refl
  interrupt_own_length mc68010 e = refl
  interrupt_own_length mc68020 e = rw e
  interrupt_own_length mc68030 e = rw e
  interrupt_own_length mc68040 e = rw e
  interrupt_own_length mc68060 e = refl

  pub interrupt_by_vector_length : (f : Family) → length_differs differences (of f s) by_vector interrupt v ≡ false → pointer_after (of f s) interrupt ≡ down (supervisor_pointer (of f s)) (plain_bytes f)
  unfolding differences length_differs status_differs pointer_after first_frame length_of status_after
  interrupt_by_vector_length mc68000 e = refl
  interrupt_by_vector_length mc68010 e = refl
  interrupt_by_vector_length mc68020 e = interrupt_own_length mc68020 (or_false (is_set 12 s.status) e)
  interrupt_by_vector_length mc68030 e = interrupt_own_length mc68030 (or_false (is_set 12 s.status) e)
  interrupt_by_vector_length mc68040 e = interrupt_own_length mc68040 (or_false (is_set 12 s.status) e)
  interrupt_by_vector_length mc68060 e = refl

  -- the status is that of every exception, but of an interrupt
  pub status_is_lem : (f : Family) (w : Via) (c : Class) → status_differs differences (of f s) w c v ≡ false → (w ≡ own → is_interrupt c ≡ false) → entered s.status ≡ status_after (of f s) c
  unfolding differences length_differs status_differs pointer_after first_frame length_of status_after
  status_is_lem f w instruction e h = refl
  status_is_lem f w trap e h = refl
  status_is_lem f w group2 e h = refl
  status_is_lem mc68000 by_vector interrupt e h = impossible e
  status_is_lem mc68010 by_vector interrupt e h = impossible e
  status_is_lem mc68020 by_vector interrupt e h = impossible e
  status_is_lem mc68030 by_vector interrupt e h = impossible e
  status_is_lem mc68040 by_vector interrupt e h = impossible e
  status_is_lem mc68060 by_vector interrupt e h = impossible e
  status_is_lem f own interrupt e h = impossible (h refl)
  status_is_lem f w bus_error e h = refl
  status_is_lem f w address_error e h = refl
  status_is_lem f w protocol e h = refl
  status_is_lem f w configuration e h = refl
  status_is_lem f w fp_unimplemented e h = refl
  status_is_lem f w fp_disabled e h = refl

-- ---- no frame under the first but of an interrupt

-- where the first frame of an interrupt lies
pub interrupt_first : (s : State) (f : Family) → first_frame (of f s) interrupt ≡ down (supervisor_pointer (of f s)) (plain_bytes f)
unfolding first_frame length_of
interrupt_first s mc68000 = refl
interrupt_first s mc68010 = refl
interrupt_first s mc68020 = refl
interrupt_first s mc68030 = refl
interrupt_first s mc68040 = refl
interrupt_first s mc68060 = refl

-- where the length does not differ there is no second frame
pub no_throw : (s : State) (v : ℕ) (f : Family) (w : Via) (c : Class) → (w ≡ own → is_interrupt c ≡ false) → length_differs differences (of f s) w c v ≡ false → throws_away (of f s) c ≡ false
unfolding differences length_differs
no_throw s v f w instruction h e = refl
no_throw s v f w trap h e = refl
no_throw s v f w group2 h e = refl
no_throw s v f w bus_error h e = refl
no_throw s v f w address_error h e = refl
no_throw s v f w protocol h e = refl
no_throw s v f w configuration h e = refl
no_throw s v f w fp_unimplemented h e = refl
no_throw s v f w fp_disabled h e = refl
no_throw s v f own interrupt h e = impossible (h refl)
no_throw s v mc68000 by_vector interrupt h e = refl
no_throw s v mc68010 by_vector interrupt h e = refl
no_throw s v mc68020 by_vector interrupt h e = or_false (is_set 12 s.status) e
no_throw s v mc68030 by_vector interrupt h e = or_false (is_set 12 s.status) e
no_throw s v mc68040 by_vector interrupt h e = or_false (is_set 12 s.status) e
no_throw s v mc68060 by_vector interrupt h e = refl

-- ---- the address that `take_exception` stacks, by the class of its vector

abbrev pub has_protocol : Family → Bool
has_protocol mc68000 = false
has_protocol mc68010 = false
has_protocol mc68020 = true
has_protocol mc68030 = true
has_protocol mc68040 = false
has_protocol mc68060 = false

abbrev pub has_configuration : Family → Bool
has_configuration mc68000 = false
has_configuration mc68010 = false
has_configuration mc68020 = false
has_configuration mc68030 = true
has_configuration mc68040 = false
has_configuration mc68060 = false

abbrev pub rule : Family → Option Class → ℕ → Bool
rule f none v = true
rule f (some instruction) v = not (stacks_next v)
rule f (some trap) v = stacks_next v
rule f (some group2) v = eqb v 6 || stacks_next v
rule f (some interrupt) v = (eqb v 15 || leb 64 v) || stacks_next v
rule f (some bus_error) v = not (stacks_next v)
rule f (some address_error) v = not (stacks_next v)
rule f (some protocol) v = has_protocol f && not (stacks_next v)
rule f (some configuration) v = has_configuration f && not (stacks_next v)
rule f (some fp_unimplemented) v = false
rule f (some fp_disabled) v = false

pub rules : (f : Family) (v : ℕ) → v < 256 → rule f (class_of f v) v ≡ true
unfolding class_of stacks_next
rules mc68000 v l = at 0 (λ (i x : ℕ). rule mc68000 (class_of mc68000 i) i) (replicate 256 0) refl v l
rules mc68010 v l = at 0 (λ (i x : ℕ). rule mc68010 (class_of mc68010 i) i) (replicate 256 0) refl v l
rules mc68020 v l = at 0 (λ (i x : ℕ). rule mc68020 (class_of mc68020 i) i) (replicate 256 0) refl v l
rules mc68030 v l = at 0 (λ (i x : ℕ). rule mc68030 (class_of mc68030 i) i) (replicate 256 0) refl v l
rules mc68040 v l = at 0 (λ (i x : ℕ). rule mc68040 (class_of mc68040 i) i) (replicate 256 0) refl v l
rules mc68060 v l = at 0 (λ (i x : ℕ). rule mc68060 (class_of mc68060 i) i) (replicate 256 0) refl v l
