-- `take_exception`, the wrappers that rewind, group 2 and the trace: each says what the fast way says.
use Prim.Native.Nat.{ℕ, ◌+◌, ◌*◌, ◌/◌, ◌^◌, ◌<◌}
use Rattle.std.specs.Prelude.{◌≡◌, Bool, eqb}
use Rattle.std.proofs.Math.Path.{refl}
use Rattle.std.proofs.Math.Bool.{true, false}
use native.Mathlib.Omega.{arith}
use Rattle.types.specs.Kinds.{pick}
use Rattle.cpu.specs.Fields.{kind_of}
use Rattle.status.specs.Status.{compose, get_sr}
use Rattle.memory.specs.declared.Core.{Core}
use Rattle.steps.specs.Steps.{stacks_next as stacks_next_of}
use Rattle.formats.specs.Formats.{offset_word}
use Rattle.unfaulted.specs.Closed.{last_value, short_pieces, three_pieces, short_bytes, short_of}
use Rattle.fast_plans.specs.declared.View.{View}
use Rattle.fast_plans.specs.declared.plans.Plan.{Plan}
use Rattle.fast_plans.specs.Views.{view_of}
use Rattle.fast_plans.specs.Plans.{row, is_long, address_of, entry_plan, shape_number}
use Rattle.fast.specs.Stacks.{Tape}
use Rattle.fast_plans.specs.Laws.{compose_fits}
use Rattle.fast_laws.specs.Patched.{Words}
use Rattle.fast_laws.specs.Tapes.{Framed, framed_short, framed_three}
use Rattle.fast_laws.specs.Ways.{spot_for}
use Rattle.fast_plans.specs.declared.plans.Maker.TheVariants.{Exception}

-- ---- the frame of `take_exception`

offset_plain : (v : ℕ) → v < 256 → offset_word v ≡ 0 + v * 4
unfolding offset_word
offset_plain v h = omega arith

-- way 1: its bytes, its pieces, and the data of its last write
module _ (m : Core) (t : Tape) (v : ℕ) (b : Bool) (w : Words m) (h : v < 256) where
  abbrev taking : Plan
  taking = entry_plan (view_of m) (row Exception v b)

  abbrev taken_at : ℕ
  taken_at = address_of (view_of m) (row Exception v b)

  address_small : taken_at < 2 ^ 32
  unfolding address_of view_of
  address_small = go b (stacks_next_of v)
    where
      go : (i j : Bool) → pick i m.cpu.flow.ppc (pick j m.cpu.flow.pc m.cpu.flow.ppc) < 2 ^ 32
      go true j = w.ppc
      go false true = w.pc
      go false false = w.ppc

  pub take_bytes : taking.bytes ≡ short_bytes (kind_of m.cpu)
  unfolding entry_plan is_long short_bytes view_of kind_of
  take_bytes = refl

  take_one : eqb m.cpu.flow.cpu_type 1 ≡ true → shape_number taking.shape ≡ 1
  unfolding entry_plan view_of is_long
  take_one q = rw q

  take_two : eqb m.cpu.flow.cpu_type 1 ≡ false → shape_number taking.shape ≡ 2
  unfolding entry_plan view_of is_long
  take_two q = rw q

  pub take_framed : Framed (view_of m) (spot_for (view_of m) taking) taking t (short_of (kind_of m.cpu) (get_sr m.cpu) taken_at (offset_word v))
  unfolding short_of kind_of entry_plan is_long get_sr view_of
  take_framed = rw (offset_plain v h) (go (eqb m.cpu.flow.cpu_type 1) refl)
    where
      x : View
      x = view_of m

      go : (i : Bool) → eqb m.cpu.flow.cpu_type 1 ≡ i → Framed x (spot_for x taking) taking t (pick i (three_pieces (get_sr m.cpu) taken_at) (short_pieces (get_sr m.cpu) taken_at (0 + v * 4)))
      go true e = framed_three x (spot_for x taking) taking t (take_one e) (compose_fits x.flags) address_small
      go false e = framed_short x (spot_for x taking) taking t (take_two e) (compose_fits x.flags) (omega arith)

  pub take_last : last_value (short_of (kind_of m.cpu) (get_sr m.cpu) taken_at (offset_word v)) ≡ taking.last
  unfolding entry_plan short_of kind_of view_of last_value three_pieces short_pieces get_sr
  take_last = go (eqb m.cpu.flow.cpu_type 1)
    where
      go : (i : Bool) → last_value (pick i (three_pieces (compose m.cpu.flags) taken_at) (short_pieces (compose m.cpu.flags) taken_at (offset_word v))) ≡ pick i (taken_at / 0x10000) (compose m.cpu.flags)
      go true = refl
      go false = refl
