-- What a plan keeps to, and what is known of a record that the fast way takes.
use Rattle.std.specs.Prelude.{ℕ, ◌+◌, ◌*◌, ◌/◌, ◌%◌, ◌<◌, ◌≤◌, ◌≡◌, refl, Bool, true, false, not, eqb, ltb, Option, Some, None}
use Rattle.std.proofs.Common.{arith, ltb-false}
use Rattle.std.proofs.lemmas.Option.{none-some, same_Some}
use Rattle.types.specs.Kinds.{pick, is060}
use Rattle.cpu.specs.declared.Flags.{Flags}
use Rattle.status.specs.Status.{compose}
use Rattle.steps.specs.Steps.{iack_vector}
use Rattle.numbers.specs.declared.RawCall.{RawCall}
use Rattle.fast_plans.specs.declared.View.{View}
use Rattle.fast_plans.specs.declared.plans.EntryRow.{EntryRow}
use Rattle.fast_plans.specs.declared.plans.Plan.{Plan}
use Rattle.fast_plans.specs.declared.plans.Shape.TheVariants.{Three, Short, Long, Old, Four, Late}
use Rattle.fast_plans.specs.Views.{accepts_of, is_other, span_of}
use Rattle.fast_plans.specs.Plans.{row_of, entry_plan, entry_of, entry_by, shape_number, is_long, halts, interrupt_plan, vector_of, unimp_plan, unimp_of, plan_of, bytes_of, Shaped}

-- the status is a word
pub compose_fits : (f : Flags) → compose f < 0x10000
unfolding compose
compose_fits f = go (eqb f.not_z_flag 0)
  where
    go : (t : Bool)
        → f.t1_flag / 0x8000 % 2 * 0x8000 + f.t0_flag / 0x4000 % 2 * 0x4000 + f.s_flag / 4 % 2 * 0x2000 + f.m_flag / 2 % 2 * 0x1000
        + f.int_mask / 256 % 8 * 256
        + (f.x_flag / 256 % 2 * 16 + f.n_flag / 128 % 2 * 8 + f.v_flag / 128 % 2 * 2 + f.c_flag / 256 % 2)
        + pick t 4 0 < 0x10000
    go true = omega arith
    go false = omega arith

-- so is a format word
pub vector_fits : (r level : ℕ) → iack_vector r level < 256
unfolding iack_vector
vector_fits r level = go (eqb r 0xFFFFFFFF)
  where
    go : (t : Bool) → pick t (24 + level % 8) (r % 256) < 256
    go true = omega arith
    go false = omega arith

pub iack_small : {v : ℕ} (r l : ℕ) → v ≡ iack_vector r l → v < 256
iack_small r l e = rw e (vector_fits r l)

pub format_small : {v : ℕ} (t : Bool) → v ≡ pick t 0x2000 0 → v ≤ 0x2000
format_small true e = rw e (omega arith)
format_small false e = rw e (omega arith)

entry_format : (t : Bool) (v : ℕ) → v ≤ 255 → pick t 0x2000 0 + v * 4 < 0x10000
entry_format true v h = omega arith
entry_format false v h = omega arith

entry_room : (old long : Bool) → bytes_of (shape_number (pick old Three (pick long Long Short))) ≤ pick old 6 (pick long 12 8)
unfolding bytes_of
entry_room true long = omega arith
entry_room false true = omega arith
entry_room false false = omega arith

interrupt_room : (old ten : Bool) → bytes_of (shape_number (pick old Old (pick ten Four Late))) ≤ pick old 6 8
unfolding bytes_of
interrupt_room true ten = omega arith
interrupt_room false true = omega arith
interrupt_room false false = omega arith

entry_shaped : (x : View) (r : EntryRow) → r.vector ≤ 255 → Shaped (entry_plan x r)
unfolding entry_plan
entry_shaped x r h =
    record {
      status = compose_fits x.flags;
      format = entry_format (is_long x.kind r.maker) r.vector h;
      room = entry_room (eqb x.kind 1) (is_long x.kind r.maker);
      vector = omega arith;
    }

pub interrupt_shaped : (x : View) → Shaped (interrupt_plan x)
unfolding interrupt_plan vector_of
interrupt_shaped x =
    record {
      status = compose_fits x.flags;
      format = word (vector_fits _ _);
      room = interrupt_room (eqb x.kind 1) (eqb x.kind 2);
      vector = small (vector_fits _ _);
    }
  where
    word : {v : ℕ} → v < 256 → v * 4 < 0x10000
    word h = omega arith

    small : {v : ℕ} → v < 256 → v < 0x40000000
    small h = omega arith

-- a plan that is there keeps to them
plan_step : {A : Type 0} (b : Bool) (y : Option A) (p : A) → pick b None y ≡ Some p → (b ≡ false) × (y ≡ Some p)
plan_step true y p e = absurd (none-some p e)
plan_step false y p e = (refl, e)

pub entry_of_shaped : (x : View) (r : EntryRow) (p : Plan) → entry_of x r ≡ Some p → Shaped p
unfolding entry_of
entry_of_shaped x r p e =
    let t1 = plan_step (ltb 255 r.vector) _ p e in
    let t2 = plan_step (halts x r) _ p t1.1 in
    let z : entry_plan x r ≡ p = same_Some _ _ t2.1 in
    rw (← z) (entry_shaped x r (ltb-false 255 r.vector t1.0))

unimp_shaped : (x : View) (operand : ℕ) → Shaped (unimp_plan x operand)
unfolding unimp_plan bytes_of
unimp_shaped x operand = record { status = compose_fits x.flags; format = omega arith; room = omega arith; vector = omega arith }

pub shaped : (x : View) (c : RawCall) (p : Plan) → plan_of x c ≡ Some p → Shaped p
unfolding plan_of unimp_of
shaped x c p = go (eqb c.number 22) x.room (eqb c.number 10) (is060 x.kind) (row_of c)
  where
    same : (q : Plan) → Shaped q → Some q ≡ Some p → Shaped p
    same q h e = rw (← same_Some q p e) h

    go : (a b d k : Bool) (r : Option EntryRow) → pick a (pick b (Some (interrupt_plan x)) None) (pick d (pick k (Some (unimp_plan x c.a)) None) (entry_by x r)) ≡ Some p → Shaped p
    go true true d k r e = same (interrupt_plan x) (interrupt_shaped x) e
    go true false d k r e = absurd (none-some p e)
    go false b true true r e = same (unimp_plan x c.a) (unimp_shaped x c.a) e
    go false b true false r e = absurd (none-some p e)
    go false b false k None e = absurd (none-some p e)
    go false b false k (Some r) e = entry_of_shaped x r p e

span_small : (k : ℕ) → span_of k ≤ 0x100000000
unfolding span_of
span_small k = at (ltb k 3)
  where
    at : (t : Bool) → pick t 0x1000000 0x100000000 ≤ 0x100000000
    at true = omega arith
    at false = omega arith

clash : {R : Type 0} → false ≡ true → R
clash e = absurd (go e)
  where
    go : false ≡ true → ⊥
    go e = let z : ◌≡◌ {A = ℕ} 0 1 = cc in omega arith

-- what was accepted has a log with room and a store below 2^32
pub accepted_room : (x : View) (stored logged : ℕ) → accepts_of x stored logged ≡ true → (192 ≤ logged) × (x.base + stored ≤ 0x100000000)
unfolding accepts_of
accepted_room x stored logged = go (is_other x.flags.s_flag) (not (eqb x.flags.m_flag 0)) (eqb (x.vbr % 2) 1) x.overridden (not (eqb x.windows 0)) (ltb 65536 stored) (ltb (span_of x.kind) (x.base + stored)) (ltb logged 192) refl refl
  where
    go : (a b c d e f g h : Bool) → ltb (span_of x.kind) (x.base + stored) ≡ g → ltb logged 192 ≡ h
        → pick a false (pick b false (pick c false (pick d false (pick e false (pick f false (pick g false (pick h false (pick (ltb 11 x.kind) false (not (eqb x.run_mode 1)))))))))) ≡ true
        → (192 ≤ logged) × (x.base + stored ≤ 0x100000000)
    go true b c d e f g h i j k = clash k
    go false true c d e f g h i j k = clash k
    go false false true d e f g h i j k = clash k
    go false false false true e f g h i j k = clash k
    go false false false false true f g h i j k = clash k
    go false false false false false true g h i j k = clash k
    go false false false false false false true h i j k = clash k
    go false false false false false false false true i j k = clash k
    go false false false false false false false false i j k =
        let p : x.base + stored ≤ span_of x.kind = ltb-false (span_of x.kind) (x.base + stored) i in
        let q : span_of x.kind ≤ 0x100000000 = span_small x.kind in
        (ltb-false logged 192 j, omega arith)
