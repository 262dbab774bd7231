-- EACH ROW of the table of differences is one: a smallest input, on each kind that it names, and there the manual's value and ours, computed from `perform`.
use Rattle.std.specs.Prelude.{Some, None}
use Rattle.std.specs.Prelude.{ℕ, zero, suc, ◌+◌, ◌%◌, ◌≡◌, refl, Bool, true, false, cond, not, ◌&&◌, ◌||◌, List, [], ◌∷◌, eqb, set, replicate, get_or}
use Rattle.std.proofs.Math.Option.{Option, none, some}
use Rattle.types.specs.Kinds.{mask_address}
use Rattle.types.specs.declared.FaultCause.TheVariants.{AccessBusError}
use Rattle.cpu.specs.declared.Cpu.{Cpu}
use Rattle.cpu.specs.Setters.{with_sp, with_mmu_fc_override}
use Rattle.cpu.specs.Fields.{pc_of, a7_of, set_a7, set_pc, set_wdata}
use Rattle.cpu.specs.Fresh.{fresh_cpu}
use Rattle.status.specs.Status.{get_sr, put_back_sr}
use Rattle.pending.specs.Interrupts.{set_irq}
use Rattle.memory.specs.World.{World, world, cpu_of}
use Rattle.answers.specs.declared.Call.{Call}
use Rattle.answers.specs.declared.Call.TheVariants.{TakeException, Trap, ExceptionAddressError, ExceptionBusError, TakeFpDisabled060}
use Rattle.calls.specs.Calls.{begun, refusal, perform}
use Rattle.instances.specs.Start.{set_ppc, set_vbr}
use Rattle.forms.specs.Gist.{gist}
use Rattle.forms.specs.Plans.{Plan}
use Rattle.forms.specs.Tests.{clean_test}
use Rattle.forms.specs.Forms.{plan_of}
use Rattle.nest.specs.View.{Regs, peek, under, s_bit, m_bit, nonzero}
use Rattle.nest.specs.Written.{long_at}
use Rattle.entered.specs.Bytes.{mem}
use Rattle.entered.specs.Pointers.{regs_of}
use Rattle.manual.specs.Parts.{Family, family_of, number}
use Rattle.manual.specs.State.{State, on_pins}
use Rattle.manual.specs.Vectors.{Class, place, vector_at}
use Rattle.manual.specs.Formats.{Field}
use Rattle.manual.specs.Exceptions.{top_fields, pointer_after, status_after}
use Rattle.manual.specs.Differences.{Row, What, field, fields, at_top, format, pc, pins, differences, applies, covers_field, lowest, When, always, chk, vectored, based, of_the_bus, past24}
use Rattle.manual.specs.Differences.{in_master as in_master'}
use Rattle.manual.specs.Differences.{nonzero as not_zero}
use Rattle.manual.specs.Differences.{length as length_row}
use Rattle.manual.specs.Differences.{status as status_row}
use Rattle.manual.specs.Calls.{Event, state_of, event_of}
use Rattle.manual.specs.Cells.{part_of, read_at}
use Rattle.manual.specs.Computed.{shown}

-- ---- the inputs

-- where a call is made: 512 zero bytes at 0 but one, PC 0x100, and what the row needs
pub record Input : Type 0 where
  pub row : ℕ  -- the row of the table, from 0
  pub kinds : List ℕ
  pub call : Call
  pub status : ℕ
  pub a7 : ℕ
  pub isp : ℕ  -- the saved pointers, where A7 is another stack's
  pub ppc : ℕ
  pub vbr : ℕ
  pub level : ℕ
  pub override : Option ℕ  -- `mmu_fc_override`
  pub byte : ℕ  -- the address of a byte that is 0x40
  pub offset : ℕ  -- the field that is looked at, its lowest bit; the address on the pins
  pub low : ℕ
  pub manual : ℕ
  pub ours : ℕ

abbrev plainly : ℕ → List ℕ → Call → ℕ → ℕ → ℕ → ℕ → Input
plainly r ks c o l m u = record { row = r; kinds = ks; call = c; status = 0x2700; a7 = 0x180; isp = 0x180; ppc = 0xFE; vbr = 0; level = 0; override = none; byte = 0x1FF; offset = o; low = l; manual = m; ours = u }

-- with the level asked for
abbrev asked : ℕ → List ℕ → Call → ℕ → ℕ → ℕ → ℕ → ℕ → Input
asked r ks c n o l m u = record { row = r; kinds = ks; call = c; status = 0x2700; a7 = 0x180; isp = 0x180; ppc = 0xFE; vbr = 0; level = n; override = none; byte = 0x1FF; offset = o; low = l; manual = m; ours = u }

-- in the master state, the interrupt stack at 0x140
abbrev in_master : ℕ → List ℕ → Call → ℕ → ℕ → ℕ → ℕ → Input
in_master r ks c o l m u = record { row = r; kinds = ks; call = c; status = 0x3700; a7 = 0x180; isp = 0x140; ppc = 0xFE; vbr = 0; level = 0; override = none; byte = 0x1FF; offset = o; low = l; manual = m; ours = u }

-- an access of MOVES, by its function code
abbrev overridden : ℕ → List ℕ → Call → ℕ → ℕ → ℕ → ℕ → ℕ → Input
overridden r ks c n o l m u = record { row = r; kinds = ks; call = c; status = 0x2700; a7 = 0x180; isp = 0x180; ppc = 0xFE; vbr = 0; level = 0; override = some n; byte = 0x1FF; offset = o; low = l; manual = m; ours = u }

abbrev all : List ℕ
all = 1 ∷ 2 ∷ 3 ∷ 4 ∷ 5 ∷ 6 ∷ 7 ∷ 8 ∷ 9 ∷ 11 ∷ []

abbrev from20 : List ℕ
from20 = 3 ∷ 4 ∷ 5 ∷ 6 ∷ 7 ∷ 8 ∷ 9 ∷ 11 ∷ []

abbrev masters : List ℕ
masters = 3 ∷ 4 ∷ 5 ∷ 6 ∷ 7 ∷ 8 ∷ 9 ∷ []

abbrev twenty : List ℕ
twenty = 3 ∷ 4 ∷ 5 ∷ 6 ∷ []

abbrev read : Call
read = ExceptionBusError 0x1234 false false 2 None

abbrev odd : Call
odd = ExceptionAddressError 0x1235 false false

abbrev pub inputs : List Input
inputs =
    plainly 0 (1 ∷ []) read 0x00 4 1 0
    ∷ record { row = 1; kinds = 1 ∷ []; call = read; status = 0x2700; a7 = 0x180; isp = 0x180; ppc = 0x800FE; vbr = 0; level = 0; override = none; byte = 0x1FF; offset = 0x00; low = 3; manual = 0; ours = 1 }
    ∷ plainly 2 (1 ∷ []) read 0x00 0 5 0
    ∷ plainly 3 (1 ∷ []) read 0x02 0 0x1234 0xFE2700
    ∷ plainly 4 (1 ∷ []) read 0x08 0 0x2700 0
    ∷ plainly 5 (2 ∷ []) (ExceptionBusError 0x1234 false true 2 None) 0x08 13 1 0
    ∷ plainly 6 (2 ∷ []) read 0x08 12 1 0
    ∷ plainly 7 (2 ∷ []) (ExceptionBusError 0x1234 false false 1 None) 0x08 10 1 0
    ∷ plainly 8 (2 ∷ []) (ExceptionBusError 0x1235 false false 1 None) 0x08 9 1 0
    ∷ plainly 9 (2 ∷ []) read 0x08 8 1 0
    ∷ plainly 10 (2 ∷ []) read 0x08 0 5 0
    ∷ plainly 11 (2 ∷ []) read 0x0A 0 0x1234 0
    ∷ plainly 12 (2 ∷ []) (ExceptionBusError 0x1234 true false 2 None) 0x10 0 0xABCD 0
    ∷ plainly 13 twenty (ExceptionAddressError 0x1235 false true) 0x06 0 0xB00C 0x000C
    ∷ plainly 13 (11 ∷ []) (ExceptionAddressError 0x1235 false true) 0x06 0 0x200C 0x000C
    ∷ plainly 14 (7 ∷ 8 ∷ 9 ∷ []) (ExceptionBusError 0x1234 false false 2 (Some AccessBusError)) 0x0C 10 0 1
    ∷ plainly 15 (11 ∷ []) (ExceptionBusError 0x1234 false false 1 None) 0x0C 21 0 1
    ∷ plainly 16 (11 ∷ []) TakeFpDisabled060 0x02 0 0x100 0xFE
    ∷ plainly 17 (1 ∷ []) (TakeException 2) 0x08 0 0x2700 0
    ∷ plainly 18 (1 ∷ []) (TakeException 3) 0 0 0x172 0x17A
    ∷ plainly 19 (2 ∷ []) (TakeException 2) 0x06 0 0x8008 0x0008
    ∷ plainly 19 twenty (TakeException 2) 0x06 0 0xB008 0x0008
    ∷ plainly 19 (7 ∷ 8 ∷ 9 ∷ []) (TakeException 2) 0x06 0 0x7008 0x0008
    ∷ plainly 19 (11 ∷ []) (TakeException 2) 0x06 0 0x4008 0x0008
    ∷ plainly 20 from20 (TakeException 5) 0x06 0 0x2014 0x0014
    ∷ plainly 21 all (TakeException 6) 0x02 0 0x100 0xFE
    ∷ plainly 22 twenty (TakeException 13) 0x06 0 0x9034 0x0034
    ∷ plainly 23 (5 ∷ 6 ∷ []) (TakeException 56) 0x06 0 0x20E0 0x00E0
    ∷ plainly 24 (5 ∷ 6 ∷ []) (TakeException 56) 0x02 0 0x100 0xFE
    ∷ asked 25 all (TakeException 25) 3 0 0 0x2300 0x2700
    ∷ plainly 26 all (TakeException 64) 0x02 0 0x100 0xFE
    ∷ in_master 27 masters (TakeException 25) 0x06 0 0x1064 0x0064
    ∷ in_master 28 masters (TakeException 25) 0 0 0x138 0x178
    ∷ record { row = 29; kinds = 1 ∷ []; call = TakeException 4; status = 0x2700; a7 = 0x180; isp = 0x180; ppc = 0xFE; vbr = 0x80; level = 0; override = none; byte = 0x93; offset = 0; low = 0; manual = 0; ours = 0x40 }
    ∷ plainly 30 (3 ∷ []) (Trap 0) 0x1000000 0 0 0x1000000
    ∷ overridden 31 (7 ∷ 8 ∷ 9 ∷ []) read 7 0x0C 3 2 0
    ∷ overridden 32 (7 ∷ 8 ∷ 9 ∷ []) (ExceptionBusError 0x1234 true false 2 None) 7 0x0E 3 2 0
    ∷ overridden 33 (11 ∷ []) read 7 0x0C 19 2 0
    ∷ plainly 0 (1 ∷ []) odd 0x00 4 1 0
    ∷ record { row = 1; kinds = 1 ∷ []; call = odd; status = 0x2700; a7 = 0x180; isp = 0x180; ppc = 0x800FE; vbr = 0; level = 0; override = none; byte = 0x1FF; offset = 0x00; low = 3; manual = 0; ours = 1 }
    ∷ plainly 2 (1 ∷ []) odd 0x00 0 5 0
    ∷ plainly 3 (1 ∷ []) odd 0x02 0 0x1235 0xFE2700
    ∷ plainly 4 (1 ∷ []) odd 0x08 0 0x2700 0
    ∷ plainly 5 (2 ∷ []) (ExceptionAddressError 0x1235 false true) 0x08 13 1 0
    ∷ plainly 6 (2 ∷ []) odd 0x08 12 1 0
    ∷ plainly 9 (2 ∷ []) odd 0x08 8 1 0
    ∷ plainly 10 (2 ∷ []) odd 0x08 0 5 0
    ∷ plainly 11 (2 ∷ []) odd 0x0A 0 0x1235 0
    ∷ plainly 17 (1 ∷ []) (TakeException 3) 0x08 0 0x2700 0
    ∷ plainly 18 (1 ∷ []) (TakeException 2) 0 0 0x172 0x17A
    ∷ plainly 19 (2 ∷ []) (TakeException 3) 0x06 0 0x800C 0x000C
    ∷ plainly 19 twenty (TakeException 3) 0x06 0 0xB00C 0x000C
    ∷ plainly 19 (7 ∷ 8 ∷ 9 ∷ 11 ∷ []) (TakeException 3) 0x06 0 0x200C 0x000C
    ∷ []

-- ---- what is computed

abbrev overrides : Option ℕ → Cpu → Cpu
overrides none c = c
overrides (some n) c = with_mmu_fc_override c (record { some = true; value = n })

abbrev cpu_for : Input → ℕ → Cpu
cpu_for i k =
    overrides i.override (set_vbr (set_ppc (set_wdata (set_irq (put_back_sr (set_a7 (set_pc (with_sp (fresh_cpu k) (set (set (set (replicate 8 0) 0 0x100) 4 i.isp) 6 0x180)) 0x100) i.a7) i.status) i.level) 0xABCD) i.ppc) i.vbr)

abbrev world_for : Input → ℕ → World
world_for i k = world (record { cpu = cpu_for i k; bus = record { base = 0; windows = 0; starts = replicate 8 0; lengths = replicate 8 0; responses = replicate 8 0xFFFFFFFF; events = 0 } }) (set (replicate 512 0) i.byte 0x40) (replicate 192 0)

abbrev is : Option ℕ → ℕ → Bool
is none n = false
is (some m) n = eqb m n

-- the manual's value is m and ours is u
abbrev values : Input → Option ℕ → Option ℕ → Bool
values i m u = is m i.manual && is u i.ours

abbrev by_field : Input → Row → State → Event → World → ℕ → List Field → Bool
by_field i r s e z k [] = false
by_field i r s e z k (t ∷ ts) =
    cond (eqb t.offset i.offset && eqb (lowest t.span) i.low)
    ((covers_field r.what t && applies s e.via e.class e.vector t.value r)
    && values i t.value (part_of t.span (read_at (peek (mem z)) t.long (mask_address k ((a7_of (cpu_of z) + t.offset) % 0x100000000)))))
    (by_field i r s e z k ts)

abbrev by_what : What → Input → Row → State → Event → World → ℕ → Bool
by_what (field o l) i r s e z k = by_field i r s e z k (top_fields s e.class e.vector)
by_what fields i r s e z k = by_field i r s e z k (top_fields s e.class e.vector)
by_what at_top i r s e z k = by_field i r s e z k (top_fields s e.class e.vector)
by_what format i r s e z k = by_field i r s e z k (top_fields s e.class e.vector)
by_what length_row i r s e z k = applies s e.via e.class e.vector none r && values i (some (pointer_after s e.class)) (some (a7_of (cpu_of z)))
by_what status_row i r s e z k = applies s e.via e.class e.vector none r && values i (some (status_after s e.class)) (some (get_sr (cpu_of z)))
by_what pc i r s e z k = applies s e.via e.class e.vector none r && values i (long_at (peek (mem z)) (mask_address k (vector_at s e.vector))) (some (pc_of (cpu_of z)))
by_what pins i r s e z k = applies s e.via e.class e.vector (some i.offset) r && values i (some (on_pins s.lines i.offset)) (some (mask_address k i.offset))

abbrev by_event : Option Event → Input → Row → State → World → ℕ → Bool
by_event none i r s z k = false
by_event (some e) i r s z k = by_what r.what i r s e z k

abbrev clean : World → Option Plan → Bool
clean w none = false
clean w (some p) = clean_test (gist w) p

-- the premises of the theorem: accepted, taken and served; sound
abbrev meets : World → Call → Bool
meets w c = eqb (refusal w c) 0 && clean w (plan_of (begun w) c)

abbrev sound : Regs → Bool
sound g =
    (not (eqb g.runmode 1) && (not g.processing && (eqb (g.a7 % 2) 0 && (eqb (g.usp % 2) 0 && (eqb (g.isp % 2) 0 && eqb (g.msp % 2) 0)))))
    && (eqb (under g.kind g.status) g.status && (same (s_bit g.status) (nonzero g.sflag) && same (m_bit g.status) (nonzero g.mflag)))
  where
    same : Bool → Bool → Bool
    same true b = b
    same false b = not b

abbrev by_family : Option Family → Input → Row → ℕ → Bool
by_family none i r k = false
by_family (some f) i r k =
    (meets (world_for i k) i.call && sound (regs_of (cpu_for i k)))
    && by_event (event_of (state_of (world_for i k) f i.call) i.call) i r (state_of (world_for i k) f i.call) (perform (world_for i k) i.call).after k

abbrev nothing : Row
nothing = record { families = []; ways = []; classes = []; what = pc; when = always }

-- the row's difference on kind k: within the premises, the manual's value is that of the input and ours another
abbrev pub differs : Input → ℕ → Bool
differs i k = not (eqb i.manual i.ours) && by_family (family_of k) i (get_or differences i.row nothing) k

abbrev pub on_all : Input → List ℕ → Bool
on_all i [] = true
on_all i (k ∷ ks) = differs i k && on_all i ks

-- ---- every row

abbrev one : (n : ℕ) → Bool
one n = on_all (get_or inputs n (plainly 0 [] read 0 0 0 0)) (get_or inputs n (plainly 0 [] read 0 0 0 0)).kinds

pub input_0 : one 0 ≡ true
unfolding shown
input_0 = refl

pub input_1 : one 1 ≡ true
unfolding shown
input_1 = refl

pub input_2 : one 2 ≡ true
unfolding shown
input_2 = refl

pub input_3 : one 3 ≡ true
unfolding shown
input_3 = refl

pub input_4 : one 4 ≡ true
unfolding shown
input_4 = refl

pub input_5 : one 5 ≡ true
unfolding shown
input_5 = refl

pub input_6 : one 6 ≡ true
unfolding shown
input_6 = refl

pub input_7 : one 7 ≡ true
unfolding shown
input_7 = refl

pub input_8 : one 8 ≡ true
unfolding shown
input_8 = refl

pub input_9 : one 9 ≡ true
unfolding shown
input_9 = refl

pub input_10 : one 10 ≡ true
unfolding shown
input_10 = refl

pub input_11 : one 11 ≡ true
unfolding shown
input_11 = refl

pub input_12 : one 12 ≡ true
unfolding shown
input_12 = refl

pub input_13 : one 13 ≡ true
unfolding shown
input_13 = refl

pub input_14 : one 14 ≡ true
unfolding shown
input_14 = refl

pub input_15 : one 15 ≡ true
unfolding shown
input_15 = refl

pub input_16 : one 16 ≡ true
unfolding shown
input_16 = refl

pub input_17 : one 17 ≡ true
unfolding shown
input_17 = refl

pub input_18 : one 18 ≡ true
unfolding shown
input_18 = refl

pub input_19 : one 19 ≡ true
unfolding shown
input_19 = refl

pub input_20 : one 20 ≡ true
unfolding shown
input_20 = refl

pub input_21 : one 21 ≡ true
unfolding shown
input_21 = refl

pub input_22 : one 22 ≡ true
unfolding shown
input_22 = refl

pub input_23 : one 23 ≡ true
unfolding shown
input_23 = refl

pub input_24 : one 24 ≡ true
unfolding shown
input_24 = refl

pub input_25 : one 25 ≡ true
unfolding shown
input_25 = refl

pub input_26 : one 26 ≡ true
unfolding shown
input_26 = refl

pub input_27 : one 27 ≡ true
unfolding shown
input_27 = refl

pub input_28 : one 28 ≡ true
unfolding shown
input_28 = refl

pub input_29 : one 29 ≡ true
unfolding shown
input_29 = refl

pub input_30 : one 30 ≡ true
unfolding shown
input_30 = refl

pub input_31 : one 31 ≡ true
unfolding shown
input_31 = refl

pub input_32 : one 32 ≡ true
unfolding shown
input_32 = refl

pub input_33 : one 33 ≡ true
unfolding shown
input_33 = refl

pub input_34 : one 34 ≡ true
unfolding shown
input_34 = refl

pub input_35 : one 35 ≡ true
unfolding shown
input_35 = refl

pub input_36 : one 36 ≡ true
unfolding shown
input_36 = refl

pub input_37 : one 37 ≡ true
unfolding shown
input_37 = refl

pub input_38 : one 38 ≡ true
unfolding shown
input_38 = refl

pub input_39 : one 39 ≡ true
unfolding shown
input_39 = refl

pub input_40 : one 40 ≡ true
unfolding shown
input_40 = refl

pub input_41 : one 41 ≡ true
unfolding shown
input_41 = refl

pub input_42 : one 42 ≡ true
unfolding shown
input_42 = refl

pub input_43 : one 43 ≡ true
unfolding shown
input_43 = refl

pub input_44 : one 44 ≡ true
unfolding shown
input_44 = refl

pub input_45 : one 45 ≡ true
unfolding shown
input_45 = refl

pub input_46 : one 46 ≡ true
unfolding shown
input_46 = refl

pub input_47 : one 47 ≡ true
unfolding shown
input_47 = refl

pub input_48 : one 48 ≡ true
unfolding shown
input_48 = refl

pub input_49 : one 49 ≡ true
unfolding shown
input_49 = refl

pub input_50 : one 50 ≡ true
unfolding shown
input_50 = refl

pub input_51 : one 51 ≡ true
unfolding shown
input_51 = refl

pub input_52 : one 52 ≡ true
unfolding shown
input_52 = refl

-- THE INPUTS: each shows its row's difference on each of its kinds
abbrev pub AllShown : List Input → Type 0
AllShown [] = Unit {0}
AllShown (i ∷ is) = (on_all i i.kinds ≡ true) × AllShown is

-- and every row of the table has one on each kind of its parts for each of its exceptions; the rows of the vector base and the pins, which are of any
-- exception, have one
abbrev class_number : Option Event → ℕ
class_number none = 99
class_number (some e) = place e.class

abbrev class_by : Option Family → Input → ℕ → ℕ
class_by none i k = 99
class_by (some f) i k = class_number (event_of (state_of (world_for i k) f i.call) i.call)

abbrev among : ℕ → List ℕ → Bool
among k [] = false
among k (j ∷ js) = eqb k j || among k js

-- an input of row r on kind k for the exception of number c
abbrev has : ℕ → ℕ → ℕ → List Input → Bool
has r k c [] = false
has r k c (i ∷ is) = (eqb i.row r && (among k i.kinds && eqb (class_by (family_of k) i k) c)) || has r k c is

abbrev has_classes : ℕ → ℕ → List Class → List Input → Bool
has_classes r k [] is = true
has_classes r k (c ∷ cs) is = has r k (place c) is && has_classes r k cs is

abbrev in_families : Option Family → List Family → Bool
in_families none fs = false
in_families (some f) fs = among (number f) (numbers fs)
  where
    numbers : List Family → List ℕ
    numbers [] = []
    numbers (g ∷ gs) = number g ∷ numbers gs

abbrev has_kinds : ℕ → Row → ℕ → List Input → Bool
has_kinds r w zero is = true
has_kinds r w (suc k) is = (not (in_families (family_of k) w.families) || has_classes r k w.classes is) && has_kinds r w k is

abbrev has_one : ℕ → List Input → Bool
has_one r [] = false
has_one r (i ∷ is) = eqb i.row r || has_one r is

abbrev of_any : When → Bool
of_any always = false
of_any not_zero = false
of_any chk = false
of_any vectored = false
of_any in_master' = false
of_any based = true
of_any of_the_bus = false
of_any past24 = true

abbrev pub has_all : ℕ → List Row → List Input → Bool
has_all r [] is = true
has_all r (w ∷ ws) is = cond (of_any w.when) (has_one r is) (has_kinds r w 12 is) && has_all (suc r) ws is

pub every_row : has_all 0 differences inputs ≡ true
unfolding shown
every_row = refl
