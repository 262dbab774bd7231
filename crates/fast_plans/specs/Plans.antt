-- A call as data: which entry it is, and what the entry writes.
use Rattle.std.specs.Prelude.{ℕ, ◌+◌, ◌-◌, ◌*◌, ◌/◌, ◌%◌, ◌<◌, ◌≤◌, Bool, true, false, not, eqb, ltb, get_or, Option, Some, None}
use Rattle.types.specs.Kinds.{pick, either, both, is_pre68020, is060}
use Rattle.types.specs.Tables.{exception_cycles}
use Rattle.types.specs.Vectors.{line1111}
use Rattle.status.specs.Status.{compose}
use Rattle.steps.specs.Steps.{stacks_next as stacks, iack_vector}
use Rattle.numbers.specs.declared.RawCall.{RawCall}
use Rattle.fast_plans.specs.declared.View.{View}
use Rattle.fast_plans.specs.declared.plans.EntryRow.{EntryRow}
use Rattle.fast_plans.specs.declared.plans.Plan.{Plan}
use Rattle.fast_plans.specs.declared.plans.Maker.{Maker}
use Rattle.fast_plans.specs.declared.plans.Maker.TheVariants.{Exception, Group2, Trace}
use Rattle.fast_plans.specs.declared.plans.Shape.{Shape}
use Rattle.fast_plans.specs.declared.plans.Shape.TheVariants.{Three, Short, Long, Old, Four, Late}

-- a maker and a shape as the definitions number them
abbrev pub maker_number : Maker → ℕ
maker_number Exception = 1
maker_number Group2 = 2
maker_number Trace = 3

abbrev pub shape_number : Shape → ℕ
shape_number Three = 1
shape_number Short = 2
shape_number Long = 3
shape_number Old = 4
shape_number Four = 5
shape_number Late = 6

abbrev pub row : Maker → ℕ → Bool → EntryRow
row maker v b = record { maker = maker; vector = v; rewound = b }

-- the entry of a call by number
unfoldable pub row_of : RawCall → Option EntryRow
row_of c =
    pick (eqb c.number 1) (Some (row Exception c.a false))
    (pick (eqb c.number 2) (Some (row Exception (32 + c.a % 16) false))
    (pick (eqb c.number 3) (Some (row Group2 c.a false))
    (pick (eqb c.number 4) (Some (row Group2 6 false))
    (pick (eqb c.number 5) (Some (row Group2 5 false))
    (pick (eqb c.number 6) (Some (row Exception 8 false))
    (pick (eqb c.number 7) (Some (row Trace 9 false))
    (pick (eqb c.number 12) (Some (row Exception 10 true))
    (pick (eqb c.number 13) (Some (row Exception 11 true))
    (pick (eqb c.number 14) (Some (row Exception (32 + c.a % 16) false))
    (pick (eqb c.number 15) (Some (row Exception 4 true))
    (pick (eqb c.number 16) (Some (row Exception 4 true)) None)))))))))))

abbrev pub stacks_next : ℕ → Bool
stacks_next v = stacks v

-- whether the frame is of format 2
unfoldable pub is_long : ℕ → Maker → Bool
is_long kind maker = pick (eqb (maker_number maker) 1) false (not (is_pre68020 kind))

-- the address that is stacked
unfoldable pub address_of : View → EntryRow → ℕ
address_of x r = pick (eqb (maker_number r.maker) 1) (pick r.rewound x.ppc (pick (stacks_next r.vector) x.pc x.ppc)) x.pc

-- `take_exception` halts while an entry is under way
unfoldable pub halts : View → EntryRow → Bool
halts x r = both (eqb (maker_number r.maker) 1) x.exception

unfoldable pub entry_plan : View → EntryRow → Plan
entry_plan x r =
    record {
      shape = pick (eqb x.kind 1) Three (pick (is_long x.kind r.maker) Long Short);
      bytes = pick (eqb x.kind 1) 6 (pick (is_long x.kind r.maker) 12 8);
      clocks = pick (eqb (maker_number r.maker) 2) 0 4;
      sr = compose x.flags;
      pc = address_of x r;
      extra = x.ppc;
      format = pick (is_long x.kind r.maker) 0x2000 0 + r.vector * 4;
      vector = r.vector;
      level = 0;
      response = 0;
      answer = exception_cycles r.vector;
      last = pick (eqb x.kind 1) (address_of x r / 0x10000) (compose x.flags);
      stopped = pick (eqb (maker_number r.maker) 3) (x.stopped - x.stopped % 2) x.stopped;
      mask = x.flags.int_mask;
      pending = x.flags.int_level;
      serviced = false;
      noted = false;
    }

unfoldable pub entry_of : View → EntryRow → Option Plan
entry_of x r = pick (ltb 255 r.vector) None (pick (halts x r) None (Some (entry_plan x r)))

abbrev pub entry_by : View → Option EntryRow → Option Plan
entry_by x None = None
entry_by x (Some r) = entry_of x r

-- the decision of the interrupt call
unfoldable pub takes : View → Bool
takes x = either (eqb (x.flags.int_level % 8) 7) (ltb (x.flags.int_mask / 256 % 8) (x.flags.int_level % 8))

unfoldable pub response_to : View → ℕ → ℕ
response_to x level = get_or x.responses (level % 8) 0

-- its vector
unfoldable pub vector_of : View → ℕ
vector_of x = iack_vector (response_to x (x.flags.int_level % 8)) (x.flags.int_level % 8)

unfoldable pub interrupt_plan : View → Plan
interrupt_plan x =
    record {
      shape = pick (eqb x.kind 1) Old (pick (eqb x.kind 2) Four Late);
      bytes = pick (eqb x.kind 1) 6 8;
      clocks = pick (eqb x.kind 1) 6 (pick (eqb x.kind 2) 12 0);
      sr = compose x.flags;
      pc = x.pc;
      extra = 0;
      format = vector_of x * 4;
      vector = vector_of x;
      level = x.flags.int_level % 8;
      response = response_to x (x.flags.int_level % 8);
      answer = 1;
      last = pick (eqb x.kind 1) (x.pc / 0x10000) (pick (eqb x.kind 2) (vector_of x * 4) (compose x.flags));
      stopped = 0;
      mask = x.flags.int_level % 8 * 256;
      pending = 0;
      serviced = true;
      noted = false;
    }

-- an instruction that the 68060's floating-point unit lacks: format 2 with the operand's address, and FPIAR is the instruction's
unfoldable pub unimp_plan : View → ℕ → Plan
unimp_plan x operand =
    record {
      shape = Long;
      bytes = 12;
      clocks = 0;
      sr = compose x.flags;
      pc = x.pc;
      extra = operand;
      format = 0x202C;
      vector = line1111;
      level = 0;
      response = 0;
      answer = 34;
      last = compose x.flags;
      stopped = x.stopped;
      mask = x.flags.int_mask;
      pending = x.flags.int_level;
      serviced = false;
      noted = true;
    }

unfoldable pub unimp_of : View → ℕ → Option Plan
unimp_of x operand = pick (is060 x.kind) (Some (unimp_plan x operand)) None

-- the plan of a call, or none
unfoldable pub plan_of : View → RawCall → Option Plan
plan_of x c =
    pick (eqb c.number 22) (pick x.room (Some (interrupt_plan x)) None)
    (pick (eqb c.number 10) (unimp_of x c.a) (entry_by x (row_of c)))

-- the bytes of a shape
unfoldable pub bytes_of : ℕ → ℕ
bytes_of shape = pick (eqb shape 3) 12 (pick (either (eqb shape 1) (eqb shape 4)) 6 8)

-- what a plan's numbers keep to, so that they can be written
pub record Shaped (p : Plan) : Type 0 where
  pub status : p.sr < 0x10000
  pub format : p.format < 0x10000
  pub room : bytes_of (shape_number p.shape) ≤ p.bytes
  pub vector : p.vector < 0x40000000
