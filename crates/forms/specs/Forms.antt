-- The public call: which plan a direct entry has, and that it leaves what its plan says.
use Rattle.std.specs.Prelude.{ℕ, ◌+◌, ◌%◌, ◌≡◌, refl, Bool, true, false, length, List, [], ◌∷◌}
use Rattle.std.proofs.Common.{◌∙◌, subst, arith}
use Rattle.std.proofs.Math.Option.{Option, none, some}
use Rattle.types.specs.Kinds.{pick}
use Rattle.types.specs.Causes.{cause_number}
use Rattle.cpu.specs.declared.Cpu.{Cpu}
use Rattle.cpu.specs.Fields.{in_exception, is_faulted, a7_of, kind_of, ppc_of, vbr_of, checks_alignment, has_fc_override, fc_override_of}
use Rattle.pending.specs.Interrupts.{takes_interrupt}
use Rattle.memory.specs.World.{World, put_cpu, cpu_of}
use Rattle.refusals.specs.Refusals.{odd_base, bad_code}
use Rattle.answers.specs.declared.Call.{Call}
use Rattle.answers.specs.declared.Call.TheVariants.{TakeException, Trap, TakeGroup2Exception, ExceptionChk, ExceptionZeroDivide, ExceptionPrivilege, ExceptionTrace, ExceptionAddressError, ExceptionBusError, TakeFpUnimp060, TakeFpDisabled060, TakeAlineException, TakeFlineException, TakeTrapException, TakeBkptException, TakeIllegalException, TriggerAddressError, TriggerBusError, CheckTrace, SetIrq, CheckInterrupts, CheckAndServiceInterrupts, Read16, Read32, Write16, Write32, Push16, Push32, PrefetchFirst, PrefetchSecond}
use Rattle.frames.specs.declared.Frame.{Frame}
use Rattle.answers.specs.Matters.{matter_of}
use Rattle.calls.specs.Calls.{restarted, begun}
use Rattle.images.specs.Pushes.{calm}
use Rattle.forms.specs.Gist.{gist, gist_cpu, framed_by}
use Rattle.forms.specs.Jumps.{jumped}
use Rattle.forms.specs.Kept.{Good, Steady, AllSteady, steady_gist, steady_enter, steady_leave, steady_same, steady_exception, steady_rewound, steady_traced, steady_fpiar, steady_bus, steady_level, steady_clear, steady_end, steady_close}
use Rattle.forms.specs.Tests.{framed_length, framed_bus, Whole, Safe, AllSafe, safe_same, safe_enter, safe_exception, safe_rewound, safe_traced, safe_fpiar, safe_bus, safe_level, safe_leave, safe_clear}
use Rattle.forms.specs.Plans.{Push, Plan, turned, stack_all, planned, Clean, throwaways, settles, interrupt_by, exc_plan, rewound_plan, group2_plan, trace_plan, fp_unimp_plan, fp_disabled_plan, address_plan, bus_plan, interrupt_plan}

-- `take_exception` is not taken inside an entry, an interrupt not unless its level is above the mask; the triggers and what is no
-- entry have no plan
unfoldable pub plan_of : World → Call → Option Plan
plan_of w (TakeException v) = pick (in_exception (cpu_of w)) none (some (exc_plan (cpu_of w) v))
plan_of w (Trap n) = pick (in_exception (cpu_of w)) none (some (exc_plan (cpu_of w) (32 + n % 16)))
plan_of w (TakeGroup2Exception v) = some (group2_plan (cpu_of w) v)
plan_of w ExceptionChk = some (group2_plan (cpu_of w) 6)
plan_of w ExceptionZeroDivide = some (group2_plan (cpu_of w) 5)
plan_of w ExceptionPrivilege = pick (in_exception (cpu_of w)) none (some (exc_plan (cpu_of w) 8))
plan_of w ExceptionTrace = some (trace_plan (cpu_of w))
plan_of w (ExceptionAddressError a write instruction) = some (address_plan (cpu_of w) a write instruction)
plan_of w (ExceptionBusError a write instruction z cause) = some (bus_plan (cpu_of w) a write instruction z (cause_number cause))
plan_of w (TakeFpUnimp060 ea) = some (fp_unimp_plan (cpu_of w) ea)
plan_of w TakeFpDisabled060 = some (fp_disabled_plan (cpu_of w))
plan_of w TakeAlineException = pick (in_exception (cpu_of w)) none (some (rewound_plan (cpu_of w) 10))
plan_of w TakeFlineException = pick (in_exception (cpu_of w)) none (some (rewound_plan (cpu_of w) 11))
plan_of w (TakeTrapException n) = pick (in_exception (cpu_of w)) none (some (exc_plan (cpu_of w) (32 + n % 16)))
plan_of w TakeBkptException = pick (in_exception (cpu_of w)) none (some (rewound_plan (cpu_of w) 4))
plan_of w TakeIllegalException = pick (in_exception (cpu_of w)) none (some (rewound_plan (cpu_of w) 4))
plan_of w CheckAndServiceInterrupts = pick (takes_interrupt (cpu_of w)) (some (interrupt_plan (cpu_of w) w.core.bus)) none
plan_of w (TriggerAddressError a write instruction) = none
plan_of w (TriggerBusError a write instruction z) = none
plan_of w CheckTrace = none
plan_of w (SetIrq n) = none
plan_of w CheckInterrupts = none
plan_of w (Read16 a) = none
plan_of w (Read32 a) = none
plan_of w (Write16 a v) = none
plan_of w (Write32 a v) = none
plan_of w (Push16 v) = none
plan_of w (Push32 v) = none
plan_of w PrefetchFirst = none
plan_of w PrefetchSecond = none

pub is_some : (p q : Plan) → ◌≡◌ {A = Option Plan} (some p) (some q) → p ≡ q
is_some p q e = cc

pub no_plan_lem : {A : Type 0} (p : Plan) → ◌≡◌ {A = Option Plan} none (some p) → A
no_plan_lem p e = let z : ◌≡◌ {A = ℕ} 0 1 = cc in absurd (omega arith)

-- a plan that there is only where a test fails, or holds
pub unless : (b : Bool) (p q : Plan) → pick b none (some q) ≡ some p → (b ≡ false) × (q ≡ p)
unless true p q e = no_plan_lem p e
unless false p q e = (refl, is_some q p e)

pub only_if : (b : Bool) (p q : Plan) → pick b (some q) none ≡ some p → (b ≡ true) × (q ≡ p)
only_if true p q e = (refl, is_some q p e)
only_if false p q e = no_plan_lem p e

-- what a plan says, by another name of it
pub by_name : (w z : World) (p q : Plan) → q ≡ p → (Clean (gist w) q → gist z ≡ planned (gist w) q) → Clean (gist w) p → gist z ≡ planned (gist w) p
by_name w z p q e f = subst (λ (r : Plan). Clean (gist w) r → gist z ≡ planned (gist w) r) e f

pub begun_gist : (w : World) → gist (begun w) ≡ gist w
unfolding begun restarted gist gist_cpu calm
begun_gist w = refl

-- ---- by the closed test

-- every step of a plan keeps a record of the domain inside it
abbrev pub SafePlan : Plan → Type 0
SafePlan p = AllSafe p.pushes × Safe p.settle

pub exc_safe : (c : Cpu) (v : ℕ) → SafePlan (exc_plan c v)
unfolding AllSafe exc_plan
exc_safe c v = ((safe_exception, tt), safe_same)

pub rewound_safe : (c : Cpu) (v : ℕ) → SafePlan (rewound_plan c v)
unfolding AllSafe rewound_plan
rewound_safe c v = ((safe_rewound, tt), safe_same)

pub group_safe : (c : Cpu) (v : ℕ) → SafePlan (group2_plan c v)
unfolding AllSafe group2_plan
group_safe c v = ((safe_enter, tt), safe_same)

pub trace_safe : (c : Cpu) → SafePlan (trace_plan c)
unfolding AllSafe trace_plan
trace_safe c = ((safe_traced, tt), safe_same)

pub unimp_safe : (c : Cpu) (ea : ℕ) → SafePlan (fp_unimp_plan c ea)
unfolding AllSafe fp_unimp_plan
unimp_safe c ea = ((safe_fpiar, tt), safe_same)

pub disabled_safe : (c : Cpu) → SafePlan (fp_disabled_plan c)
unfolding AllSafe fp_disabled_plan
disabled_safe c = ((safe_enter, tt), safe_same)

pub address_safe : (c : Cpu) (a : ℕ) (write instruction : Bool) → SafePlan (address_plan c a write instruction)
unfolding AllSafe address_plan
address_safe c a write instruction = ((safe_enter, tt), safe_same)

pub bus_safe : (c : Cpu) (a : ℕ) (write instruction : Bool) (z cause : ℕ) → SafePlan (bus_plan c a write instruction z cause)
unfolding AllSafe bus_plan
bus_safe c a write instruction z cause = ((safe_bus, tt), safe_same)

pub interrupt_safe : (c : Cpu) (level v : ℕ) (m master six : Bool) → SafePlan (interrupt_by c level v m master six)
unfolding AllSafe interrupt_by throwaways settles
interrupt_safe c level v true true six = ((safe_level level, (safe_leave, tt)), safe_same)
interrupt_safe c level v true false true = ((safe_level level, tt), safe_clear)
interrupt_safe c level v true false false = ((safe_level level, tt), safe_same)
interrupt_safe c level v false true six = ((safe_level level, tt), safe_same)
interrupt_safe c level v false false six = ((safe_level level, tt), safe_same)

pub named_safe : (p q : Plan) → q ≡ p → SafePlan q → SafePlan p
named_safe p q e s = subst SafePlan e s

-- a direct entry is lent a store
pub plan_lent : (w : World) (c : Call) (p : Plan) → plan_of w c ≡ some p → (matter_of c).store ≡ true
unfolding plan_of matter_of
plan_lent w (TakeException v) p e = refl
plan_lent w (Trap n) p e = refl
plan_lent w ExceptionPrivilege p e = refl
plan_lent w (TakeTrapException n) p e = refl
plan_lent w TakeAlineException p e = refl
plan_lent w TakeFlineException p e = refl
plan_lent w TakeBkptException p e = refl
plan_lent w TakeIllegalException p e = refl
plan_lent w (TakeGroup2Exception v) p e = refl
plan_lent w ExceptionChk p e = refl
plan_lent w ExceptionZeroDivide p e = refl
plan_lent w ExceptionTrace p e = refl
plan_lent w (ExceptionAddressError a write instruction) p e = refl
plan_lent w (ExceptionBusError a write instruction z cause) p e = refl
plan_lent w (TakeFpUnimp060 ea) p e = refl
plan_lent w TakeFpDisabled060 p e = refl
plan_lent w CheckAndServiceInterrupts p e = refl
plan_lent w (TriggerAddressError a write instruction) p e = no_plan_lem p e
plan_lent w (TriggerBusError a write instruction z) p e = no_plan_lem p e
plan_lent w CheckTrace p e = no_plan_lem p e
plan_lent w (SetIrq n) p e = no_plan_lem p e
plan_lent w CheckInterrupts p e = no_plan_lem p e
plan_lent w (Read16 a) p e = no_plan_lem p e
plan_lent w (Read32 a) p e = no_plan_lem p e
plan_lent w (Write16 a v) p e = no_plan_lem p e
plan_lent w (Write32 a v) p e = no_plan_lem p e
plan_lent w (Push16 v) p e = no_plan_lem p e
plan_lent w (Push32 v) p e = no_plan_lem p e
plan_lent w PrefetchFirst p e = no_plan_lem p e
plan_lent w PrefetchSecond p e = no_plan_lem p e

pub gist_whole : (w : World) → Whole (cpu_of w) → Whole (cpu_of (gist w))
unfolding gist gist_cpu is_faulted a7_of
gist_whole w h = record { running = h.running; registers = h.registers; pointers = h.pointers; a7 = h.a7; saved = h.saved }

pub gist_length : (w : World) → length (gist w).store ≡ length w.store
unfolding gist
gist_length w = refl

-- ---- what an entry leaves is accepted and inside the domain

pub record SteadyPlan (p : Plan) : Type 0 where
  pub pushes : AllSteady p.pushes
  pub settle : Steady p.settle
  pub close : Steady p.close

pub exc_steady : (c : Cpu) (v : ℕ) → SteadyPlan (exc_plan c v)
unfolding AllSteady exc_plan
exc_steady c v = record { pushes = (steady_exception, tt); settle = steady_same; close = steady_end }

pub rewound_steady : (c : Cpu) (v : ℕ) → SteadyPlan (rewound_plan c v)
unfolding AllSteady rewound_plan
rewound_steady c v = record { pushes = (steady_rewound, tt); settle = steady_same; close = steady_end }

pub group_steady : (c : Cpu) (v : ℕ) → SteadyPlan (group2_plan c v)
unfolding AllSteady group2_plan
group_steady c v = record { pushes = (steady_enter, tt); settle = steady_same; close = steady_same }

pub trace_steady : (c : Cpu) → SteadyPlan (trace_plan c)
unfolding AllSteady trace_plan
trace_steady c = record { pushes = (steady_traced, tt); settle = steady_same; close = steady_same }

pub unimp_steady : (c : Cpu) (ea : ℕ) → SteadyPlan (fp_unimp_plan c ea)
unfolding AllSteady fp_unimp_plan
unimp_steady c ea = record { pushes = (steady_fpiar, tt); settle = steady_same; close = steady_same }

pub disabled_steady : (c : Cpu) → SteadyPlan (fp_disabled_plan c)
unfolding AllSteady fp_disabled_plan
disabled_steady c = record { pushes = (steady_enter, tt); settle = steady_same; close = steady_same }

pub address_steady : (c : Cpu) (a : ℕ) (write instruction : Bool) → SteadyPlan (address_plan c a write instruction)
unfolding AllSteady address_plan
address_steady c a write instruction = record { pushes = (steady_enter, tt); settle = steady_same; close = steady_same }

pub bus_steady : (c : Cpu) (a : ℕ) (write instruction : Bool) (z cause : ℕ) → SteadyPlan (bus_plan c a write instruction z cause)
unfolding AllSteady bus_plan
bus_steady c a write instruction z cause = record { pushes = (steady_bus, tt); settle = steady_same; close = steady_same }

pub interrupt_steady : (c : Cpu) (level v : ℕ) (m master six : Bool) → SteadyPlan (interrupt_by c level v m master six)
unfolding AllSteady interrupt_by throwaways settles
interrupt_steady c level v true true six = record { pushes = (steady_level level, (steady_leave, tt)); settle = steady_same; close = steady_close }
interrupt_steady c level v true false true = record { pushes = (steady_level level, tt); settle = steady_clear; close = steady_close }
interrupt_steady c level v true false false = record { pushes = (steady_level level, tt); settle = steady_same; close = steady_close }
interrupt_steady c level v false true six = record { pushes = (steady_level level, tt); settle = steady_same; close = steady_close }
interrupt_steady c level v false false six = record { pushes = (steady_level level, tt); settle = steady_same; close = steady_close }

pub named_steady : (p q : Plan) → q ≡ p → SteadyPlan q → SteadyPlan p
named_steady p q e s = subst SteadyPlan e s

pub good_gist : (w : World) → Good (cpu_of w) → Good (cpu_of (gist w))
unfolding gist
good_gist w h = steady_gist (cpu_of w) h

pub gist_good : (w : World) → Good (cpu_of (gist w)) → Good (cpu_of w)
unfolding gist gist_cpu a7_of kind_of odd_base checks_alignment vbr_of bad_code has_fc_override fc_override_of ppc_of
gist_good w h =
    record { registers = h.registers; pointers = h.pointers; a7 = h.a7; saved = h.saved; s_is_lem = h.s_is_lem; m_is_lem = h.m_is_lem; kind = h.kind; base = h.base; code = h.code; ppc = h.ppc }

-- base, windows and length of the store stay: numbers 5 and 6
pub record SameRoom (w z : World) : Type 0 where
  pub bus : calm z.core.bus ≡ calm w.core.bus
  pub size : length z.store ≡ length w.store

turned_room : (x : World) (f : Cpu → Cpu) → SameRoom x (turned x f)
unfolding turned gist put_cpu calm
turned_room x f = record { bus = refl; size = refl }

jumped_room : (x : World) (v : ℕ) → SameRoom x (jumped x v)
unfolding jumped gist put_cpu calm
jumped_room x v = record { bus = refl; size = refl }

framed_room : (y : World) (f : Frame) → SameRoom y (framed_by y f)
framed_room y f = record { bus = framed_bus y f; size = framed_length y f }

pub room_trans : {x y z : World} → SameRoom x y → SameRoom y z → SameRoom x z
room_trans a b = record { bus = b.bus ∙ a.bus; size = b.size ∙ a.size }

stack_room : (x : World) (ps : List Push) → SameRoom x (stack_all x ps)
unfolding stack_all
stack_room x [] = record { bus = refl; size = refl }
stack_room x (p ∷ ps) = room_trans (room_trans (turned_room x p.turn) (framed_room (turned x p.turn) p.frame)) (stack_room (framed_by (turned x p.turn) p.frame) ps)

pub planned_room : (x : World) (p : Plan) → SameRoom x (planned x p)
unfolding planned
planned_room x p =
    room_trans (stack_room x p.pushes) (room_trans (turned_room (stack_all x p.pushes) p.settle)
    (room_trans (jumped_room (turned (stack_all x p.pushes) p.settle) p.vector) (turned_room (jumped (turned (stack_all x p.pushes) p.settle) p.vector) p.close)))

pub gist_room : (w : World) → SameRoom w (gist w)
unfolding gist calm
gist_room w = record { bus = refl; size = refl }
