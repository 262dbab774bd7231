-- The machine of the nest with the project's own calls, but for return and walk, which are parameters; and its law `entered`, whole:
-- what the entry does, that no other byte changes, and that record and store left are accepted and inside the domain.
use Rattle.std.specs.Prelude.{ℕ, zero, suc, ◌-◌, ◌/◌, ◌%◌, ◌<◌, ◌⊎◌, Bool, not, ◌||◌, List, eqb, ltb, leb, length}
use Rattle.std.proofs.Math.Path.{◌≡◌, refl, subst}
use Rattle.std.proofs.Common.{inl, inr, arith}
use Rattle.std.proofs.Math.Bool.{true, false}
use Rattle.std.proofs.Math.Option.{Option, none, some}
use borrow.Author.Tests.{eqb-true}
use Rattle.types.specs.Kinds.{pick, either, both, is_prefetch_kind}
use Rattle.cpu.specs.declared.Cpu.{Cpu}
use Rattle.cpu.specs.Fields.{kind_of, in_exception, halted, rewind_pc}
use Rattle.memory.specs.declared.Bus.{Bus}
use Rattle.memory.specs.ByteLaws.{AllBytes}
use Rattle.memory.specs.World.{World, world, tried, put_cpu, cpu_of, step}
use Rattle.types.specs.Tables.{exception_cycles}
use Rattle.pending.specs.Interrupts.{pending_level, mask_level, takes_interrupt}
use Rattle.exceptions.specs.Exceptions.{entry, take_exception, take_rewound}
use Rattle.steps.specs.Steps.{begin_entry}
use Rattle.exceptions.specs.Exceptions.{taken as done}
use Rattle.interrupts.specs.Interrupts.{check_and_service, serviced, service_interrupt}
use Rattle.refusals.specs.Refusals.{bad_flags, odd_base, bad_code, bad_store, past_top, any_past, bad_windows}
use Rattle.answers.specs.declared.Call.{Call}
use Rattle.answers.specs.declared.Call.TheVariants.{TakeException, Trap, TakeGroup2Exception, ExceptionChk, ExceptionZeroDivide, ExceptionPrivilege, ExceptionTrace, ExceptionAddressError, ExceptionBusError, TakeFpUnimp060, TakeFpDisabled060, TakeAlineException, TakeFlineException, TakeTrapException, TakeBkptException, TakeIllegalException, TriggerAddressError, TriggerBusError, CheckTrace, SetIrq, CheckInterrupts, CheckAndServiceInterrupts, Read16, Read32, Write16, Write32, Push16, Push32, PrefetchFirst, PrefetchSecond}
use Rattle.answers.specs.Answer.{Answer}
use Rattle.answers.specs.Answer.{Cycles, Flag, Value, Done, Refused}
use Rattle.answers.specs.Answers.{Performed, cycles, flag, of_entry, of_service}
use Rattle.calls.specs.Calls.{restarted, begun, refusal, perform}
use Rattle.images.specs.Pushes.{calm}
use Rattle.forms.specs.Gist.{gist}
use Rattle.forms.specs.Plans.{Plan}
use Rattle.forms.specs.Tests.{clean_test}
use Rattle.forms.specs.Forms.{plan_of}
use Rattle.nest.specs.View.{Bank, user, interrupt, master, View, set_ptr, bank, set_top}
use Rattle.nest.specs.Nest.{Entered, refused, untaken, taken}
use Rattle.entered.specs.Paper.{outside, interrupts, paper_takes}
use Rattle.entered.specs.Entered.{Inside}
use Rattle.forms.specs.Plans.{Clean}
use Rattle.nest.specs.Nest.{Machine, Returned, Walked}
use Rattle.entered.specs.Pointers.{regs_of}
use Rattle.entered.specs.Bytes.{mem_of}
use Rattle.entered.specs.Stacks.{stacks}
use Rattle.entered.specs.Paper.{paper}
use Rattle.entered.specs.Entered.{error_call}

-- ---- the machine

-- "Direct entries are all entry calls but the triggers"
abbrev pub direct : Call → Bool
direct (TakeException v) = true
direct (Trap n) = true
direct (TakeGroup2Exception v) = true
direct ExceptionChk = true
direct ExceptionZeroDivide = true
direct ExceptionPrivilege = true
direct ExceptionTrace = true
direct (ExceptionAddressError a write instruction) = true
direct (ExceptionBusError a write instruction z cause) = true
direct (TakeFpUnimp060 ea) = true
direct TakeFpDisabled060 = true
direct TakeAlineException = true
direct TakeFlineException = true
direct (TakeTrapException n) = true
direct TakeBkptException = true
direct TakeIllegalException = true
direct CheckAndServiceInterrupts = true
direct (TriggerAddressError a write instruction) = false
direct (TriggerBusError a write instruction z) = false
direct CheckTrace = false
direct (SetIrq n) = false
direct CheckInterrupts = false
direct (Read16 a) = false
direct (Read32 a) = false
direct (Write16 a v) = false
direct (Write32 a v) = false
direct (Push16 v) = false
direct (Push32 v) = false
direct PrefetchFirst = false
direct PrefetchSecond = false

pub record Direct : Type 0 where
  pub call : Call
  pub is : direct call ≡ true

-- what is lent: the bus, the store's bytes, the log
pub record Room : Type 0 where
  pub bus : Bus
  pub bytes : List ℕ
  pub log : List ℕ

abbrev pub world_of : Cpu → Room → World
world_of r s = world (record { cpu = r; bus = s.bus }) s.bytes s.log

abbrev pub room_of : World → Room
room_of w = record { bus = w.core.bus; bytes = w.store; log = w.log }

-- what the answer of a call says: the number of its refusal; the flag of the interrupt call; 0 cycles of `take_exception` inside an entry.
-- No direct entry answers otherwise
abbrev pub reads : Answer → World → Entered Cpu Room
reads (Refused n) z = refused n
reads (Flag b e) z = pick b (taken (cpu_of z) (room_of z)) (untaken (cpu_of z) (room_of z))
reads (Cycles n e) z = pick (eqb n 0) (untaken (cpu_of z) (room_of z)) (taken (cpu_of z) (room_of z))
reads (Value n e) z = untaken (cpu_of z) (room_of z)
reads (Done e) z = untaken (cpu_of z) (room_of z)

-- the call, as its own answer tells it
unfoldable pub enter_by : World → Call → Entered Cpu Room
enter_by w c = reads (perform w c).answer (perform w c).after

-- the same by the plan: accepted, and taken where the call has one
abbrev pub outcome : Option Plan → World → Entered Cpu Room
outcome none z = untaken (cpu_of z) (room_of z)
outcome (some p) z = taken (cpu_of z) (room_of z)

unfoldable pub by_plan : World → Call → Entered Cpu Room
by_plan w c = pick (eqb (refusal w c) 0) (outcome (plan_of (begun w) c) (perform w c).after) (refused (refusal w c))

-- accepted and taken, from the arguments alone: by the paper, and by the plan
unfoldable pub takes_by : World → Call → Bool
takes_by w c = pick (eqb (refusal w c) 0) (paper_takes w c) false

abbrev pub has_plan : Option Plan → Bool
has_plan none = false
has_plan (some p) = true

-- numbers 1, 2, 4, 5, 6 and 9, whose matter is record and store
pub record Passes (r : Cpu) (s : Room) : Type 0 where
  pub flags : bad_flags r ≡ false
  pub base : odd_base r ≡ false
  pub code : bad_code r ≡ false
  pub store : bad_store true s.bus (length s.bytes) ≡ false
  pub windows : bad_windows true s.bus ≡ false
  pub kind : kind_of r < 12

-- the domain: lengths, pointers; on kinds 1 and 2 also PC, PPC and the store's bytes
pub record InsideRoom (r : Cpu) (s : Room) : Type 0 where
  pub record_in : Inside r
  pub bytes : is_prefetch_kind (kind_of r) ≡ true → AllBytes s.bytes

unfoldable pub CleanCall : Direct → Cpu → Room → Type 0
CleanCall c r s = (p : Plan) → plan_of (begun (world_of r s)) c.call ≡ some p → clean_test (gist (world_of r s)) p ≡ true

-- ---- small facts

-- an entry taken was refused by no number and has a plan
pub record Took (w : World) (c : Call) (r : Cpu) (s : Room) : Type 0 where
  pub accepted : refusal w c ≡ 0
  pub plan : Plan
  pub has : plan_of (begun w) c ≡ some plan
  pub cpu_is : cpu_of (perform w c).after ≡ r
  pub room_is : room_of (perform w c).after ≡ s

pub took : (w : World) (c : Call) (r : Cpu) (s : Room) → by_plan w c ≡ taken r s → Took w c r s
unfolding by_plan
took w c r s = go (eqb (refusal w c) 0) refl (plan_of (begun w) c) refl
  where
    go : (b : Bool) → eqb (refusal w c) 0 ≡ b → (o : Option Plan) → plan_of (begun w) c ≡ o → pick b (outcome o (perform w c).after) (refused (refusal w c)) ≡ taken r s → Took w c r s
    go true e (some p) d h = record { accepted = eqb-true (refusal w c) 0 e; plan = p; has = d; cpu_is = cc; room_is = cc }
    go true e none d h = let z : ◌≡◌ {A = ℕ} 0 1 = cc in absurd (omega arith)
    go false e o d h = let z : ◌≡◌ {A = ℕ} 0 1 = cc in absurd (omega arith)

pub flags_accepted : (c : Cpu) → (c.flags.s_flag ≡ 0) ⊎ (c.flags.s_flag ≡ 4) → (c.flags.m_flag ≡ 0) ⊎ (c.flags.m_flag ≡ 2) → bad_flags c ≡ false
unfolding bad_flags
flags_accepted c a b = go c.flags.s_flag c.flags.m_flag a b
  where
    go : (s m : ℕ) → (s ≡ 0) ⊎ (s ≡ 4) → (m ≡ 0) ⊎ (m ≡ 2) → not (both (either (eqb s 0) (eqb s 4)) (either (eqb m 0) (eqb m 2))) ≡ false
    go s m (inl e) (inl f) = rw (e, f)
    go s m (inl e) (inr f) = rw (e, f)
    go s m (inr e) (inl f) = rw (e, f)
    go s m (inr e) (inr f) = rw (e, f)

past_calm : (b : Bus) (k : ℕ) → any_past (calm b) k ≡ any_past b k
unfolding any_past past_top calm
past_calm b zero = refl
past_calm b (suc k) = rw (past_calm b k)

pub windows_calm : (b : Bus) → bad_windows true (calm b) ≡ bad_windows true b
unfolding bad_windows calm
windows_calm b = rw (past_calm b b.windows)

pub store_calm : (b : Bus) (l : ℕ) → bad_store true (calm b) l ≡ bad_store true b l
unfolding bad_store calm
store_calm b l = refl

-- the paper's test is whether there is a plan
outside_is : (b : Bool) (p : Plan) → not b ≡ has_plan (pick b none (some p))
outside_is true p = refl
outside_is false p = refl

in_field : (c : Cpu) → in_exception c ≡ c.flow.exception_processing
unfolding in_exception
in_field c = refl

pub exc_takes : (w : World) (p : Plan) → outside (cpu_of w) ≡ has_plan (pick (in_exception (cpu_of w)) none (some p))
exc_takes w p = rw (in_field (cpu_of w)) (outside_is (cpu_of w).flow.exception_processing p)

pub service_takes : (w : World) (p : Plan) → interrupts (cpu_of w) ≡ has_plan (pick (takes_interrupt (cpu_of w)) (some p) none)
unfolding takes_interrupt pending_level mask_level
service_takes w p = go (eqb ((cpu_of w).flags.int_level % 8) 7) (ltb ((cpu_of w).flags.int_mask / 256 % 8) ((cpu_of w).flags.int_level % 8))
  where
    go : (a b : Bool) → (a || b) ≡ has_plan (pick (either a b) (some p) none)
    go true b = refl
    go false true = refl
    go false false = refl

pub begun_takes : (w : World) (c : Call) → paper_takes (begun w) c ≡ paper_takes w c
unfolding paper_takes begun restarted
begun_takes w (TakeException v) = refl
begun_takes w (Trap n) = refl
begun_takes w (TakeTrapException n) = refl
begun_takes w ExceptionPrivilege = refl
begun_takes w TakeAlineException = refl
begun_takes w TakeFlineException = refl
begun_takes w TakeBkptException = refl
begun_takes w TakeIllegalException = refl
begun_takes w CheckAndServiceInterrupts = refl
begun_takes w (TakeGroup2Exception v) = refl
begun_takes w ExceptionChk = refl
begun_takes w ExceptionZeroDivide = refl
begun_takes w ExceptionTrace = refl
begun_takes w (ExceptionAddressError a write instruction) = refl
begun_takes w (ExceptionBusError a write instruction z cause) = refl
begun_takes w (TakeFpUnimp060 ea) = refl
begun_takes w TakeFpDisabled060 = refl
begun_takes w (TriggerAddressError a write instruction) = refl
begun_takes w (TriggerBusError a write instruction z) = refl
begun_takes w CheckTrace = refl
begun_takes w (SetIrq n) = refl
begun_takes w CheckInterrupts = refl
begun_takes w (Read16 a) = refl
begun_takes w (Read32 a) = refl
begun_takes w (Write16 a v) = refl
begun_takes w (Write32 a v) = refl
begun_takes w (Push16 v) = refl
begun_takes w (Push32 v) = refl
begun_takes w PrefetchFirst = refl
begun_takes w PrefetchSecond = refl

-- ---- the answer agrees with the plan

pub none_of : {A : Type 0} → true ≡ false → A
none_of e = let z : ◌≡◌ {A = ℕ} 0 1 = cc in absurd (omega arith)

-- no vector costs 0 cycles
costs : (v : ℕ) → eqb (exception_cycles v) 0 ≡ false
unfolding exception_cycles
costs v = go (either (ltb v 2) (eqb v 6)) (either (eqb v 2) (eqb v 3)) (eqb v 5) (both (leb 24 v) (leb v 31))
  where
    go : (p q r t : Bool) → eqb (pick p 40 (pick q 50 (pick r 38 (pick t 44 34)))) 0 ≡ false
    go true q r t = refl
    go false true r t = refl
    go false false true t = refl
    go false false false true = refl
    go false false false false = refl

abbrev pub Agrees : Performed → Option Plan → Type 0
Agrees x o = reads x.answer x.after ≡ outcome o x.after

pub exc_reads : (w : World) (v : ℕ) (p : Plan) → Agrees (of_entry (take_exception w v)) (pick (in_exception (cpu_of w)) none (some p))
unfolding of_entry cycles take_exception
exc_reads w v p = go (in_exception (cpu_of w))
  where
    go : (b : Bool) → Agrees (of_entry (pick b (entry (step halted w) 0) (entry (done (step begin_entry w) v) (exception_cycles v)))) (pick b none (some p))
    go true = refl
    go false = rw (costs v)

rewound_in : (c : Cpu) → in_exception (rewind_pc c) ≡ in_exception c
unfolding in_exception rewind_pc
rewound_in c = refl

pub rewound_reads : (w : World) (v : ℕ) (p : Plan) → Agrees (of_entry (take_rewound w v)) (pick (in_exception (cpu_of w)) none (some p))
unfolding take_rewound put_cpu
rewound_reads w v p =
    subst (λ (b : Bool). Agrees (of_entry (take_exception (step rewind_pc w) v)) (pick b none (some p))) (rewound_in (cpu_of w)) (exc_reads (step rewind_pc w) v p)

pub costly : (z : World) (v : ℕ) (p : Plan) → Agrees (of_entry (entry z (exception_cycles v))) (some p)
unfolding of_entry cycles
costly z v p = rw (costs v)

pub service_reads : (w : World) (p : Plan) → Agrees (of_service (check_and_service w)) (pick (takes_interrupt (cpu_of w)) (some p) none)
unfolding of_service flag check_and_service
service_reads w p = go (takes_interrupt (cpu_of w))
  where
    go : (b : Bool) → Agrees (of_service (pick b (tried (serviced (service_interrupt w (pending_level (cpu_of w)))) true) (tried w false))) (pick b (some p) none)
    go true = refl
    go false = refl

pub set_top_kind : (v : View) (p : ℕ) → (set_top v p).kind ≡ v.kind
set_top_kind v p = go (bank v)
  where
    go : (B : Bank) → (set_ptr v B p).kind ≡ v.kind
    go user = refl
    go interrupt = refl
    go master = refl

module _ (give_back : Cpu → Room → Returned Cpu) (walk : ℕ → ℕ → Cpu → Room → Walked) where
  -- the project's machine, over any return and walk
  abbrev pub machine : Machine
  machine =
      record {
        Rec = Cpu;
        Sto = Room;
        Call = Direct;
        regs = regs_of;
        mem = λ s. mem_of s.bus s.bytes;
        enter = λ c r s. enter_by (world_of r s) c.call;
        give_back = give_back;
        walk = walk;
        takes = λ c r s. takes_by (world_of r s) c.call;
        stacks = λ c r s. paper (world_of r s) c.call;
        Clean = CleanCall;
        error_call = λ c. error_call c.call;
        Inside = InsideRoom;
        Passes = Passes;
      }
