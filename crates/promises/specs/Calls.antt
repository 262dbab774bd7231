-- THE PUBLIC CALL: how many events an accepted call makes and what the log says then, the cycles that it answers, and the
-- interrupt call.
use Rattle.std.specs.Prelude.{ℕ, ◌*◌, ◌≤◌, ◌≡◌, Bool, List, ◌++◌, drop}
use Rattle.std.proofs.Math.Path.{refl, ap}
use Rattle.std.proofs.Common.{arith}
use Rattle.std.proofs.Math.Bool.{true, false}
use Rattle.std.proofs.Math.ListN.{length}
use Rattle.types.specs.Kinds.{pick, is_pre68020, is_prefetch_kind, is040, is060}
use Rattle.types.specs.Tables.{exception_cycles}
use Rattle.cpu.specs.Fields.{in_exception}
use Rattle.memory.specs.LogLaws.{Event, spell}
use Rattle.memory.specs.World.{World, cpu_of}
use Rattle.exceptions.specs.Exceptions.{take_exception, trap, take_rewound, take_group2, exception_trace, take_fp_unimp060, take_fp_disabled060}
use Rattle.bounds.specs.ErrorFrames.{bus_writes, address_writes}
use Rattle.bounds.specs.Levels.{clash}
use Rattle.bounds.specs.Events.{guard_cost}
use Rattle.answers.specs.declared.Call.{Call}
use Rattle.answers.specs.declared.Call.TheVariants.{TakeException, Trap, TakeGroup2Exception, ExceptionChk, ExceptionZeroDivide, ExceptionPrivilege, ExceptionTrace, ExceptionAddressError, ExceptionBusError, TakeFpUnimp060, TakeFpDisabled060, TakeAlineException, TakeFlineException, TakeTrapException, TakeBkptException, TakeIllegalException, TriggerAddressError, TriggerBusError, CheckTrace, SetIrq, CheckInterrupts, CheckAndServiceInterrupts, Read16, Read32, Write16, Write32, Push16, Push32, PrefetchFirst, PrefetchSecond}
use Rattle.answers.specs.Answer.{Cycles}
use Rattle.answers.specs.Matters.{matter_of}
use Rattle.answers.specs.Answers.{refused_by, count_of, Performed, events_of, cycles, flag, plain, of_entry, of_read, of_service, of_trace}
use Rattle.calls.specs.Calls.{run}
use Rattle.promises.specs.Entries.{entry_cost}
use Rattle.promises.specs.Cycles.{take_exception_cycles, take_rewound_cycles, trap_cycles}

-- ---- events

-- no accepted call makes more events than this, on any kind that accepts it; `Sharp` has a world for each call that makes just so many
unfoldable pub most_events : Call → ℕ
most_events (TakeException v) = 16
most_events (Trap n) = 16
most_events (TakeGroup2Exception v) = 37
most_events ExceptionChk = 37
most_events ExceptionZeroDivide = 37
most_events ExceptionPrivilege = 16
most_events ExceptionTrace = 37
most_events (ExceptionAddressError a wr i) = 36
most_events (ExceptionBusError a wr i z cause) = 61
most_events (TakeFpUnimp060 ea) = 14
most_events TakeFpDisabled060 = 15
most_events TakeAlineException = 16
most_events TakeFlineException = 16
most_events (TakeTrapException n) = 16
most_events TakeBkptException = 16
most_events TakeIllegalException = 16
most_events (TriggerAddressError a wr i) = 36
most_events (TriggerBusError a wr i z) = 31
most_events CheckTrace = 0
most_events (SetIrq n) = 0
most_events CheckInterrupts = 0
most_events CheckAndServiceInterrupts = 40
most_events (Read16 a) = 32
most_events (Read32 a) = 32
most_events (Write16 a v) = 32
most_events (Write32 a v) = 32
most_events (Push16 v) = 32
most_events (Push32 v) = 32
most_events PrefetchFirst = 15
most_events PrefetchSecond = 15

-- each is 61 at most
pub most_61 : (c : Call) → most_events c ≤ 61
unfolding most_events
most_61 (TakeException v) = omega arith
most_61 (Trap n) = omega arith
most_61 (TakeGroup2Exception v) = omega arith
most_61 ExceptionChk = omega arith
most_61 ExceptionZeroDivide = omega arith
most_61 ExceptionPrivilege = omega arith
most_61 ExceptionTrace = omega arith
most_61 (ExceptionAddressError a wr i) = omega arith
most_61 (ExceptionBusError a wr i z cause) = omega arith
most_61 (TakeFpUnimp060 ea) = omega arith
most_61 TakeFpDisabled060 = omega arith
most_61 TakeAlineException = omega arith
most_61 TakeFlineException = omega arith
most_61 (TakeTrapException n) = omega arith
most_61 TakeBkptException = omega arith
most_61 TakeIllegalException = omega arith
most_61 (TriggerAddressError a wr i) = omega arith
most_61 (TriggerBusError a wr i z) = omega arith
most_61 CheckTrace = omega arith
most_61 (SetIrq n) = omega arith
most_61 CheckInterrupts = omega arith
most_61 CheckAndServiceInterrupts = omega arith
most_61 (Read16 a) = omega arith
most_61 (Read32 a) = omega arith
most_61 (Write16 a v) = omega arith
most_61 (Write32 a v) = omega arith
most_61 (Push16 v) = omega arith
most_61 (Push32 v) = omega arith
most_61 PrefetchFirst = omega arith
most_61 PrefetchSecond = omega arith

-- and a log that is accepted has room for them: a call that is lent none makes none
pub room : (c : Call) (len : ℕ) → ((matter_of c).log ≡ true → 192 ≤ len) → most_events c * 3 ≤ len
unfolding most_events matter_of
room (TakeException v) len f = let h = f refl in omega arith
room (Trap n) len f = let h = f refl in omega arith
room (TakeGroup2Exception v) len f = let h = f refl in omega arith
room ExceptionChk len f = let h = f refl in omega arith
room ExceptionZeroDivide len f = let h = f refl in omega arith
room ExceptionPrivilege len f = let h = f refl in omega arith
room ExceptionTrace len f = let h = f refl in omega arith
room (ExceptionAddressError a wr i) len f = let h = f refl in omega arith
room (ExceptionBusError a wr i z cause) len f = let h = f refl in omega arith
room (TakeFpUnimp060 ea) len f = let h = f refl in omega arith
room TakeFpDisabled060 len f = let h = f refl in omega arith
room TakeAlineException len f = let h = f refl in omega arith
room TakeFlineException len f = let h = f refl in omega arith
room (TakeTrapException n) len f = let h = f refl in omega arith
room TakeBkptException len f = let h = f refl in omega arith
room TakeIllegalException len f = let h = f refl in omega arith
room (TriggerAddressError a wr i) len f = let h = f refl in omega arith
room (TriggerBusError a wr i z) len f = let h = f refl in omega arith
room CheckTrace len f = omega arith
room (SetIrq n) len f = omega arith
room CheckInterrupts len f = omega arith
room CheckAndServiceInterrupts len f = let h = f refl in omega arith
room (Read16 a) len f = let h = f refl in omega arith
room (Read32 a) len f = let h = f refl in omega arith
room (Write16 a v) len f = let h = f refl in omega arith
room (Write32 a v) len f = let h = f refl in omega arith
room (Push16 v) len f = let h = f refl in omega arith
room (Push32 v) len f = let h = f refl in omega arith
room PrefetchFirst len f = let h = f refl in omega arith
room PrefetchSecond len f = let h = f refl in omega arith

-- on kind 11 a bus fault costs 7
pub unimp_060 : (k : ℕ) → k ≡ 11 → entry_cost k (guard_cost k) 4 ≤ 14
unfolding bus_writes address_writes is_pre68020 is_prefetch_kind is040 is060
unimp_060 k e = rw e (omega arith)

pub disabled_060 : (k : ℕ) → k ≡ 11 → entry_cost k (guard_cost k) 5 ≤ 15
unfolding bus_writes address_writes is_pre68020 is_prefetch_kind is040 is060
disabled_060 k e = rw e (omega arith)

-- its answer tells its events, and no refusal
pub run_count : (c : Call) (w : World) → count_of (run w c).answer ≡ events_of (run w c).after.core
unfolding run count_of of_entry of_read of_service of_trace cycles flag plain
run_count (TakeException v) w = refl
run_count (Trap n) w = refl
run_count (TakeGroup2Exception v) w = refl
run_count ExceptionChk w = refl
run_count ExceptionZeroDivide w = refl
run_count ExceptionPrivilege w = refl
run_count ExceptionTrace w = refl
run_count (ExceptionAddressError a wr i) w = refl
run_count (ExceptionBusError a wr i z cause) w = refl
run_count (TakeFpUnimp060 ea) w = refl
run_count TakeFpDisabled060 w = refl
run_count TakeAlineException w = refl
run_count TakeFlineException w = refl
run_count (TakeTrapException n) w = refl
run_count TakeBkptException w = refl
run_count TakeIllegalException w = refl
run_count (TriggerAddressError a wr i) w = refl
run_count (TriggerBusError a wr i z) w = refl
run_count CheckTrace w = refl
run_count (SetIrq n) w = refl
run_count CheckInterrupts w = refl
run_count CheckAndServiceInterrupts w = refl
run_count (Read16 a) w = refl
run_count (Read32 a) w = refl
run_count (Write16 a v) w = refl
run_count (Write32 a v) w = refl
run_count (Push16 v) w = refl
run_count (Push32 v) w = refl
run_count PrefetchFirst w = refl
run_count PrefetchSecond w = refl

pub run_accepts : (c : Call) (w : World) → refused_by (run w c).answer ≡ 0
unfolding run refused_by of_entry of_read of_service of_trace cycles flag plain
run_accepts (TakeException v) w = refl
run_accepts (Trap n) w = refl
run_accepts (TakeGroup2Exception v) w = refl
run_accepts ExceptionChk w = refl
run_accepts ExceptionZeroDivide w = refl
run_accepts ExceptionPrivilege w = refl
run_accepts ExceptionTrace w = refl
run_accepts (ExceptionAddressError a wr i) w = refl
run_accepts (ExceptionBusError a wr i z cause) w = refl
run_accepts (TakeFpUnimp060 ea) w = refl
run_accepts TakeFpDisabled060 w = refl
run_accepts TakeAlineException w = refl
run_accepts TakeFlineException w = refl
run_accepts (TakeTrapException n) w = refl
run_accepts TakeBkptException w = refl
run_accepts TakeIllegalException w = refl
run_accepts (TriggerAddressError a wr i) w = refl
run_accepts (TriggerBusError a wr i z) w = refl
run_accepts CheckTrace w = refl
run_accepts (SetIrq n) w = refl
run_accepts CheckInterrupts w = refl
run_accepts CheckAndServiceInterrupts w = refl
run_accepts (Read16 a) w = refl
run_accepts (Read32 a) w = refl
run_accepts (Write16 a v) w = refl
run_accepts (Write32 a v) w = refl
run_accepts (Push16 v) w = refl
run_accepts (Push32 v) w = refl
run_accepts PrefetchFirst w = refl
run_accepts PrefetchSecond w = refl

-- what a call performed tells of its events: m at most, the answer has their number, and the log is their words and then what it
-- held, so that no word beyond them is touched
pub record Told (m : ℕ) (l : List ℕ) (x : Performed) : Type 0 where
  pub es : List Event
  pub few : length es ≤ m
  pub answers : count_of x.answer ≡ length es
  pub count : events_of x.after.core ≡ length es
  pub log : x.after.log ≡ spell es ++ drop (length es * 3) l

-- ---- cycles

-- the entries: calls 1 to 16
unfoldable pub is_entry : Call → Bool
is_entry (TakeException v) = true
is_entry (Trap n) = true
is_entry (TakeGroup2Exception v) = true
is_entry ExceptionChk = true
is_entry ExceptionZeroDivide = true
is_entry ExceptionPrivilege = true
is_entry ExceptionTrace = true
is_entry (ExceptionAddressError a wr i) = true
is_entry (ExceptionBusError a wr i z cause) = true
is_entry (TakeFpUnimp060 ea) = true
is_entry TakeFpDisabled060 = true
is_entry TakeAlineException = true
is_entry TakeFlineException = true
is_entry (TakeTrapException n) = true
is_entry TakeBkptException = true
is_entry TakeIllegalException = true
is_entry (TriggerAddressError a wr i) = false
is_entry (TriggerBusError a wr i z) = false
is_entry CheckTrace = false
is_entry (SetIrq n) = false
is_entry CheckInterrupts = false
is_entry CheckAndServiceInterrupts = false
is_entry (Read16 a) = false
is_entry (Read32 a) = false
is_entry (Write16 a v) = false
is_entry (Write32 a v) = false
is_entry (Push16 v) = false
is_entry (Push32 v) = false
is_entry PrefetchFirst = false
is_entry PrefetchSecond = false

-- the cycles of an entry: those of the table at its vector; `underway` is whether an entry is under way, which halts at once
unfoldable pub cycles_of : Bool → Call → ℕ
cycles_of underway (TakeException v) = pick underway 0 (exception_cycles v)
cycles_of underway (Trap n) = pick underway 0 34
cycles_of underway (TakeGroup2Exception v) = exception_cycles v
cycles_of underway ExceptionChk = 40
cycles_of underway ExceptionZeroDivide = 38
cycles_of underway ExceptionPrivilege = pick underway 0 34
cycles_of underway ExceptionTrace = 34
cycles_of underway (ExceptionAddressError a wr i) = 50
cycles_of underway (ExceptionBusError a wr i z cause) = 50
cycles_of underway (TakeFpUnimp060 ea) = 34
cycles_of underway TakeFpDisabled060 = 34
cycles_of underway TakeAlineException = pick underway 0 34
cycles_of underway TakeFlineException = pick underway 0 34
cycles_of underway (TakeTrapException n) = pick underway 0 34
cycles_of underway TakeBkptException = pick underway 0 34
cycles_of underway TakeIllegalException = pick underway 0 34
cycles_of underway (TriggerAddressError a wr i) = 0
cycles_of underway (TriggerBusError a wr i z) = 0
cycles_of underway CheckTrace = 0
cycles_of underway (SetIrq n) = 0
cycles_of underway CheckInterrupts = 0
cycles_of underway CheckAndServiceInterrupts = 0
cycles_of underway (Read16 a) = 0
cycles_of underway (Read32 a) = 0
cycles_of underway (Write16 a v) = 0
cycles_of underway (Write32 a v) = 0
cycles_of underway (Push16 v) = 0
cycles_of underway (Push32 v) = 0
cycles_of underway PrefetchFirst = 0
cycles_of underway PrefetchSecond = 0

pub run_cycles : (c : Call) (w : World) → is_entry c ≡ true → (run w c).answer ≡ Cycles (cycles_of (in_exception (cpu_of w)) c) (events_of (run w c).after.core)
unfolding is_entry cycles_of run of_entry of_read of_service of_trace cycles flag plain exception_trace take_group2 take_fp_unimp060 take_fp_disabled060 exception_cycles
run_cycles (TakeException v) w e = ap (λ n. Cycles n (events_of (take_exception w v).after.core)) (take_exception_cycles w v)
run_cycles (Trap n) w e = ap (λ x. Cycles x (events_of (trap w n).after.core)) (trap_cycles w n)
run_cycles (TakeGroup2Exception v) w e = refl
run_cycles ExceptionChk w e = refl
run_cycles ExceptionZeroDivide w e = refl
run_cycles ExceptionPrivilege w e = ap (λ n. Cycles n (events_of (take_exception w 8).after.core)) (take_exception_cycles w 8)
run_cycles ExceptionTrace w e = refl
run_cycles (ExceptionAddressError a wr i) w e = refl
run_cycles (ExceptionBusError a wr i z cause) w e = refl
run_cycles (TakeFpUnimp060 ea) w e = refl
run_cycles TakeFpDisabled060 w e = refl
run_cycles TakeAlineException w e = ap (λ n. Cycles n (events_of (take_rewound w 10).after.core)) (take_rewound_cycles w 10)
run_cycles TakeFlineException w e = ap (λ n. Cycles n (events_of (take_rewound w 11).after.core)) (take_rewound_cycles w 11)
run_cycles (TakeTrapException n) w e = ap (λ x. Cycles x (events_of (trap w n).after.core)) (trap_cycles w n)
run_cycles TakeBkptException w e = ap (λ n. Cycles n (events_of (take_rewound w 4).after.core)) (take_rewound_cycles w 4)
run_cycles TakeIllegalException w e = ap (λ n. Cycles n (events_of (take_rewound w 4).after.core)) (take_rewound_cycles w 4)
run_cycles (TriggerAddressError a wr i) w e = clash {b = false} e refl
run_cycles (TriggerBusError a wr i z) w e = clash {b = false} e refl
run_cycles CheckTrace w e = clash {b = false} e refl
run_cycles (SetIrq n) w e = clash {b = false} e refl
run_cycles CheckInterrupts w e = clash {b = false} e refl
run_cycles CheckAndServiceInterrupts w e = clash {b = false} e refl
run_cycles (Read16 a) w e = clash {b = false} e refl
run_cycles (Read32 a) w e = clash {b = false} e refl
run_cycles (Write16 a v) w e = clash {b = false} e refl
run_cycles (Write32 a v) w e = clash {b = false} e refl
run_cycles (Push16 v) w e = clash {b = false} e refl
run_cycles (Push32 v) w e = clash {b = false} e refl
run_cycles PrefetchFirst w e = clash {b = false} e refl
run_cycles PrefetchSecond w e = clash {b = false} e refl
