-- WHAT IS CLAIMED, in the papers' words, each stated in full. A reader stops here: the proof is the name on the right, and what the words
-- of a statement mean is in the `specs` of the crate that they are taken from. The contract of the calls is an equation with `perform`, those
-- of return and walk with `return_from` and `walk_from`, and that of a block of a session's input with `taken_all`.
use Rattle.std.specs.Prelude.{Option}
use Rattle.std.specs.Prelude.{ℕ, ◌+◌, ◌*◌, ◌%◌, ◌^◌, ◌≤◌, ◌<◌, ◌≡◌, Bool, true, false, List, [], ◌∷◌, ◌++◌, ◌⊎◌, ◌↔◌, eqb, pos, negsuc, ◌-ℤ◌, ◌<ℤ◌, length, get_or, drop, replicate}
use Rattle.std.proofs.Math.Option.{none, some}
use Rattle.types.specs.Kinds.{pick}
use Rattle.types.specs.Causes.{cause_number}
use Rattle.types.specs.declared.FaultCause.{FaultCause}
use Rattle.cpu.specs.declared.Cpu.{Cpu}
use Rattle.cpu.specs.Fields.{kind_of, vbr_of, in_exception, is_faulted, cause_number_of, has_fc_override, fc_override_of}
use Rattle.pending.specs.Interrupts.{pending_level, mask_level}
use Rattle.memory.specs.declared.Core.{Core}
use Rattle.memory.specs.LogLaws.{Event, spell}
use Rattle.memory.specs.World.{World, cpu_of}
use Rattle.access.specs.Access.{Raise, raised}
use Rattle.answers.specs.declared.Call.{Call}
use Rattle.answers.specs.declared.Call.TheVariants.{ExceptionBusError, TriggerBusError, CheckAndServiceInterrupts}
use Rattle.answers.specs.Answer.{Cycles, Refused}
use Rattle.answers.specs.Matters.{matter_of}
use Rattle.answers.specs.Answers.{answered, events_of, value_of, count_of}
use Rattle.calls.specs.Calls.{refusal, perform, begun}
use Rattle.unwind.specs.Unwind.{return_from, walk_from}
use Rattle.bounds.specs.Levels.{Unrolls}
use Rattle.bounds.proofs.Unique as unique
use Rattle.forms.specs.Gist.{gist}
use Rattle.forms.specs.Plans.{Plan, Clean, planned}
use Rattle.forms.specs.Tests.{Whole, clean_test}
use Rattle.forms.specs.Quiet.{Quiet}
use Rattle.forms.specs.Forms.{plan_of}
use Rattle.forms.proofs.Forms as forms
use Rattle.forms.proofs.Adequate as adequacy
use Rattle.instances.specs.Rows.{P1, P2, P3, P4, P5, P6, P7, P8, P9, P10, P11, Also}
use Rattle.instances.proofs.Instances as table
use Rattle.promises.specs.Over.{perform_by}
use Rattle.promises.specs.Refusals.{holds, Past}
use Rattle.promises.specs.Refusals as refusals
use Rattle.promises.proofs.Refusals as refusal_laws
use Rattle.promises.specs.Calls.{most_events, is_entry, cycles_of}
use Rattle.promises.proofs.Calls as calls
use Rattle.promises.proofs.Charged as charged
use Rattle.promises.proofs.Levels as levels
use Rattle.nest.specs.Nest.{Step, Premises, Alike, end, depth, rows, restored, restored_by}
use Rattle.entered.specs.Machines.{Room}
use Rattle.rule3.specs.Rows.{told}
use Rattle.rule3.specs.Rule3.{core_of, Real}
use Rattle.rule3.proofs.Rule3 as rule3
use Rattle.lines.specs.Commands.{ret_name}
use Rattle.sessions.specs.Printed.{started, printed}
use Rattle.printed.specs.Lines.{with_feed, text, walk_line}
use Rattle.printed.specs.Steps.{Meets, book_of, depth_of}
use Rattle.printed.specs.Told.{rows_text, returns_text}
use Rattle.printed.specs.Bytes.{lines_in}
use Rattle.printed.proofs.Bytes as bytes
use Rattle.nest.specs.Nest.{Sound}
use Rattle.entered.specs.Pointers.{regs_of, Fit}
use Rattle.unwind.specs.Unwind.{sight_of}
use Rattle.manual.specs.Parts.{Family, family_of}
use Rattle.manual.specs.Vectors.{bus_error}
use Rattle.manual.specs.Differences.{own, differences}
use Rattle.manual.specs.Calls.{Event as Exception}
use Rattle.manual.specs.Calls.{event as exception}
use Rattle.manual.specs.Calls.{state_of, event_of}
use Rattle.manual.specs.Statement.{Agrees}
use Rattle.manual.specs.Holds.{InDomain}
use Rattle.manual.proofs.Holds as manual
use Rattle.manual.specs.Triggers.{restored as put_back}
use Rattle.manual.specs.Triggers.{trigger_plan}
use Rattle.manual.proofs.Triggers as triggers
use Rattle.manual.specs.Shown.{inputs, AllShown, has_all}
use Rattle.manual.specs.Shown as shown
use Rattle.manual.proofs.Shown as shown_rows
use Rattle.manual.specs.ReturnHolds.{Returns}
use Rattle.manual.specs.ReturnHolds as returns

-- ---- rule 3

-- "However deep handlers nest, the stack tells all": a walk of the depth "gives exactly the rows of document 01's book, latest first", for
-- every row buffer that number 10 does not refuse, "and as many returns restore in turn exactly each status, stacked address (as PC) and
-- A7 in it". `Premises` has the demand's premises one by one
pub stack_tells_all : (xs : List (Step Real)) (r : Cpu) (s : Room) → Premises Real xs r s → 0 < depth Real (end Real xs r s)
    → ((ws : List ℕ) → 4 * depth Real (end Real xs r s) ≤ length ws
    → told (walk_from (core_of (end Real xs r s).rec (end Real xs r s).sto) (end Real xs r s).sto.bytes (depth Real (end Real xs r s)) ws) ≡ record { rows = rows (end Real xs r s).book; number = none })
    × (restored Real (depth Real (end Real xs r s)) (end Real xs r s).rec (end Real xs r s).sto ≡ some (restored_by (end Real xs r s).book))
stack_tells_all xs r s p d = let t = (rule3.rule3).tells xs r s p d in (rule3.any_buffer (end Real xs r s) t, t.returns)

-- "Kind, depth, S, M, pointers and stacked bytes alone settle this: two lists alike in them at the end have the same rows and restored
-- values"
pub stack_settles : (xs ys : List (Step Real)) (r r' : Cpu) (s s' : Room) → Premises Real xs r s → Premises Real ys r' s' → Alike Real (end Real xs r s) (end Real ys r' s')
    → (rows (end Real xs r s).book ≡ rows (end Real ys r' s').book)
    × (restored Real (depth Real (end Real xs r s)) (end Real xs r s).rec (end Real xs r s).sto ≡ restored Real (depth Real (end Real ys r' s')) (end Real ys r' s').rec (end Real ys r' s').sto)
stack_settles xs ys r r' s s' p q a = let t = (rule3.rule3).settles xs ys r r' s s' p q a in (t.same_rows, t.same_values)

-- rule 3 from the bytes of a session's input to the bytes that it prints: after lines that meet the premises and leave 1 to 4096 entries
-- open, `walk` of the depth and as many `ret`s print the rows of the book and its addresses, statuses and A7s, and nothing else
pub printed_book : (input : List ℕ) → Meets started (lines_in input) → 0 < depth_of started (lines_in input) → depth_of started (lines_in input) ≤ 4096
    → printed (with_feed input ++ text (walk_line (depth_of started (lines_in input)) ∷ replicate (depth_of started (lines_in input)) ret_name))
    ≡ printed (with_feed input) ++ rows_text (rows (book_of started (lines_in input))) ++ returns_text (restored_by (book_of started (lines_in input)))
printed_book = bytes.printed_book

-- ---- refusals

-- "the lowest is answered": number n exactly if condition n holds and none below it does
pub refusal_exact : (w : World) (c : Call) (n : ℕ) → 0 < n → (refusal w c ≡ n) ↔ ((holds w c n ≡ true) × ((m : ℕ) → m < n → holds w c m ≡ false))
refusal_exact = refusals.refusal_exact

-- "Who can cause each number": what each condition says
pub refusal_conditions : (w : World) (c : Call)
    → ((holds w c 1 ≡ true) ↔ ((((cpu_of w).flags.s_flag ≡ 0) ⊎ ((cpu_of w).flags.s_flag ≡ 4)) × (((cpu_of w).flags.m_flag ≡ 0) ⊎ ((cpu_of w).flags.m_flag ≡ 2)) → ⊥))
    × ((holds w c 2 ≡ true) ↔ (((kind_of (cpu_of w) ≡ 1) ⊎ ((kind_of (cpu_of w) ≡ 2) ⊎ (kind_of (cpu_of w) ≡ 10))) × (vbr_of (cpu_of w) % 2 ≡ 1)))
    × ((holds w c 3 ≡ true) ↔ (((matter_of c).interrupt ≡ true) × ((cpu_of w).flow.cycles_remaining <ℤ negsuc 2147483601)))
    × ((holds w c 4 ≡ true) ↔ ((has_fc_override (cpu_of w) ≡ true) × (7 < fc_override_of (cpu_of w))))
    × ((holds w c 5 ≡ true) ↔ (((matter_of c).store ≡ true) × ((65536 < length w.store) ⊎ (2 ^ 32 < w.core.bus.base + length w.store))))
    × ((holds w c 6 ≡ true) ↔ (((matter_of c).store ≡ true) × ((8 < w.core.bus.windows) ⊎ Past w.core.bus w.core.bus.windows)))
    × ((holds w c 7 ≡ true) ↔ (((matter_of c).log ≡ true) × (length w.log < 192)))
    × ((holds w c 8 ≡ true) ↔ (255 < (matter_of c).vector))
    × ((holds w c 9 ≡ true) ↔ ((11 < kind_of (cpu_of w)) ⊎ (((matter_of c).floating ≡ true) × (kind_of (cpu_of w) ≡ 11 → ⊥))))
refusal_conditions w c =
    (refusal_laws.condition_1 w c, refusal_laws.condition_2 w c, refusal_laws.condition_3 w c, refusal_laws.condition_4 w c, refusal_laws.condition_5 w c, refusal_laws.condition_6 w c, refusal_laws.condition_7 w c, refusal_laws.condition_8 w c, refusal_laws.condition_9 w c)

-- "Refused by number, with record, store and log as they came"
pub refused_unchanged : (w : World) (c : Call) → (refusal w c ≡ 0 → ⊥) → perform w c ≡ answered w (Refused (refusal w c))
refused_unchanged = refusal_laws.refused_unchanged

-- ---- events and cycles

-- "the answer counts events; words beyond are untouched": an accepted call makes 64 at most, and the log is their words, three each, and
-- then what it held
pub events_64 : (w : World) (c : Call) → refusal w c ≡ 0
    → (es : List Event) × (length es ≤ 64) × (count_of (perform w c).answer ≡ length es) × ((perform w c).after.log ≡ spell es ++ drop (length es * 3) w.log)
events_64 w c h = let t = calls.events_64 w c h in (t.es, t.few, t.answers, t.log)

-- by the call: `most_events` is 61 for a bus error entry, 40 for the interrupt call, 16 for `take_exception`, and so on. Each of these numbers
-- is met: `promises/specs/Sharp` has a world for each
pub events_most : (w : World) (c : Call) → refusal w c ≡ 0 → count_of (perform w c).answer ≤ most_events c
events_most = calls.events_most

-- "Cycle answers stand in a table of 256 entries": an accepted entry answers those of its vector, and 0 where one is under way
pub cycles_of_the_table : (w : World) (c : Call) → refusal w c ≡ 0 → is_entry c ≡ true
    → (perform w c).answer ≡ Cycles (cycles_of (in_exception (cpu_of w)) c) (events_of (perform w c).after.core)
cycles_of_the_table = calls.cycles_of_the_table

-- ---- the interrupt call

-- "Taken exactly if L = 7 or L > (`int_mask` >> 8) & 7"
pub service_exactly : (w : World) → refusal w CheckAndServiceInterrupts ≡ 0
    → (value_of (perform w CheckAndServiceInterrupts).answer ≡ 1) ↔ ((pending_level (cpu_of w) ≡ 7) ⊎ (mask_level (cpu_of w) < pending_level (cpu_of w)))
service_exactly = calls.service_exactly

-- "the signed `cycles_remaining` falls by 46 on kind 2, else 44"
pub service_charges : (w : World) → refusal w CheckAndServiceInterrupts ≡ 0 → value_of (perform w CheckAndServiceInterrupts).answer ≡ 1
    → (cpu_of (perform w CheckAndServiceInterrupts).after).flow.cycles_remaining ≡ (cpu_of w).flow.cycles_remaining -ℤ pos (pick (eqb (kind_of (cpu_of w)) 2) 46 44)
service_charges = charged.service_charges

-- ---- a fault inside an entry

-- "The unbounded fault chain: a level count that falls": whatever `t` meets the equations of the recursion, which have no levels, every
-- call over it is the public call, which has two
pub perform_unrolled : (t : Raise) → Unrolls t t → (w : World) (c : Call) → perform_by t w c ≡ perform w c
perform_unrolled = levels.perform_unrolled

-- there is such a `t`: the two levels themselves
pub levels_unroll : Unrolls raised raised
levels_unroll = unique.solves

-- ---- what an entry leaves

-- a direct entry that is accepted and taken, and whose closed test holds, leaves what its plan says, of all but queue, clocks, fault fields
-- and log
pub entry_tested : (w : World) (c : Call) (p : Plan) → refusal w c ≡ 0 → plan_of (begun w) c ≡ some p → Whole (cpu_of w) → clean_test (gist w) p ≡ true → gist (perform w c).after ≡ planned (gist w) p
entry_tested = forms.entry_tested

-- and the test holds exactly if no event of the call has a code of 16 or more and the record comes out not faulted
pub adequate : (w : World) (c : Call) (p : Plan) → refusal w c ≡ 0 → plan_of (begun w) c ≡ some p → Whole (cpu_of w)
    → (clean_test (gist w) p ≡ true) ↔ (Quiet (perform w c).after × (is_faulted (cpu_of (perform w c).after) ≡ false))
adequate = adequacy.adequate

-- ---- the instances of paper 01

-- "Cases marked P become one proved table under one theorem", with the line after them
pub instances : P1 × P2 × P3 × P4 × P5 × P6 × P7 × P8 × P9 × P10 × P11 × Also
instances = table.instances

-- ---- from Motorola's manuals

-- "where Motorola's manuals define them, this is proved from the manuals": frames, stack pointers, status and PC of an entry, but for the rows of `differences`
pub from_the_manuals : (w : World) (c : Call) → refusal w c ≡ 0 → InDomain (cpu_of w) → (F : Family) (p : Plan) (e : Exception) → family_of (kind_of (cpu_of w)) ≡ some F
    → plan_of (begun w) c ≡ some p → event_of (state_of w F c) c ≡ some e → Sound (regs_of (cpu_of w)) → clean_test (gist w) p ≡ true → Agrees differences (state_of w F c) e w (perform w c).after
from_the_manuals = manual.holds

-- "and differences are listed": every row of the table is shown by an input, and each input shows a difference on `perform`
pub every_row_differs : AllShown inputs × (has_all 0 differences inputs ≡ true)
every_row_differs = (shown_rows.all_shown, shown.every_row)

-- and what a bus error's trigger leaves, from the status and registers that it puts back
pub trigger_from_the_manuals : (w : World) (F : Family) → family_of (kind_of (cpu_of w)) ≡ some F → InDomain (cpu_of (put_back w)) → Sound (regs_of (cpu_of (put_back w))) → (a : ℕ) (write i : Bool) (z : ℕ) (k : Option FaultCause)
    → cause_number_of (cpu_of w) ≡ cause_number k → refusal w (TriggerBusError a write i z) ≡ 0 → is_faulted (cpu_of w) ≡ false → in_exception (cpu_of w) ≡ false
    → Clean (gist (put_back w)) (trigger_plan (cpu_of (put_back w)) a write i z (cause_number k))
    → Agrees differences (state_of (put_back w) F (ExceptionBusError a write i z k)) (exception bus_error 2 own) (put_back w) (perform w (TriggerBusError a write i z)).after
trigger_from_the_manuals w F f d so a write i = triggers.bus_trigger_holds w F f d so a write i

-- what a return that is accepted restores is what RTE restores
pub return_from_the_manuals : (m : Core) (s : List ℕ) (F : Family) → family_of (kind_of m.cpu) ≡ some F → kind_of m.cpu < 12 → Fit m.cpu → ((i : ℕ) → get_or s i 0 < 256)
    → (return_from m s).refused ≡ 0 → Returns F (sight_of m s) m.cpu (return_from m s).core.cpu
return_from_the_manuals = returns.return_holds
