-- Theorems about what specs/Triggers defines, and what rests on them.
use Rattle.std.specs.Prelude.{Option}
use Rattle.std.specs.Prelude.{ℕ, ◌<◌, ◌≡◌, Bool, true, false}
use Rattle.std.proofs.Math.Path.{refl, sym, ap, subst}
use Rattle.std.proofs.Common.{◌∙◌}
use Rattle.std.proofs.Math.Option.{some}
use Rattle.types.specs.Kinds.{pick}
use Rattle.types.specs.Causes.{cause_number}
use Rattle.types.specs.declared.FaultCause.{FaultCause}
use Rattle.cpu.specs.declared.Cpu.{Cpu}
use Rattle.cpu.specs.Fields.{kind_of, ppc_of, ir_of, wdata_of, is_faulted, in_exception, cause_number_of, has_fc_override, fc_override_of, set_exception, restore_registers, clear_cause}
use Rattle.status.specs.Status.{get_sr, keep_resume}
use Rattle.memory.specs.World.{World, put_cpu, cpu_of, step}
use Rattle.frames.specs.declared.Frame.{Frame}
use Rattle.frames.specs.Codes.{is_supervisor, state_code, fault_code}
use Rattle.frames.specs.Frames.{write_data, bus_frame}
use Rattle.refusals.specs.Refusals.{odd_base}
use Rattle.steps.specs.Steps.{begin_bus, begin_address, close_bus, enter_bus_error}
use Rattle.access.specs.Access.{raise_bus, raise_address, raised, exception_bus_error, exception_address_error}
use Rattle.access.specs.Access.{bus_error as bus}
use Rattle.bounds.specs.Levels.{Domain}
use Rattle.bounds.proofs.Again.{again}
use Rattle.answers.specs.declared.Call.TheVariants.{TriggerBusError, TriggerAddressError, ExceptionBusError, ExceptionAddressError}
use Rattle.answers.specs.Answers.{plain}
use Rattle.calls.specs.Calls.{run, begun, restarted, refusal, perform}
use Rattle.images.specs.Pushes.{calm}
use Rattle.images.specs.Images.{Ready}
use Rattle.forms.specs.Gist.{gist, gist_cpu, framed_by}
use Rattle.images.specs.Jumps.{Reachable}
use Rattle.forms.specs.Jumps.{jumped}
use Rattle.forms.specs.Plans.{planned, turned, stack_all, AllReady, Clean, single, same, address_plan, bus_plan}
use Rattle.forms.specs.Entries.{turn_form, seen_bus, address_form, bus_form}
use Rattle.forms.specs.Accepted.{accepted_kind, accepted_base}
use Rattle.nest.specs.Nest.{Sound}
use Rattle.entered.specs.Pointers.{regs_of}
use Rattle.manual.specs.Parts.{Family, family_of}
use Rattle.manual.specs.Vectors.{bus_error, address_error}
use Rattle.manual.specs.Differences.{own, differences}
use Rattle.manual.specs.Calls.{event, state_of}
use Rattle.manual.specs.Statement.{Agrees}
use Rattle.manual.specs.PartLaws.{Tests, tests_of_lem}
use Rattle.manual.specs.Entries.{end_exception}
use Rattle.manual.proofs.ErrorEntries.{bus_by_lem, address_agrees}
use Rattle.manual.specs.Holds.{InDomain, agrees_gist}
use Rattle.manual.specs.Triggers.{restored, trigger_plan, even_base, restored_fits, restored_kind, resumed, turn_inside}

module _ (w : World) (F : Family) (f : family_of (kind_of (cpu_of w)) ≡ some F) (d : InDomain (cpu_of (restored w))) (so : Sound (regs_of (cpu_of (restored w)))) (a : ℕ) (write i : Bool) where
  abbrev R : World
  R = restored w

  part_of : kind_of (cpu_of w) < 12 → Tests F (kind_of (cpu_of R))
  part_of l = rw (restored_kind w) (tests_of_lem F (kind_of (cpu_of w)) l f)

  base_of : odd_base (cpu_of w) ≡ false → Domain (begun w)
  unfolding begun restarted put_cpu
  base_of o = even_base (cpu_of w) o

  runs : is_faulted (cpu_of w) ≡ false → is_faulted (cpu_of (begun w)) ≡ false
  unfolding begun restarted put_cpu
  runs e = e

  -- ---- the address error

  after_address : refusal w (TriggerAddressError a write i) ≡ 0 → is_faulted (cpu_of w) ≡ false
      → (perform w (TriggerAddressError a write i)).after ≡ step keep_resume (exception_address_error raised (step begin_address (begun w)) a write i)
  unfolding perform run plain raise_address put_cpu
  after_address r n = rw r (again.address (begun w) a write i (base_of (accepted_base w (TriggerAddressError a write i) r)) ∙ ap (λ (b : Bool). pick b (begun w) (step keep_resume (exception_address_error raised (step begin_address (begun w)) a write i))) (runs n))

  address_gist : Clean (gist R) (address_plan (cpu_of R) a write i) → gist (exception_address_error raised (step begin_address (begun w)) a write i) ≡ planned (gist R) (address_plan (cpu_of R) a write i)
  unfolding begun restarted gist calm put_cpu
  address_gist c = address_form (step begin_address (begun w)) (gist R) a write i refl c

  pub address_trigger_holds : refusal w (TriggerAddressError a write i) ≡ 0 → is_faulted (cpu_of w) ≡ false → Clean (gist R) (address_plan (cpu_of R) a write i)
      → Agrees differences (state_of R F (ExceptionAddressError a write i)) (event address_error 3 own) R (perform w (TriggerAddressError a write i)).after
  address_trigger_holds r n c =
      subst (λ (z : World). Agrees differences (state_of R F (ExceptionAddressError a write i)) (event address_error 3 own) R z) (sym (after_address r n))
      (resumed _ _ R _ (agrees_gist _ _ R _
      (subst (λ (z : World). Agrees differences (state_of R F (ExceptionAddressError a write i)) (event address_error 3 own) R z) (sym (address_gist c))
      (address_agrees R F (part_of (accepted_kind w (TriggerAddressError a write i) r)) so (restored_fits w d) d.pc d.ppc a write i c))))

  -- ---- the bus error

  outside : in_exception (cpu_of w) ≡ false → in_exception (cpu_of (begun w)) ≡ false
  unfolding begun restarted put_cpu
  outside e = e

  after_bus : (z : ℕ) → refusal w (TriggerBusError a write i z) ≡ 0 → is_faulted (cpu_of w) ≡ false → in_exception (cpu_of w) ≡ false
      → (perform w (TriggerBusError a write i z)).after ≡ step close_bus (exception_bus_error raised (step begin_bus (begun w)) a write i z (cause_number_of (cpu_of (begun w))))
  unfolding perform run plain raise_bus put_cpu
  after_bus z r n o =
      rw r (again.bus (begun w) a write i z (base_of (accepted_base w (TriggerBusError a write i z) r)) ∙ rw (runs n, outside o) refl)

  -- the record inside exception processing has the same frame
  frame_same : (c : Cpu) (z cause : ℕ) → bus_frame (clear_cause (set_exception c true)) a write i z cause ≡ bus_frame c a write i z cause
  unfolding bus_frame write_data clear_cause set_exception get_sr kind_of ppc_of ir_of wdata_of fault_code state_code is_supervisor has_fc_override fc_override_of put_cpu
  frame_same c z cause = refl

  begun_bus : gist (step begin_bus (begun w)) ≡ turned (gist R) (λ d. set_exception d true)
  unfolding begun restarted gist gist_cpu calm turned begin_bus begin_address clear_cause set_exception restore_registers put_cpu
  begun_bus = refl

  begun_frame : (z cause : ℕ) → bus_frame (cpu_of (step begin_bus (begun w))) a write i z cause ≡ bus_frame (cpu_of R) a write i z cause
  unfolding begun restarted begin_bus begin_address clear_cause put_cpu
  begun_frame z cause = frame_same (cpu_of R) z cause

  two_turns : (x : World) → turned (turned x (λ d. set_exception d true)) enter_bus_error ≡ turned x (λ d. enter_bus_error (set_exception d true))
  unfolding turned put_cpu
  two_turns x = sym (turn_form (step (λ d. set_exception d true) x) (turned x (λ d. set_exception d true)) enter_bus_error seen_bus refl)

  two_ends : (y : World) → turned (turned y same) (λ d. set_exception d false) ≡ turned y (λ d. set_exception d false)
  unfolding turned gist gist_cpu calm set_exception put_cpu
  two_ends y = refl

  served_inside : (x : World) (f : Frame) → Clean x (single (λ d. enter_bus_error (set_exception d true)) f 2 (λ d. set_exception d false)) → Clean (turned x (λ d. set_exception d true)) (single enter_bus_error f 2 same)
  unfolding AllReady stack_all put_cpu
  served_inside x f c =
      record {
        stacks = (subst (λ (y : World). Ready y f) (sym (two_turns x)) c.stacks.0, tt);
        reach = subst (λ (y : World). Reachable (turned (framed_by y f) same) 2) (sym (two_turns x)) c.reach;
      }

  planned_inside : (x : World) (f : Frame) → turned (planned (turned x (λ d. set_exception d true)) (single enter_bus_error f 2 same)) (λ d. set_exception d false) ≡ planned x (single (λ d. enter_bus_error (set_exception d true)) f 2 (λ d. set_exception d false))
  unfolding planned stack_all put_cpu
  planned_inside x f = two_ends (jumped (turned (framed_by (turned (turned x (λ d. set_exception d true)) enter_bus_error) f) same) 2) ∙ ap (λ (y : World). turned (jumped (turned (framed_by y f) same) 2) (λ d. set_exception d false)) (two_turns x)

  ended : (x : World) → gist (step (λ d. set_exception d false) x) ≡ turned (gist x) (λ d. set_exception d false)
  unfolding turned gist gist_cpu calm set_exception put_cpu
  ended x = refl

  bus_gist : (z cause : ℕ) → Clean (gist R) (trigger_plan (cpu_of R) a write i z cause)
      → gist (step (λ d. set_exception d false) (exception_bus_error raised (step begin_bus (begun w)) a write i z cause)) ≡ planned (gist R) (trigger_plan (cpu_of R) a write i z cause)
  unfolding bus_plan put_cpu
  bus_gist z cause c =
      ended (exception_bus_error raised (step begin_bus (begun w)) a write i z cause)
      ∙ ap (λ (y : World). turned y (λ d. set_exception d false))
      (bus_form (step begin_bus (begun w)) (turned (gist R) (λ d. set_exception d true)) a write i z cause begun_bus
      (subst (λ (f : Frame). Clean (turned (gist R) (λ d. set_exception d true)) (single enter_bus_error f 2 same)) (sym (begun_frame z cause)) (served_inside (gist R) (bus_frame (cpu_of R) a write i z cause) c)))
      ∙ ap (λ (f : Frame). turned (planned (turned (gist R) (λ d. set_exception d true)) (single enter_bus_error f 2 same)) (λ d. set_exception d false)) (begun_frame z cause)
      ∙ planned_inside (gist R) (bus_frame (cpu_of R) a write i z cause)

  cause_begun : cause_number_of (cpu_of (begun w)) ≡ cause_number_of (cpu_of w)
  unfolding begun restarted put_cpu
  cause_begun = refl

  by_cause : (z : ℕ) (k : Option FaultCause) → cause_number_of (cpu_of w) ≡ cause_number k
      → step close_bus (exception_bus_error raised (step begin_bus (begun w)) a write i z (cause_number_of (cpu_of (begun w)))) ≡ step close_bus (exception_bus_error raised (step begin_bus (begun w)) a write i z (cause_number k))
  by_cause z k q = ap (λ (n : ℕ). step close_bus (exception_bus_error raised (step begin_bus (begun w)) a write i z n)) (cause_begun ∙ q)

  pub bus_trigger_holds : (z : ℕ) (k : Option FaultCause) → cause_number_of (cpu_of w) ≡ cause_number k → refusal w (TriggerBusError a write i z) ≡ 0 → is_faulted (cpu_of w) ≡ false → in_exception (cpu_of w) ≡ false
      → Clean (gist R) (trigger_plan (cpu_of R) a write i z (cause_number k))
      → Agrees differences (state_of R F (ExceptionBusError a write i z k)) (event bus_error 2 own) R (perform w (TriggerBusError a write i z)).after
  unfolding put_cpu set_exception
  bus_trigger_holds z k q r n o c =
      subst (λ (y : World). Agrees differences (state_of R F (ExceptionBusError a write i z k)) (event bus_error 2 own) R y) (sym (after_bus z r n o ∙ by_cause z k q))
      (resumed _ _ R _ (agrees_gist _ _ R _
      (subst (λ (y : World). Agrees differences (state_of R F (ExceptionBusError a write i z k)) (event bus_error 2 own) R y) (sym (bus_gist z (cause_number k) c))
      (bus_by_lem R F (part_of (accepted_kind w (TriggerBusError a write i z) r)) so (restored_fits w d) d.pc d.ppc a write i (λ d. enter_bus_error (set_exception d true)) (λ d. set_exception d false) turn_inside end_exception z k c))))
