-- Theorems about what specs/Holds defines, and what rests on them.
use Rattle.std.specs.Prelude.{ℕ, ◌+◌, ◌%◌, ◌<◌, ◌≡◌, Bool, cond}
use Rattle.std.proofs.Math.Path.{refl}
use Rattle.std.proofs.Common.{sym, ap, ◌∙◌, subst, arith}
use Rattle.std.proofs.Math.Bool.{true, false}
use Rattle.std.proofs.Math.Option.{Option, none, some}
use Rattle.types.specs.Kinds.{pick, is060}
use Rattle.types.specs.Causes.{cause_number}
use Rattle.cpu.specs.declared.Cpu.{Cpu}
use Rattle.cpu.specs.Fields.{kind_of, pc_of, ppc_of, in_exception, rewind_pc}
use Rattle.pending.specs.Interrupts.{takes_interrupt}
use Rattle.memory.specs.World.{World, cpu_of}
use Rattle.steps.specs.Steps.{stacked_address, stacks_next}
use Rattle.answers.specs.declared.Call.{Call}
use Rattle.answers.specs.declared.Call.TheVariants.{TakeException, Trap, TakeGroup2Exception, ExceptionChk, ExceptionZeroDivide, ExceptionPrivilege, ExceptionTrace, ExceptionAddressError, ExceptionBusError, TakeFpUnimp060, TakeFpDisabled060, TakeAlineException, TakeFlineException, TakeTrapException, TakeBkptException, TakeIllegalException, TriggerAddressError, TriggerBusError, CheckTrace, SetIrq, CheckInterrupts, CheckAndServiceInterrupts, Read16, Read32, Write16, Write32, Push16, Push32, PrefetchFirst, PrefetchSecond}
use Rattle.answers.specs.Matters.{matter_of}
use Rattle.calls.specs.Calls.{begun, restarted, refusal, perform}
use Rattle.images.specs.Pushes.{calm}
use Rattle.forms.specs.Gist.{gist, gist_cpu}
use Rattle.forms.specs.Plans.{Plan, planned, Clean, exc_plan, rewound_plan, group2_plan, trace_plan, fp_unimp_plan, fp_disabled_plan, address_plan, bus_plan, interrupt_vector, interrupt_plan}
use Rattle.forms.specs.Tests.{clean_test}
use Rattle.forms.specs.Forms.{plan_of, is_some, no_plan_lem, unless, only_if}
use Rattle.forms.proofs.Forms.{entry_form, entry_clean}
use Rattle.forms.specs.Accepted.{accepted_s, accepted_m, accepted_vector, accepted_kind, accepted_floating}
use Rattle.nest.specs.Nest.{Sound}
use Rattle.entered.specs.Pointers.{regs_of, Fit}
use Rattle.entered.specs.Entered.{Inside}
use Rattle.entered.proofs.Entered.{whole_of}
use Rattle.manual.specs.Parts.{Family, family_of}
use Rattle.manual.specs.State.{State}
use Rattle.manual.specs.Vectors.{Class, instruction, trap, group2, interrupt, bus_error, address_error, fp_unimplemented, fp_disabled, class_of}
use Rattle.manual.specs.Differences.{by_vector, own, differences}
use Rattle.manual.specs.Calls.{Event, event, by_number, is_group2, state_by, state_of, event_of, no_fault}
use Rattle.manual.specs.Statement.{Agrees}
use Rattle.manual.specs.PartLaws.{Tests, sixty, tests_of_lem}
use Rattle.manual.proofs.Entries.{trap_agrees, privilege_agrees, rewound_agrees, group_agrees, trace_agrees, vector_agrees, unimplemented_agrees, disabled_agrees}
use Rattle.manual.proofs.ErrorEntries.{bus_agrees, address_agrees}
use Rattle.manual.specs.Levels.{vector_same}
use Rattle.manual.proofs.Levels.{interrupt_agrees}
use Rattle.manual.specs.Holds.{InDomain, same_event, no_event, given, agrees_gist}

module _ (w : World) (F : Family) (t : Tests F (kind_of (cpu_of w))) (so : Sound (regs_of (cpu_of w))) (fit : Fit (cpu_of (gist w))) (pcl : pc_of (cpu_of w) < 0x100000000) (ppl : ppc_of (cpu_of w) < 0x100000000) where
  abbrev C : Cpu
  C = cpu_of w

  rewinds : (v : ℕ) → stacked_address (rewind_pc C) v ≡ ppc_of C
  unfolding stacked_address rewind_pc pc_of ppc_of
  rewinds v = go (stacks_next v)
    where
      go : (b : Bool) → pick b C.flow.ppc C.flow.ppc ≡ C.flow.ppc
      go true = refl
      go false = refl

  sixth : (f : Family) → Tests f (kind_of C) → is060 (kind_of C) ≡ true → sixty f ≡ true
  sixth f u e = sym u.is6 ∙ e

  by_class : (v : ℕ) → v < 256 → (p : Plan) (e : Event) → exc_plan C v ≡ p → (o : Option Class) → class_of F v ≡ o → by_number o v ≡ some e → Clean (gist w) p → Agrees differences (state_of w F (TakeException v)) e w (planned (gist w) p)
  by_class v vl p e q none h k = no_event e k
  by_class v vl p e q (some cl) h k = given w (state_of w F (TakeException v)) p (exc_plan C v) e (event cl v by_vector) q (same_event _ e k) (vector_agrees w F t so fit pcl ppl v vl cl h (no_fault C) none)

  by_group : (v : ℕ) → v < 256 → (p : Plan) (e : Event) → group2_plan C v ≡ p → (b : Bool) → cond b (some (event group2 v own)) none ≡ some e → Clean (gist w) p → Agrees differences (state_of w F (TakeGroup2Exception v)) e w (planned (gist w) p)
  by_group v vl p e q false k = no_event e k
  by_group v vl p e q true k = given w (state_of w F (TakeGroup2Exception v)) p (group2_plan C v) e (event group2 v own) q (same_event _ e k) (group_agrees w F t so fit pcl ppl v vl (no_fault C) none)

  call_agrees : (c : Call) (p : Plan) (e : Event) → plan_of w c ≡ some p → (matter_of c).vector < 256 → ((matter_of c).floating ≡ true → is060 (kind_of C) ≡ true) → event_of (state_of w F c) c ≡ some e
      → Clean (gist w) p → Agrees differences (state_of w F c) e w (planned (gist w) p)
  unfolding plan_of event_of matter_of state_by
  call_agrees (TakeException v) p e h vl fl k = by_class v vl p e (unless (in_exception C) p (exc_plan C v) h).1 (class_of F v) refl k
  call_agrees (Trap n) p e h vl fl k = given w (state_of w F (Trap n)) p (exc_plan C (32 + n % 16)) e (event trap (32 + n % 16) own) (unless (in_exception C) p (exc_plan C (32 + n % 16)) h).1 (same_event _ e k) (trap_agrees w F t so fit pcl ppl n (no_fault C) none)
  call_agrees (TakeTrapException n) p e h vl fl k = given w (state_of w F (TakeTrapException n)) p (exc_plan C (32 + n % 16)) e (event trap (32 + n % 16) own) (unless (in_exception C) p (exc_plan C (32 + n % 16)) h).1 (same_event _ e k) (trap_agrees w F t so fit pcl ppl n (no_fault C) none)
  call_agrees (TakeGroup2Exception v) p e h vl fl k = by_group v vl p e (is_some (group2_plan C v) p h) (is_group2 v) k
  call_agrees ExceptionChk p e h vl fl k = given w (state_of w F ExceptionChk) p (group2_plan C 6) e (event group2 6 own) (is_some (group2_plan C 6) p h) (same_event _ e k) (group_agrees w F t so fit pcl ppl 6 (omega arith) (no_fault C) none)
  call_agrees ExceptionZeroDivide p e h vl fl k = given w (state_of w F ExceptionZeroDivide) p (group2_plan C 5) e (event group2 5 own) (is_some (group2_plan C 5) p h) (same_event _ e k) (group_agrees w F t so fit pcl ppl 5 (omega arith) (no_fault C) none)
  call_agrees ExceptionTrace p e h vl fl k = given w (state_of w F ExceptionTrace) p (trace_plan C) e (event group2 9 own) (is_some (trace_plan C) p h) (same_event _ e k) (trace_agrees w F t so fit pcl ppl (no_fault C) none)
  call_agrees ExceptionPrivilege p e h vl fl k = given w (state_of w F ExceptionPrivilege) p (exc_plan C 8) e (event instruction 8 own) (unless (in_exception C) p (exc_plan C 8) h).1 (same_event _ e k) (privilege_agrees w F t so fit pcl ppl (no_fault C) none)
  call_agrees TakeAlineException p e h vl fl k = given w (state_of w F TakeAlineException) p (rewound_plan C 10) e (event instruction 10 own) (unless (in_exception C) p (rewound_plan C 10) h).1 (same_event _ e k) (rewound_agrees w F t so fit pcl ppl 10 (omega arith) (rewinds 10) (no_fault C) none)
  call_agrees TakeFlineException p e h vl fl k = given w (state_of w F TakeFlineException) p (rewound_plan C 11) e (event instruction 11 own) (unless (in_exception C) p (rewound_plan C 11) h).1 (same_event _ e k) (rewound_agrees w F t so fit pcl ppl 11 (omega arith) (rewinds 11) (no_fault C) none)
  call_agrees TakeBkptException p e h vl fl k = given w (state_of w F TakeBkptException) p (rewound_plan C 4) e (event instruction 4 own) (unless (in_exception C) p (rewound_plan C 4) h).1 (same_event _ e k) (rewound_agrees w F t so fit pcl ppl 4 (omega arith) (rewinds 4) (no_fault C) none)
  call_agrees TakeIllegalException p e h vl fl k = given w (state_of w F TakeIllegalException) p (rewound_plan C 4) e (event instruction 4 own) (unless (in_exception C) p (rewound_plan C 4) h).1 (same_event _ e k) (rewound_agrees w F t so fit pcl ppl 4 (omega arith) (rewinds 4) (no_fault C) none)
  call_agrees (ExceptionAddressError a write i) p e h vl fl k = given w (state_of w F (ExceptionAddressError a write i)) p (address_plan C a write i) e (event address_error 3 own) (is_some (address_plan C a write i) p h) (same_event _ e k) (address_agrees w F t so fit pcl ppl a write i)
  call_agrees (ExceptionBusError a write i z cause) p e h vl fl k = given w (state_of w F (ExceptionBusError a write i z cause)) p (bus_plan C a write i z (cause_number cause)) e (event bus_error 2 own) (is_some (bus_plan C a write i z (cause_number cause)) p h) (same_event _ e k) (bus_agrees w F t so fit pcl ppl a write i z cause)
  call_agrees (TakeFpUnimp060 ea) p e h vl fl k = given w (state_of w F (TakeFpUnimp060 ea)) p (fp_unimp_plan C ea) e (event fp_unimplemented 11 own) (is_some (fp_unimp_plan C ea) p h) (same_event _ e k) (unimplemented_agrees w F t so fit pcl ppl ea (sixth F t (fl refl)) (no_fault C))
  call_agrees TakeFpDisabled060 p e h vl fl k = given w (state_of w F TakeFpDisabled060) p (fp_disabled_plan C) e (event fp_disabled 11 own) (is_some (fp_disabled_plan C) p h) (same_event _ e k) (disabled_agrees w F t so fit pcl ppl (sixth F t (fl refl)) (no_fault C))
  call_agrees CheckAndServiceInterrupts p e h vl fl k = given w (state_of w F CheckAndServiceInterrupts) p (interrupt_plan C w.core.bus) e (event interrupt (interrupt_vector C w.core.bus) own) (only_if (takes_interrupt C) p (interrupt_plan C w.core.bus) h).1 (ap (λ (n : ℕ). event interrupt n own) (vector_same C w.core.bus) ∙ same_event _ e k) (interrupt_agrees w F t so fit pcl ppl (no_fault C))
  call_agrees (TriggerAddressError a write i) p e h vl fl k = no_plan_lem p h
  call_agrees (TriggerBusError a write i z) p e h vl fl k = no_plan_lem p h
  call_agrees CheckTrace p e h vl fl k = no_plan_lem p h
  call_agrees (SetIrq n) p e h vl fl k = no_plan_lem p h
  call_agrees CheckInterrupts p e h vl fl k = no_plan_lem p h
  call_agrees (Read16 a) p e h vl fl k = no_plan_lem p h
  call_agrees (Read32 a) p e h vl fl k = no_plan_lem p h
  call_agrees (Write16 a v) p e h vl fl k = no_plan_lem p h
  call_agrees (Write32 a v) p e h vl fl k = no_plan_lem p h
  call_agrees (Push16 v) p e h vl fl k = no_plan_lem p h
  call_agrees (Push32 v) p e h vl fl k = no_plan_lem p h
  call_agrees PrefetchFirst p e h vl fl k = no_plan_lem p h
  call_agrees PrefetchSecond p e h vl fl k = no_plan_lem p h

module _ (w : World) (c : Call) (r : refusal w c ≡ 0) (d : InDomain (cpu_of w)) where
  fits : Fit (cpu_of (gist w))
  unfolding gist gist_cpu
  fits = record { registers = d.registers; pointers = d.pointers; s_is_lem = accepted_s w c r; m_is_lem = accepted_m w c r }

  inside : Inside (cpu_of w)
  inside = record { registers = d.registers; pointers = d.pointers; a7 = d.a7; saved = d.saved; pc = λ x. d.pc; ppc = λ x. d.ppc }

  -- the count of events does not matter
  same_start : (s : State) (e : Event) (z : World) → Agrees differences s e (begun w) z → Agrees differences s e w z
  unfolding begun restarted
  same_start s e z h = record { frame = h.frame; under = h.under; usp = h.usp; selected = h.selected; pointer = h.pointer; stacks = h.stacks; status = h.status; pc = h.pc; pins = h.pins }

  begun_agrees : (F : Family) (p : Plan) (e : Event) → family_of (kind_of (cpu_of w)) ≡ some F → plan_of (begun w) c ≡ some p → event_of (state_of w F c) c ≡ some e → Sound (regs_of (cpu_of w)) → Clean (gist w) p
      → Agrees differences (state_of w F c) e w (planned (gist w) p)
  unfolding begun restarted gist gist_cpu calm state_by
  begun_agrees F p e f h k so cl =
      same_start (state_of w F c) e (planned (gist w) p)
      (call_agrees (begun w) F (tests_of_lem F (kind_of (cpu_of w)) (accepted_kind w c r) f) so fits d.pc d.ppc c p e h (accepted_vector w c r) (accepted_floating w c r) k cl)

  -- THE THEOREM
  pub holds : (F : Family) (p : Plan) (e : Event) → family_of (kind_of (cpu_of w)) ≡ some F → plan_of (begun w) c ≡ some p → event_of (state_of w F c) c ≡ some e → Sound (regs_of (cpu_of w)) → clean_test (gist w) p ≡ true
      → Agrees differences (state_of w F c) e w (perform w c).after
  holds F p e f h k so ct =
      let cl : Clean (gist w) p = entry_clean w c p r h (whole_of (cpu_of w) inside so) ct in
      agrees_gist (state_of w F c) e w (perform w c).after
      (subst (λ (z : World). Agrees differences (state_of w F c) e w z) (sym (entry_form w c p r h cl)) (begun_agrees F p e f h k so cl))
