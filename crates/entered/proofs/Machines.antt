-- Theorems about what specs/Machines defines, and what rests on them.
use Rattle.std.specs.Prelude.{ℕ, ◌+◌, ◌%◌, ◌≢◌, Bool, eqb, length}
use Rattle.std.proofs.Math.Path.{◌≡◌, refl, sym, ap, subst}
use Rattle.std.proofs.Common.{◌∙◌, arith}
use Rattle.std.proofs.Math.Bool.{true, false}
use Rattle.std.proofs.Math.Option.{Option, none, some}
use borrow.Author.Tests.{ne_eqb}
use Rattle.types.specs.Kinds.{pick, is_prefetch_kind}
use Rattle.cpu.specs.declared.Cpu.{Cpu}
use Rattle.cpu.specs.Fields.{kind_of}
use Rattle.memory.specs.declared.Bus.{Bus}
use Rattle.memory.specs.World.{World, cpu_of}
use Rattle.exceptions.specs.Exceptions.{take_group2, trap, exception_trace, take_fp_unimp060, take_fp_disabled060}
use Rattle.refusals.specs.Refusals.{bad_store, bad_windows}
use Rattle.answers.specs.declared.Call.{Call}
use Rattle.answers.specs.declared.Call.TheVariants.{TakeException, Trap, TakeGroup2Exception, ExceptionChk, ExceptionZeroDivide, ExceptionPrivilege, ExceptionTrace, ExceptionAddressError, ExceptionBusError, TakeFpUnimp060, TakeFpDisabled060, TakeAlineException, TakeFlineException, TakeTrapException, TakeBkptException, TakeIllegalException, TriggerAddressError, TriggerBusError, CheckTrace, SetIrq, CheckInterrupts, CheckAndServiceInterrupts, Read16, Read32, Write16, Write32, Push16, Push32, PrefetchFirst, PrefetchSecond}
use Rattle.answers.specs.Matters.{matter_of}
use Rattle.answers.specs.Answer.{Refused}
use Rattle.answers.specs.Answers.{answered, cycles}
use Rattle.calls.specs.Calls.{run, begun, refusal, perform}
use Rattle.forms.specs.Gist.{gist}
use Rattle.forms.specs.Plans.{Plan, Clean, exc_plan, rewound_plan, group2_plan, trace_plan, fp_unimp_plan, fp_disabled_plan, interrupt_plan}
use Rattle.forms.specs.Tests.{clean_test}
use Rattle.forms.specs.Kept.{Good}
use Rattle.forms.specs.Accepted.{accepted_s, accepted_m, accepted_kind, accepted_base, accepted_code, accepted_room, accepted_windows}
use Rattle.forms.specs.Forms.{plan_of, plan_lent, SameRoom}
use Rattle.forms.proofs.Forms.{entry_clean, entry_good, entry_room}
use Rattle.forms.proofs.KindKept.{entry_kind}
use Rattle.nest.specs.View.{Stacked, one, two, frames_of, View, with_sm, view}
use Rattle.nest.specs.Reading.{view_kind}
use Rattle.nest.specs.Nest.{Machine, refused, untaken, taken, Returned, Walked, Sound, Apart, BelowTop, No68000Error, ServedThen}
use Rattle.nest.specs.Laws.{Ranges, Entry}
use Rattle.entered.specs.Pointers.{regs_of}
use Rattle.entered.specs.Bytes.{mem_of}
use Rattle.entered.specs.Stacks.{stacks}
use Rattle.entered.specs.Paper.{paper, outside, paper_takes}
use Rattle.entered.proofs.PaperIs.{stacks_paper}
use Rattle.entered.specs.Entered.{error_call, Inside, Law}
use Rattle.entered.proofs.Entered.{nested, whole_of, kind_regs}
use Rattle.entered.specs.Numbers.{Left, entry_left}
use Rattle.entered.specs.Machines.{machine, direct, Direct, Room, world_of, reads, enter_by, outcome, by_plan, takes_by, has_plan, Passes, InsideRoom, CleanCall, Took, took, flags_accepted, windows_calm, store_calm, exc_takes, service_takes, begun_takes, none_of, Agrees, exc_reads, rewound_reads, costly, service_reads, set_top_kind}

paper_takes_lem : (w : World) (c : Call) → paper_takes w c ≡ has_plan (plan_of w c)
unfolding paper_takes plan_of
paper_takes_lem w (TakeException v) = exc_takes w (exc_plan (cpu_of w) v)
paper_takes_lem w (Trap n) = exc_takes w (exc_plan (cpu_of w) (32 + n % 16))
paper_takes_lem w (TakeTrapException n) = exc_takes w (exc_plan (cpu_of w) (32 + n % 16))
paper_takes_lem w ExceptionPrivilege = exc_takes w (exc_plan (cpu_of w) 8)
paper_takes_lem w TakeAlineException = exc_takes w (rewound_plan (cpu_of w) 10)
paper_takes_lem w TakeFlineException = exc_takes w (rewound_plan (cpu_of w) 11)
paper_takes_lem w TakeBkptException = exc_takes w (rewound_plan (cpu_of w) 4)
paper_takes_lem w TakeIllegalException = exc_takes w (rewound_plan (cpu_of w) 4)
paper_takes_lem w CheckAndServiceInterrupts = service_takes w (interrupt_plan (cpu_of w) w.core.bus)
paper_takes_lem w (TakeGroup2Exception v) = refl
paper_takes_lem w ExceptionChk = refl
paper_takes_lem w ExceptionZeroDivide = refl
paper_takes_lem w ExceptionTrace = refl
paper_takes_lem w (ExceptionAddressError a write instruction) = refl
paper_takes_lem w (ExceptionBusError a write instruction z cause) = refl
paper_takes_lem w (TakeFpUnimp060 ea) = refl
paper_takes_lem w TakeFpDisabled060 = refl
paper_takes_lem w (TriggerAddressError a write instruction) = refl
paper_takes_lem w (TriggerBusError a write instruction z) = refl
paper_takes_lem w CheckTrace = refl
paper_takes_lem w (SetIrq n) = refl
paper_takes_lem w CheckInterrupts = refl
paper_takes_lem w (Read16 a) = refl
paper_takes_lem w (Read32 a) = refl
paper_takes_lem w (Write16 a v) = refl
paper_takes_lem w (Write32 a v) = refl
paper_takes_lem w (Push16 v) = refl
paper_takes_lem w (Push32 v) = refl
paper_takes_lem w PrefetchFirst = refl
paper_takes_lem w PrefetchSecond = refl

takes_plan : (w : World) (c : Call) → paper_takes w c ≡ has_plan (plan_of (begun w) c)
takes_plan w c = sym (begun_takes w c) ∙ paper_takes_lem (begun w) c

-- the answer says what the arguments say
module _ (w : World) (c : Call) where
  pub says_taken_lem : (r : Cpu) (s : Room) → by_plan w c ≡ taken r s → takes_by w c ≡ true
  unfolding by_plan takes_by
  says_taken_lem r s = rw (takes_plan w c) (go (eqb (refusal w c) 0) (plan_of (begun w) c))
    where
      go : (b : Bool) (o : Option Plan) → pick b (outcome o (perform w c).after) (refused (refusal w c)) ≡ taken r s → pick b (has_plan o) false ≡ true
      go true (some p) h = refl
      go true none h = let z : ◌≡◌ {A = ℕ} 0 1 = cc in absurd (omega arith)
      go false o h = let z : ◌≡◌ {A = ℕ} 0 1 = cc in absurd (omega arith)

  pub says_untaken_lem : (r : Cpu) (s : Room) → by_plan w c ≡ untaken r s → takes_by w c ≡ false
  unfolding by_plan takes_by
  says_untaken_lem r s = rw (takes_plan w c) (go (eqb (refusal w c) 0) (plan_of (begun w) c))
    where
      go : (b : Bool) (o : Option Plan) → pick b (outcome o (perform w c).after) (refused (refusal w c)) ≡ untaken r s → pick b (has_plan o) false ≡ false
      go true (some p) h = let z : ◌≡◌ {A = ℕ} 0 1 = cc in absurd (omega arith)
      go true none h = refl
      go false o h = refl

  pub says_refused_lem : (n : ℕ) → by_plan w c ≡ refused n → takes_by w c ≡ false
  unfolding by_plan takes_by
  says_refused_lem n = rw (takes_plan w c) (go (eqb (refusal w c) 0) (plan_of (begun w) c))
    where
      go : (b : Bool) (o : Option Plan) → pick b (outcome o (perform w c).after) (refused (refusal w c)) ≡ refused n → pick b (has_plan o) false ≡ false
      go true (some p) h = let z : ◌≡◌ {A = ℕ} 0 1 = cc in absurd (omega arith)
      go true none h = refl
      go false o h = refl

run_reads : (w : World) (c : Call) → direct c ≡ true → Agrees (run w c) (plan_of w c)
unfolding plan_of run cycles trap take_group2 exception_trace take_fp_unimp060 take_fp_disabled060
run_reads w (TakeException v) d = exc_reads w v (exc_plan (cpu_of w) v)
run_reads w (Trap n) d = exc_reads w (32 + n % 16) (exc_plan (cpu_of w) (32 + n % 16))
run_reads w ExceptionPrivilege d = exc_reads w 8 (exc_plan (cpu_of w) 8)
run_reads w (TakeTrapException n) d = exc_reads w (32 + n % 16) (exc_plan (cpu_of w) (32 + n % 16))
run_reads w TakeAlineException d = rewound_reads w 10 (rewound_plan (cpu_of w) 10)
run_reads w TakeFlineException d = rewound_reads w 11 (rewound_plan (cpu_of w) 11)
run_reads w TakeBkptException d = rewound_reads w 4 (rewound_plan (cpu_of w) 4)
run_reads w TakeIllegalException d = rewound_reads w 4 (rewound_plan (cpu_of w) 4)
run_reads w (TakeGroup2Exception v) d = costly (take_group2 w v).after v (group2_plan (cpu_of w) v)
run_reads w ExceptionChk d = costly (take_group2 w 6).after 6 (group2_plan (cpu_of w) 6)
run_reads w ExceptionZeroDivide d = costly (take_group2 w 5).after 5 (group2_plan (cpu_of w) 5)
run_reads w ExceptionTrace d = costly (exception_trace w).after 9 (trace_plan (cpu_of w))
run_reads w (ExceptionAddressError a write instruction) d = refl
run_reads w (ExceptionBusError a write instruction z cause) d = refl
run_reads w (TakeFpUnimp060 ea) d = costly (take_fp_unimp060 w ea).after 11 (fp_unimp_plan (cpu_of w) ea)
run_reads w TakeFpDisabled060 d = costly (take_fp_disabled060 w).after 11 (fp_disabled_plan (cpu_of w))
run_reads w CheckAndServiceInterrupts d = service_reads w (interrupt_plan (cpu_of w) w.core.bus)
run_reads w (TriggerAddressError a write instruction) d = none_of (sym d)
run_reads w (TriggerBusError a write instruction z) d = none_of (sym d)
run_reads w CheckTrace d = none_of (sym d)
run_reads w (SetIrq n) d = none_of (sym d)
run_reads w CheckInterrupts d = none_of (sym d)
run_reads w (Read16 a) d = none_of (sym d)
run_reads w (Read32 a) d = none_of (sym d)
run_reads w (Write16 a v) d = none_of (sym d)
run_reads w (Write32 a v) d = none_of (sym d)
run_reads w (Push16 v) d = none_of (sym d)
run_reads w (Push32 v) d = none_of (sym d)
run_reads w PrefetchFirst d = none_of (sym d)
run_reads w PrefetchSecond d = none_of (sym d)

-- the engine's answer says taken exactly where the arguments do
pub enter_is : (w : World) (c : Call) → direct c ≡ true → enter_by w c ≡ by_plan w c
unfolding enter_by by_plan perform
enter_is w c d = go (eqb (refusal w c) 0)
  where
    go : (b : Bool) → reads (pick b (run (begun w) c) (answered w (Refused (refusal w c)))).answer (pick b (run (begun w) c) (answered w (Refused (refusal w c)))).after
        ≡ pick b (outcome (plan_of (begun w) c) (pick b (run (begun w) c) (answered w (Refused (refusal w c)))).after) (refused (refusal w c))
    go true = run_reads (begun w) c d
    go false = refl

view_kind_of : (c : Cpu) → (view (regs_of c)).kind ≡ kind_of c
view_kind_of c = view_kind (regs_of c) ∙ kind_regs c

-- an entry keeps the kind
kind_after : (w z : World) (st : Stacked) → Law w z st → kind_of (cpu_of z) ≡ kind_of (cpu_of w)
kind_after w z (one n) l =
    sym (view_kind_of (cpu_of z)) ∙ ap (λ (v : View). v.kind) l.does.view_is ∙ set_top_kind (with_sm (view (regs_of (cpu_of w))) true l.does.m') n.at ∙ view_kind_of (cpu_of w)
kind_after w z (two h n) l = sym (view_kind_of (cpu_of z)) ∙ ap (λ (v : View). v.kind) l.does.view_is ∙ view_kind_of (cpu_of w)

-- ---- the law

module _ (give_back : Cpu → Room → Returned Cpu) (walk : ℕ → ℕ → Cpu → Room → Walked) where
  good : (c : Call) (r : Cpu) (s : Room) → refusal (world_of r s) c ≡ 0 → Inside r → Good r
  good c r s a i =
      record {
        registers = i.registers;
        pointers = i.pointers;
        a7 = i.a7;
        saved = i.saved;
        s_is_lem = accepted_s (world_of r s) c a;
        m_is_lem = accepted_m (world_of r s) c a;
        kind = accepted_kind (world_of r s) c a;
        base = accepted_base (world_of r s) c a;
        code = accepted_code (world_of r s) c a;
        ppc = i.ppc;
      }

  -- law `entered` of the nest, for every direct entry
  pub entered_law : (c : Direct) (r r' : Cpu) (s s' : Room) → enter_by (world_of r s) c.call ≡ taken r' s' → InsideRoom r s → Sound (regs_of r) → CleanCall c r s → No68000Error (machine give_back walk) c r s → ServedThen (machine give_back walk) c r s
      → Apart (regs_of r).kind (frames_of (paper (world_of r s) c.call)) → BelowTop (regs_of r).kind (frames_of (paper (world_of r s) c.call)) → Entry (machine give_back walk) c r r' s s'
  unfolding CleanCall
  entered_law c r r' s s' e i so cl er sv pa below =
      let w : World = world_of r s in
      let t : Took w c.call r' s' = took w c.call r' s' (sym (enter_is w c.call c.is) ∙ e) in
      let q : paper w c.call ≡ stacks w c.call = sym (stacks_paper w c.call t.accepted) in
      let k : (regs_of r).kind ≡ kind_of r = kind_regs r in
      let z : World = (perform w c.call).after in
      let p : Plan = t.plan in
      let x : clean_test (gist w) p ≡ true = cl p t.has in
      let en : error_call c.call ≡ true → kind_of r ≢ 1 = λ q d. er q (k ∙ d) in
      let l : Law w z (stacks w c.call) = nested w c.call p t.accepted t.has i.record_in so x en (rw k at (subst (λ (st : Stacked). BelowTop (regs_of r).kind (frames_of st)) q below)) (rw k at (subst (λ (st : Stacked). Apart (regs_of r).kind (frames_of st)) q pa)) in
      let ct : Clean (gist w) p = entry_clean w c.call p t.accepted t.has (whole_of r i.record_in so) x in
      let g : Good (cpu_of z) = entry_good w c.call p t.accepted t.has ct (good c.call r s t.accepted i.record_in) in
      let m : SameRoom w z = entry_room w c.call p t.accepted t.has ct in
      let lent : (matter_of c.call).store ≡ true = plan_lent (begun w) c.call p t.has in
      let kz : kind_of (cpu_of z) ≡ kind_of r = kind_after w z (stacks w c.call) l in
      let left : is_prefetch_kind (kind_of r) ≡ true → Left z = λ q. entry_left w c.call p t.accepted t.has ct (λ d. ne_eqb (kind_of r) 1 (en d)) q (i.record_in.pc q) (i.record_in.ppc q) (i.bytes q) in
      subst (λ (q : Cpu). Entry (machine give_back walk) c r q s s') t.cpu_is
      (subst (λ (q : Room). Entry (machine give_back walk) c r (cpu_of z) s q) t.room_is
      (record {
        does = (subst (Law w z) (sym q) l).does;
        outside = (subst (Law w z) (sym q) l).outside;
        passes = record {
          flags = flags_accepted (cpu_of z) g.s_is_lem g.m_is_lem;
          base = g.base;
          code = g.code;
          store = sym (store_calm z.core.bus (length z.store)) ∙ ap (λ (b : Bus). bad_store true b (length z.store)) m.bus ∙ store_calm s.bus (length z.store) ∙ ap (λ (n : ℕ). bad_store true s.bus n) m.size ∙ (rw lent at (accepted_room w c.call t.accepted));
          windows = sym (windows_calm z.core.bus) ∙ ap (λ (b : Bus). bad_windows true b) m.bus ∙ windows_calm s.bus ∙ (rw lent at (accepted_windows w c.call t.accepted));
          kind = g.kind;
        };
        inside = record {
          record_in = record { registers = g.registers; pointers = g.pointers; a7 = g.a7; saved = g.saved; pc = λ q. (left (sym (ap is_prefetch_kind kz) ∙ q)).pc; ppc = g.ppc };
          bytes = λ q. (left (sym (ap is_prefetch_kind kz) ∙ q)).bytes;
        };
      }))

  -- law `kind_kept`
  pub kind_law : (c : Direct) (r r' : Cpu) (s s' : Room) → enter_by (world_of r s) c.call ≡ taken r' s' → InsideRoom r s → Sound (regs_of r) → CleanCall c r s → No68000Error (machine give_back walk) c r s → ServedThen (machine give_back walk) c r s → (regs_of r').kind ≡ (regs_of r).kind
  unfolding CleanCall
  kind_law c r r' s s' e i so cl er sv =
      let w : World = world_of r s in
      let t : Took w c.call r' s' = took w c.call r' s' (sym (enter_is w c.call c.is) ∙ e) in
      let ct : Clean (gist w) t.plan = entry_clean w c.call t.plan t.accepted t.has (whole_of r i.record_in so) (cl t.plan t.has) in
      kind_regs r' ∙ ap kind_of (sym t.cpu_is) ∙ entry_kind w c.call t.plan t.accepted t.has ct ∙ sym (kind_regs r)

  -- law `ranges`
  pub ranges_law : (r : Cpu) (s : Room) → InsideRoom r s → Ranges (regs_of r)
  unfolding regs_of
  ranges_law r s i = record { a7 = i.record_in.a7; usp = i.record_in.saved 0; isp = i.record_in.saved 4; msp = i.record_in.saved 6 }
