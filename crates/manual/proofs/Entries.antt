-- Theorems about what specs/Entries defines, and what rests on them.
use Rattle.std.specs.Prelude.{ℕ, ◌+◌, ◌*◌, ◌/◌, ◌%◌, ◌^◌, ◌<◌, ◌≡◌, Bool, true, false, not, ◌&&◌, ◌||◌, [], eqb}
use Rattle.std.proofs.Math.Path.{refl, sym, ap}
use Rattle.std.proofs.Common.{◌∙◌, subst, arith}
use Rattle.std.proofs.Math.Bool.{cond}
use Rattle.std.proofs.Math.Option.{Option, none, some}
use Rattle.std.proofs.Math.Dec.{leb}
use Rattle.types.proofs.Laws.{pick_holds}
use Rattle.types.specs.Kinds.{pick, mask_address}
use Rattle.cpu.specs.declared.Cpu.{Cpu}
use Rattle.cpu.specs.Fields.{kind_of, pc_of, ppc_of, vbr_of, a7_of, set_exception, rewind_pc, note_fpiar, leave_stop}
use Rattle.status.specs.Status.{get_sr, compose}
use Rattle.status.specs.Banks.{enter_supervisor}
use Rattle.memory.specs.World.{World, cpu_of}
use Rattle.frames.specs.declared.Frame.{Frame}
use Rattle.steps.specs.Steps.{stacked_address, stacks_next}
use Rattle.formats.specs.Formats.{format_word, offset_word, short_frame, long_frame, disabled_frame}
use Rattle.images.specs.Images.{new_a7}
use Rattle.forms.specs.Gist.{gist, gist_cpu}
use Rattle.forms.specs.Orders.{words6}
use Rattle.forms.specs.Plans.{turned, planned, Clean, same, single, short_of, exc_plan, rewound_plan, group2_frame, group2_plan, trace_plan, fp_unimp_plan, fp_disabled_plan}
use Rattle.nest.specs.View.{View, set_top, with_sm, nonzero, peek, view}
use Rattle.nest.specs.Nest.{Sound}
use Rattle.nest.specs.Banks.{select, with_a7}
use Rattle.nest.specs.Laws.{lower}
use Rattle.nest.specs.Written.{long_at}
use Rattle.entered.specs.Pointers.{regs_of, stacks_of, view_of, Fit}
use Rattle.entered.specs.Bytes.{mem}
use Rattle.entered.specs.One.{Enters, one_of, stack_top}
use Rattle.entered.specs.Does.{status_fits}
use Rattle.manual.specs.Parts.{Family, has_master}
use Rattle.manual.specs.State.{State, Fault, is_set, entered, supervisor_pointer, down, on_pins}
use Rattle.manual.specs.Vectors.{Class, instruction, trap, group2, interrupt, bus_error, address_error, protocol, configuration, fp_unimplemented, fp_disabled, vector_at, class_of}
use Rattle.manual.specs.Exceptions.{fields_of, top_fields, throws_away, first_frame, pointer_after, isp_after, msp_after, status_after}
use Rattle.manual.specs.Differences.{Via, by_vector, own, way, differences, field_differs, under_differs, length_differs, status_differs, pc_differs, pins_differ}
use Rattle.manual.specs.Calls.{Event, event, state_by}
use Rattle.manual.specs.Cells.{Holding}
use Rattle.manual.specs.Statement.{Reads, Each, Agrees}
use Rattle.manual.specs.Single.{Still, Same3, same_3, holding_found, one_stacks, one_pointer, one_reads, one_status, one_pc}
use Rattle.manual.specs.Plain.{early, plain, twelve, instruction_cells, trap_cells, group2_cells, vector_group2, vector_interrupt, vector_under, vector_bus_error, vector_address_error}
use Rattle.manual.specs.PartLaws.{Tests, Three, three_are, impossible, both_true, sixty, pointer_is, vector_is, pins_are}
use Rattle.manual.specs.Lengths.{plain_bytes, group2_bytes, is_interrupt, has_protocol, has_configuration, rule, rules, instruction_by_vector_length, instruction_own_length, trap_by_vector_length, trap_own_length, group2_own_length, group2_by_vector_length, bus_error_by_vector_length, address_error_by_vector_length, interrupt_by_vector_length, status_is_lem, interrupt_first, no_throw}
use Rattle.manual.specs.Entries.{lower_down, Sized, Turn, End, still_same, end_same, end_exception, turn_supervisor, turn_exception, turn_rewound, turn_trace, turn_fpiar, size12, size16, plain_size, twelve_size, next_trap, not_not, or_right, protocol_hold, protocol_far, configuration_hold, configuration_far, unimplemented_hold, unimplemented_far, disabled_hold, disabled_far}

-- the manual's state of a world
module _ (w : World) (F : Family) (t : Tests F (kind_of (cpu_of w))) (so : Sound (regs_of (cpu_of w))) (fit : Fit (cpu_of (gist w))) where
  top_gist : stack_top (cpu_of (gist w)) ≡ stack_top (cpu_of w)
  unfolding stack_top stacks_of gist gist_cpu kind_of a7_of
  top_gist = refl

  pub pointer_of : (fa : Fault) (op : Option ℕ) → stack_top (cpu_of (gist w)) ≡ supervisor_pointer (state_by w F fa op)
  unfolding supervisor_pointer state_by
  pointer_of fa op = top_gist ∙ pointer_is F (cpu_of w) t so

  module _ (fa : Fault) (op : Option ℕ) (cl : Class) (v : ℕ) (via : Via) (vl : v < 256) where
    abbrev S : State
    S = state_by w F fa op

    pub vector_of_lem : pc_differs differences S via cl v ≡ false → vector_at S v ≡ (vbr_of (cpu_of (gist w)) + 4 * v) % 0x100000000
    unfolding state_by gist gist_cpu vbr_of
    vector_of_lem e = vector_is F via cl (state_by w F fa op) v e

    pub pins_of : (a : ℕ) → pins_differ differences S via cl v a ≡ false → on_pins S.lines a ≡ mask_address (kind_of (cpu_of w)) a
    unfolding state_by kind_of
    pins_of a e = pins_are F via cl (state_by w F fa op) v (kind_of (cpu_of w)) t refl a e

    pub kind_gist : kind_of (cpu_of (gist w)) ≡ kind_of (cpu_of w)
    unfolding gist gist_cpu kind_of
    kind_gist = refl

    status_gist : get_sr (cpu_of (gist w)) ≡ get_sr (cpu_of w)
    unfolding gist gist_cpu get_sr
    status_gist = refl

    status_of : status_differs differences S via cl v ≡ false → (via ≡ own → is_interrupt cl ≡ false) → entered (get_sr (cpu_of w)) ≡ status_after S cl
    unfolding state_by
    status_of e i = status_is_lem (state_by w F fa op) v F via cl e i

    throws_here : (via ≡ own → is_interrupt cl ≡ false) → length_differs differences S via cl v ≡ false → throws_away S cl ≡ false
    unfolding state_by
    throws_here i e = no_throw (state_by w F fa op) v F via cl i e

    three_gist : (q : ℕ) → Three (set_top (with_sm (view (stacks_of (cpu_of (gist w)))) true (nonzero (cpu_of (gist w)).flags.m_flag)) q) (view (regs_of (cpu_of w))).usp
        (cond (has_master F && is_set 12 (get_sr (cpu_of w))) (view (regs_of (cpu_of w))).isp q) (cond (has_master F && is_set 12 (get_sr (cpu_of w))) q (view (regs_of (cpu_of w))).msp)
    unfolding gist gist_cpu stacks_of kind_of a7_of
    three_gist q = three_are F (cpu_of w) t so q

    first_number : throws_away S cl ≡ false → pointer_after S cl ≡ first_frame S cl
    unfolding pointer_after
    first_number e = ap (λ (b : Bool). cond b (down S.isp 8) (first_frame S cl)) e

    pub usp_of : (view (regs_of (cpu_of w))).usp ≡ S.usp
    unfolding state_by
    usp_of = refl

    isp_selected : (q : ℕ) → cond (has_master F && is_set 12 (get_sr (cpu_of w))) (view (regs_of (cpu_of w))).isp q ≡ cond (has_master S.family && is_set 12 S.status) S.isp q
    unfolding state_by
    isp_selected q = refl

    msp_selected : (q : ℕ) → cond (has_master F && is_set 12 (get_sr (cpu_of w))) q (view (regs_of (cpu_of w))).msp ≡ cond (has_master S.family && is_set 12 S.status) q S.msp
    unfolding state_by
    msp_selected q = refl

    isp_of : throws_away S cl ≡ false → (q : ℕ) → q ≡ pointer_after S cl → cond (has_master F && is_set 12 (get_sr (cpu_of w))) (view (regs_of (cpu_of w))).isp q ≡ isp_after S cl
    unfolding isp_after state_by
    isp_of e q h =
        ap (λ (n : ℕ). cond (has_master F && is_set 12 (get_sr (cpu_of w))) (view (regs_of (cpu_of w))).isp n) (h ∙ first_number e)
        ∙ sym (ap (λ (b : Bool). cond b (down S.isp 8) (cond (has_master F && is_set 12 (get_sr (cpu_of w))) (view (regs_of (cpu_of w))).isp (first_frame S cl))) e)

    msp_of : throws_away S cl ≡ false → (q : ℕ) → q ≡ pointer_after S cl → cond (has_master F && is_set 12 (get_sr (cpu_of w))) q (view (regs_of (cpu_of w))).msp ≡ msp_after S cl
    unfolding msp_after state_by
    msp_of e q h = ap (λ (n : ℕ). cond (has_master F && is_set 12 (get_sr (cpu_of w))) n (view (regs_of (cpu_of w))).msp) (h ∙ first_number e)

    pub flags_status : (c d : Cpu) → c.flags ≡ d.flags → get_sr (same c) ≡ get_sr (same d)
    unfolding get_sr
    flags_status c d e = ap compose e

    -- a plan of one frame whose cells, length and status are the manual's
    pub settled_agrees : (turn settle close : Cpu → Cpu) (f : Frame) (n : ℕ) → Enters turn → Still turn → Still settle → ((c : Cpu) → (stacks_of (settle c)).a7 ≡ (stacks_of c).a7)
        → ((c d : Cpu) → c.flags ≡ d.flags → get_sr (settle c) ≡ get_sr (settle d)) → End close → Sized f n → Holding f (field_differs differences S via cl v) (top_fields S cl v)
        → (length_differs differences S via cl v ≡ false → pointer_after S cl ≡ down (supervisor_pointer S) n) → (status_differs differences S via cl v ≡ false → get_sr (settle (turn (cpu_of (gist w)))) ≡ status_after S cl)
        → ((c : Cpu) → stacks_of c ≡ with_a7 (select (stacks_of (cpu_of (gist w))) 4 (cpu_of (gist w)).flags.m_flag) (new_a7 (turned (gist w) turn) f) → kind_of c ≡ kind_of (cpu_of (gist w)) → Same3 (view (stacks_of (settle c))) (view (stacks_of c)))
        → (length_differs differences S via cl v ≡ false → throws_away S cl ≡ false)
        → (throws_away S cl ≡ true → Holding f (under_differs differences S via cl v) (fields_of S cl v) × (first_frame S cl ≡ down (supervisor_pointer S) n))
        → Clean (gist w) (one_of turn f settle v close) → Agrees differences S (event cl v via) w (planned (gist w) (one_of turn f settle v close))
    settled_agrees turn settle close f n te ts ss sa sf en z h l st sv nt un c =
        record {
          under = λ d a. subst (λ (p : ℕ). Each (λ q. (m : ℕ) → q.value ≡ some m → under_differs differences S via cl v q ≡ false → Reads (peek (mem P)) (kind_of (cpu_of w)) p q m) (fields_of S cl v)) (lowered ∙ sym (un d).1)
              (subst (λ (k : ℕ). Each (λ q. (m : ℕ) → q.value ≡ some m → under_differs differences S via cl v q ≡ false → Reads (peek (mem P)) k (a7_of (cpu_of P)) q m) (fields_of S cl v)) kind_gist
              (holding_found f (under_differs differences S via cl v) (Reads (peek (mem P)) (kind_of (cpu_of (gist w))) (a7_of (cpu_of P)))
              (one_reads (gist w) turn settle close f v fit te ts ss sa en.keeps en.pc en.status z.shape c) (fields_of S cl v) (un d).0));
          frame = subst (λ (k : ℕ). Each (λ q. (m : ℕ) → q.value ≡ some m → field_differs differences S via cl v q ≡ false → Reads (peek (mem P)) k (a7_of (cpu_of P)) q m) (top_fields S cl v)) kind_gist
              (holding_found f (field_differs differences S via cl v) (Reads (peek (mem P)) (kind_of (cpu_of (gist w))) (a7_of (cpu_of P)))
              (one_reads (gist w) turn settle close f v fit te ts ss sa en.keeps en.pc en.status z.shape c) (top_fields S cl v) h);
          usp = three.usp_is ∙ usp_of;
          selected = λ e. record { isp = three.isp_is ∙ isp_selected (a7_of (cpu_of P)); msp = three.msp_is ∙ msp_selected (a7_of (cpu_of P)) };
          pointer = pointer_here;
          stacks = λ e. record { isp = three.isp_is ∙ isp_of (nt e) (a7_of (cpu_of P)) (pointer_here e); msp = three.msp_is ∙ msp_of (nt e) (a7_of (cpu_of P)) (pointer_here e) };
          status = λ e. one_status (gist w) turn settle close f v fit te ts ss sa en.keeps en.pc en.status z.shape c sf ∙ st e;
          pc = λ e. ap (λ (a : ℕ). long_at (peek (mem P)) (mask_address (kind_of (cpu_of w)) a)) (vector_of_lem e)
              ∙ subst (λ (k : ℕ). long_at (peek (mem P)) (mask_address k ((vbr_of (cpu_of (gist w)) + 4 * v) % 0x100000000)) ≡ some (pc_of (cpu_of P))) kind_gist
              (one_pc (gist w) turn settle close f v fit te ts ss sa en.keeps en.pc en.status z.shape c vl);
          pins = pins_of;
        }
      where
        P : World
        P = planned (gist w) (one_of turn f settle v close)

        three : Three (view (regs_of (cpu_of P))) (view (regs_of (cpu_of w))).usp (cond (has_master F && is_set 12 (get_sr (cpu_of w))) (view (regs_of (cpu_of w))).isp (a7_of (cpu_of P)))
            (cond (has_master F && is_set 12 (get_sr (cpu_of w))) (a7_of (cpu_of P)) (view (regs_of (cpu_of w))).msp)
        three =
            let b = one_stacks (gist w) turn settle close f v fit te ts ss sa en.keeps en.pc en.status z.shape c sv in
            let k = three_gist (a7_of (cpu_of P)) in
            let u = view_of (cpu_of P) in
            record {
              usp_is = ap (λ (y : View). y.usp) u ∙ b.usp ∙ k.usp_is;
              isp_is = ap (λ (y : View). y.isp) u ∙ b.isp ∙ k.isp_is;
              msp_is = ap (λ (y : View). y.msp) u ∙ b.msp ∙ k.msp_is;
            }

        lowered : a7_of (cpu_of (planned (gist w) (one_of turn f settle v close))) ≡ down (supervisor_pointer S) n
        lowered =
            one_pointer (gist w) turn settle close f v fit te ts ss sa en.keeps en.pc en.status z.shape c (rw z.size z.small)
            ∙ ap (lower (stack_top (cpu_of (gist w)))) z.size ∙ lower_down (stack_top (cpu_of (gist w))) n z.small ∙ ap (λ (q : ℕ). down q n) (pointer_of fa op)

        pointer_here : length_differs differences S via cl v ≡ false → a7_of (cpu_of (planned (gist w) (one_of turn f settle v close))) ≡ pointer_after S cl
        pointer_here e = lowered ∙ sym (l e)

    pub one_agrees : (turn close : Cpu → Cpu) (f : Frame) (n : ℕ) → Turn turn → End close → Sized f n → Holding f (field_differs differences S via cl v) (top_fields S cl v)
        → (length_differs differences S via cl v ≡ false → pointer_after S cl ≡ down (supervisor_pointer S) n) → (via ≡ own → is_interrupt cl ≡ false)
        → (throws_away S cl ≡ true → Holding f (under_differs differences S via cl v) (fields_of S cl v) × (first_frame S cl ≡ down (supervisor_pointer S) n)) → Clean (gist w) (single turn f v close)
        → Agrees differences S (event cl v via) w (planned (gist w) (single turn f v close))
    one_agrees turn close f n tu en z h l i un =
        settled_agrees turn same close f n tu.enters tu.still still_same (λ d. refl) flags_status en z h l (λ e. tu.status (cpu_of (gist w)) ∙ ap entered status_gist ∙ status_of e i)
        (λ c e k. same_3 _ _ refl) (throws_here i) un

-- ---- the calls

module _ (w : World) (F : Family) (t : Tests F (kind_of (cpu_of w))) (so : Sound (regs_of (cpu_of w))) (fit : Fit (cpu_of (gist w))) (pcl : pc_of (cpu_of w) < 0x100000000) (ppl : ppc_of (cpu_of w) < 0x100000000) where
  abbrev C : Cpu
  C = cpu_of w

  abbrev St : Fault → Option ℕ → State
  St fa op = state_by w F fa op

  -- a frame by another name
  pub by_frame : (s : State) (e : Event) (turn close : Cpu → Cpu) (v : ℕ) (f g : Frame) → f ≡ g → (Clean (gist w) (single turn g v close) → Agrees differences s e w (planned (gist w) (single turn g v close)))
      → Clean (gist w) (single turn f v close) → Agrees differences s e w (planned (gist w) (single turn f v close))
  by_frame s e turn close v f g q h = subst (λ (k : Frame). Clean (gist w) (single turn k v close) → Agrees differences s e w (planned (gist w) (single turn k v close))) (sym q) h

  short_is : (sr a b fw : ℕ) → a ≡ b → short_of (kind_of C) sr a fw ≡ plain F sr b fw
  unfolding short_of
  short_is sr a b fw e = ap (λ (q : Bool). pick q (words6 sr a) (short_frame sr a fw)) t.one ∙ ap (λ (n : ℕ). plain F sr n fw) e

  -- status, address and format word: any plan with such a frame
  short_agrees : (fa : Fault) (op : Option ℕ) (cl : Class) (v : ℕ) (via : Via) → v < 256 → (turn close : Cpu → Cpu) → Turn turn → End close → (a b : ℕ) → a ≡ b
      → Holding (plain F (get_sr C) b (offset_word v)) (field_differs differences (St fa op) via cl v) (top_fields (St fa op) cl v)
      → (length_differs differences (St fa op) via cl v ≡ false → pointer_after (St fa op) cl ≡ down (supervisor_pointer (St fa op)) (plain_bytes F)) → (via ≡ own → is_interrupt cl ≡ false)
      → (throws_away (St fa op) cl ≡ true → Holding (plain F (get_sr C) b (offset_word v)) (under_differs differences (St fa op) via cl v) (fields_of (St fa op) cl v) × (first_frame (St fa op) cl ≡ down (supervisor_pointer (St fa op)) (plain_bytes F)))
      → Clean (gist w) (single turn (short_of (kind_of C) (get_sr C) a (offset_word v)) v close)
      → Agrees differences (St fa op) (event cl v via) w (planned (gist w) (single turn (short_of (kind_of C) (get_sr C) a (offset_word v)) v close))
  short_agrees fa op cl v via vl turn close tu en a b q h l i un =
      by_frame (St fa op) (event cl v via) turn close v _ (plain F (get_sr C) b (offset_word v)) (short_is (get_sr C) a b (offset_word v) q)
      (one_agrees w F t so fit fa op cl v via vl turn close (plain F (get_sr C) b (offset_word v)) (plain_bytes F) tu en (plain_size F (get_sr C) b (offset_word v)) h l i un)

  not_own : by_vector ≡ own → {A : Type 0} → A
  not_own e = let z : ◌≡◌ {A = ℕ} 0 1 = ap way e in absurd (omega arith)

  by_next : (v : ℕ) → stacks_next v ≡ true → stacked_address C v ≡ pc_of C
  unfolding stacked_address
  by_next v e = rw e

  by_this : (v : ℕ) → stacks_next v ≡ false → stacked_address C v ≡ ppc_of C
  unfolding stacked_address
  by_this v e = rw e

  stacked_small : (v : ℕ) → stacked_address C v < 0x100000000
  unfolding stacked_address
  stacked_small v = pick_holds (λ (n : ℕ). n < 0x100000000) (stacks_next v) (pc_of C) (ppc_of C) pcl ppl

  -- TRAP
  pub trap_agrees : (n : ℕ) (fa : Fault) (op : Option ℕ) → Clean (gist w) (exc_plan C (32 + n % 16)) → Agrees differences (St fa op) (event trap (32 + n % 16) own) w (planned (gist w) (exc_plan C (32 + n % 16)))
  unfolding exc_plan state_by top_fields pc_of ppc_of
  trap_agrees n fa op =
      short_agrees fa op trap (32 + n % 16) own (omega arith) (λ d. enter_supervisor (set_exception d true)) (λ d. set_exception d false) turn_exception end_exception (stacked_address C (32 + n % 16)) (pc_of C)
      (by_next (32 + n % 16) (next_trap n)) (trap_cells (St fa op) (32 + n % 16) (status_fits C) ppl pcl (omega arith) F own) (trap_own_length (St fa op) (32 + n % 16) F) (λ e. refl) (λ d. impossible (sym d))

  -- an instruction that is not executed, by `take_exception`'s way and by the wrappers
  pub privilege_agrees : (fa : Fault) (op : Option ℕ) → Clean (gist w) (exc_plan C 8) → Agrees differences (St fa op) (event instruction 8 own) w (planned (gist w) (exc_plan C 8))
  unfolding exc_plan state_by top_fields ppc_of stacked_address stacks_next pc_of
  privilege_agrees fa op =
      short_agrees fa op instruction 8 own (omega arith) (λ d. enter_supervisor (set_exception d true)) (λ d. set_exception d false) turn_exception end_exception (stacked_address C 8) (ppc_of C)
      refl (instruction_cells (St fa op) 8 (status_fits C) ppl pcl (omega arith) F own) (instruction_own_length (St fa op) 8 F) (λ e. refl) (λ d. impossible (sym d))

  pub rewound_agrees : (v : ℕ) → v < 256 → stacked_address (rewind_pc C) v ≡ ppc_of C → (fa : Fault) (op : Option ℕ) → Clean (gist w) (rewound_plan C v) → Agrees differences (St fa op) (event instruction v own) w (planned (gist w) (rewound_plan C v))
  unfolding rewound_plan state_by top_fields ppc_of pc_of
  rewound_agrees v vl q fa op =
      short_agrees fa op instruction v own vl (λ d. enter_supervisor (set_exception (rewind_pc d) true)) (λ d. set_exception d false) turn_rewound end_exception (stacked_address (rewind_pc C) v) (ppc_of C)
      q (instruction_cells (St fa op) v (status_fits C) ppl pcl vl F own) (instruction_own_length (St fa op) v F) (λ e. refl) (λ d. impossible (sym d))

  -- group 2 and trace
  group_is : (v : ℕ) → group2_frame (kind_of C) (get_sr C) (pc_of C) (ppc_of C) v ≡ twelve F (get_sr C) (pc_of C) (ppc_of C) v
  unfolding group2_frame
  group_is v =
      ap (λ (q : Bool). pick q (short_of (kind_of C) (get_sr C) (pc_of C) (offset_word v)) (long_frame (get_sr C) (pc_of C) (format_word 2 v) (ppc_of C))) t.pre
      ∙ ap (λ (f : Frame). pick (early F) f (long_frame (get_sr C) (pc_of C) (format_word 2 v) (ppc_of C))) (short_is (get_sr C) (pc_of C) (pc_of C) (offset_word v) refl)

  group_by_lem : (turn : Cpu → Cpu) → Turn turn → (v : ℕ) → v < 256 → (fa : Fault) (op : Option ℕ) → Clean (gist w) (single turn (group2_frame (kind_of C) (get_sr C) (pc_of C) (ppc_of C) v) v same)
      → Agrees differences (St fa op) (event group2 v own) w (planned (gist w) (single turn (group2_frame (kind_of C) (get_sr C) (pc_of C) (ppc_of C) v) v same))
  unfolding state_by top_fields pc_of ppc_of
  group_by_lem turn tu v vl fa op =
      by_frame (St fa op) (event group2 v own) turn same v _ (twelve F (get_sr C) (pc_of C) (ppc_of C) v) (group_is v)
      (one_agrees w F t so fit fa op group2 v own vl turn same (twelve F (get_sr C) (pc_of C) (ppc_of C) v) (group2_bytes F) tu end_same (twelve_size F (get_sr C) (pc_of C) (ppc_of C) v)
      (group2_cells (St fa op) v (status_fits C) ppl pcl vl F) (group2_own_length (St fa op) v F) (λ e. refl) (λ d. impossible (sym d)))

  pub group_agrees : (v : ℕ) → v < 256 → (fa : Fault) (op : Option ℕ) → Clean (gist w) (group2_plan C v) → Agrees differences (St fa op) (event group2 v own) w (planned (gist w) (group2_plan C v))
  unfolding group2_plan
  group_agrees v vl fa op = group_by_lem enter_supervisor turn_supervisor v vl fa op

  pub trace_agrees : (fa : Fault) (op : Option ℕ) → Clean (gist w) (trace_plan C) → Agrees differences (St fa op) (event group2 9 own) w (planned (gist w) (trace_plan C))
  unfolding trace_plan
  trace_agrees fa op = group_by_lem (λ d. enter_supervisor (leave_stop d)) turn_trace 9 (omega arith) fa op

  -- `take_exception`, by the class of its vector
  pub vector_agrees : (v : ℕ) → v < 256 → (cl : Class) → class_of F v ≡ some cl → (fa : Fault) (op : Option ℕ) → Clean (gist w) (exc_plan C v) → Agrees differences (St fa op) (event cl v by_vector) w (planned (gist w) (exc_plan C v))
  unfolding exc_plan state_by top_fields pc_of ppc_of
  vector_agrees v vl instruction e fa op =
      short_agrees fa op instruction v by_vector vl (λ d. enter_supervisor (set_exception d true)) (λ d. set_exception d false) turn_exception end_exception (stacked_address C v) (ppc_of C) (by_this v (not_not (stacks_next v) (subst (λ (o : Option Class). rule F o v ≡ true) e (rules F v vl))))
      (instruction_cells (St fa op) v (status_fits C) ppl pcl vl F by_vector) (instruction_by_vector_length (St fa op) v F) (λ x. not_own x) (λ d. impossible (sym d))
  vector_agrees v vl trap e fa op =
      short_agrees fa op trap v by_vector vl (λ d. enter_supervisor (set_exception d true)) (λ d. set_exception d false) turn_exception end_exception (stacked_address C v) (pc_of C) (by_next v (subst (λ (o : Option Class). rule F o v ≡ true) e (rules F v vl)))
      (trap_cells (St fa op) v (status_fits C) ppl pcl vl F by_vector) (trap_by_vector_length (St fa op) v F) (λ x. not_own x) (λ d. impossible (sym d))
  vector_agrees v vl group2 e fa op =
      short_agrees fa op group2 v by_vector vl (λ d. enter_supervisor (set_exception d true)) (λ d. set_exception d false) turn_exception end_exception (stacked_address C v) (stacked_address C v) refl
      (vector_group2 (St fa op) v (status_fits C) ppl pcl vl (stacked_address C v) (stacked_small v) (λ x. by_next v (or_right (eqb v 6) (stacks_next v) (subst (λ (o : Option Class). rule F o v ≡ true) e (rules F v vl)) x)) F (eqb v 6) refl) (group2_by_vector_length (St fa op) v F) (λ x. not_own x) (λ d. impossible (sym d))
  vector_agrees v vl interrupt e fa op =
      short_agrees fa op interrupt v by_vector vl (λ d. enter_supervisor (set_exception d true)) (λ d. set_exception d false) turn_exception end_exception (stacked_address C v) (stacked_address C v) refl
      (vector_interrupt (St fa op) v (status_fits C) ppl pcl vl (stacked_address C v) (stacked_small v) (λ x. by_next v (or_right (eqb v 15 || leb 64 v) (stacks_next v) (subst (λ (o : Option Class). rule F o v ≡ true) e (rules F v vl)) x)) F (eqb v 15 || leb 64 v) refl (eqb ((St fa op).status / 2 ^ 12 % 2) 1) refl) (interrupt_by_vector_length (St fa op) v F) (λ x. not_own x)
      (λ d. (vector_under (St fa op) v (status_fits C) ppl pcl vl (stacked_address C v) (stacked_small v) (λ x. by_next v (or_right (eqb v 15 || leb 64 v) (stacks_next v) (subst (λ (o : Option Class). rule F o v ≡ true) e (rules F v vl)) x)) F (eqb v 15 || leb 64 v) refl, interrupt_first (St fa op) F))
  vector_agrees v vl bus_error e fa op =
      short_agrees fa op bus_error v by_vector vl (λ d. enter_supervisor (set_exception d true)) (λ d. set_exception d false) turn_exception end_exception (stacked_address C v) (ppc_of C) (by_this v (not_not (stacks_next v) (subst (λ (o : Option Class). rule F o v ≡ true) e (rules F v vl))))
      (vector_bus_error (St fa op) v (status_fits C) ppl pcl vl F) (bus_error_by_vector_length (St fa op) v F) (λ x. not_own x) (λ d. impossible (sym d))
  vector_agrees v vl address_error e fa op =
      short_agrees fa op address_error v by_vector vl (λ d. enter_supervisor (set_exception d true)) (λ d. set_exception d false) turn_exception end_exception (stacked_address C v) (ppc_of C) (by_this v (not_not (stacks_next v) (subst (λ (o : Option Class). rule F o v ≡ true) e (rules F v vl))))
      (vector_address_error (St fa op) v (status_fits C) ppl pcl vl F) (address_error_by_vector_length (St fa op) v F) (λ x. not_own x) (λ d. impossible (sym d))
  vector_agrees v vl protocol e fa op =
      short_agrees fa op protocol v by_vector vl (λ d. enter_supervisor (set_exception d true)) (λ d. set_exception d false) turn_exception end_exception (stacked_address C v) (ppc_of C) (by_this v (not_not (stacks_next v) (both_true (has_protocol F) (not (stacks_next v)) (subst (λ (o : Option Class). rule F o v ≡ true) e (rules F v vl))).1))
      (protocol_hold F (St fa op) v (status_fits C) ppl pcl vl (both_true (has_protocol F) (not (stacks_next v)) (subst (λ (o : Option Class). rule F o v ≡ true) e (rules F v vl))).0) (protocol_far F (St fa op) v (both_true (has_protocol F) (not (stacks_next v)) (subst (λ (o : Option Class). rule F o v ≡ true) e (rules F v vl))).0) (λ x. not_own x) (λ d. impossible (sym d))
  vector_agrees v vl configuration e fa op =
      short_agrees fa op configuration v by_vector vl (λ d. enter_supervisor (set_exception d true)) (λ d. set_exception d false) turn_exception end_exception (stacked_address C v) (ppc_of C) (by_this v (not_not (stacks_next v) (both_true (has_configuration F) (not (stacks_next v)) (subst (λ (o : Option Class). rule F o v ≡ true) e (rules F v vl))).1))
      (configuration_hold F (St fa op) v (status_fits C) ppl pcl vl (both_true (has_configuration F) (not (stacks_next v)) (subst (λ (o : Option Class). rule F o v ≡ true) e (rules F v vl))).0) (configuration_far F (St fa op) v (both_true (has_configuration F) (not (stacks_next v)) (subst (λ (o : Option Class). rule F o v ≡ true) e (rules F v vl))).0) (λ x. not_own x) (λ d. impossible (sym d))
  vector_agrees v vl fp_unimplemented e fa op = impossible (sym (subst (λ (o : Option Class). rule F o v ≡ true) e (rules F v vl)))
  vector_agrees v vl fp_disabled e fa op = impossible (sym (subst (λ (o : Option Class). rule F o v ≡ true) e (rules F v vl)))

  -- the 68060's floating-point exceptions
  pub unimplemented_agrees : (ea : ℕ) → sixty F ≡ true → (fa : Fault) → Clean (gist w) (fp_unimp_plan C ea) → Agrees differences (St fa (some ea)) (event fp_unimplemented 11 own) w (planned (gist w) (fp_unimp_plan C ea))
  unfolding fp_unimp_plan state_by top_fields pc_of ppc_of
  unimplemented_agrees ea x fa =
      one_agrees w F t so fit fa (some ea) fp_unimplemented 11 own (omega arith) (λ d. enter_supervisor (note_fpiar d)) same (long_frame (get_sr C) (pc_of C) (format_word 2 11) ea) 12 turn_fpiar end_same
      (size12 (get_sr C) (pc_of C) (format_word 2 11) ea) (unimplemented_hold F (St fa (some ea)) (status_fits C) ppl pcl x ea refl) (λ e. unimplemented_far F (St fa (some ea)) x) (λ e. refl) (λ d. impossible (sym d))

  pub disabled_agrees : sixty F ≡ true → (fa : Fault) → Clean (gist w) (fp_disabled_plan C) → Agrees differences (St fa none) (event fp_disabled 11 own) w (planned (gist w) (fp_disabled_plan C))
  unfolding fp_disabled_plan state_by top_fields pc_of ppc_of
  disabled_agrees x fa =
      one_agrees w F t so fit fa none fp_disabled 11 own (omega arith) enter_supervisor same (disabled_frame (get_sr C) (ppc_of C) (format_word 4 11) 0 (ppc_of C)) 16 turn_supervisor end_same
      (size16 (get_sr C) (ppc_of C) (format_word 4 11) 0 (ppc_of C)) (disabled_hold F (St fa none) (status_fits C) ppl pcl x refl) (λ e. disabled_far F (St fa none) x) (λ e. refl) (λ d. impossible (sym d))
