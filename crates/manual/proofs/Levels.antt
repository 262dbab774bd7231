-- Theorems about what specs/Levels defines, and what rests on them.
use Rattle.std.specs.Prelude.{ℕ, ◌+◌, ◌-◌, ◌*◌, ◌%◌, ◌≤◌, ◌<◌, ◌≡◌, Bool, not, ◌&&◌, []}
use Rattle.std.proofs.Math.Path.{refl, sym, ap, subst}
use Rattle.std.proofs.Common.{◌∙◌, eqb-true}
use Rattle.std.proofs.Math.Bool.{true, false, cond}
use Rattle.std.proofs.Math.Option.{none, some}
use native.Mathlib.Omega.{arith}
use Rattle.std.proofs.Math.Dec.{eqb}
use Rattle.types.specs.Kinds.{is060, mask_address}
use Rattle.cpu.specs.declared.Cpu.{Cpu}
use Rattle.cpu.specs.Fields.{kind_of, pc_of, ppc_of, vbr_of, a7_of, clear_stopped, minus32}
use Rattle.status.specs.Status.{get_sr, clear_trace, clear_m, set_int_mask, m_is_set}
use Rattle.status.specs.Banks.{backup_sp, restore_sp, put_s, set_sflag, set_sm_flag_nosp, enter_supervisor}
use Rattle.pending.specs.Interrupts.{pending_level, clear_level, charge_interrupt}
use Rattle.memory.specs.World.{World, cpu_of}
use Rattle.frames.specs.declared.Frame.{Frame}
use Rattle.steps.specs.Steps.{enter_level}
use Rattle.steps.specs.Steps.{with_s as engine_s}
use Rattle.formats.specs.Formats.{format_word, offset_word, short_frame}
use Rattle.images.specs.Images.{frame_bytes, new_a7}
use Rattle.forms.specs.Gist.{gist, gist_cpu}
use Rattle.forms.specs.Plans.{turned, planned, Clean, same, interrupt_vector, interrupt_frame, throwaways, settles, interrupt_by, interrupt_plan}
use Rattle.nest.specs.View.{Regs, View, sr_mask, master, bank_of, nonzero, view, peek}
use Rattle.nest.specs.View.{interrupt as interrupt_bank}
use Rattle.nest.specs.Nest.{Sound}
use Rattle.nest.specs.Banks.{select, with_a7, up_a7}
use Rattle.nest.specs.Written.{long_at}
use Rattle.entered.specs.Pointers.{regs_of, stacks_of, view_of, Fit}
use Rattle.entered.specs.Bytes.{mem}
use Rattle.entered.specs.One.{one_of, lowers, turned_stacks, top_of, stack_top}
use Rattle.entered.specs.Two.{two_of}
use Rattle.entered.specs.Does.{status_fits}
use Rattle.entered.specs.Turns.{enters_level}
use Rattle.manual.specs.Parts.{Family, mc68000, mc68010, mc68020, mc68030, mc68040, mc68060, has_master}
use Rattle.manual.specs.State.{State, Fault, is_set, interrupted, supervisor_pointer, down, mask}
use Rattle.manual.specs.Vectors.{interrupt}
use Rattle.manual.specs.Exceptions.{fields_of, throwaway, throws_away, top_fields, pointer_after, isp_after, msp_after, status_after, first_frame, length_of}
use Rattle.manual.specs.Differences.{own, differences, field_differs, under_differs}
use Rattle.manual.specs.Calls.{event, state_by}
use Rattle.manual.specs.Formats.{Field}
use Rattle.manual.specs.Cells.{part_of, in_frame, Holding}
use Rattle.manual.specs.Statement.{Reads, Each, Apart, Agrees}
use Rattle.manual.specs.Single.{Still, Same3, same_3, Within, holding_found, holding_within}
use Rattle.manual.specs.Double.{two_pointer, two_stacks_lem, two_a7, two_reads, two_status, two_pc, two_under}
use Rattle.manual.specs.Plain.{of, early, level, interrupt_cells, under_cells, throwaway_cells}
use Rattle.manual.specs.PartLaws.{Tests, impossible, sixty, no_m, sound_m, sound_mask, clear_none, sixty_is}
use Rattle.manual.proofs.PartLaws.{level_status}
use Rattle.manual.specs.Lengths.{plain_bytes, interrupt_own_length}
use Rattle.manual.specs.Entries.{Sized, still_same, size8}
use Rattle.manual.proofs.Entries.{settled_agrees, flags_status, pointer_of, usp_of, vector_of_lem, pins_of, kind_gist}
use Rattle.manual.specs.Levels.{level_small, vector_small, end_level, still_level, still_clear, clear_top, clear_flags, none_set, set_nonzero, level_m, leave_same, level_size, with_s_lem, s_fits, select_s, clear_three, lower_eight}

-- M clear already: the status of the level alone
unset_status : (c : Cpu) (n : ℕ) → n < 8 → c.flags.m_flag ≡ 0 → get_sr (enter_level c n) ≡ interrupted n (get_sr c)
unset_status c n l e = sym (clear_none (enter_level c n) (kept ∙ e)) ∙ level_status c n l
  where
    kept : (enter_level c n).flags.m_flag ≡ c.flags.m_flag
    kept = level_m c n

-- left with the master stack: S set, M clear
left_status : (c : Cpu) (n : ℕ) → n < 8 → get_sr (set_sm_flag_nosp (enter_level c n) 4) ≡ interrupted n (get_sr c)
left_status c n l = leave_same c n ∙ level_status c n l

-- ---- the call

module _ (w : World) (F : Family) (t : Tests F (kind_of (cpu_of w))) (so : Sound (regs_of (cpu_of w))) (fit : Fit (cpu_of (gist w))) (pcl : pc_of (cpu_of w) < 0x100000000) (ppl : ppc_of (cpu_of w) < 0x100000000) (fa : Fault) where
  abbrev C : Cpu
  C = cpu_of w

  abbrev S : State
  S = state_by w F fa none

  abbrev N : ℕ
  N = interrupt_vector C w.core.bus

  abbrev L : ℕ
  L = pending_level C

  abbrev end : Cpu → Cpu
  end d = clear_level (charge_interrupt (clear_stopped d))

  frame_is_lem : (v : ℕ) → interrupt_frame (kind_of C) (get_sr C) (pc_of C) v ≡ level F (get_sr C) (pc_of C) (offset_word v)
  unfolding interrupt_frame
  frame_is_lem v = rw (t.one, t.two)

  m_bit_lem : is_set 12 (get_sr C) ≡ nonzero C.flags.m_flag
  unfolding regs_of
  m_bit_lem = sound_m C so

  gist_m : (n : ℕ) → get_sr (enter_level (cpu_of (gist w)) n) ≡ get_sr (enter_level C n)
  unfolding gist gist_cpu enter_level set_int_mask enter_supervisor clear_trace set_sflag restore_sp put_s backup_sp get_sr
  gist_m n = refl

  gist_sr : get_sr (cpu_of (gist w)) ≡ get_sr C
  unfolding gist gist_cpu get_sr
  gist_sr = refl

  -- no second frame: the state is not the master's
  single_top : (has_master F && is_set 12 (get_sr C)) ≡ false → top_fields S interrupt N ≡ fields_of S interrupt N
  unfolding top_fields state_by
  single_top e = ap (λ (b : Bool). cond b (throwaway S N) (fields_of S interrupt N)) e

  first_cells : Holding (level F (get_sr C) (pc_of C) (offset_word N)) (field_differs differences S own interrupt N) (fields_of S interrupt N)
  unfolding state_by pc_of ppc_of
  first_cells = interrupt_cells S N (status_fits C) ppl pcl (vector_small C w.core.bus) F

  first_under : Holding (level F (get_sr C) (pc_of C) (offset_word N)) (under_differs differences S own interrupt N) (fields_of S interrupt N)
  unfolding state_by pc_of ppc_of
  first_under = under_cells S N (status_fits C) ppl pcl (vector_small C w.core.bus) F

  first_length : (has_master F && is_set 12 (get_sr C)) ≡ false → pointer_after S interrupt ≡ down (supervisor_pointer S) (plain_bytes F)
  unfolding state_by
  first_length e = interrupt_own_length S N F e

  no_second : (has_master F && is_set 12 (get_sr C)) ≡ false → throws_away S interrupt ≡ true → false ≡ true
  unfolding state_by
  no_second e d = sym e ∙ d

  no_throws : (has_master F && is_set 12 (get_sr C)) ≡ false → throws_away S interrupt ≡ false
  unfolding state_by
  no_throws e = e

  level_after : interrupted L (get_sr C) ≡ status_after S interrupt
  unfolding status_after state_by pending_level
  level_after = refl

  one_level : (settle : Cpu → Cpu) → Still settle → ((c : Cpu) → (stacks_of (settle c)).a7 ≡ (stacks_of c).a7) → ((c d : Cpu) → c.flags ≡ d.flags → get_sr (settle c) ≡ get_sr (settle d))
      → get_sr (settle (enter_level (cpu_of (gist w)) L)) ≡ interrupted L (get_sr C)
      → ((c : Cpu) → stacks_of c ≡ with_a7 (select (stacks_of (cpu_of (gist w))) 4 (cpu_of (gist w)).flags.m_flag) (new_a7 (turned (gist w) (λ d. enter_level d L)) (level F (get_sr C) (pc_of C) (offset_word N))) → kind_of c ≡ kind_of (cpu_of (gist w)) → Same3 (view (stacks_of (settle c))) (view (stacks_of c)))
      → (has_master F && is_set 12 (get_sr C)) ≡ false
      → Clean (gist w) (one_of (λ d. enter_level d L) (interrupt_frame (kind_of C) (get_sr C) (pc_of C) N) settle N end)
      → Agrees differences S (event interrupt N own) w (planned (gist w) (one_of (λ d. enter_level d L) (interrupt_frame (kind_of C) (get_sr C) (pc_of C) N) settle N end))
  one_level settle ss sa sf st sv e =
      subst (λ (f : Frame). Clean (gist w) (one_of (λ d. enter_level d L) f settle N end) → Agrees differences S (event interrupt N own) w (planned (gist w) (one_of (λ d. enter_level d L) f settle N end))) (sym (frame_is_lem N))
      (settled_agrees w F t so fit fa none interrupt N own (vector_small C w.core.bus) (λ d. enter_level d L) settle end (level F (get_sr C) (pc_of C) (offset_word N)) (plain_bytes F)
      (enters_level L) (still_level L) ss sa sf end_level (level_size F (get_sr C) (pc_of C) (offset_word N)) (rw (single_top e) first_cells) (λ x. first_length e) (λ x. st ∙ level_after) sv (λ x. no_throws e) (λ d. impossible (sym (no_second e d))))

  -- two frames
  top_two : (has_master F && is_set 12 (get_sr C)) ≡ true → top_fields S interrupt N ≡ throwaway S N
  unfolding top_fields state_by
  top_two e = ap (λ (b : Bool). cond b (throwaway S N) (fields_of S interrupt N)) e

  second_cells : Holding (short_frame (engine_s (get_sr C)) (pc_of C) (format_word 1 N)) (field_differs differences S own interrupt N) (throwaway S N)
  unfolding state_by pc_of ppc_of
  second_cells = throwaway_cells S N (status_fits C) ppl pcl (vector_small C w.core.bus) F (engine_s (get_sr C)) (s_fits (get_sr C) (status_fits C)) (with_s_lem (get_sr C))

  second_length : (has_master F && is_set 12 (get_sr C)) ≡ true → pointer_after S interrupt ≡ down S.isp 8
  unfolding pointer_after state_by
  second_length e = ap (λ (b : Bool). cond b (down S.isp 8) (first_frame S interrupt)) e

  isp_is : (view (stacks_of (cpu_of (gist w)))).isp ≡ S.isp
  unfolding state_by stacks_of regs_of view gist gist_cpu kind_of a7_of
  isp_is = refl

  m_gist : nonzero C.flags.m_flag ≡ true → nonzero (cpu_of (gist w)).flags.m_flag ≡ true
  unfolding gist gist_cpu
  m_gist e = e

  no_sixty : (f : Family) → has_master f ≡ true → sixty f ≡ false
  no_sixty mc68000 e = refl
  no_sixty mc68010 e = refl
  no_sixty mc68020 e = refl
  no_sixty mc68030 e = refl
  no_sixty mc68040 e = refl
  no_sixty mc68060 e = sym e

  bank_is : has_master F ≡ true → bank_of (kind_of (cpu_of (gist w))) true true ≡ master
  unfolding gist gist_cpu kind_of
  bank_is e = ap (λ (b : Bool). cond b interrupt_bank master) (sixty_is (kind_of C) t.is6 ∙ no_sixty F e)

  usp_is : (view (stacks_of (cpu_of (gist w)))).usp ≡ (view (regs_of C)).usp
  unfolding stacks_of regs_of view gist gist_cpu kind_of a7_of
  usp_is = refl

  throws_two : (has_master F && is_set 12 (get_sr C)) ≡ true → throws_away S interrupt ≡ true
  unfolding state_by
  throws_two e = e

  isp_two : (has_master F && is_set 12 (get_sr C)) ≡ true → pointer_after S interrupt ≡ isp_after S interrupt
  unfolding pointer_after isp_after state_by
  isp_two e = rw e

  msp_two : (has_master F && is_set 12 (get_sr C)) ≡ true → first_frame S interrupt ≡ msp_after S interrupt
  unfolding msp_after state_by
  msp_two e = rw e

  eight_of : (f : Family) → has_master f ≡ true → plain_bytes f ≡ 8
  eight_of mc68000 e = impossible (sym e)
  eight_of mc68010 e = refl
  eight_of mc68020 e = refl
  eight_of mc68030 e = refl
  eight_of mc68040 e = refl
  eight_of mc68060 e = refl

  first_place_by : (f : Family) (s : State) → has_master f ≡ true → first_frame (of f s) interrupt ≡ down (supervisor_pointer (of f s)) 8
  unfolding first_frame length_of
  first_place_by mc68000 s e = impossible (sym e)
  first_place_by mc68010 s e = refl
  first_place_by mc68020 s e = refl
  first_place_by mc68030 s e = refl
  first_place_by mc68040 s e = refl
  first_place_by mc68060 s e = refl

  first_place : has_master F ≡ true → first_frame S interrupt ≡ down (supervisor_pointer S) 8
  unfolding state_by
  first_place e = first_place_by F S e

  within_by : (f : Family) (s : State) (v : ℕ) → has_master f ≡ true → Within (fields_of (of f s) interrupt v)
  unfolding fields_of
  within_by mc68000 s v e = impossible (sym e)
  within_by mc68010 s v e = impossible (sym e)
  within_by mc68020 s v e = (omega arith, (omega arith, (omega arith, tt)))
  within_by mc68030 s v e = (omega arith, (omega arith, (omega arith, tt)))
  within_by mc68040 s v e = (omega arith, (omega arith, (omega arith, tt)))
  within_by mc68060 s v e = impossible (sym e)

  within_of : has_master F ≡ true → Within (fields_of S interrupt N)
  unfolding state_by
  within_of e = within_by F S N e

  enter_top : a7_of (cpu_of (turned (gist w) (λ d. enter_level d L))) ≡ stack_top (cpu_of (gist w))
  unfolding stack_top stacks_of
  enter_top =
      top_of (cpu_of (turned (gist w) (λ d. enter_level d L))) ∙ ap (λ (g : Regs). g.a7) (turned_stacks (gist w) (λ d. enter_level d L) ∙ (enters_level L (cpu_of (gist w)) fit).stacks) ∙ up_a7 (stacks_of (cpu_of (gist w)))

  two_level : has_master F ≡ true → nonzero C.flags.m_flag ≡ true
      → Clean (gist w) (two_of (λ d. enter_level d L) (interrupt_frame (kind_of C) (get_sr C) (pc_of C) N) (short_frame (engine_s (get_sr C)) (pc_of C) (format_word 1 N)) N end)
      → Agrees differences S (event interrupt N own) w (planned (gist w) (two_of (λ d. enter_level d L) (interrupt_frame (kind_of C) (get_sr C) (pc_of C) N) (short_frame (engine_s (get_sr C)) (pc_of C) (format_word 1 N)) N end))
  two_level hm ms =
      subst (λ (f : Frame). Clean (gist w) (two_of (λ d. enter_level d L) f h N end) → Agrees differences S (event interrupt N own) w (planned (gist w) (two_of (λ d. enter_level d L) f h N end))) (sym (frame_is_lem N)) go
    where
      h : Frame
      h = short_frame (engine_s (get_sr C)) (pc_of C) (format_word 1 N)

      f1 : Frame
      f1 = level F (get_sr C) (pc_of C) (offset_word N)

      z : Sized h 8
      z = size8 (engine_s (get_sr C)) (pc_of C) (format_word 1 N)

      q : (has_master F && is_set 12 (get_sr C)) ≡ true
      q = rw (hm, m_bit_lem, ms)

      first_is : first_frame S interrupt ≡ new_a7 (turned (gist w) (λ d. enter_level d L)) f1
      first_is =
          first_place hm ∙ ap (λ (n : ℕ). down n 8) (sym (pointer_of w F t so fit fa none)) ∙ sym (lower_eight (stack_top (cpu_of (gist w)))) ∙ sym (lowers (stack_top (cpu_of (gist w))) 8 (omega arith))
          ∙ ap (λ (n : ℕ). minus32 (stack_top (cpu_of (gist w))) n) (sym (eight_of F hm)) ∙ ap (λ (n : ℕ). minus32 (stack_top (cpu_of (gist w))) n) (sym (level_size F (get_sr C) (pc_of C) (offset_word N)).size)
          ∙ ap (λ (n : ℕ). minus32 n (frame_bytes f1 f1.count)) (sym enter_top)

      under_fields : throws_away S interrupt ≡ true → (c : Clean (gist w) (two_of (λ d. enter_level d L) f1 h N end)) → Apart (kind_of C) (a7_of (cpu_of (planned (gist w) (two_of (λ d. enter_level d L) f1 h N end)))) (first_frame S interrupt)
          → Each (λ y. (m : ℕ) → y.value ≡ some m → under_differs differences S own interrupt N y ≡ false → Reads (peek (mem (planned (gist w) (two_of (λ d. enter_level d L) f1 h N end)))) (kind_of C) (first_frame S interrupt) y m) (fields_of S interrupt N)
      under_fields d c a =
          holding_within f1 (under_differs differences S own interrupt N) (Reads (peek (mem (planned (gist w) (two_of (λ d. enter_level d L) f1 h N end)))) (kind_of C) (first_frame S interrupt))
          (subst (λ (k : ℕ). Apart k (a7_of (cpu_of (planned (gist w) (two_of (λ d. enter_level d L) f1 h N end)))) (first_frame S interrupt) → (y : Field) (m : ℕ) → y.offset + cond y.long 4 2 ≤ 8 → part_of y.span (in_frame f1 y.offset y.long) ≡ some m
          → Reads (peek (mem (planned (gist w) (two_of (λ d. enter_level d L) f1 h N end)))) k (first_frame S interrupt) y m) (kind_gist w F t so fit fa none interrupt N own (vector_small C w.core.bus))
          (two_under (gist w) (λ d. enter_level d L) end f1 h N fit (enters_level L) (still_level L) end_level.keeps end_level.pc end_level.status (level_size F (get_sr C) (pc_of C) (offset_word N)).shape z.shape (m_gist ms) (bank_is hm) c z.size (first_frame S interrupt) first_is) a)
          (fields_of S interrupt N) first_under (within_of hm)

      pointer_two : (c : Clean (gist w) (two_of (λ d. enter_level d L) f1 h N end)) → a7_of (cpu_of (planned (gist w) (two_of (λ d. enter_level d L) f1 h N end))) ≡ pointer_after S interrupt
      pointer_two c =
          two_pointer (gist w) (λ d. enter_level d L) end f1 h N fit (enters_level L) (still_level L) end_level.keeps end_level.pc end_level.status (level_size F (get_sr C) (pc_of C) (offset_word N)).shape z.shape (m_gist ms) (bank_is hm) c
          ∙ ap (minus32 (view (stacks_of (cpu_of (gist w)))).isp) z.size ∙ lowers (view (stacks_of (cpu_of (gist w)))).isp 8 (omega arith) ∙ lower_eight (view (stacks_of (cpu_of (gist w)))).isp
          ∙ ap (λ (n : ℕ). down n 8) isp_is ∙ sym (second_length q)

      go : Clean (gist w) (two_of (λ d. enter_level d L) f1 h N end) → Agrees differences S (event interrupt N own) w (planned (gist w) (two_of (λ d. enter_level d L) f1 h N end))
      go c =
          let P : World = planned (gist w) (two_of (λ d. enter_level d L) f1 h N end) in
          let u = view_of (cpu_of P) ∙ two_stacks_lem (gist w) (λ d. enter_level d L) end f1 h N fit (enters_level L) (still_level L) end_level.keeps end_level.pc end_level.status (level_size F (get_sr C) (pc_of C) (offset_word N)).shape z.shape (m_gist ms) (bank_is hm) c in
          record {
            under = λ d a. under_fields d c (subst (λ (p : ℕ). Apart (kind_of C) p (first_frame S interrupt)) (sym (pointer_two c)) a);
            frame = subst (λ (k : ℕ). Each (λ y. (m : ℕ) → y.value ≡ some m → field_differs differences S own interrupt N y ≡ false → Reads (peek (mem P)) k (a7_of (cpu_of P)) y m) (top_fields S interrupt N))
                (kind_gist w F t so fit fa none interrupt N own (vector_small C w.core.bus))
                (holding_found h (field_differs differences S own interrupt N) (Reads (peek (mem P)) (kind_of (cpu_of (gist w))) (a7_of (cpu_of P)))
                (two_reads (gist w) (λ d. enter_level d L) end f1 h N fit (enters_level L) (still_level L) end_level.keeps end_level.pc end_level.status (level_size F (get_sr C) (pc_of C) (offset_word N)).shape z.shape (m_gist ms) (bank_is hm) c)
                (top_fields S interrupt N) (rw (top_two q) second_cells));
            usp = ap (λ (y : View). y.usp) u ∙ usp_is ∙ usp_of w F t so fit fa none interrupt N own (vector_small C w.core.bus);
            selected = λ e. impossible (sym (throws_two q) ∙ e);
            pointer = λ e. pointer_two c;
            stacks = λ e.
                record {
                  isp = ap (λ (y : View). y.isp) u ∙ sym (two_a7 (gist w) (λ d. enter_level d L) end f1 h N fit (enters_level L) (still_level L) end_level.keeps end_level.pc end_level.status (level_size F (get_sr C) (pc_of C) (offset_word N)).shape z.shape (m_gist ms) (bank_is hm) c) ∙ pointer_two c ∙ isp_two q;
                  msp = ap (λ (y : View). y.msp) u ∙ sym first_is ∙ msp_two q;
                };
            status = λ e. two_status (gist w) (λ d. enter_level d L) end f1 h N fit (enters_level L) (still_level L) end_level.keeps end_level.pc end_level.status (level_size F (get_sr C) (pc_of C) (offset_word N)).shape z.shape (m_gist ms) (bank_is hm) c
                ∙ left_status (cpu_of (gist w)) L (level_small C) ∙ ap (interrupted L) gist_sr ∙ level_after;
            pc = λ e. ap (λ (a : ℕ). long_at (peek (mem P)) (mask_address (kind_of C) a)) (vector_of_lem w F t so fit fa none interrupt N own (vector_small C w.core.bus) e)
                ∙ subst (λ (k : ℕ). long_at (peek (mem P)) (mask_address k ((vbr_of (cpu_of (gist w)) + 4 * N) % 0x100000000)) ≡ some (pc_of (cpu_of P))) (kind_gist w F t so fit fa none interrupt N own (vector_small C w.core.bus))
                (two_pc (gist w) (λ d. enter_level d L) end f1 h N fit (enters_level L) (still_level L) end_level.keeps end_level.pc end_level.status (level_size F (get_sr C) (pc_of C) (offset_word N)).shape z.shape (m_gist ms) (bank_is hm) c (vector_small C w.core.bus));
            pins = pins_of w F t so fit fa none interrupt N own (vector_small C w.core.bus);
          }

  early_of : (f : Family) → has_master f ≡ false → sixty f ≡ false → early f ≡ true
  early_of mc68000 a b = refl
  early_of mc68010 a b = refl
  early_of mc68020 a b = impossible a
  early_of mc68030 a b = impossible a
  early_of mc68040 a b = impossible a
  early_of mc68060 a b = impossible b

  clear_of_lem : early F ≡ true → is_set 12 (get_sr C) ≡ false
  clear_of_lem e = ap (λ (n : ℕ). eqb n 1) (no_m (kind_of C) (get_sr C) (eqb-true (sr_mask (kind_of C)) 0xA71F (t.mask ∙ e)) (sound_mask C so))

  and_false : (a b : Bool) → b ≡ false → (a && b) ≡ false
  and_false true b e = e
  and_false false b e = refl

  sixty_gist : sixty F ≡ true → eqb (kind_of (cpu_of (gist w))) 11 ≡ true
  unfolding gist gist_cpu kind_of
  sixty_gist e = sixty_is (kind_of C) t.is6 ∙ e

  by_tests : (m b s : Bool) → not (eqb C.flags.m_flag 0) ≡ m → has_master F ≡ b → sixty F ≡ s → Clean (gist w) (interrupt_by C L N m b s) → Agrees differences S (event interrupt N own) w (planned (gist w) (interrupt_by C L N m b s))
  unfolding interrupt_by throwaways settles
  by_tests false b s e h k =
      one_level same still_same (λ c. refl) (λ c d x. flags_status w F t so fit fa none interrupt N own (vector_small C w.core.bus) c d x) (gist_m L ∙ unset_status C L (level_small C) (none_set C.flags.m_flag e))
      (λ c x y. same_3 _ _ refl) (and_false (has_master F) (is_set 12 (get_sr C)) (m_bit_lem ∙ ap nonzero (none_set C.flags.m_flag e)))
  by_tests true true s e h k = two_level h (set_nonzero C.flags.m_flag e)
  by_tests true false true e h k = one_level clear_m still_clear clear_top clear_flags (level_status (cpu_of (gist w)) L (level_small C) ∙ ap (interrupted L) gist_sr)
      (λ c x y. clear_three c (ap (λ (n : ℕ). eqb n 11) y ∙ sixty_gist k) (ap (λ (g : Regs). g.sflag) x ∙ select_s (stacks_of (cpu_of (gist w))) 4 (cpu_of (gist w)).flags.m_flag)) (ap (λ (b : Bool). b && is_set 12 (get_sr C)) h)
  by_tests true false false e h k = impossible (sym (set_nonzero C.flags.m_flag e) ∙ sym m_bit_lem ∙ clear_of_lem (early_of F h k))

  -- the interrupt call
  pub interrupt_agrees : Clean (gist w) (interrupt_plan C w.core.bus) → Agrees differences S (event interrupt N own) w (planned (gist w) (interrupt_plan C w.core.bus))
  unfolding interrupt_plan m_is_set
  interrupt_agrees =
      subst (λ (b : Bool). Clean (gist w) (interrupt_by C L N (not (eqb C.flags.m_flag 0)) b (is060 (kind_of C))) → Agrees differences S (event interrupt N own) w (planned (gist w) (interrupt_by C L N (not (eqb C.flags.m_flag 0)) b (is060 (kind_of C))))) (sym t.plus)
      (subst (λ (s : Bool). Clean (gist w) (interrupt_by C L N (not (eqb C.flags.m_flag 0)) (has_master F) s) → Agrees differences S (event interrupt N own) w (planned (gist w) (interrupt_by C L N (not (eqb C.flags.m_flag 0)) (has_master F) s))) (sym t.is6)
      (by_tests (not (eqb C.flags.m_flag 0)) (has_master F) (sixty F) refl refl refl))
