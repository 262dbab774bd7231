-- Theorems about what specs/Interrupts defines, and what rests on them.
use Rattle.std.specs.Prelude.{ℕ, ◌≡◌, Bool, true, false, [], eqb}
use Rattle.std.proofs.Math.Path.{refl}
use Rattle.std.proofs.Common.{sym, ap, ◌∙◌, subst}
use Rattle.types.specs.Kinds.{pick, is_ec020_plus, is060}
use Rattle.cpu.specs.declared.Cpu.{Cpu}
use Rattle.cpu.specs.Fields.{kind_of, pc_of, a7_of, lower_a7, clear_stopped}
use Rattle.status.specs.Status.{get_sr, m_is_set}
use Rattle.pending.specs.Interrupts.{pending_level, takes_interrupt, clear_level, charge_interrupt}
use Rattle.memory.specs.World.{World, Attempt, put_cpu, cpu_of, with_cpu, step}
use Rattle.frames.specs.declared.Frame.{Frame}
use Rattle.access.specs.Access.{raised, jump_vector}
use Rattle.formats.specs.Formats.{offset_word, short_frame}
use Rattle.steps.specs.Steps.{enter_level, close_interrupt}
use Rattle.interrupts.specs.Interrupts.{synced_acknowledge, writes68010, rest68010, first_frame, second_frame, ended, dispatched, service_interrupt, serviced, check_and_service, push_interrupt68000, push_interrupt68010, push_interrupt_other}
use Rattle.images.specs.Images.{Ready}
use Rattle.forms.specs.Gist.{gist, framed_by}
use Rattle.forms.specs.Jumps.{jumped, jump_form}
use Rattle.forms.specs.Orders.{words6, words8}
use Rattle.forms.proofs.Orders.{four_form}
use Rattle.forms.specs.Plans.{turned, stack_all, planned, AllReady, Clean, interrupt_vector, interrupt_frame, throwaways, settles, interrupt_by, interrupt_plan}
use Rattle.forms.specs.Entries.{turn_form}
use Rattle.forms.specs.Interrupts.{synced_form, Framed, vector_at, first_68000, lowered_eight, lower_eight, first_other, seen_level, seen_close, second_form, begun_m, begun_kind, begun_vector, gist_m, gist_kind, gist_vector, entered_kind}

first_68010 : (w y : World) (pc sr level : ℕ) → gist w ≡ y → Ready y (words8 sr pc (offset_word (vector_at y level)))
    → Framed (push_interrupt68010 w pc sr level) y (words8 sr pc (offset_word (vector_at y level))) (vector_at y level)
unfolding push_interrupt68010 rest68010 writes68010 put_cpu
first_68010 w y pc sr level e h =
    let a = synced_form w y 12 level e in
    let b : Attempt = synced_acknowledge w 12 level in
    let u : World = b.after in
    let z : World = with_cpu u (lower_a7 (cpu_of u) 8) in
    let fw : ℕ = offset_word (vector_at y level) in
    record {
      after =
          ap (λ (v : ℕ). gist (writes68010 z (a7_of (cpu_of z)) pc sr (offset_word v))) a.value
          ∙ four_form raised y sr pc fw h z (a7_of (cpu_of z)) (lowered_eight u y sr pc fw h a.after) (lower_eight u y sr pc fw a.after);
      value = a.value;
    }

pub first_form : (w y : World) (k pc sr level v : ℕ) → gist w ≡ y → kind_of (cpu_of w) ≡ k → vector_at y level ≡ v → Ready y (interrupt_frame k sr pc v) → Framed (first_frame w pc sr level) y (interrupt_frame k sr pc v) v
unfolding first_frame interrupt_frame
first_form w y k pc sr level v e d g h = rw d (go (eqb k 1) (eqb k 2) h)
  where
    go : (a b : Bool) → Ready y (pick a (words6 sr pc) (pick b (words8 sr pc (offset_word v)) (short_frame sr pc (offset_word v))))
        → Framed (pick a (push_interrupt68000 w pc sr level) (pick b (push_interrupt68010 w pc sr level) (push_interrupt_other w pc sr level))) y
        (pick a (words6 sr pc) (pick b (words8 sr pc (offset_word v)) (short_frame sr pc (offset_word v)))) v
    go true b r = subst (λ (n : ℕ). Framed (push_interrupt68000 w pc sr level) y (words6 sr pc) n) g (first_68000 w y pc sr level e r)
    go false true r =
        subst (λ (n : ℕ). Ready y (words8 sr pc (offset_word n)) → Framed (push_interrupt68010 w pc sr level) y (words8 sr pc (offset_word n)) n) g (first_68010 w y pc sr level e) r
    go false false r =
        subst (λ (n : ℕ). Ready y (short_frame sr pc (offset_word n)) → Framed (push_interrupt_other w pc sr level) y (short_frame sr pc (offset_word n)) n) g (first_other w y pc sr level e) r

-- the frames, the jump and the end of an interrupt
interrupt_by_lem : (w x : World) (level v : ℕ) (m master six : Bool) → gist w ≡ x → vector_at w level ≡ v → m_is_set (cpu_of w) ≡ m → is_ec020_plus (kind_of (cpu_of w)) ≡ master → is060 (kind_of (cpu_of w)) ≡ six
    → Clean x (interrupt_by (cpu_of w) level v m master six) → gist (serviced (service_interrupt w level)) ≡ planned x (interrupt_by (cpu_of w) level v m master six)
unfolding serviced service_interrupt dispatched ended close_interrupt interrupt_by AllReady stack_all planned put_cpu
interrupt_by_lem w x level v m master six e u a b c h =
    let turn : Cpu → Cpu = λ d. enter_level d level in
    let pc : ℕ = pc_of (cpu_of w) in
    let sr : ℕ = get_sr (cpu_of w) in
    let f : Frame = interrupt_frame (kind_of (cpu_of w)) sr pc v in
    let y : World = turned x turn in
    let o : World = step turn w in
    let d : gist o ≡ y = turn_form w x turn (seen_level level) e in
    let r : Framed (first_frame o pc sr level) y f v = first_form o y (kind_of (cpu_of w)) pc sr level v d (entered_kind w level)
    (begun_vector x level f ∙ ap (λ (z : World). vector_at z level) (sym e) ∙ sym (gist_vector w level) ∙ u) h.stacks.0 in
    let q : Attempt = first_frame o pc sr level in
    let k : kind_of (cpu_of q.after) ≡ kind_of (cpu_of w) = gist_kind q.after ∙ ap (λ (z : World). kind_of (cpu_of z)) r.after ∙ begun_kind x level f ∙ ap (λ (z : World). kind_of (cpu_of z)) (sym e) ∙ sym (gist_kind w) in
    let n : m_is_set (cpu_of q.after) ≡ m = gist_m q.after ∙ ap (λ (z : World). m_is_set (cpu_of z)) r.after ∙ begun_m x level f ∙ ap (λ (z : World). m_is_set (cpu_of z)) (sym e) ∙ sym (gist_m w) ∙ a in
    let s : gist (second_frame q.after pc sr q.value) ≡ turned (stack_all (framed_by y f) (throwaways m master sr pc v)) (settles m master six) = ap (λ (z : ℕ). gist (second_frame q.after pc sr z)) r.value
    ∙ second_form q.after (framed_by y f) pc sr v m master six r.after n (ap is_ec020_plus k ∙ b) (ap is060 k ∙ c) h.stacks.1 in
    let j : World = second_frame q.after pc sr q.value in
    turn_form (jump_vector raised j q.value) (jumped (turned (stack_all (framed_by y f) (throwaways m master sr pc v)) (settles m master six)) v) (λ d. clear_level (charge_interrupt (clear_stopped d))) seen_close
    (ap (λ (z : ℕ). gist (jump_vector raised j z)) r.value ∙ jump_form raised j (turned (stack_all (framed_by y f) (throwaways m master sr pc v)) (settles m master six)) v s h.reach)

-- `check_and_service_interrupts`, taken
pub interrupt_form : (w x : World) → gist w ≡ x → takes_interrupt (cpu_of w) ≡ true → Clean x (interrupt_plan (cpu_of w) w.core.bus) → gist (check_and_service w).after ≡ planned x (interrupt_plan (cpu_of w) w.core.bus)
unfolding check_and_service interrupt_plan interrupt_vector
interrupt_form w x e t h = rw t (interrupt_by_lem w x (pending_level (cpu_of w)) _ _ _ _ e refl refl refl refl h)
