-- Theorems about what specs/QuietInterrupts defines, and what rests on them.
use Rattle.std.specs.Prelude.{ℕ, suc, ◌+◌, ◌/◌, ◌%◌, ◌^◌, ◌<◌, ◌≡◌, refl, Bool, true, false, List, [], ◌∷◌, eqb, length}
use Rattle.std.proofs.Common.{sym, ap, ◌∙◌, subst, arith}
use Rattle.types.specs.Kinds.{pick, both, is_ec020_plus, is060}
use Rattle.cpu.specs.declared.Cpu.{Cpu}
use Rattle.cpu.specs.Fields.{kind_of, pc_of, a7_of, lower_a7, minus32}
use Rattle.cpu.specs.Clocks.{internal_cycles}
use Rattle.status.specs.Status.{get_sr, clear_m, m_is_set}
use Rattle.status.specs.Banks.{set_sm_flag}
use Rattle.pending.specs.Interrupts.{pending_level, takes_interrupt}
use Rattle.memory.specs.declared.Bus.{Bus}
use Rattle.memory.specs.World.{World, Attempt, with_cpu, put_cpu, cpu_of}
use Rattle.frames.specs.declared.Frame.{Frame}
use Rattle.frames.specs.Frames.{field_at}
use Rattle.steps.specs.Steps.{enter_level, with_s}
use Rattle.access.specs.Access.{raised, write_at, push_frame, jump_vector}
use Rattle.formats.specs.Formats.{format_word, offset_word, short_frame}
use Rattle.interrupts.specs.Interrupts.{acknowledge_level, synced_acknowledge, rest68000, from68000, writes68010, rest68010, rest_other, first_frame, throwaway, second_frame, ended, dispatched, service_interrupt, serviced, check_and_service, push_interrupt68000, push_interrupt68010, push_interrupt_other}
use Rattle.bounds.specs.Skeleton.{pick_one}
use Rattle.bounds.specs.Levels.{clash}
use Rattle.images.specs.Images.{new_a7, frame_bytes}
use Rattle.forms.specs.Gist.{gist, framed_by, minus_below}
use Rattle.forms.specs.Orders.{words6, words8}
use Rattle.forms.specs.Plans.{Push, turned, stack_all, interrupt_vector, interrupt_frame, throwaways, settles, interrupt_by, interrupt_plan}
use Rattle.forms.specs.Tests.{field_test, fields_test, stacks_test, reach_test, clean_test, safe_level, safe_leave}
use Rattle.forms.proofs.Tests.{stacks_ready}
use Rattle.forms.specs.Entries.{turn_form}
use Rattle.forms.specs.Interrupts.{Framed, vector_at, second_form, seen_level, seen_throw, begun_m, begun_kind, begun_vector, gist_m, gist_kind, gist_vector, entered_kind}
use Rattle.forms.proofs.Interrupts.{first_form}
use Rattle.forms.specs.Quiet.{Booked, Tale, gist_tale, book_less, tale_less, tale_cycles, tale_turn}
use Rattle.forms.specs.QuietFrames.{frame_test, under, under_top, under_kind, lower_turn, fields_tale, tests6, both_true}
use Rattle.forms.proofs.QuietFrames.{frame_tale, low6_tale, rest6_tale, eight_tale}
use Rattle.forms.specs.QuietJumps.{jump_tale}
use Rattle.forms.specs.QuietEntries.{Placed, placed_turn, whole_regs}
use Rattle.forms.proofs.QuietEntries.{ready_of}
use Rattle.forms.specs.QuietInterrupts.{tale_acknowledge, tale_synced, eight_any, short_any, leave_book, clear_book, level_book, end_book, placed_frame, throw_safe}

-- ---- the first frame

-- kind 1
first_68000 : (w y : World) (pc sr level n : ℕ) → 15 < length (cpu_of y).regs.dar → gist w ≡ y → Booked (7 + n) true w → Booked n (frame_test y (words6 sr pc)) (push_interrupt68000 w pc sr level).after
unfolding push_interrupt68000 from68000 rest68000 put_cpu words6 frame_bytes field_at
first_68000 w y pc sr level n l e p =
    let x : Cpu = under (cpu_of y) 6 in
    let b : Bus = y.core.bus in
    let len : ℕ = length y.store in
    let q : ℕ = minus32 (a7_of (cpu_of y)) 6 in
    let u : World = with_cpu w (internal_cycles (cpu_of w) 6) in
    let z : World = with_cpu u (lower_a7 (cpu_of u) 6) in
    let sp : ℕ = a7_of (cpu_of z) in
    let t : ℕ → Bool = λ i. field_test b len (kind_of x) q (words6 sr pc) i in
    let r : Tale x b len (suc (suc (suc (suc (suc (suc n)))))) true z = tale_turn u (λ c. lower_a7 c 6) (lower_turn 6) (tale_cycles w 6 (tale_less (omega arith) (gist_tale w y (7 + n) true (λ h. e) p))) in
    let k : sp ≡ q = under_top (cpu_of y) 6 l (r.scene refl) in
    let g : World = write_at raised z ((sp + 4) % 2 ^ 32) false (pc % 0x10000) in
    let s : Tale x b len (suc (suc (suc (suc (suc n))))) (t 2) g = low6_tale 2 z sp q sr pc (λ h. k) r in
    let a : World = (synced_acknowledge g 4 level).after in
    let o : World = with_cpu a (internal_cycles (cpu_of a) 4) in
    let v : Tale x b len (suc (suc n)) (t 2) o = tale_cycles a 4 (tale_synced g 4 level s) in
    let f : World = write_at raised (write_at raised o sp false sr) ((sp + 2) % 2 ^ 32) false (pc / 0x10000) in
    let i : Booked n (both (both (t 2) (t 0)) (t 1)) f = (rest6_tale 2 o sp q sr pc (λ h. k) (minus_below (a7_of (cpu_of y)) 6) v).book in
    subst (λ (j : ℕ). Booked n (fields_test b len j q (words6 sr pc) (words6 sr pc).count) f) (under_kind (cpu_of y) 6 l) (tests6 n true b len (kind_of x) q sr pc f i)

first_68010 : (w y : World) (pc sr level fw n : ℕ) → 15 < length (cpu_of y).regs.dar → gist w ≡ y → Booked (6 + n) true w → Booked n (frame_test y (words8 sr pc fw)) (push_interrupt68010 w pc sr level).after
unfolding push_interrupt68010 rest68010 writes68010 put_cpu frame_bytes words8 field_at
first_68010 w y pc sr level fw n l e p =
    let b : Attempt = synced_acknowledge w 12 level in
    let u : World = b.after in
    let z : World = with_cpu u (lower_a7 (cpu_of u) 8) in
    let sp : ℕ = a7_of (cpu_of z) in
    let gw : ℕ = offset_word b.value in
    let r : Tale (under (cpu_of y) 8) y.core.bus (length y.store) (suc (suc (suc (suc n)))) true z = tale_turn u (λ c. lower_a7 c 8) (lower_turn 8) (tale_synced w 12 level (tale_less (omega arith) (gist_tale w y (6 + n) true (λ h. e) p))) in
    subst (λ (j : Bool). Booked n j (writes68010 z sp pc sr gw)) (eight_any y sr pc gw fw)
    (eight_tale 2 (cpu_of y) y.core.bus (length y.store) true z sp sr pc gw l (λ h. under_top (cpu_of y) 8 l (r.scene h)) r)

first_other : (w y : World) (pc sr level fw n : ℕ) → 15 < length (cpu_of y).regs.dar → gist w ≡ y → Booked (4 + n) true w → Booked n (frame_test y (short_frame sr pc fw)) (push_interrupt_other w pc sr level).after
unfolding push_interrupt_other rest_other push_frame short_frame
first_other w y pc sr level fw n l e p =
    let b : Attempt = acknowledge_level w level in
    let f : Frame = short_frame sr pc (offset_word b.value) in
    let r : Tale (cpu_of y) y.core.bus (length y.store) (3 + n) true b.after = tale_acknowledge w level (tale_less (omega arith) (gist_tale w y (4 + n) true (λ h. e) p)) in
    subst (λ (j : Bool). Booked n j (push_frame raised b.after f)) (short_any y sr pc (offset_word b.value) fw) (other_frame b.after y sr pc (offset_word b.value) n l r)
  where
    other_frame : (w y : World) (sr pc fw n : ℕ) → 15 < length (cpu_of y).regs.dar → Tale (cpu_of y) y.core.bus (length y.store) (3 + n) true w → Booked n (frame_test y (short_frame sr pc fw)) (push_frame raised w (short_frame sr pc fw))
    other_frame w y sr pc fw n l r = fields_tale 2 (short_frame sr pc fw) 3 (kind_of (cpu_of y)) (new_a7 y (short_frame sr pc fw)) w l refl refl r

first_book : (w y : World) (k pc sr level v n : ℕ) → 15 < length (cpu_of y).regs.dar → gist w ≡ y → kind_of (cpu_of w) ≡ k → Booked (7 + n) true w → Booked n (frame_test y (interrupt_frame k sr pc v)) (first_frame w pc sr level).after
unfolding first_frame interrupt_frame
first_book w y k pc sr level v n l e d p = rw d (go (eqb k 1) (eqb k 2))
  where
    go : (a b : Bool) → Booked n (frame_test y (pick a (words6 sr pc) (pick b (words8 sr pc (offset_word v)) (short_frame sr pc (offset_word v)))))
        (pick a (push_interrupt68000 w pc sr level) (pick b (push_interrupt68010 w pc sr level) (push_interrupt_other w pc sr level))).after
    go true b = first_68000 w y pc sr level n l e p
    go false true = first_68010 w y pc sr level (offset_word v) n l e (book_less (omega arith) p)
    go false false = first_other w y pc sr level (offset_word v) n l e (book_less (omega arith) p)

-- from a world whose gist is y
second_book : (w y : World) (pc sr v n : ℕ) (m master six : Bool) → 15 < length (cpu_of (turned y (λ d. set_sm_flag d 4))).regs.dar → gist w ≡ y → m_is_set (cpu_of w) ≡ m → is_ec020_plus (kind_of (cpu_of w)) ≡ master → is060 (kind_of (cpu_of w)) ≡ six
    → Booked (3 + n) true w → Booked n (stacks_test y (throwaways m master sr pc v)) (second_frame w pc sr v)
unfolding second_frame throwaway throwaways stacks_test short_frame
second_book w y pc sr v n m master six l e a b c p = rw (a, b, c) (go m master six)
  where
    turn : Cpu → Cpu
    turn d = set_sm_flag d 4

    f : Frame
    f = short_frame (with_s sr) pc (format_word 1 v)

    push : Push
    push = record { turn = λ d. set_sm_flag d 4; frame = short_frame (with_s sr) pc (format_word 1 v) }

    go : (m master six : Bool) → Booked n (stacks_test y (pick m (pick master (push ∷ []) []) [])) (pick m (pick master (push_frame raised (with_cpu w (set_sm_flag (cpu_of w) 4)) f) (pick six (with_cpu w (clear_m (cpu_of w))) w)) w)
    go true true six =
        subst (λ (t : Bool). Booked n t (push_frame raised (with_cpu w (set_sm_flag (cpu_of w) 4)) f)) (sym (both_true (frame_test (turned y turn) f)))
        (frame_tale 2 (with_cpu w (set_sm_flag (cpu_of w) 4)) (turned y turn) f n true l (λ h. turn_form w y turn seen_throw e) (leave_book w p))
    go true false true = clear_book w (book_less (omega arith) p)
    go true false false = book_less (omega arith) p
    go false master six = book_less (omega arith) p

-- after a test that failed
second_lost : (w y : World) (pc sr v n : ℕ) → 15 < length (cpu_of y).regs.dar → Booked (3 + n) false w → Booked n false (second_frame w pc sr v)
unfolding second_frame throwaway short_frame
second_lost w y pc sr v n l p =
    pick_one (Booked n false) (m_is_set (cpu_of w))
    (pick_one (Booked n false) (is_ec020_plus (kind_of (cpu_of w)))
    (frame_tale 2 (with_cpu w (set_sm_flag (cpu_of w) 4)) y (short_frame (with_s sr) pc (format_word 1 v)) n false l (λ e. clash {b = false} e refl) (leave_book w p))
    (pick_one (Booked n false) (is060 (kind_of (cpu_of w))) (clear_book w (book_less (omega arith) p)) (book_less (omega arith) p))) (book_less (omega arith) p)

interrupt_by_lem : (w x : World) (level v : ℕ) (m master six : Bool) → gist w ≡ x → vector_at w level ≡ v → m_is_set (cpu_of w) ≡ m → is_ec020_plus (kind_of (cpu_of w)) ≡ master → is060 (kind_of (cpu_of w)) ≡ six
    → Placed x → Booked 60 true w → Booked 0 (clean_test x (interrupt_by (cpu_of w) level v m master six)) (serviced (service_interrupt w level))
unfolding service_interrupt dispatched interrupt_by stack_all stacks_test clean_test
interrupt_by_lem w x level v m master six e u a b c h p = go (frame_test Y F) refl
  where
    turn : Cpu → Cpu
    turn d = enter_level d level

    PC : ℕ
    PC = pc_of (cpu_of w)

    SR : ℕ
    SR = get_sr (cpu_of w)

    F : Frame
    F = interrupt_frame (kind_of (cpu_of w)) SR PC v

    Y : World
    Y = turned x turn

    O : World
    O = with_cpu w (turn (cpu_of w))

    Q : Attempt
    Q = first_frame O PC SR level

    T : List Push
    T = throwaways m master SR PC v

    X : World
    X = turned (stack_all (framed_by Y F) T) (settles m master six)

    placed : Placed Y
    placed = placed_turn x turn (safe_level level) h

    entered : gist O ≡ Y
    entered = turn_form w x turn (seen_level level) e

    framed : Booked 8 (frame_test Y F) Q.after
    framed = first_book O Y (kind_of (cpu_of w)) PC SR level v 8 (whole_regs Y placed.whole) entered (entered_kind w level) (level_book w (book_less (omega arith) p) level)

    done : frame_test Y F ≡ true → Framed Q Y F v
    done t =
        first_form O Y (kind_of (cpu_of w)) PC SR level v entered (entered_kind w level)
        (begun_vector x level F ∙ ap (λ (z : World). vector_at z level) (sym e) ∙ sym (gist_vector w level) ∙ u) (ready_of Y F placed.whole placed.small t)

    kind : frame_test Y F ≡ true → kind_of (cpu_of Q.after) ≡ kind_of (cpu_of w)
    kind t = gist_kind Q.after ∙ ap (λ (z : World). kind_of (cpu_of z)) (done t).after ∙ begun_kind x level F ∙ ap (λ (z : World). kind_of (cpu_of z)) (sym e) ∙ sym (gist_kind w)

    master_is : frame_test Y F ≡ true → m_is_set (cpu_of Q.after) ≡ m
    master_is t = gist_m Q.after ∙ ap (λ (z : World). m_is_set (cpu_of z)) (done t).after ∙ begun_m x level F ∙ ap (λ (z : World). m_is_set (cpu_of z)) (sym e) ∙ sym (gist_m w) ∙ a

    second : frame_test Y F ≡ true → Booked 8 true Q.after → Booked 5 (stacks_test (framed_by Y F) T) (second_frame Q.after PC SR v)
    second t q =
        second_book Q.after (framed_by Y F) PC SR v 5 m master six (whole_regs (turned (framed_by Y F) (λ d. set_sm_flag d 4)) (placed_turn (framed_by Y F) (λ d. set_sm_flag d 4) safe_leave (placed_frame Y F placed)).whole)
        (done t).after (master_is t) (ap is_ec020_plus (kind t) ∙ b) (ap is060 (kind t) ∙ c) q

    settled : frame_test Y F ≡ true → stacks_test (framed_by Y F) T ≡ true → gist (second_frame Q.after PC SR v) ≡ X
    settled t s =
        second_form Q.after (framed_by Y F) PC SR v m master six (done t).after (master_is t) (ap is_ec020_plus (kind t) ∙ b) (ap is060 (kind t) ∙ c)
        (stacks_ready (framed_by Y F) T (placed_frame Y F placed).whole (placed_frame Y F placed).small (throw_safe m master SR PC v) s).0

    go : (t : Bool) → frame_test Y F ≡ t → Booked 0 (both (both t (stacks_test (framed_by Y F) T)) (reach_test X v)) (serviced (ended (jump_vector raised (second_frame Q.after PC SR Q.value) Q.value)))
    go true t =
        subst (λ (k : ℕ). Booked 0 (both (stacks_test (framed_by Y F) T) (reach_test X v)) (serviced (ended (jump_vector raised (second_frame Q.after PC SR k) k)))) (sym (done t).value)
        (end_book (jump_vector raised (second_frame Q.after PC SR v) v)
        (jump_tale 2 (second_frame Q.after PC SR v) X v 0 (stacks_test (framed_by Y F) T) (settled t) (second t (subst (λ (j : Bool). Booked 8 j Q.after) t framed))))
    go false t =
        end_book (jump_vector raised (second_frame Q.after PC SR Q.value) Q.value)
        (jump_tale 2 (second_frame Q.after PC SR Q.value) X Q.value 0 false (λ i. clash {b = false} i refl)
        (second_lost Q.after Y PC SR Q.value 5 (whole_regs Y placed.whole) (subst (λ (j : Bool). Booked 8 j Q.after) t framed)))

-- `check_and_service_interrupts`, taken
pub interrupt_book : (w x : World) → gist w ≡ x → takes_interrupt (cpu_of w) ≡ true → Placed x → Booked 60 true w → Booked 0 (clean_test x (interrupt_plan (cpu_of w) w.core.bus)) (check_and_service w).after
unfolding check_and_service interrupt_plan interrupt_vector
interrupt_book w x e t h p = rw t (interrupt_by_lem w x (pending_level (cpu_of w)) _ _ _ _ e refl refl refl refl h p)
