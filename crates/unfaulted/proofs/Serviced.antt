-- Theorems about what specs/Serviced defines, and what rests on them.
use Rattle.std.specs.Prelude.{ℕ, ◌+◌, ◌-◌, ◌/◌, ◌%◌, ◌^◌, ◌≤◌, ◌<◌, ◌≡◌, true, false, List, [], ◌∷◌, ◌++◌, eqb, length}
use Rattle.std.proofs.Common.{ap, ◌∙◌, arith, length-append}
use Rattle.types.specs.Kinds.{pick}
use Rattle.cpu.specs.declared.Cpu.{Cpu}
use Rattle.cpu.specs.Fields.{kind_of, pc_of, a7_of, is_faulted, set_a7, lower_a7}
use Rattle.cpu.specs.Clocks.{clocks_of, set_clocks, prefetch_enabled, internal_cycles}
use Rattle.status.specs.Status.{get_sr, m_is_set}
use Rattle.status.specs.Banks.{enter_supervisor}
use Rattle.pending.specs.Interrupts.{pending_level, takes_interrupt}
use Rattle.memory.specs.declared.Bus.{Bus}
use Rattle.memory.specs.Log.{note_log}
use Rattle.memory.specs.World.{World, Attempt, reply, tried, response_of}
use Rattle.memory.specs.LogLaws.{Event}
use Rattle.steps.specs.Steps.{iack_vector, enter_level}
use Rattle.access.specs.Access.{raised, write_at, jump_vector}
use Rattle.formats.specs.Formats.{offset_word}
use Rattle.interrupts.specs.Interrupts.{synced_acknowledge, rest68000, from68000, writes68010, rest68010, rest_other, first_frame, ended, dispatched, serviced, check_and_service}
use Rattle.unfaulted.specs.Closed.{closed, event, told, Piece, word_at, laid, writes_of, last_value, clock_events, stacked, short_pieces, three_pieces, four_pieces, Room, Within, Entering, jumped, jump_events, clocks_after, interrupted, other_events, events68010, events68000}
use Rattle.unfaulted.specs.Lists.{length_writes, laid_length}
use Rattle.unfaulted.specs.Accesses.{still_running}
use Rattle.unfaulted.specs.Pushes.{write_all, joined, lower_to, calm_kind, a7_set}
use Rattle.unfaulted.proofs.Pushes.{writes_closed}
use Rattle.unfaulted.specs.Stacks.{three_within, framed, framed_running, framed_kind}
use Rattle.unfaulted.proofs.Stacks.{short_stacked, writes_stacked, jump_after}
use Rattle.unfaulted.specs.Entries.{alike_entering, cycles_after_lem, short_within}
use Rattle.unfaulted.specs.Serviced.{level_alike, level_fetches, level_kind, level_clocks, level_master, acknowledge_closed, second_none, end_step, dispatch_step, check_step, other_step, other_rest, stacked_more, head_few, short_three, clocks_set, clocks_twice, sync_closed, four_writes, four_within, four_four, rest_step, calm_stacked, calm_a7, calm_registers, kind2_step, level_after, ack_few, kind1_step, framed_calm, framed_four, framed_over, low_within, high_within, low_stacked, one_write, rest1_step, two_writes, two_last, two_events, from_step, three_laid, three_last, head68000, head_small}

-- an interrupt whose first frame is laid whole, the events hs before the jump
check_closed : (b : Bus) (c : Cpu) (e : ℕ) (s l : List ℕ) (n v q a to at x y : ℕ) (ps : List Piece) (hs : List Event) → takes_interrupt c ≡ true → m_is_set c ≡ false
    → Entering b (enter_supervisor c) s n v q a to at x y → Within n ps → e + length hs + 5 < 2 ^ 32
    → first_frame (closed b (enter_level c (pending_level c)) e s l) (pc_of c) (get_sr c) (pending_level c)
    ≡ reply (closed b (framed (enter_level c (pending_level c)) q (last_value ps)) (e + length hs) (laid s (q - b.base) ps) (told e l hs)) true v
    → check_and_service (closed b c e s l) ≡ tried (interrupted b c (pending_level c) e s l q ps (hs ++ jump_events (prefetch_enabled c) a to at x y) (prefetch_enabled c) v to x y) true
unfolding interrupted
check_closed b c e s l n v q a to at x y ps hs k m h w u f =
    let i : ℕ = pending_level c in
    let d : Cpu = enter_level c i in
    let p : Cpu = framed d q (last_value ps) in
    let s' : List ℕ = laid s (q - b.base) ps in
    let g : Entering b d s n v q a to at x y = alike_entering b (enter_supervisor c) d s n v q a to at x y (level_alike c i) h in
    check_step b c e s l k
    ∙ ap (λ (z : Attempt). tried (serviced (dispatched (pc_of c) (get_sr c) z)) true) f
    ∙ ap (λ (z : World). tried (serviced z) true) (dispatch_step (pc_of c) (get_sr c) v (closed b p (e + length hs) s' (told e l hs)))
    ∙ ap (λ (z : World). tried (serviced (ended (jump_vector raised z v))) true) (second_none b p (e + length hs) s' (told e l hs) (pc_of c) (get_sr c) v (level_master c i q (last_value ps) ∙ m))
    ∙ ap (λ (z : World). tried (serviced (ended z)) true) (jump_after raised b d e s l n v q a to at x y ps hs (last_value ps) g w u ∙ rw (level_fetches c i))
    ∙ ap (λ (z : World). tried z true) (end_step b (jumped (prefetch_enabled c) p v to x y) (e + length (hs ++ jump_events (prefetch_enabled c) a to at x y)) s' (told e l (hs ++ jump_events (prefetch_enabled c) a to at x y)))

first_other : (b : Bus) (d : Cpu) (e : ℕ) (s l : List ℕ) (pc sr level q v : ℕ) → eqb (kind_of d) 1 ≡ false → eqb (kind_of d) 2 ≡ false → iack_vector (response_of b level) level ≡ v
    → 15 < length d.regs.dar → is_faulted d ≡ false → a7_of d ≡ q + 8 → Room b (kind_of d) (length s) q 8 → e + 10 < 2 ^ 32
    → first_frame (closed b d e s l) pc sr level
    ≡ reply (closed b (framed d q (last_value (short_pieces sr pc (offset_word v)))) (e + length (event 6 level (response_of b level) ∷ (clock_events (clocks_of d) ++ writes_of q (short_pieces sr pc (offset_word v)))))
    (laid s (q - b.base) (short_pieces sr pc (offset_word v))) (told e l (event 6 level (response_of b level) ∷ (clock_events (clocks_of d) ++ writes_of q (short_pieces sr pc (offset_word v)))))) true v
first_other b d e s l pc sr level q v h k i g j a r u =
    let l' : List ℕ = note_log e l 6 level (response_of b level) in
    other_step b d e s l pc sr level h k
    ∙ ap (λ (z : Attempt). rest_other pc sr z) (acknowledge_closed b d e s l level (omega arith) ∙ ap (λ (z : ℕ). reply (closed b d (e + 1) s l') true z) i)
    ∙ other_rest pc sr v (closed b d (e + 1) s l')
    ∙ ap (λ (z : World). reply z true v)
    (short_stacked raised b d (e + 1) s l' q g j (omega arith) sr pc (offset_word v) a r ∙ stacked_more b d e s l q (short_pieces sr pc (offset_word v)) (event 6 level (response_of b level)))

-- an interrupt on a kind other than 1 and 2
pub interrupt_other : (b : Bus) (c : Cpu) (e : ℕ) (s l : List ℕ) (v q a to at x y : ℕ) → eqb (kind_of c) 1 ≡ false → eqb (kind_of c) 2 ≡ false → takes_interrupt c ≡ true → m_is_set c ≡ false
    → iack_vector (response_of b (pending_level c)) (pending_level c) ≡ v → Entering b (enter_supervisor c) s 8 v q a to at x y → e + 20 < 2 ^ 32
    → check_and_service (closed b c e s l)
    ≡ tried (interrupted b c (pending_level c) e s l q (short_pieces (get_sr c) (pc_of c) (offset_word v)) (other_events b c q (short_pieces (get_sr c) (pc_of c) (offset_word v)) (prefetch_enabled c) a to at x y) (prefetch_enabled c) v to x y) true
unfolding other_events
interrupt_other b c e s l v q a to at x y h k m n i g u =
    let j : ℕ = pending_level c in
    let d : Cpu = enter_level c j in
    let ps : List Piece = short_pieces (get_sr c) (pc_of c) (offset_word v) in
    let hs : List Event = event 6 j (response_of b j) ∷ (clock_events (clocks_of c) ++ writes_of q ps) in
    let few : length (clock_events (clocks_of c) ++ writes_of q ps) ≤ 1 + length ps = head_few (clocks_of c) q ps in
    let three : length ps ≡ 3 = short_three (get_sr c) (pc_of c) (offset_word v) in
    let f : Entering b d s 8 v q a to at x y = alike_entering b (enter_supervisor c) d s 8 v q a to at x y (level_alike c j) g in
    check_closed b c e s l 8 v q a to at x y ps hs m n g (short_within (get_sr c) (pc_of c) (offset_word v)) (omega arith)
    (rw (level_clocks c j) at (first_other b d e s l (pc_of c) (get_sr c) j q v (rw (level_kind c j) h) (rw (level_kind c j) k) i f.registers f.running f.stack f.room (omega arith)))

laid_four : (b : Bus) (c : Cpu) (e : ℕ) (s l : List ℕ) (q sr pc format : ℕ) → is_faulted c ≡ false → Room b (kind_of c) (length s) q 8 → e + 5 < 2 ^ 32
    → write_all raised (closed b (set_a7 c q) e s l) q (four_pieces sr pc format) ≡ stacked b c e s l q (four_pieces sr pc format)
unfolding four_pieces
laid_four b c e s l q sr pc format h r u =
    writes_stacked raised b c e s l q 8 (word_at 4 (pc % 0x10000)) (word_at 0 sr ∷ word_at 2 (pc / 0x10000) ∷ word_at 6 format ∷ []) h r (four_within sr pc format) (omega arith)

-- the four words after the acknowledge
four_stacked : (b : Bus) (d : Cpu) (e : ℕ) (s l : List ℕ) (pc sr v q : ℕ) → 15 < length d.regs.dar → is_faulted d ≡ false → a7_of d ≡ q + 8 → Room b (kind_of d) (length s) q 8 → e + 8 < 2 ^ 32
    → rest68010 pc sr (reply (closed b (set_clocks d 0) e s l) true v)
    ≡ reply (closed b (framed d q (last_value (four_pieces sr pc (offset_word v)))) (e + length (writes_of q (four_pieces sr pc (offset_word v)))) (laid s (q - b.base) (four_pieces sr pc (offset_word v))) (told e l (writes_of q (four_pieces sr pc (offset_word v))))) true v
four_stacked b d e s l pc sr v q g h a r u =
    let c : Cpu = set_clocks d 0 in
    let top : q + 8 ≤ 2 ^ 32 = r.top in
    let format : ℕ = offset_word v in
    let z : lower_a7 c 8 ≡ set_a7 c q = lower_to c q 8 (calm_a7 d 0 ∙ a) (omega arith) (omega arith) in
    rest_step b c e s l pc sr v
    ∙ ap (λ (m : Cpu). reply (writes68010 (closed b m e s l) (a7_of m) pc sr format) true v) z
    ∙ ap (λ (p : ℕ). reply (writes68010 (closed b (set_a7 c q) e s l) p pc sr format) true v) (a7_set c q (calm_registers d 0 g))
    ∙ ap (λ (w : World). reply w true v)
    (four_writes (closed b (set_a7 c q) e s l) q sr pc format top
    ∙ laid_four b c e s l q sr pc format (still_running d 0 ∙ h) (rw (calm_kind d 0) r) (omega arith)
    ∙ calm_stacked b d e s l q (four_pieces sr pc format))

first_68010 : (b : Bus) (d : Cpu) (e : ℕ) (s l : List ℕ) (pc sr level q v : ℕ) → eqb (kind_of d) 1 ≡ false → eqb (kind_of d) 2 ≡ true → iack_vector (response_of b level) level ≡ v
    → 15 < length d.regs.dar → is_faulted d ≡ false → a7_of d ≡ q + 8 → Room b (kind_of d) (length s) q 8 → e + 12 < 2 ^ 32
    → first_frame (closed b d e s l) pc sr level
    ≡ reply (closed b (framed d q (last_value (four_pieces sr pc (offset_word v)))) (e + length ((clock_events (clocks_after d 12) ++ (event 6 level (response_of b level) ∷ [])) ++ writes_of q (four_pieces sr pc (offset_word v))))
    (laid s (q - b.base) (four_pieces sr pc (offset_word v))) (told e l ((clock_events (clocks_after d 12) ++ (event 6 level (response_of b level) ∷ [])) ++ writes_of q (four_pieces sr pc (offset_word v))))) true v
first_68010 b d e s l pc sr level q v h k i g j a r u =
    let ps : List Piece = four_pieces sr pc (offset_word v) in
    let hs : List Event = clock_events (clocks_after d 12) ++ (event 6 level (response_of b level) ∷ []) in
    let few : length hs ≤ 2 = ack_few (clocks_after d 12) (event 6 level (response_of b level)) in
    kind2_step b d e s l pc sr level h k
    ∙ ap (λ (z : Attempt). rest68010 pc sr z) (sync_closed b d e s l 12 level v i (omega arith))
    ∙ four_stacked b d (e + length hs) s (told e l hs) pc sr v q g j a r (omega arith)
    ∙ ap (λ (w : World). reply w true v) (joined b (framed d q (last_value ps)) e (laid s (q - b.base) ps) l hs (writes_of q ps))

-- an interrupt on kind 2
pub interrupt_68010 : (b : Bus) (c : Cpu) (e : ℕ) (s l : List ℕ) (v q a to at x y : ℕ) → eqb (kind_of c) 1 ≡ false → eqb (kind_of c) 2 ≡ true → takes_interrupt c ≡ true → m_is_set c ≡ false
    → iack_vector (response_of b (pending_level c)) (pending_level c) ≡ v → Entering b (enter_supervisor c) s 8 v q a to at x y → e + 20 < 2 ^ 32
    → check_and_service (closed b c e s l)
    ≡ tried (interrupted b c (pending_level c) e s l q (four_pieces (get_sr c) (pc_of c) (offset_word v)) (events68010 b c q (four_pieces (get_sr c) (pc_of c) (offset_word v)) (prefetch_enabled c) a to at x y) (prefetch_enabled c) v to x y) true
unfolding events68010
interrupt_68010 b c e s l v q a to at x y h k m n i g u =
    let j : ℕ = pending_level c in
    let d : Cpu = enter_level c j in
    let ps : List Piece = four_pieces (get_sr c) (pc_of c) (offset_word v) in
    let hs : List Event = clock_events (clocks_after c 12) ++ (event 6 j (response_of b j) ∷ []) in
    let few : length hs ≤ 2 = ack_few (clocks_after c 12) (event 6 j (response_of b j)) in
    let many : length (hs ++ writes_of q ps) ≡ length hs + 4 = length-append hs (writes_of q ps) ∙ ap (λ (z : ℕ). length hs + z) (length_writes q ps ∙ four_four (get_sr c) (pc_of c) (offset_word v)) in
    let f : Entering b d s 8 v q a to at x y = alike_entering b (enter_supervisor c) d s 8 v q a to at x y (level_alike c j) g in
    check_closed b c e s l 8 v q a to at x y ps (hs ++ writes_of q ps) m n g (four_within (get_sr c) (pc_of c) (offset_word v)) (omega arith)
    (rw (level_after c j 12) at (first_68010 b d e s l (pc_of c) (get_sr c) j q v (rw (level_kind c j) h) (rw (level_kind c j) k) i f.registers f.running f.stack f.room (omega arith)))

-- PC low, after the clocks
low_closed : (b : Bus) (d : Cpu) (k e : ℕ) (s l : List ℕ) (q v : ℕ) → is_faulted (set_clocks d k) ≡ false → Room b (kind_of (set_clocks d k)) (length s) q 6 → e + 2 < 2 ^ 32
    → write_at raised (closed b (set_a7 (set_clocks d k) q) e s l) ((q + 4) % 2 ^ 32) false v
    ≡ closed b (framed d q v) (e + length (clock_events k ++ (event 3 (q + 4) v ∷ []))) (laid s (q - b.base) (word_at 4 v ∷ [])) (told e l (clock_events k ++ (event 3 (q + 4) v ∷ [])))
low_closed b d k e s l q v h r u =
    let top : q + 6 ≤ 2 ^ 32 = r.top in
    let z : (q + 4) % 2 ^ 32 ≡ q + 4 = omega arith in
    ap (λ (p : ℕ). write_at raised (closed b (set_a7 (set_clocks d k) q) e s l) p false v) z
    ∙ one_write (closed b (set_a7 (set_clocks d k) q) e s l) q (word_at 4 v)
    ∙ writes_stacked raised b (set_clocks d k) e s l q 6 (word_at 4 v) [] h r (low_within v) (omega arith)
    ∙ low_stacked b d k e s l q v

-- the status and PC high, after 4 clocks
high_closed : (b : Bus) (d : Cpu) (e : ℕ) (s l : List ℕ) (q m sr pc v : ℕ) → is_faulted d ≡ false → Room b (kind_of d) (length s) q 6 → e + 4 < 2 ^ 32
    → rest68000 q pc sr (reply (closed b (framed d q m) e s l) true v)
    ≡ reply (closed b (framed d q (pc / 0x10000)) (e + length (clock_events (pick (prefetch_enabled d) 4 0) ++ (event 3 q sr ∷ event 3 (q + 2) (pc / 0x10000) ∷ []))) (laid s (q - b.base) (word_at 0 sr ∷ word_at 2 (pc / 0x10000) ∷ []))
    (told e l (clock_events (pick (prefetch_enabled d) 4 0) ++ (event 3 q sr ∷ event 3 (q + 2) (pc / 0x10000) ∷ [])))) true v
high_closed b d e s l q m sr pc v h r u =
    let k : ℕ = pick (prefetch_enabled d) 4 0 in
    let c : Cpu = framed d q m in
    let hi : ℕ = pc / 0x10000 in
    let z : internal_cycles c 4 ≡ set_clocks c k = cycles_after_lem c 4 ∙ ap (λ (i : ℕ). set_clocks c i) (framed_four d q m) in
    rest1_step b c e s l q pc sr v
    ∙ ap (λ (i : Cpu). reply (write_at raised (write_at raised (closed b i e s l) q false sr) ((q + 2) % 2 ^ 32) false hi) true v) z
    ∙ ap (λ (w : World). reply w true v)
    (two_writes (closed b (set_clocks c k) e s l) q sr hi r.top
    ∙ writes_closed (word_at 0 sr) (word_at 2 hi ∷ []) raised b (set_clocks c k) e s l q 6 (still_running c k ∙ framed_running d q m ∙ h) (rw (calm_kind c k, framed_kind d q m) r) (high_within sr hi) (omega arith)
    ∙ rw (clocks_set c k, clocks_twice c k, framed_calm d q m, two_last c sr hi, framed_over d q m sr hi, two_events q sr hi))

first_68000 : (b : Bus) (d : Cpu) (e : ℕ) (s l : List ℕ) (pc sr level q v : ℕ) → eqb (kind_of d) 1 ≡ true → iack_vector (response_of b level) level ≡ v
    → 15 < length d.regs.dar → is_faulted d ≡ false → a7_of d ≡ q + 6 → Room b (kind_of d) (length s) q 6 → e + 12 < 2 ^ 32
    → first_frame (closed b d e s l) pc sr level
    ≡ reply (closed b (framed d q (last_value (three_pieces sr pc))) (e + length (head68000 b (clocks_after d 6) (pick (prefetch_enabled d) 4 0) level q sr pc)) (laid s (q - b.base) (three_pieces sr pc))
    (told e l (head68000 b (clocks_after d 6) (pick (prefetch_enabled d) 4 0) level q sr pc))) true v
unfolding head68000
first_68000 b d e s l pc sr level q v h i g j a r u =
    let k : ℕ = clocks_after d 6 in
    let f : ℕ = pick (prefetch_enabled d) 4 0 in
    let top : q + 6 ≤ 2 ^ 32 = r.top in
    let p : ℕ = q - b.base in
    let lo : ℕ = pc % 0x10000 in
    let hi : ℕ = pc / 0x10000 in
    let c : Cpu = set_clocks d k in
    let y : lower_a7 (internal_cycles d 6) 6 ≡ set_a7 c q = ap (λ (m : Cpu). lower_a7 m 6) (cycles_after_lem d 6) ∙ lower_to c q 6 (calm_a7 d k ∙ a) (omega arith) (omega arith) in
    let xs : List Event = clock_events k ++ (event 3 (q + 4) lo ∷ []) in
    let ys : List Event = clock_events f ++ (event 6 level (response_of b level) ∷ []) in
    let zs : List Event = clock_events f ++ (event 3 q sr ∷ event 3 (q + 2) hi ∷ []) in
    let few : length xs ≤ 2 = ack_few k (event 3 (q + 4) lo) in
    let many : length ys ≤ 2 = ack_few f (event 6 level (response_of b level)) in
    let all : length (xs ++ ys) ≡ length xs + length ys = length-append xs ys in
    let s' : List ℕ = laid s p (word_at 4 lo ∷ []) in
    kind1_step b d e s l pc sr level h
    ∙ ap (λ (m : Cpu). from68000 (closed b m e s l) (a7_of m) pc sr level) y
    ∙ ap (λ (m : ℕ). from68000 (closed b (set_a7 c q) e s l) m pc sr level) (a7_set c q (calm_registers d k g))
    ∙ from_step (closed b (set_a7 c q) e s l) q pc sr level
    ∙ ap (λ (w : World). rest68000 q pc sr (synced_acknowledge w 4 level)) (low_closed b d k e s l q lo (still_running d k ∙ j) (rw (calm_kind d k) r) (omega arith))
    ∙ ap (λ (z : Attempt). rest68000 q pc sr z)
    ((rw (framed_four d q lo, framed_calm d q lo) at (sync_closed b (framed d q lo) (e + length xs) s' (told e l xs) 4 level v i (omega arith)))
    ∙ ap (λ (w : World). reply w true v) (joined b (framed d q lo) e s' l xs ys))
    ∙ high_closed b d (e + length (xs ++ ys)) s' (told e l (xs ++ ys)) q lo sr pc v j (rw (laid_length (word_at 4 lo ∷ []) s p) r) (omega arith)
    ∙ ap (λ (w : World). reply w true v) (joined b (framed d q hi) e (laid s' p (word_at 0 sr ∷ word_at 2 hi ∷ [])) l (xs ++ ys) zs)
    ∙ rw (three_laid s p sr pc, three_last sr pc)

-- an interrupt on kind 1
pub interrupt_68000 : (b : Bus) (c : Cpu) (e : ℕ) (s l : List ℕ) (v q a to at x y : ℕ) → eqb (kind_of c) 1 ≡ true → takes_interrupt c ≡ true → m_is_set c ≡ false
    → iack_vector (response_of b (pending_level c)) (pending_level c) ≡ v → Entering b (enter_supervisor c) s 6 v q a to at x y → e + 20 < 2 ^ 32
    → check_and_service (closed b c e s l)
    ≡ tried (interrupted b c (pending_level c) e s l q (three_pieces (get_sr c) (pc_of c)) (events68000 b c q (get_sr c) (pc_of c) (prefetch_enabled c) a to at x y) (prefetch_enabled c) v to x y) true
unfolding events68000 head68000
interrupt_68000 b c e s l v q a to at x y h m n i g u =
    let j : ℕ = pending_level c in
    let d : Cpu = enter_level c j in
    let ps : List Piece = three_pieces (get_sr c) (pc_of c) in
    let hs : List Event = head68000 b (clocks_after c 6) (pick (prefetch_enabled c) 4 0) j q (get_sr c) (pc_of c) in
    let few : length hs ≤ 7 = head_small b (clocks_after c 6) (pick (prefetch_enabled c) 4 0) j q (get_sr c) (pc_of c) in
    let f : Entering b d s 6 v q a to at x y = alike_entering b (enter_supervisor c) d s 6 v q a to at x y (level_alike c j) g in
    check_closed b c e s l 6 v q a to at x y ps hs m n g (three_within (get_sr c) (pc_of c)) (omega arith)
    (rw (level_after c j 6, level_fetches c j) at (first_68000 b d e s l (pc_of c) (get_sr c) j q v (rw (level_kind c j) h) i f.registers f.running f.stack f.room (omega arith)))
