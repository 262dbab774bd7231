-- The interrupt where nothing is refused, nothing faults and M is clear: kinds other than 1 and 2, kind 2, kind 1.
use Rattle.std.specs.Prelude.{ℕ, suc, ◌+◌, ◌-◌, ◌/◌, ◌%◌, ◌^◌, ◌≤◌, ◌<◌, ◌≡◌, true, false, List, [], ◌∷◌, ◌++◌, eqb, length}
use Rattle.std.proofs.Math.Path.{refl}
use Rattle.std.proofs.Common.{ap, ◌∙◌, arith, length-append}
use Rattle.types.specs.Kinds.{pick}
use Rattle.cpu.specs.declared.Cpu.{Cpu}
use Rattle.cpu.specs.Fields.{kind_of, pc_of, vbr_of, a7_of, is_faulted, set_wdata, set_a7, lower_a7}
use Rattle.cpu.specs.Clocks.{clocks_of, set_clocks, prefetch_enabled, internal_cycles}
use Rattle.status.specs.Status.{get_sr, m_is_set, clear_trace, set_int_mask}
use Rattle.status.specs.Banks.{enter_supervisor, set_sflag, restore_sp, put_s, backup_sp}
use Rattle.pending.specs.Interrupts.{pending_level, takes_interrupt, clear_level}
use Rattle.memory.specs.declared.Bus.{Bus}
use Rattle.memory.specs.Log.{note_log, counted}
use Rattle.memory.specs.World.{World, reply, tried, noted, put_cpu, flush, response_of, acknowledged}
use Rattle.memory.specs.LogLaws.{Event}
use Rattle.steps.specs.Steps.{iack_vector, enter_level, close_interrupt}
use Rattle.access.specs.Access.{raised, write_at, push_frame, jump_vector}
use Rattle.formats.specs.Formats.{offset_word, short_frame}
use Rattle.interrupts.specs.Interrupts.{vector_from, acknowledge_level, synced_acknowledge, rest68000, from68000, push_interrupt68000, writes68010, rest68010, push_interrupt68010, rest_other, push_interrupt_other, first_frame, second_frame, ended, dispatched, service_interrupt, serviced, check_and_service}
use Rattle.unfaulted.specs.Closed.{closed, event, told, Piece, word_at, laid, writes_of, last_of, last_value, clock_events, stacked, short_pieces, three_pieces, four_pieces, Within, clocks_after}
use Rattle.unfaulted.specs.Lists.{length_writes, clocks_small}
use Rattle.unfaulted.specs.Accesses.{flush_closed}
use Rattle.unfaulted.specs.Pushes.{write_all, joined}
use Rattle.unfaulted.specs.Stacks.{framed}
use Rattle.unfaulted.specs.Entries.{Alike, cycles_after_lem}

module _ (c : Cpu) (level : ℕ) where
  pub level_alike : Alike (enter_supervisor c) (enter_level c level)
  unfolding enter_level set_int_mask is_faulted kind_of vbr_of prefetch_enabled
  level_alike = record { running = refl; registers = refl; kind = refl; vbr = refl; fetches = refl }

  pub level_fetches : prefetch_enabled (enter_level c level) ≡ prefetch_enabled c
  unfolding enter_level set_int_mask enter_supervisor clear_trace set_sflag restore_sp put_s backup_sp prefetch_enabled
  level_fetches = refl

  pub level_kind : kind_of (enter_level c level) ≡ kind_of c
  unfolding enter_level set_int_mask enter_supervisor clear_trace set_sflag restore_sp put_s backup_sp kind_of
  level_kind = refl

  pub level_clocks : clocks_of (enter_level c level) ≡ clocks_of c
  unfolding enter_level set_int_mask enter_supervisor clear_trace set_sflag restore_sp put_s backup_sp clocks_of
  level_clocks = refl

  -- M is as before the frame
  pub level_master : (q m : ℕ) → m_is_set (framed (enter_level c level) q m) ≡ m_is_set c
  unfolding enter_level set_int_mask enter_supervisor clear_trace set_sflag restore_sp put_s backup_sp set_wdata set_a7 set_clocks m_is_set
  level_master q m = refl

-- the acknowledge cycle: an event, and the vector that answers
pub acknowledge_closed : (b : Bus) (c : Cpu) (e : ℕ) (s l : List ℕ) (level : ℕ) → e + 1 < 2 ^ 32
    → acknowledge_level (closed b c e s l) level ≡ reply (closed b c (e + 1) s (note_log e l 6 level (response_of b level))) true (iack_vector (response_of b level) level)
unfolding acknowledge_level vector_from acknowledged noted counted closed response_of
acknowledge_closed b c e s l level u = let x : (e + 1) % 2 ^ 32 ≡ e + 1 = omega arith in rw x

-- after the first frame, M clear: the jump, and the end of the interrupt
pub second_none : (b : Bus) (c : Cpu) (e : ℕ) (s l : List ℕ) (pc sr v : ℕ) → m_is_set c ≡ false → second_frame (closed b c e s l) pc sr v ≡ closed b c e s l
unfolding second_frame closed
second_none b c e s l pc sr v h = rw h

pub end_step : (b : Bus) (c : Cpu) (e : ℕ) (s l : List ℕ) → serviced (ended (closed b c e s l)) ≡ closed b (clear_level (close_interrupt c)) e s l
unfolding serviced ended closed put_cpu
end_step b c e s l = refl

pub dispatch_step : (pc sr v : ℕ) (w : World) → dispatched pc sr (reply w true v) ≡ ended (jump_vector raised (second_frame w pc sr v) v)
unfolding dispatched
dispatch_step pc sr v w = refl

pub check_step : (b : Bus) (c : Cpu) (e : ℕ) (s l : List ℕ) → takes_interrupt c ≡ true
    → check_and_service (closed b c e s l) ≡ tried (serviced (dispatched (pc_of c) (get_sr c) (first_frame (closed b (enter_level c (pending_level c)) e s l) (pc_of c) (get_sr c) (pending_level c)))) true
unfolding check_and_service service_interrupt closed put_cpu
check_step b c e s l h = rw h

-- ---- kinds other than 1 and 2: the acknowledge, then the clocks and format 0

pub other_step : (b : Bus) (d : Cpu) (e : ℕ) (s l : List ℕ) (pc sr level : ℕ) → eqb (kind_of d) 1 ≡ false → eqb (kind_of d) 2 ≡ false
    → first_frame (closed b d e s l) pc sr level ≡ rest_other pc sr (acknowledge_level (closed b d e s l) level)
unfolding first_frame push_interrupt_other closed
other_step b d e s l pc sr level h k = rw (h, k)

pub other_rest : (pc sr v : ℕ) (w : World) → rest_other pc sr (reply w true v) ≡ reply (push_frame raised w (short_frame sr pc (offset_word v))) true v
unfolding rest_other
other_rest pc sr v w = refl

-- a frame after one event
pub stacked_more : (b : Bus) (d : Cpu) (e : ℕ) (s l : List ℕ) (q : ℕ) (ps : List Piece) (z : Event) → stacked b d (e + 1) s (note_log e l z.code z.place z.value) q ps ≡ closed b (framed d q (last_value ps)) (e + length (z ∷ (clock_events (clocks_of d) ++ writes_of q ps))) (laid s (q - b.base) ps) (told e l (z ∷ (clock_events (clocks_of d) ++ writes_of q ps)))
unfolding stacked told
stacked_more b d e s l q ps z =
    let n : e + 1 + length (clock_events (clocks_of d) ++ writes_of q ps) ≡ e + suc (length (clock_events (clocks_of d) ++ writes_of q ps)) = omega arith in
    rw n

-- the events of a head and of a frame are few
pub head_few : (k q : ℕ) (ps : List Piece) → length (clock_events k ++ writes_of q ps) ≤ 1 + length ps
head_few k q ps =
    let few : length (clock_events k) ≤ 1 = clocks_small k in
    rw (length-append (clock_events k) (writes_of q ps), length_writes q ps) (omega arith)

pub short_three : (sr pc format : ℕ) → length (short_pieces sr pc format) ≡ 3
unfolding short_pieces
short_three sr pc format = refl

-- ---- clocks and the acknowledge

sync_step : (b : Bus) (d : Cpu) (e : ℕ) (s l : List ℕ) (n level : ℕ) → synced_acknowledge (closed b d e s l) n level ≡ acknowledge_level (flush (closed b (internal_cycles d n) e s l)) level
unfolding synced_acknowledge closed put_cpu
sync_step b d e s l n level = refl

pub clocks_set : (d : Cpu) (k : ℕ) → clocks_of (set_clocks d k) ≡ k
unfolding clocks_of set_clocks
clocks_set d k = refl

pub clocks_twice : (d : Cpu) (k : ℕ) → set_clocks (set_clocks d k) 0 ≡ set_clocks d 0
unfolding set_clocks
clocks_twice d k = refl

note_told : (e : ℕ) (l : List ℕ) (z : Event) → note_log e l z.code z.place z.value ≡ told e l (z ∷ [])
unfolding told
note_told e l z = refl

-- n clocks more are told, and the level is acknowledged
pub sync_closed : (b : Bus) (d : Cpu) (e : ℕ) (s l : List ℕ) (n level v : ℕ) → iack_vector (response_of b level) level ≡ v → e + 2 < 2 ^ 32
    → synced_acknowledge (closed b d e s l) n level
    ≡ reply (closed b (set_clocks d 0) (e + length (clock_events (clocks_after d n) ++ (event 6 level (response_of b level) ∷ []))) s (told e l (clock_events (clocks_after d n) ++ (event 6 level (response_of b level) ∷ [])))) true v
sync_closed b d e s l n level v i u =
    let k : ℕ = clocks_after d n in
    let ce : List Event = clock_events k in
    let few : length ce ≤ 1 = clocks_small k in
    let z : Event = event 6 level (response_of b level) in
    sync_step b d e s l n level
    ∙ ap (λ (m : Cpu). acknowledge_level (flush (closed b m e s l)) level) (cycles_after_lem d n)
    ∙ ap (λ (w : World). acknowledge_level w level) (flush_closed b (set_clocks d k) e s l (omega arith) ∙ rw (clocks_set d k, clocks_twice d k))
    ∙ acknowledge_closed b (set_clocks d 0) (e + length ce) s (told e l ce) level (omega arith)
    ∙ ap (λ (j : ℕ). reply (closed b (set_clocks d 0) (e + length ce + 1) s (note_log (e + length ce) (told e l ce) 6 level (response_of b level))) true j) i
    ∙ ap (λ (w : World). reply w true v)
    (ap (λ (m : List ℕ). closed b (set_clocks d 0) (e + length ce + 1) s m) (note_told (e + length ce) (told e l ce) z) ∙ joined b (set_clocks d 0) e s l ce (z ∷ []))

-- ---- kind 2

pub four_writes : (w : World) (q sr pc format : ℕ) → q + 8 ≤ 2 ^ 32 → writes68010 w q pc sr format ≡ write_all raised w q (four_pieces sr pc format)
unfolding writes68010 write_all four_pieces
four_writes w q sr pc format h =
    let x : (q + 4) % 2 ^ 32 ≡ q + 4 = omega arith in
    let y : (q + 2) % 2 ^ 32 ≡ q + 2 = omega arith in
    let u : (q + 6) % 2 ^ 32 ≡ q + 6 = omega arith in
    let z : q + 0 ≡ q = omega arith in
    rw (x, y, u, z)

pub four_within : (sr pc format : ℕ) → Within 8 (four_pieces sr pc format)
unfolding Within four_pieces
four_within sr pc format = (refl, omega arith, (refl, omega arith, (refl, omega arith, (refl, omega arith, tt))))

pub four_four : (sr pc format : ℕ) → length (four_pieces sr pc format) ≡ 4
unfolding four_pieces
four_four sr pc format = refl

pub rest_step : (b : Bus) (d : Cpu) (e : ℕ) (s l : List ℕ) (pc sr v : ℕ) → rest68010 pc sr (reply (closed b d e s l) true v) ≡ reply (writes68010 (closed b (lower_a7 d 8) e s l) (a7_of (lower_a7 d 8)) pc sr (offset_word v)) true v
unfolding rest68010 closed put_cpu
rest_step b d e s l pc sr v = refl

-- a frame where no clock waits
pub calm_stacked : (b : Bus) (d : Cpu) (e : ℕ) (s l : List ℕ) (q : ℕ) (ps : List Piece) → stacked b (set_clocks d 0) e s l q ps ≡ closed b (framed d q (last_value ps)) (e + length (writes_of q ps)) (laid s (q - b.base) ps) (told e l (writes_of q ps))
unfolding stacked set_clocks clocks_of clock_events
calm_stacked b d e s l q ps = refl

module _ (d : Cpu) where
  pub calm_a7 : (k : ℕ) → a7_of (set_clocks d k) ≡ a7_of d
  unfolding a7_of set_clocks
  calm_a7 k = refl

  pub calm_registers : (k : ℕ) → 15 < length d.regs.dar → 15 < length (set_clocks d k).regs.dar
  unfolding set_clocks
  calm_registers k h = h

pub kind2_step : (b : Bus) (d : Cpu) (e : ℕ) (s l : List ℕ) (pc sr level : ℕ) → eqb (kind_of d) 1 ≡ false → eqb (kind_of d) 2 ≡ true
    → first_frame (closed b d e s l) pc sr level ≡ rest68010 pc sr (synced_acknowledge (closed b d e s l) 12 level)
unfolding first_frame push_interrupt68010 closed
kind2_step b d e s l pc sr level h k = rw (h, k)

pub level_after : (c : Cpu) (level n : ℕ) → clocks_after (enter_level c level) n ≡ clocks_after c n
unfolding enter_level set_int_mask enter_supervisor clear_trace set_sflag restore_sp put_s backup_sp clocks_after clocks_of prefetch_enabled
level_after c level n = refl

pub ack_few : (k : ℕ) (z : Event) → length (clock_events k ++ (z ∷ [])) ≤ 2
ack_few k z = let few : length (clock_events k) ≤ 1 = clocks_small k in rw (length-append (clock_events k) (z ∷ [])) (omega arith)

-- ---- kind 1

pub kind1_step : (b : Bus) (d : Cpu) (e : ℕ) (s l : List ℕ) (pc sr level : ℕ) → eqb (kind_of d) 1 ≡ true
    → first_frame (closed b d e s l) pc sr level ≡ from68000 (closed b (lower_a7 (internal_cycles d 6) 6) e s l) (a7_of (lower_a7 (internal_cycles d 6) 6)) pc sr level
unfolding first_frame push_interrupt68000 closed put_cpu
kind1_step b d e s l pc sr level h = rw h

module _ (d : Cpu) (q m : ℕ) where
  pub framed_calm : set_clocks (framed d q m) 0 ≡ framed d q m
  unfolding set_wdata set_a7 set_clocks
  framed_calm = refl

  -- between its words no clock waits, so that 4 are told where there is a queue
  pub framed_four : clocks_after (framed d q m) 4 ≡ pick (prefetch_enabled d) 4 0
  unfolding clocks_after clocks_of prefetch_enabled set_wdata set_a7 set_clocks
  framed_four = refl

  pub framed_over : (u v : ℕ) → set_wdata (set_wdata (framed d q m) u) v ≡ framed d q v
  unfolding set_wdata set_a7 set_clocks
  framed_over u v = refl

pub low_within : (v : ℕ) → Within 6 (word_at 4 v ∷ [])
unfolding Within
low_within v = (refl, omega arith, tt)

pub high_within : (u v : ℕ) → Within 6 (word_at 0 u ∷ word_at 2 v ∷ [])
unfolding Within
high_within u v = (refl, omega arith, (refl, omega arith, tt))

pub low_stacked : (b : Bus) (d : Cpu) (k e : ℕ) (s l : List ℕ) (q v : ℕ)
    → stacked b (set_clocks d k) e s l q (word_at 4 v ∷ []) ≡ closed b (framed d q v) (e + length (clock_events k ++ (event 3 (q + 4) v ∷ []))) (laid s (q - b.base) (word_at 4 v ∷ [])) (told e l (clock_events k ++ (event 3 (q + 4) v ∷ [])))
unfolding stacked set_clocks clocks_of last_value writes_of
low_stacked b d k e s l q v = refl

pub one_write : (w : World) (q : ℕ) (x : Piece) → write_at raised w (q + x.offset) x.long x.value ≡ write_all raised w q (x ∷ [])
unfolding write_all
one_write w q x = refl

pub rest1_step : (b : Bus) (c : Cpu) (e : ℕ) (s l : List ℕ) (sp pc sr v : ℕ)
    → rest68000 sp pc sr (reply (closed b c e s l) true v) ≡ reply (write_at raised (write_at raised (closed b (internal_cycles c 4) e s l) sp false sr) ((sp + 2) % 2 ^ 32) false (pc / 0x10000)) true v
unfolding rest68000 closed put_cpu
rest1_step b c e s l sp pc sr v = refl

pub two_writes : (w : World) (q u v : ℕ) → q + 6 ≤ 2 ^ 32 → write_at raised (write_at raised w q false u) ((q + 2) % 2 ^ 32) false v ≡ write_all raised w q (word_at 0 u ∷ word_at 2 v ∷ [])
unfolding write_all
two_writes w q u v h =
    let y : (q + 2) % 2 ^ 32 ≡ q + 2 = omega arith in
    let z : q + 0 ≡ q = omega arith in
    rw (y, z)

pub two_last : (c : Cpu) (u v : ℕ) → last_of c (word_at 0 u ∷ word_at 2 v ∷ []) ≡ set_wdata (set_wdata c u) v
unfolding last_of
two_last c u v = refl

pub two_events : (q u v : ℕ) → writes_of q (word_at 0 u ∷ word_at 2 v ∷ []) ≡ event 3 q u ∷ event 3 (q + 2) v ∷ []
unfolding writes_of
two_events q u v = let z : q + 0 ≡ q = omega arith in rw z

pub from_step : (w : World) (sp pc sr level : ℕ) → from68000 w sp pc sr level ≡ rest68000 sp pc sr (synced_acknowledge (write_at raised w ((sp + 4) % 2 ^ 32) false (pc % 0x10000)) 4 level)
unfolding from68000
from_step w sp pc sr level = refl

pub three_laid : (s : List ℕ) (p sr pc : ℕ) → laid (laid s p (word_at 4 (pc % 0x10000) ∷ [])) p (word_at 0 sr ∷ word_at 2 (pc / 0x10000) ∷ []) ≡ laid s p (three_pieces sr pc)
unfolding laid three_pieces
three_laid s p sr pc = refl

pub three_last : (sr pc : ℕ) → last_value (three_pieces sr pc) ≡ pc / 0x10000
unfolding last_value three_pieces
three_last sr pc = refl

-- the events of the frame on kind 1
unfoldable pub head68000 : Bus → ℕ → ℕ → ℕ → ℕ → ℕ → ℕ → List Event
head68000 b i j level q sr pc =
    ((clock_events i ++ (event 3 (q + 4) (pc % 0x10000) ∷ [])) ++ (clock_events j ++ (event 6 level (response_of b level) ∷ []))) ++ (clock_events j ++ (event 3 q sr ∷ event 3 (q + 2) (pc / 0x10000) ∷ []))

pub head_small : (b : Bus) (i j level q sr pc : ℕ) → length (head68000 b i j level q sr pc) ≤ 7
unfolding head68000
head_small b i j level q sr pc =
    let xs : List Event = clock_events i ++ (event 3 (q + 4) (pc % 0x10000) ∷ []) in
    let ys : List Event = clock_events j ++ (event 6 level (response_of b level) ∷ []) in
    let ws : List Event = event 3 q sr ∷ event 3 (q + 2) (pc / 0x10000) ∷ [] in
    let a : length xs ≤ 2 = ack_few i (event 3 (q + 4) (pc % 0x10000)) in
    let c : length ys ≤ 2 = ack_few j (event 6 level (response_of b level)) in
    let d : length (clock_events j) ≤ 1 = clocks_small j in
    rw (length-append (xs ++ ys) (clock_events j ++ ws), length-append xs ys, length-append (clock_events j) ws) (omega arith)
