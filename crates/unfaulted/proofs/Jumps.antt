-- Theorems about what specs/Jumps defines, and what rests on them.
use Rattle.std.specs.Prelude.{ℕ, ◌+◌, ◌-◌, ◌*◌, ◌%◌, ◌^◌, ◌<◌, ◌≡◌, Bool, false, List, [], ◌∷◌, length}
use Rattle.std.proofs.Math.Path.{refl, sym}
use Rattle.std.proofs.Common.{ap, ◌∙◌}
use Rattle.std.proofs.Math.Bool.{true}
use native.Mathlib.Omega.{arith}
use Rattle.types.specs.Kinds.{mask_address}
use Rattle.cpu.specs.declared.Cpu.{Cpu}
use Rattle.cpu.specs.Fields.{kind_of, pc_of, vbr_of, address_of, is_faulted, start_vector, odd_pc}
use Rattle.cpu.specs.Clocks.{has_clocks, clocks_of, set_clocks, prefetch_enabled, one_fetched, clear_prefetch, first_word, second_word}
use Rattle.memory.specs.declared.Bus.{Bus}
use Rattle.memory.specs.Log.{note_log, counted}
use Rattle.memory.specs.Bytes.{get_word, get_long}
use Rattle.memory.specs.World.{World, Attempt, reply, noted, put_cpu, flush}
use Rattle.memory.specs.LogLaws.{Event}
use Rattle.steps.specs.Steps.{vector_address}
use Rattle.access.specs.Access.{Raise, prefetch_read, kept_first, first_from, prefetch_first, kept_second, second_from, prefetch_second, vector_read, refill, jump_to, jump_vector}
use Rattle.unfaulted.specs.Closed.{closed, event, told, Room, jump_events, jumped, Landing}
use Rattle.unfaulted.specs.Pushes.{joined}
use Rattle.unfaulted.specs.Accesses.{clocks_none, calm_flush}
use Rattle.unfaulted.proofs.Accesses.{read_closed, word_closed}
use Rattle.unfaulted.specs.Jumps.{second_place, even_pc, cycles_two, none_has, first_on, first_clocks, first_one, first_odd, first_pc, first_running, first_kind, masked, refill_step, refill_none, release_closed, vector_step, jump_step, start_running, start_clocks, start_kind, vector_masked, landed, land_on, land_running, land_clocks, land_kind, land_pc}

-- ---- the queue

module _ (t : Raise) (b : Bus) (c : Cpu) (e : ℕ) (s l : List ℕ) (q : ℕ) (on : prefetch_enabled c ≡ true) (even : odd_pc c ≡ false) (u : e + 2 < 2 ^ 32) where
  -- the first word
  first_closed : has_clocks c ≡ false → address_of c (pc_of c) ≡ q → Room b (kind_of c) (length s) q 4
      → prefetch_first t (closed b c e s l) ≡ closed b (first_word c (get_word s (q - b.base) % 0x10000)) (e + 1) s (note_log e l 1 q (get_word s (q - b.base)))
  unfolding prefetch_first first_from kept_first closed clear_prefetch put_cpu odd_pc pc_of address_of has_clocks kind_of first_word
  first_closed h a r =
      let z : q + 0 ≡ q = omega arith in
      let y : q - b.base + 0 ≡ q - b.base = omega arith in
      let x : prefetch_read t (closed b (clear_prefetch c) e s l) c.flow.pc ≡ reply (closed b (clear_prefetch c) (e + 1) s (note_log e l 1 q (get_word s (q - b.base)))) true (get_word s (q - b.base))
      = rw (z, y) at (word_closed t (closed b (clear_prefetch c) e s l) b (clear_prefetch c) e s l c.flow.pc q 4 0 (calm_flush b (clear_prefetch c) e s l h) (a ∙ sym z) r (omega arith) (omega arith)) in
      rw (on, even, x)

  flush_two : flush (closed b (set_clocks c 2) e s l) ≡ closed b (set_clocks c 0) (e + 1) s (note_log e l 5 0 2)
  unfolding flush closed noted counted put_cpu set_clocks has_clocks clocks_of
  flush_two = let x : (e + 1) % 2 ^ 32 ≡ e + 1 = omega arith in rw x

  -- the second word, after 2 clocks
  second_closed : one_fetched c ≡ true → is_faulted c ≡ false → address_of c ((pc_of c + 2) % 2 ^ 32) ≡ q + 2 → Room b (kind_of c) (length s) q 4
      → prefetch_second t (closed b (set_clocks c 2) e s l)
      ≡ closed b (second_word (set_clocks c 0) (get_word s (q - b.base + 2) % 0x10000)) (e + 2) s (note_log (e + 1) (note_log e l 5 0 2) 1 (q + 2) (get_word s (q - b.base + 2)))
  unfolding prefetch_second second_from kept_second closed set_clocks put_cpu odd_pc pc_of address_of is_faulted kind_of prefetch_enabled one_fetched
  second_closed o h a r =
      let z : e + 1 + 1 ≡ e + 2 = omega arith in
      let x = word_closed t (closed b (set_clocks c 2) e s l) b (set_clocks c 0) (e + 1) s (note_log e l 5 0 2) ((c.flow.pc + 2) % 2 ^ 32) q 4 2 flush_two a r (omega arith) (omega arith) in
      rw (on, o, even, h, x, z)

-- with a queue both words are fetched
refill_on : (t : Raise) (b : Bus) (c : Cpu) (e : ℕ) (s l : List ℕ) (q : ℕ) → prefetch_enabled c ≡ true → is_faulted c ≡ false → clocks_of c ≡ 0 → mask_address (kind_of c) (pc_of c) ≡ q
    → Room b (kind_of c) (length s) q 4 → e + 3 < 2 ^ 32
    → refill t (closed b c e s l)
    ≡ closed b (second_word (first_word c (get_word s (q - b.base) % 0x10000)) (get_word s (q - b.base + 2) % 0x10000)) (e + 3) s
    (told e l (event 1 q (get_word s (q - b.base)) ∷ event 5 0 2 ∷ event 1 (q + 2) (get_word s (q - b.base + 2)) ∷ []))
unfolding told
refill_on t b c e s l q on h k m r u =
    let x : ℕ = get_word s (q - b.base) in
    let y : ℕ = get_word s (q - b.base + 2) in
    let d : Cpu = first_word c (x % 0x10000) in
    let even : odd_pc c ≡ false = even_pc c b (length s) (rw m r) in
    let z : clocks_of d ≡ 0 = first_clocks c (x % 0x10000) ∙ k in
    let p : address_of d ((pc_of d + 2) % 2 ^ 32) ≡ q + 2 = masked d ((pc_of d + 2) % 2 ^ 32) ∙ rw (first_kind c (x % 0x10000), first_pc c (x % 0x10000)) (rw m at (second_place b (kind_of c) (length s) (pc_of c) (rw m r))) in
    let n : e + 1 + 2 ≡ e + 3 = omega arith in
    refill_step t b d (e + 1) s (note_log e l 1 q x) (closed b c e s l) (first_closed t b c e s l q on even (omega arith) (none_has c k) (masked c (pc_of c) ∙ m) r)
    ∙ ap (λ (i : Cpu). prefetch_second t (closed b i (e + 1) s (note_log e l 1 q x))) (cycles_two d (first_on c (x % 0x10000) ∙ on) z)
    ∙ second_closed t b d (e + 1) s (note_log e l 1 q x) q (first_on c (x % 0x10000) ∙ on) (first_odd c (x % 0x10000) ∙ even) (omega arith) (first_one c (x % 0x10000)) (first_running c (x % 0x10000) ∙ h) p (rw (first_kind c (x % 0x10000)) r)
    ∙ rw (clocks_none d z, n)

-- the vector is read
vector_closed : (t : Raise) (b : Bus) (c : Cpu) (e : ℕ) (s l : List ℕ) (v a to : ℕ) → is_faulted c ≡ false → clocks_of c ≡ 0 → mask_address (kind_of c) ((v % 0x40000000 * 4 + vbr_of c) % 2 ^ 32) ≡ a
    → Room b (kind_of c) (length s) a 4 → get_long s (a - b.base) ≡ to → e + 2 < 2 ^ 32
    → jump_vector t (closed b c e s l) v ≡ refill t (closed b (landed c v to) (e + 2) s (told e l (event 7 0 0 ∷ event 2 a to ∷ [])))
unfolding jump_vector told
vector_closed t b c e s l v a to h k m r g u =
    let z : a + 0 ≡ a = omega arith in
    let y : a - b.base + 0 ≡ a - b.base = omega arith in
    let n : e + 1 + 1 ≡ e + 2 = omega arith in
    let d : Cpu = start_vector c v in
    let l' : List ℕ = note_log e l 7 0 0 in
    ap (λ (w : World). jump_to t (vector_read t w v)) (release_closed b c e s l (omega arith))
    ∙ ap (λ (x : Attempt). jump_to t x)
    (vector_step t b c (e + 1) s l' v
    ∙ (rw (z, y, g, n) at (read_closed t b d (e + 1) s l' (vector_address c v) a 4 0 true (start_running c v ∙ h) (start_clocks c v ∙ none_has c k) (vector_masked c v ∙ m ∙ sym z) (rw (start_kind c v) r) refl (omega arith) (omega arith))))
    ∙ jump_step t b d (e + 2) s (note_log (e + 1) l' 2 a to) to

-- a jump whose reads nothing refuses, where no clock waits
pub jump_closed : (t : Raise) (b : Bus) (c : Cpu) (e : ℕ) (s l : List ℕ) (v a to q x y : ℕ) → is_faulted c ≡ false → clocks_of c ≡ 0 → Landing b (kind_of c) (vbr_of c) (prefetch_enabled c) s v a to q x y
    → e + 5 < 2 ^ 32
    → jump_vector t (closed b c e s l) v ≡ closed b (jumped (prefetch_enabled c) c v to x y) (e + length (jump_events (prefetch_enabled c) a to q x y)) s (told e l (jump_events (prefetch_enabled c) a to q x y))
unfolding jumped jump_events
jump_closed t b c e s l v a to q x y h k r u =
    vector_closed t b c e s l v a to h k r.vector r.vector_room r.handler (omega arith) ∙ go (prefetch_enabled c) refl r
  where
    xs : List Event
    xs = event 7 0 0 ∷ event 2 a to ∷ []

    go : (f : Bool) → prefetch_enabled c ≡ f → Landing b (kind_of c) (vbr_of c) f s v a to q x y
        → refill t (closed b (landed c v to) (e + 2) s (told e l xs)) ≡ closed b (jumped f c v to x y) (e + length (jump_events f a to q x y)) s (told e l (jump_events f a to q x y))
    go true on r =
        let ys : List Event = event 1 q x ∷ event 5 0 2 ∷ event 1 (q + 2) y ∷ [] in
        (rw (r.first refl, r.second refl) at
        (refill_on t b (landed c v to) (e + 2) s (told e l xs) q (land_on c v to ∙ on) (land_running c v to ∙ h) (land_clocks c v to ∙ k) (rw (land_kind c v to, land_pc c v to) (r.queue refl)) (rw (land_kind c v to) (r.queue_room refl)) (omega arith)))
        ∙ joined b (jumped true c v to x y) e s l xs ys
    go false off r = refill_none t b (landed c v to) (e + 2) s (told e l xs) (land_on c v to ∙ off)
