-- Theorems about what specs/Stacks defines, and what rests on them.
use Rattle.std.specs.Prelude.{ℕ, suc, ◌+◌, ◌-◌, ◌/◌, ◌%◌, ◌^◌, ◌≤◌, ◌<◌, ◌≡◌, Bool, true, false, List, [], ◌∷◌, ◌++◌, length}
use Rattle.std.proofs.Math.Path.{refl}
use Rattle.std.proofs.Common.{ap, ◌∙◌, arith, length-append}
use Rattle.cpu.specs.declared.Cpu.{Cpu}
use Rattle.cpu.specs.Fields.{kind_of, vbr_of, a7_of, is_faulted, set_a7, lower_a7}
use Rattle.cpu.specs.Clocks.{clocks_of, set_clocks, prefetch_enabled}
use Rattle.memory.specs.declared.Bus.{Bus}
use Rattle.memory.specs.Runs.{Apart}
use Rattle.memory.specs.LogLaws.{Event}
use Rattle.frames.specs.declared.Frame.{Frame}
use Rattle.frames.specs.Frames.{field_at}
use Rattle.access.specs.Access.{Raise, push_fields, push_frame, short_writes, push_exception_frame68000, jump_vector}
use Rattle.formats.specs.Formats.{short_frame, long_frame, disabled_frame}
use Rattle.unfaulted.specs.Closed.{closed, told, Piece, word_at, long_at, laid, writes_of, last_value, clock_events, stacked, short_pieces, long_pieces, disabled_pieces, three_pieces, Room, Within, Landing, Entering, jumped, jump_events, entry_events, arrived}
use Rattle.unfaulted.specs.Lists.{length_writes, clocks_small, laid_length}
use Rattle.unfaulted.proofs.Lists.{laid_other}
use Rattle.unfaulted.specs.Pushes.{write_all, joined, offset_of, pieces_of, Guarded, lower_to, a7_set, a7_running, a7_kind}
use Rattle.unfaulted.proofs.Pushes.{writes_closed, frame_closed}
use Rattle.unfaulted.proofs.Jumps.{jump_closed}
use Rattle.unfaulted.specs.Stacks.{last_kept, a7_wdata, lower_step, three_writes, three_within, at_clocks, at_calm, apart_places, halves, framed, framed_running, framed_clocks, framed_kind, framed_vbr, framed_on}

-- a frame of k + 1 guarded fields
pub frame_stacked : (t : Raise) (b : Bus) (c : Cpu) (e : ℕ) (s l : List ℕ) (f : Frame) (k q : ℕ) (x : Piece) (xs : List Piece) → pieces_of f (suc k) ≡ x ∷ xs → Guarded f (suc k) → 15 < length c.regs.dar
    → is_faulted c ≡ false → a7_of c ≡ q + offset_of f (suc k) → Room b (kind_of c) (length s) q (offset_of f (suc k)) → e + 1 + suc k < 2 ^ 32
    → push_fields t (closed b c e s l) f (suc k) ≡ stacked b c e s l q (x ∷ xs)
unfolding stacked
frame_stacked t b c e s l f k q x xs p g h j a r u =
    (rw p at (frame_closed f k t b c e s l q g h j a r u)) ∙ rw (last_kept (set_clocks c 0) x xs, a7_wdata (set_clocks c 0) q (last_value (x ∷ xs)))

module _ (t : Raise) (b : Bus) (c : Cpu) (e : ℕ) (s l : List ℕ) (q : ℕ) (regs : 15 < length c.regs.dar) (run : is_faulted c ≡ false) (u : e + 8 < 2 ^ 32) where
  -- 8 bytes: format 0 or 1
  pub short_stacked : (sr pc format : ℕ) → a7_of c ≡ q + 8 → Room b (kind_of c) (length s) q 8 → push_frame t (closed b c e s l) (short_frame sr pc format) ≡ stacked b c e s l q (short_pieces sr pc format)
  unfolding push_frame short_frame short_pieces field_at offset_of pieces_of Guarded
  short_stacked sr pc format a r =
      frame_stacked t b c e s l (short_frame sr pc format) 2 q (word_at 6 format) (long_at 2 pc ∷ word_at 0 sr ∷ []) refl (refl, (refl, (refl, tt))) regs run a r (omega arith)

  -- 12 bytes: format 2
  pub long_stacked : (sr pc format extra : ℕ) → a7_of c ≡ q + 12 → Room b (kind_of c) (length s) q 12 → push_frame t (closed b c e s l) (long_frame sr pc format extra) ≡ stacked b c e s l q (long_pieces sr pc format extra)
  unfolding push_frame long_frame long_pieces short_pieces field_at offset_of pieces_of Guarded
  long_stacked sr pc format extra a r =
      frame_stacked t b c e s l (long_frame sr pc format extra) 3 q (long_at 8 extra) (short_pieces sr pc format) refl (refl, (refl, (refl, (refl, tt)))) regs run a r (omega arith)

  -- 16 bytes: format 4
  pub disabled_stacked : (sr pc format ea extra : ℕ) → a7_of c ≡ q + 16 → Room b (kind_of c) (length s) q 16
      → push_frame t (closed b c e s l) (disabled_frame sr pc format ea extra) ≡ stacked b c e s l q (disabled_pieces sr pc format ea extra)
  unfolding push_frame disabled_frame disabled_pieces long_pieces short_pieces field_at offset_of pieces_of Guarded
  disabled_stacked sr pc format ea extra a r =
      frame_stacked t b c e s l (disabled_frame sr pc format ea extra) 4 q (long_at 12 extra) (long_pieces sr pc format ea) refl (refl, (refl, (refl, (refl, (refl, tt))))) regs run a r (omega arith)

-- pieces written one by one at A7: the frame is there
pub writes_stacked : (t : Raise) (b : Bus) (c : Cpu) (e : ℕ) (s l : List ℕ) (q n : ℕ) (x : Piece) (xs : List Piece) → is_faulted c ≡ false → Room b (kind_of c) (length s) q n → Within n (x ∷ xs)
    → e + 1 + length (x ∷ xs) < 2 ^ 32 → write_all t (closed b (set_a7 c q) e s l) q (x ∷ xs) ≡ stacked b c e s l q (x ∷ xs)
unfolding stacked
writes_stacked t b c e s l q n x xs h r w u =
    writes_closed x xs t b (set_a7 c q) e s l q n (a7_running c q ∙ h) (rw (a7_kind c q) r) w u
    ∙ rw (at_clocks c q, last_kept (set_clocks (set_a7 c q) 0) x xs, at_calm c q)

-- the 68000's 6 bytes
pub three_stacked : (t : Raise) (b : Bus) (c : Cpu) (e : ℕ) (s l : List ℕ) (q sr pc : ℕ) → 15 < length c.regs.dar → is_faulted c ≡ false → e + 8 < 2 ^ 32 → a7_of c ≡ q + 6 → Room b (kind_of c) (length s) q 6
    → push_exception_frame68000 t (closed b c e s l) pc sr ≡ stacked b c e s l q (three_pieces sr pc)
unfolding three_pieces
three_stacked t b c e s l q sr pc g h u a r =
    let top : q + 6 ≤ 2 ^ 32 = r.top in
    let z : lower_a7 c 6 ≡ set_a7 c q = lower_to c q 6 a (omega arith) (omega arith) in
    lower_step t b c e s l pc sr
    ∙ ap (λ (m : Cpu). short_writes t (closed b m e s l) (a7_of m) pc sr) z
    ∙ ap (λ (p : ℕ). short_writes t (closed b (set_a7 c q) e s l) p pc sr) (a7_set c q g)
    ∙ three_writes t (closed b (set_a7 c q) e s l) q sr pc top
    ∙ writes_stacked t b c e s l q 6 (word_at 4 (pc % 0x10000)) (word_at 0 sr ∷ word_at 2 (pc / 0x10000) ∷ []) h r (three_within sr pc) (omega arith)

-- reads that lie apart from a frame are the same before it and after it
pub landing_laid : (b : Bus) (k vbr : ℕ) (f : Bool) (s : List ℕ) (v a to at x y q n : ℕ) (ps : List Piece) → Landing b k vbr f s v a to at x y → Room b k (length s) q n → Within n ps
    → Apart q n a 4 → (f ≡ true → Apart q n at 4) → Landing b k vbr f (laid s (q - b.base) ps) v a to at x y
landing_laid b k vbr f s v a to at x y q n ps h r w d g =
    let p : ℕ = q - b.base in
    record {
      vector = h.vector;
      vector_room = rw (laid_length ps s p) h.vector_room;
      handler = laid_other ps true s p n (a - b.base) w (apart_places b.base q n a 4 r.low h.vector_room.low d) ∙ h.handler;
      queue = h.queue;
      queue_room = λ i. rw (laid_length ps s p) (h.queue_room i);
      first = λ i. laid_other ps false s p n (at - b.base) w (halves p n (at - b.base) (apart_places b.base q n at 4 r.low (h.queue_room i).low (g i))).0 ∙ h.first i;
      second = λ i. laid_other ps false s p n (at - b.base + 2) w (halves p n (at - b.base) (apart_places b.base q n at 4 r.low (h.queue_room i).low (g i))).1 ∙ h.second i;
    }

-- the jump after a frame that starts at q, with the events hs before it
pub jump_after : (t : Raise) (b : Bus) (c : Cpu) (e : ℕ) (s l : List ℕ) (n v q a to at x y : ℕ) (ps : List Piece) (hs : List Event) (m : ℕ) → Entering b c s n v q a to at x y → Within n ps
    → e + length hs + 5 < 2 ^ 32
    → jump_vector t (closed b (framed c q m) (e + length hs) (laid s (q - b.base) ps) (told e l hs)) v
    ≡ closed b (jumped (prefetch_enabled c) (framed c q m) v to x y) (e + length (hs ++ jump_events (prefetch_enabled c) a to at x y)) (laid s (q - b.base) ps) (told e l (hs ++ jump_events (prefetch_enabled c) a to at x y))
jump_after t b c e s l n v q a to at x y ps hs m h w u =
    let f : Bool = prefetch_enabled c in
    let r = landing_laid b (kind_of c) (vbr_of c) f s v a to at x y q n ps h.landing h.room w h.vector_apart h.queue_apart in
    (rw (framed_on c q m) at
    (jump_closed t b (framed c q m) (e + length hs) (laid s (q - b.base) ps) (told e l hs) v a to at x y (framed_running c q m ∙ h.running) (framed_clocks c q m)
    (rw (framed_kind c q m, framed_vbr c q m, framed_on c q m) r) u))
    ∙ joined b (jumped f (framed c q m) v to x y) e (laid s (q - b.base) ps) l hs (jump_events f a to at x y)

-- the jump right after a frame
pub jump_stacked : (t : Raise) (b : Bus) (c : Cpu) (e : ℕ) (s l : List ℕ) (n v q a to at x y : ℕ) (ps : List Piece) → Entering b c s n v q a to at x y → Within n ps → e + length ps + 6 < 2 ^ 32
    → jump_vector t (stacked b c e s l q ps) v ≡ arrived b c (clocks_of c) e s l q ps (prefetch_enabled c) v a to at x y
unfolding stacked arrived entry_events
jump_stacked t b c e s l n v q a to at x y ps h w u =
    let hs : List Event = clock_events (clocks_of c) ++ writes_of q ps in
    let few : length (clock_events (clocks_of c)) ≤ 1 = clocks_small (clocks_of c) in
    let many : length hs ≡ length (clock_events (clocks_of c)) + length ps = length-append (clock_events (clocks_of c)) (writes_of q ps) ∙ ap (λ (i : ℕ). length (clock_events (clocks_of c)) + i) (length_writes q ps) in
    jump_after t b c e s l n v q a to at x y ps hs (last_value ps) h w (omega arith)
