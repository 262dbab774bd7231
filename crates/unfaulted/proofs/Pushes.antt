-- Theorems about what specs/Pushes defines, and what rests on them.
use Rattle.std.specs.Prelude.{ℕ, zero, suc, ◌+◌, ◌-◌, ◌^◌, ◌≤◌, ◌<◌, ◌≡◌, false, List, [], ◌∷◌, ◌++◌, length}
use Rattle.std.proofs.Common.{sym, ap, ◌∙◌, arith}
use Rattle.cpu.specs.declared.Cpu.{Cpu}
use Rattle.cpu.specs.Fields.{kind_of, a7_of, is_faulted, set_wdata, set_a7}
use Rattle.cpu.specs.Clocks.{has_clocks, clocks_of, set_clocks}
use Rattle.memory.specs.declared.Bus.{Bus}
use Rattle.memory.specs.Log.{note_log}
use Rattle.memory.specs.World.{World}
use Rattle.memory.specs.ByteLaws.{put}
use Rattle.memory.proofs.ByteLaws.{put_length}
use Rattle.memory.specs.LogLaws.{Event}
use Rattle.memory.specs.AccessLaws.{write_code, kept}
use Rattle.frames.specs.declared.Field.{Field}
use Rattle.frames.specs.declared.Frame.{Frame}
use Rattle.frames.specs.Frames.{field_at}
use Rattle.access.specs.Access.{Raise, push_fields}
use Rattle.unfaulted.specs.Closed.{closed, told, Piece, laid, writes_of, last_of, clock_events, Room, Within}
use Rattle.unfaulted.specs.Lists.{length_writes, clocks_small}
use Rattle.unfaulted.specs.Accesses.{write_flush, calm_has, still_running}
use Rattle.unfaulted.proofs.Accesses.{write_closed}
use Rattle.unfaulted.specs.Pushes.{write_all, wdata_running, wdata_clocks, wdata_kind, joined, calm_kind, offset_of, pieces_of, Guarded, offset_even, length_pieces, a7_own, a7_running, a7_clocks, a7_kind, a7_wdata, field_written, wdata_registers, clocks_registers, field_flush}

-- where no clock waits
pub writes_calm : (ps : List Piece) (t : Raise) (b : Bus) (c : Cpu) (e : ℕ) (s l : List ℕ) (q n : ℕ) → is_faulted c ≡ false → has_clocks c ≡ false → Room b (kind_of c) (length s) q n
    → Within n ps → e + length ps < 2 ^ 32
    → write_all t (closed b c e s l) q ps ≡ closed b (last_of c ps) (e + length ps) (laid s (q - b.base) ps) (told e l (writes_of q ps))
unfolding write_all Within last_of laid writes_of told
writes_calm [] t b c e s l q n h k r w u = let z : e + 0 ≡ e = omega arith in rw z
writes_calm (x ∷ xs) t b c e s l q n h k r w u =
    let s' : List ℕ = put x.long s (q - b.base + x.offset) (kept x.long x.value) in
    let l' : List ℕ = note_log e l (write_code x.long) (q + x.offset) x.value in
    let z : e + 1 + length xs ≡ e + suc (length xs) = omega arith in
    ap (λ (y : World). write_all t y q xs) (write_closed t b c e s l q n x.offset x.long x.value h k r w.0 w.1 (omega arith))
    ∙ writes_calm xs t b (set_wdata c x.value) (e + 1) s' l' q n (wdata_running c x.value ∙ h) (wdata_clocks c x.value ∙ k)
    (rw (put_length x.long s (q - b.base + x.offset) (kept x.long x.value), wdata_kind c x.value) r) w.2 (omega arith)
    ∙ rw z

-- where clocks may wait: they are told before the first write
pub writes_closed : (x : Piece) (xs : List Piece) (t : Raise) (b : Bus) (c : Cpu) (e : ℕ) (s l : List ℕ) (q n : ℕ) → is_faulted c ≡ false → Room b (kind_of c) (length s) q n
    → Within n (x ∷ xs) → e + 1 + length (x ∷ xs) < 2 ^ 32
    → write_all t (closed b c e s l) q (x ∷ xs)
    ≡ closed b (last_of (set_clocks c 0) (x ∷ xs)) (e + length (clock_events (clocks_of c) ++ writes_of q (x ∷ xs))) (laid s (q - b.base) (x ∷ xs)) (told e l (clock_events (clocks_of c) ++ writes_of q (x ∷ xs)))
unfolding write_all
writes_closed x xs t b c e s l q n h r w u =
    let ce : List Event = clock_events (clocks_of c) in
    let few : length ce ≤ 1 = clocks_small (clocks_of c) in
    ap (λ (y : World). write_all t y q xs) (write_flush t b c e s l (q + x.offset) x.long x.value h (omega arith))
    ∙ writes_calm (x ∷ xs) t b (set_clocks c 0) (e + length ce) s (told e l ce) q n (still_running c 0 ∙ h) (calm_has c) (rw (calm_kind c 0) r) w (omega arith)
    ∙ ap (λ (k : ℕ). closed b (last_of (set_clocks c 0) (x ∷ xs)) (e + length ce + k) (laid s (q - b.base) (x ∷ xs)) (told (e + length ce) (told e l ce) (writes_of q (x ∷ xs)))) (sym (length_writes q (x ∷ xs)))
    ∙ joined b (last_of (set_clocks c 0) (x ∷ xs)) e (laid s (q - b.base) (x ∷ xs)) l ce (writes_of q (x ∷ xs))

-- the first k fields, where no clock waits
fields_calm : (f : Frame) (k : ℕ) (t : Raise) (b : Bus) (c : Cpu) (e : ℕ) (s l : List ℕ) (q n : ℕ) → Guarded f k → 15 < length c.regs.dar → is_faulted c ≡ false → has_clocks c ≡ false
    → Room b (kind_of c) (length s) q n → offset_of f k ≤ n → e + k < 2 ^ 32
    → push_fields t (closed b (set_a7 c (q + offset_of f k)) e s l) f k ≡ closed b (set_a7 (last_of c (pieces_of f k)) q) (e + k) (laid s (q - b.base) (pieces_of f k)) (told e l (writes_of q (pieces_of f k)))
unfolding push_fields offset_of pieces_of Guarded last_of laid writes_of told
fields_calm f zero t b c e s l q n d h j k r w u = let y : q + 0 ≡ q = omega arith in let z : e + 0 ≡ e = omega arith in rw (y, z)
fields_calm f (suc i) t b c e s l q n d h j k r w u =
    let x : Field = field_at f i in
    let o : ℕ = offset_of f i in
    let s' : List ℕ = put x.long s (q - b.base + o) (kept x.long x.value) in
    let l' : List ℕ = note_log e l (write_code x.long) (q + o) x.value in
    let z : e + 1 + i ≡ e + suc i = omega arith in
    ap (λ (y : World). push_fields t y f i)
    (field_written t b c e s l x q n o d.0 h r.top w
    ∙ write_closed t b (set_a7 c (q + o)) e s l q n o x.long x.value (a7_running c (q + o) ∙ j) (a7_clocks c (q + o) ∙ k) (rw (a7_kind c (q + o)) r) (offset_even f i) w (omega arith)
    ∙ ap (λ (m : Cpu). closed b m (e + 1) s' l') (a7_wdata c (q + o) x.value))
    ∙ fields_calm f i t b (set_wdata c x.value) (e + 1) s' l' q n d.1 (wdata_registers c x.value h) (wdata_running c x.value ∙ j) (wdata_clocks c x.value ∙ k)
    (rw (put_length x.long s (q - b.base + o) (kept x.long x.value), wdata_kind c x.value) r) (omega arith) (omega arith)
    ∙ rw z

-- a frame of guarded fields into n bytes that nothing refuses, from A7 at their end: A7 at their start, the clocks that wait told first
pub frame_closed : (f : Frame) (k : ℕ) (t : Raise) (b : Bus) (c : Cpu) (e : ℕ) (s l : List ℕ) (q : ℕ) → Guarded f (suc k) → 15 < length c.regs.dar → is_faulted c ≡ false
    → a7_of c ≡ q + offset_of f (suc k) → Room b (kind_of c) (length s) q (offset_of f (suc k)) → e + 1 + suc k < 2 ^ 32
    → push_fields t (closed b c e s l) f (suc k)
    ≡ closed b (set_a7 (last_of (set_clocks c 0) (pieces_of f (suc k))) q) (e + length (clock_events (clocks_of c) ++ writes_of q (pieces_of f (suc k)))) (laid s (q - b.base) (pieces_of f (suc k))) (told e l (clock_events (clocks_of c) ++ writes_of q (pieces_of f (suc k))))
unfolding push_fields offset_of Guarded
frame_closed f k t b c e s l q d h j a r u =
    let ce : List Event = clock_events (clocks_of c) in
    let few : length ce ≤ 1 = clocks_small (clocks_of c) in
    let ps : List Piece = pieces_of f (suc k) in
    let n : ℕ = offset_of f (suc k) in
    let x : Field = field_at f k in
    let m : Cpu = set_a7 (last_of (set_clocks c 0) ps) q in
    let s' : List ℕ = laid s (q - b.base) ps in
    ap (λ (y : Cpu). push_fields t (closed b y e s l) f (suc k)) (sym (a7_own c (q + n) a))
    ∙ ap (λ (y : World). push_fields t y f k) (field_flush t b c e s l x q n (offset_of f k) d.0 h j r.top (omega arith) (omega arith))
    ∙ fields_calm f (suc k) t b (set_clocks c 0) (e + length ce) s (told e l ce) q n d (clocks_registers c 0 h) (still_running c 0 ∙ j) (calm_has c) (rw (calm_kind c 0) r) (omega arith) (omega arith)
    ∙ ap (λ (i : ℕ). closed b m (e + length ce + i) s' (told (e + length ce) (told e l ce) (writes_of q ps))) (sym (length_writes q ps ∙ length_pieces f (suc k)))
    ∙ joined b m e s' l ce (writes_of q ps)
