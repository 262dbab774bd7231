-- Frames, clocks and jumps as code writes them: one put and one event after the other; and how many events there are then.
use Prim.Native.Nat.{ℕ, ◌+◌, ◌/◌, ◌%◌, ◌^◌, ◌<◌}
use Rattle.std.specs.Prelude.{◌≡◌, Bool, ltb}
use Rattle.std.proofs.Math.Path.{refl}
use Rattle.std.proofs.Common.{◌∙◌}
use Rattle.std.proofs.Math.Bool.{true, false}
use mathlib.Core.List.{List, [], ◌∷◌, ◌++◌}
use native.Mathlib.Omega.{arith}
use Rattle.std.proofs.Math.ListN.{length, length-append}
use Rattle.types.specs.Kinds.{pick}
use Rattle.cpu.specs.declared.Cpu.{Cpu}
use Rattle.pending.specs.Interrupts.{pending_level}
use Rattle.memory.specs.declared.Bus.{Bus}
use Rattle.memory.specs.World.{response_of}
use Rattle.memory.specs.Log.{note_log}
use Rattle.memory.specs.Bytes.{put_word, put_long}
use Rattle.memory.specs.LogLaws.{Event}
use Rattle.unfaulted.specs.Closed.{event, told, laid, writes_of, clock_events, short_pieces, long_pieces, disabled_pieces, three_pieces, four_pieces, jump_events, clocks_after, events68000}
use Rattle.unfaulted.specs.Lists.{told_append}

-- ---- the bytes

module _ (s : List ℕ) (p sr pc : ℕ) (f : sr < 0x10000) where
  pub short_store : (format : ℕ) → format < 0x10000 → laid s p (short_pieces sr pc format) ≡ put_word (put_long (put_word s (p + 6) format) (p + 2) pc) p sr
  unfolding laid short_pieces
  short_store format g =
      let x : sr % 0x10000 ≡ sr = omega arith in
      let y : format % 0x10000 ≡ format = omega arith in
      let z : p + 0 ≡ p = omega arith in
      rw (x, y, z)

  pub three_store : pc < 2 ^ 32 → laid s p (three_pieces sr pc) ≡ put_word (put_word (put_word s (p + 4) (pc % 0x10000)) p sr) (p + 2) (pc / 0x10000)
  unfolding laid three_pieces
  three_store h =
      let x : sr % 0x10000 ≡ sr = omega arith in
      let y : pc % 0x10000 % 0x10000 ≡ pc % 0x10000 = omega arith in
      let u : pc / 0x10000 % 0x10000 ≡ pc / 0x10000 = omega arith in
      let z : p + 0 ≡ p = omega arith in
      rw (x, y, u, z)

  pub four_store : (format : ℕ) → pc < 2 ^ 32 → format < 0x10000
      → laid s p (four_pieces sr pc format) ≡ put_word (put_word (put_word (put_word s (p + 4) (pc % 0x10000)) p sr) (p + 2) (pc / 0x10000)) (p + 6) format
  unfolding laid four_pieces
  four_store format h g =
      let x : sr % 0x10000 ≡ sr = omega arith in
      let y : pc % 0x10000 % 0x10000 ≡ pc % 0x10000 = omega arith in
      let u : pc / 0x10000 % 0x10000 ≡ pc / 0x10000 = omega arith in
      let v : format % 0x10000 ≡ format = omega arith in
      let z : p + 0 ≡ p = omega arith in
      rw (x, y, u, v, z)

-- the longer frames begin with their further longs
module _ (s : List ℕ) (p sr pc format : ℕ) where
  pub long_store : (extra : ℕ) → laid s p (long_pieces sr pc format extra) ≡ laid (put_long s (p + 8) extra) p (short_pieces sr pc format)
  unfolding laid long_pieces
  long_store extra = refl

  pub disabled_store : (ea extra : ℕ) → laid s p (disabled_pieces sr pc format ea extra) ≡ laid (put_long (put_long s (p + 12) extra) (p + 8) ea) p (short_pieces sr pc format)
  unfolding laid disabled_pieces long_pieces
  disabled_store ea extra = refl

-- ---- the events

module _ (n : ℕ) (l : List ℕ) (q sr pc : ℕ) where
  pub short_log_lem : (format : ℕ) → told n l (writes_of q (short_pieces sr pc format)) ≡ note_log (n + 2) (note_log (n + 1) (note_log n l 3 (q + 6) format) 4 (q + 2) pc) 3 q sr
  unfolding told writes_of short_pieces
  short_log_lem format =
      let x : n + 1 + 1 ≡ n + 2 = omega arith in
      let z : q + 0 ≡ q = omega arith in
      rw (x, z)

  pub three_log : told n l (writes_of q (three_pieces sr pc)) ≡ note_log (n + 2) (note_log (n + 1) (note_log n l 3 (q + 4) (pc % 0x10000)) 3 q sr) 3 (q + 2) (pc / 0x10000)
  unfolding told writes_of three_pieces
  three_log =
      let x : n + 1 + 1 ≡ n + 2 = omega arith in
      let z : q + 0 ≡ q = omega arith in
      rw (x, z)

  pub four_log : (format : ℕ) → told n l (writes_of q (four_pieces sr pc format))
      ≡ note_log (n + 3) (note_log (n + 2) (note_log (n + 1) (note_log n l 3 (q + 4) (pc % 0x10000)) 3 q sr) 3 (q + 2) (pc / 0x10000)) 3 (q + 6) format
  unfolding told writes_of four_pieces
  four_log format =
      let x : n + 1 + 1 ≡ n + 2 = omega arith in
      let y : n + 2 + 1 ≡ n + 3 = omega arith in
      let z : q + 0 ≡ q = omega arith in
      rw (x, y, z)

  pub long_log : (format extra : ℕ) → told n l (writes_of q (long_pieces sr pc format extra)) ≡ told (n + 1) (note_log n l 4 (q + 8) extra) (writes_of q (short_pieces sr pc format))
  unfolding told writes_of long_pieces
  long_log format extra = refl

  pub disabled_log : (format ea extra : ℕ)
      → told n l (writes_of q (disabled_pieces sr pc format ea extra)) ≡ told (n + 2) (note_log (n + 1) (note_log n l 4 (q + 12) extra) 4 (q + 8) ea) (writes_of q (short_pieces sr pc format))
  unfolding told writes_of disabled_pieces long_pieces short_pieces
  disabled_log format ea extra = let x : n + 1 + 1 ≡ n + 2 = omega arith in rw x

-- clocks that wait
pub clocks_log : (n : ℕ) (l : List ℕ) (k : ℕ) → told n l (clock_events k) ≡ pick (ltb 0 k) (note_log n l 5 0 k) l
unfolding told clock_events
clocks_log n l k = go (ltb 0 k)
  where
    go : (t : Bool) → told n l (pick t (event 5 0 k ∷ []) []) ≡ pick t (note_log n l 5 0 k) l
    go true = refl
    go false = refl

pub clocks_count_lem : (k : ℕ) → length (clock_events k) ≡ pick (ltb 0 k) 1 0
unfolding clock_events
clocks_count_lem k = go (ltb 0 k)
  where
    go : (t : Bool) → length (pick t (event 5 0 k ∷ []) []) ≡ pick t 1 0
    go true = refl
    go false = refl

-- the jump, without and with a queue
module _ (n : ℕ) (l : List ℕ) (a to q x y : ℕ) where
  pub jump_log_off : told n l (jump_events false a to q x y) ≡ note_log (n + 1) (note_log n l 7 0 0) 2 a to
  unfolding told jump_events
  jump_log_off = refl

  pub jump_log_on : told n l (jump_events true a to q x y) ≡ note_log (n + 4) (note_log (n + 3) (note_log (n + 2) (note_log (n + 1) (note_log n l 7 0 0) 2 a to) 1 q x) 5 0 2) 1 (q + 2) y
  unfolding told jump_events
  jump_log_on =
      let u : n + 1 + 1 ≡ n + 2 = omega arith in
      let v : n + 2 + 1 ≡ n + 3 = omega arith in
      let w : n + 3 + 1 ≡ n + 4 = omega arith in
      rw (u, v, w)

pub jump_count_lem : (f : Bool) (a to q x y : ℕ) → length (jump_events f a to q x y) ≡ pick f 5 2
unfolding jump_events
jump_count_lem true a to q x y = refl
jump_count_lem false a to q x y = refl

pub one : (n : ℕ) (l : List ℕ) (z : Event) → told n l (z ∷ []) ≡ note_log n l z.code z.place z.value
unfolding told
one n l z = refl

-- four runs of events
four_runs : (e : ℕ) (l : List ℕ) (xs ys zs cs js : List Event) (n : ℕ) → n ≡ e + length xs
    → told e l ((((xs ++ ys) ++ zs) ++ cs) ++ js) ≡ told (n + length ys + length zs + length cs) (told (n + length ys + length zs) (told (n + length ys) (told n (told e l xs) ys) zs) cs) js
four_runs e l xs ys zs cs js n h =
    let u : e + (length xs + length ys) ≡ n + length ys = omega arith in
    let v : e + (length xs + length ys + length zs) ≡ n + length ys + length zs = omega arith in
    let w : e + (length xs + length ys + length zs + length cs) ≡ n + length ys + length zs + length cs = omega arith in
    told_append (((xs ++ ys) ++ zs) ++ cs) js e l
    ∙ rw (told_append ((xs ++ ys) ++ zs) cs e l, told_append (xs ++ ys) zs e l, told_append xs ys e l, length-append ((xs ++ ys) ++ zs) cs, length-append (xs ++ ys) zs, length-append xs ys, u, v, w, ← h)

-- an interrupt on kind 1, without and with a queue
module _ (b : Bus) (c : Cpu) (e : ℕ) (l : List ℕ) (q sr pc a to at x y n : ℕ) (h : n ≡ e + length (clock_events (clocks_after c 6))) where
  pub log68000_off : told e l (events68000 b c q sr pc false a to at x y)
      ≡ told (n + 4)
      (note_log (n + 3) (note_log (n + 2) (note_log (n + 1) (note_log n (told e l (clock_events (clocks_after c 6))) 3 (q + 4) (pc % 0x10000)) 6 (pending_level c) (response_of b (pending_level c))) 3 q sr) 3 (q + 2) (pc / 0x10000))
      (jump_events false a to at x y)
  unfolding told events68000 clock_events
  log68000_off =
      let i : ℕ = pending_level c in
      let u : n + 1 + 1 ≡ n + 2 = omega arith in
      let v : n + 2 + 1 ≡ n + 3 = omega arith in
      let w : n + 2 + 2 ≡ n + 4 = omega arith in
      four_runs e l (clock_events (clocks_after c 6)) (event 3 (q + 4) (pc % 0x10000) ∷ []) (event 6 i (response_of b i) ∷ []) (event 3 q sr ∷ event 3 (q + 2) (pc / 0x10000) ∷ []) (jump_events false a to at x y) n h
      ∙ rw (u, v, w)

  pub log68000_on : told e l (events68000 b c q sr pc true a to at x y)
      ≡ told (n + 6)
      (note_log (n + 5) (note_log (n + 4) (note_log (n + 3) (note_log (n + 2) (note_log (n + 1) (note_log n (told e l (clock_events (clocks_after c 6))) 3 (q + 4) (pc % 0x10000)) 5 0 4) 6 (pending_level c) (response_of b (pending_level c))) 5 0 4) 3 q sr) 3 (q + 2) (pc / 0x10000))
      (jump_events true a to at x y)
  unfolding told events68000 clock_events
  log68000_on =
      let i : ℕ = pending_level c in
      let u : n + 1 + 1 ≡ n + 2 = omega arith in
      let v : n + 1 + 2 ≡ n + 3 = omega arith in
      let w : n + 3 + 1 ≡ n + 4 = omega arith in
      let z : n + 4 + 1 ≡ n + 5 = omega arith in
      let k : n + 3 + 3 ≡ n + 6 = omega arith in
      four_runs e l (clock_events (clocks_after c 6)) (event 3 (q + 4) (pc % 0x10000) ∷ []) (event 5 0 4 ∷ event 6 i (response_of b i) ∷ []) (event 5 0 4 ∷ event 3 q sr ∷ event 3 (q + 2) (pc / 0x10000) ∷ []) (jump_events true a to at x y) n h
      ∙ rw (u, v, w, z, k)
