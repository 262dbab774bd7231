-- Theorems about what specs/Written defines, and what rests on them.
use Prim.Native.Nat.{ℕ, ◌+◌, ◌/◌, ◌%◌}
use Rattle.std.specs.Prelude.{◌≡◌, Bool, ltb}
use Rattle.std.proofs.Math.Path.{refl}
use Rattle.std.proofs.Common.{ap, ◌∙◌}
use Rattle.std.proofs.Math.Bool.{true, false}
use mathlib.Core.List.{List, [], ◌∷◌, ◌++◌}
use native.Mathlib.Omega.{arith}
use Rattle.std.proofs.Math.ListN.{length, length-append}
use Rattle.types.specs.Kinds.{pick}
use Rattle.cpu.specs.declared.Cpu.{Cpu}
use Rattle.cpu.specs.Clocks.{clocks_of}
use Rattle.pending.specs.Interrupts.{pending_level}
use Rattle.memory.specs.declared.Bus.{Bus}
use Rattle.memory.specs.World.{response_of}
use Rattle.memory.specs.Log.{note_log}
use Rattle.memory.specs.LogLaws.{Event}
use Rattle.unfaulted.specs.Closed.{event, told, Piece, writes_of, clock_events, jump_events, entry_events, clocks_after, other_events, events68010, events68000}
use Rattle.unfaulted.specs.Lists.{told_append, length_writes}
use Rattle.unfaulted.specs.Written.{clocks_count_lem, jump_count_lem, one}

-- a whole entry: clocks, frame, jump, each from the number of the events before it
module _ (e : ℕ) (l : List ℕ) (k q : ℕ) (ps : List Piece) (f : Bool) (a to at x y : ℕ) where
  pub entry_log : (n m : ℕ) → n ≡ e + length (clock_events k) → m ≡ n + length ps
      → told e l (entry_events k q ps f a to at x y) ≡ told m (told n (told e l (clock_events k)) (writes_of q ps)) (jump_events f a to at x y)
  unfolding entry_events
  entry_log n m h g =
      let ce : List Event = clock_events k in
      let ws : List Event = writes_of q ps in
      let z : e + (length ce + length ps) ≡ m = omega arith in
      told_append (ce ++ ws) (jump_events f a to at x y) e l ∙ rw (length-append ce ws, length_writes q ps, z, told_append ce ws e l, ← h)

  pub entry_count : length (entry_events k q ps f a to at x y) ≡ pick (ltb 0 k) 1 0 + length ps + pick f 5 2
  unfolding entry_events
  entry_count =
      rw (length-append (clock_events k ++ writes_of q ps) (jump_events f a to at x y), length-append (clock_events k) (writes_of q ps), length_writes q ps, clocks_count_lem k, jump_count_lem f a to at x y)

-- an interrupt on a kind other than 1 and 2: the acknowledge, then as an entry
module _ (b : Bus) (c : Cpu) (e : ℕ) (l : List ℕ) (q : ℕ) (ps : List Piece) (f : Bool) (a to at x y : ℕ) where
  pub other_log : told e l (other_events b c q ps f a to at x y)
      ≡ told (e + 1) (note_log e l 6 (pending_level c) (response_of b (pending_level c))) (entry_events (clocks_of c) q ps f a to at x y)
  unfolding told other_events entry_events
  other_log = refl

  pub other_count : length (other_events b c q ps f a to at x y) ≡ 1 + length (entry_events (clocks_of c) q ps f a to at x y)
  unfolding other_events entry_events
  other_count = omega arith

  -- on kind 2: clocks, the acknowledge, frame, jump
  pub log68010 : (n m : ℕ) → n ≡ e + length (clock_events (clocks_after c 12)) → m ≡ n + 1 + length ps
      → told e l (events68010 b c q ps f a to at x y)
      ≡ told m (told (n + 1) (note_log n (told e l (clock_events (clocks_after c 12))) 6 (pending_level c) (response_of b (pending_level c))) (writes_of q ps)) (jump_events f a to at x y)
  unfolding events68010
  log68010 n m h g =
      let ce : List Event = clock_events (clocks_after c 12) in
      let ack : List Event = event 6 (pending_level c) (response_of b (pending_level c)) ∷ [] in
      let ws : List Event = writes_of q ps in
      let u : e + (length ce + 1) ≡ n + 1 = omega arith in
      let z : e + (length ce + 1 + length ps) ≡ m = omega arith in
      told_append ((ce ++ ack) ++ ws) (jump_events f a to at x y) e l
      ∙ rw (length-append (ce ++ ack) ws, length-append ce ack, length_writes q ps, z, told_append (ce ++ ack) ws e l, length-append ce ack, u, told_append ce ack e l, ← h)
      (ap (λ (i : List ℕ). told m (told (n + 1) i ws) (jump_events f a to at x y)) (one n (told e l ce) (event 6 (pending_level c) (response_of b (pending_level c)))))

  pub count68010 : length (events68010 b c q ps f a to at x y) ≡ pick (ltb 0 (clocks_after c 12)) 1 0 + 1 + length ps + pick f 5 2
  unfolding events68010
  count68010 =
      let ce : List Event = clock_events (clocks_after c 12) in
      let ack : List Event = event 6 (pending_level c) (response_of b (pending_level c)) ∷ [] in
      rw (length-append ((ce ++ ack) ++ writes_of q ps) (jump_events f a to at x y), length-append (ce ++ ack) (writes_of q ps), length-append ce ack, length_writes q ps, clocks_count_lem (clocks_after c 12), jump_count_lem f a to at x y)

pub count68000 : (b : Bus) (c : Cpu) (q sr pc : ℕ) (f : Bool) (a to at x y : ℕ) → length (events68000 b c q sr pc f a to at x y) ≡ pick (ltb 0 (clocks_after c 6)) 1 0 + pick f 11 6
unfolding events68000 clock_events
count68000 b c q sr pc f a to at x y = go f
  where
    i : ℕ
    i = pending_level c

    five : (xs ys zs cs js : List Event) → length ((((xs ++ ys) ++ zs) ++ cs) ++ js) ≡ length xs + length ys + length zs + length cs + length js
    five xs ys zs cs js = rw (length-append (((xs ++ ys) ++ zs) ++ cs) js, length-append ((xs ++ ys) ++ zs) cs, length-append (xs ++ ys) zs, length-append xs ys)

    go : (f : Bool) → length (events68000 b c q sr pc f a to at x y) ≡ pick (ltb 0 (clocks_after c 6)) 1 0 + pick f 11 6
    go true =
        five (clock_events (clocks_after c 6)) (event 3 (q + 4) (pc % 0x10000) ∷ []) (event 5 0 4 ∷ event 6 i (response_of b i) ∷ []) (event 5 0 4 ∷ event 3 q sr ∷ event 3 (q + 2) (pc / 0x10000) ∷ []) (jump_events true a to at x y)
        ∙ rw (clocks_count_lem (clocks_after c 6), jump_count_lem true a to at x y) (omega arith)
    go false =
        five (clock_events (clocks_after c 6)) (event 3 (q + 4) (pc % 0x10000) ∷ []) (event 6 i (response_of b i) ∷ []) (event 3 q sr ∷ event 3 (q + 2) (pc / 0x10000) ∷ []) (jump_events false a to at x y)
        ∙ rw (clocks_count_lem (clocks_after c 6), jump_count_lem false a to at x y) (omega arith)
