-- Theorems about what specs/LogLaws defines, and what rests on them.
use Rattle.std.specs.Prelude.{ℕ, suc, ◌+◌, ◌*◌, ◌%◌, ◌^◌, ◌≤◌, ◌<◌, ◌≡◌, Bool, true, false, List, [], ◌∷◌, ◌++◌, ltb, length, get_or, set, drop, take}
use Rattle.std.proofs.Math.Path.{refl}
use Rattle.std.proofs.Common.{◌∙◌, add-one, lt-ltb, le-ltb, length-append, length-drop, take_at, drop-drop}
use native.Mathlib.Omega.{arith}
use Rattle.std.proofs.Math.Numerals.{add-two}
use Rattle.std.proofs.lemmas.List.Edits.{sets, sets-eq}
use Rattle.std.proofs.Math.Seq.{length-sets, drop-append-add}
use Rattle.types.specs.Kinds.{pick}
use Rattle.cpu.specs.Clocks.{has_clocks, clocks_of, set_clocks}
use Rattle.memory.specs.Log.{note_log, counted}
use Rattle.memory.specs.World.{World, noted, with_cpu, put_cpu, flush, release, response_of, acknowledged}
use Rattle.memory.specs.Runs.{Outside, sets_keeps, sets_holds}
use Rattle.memory.specs.LogLaws.{Event, Logged, Spells, replay, spell, words}

-- without room for its three words an event is not written
pub note_full : (n : ℕ) (l : List ℕ) (c a v : ℕ) → length l ≤ n * 3 + 2 → note_log n l c a v ≡ l
unfolding note_log
note_full n l c a v h = rw (le-ltb (n * 3 + 2) (length l) h)

-- with room it is stored word by word from word 3n on
pub note_words : (n : ℕ) (l : List ℕ) (c a v : ℕ) → n * 3 + 2 < length l → note_log n l c a v ≡ sets l (n * 3) (words c a v)
unfolding note_log
note_words n l c a v h = rw (lt-ltb (n * 3 + 2) (length l) h, add-one, add-two)

-- a property that the log has with the event and without it
note_ways : (P : List ℕ → Type 0) (n : ℕ) (l : List ℕ) (c a v : ℕ) → P l → P (sets l (n * 3) (words c a v)) → P (note_log n l c a v)
unfolding note_log
note_ways P n l c a v x y = go (ltb (n * 3 + 2) (length l))
  where
    go : (t : Bool) → P (pick t (set (set (set l (n * 3) c) (n * 3 + 1) a) (n * 3 + 2) v) l)
    go true = rw (add-one, add-two) y
    go false = x

-- the log keeps its length
pub note_length : (n : ℕ) (l : List ℕ) (c a v : ℕ) → length (note_log n l c a v) ≡ length l
note_length n l c a v = note_ways (λ m. length m ≡ length l) n l c a v refl (length-sets l (n * 3) (words c a v))

-- words outside the event stay
pub note_keeps : (n : ℕ) (l : List ℕ) (c a v i : ℕ) → Outside (n * 3) 3 i → get_or (note_log n l c a v) i 0 ≡ get_or l i 0
note_keeps n l c a v i h = note_ways (λ m. get_or m i 0 ≡ get_or l i 0) n l c a v refl (sets_keeps (words c a v) l (n * 3) i h)

-- the three words of the event: code, address, value
pub note_holds : (n : ℕ) (l : List ℕ) (c a v i : ℕ) → n * 3 + 2 < length l → i < 3 → get_or (note_log n l c a v) (n * 3 + i) 0 ≡ get_or (words c a v) i 0
note_holds n l c a v i h k = rw note_words (sets_holds (words c a v) l (n * 3) i k (omega arith))

pub note_code : (n : ℕ) (l : List ℕ) (c a v : ℕ) → n * 3 + 2 < length l → get_or (note_log n l c a v) (n * 3) 0 ≡ c
note_code n l c a v h = let e : n * 3 + 0 ≡ n * 3 = omega arith in rw e at (note_holds n l c a v 0 h (omega arith))

pub note_place : (n : ℕ) (l : List ℕ) (c a v : ℕ) → n * 3 + 2 < length l → get_or (note_log n l c a v) (n * 3 + 1) 0 ≡ a
note_place n l c a v h = note_holds n l c a v 1 h (omega arith)

pub note_value : (n : ℕ) (l : List ℕ) (c a v : ℕ) → n * 3 + 2 < length l → get_or (note_log n l c a v) (n * 3 + 2) 0 ≡ v
note_value n l c a v h = note_holds n l c a v 2 h (omega arith)

-- three words an event
pub length_spell : (es : List Event) → length (spell es) ≡ length es * 3
unfolding spell
length_spell [] = refl
length_spell (e ∷ es) = length-append (spell es) _ ∙ (let h : length (spell es) ≡ length es * 3 = length_spell es in omega arith)

-- an event is three words after those before it
note_room : (n : ℕ) (p l : List ℕ) (c a v : ℕ) → length p ≡ n * 3 → 3 ≤ length l → note_log n (p ++ l) c a v ≡ (p ++ words c a v) ++ drop 3 l
note_room n p l c a v e h =
    let room : n * 3 + 3 ≤ length (p ++ l) = simp length-append (omega arith) in
    let front : take (n * 3) (p ++ l) ≡ p = take_at p l (n * 3) e in
    let back : drop (n * 3 + 3) (p ++ l) ≡ drop 3 l = rw (← e) (drop-append-add p l 3) in
    note_words n (p ++ l) c a v (omega arith) ∙ sets-eq (words c a v) (p ++ l) (n * 3) room ∙ rw (front, back)

-- after n events the log is the words of these events and then what it held
pub replay_spell : (l : List ℕ) (es : List Event) → length es * 3 ≤ length l → length es < 2 ^ 32 → replay l es ≡ spell es ++ drop (length es * 3) l
unfolding replay spell
replay_spell l [] h k = refl
replay_spell l (e ∷ es) h k =
    let low : length es % 2 ^ 32 ≡ length es = omega arith in
    let room : 3 ≤ length (drop (length es * 3) l) = simp length-drop (omega arith) in
    let next : length es * 3 + 3 ≡ suc (length es) * 3 = omega arith in
    rw (low, replay_spell l es (omega arith) (omega arith), note_room (length es) (spell es) (drop (length es * 3) l) e.code e.place e.value (length_spell es) room, drop-drop, next)

-- one event more
pub spells_more : (l : List ℕ) (es : List Event) (w x : World) (c a v : ℕ) → Spells l es w → Logged w x c a v → Spells l (record { code = c; place = a; value = v } ∷ es) x
unfolding counted replay
spells_more l es w x c a v p q = record { count = rw q.bus (let e = p.count in omega arith); log = rw (q.log, p.count, p.log) }

-- so after n events the log of a world says these events and then what it held
pub spells_words : (l : List ℕ) (es : List Event) (w : World) → Spells l es w → length es * 3 ≤ length l → length es < 2 ^ 32 → w.log ≡ spell es ++ drop (length es * 3) l
spells_words l es w p h k = p.log ∙ replay_spell l es h k

-- `noted` logs its event
pub noted_one : (w : World) (c a v : ℕ) → Logged w (noted w c a v) c a v
unfolding noted
noted_one w c a v = record { log = refl; bus = refl }

-- an event keeps the length of the log
pub logged_length : (w x : World) (c a v : ℕ) → Logged w x c a v → length x.log ≡ length w.log
logged_length w x c a v p = rw p.log (note_length w.core.bus.events w.log c a v)

-- no clocks, no event
pub flush_none : (w : World) → has_clocks w.core.cpu ≡ false → flush w ≡ w
unfolding flush
flush_none w h = rw h

-- clocks that wait: one event with code 5, address 0 and the clocks; the record has no clocks then, and is else the same
pub flush_one : (w : World) → has_clocks w.core.cpu ≡ true → Logged w (flush w) 5 0 (clocks_of w.core.cpu) × ((flush w).core.cpu ≡ set_clocks w.core.cpu 0)
unfolding flush noted put_cpu
flush_one w h = rw h (record { log = refl; bus = refl }, refl)

-- after a flush no clocks wait
pub flush_clears : (w : World) → has_clocks (flush w).core.cpu ≡ false
unfolding flush noted put_cpu set_clocks has_clocks
flush_clears w = go (has_clocks w.core.cpu) refl
  where
    go : (t : Bool) → has_clocks w.core.cpu ≡ t → has_clocks (pick t (noted (with_cpu w (set_clocks w.core.cpu 0)) 5 0 (clocks_of w.core.cpu)) w).core.cpu ≡ false
    go true h = refl
    go false h = h

-- a flush keeps the store
pub flush_store : (w : World) → (flush w).store ≡ w.store
unfolding flush noted
flush_store w = go (has_clocks w.core.cpu)
  where
    go : (t : Bool) → (pick t (noted (with_cpu w (set_clocks w.core.cpu 0)) 5 0 (clocks_of w.core.cpu)) w).store ≡ w.store
    go true = refl
    go false = refl

-- release: one event with code 7, address 0, value 0; store and record are kept
pub release_one : (w : World) → Logged w (release w) 7 0 0 × ((release w).store ≡ w.store) × ((release w).core.cpu ≡ w.core.cpu)
unfolding release noted
release_one w = (record { log = refl; bus = refl }, refl, refl)

module _ (w : World) (level : ℕ) where
  -- acknowledge: one event with code 6, the level, and the answer; store and record are kept
  pub acknowledge_one : Logged w (acknowledged w level).after 6 level (acknowledged w level).value × ((acknowledged w level).after.store ≡ w.store) × ((acknowledged w level).after.core.cpu ≡ w.core.cpu)
  unfolding acknowledged noted
  acknowledge_one = (record { log = refl; bus = refl }, refl, refl)

  -- the answer is the level's own response
  pub acknowledge_response : level < 8 → (acknowledged w level).value ≡ get_or w.core.bus.responses level 0
  unfolding acknowledged response_of
  acknowledge_response h = let e : level % 8 ≡ level = omega arith in rw e
