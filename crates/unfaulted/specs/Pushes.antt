-- Frames whose writes nothing refuses: A7 at the start of the frame, its pieces in the store, its events in the log.
use Rattle.std.specs.Prelude.{ℕ, zero, suc, ◌+◌, ◌-◌, ◌%◌, ◌^◌, ◌≤◌, ◌<◌, ◌≡◌, Bool, true, false, List, [], ◌∷◌, ◌++◌, length}
use Rattle.std.proofs.Math.Path.{refl}
use Rattle.std.proofs.Common.{sym, ap, ◌∙◌, arith, length-append, get_or-set_same, set-set}
use Rattle.std.proofs.lemmas.List.{set-get_or}
use Rattle.cpu.specs.declared.Cpu.{Cpu}
use Rattle.cpu.specs.Fields.{kind_of, a7_of, is_faulted, set_wdata, set_a7, lower_a7, minus32}
use Rattle.cpu.specs.Clocks.{has_clocks, clocks_of, set_clocks}
use Rattle.memory.specs.declared.Bus.{Bus}
use Rattle.memory.specs.World.{World, put_cpu, width_of}
use Rattle.memory.specs.LogLaws.{Event}
use Rattle.frames.specs.declared.Field.{Field}
use Rattle.frames.specs.declared.Frame.{Frame}
use Rattle.frames.specs.declared.Mode.{Mode}
use Rattle.frames.specs.declared.Mode.TheVariants.{Raw, Counted}
use Rattle.frames.specs.Frames.{guards, counts, goes_raw, is_guarded, field_at, is_counted, is_raw}
use Rattle.access.specs.Access.{Raise, write_at, stack_field, push_field}
use Rattle.unfaulted.specs.Closed.{closed, told, Piece, clock_events, Within}
use Rattle.unfaulted.specs.Lists.{told_append}
use Rattle.unfaulted.specs.Accesses.{write_flush}

-- ---- writes in a row

-- the pieces written one after the other into a frame that starts at address q
unfoldable pub write_all : Raise → World → ℕ → List Piece → World
write_all t w q [] = w
write_all t w q (x ∷ xs) = write_all t (write_at t w (q + x.offset) x.long x.value) q xs

pub wdata_running : (c : Cpu) (v : ℕ) → is_faulted (set_wdata c v) ≡ is_faulted c
unfolding is_faulted set_wdata
wdata_running c v = refl

pub wdata_clocks : (c : Cpu) (v : ℕ) → has_clocks (set_wdata c v) ≡ has_clocks c
unfolding has_clocks set_wdata
wdata_clocks c v = refl

pub wdata_kind : (c : Cpu) (v : ℕ) → kind_of (set_wdata c v) ≡ kind_of c
unfolding kind_of set_wdata
wdata_kind c v = refl

-- some events, then others
pub joined : (b : Bus) (c : Cpu) (e : ℕ) (s l : List ℕ) (xs ys : List Event) → closed b c (e + length xs + length ys) s (told (e + length xs) (told e l xs) ys) ≡ closed b c (e + length (xs ++ ys)) s (told e l (xs ++ ys))
joined b c e s l xs ys =
    let z : e + length xs + length ys ≡ e + (length xs + length ys) = omega arith in
    rw (told_append xs ys e l, length-append xs ys, z)

pub calm_kind : (c : Cpu) (n : ℕ) → kind_of (set_clocks c n) ≡ kind_of c
unfolding kind_of set_clocks
calm_kind c n = refl

-- ---- frames

-- the bytes before field k of a frame
unfoldable pub offset_of : Frame → ℕ → ℕ
offset_of f zero = 0
offset_of f (suc k) = offset_of f k + width_of (field_at f k).long

-- the first k fields as they are pushed, from the last of them down
unfoldable pub pieces_of : Frame → ℕ → List Piece
pieces_of f zero = []
pieces_of f (suc k) = record { offset = offset_of f k; long = (field_at f k).long; value = (field_at f k).value } ∷ pieces_of f k

-- the first k fields are written by guarded accesses
unfoldable pub Guarded : Frame → ℕ → Type 0
Guarded f zero = Unit {0}
Guarded f (suc k) = (is_guarded (field_at f k) ≡ true) × Guarded f k

pub offset_even : (f : Frame) (k : ℕ) → offset_of f k % 2 ≡ 0
unfolding offset_of
offset_even f zero = refl
offset_even f (suc k) = go (field_at f k).long (offset_even f k)
  where
    go : (g : Bool) → offset_of f k % 2 ≡ 0 → (offset_of f k + width_of g) % 2 ≡ 0
    go true e = omega arith
    go false e = omega arith

-- a frame's pieces lie within its bytes
pub pieces_within : (f : Frame) (k n : ℕ) → offset_of f k ≤ n → Within n (pieces_of f k)
unfolding offset_of pieces_of Within
pieces_within f zero n h = tt
pieces_within f (suc k) n h = (offset_even f k, h, pieces_within f k n (omega arith))

pub length_pieces : (f : Frame) (k : ℕ) → length (pieces_of f k) ≡ k
unfolding pieces_of
length_pieces f zero = refl
length_pieces f (suc k) = ap (λ (n : ℕ). suc n) (length_pieces f k)

-- A7 lowered by d from a + d is a
pub lower_to : (c : Cpu) (a d : ℕ) → a7_of c ≡ a + d → d < 2 ^ 32 → a < 2 ^ 32 → lower_a7 c d ≡ set_a7 c a
unfolding lower_a7 minus32
lower_to c a d h k l = let z : (a + d + (2 ^ 32 - d % 2 ^ 32)) % 2 ^ 32 ≡ a = omega arith in rw (h, z)

pub a7_set : (c : Cpu) (a : ℕ) → 15 < length c.regs.dar → a7_of (set_a7 c a) ≡ a
unfolding a7_of set_a7
a7_set c a h = get_or-set_same c.regs.dar 15 a 0 h

a7_twice : (c : Cpu) (a d : ℕ) → set_a7 (set_a7 c a) d ≡ set_a7 c d
unfolding set_a7
a7_twice c a d = rw (set-set c.regs.dar 15 a d)

-- a record whose A7 is a is itself with A7 at a
pub a7_own : (c : Cpu) (a : ℕ) → a7_of c ≡ a → set_a7 c a ≡ c
unfolding set_a7 a7_of
a7_own c a e = rw (← e) (rw (set-get_or c.regs.dar 15 0))

module _ (c : Cpu) (a : ℕ) where
  pub a7_running : is_faulted (set_a7 c a) ≡ is_faulted c
  unfolding is_faulted set_a7
  a7_running = refl

  pub a7_clocks : has_clocks (set_a7 c a) ≡ has_clocks c
  unfolding has_clocks set_a7
  a7_clocks = refl

  pub a7_kind : kind_of (set_a7 c a) ≡ kind_of c
  unfolding kind_of set_a7
  a7_kind = refl

  pub a7_wdata : (v : ℕ) → set_wdata (set_a7 c a) v ≡ set_a7 (set_wdata c v) a
  unfolding set_wdata set_a7
  a7_wdata v = refl

push_step : (t : Raise) (b : Bus) (c : Cpu) (e : ℕ) (s l : List ℕ) (x : Field) → push_field t (closed b c e s l) x ≡ stack_field t (closed b (lower_a7 c (width_of x.long)) e s l) x
unfolding push_field closed put_cpu
push_step t b c e s l x = refl

guarded_apart : (m : Mode) → guards m ≡ true → (counts m ≡ false) × (goes_raw m ≡ false)
guarded_apart Mode.Guarded h = (refl, refl)
guarded_apart Raw h = let z : ◌≡◌ {A = ℕ} 0 1 = cc in absurd (omega arith)
guarded_apart Counted h = let z : ◌≡◌ {A = ℕ} 0 1 = cc in absurd (omega arith)

stack_guarded : (t : Raise) (b : Bus) (c : Cpu) (e : ℕ) (s l : List ℕ) (x : Field) (a : ℕ) → is_guarded x ≡ true → a7_of c ≡ a → stack_field t (closed b c e s l) x ≡ write_at t (closed b c e s l) a x.long x.value
unfolding stack_field is_counted is_raw closed
stack_guarded t b c e s l x a h k = let g : (counts x.mode ≡ false) × (goes_raw x.mode ≡ false) = guarded_apart x.mode h in rw (g.0, g.1, k)

width_small : (g : Bool) → width_of g < 2 ^ 32
width_small true = omega arith
width_small false = omega arith

width_positive : (g : Bool) → 0 < width_of g
width_positive true = omega arith
width_positive false = omega arith

-- one field: A7 goes from q + (o + d) to q + o, and the field is written there
pub field_written : (t : Raise) (b : Bus) (c : Cpu) (e : ℕ) (s l : List ℕ) (x : Field) (q n o : ℕ) → is_guarded x ≡ true → 15 < length c.regs.dar → q + n ≤ 2 ^ 32 → o + width_of x.long ≤ n
    → push_field t (closed b (set_a7 c (q + (o + width_of x.long))) e s l) x ≡ write_at t (closed b (set_a7 c (q + o)) e s l) (q + o) x.long x.value
field_written t b c e s l x q n o h k u w =
    let d : ℕ = width_of x.long in
    let some : 0 < d = width_positive x.long in
    let y : Cpu = set_a7 c (q + (o + d)) in
    let z : lower_a7 y d ≡ set_a7 c (q + o) = lower_to y (q + o) d (a7_set c (q + (o + d)) k ∙ omega arith) (width_small x.long) (omega arith) ∙ a7_twice c (q + (o + d)) (q + o) in
    push_step t b y e s l x ∙ ap (λ (m : Cpu). stack_field t (closed b m e s l) x) z ∙ stack_guarded t b (set_a7 c (q + o)) e s l x (q + o) h (a7_set c (q + o) k)

pub wdata_registers : (c : Cpu) (v : ℕ) → 15 < length c.regs.dar → 15 < length (set_wdata c v).regs.dar
unfolding set_wdata
wdata_registers c v h = h

pub clocks_registers : (c : Cpu) (v : ℕ) → 15 < length c.regs.dar → 15 < length (set_clocks c v).regs.dar
unfolding set_clocks
clocks_registers c v h = h

-- a write at A7 syncs first
flushed : (t : Raise) (b : Bus) (c : Cpu) (a e : ℕ) (s l : List ℕ) (g : Bool) (v : ℕ) → is_faulted c ≡ false → e + 1 < 2 ^ 32
    → write_at t (closed b (set_a7 c a) e s l) a g v ≡ write_at t (closed b (set_a7 (set_clocks c 0) a) (e + length (clock_events (clocks_of c))) s (told e l (clock_events (clocks_of c)))) a g v
unfolding set_a7 set_clocks clocks_of is_faulted
flushed t b c a e s l g v h u = write_flush t b (set_a7 c a) e s l a g v h u

-- a field syncs first
pub field_flush : (t : Raise) (b : Bus) (c : Cpu) (e : ℕ) (s l : List ℕ) (x : Field) (q n o : ℕ) → is_guarded x ≡ true → 15 < length c.regs.dar → is_faulted c ≡ false → q + n ≤ 2 ^ 32 → o + width_of x.long ≤ n
    → e + 1 < 2 ^ 32
    → push_field t (closed b (set_a7 c (q + (o + width_of x.long))) e s l) x
    ≡ push_field t (closed b (set_a7 (set_clocks c 0) (q + (o + width_of x.long))) (e + length (clock_events (clocks_of c))) s (told e l (clock_events (clocks_of c)))) x
field_flush t b c e s l x q n o h k j u w v =
    let ce : List Event = clock_events (clocks_of c) in
    field_written t b c e s l x q n o h k u w
    ∙ flushed t b c (q + o) e s l x.long x.value j v
    ∙ sym (field_written t b (set_clocks c 0) (e + length ce) s (told e l ce) x q n o h (clocks_registers c 0 k) u w)
