-- The words in which an entry is told in full where nothing is refused and nothing faults: which events are logged, which bytes are laid
-- into the store, and what must be known of the numbers before.
use Rattle.std.specs.Prelude.{ℕ, ◌+◌, ◌-◌, ◌*◌, ◌/◌, ◌%◌, ◌^◌, ◌≤◌, ◌<◌, ◌≡◌, Bool, true, false, List, [], ◌∷◌, ◌++◌, eqb, ltb, length}
use Rattle.types.specs.Kinds.{pick, is_pre68020, mask_address}
use Rattle.cpu.specs.declared.Cpu.{Cpu}
use Rattle.cpu.specs.Fields.{kind_of, vbr_of, a7_of, is_faulted, set_a7, set_wdata, set_pc, start_vector}
use Rattle.cpu.specs.Clocks.{prefetch_enabled, clocks_of, set_clocks, first_word, second_word}
use Rattle.memory.specs.declared.Bus.{Bus}
use Rattle.memory.specs.Log.{note_log, with_events}
use Rattle.memory.specs.Bytes.{get_word, get_long}
use Rattle.memory.specs.World.{World, width_of, response_of}
use Rattle.memory.specs.Runs.{Apart}
use Rattle.memory.specs.ByteLaws.{put}
use Rattle.memory.specs.LogLaws.{Event}
use Rattle.memory.specs.AccessLaws.{write_code, kept}
use Rattle.pending.specs.Interrupts.{pending_level, clear_level}
use Rattle.steps.specs.Steps.{enter_level, close_interrupt}
use Rattle.formats.specs.Formats.{format_word, offset_word}

-- the world of bus b after e events, with record c, store s and log l
unfoldable pub closed : Bus → Cpu → ℕ → List ℕ → List ℕ → World
closed b c e s l = record { core = record { cpu = c; bus = with_events b e }; store = s; log = l }

-- an event: its code, its address and its value
abbrev pub event : ℕ → ℕ → ℕ → Event
event code a v = record { code = code; place = a; value = v }

-- the log l after these events, the first of which is event number e
unfoldable pub told : ℕ → List ℕ → List Event → List ℕ
told e l [] = l
told e l (x ∷ xs) = told (e + 1) (note_log e l x.code x.place x.value) xs

-- a value at an offset from the start of a frame: a long or a word
pub record Piece : Type 0 where
  pub offset : ℕ
  pub long : Bool
  pub value : ℕ

abbrev pub word_at : ℕ → ℕ → Piece
word_at o v = record { offset = o; long = false; value = v }

abbrev pub long_at : ℕ → ℕ → Piece
long_at o v = record { offset = o; long = true; value = v }

-- the store s after these pieces, in this order, of a frame that starts at place p
unfoldable pub laid : List ℕ → ℕ → List Piece → List ℕ
laid s p [] = s
laid s p (x ∷ xs) = laid (put x.long s (p + x.offset) (kept x.long x.value)) p xs

-- the events of these writes, in a frame that starts at address q
unfoldable pub writes_of : ℕ → List Piece → List Event
writes_of q [] = []
writes_of q (x ∷ xs) = event (write_code x.long) (q + x.offset) x.value ∷ writes_of q xs

-- the record keeps the data of the write last tried
unfoldable pub last_of : Cpu → List Piece → Cpu
last_of c [] = c
last_of c (x ∷ xs) = last_of (set_wdata c x.value) xs

-- the event of k clocks that wait: none where no clock waits
unfoldable pub clock_events : ℕ → List Event
clock_events k = pick (ltb 0 k) (event 5 0 k ∷ []) []

-- the n bytes from the even address a on are in a store of len bytes that no window covers, and the mask of kind k leaves their addresses as
-- they are
pub record Room (b : Bus) (k len a n : ℕ) : Type 0 where
  pub windows : b.windows ≡ 0
  pub even : a % 2 ≡ 0
  pub some : 0 < n
  pub low : b.base ≤ a
  pub high : a + n ≤ b.base + len
  pub top : a + n ≤ 2 ^ 32
  pub last : mask_address k (a + n - 1) ≡ a + n - 1

-- each piece starts at an even offset and ends within n bytes
unfoldable pub Within : ℕ → List Piece → Type 0
Within n [] = Unit {0}
Within n (x ∷ xs) = (x.offset % 2 ≡ 0) × (x.offset + width_of x.long ≤ n) × Within n xs

-- the events of a jump: the release, the vector's long at a, and where words are fetched the first, 2 clocks, and the second
unfoldable pub jump_events : Bool → ℕ → ℕ → ℕ → ℕ → ℕ → List Event
jump_events fetches a to q x y = event 7 0 0 ∷ event 2 a to ∷ pick fetches (event 1 q x ∷ event 5 0 2 ∷ event 1 (q + 2) y ∷ []) []

-- the record after a jump: vector v kept, PC at the handler, and the two words in the queue where they are fetched
unfoldable pub jumped : Bool → Cpu → ℕ → ℕ → ℕ → ℕ → Cpu
jumped fetches c v to x y = pick fetches (second_word (first_word (set_pc (start_vector c v) to) (x % 0x10000)) (y % 0x10000)) (set_pc (start_vector c v) to)

-- the jump to vector v reads its long at a, which says `to`, and where words are fetched x and y at q
pub record Landing (b : Bus) (k vbr : ℕ) (fetches : Bool) (s : List ℕ) (v a to q x y : ℕ) : Type 0 where
  pub vector : mask_address k ((v % 0x40000000 * 4 + vbr) % 2 ^ 32) ≡ a
  pub vector_room : Room b k (length s) a 4
  pub handler : get_long s (a - b.base) ≡ to
  pub queue : fetches ≡ true → mask_address k to ≡ q
  pub queue_room : fetches ≡ true → Room b k (length s) q 4
  pub first : fetches ≡ true → get_word s (q - b.base) ≡ x
  pub second : fetches ≡ true → get_word s (q - b.base + 2) ≡ y

-- the value of the last piece
unfoldable pub last_value : List Piece → ℕ
last_value [] = 0
last_value (x ∷ []) = x.value
last_value (x ∷ y ∷ zs) = last_value (y ∷ zs)

-- the world after a frame at q: the clocks that waited are told first, A7 is q, and the data of the last write is kept
unfoldable pub stacked : Bus → Cpu → ℕ → List ℕ → List ℕ → ℕ → List Piece → World
stacked b c e s l q ps =
    closed b (set_wdata (set_a7 (set_clocks c 0) q) (last_value ps)) (e + length (clock_events (clocks_of c) ++ writes_of q ps)) (laid s (q - b.base) ps)
    (told e l (clock_events (clocks_of c) ++ writes_of q ps))

-- the pieces of the frames of exceptions that are no errors, in the order of their writes: format 0 or 1, 2, 4; the 68000's three words;
-- the four words of an interrupt on the 68010
unfoldable pub short_pieces : ℕ → ℕ → ℕ → List Piece
short_pieces sr pc format = word_at 6 format ∷ long_at 2 pc ∷ word_at 0 sr ∷ []

unfoldable pub long_pieces : ℕ → ℕ → ℕ → ℕ → List Piece
long_pieces sr pc format extra = long_at 8 extra ∷ short_pieces sr pc format

unfoldable pub disabled_pieces : ℕ → ℕ → ℕ → ℕ → ℕ → List Piece
disabled_pieces sr pc format ea extra = long_at 12 extra ∷ long_pieces sr pc format ea

unfoldable pub three_pieces : ℕ → ℕ → List Piece
three_pieces sr pc = word_at 4 (pc % 0x10000) ∷ word_at 0 sr ∷ word_at 2 (pc / 0x10000) ∷ []

unfoldable pub four_pieces : ℕ → ℕ → ℕ → List Piece
four_pieces sr pc format = word_at 4 (pc % 0x10000) ∷ word_at 0 sr ∷ word_at 2 (pc / 0x10000) ∷ word_at 6 format ∷ []

-- what an entry with a frame of n bytes at q asks: the record c, in supervisor state, is not faulted, its A7 is the end of the frame, nothing
-- refuses the frame or the reads of the jump, and these lie apart from the frame
pub record Entering (b : Bus) (c : Cpu) (s : List ℕ) (n v q a to at x y : ℕ) : Type 0 where
  pub running : is_faulted c ≡ false
  pub registers : 15 < length c.regs.dar
  pub stack : a7_of c ≡ q + n
  pub room : Room b (kind_of c) (length s) q n
  pub landing : Landing b (kind_of c) (vbr_of c) (prefetch_enabled c) s v a to at x y
  pub vector_apart : Apart q n a 4
  pub queue_apart : prefetch_enabled c ≡ true → Apart q n at 4

-- all events of an entry: k clocks that waited, the frame, the jump
unfoldable pub entry_events : ℕ → ℕ → List Piece → Bool → ℕ → ℕ → ℕ → ℕ → ℕ → List Event
entry_events k q ps fetches a to at x y = (clock_events k ++ writes_of q ps) ++ jump_events fetches a to at x y

-- the world after the frame and the jump, from a record c in supervisor state with k clocks to tell
unfoldable pub arrived : Bus → Cpu → ℕ → ℕ → List ℕ → List ℕ → ℕ → List Piece → Bool → ℕ → ℕ → ℕ → ℕ → ℕ → ℕ → World
arrived b c k e s l q ps fetches v a to at x y =
    closed b (jumped fetches (set_wdata (set_a7 (set_clocks c 0) q) (last_value ps)) v to x y) (e + length (entry_events k q ps fetches a to at x y))
    (laid s (q - b.base) ps) (told e l (entry_events k q ps fetches a to at x y))

-- the clocks that wait after n more: none is added without a queue
unfoldable pub clocks_after : Cpu → ℕ → ℕ
clocks_after c n = pick (prefetch_enabled c) ((clocks_of c + n) % 2 ^ 32) (clocks_of c)

-- the short frame of kind k: its bytes and its pieces
unfoldable pub short_bytes : ℕ → ℕ
short_bytes k = pick (eqb k 1) 6 8

unfoldable pub short_of : ℕ → ℕ → ℕ → ℕ → List Piece
short_of k sr pc format = pick (eqb k 1) (three_pieces sr pc) (short_pieces sr pc format)

-- the frame of a group 2 exception: format 2 with the instruction's own address from the 68020 on
unfoldable pub group2_bytes : ℕ → ℕ
group2_bytes k = pick (is_pre68020 k) (short_bytes k) 12

unfoldable pub group2_of : ℕ → ℕ → ℕ → ℕ → ℕ → List Piece
group2_of k sr pc ppc v = pick (is_pre68020 k) (short_of k sr pc (offset_word v)) (long_pieces sr pc (format_word 2 v) ppc)

-- the world after an interrupt of a level with the frame ps at q, the events es in all
unfoldable pub interrupted : Bus → Cpu → ℕ → ℕ → List ℕ → List ℕ → ℕ → List Piece → List Event → Bool → ℕ → ℕ → ℕ → ℕ → World
interrupted b c level e s l q ps es fetches v to x y =
    closed b (clear_level (close_interrupt (jumped fetches (set_wdata (set_a7 (set_clocks (enter_level c level) 0) q) (last_value ps)) v to x y))) (e + length es)
    (laid s (q - b.base) ps) (told e l es)

-- the events of an interrupt on a kind other than 1 and 2: the acknowledge, the clocks that wait, the frame, the jump
unfoldable pub other_events : Bus → Cpu → ℕ → List Piece → Bool → ℕ → ℕ → ℕ → ℕ → ℕ → List Event
other_events b c q ps fetches a to at x y =
    (event 6 (pending_level c) (response_of b (pending_level c)) ∷ (clock_events (clocks_of c) ++ writes_of q ps)) ++ jump_events fetches a to at x y

-- on kind 2: the clocks that wait with 12 more, the acknowledge, the frame, the jump
unfoldable pub events68010 : Bus → Cpu → ℕ → List Piece → Bool → ℕ → ℕ → ℕ → ℕ → ℕ → List Event
events68010 b c q ps fetches a to at x y =
    ((clock_events (clocks_after c 12) ++ (event 6 (pending_level c) (response_of b (pending_level c)) ∷ [])) ++ writes_of q ps) ++ jump_events fetches a to at x y

-- on kind 1: the clocks that wait with 6 more, PC low, 4 clocks, the acknowledge, 4 clocks, the status, PC high, the jump
unfoldable pub events68000 : Bus → Cpu → ℕ → ℕ → ℕ → Bool → ℕ → ℕ → ℕ → ℕ → ℕ → List Event
events68000 b c q sr pc fetches a to at x y =
    (((clock_events (clocks_after c 6) ++ (event 3 (q + 4) (pc % 0x10000) ∷ [])) ++ (clock_events (pick fetches 4 0) ++ (event 6 (pending_level c) (response_of b (pending_level c)) ∷ [])))
    ++ (clock_events (pick fetches 4 0) ++ (event 3 q sr ∷ event 3 (q + 2) (pc / 0x10000) ∷ []))) ++ jump_events fetches a to at x y
