-- The gist of a world: all but the queue, the clocks, the fault fields, the log and the count of events. An access that nothing
-- refuses does to it what its name says, and no trigger stands in what it does.
use Rattle.std.specs.Prelude.{ℕ, zero, suc, ◌+◌, ◌-◌, ◌%◌, ◌^◌, ◌<◌, ◌≡◌, Bool, true, false, List, [], eqb, length}
use Rattle.std.proofs.Math.Path.{refl}
use Rattle.std.proofs.Common.{sym, ap, ◌∙◌, arith, length-set, get_or-set_same, set-set}
use Rattle.std.proofs.lemmas.List.{set-get_or}
use Rattle.types.specs.Kinds.{pick, is_pre68020, mask_address}
use Rattle.cpu.specs.declared.Cpu.{Cpu}
use Rattle.cpu.specs.Fields.{kind_of, a7_of, address_of, is_faulted, checks_alignment, set_wdata, set_a7, lower_a7, minus32}
use Rattle.cpu.specs.Clocks.{has_clocks, clocks_of, set_clocks}
use Rattle.memory.specs.declared.Bus.{Bus}
use Rattle.memory.specs.Log.{counted}
use Rattle.memory.specs.Served.{served_of, place_of}
use Rattle.memory.specs.World.{World, world, noted, stored, with_cpu, put_cpu, width_of, served, written, flush, raw_write, try_write, cpu_of}
use Rattle.memory.specs.Bytes.{put_word, put_long}
use Rattle.memory.specs.ByteLaws.{put}
use Rattle.memory.proofs.ByteLaws.{put_length}
use Rattle.memory.specs.AccessLaws.{kept}
use Rattle.frames.specs.declared.Field.{Field}
use Rattle.frames.specs.declared.Frame.{Frame}
use Rattle.frames.specs.Frames.{field_at, is_counted, is_raw}
use Rattle.steps.specs.Steps.{refuses_odd}
use Rattle.access.specs.Access.{Raise, wrote, checked_write, write_at, stack_field, push_field, push_fields, push_frame}
use Rattle.images.specs.Pushes.{calm, served_calm, laid_field}
use Rattle.images.specs.Images.{Sound, Allowed, frame_bytes, field_address, laid, new_a7, minus_minus, minus_plus}

-- ---- the gist

unfoldable pub gist_cpu : Cpu → Cpu
gist_cpu c =
    record {
      regs = c.regs;
      flow = c.flow;
      flags = c.flags;
      queue = record { prefetch_queue = []; prefetch_count = 0; pending_sync_clocks = 0; precise_bus = c.queue.precise_bus };
      fault = record { instruction_exception_vector = record { some = false; value = 0 }; last_exception_vector = record { some = false; value = 0 }; pending_fault_cause = 0; mmu_fc_override = c.fault.mmu_fc_override; pending_fault_wdata = 0 };
      fault_resume = record { some = false; pc = 0; sr = 0; dar = [] };
    }

unfoldable pub gist : World → World
gist w = world (record { cpu = gist_cpu (cpu_of w); bus = calm w.core.bus }) w.store []

-- the gist is its own
pub gist_gist : (w : World) → gist (gist w) ≡ gist w
unfolding gist gist_cpu calm
gist_gist w = refl

-- what is served is the same
pub served_gist : (w : World) (a : ℕ) (g : Bool) → served (gist w) a g ≡ served w a g
unfolding gist served
served_gist w a g = served_calm w.core.bus (length w.store) a (width_of g)

-- the world with a value of width g at address a
abbrev pub wrote_at : World → ℕ → Bool → ℕ → World
wrote_at x a g v = stored x (put g x.store (place_of x.core.bus a) (kept g v))

-- A7 is q
abbrev pub at7 : World → ℕ → World
at7 x q = with_cpu x (set_a7 (cpu_of x) q)

-- ---- accesses

pub flush_gist : (w : World) → gist (flush w) ≡ gist w
unfolding flush noted put_cpu set_clocks gist gist_cpu calm counted
flush_gist w = go (has_clocks (cpu_of w))
  where
    go : (t : Bool) → gist (pick t (noted (with_cpu w (set_clocks w.core.cpu 0)) 5 0 (clocks_of w.core.cpu)) w) ≡ gist w
    go true = refl
    go false = refl

pub raw_gist : (w : World) (a : ℕ) (g : Bool) (v : ℕ) → served w a g ≡ true → gist (raw_write w a g v) ≡ wrote_at (gist w) a g v
unfolding raw_write noted stored gist gist_cpu calm counted written place_of
raw_gist w a g v h = rw h (go g)
  where
    go : (d : Bool) → gist (noted (stored w (pick d (put_long w.store (place_of w.core.bus a) v) (put_word w.store (place_of w.core.bus a) (v % 0x10000)))) (pick g 4 3) a v) ≡ stored (gist w) (put d w.store (place_of w.core.bus a) (kept d v))
    go true = refl
    go false = refl

checked_gist : (t : Raise) (y : World) (a : ℕ) (g : Bool) (v : ℕ) → refuses_odd (cpu_of (gist y)) a ≡ false → served (gist y) a g ≡ true → gist (checked_write t y a g v) ≡ wrote_at (gist y) a g v
unfolding checked_write wrote try_write served put_cpu set_wdata gist gist_cpu refuses_odd checks_alignment stored
checked_gist t y a g v o s =
    let z : World = with_cpu y (set_wdata (cpu_of y) v) in
    let d : served z a g ≡ true = sym (served_gist z a g) ∙ s in
    rw (o, d) (raw_gist z a g v d)

guard_is : (t : Raise) (w : World) (a p : ℕ) (g : Bool) (v : ℕ) → is_faulted (cpu_of w) ≡ false → address_of (cpu_of (flush w)) a ≡ p → write_at t w a g v ≡ checked_write t (flush w) p g v
unfolding write_at
guard_is t w a p g v h m = rw (h, m)

-- the address of an access depends on the gist
pub address_gist : (w : World) (a : ℕ) → address_of (cpu_of (gist w)) a ≡ address_of (cpu_of w) a
unfolding gist gist_cpu address_of
address_gist w a = refl

pub faulted_gist : (w : World) → is_faulted (cpu_of (gist w)) ≡ is_faulted (cpu_of w)
unfolding gist gist_cpu is_faulted
faulted_gist w = refl

-- a guarded write that nothing refuses
pub guard_form : (t : Raise) (w x : World) (a p : ℕ) (g : Bool) (v : ℕ) → gist w ≡ x → is_faulted (cpu_of x) ≡ false → address_of (cpu_of x) a ≡ p → refuses_odd (cpu_of x) p ≡ false
    → served x p g ≡ true → gist (write_at t w a g v) ≡ wrote_at x p g v
guard_form t w x a p g v e h m o s =
    let f : gist (flush w) ≡ x = flush_gist w ∙ e in
    ap gist (guard_is t w a p g v (sym (faulted_gist w) ∙ ap (λ (y : World). is_faulted (cpu_of y)) e ∙ h) (sym (address_gist (flush w) a) ∙ ap (λ (y : World). address_of (cpu_of y) a) f ∙ m))
    ∙ checked_gist t (flush w) p g v (ap (λ (y : World). refuses_odd (cpu_of y) p) f ∙ o) (ap (λ (y : World). served y p g) f ∙ s)
    ∙ ap (λ (y : World). wrote_at y p g v) f

pub a7_gist : (w : World) → a7_of (cpu_of w) ≡ a7_of (cpu_of (gist w))
unfolding gist gist_cpu a7_of
a7_gist w = refl

-- a raw write that is served
pub raw_form : (w x : World) (a : ℕ) (g : Bool) (v : ℕ) → gist w ≡ x → served x a g ≡ true → gist (raw_write w a g v) ≡ wrote_at x a g v
raw_form w x a g v e s = raw_gist w a g v (sym (served_gist w a g) ∙ ap (λ (y : World). served y a g) e ∙ s) ∙ ap (λ (y : World). wrote_at y a g v) e

-- ---- pushes

-- the world with a field at place p
abbrev pub laid_world : World → ℕ → Field → World
laid_world x p f = stored x (laid_field x.store p f)

-- one field of a frame at A7 as it stands
field_form : (t : Raise) (w x : World) (f : Field) (a : ℕ) → gist w ≡ x → address_of (cpu_of x) (a7_of (cpu_of x)) ≡ a → is_faulted (cpu_of x) ≡ false
    → (is_counted f ≡ false → served x a f.long ≡ true) → (is_counted f ≡ false → is_raw f ≡ false → refuses_odd (cpu_of x) a ≡ false)
    → gist (stack_field t w f) ≡ laid_world x (place_of x.core.bus a) f
unfolding stack_field laid_field stored
field_form t w x f a e m h s o = go (is_counted f) (is_raw f) s o
  where
    top : a7_of (cpu_of w) ≡ a7_of (cpu_of x)
    top = a7_gist w ∙ ap (λ (y : World). a7_of (cpu_of y)) e

    spot : address_of (cpu_of w) (a7_of (cpu_of w)) ≡ a
    spot = sym (address_gist w (a7_of (cpu_of w))) ∙ ap (λ (y : World). address_of (cpu_of y) (a7_of (cpu_of w))) e ∙ ap (λ (q : ℕ). address_of (cpu_of x) q) top ∙ m

    go : (c r : Bool) → (c ≡ false → served x a f.long ≡ true) → (c ≡ false → r ≡ false → refuses_odd (cpu_of x) a ≡ false)
        → gist (pick c w (pick r (raw_write w (address_of (cpu_of w) (a7_of (cpu_of w))) f.long f.value) (write_at t w (a7_of (cpu_of w)) f.long f.value)))
        ≡ stored x (pick c x.store (put f.long x.store (place_of x.core.bus a) (kept f.long f.value)))
    go true r s o = e
    go false true s o = rw spot (raw_form w x a f.long f.value e (s refl))
    go false false s o = guard_form t w x (a7_of (cpu_of w)) a f.long f.value e h (ap (λ (q : ℕ). address_of (cpu_of x) q) top ∙ m) (o refl refl) (s refl)

at7_at7 : (x : World) (p q : ℕ) → at7 (at7 x p) q ≡ at7 x q
unfolding set_a7 put_cpu
at7_at7 x p q = rw (set-set (cpu_of x).regs.dar 15 p q)

at7_same : (x : World) (q : ℕ) → a7_of (cpu_of x) ≡ q → at7 x q ≡ x
unfolding set_a7 put_cpu a7_of
at7_same x q e = rw (← e) (rw (set-get_or (cpu_of x).regs.dar 15 0))

pub a7_at7 : (x : World) (q : ℕ) → 15 < length (cpu_of x).regs.dar → a7_of (cpu_of (at7 x q)) ≡ q
unfolding set_a7 put_cpu a7_of
a7_at7 x q h = get_or-set_same (cpu_of x).regs.dar 15 q 0 h

lower_gist : (w : World) (n : ℕ) → gist (with_cpu w (lower_a7 (cpu_of w) n)) ≡ at7 (gist w) (minus32 (a7_of (cpu_of (gist w))) n)
unfolding gist gist_cpu lower_a7 set_a7 put_cpu a7_of
lower_gist w n = refl

pub lower_form : (w x : World) (n : ℕ) → gist w ≡ x → gist (with_cpu w (lower_a7 (cpu_of w) n)) ≡ at7 x (minus32 (a7_of (cpu_of x)) n)
lower_form w x n e = lower_gist w n ∙ ap (λ (y : World). at7 y (minus32 (a7_of (cpu_of y)) n)) e

-- tests that A7 does not change
module _ (x : World) (q : ℕ) where
  pub at7_address : (a : ℕ) → address_of (cpu_of (at7 x q)) a ≡ address_of (cpu_of x) a
  unfolding set_a7 put_cpu address_of
  at7_address a = refl

  pub at7_faulted : is_faulted (cpu_of (at7 x q)) ≡ is_faulted (cpu_of x)
  unfolding set_a7 put_cpu is_faulted
  at7_faulted = refl

  pub at7_odd : (a : ℕ) → refuses_odd (cpu_of (at7 x q)) a ≡ refuses_odd (cpu_of x) a
  unfolding set_a7 put_cpu refuses_odd checks_alignment
  at7_odd a = refl

  pub at7_served : (a : ℕ) (g : Bool) → served (at7 x q) a g ≡ served x a g
  unfolding put_cpu served
  at7_served a g = refl

  pub at7_laid : (p : ℕ) (f : Field) → laid_world (at7 x q) p f ≡ at7 (laid_world x p f) q
  unfolding put_cpu stored
  at7_laid p f = refl

-- one push: A7 is lowered by the width and the field laid there
push_form : (t : Raise) (w x : World) (f : Field) (a : ℕ) → gist w ≡ x → 15 < length (cpu_of x).regs.dar → is_faulted (cpu_of x) ≡ false
    → address_of (cpu_of x) (minus32 (a7_of (cpu_of x)) (width_of f.long)) ≡ a → (is_counted f ≡ false → served x a f.long ≡ true)
    → (is_counted f ≡ false → is_raw f ≡ false → refuses_odd (cpu_of x) a ≡ false)
    → gist (push_field t w f) ≡ at7 (laid_world x (place_of x.core.bus a) f) (minus32 (a7_of (cpu_of x)) (width_of f.long))
unfolding push_field put_cpu
push_form t w x f a e l h m s o =
    let n : ℕ = width_of f.long in
    let q : ℕ = minus32 (a7_of (cpu_of x)) n in
    let y : World = with_cpu w (lower_a7 (cpu_of w) n) in
    field_form t y (at7 x q) f a (lower_form w x n e) (at7_address x q (a7_of (cpu_of (at7 x q))) ∙ ap (λ (p : ℕ). address_of (cpu_of x) p) (a7_at7 x q l) ∙ m) (at7_faulted x q ∙ h)
    (λ c. at7_served x q a f.long ∙ s c) (λ c r. at7_odd x q a ∙ o c r)
    ∙ at7_laid x q (place_of x.core.bus a) f

minus_none : (a : ℕ) → a < 2 ^ 32 → minus32 a 0 ≡ a
unfolding minus32
minus_none a h = omega arith

pub minus_below : (a n : ℕ) → minus32 a n < 2 ^ 32
unfolding minus32
minus_below a n = omega arith

address_of_lem : (x : World) (f : Frame) (k kd q n : ℕ) → kind_of (cpu_of x) ≡ kd → minus32 (a7_of (cpu_of x)) (frame_bytes f k + n) ≡ q → address_of (cpu_of x) (minus32 (a7_of (cpu_of x)) n) ≡ field_address kd q f k
unfolding field_address address_of kind_of
address_of_lem x f k kd q n e d =
    ap (λ (z : ℕ). mask_address z (minus32 (a7_of (cpu_of x)) n)) e
    ∙ ap (λ (z : ℕ). mask_address kd z) (sym (minus_plus (a7_of (cpu_of x)) n (frame_bytes f k)))
    ∙ ap (λ (z : ℕ). mask_address kd ((z + frame_bytes f k) % 2 ^ 32)) d

served_at : (x : World) (b : Bus) (len a : ℕ) (g : Bool) → x.core.bus ≡ b → length x.store ≡ len → served_of b len a (width_of g) ≡ true → served x a g ≡ true
unfolding served
served_at x b len a g e l h = rw (e, l) h

even_at : (x : World) (kd a : ℕ) → kind_of (cpu_of x) ≡ kd → pick (is_pre68020 kd) (eqb (a % 2) 1) false ≡ false → refuses_odd (cpu_of x) a ≡ false
unfolding refuses_odd checks_alignment kind_of
even_at x kd a e h = rw e h

laid_field_length : (s : List ℕ) (p : ℕ) (f : Field) → length (laid_field s p f) ≡ length s
unfolding laid_field
laid_field_length s p f = go (is_counted f)
  where
    go : (c : Bool) → length (pick c s (put f.long s p (kept f.long f.value))) ≡ length s
    go true = refl
    go false = put_length f.long s p (kept f.long f.value)

pushed_sound : (x : World) (p q : ℕ) (f : Field) → q < 2 ^ 32 → Sound (cpu_of x) → Sound (cpu_of (at7 (laid_world x p f) q))
unfolding set_a7 put_cpu stored is_faulted a7_of
pushed_sound x p q f l h =
    record { running = h.running; regs16 = simp length-set h.regs16; a7_fits = rw (get_or-set_same (cpu_of x).regs.dar 15 q 0 h.regs16) l }

pushed_kind : (x : World) (p q : ℕ) (f : Field) → kind_of (cpu_of (at7 (laid_world x p f) q)) ≡ kind_of (cpu_of x)
unfolding set_a7 put_cpu stored kind_of
pushed_kind x p q f = refl

pushed_bus : (x : World) (p q : ℕ) (f : Field) → (at7 (laid_world x p f) q).core.bus ≡ x.core.bus
unfolding put_cpu stored
pushed_bus x p q f = refl

pushed_a7 : (x : World) (p q : ℕ) (f : Field) → 15 < length (cpu_of x).regs.dar → a7_of (cpu_of (at7 (laid_world x p f) q)) ≡ q
unfolding set_a7 put_cpu stored a7_of
pushed_a7 x p q f h = get_or-set_same (cpu_of x).regs.dar 15 q 0 h

pushed_store : (x : World) (p q r : ℕ) (f : Field) (s : List ℕ) → at7 (stored (at7 (laid_world x p f) q) s) r ≡ at7 (stored x s) r
unfolding stored
pushed_store x p q r f s = at7_at7 (stored x s) q r

stored_same : (x : World) (q : ℕ) → at7 x q ≡ at7 (stored x x.store) q
unfolding stored
stored_same x q = refl

-- the first k fields of a frame, pushed
fields_form : (t : Raise) (f : Frame) (k : ℕ) (w x : World) (b : Bus) (len kd q : ℕ) → gist w ≡ x → Sound (cpu_of x) → x.core.bus ≡ b → length x.store ≡ len → kind_of (cpu_of x) ≡ kd
    → minus32 (a7_of (cpu_of x)) (frame_bytes f k) ≡ q → Allowed b len kd q f k → gist (push_fields t w f k) ≡ at7 (stored x (laid b kd q x.store f k)) q
unfolding push_fields frame_bytes laid stored
fields_form t f zero w x b len kd q e h eb el ek eq l = e ∙ sym (at7_same x q (sym (minus_none (a7_of (cpu_of x)) h.a7_fits) ∙ eq)) ∙ stored_same x q
fields_form t f (suc k) w x b len kd q e h eb el ek eq l =
    let g : Field = field_at f k in
    let n : ℕ = width_of g.long in
    let a : ℕ = field_address kd q f k in
    let r : ℕ = minus32 (a7_of (cpu_of x)) n in
    let p : ℕ = place_of x.core.bus a in
    let y : World = at7 (laid_world x p g) r in
    let d : gist (push_field t w g) ≡ y = push_form t w x g a e h.regs16 h.running (address_of_lem x f k kd q n ek eq)
    (λ c. served_at x b len a g.long eb el (l.serves k (omega arith) c)) (λ c u. even_at x kd a ek (l.even k (omega arith) c u)) in
    fields_form t f k (push_field t w g) y b len kd q d (pushed_sound x p r g (minus_below (a7_of (cpu_of x)) n) h) (pushed_bus x p r g ∙ eb) (laid_field_length x.store p g ∙ el) (pushed_kind x p r g ∙ ek)
    (ap (λ (z : ℕ). minus32 z (frame_bytes f k)) (pushed_a7 x p r g h.regs16) ∙ minus_minus (a7_of (cpu_of x)) n (frame_bytes f k) ∙ eq)
    (record { serves = λ i j. l.serves i (omega arith); even = λ i j. l.even i (omega arith) })
    ∙ pushed_store x p r q g (laid b kd q y.store f k)
    ∙ ap (λ (z : Bus). at7 (stored x (laid b kd q (laid_field x.store (place_of z a) g) f k)) q) eb

-- the world with a frame on its stack: A7 lowered by its length, its fields laid upward from there
unfoldable pub framed_by : World → Frame → World
framed_by x f = at7 (stored x (laid x.core.bus (kind_of (cpu_of x)) (new_a7 x f) x.store f f.count)) (new_a7 x f)

-- a frame whose accesses are all served, whatever a fault would raise
pub stacked_form : (t : Raise) (w x : World) (f : Frame) → gist w ≡ x → Sound (cpu_of x) → Allowed x.core.bus (length x.store) (kind_of (cpu_of x)) (new_a7 x f) f f.count
    → gist (push_frame t w f) ≡ framed_by x f
unfolding push_frame framed_by
stacked_form t w x f e s l = fields_form t f f.count w x x.core.bus (length x.store) (kind_of (cpu_of x)) (new_a7 x f) e s refl refl refl refl l
