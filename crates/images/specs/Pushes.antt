-- What one field of a frame leaves when its access is served: registers, flow and windows as they were, and its bytes.
use Rattle.std.specs.Prelude.{ℕ, zero, suc, ◌%◌, ◌≡◌, refl, Bool, true, false, List, eqb}
use Rattle.std.proofs.Common.{sym, ap, ◌∙◌}
use Rattle.types.specs.Kinds.{pick, is_pre68020, mask_address}
use Rattle.cpu.specs.declared.Flow.{Flow}
use Rattle.cpu.specs.Fields.{a7_of, address_of, is_faulted, checks_alignment, set_wdata}
use Rattle.cpu.specs.Clocks.{has_clocks, clocks_of, set_clocks}
use Rattle.memory.specs.declared.Bus.{Bus}
use Rattle.memory.specs.Log.{counted}
use Rattle.memory.specs.Served.{meets, clear_of, windows_in_use, in_store, served_of, place_of}
use Rattle.memory.specs.World.{World, noted, stored, with_cpu, put_cpu, width_of, served, written, flush, raw_write, try_write, cpu_of}
use Rattle.memory.specs.ByteLaws.{put}
use Rattle.memory.specs.AccessLaws.{kept}
use Rattle.memory.proofs.AccessLaws.{write_store}
use Rattle.frames.specs.declared.Field.{Field}
use Rattle.frames.specs.Frames.{is_counted, is_raw}
use Rattle.steps.specs.Steps.{refuses_odd}
use Rattle.access.specs.Access.{Raise, wrote, checked_write, write_at, stack_field}

-- a bus with its events not counted: base, windows and responses
unfoldable pub calm : Bus → Bus
calm b = record { base = b.base; windows = b.windows; starts = b.starts; lengths = b.lengths; responses = b.responses; events = 0 }

clear_calm : (b : Bus) (k a n : ℕ) → clear_of (calm b) k a n ≡ clear_of b k a n
unfolding clear_of meets calm
clear_calm b zero a n = refl
clear_calm b (suc k) a n = rw (clear_calm b k a n)

-- what is served does not depend on the events
pub served_calm : (b : Bus) (len a n : ℕ) → served_of (calm b) len a n ≡ served_of b len a n
unfolding served_of in_store windows_in_use calm
served_calm b len a n = rw (clear_calm b (windows_in_use b) a n)

-- nor does the place of an address
pub place_calm : (b : Bus) (a : ℕ) → place_of (calm b) a ≡ place_of b a
unfolding place_of calm
place_calm b a = refl

pub served_same : (b d : Bus) (len a n : ℕ) → calm b ≡ calm d → served_of b len a n ≡ served_of d len a n
served_same b d len a n e = sym (served_calm b len a n) ∙ ap (λ (x : Bus). served_of x len a n) e ∙ served_calm d len a n

pub place_same : (b d : Bus) (a : ℕ) → calm b ≡ calm d → place_of b a ≡ place_of d a
place_same b d a e = sym (place_calm b a) ∙ ap (λ (x : Bus). place_of x a) e ∙ place_calm d a

-- flow (kind, run mode, PC), registers, precise bus and windows are the same
pub record Kept (w x : World) : Type 0 where
  pub flow : (cpu_of x).flow ≡ (cpu_of w).flow
  pub regs : (cpu_of x).regs ≡ (cpu_of w).regs
  pub precise : (cpu_of x).queue.precise_bus ≡ (cpu_of w).queue.precise_bus
  pub bus : calm x.core.bus ≡ calm w.core.bus

pub kept_trans : {w x y : World} → Kept w x → Kept x y → Kept w y
kept_trans p q = record { flow = q.flow ∙ p.flow; regs = q.regs ∙ p.regs; precise = q.precise ∙ p.precise; bus = q.bus ∙ p.bus }

-- the same, and the store is s
pub record Left (w x : World) (s : List ℕ) : Type 0 where
  pub same : Kept w x
  pub store : x.store ≡ s

-- a sync stores nothing
pub flush_left : (w : World) → Left w (flush w) w.store
unfolding flush noted put_cpu set_clocks calm counted
flush_left w = go (has_clocks (cpu_of w))
  where
    go : (t : Bool) → Left w (pick t (noted (with_cpu w (set_clocks w.core.cpu 0)) 5 0 (clocks_of w.core.cpu)) w) w.store
    go true = record { same = record { flow = refl; regs = refl; precise = refl; bus = refl }; store = refl }
    go false = record { same = record { flow = refl; regs = refl; precise = refl; bus = refl }; store = refl }

raw_kept : (w : World) (a : ℕ) (g : Bool) (v : ℕ) → Kept w (raw_write w a g v)
unfolding raw_write noted stored calm counted
raw_kept w a g v = go (served w a g)
  where
    go : (t : Bool) → Kept w (pick t (noted (stored w (written w a g v)) (pick g 4 3) a v) (noted w (pick g 20 19) a v))
    go true = record { flow = refl; regs = refl; precise = refl; bus = refl }
    go false = record { flow = refl; regs = refl; precise = refl; bus = refl }

-- the store with a value of width g at address a
abbrev pub with_value : World → ℕ → Bool → ℕ → List ℕ
with_value w a g v = put g w.store (place_of w.core.bus a) (kept g v)

-- a served raw write leaves its bytes
pub raw_left : (w : World) (a : ℕ) (g : Bool) (v : ℕ) → served w a g ≡ true → Left w (raw_write w a g v) (with_value w a g v)
raw_left w a g v h = record { same = raw_kept w a g v; store = write_store w a g v ∙ rw h }

-- a guarded write that nothing refuses is a raw one with the data kept
checked_is : (t : Raise) (w : World) (a : ℕ) (g : Bool) (v : ℕ) → refuses_odd (cpu_of w) a ≡ false → served w a g ≡ true
    → checked_write t w a g v ≡ raw_write (with_cpu w (set_wdata (cpu_of w) v)) a g v
unfolding checked_write wrote try_write served put_cpu
checked_is t w a g v h s = rw (h, s)

checked_left : (t : Raise) (w : World) (a : ℕ) (g : Bool) (v : ℕ) → refuses_odd (cpu_of w) a ≡ false → served w a g ≡ true
    → Left w (checked_write t w a g v) (with_value w a g v)
unfolding served put_cpu set_wdata
checked_left t w a g v h s =
    rw (checked_is t w a g v h s)
    (let r = raw_left (with_cpu w (set_wdata (cpu_of w) v)) a g v s in
    record { same = record { flow = r.same.flow; regs = r.same.regs; precise = r.same.precise; bus = r.same.bus }; store = r.store })

-- a guarded write that nothing refuses leaves its bytes
pub guard_left : (t : Raise) (w : World) (a : ℕ) (g : Bool) (v : ℕ) → is_faulted (cpu_of w) ≡ false → refuses_odd (cpu_of w) (address_of (cpu_of w) a) ≡ false
    → served w (address_of (cpu_of w) a) g ≡ true → Left w (write_at t w a g v) (with_value w (address_of (cpu_of w) a) g v)
unfolding write_at address_of refuses_odd checks_alignment served
guard_left t w a g v h o s =
    let y : World = flush w in
    let k : Kept w y = (flush_left w).same in
    let m : mask_address (cpu_of y).flow.cpu_type a ≡ mask_address (cpu_of w).flow.cpu_type a = ap (λ (x : Flow). mask_address x.cpu_type a) k.flow in
    let p : ℕ = mask_address (cpu_of w).flow.cpu_type a in
    let r = checked_left t y p g v (ap (λ (x : Flow). pick (is_pre68020 x.cpu_type) (eqb (p % 2) 1) false) k.flow ∙ o) (served_same _ _ _ p (width_of g) k.bus ∙ rw (flush_left w).store s) in
    rw (h, m) (record { same = kept_trans k r.same; store = r.store ∙ rw ((flush_left w).store, place_same _ _ p k.bus) })

-- what a field leaves in the store s, at place p: nothing where it is only counted
unfoldable pub laid_field : List ℕ → ℕ → Field → List ℕ
laid_field s p f = pick (is_counted f) s (put f.long s p (kept f.long f.value))

-- a field at A7 as it stands that is served, and not refused where it is guarded, leaves its bytes there
pub field_left : (t : Raise) (w : World) (f : Field) (a : ℕ) → address_of (cpu_of w) (a7_of (cpu_of w)) ≡ a → is_faulted (cpu_of w) ≡ false
    → (is_counted f ≡ false → served w a f.long ≡ true) → (is_counted f ≡ false → is_raw f ≡ false → refuses_odd (cpu_of w) a ≡ false)
    → Left w (stack_field t w f) (laid_field w.store (place_of w.core.bus a) f)
unfolding stack_field laid_field
field_left t w f a m h s o = go (is_counted f) (is_raw f) s o
  where
    go : (c r : Bool) → (c ≡ false → served w a f.long ≡ true) → (c ≡ false → r ≡ false → refuses_odd (cpu_of w) a ≡ false)
        → Left w (pick c w (pick r (raw_write w (address_of (cpu_of w) (a7_of (cpu_of w))) f.long f.value) (write_at t w (a7_of (cpu_of w)) f.long f.value)))
        (pick c w.store (with_value w a f.long f.value))
    go true r s o = record { same = record { flow = refl; regs = refl; precise = refl; bus = refl }; store = refl }
    go false true s o = rw m (raw_left w a f.long f.value (s refl))
    go false false s o = rw m at (guard_left t w (a7_of (cpu_of w)) f.long f.value h (rw m (o refl refl)) (rw m (s refl)))
