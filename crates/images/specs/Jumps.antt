-- The jump to a vector whose reads are served stores nothing, so that the image of a frame stands after the whole entry.
use Rattle.std.specs.Prelude.{ℕ, ◌+◌, ◌*◌, ◌%◌, ◌^◌, ◌≡◌, refl, Bool, true, false, eqb, length}
use Rattle.std.proofs.Common.{sym, ◌∙◌}
use Rattle.std.proofs.Math.Path.{ap}
use Rattle.types.specs.Kinds.{pick, is_pre68020, mask_address}
use Rattle.cpu.specs.declared.Cpu.{Cpu}
use Rattle.cpu.specs.declared.Flow.{Flow}
use Rattle.cpu.specs.Fields.{kind_of, pc_of, vbr_of, address_of, is_faulted, checks_alignment, set_pc, set_exception, start_vector, odd_pc}
use Rattle.status.specs.Status.{keep_resume}
use Rattle.cpu.specs.Laws.{clocks_kept}
use Rattle.cpu.specs.Clocks.{prefetch_enabled, one_fetched, internal_cycles, set_clocks, clocks_of, clear_prefetch, first_word, second_word}
use Rattle.memory.specs.Log.{counted}
use Rattle.memory.specs.World.{World, Attempt, reply, noted, put_cpu, width_of, served, read_value, flush, release, raw_read, try_read, cpu_of, with_cpu, step}
use Rattle.steps.specs.Steps.{refuses_odd, vector_address, close_bus}
use Rattle.access.specs.Access.{Raise, read_or, prefetch_read, kept_first, first_from, prefetch_first, kept_second, second_from, prefetch_second, checked_read, read_at, vector_read, refill, jump_to, jump_vector}
use Rattle.images.specs.Pushes.{calm, served_same, kept_trans, Left, flush_left}
use Rattle.images.specs.Images.{Still, still_trans, read_same}

-- flow, registers, windows and store are the same
abbrev pub Idle : World → World → Type 0
Idle w x = Left w x w.store

idle_trans : {w x y : World} → Idle w x → Idle x y → Idle w y
idle_trans p q = record { same = kept_trans p.same q.same; store = q.store ∙ p.store }

pub idle_still : {w x : World} → Idle w x → Still w x
unfolding kind_of
idle_still p = record { regs = p.same.regs; kind = ap (λ (x : Flow). x.cpu_type) p.same.flow; bus = p.same.bus; store = p.store }

idle_serves : (w x : World) → Idle w x → (a : ℕ) (g : Bool) → served x a g ≡ served w a g
unfolding served
idle_serves w x p a g = rw p.store (served_same x.core.bus w.core.bus (length w.store) a (width_of g) p.same.bus)

-- a read stores nothing
read_idle : (w : World) (a : ℕ) (g : Bool) → Idle w (raw_read w a g)
unfolding raw_read noted calm counted
read_idle w a g = record { same = record { flow = refl; regs = refl; precise = refl; bus = refl }; store = refl }

tried_is : (t : Raise) (w : World) (a : ℕ) (i : Bool) (z : ℕ) (g : Bool) → served w a g ≡ true → read_or t a i z (try_read w a g) ≡ reply (raw_read w a g) true (read_value w a g)
unfolding read_or try_read
tried_is t w a i z g h = rw h

-- a guarded read that nothing refuses: what it leaves, and its value
pub guard_read : (t : Raise) (w : World) (a : ℕ) (g : Bool) → is_faulted (cpu_of w) ≡ false → refuses_odd (cpu_of w) (address_of (cpu_of w) a) ≡ false → served w (address_of (cpu_of w) a) g ≡ true
    → Idle w (read_at t w a g).after × ((read_at t w a g).value ≡ read_value w (address_of (cpu_of w) a) g)
unfolding read_at checked_read address_of refuses_odd checks_alignment
guard_read t w a g h o s =
    let y : World = flush w in
    let k : Idle w y = flush_left w in
    let p : ℕ = mask_address (cpu_of w).flow.cpu_type a in
    let m : mask_address (cpu_of y).flow.cpu_type a ≡ p = ap (λ (x : Flow). mask_address x.cpu_type a) k.same.flow in
    let r : pick (is_pre68020 (cpu_of y).flow.cpu_type) (eqb (p % 2) 1) false ≡ false = ap (λ (x : Flow). pick (is_pre68020 x.cpu_type) (eqb (p % 2) 1) false) k.same.flow ∙ o in
    let d : served y p g ≡ true = idle_serves w y k p g ∙ s in
    rw (h, m, r, tried_is t y p false (width_of g) g d) (idle_trans k (read_idle y p g), read_same w y (idle_still k) p g)

-- a served prefetch leaves all but the log
prefetch_idle : (t : Raise) (w : World) (a : ℕ) → served w (address_of (cpu_of w) a) false ≡ true → Idle w (prefetch_read t w a).after
unfolding prefetch_read address_of
prefetch_idle t w a s =
    let y : World = flush w in
    let k : Idle w y = flush_left w in
    let p : ℕ = mask_address (cpu_of w).flow.cpu_type a in
    let m : mask_address (cpu_of y).flow.cpu_type a ≡ p = ap (λ (x : Flow). mask_address x.cpu_type a) k.same.flow in
    rw (m, tried_is t y p true 2 false (idle_serves w y k p false ∙ s)) (idle_trans k (read_idle y p false))

on_idle : (w x : World) (c : Cpu) → Idle w x → c.flow ≡ (cpu_of x).flow → c.regs ≡ (cpu_of x).regs → c.queue.precise_bus ≡ (cpu_of x).queue.precise_bus → Idle w (with_cpu x c)
unfolding put_cpu
on_idle w x c h a b d = record { same = record { flow = a ∙ h.same.flow; regs = b ∙ h.same.regs; precise = d ∙ h.same.precise; bus = h.same.bus }; store = h.store }

none : (w : World) → Idle w w
none w = record { same = record { flow = refl; regs = refl; precise = refl; bus = refl }; store = refl }

kept_first_lem : (w : World) (x : Attempt) → Idle w x.after → Idle w (kept_first x)
unfolding kept_first first_word
kept_first_lem w x h = go x.ok
  where
    go : (o : Bool) → Idle w (pick o (with_cpu x.after (first_word (cpu_of x.after) (x.value % 0x10000))) x.after)
    go true = on_idle w x.after (first_word (cpu_of x.after) (x.value % 0x10000)) h refl refl refl
    go false = h

kept_second_lem : (w : World) (x : Attempt) → Idle w x.after → Idle w (kept_second x)
unfolding kept_second second_word
kept_second_lem w x h = go x.ok
  where
    go : (o : Bool) → Idle w (pick o (with_cpu x.after (second_word (cpu_of x.after) (x.value % 0x10000))) x.after)
    go true = on_idle w x.after (second_word (cpu_of x.after) (x.value % 0x10000)) h refl refl refl
    go false = h

-- the program word at a is served, unless PC is odd
abbrev Word : World → ℕ → Type 0
Word w a = odd_pc (cpu_of w) ≡ false → served w (address_of (cpu_of w) a) false ≡ true

word_idle : (w x : World) (a : ℕ) → Idle w x → Word w a → Word x a
unfolding odd_pc pc_of address_of
word_idle w x a p h o = idle_serves w x p (mask_address (cpu_of x).flow.cpu_type a) false ∙ rw p.same.flow (h (rw p.same.flow at o))

pc_idle : (w x : World) → Idle w x → pc_of (cpu_of x) ≡ pc_of (cpu_of w)
unfolding pc_of
pc_idle w x p = ap (λ (y : Flow). y.pc) p.same.flow

first_from_lem : (t : Raise) (w : World) → Word w (pc_of (cpu_of w)) → Idle w (first_from t w)
unfolding first_from
first_from_lem t w h = go (odd_pc (cpu_of w)) h
  where
    go : (o : Bool) → (o ≡ false → served w (address_of (cpu_of w) (pc_of (cpu_of w))) false ≡ true) → Idle w (pick o w (kept_first (prefetch_read t w (pc_of (cpu_of w)))))
    go true h = none w
    go false h = kept_first_lem w (prefetch_read t w (pc_of (cpu_of w))) (prefetch_idle t w (pc_of (cpu_of w)) (h refl))

first_idle : (t : Raise) (w : World) → Word w (pc_of (cpu_of w)) → Idle w (prefetch_first t w)
unfolding prefetch_first clear_prefetch pc_of put_cpu
first_idle t w h = go (prefetch_enabled (cpu_of w))
  where
    x : World
    x = step clear_prefetch w

    i : Idle w x
    i = on_idle w w (clear_prefetch (cpu_of w)) (none w) refl refl refl

    go : (e : Bool) → Idle w (pick e (first_from t x) w)
    go true = idle_trans i (first_from_lem t x (word_idle w x (pc_of (cpu_of w)) i h))
    go false = none w

second_from_lem : (t : Raise) (w : World) → Word w ((pc_of (cpu_of w) + 2) % 2 ^ 32) → Idle w (second_from t w)
unfolding second_from
second_from_lem t w h = go (odd_pc (cpu_of w)) (is_faulted (cpu_of w)) h
  where
    go : (o g : Bool) → (o ≡ false → served w (address_of (cpu_of w) ((pc_of (cpu_of w) + 2) % 2 ^ 32)) false ≡ true)
        → Idle w (pick o w (pick g w (kept_second (prefetch_read t w ((pc_of (cpu_of w) + 2) % 2 ^ 32)))))
    go true g h = none w
    go false true h = none w
    go false false h = kept_second_lem w (prefetch_read t w ((pc_of (cpu_of w) + 2) % 2 ^ 32)) (prefetch_idle t w ((pc_of (cpu_of w) + 2) % 2 ^ 32) (h refl))

second_idle : (t : Raise) (w : World) → Word w ((pc_of (cpu_of w) + 2) % 2 ^ 32) → Idle w (prefetch_second t w)
unfolding prefetch_second
second_idle t w h = go (prefetch_enabled (cpu_of w)) (one_fetched (cpu_of w))
  where
    go : (e o : Bool) → Idle w (pick e (pick o (second_from t w) w) w)
    go true true = second_from_lem t w h
    go true false = none w
    go false o = none w

cycles_idle : (w : World) (n : ℕ) → Idle w (with_cpu w (internal_cycles (cpu_of w) n))
unfolding internal_cycles set_clocks
cycles_idle w n = go (prefetch_enabled (cpu_of w))
  where
    go : (e : Bool) → Idle w (with_cpu w (pick e (set_clocks (cpu_of w) ((clocks_of (cpu_of w) + n) % 2 ^ 32)) (cpu_of w)))
    go true = on_idle w w (set_clocks (cpu_of w) ((clocks_of (cpu_of w) + n) % 2 ^ 32)) (none w) refl refl refl
    go false = on_idle w w (cpu_of w) (none w) refl refl refl

-- without a queue nothing is fetched
refill_off : (t : Raise) (w : World) → prefetch_enabled (cpu_of w) ≡ false → Idle w (refill t w)
unfolding refill prefetch_first prefetch_second put_cpu
refill_off t w e = rw (first w e, clocks_kept (cpu_of w) 2 e, second (with_cpu w (cpu_of w)) e) (on_idle w w (cpu_of w) (none w) refl refl refl)
  where
    first : (x : World) → prefetch_enabled (cpu_of x) ≡ false → prefetch_first t x ≡ x
    first x d = rw d

    second : (x : World) → prefetch_enabled (cpu_of x) ≡ false → prefetch_second t x ≡ x
    second x d = rw d

-- the queue refilled with both words served, where there is a queue and PC is even
pub refill_idle : (t : Raise) (w : World) → (prefetch_enabled (cpu_of w) ≡ true → Word w (pc_of (cpu_of w)) × Word w ((pc_of (cpu_of w) + 2) % 2 ^ 32)) → Idle w (refill t w)
unfolding refill
refill_idle t w h = go (prefetch_enabled (cpu_of w)) refl
  where
    go : (e : Bool) → prefetch_enabled (cpu_of w) ≡ e → Idle w (refill t w)
    go false e = refill_off t w e
    go true e =
        let x : World = prefetch_first t w in
        let i : Idle w x = first_idle t w (h e).0 in
        let y : World = with_cpu x (internal_cycles (cpu_of x) 2) in
        let j : Idle w y = idle_trans i (cycles_idle x 2) in
        let p : pc_of (cpu_of y) ≡ pc_of (cpu_of w) = pc_idle w y j in
        idle_trans j (second_idle t y (rw p (word_idle w y ((pc_of (cpu_of w) + 2) % 2 ^ 32) j (h e).1)))

-- the address of vector v as the kind masks it, and the handler's address that is read there
abbrev pub vector_place : World → ℕ → ℕ
vector_place w v = address_of (cpu_of w) (vector_address (cpu_of w) v)

abbrev pub handler : World → ℕ → ℕ
handler w v = read_value w (vector_place w v) true

-- the reads of the jump to vector v are served: the vector, and where there is a queue and the handler is even, its first two words
pub record Reachable (w : World) (v : ℕ) : Type 0 where
  pub running : is_faulted (cpu_of w) ≡ false
  pub even : refuses_odd (cpu_of w) (vector_place w v) ≡ false
  pub serves : served w (vector_place w v) true ≡ true
  pub first : prefetch_enabled (cpu_of w) ≡ true → eqb (handler w v % 2) 1 ≡ false → served w (address_of (cpu_of w) (handler w v)) false ≡ true
  pub second : prefetch_enabled (cpu_of w) ≡ true → eqb (handler w v % 2) 1 ≡ false → served w (address_of (cpu_of w) ((handler w v + 2) % 2 ^ 32)) false ≡ true

still_serves : (w x : World) → Still w x → (a : ℕ) (g : Bool) → served x a g ≡ served w a g
unfolding served
still_serves w x p a g = rw p.store (served_same x.core.bus w.core.bus (length w.store) a (width_of g) p.bus)

-- the world in which the vector is read
unfoldable pub started : World → ℕ → World
started w v = with_cpu (release w) (start_vector (cpu_of (release w)) v)

start_still : (w : World) (v : ℕ) → Still w (started w v)
unfolding started release noted start_vector put_cpu kind_of calm counted
start_still w v = record { regs = refl; kind = refl; bus = refl; store = refl }

-- what is left of the vector's read
vector_read_lem : (t : Raise) (w : World) (v : ℕ) → Reachable w v → Idle (started w v) (vector_read t (release w) v).after × ((vector_read t (release w) v).value ≡ handler w v)
unfolding vector_read started release noted start_vector put_cpu is_faulted refuses_odd checks_alignment address_of vector_address vbr_of
vector_read_lem t w v h =
    let x : World = started w v in
    let s : Still w x = start_still w v in
    let r = guard_read t x (vector_address (cpu_of w) v) true h.running h.even (still_serves w x s (vector_place w v) true ∙ h.serves) in
    (r.0, r.1 ∙ read_same w x s (vector_place w v) true)

-- the world in which the queue is refilled
unfoldable pub landed : Attempt → World
landed x = with_cpu x.after (set_pc (cpu_of x.after) x.value)

pub record Landed (w y : World) (pc : ℕ) : Type 0 where
  pub still : Still w y
  pub enabled : prefetch_enabled (cpu_of y) ≡ prefetch_enabled (cpu_of w)
  pub mode : is_faulted (cpu_of y) ≡ is_faulted (cpu_of w)
  pub at : pc_of (cpu_of y) ≡ pc

land : (w : World) (v : ℕ) (x : Attempt) (pc : ℕ) → Idle (started w v) x.after → x.value ≡ pc → Landed w (landed x) pc
unfolding landed started release noted start_vector set_pc put_cpu prefetch_enabled is_faulted pc_of kind_of calm counted
land w v x pc i e =
    record {
      still = record { regs = i.same.regs; kind = ap (λ (y : Flow). y.cpu_type) i.same.flow; bus = i.same.bus; store = i.store };
      enabled = rw (i.same.precise, ap (λ (y : Flow). y.cpu_type) i.same.flow);
      mode = ap (λ (y : Flow). eqb y.run_mode 1) i.same.flow;
      at = e;
    }

masked : (w y : World) → Still w y → (a : ℕ) → address_of (cpu_of y) a ≡ address_of (cpu_of w) a
unfolding address_of kind_of
masked w y s a = ap (λ (k : ℕ). mask_address k a) s.kind

jump_both : (t : Raise) (w : World) (v : ℕ) → Reachable w v → Still w (jump_vector t w v) × (is_faulted (cpu_of (jump_vector t w v)) ≡ false)
unfolding jump_vector jump_to landed odd_pc is_faulted
jump_both t w v h =
    let x : Attempt = vector_read t (release w) v in
    let r = vector_read_lem t w v h in
    let l : Landed w (landed x) (handler w v) = land w v x (handler w v) r.0 r.1 in
    let y : World = landed x in
    let word : (a : ℕ) → (eqb (handler w v % 2) 1 ≡ false → served w (address_of (cpu_of w) a) false ≡ true) → eqb (pc_of (cpu_of y) % 2) 1 ≡ false → served y (address_of (cpu_of y) a) false ≡ true = λ a z o. still_serves w y l.still (address_of (cpu_of y) a) false ∙ rw (masked w y l.still a) (z (rw l.at at o)) in
    let i : Idle y (refill t y) = refill_idle t y (λ e.
    let n : prefetch_enabled (cpu_of w) ≡ true = sym l.enabled ∙ e in
    (rw l.at (λ o. word (handler w v) (h.first n) (rw l.at o)), rw l.at (λ o. word ((handler w v + 2) % 2 ^ 32) (h.second n) (rw l.at o)))) in
    (still_trans l.still (idle_still i), ap (λ (z : Flow). eqb z.run_mode 1) i.same.flow ∙ l.mode ∙ h.running)

-- the jump to a vector whose reads are served changes no register, no byte, no window and not the kind
pub jump_still : (t : Raise) (w : World) (v : ℕ) → Reachable w v → Still w (jump_vector t w v)
jump_still t w v h = (jump_both t w v h).0

-- and the record runs after it
pub jump_runs : (t : Raise) (w : World) (v : ℕ) → Reachable w v → is_faulted (cpu_of (jump_vector t w v)) ≡ false
jump_runs t w v h = (jump_both t w v h).1

pub flow_vector : (w x : World) (v : ℕ) → (cpu_of x).flow ≡ (cpu_of w).flow → vector_place x v ≡ vector_place w v
unfolding address_of vector_address vbr_of
flow_vector w x v e = ap (λ (y : Flow). mask_address y.cpu_type ((v % 0x40000000 * 4 + y.vbr) % 2 ^ 32)) e

-- the end of an entry changes no register, no byte, no window and not the kind
pub close_bus_still : (w : World) → Still w (step close_bus w)
unfolding keep_resume set_exception put_cpu kind_of calm
close_bus_still w = record { regs = refl; kind = refl; bus = refl; store = refl }

pub close_address_still : (w : World) → Still w (step keep_resume w)
unfolding keep_resume put_cpu kind_of calm
close_address_still w = record { regs = refl; kind = refl; bus = refl; store = refl }
