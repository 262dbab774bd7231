-- The jump to a vector whose reads nothing refuses: loop mode ends, PC is the handler's address, and nothing else of the gist changes.
use Rattle.std.specs.Prelude.{ℕ, ◌+◌, ◌%◌, ◌^◌, ◌≡◌, Bool, true, false, eqb}
use Rattle.std.proofs.Math.Path.{refl}
use Rattle.std.proofs.Common.{sym, ap, ◌∙◌}
use Rattle.types.specs.Kinds.{pick}
use Rattle.cpu.specs.Fields.{pc_of, vbr_of, address_of, is_faulted, checks_alignment, set_pc, start_vector, odd_pc}
use Rattle.cpu.specs.Clocks.{prefetch_enabled, one_fetched, internal_cycles, set_clocks, clocks_of, clear_prefetch, first_word, second_word}
use Rattle.memory.specs.Log.{counted}
use Rattle.memory.specs.Served.{place_of}
use Rattle.memory.specs.World.{World, Attempt, reply, noted, put_cpu, width_of, served, fetched, read_value, flush, release, raw_read, try_read, cpu_of, with_cpu, step}
use Rattle.steps.specs.Steps.{refuses_odd, vector_address}
use Rattle.access.specs.Access.{Raise, read_or, prefetch_read, kept_first, first_from, prefetch_first, kept_second, second_from, prefetch_second, checked_read, read_at, vector_read, refill, jump_to, jump_vector}
use Rattle.images.specs.Pushes.{calm}
use Rattle.images.specs.Jumps.{vector_place, handler, Reachable}
use Rattle.forms.specs.Gist.{gist, gist_cpu, served_gist, flush_gist, address_gist, faulted_gist}

-- ---- reads

read_gist : (w : World) (a : ℕ) (g : Bool) → gist (raw_read w a g) ≡ gist w
unfolding raw_read noted gist calm counted
read_gist w a g = refl

pub value_gist : (w : World) (a : ℕ) (g : Bool) → read_value (gist w) a g ≡ read_value w a g
unfolding read_value fetched gist place_of calm
value_gist w a g = rw (served_gist w a g)

tried_is : (t : Raise) (w : World) (a : ℕ) (i : Bool) (z : ℕ) (g : Bool) → served w a g ≡ true → read_or t a i z (try_read w a g) ≡ reply (raw_read w a g) true (read_value w a g)
unfolding read_or try_read
tried_is t w a i z g h = rw h

served_form : (w x : World) (a : ℕ) (g : Bool) → gist w ≡ x → served x a g ≡ true → served w a g ≡ true
served_form w x a g e s = sym (served_gist w a g) ∙ ap (λ (y : World). served y a g) e ∙ s

value_form : (w x : World) (a : ℕ) (g : Bool) → gist w ≡ x → read_value w a g ≡ read_value x a g
value_form w x a g e = sym (value_gist w a g) ∙ ap (λ (y : World). read_value y a g) e

address_form : (w x : World) (a : ℕ) → gist w ≡ x → address_of (cpu_of w) a ≡ address_of (cpu_of x) a
address_form w x a e = sym (address_gist w a) ∙ ap (λ (y : World). address_of (cpu_of y) a) e

odd_gist : (w : World) (a : ℕ) → refuses_odd (cpu_of w) a ≡ refuses_odd (cpu_of (gist w)) a
unfolding gist gist_cpu refuses_odd checks_alignment
odd_gist w a = refl

guard_is : (t : Raise) (w : World) (a p : ℕ) (g : Bool) → is_faulted (cpu_of w) ≡ false → address_of (cpu_of (flush w)) a ≡ p → refuses_odd (cpu_of (flush w)) p ≡ false → served (flush w) p g ≡ true
    → read_at t w a g ≡ reply (raw_read (flush w) p g) true (read_value (flush w) p g)
unfolding read_at checked_read
guard_is t w a p g h m o s = rw (h, m, o, tried_is t (flush w) p false (width_of g) g s)

-- a guarded read that nothing refuses: what it leaves, and its value
pub read_form : (t : Raise) (w x : World) (a p : ℕ) (g : Bool) → gist w ≡ x → is_faulted (cpu_of x) ≡ false → address_of (cpu_of x) a ≡ p → refuses_odd (cpu_of x) p ≡ false → served x p g ≡ true
    → (gist (read_at t w a g).after ≡ x) × ((read_at t w a g).value ≡ read_value x p g)
read_form t w x a p g e h m o s =
    let f : gist (flush w) ≡ x = flush_gist w ∙ e in
    let r : read_at t w a g ≡ reply (raw_read (flush w) p g) true (read_value (flush w) p g) = guard_is t w a p g (sym (faulted_gist w) ∙ ap (λ (y : World). is_faulted (cpu_of y)) e ∙ h)
    (address_form (flush w) x a f ∙ m) (odd_gist (flush w) p ∙ ap (λ (y : World). refuses_odd (cpu_of y) p) f ∙ o) (served_form (flush w) x p g f s) in
    (ap (λ (y : Attempt). gist y.after) r ∙ read_gist (flush w) p g ∙ f, ap (λ (y : Attempt). y.value) r ∙ value_form (flush w) x p g f)

-- ---- the queue

prefetch_is : (t : Raise) (w : World) (a p : ℕ) → address_of (cpu_of (flush w)) a ≡ p → served (flush w) p false ≡ true → prefetch_read t w a ≡ reply (raw_read (flush w) p false) true (read_value (flush w) p false)
unfolding prefetch_read
prefetch_is t w a p m s = rw (m, tried_is t (flush w) p true 2 false s)

prefetch_form : (t : Raise) (w x : World) (a : ℕ) → gist w ≡ x → served x (address_of (cpu_of x) a) false ≡ true → gist (prefetch_read t w a).after ≡ x
prefetch_form t w x a e s =
    let f : gist (flush w) ≡ x = flush_gist w ∙ e in
    ap (λ (y : Attempt). gist y.after) (prefetch_is t w a (address_of (cpu_of x) a) (address_form (flush w) x a f) (served_form (flush w) x (address_of (cpu_of x) a) false f s))
    ∙ read_gist (flush w) (address_of (cpu_of x) a) false ∙ f

kept_first_lem : (x : Attempt) → gist (kept_first x) ≡ gist x.after
unfolding kept_first first_word put_cpu gist gist_cpu
kept_first_lem x = go x.ok
  where
    go : (o : Bool) → gist (pick o (with_cpu x.after (first_word (cpu_of x.after) (x.value % 0x10000))) x.after) ≡ gist x.after
    go true = refl
    go false = refl

kept_second_lem : (x : Attempt) → gist (kept_second x) ≡ gist x.after
unfolding kept_second second_word put_cpu gist gist_cpu
kept_second_lem x = go x.ok
  where
    go : (o : Bool) → gist (pick o (with_cpu x.after (second_word (cpu_of x.after) (x.value % 0x10000))) x.after) ≡ gist x.after
    go true = refl
    go false = refl

clear_gist : (w : World) → gist (step clear_prefetch w) ≡ gist w
unfolding clear_prefetch put_cpu gist gist_cpu
clear_gist w = refl

pub cycles_gist : (w : World) (n : ℕ) → gist (with_cpu w (internal_cycles (cpu_of w) n)) ≡ gist w
unfolding internal_cycles set_clocks put_cpu gist gist_cpu
cycles_gist w n = go (prefetch_enabled (cpu_of w))
  where
    go : (e : Bool) → gist (with_cpu w (pick e (set_clocks (cpu_of w) ((clocks_of (cpu_of w) + n) % 2 ^ 32)) (cpu_of w))) ≡ gist w
    go true = refl
    go false = refl

pc_gist : (w : World) → pc_of (cpu_of w) ≡ pc_of (cpu_of (gist w))
unfolding gist gist_cpu pc_of
pc_gist w = refl

oddpc_gist : (w : World) → odd_pc (cpu_of w) ≡ odd_pc (cpu_of (gist w))
unfolding gist gist_cpu odd_pc pc_of
oddpc_gist w = refl

enabled_gist : (w : World) → prefetch_enabled (cpu_of w) ≡ prefetch_enabled (cpu_of (gist w))
unfolding gist gist_cpu prefetch_enabled
enabled_gist w = refl

-- the program word at a is served, unless PC is odd
abbrev Word : World → ℕ → Type 0
Word x a = odd_pc (cpu_of x) ≡ false → served x (address_of (cpu_of x) a) false ≡ true

first_from_lem : (t : Raise) (w x : World) → gist w ≡ x → Word x (pc_of (cpu_of x)) → gist (first_from t w) ≡ x
unfolding first_from
first_from_lem t w x e h = go (odd_pc (cpu_of w)) refl
  where
    go : (o : Bool) → odd_pc (cpu_of w) ≡ o → gist (pick o w (kept_first (prefetch_read t w (pc_of (cpu_of w))))) ≡ x
    go true d = e
    go false d =
        let c : pc_of (cpu_of w) ≡ pc_of (cpu_of x) = pc_gist w ∙ ap (λ (y : World). pc_of (cpu_of y)) e in
        let u : odd_pc (cpu_of x) ≡ false = sym (ap (λ (y : World). odd_pc (cpu_of y)) e) ∙ sym (oddpc_gist w) ∙ d in
        kept_first_lem (prefetch_read t w (pc_of (cpu_of w))) ∙ prefetch_form t w x (pc_of (cpu_of w)) e (ap (λ (q : ℕ). served x (address_of (cpu_of x) q) false) c ∙ h u)

first_form : (t : Raise) (w x : World) → gist w ≡ x → (prefetch_enabled (cpu_of x) ≡ true → Word x (pc_of (cpu_of x))) → gist (prefetch_first t w) ≡ x
unfolding prefetch_first
first_form t w x e h = go (prefetch_enabled (cpu_of w)) refl
  where
    go : (p : Bool) → prefetch_enabled (cpu_of w) ≡ p → gist (pick p (first_from t (step clear_prefetch w)) w) ≡ x
    go true d = first_from_lem t (step clear_prefetch w) x (clear_gist w ∙ e) (h (sym (ap (λ (y : World). prefetch_enabled (cpu_of y)) e) ∙ sym (enabled_gist w) ∙ d))
    go false d = e

second_from_lem : (t : Raise) (w x : World) → gist w ≡ x → Word x ((pc_of (cpu_of x) + 2) % 2 ^ 32) → gist (second_from t w) ≡ x
unfolding second_from
second_from_lem t w x e h = go (odd_pc (cpu_of w)) refl (is_faulted (cpu_of w))
  where
    go : (o : Bool) → odd_pc (cpu_of w) ≡ o → (f : Bool) → gist (pick o w (pick f w (kept_second (prefetch_read t w ((pc_of (cpu_of w) + 2) % 2 ^ 32))))) ≡ x
    go true d f = e
    go false d true = e
    go false d false =
        let c : pc_of (cpu_of w) ≡ pc_of (cpu_of x) = pc_gist w ∙ ap (λ (y : World). pc_of (cpu_of y)) e in
        let u : odd_pc (cpu_of x) ≡ false = sym (ap (λ (y : World). odd_pc (cpu_of y)) e) ∙ sym (oddpc_gist w) ∙ d in
        kept_second_lem (prefetch_read t w ((pc_of (cpu_of w) + 2) % 2 ^ 32))
        ∙ prefetch_form t w x ((pc_of (cpu_of w) + 2) % 2 ^ 32) e (ap (λ (q : ℕ). served x (address_of (cpu_of x) ((q + 2) % 2 ^ 32)) false) c ∙ h u)

second_form : (t : Raise) (w x : World) → gist w ≡ x → (prefetch_enabled (cpu_of x) ≡ true → Word x ((pc_of (cpu_of x) + 2) % 2 ^ 32)) → gist (prefetch_second t w) ≡ x
unfolding prefetch_second
second_form t w x e h = go (prefetch_enabled (cpu_of w)) refl (one_fetched (cpu_of w))
  where
    go : (p : Bool) → prefetch_enabled (cpu_of w) ≡ p → (o : Bool) → gist (pick p (pick o (second_from t w) w) w) ≡ x
    go true d true = second_from_lem t w x e (h (sym (ap (λ (y : World). prefetch_enabled (cpu_of y)) e) ∙ sym (enabled_gist w) ∙ d))
    go true d false = e
    go false d o = e

-- the queue refilled, its words served where there is a queue and PC is even
pub refill_form : (t : Raise) (w x : World) → gist w ≡ x → (prefetch_enabled (cpu_of x) ≡ true → Word x (pc_of (cpu_of x))) → (prefetch_enabled (cpu_of x) ≡ true → Word x ((pc_of (cpu_of x) + 2) % 2 ^ 32)) → gist (refill t w) ≡ x
unfolding refill
refill_form t w x e h k =
    let f : gist (prefetch_first t w) ≡ x = first_form t w x e h in
    second_form t (with_cpu (prefetch_first t w) (internal_cycles (cpu_of (prefetch_first t w)) 2)) x (cycles_gist (prefetch_first t w) 2 ∙ f) k

-- ---- the jump

-- the gist after the jump to vector v: loop mode off, PC as read there
unfoldable pub jumped : World → ℕ → World
jumped x v = gist (with_cpu x (set_pc (start_vector (cpu_of x) v) (handler x v)))

-- the world in which the vector is read
abbrev starting : World → ℕ → World
starting x v = gist (with_cpu x (start_vector (cpu_of x) v))

start_gist : (w : World) (v : ℕ) → gist (with_cpu (release w) (start_vector (cpu_of (release w)) v)) ≡ starting (gist w) v
unfolding release noted start_vector put_cpu gist gist_cpu calm counted
start_gist w v = refl

pub vector_gist : (w : World) (v : ℕ) → vector_address (cpu_of (release w)) v ≡ vector_address (cpu_of (gist w)) v
unfolding release noted gist gist_cpu vector_address vbr_of
vector_gist w v = refl

land_gist : (z : World) (pc : ℕ) → gist (with_cpu z (set_pc (cpu_of z) pc)) ≡ gist (with_cpu (gist z) (set_pc (cpu_of (gist z)) pc))
unfolding set_pc put_cpu gist gist_cpu calm
land_gist z pc = refl

land_start : (x : World) (v pc : ℕ) → gist (with_cpu (starting x v) (set_pc (cpu_of (starting x v)) pc)) ≡ gist (with_cpu x (set_pc (start_vector (cpu_of x) v) pc))
unfolding set_pc start_vector put_cpu gist gist_cpu calm
land_start x v pc = refl

module _ (x : World) (v : ℕ) where
  start_faulted : is_faulted (cpu_of (starting x v)) ≡ is_faulted (cpu_of x)
  unfolding start_vector put_cpu gist gist_cpu is_faulted
  start_faulted = refl

  start_address : (a : ℕ) → address_of (cpu_of (starting x v)) a ≡ address_of (cpu_of x) a
  unfolding start_vector put_cpu gist gist_cpu address_of
  start_address a = refl

  start_odd : (a : ℕ) → refuses_odd (cpu_of (starting x v)) a ≡ refuses_odd (cpu_of x) a
  unfolding start_vector put_cpu gist gist_cpu refuses_odd checks_alignment
  start_odd a = refl

  start_served : (a : ℕ) (g : Bool) → served (starting x v) a g ≡ served x a g
  unfolding put_cpu served
  start_served a g = served_gist (with_cpu x (start_vector (cpu_of x) v)) a g

  start_value : (a : ℕ) (g : Bool) → read_value (starting x v) a g ≡ read_value x a g
  unfolding put_cpu read_value fetched served
  start_value a g = value_gist (with_cpu x (start_vector (cpu_of x) v)) a g

  pub jumped_enabled : prefetch_enabled (cpu_of (jumped x v)) ≡ prefetch_enabled (cpu_of x)
  unfolding jumped set_pc start_vector put_cpu gist gist_cpu prefetch_enabled
  jumped_enabled = refl

  pub jumped_pc : pc_of (cpu_of (jumped x v)) ≡ handler x v
  unfolding jumped set_pc start_vector put_cpu gist gist_cpu pc_of
  jumped_pc = refl

  pub jumped_odd : odd_pc (cpu_of (jumped x v)) ≡ eqb (handler x v % 2) 1
  unfolding jumped set_pc start_vector put_cpu gist gist_cpu odd_pc pc_of
  jumped_odd = refl

  pub jumped_address : (a : ℕ) → address_of (cpu_of (jumped x v)) a ≡ address_of (cpu_of x) a
  unfolding jumped set_pc start_vector put_cpu gist gist_cpu address_of
  jumped_address a = refl

  pub jumped_served : (a : ℕ) (g : Bool) → served (jumped x v) a g ≡ served x a g
  unfolding jumped put_cpu served
  jumped_served a g = served_gist (with_cpu x (set_pc (start_vector (cpu_of x) v) (handler x v))) a g

-- where the jump has read its vector and PC is what was read
abbrev pub landed : Raise → World → ℕ → World
landed t w v = with_cpu (vector_read t (release w) v).after (set_pc (cpu_of (vector_read t (release w) v).after) (vector_read t (release w) v).value)

pub land_form : (t : Raise) (w x : World) (v : ℕ) → gist w ≡ x → is_faulted (cpu_of x) ≡ false → refuses_odd (cpu_of x) (vector_place x v) ≡ false → served x (vector_place x v) true ≡ true → gist (landed t w v) ≡ jumped x v
unfolding vector_read jumped
land_form t w x v e h o u =
    let y : World = with_cpu (release w) (start_vector (cpu_of (release w)) v) in
    let s : World = starting x v in
    let f : gist y ≡ s = start_gist w v ∙ ap (λ (z : World). starting z v) e in
    let p : ℕ = vector_place x v in
    let a : ℕ = vector_address (cpu_of (release w)) v in
    let m : address_of (cpu_of s) a ≡ p = start_address x v a ∙ ap (λ (q : ℕ). address_of (cpu_of x) q) (vector_gist w v ∙ ap (λ (z : World). vector_address (cpu_of z) v) e) in
    let r = read_form t y s a p true f (start_faulted x v ∙ h) m (start_odd x v p ∙ o) (start_served x v p true ∙ u) in
    let z : World = (read_at t y a true).after in
    land_gist z (read_at t y a true).value
    ∙ ap (λ (u : World). gist (with_cpu u (set_pc (cpu_of u) (read_at t y a true).value))) r.0
    ∙ ap (λ (q : ℕ). gist (with_cpu s (set_pc (cpu_of s) q))) (r.1 ∙ start_value x v p true)
    ∙ land_start x v (handler x v)

-- the jump to a vector whose reads are served, whatever a fault would raise
pub jump_form : (t : Raise) (w x : World) (v : ℕ) → gist w ≡ x → Reachable x v → gist (jump_vector t w v) ≡ jumped x v
unfolding jump_vector jump_to
jump_form t w x v e h =
    refill_form t (landed t w v) (jumped x v) (land_form t w x v e h.running h.even h.serves)
    (λ n o. jumped_served x v _ false ∙ ap (λ (q : ℕ). served x q false) (jumped_address x v (pc_of (cpu_of (jumped x v))) ∙ ap (λ (q : ℕ). address_of (cpu_of x) q) (jumped_pc x v)) ∙ h.first (sym (jumped_enabled x v) ∙ n) (sym (jumped_odd x v) ∙ o))
    (λ n o. jumped_served x v _ false ∙ ap (λ (q : ℕ). served x q false) (jumped_address x v ((pc_of (cpu_of (jumped x v)) + 2) % 2 ^ 32) ∙ ap (λ (q : ℕ). address_of (cpu_of x) ((q + 2) % 2 ^ 32)) (jumped_pc x v)) ∙ h.second (sym (jumped_enabled x v) ∙ n) (sym (jumped_odd x v) ∙ o))
