-- From two levels on, more levels change nothing.
use Rattle.std.specs.Prelude.{ℕ, zero, suc, ◌%◌, ◌≡◌, Bool, eqb, ltb}
use Rattle.std.proofs.Math.Path.{refl}
use Rattle.std.proofs.Common.{◌∙◌, ap, arith, eqb-true}
use Rattle.std.proofs.Math.Bool.{true, false}
use Rattle.types.specs.Kinds.{pick, is_pre68020, is_prefetch_kind, mask_address}
use Rattle.cpu.specs.declared.Cpu.{Cpu}
use Rattle.cpu.specs.Fields.{kind_of, vbr_of, address_of, checks_alignment, is_faulted, in_exception, cause_number_of, set_a7, set_pc, halted, set_exception, set_wdata, start_vector, lower_a7, restore_registers, clear_cause, clear_fc_override}
use Rattle.status.specs.Status.{keep_resume, clear_trace, restore_sr, set_sr_noint_nosp}
use Rattle.status.specs.Banks.{enter_supervisor, set_sflag, restore_sp, put_s, backup_sp}
use Rattle.cpu.specs.Clocks.{prefetch_enabled, set_clocks, clear_prefetch, first_word, second_word}
use Rattle.memory.specs.World.{World, put_cpu, noted, stored, flush, release, raw_write, raw_read, cpu_of, step}
use Rattle.frames.specs.Frames.{bus_frame, address_frame}
use Rattle.steps.specs.Steps.{refuses_odd, vector_address, begin_bus, begin_address, enter_bus_error, close_bus}
use Rattle.access.specs.Access.{bus_error, address_error, Raise, exception_address_error, exception_bus_error, raise_bus, raise_address, trigger}
use Rattle.bounds.specs.Skeleton.{Good, Steps, Raises, pick_one, flush_ways, write_ways, read_ways, clocks_ways, frame_good}
use Rattle.bounds.specs.ErrorFrames.{address_plain, bus_plain}

-- THE DOMAIN: where the kind refuses odd addresses the vector base is even
abbrev pub Domain : World → Type 0
Domain w = is_pre68020 (kind_of (cpu_of w)) ≡ true → vbr_of (cpu_of w) % 2 ≡ 0

-- an address that the kind k does not refuse
abbrev pub Safe : ℕ → ℕ → Type 0
Safe k a = is_pre68020 k ≡ true → a % 2 ≡ 0

-- what a run keeps, over fields: the kind and the vector base, and what is said of exception processing
pub record View (k : ℕ) (Exc : Bool → Type 0) (kind vbr : ℕ) (exc : Bool) : Type 0 where
  pub same : kind ≡ k
  pub base : Safe k vbr
  pub state : Exc exc

abbrev pub Kept : ℕ → (Bool → Type 0) → ℕ → World → Type 0
Kept k Exc n w = View k Exc (kind_of (cpu_of w)) (vbr_of (cpu_of w)) (in_exception (cpu_of w))

abbrev pub Any : ℕ → Type 0
Any a = Unit {0}

abbrev pub Either : Bool → Type 0
Either b = Unit {0}

abbrev pub Set : Bool → Type 0
Set b = b ≡ true

-- a world of the domain
pub inside : (w : World) → Domain w → Kept (kind_of (cpu_of w)) Either 0 w
inside w d = record { same = refl; base = d; state = tt }

-- .. while an entry is under way
pub under : (w : World) → Domain w → in_exception (cpu_of w) ≡ true → Kept (kind_of (cpu_of w)) Set 0 w
under w d h = record { same = refl; base = d; state = h }

-- what is kept shows the domain
pub domain : (k : ℕ) (Exc : Bool → Type 0) (w : World) → Kept k Exc 0 w → Domain w
domain k Exc w p h = p.base (rw p.same at h)

-- a test that is both true and false
pub clash : {A : Type 0} {b : Bool} → b ≡ true → b ≡ false → A
clash h k = let z : ◌≡◌ {A = ℕ} 0 1 = cc in absurd (omega arith)

mask_even : (k a : ℕ) → a % 2 ≡ 0 → mask_address k a % 2 ≡ 0
unfolding mask_address
mask_even k a e = pick_one (λ x. x % 2 ≡ 0) (ltb k 3) (omega arith) e

-- only these kinds refuse an address
pub refusing : (k : ℕ) (c : Cpu) (a : ℕ) → kind_of c ≡ k → refuses_odd c a ≡ true → (is_pre68020 k ≡ true) × (a % 2 ≡ 1)
unfolding refuses_odd checks_alignment kind_of
refusing k c a e h = go (is_pre68020 (kind_of c)) refl h
  where
    go : (b : Bool) → is_pre68020 (kind_of c) ≡ b → pick b (eqb (a % 2) 1) false ≡ true → (is_pre68020 k ≡ true) × (a % 2 ≡ 1)
    go true q h = (rw e at q, eqb-true _ 1 h)
    go false q h = clash {b = false} h refl

-- a safe address is not refused
pub refused : (k : ℕ) (c : Cpu) (a : ℕ) → kind_of c ≡ k → Safe k a → refuses_odd c (address_of c a) ≡ true → ⊥
unfolding address_of kind_of
refused k c a e s h =
    let r = refusing k c (address_of c a) e h in
    let even : mask_address (kind_of c) a % 2 ≡ 0 = mask_even (kind_of c) a (s r.0) in
    let one : mask_address (kind_of c) a % 2 ≡ 1 = r.1 in
    omega arith

-- the address of a vector is safe
pub vector_safe : (k : ℕ) (c : Cpu) (v : ℕ) → Safe k (vbr_of c) → Safe k (vector_address c v)
unfolding vector_address
vector_safe k c v p h = let e : vbr_of c % 2 ≡ 0 = p h in omega arith

module _ (k : ℕ) (Exc : Bool → Type 0) where
  flushes : (n : ℕ) (w : World) → Kept k Exc n w → Kept k Exc n (flush w)
  unfolding noted put_cpu set_clocks kind_of vbr_of in_exception
  flushes n w p = flush_ways (Kept k Exc n) w (λ h. p) p

  writes : (n : ℕ) (w : World) (a : ℕ) (g : Bool) (v : ℕ) → Kept k Exc n w → Kept k Exc (suc n) (raw_write w a g v)
  unfolding noted stored
  writes n w a g v p = write_ways (Kept k Exc n) w a g v (λ s c x y. p)

  reads : (n : ℕ) (w : World) (a : ℕ) (g : Bool) → Kept k Exc n w → Kept k Exc (suc n) (raw_read w a g)
  unfolding noted
  reads n w a g p = read_ways (Kept k Exc n) w a g (λ c x y. p)

  -- each step keeps it
  pub steps : Steps (Kept k Exc) (is_prefetch_kind k)
  unfolding release noted lower_a7 set_a7 set_wdata start_vector set_pc clear_prefetch first_word second_word set_clocks put_cpu kind_of vbr_of in_exception
  steps = record { weaken = λ n w p. p; flushes = flushes; lowers = λ n w g p. p; datum = λ n w v p. p; writes = writes; reads = reads; releases = λ n w p. p; starts = λ n w v p. p; goes = λ n w v p. p; drops = λ n w p. p; firsts = λ n w v p. p; seconds = λ n w v p. p; clocks = λ n w h p. clocks_ways (Kept k Exc n) w 2 (λ h. p) p }

  -- only a kind with a queue fetches
  pub fetching : (n : ℕ) (w : World) → Kept k Exc n w → prefetch_enabled (cpu_of w) ≡ true → is_prefetch_kind k ≡ true
  unfolding prefetch_enabled kind_of
  fetching n w p h = rw p.same at (go (cpu_of w).queue.precise_bus h)
    where
      go : (b : Bool) → pick b (is_prefetch_kind (kind_of (cpu_of w))) false ≡ true → is_prefetch_kind (kind_of (cpu_of w)) ≡ true
      go true e = e
      go false e = clash {b = false} e refl

  -- a halt keeps it
  pub halted_kept : (w : World) → Kept k Exc 0 w → Kept k Exc 0 (step halted w)
  unfolding halted put_cpu kind_of vbr_of in_exception
  halted_kept w p = p

  -- so does the first step of a trigger of an address error
  pub address_kept : (w : World) → Kept k Exc 0 w → Kept k Exc 0 (step begin_address w)
  unfolding begin_address restore_registers restore_sr set_sr_noint_nosp put_cpu kind_of vbr_of in_exception
  address_kept w p = p

  -- a trigger of a bus error begins an entry
  pub bus_kept : (w : World) → Kept k Exc 0 w → Kept k Set 0 (step begin_bus w)
  unfolding begin_bus clear_cause set_exception restore_registers restore_sr set_sr_noint_nosp put_cpu kind_of vbr_of in_exception
  bus_kept w p = record { same = p.same; base = p.base; state = refl }

  -- supervisor state keeps it
  pub super_kept : (w : World) → Kept k Exc 0 w → Kept k Exc 0 (step enter_supervisor w)
  unfolding put_cpu kind_of vbr_of in_exception enter_supervisor clear_trace set_sflag restore_sp put_s backup_sp
  super_kept w p = p

  -- so does that of a bus error entry
  pub super_bus_kept : (w : World) → Kept k Exc 0 w → Kept k Exc 0 (step enter_bus_error w)
  unfolding put_cpu kind_of vbr_of in_exception enter_bus_error clear_fc_override enter_supervisor clear_trace set_sflag restore_sp put_s backup_sp
  super_bus_kept w p = p

  -- a trigger of an address error ends
  pub close_address_kept : (w : World) → Kept k Exc 0 w → Kept k Exc 0 (step keep_resume w)
  unfolding keep_resume put_cpu kind_of vbr_of in_exception
  close_address_kept w p = p

  -- an error entry, from ways to raise a bus fault that agree: what an address fault does there is not asked
  module _ (t u : Raise) (T : Raises (Kept k Exc) (Safe k) (is_prefetch_kind k) t u) where
    -- an address error entry is one, whichever raises
    pub entry_address_good : (w : World) (a : ℕ) (wr i : Bool) → Kept k Exc 0 w → Good (Kept k Exc) 0 (exception_address_error t w a wr i) (exception_address_error u w a wr i)
    unfolding exception_address_error
    entry_address_good w a wr i p =
        frame_good (Kept k Exc) (Safe k) (is_prefetch_kind k) t u steps T 0 (step enter_supervisor w) (address_frame (cpu_of w) a wr i) 3
        (λ h. clash h (address_plain (cpu_of w) a wr i)) (super_kept w p)

    -- so is a bus error entry
    pub entry_bus_good : (w : World) (a : ℕ) (wr i : Bool) (z cause : ℕ) → Kept k Exc 0 w → Good (Kept k Exc) 0 (exception_bus_error t w a wr i z cause) (exception_bus_error u w a wr i z cause)
    unfolding exception_bus_error
    entry_bus_good w a wr i z cause p =
        frame_good (Kept k Exc) (Safe k) (is_prefetch_kind k) t u steps T 0 (step enter_bus_error w) (bus_frame (cpu_of w) a wr i z cause) 2
        (λ h m x g e. clash h (bus_plain (cpu_of w) a wr i z cause (ap is_pre68020 p.same ∙ e))) (super_bus_kept w p)

-- a trigger of a bus error ends
pub close_bus_kept : (k : ℕ) (w : World) → Kept k Set 0 w → Kept k Either 0 (step close_bus w)
unfolding keep_resume set_exception put_cpu kind_of vbr_of in_exception
close_bus_kept k w p = record { same = p.same; base = p.base; state = tt }

-- THE EQUATIONS OF THE RECURSION: t on the left, and v inside
pub record Unrolls (t v : Raise) : Type 0 where
  pub bus : (w : World) (a : ℕ) (wr i : Bool) (z : ℕ) → Domain w → t w (bus_error a wr i z) ≡ raise_bus w (step close_bus (exception_bus_error v (step begin_bus w) a wr i z (cause_number_of (cpu_of w))))
  pub address : (w : World) (a : ℕ) (wr i : Bool) → Domain w → t w (address_error a wr i) ≡ raise_address w (step keep_resume (exception_address_error v (step begin_address w) a wr i))

-- while an entry is under way a bus fault halts
abbrev pub Halts : Raise → Type 0
Halts t = (w : World) (a : ℕ) (wr i : Bool) (z : ℕ) → Domain w → in_exception (cpu_of w) ≡ true → t w (bus_error a wr i z) ≡ pick (is_faulted (cpu_of w)) w (step halted w)

-- what meets the equations halts
pub unrolled_halts : (t v : Raise) → Unrolls t v → Halts t
unfolding raise_bus
unrolled_halts t v s w a wr i z d h = s.bus w a wr i z d ∙ rw h

-- so does every level
pub level_halts : (n : ℕ) → Halts (trigger n)
unfolding trigger raise_bus
level_halts zero w a wr i z d h = rw h
level_halts (suc n) w a wr i z d h = rw h

-- each level meets them with the level below inside
pub level_unrolls : (n : ℕ) → Unrolls (trigger (suc n)) (trigger n)
unfolding trigger
level_unrolls n = record { bus = λ w a wr i z d. refl; address = λ w a wr i d. refl }
