-- HOW MANY EVENTS `take_exception` MAKES: 16 at most, which kind 2 makes at an odd A7. Only the first write of its frame can raise an
-- address fault: then the rest of the frame and the vector are not tried. At an even A7 a fault only halts.
use Prim.Native.Nat.{ℕ, zero, suc, ◌-◌, ◌+◌, ◌/◌, ◌%◌, ◌^◌, ◌≤◌, ◌<◌}
use Rattle.std.specs.Prelude.{◌≡◌, ◌⊎◌, Bool, eqb, ltb, set, get_or}
use Rattle.std.proofs.Math.Path.{refl, ap, subst}
use Rattle.std.proofs.Common.{sym, ◌∙◌, arith}
use Rattle.std.proofs.Math.Logic.{inl, inr, ⊎_elim}
use Rattle.std.proofs.Math.Bool.{true, false}
use mathlib.Core.List.{List, [], ◌∷◌}
use borrow.Author.Tests.{eq-eqb}
use Rattle.types.specs.Kinds.{pick, either, is040, is_pre68020, is_prefetch_kind, mask_address}
use Rattle.types.specs.Tables.{exception_cycles}
use Rattle.cpu.specs.declared.Cpu.{Cpu}
use Rattle.bounds.specs.ErrorFrames.{address_writes}
use Rattle.cpu.specs.Fields.{kind_of, vbr_of, a7_of, address_of, is_faulted, in_exception, checks_alignment, halted, set_a7, set_pc, set_exception, set_wdata, start_vector, minus32, lower_a7, odd_pc, rewind_pc}
use Rattle.cpu.specs.Clocks.{set_clocks, internal_cycles, prefetch_enabled, one_fetched}
use Rattle.status.specs.Status.{get_sr}
use Rattle.memory.specs.World.{World, width_of, put_cpu, noted, stored, with_cpu, flush, release, try_write, cpu_of, step}
use Rattle.frames.specs.declared.Field.{Field}
use Rattle.frames.specs.Frames.{word, long, field_at, is_counted, is_raw}
use Rattle.steps.specs.Steps.{refuses_odd, stacked_address, begin_entry, vector_address}
use Rattle.access.specs.Access.{raised, address_error, bus_error, wrote, checked_write, write_at, stack_field, push_field, push_fields, push_frame, short_writes, push_exception_frame68000, prefetch_first, second_from, prefetch_second, vector_read, refill, jump_to, jump_vector}
use Rattle.formats.specs.Formats.{offset_word, short_frame}
use Rattle.exceptions.specs.Exceptions.{entry, supervised, stack_short, finished, taken, take_exception, trap, take_rewound}
use Rattle.bounds.specs.Skeleton.{refills, more, pick_one, pick_when, clocks_ways, flush_ways, write_ways, guard_write_good, prefetch_first_good, jump_good}
use Rattle.bounds.specs.Faulted.{trigger_faulted, write_none, read_none, push_none, first_faulted}
use Rattle.bounds.specs.Levels.{Domain, Safe, Any, Set, Kept, clash}
use Rattle.bounds.specs.Ledger.{Written, written}
use Rattle.bounds.specs.Events.{Bill, bill_steps, under_cost, refills_sum, few_more}
use Rattle.bounds.proofs.Events.{raises_in, raises_set, none}
use Rattle.promises.specs.Entries.{super_bill, clocks_start, on_written}

abbrev Faulted : World → Type 0
Faulted w = is_faulted (cpu_of w) ≡ true

-- ---- once faulted

-- the queue's second word is not fetched
second_none : (w : World) → Faulted w → prefetch_second raised w ≡ w
unfolding prefetch_second second_from
second_none w h =
    pick_one (λ x. x ≡ w) (prefetch_enabled (cpu_of w))
    (pick_one (λ x. x ≡ w) (one_fetched (cpu_of w)) (pick_one (λ x. x ≡ w) (odd_pc (cpu_of w)) refl (pick_when (λ x. x ≡ w) (is_faulted (cpu_of w)) (λ e. refl) (λ e. clash h e))) refl) refl

released : (w : World) (v : ℕ) → Faulted w → Faulted (step (λ c. start_vector c v) (release w))
unfolding release noted start_vector put_cpu is_faulted
released w v h = h

gone : (w : World) (v : ℕ) → Faulted w → Faulted (step (λ c. set_pc c v) w)
unfolding set_pc put_cpu is_faulted
gone w v h = h

clocked : (w : World) → Faulted w → Faulted (step (λ c. internal_cycles c 2) w)
unfolding set_clocks put_cpu is_faulted
clocked w h = clocks_ways Faulted w 2 (λ e. h) h

module _ (k : ℕ) (l : List ℕ) where
  abbrev c : ℕ
  c = under_cost k

  -- the jump: the release and the queue's first word
  jump_late : (n : ℕ) (w : World) (v : ℕ) → suc (suc n) ≤ 16 → Faulted w → Bill k Set c l n w → Written 16 l (jump_vector raised w v)
  unfolding jump_vector vector_read jump_to refill
  jump_late n w v b h p =
      let x : World = step (λ c. start_vector c v) (release w) in
      let y : World = step (λ c. set_pc c 0) x in
      let z : World = prefetch_first raised y in
      let q : Bill k Set c l (suc n) y = (bill_steps k Set c l).goes (suc n) x 0 ((bill_steps k Set c l).starts (suc n) (release w) v ((bill_steps k Set c l).releases n w p)) in
      let r : Bill k Set c l (more (is_prefetch_kind k) (suc n)) z = (prefetch_first_good (Bill k Set c l) Any (is_prefetch_kind k) raised raised (bill_steps k Set c l) (raises_set k l 1) (suc n) y q).1 in
      let m : more (is_prefetch_kind k) (suc n) ≤ 16 = pick_one (λ j. j ≤ 16) (is_prefetch_kind k) (omega arith) (omega arith) in
      let f : Faulted z = first_faulted 2 y (gone x 0 (released w v h)) in
      rw (read_none raised x (vector_address (cpu_of (release w)) v) true (released w v h))
      (subst (Written 16 l) (sym (second_none (step (λ c. internal_cycles c 2) z) (clocked z f)))
      (on_written 16 l z (internal_cycles (cpu_of z) 2) (written (more (is_prefetch_kind k) (suc n)) 16 l z m (omega arith) r.1)))

  -- a push lowers A7 alone
  push_late : (n : ℕ) (w : World) (f : Field) → is_raw f ≡ false → Faulted w → Bill k Set c l n w → Faulted (push_field raised w f) × Bill k Set c l n (push_field raised w f)
  unfolding lower_a7 set_a7 put_cpu is_faulted
  push_late n w f r h p = subst (λ x. Faulted x × Bill k Set c l n x) (sym (push_none raised w f r h)) (h, (bill_steps k Set c l).lowers n w _ p)

-- ---- the frame

-- a push of a word, and of a long
word_is : (w : World) (v : ℕ) → push_field raised w (word v) ≡ write_at raised (with_cpu w (lower_a7 (cpu_of w) 2)) (a7_of (lower_a7 (cpu_of w) 2)) false v
unfolding push_field stack_field is_counted is_raw put_cpu
word_is w v = refl

long_is : (w : World) (v : ℕ) → push_field raised w (long v) ≡ write_at raised (with_cpu w (lower_a7 (cpu_of w) 4)) (a7_of (lower_a7 (cpu_of w) 4)) true v
unfolding push_field stack_field is_counted is_raw put_cpu
long_is w v = refl

plain_word : (v : ℕ) → is_raw (word v) ≡ false
unfolding is_raw
plain_word v = refl

plain_long : (v : ℕ) → is_raw (long v) ≡ false
unfolding is_raw
plain_long v = refl

-- three fields
frame_is_lem : (w : World) (sr pc format : ℕ) → push_frame raised w (short_frame sr pc format) ≡ push_field raised (push_field raised (push_field raised w (word format)) (long pc)) (word sr)
unfolding push_frame push_fields short_frame field_at
frame_is_lem w sr pc format = refl

-- ---- at an odd address

odd_masked : (k a : ℕ) → a % 2 ≡ 1 → mask_address k a % 2 ≡ 1
unfolding mask_address
odd_masked k a e = pick_one (λ x. x % 2 ≡ 1) (ltb k 3) (omega arith) e

module _ (k : ℕ) (l : List ℕ) (q : is_pre68020 k ≡ true) where
  refuses : (w : World) (a : ℕ) → kind_of (cpu_of w) ≡ k → a % 2 ≡ 1 → refuses_odd (cpu_of w) (address_of (cpu_of w) a) ≡ true
  unfolding refuses_odd checks_alignment address_of kind_of
  refuses w a e o = rw (e, q, eq-eqb _ 1 (odd_masked k a o))

  -- a guarded write raises an address fault, unless the record is faulted
  odd_write : (n : ℕ) (w : World) (a : ℕ) (g : Bool) (v : ℕ) → a % 2 ≡ 1 → Bill k Set (under_cost k) l n w → Faulted (write_at raised w a g v) × Bill k Set (under_cost k) l n (write_at raised w a g v)
  unfolding write_at checked_write
  odd_write n w a g v o p =
      pick_when (λ x. Faulted x × Bill k Set (under_cost k) l n x) (is_faulted (cpu_of w)) (λ h. (h, p))
      (λ h.
      let x : World = flush w in
      let b : Bill k Set (under_cost k) l n x = (bill_steps k Set (under_cost k) l).flushes n w p in
      let r : refuses_odd (cpu_of x) (address_of (cpu_of x) a) ≡ true = refuses x a b.0.same o in
      rw r (trigger_faulted 2 x (address_error (address_of (cpu_of x) a) true false), ((raises_set k l 1).odd n x a true false b tt r).1))

  -- so the frame costs nothing more: on kind 1 its three writes
  odd_short : (n : ℕ) (w : World) (sp pc sr : ℕ) → sp % 2 ≡ 1 → Bill k Set (under_cost k) l n w → Faulted (short_writes raised w sp pc sr) × Bill k Set (under_cost k) l n (short_writes raised w sp pc sr)
  unfolding short_writes
  odd_short n w sp pc sr o p =
      let r = odd_write n w ((sp + 4) % 2 ^ 32) false (pc % 0x10000) (omega arith) p in
      let x : World = write_at raised w ((sp + 4) % 2 ^ 32) false (pc % 0x10000) in
      rw (write_none raised x sp false sr r.0) (rw (write_none raised x ((sp + 2) % 2 ^ 32) false (pc / 0x10000) r.0) r)

  -- on kinds 2 and 10 its three fields
  odd_frame : (n : ℕ) (w : World) (sr pc format : ℕ) → a7_of (lower_a7 (cpu_of w) 2) % 2 ≡ 1 → Bill k Set (under_cost k) l n w
      → Faulted (push_frame raised w (short_frame sr pc format)) × Bill k Set (under_cost k) l n (push_frame raised w (short_frame sr pc format))
  odd_frame n w sr pc format o p =
      let x : Faulted (push_field raised w (word format)) × Bill k Set (under_cost k) l n (push_field raised w (word format)) =
      subst (λ z. Faulted z × Bill k Set (under_cost k) l n z) (sym (word_is w format))
      (odd_write n (with_cpu w (lower_a7 (cpu_of w) 2)) (a7_of (lower_a7 (cpu_of w) 2)) false format o ((bill_steps k Set (under_cost k) l).lowers n w 2 p)) in
      let y = push_late k l n (push_field raised w (word format)) (long pc) (plain_long pc) x.0 x.1 in
      subst (λ z. Faulted z × Bill k Set (under_cost k) l n z) (sym (frame_is_lem w sr pc format))
      (push_late k l n (push_field raised (push_field raised w (word format)) (long pc)) (word sr) (plain_word sr) y.0 y.1)

-- ---- at an even address

flush_a7 : (w : World) → a7_of (cpu_of (flush w)) ≡ a7_of (cpu_of w)
unfolding noted set_clocks put_cpu a7_of
flush_a7 w = flush_ways (λ z. a7_of (cpu_of z) ≡ a7_of (cpu_of w)) w (λ h. refl) refl

stays_a7 : (w : World) (b : ℕ) (g : Bool) (v : ℕ) → a7_of (cpu_of (try_write (step (λ c. set_wdata c v) (flush w)) b g v).after) ≡ a7_of (cpu_of w)
unfolding try_write noted stored set_wdata put_cpu a7_of
stays_a7 w b g v = write_ways (λ z. a7_of (cpu_of z) ≡ a7_of (cpu_of w)) (step (λ c. set_wdata c v) (flush w)) b g v (λ s c x y. flush_a7 w)

-- after a guarded write the record is faulted, or A7 is what it was
write_way : (w : World) (a : ℕ) (g : Bool) (v : ℕ) → Faulted (write_at raised w a g v) ⊎ (a7_of (cpu_of (write_at raised w a g v)) ≡ a7_of (cpu_of w))
unfolding write_at checked_write wrote try_write
write_way w a g v =
    pick_one R (is_faulted (cpu_of w)) (inr refl)
    (pick_one R (refuses_odd (cpu_of x) b) (inl (trigger_faulted 2 x (address_error b true false)))
    (pick_one R (try_write y b g v).ok (inr (stays_a7 w b g v)) (inl (trigger_faulted 2 (try_write y b g v).after (bus_error b true false (width_of g))))))
  where
    R : World → Type 0
    R z = Faulted z ⊎ (a7_of (cpu_of z) ≡ a7_of (cpu_of w))

    x : World
    x = flush w

    b : ℕ
    b = address_of (cpu_of x) a

    y : World
    y = step (λ c. set_wdata c v) x

set_even : (l : List ℕ) (i v : ℕ) → v % 2 ≡ 0 → get_or (set l i v) i 0 % 2 ≡ 0
set_even [] i v e = refl
set_even (x ∷ l) zero v e = e
set_even (x ∷ l) (suc i) v e = set_even l i v e

lower_even : (c : Cpu) (v : ℕ) → v < 8 → v % 2 ≡ 0 → a7_of c % 2 ≡ 0 → a7_of (lower_a7 c v) % 2 ≡ 0
unfolding lower_a7 set_a7 a7_of minus32
lower_even c v b z e = set_even c.regs.dar 15 ((get_or c.regs.dar 15 0 + (2 ^ 32 - v % 2 ^ 32)) % 2 ^ 32) (omega arith)

-- an address is safe, or it is odd and the kind refuses it
half : (n : ℕ) → n < 2 → (n ≡ 0) ⊎ (n ≡ 1)
half zero b = inl refl
half (suc zero) b = inr refl
half (suc (suc n)) b = absurd (omega arith)

split : (k a : ℕ) → Safe k a ⊎ ((is_pre68020 k ≡ true) × (a % 2 ≡ 1))
split k a = go (is_pre68020 k) refl
  where
    go : (b : Bool) → is_pre68020 k ≡ b → Safe k a ⊎ ((is_pre68020 k ≡ true) × (a % 2 ≡ 1))
    go true q = ⊎_elim (λ e. inl (λ h. e)) (λ e. inr (q, e)) (half (a % 2) (omega arith))
    go false q = inl (λ h. clash h q)

module _ (k : ℕ) (l : List ℕ) where
  abbrev B : ℕ → World → Type 0
  B n w = Bill k Set 0 l n w

  -- faulted, or A7 is safe
  abbrev Low : World → Type 0
  Low w = Faulted w ⊎ Safe k (a7_of (cpu_of w))

  safe_write : (n : ℕ) (w : World) (a : ℕ) (g : Bool) (v : ℕ) → Faulted w ⊎ Safe k a → B n w → B (suc n) (write_at raised w a g v)
  safe_write n w a g v (inl h) p = subst (B (suc n)) (sym (write_none raised w a g v h)) ((bill_steps k Set 0 l).weaken n w p)
  safe_write n w a g v (inr e) p = (guard_write_good (Bill k Set 0 l) (Safe k) (is_prefetch_kind k) raised raised (bill_steps k Set 0 l) (raises_in k l 0 2) n w a g v p e).1

  -- a push at a safe A7
  lowered_faulted : (w : World) (d : ℕ) → Faulted w → Faulted (with_cpu w (lower_a7 (cpu_of w) d))
  unfolding lower_a7 set_a7 put_cpu is_faulted
  lowered_faulted w d h = h

  safe_push : (n : ℕ) (w : World) (d : ℕ) (g : Bool) (v : ℕ) → Faulted w ⊎ Safe k (a7_of (lower_a7 (cpu_of w) d)) → B n w
      → B (suc n) (write_at raised (with_cpu w (lower_a7 (cpu_of w) d)) (a7_of (lower_a7 (cpu_of w) d)) g v) × Low (write_at raised (with_cpu w (lower_a7 (cpu_of w) d)) (a7_of (lower_a7 (cpu_of w) d)) g v)
  unfolding put_cpu
  safe_push n w d g v (inl h) p =
      let x : World = with_cpu w (lower_a7 (cpu_of w) d) in
      let f : Faulted x = lowered_faulted w d h in
      (safe_write n x (a7_of (lower_a7 (cpu_of w) d)) g v (inl f) ((bill_steps k Set 0 l).lowers n w d p), inl (subst Faulted (sym (write_none raised x (a7_of (lower_a7 (cpu_of w) d)) g v f)) f))
  safe_push n w d g v (inr e) p =
      let x : World = with_cpu w (lower_a7 (cpu_of w) d) in (
        safe_write n x (a7_of (lower_a7 (cpu_of w) d)) g v (inr e) ((bill_steps k Set 0 l).lowers n w d p),
        ⊎_elim (λ f. inl f) (λ q. inr (λ h. ap (λ a. a % 2) q ∙ e h)) (write_way x (a7_of (lower_a7 (cpu_of w) d)) g v),
      )

  still_low : (w : World) (d : ℕ) → d < 8 → d % 2 ≡ 0 → Low w → Faulted w ⊎ Safe k (a7_of (lower_a7 (cpu_of w) d))
  still_low w d b z (inl h) = inl h
  still_low w d b z (inr e) = inr (λ h. lower_even (cpu_of w) d b z (e h))

  safe_frame : (n : ℕ) (w : World) (sr pc format : ℕ) → Safe k (a7_of (lower_a7 (cpu_of w) 2)) → B n w → B (suc (suc (suc n))) (push_frame raised w (short_frame sr pc format))
  safe_frame n w sr pc format e p =
      let x : B (suc n) (push_field raised w (word format)) × Low (push_field raised w (word format)) =
      subst (λ z. B (suc n) z × Low z) (sym (word_is w format)) (safe_push n w 2 false format (inr e) p) in
      let y : B (suc (suc n)) (push_field raised (push_field raised w (word format)) (long pc)) × Low (push_field raised (push_field raised w (word format)) (long pc)) =
      subst (λ z. B (suc (suc n)) z × Low z) (sym (long_is (push_field raised w (word format)) pc)) (safe_push (suc n) (push_field raised w (word format)) 4 true pc (still_low (push_field raised w (word format)) 4 (omega arith) refl x.1) x.0) in
      let z : World = push_field raised (push_field raised w (word format)) (long pc) in
      subst (B (suc (suc (suc n)))) (sym (word_is z sr) ∙ sym (frame_is_lem w sr pc format)) (safe_push (suc (suc n)) z 2 false sr (still_low z 2 (omega arith) refl y.1) y.0).0

  safe_short : (n : ℕ) (w : World) (sp pc sr : ℕ) → Safe k sp → B n w → B (suc (suc (suc n))) (short_writes raised w sp pc sr)
  unfolding short_writes
  safe_short n w sp pc sr e p =
      safe_write (suc (suc n)) _ ((sp + 2) % 2 ^ 32) false (pc / 0x10000) (inr (λ h. let z = e h in omega arith))
      (safe_write (suc n) _ sp false sr (inr e) (safe_write n w ((sp + 4) % 2 ^ 32) false (pc % 0x10000) (inr (λ h. let z = e h in omega arith)) p))

  -- the jump after a frame without an address fault
  jump_early : (w : World) (v : ℕ) → B 4 w → Written 16 l (jump_vector raised w v)
  jump_early w v p =
      let r = refills_sum (is_prefetch_kind k) 6 in
      let m : pick (is_prefetch_kind k) 3 0 ≤ 3 = pick_one (λ x. x ≤ 3) (is_prefetch_kind k) (omega arith) (omega arith) in
      written (refills (is_prefetch_kind k) 6) 16 l (jump_vector raised w v) (omega arith) (omega arith)
      (jump_good (Bill k Set 0 l) (Safe k) (is_prefetch_kind k) raised raised (bill_steps k Set 0 l) (raises_in k l 0 2) 4 w v p).1.1

  -- what the frame leaves
  abbrev Left : World → Type 0
  Left w = B 4 w ⊎ (Faulted w × Bill k Set (under_cost k) l (suc (under_cost k)) w)

  short_left : (w : World) (pc sr : ℕ) → B 1 w → Bill k Set (under_cost k) l (suc (under_cost k)) w → Left (push_exception_frame68000 raised w pc sr)
  unfolding push_exception_frame68000
  short_left w pc sr p q =
      let x : World = step (λ c. lower_a7 c 6) w in
      ⊎_elim (λ e. inl (safe_short 1 x (a7_of (cpu_of x)) pc sr e ((bill_steps k Set 0 l).lowers 1 w 6 p)))
      (λ o. inr (odd_short k l o.0 (suc (under_cost k)) x (a7_of (cpu_of x)) pc sr o.1 ((bill_steps k Set (under_cost k) l).lowers (suc (under_cost k)) w 6 q))) (split k (a7_of (cpu_of x)))

  frame_left : (w : World) (sr pc format : ℕ) → B 1 w → Bill k Set (under_cost k) l (suc (under_cost k)) w → Left (push_frame raised w (short_frame sr pc format))
  frame_left w sr pc format p q =
      ⊎_elim (λ e. inl (safe_frame 1 w sr pc format e p)) (λ o. inr (odd_frame k l o.0 (suc (under_cost k)) w sr pc format o.1 q)) (split k (a7_of (lower_a7 (cpu_of w) 2)))

  stack_left : (w : World) (pc format : ℕ) → B 1 w → Bill k Set (under_cost k) l (suc (under_cost k)) w → Left (stack_short w pc format)
  unfolding stack_short
  stack_left w pc format p q =
      pick_one Left (eqb (kind_of (cpu_of w)) 1)
      (short_left (supervised w) pc (get_sr (cpu_of w)) (super_bill k Set 0 l 1 w p) (super_bill k Set (under_cost k) l (suc (under_cost k)) w q))
      (frame_left (supervised w) (get_sr (cpu_of w)) pc format (super_bill k Set 0 l 1 w p) (super_bill k Set (under_cost k) l (suc (under_cost k)) w q))

  jump_left : (w : World) (v : ℕ) → under_cost k ≤ 13 → Left w → Written 16 l (jump_vector raised w v)
  jump_left w v b (inl p) = jump_early w v p
  jump_left w v b (inr p) = jump_late k l (suc (under_cost k)) w v (omega arith) p.0 p.1

-- what an address fault costs while an entry is under way: 13 at most
under_13 : (k : ℕ) → under_cost k ≤ 13
unfolding address_writes is_pre68020 is_prefetch_kind
under_13 k = go (eqb k 1) (eqb k 2) (eqb k 10) (is040 k)
  where
    go : (a b c e : Bool) → pick (either a (either b c)) (pick a 5 (pick (either a (either b c)) 8 (pick e 4 3)) + 2 + pick (either a b) 3 0) 0 ≤ 13
    go true b c e = omega arith
    go false true c e = omega arith
    go false false true e = omega arith
    go false false false e = omega arith

module _ (w : World) (s : w.core.bus.events ≡ 0) (d : Domain w) where
  taken_16 : (v : ℕ) → Written 16 w.log (taken (step begin_entry w) v)
  unfolding taken finished begin_entry set_exception put_cpu kind_of vbr_of in_exception
  taken_16 v =
      let k : ℕ = kind_of (cpu_of w) in
      let l : List ℕ = w.log in
      let x : World = with_cpu w (set_exception (cpu_of w) true) in
      let y : World = with_cpu x (internal_cycles (cpu_of x) 4) in
      let r : Kept k Set 0 x = record { same = refl; base = d; state = refl } in
      let z : World = stack_short y (stacked_address (cpu_of y) v) (offset_word v) in
      on_written 16 l (jump_vector raised z v) _
      (jump_left k l z v (under_13 k) (stack_left k l y (stacked_address (cpu_of y) v) (offset_word v) (clocks_start k Set 0 x 4 s r) (clocks_start k Set (under_cost k) x 4 s r)))

  -- `take_exception`: 16 at most
  pub take_exception_16 : (v : ℕ) → Written 16 w.log (take_exception w v).after
  unfolding take_exception
  take_exception_16 v = go (in_exception (cpu_of w))
    where
      stopped : Written 16 w.log (step halted w)
      stopped = few_more (omega arith) (on_written 0 w.log w (halted (cpu_of w)) (none w s d))

      go : (b : Bool) → Written 16 w.log (pick b (entry (step halted w) 0) (entry (taken (step begin_entry w) v) (exception_cycles v))).after
      go true = stopped
      go false = taken_16 v

  -- so are `trap` and the wrappers that take PC back
  pub trap_16 : (n : ℕ) → Written 16 w.log (trap w n).after
  unfolding trap
  trap_16 n = take_exception_16 (32 + n % 16)

pub take_rewound_16 : (w : World) → w.core.bus.events ≡ 0 → Domain w → (v : ℕ) → Written 16 w.log (take_rewound w v).after
unfolding take_rewound rewind_pc put_cpu kind_of vbr_of in_exception
take_rewound_16 w s d v = take_exception_16 (step rewind_pc w) s d v
