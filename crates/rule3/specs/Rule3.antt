-- RULE 3 of the project's calls: every direct entry of `perform`, and the return and the walk that the public contracts of `unwind` cite.
use Prim.Native.Nat.{ℕ, zero, suc, ◌*◌, ◌≤◌, ◌<◌}
use Rattle.std.proofs.Math.Path.{◌≡◌, refl, subst}
use Rattle.std.proofs.Common.{sym, ap, ◌∙◌, inl, inr, arith, eqb-true, le-ltb, ltb-false}
use Rattle.std.specs.Prelude.{◌⊎◌, Bool, not, List, ◌∷◌, eqb, ltb, length, get_or, replicate}
use Rattle.std.proofs.Math.Bool.{true, false}
use Rattle.std.proofs.Math.Option.{Option, none, some}
use Rattle.std.proofs.lemmas.List.{length-replicate}
use Rattle.types.specs.Kinds.{pick, either, both, is_prefetch_kind}
use Rattle.cpu.specs.declared.Cpu.{Cpu}
use Rattle.cpu.specs.Fields.{kind_of, pc_of}
use Rattle.memory.specs.declared.Core.{Core}
use Rattle.memory.specs.World.{put_cpu}
use Rattle.refusals.specs.Refusals.{bad_flags, bad_cycles, short_log, bad_vector, bad_kind, tests_of, first_number, refusal_of}
use Rattle.refusals.specs.Laws.{outcomes, refusal_place, place_none}
use Rattle.forms.specs.Accepted.{either_false}
use Rattle.unwind.specs.Frames.{Sight, sight}
use Rattle.unwind.specs.Returns.{back, refused_back, trail_of}
use Rattle.unwind.specs.Unwind.{of_store, refusal, short_rows, walk_from, return_from}
use Rattle.unwind.specs.Unwind.{returned as answer}
use Rattle.unwind.specs.Models.{Returned as Answer}
use Rattle.nest.specs.View.{Row, View, view, peek, under, opt}
use Rattle.nest.specs.View.{Back as NestBack, back as nest_back, backs}
use Rattle.nest.specs.Nest.{Machine, Returned, denied, returned, Walked, rows}
use Rattle.nest.specs.Laws.{Return}
use Rattle.entered.specs.Pointers.{regs_of, Fit}
use Rattle.entered.specs.Bytes.{mem_of}
use Rattle.entered.specs.Machines.{Room, Passes, InsideRoom}
use Rattle.entered.specs.Machines.{machine}
use Rattle.entered.proofs.Entered.{kind_regs}
use Rattle.entered.specs.Flags.{masked, status_regs}
use Rattle.rule3.specs.Taken.{Gives, back_gives, back_inside, back_kind}
use Rattle.rule3.specs.Rows.{told, tale, walk_tells, rows_here}

-- ---- the machine

abbrev pub core_of : Cpu → Room → Core
core_of c s = record { cpu = c; bus = s.bus }

abbrev pub answered : Answer → Returned Cpu
answered x = pick (eqb x.refused 0) (returned x.core.cpu) (denied x.refused)

-- the return
unfoldable pub give_back : Cpu → Room → Returned Cpu
give_back c s = answered (return_from (core_of c s) s.bytes)

-- the walk of n into a buffer of w words, which are 0; see `walk_any`
unfoldable pub walk : ℕ → ℕ → Cpu → Room → Walked
walk n w c s = told (walk_from (core_of c s) s.bytes n (replicate w 0))

abbrev pub Real : Machine
Real = machine give_back walk

-- whatever the buffer held
pub walk_any : (n : ℕ) (ws : List ℕ) (c : Cpu) (s : Room) → told (walk_from (core_of c s) s.bytes n ws) ≡ walk n (length ws) c s
unfolding walk
walk_any n ws c s =
    walk_tells (core_of c s) s.bytes n ws
    ∙ ap (tale (core_of c s) s.bytes n) (sym (length-replicate (length ws) 0))
    ∙ sym (walk_tells (core_of c s) s.bytes n (replicate (length ws) 0))

-- ---- what numbers 1, 2, 4, 5, 6 and 9 accept

pub passes_refusal : (r : Cpu) (s : Room) → Passes r s → refusal (core_of r s) (length s.bytes) ≡ 0
unfolding refusal refusal_of tests_of first_number bad_cycles short_log bad_vector bad_kind
passes_refusal r s p = rw (p.flags, p.base, p.code, p.store, p.windows, le-ltb 11 (kind_of r) (omega (arith, p.kind)))

-- and the other way round: `Passes` is no more than what return and walk test
pub refusal_passes : (r : Cpu) (s : Room) → refusal (core_of r s) (length s.bytes) ≡ 0 → Passes r s
unfolding refusal outcomes tests_of bad_kind
refusal_passes r s e =
    record {
      flags = tests 0;
      base = tests 1;
      code = tests 3;
      store = tests 4;
      windows = tests 5;
      kind = omega (arith, ltb-false 11 (kind_of r) (either_false (ltb 11 (kind_of r)) (both false (not (eqb (kind_of r) 11))) (tests 8)).0);
    }
  where
    tests : (i : ℕ) → get_or (outcomes (tests_of (core_of r s) (length s.bytes) 0 of_store)) i false ≡ false
    tests i =
        place_none 0 (outcomes (tests_of (core_of r s) (length s.bytes) 0 of_store)) i
        (sym (refusal_place (core_of r s) (length s.bytes) 0 of_store) ∙ e)

flags_are : (c : Cpu) → bad_flags c ≡ false → ((c.flags.s_flag ≡ 0) ⊎ (c.flags.s_flag ≡ 4)) × ((c.flags.m_flag ≡ 0) ⊎ (c.flags.m_flag ≡ 2))
unfolding bad_flags
flags_are c e = both_of (either (eqb c.flags.s_flag 0) (eqb c.flags.s_flag 4)) (either (eqb c.flags.m_flag 0) (eqb c.flags.m_flag 2)) (either_of c.flags.s_flag 4) (either_of c.flags.m_flag 2) e
  where
    either_of : (x n : ℕ) → either (eqb x 0) (eqb x n) ≡ true → (x ≡ 0) ⊎ (x ≡ n)
    either_of x n = go (eqb x 0) refl
      where
        go : (t : Bool) → eqb x 0 ≡ t → either t (eqb x n) ≡ true → (x ≡ 0) ⊎ (x ≡ n)
        go true f h = inl (eqb-true x 0 f)
        go false f h = inr (eqb-true x n h)

    both_of : {A B : Type 0} (x y : Bool) → (x ≡ true → A) → (y ≡ true → B) → not (both x y) ≡ false → A × B
    both_of true true f g h = (f refl, g refl)
    both_of true false f g h = let z : ◌≡◌ {A = ℕ} 0 1 = cc in absurd (omega arith)
    both_of false y f g h = let z : ◌≡◌ {A = ℕ} 0 1 = cc in absurd (omega arith)

pub fit_of : (r : Cpu) (s : Room) → Passes r s → InsideRoom r s → Fit r
fit_of r s p i = record { registers = i.record_in.registers; pointers = i.record_in.pointers; s_is_lem = (flags_are r p.flags).0; m_is_lem = (flags_are r p.flags).1 }

-- ---- the laws

pc_regs : (c : Cpu) → (regs_of c).pc ≡ pc_of c
unfolding regs_of
pc_regs c = refl

module _ (r : Cpu) (s : Room) where
  abbrev sees : Sight
  sees = sight (kind_of r) s.bus s.bytes

  give_back_lem : refusal (core_of r s) (length s.bytes) ≡ 0 → give_back r s ≡ answered (answer (core_of r s) (back sees r))
  unfolding give_back return_from
  give_back_lem e = rw e

  given : (back sees r).refused ≡ 0 → answered (answer (core_of r s) (back sees r)) ≡ returned (back sees r).cpu
  unfolding answer put_cpu
  given e = rw e

  pub return_law : (x : NestBack) → Passes r s → InsideRoom r s → nest_back (view (regs_of r)) (peek (mem_of s.bus s.bytes)) ≡ some x → (r' : Cpu) × Return Real r r' s x
  return_law x p i e =
      let g : Gives r (back sees r) x = back_gives s.bus s.bytes r x (fit_of r s p i) p.kind e in (
        (back sees r).cpu,
        record {
          accepted = give_back_lem (passes_refusal r s p) ∙ given g.accepted;
          view_is = g.views;
          status_is = status_regs (back sees r).cpu ∙ g.status ∙ masked (kind_of r) x.row.status p.kind ∙ ap (λ (j : ℕ). under j x.row.status) (sym (kind_regs r));
          pc_is = pc_regs (back sees r).cpu ∙ g.pc;
          passes = g.passes s p;
          inside = record { record_in = back_inside (kind_of r) s.bus s.bytes i.bytes r refl i.record_in; bytes = λ q. i.bytes (sym (ap is_prefetch_kind g.kind) ∙ q) };
        },
      )

  stays_in : InsideRoom r s → InsideRoom (return_from (core_of r s) s.bytes).core.cpu s
  unfolding return_from answer put_cpu refused_back
  stays_in i = go (eqb (refusal (core_of r s) (length s.bytes)) 0)
    where
      go : (b : Bool) → InsideRoom (pick b (answer (core_of r s) (back sees r)) (answer (core_of r s) (refused_back r (refusal (core_of r s) (length s.bytes))))).core.cpu s
      go true = record { record_in = back_inside (kind_of r) s.bus s.bytes i.bytes r refl i.record_in; bytes = λ q. i.bytes (sym (ap is_prefetch_kind (back_kind sees r)) ∙ q) }
      go false = i

  pub stays_law : (r' : Cpu) → give_back r s ≡ returned r' → InsideRoom r s → InsideRoom r' s
  unfolding give_back
  stays_law r' e i = go (eqb (return_from (core_of r s) s.bytes).refused 0) e
    where
      go : (b : Bool) → pick b (returned (return_from (core_of r s) s.bytes).core.cpu) (denied (return_from (core_of r s) s.bytes).refused) ≡ returned r' → InsideRoom r' s
      go true f = let z : (return_from (core_of r s) s.bytes).core.cpu ≡ r' = cc in subst (λ (q : Cpu). InsideRoom q s) z (stays_in i)
      go false f = let z : ◌≡◌ {A = ℕ} 0 1 = cc in absurd (omega arith)

-- n returns on a copy
record Trails (k n : ℕ) (c : Cpu) (s : Room) (rows : List Row) : Type 0 where
  accepted : (trail_of n (sight k s.bus s.bytes) c).refused ≡ 0
  rows_are : rows_here (trail_of n (sight k s.bus s.bytes) c).rows ≡ rows

module _ (k : ℕ) (s : Room) (small : k < 12) where
  abbrev v : Sight
  v = sight k s.bus s.bytes

  gives : (c : Cpu) (x : NestBack) → Fit c → kind_of c ≡ k → nest_back (view (regs_of c)) (peek (mem_of s.bus s.bytes)) ≡ some x → Gives c (back v c) x
  gives c x f e h = subst (λ (j : ℕ). Gives c (back (sight j s.bus s.bytes) c) x) e (back_gives s.bus s.bytes c x f (omega (arith, e)) h)

  trails : (n : ℕ) (c : Cpu) (rows : List Row) → Fit c → kind_of c ≡ k → backs n (view (regs_of c)) (peek (mem_of s.bus s.bytes)) ≡ some rows → Trails k n c s rows
  unfolding backs trail_of
  trails zero c rows f e = λ h. record { accepted = refl; rows_are = cc }
  trails (suc n) c rows f e = go (λ rs g i. trails n (back v c).cpu rs g i) (nest_back (view (regs_of c)) (peek (mem_of s.bus s.bytes))) refl
    where
      d : Cpu
      d = (back v c).cpu

      Under : Type 0
      Under = (rs : List Row) → Fit d → kind_of d ≡ k → backs n (view (regs_of d)) (peek (mem_of s.bus s.bytes)) ≡ some rs → Trails k n d s rs

      rest : Under → (x : NestBack) → Gives c (back v c) x → (o : Option (List Row)) → backs n x.view (peek (mem_of s.bus s.bytes)) ≡ o → opt o (λ rs. some (x.row ∷ rs)) ≡ some rows → Trails k (suc n) c s rows
      rest u x g none p q = let z : ◌≡◌ {A = ℕ} 0 1 = cc in absurd (omega arith)
      rest u x g (some rs) p q =
          let t : Trails k n d s rs = u rs g.fit (g.kind ∙ e) (ap (λ (w : View). backs n w (peek (mem_of s.bus s.bytes))) g.views ∙ p) in
          let z : x.row ∷ rs ≡ rows = cc in
          record {
            accepted = rw g.accepted t.accepted;
            rows_are = rw g.accepted ((λ i. g.row i ∷ t.rows_are i) ∙ z);
          }

      go : Under → (o : Option NestBack) → nest_back (view (regs_of c)) (peek (mem_of s.bus s.bytes)) ≡ o → opt o (λ x. opt (backs n x.view (peek (mem_of s.bus s.bytes))) (λ rs. some (x.row ∷ rs))) ≡ some rows → Trails k (suc n) c s rows
      go u none p q = let z : ◌≡◌ {A = ℕ} 0 1 = cc in absurd (omega arith)
      go u (some x) p q = rest u x (gives c x f e p) (backs n x.view (peek (mem_of s.bus s.bytes))) refl q

pub walks_law : (n w : ℕ) (r : Cpu) (s : Room) (rows : List Row) → Passes r s → InsideRoom r s → 4 * n ≤ w → backs n (view (regs_of r)) (peek (mem_of s.bus s.bytes)) ≡ some rows → walk n w r s ≡ record { rows = rows; number = none }
unfolding walk tale short_rows
walks_law n w r s rows p i l e =
    let t : Trails (kind_of r) n r s rows = trails (kind_of r) s p.kind n r rows (fit_of r s p i) refl e in
    walk_tells (core_of r s) s.bytes n (replicate w 0)
    ∙ ap (tale (core_of r s) s.bytes n) (length-replicate w 0)
    ∙ rw (passes_refusal r s p, le-ltb w (n * 4) (omega arith), t.accepted, t.rows_are)
