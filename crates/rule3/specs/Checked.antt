-- THE PREMISES of rule 3 as one test that computes, for a list of steps that is given: where it passes, they hold. A clause may be left
-- out of the test, to show that it is needed (`Needed`).
use Prim.Native.Nat.{ℕ, zero, suc, ◌%◌, ◌<◌}
use Rattle.std.specs.Prelude.{◌≡◌, ◌≢◌, Bool, not, ◌&&◌, ltb, length, get_or}
use Rattle.std.proofs.Math.Path.{refl}
use Rattle.std.proofs.Common.{sym, ◌∙◌, subst, arith}
use Rattle.std.proofs.Math.Bool.{true, false, cond}
use mathlib.Core.List.{List, [], ◌∷◌}
use Rattle.std.proofs.Math.Option.{Option, none, some}
use Rattle.std.proofs.Math.Decide.{ℕ_discrete}
use borrow.Author.Tests.{eqb-true, ltb-true}
use Rattle.std.proofs.Math.Dec.{eqb}
use Rattle.types.specs.Every.{every, both_left, both_right}
use Rattle.cpu.specs.declared.Cpu.{Cpu}
use Rattle.cpu.specs.Fields.{kind_of, pc_of, ppc_of, a7_of}
use Rattle.refusals.specs.Refusals.{bad_flags, odd_base, bad_code, bad_store, bad_windows}
use Rattle.calls.specs.Calls.{begun}
use Rattle.forms.specs.Gist.{gist}
use Rattle.forms.specs.Plans.{Plan}
use Rattle.forms.specs.Tests.{clean_test}
use Rattle.forms.specs.Forms.{plan_of, is_some, no_plan_lem}
use Rattle.nest.specs.View.{Regs, View, Bytes, Frame, addr, peek, view, under, s_bit, m_bit, nonzero, frames_of}
use Rattle.nest.specs.Nest.{Step, entry, return, handlers, State, begin, exec, bytes_of, live, depth, Holds, here, there, Sound, Along, Always, AtTaken, StartsSound, ServedThen, ServedLater, No68000Error, LiveApart, LiveBelowTop, Keeps, HandlersKeep, HandlersLeave, Premises}
use Rattle.nest.specs.Nest.{kind_of as kind_now}
use Rattle.nest.specs.Nest.{Machine, Entered, Returned, Walked}
use Rattle.nest.specs.Checks.{and_true, served_b, served_test_lem, below_b, below_test, apart_b, apart_test}
use Rattle.entered.specs.Pointers.{regs_of}
use Rattle.entered.specs.Bytes.{mem_of}
use Rattle.entered.specs.Paper.{paper}
use Rattle.entered.specs.Entered.{error_call, Inside}
use Rattle.entered.specs.Machines.{Direct, Room, world_of, enter_by, takes_by, Passes, InsideRoom, CleanCall}
use Rattle.rule3.specs.Rule3.{give_back, walk, Real}

none_of : {A : Type 0} → false ≡ true → A
none_of e = let z : ◌≡◌ {A = ℕ} 0 1 = cc in absurd (omega arith)

-- ---- clauses

-- the premises by name; `served` is "served then and later", `nothing` none of them
pub data Clause : Type 0 where
  nothing sound clean served no_error apart keep leave : Clause

abbrev place : Clause → ℕ
place nothing = 0
place sound = 1
place clean = 2
place served = 3
place no_error = 4
place apart = 5
place keep = 6
place leave = 7

-- whether a clause is asked for where q is left out
abbrev pub asks : Clause → Clause → Bool
asks q p = not (eqb (place q) (place p))

-- ---- tests of one thing

-- a test that is made only where it is asked for
abbrev where_asked : Bool → Bool → Bool
where_asked true b = b
where_asked false b = true

asked : (a b : Bool) → where_asked a b ≡ true → a ≡ true → b ≡ true
asked true b e h = e
asked false b e h = none_of h

not_true : (b : Bool) → not b ≡ true → b ≡ false
not_true true e = none_of e
not_true false e = refl

abbrev same_b : Bool → Bool → Bool
same_b true c = c
same_b false c = not c

same_b_lem : (b c : Bool) → same_b b c ≡ true → b ≡ c
same_b_lem true c e = sym e
same_b_lem false c e = sym (not_true c e)

-- a list of numbers below n
low : (n : ℕ) (l : List ℕ) → 0 < n → (j : ℕ) → every (λ (i x : ℕ). ltb x n) j l ≡ true → (i : ℕ) → get_or l i 0 < n
low n [] p j e i = p
low n (x ∷ l) p j e zero = ltb-true x n (both_left (ltb x n) (every (λ (i x : ℕ). ltb x n) (suc j) l) e)
low n (x ∷ l) p j e (suc i) = low n l p (suc j) (both_right (ltb x n) (every (λ (i x : ℕ). ltb x n) (suc j) l) e) i

-- ---- a record and a store

abbrev pub sound_test : Regs → Bool
sound_test g =
    not (eqb g.runmode 1) && (not g.processing && (eqb (g.a7 % 2) 0 && (eqb (g.usp % 2) 0 && (eqb (g.isp % 2) 0 && (eqb (g.msp % 2) 0
    && (eqb (under g.kind g.status) g.status && (same_b (s_bit g.status) (nonzero g.sflag) && same_b (m_bit g.status) (nonzero g.mflag))))))))

not_one : (n : ℕ) → not (eqb n 1) ≡ true → n ≢ 1
not_one n e p = none_of (sym (not_true (eqb n 1) e) ∙ subst (λ (m : ℕ). eqb m 1 ≡ true) (sym p) refl)

sound_tested : (g : Regs) → sound_test g ≡ true → Sound g
sound_tested g e =
    let a = and_true (not (eqb g.runmode 1)) _ e in
    let b = and_true (not g.processing) _ a.1 in
    let c = and_true (eqb (g.a7 % 2) 0) _ b.1 in
    let d = and_true (eqb (g.usp % 2) 0) _ c.1 in
    let f = and_true (eqb (g.isp % 2) 0) _ d.1 in
    let h = and_true (eqb (g.msp % 2) 0) _ f.1 in
    let i = and_true (eqb (under g.kind g.status) g.status) _ h.1 in
    let j = and_true (same_b (s_bit g.status) (nonzero g.sflag)) _ i.1 in
    record {
      not_faulted = not_one g.runmode a.0;
      not_inside = not_true g.processing b.0;
      even_a7 = eqb-true _ _ c.0;
      even_usp = eqb-true _ _ d.0;
      even_isp = eqb-true _ _ f.0;
      even_msp = eqb-true _ _ h.0;
      in_mask = eqb-true _ _ i.0;
      s_is = same_b_lem _ _ j.0;
      m_is = same_b_lem _ _ j.1;
    }

abbrev pub passes_test : Cpu → Room → Bool
passes_test r s =
    not (bad_flags r) && (not (odd_base r) && (not (bad_code r) && (not (bad_store true s.bus (length s.bytes)) && (not (bad_windows true s.bus) && ltb (kind_of r) 12))))

passes_tested : (r : Cpu) (s : Room) → passes_test r s ≡ true → Passes r s
passes_tested r s e =
    let a = and_true (not (bad_flags r)) _ e in
    let b = and_true (not (odd_base r)) _ a.1 in
    let c = and_true (not (bad_code r)) _ b.1 in
    let d = and_true (not (bad_store true s.bus (length s.bytes))) _ c.1 in
    let f = and_true (not (bad_windows true s.bus)) _ d.1 in
    record {
      flags = not_true (bad_flags r) a.0;
      base = not_true (odd_base r) b.0;
      code = not_true (bad_code r) c.0;
      store = not_true (bad_store true s.bus (length s.bytes)) d.0;
      windows = not_true (bad_windows true s.bus) f.0;
      kind = ltb-true (kind_of r) 12 f.1;
    }

-- the domain, with PC, PPC and bytes in range on every kind
abbrev pub inside_test : Cpu → Room → Bool
inside_test r s =
    eqb (length r.regs.dar) 16 && (eqb (length r.regs.sp) 8 && (ltb (a7_of r) 0x100000000 && (every (λ (i x : ℕ). ltb x 0x100000000) 0 r.regs.sp
    && (ltb (pc_of r) 0x100000000 && (ltb (ppc_of r) 0x100000000 && every (λ (i x : ℕ). ltb x 256) 0 s.bytes)))))

inside_tested : (r : Cpu) (s : Room) → inside_test r s ≡ true → InsideRoom r s
inside_tested r s e =
    let a = and_true (eqb (length r.regs.dar) 16) _ e in
    let b = and_true (eqb (length r.regs.sp) 8) _ a.1 in
    let c = and_true (ltb (a7_of r) 0x100000000) _ b.1 in
    let d = and_true (every (λ (i x : ℕ). ltb x 0x100000000) 0 r.regs.sp) _ c.1 in
    let f = and_true (ltb (pc_of r) 0x100000000) _ d.1 in
    let g = and_true (ltb (ppc_of r) 0x100000000) _ f.1 in
    record {
      record_in =
          record {
            registers = eqb-true _ _ a.0;
            pointers = eqb-true _ _ b.0;
            a7 = ltb-true (a7_of r) 0x100000000 c.0;
            saved = low 0x100000000 r.regs.sp (omega arith) 0 d.0;
            pc = λ q. ltb-true (pc_of r) 0x100000000 f.0;
            ppc = λ q. ltb-true (ppc_of r) 0x100000000 g.0;
          };
      bytes = λ q. low 256 s.bytes (omega arith) 0 g.1;
    }

-- ---- an entry

abbrev pub clean_by : Cpu → Room → Option Plan → Bool
clean_by r s none = true
clean_by r s (some p) = clean_test (gist (world_of r s)) p

clean_tested : (c : Direct) (r : Cpu) (s : Room) → clean_by r s (plan_of (begun (world_of r s)) c.call) ≡ true → CleanCall c r s
unfolding CleanCall
clean_tested c r s = go (plan_of (begun (world_of r s)) c.call)
  where
    go : (o : Option Plan) → clean_by r s o ≡ true → (p : Plan) → o ≡ some p → clean_test (gist (world_of r s)) p ≡ true
    go none e p h = no_plan_lem p h
    go (some q) e p h = subst (λ (x : Plan). clean_test (gist (world_of r s)) x ≡ true) (is_some q p h) e

abbrev pub error_test : Direct → Cpu → Bool
error_test c r = cond (error_call c.call) (not (eqb (regs_of r).kind 1)) true

abbrev pub served_test : Direct → Cpu → Room → Bool
served_test c r s = served_b (peek (mem_of s.bus s.bytes)) (regs_of r).kind (frames_of (paper (world_of r s) c.call))

abbrev pub entry_test : Clause → Direct → Cpu → Room → Bool
entry_test q c r s =
    where_asked (asks q sound) (sound_test (regs_of r)) && (where_asked (asks q clean) (clean_by r s (plan_of (begun (world_of r s)) c.call))
    && (where_asked (asks q served) (served_test c r s) && where_asked (asks q no_error) (error_test c r)))

-- ---- handlers

abbrev pub view_test : View → View → Bool
view_test v w =
    eqb v.kind w.kind && (same_b v.s w.s && (same_b v.m w.m && (eqb v.usp w.usp && (eqb v.isp w.isp && eqb v.msp w.msp))))

view_tested : (v w : View) → view_test v w ≡ true → v ≡ w
view_tested v w e =
    let a = and_true (eqb v.kind w.kind) _ e in
    let b = and_true (same_b v.s w.s) _ a.1 in
    let c = and_true (same_b v.m w.m) _ b.1 in
    let d = and_true (eqb v.usp w.usp) _ c.1 in
    let f = and_true (eqb v.isp w.isp) _ d.1 in
    λ i. record {
      kind = eqb-true v.kind w.kind a.0 i;
      s = same_b_lem v.s w.s b.0 i;
      m = same_b_lem v.m w.m c.0 i;
      usp = eqb-true v.usp w.usp d.0 i;
      isp = eqb-true v.isp w.isp f.0 i;
      msp = eqb-true v.msp w.msp f.1 i;
    }

abbrev same_opt : Option ℕ → Option ℕ → Bool
same_opt none none = true
same_opt none (some y) = false
same_opt (some x) none = false
same_opt (some x) (some y) = eqb x y

same_opt_lem : (o p : Option ℕ) → same_opt o p ≡ true → o ≡ p
same_opt_lem none none e = refl
same_opt_lem none (some y) e = none_of e
same_opt_lem (some x) none e = none_of e
same_opt_lem (some x) (some y) e = λ i. some (eqb-true x y e i)

-- bytes 0 to n - 1 of the frame at p are the same in both
abbrev agree_b : Bytes → Bytes → ℕ → ℕ → ℕ → Bool
agree_b b d k p zero = true
agree_b b d k p (suc n) = same_opt (b (addr k p n)) (d (addr k p n)) && agree_b b d k p n

agree_at : (b d : Bytes) (k p n : ℕ) → agree_b b d k p n ≡ true → (i : ℕ) → i < n → b (addr k p i) ≡ d (addr k p i)
agree_at b d k p zero e i l = absurd (omega arith)
agree_at b d k p (suc n) e i l = go (agree_at b d k p n (and_true (same_opt (b (addr k p n)) (d (addr k p n))) _ e).1) (ℕ_discrete i n)
  where
    go : ((j : ℕ) → j < n → b (addr k p j) ≡ d (addr k p j)) → Dec (i ≡ n) → b (addr k p i) ≡ d (addr k p i)
    go ih (yes q) = subst (λ (j : ℕ). b (addr k p j) ≡ d (addr k p j)) (sym q) (same_opt_lem _ _ (and_true (same_opt (b (addr k p n)) (d (addr k p n))) (agree_b b d k p n) e).0)
    go ih (no q) = ih i (omega arith)

abbrev agree_all : Bytes → Bytes → ℕ → List Frame → Bool
agree_all b d k [] = true
agree_all b d k (f ∷ fs) = agree_b b d k f.at f.len && agree_all b d k fs

agree_all_lem : (b d : Bytes) (k : ℕ) (fs : List Frame) → agree_all b d k fs ≡ true → (a : ℕ) → Holds k fs a → b a ≡ d a
agree_all_lem b d k (f ∷ fs) e a (here i l q) = subst (λ (x : ℕ). b x ≡ d x) (sym q) (agree_at b d k f.at f.len (and_true (agree_b b d k f.at f.len) (agree_all b d k fs) e).0 i l)
agree_all_lem b d k (f ∷ fs) e a (there h) = agree_all_lem b d k fs (and_true (agree_b b d k f.at f.len) (agree_all b d k fs) e).1 a h
agree_all_lem b d k [] e a x'' = elim x'' [ ]

-- ---- a step, the state after it, a list

-- ---- the machine, and machines with other calls

-- the calls of a machine over the project's record and store; all the rest of it is fixed
pub record Engine : Type 0 where
  pub enter : Direct → Cpu → Room → Entered Cpu Room
  pub give_back : Cpu → Room → Returned Cpu
  pub walk : ℕ → ℕ → Cpu → Room → Walked

abbrev pub machine_of : Engine → Machine
machine_of e =
    record {
      Rec = Cpu;
      Sto = Room;
      Call = Direct;
      regs = regs_of;
      mem = λ s. mem_of s.bus s.bytes;
      enter = e.enter;
      give_back = e.give_back;
      walk = e.walk;
      takes = λ c r s. takes_by (world_of r s) c.call;
      stacks = λ c r s. paper (world_of r s) c.call;
      Clean = CleanCall;
      error_call = λ c. error_call c.call;
      Inside = InsideRoom;
      Passes = Passes;
    }

-- the project's own
abbrev pub real : Engine
real = record { enter = λ c r s. enter_by (world_of r s) c.call; give_back = give_back; walk = walk }

pub real_is : machine_of real ≡ Real
real_is = refl

module _ (engine : Engine) where
  abbrev M : Machine
  M = machine_of engine

  -- the premises but one
  pub record PremisesBut (q : Clause) (xs : List (Step M)) (r : Cpu) (s : Room) : Type 0 where
    pub inside : InsideRoom r s
    pub sound_ok : asks q sound ≡ true → Along M (AtTaken M (StartsSound M)) xs (begin M r s)
    pub clean_ok : asks q clean ≡ true → Along M (AtTaken M CleanCall) xs (begin M r s)
    pub served_then : asks q served ≡ true → Along M (AtTaken M (ServedThen M)) xs (begin M r s)
    pub served_later : asks q served ≡ true → Always M (ServedLater M) xs (begin M r s)
    pub no_error_ok : asks q no_error ≡ true → Along M (AtTaken M (No68000Error M)) xs (begin M r s)
    pub apart_ok : asks q apart ≡ true → Always M (LiveApart M) xs (begin M r s)
    pub below_top : Always M (LiveBelowTop M) xs (begin M r s)
    pub keep_ok : asks q keep ≡ true → Along M (HandlersKeep M) xs (begin M r s)
    pub leave_ok : asks q leave ≡ true → Along M (HandlersLeave M) xs (begin M r s)

  error_tested : (c : Direct) (r : Cpu) (s : Room) → error_test c r ≡ true → No68000Error M c r s
  error_tested c r s e = go (error_call c.call) e
    where
      go : (b : Bool) → cond b (not (eqb (regs_of r).kind 1)) true ≡ true → b ≡ true → (regs_of r).kind ≢ 1
      go true f q = not_one (regs_of r).kind f
      go false f q = none_of q

  abbrev pub keeps_test : State M → Cpu → Room → Bool
  keeps_test st r s = view_test (view (regs_of r)) (view (regs_of st.rec)) && agree_all (peek (mem_of s.bus s.bytes)) (bytes_of M st) (kind_now M st) (live st.book)

  keeps_tested : (st : State M) (r : Cpu) (s : Room) → keeps_test st r s ≡ true → Keeps M st r s
  keeps_tested st r s e =
      let a = and_true (view_test (view (regs_of r)) (view (regs_of st.rec))) _ e in
      record { stacks = view_tested _ _ a.0; frames = agree_all_lem _ _ (kind_now M st) (live st.book) a.1 }

  abbrev pub step_test : Clause → Step M → State M → Bool
  step_test q (entry c) st = cond (takes_by (world_of st.rec st.sto) c.call) (entry_test q c st.rec st.sto) true
  step_test q return st = true
  step_test q (handlers r s) st =
      where_asked (asks q leave) (passes_test r s && inside_test r s) && where_asked (asks q keep) (cond (eqb (depth M st) 0) true (keeps_test st r s))

  abbrev pub after_test : Clause → State M → Bool
  after_test q st =
      where_asked (asks q served) (served_b (bytes_of M st) (kind_now M st) (live st.book))
      && (below_b (kind_now M st) (live st.book) && where_asked (asks q apart) (apart_b (kind_now M st) (live st.book)))

  abbrev pub list_test : Clause → List (Step M) → State M → Bool
  list_test q [] st = true
  list_test q (x ∷ xs) st = step_test q x st && (after_test q (exec M x st) && list_test q xs (exec M x st))

  module _ (q : Clause) where
    module _ (P : Step M → State M → Type 0) (h : (x : Step M) (st : State M) → step_test q x st ≡ true → P x st) where
      along : (xs : List (Step M)) (st : State M) → list_test q xs st ≡ true → Along M P xs st
      unfolding Along
      along [] st e = tt
      along (x ∷ xs) st e =
          let a = and_true (step_test q x st) _ e in
          (h x st a.0, along xs (exec M x st) (and_true (after_test q (exec M x st)) _ a.1).1)

    module _ (Q : State M → Type 0) (h : (st : State M) → after_test q st ≡ true → Q st) where
      always : (xs : List (Step M)) (st : State M) → list_test q xs st ≡ true → Always M Q xs st
      unfolding Always
      always [] st e = tt
      always (x ∷ xs) st e =
          let a = and_true (after_test q (exec M x st)) _ (and_true (step_test q x st) _ e).1 in
          (h (exec M x st) a.0, always xs (exec M x st) a.1)

    -- what the test of an entry taken says of its arguments
    module _ (P : Direct → Cpu → Room → Type 0) (h : (c : Direct) (r : Cpu) (s : Room) → entry_test q c r s ≡ true → P c r s) where
      at_taken : (x : Step M) (st : State M) → step_test q x st ≡ true → AtTaken M P x st
      unfolding AtTaken
      at_taken (entry c) st e = go (takes_by (world_of st.rec st.sto) c.call) e
        where
          go : (b : Bool) → cond b (entry_test q c st.rec st.sto) true ≡ true → b ≡ true → P c st.rec st.sto
          go true f p = h c st.rec st.sto f
          go false f p = none_of p
      at_taken return st e = tt
      at_taken (handlers r s) st e = tt

    module _ (c : Direct) (r : Cpu) (s : Room) (e : entry_test q c r s ≡ true) where
      entry_sound : asks q sound ≡ true → StartsSound M c r s
      entry_sound h = sound_tested (regs_of r) (asked (asks q sound) (sound_test (regs_of r)) (and_true (where_asked (asks q sound) (sound_test (regs_of r))) _ e).0 h)

      abbrev cleans : Bool
      cleans = clean_by r s (plan_of (begun (world_of r s)) c.call)

      abbrev after_sound : (where_asked (asks q clean) cleans && (where_asked (asks q served) (served_test c r s) && where_asked (asks q no_error) (error_test c r))) ≡ true
      after_sound = (and_true (where_asked (asks q sound) (sound_test (regs_of r))) _ e).1

      entry_clean : asks q clean ≡ true → CleanCall c r s
      entry_clean h = clean_tested c r s (asked (asks q clean) cleans (and_true (where_asked (asks q clean) cleans) _ after_sound).0 h)

      abbrev after_clean : (where_asked (asks q served) (served_test c r s) && where_asked (asks q no_error) (error_test c r)) ≡ true
      after_clean = (and_true (where_asked (asks q clean) cleans) _ after_sound).1

      entry_served : asks q served ≡ true → ServedThen M c r s
      entry_served h = served_test_lem _ _ _ (asked (asks q served) (served_test c r s) (and_true (where_asked (asks q served) (served_test c r s)) _ after_clean).0 h)

      entry_error : asks q no_error ≡ true → No68000Error M c r s
      entry_error h = error_tested c r s (asked (asks q no_error) (error_test c r) (and_true (where_asked (asks q served) (served_test c r s)) _ after_clean).1 h)

    handlers_keep : asks q keep ≡ true → (x : Step M) (st : State M) → step_test q x st ≡ true → HandlersKeep M x st
    unfolding HandlersKeep
    handlers_keep h (entry c) st e = tt
    handlers_keep h return st e = tt
    handlers_keep h (handlers r s) st e =
        go (depth M st) (asked (asks q keep) _ (and_true (where_asked (asks q leave) (passes_test r s && inside_test r s)) _ e).1 h)
      where
        go : (n : ℕ) → cond (eqb n 0) true (keeps_test st r s) ≡ true → 0 < n → Keeps M st r s
        go zero f p = absurd (omega arith)
        go (suc n) f p = keeps_tested st r s (pick (eqb (suc n) 0) refl f)
          where
            pick : (b : Bool) → eqb (suc n) 0 ≡ b → cond b true (keeps_test st r s) ≡ true → keeps_test st r s ≡ true
            pick true y g = let z : suc n ≡ 0 = eqb-true (suc n) 0 y in absurd (omega arith)
            pick false y g = g

    handlers_leave : asks q leave ≡ true → (x : Step M) (st : State M) → step_test q x st ≡ true → HandlersLeave M x st
    unfolding HandlersLeave
    handlers_leave h (entry c) st e = tt
    handlers_leave h return st e = tt
    handlers_leave h (handlers r s) st e =
        let a = and_true (passes_test r s) _ (asked (asks q leave) _ (and_true (where_asked (asks q leave) (passes_test r s && inside_test r s)) _ e).0 h) in
        (passes_tested r s a.0, inside_tested r s a.1)

    module _ (st : State M) (e : after_test q st ≡ true) where
      abbrev serves : Bool
      serves = served_b (bytes_of M st) (kind_now M st) (live st.book)

      after_served : asks q served ≡ true → ServedLater M st
      after_served h = served_test_lem _ _ _ (asked (asks q served) serves (and_true (where_asked (asks q served) serves) _ e).0 h)

      abbrev others : (below_b (kind_now M st) (live st.book) && where_asked (asks q apart) (apart_b (kind_now M st) (live st.book))) ≡ true
      others = (and_true (where_asked (asks q served) serves) _ e).1

      after_below : LiveBelowTop M st
      after_below = below_test _ _ (and_true (below_b (kind_now M st) (live st.book)) _ others).0

      after_apart : asks q apart ≡ true → LiveApart M st
      after_apart h =
          apart_test _ _ (and_true (below_b (kind_now M st) (live st.book)) _ others).0
          (asked (asks q apart) _ (and_true (below_b (kind_now M st) (live st.book)) _ others).1 h)

  -- THE TEST: a start inside the domain, and every step
  abbrev pub test_but : Clause → List (Step M) → Cpu → Room → Bool
  test_but q xs r s = inside_test r s && list_test q xs (begin M r s)

  pub tested_but : (q : Clause) (xs : List (Step M)) (r : Cpu) (s : Room) → test_but q xs r s ≡ true → PremisesBut q xs r s
  tested_but q xs r s e =
      let a = and_true (inside_test r s) _ e in
      record {
        inside = inside_tested r s a.0;
        sound_ok = λ h. along q _ (at_taken q _ (λ c r s f. entry_sound q c r s f h)) xs (begin M r s) a.1;
        clean_ok = λ h. along q _ (at_taken q _ (λ c r s f. entry_clean q c r s f h)) xs (begin M r s) a.1;
        served_then = λ h. along q _ (at_taken q _ (λ c r s f. entry_served q c r s f h)) xs (begin M r s) a.1;
        served_later = λ h. always q _ (λ st f. after_served q st f h) xs (begin M r s) a.1;
        no_error_ok = λ h. along q _ (at_taken q _ (λ c r s f. entry_error q c r s f h)) xs (begin M r s) a.1;
        apart_ok = λ h. always q _ (λ st f. after_apart q st f h) xs (begin M r s) a.1;
        below_top = always q _ (after_below q) xs (begin M r s) a.1;
        keep_ok = λ h. along q _ (handlers_keep q h) xs (begin M r s) a.1;
        leave_ok = λ h. along q _ (handlers_leave q h) xs (begin M r s) a.1;
      }

  abbrev pub premises_test : List (Step M) → Cpu → Room → Bool
  premises_test xs r s = test_but nothing xs r s

  pub premises_tested : (xs : List (Step M)) (r : Cpu) (s : Room) → premises_test xs r s ≡ true → Premises M xs r s
  premises_tested xs r s e =
      let p : PremisesBut nothing xs r s = tested_but nothing xs r s e in
      record {
        inside = p.inside;
        sound = p.sound_ok refl;
        clean = p.clean_ok refl;
        served_then = p.served_then refl;
        served_later = p.served_later refl;
        no_error = p.no_error_ok refl;
        apart = p.apart_ok refl;
        below_top = p.below_top;
        keep = p.keep_ok refl;
        leave = p.leave_ok refl;
      }
