-- Theorems about what specs/Tale defines, and what rests on them.
use Rattle.std.specs.Prelude.{◌≡◌, true, ℕ, ◌%◌, ◌<◌}
use Rattle.std.proofs.Math.Path.{refl, sym, ap, subst}
use Rattle.std.proofs.Common.{◌∙◌, arith}
use mathlib.Core.List.{List, [], ◌∷◌, ◌++◌}
use Rattle.std.proofs.Math.Option.{Option, some, some-injective}
use Rattle.std.proofs.Math.ListN.{length}
use Rattle.nest.specs.View.{Regs, Bytes, peek, Frame, Stacked, one, two, row_of, frames_of, under, Bank, user, interrupt, master, View, ptr, set_ptr, bank, top, set_top, nonzero, banked, view, opt, Back, back}
use Rattle.nest.specs.Nest.{Machine, Entered, refused, untaken, taken, Returned, denied, returned, Page, rows, live, Holds, here, there, restored_by, Apart, BelowTop, AllServed, Sound, SameStacks, Step, entry, return, handlers, State, kind_of, depth, bytes_of, page, after_entry, after_return, exec, run, begin, Along, Always, AtTaken, StartsSound, ServedThen, No68000Error, Keeps, HandlersKeep, HandlersLeave, ServedLater, LiveApart, LiveBelowTop, Premises, restored, after, Values, values_at, Told, Alike, SameTale, end, Rule3}
use Rattle.nest.specs.Laws.{Does, Ranges, Entry, Return, Laws}
use Rattle.nest.specs.Reading.{Fits, fits_kind, fits_local, fits_back, view_a7, view_kind, view_s, view_m, Ready}
use Rattle.nest.proofs.Reading.{does_fits}
use Rattle.nest.specs.Tale.{Chain, chain_nil, chain_backs}

-- ---------------------------------------------------------------- frames in a list

holds_left : {k : ℕ} {fs : List Frame} (gs : List Frame) {a : ℕ} → Holds k fs a → Holds k (fs ++ gs) a
holds_left gs (here i l e) = here i l e
holds_left gs (there h) = there (holds_left gs h)

holds_right : {k : ℕ} (fs : List Frame) {gs : List Frame} {a : ℕ} → Holds k gs a → Holds k (fs ++ gs) a
holds_right [] h = h
holds_right (f ∷ fs) h = there (holds_right fs h)

apart_left : (k : ℕ) (fs gs : List Frame) → Apart k (fs ++ gs) → Apart k fs
unfolding Apart
apart_left k [] gs x = tt
apart_left k (f ∷ fs) gs x = ((λ a i l e h. x.0 a i l e (holds_left gs h)), apart_left k fs gs x.1)

apart_cross : (k : ℕ) (fs gs : List Frame) (a : ℕ) → Apart k (fs ++ gs) → Holds k fs a → Holds k gs a → ⊥
unfolding Apart
apart_cross k (f ∷ fs) gs a x (here i l e) g = x.0 a i l e (holds_right fs g)
apart_cross k (f ∷ fs) gs a x (there h) g = apart_cross k fs gs a x.1 h g
apart_cross k [] gs a x x4 g = elim x4 [ ]

below_left : (k : ℕ) (fs gs : List Frame) → BelowTop k (fs ++ gs) → BelowTop k fs
unfolding BelowTop
below_left k [] gs x = tt
below_left k (f ∷ fs) gs x = (x.0, below_left k fs gs x.1)

-- what stands outside the live frames does not matter
pub chain_local : (b b' : Bytes) (v : View) (ps : List Page) → ((a : ℕ) → Holds v.kind (live ps) a → b' a ≡ b a) → Chain b v ps → Chain b' v ps
unfolding Chain
chain_local b b' v [] h c = tt
chain_local b b' v (p ∷ ps) h c = (
  c.0,
  fits_local b b' v p.frames p.line.row c.0 (λ a q. h a (holds_left (live ps) q)) c.1,
  c.2,
  c.3,
  chain_local b b' c.0 ps
      (λ a q. h a (holds_right (frames_of p.frames) (subst (λ (k : ℕ). Holds k (live ps) a) (fits_kind b v p.frames p.line.row c.0 c.1) q)))
      c.4,
)

-- two chains from one view, whose bytes agree on the frames of the first, read alike
pub chain_same : (b b' : Bytes) (v : View) (ps qs : List Page) → length ps ≡ length qs
    → ((a : ℕ) → Holds v.kind (live ps) a → b' a ≡ b a) → Chain b v ps → Chain b' v qs
    → (rows ps ≡ rows qs) × (restored_by ps ≡ restored_by qs)
unfolding Chain
chain_same b b' v [] [] n h c d = (refl, refl)
chain_same b b' v [] (q ∷ qs) n h c d = absurd (omega arith)
chain_same b b' v (p ∷ ps) [] n h c d = absurd (omega arith)
chain_same b b' v (p ∷ ps) (q ∷ qs) n h c d =
    let view_is : c.0 ≡ d.0 = ap (λ (x : Back). x.view) z in
    let ih : (rows ps ≡ rows qs) × (restored_by ps ≡ restored_by qs) =
    chain_same b b' c.0 ps qs (omega arith)
    (λ a q. h a (holds_right (frames_of p.frames) (subst (λ (k : ℕ). Holds k (live ps) a) (fits_kind b v p.frames p.line.row c.0 c.1) q)))
    c.4 (subst (λ (w : View). Chain b' w qs) (sym view_is) d.4) in
    ((λ i. (z i).row ∷ ih.0 i), (λ i. record { status = (z i).row.status; pc = (z i).row.address; a7 = a7_is i } ∷ ih.1 i))
  where
    k : Fits b' v p.frames p.line.row c.0
    k = fits_local b b' v p.frames p.line.row c.0 (λ a q. h a (holds_left (live ps) q)) c.1

    z : ◌≡◌ {A = Back} (record { row = p.line.row; view = c.0 }) (record { row = q.line.row; view = d.0 })
    z = some-injective _ _ (sym (fits_back b' v p.frames p.line.row c.0 k) ∙ fits_back b' v q.frames q.line.row d.0 d.1)

    a7_is : p.line.a7 ≡ q.line.a7
    a7_is = sym c.2 ∙ ap (λ (x : Back). top x.view) z ∙ d.2

-- ---------------------------------------------------------------- views of records

pub same_view : (g h : Regs) → SameStacks g h → view g ≡ view h
unfolding view
same_view g h x =
    λ i. set_top (record { kind = x.kind i; s = nonzero (x.s i); m = nonzero (x.m i); usp = x.usp i; isp = x.isp i; msp = x.msp i }) (x.a7 i)

ptr_all : (P : ℕ → Type 0) (v : View) (C : Bank) (p : ℕ) → P p → P v.usp → P v.isp → P v.msp → (B : Bank) → P (ptr (set_ptr v C p) B)
ptr_all P v user p x u i m user = x
ptr_all P v user p x u i m interrupt = i
ptr_all P v user p x u i m master = m
ptr_all P v interrupt p x u i m user = u
ptr_all P v interrupt p x u i m interrupt = x
ptr_all P v interrupt p x u i m master = m
ptr_all P v master p x u i m user = u
ptr_all P v master p x u i m interrupt = i
ptr_all P v master p x u i m master = x

lows : (g : Regs) → Ranges g → (B : Bank) → ptr (view g) B < 0x100000000
unfolding view
lows g ra = ptr_all (λ (n : ℕ). n < 0x100000000) (banked g) (bank (banked g)) g.a7 ra.a7 ra.usp ra.isp ra.msp

evens : (g : Regs) → Sound g → (B : Bank) → ptr (view g) B % 2 ≡ 0
unfolding view
evens g so = ptr_all (λ (n : ℕ). n % 2 ≡ 0) (banked g) (bank (banked g)) g.a7 so.even_a7 so.even_usp so.even_isp so.even_msp

pub ready : (g : Regs) → Sound g → Ranges g → Ready g.status (view g)
ready g so ra =
    record {
      low = lows g ra;
      even = evens g so;
      s_is = rw (view_kind g, so.in_mask, view_s g) so.s_is;
      m_is = rw (view_kind g, so.in_mask, view_m g) so.m_is;
    }

does_status : (st : ℕ) (v v' : View) (b : Bytes) (k : Stacked) → Does st v v' b k → (row_of k).status ≡ st
does_status st v v' b (one f) x = x.status_is
does_status st v v' b (two h f) x = x.status_is

-- ---------------------------------------------------------------- the invariant

module _ (M : Machine) (L : Laws M) where
  open M use {Rec, Sto, Call, regs, mem, enter, give_back, walk, takes, stacks, Clean, error_call, Inside, Passes}

  pub record Inv (st : State M) : Type 0 where
    pub chain : Chain (bytes_of M st) (view (regs st.rec)) st.book
    pub inside : Inside st.rec st.sto
    pub passes : 0 < depth M st → Passes st.rec st.sto
    pub served : ServedLater M st

  -- an entry
  module _ (c : Call) (st : State M) (iv : Inv st) where
    taken_chain : (r : Rec) (s : Sto) → enter c st.rec st.sto ≡ taken r s → Sound (regs st.rec) → Entry M c st.rec r st.sto s
        → Apart (regs st.rec).kind (frames_of (stacks c st.rec st.sto) ++ live st.book)
        → AllServed (peek (mem s)) (regs st.rec).kind (frames_of (stacks c st.rec st.sto) ++ live st.book)
        → Chain (peek (mem s)) (view (regs r)) (page M c st.rec st.sto ∷ st.book)
    unfolding Chain AllServed
    taken_chain r s e so en ap' sv =
        (view g, fits, view_a7 g, in_mask, old)
      where
        g : Regs
        g = regs st.rec

        k : Stacked
        k = stacks c st.rec st.sto

        fits : Fits (peek (mem s)) (view (regs r)) k (row_of k) (view g)
        fits =
            does_fits g.status (view g) (view (regs r)) (peek (mem s)) k en.does (ready g so (L.ranges st.rec st.sto iv.inside))
            (λ a q. sv a (holds_left (live st.book) (subst (λ (n : ℕ). Holds n (frames_of k) a) (view_kind g) q)))

        in_mask : under (view g).kind (row_of k).status ≡ (row_of k).status
        in_mask = rw (view_kind g, does_status g.status (view g) (view (regs r)) (peek (mem s)) k en.does) so.in_mask

        old : Chain (peek (mem s)) (view g) st.book
        old =
            chain_local (bytes_of M st) (peek (mem s)) (view g) st.book
            (λ a q. en.outside a (λ x. apart_cross g.kind (frames_of k) (live st.book) a ap' x (subst (λ (n : ℕ). Holds n (live st.book) a) (view_kind g) q)))
            iv.chain

    entry_inv : (o : Entered Rec Sto) → enter c st.rec st.sto ≡ o
        → (takes c st.rec st.sto ≡ true → Sound (regs st.rec))
        → (takes c st.rec st.sto ≡ true → Clean c st.rec st.sto)
        → (takes c st.rec st.sto ≡ true → ServedThen M c st.rec st.sto)
        → (takes c st.rec st.sto ≡ true → No68000Error M c st.rec st.sto)
        → ServedLater M (after_entry M c st o) → LiveApart M (after_entry M c st o) → LiveBelowTop M (after_entry M c st o)
        → Inv (after_entry M c st o)
    entry_inv (refused n) e so cl se ne = rw (L.says_refused c st.rec st.sto n e) (λ sv pa be. iv)
    entry_inv (untaken r s) e so cl se ne =
        rw (L.says_untaken c st.rec r st.sto s e)
        (λ sv pa be. record {
          chain = subst (λ (b : Bytes). Chain b (view (regs r)) st.book) (sym (L.idle c st.rec r st.sto s e).1)
              (subst (λ (v : View). Chain (bytes_of M st) v st.book) (sym (L.idle c st.rec r st.sto s e).0) iv.chain);
          inside = (L.idle c st.rec r st.sto s e).2 iv.inside;
          passes = λ l. (L.idle c st.rec r st.sto s e).3 (iv.passes l);
          served = sv;
        })
    entry_inv (taken r s) e so cl se ne =
        rw (L.says_taken c st.rec r st.sto s e)
        (λ sv pa be. record {
          chain = taken_chain r s e (so yes) (en pa be) (pa' pa) (sv' sv);
          inside = (en pa be).inside;
          passes = λ l. (en pa be).passes;
          served = sv;
        })
      where
        yes : takes c st.rec st.sto ≡ true
        yes = L.says_taken c st.rec r st.sto s e

        fs : List Frame
        fs = frames_of (stacks c st.rec st.sto)

        kd : (regs r).kind ≡ (regs st.rec).kind
        kd = L.kind_kept c st.rec r st.sto s e iv.inside (so yes) (cl yes) (ne yes) (se yes)

        pa' : Apart (regs r).kind (fs ++ live st.book) → Apart (regs st.rec).kind (fs ++ live st.book)
        pa' x = subst (λ (n : ℕ). Apart n (fs ++ live st.book)) kd x

        be' : BelowTop (regs r).kind (fs ++ live st.book) → BelowTop (regs st.rec).kind (fs ++ live st.book)
        be' x = subst (λ (n : ℕ). BelowTop n (fs ++ live st.book)) kd x

        sv' : AllServed (peek (mem s)) (regs r).kind (fs ++ live st.book) → AllServed (peek (mem s)) (regs st.rec).kind (fs ++ live st.book)
        sv' x = subst (λ (n : ℕ). AllServed (peek (mem s)) n (fs ++ live st.book)) kd x

        en : Apart (regs r).kind (fs ++ live st.book) → BelowTop (regs r).kind (fs ++ live st.book) → Entry M c st.rec r st.sto s
        en x y =
            L.entered c st.rec r st.sto s e iv.inside (so yes) (cl yes) (ne yes) (se yes)
            (apart_left _ fs (live st.book) (pa' x)) (below_left _ fs (live st.book) (be' y))

  abbrev mk : Rec → Sto → List Page → State M
  mk r s ps = record { rec = r; sto = s; book = ps }

  -- a return: it is accepted, and takes what the latest line says
  module _ (r : Rec) (s : Sto) (p : Page) (ps : List Page)
      (ch : Chain (peek (mem s)) (view (regs r)) (p ∷ ps)) (ins : Inside r s) (pas : Passes r s) where
    left : (v : View) × Chain (peek (mem s)) v ps
    unfolding Chain
    left = (ch.0, ch.4)

    told : Back
    told = record { row = p.line.row; view = left.0 }

    told_back : back (view (regs r)) (peek (mem s)) ≡ some told
    unfolding Chain told left
    told_back = fits_back (peek (mem s)) (view (regs r)) p.frames p.line.row ch.0 ch.1

    did : (r' : Rec) × Return M r r' s told
    did = L.returns r s told pas ins told_back

    did_chain : Chain (peek (mem s)) (view (regs did.0)) ps
    unfolding told
    did_chain = subst (λ (v : View). Chain (peek (mem s)) v ps) (sym did.1.view_is) left.1

    did_status : (regs did.0).status ≡ p.line.row.status
    unfolding Chain told left
    did_status =
        did.1.status_is
        ∙ ap (λ (k : ℕ). under k p.line.row.status) (sym (fits_kind (peek (mem s)) (view (regs r)) p.frames p.line.row ch.0 ch.1 ∙ view_kind (regs r)))
        ∙ ch.3

    did_pc : (regs did.0).pc ≡ p.line.row.address
    unfolding told
    did_pc = did.1.pc_is

    did_a7 : (regs did.0).a7 ≡ p.line.a7
    unfolding Chain told left
    did_a7 = sym (view_a7 (regs did.0)) ∙ ap top did.1.view_is ∙ ch.2

    return_inv : ServedLater M (after_return M (mk r s (p ∷ ps)) (give_back r s)) → Inv (after_return M (mk r s (p ∷ ps)) (give_back r s))
    return_inv =
        rw did.1.accepted
        (λ sv. record { chain = did_chain; inside = did.1.inside; passes = λ l. did.1.passes; served = sv })

  -- handlers
  handlers_inv : (st : State M) (r : Rec) (s : Sto) → Inv st → HandlersKeep M (handlers r s) st → HandlersLeave M (handlers r s) st
      → ServedLater M (mk r s st.book) → Inv (mk r s st.book)
  unfolding HandlersKeep HandlersLeave
  handlers_inv st r s iv ke le sv =
      record { chain = kept st.book iv.chain ke; inside = le.1; passes = λ l. le.0; served = sv }
    where
      kept : (ps : List Page) → Chain (bytes_of M st) (view (regs st.rec)) ps
          → (0 < length ps → Keeps M (mk st.rec st.sto ps) r s) → Chain (peek (mem s)) (view (regs r)) ps
      kept [] c k = chain_nil (peek (mem s)) (view (regs r))
      kept (p ∷ ps) c k =
          subst (λ (v : View). Chain (peek (mem s)) v (p ∷ ps)) (sym (k (omega arith)).stacks)
          (chain_local (bytes_of M st) (peek (mem s)) (view (regs st.rec)) (p ∷ ps)
          (λ a q. (k (omega arith)).frames a (subst (λ (n : ℕ). Holds n (live (p ∷ ps)) a) (view_kind (regs st.rec)) q)) c)

  return_none : (r : Rec) (s : Sto) → Inv (mk r s []) → (o : Returned Rec) → give_back r s ≡ o
      → ServedLater M (after_return M (mk r s []) o) → Inv (after_return M (mk r s []) o)
  return_none r s iv (denied n) e sv = iv
  return_none r s iv (returned r') e sv =
      record {
        chain = chain_nil (peek (mem s)) (view (regs r'));
        inside = L.stays_inside r r' s e iv.inside;
        passes = λ l. absurd (omega arith);
        served = sv;
      }

  return_step : (r : Rec) (s : Sto) (ps : List Page) → Inv (mk r s ps)
      → ServedLater M (after_return M (mk r s ps) (give_back r s)) → Inv (after_return M (mk r s ps) (give_back r s))
  return_step r s [] iv sv = return_none r s iv (give_back r s) refl sv
  return_step r s (p ∷ ps) iv sv = return_inv r s p ps iv.chain iv.inside (iv.passes (omega arith)) sv

  pub step_inv : (x : Step M) (st : State M) → Inv st
      → AtTaken M (StartsSound M) x st → AtTaken M Clean x st → AtTaken M (ServedThen M) x st → AtTaken M (No68000Error M) x st
      → ServedLater M (exec M x st) → LiveApart M (exec M x st) → LiveBelowTop M (exec M x st)
      → HandlersKeep M x st → HandlersLeave M x st
      → Inv (exec M x st)
  unfolding AtTaken
  step_inv (entry c) st iv so cl se ne sv pa be ke le = entry_inv c st iv (enter c st.rec st.sto) refl so cl se ne sv pa be
  step_inv return st iv so cl se ne sv pa be ke le = return_step st.rec st.sto st.book iv sv
  step_inv (handlers r s) st iv so cl se ne sv pa be ke le = handlers_inv st r s iv ke le sv

  pub run_inv : (xs : List (Step M)) (st : State M) → Inv st
      → Along M (AtTaken M (StartsSound M)) xs st → Along M (AtTaken M Clean) xs st → Along M (AtTaken M (ServedThen M)) xs st
      → Along M (AtTaken M (No68000Error M)) xs st
      → Always M (ServedLater M) xs st → Always M (LiveApart M) xs st → Always M (LiveBelowTop M) xs st
      → Along M (HandlersKeep M) xs st → Along M (HandlersLeave M) xs st
      → Inv (run M xs st)
  unfolding Along Always
  run_inv [] st iv so cl se ne sv pa be ke le = iv
  run_inv (x ∷ xs) st iv so cl se ne sv pa be ke le =
      run_inv xs (exec M x st)
      (step_inv x st iv so.0 cl.0 se.0 ne.0 sv.0 pa.0 be.0 ke.0 le.0)
      so.1 cl.1 se.1 ne.1 sv.1 pa.1 be.1 ke.1 le.1

  holds_nil : {k a : ℕ} → Holds k [] a → ⊥
  holds_nil = elim [ ]

  begin_inv : (r : Rec) (s : Sto) → Inside r s → Inv (begin M r s)
  unfolding AllServed
  begin_inv r s i =
      record { chain = chain_nil (peek (mem s)) (view (regs r)); inside = i; passes = λ l. absurd (omega arith); served = λ a h. absurd (holds_nil h) }

  pub end_inv : (xs : List (Step M)) (r : Rec) (s : Sto) → Premises M xs r s → Inv (end M xs r s)
  end_inv xs r s p =
      run_inv xs (begin M r s) (begin_inv r s p.inside) p.sound p.clean p.served_then p.no_error p.served_later p.apart
      p.below_top p.keep p.leave

  -- ---------------------------------------------------------------- what the invariant tells

  chain_restored : (ps : List Page) (r : Rec) (s : Sto) → Chain (peek (mem s)) (view (regs r)) ps → Inside r s → Passes r s
      → restored M (length ps) r s ≡ some (restored_by ps)
  unfolding restored
  chain_restored [] r s ch ins pas = refl
  chain_restored (p ∷ ps) r s ch ins pas =
      let r' : Rec = (did r s p ps ch ins pas).0 in
      let ih : restored M (length ps) r' s ≡ some (restored_by ps) =
      chain_restored ps r' s (did_chain r s p ps ch ins pas) (did r s p ps ch ins pas).1.inside (did r s p ps ch ins pas).1.passes in
      ap (λ (o : Returned Rec). after M o (λ (q : Rec). opt (restored M (length ps) q s) (λ vs. some (values_at M (regs q) ∷ vs)))) (did r s p ps ch ins pas).1.accepted
      ∙ ap (λ (o : Option (List Values)). opt o (λ vs. some (values_at M (regs r') ∷ vs))) ih
      ∙ (λ i. some (record { status = did_status r s p ps ch ins pas i; pc = did_pc r s p ps ch ins pas i; a7 = did_a7 r s p ps ch ins pas i } ∷ restored_by ps))

  inv_restored : (r : Rec) (s : Sto) (ps : List Page) → Inv (mk r s ps) → restored M (length ps) r s ≡ some (restored_by ps)
  unfolding restored
  inv_restored r s [] iv = refl
  inv_restored r s (p ∷ ps) iv = chain_restored (p ∷ ps) r s iv.chain iv.inside (iv.passes (omega arith))

  pub inv_told : (st : State M) → Inv st → 0 < depth M st → Told M st
  inv_told st iv l =
      record {
        walked = λ w h. L.walks (depth M st) w st.rec st.sto (rows st.book) (iv.passes l) iv.inside h
            (chain_backs (bytes_of M st) (view (regs st.rec)) st.book iv.chain);
        returns = inv_restored st.rec st.sto st.book iv;
      }

  pub inv_same : (st st' : State M) → Inv st → Inv st' → Alike M st st' → SameTale M st st'
  unfolding AllServed
  inv_same st st' iv iv' al =
      record {
        same_rows = both.0;
        same_values =
            inv_restored st.rec st.sto st.book iv
            ∙ ap {B = Option (List Values)} some both.1
            ∙ sym (inv_restored st'.rec st'.sto st'.book iv');
      }
    where
      views : view (regs st.rec) ≡ view (regs st'.rec)
      views = al.stacks

      agree : (a : ℕ) → Holds (view (regs st.rec)).kind (live st.book) a → bytes_of M st' a ≡ bytes_of M st a
      agree a q =
          let q' : Holds (kind_of M st) (live st.book) a = subst (λ (n : ℕ). Holds n (live st.book) a) (view_kind (regs st.rec)) q in
          let x : (x : ℕ) × (bytes_of M st a ≡ some x) = iv.served a q' in
          ((al.bytes a x.0).0 (q', x.1)).1 ∙ sym x.1

      both : (rows st.book ≡ rows st'.book) × (restored_by st.book ≡ restored_by st'.book)
      both =
          chain_same (bytes_of M st) (bytes_of M st') (view (regs st.rec)) st.book st'.book al.depths agree iv.chain
          (subst (λ (v : View). Chain (bytes_of M st') v st'.book) (sym views) iv'.chain)

  -- RULE 3
  pub rule3 : Rule3 M
  rule3 =
      record {
        tells = λ xs r s p l. inv_told (end M xs r s) (end_inv xs r s p) l;
        settles = λ xs ys r r' s s' p p' al. inv_same (end M xs r s) (end M ys r' s') (end_inv xs r s p) (end_inv ys r' s' p') al;
      }
