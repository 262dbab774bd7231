-- The walk over what is kept of the record is the walk over the record; and a bus without windows is as good as a bare one.
use Rattle.std.specs.Prelude.{◌≡◌, ℕ, zero, suc, ◌<◌, Bool, true, false, List, length, ◌==◌}
use Rattle.std.proofs.Math.Path.{refl, ap}
use Rattle.std.proofs.Common.{sym, ◌∙◌, length-set}
use Rattle.types.specs.Kinds.{pick}
use Rattle.cpu.specs.declared.Cpu.{Cpu}
use Rattle.cpu.specs.Fields.{kind_of, a7_of, set_a7, set_pc}
use Rattle.cpu.specs.Clocks.{clear_prefetch}
use Rattle.status.specs.Status.{put_back_sr}
use Rattle.status.specs.Banks.{backup_sp, restore_sp}
use Rattle.memory.specs.declared.Bus.{Bus}
use Rattle.memory.specs.Served.{served_of, in_store, windows_in_use, clear_of, place_of}
use Rattle.unwind.specs.Models.{Frame, Back}
use Rattle.unwind.specs.Frames.{Sight, sight, byte_served, byte_of, byte_address, all_served, word_of, long_of, head_of, taken_frame, sized_frame, format_frame, frame_of}
use Rattle.unwind.specs.Returns.{raise_a7, swap_sr, take_frame, refused_back, done_back, second_back, first_back, in_user, back, trail_of, laid, walk_of}
use Rattle.fast_return.specs.declared.seen.Seen.{Seen}
use Rattle.unwind.specs.Steps.{Step, refused_step, done_step, second_step, first_step, step_of, steps_of}
use Rattle.fast_return.specs.Seen.{seen, seen_in_user, take_seen}
use Rattle.fast_return.specs.SeenLaws.{seen_take}
use Rattle.fast_return.specs.Rows.{bare_bus, on_seen, step, trail_seen, walk_seen}

-- ---- the record of a walk: its kind, and its registers in number

pub record Kept (k : ℕ) (c : Cpu) : Type 0 where
  pub kind_is_lem : kind_of c ≡ k
  pub registers : 15 < length c.regs.dar
  pub banks : 7 < length c.regs.sp

kept_take : (k : ℕ) (c : Cpu) (f : Frame) → Kept k c → Kept k (take_frame c f)
unfolding take_frame clear_prefetch set_pc swap_sr restore_sp backup_sp raise_a7 set_a7 a7_of put_back_sr kind_of
kept_take k c f h = record { kind_is_lem = h.kind_is_lem; registers = rw (length-set, length-set) h.registers; banks = rw length-set h.banks }

-- what is kept of a record after a return, with its row or number
abbrev seen_back : Back → Step Seen
seen_back x = record { after = seen x.cpu; refused = x.refused; row = x.row }

refused_seen : (c : Cpu) (n : ℕ) → seen_back (refused_back c n) ≡ refused_step (seen c) n
unfolding refused_back refused_step
refused_seen c n = refl

done_seen : (k : ℕ) (c : Cpu) (format : ℕ) (f : Frame) → Kept k c → seen_back (done_back c format f) ≡ done_step on_seen k (seen c) format f
unfolding done_back done_step
done_seen k c format f h = rw (seen_take c f h.registers h.banks, h.kind_is_lem)

second_seen : (k : ℕ) (c d : Cpu) (f : Frame) → Kept k d → seen_back (second_back c d f) ≡ second_step on_seen k (seen c) (seen d) f
unfolding second_back second_step
second_seen k c d f h = go (f.refused == 0) (f.format == 1)
  where
    go : (t u : Bool) → seen_back (pick t (pick u (refused_back c 13) (done_back d 1 f)) (refused_back c f.refused)) ≡ pick t (pick u (refused_step (seen c) 13) (done_step on_seen k (seen d) 1 f)) (refused_step (seen c) f.refused)
    go true true = refused_seen c 13
    go true false = done_seen k d 1 f h
    go false u = refused_seen c f.refused

a7_seen : (c : Cpu) → a7_of c ≡ (seen c).a7
unfolding a7_of seen
a7_seen c = refl

user_seen : (c : Cpu) → in_user c ≡ seen_in_user (seen c)
unfolding in_user seen_in_user seen
user_seen c = refl

first_seen : (v : Sight) (c : Cpu) (f : Frame) → Kept v.kind c → seen_back (first_back v c f) ≡ first_step on_seen v (seen c) f
unfolding first_back first_step
first_seen v c f h = go (f.refused == 0) (f.format == 1)
  where
    e : seen (take_frame c f) ≡ take_seen v.kind (seen c) f
    e = seen_take c f h.registers h.banks ∙ ap (λ (k : ℕ). take_seen k (seen c) f) h.kind_is_lem

    under : seen_back (second_back c (take_frame c f) (frame_of v (a7_of (take_frame c f)))) ≡ second_step on_seen v.kind (seen c) (take_seen v.kind (seen c) f) (frame_of v (take_seen v.kind (seen c) f).a7)
    under =
        second_seen v.kind c (take_frame c f) (frame_of v (a7_of (take_frame c f))) (kept_take v.kind c f h)
        ∙ ap (λ (p : ℕ). second_step on_seen v.kind (seen c) (seen (take_frame c f)) (frame_of v p)) (a7_seen (take_frame c f))
        ∙ ap (λ (y : Seen). second_step on_seen v.kind (seen c) y (frame_of v y.a7)) e

    go : (t u : Bool)
        → seen_back (pick t (pick u (second_back c (take_frame c f) (frame_of v (a7_of (take_frame c f)))) (done_back c f.format f)) (refused_back c f.refused))
        ≡ pick t (pick u (second_step on_seen v.kind (seen c) (take_seen v.kind (seen c) f) (frame_of v (take_seen v.kind (seen c) f).a7)) (done_step on_seen v.kind (seen c) f.format f)) (refused_step (seen c) f.refused)
    go true true = under
    go true false = done_seen v.kind c f.format f h
    go false u = refused_seen c f.refused

-- one return
step_seen : (v : Sight) (c : Cpu) → Kept v.kind c → seen_back (back v c) ≡ step v (seen c)
unfolding back step_of
step_seen v c h = go (in_user c) (user_seen c)
  where
    go : (t : Bool) → t ≡ seen_in_user (seen c) → seen_back (pick t (refused_back c 11) (first_back v c (frame_of v (a7_of c)))) ≡ pick (seen_in_user (seen c)) (refused_step (seen c) 11) (first_step on_seen v (seen c) (frame_of v (seen c).a7))
    go true e = rw (sym e) (refused_seen c 11)
    go false e = rw (sym e) (first_seen v c (frame_of v (a7_of c)) h ∙ ap (λ (p : ℕ). first_step on_seen v (seen c) (frame_of v p)) (a7_seen c))

by_pick : {A : Type 0} (P : A → Type 0) (b : Bool) (x y : A) → P x → P y → P (pick b x y)
by_pick P true x y p q = p
by_pick P false x y p q = q

kept_back : (v : Sight) (c : Cpu) → Kept v.kind c → Kept v.kind (back v c).cpu
unfolding back first_back second_back refused_back done_back
kept_back v c h =
    let f : Frame = frame_of v (a7_of c) in
    let d : Cpu = take_frame c f in
    let g : Frame = frame_of v (a7_of d) in
    by_pick (λ (x : Back). Kept v.kind x.cpu) (in_user c) _ _ h
    (by_pick (λ (x : Back). Kept v.kind x.cpu) (f.refused == 0) _ _
    (by_pick (λ (x : Back). Kept v.kind x.cpu) (f.format == 1) _ _
    (by_pick (λ (x : Back). Kept v.kind x.cpu) (g.refused == 0) _ _
    (by_pick (λ (x : Back). Kept v.kind x.cpu) (g.format == 1) _ _ h (kept_take v.kind d g (kept_take v.kind c f h)))
    h)
    (kept_take v.kind c f h))
    h)

-- n returns
trail_seen_lem : (n : ℕ) (v : Sight) (c : Cpu) → Kept v.kind c → trail_of n v c ≡ trail_seen n v (seen c)
unfolding trail_of steps_of
trail_seen_lem zero v c h = refl
trail_seen_lem (suc n) v c h =
    rw (sym (step_seen v c h), trail_seen_lem n v (back v c).cpu (kept_back v c h))

pub walk_seen_lem : (n : ℕ) (v : Sight) (c : Cpu) (ws : List ℕ) → Kept v.kind c → walk_of n v c ws ≡ walk_seen n v (seen c) ws
unfolding walk_of walk_seen
walk_seen_lem n v c ws h = ap (laid ws 0) (trail_seen_lem n v c h)

-- ---- a bus without windows is as good as a bare one

module _ (k : ℕ) (b : Bus) (s : List ℕ) (none : b.windows ≡ 0) where
  served_bare : (a n : ℕ) → served_of b (length s) a n ≡ served_of (bare_bus b.base) (length s) a n
  unfolding served_of in_store windows_in_use clear_of bare_bus
  served_bare a n = rw none

  byte_bare : (p i : ℕ) → byte_of (sight k b s) p i ≡ byte_of (sight k (bare_bus b.base) s) p i
  unfolding byte_of place_of bare_bus
  byte_bare p i = refl

  all_bare : (p n : ℕ) → all_served (sight k b s) p n ≡ all_served (sight k (bare_bus b.base) s) p n
  unfolding all_served byte_served
  all_bare p zero = refl
  all_bare p (suc n) = rw (served_bare (byte_address k p n) 1, all_bare p n)

  pub frame_bare : (p : ℕ) → frame_of (sight k b s) p ≡ frame_of (sight k (bare_bus b.base) s) p
  unfolding frame_of format_frame sized_frame taken_frame long_of word_of byte_of place_of bare_bus
  frame_bare p = rw (all_bare p (head_of k), all_bare p)

-- what a walk reads depends on the frames alone
module _ (v u : Sight) (same : (p : ℕ) → frame_of v p ≡ frame_of u p) where
  back_same : (c : Cpu) → back v c ≡ back u c
  unfolding back first_back
  back_same c = rw (same (a7_of c), same (a7_of (take_frame c (frame_of u (a7_of c)))))

  trail_same : (n : ℕ) (c : Cpu) → trail_of n v c ≡ trail_of n u c
  unfolding trail_of
  trail_same zero c = refl
  trail_same (suc n) c = rw (back_same c, trail_same n (back u c).cpu)

  pub walk_same : (n : ℕ) (c : Cpu) (ws : List ℕ) → walk_of n v c ws ≡ walk_of n u c ws
  unfolding walk_of
  walk_same n c ws = ap (laid ws 0) (trail_same n c)
