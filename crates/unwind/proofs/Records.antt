-- The returns on the record: `back` and `walk_of` are one return and n returns on what a record is to them.
use Rattle.std.proofs.Common.{◌≡◌, ℕ, zero, suc, ◌==◌, Bool, true, false, List, length, refl, sym, ap}
use Rattle.types.specs.Kinds.{pick}
use Rattle.cpu.specs.declared.Cpu.{Cpu}
use Rattle.cpu.specs.Fields.{a7_of}
use Rattle.unwind.specs.Models.{Frame, Back}
use Rattle.unwind.specs.Frames.{Sight, frame_of}
use Rattle.unwind.specs.Returns.{in_user, take_frame, refused_back, done_back, second_back, first_back, back, walk, trail_of, walk_of}
use Rattle.unwind.specs.Unwind.{short_rows}
use Rattle.unwind.specs.Steps.{Stack, Step, stack, refused_step, done_step, second_step, first_step, step_of, steps_of, walk_by}

abbrev pub on_record : Stack Cpu
on_record = stack a7_of in_user (λ k c f. take_frame c f)

abbrev pub back_of : Step Cpu → Back
back_of x = record { cpu = x.after; refused = x.refused; row = x.row }

abbrev step_back : Back → Step Cpu
step_back x = record { after = x.cpu; refused = x.refused; row = x.row }

second_same : (k : ℕ) (c d : Cpu) (f : Frame) → second_step on_record k c d f ≡ step_back (second_back c d f)
unfolding second_step second_back refused_step refused_back done_step done_back
second_same k c d f = go (f.refused == 0) (f.format == 1)
  where
    go : (t u : Bool) → pick t (pick u (refused_step c 13) (done_step on_record k d 1 f)) (refused_step c f.refused) ≡ step_back (pick t (pick u (refused_back c 13) (done_back d 1 f)) (refused_back c f.refused))
    go true true = refl
    go true false = refl
    go false u = refl

first_same : (v : Sight) (c : Cpu) (f : Frame) → first_step on_record v c f ≡ step_back (first_back v c f)
unfolding first_step first_back refused_step refused_back done_step done_back
first_same v c f = go (f.refused == 0) (f.format == 1)
  where
    d : Cpu
    d = take_frame c f

    go : (t u : Bool) → pick t (pick u (second_step on_record v.kind c d (frame_of v (a7_of d))) (done_step on_record v.kind c f.format f)) (refused_step c f.refused)
        ≡ step_back (pick t (pick u (second_back c d (frame_of v (a7_of d))) (done_back c f.format f)) (refused_back c f.refused))
    go true true = second_same v.kind c d (frame_of v (a7_of d))
    go true false = refl
    go false u = refl

step_same : (v : Sight) (c : Cpu) → step_of on_record v c ≡ step_back (back v c)
unfolding step_of back refused_step refused_back
step_same v c = go (in_user c)
  where
    go : (t : Bool) → pick t (refused_step c 11) (first_step on_record v c (frame_of v (a7_of c))) ≡ step_back (pick t (refused_back c 11) (first_back v c (frame_of v (a7_of c))))
    go true = refl
    go false = first_same v c (frame_of v (a7_of c))

pub back_step : (v : Sight) (c : Cpu) → back v c ≡ back_of (step_of on_record v c)
back_step v c = sym (ap back_of (step_same v c))

trail_same : (n : ℕ) (v : Sight) (c : Cpu) → steps_of n on_record v c ≡ trail_of n v c
unfolding steps_of trail_of
trail_same zero v c = refl
trail_same (suc n) v c = rw (step_same v c, trail_same n v (back v c).cpu)

pub walk_steps : (n : ℕ) (v : Sight) (c : Cpu) (ws : List ℕ) → walk_by n on_record v c ws ≡ pick (short_rows n (length ws)) (walk 10 0 ws) (walk_of n v c ws)
unfolding walk_by walk_of
walk_steps n v c ws = rw (trail_same n v c)
