-- Theorems about what specs/Tests defines, and what rests on them.
use Rattle.std.specs.Prelude.{◌≤◌, ◌≡◌, true, List, [], ◌∷◌, length}
use Rattle.cpu.specs.Fields.{kind_of}
use Rattle.memory.specs.World.{World, cpu_of}
use Rattle.images.specs.Images.{new_a7, most_store}
use Rattle.forms.specs.Gist.{framed_by}
use Rattle.forms.specs.Plans.{Push, Plan, turned, stack_all, AllReady, Clean}
use Rattle.forms.specs.Tests.{fields_test, stacks_test, reach_test, clean_test, both_of, test_allowed, test_reachable, Whole, Safe, AllSafe, turned_whole, turned_length, framed_whole, framed_length, whole_sound}

pub stacks_ready : (x : World) (ps : List Push) → Whole (cpu_of x) → length x.store ≤ most_store → AllSafe ps → stacks_test x ps ≡ true → AllReady x ps × Whole (cpu_of (stack_all x ps))
unfolding AllReady AllSafe stacks_test stack_all
stacks_ready x [] h l s e = (tt, h)
stacks_ready x (p ∷ ps) h l s e =
    let y : World = turned x p.turn in
    let u : Whole (cpu_of y) = turned_whole x p.turn (s.0 (cpu_of x) h) in
    let b = both_of (fields_test y.core.bus (length y.store) (kind_of (cpu_of y)) (new_a7 y p.frame) p.frame p.frame.count) (stacks_test (framed_by y p.frame) ps) e in
    let m : length y.store ≤ most_store = rw (turned_length x p.turn) l in
    let r = stacks_ready (framed_by y p.frame) ps (framed_whole y p.frame u) (rw (framed_length y p.frame) m) s.1 b.1 in
    ((record { sound = whole_sound (cpu_of y) u; allowed = test_allowed y.core.bus (length y.store) (kind_of (cpu_of y)) (new_a7 y p.frame) p.frame p.frame.count b.0; small = m }, r.0), r.1)

-- a plan of safe steps, from a record of the domain with a store that number 5 accepts
pub clean_tested : (x : World) (p : Plan) → Whole (cpu_of x) → length x.store ≤ most_store → AllSafe p.pushes → Safe p.settle → clean_test x p ≡ true → Clean x p
unfolding clean_test
clean_tested x p h l s t e =
    let b = both_of (stacks_test x p.pushes) (reach_test (turned (stack_all x p.pushes) p.settle) p.vector) e in
    let r = stacks_ready x p.pushes h l s b.0 in
    record {
      stacks = r.0;
      reach = test_reachable (turned (stack_all x p.pushes) p.settle) p.vector (turned_whole (stack_all x p.pushes) p.settle (t (cpu_of (stack_all x p.pushes)) r.1)).running b.1;
    }
