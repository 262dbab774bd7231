-- The ways through the functions of a session: premises are what the calls on the way ensure and how the tests went.
use Prim.Native.Nat.{ℕ, ◌+◌, ◌<◌, ◌≤◌}
use mathlib.Core.Path.{◌≡◌, ap, ◌∙◌}
use mathlib.Core.Bool.{Bool, true, false, not}
use mathlib.Core.List.{List}
use borrow.Author.Tests.{eq-eqb, ne_eqb}
use lib.Dec.{eqb}
use lib.ListN.{length}
use Rattle.cpu.specs.Fields.{pc_of, a7_of}
use Rattle.status.specs.Status.{get_sr}
use Rattle.memory.specs.declared.Core.{Core}
use Rattle.memory.specs.World.{World, world}
use Rattle.memory.specs.Served.{served_of}
use Rattle.numbers.specs.declared.RawCall.{RawCall}
use Rattle.numbers.specs.Numbers.{flag}
use Rattle.boundary.specs.Calls.{outcome, raw_call}
use Rattle.unwind.specs.Models.{Returned}
use Rattle.unwind.specs.Unwind.{return_from}
use Rattle.prints.specs.Prints.{more, laid, state_line, refused_line}
use Rattle.prints.specs.Laws.{laid_room, more_none}
use Rattle.sessions.specs.Sessions.{Session, session, charge_of, state_of, interrupted, returned, return_told, long_told}
use Rattle.sessions.specs.Numbered.{numbered, cycles_of, told, entered_by}
use Rattle.sessions.proofs.ByNumber.{interrupt_same}

pub cycles_charge : (m : Core) (n a k : ℕ) → n ≡ 22 → k ≡ charge_of m (not (eqb a 0)) → k ≡ cycles_of m n a
unfolding cycles_of flag
cycles_charge m n a k h e = rw (eq-eqb n 22 h) e

pub cycles_answer : (m : Core) (n a : ℕ) → (n ≡ 22 → ⊥) → a ≡ cycles_of m n a
unfolding cycles_of
cycles_answer m n a h = rw (ne_eqb n 22 h)

pub told_refused : (m : Core) (b u : List ℕ) (n k : ℕ) → ¬ (n ≡ 0) → u ≡ more b (refused_line n) → u ≡ more b (told m n k)
unfolding told
told_refused m b u n k h e = rw (ne_eqb n 0 h) e

pub tell_way : (m : Core) (u o : List ℕ) (n k sr a7 : ℕ) → length o + 34 ≤ 163840 → n ≡ 0 → sr ≡ get_sr m.cpu → a7 ≡ a7_of m.cpu
    → u ≡ laid 163840 o (state_line k m.cpu.flow.pc sr a7) → u ≡ more o (told m n k)
unfolding told state_of pc_of
tell_way m u o n k sr a7 room h f g e = rw (eq-eqb n 0 h, ← f, ← g) (laid_room 163840 o _ u room e)

pub enter_way : (w w2 : World) (s u : List ℕ) (c : RawCall) (n a e k : ℕ) → outcome w2 n a e ≡ raw_call w c → k ≡ cycles_of w2.core c.number a → u ≡ more s (told w2.core n k)
    → session w2 u ≡ entered_by (session w s) c
unfolding entered_by
enter_way w w2 s u c n a e k p q f = rw (← p, ← q) (ap (session w2) f)

pub interrupt_way : (w w2 : World) (s : List ℕ) (r : Session) (l n a e : ℕ) (c d : RawCall) → c ≡ numbered 20 l → l < 256 → outcome w2 n a e ≡ raw_call w c → d ≡ numbered 22 0
    → r ≡ entered_by (session w2 s) d → r ≡ interrupted (session w s) l
interrupt_way w w2 s r l n a e c d i b p j f =
    f ∙ ap (entered_by (session w2 s)) j ∙ interrupt_same w w2 s l n a e b (p ∙ ap (raw_call w) i)

pub return_way : (m : Core) (st l b u : List ℕ) (x : Returned) → x ≡ return_from m st → u ≡ more b (told x.core x.refused 0) → session (world x.core st l) u ≡ returned (session (world m st l) b)
unfolding returned return_told told
return_way m st l b u x e f = rw (← e) (ap (session (world x.core st l)) f)

-- a `long` that is served prints nothing, one that is not is refused
pub long_quiet : (m : Core) (s b : List ℕ) (a : ℕ) (t : Bool) → t ≡ served_of m.bus (length s) a 4 → t ≡ true → b ≡ more b (long_told m s a)
unfolding long_told
long_quiet m s b a t e f = rw (← e, f, more_none)

pub long_refused : (m : Core) (s b u : List ℕ) (a : ℕ) (t : Bool) → t ≡ served_of m.bus (length s) a 4 → t ≡ false → u ≡ more b (refused_line 14) → u ≡ more b (long_told m s a)
unfolding long_told
long_refused m s b u a t e f h = rw (← e, f) h
