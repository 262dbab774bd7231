-- Theorems about what specs/Fresh defines, and what rests on them.
use Prim.Native.Nat.{ℕ}
use Rattle.std.specs.Prelude.{Option, Some, None, ◌≡◌, refl, List, [], ◌∷◌, ◌++◌, length, replicate}
use Rattle.std.proofs.Common.{sym, ap, ◌∙◌}
use Rattle.std.proofs.lemmas.List.{length-replicate}
use Rattle.memory.specs.World.{world}
use Rattle.answers.specs.declared.Call.TheVariants.{TakeException, Trap, SetIrq, CheckAndServiceInterrupts}
use Rattle.lines.specs.declared.Command.{Command}
use Rattle.lines.specs.declared.Command.TheVariants as command
use Rattle.lines.specs.Commands.{command_of}
use Rattle.prints.specs.Prints.{more}
use Rattle.prints.specs.Laws.{more_none}
use Rattle.sessions.specs.Sessions.{Session, session, fresh_core, cleared, interrupted, returned, act, step as line}
use Rattle.sessions.specs.Printed.{lines_of, steps, started, printed}
use Rattle.sessions.specs.Cuts.{steps_onto}
use Rattle.sessions.specs.Fresh.{exc_quiet, trap_quiet, irq_quiet, service_quiet, Alike, called, called_alike, entered_alike, plain_alike, Sizes, act_sizes, steps_append, lines_split}

act_alike : (c : Option Command) (s r : Session) → Alike s r → Alike (act s c) (act r c)
unfolding act interrupted returned
act_alike None s r e = plain_alike (λ y. act y None) s r e (λ y. refl) (λ y. refl)
act_alike (Some (command.Kind k)) s r e = plain_alike (λ y. act y (Some (command.Kind k))) s r e (λ y. refl) (λ y. refl)
act_alike (Some (command.Pc v)) s r e = plain_alike (λ y. act y (Some (command.Pc v))) s r e (λ y. refl) (λ y. refl)
act_alike (Some (command.Ppc v)) s r e = plain_alike (λ y. act y (Some (command.Ppc v))) s r e (λ y. refl) (λ y. refl)
act_alike (Some (command.A7 v)) s r e = plain_alike (λ y. act y (Some (command.A7 v))) s r e (λ y. refl) (λ y. refl)
act_alike (Some (command.Long a v)) s r e = plain_alike (λ y. act y (Some (command.Long a v))) s r e (λ y. refl) (λ y. refl)
act_alike (Some (command.Exc v)) s r e = entered_alike (TakeException v) (exc_quiet v) s r e
act_alike (Some (command.Trap n)) s r e = entered_alike (Trap n) (trap_quiet n) s r e
act_alike (Some (command.Irq n)) s r e =
    entered_alike CheckAndServiceInterrupts service_quiet (called s (SetIrq n)) (called r (SetIrq n)) (called_alike (SetIrq n) (irq_quiet n) s r e)
act_alike (Some (command.Walk n)) s r e = plain_alike (λ y. act y (Some (command.Walk n))) s r e (λ y. refl) (λ y. refl)
act_alike (Some command.Ret) s r e = plain_alike (λ y. act y (Some command.Ret)) s r e (λ y. refl) (λ y. refl)

steps_alike : (ls : List (List ℕ)) (s r : Session) → Alike s r → Alike (steps s ls) (steps r ls)
unfolding steps line
steps_alike [] s r e = e
steps_alike (l ∷ ls) s r e = steps_alike ls (line s l) (line r l) (act_alike (command_of l) s r e)

-- two sessions whose stores have one length, and whose logs have one, print the same from a `kind` on, whatever else differs
pub kind_forgets : (s r : Session) (k : ℕ) (l : List ℕ) (ls : List (List ℕ)) → command_of l ≡ Some (command.Kind k) →
    length s.after.store ≡ length r.after.store → length s.after.log ≡ length r.after.log → s.printed ≡ r.printed →
    (steps s (l ∷ ls)).printed ≡ (steps r (l ∷ ls)).printed
unfolding steps line act cleared
kind_forgets s r k l ls e m n p =
    ap (λ (c : Option Command). (steps (act s c) ls).printed) e
    ∙ ap (λ (y : Session). y.printed) (steps_alike ls (act s (Some (command.Kind k))) (act r (Some (command.Kind k))) fresh).blind
    ∙ sym (ap (λ (c : Option Command). (steps (act r c) ls).printed) e)
  where
    fresh : Alike (act s (Some (command.Kind k))) (act r (Some (command.Kind k)))
    fresh = record {
      blind =
          ap (λ (j : ℕ). session (world (fresh_core k) (replicate j 0) []) s.printed) m
          ∙ ap (λ (bs : List ℕ). session (world (fresh_core k) (cleared r.after.store) []) bs) p;
      logs = n;
    }

-- every line keeps the length of the store, 65,536 bytes from the start on, and of the log
pub steps_sizes : (ls : List (List ℕ)) (s : Session) → Sizes (steps s ls) s
unfolding steps line
steps_sizes [] s = (refl, refl)
steps_sizes (l ∷ ls) s =
    ((steps_sizes ls (line s l)).0 ∙ (act_sizes (command_of l) s).0, (steps_sizes ls (line s l)).1 ∙ (act_sizes (command_of l) s).1)

-- "65,536 zero bytes": what a `kind` leaves in the store, after any lines
pub kind_zeros : (ls : List (List ℕ)) → cleared (steps started ls).after.store ≡ replicate 65536 0
unfolding cleared started
kind_zeros ls = ap (λ (n : ℕ). replicate n 0) ((steps_sizes ls started).0 ∙ length-replicate {A = ℕ} 65536 0)

-- from a `kind` on a session prints, after what it printed, what one that has just started prints
pub kind_anew : (bs : List (List ℕ)) (k : ℕ) (l : List ℕ) (ls : List (List ℕ)) → command_of l ≡ Some (command.Kind k) →
    (steps started (bs ++ (l ∷ ls))).printed ≡ more (steps started bs).printed (steps started (l ∷ ls)).printed
unfolding started
kind_anew bs k l ls e =
    let s : Session = steps started bs in
    ap (λ (y : Session). y.printed) (steps_append started bs (l ∷ ls))
    ∙ ap (λ (q : List ℕ). (steps (session s.after q) (l ∷ ls)).printed) (sym (more_none s.printed))
    ∙ ap (λ (y : Session). y.printed) (steps_onto s.printed (session s.after []) (l ∷ ls))
    ∙ ap (λ (q : List ℕ). more s.printed q)
    (kind_forgets (session s.after []) started k l ls e (steps_sizes bs started).0 (steps_sizes bs started).1 refl)

-- in bytes: where a line is `kind`, the input may be cut before it and played as two
pub played_as_two : (xs ys : List ℕ) (k : ℕ) (l : List ℕ) (ls : List (List ℕ)) → lines_of ys ≡ l ∷ ls → command_of l ≡ Some (command.Kind k) →
    printed (xs ++ (10 ∷ ys)) ≡ more (printed (xs ++ (10 ∷ []))) (printed ys)
unfolding printed
played_as_two xs ys k l ls f e =
    let bs : List (List ℕ) = lines_of (xs ++ (10 ∷ [])) in
    ap (λ (ms : List (List ℕ)). (steps started ms).printed) (lines_split xs ys ∙ ap (λ (ms : List (List ℕ)). bs ++ ms) f)
    ∙ kind_anew bs k l ls e
    ∙ ap (λ (ms : List (List ℕ)). more (steps started bs).printed (steps started ms).printed) (sym f)
