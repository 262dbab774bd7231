-- The nest of a session ends with the record, the bus, the store and the log that the session has.
use Rattle.std.specs.Prelude.{ℕ, Option as Optional, Some, None, ◌≡◌, Bool, List, [], ◌∷◌, ◌++◌, length}
use Rattle.std.proofs.Math.Path.{refl, sym, ap}
use Rattle.std.proofs.Common.{◌∙◌}
use Rattle.std.proofs.Math.Bool.{true, false}
use Rattle.std.proofs.Math.Option.{Option, none, some}
use Rattle.std.proofs.lemmas.Bool.{eqb-false}
use Rattle.std.proofs.Math.Dec.{eqb}
use Rattle.types.specs.Kinds.{pick}
use Rattle.memory.specs.declared.Core.{Core}
use Rattle.memory.specs.World.{World, cpu_of, put_cpu}
use Rattle.answers.specs.declared.Call.{Call}
use Rattle.answers.specs.declared.Call.TheVariants as call
use Rattle.answers.specs.Answer.{Refused}
use Rattle.answers.specs.Answers.{answered}
use Rattle.calls.specs.Calls.{begun, refusal, perform}
use Rattle.calls.specs.Calls.{run as performed}
use Rattle.unwind.specs.Returns.{back, refused_back}
use Rattle.unwind.specs.Unwind.{sight_of, returned, return_from}
use Rattle.unwind.specs.Unwind.{refusal as refusal_here}
use Rattle.unwind.proofs.Laws.{return_refused}
use Rattle.unwind.specs.Models.{Returned}
use Rattle.forms.specs.Plans.{Plan}
use Rattle.forms.specs.Forms.{plan_of}
use Rattle.nest.specs.Nest.{Step, entry, return, State, Page, refused, denied, exec, run, fed, strike, after_entry, after_return}
use Rattle.nest.specs.Nest.{returned as given}
use Rattle.entered.specs.Machines.{direct, Direct, room_of, outcome, by_plan}
use Rattle.entered.proofs.Machines.{enter_is}
use Rattle.rule3.specs.Rule3.{give_back, Real}
use Rattle.lines.specs.declared.Command.{Command}
use Rattle.lines.specs.declared.Command.TheVariants.{Kind, Pc, Ppc, A7, Long, Exc, Trap, Irq, Walk, Ret}
use Rattle.sessions.specs.Sessions.{Session, on_core, entered, interrupted, act}
use Rattle.sessions.specs.Sessions.{returned as session_returned}
use Rattle.printed.specs.Steps.{steps_of}

-- the state of a nest in a world, with a book
abbrev pub standing : World → List Page → State Real
standing w b = record { rec = cpu_of w; sto = room_of w; book = b }

-- ---- one step

-- an entry leaves the world that its call leaves; refused, it leaves the world as it was
module _ (w : World) (c : Call) (d : direct c ≡ true) (b : List Page) where
  abbrev this : Direct
  this = record { call = c; is = d }

  enters : exec Real (entry this) (standing w b) ≡ standing (perform w c).after (fed Real this (standing w b))
  unfolding by_plan perform
  enters = rw (enter_is w c d) (go (eqb (refusal w c) 0) (plan_of (begun w) c))
    where
      go : (t : Bool) (o : Option Plan)
          → after_entry Real this (standing w b) (pick t (outcome o (pick t (performed (begun w) c) (answered w (Refused (refusal w c)))).after) (refused (refusal w c)))
          ≡ standing (pick t (performed (begun w) c) (answered w (Refused (refusal w c)))).after (fed Real this (standing w b))
      go true none = refl
      go true (some p) = refl
      go false o = refl

-- a return leaves the bus
pub return_bus : (m : Core) (s : List ℕ) → (return_from m s).core.bus ≡ m.bus
unfolding return_from returned put_cpu
return_bus m s = go (eqb (refusal_here m (length s)) 0)
  where
    go : (t : Bool) → (pick t (returned m (back (sight_of m s) m.cpu)) (returned m (refused_back m.cpu (refusal_here m (length s))))).core.bus ≡ m.bus
    go true = refl
    go false = refl

-- a return leaves the record that the public return leaves; refused, it leaves it as it was
module _ (w : World) (b : List Page) where
  abbrev x : Returned
  x = return_from w.core w.store

  returns : exec Real return (standing w b) ≡ standing (on_core w x.core) (exec Real return (standing w b)).book
  unfolding give_back
  returns = go (eqb x.refused 0) refl
    where
      go : (t : Bool) → eqb x.refused 0 ≡ t
          → after_return Real (standing w b) (pick t (given x.core.cpu) (denied x.refused))
          ≡ standing (on_core w x.core) (after_return Real (standing w b) (pick t (given x.core.cpu) (denied x.refused))).book
      go true e = λ i. record { rec = x.core.cpu; sto = record { bus = sym (return_bus w.core w.store) i; bytes = w.store; log = w.log }; book = strike Real b }
      go false e = ap (λ (m : Core). standing (on_core w m) b) (sym (return_refused w.core w.store (eqb-false x.refused 0 e)))

-- ---- one command, and the lines

-- that a state stands in a world, whatever its book
pub same_book : (w : World) (b : List Page) (st : State Real) → st ≡ standing w b → st ≡ standing w st.book
same_book w b st e = e ∙ ap (standing w) (sym (ap (λ (z : State Real). z.book) e))

pub command_follows : (s : Session) (c : Optional Command) (b : List Page) → run Real (steps_of s c) (standing s.after b) ≡ standing (act s c).after (run Real (steps_of s c) (standing s.after b)).book
unfolding steps_of act entered interrupted session_returned
command_follows s (Some (Exc v)) b = same_book _ _ _ (enters s.after (call.TakeException v) refl b)
command_follows s (Some (Trap n)) b = same_book _ _ _ (enters s.after (call.Trap n) refl b)
command_follows s (Some (Irq n)) b = same_book _ _ _ (enters (perform s.after (call.SetIrq n)).after call.CheckAndServiceInterrupts refl b)
command_follows s (Some Ret) b = returns s.after b
command_follows s (Some (Kind k)) b = refl
command_follows s (Some (Pc v)) b = refl
command_follows s (Some (Ppc v)) b = refl
command_follows s (Some (A7 v)) b = refl
command_follows s (Some (Long a v)) b = refl
command_follows s (Some (Walk n)) b = refl
command_follows s None b = refl

pub run_append : (xs ys : List (Step Real)) (st : State Real) → run Real (xs ++ ys) st ≡ run Real ys (run Real xs st)
run_append [] ys st = refl
run_append (x ∷ xs) ys st = run_append xs ys (exec Real x st)
