-- What each command does: a law an arm of `act`, whose premises are what its calls ensure.
use Rattle.std.specs.Prelude.{ℕ, ◌<◌, ◌≡◌, refl, Option, Some, None, Bool, true, false, List, length, replicate}
use Rattle.std.proofs.Common.{ap, ◌∙◌}
use Rattle.cpu.specs.declared.Cpu.{Cpu}
use Rattle.cpu.specs.Fields.{set_pc, set_ppc, set_a7}
use Rattle.memory.specs.declared.Core.{Core}
use Rattle.memory.specs.Served.{served_of}
use Rattle.memory.specs.World.{world, put_cpu, poke_long}
use Rattle.numbers.specs.declared.RawCall.{RawCall}
use Rattle.lines.specs.declared.Command.{Command}
use Rattle.lines.specs.declared.Command.TheVariants as command
use Rattle.lines.specs.Commands.{command_of}
use Rattle.prints.specs.Prints.{more, refused_line}
use Rattle.prints.specs.Laws.{more_none}
use Rattle.sessions.specs.Walks.{walked}
use Rattle.sessions.specs.Sessions.{Session, session, fresh_core, cleared, long_told, interrupted, returned, act, step}
use Rattle.sessions.specs.Numbered.{numbered, entered_by}
use Rattle.sessions.proofs.ByNumber.{exc_same, trap_same}

pub act_none : (q : Session) (u : List ℕ) (x : Option Command) → x ≡ None → u ≡ more q.printed (refused_line 14) → session q.after u ≡ act q x
unfolding act
act_none q u x p e = rw p (ap (session q.after) e)

module _ (y : Command) (m : Core) (s l b : List ℕ) where
  abbrev q : Session
  q = session (world m s l) b

  pub act_kind : (d : Core) (t : List ℕ) (k : ℕ) → y ≡ command.Kind k → d ≡ fresh_core k → t ≡ replicate (length s) 0 → session (world d t l) b ≡ act q (Some y)
  unfolding act cleared
  act_kind d t k e f g = rw (e, f, g) refl

  pub act_pc : (c : Cpu) (v : ℕ) → y ≡ command.Pc v → c ≡ set_pc m.cpu v → session (world (record { cpu = c; bus = m.bus }) s l) b ≡ act q (Some y)
  unfolding act put_cpu
  act_pc c v e f = rw (e, f) refl

  pub act_ppc : (c : Cpu) (v : ℕ) → y ≡ command.Ppc v → c ≡ set_ppc m.cpu v → session (world (record { cpu = c; bus = m.bus }) s l) b ≡ act q (Some y)
  unfolding act put_cpu
  act_ppc c v e f = rw (e, f) refl

  pub act_a7 : (c : Cpu) (v : ℕ) → y ≡ command.A7 v → c ≡ set_a7 m.cpu v → session (world (record { cpu = c; bus = m.bus }) s l) b ≡ act q (Some y)
  unfolding act put_cpu
  act_a7 c v e f = rw (e, f) refl

  -- a `long` that is served prints nothing, one that is not is refused
  pub act_long : (t : List ℕ) (a v : ℕ) (k : Bool) → y ≡ command.Long a v → k ≡ served_of m.bus (length s) a 4 → k ≡ true → t ≡ poke_long m.bus s a v → session (world m t l) b ≡ act q (Some y)
  unfolding act long_told
  act_long t a v k e f g h = rw (e, ← f, g, h, more_none) refl

  pub act_long_refused : (t u : List ℕ) (a v : ℕ) (k : Bool) → y ≡ command.Long a v → k ≡ served_of m.bus (length s) a 4 → k ≡ false → t ≡ poke_long m.bus s a v
      → u ≡ more b (refused_line 14) → session (world m t l) u ≡ act q (Some y)
  unfolding act long_told
  act_long_refused t u a v k e f g h i = rw (e, ← f, g, ← h) (ap (session (world m t l)) i)

  pub act_exc : (v : ℕ) (c : RawCall) (r : Session) → y ≡ command.Exc v → c ≡ numbered 1 v → r ≡ entered_by q c → r ≡ act q (Some y)
  unfolding act
  act_exc v c r e i f = rw e (f ∙ ap (entered_by q) i ∙ exc_same q v)

  pub act_trap : (n : ℕ) (c : RawCall) (r : Session) → y ≡ command.Trap n → c ≡ numbered 2 n → n < 256 → r ≡ entered_by q c → r ≡ act q (Some y)
  unfolding act
  act_trap n c r e i h f = rw e (f ∙ ap (entered_by q) i ∙ trap_same q n h)

  pub act_irq : (n : ℕ) (r : Session) → y ≡ command.Irq n → r ≡ interrupted q n → r ≡ act q (Some y)
  unfolding act
  act_irq n r e f = rw e f

  pub act_walk : (d : Core) (u : List ℕ) (n : ℕ) → y ≡ command.Walk n → d ≡ m → u ≡ more b (walked m s n) → session (world d s l) u ≡ act q (Some y)
  unfolding act
  act_walk d u n e f g = rw (e, f) (ap (session (world m s l)) g)

  pub act_ret : (r : Session) → y ≡ command.Ret → r ≡ returned q → r ≡ act q (Some y)
  unfolding act
  act_ret r e f = rw e f

pub line_step : (q r : Session) (x : Option Command) (l : List ℕ) → x ≡ command_of l → r ≡ act q x → r ≡ step q l
unfolding step
line_step q r x l p e = rw (← p) e
