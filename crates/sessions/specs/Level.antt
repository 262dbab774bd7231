-- "`irq` is `set_irq` and then the interrupt call; the level stays set if that call is refused".
use Rattle.std.specs.Prelude.{ℕ, ◌≡◌, false, eqb}
use Rattle.memory.specs.World.{World}
use Rattle.answers.specs.declared.Call.TheVariants.{SetIrq, CheckAndServiceInterrupts}
use Rattle.calls.specs.Calls.{refusal, perform}
use Rattle.prints.specs.Prints.{refused_line}
use Rattle.sessions.specs.Sessions.{Session, say, answer_told, entered, interrupted}

-- where the interrupt call is refused, the world is as `set_irq` left it, and the number is printed
pub level_stays : (s : Session) (n : ℕ) (w : World) → w ≡ (perform s.after (SetIrq n)).after → eqb (refusal w CheckAndServiceInterrupts) 0 ≡ false
    → interrupted s n ≡ say s w (refused_line (refusal w CheckAndServiceInterrupts))
unfolding interrupted entered perform answer_told
level_stays s n w e h = rw (← e, h)
