-- Theorems about what specs/Numbered defines, and what rests on them.
use Rattle.std.specs.Prelude.{ℕ, ◌<◌, ◌≡◌, List}
use Rattle.std.proofs.Common.{ap, ◌∙◌}
use Rattle.memory.specs.World.{World}
use Rattle.answers.specs.declared.Call.TheVariants.{TakeException, Trap, CheckAndServiceInterrupts}
use Rattle.calls.specs.Calls.{begun}
use Rattle.boundary.specs.Calls.{Outcome, outcome, of_performed, raw_call}
use Rattle.sessions.specs.Sessions.{Session, session, entered, interrupted}
use Rattle.sessions.specs.Numbered.{numbered, entered_by, raw_exc, raw_trap, raw_level, raw_service, performed_tells, exc_tells, trap_tells, service_tells, by_number_lem}

pub exc_same : (s : Session) (v : ℕ) → entered_by s (numbered 1 v) ≡ entered s (TakeException v)
exc_same s v = by_number_lem s (numbered 1 v) (TakeException v) (raw_exc s.after v) (performed_tells 1 s.after (TakeException v) (exc_tells (begun s.after) v))

pub trap_same : (s : Session) (n : ℕ) → n < 256 → entered_by s (numbered 2 n) ≡ entered s (Trap n)
trap_same s n l = by_number_lem s (numbered 2 n) (Trap n) (raw_trap s.after n l) (performed_tells 2 s.after (Trap n) (trap_tells (begun s.after) n))

pub service_same : (s : Session) → entered_by s (numbered 22 0) ≡ entered s CheckAndServiceInterrupts
service_same s = by_number_lem s (numbered 22 0) CheckAndServiceInterrupts (raw_service s.after) (performed_tells 22 s.after CheckAndServiceInterrupts (service_tells (begun s.after)))

-- the level set, and then the interrupt call
pub interrupt_same : (w w2 : World) (bs : List ℕ) (n k a e : ℕ) → n < 256 → outcome w2 k a e ≡ raw_call w (numbered 20 n) → entered_by (session w2 bs) (numbered 22 0) ≡ interrupted (session w bs) n
unfolding interrupted of_performed
interrupt_same w w2 bs n k a e l h =
    service_same (session w2 bs) ∙ ap (λ (o : Outcome). entered (session o.after bs) CheckAndServiceInterrupts) (h ∙ raw_level w n l)
