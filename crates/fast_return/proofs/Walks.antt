-- The return that was tried, and the walk over what is kept of the record, for a call that is plainly accepted.
use Rattle.std.proofs.Common.{◌≡◌, ℕ, ◌<◌, true, Option, Some, None, IfSome, List, length, refl, sym, ap, ◌∙◌}
use Rattle.types.specs.Kinds.{pick}
use Rattle.cpu.specs.Fields.{kind_of, a7_of}
use Rattle.memory.specs.declared.Core.{Core}
use Rattle.unwind.specs.declared.frames.Frame.{Frame as Code}
use Rattle.unwind.specs.Frames.{sight}
use Rattle.unwind.specs.Returns.{walk, walk_of}
use Rattle.unwind.specs.Unwind.{short_rows, sight_of, walk_from, return_from}
use Rattle.unwind.specs.Steps.{walk_by}
use Rattle.fast_return.specs.Accepted.{accepts}
use Rattle.fast_return.specs.Quick.{as_found, found_of}
use Rattle.fast_return.specs.Patch.{going, tried, found_patch, patch_returned}
use Rattle.fast_return.specs.declared.ReturnPatch.{ReturnPatch as Patch}
use Rattle.fast_return.specs.PatchLaws.{plain_means, plain_refusal, plain_windows, try_goes}
use Rattle.fast_return.specs.Seen.{seen}
use Rattle.fast_return.specs.Rows.{bare_bus, on_seen, walk_seen}
use Rattle.fast_return.specs.WalkLaws.{walk_seen_lem, frame_bare, walk_same}

pub try_goes_by : (m : Core) (s : List ℕ) (f : Option Code) (r : Option Patch) → accepts m (length s) ≡ true → as_found f ≡ found_of s m.bus.base (kind_of m.cpu) (a7_of m.cpu) → tried r ≡ found_patch (as_found f)
    → IfSome r (λ q. return_from m s ≡ patch_returned m (going q))
try_goes_by m s f (Some p) a e h = try_goes m s a (as_found f) e (sym (ap (λ q. q.ok) h)) ∙ ap (patch_returned m) (sym h)
try_goes_by m s f None a e h = record {}

pub walk_accepted : (m : Core) (s : List ℕ) (n : ℕ) (ws : List ℕ) → accepts m (length s) ≡ true → 15 < length m.cpu.regs.dar → 7 < length m.cpu.regs.sp
    → walk_by n on_seen (sight (kind_of m.cpu) (bare_bus m.bus.base) s) (seen m.cpu) ws ≡ walk_from m s n ws
unfolding walk_by walk_from walk_seen
walk_accepted m s n ws a r b =
    rw (plain_refusal m (length s) (plain_means m (length s) a)) (ap (pick (short_rows n (length ws)) (walk 10 0 ws)) (sym (same ∙ seen_walk)))
  where
    same : walk_of n (sight_of m s) m.cpu ws ≡ walk_of n (sight (kind_of m.cpu) (bare_bus m.bus.base) s) m.cpu ws
    same =
        walk_same (sight_of m s) (sight (kind_of m.cpu) (bare_bus m.bus.base) s)
        (frame_bare (kind_of m.cpu) m.bus s (plain_windows m (length s) (plain_means m (length s) a))) n m.cpu ws

    seen_walk : walk_of n (sight (kind_of m.cpu) (bare_bus m.bus.base) s) m.cpu ws ≡ walk_seen n (sight (kind_of m.cpu) (bare_bus m.bus.base) s) (seen m.cpu) ws
    seen_walk = walk_seen_lem n (sight (kind_of m.cpu) (bare_bus m.bus.base) s) m.cpu ws (record { kind_is_lem = refl; registers = r; banks = b })
