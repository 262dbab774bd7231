-- Where a frame that lies in the store may be read, and that it is the frame that a return reads there.
use Rattle.std.proofs.Common.{◌≡◌, ℕ, ◌+◌, ◌-◌, ◌<◌, ◌≤◌, true, Some, List, refl, sym, ap, ◌∙◌, arith}
use Rattle.unwind.specs.declared.frames.Frame.{Frame as Code}
use Rattle.unwind.specs.Frames.{sight, read, head_of, frame_of}
use Rattle.fast_return.specs.Rows.{bare_bus}
use Rattle.fast_return.specs.Quick.{lies, found_of, as_found}
use Rattle.fast_return.specs.FoundLaws.{Lies, lies_means, head_six, found_frame}

pub lies_fit : (base len k a : ℕ) → lies base len k a (head_of k) ≡ true → (base ≤ a) × (a - base + head_of k ≤ len) × (a - base + 5 < len)
lies_fit base len k a e =
    let h : Lies base len k a (head_of k) = lies_means base len k a (head_of k) e in
    (h.above, h.inside, omega (arith, head_six k, h.inside))

pub found_is : (s : List ℕ) (base k p : ℕ) (f : Code) → as_found (Some f) ≡ found_of s base k p → read f ≡ frame_of (sight k (bare_bus base) s) p
unfolding bare_bus
found_is s base k p f e = ap (λ x. x.frame) e ∙ found_frame s (bare_bus base) k p refl (sym (ap (λ x. x.ok) e))
