use Rattle.std.proofs.Common.{◌≡◌, rules, sym}
use borrow.Author.Tests.{tests}
use Rattle.std.proofs.lemmas.Iterator.{IsFirst-from_position, YieldsList-from_slice}
use Rattle.lines.proofs.Commands.{space_first}
use Rattle.lines.proofs.space.Goals as goal

pub returns-clause-place : goal.returns-clause-place
returns-clause-place c =
    let first = IsFirst-from_position _ _ _ (λ b. b ≡ 32) (λ b. ¬ (b ≡ 32)) c.position.ensures.ran (YieldsList-from_slice c.args.s.now cc)
    (λ x q k. search (rules, tests)) (λ x q k. search (rules, tests)) in
    sym (space_first _ _ first)
