use Rattle.std.proofs.Common.{ℕ, ◌≤◌, below_more}
use Rattle.rpg_fit_terms.specs.Fresh.{IsTaken}
use Rattle.rpg_fit_terms.proofs.fresh.FreshNames.find.Goals as goal

pub loop-number-preserved : goal.loop-number-preserved
loop-number-preserved c =
    let P : ℕ → Type 0 = λ n. c.args.self.now.next ≤ n → IsTaken c.args.view.now c.args.self.now n in
    below_more P c.loop-number.number c.loop-number.invariant (λ _. c.in-None.ensures.taken)
