use Rattle.std.proofs.Common.{subst, sym}
use Rattle.std.proofs.lemmas.List.Elements.{All-push}
use Rattle.std.specs.Prelude.{All}
use Rattle.rpg_compile.specs.Marked.{IsMarked}
use Rattle.rpg_compile.proofs.code.Code.push.Goals as goal

pub invariant_of-self-2 : goal.invariant_of-self-2
invariant_of-self-2 c = subst (λ is. All IsMarked is) (sym c.in_ok-push.ensures.items) (All-push IsMarked _ _ c.self.invariant c.requires)
