use Rattle.std.proofs.Common.{None, Some, ap, cond, sym, ◌∙◌}
use Rattle.std.specs.Prelude.{nat_lt}
use Rattle.rpg_causes_flow.proofs.Listing.{before_is}
use Rattle.rpg_causes_flow.specs.Index.{entry_giver}
use Rattle.rpg_causes_flow.proofs.index.giver_among.Goals as goal

pub returns-in-None : goal.returns-in-None
returns-in-None c = λ front rest index n. sym (before_is c.args.names.now.entries c.args.name.now front rest None index c.in-None.ensures.value)

pub returns-in-Some : goal.returns-in-Some
returns-in-Some c = λ front rest index n.
    let first = c.in-Some.first.now in
    c.giver_if.ensures ∙ ap (λ m. cond (nat_lt first.position m) (Some (entry_giver first)) None) n ∙ sym (before_is c.args.names.now.entries c.args.name.now front rest (Some first) index c.in-Some.ensures.value)
