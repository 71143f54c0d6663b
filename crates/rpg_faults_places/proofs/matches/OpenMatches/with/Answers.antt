use Rattle.std.proofs.Common.{Some, ap, sym, ◌∙◌}
use Rattle.rpg_faults_places.proofs.MatchLemmas.{matches_with, matches_without}
use Rattle.rpg_faults_places.proofs.matches.OpenMatches.with.Goals as goal

pub returns-in-None : goal.returns-in-None
returns-in-None c = λ specs is. matches_without c.args.self specs c.args.field.now is c.in-None.is

pub returns-in-Some : goal.returns-in-Some
returns-in-Some c = λ specs is.
    matches_with c.args.self specs c.args.field.now c.number.result c.columns_of.result c.saturating_add.result is
    (c.in-Some.is ∙ ap (λ n. Some n) (sym c.number.ensures.value)) c.number.ensures.first c.number.ensures.last c.columns_of.ensures c.saturating_add.ensures
