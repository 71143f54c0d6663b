use Rattle.rpg_faults_places.proofs.MatchLemmas.{with_free, with_taken, without_columns}
use Rattle.rpg_faults_places.proofs.matches.lengths_with.Goals as goal

pub returns-then-columns-eq0 : goal.returns-then-columns-eq0
returns-then-columns-eq0 c = λ fs f valid at of.
    without_columns fs f c.args.found c.unwrap_or-lengths.result c.args.level c.args.columns valid c.unwrap_or-lengths.ensures at c.requires.low c.requires.high of c.if-columns-eq0.true

pub returns-then-before-eq0 : goal.returns-then-before-eq0
returns-then-before-eq0 c = λ fs f valid at of.
    with_free fs f c.args.found c.unwrap_or-lengths.result c.args.level c.args.columns valid c.unwrap_or-lengths.ensures at c.requires.low c.requires.high of c.if-columns-eq0.false c.if-before-eq0.true

pub returns-else-before-eq0 : goal.returns-else-before-eq0
returns-else-before-eq0 c = λ fs f valid at of.
    with_taken fs f c.args.found c.unwrap_or-lengths.result c.args.level c.args.columns valid c.unwrap_or-lengths.ensures at c.requires.low c.requires.high of c.if-before-eq0.false
