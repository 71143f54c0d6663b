use Rattle.std.proofs.Common.{◌≡◌, List, [], length}
use Rattle.rpg_faults_places.specs.Matches.{AreValid, matches_up_to}
use Rattle.rpg_sheet_specs.specs.declared.input.InputFieldSpec.{InputFieldSpec}
use Rattle.rpg_faults_places.proofs.matches.valid_matches.Given as goal

abbrev pub invariant-cards : goal.invariant-cards
invariant-cards l = (fs : List InputFieldSpec) × AreValid fs l.found × (matches_up_to fs l.rest ≡ matches_up_to [] l.after)

abbrev pub decreases-cards : goal.decreases-cards
decreases-cards l = length l.rest
