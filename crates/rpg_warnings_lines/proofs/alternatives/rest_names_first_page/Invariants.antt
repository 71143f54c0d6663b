use Rattle.std.proofs.Common.{◌≡◌, drop}
use Rattle.rpg_warnings_lines.specs.Alternatives.{rest_names_first_page}
use Rattle.rpg_warnings_lines.proofs.alternatives.rest_names_first_page.Given as goal

abbrev pub invariant-loop-card : goal.invariant-loop-card
invariant-loop-card l = rest_names_first_page (drop l.card-index l.after) ≡ rest_names_first_page l.after
