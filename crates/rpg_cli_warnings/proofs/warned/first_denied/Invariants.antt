use Rattle.std.proofs.Common.{◌≡◌, drop}
use Rattle.std.specs.Prelude.{find}
use Rattle.rpg_cli_warnings.specs.Warned.{is_denied}
use Rattle.rpg_cli_warnings.proofs.warned.first_denied.Given as goal

abbrev pub invariant-loop-warning : goal.invariant-loop-warning
invariant-loop-warning l = find (is_denied l.denied) (drop l.warning-index l.warnings) ≡ find (is_denied l.denied) l.warnings
