-- Whether the warnings of a source reject it.
use Rattle.std.specs.Prelude.{◌≡◌, Bool, List, None, find, IsSomeAnd}
use Rattle.rpg_cli_answers.specs.declared.answer.Answer.{Answer}
use Rattle.rpg_cli_answers.specs.declared.answer.Answer.TheVariants as answers
use Rattle.rpg_cli_values.specs.Codes.{has}
use Rattle.rpg_cli_values.specs.declared.codes.WarningCodes.{WarningCodes}
use Rattle.rpg_warnings_lines.specs.Kinds.{code}
use Rattle.rpg_warnings_lines.specs.declared.warning.Warning.{Warning}

-- a warning whose code is denied
unfoldable pub is_denied : WarningCodes → Warning → Bool
is_denied denied w = has denied (code w.kind)

-- none has a code that is denied
abbrev pub PassesWarnings : WarningCodes → List Warning → Type 0
PassesWarnings denied warnings = find (is_denied denied) warnings ≡ None

-- a warning's card and code
abbrev pub IsOfWarning : Answer → Warning → Type 0
IsOfWarning (answers.Denied card c) w = (card ≡ w.card) × (c ≡ code w.kind)
IsOfWarning answer w = ⊥

-- those of the first one that is denied
abbrev pub IsDenied : Answer → WarningCodes → List Warning → Type 0
IsDenied answer denied warnings = IsSomeAnd (find (is_denied denied) warnings) (IsOfWarning answer)
