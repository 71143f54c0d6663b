-- The codes of warnings.
use Rattle.rpg_cli_values.specs.declared.code.WarningCode.{WarningCode}
use Rattle.rpg_cli_values.specs.declared.code.WarningCode.TheVariants.{W1, W2, W3, W4, W5, W6, W7, W8, W9, W10, W11, W12, W13, W14, W15}
use Rattle.rpg_warnings_lines.specs.declared.warning.WarningKind.{WarningKind}
use Rattle.rpg_warnings_lines.specs.declared.warning.WarningKind.TheVariants as kind

-- the code of a warning
abbrev pub code : WarningKind → WarningCode
code (kind.NeverOn n) = W1
code (kind.NeverTested n) = W2
code (kind.Overlap first last card) = W3
code (kind.Shorter r f) = W4
code (kind.NoLevel n) = W5
code kind.PageConditions = W6
code (kind.SetsHalt n) = W7
code kind.BeforeRecords = W8
code kind.EachTotal = W9
code kind.NotReset = W10
code kind.Unused = W11
code kind.NoOverflow = W12
code kind.NotPrinter = W13
code (kind.LeftOut card) = W14
code (kind.NeverRead card) = W14
code kind.NoForm = W15
code kind.UnmarkedForm = W15
