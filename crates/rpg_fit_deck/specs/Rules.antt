-- The numbers in the codes of rules.
use Rattle.std.specs.Prelude.{ℕ}
use Rattle.rpg_fit_deck.specs.declared.sentence.Rule.{Rule}
use Rattle.rpg_fit_deck.specs.declared.sentence.Rule.TheVariants as rules

-- the number in a rule's code
abbrev pub rule_number : Rule → ℕ
rule_number rules.Comments = 1
rule_number rules.Columns = 2
rule_number rules.Switches = 3
rule_number rules.Forms = 4
rule_number rules.Tables = 5
rule_number rules.OrTypes = 6
rule_number rules.Sequence = 7
rule_number rules.NumberedPages = 8
rule_number rules.OrSpaces = 9
rule_number rules.Figures = 10
rule_number rules.Moves = 11
rule_number rules.InputArrays = 12
rule_number rules.WholeCalculations = 13
rule_number rules.WholeOutputs = 14
rule_number rules.Places = 15
rule_number rules.Pages = 16
rule_number rules.Words = 17
rule_number rules.Dollars = 18
rule_number rules.Fetch = 19
rule_number rules.Dates = 20
rule_number rules.Disks = 21
rule_number rules.JobControl = 22
rule_number rules.Printers = 23
rule_number rules.EndOfFiles = 24
rule_number rules.MergedFiles = 25
rule_number rules.LookAhead = 26
rule_number rules.UpdatedFiles = 27
rule_number rules.ZoneCodes = 28
rule_number rules.Structures = 29
rule_number rules.SquareRoots = 30
