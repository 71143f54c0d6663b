-- The rules: for each, which rows of its table break it. Rows are counted from 0 in the table of the rule's kind. A rule doesn't apply
-- to an operand, a line's field or an input field that a lower-numbered rule rejects. The lowest-numbered broken rule is returned, and a
-- program is accepted if no rule is broken.
use Rattle.std.specs.Prelude.{ℕ, Bool, ◌&&◌, ◌==◌, List, [], ◌∷◌, ◌++◌, map, is_some, codes, decimal}
use Rattle.rpg_program.specs.Object.{Object}
use Rattle.rpg_verify_rules.specs.LineRules.{line_breaks}
use Rattle.rpg_verify_rules.specs.PlaceRules.{bodies_judged, has_stray_return, is_off_level, places_judged, with_first}
use Rattle.rpg_verify_rules.specs.TypeRules.{type_breaks}
use Rattle.rpg_verify_rules.specs.declared.rule.LineRule.TheVariants.{V2, V8, V9, V10, V11, V12, V13, V14, V15}
use Rattle.rpg_verify_rules.specs.declared.rule.PlaceRule.TheVariants.{V16, V17, V18, V19, V20, V21, V22}
use Rattle.rpg_verify_rules.specs.declared.rule.Rule.{Rule}
use Rattle.rpg_verify_rules.specs.declared.rule.Rule.TheVariants as rules
use Rattle.rpg_verify_rules.specs.declared.rule.SubroutineRule.{SubroutineRule}
use Rattle.rpg_verify_rules.specs.declared.rule.SubroutineRule.TheVariants.{V23, V24}
use Rattle.rpg_verify_rules.specs.declared.rule.TypeRule.TheVariants.{V3, V4, V5, V6, V7, V25, V26}

-- an overflow indicator without a printer
abbrev pub lacks_printer : Object → Bool
lacks_printer p = is_some p.overflow.indicator && p.printer_length == 0

-- which subroutines break the rule
abbrev pub subroutines_broken : SubroutineRule → Object → List Bool
subroutines_broken V23 p = with_first (has_stray_return p) (bodies_judged 0 p.subroutines)
subroutines_broken V24 p = map is_off_level p.subroutines

-- for each row of a rule's table, whether it breaks the rule
unfoldable pub broken : Object → Rule → List Bool
broken p rules.Overflow = lacks_printer p ∷ []
broken p (rules.Type r) = map (type_breaks r p) p.types
broken p (rules.Line r) = map (line_breaks r p) p.lines
broken p (rules.Place r) = places_judged r p
broken p (rules.Subroutine r) = subroutines_broken r p

-- the number in a rule's name: 1 for V1
abbrev pub rule_number : Rule → ℕ
rule_number rules.Overflow = 1
rule_number (rules.Line V2) = 2
rule_number (rules.Type V3) = 3
rule_number (rules.Type V4) = 4
rule_number (rules.Type V5) = 5
rule_number (rules.Type V6) = 6
rule_number (rules.Type V7) = 7
rule_number (rules.Line V8) = 8
rule_number (rules.Line V9) = 9
rule_number (rules.Line V10) = 10
rule_number (rules.Line V11) = 11
rule_number (rules.Line V12) = 12
rule_number (rules.Line V13) = 13
rule_number (rules.Line V14) = 14
rule_number (rules.Line V15) = 15
rule_number (rules.Place V16) = 16
rule_number (rules.Place V17) = 17
rule_number (rules.Place V18) = 18
rule_number (rules.Place V19) = 19
rule_number (rules.Place V20) = 20
rule_number (rules.Place V21) = 21
rule_number (rules.Place V22) = 22
rule_number (rules.Subroutine V23) = 23
rule_number (rules.Subroutine V24) = 24
rule_number (rules.Type V25) = 25
rule_number (rules.Type V26) = 26

-- the letter V and the number
abbrev pub rule_text : Rule → List ℕ
rule_text rule = codes "V" ++ decimal (rule_number rule)

-- all rules, in numeric order
abbrev pub all_rules : List Rule
all_rules =
    rules.Overflow ∷ rules.Line V2 ∷ rules.Type V3 ∷ rules.Type V4 ∷ rules.Type V5 ∷ rules.Type V6 ∷ rules.Type V7
    ∷ rules.Line V8 ∷ rules.Line V9 ∷ rules.Line V10 ∷ rules.Line V11 ∷ rules.Line V12 ∷ rules.Line V13 ∷ rules.Line V14 ∷ rules.Line V15
    ∷ rules.Place V16 ∷ rules.Place V17 ∷ rules.Place V18 ∷ rules.Place V19 ∷ rules.Place V20 ∷ rules.Place V21 ∷ rules.Place V22
    ∷ rules.Subroutine V23 ∷ rules.Subroutine V24 ∷ rules.Type V25 ∷ rules.Type V26 ∷ []
