-- The conditions of a line: those of its card with its AND cards, or those of an OR card with its AND cards.
use Rattle.std.specs.Prelude.{ℕ, List, [], ◌∷◌, Bool, true, false, not, ◌&&◌, ◌||◌, ◌==◌, Option, None, Some, is_some, if◌then◌else◌}
use Rattle.std.specs.Option.{option_and_then, option_map_or, option_or}
use Rattle.rpg_cards.specs.Cards.{output_on}
use Rattle.rpg_cards.specs.declared.spec_card.SpecCard.{SpecCard}
use Rattle.rpg_sheet_specs.specs.declared.indicator.ConditionSpec.{ConditionSpec}
use Rattle.rpg_sheet_specs.specs.declared.indicator.Three.{Three}
use Rattle.rpg_sheet_specs.specs.declared.output.OutputRecord.{OutputRecord}
use Rattle.rpg_sheet_specs.specs.declared.output.OutputSpec.{OutputSpec}
use Rattle.rpg_sheet_specs.specs.declared.output.OutputSpec.TheVariants as output
use Rattle.rpg_sheet_specs.specs.declared.spec.Spec.{Spec}
use Rattle.rpg_warnings_lines.specs.declared.alternatives.ConditionTest.{ConditionTest}
use Rattle.rpg_warnings_lines.specs.declared.alternatives.ConditionTest.TheVariants as tests

-- L0 or 1P: these alone are on before the first record
abbrev pub is_on_first : ℕ → Bool
is_on_first n = n == 100 || n == 111

-- 1P or LR: each is on once a job
abbrev pub is_on_once : ℕ → Bool
is_on_once n = n == 110 || n == 111

-- the condition is met before the first record, and isn't 1P; it is L0; it isn't 1P or LR
abbrev pub passes : ConditionTest → ConditionSpec → Bool
passes tests.Open c = if c.negated then not (is_on_first c.indicator) else c.indicator == 100
passes tests.Always c = not c.negated && c.indicator == 100
passes tests.Repeated c = c.negated || not (is_on_once c.indicator)

-- there is no condition, or it passes
abbrev pub one_passes : ConditionTest → Option ConditionSpec → Bool
one_passes test c = option_map_or (passes test) c true

-- each of a card's conditions passes
abbrev pub all_pass : ConditionTest → Three (Option ConditionSpec) → Bool
all_pass test t = one_passes test t.first && one_passes test t.second && one_passes test t.third

-- the conditions of an AND card
abbrev pub and_in : OutputSpec → Option (Three (Option ConditionSpec))
and_in (output.And t) = Some t
and_in _ = None

-- the conditions of an OR card
abbrev pub or_in : OutputSpec → Option (Three (Option ConditionSpec))
or_in (output.Or t) = Some t
or_in _ = None

-- those of an AND card, on any card
abbrev pub and_on : Spec → Option (Three (Option ConditionSpec))
and_on s = option_and_then and_in (output_on s)

-- those of an OR card, on any card
abbrev pub or_on : Spec → Option (Three (Option ConditionSpec))
or_on s = option_and_then or_in (output_on s)

-- the AND cards that come next pass
abbrev pub rest_passes : ConditionTest → List SpecCard → Bool
rest_passes test [] = true
rest_passes test (c ∷ cs) = option_map_or (λ t. all_pass test t && rest_passes test cs) (and_on c.spec) true

-- an OR card whose conditions pass, with those of its AND cards
abbrev pub or_passes : ConditionTest → SpecCard → List SpecCard → Bool
or_passes test c cs = option_map_or (λ t. all_pass test t && rest_passes test cs) (or_on c.spec) false

-- an AND or OR card
abbrev pub continues : Spec → Bool
continues s = is_some (and_on s) || is_some (or_on s)

-- one of the alternatives that come next passes
abbrev pub any_or_passes : ConditionTest → List SpecCard → Bool
any_or_passes test [] = false
any_or_passes test (c ∷ cs) = continues c.spec && (or_passes test c cs || any_or_passes test cs)

-- an alternative of the line passes; its card comes before these
abbrev pub line_passes : ConditionTest → OutputRecord → List SpecCard → Bool
line_passes test r cs = (all_pass test r.conditions && rest_passes test cs) || any_or_passes test cs

-- the condition is 1P
abbrev pub is_first_page : Option ConditionSpec → Bool
is_first_page c = option_map_or (λ x. not x.negated && x.indicator == 111) c false

-- one of a card's conditions is 1P
abbrev pub names_first_page : Three (Option ConditionSpec) → Bool
names_first_page t = is_first_page t.first || is_first_page t.second || is_first_page t.third

-- one of the AND and OR cards that come next names 1P
abbrev pub rest_names_first_page : List SpecCard → Bool
rest_names_first_page [] = false
rest_names_first_page (c ∷ cs) = option_map_or (λ t. names_first_page t || rest_names_first_page cs) (option_or (and_on c.spec) (or_on c.spec)) false

-- a condition of the line is 1P; its card comes before these
abbrev pub line_names_first_page : OutputRecord → List SpecCard → Bool
line_names_first_page r cs = names_first_page r.conditions || rest_names_first_page cs
