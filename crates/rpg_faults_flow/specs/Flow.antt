-- F10, F11, F13, F14: labels, subroutines, and transfers of control.
use Rattle.std.specs.Prelude.{◌==◌, List, [], ◌∷◌, ◌++◌, Bool, true, false, not, ◌&&◌, ◌||◌, Option, is_some}
use Rattle.std.specs.List.{list_any}
use Rattle.std.specs.Option.{option_and_then, option_map_or}
use Rattle.rpg_cards.specs.Calculations.{calculation_ending, calculations, calculations_before}
use Rattle.rpg_cards.specs.Calls.{call_at, calls}
use Rattle.rpg_cards.specs.Statements.{Calculation}
use Rattle.rpg_cards.specs.Keys.{Key, Name}
use Rattle.rpg_cards.specs.Labels.{defined_name, label_named, labels, section_of, target_name}
use Rattle.rpg_cards.specs.declared.labels.Label.{Label}
use Rattle.rpg_cards.specs.declared.labels.Named.{Named}
use Rattle.rpg_cards.specs.declared.labels.Section.{Section}
use Rattle.rpg_cards.specs.declared.labels.Section.TheVariants.{Detail, Outside, Subroutine, Total}
use Rattle.rpg_cards.specs.Names.{definitions, definitions_on, given_names, is_of}
use Rattle.rpg_cards.specs.declared.names.Definition.{Definition}
use Rattle.rpg_cards.specs.declared.spec_card.SpecCard.{SpecCard}
use Rattle.rpg_symbols.specs.Chains.{Call, Calls, reaches}

-- ---- F10: GOTO a label, EXSR a subroutine that isn't defined; a name that is defined twice is what it was first

-- both or neither
abbrev pub alike : Bool → Bool → Bool
alike true b = b
alike false b = not b

-- the name is defined, as a label or as a subroutine, as the operation requires
abbrev pub is_given_as : List Label → Named → Bool
is_given_as given n = option_map_or (λ (l : Label). alike l.named.is_subroutine n.is_subroutine) (label_named n.name given) false

-- a calculation's GOTO or EXSR names an undefined label or subroutine
abbrev pub lacks_label : List Label → Calculation Key → Bool
lacks_label given g = option_map_or (λ n. not (is_given_as given n)) (target_name g.statement) false

-- F10: the calculation that ends on the card names an undefined label or subroutine
abbrev pub lacks_target : List SpecCard → List SpecCard → SpecCard → List SpecCard → Bool
lacks_target cards before c after = option_map_or (lacks_label (labels (calculations cards))) (calculation_ending before c after) false

-- ---- F11: at the later of the two cards

-- a name that every program has, or that these define
abbrev pub is_defined : Name → List Definition → Bool
is_defined name ds = list_any (is_of name) given_names || list_any (is_of name) ds

-- a label that is already defined, or is a field by then
abbrev pub defines_again : List SpecCard → SpecCard → List SpecCard → Calculation Key → Bool
defines_again before c after g =
    option_map_or (λ (n : Named). is_some (label_named n.name (labels (calculations_before before (c ∷ after)))) || is_defined n.name (definitions (before ++ c ∷ []))) (defined_name g.statement) false

-- a field that is already a label
abbrev pub defines_label : List Label → SpecCard → Bool
defines_label given c = list_any (λ (d : Definition). is_some (label_named d.name given)) (definitions_on c.spec)

-- F11: the calculation that ends on the card defines a name again, or the card defines a field whose name is a label
abbrev pub repeats_name : List SpecCard → SpecCard → List SpecCard → Bool
repeats_name before c after =
    option_map_or (defines_again before c after) (calculation_ending before c after) false
    || defines_label (labels (calculations_before before (c ∷ after))) c

-- ---- F13: GOTO to a label of another section; no fault if one of them is outside the sections

-- two different sections
abbrev pub are_apart : Section → Section → Bool
are_apart Detail Detail = false
are_apart Total Total = false
are_apart (Subroutine m) (Subroutine n) = not (m == n)
are_apart Outside s = false
are_apart s Outside = false
are_apart s t = true

-- a GOTO from that section to that label leaves the section
abbrev pub leaves_by : Section → Named → Label → Bool
leaves_by own n l = not l.named.is_subroutine && (not n.is_subroutine && are_apart own l.section)

-- the calculation's GOTO leaves its section
abbrev pub leaves_section : List Label → List (Calculation Key) → Calculation Key → Bool
leaves_section given before g = option_map_or (λ (n : Named). option_map_or (leaves_by (section_of before g) n) (label_named n.name given) false) (target_name g.statement) false

-- F13: the calculation that ends on the card goes to a label of another section
abbrev pub leaves_its_section : List SpecCard → List SpecCard → SpecCard → List SpecCard → Bool
leaves_its_section cards before c after = option_map_or (leaves_section (labels (calculations cards)) (calculations_before before (c ∷ after))) (calculation_ending before c after) false

-- ---- F14: an EXSR in a subroutine that the one called reaches

-- a call whose callee reaches its caller
abbrev pub leads_back : Calls → Option Call → Bool
leads_back all call = option_map_or (λ (p : Call). reaches all p.1 p.0) call false

-- F14: the calculation that ends on the card calls a subroutine that reaches the one it is in
abbrev pub calls_itself : List SpecCard → List SpecCard → SpecCard → List SpecCard → Bool
calls_itself cards before c after =
    leads_back (calls (calculations cards)) (option_and_then (call_at (labels (calculations cards)) (calculations_before before (c ∷ after))) (calculation_ending before c after))
