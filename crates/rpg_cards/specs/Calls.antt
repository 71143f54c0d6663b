-- Calls of subroutines by subroutines.
use Rattle.std.specs.Prelude.{ℕ, List, [], ◌∷◌, ◌++◌, if◌then◌else◌, Option, None, Some}
use Rattle.std.specs.Option.{option_and_then, option_map, option_to_list}
use Rattle.rpg_cards.specs.Statements.{Calculation}
use Rattle.rpg_cards.specs.Keys.{Key}
use Rattle.rpg_cards.specs.Labels.{label_named, labels, section_of, target_name}
use Rattle.rpg_cards.specs.declared.labels.Label.{Label}
use Rattle.rpg_cards.specs.declared.labels.Named.{Named}
use Rattle.rpg_cards.specs.declared.labels.Section.{Section}
use Rattle.rpg_symbols.specs.Chains.{Call, Calls}
use Rattle.rpg_cards.specs.declared.labels.Section.TheVariants.{Subroutine}

-- the number of a subroutine's section
abbrev pub subroutine_in : Section → Option ℕ
subroutine_in (Subroutine n) = Some n
subroutine_in _ = None

-- the subroutine that a name calls, if the source has it
abbrev pub called_subroutine : List Label → Named → Option ℕ
called_subroutine given n = if n.is_subroutine then option_and_then (λ (l : Label). if l.named.is_subroutine then subroutine_in l.section else None) (label_named n.name given) else None

-- caller and callee
abbrev pub call_at : List Label → List (Calculation Key) → Calculation Key → Option Call
call_at given before g = option_and_then (λ caller. option_map (λ callee. (caller, callee)) (option_and_then (called_subroutine given) (target_name g.statement))) (subroutine_in (section_of before g))

-- the calls in calculations that follow these, in order
abbrev pub calls_after : List Label → List (Calculation Key) → List (Calculation Key) → Calls
calls_after given before [] = []
calls_after given before (g ∷ gs) = option_to_list (call_at given before g) ++ calls_after given (before ++ g ∷ []) gs

-- all calls of subroutines by subroutines
abbrev pub calls : List (Calculation Key) → Calls
calls gs = calls_after (labels gs) [] gs
