-- Whether a program is the translation of the cards, as far as calculations go.
use Rattle.std.specs.Prelude.{◌≡◌, All, ℕ, ◌<◌, List, [], ◌∷◌, length, map}
use Rattle.std.specs.Ordering.{nat_cmp}
use Rattle.rpg_cards.specs.Statements.{Calculation}
use Rattle.rpg_cards.specs.Keys.{Key, key_cmp}
use Rattle.rpg_compile_program.specs.Whole.{IsCodeOf}
use Rattle.rpg_program.specs.Forms.{form_at}
use Rattle.rpg_program.specs.declared.condition.Conditions.{Conditions}
use Rattle.rpg_meaning.specs.Calculations.Meaning.{Source}
use Rattle.rpg_meaning.specs.Calculations.Parts.{Part, calculations_in}
use Rattle.rpg_program.specs.Constants.{word_at}
use Rattle.rpg_program.specs.Object.{Object, lines_of}
use Rattle.rpg_program.specs.Naming.{IsRenaming, renamed_line}

-- there is an alternative, and each before the last has conditions
abbrev pub AreFilled : List (List Conditions) → Type 0
AreFilled [] = ⊥
AreFilled (a ∷ []) = Unit {0}
AreFilled (a ∷ b ∷ rest) = (0 < length a) × AreFilled (b ∷ rest)

-- the calculation has an alternative, and each before the last has conditions
abbrev pub IsFilled : Calculation Key → Type 0
IsFilled g = AreFilled g.alternatives

-- what a translated program keeps of its source
pub record IsTranslation (p : Object) (source : Source) (number : Key → ℕ) : Type 0 where
  pub level : ℕ → ℕ
  pub names : IsRenaming key_cmp nat_cmp source.forms (form_at p.fields) number
  pub words : (k : Key) → word_at p (number k) ≡ source.words k
  pub overflow : p.overflow ≡ source.overflow
  pub lines : lines_of p ≡ map (renamed_line number) source.lines
  pub code : IsCodeOf number level source.sections p
  pub filled : (part : Part) → All IsFilled (calculations_in source.sections part)
