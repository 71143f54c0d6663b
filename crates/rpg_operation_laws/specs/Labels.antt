-- The names of labels and subroutines.
use Rattle.std.specs.Prelude.{◌≡◌, ◌↔◌, true, Option, Some}
use Rattle.rpg_cards.specs.Keys.{Name}
use Rattle.rpg_cards.specs.Sections.{is_same_name}

-- a label or a subroutine has the name that GOTO or EXSR names if all characters are the same
abbrev pub NamesAreSame : Type 0
NamesAreSame = (wanted : Option Name) (name : Name) → (is_same_name wanted (Some name) ≡ true) ↔ (wanted ≡ Some name)
