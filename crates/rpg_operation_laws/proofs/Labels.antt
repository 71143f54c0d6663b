-- The same name is the same characters.
use Rattle.std.proofs.Common.{◌≡◌, Option, None, Some, true, refl, ap, ◌∙◌}
use Rattle.std.specs.Cmp.Lexicographic.{bytes_decides}
use Rattle.rpg_cards.specs.Keys.{Name}
use Rattle.rpg_cards.specs.Sections.{is_named}
use Rattle.rpg_operation_laws.specs.Labels.{NamesAreSame}

named : (wanted : Option Name) (name : Name) → is_named name wanted ≡ true → wanted ≡ Some name
named None name h = absurd cc
named (Some m) name h = ap Some ((bytes_decides m name).0 h)

pub same_names : NamesAreSame
same_names wanted name = (named wanted name, λ e. ap (is_named name) e ∙ (bytes_decides name name).1 refl)
