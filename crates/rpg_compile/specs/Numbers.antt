-- Names with numbers: labels with their places, and subroutines.
use Rattle.std.specs.Prelude.{◌≡◌, ℕ, suc, ◌+◌, List, [], ◌∷◌, nat_eq, Option, None, Some, unwrap_or}
use Rattle.std.specs.Cmp.Lexicographic.{pointwise}
use Rattle.std.specs.Map.{lookup}
use Rattle.std.specs.Option.{option_or}
use Rattle.rpg_cards.specs.Statements.{Calculation}
use Rattle.rpg_cards.specs.Keys.{Key, Name}
use Rattle.rpg_cards.specs.Sections.{Subroutine, label_on}
use Rattle.rpg_compile_program.specs.Code.{size, sizes}
use Rattle.rpg_compile.specs.declared.numbers.NameNumbers.{NameNumbers}

-- names, each with its number
abbrev pub NumberedNames : Type 0
NumberedNames = List (List ℕ × ℕ)

-- the number of a name, if it has one: the first counts
abbrev pub number_named : NumberedNames → Option Name → Option ℕ
number_named entries None = None
number_named entries (Some n) = lookup (pointwise nat_eq n) entries

-- the number of a name, or the one for all other names
abbrev pub number_by : NameNumbers → Option Name → ℕ
number_by t n = unwrap_or (number_named t.numbers.entries n) t.otherwise

-- each name keeps its number, and any other has its number among more names
abbrev pub NumbersMore : NumberedNames → NumberedNames → NumberedNames → Type 0
NumbersMore more old new = (n : List ℕ) → lookup (pointwise nat_eq n) new ≡ option_or (lookup (pointwise nat_eq n) old) (lookup (pointwise nat_eq n) more)

-- a name with its number, if there is one, before the others
abbrev pub with_numbered_name : Option Name → ℕ → NumberedNames → NumberedNames
with_numbered_name None number rest = rest
with_numbered_name (Some n) number rest = (n, number) ∷ rest

-- the labels of calculations from a place on, each with its place
abbrev pub labels_from : ℕ → List (Calculation Key) → NumberedNames
labels_from place [] = []
labels_from place (g ∷ gs) = with_numbered_name (label_on g.statement) place (labels_from (place + size g) gs)

-- the names of subroutines from a number on
abbrev pub names_from : ℕ → List (Subroutine Key) → NumberedNames
names_from number [] = []
names_from number (s ∷ ss) = with_numbered_name s.name number (names_from (suc number) ss)

-- the instructions of subroutines
abbrev pub body_sizes : List (Subroutine Key) → ℕ
body_sizes [] = 0
body_sizes (s ∷ ss) = sizes s.body + body_sizes ss
