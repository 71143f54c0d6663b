-- Names that no card has.
use Rattle.std.specs.Prelude.{◌≡◌, ℕ, ◌+◌, ◌-◌, ◌/◌, ◌%◌, ◌<◌, ◌≤◌, Bool, true, ◌==◌, ◌||◌, nat_lt, List, [], ◌∷◌, ◌++◌, length, take, if◌then◌else◌}
use Rattle.rpg_fit_deck.specs.Words.{cut, word_text}
use Rattle.rpg_fit_deck.specs.declared.view.View.{View}
use Rattle.rpg_fit_terms.specs.declared.fresh.FreshNames.{FreshNames}
use Rattle.rpg_fit_terms.specs.Names.{is_name_used, is_reserved}

-- a digit's character
abbrev pub digit : ℕ → ℕ
digit n = 48 + n % 10

-- the digits of a number below 10,000, without zeros in front; none for 0
abbrev pub suffix_of : ℕ → List ℕ
suffix_of n =
    if n == 0 then []
    else (if nat_lt n 10 then digit n ∷ []
    else (if nat_lt n 100 then digit (n / 10) ∷ digit n ∷ []
    else (if nat_lt n 1000 then digit (n / 100) ∷ digit (n / 10) ∷ digit n ∷ []
    else digit (n / 1000) ∷ digit (n / 100) ∷ digit (n / 10) ∷ digit n ∷ [])))

-- the name of a number: as much of the stem as there is room for before the digits, and the digits
abbrev pub candidate : List ℕ → ℕ → ℕ → List ℕ
candidate stem room n = cut (take (room - length (suffix_of n)) stem ++ suffix_of n)

-- a name that a card has, or that is predefined
abbrev pub is_taken : View → List ℕ → Bool
is_taken view name = is_reserved name || is_name_used view name

-- the name of a number is taken, if a character of the stem has room in it
abbrev pub NameIsTaken : View → List ℕ → ℕ → ℕ → Type 0
NameIsTaken view stem room n = length (suffix_of n) < room → is_taken view (candidate stem room n) ≡ true

-- so are those of all numbers from one on
abbrev pub AllTaken : View → List ℕ → ℕ → ℕ → Type 0
AllTaken view stem room from = (n : ℕ) → from ≤ n → n < 10000 → NameIsTaken view stem room n

-- likewise for names of a stem, and of those that are left
abbrev pub IsTaken : View → FreshNames → ℕ → Type 0
IsTaken view names n = NameIsTaken view (word_text names.stem) names.room n

-- all names tried so far are taken
abbrev pub AreTaken : View → FreshNames → Type 0
AreTaken view names = AllTaken view (word_text names.stem) names.room names.next

-- names of a stem, of which none was taken
abbrev pub AreNew : List ℕ → ℕ → FreshNames → Type 0
AreNew stem room names = (word_text names.stem ≡ cut stem) × (names.room ≡ room) × (names.next ≡ 0)
