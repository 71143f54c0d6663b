-- Where cards have indicators.
use Rattle.std.specs.Prelude.{◌≡◌, ℕ, ◌+◌, ◌/◌, ◌%◌, ◌<◌, ◌≤◌, Bool, true, ◌==◌, ◌&&◌, not, List, [], ◌∷◌, if◌then◌else◌}
use Rattle.std.specs.List.{list_any}
use Rattle.rpg_fit_deck.specs.Columns.{column_of, form_letter, is_comment}
use Rattle.rpg_fit_deck.specs.declared.card.Card.{Card}
use Rattle.rpg_fit_deck.specs.declared.view.View.{View}
use Rattle.rpg_fit_terms.specs.declared.free_indicator.FreeIndicators.{FreeIndicators}
use Rattle.rpg_fit_terms.specs.declared.indicator.Indicator.{Indicator}

-- the first column of each indicator on cards of a form: I (73), C (67), O (79) and F (70)
abbrev pub indicator_starts : ℕ → List ℕ
indicator_starts form =
    if form == 73 then 19 ∷ 63 ∷ 65 ∷ 67 ∷ 69 ∷ []
    else (if form == 67 then 10 ∷ 13 ∷ 16 ∷ 54 ∷ 56 ∷ 58 ∷ []
    else (if form == 79 then 24 ∷ 27 ∷ 30 ∷ []
    else (if form == 70 then 33 ∷ [] else [])))

-- an indicator has two columns
abbrev pub stands_at : Indicator → Card → ℕ → Bool
stands_at indicator card column = (column_of card column == indicator.0) && (column_of card (column + 1) == indicator.1)

-- some of a card's columns have an indicator
abbrev pub stands_in : Indicator → Card → List ℕ → Bool
stands_in indicator card columns = list_any (λ column. stands_at indicator card column) columns

-- a card that isn't a comment has an indicator
unfoldable pub is_indicator_on : Indicator → Card → Bool
is_indicator_on indicator card = not (is_comment card) && stands_in indicator card (indicator_starts (form_letter card))

-- any card has an indicator
unfoldable pub is_indicator_used : View → Indicator → Bool
is_indicator_used view indicator = list_any (λ seen. is_indicator_on indicator seen.card) view.cards.items

-- the indicators 01 to 99, and H1 to H9
abbrev pub numbered : ℕ → Indicator
numbered n = record { 0 = 48 + n / 10 % 10; 1 = 48 + n % 10 }

-- H0 to H9
abbrev pub halt : ℕ → Indicator
halt n = record { 0 = 72; 1 = 48 + n % 10 }

-- the number of the greatest indicator that wasn't tried
abbrev pub greatest_untried : FreeIndicators → ℕ
greatest_untried free = free.left

-- cards have all indicators above a number, up to another one
abbrev pub AreUsed : View → ℕ → ℕ → Type 0
AreUsed view low high = (n : ℕ) → low < n → n ≤ high → is_indicator_used view (numbered n) ≡ true
