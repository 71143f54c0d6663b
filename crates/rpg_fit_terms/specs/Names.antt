-- Where cards have names.
use Rattle.std.specs.Prelude.{ℕ, Bool, ◌==◌, ◌&&◌, ◌||◌, not, List, [], ◌∷◌, codes, nat_eq, if◌then◌else◌}
use Rattle.std.specs.List.{after_first, before_first, list_any, starts_with}
use Rattle.std.specs.Str.{bytes_eq}
use Rattle.rpg_fit_deck.specs.Columns.{form_letter, is_comment, value_in_columns}
use Rattle.rpg_fit_deck.specs.declared.card.Card.{Card}
use Rattle.rpg_fit_deck.specs.declared.view.View.{View}
use Rattle.rpg_fit_terms.specs.declared.name.Columns.{Columns}

-- An operand is a name, or a name, a comma and an index.
abbrev pub ends_name : ℕ → Bool
ends_name c = c == 44

-- the name before the comma
abbrev pub name_in : List ℕ → List ℕ
name_in operand = before_first ends_name operand

-- the index after the comma
abbrev pub index_in : List ℕ → List ℕ
index_in operand = after_first ends_name operand

-- the columns from first to last
abbrev pub columns_between : ℕ → ℕ → Columns
columns_between first last = record { 0 = first; 1 = last }

-- where cards of a form have operands: E (69), I (73), C (67) and O (79)
abbrev pub operand_columns : ℕ → List Columns
operand_columns form =
    if form == 69 then columns_between 27 32 ∷ columns_between 46 51 ∷ []
    else (if form == 73 then columns_between 53 58 ∷ []
    else (if form == 67 then columns_between 18 27 ∷ columns_between 33 42 ∷ columns_between 43 48 ∷ []
    else (if form == 79 then columns_between 32 37 ∷ [] else [])))

-- an operand has a name, as its name or its index
abbrev pub is_name_in : List ℕ → List ℕ → Bool
is_name_in name operand = bytes_eq (name_in operand) name || bytes_eq (index_in operand) name

-- the name or the index of an operand begins with a text
abbrev pub is_prefix_in : List ℕ → List ℕ → Bool
is_prefix_in prefix operand = starts_with nat_eq (name_in operand) prefix || starts_with nat_eq (index_in operand) prefix

-- some of a card's columns have an operand that passes a test
abbrev pub has_operand_in : (List ℕ → Bool) → Card → List Columns → Bool
has_operand_in test card places = list_any (λ c. test (value_in_columns card c.0 c.1)) places

-- so do those of a card that isn't a comment
abbrev pub card_has_operand : (List ℕ → Bool) → Card → Bool
card_has_operand test card = not (is_comment card) && has_operand_in test card (operand_columns (form_letter card))

-- any card has a name
unfoldable pub is_name_used : View → List ℕ → Bool
is_name_used view name = list_any (λ seen. card_has_operand (is_name_in name) seen.card) view.cards.items

-- any card has a name that begins with a text
unfoldable pub is_prefix_used : View → List ℕ → Bool
is_prefix_used view prefix = list_any (λ seen. card_has_operand (is_prefix_in prefix) seen.card) view.cards.items

-- predefined names
abbrev pub is_date_part : List ℕ → Bool
is_date_part name = bytes_eq name (codes "UDAY") || bytes_eq name (codes "UMONTH") || bytes_eq name (codes "UYEAR")

-- a name that no card may define
unfoldable pub is_reserved : List ℕ → Bool
is_reserved name = bytes_eq name (codes "UDATE") || bytes_eq name (codes "PAGE") || is_date_part name
