-- The length of a file's records.
use Rattle.std.proofs.Common.{◌≡◌, ℕ, List, sym, ap, ◌∙◌, Option, Some, Result}
use Rattle.rpg_sheet_specs.specs.Tables.{file}
use Rattle.rpg_record_decks.specs.Edits.{number_columns, with_columns}
use Rattle.rpg_record_decks.specs.Files.{as_input, length_by, or_columns, record_length}
use Rattle.rpg_record_decks.specs.Outcomes.{at_card}
use Rattle.rpg_record_decks.specs.declared.fault.DeckFault.{DeckFault}

-- with a length by the arguments, on the card of an input file
pub given_length : (number n k : ℕ) (given : Option ℕ) (text card plain changed : List ℕ) (r : Result ℕ DeckFault) → plain ≡ as_input card → given ≡ Some n → k ≡ n → text ≡ number_columns k → changed ≡ with_columns 24 text plain
    → r ≡ at_card number (record_length (or_columns (file.reading changed))) → r ≡ at_card number (length_by given card)
given_length number n k given text card plain changed r z e f g h i =
    i
    ∙ ap (λ (c : List ℕ). at_card number (record_length (or_columns (file.reading c)))) (h ∙ ap (with_columns 24 text) z ∙ ap (λ (t : List ℕ). with_columns 24 t (as_input card)) (g ∙ ap number_columns f))
    ∙ ap (λ (o : Option ℕ). at_card number (length_by o card)) (sym e)
