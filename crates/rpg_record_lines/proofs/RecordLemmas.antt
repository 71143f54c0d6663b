-- A record that is written byte by byte.
use Rattle.std.proofs.Common.{◌≡◌, ℕ, ◌+◌, Bool, true, false, List, [], ◌∷◌, ◌++◌, sym, ap, ◌∙◌, if◌then◌else◌, Ok, Err}
use Rattle.rpg_text.specs.Texts.{is_character}
use Rattle.rpg_records.specs.Columns.{page_byte}
use Rattle.rpg_records.specs.declared.translation.Page.{Page}
use Rattle.rpg_record_lines.proofs.DigitLemmas.{joined_next}
use Rattle.rpg_record_lines.specs.Outcomes.{joined_texts}
use Rattle.rpg_record_lines.specs.Records.{bytes_of_characters}
use Rattle.rpg_record_lines.specs.declared.fault.RecordFault.TheVariants as faults

-- one more byte
pub bytes_next : (page : Page) (place c : ℕ) (cs written more : List ℕ) → is_character c ≡ true → more ≡ written ++ page_byte page c ∷ []
    → joined_texts (Ok written) (bytes_of_characters page place (c ∷ cs)) ≡ joined_texts (Ok more) (bytes_of_characters page (place + 1) cs)
bytes_next page place c cs written more h e =
    ap (λ (b : Bool). joined_texts (Ok written) (if b then joined_texts (Ok (page_byte page c ∷ [])) (bytes_of_characters page (place + 1) cs) else Err (faults.NoCharacter (place + 1) c))) h
    ∙ joined_next written more (Ok (page_byte page c ∷ [])) (bytes_of_characters page (place + 1) cs) (ap Ok (sym e))

pub bytes_bad : (page : Page) (place c : ℕ) (cs written : List ℕ) → is_character c ≡ false → joined_texts (Ok written) (bytes_of_characters page place (c ∷ cs)) ≡ Err (faults.NoCharacter (place + 1) c)
bytes_bad page place c cs written h =
    ap (λ (b : Bool). joined_texts (Ok written) (if b then joined_texts (Ok (page_byte page c ∷ [])) (bytes_of_characters page (place + 1) cs) else Err (faults.NoCharacter (place + 1) c))) h
