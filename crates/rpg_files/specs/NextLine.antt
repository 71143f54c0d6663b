-- The next line of an input, some bytes of which were read.
use Rattle.std.specs.Prelude.{◌≡◌, ℕ, ◌<◌, ◌≤◌, Bool, true, false, List, [], ◌∷◌, ◌++◌, length, take, drop}
use Rattle.rpg_files.specs.Records.{records, is_valid, BeginsBad}
use Rattle.rpg_files.specs.declared.input.NextLine.{NextLine}
use Rattle.rpg_files.specs.declared.input.NextLine.TheVariants as next

-- what may follow the bytes that were read: nothing if the end of the input was seen
abbrev pub CanFollow : Bool → List ℕ → Type 0
CanFollow ended more = ended ≡ true → more ≡ []

-- the next line is a record of that length
pub record IsNextRecord (limit : ℕ) (bytes : List ℕ) (ended : Bool) (len line_len : ℕ) : Type 0 where
  pub ordered : len ≤ line_len
  pub within : line_len ≤ length bytes
  pub valid : is_valid limit (take len bytes) ≡ true
  pub first : (more : List ℕ) → CanFollow ended more → records (bytes ++ more) ≡ take len bytes ∷ records (drop line_len bytes ++ more)

-- what comes next: a record, a bad line, or the end of file
abbrev pub IsNextLine : ℕ → List ℕ → Bool → NextLine → Type 0
IsNextLine limit bytes ended (next.Record len line_len) = IsNextRecord limit bytes ended len line_len
IsNextLine limit bytes ended next.Bad = (more : List ℕ) → CanFollow ended more → BeginsBad limit (bytes ++ more)
IsNextLine limit bytes ended next.End = (bytes ≡ []) × (ended ≡ true)

-- there are bytes, or there are none and the input has ended
abbrev pub HasMore : Bool → List ℕ → Bool → Type 0
HasMore true bytes ended = 0 < length bytes
HasMore false bytes ended = (bytes ≡ []) × (ended ≡ true)
