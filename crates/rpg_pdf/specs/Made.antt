-- What was made of a PDF so far, and what one more step makes.
use Rattle.std.specs.Prelude.{◌≡◌, ℕ, ◌+◌, List, [], ◌∷◌, ◌++◌, length, Option, None}
use Rattle.std.specs.List.{concat, flat_map}
use Rattle.rpg_pdf.specs.Contents.{contents, page_fault}
use Rattle.rpg_pdf.specs.Objects.{catalog, contents_object, ending, entry, entry_count, first_bytes, font, page_object, starts, tree}
use Rattle.rpg_pdf.specs.declared.state.PageFault.{PageFault}
use Rattle.rpg_pdf.specs.declared.state.Sheet.{Sheet}
use Rattle.rpg_pdf.specs.declared.state.Made.{Made}

-- where the next object begins
abbrev pub place_of : Made → ℕ
place_of made = made.at + length made.out.items

-- what comes before the pages was made, and the font's entry
pub record Begins (old new : Made) : Type 0 where
  pub out : new.out.items ≡ old.out.items ++ first_bytes ++ catalog ++ font
  pub entries : new.entries.items ≡ old.entries.items ++ entry (old.at + length (old.out.items ++ first_bytes ++ catalog))
  pub at : new.at ≡ old.at

-- these objects were made, and their entries
pub record Adds (old new : Made) (objects : List (List ℕ)) : Type 0 where
  pub out : new.out.items ≡ old.out.items ++ concat objects
  pub entries : new.entries.items ≡ old.entries.items ++ flat_map entry (starts (place_of old) objects)
  pub at : new.at ≡ old.at

-- a page and its contents were made, unless it doesn't fit
pub record AddsPage (s : Sheet) (n : ℕ) (page : List ℕ) (old new : Made) (fault : Option PageFault) : Type 0 where
  pub fault_is : fault ≡ page_fault s page
  pub objects : fault ≡ None → Adds old new (page_object n ∷ contents_object n (contents s page) ∷ [])

-- what comes after n pages was made, for the objects that begin at these places
pub record Ends (s : Sheet) (n : ℕ) (old new : Made) : Type 0 where
  pub out : (places : List ℕ) → old.entries.items ≡ flat_map entry places
      → new.out.items ≡ old.out.items ++ tree s n ++ ending (entry_count n) (old.at + length (old.out.items ++ tree s n)) (15 ∷ place_of old ∷ places)
  pub at : new.at ≡ old.at
