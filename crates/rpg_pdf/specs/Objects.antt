-- The objects of a PDF, where they begin, and the whole file.
use Rattle.std.specs.Prelude.{◌≡◌, ℕ, zero, suc, ◌+◌, ◌*◌, ◌<◌, ◌==◌, if◌then◌else◌, List, [], ◌∷◌, ◌++◌, length, drop, slice_index, codes, decimal}
use Rattle.std.specs.List.{concat, flat_map}
use Rattle.rpg_pdf.specs.Contents.{contents}
use Rattle.rpg_pdf.specs.Texts.{filled}
use Rattle.rpg_pdf.specs.declared.state.Sheet.{Sheet}

-- the first lines: four bytes above 127 mark a file that isn't text
unfoldable pub first_bytes : List ℕ
first_bytes = codes "%PDF-1.4\n%" ++ 226 ∷ 227 ∷ 207 ∷ 211 ∷ 10 ∷ []

-- what object n begins with
abbrev pub object_mark : ℕ → List ℕ
object_mark n = decimal n ++ codes " 0 obj\n"

-- ---- the objects: 1 is the catalog, 2 the tree of the pages, 3 the font, and then each page has two

unfoldable pub catalog : List ℕ
catalog = filled (codes "# 0 obj\n<</Type/Catalog/Pages 2 0 R>>\nendobj\n") (1 ∷ [])

unfoldable pub font : List ℕ
font = filled (codes "# 0 obj\n<</Type/Font/Subtype/Type1/BaseFont/Courier/Encoding/WinAnsiEncoding>>\nendobj\n") (3 ∷ [])

-- the number of a page's object, of page i from 0. The next number is that of its contents.
abbrev pub page_number : ℕ → ℕ
page_number i = 4 + 2 * i

unfoldable pub page_object : ℕ → List ℕ
page_object i = filled (codes "# 0 obj\n<</Type/Page/Parent 2 0 R/Contents # 0 R>>\nendobj\n") (page_number i ∷ (page_number i + 1) ∷ [])

unfoldable pub contents_object : ℕ → List ℕ → List ℕ
contents_object i text = filled (codes "# 0 obj\n<</Length #>>\nstream\n") ((page_number i + 1) ∷ length text ∷ []) ++ text ++ codes "endstream\nendobj\n"

-- the objects of pages, the first of which is page i
unfoldable pub page_objects : Sheet → ℕ → List (List ℕ) → List (List ℕ)
page_objects s i [] = []
page_objects s i (page ∷ more) = page_object i ∷ contents_object i (contents s page) ∷ page_objects s (i + 1) more

-- a reference to a page, with a blank before it unless it is the first
abbrev pub kid : ℕ → List ℕ
kid i = filled (if i == 0 then codes "# 0 R" else codes " # 0 R") (page_number i ∷ [])

-- references to this many pages
abbrev pub kids : ℕ → List ℕ
kids zero = []
kids (suc n) = kids n ++ kid n

-- the tree of this many pages
unfoldable pub tree : Sheet → ℕ → List ℕ
tree s n =
    filled (codes "# 0 obj\n<</Type/Pages/Count #/Kids[") (2 ∷ n ∷ []) ++ kids n ++ filled (codes "]/MediaBox[0 0 $ $]/Resources<</Font<</F 3 0 R>>>>>>\nendobj\n") (s.width ∷ s.height ∷ [])

-- ---- where they begin

-- where each of these texts begins, if the first begins here
unfoldable pub starts : ℕ → List (List ℕ) → List ℕ
starts here [] = []
starts here (x ∷ xs) = here ∷ starts (here + length x) xs

-- the objects before the tree, as they are written
abbrev pub first_objects : Sheet → List (List ℕ) → List (List ℕ)
first_objects s pages = catalog ∷ font ∷ page_objects s 0 pages

-- the file up to the tree
abbrev pub front : Sheet → List (List ℕ) → List ℕ
front s pages = first_bytes ++ concat (first_objects s pages)

-- where objects begin, in the order of their numbers: the tree is number 2, and is written last
abbrev pub by_number : List ℕ → ℕ → List ℕ
by_number [] tree_start = tree_start ∷ []
by_number (first ∷ others) tree_start = first ∷ tree_start ∷ others

-- where each object of the file begins
abbrev pub offsets : Sheet → List (List ℕ) → List ℕ
offsets s pages = by_number (starts (length first_bytes) (first_objects s pages)) (length (front s pages))

-- ---- the cross reference table

-- an entry of the table: 20 bytes
abbrev pub entry : ℕ → List ℕ
entry offset = filled (codes "@ 00000 n \n") (offset ∷ [])

-- how many entries the table has for this many pages: one for each object, and one for number 0, which is none
abbrev pub entry_count : ℕ → ℕ
entry_count n = page_number n

-- the table of these places, which begins here
unfoldable pub ending : (entries start : ℕ) → List ℕ → List ℕ
ending entries start places =
    filled (codes "xref\n0 #\n0000000000 65535 f \n") (entries ∷ []) ++ flat_map entry places ++ filled (codes "trailer\n<</Size #/Root 1 0 R>>\nstartxref\n#\n%%EOF\n") (entries ∷ start ∷ [])

-- the file up to the table
abbrev pub body : Sheet → List (List ℕ) → List ℕ
body s pages = front s pages ++ tree s (length pages)

-- the PDF of these pages
abbrev pub pdf : Sheet → List (List ℕ) → List ℕ
pdf s pages = body s pages ++ ending (entry_count (length pages)) (length (body s pages)) (offsets s pages)

-- Each entry of the table is the offset at which the object with its number begins.
abbrev pub EntriesAreOffsets : Type 0
EntriesAreOffsets = (s : Sheet) (pages : List (List ℕ)) (k : ℕ) → k < length (offsets s pages)
    → (rest : List ℕ) × (drop (slice_index (offsets s pages) k) (pdf s pages) ≡ object_mark (k + 1) ++ rest)
