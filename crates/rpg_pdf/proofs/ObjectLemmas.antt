-- Where the objects of a PDF begin.
use Rattle.std.proofs.Common.{◌≡◌, ℕ, zero, suc, ◌+◌, ◌<◌, List, [], ◌∷◌, ◌++◌, length, drop, refl, sym, ap, ◌∙◌, subst, arith, append_assoc, length-append, codes, decimal}
use Rattle.std.specs.List.{concat, slice_index_or}
use Rattle.std.specs.Prelude.{slice_index}
use Rattle.std.proofs.Math.Seq.{drop-append_seam}
use Rattle.rpg_pdf.specs.Contents.{contents}
use Rattle.rpg_pdf.specs.Objects.{EntriesAreOffsets, body, catalog, contents_object, ending, entry_count, first_bytes, first_objects, font, front, kids, object_mark, offsets, page_number, page_object, page_objects, pdf, starts, tree}
use Rattle.rpg_pdf.specs.Texts.{filled}
use Rattle.rpg_pdf.specs.declared.state.Sheet.{Sheet}

-- a text begins with another
abbrev pub Begins : List ℕ → List ℕ → Type 0
Begins text mark = (rest : List ℕ) × (text ≡ mark ++ rest)

-- ---- an object begins with its mark

catalog_begins : Begins catalog (object_mark 1)
unfolding catalog filled
catalog_begins = let rest : List ℕ = codes "<</Type/Catalog/Pages 2 0 R>>\nendobj\n" in (rest, sym (append_assoc (decimal 1) (codes " 0 obj\n") rest))

font_begins : Begins font (object_mark 3)
unfolding font filled
font_begins = let rest : List ℕ = codes "<</Type/Font/Subtype/Type1/BaseFont/Courier/Encoding/WinAnsiEncoding>>\nendobj\n" in (rest, sym (append_assoc (decimal 3) (codes " 0 obj\n") rest))

page_begins : (i : ℕ) → Begins (page_object i) (object_mark (page_number i))
unfolding page_object filled
page_begins i = let rest : List ℕ = filled (codes "<</Type/Page/Parent 2 0 R/Contents # 0 R>>\nendobj\n") ((page_number i + 1) ∷ []) in (rest, sym (append_assoc (decimal (page_number i)) (codes " 0 obj\n") rest))

regrouped : (number mark head text end : List ℕ) → number ++ (mark ++ head) ++ text ++ end ≡ number ++ mark ++ (head ++ text ++ end)
regrouped number mark head text end = simp append_assoc

contents_begin : (i : ℕ) (text : List ℕ) → Begins (contents_object i text) (object_mark (page_number i + 1))
unfolding contents_object filled
contents_begin i text = let head : List ℕ = filled (codes "<</Length #>>\nstream\n") (length text ∷ []) in (head ++ text ++ codes "endstream\nendobj\n", regrouped (decimal (page_number i + 1)) (codes " 0 obj\n") head text (codes "endstream\nendobj\n"))

tree_begins : (s : Sheet) (n : ℕ) → Begins (tree s n) (object_mark 2)
unfolding tree filled
tree_begins s n =
    let head : List ℕ = filled (codes "<</Type/Pages/Count #/Kids[") (n ∷ []) in
    let end : List ℕ = filled (codes "]/MediaBox[0 0 $ $]/Resources<</Font<</F 3 0 R>>>>>>\nendobj\n") (s.width ∷ s.height ∷ []) in
    (head ++ kids n ++ end, regrouped (decimal 2) (codes " 0 obj\n") head (kids n) end)

same_number : (text : List ℕ) (m n : ℕ) → m ≡ n → Begins text (object_mark m) → Begins text (object_mark n)
same_number text m n e b = subst (λ k. Begins text (object_mark k)) e b

page_objects_begin : (s : Sheet) (i : ℕ) (pages : List (List ℕ)) (j : ℕ) → j < length (page_objects s i pages)
    → Begins (slice_index_or (page_objects s i pages) j []) (object_mark (page_number i + j))
unfolding page_objects
page_objects_begin s i [] j h = absurd (omega arith)
page_objects_begin s i (page ∷ more) zero h = same_number (page_object i) (page_number i) (page_number i + 0) (omega arith) (page_begins i)
page_objects_begin s i (page ∷ more) (suc zero) h = contents_begin i (contents s page)
page_objects_begin s i (page ∷ more) (suc (suc j)) h =
    same_number (slice_index_or (page_objects s (i + 1) more) j []) (page_number (i + 1) + j) (page_number i + suc (suc j)) (omega arith) (page_objects_begin s (i + 1) more j (omega (arith, h)))

-- the objects after the catalog
later_begin : (s : Sheet) (pages : List (List ℕ)) (j : ℕ) → j < length (font ∷ page_objects s 0 pages) → Begins (slice_index_or (font ∷ page_objects s 0 pages) j []) (object_mark (3 + j))
later_begin s pages zero h = font_begins
later_begin s pages (suc j) h = same_number (slice_index_or (page_objects s 0 pages) j []) (page_number 0 + j) (3 + suc j) (omega arith) (page_objects_begin s 0 pages j (omega (arith, h)))

moved : (before x later after : List ℕ) → before ++ (x ++ later) ++ after ≡ before ++ x ++ later ++ after
moved before x later after = ap (λ t. t ++ after) (sym (append_assoc before x later))

-- a text of a list begins where `starts` has it
starts_here : (before : List ℕ) (xs : List (List ℕ)) (after : List ℕ) (j : ℕ) → j < length xs
    → Begins (drop (slice_index (starts (length before) xs) j) (before ++ concat xs ++ after)) (slice_index_or xs j [])
unfolding starts
starts_here before [] after j h = absurd (omega arith)
starts_here before (x ∷ xs) after zero h =
    (concat xs ++ after, ap (drop (length before)) (append_assoc before (x ++ concat xs) after) ∙ drop-append_seam before (x ++ concat xs ++ after) ∙ append_assoc x (concat xs) after)
starts_here before (x ∷ xs) after (suc j) h =
    let later = starts_here (before ++ x) xs after j (omega (arith, h)) in
    let place : length before + length x ≡ length (before ++ x) = sym (length-append before x) in (
      later.0,
      ap (λ n. drop (slice_index (starts n xs) j) (before ++ (x ++ concat xs) ++ after)) place
          ∙ ap (drop (slice_index (starts (length (before ++ x)) xs) j)) (moved before x (concat xs) after)
          ∙ later.1,
    )

chained : (text first mark : List ℕ) → Begins text first → Begins first mark → Begins text mark
chained text first mark a b = (b.0 ++ a.0, a.1 ∙ ap (λ t. t ++ a.0) b.1 ∙ append_assoc mark b.0 a.0)

pub length-starts : (here : ℕ) (xs : List (List ℕ)) → length (starts here xs) ≡ length xs
unfolding starts
length-starts here [] = refl
length-starts here (x ∷ xs) = ap suc (length-starts (here + length x) xs)

-- the file, as what comes before the tree, and the rest
split : (s : Sheet) (pages : List (List ℕ)) → pdf s pages ≡ front s pages ++ (tree s (length pages) ++ ending (entry_count (length pages)) (length (body s pages)) (offsets s pages))
split s pages = append_assoc (front s pages) (tree s (length pages)) (ending (entry_count (length pages)) (length (body s pages)) (offsets s pages))

first_begin : (s : Sheet) (pages : List (List ℕ)) (j : ℕ) → j < length (first_objects s pages)
    → Begins (drop (slice_index (starts (length first_bytes) (first_objects s pages)) j) (pdf s pages)) (slice_index_or (first_objects s pages) j [])
first_begin s pages j h =
    let rest : List ℕ = tree s (length pages) ++ ending (entry_count (length pages)) (length (body s pages)) (offsets s pages) in
    let there = starts_here first_bytes (first_objects s pages) rest j h in
    (there.0, ap (drop (slice_index (starts (length first_bytes) (first_objects s pages)) j)) (split s pages) ∙ there.1)

pub entries : EntriesAreOffsets
unfolding starts
entries s pages zero h =
    chained (drop (length first_bytes) (pdf s pages)) catalog (object_mark 1) (first_begin s pages 0 (omega arith)) catalog_begins
entries s pages (suc zero) h =
    let rest : List ℕ = ending (entry_count (length pages)) (length (body s pages)) (offsets s pages) in
    let tree_there : Begins (drop (length (front s pages)) (pdf s pages)) (tree s (length pages)) =
    (rest, ap (drop (length (front s pages))) (split s pages) ∙ drop-append_seam (front s pages) (tree s (length pages) ++ rest)) in
    chained (drop (length (front s pages)) (pdf s pages)) (tree s (length pages)) (object_mark 2) tree_there (tree_begins s (length pages))
entries s pages (suc (suc j)) h =
    let inside : suc j < length (first_objects s pages) = omega (arith, h, length-starts (length first_bytes) (first_objects s pages)) in
    same_number (drop (slice_index (starts (length first_bytes + length catalog) (font ∷ page_objects s 0 pages)) j) (pdf s pages)) (3 + j) (suc (suc j) + 1) (omega arith)
    (chained (drop (slice_index (starts (length first_bytes + length catalog) (font ∷ page_objects s 0 pages)) j) (pdf s pages)) (slice_index_or (font ∷ page_objects s 0 pages) j []) (object_mark (3 + j))
    (first_begin s pages (suc j) inside) (later_begin s pages j (omega (arith, inside))))
