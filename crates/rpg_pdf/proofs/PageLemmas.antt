-- Strikes and lines, one after another.
use Rattle.std.proofs.Common.{◌≡◌, ◌==◌, ◌+◌, ◌/◌, ◌≤◌, ℕ, true, List, [], ◌∷◌, ◌++◌, length, sym, ap, ap₂, ◌∙◌, append_assoc, codes, Option, None, Some}
use Rattle.std.proofs.lemmas.Bool.{cond-false, cond-true, le-ltb}
use Rattle.std.proofs.lemmas.List.Splits.{length-slice_split}
use Rattle.std.specs.List.{count_by}
use Rattle.std.specs.Prelude.{min, nat_lt}
use Rattle.rpg_pdf.proofs.MadeLemmas.{joined_three}
use Rattle.rpg_pdf.proofs.TextLemmas.{put_more}
use Rattle.rpg_pdf.specs.Contents.{all_lines_fault, background, bars_text, contents, first_of, lines_fault, lines_text, most_page_bytes, page_fault, strike_fault, strike_text, strikes_fault, strikes_text}
use Rattle.rpg_pdf.specs.Pages.{lines, lines_in, printed, strikes}
use Rattle.rpg_pdf.specs.Texts.{filled}
use Rattle.rpg_pdf.specs.declared.state.PageFault.{PageFault}
use Rattle.rpg_pdf.specs.declared.state.Sheet.{Sheet}

-- ---- the next strike of a line

pub strike_fits : (s : Sheet) (line : ℕ) (whole : Option PageFault) (parts more : List (List ℕ)) (first : List ℕ) → parts ≡ first ∷ more → whole ≡ strikes_fault s line parts → strike_fault s line first ≡ None
    → whole ≡ strikes_fault s line more
strike_fits s line whole parts more first p e none = e ∙ ap (strikes_fault s line) p ∙ ap (λ f. first_of f (strikes_fault s line more)) none

pub strike_stops : (s : Sheet) (line : ℕ) (whole : Option PageFault) (parts more : List (List ℕ)) (first : List ℕ) (fault : PageFault) → parts ≡ first ∷ more → whole ≡ strikes_fault s line parts
    → strike_fault s line first ≡ Some fault → whole ≡ Some fault
strike_stops s line whole parts more first fault p e some = e ∙ ap (strikes_fault s line) p ∙ ap (λ f. first_of f (strikes_fault s line more)) some

pub strike_shown : (s : Sheet) (line k next : ℕ) (whole old new : List ℕ) (parts more : List (List ℕ)) (first : List ℕ) → next ≡ min (k + 1) 3 → parts ≡ first ∷ more
    → whole ≡ old ++ strikes_text s line k parts → new ≡ old ++ strike_text s line k first → whole ≡ new ++ strikes_text s line next more
strike_shown s line k next whole old new parts more first n p e is =
    rw n (put_more whole old new (strike_text s line k first) (strikes_text s line (min (k + 1) 3) more) (e ∙ ap (λ xs. old ++ strikes_text s line k xs) p) is)

-- ---- the next line of a page

pub line_fits : (s : Sheet) (line : ℕ) (whole : Option PageFault) (parts more : List (List ℕ)) (first : List ℕ) → parts ≡ first ∷ more → whole ≡ lines_fault s line parts → strikes_fault s line (strikes first) ≡ None
    → whole ≡ lines_fault s (line + 1) more
line_fits s line whole parts more first p e none = e ∙ ap (lines_fault s line) p ∙ ap (λ f. first_of f (lines_fault s (line + 1) more)) none

pub line_stops : (s : Sheet) (line : ℕ) (whole : Option PageFault) (parts more : List (List ℕ)) (first : List ℕ) (fault : PageFault) → parts ≡ first ∷ more → whole ≡ lines_fault s line parts
    → strikes_fault s line (strikes first) ≡ Some fault → whole ≡ Some fault
line_stops s line whole parts more first fault p e some = e ∙ ap (lines_fault s line) p ∙ ap (λ f. first_of f (lines_fault s (line + 1) more)) some

pub line_shown : (s : Sheet) (line : ℕ) (whole old new : List ℕ) (parts more : List (List ℕ)) (first : List ℕ) → parts ≡ first ∷ more
    → whole ≡ old ++ lines_text s line parts → new ≡ old ++ strikes_text s line 0 (strikes first) → whole ≡ new ++ lines_text s (line + 1) more
line_shown s line whole old new parts more first p e is =
    put_more whole old new (strikes_text s line 0 (strikes first)) (lines_text s (line + 1) more) (e ∙ ap (λ xs. old ++ lines_text s line xs) p) is

pub lines_counted : (text : List ℕ) → count_by (λ b. b == 10) text + 1 ≡ length (lines_in text)
lines_counted text = sym (length-slice_split (λ b. b == 10) text)

-- ---- the contents of a sheet

pub bars_shown : (s : Sheet) (bar : ℕ) (start first mid last : List ℕ) → s.settings.has_bars ≡ true → bar ≡ (s.settings.length + 5) / 6 → first ≡ start ++ codes "0.88 0.96 0.88 rg\n"
    → mid ≡ first ++ bars_text s bar → last ≡ mid ++ codes "0 g\n" → last ≡ start ++ background s
bars_shown s bar start first mid last has n a b d = let all : List ℕ = bars_text s ((s.settings.length + 5) / 6) in
    let grown : last ≡ start ++ codes "0.88 0.96 0.88 rg\n" ++ all ++ codes "0 g\n" = d ∙ ap (λ t. t ++ codes "0 g\n") (b ∙ ap₂ (λ t k. t ++ bars_text s k) a n) in
    grown ∙ joined_three start (codes "0.88 0.96 0.88 rg\n") all (codes "0 g\n") ∙ ap (λ t. start ++ t) (sym (cond-true s.settings.has_bars _ _ has))

pub page_shown : (s : Sheet) (page text start a b d last : List ℕ) → length page ≤ most_page_bytes → text ≡ printed page → length (lines_in text) ≤ s.settings.length → lines_fault s 0 (lines_in text) ≡ None
    → a ≡ start ++ background s → b ≡ a ++ filled (codes "BT /F $ Tf\n") (s.font ∷ []) → d ≡ b ++ lines_text s 0 (lines_in text) → last ≡ d ++ codes "ET\n"
    → (None ≡ page_fault s page) × (page_fault s page ≡ None → last ≡ start ++ contents s page)
unfolding page_fault contents
page_shown s page text start a b d last short is few none ea eb ed el =
    let same : lines_in text ≡ lines page = ap lines_in is in
    let font : List ℕ = filled (codes "BT /F $ Tf\n") (s.font ∷ []) in
    let fits : all_lines_fault s (lines_in text) ≡ None = cond-false (nat_lt s.settings.length (length (lines_in text))) _ _ (le-ltb s.settings.length (length (lines_in text)) few) ∙ none in
    let grown : last ≡ start ++ background s ++ font ++ lines_text s 0 (lines_in text) ++ codes "ET\n" =
    el ∙ ap (λ t. t ++ codes "ET\n") (ed ∙ ap (λ t. t ++ lines_text s 0 (lines_in text)) (eb ∙ ap (λ t. t ++ font) ea)) in (
      sym (cond-false (nat_lt most_page_bytes (length page)) _ _ (le-ltb most_page_bytes (length page) short) ∙ ap (all_lines_fault s) (sym same) ∙ fits),
      λ e. grown ∙ joined_four start (background s) font (lines_text s 0 (lines_in text)) (codes "ET\n") ∙ ap (λ ls. start ++ (background s ++ font ++ lines_text s 0 ls ++ codes "ET\n")) same,
    )
  where
    joined_four : (p q r t u : List ℕ) → p ++ q ++ r ++ t ++ u ≡ p ++ (q ++ r ++ t ++ u)
    joined_four p q r t u = ap (λ l. l ++ t ++ u) (append_assoc p q r) ∙ ap (λ l. l ++ u) (append_assoc p (q ++ r) t) ∙ append_assoc p (q ++ r ++ t) u
