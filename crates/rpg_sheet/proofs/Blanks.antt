-- Columns that are blank.
use Rattle.std.proofs.Common.{◌≡◌, ℕ, ◌+◌, ◌-◌, ◌≤◌, true, List, [], ◌∷◌, length, Ok, None, refl, ap, ◌∙◌, arith, take, drop}
use Rattle.std.specs.Prelude.{not, position}
use Rattle.std.specs.List.{list_all, prefix_len}
use Rattle.std.proofs.lemmas.Bool.{and_parts}
use Rattle.std.proofs.lemmas.Grind.{common_steps}
use Rattle.std.proofs.lemmas.List.{drop-take, drop-drop, take-take}
use Rattle.rpg_sheet.specs.Ranges.{conditions_from, indicators_from}
use Rattle.rpg_sheet_specs.specs.Columns.{cols, is_filled, fault_if_some, values, at_with, also}
use Rattle.rpg_sheet_specs.specs.Tables.{conditions, three_indicators, three}
use Rattle.rpg_sheet_specs.specs.Values.{blank_or}
use Rattle.rpg_sheet_values.proofs.Characters.{all-take, all-drop}
use Rattle.rpg_text.specs.Texts.{is_blank, all_blank}

blank_len : (text : List ℕ) → list_all is_blank text ≡ true → prefix_len (λ c. not (is_filled c)) text ≡ length text
blank_len [] blank = refl
blank_len (c ∷ cs) blank = let both = and_parts (is_blank c) (list_all is_blank cs) blank in rw both.0 (omega (arith, blank_len cs both.1))

-- no column is filled
pub no_fault : (a : ℕ) (text : List ℕ) → all_blank text ≡ true → fault_if_some a (position is_filled text) ≡ Ok tt
no_fault a text blank =
    let all = blank_len text blank in
    let none : position is_filled text ≡ None = grind (arith, common_steps) in
    rw none refl

-- columns among blank ones
among_blank : (a b c d : ℕ) (card : List ℕ) → 1 ≤ a → a ≤ c → c ≤ d → d ≤ b → all_blank (cols a b card) ≡ true → all_blank (cols c d card) ≡ true
among_blank a b c d card one first some last blank =
    let some_more : b - (a - 1) ≡ (c - a) + (b - (c - 1)) = omega arith in
    let same_place : (a - 1) + (c - a) ≡ c - 1 = omega arith in
    let following : drop (c - a) (take (b - (a - 1)) (drop (a - 1) card)) ≡ take (b - (c - 1)) (drop (c - 1) card) =
    ap (λ (n : ℕ). drop (c - a) (take n (drop (a - 1) card))) some_more
    ∙ drop-take (c - a) (b - (c - 1)) (drop (a - 1) card)
    ∙ ap (take (b - (c - 1))) (drop-drop (c - a) (a - 1) card ∙ ap (λ (n : ℕ). drop n card) same_place) in
    let all : list_all is_blank (take (b - (c - 1)) (drop (c - 1) card)) ≡ true = rw following at (all-drop is_blank (c - a) (take (b - (a - 1)) (drop (a - 1) card)) blank) in
    let front : take (d - (c - 1)) (take (b - (c - 1)) (drop (c - 1) card)) ≡ take (d - (c - 1)) (drop (c - 1) card) = take-take (d - (c - 1)) (b - (c - 1)) (drop (c - 1) card) (omega arith) in
    rw front at (all-take is_blank (d - (c - 1)) (take (b - (c - 1)) (drop (c - 1) card)) all)

pub no_conditions : (a : ℕ) (card : List ℕ) → 1 ≤ a → all_blank (cols a (a + 8) card) ≡ true → Ok (three None None None) ≡ (conditions_from a).reading card
unfolding conditions values at_with also blank_or
no_conditions a card one blank =
    rw (
      among_blank a (a + 8) a (a + 2) card one (omega arith) (omega arith) (omega arith) blank,
      among_blank a (a + 8) (a + 3) (a + 3 + 2) card one (omega arith) (omega arith) (omega arith) blank,
      among_blank a (a + 8) (a + 6) (a + 6 + 2) card one (omega arith) (omega arith) (omega arith) blank,
    ) refl

pub no_indicators : (a : ℕ) (card : List ℕ) → 1 ≤ a → all_blank (cols a (a + 5) card) ≡ true → Ok (three None None None) ≡ (indicators_from a).reading card
unfolding three_indicators values at_with also blank_or
no_indicators a card one blank =
    rw (
      among_blank a (a + 5) a (a + 1) card one (omega arith) (omega arith) (omega arith) blank,
      among_blank a (a + 5) (a + 2) (a + 2 + 1) card one (omega arith) (omega arith) (omega arith) blank,
      among_blank a (a + 5) (a + 4) (a + 4 + 1) card one (omega arith) (omega arith) (omega arith) blank,
    ) refl
