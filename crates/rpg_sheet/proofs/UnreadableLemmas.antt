-- The lines with a fault in turn are all unreadable cards, the least one first.
use Rattle.std.proofs.Common.{◌≡◌, ℕ, ◌+◌, ◌<◌, ◌≤◌, Bool, true, false, List, [], ◌∷◌, ◌++◌, length, Option, Some, None, refl, sym, ap, ◌∙◌, append-nil, arith, length-append}
use Rattle.std.specs.Prelude.{nat_lt, nat_le, slice_get}
use Rattle.std.specs.Option.{option_map}
use Rattle.std.proofs.lemmas.Grind.{common_steps}
use Rattle.rpg_sheet.specs.declared.sheet.SheetCode.{SheetCode}
use Rattle.rpg_sheet.specs.declared.unreadable.UnreadableCard.{UnreadableCard}
use Rattle.rpg_sheet_specs.specs.Cards.{card_of}
use Rattle.rpg_sheet.specs.Seen.{AreLinesSeen, code_seen}
use Rattle.rpg_sheet.specs.Sheet.{fault_after, sheet_fault_columns, line_code}
use Rattle.rpg_sheet.specs.Unreadable.{reported_fault, unreadable_at, unreadable_after}
use Rattle.rpg_sheet.proofs.SheetLemmas.{code_is_seen, first_code}

few_lines : (n : ℕ) → n ≤ 2000 → nat_lt 2000 n ≡ false
few_lines n h = grind (arith, common_steps)

many_lines : (n : ℕ) → 2000 < n → nat_lt 2000 n ≡ true
many_lines n h = grind (arith, common_steps)

-- no line more
pub after_many : (earlier more : List (List ℕ)) → 2000 < length earlier → unreadable_after earlier more ≡ []
after_many earlier [] h = refl
after_many earlier (line ∷ more) h = rw (many_lines (length earlier) h) refl

-- a line without a fault, and one with a fault
pub at_valid : (earlier : List (List ℕ)) (count latest : ℕ) (data_begun : Bool) (line : List ℕ) → AreLinesSeen earlier count latest data_begun → code_seen count latest data_begun line ≡ None → unreadable_at earlier line ≡ []
at_valid earlier count latest data_begun line seen valid = rw (sym (code_is_seen earlier count latest data_begun line seen) ∙ valid) refl

pub at_bad : (earlier : List (List ℕ)) (count latest : ℕ) (data_begun : Bool) (line : List ℕ) (code : SheetCode) → AreLinesSeen earlier count latest data_begun → code_seen count latest data_begun line ≡ Some code
    → unreadable_at earlier line ≡ record { card = count + 1; code = code; columns = sheet_fault_columns data_begun (card_of line) code } ∷ []
at_bad earlier count latest data_begun line code seen bad = rw (sym (code_is_seen earlier count latest data_begun line seen) ∙ bad, seen.count_is, seen.data_begun_is) refl

pub cut_short : (found all : List UnreadableCard) (earlier more : List (List ℕ)) (count : ℕ) → found ++ unreadable_after earlier more ≡ all → count ≡ length earlier → 2000 < count → found ≡ all
cut_short found all earlier more count so_far same many = sym (append-nil found) ∙ ap (λ cards. found ++ cards) (sym (after_many earlier more (omega arith))) ∙ so_far

-- ---- the least one

-- card 2,001 has a fault
never_valid : (a b c d e : Bool) → first_code a b c d e true ≡ None → ⊥
never_valid true b c d e h = absurd cc
never_valid false true c d e h = absurd cc
never_valid false false true d e h = absurd cc
never_valid false false false true e h = absurd cc
never_valid false false false false true h = absurd cc
never_valid false false false false false h = absurd cc

few_if_valid : (earlier : List (List ℕ)) (line : List ℕ) → line_code earlier line ≡ None → length earlier < 2000
few_if_valid earlier line h = by (nat_le 2000 (length earlier)) refl
  where
    by : (b : Bool) → nat_le 2000 (length earlier) ≡ b → length earlier < 2000
    by true e = absurd (never_valid _ _ _ _ _ (rw e at h))
    by false e = grind (arith, common_steps)

pub first_is : (earlier more : List (List ℕ)) → length earlier ≤ 2000 → fault_after earlier more ≡ option_map reported_fault (slice_get (unreadable_after earlier more) 0)
first_is earlier [] few = refl
first_is earlier (line ∷ more) few = rw (few_lines (length earlier) few) (by (line_code earlier line) refl (λ fewer. first_is (earlier ++ line ∷ []) more fewer))
  where
    by : (code : Option SheetCode) → line_code earlier line ≡ code
        → (length (earlier ++ line ∷ []) ≤ 2000 → fault_after (earlier ++ line ∷ []) more ≡ option_map reported_fault (slice_get (unreadable_after (earlier ++ line ∷ []) more) 0))
        → fault_after earlier (line ∷ more) ≡ option_map reported_fault (slice_get (unreadable_at earlier line ++ unreadable_after (earlier ++ line ∷ []) more) 0)
    by (Some code) e later = rw e refl
    by None e later = rw e (later (let f = few_if_valid earlier line e in omega (arith, length-append earlier (line ∷ []))))
