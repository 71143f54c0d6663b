-- Lines with other columns.
use Rattle.std.proofs.Common.{◌≡◌, ℕ, zero, suc, ◌+◌, ◌-◌, ◌≤◌, ◌<◌, ◌++◌, ◌&&◌, true, Bool, List, length, take, drop, refl, sym, ap, ◌∙◌, arith, length-append, length-drop, append-nil, append_assoc, take-append-drop}
use Rattle.std.specs.Prelude.{replicate}
use Rattle.std.specs.List.{list_all}
use Rattle.std.proofs.lemmas.Bool.{and_parts}
use Rattle.std.proofs.lemmas.List.{drop_all, length-replicate, take_all, length-take}
use Rattle.std.proofs.lemmas.List.Folds.{list_all-append}
use Rattle.rpg_text.specs.Texts.{is_character}
use Rattle.rpg_record_decks.specs.Edits.{first_columns, with_columns}

pub short_front : (n : ℕ) (line : List ℕ) → length line < n → first_columns n line ≡ line ++ replicate (n - length line) 32
short_front n line h = ap (λ (l : List ℕ). l ++ replicate (n - length line) 32) (take_all n line (omega arith))

pub long_front : (n : ℕ) (line : List ℕ) → n ≤ length line → first_columns n line ≡ take n line
long_front n line h = let none : n - length line ≡ 0 = omega arith in rw none (append-nil (take n line))

pub beyond : (line : List ℕ) (place : ℕ) → length line ≤ place → drop (length line) line ≡ drop place line
beyond line place h = drop_all (length line) line (omega arith) ∙ sym (drop_all place line h)

pub three_parts : (a text rest : List ℕ) → (a ++ text) ++ rest ≡ a ++ (text ++ rest)
three_parts a text rest = append_assoc a text rest

-- ---- whole cards

length-front : (n : ℕ) (line : List ℕ) → n ≤ length line → length (first_columns n line) ≡ n
length-front n line h =
    omega (arith, length-append (take n line) (replicate (n - length line) 32), length-replicate {A = ℕ} (n - length line) 32, length-take n line)

pub changed_length : (first : ℕ) (text line : List ℕ) → length line ≡ 80 → first - 1 + length text ≤ 80 → length (with_columns first text line) ≡ 80
changed_length first text line e h =
    let a = length-front (first - 1) line (omega arith) in
    omega (arith, a, length-append (first_columns (first - 1) line) (text ++ drop (first - 1 + length text) line), length-append text (drop (first - 1 + length text) line), length-drop (first - 1 + length text) line)

blank_characters : (n : ℕ) → list_all is_character (replicate n 32) ≡ true
blank_characters zero = refl
blank_characters (suc n) = blank_characters n

and-true : (a b : Bool) → a ≡ true → b ≡ true → (a && b) ≡ true
and-true a b p q = rw (p, q) refl

both_parts : (n : ℕ) (line : List ℕ) → list_all is_character line ≡ true → (list_all is_character (take n line) ≡ true) × (list_all is_character (drop n line) ≡ true)
both_parts n line h =
    let cut : (list_all is_character (take n line) && list_all is_character (drop n line)) ≡ true =
    sym (list_all-append is_character (take n line) (drop n line)) ∙ ap (list_all is_character) (take-append-drop n line) ∙ h in
    and_parts _ _ cut

take_characters : (n : ℕ) (line : List ℕ) → list_all is_character line ≡ true → list_all is_character (take n line) ≡ true
take_characters n line h = (both_parts n line h).0

drop_characters : (n : ℕ) (line : List ℕ) → list_all is_character line ≡ true → list_all is_character (drop n line) ≡ true
drop_characters n line h = (both_parts n line h).1

pub changed_characters : (first : ℕ) (text line : List ℕ) → list_all is_character text ≡ true → list_all is_character line ≡ true → list_all is_character (with_columns first text line) ≡ true
changed_characters first text line p q =
    list_all-append is_character (first_columns (first - 1) line) (text ++ drop (first - 1 + length text) line)
    ∙ and-true _ _
    (list_all-append is_character (take (first - 1) line) (replicate (first - 1 - length line) 32) ∙ and-true _ _ (take_characters (first - 1) line q) (blank_characters (first - 1 - length line)))
    (list_all-append is_character text (drop (first - 1 + length text) line) ∙ and-true _ _ p (drop_characters (first - 1 + length text) line q))

-- a line of 80 columns is its card
pub full_card : (line : List ℕ) → length line ≡ 80 → take 80 line ++ replicate (80 - length line) 32 ≡ line
full_card line e =
    let none : 80 - length line ≡ 0 = omega arith in
    rw (none, take_all 80 line (omega arith)) (append-nil line)
