-- What begins with a letter, and what doesn't.
use Rattle.std.proofs.Common.{◌≡◌, ℕ, zero, suc, ◌+◌, ◌-◌, Bool, true, false, List, [], ◌∷◌, ◌++◌, length, take, get_or, Option, Some, None, refl, sym, arith, eqb}
use Rattle.std.specs.Prelude.{position, option_map, slice_get, ◌&&◌, nat_lt}
use Rattle.std.specs.List.{list_all, position_or_len, before_first, after_first, suffix_len}
use Rattle.std.specs.Str.Parse.{starts_with_minus, without_leading_sign}
use Rattle.std.specs.Option.{option_map_or, option_or}
use Rattle.std.specs.Char.{is_ascii_digit}
use Rattle.std.proofs.lemmas.Bool.{eqb-true}
use Rattle.std.proofs.lemmas.Grind.{common_steps}
use Rattle.rpg_text.specs.Texts.{is_blank}
use Rattle.rpg_sheet_specs.specs.declared.entry.Entry.{Entry}
use Rattle.rpg_sheet_specs.specs.declared.literal.Factor.TheVariants as factors
use Rattle.rpg_sheet_specs.specs.declared.literal.Literal.{Literal}
use Rattle.rpg_sheet_specs.specs.declared.literal.Literal.TheVariants as literals
use Rattle.rpg_sheet_specs.specs.Values.{is_letter, is_comma, is_point, is_apostrophe, factor, numeral, entry, entry_split, entry_spelled, numeral_of, quoted, quoted_of, literal}
use Rattle.rpg_sheet_values.proofs.Digits.{is_digit}

-- what doesn't begin with a letter is no entry
unlettered_part : (n : ℕ) (columns : List ℕ) → option_map_or is_letter (slice_get columns 0) false ≡ false → None ≡ entry_spelled (take n columns)
unlettered_part zero columns h = refl
unlettered_part (suc n) [] h = refl
unlettered_part (suc n) (c ∷ cs) h = by (position is_comma (c ∷ take n cs))
  where
    by : (p : Option ℕ) → None ≡ entry_split p (c ∷ take n cs)
    by None = rw h refl
    by (Some zero) = refl
    by (Some (suc i)) = rw h refl

pub unlettered : (columns : List ℕ) → option_map_or is_letter (slice_get columns 0) false ≡ false → None ≡ entry columns
unfolding entry
unlettered columns h = unlettered_part (length columns - suffix_len is_blank columns) columns h

-- ---- what begins with a letter is no literal

other : (c d : ℕ) → is_letter c ≡ true → is_letter d ≡ false → eqb c d ≡ false
other c d letter none = by (eqb c d) refl
  where
    by : (b : Bool) → eqb c d ≡ b → eqb c d ≡ false
    by false e = e
    by true e = let is = eqb-true c d e in let both : is_letter d ≡ true = rw is at letter in absurd cc

no_digit : (c : ℕ) → is_letter c ≡ true → is_ascii_digit c ≡ false
no_digit c letter = by (is_ascii_digit c) refl
  where
    by : (b : Bool) → is_ascii_digit c ≡ b → is_ascii_digit c ≡ false
    by false e = e
    by true e = absurd (let digit = is_digit c e in grind (arith, common_steps))

middle : (a b : Bool) → (a && false && b) ≡ false
middle true b = refl
middle false b = refl

and_false : (a b : Bool) → (a && (false && b)) ≡ false
and_false true b = refl
and_false false b = refl

no_numeral : (minus : Bool) (c : ℕ) (cs following : List ℕ) → is_letter c ≡ true → numeral minus (c ∷ cs) following ≡ None
no_numeral minus c cs following letter = rw (no_digit c letter, and_false (nat_lt 0 (length (c ∷ cs ++ following))) (list_all is_ascii_digit (cs ++ following))) refl

kept : (n c : ℕ) (cs : List ℕ) → take (1 + n) (c ∷ cs) ≡ c ∷ take n cs
kept n c cs = let e : 1 + n ≡ suc n = omega arith in rw e refl

no_number : (c : ℕ) (cs : List ℕ) → is_letter c ≡ true → numeral_of (c ∷ cs) ≡ None
no_number c cs letter =
    let unsigned : without_leading_sign (c ∷ cs) ≡ c ∷ cs = rw (other c 45 letter refl, other c 43 letter refl) refl in
    let n = position_or_len is_point cs in
    let whole : before_first is_point (c ∷ cs) ≡ c ∷ take n cs = rw (other c 46 letter refl) (kept n c cs) in
    rw (unsigned, whole) (no_numeral (starts_with_minus (c ∷ cs)) c (take n cs) (after_first is_point (c ∷ cs)) letter)

no_text : (c : ℕ) (cs : List ℕ) → is_letter c ≡ true → quoted_of (c ∷ cs) ≡ None
no_text c cs letter = rw (other c 39 letter refl, middle (nat_lt 2 (length (c ∷ cs))) (is_apostrophe (get_or (c ∷ cs) (length (c ∷ cs) - 1) 0))) refl

literal_in : List ℕ → Option Literal
literal_in t = option_or (option_map literals.Number (numeral_of t)) (option_map literals.Text (quoted_of t))

lettered_part : (n : ℕ) (c : ℕ) (cs : List ℕ) → is_letter c ≡ true → literal_in (take n (c ∷ cs)) ≡ None
unfolding literal_in
lettered_part zero c cs letter = refl
lettered_part (suc n) c cs letter = rw (no_number c (take n cs) letter, no_text c (take n cs) letter) refl

lettered : (columns : List ℕ) → option_map_or is_letter (slice_get columns 0) false ≡ true → literal columns ≡ None
unfolding quoted literal_in
lettered [] h = absurd cc
lettered (c ∷ cs) h = lettered_part (length (c ∷ cs) - suffix_len is_blank (c ∷ cs)) c cs h

-- ---- so the first character shows what a factor can be

pub lettered_factor : (columns : List ℕ) → option_map_or is_letter (slice_get columns 0) false ≡ true → factor columns ≡ option_map factors.Entry (entry columns)
unfolding factor
lettered_factor columns h = rw (lettered columns h) (by (entry columns))
  where
    by : (e : Option Entry) → option_or (option_map factors.Entry e) None ≡ option_map factors.Entry e
    by None = refl
    by (Some e) = refl

pub other_factor : (columns : List ℕ) → option_map_or is_letter (slice_get columns 0) false ≡ false → factor columns ≡ option_map factors.Literal (literal columns)
unfolding factor
other_factor columns h = rw (sym (unlettered columns h)) refl
