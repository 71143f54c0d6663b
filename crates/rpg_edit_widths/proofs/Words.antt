-- The part of an edit word after its last place.
use Rattle.std.proofs.Common.{◌≡◌, ℕ, ◌+◌, Bool, true, false, eqb, ◌&&◌, List, [], ◌∷◌, ◌++◌, map, drop, refl, sym, ap, ◌∙◌, arith, append_assoc}
use Rattle.std.proofs.lemmas.List.{drop-drop}
use Rattle.rpg_edit_marks.specs.declared.mark.Mark.{Mark}
use Rattle.std.proofs.lemmas.Bool.Decides.{nat_tests}
use Rattle.rpg_edit_marks.specs.declared.mark.Mark.TheVariants.{Sign}
use Rattle.rpg_edit_marks.specs.Word.{always_mark, begins_with_character, begins_credit, sign_part}

not_minus : (c : ℕ) (more : Bool) → (eqb c 67 && more) ≡ true → eqb c 45 ≡ false
not_minus c more h = grind (arith, nat_tests)

-- where it begins with CR, this is the sign
pub sign_part-credit : (part : List ℕ) → begins_credit part ≡ true → sign_part part ≡ Sign 67 ∷ Sign 82 ∷ map always_mark (drop 2 part)
sign_part-credit [] h = cc
sign_part-credit (c ∷ rest) h = rw (not_minus c (begins_with_character 82 rest) h, h) refl

-- after these two marks come the characters after them
pub credit_done : (part : List ℕ) (i : ℕ) (old before first second new : List Mark) → begins_credit (drop i part) ≡ true → before ++ sign_part (drop i part) ≡ old → first ≡ before ++ Sign 67 ∷ [] → second ≡ first ++ Sign 82 ∷ [] → new ≡ second ++ map always_mark (drop (i + 2) part) → new ≡ old
credit_done part i old before first second new h whole is_first is_second is_new =
    let following : drop 2 (drop i part) ≡ drop (i + 2) part = drop-drop 2 i part in
    let credit : sign_part (drop i part) ≡ Sign 67 ∷ Sign 82 ∷ map always_mark (drop (i + 2) part) = sign_part-credit (drop i part) h ∙ ap (λ xs. Sign 67 ∷ Sign 82 ∷ map always_mark xs) following in
    rw (is_new, is_second, is_first) (simp append_assoc (sym (ap (λ marks. before ++ marks) credit) ∙ whole))
