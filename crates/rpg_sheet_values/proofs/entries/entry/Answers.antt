use Rattle.std.proofs.Common.{◌≡◌, ℕ, ◌∙◌, Bool, true, false, List, [], ◌∷◌, length, Some, None, refl, sym, ap, arith}
use Rattle.std.specs.Prelude.{position, not, option_map, ◌&&◌, ◌||◌}
use Rattle.std.specs.List.{list_all, prefix_len}
use Rattle.std.proofs.lemmas.Bool.{and_parts, eqb-true}
use Rattle.std.proofs.lemmas.Grind.{common_steps}
use Rattle.rpg_text.specs.Texts.{trimmed}
use Rattle.rpg_sheet_specs.specs.Values.{when, is_letter, is_comma, is_name, is_name_character, name_of, plain, entry}
use Rattle.rpg_sheet_values.proofs.Lettered.{unlettered}
use Rattle.rpg_sheet_values.proofs.entries.entry.Goals as goal

no_comma : (c : ℕ) → is_name_character c ≡ true → is_comma c ≡ false
no_comma c h = by (is_comma c) refl
  where
    by : (b : Bool) → is_comma c ≡ b → is_comma c ≡ false
    by false e = e
    by true e = let is = eqb-true c 44 e in let comma : is_name_character 44 ≡ true = rw is at h in absurd cc

none_len : (text : List ℕ) → list_all is_name_character text ≡ true → prefix_len (λ c. not (is_comma c)) text ≡ length text
none_len [] all = refl
none_len (c ∷ cs) all = let both = and_parts (is_name_character c) (list_all is_name_character cs) all in rw (no_comma c both.0) (omega (arith, none_len cs both.1))

characters : (text : List ℕ) → is_name 6 text ≡ true → list_all is_name_character text ≡ true
characters [] e = refl
characters (c ∷ cs) e = by (is_letter c) _ (list_all is_name_character cs) _ e
  where
    by : (a d b l : Bool) → (a && b && l) ≡ true → ((a || d) && b) ≡ true
    by true d true l e = refl
    by true d false l e = absurd cc
    by false d b l e = absurd cc

is_one : (text name : List ℕ) → Some name ≡ name_of 6 text → is_name 6 text ≡ true
is_one text name found = by (is_name 6 text) found
  where
    by : (b : Bool) → Some name ≡ when b text → b ≡ true
    by true e = refl
    by false e = absurd cc

-- a name is an entry, as it has no comma
named : (columns text name : List ℕ) → text ≡ trimmed columns → Some name ≡ name_of 6 text → Some (plain name) ≡ entry columns
unfolding entry
named columns text name is found =
    let all = none_len text (characters text (is_one text name found)) in
    let none : position is_comma text ≡ None = grind (arith, common_steps) in
    rw (sym is, none) (ap (option_map plain) found)

pub returns-then-not-begins_with_letter : goal.returns-then-not-begins_with_letter
returns-then-not-begins_with_letter c = unlettered c.args.text.now (sym c.begins_with_letter.ensures ∙ c.if-not-begins_with_letter.true)

pub returns-in-Some : goal.returns-in-Some
returns-in-Some c = named c.args.text.now c.trimmed-text.result.now c.in-Some.name c.trimmed-text.ensures c.in-Some.ensures
