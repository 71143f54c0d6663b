-- The characters of text constants, by the places of their first values.
use Rattle.std.proofs.Common.{◌≡◌, ℕ, suc, Bool, true, false, List, [], map, length, Option, None, Some, slice_get, if◌then◌else◌, refl, sym, ap, ◌∙◌}
use Rattle.std.proofs.lemmas.Bool.{ltb-false, ltb-true}
use Rattle.std.proofs.lemmas.Option.{slice_get-get_or, slice_get-map, slice_get_past}
use Rattle.std.specs.Option.{option_map}
use Rattle.std.specs.Prelude.{get_or, nat_lt}
use Rattle.rpg_program.specs.Forms.{form_at, is_text_constant}
use Rattle.rpg_program.specs.Values.{characters_of, entries_held}
use Rattle.rpg_program.specs.declared.value.FieldValues.{FieldValues}
use Rattle.rpg_program.specs.Constants.{first_value, values_at, word_at}
use Rattle.rpg_program.specs.Object.{Object}

-- the word of a text constant
word_is : (p : Object) (k : ℕ) → is_text_constant (form_at p.fields k) ≡ true → word_at p k ≡ characters_of (first_value (values_at p.values k))
unfolding word_at
word_is p k h = by_test (is_text_constant (form_at p.fields k)) h
  where
    by_test : (b : Bool) → b ≡ true → (if b then characters_of (first_value (values_at p.values k)) else []) ≡ characters_of (first_value (values_at p.values k))
    by_test true e = refl
    by_test false e = cc

pub found_at : {X : Type 0} (xs : List X) (k : ℕ) (x : X) → true ≡ nat_lt k (length xs) → x ≡ get_or xs k x → slice_get xs k ≡ Some x
found_at xs k x t e = slice_get-get_or xs k x (ltb-true k (length xs) (sym t)) ∙ ap Some (sym e)

pub missing_at : {X : Type 0} (xs : List X) (k : ℕ) → false ≡ nat_lt k (length xs) → slice_get xs k ≡ None
missing_at xs k t = slice_get_past xs k (ltb-false k (length xs) (sym t))

seen_at : (all : List FieldValues) (k : ℕ) (o : Option FieldValues) → slice_get all k ≡ o →
    slice_get (map entries_held all) k ≡ option_map entries_held o
seen_at all k o e = slice_get-map entries_held all k ∙ ap (option_map entries_held) e

word_at_place : (p : Object) (all : List FieldValues) → p.values ≡ map entries_held all → (n k : ℕ) → n ≡ suc k →
    is_text_constant (form_at p.fields n) ≡ true → word_at p n ≡ characters_of (first_value (slice_get (map entries_held all) k))
word_at_place p all same n k e h =
    word_is p n h ∙ ap (λ m. characters_of (first_value (values_at p.values m))) e ∙ ap (λ vs. characters_of (first_value (slice_get vs k))) same

-- the characters of the first of its values
pub word_found : (p : Object) (all : List FieldValues) → p.values ≡ map entries_held all → (n k : ℕ) (v : FieldValues) → n ≡ suc k →
    is_text_constant (form_at p.fields n) ≡ true → slice_get all k ≡ Some v → characters_of (slice_get (entries_held v) 0) ≡ word_at p n
word_found p all same n k v e h at =
    sym (word_at_place p all same n k e h ∙ ap (λ o. characters_of (first_value o)) (seen_at all k (Some v) at))

-- none, where it has no values
pub word_missing : (p : Object) (all : List FieldValues) → p.values ≡ map entries_held all → (n k : ℕ) → n ≡ suc k →
    is_text_constant (form_at p.fields n) ≡ true → slice_get all k ≡ None → [] ≡ word_at p n
word_missing p all same n k e h at =
    sym (word_at_place p all same n k e h ∙ ap (λ o. characters_of (first_value o)) (seen_at all k None at))
