-- Fields, and the definitions that they are.
use Rattle.std.proofs.Common.{◌≡◌, Bool, true, false, cond, List, [], ◌∷◌, map, Some, refl}
use Rattle.std.specs.Cmp.Lexicographic.{pointwise}
use Rattle.std.specs.List.{list_any}
use Rattle.std.specs.Option.{is_some}
use Rattle.std.specs.Prelude.{ℕ, nat_eq, ◌||◌}
use Rattle.rpg_cards.specs.Names.{defined_field, is_of}
use Rattle.rpg_symbols.specs.Fields.{NamedForms, defined_form}

-- a field is known by its name
pub known_fields : (fields : NamedForms) (name : List ℕ) → list_any (is_of name) (map defined_field fields) ≡ is_some (defined_form fields name)
known_fields [] name = refl
known_fields (f ∷ fs) name = by_test (pointwise nat_eq name f.0) (known_fields fs name)
  where
    by_test : (b : Bool) → list_any (is_of name) (map defined_field fs) ≡ is_some (defined_form fs name) → (b || list_any (is_of name) (map defined_field fs)) ≡ is_some (cond b (Some f.1) (defined_form fs name))
    by_test true rest = refl
    by_test false rest = rest
