-- What the index of some cards finds.
use Rattle.std.proofs.Common.{◌≡◌, ℕ, ◌+◌, Bool, true, false, not, cond, List, [], ◌∷◌, take, Option, None, Some, refl, sym, ap, ◌∙◌}
use Rattle.std.specs.Cmp.Lexicographic.{pointwise}
use Rattle.std.specs.List.{list_any}
use Rattle.std.specs.Map.{lookup}
use Rattle.std.specs.Option.{is_none, is_some}
use Rattle.std.specs.Prelude.{nat_eq, ◌&&◌, ◌||◌}
use Rattle.rpg_card_index.specs.Index.{defined_first, placed_definition, IsNameIndex}
use Rattle.rpg_card_index.specs.declared.name_index.FirstDefinition.{FirstDefinition}
use Rattle.rpg_card_index.specs.declared.name_index.NameIndex.{NameIndex}
use Rattle.rpg_cards.proofs.FieldLemmas.{known_fields}
use Rattle.rpg_cards.proofs.FirstLemmas.{any_first, first_before, only_before}
use Rattle.rpg_cards.specs.First.{first_at}
use Rattle.rpg_cards.specs.Names.{defined_as, first_form, is_new_name, is_of}
use Rattle.rpg_cards.specs.declared.names.Definition.{Definition}
use Rattle.rpg_program.specs.declared.form.FieldForm.{FieldForm}
use Rattle.rpg_symbols.specs.Fields.{defined_form, given}

-- ---- names

pub first_form_first : (name : List ℕ) (i : ℕ) (ds : List Definition) → first_form name ds ≡ defined_first (first_at (is_of name) placed_definition i ds)
first_form_first name i [] = refl
first_form_first name i (d ∷ ds) = by_test (is_of name d) (first_form_first name (i + 1) ds)
  where
    by_test : (b : Bool) → first_form name ds ≡ defined_first (first_at (is_of name) placed_definition (i + 1) ds)
        → cond b (defined_as d.form) (first_form name ds) ≡ defined_first (cond b (Some (placed_definition i d)) (first_at (is_of name) placed_definition (i + 1) ds))
    by_test true rest = refl
    by_test false rest = rest

-- an answer that a name is new, where it isn't given
pub new_name : (name : List ℕ) (o : Option FieldForm) (p : Option FirstDefinition) (ds : List Definition) (new : Bool) → o ≡ defined_form given name → is_some o ≡ false
    → p ≡ first_at (is_of name) placed_definition 0 ds → is_some p ≡ not new → new ≡ is_new_name name ds
new_name name o p ds new known none found answer =
    turned new (is_some p) answer ∙ ap (λ (q : Option FirstDefinition). not (is_some q)) found ∙ ap not (sym (any_first (is_of name) placed_definition 0 ds))
    ∙ ap (λ b. not (b || list_any (is_of name) ds)) (sym none ∙ ap (λ (q : Option FieldForm). is_some q) known ∙ sym (known_fields given name))
  where
    turned : (a b : Bool) → b ≡ not a → a ≡ not b
    turned true b e = ap not (sym e)
    turned false b e = ap not (sym e)

-- ---- what is new

pub none_some : {X : Type 0} (o : Option X) → is_none o ≡ not (is_some o)
none_some None = refl
none_some (Some x) = refl

-- a name is new if no definition has it and it isn't given
pub new_of_two : (is_first given known : Bool) → is_first ≡ not known → (is_first && not given) ≡ not (given || known)
new_of_two true true known e = refl
new_of_two true false true e = absurd cc
new_of_two true false false e = refl
new_of_two false true known e = refl
new_of_two false false true e = refl
new_of_two false false false e = absurd cc

-- ---- what an index finds

-- the first definition of a name among the first n
pub found_before : (items : List Definition) (index : NameIndex) → IsNameIndex items index → (name : List ℕ) (n : ℕ) (o : Option FirstDefinition) → o ≡ lookup (pointwise nat_eq name) index.first.entries
    → only_before (λ (d : FirstDefinition). d.place) n o ≡ first_at (is_of name) placed_definition 0 (take n items)
found_before items index is name n o found =
    ap (only_before (λ (d : FirstDefinition). d.place) n) (found ∙ is.defined name) ∙ sym (first_before (is_of name) placed_definition (λ (d : FirstDefinition). d.place) (λ i d. refl) n items)
