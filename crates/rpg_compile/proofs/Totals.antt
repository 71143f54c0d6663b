-- The names and constants of a source without a fault are no more, and take no more storage, than an object program may have.
use Rattle.std.proofs.Common.{◌≡◌, ℕ, ◌+◌, ◌≤◌, Bool, true, false, cond, map, List, [], ◌∷◌, ◌++◌, length, length-append, None, Some, refl, ap, ◌∙◌, arith}
use Rattle.std.proofs.lemmas.Bool.{ltb-true}
use Rattle.std.proofs.lemmas.List.{length-map}
use Rattle.std.proofs.lemmas.List.Sums.{sum_by-cons}
use Rattle.std.proofs.lemmas.Map.Entries.{length-keys_of}
use Rattle.std.specs.Cmp.Lexicographic.{pointwise}
use Rattle.std.specs.List.{position_or_len}
use Rattle.std.specs.Map.{keys_of}
use Rattle.std.specs.Option.{option_map}
use Rattle.std.specs.Prelude.{nat_eq, nat_lt, sum_by, unwrap_or}
use Rattle.rpg_card_index.specs.Totals.{constant_size, definition_bytes}
use Rattle.rpg_cards.specs.Constants.{constant_form, constants}
use Rattle.rpg_cards.specs.Names.{defined_field, names}
use Rattle.rpg_cards.specs.declared.constants.Constant.{Constant}
use Rattle.rpg_cards.specs.declared.spec_card.SpecCard.{SpecCard}
use Rattle.rpg_program.specs.Forms.{size_of}
use Rattle.rpg_program.specs.declared.form.FieldForm.{FieldForm}
use Rattle.rpg_faults_limits.specs.Limits.{bytes_up_to, constant_bytes, fields_up_to, name_bytes, name_count}
use Rattle.rpg_program.specs.Kept.{storage_of}
use Rattle.rpg_compile.proofs.Walks.{unpassed}
use Rattle.rpg_symbols.specs.Fields.{NamedForms, storage}
use Rattle.rpg_compile_program.proofs.NamedFields.{names_are}
use Rattle.rpg_compile_program.proofs.Known.{defined}
use Rattle.rpg_compile_program.proofs.Lists.{all_within}
use Rattle.rpg_compile_program.specs.Rules.{KeepsCardRules}
use Rattle.rpg_compile_program.specs.Table.{defined_fields, forms, name_forms, name_number, table_of}

-- ---- bytes of names

bytes_by_name : (fs : NamedForms) → sum_by definition_bytes (map defined_field fs) ≡ storage fs
bytes_by_name [] = refl
bytes_by_name (f ∷ fs) =
    let rest = bytes_by_name fs in
    let here = sum_by-cons definition_bytes (defined_field f) (map defined_field fs) in
    let same = sum_by-cons (λ (x : List ℕ × FieldForm). size_of x.1) f fs in
    omega arith

-- ---- storage of forms

storage_of-names : (fs : NamedForms) → storage_of (name_forms fs) ≡ storage fs
storage_of-names [] = refl
storage_of-names (f ∷ fs) = let rest = storage_of-names fs in let one = sum_by-cons (λ (x : List ℕ × FieldForm). size_of x.1) f fs in omega arith

storage_of-append : (fs gs : List FieldForm) → storage_of (fs ++ gs) ≡ storage_of fs + storage_of gs
storage_of-append [] gs = omega arith
storage_of-append (f ∷ fs) gs = let rest = storage_of-append fs gs in omega arith

storage_of-constants : (cs : List Constant) → storage_of (map constant_form cs) ≡ sum_by constant_size cs
storage_of-constants [] = refl
storage_of-constants (c ∷ cs) = let rest = storage_of-constants cs in let one = sum_by-cons constant_size c cs in omega arith

-- ---- the number of a name

within : (b : Bool) (k n : ℕ) → nat_lt k n ≡ b → unwrap_or (option_map (λ i. i + 1) (cond b (Some k) None)) 0 ≤ n
within true k n e = let below = ltb-true k n e in omega arith
within false k n e = omega arith

pub number_within : (cards : List SpecCard) (name : List ℕ) → name_number (table_of cards) name ≤ length (defined_fields cards)
number_within cards name =
    let keys = keys_of (defined_fields cards) in
    let place = position_or_len (pointwise nat_eq name) keys in
    let here = within (nat_lt place (length keys)) place (length keys) refl in
    let same = length-keys_of (defined_fields cards) in
    omega (arith, here, same)

module _ (cards : List SpecCard) (rules : KeepsCardRules cards) where
  bytes_are : name_bytes cards ≡ storage (defined_fields cards)
  bytes_are = ap (sum_by definition_bytes) (names_are cards (defined cards rules)) ∙ bytes_by_name (defined_fields cards)

  numbers_are : name_count cards ≡ length (defined_fields cards)
  numbers_are = ap length (names_are cards (defined cards rules)) ∙ length-map (defined_fields cards) defined_field

  -- ---- within the limits

  pub names_within : length (defined_fields cards) + length (constants cards) ≤ 4000
  names_within =
      let number = numbers_are in
      let low : name_count cards ≤ 4000 = all_within name_count 4000 cards (omega arith) (λ before c after split. (unpassed cards rules before c after split).names) in
      let all : fields_up_to cards cards ≤ 4000 = all_within (fields_up_to cards) 4000 cards (omega arith) (λ before c after split. (unpassed cards rules before c after split).all_fields) in
      omega arith

  pub fields_within : length (forms (table_of cards)) ≤ 4000
  fields_within =
      let all = names_within in
      let both = length-append (name_forms (defined_fields cards)) (map constant_form (constants cards)) in
      let names = length-map (defined_fields cards) (λ (f : List ℕ × FieldForm). f.1) in
      let others = length-map (constants cards) constant_form in
      omega arith

  pub name_storage_within : storage (defined_fields cards) ≤ 65535
  name_storage_within =
      let same = bytes_are in
      let low : name_bytes cards ≤ 65535 = all_within name_bytes 65535 cards (omega arith) (λ before c after split. (unpassed cards rules before c after split).name_bytes) in
      omega arith

  pub storage_within : storage_of (forms (table_of cards)) ≤ 65535
  storage_within =
      let low : name_bytes cards ≤ 65535 = all_within name_bytes 65535 cards (omega arith) (λ before c after split. (unpassed cards rules before c after split).name_bytes) in
      let all : bytes_up_to cards cards ≤ 65535 = all_within (bytes_up_to cards) 65535 cards (omega arith) (λ before c after split. (unpassed cards rules before c after split).all_bytes) in
      let by_name = bytes_are in
      let both = storage_of-append (name_forms (defined_fields cards)) (map constant_form (constants cards)) in
      let names = storage_of-names (defined_fields cards) in
      let others : storage_of (map constant_form (constants cards)) ≡ constant_bytes cards = storage_of-constants (constants cards) in
      omega arith
