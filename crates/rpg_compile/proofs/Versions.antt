-- The version of the program of cards: what a version doesn't have, its program doesn't have.
use Rattle.std.proofs.Common.{◌≡◌, ℕ, Bool, true, false, cond, List, [], ◌∷◌, map, Option, None, Some, refl, sym, ap, ◌∙◌}
use Rattle.std.proofs.lemmas.Bool.{and_parts, eqb-true, not-false, or_parts}
use Rattle.std.specs.List.{cons_option, list_any}
use Rattle.std.specs.Option.{option_map, option_map_or}
use Rattle.std.specs.Prelude.{find, is_some, nat_eq}
use Rattle.std.specs.Cmp.Lexicographic.{pointwise}
use Rattle.rpg_cards.specs.Cards.{input_field_on}
use Rattle.rpg_cards.specs.Files.{ending_file, file_by, file_for, file_named, file_use, files, page_of, same_use}
use Rattle.rpg_cards.specs.Groups.{Group, groups, input_role}
use Rattle.rpg_cards.specs.Keys.{Key}
use Rattle.rpg_cards.specs.Levels.{has_match_field, is_match_card, is_match_field}
use Rattle.rpg_cards.specs.Plain.{Each}
use Rattle.rpg_cards.specs.declared.files.FileUse.{FileUse}
use Rattle.rpg_cards.specs.declared.files.FileUse.TheVariants.{Disk, Primary, Printer, Secondary}
use Rattle.rpg_cards.specs.declared.spec_card.SpecCard.{SpecCard}
use Rattle.rpg_compile_program.proofs.InputTypes.{follower_on}
use Rattle.rpg_compile_program.proofs.Matched.{Rows}
use Rattle.rpg_compile_program.proofs.OpenGroups.{HasValid, InGroup, each_valid}
use Rattle.rpg_compile_program.specs.Lines.{record_length_of}
use Rattle.rpg_compile_program.specs.Program.{is_standard, key_numbers, needs_page, program_of, types_of, version_for, version_with}
use Rattle.rpg_compile_program.specs.Types.{card_type, control_field, file_read, input_fields_in, input_file}
use Rattle.rpg_paper.specs.Paper.{standard_page}
use Rattle.rpg_paper.specs.declared.form.Page.{Page}
use Rattle.rpg_program.specs.declared.input.InputFile.{InputFile}
use Rattle.rpg_program.specs.declared.input.InputFile.TheVariants as input_file_of
use Rattle.rpg_program.specs.Naming.{renamed_type}
use Rattle.rpg_program.specs.Kept.{IsPlain, IsPlainType, IsStandard}
use Rattle.rpg_program.specs.Object.{has_page, has_secondary}
use Rattle.rpg_sheet_specs.specs.declared.file.FileSpec.{FileSpec}
use Rattle.rpg_sheet_specs.specs.declared.input.InputFieldSpec.{InputFieldSpec}
use Rattle.rpg_sheet_specs.specs.declared.input.InputSpec.{InputSpec}
use Rattle.rpg_sheet_specs.specs.declared.input.InputSpec.TheVariants as input
use Rattle.rpg_sheet_specs.specs.declared.input.RecordType.{RecordType}
use Rattle.rpg_sheet_specs.specs.declared.spec.Spec.TheVariants as spec
use Rattle.rpg_compile.proofs.Walks.{all_of}

-- ---- no secondary file

none_passes : {X : Type 0} (test other : X → Bool) (xs : List X) (x : X) → is_some (find test xs) ≡ false → find other xs ≡ Some x → test x ≡ false
none_passes test other [] x none e = absurd cc
none_passes test other (y ∷ ys) x none e = by (test y) (other y) refl refl none e (none_passes test other ys x)
  where
    by : (a b : Bool) → test y ≡ a → other y ≡ b → is_some (cond a (Some y) (find test ys)) ≡ false → cond b (Some y) (find other ys) ≡ Some x
        → (is_some (find test ys) ≡ false → find other ys ≡ Some x → test x ≡ false) → test x ≡ false
    by true b is there none e later = absurd cc
    by false true is there none e later = let same : y ≡ x = cc in ap test (sym same) ∙ is
    by false false is there none e later = later none e

read_primary : (u : FileUse) → same_use Secondary u ≡ false → file_read u ≡ input_file_of.Primary
read_primary Primary e = refl
read_primary Secondary e = absurd cc
read_primary Printer e = refl
read_primary Disk e = refl

module _ (cards : List SpecCard) (none : is_some (file_for Secondary cards) ≡ false) where
  named_primary : (name : List ℕ) (o : Option FileSpec) → file_named name cards ≡ o → input_file o ≡ input_file_of.Primary
  named_primary name None e = refl
  named_primary name (Some f) e = read_primary (file_use f) (none_passes (λ g. same_use Secondary (file_use g)) (λ g. pointwise nat_eq name g.name) (files cards) f none e)

  by_primary : (name : Option (List ℕ)) → input_file (file_by name cards) ≡ input_file_of.Primary
  by_primary None = refl
  by_primary (Some name) = named_primary name (file_named name cards) refl

-- ---- no match fields

abbrev HasNone : InputSpec → Type 0
HasNone i = (f : InputFieldSpec) → i ≡ input.Field f → is_match_field f ≡ false

no_rows : (is : List InputSpec) → Each HasNone is → Rows (input_fields_in is) ≡ []
no_rows [] h = refl
no_rows (input.Type t ∷ is) h = no_rows is h.1
no_rows (input.And cs ∷ is) h = no_rows is h.1
no_rows (input.Field f ∷ is) h = by f.match_level (h.0 f refl) (no_rows is h.1)
  where
    by : (o : Option ℕ) → is_some o ≡ false → Rows (input_fields_in is) ≡ [] → cons_option (option_map (control_field f) o) (Rows (input_fields_in is)) ≡ []
    by None e r = r
    by (Some l) e r = absurd cc

each_none : (cards : List SpecCard) → has_match_field cards ≡ false → Each (HasValid input_role HasNone) cards
each_none [] e = tt
each_none (c ∷ cs) e =
    let both = or_parts (is_match_card c) (list_any is_match_card cs) e in
    ((λ i role f same. sym (ap (λ s. option_map_or is_match_field (input_field_on s) false) (follower_on c.spec i role ∙ ap spec.Input same)) ∙ both.0), each_none cs both.1)

-- ---- no page of its own

no_page : (p s m : Bool) → has_page (version_with p s m) ≡ false → p ≡ false
no_page true s m e = absurd cc
no_page false s m e = refl

pages_same : (page : Page) → is_standard page ≡ true → page ≡ standard_page
pages_same page e =
    let both = and_parts _ _ e in
    let lines : page.lines ≡ 66 = eqb-true _ _ both.0 in
    let line : page.overflow_line ≡ 60 = eqb-true _ _ both.1 in
    λ i. record { lines = lines i; overflow_line = line i }

none_ends : (o : Option InputFile) → is_some o ≡ false → o ≡ None
none_ends None e = refl
none_ends (Some f) e = absurd cc

pub standard : (cards : List SpecCard) → has_page (version_for cards) ≡ false → (allowance : ℕ) → IsStandard (program_of cards allowance)
unfolding program_of
standard cards old allowance =
    let both = or_parts _ _ (no_page (needs_page (page_of cards) (ending_file cards)) (is_some (file_for Secondary cards)) (has_match_field cards) old) in
    record { page = pages_same (page_of cards) (not-false _ both.0); ends = none_ends (ending_file cards) both.1 }

-- ---- version 1

neither : (p s m : Bool) → has_secondary (version_with p s m) ≡ false → (s ≡ false) × (m ≡ false)
neither true s m e = absurd cc
neither false true m e = absurd cc
neither false false true e = absurd cc
neither false false false e = (refl, refl)

module _ (cards : List SpecCard) (first : has_secondary (version_for cards) ≡ false) where
  both : (is_some (file_for Secondary cards) ≡ false) × (has_match_field cards ≡ false)
  both = neither (needs_page (page_of cards) (ending_file cards)) (is_some (file_for Secondary cards)) (has_match_field cards) first

  no_length : (o : Option FileSpec) → is_some o ≡ false → record_length_of o ≡ 0
  no_length None e = refl
  no_length (Some f) e = absurd cc

  each_plain : (number : Key → ℕ) (gs : List (Group RecordType InputSpec)) → Each (InGroup input_role HasNone) gs → Each IsPlainType (map (renamed_type number) (map (card_type cards) gs))
  each_plain number [] h = tt
  each_plain number (g ∷ gs) h = (record { file = by_primary cards both.0 g.file; matches = no_rows g.followers h.0 }, each_plain number gs h.1)

  pub plain : (allowance : ℕ) → IsPlain (program_of cards allowance)
  unfolding program_of
  plain allowance = record {
    secondary = no_length (file_for Secondary cards) both.0;
    types = all_of IsPlainType (types_of cards) (each_plain (key_numbers cards) (groups input_role cards) (each_valid input_role HasNone cards (each_none cards both.1)));
  }
