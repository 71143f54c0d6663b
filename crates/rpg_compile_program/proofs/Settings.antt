-- The lengths of the files of a source without a fault.
use Rattle.std.proofs.Common.{◌≡◌, ℕ, zero, suc, ◌≤◌, Bool, true, false, cond, ◌&&◌, List, [], ◌∷◌, Option, None, Some, refl, sym, ap, ◌∙◌, subst, arith}
use Rattle.std.proofs.lemmas.Bool.{ne_eqb}
use Rattle.std.specs.Option.{option_and_then, option_map_or}
use Rattle.std.specs.Prelude.{find, is_none, is_some, ◌==◌}
use Rattle.rpg_cards.specs.Cards.{file_on, output_record_on, type_on}
use Rattle.rpg_cards.specs.Files.{file_for, file_use, files, is_input, is_output, same_use}
use Rattle.rpg_cards.specs.Groups.{input_role, open_group, output_role}
use Rattle.rpg_cards.specs.declared.files.FileUse.{FileUse}
use Rattle.rpg_cards.specs.declared.files.FileUse.TheVariants.{Disk, Primary, Printer, Secondary}
use Rattle.rpg_cards.specs.declared.spec_card.SpecCard.{SpecCard}
use Rattle.rpg_faults_limits.specs.Files.{bad_file, lacks_file, longest_in_file}
use Rattle.rpg_verify_rules.proofs.Kept.{NoneTrue}
use Rattle.rpg_verify_rules.specs.Rules.{broken}
use Rattle.rpg_verify_rules.specs.declared.rule.Rule.TheVariants as verifier
use Rattle.rpg_sheet_specs.specs.declared.file.FileSpec.{FileSpec}
use Rattle.rpg_sheet_specs.specs.declared.spec.Spec.TheVariants as spec
use Rattle.rpg_compile_program.proofs.Lists.{Seen, or_first}
use Rattle.rpg_compile_program.proofs.OutputFiles.{IsOwn, found_from}
use Rattle.rpg_compile_program.specs.Lines.{record_length_of}
use Rattle.rpg_compile_program.specs.Program.{program_of}
use Rattle.rpg_compile_program.specs.Rules.{KeepsCardRules}

find_passes : {X : Type 0} (test : X → Bool) (xs : List X) (x : X) → find test xs ≡ Some x → test x ≡ true
find_passes test [] x e = cc
find_passes test (y ∷ ys) x e = by (test y) refl e (find_passes test ys x)
  where
    by : (b : Bool) → test y ≡ b → cond b (Some y) (find test ys) ≡ Some x → (find test ys ≡ Some x → test x ≡ true) → test x ≡ true
    by true is e later = let same : y ≡ x = cc in ap test (sym same) ∙ is
    by false is e later = later e

same_use-equal : (u v : FileUse) → same_use u v ≡ true → u ≡ v
same_use-equal Primary Primary e = refl
same_use-equal Secondary Secondary e = refl
same_use-equal Printer Printer e = refl
same_use-equal Disk Disk e = refl
same_use-equal Primary Secondary e = cc
same_use-equal Primary Printer e = cc
same_use-equal Primary Disk e = cc
same_use-equal Secondary Primary e = cc
same_use-equal Secondary Printer e = cc
same_use-equal Secondary Disk e = cc
same_use-equal Printer Primary e = cc
same_use-equal Printer Secondary e = cc
same_use-equal Printer Disk e = cc
same_use-equal Disk Primary e = cc
same_use-equal Disk Secondary e = cc
same_use-equal Disk Printer e = cc

module _ (cards : List SpecCard) (rules : KeepsCardRules cards) where
  -- what F7 says of an F card
  pub valid_files : Seen cards (λ before c after. option_map_or (bad_file before) (file_on c.spec) false ≡ false)
  valid_files before c after split =
      or_first (option_map_or (bad_file before) (file_on c.spec) false) (option_map_or (λ t. lacks_file cards is_input (is_some (open_group input_role before)) t.file) (type_on c.spec) false)
      (or_first _ (option_map_or (λ r. lacks_file cards is_output (is_some (open_group output_role before)) r.file) (output_record_on c.spec) false) (or_first _ _ (rules.f7 before c after split)))

  pub own : (u : FileUse) (f : FileSpec) → file_for u cards ≡ Some f → IsOwn cards valid_files f
  own u f e = found_from cards valid_files (λ g. same_use u (file_use g)) f [] cards refl e

  pub used : (u : FileUse) (f : FileSpec) → file_for u cards ≡ Some f → file_use f ≡ u
  used u f e = sym (same_use-equal u (file_use f) (find_passes (λ g. same_use u (file_use g)) (files cards) f e))

  longest_of : (u : FileUse) → record_length_of (file_for u cards) ≤ longest_in_file u
  longest_of u = by (file_for u cards) refl
    where
      by : (o : Option FileSpec) → file_for u cards ≡ o → record_length_of o ≤ longest_in_file u
      by None e = omega arith
      by (Some f) e = subst (λ v. f.record_length ≤ longest_in_file v) (used u f e) (own u f e).highest

  pub longest_record : record_length_of (file_for Primary cards) ≤ 9999
  longest_record = longest_of Primary

  pub longest_secondary_record : record_length_of (file_for Secondary cards) ≤ 9999
  longest_secondary_record = longest_of Secondary

  pub widest_line : record_length_of (file_for Printer cards) ≤ 132
  widest_line = longest_of Printer

  pub longest_disk_record : record_length_of (file_for Disk cards) ≤ 9999
  longest_disk_record = longest_of Disk

  pub shortest_record : 1 ≤ record_length_of (file_for Primary cards)
  shortest_record = by (file_for Primary cards) refl rules.f7_source
    where
      by : (o : Option FileSpec) → file_for Primary cards ≡ o → is_none o ≡ false → 1 ≤ record_length_of o
      by None e there = cc
      by (Some f) e there = (own Primary f e).lowest

  -- the overflow indicator is the printer's
  no_printer : (o : Option FileSpec) → file_for Printer cards ≡ o → (is_some (option_and_then (λ (f : FileSpec). f.overflow) o) && record_length_of o == 0) ≡ false
  no_printer None e = refl
  no_printer (Some f) e = by (is_some f.overflow) (f.record_length == 0) (ne_eqb f.record_length 0 (λ z. let low = (own Printer f e).lowest in omega arith))
    where
      by : (a b : Bool) → b ≡ false → (a && b) ≡ false
      by true b e = e
      by false b e = refl

  one_false : (b : Bool) → b ≡ false → NoneTrue (b ∷ [])
  one_false b is zero e = cc
  one_false b is (suc k) e = cc

  -- V1
  pub overflow_kept : (allowance : ℕ) → NoneTrue (broken (program_of cards allowance) verifier.Overflow)
  unfolding broken program_of
  overflow_kept allowance = one_false _ (no_printer (file_for Printer cards) refl)
