-- The compiler takes from F cards the files that the cards mean.
use Rattle.std.proofs.Common.{◌≡◌, ℕ, Bool, true, false, not, ◌&&◌, List, Option, None, Some, refl, ap, ◌∙◌}
use Rattle.std.specs.Prelude.{find, if◌then◌else◌}
use Rattle.std.specs.Option.{option_and_then, option_map_or}
use Rattle.rpg_cards.specs.Files as compiled
use Rattle.rpg_cards.specs.Files.{ending_file, file_by, file_for, files, form_named, page_of, page_on, same_use, use_by}
use Rattle.rpg_cards.specs.declared.files.FileUse.TheVariants as uses
use Rattle.rpg_cards.specs.declared.spec_card.SpecCard.{SpecCard}
use Rattle.rpg_program.specs.declared.input.InputFile.TheVariants as input
use Rattle.rpg_program.specs.declared.line.File.{File}
use Rattle.rpg_program.specs.declared.line.File.TheVariants as output
use Rattle.rpg_sheet_specs.specs.declared.file.Device.{Device}
use Rattle.rpg_sheet_specs.specs.declared.file.Device.TheVariants as device
use Rattle.rpg_sheet_specs.specs.declared.file.FileRole.{FileRole}
use Rattle.rpg_sheet_specs.specs.declared.file.FileRole.TheVariants as role
use Rattle.rpg_sheet_specs.specs.declared.file.FileSpec.{FileSpec}
use Rattle.rpg_sheet_specs.specs.declared.form.FormSpec.{FormSpec}
use Rattle.rpg_compile_program.specs.Lines.{file_put, output_file, put_length}
use Rattle.rpg_compile_program.specs.Types.{file_read, input_file}
use Rattle.rpg_meaning.specs.Sheets.Files.{ends_alone, is_disk, is_disk_by, is_primary, is_primary_by, is_printer, is_printer_by, is_secondary, is_secondary_by, file_record_length, meant_ends, overflow_line, page_lines, the_file, the_file_named, the_form}
use Rattle.rpg_meaning.specs.Sheets.Lines.{is_on_disk, length_on}
use Rattle.rpg_meaning.specs.Sheets.RecordTypes.{is_from_secondary}

primary_by : (r : FileRole) (d : Device) → same_use uses.Primary (use_by r d) ≡ is_primary_by r
primary_by role.Primary d = refl
primary_by role.Secondary d = refl
primary_by role.Output device.Printer = refl
primary_by role.Output device.Disk = refl

secondary_by : (r : FileRole) (d : Device) → same_use uses.Secondary (use_by r d) ≡ is_secondary_by r
secondary_by role.Primary d = refl
secondary_by role.Secondary d = refl
secondary_by role.Output device.Printer = refl
secondary_by role.Output device.Disk = refl

printer_by : (r : FileRole) (d : Device) → same_use uses.Printer (use_by r d) ≡ is_printer_by r d
printer_by role.Primary d = refl
printer_by role.Secondary d = refl
printer_by role.Output device.Printer = refl
printer_by role.Output device.Disk = refl

disk_by : (r : FileRole) (d : Device) → same_use uses.Disk (use_by r d) ≡ is_disk_by r d
disk_by role.Primary d = refl
disk_by role.Secondary d = refl
disk_by role.Output device.Printer = refl
disk_by role.Output device.Disk = refl

module _ (cards : List SpecCard) where
  pub primary_is_meant : file_for uses.Primary cards ≡ the_file is_primary cards
  primary_is_meant = ap (λ (test : FileSpec → Bool). find test (files cards)) (λ i f. primary_by f.role f.device i)

  pub secondary_is_meant : file_for uses.Secondary cards ≡ the_file is_secondary cards
  secondary_is_meant = ap (λ (test : FileSpec → Bool). find test (files cards)) (λ i f. secondary_by f.role f.device i)

  pub printer_is_meant : file_for uses.Printer cards ≡ the_file is_printer cards
  printer_is_meant = ap (λ (test : FileSpec → Bool). find test (files cards)) (λ i f. printer_by f.role f.device i)

  pub disk_is_meant : file_for uses.Disk cards ≡ the_file is_disk cards
  disk_is_meant = ap (λ (test : FileSpec → Bool). find test (files cards)) (λ i f. disk_by f.role f.device i)

  pub page_is_meant : page_of cards ≡ record { lines = page_lines cards; overflow_line = overflow_line cards }
  page_is_meant = ap (λ o. option_map_or page_on (option_and_then (λ f. form_named f.name cards) o) (record { lines = 66; overflow_line = 60 })) printer_is_meant ∙ by (the_form cards)
    where
      by : (o : Option FormSpec) → option_map_or page_on o (record { lines = 66; overflow_line = 60 }) ≡ record { lines = option_map_or (λ l. l.lines) o 66; overflow_line = option_map_or (λ l. l.overflow_line) o 60 }
      by None = refl
      by (Some l) = refl

  pub ends_is_meant : ending_file cards ≡ meant_ends cards
  ends_is_meant =
      (λ i. option_and_then (λ p. option_and_then (λ s. compiled.ends_alone p.ends_job s.ends_job) (secondary_is_meant i)) (primary_is_meant i))
      ∙ of (the_file is_primary cards) (the_file is_secondary cards)
    where
      by : (p s : Bool) → compiled.ends_alone p s ≡ (if p && not s then Some input.Primary else if s && not p then Some input.Secondary else None)
      by true true = refl
      by true false = refl
      by false true = refl
      by false false = refl

      of : (p s : Option FileSpec) → option_and_then (λ p. option_and_then (λ s. compiled.ends_alone p.ends_job s.ends_job) s) p
          ≡ (if ends_alone p s then Some input.Primary else if ends_alone s p then Some input.Secondary else None)
      of None None = refl
      of None (Some s) = refl
      of (Some p) None = refl
      of (Some p) (Some s) = by p.ends_job s.ends_job

  pub length_is_meant : (file : File) → put_length cards file ≡ length_on cards file
  length_is_meant output.Printer = ap file_record_length printer_is_meant
  length_is_meant output.Disk = ap file_record_length disk_is_meant

  pub read_from_is_meant : (name : Option (List ℕ)) → input_file (file_by name cards) ≡ (if is_from_secondary name cards then input.Secondary else input.Primary)
  read_from_is_meant name = of (the_file_named name cards)
    where
      by : (r : FileRole) (d : Device) → file_read (use_by r d) ≡ (if is_secondary_by r then input.Secondary else input.Primary)
      by role.Primary d = refl
      by role.Secondary d = refl
      by role.Output device.Printer = refl
      by role.Output device.Disk = refl

      of : (o : Option FileSpec) → input_file o ≡ (if option_map_or is_secondary o false then input.Secondary else input.Primary)
      of None = refl
      of (Some f) = by f.role f.device

  pub put_on_is_meant : (name : Option (List ℕ)) → output_file (file_by name cards) ≡ (if is_on_disk name cards then output.Disk else output.Printer)
  put_on_is_meant name = of (the_file_named name cards)
    where
      by : (r : FileRole) (d : Device) → file_put (use_by r d) ≡ (if is_disk_by r d then output.Disk else output.Printer)
      by role.Primary d = refl
      by role.Secondary d = refl
      by role.Output device.Printer = refl
      by role.Output device.Disk = refl

      of : (o : Option FileSpec) → output_file o ≡ (if option_map_or is_disk o false then output.Disk else output.Printer)
      of None = refl
      of (Some f) = by f.role f.device
