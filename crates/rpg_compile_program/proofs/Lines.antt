-- The program's lines are those of the cards by names, at the numbers of the names.
use Rattle.std.proofs.Common.{◌≡◌, ℕ, List, [], ◌∷◌, map, refl, ap}
use Rattle.rpg_cards.specs.Files.{file_by}
use Rattle.rpg_cards.specs.Groups.{Group, groups, output_role}
use Rattle.rpg_cards.specs.declared.spec_card.SpecCard.{SpecCard}
use Rattle.rpg_program.specs.declared.line.File.{File}
use Rattle.rpg_program.specs.declared.line.File.TheVariants.{Disk, Printer}
use Rattle.rpg_program.specs.Object as program
use Rattle.rpg_program.specs.Naming.{renamed_line}
use Rattle.rpg_sheet_specs.specs.declared.output.OutputRecord.{OutputRecord}
use Rattle.rpg_sheet_specs.specs.declared.output.OutputSpec.{OutputSpec}
use Rattle.rpg_compile_program.specs.Lines.{card_line, line_of_file, lines_on, output_file, put_length}
use Rattle.rpg_compile_program.specs.Program.{key_numbers, numbered_line, program_of}

module _ (cards : List SpecCard) (allowance : ℕ) where
  pub length_same : (file : File) → program.file_length (program_of cards allowance) file ≡ put_length cards file
  unfolding program_of
  length_same Printer = refl
  length_same Disk = refl

  line_same : (g : Group OutputRecord OutputSpec) → program.program_line (program_of cards allowance) (numbered_line cards (card_line cards g)) ≡ renamed_line (key_numbers cards) (card_line cards g)
  line_same g = ap (λ len. renamed_line (key_numbers cards) (line_of_file (output_file (file_by g.file cards)) len g)) (length_same (output_file (file_by g.file cards)))

  each_same : (gs : List (Group OutputRecord OutputSpec)) → map (program.program_line (program_of cards allowance)) (map (numbered_line cards) (map (card_line cards) gs)) ≡ map (renamed_line (key_numbers cards)) (map (card_line cards) gs)
  each_same [] = refl
  each_same (g ∷ gs) = λ i. line_same g i ∷ each_same gs i

  pub lines_same : program.lines_of (program_of cards allowance) ≡ map (renamed_line (key_numbers cards)) (lines_on cards)
  unfolding program_of
  lines_same = each_same (groups output_role cards)
