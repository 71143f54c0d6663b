use Rattle.std.proofs.Common.{◌∙◌, false, ap}
use Rattle.std.specs.Option.{option_map_or, option_or}
use Rattle.rpg_cards.specs.Groups.{open_file, output_role}
use Rattle.rpg_cards.specs.declared.files.FileUse.TheVariants.{Disk, Printer}
use Rattle.rpg_faults_limits.proofs.FileLemmas.{placed_by, serves_found}
use Rattle.rpg_faults_limits.proofs.SheetLemmas.{file_or_is}
use Rattle.rpg_faults_limits.specs.FileCauses.{serves}
use Rattle.rpg_faults_limits.proofs.files.file_of_line.Goals as goal

pub returns-clause-file : goal.returns-clause-file
returns-clause-file c =
    let cards = c.args.source.now in
    let line = c.args.line.now in
    let open_line = open_file output_role c.args.before.now in
    c.file_at.ensures ∙ placed_by (option_or line.file open_line) cards _ (c.file_or.ensures ∙ file_or_is cards line.file open_line c.args.sheets.now.lines.file c.requires.lines.last.file)

pub returns-clause-disk : goal.returns-clause-disk
returns-clause-disk c =
    ap (λ o. option_map_or (serves Disk) o false) (returns-clause-file c) ∙ serves_found Disk (option_or c.args.line.now.file (open_file output_role c.args.before.now)) c.args.source.now

pub returns-clause-printer : goal.returns-clause-printer
returns-clause-printer c =
    ap (λ o. option_map_or (serves Printer) o false) (returns-clause-file c) ∙ serves_found Printer (option_or c.args.line.now.file (open_file output_role c.args.before.now)) c.args.source.now
