use Rattle.std.proofs.Common.{◌∙◌, ℕ, List, map, sym, ap, subst, arith}
use Rattle.std.specs.Option.{option_and_then}
use Rattle.std.specs.Prelude.{All, is_some}
use Rattle.rpg_cards.specs.Calculations.{calculations}
use Rattle.rpg_cards.specs.Files.{ending_file}
use Rattle.rpg_cards.specs.Sections.{sections_of}
use Rattle.rpg_compile_program.specs.Levels.{subroutine_level}
use Rattle.rpg_compile_program.specs.Whole as whole
use Rattle.rpg_program.specs.Input.{TypeRow}
use Rattle.rpg_program.specs.declared.operation.Instruction.{Instruction}
use Rattle.rpg_compile.specs.Marked.{IsMarked, IsMarkedRow}
use Rattle.rpg_compile.specs.Walk.{subroutines_in}
use Rattle.rpg_compile_layouts.specs.Rows.{rows_of}
use Rattle.rpg_program.specs.Kept.{IsLineRow, IsProgram, IsTypeRow}
use Rattle.rpg_program.specs.Object.{LineRow, SubroutineRow}
use Rattle.rpg_program.specs.Naming.{renamed_type}
use Rattle.rpg_compile_program.specs.Lines.{record_length_of}
use Rattle.rpg_compile_program.specs.Program.{needs_page, version_with}
use Rattle.rpg_compile_program.specs.Table.{Table, forms, key_number, table_of}
use Rattle.rpg_compile_program.specs.Types.{types_on}
use Rattle.rpg_compile.proofs.Programs.{is_program, made_of}
use Rattle.rpg_compile.proofs.program.program_of.Goals as goal

pub build-requires : goal.build-requires
build-requires c =
    let cards = c.args.source.now in
    let same = c.as_slice-cards.ensures in
    let table = c.in_ok-table.ensures.table in
    let types = c.in_ok-types.ensures.types ∙ ap (λ (t : Table). map (renamed_type (key_number t)) (types_on c.as_slice-cards.result.now)) table ∙ ap (λ cs. map (renamed_type (key_number (table_of cards))) (types_on cs)) same in
    let lines = c.in_ok-lines.ensures.lines ∙ ap (λ (t : Table). rows_of t c.as_slice-cards.result.now) table ∙ ap (rows_of (table_of cards)) same in
    let detail = c.in_ok-detail.ensures.detail ∙ ap (λ (t : Table). whole.detail_code (key_number t) (sections_of (calculations c.as_slice-cards.result.now))) table ∙ ap (λ cs. whole.detail_code (key_number (table_of cards)) (sections_of (calculations cs))) same in
    let total = c.in_ok-detail.ensures.total ∙ ap (λ (t : Table). whole.total_code (key_number t) (sections_of (calculations c.as_slice-cards.result.now))) table ∙ ap (λ cs. whole.total_code (key_number (table_of cards)) (sections_of (calculations cs))) same in
    let bodies = c.in_ok-detail.ensures.subroutines ∙ ap (λ (t : Table). whole.subroutine_rows (key_number t) (subroutine_level (subroutines_in c.as_slice-cards.result.now)) (sections_of (calculations c.as_slice-cards.result.now))) table
    ∙ ap (λ cs. whole.subroutine_rows (key_number (table_of cards)) (subroutine_level (subroutines_in cs)) (sections_of (calculations cs))) same in
    let made = made_of cards _ c.args.allowance _ _ _ _ _ _ _ _ _ _ _ _ _
    (c.version_for.ensures ∙ (λ i. version_with ((c.needs_page.ensures ∙ (λ k. needs_page (c.page-page.ensures k) ((c.ending_file-ends.ensures ∙ ap ending_file same) k))) i) (is_some (c.file_for-secondary.ensures i)) (c.has_match_field.ensures i)))
    (c.length_of.ensures ∙ ap record_length_of c.file_for.ensures) (c.length_of-2.ensures ∙ ap record_length_of c.file_for-secondary.ensures) (c.length_of-3.ensures ∙ ap record_length_of c.file_for-printer.ensures)
    (c.length_of-4.ensures ∙ ap record_length_of c.file_for-2.ensures)
    (c.overflow_of.ensures ∙ (λ i. record { indicator = option_and_then (λ f. f.overflow) (c.file_for-printer.ensures i); page = c.page-page.ensures i })) (c.ending_file-ends.ensures ∙ ap ending_file same)
    c.in_ok-table.ensures.forms c.in_ok-table.ensures.values types lines detail total bodies in
    subst IsProgram (sym made)
    (is_program cards c.args.allowance c.requires.allowed (omega arith) c.requires.kept.limits c.requires.kept.values c.requires.kept.accepted
    (subst (λ (ts : List (TypeRow ℕ)). All IsTypeRow ts) types c.in_ok-types.ensures.rows)
    (subst (λ (ls : List LineRow). All IsLineRow ls) lines c.in_ok-lines.ensures.rows)
    (subst (λ (is : List (Instruction ℕ)). All IsMarked is) detail c.in_ok-detail.ensures.detail_kept)
    (subst (λ (is : List (Instruction ℕ)). All IsMarked is) total c.in_ok-detail.ensures.total_kept)
    (subst (λ (ss : List SubroutineRow). All IsMarkedRow ss) bodies c.in_ok-detail.ensures.subroutines_kept))

pub returns : goal.returns
returns c =
    let cards = c.args.source.now in
    let same = c.as_slice-cards.ensures in
    let table = c.in_ok-table.ensures.table in
    c.build.ensures ∙ made_of cards _ c.args.allowance _ _ _ _ _ _ _ _ _ _ _ _ _
    (c.version_for.ensures ∙ (λ i. version_with ((c.needs_page.ensures ∙ (λ k. needs_page (c.page-page.ensures k) ((c.ending_file-ends.ensures ∙ ap ending_file same) k))) i) (is_some (c.file_for-secondary.ensures i)) (c.has_match_field.ensures i)))
    (c.length_of.ensures ∙ ap record_length_of c.file_for.ensures) (c.length_of-2.ensures ∙ ap record_length_of c.file_for-secondary.ensures) (c.length_of-3.ensures ∙ ap record_length_of c.file_for-printer.ensures)
    (c.length_of-4.ensures ∙ ap record_length_of c.file_for-2.ensures)
    (c.overflow_of.ensures ∙ (λ i. record { indicator = option_and_then (λ f. f.overflow) (c.file_for-printer.ensures i); page = c.page-page.ensures i })) (c.ending_file-ends.ensures ∙ ap ending_file same)
    c.in_ok-table.ensures.forms c.in_ok-table.ensures.values
    (c.in_ok-types.ensures.types ∙ ap (λ (t : Table). map (renamed_type (key_number t)) (types_on c.as_slice-cards.result.now)) table ∙ ap (λ cs. map (renamed_type (key_number (table_of cards))) (types_on cs)) same)
    (c.in_ok-lines.ensures.lines ∙ ap (λ (t : Table). rows_of t c.as_slice-cards.result.now) table ∙ ap (rows_of (table_of cards)) same)
    (c.in_ok-detail.ensures.detail ∙ ap (λ (t : Table). whole.detail_code (key_number t) (sections_of (calculations c.as_slice-cards.result.now))) table ∙ ap (λ cs. whole.detail_code (key_number (table_of cards)) (sections_of (calculations cs))) same)
    (c.in_ok-detail.ensures.total ∙ ap (λ (t : Table). whole.total_code (key_number t) (sections_of (calculations c.as_slice-cards.result.now))) table ∙ ap (λ cs. whole.total_code (key_number (table_of cards)) (sections_of (calculations cs))) same)
    (c.in_ok-detail.ensures.subroutines ∙ ap (λ (t : Table). whole.subroutine_rows (key_number t) (subroutine_level (subroutines_in c.as_slice-cards.result.now)) (sections_of (calculations c.as_slice-cards.result.now))) table
    ∙ ap (λ cs. whole.subroutine_rows (key_number (table_of cards)) (subroutine_level (subroutines_in cs)) (sections_of (calculations cs))) same)
