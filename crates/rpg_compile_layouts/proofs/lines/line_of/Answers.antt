use Rattle.std.proofs.lemmas.List.Elements.{All-map}
use Rattle.std.specs.Prelude.{All}
use Rattle.rpg_compile_layouts.proofs.LineFollowers.{line_kept, line_same}
use Rattle.rpg_compile_layouts.proofs.lines.line_of.Goals as goal
use Rattle.rpg_program.specs.Kept.{IsConditionRow}
use Rattle.std.proofs.Common.{map}

pub fields_of-requires : goal.fields_of-requires
fields_of-requires c = c.requires.indices

pub returns-clause-row : goal.returns-clause-row
returns-clause-row c =
    line_same c.args.table.now c.args.file c.args.heading.now c.args.following.now c.time_of.result c.spacing_of.result (map (λ a. a.items) c.in_ok-alternatives_of.field-0.items) c.in_ok-fields_of.field-0.items
    c.time_of.ensures c.spacing_of.ensures.value c.in_ok-alternatives_of.ensures.alternatives c.in_ok-fields_of.ensures.fields

pub returns-clause-kept : goal.returns-clause-kept
returns-clause-kept c =
    line_kept c.args.table.now c.args.file c.args.heading.now c.args.following.now c.time_of.result c.spacing_of.result (map (λ a. a.items) c.in_ok-alternatives_of.field-0.items) c.in_ok-fields_of.field-0.items
    c.requires c.spacing_of.ensures.kept c.in_ok-alternatives_of.ensures.alternatives (All-map (λ a. All IsConditionRow a) (λ a. a.items) c.in_ok-alternatives_of.field-0.items c.in_ok-alternatives_of.ensures.kept) c.in_ok-fields_of.ensures.fields c.in_ok-fields_of.ensures.kept
