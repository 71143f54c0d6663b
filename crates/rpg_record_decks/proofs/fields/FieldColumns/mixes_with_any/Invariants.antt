use Rattle.std.proofs.Common.{◌≡◌, ◌&&◌, drop}
use Rattle.std.specs.List.{list_any}
use Rattle.rpg_record_decks.specs.Types.{differ, overlaps}
use Rattle.rpg_record_decks.specs.declared.fields.FieldColumns.{FieldColumns}
use Rattle.rpg_record_decks.proofs.fields.FieldColumns.mixes_with_any.Given as goal

abbrev pub invariant-loop-field : goal.invariant-loop-field
invariant-loop-field l =
    list_any (λ (g : FieldColumns). overlaps l.self g && differ l.self g) (drop l.field-index l.fields) ≡ list_any (λ (g : FieldColumns). overlaps l.self g && differ l.self g) l.fields
