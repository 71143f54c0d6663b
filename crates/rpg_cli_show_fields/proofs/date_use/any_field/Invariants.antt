use Rattle.std.proofs.Common.{◌≡◌, drop}
use Rattle.std.specs.List.{list_any}
use Rattle.rpg_cli_show_fields.specs.DateUse.{field_uses}
use Rattle.rpg_cli_show_fields.proofs.date_use.any_field.Given as goal

abbrev pub invariant-loop-field : goal.invariant-loop-field
invariant-loop-field l = list_any (field_uses l.rows.fields.items) (drop l.field-index l.fields) ≡ list_any (field_uses l.rows.fields.items) l.fields
