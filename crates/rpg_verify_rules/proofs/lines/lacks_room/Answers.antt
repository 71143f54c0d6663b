use Rattle.std.proofs.Common.{rules, ◌≡◌, false, sym, ◌∙◌}
use Rattle.std.proofs.lemmas.Bool.{and_parts}
use Rattle.rpg_program.specs.Object.{seen}
use Rattle.rpg_verify_rules.proofs.Rooms.{lacking}
use Rattle.rpg_verify_rules.proofs.lines.lacks_room.Goals as goal

pub is_field_worded-requires-clause-edited : goal.is_field_worded-requires-clause-edited
is_field_worded-requires-clause-edited c = (and_parts _ _ (and_parts _ _ (sym c.may_have_width.ensures ∙ c.if-may_have_width.true)).1).0

pub returns-then-not-has_room : goal.returns-then-not-has_room
returns-then-not-has_room c =
    let no_room : c.has_room.result ≡ false = search rules in
    lacking (seen c.args.rows.now) c.args.length c.args.field.now c.is_field_worded.result
    (sym c.may_have_width.ensures ∙ c.if-may_have_width.true) (sym c.has_room.ensures ∙ no_room) c.is_field_worded.ensures
