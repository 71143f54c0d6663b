use Rattle.rpg_object_rows.proofs.TypeLaws.{plain_kept, type_from, type_kept}
use Rattle.rpg_object_rows.proofs.row_laws.record_types_are_plain.Goals as goal

pub returns-clause-plain : goal.returns-clause-plain
returns-clause-plain c = type_kept

pub returns-clause-first : goal.returns-clause-first
returns-clause-first c = plain_kept

pub returns-clause-whole : goal.returns-clause-whole
returns-clause-whole c = type_from
