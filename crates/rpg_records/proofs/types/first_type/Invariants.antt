use Rattle.std.proofs.Common.{◌≡◌, drop}
use Rattle.rpg_records.specs.Translations.{is_low_blank, page_of}
use Rattle.rpg_records.specs.Types.{first_type}
use Rattle.rpg_records.proofs.types.first_type.Given as goal

abbrev pub invariant-loop-kind : goal.invariant-loop-kind
invariant-loop-kind l =
    first_type (page_of l.translation) (is_low_blank l.translation) l.bytes (drop l.kind-index l.types)
    ≡ first_type (page_of l.translation) (is_low_blank l.translation) l.bytes l.types
