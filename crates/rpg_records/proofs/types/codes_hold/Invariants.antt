use Rattle.std.proofs.Common.{◌≡◌, drop}
use Rattle.std.specs.List.{list_all}
use Rattle.rpg_records.specs.Translations.{is_low_blank, page_of}
use Rattle.rpg_records.specs.Types.{code_fits_record}
use Rattle.rpg_records.proofs.types.codes_hold.Given as goal

abbrev pub invariant-loop-code : goal.invariant-loop-code
invariant-loop-code l =
    list_all (code_fits_record (page_of l.translation) (is_low_blank l.translation) l.bytes) (drop l.code-index l.codes)
    ≡ list_all (code_fits_record (page_of l.translation) (is_low_blank l.translation) l.bytes) l.codes
