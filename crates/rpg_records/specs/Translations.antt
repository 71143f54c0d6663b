-- What a translation is made for.
use Rattle.std.specs.Prelude.{Bool}
use Rattle.rpg_records.specs.declared.translation.Page.{Page}
use Rattle.rpg_records.specs.declared.translation.Translation.{Translation}

-- the code page
abbrev pub page_of : Translation → Page
page_of t = t.page

-- the byte 0 is a blank
abbrev pub is_low_blank : Translation → Bool
is_low_blank t = t.low_blank
