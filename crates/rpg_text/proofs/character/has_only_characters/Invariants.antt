use Rattle.std.proofs.Common.{◌≡◌, take}
use Rattle.std.specs.List.{list_all}
use Rattle.rpg_text.specs.Texts.{is_character}
use Rattle.rpg_text.proofs.character.has_only_characters.Given as goal

abbrev pub invariant-loop-byte : goal.invariant-loop-byte
invariant-loop-byte l = l.are_all ≡ list_all is_character (take l.byte-index l.text)
