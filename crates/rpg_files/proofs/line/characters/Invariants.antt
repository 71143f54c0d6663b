use Rattle.std.proofs.Common.{◌≡◌, ◌-◌, ◌≤◌, length, true, take}
use Rattle.std.specs.List.{list_all}
use Rattle.rpg_text.specs.Texts.{is_character}
use Rattle.rpg_files.proofs.line.characters.Given as goal

abbrev pub invariant-loop-at : goal.invariant-loop-at
invariant-loop-at l = record { within : l.at ≤ length l.bytes; all : list_all is_character (take l.at l.bytes) ≡ true }

abbrev pub decreases-loop-at : goal.decreases-loop-at
decreases-loop-at l = length l.bytes - l.at
