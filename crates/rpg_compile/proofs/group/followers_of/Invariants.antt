use Rattle.std.proofs.Common.{◌≡◌, ◌+◌, ◌≤◌, None, drop, length, take, unwrap_or}
use Rattle.std.specs.List.{last_or}
use Rattle.rpg_cards.specs.Cards.{calculation_specs_in}
use Rattle.rpg_compile.specs.Walk.{joining}
use Rattle.rpg_compile.proofs.group.followers_of.Given as goal

abbrev pub invariant-loop-i : goal.invariant-loop-i
invariant-loop-i l = record {
  within : l.i ≤ length l.following;
  count : joining l.following ≡ l.i + joining (drop l.i l.following);
  last : l.last ≡ unwrap_or (last_or None (calculation_specs_in (take l.i l.following))) l.first;
}
