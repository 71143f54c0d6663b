use Rattle.std.proofs.Common.{◌≡◌, ◌++◌, length}
use Rattle.rpg_compile.proofs.calls.push_calls.Given as goal
use Rattle.rpg_compile.specs.Called.{numbered_calls_in}
use Rattle.rpg_compile.specs.Numbers.{number_by}
use Rattle.rpg_compile.specs.Walk.{section_in}
use Rattle.rpg_compile.specs.declared.part.Part.TheVariants.{Body}

abbrev pub invariant-loop-group : goal.invariant-loop-group
invariant-loop-group l = l.calls.items ++ numbered_calls_in (number_by l.subroutines) l.caller (section_in Body l.rest) ≡ l.initial.calls.items ++ numbered_calls_in (number_by l.subroutines) l.caller (section_in Body l.cards)

abbrev pub decreases-loop-group : goal.decreases-loop-group
decreases-loop-group l = length l.rest
