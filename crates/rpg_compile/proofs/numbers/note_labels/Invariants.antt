use Rattle.std.proofs.Common.{◌≡◌, ◌+◌, ℕ, List, length}
use Rattle.std.specs.Cmp.Lexicographic.{pointwise}
use Rattle.std.specs.Map.{lookup}
use Rattle.std.specs.Option.{option_or}
use Rattle.std.specs.Prelude.{nat_eq}
use Rattle.rpg_compile_program.specs.Code.{sizes}
use Rattle.rpg_compile.proofs.numbers.note_labels.Given as goal
use Rattle.rpg_compile.specs.Numbers.{labels_from}
use Rattle.rpg_compile.specs.Walk.{section_in}

abbrev pub invariant-loop-group : goal.invariant-loop-group
invariant-loop-group l = record {
  noted : (n : List ℕ) → option_or (lookup (pointwise nat_eq n) l.places.entries) (lookup (pointwise nat_eq n) (labels_from l.place (section_in l.part l.rest)))
      ≡ option_or (lookup (pointwise nat_eq n) l.initial.places.entries) (lookup (pointwise nat_eq n) (labels_from l.first (section_in l.part l.cards)));
  end : l.place + sizes (section_in l.part l.rest) ≡ l.first + sizes (section_in l.part l.cards);
}

abbrev pub decreases-loop-group : goal.decreases-loop-group
decreases-loop-group l = length l.rest
