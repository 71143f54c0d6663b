use Rattle.std.proofs.Common.{ℕ, List, unwrap_or, ap, ◌∙◌}
use Rattle.std.specs.Cmp.Lexicographic.{pointwise}
use Rattle.std.specs.Map.{lookup}
use Rattle.std.specs.Option.{option_or}
use Rattle.std.specs.Prelude.{nat_eq}
use Rattle.rpg_compile.proofs.Noted.{subroutines_noted}
use Rattle.rpg_compile.proofs.numbers.NameNumbers.of_subroutines.Goals as goal
use Rattle.rpg_compile.specs.Numbers.{names_from, number_named}
use Rattle.rpg_compile.specs.Walk.{subroutines_in}

pub returns : goal.returns
returns c n =
    let ss = subroutines_in c.args.cards.now in
    let new = c.note_subroutines.new.numbers.entries in
    let empty = λ (m : List ℕ). c.in_ok-otherwise.ensures.noted m ∙ ap (λ es. option_or (lookup (pointwise nat_eq m) es) (lookup (pointwise nat_eq m) (names_from 0 ss))) c.new-numbers.ensures.empty in
    ap (unwrap_or (number_named new n)) c.in_ok-otherwise.ensures.count ∙ subroutines_noted new ss empty n
