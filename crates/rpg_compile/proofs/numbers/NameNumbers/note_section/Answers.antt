use Rattle.std.proofs.Common.{ℕ, List, unwrap_or, ap, ◌∙◌}
use Rattle.std.specs.Cmp.Lexicographic.{pointwise}
use Rattle.std.specs.Map.{lookup}
use Rattle.std.specs.Option.{option_or}
use Rattle.std.specs.Prelude.{nat_eq}
use Rattle.rpg_compile.proofs.Noted.{labels_noted}
use Rattle.rpg_compile.proofs.numbers.NameNumbers.note_section.Goals as goal
use Rattle.rpg_compile.specs.Numbers.{labels_from, number_named}
use Rattle.rpg_compile.specs.Walk.{section_in}

pub returns-clause-places : goal.returns-clause-places
returns-clause-places c l =
    let gs = section_in c.args.part c.args.cards.now in
    let new = c.note_labels.new.places.entries in
    let cleared = λ (n : List ℕ). c.in_ok-end.ensures.noted n ∙ ap (λ es. option_or (lookup (pointwise nat_eq n) es) (lookup (pointwise nat_eq n) (labels_from c.args.first gs))) c.clear.ensures.empty in
    ap (unwrap_or (number_named new l)) c.in_ok-end.ensures.end ∙ labels_noted new gs c.args.first cleared l
