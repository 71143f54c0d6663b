use Rattle.std.proofs.Common.{◌≡◌, ℕ, ◌++◌, ◌∙◌, true, List, ap, append-nil, subst, sym}
use Rattle.std.specs.List.{list_all}
use Rattle.rpg_warnings_lines.proofs.Noting.{none_unused}
use Rattle.rpg_warnings_lines.specs.Marks.{AreLeast, Lowers}
use Rattle.rpg_warnings_lines.specs.Unused.{is_noted, printed_from, results_from}
use Rattle.rpg_warnings_lines.specs.declared.marks.Mark.{Mark}
use Rattle.rpg_warnings_lines.proofs.unused.put_unused.Goals as goal

pub returns-then-are_noted : goal.returns-then-are_noted
returns-then-are_noted c =
    let cards = c.args.source.now in
    let read = c.lower_printed.new.read.items in
    let results : c.put_results.new.noted.items ≡ results_from cards cards = c.in_ok-put_results.ensures ∙ ap (λ (ms : List Mark). ms ++ results_from cards cards) c.new-results.ensures.items in
    let printed : AreLeast read (printed_from cards cards) = subst (λ (old : List ℕ). Lowers (printed_from cards cards) old read) c.new-printed.ensures.items c.in_ok-lower_printed.ensures in
    let all : list_all (is_noted read) (results_from cards cards) ≡ true =
    ap (list_all (is_noted read)) (sym results) ∙ ap (list_all (is_noted read)) (sym c.deref-2.ensures.value)
    ∙ ap (λ (vs : List ℕ). list_all (is_noted vs) c.deref-2.result.now) (sym c.deref.ensures.value)
    ∙ sym c.are_noted.ensures ∙ c.if-are_noted.true in
    sym (ap (λ ws. c.args.warnings.now.items ++ ws) (none_unused cards read printed (results_from cards cards) all) ∙ append-nil c.args.warnings.now.items)
