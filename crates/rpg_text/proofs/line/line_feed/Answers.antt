use Rattle.std.proofs.Common.{◌∙◌, ◌+◌, ℕ, List, ap, sym}
use Rattle.std.specs.Prelude.{position}
use Rattle.std.specs.Option.{option_map}
use Rattle.std.proofs.lemmas.List.{take_rest}
use Rattle.rpg_text.specs.Lines.{is_line_feed}
use Rattle.rpg_text.proofs.LineFeeds.{first_after}
use Rattle.rpg_text.proofs.line.line_feed.Goals as goal

pub returns-in-Some-clause-place : goal.returns-in-Some-clause-place
returns-in-Some-clause-place c =
    let text = c.args.text.now in
    let before = c.before_line_feed-before.result in
    sym (first_after text before c.before_line_feed-before.ensures.within c.before_line_feed-before.ensures.before
    ∙ ap (λ (rest : List ℕ). option_map (λ i. before + i) (position is_line_feed rest)) (sym (take_rest text before))
    ∙ ap (option_map (λ i. before + i)) (sym c.in-Some.ensures.place))

pub returns-in-None-clause-place : goal.returns-in-None-clause-place
returns-in-None-clause-place c =
    let text = c.args.text.now in
    let before = c.before_line_feed-before.result in
    sym (first_after text before c.before_line_feed-before.ensures.within c.before_line_feed-before.ensures.before
    ∙ ap (λ (rest : List ℕ). option_map (λ i. before + i) (position is_line_feed rest)) (sym (take_rest text before))
    ∙ ap (option_map (λ i. before + i)) (sym c.in-None.ensures.place))
