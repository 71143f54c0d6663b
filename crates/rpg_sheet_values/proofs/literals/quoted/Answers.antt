use Rattle.std.proofs.Common.{◌≡◌, ◌∙◌, sym, Some, true, rules}
use Rattle.std.specs.List.{list_all}
use Rattle.rpg_text.specs.Texts.{is_character}
use Rattle.rpg_sheet_specs.specs.Values.{quoted_of}
use Rattle.rpg_sheet_values.proofs.LiteralLemmas.{quoted_writes}
use Rattle.rpg_sheet_values.proofs.Characters.{trimmed_characters, quoted_characters, quoted_some}
use Rattle.rpg_sheet_values.proofs.literals.quoted.Goals as goal

pub returns-then-not-is_enclosed-clause-written : goal.returns-then-not-is_enclosed-clause-written
returns-then-not-is_enclosed-clause-written g c =
    let no = sym c.is_enclosed.ensures ∙ c.if-not-is_enclosed.true in
    λ t. rw (sym c.trimmed-text.ensures) (rw no at (quoted_writes c.trimmed-text.result.now t))

pub returns-in_err-word-clause-written : goal.returns-in_err-word-clause-written
returns-in_err-word-clause-written g c =
    let closed = sym c.is_enclosed.ensures ∙ c.if-not-is_enclosed.false in
    let value : quoted_of c.trimmed-text.result.now ≡ c.from_residual.result = rw closed (sym c.text_within.ensures ∙ c.in_err-word.was ∙ sym c.from_residual.ensures) in
    λ t. rw (sym c.trimmed-text.ensures, sym value) (quoted_writes c.trimmed-text.result.now t)

pub new-requires : goal.new-requires
new-requires g c =
    let closed = sym c.is_enclosed.ensures ∙ c.if-not-is_enclosed.false in
    let text = c.trimmed-text.result.now in
    let word = sym c.text_within.ensures ∙ c.in_ok-word.was in
    let all : list_all is_character c.trimmed-text.result.now ≡ true = rw c.trimmed-text.ensures (trimmed_characters c.args.text.now c.requires.characters) in
    (search rules, (search rules, (quoted_some text c.in_ok-word.word closed word, quoted_characters text c.in_ok-word.word all word)))

pub returns-clause-written : goal.returns-clause-written
returns-clause-written g c =
    let closed = sym c.is_enclosed.ensures ∙ c.if-not-is_enclosed.false in
    let value : quoted_of c.trimmed-text.result.now ≡ Some c.in_ok-word.word = rw closed (sym c.text_within.ensures ∙ c.in_ok-word.was) in
    λ t. rw (c.new.ensures, sym c.trimmed-text.ensures, sym value) (quoted_writes c.trimmed-text.result.now t)
