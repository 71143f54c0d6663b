use Rattle.std.proofs.Common.{◌≡◌, sym, ap, ◌∙◌, rules}
use Rattle.std.specs.Prelude.{Ok, Err}
use Rattle.rpg_sheet_specs.specs.declared.spec.Spec.TheVariants as specs
use Rattle.rpg_sheet.proofs.Laws.{read_by}
use Rattle.rpg_sheet.proofs.CardLaws.{output_card_law}
use Rattle.rpg_sheet.proofs.Puts.{put_ok, put_err}
use Rattle.rpg_sheet.proofs.card.Card.o.Goals as goal

pub returns-in_err-read_output : goal.returns-in_err-read_output
returns-in_err-read_output c =
    let is : c.from_residual.result ≡ Err c.in_err-read_output.field-0.0 = search rules in
    read_by output_card_law c.args.self.now _ (is ∙ sym (put_err specs.Output _ _ _ _ c.read_output.ensures c.in_err-read_output.was))

pub unreachable-requires : goal.unreachable-requires
unreachable-requires c =
    let read = put_ok specs.Output _ _ _ c.read_output.ensures c.in_ok-read_output.was in
    c.in_default.not-Some (specs.Output read.0) read.2

pub unreachable-requires-in_default-spec : goal.unreachable-requires-in_default-spec
unreachable-requires-in_default-spec c =
    let read = put_ok specs.Output _ _ _ c.read_output.ensures c.in_ok-read_output.was in
    let put = sym c.in-Some.is ∙ read.2 in
    let is : c.in-Some.spec ≡ specs.Output read.0 = cc in
    c.in_default-spec.not-Output read.0 is

pub returns : goal.returns
returns c =
    let read = put_ok specs.Output _ _ _ c.read_output.ensures c.in_ok-read_output.was in
    let put = sym c.in-Some.is ∙ read.2 in
    let of_sheet = c.in-Output.is in
    let same : read.0 ≡ c.in-Output.output = cc in
    read_by output_card_law c.args.self.now _ (sym (read.1 ∙ ap Ok same))
