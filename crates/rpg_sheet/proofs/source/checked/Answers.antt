use Rattle.std.proofs.Common.{◌≡◌, ◌∙◌, sym, ap, arith, Some}
use Rattle.rpg_sheet.specs.declared.sheet.SheetCode.{SheetCode}
use Rattle.rpg_sheet.proofs.SheetLemmas.{code_if_bad, code_if_read, code_past, code_unfit}
use Rattle.rpg_sheet.specs.Sheet.{sheet_fault_columns}
use Rattle.rpg_sheet_specs.specs.Specs.{spec_of}
use Rattle.rpg_sheet.proofs.source.checked.Goals as goal

pub returns-then-not-has_only_characters-clause-code : goal.returns-then-not-has_only_characters-clause-code
returns-then-not-has_only_characters-clause-code c =
    let e = c.args.earlier in
    code_unfit e.count e.latest e.data_begun c.args.line.now c.args.columns.now (omega arith) c.requires (sym c.has_only_characters.ensures ∙ c.if-not-has_only_characters.true)
    ∙ sym (ap (λ (code : SheetCode). Some code) c.into-then-not-has_only_characters.ensures.0)

pub returns-then-earlier-ge-MOST_CARDS-clause-code : goal.returns-then-earlier-ge-MOST_CARDS-clause-code
returns-then-earlier-ge-MOST_CARDS-clause-code c =
    let e = c.args.earlier in
    code_past e.count e.latest e.data_begun c.args.line.now c.args.columns.now _ (omega arith) c.requires (sym c.has_only_characters.ensures ∙ c.if-not-has_only_characters.false) (omega arith)
    (rw c.of-card.ensures at c.past_last.ensures.code)

pub returns-clause-valid : goal.returns-clause-valid
returns-clause-valid c =
    let e = c.args.earlier in
    code_if_read e.count e.latest e.data_begun c.args.line.now c.args.columns.now (c.read.new.spec ≡ spec_of e.data_begun c.args.columns.now) c.read.result (omega arith) c.requires
    (sym c.has_only_characters.ensures ∙ c.if-not-has_only_characters.false) (omega arith) (rw c.of-card.ensures at c.read.ensures.ok)

pub returns-clause-code : goal.returns-clause-code
returns-clause-code c =
    let e = c.args.earlier in
    code_if_bad e.count e.latest e.data_begun c.args.line.now c.args.columns.now (λ fault. fault.columns ≡ sheet_fault_columns e.data_begun c.args.columns.now fault.code) c.read.result (omega arith) c.requires
    (sym c.has_only_characters.ensures ∙ c.if-not-has_only_characters.false) (rw c.of-card.ensures at c.read.ensures.err)
