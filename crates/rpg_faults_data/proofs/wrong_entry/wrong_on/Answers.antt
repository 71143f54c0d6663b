use Rattle.std.proofs.Common.{◌∙◌, ◌+◌, Some, ap, arith, refl, sym}
use Rattle.std.specs.Option.{option_map}
use Rattle.std.specs.Prelude.{option_copied}
use Rattle.rpg_faults_data.proofs.EntryWalk.{found_here, not_here}
use Rattle.rpg_faults_data.specs.Causes.{data_card, entry_cause, entry_fault, placed_entry_on}
use Rattle.rpg_faults_data.proofs.wrong_entry.wrong_on.Goals as goal

pub returns-in-Some : goal.returns-in-Some
returns-in-Some c =
    let lay = c.args.layout in
    let t = c.args.table.now in
    let i = c.loop-i.i in
    let o = option_copied c.loop-i.before in
    let k = c.args.first + i in
    let entry = placed_entry_on lay.width lay.from lay.length (data_card c.args.card c.args.text.now) in
    found_here t k o entry i c.args.count _ _ c.loop-i-test.true c.loop-i.invariant.same
    (ap (λ x. Some x) (c.cause_of.ensures (entry i).text) ∙ ap (option_map (entry_cause t k (entry i))) (sym c.in-Some.is ∙ c.fault_of.ensures ∙ ap (entry_fault t o) c.entry-entry.ensures.value))
    refl

pub loop-i-preserved : goal.loop-i-preserved
loop-i-preserved c =
    let lay = c.args.layout in
    let t = c.args.table.now in
    let i = c.loop-i.i in
    let o = option_copied c.loop-i.before in
    let k = c.args.first + i in
    let entry = placed_entry_on lay.width lay.from lay.length (data_card c.args.card c.args.text.now) in
    record {
      same = not_here t k o entry i c.args.count _ _
          c.loop-i-test.true c.loop-i.invariant.same
          (ap (option_map (entry_cause t k (entry i))) (sym c.in_default.is ∙ c.fault_of.ensures ∙ ap (entry_fault t o) c.entry-entry.ensures.value))
          (c.args.first + (i + 1)) c.entry-entry.result.now refl (omega arith) c.entry-entry.ensures.value;
      size = c.entry-entry.ensures.length;
    }
