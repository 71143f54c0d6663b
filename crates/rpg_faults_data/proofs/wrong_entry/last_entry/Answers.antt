use Rattle.std.proofs.Common.{◌∙◌, ap, sym, Some}
use Rattle.std.specs.Prelude.{option_copied}
use Rattle.rpg_faults_data.specs.Data.{entry_on}
use Rattle.rpg_faults_data.proofs.EntryLemmas.{last_or-entries}
use Rattle.rpg_faults_data.proofs.wrong_entry.last_entry.Goals as goal

pub returns-clause-last : goal.returns-clause-last
returns-clause-last c =
    ap (λ e. Some e) c.entry.ensures.value
    ∙ sym (last_or-entries (option_copied c.args.before) (entry_on c.args.layout.width c.args.layout.from c.args.layout.length c.args.card.now) c.args.count c.if-count-eq0.false)
