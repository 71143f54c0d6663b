use Rattle.rpg_record_decks.proofs.FileLemmas.{given_length}
use Rattle.rpg_record_decks.proofs.OutcomeLemmas.{fault_is, ok_is}
use Rattle.rpg_record_decks.specs.Files.{length_by}
use Rattle.rpg_record_decks.specs.Outcomes.{at_card}
use Rattle.rpg_record_decks.proofs.file.file_length.Goals as goal

pub returns-in_ok-card-in-Some-clause-length : goal.returns-in_ok-card-in-Some-clause-length
returns-in_ok-card-in-Some-clause-length c =
    ok_is c.record_length-in-Some.result (at_card c.args.file.now.number (length_by c.args.length c.args.file.now.card))
    (given_length c.args.file.now.number c.in-Some.length c.from.result c.args.length c.number_columns-text.result c.args.file.now.card c.in_ok-plain.plain c.in_ok-card-in-Some.card c.record_length-in-Some.result c.in_ok-plain.ensures c.in-Some.is c.from.ensures
    c.number_columns-text.ensures.value c.in_ok-card-in-Some.ensures c.record_length-in-Some.ensures)

pub returns-in_ok-card-in-Some-clause-fault : goal.returns-in_ok-card-in-Some-clause-fault
returns-in_ok-card-in-Some-clause-fault c =
    fault_is c.record_length-in-Some.result (at_card c.args.file.now.number (length_by c.args.length c.args.file.now.card))
    (given_length c.args.file.now.number c.in-Some.length c.from.result c.args.length c.number_columns-text.result c.args.file.now.card c.in_ok-plain.plain c.in_ok-card-in-Some.card c.record_length-in-Some.result c.in_ok-plain.ensures c.in-Some.is c.from.ensures
    c.number_columns-text.ensures.value c.in_ok-card-in-Some.ensures c.record_length-in-Some.ensures)
