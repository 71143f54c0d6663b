use Rattle.rpg_cli_files.proofs.Parts.{all_kept, part_of_front, front_and_part}
use Rattle.rpg_cli_files.proofs.sending.send_line.Goals as goal

pub returns-in-Err-clause-err : goal.returns-in-Err-clause-err
returns-in-Err-clause-err g c = part_of_front _ _ _ _ _ c.in-Err.ensures.err

pub returns-in-Err-send-clause-err : goal.returns-in-Err-send-clause-err
returns-in-Err-send-clause-err g c = front_and_part _ _ _ _ _ _ c.in_default.ensures.ok c.in-Err-send.ensures.err

pub returns-in-Err-flush-clause-err : goal.returns-in-Err-flush-clause-err
returns-in-Err-flush-clause-err g c = all_kept _ _ _ _ _ _ c.in_default.ensures.ok c.in_default-send.ensures.ok c.in-Err-flush.ensures.bytes
