use Rattle.rpg_compile.proofs.rows.section_rows.Goals as goal

pub rows_from-requires-clause-plain : goal.rows_from-requires-clause-plain
rows_from-requires-clause-plain c = rw (← c.up_to_calculations.ensures.same) c.requires.plain

pub returns-clause-detail : goal.returns-clause-detail
returns-clause-detail c = rw c.up_to_calculations.ensures.same c.rows_from.ensures.detail

pub returns-clause-total : goal.returns-clause-total
returns-clause-total c = rw c.up_to_calculations.ensures.same c.rows_from.ensures.total

pub returns-clause-subroutines : goal.returns-clause-subroutines
returns-clause-subroutines c = rw c.up_to_calculations.ensures.same c.rows_from.ensures.subroutines
