-- The runs of a source's program are those of its cards.
use Rattle.std.proofs.Common.{◌≡◌, ℕ, ℤ, List, [], map, Some, refl, ap, ◌∙◌}
use Rattle.rpg_cards.specs.Keys.{key_cmp}
use Rattle.rpg_cards.specs.declared.spec_card.SpecCard.{SpecCard}
use Rattle.rpg_cycle.specs.Job.{first_fields}
use Rattle.rpg_cycle.specs.Runs as machine
use Rattle.rpg_cycle.specs.Starting.{date_in, job_first_world, job_start}
use Rattle.rpg_program.specs.World.{World}
use Rattle.rpg_program.specs.Naming.{renamed_type}
use Rattle.rpg_faults_flow.specs.Columns.{bad_calculation_columns}
use Rattle.rpg_faults_flow.specs.Kept.{KeepsRule}
use Rattle.rpg_cycle_safety.proofs.Accepting.{accepted_orderly}
use Rattle.rpg_cycle_safety.proofs.Selecting.{unread_waits}
use Rattle.rpg_cycle_safety.proofs.Starting.{first_holds}
use Rattle.rpg_cycle_records.specs.Waiting.{unread}
use Rattle.rpg_cycle_safety.specs.Holding.{Holds}
use Rattle.rpg_meaning.proofs.Jobs.Cycling.{runs_follow}
use Rattle.rpg_meaning.specs.Sheets.Files.{file_record_length}
use Rattle.rpg_meaning.proofs.Jobs.MeantStart.{agrees_start, start_agrees}
use Rattle.rpg_meaning.proofs.Jobs.MeantTypes.{types_are_meant}
use Rattle.rpg_meaning.proofs.Jobs.ProgramOf.{IsProgramOf}
use Rattle.rpg_meaning.specs.Jobs.Sources.{RunsAreMeant, job_of}
use Rattle.rpg_meaning.specs.Jobs.Start.{IsStart}
use Rattle.rpg_meaning.proofs.Calculations.MeantFiles.{ends_is_meant, primary_is_meant, secondary_is_meant}
use Rattle.rpg_meaning.proofs.Calculations.Sources.{meant_world, translates}
use Rattle.rpg_program.specs.Kept.{IsProgram}
use Rattle.rpg_verify_rules.specs.Accepted.{IsAccepted}
use Rattle.rpg_cycle_safety.proofs.Dating.{date_small, start_holds}
use Rattle.rpg_compile_program.specs.Program.{key_numbers, program_of}

job_is : (cards : List SpecCard) (allowance : ℕ) → KeepsRule bad_calculation_columns cards → IsProgramOf (program_of cards allowance) (job_of cards allowance) (key_numbers cards)
unfolding program_of
job_is cards allowance kept = record {
  calculations = translates cards allowance kept;
  same_types = ap (map (renamed_type (key_numbers cards))) (types_are_meant cards);
  same_length = ap file_record_length (primary_is_meant cards);
  same_secondary = ap file_record_length (secondary_is_meant cards);
  same_ends = ends_is_meant cards;
  same_allowance = refl;
}

pub runs_are_meant : (cards : List SpecCard) (allowance : ℕ) (text : List ℕ) (date : ℤ) → IsProgram (program_of cards allowance) → IsAccepted (program_of cards allowance) → KeepsRule bad_calculation_columns cards → date_in text ≡ Some date
    → RunsAreMeant cards allowance date
runs_are_meant cards allowance text date program accepted kept dated w start records course bytes run =
    let p = program_of cards allowance in
    let agree = start_agrees cards allowance date program.values w start in
    let holds : Holds p (job_start p date (first_fields p)).world.data = start_holds p program date (date_small text date dated) (first_fields p) (first_holds p (job_first_world (first_fields p)).data program refl) in
    let k = runs_follow (accepted_orderly p program accepted) (job_is cards allowance kept) course.cycles records [] w (job_start p date (first_fields p)) unread agree holds refl (unread_waits p) course run.runs in
    record {
      meant = k.meant;
      run = record { runs = k.runs; print = run.print ∙ ap machine.printed k.same.output; disk = run.disk ∙ ap machine.stored k.same.output };
      ending = k.same.ending;
      cycles = k.same.cycles;
    }

-- there is such a start
pub has_start : (cards : List SpecCard) (allowance : ℕ) (date : ℤ) → IsProgram (program_of cards allowance) → (w : World key_cmp) × IsStart cards date w
has_start cards allowance date program =
    let p = program_of cards allowance in
    let v = meant_world cards (job_start p date (first_fields p)).world in
    (v.0, agrees_start cards allowance date program.values v.0 v.1)
