-- What a job holds of a cycle's output.
use Rattle.std.proofs.Common.{◌≡◌, ℕ, ◌+◌, ◌*◌, ◌≤◌, List, length, Option, None, Some, refl, ap, ◌∙◌, arith, length-append}
use Rattle.std.specs.FinMap as map
use Rattle.rpg_cycle_records.specs.Earlier.{Selected}
use Rattle.rpg_cycle.specs.Ends.{PhaseEnd}
use Rattle.rpg_cycle.specs.Job.{AtWork, DoesCycle, feed_at, with_feed}
use Rattle.rpg_cycle.specs.Stages.{Stage, Going, Ended, Failed, stage_at}
use Rattle.rpg_program.specs.Put.{Bytes, disk_bytes, with_output}
use Rattle.rpg_cycle_safety.proofs.Measuring.{cycle_in_output}
use Rattle.rpg_cycle_safety.proofs.Writing.{same_fields}
use Rattle.rpg_cycle_safety.specs.Holding.{Holds}
use Rattle.rpg_cycle_safety.specs.Waiting.{AreWaiting}
use Rattle.rpg_cycle_safety.specs.Measuring.{StandsNear, bytes_of_step, pending}
use Rattle.rpg_machine.specs.Accepted.{IsOrderly}
use Rattle.rpg_machine.specs.Running.{config_on, no_bytes}
use Rattle.rpg_paper.specs.Paper.{Position, bytes_from}
use Rattle.rpg_verify.specs.Bound.{bound}

feed_short : (s : Stage) (last : Option ℕ) → length (feed_at s last) ≤ 1
feed_short Going last = omega arith
feed_short (Ended e) None = omega arith
feed_short (Ended e) (Some line) = omega arith
feed_short Failed last = omega arith

-- a job from which all was taken before
pub job_in_output : (old new : AtWork) (earlier : List Selected) (previous : Option Position) (primary secondary : Option (List ℕ)) (e : PhaseEnd) → IsOrderly old.program →
    Holds old.program old.config.world.data → old.config.cells ≡ map.empty → AreWaiting old.program old.inputs → StandsNear previous (config_on previous old.config).world.paper.here → old.output ≡ no_bytes →
    DoesCycle old earlier previous primary secondary e new → pending new ≤ bound old.program * bytes_of_step + 1
job_in_output old new earlier previous primary secondary e orderly h none waiting near empty does =
    let c = config_on previous old.config in
    let values = same_fields old.program old.config.world.data c.world.data h refl in
    let few = (cycle_in_output old.program orderly earlier primary secondary previous c old.inputs e does.there does.out values none waiting near does.cycle).few in
    let feed = feed_at (stage_at e) new.last in
    let short = feed_short (stage_at e) new.last in
    let is : new.output ≡ with_feed feed (with_output previous does.out.lines does.out.records no_bytes) =
    does.bytes ∙ ap (λ (b : Bytes). with_feed feed (with_output previous does.out.lines does.out.records b)) empty in
    let print : length new.output.print ≡ length (bytes_from previous does.out.lines) + length feed =
    ap (λ (b : Bytes). length b.print) is ∙ length-append (bytes_from previous does.out.lines) feed in
    let disk : length new.output.disk ≡ length (disk_bytes does.out.records) = ap (λ (b : Bytes). length b.disk) is in
    omega (arith, few, short, print, disk)
