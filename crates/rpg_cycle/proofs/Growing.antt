-- What a cycle outputs stands after what was there.
use Rattle.std.proofs.Common.{◌≡◌}
use Rattle.rpg_cycle.proofs.Spending.{some_before}
use Rattle.rpg_cycle.specs.Doing.{Beside, Does, DoesAlone, unselected}
use Rattle.rpg_cycle.specs.Ends.{PhaseEnd}
use Rattle.rpg_cycle.specs.Phases.{Phase}
use Rattle.rpg_cycle_records.specs.Waiting.{unread}
use Rattle.rpg_program.proofs.Fronts.{grows_by, grows_on, grows_same}
use Rattle.rpg_program.specs.Ends as effects
use Rattle.rpg_program.specs.Fronts.{OnlyGrows}
use Rattle.rpg_program.specs.Put.{Bytes}
use Rattle.rpg_machine.specs.Running.{Behaviour, Did, Running}

-- a call of the machine output no more than its lines and records
pub did_grow : {P : Behaviour} {a b : Running} {e : effects.End} → Did P a e b → OnlyGrows a.output b.output
did_grow {P} {a} {b} {e} d =
    let o = some_before a.last in
    let x = d.following o.0 o.1 in
    grows_by o.0 x.out.lines x.out.records a.output b.output x.bytes

-- so did a phase
pub does_grow : {P : Phase} {a b : Running} {s t : Beside} {e : PhaseEnd} → Does P a s e b t → OnlyGrows a.output b.output
does_grow {P} {a} {b} {s} {t} {e} d =
    let o = some_before a.last in
    let x = d.following o.0 o.1 in
    grows_by o.0 x.out.lines x.out.records a.output b.output x.bytes

pub alone_grows : {P : Phase} {a b : Running} {e : PhaseEnd} → DoesAlone P a e b → OnlyGrows a.output b.output
alone_grows d = does_grow (d.each (unselected unread))

-- one after another, and one that puts nothing out
pub and_grows : {a b c : Bytes} → OnlyGrows a b → OnlyGrows b c → OnlyGrows a c
and_grows {a} {b} {c} first next = grows_on a b c first next

pub and_same : {a b c : Bytes} → OnlyGrows a b → c ≡ b → OnlyGrows a c
and_same {a} {b} {c} first is = grows_on a b c first (grows_same b c is)
