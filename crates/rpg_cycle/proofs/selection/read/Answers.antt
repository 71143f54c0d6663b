use Rattle.std.proofs.Common.{◌∙◌, ◌≤◌, ℕ, true, false, List, length, sym, ap, subst, refl}
use Rattle.rpg_program.specs.declared.input.ControlField.{ControlField}
use Rattle.rpg_program.specs.declared.halt.Halt.TheVariants as halts
use Rattle.rpg_cycle.specs.Selecting.{TakesType}
use Rattle.rpg_cycle.specs.declared.ends.JobEnd.TheVariants as jobs
use Rattle.rpg_cycle.proofs.Composing.{passed_map}
use Rattle.rpg_cycle.proofs.Selecting.{fields_inside, kept_waiting, leaves_ended, leaves_waiting, low_so, refused, too_low, untaken, waits, waits_so}
use Rattle.rpg_cycle_records.specs.Earlier.{match_value}
use Rattle.rpg_cycle_records.specs.Holding.{input_state_of}
use Rattle.rpg_cycle_records.specs.Keeping.{seen_value}
use Rattle.rpg_cycle_records.specs.Waiting.{InputState, input_at}
use Rattle.rpg_machine.specs.Running.{with_charge}
use Rattle.rpg_cycle.proofs.selection.read.Goals as goal

pub returns-then-not-can_take-clause-stops : goal.returns-then-not-can_take-clause-stops
returns-then-not-can_take-clause-stops g c =
    λ left i last. refused c.args.program.now left c.args.file c.args.text.now i c.args.machine.now (jobs.Halt halts.BadRecord) (sym c.can_take.ensures ∙ c.if-not-can_take.true) refl

pub returns-in_err-row-clause-stops : goal.returns-in_err-row-clause-stops
returns-in_err-row-clause-stops g c =
    passed_map ℕ _ c.from_residual-in_err-row.result c.in_err-row.field-0.0 _ _
    (λ e h left i last. untaken c.args.program.now left c.args.file c.args.text.now c.deref.result.now i c.args.machine.now c.take_type.new.machine e
    (sym c.can_take.ensures ∙ c.if-not-can_take.false) (c.deref.ensures.value ∙ c.in_ok-fill.ensures.filled) h)
    c.from_residual-in_err-row.ensures.1 c.in_err-row.ensures.stops

pub returns-then-not-branch-clause-stops : goal.returns-then-not-branch-clause-stops
returns-then-not-branch-clause-stops g c =
    let p = c.args.program.now in
    let t = c.in_ok-row.row in
    let full = c.fill.new.room.items in
    let one = subst (λ (x : List ℕ). TakesType p c.args.file x c.args.machine.now t c.take_type.new.machine) c.deref.ensures.value c.in_ok-row.ensures.goes in
    λ left i last.
    too_low p left c.args.file c.args.text.now full i t c.args.machine.now c.take_type.new.machine c.charge.new.self (jobs.Halt halts.OutOfSequence) (sym c.can_take.ensures ∙ c.if-not-can_take.false)
    c.in_ok-fill.ensures.filled one (fields_inside p c.args.file t full c.match_fields.result.now c.match_fields.ensures.inside c.match_fields.ensures.value c.in_ok-fill.ensures.whole one.own)
    (c.charge.ensures.charged ∙ ap (λ (fs : List ControlField). with_charge (length fs) c.take_type.new.machine) c.match_fields.ensures.value)
    (low_so _ (seen_value c.args.last.now) (match_value p (record { type = t; text = full })) c.in_ok-wait.field-0 false last c.in_ok-wait.ensures.waits c.if-not-branch.true) refl

pub returns-then-not-branch-clause-leaves : goal.returns-then-not-branch-clause-leaves
returns-then-not-branch-clause-leaves g c =
    leaves_ended c.args.program.now c.args.file c.deref.result.now c.in_ok-row.row c.args.machine.now c.take_type.new.machine c.charge.new.self c.in_ok-row.ensures.goes
    (c.charge.ensures.charged ∙ ap (λ (fs : List ControlField). with_charge (length fs) c.take_type.new.machine) c.match_fields.ensures.value) _ _

pub returns-clause-goes : goal.returns-clause-goes
returns-clause-goes g c =
    let p = c.args.program.now in
    let t = c.in_ok-row.row in
    let full = c.fill.new.room.items in
    let one = subst (λ (x : List ℕ). TakesType p c.args.file x c.args.machine.now t c.take_type.new.machine) c.deref.ensures.value c.in_ok-row.ensures.goes in
    λ left i last at.
    waits p left c.args.file c.args.text.now full i (input_state_of c.wait.new.self) t c.args.machine.now c.take_type.new.machine c.charge.new.self (sym c.can_take.ensures ∙ c.if-not-can_take.false)
    c.in_ok-fill.ensures.filled one (fields_inside p c.args.file t full c.match_fields.result.now c.match_fields.ensures.inside c.match_fields.ensures.value c.in_ok-fill.ensures.whole one.own)
    (c.charge.ensures.charged ∙ ap (λ (fs : List ControlField). with_charge (length fs) c.take_type.new.machine) c.match_fields.ensures.value)
    (low_so _ (seen_value c.args.last.now) (match_value p (record { type = t; text = full })) c.in_ok-wait.field-0 true last c.in_ok-wait.ensures.waits c.if-not-branch.false)
    (waits_so c.wait.new.self t full (input_at i c.args.file) (c.in_ok-wait.ensures.now c.if-not-branch.false) c.in_ok-wait.ensures.held (c.in_ok-wait.ensures.over ∙ sym (ap (λ (x : InputState). x.is_over) at)))

pub returns-clause-leaves : goal.returns-clause-leaves
returns-clause-leaves g c =
    leaves_waiting c.args.program.now c.args.file c.deref.result.now c.in_ok-row.row c.args.machine.now c.take_type.new.machine c.charge.new.self c.in_ok-row.ensures.goes
    (c.charge.ensures.charged ∙ ap (λ (fs : List ControlField). with_charge (length fs) c.take_type.new.machine) c.match_fields.ensures.value) _
    (subst (λ (fs : List ControlField). length fs ≤ 9) c.match_fields.ensures.value c.match_fields.ensures.few) c.charge.ensures.ready
    (kept_waiting c.args.program.now c.args.file c.args.text.now c.fill.new.room.items c.in_ok-row.row c.wait.new.self (sym c.can_take.ensures ∙ c.if-not-can_take.false) c.in_ok-fill.ensures.filled c.in_ok-fill.ensures.whole
    c.in_ok-row.ensures.goes.there c.in_ok-row.ensures.goes.own (c.in_ok-wait.ensures.now c.if-not-branch.false) c.in_ok-wait.ensures.held c.in_ok-wait.ensures.value)
