use Rattle.std.proofs.Common.{◌∙◌, true, List, Some, refl, sym, ap, subst, arith}
use Rattle.std.proofs.lemmas.List.{with_items_is}
use Rattle.std.specs.Vec.{with_items}
use Rattle.rpg_cycle.proofs.Composing.{ok_map}
use Rattle.rpg_cycle.proofs.Selecting.{left_renewed, none_picked, picked_from}
use Rattle.rpg_cycle.specs.Indicators.{level_indicators, with_all}
use Rattle.rpg_cycle.specs.Selecting.{IsTakenUp}
use Rattle.rpg_cycle_records.specs.declared.kept.Kept.{Kept}
use Rattle.rpg_cycle_records.specs.declared.levels.LastBytes.{LastBytes}
use Rattle.rpg_machine.specs.Running.{Running}
use Rattle.rpg_program.specs.declared.input.InputFile.{InputFile}
use Rattle.rpg_program.specs.declared.input.InputFile.TheVariants.{Primary, Secondary}
use Rattle.rpg_cycle.proofs.selection.select_one.Goals as goal

pub returns-in-None-clause-picked : goal.returns-in-None-clause-picked
returns-in-None-clause-picked g c =
    none_picked c.args.program.now c.args.kept.now c.args.machine.now c.turn_all.new.machine (sym c.chosen.ensures ∙ c.in-None.is)
    (c.turn_all.ensures.turned ∙ ap (λ (r : Running). let x : Running = record r { config = with_all level_indicators true r.config } in x) c.set_indicator.ensures.set)
    (λ h. c.turn_all.ensures.ready (c.set_indicator.ensures.ready h)) c.requires.kept.files

pub returns-in-Some-Primary-clause-picked : goal.returns-in-Some-Primary-clause-picked
returns-in-Some-Primary-clause-picked g c =
    let k = c.args.kept.now in
    let new = c.select_waiting.new in
    let now : Kept = record k { levels = with_items k.levels new.levels; values = new.values; primary = new.kept } in
    let left = left_renewed k new.levels new.values (with_items_is k.levels new.levels (omega (arith, c.select_waiting.auto.levels, c.deref_mut.ensures.len, k.levels.ok.0))) in
    ok_map c.select_waiting.result _ _
    (λ t up. picked_from c.args.program.now Primary k now new.levels new.values t c.args.machine.now new.machine
    (sym c.chosen.ensures ∙ c.in-Some-Primary.is ∙ ap (λ (f : InputFile). Some f) c.in-Some-Primary.field-0-is) c.requires.kept.files left refl refl
    (subst (λ (xs : List LastBytes). IsTakenUp c.args.program.now xs k.values k.primary c.args.machine.now t new.levels new.values new.kept new.machine) c.deref_mut.ensures.value up))
    c.select_waiting.ensures.taken

pub returns-in-Some-Secondary-clause-picked : goal.returns-in-Some-Secondary-clause-picked
returns-in-Some-Secondary-clause-picked g c =
    let k = c.args.kept.now in
    let new = c.select_waiting-in-Some-Secondary.new in
    let now : Kept = record k { levels = with_items k.levels new.levels; values = new.values; secondary = new.kept } in
    let left = left_renewed k new.levels new.values (with_items_is k.levels new.levels (omega (arith, c.select_waiting-in-Some-Secondary.auto.levels, c.deref_mut-in-Some-Secondary.ensures.len, k.levels.ok.0))) in
    ok_map c.select_waiting-in-Some-Secondary.result _ _
    (λ t up. picked_from c.args.program.now Secondary k now new.levels new.values t c.args.machine.now new.machine
    (sym c.chosen.ensures ∙ c.in-Some-Secondary.is ∙ ap (λ (f : InputFile). Some f) c.in-Some-Secondary.field-0-is) c.requires.kept.files left refl refl
    (subst (λ (xs : List LastBytes). IsTakenUp c.args.program.now xs k.values k.secondary c.args.machine.now t new.levels new.values new.kept new.machine) c.deref_mut-in-Some-Secondary.ensures.value up))
    c.select_waiting-in-Some-Secondary.ensures.taken
