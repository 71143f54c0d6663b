use Rattle.std.proofs.Common.{◌≡◌, ℕ, List, Option, refl, slice_get, sym, ap, subst}
use Rattle.rpg_cycle.proofs.Selecting.{compared_spends, none_taken_up, one_waits, renews}
use Rattle.rpg_cycle.specs.Phases.{type_indicator}
use Rattle.rpg_cycle.specs.Selecting.{IsCompared, with_seen}
use Rattle.rpg_cycle_records.specs.Earlier.{control_fields}
use Rattle.rpg_cycle_records.specs.Holding.{input_state_of}
use Rattle.rpg_cycle_records.specs.Keeping.{seen_levels, seen_value, selected_as, value_following}
use Rattle.rpg_program.specs.declared.input.InputFile.TheVariants.{Primary, Secondary}
use Rattle.rpg_machine.specs.Running.{Running}
use Rattle.rpg_cycle.proofs.selection.select_waiting.Goals as goal

pub returns-in_default-clause-taken : goal.returns-in_default-clause-taken
returns-in_default-clause-taken g c = none_taken_up c.args.program.now c.args.levels.now c.args.values.now c.args.kept.now c.args.machine.now c.in_default.is

pub compare_levels-requires-clause-there : goal.compare_levels-requires-clause-there
compare_levels-requires-clause-there g c = (c.requires.held c.in-Some.row c.in-Some.is).there

pub returns-clause-taken : goal.returns-clause-taken
returns-clause-taken g c =
    let p = c.args.program.now in
    let t = c.in-Some.row in
    let text = c.args.kept.now.record.items in
    let b = c.compare_levels.new.machine in
    let compared = subst (λ (x : List ℕ). IsCompared (type_indicator (slice_get p.types t)) (control_fields p t) x (seen_levels c.args.levels.now) c.args.machine.now b (seen_levels c.compare_levels.new.levels))
    c.deref.ensures.value c.in_ok-compare_levels.ensures.compared in
    record {
      goes = λ file left i at.
          one_waits p (with_seen c.args.levels.now c.args.values.now left) file i (input_state_of c.args.kept.now) _ t text c.args.machine.now b (seen_levels c.compare_levels.new.levels) at
          (ap (λ (o : Option ℕ). selected_as o text) c.in-Some.is) refl compared;
      row = sym c.in-Some.is;
      file = refl;
      program = ap (λ (r : Running). r.program) compared.machine;
      ready = compared.ready;
      left = renews p t text c.args.levels.now c.compare_levels.new.levels c.args.values.now c.keep.new.self compared.kept
          (subst (λ (x : List ℕ). seen_value c.keep.new.self.primary ≡ value_following p Primary t x (seen_value c.args.values.now.primary)) c.deref-2.ensures.value c.in_ok-keep.ensures.primary)
          (subst (λ (x : List ℕ). seen_value c.keep.new.self.secondary ≡ value_following p Secondary t x (seen_value c.args.values.now.secondary)) c.deref-2.ensures.value c.in_ok-keep.ensures.secondary);
      spends = compared_spends p (type_indicator (slice_get p.types t)) (control_fields p t) text (seen_levels c.args.levels.now) (seen_levels c.compare_levels.new.levels) c.args.machine.now b compared;
    }
