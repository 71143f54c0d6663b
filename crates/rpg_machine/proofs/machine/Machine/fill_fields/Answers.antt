use Rattle.std.proofs.Common.{◌≡◌, ℕ, ◌+◌, ◌<◌, List, All, length, Option, None, Some, sym, ap, ◌∙◌, subst, arith}
use Rattle.std.proofs.lemmas.List.{length-map}
use Rattle.std.proofs.lemmas.Option.{slice_get-get_or, slice_get-map}
use Rattle.std.specs.Option.{option_map, option_map_or}
use Rattle.rpg_program.specs.Ends.{end_of}
use Rattle.rpg_program.specs.Forms.{form_at}
use Rattle.rpg_program.specs.Input.{TypeRow, input_fault, record_in}
use Rattle.rpg_program.specs.declared.input.InputField.{InputField}
use Rattle.rpg_program.specs.declared.input.InputFile.TheVariants.{Primary}
use Rattle.rpg_machine.proofs.Records.{record_filled}
use Rattle.rpg_machine.specs.Ready.{IsReady}
use Rattle.rpg_machine_lines.specs.Ready.{IsNear}
use Rattle.rpg_paper.specs.Paper.{Position}
use Rattle.rpg_machine.specs.Outputs.{FillsFields, length_at}
use Rattle.rpg_machine.specs.Running.{Did, Running}
use Rattle.rpg_machine.specs.State.{running_of}
use Rattle.rpg_memory.specs.Memory.{Working, held_of}
use Rattle.rpg_program.specs.Object.{Object, input_length, seen, type_row}
use Rattle.rpg_verify_rules.proofs.Values.{one_of_all}
use Rattle.rpg_verify_rules.specs.Sound.{IsSound, IsSoundType}
use Rattle.rpg_machine.proofs.machine.Machine.fill_fields.Goals as goal

pub fill_all-end-requires-clause-right : goal.fill_all-end-requires-clause-right
fill_all-end-requires-clause-right g c =
    let rows = c.rows-rows.result.now in
    let types = rows.types.items in
    let t = c.index.result.now in
    let same = c.rows-rows.ensures.same in
    let own : c.self.inside.program ≡ c.args.self.now.program = ap (λ (r : Running). r.program) c.self.view_is in
    let all = length-map types type_row in
    let low : c.args.row < length types = omega (arith, ap (λ (p : Object). length p.types) (same ∙ own), all, c.requires.row) in
    let there = slice_get-map type_row types c.args.row ∙ ap (option_map type_row) (slice_get-get_or types c.args.row t low ∙ ap Some (sym c.index.ensures)) in
    let sound = subst (λ (p : Object). IsSound p) (sym same) c.rows-rows.ensures.orderly.sound in
    let inputs = (one_of_all (IsSoundType (seen rows)) (seen rows).types c.args.row (type_row t) sound.types there).inputs in
    let long : input_length (seen rows) t.file ≡ length c.args.text.now =
    sym (ap (λ (o : Option (TypeRow ℕ)). input_length (seen rows) (option_map_or (λ (r : TypeRow ℕ). r.file) o Primary)) there) ∙ ap (λ (p : Object). length_at p c.args.row) (same ∙ own) ∙ sym c.requires.filled in
    let there = subst (λ (fs : List (InputField ℕ)). All (λ f. input_fault (form_at rows.fields.items) (length c.args.text.now) f ≡ None) fs) (sym c.deref.ensures.value)
    (subst (λ (n : ℕ). All (λ f. input_fault (form_at rows.fields.items) n f ≡ None) t.inputs.items) long inputs) in
    subst (λ (p : Object). All (λ f. input_fault (form_at p.fields) (length c.args.text.now) f ≡ None) c.deref.result.now) (same ∙ sym c.self.invariant.own) there

pub returns-clause-done : goal.returns-clause-done
returns-clause-done g c =
    let rows = c.rows-rows.result.now in
    let types = rows.types.items in
    let t = c.index.result.now in
    let same = c.rows-rows.ensures.same in
    let text = c.args.text.now in
    let own : c.self.inside.program ≡ c.args.self.now.program = ap (λ (r : Running). r.program) c.self.view_is in
    let all = length-map types type_row in
    let low : c.args.row < length types = omega (arith, ap (λ (p : Object). length p.types) (same ∙ own), all, c.requires.row) in
    let there = slice_get-map type_row types c.args.row ∙ ap (option_map type_row) (slice_get-get_or types c.args.row t low ∙ ap Some (sym c.index.ensures)) in
    let old = running_of c.self.inside.program c.self.inside.state in
    let held = held_of c.fill_all-end.new.memory in
    let steps = c.self.inside.state.steps + c.len.result in
    let new : Running = record { program = c.self.inside.program; config = record old.config { steps = steps; world = held.world }; last = held.last; output = old.output } in
    let e = end_of c.fill_all-end.result in
    let counted : steps ≡ c.self.inside.state.steps + length t.inputs.items = omega (arith, c.len.ensures) in
    let mine = same ∙ sym c.self.invariant.own in
    let last = ap (λ (m : Working). m.last) c.fill_all-end.ensures.rest in
    let paper = ap (λ (m : Working). m.world.paper) c.fill_all-end.ensures.rest in
    let done = c.fill_all-end.ensures.leaves ∙ ap (λ (p : Object). record_in (form_at p.fields) text c.deref.result.now old.config.world.data) (sym mine) ∙ ap (λ (fs : List (InputField ℕ)). record_in (form_at rows.fields.items) text fs old.config.world.data) c.deref.ensures.value in
    let filled = record_filled (seen rows) c.args.row text (type_row t) steps e old held there counted last paper done in
    subst (λ (r : Running). Did (FillsFields r.program c.args.row text) r e new) c.self.view_is
    (subst (λ (p : Object). Did (FillsFields p c.args.row text) old e new) same filled)

pub returns-clause-ready : goal.returns-clause-ready
returns-clause-ready g c =
    let same = ap (λ (m : Working). m.world.paper.here) c.fill_all-end.ensures.rest in
    let ready = subst (λ (r : Running). IsReady r) (sym c.self.view_is) c.requires.ready in
    λ is. record {
      no_cell = ready.no_cell;
      few_spends = ready.few_spends;
      few_pages = subst (λ (x : Position). IsNear x) (sym same) ready.few_pages;
    }
