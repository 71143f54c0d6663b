use Rattle.std.proofs.Common.{◌≡◌, ◌∙◌, ap, refl, true}
use Rattle.rpg_program.specs.Act.{found_shown}
use Rattle.rpg_program.specs.Forms.{entries_of, kind_of}
use Rattle.rpg_program.specs.Rows.{holds_position}
use Rattle.rpg_program.specs.Showing.{shown_if_any}
use Rattle.rpg_memory.specs.Memory.{Working, with_on}
use Rattle.rpg_machine_operations.proofs.Finding.{found_fits, looked}
use Rattle.rpg_machine_operations.proofs.searching.search_and_place.Goals as goal
use Rattle.rpg_program.specs.Forms.{form_at}

pub place-requires-clause-fits : goal.place-requires-clause-fits
place-requires-clause-fits g c =
    let forms = c.args.memory.now.program.fields in
    let w = c.args.memory.now.world.data in
    let holds : holds_position (form_at forms) c.args.factor2.entry.index c.field_of.result (entries_of (form_at forms c.args.factor2.entry.field)) ≡ true = rw c.field_of.ensures c.requires.positions in
    found_fits forms (kind_of (form_at forms c.args.factor1.entry.field)) w c.args.factor1.entry c.args.factor2.entry c.field_of.result c.args.shows c.search-found.result c.requires.alike.factor2.value holds c.search-found.ensures

pub returns : goal.returns
returns g c =
    let forms = c.args.memory.now.program.fields in
    let w = c.args.memory.now.world.data in
    let u = c.place.new.memory.world.data in
    let holds : holds_position (form_at forms) c.args.factor2.entry.index c.field_of.result (entries_of (form_at forms c.args.factor2.entry.field)) ≡ true = rw c.field_of.ensures c.requires.positions in
    let fits = found_fits forms (kind_of (form_at forms c.args.factor1.entry.field)) w c.args.factor1.entry c.args.factor2.entry c.field_of.result c.args.shows c.search-found.result c.requires.alike.factor2.value holds c.search-found.ensures in
    record {
      leaves = rw (← c.field_of.ensures, ← c.search-found.ensures)
          (looked forms w _ c.args.factor2.entry c.field_of.result c.args.shows c.search-found.result fits
          (ap (λ (m : Working). m.world.data) c.show_if_any.ensures ∙ ap (λ r. with_on (shown_if_any c.args.shows r u.on) u) c.order_of.ensures
          ∙ ap (λ (m : Working). found_shown (form_at forms) c.args.shows c.search-found.result m.world.data) c.place.ensures));
      right = tt;
      rest = rw (c.show_if_any.ensures, c.place.ensures) refl;
    }
