use Rattle.std.proofs.Common.{◌≡◌, ℕ, List, ap, ◌∙◌, length, replicate, rules, sym}
use Rattle.rpg_program.specs.Forms.{length_of}
use Rattle.rpg_program.specs.Values.{Text}
use Rattle.rpg_program.specs.World.{Fields, with_value}
use Rattle.std.specs.Ordering.{nat_cmp}
use Rattle.rpg_machine_lines.specs.Drafts.{fields_replaced}
use Rattle.rpg_memory.specs.Memory.{forms_in}
use Rattle.rpg_machine_lines.proofs.Keeping.{blanked_text}
use Rattle.rpg_machine_lines.proofs.field.blank_text.Goals as goal

pub returns : goal.returns
returns g c =
    let m = c.args.memory.now in
    let f = c.args.entry.0 in
    let e = c.args.entry.1 in
    let long : length c.fill_blanks.new.text ≡ length_of (forms_in m f) = search rules in
    let blank = c.fill_blanks.ensures ∙ ap (λ (n : ℕ). replicate n 32) (sym c.fill_blanks.auto.text ∙ long) in
    c.set_text.ensures
    ∙ ap (λ (fields : Fields nat_cmp). fields_replaced fields m)
    (ap (λ (t : List ℕ). with_value (f, e) (Text t) m.world.data.fields) blank ∙ blanked_text m.program.fields m.world.data.fields f e c.is_kept.ensures.fits c.requires.entry c.requires.text)
