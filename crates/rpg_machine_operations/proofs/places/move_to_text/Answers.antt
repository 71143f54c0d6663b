use Rattle.std.proofs.Common.{ℕ, List, ap, ◌∙◌, length, subst, sym}
use Rattle.std.specs.Prelude.{All}
use Rattle.rpg_machine_operations.proofs.Characters.{over_characters}
use Rattle.rpg_program.specs.Kept.{IsCharacter}
use Rattle.rpg_machine_operations.proofs.Overlays.{over_length}
use Rattle.rpg_machine_operations.proofs.places.move_to_text.Goals as goal

pub set_text-requires-clause-length : goal.set_text-requires-clause-length
set_text-requires-clause-length g c =
    ap length c.put_over.ensures ∙ over_length c.args.side _ c.copy_from_slice.new.self ∙ ap length c.copy_from_slice.ensures.after ∙ c.text-old.ensures.length

pub set_text-requires-clause-characters : goal.set_text-requires-clause-characters
set_text-requires-clause-characters g c =
    let before : All IsCharacter c.copy_from_slice.new.self = subst (λ (t : List ℕ). All IsCharacter t) (sym c.copy_from_slice.ensures.after) c.text-old.ensures.characters in
    subst (λ (t : List ℕ). All IsCharacter t) (sym c.put_over.ensures) (over_characters c.args.side _ c.copy_from_slice.new.self c.source_at.ensures.characters before)
