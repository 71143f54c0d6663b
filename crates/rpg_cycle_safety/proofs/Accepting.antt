-- What an accepted program guarantees to the machine.
use Rattle.std.proofs.Common.{◌≡◌, ℕ, All, Option, None, Some, slice_get, refl, subst}
use Rattle.std.proofs.lemmas.List.Elements.{All-nil}
use Rattle.std.proofs.lemmas.Option.{get_or_from_slice_get, slice_get_within}
use Rattle.std.specs.Option.{option_map_or}
use Rattle.rpg_program.specs.Forms.{form_at}
use Rattle.rpg_program.specs.Input.{TypeRow, input_fault}
use Rattle.rpg_program.specs.declared.input.InputField.{InputField}
use Rattle.rpg_program.specs.declared.input.InputFile.TheVariants.{Primary}
use Rattle.rpg_machine.proofs.Orderly.{orderly}
use Rattle.rpg_machine.specs.Accepted.{IsOrderly}
use Rattle.rpg_machine.specs.Outputs.{inputs_at, input_fields_of, length_at}
use Rattle.rpg_memory.proofs.Programs.{program_forms}
use Rattle.rpg_program.specs.Kept.{IsProgram}
use Rattle.rpg_program.specs.Object.{Object, input_length}
use Rattle.rpg_verify_rules.proofs.Soundness.{sound}
use Rattle.rpg_verify_rules.specs.Accepted.{IsAccepted}
use Rattle.rpg_verify_rules.specs.Sound.{IsSound, IsSoundType}
use Rattle.rpg_verify.proofs.Most.{greatest}

-- all that the machine's definitions ask of it
pub accepted_orderly : (p : Object) → IsProgram p → IsAccepted p → IsOrderly p
accepted_orderly p kept accepted = orderly p kept (sound p accepted) (greatest p kept) (program_forms p kept)

-- nothing is wrong with the input fields of a type
pub inputs_right : (p : Object) (row : ℕ) → IsSound p → All (λ f. input_fault (form_at p.fields) (length_at p row) f ≡ None) (inputs_at p row)
inputs_right p row sound = by_type (slice_get p.types row) refl
  where
    by_type : (t : Option (TypeRow ℕ)) → slice_get p.types row ≡ t → All (λ f. input_fault (form_at p.fields) (input_length p (option_map_or (λ (r : TypeRow ℕ). r.file) t Primary)) f ≡ None) (input_fields_of t)
    by_type None is = All-nil (λ (f : InputField ℕ). input_fault (form_at p.fields) p.record_length f ≡ None)
    by_type (Some t) is = (subst (IsSoundType p) (get_or_from_slice_get p.types row t t is) (sound.types row t (slice_get_within p.types row t is))).inputs
