-- The bytes of numbers and of texts.
use Rattle.std.proofs.Common.{◌≡◌, ℕ, ◌+◌, List, [], ◌∷◌, arith}
use Rattle.rpg_program.specs.Forms.{size_of}
use Rattle.rpg_program.specs.declared.form.FieldForm.{FieldForm}
use Rattle.rpg_program.specs.declared.form.Kind.{Kind}
use Rattle.rpg_program.specs.declared.form.Kind.TheVariants as kinds
use Rattle.rpg_program.specs.Kept.{storage_of}
use Rattle.rpg_store.specs.Area.{all_number_bytes, all_text_bytes, number_bytes, text_bytes}

pub either : (k : Kind) (n : ℕ) → number_bytes k n + text_bytes k n ≡ n
either kinds.Number n = omega arith
either kinds.Text n = omega arith

-- each byte is one or the other
pub all_bytes : (fs : List FieldForm) → all_number_bytes fs + all_text_bytes fs ≡ storage_of fs
all_bytes [] = omega arith
all_bytes (f ∷ fs) = let t = all_bytes fs in let u = either f.kind (size_of f) in omega arith
