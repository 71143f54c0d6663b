-- What an operand that passed the tests names.
use Rattle.std.proofs.Common.{◌≡◌, ℕ, ℤ, ◌<◌, ◌^◌, Bool, true, false, ◌&&◌, List, Option, None, Some, refl, arith, length, unsigned_abs}
use Rattle.rpg_program.specs.Forms.{is_index_form, same_kind}
use Rattle.rpg_program.specs.Values.{Value, Number, Text}
use Rattle.rpg_program.specs.declared.form.FieldForm.{FieldForm}
use Rattle.rpg_program.specs.declared.form.Kind.{Kind}
use Rattle.rpg_program.specs.declared.form.Kind.TheVariants as kinds
use Rattle.rpg_memory.specs.Fields.{AreForms, IsValue}
use Rattle.rpg_memory.specs.Fits.{HasForm}
use Rattle.rpg_program.specs.Forms.{form_at}

pub and_true : (a b : Bool) → (a && b) ≡ true → (a ≡ true) × (b ≡ true)
and_true true b h = (refl, h)
and_true false b h = (h, cc)

pub kinds_same : (k l : Kind) → same_kind k l ≡ true → k ≡ l
kinds_same kinds.Number kinds.Number h = refl
kinds_same kinds.Text kinds.Text h = refl
kinds_same kinds.Number kinds.Text h = cc
kinds_same kinds.Text kinds.Number h = cc

-- ---- what stands at an entry

pub number_in_form : (len : ℕ) (o : Option Value) → HasForm kinds.Number len o → (n : ℤ) × (o ≡ Some (Number n)) × (unsigned_abs n < 10 ^ len)
number_in_form len None h = absurd h
number_in_form len (Some (Number n)) h = (n, refl, h)
number_in_form len (Some (Text t)) h = absurd h

pub text_in_form : (len : ℕ) (o : Option Value) → HasForm kinds.Text len o → (t : List ℕ) × (o ≡ Some (Text t)) × (length t ≡ len)
text_in_form len None h = absurd h
text_in_form len (Some (Number n)) h = absurd h
text_in_form len (Some (Text t)) h = (t, refl, h)

-- ---- index fields

index_value_at : (forms : List FieldForm) (k : ℕ) (o : Option FieldForm) → AreForms forms → form_at forms k ≡ o → is_index_form o ≡ true → IsValue forms kinds.Number k 1
index_value_at forms k None valid is h = cc
index_value_at forms k (Some d) valid is h =
    record { form = d; there = is; kind = kinds_same d.kind kinds.Number (and_true _ _ h).0; low = omega arith; high = valid.some k d is }

-- an index field has a number
pub index_value : (forms : List FieldForm) (k : ℕ) → AreForms forms → is_index_form (form_at forms k) ≡ true → IsValue forms kinds.Number k 1
index_value forms k valid h = index_value_at forms k (form_at forms k) valid refl h
