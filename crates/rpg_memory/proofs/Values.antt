-- The values of entries.
use Rattle.std.proofs.Common.{◌≡◌, ℕ, ℤ, ◌<◌, ◌≤◌, ◌^◌, List, Option, Some, refl, sym, ap, ◌∙◌, subst, arith, length, unsigned_abs}
use Rattle.std.proofs.Math.Nat.{pow-le-pow_right}
use Rattle.std.specs.FinMap as map
use Rattle.rpg_program.specs.Forms.{decimals_of, entries_of, length_of}
use Rattle.rpg_program.specs.Values.{Value, Number, Text, characters_of}
use Rattle.rpg_program.specs.declared.form.FieldForm.{FieldForm}
use Rattle.rpg_program.specs.declared.form.Kind.{Kind}
use Rattle.rpg_program.specs.declared.form.Kind.TheVariants as kinds
use Rattle.rpg_memory.specs.Fields.{AreForms, IsValue}
use Rattle.rpg_memory.specs.Fits.{Fits, HasForm}
use Rattle.rpg_memory.proofs.Entries.{number_in_form, text_in_form}
use Rattle.rpg_program.specs.Forms.{form_at}
use Rattle.rpg_store.specs.Store.{Values, Currents, IsNumber, IsText}

pub form_there : (forms : List FieldForm) (values : Values) (current : Currents) (k : Kind) (field n : ℕ) → Fits forms values current → (v : IsValue forms k field n) → HasForm k v.form.length (map.get values (field, n))
form_there forms values current k field n fits v =
    subst (λ (l : Kind). HasForm l v.form.length (map.get values (field, n))) v.kind (fits.each field v.form v.there n v.low v.high)

pub number_there : (forms : List FieldForm) (values : Values) (current : Currents) (field n : ℕ) → Fits forms values current → IsValue forms kinds.Number field n → IsNumber (map.get values (field, n))
number_there forms values current field n fits v =
    let m = number_in_form v.form.length _ (form_there forms values current kinds.Number field n fits v) in
    subst (λ (o : Option Value). IsNumber o) (sym m.1) tt

pub text_there : (forms : List FieldForm) (values : Values) (current : Currents) (field n : ℕ) → Fits forms values current → IsValue forms kinds.Text field n → IsText (map.get values (field, n))
text_there forms values current field n fits v =
    let m = text_in_form v.form.length _ (form_there forms values current kinds.Text field n fits v) in
    subst (λ (o : Option Value). IsText o) (sym m.1) tt

-- the number at an entry has the lowest_digits of its field
pub number_fits : (forms : List FieldForm) (values : Values) (current : Currents) (field n : ℕ) (m : ℤ) → Fits forms values current → IsValue forms kinds.Number field n → map.get values (field, n) ≡ Some (Number m) →
    unsigned_abs m < 10 ^ length_of (form_at forms field)
number_fits forms values current field n m fits v is =
    let h : unsigned_abs m < 10 ^ v.form.length = subst (λ (o : Option Value). HasForm kinds.Number v.form.length o) is (form_there forms values current kinds.Number field n fits v) in
    subst (λ (o : Option FieldForm). unsigned_abs m < 10 ^ length_of o) (sym v.there) h

pub length_low : (forms : List FieldForm) (field n : ℕ) → AreForms forms → IsValue forms kinds.Number field n → 1 ≤ length_of (form_at forms field)
length_low forms field n valid v = subst (λ (o : Option FieldForm). 1 ≤ length_of o) (sym v.there) (valid.numeric field v.form v.there v.kind).low

pub length_high : (forms : List FieldForm) (field n : ℕ) → AreForms forms → IsValue forms kinds.Number field n → length_of (form_at forms field) ≤ 15
length_high forms field n valid v = subst (λ (o : Option FieldForm). length_of o ≤ 15) (sym v.there) (valid.numeric field v.form v.there v.kind).high

pub decimals_high : (forms : List FieldForm) (field n : ℕ) → AreForms forms → IsValue forms kinds.Number field n → decimals_of (form_at forms field) ≤ 9
decimals_high forms field n valid v = subst (λ (o : Option FieldForm). decimals_of o ≤ 9) (sym v.there) (valid.numeric field v.form v.there v.kind).decimals

pub entries_high : (forms : List FieldForm) (k : Kind) (field n : ℕ) → AreForms forms → IsValue forms k field n → entries_of (form_at forms field) ≤ 9999
entries_high forms k field n valid v = subst (λ (o : Option FieldForm). entries_of o ≤ 9999) (sym v.there) (valid.few field v.form v.there)

pub number_small : (forms : List FieldForm) (values : Values) (current : Currents) (field n : ℕ) (m : ℤ) → AreForms forms → Fits forms values current → IsValue forms kinds.Number field n → map.get values (field, n) ≡ Some (Number m) →
    unsigned_abs m < 10 ^ 15
number_small forms values current field n m valid fits v is =
    let h = number_fits forms values current field n m fits v is in
    let l = length_high forms field n valid v in
    let ten : 0 < 10 = omega arith in
    let p : 10 ^ length_of (form_at forms field) ≤ 10 ^ 15 = pow-le-pow_right ten l in
    omega (arith, h, p)

-- another entry of the same field
pub other_value : (forms : List FieldForm) (k : Kind) (field n m : ℕ) → IsValue forms k field n → 1 ≤ m → m ≤ entries_of (form_at forms field) → IsValue forms k field m
other_value forms k field n m v low high =
    record { form = v.form; there = v.there; kind = v.kind; low = low; high = subst (λ (o : Option FieldForm). m ≤ entries_of o) v.there high }

pub ruleset numbers = (number_there, number_fits, length_low, length_high, decimals_high, number_small, text_there)

pub ruleset texts = (text_there)

-- the text at an entry has the characters of its field
pub text_fits : (forms : List FieldForm) (values : Values) (current : Currents) (field n : ℕ) (t : List ℕ) → Fits forms values current → IsValue forms kinds.Text field n → map.get values (field, n) ≡ Some (Text t) →
    length t ≡ length_of (form_at forms field)
text_fits forms values current field n t fits v is =
    let h : length t ≡ v.form.length = subst (λ (o : Option Value). HasForm kinds.Text v.form.length o) is (form_there forms values current kinds.Text field n fits v) in
    h ∙ ap length_of (sym v.there)

pub text_is : (o : Option Value) (t : List ℕ) → o ≡ Some (Text t) → characters_of o ≡ t
text_is o t h = rw h refl

-- a text of an entry, and its length
pub old_text : (forms : List FieldForm) (values : Values) (current : Currents) (field n len : ℕ) → Fits forms values current → IsValue forms kinds.Text field n → len ≡ length_of (form_at forms field) →
    (t : List ℕ) × (map.get values (field, n) ≡ Some (Text t)) × (len ≡ length t)
old_text forms values current field n len fits v long =
    let m = text_in_form v.form.length _ (form_there forms values current kinds.Text field n fits v) in
    (m.0, m.1, long ∙ ap length_of v.there ∙ sym m.2)
