-- Input fields keep what holds of a world.
use Rattle.std.proofs.Common.{◌≡◌, ℕ, ℤ, ◌+◌, ◌-◌, ◌≤◌, Bool, true, false, not, ◌&&◌, cond, nat_le, List, [], ◌∷◌, length, Option, None, Some, refl, sym, subst, arith, nat_cmp}
use Rattle.std.proofs.lemmas.Grind.{common_steps}
use Rattle.std.proofs.lemmas.List.Elements.{All-drop, All-head, All-tail, All-take}
use Rattle.std.proofs.lemmas.Option.{same_Some}
use Rattle.std.specs.Prelude.{All, option_map}
use Rattle.rpg_decimal_words.specs.Zoned.{number_in}
use Rattle.rpg_program.specs.Ended.{Gives, if_right, or_halt}
use Rattle.rpg_program.specs.Ends.{Fault}
use Rattle.rpg_program.specs.Forms.{form_at, is_plain, is_plain_form, kind_of, length_of, may_write}
use Rattle.rpg_program.specs.Input.{field_in, fits_columns, fits_shows, input_fault, record_in, record_part, taken_in, value_read}
use Rattle.rpg_program.specs.Values.{Value, Number, Text}
use Rattle.rpg_program.specs.World.{Data, set_value}
use Rattle.rpg_program.specs.declared.form.FieldForm.{FieldForm}
use Rattle.rpg_program.specs.declared.form.Kind.{Kind}
use Rattle.rpg_program.specs.declared.form.Kind.TheVariants as kinds
use Rattle.rpg_program.specs.declared.input.InputField.{InputField}
use Rattle.rpg_cycle_safety.proofs.Acting.{read_fits}
use Rattle.rpg_cycle_safety.proofs.Writing.{followed_keeps, gives, number_written, or_halts, plain_may, same_fields, text_written}
use Rattle.rpg_cycle_safety.specs.Holding.{Holds, KeepsData}
use Rattle.rpg_machine_inputs.proofs.Filling.{fits_field, long_there, value_there}
use Rattle.rpg_memory.proofs.Entries.{and_true}
use Rattle.rpg_memory.specs.Fields.{AreForms, IsValue}
use Rattle.rpg_program.specs.Kept.{IsCharacter}
use Rattle.rpg_program.specs.Object.{Object}

-- ---- plain fields

plain_in : (len : ℕ) (f : InputField ℕ) (form : Option FieldForm) → fits_columns len f form ≡ true → is_plain_form form ≡ true
plain_in len f None h = cc
plain_in len f (Some d) h = (and_true (is_plain d.class) _ (and_true (nat_le 1 f.from && (nat_le f.from f.to && nat_le f.to len)) _ h).1).0

no_fault : (a b : Bool) (f g : Fault) → cond (not a) (Some f) (cond (not b) (Some g) None) ≡ None → a ≡ true
no_fault true b f g h = refl
no_fault false b f g h = cc

input_may : (forms : List FieldForm) (len : ℕ) (f : InputField ℕ) → input_fault (form_at forms) len f ≡ None → may_write (form_at forms f.field) ≡ true
unfolding input_fault
input_may forms len f h =
    plain_may (form_at forms f.field) (plain_in len f (form_at forms f.field)
    (no_fault (fits_columns len f (form_at forms f.field)) (fits_shows (kind_of (form_at forms f.field)) f.shows) _ _ h))

-- ---- columns

columns_long : (f : InputField ℕ) (text : List ℕ) → 1 ≤ f.from → f.from ≤ f.to → f.to ≤ length text → length (record_part f text) ≡ f.to + 1 - f.from
columns_long f text low ordered high = grind (arith, common_steps)

columns_spelled : (f : InputField ℕ) (text : List ℕ) → All IsCharacter text → All IsCharacter (record_part f text)
columns_spelled f text h = All-take IsCharacter (f.to - (f.from - 1)) _ (All-drop IsCharacter (f.from - 1) text h)

-- ---- one field, and all of a record

module _ (p : Object) (valid : AreForms p.fields) where
  by_number : (f : InputField ℕ) (part : List ℕ) (w : Data nat_cmp) (v : Value) (o : Option ℤ) → Holds p w → IsValue p.fields kinds.Number f.field 1 →
      may_write (form_at p.fields f.field) ≡ true →
      length part ≡ length_of (form_at p.fields f.field) → number_in part ≡ o → option_map Number o ≡ Some v → Holds p (taken_in f.field f.shows v w)
  by_number f part w v None h value may long read is = cc
  by_number f part w v (Some n) h value may long read is =
      let small = read_fits part (length_of (form_at p.fields f.field)) n long read in
      let written = same_fields p (set_value w f.field 1 (Number n)) (taken_in f.field f.shows (Number n) w) (number_written p w f.field 1 n h value may small) refl in
      subst (λ (x : Value). Holds p (taken_in f.field f.shows x w)) (same_Some (Number n) v is) written

  taken_keeps : (k : Kind) (f : InputField ℕ) (part : List ℕ) (w : Data nat_cmp) (v : Value) → Holds p w → IsValue p.fields k f.field 1 →
      may_write (form_at p.fields f.field) ≡ true →
      length part ≡ length_of (form_at p.fields f.field) → All IsCharacter part → value_read k part ≡ Some v → Holds p (taken_in f.field f.shows v w)
  taken_keeps kinds.Number f part w v h value may long spelled is = by_number f part w v (number_in part) h value may long refl is
  taken_keeps kinds.Text f part w v h value may long spelled is =
      let written = same_fields p (set_value w f.field 1 (Text part)) (taken_in f.field f.shows (Text part) w) (text_written p w f.field 1 part h value may long spelled) refl in
      subst (λ (x : Value). Holds p (taken_in f.field f.shows x w)) (same_Some (Text part) v is) written

  field_keeps : (text : List ℕ) (f : InputField ℕ) (w : Data nat_cmp) → input_fault (form_at p.fields) (length text) f ≡ None → All IsCharacter text →
      Holds p w → KeepsData p (field_in (form_at p.fields) text f w)
  unfolding field_in
  field_keeps text f w right spelled h =
      let k = kind_of (form_at p.fields f.field) in
      let part = record_part f text in
      let fits = fits_field p.fields (length text) f right in
      let long = long_there p.fields (length text) (length part) f fits (columns_long f text fits.low fits.ordered fits.high) in
      let value = value_there p.fields (length text) f k valid fits refl in
      let go = λ (v : Value). Gives (taken_in f.field f.shows v w) in
      let done : KeepsData p (or_halt (value_read k part) 4 w go) =
      or_halts p (value_read k part) 4 w go (omega arith, omega arith, λ is. omega (arith, is)) h
      (λ v is. gives p _ (taken_keeps k f part w v h value (input_may p.fields (length text) f right) long (columns_spelled f text spelled) is)) in
      subst (λ (o : Option Fault). KeepsData p (if_right o w (or_halt (value_read k part) 4 w go))) (sym right) done

  -- a record whose input fields have nothing wrong
  pub record_keeps : (text : List ℕ) (fs : List (InputField ℕ)) (w : Data nat_cmp) →
      All (λ f. input_fault (form_at p.fields) (length text) f ≡ None) fs → All IsCharacter text → Holds p w →
      KeepsData p (record_in (form_at p.fields) text fs w)
  unfolding record_in
  record_keeps text [] w right spelled h = gives p w h
  record_keeps text (f ∷ fs) w right spelled h =
      let Right = λ (g : InputField ℕ). input_fault (form_at p.fields) (length text) g ≡ None in
      followed_keeps p (field_in (form_at p.fields) text f w) (record_in (form_at p.fields) text fs) (field_keeps text f w (All-head Right f fs right) spelled h)
      (λ v k. record_keeps text fs v (All-tail Right f fs right) spelled k)
