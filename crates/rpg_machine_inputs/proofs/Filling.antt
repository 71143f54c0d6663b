-- Input fields with which nothing is wrong.
use Rattle.std.proofs.Common.{◌≡◌, ℕ, ◌+◌, ◌-◌, ◌≤◌, Bool, true, false, not, ◌&&◌, cond, eqb-true, nat_le, leb-true, List, ◌∷◌, length, Option, None, Some, refl, sym, ap, ◌∙◌, arith}
use Rattle.std.specs.Ordering.{nat_cmp}
use Rattle.rpg_program.specs.Ended.{Ended, ends_with, followed_by, if_right}
use Rattle.rpg_program.specs.Ends.{Fault, Continues, end_of}
use Rattle.rpg_program.specs.Forms.{form_at, is_plain, kind_of, length_of}
use Rattle.rpg_program.specs.Input.{field_in, fits_columns, fits_shows, input_fault, record_in, record_part}
use Rattle.rpg_program.specs.World.{Data}
use Rattle.rpg_program.specs.declared.form.FieldForm.{FieldForm}
use Rattle.rpg_program.specs.declared.form.Kind.{Kind}
use Rattle.rpg_program.specs.declared.input.InputField.{InputField}
use Rattle.rpg_program.specs.declared.outcome.End as rust
use Rattle.rpg_program.specs.declared.outcome.End.TheVariants as answers
use Rattle.rpg_memory.proofs.Entries.{and_true}
use Rattle.rpg_machine_inputs.specs.Inputs.{filled_field}
use Rattle.rpg_memory.proofs.Silent.{nothing_shown, nothing_shown_if_any}
use Rattle.rpg_memory.proofs.Values.{length_high, length_low}
use Rattle.rpg_memory.specs.Fields.{AreForms, IsValue}
use Rattle.rpg_memory.specs.Memory.{Working, data_put, forms_in}

pub ruleset numbers = (length_low, length_high)

-- what isn't shown
pub ruleset silent = (nothing_shown, nothing_shown_if_any)

-- ---- what the rules give

-- columns that are there, and a plain field that is as long
pub record FitsField (forms : List FieldForm) (len : ℕ) (f : InputField ℕ) : Type 0 where
  pub form : FieldForm
  pub there : form_at forms f.field ≡ Some form
  pub low : 1 ≤ f.from
  pub ordered : f.from ≤ f.to
  pub high : f.to ≤ len
  pub long : f.to + 1 - f.from ≡ form.length

fits_by : (forms : List FieldForm) (len : ℕ) (f : InputField ℕ) (o : Option FieldForm) → form_at forms f.field ≡ o → fits_columns len f o ≡ true → FitsField forms len f
fits_by forms len f None e h = cc
fits_by forms len f (Some d) e h =
    let both = and_true (nat_le 1 f.from && (nat_le f.from f.to && nat_le f.to len)) _ h in
    let one = and_true (nat_le 1 f.from) _ both.0 in
    let two = and_true (nat_le f.from f.to) _ one.1 in
    let three = and_true (is_plain d.class) _ both.1 in
    record {
      form = d;
      there = e;
      low = leb-true _ _ one.0;
      ordered = leb-true _ _ two.0;
      high = leb-true _ _ two.1;
      long = eqb-true _ _ three.1;
    }

no_fault : (a b : Bool) (f g : Fault) → cond (not a) (Some f) (cond (not b) (Some g) None) ≡ None → a ≡ true
no_fault true b f g h = refl
no_fault false b f g h = cc

pub fits_field : (forms : List FieldForm) (len : ℕ) (f : InputField ℕ) → input_fault (form_at forms) len f ≡ None → FitsField forms len f
unfolding input_fault
fits_field forms len f h = fits_by forms len f (form_at forms f.field) refl (no_fault (fits_columns len f (form_at forms f.field)) (fits_shows (kind_of (form_at forms f.field)) f.shows) _ _ h)

pub value_there : (forms : List FieldForm) (len : ℕ) (f : InputField ℕ) (k : Kind) → AreForms forms → FitsField forms len f → k ≡ kind_of (form_at forms f.field) → IsValue forms k f.field 1
value_there forms len f k valid fits is = record {
  form = fits.form;
  there = fits.there;
  kind = sym (is ∙ ap kind_of fits.there);
  low = omega arith;
  high = valid.some f.field fits.form fits.there;
}

pub long_there : (forms : List FieldForm) (len n : ℕ) (f : InputField ℕ) → FitsField forms len f → n ≡ f.to + 1 - f.from → n ≡ length_of (form_at forms f.field)
long_there forms len n f fits is = is ∙ fits.long ∙ ap length_of (sym fits.there)

-- ---- what is done

-- one field with which nothing is wrong
pub field_filled : (forms : List FieldForm) (text part : List ℕ) (f : InputField ℕ) (k : Kind) (d : Data nat_cmp) → input_fault (form_at forms) (length text) f ≡ None → k ≡ kind_of (form_at forms f.field) → part ≡ record_part f text →
    filled_field k f part d ≡ field_in (form_at forms) text f d
unfolding field_in
field_filled forms text part f k d right kind is =
    ap (λ x. filled_field k f x d) is
    ∙ ap (λ l. filled_field l f (record_part f text) d) kind
    ∙ sym (ap (λ o. if_right o d (filled_field (kind_of (form_at forms f.field)) f (record_part f text) d)) right)

-- one field went on, over a memory that differs in its data alone: what is left of a record is done after it
pub field_next : (m w : Working) (text : List ℕ) (all fs : List (InputField ℕ)) (f : InputField ℕ) (r : rust.End) (v : Data nat_cmp) →
    w ≡ data_put w.world.data m → all ≡ f ∷ fs → r ≡ answers.Continues → ends_with (end_of r) v ≡ field_in (forms_in w) text f w.world.data →
    record_in (forms_in m) text fs v ≡ record_in (forms_in m) text all w.world.data
unfolding record_in
field_next m w text all fs f r v same is goes h =
    let rest : Data nat_cmp → Ended nat_cmp = record_in (forms_in m) text fs in
    let one : ends_with Continues v ≡ field_in (forms_in m) text f w.world.data =
    ap (λ x. ends_with (end_of x) v) (sym goes) ∙ h ∙ ap (λ (x : Working). field_in (forms_in x) text f w.world.data) same in
    let step : rest v ≡ record_in (forms_in m) text (f ∷ fs) w.world.data = ap (λ (x : Ended nat_cmp). followed_by x rest) one in
    step ∙ ap (λ (xs : List (InputField ℕ)). record_in (forms_in m) text xs w.world.data) (sym is)
