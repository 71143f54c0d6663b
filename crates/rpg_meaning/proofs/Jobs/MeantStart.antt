-- The start that the compiler gives a job is the one that the cards mean.
use Rattle.std.proofs.Common.{◌≡◌, ℕ, zero, suc, ℤ, pos, true, false, cond, ◌&&◌, eqb, List, [], ◌∷◌, slice_get, Option, None, Some, refl, sym, ap, ◌∙◌, subst}
use Rattle.std.specs.FinMap as maps
use Rattle.std.specs.FinSet as set
use Rattle.std.specs.Option.{option_and_then, option_map_or}
use Rattle.rpg_cards.specs.Keys.{Fixed, Key, Named, Nowhere, key_cmp}
use Rattle.rpg_cards.specs.declared.spec_card.SpecCard.{SpecCard}
use Rattle.rpg_compile_program.specs.Data.{field_values, loaded}
use Rattle.rpg_compile_program.specs.Program.{key_numbers, program_of}
use Rattle.rpg_compile_program.specs.Table.{key_form, table_of}
use Rattle.rpg_cycle.specs.Indicators.{first_page, level_zero}
use Rattle.rpg_cycle.specs.Job.{first_fields}
use Rattle.rpg_cycle.specs.Starting.{job_start}
use Rattle.rpg_decimal_words.specs.Fraction.{with_decimals}
use Rattle.rpg_program.specs.Forms.{has_field, is_table_form}
use Rattle.rpg_program.specs.Values.{Number, Value}
use Rattle.rpg_program.specs.World.{World, value_in}
use Rattle.rpg_program.specs.declared.form.FieldForm.{FieldForm}
use Rattle.rpg_program.specs.Naming.{Agree}
use Rattle.rpg_meaning.specs.Sheets.FirstValues.{meant_named_value}
use Rattle.rpg_meaning.specs.Sheets.Forms.{meant_forms}
use Rattle.rpg_meaning.proofs.Jobs.MeantFirst.{constant_same, named_same}
use Rattle.rpg_meaning.proofs.Jobs.Starting.{agrees_taken, taken_agrees}
use Rattle.rpg_meaning.proofs.Jobs.TakenStart.{IsTakenStart, first_value_at, first_values, taken_value, takes_date}
use Rattle.rpg_meaning.specs.Jobs.Start.{IsStart, meant_first_value, start_value}
use Rattle.rpg_meaning.proofs.Calculations.MeantForms.{form_same}
use Rattle.rpg_program.specs.Kept.{AreValuesOf}

first_same : (cards : List SpecCard) (k : Key) (n : ℕ) → first_value_at (first_values cards k) n ≡ meant_first_value cards k n
first_same cards k zero = refl
first_same cards (Named name) (suc n) = by (key_form (table_of cards) (Named name)) ∙ ap (option_and_then (λ form. meant_named_value cards name form n)) (form_same cards (Named name))
  where
    by : (o : Option FieldForm) → slice_get (option_map_or (λ f. field_values (loaded cards) (name, f)) o []) n ≡ option_and_then (λ form. meant_named_value cards name form n) o
    by None = refl
    by (Some form) = named_same cards name form n
first_same cards (Fixed c) (suc zero) = ap Some (constant_same c)
first_same cards (Fixed c) (suc (suc n)) = refl
first_same cards Nowhere (suc n) = refl

begin_same : (cards : List SpecCard) (date : ℤ) (k : Key) (n : ℕ) → taken_value cards date k n ≡ start_value cards date k n
begin_same cards date k n = λ i. cond (takes_date (form_same cards k i) && eqb n 1) (Some (Number date)) (first_same cards k n i)

starts_same : (cards : List SpecCard) → key_form (table_of cards) ≡ meant_forms cards
starts_same cards = λ i k. form_same cards k i

-- a start, over given forms and values
record Begins (forms : Key → Option FieldForm) (first : Key → ℕ → Option Value) (w : World key_cmp) : Type 0 where
  values : (k : Key) → has_field (forms k) ≡ true → (n : ℕ) → value_in w.data.fields (k, n) ≡ first k n
  current : (k : Key) → has_field (forms k) ≡ true → maps.get w.data.fields.current k ≡ cond (is_table_form (forms k)) (Some 1) None
  on : w.data.on ≡ set.from_list (level_zero ∷ first_page ∷ [])
  remainder : w.data.remainder ≡ with_decimals (pos 0) 0
  paper : w.paper ≡ record { here = record { page = 1; line = 1 }; was_overflow = false; has_turned_on = false }

begins_same : (cards : List SpecCard) (date : ℤ) (w : World key_cmp) → Begins (key_form (table_of cards)) (taken_value cards date) w ≡ Begins (meant_forms cards) (start_value cards date) w
begins_same cards date w = λ i. Begins (λ k. form_same cards k i) (λ k n. begin_same cards date k n i) w

is_taken : (cards : List SpecCard) (date : ℤ) (w : World key_cmp) → IsStart cards date w → IsTakenStart cards date w
is_taken cards date w is =
    let b = subst (λ (T : Type 0). T) (sym (begins_same cards date w)) (let c : Begins (meant_forms cards) (start_value cards date) w = record { values = is.values; current = is.current; on = is.on; remainder = is.remainder; paper = is.paper } in c) in
    record { values = b.values; current = b.current; on = b.on; remainder = b.remainder; paper = b.paper }

is_start : (cards : List SpecCard) (date : ℤ) (w : World key_cmp) → IsTakenStart cards date w → IsStart cards date w
is_start cards date w is =
    let b = subst (λ (T : Type 0). T) (begins_same cards date w) (let c : Begins (key_form (table_of cards)) (taken_value cards date) w = record { values = is.values; current = is.current; on = is.on; remainder = is.remainder; paper = is.paper } in c) in
    record { values = b.values; current = b.current; on = b.on; remainder = b.remainder; paper = b.paper }

module _ (cards : List SpecCard) (allowance : ℕ) (date : ℤ) (kept : AreValuesOf (program_of cards allowance).fields (program_of cards allowance).values) (w : World key_cmp) where
  pub start_agrees : IsStart cards date w → Agree (meant_forms cards) (key_numbers cards) w (job_start (program_of cards allowance) date (first_fields (program_of cards allowance))).world
  start_agrees is = subst (λ forms. Agree forms (key_numbers cards) w (job_start (program_of cards allowance) date (first_fields (program_of cards allowance))).world) (starts_same cards) (taken_agrees cards allowance date kept w (is_taken cards date w is))

  pub agrees_start : Agree (meant_forms cards) (key_numbers cards) w (job_start (program_of cards allowance) date (first_fields (program_of cards allowance))).world → IsStart cards date w
  agrees_start a = is_start cards date w (agrees_taken cards allowance date kept w (subst (λ forms. Agree forms (key_numbers cards) w (job_start (program_of cards allowance) date (first_fields (program_of cards allowance))).world) (sym (starts_same cards)) a))
