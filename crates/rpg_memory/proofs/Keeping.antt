-- Writes keep the values fit.
use Rattle.std.proofs.Common.{◌≡◌, ℕ, ℤ, ◌≤◌, ◌<◌, ◌^◌, List, Option, Some, sym, ap, ◌∙◌, subst, unsigned_abs, length}
use Rattle.std.specs.Prelude.{All}
use Rattle.std.proofs.lemmas.Option.{same_Some}
use Rattle.std.specs.FinMap as maps
use Rattle.rpg_program.specs.Forms.{entries_of, form_at, length_of}
use Rattle.rpg_program.specs.Values.{Value, Number, Text, characters_of}
use Rattle.rpg_program.specs.declared.form.FieldForm.{FieldForm}
use Rattle.rpg_program.specs.declared.form.Kind.{Kind}
use Rattle.rpg_program.specs.declared.form.Kind.TheVariants as kinds
use Rattle.rpg_program.specs.Kept.{IsCharacter}
use Rattle.rpg_memory.specs.Fields.{IsValue}
use Rattle.rpg_memory.specs.Fits.{Fits, HasForm}
use Rattle.rpg_memory.specs.Memory.{HoldsFields}
use Rattle.rpg_store.specs.Store.{Values, Currents}
use Rattle.rpg_memory.proofs.Fitting.{fits-current, fits-insert}

of_kind : (k : Kind) (d : FieldForm) (v : Value) → d.kind ≡ k → HasForm k d.length (Some v) → HasForm d.kind d.length (Some v)
of_kind k d v e h = subst (λ (l : Kind). HasForm l d.length (Some v)) (sym e) h

-- a number of so many digits may be stored in a number field
pub fits_number : (forms : List FieldForm) (values : Values) (current : Currents) (field n : ℕ) (x : ℤ) → Fits forms values current → IsValue forms kinds.Number field n → unsigned_abs x < 10 ^ length_of (form_at forms field) →
    Fits forms (maps.insert values (field, n) (Number x)) current
fits_number forms values current field n x fits i low = fits-insert forms values current field n (Number x) fits (λ d e.
    let same : i.form ≡ d = same_Some i.form d (sym i.there ∙ e) in
    of_kind kinds.Number d (Number x) (ap (λ (f : FieldForm). f.kind) (sym same) ∙ i.kind) (subst (λ (o : Option FieldForm). unsigned_abs x < 10 ^ length_of o) e low)) (λ text h. cc)

-- a text of so many characters may be stored in a text field
pub fits_text : (forms : List FieldForm) (values : Values) (current : Currents) (field n : ℕ) (t : List ℕ) → Fits forms values current → IsValue forms kinds.Text field n → length t ≡ length_of (form_at forms field) → All IsCharacter t →
    Fits forms (maps.insert values (field, n) (Text t)) current
fits_text forms values current field n t fits i len spelled = fits-insert forms values current field n (Text t) fits (λ d e.
    let same : i.form ≡ d = same_Some i.form d (sym i.there ∙ e) in
    of_kind kinds.Text d (Text t) (ap (λ (f : FieldForm). f.kind) (sym same) ∙ i.kind) (len ∙ ap length_of e)) (λ text h. subst (λ (u : List ℕ). All IsCharacter u) (ap (λ (v : Value). characters_of (Some v)) h) spelled)

-- ---- stores

module _ {S : Type 0} (store_forms : S → List FieldForm) (contents : S → Values) (currents : S → Currents) (forms : List FieldForm) where
  -- a number was stored
  pub number_kept : (s t : S) (field n : ℕ) (x y : ℤ) → HoldsFields store_forms contents currents forms s → store_forms t ≡ store_forms s → contents t ≡ maps.insert (contents s) (field, n) (Number y) →
      currents t ≡ currents s → y ≡ x → IsValue forms kinds.Number field n → unsigned_abs x < 10 ^ length_of (form_at forms field) → HoldsFields store_forms contents currents forms t
  number_kept s t field n x y kept own is same read value low =
      record { valid = kept.valid; own = own ∙ kept.own; fits = rw (is, same, read) (fits_number forms (contents s) (currents s) field n x kept.fits value low) }

  -- a text was stored
  pub text_kept : (s t : S) (field n : ℕ) (text : List ℕ) → HoldsFields store_forms contents currents forms s → store_forms t ≡ store_forms s → contents t ≡ maps.insert (contents s) (field, n) (Text text) →
      currents t ≡ currents s → IsValue forms kinds.Text field n → length text ≡ length_of (form_at forms field) → All IsCharacter text → HoldsFields store_forms contents currents forms t
  text_kept s t field n text kept own is same value len spelled =
      record { valid = kept.valid; own = own ∙ kept.own; fits = rw (is, same) (fits_text forms (contents s) (currents s) field n text kept.fits value len spelled) }

  -- an entry became current
  pub current_kept : (s t : S) (table n : ℕ) → HoldsFields store_forms contents currents forms s → store_forms t ≡ store_forms s → contents t ≡ contents s →
      currents t ≡ maps.insert (currents s) table n → 1 ≤ n → n ≤ entries_of (form_at forms table) → HoldsFields store_forms contents currents forms t
  current_kept s t table n kept own is same low high =
      record { valid = kept.valid; own = own ∙ kept.own; fits = rw (same, is) (fits-current forms (contents s) (currents s) table n kept.fits low high) }
