-- Renaming keys commutes with what the columns of a record become.
use Rattle.std.proofs.Common.{◌≡◌, ℕ, true, not, cond, List, [], ◌∷◌, length, map, Option, None, Some, refl, sym, ap, ◌∙◌, subst, Ordering}
use Rattle.rpg_program.specs.Ends.{Fault, Kind, Storage}
use Rattle.rpg_program.specs.Forms.{has_field, kind_of}
use Rattle.rpg_program.specs.Input.{field_in, fits_columns, fits_shows, input_fault, order_of, record_in, record_part, taken_in, value_read}
use Rattle.rpg_program.specs.Ended.{Gives, if_right, or_halt}
use Rattle.rpg_program.specs.Showing.{shown_if_any}
use Rattle.rpg_program.specs.Values.{Value}
use Rattle.rpg_program.specs.World.{Data}
use Rattle.rpg_program.specs.declared.form.FieldForm.{FieldForm}
use Rattle.rpg_program.specs.declared.input.InputField.{InputField}
use Rattle.rpg_program.proofs.Renaming.Operations.{ends_same, followed_same, gives_same, on_agrees, set_agrees}
use Rattle.rpg_program.specs.Naming.{AgreeData, IsRenaming, SameEnd, renamed_input}

module _ {K L : Type 0} {R : K → K → Ordering} {S : L → L → Ordering} {old : K → Option FieldForm} {new : L → Option FieldForm} {at : K → L} (r : IsRenaming R S old new at) where
  columns_same : (len : ℕ) (f : InputField K) (d : Option FieldForm) → fits_columns len (renamed_input at f) d ≡ fits_columns len f d
  columns_same len f None = refl
  columns_same len f (Some d) = refl

  fault_same : (len : ℕ) (f : InputField K) → input_fault new len (renamed_input at f) ≡ input_fault old len f
  unfolding input_fault
  fault_same len f = λ i.
      cond (not ((ap (fits_columns len (renamed_input at f)) (r.forms f.field) ∙ columns_same len f (old f.field)) i)) (Some Storage)
      (cond (not (fits_shows (kind_of (r.forms f.field i)) f.shows)) (Some Kind) None)

  -- where nothing is wrong, the field has a form
  there : (len : ℕ) (f : InputField K) → input_fault old len f ≡ None → has_field (old f.field) ≡ true
  unfolding input_fault
  there len f e = by (old f.field) e
    where
      by : (d : Option FieldForm) → cond (not (fits_columns len f d)) (Some Storage) (cond (not (fits_shows (kind_of d) f.shows)) (Some Kind) None) ≡ None → has_field d ≡ true
      by None e = cc
      by (Some d) e = refl

  taken_agrees : (f : InputField K) → has_field (old f.field) ≡ true → (x : Value) (v : Data R) (w : Data S) → AgreeData old at v w → AgreeData old at (taken_in f.field f.shows x v) (taken_in (at f.field) f.shows x w)
  taken_agrees f is x v w a =
      let b = set_agrees r v w a f.field is 1 x x refl in
      on_agrees r _ _ b _ _ (ap (shown_if_any f.shows (order_of x)) a.on)

  read_same : (f : InputField K) → has_field (old f.field) ≡ true → (o : Option Value) (v : Data R) (w : Data S) → AgreeData old at v w
      → SameEnd old at (or_halt o 4 v (λ x. Gives (taken_in f.field f.shows x v))) (or_halt o 4 w (λ x. Gives (taken_in (at f.field) f.shows x w)))
  read_same f is None v w a = ends_same r _ v w a
  read_same f is (Some x) v w a = gives_same r _ _ (taken_agrees f is x v w a)

  field_same : (text : List ℕ) (f : InputField K) (v : Data R) (w : Data S) → AgreeData old at v w → SameEnd old at (field_in old text f v) (field_in new text (renamed_input at f) w)
  unfolding field_in
  field_same text f v w a =
      subst (λ x. SameEnd old at (field_in old text f v) (if_right x w (or_halt (value_read (kind_of (new (at f.field))) (record_part f text)) 4 w (λ x. Gives (taken_in (at f.field) f.shows x w))))) (sym (fault_same (length text) f))
      (subst (λ d. SameEnd old at (field_in old text f v) (if_right (input_fault old (length text) f) w (or_halt (value_read (kind_of d) (record_part f text)) 4 w (λ x. Gives (taken_in (at f.field) f.shows x w))))) (sym (r.forms f.field))
      (by (input_fault old (length text) f) refl))
    where
      by : (x : Option Fault) → input_fault old (length text) f ≡ x
          → SameEnd old at (if_right x v (or_halt (value_read (kind_of (old f.field)) (record_part f text)) 4 v (λ x. Gives (taken_in f.field f.shows x v))))
          (if_right x w (or_halt (value_read (kind_of (old f.field)) (record_part f text)) 4 w (λ x. Gives (taken_in (at f.field) f.shows x w))))
      by None e = read_same f (there (length text) f e) (value_read (kind_of (old f.field)) (record_part f text)) v w a
      by (Some x) e = ends_same r _ v w a

  -- the fields of a record take the same by both names
  pub record_same : (text : List ℕ) (fs : List (InputField K)) (v : Data R) (w : Data S) → AgreeData old at v w → SameEnd old at (record_in old text fs v) (record_in new text (map (renamed_input at) fs) w)
  unfolding record_in
  record_same text [] v w a = gives_same r v w a
  record_same text (f ∷ fs) v w a = followed_same r _ _ _ _ (field_same text f v w a) (record_same text fs)
