-- What is written keeps what holds of a world.
use Rattle.std.proofs.Common.{◌≡◌, ℕ, ℤ, ◌≤◌, ◌<◌, ◌^◌, true, false, List, Option, None, Some, refl, sym, ap, ◌∙◌, subst, length, unsigned_abs, nat_cmp}
use Rattle.std.specs.FinMap as maps
use Rattle.std.specs.Prelude.{All}
use Rattle.rpg_program.specs.Effect.{Effect, Leaves, go_on, then_go}
use Rattle.rpg_program.specs.Ended.{Ended, Gives, followed_by, followed_if, on_data, or_halt}
use Rattle.rpg_program.specs.Ends.{End, Continues, Halt, Wrong}
use Rattle.rpg_program.specs.Forms.{entries_of, form_at, is_constant, is_index_form, is_plain, is_plain_form, is_writable, length_of, may_write}
use Rattle.rpg_program.specs.Values.{Value, Number, Text, characters_of}
use Rattle.rpg_program.specs.World.{Data, Fields, World, characters_at, set_current, set_value}
use Rattle.rpg_program.specs.declared.form.Class.{Class}
use Rattle.rpg_program.specs.declared.form.Class.TheVariants as classes
use Rattle.rpg_program.specs.declared.form.FieldForm.{FieldForm}
use Rattle.rpg_program.specs.declared.form.Kind.TheVariants as kinds
use Rattle.rpg_cycle_safety.specs.Holding.{Holds, IsEffectEnd, Keeps, KeepsData}
use Rattle.rpg_memory.proofs.Entries.{and_true, text_in_form}
use Rattle.rpg_memory.proofs.Fitting.{fits-current}
use Rattle.rpg_memory.proofs.Keeping.{fits_number, fits_text}
use Rattle.rpg_memory.proofs.Values.{form_there}
use Rattle.rpg_memory.specs.Fields.{IsValue}
use Rattle.rpg_program.specs.Kept.{IsCharacter}
use Rattle.rpg_program.specs.Object.{Object}
use Rattle.rpg_memory.proofs.Fitting.{constants-insert}
use Rattle.rpg_memory.specs.Fits.{Fits, KeepsConstants}

-- ---- fields that may be written

writable_is_no_constant : (c : Class) → is_writable c ≡ true → is_constant c ≡ false
writable_is_no_constant classes.Plain h = refl
writable_is_no_constant classes.Array h = refl
writable_is_no_constant classes.Table h = refl
writable_is_no_constant classes.Constant h = cc
writable_is_no_constant classes.Date h = refl

no_constant : (form : Option FieldForm) (d : FieldForm) → may_write form ≡ true → form ≡ Some d → is_constant d.class ≡ false
no_constant form d h is = writable_is_no_constant d.class (ap may_write (sym is) ∙ h)

plain_is_writable : (c : Class) → is_plain c ≡ true → is_writable c ≡ true
plain_is_writable classes.Plain h = refl
plain_is_writable classes.Array h = cc
plain_is_writable classes.Table h = cc
plain_is_writable classes.Constant h = cc
plain_is_writable classes.Date h = cc

-- a plain field may be written
pub plain_may : (form : Option FieldForm) → is_plain_form form ≡ true → may_write form ≡ true
plain_may None h = cc
plain_may (Some d) h = plain_is_writable d.class h

-- an index field may be written
pub index_may : (form : Option FieldForm) → is_index_form form ≡ true → may_write form ≡ true
index_may form h = plain_may form (and_true (is_plain_form form) _ (and_true _ _ h).1).0

-- ---- data

module _ (p : Object) where
  -- nothing but the fields matters
  pub same_fields : (w v : Data nat_cmp) → Holds p w → v.fields ≡ w.fields → Holds p v
  same_fields w v h is = record {
    fits = subst (λ (f : Fields nat_cmp). Fits p.fields f.values f.current) (sym is) h.fits;
    constants = subst (λ (f : Fields nat_cmp). KeepsConstants p f.values) (sym is) h.constants;
  }

  constants_kept : (w : Data nat_cmp) (field n : ℕ) (v : Value) → Holds p w → may_write (form_at p.fields field) ≡ true →
      KeepsConstants p (maps.insert w.fields.values (field, n) v)
  constants_kept w field n v h may = constants-insert p w.fields.values field n v h.constants (λ d is. no_constant (form_at p.fields field) d may is)

  -- a number of so many digits is stored in a number field
  pub number_written : (w : Data nat_cmp) (field n : ℕ) (x : ℤ) → Holds p w → IsValue p.fields kinds.Number field n →
      may_write (form_at p.fields field) ≡ true → unsigned_abs x < 10 ^ length_of (form_at p.fields field) →
      Holds p (set_value w field n (Number x))
  number_written w field n x h value may small = record {
    fits = fits_number p.fields w.fields.values w.fields.current field n x h.fits value small;
    constants = constants_kept w field n (Number x) h may;
  }

  -- a text of so many characters is stored in a text field
  pub text_written : (w : Data nat_cmp) (field n : ℕ) (text : List ℕ) → Holds p w → IsValue p.fields kinds.Text field n →
      may_write (form_at p.fields field) ≡ true → length text ≡ length_of (form_at p.fields field) → All IsCharacter text →
      Holds p (set_value w field n (Text text))
  text_written w field n text h value may long spelled = record {
    fits = fits_text p.fields w.fields.values w.fields.current field n text h.fits value long spelled;
    constants = constants_kept w field n (Text text) h may;
  }

  -- one of its entries becomes current in a table
  pub current_set : (w : Data nat_cmp) (table n : ℕ) → Holds p w → 1 ≤ n → n ≤ entries_of (form_at p.fields table) → Holds p (set_current w table n)
  current_set w table n h low high = record { fits = fits-current p.fields w.fields.values w.fields.current table n h.fits low high; constants = h.constants }

  -- ---- what stands in a text field

  text_at : (w : Data nat_cmp) (field n : ℕ) → Holds p w → IsValue p.fields kinds.Text field n →
      (length (characters_at w field n) ≡ length_of (form_at p.fields field)) × All IsCharacter (characters_at w field n)
  text_at w field n h value =
      let found = text_in_form value.form.length _ (form_there p.fields w.fields.values w.fields.current kinds.Text field n h.fits value) in
      let same : found.0 ≡ characters_at w field n = ap characters_of (sym found.1) in
      (ap length (sym same) ∙ found.2 ∙ ap length_of (sym value.there), subst (λ (t : List ℕ). All IsCharacter t) same (h.fits.characters field n found.0 found.1))

  -- the text of an entry is as long as its field
  pub text_long : (w : Data nat_cmp) (field n : ℕ) → Holds p w → IsValue p.fields kinds.Text field n →
      length (characters_at w field n) ≡ length_of (form_at p.fields field)
  text_long w field n h value = (text_at w field n h value).0

  -- the text of an entry is characters
  pub text_spelled : (w : Data nat_cmp) (field n : ℕ) → Holds p w → IsValue p.fields kinds.Text field n → All IsCharacter (characters_at w field n)
  text_spelled w field n h value = (text_at w field n h value).1

  -- ---- what is done to data

  -- it continues with data of which all of this holds
  pub gives : (d : Data nat_cmp) → Holds p d → KeepsData p (Gives d)
  gives d h = record { ending = tt; holds = h }

  pub or_halts : {A : Type 0} (o : Option A) (k : ℕ) (d : Data nat_cmp) (go : A → Ended nat_cmp) → IsEffectEnd (Halt k) → Holds p d →
      ((x : A) → o ≡ Some x → KeepsData p (go x)) → KeepsData p (or_halt o k d go)
  or_halts None k d go named h next = record { ending = named; holds = h }
  or_halts (Some x) k d go named h next = next x refl

  continues : (ending : End) (e : Ended nat_cmp) (go : Data nat_cmp → Ended nat_cmp) → IsEffectEnd ending → KeepsData p e →
      ((d : Data nat_cmp) → Holds p d → KeepsData p (go d)) → KeepsData p (followed_if ending e go)
  continues Continues e go right h next = next e.data h.holds
  continues (Halt k) e go right h next = h
  continues (Wrong f) e go right h next = absurd right

  -- the one, and then the other
  pub followed_keeps : (e : Ended nat_cmp) (go : Data nat_cmp → Ended nat_cmp) → KeepsData p e → ((d : Data nat_cmp) → Holds p d → KeepsData p (go d)) →
      KeepsData p (followed_by e go)
  followed_keeps e go h next = continues e.ending e go h.ending h next

  -- so does the effect of it
  pub on_data_keeps : (f : Data nat_cmp → Ended nat_cmp) (w : World nat_cmp) → KeepsData p (f w.data) → Keeps p (on_data f w)
  on_data_keeps f w h = record { ending = h.ending; holds = h.holds }

  -- ---- effects

  -- it continues at a world of which all of this holds
  pub leaves : (w : World nat_cmp) → Holds p w.data → Keeps p (Leaves w)
  leaves w h = record { ending = tt; holds = h }

  follows : (ending : End) (e : Effect nat_cmp) (go : World nat_cmp → Effect nat_cmp) → IsEffectEnd ending → Keeps p e →
      ((w : World nat_cmp) → Holds p w.data → Keeps p (go w)) → Keeps p (go_on ending e go)
  follows Continues e go right h next = let more = next e.world h.holds in record { ending = more.ending; holds = more.holds }
  follows (Halt k) e go right h next = h
  follows (Wrong f) e go right h next = absurd right

  -- the one, and then the other
  pub then_keeps : (e : Effect nat_cmp) (go : World nat_cmp → Effect nat_cmp) → Keeps p e → ((w : World nat_cmp) → Holds p w.data → Keeps p (go w)) →
      Keeps p (then_go e go)
  then_keeps e go h next = follows e.ending e go h.ending h next
