-- Writes keep the values fit.
use Rattle.std.proofs.Common.{◌≡◌, ℕ, zero, suc, ℤ, pos, negsuc, ◌+ℤ◌, ◌<◌, ◌^◌, All, Bool, true, false, cond, ◌==◌, eqb-true, List, Option, None, Some, refl, sym, ap, ◌∙◌, subst, arith, length, replicate, get_or, nat_cmp, unsigned_abs}
use Rattle.std.proofs.Math.IntN.{+ℤ_one}
use Rattle.std.proofs.lemmas.List.{get_or-replicate, length-replicate}
use Rattle.std.proofs.lemmas.Option.{same_Some}
use Rattle.std.specs.Ordering.{int_eq}
use Rattle.rpg_program.specs.Forms.{form_at, is_index_form, kind_of, length_of}
use Rattle.rpg_program.specs.LineFaults.{fits_source}
use Rattle.rpg_program.specs.Lines.{blanked, blanked_at, next_page}
use Rattle.rpg_program.specs.Values.{Value, Number, Text}
use Rattle.rpg_program.specs.World.{Fields, value_in, with_value}
use Rattle.rpg_program.specs.declared.form.FieldForm.{FieldForm}
use Rattle.rpg_program.specs.declared.form.Kind.{Kind}
use Rattle.rpg_program.specs.declared.form.Kind.TheVariants as kinds
use Rattle.rpg_program.specs.declared.line.Source.TheVariants as sources
use Rattle.rpg_machine_lines.proofs.Operands.{AreFit, as_value, value_there}
use Rattle.rpg_machine_lines.specs.Entries.{IsFieldEntry}
use Rattle.rpg_program.specs.Kept.{IsCharacter}
use Rattle.rpg_memory.proofs.Entries.{and_true, kinds_same}
use Rattle.rpg_memory.proofs.Fitting.{fits-insert}
use Rattle.rpg_memory.specs.Fields.{IsValue}
use Rattle.rpg_memory.specs.Fits.{HasForm}

-- a value of the field's form may be stored in an entry
fits_one : (forms : List FieldForm) (fields : Fields nat_cmp) (f e : ℕ) (v : Value) → AreFit forms fields → (i : IsFieldEntry forms f e) →
    HasForm i.form.kind i.form.length (Some v) → ((text : List ℕ) → v ≡ Text text → All IsCharacter text) →
    AreFit forms (with_value (f, e) v fields)
fits_one forms fields f e v fits i has characters =
    fits-insert forms fields.values fields.current f e v fits
    (λ d is. let same : i.form ≡ d = same_Some i.form d (sym i.there ∙ is) in
    subst (λ (x : FieldForm). HasForm x.kind x.length (Some v)) same has)
    characters

-- ---- PAGE

up_one : (k : ℕ) → unsigned_abs (negsuc (suc k) +ℤ pos 1) ≡ suc k
up_one k = ap unsigned_abs (+ℤ_one (negsuc (suc k)))

next_by : (n : ℤ) → unsigned_abs n < 10000 → (b : Bool) → int_eq n (pos 9999) ≡ b → unsigned_abs (cond b (pos 0) (n +ℤ pos 1)) < 10000
next_by n h true e = omega arith
next_by (pos k) h false e =
    let no : k ≡ 9999 → ⊥ = λ q. let yes : int_eq (pos k) (pos 9999) ≡ true = ap (λ (x : ℕ). int_eq (pos x) (pos 9999)) q in cc in
    omega (arith, h, no)
next_by (negsuc zero) h false e = omega (arith, h)
next_by (negsuc (suc k)) h false e = let is : unsigned_abs (negsuc (suc k) +ℤ pos 1) ≡ suc k = up_one k in omega (arith, h, is)

next_fits : (n : ℤ) → unsigned_abs n < 10000 → unsigned_abs (next_page n) < 10000
unfolding next_page
next_fits n h = next_by n h (int_eq n (pos 9999)) refl

pub page_kind : (form : Option FieldForm) → fits_source sources.Page form ≡ true → (kind_of form ≡ kinds.Number) × (length_of form ≡ 4)
page_kind form h =
    let a = and_true (is_index_form form) (length_of form == 4) h in
    (kinds_same _ kinds.Number (and_true _ _ a.0).0, eqb-true _ _ a.1)

in_form : (k : Kind) (len : ℕ) (v : Option Value) (n : ℤ) → k ≡ kinds.Number → HasForm k len v → v ≡ Some (Number n) → unsigned_abs n < 10 ^ len
in_form kinds.Number len v n k h e = subst (λ (x : Option Value). HasForm kinds.Number len x) e h
in_form kinds.Text len v n k h e = cc

-- the number at an entry has the digits of its field
number_fits : (forms : List FieldForm) (fields : Fields nat_cmp) (f e : ℕ) (n : ℤ) → AreFit forms fields → IsFieldEntry forms f e →
    kind_of (form_at forms f) ≡ kinds.Number → value_in fields (f, e) ≡ Some (Number n) → unsigned_abs n < 10 ^ length_of (form_at forms f)
number_fits forms fields f e n fits i k h =
    let there = in_form i.form.kind i.form.length _ n (ap kind_of (sym i.there) ∙ k) (value_there forms fields fits f e i) h in
    subst (λ (o : Option FieldForm). unsigned_abs n < 10 ^ length_of o) (sym i.there) there

-- PAGE has four digits
pub page_small : (forms : List FieldForm) (fields : Fields nat_cmp) (f e : ℕ) (n : ℤ) → AreFit forms fields → IsFieldEntry forms f e →
    fits_source sources.Page (form_at forms f) ≡ true → value_in fields (f, e) ≡ Some (Number n) → unsigned_abs n < 10000
page_small forms fields f e n fits i h g =
    let p = page_kind (form_at forms f) h in
    subst (λ (l : ℕ). unsigned_abs n < 10 ^ l) p.1 (number_fits forms fields f e n fits i p.0 g)

-- so has the next page
pub page_room : (forms own : List FieldForm) (f : ℕ) (n m : ℤ) → own ≡ forms →
    fits_source sources.Page (form_at forms f) ≡ true → unsigned_abs n < 10000 → m ≡ next_page n → unsigned_abs m < 10 ^ length_of (form_at own f)
page_room forms own f n m same h small is =
    let four : length_of (form_at own f) ≡ 4 = ap (λ fs. length_of (form_at fs f)) same ∙ (page_kind (form_at forms f) h).1 in
    let low : unsigned_abs m < 10000 = subst (λ (x : ℤ). unsigned_abs x < 10000) (sym is) (next_fits n small) in
    subst (λ (l : ℕ). unsigned_abs m < 10 ^ l) (sym four) low

-- the same by the number of a PAGE that was read
pub page_value : (forms : List FieldForm) (f e : ℕ) → IsFieldEntry forms f e → fits_source sources.Page (form_at forms f) ≡ true → IsValue forms kinds.Number f e
page_value forms f e i h = as_value forms kinds.Number f e i (page_kind (form_at forms f) h).0

pub page_below : (forms : List FieldForm) (f : ℕ) (n : ℤ) → fits_source sources.Page (form_at forms f) ≡ true → unsigned_abs n < 10 ^ length_of (form_at forms f) → unsigned_abs n < 10000
page_below forms f n h low = subst (λ (l : ℕ). unsigned_abs n < 10 ^ l) (page_kind (form_at forms f) h).1 low

pub ruleset pages = (page_value, page_below)

has_number : (k : Kind) (len : ℕ) (m : ℤ) → k ≡ kinds.Number → unsigned_abs m < 10 ^ len → HasForm k len (Some (Number m))
has_number kinds.Number len m k h = h
has_number kinds.Text len m k h = cc

pub page_counted : (forms : List FieldForm) (fields : Fields nat_cmp) (f e : ℕ) (n m : ℤ) → AreFit forms fields → IsFieldEntry forms f e →
    fits_source sources.Page (form_at forms f) ≡ true → unsigned_abs n < 10000 → m ≡ next_page n →
    AreFit forms (with_value (f, e) (Number m) fields)
page_counted forms fields f e n m fits i h small k =
    let p = page_kind (form_at forms f) h in
    let room : unsigned_abs m < 10 ^ length_of (form_at forms f) = page_room forms forms f n m refl h small k in
    let low : unsigned_abs m < 10 ^ i.form.length = subst (λ (o : Option FieldForm). unsigned_abs m < 10 ^ length_of o) i.there room in
    fits_one forms fields f e (Number m) fits i (has_number i.form.kind i.form.length m (ap kind_of (sym i.there) ∙ p.0) low) (λ text is. cc)

-- ---- blank after

blank_has : (k : Kind) (len : ℕ) (v : Option Value) → HasForm k len v → HasForm k len (Some (blanked v))
blank_has kinds.Number len (Some (Number n)) h = omega (arith, h)
blank_has kinds.Text len (Some (Text t)) h = length-replicate (length t) 32 ∙ h
blank_has kinds.Number len (Some (Text t)) h = absurd h
blank_has kinds.Text len (Some (Number n)) h = absurd h
blank_has kinds.Number len None h = absurd h
blank_has kinds.Text len None h = absurd h

pub blank_characters : (n : ℕ) → All IsCharacter (replicate n 32)
blank_characters n k d low =
    let same : get_or (replicate n 32) k d ≡ 32 = get_or-replicate n k 32 d (subst (λ (m : ℕ). k < m) (length-replicate n 32) low) in
    subst IsCharacter (sym same) (record { lowest = omega arith; highest = omega arith })

text_blanked : (v : Option Value) (text : List ℕ) → blanked v ≡ Text text → All IsCharacter text
text_blanked None text h = cc
text_blanked (Some (Number n)) text h = cc
text_blanked (Some (Text t)) text h = let same : replicate (length t) 32 ≡ text = cc in subst (All IsCharacter) same (blank_characters (length t))

pub fits-blanked : (forms : List FieldForm) (fields : Fields nat_cmp) (f e : ℕ) → AreFit forms fields → IsFieldEntry forms f e → AreFit forms (blanked_at (f, e) fields)
fits-blanked forms fields f e fits i =
    let v = value_in fields (f, e) in
    fits_one forms fields f e (blanked v) fits i (blank_has i.form.kind i.form.length v (value_there forms fields fits f e i)) (text_blanked v)

zero_blanked : (k : Kind) (len : ℕ) (v : Option Value) → k ≡ kinds.Number → HasForm k len v → Number (pos 0) ≡ blanked v
zero_blanked kinds.Number len (Some (Number n)) is h = refl
zero_blanked kinds.Number len (Some (Text t)) is h = absurd h
zero_blanked kinds.Number len None is h = refl
zero_blanked kinds.Text len v is h = cc

-- a number becomes zero
pub blanked_number : (forms : List FieldForm) (fields : Fields nat_cmp) (f e : ℕ) → AreFit forms fields → IsFieldEntry forms f e →
    kind_of (form_at forms f) ≡ kinds.Number → with_value (f, e) (Number (pos 0)) fields ≡ blanked_at (f, e) fields
blanked_number forms fields f e fits i k =
    ap (λ (v : Value). with_value (f, e) v fields)
    (zero_blanked i.form.kind i.form.length _ (ap kind_of (sym i.there) ∙ k) (value_there forms fields fits f e i))

blanks_are : (k : Kind) (len : ℕ) (v : Option Value) → k ≡ kinds.Text → HasForm k len v → Text (replicate len 32) ≡ blanked v
blanks_are kinds.Text len (Some (Text t)) is h = ap (λ (n : ℕ). Text (replicate n 32)) (sym h)
blanks_are kinds.Text len (Some (Number n)) is h = absurd h
blanks_are kinds.Text len None is h = absurd h
blanks_are kinds.Number len v is h = cc

-- a text becomes blanks
pub blanked_text : (forms : List FieldForm) (fields : Fields nat_cmp) (f e : ℕ) → AreFit forms fields → IsFieldEntry forms f e →
    kind_of (form_at forms f) ≡ kinds.Text → with_value (f, e) (Text (replicate (length_of (form_at forms f)) 32)) fields ≡ blanked_at (f, e) fields
blanked_text forms fields f e fits i k =
    ap (λ (v : Value). with_value (f, e) v fields)
    (ap (λ (o : Option FieldForm). Text (replicate (length_of o) 32)) i.there
    ∙ blanks_are i.form.kind i.form.length _ (ap kind_of (sym i.there) ∙ k) (value_there forms fields fits f e i))

pub ruleset blanking = (as_value, blanked_number, blanked_text, blank_characters)
