-- What a program starts with is what its cards start with.
use Rattle.std.proofs.Common.{◌≡◌, ℕ, zero, suc, ℤ, ◌+◌, ◌-◌, ◌<◌, ◌≤◌, Bool, true, false, cond, ◌&&◌, eqb, List, [], ◌∷◌, ◌++◌, length, map, slice_get, Option, None, Some, refl, sym, ap, ◌∙◌, subst, arith, nat_cmp, nat_lt, ltb-true}
use Rattle.std.proofs.lemmas.Bool.{eq-eqb, false≢true, ltb-false, ne_eqb}
use Rattle.std.proofs.lemmas.List.{length-map}
use Rattle.std.proofs.lemmas.Option.{same_Some, slice_get-map, slice_get_within}
use Rattle.std.specs.Cmp.{nat_cmp_total, unsigned_tied}
use Rattle.std.specs.FinMap as maps
use Rattle.std.specs.Map.{keys_of}
use Rattle.std.specs.Option.{option_map, option_map_or}
use Rattle.rpg_cards.specs.Keys.{Fixed, Key, Named, key_cmp}
use Rattle.rpg_cards.specs.Constants.{constant_form}
use Rattle.rpg_cards.specs.declared.constants.Constant.{Constant}
use Rattle.rpg_cards.specs.declared.spec_card.SpecCard.{SpecCard}
use Rattle.rpg_cycle.specs.Job.{first_fields}
use Rattle.rpg_cycle.specs.Starting.{dated, job_start}
use Rattle.rpg_program.specs.Forms.{has_field, is_date, is_table, is_table_form}
use Rattle.rpg_program.specs.Values.{Number, Value}
use Rattle.rpg_program.specs.World.{Fields, World, value_in, with_value}
use Rattle.rpg_program.specs.declared.form.FieldForm.{FieldForm}
use Rattle.rpg_meaning.proofs.Jobs.TakenStart.{IsTakenStart, first_value_at, first_values, taken_value, takes_date}
use Rattle.rpg_program.specs.Kept.{AreValuesOf}
use Rattle.rpg_program.specs.Object.{Object}
use Rattle.rpg_program.specs.Naming.{Agree}
use Rattle.rpg_store.proofs.ByEntry.{before, entries_total, same_entry, stands, there, value_here}
use Rattle.rpg_store.proofs.Places.{entry_place, in_first, in_second}
use Rattle.rpg_store.specs.First.{first_contents, first_currents, joined_values, tables_from}
use Rattle.rpg_symbols.specs.Fields.{NamedForms as Names, defined_form}
use Rattle.rpg_compile_program.proofs.Numbers.{IsAt, Missing, Standing, There, standing}
use Rattle.rpg_compile_program.specs.Data.{constant_values, field_values, loaded, values_of}
use Rattle.rpg_compile_program.specs.Program.{key_numbers, program_of}
use Rattle.rpg_compile_program.specs.Table.{forms, key_form, table_of}

-- ---- current entries

none_below : (fs : List FieldForm) (j q : ℕ) → q < j → maps.find nat_cmp q (tables_from j fs) ≡ None
none_below [] j q l = refl
none_below (f ∷ fs) j q l = by (is_table f.class) (none_below fs (j + 1) q (omega arith))
  where
    by : (t : Bool) → maps.find nat_cmp q (tables_from (j + 1) fs) ≡ None → maps.find nat_cmp q (cond t ((j, 1) ∷ tables_from (j + 1) fs) (tables_from (j + 1) fs)) ≡ None
    by true r = ap (λ b. cond b (Some 1) (maps.find nat_cmp q (tables_from (j + 1) fs))) (unsigned_tied q j ∙ ne_eqb q j (λ e. absurd (omega arith))) ∙ r
    by false r = r

tables_at : (fs : List FieldForm) (j i q : ℕ) (f : FieldForm) → slice_get fs i ≡ Some f → q ≡ j + i → maps.find nat_cmp q (tables_from j fs) ≡ cond (is_table f.class) (Some 1) None
tables_at [] j i q f h e = cc
tables_at (g ∷ fs) j zero q f h e = by (is_table g.class) refl
  where
    by : (t : Bool) → is_table g.class ≡ t → maps.find nat_cmp q (cond t ((j, 1) ∷ tables_from (j + 1) fs) (tables_from (j + 1) fs)) ≡ cond (is_table f.class) (Some 1) None
    by true t =
        let same = ap (λ (x : FieldForm). is_table x.class) (same_Some g f h) in
        ap (λ b. cond b (Some 1) (maps.find nat_cmp q (tables_from (j + 1) fs))) (unsigned_tied q j ∙ eq-eqb q j (omega arith)) ∙ ap (λ b. cond b (Some 1) None) (sym t ∙ same)
    by false t =
        let same = ap (λ (x : FieldForm). is_table x.class) (same_Some g f h) in
        none_below fs (j + 1) q (omega arith) ∙ ap (λ b. cond b (Some 1) None) (sym t ∙ same)
tables_at (g ∷ fs) j (suc i) q f h e = by (is_table g.class) (tables_at fs (j + 1) i q f h (omega arith))
  where
    by : (t : Bool) → maps.find nat_cmp q (tables_from (j + 1) fs) ≡ cond (is_table f.class) (Some 1) None
        → maps.find nat_cmp q (cond t ((j, 1) ∷ tables_from (j + 1) fs) (tables_from (j + 1) fs)) ≡ cond (is_table f.class) (Some 1) None
    by true r = ap (λ b. cond b (Some 1) (maps.find nat_cmp q (tables_from (j + 1) fs))) (unsigned_tied q j ∙ ne_eqb q j (λ same. absurd (omega arith))) ∙ r
    by false r = r

current_at : (p : Object) (i q : ℕ) (f : FieldForm) → slice_get p.fields i ≡ Some f → q ≡ i + 1 → maps.get (first_currents p) q ≡ cond (is_table f.class) (Some 1) None
unfolding first_currents
current_at p i q f h e = maps.get-from_entries nat_cmp_total (tables_from 1 p.fields) q ∙ tables_at p.fields 1 i q f h (omega arith)

-- ---- first values

joined_at : (fs : List FieldForm) (vss : List (List Value)) (i m : ℕ) (f : FieldForm) (vs : List Value) (v : Value) → AreValuesOf fs vss → slice_get fs i ≡ Some f → slice_get vss i ≡ Some vs → slice_get vs m ≡ Some v
    → slice_get (joined_values vss) (before fs i + m) ≡ Some v
joined_at [] vss i m f vs v h is at one = cc
joined_at (g ∷ fs) [] i m f vs v h is at one = absurd h
joined_at (g ∷ fs) (ws ∷ vss) zero m f vs v h is at one =
    let same = same_Some ws vs at in
    let place : 0 + m ≡ m = omega arith in
    ap (slice_get (joined_values (ws ∷ vss))) place ∙ in_first ws (joined_values vss) m v (ap (λ xs. slice_get xs m) same ∙ one)
joined_at (g ∷ fs) (ws ∷ vss) (suc i) m f vs v h is at one =
    let number = h.0.number in
    in_second ws (joined_values vss) (g.entries + before fs i + m) (before fs i + m) v (omega arith) (joined_at fs vss i m f vs v h.1 is at one)

-- as many as the field has entries
long_at : (fs : List FieldForm) (vss : List (List Value)) (i : ℕ) (f : FieldForm) (vs : List Value) → AreValuesOf fs vss → slice_get fs i ≡ Some f → slice_get vss i ≡ Some vs → length vs ≡ f.entries
long_at [] vss i f vs h is at = cc
long_at (g ∷ fs) [] i f vs h is at = absurd h
long_at (g ∷ fs) (ws ∷ vss) zero f vs h is at = ap length (sym (same_Some ws vs at)) ∙ h.0.number ∙ ap (λ (x : FieldForm). x.entries) (same_Some g f is)
long_at (g ∷ fs) (ws ∷ vss) (suc i) f vs h is at = long_at fs vss i f vs h.1 is at

contents_at : (p : Object) (i q n : ℕ) (f : FieldForm) (vs : List Value) → AreValuesOf p.fields p.values → slice_get p.fields i ≡ Some f → slice_get p.values i ≡ Some vs → q ≡ i + 1 → maps.get (first_contents p) (q, n) ≡ first_value_at vs n
contents_at p i q n f vs kept is at e = by (first_value_at vs n) refl
  where
    long : length vs ≡ f.entries
    long = long_at p.fields p.values i f vs kept is at

    -- where no value stands, there is no entry
    by_none : (o : Option Value) → maps.get (first_contents p) (q, n) ≡ o → first_value_at vs n ≡ None → o ≡ None
    by_none None got none = refl
    by_none (Some v) got none =
        let t = there p.fields (joined_values p.values) (q, n) v got in
        let s = stands p.fields 1 t.0 q n t.1.0 in
        let a = s.field in
        let low = s.first in
        let same : s.index ≡ i = omega arith in
        let form : s.form ≡ f = same_Some s.form f (sym s.is ∙ ap (slice_get p.fields) same ∙ is) in
        let high = s.last in
        let most = ap (λ (x : FieldForm). x.entries) form in
        let l = long in
        absurd (none_within vs n low (omega arith) none)
      where
        none_within : (vs : List Value) (n : ℕ) → 1 ≤ n → n ≤ length vs → first_value_at vs n ≡ None → ⊥
        none_within vs zero low high none = omega arith
        none_within [] (suc n) low high none = omega arith
        none_within (v ∷ vs) (suc zero) low high none = cc
        none_within (v ∷ vs) (suc (suc n)) low high none = none_within vs (suc n) (omega arith) (omega arith) none

    by_some : (n : ℕ) (v : Value) → first_value_at vs n ≡ Some v → maps.get (first_contents p) (q, n) ≡ Some v
    by_some zero v h = cc
    by_some (suc m) v h =
        let inside = slice_get_within vs m v h in
        let l = long in
        let first : suc m - 1 ≡ m = omega arith in
        let field : 1 + i ≡ q = omega arith in
        value_here p.fields (joined_values p.values) (before p.fields i + (suc m - 1)) (q, suc m) (entry_place p.fields 1 i (suc m) f is (omega arith) (omega arith) ∙ ap (λ (j : ℕ). Some (j, suc m)) field)
        ∙ ap (λ k. slice_get (joined_values p.values) (before p.fields i + k)) first ∙ joined_at p.fields p.values i m f vs v kept is at h

    by : (o : Option Value) → first_value_at vs n ≡ o → maps.get (first_contents p) (q, n) ≡ first_value_at vs n
    by None h = by_none (maps.get (first_contents p) (q, n)) refl h ∙ sym h
    by (Some v) h = by_some n v h ∙ sym h

-- ---- the date

written_at : (fields : Fields nat_cmp) (j q n : ℕ) (v : Value) → value_in (with_value (j, 1) v fields) (q, n) ≡ cond (eqb q j && eqb n 1) (Some v) (value_in fields (q, n))
written_at fields j q n v = maps.get-insert entries_total fields.values (j, 1) v (q, n) ∙ ap (λ b. cond b (Some v) (value_in fields (q, n))) (same_entry q n j 1)

undated : (date : ℤ) (fs : List FieldForm) (j q n : ℕ) (fields : Fields nat_cmp) → q < j → value_in (dated date j fs fields) (q, n) ≡ value_in fields (q, n)
undated date [] j q n fields l = refl
undated date (f ∷ fs) j q n fields l = undated date fs (j + 1) q n (cond (is_date f.class) (with_value (j, 1) (Number date) fields) fields) (omega arith) ∙ by (is_date f.class)
  where
    by : (b : Bool) → value_in (cond b (with_value (j, 1) (Number date) fields) fields) (q, n) ≡ value_in fields (q, n)
    by true = written_at fields j q n (Number date) ∙ ap (λ b. cond (b && eqb n 1) (Some (Number date)) (value_in fields (q, n))) (ne_eqb q j (λ e. absurd (omega arith)))
    by false = refl

dated_at : (date : ℤ) (fs : List FieldForm) (j i q n : ℕ) (f : FieldForm) (fields : Fields nat_cmp) → slice_get fs i ≡ Some f → q ≡ j + i
    → value_in (dated date j fs fields) (q, n) ≡ cond (is_date f.class && eqb n 1) (Some (Number date)) (value_in fields (q, n))
dated_at date [] j i q n f fields h e = cc
dated_at date (g ∷ fs) j zero q n f fields h e =
    undated date fs (j + 1) q n (cond (is_date g.class) (with_value (j, 1) (Number date) fields) fields) (omega arith) ∙ by (is_date g.class) ∙ ap (λ (x : FieldForm). cond (is_date x.class && eqb n 1) (Some (Number date)) (value_in fields (q, n))) (same_Some g f h)
  where
    by : (b : Bool) → value_in (cond b (with_value (j, 1) (Number date) fields) fields) (q, n) ≡ cond (b && eqb n 1) (Some (Number date)) (value_in fields (q, n))
    by true = written_at fields j q n (Number date) ∙ ap (λ b. cond (b && eqb n 1) (Some (Number date)) (value_in fields (q, n))) (eq-eqb q j (omega arith))
    by false = refl
dated_at date (g ∷ fs) j (suc i) q n f fields h e =
    dated_at date fs (j + 1) i q n f (cond (is_date g.class) (with_value (j, 1) (Number date) fields) fields) h (omega arith) ∙ ap (cond (is_date f.class && eqb n 1) (Some (Number date))) (by (is_date g.class))
  where
    by : (b : Bool) → value_in (cond b (with_value (j, 1) (Number date) fields) fields) (q, n) ≡ value_in fields (q, n)
    by true = written_at fields j q n (Number date) ∙ ap (λ b. cond (b && eqb n 1) (Some (Number date)) (value_in fields (q, n))) (ne_eqb q j (λ same. absurd (omega arith)))
    by false = refl

dated_current : (date : ℤ) (fs : List FieldForm) (j : ℕ) (fields : Fields nat_cmp) → (dated date j fs fields).current ≡ fields.current
dated_current date [] j fields = refl
dated_current date (f ∷ fs) j fields = dated_current date fs (j + 1) (cond (is_date f.class) (with_value (j, 1) (Number date) fields) fields) ∙ by (is_date f.class)
  where
    current : Fields nat_cmp → maps.FinMap nat_cmp ℕ
    current x = x.current

    by : (b : Bool) → (let x : Fields nat_cmp = cond b (with_value (j, 1) (Number date) fields) fields in x.current) ≡ fields.current
    by true = refl
    by false = refl

-- ---- where a key stands

get_first : {X : Type 0} (xs ys : List X) (i : ℕ) → i < length xs → slice_get (xs ++ ys) i ≡ slice_get xs i
get_first [] ys i l = absurd (omega arith)
get_first (x ∷ xs) ys zero l = refl
get_first (x ∷ xs) ys (suc i) l = get_first xs ys i (omega arith)

get_second : {X : Type 0} (xs ys : List X) (i : ℕ) → length xs ≤ i → slice_get (xs ++ ys) i ≡ slice_get ys (i - length xs)
get_second [] ys i l = let e : i - 0 ≡ i = omega arith in ap (slice_get ys) (sym e)
get_second (x ∷ xs) ys zero l = absurd (omega arith)
get_second (x ∷ xs) ys (suc i) l = let e : suc i - suc (length xs) ≡ i - length xs = omega arith in get_second xs ys i (omega arith) ∙ ap (slice_get ys) (sym e)

-- what the i-th of two lists is
data Side {X : Type 0} (xs ys : List X) (i : ℕ) : Type 0 where
  InFirst : i < length xs → Side xs ys i
  InSecond : length xs ≤ i → Side xs ys i

side : {X : Type 0} (xs ys : List X) (i : ℕ) → Side xs ys i
side xs ys i = by (nat_lt i (length xs)) refl
  where
    by : (b : Bool) → nat_lt i (length xs) ≡ b → Side xs ys i
    by true e = InFirst (omega (arith, ltb-true))
    by false e = InSecond (omega (arith, ltb-false))

module _ (cards : List SpecCard) where
  abbrev names : Names
  names = (table_of cards).names

  named_at : (i : ℕ) (k : Key) (o : Option (List ℕ × FieldForm)) → slice_get names i ≡ o → option_map (λ (e : List ℕ × FieldForm). Named e.0) o ≡ Some k → option_map (λ (e : List ℕ × FieldForm). e.1) o ≡ key_form (table_of cards) k
      → option_map (field_values (loaded cards)) o ≡ Some (first_values cards k)
  named_at i k None at h f = cc
  named_at i k (Some e) at h f =
      let same : Named e.0 ≡ k = same_Some (Named e.0) k h in
      subst (λ x. Some (field_values (loaded cards) e) ≡ Some (first_values cards x)) same
      (let form : defined_form names e.0 ≡ Some e.1 = ap (key_form (table_of cards)) same ∙ sym f in ap (λ o. Some (option_map_or (λ f. field_values (loaded cards) (e.0, f)) o [])) (sym form))

  fixed_at : (k : Key) (o : Option Constant) → option_map Fixed o ≡ Some k → option_map constant_values o ≡ Some (first_values cards k)
  fixed_at k None h = cc
  fixed_at k (Some c) h = let same : Fixed c ≡ k = same_Some (Fixed c) k h in ap (λ x. Some (first_values cards x)) same

  keys_same : (fs : Names) → map Named (keys_of fs) ≡ map (λ (e : List ℕ × FieldForm). Named e.0) fs
  keys_same [] = refl
  keys_same (f ∷ fs) = ap (λ ks. Named f.0 ∷ ks) (keys_same fs)

  values_there : (k : Key) (s : IsAt (table_of cards) k) → slice_get (values_of cards) s.place ≡ Some (first_values cards k)
  values_there k s = by (side (map (λ (e : List ℕ × FieldForm). Named e.0) names) (map Fixed (table_of cards).constants) s.place)
    where
      key : slice_get (map (λ (e : List ℕ × FieldForm). Named e.0) names ++ map Fixed (table_of cards).constants) s.place ≡ Some k
      key = ap (λ ks. slice_get (ks ++ map Fixed (table_of cards).constants) s.place) (sym (keys_same names)) ∙ s.key

      wide : length (map (λ (e : List ℕ × FieldForm). Named e.0) names) ≡ length names
      wide = length-map names (λ e. Named e.0)

      broad : length (map (field_values (loaded cards)) names) ≡ length names
      broad = length-map names (field_values (loaded cards))

      long : length (map (λ (e : List ℕ × FieldForm). e.1) names) ≡ length names
      long = length-map names (λ e. e.1)

      by : Side (map (λ (e : List ℕ × FieldForm). Named e.0) names) (map Fixed (table_of cards).constants) s.place → slice_get (values_of cards) s.place ≡ Some (first_values cards k)
      by (InFirst l) =
          let w = wide in let b = broad in let o = long in
          let at = sym (slice_get-map (λ (e : List ℕ × FieldForm). Named e.0) names s.place) ∙ sym (get_first (map (λ (e : List ℕ × FieldForm). Named e.0) names) (map Fixed (table_of cards).constants) s.place l) ∙ key in
          let form = sym (slice_get-map (λ (e : List ℕ × FieldForm). e.1) names s.place) ∙ sym (get_first (map (λ (e : List ℕ × FieldForm). e.1) names) (map constant_form (table_of cards).constants) s.place (omega arith)) ∙ s.form in
          get_first (map (field_values (loaded cards)) names) (map constant_values (table_of cards).constants) s.place (omega arith)
          ∙ slice_get-map (field_values (loaded cards)) names s.place
          ∙ named_at s.place k (slice_get names s.place) refl at form
      by (InSecond l) =
          let w = wide in let b = broad in
          let j : s.place - length (map (field_values (loaded cards)) names) ≡ s.place - length (map (λ (e : List ℕ × FieldForm). Named e.0) names) = omega arith in
          let at = sym (slice_get-map Fixed (table_of cards).constants (s.place - length (map (λ (e : List ℕ × FieldForm). Named e.0) names))) ∙ sym (get_second (map (λ (e : List ℕ × FieldForm). Named e.0) names) (map Fixed (table_of cards).constants) s.place l) ∙ key in
          get_second (map (field_values (loaded cards)) names) (map constant_values (table_of cards).constants) s.place (omega arith)
          ∙ ap (slice_get (map constant_values (table_of cards).constants)) j
          ∙ slice_get-map constant_values (table_of cards).constants (s.place - length (map (λ (e : List ℕ × FieldForm). Named e.0) names))
          ∙ fixed_at k (slice_get (table_of cards).constants (s.place - length (map (λ (e : List ℕ × FieldForm). Named e.0) names))) at

  -- ---- the start

  some_form : (o : Option FieldForm) → has_field o ≡ true → (f : FieldForm) × (o ≡ Some f)
  some_form None h = cc
  some_form (Some f) h = (f, refl)

  place_of : (k : Key) → has_field (key_form (table_of cards) k) ≡ true → IsAt (table_of cards) k
  place_of k there = by (standing (table_of cards) k)
    where
      by : Standing (table_of cards) k → IsAt (table_of cards) k
      by (There s) = s
      by (Missing n f) = absurd (false≢true (sym (ap has_field f) ∙ there))

  module _ (allowance : ℕ) (date : ℤ) (kept : AreValuesOf (program_of cards allowance).fields (program_of cards allowance).values) where
    machine_value : (k : Key) → has_field (key_form (table_of cards) k) ≡ true → (n : ℕ)
        → value_in (job_start (program_of cards allowance) date (first_fields (program_of cards allowance))).world.data.fields (key_numbers cards k, n) ≡ taken_value cards date k n
    unfolding program_of
    machine_value k there n =
        let s = place_of k there in
        let f = some_form (key_form (table_of cards) k) there in
        let at = s.form ∙ f.1 in
        let q = s.number in
        dated_at date (forms (table_of cards)) 1 s.place (key_numbers cards k) n f.0 (first_fields (program_of cards allowance)) at (omega arith)
        ∙ ap (λ o. cond (is_date f.0.class && eqb n 1) (Some (Number date)) o) (contents_at (program_of cards allowance) s.place (key_numbers cards k) n f.0 (first_values cards k) kept at (values_there k s) s.number)
        ∙ ap (λ o. cond (takes_date o && eqb n 1) (Some (Number date)) (first_value_at (first_values cards k) n)) (sym f.1)

    machine_current : (k : Key) → has_field (key_form (table_of cards) k) ≡ true
        → maps.get (job_start (program_of cards allowance) date (first_fields (program_of cards allowance))).world.data.fields.current (key_numbers cards k) ≡ cond (is_table_form (key_form (table_of cards) k)) (Some 1) None
    unfolding program_of
    machine_current k there =
        let s = place_of k there in
        let f = some_form (key_form (table_of cards) k) there in
        ap (λ m. maps.get m (key_numbers cards k)) (dated_current date (forms (table_of cards)) 1 (first_fields (program_of cards allowance)))
        ∙ current_at (program_of cards allowance) s.place (key_numbers cards k) f.0 (s.form ∙ f.1) s.number
        ∙ ap (λ o. cond (is_table_form o) (Some 1) None) (sym f.1)

    -- a start of the cards agrees with the program's
    pub taken_agrees : (w : World key_cmp) → IsTakenStart cards date w → Agree (key_form (table_of cards)) (key_numbers cards) w (job_start (program_of cards allowance) date (first_fields (program_of cards allowance))).world
    taken_agrees w is = record {
      «data» = record {
        fields = record {
          values = λ k there n. machine_value k there n ∙ sym (is.values k there n);
          current = λ k there. machine_current k there ∙ sym (is.current k there);
        };
        on = sym is.on;
        remainder = sym is.remainder;
      };
      paper = sym is.paper;
    }

    -- and what agrees with that is a start
    pub agrees_taken : (w : World key_cmp) → Agree (key_form (table_of cards)) (key_numbers cards) w (job_start (program_of cards allowance) date (first_fields (program_of cards allowance))).world → IsTakenStart cards date w
    agrees_taken w a = record {
      values = λ k there n. sym (a.data.fields.values k there n) ∙ machine_value k there n;
      current = λ k there. sym (a.data.fields.current k there) ∙ machine_current k there;
      on = sym a.data.on;
      remainder = sym a.data.remainder;
      paper = sym a.paper;
    }
