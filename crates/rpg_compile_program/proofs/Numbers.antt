-- Numbers of names and constants are a renaming.
use Rattle.std.proofs.Common.{◌≡◌, ℕ, zero, suc, ℤ, pos, negsuc, ◌+◌, ◌<◌, Bool, true, false, not, cond, ◌||◌, eqb, List, [], ◌∷◌, ◌++◌, map, length, slice_get, Option, None, Some, refl, sym, ap, ◌∙◌, arith}
use Rattle.std.proofs.lemmas.Bool.{lt-ltb, ne_eqb, eq-eqb, false≢true}
use Rattle.std.proofs.lemmas.Option.{slice_get-map, same_Some}
use Rattle.std.specs.Cmp.{unsigned_tied, nat_cmp_total}
use Rattle.std.specs.Cmp.Lexicographic.{bytes_decides, on_texts, pointwise, texts_ties}
use Rattle.std.specs.List.{list_any, position_or_len}
use Rattle.std.specs.Map.{keys_of, lookup}
use Rattle.std.specs.Option.{option_map}
use Rattle.std.specs.Ordering.{eq_by_cmp, nat_cmp}
use Rattle.std.specs.Prelude.{nat_eq, nat_lt, position, unwrap_or}
use Rattle.rpg_cards.specs.Keys.{Fixed, Key, Named, Nowhere, key_cmp, number_key, spelled}
use Rattle.rpg_cards.specs.Constants.{constant_form, is_same}
use Rattle.rpg_cards.specs.SameConstants.{is_same-equal}
use Rattle.rpg_cards.specs.declared.constants.Constant.{Constant}
use Rattle.rpg_cards.specs.declared.constants.Constant.TheVariants.{Number, Text}
use Rattle.rpg_program.specs.Forms.{form_at, has_field}
use Rattle.rpg_program.specs.declared.form.FieldForm.{FieldForm}
use Rattle.rpg_sheet_specs.specs.Numeral.{Numeral}
use Rattle.rpg_program.specs.Naming.{IsRenaming}
use Rattle.rpg_symbols.specs.Fields.{NamedForms, defined_form}
use Rattle.rpg_compile_program.specs.Table.{Table, constant_number, forms, key_form, key_number, name_forms, name_number}

-- ---- the first place that passes

abbrev pub HasPlace : {X : Type 0} → (X → Bool) → List X → ℕ → Type 0
HasPlace test xs i = (position_or_len test xs ≡ i) × (i < length xs)

pub place_position : {X : Type 0} (test : X → Bool) (xs : List X) (i : ℕ) → HasPlace test xs i → position test xs ≡ Some i
place_position test xs i h = ap (λ k. cond (nat_lt k (length xs)) (Some k) None) h.0 ∙ ap (λ b. cond b (Some i) None) (lt-ltb i (length xs) h.1)

-- none passes
no_place : {X : Type 0} (test : X → Bool) (xs : List X) → list_any test xs ≡ false → position_or_len test xs ≡ length xs
no_place test [] e = refl
no_place test (x ∷ xs) e = by_test (test x) e (no_place test xs)
  where
    by_test : (b : Bool) → (b || list_any test xs) ≡ false → (list_any test xs ≡ false → position_or_len test xs ≡ length xs) → cond (not b) (1 + position_or_len test xs) 0 ≡ suc (length xs)
    by_test true h later = cc
    by_test false h later = let r = later h in omega arith

no_position : {X : Type 0} (test : X → Bool) (xs : List X) → list_any test xs ≡ false → position test xs ≡ None
no_position test xs e = ap (λ k. cond (nat_lt k (length xs)) (Some k) None) (no_place test xs e) ∙ ap (λ b. cond b (Some (length xs)) None) (never (length xs))
  where
    never : (n : ℕ) → nat_lt n n ≡ false
    never n = grind arith

-- ---- names

name_found : (name : List ℕ) (fields : NamedForms) (form : FieldForm) → defined_form fields name ≡ Some form →
    (i : ℕ) × HasPlace (pointwise nat_eq name) (keys_of fields) i × (slice_get (keys_of fields) i ≡ Some name) × (slice_get (name_forms fields) i ≡ Some form)
name_found name [] form e = cc
name_found name (f ∷ fs) form e = by_test (pointwise nat_eq name f.0) refl e (name_found name fs form)
  where
    by_test : (b : Bool) → pointwise nat_eq name f.0 ≡ b → cond b (Some f.1) (lookup (pointwise nat_eq name) fs) ≡ Some form →
        (defined_form fs name ≡ Some form → (i : ℕ) × HasPlace (pointwise nat_eq name) (keys_of fs) i × (slice_get (keys_of fs) i ≡ Some name) × (slice_get (name_forms fs) i ≡ Some form))
        → (i : ℕ) × HasPlace (pointwise nat_eq name) (f.0 ∷ keys_of fs) i × (slice_get (f.0 ∷ keys_of fs) i ≡ Some name) × (slice_get (f.1 ∷ name_forms fs) i ≡ Some form)
    by_test true is h later = (0, (ap (λ b. cond (not b) (1 + position_or_len (pointwise nat_eq name) (keys_of fs)) 0) is, omega arith), ap Some (sym ((bytes_decides name f.0).0 is)), h)
    by_test false is h later =
        let r = later h in
        let at = r.1.0 in
        let within = r.1.1 in
        (suc r.0, (ap (λ b. cond (not b) (1 + position_or_len (pointwise nat_eq name) (keys_of fs)) 0) is ∙ omega arith, omega arith), r.2, r.3)

name_missing : (name : List ℕ) (fields : NamedForms) → defined_form fields name ≡ None → list_any (pointwise nat_eq name) (keys_of fields) ≡ false
name_missing name [] e = refl
name_missing name (f ∷ fs) e = by_test (pointwise nat_eq name f.0) e (name_missing name fs)
  where
    by_test : (b : Bool) → cond b (Some f.1) (lookup (pointwise nat_eq name) fs) ≡ None → (defined_form fs name ≡ None → list_any (pointwise nat_eq name) (keys_of fs) ≡ false) → (b || list_any (pointwise nat_eq name) (keys_of fs)) ≡ false
    by_test true h later = cc
    by_test false h later = later h

-- ---- constants

pub constant_found : (x : Constant) (xs : List Constant) → list_any (is_same x) xs ≡ true → (i : ℕ) × HasPlace (is_same x) xs i × (slice_get xs i ≡ Some x)
constant_found x [] e = cc
constant_found x (y ∷ xs) e = by_test (is_same x y) refl e (constant_found x xs)
  where
    by_test : (b : Bool) → is_same x y ≡ b → (b || list_any (is_same x) xs) ≡ true →
        (list_any (is_same x) xs ≡ true → (i : ℕ) × HasPlace (is_same x) xs i × (slice_get xs i ≡ Some x))
        → (i : ℕ) × HasPlace (is_same x) (y ∷ xs) i × (slice_get (y ∷ xs) i ≡ Some x)
    by_test true is h later = (0, (ap (λ b. cond (not b) (1 + position_or_len (is_same x) xs) 0) is, omega arith), ap Some (sym (is_same-equal x y is)))
    by_test false is h later =
        let r = later h in
        let at = r.1.0 in
        let within = r.1.1 in
        (suc r.0, (ap (λ b. cond (not b) (1 + position_or_len (is_same x) xs) 0) is ∙ omega arith, omega arith), r.2)

-- ---- lists

get_front : {X : Type 0} (xs ys : List X) (i : ℕ) (x : X) → slice_get xs i ≡ Some x → slice_get (xs ++ ys) i ≡ Some x
get_front [] ys i x e = cc
get_front (y ∷ xs) ys zero x e = e
get_front (y ∷ xs) ys (suc i) x e = get_front xs ys i x e

pub get_after : {X : Type 0} (xs ys : List X) (i n : ℕ) → n ≡ length xs → slice_get (xs ++ ys) (n + i) ≡ slice_get ys i
get_after [] ys i n e = let same : n + i ≡ i = omega arith in ap (slice_get ys) same
get_after (x ∷ xs) ys i zero e = absurd (omega arith)
get_after (x ∷ xs) ys i (suc n) e = let same : suc n + i ≡ suc (n + i) = omega arith in ap (slice_get (x ∷ xs ++ ys)) same ∙ get_after xs ys i n (omega arith)

pub length_map : {X Y : Type 0} (f : X → Y) (xs : List X) → length (map f xs) ≡ length xs
length_map f [] = refl
length_map f (x ∷ xs) = ap suc (length_map f xs)

length_keys : (fields : NamedForms) → length (keys_of fields) ≡ length fields
length_keys [] = refl
length_keys (f ∷ fs) = ap suc (length_keys fs)

-- ---- all keys, in the order of their numbers

abbrev pub all_keys : Table → List Key
all_keys t = map Named (keys_of t.names) ++ map Fixed t.constants

-- a key that has a form stands where its number says, and so does its form
pub record IsAt (t : Table) (k : Key) : Type 0 where
  pub place : ℕ
  pub number : key_number t k ≡ place + 1
  pub key : slice_get (all_keys t) place ≡ Some k
  pub form : slice_get (forms t) place ≡ key_form t k

name_at : (t : Table) (name : List ℕ) (form : FieldForm) → defined_form t.names name ≡ Some form → IsAt t (Named name)
name_at t name form e =
    let r = name_found name t.names form e in
    record {
      place = r.0;
      number = ap (λ o. unwrap_or (option_map (λ i. i + 1) o) 0) (place_position (pointwise nat_eq name) (keys_of t.names) r.0 r.1);
      key = get_front (map Named (keys_of t.names)) (map Fixed t.constants) r.0 (Named name) (slice_get-map Named (keys_of t.names) r.0 ∙ ap (option_map Named) r.2);
      form = get_front (name_forms t.names) (map constant_form t.constants) r.0 form r.3 ∙ sym e;
    }

constant_at : (t : Table) (x : Constant) → list_any (is_same x) t.constants ≡ true → IsAt t (Fixed x)
constant_at t x e =
    let r = constant_found x t.constants e in
    let long : length t.names ≡ length (map Named (keys_of t.names)) = sym (length_map Named (keys_of t.names) ∙ length_keys t.names) in
    let wide : length t.names ≡ length (name_forms t.names) = sym (length_map (λ (f : List ℕ × FieldForm). f.1) t.names) in
    record {
      place = length t.names + r.0;
      number = ap (λ o. unwrap_or (option_map (λ i. length t.names + i + 1) o) 0) (place_position (is_same x) t.constants r.0 r.1);
      key = get_after (map Named (keys_of t.names)) (map Fixed t.constants) r.0 (length t.names) long ∙ slice_get-map Fixed t.constants r.0 ∙ ap (option_map Fixed) r.2;
      form = get_after (name_forms t.names) (map constant_form t.constants) r.0 (length t.names) wide ∙ slice_get-map constant_form t.constants r.0 ∙ ap (option_map constant_form) r.2
          ∙ ap (λ b. cond b (Some (constant_form x)) None) (sym e);
    }

-- a key without a form has number 0
pub data Standing (t : Table) (k : Key) : Type 0 where
  There : IsAt t k → Standing t k
  Missing : key_number t k ≡ 0 → key_form t k ≡ None → Standing t k

pub standing : (t : Table) (k : Key) → Standing t k
standing t Nowhere = Missing refl refl
standing t (Named name) = by_form (defined_form t.names name) refl
  where
    by_form : (o : Option FieldForm) → defined_form t.names name ≡ o → Standing t (Named name)
    by_form None e = Missing (ap (λ o. unwrap_or (option_map (λ i. i + 1) o) 0) (no_position (pointwise nat_eq name) (keys_of t.names) (name_missing name t.names e))) e
    by_form (Some form) e = There (name_at t name form e)
standing t (Fixed x) = by_any (list_any (is_same x) t.constants) refl
  where
    by_any : (b : Bool) → list_any (is_same x) t.constants ≡ b → Standing t (Fixed x)
    by_any true e = There (constant_at t x e)
    by_any false e = Missing (ap (λ o. unwrap_or (option_map (λ i. length t.names + i + 1) o) 0) (no_position (is_same x) t.constants e)) (ap (λ b. cond b (Some (constant_form x)) None) e)

pub form_next : (fields : List FieldForm) (i : ℕ) → form_at fields (i + 1) ≡ slice_get fields i
form_next fields i = let e : i + 1 ≡ suc i = omega arith in ap (form_at fields) e

pub forms_same : (t : Table) (k : Key) → Standing t k → form_at (forms t) (key_number t k) ≡ key_form t k
forms_same t k (There s) = ap (form_at (forms t)) s.number ∙ form_next (forms t) s.place ∙ s.form
forms_same t k (Missing n f) = ap (form_at (forms t)) n ∙ sym f

-- one number, one key
own : (t : Table) (j k : Key) → Standing t j → Standing t k → has_field (key_form t k) ≡ true → key_number t j ≡ key_number t k → j ≡ k
own t j k s (Missing n f) there e = absurd (false≢true (sym (ap has_field f) ∙ there))
own t j k (Missing n f) (There r) there e = let a = r.number in absurd (omega arith)
own t j k (There s) (There r) there e =
    let a = s.number in
    let b = r.number in
    let same : s.place ≡ r.place = omega arith in
    same_Some j k (sym s.key ∙ ap (slice_get (all_keys t)) same ∙ r.key)

-- ---- keys with the same place in the order are the same

-- a numeral of its parts
abbrev made : ℤ → ℕ → ℕ → Numeral
made v l d = record { value = v; length = l; decimals = d }

-- keys that are spelled alike are one
same_spelling : (t : Table) (j k : Key) → spelled j ≡ spelled k → key_number t j ≡ key_number t k
same_spelling t Nowhere Nowhere e = refl
same_spelling t Nowhere (Named n) e = absurd cc
same_spelling t Nowhere (Fixed (Text u)) e = absurd cc
same_spelling t Nowhere (Fixed (Number u)) e = absurd cc
same_spelling t (Named m) Nowhere e = absurd cc
same_spelling t (Fixed (Text m)) Nowhere e = absurd cc
same_spelling t (Fixed (Number m)) Nowhere e = absurd cc
same_spelling t (Named m) (Named n) e = let same : m ≡ n = cc in ap (name_number t) same
same_spelling t (Named m) (Fixed (Text u)) e = absurd cc
same_spelling t (Named m) (Fixed (Number u)) e = absurd cc
same_spelling t (Fixed (Text m)) (Named n) e = absurd cc
same_spelling t (Fixed (Number m)) (Named n) e = absurd cc
same_spelling t (Fixed (Text m)) (Fixed (Text n)) e = let same : m ≡ n = cc in ap (λ x. constant_number t (Text x)) same
same_spelling t (Fixed (Text m)) (Fixed (Number n)) e = absurd cc
same_spelling t (Fixed (Number m)) (Fixed (Text n)) e = absurd cc
same_spelling t (Fixed (Number m)) (Fixed (Number n)) e = ap (λ x. constant_number t (Number x)) (numbers m.value n.value refl refl e)
  where
    numbers : (v w : ℤ) → m.value ≡ v → n.value ≡ w → 2 ∷ number_key v (m.length ∷ m.decimals ∷ []) ≡ 2 ∷ number_key w (n.length ∷ n.decimals ∷ []) → m ≡ n
    numbers (pos v) (pos w) a b h =
        let x : v ≡ w = cc in let l : m.length ≡ n.length = cc in let d : m.decimals ≡ n.decimals = cc in
        ap (λ y. made y m.length m.decimals) (a ∙ ap pos x ∙ sym b) ∙ (λ i. made n.value (l i) (d i))
    numbers (pos v) (negsuc w) a b h = absurd cc
    numbers (negsuc v) (pos w) a b h = absurd cc
    numbers (negsuc v) (negsuc w) a b h =
        let x : v ≡ w = cc in let l : m.length ≡ n.length = cc in let d : m.decimals ≡ n.decimals = cc in
        ap (λ y. made y m.length m.decimals) (a ∙ ap negsuc x ∙ sym b) ∙ (λ i. made n.value (l i) (d i))

apart : (t : Table) (j k : Key) → has_field (key_form t k) ≡ true → eq_by_cmp nat_cmp (key_number t j) (key_number t k) ≡ eq_by_cmp key_cmp j k
apart t j k there = unsigned_tied (key_number t j) (key_number t k) ∙ by_spelling (pointwise nat_eq (spelled j) (spelled k)) refl ∙ texts_ties (spelled j) (spelled k)
  where
    by_spelling : (b : Bool) → pointwise nat_eq (spelled j) (spelled k) ≡ b → eqb (key_number t j) (key_number t k) ≡ pointwise nat_eq (spelled j) (spelled k)
    by_spelling true e = eq-eqb (key_number t j) (key_number t k) (same_spelling t j k ((bytes_decides (spelled j) (spelled k)).0 e)) ∙ sym e
    by_spelling false e =
        let other : key_number t j ≡ key_number t k → ⊥ = λ h. false≢true (sym e ∙ (bytes_decides (spelled j) (spelled k)).1 (ap spelled (own t j k (standing t j) (standing t k) there h))) in
        ne_eqb (key_number t j) (key_number t k) other ∙ sym e

-- numbers are a renaming of the names and constants of any table
pub numbers_rename : (t : Table) → IsRenaming key_cmp nat_cmp (key_form t) (form_at (forms t)) (key_number t)
numbers_rename t = record { old_total = on_texts spelled; new_total = nat_cmp_total; forms = λ k. forms_same t k (standing t k); apart = apart t }
