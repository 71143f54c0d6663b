-- The trying of types: their codes are on columns that are there.
use Rattle.std.proofs.Common.{◌≡◌, ℕ, ◌<◌, ◌+◌, suc, Bool, true, false, ◌&&◌, List, [], ◌∷◌, length, get_or, drop, map, slice_get, refl, sym, ap, ◌∙◌, subst, arith}
use Rattle.std.proofs.lemmas.Bool.Decides.{nat_tests}
use Rattle.std.proofs.lemmas.List.{drop_more, get_or-map, get_or_default, length-map}
use Rattle.std.proofs.lemmas.Option.{slice_get-get_or, slice_get-map}
use Rattle.std.specs.List.{All, list_all}
use Rattle.std.specs.Option.{option_map}
use Rattle.rpg_cycle_records.specs.Earlier.{file_of}
use Rattle.rpg_cycle_records.specs.Fitting.{IsCodeIn, IsTypeFit, IsTypeIn, IsTypeOf}
use Rattle.rpg_program.specs.Input.{TypeRow}
use Rattle.rpg_program.specs.declared.input.InputFile.{InputFile}
use Rattle.rpg_program.specs.declared.input.InputFile.TheVariants.{Primary, Secondary}
use Rattle.rpg_program.specs.declared.input.RecordCode.{RecordCode}
use Rattle.rpg_program.specs.Object.{Object, input_length, type_row}
use Rattle.rpg_program.specs.declared.rows.RecordType.{RecordType}
use Rattle.rpg_cycle_records.specs.Identifying.{has_position, code_holds, identified, same_file, trial_weight, IsOf}

there : (text : List ℕ) (c : RecordCode) → IsCodeIn (length text) c → has_position text c ≡ true
there text c h = grind (arith, nat_tests, h.low, h.high)

and : (b c : Bool) → b ≡ true → c ≡ true → (b && c) ≡ true
and b c h g = rw h g

pub all_there : (text : List ℕ) (cs : List RecordCode) → All (IsCodeIn (length text)) cs → list_all (has_position text) cs ≡ true
all_there text [] h = refl
all_there text (c ∷ cs) h =
    and (has_position text c) (list_all (has_position text) cs) (there text c (h 0 c (omega arith))) (all_there text cs (λ k d l. h (suc k) d (omega (arith, l))))

-- the row of a type
row_at : (P : TypeRow ℕ → Type 0) (types : List RecordType) (i : ℕ) (d : RecordType) → All P (map type_row types) → i < length types → P (type_row (get_or types i d))
row_at P types i d h l = subst P (get_or-map type_row types i d (type_row d) l) (h i (type_row d) (omega (arith, length-map types type_row, l)))

-- a type of a program fits the records of its file
pub fits_at : (p : Object) (types : List RecordType) (i : ℕ) (d : RecordType) → All (IsTypeFit p) (map type_row types) → i < length types → IsTypeFit p (type_row (get_or types i d))
fits_at p types i d h l = row_at (IsTypeFit p) types i d h l

-- a type of the file fits its records
pub type_at : (f : InputFile) (len : ℕ) (types : List RecordType) (i : ℕ) (d : RecordType) → All (IsTypeOf f len) (map type_row types) → i < length types →
    same_file (get_or types i d).file f ≡ true → IsTypeIn len (type_row (get_or types i d))
type_at f len types i d h l own = row_at (IsTypeOf f len) types i d h l own

pub one_file : (f g : InputFile) → same_file f g ≡ true → f ≡ g
one_file Primary Primary h = refl
one_file Primary Secondary h = cc
one_file Secondary Primary h = cc
one_file Secondary Secondary h = refl

-- types that fit the records of their files fit those of one file
pub fit_file : (p : Object) (f : InputFile) (len : ℕ) (ts : List (TypeRow ℕ)) → len ≡ input_length p f → All (IsTypeFit p) ts → All (IsTypeOf f len) ts
fit_file p f len ts e h = λ k d l own.
    subst (λ n. IsTypeIn n (get_or ts k d)) (ap (input_length p) (one_file (get_or ts k d).file f own) ∙ sym e) (h k d l)

-- a row is of the file, whatever stands for one that isn't there
pub same_own : (f : InputFile) (types : List RecordType) (i : ℕ) (d e : RecordType) → i < length types → same_file (get_or types i d).file f ≡ true → same_file (get_or types i e).file f ≡ true
same_own f types i d e l own = ap (λ (t : RecordType). same_file t.file f) (get_or_default types i e d l) ∙ own

-- the file of a row
pub file_at : (f : InputFile) (types : List RecordType) (i : ℕ) (d : RecordType) → i < length types → same_file (get_or types i d).file f ≡ true → file_of (slice_get (map type_row types) i) ≡ f
file_at f types i d l own =
    ap file_of (slice_get-map type_row types i ∙ ap (option_map type_row) (slice_get-get_or types i d l)) ∙ one_file (get_or types i d).file f own

takes : (f : InputFile) (n : ℕ) (t : TypeRow ℕ) (ts : List (TypeRow ℕ)) (text : List ℕ) → same_file t.file f ≡ true → All (IsCodeIn (length text)) t.codes → list_all (code_holds text) t.codes ≡ true →
    identified f n (t ∷ ts) text ≡ IsOf n
takes f n t ts text own h g = rw own (rw (all_there text t.codes h) (rw g refl))

passes_by : (f : InputFile) (n : ℕ) (t : TypeRow ℕ) (ts : List (TypeRow ℕ)) (text : List ℕ) → same_file t.file f ≡ true → All (IsCodeIn (length text)) t.codes → list_all (code_holds text) t.codes ≡ false →
    identified f n (t ∷ ts) text ≡ identified f (n + 1) ts text
passes_by f n t ts text own h g = rw own (rw (all_there text t.codes h) (rw g refl))

weighs_more : (f : InputFile) (t : TypeRow ℕ) (ts : List (TypeRow ℕ)) (text : List ℕ) → same_file t.file f ≡ true → All (IsCodeIn (length text)) t.codes → list_all (code_holds text) t.codes ≡ false →
    trial_weight f (t ∷ ts) text ≡ length t.codes + trial_weight f ts text
weighs_more f t ts text own h g = rw own (rw (all_there text t.codes h) (rw g refl))

next_type : (types : List RecordType) (i : ℕ) (d : RecordType) → i < length types → map type_row (drop i types) ≡ type_row (get_or types i d) ∷ map type_row (drop (i + 1) types)
next_type types i d l = ap (map type_row) (drop_more types i d l)

-- the type in that row takes the record
pub taken_at : (f : InputFile) (text : List ℕ) (types : List RecordType) (i : ℕ) (d : RecordType) (cs : List RecordCode) → All (IsTypeOf f (length text)) (map type_row types) → i < length types →
    same_file (get_or types i d).file f ≡ true → cs ≡ (get_or types i d).codes.items → list_all (code_holds text) cs ≡ true → identified f i (map type_row (drop i types)) text ≡ IsOf i
taken_at f text types i d cs h l own e g =
    ap (λ ts. identified f i ts text) (next_type types i d l)
    ∙ takes f i (type_row (get_or types i d)) (map type_row (drop (i + 1) types)) text own (type_at f (length text) types i d h l own).codes (ap (list_all (code_holds text)) (sym e) ∙ g)

-- the type in that row doesn't
pub passed_at : (f : InputFile) (text : List ℕ) (types : List RecordType) (i : ℕ) (d : RecordType) (cs : List RecordCode) → All (IsTypeOf f (length text)) (map type_row types) → i < length types →
    same_file (get_or types i d).file f ≡ true → cs ≡ (get_or types i d).codes.items → list_all (code_holds text) cs ≡ false →
    identified f i (map type_row (drop i types)) text ≡ identified f (i + 1) (map type_row (drop (i + 1) types)) text
passed_at f text types i d cs h l own e g =
    ap (λ ts. identified f i ts text) (next_type types i d l)
    ∙ passes_by f i (type_row (get_or types i d)) (map type_row (drop (i + 1) types)) text own (type_at f (length text) types i d h l own).codes (ap (list_all (code_holds text)) (sym e) ∙ g)

pub weight_at : (f : InputFile) (text : List ℕ) (types : List RecordType) (i : ℕ) (d : RecordType) (cs : List RecordCode) → All (IsTypeOf f (length text)) (map type_row types) → i < length types →
    same_file (get_or types i d).file f ≡ true → cs ≡ (get_or types i d).codes.items → list_all (code_holds text) cs ≡ false →
    trial_weight f (map type_row (drop i types)) text ≡ length (get_or types i d).codes.items + trial_weight f (map type_row (drop (i + 1) types)) text
weight_at f text types i d cs h l own e g =
    ap (λ ts. trial_weight f ts text) (next_type types i d l)
    ∙ weighs_more f (type_row (get_or types i d)) (map type_row (drop (i + 1) types)) text own (type_at f (length text) types i d h l own).codes (ap (list_all (code_holds text)) (sym e) ∙ g)
