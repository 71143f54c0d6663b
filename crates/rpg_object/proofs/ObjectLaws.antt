-- The laws of whole object programs.
use Rattle.std.proofs.Common.{◌≡◌, ℕ, zero, suc, ◌+◌, ◌-◌, ◌≤◌, Bool, true, false, ◌&&◌, List, [], ◌∷◌, ◌++◌, length, drop, Some, Result, Ok, Err, refl, sym, ap, subst, ◌∙◌, append-nil, arith, inl, inr, eqb, eqb-true, length-append, length-drop}
use Rattle.std.proofs.lemmas.List.{drop-append-le}
use Rattle.std.specs.Prelude.{◌⊎◌, ◌==◌}
use Rattle.rpg_object_format.specs.declared.fault.Code.{Code}
use Rattle.rpg_object_format.specs.declared.fault.Code.TheVariants.{NoObject, CutShort, LeftOver}
use Rattle.rpg_object_format.specs.declared.fault.Fault.{Fault}
use Rattle.rpg_object_format.specs.Format.{◌>>=◌, fault_at, pair, times_with}
use Rattle.rpg_object_format.proofs.Laws.{IsBytes, IsBytes-rest, IsFormat, further, bind_ok, bind_err, ok_is, pair_law, row_law, table_law}
use Rattle.rpg_object_format.proofs.Rules.{chosen}
use Rattle.rpg_program.specs.Object.{Object}
use Rattle.rpg_program.specs.declared.rows.Version.{Version}
use Rattle.rpg_object_format.specs.Instructions.{instruction}
use Rattle.rpg_object_rows.specs.Lines.{line}
use Rattle.rpg_object_rows.specs.Types.{record_type_format}
use Rattle.rpg_object_format.proofs.InstructionLaws.{instruction_law}
use Rattle.rpg_object_rows.proofs.LineLaws.{line_law}
use Rattle.rpg_object_rows.proofs.TypeLaws.{record_type_law}
use Rattle.rpg_object.specs.declared.header.Counts.{Counts}
use Rattle.rpg_object.specs.declared.header.Header.{Header}
use Rattle.rpg_object.specs.Fields.{fields}
use Rattle.rpg_object.specs.Header.{header_format, most_instructions}
use Rattle.rpg_object.specs.Program.{Tables, tables, object_of, header_of, tables_of, body, object_name, spelling, wholly_read, begins_with, reading, fault_in, first_fault, FaultStays}
use Rattle.rpg_object.specs.Subroutines.{subroutines}
use Rattle.rpg_object.proofs.FieldLaws.{fields_law}
use Rattle.rpg_object.proofs.HeaderLaws.{header_law}
use Rattle.rpg_object.proofs.SubroutineLaws.{subroutines_law}
use Rattle.rpg_object.proofs.ValueLaws.{values_law}

tables_law : (v : Version) (c : Counts) → IsFormat (tables v c)
unfolding tables
tables_law v c =
    pair_law _ _ (fields_law c.fields) (λ fs.
    pair_law _ _ (values_law fs) (λ vs.
    pair_law _ _ (table_law c.types (record_type_format v) (record_type_law v)) (λ ts.
    pair_law _ _ (table_law c.lines line line_law) (λ ls.
    pair_law _ _ (table_law c.detail instruction instruction_law) (λ detail.
    pair_law _ _ (table_law c.total instruction instruction_law) (λ total.
    subroutines_law c.subroutines (most_instructions - c.detail - c.total)))))))

-- a header with these counts
abbrev with_counts : Header → ℕ → ℕ → ℕ → ℕ → ℕ → ℕ → Header
with_counts h f t l d n s = record h { counts = record { fields = f; types = t; lines = l; detail = d; total = n; subroutines = s } }

counts_are : (h : Header) {f f' t t' l l' d d' n n' s s' : ℕ} → f ≡ f' → t ≡ t' → l ≡ l' → d ≡ d' → n ≡ n' → s ≡ s' → with_counts h f t l d n s ≡ with_counts h f' t' l' d' n' s'
counts_are h {f} {f'} {t} {t'} {l} {l'} {d} {d'} {n} {n'} {s} {s'} ef et el ed en es =
    ap (λ (k : ℕ). with_counts h k t l d n s) ef ∙ ap (λ (k : ℕ). with_counts h f' k l d n s) et ∙ ap (λ (k : ℕ). with_counts h f' t' k d n s) el
    ∙ ap (λ (k : ℕ). with_counts h f' t' l' k n s) ed ∙ ap (λ (k : ℕ). with_counts h f' t' l' d' k s) en ∙ ap (λ (k : ℕ). with_counts h f' t' l' d' n' k) es

abbrev with_header : Header × Tables → Header → Header × Tables
with_header a h = (h, a.1)

there : (a : Header × Tables) → (pair header_format (λ h. tables h.version h.counts)).Holds a → (header_of (object_of a), tables_of (object_of a)) ≡ a
unfolding tables pair fields subroutines times_with
there a h =
    let f : length a.1.0 ≡ a.0.counts.fields = h.1.0.0 in
    let t : length a.1.1.1.0 ≡ a.0.counts.types = h.1.1.1.0.0 in
    let l : length a.1.1.1.1.0 ≡ a.0.counts.lines = h.1.1.1.1.0.0 in
    let d : length a.1.1.1.1.1.0 ≡ a.0.counts.detail = h.1.1.1.1.1.0.0 in
    let n : length a.1.1.1.1.1.1.0 ≡ a.0.counts.total = h.1.1.1.1.1.1.0.0 in
    let s : length a.1.1.1.1.1.1.1 ≡ a.0.counts.subroutines = h.1.1.1.1.1.1.1.0 in
    ap (with_header a) (counts_are a.0 f t l d n s)

pub body_law : IsFormat body
unfolding body
body_law = row_law object_of (λ p. (header_of p, tables_of p)) (pair header_format (λ h. tables h.version h.counts)) there (λ x. refl) (pair_law header_format (λ h. tables h.version h.counts) header_law (λ h. tables_law h.version h.counts))

-- ---- whole objects

abbrev found : Object → Result Object Fault
found p = Ok p

and_both : (a b : Bool) → (a && b) ≡ true → (a ≡ true) × (b ≡ true)
and_both true b e = (refl, e)
and_both false b e = absurd cc

begins_front : (xs bytes : List ℕ) → begins_with xs bytes ≡ true → bytes ≡ xs ++ drop (length xs) bytes
begins_front [] bytes e = refl
begins_front (x ∷ xs) [] e = absurd cc
begins_front (x ∷ xs) (b ∷ bytes) e =
    let k = and_both (eqb x b) (begins_with xs bytes) e in
    let same : x ≡ b = eqb-true _ _ k.0 in
    rw same (ap (λ (y : List ℕ). b ∷ y) (begins_front xs bytes k.1))

ended_ok : (p : Object) (rest : List ℕ) (q : Object) → wholly_read (p, rest) ≡ Ok q → (rest ≡ []) × (p ≡ q)
ended_ok p [] q e = (refl, ok_is p q e)
ended_ok p (b ∷ rest) q e = absurd cc

ended_err : (p : Object) (rest : List ℕ) (d : Fault) → wholly_read (p, rest) ≡ Err d → d.left ≤ length rest
ended_err p [] d e = absurd cc
ended_err p (b ∷ rest) d e = let k : fault_at (b ∷ rest) LeftOver ≡ d = cc in let l : suc (length rest) ≡ d.left = ap (λ (f : Fault). f.left) k in omega arith

pub ends_whole : (p : Object) (rest : List ℕ) → (length rest == 0) ≡ true → wholly_read (p, rest) ≡ Ok p
ends_whole p [] e = refl
ends_whole p (b ∷ rest) e = absurd (omega (arith, eqb-true (length (b ∷ rest)) 0 e))

pub ends_over : (p : Object) (rest : List ℕ) → (length rest == 0) ≡ false → wholly_read (p, rest) ≡ Err (fault_at rest LeftOver)
ends_over p [] e = absurd cc
ends_over p (b ∷ rest) e = refl

IsBytes-drop : (n : ℕ) (bytes : List ℕ) → IsBytes bytes → IsBytes (drop n bytes)
IsBytes-drop zero bytes h = h
IsBytes-drop (suc n) [] h = h
IsBytes-drop (suc n) (b ∷ bytes) h = IsBytes-drop n bytes (IsBytes-rest b bytes h)

pub all_takes : (bytes : List ℕ) (p : Object) → IsBytes bytes → reading bytes ≡ Ok p → body.Holds p × (bytes ≡ spelling p)
unfolding reading
all_takes bytes p fits e =
    elim (chosen (begins_with object_name bytes) (body.reading (drop 6 bytes) >>= wholly_read) (Err (fault_at bytes NoObject)) (found p) e) [
      | inl w ↦
          let front : bytes ≡ object_name ++ drop 6 bytes = begins_front object_name bytes w.0 in
          let a = bind_ok (body.reading (drop 6 bytes)) wholly_read p w.1 in
          let t = body_law.takes (drop 6 bytes) a.0.0 a.0.1 (IsBytes-drop 6 bytes fits) a.1 in
          let k = ended_ok a.0.0 a.0.1 p a.2 in
          let all : drop 6 bytes ≡ body.spelling a.0.0 = t.0.parts ∙ ap (λ (r : List ℕ). body.spelling a.0.0 ++ r) k.0 ∙ append-nil (body.spelling a.0.0) in
          subst (λ (q : Object). body.Holds q × (bytes ≡ object_name ++ body.spelling q)) k.1 (t.1, front ∙ ap (λ (r : List ℕ). object_name ++ r) all)
      | inr w ↦ absurd (let k = w.1 in cc)
    ]

pub all_again : (p : Object) → body.Holds p → reading (spelling p) ≡ Ok p
unfolding reading
all_again p h =
    let one : body.reading (body.spelling p) ≡ Ok (p, []) = ap body.reading (sym (append-nil (body.spelling p))) ∙ body_law.again p [] h in
    (ap (λ (r : Result (Object × List ℕ) Fault). r >>= wholly_read) one)

pub all_within : (bytes : List ℕ) (d : Fault) → IsBytes bytes → reading bytes ≡ Err d → d.left ≤ length bytes
unfolding reading
all_within bytes d fits e =
    elim (chosen (begins_with object_name bytes) (body.reading (drop 6 bytes) >>= wholly_read) (Err (fault_at bytes NoObject)) (Err d) e) [
      | inl w ↦
          let shorter : length (drop 6 bytes) ≤ length bytes = omega (arith, length-drop 6 bytes) in
          elim (bind_err (body.reading (drop 6 bytes)) wholly_read d w.1) [
            | inl bad ↦ let k = body_law.within (drop 6 bytes) d (IsBytes-drop 6 bytes fits) bad in omega arith
            | inr a ↦
                let t = body_law.takes (drop 6 bytes) a.0.0 a.0.1 (IsBytes-drop 6 bytes fits) a.1 in
                let k = ended_err a.0.0 a.0.1 d a.2 in
                omega (arith, ap length t.0.parts, length-append (body.spelling a.0.0) a.0.1)
          ]
      | inr w ↦ let k : fault_at bytes NoObject ≡ d = let m = w.1 in cc in let l : length bytes ≡ d.left = ap (λ (f : Fault). f.left) k in omega arith
    ]

-- no program but the one that was read is spelled so
pub only_one : (bytes : List ℕ) (p q : Object) → reading bytes ≡ Ok p → body.Holds q → bytes ≡ spelling q → p ≡ q
only_one bytes p q e h s = ok_is p q (sym e ∙ ap reading s ∙ all_again q h)

pub same_spelling : (p q : Object) → body.Holds p → body.Holds q → spelling p ≡ spelling q → p ≡ q
same_spelling p q h k e = only_one (spelling p) p q (all_again p h) k e

pub no_fault : (bytes : List ℕ) (d : Fault) (q : Object) → reading bytes ≡ Err d → body.Holds q → bytes ≡ spelling q → ⊥
no_fault bytes d q e h s = let k : found q ≡ Err d = sym (all_again q h) ∙ ap reading (sym s) ∙ e in cc

-- ---- bytes that follow

abbrev fails : {A : Type 0} → Fault → Result A Fault
fails d = Err d

fault-longer : (bytes more : List ℕ) (c : Code) → fault_at (bytes ++ more) c ≡ further (length more) (fault_at bytes c)
fault-longer bytes more c = ap (λ (n : ℕ). at n c) (length-append bytes more)
  where
    at : ℕ → Code → Fault
    at n c = record { left = n; code = c }

begins_long : (xs bytes : List ℕ) → begins_with xs bytes ≡ true → length xs ≤ length bytes
begins_long [] bytes e = omega arith
begins_long (x ∷ xs) [] e = absurd cc
begins_long (x ∷ xs) (b ∷ bytes) e = let more = begins_long xs bytes (and_both (eqb x b) (begins_with xs bytes) e).1 in omega arith

begins_longer : (xs bytes more : List ℕ) → begins_with xs bytes ≡ true → begins_with xs (bytes ++ more) ≡ true
begins_longer [] bytes more e = refl
begins_longer (x ∷ xs) [] more e = absurd cc
begins_longer (x ∷ xs) (b ∷ bytes) more e = let k = and_both (eqb x b) (begins_with xs bytes) e in rw k.0 (begins_longer xs bytes more k.1)

not_both : (a b : Bool) → (a && b) ≡ false → (a ≡ false) ⊎ ((a ≡ true) × (b ≡ false))
not_both true b e = inr (refl, e)
not_both false b e = inl refl

begins_not : (xs bytes more : List ℕ) → length xs ≤ length bytes → begins_with xs bytes ≡ false → begins_with xs (bytes ++ more) ≡ false
begins_not [] bytes more le e = absurd cc
begins_not (x ∷ xs) [] more le e = absurd (omega arith)
begins_not (x ∷ xs) (b ∷ bytes) more le e =
    elim (not_both (eqb x b) (begins_with xs bytes) e) [
      | inl w ↦ ap (λ (t : Bool). t && begins_with xs (bytes ++ more)) w
      | inr w ↦ ap (λ (t : Bool). t && begins_with xs (bytes ++ more)) w.0 ∙ begins_not xs bytes more (omega arith) w.1
    ]

ended_longer : (p : Object) (rest more : List ℕ) (d : Fault) → wholly_read (p, rest) ≡ Err d → wholly_read (p, rest ++ more) ≡ Err (further (length more) d)
ended_longer p [] more d e = absurd cc
ended_longer p (b ∷ rest) more d e =
    let k : fault_at (b ∷ rest) LeftOver ≡ d = cc in
    ap fails (fault-longer (b ∷ rest) more LeftOver ∙ ap (further (length more)) k)

-- A fault stays as it is where bytes are appended, but that of a number that they may complete.
pub reading_fails_alike : (bytes more : List ℕ) (d : Fault) → reading bytes ≡ Err d → (d.code ≡ CutShort → ⊥) → (d.code ≡ NoObject → 6 ≤ length bytes) → reading (bytes ++ more) ≡ Err (further (length more) d)
unfolding reading
reading_fails_alike bytes more d e whole long =
    elim (chosen (begins_with object_name bytes) (body.reading (drop 6 bytes) >>= wholly_read) (Err (fault_at bytes NoObject)) (Err d) e) [
      | inl w ↦
          let six : 6 ≤ length bytes = begins_long object_name bytes w.0 in
          let front : begins_with object_name (bytes ++ more) ≡ true = begins_longer object_name bytes more w.0 in
          let dropped : drop 6 (bytes ++ more) ≡ drop 6 bytes ++ more = drop-append-le 6 bytes more six in
          elim (bind_err (body.reading (drop 6 bytes)) wholly_read d w.1) [
            | inl bad ↦ rw (front, dropped, body_law.fails_alike (drop 6 bytes) more d bad whole) refl
            | inr a ↦ rw (front, dropped, body_law.stays (drop 6 bytes) more a.0.0 a.0.1 a.1) (ended_longer a.0.0 a.0.1 more d a.2)
          ]
      | inr w ↦
          let k : fault_at bytes NoObject ≡ d = let m = w.1 in cc in
          let six : 6 ≤ length bytes = long (ap (λ (f : Fault). f.code) (sym k)) in
          rw (begins_not object_name bytes more six w.0) (ap fails (fault-longer bytes more NoObject ∙ ap (further (length more)) k))
    ]

fault_is : (bytes : List ℕ) (r : Result Object Fault) (offset : ℕ) (code : Code) → fault_in bytes r ≡ Some (offset, code) → (d : Fault) × (r ≡ Err d) × (length bytes - d.left ≡ offset) × (d.code ≡ code)
fault_is bytes (Ok p) offset code e = absurd cc
fault_is bytes (Err d) offset code e =
    let k : place (length bytes - d.left) d.code ≡ place offset code = some_is (place (length bytes - d.left) d.code) (place offset code) e in
    (d, refl, ap (λ (x : ℕ × Code). x.0) k, ap (λ (x : ℕ × Code). x.1) k)
  where
    place : ℕ → Code → ℕ × Code
    place n c = (n, c)

    some_is : (x y : ℕ × Code) → Some x ≡ Some y → x ≡ y
    some_is x y h = cc

pub fault_stays : (bytes more : List ℕ) → FaultStays bytes more
unfolding first_fault
fault_stays bytes more offset code e whole long =
    let a = fault_is bytes (reading bytes) offset code e in
    let d = a.0 in
    let same = reading_fails_alike bytes more d a.1 (λ (h : d.code ≡ CutShort). whole (sym a.3 ∙ h)) (λ (h : d.code ≡ NoObject). long (sym a.3 ∙ h)) in
    let left : length (bytes ++ more) - (d.left + length more) ≡ offset = omega (arith, length-append bytes more, a.2) in
    rw (same, left, a.3) refl
