-- The laws of formats, each proved once for each way in which formats are put together.
use Rattle.std.proofs.Common.{◌≡◌, ℕ, zero, suc, ◌+◌, ◌*◌, ◌/◌, ◌%◌, ◌^◌, ◌<◌, ◌≤◌, List, [], ◌∷◌, ◌++◌, length, get_or, Result, Ok, Err, refl, sym, ap, subst, ◌∙◌, append_assoc, arith, inl, inr, length-append}
use Rattle.std.specs.Prelude.{◌⊎◌}
use Rattle.rpg_object_format.specs.declared.fault.Code.{Code}
use Rattle.rpg_object_format.specs.declared.fault.Code.TheVariants.{CutShort}
use Rattle.rpg_object_format.specs.declared.fault.Fault.{Fault}
use Rattle.rpg_object_format.specs.Format.{Format, ◌>>=◌, fault_at, ends_early, ruled, read_byte, read_two, byte, two_bytes, joined, made, pair, row, with_listed, read_times, AllAlong, spelled_along, times_with, keep, table}

abbrev pub IsBytes : List ℕ → Type 0
IsBytes bytes = (i : ℕ) → get_or bytes i 0 < 256

pub IsBytes-rest : (b : ℕ) (bytes : List ℕ) → IsBytes (b ∷ bytes) → IsBytes bytes
IsBytes-rest b bytes h i = h (suc i)

-- what a reader took from the front
pub record Takes (bytes text rest : List ℕ) : Type 0 where
  pub parts : bytes ≡ text ++ rest
  pub rest_fits : IsBytes rest

pub Takes-then : (a x b y c : List ℕ) → Takes a x b → Takes b y c → Takes a (x ++ y) c
Takes-then a x b y c p q = record { parts = p.parts ∙ ap (λ (t : List ℕ). x ++ t) q.parts ∙ sym (append_assoc x y c); rest_fits = q.rest_fits }

-- the same fault, with n more bytes after it
abbrev pub further : ℕ → Fault → Fault
further n d = record { left = d.left + n; code = d.code }

-- What is read is spelled so and holds; what holds is read again; a fault lies within the bytes; and bytes that follow
-- change neither what was read before them nor a fault, but for that of a number that they may complete.
pub record IsFormat {X : Type 0} (f : Format X) : Type 0 where
  pub takes : (bytes : List ℕ) (x : X) (rest : List ℕ) → IsBytes bytes → f.reading bytes ≡ Ok (x, rest) → Takes bytes (f.spelling x) rest × f.Holds x
  pub again : (x : X) (rest : List ℕ) → f.Holds x → f.reading (f.spelling x ++ rest) ≡ Ok (x, rest)
  pub within : (bytes : List ℕ) (d : Fault) → IsBytes bytes → f.reading bytes ≡ Err d → d.left ≤ length bytes
  pub stays : (bytes more : List ℕ) (x : X) (rest : List ℕ) → f.reading bytes ≡ Ok (x, rest) → f.reading (bytes ++ more) ≡ Ok (x, rest ++ more)
  pub fails_alike : (bytes more : List ℕ) (d : Fault) → f.reading bytes ≡ Err d → (d.code ≡ CutShort → ⊥) → f.reading (bytes ++ more) ≡ Err (further (length more) d)

-- ---- steps that may fail

pub bind_ok : {A B : Type 0} (r : Result A Fault) (f : A → Result B Fault) (y : B) → (r >>= f) ≡ Ok y → (x : A) × (r ≡ Ok x) × (f x ≡ Ok y)
bind_ok (Ok x) f y e = (x, refl, e)
bind_ok (Err d) f y e = absurd cc

pub bind_err : {A B : Type 0} (r : Result A Fault) (f : A → Result B Fault) (d : Fault) → (r >>= f) ≡ Err d → (r ≡ Err d) ⊎ ((x : A) × (r ≡ Ok x) × (f x ≡ Err d))
bind_err (Ok x) f d e = inr (x, refl, e)
bind_err (Err c) f d e = inl cc

abbrev done : {A : Type 0} → A → Result A Fault
done x = Ok x

pub ok_is : {A : Type 0} (x y : A) → done x ≡ done y → x ≡ y
ok_is x y e = cc

abbrev fails : {A : Type 0} → Fault → Result A Fault
fails d = Err d

pub err_is : {A : Type 0} (c d : Fault) → fails {A = A} c ≡ fails d → c ≡ d
err_is c d e = cc

-- ---- numbers

pub ruled_ok : {X : Type 0} (bytes rest rest' : List ℕ) (r : Result X Code) (x : X) → ruled bytes rest r ≡ Ok (x, rest') → (r ≡ Ok x) × (rest ≡ rest')
ruled_ok bytes rest rest' (Ok y) x e = let k = ok_is (y, rest) (x, rest') e in (ap (λ (p : _ × List ℕ). Ok p.0) k, ap (λ (p : _ × List ℕ). p.1) k)
ruled_ok bytes rest rest' (Err c) x e = absurd cc

pub ruled_err : {X : Type 0} (bytes rest : List ℕ) (r : Result X Code) (d : Fault) → ruled bytes rest r ≡ Err d → d.left ≤ length bytes
ruled_err bytes rest (Ok y) d e = absurd cc
ruled_err bytes rest (Err c) d e = let k : fault_at bytes c ≡ d = cc in let l : length bytes ≡ d.left = ap (λ (f : Fault). f.left) k in omega arith

pub ruled_stays : {X : Type 0} (bytes longer rest rest' more : List ℕ) (r : Result X Code) (x : X) → ruled bytes rest r ≡ Ok (x, rest') → ruled longer (rest ++ more) r ≡ Ok (x, rest' ++ more)
ruled_stays {X} bytes longer rest rest' more (Ok y) x e = ap (λ (p : X × List ℕ). Ok (p.0, p.1 ++ more)) (ok_is (y, rest) (x, rest') e)
ruled_stays bytes longer rest rest' more (Err c) x e = absurd cc

pub ruled_fails : {X : Type 0} (bytes rest rest' more : List ℕ) (r : Result X Code) (d : Fault) → ruled bytes rest r ≡ Err d → ruled (bytes ++ more) rest' r ≡ Err (further (length more) d)
ruled_fails bytes rest rest' more (Ok y) d e = absurd cc
ruled_fails {X} bytes rest rest' more (Err c) d e =
    let k : fault_at bytes c ≡ d = cc in
    let l : fault_at (bytes ++ more) c ≡ further (length more) (fault_at bytes c) = ap (λ (n : ℕ). at n c) (length-append bytes more) in
    ap (fails {A = X × List ℕ}) (l ∙ ap (further (length more)) k)
  where
    at : ℕ → Code → Fault
    at n c = record { left = n; code = c }

pub at_end : {A : Type 0} (d : Fault) → fails {A = A} ends_early ≡ fails d → (d.code ≡ CutShort → ⊥) → ⊥
at_end d e not_end = not_end (ap (λ (f : Fault). f.code) (sym (err_is ends_early d e)))

-- a number is read as a value alone that it is the number of
abbrev pub IsRule : {X : Type 0} → (ℕ → Result X Code) → (X → ℕ) → Type 0
IsRule {X} rule code = (n : ℕ) (x : X) → rule n ≡ Ok x → code x ≡ n

pub byte_law : {X : Type 0} (rule : ℕ → Result X Code) (code : X → ℕ) → IsRule rule code → IsFormat (byte rule code)
unfolding byte read_byte
byte_law {X} rule code law = record { takes = takes; again = again; within = within; stays = stays; fails_alike = fails_alike }
  where
    takes : (bytes : List ℕ) (x : X) (rest : List ℕ) → IsBytes bytes → read_byte rule bytes ≡ Ok (x, rest) → Takes bytes (code x ∷ []) rest × ((rule (code x) ≡ Ok x) × (code x < 2 ^ 8))
    takes [] x rest fits e = absurd cc
    takes (b ∷ bytes) x rest fits e =
        let k = ruled_ok (b ∷ bytes) bytes rest (rule b) x e in
        let c : code x ≡ b = law b x k.0 in
        let lt : b < 256 = fits 0 in
        (record { parts = rw (c, ← k.1) refl; rest_fits = rw (← k.1) (IsBytes-rest b bytes fits) }, (rw c k.0, rw c lt))

    again : (x : X) (rest : List ℕ) → (rule (code x) ≡ Ok x) × (code x < 2 ^ 8) → read_byte rule (code x ∷ rest) ≡ Ok (x, rest)
    again x rest h = rw h.0 refl

    within : (bytes : List ℕ) (d : Fault) → IsBytes bytes → read_byte rule bytes ≡ Err d → d.left ≤ length bytes
    within [] d fits e = let k : ends_early ≡ d = cc in let l : 0 ≡ d.left = ap (λ (f : Fault). f.left) k in omega arith
    within (b ∷ bytes) d fits e = ruled_err (b ∷ bytes) bytes (rule b) d e

    stays : (bytes more : List ℕ) (x : X) (rest : List ℕ) → read_byte rule bytes ≡ Ok (x, rest) → read_byte rule (bytes ++ more) ≡ Ok (x, rest ++ more)
    stays [] more x rest e = absurd cc
    stays (b ∷ bytes) more x rest e = ruled_stays (b ∷ bytes) (b ∷ (bytes ++ more)) bytes rest more (rule b) x e

    fails_alike : (bytes more : List ℕ) (d : Fault) → read_byte rule bytes ≡ Err d → (d.code ≡ CutShort → ⊥) → read_byte rule (bytes ++ more) ≡ Err (further (length more) d)
    fails_alike [] more d e not_end = absurd (at_end d e not_end)
    fails_alike (b ∷ bytes) more d e not_end = ruled_fails (b ∷ bytes) bytes (bytes ++ more) more (rule b) d e

pub two_law : {X : Type 0} (rule : ℕ → Result X Code) (code : X → ℕ) → IsRule rule code → IsFormat (two_bytes rule code)
unfolding two_bytes read_two
two_law {X} rule code law = record { takes = takes; again = again; within = within; stays = stays; fails_alike = fails_alike }
  where
    takes : (bytes : List ℕ) (x : X) (rest : List ℕ) → IsBytes bytes → read_two rule bytes ≡ Ok (x, rest) → Takes bytes (code x / 256 ∷ code x % 256 ∷ []) rest × ((rule (code x) ≡ Ok x) × (code x < 2 ^ 16))
    takes [] x rest fits e = absurd cc
    takes (a ∷ []) x rest fits e = absurd cc
    takes (a ∷ b ∷ bytes) x rest fits e =
        let k = ruled_ok (a ∷ b ∷ bytes) bytes rest (rule (256 * a + b)) x e in
        let c : code x ≡ 256 * a + b = law (256 * a + b) x k.0 in
        let la : a < 256 = fits 0 in
        let lb : b < 256 = fits 1 in
        let high : code x / 256 ≡ a = rw c (omega arith) in
        let low : code x % 256 ≡ b = rw c (omega arith) in
        (record { parts = rw (high, low, ← k.1) refl; rest_fits = rw (← k.1) (λ i. fits (suc (suc i))) }, (rw c k.0, rw c (omega arith)))

    again : (x : X) (rest : List ℕ) → (rule (code x) ≡ Ok x) × (code x < 2 ^ 16) → read_two rule (code x / 256 ∷ code x % 256 ∷ rest) ≡ Ok (x, rest)
    again x rest h =
        let k : 256 * (code x / 256) + code x % 256 ≡ code x = omega arith in
        rw (k, h.0) refl

    within : (bytes : List ℕ) (d : Fault) → IsBytes bytes → read_two rule bytes ≡ Err d → d.left ≤ length bytes
    within [] d fits e = let k : ends_early ≡ d = cc in let l : 0 ≡ d.left = ap (λ (f : Fault). f.left) k in omega arith
    within (a ∷ []) d fits e = let k : ends_early ≡ d = cc in let l : 0 ≡ d.left = ap (λ (f : Fault). f.left) k in omega arith
    within (a ∷ b ∷ bytes) d fits e = ruled_err (a ∷ b ∷ bytes) bytes (rule (256 * a + b)) d e

    stays : (bytes more : List ℕ) (x : X) (rest : List ℕ) → read_two rule bytes ≡ Ok (x, rest) → read_two rule (bytes ++ more) ≡ Ok (x, rest ++ more)
    stays [] more x rest e = absurd cc
    stays (a ∷ []) more x rest e = absurd cc
    stays (a ∷ b ∷ bytes) more x rest e = ruled_stays (a ∷ b ∷ bytes) (a ∷ b ∷ (bytes ++ more)) bytes rest more (rule (256 * a + b)) x e

    fails_alike : (bytes more : List ℕ) (d : Fault) → read_two rule bytes ≡ Err d → (d.code ≡ CutShort → ⊥) → read_two rule (bytes ++ more) ≡ Err (further (length more) d)
    fails_alike [] more d e not_end = absurd (at_end d e not_end)
    fails_alike (a ∷ []) more d e not_end = absurd (at_end d e not_end)
    fails_alike (a ∷ b ∷ bytes) more d e not_end = ruled_fails (a ∷ b ∷ bytes) bytes (bytes ++ more) more (rule (256 * a + b)) d e

-- ---- one after the other

pub pair_law : {A B : Type 0} (f : Format A) (g : A → Format B) → IsFormat f → ((a : A) → IsFormat (g a)) → IsFormat (pair f g)
unfolding pair
pair_law {A} {B} f g p q = record { takes = takes; again = again; within = within; stays = stays; fails_alike = fails_alike }
  where
    takes : (bytes : List ℕ) (x : A × B) (rest : List ℕ) → IsBytes bytes → (f.reading bytes >>= λ a. (g a.0).reading a.1 >>= joined a.0) ≡ Ok (x, rest) → Takes bytes (f.spelling x.0 ++ (g x.0).spelling x.1) rest × (f.Holds x.0 × (g x.0).Holds x.1)
    takes bytes x rest fits e =
        let a = bind_ok (f.reading bytes) (λ a. (g a.0).reading a.1 >>= joined a.0) (x, rest) e in
        let b = bind_ok ((g a.0.0).reading a.0.1) (joined a.0.0) (x, rest) a.2 in
        let t = p.takes bytes a.0.0 a.0.1 fits a.1 in
        let u = (q a.0.0).takes a.0.1 b.0.0 b.0.1 t.0.rest_fits b.1 in
        let both = Takes-then bytes (f.spelling a.0.0) a.0.1 ((g a.0.0).spelling b.0.0) b.0.1 t.0 u.0 in
        let both_made : (A × B) × List ℕ = ((a.0.0, b.0.0), b.0.1) in
        subst (λ (y : (A × B) × List ℕ). Takes bytes (f.spelling y.0.0 ++ (g y.0.0).spelling y.0.1) y.1 × (f.Holds y.0.0 × (g y.0.0).Holds y.0.1)) (ok_is both_made (x, rest) b.2) (both, (t.1, u.1))

    again : (x : A × B) (rest : List ℕ) → f.Holds x.0 × (g x.0).Holds x.1 → (f.reading ((f.spelling x.0 ++ (g x.0).spelling x.1) ++ rest) >>= λ a. (g a.0).reading a.1 >>= joined a.0) ≡ Ok (x, rest)
    again x rest h = rw (append_assoc (f.spelling x.0) ((g x.0).spelling x.1) rest, p.again x.0 ((g x.0).spelling x.1 ++ rest) h.0, (q x.0).again x.1 rest h.1) refl

    within : (bytes : List ℕ) (d : Fault) → IsBytes bytes → (f.reading bytes >>= λ a. (g a.0).reading a.1 >>= joined a.0) ≡ Err d → d.left ≤ length bytes
    within bytes d fits e =
        elim (bind_err (f.reading bytes) (λ a. (g a.0).reading a.1 >>= joined a.0) d e) [
          | inl bad ↦ p.within bytes d fits bad
          | inr a ↦
              let t = p.takes bytes a.0.0 a.0.1 fits a.1 in
              let shorter : length a.0.1 ≤ length bytes = omega (arith, ap length t.0.parts, length-append (f.spelling a.0.0) a.0.1) in
              elim (bind_err ((g a.0.0).reading a.0.1) (joined a.0.0) d a.2) [
                | inl bad ↦ let k = (q a.0.0).within a.0.1 d t.0.rest_fits bad in omega arith
                | inr b ↦ absurd (let k = b.2 in cc)
              ]
        ]

    stays : (bytes more : List ℕ) (x : A × B) (rest : List ℕ) → (f.reading bytes >>= λ a. (g a.0).reading a.1 >>= joined a.0) ≡ Ok (x, rest) → (f.reading (bytes ++ more) >>= λ a. (g a.0).reading a.1 >>= joined a.0) ≡ Ok (x, rest ++ more)
    stays bytes more x rest e =
        let a = bind_ok (f.reading bytes) (λ a. (g a.0).reading a.1 >>= joined a.0) (x, rest) e in
        let b = bind_ok ((g a.0.0).reading a.0.1) (joined a.0.0) (x, rest) a.2 in
        let both_made : (A × B) × List ℕ = ((a.0.0, b.0.0), b.0.1) in
        rw (p.stays bytes more a.0.0 a.0.1 a.1, (q a.0.0).stays a.0.1 more b.0.0 b.0.1 b.1) (ap (λ (y : (A × B) × List ℕ). Ok (y.0, y.1 ++ more)) (ok_is both_made (x, rest) b.2))

    fails_alike : (bytes more : List ℕ) (d : Fault) → (f.reading bytes >>= λ a. (g a.0).reading a.1 >>= joined a.0) ≡ Err d → (d.code ≡ CutShort → ⊥) → (f.reading (bytes ++ more) >>= λ a. (g a.0).reading a.1 >>= joined a.0) ≡ Err (further (length more) d)
    fails_alike bytes more d e not_end =
        elim (bind_err (f.reading bytes) (λ a. (g a.0).reading a.1 >>= joined a.0) d e) [
          | inl bad ↦ rw (p.fails_alike bytes more d bad not_end) refl
          | inr a ↦ elim (bind_err ((g a.0.0).reading a.0.1) (joined a.0.0) d a.2) [
            | inl bad ↦ rw (p.stays bytes more a.0.0 a.0.1 a.1, (q a.0.0).fails_alike a.0.1 more d bad not_end) refl
            | inr b ↦ absurd (let k = b.2 in cc)
          ]
        ]

pub row_law : {A X : Type 0} (make : A → X) (parts : X → A) (f : Format A) → ((a : A) → f.Holds a → parts (make a) ≡ a) → ((x : X) → make (parts x) ≡ x) → IsFormat f → IsFormat (row make parts f)
unfolding row
row_law {A} {X} make parts f there back p = record { takes = takes; again = again; within = within; stays = stays; fails_alike = fails_alike }
  where
    takes : (bytes : List ℕ) (x : X) (rest : List ℕ) → IsBytes bytes → (f.reading bytes >>= made make) ≡ Ok (x, rest) → Takes bytes (f.spelling (parts x)) rest × f.Holds (parts x)
    takes bytes x rest fits e =
        let a = bind_ok (f.reading bytes) (made make) (x, rest) e in
        let t = p.takes bytes a.0.0 a.0.1 fits a.1 in
        let x_made : X × List ℕ = (make a.0.0, a.0.1) in
        subst (λ (y : X × List ℕ). Takes bytes (f.spelling (parts y.0)) y.1 × f.Holds (parts y.0)) (ok_is x_made (x, rest) a.2) (subst (λ (w : A). Takes bytes (f.spelling w) a.0.1 × f.Holds w) (sym (there a.0.0 t.1)) t)

    again : (x : X) (rest : List ℕ) → f.Holds (parts x) → (f.reading (f.spelling (parts x) ++ rest) >>= made make) ≡ Ok (x, rest)
    again x rest h = rw (p.again (parts x) rest h) (ap (λ (y : X). Ok (y, rest)) (back x))

    within : (bytes : List ℕ) (d : Fault) → IsBytes bytes → (f.reading bytes >>= made make) ≡ Err d → d.left ≤ length bytes
    within bytes d fits e =
        elim (bind_err (f.reading bytes) (made make) d e) [
          | inl bad ↦ p.within bytes d fits bad
          | inr a ↦ absurd (let k = a.2 in cc)
        ]

    stays : (bytes more : List ℕ) (x : X) (rest : List ℕ) → (f.reading bytes >>= made make) ≡ Ok (x, rest) → (f.reading (bytes ++ more) >>= made make) ≡ Ok (x, rest ++ more)
    stays bytes more x rest e =
        let a = bind_ok (f.reading bytes) (made make) (x, rest) e in
        let x_made : X × List ℕ = (make a.0.0, a.0.1) in
        rw (p.stays bytes more a.0.0 a.0.1 a.1) (ap (λ (y : X × List ℕ). Ok (y.0, y.1 ++ more)) (ok_is x_made (x, rest) a.2))

    fails_alike : (bytes more : List ℕ) (d : Fault) → (f.reading bytes >>= made make) ≡ Err d → (d.code ≡ CutShort → ⊥) → (f.reading (bytes ++ more) >>= made make) ≡ Err (further (length more) d)
    fails_alike bytes more d e not_end =
        elim (bind_err (f.reading bytes) (made make) d e) [
          | inl bad ↦ rw (p.fails_alike bytes more d bad not_end) refl
          | inr a ↦ absurd (let k = a.2 in cc)
        ]

-- ---- rows, one after the other

abbrev nothing_read : {X : Type 0} → List ℕ → List X × List ℕ
nothing_read bytes = ([], bytes)

pub times_law : {S X : Type 0} (f : S → Format X) (next : S → X → S) → ((s : S) → IsFormat (f s)) → (n : ℕ) (s : S) → IsFormat (times_with f next n s)
unfolding times_with read_times
times_law {S} {X} f next p n s = record { takes = takes n s; again = λ xs rest h. again xs rest n s h.0 h.1; within = within n s; stays = λ bytes more xs rest e. stays n s bytes more xs rest e; fails_alike = λ bytes more d e not_end. fails_alike n s bytes more d e not_end }
  where
    read : S → List ℕ → Result (X × List ℕ) Fault
    read t bytes = (f t).reading bytes

    spell : S → X → List ℕ
    spell t x = (f t).spelling x

    later : ℕ → S → X × List ℕ → Result (List X × List ℕ) Fault
    later m t x = read_times read next m (next t x.0) x.1 >>= with_listed x.0

    takes : (n : ℕ) (s : S) (bytes : List ℕ) (xs : List X) (rest : List ℕ) → IsBytes bytes → read_times read next n s bytes ≡ Ok (xs, rest) → Takes bytes (spelled_along spell next s xs) rest × ((length xs ≡ n) × AllAlong (λ t x. (f t).Holds x) next s xs)
    takes zero s bytes xs rest fits e =
        subst (λ (y : List X × List ℕ). Takes bytes (spelled_along spell next s y.0) y.1 × ((length y.0 ≡ 0) × AllAlong (λ t x. (f t).Holds x) next s y.0)) (ok_is (nothing_read bytes) (xs, rest) e) (record { parts = refl; rest_fits = fits }, (refl, tt))
    takes (suc n) s bytes xs rest fits e =
        let a = bind_ok (read s bytes) (later n s) (xs, rest) e in
        let b = bind_ok (read_times read next n (next s a.0.0) a.0.1) (with_listed a.0.0) (xs, rest) a.2 in
        let t = (p s).takes bytes a.0.0 a.0.1 fits a.1 in
        let u = takes n (next s a.0.0) a.0.1 b.0.0 b.0.1 t.0.rest_fits b.1 in
        let both = Takes-then bytes (spell s a.0.0) a.0.1 (spelled_along spell next (next s a.0.0) b.0.0) b.0.1 t.0 u.0 in
        let all_made : List X × List ℕ = (a.0.0 ∷ b.0.0, b.0.1) in
        subst (λ (y : List X × List ℕ). Takes bytes (spelled_along spell next s y.0) y.1 × ((length y.0 ≡ suc n) × AllAlong (λ t x. (f t).Holds x) next s y.0)) (ok_is all_made (xs, rest) b.2) (both, (ap suc u.1.0, (t.1, u.1.1)))

    again : (xs : List X) (rest : List ℕ) (n : ℕ) (s : S) → length xs ≡ n → AllAlong (λ t x. (f t).Holds x) next s xs → read_times read next n s (spelled_along spell next s xs ++ rest) ≡ Ok (xs, rest)
    again [] rest n s len h = rw (← len) refl
    again (x ∷ xs) rest n s len h =
        let tail = spelled_along spell next (next s x) xs in
        let step : read_times read next (suc (length xs)) s ((spell s x ++ tail) ++ rest) ≡ Ok (x ∷ xs, rest) = rw (append_assoc (spell s x) tail rest, (p s).again x (tail ++ rest) h.0, again xs rest (length xs) (next s x) refl h.1) refl in
        rw (← len) step

    within : (n : ℕ) (s : S) (bytes : List ℕ) (d : Fault) → IsBytes bytes → read_times read next n s bytes ≡ Err d → d.left ≤ length bytes
    within zero s bytes d fits e = absurd cc
    within (suc n) s bytes d fits e =
        elim (bind_err (read s bytes) (later n s) d e) [
          | inl bad ↦ (p s).within bytes d fits bad
          | inr a ↦
              let t = (p s).takes bytes a.0.0 a.0.1 fits a.1 in
              let shorter : length a.0.1 ≤ length bytes = omega (arith, ap length t.0.parts, length-append (spell s a.0.0) a.0.1) in
              elim (bind_err (read_times read next n (next s a.0.0) a.0.1) (with_listed a.0.0) d a.2) [
                | inl bad ↦ let k = within n (next s a.0.0) a.0.1 d t.0.rest_fits bad in omega arith
                | inr b ↦ absurd (let k = b.2 in cc)
              ]
        ]

    stays : (n : ℕ) (s : S) (bytes more : List ℕ) (xs : List X) (rest : List ℕ) → read_times read next n s bytes ≡ Ok (xs, rest) → read_times read next n s (bytes ++ more) ≡ Ok (xs, rest ++ more)
    stays zero s bytes more xs rest e = ap (λ (y : List X × List ℕ). Ok (y.0, y.1 ++ more)) (ok_is (nothing_read bytes) (xs, rest) e)
    stays (suc n) s bytes more xs rest e =
        let a = bind_ok (read s bytes) (later n s) (xs, rest) e in
        let b = bind_ok (read_times read next n (next s a.0.0) a.0.1) (with_listed a.0.0) (xs, rest) a.2 in
        let all_made : List X × List ℕ = (a.0.0 ∷ b.0.0, b.0.1) in
        rw ((p s).stays bytes more a.0.0 a.0.1 a.1, stays n (next s a.0.0) a.0.1 more b.0.0 b.0.1 b.1) (ap (λ (y : List X × List ℕ). Ok (y.0, y.1 ++ more)) (ok_is all_made (xs, rest) b.2))

    fails_alike : (n : ℕ) (s : S) (bytes more : List ℕ) (d : Fault) → read_times read next n s bytes ≡ Err d → (d.code ≡ CutShort → ⊥) → read_times read next n s (bytes ++ more) ≡ Err (further (length more) d)
    fails_alike zero s bytes more d e not_end = absurd cc
    fails_alike (suc n) s bytes more d e not_end =
        elim (bind_err (read s bytes) (later n s) d e) [
          | inl bad ↦ rw ((p s).fails_alike bytes more d bad not_end) refl
          | inr a ↦ elim (bind_err (read_times read next n (next s a.0.0) a.0.1) (with_listed a.0.0) d a.2) [
            | inl bad ↦ rw ((p s).stays bytes more a.0.0 a.0.1 a.1, fails_alike n (next s a.0.0) a.0.1 more d bad not_end) refl
            | inr b ↦ absurd (let k = b.2 in cc)
          ]
        ]

pub table_law : {X : Type 0} (n : ℕ) (f : Format X) → IsFormat f → IsFormat (table n f)
table_law n f p = times_law (λ s. f) keep (λ s. p) n tt
