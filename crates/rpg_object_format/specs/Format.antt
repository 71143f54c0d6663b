-- Byte formats, built from numbers of one byte and of two in big-endian order.
use Rattle.std.specs.Prelude.{◌≡◌, ℕ, zero, suc, ◌+◌, ◌*◌, ◌/◌, ◌%◌, ◌^◌, ◌<◌, List, [], ◌∷◌, ◌++◌, length, Result, Ok, Err}
use Rattle.rpg_object_format.specs.declared.fault.Code.{Code}
use Rattle.rpg_object_format.specs.declared.fault.Code.TheVariants.{CutShort}
use Rattle.rpg_object_format.specs.declared.fault.Fault.{Fault}

-- how a value is encoded, which values are allowed, and what is read at the start of bytes, with the rest of them
pub record Format (X : Type 0) : Type 1 where
  pub spelling : X → List ℕ
  pub Holds : X → Type 0
  pub reading : List ℕ → Result (X × List ℕ) Fault

-- ---- steps that may fail

infixl 10 ◌>>=◌
-- one after the other; the first fault ends it
abbrev pub ◌>>=◌ : {A B : Type 0} → Result A Fault → (A → Result B Fault) → Result B Fault
(Ok x) >>= f = f x
(Err e) >>= f = Err e

-- a fault of the number at the start of these bytes
abbrev pub fault_at : List ℕ → Code → Fault
fault_at bytes c = record { left = length bytes; code = c }

-- the bytes end inside a number
abbrev pub ends_early : Fault
ends_early = record { left = 0; code = CutShort }

-- ---- numbers. A rule maps a number to its value, or to its fault; a code maps it back.

-- the value that was read, or the fault of the number at the start of these bytes
abbrev pub ruled : {X : Type 0} → List ℕ → List ℕ → Result X Code → Result (X × List ℕ) Fault
ruled bytes rest (Ok x) = Ok (x, rest)
ruled bytes rest (Err c) = Err (fault_at bytes c)

-- a byte, by a rule
unfoldable pub read_byte : {X : Type 0} → (ℕ → Result X Code) → List ℕ → Result (X × List ℕ) Fault
read_byte rule [] = Err ends_early
read_byte rule (b ∷ rest) = ruled (b ∷ rest) rest (rule b)

-- two bytes, the high one first, by a rule
unfoldable pub read_two : {X : Type 0} → (ℕ → Result X Code) → List ℕ → Result (X × List ℕ) Fault
read_two rule [] = Err ends_early
read_two rule (a ∷ []) = Err ends_early
read_two rule (a ∷ b ∷ rest) = ruled (a ∷ b ∷ rest) rest (rule (256 * a + b))

-- a number of one byte
unfoldable pub byte : {X : Type 0} → (ℕ → Result X Code) → (X → ℕ) → Format X
byte rule code = record {
  spelling = λ x. code x ∷ [];
  Holds = λ x. (rule (code x) ≡ Ok x) × (code x < 2 ^ 8);
  reading = read_byte rule;
}

-- a number of two bytes
unfoldable pub two_bytes : {X : Type 0} → (ℕ → Result X Code) → (X → ℕ) → Format X
two_bytes rule code = record {
  spelling = λ x. code x / 256 ∷ code x % 256 ∷ [];
  Holds = λ x. (rule (code x) ≡ Ok x) × (code x < 2 ^ 16);
  reading = read_two rule;
}

-- ---- one after another

-- one more part, and the remaining bytes
abbrev pub joined : {A B : Type 0} → A → B × List ℕ → Result ((A × B) × List ℕ) Fault
joined a b = Ok ((a, b.0), b.1)

-- the value of the parts, and the remaining bytes
abbrev pub made : {A X : Type 0} → (A → X) → A × List ℕ → Result (X × List ℕ) Fault
made make a = Ok (make a.0, a.1)

-- a value, followed by another whose format may depend on the first
unfoldable pub pair : {A B : Type 0} → Format A → (A → Format B) → Format (A × B)
pair f g = record {
  spelling = λ p. f.spelling p.0 ++ (g p.0).spelling p.1;
  Holds = λ p. f.Holds p.0 × (g p.0).Holds p.1;
  reading = λ bytes. f.reading bytes >>= λ a. (g a.0).reading a.1 >>= joined a.0;
}

-- the same, as the parts of a row
unfoldable pub row : {A X : Type 0} → (A → X) → (X → A) → Format A → Format X
row make parts f = record {
  spelling = λ x. f.spelling (parts x);
  Holds = λ x. f.Holds (parts x);
  reading = λ bytes. f.reading bytes >>= made make;
}

-- ---- rows, in sequence

-- one more row in front, and the remaining bytes
abbrev pub with_listed : {X : Type 0} → X → List X × List ℕ → Result (List X × List ℕ) Fault
with_listed x xs = Ok (x ∷ xs.0, xs.1)

-- this many rows, each depending on what the earlier ones left
unfoldable pub read_times : {S X : Type 0} → (S → List ℕ → Result (X × List ℕ) Fault) → (S → X → S) → ℕ → S → List ℕ → Result (List X × List ℕ) Fault
read_times read next zero s bytes = Ok ([], bytes)
read_times read next (suc n) s bytes = read s bytes >>= λ x. read_times read next n (next s x.0) x.1 >>= with_listed x.0

-- each row satisfies this, given what the earlier ones left
abbrev pub AllAlong : {S X : Type 0} → (S → X → Type 0) → (S → X → S) → S → List X → Type 0
AllAlong P next s [] = Unit {0}
AllAlong P next s (x ∷ xs) = P s x × AllAlong P next (next s x) xs

-- the encodings of the rows, each given what the earlier ones left
abbrev pub spelled_along : {S X : Type 0} → (S → X → List ℕ) → (S → X → S) → S → List X → List ℕ
spelled_along spell next s [] = []
spelled_along spell next s (x ∷ xs) = spell s x ++ spelled_along spell next (next s x) xs

-- n rows, where the allowed rows depend on what the earlier ones left
unfoldable pub times_with : {S X : Type 0} → (S → Format X) → (S → X → S) → ℕ → S → Format (List X)
times_with f next n s = record {
  spelling = spelled_along (λ t x. (f t).spelling x) next s;
  Holds = λ xs. (length xs ≡ n) × AllAlong (λ t x. (f t).Holds x) next s xs;
  reading = read_times (λ t bytes. (f t).reading bytes) next n s;
}

-- a row leaves no bytes
abbrev pub keep : {X : Type 0} → Unit {0} → X → Unit {0}
keep s x = s

-- n rows of one format
abbrev pub table : {X : Type 0} → ℕ → Format X → Format (List X)
table n f = times_with (λ s. f) keep n tt
