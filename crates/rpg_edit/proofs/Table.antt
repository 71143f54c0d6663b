-- The table of groups holds a comma and the digits of each number.
use Rattle.std.proofs.Common.{◌≡◌, ℕ, zero, suc, ◌+◌, ◌*◌, ◌/◌, ◌%◌, ◌<◌, Bool, true, false, ◌&&◌, T, eqb, get_or, List, [], ◌∷◌, arith, eqb→eq}
use lib.Ieee.Fits.{and_l, and_r}
use Rattle.rpg_edit.specs.declared.groups.TheConstants.{GROUPS}

-- a comma and the digits of n
abbrev is_group : ℕ → ℕ → ℕ → ℕ → ℕ → Bool
is_group n a b c d = (eqb a 44 && eqb b (48 + n / 10 / 10 % 10)) && (eqb c (48 + n / 10 % 10) && eqb d (48 + n % 10))

-- those of `left` numbers from n on
abbrev are_groups : ℕ → ℕ → List ℕ → Bool
are_groups zero n text = true
are_groups (suc left) n [] = false
are_groups (suc left) n (a ∷ []) = false
are_groups (suc left) n (a ∷ b ∷ []) = false
are_groups (suc left) n (a ∷ b ∷ c ∷ []) = false
are_groups (suc left) n (a ∷ b ∷ c ∷ d ∷ rest) = is_group n a b c d && are_groups left (suc n) rest

pub record HasGroup (n place : ℕ) (text : List ℕ) : Type 0 where
  pub comma : get_or text place 0 ≡ 44
  pub hundreds : get_or text (place + 1) 0 ≡ 48 + n / 10 / 10 % 10
  pub tens : get_or text (place + 2) 0 ≡ 48 + n / 10 % 10
  pub ones : get_or text (place + 3) 0 ≡ 48 + n % 10

first : (n a b c d : ℕ) (rest : List ℕ) → T (is_group n a b c d) → HasGroup n 0 (a ∷ b ∷ c ∷ d ∷ rest)
first n a b c d rest t =
    let front = and_l _ _ t in
    let back = and_r (eqb a 44 && eqb b (48 + n / 10 / 10 % 10)) _ t in
    record {
      comma = eqb→eq _ _ (and_l _ _ front);
      hundreds = eqb→eq _ _ (and_r (eqb a 44) _ front);
      tens = eqb→eq _ _ (and_l _ _ back);
      ones = eqb→eq _ _ (and_r (eqb c (48 + n / 10 % 10)) _ back);
    }

later : (n k a b c d : ℕ) (rest : List ℕ) → HasGroup n (k * 4) rest → HasGroup n (suc k * 4) (a ∷ b ∷ c ∷ d ∷ rest)
later n k a b c d rest h =
    let zeroth : suc k * 4 ≡ suc (suc (suc (suc (k * 4)))) = omega arith in
    let next : suc k * 4 + 1 ≡ suc (suc (suc (suc (k * 4 + 1)))) = omega arith in
    let second : suc k * 4 + 2 ≡ suc (suc (suc (suc (k * 4 + 2)))) = omega arith in
    let third : suc k * 4 + 3 ≡ suc (suc (suc (suc (k * 4 + 3)))) = omega arith in
    record {
      comma = rw zeroth h.comma;
      hundreds = rw next h.hundreds;
      tens = rw second h.tens;
      ones = rw third h.ones;
    }

below : (left n k : ℕ) (text : List ℕ) → T (are_groups left n text) → k < left → HasGroup (n + k) (k * 4) text
below zero n k text t h = absurd (omega (arith, h))
below (suc left) n k [] t h = absurd t
below (suc left) n k (a ∷ []) t h = absurd t
below (suc left) n k (a ∷ b ∷ []) t h = absurd t
below (suc left) n k (a ∷ b ∷ c ∷ []) t h = absurd t
below (suc left) n zero (a ∷ b ∷ c ∷ d ∷ rest) t h =
    let same : n + 0 ≡ n = omega arith in
    rw same (first n a b c d rest (and_l _ _ t))
below (suc left) n (suc k) (a ∷ b ∷ c ∷ d ∷ rest) t h =
    let same : n + suc k ≡ suc n + k = omega arith in
    rw same (later (suc n + k) k a b c d rest (below left (suc n) k rest (and_r (is_group n a b c d) _ t) (omega (arith, h))))

pub groups_at : (n : ℕ) → n < 1000 → HasGroup n (n * 4) GROUPS
groups_at n h = let same : 0 + n ≡ n = omega arith in rw same at (below 1000 0 n GROUPS tt h)
