-- Rules that rows of tables break, as a set of pairs, and the first of them: by rule, then by row.
use Rattle.std.specs.Prelude.{◌≡◌, ℕ, ◌+◌, ◌<◌, ◌≤◌, ◌⊎◌, Bool, true, List, [], ◌∷◌, Option, None, Some, slice_get, if◌then◌else◌}

-- the first row that breaks a rule, counted from n
abbrev pub first_true : ℕ → List Bool → Option ℕ
first_true n [] = None
first_true n (b ∷ bs) = if b then Some n else first_true (n + 1) bs

-- For each rule: its number, and for each row of its table whether it breaks the rule.
module _ {R : Type 0} (number : R → ℕ) (broken : R → List Bool) where
  -- the row breaks the rule
  abbrev pub IsBroken : R → ℕ → Type 0
  IsBroken r row = slice_get (broken r) row ≡ Some true

  -- no rule is broken
  abbrev pub IsFaultless : Type 0
  IsFaultless = (r : R) (row : ℕ) → ¬ IsBroken r row

  -- rules are in order, and so are rows within a rule
  abbrev pub NotAfter : R → ℕ → R → ℕ → Type 0
  NotAfter r row q other = (number r < number q) ⊎ ((r ≡ q) × (row ≤ other))

  -- a broken rule with its row, such that no other pair comes before it
  pub record IsLeast (r : R) (row : ℕ) : Type 0 where
    pub is : IsBroken r row
    pub least : (q : R) (other : ℕ) → IsBroken q other → NotAfter r row q other

  -- how it is computed: the first of the rules that a row breaks, with its first row
  abbrev pub or_later : R → Option ℕ → Option (R × ℕ) → Option (R × ℕ)
  or_later r None later = later
  or_later r (Some row) later = Some (r, row)

  -- the first of these rules that is broken, with its first row
  abbrev pub first_broken : List R → Option (R × ℕ)
  first_broken [] = None
  first_broken (r ∷ rs) = or_later r (first_true 0 (broken r)) (first_broken rs)
