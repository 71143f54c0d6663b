-- Calls of subroutines by subroutines, and chains of them. What a subroutine reaches, which calls lead back and which level a subroutine
-- has are all stated in terms of chains. Subroutines are numbers.
use Rattle.std.specs.Prelude.{◌≡◌, ◌↔◌, ◌==◌, ◌⊎◌, ℕ, zero, suc, ◌+◌, ◌≤◌, List, [], ◌∷◌, length, map, max, Bool, true}
use Rattle.std.specs.List.{filter, flat_map, list_any}

-- caller and callee
abbrev pub Call : Type 0
Call = ℕ × ℕ

-- calls of subroutines by subroutines
abbrev pub Calls : Type 0
Calls = List Call

-- a calls b
abbrev pub IsCall : Calls → ℕ → ℕ → Type 0
IsCall [] a b = ⊥
IsCall (p ∷ ps) a b = ((p.0 ≡ a) × (p.1 ≡ b)) ⊎ IsCall ps a b

-- a chain of calls that ends in s: a caller of s, a caller of that caller, and so on
abbrev pub IsChain : Calls → ℕ → List ℕ → Type 0
IsChain calls s [] = Unit {0}
IsChain calls s (c ∷ cs) = IsCall calls c s × IsChain calls c cs

-- where a chain begins
abbrev pub chain_start : ℕ → List ℕ → ℕ
chain_start s [] = s
chain_start s (c ∷ cs) = chain_start c cs

-- a chain of calls leads from a to s; a subroutine reaches itself without a call
pub record Reaches (calls : Calls) (a s : ℕ) : Type 0 where
  pub callers : List ℕ
  pub chain : IsChain calls s callers
  pub first : chain_start s callers ≡ a

-- no call leads back: no callee reaches its caller
abbrev pub NoCallLeadsBack : Calls → Type 0
NoCallLeadsBack calls = (a b : ℕ) → IsCall calls a b → ¬ Reaches calls b a

-- a chain through n subroutines ends in s; s is one of them, and one that is met twice counts twice
pub record HasChain (calls : Calls) (s n : ℕ) : Type 0 where
  pub callers : List ℕ
  pub chain : IsChain calls s callers
  pub count : length callers + 1 ≡ n

-- a longest chain that ends in s goes through n subroutines
pub record IsCallLevel (calls : Calls) (s n : ℕ) : Type 0 where
  pub chain : HasChain calls s n
  pub longest : (callers : List ℕ) → IsChain calls s callers → length callers + 1 ≤ n

-- ---- the chains of at most a number of calls, as a list

-- the callers of s, once for each of their calls
abbrev pub callers_of : Calls → ℕ → List ℕ
callers_of calls s = map (λ p. p.0) (filter (λ p. p.1 == s) calls)

-- the chains of at most n calls that end in s
abbrev pub chains : ℕ → Calls → ℕ → List (List ℕ)
chains zero calls s = [] ∷ []
chains (suc n) calls s = [] ∷ flat_map (λ c. map (λ cs. c ∷ cs) (chains n calls c)) (callers_of calls s)

-- one of them begins in a
abbrev pub reaches_within : ℕ → Calls → ℕ → ℕ → Bool
reaches_within n calls a s = list_any (λ cs. a == chain_start s cs) (chains n calls s)

-- a chain of calls leads from a to s; a shortest one has each call at most once, so as many calls as there are suffice
abbrev pub reaches : Calls → ℕ → ℕ → Bool
reaches calls a s = reaches_within (length calls) calls a s

-- the number of calls in a longest of these chains
abbrev pub most_calls : List (List ℕ) → ℕ
most_calls [] = 0
most_calls (cs ∷ css) = max (length cs) (most_calls css)

-- a longest chain of at most n calls that ends in s goes through this many subroutines
abbrev pub level_within : ℕ → Calls → ℕ → ℕ
level_within n calls s = suc (most_calls (chains n calls s))

-- ---- what `reaches` and `level_within` say of chains

-- a longest chain of at most this many calls that ends in s goes through n subroutines
pub record IsLongestWithin (most : ℕ) (calls : Calls) (s n : ℕ) : Type 0 where
  pub chain : HasChain calls s n
  pub few : n ≤ most + 1
  pub longest : (callers : List ℕ) → IsChain calls s callers → length callers ≤ most → length callers + 1 ≤ n

-- of any calls: `reaches` is about chains of any length, a level about those of at most a number of calls
pub record AreOfChains (calls : Calls) : Type 0 where
  pub reached : (a s : ℕ) → (reaches calls a s ≡ true) ↔ Reaches calls a s
  pub level : (most s : ℕ) → IsLongestWithin most calls s (level_within most calls s)
