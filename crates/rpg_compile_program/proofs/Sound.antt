-- What a source without a fault says about its sections: what the rules on targets, calls and returns need.
use Rattle.std.specs.Prelude.{◌≡◌, ℕ, suc, ◌+◌, ◌<◌, true, List, [], ◌∷◌, ◌++◌, Option, None}
use Rattle.rpg_cards.specs.Statements.{Calculation, Statement, Ends, Executes, tests}
use Rattle.rpg_cards.specs.Keys.{Key, Name}
use Rattle.rpg_cards.specs.Sections.{Sections, Subroutine, callee}
use Rattle.rpg_cards.specs.Plain.{Each, HasGoal, IsNoReturn, defines_subroutine}

-- an EXSR's subroutine is there, and of a higher level than the one that the EXSR is in
abbrev pub CallsUp : List (Subroutine Key) → (ℕ → ℕ) → ℕ → Statement Key → Type 0
CallsUp all level low (Executes n) = (defines_subroutine n all ≡ true) × (low < level (callee n all))
CallsUp all level low _ = Unit {0}

-- a subroutine's groups end with its ENDSR, which is always done
pub record IsSoundBody (all : List (Subroutine Key)) (level : ℕ → ℕ) (own : ℕ) (s : Subroutine Key) : Type 0 where
  pub front : List (Calculation Key)
  pub last : Calculation Key
  pub label : Option Name
  pub split : s.body ≡ front ++ last ∷ []
  pub returns : last.statement ≡ Ends label
  pub waits : last.level ≡ None
  pub free : tests last.alternatives ≡ 0
  pub goals : Each (λ g. HasGoal s.body g.statement) front
  pub calls : Each (λ g. CallsUp all level (level own) g.statement) s.body

-- each of these, numbered from a number on
abbrev pub AreSoundBodies : List (Subroutine Key) → (ℕ → ℕ) → ℕ → List (Subroutine Key) → Type 0
AreSoundBodies all level own [] = Unit {0}
AreSoundBodies all level own (s ∷ ss) = IsSoundBody all level own s × AreSoundBodies all level (suc own) ss

-- only subroutines have ENDSR, calls go to higher levels, and each subroutine's body is sound
pub record AreSound (s : Sections Key) (level : ℕ → ℕ) : Type 0 where
  pub detail_ends : Each (λ g. IsNoReturn g.statement) s.detail
  pub total_ends : Each (λ g. IsNoReturn g.statement) s.total
  pub detail_calls : Each (λ g. CallsUp s.subroutines level 0 g.statement) s.detail
  pub total_calls : Each (λ g. CallsUp s.subroutines level 0 g.statement) s.total
  pub bodies : AreSoundBodies s.subroutines level 0 s.subroutines
