-- What holds of the sections of a source without faults: what the rules on targets, calls, returns and levels require.
use Rattle.std.specs.Prelude.{◌≡◌, ℕ, suc, ◌≤◌, Bool, true, false, ◌||◌, List, [], ◌∷◌, ◌++◌, length, Option, None, Some}
use Rattle.rpg_cards.specs.Statements.{Calculation, Executes, Statement, Ends, GoesTo, tests}
use Rattle.rpg_cards.specs.Keys.{Key, Name}
use Rattle.rpg_symbols.specs.Chains.{Calls, NoCallLeadsBack}
use Rattle.rpg_cards.specs.Sections.{Sections, Subroutine, callee, is_same_name, label_on}

-- what holds of each element, as a chain of pairs
abbrev pub Each : {X : Type 0} → (X → Type 0) → List X → Type 0
Each P [] = Unit {0}
Each P (x ∷ xs) = P x × Each P xs

-- a label that a section has
abbrev pub has_label : Option Name → List (Calculation Key) → Bool
has_label l [] = false
has_label l (g ∷ gs) = is_same_name l (label_on g.statement) || has_label l gs

-- one of the subroutines has that name
abbrev pub defines_subroutine : Option Name → List (Subroutine Key) → Bool
defines_subroutine n [] = false
defines_subroutine n (s ∷ ss) = is_same_name n s.name || defines_subroutine n ss

-- a GOTO's label is among these
abbrev pub HasGoal : List (Calculation Key) → Statement Key → Type 0
HasGoal gs (GoesTo l) = has_label l gs ≡ true
HasGoal gs _ = Unit {0}

-- an EXSR's subroutine exists
abbrev pub IsFound : List (Subroutine Key) → Statement Key → Type 0
IsFound all (Executes n) = defines_subroutine n all ≡ true
IsFound all _ = Unit {0}

-- it isn't an ENDSR
abbrev pub IsNoReturn : Statement Key → Type 0
IsNoReturn (Ends l) = ⊥
IsNoReturn _ = Unit {0}

-- ---- calls of subroutines by subroutines

-- the subroutine that EXSR names
abbrev pub call_in : Statement Key → Option (Option Name)
call_in (Executes n) = Some n
call_in _ = None

-- the calls, with one more if there is one
abbrev pub with_call : List (Subroutine Key) → ℕ → Option (Option Name) → Calls → Calls
with_call all caller None ps = ps
with_call all caller (Some n) ps = (caller, callee n all) ∷ ps

-- the calls of one subroutine's calculations
abbrev pub calls_in : List (Subroutine Key) → ℕ → List (Calculation Key) → Calls
calls_in all caller [] = []
calls_in all caller (g ∷ gs) = with_call all caller (call_in g.statement) (calls_in all caller gs)

-- the calls in subroutines from a number on
abbrev pub calls_from : List (Subroutine Key) → ℕ → List (Subroutine Key) → Calls
calls_from all caller [] = []
calls_from all caller (s ∷ ss) = calls_in all caller s.body ++ calls_from all (suc caller) ss

-- all calls of subroutines by subroutines
abbrev pub calls_of : List (Subroutine Key) → Calls
calls_of all = calls_from all 0 all

-- ---- sections

-- a subroutine's calculations are all its own: jumps stay in it, calls go to a subroutine, and only its last one returns
pub record IsPlainBody (all : List (Subroutine Key)) (s : Subroutine Key) : Type 0 where
  -- F12: BEGSR and ENDSR in pairs, no SR card outside a pair
  pub front : List (Calculation Key)
  pub last : Calculation Key
  pub label : Option Name
  pub split : s.body ≡ front ++ last ∷ []
  pub returns : last.statement ≡ Ends label
  -- columns 7-8 of its first card have SR; F9: ENDSR has no conditions
  pub waits : last.level ≡ None
  pub free : tests last.alternatives ≡ 0
  -- F10, F13: a GOTO's label is in its section
  pub goals : Each (λ g. HasGoal s.body g.statement) front
  -- F10: an EXSR's subroutine exists
  pub found : Each (λ g. IsFound all g.statement) s.body

-- all these subroutines are plain
abbrev pub ArePlainBodies : List (Subroutine Key) → List (Subroutine Key) → Type 0
ArePlainBodies all [] = Unit {0}
ArePlainBodies all (s ∷ ss) = IsPlainBody all s × ArePlainBodies all ss

-- sections that can form a program: jumps stay in their section, calls go to a subroutine and never lead back
pub record ArePlain (s : Sections Key) : Type 0 where
  -- F12: no ENDSR outside SR cards
  pub detail_ends : Each (λ g. IsNoReturn g.statement) s.detail
  pub total_ends : Each (λ g. IsNoReturn g.statement) s.total
  -- F10
  pub detail_found : Each (λ g. IsFound s.subroutines g.statement) s.detail
  pub total_found : Each (λ g. IsFound s.subroutines g.statement) s.total
  pub bodies : ArePlainBodies s.subroutines s.subroutines
  -- F14
  pub forward : NoCallLeadsBack (calls_of s.subroutines)
  -- F6
  pub few : length s.subroutines ≤ 100
