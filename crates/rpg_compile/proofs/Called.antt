-- The calls that are found by the numbers of names are those of the subroutines.
use Rattle.std.proofs.Common.{◌≡◌, ℕ, suc, ◌+◌, ◌≤◌, ◌<◌, true, cond, List, [], ◌∷◌, ◌++◌, length, Option, None, Some, refl, ap, ◌∙◌, arith, length-append, ◌⊎◌, inl, inr}
use Rattle.std.specs.Option.{option_map}
use Rattle.rpg_cards.specs.Statements.{Acts, Begins, Calculation, Statement, Ends, Executes, GoesTo, Marks, Nothing, WritesExceptions, has_instruction}
use Rattle.rpg_cards.specs.Keys.{Key, Name}
use Rattle.rpg_cards.specs.Plain.{ArePlainBodies, Each, IsFound, call_in, calls_of, with_call}
use Rattle.rpg_cards.specs.Plain as plain
use Rattle.rpg_cards.specs.Sections.{Subroutine, callee}
use Rattle.rpg_compile_program.proofs.Heights.{is_call_either}
use Rattle.rpg_compile_program.proofs.Whole.{callee_there}
use Rattle.rpg_compile_program.specs.Code.{size, sizes, waits}
use Rattle.rpg_cards.specs.Statements.{tests}
use Rattle.rpg_compile.specs.Called.{callee_in, numbered_calls_from, numbered_calls_in, with_callee}
use Rattle.rpg_compile.specs.Numbers.{body_sizes}
use Rattle.rpg_symbols.specs.Chains.{Calls, IsCall}

-- ---- the same calls

module _ (all : List (Subroutine Key)) (number : Option Name → ℕ) (is : (n : Option Name) → number n ≡ callee n all) where
  same_in : (caller : ℕ) (gs : List (Calculation Key)) → numbered_calls_in number caller gs ≡ plain.calls_in all caller gs
  same_in caller [] = refl
  same_in caller (g ∷ gs) = by_call (call_in g.statement) (same_in caller gs)
    where
      by_call : (o : Option (Option Name)) → numbered_calls_in number caller gs ≡ plain.calls_in all caller gs → with_callee caller (option_map number o) (numbered_calls_in number caller gs) ≡ with_call all caller o (plain.calls_in all caller gs)
      by_call None rest = rest
      by_call (Some n) rest = ap (λ k. (caller, k) ∷ numbered_calls_in number caller gs) (is n) ∙ ap (λ ps. (caller, callee n all) ∷ ps) rest

  same_from : (caller : ℕ) (ss : List (Subroutine Key)) → numbered_calls_from number caller ss ≡ plain.calls_from all caller ss
  same_from caller [] = refl
  same_from caller (s ∷ ss) = ap (λ ps. ps ++ numbered_calls_from number (suc caller) ss) (same_in caller s.body) ∙ ap (λ ps. plain.calls_in all caller s.body ++ ps) (same_from (suc caller) ss)

  pub same_calls : numbered_calls_from number 0 all ≡ calls_of all
  same_calls = same_from 0 all

-- ---- callees are there

module _ (all : List (Subroutine Key)) where
  callees_in : (own a b : ℕ) (gs : List (Calculation Key)) → Each (λ g. IsFound all g.statement) gs → IsCall (plain.calls_in all own gs) a b → b < length all
  callees_in own a b [] found h = absurd h
  callees_in own a b (g ∷ gs) found h = by_statement g.statement found.0 h (callees_in own a b gs found.1)
    where
      by_statement : (d : Statement Key) → IsFound all d → IsCall (with_call all own (call_in d) (plain.calls_in all own gs)) a b → (IsCall (plain.calls_in all own gs) a b → b < length all) → b < length all
      by_statement (Executes n) f (inl h) rest = let there = callee_there n all f in let same = h.1 in omega arith
      by_statement (Executes n) f (inr h) rest = rest h
      by_statement (Acts x) f h rest = rest h
      by_statement WritesExceptions f h rest = rest h
      by_statement (GoesTo l) f h rest = rest h
      by_statement (Marks l) f h rest = rest h
      by_statement (Begins l) f h rest = rest h
      by_statement (Ends l) f h rest = rest h
      by_statement Nothing f h rest = rest h

  callees_from : (own a b : ℕ) (ss : List (Subroutine Key)) → ArePlainBodies all ss → IsCall (plain.calls_from all own ss) a b → b < length all
  callees_from own a b [] bodies h = absurd h
  callees_from own a b (s ∷ ss) bodies h = by_part (is_call_either a b (plain.calls_in all own s.body) (plain.calls_from all (suc own) ss) h) (callees_from (suc own) a b ss bodies.1)
    where
      by_part : IsCall (plain.calls_in all own s.body) a b ⊎ IsCall (plain.calls_from all (suc own) ss) a b → (IsCall (plain.calls_from all (suc own) ss) a b → b < length all) → b < length all
      by_part (inl h) rest = callees_in own a b s.body bodies.0.found h
      by_part (inr h) rest = rest h

  pub callees_below : ArePlainBodies all all → (a b : ℕ) → IsCall (calls_of all) a b → b < length all
  callees_below bodies a b h = callees_from 0 a b all bodies h

-- ---- each call is an instruction

one_size : (g : Calculation Key) → has_instruction g.statement ≡ true → 1 ≤ size g
unfolding size
one_size g has =
    let one : size g ≡ waits g.level + tests g.alternatives + 1 = ap (λ b. cond b (waits g.level + tests g.alternatives + 1) 0) has in
    omega (arith, one)

module _ (number : Option Name → ℕ) (caller : ℕ) where
  one_more : (g : Calculation Key) (ps : Calls) (d : Statement Key) → g.statement ≡ d → length (with_callee caller (callee_in number d) ps) ≤ size g + length ps
  one_more g ps (Executes n) is = let one = one_size g (ap has_instruction is) in omega (arith, one)
  one_more g ps (Acts x) is = omega arith
  one_more g ps WritesExceptions is = omega arith
  one_more g ps (GoesTo l) is = omega arith
  one_more g ps (Marks l) is = omega arith
  one_more g ps (Begins l) is = omega arith
  one_more g ps (Ends l) is = omega arith
  one_more g ps Nothing is = omega arith

  one_each : (gs : List (Calculation Key)) → length (numbered_calls_in number caller gs) ≤ sizes gs
  one_each [] = omega arith
  one_each (g ∷ gs) = let here = one_more g (numbered_calls_in number caller gs) g.statement refl in let rest = one_each gs in omega (arith, here, rest)

pub few_calls : (number : Option Name → ℕ) (caller : ℕ) (ss : List (Subroutine Key)) → length (numbered_calls_from number caller ss) ≤ body_sizes ss
few_calls number caller [] = omega arith
few_calls number caller (s ∷ ss) =
    let here = one_each number caller s.body in
    let rest = few_calls number (suc caller) ss in
    let both = length-append (numbered_calls_in number caller s.body) (numbered_calls_from number (suc caller) ss) in
    omega arith
