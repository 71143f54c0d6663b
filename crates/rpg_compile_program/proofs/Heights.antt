-- Levels of subroutines: 1 to the number of subroutines, and rising with each call if no call leads back.
use Rattle.std.proofs.Common.{◌≡◌, ℕ, suc, ◌+◌, ◌-◌, ◌≤◌, ◌<◌, Bool, true, false, ◌||◌, List, [], ◌∷◌, ◌++◌, length, Option, None, Some, refl, sym, arith, ◌⊎◌, inl, inr}
use Rattle.std.specs.Prelude.{nat_eq}
use Rattle.std.proofs.lemmas.Bool.{eqb-true}
use Rattle.std.specs.List.{list_any}
use Rattle.std.proofs.lemmas.Map.Steps.{length-le_from_distinct_below}
use Rattle.rpg_compile_program.proofs.Each.{each_map}
use Rattle.rpg_compile_program.proofs.Whole.{callee_there}
use Rattle.rpg_cards.specs.Statements.{Acts, Begins, Calculation, Statement, Ends, Executes, GoesTo, Marks, Nothing, WritesExceptions}
use Rattle.rpg_cards.specs.Keys.{Key, Name}
use Rattle.rpg_cards.specs.Plain.{Each, IsFound, call_in, calls_from, calls_in, calls_of, with_call}
use Rattle.rpg_cards.specs.Sections.{Subroutine, callee}
use Rattle.rpg_compile_program.specs.Levels.{subroutine_level}
use Rattle.rpg_compile_program.proofs.Sound.{CallsUp}
use Rattle.rpg_symbols.proofs.Chains.{callee_above, distinct_chain, level_least, level_most}
use Rattle.rpg_symbols.specs.Chains.{Calls, IsCall, IsChain, NoCallLeadsBack, level_within}

-- ---- if no call leads back

-- callers are among n subroutines
abbrev pub CallersBelow : ℕ → Calls → Type 0
CallersBelow n ps = (a b : ℕ) → IsCall ps a b → a < n

below_chain : (ps : Calls) (n : ℕ) → CallersBelow n ps → (s : ℕ) (chain : List ℕ) → s < n → IsChain ps s chain → (q : ℕ) → list_any (nat_eq q) (s ∷ chain) ≡ true → q < n
below_chain ps n callers s chain low h q e = by_first (nat_eq q s) refl e
  where
    rest : (t : ℕ) (ys : List ℕ) → IsChain ps t ys → list_any (nat_eq q) ys ≡ true → q < n
    rest t [] h e = absurd cc
    rest t (a ∷ ys) h e = by_caller (nat_eq q a) refl e (rest a ys h.1)
      where
        by_caller : (b : Bool) → nat_eq q a ≡ b → (b || list_any (nat_eq q) ys) ≡ true → (list_any (nat_eq q) ys ≡ true → q < n) → q < n
        by_caller true f e r = let same = eqb-true q a f in let l = callers a t h.0 in omega arith
        by_caller false f e r = r e

    by_first : (b : Bool) → nat_eq q s ≡ b → (b || list_any (nat_eq q) chain) ≡ true → q < n
    by_first true f e = let same = eqb-true q s f in omega arith
    by_first false f e = rest s chain h e

-- so chains have fewer calls than there are subroutines
pub chain_short : (ps : Calls) (n : ℕ) → NoCallLeadsBack ps → CallersBelow n ps → (s : ℕ) (chain : List ℕ) → s < n → IsChain ps s chain → length chain < n
chain_short ps n none callers s chain low h =
    let l = length-le_from_distinct_below (s ∷ chain) n (distinct_chain ps none s chain h) (below_chain ps n callers s chain low h) in
    omega arith

pub rises : (ps : Calls) (n : ℕ) → NoCallLeadsBack ps → CallersBelow n ps → (a b : ℕ) → b < n → IsCall ps a b → level_within (n - 1) ps a < level_within (n - 1) ps b
rises ps n none callers a b low h = callee_above ps (n - 1) a b h (λ chain c. let l = chain_short ps n none callers b chain low c in omega arith)

-- ---- the calls of subroutines

pub is_call_append : (a b : ℕ) (ps qs : Calls) → IsCall ps a b ⊎ IsCall qs a b → IsCall (ps ++ qs) a b
is_call_append a b [] qs (inl h) = absurd h
is_call_append a b [] qs (inr h) = h
is_call_append a b (p ∷ ps) qs (inl (inl h)) = inl h
is_call_append a b (p ∷ ps) qs (inl (inr h)) = inr (is_call_append a b ps qs (inl h))
is_call_append a b (p ∷ ps) qs (inr h) = inr (is_call_append a b ps qs (inr h))

pub is_call_either : (a b : ℕ) (ps qs : Calls) → IsCall (ps ++ qs) a b → IsCall ps a b ⊎ IsCall qs a b
is_call_either a b [] qs h = inr h
is_call_either a b (p ∷ ps) qs (inl h) = inl (inl h)
is_call_either a b (p ∷ ps) qs (inr h) = by_rest (is_call_either a b ps qs h)
  where
    by_rest : IsCall ps a b ⊎ IsCall qs a b → IsCall (p ∷ ps) a b ⊎ IsCall qs a b
    by_rest (inl h) = inl (inr h)
    by_rest (inr h) = inr h

module _ (all : List (Subroutine Key)) where
  -- what a step calls is among the calls
  abbrev pub IsAmong : Calls → ℕ → Statement Key → Type 0
  IsAmong ps own (Executes n) = IsCall ps own (callee n all)
  IsAmong ps own _ = Unit {0}

  among_more : (own : ℕ) (ps qs : Calls) (x : Statement Key) → ((a b : ℕ) → IsCall ps a b → IsCall qs a b) → IsAmong ps own x → IsAmong qs own x
  among_more own ps qs (Executes n) f h = f own (callee n all) h
  among_more own ps qs (Acts a) f h = tt
  among_more own ps qs WritesExceptions f h = tt
  among_more own ps qs (GoesTo l) f h = tt
  among_more own ps qs (Marks l) f h = tt
  among_more own ps qs (Begins l) f h = tt
  among_more own ps qs (Ends l) f h = tt
  among_more own ps qs Nothing f h = tt

  step_among : (own : ℕ) (rest : Calls) (x : Statement Key) → IsAmong (with_call all own (call_in x) rest) own x
  step_among own rest (Executes n) = inl (refl, refl)
  step_among own rest (Acts a) = tt
  step_among own rest WritesExceptions = tt
  step_among own rest (GoesTo l) = tt
  step_among own rest (Marks l) = tt
  step_among own rest (Begins l) = tt
  step_among own rest (Ends l) = tt
  step_among own rest Nothing = tt

  with_more : (own : ℕ) (o : Option (Option Name)) (rest : Calls) (a b : ℕ) → IsCall rest a b → IsCall (with_call all own o rest) a b
  with_more own None rest a b h = h
  with_more own (Some n) rest a b h = inr h

  body_among : (own : ℕ) (gs : List (Calculation Key)) → Each (λ g. IsAmong (calls_in all own gs) own g.statement) gs
  body_among own [] = tt
  body_among own (g ∷ gs) = (
    step_among own (calls_in all own gs) g.statement,
    each_map (λ (x : Calculation Key). IsAmong (calls_in all own gs) own x.statement) (λ x. IsAmong (calls_in all own (g ∷ gs)) own x.statement) gs
        (λ x h. among_more own (calls_in all own gs) (calls_in all own (g ∷ gs)) x.statement (with_more own (call_in g.statement) (calls_in all own gs)) h) (body_among own gs),
  )

  callers_in : (own a b : ℕ) (gs : List (Calculation Key)) → IsCall (calls_in all own gs) a b → a ≡ own
  callers_in own a b [] h = absurd h
  callers_in own a b (g ∷ gs) h = by_call (call_in g.statement) h (callers_in own a b gs)
    where
      by_call : (o : Option (Option Name)) → IsCall (with_call all own o (calls_in all own gs)) a b → (IsCall (calls_in all own gs) a b → a ≡ own) → a ≡ own
      by_call None h r = r h
      by_call (Some n) (inl h) r = sym h.0
      by_call (Some n) (inr h) r = r h

  callers_from : (own a b : ℕ) (ss : List (Subroutine Key)) → IsCall (calls_from all own ss) a b → a < own + length ss
  callers_from own a b [] h = absurd h
  callers_from own a b (s ∷ ss) h = by_part (is_call_either a b (calls_in all own s.body) (calls_from all (suc own) ss) h) (callers_from (suc own) a b ss)
    where
      by_part : IsCall (calls_in all own s.body) a b ⊎ IsCall (calls_from all (suc own) ss) a b → (IsCall (calls_from all (suc own) ss) a b → a < suc own + length ss) → a < own + length (s ∷ ss)
      by_part (inl h) r = let e = callers_in own a b s.body h in omega arith
      by_part (inr h) r = let e = r h in omega arith

  pub callers_below : CallersBelow (length all) (calls_of all)
  callers_below a b h = let l = callers_from 0 a b all h in omega arith

  -- F10 and F14: each call leads up
  call_up : NoCallLeadsBack (calls_of all) → (own : ℕ) (x : Statement Key) → IsFound all x → IsAmong (calls_of all) own x → CallsUp all (subroutine_level all) (subroutine_level all own) x
  call_up none own (Executes n) f h = (f, rises (calls_of all) (length all) none callers_below own (callee n all) (callee_there n all f) h)
  call_up none own (Acts a) f h = tt
  call_up none own WritesExceptions f h = tt
  call_up none own (GoesTo l) f h = tt
  call_up none own (Marks l) f h = tt
  call_up none own (Begins l) f h = tt
  call_up none own (Ends l) f h = tt
  call_up none own Nothing f h = tt

  pub body_up : NoCallLeadsBack (calls_of all) → (own : ℕ) (gs : List (Calculation Key)) → ((a b : ℕ) → IsCall (calls_in all own gs) a b → IsCall (calls_of all) a b) → Each (λ g. IsFound all g.statement) gs → Each (λ g. CallsUp all (subroutine_level all) (subroutine_level all own) g.statement) gs
  body_up none own gs more found = both gs found (each_map (λ (g : Calculation Key). IsAmong (calls_in all own gs) own g.statement) (λ g. IsAmong (calls_of all) own g.statement) gs (λ g h. among_more own (calls_in all own gs) (calls_of all) g.statement more h) (body_among own gs))
    where
      both : (hs : List (Calculation Key)) → Each (λ g. IsFound all g.statement) hs → Each (λ g. IsAmong (calls_of all) own g.statement) hs → Each (λ g. CallsUp all (subroutine_level all) (subroutine_level all own) g.statement) hs
      both [] f h = tt
      both (g ∷ gs) f h = (call_up none own g.statement f.0 h.0, both gs f.1 h.1)

  -- outside subroutines every level is above
  pub outside_up : (gs : List (Calculation Key)) → Each (λ g. IsFound all g.statement) gs → Each (λ g. CallsUp all (subroutine_level all) 0 g.statement) gs
  outside_up [] f = tt
  outside_up (g ∷ gs) f = (up g.statement f.0, outside_up gs f.1)
    where
      up : (x : Statement Key) → IsFound all x → CallsUp all (subroutine_level all) 0 x
      up (Executes n) f = (f, level_least (calls_of all) (length all - 1) (callee n all))
      up (Acts a) f = tt
      up WritesExceptions f = tt
      up (GoesTo l) f = tt
      up (Marks l) f = tt
      up (Begins l) f = tt
      up (Ends l) f = tt
      up Nothing f = tt

  -- F6: at most 100 subroutines, so levels from 1 to 100
  pub levels_are : length all ≤ 100 → (n : ℕ) → (1 ≤ subroutine_level all n) × (subroutine_level all n ≤ 100)
  levels_are few n = (level_least (calls_of all) (length all - 1) n, (let m = level_most (calls_of all) (length all - 1) n in omega arith))
