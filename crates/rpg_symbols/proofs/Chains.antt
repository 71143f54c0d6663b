-- Chains of calls: where they lead, and the list of those with few calls.
use Rattle.std.proofs.Common.{◌≡◌, ℕ, zero, suc, ◌+◌, ◌<◌, ◌≤◌, Bool, true, false, cond, ◌&&◌, ◌||◌, List, [], ◌∷◌, ◌++◌, length, map, max, length-append, refl, sym, ap, ◌∙◌, subst, arith, inl, inr}
use Rattle.std.specs.Prelude.{◌==◌, nat_eq, nat_le, nat_lt}
use Rattle.std.specs.List.{AllByRecursion, IsDistinct, filter, flat_map, list_any}
use Rattle.std.proofs.lemmas.Bool.{and_from, and_parts, eq-eqb, eqb-true, le-leb, leb-true, ltb-false, ltb-true, or_left, or_parts, or_right}
use Rattle.std.proofs.lemmas.Cmp.{nat_eq_equiv}
use Rattle.std.proofs.lemmas.List.{length-map}
use Rattle.std.proofs.lemmas.List.Folds.{list_any-append}
use Rattle.std.proofs.lemmas.Map.Made.{length-le_from_is_member}
use Rattle.std.specs.Cmp.{both_ways}
use Rattle.rpg_symbols.specs.Chains.{AreOfChains, IsLongestWithin, Call, Calls, IsCall, IsCallLevel, IsChain, NoCallLeadsBack, Reaches, callers_of, chain_start, chains, level_within, most_calls, reaches, reaches_within}
use Rattle.rpg_symbols.specs.Levels.{call_numbered}

-- ---- a call by its number

pub call_here : (ps : Calls) (k : ℕ) → k < length ps → IsCall ps (call_numbered ps k).0 (call_numbered ps k).1
call_here [] k h = absurd (omega arith)
call_here (p ∷ ps) zero h = inl (refl, refl)
call_here (p ∷ ps) (suc k) h = inr (call_here ps k (omega arith))

pub record CallPlace (ps : Calls) (a b : ℕ) : Type 0 where
  pub place : ℕ
  pub within : place < length ps
  pub caller : (call_numbered ps place).0 ≡ a
  pub callee : (call_numbered ps place).1 ≡ b

pub place_of : (ps : Calls) (a b : ℕ) → IsCall ps a b → CallPlace ps a b
place_of [] a b h = absurd h
place_of (p ∷ ps) a b (inl h) = record { place = 0; within = omega arith; caller = h.0; callee = h.1 }
place_of (p ∷ ps) a b (inr h) =
    let r = place_of ps a b h in
    let inside = r.within in
    record { place = suc r.place; within = omega arith; caller = r.caller; callee = r.callee }

-- ---- where a chain leads

pub leads_itself : (ps : Calls) (a s : ℕ) → a ≡ s → Reaches ps a s
leads_itself ps a s same = record { callers = []; chain = tt; first = sym same }

-- one call after a chain
pub call_after : (ps : Calls) (a b c : ℕ) → Reaches ps a b → IsCall ps b c → Reaches ps a c
call_after ps a b c r call = record { callers = b ∷ r.callers; chain = (call, r.chain); first = r.first }

-- a chain with one more call before it
with_start : (ps : Calls) (a b s : ℕ) (callers : List ℕ) → IsCall ps a b → IsChain ps s callers → chain_start s callers ≡ b → IsChain ps s (callers ++ a ∷ [])
with_start ps a b s [] h c e = (subst (λ x. IsCall ps a x) (sym e) h, tt)
with_start ps a b s (x ∷ callers) h c e = (c.0, with_start ps a b x callers h c.1 e)

start_is : (a s : ℕ) (callers : List ℕ) → chain_start s (callers ++ a ∷ []) ≡ a
start_is a s [] = refl
start_is a s (x ∷ callers) = start_is a x callers

-- a chain without its first call
pub record AfterStart (ps : Calls) (a s n : ℕ) : Type 0 where
  pub callee : ℕ
  pub call : IsCall ps a callee
  pub callers : List ℕ
  pub chain : IsChain ps s callers
  pub first : chain_start s callers ≡ callee
  pub count : length callers ≡ n

after_start : (ps : Calls) (s x : ℕ) (rest : List ℕ) → IsChain ps s (x ∷ rest) → AfterStart ps (chain_start s (x ∷ rest)) s (length rest)
after_start ps s x [] c = record { callee = s; call = c.0; callers = []; chain = tt; first = refl; count = refl }
after_start ps s x (y ∷ rest) c =
    let r = after_start ps x y rest c.1 in
    record { callee = r.callee; call = r.call; callers = x ∷ r.callers; chain = (c.0, r.chain); first = r.first; count = ap suc r.count }

-- a subroutine on a chain reaches the one in which it ends
pub met_leads : (ps : Calls) (s x : ℕ) (callers : List ℕ) → IsChain ps x callers → list_any (nat_eq s) (x ∷ callers) ≡ true → Reaches ps s x
met_leads ps s x [] c m = by_here (nat_eq s x) refl m
  where
    by_here : (b : Bool) → nat_eq s x ≡ b → (b || false) ≡ true → Reaches ps s x
    by_here true f m = leads_itself ps s x (eqb-true s x f)
    by_here false f m = absurd cc
met_leads ps s x (y ∷ callers) c m = by_here (nat_eq s x) refl m (met_leads ps s y callers c.1)
  where
    by_here : (b : Bool) → nat_eq s x ≡ b → (b || list_any (nat_eq s) (y ∷ callers)) ≡ true → (list_any (nat_eq s) (y ∷ callers) ≡ true → Reaches ps s y) → Reaches ps s x
    by_here true f m r = leads_itself ps s x (eqb-true s x f)
    by_here false f m r = call_after ps s y x (r m) c.0

-- ---- a chain without a subroutine twice

none_equal : (s : ℕ) (xs : List ℕ) → list_any (nat_eq s) xs ≡ false → AllByRecursion (λ y. nat_eq s y ≡ false) xs
none_equal s [] e = tt
none_equal s (x ∷ xs) e = let h = or_parts (nat_eq s x) (list_any (nat_eq s) xs) e in (h.0, none_equal s xs h.1)

pub record Short (ps : Calls) (a s : ℕ) : Type 0 where
  pub callers : List ℕ
  pub chain : IsChain ps s callers
  pub first : chain_start s callers ≡ a
  pub distinct : IsDistinct nat_eq (s ∷ callers)

-- from where s is met in it on
cut_at : (ps : Calls) (a s t : ℕ) (callers : List ℕ) → IsChain ps t callers → chain_start t callers ≡ a → IsDistinct nat_eq (t ∷ callers) → list_any (nat_eq s) (t ∷ callers) ≡ true → Short ps a s
unfolding IsDistinct
cut_at ps a s t [] c e d m = by_here (nat_eq s t) refl m
  where
    by_here : (b : Bool) → nat_eq s t ≡ b → (b || false) ≡ true → Short ps a s
    by_here true f m = let same = eqb-true s t f in record { callers = []; chain = tt; first = same ∙ e; distinct = (tt, tt) }
    by_here false f m = absurd cc
cut_at ps a s t (x ∷ callers) c e d m = by_here (nat_eq s t) refl m (cut_at ps a s x callers c.1 e d.1)
  where
    by_here : (b : Bool) → nat_eq s t ≡ b → (b || list_any (nat_eq s) (x ∷ callers)) ≡ true → (list_any (nat_eq s) (x ∷ callers) ≡ true → Short ps a s) → Short ps a s
    by_here true f m r =
        let same = eqb-true s t f in
        record { callers = x ∷ callers; chain = subst (λ y. IsChain ps y (x ∷ callers)) (sym same) c; first = e; distinct = subst (λ y. IsDistinct nat_eq (y ∷ x ∷ callers)) (sym same) d }
    by_here false f m r = r m

shorten : (ps : Calls) (a s : ℕ) (callers : List ℕ) → IsChain ps s callers → chain_start s callers ≡ a → Short ps a s
unfolding IsDistinct
shorten ps a s [] c e = record { callers = []; chain = tt; first = e; distinct = (tt, tt) }
shorten ps a s (x ∷ callers) c e = by_rest (shorten ps a x callers c.1 e)
  where
    by_rest : Short ps a x → Short ps a s
    by_rest r = by_met (list_any (nat_eq s) (x ∷ r.callers)) refl
      where
        by_met : (b : Bool) → list_any (nat_eq s) (x ∷ r.callers) ≡ b → Short ps a s
        by_met true m = cut_at ps a s x r.callers r.chain r.first r.distinct m
        by_met false n = record { callers = x ∷ r.callers; chain = (c.0, r.chain); first = r.first; distinct = (none_equal s (x ∷ r.callers) n, r.distinct) }

-- it has no more calls than there are

all_callers : Calls → List ℕ
all_callers ps = map (λ (p : Call). p.0) ps

caller_among : (a b q : ℕ) (ps : Calls) → IsCall ps a b → nat_eq q a ≡ true → list_any (nat_eq q) (all_callers ps) ≡ true
unfolding all_callers
caller_among a b q [] h e = absurd h
caller_among a b q (p ∷ ps) (inl h) e = or_left (nat_eq q p.0) (list_any (nat_eq q) (map (λ (p : Call). p.0) ps)) (ap (nat_eq q) h.0 ∙ e)
caller_among a b q (p ∷ ps) (inr h) e = or_right (nat_eq q p.0) (list_any (nat_eq q) (map (λ (p : Call). p.0) ps)) (caller_among a b q ps h e)

chain_callers : (ps : Calls) (t q : ℕ) (ys : List ℕ) → IsChain ps t ys → list_any (nat_eq q) ys ≡ true → list_any (nat_eq q) (all_callers ps) ≡ true
chain_callers ps t q [] h e = absurd cc
chain_callers ps t q (a ∷ ys) h e = by_first (nat_eq q a) refl e (chain_callers ps a q ys h.1)
  where
    by_first : (b : Bool) → nat_eq q a ≡ b → (b || list_any (nat_eq q) ys) ≡ true → (list_any (nat_eq q) ys ≡ true → list_any (nat_eq q) (all_callers ps) ≡ true) → list_any (nat_eq q) (all_callers ps) ≡ true
    by_first true f e r = caller_among a t q ps h.0 f
    by_first false f e r = r e

few_calls : (ps : Calls) (s : ℕ) (callers : List ℕ) → IsChain ps s callers → IsDistinct nat_eq (s ∷ callers) → length callers ≤ length ps
unfolding all_callers IsDistinct
few_calls ps s callers c d =
    let most = length-le_from_is_member nat_eq_equiv callers (all_callers ps) d.1 (λ q m. chain_callers ps s q callers c m) in
    let same = length-map ps (λ (p : Call). p.0) in
    omega arith

-- ---- where no call leads back

pub distinct_chain : (ps : Calls) → NoCallLeadsBack ps → (s : ℕ) (chain : List ℕ) → IsChain ps s chain → IsDistinct nat_eq (s ∷ chain)
unfolding IsDistinct
distinct_chain ps none s [] h = (tt, tt)
distinct_chain ps none s (a ∷ chain) h = (none_equal s (a ∷ chain) (by_met (list_any (nat_eq s) (a ∷ chain)) refl), distinct_chain ps none a chain h.1)
  where
    by_met : (b : Bool) → list_any (nat_eq s) (a ∷ chain) ≡ b → list_any (nat_eq s) (a ∷ chain) ≡ false
    by_met true e = absurd (none a s h.0 (met_leads ps s a chain h.1 e))
    by_met false e = e

-- ---- the list of chains

pub any_caller : (test : ℕ → Bool) (ps : Calls) (c s : ℕ) → IsCall ps c s → test c ≡ true → list_any test (callers_of ps s) ≡ true
any_caller test [] c s h e = absurd h
any_caller test (p ∷ ps) c s (inl h) e = by_callee (p.1 == s) (eq-eqb p.1 s h.1)
  where
    by_callee : (b : Bool) → b ≡ true → list_any test (map (λ (q : Call). q.0) (cond b (p ∷ filter (λ q. q.1 == s) ps) (filter (λ q. q.1 == s) ps))) ≡ true
    by_callee true f = or_left (test p.0) (list_any test (callers_of ps s)) (ap test h.0 ∙ e)
    by_callee false f = absurd cc
any_caller test (p ∷ ps) c s (inr h) e = by_callee (p.1 == s) (any_caller test ps c s h e)
  where
    by_callee : (b : Bool) → list_any test (callers_of ps s) ≡ true → list_any test (map (λ (q : Call). q.0) (cond b (p ∷ filter (λ q. q.1 == s) ps) (filter (λ q. q.1 == s) ps))) ≡ true
    by_callee true r = or_right (test p.0) (list_any test (callers_of ps s)) r
    by_callee false r = r

caller_found : (test : ℕ → Bool) (ps : Calls) (s : ℕ) → list_any test (callers_of ps s) ≡ true → (c : ℕ) × IsCall ps c s × (test c ≡ true)
caller_found test [] s e = absurd cc
caller_found test (p ∷ ps) s e = by_callee (p.1 == s) refl e (caller_found test ps s)
  where
    by_test : (b : Bool) → test p.0 ≡ b → p.1 ≡ s → (b || list_any test (callers_of ps s)) ≡ true → (list_any test (callers_of ps s) ≡ true → (c : ℕ) × IsCall ps c s × (test c ≡ true)) → (c : ℕ) × IsCall (p ∷ ps) c s × (test c ≡ true)
    by_test true f same e r = (p.0, inl (refl, same), f)
    by_test false f same e r = let h = r e in (h.0, inr h.1, h.2)

    by_callee : (b : Bool) → (p.1 == s) ≡ b → list_any test (map (λ (q : Call). q.0) (cond b (p ∷ filter (λ q. q.1 == s) ps) (filter (λ q. q.1 == s) ps))) ≡ true → (list_any test (callers_of ps s) ≡ true → (c : ℕ) × IsCall ps c s × (test c ≡ true))
        → (c : ℕ) × IsCall (p ∷ ps) c s × (test c ≡ true)
    by_callee true f e r = by_test (test p.0) refl (eqb-true p.1 s f) e r
    by_callee false f e r = let h = r e in (h.0, inr h.1, h.2)

any_map : {X Y : Type 0} (test : Y → Bool) (f : X → Y) (xs : List X) → list_any test (map f xs) ≡ list_any (λ x. test (f x)) xs
any_map test f [] = refl
any_map test f (x ∷ xs) = ap (λ b. test (f x) || b) (any_map test f xs)

any_flat_map : {X Y : Type 0} (test : Y → Bool) (f : X → List Y) (xs : List X) → list_any test (flat_map f xs) ≡ list_any (λ x. list_any test (f x)) xs
any_flat_map test f [] = refl
any_flat_map test f (x ∷ xs) = list_any-append test (f x) (flat_map f xs) ∙ ap (λ b. list_any test (f x) || b) (any_flat_map test f xs)

-- a chain of a caller, with the caller in front
longer : (n : ℕ) (ps : Calls) (test : List ℕ → Bool) (c : ℕ) → list_any test (map (λ cs. c ∷ cs) (chains n ps c)) ≡ list_any (λ cs. test (c ∷ cs)) (chains n ps c)
longer n ps test c = any_map test (λ cs. c ∷ cs) (chains n ps c)

pub chain_listed : (ps : Calls) (n s : ℕ) (test : List ℕ → Bool) (callers : List ℕ) → IsChain ps s callers → length callers ≤ n → test callers ≡ true → list_any test (chains n ps s) ≡ true
chain_listed ps zero s test [] c few e = or_left (test []) false e
chain_listed ps zero s test (x ∷ callers) c few e = absurd (omega arith)
chain_listed ps (suc n) s test [] c few e = or_left (test []) _ e
chain_listed ps (suc n) s test (x ∷ callers) c few e =
    or_right (test []) (list_any test (flat_map (λ x. map (λ cs. x ∷ cs) (chains n ps x)) (callers_of ps s)))
    (any_flat_map test (λ x. map (λ cs. x ∷ cs) (chains n ps x)) (callers_of ps s)
    ∙ any_caller (λ x. list_any test (map (λ cs. x ∷ cs) (chains n ps x))) ps x s c.0 (longer n ps test x ∙ chain_listed ps n x (λ cs. test (x ∷ cs)) callers c.1 (omega arith) e))

-- a chain of at most n calls that passes a test
pub record HasListed (ps : Calls) (n s : ℕ) (test : List ℕ → Bool) : Type 0 where
  pub callers : List ℕ
  pub chain : IsChain ps s callers
  pub few : length callers ≤ n
  pub passes : test callers ≡ true

pub listed_chain : (ps : Calls) (n s : ℕ) (test : List ℕ → Bool) → list_any test (chains n ps s) ≡ true → HasListed ps n s test
listed_chain ps zero s test e = by_empty (test []) refl e
  where
    by_empty : (b : Bool) → test [] ≡ b → (b || false) ≡ true → HasListed ps zero s test
    by_empty true f e = record { callers = []; chain = tt; few = omega arith; passes = f }
    by_empty false f e = absurd cc
listed_chain ps (suc n) s test e = by_empty (test []) refl e (λ x. listed_chain ps n x (λ cs. test (x ∷ cs)))
  where
    by_empty : (b : Bool) → test [] ≡ b → (b || list_any test (flat_map (λ x. map (λ cs. x ∷ cs) (chains n ps x)) (callers_of ps s))) ≡ true
        → ((x : ℕ) → list_any (λ cs. test (x ∷ cs)) (chains n ps x) ≡ true → HasListed ps n x (λ cs. test (x ∷ cs))) → HasListed ps (suc n) s test
    by_empty true f e r = record { callers = []; chain = tt; few = omega arith; passes = f }
    by_empty false f e r =
        let h = caller_found (λ x. list_any test (map (λ cs. x ∷ cs) (chains n ps x))) ps s (sym (any_flat_map test (λ x. map (λ cs. x ∷ cs) (chains n ps x)) (callers_of ps s)) ∙ e) in
        let rest = r h.0 (sym (longer n ps test h.0) ∙ h.2) in
        let few = rest.few in
        record { callers = h.0 ∷ rest.callers; chain = (h.1, rest.chain); few = omega arith; passes = rest.passes }

-- ---- which subroutine reaches which

pub reach_tested : (ps : Calls) (n a s : ℕ) (callers : List ℕ) → IsChain ps s callers → length callers ≤ n → chain_start s callers ≡ a → reaches_within n ps a s ≡ true
reach_tested ps n a s callers c few e = chain_listed ps n s (λ cs. a == chain_start s cs) callers c few (eq-eqb a (chain_start s callers) (sym e))

pub tested_leads : (ps : Calls) (n a s : ℕ) → reaches_within n ps a s ≡ true → Reaches ps a s
tested_leads ps n a s e =
    let r = listed_chain ps n s (λ cs. a == chain_start s cs) e in
    record { callers = r.callers; chain = r.chain; first = sym (eqb-true a (chain_start s r.callers) r.passes) }

any_call : (test : Call → Bool) (x y : ℕ) (ps : Calls) → IsCall ps x y → test (x, y) ≡ true → list_any test ps ≡ true
any_call test x y [] h e = absurd h
any_call test x y (p ∷ ps) (inl h) e = or_left (test p) (list_any test ps) (ap (λ a. test (a, p.1)) h.0 ∙ ap (λ b. test (x, b)) h.1 ∙ e)
any_call test x y (p ∷ ps) (inr h) e = or_right (test p) (list_any test ps) (any_call test x y ps h e)

call_found : (test : Call → Bool) (ps : Calls) → list_any test ps ≡ true → (x : ℕ) × (y : ℕ) × IsCall ps x y × (test (x, y) ≡ true)
call_found test [] e = absurd cc
call_found test (p ∷ ps) e = by_test (test p) refl e (call_found test ps)
  where
    by_test : (b : Bool) → test p ≡ b → (b || list_any test ps) ≡ true → (list_any test ps ≡ true → (x : ℕ) × (y : ℕ) × IsCall ps x y × (test (x, y) ≡ true)) → (x : ℕ) × (y : ℕ) × IsCall (p ∷ ps) x y × (test (x, y) ≡ true)
    by_test true f e r = (p.0, p.1, inl (refl, refl), f)
    by_test false f e r = let h = r e in (h.0, h.1, inr h.2, h.3)

-- reached by at most n + 1 calls: without a call, or from a callee by at most n
pub reach_more : (ps : Calls) (n a s : ℕ) → reaches_within (suc n) ps a s ≡ (a == s || list_any (λ (p : Call). p.0 == a && reaches_within n ps p.1 s) ps)
reach_more ps n a s = both_ways (reaches_within (suc n) ps a s) (a == s || list_any (λ (p : Call). p.0 == a && reaches_within n ps p.1 s) ps) to from
  where
    to : reaches_within (suc n) ps a s ≡ true → (a == s || list_any (λ (p : Call). p.0 == a && reaches_within n ps p.1 s) ps) ≡ true
    to e = let r = listed_chain ps (suc n) s (λ cs. a == chain_start s cs) e in by_chain r.callers r.chain r.few (eqb-true a (chain_start s r.callers) r.passes)
      where
        by_chain : (callers : List ℕ) → IsChain ps s callers → length callers ≤ suc n → a ≡ chain_start s callers → (a == s || list_any (λ (p : Call). p.0 == a && reaches_within n ps p.1 s) ps) ≡ true
        by_chain [] c few e = or_left (a == s) _ (eq-eqb a s e)
        by_chain (x ∷ rest) c few e =
            let r = after_start ps s x rest c in
            let count = r.count in
            or_right (a == s) _ (any_call (λ (p : Call). p.0 == a && reaches_within n ps p.1 s) (chain_start s (x ∷ rest)) r.callee ps r.call
            (and_from (chain_start s (x ∷ rest) == a) (reaches_within n ps r.callee s) (eq-eqb _ a (sym e)) (reach_tested ps n r.callee s r.callers r.chain (omega arith) r.first)))

    from : (a == s || list_any (λ (p : Call). p.0 == a && reaches_within n ps p.1 s) ps) ≡ true → reaches_within (suc n) ps a s ≡ true
    from e = by_same (a == s) refl e
      where
        by_same : (b : Bool) → (a == s) ≡ b → (b || list_any (λ (p : Call). p.0 == a && reaches_within n ps p.1 s) ps) ≡ true → reaches_within (suc n) ps a s ≡ true
        by_same true f e = reach_tested ps (suc n) a s [] tt (omega arith) (sym (eqb-true a s f))
        by_same false f e =
            let h = call_found (λ (p : Call). p.0 == a && reaches_within n ps p.1 s) ps e in
            let both = and_parts (h.0 == a) (reaches_within n ps h.1 s) h.3 in
            let r = listed_chain ps n s (λ cs. h.1 == chain_start s cs) both.1 in
            let few = r.few in
            let call = subst (λ x. IsCall ps x h.1) (eqb-true h.0 a both.0) h.2 in
            reach_tested ps (suc n) a s (r.callers ++ a ∷ []) (with_start ps a h.1 s r.callers call r.chain (sym (eqb-true h.1 (chain_start s r.callers) r.passes))) (omega (arith, length-append r.callers (a ∷ []))) (start_is a s r.callers)

pub leads_tested : (ps : Calls) (a s : ℕ) → Reaches ps a s → reaches ps a s ≡ true
leads_tested ps a s h =
    let r = shorten ps a s h.callers h.chain h.first in
    reach_tested ps (length ps) a s r.callers r.chain (few_calls ps s r.callers r.chain r.distinct) r.first

-- ---- levels

pub level_least : (ps : Calls) (n s : ℕ) → 1 ≤ level_within n ps s
level_least ps n s = omega arith

longest_is : (cs : List ℕ) (css : List (List ℕ)) → list_any (λ xs. most_calls (cs ∷ css) == length xs) (cs ∷ css) ≡ true
longest_is cs [] = or_left (max (length cs) 0 == length cs) false (eq-eqb (max (length cs) 0) (length cs) (omega arith))
longest_is cs (ds ∷ css) = by_order (nat_lt (length cs) (most_calls (ds ∷ css))) refl (longest_is ds css)
  where
    by_order : (b : Bool) → nat_lt (length cs) (most_calls (ds ∷ css)) ≡ b → list_any (λ xs. most_calls (ds ∷ css) == length xs) (ds ∷ css) ≡ true → list_any (λ xs. most_calls (cs ∷ ds ∷ css) == length xs) (cs ∷ ds ∷ css) ≡ true
    by_order true f r =
        let less = ltb-true (length cs) (most_calls (ds ∷ css)) f in
        let same : most_calls (cs ∷ ds ∷ css) ≡ most_calls (ds ∷ css) = omega arith in
        or_right (most_calls (cs ∷ ds ∷ css) == length cs) _ (subst (λ (m : ℕ). list_any (λ xs. m == length xs) (ds ∷ css) ≡ true) (sym same) r)
    by_order false f r =
        let least = ltb-false (length cs) (most_calls (ds ∷ css)) f in
        or_left (most_calls (cs ∷ ds ∷ css) == length cs) _ (eq-eqb (most_calls (cs ∷ ds ∷ css)) (length cs) (omega arith))

none_longer : (k : ℕ) (css : List (List ℕ)) → list_any (λ xs. nat_le k (length xs)) css ≡ true → k ≤ most_calls css
none_longer k [] e = absurd cc
none_longer k (cs ∷ css) e = by_first (nat_le k (length cs)) refl e (none_longer k css)
  where
    by_first : (b : Bool) → nat_le k (length cs) ≡ b → (b || list_any (λ xs. nat_le k (length xs)) css) ≡ true → (list_any (λ xs. nat_le k (length xs)) css ≡ true → k ≤ most_calls css) → k ≤ most_calls (cs ∷ css)
    by_first true f e r = let least = leb-true k (length cs) f in omega arith
    by_first false f e r = let least = r e in omega arith

-- the longest chain
pub level_chain : (ps : Calls) (n s : ℕ) → (chain : List ℕ) × IsChain ps s chain × (length chain ≤ n) × (length chain + 1 ≡ level_within n ps s)
level_chain ps n s =
    let r = listed_chain ps n s (λ xs. most_calls (chains n ps s) == length xs) (is n) in
    let same = eqb-true (most_calls (chains n ps s)) (length r.callers) r.passes in
    (r.callers, r.chain, r.few, omega arith)
  where
    is : (m : ℕ) → list_any (λ xs. most_calls (chains m ps s) == length xs) (chains m ps s) ≡ true
    is zero = longest_is [] []
    is (suc m) = longest_is [] (flat_map (λ x. map (λ cs. x ∷ cs) (chains m ps x)) (callers_of ps s))

pub level_most : (ps : Calls) (n s : ℕ) → level_within n ps s ≤ n + 1
level_most ps n s = let r = level_chain ps n s in let few = r.2 in let same = r.3 in omega arith

-- no chain of at most n calls is longer
pub chain_low : (ps : Calls) (n s : ℕ) (chain : List ℕ) → IsChain ps s chain → length chain ≤ n → length chain + 1 ≤ level_within n ps s
chain_low ps n s chain c few =
    let most = none_longer (length chain) (chains n ps s) (chain_listed ps n s (λ xs. nat_le (length chain) (length xs)) chain c few (le-leb (length chain) (length chain) (omega arith))) in
    omega arith

-- where no chain that ends in the callee has more than n calls, the callee is above its caller
pub callee_above : (ps : Calls) (n a b : ℕ) → IsCall ps a b → ((chain : List ℕ) → IsChain ps b chain → length chain ≤ n) → level_within n ps a < level_within n ps b
callee_above ps n a b h short =
    let c = level_chain ps n a in
    let l = c.3 in
    let whole = short (a ∷ c.0) (h, c.1) in
    let low = chain_low ps n b (a ∷ c.0) (h, c.1) whole in
    omega (arith, l, low)

-- where no chain is longer, that is the level
pub is_level : (ps : Calls) (n s : ℕ) → ((chain : List ℕ) → IsChain ps s chain → length chain ≤ n) → IsCallLevel ps s (level_within n ps s)
is_level ps n s short =
    let c = level_chain ps n s in
    record { chain = record { callers = c.0; chain = c.1; count = c.3 }; longest = λ callers chain. chain_low ps n s callers chain (short callers chain) }

-- ---- the law

longest_within : (ps : Calls) (most s : ℕ) → IsLongestWithin most ps s (level_within most ps s)
longest_within ps most s =
    let c = level_chain ps most s in
    record { chain = record { callers = c.0; chain = c.1; count = c.3 }; few = level_most ps most s; longest = chain_low ps most s }

pub of_chains : (ps : Calls) → AreOfChains ps
of_chains ps = record { reached = λ a s. (tested_leads ps (length ps) a s, leads_tested ps a s); level = longest_within ps }
