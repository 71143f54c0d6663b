-- The faults of the cards in turn, code by code, are all faults, in their order.
use Rattle.std.proofs.Common.{◌≡◌, ℕ, ◌+◌, ◌⊎◌, inl, inr, suc, zero, Bool, true, false, List, [], ◌∷◌, ◌++◌, refl, sym, ap, ap₂, ◌∙◌, arith}
use Rattle.std.proofs.lemmas.Bool.{and_parts, both_ways, cond_both, ltb-true}
use Rattle.std.proofs.lemmas.List.Elements.{Contains-get_or}
use Rattle.std.proofs.lemmas.List.Kept.{AllPairs-cons}
use Rattle.std.specs.Prelude.{⊤, ◌&&◌, AllPairs, Contains, filter, get_or, map, nat_lt}
use Rattle.std.specs.List.{list_all}
use Rattle.rpg_cards.specs.Cards.{Numbered}
use Rattle.rpg_cards.specs.declared.spec_card.SpecCard.{SpecCard}
use Rattle.rpg_faults.specs.declared.code.FaultCode.{FaultCode}
use Rattle.rpg_faults.specs.declared.code.FaultCode.TheVariants.{F7}
use Rattle.rpg_faults.specs.declared.fault.Fault.{Fault}
use Rattle.rpg_faults.proofs.LeastLemmas.{Breaks, IsOneOf, all_codes, as_whole, breaks_in, broken_among, each, number_up}
use Rattle.rpg_faults.specs.Codes.{fault_number}
use Rattle.rpg_faults.specs.Every.{IsBefore, AreAllFaults, faults_on, faults_from, all_faults}
use Rattle.rpg_faults.specs.Faults.{codes, fault_on, HasFault}
use Rattle.rpg_faults.specs.Rules.{rule, source_rule}
use Rattle.rpg_faults_limits.specs.Files.{lacks_input}

-- ---- lists of faults, from the front

abbrev IsAmong : Fault → List Fault → Type 0
IsAmong f [] = ⊥
IsAmong f (g ∷ gs) = (f ≡ g) ⊎ IsAmong f gs

among_contained : (fs : List Fault) (f : Fault) → Contains fs f → IsAmong f fs
among_contained [] f h = let none = h.1 in absurd (omega arith)
among_contained (g ∷ gs) f (zero, lt, e) = inl (sym e)
among_contained (g ∷ gs) f (suc k, lt, e) = inr (among_contained gs f (k, omega arith, e))

contained_among : (fs : List Fault) (f : Fault) → IsAmong f fs → Contains fs f
contained_among [] f h = absurd h
contained_among (g ∷ gs) f (inl e) = (0, omega arith, sym e)
contained_among (g ∷ gs) f (inr i) = let c = contained_among gs f i in let lt = c.1 in (suc c.0, omega arith, c.2)

among_left : (fs gs : List Fault) (f : Fault) → IsAmong f fs → IsAmong f (fs ++ gs)
among_left [] gs f h = absurd h
among_left (x ∷ fs) gs f (inl e) = inl e
among_left (x ∷ fs) gs f (inr i) = inr (among_left fs gs f i)

among_right : (fs gs : List Fault) (f : Fault) → IsAmong f gs → IsAmong f (fs ++ gs)
among_right [] gs f h = h
among_right (x ∷ fs) gs f h = inr (among_right fs gs f h)

among_cases : (fs gs : List Fault) (f : Fault) → IsAmong f (fs ++ gs) → IsAmong f fs ⊎ IsAmong f gs
among_cases [] gs f h = inr h
among_cases (x ∷ fs) gs f (inl e) = inl (inl e)
among_cases (x ∷ fs) gs f (inr i) = elim (among_cases fs gs f i) [ inl j ↦ inl (inr j) | inr j ↦ inr j ]

-- each fault is before all that stand after it
abbrev Ascend : List Fault → Type 0
Ascend [] = ⊤
Ascend (f ∷ fs) = ((g : Fault) → IsAmong g fs → IsBefore f g) × Ascend fs

ascend_joined : (fs gs : List Fault) → Ascend fs → Ascend gs → ((f g : Fault) → IsAmong f fs → IsAmong g gs → IsBefore f g) → Ascend (fs ++ gs)
ascend_joined [] gs a b h = b
ascend_joined (x ∷ fs) gs a b h = (
  λ g i. elim (among_cases fs gs g i) [ inl j ↦ a.0 g j | inr j ↦ h x g (inl refl) j ],
  ascend_joined fs gs a.1 b (λ f g i j. h f g (inr i) j),
)

pairs_ascend : (fs : List Fault) → Ascend fs → AllPairs IsBefore fs
pairs_ascend [] a = λ i j d lt within. absurd (omega arith)
pairs_ascend (f ∷ fs) a = AllPairs-cons IsBefore f fs (λ k d lt. a.0 (get_or fs k d) (among_contained fs (get_or fs k d) (Contains-get_or fs k d lt))) (pairs_ascend fs a.1)

-- ---- the faults of a card

on_card : (c : SpecCard) (test : FaultCode → Bool) (ks : List FaultCode) (f : Fault) → IsAmong f (map (fault_on c) (filter test ks)) → (c.number ≡ f.card) × ((test f.code ≡ true) × IsOneOf f.code ks)
on_card c test [] f = λ i. absurd i
on_card c test (k ∷ ks) f =
    cond_both (test k) (k ∷ filter test ks) (filter test ks) (λ l. IsAmong f (map (fault_on c) l) → (c.number ≡ f.card) × ((test f.code ≡ true) × IsOneOf f.code (k ∷ ks)))
    (λ t i. elim i [ inl e ↦ (sym (ap (λ g. g.card) e), (ap (λ g. test g.code) e ∙ t, inl (ap (λ g. g.code) e))) | inr j ↦ later (on_card c test ks f j) ])
    (λ _ i. later (on_card c test ks f i))
  where
    later : (c.number ≡ f.card) × ((test f.code ≡ true) × IsOneOf f.code ks) → (c.number ≡ f.card) × ((test f.code ≡ true) × IsOneOf f.code (k ∷ ks))
    later h = (h.0, (h.1.0, inr h.1.1))

from_card : (c : SpecCard) (test : FaultCode → Bool) (ks : List FaultCode) (f : Fault) → c.number ≡ f.card → test f.code ≡ true → IsOneOf f.code ks → IsAmong f (map (fault_on c) (filter test ks))
from_card c test [] f here t i = absurd i
from_card c test (k ∷ ks) f here t (inl e) =
    cond_both (test k) (k ∷ filter test ks) (filter test ks) (λ l. IsAmong f (map (fault_on c) l)) (λ _. inl (same f here e)) (λ n. absurd (both_ways (test k) n (sym (ap test e) ∙ t)))
  where
    same : (g : Fault) → c.number ≡ g.card → g.code ≡ k → g ≡ fault_on c k
    same g n e = ap₂ (λ (card : ℕ) (code : FaultCode). let x : Fault = record { card = card; code = code } in x) (sym n) e
from_card c test (k ∷ ks) f here t (inr i) =
    cond_both (test k) (k ∷ filter test ks) (filter test ks) (λ l. IsAmong f (map (fault_on c) l)) (λ _. inr (from_card c test ks f here t i)) (λ _. from_card c test ks f here t i)

-- codes of which each is less than those after it
abbrev rise : List FaultCode → Bool
rise [] = true
rise (k ∷ ks) = list_all (λ j. nat_lt (fault_number k) (fault_number j)) ks && rise ks

card_ascends : (c : SpecCard) (test : FaultCode → Bool) (ks : List FaultCode) → rise ks ≡ true → Ascend (map (fault_on c) (filter test ks))
card_ascends c test [] h = tt
card_ascends c test (k ∷ ks) h =
    let parts = and_parts _ _ h in
    let rest = card_ascends c test ks parts.1 in
    cond_both (test k) (k ∷ filter test ks) (filter test ks) (λ l. Ascend (map (fault_on c) l)) (λ _. (first parts.0, rest)) (λ _. rest)
  where
    first : list_all (λ j. nat_lt (fault_number k) (fault_number j)) ks ≡ true → (g : Fault) → IsAmong g (map (fault_on c) (filter test ks)) → IsBefore (fault_on c k) g
    first less g i = let on = on_card c test ks g i in inr (on.0, ltb-true _ _ (each (λ j. nat_lt (fault_number k) (fault_number j)) g.code ks less on.1.1))

-- ---- the faults of the cards

broken_from : (before after : List SpecCard) (f : Fault) → IsAmong f (faults_from before after) → Breaks (rule f.code) before after f.card
broken_from before [] f i = absurd i
broken_from before (c ∷ after) f i = elim (among_cases (faults_on before c after) (faults_from (before ++ c ∷ []) after) f i) [
  | inl j ↦ let on = on_card c (λ code. rule code before c after) codes f j in inl (on.0, on.1.0)
  | inr j ↦ inr (broken_from (before ++ c ∷ []) after f j)
]

found_from : (before after : List SpecCard) (f : Fault) → Breaks (rule f.code) before after f.card → IsAmong f (faults_from before after)
found_from before [] f b = absurd b
found_from before (c ∷ after) f (inl b) = among_left (faults_on before c after) _ f (from_card c (λ code. rule code before c after) codes f b.0 b.1 (all_codes f.code))
found_from before (c ∷ after) f (inr b) = among_right (faults_on before c after) _ f (found_from (before ++ c ∷ []) after f b)

cards_ascend : (low : ℕ) (before after : List SpecCard) → Numbered low after → Ascend (faults_from before after)
cards_ascend low before [] h = tt
cards_ascend low before (c ∷ after) h =
    ascend_joined (faults_on before c after) (faults_from (before ++ c ∷ []) after) (card_ascends c (λ code. rule code before c after) codes refl) (cards_ascend (c.number + 1) (before ++ c ∷ []) after h.1) (λ f g i j.
    let here = (on_card c (λ code. rule code before c after) codes f i).0 in
    let up = number_up (rule g.code) g.card (c.number + 1) (before ++ c ∷ []) after h.1 (broken_from (before ++ c ∷ []) after g j) in
    inl (omega arith))

-- ---- all of a source

pub every : (cards : List SpecCard) → Numbered 1 cards → AreAllFaults cards (all_faults cards)
unfolding source_rule
every cards numbered = cond_both (lacks_input cards) (whole ∷ []) [] (λ l. AreAllFaults cards (l ++ faults_from [] cards)) with_whole without
  where
    whole : Fault
    whole = record { card = 0; code = F7 }

    found : (f : Fault) → HasFault cards f → lacks_input cards ≡ false → IsAmong f (faults_from [] cards)
    found f (inl b) none = found_from [] cards f (breaks_in (rule f.code) cards f.card b)
    found f (inr s) none = absurd (both_ways (lacks_input cards) none (as_whole cards f.code s.1).1)

    has : (f : Fault) → IsAmong f (faults_from [] cards) → HasFault cards f
    has f i = inl (broken_among (rule f.code) cards f.card [] cards refl (broken_from [] cards f i))

    only : (f : Fault) → f.card ≡ 0 → source_rule f.code cards ≡ true → f ≡ whole
    only f none s = of f.code f.card none s refl refl
      where
        of : (k : FaultCode) (n : ℕ) → n ≡ 0 → source_rule k cards ≡ true → f.code ≡ k → f.card ≡ n → f ≡ whole
        of F7 n e t code card = ap₂ (λ (card : ℕ) (code : FaultCode). let x : Fault = record { card = card; code = code } in x) (card ∙ e) code
        of _ n e t code card = absurd cc

    with_whole : lacks_input cards ≡ true → AreAllFaults cards (whole ∷ faults_from [] cards)
    with_whole lacks = record {
      just = λ f. (
        λ h. contained_among (whole ∷ faults_from [] cards) f (elim h [ inl b ↦ inr (found_from [] cards f (breaks_in (rule f.code) cards f.card b)) | inr s ↦ inl (only f s.0 s.1) ]),
        λ h. elim (among_contained (whole ∷ faults_from [] cards) f h) [ inl e ↦ inr (ap (λ g. g.card) e, ap (λ g. source_rule g.code cards) e ∙ lacks) | inr i ↦ has f i ],
      );
      in_order = pairs_ascend (whole ∷ faults_from [] cards) (
        λ g i. inl (let up = number_up (rule g.code) g.card 1 [] cards numbered (broken_from [] cards g i) in omega arith),
        cards_ascend 1 [] cards numbered,
      );
    }

    without : lacks_input cards ≡ false → AreAllFaults cards (faults_from [] cards)
    without none = record {
      just = λ f. (λ h. contained_among (faults_from [] cards) f (found f h none), λ h. has f (among_contained (faults_from [] cards) f h));
      in_order = pairs_ascend (faults_from [] cards) (cards_ascend 1 [] cards numbered);
    }
