-- The least code of the first card that breaks a rule is the least fault.
use Rattle.std.proofs.Common.{◌≡◌, ℕ, ◌+◌, ◌≤◌, ◌⊎◌, inl, inr, Bool, true, false, List, [], ◌∷◌, ◌++◌, Option, Some, None, MatchOption, refl, sym, ap, ◌∙◌, arith, append_assoc, append-nil}
use Rattle.std.proofs.lemmas.Bool.{and_parts, both_ways, cond_both, false_from_ne_true, leb-true}
use Rattle.std.specs.Prelude.{◌&&◌, ◌↔◌, find, nat_le}
use Rattle.std.specs.List.{list_all}
use Rattle.std.specs.Option.{option_map, option_or}
use Rattle.rpg_cards.specs.Cards.{Numbered}
use Rattle.rpg_cards.specs.declared.spec_card.SpecCard.{SpecCard}
use Rattle.rpg_faults.specs.declared.code.FaultCode.{FaultCode}
use Rattle.rpg_faults.specs.declared.code.FaultCode.TheVariants.{F1, F7}
use Rattle.rpg_faults.specs.declared.fault.Fault.{Fault}
use Rattle.rpg_faults_flow.specs.Kept.{Rule}
use Rattle.rpg_faults.specs.Codes.{fault_number}
use Rattle.rpg_faults.specs.Faults.{BreaksRule, codes, fault_on, least_fault_from, least_fault, HasFault, FaultNotAfter, IsLeastFault, Faultless}
use Rattle.rpg_faults.specs.Rules.{rule, source_rule}
use Rattle.rpg_faults_limits.specs.Files.{lacks_input}

-- ---- the cards that break a rule

-- a card of these breaks a rule, where others stand before them
abbrev pub Breaks : Rule → List SpecCard → List SpecCard → ℕ → Type 0
Breaks r before [] n = ⊥
Breaks r before (c ∷ after) n = ((c.number ≡ n) × (r before c after ≡ true)) ⊎ Breaks r (before ++ c ∷ []) after n

breaks_after : (r : Rule) (n : ℕ) (before front : List SpecCard) (at : SpecCard) (back : List SpecCard) → at.number ≡ n → r (before ++ front) at back ≡ true → Breaks r before (front ++ at ∷ back) n
breaks_after r n before [] at back e t = inl (e, ap (λ l. r l at back) (sym (append-nil before)) ∙ t)
breaks_after r n before (c ∷ front) at back e t = inr (breaks_after r n (before ++ c ∷ []) front at back e (ap (λ l. r l at back) (append_assoc before (c ∷ []) front) ∙ t))

pub broken_among : (r : Rule) (cards : List SpecCard) (n : ℕ) (before after : List SpecCard) → cards ≡ before ++ after → Breaks r before after n → BreaksRule r cards n
broken_among r cards n before [] split b = absurd b
broken_among r cards n before (c ∷ after) split (inl b) = record { before = before; card = c; after = after; split = split; here = b.0; broken = b.1 }
broken_among r cards n before (c ∷ after) split (inr b) = broken_among r cards n (before ++ c ∷ []) after (split ∙ sym (append_assoc before (c ∷ []) after)) b

-- the number of such a card is at least the first one's
pub number_up : (r : Rule) (n low : ℕ) (before after : List SpecCard) → Numbered low after → Breaks r before after n → low ≤ n
number_up r n low before [] h b = absurd b
number_up r n low before (c ∷ after) h (inl b) = let up = h.0 in let same = b.0 in omega arith
number_up r n low before (c ∷ after) h (inr b) = let up = h.0 in let later = number_up r n (c.number + 1) (before ++ c ∷ []) after h.1 b in omega arith

-- ---- all codes in their order

abbrev pub IsOneOf : FaultCode → List FaultCode → Type 0
IsOneOf k [] = ⊥
IsOneOf k (x ∷ xs) = (k ≡ x) ⊎ IsOneOf k xs

pub all_codes : (k : FaultCode) → IsOneOf k codes
all_codes F1 = inl refl
all_codes _ = search (inl, inr) depth 60

pub each : (test : FaultCode → Bool) (k : FaultCode) (ks : List FaultCode) → list_all test ks ≡ true → IsOneOf k ks → test k ≡ true
each test k [] a i = absurd i
each test k (x ∷ xs) a (inl e) = ap test e ∙ (and_parts _ _ a).0
each test k (x ∷ xs) a (inr i) = each test k xs (and_parts _ _ a).1 i

abbrev ascends : List FaultCode → Bool
ascends [] = true
ascends (x ∷ xs) = list_all (λ k. nat_le (fault_number x) (fault_number k)) (x ∷ xs) && ascends xs

-- the least of the codes that pass a test
abbrev IsLeastCode : (FaultCode → Bool) → Option FaultCode → Type 0
IsLeastCode test o = MatchOption o ((k : FaultCode) → ¬ (test k ≡ true)) (λ j. (test j ≡ true) × ((k : FaultCode) → test k ≡ true → fault_number j ≤ fault_number k))

-- it is the first one in a list that has all of them
least_in : (test : FaultCode → Bool) (ks : List FaultCode) → ascends ks ≡ true → ((k : FaultCode) → test k ≡ true → IsOneOf k ks) → IsLeastCode test (find test ks)
least_in test [] a among = among
least_in test (x ∷ xs) a among =
    cond_both (test x) (Some x) (find test xs) (IsLeastCode test)
    (λ t. (t, λ k p. leb-true _ _ (each (λ j. nat_le (fault_number x) (fault_number j)) k (x ∷ xs) (and_parts _ _ a).0 (among k p))))
    (λ f. least_in test xs (and_parts _ _ a).1 (λ k p. elim (among k p) [ inl e ↦ absurd (both_ways (test x) f (sym (ap test e) ∙ p)) | inr i ↦ i ]))

least_code : (test : FaultCode → Bool) → IsLeastCode test (find test codes)
least_code test = least_in test codes refl (λ k p. all_codes k)

-- ---- the first card that breaks a rule

abbrev IsLeast : List SpecCard → Option Fault → Type 0
IsLeast cards o = MatchOption o (Faultless cards) (λ f. IsLeastFault cards f)

-- all faults are those of cards that stand after others
abbrev AreFollowing : List SpecCard → List SpecCard → List SpecCard → Type 0
AreFollowing cards before after = (g : Fault) → HasFault cards g ↔ Breaks (rule g.code) before after g.card

least_from : (cards : List SpecCard) (low : ℕ) (before after : List SpecCard) → Numbered low after → AreFollowing cards before after → IsLeast cards (least_fault_from before after)
least_from cards low before [] h following = λ g f. (following g).0 f
least_from cards low before (c ∷ cs) h following =
    by_code (find (λ k. rule k before c cs) codes) (least_code (λ k. rule k before c cs)) (least_from cards (c.number + 1) (before ++ c ∷ []) cs h.1)
  where
    by_code : (o : Option FaultCode) → IsLeastCode (λ k. rule k before c cs) o → (AreFollowing cards (before ++ c ∷ []) cs → IsLeast cards (least_fault_from (before ++ c ∷ []) cs)) → IsLeast cards (option_or (option_map (fault_on c) o) (least_fault_from (before ++ c ∷ []) cs))
    by_code None none later = later (λ g. (λ f. elim ((following g).0 f) [ inl b ↦ absurd (none g.code b.1) | inr b ↦ b ], λ b. (following g).1 (inr b)))
    by_code (Some k) first later = record {
      is = (following (fault_on c k)).1 (inl (refl, first.0));
      least = λ g f. elim ((following g).0 f) [
        | inl b ↦ inr (b.0, first.1 g.code b.1)
        | inr b ↦ inl (let up = number_up (rule g.code) g.card (c.number + 1) (before ++ c ∷ []) cs h.1 b in omega arith)
      ];
    }

-- ---- all of a source

pub breaks_in : (r : Rule) (cards : List SpecCard) (n : ℕ) → BreaksRule r cards n → Breaks r [] cards n
breaks_in r cards n b = rw b.split (breaks_after r n [] b.before b.card b.after b.here b.broken)

-- of the source as a whole only F7 is broken
pub as_whole : (cards : List SpecCard) (k : FaultCode) → source_rule k cards ≡ true → (fault_number F7 ≤ fault_number k) × (lacks_input cards ≡ true)
unfolding source_rule
as_whole cards F7 e = (omega arith, e)
as_whole cards _ e = absurd cc

pub least : (cards : List SpecCard) → Numbered 1 cards → IsLeast cards (least_fault cards)
unfolding source_rule
least cards numbered = cond_both (lacks_input cards) (Some whole) (least_fault_from [] cards) (IsLeast cards) (λ t. record { is = inr (refl, t); least = not_before }) (λ e. least_from cards 1 [] cards numbered (following e))
  where
    whole : Fault
    whole = record { card = 0; code = F7 }

    not_before : (g : Fault) → HasFault cards g → FaultNotAfter whole g
    not_before g (inl b) = inl (let up = number_up (rule g.code) g.card 1 [] cards numbered (breaks_in (rule g.code) cards g.card b) in omega arith)
    not_before g (inr s) = inr (sym s.0, (as_whole cards g.code s.1).0)

    following : lacks_input cards ≡ false → AreFollowing cards [] cards
    following e g = (
      λ f. elim f [ inl b ↦ breaks_in (rule g.code) cards g.card b | inr s ↦ absurd (both_ways (lacks_input cards) e (as_whole cards g.code s.1).1) ],
      λ b. inl (broken_among (rule g.code) cards g.card [] cards refl b),
    )

-- ---- what a source without faults keeps

pub rule-faultless : (cards : List SpecCard) → Faultless cards → (code : FaultCode) (before : List SpecCard) (card : SpecCard) (after : List SpecCard) → cards ≡ before ++ card ∷ after → rule code before card after ≡ false
rule-faultless cards none code before card after split =
    false_from_ne_true _ (λ t. none (record { card = card.number; code = code }) (inl (record { before = before; card = card; after = after; split = split; here = refl; broken = t })))

pub source_rule-faultless : (cards : List SpecCard) → Faultless cards → (code : FaultCode) → source_rule code cards ≡ false
source_rule-faultless cards none code = false_from_ne_true _ (λ t. none (record { card = 0; code = code }) (inr (refl, t)))
