-- What is reported card by card is reported of all faults, each with the columns and the cause on its card.
use Rattle.std.proofs.Common.{◌≡◌, ℕ, ◌+◌, ◌≤◌, true, false, List, [], ◌∷◌, ◌++◌, Option, None, refl, sym, ap, ap₂, subst, ◌∙◌, arith, append_assoc, append-nil}
use Rattle.std.proofs.lemmas.Bool.{cond_both}
use Rattle.std.proofs.lemmas.Grind.{common_steps}
use Rattle.std.proofs.lemmas.List.{map-append}
use Rattle.std.specs.Prelude.{◌==◌, filter, map}
use Rattle.rpg_cards.specs.Cards.{Numbered}
use Rattle.rpg_cards.specs.declared.spec_card.SpecCard.{SpecCard}
use Rattle.rpg_faults.proofs.EveryLemmas.{every}
use Rattle.rpg_faults.specs.Every.{all_faults, faults_from, faults_on}
use Rattle.rpg_faults.specs.Faults.{codes, fault_on}
use Rattle.rpg_faults.specs.CauseRanges.{fault_columns}
use Rattle.rpg_faults.specs.Causes.{cause_of}
use Rattle.rpg_faults.specs.Rules.{rule}
use Rattle.rpg_faults.specs.Reported.{AreFaultsOf, on_its_card, reported_by, reported_faults, reported_from, reported_of}
use Rattle.rpg_faults.specs.declared.cause.Cause.{Cause}
use Rattle.rpg_faults.specs.declared.code.FaultCode.{FaultCode}
use Rattle.rpg_faults.specs.declared.code.FaultCode.TheVariants.{F7}
use Rattle.rpg_faults.specs.declared.fault.Fault.{Fault}
use Rattle.rpg_faults.specs.declared.source_fault.CardFault.{CardFault}
use Rattle.rpg_faults.specs.declared.source_fault.SourceCode.TheVariants as source_codes
use Rattle.rpg_faults_limits.specs.Files.{lacks_input}
use Rattle.rpg_sheet_specs.specs.declared.column.ColumnFault.{ColumnFault}

same_number : (n : ℕ) → (n == n) ≡ true
same_number n = grind (arith, common_steps)

other_number : (m n : ℕ) → m + 1 ≤ n → (m == n) ≡ false
other_number m n h = grind (arith, common_steps)

-- a card after others has a number that is at least the first one's
at_least : (low : ℕ) (xs : List SpecCard) (c : SpecCard) (after : List SpecCard) → Numbered low (xs ++ c ∷ after) → low ≤ c.number
at_least low [] c after h = h.0
at_least low (x ∷ xs) c after h = let up = h.0 in let more = at_least (x.number + 1) xs c after h.1 in omega arith

-- ---- the columns and the cause of a fault are those of its card

module _ {X : Type 0} (of : FaultCode → List SpecCard → SpecCard → List SpecCard → Option X) where
  found : (low : ℕ) (front xs : List SpecCard) (c : SpecCard) (after : List SpecCard) (k : FaultCode) → Numbered low (xs ++ c ∷ after)
      → on_its_card of front (xs ++ c ∷ after) (fault_on c k) ≡ of k (front ++ xs) c after
  found low front [] c after k h = rw (same_number c.number) (ap (λ b. of k b c after) (sym (append-nil front)))
  found low front (x ∷ xs) c after k h =
      rw (other_number x.number c.number (at_least (x.number + 1) xs c after h.1))
      (found (x.number + 1) (front ++ x ∷ []) xs c after k h.1 ∙ ap (λ b. of k b c after) (append_assoc front (x ∷ []) xs))

  -- no card has number 0
  none_of_whole : (low : ℕ) (front cards : List SpecCard) (f : Fault) → Numbered (low + 1) cards → f.card ≡ 0 → on_its_card of front cards f ≡ None
  none_of_whole low front [] f h e = refl
  none_of_whole low front (c ∷ cs) f h e = rw (not_its c.number f.card h.0 e) (none_of_whole c.number (front ++ c ∷ []) cs f h.1 e)
    where
      not_its : (n card : ℕ) → low + 1 ≤ n → card ≡ 0 → (n == card) ≡ false
      not_its n card up none = grind (arith, common_steps)

  its : (cards before : List SpecCard) (c : SpecCard) (after : List SpecCard) (k : FaultCode) → cards ≡ before ++ c ∷ after → Numbered 1 cards → on_its_card of [] cards (fault_on c k) ≡ of k before c after
  its cards before c after k split n = ap (λ cs. on_its_card of [] cs (fault_on c k)) split ∙ found 1 [] before c after k (subst (Numbered 1) split n)

-- a fault with its columns and its cause
abbrev with_cause : ℕ → FaultCode → Option ColumnFault → Option Cause → CardFault
with_cause card code columns cause = record { card = card; code = source_codes.Fault code; columns = columns; cause = cause }

-- ---- card by card

reported_of_card : (cards before : List SpecCard) (c : SpecCard) (after : List SpecCard) (ks : List FaultCode) → cards ≡ before ++ c ∷ after → Numbered 1 cards
    → map (reported_of cards) (map (fault_on c) ks) ≡ map (reported_by before c after) ks
reported_of_card cards before c after [] split n = refl
reported_of_card cards before c after (k ∷ ks) split n =
    ap₂ (λ (x : CardFault) (more : List CardFault). x ∷ more)
    (ap₂ (with_cause c.number k) (its fault_columns cards before c after k split n) (its cause_of cards before c after k split n))
    (reported_of_card cards before c after ks split n)

reported_from_cards : (cards before after : List SpecCard) → cards ≡ before ++ after → Numbered 1 cards → map (reported_of cards) (faults_from before after) ≡ reported_from before after
reported_from_cards cards before [] split n = refl
reported_from_cards cards before (c ∷ after) split n =
    map-append (reported_of cards) (faults_on before c after) (faults_from (before ++ c ∷ []) after)
    ∙ ap₂ (λ (xs ys : List CardFault). xs ++ ys) (reported_of_card cards before c after (filter (λ code. rule code before c after) codes) split n)
    (reported_from_cards cards (before ++ c ∷ []) after (split ∙ sym (append_assoc before (c ∷ []) after)) n)

pub reported : (cards : List SpecCard) → Numbered 1 cards → AreFaultsOf cards (reported_faults cards)
reported cards n = (all_faults cards, every cards n, sym same)
  where
    whole : Fault
    whole = record { card = 0; code = F7 }

    same : map (reported_of cards) (all_faults cards) ≡ reported_faults cards
    same = cond_both (lacks_input cards) (whole ∷ []) [] (λ l. map (reported_of cards) (l ++ faults_from [] cards) ≡ reported_faults cards) with_whole without
      where
        with_whole : lacks_input cards ≡ true → map (reported_of cards) (whole ∷ faults_from [] cards) ≡ reported_faults cards
        with_whole e = rw e
            (ap₂ (λ (x : CardFault) (more : List CardFault). x ∷ more)
            (ap₂ (with_cause 0 F7) (none_of_whole fault_columns 0 [] cards whole n refl) (none_of_whole cause_of 0 [] cards whole n refl)) (reported_from_cards cards [] cards refl n))

        without : lacks_input cards ≡ false → map (reported_of cards) (faults_from [] cards) ≡ reported_faults cards
        without e = rw e (reported_from_cards cards [] cards refl n)
