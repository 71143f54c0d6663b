-- The laws of indicators and of conditions.
use Rattle.std.proofs.Common.{◌≡◌, ℕ, zero, suc, ◌+◌, ◌≤◌, Bool, true, false, cond, Option, Some, None, Err, refl, sym, ap, ◌∙◌, arith, inl, inr, eqb, leb, eqb-true}
use Rattle.std.proofs.lemmas.Bool.{leb-true, and_parts}
use Rattle.rpg_program.specs.declared.condition.Condition.{Condition}
use Rattle.rpg_program.specs.declared.condition.Conditions.{Conditions}
use Rattle.rpg_program.specs.declared.operation.Shows.{Shows}
use Rattle.rpg_object_format.specs.declared.fault.Code.TheVariants.{NotAllowed}
use Rattle.rpg_object_format.specs.Format.{byte, pair}
use Rattle.rpg_object_format.proofs.Laws.{IsFormat, IsRule, byte_law, pair_law, row_law}
use Rattle.rpg_object_format.proofs.Rules.{byte_where_law, chosen, guarded, stands_for, value_is, yes_or_no_law}
use Rattle.rpg_text.specs.Texts.{is_between}
use Rattle.rpg_object_format.specs.Indicators.{alternative, are_negations, bit, condition_format, condition_with, conditions_format, conditions_of, has_bit, indicator_by_number, indicator_format, indicator_in, indicator_number, indicators_of, is_negation, may_negate, negations_of, shows_format}
use Rattle.rpg_object_format.proofs.Choices.{passed}
use Rattle.rpg_object_format.proofs.ShapeLaws.{counted_law}

indicator_rule : IsRule indicator_by_number indicator_number
indicator_rule n x e =
    elim (chosen (eqb n 0) (stands_for None) (cond (leb n 129) (stands_for (Some n)) (Err NotAllowed)) (stands_for x) e) [
      | inl w ↦ ap indicator_number (sym (value_is None x w.1)) ∙ sym (eqb-true _ _ w.0)
      | inr w ↦ sym (ap indicator_number (guarded (leb n 129) NotAllowed (Some n) x w.1))
    ]

pub indicator_law : IsFormat indicator_format
indicator_law = byte_law _ _ indicator_rule

pub shows_law : IsFormat shows_format
unfolding shows_format
shows_law = row_law _ _ _ (λ a h. refl) (λ x. refl) (pair_law _ _ indicator_law (λ plus. pair_law _ _ indicator_law (λ minus. indicator_law)))

pub condition_law : IsFormat condition_format
unfolding condition_format
condition_law = row_law _ _ _ (λ a h. refl) (λ x. refl) (pair_law _ _ yes_or_no_law (λ is_negated. byte_where_law (is_between 1 129)))

pub alternative_law : IsFormat alternative
unfolding alternative
alternative_law = counted_law 60 condition_format condition_law

-- ---- bits

abbrev bits : Bool → Bool → Bool → ℕ
bits x y z = bit 1 x + bit 2 y + bit 4 z

-- a number of three bits
pub record HasBits (x y z : Bool) (n : ℕ) : Type 0 where
  pub small : leb n 7 ≡ true
  pub first : has_bit 1 n ≡ x
  pub second : has_bit 2 n ≡ y
  pub third : has_bit 4 n ≡ z

pub has_bits : (x y z : Bool) → HasBits x y z (bits x y z)
has_bits true true true = record { small = refl; first = refl; second = refl; third = refl }
has_bits true true false = record { small = refl; first = refl; second = refl; third = refl }
has_bits true false true = record { small = refl; first = refl; second = refl; third = refl }
has_bits true false false = record { small = refl; first = refl; second = refl; third = refl }
has_bits false true true = record { small = refl; first = refl; second = refl; third = refl }
has_bits false true false = record { small = refl; first = refl; second = refl; third = refl }
has_bits false false true = record { small = refl; first = refl; second = refl; third = refl }
has_bits false false false = record { small = refl; first = refl; second = refl; third = refl }

bits_again : (n : ℕ) → n ≤ 7 → bits (has_bit 1 n) (has_bit 2 n) (has_bit 4 n) ≡ n
bits_again zero h = refl
bits_again (suc zero) h = refl
bits_again (suc (suc zero)) h = refl
bits_again (suc (suc (suc zero))) h = refl
bits_again (suc (suc (suc (suc zero)))) h = refl
bits_again (suc (suc (suc (suc (suc zero))))) h = refl
bits_again (suc (suc (suc (suc (suc (suc zero)))))) h = refl
bits_again (suc (suc (suc (suc (suc (suc (suc zero))))))) h = refl
bits_again (suc (suc (suc (suc (suc (suc (suc (suc n)))))))) h = absurd (omega arith)

-- ---- three conditions

indicator_there : (b : Bool) (o : Option ℕ) → indicator_in (condition_with b o) ≡ o
indicator_there b None = refl
indicator_there b (Some n) = refl

negation_there : (o : Option ℕ) (b : Bool) → may_negate o b ≡ true → is_negation (condition_with b o) ≡ b
negation_there None true h = cc
negation_there None false h = refl
negation_there (Some n) b h = refl

condition_back : (o : Option Condition) → condition_with (is_negation o) (indicator_in o) ≡ o
condition_back None = refl
condition_back (Some c) = refl

abbrev three : Option Condition → Option Condition → Option Condition → Conditions
three a b c = record { first = a; second = b; third = c }

pub conditions_back : (cs : Conditions) → conditions_of (indicators_of cs) (negations_of cs) ≡ cs
conditions_back cs =
    let n = negations_of cs in
    let b = has_bits (is_negation cs.first) (is_negation cs.second) (is_negation cs.third) in
    let one : condition_with (has_bit 1 n) (indicator_in cs.first) ≡ cs.first = ap (λ t. condition_with t (indicator_in cs.first)) b.first ∙ condition_back cs.first in
    let two : condition_with (has_bit 2 n) (indicator_in cs.second) ≡ cs.second = ap (λ t. condition_with t (indicator_in cs.second)) b.second ∙ condition_back cs.second in
    let last : condition_with (has_bit 4 n) (indicator_in cs.third) ≡ cs.third = ap (λ t. condition_with t (indicator_in cs.third)) b.third ∙ condition_back cs.third in
    ap (λ o. three o (condition_with (has_bit 2 n) (indicator_in cs.second)) (condition_with (has_bit 4 n) (indicator_in cs.third))) one
    ∙ ap (λ o. three cs.first o (condition_with (has_bit 4 n) (indicator_in cs.third))) two
    ∙ ap (λ o. three cs.first cs.second o) last

abbrev shown : Option ℕ → Option ℕ → Option ℕ → Shows
shown a b c = record { plus = a; minus = b; zero = c }

pub indicators_there : (s : Shows) (n : ℕ) → indicators_of (conditions_of s n) ≡ s
indicators_there s n =
    ap (λ o. shown o (indicator_in (condition_with (has_bit 2 n) s.minus)) (indicator_in (condition_with (has_bit 4 n) s.zero))) (indicator_there (has_bit 1 n) s.plus)
    ∙ ap (λ o. shown s.plus o (indicator_in (condition_with (has_bit 4 n) s.zero))) (indicator_there (has_bit 2 n) s.minus)
    ∙ ap (λ o. shown s.plus s.minus o) (indicator_there (has_bit 4 n) s.zero)

pub negations_there : (s : Shows) (n : ℕ) → are_negations s n ≡ true → negations_of (conditions_of s n) ≡ n
negations_there s n h =
    let all = and_parts (leb n 7) _ h in
    let two = and_parts (may_negate s.plus (has_bit 1 n)) _ all.1 in
    let last = and_parts (may_negate s.minus (has_bit 2 n)) (may_negate s.zero (has_bit 4 n)) two.1 in
    ap (λ t. bits t (is_negation (condition_with (has_bit 2 n) s.minus)) (is_negation (condition_with (has_bit 4 n) s.zero))) (negation_there s.plus (has_bit 1 n) two.0)
    ∙ ap (λ t. bits (has_bit 1 n) t (is_negation (condition_with (has_bit 4 n) s.zero))) (negation_there s.minus (has_bit 2 n) last.0)
    ∙ ap (λ t. bits (has_bit 1 n) (has_bit 2 n) t) (negation_there s.zero (has_bit 4 n) last.1)
    ∙ bits_again n (leb-true _ _ all.0)

abbrev paired : Shows → ℕ → Shows × ℕ
paired s n = (s, n)

pub conditions_law : IsFormat conditions_format
unfolding conditions_format pair byte
conditions_law =
    row_law _ _ _
    (λ a h. ap (λ s. paired s (negations_of (conditions_of a.0 a.1))) (indicators_there a.0 a.1) ∙ ap (λ n. paired a.0 n) (negations_there a.0 a.1 (passed (are_negations a.0) a.1 h.1.0)))
    conditions_back
    (pair_law _ _ shows_law (λ s. byte_where_law (are_negations s)))
