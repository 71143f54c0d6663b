-- What indicators and conditions keep, in plain words, and back.
use Rattle.std.proofs.Common.{◌≡◌, ℕ, ◌<◌, Bool, true, not, cond, List, length, Option, Some, None, Ok, Err, refl, ap, arith, inl, inr, eqb, leb, ne_eqb}
use Rattle.std.specs.Option.{ForSome}
use Rattle.std.proofs.lemmas.Bool.{and_from, eqb-false, le-leb, leb-true}
use Rattle.rpg_program.specs.declared.condition.Condition.{Condition}
use Rattle.rpg_program.specs.declared.condition.Conditions.{Conditions}
use Rattle.rpg_program.specs.declared.operation.Shows.{Shows}
use Rattle.rpg_object_format.specs.declared.fault.Code.TheVariants.{NotAllowed}
use Rattle.rpg_object_format.specs.Format.{byte, pair, row, two_bytes}
use Rattle.rpg_object_format.specs.Numbers.{allowed}
use Rattle.rpg_object_format.proofs.Rules.{chosen, stands_for}
use Rattle.rpg_program.specs.Kept.{AreConditions, AreIndicators, IsAlternativeRow, IsConditionRow, IsIndicator}
use Rattle.rpg_object_format.specs.Indicators.{alternative, are_negations, condition_format, conditions_format, has_bit, indicator_by_number, indicator_format, indicator_in, indicators_of, is_negation, may_negate, negations_of, shows_format}
use Rattle.rpg_object_format.proofs.Choices.{all_from_table, between, counted, few, flag_from, some_is, table_from_all, taken, within}
use Rattle.rpg_object_format.proofs.IndicatorLaws.{has_bits}

-- ---- indicators

in_range : (n : ℕ) → indicator_by_number n ≡ Ok (Some n) → IsIndicator n
in_range n e =
    elim (chosen (eqb n 0) (stands_for None) (cond (leb n 129) (stands_for (Some n)) (Err NotAllowed)) (stands_for (Some n)) e) [
      | inl w ↦ absurd (let k = w.1 in cc)
      | inr w ↦ elim (chosen (leb n 129) (stands_for (Some n)) (Err NotAllowed) (stands_for (Some n)) w.1) [
        | inl u ↦ let no = eqb-false n 0 w.0 in record { lowest = omega arith; highest = leb-true _ _ u.0 }
        | inr u ↦ absurd (let k = u.1 in cc)
      ]
    ]

pub indicator_kept : (o : Option ℕ) → indicator_format.Holds o → ForSome o IsIndicator
unfolding byte
indicator_kept None h = λ n e. absurd (let k = e in cc)
indicator_kept (Some n) h = λ m e. rw (← some_is n m e) (in_range n h.0)

pub indicator_from : (o : Option ℕ) → ForSome o IsIndicator → indicator_format.Holds o
unfolding byte
indicator_from None h = (refl, omega arith)
indicator_from (Some n) h = let k = h n refl in (rw (ne_eqb n 0 (omega (arith, k.lowest)), le-leb n 129 k.highest) refl, omega (arith, k.highest))

pub shows_kept : (s : Shows) → shows_format.Holds s → AreIndicators s
unfolding shows_format pair row
shows_kept s h = record { plus = indicator_kept s.plus h.0; minus = indicator_kept s.minus h.1.0; zero = indicator_kept s.zero h.1.1 }

pub shows_from : (s : Shows) → AreIndicators s → shows_format.Holds s
unfolding shows_format pair row
shows_from s h = (indicator_from s.plus h.plus, (indicator_from s.minus h.minus, indicator_from s.zero h.zero))

-- ---- conditions of an alternative

condition_kept : (c : Condition) → condition_format.Holds c → IsConditionRow c
unfolding condition_format pair row byte
condition_kept c h = let k = within 1 129 c.indicator h.1.0 in record { indicator = record { lowest = k.0; highest = k.1 } }

condition_from : (c : Condition) → IsConditionRow c → condition_format.Holds c
unfolding condition_format pair row byte
condition_from c h = let small = h.indicator.highest in (flag_from c.is_negated, (between 1 129 c.indicator h.indicator.lowest h.indicator.highest, omega arith))

pub alternative_kept : (a : List Condition) → alternative.Holds a → IsAlternativeRow a
unfolding alternative pair row two_bytes
alternative_kept a h = record { few = counted 60 (length a) h.0.0; each = all_from_table condition_format IsConditionRow condition_kept (length a) a h.1 }

pub alternative_from : (a : List Condition) → IsAlternativeRow a → alternative.Holds a
unfolding alternative pair row two_bytes
alternative_from a h = let small = h.few in ((few 60 (length a) h.few, omega arith), table_from_all condition_format IsConditionRow condition_from a h.each)

-- ---- three conditions

condition_is : (o : Option Condition) → ForSome (indicator_in o) IsIndicator → ForSome o IsConditionRow
condition_is None h = λ c e. absurd (let k = e in cc)
condition_is (Some c) h = λ d e. let there : IsConditionRow c = record { indicator = h c.indicator refl } in rw (← some_is c d e) there

condition_in : (o : Option Condition) → ForSome o IsConditionRow → ForSome (indicator_in o) IsIndicator
condition_in None h = λ n e. absurd (let k = e in cc)
condition_in (Some c) h = λ n e. rw (← some_is c.indicator n e) (h c refl).indicator

pub are_conditions : (cs : Conditions) → AreIndicators (indicators_of cs) → AreConditions cs
are_conditions cs h = record { first = condition_is cs.first h.plus; second = condition_is cs.second h.minus; third = condition_is cs.third h.zero }

pub indicators_in : (cs : Conditions) → AreConditions cs → AreIndicators (indicators_of cs)
indicators_in cs h = record { plus = condition_in cs.first h.first; minus = condition_in cs.second h.second; zero = condition_in cs.third h.third }

negatable : (o : Option Condition) (b : Bool) → b ≡ is_negation o → may_negate (indicator_in o) b ≡ true
negatable None b e = ap not e
negatable (Some c) b e = refl

negations_from : (cs : Conditions) → are_negations (indicators_of cs) (negations_of cs) ≡ true
negations_from cs =
    let n = negations_of cs in
    let b = has_bits (is_negation cs.first) (is_negation cs.second) (is_negation cs.third) in
    let one = negatable cs.first (has_bit 1 n) b.first in
    let two = negatable cs.second (has_bit 2 n) b.second in
    let last = negatable cs.third (has_bit 4 n) b.third in
    and_from (leb n 7) _ b.small (and_from (may_negate (indicator_in cs.first) (has_bit 1 n)) _ one (and_from (may_negate (indicator_in cs.second) (has_bit 2 n)) (may_negate (indicator_in cs.third) (has_bit 4 n)) two last))

-- N bits of conditions, as their number
pub record AreNegations (cs : Conditions) : Type 0 where
  pub allowed_so : allowed (are_negations (indicators_of cs)) (negations_of cs) ≡ Ok (negations_of cs)
  pub small : negations_of cs < 256

pub negations_hold : (cs : Conditions) → AreNegations cs
negations_hold cs =
    let small = leb-true (negations_of cs) 7 (has_bits (is_negation cs.first) (is_negation cs.second) (is_negation cs.third)).small in
    record { allowed_so = taken (are_negations (indicators_of cs)) (negations_of cs) (negations_from cs); small = omega (arith, small) }

pub conditions_kept : (cs : Conditions) → conditions_format.Holds cs → AreConditions cs
unfolding conditions_format pair row
conditions_kept cs h = are_conditions cs (shows_kept (indicators_of cs) h.0)

pub conditions_from : (cs : Conditions) → AreConditions cs → conditions_format.Holds cs
unfolding conditions_format pair row byte
conditions_from cs h = let n = negations_hold cs in (shows_from (indicators_of cs) (indicators_in cs h), (n.allowed_so, n.small))
