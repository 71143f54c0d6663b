-- What phases take, and that all of them together are within the bound.
use Rattle.rpg_paper.specs.Form.{line_of}
use Rattle.std.proofs.Common.{◌≡◌, ℕ, ◌≤◌, ◌<◌, ◌+◌, ◌-◌, ◌*◌, ◌^◌, Bool, true, false, cond, leb, List, [], ◌∷◌, length, slice_get, slice_index, Option, None, Some, is_some, refl, ap, ◌∙◌, subst, arith}
use Rattle.std.proofs.lemmas.Bool.Decides.{nat_tests}
use Rattle.rpg_paper.specs.Paper.{Position}
use Rattle.rpg_program.specs.Ends as effects
use Rattle.rpg_program.specs.Input.{TypeRow}
use Rattle.rpg_program.specs.Lines as lines
use Rattle.rpg_program.specs.Weights.{is_at_detail, is_at_total, is_in_cycle, line_weight, lines_weight, types_weight}
use Rattle.rpg_program.specs.declared.line.Time.{Time}
use Rattle.rpg_program.specs.declared.line.Time.TheVariants as times
use Rattle.rpg_cycle.proofs.Composing.{of_none}
use Rattle.rpg_cycle.proofs.Turning.{Keeps, off_keeps}
use Rattle.rpg_cycle_records.proofs.Weighing.{all_paid, matches_sum, moved_sum, one_row, row_moved, two_rows}
use Rattle.rpg_cycle_records.specs.Earlier.{file_of, levels_of}
use Rattle.rpg_cycle_records.specs.Paying.{moved_of}
use Rattle.std.specs.Option.{ForSome}
use Rattle.rpg_program.specs.declared.input.InputFile.TheVariants.{Primary, Secondary}
use Rattle.rpg_cycle.specs.Indicators.{level_indicators, with_all}
use Rattle.rpg_cycle.specs.Phases.{all_off, has_no_overflow}
use Rattle.rpg_cycle.specs.Spending.{SpendsSelecting, Spends, SpendsTakingIn, compared_weight, cycle_weight, fields_weight, full_page_weight, matched_weight, phases_weight, reach, record_weight, section_cost, totals_weight}
use Rattle.rpg_machine.specs.Config.{Config, charged}
use Rattle.rpg_machine.specs.Potential.{PaysForSection}
use Rattle.rpg_machine.specs.Outputs.{FillsFields, Outputs, inputs_at, input_fields_of, output_weight}
use Rattle.rpg_machine.specs.Running.{Did, Running, refilled, with_indicator}
use Rattle.rpg_machine.specs.declared.time.OutputTime.{OutputTime}
use Rattle.rpg_machine.specs.declared.time.OutputTime.TheVariants as outputs
use Rattle.rpg_program.specs.Object.{Object, lines_of}
use Rattle.rpg_program.specs.Sections.{first_place}
use Rattle.rpg_program.specs.declared.section.Section.{Section}
use Rattle.rpg_program.specs.declared.section.Section.TheVariants as sections
use Rattle.rpg_verify.specs.Bound.{bound, cost_in, most}
use Rattle.rpg_verify.specs.Bound as bounds

-- ---- single phases

reach_of : (p : Object) (n : ℕ) (a b : Running) → b.config.steps ≡ a.config.steps + n → b.config.allowance ≡ a.config.allowance → Spends p n a b
reach_of p n a b s l = record { few = omega (arith, s, ap (λ (k : ℕ). k * most p) l) }

pub same_reach : (p q : Object) (a b : Running) → b ≡ record a { config = all_off q a.config } → Spends p 0 a b
same_reach p q a b is =
    let k = off_keeps q a.config in
    reach_of p 0 a b (ap (λ (r : Running). r.config.steps) is ∙ k.steps ∙ zero-right a.config.steps) (ap (λ (r : Running). r.config.allowance) is ∙ k.allowance)
  where
    zero-right : (n : ℕ) → n ≡ n + 0
    zero-right n = omega arith

-- nothing costs no more than anything
pub costs_none : (p : Object) (n : ℕ) (a : Running) → Spends p n a a
costs_none p n a = record { few = more (reach p a) n }
  where
    more : (x n : ℕ) → x ≤ x + n
    more x n = omega arith

-- an indicator costs nothing
pub turns_free : (p : Object) (n : ℕ) (on : Bool) (a b : Running) → b ≡ with_indicator n on a → Spends p 0 a b
turns_free p n on a b is = reach_of p 0 a b (ap (λ (r : Running). r.config.steps) is ∙ zero-right a.config.steps) (ap (λ (r : Running). r.config.allowance) is)
  where
    zero-right : (n : ℕ) → n ≡ n + 0
    zero-right n = omega arith

-- a full page is output only where there is an overflow indicator
pub page_spends : (p : Object) (c : Config) {a b : Running} → has_no_overflow p.overflow.indicator c ≡ false → Spends p (output_weight p outputs.Overflow) a b → Spends p (full_page_weight p) a b
page_spends p c {a} {b} off s = subst (λ (n : ℕ). Spends p n a b) (weight p.overflow.indicator c (output_weight p outputs.Overflow) off) s
  where
    weight : (o : Option ℕ) (c : Config) (w : ℕ) → has_no_overflow o c ≡ false → w ≡ cond (is_some o) w 0
    weight None c w h = cc
    weight (Some n) c w h = refl

-- some line may have been placed before
pub some_before : (last : Option ℕ) → (previous : Option Position) × (last ≡ line_of previous)
some_before None = (None, refl)
some_before (Some n) = (Some (record { page = 1; line = n }), refl)

-- a section, which keeps within its bound
pub section_spends : (s : Section) (a b : Running) → PaysForSection s a b → Spends a.program (section_cost a.program s) a b
section_spends s a b low = record { few = in_order a.config.steps (section_cost a.program s) (a.config.allowance * most a.program) (reach a.program b) low }
  where
    in_order : (x y z n : ℕ) → n ≤ x + y + z → n ≤ x + z + y
    in_order x y z n h = omega (arith, h)

-- what the machine outputs, and the fields that it fills
pub output_spends : (time : OutputTime) (e : effects.End) (a b : Running) → Did (Outputs a.program time) a e b → Spends a.program (output_weight a.program time) a b
output_spends time e a b d =
    let o = some_before a.last in
    let x = (d.following o.0 o.1).act.leads in
    reach_of a.program (output_weight a.program time) a b (ap (λ (c : Config). c.steps) x) (ap (λ (c : Config). c.allowance) x)

pub fields_spend : (t : ℕ) (text : List ℕ) (e : effects.End) (a b : Running) → Did (FillsFields a.program t text) a e b → Spends a.program (length (inputs_at a.program t)) a b
fields_spend t text e a b d =
    let o = some_before a.last in
    let x = (d.following o.0 o.1).act.leads in
    reach_of a.program (length (inputs_at a.program t)) a b (ap (λ (c : Config). c.steps) x) (ap (λ (c : Config). c.allowance) x)

-- what a machine spent of its own program is spent of one that is the same
pub of_same : (w : Object → ℕ) {p : Object} {a b : Running} → a.program ≡ p → Spends a.program (w a.program) a b → Spends p (w p) a b
of_same w {p} {a} {b} same h = subst (λ (q : Object). Spends q (w q) a b) same h

-- ---- one phase after another

chained : (x y z n m : ℕ) → y ≤ x + n → z ≤ y + m → z ≤ x + (n + m)
chained x y z n m h g = omega (arith, h, g)

widened : (x y n m : ℕ) → y ≤ x + n → y ≤ x + (n + m)
widened x y n m h = omega (arith, h)

pub and_then : {p : Object} {n m : ℕ} {a b c : Running} → Spends p n a b → Spends p m b c → Spends p (n + m) a c
and_then {p} {n} {m} {a} {b} {c} h g = record { few = chained (reach p a) (reach p b) (reach p c) n m h.few g.few }

pub and_less : {p : Object} {n : ℕ} (m : ℕ) {a b : Running} → Spends p n a b → Spends p (n + m) a b
and_less {p} {n} m {a} {b} h = record { few = widened (reach p a) (reach p b) n m h.few }

pub at_no_cost : {p : Object} {n : ℕ} {a b c : Running} → Spends p n a b → Spends p 0 b c → Spends p n a c
at_no_cost {p} {n} {a} {b} {c} h g = record { few = unpaid (reach p a) (reach p b) (reach p c) n h.few g.few }
  where
    unpaid : (x y z n : ℕ) → y ≤ x + n → z ≤ y + 0 → z ≤ x + n
    unpaid x y z n h g = omega (arith, h, g)

-- ---- the trying of types

-- ---- the records that are taken in, and the one that is selected

matched_both : (p : Object) (j k : Option ℕ) → ForSome j (λ t. file_of (slice_get p.types t) ≡ Primary) → ForSome k (λ t. file_of (slice_get p.types t) ≡ Secondary) →
    matched_weight p j + matched_weight p k ≤ matches_sum p.types
matched_both p None None e f = omega arith
matched_both p (Some j) None e f = let h = one_row p.types j in omega (arith, h)
matched_both p None (Some k) e f = let h = one_row p.types k in omega (arith, h)
matched_both p (Some j) (Some k) e f = two_rows p.types j k (e j refl) (f k refl)

moved_is : (o : Option (TypeRow ℕ)) → length (levels_of o) + length (input_fields_of o) ≡ moved_of o
moved_is None = refl
moved_is (Some t) = refl

moved_row : (p : Object) (t : Option ℕ) → compared_weight p t + fields_weight p t ≤ moved_sum p.types
moved_row p None = omega arith
moved_row p (Some t) = let h = row_moved p.types t in let e = moved_is (slice_get p.types t) in omega (arith, h, e)

-- nothing was taken in and nothing selected: only indicators turned on
pub turned_paid : (p : Object) (a b : Running) → b ≡ record a { config = with_all level_indicators true a.config } → SpendsSelecting p None a b
turned_paid p a b is = record { few = free (reach p a) (reach p b) (types_weight p.types) (ap (λ (r : Running). reach p r) is) }
  where
    free : (x y w : ℕ) → y ≡ x → y + 0 ≤ x + w
    free x y w h = omega (arith, h)

-- the primary's record was taken in
pub taken_paid : (p : Object) (a b : Running) → SpendsTakingIn p Primary a b → Spends p (types_weight p.types) a b
taken_paid p a b x =
    let m = matched_both p x.row None x.own (of_none (λ t. file_of (slice_get p.types t) ≡ Secondary)) in
    let w = all_paid p.types x.text [] in
    record { few = paid (reach p a) (reach p b) _ _ _ _ _ (types_weight p.types) x.few m w }
  where
    paid : (r s x y m n v w : ℕ) → s ≤ r + (x + y) → y + 0 ≤ m → x + v + m + n ≤ w → s ≤ r + w
    paid r s x y m n v w h g k = omega (arith, h, g, k)

-- those of both files were
pub both_taken : (p : Object) (a b c : Running) → SpendsTakingIn p Primary a b → SpendsTakingIn p Secondary b c → Spends p (types_weight p.types) a c
both_taken p a b c x y =
    let m = matched_both p x.row y.row x.own y.own in
    let w = all_paid p.types x.text y.text in
    record { few = paid (reach p a) (reach p b) (reach p c) _ _ _ _ _ _ (types_weight p.types) x.few y.few m w }
  where
    paid : (r s t x y v z m n w : ℕ) → s ≤ r + (x + y) → t ≤ s + (v + z) → y + z ≤ m → x + v + m + n ≤ w → t ≤ r + w
    paid r s t x y v z m n w h g k l = omega (arith, h, g, k, l)

-- and one was selected
pub both_paid : (p : Object) (t : Option ℕ) (a b c d : Running) → SpendsTakingIn p Primary a b → SpendsTakingIn p Secondary b c → Spends p (compared_weight p t) c d → SpendsSelecting p t a d
both_paid p t a b c d x y z =
    let m = matched_both p x.row y.row x.own y.own in
    let w = all_paid p.types x.text y.text in
    let n = moved_row p t in
    record { few = paid (reach p a) (reach p b) (reach p c) (reach p d) _ _ _ _ _ _ _ _ (types_weight p.types) x.few y.few z.few m n w }
  where
    paid : (r s t u x y v z m n k i w : ℕ) → s ≤ r + (x + y) → t ≤ s + (v + z) → u ≤ t + k → y + z ≤ m → k + i ≤ n → x + v + m + n ≤ w → u + i ≤ r + w
    paid r s t u x y v z m n k i w h g j l o q = omega (arith, h, g, j, l, o, q)

-- the steps and the allowance alone
pub keeps_reach : (p : Object) (n : ℕ) (a b : Running) (d : Config) → b ≡ record a { config = d } → Keeps (charged n a.config) d → Spends p n a b
keeps_reach p n a b d is k = reach_of p n a b (ap (λ (r : Running). r.config.steps) is ∙ k.steps) (ap (λ (r : Running). r.config.allowance) is ∙ k.allowance)

-- ---- all phases

line_split : (time : Time) (w d t o : ℕ) → d + t ≡ o → (cond (is_at_detail time) w 0 + d) + (cond (is_at_total time) w 0 + t) ≡ cond (is_in_cycle time) w 0 + o
line_split times.Heading w d t o h = omega arith
line_split times.Detail w d t o h = omega arith
line_split times.Total w d t o h = omega arith
line_split times.Exception w d t o h = omega arith

lines_split : (ls : List (lines.Line ℕ)) → lines_weight is_at_detail ls + lines_weight is_at_total ls ≡ lines_weight is_in_cycle ls
lines_split [] = refl
lines_split (l ∷ ls) = line_split l.time (line_weight l) (lines_weight is_at_detail ls) (lines_weight is_at_total ls) (lines_weight is_in_cycle ls) (lines_split ls)

leb-same : (n : ℕ) → leb n n ≡ true
leb-same n = grind (arith, nat_tests)

minus-same : (n : ℕ) → n - n ≡ 0
minus-same n = omega arith

cost_at : (first : ℕ) (costs : List ℕ) → cost_in first costs first ≡ slice_index costs 0
cost_at first costs = rw (leb-same first) (rw (minus-same first) refl)

detail_cost : (p : Object) → section_cost p sections.Detail ≡ bounds.first_cost p 0 p.detail
unfolding first_place
detail_cost p = cost_at 0 (bounds.costs_at p 0 p.detail)

total_cost : (p : Object) → section_cost p sections.Total ≡ bounds.first_cost p (length p.detail) p.total
unfolding first_place
total_cost p = cost_at (length p.detail) (bounds.costs_at p (length p.detail) p.total)

output_twice : (b : Bool) (w : ℕ) → cond b (w + w) w ≡ w + cond b w 0
output_twice true w = refl
output_twice false w = omega arith

pub within_bound : (p : Object) → cycle_weight p ≤ bound p
unfolding bound
within_bound p =
    omega (arith, detail_cost p, total_cost p, lines_split (lines_of p), output_twice (is_some p.overflow.indicator) (lines_weight is_in_cycle (lines_of p)))

-- ---- from the first phase on

-- what a machine reaches where its allowance is full
pub full_reach : (p : Object) (a b : Running) → a.program ≡ p → b ≡ refilled a → reach p b ≡ p.allowance * most p
full_reach p a b same is =
    let one = ap (λ (r : Running). reach p r) is in
    let two = ap (λ (q : Object). q.allowance * most p) same in
    omega (arith, one, two)

-- so all phases are few, and within the bound
in_all : (r0 full d t o f c b : ℕ) → r0 ≡ full → full + d + t + o + f + c ≤ b → r0 + (d + (t + (o + (f + c)))) ≤ b
in_all r0 full d t o f c b e h = omega (arith, e, h)

in_bits : (x b : ℕ) → x ≤ b → b < 2 ^ 48 → x ≤ 2 ^ 48
in_bits x b h low = omega (arith, h, low)

in_bound : (s x r0 r1 w b : ℕ) → s + x ≤ r1 → r1 ≤ r0 + w → r0 + w ≤ b → s ≤ b
in_bound s x r0 r1 w b h g k = omega (arith, h, g, k)

same_n : (n : ℕ) → n ≤ n
same_n n = omega arith

module _ (p : Object) (a : Running) (full : reach p a ≡ p.allowance * most p) where
  within : reach p a + phases_weight p ≤ bound p
  within = in_all (reach p a) (p.allowance * most p) _ _ _ _ _ (bound p) full (within_bound p)

  pub phases_few : bound p < 2 ^ 48 → reach p a + phases_weight p ≤ 2 ^ 48
  phases_few low = in_bits _ (bound p) within low

  pub phases_bounded : (b : Running) → Spends p (phases_weight p) a b → b.config.steps ≤ bound p
  phases_bounded b s = in_bound b.config.steps (b.config.allowance * most p) (reach p a) (reach p b) (phases_weight p) (bound p) (same_n _) s.few within

-- ---- the phases from the selection on

left_to_pay : (x y i t o f d k : ℕ) → x + (t + (o + (f + d))) ≤ k → y + i ≤ x + t → y + (o + (f + (i + d))) ≤ k
left_to_pay x y i t o f d k h g = omega (arith, h, g)

-- a record was selected, and those that follow are still to come
pub selected_few : {p : Object} {t : Option ℕ} (k : ℕ) {a b : Running} →
    SpendsSelecting p t a b → reach p a + (types_weight p.types + (totals_weight p + (full_page_weight p + section_cost p sections.Detail))) ≤ k →
    reach p b + record_weight p t ≤ k
selected_few {p} {t} k {a} {b} s few = left_to_pay (reach p a) (reach p b) (fields_weight p t) (types_weight p.types) (totals_weight p) (full_page_weight p) (section_cost p sections.Detail) k few s.few

paid : (x y z i t o f d : ℕ) → y + i ≤ x + t → z ≤ y + (o + (f + (i + d))) → z ≤ x + (t + (o + (f + d)))
paid x y z i t o f d h g = omega (arith, h, g)

-- and then they were done
pub selected_then : {p : Object} {t : Option ℕ} {a b c : Running} → SpendsSelecting p t a b → Spends p (record_weight p t) b c →
    Spends p (types_weight p.types + (totals_weight p + (full_page_weight p + section_cost p sections.Detail))) a c
selected_then {p} {t} {a} {b} {c} s h = record {
  few = paid (reach p a) (reach p b) (reach p c) (fields_weight p t) (types_weight p.types) (totals_weight p) (full_page_weight p) (section_cost p sections.Detail) s.few h.few;
}
