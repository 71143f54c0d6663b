-- A run has at most one cycle more than there are records.
use Rattle.std.proofs.Common.{◌≡◌, ℕ, zero, suc, ◌+◌, ◌≤◌, Bool, true, false, cond, not, ◌&&◌, ◌||◌, List, [], ◌∷◌, length, slice_get, Option, None, Some, is_none, refl, sym, ap, ◌∙◌, subst, arith}
use Rattle.std.specs.List.{list_all}
use Rattle.rpg_program.specs.declared.input.InputFile.{InputFile}
use Rattle.rpg_program.specs.declared.input.InputFile.TheVariants.{Primary, Secondary}
use Rattle.rpg_machine.specs.Config.{Config, Output, charged}
use Rattle.rpg_machine.specs.Outputs.{Outputs}
use Rattle.rpg_machine.specs.declared.time.OutputTime.TheVariants as times
use Rattle.rpg_program.specs.Object.{Object}
use Rattle.rpg_cycle.proofs.InTurn.{both_on}
use Rattle.rpg_cycle.proofs.Cycling.{Stays, at_totals, after_4, after_match, by_act, from_selection, keeps, same, settled_still, stay}
use Rattle.rpg_cycle.proofs.Taking.{takes}
use Rattle.rpg_cycle.specs.Counting.{one_for_record, records_count, waiting_count}
use Rattle.rpg_cycle_records.specs.Earlier.{Left, Selected, control_fields, left_by, match_value, with_record}
use Rattle.rpg_program.specs.Ends as effects
use Rattle.rpg_cycle.specs.Ends.{PhaseEnd, Continues, EndOfJob, Halt, Wrong}
use Rattle.rpg_cycle.specs.Indicators.{any_on, halt_indicators, is_on, last_record, level_indicators, with_all, with_levels, with_type}
use Rattle.rpg_cycle_records.specs.Levels.{is_in_record}
use Rattle.rpg_cycle_records.specs.Merging.{AreMergedInOrder}
use Rattle.rpg_cycle.specs.Phases.{Cycle, Done, UnderWay, begun, broken_level, detail_lines, without_output, done, either, end_where_last, halt_if_indicated, overflow_lines, type_indicator, is_bypassed, needs_record, read_record, select_one, select_from, select_record, select_waiting, set_off, show_match, take_in, total_time, with_config, with_inputs, ◌before◌}
use Rattle.rpg_cycle.specs.Staging.{after_selection}
use Rattle.rpg_cycle.specs.Runs.{Course, Records, RunsIn, ends_or, left_following, next_of, rest_where_needed}
use Rattle.rpg_cycle_records.specs.Waiting.{InputState, Inputs, chosen, first_of, has_match, is_after_end, with_file_over, takes_in, waiting_in, with_waiting}

-- ---- taking in

few_wait : (o : Option Selected) → one_for_record o ≤ 1
few_wait None = omega arith
few_wait (Some s) = omega arith

over_waits : (f : InputFile) (i : Inputs) → one_for_record (waiting_in (with_file_over f i) f) ≡ 0
over_waits Primary i = refl
over_waits Secondary i = refl

ended : (p : Object) (left : Left) (f : InputFile) (c d : UnderWay) (b : Bool) → b ≡ true →
    d ≡ (let r : Done = cond b (read_record p left f None c) (done Continues c) in r).leads → one_for_record (waiting_in d.inputs f) ≡ 0
ended p left f c d true e leads = ap (λ (u : UnderWay). one_for_record (waiting_in u.inputs f)) leads ∙ over_waits f c.inputs
ended p left f c d false e leads = cc

untouched : (p : Object) (left : Left) (f : InputFile) (next : Option (List ℕ)) (c d : UnderWay) (b : Bool) → b ≡ false →
    d ≡ (let r : Done = cond b (read_record p left f next c) (done Continues c) in r).leads → d.inputs ≡ c.inputs
untouched p left f next c d true e leads = cc
untouched p left f next c d false e leads = ap (λ (u : UnderWay). u.inputs) leads

-- what waits in the file and what is left of it are no more than before
taken : (p : Object) (left : Left) (f : InputFile) (n t : Bool) (rs : List (List ℕ)) (c d : UnderWay) (out : Output) → takes_in p c.inputs f ≡ t → (t ≡ false → n ≡ false) →
    take_in p left f (next_of n rs) c Continues d out → one_for_record (waiting_in d.inputs f) + length (rest_where_needed n rs) ≤ one_for_record (waiting_in c.inputs f) + length rs
taken p left f true true [] c d out is fits g = let z = ended p left f c d (takes_in p c.inputs f) is g.1 in omega (arith, z)
taken p left f true true (r ∷ rs) c d out is fits g = let z = few_wait (waiting_in d.inputs f) in omega (arith, z)
taken p left f false true rs c d out is fits g = let z = ended p left f c d (takes_in p c.inputs f) is g.1 in omega (arith, z)
taken p left f true false rs c d out is fits g = let e : true ≡ false = fits refl in absurd (cc)
taken p left f false false rs c d out is fits g =
    let z : one_for_record (waiting_in d.inputs f) ≡ one_for_record (waiting_in c.inputs f) = ap (λ (i : Inputs). one_for_record (waiting_in i f)) (untouched p left f None c d (takes_in p c.inputs f) is g.1) in omega (arith, z)

-- ---- selecting

out_of : (f : InputFile) (i : Inputs) (s : Selected) → waiting_in i f ≡ Some s → waiting_count (with_waiting f None i) + 1 ≡ waiting_count i
out_of Primary i s e = let z : one_for_record i.primary.waiting ≡ 1 = ap one_for_record e in omega (arith, z)
out_of Secondary i s e = let z : one_for_record i.secondary.waiting ≡ 1 = ap one_for_record e in omega (arith, z)

by_levels : (f : InputFile) (i : Inputs) (d : UnderWay) (b : Bool) (x y : UnderWay) → x.inputs ≡ with_waiting f None i →
    Continues ≡ (let r : Done = cond b (done Continues x) (done (Wrong effects.Storage) y) in r).end → d ≡ (let r : Done = cond b (done Continues x) (done (Wrong effects.Storage) y) in r).leads → d.inputs ≡ with_waiting f None i
by_levels f i d true x y e goes leads = ap (λ (u : UnderWay). u.inputs) leads ∙ e
by_levels f i d false x y e goes leads = absurd (cc)

from_file : (p : Object) (left : Left) (f : InputFile) (s : Selected) (c d : UnderWay) → waiting_in c.inputs f ≡ Some s →
    Continues ≡ (select_waiting p left f (waiting_in c.inputs f) c).end → d ≡ (select_waiting p left f (waiting_in c.inputs f) c).leads → waiting_count d.inputs + 1 ≡ waiting_count c.inputs
from_file p left f s c d w goes leads =
    let c' = with_config (with_type (type_indicator (slice_get p.types s.type))) (with_inputs (with_waiting f None) c) in
    let e = by_levels f c.inputs d (list_all (is_in_record (length s.text)) (control_fields p s.type))
    (with_config (λ x. with_levels (broken_level p left s) (charged (length (control_fields p s.type)) x)) (record c' { selected = Some s }))
    (with_config (charged (length (control_fields p s.type))) c') refl
    (goes ∙ ap (λ (o : Option Selected). (select_waiting p left f o c).end) w) (leads ∙ ap (λ (o : Option Selected). (select_waiting p left f o c).leads) w) in
    ap (λ i. waiting_count i + 1) e ∙ out_of f c.inputs s w

abbrev Less : UnderWay → UnderWay → Type 0
Less c d = is_none d.selected ≡ false → waiting_count d.inputs + 1 ≡ waiting_count c.inputs

chosen_one : (p : Object) (left : Left) (c d : UnderWay) (s t : Selected) (f : InputFile) → waiting_in c.inputs Primary ≡ Some s → waiting_in c.inputs Secondary ≡ Some t →
    Continues ≡ (select_from p left (Some f) c).end → d ≡ (select_from p left (Some f) c).leads → Less c d
chosen_one p left c d s t Primary v w goes leads = λ k. from_file p left Primary s c d v goes leads
chosen_one p left c d s t Secondary v w goes leads = λ k. from_file p left Secondary t c d w goes leads

no_one : (p : Object) (left : Left) (c d : UnderWay) → c.selected ≡ None → d ≡ (select_from p left None c).leads → Less c d
no_one p left c d none leads = λ k. absurd (let e : is_none d.selected ≡ true = ap is_none (ap (λ (u : UnderWay). u.selected) leads ∙ none) in let x : true ≡ false = sym e ∙ k in cc)

alone : (p : Object) (left : Left) (f : InputFile) (s : Selected) (c d : UnderWay) (b : Bool) → c.selected ≡ None → waiting_in c.inputs f ≡ Some s →
    Continues ≡ (select_from p left (cond b None (Some f)) c).end → d ≡ (select_from p left (cond b None (Some f)) c).leads → Less c d
alone p left f s c d true none w goes leads = no_one p left c d none leads
alone p left f s c d false none w goes leads = λ k. from_file p left f s c d w goes leads

selected : (p : Object) (left : Left) (c d : UnderWay) (v w : Option Selected) → c.selected ≡ None → waiting_in c.inputs Primary ≡ v → waiting_in c.inputs Secondary ≡ w →
    Continues ≡ (select_from p left (chosen p left v w) c).end → d ≡ (select_from p left (chosen p left v w) c).leads → Less c d
selected p left c d None None none a b goes leads = no_one p left c d none leads
selected p left c d (Some s) None none a b goes leads = alone p left Primary s c d (is_after_end p.ends Secondary left.secondary (match_value p s)) none a goes leads
selected p left c d None (Some t) none a b goes leads = alone p left Secondary t c d (is_after_end p.ends Primary left.primary (match_value p t)) none b goes leads
selected p left c d (Some s) (Some t) none a b goes leads = chosen_one p left c d s t (first_of (match_value p s) (match_value p t)) a b goes leads

-- ---- phase 4

not_needed : (a b : Bool) → b ≡ false → (a && b) ≡ false
not_needed true b h = h
not_needed false b h = refl

record Shorter (c d : UnderWay) (firsts seconds firsts' seconds' : ℕ) : Type 0 where
  pub less : is_none d.selected ≡ false → waiting_count d.inputs + 1 + firsts' + seconds' ≤ waiting_count c.inputs + firsts + seconds

phase_4 : (p : Object) (earlier : List Selected) (asks n m : Bool) (rs : Records) (c d : UnderWay) (out : Output) (lit : Bool) → AreMergedInOrder p earlier c.inputs → c.selected ≡ None →
    n ≡ (asks && takes_in p c.inputs Primary) → m ≡ (asks && takes_in p c.inputs Secondary) →
    either lit (without_output (λ u. done Continues (with_config (with_all level_indicators true) u)))
    (take_in p (left_by p earlier) Primary (next_of n rs.primary) before take_in p (left_by p earlier) Secondary (next_of m rs.secondary) before select_one p (left_by p earlier)) c Continues d out →
    Shorter c d (length rs.primary) (length rs.secondary) (length (rest_where_needed n rs.primary)) (length (rest_where_needed m rs.secondary))
phase_4 p earlier asks n m rs c d out true h none en em g =
    record { less = λ k. absurd (let e : is_none d.selected ≡ true = ap is_none (ap (λ (u : UnderWay). u.selected) g.1 ∙ none) in let x : true ≡ false = sym e ∙ k in cc) }
phase_4 p earlier asks n m rs c d out false h none en em g =
    let left = left_by p earlier in
    let one = both_on (take_in p left Primary (next_of n rs.primary)) (take_in p left Secondary (next_of m rs.secondary) before select_one p left) c d out g in
    let two = both_on (take_in p left Secondary (next_of m rs.secondary)) (select_one p left) one.mid d one.more one.two in
    let x = takes p earlier Primary (next_of n rs.primary) c one.mid one.put h one.one in
    let y = takes p earlier Secondary (next_of m rs.secondary) one.mid two.mid two.put x.orderly two.one in
    let a = taken p left Primary n (takes_in p c.inputs Primary) rs.primary c one.mid one.put refl (λ k. en ∙ not_needed asks (takes_in p c.inputs Primary) k) one.one in
    let b = taken p left Secondary m (takes_in p one.mid.inputs Secondary) rs.secondary one.mid two.mid two.put refl
    (λ k. em ∙ not_needed asks (takes_in p c.inputs Secondary) (settled_still p one.mid.inputs c.inputs Secondary (sym x.other) k)) two.one in
    let s = selected p left two.mid d (waiting_in two.mid.inputs Primary) (waiting_in two.mid.inputs Secondary) (y.selected ∙ (x.selected ∙ none)) refl refl two.two.0 two.two.1 in
    let q : one_for_record (waiting_in one.mid.inputs Secondary) ≡ one_for_record (waiting_in c.inputs Secondary) = ap (λ (i : InputState). one_for_record i.waiting) x.other in
    let r : one_for_record (waiting_in two.mid.inputs Primary) ≡ one_for_record (waiting_in one.mid.inputs Primary) = ap (λ (i : InputState). one_for_record i.waiting) y.other in
    record { less = λ k. let z = s k in omega (arith, a, b, z, q, r) }

-- ---- a cycle that continues has selected a record

not_last : (b c : Bool) → Continues ≡ cond (b || c) EndOfJob Continues → c ≡ false
not_last true c h = absurd (cc)
not_last false true h = absurd (cc)
not_last false false h = refl

has_selected : (p : Object) (left : Left) (t : Inputs → Selected → Bool) (c d : UnderWay) (out : Output) → after_selection p left t c Continues d out → is_none c.selected ≡ false
has_selected p left t c d out g =
    let five = both_on (total_time p left) (end_where_last before overflow_lines p before show_match t before after_match p) c d out g in
    let six = both_on end_where_last (overflow_lines p before show_match t before after_match p) five.mid d five.more five.two in
    let k5 = at_totals p (is_bypassed p left.any left.control c.config) c five.mid five.put five.one in
    ap is_none (sym k5.selected) ∙ not_last (is_on five.mid.config last_record) (is_none five.mid.selected) six.one.0

pub shorter : (p : Object) (earlier : List Selected) (rs : Records) (c : Config) (i : Inputs) (d : UnderWay) (out : Output) → AreMergedInOrder p earlier i →
    Cycle p earlier (next_of (needs_record p c i Primary) rs.primary) (next_of (needs_record p c i Secondary) rs.secondary) (begun p c i) Continues d out →
    waiting_count d.inputs + records_count (left_following p c i rs) + 1 ≤ waiting_count i + records_count rs
shorter p earlier rs c i d out h g =
    let left = left_by p earlier in
    let t = has_match p earlier in
    let n = needs_record p c i Primary in
    let m = needs_record p c i Secondary in
    let F = from_selection p left t (next_of n rs.primary) (next_of m rs.secondary) in
    let one = both_on (detail_lines p) (halt_if_indicated before set_off p before F) (begun p c i) d out g in
    let two = both_on halt_if_indicated (set_off p before F) one.mid d one.more one.two in
    let three = both_on (set_off p) F two.mid d two.more two.two in
    let four = both_on (select_record p left (next_of n rs.primary) (next_of m rs.secondary)) (after_selection p left t) three.mid d three.more three.two in
    let k1 = by_act (Outputs p times.Detail) (begun p c i) one.mid Continues one.put one.one in
    let k2 = same one.mid two.mid two.one.1 in
    let k3 : Stays two.mid three.mid = record { inputs = ap (λ (u : UnderWay). u.inputs) three.one.1; selected = ap (λ (u : UnderWay). u.selected) three.one.1 } in
    let k = stay (begun p c i) one.mid three.mid k1 (stay one.mid two.mid three.mid k2 k3) in
    let asks = not (is_on c last_record || any_on c halt_indicators) in
    let s = phase_4 p earlier asks n m rs three.mid four.mid four.put (is_on three.mid.config last_record) (subst (λ (j : Inputs). AreMergedInOrder p earlier j) (sym k.inputs) h) k.selected
    (ap (λ (j : Inputs). asks && takes_in p j Primary) (sym k.inputs)) (ap (λ (j : Inputs). asks && takes_in p j Secondary) (sym k.inputs)) four.one in
    let last = after_4 p left t four.mid d four.more four.two in
    let few = s.less (has_selected p left t four.mid d four.more four.two) in
    let u : waiting_count d.inputs ≡ waiting_count four.mid.inputs = ap waiting_count last.inputs in
    let v : waiting_count three.mid.inputs ≡ waiting_count i = ap waiting_count k.inputs in
    omega (arith, few, u, v)

-- ---- runs

by_end : (e : PhaseEnd) (d : UnderWay) (out : Output) (Rest : UnderWay → Course → Type 0) (course : Course) (n : ℕ) →
    (e ≡ Continues → (rest : Course) → Rest d rest → rest.cycles ≤ n) → ends_or e d out Rest course → course.cycles ≤ n + 1
by_end Continues d out Rest course n f (rest, h, is) = let m = f refl rest h in omega (arith, m, ap (λ (x : Course). x.cycles) is)
by_end EndOfJob d out Rest course n f is = omega (arith, ap (λ (x : Course). x.cycles) is)
by_end (Halt k) d out Rest course n f is = omega (arith, ap (λ (x : Course). x.cycles) is)
by_end (Wrong k) d out Rest course n f is = omega (arith, ap (λ (x : Course). x.cycles) is)

pub few_cycles : (n : ℕ) (p : Object) (earlier : List Selected) (rs : Records) (c : Config) (i : Inputs) (course : Course) → AreMergedInOrder p earlier i →
    RunsIn n p earlier rs c i course → course.cycles ≤ waiting_count i + records_count rs + 1
few_cycles zero p earlier rs c i course h g = absurd g
few_cycles (suc n) p earlier rs c i course h (e, d, out, cycle, rest) =
    by_end e d out (λ d rest. RunsIn n p (with_record d.selected earlier) (left_following p c i rs) d.config d.inputs rest) course (waiting_count i + records_count rs)
    (λ on x g.
    let cycle' = subst (λ (k : PhaseEnd). Cycle p earlier (next_of (needs_record p c i Primary) rs.primary) (next_of (needs_record p c i Secondary) rs.secondary) (begun p c i) k d out) on cycle in
    let less = shorter p earlier rs c i d out h cycle' in
    let few = few_cycles n p (with_record d.selected earlier) (left_following p c i rs) d.config d.inputs x
    (keeps p earlier (next_of (needs_record p c i Primary) rs.primary) (next_of (needs_record p c i Secondary) rs.secondary) c i d out h cycle') g in
    omega (arith, few, less)) rest
