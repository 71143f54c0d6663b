-- The number of the next card is that of the first card of the next calculation.
use Rattle.std.proofs.Common.{◌≡◌, ℕ, zero, suc, ◌+◌, ◌<◌, ◌≤◌, Bool, true, false, cond, ◌&&◌, List, [], ◌∷◌, ◌++◌, map, slice_get, Option, None, Some, refl, sym, ap, ◌∙◌, subst, arith, append_assoc, append-nil}
use Rattle.std.proofs.lemmas.List.Elements.{All-cons, All-head, All-nil, All-tail}
use Rattle.std.proofs.lemmas.Option.{slice_get-map}
use Rattle.std.specs.List.{filter}
use Rattle.std.specs.Option.{option_map, option_map_or, option_to_list}
use Rattle.std.specs.Prelude.{All, is_some}
use Rattle.rpg_cards.specs.Calculations.{CalculationGroup, alone, calculation_of, calculations, calculations_from, completed, continues, group_with, joined_group, open_calculation_group, open_with}
use Rattle.rpg_cards.specs.Statements.{Calculation}
use Rattle.rpg_cards.specs.Keys.{Key, Name}
use Rattle.rpg_cards.specs.Sections.{begun_by, is_detail, is_same_name, is_subroutine, is_total, of_control, sections_of, subroutines_of, unless_begun, up_to_begin, with_begun}
use Rattle.rpg_cards.specs.Cards.{Numbered, calculation_on}
use Rattle.rpg_cards.specs.Groups.{joins}
use Rattle.rpg_cards.specs.declared.spec_card.SpecCard.{SpecCard}
use Rattle.rpg_faults_flow.proofs.Walk.{open_after-push}
use Rattle.rpg_meaning.proofs.Calculations.Named.{all_at}
use Rattle.rpg_meaning.specs.Calculations.NextCard.{BeginsOn, NumbersAreTheirs, NumbersGoUp, after_begsr, numbered_calculation, numbered_from, numbered_group, open_at, those_in, up_to_next}
use Rattle.rpg_meaning.specs.Calculations.Parts.{InDetail, InSubroutine, InTotal, Part, body_named, calculations_in}
use Rattle.rpg_sheet_specs.specs.declared.calculation.CalculationSpec.{CalculationSpec}
use Rattle.rpg_sheet_specs.specs.declared.calculation.ControlLevel.{ControlLevel}

abbrev Entry : Type 0
Entry = ℕ × Calculation Key

-- without their numbers
abbrev calculation : Entry → Calculation Key
calculation e = e.1

abbrev group : ℕ × CalculationGroup → CalculationGroup
group e = e.1

-- ---- without their numbers these are the calculations

group_same : (o : Option (ℕ × CalculationGroup)) (number : ℕ) (k : CalculationSpec) → (numbered_group o number k).1 ≡ group_with (option_map group o) k
group_same None number k = refl
group_same (Some e) number k = by (joins k.control_level)
  where
    by : (b : Bool) → group (cond b (e.0, joined_group e.1 k) (number, alone k)) ≡ cond b (joined_group e.1 k) (alone k)
    by true = refl
    by false = refl

open_same : (o : Option (ℕ × CalculationGroup)) (c : SpecCard) → option_map group (open_at o c) ≡ open_with (option_map group o) c.spec
open_same o c = by (calculation_on c.spec)
  where
    by : (x : Option CalculationSpec) → option_map group (option_map (numbered_group o c.number) x) ≡ option_map (group_with (option_map group o)) x
    by None = refl
    by (Some k) = ap Some (group_same o c.number k)

ended_same : (b : Bool) (x : Option (ℕ × CalculationGroup)) (rest : List Entry) (following : List (Calculation Key)) → map calculation rest ≡ following
    → map calculation (option_to_list (option_map numbered_calculation (cond b None x)) ++ rest) ≡ option_to_list (option_map calculation_of (cond b None (option_map group x))) ++ following
ended_same true x rest following e = e
ended_same false None rest following e = e
ended_same false (Some y) rest following e = ap (λ gs. calculation_of y.1 ∷ gs) e

all_same : (o : Option (ℕ × CalculationGroup)) (cs : List SpecCard) → map calculation (numbered_from o cs) ≡ calculations_from (option_map group o) cs []
all_same o [] = refl
all_same o (c ∷ cs) =
    ended_same (continues cs) (open_at o c) (numbered_from (open_at o c) cs) (calculations_from (option_map group (open_at o c)) cs []) (all_same (open_at o c) cs)
    ∙ (λ i. option_to_list (option_map calculation_of (cond (continues (sym (append-nil cs) i)) None (open_same o c i))) ++ calculations_from (open_same o c i) cs [])

-- ---- those of a part

filter_same : (test : ControlLevel → Bool) (es : List Entry) → map calculation (filter (λ e. test e.1.control) es) ≡ of_control test (map calculation es)
filter_same test [] = refl
filter_same test (e ∷ es) = by (test e.1.control) (filter_same test es)
  where
    by : (b : Bool) → map calculation (filter (λ e. test e.1.control) es) ≡ of_control test (map calculation es)
        → map calculation (cond b (e ∷ filter (λ e. test e.1.control) es) (filter (λ e. test e.1.control) es)) ≡ cond b (e.1 ∷ of_control test (map calculation es)) (of_control test (map calculation es))
    by true r = ap (λ gs. e.1 ∷ gs) r
    by false r = r

next_same : (es : List Entry) → map calculation (up_to_next es) ≡ up_to_begin (map calculation es)
next_same [] = refl
next_same (e ∷ es) = by (begun_by e.1.statement) (next_same es)
  where
    by : (o : Option (Option Name)) → map calculation (up_to_next es) ≡ up_to_begin (map calculation es)
        → map calculation (cond (is_some o) [] (e ∷ up_to_next es)) ≡ unless_begun o (e.1 ∷ up_to_begin (map calculation es))
    by None r = ap (λ gs. e.1 ∷ gs) r
    by (Some n) r = refl

after_same : (name : Option Name) (es : List Entry) → map calculation (after_begsr name es) ≡ body_named name (subroutines_of (map calculation es))
after_same name [] = refl
after_same name (e ∷ es) = by (begun_by e.1.statement) (after_same name es)
  where
    named : (b : Bool) → map calculation (after_begsr name es) ≡ body_named name (subroutines_of (map calculation es))
        → map calculation (cond b (up_to_next es) (after_begsr name es)) ≡ cond b (up_to_begin (map calculation es)) (body_named name (subroutines_of (map calculation es)))
    named true r = next_same es
    named false r = r

    by : (o : Option (Option Name)) → map calculation (after_begsr name es) ≡ body_named name (subroutines_of (map calculation es))
        → map calculation (cond (option_map_or (is_same_name name) o false) (up_to_next es) (after_begsr name es)) ≡ body_named name (with_begun o (up_to_begin (map calculation es)) (subroutines_of (map calculation es)))
    by None r = r
    by (Some n) r = named (is_same_name name n) r

part_same : (part : Part) (es : List Entry) → map calculation (those_in part es) ≡ calculations_in (sections_of (map calculation es)) part
part_same InDetail es = filter_same is_detail es
part_same InTotal es = filter_same is_total es
part_same (InSubroutine name) es = after_same name (filter (λ e. is_subroutine e.1.control) es) ∙ ap (λ gs. body_named name (subroutines_of gs)) (filter_same is_subroutine es)

-- ---- what holds of all holds of those of a part

module _ (P : Entry → Type 0) where
  filter_all : (test : Entry → Bool) (es : List Entry) → All P es → All P (filter test es)
  filter_all test [] h = h
  filter_all test (e ∷ es) h = by (test e) (filter_all test es (All-tail P e es h))
    where
      by : (b : Bool) → All P (filter test es) → All P (cond b (e ∷ filter test es) (filter test es))
      by true r = All-cons P e (filter test es) (All-head P e es h) r
      by false r = r

  next_all : (es : List Entry) → All P es → All P (up_to_next es)
  next_all [] h = h
  next_all (e ∷ es) h = by (is_some (begun_by e.1.statement)) (next_all es (All-tail P e es h))
    where
      by : (b : Bool) → All P (up_to_next es) → All P (cond b [] (e ∷ up_to_next es))
      by true r = All-nil P
      by false r = All-cons P e (up_to_next es) (All-head P e es h) r

  after_all : (name : Option Name) (es : List Entry) → All P es → All P (after_begsr name es)
  after_all name [] h = h
  after_all name (e ∷ es) h = by (option_map_or (is_same_name name) (begun_by e.1.statement) false) (next_all es (All-tail P e es h)) (after_all name es (All-tail P e es h))
    where
      by : (b : Bool) → All P (up_to_next es) → All P (after_begsr name es) → All P (cond b (up_to_next es) (after_begsr name es))
      by true r s = r
      by false r s = s

  part_all : (part : Part) (es : List Entry) → All P es → All P (those_in part es)
  part_all InDetail es h = filter_all (λ e. is_detail e.1.control) es h
  part_all InTotal es h = filter_all (λ e. is_total e.1.control) es h
  part_all (InSubroutine name) es h = after_all name (filter (λ e. is_subroutine e.1.control) es) (filter_all (λ e. is_subroutine e.1.control) es h)

-- ---- each begins on its card

-- the group that is open after these cards, from its first card on
pub record IsOpen (before : List SpecCard) (e : ℕ × CalculationGroup) : Type 0 where
  pub front : List SpecCard
  pub card : SpecCard
  pub further : List SpecCard
  pub first : CalculationSpec
  pub split : before ≡ front ++ card ∷ further
  pub is : calculation_on card.spec ≡ Some first
  pub begins : (joins first.control_level && is_some (open_calculation_group front)) ≡ false
  pub number : e.0 ≡ card.number
  pub whole : (rest : List SpecCard) → completed (alone first) (further ++ rest) ≡ completed e.1 rest

completed_stays : (g : CalculationGroup) (rest : List SpecCard) → continues rest ≡ false → completed g rest ≡ g
completed_stays g [] e = refl
completed_stays g (c ∷ cs) e = by (calculation_on c.spec) e
  where
    by : (o : Option CalculationSpec) → option_map_or (λ k. joins k.control_level) o false ≡ false → option_map_or (λ k. cond (joins k.control_level) (completed (joined_group g k) cs) g) o g ≡ g
    by None e = refl
    by (Some k) e = ap (λ b. cond b (completed (joined_group g k) cs) g) e

completed_joins : (g : CalculationGroup) (c : SpecCard) (k : CalculationSpec) (rest : List SpecCard) → calculation_on c.spec ≡ Some k → joins k.control_level ≡ true → completed g (c ∷ rest) ≡ completed (joined_group g k) rest
completed_joins g c k rest e j = ap (λ o. option_map_or (λ k. cond (joins k.control_level) (completed (joined_group g k) rest) g) o g) e ∙ ap (λ b. cond b (completed (joined_group g k) rest) g) j

abbrev AreKnown : List SpecCard → Option (ℕ × CalculationGroup) → Type 0
AreKnown before o = (option_map group o ≡ open_calculation_group before) × ((e : ℕ × CalculationGroup) → o ≡ Some e → IsOpen before e)

fresh : (before : List SpecCard) (c : SpecCard) (k : CalculationSpec) → calculation_on c.spec ≡ Some k → (joins k.control_level && is_some (open_calculation_group before)) ≡ false → IsOpen (before ++ c ∷ []) (c.number, alone k)
fresh before c k e b = record { front = before; card = c; further = []; first = k; split = refl; is = e; begins = b; number = refl; whole = λ rest. refl }

further : (before : List SpecCard) (c : SpecCard) (k : CalculationSpec) (e : ℕ × CalculationGroup) → calculation_on c.spec ≡ Some k → joins k.control_level ≡ true → IsOpen before e → IsOpen (before ++ c ∷ []) (e.0, joined_group e.1 k)
further before c k e is j o = record {
  front = o.front;
  card = o.card;
  further = o.further ++ c ∷ [];
  first = o.first;
  split = ap (λ cs. cs ++ c ∷ []) o.split ∙ append_assoc o.front (o.card ∷ o.further) (c ∷ []);
  is = o.is;
  begins = o.begins;
  number = o.number;
  whole = λ rest. ap (completed (alone o.first)) (append_assoc o.further (c ∷ []) rest) ∙ o.whole (c ∷ rest) ∙ completed_joins e.1 c k rest is j;
}

one_more : (before : List SpecCard) (c : SpecCard) (o : Option (ℕ × CalculationGroup)) → AreKnown before o → (k : CalculationSpec) → calculation_on c.spec ≡ Some k → IsOpen (before ++ c ∷ []) (numbered_group o c.number k)
one_more before c None known k is = fresh before c k is (ap (λ x. joins k.control_level && is_some x) (sym known.0) ∙ nothing (joins k.control_level))
  where
    nothing : (b : Bool) → (b && false) ≡ false
    nothing true = refl
    nothing false = refl
one_more before c (Some e) known k is = by (joins k.control_level) refl
  where
    by : (b : Bool) → joins k.control_level ≡ b → IsOpen (before ++ c ∷ []) (cond b (e.0, joined_group e.1 k) (c.number, alone k))
    by true j = further before c k e is j (known.1 e refl)
    by false j = fresh before c k is (ap (λ b. b && is_some (open_calculation_group before)) j)

known_more : (before : List SpecCard) (c : SpecCard) (o : Option (ℕ × CalculationGroup)) → AreKnown before o → AreKnown (before ++ c ∷ []) (open_at o c)
known_more before c o known = (open_same o c ∙ ap (λ x. open_with x c.spec) known.0 ∙ sym (open_after-push None before c), by (calculation_on c.spec) refl)
  where
    by : (x : Option CalculationSpec) → calculation_on c.spec ≡ x → (e : ℕ × CalculationGroup) → option_map (numbered_group o c.number) x ≡ Some e → IsOpen (before ++ c ∷ []) e
    by None is e h = cc
    by (Some k) is e h = let same : numbered_group o c.number k ≡ e = cc in subst (IsOpen (before ++ c ∷ [])) same (one_more before c o known k is)

module _ (cards : List SpecCard) where
  Begins : Entry → Type 0
  Begins e = BeginsOn cards e.1 (Some e.0)

  ended_begins : (before : List SpecCard) (rest : List SpecCard) → cards ≡ before ++ rest → continues rest ≡ false → (e : ℕ × CalculationGroup) → IsOpen before e → BeginsOn cards (calculation_of e.1) (Some e.0)
  ended_begins before rest s g e o = record {
    before = o.front;
    card = o.card;
    after = o.further ++ rest;
    first = o.first;
    split = s ∙ ap (λ cs. cs ++ rest) o.split ∙ append_assoc o.front (o.card ∷ o.further) rest;
    is = o.is;
    begins = o.begins;
    whole = ap calculation_of (o.whole rest ∙ completed_stays e.1 rest g);
    reported = ap Some o.number;
  }

  each_begins : (before rest : List SpecCard) (o : Option (ℕ × CalculationGroup)) → cards ≡ before ++ rest → AreKnown before o → All Begins (numbered_from o rest)
  unfolding Begins
  each_begins before [] o s known = All-nil Begins
  each_begins before (c ∷ cs) o s known =
      let split = s ∙ sym (append_assoc before (c ∷ []) cs) in
      let more = known_more before c o known in
      by (continues cs) refl (open_at o c) refl split more (each_begins (before ++ c ∷ []) cs (open_at o c) split more)
    where
      by : (b : Bool) → continues cs ≡ b → (x : Option (ℕ × CalculationGroup)) → open_at o c ≡ x → cards ≡ (before ++ c ∷ []) ++ cs → AreKnown (before ++ c ∷ []) (open_at o c) → All Begins (numbered_from (open_at o c) cs)
          → All Begins (option_to_list (option_map numbered_calculation (cond b None x)) ++ numbered_from (open_at o c) cs)
      by true g x e split more rest = rest
      by false g None e split more rest = rest
      by false g (Some y) e split more rest = All-cons Begins (numbered_calculation y) (numbered_from (open_at o c) cs) (ended_begins (before ++ c ∷ []) cs split g y (more.1 y e)) rest

  abbrev entries : List Entry
  entries = numbered_from None cards

  pub numbers_theirs : NumbersAreTheirs cards
  unfolding Begins
  numbers_theirs part n g at = by (slice_get (those_in part entries) n) refl
    where
      all : All Begins (those_in part entries)
      all = part_all Begins part entries (each_begins [] cards None refl (refl, λ e h. cc))

      same : map calculation (those_in part entries) ≡ calculations_in (sections_of (calculations cards)) part
      same = part_same part entries ∙ ap (λ gs. calculations_in (sections_of gs) part) (all_same None cards)

      found : option_map calculation (slice_get (those_in part entries) n) ≡ Some g
      found = sym (slice_get-map calculation (those_in part entries) n) ∙ ap (λ gs. slice_get gs n) same ∙ at

      by : (o : Option Entry) → slice_get (those_in part entries) n ≡ o → BeginsOn cards g (option_map (λ e. e.0) o)
      by None h = let none = sym (ap (option_map calculation) h) ∙ found in absurd cc
      by (Some e) h =
          let one = sym (ap (option_map calculation) h) ∙ found in
          let is : e.1 ≡ g = cc in
          subst (λ x. BeginsOn cards x (Some e.0)) is (all_at Begins (those_in part entries) n e all h)

-- ---- the numbers go up

-- from one that is at least so great
abbrev GoUp : ℕ → List Entry → Type 0
GoUp low [] = Unit {0}
GoUp low (e ∷ es) = (low ≤ e.0) × GoUp (e.0 + 1) es

go_lower : (low high : ℕ) (es : List Entry) → low ≤ high → GoUp high es → GoUp low es
go_lower low high [] l h = tt
go_lower low high (e ∷ es) l h = let a = h.0 in (omega arith, h.1)

filter_up : (test : Entry → Bool) (low : ℕ) (es : List Entry) → GoUp low es → GoUp low (filter test es)
filter_up test low [] h = tt
filter_up test low (e ∷ es) h = by (test e) (filter_up test (e.0 + 1) es h.1)
  where
    by : (b : Bool) → GoUp (e.0 + 1) (filter test es) → GoUp low (cond b (e ∷ filter test es) (filter test es))
    by true r = (h.0, r)
    by false r = let a = h.0 in go_lower low (e.0 + 1) (filter test es) (omega arith) r

next_up : (low : ℕ) (es : List Entry) → GoUp low es → GoUp low (up_to_next es)
next_up low [] h = tt
next_up low (e ∷ es) h = by (is_some (begun_by e.1.statement)) (next_up (e.0 + 1) es h.1)
  where
    by : (b : Bool) → GoUp (e.0 + 1) (up_to_next es) → GoUp low (cond b [] (e ∷ up_to_next es))
    by true r = tt
    by false r = (h.0, r)

following_up : (name : Option Name) (low : ℕ) (es : List Entry) → GoUp low es → GoUp low (after_begsr name es)
following_up name low [] h = tt
following_up name low (e ∷ es) h =
    let a = h.0 in
    by (option_map_or (is_same_name name) (begun_by e.1.statement) false) (go_lower low (e.0 + 1) (up_to_next es) (omega arith) (next_up (e.0 + 1) es h.1)) (go_lower low (e.0 + 1) (after_begsr name es) (omega arith) (following_up name (e.0 + 1) es h.1))
  where
    by : (b : Bool) → GoUp low (up_to_next es) → GoUp low (after_begsr name es) → GoUp low (cond b (up_to_next es) (after_begsr name es))
    by true r s = r
    by false r s = s

part_up : (part : Part) (low : ℕ) (es : List Entry) → GoUp low es → GoUp low (those_in part es)
part_up InDetail low es h = filter_up (λ e. is_detail e.1.control) low es h
part_up InTotal low es h = filter_up (λ e. is_total e.1.control) low es h
part_up (InSubroutine name) low es h = following_up name low (filter (λ e. is_subroutine e.1.control) es) (filter_up (λ e. is_subroutine e.1.control) low es h)

-- the open group began before, and where it continues no earlier than that
abbrev IsBetween : ℕ → ℕ → List SpecCard → Option (ℕ × CalculationGroup) → Type 0
IsBetween from low rest o = (e : ℕ × CalculationGroup) → o ≡ Some e → (e.0 < low) × (continues rest ≡ true → from ≤ e.0)

group_between : (from low : ℕ) (c : SpecCard) (cs : List SpecCard) (o : Option (ℕ × CalculationGroup)) (k : CalculationSpec) → from ≤ low → low ≤ c.number → calculation_on c.spec ≡ Some k → IsBetween from low (c ∷ cs) o
    → ((numbered_group o c.number k).0 < c.number + 1) × (from ≤ (numbered_group o c.number k).0)
group_between from low c cs None k f l is between = (omega arith, omega arith)
group_between from low c cs (Some e) k f l is between = by (joins k.control_level) refl
  where
    by : (b : Bool) → joins k.control_level ≡ b → (let x : ℕ × CalculationGroup = cond b (e.0, joined_group e.1 k) (c.number, alone k) in (x.0 < c.number + 1) × (from ≤ x.0))
    by true j =
        let h = between e refl in
        let a = h.0 in
        let d = h.1 (ap (λ o. option_map_or (λ (k : CalculationSpec). joins k.control_level) o false) is ∙ j) in
        (omega arith, d)
    by false j = (omega arith, omega arith)

numbered_up : (from low : ℕ) (o : Option (ℕ × CalculationGroup)) (cs : List SpecCard) → from ≤ low → Numbered low cs → IsBetween from low cs o → GoUp from (numbered_from o cs)
numbered_up from low o [] f h between = tt
numbered_up from low o (c ∷ cs) f h between =
    by (calculation_on c.spec) refl (continues cs) refl
    (λ start next. numbered_up start (c.number + 1) (open_at o c) cs next h.1)
  where
    by : (x : Option CalculationSpec) → calculation_on c.spec ≡ x → (b : Bool) → continues cs ≡ b
        → ((start : ℕ) → start ≤ c.number + 1 → IsBetween start (c.number + 1) cs (open_at o c) → GoUp start (numbered_from (open_at o c) cs))
        → GoUp from (option_to_list (option_map numbered_calculation (cond b None (option_map (numbered_group o c.number) x))) ++ numbered_from (open_at o c) cs)
    by None is true g rest = let l = h.0 in rest from (omega arith) (λ e same. let none = sym (ap (option_map (numbered_group o c.number)) is) ∙ same in absurd cc)
    by None is false g rest = let l = h.0 in rest from (omega arith) (λ e same. let none = sym (ap (option_map (numbered_group o c.number)) is) ∙ same in absurd cc)
    by (Some k) is true g rest =
        let l = h.0 in
        let range = group_between from low c cs o k f h.0 is between in
        rest from (omega arith) (λ e same.
        let one = sym (ap (option_map (numbered_group o c.number)) is) ∙ same in
        let equal : numbered_group o c.number k ≡ e = cc in
        let a = range.0 in let b = range.1 in let n = ap (λ (x : ℕ × CalculationGroup). x.0) equal in
        (omega arith, λ goes. omega arith))
    by (Some k) is false g rest =
        let l = h.0 in
        let range = group_between from low c cs o k f h.0 is between in
        let a = range.0 in (
          range.1,
          rest ((numbered_group o c.number k).0 + 1) (omega arith) (λ e same.
              let one = sym (ap (option_map (numbered_group o c.number)) is) ∙ same in
              let equal : numbered_group o c.number k ≡ e = cc in
              let n = ap (λ (x : ℕ × CalculationGroup). x.0) equal in
              (omega arith, λ goes. let no = sym g ∙ goes in absurd cc)),
        )

up_apart : (es : List Entry) (low m n a b : ℕ) → GoUp low es → m < n → option_map (λ (e : Entry). e.0) (slice_get es m) ≡ Some a → option_map (λ (e : Entry). e.0) (slice_get es n) ≡ Some b → (low ≤ a) × (a < b)
up_apart [] low m n a b h l x y = cc
up_apart (e ∷ es) low m zero a b h l x y = absurd (omega arith)
up_apart (e ∷ es) low zero (suc n) a b h l x y =
    let same : e.0 ≡ a = cc in
    let low_a = h.0 in
    let later = from_there es (e.0 + 1) n b h.1 y in
    (omega arith, omega arith)
  where
    from_there : (es : List Entry) (low n b : ℕ) → GoUp low es → option_map (λ (e : Entry). e.0) (slice_get es n) ≡ Some b → low ≤ b
    from_there [] low n b h y = cc
    from_there (f ∷ fs) low zero b h y = let same : f.0 ≡ b = cc in let l = h.0 in omega arith
    from_there (f ∷ fs) low (suc n) b h y = let l = h.0 in let r = from_there fs (f.0 + 1) n b h.1 y in omega arith
up_apart (e ∷ es) low (suc m) (suc n) a b h l x y =
    let low_e = h.0 in
    let r = up_apart es (e.0 + 1) m n a b h.1 (omega arith) x y in
    let ra = r.0 in
    (omega arith, r.1)

pub numbers_up : (cards : List SpecCard) (low : ℕ) → Numbered low cards → NumbersGoUp cards
numbers_up cards low h part m n a b l x y = (up_apart (those_in part (numbered_from None cards)) low m n a b (part_up part low (numbered_from None cards) (numbered_up low low None cards (omega arith) h (λ e s. cc))) l x y).1
